-- Terms as the lists of their nodes in prefix order: a term before its arguments, from left to right.
use Rattle.std.specs.Prelude.{◌≡◌, List, [], ◌∷◌, ◌++◌}
use Rattle.fo_terms.specs.declared.term.FoNode.{FoNode}
use Rattle.fo_terms.specs.declared.term.FoNode.TheVariants.{Var, Sym}
use Rattle.fo_terms.specs.Terms.{Term, Terms, variable, symbol, none, more, count, first_terms, terms_after, first_term}

abbrev mutual
  pub prefix : Term → List FoNode
  prefix (variable v) = Var v ∷ []
  prefix (symbol f ts) = Sym f (count ts) ∷ prefix_of_all ts

  pub prefix_of_all : Terms → List FoNode
  prefix_of_all none = []
  prefix_of_all (more t ts) = prefix t ++ prefix_of_all ts

-- a node before the terms that stand after it
abbrev pub with_node : FoNode → Terms → Terms
with_node (Var v) ts = more (variable v) ts
with_node (Sym f n) ts = more (symbol f (first_terms n ts)) (terms_after n ts)

-- the terms that a list of nodes reads as, one after the other
abbrev pub terms_of : List FoNode → Terms
terms_of [] = none
terms_of (n ∷ ns) = with_node n (terms_of ns)

-- the term that a list of nodes reads as
abbrev pub term_of : List FoNode → Term
term_of ns = first_term (terms_of ns)

-- the list is that of a term
abbrev pub IsPrefix : List FoNode → Type 0
IsPrefix ns = prefix (term_of ns) ≡ ns
