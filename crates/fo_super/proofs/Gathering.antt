-- Variables and nodes, gathered term by term.
use Rattle.std.proofs.Common.{ℕ, ◌≡◌, ◌∙◌, ◌+◌, ◌<◌, Bool, List, [], ◌∷◌, ◌++◌, length, take, slice_index_or, append_assoc, refl, sym, ap, subst}
use Rattle.std.specs.Prelude.{IsTrue, ◌↔◌}
use Rattle.std.specs.Bool.{Decides}
use Rattle.std.specs.List.{flat_map, fold}
use Rattle.std.proofs.lemmas.List.{append-nil, take_more}
use Rattle.std.proofs.lemmas.List.Concat.{flat_map-append}
use Rattle.fo_terms.specs.declared.term.FoNode.{FoNode}
use Rattle.fo_terms.specs.Terms.{Term, Terms, variable, symbol, none, more}
use Rattle.fo_terms.specs.Prefix.{prefix, prefix_of_all, terms_of}
use Rattle.fo_terms.specs.Reading.{joined, terms_of-prefix_of_all}
use Rattle.fo_text.specs.declared.problem.FoSym.{FoSym}
use Rattle.fo_text.specs.declared.problem.FoLit.{FoLit}
use Rattle.fo_text.specs.Problems.{HaveSorts}
use Rattle.fo_replay.specs.Parts.{Fill}
use Rattle.fo_replay.specs.Instances.{as_terms}
use Rattle.fo_replay.proofs.SortsOfNodes.{fill_terms, terms_fill}
use Rattle.fo_super.specs.Numbering.{variables, variables_of_all, literal_variables, clause_variables, node_variables, with_name}
use Rattle.fo_super.proofs.Naming.{fold-both}

-- the variables of nodes
mutual
  node-variables : (t : Term) → flat_map node_variables (prefix t) ≡ variables t
  node-variables (variable v) = refl
  node-variables (symbol f ts) = all-node-variables ts

  all-node-variables : (ts : Terms) → flat_map node_variables (prefix_of_all ts) ≡ variables_of_all ts
  all-node-variables none = refl
  all-node-variables (more t ts) =
      flat_map-append node_variables (prefix t) (prefix_of_all ts) ∙ ap (λ (xs : List ℕ). xs ++ flat_map node_variables (prefix_of_all ts)) (node-variables t) ∙ ap (λ (xs : List ℕ). variables t ++ xs) (all-node-variables ts)

-- one item more
taken-next : {X : Type 0} (xs : List X) (i : ℕ) (x : X) → i < length xs → x ≡ slice_index_or xs i x → take (i + 1) xs ≡ take i xs ++ x ∷ []
taken-next xs i x l e = take_more xs i x l ∙ ap (λ y. take i xs ++ y ∷ []) (sym e)

pub literal-named : (old inv one two : List ℕ) (ls : List FoLit) (i : ℕ) (l : FoLit) (left right : List FoNode) → i < length ls → l ≡ slice_index_or ls i l → inv ≡ fold with_name old (clause_variables (take i ls)) →
    left ≡ prefix l.left → right ≡ prefix l.right → one ≡ fold with_name inv (flat_map node_variables left) → two ≡ fold with_name one (flat_map node_variables right) → two ≡ fold with_name old (clause_variables (take (i + 1) ls))
literal-named old inv one two ls i l left right m e h p q f g =
    let a : flat_map node_variables left ≡ variables l.left = ap (flat_map node_variables) p ∙ node-variables l.left in
    let b : flat_map node_variables right ≡ variables l.right = ap (flat_map node_variables) q ∙ node-variables l.right in
    let c : clause_variables (take (i + 1) ls) ≡ clause_variables (take i ls) ++ literal_variables l
    = ap clause_variables (taken-next ls i l m e) ∙ flat_map-append literal_variables (take i ls) (l ∷ []) ∙ ap (λ (xs : List ℕ). clause_variables (take i ls) ++ xs) (append-nil (literal_variables l)) in
    g ∙ ap (fold with_name one) b ∙ ap (λ (xs : List ℕ). fold with_name xs (variables l.right)) (f ∙ ap (fold with_name inv) a)
    ∙ sym (fold-both inv (variables l.left) (variables l.right)) ∙ ap (λ (xs : List ℕ). fold with_name xs (literal_variables l)) h
    ∙ sym (fold-both old (clause_variables (take i ls)) (literal_variables l)) ∙ ap (fold with_name old) (sym c)

terms-last : (xs : List Term) (t : Term) → variables_of_all (as_terms (xs ++ t ∷ [])) ≡ variables_of_all (as_terms xs) ++ variables t
terms-last [] t = append-nil (variables t)
terms-last (x ∷ xs) t = ap (λ (ys : List ℕ). variables x ++ ys) (terms-last xs t) ∙ sym (append_assoc (variables x) (variables_of_all (as_terms xs)) (variables t))

pub term-named : (old inv two : List ℕ) (ts : List Term) (i : ℕ) (t : Term) (nodes : List FoNode) → i < length ts → t ≡ slice_index_or ts i t → inv ≡ fold with_name old (variables_of_all (as_terms (take i ts))) →
    nodes ≡ prefix t → two ≡ fold with_name inv (flat_map node_variables nodes) → two ≡ fold with_name old (variables_of_all (as_terms (take (i + 1) ts)))
term-named old inv two ts i t nodes m e h p g =
    let a : flat_map node_variables nodes ≡ variables t = ap (flat_map node_variables) p ∙ node-variables t in
    let c : variables_of_all (as_terms (take (i + 1) ts)) ≡ variables_of_all (as_terms (take i ts)) ++ variables t = ap (λ (xs : List Term). variables_of_all (as_terms xs)) (taken-next ts i t m e) ∙ terms-last (take i ts) t in
    g ∙ ap (fold with_name inv) a ∙ ap (λ (xs : List ℕ). fold with_name xs (variables t)) h ∙ sym (fold-both old (variables_of_all (as_terms (take i ts))) (variables t)) ∙ ap (fold with_name old) (sym c)

nodes-last : (xs : List Term) (t : Term) → prefix_of_all (as_terms (xs ++ t ∷ [])) ≡ prefix_of_all (as_terms xs) ++ prefix t
nodes-last [] t = append-nil (prefix t)
nodes-last (x ∷ xs) t = ap (λ (ys : List FoNode). prefix x ++ ys) (nodes-last xs t) ∙ sym (append_assoc (prefix x) (prefix_of_all (as_terms xs)) (prefix t))

pub nodes-gathered : (ts : List Term) (i : ℕ) (t : Term) (old new nodes : List FoNode) → i < length ts → t ≡ slice_index_or ts i t → old ≡ prefix_of_all (as_terms (take i ts)) → nodes ≡ prefix t → new ≡ old ++ nodes → new ≡ prefix_of_all (as_terms (take (i + 1) ts))
nodes-gathered ts i t old new nodes m e h p g =
    g ∙ ap (λ (xs : List FoNode). xs ++ nodes) h ∙ ap (λ (xs : List FoNode). prefix_of_all (as_terms (take i ts)) ++ xs) p ∙ sym (nodes-last (take i ts) t) ∙ ap (λ (xs : List Term). prefix_of_all (as_terms xs)) (sym (taken-next ts i t m e))

-- nodes that fill sorts are those of terms that have them
joined-none : (ts : Terms) → joined ts none ≡ ts
joined-none none = refl
joined-none (more t ts) = ap (more t) (joined-none ts)

reads-all : (ts : Terms) → terms_of (prefix_of_all ts) ≡ ts
reads-all ts = ap terms_of (sym (append-nil (prefix_of_all ts))) ∙ terms_of-prefix_of_all ts [] ∙ joined-none ts

pub fill-decides : (vars : List ℕ) (syms : List FoSym) (sorts : List ℕ) (ts : Terms) (nodes : List FoNode) (r : Bool) → nodes ≡ prefix_of_all ts → IsTrue r ↔ Fill vars syms sorts nodes → Decides r (HaveSorts vars syms ts sorts)
fill-decides vars syms sorts ts nodes r e h = (
  λ t.
      (let f = fill_terms vars syms sorts nodes (h.0 t) in
      let s : f.0 ≡ ts = sym (reads-all f.0) ∙ ap terms_of (f.1 ∙ e) ∙ reads-all ts in
      subst (λ x. HaveSorts vars syms x sorts) s f.2),
  λ k. h.1 (subst (Fill vars syms sorts) (sym e) (terms_fill vars syms sorts ts k)),
)
