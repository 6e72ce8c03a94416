-- The list of a term's nodes reads as that term: no two terms have one list.
use Rattle.std.specs.Prelude.{◌≡◌, List, [], ◌++◌, refl}
use Rattle.std.proofs.Common.{append_assoc, ap}
use Rattle.std.proofs.lemmas.List.{append-nil}
use Rattle.fo_terms.specs.declared.term.FoNode.{FoNode}
use Rattle.fo_terms.specs.Terms.{Term, Terms, variable, symbol, none, more, count, first_terms, terms_after, first_term}
use Rattle.fo_terms.specs.Prefix.{prefix, prefix_of_all, terms_of, term_of}

-- one list of terms behind another
abbrev pub joined : Terms → Terms → Terms
joined none us = us
joined (more t ts) us = more t (joined ts us)

pub first_terms-joined : (ts us : Terms) → first_terms (count ts) (joined ts us) ≡ ts
first_terms-joined none us = refl
first_terms-joined (more t ts) us = ap (more t) (first_terms-joined ts us)

pub terms_after-joined : (ts us : Terms) → terms_after (count ts) (joined ts us) ≡ us
terms_after-joined none us = refl
terms_after-joined (more t ts) us = terms_after-joined ts us

mutual
  pub terms_of-prefix : (t : Term) (ns : List FoNode) → terms_of (prefix t ++ ns) ≡ more t (terms_of ns)
  terms_of-prefix (variable v) ns = refl
  terms_of-prefix (symbol f ts) ns = rw (terms_of-prefix_of_all ts ns, first_terms-joined, terms_after-joined) refl

  pub terms_of-prefix_of_all : (ts : Terms) (ns : List FoNode) → terms_of (prefix_of_all ts ++ ns) ≡ joined ts (terms_of ns)
  terms_of-prefix_of_all none ns = refl
  terms_of-prefix_of_all (more t ts) ns = rw (append_assoc, terms_of-prefix t (prefix_of_all ts ++ ns), terms_of-prefix_of_all ts ns) refl

pub term_of-prefix : (t : Term) → term_of (prefix t) ≡ t
term_of-prefix t =
    let read : terms_of (prefix t ++ []) ≡ more t none = terms_of-prefix t [] in
    let same : prefix t ++ [] ≡ prefix t = append-nil (prefix t) in
    ap first_term (rw same at read)
