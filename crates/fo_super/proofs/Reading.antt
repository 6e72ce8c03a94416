-- Nodes that read as a term, and how many there are.
use Rattle.std.proofs.Common.{◌≡◌, ◌∙◌, ◌<◌, ◌≤◌, suc, List, length, length-append, sym, ap, arith}
use Rattle.fo_terms.specs.declared.term.FoNode.{FoNode}
use Rattle.fo_terms.specs.Terms.{Term, Terms, variable, symbol, none, more}
use Rattle.fo_terms.specs.Prefix.{prefix, prefix_of_all, term_of, IsPrefix}
use Rattle.fo_terms.specs.Reading.{term_of-prefix}
use Rattle.fo_terms.specs.Substitutions.{Substitution, apply, apply_to_all}
use Rattle.fo_replay.proofs.Nodes.{nodes_some}

pub front-read : (ns : List FoNode) (t : Term) → ns ≡ prefix t → term_of ns ≡ t
front-read ns t e = ap term_of e ∙ term_of-prefix t

pub front-prefix : (ns : List FoNode) (t : Term) → ns ≡ prefix t → IsPrefix ns
front-prefix ns t e = ap prefix (front-read ns t e) ∙ sym e

-- a substitution makes no term shorter
mutual
  pub grows : (s : Substitution) (t : Term) → length (prefix t) ≤ length (prefix (apply s t))
  grows s (variable v) =
      let n = nodes_some (s v) in
      let l : length (prefix (s v)) ≡ suc (length n.1) = ap length n.2 in
      omega arith
  grows s (symbol f ts) = let h = all-grow s ts in omega arith

  all-grow : (s : Substitution) (ts : Terms) → length (prefix_of_all ts) ≤ length (prefix_of_all (apply_to_all s ts))
  all-grow s none = omega arith
  all-grow s (more t ts) =
      let h = grows s t in
      let k = all-grow s ts in
      let a = length-append (prefix t) (prefix_of_all ts) in
      let b = length-append (prefix (apply s t)) (prefix_of_all (apply_to_all s ts)) in
      omega arith

pub too-long : (s : Substitution) (p t : Term) → length (prefix t) < length (prefix p) → apply s p ≡ t → ⊥
too-long s p t l e =
    let h = grows s p in
    let k : length (prefix (apply s p)) ≡ length (prefix t) = ap (λ x. length (prefix x)) e in
    omega arith
