-- Pairs of literals, and the terms of solutions.
use Rattle.std.proofs.Common.{ℕ, zero, suc, ◌≡◌, ◌∙◌, ◌+◌, ◌<◌, ◌≤◌, List, [], ◌∷◌, ◌++◌, length, map, take, slice_index_or, refl, sym, ap, arith}
use Rattle.std.proofs.lemmas.List.{take_more, take_all, map-append}
use Rattle.leo_q0.specs.Terms.{SimpleType}
use Rattle.leo_terms.specs.Contents.{Contents, AreTerms, type_at}
use Rattle.leo_clause.specs.declared.clause.Lit.{Lit}
use Rattle.leo_clause.specs.declared.clause.Clause.{Clause}
use Rattle.leo_clause.specs.Trees.{literal_at}
use Rattle.leo_clause.specs.Typed.{AreLiteralsOf, AreTyped, IsTypedIn}
use Rattle.leo_unify.specs.declared.pairs.Pair.{Pair}
use Rattle.leo_unify.specs.declared.sigma.Sigma.{Sigma}
use Rattle.leo_unify.specs.Given.{AreTypedPairs}
use Rattle.leo_unify.specs.Solutions.{AreSigmasOf}
use Rattle.leo_unify.specs.Views.{ArePairsOf}
use Rattle.unify_rows.specs.Boards.{sides, HaveTerms}

pub sides-next : (ls : List Lit) (i : ℕ) (l : Lit) (out : List (ℕ × ℕ)) → out ≡ map sides (take i ls) → i < length ls → l ≡ slice_index_or ls i l → out ++ (l.left, l.right) ∷ [] ≡ map sides (take (i + 1) ls)
sides-next ls i l out h lt e =
    let t : take (i + 1) ls ≡ take i ls ++ l ∷ [] = take_more ls i l lt ∙ ap (λ z. take i ls ++ z ∷ []) (sym e) in
    rw (t, map-append sides (take i ls) (l ∷ []), h) refl

pub sides-whole : (ls : List Lit) (i : ℕ) (out : List (ℕ × ℕ)) → out ≡ map sides (take i ls) → length ls ≤ i → out ≡ map sides ls
sides-whole ls i out h l = rw (take_all i ls l) at h

typed-each : (c : Contents) (variables : List SimpleType) (ls : List Lit) → AreLiteralsOf c ls → AreTyped variables (map (literal_at c) ls) → AreTypedPairs c variables (map sides ls)
typed-each c variables [] h k = tt
typed-each c variables (l ∷ ls) h k = (record { left_within = h.0; right_within = h.1; left_over = k.0.left_over; right_over = k.0.right_over; same_type = k.0.same_type }, typed-each c variables ls h.2 k.1)

pub typed-pairs : (c : Contents) (k : Clause) → IsTypedIn c k → AreTypedPairs c (map (type_at c) k.vars) (map sides k.lits)
typed-pairs c k h = typed-each c (map (type_at c) k.vars) k.lits h.of_bank.literals_of h.typed

pub have-terms : (c : Contents) (types : List SimpleType) (ss : List Sigma) → AreSigmasOf c types ss → HaveTerms c ss
have-terms c types [] h = tt
have-terms c types (s ∷ ss) h = (h.0.terms_of, have-terms c types ss h.1)

pub sigma-at : (c : Contents) (ss : List Sigma) → HaveTerms c ss → (i : ℕ) (s : Sigma) → i < length ss → s ≡ slice_index_or ss i s → AreTerms c s.terms
sigma-at c [] h i s l e = absurd (omega arith)
sigma-at c (x ∷ ss) h zero s l e = rw e h.0
sigma-at c (x ∷ ss) h (suc i) s l e = sigma-at c ss h.1 i s (omega arith) e

pub pair-at : (c : Contents) (ps : List Pair) → ArePairsOf c ps → (i : ℕ) (p : Pair) → i < length ps → p ≡ slice_index_or ps i p → (p.left < length c.terms) × (p.right < length c.terms)
pair-at c [] h i p l e = absurd (omega arith)
pair-at c (x ∷ ps) h zero p l e = rw e (h.0, h.1)
pair-at c (x ∷ ps) h (suc i) p l e = pair-at c ps h.2 i p (omega arith) e
