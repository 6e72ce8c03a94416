-- Paramodulation and factoring.
use Rattle.std.proofs.Common.{Bool, true, false, List, [], ◌∷◌, refl}
use Rattle.leo_q0.specs.Terms.{SimpleType, Term, identity, apply, HasType, of_apply, IsFormula}
use Rattle.leo_q0.specs.Connectives.{equation}
use Rattle.leo_q0.specs.Derivations.{Derivable}
use Rattle.leo_q0.proofs.WellTyped.{HasType-equation}
use Rattle.leo_q0.proofs.Formulas.{HasType-not}
use Rattle.leo_sound.specs.Propositions.{atom, negation, implies}
use Rattle.leo_sound.proofs.Logic.{imp_of, not_of, modus_ponens}
use Rattle.leo_clause.specs.Formulas.{signed}
use Rattle.leo_simulation.proofs.Tables.{by_table}
use Rattle.leo_simulation.proofs.Disjunctions.{imp_formula, imp_then}
use Rattle.leo_simulation.proofs.Congruence.{Swaps, here, in_function, in_argument, swapped_follows, turned_follows, joined_follows, HasType-Swaps}
use Rattle.leo_simulation.proofs.Occurrences.{signed_swaps}

module _ {H : List Term} where
  -- a literal k implies d, where it becomes l by two equations, and l and the negations of these imply d
  pub by_two_equations : {e f k m l d : Term} → IsFormula e → IsFormula f → IsFormula k → IsFormula m → IsFormula l → IsFormula d →
      Derivable H (imp_of e (imp_of k m)) → Derivable H (imp_of f (imp_of m l)) → Derivable H (imp_of l d) → Derivable H (imp_of (not_of e) d) → Derivable H (imp_of (not_of f) d) →
      Derivable H (imp_of k d)
  by_two_equations {e} {f} {k} {m} {l} {d} he hf hk hm hl hd a b c n o =
      let p1 = imp_formula he (imp_formula hk hm) in
      let p2 = imp_formula hf (imp_formula hm hl) in
      let p3 = imp_formula hl hd in
      let p4 = imp_formula (of_apply HasType-not he) hd in
      let p5 = imp_formula (of_apply HasType-not hf) hd in
      let goal = imp_formula hk hd in
      let whole : Derivable H (imp_of (imp_of e (imp_of k m)) (imp_of (imp_of f (imp_of m l)) (imp_of (imp_of l d) (imp_of (imp_of (not_of e) d) (imp_of (imp_of (not_of f) d) (imp_of k d)))))) =
      by_table 6 (e ∷ f ∷ k ∷ m ∷ l ∷ d ∷ [])
      (implies (implies (atom 0) (implies (atom 2) (atom 3))) (implies (implies (atom 1) (implies (atom 3) (atom 4))) (implies (implies (atom 4) (atom 5))
      (implies (implies (negation (atom 0)) (atom 5)) (implies (implies (negation (atom 1)) (atom 5)) (implies (atom 2) (atom 5)))))))
      (he, (hf, (hk, (hm, (hl, (hd, tt)))))) refl refl in
      modus_ponens p5 goal (modus_ponens p4 (imp_formula p5 goal) (modus_ponens p3 (imp_formula p4 (imp_formula p5 goal))
      (modus_ponens p2 (imp_formula p3 (imp_formula p4 (imp_formula p5 goal))) (modus_ponens p1 (imp_formula p2 (imp_formula p3 (imp_formula p4 (imp_formula p5 goal)))) whole a) b) c) n) o

  -- factoring: the second literal implies the first one, or that their sides differ
  pub factor_implies : (b : Bool) {a : SimpleType} {s t s' t' d : Term} → HasType s a → HasType t a → HasType s' a → HasType t' a → IsFormula d →
      Derivable H (imp_of (signed b (equation a s t)) d) → Derivable H (imp_of (not_of (equation a s s')) d) → Derivable H (imp_of (not_of (equation a t t')) d) →
      Derivable H (imp_of (signed b (equation a s' t')) d)
  factor_implies b {a} {s} {t} {s'} {t'} {d} hs ht hs' ht' hd l e f =
      let formula : (x y : Term) → HasType x a → HasType y a → IsFormula (signed b (equation a x y)) = λ x y hx hy. signed_is b (HasType-equation hx hy) in
      let one : Derivable H (imp_of (equation a s' s) (imp_of (signed b (equation a s' t')) (signed b (equation a s t')))) =
      swapped_follows (signed_swaps b (in_function t' (in_argument (identity a) here))) hs' hs (formula s' t' hs' ht') in
      let two : Derivable H (imp_of (equation a t' t) (imp_of (signed b (equation a s t')) (signed b (equation a s t)))) =
      swapped_follows (signed_swaps b (in_argument (apply (identity a) s) here)) ht' ht (formula s t' hs ht') in
      by_two_equations (HasType-equation hs hs') (HasType-equation ht ht') (formula s' t' hs' ht') (formula s t' hs ht') (formula s t hs ht) hd
      (imp_then (HasType-equation hs hs') (HasType-equation hs' hs) (imp_formula (formula s' t' hs' ht') (formula s t' hs ht')) (turned_follows hs hs') one)
      (imp_then (HasType-equation ht ht') (HasType-equation ht' ht) (imp_formula (formula s t' hs ht') (formula s t hs ht)) (turned_follows ht ht') two) l e f
    where
      signed_is : (b : Bool) {x : Term} → IsFormula x → IsFormula (signed b x)
      signed_is true h = h
      signed_is false h = of_apply HasType-not h

  -- with an equation l = r: the literal q implies d, where q with r in the place of t does, and l ≠ t
  pub para_implies : {a : SimpleType} {l r t q q' d : Term} → HasType l a → HasType r a → HasType t a → IsFormula q → IsFormula d → Swaps t r q q' →
      Derivable H (imp_of q' d) → Derivable H (imp_of (not_of (equation a l t)) d) → Derivable H (imp_of q (imp_of (equation a l r) d))
  para_implies {a} {l} {r} {t} {q} {q'} {d} hl hr ht hq hd swaps c n =
      let hp = HasType-equation hl hr in
      let he = HasType-equation hl ht in
      let hx = HasType-equation ht hr in
      let hq' = HasType-Swaps swaps ht hr hq in
      let joined : Derivable H (imp_of (equation a l t) (imp_of (equation a l r) (equation a t r))) = joined_follows hl ht hr in
      let swapped : Derivable H (imp_of (equation a t r) (imp_of q q')) = swapped_follows swaps ht hr hq in
      let p1 = imp_formula he (imp_formula hp hx) in
      let p2 = imp_formula hx (imp_formula hq hq') in
      let p3 = imp_formula hq' hd in
      let p4 = imp_formula (of_apply HasType-not he) hd in
      let goal = imp_formula hq (imp_formula hp hd) in
      let whole : Derivable H (imp_of (imp_of (equation a l t) (imp_of (equation a l r) (equation a t r))) (imp_of (imp_of (equation a t r) (imp_of q q')) (imp_of (imp_of q' d)
      (imp_of (imp_of (not_of (equation a l t)) d) (imp_of q (imp_of (equation a l r) d)))))) =
      by_table 6 (equation a l t ∷ equation a l r ∷ equation a t r ∷ q ∷ q' ∷ d ∷ [])
      (implies (implies (atom 0) (implies (atom 1) (atom 2))) (implies (implies (atom 2) (implies (atom 3) (atom 4))) (implies (implies (atom 4) (atom 5))
      (implies (implies (negation (atom 0)) (atom 5)) (implies (atom 3) (implies (atom 1) (atom 5)))))))
      (he, (hp, (hx, (hq, (hq', (hd, tt)))))) refl refl in
      modus_ponens p4 goal (modus_ponens p3 (imp_formula p4 goal) (modus_ponens p2 (imp_formula p3 (imp_formula p4 goal))
      (modus_ponens p1 (imp_formula p2 (imp_formula p3 (imp_formula p4 goal))) whole joined) swapped) c) n
