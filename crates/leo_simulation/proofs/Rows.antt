-- Each row of the table on truth values: the literal implies those that it becomes.
use Rattle.std.proofs.Common.{◌≡◌, ℕ, true, false, List, [], ◌∷◌, refl, subst}
use Rattle.leo_q0.specs.Terms.{SimpleType, truth, Term, HasType, of_variable, of_apply, IsFormula}
use Rattle.leo_q0.specs.Connectives.{equation, true_term, false_term}
use Rattle.leo_q0.specs.Derivations.{Derivable}
use Rattle.leo_q0.proofs.WellTyped.{HasType-equation}
use Rattle.leo_q0.proofs.Formulas.{HasType-true, HasType-false, HasType-all, HasType-some, HasType-not}
use Rattle.leo_sound.specs.Propositions.{atom, truth_value, negation, both, either, implies, equals}
use Rattle.leo_sound.proofs.Logic.{imp_of, not_of, modus_ponens}
use Rattle.leo_sound.proofs.Quantifiers.{all_imp, not_some_imp}
use Rattle.leo_sound.proofs.Tautologies.{AreFormulas}
use Rattle.leo_terms.specs.Tree.{Tree, type_of, truth_type}
use Rattle.leo_terms.specs.Typing.{IsWellTyped}
use Rattle.leo_terms.specs.Decode.{named, decoded}
use Rattle.leo_terms.proofs.CallerLemmas.{decoded_typed}
use Rattle.leo_clause.specs.Trees.{Literal}
use Rattle.leo_clause.specs.declared.record.LogicKind.{LogicKind}
use Rattle.leo_kernel.specs.Rows.{TakesApart, not_v, or_t, or_f1, or_f2, and_t1, and_t2, and_f, imp_t, imp_f1, imp_f2, eq_t, eq_f, flip, all_t, some_f}
use Rattle.leo_simulation.proofs.Tables.{by_table}
use Rattle.leo_simulation.proofs.Disjunctions.{imp_formula}
use Rattle.leo_simulation.proofs.Sayings.{literal_said, clause_said, IsFine}

pub formula_decoded : (n : ℕ) (a : Tree) → IsWellTyped a → type_of a ≡ truth_type → IsFormula (decoded n a)
formula_decoded n a w e = subst (HasType (decoded n a)) e (decoded_typed a n w)

module _ {H : List Term} where
  -- an implication carries over to `= T`, and one of negations to `= F`
  pub true_values : {s t : Term} → IsFormula s → IsFormula t → Derivable H (imp_of s t) → Derivable H (imp_of (equation truth s true_term) (equation truth t true_term))
  true_values {s} {t} hs ht d =
      let whole : Derivable H (imp_of (imp_of s t) (imp_of (equation truth s true_term) (equation truth t true_term))) =
      by_table 2 (s ∷ t ∷ []) (implies (implies (atom 0) (atom 1)) (implies (equals (atom 0) (truth_value true)) (equals (atom 1) (truth_value true)))) (hs, (ht, tt)) refl refl in
      modus_ponens (imp_formula hs ht) (imp_formula (HasType-equation hs HasType-true) (HasType-equation ht HasType-true)) whole d

  pub false_values : {s t : Term} → IsFormula s → IsFormula t → Derivable H (imp_of (not_of s) (not_of t)) → Derivable H (imp_of (equation truth s false_term) (equation truth t false_term))
  false_values {s} {t} hs ht d =
      let whole : Derivable H (imp_of (imp_of (not_of s) (not_of t)) (imp_of (equation truth s false_term) (equation truth t false_term))) =
      by_table 2 (s ∷ t ∷ []) (implies (implies (negation (atom 0)) (negation (atom 1))) (implies (equals (atom 0) (truth_value false)) (equals (atom 1) (truth_value false)))) (hs, (ht, tt)) refl refl in
      modus_ponens (imp_formula (of_apply HasType-not hs) (of_apply HasType-not ht)) (imp_formula (HasType-equation hs HasType-false) (HasType-equation ht HasType-false)) whole d

  module _ (n next : ℕ) where
    pub row_implies : {variables : List SimpleType} {kind : LogicKind} {l : Literal} {fresh : List SimpleType} {new : List Literal} →
        TakesApart next kind l fresh new → IsFine variables l → Derivable H (imp_of (literal_said n l) (clause_said n new))
    row_implies (not_v a true) h =
        let ta = h.left_typed.2.0.1 in
        let ha = formula_decoded n a h.left_typed.0 ta in
        rw ta (by_table 1 (decoded n a ∷ []) (implies (equals (negation (atom 0)) (truth_value true)) (equals (atom 0) (truth_value false))) (ha, tt) refl refl)
    row_implies (not_v a false) h =
        let ta = h.left_typed.2.0.1 in
        let ha = formula_decoded n a h.left_typed.0 ta in
        rw ta (by_table 1 (decoded n a ∷ []) (implies (equals (negation (atom 0)) (truth_value false)) (equals (atom 0) (truth_value true))) (ha, tt) refl refl)
    row_implies (or_t a b) h =
        let ta = h.left_typed.2.0.1 in
        let tb = h.left_typed.2.1.1 in
        let fs : AreFormulas (decoded n a ∷ decoded n b ∷ []) = (formula_decoded n a h.left_typed.0 ta, (formula_decoded n b h.left_typed.1 tb, tt)) in
        rw (ta, tb) (by_table 2 (decoded n a ∷ decoded n b ∷ []) (implies (equals (either (atom 0) (atom 1)) (truth_value true)) (either (equals (atom 0) (truth_value true)) (equals (atom 1) (truth_value true)))) fs refl refl)
    row_implies (or_f1 a b) h =
        let ta = h.left_typed.2.0.1 in
        let tb = h.left_typed.2.1.1 in
        let fs : AreFormulas (decoded n a ∷ decoded n b ∷ []) = (formula_decoded n a h.left_typed.0 ta, (formula_decoded n b h.left_typed.1 tb, tt)) in
        rw ta (by_table 2 (decoded n a ∷ decoded n b ∷ []) (implies (equals (either (atom 0) (atom 1)) (truth_value false)) (equals (atom 0) (truth_value false))) fs refl refl)
    row_implies (or_f2 a b) h =
        let ta = h.left_typed.2.0.1 in
        let tb = h.left_typed.2.1.1 in
        let fs : AreFormulas (decoded n a ∷ decoded n b ∷ []) = (formula_decoded n a h.left_typed.0 ta, (formula_decoded n b h.left_typed.1 tb, tt)) in
        rw tb (by_table 2 (decoded n a ∷ decoded n b ∷ []) (implies (equals (either (atom 0) (atom 1)) (truth_value false)) (equals (atom 1) (truth_value false))) fs refl refl)
    row_implies (and_t1 a b) h =
        let ta = h.left_typed.2.0.1 in
        let tb = h.left_typed.2.1.1 in
        let fs : AreFormulas (decoded n a ∷ decoded n b ∷ []) = (formula_decoded n a h.left_typed.0 ta, (formula_decoded n b h.left_typed.1 tb, tt)) in
        rw ta (by_table 2 (decoded n a ∷ decoded n b ∷ []) (implies (equals (both (atom 0) (atom 1)) (truth_value true)) (equals (atom 0) (truth_value true))) fs refl refl)
    row_implies (and_t2 a b) h =
        let ta = h.left_typed.2.0.1 in
        let tb = h.left_typed.2.1.1 in
        let fs : AreFormulas (decoded n a ∷ decoded n b ∷ []) = (formula_decoded n a h.left_typed.0 ta, (formula_decoded n b h.left_typed.1 tb, tt)) in
        rw tb (by_table 2 (decoded n a ∷ decoded n b ∷ []) (implies (equals (both (atom 0) (atom 1)) (truth_value true)) (equals (atom 1) (truth_value true))) fs refl refl)
    row_implies (and_f a b) h =
        let ta = h.left_typed.2.0.1 in
        let tb = h.left_typed.2.1.1 in
        let fs : AreFormulas (decoded n a ∷ decoded n b ∷ []) = (formula_decoded n a h.left_typed.0 ta, (formula_decoded n b h.left_typed.1 tb, tt)) in
        rw (ta, tb) (by_table 2 (decoded n a ∷ decoded n b ∷ []) (implies (equals (both (atom 0) (atom 1)) (truth_value false)) (either (equals (atom 0) (truth_value false)) (equals (atom 1) (truth_value false)))) fs refl refl)
    row_implies (imp_t a b) h =
        let ta = h.left_typed.2.0.1 in
        let tb = h.left_typed.2.1.1 in
        let fs : AreFormulas (decoded n a ∷ decoded n b ∷ []) = (formula_decoded n a h.left_typed.0 ta, (formula_decoded n b h.left_typed.1 tb, tt)) in
        rw (ta, tb) (by_table 2 (decoded n a ∷ decoded n b ∷ []) (implies (equals (implies (atom 0) (atom 1)) (truth_value true)) (either (equals (atom 0) (truth_value false)) (equals (atom 1) (truth_value true)))) fs refl refl)
    row_implies (imp_f1 a b) h =
        let ta = h.left_typed.2.0.1 in
        let tb = h.left_typed.2.1.1 in
        let fs : AreFormulas (decoded n a ∷ decoded n b ∷ []) = (formula_decoded n a h.left_typed.0 ta, (formula_decoded n b h.left_typed.1 tb, tt)) in
        rw ta (by_table 2 (decoded n a ∷ decoded n b ∷ []) (implies (equals (implies (atom 0) (atom 1)) (truth_value false)) (equals (atom 0) (truth_value true))) fs refl refl)
    row_implies (imp_f2 a b) h =
        let ta = h.left_typed.2.0.1 in
        let tb = h.left_typed.2.1.1 in
        let fs : AreFormulas (decoded n a ∷ decoded n b ∷ []) = (formula_decoded n a h.left_typed.0 ta, (formula_decoded n b h.left_typed.1 tb, tt)) in
        rw tb (by_table 2 (decoded n a ∷ decoded n b ∷ []) (implies (equals (implies (atom 0) (atom 1)) (truth_value false)) (equals (atom 1) (truth_value false))) fs refl refl)
    row_implies (eq_t c s t) h =
        let ts = h.left_typed.2.0.1 in
        let tt' = h.left_typed.2.1.1 in
        let he = HasType-equation (subst (HasType (decoded n s)) ts (decoded_typed s n h.left_typed.0)) (subst (HasType (decoded n t)) tt' (decoded_typed t n h.left_typed.1)) in
        rw ts (by_table 1 (equation c (decoded n s) (decoded n t) ∷ []) (implies (equals (atom 0) (truth_value true)) (atom 0)) (he, tt) refl refl)
    row_implies (eq_f c s t) h =
        let ts = h.left_typed.2.0.1 in
        let tt' = h.left_typed.2.1.1 in
        let he = HasType-equation (subst (HasType (decoded n s)) ts (decoded_typed s n h.left_typed.0)) (subst (HasType (decoded n t)) tt' (decoded_typed t n h.left_typed.1)) in
        rw ts (by_table 1 (equation c (decoded n s) (decoded n t) ∷ []) (implies (equals (atom 0) (truth_value false)) (negation (atom 0))) (he, tt) refl refl)
    row_implies (flip a true) h =
        let ta = h.typed.same_type in
        let ha = formula_decoded n a h.left_typed ta in
        rw ta (by_table 1 (decoded n a ∷ []) (implies (negation (equals (atom 0) (truth_value true))) (equals (atom 0) (truth_value false))) (ha, tt) refl refl)
    row_implies (flip a false) h =
        let ta = h.typed.same_type in
        let ha = formula_decoded n a h.left_typed ta in
        rw ta (by_table 1 (decoded n a ∷ []) (implies (negation (equals (atom 0) (truth_value false))) (equals (atom 0) (truth_value true))) (ha, tt) refl refl)
    row_implies (all_t c p) h =
        let tp = h.left_typed.2.0.1 in
        let hp = subst (HasType (decoded n p)) tp (decoded_typed p n h.left_typed.0) in
        let x = of_variable (named next c) in
        rw tp (true_values (of_apply (HasType-all c) hp) (of_apply hp x) (all_imp hp x))
    row_implies (some_f c p) h =
        let tp = h.left_typed.2.0.1 in
        let hp = subst (HasType (decoded n p)) tp (decoded_typed p n h.left_typed.0) in
        let x = of_variable (named next c) in
        rw tp (false_values (of_apply (HasType-some c) hp) (of_apply hp x) (not_some_imp hp x))
