-- Rules that change one literal, or all of them side by side.
use Rattle.std.proofs.Common.{◌≡◌, ℕ, Bool, true, false, List, [], ◌∷◌, refl, sym, ◌∙◌}
use Rattle.leo_q0.specs.Terms.{SimpleType, arrow, Term, apply, HasType, of_apply, IsFormula}
use Rattle.leo_q0.specs.Connectives.{equation}
use Rattle.leo_q0.specs.Derivations.{Derivable}
use Rattle.leo_q0.proofs.WellTyped.{HasType-equation}
use Rattle.leo_q0.proofs.Formulas.{HasType-false, HasType-not}
use Rattle.leo_q0.proofs.Equations.{same}
use Rattle.leo_sound.specs.Propositions.{atom, truth_value, negation, either, implies, equals}
use Rattle.leo_sound.proofs.Logic.{imp_of, or_of, not_of, modus_ponens, values_agree}
use Rattle.leo_sound.proofs.Quantifiers.{functions_agree}
use Rattle.leo_sound.proofs.Tautologies.{AreFormulas}
use Rattle.leo_terms.specs.Tree.{Tree, truth_type, type_of}
use Rattle.leo_terms.specs.Decode.{decoded}
use Rattle.leo_terms.proofs.CallerLemmas.{decoded_typed}
use Rattle.leo_clause.specs.Trees.{Literal}
use Rattle.leo_clause.specs.Formulas.{signed}
use Rattle.leo_clause.specs.declared.record.Half.{Half}
use Rattle.leo_clause.specs.declared.record.Half.TheVariants.{One, Two}
use Rattle.leo_kernel.specs.Conclusions.{NeverHolds, self_unequal, true_is_false, false_is_true, bool_case}
use Rattle.leo_simulation.proofs.Tables.{by_table}
use Rattle.leo_simulation.proofs.Disjunctions.{imp_formula, or_formula, imp_then}
use Rattle.leo_simulation.proofs.Congruence.{turned_follows, joined_follows}
use Rattle.leo_simulation.proofs.Sayings.{literal_said, clause_said, IsFine}
use Rattle.leo_simulation.proofs.Rows.{formula_decoded}

module _ {H : List Term} where
  -- from s: the implication of its negation
  pub refuted_implies : {s t : Term} → IsFormula s → IsFormula t → Derivable H s → Derivable H (imp_of (not_of s) t)
  refuted_implies {s} {t} hs ht d =
      modus_ponens hs (imp_formula (of_apply HasType-not hs) ht) (by_table 2 (s ∷ t ∷ []) (implies (atom 0) (implies (negation (atom 0)) (atom 1))) (hs, (ht, tt)) refl refl) d

  -- a literal that never holds implies falsity
  pub never_implies : {variables : List SimpleType} (n : ℕ) {l : Literal} → NeverHolds l → IsFine variables l → Derivable H (imp_of (literal_said n l) (clause_said n []))
  never_implies n (self_unequal s) h =
      let hs = decoded_typed s n h.left_typed in
      refuted_implies (HasType-equation hs hs) HasType-false (same hs).derived
  never_implies n true_is_false h = by_table 0 [] (implies (equals (truth_value true) (truth_value false)) (truth_value false)) tt refl refl
  never_implies n false_is_true h = by_table 0 [] (implies (equals (truth_value false) (truth_value true)) (truth_value false)) tt refl refl

  -- one of the two cases of an equation of truth values
  pub case_implies : {variables : List SimpleType} (n : ℕ) (half : Half) (l : Literal) → IsFine variables l → type_of l.left ≡ truth_type →
      Derivable H (imp_of (literal_said n l) (clause_said n (bool_case half l.positive l.left l.right)))
  case_implies n half l h e =
      let ta = formula_decoded n l.left h.left_typed e in
      let e' : type_of l.right ≡ truth_type = sym h.typed.same_type ∙ e in
      let tb = formula_decoded n l.right h.right_typed e' in
      go half l.positive l.left l.right e e' (ta, (tb, tt))
    where
      go : (half : Half) (positive : Bool) (a b : Tree) → type_of a ≡ truth_type → type_of b ≡ truth_type → AreFormulas (decoded n a ∷ decoded n b ∷ []) →
          Derivable H (imp_of (signed positive (equation (type_of a) (decoded n a) (decoded n b))) (clause_said n (bool_case half positive a b)))
      go One true a b ea eb fs = rw (ea, eb) (by_table 2 (decoded n a ∷ decoded n b ∷ []) (implies (equals (atom 0) (atom 1)) (either (equals (atom 0) (truth_value false)) (equals (atom 1) (truth_value true)))) fs refl refl)
      go Two true a b ea eb fs = rw (ea, eb) (by_table 2 (decoded n a ∷ decoded n b ∷ []) (implies (equals (atom 0) (atom 1)) (either (equals (atom 0) (truth_value true)) (equals (atom 1) (truth_value false)))) fs refl refl)
      go One false a b ea eb fs = rw (ea, eb) (by_table 2 (decoded n a ∷ decoded n b ∷ []) (implies (negation (equals (atom 0) (atom 1))) (either (equals (atom 0) (truth_value true)) (equals (atom 1) (truth_value true)))) fs refl refl)
      go Two false a b ea eb fs = rw (ea, eb) (by_table 2 (decoded n a ∷ decoded n b ∷ []) (implies (negation (equals (atom 0) (atom 1))) (either (equals (atom 0) (truth_value false)) (equals (atom 1) (truth_value false)))) fs refl refl)

  -- equal functions at equal arguments
  pub both_agree : {f g s t : Term} {a b : SimpleType} → HasType f (arrow a b) → HasType g (arrow a b) → HasType s a → HasType t a →
      Derivable H (imp_of (not_of (equation b (apply f s) (apply g t))) (or_of (not_of (equation (arrow a b) f g)) (not_of (equation a s t))))
  both_agree {f} {g} {s} {t} {a} {b} hf hg hs ht =
      let e = HasType-equation hf hg in
      let k = HasType-equation hs ht in
      let one = HasType-equation (of_apply hf hs) (of_apply hg hs) in
      let two = HasType-equation (of_apply hg hs) (of_apply hg ht) in
      let all = HasType-equation (of_apply hf hs) (of_apply hg ht) in
      let joined : Derivable H (imp_of (equation b (apply f s) (apply g s)) (imp_of (equation b (apply g s) (apply g t)) (equation b (apply f s) (apply g t)))) =
      joined_ends (of_apply hf hs) (of_apply hg hs) (of_apply hg ht) in
      let goal = imp_formula (of_apply HasType-not all) (or_formula (of_apply HasType-not e) (of_apply HasType-not k)) in
      let whole : Derivable H (imp_of (imp_of (equation (arrow a b) f g) (equation b (apply f s) (apply g s))) (imp_of (imp_of (equation a s t) (equation b (apply g s) (apply g t)))
      (imp_of (imp_of (equation b (apply f s) (apply g s)) (imp_of (equation b (apply g s) (apply g t)) (equation b (apply f s) (apply g t))))
      (imp_of (not_of (equation b (apply f s) (apply g t))) (or_of (not_of (equation (arrow a b) f g)) (not_of (equation a s t))))))) =
      by_table 5 (equation (arrow a b) f g ∷ equation a s t ∷ equation b (apply f s) (apply g s) ∷ equation b (apply g s) (apply g t) ∷ equation b (apply f s) (apply g t) ∷ [])
      (implies (implies (atom 0) (atom 2)) (implies (implies (atom 1) (atom 3)) (implies (implies (atom 2) (implies (atom 3) (atom 4))) (implies (negation (atom 4)) (either (negation (atom 0)) (negation (atom 1)))))))
      (e, (k, (one, (two, (all, tt))))) refl refl in
      let third = imp_formula one (imp_formula two all) in
      modus_ponens third goal
      (modus_ponens (imp_formula k two) (imp_formula third goal)
      (modus_ponens (imp_formula e one) (imp_formula (imp_formula k two) (imp_formula third goal)) whole (functions_agree hf hg hs)) (values_agree hs ht hg)) joined
    where
      joined_ends : {x y z : Term} → HasType x b → HasType y b → HasType z b → Derivable H (imp_of (equation b x y) (imp_of (equation b y z) (equation b x z)))
      joined_ends {x} {y} {z} hx hy hz =
          let xy = HasType-equation hx hy in
          let yx = HasType-equation hy hx in
          imp_then xy yx (imp_formula (HasType-equation hy hz) (HasType-equation hx hz)) (turned_follows hx hy) (joined_follows hy hx hz)
