-- Two terms that differ, differ in one of their parts.
use Rattle.std.proofs.Common.{◌≡◌, ℕ, List, [], ◌∷◌, ◌++◌, refl, sym, ◌∙◌, subst}
use Rattle.leo_q0.specs.Terms.{SimpleType, arrow, Term, identity, choice as q_choice, apply, HasType, of_identity, of_choice, of_apply, IsFormula}
use Rattle.leo_q0.specs.Connectives.{equation, apply_two, not_term, or_term, and_term, imp_term, all_term, some_term}
use Rattle.leo_q0.specs.Derivations.{Derivable}
use Rattle.leo_q0.proofs.WellTyped.{HasType-equation}
use Rattle.leo_q0.proofs.Formulas.{HasType-true, HasType-false, HasType-all, HasType-and, HasType-imp, HasType-not, HasType-or, HasType-some}
use Rattle.leo_q0.proofs.Equations.{same}
use Rattle.leo_sound.specs.Propositions.{atom, either, implies}
use Rattle.leo_sound.proofs.Logic.{imp_of, or_of, not_of, modus_ponens, values_agree}
use Rattle.leo_simulation.proofs.Tables.{by_table}
use Rattle.leo_simulation.proofs.Disjunctions.{imp_formula, or_formula}
use Rattle.leo_sound.proofs.Quantifiers.{to_negations}
use Rattle.leo_terms.specs.Tree.{Tree, variable, bound, symbol, app, lam, logic, absent, Connective, truth, falsity, negation, disjunction, conjunction, implication, equality, universal, existential, choice, truth_type, type_of, codomain}
use Rattle.leo_terms.specs.Typing.{IsWellTyped, IsPresent, IsPresentOf, TakesTrees}
use Rattle.leo_terms.specs.Decode.{decoded}
use Rattle.leo_terms.proofs.CallerLemmas.{decoded_typed}
use Rattle.leo_clause.specs.Trees.{Literal}
use Rattle.leo_kernel.specs.Shapes.{unequal}
use Rattle.leo_kernel.specs.Conditions.{HaveOneHeadType}
use Rattle.leo_kernel.specs.Conclusions.{Decomposes, applications, constants, unequal_if_present}
use Rattle.leo_simulation.proofs.Sayings.{literal_said, clause_said, IsFine}
use Rattle.leo_simulation.proofs.Steps.{refuted_implies, both_agree}

pub typed_as : (n : ℕ) (t : Tree) (a : SimpleType) → IsWellTyped t → type_of t ≡ a → HasType (decoded n t) a
typed_as n t a w e = subst (HasType (decoded n t)) e (decoded_typed t n w)

present_part : (x z : Tree) → IsPresent x → unequal_if_present x z ≡ unequal x z ∷ []
present_part (variable n a) z p = refl
present_part (bound i a) z p = refl
present_part (symbol n a) z p = refl
present_part (app f x) z p = refl
present_part (lam a t) z p = refl
present_part (logic c x y) z p = refl
present_part absent z p = absurd p

module _ {H : List Term} (n : ℕ) where
  or_weaker : {s t t' u : Term} → IsFormula s → IsFormula t → IsFormula t' → IsFormula u → Derivable H (imp_of s (or_of t u)) → Derivable H (imp_of t t') → Derivable H (imp_of s (or_of t' u))
  or_weaker {s} {t} {t'} {u} hs ht ht' hu d e =
      let whole : Derivable H (imp_of (imp_of s (or_of t u)) (imp_of (imp_of t t') (imp_of s (or_of t' u)))) =
      by_table 4 (s ∷ t ∷ t' ∷ u ∷ []) (implies (implies (atom 0) (either (atom 1) (atom 3))) (implies (implies (atom 1) (atom 2)) (implies (atom 0) (either (atom 2) (atom 3)))))
      (hs, (ht, (ht', (hu, tt)))) refl refl in
      let p = imp_formula ht ht' in
      let q = imp_formula hs (or_formula ht' hu) in
      modus_ponens p q (modus_ponens (imp_formula hs (or_formula ht hu)) (imp_formula p q) whole d) e

  -- two applications
  application_parts : (a b c : SimpleType) {f g s t : Term} → c ≡ arrow a b → HasType f c → HasType g c → HasType s a → HasType t a →
      Derivable H (imp_of (not_of (equation (codomain c) (apply f s) (apply g t))) (or_of (not_of (equation c f g)) (not_of (equation a s t))))
  application_parts a b c {f} {g} {s} {t} e hf hg hs ht =
      subst (λ (c : SimpleType). Derivable H (imp_of (not_of (equation (codomain c) (apply f s) (apply g t))) (or_of (not_of (equation c f g)) (not_of (equation a s t))))) (sym e)
      (both_agree (subst (HasType f) e hf) (subst (HasType g) e hg) hs ht)

  -- a constant with one argument
  one_part : (c : Term) (a b : SimpleType) (x y z w : Tree) → HasType c (arrow a b) → IsWellTyped x → IsWellTyped z → IsPresentOf a x → IsPresentOf a z → y ≡ absent →
      Derivable H (imp_of (not_of (equation b (apply c (decoded n x)) (apply c (decoded n z)))) (clause_said n (unequal_if_present x z ++ unequal_if_present y w)))
  one_part c a b x y z w hc wx wz px pz ey =
      rw (ey, present_part x z px.0, px.1)
      (let hx = typed_as n x a wx px.1 in
      let hz = typed_as n z a wz pz.1 in
      to_negations (HasType-equation hx hz) (HasType-equation (of_apply hc hx) (of_apply hc hz)) (values_agree hx hz hc))

  -- a constant with two
  two_parts : (c : Term) (a b d : SimpleType) (x y z w : Tree) → HasType c (arrow a (arrow b d)) → IsWellTyped x → IsWellTyped y → IsWellTyped z → IsWellTyped w →
      IsPresentOf a x → IsPresentOf b y → IsPresentOf a z → IsPresentOf b w →
      Derivable H (imp_of (not_of (equation d (apply_two c (decoded n x) (decoded n y)) (apply_two c (decoded n z) (decoded n w)))) (clause_said n (unequal_if_present x z ++ unequal_if_present y w)))
  two_parts c a b d x y z w hc wx wy wz ww px py pz pw =
      rw (present_part x z px.0, present_part y w py.0, px.1, py.1)
      (let hx = typed_as n x a wx px.1 in
      let hy = typed_as n y b wy py.1 in
      let hz = typed_as n z a wz pz.1 in
      let hw = typed_as n w b ww pw.1 in
      let cx = of_apply hc hx in
      let cz = of_apply hc hz in
      or_weaker (of_apply HasType-not (HasType-equation (of_apply cx hy) (of_apply cz hw))) (of_apply HasType-not (HasType-equation cx cz))
      (of_apply HasType-not (HasType-equation hx hz)) (of_apply HasType-not (HasType-equation hy hw)) (both_agree cx cz hy hw)
      (to_negations (HasType-equation hx hz) (HasType-equation cx cz) (values_agree hx hz hc)))

  constant_parts : (c : Connective) (x y z w : Tree) → IsWellTyped x → IsWellTyped y → IsWellTyped z → IsWellTyped w → TakesTrees c x y → TakesTrees c z w →
      Derivable H (imp_of (literal_said n (unequal (logic c x y) (logic c z w))) (clause_said n (unequal_if_present x z ++ unequal_if_present y w)))
  constant_parts truth x y z w wx wy wz ww p q = rw (p.0, p.1) (refuted_implies (HasType-equation HasType-true HasType-true) HasType-false (same HasType-true).derived)
  constant_parts falsity x y z w wx wy wz ww p q = rw (p.0, p.1) (refuted_implies (HasType-equation HasType-false HasType-false) HasType-false (same HasType-false).derived)
  constant_parts negation x y z w wx wy wz ww p q = one_part not_term truth_type truth_type x y z w HasType-not wx wz p.0 q.0 p.1
  constant_parts disjunction x y z w wx wy wz ww p q = two_parts or_term truth_type truth_type truth_type x y z w HasType-or wx wy wz ww p.0 p.1 q.0 q.1
  constant_parts conjunction x y z w wx wy wz ww p q = two_parts and_term truth_type truth_type truth_type x y z w HasType-and wx wy wz ww p.0 p.1 q.0 q.1
  constant_parts implication x y z w wx wy wz ww p q = two_parts imp_term truth_type truth_type truth_type x y z w HasType-imp wx wy wz ww p.0 p.1 q.0 q.1
  constant_parts (equality a) x y z w wx wy wz ww p q = two_parts (identity a) a a truth_type x y z w (of_identity a) wx wy wz ww p.0 p.1 q.0 q.1
  constant_parts (universal a) x y z w wx wy wz ww p q = one_part (all_term a) (arrow a truth_type) truth_type x y z w (HasType-all a) wx wz p.0 q.0 p.1
  constant_parts (existential a) x y z w wx wy wz ww p q = one_part (some_term a) (arrow a truth_type) truth_type x y z w (HasType-some a) wx wz p.0 q.0 p.1
  constant_parts (choice a) x y z w wx wy wz ww p q = one_part (q_choice a) (arrow a truth_type) a x y z w (of_choice a) wx wz p.0 q.0 p.1

  pub parts_imply : {variables : List SimpleType} {l : Literal} {new : List Literal} → Decomposes l new → IsFine variables l → HaveOneHeadType l.left l.right →
      Derivable H (imp_of (literal_said n l) (clause_said n new))
  parts_imply (applications f g x y) h e =
      let ef = h.left_typed.4 in
      let eg = h.right_typed.4 in
      let same_arguments : type_of y ≡ type_of x = domains (sym eg ∙ sym e ∙ ef) in
      application_parts (type_of x) (codomain (type_of f)) (type_of f) ef (decoded_typed f n h.left_typed.0) (typed_as n g (type_of f) h.right_typed.0 (sym e))
      (decoded_typed x n h.left_typed.1) (typed_as n y (type_of x) h.right_typed.1 same_arguments)
    where
      domains : {a b c d : SimpleType} → arrow a b ≡ arrow c d → a ≡ c
      domains e = cc
  parts_imply (constants c x y z w) h e =
      constant_parts c x y z w h.left_typed.0 h.left_typed.1 h.right_typed.0 h.right_typed.1 h.left_typed.2 h.right_typed.2
