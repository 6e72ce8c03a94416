-- What a term reduces to is derivably equal to it in Q0.
use Rattle.std.proofs.Common.{ℕ, ◌≡◌, ◌+◌, ◌-◌, ◌≤◌, true, false, List, [], ◌∷◌, refl, sym, ◌∙◌, subst, arith}
use Rattle.leo_q0.specs.Terms.{arrow, Variable, Term, variable as q_variable, apply, lambda, HasType, of_identity, of_choice, SimpleType}
use Rattle.leo_q0.specs.Substitution.{is_free, is_free_for, replace}
use Rattle.leo_q0.specs.Shapes.{shape, AreSameUpToNames}
use Rattle.leo_q0.specs.Connectives.{equation}
use Rattle.leo_q0.specs.Derivations.{Derives, AreHypotheses}
use Rattle.leo_q0.proofs.Fresh.{different}
use Rattle.leo_q0.proofs.Equations as q
use Rattle.leo_q0.proofs.Equations.{Equal}
use Rattle.leo_q0.proofs.Alpha.{alpha}
use Rattle.leo_q0.proofs.Renaming as renaming
use Rattle.leo_q0.proofs.LawProofs.{derives}
use Rattle.leo_q0.proofs.Formulas.{HasType-all, HasType-and, HasType-imp, HasType-not, HasType-or, HasType-some}
use Rattle.leo_terms.specs.Tree.{codomain, truth_type, Tree, bound, app, lam, logic, Connective, truth, falsity, negation, disjunction, conjunction, implication, equality, universal, existential, choice, connective_type, type_of, IsBoundAt, lifted, opened}
use Rattle.leo_terms.specs.Typing.{TakesTrees, IsWellTyped}
use Rattle.leo_terms.specs.Reduction.{Reduces, nothing, andthen, in_app, in_lam, in_logic, beta, eta}
use Rattle.leo_terms.proofs.TypingLemmas.{reduces_typed}
use Rattle.leo_terms.specs.Decode.{named, connected, decoded, IsFitting}
use Rattle.leo_terms.proofs.DecodedTypes.{decoded_typed}
use Rattle.leo_terms.proofs.DecodedShapes.{Skips, lifted_shape, opened_shape, decoded_unfree, decoded_free_for}
use Rattle.leo_terms.proofs.Fitting.{IsFitting-reduces}

skips_one : (d : ℕ) (a : SimpleType) → Skips d (named d a ∷ [])
skips_one d a v l = rw (different v (named d a) (λ e. omega arith)) refl

module _ {H : List Term} where
  equal_at : (a b : SimpleType) (s t : Term) → a ≡ b → Equal H a s t → Equal H b s t
  equal_at a b s t e p = subst (λ (c : SimpleType). Equal H c s t) e p

  connected_equal : (c : Connective) (x y : Tree) (s t s' t' : Term) → TakesTrees c x y → Equal H ((type_of x)) s s' → Equal H ((type_of y)) t t' → HasType (connected c s t) ((connective_type c)) → Equal H ((connective_type c)) (connected c s t) (connected c s' t')
  connected_equal truth x y s t s' t' h p r w = q.same w
  connected_equal falsity x y s t s' t' h p r w = q.same w
  connected_equal negation x y s t s' t' h p r w = q.applied (q.same HasType-not) (equal_at _ truth_type s s' h.0.1 p)
  connected_equal disjunction x y s t s' t' h p r w = q.applied (q.applied (q.same HasType-or) (equal_at _ truth_type s s' h.0.1 p)) (equal_at _ truth_type t t' h.1.1 r)
  connected_equal conjunction x y s t s' t' h p r w = q.applied (q.applied (q.same HasType-and) (equal_at _ truth_type s s' h.0.1 p)) (equal_at _ truth_type t t' h.1.1 r)
  connected_equal implication x y s t s' t' h p r w = q.applied (q.applied (q.same HasType-imp) (equal_at _ truth_type s s' h.0.1 p)) (equal_at _ truth_type t t' h.1.1 r)
  connected_equal (equality a) x y s t s' t' h p r w = q.applied (q.applied (q.same (of_identity a)) (equal_at _ a s s' h.0.1 p)) (equal_at _ a t t' h.1.1 r)
  connected_equal (universal a) x y s t s' t' h p r w = q.applied (q.same (HasType-all a)) (equal_at _ (arrow a truth_type) s s' h.0.1 p)
  connected_equal (existential a) x y s t s' t' h p r w = q.applied (q.same (HasType-some a)) (equal_at _ (arrow a truth_type) s s' h.0.1 p)
  connected_equal (choice a) x y s t s' t' h p r w = q.applied (q.same (of_choice a)) (equal_at _ (arrow a truth_type) s s' h.0.1 p)

  beta_equal : (a : SimpleType) (t x : Tree) (first d : ℕ) (p : IsBoundAt 0 a t) (e : type_of x ≡ a) → first ≤ d → IsWellTyped (app (lam a t) x) → IsFitting first d (app (lam a t) x) → Equal H ((type_of t)) (decoded d (app (lam a t) x)) (decoded d (opened 0 x t))
  beta_equal a t x first d p e lf w fit =
      let u = reduces_typed (app (lam a t) x) (opened 0 x t) (beta a t x p e) w in
      let ht : HasType (decoded (d + 1) t) ((type_of t)) = decoded_typed t (d + 1) w.0.0 in
      let hx : HasType (decoded d x) a = subst (λ (c : SimpleType). HasType (decoded d x) c) e (decoded_typed x d w.1) in
      let unfree : (v : Variable) → d ≤ v.number → is_free v (decoded d x) ≡ false = λ v l. decoded_unfree x first d 0 d [] v refl (omega arith) lf l refl (λ j b h. absurd (cc)) w.1 fit.1 in
      let free : is_free_for (decoded d x) (named d a) (decoded (d + 1) t) ≡ true = decoded_free_for t d (d + 1) (named d a) (decoded d x) unfree (omega arith) in
      let step : Equal H ((type_of t)) (apply (lambda (named d a) (decoded (d + 1) t)) (decoded d x)) (replace (named d a) (decoded d x) (decoded (d + 1) t)) = q.beta {x = named d a} ht hx free in
      let names : AreSameUpToNames (replace (named d a) (decoded d x) (decoded (d + 1) t)) (decoded d (opened 0 x t)) = opened_shape t first d 0 (d + 1) d a [] x refl (omega arith) (omega arith) lf fit.1 w.1 (λ j b h. absurd (cc)) p w.0.0 fit.0 in
      let right : HasType (decoded d (opened 0 x t)) ((type_of t)) = subst (λ (c : SimpleType). HasType (decoded d (opened 0 x t)) c) u.1.1 (decoded_typed (opened 0 x t) d u.0) in
      q.then step (alpha names step.right right)

  eta_equal : (a b : SimpleType) (t : Tree) (first d : ℕ) (p : type_of t ≡ arrow a b) → first ≤ d → IsWellTyped t → IsFitting first d t → Equal H ((type_of t)) (decoded d t) (decoded d (lam a (app (lifted 0 1 t) (bound 0 a))))
  eta_equal a b t first d p lf w fit =
      let v = named d a in
      let u = reduces_typed t (lam a (app (lifted 0 1 t) (bound 0 a))) (eta a b t p) w in
      let h : HasType (decoded d t) (arrow a b) = subst (λ (c : SimpleType). HasType (decoded d t) c) p (decoded_typed t d w) in
      let unfree : is_free v (decoded d t) ≡ false = decoded_unfree t first d 0 d [] v refl (omega arith) lf (omega arith) refl (λ j c k. absurd (cc)) w fit in
      let step : Equal H (arrow a b) (decoded d t) (lambda v (apply (decoded d t) (q_variable v))) = renaming.eta v h unfree in
      let s : shape (v ∷ []) (decoded d t) ≡ shape (v ∷ []) (decoded (d + 1) (lifted 0 1 t)) = lifted_shape t first d 1 0 d (d + 1) [] (v ∷ []) (v ∷ []) refl (omega arith) (omega arith) lf (skips_one d a) (skips_one d a) (λ j c k. absurd (cc)) w fit in
      let e : d + 1 - (0 + 1) ≡ d = omega arith in
      let names : AreSameUpToNames (lambda v (apply (decoded d t) (q_variable v))) (decoded d (lam a (app (lifted 0 1 t) (bound 0 a)))) = rw (s, e) refl in
      let right : HasType (decoded d (lam a (app (lifted 0 1 t) (bound 0 a)))) (arrow a b) = subst (λ (c : SimpleType). HasType (decoded d (lam a (app (lifted 0 1 t) (bound 0 a)))) c) (u.1.1 ∙ p) (decoded_typed (lam a (app (lifted 0 1 t) (bound 0 a))) d u.0) in
      equal_at (arrow a b) (type_of t) _ _ (sym p) (q.then step (alpha names step.right right))

  pub reduces_equal : (s t : Tree) → Reduces s t → (first d : ℕ) → first ≤ d → IsWellTyped s → IsFitting first d s → Equal H ((type_of s)) (decoded d s) (decoded d t)
  reduces_equal _ _ (nothing t) first d lf w fit = q.same (decoded_typed t d w)
  reduces_equal _ _ (andthen r s t p o) first d lf w fit =
      let u = reduces_typed r s p w in
      q.then (reduces_equal r s p first d lf w fit) (equal_at (type_of s) (type_of r) _ _ u.1.1 (reduces_equal s t o first d lf u.0 (IsFitting-reduces r s p first d lf fit)))
  reduces_equal _ _ (in_app f g x y p o) first d lf w fit =
      q.applied (equal_at (type_of f) (arrow (type_of x) (codomain (type_of f))) _ _ w.4 (reduces_equal f g p first d lf w.0 fit.0)) (reduces_equal x y o first d lf w.1 fit.1)
  reduces_equal _ _ (in_lam a s t p) first d lf w fit = q.under (named d a) (reduces_equal s t p first (d + 1) (omega arith) w.0 fit)
  reduces_equal _ _ (in_logic c s t x y p o) first d lf w fit =
      connected_equal c s x _ _ _ _ w.2 (reduces_equal s t p first d lf w.0 fit.0) (reduces_equal x y o first d lf w.1 fit.1) (decoded_typed (logic c s x) d w)
  reduces_equal _ _ (beta a t x p e) first d lf w fit = beta_equal a t x first d p e lf w fit
  reduces_equal _ _ (eta a b t p) first d lf w fit = eta_equal a b t first d p lf w fit

-- a term and what it reduces to, such as its normal form, are equal by a derivation in Q0
pub reduces_derives : {H : List Term} → AreHypotheses H → (s t : Tree) → Reduces s t → (first d : ℕ) → first ≤ d → IsWellTyped s → IsFitting first d s → Derives H (equation ((type_of s)) (decoded d s) (decoded d t))
reduces_derives h s t r first d lf w fit = derives (reduces_equal s t r first d lf w fit)
