-- Rules that speak of a chosen w.
use Rattle.std.proofs.Common.{◌≡◌, ℕ, ◌+◌, ◌-◌, ◌<◌, ◌≤◌, true, false, List, [], ◌∷◌, length, None, refl, ap, subst, arith}
use Rattle.leo_q0.specs.Terms.{SimpleType, arrow, truth, Variable, Term, variable as q_variable, choice as q_choice, apply, lambda, HasType, of_variable, of_choice, of_apply, of_lambda}
use Rattle.leo_q0.specs.Connectives.{equation, true_term, false_term, all_term, some_term}
use Rattle.leo_q0.specs.Shapes.{place, shape}
use Rattle.leo_q0.proofs.Fresh.{different}
use Rattle.leo_q0.proofs.Renaming.{same_equations}
use Rattle.leo_q0.specs.Derivations.{Derivable}
use Rattle.leo_q0.proofs.WellTyped.{HasType-equation}
use Rattle.leo_q0.proofs.Formulas.{HasType-all, HasType-some, HasType-not}
use Rattle.leo_q0.proofs.Equations.{Equal, same, back, then, applied}
use Rattle.leo_q0.proofs.Alpha.{alpha}
use Rattle.leo_sound.proofs.Logic.{imp_of, not_of}
use Rattle.leo_sound.proofs.Quantifiers.{some_imp, not_all_imp, differ_somewhere}
use Rattle.leo_terms.specs.Tree.{Tree, variable, bound, symbol, app, lam, logic, absent, type_of, codomain, lifted, truth_type}
use Rattle.leo_terms.specs.Typing.{IsWellTyped}
use Rattle.leo_terms.specs.Decode.{decoded, named}
use Rattle.leo_terms.proofs.CallerLemmas.{decoded_typed, lifted_shape}
use Rattle.leo_clause.specs.Typed.{IsOver}
use Rattle.leo_kernel.specs.Choosing.{value, difference, chosen, applied_to, IsVariableOf, AreVariablesOf}
use Rattle.leo_simulation.proofs.Disjunctions.{imp_then}
use Rattle.leo_simulation.proofs.Sayings.{fitting-over, free_below}
use Rattle.leo_simulation.proofs.Sides.{equal_implies}
use Rattle.leo_simulation.proofs.Rows.{true_values, false_values}

-- under one lambda a term without loose indices reads as outside of it
under_lambda : (variables : List SimpleType) (t : Tree) (n : ℕ) (c : SimpleType) → length variables ≤ n → IsWellTyped t → IsOver variables 0 t →
    shape (named n c ∷ []) (decoded n t) ≡ shape (named n c ∷ []) (decoded (n + 1) (lifted 0 1 t))
under_lambda variables t n c few w o =
    lifted_shape t (length variables) n 1 0 n (n + 1) [] (named n c ∷ []) (named n c ∷ []) refl (omega arith) (omega arith) few skips skips
    (λ j b i. absurd (let f : ⊥ = cc in f)) w (fitting-over variables 0 t (length variables) n (omega arith) (omega (arith, few)) o)
  where
    skips : (v : Variable) → v.number < n → place (named n c ∷ []) v ≡ None
    skips v lt = rw (different v (named n c) (λ e. omega (arith, e, lt))) refl

-- the terms that choose, over names
abbrev unchosen : ℕ → SimpleType → Term → Term
unchosen n c p = apply (q_choice c) (lambda (named n c) (not_of (apply p (q_variable (named n c)))))

abbrev undecided : ℕ → SimpleType → SimpleType → Term → Term → Term
undecided n c b f g = apply (q_choice c) (lambda (named n c) (not_of (equation b (apply f (q_variable (named n c))) (apply g (q_variable (named n c))))))

unchosen_shape : (n m : ℕ) (c : SimpleType) (p p' : Term) → m ≡ n → shape (named n c ∷ []) p ≡ shape (named n c ∷ []) p' →
    shape [] (unchosen n c p) ≡ shape [] (apply (q_choice c) (lambda (named n c) (not_of (apply p' (q_variable (named m c))))))
unchosen_shape n m c p p' e k = rw (e, k) refl

undecided_shape : (n m : ℕ) (c b : SimpleType) (f f' g g' : Term) → m ≡ n → shape (named n c ∷ []) f ≡ shape (named n c ∷ []) f' → shape (named n c ∷ []) g ≡ shape (named n c ∷ []) g' →
    shape [] (undecided n c b f g) ≡
    shape [] (apply (q_choice c) (lambda (named n c) (not_of (equation b (apply f' (q_variable (named m c))) (apply g' (q_variable (named m c)))))))
undecided_shape n m c b f f' g g' e k l = rw (e, k, l) refl

module _ {H : List Term} (variables : List SimpleType) (n : ℕ) (few : length variables ≤ n) where
  -- `P w = F` from `All P = F`
  pub not_all_claims : (c : SimpleType) (p w : Tree) → IsWellTyped p → IsOver variables 0 p → type_of p ≡ arrow c truth_type → Equal H c (decoded n w) (decoded n (chosen (value c p false))) →
      Derivable H (imp_of (equation truth (apply (all_term c) (decoded n p)) false_term) (equation truth (apply (decoded n p) (decoded n w)) false_term))
  not_all_claims c p w wp op tp x =
      let hp = subst (HasType (decoded n p)) tp (decoded_typed p n wp) in
      let free = free_below variables p n few wp op (named n c) (omega arith) in
      let e = alpha (unchosen_shape n (n + 1 - (0 + 1)) c (decoded n p) (decoded (n + 1) (lifted 0 1 p)) (omega arith) (under_lambda variables p n c few wp op))
      (of_apply (of_choice c) (of_lambda (named n c) (of_apply HasType-not (of_apply hp (of_variable (named n c)))))) x.right in
      let y : Equal H c (decoded n w) (unchosen n c (decoded n p)) = then x (back e) in
      let step = equal_implies (applied (same HasType-not) (applied (same hp) (back y))) in
      let not_p = of_apply HasType-not (of_apply hp y.right) in
      false_values (of_apply (HasType-all c) hp) (of_apply hp y.left)
      (imp_then (of_apply HasType-not (of_apply (HasType-all c) hp)) not_p (of_apply HasType-not (of_apply hp y.left)) (not_all_imp (named n c) hp free) step)

  -- `P w = T` from `Some P = T`
  pub some_claims : (c : SimpleType) (p w : Tree) → IsWellTyped p → type_of p ≡ arrow c truth_type → Equal H c (decoded n w) (decoded n (chosen (value c p true))) →
      Derivable H (imp_of (equation truth (apply (some_term c) (decoded n p)) true_term) (equation truth (apply (decoded n p) (decoded n w)) true_term))
  some_claims c p w wp tp x =
      let hp = subst (HasType (decoded n p)) tp (decoded_typed p n wp) in
      let step = equal_implies (applied (same hp) (back x)) in
      true_values (of_apply (HasType-some c) hp) (of_apply hp x.left)
      (imp_then (of_apply (HasType-some c) hp) (of_apply hp x.right) (of_apply hp x.left) (some_imp hp) step)

  -- `f w ≠ g w` from `f ≠ g`
  pub difference_claims : (c b : SimpleType) (f g w : Tree) → IsWellTyped f → IsOver variables 0 f → IsWellTyped g → IsOver variables 0 g → type_of f ≡ arrow c b → type_of g ≡ arrow c b →
      Equal H c (decoded n w) (decoded n (chosen (difference c f g))) →
      Derivable H (imp_of (not_of (equation (arrow c b) (decoded n f) (decoded n g))) (not_of (equation b (apply (decoded n f) (decoded n w)) (apply (decoded n g) (decoded n w)))))
  difference_claims c b f g w wf of wg og tf tg x =
      let hf = subst (HasType (decoded n f)) tf (decoded_typed f n wf) in
      let hg = subst (HasType (decoded n g)) tg (decoded_typed g n wg) in
      let v = named n c in
      let hv = of_variable v in
      let free_f = free_below variables f n few wf of v (omega arith) in
      let free_g = free_below variables g n few wg og v (omega arith) in
      let cod : codomain (type_of f) ≡ b = ap codomain tf in
      let x' : Equal H c (decoded n w) (apply (q_choice c) (lambda v (not_of (equation b (apply (decoded (n + 1) (lifted 0 1 f)) (q_variable (named (n + 1 - (0 + 1)) c))) (apply (decoded (n + 1) (lifted 0 1 g)) (q_variable (named (n + 1 - (0 + 1)) c))))))) =
      subst (λ b. Equal H c (decoded n w) (apply (q_choice c) (lambda v (not_of (equation b (apply (decoded (n + 1) (lifted 0 1 f)) (q_variable (named (n + 1 - (0 + 1)) c))) (apply (decoded (n + 1) (lifted 0 1 g)) (q_variable (named (n + 1 - (0 + 1)) c)))))))) cod x in
      let e = alpha (undecided_shape n (n + 1 - (0 + 1)) c b (decoded n f) (decoded (n + 1) (lifted 0 1 f)) (decoded n g) (decoded (n + 1) (lifted 0 1 g)) (omega arith)
      (under_lambda variables f n c few wf of) (under_lambda variables g n c few wg og))
      (of_apply (of_choice c) (of_lambda v (of_apply HasType-not (HasType-equation (of_apply hf hv) (of_apply hg hv))))) x'.right in
      let y : Equal H c (decoded n w) (undecided n c b (decoded n f) (decoded n g)) = then x' (back e) in
      let values = same_equations (applied (same hf) (back y)) (applied (same hg) (back y)) in
      let step = equal_implies (applied (same HasType-not) values) in
      imp_then (of_apply HasType-not (HasType-equation hf hg)) (of_apply HasType-not (HasType-equation (of_apply hf y.right) (of_apply hg y.right)))
      (of_apply HasType-not (HasType-equation (of_apply hf y.left) (of_apply hg y.left))) (differ_somewhere b v hf hg free_f free_g) step

module _ (variables : List SimpleType) where
  -- a term with variables as arguments
  pub over-nothing : (depth : ℕ) (t : Tree) → IsOver [] depth t → IsOver variables depth t
  over-nothing depth (variable m a) h = cc
  over-nothing depth (bound i a) h = h
  over-nothing depth (symbol s a) h = tt
  over-nothing depth (app f x) h = (over-nothing depth f h.0, over-nothing depth x h.1)
  over-nothing depth (lam a t) h = over-nothing (depth + 1) t h
  over-nothing depth (logic c x y) h = (over-nothing depth x h.0, over-nothing depth y h.1)
  over-nothing depth absent h = tt

  variable_over : (x : Tree) → IsVariableOf variables x → IsOver variables 0 x
  variable_over (variable m a) h = h
  variable_over (bound i a) h = absurd h
  variable_over (symbol s a) h = absurd h
  variable_over (app f x) h = absurd h
  variable_over (lam a t) h = absurd h
  variable_over (logic c x y) h = absurd h
  variable_over absent h = absurd h

  pub applied_over : (t : Tree) (xs : List Tree) → IsOver variables 0 t → AreVariablesOf variables xs → IsOver variables 0 (applied_to t xs)
  applied_over t [] o h = o
  applied_over t (x ∷ xs) o h = applied_over (app t x) xs (o, variable_over x h.0) h.1
