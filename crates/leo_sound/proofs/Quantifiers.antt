-- The laws of quantifiers and of choice.
use Rattle.std.proofs.Common.{◌≡◌, ℕ, suc, ◌<◌, Bool, true, false, ◌&&◌, ◌||◌, not, List, [], ◌∷◌, refl, subst, arith}
use Rattle.std.specs.Prelude.{max}
use Rattle.std.proofs.lemmas.Bool.{and_from, and_right}
use Rattle.leo_q0.specs.Terms.{SimpleType, arrow, truth, Variable, same_variable, Term, variable, choice, apply, lambda, HasType, of_variable, of_choice, of_apply, of_lambda, IsFormula}
use Rattle.leo_q0.specs.Substitution.{is_free, is_free_for, replace}
use Rattle.leo_q0.specs.Connectives.{x_of, y_of, equation, apply_two, true_term, false_term, all_term, imp_term, not_term, some_term}
use Rattle.leo_q0.specs.Axioms.{by_choice}
use Rattle.leo_sound.specs.Propositions.{Proposition, atom, truth_value, negation, implies, value_at, value}
use Rattle.leo_q0.specs.Derivations.{Derivable, by_axiom}
use Rattle.leo_q0.proofs.Variables.{same_type-arrow, same_variable-refl}
use Rattle.leo_q0.proofs.WellTyped.{HasType-equation}
use Rattle.leo_q0.proofs.Formulas.{HasType-true, HasType-false, HasType-all, HasType-imp, HasType-not, HasType-apply_two}
use Rattle.leo_q0.proofs.Fresh.{limit, IsBelow-more, IsBelow-limit, not_free_above, different}
use Rattle.leo_sound.proofs.Unfree.{replace_unfree, free_for_unfree, replace_itself, free_for_itself}
use Rattle.leo_q0.proofs.Alpha.{numbered}
use Rattle.leo_sound.proofs.Places.{imp_closed, not_closed, true_closed, false_closed}
use Rattle.leo_q0.proofs.Equations.{Equal, beta, same, back, then, applied, under, carry}
use Rattle.leo_q0.proofs.Renaming.{same_equations, instance, eta, renamed, all_values}
use Rattle.leo_sound.proofs.Truth.{all_of, truth_holds, every_formula, true_equals, equals_true}
use Rattle.leo_sound.proofs.Logic.{imp_of, not_of, same_imp, true_imp, modus_ponens, substituted, values_agree}
use Rattle.leo_sound.proofs.Tables.{same_not}
use Rattle.leo_sound.proofs.Tautologies.{tautology}

module _ {H : List Term} where
  -- equal functions have equal values, as one formula
  pub functions_agree : {a b : SimpleType} {f g s : Term} → HasType f (arrow a b) → HasType g (arrow a b) → HasType s a →
      Derivable H (imp_of (equation (arrow a b) f g) (equation b (apply f s) (apply g s)))
  functions_agree {a} {b} {f} {g} {s} hf hg hs =
      let k : Variable = record { number = limit s; type = arrow a b } in
      let n : is_free k s ≡ false = not_free_above k s (IsBelow-limit s) in
      let body = of_apply (of_variable k) hs in
      let at : (q : Term) → HasType q (arrow a b) → Equal H b (apply (lambda k (apply (variable k) s)) q) (apply q s) =
      λ q hq. rw (replace_unfree k q s n, same_variable-refl k) at (beta {H = H} {x = k} body hq (free_for_unfree k q s n)) in
      carry (same_imp (same (HasType-equation hf hg)) (same_equations (at f hf) (at g hg))) (values_agree hf hg (of_lambda k body))

  -- a universal formula implies its instances
  pub all_imp : {a : SimpleType} {p s : Term} → HasType p (arrow a truth) → HasType s a → Derivable H (imp_of (all_of a p) (apply p s))
  all_imp {a} {p} {s} hp hs =
      let x = x_of a in
      let everything = of_lambda x HasType-true in
      let sides = then (same_equations (beta HasType-true hs refl) (same (of_apply hp hs))) (true_equals (of_apply hp hs)) in
      carry (same_imp (same (of_apply (HasType-all a) hp)) sides) (functions_agree everything hp hs)

  -- what is derivable holds of everything
  pub generalized : (z : Variable) {s : Term} → IsFormula s → Derivable H s → Derivable H (all_of z.type (lambda z s))
  generalized z {s} h d =
      let x = x_of z.type in
      let everything = renamed z.number x HasType-true (and_right (not (same_variable z x)) false refl) refl in
      (then everything (under z (back (equals_true h d)))).derived

all_closed : (a : SimpleType) (w : Variable) → is_free w (all_term a) ≡ false
all_closed a w = and_right (not (same_variable w (x_of a))) false refl

weakened_same : Proposition
weakened_same = implies (atom 0) (atom 0)

weakened_false : Proposition
weakened_false = implies (atom 0) (implies (truth_value false) (atom 1))

swapped : Proposition
swapped = implies (implies (negation (atom 0)) (negation (atom 1))) (implies (atom 1) (atom 0))

contraposed : Proposition
contraposed = implies (implies (atom 0) (atom 1)) (implies (negation (atom 1)) (negation (atom 0)))

half_contraposed : Proposition
half_contraposed = implies (implies (negation (atom 0)) (atom 1)) (implies (negation (atom 1)) (atom 0))

double_negation : Proposition
double_negation = implies (implies (atom 0) (atom 1)) (implies (negation (negation (atom 0))) (atom 1))

same_holds : (vs : List Bool) → value vs weakened_same ≡ true
unfolding weakened_same
same_holds vs = go (value_at vs 0)
  where
    go : (a : Bool) → (not a || a) ≡ true
    go true = refl
    go false = refl

false_holds : (vs : List Bool) → value vs weakened_false ≡ true
unfolding weakened_false
false_holds vs = go (value_at vs 0)
  where
    go : (a : Bool) → (not a || true) ≡ true
    go true = refl
    go false = refl

swapped_holds : (vs : List Bool) → value vs swapped ≡ true
unfolding swapped
swapped_holds vs = go (value_at vs 0) (value_at vs 1)
  where
    go : (a b : Bool) → (not (not (not a) || not b) || (not b || a)) ≡ true
    go true true = refl
    go true false = refl
    go false true = refl
    go false false = refl

contraposed_holds : (vs : List Bool) → value vs contraposed ≡ true
unfolding contraposed
contraposed_holds vs = go (value_at vs 0) (value_at vs 1)
  where
    go : (a b : Bool) → (not (not a || b) || (not (not b) || not a)) ≡ true
    go true true = refl
    go true false = refl
    go false true = refl
    go false false = refl

half_contraposed_holds : (vs : List Bool) → value vs half_contraposed ≡ true
unfolding half_contraposed
half_contraposed_holds vs = go (value_at vs 0) (value_at vs 1)
  where
    go : (a b : Bool) → (not (not (not a) || b) || (not (not b) || a)) ≡ true
    go true true = refl
    go true false = refl
    go false true = refl
    go false false = refl

double_negation_holds : (vs : List Bool) → value vs double_negation ≡ true
unfolding double_negation
double_negation_holds vs = go (value_at vs 0) (value_at vs 1)
  where
    go : (a b : Bool) → (not (not a || b) || (not (not (not a)) || b)) ≡ true
    go true true = refl
    go true false = refl
    go false true = refl
    go false false = refl

HasType-implication : {s t : Term} → IsFormula s → IsFormula t → IsFormula (imp_of s t)
HasType-implication hs ht = HasType-apply_two HasType-imp hs ht

HasType-negation : {s : Term} → IsFormula s → IsFormula (not_of s)
HasType-negation h = of_apply HasType-not h

module _ {H : List Term} where
  -- implications, turned round
  pub from_negations : {s t : Term} → IsFormula s → IsFormula t → Derivable H (imp_of (not_of s) (not_of t)) → Derivable H (imp_of t s)
  unfolding swapped
  from_negations {s} {t} hs ht d =
      let whole : Derivable H (imp_of (imp_of (not_of s) (not_of t)) (imp_of t s)) = tautology (s ∷ t ∷ []) swapped (hs, (ht, tt)) swapped_holds in
      modus_ponens (HasType-implication (HasType-negation hs) (HasType-negation ht)) (HasType-implication ht hs) whole d

  pub to_negations : {s t : Term} → IsFormula s → IsFormula t → Derivable H (imp_of s t) → Derivable H (imp_of (not_of t) (not_of s))
  unfolding contraposed
  to_negations {s} {t} hs ht d =
      let whole : Derivable H (imp_of (imp_of s t) (imp_of (not_of t) (not_of s))) = tautology (s ∷ t ∷ []) contraposed (hs, (ht, tt)) contraposed_holds in
      modus_ponens (HasType-implication hs ht) (HasType-implication (HasType-negation ht) (HasType-negation hs)) whole d

  pub from_negation : {s t : Term} → IsFormula s → IsFormula t → Derivable H (imp_of (not_of s) t) → Derivable H (imp_of (not_of t) s)
  unfolding half_contraposed
  from_negation {s} {t} hs ht d =
      let whole : Derivable H (imp_of (imp_of (not_of s) t) (imp_of (not_of t) s)) = tautology (s ∷ t ∷ []) half_contraposed (hs, (ht, tt)) half_contraposed_holds in
      modus_ponens (HasType-implication (HasType-negation hs) ht) (HasType-implication (HasType-negation ht) hs) whole d

  pub twice_negated : {s t : Term} → IsFormula s → IsFormula t → Derivable H (imp_of s t) → Derivable H (imp_of (not_of (not_of s)) t)
  unfolding double_negation
  twice_negated {s} {t} hs ht d =
      let whole : Derivable H (imp_of (imp_of s t) (imp_of (not_of (not_of s)) t)) = tautology (s ∷ t ∷ []) double_negation (hs, (ht, tt)) double_negation_holds in
      modus_ponens (HasType-implication hs ht) (HasType-implication (HasType-negation (HasType-negation hs)) ht) whole d

-- from a premise that does not name z, all z are such
abbrev passes_on : Variable → Term → Term → Term → Term → Term
passes_on z all imp s b = apply_two imp (apply all (lambda z (apply_two imp s b))) (apply_two imp s (apply all (lambda z b)))

passed_on : (k z : Variable) (q all imp b : Term) → ((w : Variable) → is_free w all ≡ false) → ((w : Variable) → is_free w imp ≡ false) → same_variable k z ≡ false → is_free k b ≡ false →
    replace k q (passes_on z all imp (variable k) b) ≡ passes_on z all imp q b
passed_on k z q all imp b ha hi kz kb =
    rw (replace_unfree k q all (ha k), replace_unfree k q imp (hi k), replace_unfree k q b kb, kz, same_variable-refl k) refl

free_passes_on : (k z : Variable) (q all imp b : Term) → ((w : Variable) → is_free w all ≡ false) → ((w : Variable) → is_free w imp ≡ false) → same_variable k z ≡ false → is_free k b ≡ false → is_free z q ≡ false →
    is_free_for q k (passes_on z all imp (variable k) b) ≡ true
free_passes_on k z q all imp b ha hi kz kb zq =
    rw (free_for_unfree k q all (ha k), free_for_unfree k q imp (hi k), free_for_unfree k q b kb, kb, kz, hi k, zq, same_variable-refl k) refl

module _ {H : List Term} where
  -- from a premise in which z is not free, all z are such
  pub all_follow : (z : Variable) {s b : Term} → IsFormula s → IsFormula b → is_free z s ≡ false → Derivable H (imp_of s b) → Derivable H (imp_of s (all_of z.type (lambda z b)))
  unfolding weakened_same weakened_false
  all_follow z {s} {b} hs hb zs d =
      let a = z.type in
      let all = all_term a in
      let k : Variable = record { number = suc (max z.number (limit b)); type = truth } in
      let kz : same_variable k z ≡ false = different k z (λ (e : suc (max z.number (limit b)) ≡ z.number). omega (arith, e)) in
      let kb : is_free k b ≡ false = not_free_above k b (IsBelow-more (limit b) (suc (max z.number (limit b))) b (omega arith) (IsBelow-limit b)) in
      let every = of_apply (HasType-all a) (of_lambda z hb) in
      let typed : (q : Term) → IsFormula q → IsFormula (passes_on z all imp_term q b) =
      λ q hq. HasType-implication (of_apply (HasType-all a) (of_lambda z (HasType-implication hq hb))) (HasType-implication hq every) in
      let hk = of_variable k in
      let at : (q : Term) → IsFormula q → is_free z q ≡ false → Equal H truth (apply (lambda k (passes_on z all imp_term (variable k) b)) q) (passes_on z all imp_term q b) =
      λ q hq zq. subst (λ (t : Term). Equal H truth (apply (lambda k (passes_on z all imp_term (variable k) b)) q) t) (passed_on k z q all imp_term b (all_closed a) imp_closed kz kb)
      (beta {x = k} (typed (variable k) hk) hq (free_passes_on k z q all imp_term b (all_closed a) imp_closed kz kb zq)) in
      let whole = all_of a (lambda z b) in
      let itself : Derivable H (imp_of whole whole) = tautology (whole ∷ []) weakened_same (every, tt) same_holds in
      let true_side = same_imp (applied (same (HasType-all a)) (under z (true_imp hb))) (true_imp every) in
      let at_true = then (back (equals_true (HasType-implication every every) itself)) (then (back true_side) (back (at true_term HasType-true (true_closed z)))) in
      let premise = all_of a (lambda z (imp_of false_term b)) in
      let hpremise = of_apply (HasType-all a) (of_lambda z (HasType-implication HasType-false hb)) in
      let false_side : Derivable H (imp_of premise (imp_of false_term whole)) = tautology (premise ∷ whole ∷ []) weakened_false (hpremise, (every, tt)) false_holds in
      let at_false = then (back (equals_true (typed false_term HasType-false) false_side)) (back (at false_term HasType-false (false_closed z))) in
      let passed = carry (then (every_formula (of_lambda k (typed (variable k) hk)) hs at_true at_false) (at s hs zs)) truth_holds in
      let implication = HasType-implication hs hb in
      modus_ponens (of_apply (HasType-all a) (of_lambda z implication)) (HasType-implication hs every) passed (generalized z implication d)

-- a member, and what choice gives
replaced_choice : (v : Variable) (q c : Term) (a : SimpleType) (r t r' t' : Term) → ((w : Variable) → is_free w c ≡ false) → replace v q r ≡ r' → replace v q t ≡ t' →
    replace v q (apply_two c (apply r t) (apply r (apply (choice a) r))) ≡ apply_two c (apply r' t') (apply r' (apply (choice a) r'))
replaced_choice v q c a r t r' t' h e k = let m = replace_unfree v q c (h v) in cc

free_choice : (v : Variable) (q c : Term) (a : SimpleType) (r t : Term) → ((w : Variable) → is_free w c ≡ false) → is_free_for q v r ≡ true → is_free_for q v t ≡ true →
    is_free_for q v (apply_two c (apply r t) (apply r (apply (choice a) r))) ≡ true
free_choice v q c a r t h e k = rw (free_for_unfree v q c (h v), e, k) refl

abbrev pub choice_of : SimpleType → Term → Term → Term
choice_of a r t = imp_of (apply r t) (apply r (apply (choice a) r))

module _ {H : List Term} where
  choice_step : (v : Variable) (q : Term) (a : SimpleType) {r t r' t' : Term} → HasType q v.type → HasType r (arrow a truth) → HasType t a →
      is_free_for q v r ≡ true → is_free_for q v t ≡ true → replace v q r ≡ r' → replace v q t ≡ t' → Derivable H (choice_of a r t) → Derivable H (choice_of a r' t')
  choice_step v q a {r} {t} {r'} {t'} hq hr ht fr ft e k d =
      subst (Derivable H) (replaced_choice v q imp_term a r t r' t' imp_closed e k)
      (substituted v q (HasType-implication (of_apply hr ht) (of_apply hr (of_apply (of_choice a) hr))) hq (free_choice v q imp_term a r t imp_closed fr ft) d)

  -- a set with a member contains what choice gives
  pub chosen : {a : SimpleType} {p s : Term} → HasType p (arrow a truth) → HasType s a → Derivable H (choice_of a p s)
  chosen {a} {p} {s} hp hs =
      let x = x_of a in
      let q = x_of (arrow a truth) in
      let y : Variable = record { number = suc (limit p); type = a } in
      let hx = of_variable x in
      let hq = of_variable q in
      let hy = of_variable y in
      let q_y : same_variable q y ≡ false = different q y (λ (e : 0 ≡ suc (limit p)). omega (arith, e)) in
      let y_p : is_free y p ≡ false = not_free_above y p (IsBelow-more (limit p) (suc (limit p)) p (omega arith) (IsBelow-limit p)) in
      let start : Derivable H (choice_of a (variable q) (variable x)) = by_axiom (by_choice a) in
      let one : Derivable H (choice_of a (variable q) (variable y)) =
      choice_step x (variable y) a hy hq hx refl refl (rw (same_type-arrow a truth) refl) (rw (same_variable-refl x) refl) start in
      let two : Derivable H (choice_of a p (variable y)) =
      choice_step q p a hp hq hy refl refl (rw (same_variable-refl q) refl) (rw q_y refl) one in
      choice_step y s a hs hp hy (free_for_unfree y s p y_p) refl (replace_unfree y s p y_p) (rw (same_variable-refl y) refl) two

-- the shape of `Some`, with any closed terms for Not and All
abbrev outside : Term → Variable → Term → Term
outside c z p = lambda z (apply c (apply p (variable z)))

no_member : (c d : Bool) → (not c && (not d && (c || d))) ≡ false
no_member true d = refl
no_member false true = refl
no_member false false = refl

closed_some : (c all : Term) (p x w : Variable) → ((w : Variable) → is_free w c ≡ false) → ((w : Variable) → is_free w all ≡ false) → is_free w (lambda p (apply c (apply all (outside c x (variable p))))) ≡ false
closed_some c all p x w hc ha = rw (hc w, ha w) (no_member (same_variable w p) (same_variable w x))

renamed_outside : (c : Term) (p x z : Variable) → ((w : Variable) → is_free w c ≡ false) → same_variable x p ≡ false →
    replace x (variable z) (apply c (apply (variable p) (variable x))) ≡ apply c (apply (variable p) (variable z))
renamed_outside c p x z h e = rw (replace_unfree x (variable z) c (h x), e, same_variable-refl x) refl

free_rename : (c : Term) (p x z : Variable) → ((w : Variable) → is_free w c ≡ false) → is_free_for (variable z) x (apply c (apply (variable p) (variable x))) ≡ true
free_rename c p x z h = rw (free_for_unfree x (variable z) c (h x)) refl

fresh_outside : (c : Term) (p x z : Variable) → ((w : Variable) → is_free w c ≡ false) → same_variable z p ≡ false → same_variable z x ≡ false → is_free z (outside c x (variable p)) ≡ false
fresh_outside c p x z h e k = rw (h z, e, k) refl

placed_outside : (c all : Term) (p z : Variable) (q : Term) → ((w : Variable) → is_free w c ≡ false) → ((w : Variable) → is_free w all ≡ false) → same_variable p z ≡ false →
    replace p q (apply c (apply all (outside c z (variable p)))) ≡ apply c (apply all (outside c z q))
placed_outside c all p z q hc ha e = rw (replace_unfree p q c (hc p), replace_unfree p q all (ha p), e, same_variable-refl p) refl

free_outside : (c all : Term) (p z : Variable) (q : Term) → ((w : Variable) → is_free w c ≡ false) → ((w : Variable) → is_free w all ≡ false) → is_free z q ≡ false →
    is_free_for q p (apply c (apply all (outside c z (variable p)))) ≡ true
free_outside c all p z q hc ha e = rw (free_for_unfree p q c (hc p), free_for_unfree p q all (ha p), e) (or_yes _)
  where
    or_yes : (b : Bool) → (b || true) ≡ true
    or_yes true = refl
    or_yes false = refl

some_closed : (a : SimpleType) (w : Variable) → is_free w (some_term a) ≡ false
some_closed a w = closed_some not_term (all_term a) (x_of (arrow a truth)) (x_of a) w not_closed (all_closed a)

module _ {H : List Term} where
  -- Some, at any set, with a bound variable that is not free in the set
  pub some_is : (n : ℕ) {a : SimpleType} {q : Term} → HasType q (arrow a truth) → 0 < n → is_free (numbered n a) q ≡ false →
      Equal H truth (apply (some_term a) q) (not_of (all_of a (outside not_term (numbered n a) q)))
  some_is n {a} {q} hq lt fresh =
      let p = x_of (arrow a truth) in
      let x = x_of a in
      let z = numbered n a in
      let hp = of_variable p in
      let member = HasType-negation (of_apply hp (of_variable x)) in
      let body : Term = not_of (all_of a (outside not_term x (variable p))) in
      let hbody : IsFormula body = HasType-negation (of_apply (HasType-all a) (of_lambda x member)) in
      let first : Equal H truth (apply (some_term a) (variable p)) body =
      subst (λ (t : Term). Equal H truth (apply (some_term a) (variable p)) t) (replace_itself p body) (beta {x = p} hbody hp (free_for_itself p body)) in
      let z_p : same_variable z p ≡ false = different z p (λ (e : n ≡ 0). omega (arith, e)) in
      let z_x : same_variable z x ≡ false = different z x (λ (e : n ≡ 0). omega (arith, e)) in
      let p_z : same_variable p z ≡ false = different p z (λ (e : 0 ≡ n). omega (arith, e)) in
      let rename = renamed {H = H} n x member (fresh_outside not_term p x z not_closed z_p z_x) (free_rename not_term p x z not_closed) in
      let names : Equal H (arrow a truth) (outside not_term x (variable p)) (outside not_term z (variable p)) =
      subst (λ (t : Term). Equal H (arrow a truth) (outside not_term x (variable p)) (lambda z t)) (renamed_outside not_term p x z not_closed (same_type-arrow a truth)) rename in
      let second = then first (same_not (applied (same (HasType-all a)) names)) in
      let left : is_free_for q p (apply (some_term a) (variable p)) ≡ true = and_from _ _ (free_for_unfree p q (some_term a) (some_closed a p)) refl in
      let third = instance p q second hq left (free_outside not_term (all_term a) p z q not_closed (all_closed a) fresh) in
      let on_left : replace p q (apply (some_term a) (variable p)) ≡ apply (some_term a) q = replaced_set (some_term a) p q (some_closed a) in
      subst (λ (t : Term). Equal H truth t (not_of (all_of a (outside not_term z q)))) on_left
      (subst (λ (t : Term). Equal H truth (replace p q (apply (some_term a) (variable p))) t) (placed_outside not_term (all_term a) p z q not_closed (all_closed a) p_z) third)
    where
      replaced_set : (c : Term) (p : Variable) (q : Term) → ((w : Variable) → is_free w c ≡ false) → replace p q (apply c (variable p)) ≡ apply c q
      replaced_set c p q h = rw (replace_unfree p q c (h p), same_variable-refl p) refl

replaced_member : (c : Term) (z : Variable) (q s : Term) → ((w : Variable) → is_free w c ≡ false) → is_free z q ≡ false → replace z s (apply c (apply q (variable z))) ≡ apply c (apply q s)
replaced_member c z q s h e = rw (replace_unfree z s c (h z), replace_unfree z s q e, same_variable-refl z) refl

free_member : (c : Term) (z : Variable) (q s : Term) → ((w : Variable) → is_free w c ≡ false) → is_free z q ≡ false → is_free_for s z (apply c (apply q (variable z))) ≡ true
free_member c z q s h e = rw (free_for_unfree z s c (h z), free_for_unfree z s q e) refl

not_free_in_choice : (c : Term) (z : Variable) (a : SimpleType) (q : Term) → ((w : Variable) → is_free w c ≡ false) → is_free z q ≡ false → is_free z (apply c (apply q (apply (choice a) q))) ≡ false
not_free_in_choice c z a q h e = rw (h z, e) refl

not_free_bound : (x : Variable) (a : SimpleType) (q t : Term) → is_free x q ≡ false → is_free x (apply q (apply (choice a) (lambda x t))) ≡ false
not_free_bound x a q t e = rw (e, same_variable-refl x) refl

module _ {H : List Term} where
  -- outside, at a term
  outside_at : (z : Variable) {q s : Term} → HasType q (arrow z.type truth) → HasType s z.type → is_free z q ≡ false →
      Equal H truth (apply (outside not_term z q) s) (not_of (apply q s))
  outside_at z {q} {s} hq hs e =
      subst (λ (t : Term). Equal H truth (apply (outside not_term z q) s) t) (replaced_member not_term z q s not_closed e)
      (beta {x = z} (HasType-negation (of_apply hq (of_variable z))) hs (free_member not_term z q s not_closed e))

  -- what has no member has not this one
  pub not_some_imp : {a : SimpleType} {q s : Term} → HasType q (arrow a truth) → HasType s a → Derivable H (imp_of (not_of (apply (some_term a) q)) (not_of (apply q s)))
  not_some_imp {a} {q} {s} hq hs =
      let n = suc (limit q) in
      let z = numbered n a in
      let z_q : is_free z q ≡ false = not_free_above z q (IsBelow-more (limit q) n q (omega arith) (IsBelow-limit q)) in
      let hout = of_lambda z (HasType-negation (of_apply hq (of_variable z))) in
      let every = of_apply (HasType-all a) hout in
      let negated = HasType-negation (of_apply hq hs) in
      let d = carry (same_imp (same every) (outside_at z hq hs z_q)) (all_imp hout hs) in
      carry (same_imp (back (same_not (some_is n hq (omega arith) z_q))) (same negated)) (twice_negated every negated d)

  -- what has a member has the chosen one
  pub some_imp : {a : SimpleType} {q : Term} → HasType q (arrow a truth) → Derivable H (imp_of (apply (some_term a) q) (apply q (apply (choice a) q)))
  some_imp {a} {q} hq =
      let n = suc (limit q) in
      let z = numbered n a in
      let z_q : is_free z q ≡ false = not_free_above z q (IsBelow-more (limit q) n q (omega arith) (IsBelow-limit q)) in
      let hz = of_variable z in
      let member = of_apply hq hz in
      let best = of_apply hq (of_apply (of_choice a) hq) in
      let every = of_apply (HasType-all a) (of_lambda z (HasType-negation member)) in
      let d = to_negations member best (chosen hq hz) in
      let all = all_follow z (HasType-negation best) (HasType-negation member) (not_free_in_choice not_term z a q not_closed z_q) d in
      carry (same_imp (back (some_is n hq (omega arith) z_q)) (same best)) (from_negation best every all)

  -- what does not hold of everything does not hold of what choice gives
  pub not_all_imp : (x : Variable) {p : Term} → HasType p (arrow x.type truth) → is_free x p ≡ false →
      Derivable H (imp_of (not_of (all_of x.type p)) (not_of (apply p (apply (choice x.type) (outside not_term x p)))))
  not_all_imp x {p} hp x_p =
      let a = x.type in
      let hx = of_variable x in
      let hout = of_lambda x (HasType-negation (of_apply hp hx)) in
      let hw = of_apply (of_choice a) hout in
      let sides = same_imp (outside_at x hp hx x_p) (outside_at x hp hw x_p) in
      let at_x = of_apply hp hx in
      let at_w = of_apply hp hw in
      let d = from_negations at_x at_w (carry sides (chosen hout hx)) in
      let all = all_follow x at_w at_x (not_free_bound x a p (not_of (apply p (variable x))) x_p) d in
      let every = of_apply (HasType-all a) hp in
      let whole = carry (same_imp (same at_w) (applied (same (HasType-all a)) (back (eta x hp x_p)))) all in
      to_negations at_w every whole

-- the values of two functions, under a lambda
abbrev agreeing : SimpleType → Variable → Term → Term → Term
agreeing b z f g = lambda z (equation b (apply f (variable z)) (apply g (variable z)))

replaced_agreeing : (v : Variable) (q all : Term) (b : SimpleType) (z : Variable) (f g f' g' : Term) → ((w : Variable) → is_free w all ≡ false) → same_variable v z ≡ false → replace v q f ≡ f' → replace v q g ≡ g' →
    replace v q (apply all (agreeing b z f g)) ≡ apply all (agreeing b z f' g')
replaced_agreeing v q all b z f g f' g' h e m n = rw (replace_unfree v q all (h v), e, m, n) refl

free_agreeing : (v : Variable) (q all : Term) (b : SimpleType) (z : Variable) (f g : Term) → ((w : Variable) → is_free w all ≡ false) → is_free z q ≡ false → is_free_for q v f ≡ true → is_free_for q v g ≡ true →
    is_free_for q v (apply all (agreeing b z f g)) ≡ true
free_agreeing v q all b z f g h e m n = rw (free_for_unfree v q all (h v), e, m, n) (or_yes _)
  where
    or_yes : (b : Bool) → (b || true) ≡ true
    or_yes true = refl
    or_yes false = refl

fresh_agreeing : (b : SimpleType) (x z : Variable) (f g : Term) → is_free x f ≡ false → is_free x g ≡ false → is_free x (agreeing b z f g) ≡ false
fresh_agreeing b x z f g e m = rw (e, m) (no_value (same_variable x z))
  where
    no_value : (c : Bool) → (not c && (c || c)) ≡ false
    no_value true = refl
    no_value false = refl

renamed_values : (b : SimpleType) (z x : Variable) (f g : Term) → is_free z f ≡ false → is_free z g ≡ false →
    replace z (variable x) (equation b (apply f (variable z)) (apply g (variable z))) ≡ equation b (apply f (variable x)) (apply g (variable x))
renamed_values b z x f g e m = rw (replace_unfree z (variable x) f e, replace_unfree z (variable x) g m, same_variable-refl z) refl

free_values : (b : SimpleType) (z x : Variable) (f g : Term) → is_free z f ≡ false → is_free z g ≡ false →
    is_free_for (variable x) z (equation b (apply f (variable z)) (apply g (variable z))) ≡ true
free_values b z x f g e m = rw (free_for_unfree z (variable x) f e, free_for_unfree z (variable x) g m) refl

module _ {H : List Term} where
  agreeing_renamed : (b : SimpleType) (n : ℕ) (z : Variable) {f g : Term} → HasType f (arrow z.type b) → HasType g (arrow z.type b) → is_free z f ≡ false → is_free z g ≡ false →
      is_free (numbered n z.type) f ≡ false → is_free (numbered n z.type) g ≡ false → Equal H (arrow z.type truth) (agreeing b z f g) (agreeing b (numbered n z.type) f g)
  agreeing_renamed b n z {f} {g} hf hg z_f z_g x_f x_g =
      let x = numbered n z.type in
      subst (λ (t : Term). Equal H (arrow z.type truth) (agreeing b z f g) (lambda x t)) (renamed_values b z x f g z_f z_g)
      (renamed n z (HasType-equation (of_apply hf (of_variable z)) (of_apply hg (of_variable z))) (fresh_agreeing b x z f g x_f x_g) (free_values b z x f g z_f z_g))

  agreement_step : (v : Variable) (q : Term) (a b : SimpleType) (z : Variable) {f g f' g' : Term} → HasType q v.type → same_variable v z ≡ false → is_free z q ≡ false →
      is_free_for q v f ≡ true → is_free_for q v g ≡ true → replace v q f ≡ f' → replace v q g ≡ g' →
      Equal H truth (equation (arrow a b) f g) (all_of a (agreeing b z f g)) → Equal H truth (equation (arrow a b) f' g') (all_of a (agreeing b z f' g'))
  agreement_step v q a b z {f} {g} {f'} {g'} hq vz zq ff fg ef eg e =
      let whole = instance v q e hq (rw (ff, fg) refl) (free_agreeing v q (all_term a) b z f g (all_closed a) zq ff fg) in
      let left : replace v q (equation (arrow a b) f g) ≡ equation (arrow a b) f' g' = rw (ef, eg) refl in
      subst (λ (t : Term). Equal H truth t (all_of a (agreeing b z f' g'))) left
      (subst (λ (t : Term). Equal H truth (replace v q (equation (arrow a b) f g)) t) (replaced_agreeing v q (all_term a) b z f g f' g' (all_closed a) vz ef eg) whole)

  -- axiom 3, at any two functions and any variable that is not free in them
  pub agreement : (b : SimpleType) (x : Variable) {f g : Term} → HasType f (arrow x.type b) → HasType g (arrow x.type b) → is_free x f ≡ false → is_free x g ≡ false →
      Equal H truth (equation (arrow x.type b) f g) (all_of x.type (agreeing b x f g))
  agreement b x {f} {g} hf hg x_f x_g =
      let a = x.type in
      let k = suc (suc (max (limit f) (limit g))) in
      let f0 = x_of (arrow a b) in
      let g0 = y_of (arrow a b) in
      let x0 = x_of a in
      let z = numbered k a in
      let g' = numbered (suc k) (arrow a b) in
      let hf0 = of_variable f0 in
      let hg0 = of_variable g0 in
      let hg' = of_variable g' in
      let z_f : is_free z f ≡ false = not_free_above z f (IsBelow-more (limit f) k f (omega arith) (IsBelow-limit f)) in
      let z_g : is_free z g ≡ false = not_free_above z g (IsBelow-more (limit g) k g (omega arith) (IsBelow-limit g)) in
      let g'_f : is_free g' f ≡ false = not_free_above g' f (IsBelow-more (limit f) (suc k) f (omega arith) (IsBelow-limit f)) in
      let z_f0 : same_variable z f0 ≡ false = different z f0 (λ (e : k ≡ 0). omega (arith, e)) in
      let z_g0 : same_variable z g0 ≡ false = different z g0 (λ (e : k ≡ 1). omega (arith, e)) in
      let f0_z : same_variable f0 z ≡ false = different f0 z (λ (e : 0 ≡ k). omega (arith, e)) in
      let g0_z : same_variable g0 z ≡ false = different g0 z (λ (e : 1 ≡ k). omega (arith, e)) in
      let g'_z : same_variable g' z ≡ false = different g' z (λ (e : suc k ≡ k). omega (arith, e)) in
      let z_g' : same_variable z g' ≡ false = different z g' (λ (e : k ≡ suc k). omega (arith, e)) in
      let f0_g' : same_variable f0 g' ≡ false = different f0 g' (λ (e : 0 ≡ suc k). omega (arith, e)) in
      let x0_g0 : is_free x0 (variable g0) ≡ false = refl in
      let start = then (all_values a b) (applied (same (HasType-all a)) (agreeing_renamed b k x0 hf0 hg0 (same_type-arrow a b) x0_g0 z_f0 z_g0)) in
      let one : Equal H truth (equation (arrow a b) (variable f0) (variable g')) (all_of a (agreeing b z (variable f0) (variable g'))) =
      agreement_step g0 (variable g') a b z hg' g0_z z_g' refl refl refl (rw (same_variable-refl g0) refl) start in
      let two : Equal H truth (equation (arrow a b) f (variable g')) (all_of a (agreeing b z f (variable g'))) =
      agreement_step f0 f a b z hf f0_z z_f refl refl (rw (same_variable-refl f0) refl) (rw f0_g' refl) one in
      let three : Equal H truth (equation (arrow a b) f g) (all_of a (agreeing b z f g)) =
      agreement_step g' g a b z hg g'_z z_g (free_for_unfree g' g f g'_f) refl (replace_unfree g' g f g'_f) (rw (same_variable-refl g') refl) two in
      then three (applied (same (HasType-all a)) (agreeing_renamed b x.number z hf hg z_f z_g x_f x_g))

-- the values of two functions differ
replaced_difference : (c : Term) (b : SimpleType) (x : Variable) (f g s : Term) → ((w : Variable) → is_free w c ≡ false) → is_free x f ≡ false → is_free x g ≡ false →
    replace x s (apply c (equation b (apply f (variable x)) (apply g (variable x)))) ≡ apply c (equation b (apply f s) (apply g s))
replaced_difference c b x f g s h e m = rw (replace_unfree x s c (h x), replace_unfree x s f e, replace_unfree x s g m, same_variable-refl x) refl

free_difference : (c : Term) (b : SimpleType) (x : Variable) (f g s : Term) → ((w : Variable) → is_free w c ≡ false) → is_free x f ≡ false → is_free x g ≡ false →
    is_free_for s x (apply c (equation b (apply f (variable x)) (apply g (variable x)))) ≡ true
free_difference c b x f g s h e m = rw (free_for_unfree x s c (h x), free_for_unfree x s f e, free_for_unfree x s g m) refl

not_free_at_bound : (b a : SimpleType) (x : Variable) (f g t : Term) → is_free x f ≡ false → is_free x g ≡ false →
    is_free x (equation b (apply f (apply (choice a) (lambda x t))) (apply g (apply (choice a) (lambda x t)))) ≡ false
not_free_at_bound b a x f g t e m = rw (e, m, same_variable-refl x) refl

module _ {H : List Term} where
  -- functions that differ, differ where choice says
  pub differ_somewhere : (b : SimpleType) (x : Variable) {f g : Term} → HasType f (arrow x.type b) → HasType g (arrow x.type b) → is_free x f ≡ false → is_free x g ≡ false →
      (let w = apply (choice x.type) (lambda x (not_of (equation b (apply f (variable x)) (apply g (variable x))))) in
      Derivable H (imp_of (not_of (equation (arrow x.type b) f g)) (not_of (equation b (apply f w) (apply g w)))))
  differ_somewhere b x {f} {g} hf hg x_f x_g =
      let a = x.type in
      let hx = of_variable x in
      let at_x = HasType-equation (of_apply hf hx) (of_apply hg hx) in
      let r = lambda x (not_of (equation b (apply f (variable x)) (apply g (variable x)))) in
      let hr = of_lambda x (HasType-negation at_x) in
      let hw = of_apply (of_choice a) hr in
      let at_w = HasType-equation (of_apply hf hw) (of_apply hg hw) in
      let at : (s : Term) → HasType s a → Equal H truth (apply r s) (not_of (equation b (apply f s) (apply g s))) =
      λ s hs. subst (λ (t : Term). Equal H truth (apply r s) t) (replaced_difference not_term b x f g s not_closed x_f x_g)
      (beta {x = x} (HasType-negation at_x) hs (free_difference not_term b x f g s not_closed x_f x_g)) in
      let d = from_negations at_x at_w (carry (same_imp (at (variable x) hx) (at (apply (choice a) r) hw)) (chosen hr hx)) in
      let all = all_follow x at_w at_x (not_free_at_bound b a x f g (not_of (equation b (apply f (variable x)) (apply g (variable x)))) x_f x_g) d in
      to_negations at_w (HasType-equation hf hg) (carry (same_imp (same at_w) (back (agreement b x hf hg x_f x_g))) all)
