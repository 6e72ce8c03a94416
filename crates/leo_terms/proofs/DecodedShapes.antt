-- Decoding and substitution, up to the names of bound variables.
use Rattle.std.proofs.Common.{ℕ, zero, suc, ◌≡◌, ◌+◌, ◌-◌, ◌<◌, ◌≤◌, Bool, true, false, not, ◌&&◌, ◌||◌, List, [], ◌∷◌, length, slice_get, Some, None, refl, ap, inl, inr, arith}
use Rattle.leo_q0.specs.Terms.{SimpleType, arrow, Variable, same_variable, Term, lambda}
use Rattle.leo_q0.specs.Substitution.{is_free, is_free_for, replace}
use Rattle.leo_q0.specs.Shapes.{lambda_shape, place, shape}
use Rattle.leo_q0.specs.Connectives.{false_term, not_term, or_term, and_term, imp_term, all_term, some_term, x_of}
use Rattle.leo_q0.proofs.Variables.{same_variable-refl, equal_variables, same_type-refl, same_type-of_arrow}
use Rattle.leo_q0.proofs.Fresh.{different}
use Rattle.leo_terms.proofs.ClosedTerms.{replace_unfree, free_for_unfree, and_closed, imp_closed, not_closed, or_closed, false_closed}
use Rattle.leo_terms.specs.Tree.{truth_type, Tree, variable, bound, symbol, app, lam, logic, absent, Connective, truth, falsity, negation, disjunction, conjunction, implication, equality, universal, existential, choice, IsBoundAt, lifted, opened, bound_opened}
use Rattle.leo_terms.specs.Typing.{IsWellTyped}
use Rattle.leo_terms.proofs.TreeLemmas.{lifted-below, lifted-above}
use Rattle.leo_terms.proofs.ReductionLemmas.{bound_opened-below, bound_opened-at, bound_opened-above, order}
use Rattle.leo_terms.proofs.Growth.{slice_get-some}
use Rattle.leo_terms.specs.Decode.{named, connected, decoded, IsFitting}

-- the variables of lambdas of these types, the innermost first, numbered from d on, and then other variables
abbrev pub vars : ℕ → List SimpleType → List Variable → List Variable
vars d [] rest = rest
vars d (a ∷ ks) rest = named (d + length ks) a ∷ vars d ks rest

different_numbers : (n m : ℕ) (a b : SimpleType) → (n ≡ m → ⊥) → same_variable (named n a) (named m b) ≡ false
different_numbers n m a b h = different (named n a) (named m b) h

-- a variable's place among those of the lambdas
place-at : (ks : List SimpleType) (d i n : ℕ) (a : SimpleType) (rest : List Variable) → slice_get ks i ≡ Some a → n + (i + 1) ≡ d + length ks → place (vars d ks rest) (named n a) ≡ Some i
place-at [] d i n a rest h e = absurd (cc)
place-at (b ∷ ks) d zero n a rest h e =
    let f : b ≡ a = cc in
    let g : n ≡ d + length ks = omega arith in
    rw (f, ← g, same_variable-refl (named n a)) refl
place-at (b ∷ ks) d (suc i) n a rest h e =
    let f = different_numbers n (d + length ks) a b (λ q. omega arith) in
    let g = place-at ks d i n a rest h (omega arith) in
    rw (f, g) refl

place-below : (ks : List SimpleType) (d : ℕ) (v : Variable) (rest : List Variable) → v.number < d → place rest v ≡ None → place (vars d ks rest) v ≡ None
place-below [] d v rest h e = e
place-below (b ∷ ks) d v rest h e =
    let f = different v (named (d + length ks) b) (λ q. omega arith) in
    let g = place-below ks d v rest h e in
    rw (f, g) refl

-- the lambdas' types are those of their indices
abbrev pub Binds : List SimpleType → Tree → Type 0
Binds ks t = (j : ℕ) (b : SimpleType) → slice_get ks j ≡ Some b → IsBoundAt j b t

Binds-lam : (ks : List SimpleType) (b : SimpleType) (t : Tree) → Binds ks (lam b t) → IsBoundAt 0 b t → Binds (b ∷ ks) t
Binds-lam ks b t h z zero a e = let f : b ≡ a = cc in rw (← f) z
Binds-lam ks b t h z (suc j) a e = let f : suc j ≡ j + 1 = omega arith in rw f (h j a e)

-- shapes of the terms that stand for logical constants
pub connected_shape : (c : Connective) (ws us : List Variable) (s t s' t' : Term) → shape ws s ≡ shape us s' → shape ws t ≡ shape us t' → shape ws (connected c s t) ≡ shape us (connected c s' t')
connected_shape truth ws us s t s' t' p q = refl
connected_shape falsity ws us s t s' t' p q = refl
connected_shape negation ws us s t s' t' p q = rw p refl
connected_shape disjunction ws us s t s' t' p q = rw (p, q) refl
connected_shape conjunction ws us s t s' t' p q = rw (p, q) refl
connected_shape implication ws us s t s' t' p q = rw (p, q) refl
connected_shape (equality a) ws us s t s' t' p q = rw (p, q) refl
connected_shape (universal a) ws us s t s' t' p q = rw p refl
connected_shape (existential a) ws us s t s' t' p q = rw (p, same_type-of_arrow a truth_type, same_type-refl a) refl
connected_shape (choice a) ws us s t s' t' p q = rw p refl

-- no variable with a number below d stands in the list
abbrev pub Skips : ℕ → List Variable → Type 0
Skips d rest = (v : Variable) → v.number < d → place rest v ≡ None

Skips-vars : (ks : List SimpleType) (c d : ℕ) → d ≤ c → Skips d (vars c ks [])
Skips-vars ks c d l v h = place-below ks c v [] (omega arith) refl

-- a lifted term decodes alike, d being the number after those of its free variables
lifted_index : (i first d k m n n' : ℕ) (b : SimpleType) (ks : List SimpleType) (rest rest' : List Variable) → m ≡ length ks → n ≡ d + m → n' ≡ d + k + m → first ≤ d → Skips d rest → Skips d rest' → Binds ks (bound i b) → first + i < n → shape (vars d ks rest) (decoded n (bound i b)) ≡ shape (vars (d + k) ks rest') (decoded n' (lifted m k (bound i b)))
lifted_index i first d k m n n' b ks rest rest' em en en' lf low low' binds fit =
    elim (order i m) [
      | inl l ↦
          (let w = slice_get-some ks i (omega arith) in
          let e : b ≡ w.0 = binds i w.0 w.1 refl in
          let f : slice_get ks i ≡ Some b = rw e w.1 in
          let p = place-at ks d i (n - (i + 1)) b rest f (omega arith) in
          let q = place-at ks (d + k) i (n' - (i + 1)) b rest' f (omega arith) in
          rw (lifted-below i m k b l, p, q) refl)
      | inr r ↦
          (let l : m ≤ i = elim r [ inl e ↦ omega arith | inr g ↦ omega arith ] in
          let e : n' - (i + k + 1) ≡ n - (i + 1) = omega arith in
          let p = place-below ks d (named (n - (i + 1)) b) rest (omega arith) (low _ (omega arith)) in
          let q = place-below ks (d + k) (named (n - (i + 1)) b) rest' (omega arith) (low' _ (omega arith)) in
          rw (lifted-above i m k b l, e, p, q) refl)
    ]

pub lifted_shape : (t : Tree) (first d k m n n' : ℕ) (ks : List SimpleType) (rest rest' : List Variable) → m ≡ length ks → n ≡ d + m → n' ≡ d + k + m → first ≤ d → Skips d rest → Skips d rest' → Binds ks t → IsWellTyped t → IsFitting first n t → shape (vars d ks rest) (decoded n t) ≡ shape (vars (d + k) ks rest') (decoded n' (lifted m k t))
lifted_shape (variable a b) first d k m n n' ks rest rest' em en en' lf low low' binds w fit =
    let p = place-below ks d (named a b) rest (omega arith) (low _ (omega arith)) in
    let q = place-below ks (d + k) (named a b) rest' (omega arith) (low' _ (omega arith)) in
    rw (p, q) refl
lifted_shape (bound i b) first d k m n n' ks rest rest' em en en' lf low low' binds w fit = lifted_index i first d k m n n' b ks rest rest' em en en' lf low low' binds fit
lifted_shape (symbol s b) first d k m n n' ks rest rest' em en en' lf low low' binds w fit = refl
lifted_shape (app f x) first d k m n n' ks rest rest' em en en' lf low low' binds w fit =
    let p = lifted_shape f first d k m n n' ks rest rest' em en en' lf low low' (λ j b h. (binds j b h).0) w.0 fit.0 in
    let q = lifted_shape x first d k m n n' ks rest rest' em en en' lf low low' (λ j b h. (binds j b h).1) w.1 fit.1 in
    rw (p, q) refl
lifted_shape (lam b t) first d k m n n' ks rest rest' em en en' lf low low' binds w fit =
    let p = lifted_shape t first d k (m + 1) (n + 1) (n' + 1) (b ∷ ks) rest rest' (omega arith) (omega arith) (omega arith) lf low low' (Binds-lam ks b t binds w.2) w.0 fit in
    let e : d + length ks ≡ n = omega arith in
    let e' : d + k + length ks ≡ n' = omega arith in
    ap (lambda_shape b) (rw (e, e') at p)
lifted_shape (logic c x y) first d k m n n' ks rest rest' em en en' lf low low' binds w fit =
    let p = lifted_shape x first d k m n n' ks rest rest' em en en' lf low low' (λ j b h. (binds j b h).0) w.0 fit.0 in
    let q = lifted_shape y first d k m n n' ks rest rest' em en en' lf low low' (λ j b h. (binds j b h).1) w.1 fit.1 in
    connected_shape c (vars d ks rest) (vars (d + k) ks rest') _ _ _ _ p q
lifted_shape absent first d k m n n' ks rest rest' em en en' lf low low' binds w fit = refl

-- free variables
pub and_false : (b : Bool) → (b && false) ≡ false
and_false true = refl
and_false false = refl

pub some_closed : (a : SimpleType) (v : Variable) → is_free v (some_term a) ≡ false
some_closed a v =
    at (same_variable v (x_of (arrow a truth_type))) (same_variable v (x_of truth_type)) (same_variable v (x_of a)) refl refl refl
  where
    at : (p q r : Bool) → same_variable v (x_of (arrow a truth_type)) ≡ p → same_variable v (x_of truth_type) ≡ q → same_variable v (x_of a) ≡ r → is_free v (some_term a) ≡ false
    at true q r e f g = rw e refl
    at false true true e f g = simp (e, f, g, not_closed v)
    at false true false e f g = simp (e, f, g, not_closed v)
    at false false true e f g = simp (e, f, g, not_closed v)
    at false false false e f g = simp (e, f, g, not_closed v)

connected_unfree : (c : Connective) (v : Variable) (s t : Term) → is_free v s ≡ false → is_free v t ≡ false → is_free v (connected c s t) ≡ false
connected_unfree truth v s t p q = refl
connected_unfree falsity v s t p q = false_closed v
connected_unfree negation v s t p q = rw (not_closed v, p) refl
connected_unfree disjunction v s t p q = rw (or_closed v, p, q) refl
connected_unfree conjunction v s t p q = rw (and_closed v, p, q) refl
connected_unfree implication v s t p q = rw (imp_closed v, p, q) refl
connected_unfree (equality a) v s t p q = rw (p, q) refl
connected_unfree (universal a) v s t p q = rw (and_false (not (same_variable v (x_of a))), p) refl
connected_unfree (existential a) v s t p q = rw (some_closed a v, p) refl
connected_unfree (choice a) v s t p q = rw p refl

-- a variable that is none of the lambdas', with a number from d on, is not free
variable_unfree : (v : Variable) (n : ℕ) (a : SimpleType) (ks : List SimpleType) (d i : ℕ) → place (vars d ks []) v ≡ None → place (vars d ks []) (named n a) ≡ Some i → same_variable v (named n a) ≡ false
variable_unfree v n a ks d i h k = at (same_variable v (named n a)) refl
  where
    at : (b : Bool) → same_variable v (named n a) ≡ b → same_variable v (named n a) ≡ false
    at false e = e
    at true e = let f = equal_variables v (named n a) e in let g : place (vars d ks []) (named n a) ≡ None = rw f at h in absurd (cc)

unfree_index : (i first d m n : ℕ) (b : SimpleType) (ks : List SimpleType) (v : Variable) → m ≡ length ks → n ≡ d + m → first ≤ d → d ≤ v.number → place (vars d ks []) v ≡ None → Binds ks (bound i b) → first + i < n → is_free v (decoded n (bound i b)) ≡ false
unfree_index i first d m n b ks v em en lf lv h binds fit =
    elim (order i m) [
      | inl l ↦
          (let w = slice_get-some ks i (omega arith) in
          let e : b ≡ w.0 = binds i w.0 w.1 refl in
          let f : slice_get ks i ≡ Some b = rw e w.1 in
          variable_unfree v (n - (i + 1)) b ks d i h (place-at ks d i (n - (i + 1)) b [] f (omega arith)))
      | inr r ↦
          (let l : m ≤ i = elim r [ inl e ↦ omega arith | inr g ↦ omega arith ] in
          different v (named (n - (i + 1)) b) (λ q. omega arith))
    ]

unfree_under : (v : Variable) (n : ℕ) (b : SimpleType) (s : Term) → (same_variable v (named n b) ≡ false → is_free v s ≡ false) → is_free v (lambda (named n b) s) ≡ false
unfree_under v n b s h = at (same_variable v (named n b)) refl
  where
    at : (c : Bool) → same_variable v (named n b) ≡ c → (not (same_variable v (named n b)) && is_free v s) ≡ false
    at true e = rw e refl
    at false e = rw (e, h e) refl

pub decoded_unfree : (t : Tree) (first d m n : ℕ) (ks : List SimpleType) (v : Variable) → m ≡ length ks → n ≡ d + m → first ≤ d → d ≤ v.number → place (vars d ks []) v ≡ None → Binds ks t → IsWellTyped t → IsFitting first n t → is_free v (decoded n t) ≡ false
decoded_unfree (variable a b) first d m n ks v em en lf lv h binds w fit = different v (named a b) (λ q. omega arith)
decoded_unfree (bound i b) first d m n ks v em en lf lv h binds w fit = unfree_index i first d m n b ks v em en lf lv h binds fit
decoded_unfree (symbol s b) first d m n ks v em en lf lv h binds w fit = refl
decoded_unfree (app f x) first d m n ks v em en lf lv h binds w fit =
    let p = decoded_unfree f first d m n ks v em en lf lv h (λ j b k. (binds j b k).0) w.0 fit.0 in
    let q = decoded_unfree x first d m n ks v em en lf lv h (λ j b k. (binds j b k).1) w.1 fit.1 in
    rw (p, q) refl
decoded_unfree (lam b t) first d m n ks v em en lf lv h binds w fit =
    let e : d + length ks ≡ n = omega arith in
    unfree_under v n b (decoded (n + 1) t) (λ k. decoded_unfree t first d (m + 1) (n + 1) (b ∷ ks) v (omega arith) (omega arith) lf lv (rw (e, k, h) refl) (Binds-lam ks b t binds w.2) w.0 fit)
decoded_unfree (logic c x y) first d m n ks v em en lf lv h binds w fit =
    let p = decoded_unfree x first d m n ks v em en lf lv h (λ j b k. (binds j b k).0) w.0 fit.0 in
    let q = decoded_unfree y first d m n ks v em en lf lv h (λ j b k. (binds j b k).1) w.1 fit.1 in
    connected_unfree c v _ _ p q
decoded_unfree absent first d m n ks v em en lf lv h binds w fit = refl

-- what has no free variable from d on is free for any variable in a term below lambdas from d on
or_true : (b : Bool) → (b || true) ≡ true
or_true true = refl
or_true false = refl

constant_free_for : (x : Variable) (b k : Term) → ((v : Variable) → is_free v k ≡ false) → is_free_for b x k ≡ true
constant_free_for x b k h = free_for_unfree x b k (h x)

connected_free_for : (c : Connective) (z : Variable) (b s t : Term) → is_free_for b z s ≡ true → is_free_for b z t ≡ true → is_free_for b z (connected c s t) ≡ true
connected_free_for truth z b s t p q = refl
connected_free_for falsity z b s t p q = constant_free_for z b false_term false_closed
connected_free_for negation z b s t p q = rw (constant_free_for z b not_term not_closed, p) refl
connected_free_for disjunction z b s t p q = rw (constant_free_for z b or_term or_closed, p, q) refl
connected_free_for conjunction z b s t p q = rw (constant_free_for z b and_term and_closed, p, q) refl
connected_free_for implication z b s t p q = rw (constant_free_for z b imp_term imp_closed, p, q) refl
connected_free_for (equality a) z b s t p q = rw (p, q) refl
connected_free_for (universal a) z b s t p q = rw (free_for_unfree z b (all_term a) (and_false (not (same_variable z (x_of a)))), p) refl
connected_free_for (existential a) z b s t p q = rw (constant_free_for z b (some_term a) (some_closed a), p) refl
connected_free_for (choice a) z b s t p q = rw p refl

pub decoded_free_for : (t : Tree) (d n : ℕ) (z : Variable) (b : Term) → ((v : Variable) → d ≤ v.number → is_free v b ≡ false) → d ≤ n → is_free_for b z (decoded n t) ≡ true
decoded_free_for (variable a c) d n z b h l = refl
decoded_free_for (bound i c) d n z b h l = refl
decoded_free_for (symbol s c) d n z b h l = refl
decoded_free_for (app f x) d n z b h l = rw (decoded_free_for f d n z b h l, decoded_free_for x d n z b h l) refl
decoded_free_for (lam c t) d n z b h l = rw (h (named n c) l, decoded_free_for t d (n + 1) z b h (omega arith)) (or_true _)
decoded_free_for (logic c x y) d n z b h l = connected_free_for c z b _ _ (decoded_free_for x d n z b h l) (decoded_free_for y d n z b h l)
decoded_free_for absent d n z b h l = refl

-- replacement in a constant with its arguments
connected_replace : (c : Connective) (z : Variable) (b s t : Term) → replace z b (connected c s t) ≡ connected c (replace z b s) (replace z b t)
connected_replace truth z b s t = refl
connected_replace falsity z b s t = replace_unfree z b false_term (false_closed z)
connected_replace negation z b s t = rw (replace_unfree z b not_term (not_closed z)) refl
connected_replace disjunction z b s t = rw (replace_unfree z b or_term (or_closed z)) refl
connected_replace conjunction z b s t = rw (replace_unfree z b and_term (and_closed z)) refl
connected_replace implication z b s t = rw (replace_unfree z b imp_term (imp_closed z)) refl
connected_replace (equality a) z b s t = refl
connected_replace (universal a) z b s t = rw (replace_unfree z b (all_term a) (and_false (not (same_variable z (x_of a))))) refl
connected_replace (existential a) z b s t = rw (replace_unfree z b (some_term a) (some_closed a z)) refl
connected_replace (choice a) z b s t = refl

-- putting a term in for an index decodes, up to names, to the replacement of the index's variable
opened_index : (i first d m n n' : ℕ) (a b : SimpleType) (ks : List SimpleType) (x : Tree) → m ≡ length ks → n ≡ d + 1 + m → n' ≡ d + m → first ≤ d → IsFitting first d x → IsWellTyped x → Binds ks (bound i b) → IsBoundAt m a (bound i b) → first + i < n → shape (vars (d + 1) ks []) (replace (named d a) (decoded d x) (decoded n (bound i b))) ≡ shape (vars d ks []) (decoded n' (bound_opened m x i b))
opened_index i first d m n n' a b ks x em en en' lf fx wx binds typed fit =
    elim (order i m) [
      | inl l ↦
          (let w = slice_get-some ks i (omega arith) in
          let e : b ≡ w.0 = binds i w.0 w.1 refl in
          let f : slice_get ks i ≡ Some b = rw e w.1 in
          let g = different_numbers d (n - (i + 1)) a b (λ q. omega arith) in
          let p = place-at ks (d + 1) i (n - (i + 1)) b [] f (omega arith) in
          let q = place-at ks d i (n' - (i + 1)) b [] f (omega arith) in
          rw (bound_opened-below m x i b l, g, p, q) refl)
      | inr r ↦ elim r [
        | inl e ↦
            (let f : b ≡ a = typed e in
            let g : n - (i + 1) ≡ d = omega arith in
            let s = lifted_shape x first d m 0 d n' [] (vars (d + 1) ks []) (vars d ks []) refl (omega arith) (omega arith) lf (Skips-vars ks (d + 1) d (omega arith)) (Skips-vars ks d d (omega arith)) (λ j c h. absurd (cc)) wx fx in
            rw (bound_opened-at m x i b e, g, f, same_variable-refl (named d a)) s)
        | inr l ↦
            (let g = different_numbers d (n - (i + 1)) a b (λ q. omega arith) in
            let e : n' - (i - 1 + 1) ≡ n - (i + 1) = omega arith in
            let p = place-below ks (d + 1) (named (n - (i + 1)) b) [] (omega arith) refl in
            let q = place-below ks d (named (n - (i + 1)) b) [] (omega arith) refl in
            rw (bound_opened-above m x i b l, g, e, p, q) refl)
      ]
    ]

pub opened_shape : (t : Tree) (first d m n n' : ℕ) (a : SimpleType) (ks : List SimpleType) (x : Tree) → m ≡ length ks → n ≡ d + 1 + m → n' ≡ d + m → first ≤ d → IsFitting first d x → IsWellTyped x → Binds ks t → IsBoundAt m a t → IsWellTyped t → IsFitting first n t → shape (vars (d + 1) ks []) (replace (named d a) (decoded d x) (decoded n t)) ≡ shape (vars d ks []) (decoded n' (opened m x t))
opened_shape (variable c b) first d m n n' a ks x em en en' lf fx wx binds typed w fit =
    let g = different_numbers d c a b (λ q. omega arith) in
    let p = place-below ks (d + 1) (named c b) [] (omega arith) refl in
    let q = place-below ks d (named c b) [] (omega arith) refl in
    rw (g, p, q) refl
opened_shape (bound i b) first d m n n' a ks x em en en' lf fx wx binds typed w fit = opened_index i first d m n n' a b ks x em en en' lf fx wx binds typed fit
opened_shape (symbol s b) first d m n n' a ks x em en en' lf fx wx binds typed w fit = refl
opened_shape (app f y) first d m n n' a ks x em en en' lf fx wx binds typed w fit =
    let p = opened_shape f first d m n n' a ks x em en en' lf fx wx (λ j b h. (binds j b h).0) typed.0 w.0 fit.0 in
    let q = opened_shape y first d m n n' a ks x em en en' lf fx wx (λ j b h. (binds j b h).1) typed.1 w.1 fit.1 in
    rw (p, q) refl
opened_shape (lam b t) first d m n n' a ks x em en en' lf fx wx binds typed w fit =
    let p = opened_shape t first d (m + 1) (n + 1) (n' + 1) a (b ∷ ks) x (omega arith) (omega arith) (omega arith) lf fx wx (Binds-lam ks b t binds w.2) typed w.0 fit in
    let e : d + 1 + length ks ≡ n = omega arith in
    let e' : d + length ks ≡ n' = omega arith in
    let g = different_numbers d n a b (λ q. omega arith) in
    rw g (ap (lambda_shape b) (rw (e, e') at p))
opened_shape (logic c y z) first d m n n' a ks x em en en' lf fx wx binds typed w fit =
    let p = opened_shape y first d m n n' a ks x em en en' lf fx wx (λ j b h. (binds j b h).0) typed.0 w.0 fit.0 in
    let q = opened_shape z first d m n n' a ks x em en en' lf fx wx (λ j b h. (binds j b h).1) typed.1 w.1 fit.1 in
    rw (connected_replace c (named d a) (decoded d x) (decoded n y) (decoded n z)) (connected_shape c (vars (d + 1) ks []) (vars d ks []) _ _ _ _ p q)
opened_shape absent first d m n n' a ks x em en en' lf fx wx binds typed w fit = refl
