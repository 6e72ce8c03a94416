-- A function of all variables of a term is closed.
use Rattle.std.proofs.Common.{ℕ, nat_eq, ◌≡◌, ◌+◌, Bool, true, false, ◌||◌, List, [], ◌∷◌, refl}
use Rattle.std.specs.Bool.{if◌then◌else◌}
use Rattle.std.specs.List.{list_any}
use Rattle.leo_q0.specs.Terms.{SimpleType}
use Rattle.leo_terms.specs.Tree.{Tree, variable, bound, symbol, app, lam, logic, absent}
use Rattle.leo_clause.specs.Arranging.{occurring}
use Rattle.leo_clause.specs.Renaming.{AreSeen}
use Rattle.leo_clause.specs.Typed.{IsOver}
use Rattle.leo_clause.proofs.Renumbered.{AreSeen-parts}
use Rattle.leo_clause.proofs.Seen.{AreSeen-met}
use Rattle.leo_clausify.specs.Choosing.{indexed, function_of, variables_of}

-- each variable of the term meets the condition
abbrev pub AllVariables : (ℕ → Type 0) → Tree → Type 0
AllVariables P (variable n a) = P n
AllVariables P (bound i a) = Unit {0}
AllVariables P (symbol s a) = Unit {0}
AllVariables P (app f x) = AllVariables P f × AllVariables P x
AllVariables P (lam a t) = AllVariables P t
AllVariables P (logic c x y) = AllVariables P x × AllVariables P y
AllVariables P absent = Unit {0}

all-weaker : (P Q : ℕ → Type 0) → ((n : ℕ) → P n → Q n) → (t : Tree) → AllVariables P t → AllVariables Q t
all-weaker P Q f (variable n a) h = f n h
all-weaker P Q f (bound i a) h = tt
all-weaker P Q f (symbol s a) h = tt
all-weaker P Q f (app g x) h = (all-weaker P Q f g h.0, all-weaker P Q f x h.1)
all-weaker P Q f (lam a t) h = all-weaker P Q f t h
all-weaker P Q f (logic c x y) h = (all-weaker P Q f x h.0, all-weaker P Q f y h.1)
all-weaker P Q f absent h = tt

all-variable : (P : ℕ → Type 0) (n k m : ℕ) (a : SimpleType) (b : Bool) → nat_eq m n ≡ b → P m → AllVariables (λ m. P m × (nat_eq m n ≡ false)) (if b then bound k a else variable m a)
all-variable P n k m a true e h = tt
all-variable P n k m a false e h = (h, e)

all-indexed : (P : ℕ → Type 0) (n : ℕ) (t : Tree) (k : ℕ) → AllVariables P t → AllVariables (λ m. P m × (nat_eq m n ≡ false)) (indexed n k t)
all-indexed P n (variable m a) k h = all-variable P n k m a (nat_eq m n) refl h
all-indexed P n (bound i a) k h = tt
all-indexed P n (symbol s a) k h = tt
all-indexed P n (app f x) k h = (all-indexed P n f k h.0, all-indexed P n x k h.1)
all-indexed P n (lam a t) k h = all-indexed P n t (k + 1) h
all-indexed P n (logic c x y) k h = (all-indexed P n x k h.0, all-indexed P n y k h.1)
all-indexed P n absent k h = tt

neither : (b c : Bool) → b ≡ false → c ≡ false → (b || c) ≡ false
neither b c e f = rw (e, f) refl

all-function : (P : ℕ → Type 0) (variables : List SimpleType) (ns : List ℕ) (t : Tree) → AllVariables P t → AllVariables (λ m. P m × (list_any (nat_eq m) ns ≡ false)) (function_of variables ns t)
all-function P variables [] t h = all-weaker P (λ m. P m × (list_any (nat_eq m) [] ≡ false)) (λ m p. (p, refl)) t h
all-function P variables (n ∷ ns) t h =
    all-weaker (λ m. (P m × (list_any (nat_eq m) ns ≡ false)) × (nat_eq m n ≡ false)) (λ m. P m × (list_any (nat_eq m) (n ∷ ns) ≡ false)) (λ m p. (p.0.0, neither (nat_eq m n) (list_any (nat_eq m) ns) p.1 p.0.1)) (indexed n 0 (function_of variables ns t))
    (all-indexed (λ m. P m × (list_any (nat_eq m) ns ≡ false)) n (function_of variables ns t) 0 (all-function P variables ns t h))

all-seen : (order : List ℕ) (t : Tree) → AreSeen order (occurring t) → AllVariables (λ m. list_any (nat_eq m) order ≡ true) t
all-seen order (variable n a) h = h.0
all-seen order (bound i a) h = tt
all-seen order (symbol s a) h = tt
all-seen order (app f x) h = let p = AreSeen-parts (occurring f) (occurring x) order h in (all-seen order f p.0, all-seen order x p.1)
all-seen order (lam a t) h = all-seen order t h
all-seen order (logic c x y) h = let p = AreSeen-parts (occurring x) (occurring y) order h in (all-seen order x p.0, all-seen order y p.1)
all-seen order absent h = tt

none-over : (order : List ℕ) (variables : List SimpleType) (depth : ℕ) (t : Tree) → AllVariables (λ m. (list_any (nat_eq m) order ≡ true) × (list_any (nat_eq m) order ≡ false)) t → IsOver variables depth t → IsOver [] depth t
none-over order variables depth (variable n a) h o = (let p = h.0 in let q = h.1 in let f : ⊥ = cc in absurd f)
none-over order variables depth (bound i a) h o = o
none-over order variables depth (symbol s a) h o = tt
none-over order variables depth (app f x) h o = (none-over order variables depth f h.0 o.0, none-over order variables depth x h.1 o.1)
none-over order variables depth (lam a t) h o = none-over order variables (depth + 1) t h o
none-over order variables depth (logic c x y) h o = (none-over order variables depth x h.0 o.0, none-over order variables depth y h.1 o.1)
none-over order variables depth absent h o = tt

pub function-closed : (variables : List SimpleType) (t : Tree) → IsOver variables 0 (function_of variables (variables_of t) t) → IsOver [] 0 (function_of variables (variables_of t) t)
function-closed variables t over =
    none-over (variables_of t) variables 0 (function_of variables (variables_of t) t)
    (all-function (λ m. list_any (nat_eq m) (variables_of t) ≡ true) variables (variables_of t) t (all-seen (variables_of t) t (AreSeen-met (occurring t) []))) over
