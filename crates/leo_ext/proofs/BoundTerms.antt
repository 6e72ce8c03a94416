-- The terms that a variable at the head of a formula is bound to: their indices, and the terms that are given then.
use Rattle.std.proofs.Common.{ℕ, zero, suc, nat_eq, ◌≡◌, ◌∙◌, ◌≤◌, ◌<◌, ◌+◌, Bool, true, false, List, [], ◌∷◌, length, slice_get, Some, refl, sym, ap, arith}
use Rattle.std.specs.Bool.{if◌then◌else◌}
use Rattle.leo_q0.specs.Terms.{SimpleType, same_type}
use Rattle.leo_terms.specs.Tree.{Tree, Connective, variable, bound, app, logic, absent, truth_type, IsBoundAt}
use Rattle.leo_clause.specs.Arranging.{firsts}
use Rattle.leo_kernel.specs.Shapes.{truth_tree}
use Rattle.leo_ext.specs.Binding.{Binding, argument_types, arrows, under_lambdas, of_indices, fresh_function, equation_binding, bindings, given_for}
use Rattle.leo_ext.specs.Bounds.{AreFitting, AreIndicesOf}
use Rattle.leo_ext.proofs.Bindings.{IsTruthBinding, arrows-arguments, bindings-good}
use Rattle.leo_ext.proofs.Each.{Each, each-all, each-map}
use Rattle.leo_ext.proofs.Parts.{given_last}

-- the index k of a function of indices below k
small-bound : (k : ℕ) (a : SimpleType) (types : List SimpleType) (f : Tree) → length types ≤ k → IsBoundAt k a f → IsBoundAt k a (of_indices types f)
small-bound k a [] f l h = h
small-bound k a (b ∷ types) f l h = small-bound k a types (app f (bound (length types) b)) (omega arith) (h, λ e. absurd (omega arith))

indices-of : (types : List SimpleType) (f : Tree) → ((k : ℕ) (a : SimpleType) → k < length types → IsBoundAt k a f) → AreIndicesOf types (of_indices types f)
indices-of [] f h = tt
indices-of (b ∷ types) f h = (
  small-bound (length types) b types (app f (bound (length types) b)) (omega arith) (h (length types) b (omega arith), λ e. refl),
  indices-of types (app f (bound (length types) b)) (λ k a l. (h k a (omega arith), λ e. absurd (omega arith))),
)

function-indices : (n : ℕ) (types : List SimpleType) (b : SimpleType) → AreIndicesOf types (fresh_function n types b)
function-indices n types b = indices-of types (variable n (arrows types b)) (λ k a l. tt)

absent-indices : (types : List SimpleType) → AreIndicesOf types absent
absent-indices [] = tt
absent-indices (a ∷ types) = (tt, absent-indices types)

logic-indices : (types : List SimpleType) (o : Connective) (x y : Tree) → AreIndicesOf types x → AreIndicesOf types y → AreIndicesOf types (logic o x y)
logic-indices [] o x y h g = tt
logic-indices (a ∷ types) o x y h g = ((h.0, g.0), logic-indices types o x y h.1 g.1)

truth-indices : (types : List SimpleType) (v : Bool) → AreIndicesOf types (truth_tree v)
truth-indices types true = logic-indices types _ absent absent (absent-indices types) (absent-indices types)
truth-indices types false = logic-indices types _ absent absent (absent-indices types) (absent-indices types)

-- all bindings fit
fitting-each : (variables types : List SimpleType) (bs : List Binding) → Each (IsTruthBinding variables types) bs → Each (λ b. AreIndicesOf types b.body) bs → AreFitting variables types bs
fitting-each variables types [] h g = tt
fitting-each variables types (b ∷ bs) h g = (record { type = h.0.type; over = h.0.over; indices = g.0 }, fitting-each variables types bs h.1 g.1)

bindings-indices : (n : ℕ) (types : List SimpleType) → Each (λ b. AreIndicesOf types b.body) (bindings n types)
bindings-indices n types =
    let equations = each-map (λ b. AreIndicesOf types b.body) (equation_binding n types) (firsts same_type [] types) (each-all (λ b. AreIndicesOf types (equation_binding n types b).body) (firsts same_type [] types) (λ b. logic-indices types _ _ _ (function-indices n types b) (function-indices (n + 1) types b))) in
    (truth-indices types true, (truth-indices types false, (logic-indices types _ _ absent (function-indices n types truth_type) (absent-indices types), (logic-indices types _ _ _ (function-indices n types truth_type) (function-indices (n + 1) types truth_type), equations))))

pub bindings-fit : (variables types : List SimpleType) → AreFitting variables types (bindings (length variables) types)
bindings-fit variables types = fitting-each variables types (bindings (length variables) types) (bindings-good variables types) (bindings-indices (length variables) types)

-- an index below lambdas
lambdas-bound : (types : List SimpleType) (t : Tree) (d : ℕ) (a : SimpleType) → IsBoundAt (d + length types) a t → IsBoundAt d a (under_lambdas types t)
lambdas-bound [] t d a h = (let e : d + zero ≡ d = omega arith in rw e at h)
lambdas-bound (b ∷ types) t d a h = lambdas-bound types t (d + 1) a (let e : d + suc (length types) ≡ d + 1 + length types = omega arith in rw e at h)

pub first-bound : (types : List SimpleType) (t : Tree) (a : SimpleType) → IsBoundAt (length types) a t → IsBoundAt 0 a (under_lambdas types t)
first-bound types t a h = lambdas-bound types t 0 a (let e : 0 + length types ≡ length types = omega arith in rw e h)

-- types of functions
arrows-same : (types : List SimpleType) (a b : SimpleType) → arrows types a ≡ arrows types b → a ≡ b
arrows-same [] a b e = e
arrows-same (c ∷ types) a b e = arrows-same types a b (cc)

pub truth-last : (a : SimpleType) → arrows (argument_types a) truth_type ≡ a → given_last a ≡ truth_type
truth-last a e = arrows-same (argument_types a) (given_last a) truth_type (arrows-arguments a ∙ sym e)

-- the terms that are given
abbrev pub given_by : ℕ → Tree → ℕ → SimpleType → Tree
given_by n t m a = if nat_eq m n then t else variable m a

given-from : (n : ℕ) (t : Tree) (m : ℕ) (types : List SimpleType) (given : List Tree) → length given ≡ length types → ((k : ℕ) (a : SimpleType) → slice_get types k ≡ Some a → slice_get given k ≡ Some (given_by n t (m + k) a)) → given ≡ given_for n t m types
given-from n t m [] [] l h = refl
given-from n t m [] (s ∷ given) l h = absurd (omega arith)
given-from n t m (a ∷ types) [] l h = absurd (omega arith)
given-from n t m (a ∷ types) (s ∷ given) l h =
    let z : m + zero ≡ m = omega arith in
    let g = h zero a refl in
    let e : s ≡ given_by n t m a = (let f : Some s ≡ Some (given_by n t m a) = rw z at g in cc) in
    let r : given ≡ given_for n t (m + 1) types = given-from n t (m + 1) types given (omega arith) (λ k b f. (let q : m + suc k ≡ m + 1 + k = omega arith in let j = h (suc k) b f in rw q at j)) in
    ap (λ (ts : List Tree). s ∷ ts) r ∙ ap (λ (x : Tree). x ∷ given_for n t (m + 1) types) e

pub given-whole : (n : ℕ) (t : Tree) (types : List SimpleType) (given : List Tree) → length given ≡ length types → ((k : ℕ) (a : SimpleType) → slice_get types k ≡ Some a → slice_get given k ≡ Some (given_by n t k a)) → given ≡ given_for n t 0 types
given-whole n t types given l h = given-from n t 0 types given l (λ k a f. (let q : 0 + k ≡ k = omega arith in rw q (h k a f)))
