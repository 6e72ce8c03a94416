-- What a variable at the head of a formula is bound to fits it.
use Rattle.std.proofs.Common.{ℕ, zero, suc, nat_eq, ◌≡◌, ◌≤◌, ◌+◌, Bool, true, false, List, [], ◌∷◌, ◌++◌, length, slice_get, Some, refl, sym, ◌∙◌, ap, arith}
use Rattle.std.specs.Bool.{if◌then◌else◌}
use Rattle.std.proofs.lemmas.Bool.Decides.{nat_tests}
use Rattle.leo_q0.specs.Terms.{SimpleType, base, arrow, same_type}
use Rattle.leo_terms.specs.Tree.{codomain, Tree, variable, bound, app, truth_type, type_of}
use Rattle.leo_terms.proofs.ListLemmas.{slice_get-append}
use Rattle.leo_clause.specs.Arranging.{firsts}
use Rattle.leo_clause.specs.Typed.{IsOver}
use Rattle.leo_kernel.specs.Conditions.{AreTermsFor}
use Rattle.leo_ext.specs.Binding.{Binding, argument_types, arrows, under_lambdas, of_indices, fresh_function, truth_binding, negation_binding, disjunction_binding, equation_binding, bindings, given_for}
use Rattle.leo_ext.proofs.Each.{Each, each-all, each-map}
use Rattle.leo_ext.proofs.Parts.{given_last}

-- types of functions
pub arrows-arguments : (a : SimpleType) → arrows (argument_types a) (given_last a) ≡ a
arrows-arguments (base n) = refl
arrows-arguments (arrow a b) = ap (arrow a) (arrows-arguments b)

pub lambdas-type : (types : List SimpleType) (t : Tree) → type_of (under_lambdas types t) ≡ arrows types (type_of t)
lambdas-type [] t = refl
lambdas-type (a ∷ types) t = ap (arrow a) (lambdas-type types t)

pub indices-type : (types : List SimpleType) (f : Tree) (b : SimpleType) → type_of f ≡ arrows types b → type_of (of_indices types f) ≡ b
indices-type [] f b e = e
indices-type (a ∷ types) f b e = indices-type types (app f (bound (length types) a)) b (ap codomain e)

module _ (variables : List SimpleType) where
  lambdas-over : (types : List SimpleType) (t : Tree) (d : ℕ) → IsOver variables (d + length types) t → IsOver variables d (under_lambdas types t)
  lambdas-over [] t d h = (let e : d + zero ≡ d = omega arith in rw e at h)
  lambdas-over (a ∷ types) t d h = lambdas-over types t (d + 1) (let e : d + suc (length types) ≡ d + 1 + length types = omega arith in rw e at h)

  indices-over : (types : List SimpleType) (f : Tree) (d : ℕ) → length types ≤ d → IsOver variables d f → IsOver variables d (of_indices types f)
  indices-over [] f d l h = h
  indices-over (a ∷ types) f d l h = indices-over types (app f (bound (length types) a)) d (omega arith) (h, omega arith)

  -- a fresh variable
  function-over : (n : ℕ) (types : List SimpleType) (b : SimpleType) → slice_get variables n ≡ Some (arrows types b) → IsOver variables (length types) (fresh_function n types b)
  function-over n types b e = indices-over types (variable n (arrows types b)) (length types) (omega arith) e

pub function-typed : (n : ℕ) (types : List SimpleType) (b : SimpleType) → type_of (fresh_function n types b) ≡ b
function-typed n types b = indices-type types (variable n (arrows types b)) b refl

-- a truth value, over the variables and the fresh ones, below lambdas for these types
pub record IsTruthBinding (variables types : List SimpleType) (b : Binding) : Type 0 where
  pub type : type_of b.body ≡ truth_type
  pub over : IsOver (variables ++ b.fresh) (length types) b.body

first-fresh : (variables : List SimpleType) (a : SimpleType) (more : List SimpleType) → slice_get (variables ++ a ∷ more) (length variables) ≡ Some a
first-fresh [] a more = refl
first-fresh (b ∷ variables) a more = first-fresh variables a more

second-fresh : (variables : List SimpleType) (a b : SimpleType) → slice_get (variables ++ a ∷ b ∷ []) (length variables + 1) ≡ Some b
second-fresh [] a b = refl
second-fresh (c ∷ variables) a b = let e : suc (length variables) + 1 ≡ suc (length variables + 1) = omega arith in rw e (second-fresh variables a b)

truth-good : (variables types : List SimpleType) (v : Bool) → IsTruthBinding variables types (truth_binding v)
truth-good variables types true = record { type = refl; over = (tt, tt) }
truth-good variables types false = record { type = refl; over = (tt, tt) }

module _ (variables types : List SimpleType) where
  abbrev n : ℕ
  n = length variables

  negation-good : IsTruthBinding variables types (negation_binding n types)
  negation-good = record { type = refl; over = (function-over (variables ++ arrows types truth_type ∷ []) n types truth_type (first-fresh variables (arrows types truth_type) []), tt) }

  disjunction-good : IsTruthBinding variables types (disjunction_binding n types)
  disjunction-good =
      let a = arrows types truth_type in
      let vs = variables ++ a ∷ a ∷ [] in
      record { type = refl; over = (function-over vs n types truth_type (first-fresh variables a (a ∷ [])), function-over vs (n + 1) types truth_type (second-fresh variables a a)) }

  equation-good : (b : SimpleType) → IsTruthBinding variables types (equation_binding n types b)
  equation-good b =
      let a = arrows types b in
      let vs = variables ++ a ∷ a ∷ [] in
      record { type = refl; over = (function-over vs n types b (first-fresh variables a (a ∷ [])), function-over vs (n + 1) types b (second-fresh variables a a)) }

  pub bindings-good : Each (IsTruthBinding variables types) (bindings n types)
  bindings-good = (truth-good variables types true, (truth-good variables types false, (negation-good, (disjunction-good, each-map (IsTruthBinding variables types) (equation_binding n types) (firsts same_type [] types) (each-all (λ b. IsTruthBinding variables types (equation_binding n types b)) (firsts same_type [] types) equation-good)))))

-- the terms that are given
module _ (new : List SimpleType) (n : ℕ) (t : Tree) where
  given-by : (m : ℕ) (a : SimpleType) (b : Bool) → nat_eq m n ≡ b → slice_get new m ≡ Some a → (m ≡ n → (type_of t ≡ a) × IsOver new 0 t) → (type_of (if b then t else variable m a) ≡ a) × IsOver new 0 (if b then t else variable m a)
  given-by m a true e h f = f (grind (arith, nat_tests))
  given-by m a false e h f = (refl, h)

  given-from : (m : ℕ) (types : List SimpleType) → ((k : ℕ) (a : SimpleType) → slice_get types k ≡ Some a → (slice_get new (m + k) ≡ Some a) × (m + k ≡ n → (type_of t ≡ a) × IsOver new 0 t)) → AreTermsFor new types (given_for n t m types)
  given-from m [] h = tt
  given-from m (a ∷ types) h =
      let e : m + zero ≡ m = omega arith in
      let g = h zero a refl in
      let p = given-by m a (nat_eq m n) refl (rw e at g).0 (rw e at g).1 in
      (p.0, p.1, given-from (m + 1) types (λ k b f. (let q : m + suc k ≡ m + 1 + k = omega arith in let r = h (suc k) b f in rw q at r)))

-- a binding of a variable of the clause
pub given-good : (variables : List SimpleType) (n : ℕ) (a : SimpleType) (b : Binding) → slice_get variables n ≡ Some a → given_last a ≡ truth_type → IsTruthBinding variables (argument_types a) b → AreTermsFor (variables ++ b.fresh) variables (given_for n (under_lambdas (argument_types a) b.body) 0 variables)
given-good variables n a b e last h = given-from (variables ++ b.fresh) n (under_lambdas (argument_types a) b.body) 0 variables given
  where
    full : arrows (argument_types a) truth_type ≡ a
    full = ap (arrows (argument_types a)) (sym last) ∙ arrows-arguments a

    fits : (c : SimpleType) → slice_get variables n ≡ Some c → (type_of (under_lambdas (argument_types a) b.body) ≡ c) × IsOver (variables ++ b.fresh) 0 (under_lambdas (argument_types a) b.body)
    fits c f =
        let same : a ≡ c = (let g : Some a ≡ Some c = sym e ∙ f in cc) in
        let z : 0 + length (argument_types a) ≡ length (argument_types a) = omega arith in
        (lambdas-type (argument_types a) b.body ∙ ap (arrows (argument_types a)) h.type ∙ full ∙ same, lambdas-over (variables ++ b.fresh) (argument_types a) b.body 0 (rw z h.over))

    given : (k : ℕ) (c : SimpleType) → slice_get variables k ≡ Some c → (slice_get (variables ++ b.fresh) (0 + k) ≡ Some c) × (0 + k ≡ n → (type_of (under_lambdas (argument_types a) b.body) ≡ c) × IsOver (variables ++ b.fresh) 0 (under_lambdas (argument_types a) b.body))
    given k c f = (
      (let z : 0 + k ≡ k = omega arith in rw z (slice_get-append variables b.fresh k c f)),
      λ g. (let y : k ≡ n = omega arith in fits c (rw y at f)),
    )
