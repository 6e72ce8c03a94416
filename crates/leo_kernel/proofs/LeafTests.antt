-- What passes the tests of leaves.
use Rattle.std.proofs.Common.{ℕ, zero, suc, nat_eq, nat_lt, ◌≡◌, ◌∙◌, ◌+◌, ◌<◌, Bool, true, false, not, ◌&&◌, List, [], ◌∷◌, map, slice_get, Option, Some, None, refl, sym, ap, arith}
use Rattle.std.proofs.lemmas.Bool.{and_parts}
use Rattle.std.proofs.lemmas.Bool.Decides.{nat_tests}
use Rattle.leo_q0.specs.Terms.{SimpleType}
use Rattle.leo_q0.proofs.Variables.{same_type-refl, equal_types}
use Rattle.leo_terms.specs.Tree.{Tree, variable, bound, symbol, app, lam, logic, absent, type_of, IsGiven, IsOfTypeIfGiven}
use Rattle.leo_clause.specs.Typed.{IsOver}
use Rattle.leo_kernel.specs.declared.leaves.LeafTest.TheVariants.{Over, Declared, Lacks}
use Rattle.leo_kernel.specs.Symbols.{LacksSymbol, HasNoVariable}
use Rattle.leo_kernel.specs.Leaves.{is_type, leaves_pass}
use Rattle.std.specs.Bool.{Decides}

pub both : (p q : Bool) → p ≡ true → q ≡ true → (p && q) ≡ true
both p q e f = rw (e, f) refl

pub is_type-true : (o : Option SimpleType) (a : SimpleType) → o ≡ Some a → is_type o a ≡ true
is_type-true o a e = rw e (same_type-refl a)

pub true-is_type : (o : Option SimpleType) (a : SimpleType) → is_type o a ≡ true → o ≡ Some a
true-is_type None a e = cc
true-is_type (Some b) a e = ap Some (equal_types b a e)

below-true : (i n : ℕ) → i < n → nat_lt i n ≡ true
below-true i n h = grind (arith, nat_tests)

true-below : (i n : ℕ) → nat_lt i n ≡ true → i < n
true-below i n h = grind (arith, nat_tests)

apart-true : (n s : ℕ) → (n ≡ s → ⊥) → not (nat_eq n s) ≡ true
apart-true n s h = grind (arith, nat_tests)

true-apart : (n s : ℕ) → not (nat_eq n s) ≡ true → n ≡ s → ⊥
true-apart n s h e = grind (arith, nat_tests)

-- over variables, with no loose index
pub over-passes : (vars : List SimpleType) (depth : ℕ) (t : Tree) → IsOver vars depth t → leaves_pass Over vars depth t ≡ true
over-passes vars depth (variable n a) h = is_type-true (slice_get vars n) a h
over-passes vars depth (bound i a) h = below-true i depth h
over-passes vars depth (symbol n a) h = refl
over-passes vars depth (app f x) h = both _ _ (over-passes vars depth f h.0) (over-passes vars depth x h.1)
over-passes vars depth (lam a t) h = over-passes vars (depth + 1) t h
over-passes vars depth (logic c x y) h = both _ _ (over-passes vars depth x h.0) (over-passes vars depth y h.1)
over-passes vars depth absent h = refl

pub passes-over : (vars : List SimpleType) (depth : ℕ) (t : Tree) → leaves_pass Over vars depth t ≡ true → IsOver vars depth t
passes-over vars depth (variable n a) h = true-is_type (slice_get vars n) a h
passes-over vars depth (bound i a) h = true-below i depth h
passes-over vars depth (symbol n a) h = tt
passes-over vars depth (app f x) h = let p = and_parts (leaves_pass Over vars depth f) _ h in (passes-over vars depth f p.0, passes-over vars depth x p.1)
passes-over vars depth (lam a t) h = passes-over vars (depth + 1) t h
passes-over vars depth (logic c x y) h = let p = and_parts (leaves_pass Over vars depth x) _ h in (passes-over vars depth x p.0, passes-over vars depth y p.1)
passes-over vars depth absent h = tt

-- terms of the types of the variables
given-some : (given : List Tree) (n : ℕ) (a : SimpleType) → IsOfTypeIfGiven a (slice_get given n) → slice_get (map type_of given) n ≡ Some a
given-some [] n a h = absurd h
given-some (t ∷ given) zero a h = ap Some h
given-some (t ∷ given) (suc n) a h = given-some given n a h

some-given : (given : List Tree) (n : ℕ) (a : SimpleType) → slice_get (map type_of given) n ≡ Some a → IsOfTypeIfGiven a (slice_get given n)
some-given [] n a h = absurd (cc)
some-given (t ∷ given) zero a h = cc
some-given (t ∷ given) (suc n) a h = some-given given n a h

pub given-passes : (given : List Tree) (depth : ℕ) (t : Tree) → IsGiven given t → leaves_pass Declared (map type_of given) depth t ≡ true
given-passes given depth (variable n a) h = is_type-true (slice_get (map type_of given) n) a (given-some given n a h)
given-passes given depth (bound i a) h = refl
given-passes given depth (symbol n a) h = refl
given-passes given depth (app f x) h = both _ _ (given-passes given depth f h.0) (given-passes given depth x h.1)
given-passes given depth (lam a t) h = given-passes given (depth + 1) t h
given-passes given depth (logic c x y) h = both _ _ (given-passes given depth x h.0) (given-passes given depth y h.1)
given-passes given depth absent h = refl

pub passes-given : (given : List Tree) (depth : ℕ) (t : Tree) → leaves_pass Declared (map type_of given) depth t ≡ true → IsGiven given t
passes-given given depth (variable n a) h = some-given given n a (true-is_type (slice_get (map type_of given) n) a h)
passes-given given depth (bound i a) h = tt
passes-given given depth (symbol n a) h = tt
passes-given given depth (app f x) h = let p = and_parts (leaves_pass Declared (map type_of given) depth f) _ h in (passes-given given depth f p.0, passes-given given depth x p.1)
passes-given given depth (lam a t) h = passes-given given (depth + 1) t h
passes-given given depth (logic c x y) h = let p = and_parts (leaves_pass Declared (map type_of given) depth x) _ h in (passes-given given depth x p.0, passes-given given depth y p.1)
passes-given given depth absent h = tt

-- no variable
pub no_variable-passes : (depth : ℕ) (t : Tree) → HasNoVariable t → leaves_pass Declared [] depth t ≡ true
no_variable-passes depth (variable n a) h = absurd h
no_variable-passes depth (bound i a) h = refl
no_variable-passes depth (symbol n a) h = refl
no_variable-passes depth (app f x) h = both _ _ (no_variable-passes depth f h.0) (no_variable-passes depth x h.1)
no_variable-passes depth (lam a t) h = no_variable-passes (depth + 1) t h
no_variable-passes depth (logic c x y) h = both _ _ (no_variable-passes depth x h.0) (no_variable-passes depth y h.1)
no_variable-passes depth absent h = refl

pub passes-no_variable : (depth : ℕ) (t : Tree) → leaves_pass Declared [] depth t ≡ true → HasNoVariable t
passes-no_variable depth (variable n a) h = (let f : false ≡ true = h in cc)
passes-no_variable depth (bound i a) h = tt
passes-no_variable depth (symbol n a) h = tt
passes-no_variable depth (app f x) h = let p = and_parts (leaves_pass Declared [] depth f) _ h in (passes-no_variable depth f p.0, passes-no_variable depth x p.1)
passes-no_variable depth (lam a t) h = passes-no_variable (depth + 1) t h
passes-no_variable depth (logic c x y) h = let p = and_parts (leaves_pass Declared [] depth x) _ h in (passes-no_variable depth x p.0, passes-no_variable depth y p.1)
passes-no_variable depth absent h = tt

-- without a symbol
pub lacks-passes : (s : ℕ) (vars : List SimpleType) (depth : ℕ) (t : Tree) → LacksSymbol s t → leaves_pass (Lacks s) vars depth t ≡ true
lacks-passes s vars depth (variable n a) h = refl
lacks-passes s vars depth (bound i a) h = refl
lacks-passes s vars depth (symbol n a) h = apart-true n s h
lacks-passes s vars depth (app f x) h = both _ _ (lacks-passes s vars depth f h.0) (lacks-passes s vars depth x h.1)
lacks-passes s vars depth (lam a t) h = lacks-passes s vars (depth + 1) t h
lacks-passes s vars depth (logic c x y) h = both _ _ (lacks-passes s vars depth x h.0) (lacks-passes s vars depth y h.1)
lacks-passes s vars depth absent h = refl

pub passes-lacks : (s : ℕ) (vars : List SimpleType) (depth : ℕ) (t : Tree) → leaves_pass (Lacks s) vars depth t ≡ true → LacksSymbol s t
passes-lacks s vars depth (variable n a) h = tt
passes-lacks s vars depth (bound i a) h = tt
passes-lacks s vars depth (symbol n a) h = true-apart n s h
passes-lacks s vars depth (app f x) h = let p = and_parts (leaves_pass (Lacks s) vars depth f) _ h in (passes-lacks s vars depth f p.0, passes-lacks s vars depth x p.1)
passes-lacks s vars depth (lam a t) h = passes-lacks s vars (depth + 1) t h
passes-lacks s vars depth (logic c x y) h = let p = and_parts (leaves_pass (Lacks s) vars depth x) _ h in (passes-lacks s vars depth x p.0, passes-lacks s vars depth y p.1)
passes-lacks s vars depth absent h = tt

-- a test in both directions decides
pub decides : {P : Type 0} (b : Bool) (c : Bool) → b ≡ c → (P → c ≡ true) → (c ≡ true → P) → Decides b P
decides b c e f g = (λ x. g (sym e ∙ x), λ p. e ∙ f p)
