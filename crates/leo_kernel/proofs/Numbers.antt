-- Numbers of a bank against what they read as.
use Rattle.std.proofs.Common.{ℕ, zero, suc, nat_eq, ◌≡◌, ◌∙◌, ◌<◌, ◌≤◌, Bool, true, false, List, [], ◌∷◌, length, map, slice_get, slice_index_or, None, refl, arith}
use Rattle.std.proofs.lemmas.Bool.Decides.{nat_tests}
use Rattle.leo_q0.specs.Terms.{SimpleType, same_type}
use Rattle.leo_q0.proofs.Variables.{same_type-refl, equal_types}
use Rattle.leo_terms.specs.Contents.{Contents, IsBank, type_at}
use Rattle.leo_terms.proofs.CallerLemmas.{type-shared}
use Rattle.leo_clause.specs.Typed.{AreTypesOf}
use Rattle.leo_kernel.specs.Leaves.{is_type}
use Rattle.leo_kernel.proofs.Lists.{get-mapped, get-map, get-none, same-answer}

same-number : (n : ℕ) → nat_eq n n ≡ true
same-number n = grind (arith, nat_tests)

equal-numbers : (m n : ℕ) → nat_eq m n ≡ true → m ≡ n
equal-numbers m n h = grind (arith, nat_tests)

-- types
pub types-at : (c : Contents) (vars : List ℕ) → AreTypesOf c vars → (i a : ℕ) → i < length vars → a ≡ slice_index_or vars i a → a < length c.types
types-at c [] h i a l e = absurd (omega arith)
types-at c (b ∷ vars) h zero a l e = rw e h.0
types-at c (b ∷ vars) h (suc i) a l e = types-at c vars h.1 i a (omega arith) e

pub same_type-numbers : (c : Contents) → IsBank c → (i j : ℕ) → i < length c.types → j < length c.types → nat_eq i j ≡ same_type (type_at c i) (type_at c j)
same_type-numbers c b i j k l =
    same-answer (nat_eq i j) (same_type (type_at c i) (type_at c j))
    (λ e. let f : i ≡ j = equal-numbers i j e in rw f (same_type-refl (type_at c j)))
    (λ e. let f : i ≡ j = type-shared b i j k l (equal_types (type_at c i) (type_at c j) e) in rw f (same-number j))

pub declared-type : (c : Contents) → IsBank c → (vars : List ℕ) → AreTypesOf c vars → (n a x : ℕ) → n < length vars → x ≡ slice_index_or vars n x → a < length c.types → (r : Bool) → r ≡ nat_eq x a → r ≡ is_type (slice_get (map (type_at c) vars) n) (type_at c a)
declared-type c b vars h n a x l e k r f =
    let w : x < length c.types = types-at c vars h n x l e in
    rw (get-mapped (type_at c) vars n x l e) (f ∙ same_type-numbers c b x a w k)

pub undeclared : (c : Contents) (vars : List ℕ) (n : ℕ) (a : SimpleType) → length vars ≤ n → is_type (slice_get (map (type_at c) vars) n) a ≡ false
undeclared c vars n a l =
    let e : slice_get (map (type_at c) vars) n ≡ None = get-map (type_at c) vars n ∙ rw (get-none vars n l) refl in
    rw e refl
