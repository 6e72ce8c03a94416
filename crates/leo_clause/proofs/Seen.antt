-- Numbers in the order in which they are first met.
use Rattle.std.proofs.Common.{ℕ, nat_eq, ◌≡◌, Bool, true, false, List, [], ◌∷◌, ◌++◌, slice_index_or, length, take, ◌+◌, ◌<◌, refl}
use Rattle.std.proofs.lemmas.List.{take_more}
use Rattle.std.specs.Bool.{if◌then◌else◌}
use Rattle.std.specs.Prelude.{◌||◌}
use Rattle.std.specs.List.{list_any}
use Rattle.leo_clause.specs.Arranging.{firsts}
use Rattle.leo_clause.specs.Renaming.{AreSeen}
use Rattle.leo_clause.proofs.Same.{same-number}

or-true : (b c d : Bool) → (b || c) ≡ true → (c ≡ true → d ≡ true) → (b || d) ≡ true
or-true true c d h f = refl
or-true false c d h f = f h

any-append : (test : ℕ → Bool) (xs ys : List ℕ) → list_any test xs ≡ true → list_any test (xs ++ ys) ≡ true
any-append test [] ys h = absurd (cc)
any-append test (x ∷ xs) ys h = or-true (test x) (list_any test xs) (list_any test (xs ++ ys)) h (any-append test xs ys)

or-second : (b c : Bool) → c ≡ true → (b || c) ≡ true
or-second true c h = refl
or-second false c h = h

any-last : (n : ℕ) (xs : List ℕ) → list_any (nat_eq n) (xs ++ n ∷ []) ≡ true
any-last n [] = rw (same-number n) refl
any-last n (x ∷ xs) = or-second (nat_eq n x) (list_any (nat_eq n) (xs ++ n ∷ [])) (any-last n xs)

-- the walk over a list goes on from what was found in its front
module _ {X : Type 0} (same : X → X → Bool) where
  append-by : (b : Bool) (x : X) (xs ys seen : List X) → firsts same seen (xs ++ ys) ≡ firsts same (firsts same seen xs) ys → firsts same (seen ++ x ∷ []) (xs ++ ys) ≡ firsts same (firsts same (seen ++ x ∷ []) xs) ys → (if b then firsts same seen (xs ++ ys) else firsts same (seen ++ x ∷ []) (xs ++ ys)) ≡ firsts same (if b then firsts same seen xs else firsts same (seen ++ x ∷ []) xs) ys
  append-by true x xs ys seen p q = p
  append-by false x xs ys seen p q = q

  pub firsts-append : (xs ys seen : List X) → firsts same seen (xs ++ ys) ≡ firsts same (firsts same seen xs) ys
  firsts-append [] ys seen = refl
  firsts-append (x ∷ xs) ys seen = append-by (list_any (same x) seen) x xs ys seen (firsts-append xs ys seen) (firsts-append xs ys (seen ++ x ∷ []))

  pub firsts-next : (xs kept : List X) (i : ℕ) (x : X) (b : Bool) → i < length xs → x ≡ slice_index_or xs i x → kept ≡ firsts same [] (take i xs) → b ≡ list_any (same x) kept → (if b then kept else kept ++ x ∷ []) ≡ firsts same [] (take (i + 1) xs)
  firsts-next xs kept i x b l e h t = rw (take_more xs i x l, ← e, firsts-append (take i xs) (x ∷ []) [], ← h, t) refl

-- what was met before stays met
any-with_by : (b : Bool) (test : ℕ → Bool) (x : ℕ) (xs seen : List ℕ) → (list_any test seen ≡ true → list_any test (firsts nat_eq seen xs) ≡ true) → (list_any test (seen ++ x ∷ []) ≡ true → list_any test (firsts nat_eq (seen ++ x ∷ []) xs) ≡ true) → list_any test seen ≡ true → list_any test (if b then firsts nat_eq seen xs else firsts nat_eq (seen ++ x ∷ []) xs) ≡ true
any-with_by true test x xs seen p q h = p h
any-with_by false test x xs seen p q h = q (any-append test seen (x ∷ []) h)

pub any-with : (test : ℕ → Bool) (xs seen : List ℕ) → list_any test seen ≡ true → list_any test (firsts nat_eq seen xs) ≡ true
any-with test [] seen h = h
any-with test (x ∷ xs) seen h = any-with_by (list_any (nat_eq x) seen) test x xs seen (any-with test xs seen) (any-with test xs (seen ++ x ∷ [])) h

pub AreSeen-with : (ns xs seen : List ℕ) → AreSeen seen ns → AreSeen (firsts nat_eq seen xs) ns
AreSeen-with [] xs seen h = tt
AreSeen-with (n ∷ ns) xs seen h = (any-with (nat_eq n) xs seen h.0, AreSeen-with ns xs seen h.1)

-- what is met is met
met-by : (b : Bool) (x : ℕ) (xs seen : List ℕ) → list_any (nat_eq x) seen ≡ b → list_any (nat_eq x) (if b then firsts nat_eq seen xs else firsts nat_eq (seen ++ x ∷ []) xs) ≡ true
met-by true x xs seen e = any-with (nat_eq x) xs seen e
met-by false x xs seen e = any-with (nat_eq x) xs (seen ++ x ∷ []) (any-last x seen)

rest-by : (b : Bool) (x : ℕ) (xs seen : List ℕ) → AreSeen (firsts nat_eq seen xs) xs → AreSeen (firsts nat_eq (seen ++ x ∷ []) xs) xs → AreSeen (if b then firsts nat_eq seen xs else firsts nat_eq (seen ++ x ∷ []) xs) xs
rest-by true x xs seen p q = p
rest-by false x xs seen p q = q

pub AreSeen-met : (xs seen : List ℕ) → AreSeen (firsts nat_eq seen xs) xs
AreSeen-met [] seen = tt
AreSeen-met (x ∷ xs) seen = (met-by (list_any (nat_eq x) seen) x xs seen refl, rest-by (list_any (nat_eq x) seen) x xs seen (AreSeen-met xs seen) (AreSeen-met xs (seen ++ x ∷ [])))

-- what was met adds nothing
pub firsts-none : (xs seen : List ℕ) → AreSeen seen xs → firsts nat_eq seen xs ≡ seen
firsts-none [] seen h = refl
firsts-none (x ∷ xs) seen h = rw h.0 (firsts-none xs seen h.1)
