-- Lists of names that each stand for something: without some of them, and with one more.
use Rattle.std.proofs.Common.{Bool, true, false, cond, ℕ, ◌≡◌, List, [], ◌∷◌, ◌++◌, Some, None, refl, ap, sym, ◌∙◌}
use Rattle.std.specs.Option.{is_some}
use Rattle.std.specs.Str.{bytes_eq}
use Rattle.std.proofs.lemmas.Slice.Eq.{bytes_eq-Decides}
use Rattle.leo_elab.specs.Problem.{named}
use Rattle.leo_elab.specs.Pairs.{without, beyond, IsEachOnce, AreNew}

-- ---- names

pub bytes-same : (a b : List ℕ) → bytes_eq a b ≡ true → a ≡ b
bytes-same a b e = (bytes_eq-Decides a b).0 e

pub bytes-itself : (a : List ℕ) → bytes_eq a a ≡ true
bytes-itself a = (bytes_eq-Decides a a).1 refl

pub bytes-turned : (a b : List ℕ) → bytes_eq a b ≡ false → bytes_eq b a ≡ false
bytes-turned a b e = by (bytes_eq b a) refl
  where
    by : (t : Bool) → bytes_eq b a ≡ t → bytes_eq b a ≡ false
    by false f = f
    by true f = let z : true ≡ false = sym ((bytes_eq-Decides a b).1 (sym (bytes-same b a f))) ∙ e in absurd cc

-- ---- what stands in a list

module _ {A : Type 0} where
  -- a name with something in a list without another name
  pub named-without : (a b : List ℕ) (xs : List (List ℕ × A)) → named b xs ≡ None → named b (without a xs) ≡ None
  named-without a b [] e = refl
  named-without a b (p ∷ ps) e = by (bytes_eq b p.0) (bytes_eq p.0 a) refl e (named-without a b ps)
    where
      by : (s t : Bool) → bytes_eq b p.0 ≡ s → cond s (Some p.1) (named b ps) ≡ None → (named b ps ≡ None → named b (without a ps) ≡ None) → named b (cond t (without a ps) (p ∷ without a ps)) ≡ None
      by true t f g k = absurd cc
      by false true f g k = k g
      by false false f g k = rw f (k g)

  pub without-itself : (a : List ℕ) (xs : List (List ℕ × A)) → named a (without a xs) ≡ None
  without-itself a [] = refl
  without-itself a (p ∷ ps) = by (bytes_eq p.0 a) refl (without-itself a ps)
    where
      by : (t : Bool) → bytes_eq p.0 a ≡ t → named a (without a ps) ≡ None → named a (cond t (without a ps) (p ∷ without a ps)) ≡ None
      by true e k = k
      by false e k = rw (bytes-turned p.0 a e) k

  pub once-without : (a : List ℕ) (xs : List (List ℕ × A)) → IsEachOnce xs → IsEachOnce (without a xs)
  once-without a [] h = tt
  once-without a (p ∷ ps) h = by (bytes_eq p.0 a) (once-without a ps h.1)
    where
      by : (t : Bool) → IsEachOnce (without a ps) → IsEachOnce (cond t (without a ps) (p ∷ without a ps))
      by true k = k
      by false k = (named-without a p.0 ps h.0, k)

  -- a name that is not the last one
  pub named-other : (b a : List ℕ) (x : A) (xs : List (List ℕ × A)) → bytes_eq b a ≡ false → named b (xs ++ (a, x) ∷ []) ≡ named b xs
  named-other b a x [] e = rw e refl
  named-other b a x (p ∷ ps) e = ap (cond (bytes_eq b p.0) (Some p.1)) (named-other b a x ps e)

  pub some-or-last : (b a : List ℕ) (x : A) (xs : List (List ℕ × A)) → bytes_eq b a ≡ true → is_some (named b (xs ++ (a, x) ∷ [])) ≡ true
  some-or-last b a x [] e = rw e refl
  some-or-last b a x (p ∷ ps) e = by (bytes_eq b p.0) (some-or-last b a x ps e)
    where
      by : (t : Bool) → is_some (named b (ps ++ (a, x) ∷ [])) ≡ true → is_some (cond t (Some p.1) (named b (ps ++ (a, x) ∷ []))) ≡ true
      by true k = refl
      by false k = k

module _ {A B : Type 0} where
  pub beyond-nothing : (known : List (List ℕ × B)) (xs : List (List ℕ × A)) → known ≡ [] → beyond known xs ≡ xs
  beyond-nothing known [] e = refl
  beyond-nothing known (p ∷ ps) e =
      let h : is_some (named p.0 known) ≡ false = ap (λ (w : List (List ℕ × B)). is_some (named p.0 w)) e in
      rw (h, beyond-nothing known ps e) refl

  -- a name that is known counts for nothing
  pub beyond-known : (known : List (List ℕ × B)) (a : List ℕ) (xs : List (List ℕ × A)) → is_some (named a known) ≡ true → beyond known (without a xs) ≡ beyond known xs
  beyond-known known a [] e = refl
  beyond-known known a (p ∷ ps) e = by (bytes_eq p.0 a) refl (beyond-known known a ps e)
    where
      by : (t : Bool) → bytes_eq p.0 a ≡ t → beyond known (without a ps) ≡ beyond known ps
          → beyond known (cond t (without a ps) (p ∷ without a ps)) ≡ cond (is_some (named p.0 known)) (beyond known ps) (p ∷ beyond known ps)
      by true f k = let s : is_some (named p.0 known) ≡ true = rw (bytes-same p.0 a f) e in rw s k
      by false f k = rw k refl

  -- with a name more
  pub beyond-more : (known : List (List ℕ × B)) (a : List ℕ) (x : B) (xs : List (List ℕ × A)) → beyond (known ++ (a, x) ∷ []) xs ≡ beyond known (without a xs)
  beyond-more known a x [] = refl
  beyond-more known a x (p ∷ ps) = by (bytes_eq p.0 a) refl (beyond-more known a x ps)
    where
      by : (t : Bool) → bytes_eq p.0 a ≡ t → beyond (known ++ (a, x) ∷ []) ps ≡ beyond known (without a ps)
          → cond (is_some (named p.0 (known ++ (a, x) ∷ []))) (beyond (known ++ (a, x) ∷ []) ps) (p ∷ beyond (known ++ (a, x) ∷ []) ps) ≡ beyond known (cond t (without a ps) (p ∷ without a ps))
      by true f k = rw (some-or-last p.0 a x known f) k
      by false f k = rw (named-other p.0 a x known f, k) refl

  -- names that are new stay so once another is known
  pub new-more : (known : List (List ℕ × B)) (a : List ℕ) (x : B) (xs : List (List ℕ × A)) → named a xs ≡ None → AreNew known xs → AreNew (known ++ (a, x) ∷ []) xs
  new-more known a x [] e h = tt
  new-more known a x (p ∷ ps) e h = by (bytes_eq a p.0) refl e (λ g. new-more known a x ps g h.1)
    where
      by : (t : Bool) → bytes_eq a p.0 ≡ t → cond t (Some p.1) (named a ps) ≡ None → (named a ps ≡ None → AreNew (known ++ (a, x) ∷ []) ps) → AreNew (known ++ (a, x) ∷ []) (p ∷ ps)
      by true f g k = absurd cc
      by false f g k = (named-other p.0 a x known (bytes-turned a p.0 f) ∙ h.0, k g)

  pub new-nothing : (known : List (List ℕ × B)) (xs : List (List ℕ × A)) → known ≡ [] → AreNew known xs
  new-nothing known [] e = tt
  new-nothing known (p ∷ ps) e = (ap (named p.0) e, new-nothing known ps e)
