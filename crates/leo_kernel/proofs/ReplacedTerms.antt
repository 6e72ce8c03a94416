-- Terms with something else in the place of what stands at a path.
use Rattle.std.proofs.Common.{ℕ, zero, suc, ◌≡◌, ◌∙◌, List, [], ◌∷◌, Some, None, refl, sym, ap}
use Rattle.std.specs.Prelude.{◌↔◌}
use Rattle.leo_terms.specs.Tree.{Tree, variable, bound, symbol, app, lam, logic, absent}
use Rattle.leo_terms.specs.Typing.{IsPresent}
use Rattle.leo_kernel.specs.Places.{child, with_child, replaced_at}
use Rattle.leo_kernel.specs.Moved.{put_child}
use Rattle.leo_kernel.proofs.Paths.{present-itself}
use Rattle.leo_kernel.proofs.MovedTerms.{present-same}

some-value : {X : Type 0} {x y : X} → Some x ≡ Some y → x ≡ y
some-value e = cc

-- only what becomes of the child matters
put-changed : (n : ℕ) (change : Tree → Tree) (s a : Tree) → child n s ≡ Some a → with_child n change s ≡ put_child n (change a) s
put-changed zero change (app f x) a e = let g : f ≡ a = some-value e in rw g refl
put-changed (suc zero) change (app f x) a e = let g : x ≡ a = some-value e in rw g refl
put-changed (suc (suc n)) change (app f x) a e = refl
put-changed zero change (logic c x y) a e = let g : x ≡ a = present-same x a e in rw g refl
put-changed (suc zero) change (logic c x y) a e = let g : y ≡ a = present-same y a e in rw g refl
put-changed (suc (suc n)) change (logic c x y) a e = refl
put-changed n change (variable m b) a e = refl
put-changed n change (bound i b) a e = refl
put-changed n change (symbol m b) a e = refl
put-changed n change (lam b t) a e = refl
put-changed n change absent a e = refl

child-put : (n : ℕ) (u s a : Tree) → child n s ≡ Some a → IsPresent u → child n (put_child n u s) ≡ Some u
child-put zero u (app f x) a e p = refl
child-put (suc zero) u (app f x) a e p = refl
child-put (suc (suc n)) u (app f x) a e p = (let z : ⊥ = cc in absurd z)
child-put zero u (logic c x y) a e p = present-itself u p
child-put (suc zero) u (logic c x y) a e p = present-itself u p
child-put (suc (suc n)) u (logic c x y) a e p = (let z : ⊥ = cc in absurd z)
child-put n u (variable m b) a e p = (let z : ⊥ = cc in absurd z)
child-put n u (bound i b) a e p = (let z : ⊥ = cc in absurd z)
child-put n u (symbol m b) a e p = (let z : ⊥ = cc in absurd z)
child-put n u (lam b t) a e p = (let z : ⊥ = cc in absurd z)
child-put n u absent a e p = (let z : ⊥ = cc in absurd z)

present-changed : (n : ℕ) (change : Tree → Tree) (t : Tree) → IsPresent t → IsPresent (with_child n change t)
present-changed zero change (app f x) p = tt
present-changed (suc zero) change (app f x) p = tt
present-changed (suc (suc n)) change (app f x) p = tt
present-changed zero change (logic c x y) p = tt
present-changed (suc zero) change (logic c x y) p = tt
present-changed (suc (suc n)) change (logic c x y) p = tt
present-changed n change (variable m b) p = tt
present-changed n change (bound i b) p = tt
present-changed n change (symbol m b) p = tt
present-changed n change (lam b t) p = tt
present-changed n change absent p = p

pub present-replaced : (path : List ℕ) (r t : Tree) → IsPresent r → IsPresent t → IsPresent (replaced_at path r t)
present-replaced [] r t p q = p
present-replaced (n ∷ path) r t p q = present-changed n (replaced_at path r) t q

-- one step along the path, in the term and in the one that may be the new one
module _ (n : ℕ) (path : List ℕ) (r s u a : Tree) (p : IsPresent r) (q : IsPresent a) (e : child n s ≡ Some a) where
  new-child : u ≡ replaced_at (n ∷ path) r s → child n u ≡ Some (replaced_at path r a)
  new-child h =
      let f : u ≡ put_child n (replaced_at path r a) s = h ∙ put-changed n (replaced_at path r) s a e in
      ap (child n) f ∙ child-put n (replaced_at path r a) s a e (present-replaced path r a p q)

  pub replaced-childless : child n u ≡ None → u ≡ replaced_at (n ∷ path) r s → ⊥
  replaced-childless f h = none-some (replaced_at path r a) (sym f ∙ new-child h)
    where
      none-some : (t : Tree) → None ≡ Some t → ⊥
      none-some t g = cc

  module _ (b : Tree) (f : child n u ≡ Some b) where
    part : u ≡ replaced_at (n ∷ path) r s → b ≡ replaced_at path r a
    part h = some-value (sym f ∙ new-child h)

    pub replaced-rest : u ≡ replaced_at (n ∷ path) r s → u ≡ put_child n b s
    replaced-rest h = h ∙ put-changed n (replaced_at path r) s a e ∙ ap (λ (t : Tree). put_child n t s) (sym (part h))

    pub replaced-step : u ≡ put_child n b s → (u ≡ replaced_at (n ∷ path) r s) ↔ (b ≡ replaced_at path r a)
    replaced-step g = (part, λ h. g ∙ ap (λ (t : Tree). put_child n t s) h ∙ sym (put-changed n (replaced_at path r) s a e))
