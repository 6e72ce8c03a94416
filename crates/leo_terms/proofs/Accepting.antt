-- What tests of types decide.
use Rattle.std.proofs.Common.{ℕ, ◌≡◌, ◌<◌, ◌≤◌, ◌↔◌, Bool, true, false, IsTrue, List, length, slice_get, Option, Some, None, refl, sym, ◌∙◌, ap, arith}
use Rattle.std.specs.Prelude.{◌&&◌}
use Rattle.leo_terms.specs.declared.node.TyView.{TyView}
use Rattle.leo_terms.specs.declared.node.TyView.TheVariants.{Base, Arrow}
use Rattle.leo_terms.specs.Contents.{Contents, IsArrow, IsApplicable, IsProperty, IsOfType, IsMissing, codomain_number, type_number, argument_type}
use Rattle.leo_terms.proofs.Making.{codomain_number-node}

some_type : (x y : TyView) → Some x ≡ Some y → x ≡ y
some_type x y e = cc

-- a type of functions is that of functions from a exactly if it is so written
pub applicable-arrow : (c : Contents) (f x k b : ℕ) → slice_get c.types (type_number c f) ≡ Some (Arrow k b) → (k ≡ type_number c x) ↔ IsApplicable c f x
applicable-arrow c f x k b e = (λ q. record { arrow_node = rw (codomain_number-node c (type_number c f) k b e, ← q) e }, λ h. (let g : Arrow k b ≡ Arrow (type_number c x) (codomain_number c (type_number c f)) = some_type _ _ (sym e ∙ h.arrow_node) in cc))

pub applicable-base : (c : Contents) (f x n : ℕ) → slice_get c.types (type_number c f) ≡ Some (Base n) → IsApplicable c f x → ⊥
applicable-base c f x n e h = (let g : Base n ≡ Arrow (type_number c x) (codomain_number c (type_number c f)) = some_type _ _ (sym e ∙ h.arrow_node) in cc)

pub both-decided : (p q : Bool) (P Q : Type 0) → (IsTrue p ↔ P) → (IsTrue q ↔ Q) → IsTrue (p && q) ↔ (P × Q)
both-decided true true P Q f g = (λ e. (f.0 refl, g.0 refl), λ h. refl)
both-decided true false P Q f g = (λ e. (let h : ⊥ = cc in absurd h), λ h. g.1 h.1)
both-decided false q P Q f g = (λ e. (let h : ⊥ = cc in absurd h), λ h. f.1 h.0)
