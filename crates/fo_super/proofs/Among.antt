-- Literals that are among others, as they are or turned.
use Rattle.std.proofs.Common.{ℕ, ◌≡◌, ◌∙◌, ◌<◌, ◌≤◌, Bool, true, false, List, [], ◌∷◌, ◌++◌, length, take, slice_get, Some, refl, sym, ap, subst, arith, inl, inr}
use Rattle.std.specs.Bool.{Decides}
use Rattle.fo_terms.specs.Substitutions.{Substitution}
use Rattle.fo_text.specs.declared.problem.FoSym.{FoSym}
use Rattle.fo_text.specs.declared.problem.FoLit.{FoLit}
use Rattle.fo_text.specs.declared.problem.FoClause.{FoClause}
use Rattle.fo_super.specs.declared.matching.Binding.{Binding}
use Rattle.fo_super.specs.Subsumption.{Subsumes}
use Rattle.fo_super.specs.Matching.{AreBindings, BothFit, IsSentAmong, IsSentTo, Narrows, SendsAmong, SendsFirst}
use Rattle.fo_super.proofs.Answering.{NoneBelow, none-all, refuted}
use Rattle.fo_super.proofs.Bindings.{looked_up, looked_up-obeys, obeys-front}

module _ (vars news : List ℕ) (syms : List FoSym) where
  -- no literals
  pub sends-none : (bindings : List Binding) (ls others : List FoLit) → AreBindings vars news syms bindings → length ls ≡ 0 → SendsAmong vars news syms bindings ls others
  sends-none bindings [] others h e = record { substitution = looked_up bindings; obeyed = looked_up-obeys vars news syms bindings h; sent = tt }
  sends-none bindings (l ∷ ls) others h e = absurd (let f : ⊥ = omega arith in f)

  -- a first literal
  pub sends-more : (bindings : List Binding) (all : List FoLit) (l : FoLit) (ls others : List FoLit) (r : Bool) → all ≡ l ∷ ls → Decides r (SendsFirst vars news syms bindings (IsSentAmong vars news syms l others) ls others) → Decides r (SendsAmong vars news syms bindings all others)
  sends-more bindings all l ls others r e d =
      subst (λ (x : List FoLit). Decides r (SendsAmong vars news syms bindings x others)) (sym e) (
        λ t. (let h = d.0 t in record { substitution = h.substitution; obeyed = h.obeyed; sent = (h.first, h.sent) }),
        λ h. d.1 (record { substitution = h.substitution; obeyed = h.obeyed; first = h.sent.0; sent = h.sent.1 }),
      )

  asked-like : (bindings : List Binding) (P Q : Substitution → Type 0) (ls others : List FoLit) → ((s : Substitution) → P s → Q s) → SendsFirst vars news syms bindings P ls others → SendsFirst vars news syms bindings Q ls others
  asked-like bindings P Q ls others f h = record { substitution = h.substitution; obeyed = h.obeyed; first = f h.substitution h.first; sent = h.sent }

  -- the literals that the first one may become
  pub sends-at : (bindings : List Binding) (l : FoLit) (ls ks : List FoLit) (i : ℕ) (k : FoLit) → slice_get ks i ≡ Some k → SendsFirst vars news syms bindings (IsSentTo vars news syms l k) ls ks → SendsFirst vars news syms bindings (IsSentAmong vars news syms l ks) ls ks
  sends-at bindings l ls ks i k e h =
      asked-like bindings (IsSentTo vars news syms l k) (IsSentAmong vars news syms l ks) ls ks
      (λ s x. record { left = x.0; right = x.1; place = i; other = k; stands = e; same = x.2 }) h

  pub sends-nowhere : (bindings : List Binding) (l : FoLit) (ls ks : List FoLit) (n : ℕ) → NoneBelow (λ (k : FoLit). SendsFirst vars news syms bindings (IsSentTo vars news syms l k) ls ks) ks n → length ks ≤ n → SendsFirst vars news syms bindings (IsSentAmong vars news syms l ks) ls ks → ⊥
  sends-nowhere bindings l ls ks n h m x =
      none-all (λ (k : FoLit). SendsFirst vars news syms bindings (IsSentTo vars news syms l k) ls ks) ks n h m x.first.place x.first.other x.first.stands
      (record { substitution = x.substitution; obeyed = x.obeyed; first = (x.first.left, x.first.right, x.first.same); sent = x.sent })

  -- the first literal becomes another
  pub other-polarity : (bindings : List Binding) (l k : FoLit) (ls others : List FoLit) → (l.pos ≡ k.pos → ⊥) → SendsFirst vars news syms bindings (IsSentTo vars news syms l k) ls others → ⊥
  other-polarity bindings l k ls others f x = f x.first.2.0

  pub sends-straight : (bindings : List Binding) (l k : FoLit) (ls others : List FoLit) → l.pos ≡ k.pos → SendsFirst vars news syms bindings (BothFit vars news syms l.left k.left l.right k.right) ls others → SendsFirst vars news syms bindings (IsSentTo vars news syms l k) ls others
  sends-straight bindings l k ls others e h =
      asked-like bindings (BothFit vars news syms l.left k.left l.right k.right) (IsSentTo vars news syms l k) ls others
      (λ s x. (x.0.0, x.1.0, (e, inl (x.0.1, x.1.1)))) h

  pub sends-turned : (bindings : List Binding) (l k : FoLit) (ls others : List FoLit) (r x : Bool) → l.pos ≡ k.pos → Decides x (SendsFirst vars news syms bindings (BothFit vars news syms l.left k.left l.right k.right) ls others) → x ≡ false →
      Decides r (SendsFirst vars news syms bindings (BothFit vars news syms l.left k.right l.right k.left) ls others) → Decides r (SendsFirst vars news syms bindings (IsSentTo vars news syms l k) ls others)
  sends-turned bindings l k ls others r x e first failed d = (
    λ t. asked-like bindings (BothFit vars news syms l.left k.right l.right k.left) (IsSentTo vars news syms l k) ls others
        (λ s y. (y.0.0, y.1.0, (e, inr (y.0.1, y.1.1)))) (d.0 t),
    λ y. elim y.first.2.1 [
      | inl p ↦ absurd (refuted x first failed (record { substitution = y.substitution; obeyed = y.obeyed; first = ((y.first.0, p.0), (y.first.1, p.1)); sent = y.sent }))
      | inr p ↦ d.1 (record { substitution = y.substitution; obeyed = y.obeyed; first = ((y.first.0, p.0), (y.first.1, p.1)); sent = y.sent })
    ],
  )

  -- what is asked of the first literal becomes bindings
  pub sends-narrowed : (old new : List Binding) (x : Bool) (Asked : Substitution → Type 0) (ls others : List FoLit) → Narrows vars news syms old new x Asked → x ≡ true → (r : Bool) → Decides r (SendsAmong vars news syms new ls others) → Decides r (SendsFirst vars news syms old Asked ls others)
  sends-narrowed old new x Asked ls others n e r d = (
    λ t. (let h = d.0 t in record { substitution = h.substitution; obeyed = obeys-front old n.more h.substitution (rw n.extends at h.obeyed); first = n.gained e h.substitution h.obeyed; sent = h.sent }),
    λ h. d.1 (record { substitution = h.substitution; obeyed = n.kept e h.substitution h.obeyed h.first; sent = h.sent }),
  )

  pub sends-refused : (old new : List Binding) (x : Bool) (Asked : Substitution → Type 0) (ls others : List FoLit) → Narrows vars news syms old new x Asked → x ≡ false → SendsFirst vars news syms old Asked ls others → ⊥
  sends-refused old new x Asked ls others n e h = n.refused e h.substitution h.obeyed h.first

  pub restored : (old new : List Binding) (x : Bool) (Asked : Substitution → Type 0) → Narrows vars news syms old new x Asked → take (length old) new ≡ old
  restored old new x Asked n = ap (take (length old)) n.extends ∙ front old n.more
    where
      front : (xs ys : List Binding) → take (length xs) (xs ++ ys) ≡ xs
      front [] ys = refl
      front (x ∷ xs) ys = ap (λ (zs : List Binding). x ∷ zs) (front xs ys)

-- whole clauses
pub subsumes-decides : (syms : List FoSym) (c d : FoClause) (r : Bool) → 0 < length c.lits → length c.lits ≤ 3 → Decides r (SendsAmong c.vars d.vars syms [] c.lits d.lits) → Decides r (Subsumes syms c d)
subsumes-decides syms c d r l m x = (
  λ t. (let h = x.0 t in record { not_empty = l; few = m; substitution = h.substitution; sent = h.sent }),
  λ h. x.1 (record { substitution = h.substitution; obeyed = tt; sent = h.sent }),
)
