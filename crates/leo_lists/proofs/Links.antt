-- What a join changes.
use Rattle.std.proofs.Common.{◌≡◌, ◌≢◌, ◌⊎◌, inl, inr, ℕ, length, refl, sym, ◌∙◌, subst, ap, arith}
use Rattle.std.proofs.lemmas.List.{get_or-set_same, get_or-set_other, length-set}
use Rattle.leo_lists.specs.declared.rings.Place.{Place}
use Rattle.leo_lists.specs.declared.rings.Place.TheVariants.{Head, Slot}
use Rattle.leo_lists.specs.declared.rings.Link.{Link}
use Rattle.leo_lists.specs.Rings.{Table, no_link, IsPlace, link_at, with_link, with_after, joined, IsJoined}

-- two numbers are the same or not
decide_numbers : (l m : ℕ) → (l ≡ m) ⊎ (l ≢ m)
decide_numbers l m = grind arith

pub link-same : (t : Table) (p : Place) (k : Link) → IsPlace t p → link_at (with_link t p k) p ≡ k
link-same t (Head l) k h = get_or-set_same t.heads l k no_link h
link-same t (Slot s) k h = get_or-set_same t.slots s k no_link h

pub link-other : (t : Table) (p q : Place) (k : Link) → q ≢ p → link_at (with_link t p k) q ≡ link_at t q
link-other t (Head l) (Head m) k n = get_or-set_other t.heads l m k no_link (λ e. n (ap Head e))
link-other t (Head l) (Slot s) k n = refl
link-other t (Slot s) (Head m) k n = refl
link-other t (Slot s) (Slot r) k n = get_or-set_other t.slots s r k no_link (λ e. n (ap Slot e))

pub place-with_link : (t : Table) (p q : Place) (k : Link) → IsPlace t q → IsPlace (with_link t p k) q
place-with_link t (Head l) (Head m) k h = rw (length-set t.heads l k) h
place-with_link t (Head l) (Slot s) k h = h
place-with_link t (Slot s) (Head m) k h = h
place-with_link t (Slot s) (Slot r) k h = rw (length-set t.slots s k) h

heads-with_link : (t : Table) (p : Place) (k : Link) → length (with_link t p k).heads ≡ length t.heads
heads-with_link t (Head l) k = length-set t.heads l k
heads-with_link t (Slot s) k = refl

slots-with_link : (t : Table) (p : Place) (k : Link) → length (with_link t p k).slots ≡ length t.slots
slots-with_link t (Head l) k = refl
slots-with_link t (Slot s) k = length-set t.slots s k

pub heads-joined : (t : Table) (p q : Place) → length (joined t p q).heads ≡ length t.heads
heads-joined t p q = heads-with_link (with_after t p q) q _ ∙ heads-with_link t p _

pub slots-joined : (t : Table) (p q : Place) → length (joined t p q).slots ≡ length t.slots
slots-joined t p q = slots-with_link (with_after t p q) q _ ∙ slots-with_link t p _

-- two places are the same or not
pub decide : (p q : Place) → (p ≡ q) ⊎ (p ≢ q)
decide (Head l) (Head m) = elim (decide_numbers l m) [ inl e ↦ inl (ap Head e) | inr n ↦ inr (λ e. n (cc)) ]
decide (Head l) (Slot s) = inr (λ e. cc)
decide (Slot s) (Head l) = inr (λ e. cc)
decide (Slot s) (Slot r) = elim (decide_numbers s r) [ inl e ↦ inl (ap Slot e) | inr n ↦ inr (λ e. n (cc)) ]

module _ (t : Table) (p q : Place) (hp : IsPlace t p) (hq : IsPlace t q) where
  pub after-same : (link_at (joined t p q) p).after ≡ q
  after-same =
      let set : (link_at (with_after t p q) p).after ≡ q = ap (λ (k : Link). k.after) (link-same t p _ hp) in
      let hq' : IsPlace (with_after t p q) q = place-with_link t p q _ hq in
      elim (decide p q) [
        | inl e ↦ (ap (λ (k : Link). k.after) (subst (λ (x : Place). link_at (joined t p q) x ≡ record { before = p; after = (link_at (with_after t p q) q).after }) (sym e) (link-same (with_after t p q) q _ hq'))
            ∙ (subst (λ (x : Place). (link_at (with_after t p q) x).after ≡ q) e set))
        | inr n ↦ (ap (λ (k : Link). k.after) (link-other (with_after t p q) q p _ n) ∙ set)
      ]

  pub after-other : (x : Place) → x ≢ p → (link_at (joined t p q) x).after ≡ (link_at t x).after
  after-other x n =
      let set : link_at (with_after t p q) x ≡ link_at t x = link-other t p x _ n in
      let hq' : IsPlace (with_after t p q) q = place-with_link t p q _ hq in
      elim (decide x q) [
        | inl e ↦ (ap (λ (k : Link). k.after) (subst (λ (y : Place). link_at (joined t p q) y ≡ record { before = p; after = (link_at (with_after t p q) y).after }) (sym e)
            (link-same (with_after t p q) q _ hq')) ∙ ap (λ (k : Link). k.after) set)
        | inr m ↦ ap (λ (k : Link). k.after) (link-other (with_after t p q) q x _ m ∙ set)
      ]

  pub before-same : (link_at (joined t p q) q).before ≡ p
  before-same = ap (λ (k : Link). k.before) (link-same (with_after t p q) q _ (place-with_link t p q _ hq))

  pub before-other : (x : Place) → x ≢ q → (link_at (joined t p q) x).before ≡ (link_at t x).before
  before-other x n =
      ap (λ (k : Link). k.before) (link-other (with_after t p q) q x _ n) ∙
      elim (decide x p) [
        | inl e ↦ (subst (λ (y : Place). (link_at (with_after t p q) y).before ≡ (link_at t y).before) (sym e) (ap (λ (k : Link). k.before) (link-same t p _ hp)))
        | inr m ↦ ap (λ (k : Link). k.before) (link-other t p x _ m)
      ]

  pub place-joined : (x : Place) → IsPlace t x → IsPlace (joined t p q) x
  place-joined x h = place-with_link (with_after t p q) q x _ (place-with_link t p x _ h)

  pub joined-made : IsJoined (joined t p q) p q
  joined-made = (place-joined p hp, place-joined q hq, after-same, before-same)

  pub joined-kept : (x y : Place) → x ≢ p → y ≢ q → IsJoined t x y → IsJoined (joined t p q) x y
  joined-kept x y n m h = (place-joined x h.0, place-joined y h.1, after-other x n ∙ h.2, before-other y m ∙ h.3)
