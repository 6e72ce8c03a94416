-- What the calls do to the table of the slots.
use Rattle.std.proofs.Common.{◌≡◌, ℕ, zero, suc, ◌+◌, ◌-◌, ◌<◌, ◌≤◌, Result, Ok, Err, List, [], ◌∷◌, ◌++◌, map, length, refl, sym, ap, ◌∙◌, subst, arith}
use Rattle.std.specs.Prelude.{Some, None, slice_get, replicate, MatchResult}
use Rattle.std.proofs.lemmas.List.{length-append, length-replicate}
use Rattle.leo_lists.specs.declared.rings.Place.{Place}
use Rattle.leo_lists.specs.declared.rings.Place.TheVariants.{Head, Slot}
use Rattle.leo_lists.specs.Rings.{Table, no_link, grown, IsPlace, link_at, joined, IsChain, list_at, lists_of, HasLists, StandsNowhere, Stands, pushed, without, slot_of}
use Rattle.leo_lists.specs.Lists.{Lists}
use Rattle.leo_lists.proofs.Links.{slots-joined}
use Rattle.leo_lists.proofs.Chains
use Rattle.leo_lists.proofs.Pushing
use Rattle.leo_lists.proofs.Unlinking
use Rattle.leo_lists.proofs.Growing

-- what holds of the table then
pub record Became (t : Table) (slots : ℕ) (lists : List (List ℕ)) : Type 0 where
  pub lists_are : lists_of t ≡ lists
  pub has_lists : HasLists t (lists_of t)
  pub slots_are : length t.slots ≡ slots

became : (t : Table) (slots : ℕ) (lists : List (List ℕ)) → HasLists t lists → length t.slots ≡ slots → Became t slots lists
became t slots lists h e =
    let are : lists_of t ≡ lists = Pushing.lists_are t lists h in
    record { lists_are = are; has_lists = subst (HasLists t) (sym are) h; slots_are = e }

module _ (t : Table) (h : HasLists t (lists_of t)) (l s : ℕ) (b : l < length (lists_of t)) (c : s < length t.slots) (free : StandsNowhere (lists_of t) s) where
  head : l < length t.heads
  head = rw (← h.count) b

  before : (link_at t (Head l)).before ≡ Chains.last_place (Head l) (list_at (lists_of t) l)
  before = Chains.chain-end t (Head l) (Head l) (list_at (lists_of t) l) (h.chained l head)

  pub push-places : IsPlace t (Head l) × IsPlace t (link_at t (Head l)).before
  push-places = (head, rw before (Pushing.tail_there t (lists_of t) h l s head c free))

  pub push : Became (joined (joined t (link_at t (Head l)).before (Slot s)) (Slot s) (Head l)) (length t.slots) (pushed (lists_of t) l s)
  push = rw before (became (Pushing.push_table t (lists_of t) l s) (length t.slots) (pushed (lists_of t) l s) (Pushing.push t (lists_of t) h l s head c free)
      (slots-joined (joined t (Chains.last_place (Head l) (list_at (lists_of t) l)) (Slot s)) (Slot s) (Head l) ∙ slots-joined t (Chains.last_place (Head l) (list_at (lists_of t) l)) (Slot s)))

module _ (t : Table) (h : HasLists t (lists_of t)) (s : ℕ) (stands : Stands (lists_of t) s) where
  head-of : stands.0 < length t.heads
  head-of = rw (← h.count) stands.1

  cut : (ys : List ℕ) × (zs : List ℕ) × (list_at (lists_of t) stands.0 ≡ ys ++ s ∷ zs)
  cut = Unlinking.cut (list_at (lists_of t) stands.0) s stands.2

  pub unlink-places : IsPlace t (Slot s) × IsPlace t (link_at t (Slot s)).before × IsPlace t (link_at t (Slot s)).after
  unlink-places = (
    Unlinking.slot-there t (lists_of t) h stands.0 s head-of cut.0 cut.1 cut.2,
    Unlinking.before-there t (lists_of t) h stands.0 s head-of cut.0 cut.1 cut.2,
    Unlinking.after-there t (lists_of t) h stands.0 s head-of cut.0 cut.1 cut.2,
  )

  pub unlink : Became (joined t (link_at t (Slot s)).before (link_at t (Slot s)).after) (length t.slots) (map (without s) (lists_of t))
  unlink = rw (Unlinking.before-is t (lists_of t) h stands.0 s head-of cut.0 cut.1 cut.2, Unlinking.after-is t (lists_of t) h stands.0 s head-of cut.0 cut.1 cut.2)
      (became (joined t (Chains.last_place (Head stands.0) cut.0) (Unlinking.next_place cut.1 (Head stands.0))) (length t.slots) (map (without s) (lists_of t))
      (Unlinking.unlinked t (lists_of t) h stands.0 s head-of cut.0 cut.1 cut.2)
      (slots-joined t (Chains.last_place (Head stands.0) cut.0) (Unlinking.next_place cut.1 (Head stands.0))))

-- the first slot of the rest of a chain
first-of : (q : Place) (xs : List ℕ) → slot_of q ≡ None → slot_of (Unlinking.next_place xs q) ≡ slice_get xs 0
first-of q [] e = e
first-of q (x ∷ xs) e = refl

pub front : (t : Table) → HasLists t (lists_of t) → (l : ℕ) → l < length (lists_of t) → slot_of (link_at t (Head l)).after ≡ slice_get (list_at (lists_of t) l) 0
front t h l b =
    let c : l < length t.heads = rw (← h.count) b in
    (rw (Unlinking.chain-next t (Head l) (Head l) (list_at (lists_of t) l) (h.chained l c)) refl) ∙ first-of (Head l) (list_at (lists_of t) l) refl

-- the slot after one of a chain
after-in : (t : Table) (p q : Place) (xs : List ℕ) (i s : ℕ) → slot_of q ≡ None → IsChain t p xs q → slice_get xs i ≡ Some s →
    slot_of (link_at t (Slot s)).after ≡ slice_get xs (suc i)
after-in t p q [] i s e h k = (let f : ⊥ = cc in absurd f)
after-in t p q (x ∷ xs) zero s e h k =
    let same : x ≡ s = cc in
    subst (λ (y : ℕ). slot_of (link_at t (Slot y)).after ≡ slice_get xs 0) same
    ((rw (Unlinking.chain-next t (Slot x) q xs h.1) refl) ∙ first-of q xs e)
after-in t p q (x ∷ xs) (suc i) s e h k = after-in t (Slot x) q xs i s e h.1 k

pub next : (t : Table) → HasLists t (lists_of t) → (s l i : ℕ) → l < length (lists_of t) → slice_get (list_at (lists_of t) l) i ≡ Some s →
    slot_of (link_at t (Slot s)).after ≡ slice_get (list_at (lists_of t) l) (i + 1)
next t h s l i b k =
    let c : l < length t.heads = rw (← h.count) b in
    let n : suc i ≡ i + 1 = omega arith in
    subst (λ (j : ℕ). slot_of (link_at t (Slot s)).after ≡ slice_get (list_at (lists_of t) l) j) n
    (after-in t (Head l) (Head l) (list_at (lists_of t) l) i s refl (h.chained l c) k)

-- what a contract sees of a table
abbrev pub seen : Table → Lists
seen t = record { slots = length t.slots; lists = lists_of t }

-- a table that became so, as contracts see it
abbrev pub IsSeen : Table → Lists → Type 0
IsSeen u v = HasLists u (lists_of u) × (seen u ≡ v)

is_seen : (t u : Table) (slots : ℕ) (lists : List (List ℕ)) → Became t slots lists → u ≡ t → IsSeen u (record { slots = slots; lists = lists })
is_seen t u slots lists b e = subst (λ (w : Table). IsSeen w (record { slots = slots; lists = lists })) (sym e) (b.has_lists, (rw (b.lists_are, b.slots_are) refl))

module _ (t : Table) (h : HasLists t (lists_of t)) (v : Lists) (is : seen t ≡ v) where
  pub push-requires : (l s : ℕ) → l < length v.lists → s < v.slots → StandsNowhere v.lists s → IsPlace t (link_at t (Head l)).before × IsPlace t (Slot s)
  push-requires l s = subst (λ (w : Lists). l < length w.lists → s < w.slots → StandsNowhere w.lists s → IsPlace t (link_at t (Head l)).before × IsPlace t (Slot s)) is
      (λ b c free. ((push-places t h l s b c free).1, c))

  pub push-seen : (l s : ℕ) → l < length v.lists → s < v.slots → StandsNowhere v.lists s → (u : Table) → u ≡ joined (joined t (link_at t (Head l)).before (Slot s)) (Slot s) (Head l) →
      IsSeen u (record { slots = v.slots; lists = pushed v.lists l s })
  push-seen l s = subst (λ (w : Lists). l < length w.lists → s < w.slots → StandsNowhere w.lists s → (u : Table) → u ≡ joined (joined t (link_at t (Head l)).before (Slot s)) (Slot s) (Head l) →
      IsSeen u (record { slots = w.slots; lists = pushed w.lists l s })) is (λ b c free u e. is_seen _ u _ _ (push t h l s b c free) e)

  pub unlink-requires : (s : ℕ) → Stands v.lists s → IsPlace t (Slot s) × IsPlace t (link_at t (Slot s)).before × IsPlace t (link_at t (Slot s)).after
  unlink-requires s = subst (λ (w : Lists). Stands w.lists s → IsPlace t (Slot s) × IsPlace t (link_at t (Slot s)).before × IsPlace t (link_at t (Slot s)).after) is
      (λ b. unlink-places t h s b)

  pub unlink-seen : (s : ℕ) → Stands v.lists s → (u : Table) → u ≡ joined t (link_at t (Slot s)).before (link_at t (Slot s)).after →
      IsSeen u (record { slots = v.slots; lists = map (without s) v.lists })
  unlink-seen s = subst (λ (w : Lists). Stands w.lists s → (u : Table) → u ≡ joined t (link_at t (Slot s)).before (link_at t (Slot s)).after →
      IsSeen u (record { slots = w.slots; lists = map (without s) w.lists })) is (λ b u e. is_seen _ u _ _ (unlink t h s b) e)

  pub next-seen : (s l i : ℕ) → l < length v.lists → slice_get (list_at v.lists l) i ≡ Some s → slot_of (link_at t (Slot s)).after ≡ slice_get (list_at v.lists l) (i + 1)
  next-seen s = subst (λ (w : Lists). (l i : ℕ) → l < length w.lists → slice_get (list_at w.lists l) i ≡ Some s → slot_of (link_at t (Slot s)).after ≡ slice_get (list_at w.lists l) (i + 1)) is
      (λ l i b k. next t h s l i b k)

  pub grow-seen : (lists slots : ℕ) → length v.lists ≤ lists → v.slots ≤ slots → {A B : Type 0} (r : Result A B) (u : Table) →
      MatchResult r (λ _. u ≡ grown t (lists - length t.heads) (replicate (slots - length t.slots) no_link)) (λ _. u ≡ t) →
      HasLists u (lists_of u) × MatchResult r (λ _. seen u ≡ record { slots = slots; lists = v.lists ++ replicate (lists - length v.lists) [] }) (λ _. seen u ≡ v)
  grow-seen lists slots b c (Ok x) u e =
      let heads : length t.heads ≡ length v.lists = sym h.count ∙ ap (λ (w : Lists). length w.lists) is in
      let n : length t.slots + (slots - length t.slots) ≡ slots = omega (arith, (subst (λ (w : Lists). w.slots ≤ slots) (sym is) c)) in
      let more = replicate (slots - length t.slots) no_link in
      let r : Became (grown t (lists - length t.heads) more) slots (v.lists ++ replicate (lists - length v.lists) []) =
      became _ slots _ (rw (← heads, ← is) (Growing.grow t (lists_of t) (lists - length t.heads) more h))
      (length-append t.slots more ∙ ap (λ (k : ℕ). length t.slots + k) (length-replicate (slots - length t.slots) no_link) ∙ n) in
      is_seen _ u slots _ r e
  grow-seen lists slots b c (Err x) u e = (subst (λ (w : Table). HasLists w (lists_of w)) (sym e) h, ap seen e ∙ is)

-- the table without heads and slots
pub nothing : HasLists (record { heads = []; slots = [] }) []
nothing = record {
  count = refl;
  chained = λ l b. (let f : ⊥ = omega (arith, b) in absurd f);
  once = record { in_list = λ l b. (let f : ⊥ = omega (arith, b) in absurd f); in_one = λ l m x b c n h. (let f : ⊥ = omega (arith, b) in absurd f) };
}
