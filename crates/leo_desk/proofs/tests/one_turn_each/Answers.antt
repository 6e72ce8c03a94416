use Rattle.std.proofs.Common.{rules, ◌≡◌, ℕ, arith, refl, sym, ap, ◌∙◌, slice_index_or, length, get_or-set_other, get_or-set_same}
use mathlib.Core.Logic.{dite}
use native.Mathlib.Decide.{ℕ_discrete}
use Rattle.leo_desk.specs.declared.board.Known.TheVariants.{In}
use Rattle.leo_desk.specs.declared.tests.Numbers.{Numbers}
use Rattle.leo_desk.specs.Seats.{known, owner_left, guest_number, guest_left}
use Rattle.leo_desk.proofs.Puts.{put_keeps, new_is, not_new}
use Rattle.leo_desk.proofs.tests.one_turn_each.Goals as goal

abbrev part : ℕ → Numbers → ℕ
part k b = slice_index_or b.guests.items k 0

pub owner_put-requires-clause-kept : goal.owner_put-requires-clause-kept
owner_put-requires-clause-kept g c = let was = c.owner_take-book.result in (
  was,
  search rules,
  λ k small. put_keeps part k was (record was { owner = 7 }) (known c.seat_out-guest.new.seat k) refl
      (λ y e. dite (ℕ_discrete k 0) (λ first. ap (part k) (new_is part (known c.seat_out-guest.new.seat k) was y (ap (known c.seat_out-guest.new.seat) first ∙ c.seat_out-guest.ensures.known.0) e))
      (λ other. not_new part (known c.seat_out-guest.new.seat k) y (c.seat_out-guest.ensures.known.1 k other ∙ (c.owner_take-book.ensures.known k ∙ c.in_ok-desk.ensures.3 k)) e)),
)

pub guest_put-requires-clause-kept : goal.guest_put-requires-clause-kept
guest_put-requires-clause-kept g c = let first : guest_number c.guest_take-book.new.seat ≡ 0 = search rules in (
  c.guest_take-book.result,
  search rules,
  (c.set_guest.ensures.0, λ j small other. ap (λ l. slice_index_or l j 0) c.set_guest.ensures.1 ∙ get_or-set_other c.guest_take-book.result.guests.items 0 j 9 0 (λ e. other (e ∙ sym first))),
)

pub returns : goal.returns
returns g c = let sevens : owner_left c.owner_put.new.seat ≡ record c.owner_take-book.result { owner = 7 } = search rules in
    let left : owner_left c.seat_in.new.seat ≡ owner_left c.owner_put.new.seat = search rules in
    let first : guest_number c.guest_put.new.seat ≡ 0 = search rules in let nines : guest_left c.guest_put.new.seat ≡ c.set_guest.new.self = search rules in
    let is_in : known c.seat_in.new.seat 0 ≡ In (guest_left c.guest_put.new.seat) = ap (known c.seat_in.new.seat) (sym first) ∙ c.seat_in.ensures.known.0 in
    let long : length c.guest_take-book.result.guests.items ≡ 256 = search rules in
    let owner : c.close-book.result.owner ≡ 7 = c.close-book.ensures.owner_part ∙ ap (λ (b : Numbers). b.owner) (left ∙ sevens) in
    let guest : c.guest.result ≡ 9 = c.guest.ensures ∙ (c.close-book.ensures.guests_in 0 (guest_left c.guest_put.new.seat) is_in ∙ (ap (part 0) nines ∙ (ap (λ l. slice_index_or l 0 0) c.set_guest.ensures.1 ∙ get_or-set_same c.guest_take-book.result.guests.items 0 9 0 (omega arith)))) in
    λ i. (owner i, guest i)
