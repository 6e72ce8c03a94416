use Rattle.std.proofs.Common.{ℕ, List, ◌≡◌, ◌∙◌, ◌+◌, ◌-◌, ◌<◌, ◌≤◌, ◌++◌, ap, sym, subst, refl, arith, length}
use Rattle.std.specs.List.{AllByRecursion}
use Rattle.fo_super.specs.Passives.{others_from, without, IsRisingFrom}
use Rattle.fo_super.specs.Turns.{numbers_from}
use Rattle.fo_super.proofs.Answering.{get-within}
use Rattle.fo_super.proofs.Choosing.{others-below, rising-filtered}
use Rattle.fo_super.proofs.Fronts.{front-long}
use Rattle.fo_super.proofs.Turned.{few-kept, turn-made}
use Rattle.fo_super.proofs.turning.attempt.Goals as goal

pub partners-requires : goal.partners-requires
partners-requires c = subst (IsRisingFrom 0) (sym (c.as_slice-2.ensures ∙ c.in_ok-passive.ensures ∙ ap (without c.args.given) c.as_slice.ensures)) (rising-filtered 0 _ c.args.state.now.passive c.requires.state.rising)

pub work_turn-requires-clause-given : goal.work_turn-requires-clause-given
work_turn-requires-clause-given c = get-within c.args.state.now.clauses c.args.given c.requires.given.0 c.requires.given.1.clause_at

pub work_turn-requires-clause-partners : goal.work_turn-requires-clause-partners
work_turn-requires-clause-partners c =
    subst (λ (x : List ℕ). AllByRecursion (λ (n : ℕ). n < length c.args.state.now.clauses) x) (sym (c.as_slice-3.ensures ∙ c.in_ok-partners.ensures))
    (others-below 0 c.len-count.result (length c.args.state.now.clauses) c.as_slice-2.result.now (let e : c.len-count.result ≡ length c.args.state.now.clauses = c.len-count.ensures in omega arith))

pub overflow_cast-kept : goal.overflow_cast-kept
overflow_cast-kept c =
    let l : length c.work_turn.new.clauses ≤ 999999999
    = few-kept c.args.state.now c.work_turn.new.clauses c.work_turn.new.origins c.args.given c.len-count.result c.as_slice-3.result.now c.requires.given c.requires.state.count c.len-count.ensures
    (c.as_slice-3.ensures ∙ c.in_ok-partners.ensures ∙ ap (others_from 0 c.len-count.result) (c.as_slice-2.ensures ∙ c.in_ok-passive.ensures ∙ ap (without c.args.given) c.as_slice.ensures)) c.in_ok-work_turn.ensures.worked in
    let e : c.len.result ≡ length c.work_turn.new.clauses = c.len.ensures in
    omega arith

pub push_numbers-requires : goal.push_numbers-requires
push_numbers-requires c =
    let l : length c.work_turn.new.clauses ≤ 999999999
    = few-kept c.args.state.now c.work_turn.new.clauses c.work_turn.new.origins c.args.given c.len-count.result c.as_slice-3.result.now c.requires.given c.requires.state.count c.len-count.ensures
    (c.as_slice-3.ensures ∙ c.in_ok-partners.ensures ∙ ap (others_from 0 c.len-count.result) (c.as_slice-2.ensures ∙ c.in_ok-passive.ensures ∙ ap (without c.args.given) c.as_slice.ensures)) c.in_ok-work_turn.ensures.worked in
    let e : c.len.result ≡ length c.work_turn.new.clauses = c.len.ensures in
    let f : c.len-count.result ≡ length c.args.state.now.clauses = c.len-count.ensures in
    let m : length c.args.state.now.clauses ≤ 999999999 = c.requires.state.count in
    omega arith

pub returns-clause-turn : goal.returns-clause-turn
returns-clause-turn c =
    turn-made c.args.state.now (record { problem = c.args.state.now.problem; clauses = c.work_turn.new.clauses; origins = c.work_turn.new.origins; notes = c.work_turn.new.notes; passive = c.args.state.now.passive; turns = c.args.state.now.turns }) c.args.given c.len-count.result (c.len.result - c.len-count.result) c.as_slice-3.result.now c.push_numbers.new.numbers c.requires.given
    (record { problem = refl; passive = refl; turns = refl; clauses = c.in_ok-work_turn.ensures.more_clauses; origins = c.in_ok-work_turn.ensures.more_origins; notes = c.in_ok-work_turn.ensures.more_notes }) c.len-count.ensures
    (c.as_slice-3.ensures ∙ c.in_ok-partners.ensures ∙ ap (others_from 0 c.len-count.result) (c.as_slice-2.ensures ∙ c.in_ok-passive.ensures ∙ ap (without c.args.given) c.as_slice.ensures)) c.in_ok-work_turn.ensures.worked
    (c.in_ok-push_numbers.ensures ∙ ap (λ (x : List ℕ). x ++ numbers_from c.len-count.result (c.len.result - c.len-count.result)) (c.in_ok-passive.ensures ∙ ap (without c.args.given) c.as_slice.ensures))
    (let l : length c.args.state.now.clauses ≤ length c.work_turn.new.clauses = front-long c.args.state.now.clauses c.work_turn.new.clauses c.in_ok-work_turn.ensures.more_clauses in
    let e : c.len.result ≡ length c.work_turn.new.clauses = c.len.ensures in
    let f : c.len-count.result ≡ length c.args.state.now.clauses = c.len-count.ensures in
    omega arith)
