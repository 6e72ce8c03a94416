use Rattle.std.proofs.Common.{List, ℕ, ◌∙◌, ◌++◌, ap, length}
use Rattle.fo_super.specs.Turns.{numbers_from}
use Rattle.fo_super.proofs.Turned.{search-started, state-started}
use Rattle.fo_super.proofs.state.FoState.start.Goals as goal

pub returns-clause-start : goal.returns-clause-start
returns-clause-start c =
    search-started c.args.problem c.in_ok-clauses.clauses c.in_ok-origins.origins c.in_ok-notes.notes c.push_numbers.new.numbers (c.in_ok-clauses.ensures ∙ c.as_slice.ensures) (rw c.as_slice-2.ensures at c.in_ok-origins.ensures)
    (c.in_ok-push_numbers.ensures ∙ ap (λ (x : List ℕ). x ++ numbers_from 0 c.len.result) c.new-passive.ensures ∙ ap (numbers_from 0) (c.len.ensures ∙ ap length (c.in_ok-clauses.ensures ∙ c.as_slice.ensures)))

pub returns-clause-state : goal.returns-clause-state
returns-clause-state c =
    state-started c.args.problem c.in_ok-clauses.clauses c.in_ok-origins.origins c.in_ok-notes.notes c.push_numbers.new.numbers c.requires (rw c.as_slice-3.ensures at c.in_ok-notes.ensures) (c.in_ok-clauses.ensures ∙ c.as_slice.ensures) (rw c.as_slice-2.ensures at c.in_ok-origins.ensures)
    (c.in_ok-push_numbers.ensures ∙ ap (λ (x : List ℕ). x ++ numbers_from 0 c.len.result) c.new-passive.ensures ∙ ap (numbers_from 0) (c.len.ensures ∙ ap length (c.in_ok-clauses.ensures ∙ c.as_slice.ensures)))
