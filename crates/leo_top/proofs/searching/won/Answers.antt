use Rattle.std.proofs.Common.{map}
use Rattle.leo_kernel.specs.Steps.{line_at}
use Rattle.leo_top.proofs.Answering.{win_made}
use Rattle.leo_top.proofs.Runs.{symbols_of, symbols_shown}
use Rattle.leo_top.proofs.searching.won.Goals as goal

pub refuted_text-requires-clause-symbols : goal.refuted_text-requires-clause-symbols
refuted_text-requires-clause-symbols c =
    let found = c.in_ok-steps.ensures in
    symbols_shown c.problem-problem.ensures c.deref.ensures.value (symbols_of c.in_ok-steps.steps.items c.requires.bank found.steps found.refutation.0)

pub returns : goal.returns
returns c =
    let found = c.in_ok-steps.ensures in
    win_made c.args.about c.problem-problem.result.now c.requires.about (record { are_steps = found.steps; pruned = found.pruned; refutation = found.refutation; falsity = found.falsity; nameable = λ told name root said. c.naming_law.ensures told name root c.args.book.now.problem (map (line_at c.args.book.now.problem.bank) c.in_ok-steps.steps.items) c.requires.bank c.requires.book.problem said found.origin })
    c.problem-problem.ensures c.deref.ensures.value c.refuted_status-status.ensures c.in_ok-text.ensures
