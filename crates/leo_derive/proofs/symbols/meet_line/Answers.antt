use Rattle.leo_clause.proofs.Meeting.{both-met}
use Rattle.leo_derive.proofs.symbols.meet_line.Goals as goal

pub returns-clause-symbols : goal.returns-clause-symbols
returns-clause-symbols c =
    let first = rw c.as_slice.ensures at c.in_ok-meet_lits.ensures.symbols in
    both-met _ _ c.args.symbols.now.keys c.meet_lits.new.symbols.keys c.meet_rule.new.symbols.keys first c.in_ok-meet_rule.ensures.symbols
