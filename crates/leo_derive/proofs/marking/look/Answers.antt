use Rattle.std.proofs.Common.{◌∙◌, sym}
use Rattle.leo_kernel.specs.Steps.{line_at}
use Rattle.leo_derive.proofs.Marked.{passed_by, looked_at}
use Rattle.leo_derive.proofs.marking.look.Goals as goal

pub returns-then-not-needed-clause-marked : goal.returns-then-not-needed-clause-marked
returns-then-not-needed-clause-marked c lines number order stands reached =
    passed_by lines number c.args.number order (line_at c.args.bank.now c.args.line.now) stands c.args.marks.now.items c.args.symbols.now.keys reached (sym c.is_marked-needed.ensures ∙ c.if-not-needed.true)

pub returns-clause-marked : goal.returns-clause-marked
returns-clause-marked c lines number order stands reached =
    rw (c.mark_named.ensures, c.in_ok-meet_line.ensures.symbols)
    (looked_at lines number c.args.number order (line_at c.args.bank.now c.args.line.now) stands c.args.marks.now.items c.args.symbols.now.keys reached (sym c.is_marked-needed.ensures ∙ c.if-not-needed.false) c.requires.named)
