use Rattle.std.proofs.Common.{map}
use Rattle.leo_terms.specs.Contents.{tree_at}
use Rattle.leo_derive.proofs.Checked.{record_accepted, record_refused}
use Rattle.leo_derive.proofs.checking.check_line.Goals as goal

pub returns-in-Ok-clause-accepted : goal.returns-in-Ok-clause-accepted
returns-in-Ok-clause-accepted c =
    record_accepted (map (tree_at c.args.bank.now) c.args.hyps.now) c.args.bank.now c.args.lines.now c.args.number c.index-lines-number.result c.requires.stands c.index-lines-number.is c.in-Ok.ensures.verdict

pub returns-in-Err-Refused-clause-refusal : goal.returns-in-Err-Refused-clause-refusal
returns-in-Err-Refused-clause-refusal c =
    record_refused (map (tree_at c.args.bank.now) c.args.hyps.now) c.args.bank.now c.args.lines.now c.args.number c.index-lines-number.result c.requires.stands c.index-lines-number.is c.in-Err-Refused.reason c.in-Err-Refused.field-0 c.in-Err-Refused.field-0-is c.in-Err-Refused.ensures.verdict
