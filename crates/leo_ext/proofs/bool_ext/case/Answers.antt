use Rattle.leo_ext.proofs.Casing.{case-made}
use Rattle.leo_ext.proofs.bool_ext.case.Goals as goal

pub returns : goal.returns
returns c = record {
  made = case-made c.args.bank.now c.args.truths.now c.requires.truths c.args.lit.now c.args.half c.first_value-value.result c.second_value-other.result c.valued-first.result c.valued-second.result c.in_ok-lits.lits c.requires.left c.requires.right c.first_value-value.ensures c.second_value-other.ensures c.valued-first.ensures c.valued-second.ensures c.in_ok-lits.ensures;
}
