use Rattle.clausify_rows.proofs.Normals.{on-normal}
use Rattle.clausify_rows.proofs.asking.is_normal.Goals as goal

pub returns-clause-normal : goal.returns-clause-normal
returns-clause-normal c = on-normal c.normal.ensures.grows c.args.t c.in_ok-form.form c.eq.result c.requires c.in_ok-form.ensures.made.value c.eq.ensures
