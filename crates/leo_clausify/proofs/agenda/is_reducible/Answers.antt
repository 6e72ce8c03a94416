use Rattle.std.proofs.Common.{true, refl}
use Rattle.leo_clause.specs.Trees.{literal_at}
use Rattle.leo_clausify.proofs.Stepping.{reducible-as}
use Rattle.leo_clausify.proofs.agenda.is_reducible.Goals as goal

pub returns-in-One : goal.returns-in-One
returns-in-One c = reducible-as (literal_at c.args.bank.now c.args.lit.now) _ true c.in-One.ensures.value refl

pub returns-in-Two : goal.returns-in-Two
returns-in-Two c = reducible-as (literal_at c.args.bank.now c.args.lit.now) _ true c.in-Two.ensures.value refl
