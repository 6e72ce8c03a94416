use Rattle.std.proofs.Common.{map}
use Rattle.leo_clause.specs.Trees.{literal_at}
use Rattle.leo_keep.proofs.Numbers.{yes, refuted}
use Rattle.leo_keep.proofs.Opposing.{holds-reflexive, holds-opposed}
use Rattle.leo_keep.proofs.tautologies.holds_with.Goals as goal

pub returns-then-is_reflexive : goal.returns-then-is_reflexive
returns-then-is_reflexive c =
    let h = c.is_reflexive.ensures.0 c.if-is_reflexive.true in
    yes (holds-reflexive c.args.bank.now c.args.lit.now (map (literal_at c.args.bank.now) c.args.others.now) h.0 h.1)

pub returns : goal.returns
returns c =
    holds-opposed c.args.bank.now c.is_sound.ensures.sound c.args.lit.now (map (literal_at c.args.bank.now) c.args.others.now) c.requires.left c.requires.right
    (λ e f. refuted c.is_reflexive.result c.is_reflexive.ensures c.if-is_reflexive.false (e, f)) c.is_opposed.result c.is_opposed.ensures
