use Rattle.std.proofs.Common.{refl}
use Rattle.leo_clause.specs.Trees.{literal_at}
use Rattle.leo_kernel.proofs.PlainRules.{factor-other, factored-is, polarity-same}
use Rattle.leo_kernel.proofs.plain.factors.Goals as goal

pub returns-then-not-same_types : goal.returns-then-not-same_types
returns-then-not-same_types c = factor-other c.args.bank.now c.is_sound.ensures.sound c.args.parent.now c.args.place _ (literal_at c.args.bank.now c.args.first) (literal_at c.args.bank.now c.args.second) c.args.step.now c.requires.parent c.requires.step c.same_types.result (rw (c.as_slice.ensures, c.as_slice-2.ensures) at c.same_types.ensures) c.if-not-same_types.true

pub returns : goal.returns
returns c =
    factored-is c.args.bank.now c.is_sound.ensures.sound c.args.parent.now c.args.place c.args.first c.args.second (record { pos = _; left = c.args.first.left; right = c.args.second.left }) (record { pos = _; left = c.args.first.right; right = c.args.second.right }) c.args.step.now c.requires.parent c.requires.step
    c.requires.first_left c.requires.second_left c.requires.first_right c.requires.second_right refl refl (polarity-same c.args.first.pos c.args.second.pos c.if-first-second.false)
    c.same_types.result c.is_followed.result (rw (c.as_slice.ensures, c.as_slice-2.ensures) at c.same_types.ensures) c.if-not-same_types.false (rw (c.as_slice-3.ensures, c.as_slice-4.ensures) at c.is_followed.ensures)
