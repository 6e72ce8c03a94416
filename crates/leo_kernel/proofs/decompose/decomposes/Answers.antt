use Rattle.std.proofs.Common.{[], ◌∷◌}
use Rattle.leo_clause.specs.Trees.{literal_at, clause_at}
use Rattle.leo_kernel.proofs.Decomposing.{pairs-decide, not-decomposed}
use Rattle.leo_kernel.proofs.decompose.decomposes.Goals as goal

pub returns-in-Pairs-Some-Some : goal.returns-in-Pairs-Some-Some
returns-in-Pairs-Some-Some c =
    let w = rw (c.in-Pairs-Some-Some.field-0-is, c.in-Pairs-Some-Some.field-1-is) at c.in-Pairs-Some-Some.ensures.within in
    pairs-decide c.args.bank.now c.is_sound.ensures.sound c.args.parent.now c.args.step.now c.args.place c.args.lit c.if-lit.false c.requires.parent c.requires.step (c.in-Pairs-Some-Some.l ∷ c.in-Pairs-Some-Some.k ∷ []) (rw (c.in-Pairs-Some-Some.field-0-is, c.in-Pairs-Some-Some.field-1-is) at c.in-Pairs-Some-Some.ensures.reads) (w.0.0, w.0.1, (w.1.0, w.1.1, tt)) c.concludes.result c.concludes.ensures

pub returns-in-Pairs-Some-None : goal.returns-in-Pairs-Some-None
returns-in-Pairs-Some-None c =
    let w = rw (c.in-Pairs-Some-None.field-0-is, c.in-Pairs-Some-None.field-1-is) at c.in-Pairs-Some-None.ensures.within in
    pairs-decide c.args.bank.now c.is_sound.ensures.sound c.args.parent.now c.args.step.now c.args.place c.args.lit c.if-lit.false c.requires.parent c.requires.step (c.in-Pairs-Some-None.l ∷ []) (rw (c.in-Pairs-Some-None.field-0-is, c.in-Pairs-Some-None.field-1-is) at c.in-Pairs-Some-None.ensures.reads) (w.0.0, w.0.1, tt) c.concludes-in-Pairs-Some-None.result c.concludes-in-Pairs-Some-None.ensures

pub returns-in-Pairs-None-Some : goal.returns-in-Pairs-None-Some
returns-in-Pairs-None-Some c =
    let w = rw (c.in-Pairs-None-Some.field-0-is, c.in-Pairs-None-Some.field-1-is) at c.in-Pairs-None-Some.ensures.within in
    pairs-decide c.args.bank.now c.is_sound.ensures.sound c.args.parent.now c.args.step.now c.args.place c.args.lit c.if-lit.false c.requires.parent c.requires.step (c.in-Pairs-None-Some.k ∷ []) (rw (c.in-Pairs-None-Some.field-0-is, c.in-Pairs-None-Some.field-1-is) at c.in-Pairs-None-Some.ensures.reads) (w.1.0, w.1.1, tt) c.concludes-in-Pairs-None-Some.result c.concludes-in-Pairs-None-Some.ensures

pub returns-in-Pairs-None-None : goal.returns-in-Pairs-None-None
returns-in-Pairs-None-None c =
    let w = rw (c.in-Pairs-None-None.field-0-is, c.in-Pairs-None-None.field-1-is) at c.in-Pairs-None-None.ensures.within in
    pairs-decide c.args.bank.now c.is_sound.ensures.sound c.args.parent.now c.args.step.now c.args.place c.args.lit c.if-lit.false c.requires.parent c.requires.step ([]) (rw (c.in-Pairs-None-None.field-0-is, c.in-Pairs-None-None.field-1-is) at c.in-Pairs-None-None.ensures.reads) (tt) c.concludes-in-Pairs-None-None.result c.concludes-in-Pairs-None-None.ensures

pub returns-in-Different : goal.returns-in-Different
returns-in-Different c = not-decomposed (literal_at c.args.bank.now c.args.lit) c.if-lit.false (clause_at c.args.bank.now c.args.step.now) (clause_at c.args.bank.now c.args.parent.now) c.args.place c.in-Different.ensures.reads
