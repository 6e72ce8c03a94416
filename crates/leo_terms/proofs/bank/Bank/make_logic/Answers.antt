use Rattle.std.proofs.Common.{◌≡◌, slice_get, subst}
use Rattle.leo_terms.specs.Contents.{Contents, IsSound}
use Rattle.leo_terms.proofs.Making.{IsSoundNode-logic}
use Rattle.leo_terms.proofs.PublicWords.{extends, if_added}
use Rattle.leo_terms.proofs.bank.Bank.make_logic.Goals as goal

pub numbered-requires : goal.numbered-requires
numbered-requires c =
    let x : c.argument_at-first.result ≡ slice_get c.args.args.now 0 = c.argument_at-first.ensures in
    let y : c.argument_at-second.result ≡ slice_get c.args.args.now 1 = c.argument_at-second.ensures in
    let s = subst (λ (v : Contents). IsSound v) c.self.view_is c.self.invariant.sound in
    rw (x, y, c.ty-ty.ensures) (IsSoundNode-logic c.args.self.now s c.args.op c.args.args.now c.requires.within c.requires.type_within c.requires.typed)

pub returns-clause-grows : goal.returns-clause-grows
returns-clause-grows c = extends c.args.self.now c.numbered.new.self c.numbered.ensures.grows

pub returns-clause-added : goal.returns-clause-added
returns-clause-added c =
    let x : c.argument_at-first.result ≡ slice_get c.args.args.now 0 = c.argument_at-first.ensures in
    let y : c.argument_at-second.result ≡ slice_get c.args.args.now 1 = c.argument_at-second.ensures in
    rw (← x, ← y, ← c.ty-ty.ensures) (if_added c.numbered.result c.args.self.now.terms c.numbered.new.self.terms _ c.numbered.ensures.added)
