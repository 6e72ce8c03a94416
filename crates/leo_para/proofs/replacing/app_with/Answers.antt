use Rattle.std.proofs.lemmas.Result.{IfOk-weaker}
use Rattle.leo_para.proofs.Replaced.{function-put, other-argument, other-function}
use Rattle.leo_para.proofs.replacing.app_with.Goals as goal

pub make_app-requires-clause-typed : goal.make_app-requires-clause-typed
make_app-requires-clause-typed c = other-function c.args.bank.now c.is_sound.ensures.sound c.args.f c.args.x c.args.part c.args.number c.requires.function c.requires.argument c.requires.part c.requires.applicable c.requires.typed c.in-0.is

pub make_app-requires-in-1-clause-typed : goal.make_app-requires-in-1-clause-typed
make_app-requires-in-1-clause-typed c = other-argument c.args.bank.now c.is_sound.ensures.sound c.args.f c.args.x c.args.part c.args.number c.requires.function c.requires.argument c.requires.part c.requires.applicable c.requires.typed c.in-1.is

pub returns-in-0-clause-made : goal.returns-in-0-clause-made
returns-in-0-clause-made c =
    IfOk-weaker c.make_app.result _ _
    (λ t m. function-put c.args.bank.now c.is_sound.ensures.sound c.args.f c.args.x c.args.part c.args.number c.requires.function c.requires.argument c.requires.part c.requires.applicable c.requires.typed c.in-0.is m)
    c.make_app.ensures.made
