use Rattle.std.proofs.Common.{arith}
use Rattle.leo_terms.proofs.CallerLemmas.{extends-itself, extends-trans, type_number-within}
use Rattle.leo_kernel.proofs.ChosenNext.{function-of, base-none, next-applies, next-made}
use Rattle.leo_kernel.proofs.chosen_matching.extended.Goals as goal

pub view_ty-requires : goal.view_ty-requires
view_ty-requires c = rw c.type_of-ty.ensures.number (type_number-within c.type_of-ty.ensures.sound c.args.t c.requires.within)

pub first_argument-requires-clause-function : goal.first_argument-requires-clause-function
first_argument-requires-clause-function c = (function-of c.args.bank.now c.type_of-ty.ensures.sound c.args.t c.type_of-ty.result c.in-Arrow.from c.in-Arrow.to c.requires.within c.type_of-ty.ensures.number c.in-Arrow.ensures.view)

pub returns-in-Base-clause-value : goal.returns-in-Base-clause-value
returns-in-Base-clause-value c = base-none c.args.bank.now c.type_of-ty.ensures.sound c.args.vars.now c.args.wanted.now c.args.t c.type_of-ty.result c.in-Base.field-0 c.requires.within c.requires.ty c.type_of-ty.ensures.number c.in-Base.ensures.view c.requires.other

pub returns-in-Base-clause-grows : goal.returns-in-Base-clause-grows
returns-in-Base-clause-grows c = extends-itself c.type_of-ty.ensures.sound

pub make_var-requires : goal.make_var-requires
make_var-requires c = let f = (function-of c.args.bank.now c.type_of-ty.ensures.sound c.args.t c.type_of-ty.result c.in-Arrow.from c.in-Arrow.to c.requires.within c.type_of-ty.ensures.number c.in-Arrow.ensures.view) in let m = c.first_argument.ensures.grows.types_more in let l = f.from_within in omega arith

pub returns-in_err-x-in-Some-clause-grows : goal.returns-in_err-x-in-Some-clause-grows
returns-in_err-x-in-Some-clause-grows c = extends-trans c.first_argument.ensures.grows c.make_var.ensures.grows

pub make_app-requires-clause-typed : goal.make_app-requires-clause-typed
make_app-requires-clause-typed c = (next-applies c.first_argument.ensures.grows c.make_var.ensures.grows (function-of c.args.bank.now c.type_of-ty.ensures.sound c.args.t c.type_of-ty.result c.in-Arrow.from c.in-Arrow.to c.requires.within c.type_of-ty.ensures.number c.in-Arrow.ensures.view) c.in_ok-x-in-Some.ensures.made).0

pub returns-in_err-next-in-Some-clause-grows : goal.returns-in_err-next-in-Some-clause-grows
returns-in_err-next-in-Some-clause-grows c = extends-trans (extends-trans c.first_argument.ensures.grows c.make_var.ensures.grows) c.make_app.ensures.grows

pub returns-in_ok-next-in-Some-clause-value : goal.returns-in_ok-next-in-Some-clause-value
returns-in_ok-next-in-Some-clause-value c = next-made c.first_argument.ensures.grows c.make_var.ensures.grows c.args.vars.now c.args.wanted.now (function-of c.args.bank.now c.type_of-ty.ensures.sound c.args.t c.type_of-ty.result c.in-Arrow.from c.in-Arrow.to c.requires.within c.type_of-ty.ensures.number c.in-Arrow.ensures.view) (rw c.in-Some.is at c.in_ok-first-in-Arrow.ensures.value) c.in_ok-x-in-Some.ensures.made c.in_ok-next-in-Some.ensures.made

pub returns-in_ok-next-in-Some-clause-grows : goal.returns-in_ok-next-in-Some-clause-grows
returns-in_ok-next-in-Some-clause-grows c = extends-trans (extends-trans c.first_argument.ensures.grows c.make_var.ensures.grows) c.make_app.ensures.grows

pub returns-in-None-clause-value : goal.returns-in-None-clause-value
returns-in-None-clause-value c = rw c.in-None.is at c.in_ok-first-in-Arrow.ensures.value
