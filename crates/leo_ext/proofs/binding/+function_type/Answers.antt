use Rattle.leo_terms.proofs.CallerLemmas.{extends-itself, extends-trans}
use Rattle.leo_ext.proofs.BoundMaking.{function-type-made, type-itself}
use Rattle.leo_ext.proofs.binding.+function_type.Goals as goal

pub returns-in-None-clause-made : goal.returns-in-None-clause-made
returns-in-None-clause-made m c = type-itself c.args.bank.now c.args.types.now c.args.to c.in-None.ensures.cases c.requires.to

pub returns-in-None-clause-grows : goal.returns-in-None-clause-grows
returns-in-None-clause-grows m c = extends-itself c.is_sound.ensures.sound

pub returns-in_ok-whole-in-Some-clause-made : goal.returns-in_ok-whole-in-Some-clause-made
returns-in_ok-whole-in-Some-clause-made m c =
    function-type-made c.function_type.ensures.grows c.arrow.ensures.grows c.args.types.now c.in-Some.first.now c.in-Some.rest.now c.in-Some.ensures.cases.0 c.requires.types c.args.to c.in_ok-given-in-Some.given c.in_ok-whole-in-Some.whole c.in_ok-given-in-Some.ensures.made c.in_ok-whole-in-Some.ensures.made c.in_ok-whole-in-Some.ensures.within

pub returns-in_ok-whole-in-Some-clause-grows : goal.returns-in_ok-whole-in-Some-clause-grows
returns-in_ok-whole-in-Some-clause-grows m c = extends-trans c.function_type.ensures.grows c.arrow.ensures.grows
