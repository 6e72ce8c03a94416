use Rattle.leo_terms.proofs.CallerLemmas.{extends-itself}
use Rattle.leo_tstp.proofs.building.numbers.type_of_node.Goals as goal

pub returns-in_err-ty-in-Base-clause-grows : goal.returns-in_err-ty-in-Base-clause-grows
returns-in_err-ty-in-Base-clause-grows c = extends-itself c.is_sound.ensures.sound

pub returns-in_ok-ty-in-Base-clause-within : goal.returns-in_ok-ty-in-Base-clause-within
returns-in_ok-ty-in-Base-clause-within c = c.in_ok-ty-in-Base.ensures c.args.bank.now c.requires

pub returns-in_ok-ty-in-Base-clause-grows : goal.returns-in_ok-ty-in-Base-clause-grows
returns-in_ok-ty-in-Base-clause-grows c = extends-itself c.is_sound.ensures.sound

pub returns-in_err-a-in-Arrow-clause-grows : goal.returns-in_err-a-in-Arrow-clause-grows
returns-in_err-a-in-Arrow-clause-grows c = extends-itself c.is_sound.ensures.sound

pub returns-in_err-b-in-Arrow-clause-grows : goal.returns-in_err-b-in-Arrow-clause-grows
returns-in_err-b-in-Arrow-clause-grows c = extends-itself c.is_sound.ensures.sound

pub arrow-requires-clause-from : goal.arrow-requires-clause-from
arrow-requires-clause-from c = c.in_ok-a-in-Arrow.ensures c.args.bank.now c.requires

pub arrow-requires-clause-to : goal.arrow-requires-clause-to
arrow-requires-clause-to c = c.in_ok-b-in-Arrow.ensures c.args.bank.now c.requires
