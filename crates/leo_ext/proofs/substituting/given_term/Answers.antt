use Rattle.leo_terms.proofs.CallerLemmas.{extends-itself}
use Rattle.leo_ext.proofs.BoundMaking.{given-term}
use Rattle.leo_ext.proofs.substituting.given_term.Goals as goal

pub returns-then-number-n-clause-made : goal.returns-then-number-n-clause-made
returns-then-number-n-clause-made c = given-term c.args.bank.now c.is_sound.ensures.sound c.args.n c.args.number c.args.ty c.args.term c.requires.ty c.requires.within c.requires.typed c.if-number-n.true

pub returns-then-number-n-clause-grows : goal.returns-then-number-n-clause-grows
returns-then-number-n-clause-grows c = extends-itself c.is_sound.ensures.sound
