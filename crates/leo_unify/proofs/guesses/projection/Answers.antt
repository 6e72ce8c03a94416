use Rattle.leo_terms.specs.Contents.{tree_at}
use Rattle.leo_terms.proofs.CallerLemmas.{extends-itself, type_number-within}
use Rattle.leo_unify.specs.Acts.{takes_few}
use Rattle.leo_unify.proofs.GuessSteps.{ends-no, ends-yes, first-none, and-listed}
use Rattle.leo_unify.proofs.guesses.projection.Goals as goal

pub result_type-requires : goal.result_type-requires
result_type-requires c = rw c.type_of-ty.ensures.number (type_number-within c.is_sound.ensures.sound c.args.x c.requires.within)

pub returns-then-ne-clause-value : goal.returns-then-ne-clause-value
returns-then-ne-clause-value c = first-none _ (takes_few (tree_at c.args.bank.now c.args.x)) _ (ends-no c.args.bank.now c.is_sound.ensures.sound c.args.x c.type_of-ty.result c.result_type.result c.args.result_ty c.requires.within c.result_type.ensures.within c.requires.ends c.type_of-ty.ensures.number c.result_type.ensures.value c.ne.result c.ne.ensures c.if-ne.true)

pub returns-then-ne-clause-grows : goal.returns-then-ne-clause-grows
returns-then-ne-clause-grows c = extends-itself c.is_sound.ensures.sound

pub returns-clause-value : goal.returns-clause-value
returns-clause-value c = and-listed _ (takes_few (tree_at c.args.bank.now c.args.x)) _ _ (ends-yes c.args.bank.now c.is_sound.ensures.sound c.args.x c.type_of-ty.result c.result_type.result c.args.result_ty c.requires.within c.result_type.ensures.within c.requires.ends c.type_of-ty.ensures.number c.result_type.ensures.value c.ne.result c.ne.ensures c.if-ne.false) c.in_ok-binding.ensures.value
