use Rattle.leo_terms.proofs.CallerLemmas.{extends-itself, extends-trans}
use Rattle.leo_para.proofs.Replaced.{part-typed, replaced-whole, whole-made}
use Rattle.leo_para.proofs.replacing.+replaced_at.Goals as goal

pub returns-in_default-clause-grows : goal.returns-in_default-clause-grows
returns-in_default-clause-grows m c = extends-itself c.is_sound.ensures.sound

pub returns-in_default-split_first-clause-made : goal.returns-in_default-split_first-clause-made
returns-in_default-split_first-clause-made m c = replaced-whole c.args.bank.now c.is_sound.ensures.sound c.args.t c.args.by c.args.path.now c.requires.within c.requires.by c.in_default-split_first.ensures.cases c.requires.typed

pub returns-in_default-split_first-clause-grows : goal.returns-in_default-split_first-clause-grows
returns-in_default-split_first-clause-grows m c = extends-itself c.is_sound.ensures.sound

pub with_child-requires-clause-typed : goal.with_child-requires-clause-typed
with_child-requires-clause-typed m c =
    part-typed c.replaced_at.ensures.grows c.args.t c.in-Some-child.below c.in_ok-part.part c.in-Some-split_first.number.now c.in-Some-split_first.rest.now _ c.requires.within c.in-Some-child.ensures.within c.in-Some-child.ensures.value c.in_ok-part.ensures.made

pub returns-in_err-whole-clause-grows : goal.returns-in_err-whole-clause-grows
returns-in_err-whole-clause-grows m c = extends-trans c.replaced_at.ensures.grows c.with_child.ensures.grows

pub returns-clause-made : goal.returns-clause-made
returns-clause-made m c =
    rw (c.in-Some-split_first.ensures.cases.0)
    (whole-made c.replaced_at.ensures.grows c.args.t c.in-Some-child.below c.in_ok-part.part c.in-Some-split_first.number.now c.in-Some-split_first.rest.now _ c.requires.within c.in-Some-child.ensures.within c.in-Some-child.ensures.value c.in_ok-part.ensures.made c.in_ok-whole.ensures.made)

pub returns-clause-grows : goal.returns-clause-grows
returns-clause-grows m c = extends-trans c.replaced_at.ensures.grows c.with_child.ensures.grows
