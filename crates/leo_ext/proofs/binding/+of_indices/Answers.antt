use Rattle.std.proofs.Common.{arith}
use Rattle.leo_terms.proofs.CallerLemmas.{extends-itself, extends-trans}
use Rattle.leo_ext.proofs.BoundMaking.{first-function, indices-function, indices-made, indices-none, rest-types}
use Rattle.leo_ext.proofs.binding.+of_indices.Goals as goal

pub returns-in-None-clause-made : goal.returns-in-None-clause-made
returns-in-None-clause-made m c = indices-none c.args.bank.now c.args.types.now c.args.f c.in-None.ensures.cases c.requires.within

pub returns-in-None-clause-grows : goal.returns-in-None-clause-grows
returns-in-None-clause-grows m c = extends-itself c.is_sound.ensures.sound

pub of_indices-requires : goal.of_indices-requires
of_indices-requires m c =
    let l = c.in-Some.ensures.cases.1 in
    let n = c.in_ok-next-in-Some.ensures.made in
    let first = first-function c.args.bank.now c.args.types.now c.in-Some.first.now c.in-Some.rest.now c.args.f c.requires.function.0 c.in-Some.ensures.cases.0 c.requires.function.1 in (
      omega arith,
      (
        rest-types c.of_index.ensures.grows c.args.types.now c.in-Some.first.now c.in-Some.rest.now c.in-Some.ensures.cases.0 c.requires.types,
        (
          n.within,
          (c.requires.function.0, indices-function c.of_index.ensures.grows c.args.types.now c.in-Some.first.now c.in-Some.rest.now c.in-Some.ensures.cases.0 c.requires.types c.args.f c.in_ok-next-in-Some.next c.requires.function.0 c.requires.function.1 n),
        ),
      ),
    )

pub returns-in_err-whole-in-Some-clause-grows : goal.returns-in_err-whole-in-Some-clause-grows
returns-in_err-whole-in-Some-clause-grows m c = extends-trans c.of_index.ensures.grows c.of_indices.ensures.grows

pub returns-in_ok-whole-in-Some-clause-made : goal.returns-in_ok-whole-in-Some-clause-made
returns-in_ok-whole-in-Some-clause-made m c =
    indices-made c.of_index.ensures.grows c.of_indices.ensures.grows c.args.types.now c.in-Some.first.now c.in-Some.rest.now c.in-Some.ensures.cases.0 c.requires.types c.args.f c.in_ok-next-in-Some.next c.in_ok-whole-in-Some.whole c.in_ok-next-in-Some.ensures.made c.in_ok-whole-in-Some.ensures.made

pub returns-in_ok-whole-in-Some-clause-grows : goal.returns-in_ok-whole-in-Some-clause-grows
returns-in_ok-whole-in-Some-clause-grows m c = extends-trans c.of_index.ensures.grows c.of_indices.ensures.grows
