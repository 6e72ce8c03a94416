use Rattle.std.proofs.Common.{arith, map}
use Rattle.leo_terms.specs.Contents.{type_at}
use Rattle.leo_kernel.proofs.Lists.{get-index}
use Rattle.leo_kernel.proofs.Numbers.{types-at}
use Rattle.leo_kernel.proofs.Pairs.{pairs-next}
use Rattle.leo_kernel.proofs.GivenTerms.{terms-length, terms-fit, term-unfit}
use Rattle.leo_kernel.proofs.given.are_terms_for.Goals as goal

pub returns-then-old-sigma : goal.returns-then-old-sigma
returns-then-old-sigma c = terms-length c.args.bank.now (map (type_at c.args.bank.now) c.args.new.now) c.args.old.now c.args.sigma.now c.if-old-sigma.true

pub is_term_for-requires-clause-within : goal.is_term_for-requires-clause-within
is_term_for-requires-clause-within c = c.requires.sigma c.loop-place.place c.index-sigma-place.result (get-index c.args.sigma.now c.loop-place.place c.index-sigma-place.result (let t = c.loop-place-test.true in let e = c.if-old-sigma.false in omega arith) c.index-sigma-place.is)

pub is_term_for-requires-clause-ty : goal.is_term_for-requires-clause-ty
is_term_for-requires-clause-ty c = types-at c.args.bank.now c.args.old.now c.requires.old c.loop-place.place c.index-old-place.result c.loop-place-test.true c.index-old-place.is

pub returns-then-not-fits : goal.returns-then-not-fits
returns-then-not-fits c = term-unfit c.args.bank.now (map (type_at c.args.bank.now) c.args.new.now) c.args.old.now c.args.sigma.now c.loop-place.place c.index-old-place.result c.index-sigma-place.result c.in_ok-fits.fits c.loop-place-test.true c.if-old-sigma.false c.index-old-place.is c.index-sigma-place.is c.in_ok-fits.ensures.value c.if-not-fits.true

pub loop-place-preserved : goal.loop-place-preserved
loop-place-preserved c = (
  pairs-next _ c.args.old.now c.args.sigma.now c.loop-place.place c.index-old-place.result c.index-sigma-place.result c.loop-place.invariant.0 c.loop-place-test.true (let t = c.loop-place-test.true in let e = c.if-old-sigma.false in omega arith) c.index-old-place.is c.index-sigma-place.is (c.in_ok-fits.ensures.value.0 c.if-not-fits.false),
  c.in_ok-fits.ensures.visited,
)

pub returns : goal.returns
returns c = terms-fit c.args.bank.now (map (type_at c.args.bank.now) c.args.new.now) c.args.old.now c.args.sigma.now c.loop-place.place c.loop-place-test.false c.if-old-sigma.false c.loop-place.invariant.0
