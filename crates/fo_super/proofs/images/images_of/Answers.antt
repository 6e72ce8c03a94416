use Rattle.fo_terms.specs.Substitutions.{image}
use Rattle.fo_super.proofs.Listing.{images-next}
use Rattle.fo_super.proofs.images.images_of.Goals as goal

pub loop-number-preserved : goal.loop-number-preserved
loop-number-preserved c =
    images-next (image c.args.pairs.now) c.loop-number.number c.loop-number.list c.push.new.self c.in_ok-term.term c.loop-number.invariant c.in_ok-term.ensures c.in_ok-push.ensures.ok
