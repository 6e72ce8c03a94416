use Rattle.fo_super.specs.Numbering.{renaming}
use Rattle.fo_super.proofs.Listing.{terms-next}
use Rattle.fo_super.proofs.numbering.renamed_terms.Goals as goal

pub loop-term-preserved : goal.loop-term-preserved
loop-term-preserved c =
    terms-next (renaming c.args.names.now) c.args.terms.now c.loop-term.term-index c.term-item.result c.loop-term.list c.push.new.self c.in_ok-renamed.field-0
    c.loop-term-test.true c.term-item.is c.loop-term.invariant c.in_ok-renamed.ensures c.in_ok-push.ensures.ok
