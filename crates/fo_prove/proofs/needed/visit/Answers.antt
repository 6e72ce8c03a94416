use Rattle.std.proofs.Common.{◌<◌, refl, ap, ◌∙◌, map, length, false, Some, arith}
use Rattle.std.proofs.lemmas.Option.{slice_get-get_or, slice_get_read}
use Rattle.fo_super.specs.Runs.{origin_of}
use Rattle.fo_prove.proofs.Closing.{at_map, closed_marked, closed_passed}
use Rattle.fo_prove.proofs.needed.visit.Goals as goal

pub mark_parents-requires : goal.mark_parents-requires
mark_parents-requires c = λ m par.
    let origins = c.args.origins.now in
    let at = at_map origin_of origins c.args.at c.index-origins-at.result (slice_get_read origins (length origins) c.args.at c.index-origins-at.result refl c.requires.within c.index-origins-at.is) in
    let less : m < c.args.at = c.requires.earlier c.args.at m (origin_of c.index-origins-at.result) at par in
    omega (arith, less, c.requires.within, c.requires.same_length)

pub returns-then-marks-at-clause-visited : goal.returns-then-marks-at-clause-visited
returns-then-marks-at-clause-visited c = λ e closed.
    let origins = c.args.origins.now in
    let marks = c.args.marks.now in
    let within : c.args.at < length marks = omega (arith, c.requires.within, c.requires.same_length) in
    let at = at_map origin_of origins c.args.at c.index-origins-at.result (slice_get_read origins (length origins) c.args.at c.index-origins-at.result refl c.requires.within c.index-origins-at.is) in
    closed_marked c.args.at (map origin_of origins) e marks c.mark_parents.new.marks (origin_of c.index-origins-at.result) c.requires.earlier at (slice_get-get_or marks c.args.at false within ∙ ap Some c.if-marks-at.true) c.mark_parents.ensures closed

pub returns-else-marks-at-clause-visited : goal.returns-else-marks-at-clause-visited
returns-else-marks-at-clause-visited c = λ e closed.
    let marks = c.args.marks.now in
    let within : c.args.at < length marks = omega (arith, c.requires.within, c.requires.same_length) in
    closed_passed c.args.at (map origin_of c.args.origins.now) e marks (slice_get-get_or marks c.args.at false within ∙ ap Some c.if-marks-at.false) closed
