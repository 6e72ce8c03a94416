use Rattle.std.proofs.Common.{◌≡◌, ◌<◌, ap, refl, map, length, Some, arith}
use Rattle.std.specs.List.{slice_get}
use Rattle.std.proofs.lemmas.Option.{slice_get_read}
use Rattle.fo_super.specs.Runs.{search_of, origin_of}
use Rattle.fo_super.specs.Viewing.{member_of}
use Rattle.fo_replay.specs.Instances.{as_terms}
use Rattle.fo_prove.specs.Marks.{AreNeeded}
use Rattle.fo_prove.proofs.Closing.{at_map}
use Rattle.fo_prove.proofs.Finishing.{text_refutation, lines_refutation}
use Rattle.fo_prove.proofs.lines.refutation.Goals as goal

pub returns-in_ok-r-in-Given : goal.returns-in_ok-r-in-Given
returns-in_ok-r-in-Given c =
    let s = c.args.state.now in
    let e = c.args.empty in
    let within : e < length s.origins = omega (arith, c.requires.within, c.requires.counted) in
    let o = c.index-origins-empty.result in
    let read = rw c.as_slice-origins.ensures at c.index-origins-empty.is in
    let kept = rw c.as_slice-clauses.ensures at c.index-clauses-empty.is in
    let at : slice_get (map origin_of s.origins) e ≡ Some (origin_of o) = at_map origin_of s.origins e o (slice_get_read s.origins (length s.origins) e o refl within read) in
    text_refutation s.problem (search_of s) e c.index-clauses-empty.result c.in_ok-r-in-Given.r (rw c.in-Given.is at at) (slice_get_read s.clauses (length s.clauses) e c.index-clauses-empty.result refl c.requires.within kept) c.in_ok-r-in-Given.ensures

pub returns-in_ok-r-in-Concluded : goal.returns-in_ok-r-in-Concluded
returns-in_ok-r-in-Concluded c =
    let s = c.args.state.now in
    let e = c.args.empty in
    let os = c.as_slice-origins.result.now in
    let within : e < length os = (let h = ap length c.as_slice-origins.ensures in omega (arith, h, c.requires.within, c.requires.counted)) in
    let o = c.index-origins-empty.result in
    let at : slice_get (map origin_of os) e ≡ Some (origin_of o) = at_map origin_of os e o (slice_get_read os (length os) e o refl within c.index-origins-empty.is) in
    let needed : AreNeeded (map origin_of os) e c.deref.result.now = rw c.deref.ensures.value c.in_ok-marks-in-Concluded.ensures in
    lines_refutation s.problem (search_of s) e (member_of c.in-Concluded.member) c.in-Concluded.vars (as_terms c.in-Concluded.terms) c.as_slice-clauses.result.now (map origin_of os) c.len-first.result c.in_ok-r-in-Concluded.r
    (ap (map origin_of) c.as_slice-origins.ensures) c.as_slice-clauses.ensures c.len-first.ensures (rw c.in-Concluded.is at at) (c.in_ok-r-in-Concluded.ensures e needed)
