use Rattle.std.proofs.Common.{◌+◌, ◌<◌, ◌≤◌, refl, map, length, false, arith}
use Rattle.std.proofs.lemmas.Option.{slice_get-get_or, slice_get_read}
use Rattle.std.proofs.lemmas.List.{length-map, drop_all}
use Rattle.fo_super.specs.Runs.{origin_of}
use Rattle.fo_prove.specs.Refutations.{RestsOn}
use Rattle.fo_prove.proofs.Closing.{at_map}
use Rattle.fo_prove.proofs.Lining.{length_added, line_added_at, lines_done}
use Rattle.fo_prove.proofs.lines.marked_lines.Goals as goal

pub add-requires-clause-lines : goal.add-requires-clause-lines
add-requires-clause-lines c = λ m par.
    let origins = c.args.origins.now in
    let n = c.loop-at.at in
    let o = c.index-origins-at.result in
    let at = at_map origin_of origins n o (slice_get_read origins (length origins) n o refl c.loop-at-test.true c.index-origins-at.is) in
    let less : m < n = c.requires.earlier n m (origin_of o) at par in
    omega (arith, less, c.loop-at.invariant.counted)

pub add-requires-clause-clauses : goal.add-requires-clause-clauses
add-requires-clause-clauses c = λ m par.
    let origins = c.args.origins.now in
    let n = c.loop-at.at in
    let o = c.index-origins-at.result in
    let at = at_map origin_of origins n o (slice_get_read origins (length origins) n o refl c.loop-at-test.true c.index-origins-at.is) in
    let less : m < n = c.requires.earlier n m (origin_of o) at par in
    omega (arith, less, c.loop-at-test.true, c.requires.clauses)

pub loop-at-preserved : goal.loop-at-preserved
loop-at-preserved c =
    let origins = c.args.origins.now in
    let marks = c.args.marks.now in
    let n = c.loop-at.at in
    let o = c.index-origins-at.result in
    let i = c.loop-at.invariant in
    let at = at_map origin_of origins n o (slice_get_read origins (length origins) n o refl c.loop-at-test.true c.index-origins-at.is) in
    let inside : n < length marks = omega (arith, c.loop-at-test.true, c.requires.marks) in
    let adds = c.in_ok-add.ensures in
    record {
      within = omega (arith, c.loop-at-test.true);
      counted = (let l = length_added adds in omega (arith, l, i.counted));
      so_far = λ e needed rest ls. line_added_at adds (map origin_of origins) e n (n + 1) c.args.first marks (omega arith) at (slice_get-get_or marks n false inside) i.counted needed (i.so_far e needed) rest ls;
    }

pub returns : goal.returns
returns c = λ e needed.
    let os = map origin_of c.args.origins.now in
    let i = c.loop-at.invariant in
    let end : length os ≤ c.loop-at.at = (let l = length-map c.args.origins.now origin_of in omega (arith, l, c.loop-at-test.false)) in
    lines_done (RestsOn os e) os _ (drop_all c.loop-at.at os end) (i.so_far e needed)
