use Rattle.std.proofs.Common.{map, ap, ◌∙◌}
use Rattle.leo_terms.specs.Contents.{tree_at}
use Rattle.leo_clause.specs.Trees.{literal_at}
use Rattle.leo_kernel.specs.Shapes.{side_of}
use Rattle.leo_para.specs.Places.{places}
use Rattle.leo_para.specs.Members.{member_at}
use Rattle.leo_para.specs.Reading.{place_at}
use Rattle.leo_para.proofs.Looping.{flat_map-whole, side-reads, spot-within}
use Rattle.leo_para.proofs.due.put_side.Goals as goal

pub put_spot-requires-clause-spot : goal.put_spot-requires-clause-spot
put_spot-requires-clause-spot c =
    spot-within c.args.bank.now c.in_ok-spots.spots.items c.in_ok-spots.ensures.spots c.loop-spot.spot-index c.spot-item.result
    (rw c.as_slice-spot-items.ensures.value at c.loop-spot-test.true) (rw c.as_slice-spot-items.ensures.value at c.spot-item.is)

pub returns : goal.returns
returns c = record {
  found = flat_map-whole (place_at c.args.bank.now) (member_at c.args.equation.now.number (literal_at c.args.bank.now c.args.equation.now.lit) c.args.equation.now.side c.args.target.now.number (literal_at c.args.bank.now c.args.target.now.lit) c.args.target.now.side) c.as_slice-spot-items.result.now (places (side_of c.args.target.now.side (literal_at c.args.bank.now c.args.target.now.lit))) c.loop-spot.spot-index _ _
      (ap (map (place_at c.args.bank.now)) c.as_slice-spot-items.ensures.value ∙ c.in_ok-spots.ensures.places ∙ ap (λ t. places (tree_at c.args.bank.now t)) c.side_of.ensures ∙ ap places (side-reads c.args.bank.now c.args.target.now.side c.args.target.now.lit))
      c.loop-spot-test.false c.loop-spot.invariant;
}
