use Rattle.std.proofs.Common.{◌≡◌, length, map}
use Rattle.leo_clause.specs.declared.clause.Clause.{Clause}
use Rattle.leo_clause.specs.Trees.{ClauseTree, clause_at}
use Rattle.leo_keep.proofs.Lowering.{empty-differs, found-kept, groups-next}
use Rattle.leo_keep.proofs.Numbers.{get-index}
use Rattle.leo_keep.proofs.searching.copied_with.Goals as goal

pub loop-place-preserved : goal.loop-place-preserved
loop-place-preserved c = groups-next (λ (k : ClauseTree). k ≡ clause_at c.args.bank.now c.args.c.now) (map (clause_at c.args.bank.now) c.args.kept.now) c.args.fronts.now c.groups-groups.result.now c.loop-place.place (length c.args.kept.now) c.loop-place.least c.least_copy_in-least.result c.index-groups-place.result c.loop-place.invariant (get-index c.groups-groups.result.now c.loop-place.place c.index-groups-place.result c.loop-place-test.true c.index-groups-place.is) (rw c.as_slice.ensures at c.least_copy_in-least.ensures)

pub returns : goal.returns
returns c = found-kept c.args.bank.now c.args.kept.now (λ (k : ClauseTree). k ≡ clause_at c.args.bank.now c.args.c.now) c.args.fronts.now c.requires.fronts c.groups-groups.result.now c.loop-place.place c.loop-place.least c.below.result c.groups-groups.ensures c.loop-place.invariant c.loop-place-test.false (λ (k : Clause) h. empty-differs c.args.bank.now c.args.c.now c.args.front.now c.requires.front k h) c.below.ensures
