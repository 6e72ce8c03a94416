use Rattle.std.proofs.Common.{length, map}
use Rattle.leo_clause.specs.declared.clause.Clause.{Clause}
use Rattle.leo_clause.specs.Trees.{ClauseTree, clause_at}
use Rattle.leo_keep.specs.Subsumption.{Subsumes}
use Rattle.leo_keep.proofs.Fronting.{empty-sends}
use Rattle.leo_keep.proofs.Lowering.{found-kept, groups-next}
use Rattle.leo_keep.proofs.Numbers.{get-index}
use Rattle.leo_keep.proofs.searching.subsuming_target.Goals as goal

pub loop-place-preserved : goal.loop-place-preserved
loop-place-preserved c = groups-next (λ (k : ClauseTree). Subsumes k (clause_at c.args.bank.now c.args.target.clause.now)) (map (clause_at c.args.bank.now) c.args.kept.now) c.args.fronts.now c.groups-groups.result.now c.loop-place.place (length c.args.kept.now) c.loop-place.least c.in_ok-least.least c.index-groups-place.result c.loop-place.invariant (get-index c.groups-groups.result.now c.loop-place.place c.index-groups-place.result c.loop-place-test.true c.index-groups-place.is) (rw c.as_slice.ensures at c.in_ok-least.ensures)

pub returns : goal.returns
returns c = found-kept c.args.bank.now c.args.kept.now (λ (k : ClauseTree). Subsumes k (clause_at c.args.bank.now c.args.target.clause.now)) c.args.fronts.now c.requires.fronts c.groups-groups.result.now c.loop-place.place c.loop-place.least c.below-number.result c.groups-groups.ensures c.loop-place.invariant c.loop-place-test.false (λ (k : Clause) h. λ p. empty-sends c.args.bank.now c.args.target.heads.now k c.args.target.clause.now h c.requires.target.heads p) c.below-number.ensures
