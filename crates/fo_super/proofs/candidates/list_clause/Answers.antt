use Rattle.std.proofs.Common.{ℕ, not, nat_eq, true, false}
use Rattle.std.specs.Prelude.{filter, flat_map, map, if◌then◌else◌}
use Rattle.fo_super.specs.Sifting.{into_literal}
use Rattle.fo_super.proofs.Sifted.{listed-all, listed-end, listed-next, listed-nothing, flat-both, stands}
use Rattle.std.proofs.Common.{List, subst}
use Rattle.fo_text.specs.declared.problem.FoLit.{FoLit}
use Rattle.fo_super.specs.Members.{numbered_from}
use Rattle.fo_super.specs.Sifting.{AreListed}
use Rattle.fo_super.proofs.Answering.{get-index}
use Rattle.fo_super.proofs.candidates.list_clause.Goals as goal

pub loop-place-init : goal.loop-place-init
loop-place-init c = λ clauses at e. listed-nothing clauses c.args.out.now

pub loop-place-preserved : goal.loop-place-preserved
loop-place-preserved c = λ clauses at e.
    listed-next clauses (λ (ps : List (ℕ × FoLit)). flat_map (into_literal c.args.from.clause c.args.from.literal c.args.from.side c.args.into) ps) (flat-both (into_literal c.args.from.clause c.args.from.literal c.args.from.side c.args.into)) c.as_slice-literals.result.now c.loop-place.place c.index-literals-place.result c.args.out.now c.loop-place.out c.list_literal.new.out
    (get-index c.as_slice-literals.result.now c.loop-place.place c.index-literals-place.result c.loop-place-test.true c.index-literals-place.is)
    (c.loop-place.invariant clauses at e) (listed-end clauses (into_literal c.args.from.clause c.args.from.literal c.args.from.side c.args.into (c.loop-place.place, c.index-literals-place.result)) c.loop-place.out c.list_literal.new.out (c.in_ok-list_literal.ensures clauses at (stands clauses c.args.into c.loop-place.place c.args.receiver.now c.as_slice-literals.result.now c.index-literals-place.result e c.as_slice-literals.ensures (get-index c.as_slice-literals.result.now c.loop-place.place c.index-literals-place.result c.loop-place-test.true c.index-literals-place.is))))

pub returns : goal.returns
returns c = λ clauses at e. subst (λ (ls : List FoLit). AreListed clauses ((λ (ps : List (ℕ × FoLit)). flat_map (into_literal c.args.from.clause c.args.from.literal c.args.from.side c.args.into) ps) (numbered_from 0 ls)) c.args.out.now c.loop-place.out) c.as_slice-literals.ensures
    (listed-all clauses (λ (ps : List (ℕ × FoLit)). flat_map (into_literal c.args.from.clause c.args.from.literal c.args.from.side c.args.into) ps) (flat-both (into_literal c.args.from.clause c.args.from.literal c.args.from.side c.args.into)) c.as_slice-literals.result.now c.loop-place.place c.args.out.now c.loop-place.out c.loop-place-test.false (c.loop-place.invariant clauses at e))
