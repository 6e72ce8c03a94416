use Rattle.std.proofs.Common.{ℕ, not, nat_eq, true, false}
use Rattle.std.specs.Prelude.{filter, flat_map, map, if◌then◌else◌}
use Rattle.fo_super.specs.Sifting.{of_literal}
use Rattle.fo_super.proofs.Sifted.{listed-all, listed-next, listed-nothing, flat-filter-both}
use Rattle.std.proofs.Common.{List, subst}
use Rattle.fo_text.specs.declared.problem.FoLit.{FoLit}
use Rattle.fo_super.specs.Members.{numbered_from}
use Rattle.fo_super.specs.Sifting.{AreListed}
use Rattle.fo_super.proofs.Answering.{get-index}
use Rattle.fo_super.proofs.candidates.list_factorings.Goals as goal

pub loop-place-init : goal.loop-place-init
loop-place-init c = λ clauses. listed-nothing clauses c.args.out.now

pub loop-place-preserved : goal.loop-place-preserved
loop-place-preserved c = λ clauses.
    listed-next clauses (λ (ps : List (ℕ × FoLit)). flat_map (of_literal c.args.number c.args.clause.now.lits) (filter (λ (p : ℕ × FoLit). if true then p.1.pos else not p.1.pos) ps)) (flat-filter-both (of_literal c.args.number c.args.clause.now.lits) (λ (p : ℕ × FoLit). if true then p.1.pos else not p.1.pos)) c.as_slice-literals.result.now c.loop-place.place c.index-literals-place.result c.args.out.now c.loop-place.out c.list_factors_of.new.out
    (get-index c.as_slice-literals.result.now c.loop-place.place c.index-literals-place.result c.loop-place-test.true c.index-literals-place.is)
    (c.loop-place.invariant clauses) (c.in_ok-list_factors_of.ensures clauses)

pub returns : goal.returns
returns c = λ clauses. subst (λ (ls : List FoLit). AreListed clauses ((λ (ps : List (ℕ × FoLit)). flat_map (of_literal c.args.number c.args.clause.now.lits) (filter (λ (p : ℕ × FoLit). if true then p.1.pos else not p.1.pos) ps)) (numbered_from 0 ls)) c.args.out.now c.loop-place.out) c.as_slice-literals.ensures
    (listed-all clauses (λ (ps : List (ℕ × FoLit)). flat_map (of_literal c.args.number c.args.clause.now.lits) (filter (λ (p : ℕ × FoLit). if true then p.1.pos else not p.1.pos) ps)) (flat-filter-both (of_literal c.args.number c.args.clause.now.lits) (λ (p : ℕ × FoLit). if true then p.1.pos else not p.1.pos)) c.as_slice-literals.result.now c.loop-place.place c.args.out.now c.loop-place.out c.loop-place-test.false (c.loop-place.invariant clauses))
