use Rattle.std.proofs.Common.{ℕ}
use Rattle.leo_clause.specs.Trees.{ClauseTree, clause_at}
use Rattle.leo_clause.specs.declared.clause.Clause.{Clause}
use Rattle.leo_keep.specs.declared.fronts.Front.{Front}
use Rattle.leo_keep.specs.Subsumption.{Subsumes}
use Rattle.leo_keep.proofs.Fronting.{first-sends}
use Rattle.leo_keep.proofs.Lowering.{front-fails, fronts-in, group-fails, group-numbers, never-group}
use Rattle.leo_keep.proofs.searching.least_subsuming_in.Goals as goal

pub may_group_start-requires-clause-fronts : goal.may_group_start-requires-clause-fronts
may_group_start-requires-clause-fronts c = fronts-in c.args.bank.now c.args.kept.now c.args.fronts.now c.requires.fronts

pub returns-then-not-may_group_start : goal.returns-then-not-may_group_start
returns-then-not-may_group_start c =
    group-fails _ _ c.args.fronts.now c.args.group.now c.args.before
    (λ (n : ℕ) (f : Front) s d. front-fails c.args.bank.now c.args.kept.now (λ (k : ClauseTree). Subsumes k (clause_at c.args.bank.now c.args.target.clause.now)) c.args.fronts.now c.requires.fronts n f s
    (λ (k : Clause) h p. first-sends c.args.bank.now f c.args.target.heads.now (never-group c.args.bank.now f.heads c.args.group.now.heads c.args.target.heads.now d c.if-not-may_group_start.ensures) k c.args.target.clause.now h c.requires.target.heads p))

pub returns : goal.returns
returns c = group-numbers _ _ c.args.fronts.now c.args.group.now c.args.before c.in_ok-least.least (rw c.as_slice-numbers.ensures.value at c.in_ok-least.ensures)
