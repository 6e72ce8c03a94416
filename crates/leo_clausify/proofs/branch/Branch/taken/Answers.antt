use Rattle.leo_clausify.proofs.Branching.{taken-extended}
use Rattle.leo_clausify.specs.declared.moves.Move.TheVariants as move
use Rattle.leo_clausify.proofs.branch.Branch.taken.Goals as goal

pub returns-clause-extended : goal.returns-clause-extended
returns-clause-extended c =
    taken-extended c.normalized.ensures.grows c.args.self c.in_ok-branch.branch c.in_ok-branch-2.branch c.args.at c.args.pieces.now.fresh c.args.pieces.now.new c.in_ok-normals.normals c.in_ok-clause.clause c.in_ok-normal.normal (move.Apart c.args.at c.args.pieces.now.kind c.args.pieces.now.abbr) c.requires.branch c.requires.fresh c.requires.new c.requires.typed
    (rw c.as_slice-new.ensures at c.in_ok-normals.ensures.made)
    (rw c.as_slice-fresh.ensures at c.in_ok-clause.ensures.vars)
    (rw c.as_slice-new.ensures at c.in_ok-clause.ensures.lits)
    (rw c.as_slice-fresh.ensures at c.in_ok-normal.ensures.vars)
    (rw c.as_slice.ensures at c.in_ok-normal.ensures.lits)
    c.in_ok-branch.ensures.clause c.in_ok-branch.ensures.steps c.in_ok-branch-2.ensures.clause c.in_ok-branch-2.ensures.steps tt
