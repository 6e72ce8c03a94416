use Rattle.std.proofs.Common.{◌≡◌, ◌+◌, [], ◌∷◌, ◌++◌, take, drop, subst}
use Rattle.leo_clause.specs.declared.clause.Lit.{Lit}
use Rattle.leo_clausify.proofs.Branching.{turned-extended, index-is}
use Rattle.leo_clausify.proofs.branch.Branch.turned.Goals as goal

pub returns : goal.returns
returns c = λ l later e.
    let f : c.index-as_slice-at.result ≡ l = index-is c.args.self.clause.lits c.as_slice.result.now c.args.at l c.index-as_slice-at.result c.as_slice.ensures e c.index-as_slice-at.is in
    let lits = subst (λ (x : Lit). c.in_ok-clause.clause.lits ≡ take c.args.at c.args.self.clause.lits ++ (record { pos = x.pos; left = x.right; right = x.left } ∷ [] ++ drop (c.args.at + 1) c.args.self.clause.lits)) f c.in_ok-clause.ensures.lits in
    turned-extended c.args.bank.now c.is_sound.ensures.sound later c.args.self c.in_ok-branch.branch c.args.at l c.in_ok-clause.clause c.requires.branch e c.in_ok-clause.ensures.vars lits c.in_ok-branch.ensures.clause c.in_ok-branch.ensures.steps
