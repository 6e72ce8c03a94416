use Rattle.std.proofs.Common.{◌≡◌, arith}
use Rattle.fo_kbo.proofs.Weighing.{heads-left_variable, heads-right_variable, heads-first, heads-second, heads-same}
use Rattle.fo_kbo.proofs.heads.compare_symbols.Goals as goal

pub returns-in-Var : goal.returns-in-Var
returns-in-Var c = heads-left_variable c.args.left.now c.args.right.now c.requires.left c.requires.right c.requires.same c.in-Var.field-0 c.in-Var.ensures

pub returns-in-Var-node_at : goal.returns-in-Var-node_at
returns-in-Var-node_at c = heads-right_variable c.args.left.now c.args.right.now c.requires.left c.requires.right c.requires.same c.in-Var-node_at.field-0 c.in-Var-node_at.ensures

pub returns-then-first-second : goal.returns-then-first-second
returns-then-first-second c =
    heads-first c.args.left.now c.args.right.now c.requires.left c.requires.right c.requires.same c.in-Sym.first c.in-Sym.field-1 c.in-Sym-node_at.second c.in-Sym-node_at.field-1 c.in-Sym.ensures c.in-Sym-node_at.ensures c.if-first-second.true

pub returns-then-first-second-2 : goal.returns-then-first-second-2
returns-then-first-second-2 c =
    heads-second c.args.left.now c.args.right.now c.requires.left c.requires.right c.requires.same c.in-Sym.first c.in-Sym.field-1 c.in-Sym-node_at.second c.in-Sym-node_at.field-1 c.in-Sym.ensures c.in-Sym-node_at.ensures c.if-first-second-2.true

pub returns-else-first-second-2 : goal.returns-else-first-second-2
returns-else-first-second-2 c =
    let same : c.in-Sym.first ≡ c.in-Sym-node_at.second = omega arith in
    heads-same c.args.left.now c.args.right.now c.requires.left c.requires.right c.requires.same c.in-Sym.first c.in-Sym.field-1 c.in-Sym-node_at.second c.in-Sym-node_at.field-1 c.in-Sym.ensures c.in-Sym-node_at.ensures same
