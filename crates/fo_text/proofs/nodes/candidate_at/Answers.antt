use Rattle.std.proofs.Common.{arith, ◌-◌, ◌<◌, length}
use Rattle.fo_text.specs.Nodes.{IsCandidate}
use Rattle.fo_text.proofs.Searching.{at-var, at-sym, var-below}
use Rattle.fo_text.proofs.nodes.candidate_at.Goals as goal

pub returns-then-at-vars : goal.returns-then-at-vars
returns-then-at-vars c =
    at-var c.args.names.vars.now (IsCandidate c.args.names.vars.now c.args.names.syms.now c.args.names.usable.now c.args.want) c.args.at c.var_at.result c.if-at-vars.true c.var_at.ensures

pub returns-else-at-vars : goal.returns-else-at-vars
returns-else-at-vars c =
    let vars = c.args.names.vars.now in
    let past = c.if-at-vars.false in
    at-sym vars (IsCandidate c.args.names.vars.now c.args.names.syms.now c.args.names.usable.now c.args.want) c.args.at (c.args.at - length vars) c.sym_at.result (omega arith)
    (λ v e p. let b : v < length vars = var-below vars c.args.names.syms.now c.args.names.usable.now c.args.want v p in omega arith) c.sym_at.ensures
