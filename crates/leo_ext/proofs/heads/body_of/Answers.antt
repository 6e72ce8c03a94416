use Rattle.std.proofs.Common.{sym, ap, ◌∙◌, arith}
use Rattle.leo_terms.proofs.CallerLemmas.{reads-lam}
use Rattle.leo_ext.proofs.Ending.{below-ends}
use Rattle.leo_para.specs.Spines.{below_lambdas}
use Rattle.leo_ext.proofs.heads.body_of.Goals as goal

pub loop-body-preserved : goal.loop-body-preserved
loop-body-preserved c =
    let h = c.in-Lam.ensures.typed in
    let i = c.loop-body.invariant.1 in
    (sym (ap below_lambdas (reads-lam c.in-Lam.ensures.sound c.loop-body.below c.in-Lam.field-0 c.in-Lam.body c.in-Lam.ensures.view)) ∙ c.loop-body.invariant.0, omega arith)

pub returns : goal.returns
returns c = record {
  reads = below-ends c.args.bank.now c.view.ensures.sound c.loop-body.below c.view.result c.view.ensures.view c.in_default.not-Lam ∙ c.loop-body.invariant.0;
  within = c.loop-body.invariant.1;
}
