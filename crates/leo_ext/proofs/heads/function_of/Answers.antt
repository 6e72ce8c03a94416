use Rattle.std.proofs.Common.{sym, ap, ◌∙◌, arith}
use Rattle.leo_terms.proofs.CallerLemmas.{reads-app}
use Rattle.leo_ext.proofs.Ending.{head-ends}
use Rattle.leo_para.specs.Spines.{applied_head}
use Rattle.leo_ext.proofs.heads.function_of.Goals as goal

pub loop-f-preserved : goal.loop-f-preserved
loop-f-preserved c =
    let h = c.in-App.ensures.typed in
    let i = c.loop-f.invariant.1 in
    (sym (ap applied_head (reads-app c.in-App.ensures.sound c.loop-f.function c.in-App.f c.in-App.field-1 c.in-App.ensures.view)) ∙ c.loop-f.invariant.0, omega arith)

pub returns : goal.returns
returns c = record {
  reads = head-ends c.args.bank.now c.view.ensures.sound c.loop-f.function c.view.result c.view.ensures.view c.in_default.not-App ∙ c.loop-f.invariant.0;
  within = c.loop-f.invariant.1;
}
