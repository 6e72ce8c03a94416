use Rattle.std.proofs.Common.{sym, ap, ◌∙◌, arith}
use Rattle.leo_terms.proofs.CallerLemmas.{reads-app}
use Rattle.leo_keep.proofs.Sending.{head-ends}
use Rattle.leo_keep.specs.Heads.{applied_head}
use Rattle.leo_keep.proofs.heads.head_of.Goals as goal

pub loop-f-preserved : goal.loop-f-preserved
loop-f-preserved c =
    let h = c.in-App.ensures.typed in
    let i = c.loop-f.invariant.1 in
    (sym (ap applied_head (reads-app c.in-App.ensures.sound c.loop-f.head c.in-App.f c.in-App.field-1 c.in-App.ensures.view)) ∙ c.loop-f.invariant.0, omega arith)

pub returns : goal.returns
returns c = record {
  reads = head-ends c.view.ensures.sound c.loop-f.head c.view.result c.view.ensures.view c.in_default.not-App ∙ c.loop-f.invariant.0;
  within = c.loop-f.invariant.1;
}
