use Rattle.std.proofs.Common.{◌∙◌}
use Rattle.fo_replay.specs.Instances.{as_terms}
use Rattle.fo_super.proofs.Gathering.{fill-decides}
use Rattle.fo_super.proofs.typing.have_sorts.Goals as goal

pub returns : goal.returns
returns c =
    fill-decides c.args.vars.now c.args.syms.now c.args.sorts.now (as_terms c.args.terms.now) c.deref.result.now c.in_ok-filled.filled
    (c.deref.ensures.value ∙ c.in_ok-nodes.ensures) c.in_ok-filled.ensures
