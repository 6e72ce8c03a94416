use Rattle.fo_super.proofs.resolving.resolved_alone.Goals as goal

pub returns : goal.returns
returns c = rw c.from_ref.ensures.value at c.in_ok-found.ensures
