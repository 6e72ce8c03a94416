use Rattle.fo_super.proofs.conditions.is_maximal_under.Goals as goal

pub returns : goal.returns
returns c = rw (c.as_slice.ensures, c.in_ok-instances.ensures, c.in_ok-instance.ensures) at c.is_maximal.ensures
