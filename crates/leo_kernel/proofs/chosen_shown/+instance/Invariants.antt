use Rattle.leo_kernel.proofs.chosen_shown.+instance.Given as goal

abbrev pub decreases-instance : goal.decreases-instance
decreases-instance l = l.w
