use Rattle.leo_conclude.proofs.relieving.+have_parts.Given as goal

abbrev pub decreases-have_parts : goal.decreases-have_parts
decreases-have_parts l = l.room
