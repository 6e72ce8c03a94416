use Rattle.fo_replay.proofs.para.built.Goals as goal

pub unreachable-requires : goal.unreachable-requires
unreachable-requires c = c.in-None.ensures.refused c.requires.0 c.requires.1
