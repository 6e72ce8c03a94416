use Rattle.fo_super.proofs.numbering.built.Goals as goal

pub unreachable-requires : goal.unreachable-requires
unreachable-requires c = c.in-None.ensures.refused c.requires.0 c.requires.1
