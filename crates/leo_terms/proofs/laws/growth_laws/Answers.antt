use Rattle.leo_terms.proofs.Growth.{ty-keeps, tree-keeps}
use Rattle.leo_terms.proofs.PublicWords.{grown}
use Rattle.leo_terms.proofs.laws.growth_laws.Goals as goal

pub returns-clause-types : goal.returns-clause-types
returns-clause-types c old new e i h = let g = grown old new e in ty-keeps old new g.old_sound g.keeps.types i h

pub returns-clause-terms : goal.returns-clause-terms
returns-clause-terms c old new e t h = let g = grown old new e in tree-keeps old new g.old_sound g.keeps t h
