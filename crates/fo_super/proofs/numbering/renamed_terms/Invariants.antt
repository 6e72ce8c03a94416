use Rattle.std.proofs.Common.{◌≡◌, take}
use Rattle.fo_terms.specs.Substitutions.{apply_to_all}
use Rattle.fo_replay.specs.Instances.{as_terms}
use Rattle.fo_super.specs.Numbering.{renaming}
use Rattle.fo_super.proofs.numbering.renamed_terms.Given as goal

abbrev pub invariant-loop-term : goal.invariant-loop-term
invariant-loop-term l = as_terms l.list ≡ apply_to_all (renaming l.names) (as_terms (take l.term-index l.terms))
