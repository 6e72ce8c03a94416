use Rattle.std.proofs.Common.{◌≡◌, take}
use Rattle.std.specs.List.{fold}
use Rattle.fo_replay.specs.Instances.{as_terms}
use Rattle.fo_super.specs.Numbering.{variables_of_all, with_name}
use Rattle.fo_super.proofs.numbering.add_term_names.Given as goal

abbrev pub invariant-loop-term : goal.invariant-loop-term
invariant-loop-term l = l.names.items ≡ fold with_name l.fn.names.items (variables_of_all (as_terms (take l.term-index l.terms)))
