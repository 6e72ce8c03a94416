use Rattle.std.proofs.Common.{◌≡◌, length}
use Rattle.fo_terms.specs.Classes.{AreAlone}
use Rattle.fo_terms.proofs.classes.Classes.new.Given as goal

abbrev pub invariant-loop-place : goal.invariant-loop-place
invariant-loop-place l = (length l.parents.items ≡ l.place) × AreAlone l.parents.items
