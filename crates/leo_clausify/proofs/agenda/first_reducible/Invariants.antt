use Rattle.std.proofs.Common.{ℕ, ◌≡◌, ◌<◌, map, slice_get, Some}
use Rattle.leo_clause.specs.Trees.{Literal, literal_at}
use Rattle.leo_clausify.specs.Forms.{no_form, forms_of}
use Rattle.leo_clausify.proofs.agenda.first_reducible.Given as goal

abbrev pub invariant-loop-at : goal.invariant-loop-at
invariant-loop-at l = (j : ℕ) (k : Literal) → j < l.at → slice_get (map (literal_at l.bank) l.lits) j ≡ Some k → forms_of k ≡ no_form
