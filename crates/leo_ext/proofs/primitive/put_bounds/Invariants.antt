use Rattle.std.proofs.Common.{map, take}
use Rattle.leo_terms.specs.Contents.{type_at}
use Rattle.leo_clause.specs.Trees.{clause_at}
use Rattle.leo_ext.specs.Bounds.{binding_at}
use Rattle.leo_ext.specs.Listing.{Adds}
use Rattle.leo_ext.specs.Members.{primitive_member}
use Rattle.leo_ext.proofs.primitive.put_bounds.Given as goal

abbrev pub invariant-loop-bound : goal.invariant-loop-bound
invariant-loop-bound l = Adds l.initial.bank l.bank l.fn.dues.items l.dues.items (map (primitive_member l.before (clause_at l.initial.bank l.clause) l.variable.number (type_at l.initial.bank l.variable.ty)) (map (binding_at l.initial.bank) (take l.bound-index l.bounds)))
