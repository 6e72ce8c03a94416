use Rattle.std.proofs.Common.{◌≡◌, ◌+◌, map, take}
use Rattle.leo_terms.specs.Contents.{AreTerms, Extends, tree_at, type_at}
use Rattle.leo_kernel.specs.Moved.{variables_from}
use Rattle.leo_para.proofs.moving.moved_variables.Given as goal

abbrev pub invariant-loop-ty : goal.invariant-loop-ty
invariant-loop-ty l = Extends l.initial.bank l.bank × (l.number ≡ l.first + l.ty-index) × AreTerms l.bank l.variables.items × (map (tree_at l.bank) l.variables.items ≡ variables_from l.first (map (type_at l.initial.bank) (take l.ty-index l.types)))
