use Rattle.std.proofs.Common.{map, take}
use Rattle.std.specs.List.{flat_map}
use Rattle.leo_terms.specs.Contents.{tree_at}
use Rattle.leo_clause.specs.Trees.{clause_at}
use Rattle.leo_para.specs.Spines.{head}
use Rattle.leo_ext.specs.Listing.{Adds}
use Rattle.leo_ext.specs.Members.{choice_for}
use Rattle.leo_ext.proofs.choice.put_choice_side.Given as goal

abbrev pub invariant-loop-t : goal.invariant-loop-t
invariant-loop-t l = Adds l.fn.bank l.bank l.fn.dues.items l.dues.items (flat_map (λ t. choice_for l.before (clause_at l.fn.bank l.clause) (head t)) (map (tree_at l.fn.bank) (take l.t-index l.t-items)))
