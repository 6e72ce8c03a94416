-- The derived `==` of term nodes and of keys holds of equal ones alone.
use Rattle.std.proofs.Common.{ℕ, ◌≡◌, true, rules}
use Rattle.leo_terms.specs.declared.node.TermNode.{TermNode}
use Rattle.leo_terms.specs.declared.memo.Lift.{Lift}
use Rattle.leo_terms.specs.declared.memo.Put.{Put}
use Rattle.leo_terms.specs.contracts.node.TermNodePartialEq.TheImpl.{ghosts}
use Rattle.leo_terms.specs.contracts.node.TermIdPartialEq.TheImpl as id
use Rattle.leo_terms.specs.contracts.memo.LiftPartialEq.TheImpl as lift
use Rattle.leo_terms.specs.contracts.memo.PutPartialEq.TheImpl as put

pub node_same : (a b : TermNode) → ghosts.eq a b ≡ true → a ≡ b
node_same a b h = search rules

pub id_same : (a b : ℕ) → id.ghosts.eq a b ≡ true → a ≡ b
id_same a b h = search rules

pub lift_same : (a b : Lift) → lift.ghosts.eq a b ≡ true → a ≡ b
lift_same a b h = search rules

pub put_same : (a b : Put) → put.ghosts.eq a b ≡ true → a ≡ b
put_same a b h = search rules
