-- What stands at the top of a tree whose node is known.
use Rattle.std.proofs.Common.{ℕ, ◌≡◌, List, rules}
use Rattle.leo_syntax.specs.declared.tree.Binder.{Binder}
use Rattle.leo_syntax.specs.declared.tree.Connective.{Connective}
use Rattle.leo_syntax.specs.declared.tree.Sign.{Sign}
use Rattle.leo_syntax.specs.declared.tree.Variable.{Variable}
use Rattle.leo_syntax.specs.declared.tree.Tree.{Tree}
use Rattle.leo_syntax.specs.declared.tree.Node.{Node, out-Node}
use Rattle.leo_syntax.specs.declared.tree.Node.TheVariants as node
use Rattle.leo_syntax.specs.declared.tree.Node.TheOpen.{Node-F}
use Rattle.leo_syntax.specs.declared.tree.Node.TheViews.{the_lemmas}
use Rattle.leo_syntax.specs.declared.tree.TypeNode.TheViews.{the_lemmas as the_type_lemmas}
use Rattle.leo_syntax.specs.declared.tree.TypeTree.{TypeTree}
use Rattle.leo_syntax.specs.declared.tree.TypeWord.{TypeWord}
use Rattle.leo_syntax.specs.declared.tree.TypeNode.{TypeNode, out-TypeNode}
use Rattle.leo_syntax.specs.declared.tree.TypeNode.TheVariants as type_node
use Rattle.leo_syntax.specs.declared.tree.TypeNode.TheOpen.{TypeNode-F}

pub base-top : (n : TypeNode) (w : TypeWord) → n ≡ type_node.Base w → out-TypeNode n ≡ TypeNode-F.Base w
base-top n w e = rw e (search (rules, the_type_lemmas))

pub arrow-top : (n : TypeNode) (from to : TypeTree) → n ≡ type_node.Arrow from to → out-TypeNode n ≡ TypeNode-F.Arrow from to
arrow-top n from to e = rw e (search (rules, the_type_lemmas))

pub atom-top : (n : Node) (name : List ℕ) → n ≡ node.Atom name → out-Node n ≡ Node-F.Atom name
atom-top n name e = rw e (search (rules, the_lemmas))

pub var-top : (n : Node) (name : List ℕ) → n ≡ node.Var name → out-Node n ≡ Node-F.Var name
var-top n name e = rw e (search (rules, the_lemmas))

pub true-top : (n : Node) → n ≡ node.True → out-Node n ≡ Node-F.True
true-top n e = rw e (search (rules, the_lemmas))

pub false-top : (n : Node) → n ≡ node.False → out-Node n ≡ Node-F.False
false-top n e = rw e (search (rules, the_lemmas))

pub apply-top : (n : Node) (head : Tree) (arguments : List Tree) → n ≡ node.Apply head arguments → out-Node n ≡ Node-F.Apply head arguments
apply-top n head arguments e = rw e (search (rules, the_lemmas))

pub bind-top : (n : Node) (b : Binder) (vs : List Variable) (body : Tree) → n ≡ node.Bind b vs body → out-Node n ≡ Node-F.Bind b vs body
bind-top n b vs body e = rw e (search (rules, the_lemmas))

pub not-top : (n : Node) (operand : Tree) → n ≡ node.Not operand → out-Node n ≡ Node-F.Not operand
not-top n operand e = rw e (search (rules, the_lemmas))

pub join-top : (n : Node) (c : Connective) (left right : Tree) → n ≡ node.Join c left right → out-Node n ≡ Node-F.Join c left right
join-top n c left right e = rw e (search (rules, the_lemmas))

pub equal-top : (n : Node) (sign : Sign) (byte : ℕ) (left right : Tree) → n ≡ node.Equal sign byte left right → out-Node n ≡ Node-F.Equal sign byte left right
equal-top n sign byte left right e = rw e (search (rules, the_lemmas))

pub negation-top : (n : Node) → n ≡ node.Negation → out-Node n ≡ Node-F.Negation
negation-top n e = rw e (search (rules, the_lemmas))

pub connective-top : (n : Node) (c : Connective) → n ≡ node.Connective c → out-Node n ≡ Node-F.Connective c
connective-top n c e = rw e (search (rules, the_lemmas))

pub pi-top : (n : Node) → n ≡ node.Pi → out-Node n ≡ Node-F.Pi
pi-top n e = rw e (search (rules, the_lemmas))

pub sigma-top : (n : Node) → n ≡ node.Sigma → out-Node n ≡ Node-F.Sigma
sigma-top n e = rw e (search (rules, the_lemmas))

pub choice-top : (n : Node) → n ≡ node.Choice → out-Node n ≡ Node-F.Choice
choice-top n e = rw e (search (rules, the_lemmas))
