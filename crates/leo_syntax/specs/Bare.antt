-- Trees and statements with no regard to the bytes where they stand.
use Rattle.std.specs.Prelude.{map}
use Rattle.leo_syntax.specs.declared.tree.TypeTree.{TypeTree}
use Rattle.leo_syntax.specs.declared.tree.TypeNode.{TypeNode}
use Rattle.leo_syntax.specs.declared.tree.TypeNode.TheVariants as type_node
use Rattle.leo_syntax.specs.declared.tree.TypeNode.TheOpen.{TypeNode-F, TypeTree-F}
use Rattle.leo_syntax.specs.declared.tree.TypeNode.TheFolds.{fold-TypeTree}
use Rattle.leo_syntax.specs.declared.tree.Variable.{Variable}
use Rattle.leo_syntax.specs.declared.tree.Tree.{Tree}
use Rattle.leo_syntax.specs.declared.tree.Node.{Node}
use Rattle.leo_syntax.specs.declared.tree.Node.TheVariants as node
use Rattle.leo_syntax.specs.declared.tree.Node.TheOpen.{Node-F, Tree-F}
use Rattle.leo_syntax.specs.declared.tree.Node.TheFolds.{fold-Tree}
use Rattle.leo_syntax.specs.declared.tree.Statement.{Statement}
use Rattle.leo_syntax.specs.declared.tree.Statement.TheVariants as statement

abbrev pub type_node_bare : TypeNode-F TypeNode TypeTree → TypeNode
type_node_bare (TypeNode-F.Base w) = type_node.Base w
type_node_bare (TypeNode-F.Arrow from to) = type_node.Arrow from to

abbrev pub type_tree_bare : TypeTree-F TypeNode TypeTree → TypeTree
type_tree_bare t = record { byte = 0; node = t.node }

-- the type with 0 for each byte
abbrev pub bare_type : TypeTree → TypeTree
bare_type = fold-TypeTree TypeNode TypeTree type_node_bare type_tree_bare

abbrev pub bare_variable : Variable → Variable
bare_variable v = record { name = v.name; ty = bare_type v.ty }

abbrev pub node_bare : Node-F Node Tree → Node
node_bare (Node-F.Atom name) = node.Atom name
node_bare (Node-F.Var name) = node.Var name
node_bare Node-F.True = node.True
node_bare Node-F.False = node.False
node_bare (Node-F.Apply f list) = node.Apply f list
node_bare (Node-F.Bind b vs u) = node.Bind b (map bare_variable vs) u
node_bare (Node-F.Not u) = node.Not u
node_bare (Node-F.Join c a b) = node.Join c a b
node_bare (Node-F.Equal s byte a b) = node.Equal s 0 a b
node_bare Node-F.Negation = node.Negation
node_bare (Node-F.Connective c) = node.Connective c
node_bare Node-F.Pi = node.Pi
node_bare Node-F.Sigma = node.Sigma
node_bare Node-F.Choice = node.Choice

abbrev pub tree_bare : Tree-F Node Tree → Tree
tree_bare t = record { byte = 0; node = t.node }

-- the tree with 0 for each byte
abbrev pub bare_tree : Tree → Tree
bare_tree = fold-Tree Node Tree node_bare tree_bare

abbrev pub bare_statement : Statement → Statement
bare_statement (statement.Formula byte name role role_byte tree) = statement.Formula 0 name role 0 (bare_tree tree)
bare_statement (statement.Typing byte name atom atom_byte ty) = statement.Typing 0 name atom 0 (bare_type ty)
bare_statement (statement.Include byte file file_byte names) = statement.Include 0 file 0 names
