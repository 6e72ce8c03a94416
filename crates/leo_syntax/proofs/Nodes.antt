-- How nodes are written, and what they are without their bytes.
use Rattle.std.proofs.Common.{◌≡◌, ℕ, List, map, ap, sym, ◌∙◌}
use Rattle.leo_syntax.specs.declared.tree.TypeTree.{TypeTree}
use Rattle.leo_syntax.specs.declared.tree.TypeWord.{TypeWord}
use Rattle.leo_syntax.specs.declared.tree.TypeNode.{TypeNode}
use Rattle.leo_syntax.specs.declared.tree.TypeNode.TheVariants.{rolls-Base, rolls-Arrow}
use Rattle.leo_syntax.specs.declared.tree.TypeNode.TheOpen.{TypeNode-F}
use Rattle.leo_syntax.specs.declared.tree.TypeNode.TheFolds.{fold-TypeNode, fold-roll-TypeNode, fold_out-TypeTree}
use Rattle.leo_syntax.specs.declared.tree.Tree.{Tree}
use Rattle.leo_syntax.specs.declared.tree.Binder.{Binder}
use Rattle.leo_syntax.specs.declared.tree.Connective.{Connective}
use Rattle.leo_syntax.specs.declared.tree.Sign.{Sign}
use Rattle.leo_syntax.specs.declared.tree.Variable.{Variable}
use Rattle.leo_syntax.specs.declared.tree.Node.{Node}
use Rattle.leo_syntax.specs.declared.tree.Node.TheVariants as node
use Rattle.leo_syntax.specs.declared.tree.Node.TheVariants.{rolls-Atom, rolls-Var, rolls-True, rolls-False, rolls-Apply, rolls-Bind, rolls-Not, rolls-Join, rolls-Equal, rolls-Negation, rolls-Connective, rolls-Pi, rolls-Sigma, rolls-Choice}
use Rattle.leo_syntax.specs.declared.tree.Node.TheOpen.{Node-F}
use Rattle.leo_syntax.specs.declared.tree.Node.TheFolds.{fold-Node, fold-roll-Node, fold_out-Tree}
use Rattle.leo_syntax.specs.Grammar.{at_byte, type_at, arrow}
use Rattle.leo_syntax.specs.Texts.{Writer, writer, node_written, tree_written, type_node_written, type_tree_written, type_written, word, type_word_text, opened, closed}
use Rattle.leo_syntax.specs.Bare.{bare_type, type_node_bare, type_tree_bare, bare_variable, bare_tree, node_bare, tree_bare}
use Rattle.std.specs.Prelude.{Bool, true, false, codes, ◌++◌}

-- ---- as it is written

abbrev node_writer : Node → Writer
node_writer = fold-Node Writer Writer node_written tree_written

writer_by : (byte : ℕ) (n : Node) → writer (at_byte byte n) ≡ node_writer n
writer_by byte n = fold_out-Tree Writer Writer node_written tree_written (at_byte byte n)

pub writer-Atom : (byte : ℕ) (name : List ℕ) → writer (at_byte byte (node.Atom name)) ≡ node_written (Node-F.Atom name)
writer-Atom byte name = writer_by byte (node.Atom name) ∙ ap node_writer (sym (rolls-Atom name)) ∙ fold-roll-Node Writer Writer node_written tree_written (Node-F.Atom name)

pub writer-Var : (byte : ℕ) (name : List ℕ) → writer (at_byte byte (node.Var name)) ≡ node_written (Node-F.Var name)
writer-Var byte name = writer_by byte (node.Var name) ∙ ap node_writer (sym (rolls-Var name)) ∙ fold-roll-Node Writer Writer node_written tree_written (Node-F.Var name)

pub writer-True : (byte : ℕ) → writer (at_byte byte node.True) ≡ node_written Node-F.True
writer-True byte = writer_by byte node.True ∙ ap node_writer (sym rolls-True) ∙ fold-roll-Node Writer Writer node_written tree_written Node-F.True

pub writer-False : (byte : ℕ) → writer (at_byte byte node.False) ≡ node_written Node-F.False
writer-False byte = writer_by byte node.False ∙ ap node_writer (sym rolls-False) ∙ fold-roll-Node Writer Writer node_written tree_written Node-F.False

pub writer-Apply : (byte : ℕ) (f : Tree) (args : List Tree) → writer (at_byte byte (node.Apply f args)) ≡ node_written (Node-F.Apply (writer f) (map writer args))
writer-Apply byte f args = writer_by byte (node.Apply f args) ∙ ap node_writer (sym (rolls-Apply f args)) ∙ fold-roll-Node Writer Writer node_written tree_written (Node-F.Apply f args)

pub writer-Bind : (byte : ℕ) (b : Binder) (vs : List Variable) (u : Tree) → writer (at_byte byte (node.Bind b vs u)) ≡ node_written (Node-F.Bind b vs (writer u))
writer-Bind byte b vs u = writer_by byte (node.Bind b vs u) ∙ ap node_writer (sym (rolls-Bind b vs u)) ∙ fold-roll-Node Writer Writer node_written tree_written (Node-F.Bind b vs u)

pub writer-Not : (byte : ℕ) (u : Tree) → writer (at_byte byte (node.Not u)) ≡ node_written (Node-F.Not (writer u))
writer-Not byte u = writer_by byte (node.Not u) ∙ ap node_writer (sym (rolls-Not u)) ∙ fold-roll-Node Writer Writer node_written tree_written (Node-F.Not u)

pub writer-Join : (byte : ℕ) (c : Connective) (a b : Tree) → writer (at_byte byte (node.Join c a b)) ≡ node_written (Node-F.Join c (writer a) (writer b))
writer-Join byte c a b = writer_by byte (node.Join c a b) ∙ ap node_writer (sym (rolls-Join c a b)) ∙ fold-roll-Node Writer Writer node_written tree_written (Node-F.Join c a b)

pub writer-Equal : (at : ℕ) (s : Sign) (byte : ℕ) (a b : Tree) → writer (at_byte at (node.Equal s byte a b)) ≡ node_written (Node-F.Equal s byte (writer a) (writer b))
writer-Equal at s byte a b = writer_by at (node.Equal s byte a b) ∙ ap node_writer (sym (rolls-Equal s byte a b)) ∙ fold-roll-Node Writer Writer node_written tree_written (Node-F.Equal s byte a b)

pub writer-Negation : (byte : ℕ) → writer (at_byte byte node.Negation) ≡ node_written Node-F.Negation
writer-Negation byte = writer_by byte node.Negation ∙ ap node_writer (sym rolls-Negation) ∙ fold-roll-Node Writer Writer node_written tree_written Node-F.Negation

pub writer-Connective : (byte : ℕ) (c : Connective) → writer (at_byte byte (node.Connective c)) ≡ node_written (Node-F.Connective c)
writer-Connective byte c = writer_by byte (node.Connective c) ∙ ap node_writer (sym (rolls-Connective c)) ∙ fold-roll-Node Writer Writer node_written tree_written (Node-F.Connective c)

pub writer-Pi : (byte : ℕ) → writer (at_byte byte node.Pi) ≡ node_written Node-F.Pi
writer-Pi byte = writer_by byte node.Pi ∙ ap node_writer (sym rolls-Pi) ∙ fold-roll-Node Writer Writer node_written tree_written Node-F.Pi

pub writer-Sigma : (byte : ℕ) → writer (at_byte byte node.Sigma) ≡ node_written Node-F.Sigma
writer-Sigma byte = writer_by byte node.Sigma ∙ ap node_writer (sym rolls-Sigma) ∙ fold-roll-Node Writer Writer node_written tree_written Node-F.Sigma

pub writer-Choice : (byte : ℕ) → writer (at_byte byte node.Choice) ≡ node_written Node-F.Choice
writer-Choice byte = writer_by byte node.Choice ∙ ap node_writer (sym rolls-Choice) ∙ fold-roll-Node Writer Writer node_written tree_written Node-F.Choice

-- ---- without bytes

abbrev node_without : Node → Node
node_without = fold-Node Node Tree node_bare tree_bare

bare_by : (byte : ℕ) (n : Node) → bare_tree (at_byte byte n) ≡ at_byte 0 (node_without n)
bare_by byte n = fold_out-Tree Node Tree node_bare tree_bare (at_byte byte n)

pub bare-Atom : (byte : ℕ) (name : List ℕ) → bare_tree (at_byte byte (node.Atom name)) ≡ at_byte 0 (node.Atom name)
bare-Atom byte name = bare_by byte (node.Atom name) ∙ ap (at_byte 0) (ap node_without (sym (rolls-Atom name)) ∙ fold-roll-Node Node Tree node_bare tree_bare (Node-F.Atom name))

pub bare-Var : (byte : ℕ) (name : List ℕ) → bare_tree (at_byte byte (node.Var name)) ≡ at_byte 0 (node.Var name)
bare-Var byte name = bare_by byte (node.Var name) ∙ ap (at_byte 0) (ap node_without (sym (rolls-Var name)) ∙ fold-roll-Node Node Tree node_bare tree_bare (Node-F.Var name))

pub bare-True : (byte : ℕ) → bare_tree (at_byte byte node.True) ≡ at_byte 0 node.True
bare-True byte = bare_by byte node.True ∙ ap (at_byte 0) (ap node_without (sym rolls-True) ∙ fold-roll-Node Node Tree node_bare tree_bare Node-F.True)

pub bare-False : (byte : ℕ) → bare_tree (at_byte byte node.False) ≡ at_byte 0 node.False
bare-False byte = bare_by byte node.False ∙ ap (at_byte 0) (ap node_without (sym rolls-False) ∙ fold-roll-Node Node Tree node_bare tree_bare Node-F.False)

pub bare-Apply : (byte : ℕ) (f : Tree) (args : List Tree) → bare_tree (at_byte byte (node.Apply f args)) ≡ at_byte 0 (node.Apply (bare_tree f) (map bare_tree args))
bare-Apply byte f args = bare_by byte (node.Apply f args) ∙ ap (at_byte 0) (ap node_without (sym (rolls-Apply f args)) ∙ fold-roll-Node Node Tree node_bare tree_bare (Node-F.Apply f args))

pub bare-Bind : (byte : ℕ) (b : Binder) (vs : List Variable) (u : Tree) → bare_tree (at_byte byte (node.Bind b vs u)) ≡ at_byte 0 (node.Bind b (map bare_variable vs) (bare_tree u))
bare-Bind byte b vs u = bare_by byte (node.Bind b vs u) ∙ ap (at_byte 0) (ap node_without (sym (rolls-Bind b vs u)) ∙ fold-roll-Node Node Tree node_bare tree_bare (Node-F.Bind b vs u))

pub bare-Not : (byte : ℕ) (u : Tree) → bare_tree (at_byte byte (node.Not u)) ≡ at_byte 0 (node.Not (bare_tree u))
bare-Not byte u = bare_by byte (node.Not u) ∙ ap (at_byte 0) (ap node_without (sym (rolls-Not u)) ∙ fold-roll-Node Node Tree node_bare tree_bare (Node-F.Not u))

pub bare-Join : (byte : ℕ) (c : Connective) (a b : Tree) → bare_tree (at_byte byte (node.Join c a b)) ≡ at_byte 0 (node.Join c (bare_tree a) (bare_tree b))
bare-Join byte c a b = bare_by byte (node.Join c a b) ∙ ap (at_byte 0) (ap node_without (sym (rolls-Join c a b)) ∙ fold-roll-Node Node Tree node_bare tree_bare (Node-F.Join c a b))

pub bare-Equal : (at : ℕ) (s : Sign) (byte : ℕ) (a b : Tree) → bare_tree (at_byte at (node.Equal s byte a b)) ≡ at_byte 0 (node.Equal s 0 (bare_tree a) (bare_tree b))
bare-Equal at s byte a b = bare_by at (node.Equal s byte a b) ∙ ap (at_byte 0) (ap node_without (sym (rolls-Equal s byte a b)) ∙ fold-roll-Node Node Tree node_bare tree_bare (Node-F.Equal s byte a b))

pub bare-Negation : (byte : ℕ) → bare_tree (at_byte byte node.Negation) ≡ at_byte 0 node.Negation
bare-Negation byte = bare_by byte node.Negation ∙ ap (at_byte 0) (ap node_without (sym rolls-Negation) ∙ fold-roll-Node Node Tree node_bare tree_bare Node-F.Negation)

pub bare-Connective : (byte : ℕ) (c : Connective) → bare_tree (at_byte byte (node.Connective c)) ≡ at_byte 0 (node.Connective c)
bare-Connective byte c = bare_by byte (node.Connective c) ∙ ap (at_byte 0) (ap node_without (sym (rolls-Connective c)) ∙ fold-roll-Node Node Tree node_bare tree_bare (Node-F.Connective c))

pub bare-Pi : (byte : ℕ) → bare_tree (at_byte byte node.Pi) ≡ at_byte 0 node.Pi
bare-Pi byte = bare_by byte node.Pi ∙ ap (at_byte 0) (ap node_without (sym rolls-Pi) ∙ fold-roll-Node Node Tree node_bare tree_bare Node-F.Pi)

pub bare-Sigma : (byte : ℕ) → bare_tree (at_byte byte node.Sigma) ≡ at_byte 0 node.Sigma
bare-Sigma byte = bare_by byte node.Sigma ∙ ap (at_byte 0) (ap node_without (sym rolls-Sigma) ∙ fold-roll-Node Node Tree node_bare tree_bare Node-F.Sigma)

pub bare-Choice : (byte : ℕ) → bare_tree (at_byte byte node.Choice) ≡ at_byte 0 node.Choice
bare-Choice byte = bare_by byte node.Choice ∙ ap (at_byte 0) (ap node_without (sym rolls-Choice) ∙ fold-roll-Node Node Tree node_bare tree_bare Node-F.Choice)

-- ---- types

abbrev TypeWriter : Type 0
TypeWriter = Bool → List ℕ

abbrev type_writer : TypeNode → TypeWriter
type_writer = fold-TypeNode TypeWriter TypeWriter type_node_written type_tree_written

pub type_written-Base : (whole : Bool) (byte : ℕ) (w : TypeWord) → type_written whole (type_at byte w) ≡ word (type_word_text w)
type_written-Base whole byte w = ap (λ f. f whole) (fold_out-TypeTree TypeWriter TypeWriter type_node_written type_tree_written (type_at byte w)
    ∙ ap type_writer (sym (rolls-Base w)) ∙ fold-roll-TypeNode TypeWriter TypeWriter type_node_written type_tree_written (TypeNode-F.Base w))

pub type_written-Arrow : (whole : Bool) (byte : ℕ) (from to : TypeTree)
    → type_written whole (arrow byte from to) ≡ opened whole ++ (type_written false from ++ (word (codes ">") ++ (type_written true to ++ closed whole)))
type_written-Arrow whole byte from to = ap (λ f. f whole) (fold_out-TypeTree TypeWriter TypeWriter type_node_written type_tree_written (arrow byte from to)
    ∙ ap type_writer (sym (rolls-Arrow from to)) ∙ fold-roll-TypeNode TypeWriter TypeWriter type_node_written type_tree_written (TypeNode-F.Arrow from to))

abbrev type_without : TypeNode → TypeNode
type_without = fold-TypeNode TypeNode TypeTree type_node_bare type_tree_bare

pub bare_type-Base : (byte : ℕ) (w : TypeWord) → bare_type (type_at byte w) ≡ type_at 0 w
bare_type-Base byte w = fold_out-TypeTree TypeNode TypeTree type_node_bare type_tree_bare (type_at byte w)
    ∙ ap (λ n. record { byte = 0; node = n }) (ap type_without (sym (rolls-Base w)) ∙ fold-roll-TypeNode TypeNode TypeTree type_node_bare type_tree_bare (TypeNode-F.Base w))

pub bare_type-Arrow : (byte : ℕ) (from to : TypeTree) → bare_type (arrow byte from to) ≡ arrow 0 (bare_type from) (bare_type to)
bare_type-Arrow byte from to = fold_out-TypeTree TypeNode TypeTree type_node_bare type_tree_bare (arrow byte from to)
    ∙ ap (λ n. record { byte = 0; node = n }) (ap type_without (sym (rolls-Arrow from to)) ∙ fold-roll-TypeNode TypeNode TypeTree type_node_bare type_tree_bare (TypeNode-F.Arrow from to))
