-- The text that is written of statements: words with a space behind each, and brackets only where a part needs them.
use Rattle.std.specs.Prelude.{ℕ, Bool, true, false, List, [], ◌∷◌, ◌++◌, if◌then◌else◌, ◌||◌, ◌&&◌, ◌==◌, codes, Option, Some, None}
use Rattle.std.specs.List.{list_all}
use Rattle.leo_lex.specs.Bytes.{is_lower, is_word, is_digit, single_quote, backslash}
use Rattle.leo_syntax.specs.declared.tree.Binder.{Binder}
use Rattle.leo_syntax.specs.declared.tree.Binder.TheVariants as binder
use Rattle.leo_syntax.specs.declared.tree.Connective.{Connective}
use Rattle.leo_syntax.specs.declared.tree.Connective.TheVariants as connective
use Rattle.leo_syntax.specs.declared.tree.Sign.{Sign}
use Rattle.leo_syntax.specs.declared.tree.Sign.TheVariants as sign
use Rattle.leo_syntax.specs.declared.tree.TypeWord.{TypeWord}
use Rattle.leo_syntax.specs.declared.tree.TypeWord.TheVariants as type_word
use Rattle.leo_syntax.specs.declared.tree.TypeTree.{TypeTree}
use Rattle.leo_syntax.specs.declared.tree.TypeNode.TheOpen.{TypeNode-F, TypeTree-F}
use Rattle.leo_syntax.specs.declared.tree.TypeNode.TheFolds.{fold-TypeTree}
use Rattle.leo_syntax.specs.declared.tree.Variable.{Variable}
use Rattle.leo_syntax.specs.declared.tree.Tree.{Tree}
use Rattle.leo_syntax.specs.declared.tree.Statement.{Statement}
use Rattle.leo_syntax.specs.declared.tree.Statement.TheVariants as statement
use Rattle.leo_syntax.specs.declared.tree.Node.TheOpen.{Node-F, Tree-F}
use Rattle.leo_syntax.specs.declared.tree.Node.TheFolds.{fold-Tree}
use Rattle.leo_syntax.specs.declared.writing.Place.{Place}
use Rattle.leo_syntax.specs.declared.writing.Place.TheVariants.{Formula, Operand, SealedOperand, Chain, Side, SealedSide, Left, Last, SealedLast, Item}
use Rattle.leo_syntax.specs.Grammar.{is_chain}

-- ---- words

-- a word and the space behind it
abbrev pub word : List ℕ → List ℕ
word text = text ++ 32 ∷ []

unfoldable pub is_hidden : ℕ → Bool
is_hidden b = b == single_quote || b == backslash

-- a `\` stands before a quote and before another `\`
abbrev pub character : ℕ → List ℕ
character b = if is_hidden b then backslash ∷ b ∷ [] else b ∷ []

unfoldable pub escaped : List ℕ → List ℕ
escaped [] = []
escaped (b ∷ bs) = character b ++ escaped bs

unfoldable pub quoted : List ℕ → List ℕ
quoted content = single_quote ∷ (escaped content ++ single_quote ∷ [])

unfoldable pub is_bare : List ℕ → Bool
is_bare [] = false
is_bare (b ∷ bs) = is_lower b && list_all is_word bs

-- an atom stands without quotes where it can
unfoldable pub atom_text : List ℕ → List ℕ
atom_text name = if is_bare name then name else quoted name

unfoldable pub is_number : List ℕ → Bool
is_number [] = false
is_number (b ∷ bs) = is_digit b && list_all is_digit bs

unfoldable pub name_text : List ℕ → List ℕ
name_text name = if is_number name then name else atom_text name

unfoldable pub connective_text : Connective → List ℕ
connective_text connective.Or = codes "|"
connective_text connective.And = codes "&"
connective_text connective.Implies = codes "=>"
connective_text connective.ImpliedBy = codes "<="
connective_text connective.Iff = codes "<=>"
connective_text connective.Xor = codes "<~>"
connective_text connective.Nor = codes "~|"
connective_text connective.Nand = codes "~&"

unfoldable pub binder_text : Binder → List ℕ
binder_text binder.ForAll = codes "!"
binder_text binder.Exists = codes "?"
binder_text binder.Lambda = codes "^"
binder_text binder.Choice = codes "@+"

unfoldable pub sign_text : Sign → List ℕ
sign_text sign.Equal = codes "="
sign_text sign.NotEqual = codes "!="

abbrev pub opened : Bool → List ℕ
opened stands = if stands then [] else word (codes "(")

abbrev pub closed : Bool → List ℕ
closed stands = if stands then [] else word (codes ")")

-- ---- types

unfoldable pub type_word_text : TypeWord → List ℕ
type_word_text type_word.Individual = codes "$i"
type_word_text type_word.Truth = codes "$o"
type_word_text type_word.TypeOfTypes = codes "$tType"
type_word_text (type_word.Atom name) = atom_text name

-- The argument says whether an arrow stands there without brackets.
abbrev pub type_node_written : TypeNode-F (Bool → List ℕ) (Bool → List ℕ) → Bool → List ℕ
type_node_written (TypeNode-F.Base w) whole = word (type_word_text w)
type_node_written (TypeNode-F.Arrow from to) whole = opened whole ++ (from false ++ (word (codes ">") ++ (to true ++ closed whole)))

abbrev pub type_tree_written : TypeTree-F (Bool → List ℕ) (Bool → List ℕ) → Bool → List ℕ
type_tree_written t = t.node

abbrev pub type_written : Bool → TypeTree → List ℕ
type_written whole ty = fold-TypeTree (Bool → List ℕ) (Bool → List ℕ) type_node_written type_tree_written ty whole

abbrev pub variable_written : Variable → List ℕ
variable_written v = word v.name ++ (word (codes ":") ++ type_written true v.ty)

abbrev pub further_variables : List Variable → List ℕ
further_variables [] = []
further_variables (v ∷ vs) = word (codes ",") ++ (variable_written v ++ further_variables vs)

abbrev pub variables_written : List Variable → List ℕ
variables_written [] = []
variables_written (v ∷ vs) = variable_written v ++ further_variables vs

abbrev pub binder_written : Binder → List Variable → List ℕ
binder_written b vs = word (binder_text b) ++ (word (codes "[") ++ (variables_written vs ++ (word (codes "]") ++ word (codes ":"))))

-- a connective in brackets
abbrev pub sign_written : List ℕ → List ℕ
sign_written text = word (codes "(") ++ (word text ++ word (codes ")"))

-- ---- formulas: what stands at a place without brackets

abbrev pub joins : Place → Connective → Bool
joins Formula c = true
joins (Chain connective.Or) connective.Or = true
joins (Chain connective.And) connective.And = true
joins _ c = false

-- where nothing may take the mark of an equation that stands behind it
abbrev pub is_sealed : Place → Bool
is_sealed SealedOperand = true
is_sealed SealedSide = true
is_sealed SealedLast = true
is_sealed _ = false

-- An operand that ends in an equation takes no mark. The second argument says whether the operand of the `~` does.
abbrev pub negates : Place → Bool → Bool
negates Left ends = false
negates Last ends = false
negates SealedLast ends = false
negates Item ends = false
negates SealedSide ends = ends
negates _ ends = true

abbrev pub binds : Place → Bool → Bool
binds Left ends = false
binds Item ends = false
binds SealedSide ends = ends
binds SealedLast ends = ends
binds _ ends = true

abbrev pub equates : Place → Bool
equates Formula = true
equates Operand = true
equates SealedOperand = true
equates (Chain c) = true
equates _ = false

abbrev pub applies : Place → Bool
applies Last = false
applies SealedLast = false
applies Item = false
applies _ = true

-- what stands last in a part at that place: behind `~` or a binder that stands without brackets, on the right side of an
-- equation, and at the end of an application

abbrev pub operand_of : Place → Bool → Place
operand_of p stands = if stands && is_sealed p then SealedOperand else Operand

abbrev pub side_of : Place → Place
side_of SealedOperand = SealedSide
side_of _ = Side

abbrev pub last_of : Place → Place
last_of Left = SealedLast
last_of SealedSide = SealedLast
last_of _ = Last

abbrev pub right_of : Connective → Place
right_of c = if is_chain c then Chain c else Operand

-- how a tree is written, by its place, and whether its text as an operand ends in an equation
pub record Writer : Type 0 where
  pub at : Place → List ℕ
  pub ends : Bool

abbrev pub arguments_written : Place → List Writer → List ℕ
arguments_written place [] = []
arguments_written place (a ∷ []) = word (codes "@") ++ (a.at place ++ [])
arguments_written place (a ∷ b ∷ more) = word (codes "@") ++ (a.at Item ++ arguments_written place (b ∷ more))

-- each part that is no operand by itself
abbrev pub open_ended : (Place → List ℕ) → Writer
open_ended at = record { at = at; ends = false }

-- one node, with the writer of each part
abbrev pub node_written : Node-F Writer Writer → Writer
node_written (Node-F.Atom name) = open_ended (λ p. word (atom_text name))
node_written (Node-F.Var name) = open_ended (λ p. word name)
node_written Node-F.True = open_ended (λ p. word (codes "$true"))
node_written Node-F.False = open_ended (λ p. word (codes "$false"))
node_written (Node-F.Apply f list) = open_ended (λ p. opened (applies p) ++ (f.at Item ++ (arguments_written (last_of p) list ++ closed (applies p))))
node_written (Node-F.Bind b vs u) = record {
  at = λ p. opened (binds p u.ends) ++ (binder_written b vs ++ (u.at (operand_of p (binds p u.ends)) ++ closed (binds p u.ends)));
  ends = u.ends;
}
node_written (Node-F.Not u) = record {
  at = λ p. opened (negates p u.ends) ++ (word (codes "~") ++ (u.at (operand_of p (negates p u.ends)) ++ closed (negates p u.ends)));
  ends = u.ends;
}
node_written (Node-F.Join c a b) = open_ended (λ p. opened (joins p c) ++ (a.at Operand ++ (word (connective_text c) ++ (b.at (right_of c) ++ closed (joins p c)))))
node_written (Node-F.Equal s byte a b) = record {
  at = λ p. opened (equates p) ++ (a.at Left ++ (word (sign_text s) ++ (b.at (side_of p) ++ closed (equates p))));
  ends = true;
}
node_written Node-F.Negation = open_ended (λ p. sign_written (codes "~"))
node_written (Node-F.Connective c) = open_ended (λ p. sign_written (connective_text c))
node_written Node-F.Pi = open_ended (λ p. word (codes "!!"))
node_written Node-F.Sigma = open_ended (λ p. word (codes "??"))
node_written Node-F.Choice = open_ended (λ p. word (codes "@@+"))

abbrev pub tree_written : Tree-F Writer Writer → Writer
tree_written t = t.node

abbrev pub writer : Tree → Writer
writer = fold-Tree Writer Writer node_written tree_written

abbrev pub written : Place → Tree → List ℕ
written p tree = (writer tree).at p

-- ---- statements

abbrev pub further_names : List (List ℕ) → List ℕ
further_names [] = []
further_names (n ∷ ns) = word (codes ",") ++ (word (name_text n) ++ further_names ns)

abbrev pub names_written : List (List ℕ) → List ℕ
names_written [] = []
names_written (n ∷ ns) = word (name_text n) ++ further_names ns

abbrev pub selection_written : Option (List (List ℕ)) → List ℕ
selection_written None = []
selection_written (Some names) = word (codes ",") ++ (word (codes "[") ++ (names_written names ++ word (codes "]")))

-- a `thf` statement of that name and role up to its body
abbrev pub head_written : List ℕ → List ℕ → List ℕ
head_written name role = word (codes "thf") ++ (word (codes "(") ++ (word (name_text name) ++ (word (codes ",") ++ (word role ++ word (codes ",")))))

abbrev pub end_written : List ℕ
end_written = word (codes ")") ++ word (codes ".")

abbrev pub statement_written : Statement → List ℕ
statement_written (statement.Formula byte name role role_byte tree) = head_written name role ++ (written Formula tree ++ end_written)
statement_written (statement.Typing byte name atom atom_byte ty) = head_written name (codes "type") ++ (word (atom_text atom) ++ (word (codes ":") ++ (type_written true ty ++ end_written)))
statement_written (statement.Include byte file file_byte names) = word (codes "include") ++ (word (codes "(") ++ (word (quoted file) ++ (selection_written names ++ end_written)))

abbrev pub list_written : List Statement → List ℕ
list_written [] = []
list_written (s ∷ ss) = statement_written s ++ list_written ss
