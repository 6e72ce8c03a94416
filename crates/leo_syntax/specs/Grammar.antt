-- The grammar, rule by rule: which tokens at the front of others are read as which tree.
-- Where a part may go on, it does: a rule that ends a part wants another token behind it.
use Rattle.std.specs.Prelude.{◌≡◌, ℕ, Bool, true, false, List, [], ◌∷◌, ◌++◌, codes, Option, Some, None}
use Rattle.std.specs.Str.{bytes_eq}
use Rattle.leo_lex.specs.declared.mark.Mark.{Mark}
use Rattle.leo_lex.specs.declared.mark.Mark.TheVariants.{OpenRound, CloseRound, OpenSquare, CloseSquare, Comma, Dot, Colon}
use Rattle.leo_syntax.specs.declared.classes.Class.{Class}
use Rattle.leo_syntax.specs.declared.classes.Class.TheVariants as class
use Rattle.leo_syntax.specs.declared.classes.Symbol.{Symbol}
use Rattle.leo_syntax.specs.declared.classes.Symbol.TheVariants as symbol
use Rattle.leo_syntax.specs.declared.classes.Keyword.{Keyword}
use Rattle.leo_syntax.specs.declared.classes.Keyword.TheVariants as keyword
use Rattle.leo_syntax.specs.declared.classes.Shape.{Shape}
use Rattle.leo_syntax.specs.declared.classes.Shape.TheVariants.{Round}
use Rattle.leo_syntax.specs.declared.classes.Bracket.{Bracket}
use Rattle.leo_syntax.specs.declared.classes.Bracket.TheVariants as bracket
use Rattle.leo_syntax.specs.declared.tree.Binder.{Binder}
use Rattle.leo_syntax.specs.declared.tree.Connective.{Connective}
use Rattle.leo_syntax.specs.declared.tree.Connective.TheVariants.{Or, And}
use Rattle.leo_syntax.specs.declared.tree.Sign.{Sign}
use Rattle.leo_syntax.specs.declared.tree.TypeWord.{TypeWord}
use Rattle.leo_syntax.specs.declared.tree.TypeWord.TheVariants as word
use Rattle.leo_syntax.specs.declared.tree.TypeTree.{TypeTree}
use Rattle.leo_syntax.specs.declared.tree.TypeNode.TheVariants.{Base, Arrow}
use Rattle.leo_syntax.specs.declared.tree.Variable.{Variable}
use Rattle.leo_syntax.specs.declared.tree.Tree.{Tree}
use Rattle.leo_syntax.specs.declared.tree.Node.{Node}
use Rattle.leo_syntax.specs.declared.tree.Node.TheVariants as node
use Rattle.leo_syntax.specs.declared.tree.Statement.{Statement}
use Rattle.leo_syntax.specs.declared.tree.Statement.TheVariants.{Formula, Typing, Include}
use Rattle.leo_syntax.specs.Lexemes.{Lexeme, Ahead, is_mark, class_of, keyword_of, bracket_of, name_of, atom_of, lower_of, upper_of, quoted_of}

-- ---- the next token

-- the next token is of that class, and these come after it
pub record Takes (class : Class) (ls : Ahead) (after : Ahead) : Type 0 where
  pub token : Lexeme
  pub ahead_is : ls ≡ token ∷ after
  pub class_is : class_of token ≡ class

-- the next token is that word
pub record Begins (word : Keyword) (ls : Ahead) (after : Ahead) : Type 0 where
  pub token : Lexeme
  pub ahead_is : ls ≡ token ∷ after
  pub word_is : keyword_of token ≡ word

-- the next token says that
pub record Says {A : Type 0} (says : Lexeme → Option A) (ls : Ahead) (a : A) (after : Ahead) : Type 0 where
  pub token : Lexeme
  pub ahead_is : ls ≡ token ∷ after
  pub said : says token ≡ Some a

-- the next token is that mark
pub record Passes (mark : Mark) (ls : Ahead) (after : Ahead) : Type 0 where
  pub token : Lexeme
  pub ahead_is : ls ≡ token ∷ after
  pub is_that : is_mark mark token ≡ true

-- the next token is of that sort for annotations
pub record Turns (sort : Bracket) (ls : Ahead) (after : Ahead) : Type 0 where
  pub token : Lexeme
  pub ahead_is : ls ≡ token ∷ after
  pub sort_is : bracket_of token ≡ sort

unfoldable pub sees : Mark → Ahead → Bool
sees m [] = false
sees m (l ∷ ls) = is_mark m l

-- where the next token begins
unfoldable pub byte_of : Ahead → ℕ
byte_of [] = 0
byte_of (l ∷ ls) = l.byte

unfoldable pub class_at : Ahead → Class
class_at [] = class.Other
class_at (l ∷ ls) = class_of l

unfoldable pub bracket_at : Ahead → Bracket
bracket_at [] = bracket.Plain
bracket_at (l ∷ ls) = bracket_of l

abbrev pub is_closing : Bracket → Bool
is_closing (bracket.Closes s) = true
is_closing _ = false

abbrev pub is_arrow : Class → Bool
is_arrow class.Arrow = true
is_arrow _ = false

abbrev pub is_apply : Class → Bool
is_apply class.Apply = true
is_apply _ = false

abbrev pub is_equal : Class → Bool
is_equal (class.Equal s) = true
is_equal _ = false

abbrev pub is_join : Class → Bool
is_join (class.Join c) = true
is_join _ = false

-- `|` and `&` stand in chains
abbrev pub is_chain : Connective → Bool
is_chain Or = true
is_chain And = true
is_chain _ = false

-- whether a chain of that connective goes on
abbrev pub continues : Connective → Class → Bool
continues Or (class.Join Or) = true
continues And (class.Join And) = true
continues _ _ = false

-- ---- trees

abbrev pub type_at : ℕ → TypeWord → TypeTree
type_at byte word = record { byte = byte; node = Base word }

abbrev pub arrow : ℕ → TypeTree → TypeTree → TypeTree
arrow byte from to = record { byte = byte; node = Arrow from to }

abbrev pub at_byte : ℕ → Node → Tree
at_byte byte node = record { byte = byte; node = node }

-- a head with its arguments, or the head alone where there are none
abbrev pub applied : ℕ → Tree → List Tree → Tree
applied byte head [] = head
applied byte head (argument ∷ arguments) = at_byte byte (node.Apply head (argument ∷ arguments))

abbrev pub symbol_node : Symbol → Node
symbol_node symbol.True = node.True
symbol_node symbol.False = node.False
symbol_node symbol.Pi = node.Pi
symbol_node symbol.Sigma = node.Sigma
symbol_node symbol.Choice = node.Choice

-- ---- types

mutual
  -- a type without an arrow
  pub data IsOperandType : Ahead → TypeTree → Ahead → Type 0 where
    type_atom : {ls after : Ahead} {name : List ℕ} → Says atom_of ls name after → IsOperandType ls (type_at (byte_of ls) (word.Atom name)) after
    individual : {ls after : Ahead} → Takes class.Individual ls after → IsOperandType ls (type_at (byte_of ls) word.Individual) after
    truth : {ls after : Ahead} → Takes class.Truth ls after → IsOperandType ls (type_at (byte_of ls) word.Truth) after
    type_of_types : {ls after : Ahead} → Takes class.TypeOfTypes ls after → IsOperandType ls (type_at (byte_of ls) word.TypeOfTypes) after
    type_brackets : {ls l1 l2 after : Ahead} {ty : TypeTree} → Takes class.Open ls l1 → IsType l1 ty l2 → Passes CloseRound l2 after → IsOperandType ls ty after

  -- arrows nest to the right
  pub data IsType : Ahead → TypeTree → Ahead → Type 0 where
    operand : {ls after : Ahead} {ty : TypeTree} → IsOperandType ls ty after → is_arrow (class_at after) ≡ false → IsType ls ty after
    function : {ls l1 l2 after : Ahead} {from to : TypeTree}
        → IsOperandType ls from l1 → Takes class.Arrow l1 l2 → IsType l2 to after → IsType ls (arrow (byte_of ls) from to) after

-- ---- formulas

pub data IsVariable : Ahead → Variable → Ahead → Type 0 where
  variable : {ls l1 l2 after : Ahead} {name : List ℕ} {ty : TypeTree} → Says upper_of ls name l1 → Passes Colon l1 l2 → IsType l2 ty after
      → IsVariable ls (record { name = name; ty = ty }) after

pub data AreVariables : Ahead → List Variable → Ahead → Type 0 where
  last_variable : {ls after : Ahead} {v : Variable} → IsVariable ls v after → sees Comma after ≡ false → AreVariables ls (v ∷ []) after
  next_variable : {ls l1 l2 after : Ahead} {v : Variable} {vs : List Variable} → IsVariable ls v l1 → Passes Comma l1 l2 → AreVariables l2 vs after → AreVariables ls (v ∷ vs) after

mutual
  pub data IsItem : Ahead → Tree → Ahead → Type 0 where
    atom : {ls after : Ahead} {name : List ℕ} → Says atom_of ls name after → IsItem ls (at_byte (byte_of ls) (node.Atom name)) after
    variable_item : {ls after : Ahead} {name : List ℕ} → Says upper_of ls name after → IsItem ls (at_byte (byte_of ls) (node.Var name)) after
    symbol_item : {ls after : Ahead} {s : Symbol} → Takes (class.Symbol s) ls after → IsItem ls (at_byte (byte_of ls) (symbol_node s)) after
    -- `( ~ )`
    negation_sign : {ls l1 l2 after : Ahead} → Takes class.Open ls l1 → Takes class.Not l1 l2 → Takes class.Close l2 after
        → IsItem ls (at_byte (byte_of ls) node.Negation) after
    -- a connective in brackets
    connective_sign : {ls l1 l2 after : Ahead} {c : Connective} → Takes class.Open ls l1 → Takes (class.Join c) l1 l2 → Passes CloseRound l2 after
        → IsItem ls (at_byte (byte_of ls) (node.Connective c)) after
    brackets : {ls l1 l2 after : Ahead} {tree : Tree} → Takes class.Open ls l1 → IsFormula l1 tree l2 → Passes CloseRound l2 after → IsItem ls tree after

  -- the arguments that follow those that were found
  pub data AreArguments : List Tree → Ahead → List Tree → Ahead → Type 0 where
    none : {found : List Tree} {ls : Ahead} → is_apply (class_at ls) ≡ false → AreArguments found ls found ls
    more : {found all : List Tree} {argument : Tree} {ls l1 l2 after : Ahead}
        → Takes class.Apply ls l1 → IsItem l1 argument l2 → AreArguments (found ++ argument ∷ []) l2 all after → AreArguments found ls all after
    -- an application may end in a binder
    binder_last : {found : List Tree} {argument : Tree} {ls l1 after : Ahead}
        → Takes class.Apply ls l1 → IsBinder l1 argument after → AreArguments found ls (found ++ argument ∷ []) after

  -- an item and its arguments
  pub data IsApplication : Ahead → Tree → Ahead → Type 0 where
    application : {ls l1 after : Ahead} {head : Tree} {all : List Tree} → IsItem ls head l1 → AreArguments [] l1 all after
        → IsApplication ls (applied (byte_of ls) head all) after

  pub data IsBinder : Ahead → Tree → Ahead → Type 0 where
    binder : {ls l1 l2 l3 l4 l5 after : Ahead} {b : Binder} {vs : List Variable} {body : Tree}
        → Takes (class.Bind b) ls l1 → Passes OpenSquare l1 l2 → AreVariables l2 vs l3 → Passes CloseSquare l3 l4 → Passes Colon l4 l5 → IsUnary l5 body after
        → IsBinder ls (at_byte (byte_of ls) (node.Bind b vs body)) after

  pub data IsNegation : Ahead → Tree → Ahead → Type 0 where
    negation : {ls l1 after : Ahead} {tree : Tree} → Takes class.Not ls l1 → IsUnary l1 tree after → IsNegation ls (at_byte (byte_of ls) (node.Not tree)) after

  pub data IsUnary : Ahead → Tree → Ahead → Type 0 where
    negated : {ls after : Ahead} {tree : Tree} → IsNegation ls tree after → IsUnary ls tree after
    bound : {ls after : Ahead} {tree : Tree} → IsBinder ls tree after → IsUnary ls tree after
    term : {ls after : Ahead} {tree : Tree} → IsApplication ls tree after → is_equal (class_at after) ≡ false → IsUnary ls tree after
    equation : {ls l1 l2 after : Ahead} {left right : Tree} {s : Sign}
        → IsApplication ls left l1 → Takes (class.Equal s) l1 l2 → IsSide l2 right after → IsUnary ls (at_byte (byte_of ls) (node.Equal s (byte_of l1) left right)) after

  -- the right side of an equation
  pub data IsSide : Ahead → Tree → Ahead → Type 0 where
    negated_side : {ls after : Ahead} {tree : Tree} → IsNegation ls tree after → IsSide ls tree after
    bound_side : {ls after : Ahead} {tree : Tree} → IsBinder ls tree after → IsSide ls tree after
    term_side : {ls after : Ahead} {tree : Tree} → IsApplication ls tree after → IsSide ls tree after

  -- the operands of a chain from one on: they nest to the right
  pub data AreOperands : Connective → Ahead → Tree → Ahead → Type 0 where
    last : {c : Connective} {ls after : Ahead} {tree : Tree} → IsUnary ls tree after → continues c (class_at after) ≡ false → AreOperands c ls tree after
    further : {c : Connective} {ls l1 l2 after : Ahead} {left right : Tree}
        → IsUnary ls left l1 → Takes (class.Join c) l1 l2 → AreOperands c l2 right after → AreOperands c ls (at_byte (byte_of ls) (node.Join c left right)) after

  pub data IsFormula : Ahead → Tree → Ahead → Type 0 where
    alone : {ls after : Ahead} {tree : Tree} → IsUnary ls tree after → is_join (class_at after) ≡ false → IsFormula ls tree after
    chain : {ls l1 l2 after : Ahead} {left right : Tree} {c : Connective} → is_chain c ≡ true
        → IsUnary ls left l1 → Takes (class.Join c) l1 l2 → AreOperands c l2 right after → IsFormula ls (at_byte (byte_of ls) (node.Join c left right)) after
    pair : {ls l1 l2 after : Ahead} {left right : Tree} {c : Connective} → is_chain c ≡ false
        → IsUnary ls left l1 → Takes (class.Join c) l1 l2 → IsUnary l2 right after → IsFormula ls (at_byte (byte_of ls) (node.Join c left right)) after

-- ---- statements

-- an atom, the byte where it stands, and its type
pub data IsTyping : Ahead → List ℕ → ℕ → TypeTree → Ahead → Type 0 where
  typed_atom : {ls l1 l2 after : Ahead} {name : List ℕ} {ty : TypeTree} → Says atom_of ls name l1 → Passes Colon l1 l2 → IsType l2 ty after → IsTyping ls name (byte_of ls) ty after
  typed_brackets : {ls l1 l2 after : Ahead} {name : List ℕ} {byte : ℕ} {ty : TypeTree} → Takes class.Open ls l1 → IsTyping l1 name byte ty l2 → Passes CloseRound l2 after → IsTyping ls name byte ty after

-- Any tokens in which brackets match, up to a `)` that closes none of them. The list has the shapes
-- of the brackets that are open before them, the last first.
pub data Annotates : List Shape → Ahead → Ahead → Type 0 where
  matched : {ls : Ahead} → bracket_at ls ≡ bracket.Closes Round → Annotates [] ls ls
  plain_token : {due : List Shape} {ls l1 after : Ahead} → Turns bracket.Plain ls l1 → Annotates due l1 after → Annotates due ls after
  opens : {due : List Shape} {s : Shape} {ls l1 after : Ahead} → Turns (bracket.Opens s) ls l1 → Annotates (s ∷ due) l1 after → Annotates due ls after
  closes : {due : List Shape} {s : Shape} {ls l1 after : Ahead} → Turns (bracket.Closes s) ls l1 → Annotates due l1 after → Annotates (s ∷ due) ls after

-- what stands behind a body
pub data IsEnding : Ahead → Ahead → Type 0 where
  bare : {ls l1 after : Ahead} → Passes CloseRound ls l1 → Passes Dot l1 after → IsEnding ls after
  -- annotations are one token at least
  with_annotations : {ls l1 l2 l3 after : Ahead} → Passes Comma ls l1 → is_closing (bracket_at l1) ≡ false → Annotates [] l1 l2 → Passes CloseRound l2 l3 → Passes Dot l3 after → IsEnding ls after

pub data AreNames : Ahead → List (List ℕ) → Ahead → Type 0 where
  last_name : {ls after : Ahead} {name : List ℕ} → Says name_of ls name after → sees Comma after ≡ false → AreNames ls (name ∷ []) after
  next_name : {ls l1 l2 after : Ahead} {name : List ℕ} {names : List (List ℕ)} → Says name_of ls name l1 → Passes Comma l1 l2 → AreNames l2 names after → AreNames ls (name ∷ names) after

-- which statements an include is for: all, or those of some names
pub data IsSelection : Ahead → Option (List (List ℕ)) → Ahead → Type 0 where
  whole : {ls : Ahead} → sees Comma ls ≡ false → IsSelection ls None ls
  no_names : {ls l1 l2 after : Ahead} → Passes Comma ls l1 → Passes OpenSquare l1 l2 → Passes CloseSquare l2 after → IsSelection ls (Some []) after
  some_names : {ls l1 l2 l3 after : Ahead} {names : List (List ℕ)} → Passes Comma ls l1 → Passes OpenSquare l1 l2 → AreNames l2 names l3 → Passes CloseSquare l3 after → IsSelection ls (Some names) after

-- the role of typings
abbrev pub is_type_role : List ℕ → Bool
is_type_role role = bytes_eq role (codes "type")

-- the front of a `thf` statement, up to its body
pub record IsHead (ls : Ahead) (byte : ℕ) (name role : List ℕ) (role_byte : ℕ) (after : Ahead) : Type 0 where
  pub l1 : Ahead
  pub l2 : Ahead
  pub l3 : Ahead
  pub l4 : Ahead
  pub l5 : Ahead
  pub thf : Lexeme
  pub takes_thf : ls ≡ thf ∷ l1
  pub is_thf : keyword_of thf ≡ keyword.Thf
  pub byte_is : byte ≡ byte_of ls
  pub takes_open : Passes OpenRound l1 l2
  pub says_name : Says name_of l2 name l3
  pub takes_comma : Passes Comma l3 l4
  pub says_role : Says lower_of l4 role l5
  pub role_byte_is : role_byte ≡ byte_of l4
  pub takes_second_comma : Passes Comma l5 after

pub data IsStatement : Ahead → Statement → Ahead → Type 0 where
  formula_statement : {ls l1 l2 after : Ahead} {byte role_byte : ℕ} {name role : List ℕ} {tree : Tree} → IsHead ls byte name role role_byte l1 → is_type_role role ≡ false
      → IsFormula l1 tree l2 → IsEnding l2 after → IsStatement ls (Formula byte name role role_byte tree) after
  typing_statement : {ls l1 l2 after : Ahead} {byte role_byte atom_byte : ℕ} {name role atom : List ℕ} {ty : TypeTree} → IsHead ls byte name role role_byte l1 → is_type_role role ≡ true
      → IsTyping l1 atom atom_byte ty l2 → IsEnding l2 after → IsStatement ls (Typing byte name atom atom_byte ty) after
  include_statement : {ls l1 l2 l3 l4 l5 after : Ahead} {file : List ℕ} {names : Option (List (List ℕ))} → Begins keyword.Include ls l1 → Passes OpenRound l1 l2
      → Says quoted_of l2 file l3 → IsSelection l3 names l4 → Passes CloseRound l4 l5 → Passes Dot l5 after → IsStatement ls (Include (byte_of ls) file (byte_of l2) names) after

-- the statements of a whole file
pub data IsFile : Ahead → List Statement → Type 0 where
  finished : IsFile [] []
  another : {ls after : Ahead} {s : Statement} {ss : List Statement} → IsStatement ls s after → IsFile after ss → IsFile ls (s ∷ ss)
