-- The grammar as a table: what the next token makes of the part that is looked for.
use Rattle.std.specs.Prelude.{ℕ, ◌+◌, Bool, true, false, List, [], ◌∷◌, ◌++◌, if◌then◌else◌, nat_le, codes, Option, Some, None}
use Rattle.std.specs.Str.{bytes_eq}
use Rattle.leo_lex.specs.declared.mark.Mark.{Mark}
use Rattle.leo_lex.specs.declared.mark.Mark.TheVariants.{OpenRound, CloseRound, OpenSquare, CloseSquare, Comma, Dot, Colon}
use Rattle.leo_syntax.specs.declared.classes.Class.{Class}
use Rattle.leo_syntax.specs.declared.classes.Class.TheVariants as class
use Rattle.leo_syntax.specs.declared.classes.Keyword.{Keyword}
use Rattle.leo_syntax.specs.declared.classes.Keyword.TheVariants as keyword
use Rattle.leo_syntax.specs.declared.classes.Wanted.TheVariants as wanted
use Rattle.leo_syntax.specs.declared.classes.Guard.{Guard}
use Rattle.leo_syntax.specs.declared.classes.Guard.TheVariants as guard
use Rattle.leo_syntax.specs.declared.classes.Shape.{Shape}
use Rattle.leo_syntax.specs.declared.classes.Shape.TheVariants.{Round}
use Rattle.leo_syntax.specs.declared.classes.Bracket.{Bracket}
use Rattle.leo_syntax.specs.declared.classes.Bracket.TheVariants as bracket
use Rattle.leo_syntax.specs.declared.tree.Connective.{Connective}
use Rattle.leo_syntax.specs.declared.tree.Connective.TheVariants.{Or, And}
use Rattle.leo_syntax.specs.declared.refusal.Form.{Form}
use Rattle.leo_syntax.specs.declared.refusal.Form.TheVariants.{Equality}
use Rattle.leo_syntax.specs.declared.refusal.ReadRefusal.{ReadRefusal}
use Rattle.leo_syntax.specs.declared.refusal.ReadRefusal.TheVariants.{Syntax, Unsupported, Deep}
use Rattle.leo_syntax.specs.Classes.{same_shape}
use Rattle.leo_syntax.specs.Lexemes.{Lexeme, Ahead, is_mark, class_of, keyword_of, bracket_of, name_of, lower_of, upper_of, quoted_of, refusal, guarded}

-- A part of the grammar that the next token decides on. A number is the level at which the part stands.
pub data Part : Type 0 where
  -- another statement, or the end of the file
  statement : Part
  -- that mark
  mark : Mark → Part
  -- nothing by itself: a part at that level comes next
  reaches : ℕ → Part
  -- nothing by itself: the guard looks at the next token
  guarding : Guard → Part
  name : Part
  -- a role, and the body that it calls for
  role : Part
  -- an atom and its type, maybe in brackets
  typing : ℕ → Part
  -- a type without an arrow
  operand_type : ℕ → Part
  -- `>` and what it leads to, or nothing; the type before it stands at that level
  arrows : ℕ → Part
  -- what `~` stands before, and what a connective joins
  unary : ℕ → Part
  -- the right side of an equation
  side : ℕ → Part
  -- an argument of an application
  argument : ℕ → Part
  -- what stands in brackets in a formula, and the bracket that closes them
  inside : ℕ → Part
  -- what stands behind `( ~`, up to the bracket that closes it
  negated : ℕ → Part
  -- `@` and further arguments, or nothing; what stands before it stands at that level
  arguments : ℕ → Part
  -- `=` or `!=` and a right side, or neither
  equals : ℕ → Part
  -- what may follow the first operand of a formula
  operators : ℕ → Part
  -- that connective and further operands, or nothing; the operand before it stands at that level
  operands : Connective → ℕ → Part
  -- a variable and its type
  variable : ℕ → Part
  -- `,` and further variables, or `]`, `:` and the body, which stands at the second level
  variables : ℕ → ℕ → Part
  -- `,` and annotations behind a body, or nothing
  ending : Part
  -- the first token of annotations
  annotation : Part
  -- more tokens of annotations, up to the `)` behind them; brackets of these shapes are open, the last first
  annotated : List Shape → Part
  -- the file of an include
  file : Part
  -- `,` and names in brackets, or nothing
  selection : Part
  -- a name and further names, or `]`
  selected : Part
  -- `,` and further names, or `]`
  names : Part

pub data Move : Type 0 where
  -- the token is taken, and these parts are looked for next
  take : List Part → Move
  -- the part may be missing, and is
  skip : Move
  refuse : ReadRefusal → Move

abbrev pub max_level : ℕ
max_level = 500

-- Nothing stands past the last level.
unfoldable pub within_levels : ℕ → Lexeme → Move → Move
within_levels level l move = if nat_le level max_level then move else refuse (Deep l.byte)

-- a token that says something is taken, any other is refused
abbrev pub if_some : {A : Type 0} → Option A → List Part → Move → Move
if_some (Some a) parts other = take parts
if_some None parts other = other

abbrev pub if_mark : Mark → Lexeme → List Part → Move → Move
if_mark m l parts other = if is_mark m l then take parts else other

abbrev pub typed : ℕ → List Part → List Part
typed level behind = operand_type level ∷ guarding guard.BehindType ∷ arrows level ∷ behind

abbrev pub bound : ℕ → List Part → List Part
bound level behind = mark OpenSquare ∷ variable level ∷ variables level (level + 1) ∷ behind

abbrev pub formula : ℕ → List Part → List Part
formula level behind = unary level ∷ operators level ∷ behind

-- an item, and what is looked for behind it
abbrev pub item_by : Class → ℕ → List Part → Lexeme → Move
item_by class.Atom level behind l = take (guarding guard.BehindAtom ∷ behind)
item_by class.Variable level behind l = take behind
item_by (class.Symbol s) level behind l = take behind
item_by class.Open level behind l = take (inside (level + 1) ∷ behind)
item_by _ level behind l = refuse (refusal wanted.Item l)

-- What begins a part of a formula: a negation or a binder, behind which one list of parts is looked
-- for, or the first item of an application, behind which the other is.
abbrev pub begin_by : Class → ℕ → List Part → List Part → Lexeme → Move
begin_by class.Not level behind applied l = take (unary (level + 1) ∷ behind)
begin_by (class.Bind b) level behind applied l = take (bound level behind)
begin_by c level behind applied l = item_by c level applied l

unfoldable pub begin_unary : ℕ → List Part → Lexeme → Move
begin_unary level behind l = begin_by (class_of l) level behind (arguments level ∷ equals level ∷ behind) l

-- an argument is an item, or a binder, behind which no argument stands
abbrev pub argument_by : Class → ℕ → Lexeme → Move
argument_by (class.Bind b) level l = take (bound level [])
argument_by c level l = item_by c level (arguments level ∷ []) l

abbrev pub in_brackets : ℕ → List Part
in_brackets level = operators level ∷ mark CloseRound ∷ []

abbrev pub inside_by : Class → ℕ → Lexeme → Move
inside_by class.Not level l = take (negated level ∷ [])
inside_by (class.Join c) level l = take (mark CloseRound ∷ [])
inside_by (class.Equal s) level l = refuse (Unsupported l.byte Equality)
inside_by c level l = begin_unary level (in_brackets level) l

abbrev pub negated_by : Class → ℕ → Lexeme → Move
negated_by class.Close level l = take []
negated_by c level l = within_levels (level + 1) l (begin_unary (level + 1) (in_brackets level) l)

abbrev pub arguments_by : Class → ℕ → Move
arguments_by class.Apply level = take (argument (level + 1) ∷ [])
arguments_by _ level = skip

abbrev pub equals_by : Class → ℕ → Move
equals_by (class.Equal s) level = take (side level ∷ [])
equals_by _ level = skip

-- `|` and `&` stand in chains
abbrev pub joined_by : Connective → ℕ → Move
joined_by Or level = take (unary (level + 1) ∷ operands Or (level + 1) ∷ [])
joined_by And level = take (unary (level + 1) ∷ operands And (level + 1) ∷ [])
joined_by _ level = take (unary level ∷ [])

abbrev pub operators_by : Class → ℕ → Move
operators_by (class.Join c) level = joined_by c level
operators_by _ level = skip

abbrev pub operands_by : Connective → Class → ℕ → Move
operands_by Or (class.Join Or) level = take (unary (level + 1) ∷ operands Or (level + 1) ∷ [])
operands_by And (class.Join And) level = take (unary (level + 1) ∷ operands And (level + 1) ∷ [])
operands_by _ _ level = skip

abbrev pub type_by : Class → ℕ → Lexeme → Move
type_by class.Atom level l = take []
type_by class.Individual level l = take []
type_by class.Truth level l = take []
type_by class.TypeOfTypes level l = take []
type_by class.Open level l = take (reaches (level + 1) ∷ guarding guard.BehindBracket ∷ typed (level + 1) (mark CloseRound ∷ []))
type_by _ level l = refuse (refusal wanted.OperandType l)

abbrev pub arrows_by : Class → ℕ → Move
arrows_by class.Arrow level = take (operand_type (level + 1) ∷ guarding guard.BehindType ∷ arrows (level + 1) ∷ [])
arrows_by _ level = skip

abbrev pub typing_by : Class → ℕ → Lexeme → Move
typing_by class.Open level l = take (reaches (level + 1) ∷ guarding guard.BehindBracket ∷ typing (level + 1) ∷ mark CloseRound ∷ [])
typing_by class.Atom level l = take (mark Colon ∷ typed level [])
typing_by _ level l = refuse (refusal wanted.Other l)

-- what the role calls for
abbrev pub body_of : List ℕ → List Part
body_of word = if bytes_eq word (codes "type") then typing 0 ∷ ending ∷ mark CloseRound ∷ mark Dot ∷ [] else formula 0 (ending ∷ mark CloseRound ∷ mark Dot ∷ [])

abbrev pub role_by : Option (List ℕ) → Lexeme → Move
role_by (Some word) l = take (mark Comma ∷ body_of word)
role_by None l = refuse (refusal wanted.Other l)

-- Any token may stand in annotations, but brackets match. No form is unsupported there.
abbrev pub annotation_by : Bracket → Lexeme → Move
annotation_by (bracket.Opens s) l = take (annotated (s ∷ []) ∷ [])
annotation_by (bracket.Closes s) l = refuse (Syntax l.byte)
annotation_by bracket.Plain l = take (annotated [] ∷ [])

-- what a closing bracket closes
abbrev pub closes_by : List Shape → Shape → Lexeme → Move
closes_by [] Round l = skip
closes_by [] s l = refuse (Syntax l.byte)
closes_by (due ∷ others) s l = if same_shape s due then take (annotated others ∷ []) else refuse (Syntax l.byte)

abbrev pub annotated_by : Bracket → List Shape → Lexeme → Move
annotated_by (bracket.Opens s) due l = take (annotated (s ∷ due) ∷ [])
annotated_by (bracket.Closes s) due l = closes_by due s l
annotated_by bracket.Plain due l = take (annotated due ∷ [])

abbrev pub statement_by : Keyword → Lexeme → Move
statement_by keyword.Include l = take (mark OpenRound ∷ guarding guard.BehindBracket ∷ file ∷ selection ∷ mark CloseRound ∷ mark Dot ∷ statement ∷ [])
statement_by keyword.Thf l = take (mark OpenRound ∷ guarding guard.BehindBracket ∷ name ∷ mark Comma ∷ role ∷ statement ∷ [])
statement_by _ l = refuse (refusal wanted.Statement l)

abbrev pub guarding_by : Option Form → Lexeme → Move
guarding_by (Some form) l = refuse (Unsupported l.byte form)
guarding_by None l = skip

unfoldable pub rule : Part → Lexeme → Move
rule statement l = statement_by (keyword_of l) l
rule (mark m) l = if_mark m l [] (refuse (refusal wanted.Other l))
rule (reaches level) l = within_levels level l skip
rule (guarding g) l = guarding_by (guarded g l) l
rule name l = if_some (name_of l) [] (refuse (refusal wanted.Other l))
rule role l = role_by (lower_of l) l
rule (typing level) l = within_levels level l (typing_by (class_of l) level l)
rule (operand_type level) l = within_levels level l (type_by (class_of l) level l)
rule (arrows level) l = arrows_by (class_of l) level
rule (unary level) l = within_levels level l (begin_unary level [] l)
rule (side level) l = within_levels level l (begin_by (class_of l) level [] (arguments level ∷ []) l)
rule (argument level) l = within_levels level l (argument_by (class_of l) level l)
rule (inside level) l = within_levels level l (inside_by (class_of l) level l)
rule (negated level) l = negated_by (class_of l) level l
rule (arguments level) l = arguments_by (class_of l) level
rule (equals level) l = equals_by (class_of l) level
rule (operators level) l = operators_by (class_of l) level
rule (operands c level) l = operands_by c (class_of l) level
rule (variable level) l = if_some (upper_of l) (mark Colon ∷ typed level []) (refuse (refusal wanted.Other l))
rule (variables level body) l = if_mark Comma l (variable level ∷ variables level (body + 1) ∷ []) (if_mark CloseSquare l (mark Colon ∷ unary body ∷ []) (refuse (refusal wanted.Other l)))
rule ending l = if_mark Comma l (annotation ∷ []) skip
rule annotation l = annotation_by (bracket_of l) l
rule (annotated due) l = annotated_by (bracket_of l) due l
rule file l = if_some (quoted_of l) [] (refuse (refusal wanted.Other l))
rule selection l = if_mark Comma l (mark OpenSquare ∷ selected ∷ []) skip
rule selected l = if_mark CloseSquare l [] (if_some (name_of l) (names ∷ []) (refuse (refusal wanted.Other l)))
rule names l = if_mark Comma l (name ∷ names ∷ []) (if_mark CloseSquare l [] (refuse (refusal wanted.Other l)))

-- whether a part may be missing at the end of the file
abbrev pub may_end : Part → Bool
may_end statement = true
may_end (reaches level) = true
may_end (guarding g) = true
may_end (arrows level) = true
may_end (arguments level) = true
may_end (equals level) = true
may_end (operators level) = true
may_end (operands c level) = true
may_end ending = true
may_end selection = true
may_end _ = false

abbrev pub all_may_end : List Part → Bool
all_may_end [] = true
all_may_end (p ∷ ps) = if may_end p then all_may_end ps else false

pub data Outcome : Type 0 where
  accepted : Outcome
  refused : ReadRefusal → Outcome

pub data Step : Type 0 where
  goes_on : List Part → Step
  stops : ReadRefusal → Step

abbrev pub moved : Move → List Part → Step → Step
moved (take parts) behind later = goes_on (parts ++ behind)
moved skip behind later = later
moved (refuse e) behind later = stops e

-- what is looked for after a token: the first part that does not skip it decides
abbrev pub step : List Part → Lexeme → Step
step [] l = stops (refusal wanted.Other l)
step (p ∷ ps) l = moved (rule p l) ps (step ps l)

abbrev pub after_step : Step → (List Part → Outcome) → Outcome
after_step (goes_on parts) next = next parts
after_step (stops e) next = refused e

-- What becomes of a text where these parts are looked for. A text that ends early is refused at its end.
unfoldable pub outcome : ℕ → Ahead → List Part → Outcome
outcome end [] parts = if all_may_end parts then accepted else refused (Syntax end)
outcome end (l ∷ ls) parts = after_step (step parts l) (outcome end ls)

abbrev pub file_outcome : ℕ → Ahead → Outcome
file_outcome end ls = outcome end ls (statement ∷ [])
