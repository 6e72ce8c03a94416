-- Reading from left to right. Only the crate's private clauses cite it.
use Rattle.std.specs.Prelude.{◌≡◌, ◌≢◌, ℕ, zero, suc, ◌-◌, Bool, true, false, List, [], ◌∷◌, ◌++◌, length, if◌then◌else◌, codes, Result, Ok, Err, Option, Some, None}
use Rattle.std.specs.Str.{bytes_eq}
use Rattle.leo_lex.specs.declared.mark.Mark.{Mark}
use Rattle.leo_lex.specs.declared.mark.Mark.TheVariants.{OpenRound, CloseRound, OpenSquare, CloseSquare, Comma, Dot, Colon}
use Rattle.leo_syntax.specs.declared.classes.Class.{Class}
use Rattle.leo_syntax.specs.declared.classes.Class.TheVariants as class
use Rattle.leo_syntax.specs.declared.classes.Keyword.{Keyword}
use Rattle.leo_syntax.specs.declared.classes.Keyword.TheVariants as keyword
use Rattle.leo_syntax.specs.declared.classes.Wanted.{Wanted}
use Rattle.leo_syntax.specs.declared.classes.Wanted.TheVariants as wanted
use Rattle.leo_syntax.specs.declared.classes.Shape.{Shape}
use Rattle.leo_syntax.specs.declared.classes.Shape.TheVariants.{Round}
use Rattle.leo_syntax.specs.declared.classes.Bracket.{Bracket}
use Rattle.leo_syntax.specs.declared.classes.Bracket.TheVariants as bracket
use Rattle.leo_syntax.specs.declared.classes.Guard.{Guard}
use Rattle.leo_syntax.specs.declared.classes.Guard.TheVariants as guard
use Rattle.leo_syntax.specs.declared.refusal.Form.{Form}
use Rattle.leo_syntax.specs.declared.refusal.Form.TheVariants.{Equality}
use Rattle.leo_syntax.specs.declared.refusal.ReadRefusal.{ReadRefusal}
use Rattle.leo_syntax.specs.declared.refusal.ReadRefusal.TheVariants.{Syntax, Unsupported, Deep, Memory}
use Rattle.leo_syntax.specs.declared.tree.Binder.{Binder}
use Rattle.leo_syntax.specs.declared.tree.Connective.{Connective}
use Rattle.leo_syntax.specs.declared.tree.TypeWord.TheVariants as word
use Rattle.leo_syntax.specs.declared.tree.TypeTree.{TypeTree}
use Rattle.leo_syntax.specs.declared.tree.Variable.{Variable}
use Rattle.leo_syntax.specs.declared.tree.Tree.{Tree}
use Rattle.leo_syntax.specs.declared.tree.Node.TheVariants as node
use Rattle.leo_syntax.specs.declared.tree.Statement.{Statement}
use Rattle.leo_syntax.specs.declared.tree.Statement.TheVariants.{Formula, Typing, Include}
use Rattle.leo_syntax.specs.declared.typed.Typed.{Typed}
use Rattle.leo_syntax.specs.Classes.{same_shape}
use Rattle.leo_syntax.specs.Lexemes.{Lexeme, Ahead, is_mark, keyword_of, bracket_of, name_of, atom_of, lower_of, upper_of, quoted_of, refusal, guarded}
use Rattle.leo_syntax.specs.Grammar.{sees, class_at, bracket_at, is_closing, byte_of, is_chain, continues, type_at, arrow, at_byte, applied, symbol_node}

-- ---- the next token

unfoldable pub keyword_at : Ahead → Keyword
keyword_at [] = keyword.Other
keyword_at (l ∷ ls) = keyword_of l

unfoldable pub said_at : {A : Type 0} → (Lexeme → Option A) → Ahead → Option A
said_at says [] = None
said_at says (l ∷ ls) = says l

unfoldable pub rest : Ahead → Ahead
rest [] = []
rest (l ∷ ls) = ls

unfoldable pub refusal_at : Wanted → ℕ → Ahead → ReadRefusal
refusal_at w end [] = Syntax end
refusal_at w end (l ∷ ls) = refusal w l

unfoldable pub equality_at : ℕ → Ahead → ReadRefusal
equality_at end [] = Syntax end
equality_at end (l ∷ ls) = Unsupported l.byte Equality

unfoldable pub deep_at : ℕ → Ahead → ReadRefusal
deep_at end [] = Syntax end
deep_at end (l ∷ ls) = Deep l.byte

unfoldable pub syntax_at : ℕ → Ahead → ReadRefusal
syntax_at end [] = Syntax end
syntax_at end (l ∷ ls) = Syntax l.byte

-- ---- readers

abbrev pub Read : Type 0 → Type 0
Read A = Result (A × Ahead) ReadRefusal

abbrev pub and_then : {A B : Type 0} → Read A → (A → Ahead → Read B) → Read B
and_then (Ok p) f = f p.0 p.1
and_then (Err e) f = Err e

abbrev pub read_mark : Mark → ℕ → Ahead → Read (Unit {0})
read_mark m end ls = if sees m ls then Ok (tt, rest ls) else Err (refusal_at wanted.Other end ls)

abbrev pub found : {A : Type 0} → Option A → ℕ → Ahead → Read A
found (Some a) end ls = Ok (a, rest ls)
found None end ls = Err (refusal_at wanted.Other end ls)

-- a token that says something
abbrev pub read_said : {A : Type 0} → (Lexeme → Option A) → ℕ → Ahead → Read A
read_said says end ls = found (said_at says ls) end ls

abbrev pub let_pass : Option Form → ℕ → Ahead → Read (Unit {0})
let_pass (Some form) byte ls = Err (Unsupported byte form)
let_pass None byte ls = Ok (tt, ls)

-- the next token must not be one that the guard stops
unfoldable pub read_guard : Guard → ℕ → Ahead → Read (Unit {0})
read_guard g end [] = Ok (tt, [])
read_guard g end (l ∷ ls) = let_pass (guarded g l) l.byte (l ∷ ls)

-- a level must be left
abbrev pub read_level : ℕ → ℕ → Ahead → Read (Unit {0})
read_level end zero ls = Err (deep_at end ls)
read_level end (suc left) ls = Ok (tt, ls)

abbrev pub closed : {A : Type 0} → ℕ → Read A → Read A
closed end r = and_then r (λ a ls. and_then (read_mark CloseRound end ls) (λ _ ls. Ok (a, ls)))

-- what stands behind a bracket that was opened
abbrev pub opened : {A : Type 0} → ℕ → ℕ → (Ahead → Read A) → Ahead → Read A
opened end left inner ls = and_then (read_level end left ls) (λ _ _. and_then (read_guard guard.BehindBracket end ls) (λ _ _. closed end (inner ls)))

-- ---- types

abbrev pub operand_type_by : Class → ℕ → ℕ → (Ahead → Read TypeTree) → Ahead → Read TypeTree
operand_type_by class.Atom end left inner ls = and_then (read_said atom_of end ls) (λ name after. Ok (type_at (byte_of ls) (word.Atom name), after))
operand_type_by class.Individual end left inner ls = Ok (type_at (byte_of ls) word.Individual, rest ls)
operand_type_by class.Truth end left inner ls = Ok (type_at (byte_of ls) word.Truth, rest ls)
operand_type_by class.TypeOfTypes end left inner ls = Ok (type_at (byte_of ls) word.TypeOfTypes, rest ls)
operand_type_by class.Open end left inner ls = opened end left inner (rest ls)
operand_type_by _ end left inner ls = Err (refusal_at wanted.OperandType end ls)

unfoldable pub operand_type_with : ℕ → ℕ → (Ahead → Read TypeTree) → Ahead → Read TypeTree
operand_type_with end left inner ls = operand_type_by (class_at ls) end left inner ls

abbrev pub arrow_by : Class → (Ahead → Read TypeTree) → ℕ → TypeTree → Ahead → Read TypeTree
arrow_by class.Arrow to byte from ls = and_then (to (rest ls)) (λ ty after. Ok (arrow byte from ty, after))
arrow_by _ to byte from ls = Ok (from, ls)

unfoldable pub type_with : ℕ → ℕ → (Ahead → Read TypeTree) → Ahead → Read TypeTree
type_with end left inner ls =
    and_then (operand_type_with end left inner ls) (λ from l1. and_then (read_guard guard.BehindType end l1) (λ _ _. arrow_by (class_at l1) inner (byte_of ls) from l1))

-- The number says how many levels are left.
unfoldable pub ty : ℕ → ℕ → Ahead → Read TypeTree
ty end zero ls = Err (deep_at end ls)
ty end (suc left) ls = type_with end left (ty end left) ls

-- ---- variables

unfoldable pub variable : ℕ → ℕ → Ahead → Read Variable
variable end left ls = and_then (read_said upper_of end ls) (λ name l1. and_then (read_mark Colon end l1) (λ _ l2. and_then (ty end left l2) (λ t after. Ok (record { name = name; ty = t }, after))))

abbrev pub further_with : (Ahead → Read (List Variable)) → Variable → Ahead → Read (List Variable)
further_with variables v ls = if sees Comma ls then and_then (variables (rest ls)) (λ vs after. Ok (v ∷ vs, after)) else Ok (v ∷ [], ls)

-- The first number says how many variables there may be: as many as tokens are plenty.
unfoldable pub variables : ℕ → ℕ → ℕ → Ahead → Read (List Variable)
variables zero end left ls = Err (Syntax end)
variables (suc n) end left ls = and_then (variable end left ls) (further_with (variables n end left))

-- ---- formulas

abbrev pub binder_with : ℕ → ℕ → (ℕ → Ahead → Read Tree) → Binder → Ahead → Read Tree
binder_with end left body b ls =
    and_then (read_mark OpenSquare end (rest ls)) (λ _ l2. and_then (variables (length l2) end left l2) (λ vs l3.
    and_then (read_mark CloseSquare end l3) (λ _ l4. and_then (read_mark Colon end l4) (λ _ l5.
    and_then (body (length vs - 1) l5) (λ tree after. Ok (at_byte (byte_of ls) (node.Bind b vs tree), after))))))

abbrev pub negation_with : ℕ → (Ahead → Read Tree) → Ahead → Read Tree
negation_with end unary ls = and_then (unary (rest ls)) (λ tree after. Ok (at_byte (byte_of ls) (node.Not tree), after))

abbrev pub item_by : Class → ℕ → (ℕ → Ahead → Read Tree) → Ahead → Read Tree
item_by class.Atom end inside ls = and_then (read_said atom_of end ls) (λ name l1. and_then (read_guard guard.BehindAtom end l1) (λ _ _. Ok (at_byte (byte_of ls) (node.Atom name), l1)))
item_by class.Variable end inside ls = and_then (read_said upper_of end ls) (λ name after. Ok (at_byte (byte_of ls) (node.Var name), after))
item_by (class.Symbol s) end inside ls = Ok (at_byte (byte_of ls) (symbol_node s), rest ls)
item_by class.Open end inside ls = inside (byte_of ls) (rest ls)
item_by _ end inside ls = Err (refusal_at wanted.Item end ls)

unfoldable pub item_with : ℕ → (ℕ → Ahead → Read Tree) → Ahead → Read Tree
item_with end inside ls = item_by (class_at ls) end inside ls

unfoldable pub application_with : ℕ → (ℕ → Ahead → Read Tree) → (List Tree → Ahead → Read (List Tree)) → Ahead → Read Tree
application_with end inside arguments ls = and_then (item_with end inside ls) (λ head l1. and_then (arguments [] l1) (λ all after. Ok (applied (byte_of ls) head all, after)))

-- a negation, a binder, or an application and what is read behind it
abbrev pub begin_by : Class → (Ahead → Read Tree) → (Binder → Ahead → Read Tree) → (Ahead → Read Tree) → (Tree → Ahead → Read Tree) → Ahead → Read Tree
begin_by class.Not negation binder application behind ls = negation ls
begin_by (class.Bind b) negation binder application behind ls = binder b ls
begin_by _ negation binder application behind ls = and_then (application ls) behind

abbrev pub side_with : (Ahead → Read Tree) → (Binder → Ahead → Read Tree) → (Ahead → Read Tree) → Ahead → Read Tree
side_with negation binder application ls = begin_by (class_at ls) negation binder application (λ tree after. Ok (tree, after)) ls

abbrev pub equation_by : Class → ℕ → (Ahead → Read Tree) → ℕ → Tree → Ahead → Read Tree
equation_by (class.Equal s) end side byte left ls = and_then (side (rest ls)) (λ right after. Ok (at_byte byte (node.Equal s (byte_of ls) left right), after))
equation_by _ end side byte left ls = Ok (left, ls)

unfoldable pub equation_with : ℕ → (Ahead → Read Tree) → ℕ → Tree → Ahead → Read Tree
equation_with end side byte left ls = equation_by (class_at ls) end side byte left ls

unfoldable pub unary_with : ℕ → ℕ → (Ahead → Read Tree) → (ℕ → Ahead → Read Tree) → (ℕ → Ahead → Read Tree) → (List Tree → Ahead → Read (List Tree)) → Ahead → Read Tree
unary_with end left unary body inside arguments ls =
    begin_by (class_at ls) (negation_with end unary) (binder_with end left body) (application_with end inside arguments)
    (equation_with end (side_with (negation_with end unary) (binder_with end left body) (application_with end inside arguments)) (byte_of ls)) ls

abbrev pub argument_by : Class → ℕ → (Binder → Ahead → Read Tree) → (ℕ → Ahead → Read Tree) → (List Tree → Ahead → Read (List Tree)) → List Tree → Ahead → Read (List Tree)
argument_by (class.Bind b) end binder inside arguments found ls = and_then (binder b ls) (λ argument after. Ok (found ++ argument ∷ [], after))
argument_by _ end binder inside arguments found ls = and_then (item_with end inside ls) (λ argument. arguments (found ++ argument ∷ []))

unfoldable pub argument_with : ℕ → ℕ → (ℕ → Ahead → Read Tree) → (ℕ → Ahead → Read Tree) → (List Tree → Ahead → Read (List Tree)) → List Tree → Ahead → Read (List Tree)
argument_with end left body inside arguments found ls = argument_by (class_at ls) end (binder_with end left body) inside arguments found ls

abbrev pub arguments_by : Class → (List Tree → Ahead → Read (List Tree)) → List Tree → Ahead → Read (List Tree)
arguments_by class.Apply argument found ls = argument found (rest ls)
arguments_by _ argument found ls = Ok (found, ls)

-- a connective and its right operand
abbrev pub join_with : Connective → (Ahead → Read Tree) → ℕ → Tree → Ahead → Read Tree
join_with c operand byte left ls = and_then (operand (rest ls)) (λ right after. Ok (at_byte byte (node.Join c left right), after))

abbrev pub operands_with : Connective → ℕ → (Ahead → Read Tree) → (Ahead → Read Tree) → Ahead → Read Tree
operands_with c end unary operands ls = and_then (unary ls) (λ left l1. if continues c (class_at l1) then join_with c operands (byte_of ls) left l1 else Ok (left, l1))

abbrev pub operators_by : Class → (Ahead → Read Tree) → (Connective → Ahead → Read Tree) → ℕ → Tree → Ahead → Read Tree
operators_by (class.Join c) unary operands byte left ls = if is_chain c then join_with c (operands c) byte left ls else join_with c unary byte left ls
operators_by _ unary operands byte left ls = Ok (left, ls)

abbrev pub formula_with : ℕ → (Ahead → Read Tree) → (Connective → Ahead → Read Tree) → Ahead → Read Tree
formula_with end unary operands ls = and_then (unary ls) (λ left l1. operators_by (class_at l1) unary operands (byte_of ls) left l1)

abbrev pub is_close : Class → Bool
is_close class.Close = true
is_close _ = false

-- what stands in brackets that begin at that byte, and the bracket that closes them
abbrev pub inside_by : Class → ℕ → (Ahead → Read Tree) → ℕ → Ahead → Read Tree
inside_by class.Not end formula byte ls = if is_close (class_at (rest ls)) then Ok (at_byte byte node.Negation, rest (rest ls)) else closed end (formula ls)
inside_by (class.Join c) end formula byte ls = and_then (read_mark CloseRound end (rest ls)) (λ _ after. Ok (at_byte byte (node.Connective c), after))
inside_by (class.Equal s) end formula byte ls = Err (equality_at end ls)
inside_by _ end formula byte ls = closed end (formula ls)

-- The number says how many levels are left.
unfoldable mutual
  pub unary : ℕ → ℕ → Ahead → Read Tree
  unary end zero ls = Err (deep_at end ls)
  unary end (suc left) ls = unary_with end (suc left) (unary end left) (body end left) (inside end left) (arguments end left) ls

  -- a body so many levels further in
  pub body : ℕ → ℕ → ℕ → Ahead → Read Tree
  body end zero n ls = Err (deep_at end ls)
  body end (suc left) zero ls = unary_with end (suc left) (unary end left) (body end left) (inside end left) (arguments end left) ls
  body end (suc left) (suc n) ls = body end left n ls

  pub arguments : ℕ → ℕ → List Tree → Ahead → Read (List Tree)
  arguments end zero found ls = arguments_by (class_at ls) (λ found ls. Err (deep_at end ls)) found ls
  arguments end (suc left) found ls = arguments_by (class_at ls) (argument_with end (suc left) (body end left) (inside end left) (arguments end left)) found ls

  pub operands : ℕ → ℕ → Connective → Ahead → Read Tree
  operands end zero c ls = Err (deep_at end ls)
  operands end (suc left) c ls = operands_with c end (unary_with end (suc left) (unary end left) (body end left) (inside end left) (arguments end left)) (operands end left c) ls

  pub formula : ℕ → ℕ → Ahead → Read Tree
  formula end zero ls = Err (deep_at end ls)
  formula end (suc left) ls = formula_with end (unary_with end (suc left) (unary end left) (body end left) (inside end left) (arguments end left)) (λ c ls. operands end left c ls) ls

  pub inside : ℕ → ℕ → ℕ → Ahead → Read Tree
  inside end zero byte ls = Err (deep_at end ls)
  inside end (suc left) byte ls = inside_by (class_at ls) end (formula_with end (unary_with end (suc left) (unary end left) (body end left) (inside end left) (arguments end left)) (λ c ls. operands end left c ls)) byte ls

-- the right side of an equation
abbrev pub side_above : ℕ → ℕ → ℕ → Ahead → Read Tree
side_above end left beyond = side_with (negation_with end (unary end beyond)) (binder_with end left (body end beyond)) (application_with end (inside end beyond) (arguments end beyond))

-- an application, and the equation that it begins
abbrev pub term_above : ℕ → ℕ → ℕ → Ahead → Read Tree
term_above end left beyond ls = and_then (application_with end (inside end beyond) (arguments end beyond) ls) (equation_with end (side_above end left beyond) (byte_of ls))

-- ---- statements

-- an atom with its type
unfoldable pub typed : ℕ → ℕ → Ahead → Read Typed
typed end left ls = and_then (read_said atom_of end ls) (λ atom l1. and_then (read_mark Colon end l1) (λ _ l2.
    and_then (ty end left l2) (λ t after. Ok (record { atom = atom; atom_byte = byte_of ls; ty = t }, after))))

abbrev pub typing_by : Class → ℕ → ℕ → (Ahead → Read Typed) → Ahead → Read Typed
typing_by class.Open end left typing ls = opened end left typing (rest ls)
typing_by _ end left typing ls = typed end (suc left) ls

unfoldable pub typing : ℕ → ℕ → Ahead → Read Typed
typing end zero ls = Err (deep_at end ls)
typing end (suc left) ls = typing_by (class_at ls) end left (typing end left) ls

-- ---- annotations

-- a closing bracket of that shape: what is due becomes of it
abbrev pub closes_by : List Shape → Shape → ℕ → (List Shape → Read (Unit {0})) → Ahead → Read (Unit {0})
closes_by [] Round end next ls = Ok (tt, ls)
closes_by [] s end next ls = Err (syntax_at end ls)
closes_by (due ∷ others) s end next ls = if same_shape s due then next others else Err (syntax_at end ls)

abbrev pub annotated_by : Bracket → ℕ → (List Shape → Read (Unit {0})) → List Shape → Ahead → Read (Unit {0})
annotated_by (bracket.Opens s) end next due ls = next (s ∷ due)
annotated_by (bracket.Closes s) end next due ls = closes_by due s end next ls
annotated_by bracket.Plain end next due ls = next due

-- Tokens up to a bracket that closes none of them. Brackets of these shapes are open.
unfoldable pub annotated : ℕ → List Shape → Ahead → Read (Unit {0})
annotated end due [] = Err (Syntax end)
annotated end due (l ∷ ls) = annotated_by (bracket_of l) end (λ others. annotated end others ls) due (l ∷ ls)

unfoldable pub annotation : ℕ → Ahead → Read (Unit {0})
annotation end ls = if is_closing (bracket_at ls) then Err (syntax_at end ls) else annotated end [] ls

-- annotations, where there are some
unfoldable pub annotations : ℕ → Ahead → Read (Unit {0})
annotations end ls = if sees Comma ls then annotation end (rest ls) else Ok (tt, ls)

-- what a step through annotations comes to: more of them, their end, or a refusal
abbrev pub Steps : ℕ → List Shape → Ahead → Result Bool ReadRefusal → List Shape → Ahead → Type 0
Steps end due ls (Ok true) others after = annotated end due ls ≡ annotated end others after
Steps end due ls (Ok false) others after = annotated end due ls ≡ Ok (tt, after)
Steps end due ls (Err e) others after = e ≢ Memory → annotated end due ls ≡ Err e

unfoldable pub ended : ℕ → Ahead → Read (Unit {0})
ended end ls = and_then (read_mark CloseRound end ls) (λ _ l1. read_mark Dot end l1)

unfoldable pub ending : ℕ → Ahead → Read (Unit {0})
ending end ls = and_then (annotations end ls) (λ _ l1. ended end l1)

abbrev pub max_levels : ℕ
max_levels = 501

unfoldable pub typing_statement : ℕ → ℕ → List ℕ → Ahead → Read Statement
typing_statement end byte name ls = and_then (typing end max_levels ls) (λ t l1. and_then (ending end l1) (λ _ after. Ok (Typing byte name t.atom t.atom_byte t.ty, after)))

unfoldable pub formula_statement : ℕ → ℕ → List ℕ → List ℕ → ℕ → Ahead → Read Statement
formula_statement end byte name role role_byte ls = and_then (formula end max_levels ls) (λ tree l1. and_then (ending end l1) (λ _ after. Ok (Formula byte name role role_byte tree, after)))

-- a body, and what stands behind it
unfoldable pub stated : ℕ → ℕ → List ℕ → List ℕ → ℕ → Ahead → Read Statement
stated end byte name role role_byte ls =
    if bytes_eq role (codes "type") then typing_statement end byte name ls else formula_statement end byte name role role_byte ls

unfoldable pub headed : ℕ → ℕ → Ahead → Read Statement
headed end byte ls =
    and_then (read_mark OpenRound end ls) (λ _ l1. and_then (read_guard guard.BehindBracket end l1) (λ _ _. and_then (read_said name_of end l1) (λ name l2.
    and_then (read_mark Comma end l2) (λ _ l3. and_then (read_said lower_of end l3) (λ role l4. and_then (read_mark Comma end l4) (λ _ l5.
    stated end byte name role (byte_of l3) l5))))))

-- ---- includes

-- names, with commas between
unfoldable mutual
  pub names : ℕ → Ahead → Read (List (List ℕ))
  names end [] = Err (Syntax end)
  names end (l ∷ ls) = and_then (read_said name_of end (l ∷ ls)) (λ name _. and_then (further_names end ls) (λ others after. Ok (name ∷ others, after)))

  pub further_names : ℕ → Ahead → Read (List (List ℕ))
  further_names end [] = Ok ([], [])
  further_names end (l ∷ ls) = if is_mark Comma l then names end ls else Ok ([], l ∷ ls)

-- a name, and those that `again` reads behind a comma
abbrev pub names_with : ℕ → (Ahead → Read (List (List ℕ))) → Ahead → Read (List (List ℕ))
names_with end again ls = and_then (read_said name_of end ls) (λ name l1. if sees Comma l1 then and_then (again (rest l1)) (λ others after. Ok (name ∷ others, after)) else Ok (name ∷ [], l1))

unfoldable pub selected : ℕ → Ahead → Read (List (List ℕ))
selected end ls = if sees CloseSquare ls then Ok ([], rest ls) else and_then (names end ls) (λ found l1. and_then (read_mark CloseSquare end l1) (λ _ after. Ok (found, after)))

unfoldable pub selection : ℕ → Ahead → Read (Option (List (List ℕ)))
selection end ls = if sees Comma ls then and_then (read_mark OpenSquare end (rest ls)) (λ _ l1. and_then (selected end l1) (λ found after. Ok (Some found, after))) else Ok (None, ls)

-- what stands behind the word `include` of a statement that begins at that byte
unfoldable pub included : ℕ → ℕ → Ahead → Read Statement
included end byte ls =
    and_then (read_mark OpenRound end ls) (λ _ l1. and_then (read_guard guard.BehindBracket end l1) (λ _ _. and_then (read_said quoted_of end l1) (λ file l2.
    and_then (selection end l2) (λ names l3. and_then (ended end l3) (λ _ after. Ok (Include byte file (byte_of l1) names, after))))))

abbrev pub statement_by : Keyword → ℕ → Ahead → Read Statement
statement_by keyword.Include end ls = included end (byte_of ls) (rest ls)
statement_by keyword.Thf end ls = headed end (byte_of ls) (rest ls)
statement_by _ end ls = Err (refusal_at wanted.Statement end ls)

unfoldable pub statement : ℕ → Ahead → Read Statement
statement end ls = statement_by (keyword_at ls) end ls

-- ---- what a function that reads ensures: what the reader of that name gives, unless memory fails

abbrev pub Gives : {A : Type 0} → Read A → Result A ReadRefusal → Ahead → Type 0
Gives read (Ok a) after = read ≡ Ok (a, after)
Gives read (Err e) after = e ≢ Memory → read ≡ Err e
