-- Reading statements does what the table says.
use Rattle.std.proofs.Common.{◌≡◌, ℕ, zero, suc, ◌+◌, ◌≤◌, Bool, true, false, cond, List, [], ◌∷◌, ◌++◌, refl, ap, ◌∙◌, arith, inl, inr}
use Rattle.std.specs.Prelude.{Ok, Err, Option, Some, None}
use Rattle.leo_lex.specs.declared.mark.Mark.TheVariants.{OpenRound, CloseRound, OpenSquare, CloseSquare, Comma, Dot, Colon}
use Rattle.leo_lex.specs.declared.token.Kind.{Kind}
use Rattle.leo_lex.specs.declared.token.Kind.TheVariants as kind
use Rattle.leo_syntax.specs.declared.classes.Class.{Class}
use Rattle.leo_syntax.specs.declared.classes.Class.TheVariants as class
use Rattle.leo_syntax.specs.declared.classes.Says.TheVariants as says
use Rattle.leo_syntax.specs.declared.classes.Keyword.{Keyword}
use Rattle.leo_syntax.specs.declared.classes.Keyword.TheVariants as keyword
use Rattle.leo_syntax.specs.declared.classes.Wanted.TheVariants as wanted
use Rattle.leo_syntax.specs.declared.classes.Shape.{Shape}
use Rattle.leo_syntax.specs.declared.classes.Shape.TheVariants as shape
use Rattle.leo_syntax.specs.declared.classes.Bracket.{Bracket}
use Rattle.leo_syntax.specs.declared.classes.Bracket.TheVariants as bracket
use Rattle.leo_syntax.specs.declared.classes.Guard.TheVariants as guard
use Rattle.leo_syntax.specs.declared.tree.Statement.{Statement}
use Rattle.leo_syntax.specs.Classes.{class_by, same_shape}
use Rattle.leo_syntax.specs.Lexemes.{Lexeme, Ahead, is_mark, class_of, keyword_of, bracket_of, said_by, name_of, lower_of, quoted_of, refusal}
use Rattle.leo_syntax.specs.Rules as rules
use Rattle.leo_syntax.specs.Rules.{Part, statement, mark, reaches, guarding, name, role, typing, operand_type, arrows, unary, side, argument, inside, negated, arguments, equals, operators, operands, variable, variables, ending, annotation, annotated, file, selection, selected, names, Move, take, skip, refuse, rule, within_levels, typed, begin_unary, moved, step, after_step, Outcome, refused, outcome}
use Rattle.leo_syntax.specs.Reading as read
use Rattle.leo_syntax.specs.Reading.{Read, and_then, read_mark, read_said, read_guard, rest}
use Rattle.leo_syntax.specs.Grammar.{sees, class_at, bracket_at, is_closing, byte_of, is_type_role}
use Rattle.leo_syntax.proofs.Sound.{or_false}
use Rattle.leo_syntax.proofs.Table.{ends, compose, keep, mark_table, after_move, said_after, name_table, guard_table, close_table, within, outside, atom_said, reached, type_table, formula_table}

-- ---- typings

abbrev is_atom : Class → Bool
is_atom class.Atom = true
is_atom _ = false

atom_unsaid : (k : Kind) (text : List ℕ) → is_atom (class_by k text) ≡ false → said_by says.Atom k text ≡ None
unfolding class_by said_by
atom_unsaid kind.Lower text e = absurd cc
atom_unsaid kind.Quoted text e = absurd cc
atom_unsaid _ text e = refl

abbrev TypingLaw : ℕ → ℕ → Type 0
TypingLaw end left = (level : ℕ) → level + left ≡ 501 → (ls : Ahead) (parts : List Part) → outcome end ls (typing level ∷ parts) ≡ ends end (read.typing end left ls) parts

deep_typing : (end level : ℕ) → 501 ≤ level → (ls : Ahead) (parts : List Part) → outcome end ls (typing level ∷ parts) ≡ refused (read.deep_at end ls)
unfolding outcome rule read.deep_at
deep_typing end level h [] parts = refl
deep_typing end level h (l ∷ ls) parts = rw (outside level l _ h) refl

opened_typing_zero : (end level : ℕ) → level + 0 ≡ 501 → (ls : Ahead) (parts : List Part) → outcome end ls (reaches level ∷ guarding guard.BehindBracket ∷ typing level ∷ mark CloseRound ∷ parts) ≡ ends end (read.opened end 0 (read.typing end 0) ls) parts
unfolding outcome rule read.deep_at
opened_typing_zero end level h [] parts = refl
opened_typing_zero end level h (l ∷ ls) parts = rw (outside level l _ (omega (arith, h))) refl

opened_typing : (end left : ℕ) → TypingLaw end left → (level : ℕ) → level + left ≡ 501 → (ls : Ahead) (parts : List Part) → outcome end ls (reaches level ∷ guarding guard.BehindBracket ∷ typing level ∷ mark CloseRound ∷ parts) ≡ ends end (read.opened end left (read.typing end left) ls) parts
opened_typing end zero law level h ls parts = opened_typing_zero end level h ls parts
opened_typing end (suc left) law level h ls parts =
    reached end level left h ls (guarding guard.BehindBracket ∷ typing level ∷ mark CloseRound ∷ parts)
    ∙ guard_table guard.BehindBracket end ls (read.closed end (read.typing end (suc left) ls)) (typing level ∷ mark CloseRound ∷ parts) parts
    (law level h ls (mark CloseRound ∷ parts) ∙ close_table end (read.typing end (suc left) ls) parts)

typed_by : (end left level : ℕ) → level + left ≡ 501 → (l : Lexeme) (ls : Ahead) (parts : List Part) → class_of l ≡ class.Atom → outcome end ls (mark Colon ∷ typed level parts) ≡ ends end (read.typed end left (l ∷ ls)) parts
unfolding read.typed read.said_at rest
typed_by end left level h l ls parts e =
    let a = atom_said l.kind l.text e in
    rw a.1 (mark_table Colon end ls (typed level parts)
    ∙ compose end (read_mark Colon end ls) _ (typed level parts) parts (λ _ l2. type_table end left level h l2 parts ∙ keep end (read.ty end left l2) _ parts))

no_atom : (end left : ℕ) (l : Lexeme) (ls : Ahead) → is_atom (class_of l) ≡ false → read.typed end left (l ∷ ls) ≡ Err (refusal wanted.Other l)
unfolding read.typed read.said_at read.refusal_at
no_atom end left l ls e = rw (atom_unsaid l.kind l.text e) refl

module _ (end left : ℕ) (law : TypingLaw end left) where
  typing_by : (level : ℕ) → level + suc left ≡ 501 → (l : Lexeme) (ls : Ahead) (parts : List Part) (c : Class) → class_of l ≡ c → after_move end (rules.typing_by c level l) l ls parts ≡ ends end (read.typing_by c end left (read.typing end left) (l ∷ ls)) parts
  unfolding rest
  typing_by level h l ls parts class.Open e = opened_typing end left law (level + 1) (omega (arith, h)) ls parts
  typing_by level h l ls parts class.Atom e = typed_by end (suc left) level h l ls parts e
  typing_by level h l ls parts _ e = let none : is_atom (class_of l) ≡ false = rw e refl in rw (no_atom end (suc left) l ls none) refl

  typing_step : TypingLaw end (suc left)
  unfolding outcome rule read.typing class_at read.typed read.said_at read.refusal_at
  typing_step level h [] parts = refl
  typing_step level h (l ∷ ls) parts = rw (within level left l _ h) (typing_by level h l ls parts (class_of l) refl)

typing_zero : (end : ℕ) → TypingLaw end 0
unfolding read.typing
typing_zero end level h ls parts = deep_typing end level (omega (arith, h)) ls parts

pub typing_table : (end left : ℕ) → TypingLaw end left
typing_table end zero = typing_zero end
typing_table end (suc left) = typing_step end left (typing_table end left)

-- ---- annotations

module _ (end : ℕ) (l : Lexeme) (ls : Ahead) (parts : List Part) (known : (due : List Shape) → outcome end ls (annotated due ∷ parts) ≡ ends end (read.annotated end due ls) parts) where
  closes_by : (due : List Shape) (s : Shape) → after_move end (rules.closes_by due s l) l ls parts ≡ ends end (read.closes_by due s end (λ others. read.annotated end others ls) (l ∷ ls)) parts
  unfolding outcome read.syntax_at
  closes_by [] shape.Round = refl
  closes_by [] _ = refl
  closes_by (d ∷ others) s = elim (or_false (same_shape s d)) [ inl t ↦ rw t (known others) | inr f ↦ rw f refl ]

  annotated_by : (due : List Shape) (b : Bracket) → after_move end (rules.annotated_by b due l) l ls parts ≡ ends end (read.annotated_by b end (λ others. read.annotated end others ls) due (l ∷ ls)) parts
  annotated_by due (bracket.Opens s) = known (s ∷ due)
  annotated_by due (bracket.Closes s) = closes_by due s
  annotated_by due bracket.Plain = known due

annotated_table : (end : ℕ) (ls : Ahead) (parts : List Part) (due : List Shape) → outcome end ls (annotated due ∷ parts) ≡ ends end (read.annotated end due ls) parts
unfolding outcome rule read.annotated
annotated_table end [] parts due = refl
annotated_table end (l ∷ ls) parts due = annotated_by end l ls parts (annotated_table end ls parts) due (bracket_of l)

annotation_by : (end : ℕ) (l : Lexeme) (ls : Ahead) (parts : List Part) (b : Bracket) → bracket_of l ≡ b → after_move end (rules.annotation_by b l) l ls parts ≡ ends end (cond (is_closing b) (Err (read.syntax_at end (l ∷ ls))) (read.annotated end [] (l ∷ ls))) parts
unfolding read.annotated read.syntax_at
annotation_by end l ls parts (bracket.Opens s) e = rw e (annotated_table end ls parts (s ∷ []))
annotation_by end l ls parts (bracket.Closes s) e = refl
annotation_by end l ls parts bracket.Plain e = rw e (annotated_table end ls parts [])

annotation_table : (end : ℕ) (ls : Ahead) (parts : List Part) → outcome end ls (annotation ∷ parts) ≡ ends end (read.annotation end ls) parts
unfolding outcome rule read.annotation read.annotated bracket_at
annotation_table end [] parts = refl
annotation_table end (l ∷ ls) parts = annotation_by end l ls parts (bracket_of l) refl

annotations_table : (end : ℕ) (ls : Ahead) (parts : List Part) → outcome end ls (ending ∷ parts) ≡ ends end (read.annotations end ls) parts
unfolding outcome rule read.annotations sees rest
annotations_table end [] parts = refl
annotations_table end (l ∷ ls) parts = elim (or_false (is_mark Comma l)) [ inl t ↦ rw t (annotation_table end ls parts) | inr f ↦ rw f refl ]

ended_table : (end : ℕ) (ls : Ahead) (parts : List Part) → outcome end ls (mark CloseRound ∷ mark Dot ∷ parts) ≡ ends end (read.ended end ls) parts
unfolding read.ended
ended_table end ls parts = mark_table CloseRound end ls (mark Dot ∷ parts) ∙ compose end (read_mark CloseRound end ls) _ (mark Dot ∷ parts) parts (λ _ l1. mark_table Dot end l1 parts)

ending_table : (end : ℕ) (ls : Ahead) (parts : List Part) → outcome end ls (ending ∷ mark CloseRound ∷ mark Dot ∷ parts) ≡ ends end (read.ending end ls) parts
unfolding read.ending
ending_table end ls parts = annotations_table end ls (mark CloseRound ∷ mark Dot ∷ parts) ∙ compose end (read.annotations end ls) _ (mark CloseRound ∷ mark Dot ∷ parts) parts (λ _ l1. ended_table end l1 parts)

-- ---- includes

file_table : (end : ℕ) (ls : Ahead) (parts : List Part) → outcome end ls (file ∷ parts) ≡ ends end (read_said quoted_of end ls) parts
unfolding outcome rule read.said_at read.refusal_at
file_table end [] parts = refl
file_table end (l ∷ ls) parts = said_after end l ls [] parts (quoted_of l)

named_by : (end : ℕ) (l : Lexeme) (ls : Ahead) (parts : List Part) → outcome end ls (names ∷ parts) ≡ ends end (read.further_names end ls) (mark CloseSquare ∷ parts) → (o : Option (List ℕ))
    → after_move end (rules.if_some o [] (refuse (refusal wanted.Other l))) l ls (names ∷ parts) ≡ ends end (and_then (read.found o end (l ∷ ls)) (λ label _. and_then (read.further_names end ls) (λ others after. Ok (label ∷ others, after)))) (mark CloseSquare ∷ parts)
unfolding rest read.refusal_at
named_by end l ls parts known (Some label) = known ∙ keep end (read.further_names end ls) _ (mark CloseSquare ∷ parts)
named_by end l ls parts known None = refl

further_by : (end : ℕ) (m : Lexeme) (ms : Ahead) (parts : List Part) → outcome end ms (name ∷ names ∷ parts) ≡ ends end (read.names end ms) (mark CloseSquare ∷ parts) → (t : Bool) → is_mark Comma m ≡ t
    → outcome end (m ∷ ms) (names ∷ parts) ≡ ends end (cond t (read.names end ms) (Ok ([], m ∷ ms))) (mark CloseSquare ∷ parts)
unfolding outcome rule
further_by end m ms parts known true e = rw e known
further_by end m ms parts known false e = rw e refl

mutual
  unfolding outcome rule read.names read.said_at read.refusal_at

  names_table : (end : ℕ) (ls : Ahead) (parts : List Part) → outcome end ls (name ∷ names ∷ parts) ≡ ends end (read.names end ls) (mark CloseSquare ∷ parts)
  names_table end [] parts = refl
  names_table end (l ∷ ls) parts = named_by end l ls parts (more_names_table end ls parts) (name_of l)

  more_names_table : (end : ℕ) (ls : Ahead) (parts : List Part) → outcome end ls (names ∷ parts) ≡ ends end (read.further_names end ls) (mark CloseSquare ∷ parts)
  more_names_table end [] parts = refl
  more_names_table end (m ∷ ms) parts = further_by end m ms parts (names_table end ms parts) (is_mark Comma m) refl

some_selected : (end : ℕ) (ls : Ahead) (parts : List Part) → outcome end ls (name ∷ names ∷ parts) ≡ ends end (and_then (read.names end ls) (λ found l1. and_then (read_mark CloseSquare end l1) (λ _ after. Ok (found, after)))) parts
some_selected end ls parts = names_table end ls parts ∙ compose end (read.names end ls) _ (mark CloseSquare ∷ parts) parts (λ found l1. mark_table CloseSquare end l1 parts ∙ keep end (read_mark CloseSquare end l1) _ parts)

selected_moved : (o : Option (List ℕ)) (l : Lexeme) (parts : List Part) (x y : rules.Step) → moved (rules.if_some o (names ∷ []) (refuse (refusal wanted.Other l))) parts x ≡ moved (rules.if_some o [] (refuse (refusal wanted.Other l))) (names ∷ parts) y
selected_moved (Some label) l parts x y = refl
selected_moved None l parts x y = refl

-- a name behind the opening bracket
first_name : (end : ℕ) (l : Lexeme) (ls : Ahead) (parts : List Part) → after_move end (rules.if_some (name_of l) (names ∷ []) (refuse (refusal wanted.Other l))) l ls parts ≡ outcome end (l ∷ ls) (name ∷ names ∷ parts)
unfolding outcome rule
first_name end l ls parts = ap (λ s. after_step s (outcome end ls)) (selected_moved (name_of l) l parts _ _)

selected_table : (end : ℕ) (ls : Ahead) (parts : List Part) → outcome end ls (selected ∷ parts) ≡ ends end (read.selected end ls) parts
unfolding outcome rule read.selected sees rest read.names
selected_table end [] parts = refl
selected_table end (l ∷ ls) parts = elim (or_false (is_mark CloseSquare l)) [
  | inl t ↦ rw t refl
  | inr f ↦ rw f (first_name end l ls parts ∙ some_selected end (l ∷ ls) parts)
]

selection_table : (end : ℕ) (ls : Ahead) (parts : List Part) → outcome end ls (selection ∷ parts) ≡ ends end (read.selection end ls) parts
unfolding outcome rule read.selection sees rest
selection_table end [] parts = refl
selection_table end (l ∷ ls) parts = elim (or_false (is_mark Comma l)) [
  | inl t ↦ rw t (mark_table OpenSquare end ls (selected ∷ parts) ∙ compose end (read_mark OpenSquare end ls) _ (selected ∷ parts) parts (λ _ l1. selected_table end l1 parts ∙ keep end (read.selected end l1) _ parts))
  | inr f ↦ rw f refl
]

included_table : (end byte : ℕ) (ls : Ahead) (parts : List Part) → outcome end ls (mark OpenRound ∷ guarding guard.BehindBracket ∷ file ∷ selection ∷ mark CloseRound ∷ mark Dot ∷ parts) ≡ ends end (read.included end byte ls) parts
unfolding read.included
included_table end byte ls parts =
    mark_table OpenRound end ls (guarding guard.BehindBracket ∷ file ∷ selection ∷ mark CloseRound ∷ mark Dot ∷ parts)
    ∙ compose end (read_mark OpenRound end ls) _ (guarding guard.BehindBracket ∷ file ∷ selection ∷ mark CloseRound ∷ mark Dot ∷ parts) parts (λ _ l1.
    guard_table guard.BehindBracket end l1 _ (file ∷ selection ∷ mark CloseRound ∷ mark Dot ∷ parts) parts (file_table end l1 (selection ∷ mark CloseRound ∷ mark Dot ∷ parts)
    ∙ compose end (read_said quoted_of end l1) _ (selection ∷ mark CloseRound ∷ mark Dot ∷ parts) parts (λ found l2. selection_table end l2 (mark CloseRound ∷ mark Dot ∷ parts)
    ∙ compose end (read.selection end l2) _ (mark CloseRound ∷ mark Dot ∷ parts) parts (λ labels l3. ended_table end l3 parts ∙ keep end (read.ended end l3) _ parts))))

-- ---- statements

body_table : (end byte : ℕ) (label word : List ℕ) (word_byte : ℕ) (ls : Ahead) (parts : List Part) → outcome end ls (rules.body_of word ++ parts) ≡ ends end (read.stated end byte label word word_byte ls) parts
unfolding read.stated read.typing_statement read.formula_statement
body_table end byte label word word_byte ls parts = elim (or_false (is_type_role word)) [
  | inl t ↦ rw t (typing_table end 501 0 refl ls (ending ∷ mark CloseRound ∷ mark Dot ∷ parts)
      ∙ compose end (read.typing end 501 ls) _ (ending ∷ mark CloseRound ∷ mark Dot ∷ parts) parts (λ found l1. ending_table end l1 parts ∙ keep end (read.ending end l1) _ parts))
  | inr f ↦ rw f (formula_table end ls (ending ∷ mark CloseRound ∷ mark Dot ∷ parts)
      ∙ compose end (read.formula end 501 ls) _ (ending ∷ mark CloseRound ∷ mark Dot ∷ parts) parts (λ tree l1. ending_table end l1 parts ∙ keep end (read.ending end l1) _ parts))
]

role_by : (end : ℕ) (l : Lexeme) (ls : Ahead) (parts : List Part) (f : List ℕ → Ahead → Read Statement) → ((word : List ℕ) (ls : Ahead) → outcome end ls (mark Comma ∷ (rules.body_of word ++ parts)) ≡ ends end (f word ls) parts)
    → (o : Option (List ℕ)) → after_move end (rules.role_by o l) l ls parts ≡ ends end (and_then (read.found o end (l ∷ ls)) f) parts
unfolding rest read.refusal_at
role_by end l ls parts f h (Some word) = h word ls
role_by end l ls parts f h None = refl

role_table : (end : ℕ) (ls : Ahead) (parts : List Part) (f : List ℕ → Ahead → Read Statement) → ((word : List ℕ) (ls : Ahead) → outcome end ls (mark Comma ∷ (rules.body_of word ++ parts)) ≡ ends end (f word ls) parts)
    → outcome end ls (role ∷ parts) ≡ ends end (and_then (read_said lower_of end ls) f) parts
unfolding outcome rule read.said_at read.refusal_at
role_table end [] parts f h = refl
role_table end (l ∷ ls) parts f h = role_by end l ls parts f h (lower_of l)

headed_table : (end byte : ℕ) (ls : Ahead) (parts : List Part) → outcome end ls (mark OpenRound ∷ guarding guard.BehindBracket ∷ name ∷ mark Comma ∷ role ∷ parts) ≡ ends end (read.headed end byte ls) parts
unfolding read.headed
headed_table end byte ls parts =
    mark_table OpenRound end ls (guarding guard.BehindBracket ∷ name ∷ mark Comma ∷ role ∷ parts)
    ∙ compose end (read_mark OpenRound end ls) _ (guarding guard.BehindBracket ∷ name ∷ mark Comma ∷ role ∷ parts) parts (λ _ l1.
    guard_table guard.BehindBracket end l1 _ (name ∷ mark Comma ∷ role ∷ parts) parts (name_table end l1 (mark Comma ∷ role ∷ parts)
    ∙ compose end (read_said name_of end l1) _ (mark Comma ∷ role ∷ parts) parts (λ found l2. mark_table Comma end l2 (role ∷ parts)
    ∙ compose end (read_mark Comma end l2) _ (role ∷ parts) parts (λ _ l3. role_table end l3 parts _ (λ word l4. mark_table Comma end l4 (rules.body_of word ++ parts)
    ∙ compose end (read_mark Comma end l4) _ (rules.body_of word ++ parts) parts (λ _ l5. body_table end byte found word (byte_of l3) l5 parts))))))

statement_by : (end : ℕ) (l : Lexeme) (ls : Ahead) (parts : List Part) (k : Keyword) → after_move end (rules.statement_by k l) l ls parts ≡ ends end (read.statement_by k end (l ∷ ls)) (statement ∷ parts)
unfolding rest read.refusal_at
statement_by end l ls parts keyword.Thf = headed_table end (byte_of (l ∷ ls)) ls (statement ∷ parts)
statement_by end l ls parts keyword.Include = included_table end (byte_of (l ∷ ls)) ls (statement ∷ parts)
statement_by end l ls parts keyword.Other = refl

-- a statement, where something is left
pub statement_table : (end : ℕ) (l : Lexeme) (ls : Ahead) → outcome end (l ∷ ls) (statement ∷ []) ≡ ends end (read.statement end (l ∷ ls)) (statement ∷ [])
unfolding outcome rule read.statement read.keyword_at
statement_table end l ls = statement_by end l ls [] (keyword_of l)
