-- What the grammar sees of a text: for each token its kind, its bytes and the place where it begins.
use Rattle.std.specs.Prelude.{ℕ, ◌-◌, Bool, true, false, List, [], ◌∷◌, take, drop, length, map, Option, Some, None, if◌then◌else◌, ◌==◌}
use Rattle.std.specs.List.{list_all}
use denote.Enum.Bare.{sameb}
use Rattle.leo_lex.specs.Bytes.{is_digit, backslash}
use Rattle.leo_lex.specs.contracts.mark.Mark.{the_type}
use Rattle.leo_lex.specs.declared.mark.Mark.{Mark}
use Rattle.leo_lex.specs.declared.token.Token.{Token}
use Rattle.leo_lex.specs.declared.token.Kind.{Kind}
use Rattle.leo_lex.specs.declared.token.Kind.TheVariants as kind
use Rattle.leo_syntax.specs.declared.classes.Class.{Class}
use Rattle.leo_syntax.specs.declared.classes.Keyword.{Keyword}
use Rattle.leo_syntax.specs.declared.classes.Wanted.{Wanted}
use Rattle.leo_syntax.specs.declared.classes.Guard.{Guard}
use Rattle.leo_syntax.specs.declared.classes.Bracket.{Bracket}
use Rattle.leo_syntax.specs.declared.classes.Says.{Says}
use Rattle.leo_syntax.specs.declared.classes.Says.TheVariants as says
use Rattle.leo_syntax.specs.declared.refusal.Form.{Form}
use Rattle.leo_syntax.specs.declared.refusal.ReadRefusal.{ReadRefusal}
use Rattle.leo_syntax.specs.declared.refusal.ReadRefusal.TheVariants.{Syntax, Unsupported}
use Rattle.leo_syntax.specs.Classes.{class_by, keyword_by, bracket_by, form_by, guard_form}

pub record Lexeme : Type 0 where
  pub kind : Kind
  pub text : List ℕ
  pub byte : ℕ

-- what is still to be read
abbrev pub Ahead : Type 0
Ahead = List Lexeme

abbrev pub lexeme : List ℕ → Token → Lexeme
lexeme bytes t = record { kind = t.kind; text = take (t.end - t.start) (drop t.start bytes); byte = t.start }

abbrev pub lexemes : List ℕ → List Token → Ahead
lexemes bytes ts = map (lexeme bytes) ts

-- ---- what a token is

-- `==` on marks
unfoldable pub same_mark : Mark → Mark → Bool
same_mark = sameb the_type

unfoldable pub is_mark_kind : Mark → Kind → Bool
is_mark_kind mark (kind.Mark other) = same_mark other mark
is_mark_kind mark _ = false

abbrev pub is_mark : Mark → Lexeme → Bool
is_mark mark l = is_mark_kind mark l.kind

abbrev pub class_of : Lexeme → Class
class_of l = class_by l.kind l.text

abbrev pub keyword_of : Lexeme → Keyword
keyword_of l = keyword_by l.kind l.text

abbrev pub bracket_of : Lexeme → Bracket
bracket_of l = bracket_by l.kind

-- ---- what a token says

-- the characters that a text stands for in which `\` may stand before a quote or another `\`;
-- the first argument says whether a `\` has just been passed
abbrev pub unescaped : Bool → List ℕ → List ℕ
unescaped escaping [] = []
unescaped true (b ∷ bs) = b ∷ unescaped false bs
unescaped false (b ∷ bs) = if b == backslash then unescaped true bs else b ∷ unescaped false bs

-- a text without its first and its last byte
abbrev pub inner : List ℕ → List ℕ
inner text = take (length text - 2) (drop 1 text)

-- what stands between the quotes
unfoldable pub content : List ℕ → List ℕ
content text = unescaped false (inner text)

unfoldable pub are_digits : List ℕ → Bool
are_digits text = list_all is_digit text

-- what a token says to one who looks for such a token
unfoldable pub said_by : Says → Kind → List ℕ → Option (List ℕ)
said_by says.Lower kind.Lower text = Some text
said_by says.Upper kind.Upper text = Some text
said_by says.Quoted kind.Quoted text = Some (content text)
said_by says.Atom kind.Lower text = Some text
said_by says.Atom kind.Quoted text = Some (content text)
said_by says.Name kind.Lower text = Some text
said_by says.Name kind.Quoted text = Some (content text)
said_by says.Name kind.Number text = if are_digits text then Some text else None
said_by _ _ text = None

abbrev pub said : Says → Lexeme → Option (List ℕ)
said s l = said_by s l.kind l.text

abbrev pub lower_of : Lexeme → Option (List ℕ)
lower_of = said says.Lower

abbrev pub upper_of : Lexeme → Option (List ℕ)
upper_of = said says.Upper

abbrev pub quoted_of : Lexeme → Option (List ℕ)
quoted_of = said says.Quoted

-- a lower, or what a quoted token says
abbrev pub atom_of : Lexeme → Option (List ℕ)
atom_of = said says.Atom

-- an atom, or digits
abbrev pub name_of : Lexeme → Option (List ℕ)
name_of = said says.Name

-- ---- why a token is refused

abbrev pub refused_as : Option Form → ℕ → ReadRefusal
refused_as (Some form) byte = Unsupported byte form
refused_as None byte = Syntax byte

-- why a token is refused where something else is looked for
unfoldable pub refusal : Wanted → Lexeme → ReadRefusal
refusal wanted l = refused_as (form_by wanted l.kind l.text) l.byte

-- the form that a token belongs to where the guard does not let it pass
abbrev pub guarded : Guard → Lexeme → Option Form
guarded guard l = guard_form guard (class_of l)
