-- What a token is to the grammar, and which unsupported form a token belongs to where it is refused.
use Rattle.std.specs.Prelude.{ℕ, Bool, true, false, List, codes, Option, Some, None, if◌then◌else◌, ◌||◌}
use Rattle.std.specs.Str.{bytes_eq}
use Rattle.leo_lex.specs.declared.mark.Mark.{Mark}
use Rattle.leo_lex.specs.declared.mark.Mark.TheVariants as mark
use Rattle.leo_lex.specs.declared.token.Kind.{Kind}
use Rattle.leo_lex.specs.declared.token.Kind.TheVariants as kind
use Rattle.leo_syntax.specs.declared.classes.Class.{Class}
use Rattle.leo_syntax.specs.declared.classes.Class.TheVariants.{Atom, Variable, Symbol, Individual, Truth, TypeOfTypes, Not, Bind, Join, Equal, Apply, Open, Close, Arrow, Star, Other}
use Rattle.leo_syntax.specs.declared.classes.Symbol.TheVariants as symbol
use Rattle.leo_syntax.specs.declared.classes.Keyword.{Keyword}
use Rattle.leo_syntax.specs.declared.classes.Keyword.TheVariants as keyword
use Rattle.leo_syntax.specs.declared.classes.Wanted.{Wanted}
use Rattle.leo_syntax.specs.declared.classes.Wanted.TheVariants as wanted
use Rattle.leo_syntax.specs.declared.classes.Guard.{Guard}
use Rattle.leo_syntax.specs.declared.classes.Guard.TheVariants as guard
use Rattle.leo_syntax.specs.declared.classes.Shape.{Shape}
use Rattle.leo_syntax.specs.declared.classes.Shape.TheVariants as shape
use Rattle.leo_syntax.specs.declared.classes.Bracket.{Bracket}
use Rattle.leo_syntax.specs.declared.classes.Bracket.TheVariants as bracket
use Rattle.leo_syntax.specs.declared.tree.Binder.TheVariants as binder
use Rattle.leo_syntax.specs.declared.tree.Connective.TheVariants as connective
use Rattle.leo_syntax.specs.declared.tree.Sign.TheVariants as sign
use Rattle.leo_syntax.specs.declared.refusal.Form.{Form}
use Rattle.leo_syntax.specs.declared.refusal.Form.TheVariants as form

unfoldable pub mark_class : Mark → Class
mark_class mark.Not = Not
mark_class mark.ForAll = Bind binder.ForAll
mark_class mark.Exists = Bind binder.Exists
mark_class mark.Lambda = Bind binder.Lambda
mark_class mark.Choice = Bind binder.Choice
mark_class mark.Or = Join connective.Or
mark_class mark.And = Join connective.And
mark_class mark.Implies = Join connective.Implies
mark_class mark.ImpliedBy = Join connective.ImpliedBy
mark_class mark.Iff = Join connective.Iff
mark_class mark.Xor = Join connective.Xor
mark_class mark.Nor = Join connective.Nor
mark_class mark.Nand = Join connective.Nand
mark_class mark.Equal = Equal sign.Equal
mark_class mark.NotEqual = Equal sign.NotEqual
mark_class mark.Pi = Symbol symbol.Pi
mark_class mark.Sigma = Symbol symbol.Sigma
mark_class mark.ChoiceOf = Symbol symbol.Choice
mark_class mark.At = Apply
mark_class mark.OpenRound = Open
mark_class mark.CloseRound = Close
mark_class mark.Greater = Arrow
mark_class mark.Star = Star
mark_class _ = Other

unfoldable pub dollar_class : List ℕ → Class
dollar_class text =
    if bytes_eq text (codes "$true") then Symbol symbol.True
    else (if bytes_eq text (codes "$false") then Symbol symbol.False
    else (if bytes_eq text (codes "$i") || bytes_eq text (codes "$iType") then Individual
    else (if bytes_eq text (codes "$o") || bytes_eq text (codes "$oType") then Truth
    else (if bytes_eq text (codes "$tType") then TypeOfTypes else Other))))

unfoldable pub class_by : Kind → List ℕ → Class
class_by kind.Lower text = Atom
class_by kind.Quoted text = Atom
class_by kind.Upper text = Variable
class_by kind.Dollar text = dollar_class text
class_by (kind.Mark m) text = mark_class m
class_by _ text = Other

unfoldable pub word_keyword : List ℕ → Keyword
word_keyword text =
    if bytes_eq text (codes "thf") then keyword.Thf
    else (if bytes_eq text (codes "include") then keyword.Include else keyword.Other)

unfoldable pub keyword_by : Kind → List ℕ → Keyword
keyword_by kind.Lower text = word_keyword text
keyword_by _ text = keyword.Other

-- ---- brackets

unfoldable pub mark_bracket : Mark → Bracket
mark_bracket mark.OpenRound = bracket.Opens shape.Round
mark_bracket mark.OpenSquare = bracket.Opens shape.Square
mark_bracket mark.OpenCurly = bracket.Opens shape.Curly
mark_bracket mark.CloseRound = bracket.Closes shape.Round
mark_bracket mark.CloseSquare = bracket.Closes shape.Square
mark_bracket mark.CloseCurly = bracket.Closes shape.Curly
mark_bracket _ = bracket.Plain

unfoldable pub bracket_by : Kind → Bracket
bracket_by (kind.Mark m) = mark_bracket m
bracket_by _ = bracket.Plain

unfoldable pub same_shape : Shape → Shape → Bool
same_shape shape.Round shape.Round = true
same_shape shape.Square shape.Square = true
same_shape shape.Curly shape.Curly = true
same_shape _ _ = false

-- ---- unsupported forms

unfoldable pub mark_form : Mark → Option Form
mark_form mark.TypeForAll = Some form.Polymorphism
mark_form mark.Description = Some form.Description
mark_form mark.DescriptionOf = Some form.Description
mark_form mark.Subtype = Some form.Subtype
mark_form mark.EqualityOf = Some form.Equality
mark_form mark.OpenCurly = Some form.Mark
mark_form mark.CloseCurly = Some form.Mark
mark_form mark.TypeExists = Some form.Mark
mark_form mark.Identical = Some form.Mark
mark_form mark.LongArrow = Some form.Mark
mark_form mark.Assign = Some form.Mark
mark_form mark.Plus = Some form.Mark
mark_form mark.Minus = Some form.Mark
mark_form mark.Less = Some form.Mark
mark_form mark.Star = Some form.Mark
mark_form _ = None

unfoldable pub is_known_word : List ℕ → Bool
is_known_word text =
    bytes_eq text (codes "$true") || (bytes_eq text (codes "$false") || (bytes_eq text (codes "$i")
    || (bytes_eq text (codes "$iType") || (bytes_eq text (codes "$o") || bytes_eq text (codes "$oType")))))

unfoldable pub dollar_form : List ℕ → Option Form
dollar_form text =
    if is_known_word text then None
    else (if bytes_eq text (codes "$tType") then Some form.TypeArguments
    else (if bytes_eq text (codes "$let") || bytes_eq text (codes "$ite") then Some form.Let else Some form.Word))

-- a token for which the grammar has no place
unfoldable pub stray_form : Kind → List ℕ → Option Form
stray_form kind.Dollar text = dollar_form text
stray_form kind.System text = Some form.System
stray_form (kind.Mark m) text = mark_form m
stray_form _ text = None

unfoldable pub item_form : Kind → List ℕ → Option Form
item_form kind.Number text = Some form.Number
item_form kind.Distinct text = Some form.Distinct
item_form (kind.Mark mark.OpenSquare) text = Some form.Tuple
item_form k text = stray_form k text

unfoldable pub type_form : Kind → List ℕ → Option Form
type_form kind.Number text = Some form.Number
type_form kind.Distinct text = Some form.Distinct
type_form (kind.Mark mark.Star) text = Some form.Product
type_form k text = stray_form k text

unfoldable pub is_dialect : List ℕ → Bool
is_dialect text =
    bytes_eq text (codes "fof") || (bytes_eq text (codes "cnf") || (bytes_eq text (codes "tff") || (bytes_eq text (codes "tcf") || bytes_eq text (codes "tpi"))))

unfoldable pub statement_form : Kind → List ℕ → Option Form
statement_form kind.Lower text = if is_dialect text then Some form.Dialect else None
statement_form k text = stray_form k text

-- the form that a token belongs to where something else is looked for
unfoldable pub form_by : Wanted → Kind → List ℕ → Option Form
form_by wanted.Item k text = item_form k text
form_by wanted.OperandType k text = type_form k text
form_by wanted.Statement k text = statement_form k text
form_by wanted.Other k text = stray_form k text

-- the form that a token belongs to where it must not stand
unfoldable pub guard_form : Guard → Class → Option Form
guard_form guard.BehindBracket (Equal s) = Some form.Equality
guard_form guard.BehindAtom Open = Some form.Arguments
guard_form guard.BehindType Open = Some form.TypeArguments
guard_form guard.BehindType Apply = Some form.TypeArguments
guard_form guard.BehindType Star = Some form.Product
guard_form _ _ = None
