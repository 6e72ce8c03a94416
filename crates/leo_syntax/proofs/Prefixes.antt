-- What is taken can be completed, and what is refused cannot.
use Rattle.std.proofs.Common.{◌≡◌, ℕ, ◌+◌, ◌≤◌, ◌⊎◌, Bool, true, false, cond, List, [], ◌∷◌, ◌++◌, refl, ap, ◌∙◌, subst, arith, inl, inr}
use Rattle.std.specs.Prelude.{nat_le, codes, Option, Some, None}
use Rattle.std.proofs.lemmas.Bool.Decides.{nat_tests}
use Rattle.leo_lex.specs.declared.mark.Mark.{Mark}
use Rattle.leo_lex.specs.declared.mark.Mark.TheVariants.{OpenRound, CloseRound, OpenSquare, CloseSquare, CloseCurly, Comma, Dot, Colon}
use Rattle.leo_lex.specs.declared.token.Kind.TheVariants.{Lower, Upper, Dollar, Quoted, Mark as MarkToken}
use Rattle.leo_syntax.specs.declared.classes.Class.{Class}
use Rattle.leo_syntax.specs.declared.classes.Class.TheVariants as class
use Rattle.leo_syntax.specs.declared.classes.Keyword.{Keyword}
use Rattle.leo_syntax.specs.declared.classes.Keyword.TheVariants as keyword
use Rattle.leo_syntax.specs.declared.classes.Shape.{Shape}
use Rattle.leo_syntax.specs.declared.classes.Shape.TheVariants as shape
use Rattle.leo_syntax.specs.declared.classes.Bracket.{Bracket}
use Rattle.leo_syntax.specs.declared.classes.Bracket.TheVariants as bracket
use Rattle.leo_syntax.specs.declared.classes.Guard.{Guard}
use Rattle.leo_syntax.specs.declared.classes.Guard.TheVariants as guard
use Rattle.leo_syntax.specs.declared.tree.Connective.{Connective}
use Rattle.leo_syntax.specs.declared.tree.Connective.TheVariants.{Or, And}
use Rattle.leo_syntax.specs.declared.refusal.Form.{Form}
use Rattle.leo_syntax.specs.declared.refusal.ReadRefusal.{ReadRefusal}
use Rattle.leo_syntax.specs.declared.refusal.ReadRefusal.TheVariants.{Syntax}
use Rattle.leo_syntax.specs.Classes.{class_by, mark_class, mark_bracket, bracket_by, same_shape, dollar_class, guard_form}
use Rattle.leo_syntax.specs.Lexemes.{Lexeme, Ahead, is_mark, same_mark, is_mark_kind, class_of, keyword_of, bracket_of, said_by, name_of, lower_of, upper_of, quoted_of, guarded}
use Rattle.leo_syntax.specs.Grammar.{is_type_role}
use Rattle.leo_syntax.specs.Rules as rules
use Rattle.leo_syntax.specs.Rules.{Part, statement, mark, reaches, guarding, name, role, typing, operand_type, arrows, unary, side, argument, inside, negated, arguments, equals, operators, operands, variable, variables, ending, annotation, annotated, file, selection, selected, names, Move, take, refuse, rule, within_levels, begin_unary, moved, Step, step, goes_on, stops, after_step, Outcome, accepted, refused, outcome, all_may_end}
use Rattle.leo_syntax.specs.Prefix.{InLevels, then_steps, steps, file_steps, GoesOn, StopsWith}
use Rattle.leo_syntax.proofs.Sound.{or_false}

-- ---- a refused front stays refused

abbrev outcome_from : ℕ → Ahead → Step → Outcome
outcome_from end more (goes_on parts) = outcome end more parts
outcome_from end more (stops e) = refused e

append_by : (end : ℕ) (ls more : Ahead) → ((parts : List Part) → outcome end (ls ++ more) parts ≡ outcome_from end more (steps ls parts)) → (s : Step) → after_step s (outcome end (ls ++ more)) ≡ outcome_from end more (then_steps s (steps ls))
append_by end ls more known (goes_on parts) = known parts
append_by end ls more known (stops e) = refl

pub outcome_append : (end : ℕ) (ls more : Ahead) (parts : List Part) → outcome end (ls ++ more) parts ≡ outcome_from end more (steps ls parts)
unfolding outcome steps
outcome_append end [] more parts = refl
outcome_append end (l ∷ ls) more parts = append_by end ls more (outcome_append end ls more) (step parts l)

steps_append_by : (ls more : Ahead) → ((parts : List Part) → steps (ls ++ more) parts ≡ then_steps (steps ls parts) (steps more)) → (s : Step) → then_steps s (steps (ls ++ more)) ≡ then_steps (then_steps s (steps ls)) (steps more)
steps_append_by ls more known (goes_on parts) = known parts
steps_append_by ls more known (stops e) = refl

steps_append : (ls more : Ahead) (parts : List Part) → steps (ls ++ more) parts ≡ then_steps (steps ls parts) (steps more)
unfolding steps
steps_append [] more parts = refl
steps_append (l ∷ ls) more parts = steps_append_by ls more (steps_append ls more) (step parts l)

steps_one : (l : Lexeme) (ls : Ahead) (parts : List Part) (e : ReadRefusal) → step parts l ≡ stops e → steps (l ∷ ls) parts ≡ stops e
unfolding steps
steps_one l ls parts e h = rw h refl

-- a refused token is refused whatever stands behind it
pub stays_refused : (ls : Ahead) (e : ReadRefusal) (more : Ahead) (end : ℕ) → StopsWith ls e → outcome end (ls ++ more) (statement ∷ []) ≡ refused e
stays_refused ls e more end h =
    let all : file_steps ls ≡ stops e = ap file_steps h.ahead_is ∙ steps_append h.before (h.token ∷ h.after) (statement ∷ []) ∙ ap (λ s. then_steps s (steps (h.token ∷ h.after))) h.taken ∙ steps_one h.token h.after h.parts e h.stops_at in
    outcome_append end ls more (statement ∷ []) ∙ ap (outcome_from end more) all

-- ---- parts that can be completed

-- the marks that are looked for by themselves
abbrev is_closing : Mark → Bool
is_closing CloseRound = true
is_closing OpenSquare = true
is_closing CloseSquare = true
is_closing Comma = true
is_closing Dot = true
is_closing Colon = true
is_closing _ = false

abbrev is_chain : Connective → Bool
is_chain Or = true
is_chain And = true
is_chain _ = false

-- the bracket of a statement stands first among the parts that are looked for
abbrev NotOpening : List Part → Type 0
NotOpening (mark OpenRound ∷ ps) = ⊥
NotOpening _ = Unit {0}

-- what may be missing before a `)`, or goes on up to it, stands before it
abbrev Closing : List Part → Type 0
Closing (mark CloseRound ∷ ps) = Unit {0}
Closing _ = ⊥

abbrev Fine : Part → List Part → Type 0
Fine statement ps = ps ≡ []
Fine (mark OpenRound) ps = Unit {0}
Fine (mark m) ps = is_closing m ≡ true
Fine (operands c level) ps = is_chain c ≡ true
Fine ending ps = Closing ps
Fine annotation ps = Closing ps
Fine (annotated due) ps = Closing ps
Fine selection ps = Closing ps
Fine _ ps = Unit {0}

abbrev AllFine : List Part → Type 0
AllFine [] = Unit {0}
AllFine (p ∷ ps) = Fine p ps × (NotOpening ps × AllFine ps)

abbrev IfGoes : Step → Type 0
IfGoes (goes_on parts) = AllFine parts
IfGoes (stops e) = Unit {0}

-- what a move may leave: fine parts, before what was looked for already
abbrev FineMove : Move → List Part → Type 0
FineMove (take parts) ps = AllFine (parts ++ ps)
FineMove _ ps = Unit {0}

fine_goes : (move : Move) (ps : List Part) (later : Step) → FineMove move ps → IfGoes later → IfGoes (moved move ps later)
fine_goes (take parts) ps later h k = h
fine_goes rules.skip ps later h k = k
fine_goes (refuse e) ps later h k = tt

levels_fine : (level : ℕ) (l : Lexeme) (move : Move) (ps : List Part) → FineMove move ps → FineMove (within_levels level l move) ps
unfolding within_levels
levels_fine level l move ps h = elim (or_false (nat_le level 500)) [ inl t ↦ rw t h | inr f ↦ rw f tt ]

some_fine : {A : Type 0} (o : Option A) (parts : List Part) (other : Move) (ps : List Part) → AllFine (parts ++ ps) → FineMove other ps → FineMove (rules.if_some o parts other) ps
some_fine (Some a) parts other ps h k = h
some_fine None parts other ps h k = k

mark_fine : (m : Mark) (l : Lexeme) (parts : List Part) (other : Move) (ps : List Part) → AllFine (parts ++ ps) → FineMove other ps → FineMove (rules.if_mark m l parts other) ps
mark_fine m l parts other ps h k = elim (or_false (is_mark m l)) [ inl t ↦ rw t h | inr f ↦ rw f k ]

-- each kind of part in turn: its pushes are fine where what comes behind is
abbrev Behind : List Part → Type 0
Behind ps = NotOpening ps × AllFine ps

typed_fine : (level : ℕ) (ps : List Part) → Behind ps → AllFine (rules.typed level ps)
typed_fine level ps h = (tt, (tt, (tt, (tt, (tt, h)))))

bound_fine : (level : ℕ) (ps : List Part) → Behind ps → AllFine (rules.bound level ps)
bound_fine level ps h = (refl, (tt, (tt, (tt, (tt, h)))))

item_fine : (c : Class) (level : ℕ) (behind : List Part) (l : Lexeme) (ps : List Part) → Behind (behind ++ ps) → FineMove (rules.item_by c level behind l) ps
item_fine class.Atom level behind l ps h = (tt, h)
item_fine class.Variable level behind l ps h = h.1
item_fine (class.Symbol s) level behind l ps h = h.1
item_fine class.Open level behind l ps h = (tt, h)
item_fine _ level behind l ps h = tt

begin_fine : (c : Class) (level : ℕ) (behind applied : List Part) (l : Lexeme) (ps : List Part) → Behind (behind ++ ps) → Behind (applied ++ ps) → FineMove (rules.begin_by c level behind applied l) ps
begin_fine class.Not level behind applied l ps h k = (tt, h)
begin_fine (class.Bind b) level behind applied l ps h k = bound_fine level (behind ++ ps) h
begin_fine c level behind applied l ps h k = item_fine c level applied l ps k

unary_fine : (level : ℕ) (behind : List Part) (l : Lexeme) (ps : List Part) → Behind (behind ++ ps) → FineMove (begin_unary level behind l) ps
unfolding begin_unary
unary_fine level behind l ps h = begin_fine (class_of l) level behind (arguments level ∷ equals level ∷ behind) l ps h (tt, (tt, (tt, (tt, h))))

argument_fine : (c : Class) (level : ℕ) (l : Lexeme) (ps : List Part) → Behind ps → FineMove (rules.argument_by c level l) ps
argument_fine (class.Bind b) level l ps h = bound_fine level ps h
argument_fine c level l ps h = item_fine c level (arguments level ∷ []) l ps (tt, (tt, h))

brackets_behind : (level : ℕ) (ps : List Part) → Behind ps → Behind (rules.in_brackets level ++ ps)
brackets_behind level ps h = (tt, (tt, (tt, (refl, h))))

inside_fine : (c : Class) (level : ℕ) (l : Lexeme) (ps : List Part) → Behind ps → FineMove (rules.inside_by c level l) ps
inside_fine class.Not level l ps h = (tt, h)
inside_fine (class.Join c) level l ps h = (refl, h)
inside_fine (class.Equal s) level l ps h = tt
inside_fine _ level l ps h = unary_fine level (rules.in_brackets level) l ps (brackets_behind level ps h)

negated_fine : (c : Class) (level : ℕ) (l : Lexeme) (ps : List Part) → Behind ps → FineMove (rules.negated_by c level l) ps
negated_fine class.Close level l ps h = h.1
negated_fine _ level l ps h = levels_fine (level + 1) l (begin_unary (level + 1) (rules.in_brackets level) l) ps (unary_fine (level + 1) (rules.in_brackets level) l ps (brackets_behind level ps h))

arguments_fine : (c : Class) (level : ℕ) (ps : List Part) → Behind ps → FineMove (rules.arguments_by c level) ps
arguments_fine class.Apply level ps h = (tt, h)
arguments_fine _ level ps h = tt

equals_fine : (c : Class) (level : ℕ) (ps : List Part) → Behind ps → FineMove (rules.equals_by c level) ps
equals_fine (class.Equal s) level ps h = (tt, h)
equals_fine _ level ps h = tt

joined_fine : (c : Connective) (level : ℕ) (ps : List Part) → Behind ps → FineMove (rules.joined_by c level) ps
joined_fine Or level ps h = (tt, (tt, (refl, h)))
joined_fine And level ps h = (tt, (tt, (refl, h)))
joined_fine _ level ps h = (tt, h)

operators_fine : (c : Class) (level : ℕ) (ps : List Part) → Behind ps → FineMove (rules.operators_by c level) ps
operators_fine (class.Join c) level ps h = joined_fine c level ps h
operators_fine _ level ps h = tt

or_fine : (k : Class) (level : ℕ) (ps : List Part) → Behind ps → FineMove (rules.operands_by Or k level) ps
or_fine (class.Join Or) level ps h = (tt, (tt, (refl, h)))
or_fine (class.Join _) level ps h = tt
or_fine _ level ps h = tt

and_fine : (k : Class) (level : ℕ) (ps : List Part) → Behind ps → FineMove (rules.operands_by And k level) ps
and_fine (class.Join And) level ps h = (tt, (tt, (refl, h)))
and_fine (class.Join _) level ps h = tt
and_fine _ level ps h = tt

operands_fine : (c : Connective) (k : Class) (level : ℕ) (ps : List Part) → is_chain c ≡ true → Behind ps → FineMove (rules.operands_by c k level) ps
operands_fine Or k level ps e h = or_fine k level ps h
operands_fine And k level ps e h = and_fine k level ps h
operands_fine _ k level ps e h = absurd cc

type_fine : (c : Class) (level : ℕ) (l : Lexeme) (ps : List Part) → Behind ps → FineMove (rules.type_by c level l) ps
type_fine class.Atom level l ps h = h.1
type_fine class.Individual level l ps h = h.1
type_fine class.Truth level l ps h = h.1
type_fine class.TypeOfTypes level l ps h = h.1
type_fine class.Open level l ps h = (tt, (tt, (tt, (tt, typed_fine (level + 1) (mark CloseRound ∷ ps) (tt, (refl, h))))))
type_fine _ level l ps h = tt

arrows_fine : (c : Class) (level : ℕ) (ps : List Part) → Behind ps → FineMove (rules.arrows_by c level) ps
arrows_fine class.Arrow level ps h = (tt, (tt, (tt, (tt, (tt, h)))))
arrows_fine _ level ps h = tt

typing_fine : (c : Class) (level : ℕ) (l : Lexeme) (ps : List Part) → Behind ps → FineMove (rules.typing_by c level l) ps
typing_fine class.Open level l ps h = (tt, (tt, (tt, (tt, (tt, (tt, (refl, h)))))))
typing_fine class.Atom level l ps h = (refl, (tt, typed_fine level ps h))
typing_fine _ level l ps h = tt

body_fine : (word : List ℕ) (ps : List Part) → Behind ps → AllFine (rules.body_of word ++ ps)
body_fine word ps h = elim (or_false (is_type_role word)) [
  | inl t ↦ rw t (tt, (tt, (tt, (tt, (refl, (tt, (refl, h)))))))
  | inr f ↦ rw f (tt, (tt, (tt, (tt, (tt, (tt, (refl, (tt, (refl, h)))))))))
]

body_opens : (word : List ℕ) (ps : List Part) → NotOpening (rules.body_of word ++ ps)
body_opens word ps = elim (or_false (is_type_role word)) [ inl t ↦ rw t tt | inr f ↦ rw f tt ]

role_fine : (o : Option (List ℕ)) (l : Lexeme) (ps : List Part) → Behind ps → FineMove (rules.role_by o l) ps
role_fine (Some word) l ps h = (refl, (body_opens word ps, body_fine word ps h))
role_fine None l ps h = tt

statement_fine : (k : Keyword) (l : Lexeme) (ps : List Part) → ps ≡ [] → FineMove (rules.statement_by k l) ps
statement_fine keyword.Thf l ps h = (tt, (tt, (tt, (tt, (tt, (tt, (refl, (tt, (tt, (tt, (h, rw h (tt, tt))))))))))))
statement_fine keyword.Include l ps h = (tt, (tt, (tt, (tt, (tt, (tt, (tt, (tt, (refl, (tt, (refl, (tt, (h, rw h (tt, tt))))))))))))))
statement_fine keyword.Other l ps h = tt

annotation_fine : (b : Bracket) (l : Lexeme) (ps : List Part) → Closing ps → Behind ps → FineMove (rules.annotation_by b l) ps
annotation_fine (bracket.Opens s) l ps f h = (f, h)
annotation_fine (bracket.Closes s) l ps f h = tt
annotation_fine bracket.Plain l ps f h = (f, h)

closes_fine : (due : List Shape) (s : Shape) (l : Lexeme) (ps : List Part) → Closing ps → Behind ps → FineMove (rules.closes_by due s l) ps
closes_fine [] shape.Round l ps f h = tt
closes_fine [] _ l ps f h = tt
closes_fine (d ∷ others) s l ps f h = elim (or_false (same_shape s d)) [ inl t ↦ rw t (f, h) | inr g ↦ rw g tt ]

annotated_fine : (b : Bracket) (due : List Shape) (l : Lexeme) (ps : List Part) → Closing ps → Behind ps → FineMove (rules.annotated_by b due l) ps
annotated_fine (bracket.Opens s) due l ps f h = (f, h)
annotated_fine (bracket.Closes s) due l ps f h = closes_fine due s l ps f h
annotated_fine bracket.Plain due l ps f h = (f, h)

guard_fine : (o : Option Form) (l : Lexeme) (ps : List Part) → FineMove (rules.guarding_by o l) ps
guard_fine (Some form) l ps = tt
guard_fine None l ps = tt

rule_fine : (p : Part) (l : Lexeme) (ps : List Part) → Fine p ps → Behind ps → FineMove (rule p l) ps
unfolding rule
rule_fine statement l ps f h = statement_fine (keyword_of l) l ps f
rule_fine (mark m) l ps f h = mark_fine m l [] _ ps h.1 tt
rule_fine (reaches level) l ps f h = levels_fine level l rules.skip ps tt
rule_fine (guarding g) l ps f h = guard_fine (guarded g l) l ps
rule_fine name l ps f h = some_fine (name_of l) [] _ ps h.1 tt
rule_fine role l ps f h = role_fine (lower_of l) l ps h
rule_fine (typing level) l ps f h = levels_fine level l _ ps (typing_fine (class_of l) level l ps h)
rule_fine (operand_type level) l ps f h = levels_fine level l _ ps (type_fine (class_of l) level l ps h)
rule_fine (arrows level) l ps f h = arrows_fine (class_of l) level ps h
rule_fine (unary level) l ps f h = levels_fine level l _ ps (unary_fine level [] l ps h)
rule_fine (side level) l ps f h = levels_fine level l _ ps (begin_fine (class_of l) level [] (arguments level ∷ []) l ps h (tt, (tt, h)))
rule_fine (argument level) l ps f h = levels_fine level l _ ps (argument_fine (class_of l) level l ps h)
rule_fine (inside level) l ps f h = levels_fine level l _ ps (inside_fine (class_of l) level l ps h)
rule_fine (negated level) l ps f h = negated_fine (class_of l) level l ps h
rule_fine (arguments level) l ps f h = arguments_fine (class_of l) level ps h
rule_fine (equals level) l ps f h = equals_fine (class_of l) level ps h
rule_fine (operators level) l ps f h = operators_fine (class_of l) level ps h
rule_fine (operands c level) l ps f h = operands_fine c (class_of l) level ps f h
rule_fine (variable level) l ps f h = some_fine (upper_of l) (mark Colon ∷ rules.typed level []) _ ps (refl, (tt, typed_fine level ps h)) tt
rule_fine (variables level body) l ps f h = mark_fine Comma l (variable level ∷ variables level (body + 1) ∷ []) _ ps (tt, (tt, (tt, h))) (mark_fine CloseSquare l (mark Colon ∷ unary body ∷ []) _ ps (refl, (tt, (tt, h))) tt)
rule_fine ending l ps f h = mark_fine Comma l (annotation ∷ []) _ ps (f, h) tt
rule_fine annotation l ps f h = annotation_fine (bracket_of l) l ps f h
rule_fine (annotated due) l ps f h = annotated_fine (bracket_of l) due l ps f h
rule_fine file l ps f h = some_fine (quoted_of l) [] _ ps h.1 tt
rule_fine selection l ps f h = mark_fine Comma l (mark OpenSquare ∷ selected ∷ []) _ ps (refl, (tt, (tt, h))) tt
rule_fine selected l ps f h = mark_fine CloseSquare l [] _ ps h.1 (some_fine (name_of l) (names ∷ []) _ ps (tt, h) tt)
rule_fine names l ps f h = mark_fine Comma l (name ∷ names ∷ []) _ ps (tt, (tt, (tt, h))) (mark_fine CloseSquare l [] _ ps h.1 tt)

pub step_fine : (ps : List Part) (l : Lexeme) → AllFine ps → IfGoes (step ps l)
step_fine [] l h = tt
step_fine (p ∷ ps) l h = fine_goes (rule p l) ps (step ps l) (rule_fine p l ps h.0 h.1) (step_fine ps l h.1.1)

steps_fine_by : (ls : Ahead) → ((ps : List Part) → AllFine ps → IfGoes (steps ls ps)) → (s : Step) → IfGoes s → IfGoes (then_steps s (steps ls))
steps_fine_by ls known (goes_on parts) h = known parts h
steps_fine_by ls known (stops e) h = tt

steps_fine : (ls : Ahead) (ps : List Part) → AllFine ps → IfGoes (steps ls ps)
unfolding steps
steps_fine [] ps h = h
steps_fine (l ∷ ls) ps h = steps_fine_by ls (steps_fine ls) (step ps l) (step_fine ps l h)

-- ---- the completion

some_lower : Lexeme
some_lower = record { kind = Lower; text = 97 ∷ []; byte = 0 }

some_upper : Lexeme
some_upper = record { kind = Upper; text = 65 ∷ []; byte = 0 }

some_quoted : Lexeme
some_quoted = record { kind = Quoted; text = codes "'a'"; byte = 0 }

some_dollar : List ℕ → Lexeme
some_dollar word = record { kind = Dollar; text = word; byte = 0 }

some_mark : Mark → Lexeme
some_mark m = record { kind = MarkToken m; text = []; byte = 0 }

truth : Lexeme
truth = some_dollar (codes "$true")

individual : Lexeme
individual = some_dollar (codes "$i")

closer : Shape → Mark
closer shape.Round = CloseRound
closer shape.Square = CloseSquare
closer shape.Curly = CloseCurly

-- the brackets that close those that are open
closers : List Shape → Ahead → Ahead
closers [] ls = ls
closers (s ∷ due) ls = some_mark (closer s) ∷ closers due ls

unfoldable complete : List Part → Ahead
complete [] = []
complete (statement ∷ ps) = []
complete (mark m ∷ ps) = some_mark m ∷ complete ps
complete (name ∷ ps) = some_lower ∷ complete ps
complete (role ∷ ps) = some_lower ∷ some_mark Comma ∷ truth ∷ some_mark CloseRound ∷ some_mark Dot ∷ complete ps
complete (typing level ∷ ps) = some_lower ∷ some_mark Colon ∷ individual ∷ complete ps
complete (operand_type level ∷ ps) = individual ∷ complete ps
complete (unary level ∷ ps) = truth ∷ complete ps
complete (side level ∷ ps) = truth ∷ complete ps
complete (argument level ∷ ps) = truth ∷ complete ps
complete (inside level ∷ ps) = truth ∷ some_mark CloseRound ∷ complete ps
complete (negated level ∷ ps) = some_mark CloseRound ∷ complete ps
complete (variable level ∷ ps) = some_upper ∷ some_mark Colon ∷ individual ∷ complete ps
complete (variables level body ∷ ps) = some_mark CloseSquare ∷ some_mark Colon ∷ truth ∷ complete ps
complete (annotation ∷ ps) = some_lower ∷ complete ps
complete (annotated due ∷ ps) = closers due (complete ps)
complete (file ∷ ps) = some_quoted ∷ complete ps
complete (selected ∷ ps) = some_mark CloseSquare ∷ complete ps
complete (names ∷ ps) = some_mark CloseSquare ∷ complete ps
complete (_ ∷ ps) = complete ps

-- what an optional part passes over
abbrev quiet : Class → Bool
quiet class.Apply = false
quiet (class.Equal s) = false
quiet (class.Join c) = false
quiet class.Open = false
quiet class.Arrow = false
quiet class.Star = false
quiet _ = true

abbrev Quiet : Ahead → Type 0
Quiet [] = Unit {0}
Quiet (l ∷ ls) = quiet (class_of l) ≡ true

closing_quiet : (m : Mark) → is_closing m ≡ true → quiet (class_of (some_mark m)) ≡ true
unfolding some_mark class_by mark_class
closing_quiet CloseRound e = refl
closing_quiet OpenSquare e = refl
closing_quiet CloseSquare e = refl
closing_quiet Comma e = refl
closing_quiet Dot e = refl
closing_quiet Colon e = refl
closing_quiet _ e = absurd cc

mark_quiet : (m : Mark) (ps : List Part) → NotOpening (mark m ∷ ps) → Fine (mark m) ps → quiet (class_of (some_mark m)) ≡ true
mark_quiet OpenRound ps n f = absurd n
mark_quiet m ps n f = closing_quiet m f

lower_quiet : quiet (class_of some_lower) ≡ true
unfolding some_lower class_by
lower_quiet = refl

quoted_quiet : quiet (class_of some_quoted) ≡ true
unfolding some_quoted class_by
quoted_quiet = refl

closer_quiet : (s : Shape) → quiet (class_of (some_mark (closer s))) ≡ true
unfolding some_mark closer class_by mark_class
closer_quiet shape.Round = refl
closer_quiet shape.Square = refl
closer_quiet shape.Curly = refl

closers_quiet : (due : List Shape) (ls : Ahead) → Quiet ls → Quiet (closers due ls)
unfolding closers
closers_quiet [] ls q = q
closers_quiet (s ∷ due) ls q = closer_quiet s

upper_quiet : quiet (class_of some_upper) ≡ true
unfolding some_upper class_by
upper_quiet = refl

truth_quiet : quiet (class_of truth) ≡ true
unfolding truth some_dollar class_by dollar_class
truth_quiet = refl

individual_quiet : quiet (class_of individual) ≡ true
unfolding individual some_dollar class_by dollar_class
individual_quiet = refl

complete_quiet : (ps : List Part) → NotOpening ps → AllFine ps → Quiet (complete ps)
unfolding complete
complete_quiet [] n h = tt
complete_quiet (statement ∷ ps) n h = tt
complete_quiet (mark m ∷ ps) n h = mark_quiet m ps n h.0
complete_quiet (name ∷ ps) n h = lower_quiet
complete_quiet (role ∷ ps) n h = lower_quiet
complete_quiet (typing level ∷ ps) n h = lower_quiet
complete_quiet (operand_type level ∷ ps) n h = individual_quiet
complete_quiet (unary level ∷ ps) n h = truth_quiet
complete_quiet (side level ∷ ps) n h = truth_quiet
complete_quiet (argument level ∷ ps) n h = truth_quiet
complete_quiet (inside level ∷ ps) n h = truth_quiet
complete_quiet (negated level ∷ ps) n h = closing_quiet CloseRound refl
complete_quiet (variable level ∷ ps) n h = upper_quiet
complete_quiet (variables level body ∷ ps) n h = closing_quiet CloseSquare refl
complete_quiet (reaches level ∷ ps) n h = complete_quiet ps h.1.0 h.1.1
complete_quiet (guarding g ∷ ps) n h = complete_quiet ps h.1.0 h.1.1
complete_quiet (arrows level ∷ ps) n h = complete_quiet ps h.1.0 h.1.1
complete_quiet (arguments level ∷ ps) n h = complete_quiet ps h.1.0 h.1.1
complete_quiet (equals level ∷ ps) n h = complete_quiet ps h.1.0 h.1.1
complete_quiet (operators level ∷ ps) n h = complete_quiet ps h.1.0 h.1.1
complete_quiet (operands c level ∷ ps) n h = complete_quiet ps h.1.0 h.1.1
complete_quiet (ending ∷ ps) n h = complete_quiet ps h.1.0 h.1.1
complete_quiet (annotation ∷ ps) n h = lower_quiet
complete_quiet (annotated due ∷ ps) n h = closers_quiet due (complete ps) (complete_quiet ps h.1.0 h.1.1)
complete_quiet (file ∷ ps) n h = quoted_quiet
complete_quiet (selection ∷ ps) n h = complete_quiet ps h.1.0 h.1.1
complete_quiet (selected ∷ ps) n h = closing_quiet CloseSquare refl
complete_quiet (names ∷ ps) n h = closing_quiet CloseSquare refl

-- ---- an optional part is skipped before a quiet token

abbrev Skips : Part → Lexeme → Type 0
Skips p l = rule p l ≡ rules.skip

skipped : (p : Part) (ls : Ahead) (ps : List Part) → rules.may_end p ≡ true → ((l : Lexeme) → quiet (class_of l) ≡ true → Skips p l) → Quiet ls → outcome 0 ls (p ∷ ps) ≡ outcome 0 ls ps
unfolding outcome
skipped p [] ps e h q = rw e refl
skipped p (l ∷ ls) ps e h q = rw (h l q) refl

arrows_skip : (c : Class) (level : ℕ) → quiet c ≡ true → rules.arrows_by c level ≡ rules.skip
arrows_skip class.Arrow level e = absurd cc
arrows_skip _ level e = refl

arguments_skip : (c : Class) (level : ℕ) → quiet c ≡ true → rules.arguments_by c level ≡ rules.skip
arguments_skip class.Apply level e = absurd cc
arguments_skip _ level e = refl

equals_skip : (c : Class) (level : ℕ) → quiet c ≡ true → rules.equals_by c level ≡ rules.skip
equals_skip (class.Equal s) level e = absurd cc
equals_skip _ level e = refl

operators_skip : (c : Class) (level : ℕ) → quiet c ≡ true → rules.operators_by c level ≡ rules.skip
operators_skip (class.Join j) level e = absurd cc
operators_skip _ level e = refl

operands_skip : (j : Connective) (c : Class) (level : ℕ) → quiet c ≡ true → rules.operands_by j c level ≡ rules.skip
operands_skip Or (class.Join j) level e = absurd cc
operands_skip And (class.Join j) level e = absurd cc
operands_skip Or _ level e = refl
operands_skip And _ level e = refl
operands_skip _ _ level e = refl

guard_skip : (g : Guard) (c : Class) → quiet c ≡ true → guard_form g c ≡ None
unfolding guard_form
guard_skip guard.BehindBracket (class.Equal s) e = absurd cc
guard_skip guard.BehindAtom class.Open e = absurd cc
guard_skip guard.BehindType class.Open e = absurd cc
guard_skip guard.BehindType class.Apply e = absurd cc
guard_skip guard.BehindType class.Star e = absurd cc
guard_skip guard.BehindBracket _ e = refl
guard_skip guard.BehindAtom _ e = refl
guard_skip guard.BehindType _ e = refl

skip_reaches : (level : ℕ) (ls : Ahead) (ps : List Part) → level ≤ 500 → outcome 0 ls (reaches level ∷ ps) ≡ outcome 0 ls ps
unfolding outcome rule within_levels
skip_reaches level [] ps h = refl
skip_reaches level (l ∷ ls) ps h = let fits : nat_le level 500 ≡ true = grind (arith, nat_tests) in rw fits refl

skip_guarding : (g : Guard) (ls : Ahead) (ps : List Part) → Quiet ls → outcome 0 ls (guarding g ∷ ps) ≡ outcome 0 ls ps
unfolding rule
skip_guarding g ls ps q = skipped (guarding g) ls ps refl (λ l e. rw (guard_skip g (class_of l) e) refl) q

skip_arrows : (level : ℕ) (ls : Ahead) (ps : List Part) → Quiet ls → outcome 0 ls (arrows level ∷ ps) ≡ outcome 0 ls ps
unfolding rule
skip_arrows level ls ps q = skipped (arrows level) ls ps refl (λ l e. arrows_skip (class_of l) level e) q

skip_arguments : (level : ℕ) (ls : Ahead) (ps : List Part) → Quiet ls → outcome 0 ls (arguments level ∷ ps) ≡ outcome 0 ls ps
unfolding rule
skip_arguments level ls ps q = skipped (arguments level) ls ps refl (λ l e. arguments_skip (class_of l) level e) q

skip_equals : (level : ℕ) (ls : Ahead) (ps : List Part) → Quiet ls → outcome 0 ls (equals level ∷ ps) ≡ outcome 0 ls ps
unfolding rule
skip_equals level ls ps q = skipped (equals level) ls ps refl (λ l e. equals_skip (class_of l) level e) q

skip_operators : (level : ℕ) (ls : Ahead) (ps : List Part) → Quiet ls → outcome 0 ls (operators level ∷ ps) ≡ outcome 0 ls ps
unfolding rule
skip_operators level ls ps q = skipped (operators level) ls ps refl (λ l e. operators_skip (class_of l) level e) q

skip_operands : (c : Connective) (level : ℕ) (ls : Ahead) (ps : List Part) → Quiet ls → outcome 0 ls (operands c level ∷ ps) ≡ outcome 0 ls ps
unfolding rule
skip_operands c level ls ps q = skipped (operands c level) ls ps refl (λ l e. operands_skip c (class_of l) level e) q

-- ---- what takes a token goes on behind it

mark_itself : (m : Mark) → is_mark m (some_mark m) ≡ true
unfolding some_mark is_mark_kind same_mark
mark_itself Comma = refl
mark_itself _ = refl

mark_goes : (m : Mark) (ls : Ahead) (ps : List Part) → outcome 0 (some_mark m ∷ ls) (mark m ∷ ps) ≡ outcome 0 ls ps
unfolding outcome rule
mark_goes m ls ps = rw (mark_itself m) refl

name_goes : (ls : Ahead) (ps : List Part) → outcome 0 (some_lower ∷ ls) (name ∷ ps) ≡ outcome 0 ls ps
unfolding outcome rule some_lower said_by
name_goes ls ps = refl

within_is : (level : ℕ) (l : Lexeme) (move : Move) → level ≤ 500 → within_levels level l move ≡ move
unfolding within_levels
within_is level l move h = let fits : nat_le level 500 ≡ true = grind (arith, nat_tests) in rw fits refl

unary_goes : (level : ℕ) (ls : Ahead) (ps : List Part) → level ≤ 500 → outcome 0 (truth ∷ ls) (unary level ∷ ps) ≡ outcome 0 ls (arguments level ∷ equals level ∷ ps)
unfolding outcome rule begin_unary truth some_dollar class_by dollar_class
unary_goes level ls ps h = rw (within_is level truth _ h) refl

side_goes : (level : ℕ) (ls : Ahead) (ps : List Part) → level ≤ 500 → outcome 0 (truth ∷ ls) (side level ∷ ps) ≡ outcome 0 ls (arguments level ∷ ps)
unfolding outcome rule truth some_dollar class_by dollar_class
side_goes level ls ps h = rw (within_is level truth _ h) refl

argument_goes : (level : ℕ) (ls : Ahead) (ps : List Part) → level ≤ 500 → outcome 0 (truth ∷ ls) (argument level ∷ ps) ≡ outcome 0 ls (arguments level ∷ ps)
unfolding outcome rule truth some_dollar class_by dollar_class
argument_goes level ls ps h = rw (within_is level truth _ h) refl

inside_goes : (level : ℕ) (ls : Ahead) (ps : List Part) → level ≤ 500 → outcome 0 (truth ∷ ls) (inside level ∷ ps) ≡ outcome 0 ls (arguments level ∷ equals level ∷ operators level ∷ mark CloseRound ∷ ps)
unfolding outcome rule begin_unary truth some_dollar class_by dollar_class
inside_goes level ls ps h = rw (within_is level truth _ h) refl

negated_goes : (level : ℕ) (ls : Ahead) (ps : List Part) → outcome 0 (some_mark CloseRound ∷ ls) (negated level ∷ ps) ≡ outcome 0 ls ps
unfolding outcome rule some_mark class_by mark_class
negated_goes level ls ps = refl

type_goes : (level : ℕ) (ls : Ahead) (ps : List Part) → level ≤ 500 → outcome 0 (individual ∷ ls) (operand_type level ∷ ps) ≡ outcome 0 ls ps
unfolding outcome rule individual some_dollar class_by dollar_class
type_goes level ls ps h = rw (within_is level individual _ h) refl

typing_goes : (level : ℕ) (ls : Ahead) (ps : List Part) → level ≤ 500 → outcome 0 (some_lower ∷ ls) (typing level ∷ ps) ≡ outcome 0 ls (mark Colon ∷ rules.typed level ps)
unfolding outcome rule some_lower class_by
typing_goes level ls ps h = rw (within_is level some_lower _ h) refl

variable_goes : (level : ℕ) (ls : Ahead) (ps : List Part) → outcome 0 (some_upper ∷ ls) (variable level ∷ ps) ≡ outcome 0 ls (mark Colon ∷ rules.typed level ps)
unfolding outcome rule some_upper said_by
variable_goes level ls ps = refl

variables_goes : (level body : ℕ) (ls : Ahead) (ps : List Part) → outcome 0 (some_mark CloseSquare ∷ ls) (variables level body ∷ ps) ≡ outcome 0 ls (mark Colon ∷ unary body ∷ ps)
unfolding outcome rule some_mark is_mark_kind same_mark
variables_goes level body ls ps = refl

typed_goes : (level : ℕ) (ls : Ahead) (ps : List Part) → level ≤ 500 → Quiet ls → outcome 0 (some_mark Colon ∷ individual ∷ ls) (mark Colon ∷ rules.typed level ps) ≡ outcome 0 ls ps
typed_goes level ls ps h q =
    mark_goes Colon (individual ∷ ls) (rules.typed level ps)
    ∙ type_goes level ls (guarding guard.BehindType ∷ arrows level ∷ ps) h
    ∙ skip_guarding guard.BehindType ls (arrows level ∷ ps) q
    ∙ skip_arrows level ls ps q

term_goes : (level : ℕ) (ls : Ahead) (ps : List Part) → level ≤ 500 → Quiet ls → outcome 0 (truth ∷ ls) (unary level ∷ ps) ≡ outcome 0 ls ps
term_goes level ls ps h q = unary_goes level ls ps h ∙ skip_arguments level ls (equals level ∷ ps) q ∙ skip_equals level ls ps q

-- what may be missing before a `)` is
skip_ending : (ls : Ahead) (ps : List Part) → outcome 0 (some_mark CloseRound ∷ ls) (ending ∷ ps) ≡ outcome 0 (some_mark CloseRound ∷ ls) ps
unfolding outcome rule some_mark is_mark_kind same_mark
skip_ending ls ps = refl

skip_selection : (ls : Ahead) (ps : List Part) → outcome 0 (some_mark CloseRound ∷ ls) (selection ∷ ps) ≡ outcome 0 (some_mark CloseRound ∷ ls) ps
unfolding outcome rule some_mark is_mark_kind same_mark
skip_selection ls ps = refl

skip_matched : (ls : Ahead) (ps : List Part) → outcome 0 (some_mark CloseRound ∷ ls) (annotated [] ∷ ps) ≡ outcome 0 (some_mark CloseRound ∷ ls) ps
unfolding outcome rule some_mark bracket_by mark_bracket
skip_matched ls ps = refl

closer_goes : (s : Shape) (due : List Shape) (ls : Ahead) (ps : List Part) → outcome 0 (some_mark (closer s) ∷ ls) (annotated (s ∷ due) ∷ ps) ≡ outcome 0 ls (annotated due ∷ ps)
unfolding outcome rule some_mark closer bracket_by mark_bracket same_shape
closer_goes shape.Round due ls ps = refl
closer_goes shape.Square due ls ps = refl
closer_goes shape.Curly due ls ps = refl

closers_go : (due : List Shape) (ls : Ahead) (ps : List Part) → outcome 0 (closers due ls) (annotated due ∷ ps) ≡ outcome 0 ls (annotated [] ∷ ps)
unfolding closers
closers_go [] ls ps = refl
closers_go (s ∷ due) ls ps = closer_goes s due (closers due ls) ps ∙ closers_go due ls ps

annotation_goes : (ls : Ahead) (ps : List Part) → outcome 0 (some_lower ∷ ls) (annotation ∷ ps) ≡ outcome 0 ls (annotated [] ∷ ps)
unfolding outcome rule some_lower bracket_by
annotation_goes ls ps = refl

-- the same where what comes behind is completed
close_first : (ps : List Part) → Closing ps → (ls : Ahead) × (complete ps ≡ some_mark CloseRound ∷ ls)
unfolding complete
close_first (mark CloseRound ∷ ps) h = (complete ps, refl)
close_first _ h = absurd h

ending_completes : (ps : List Part) → Closing ps → outcome 0 (complete ps) (ending ∷ ps) ≡ outcome 0 (complete ps) ps
ending_completes ps h = let c = close_first ps h in rw c.1 (skip_ending c.0 ps)

selection_completes : (ps : List Part) → Closing ps → outcome 0 (complete ps) (selection ∷ ps) ≡ outcome 0 (complete ps) ps
selection_completes ps h = let c = close_first ps h in rw c.1 (skip_selection c.0 ps)

matched_completes : (ps : List Part) → Closing ps → outcome 0 (complete ps) (annotated [] ∷ ps) ≡ outcome 0 (complete ps) ps
matched_completes ps h = let c = close_first ps h in rw c.1 (skip_matched c.0 ps)

file_goes : (ls : Ahead) (ps : List Part) → outcome 0 (some_quoted ∷ ls) (file ∷ ps) ≡ outcome 0 ls ps
unfolding outcome rule some_quoted said_by
file_goes ls ps = refl

selected_goes : (ls : Ahead) (ps : List Part) → outcome 0 (some_mark CloseSquare ∷ ls) (selected ∷ ps) ≡ outcome 0 ls ps
unfolding outcome rule some_mark is_mark_kind same_mark
selected_goes ls ps = refl

names_goes : (ls : Ahead) (ps : List Part) → outcome 0 (some_mark CloseSquare ∷ ls) (names ∷ ps) ≡ outcome 0 ls ps
unfolding outcome rule some_mark is_mark_kind same_mark
names_goes ls ps = refl

role_goes : (ls : Ahead) (ps : List Part) → outcome 0 (some_lower ∷ ls) (role ∷ ps) ≡ outcome 0 ls (mark Comma ∷ unary 0 ∷ operators 0 ∷ ending ∷ mark CloseRound ∷ mark Dot ∷ ps)
unfolding outcome rule some_lower said_by
role_goes ls ps = refl

role_completes : (ls : Ahead) (ps : List Part) → outcome 0 (some_lower ∷ some_mark Comma ∷ truth ∷ some_mark CloseRound ∷ some_mark Dot ∷ ls) (role ∷ ps) ≡ outcome 0 ls ps
role_completes ls ps =
    let close : Ahead = some_mark CloseRound ∷ some_mark Dot ∷ ls in
    let q : Quiet close = closing_quiet CloseRound refl in
    role_goes (some_mark Comma ∷ truth ∷ close) ps
    ∙ mark_goes Comma (truth ∷ close) (unary 0 ∷ operators 0 ∷ ending ∷ mark CloseRound ∷ mark Dot ∷ ps)
    ∙ term_goes 0 close (operators 0 ∷ ending ∷ mark CloseRound ∷ mark Dot ∷ ps) (omega arith) q
    ∙ skip_operators 0 close (ending ∷ mark CloseRound ∷ mark Dot ∷ ps) q
    ∙ skip_ending (some_mark Dot ∷ ls) (mark CloseRound ∷ mark Dot ∷ ps)
    ∙ mark_goes CloseRound (some_mark Dot ∷ ls) (mark Dot ∷ ps)
    ∙ mark_goes Dot ls ps

inside_completes : (level : ℕ) (ls : Ahead) (ps : List Part) → level ≤ 500 → outcome 0 (truth ∷ some_mark CloseRound ∷ ls) (inside level ∷ ps) ≡ outcome 0 ls ps
inside_completes level ls ps h =
    let close : Ahead = some_mark CloseRound ∷ ls in
    let q : Quiet close = closing_quiet CloseRound refl in
    inside_goes level close ps h
    ∙ skip_arguments level close (equals level ∷ operators level ∷ mark CloseRound ∷ ps) q
    ∙ skip_equals level close (operators level ∷ mark CloseRound ∷ ps) q
    ∙ skip_operators level close (mark CloseRound ∷ ps) q
    ∙ mark_goes CloseRound ls ps

ended : outcome 0 [] [] ≡ accepted
unfolding outcome
ended = refl

ended_statement : outcome 0 [] (statement ∷ []) ≡ accepted
unfolding outcome
ended_statement = refl

completes : (ps : List Part) → AllFine ps → InLevels ps → outcome 0 (complete ps) ps ≡ accepted
unfolding complete
completes [] h k = ended
completes (statement ∷ ps) h k = rw h.0 ended_statement
completes (mark m ∷ ps) h k = mark_goes m (complete ps) ps ∙ completes ps h.1.1 k.1
completes (name ∷ ps) h k = name_goes (complete ps) ps ∙ completes ps h.1.1 k.1
completes (role ∷ ps) h k = role_completes (complete ps) ps ∙ completes ps h.1.1 k.1
completes (reaches level ∷ ps) h k = skip_reaches level (complete ps) ps k.0 ∙ completes ps h.1.1 k.1
completes (guarding g ∷ ps) h k = skip_guarding g (complete ps) ps (complete_quiet ps h.1.0 h.1.1) ∙ completes ps h.1.1 k.1
completes (typing level ∷ ps) h k = typing_goes level (some_mark Colon ∷ individual ∷ complete ps) ps k.0 ∙ typed_goes level (complete ps) ps k.0 (complete_quiet ps h.1.0 h.1.1) ∙ completes ps h.1.1 k.1
completes (operand_type level ∷ ps) h k = type_goes level (complete ps) ps k.0 ∙ completes ps h.1.1 k.1
completes (arrows level ∷ ps) h k = skip_arrows level (complete ps) ps (complete_quiet ps h.1.0 h.1.1) ∙ completes ps h.1.1 k.1
completes (unary level ∷ ps) h k = term_goes level (complete ps) ps k.0 (complete_quiet ps h.1.0 h.1.1) ∙ completes ps h.1.1 k.1
completes (side level ∷ ps) h k = side_goes level (complete ps) ps k.0 ∙ skip_arguments level (complete ps) ps (complete_quiet ps h.1.0 h.1.1) ∙ completes ps h.1.1 k.1
completes (argument level ∷ ps) h k = argument_goes level (complete ps) ps k.0 ∙ skip_arguments level (complete ps) ps (complete_quiet ps h.1.0 h.1.1) ∙ completes ps h.1.1 k.1
completes (inside level ∷ ps) h k = inside_completes level (complete ps) ps k.0 ∙ completes ps h.1.1 k.1
completes (negated level ∷ ps) h k = negated_goes level (complete ps) ps ∙ completes ps h.1.1 k.1
completes (arguments level ∷ ps) h k = skip_arguments level (complete ps) ps (complete_quiet ps h.1.0 h.1.1) ∙ completes ps h.1.1 k.1
completes (equals level ∷ ps) h k = skip_equals level (complete ps) ps (complete_quiet ps h.1.0 h.1.1) ∙ completes ps h.1.1 k.1
completes (operators level ∷ ps) h k = skip_operators level (complete ps) ps (complete_quiet ps h.1.0 h.1.1) ∙ completes ps h.1.1 k.1
completes (operands c level ∷ ps) h k = skip_operands c level (complete ps) ps (complete_quiet ps h.1.0 h.1.1) ∙ completes ps h.1.1 k.1
completes (variable level ∷ ps) h k = variable_goes level (some_mark Colon ∷ individual ∷ complete ps) ps ∙ typed_goes level (complete ps) ps k.0 (complete_quiet ps h.1.0 h.1.1) ∙ completes ps h.1.1 k.1
completes (variables level body ∷ ps) h k = variables_goes level body (some_mark Colon ∷ truth ∷ complete ps) ps ∙ mark_goes Colon (truth ∷ complete ps) (unary body ∷ ps) ∙ term_goes body (complete ps) ps k.0 (complete_quiet ps h.1.0 h.1.1) ∙ completes ps h.1.1 k.1
completes (ending ∷ ps) h k = ending_completes ps h.0 ∙ completes ps h.1.1 k.1
completes (annotation ∷ ps) h k = annotation_goes (complete ps) ps ∙ matched_completes ps h.0 ∙ completes ps h.1.1 k.1
completes (annotated due ∷ ps) h k = closers_go due (complete ps) ps ∙ matched_completes ps h.0 ∙ completes ps h.1.1 k.1
completes (file ∷ ps) h k = file_goes (complete ps) ps ∙ completes ps h.1.1 k.1
completes (selection ∷ ps) h k = selection_completes ps h.0 ∙ completes ps h.1.1 k.1
completes (selected ∷ ps) h k = selected_goes (complete ps) ps ∙ completes ps h.1.1 k.1
completes (names ∷ ps) h k = names_goes (complete ps) ps ∙ completes ps h.1.1 k.1

-- what is taken can be completed to a file
pub taken_goes_on : (ls : Ahead) (parts : List Part) → file_steps ls ≡ goes_on parts → InLevels parts → GoesOn ls
taken_goes_on ls parts e k =
    let fine : AllFine parts = subst IfGoes e (steps_fine ls (statement ∷ []) (refl, (tt, tt))) in
    (complete parts, outcome_append 0 ls (complete parts) (statement ∷ []) ∙ ap (outcome_from 0 (complete parts)) e ∙ completes parts fine k)

-- the first token that is refused, where these parts are looked for
pub record StopsFrom (parts : List Part) (ls : Ahead) (e : ReadRefusal) : Type 0 where
  pub before : Ahead
  pub token : Lexeme
  pub after : Ahead
  pub wanted : List Part
  pub ahead_is : ls ≡ before ++ token ∷ after
  pub taken : steps before parts ≡ goes_on wanted
  pub stops_at : step wanted token ≡ stops e

abbrev Where : ℕ → List Part → Ahead → ReadRefusal → Type 0
Where end parts ls e = ((wanted : List Part) × (steps ls parts ≡ goes_on wanted) × (e ≡ Syntax end)) ⊎ StopsFrom parts ls e

end_where : (end : ℕ) (b : Bool) (e : ReadRefusal) → cond b accepted (refused (Syntax end)) ≡ refused e → e ≡ Syntax end
end_where end true e h = absurd cc
end_where end false e h = cc

step_where : (end : ℕ) (l : Lexeme) (ls : Ahead) (parts : List Part) (e : ReadRefusal) → ((qs : List Part) → outcome end ls qs ≡ refused e → Where end qs ls e) → (s : Step) → step parts l ≡ s → after_step s (outcome end ls) ≡ refused e → Where end parts (l ∷ ls) e
unfolding steps
step_where end l ls parts e known (goes_on qs) t h = elim (known qs h) [
  | inl k ↦ inl (k.0, rw t k.1, k.2)
  | inr r ↦ inr (record { before = l ∷ r.before; token = r.token; after = r.after; wanted = r.wanted; ahead_is = ap (λ x. l ∷ x) r.ahead_is; taken = rw t r.taken; stops_at = r.stops_at })
]
step_where end l ls parts e known (stops d) t h = let same : d ≡ e = cc in inr (record { before = []; token = l; after = ls; wanted = parts; ahead_is = refl; taken = refl; stops_at = t ∙ ap stops same })

pub refused_where : (end : ℕ) (ls : Ahead) (parts : List Part) (e : ReadRefusal) → outcome end ls parts ≡ refused e → Where end parts ls e
unfolding outcome steps
refused_where end [] parts e h = inl (parts, refl, end_where end (all_may_end parts) e h)
refused_where end (l ∷ ls) parts e h = step_where end l ls parts e (λ qs. refused_where end ls qs e) (step parts l) refl h

pub file_refused_where : (end : ℕ) (ls : Ahead) (e : ReadRefusal) → outcome end ls (statement ∷ []) ≡ refused e → ((wanted : List Part) × (file_steps ls ≡ goes_on wanted) × (e ≡ Syntax end)) ⊎ StopsWith ls e
file_refused_where end ls e h = elim (refused_where end ls (statement ∷ []) e h) [
  | inl k ↦ inl k
  | inr r ↦ inr (record { before = r.before; token = r.token; after = r.after; parts = r.wanted; ahead_is = r.ahead_is; taken = r.taken; stops_at = r.stops_at })
]
