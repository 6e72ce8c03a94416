-- Reading does what the table says.
use Rattle.std.proofs.Common.{◌≡◌, ℕ, zero, suc, ◌+◌, ◌-◌, ◌≤◌, Bool, true, false, cond, List, [], ◌∷◌, ◌++◌, length, refl, ap, sym, ◌∙◌, arith, inl, inr}
use Rattle.std.specs.Prelude.{Ok, Err, Option, Some, None, nat_le, codes, ◌||◌}
use Rattle.std.specs.Str.{bytes_eq}
use Rattle.std.proofs.lemmas.Bool.Decides.{nat_tests}
use Rattle.leo_lex.specs.declared.mark.Mark.{Mark}
use Rattle.leo_lex.specs.declared.mark.Mark.TheVariants.{CloseRound, OpenSquare, CloseSquare, Comma, Colon}
use Rattle.leo_lex.specs.declared.token.Kind.{Kind}
use Rattle.leo_lex.specs.declared.token.Kind.TheVariants as kind
use Rattle.leo_syntax.specs.declared.classes.Class.{Class}
use Rattle.leo_syntax.specs.declared.classes.Class.TheVariants as class
use Rattle.leo_syntax.specs.declared.classes.Says.TheVariants as says
use Rattle.leo_syntax.specs.declared.classes.Wanted.TheVariants as wanted
use Rattle.leo_syntax.specs.declared.classes.Guard.{Guard}
use Rattle.leo_syntax.specs.declared.classes.Guard.TheVariants as guard
use Rattle.leo_syntax.specs.declared.refusal.Form.{Form}
use Rattle.leo_syntax.specs.declared.refusal.ReadRefusal.TheVariants.{Syntax, Deep}
use Rattle.leo_syntax.specs.declared.tree.Binder.{Binder}
use Rattle.leo_syntax.specs.declared.tree.Connective.{Connective}
use Rattle.leo_syntax.specs.declared.tree.Connective.TheVariants.{Or, And}
use Rattle.leo_syntax.specs.declared.tree.TypeTree.{TypeTree}
use Rattle.leo_syntax.specs.declared.tree.Variable.{Variable}
use Rattle.leo_syntax.specs.declared.tree.Tree.{Tree}
use Rattle.leo_syntax.specs.declared.tree.Node.TheVariants as node
use Rattle.leo_syntax.specs.Classes.{class_by, dollar_class, mark_class}
use Rattle.leo_syntax.specs.Lexemes.{Lexeme, Ahead, is_mark, class_of, said_by, name_of, atom_of, upper_of, refusal, guarded}
use Rattle.leo_syntax.specs.Rules as rules
use Rattle.leo_syntax.specs.Rules.{Part, statement, mark, reaches, guarding, name, role, typing, operand_type, arrows, unary, side, argument, inside, negated, arguments, equals, operators, operands, variable, variables, ending, annotation, annotated, file, selection, selected, names, Move, take, skip, refuse, rule, within_levels, typed, begin_unary, moved, step, after_step, Outcome, refused, outcome}
use Rattle.leo_syntax.specs.Reading as read
use Rattle.leo_syntax.specs.Reading.{Read, and_then, read_mark, read_said, read_guard, rest}
use Rattle.leo_syntax.specs.Grammar.{sees, class_at, byte_of, is_chain, continues, AreVariables, last_variable, next_variable, at_byte}
use Rattle.leo_syntax.proofs.Sound.{or_false, IfRead, then_read, then_same, then_skip, variables_sound, close_is}

-- what becomes of a text from where a reader stops
abbrev pub ends : {A : Type 0} → ℕ → Read A → List Part → Outcome
ends end (Ok p) parts = outcome end p.1 parts
ends end (Err e) parts = refused e

-- where what is looked for depends on what was read
abbrev ends_by : {A : Type 0} → ℕ → Read A → (A → List Part) → Outcome
ends_by end (Ok p) parts = outcome end p.1 (parts p.0)
ends_by end (Err e) parts = refused e

pub compose : {A B : Type 0} (end : ℕ) (r : Read A) (f : A → Ahead → Read B) (parts others : List Part) → ((a : A) (ls : Ahead) → outcome end ls parts ≡ ends end (f a ls) others) → ends end r parts ≡ ends end (and_then r f) others
compose end (Ok p) f parts others h = h p.0 p.1
compose end (Err e) f parts others h = refl

compose_by : {A B : Type 0} (end : ℕ) (r : Read A) (f : A → Ahead → Read B) (parts : A → List Part) (others : List Part) → ((a : A) (ls : Ahead) → outcome end ls (parts a) ≡ ends end (f a ls) others) → ends_by end r parts ≡ ends end (and_then r f) others
compose_by end (Ok p) f parts others h = h p.0 p.1
compose_by end (Err e) f parts others h = refl

compose_if : {A B : Type 0} (end : ℕ) (r : Read A) (f : A → Ahead → Read B) (parts : List Part) (others : B → List Part) (P : A → Ahead → Type 0) → IfRead r P → ((a : A) (ls : Ahead) → P a ls → outcome end ls parts ≡ ends_by end (f a ls) others) → ends end r parts ≡ ends_by end (and_then r f) others
compose_if end (Ok p) f parts others P i h = h p.0 p.1 i
compose_if end (Err e) f parts others P i h = refl

keep_by : {A B : Type 0} (end : ℕ) (r : Read A) (f : A → B) (parts : A → List Part) (others : B → List Part) (P : A → Ahead → Type 0) → IfRead r P → ((a : A) (ls : Ahead) → P a ls → parts a ≡ others (f a)) → ends_by end r parts ≡ ends_by end (and_then r (λ a ls. Ok (f a, ls))) others
keep_by end (Ok p) f parts others P i h = ap (outcome end p.1) (h p.0 p.1 i)
keep_by end (Err e) f parts others P i h = refl

-- a reader whose value is changed ends where it ended
pub keep : {A B : Type 0} (end : ℕ) (r : Read A) (f : A → B) (parts : List Part) → ends end r parts ≡ ends end (and_then r (λ a ls. Ok (f a, ls))) parts
keep end (Ok p) f parts = refl
keep end (Err e) f parts = refl

mark_by : (m : Mark) (end : ℕ) (l : Lexeme) (ls : Ahead) (parts : List Part) (t : Bool) → is_mark m l ≡ t → outcome end (l ∷ ls) (mark m ∷ parts) ≡ ends end (read_mark m end (l ∷ ls)) parts
unfolding outcome rule sees rest read.refusal_at
mark_by m end l ls parts true e = rw e refl
mark_by m end l ls parts false e = rw e refl

pub mark_table : (m : Mark) (end : ℕ) (ls : Ahead) (parts : List Part) → outcome end ls (mark m ∷ parts) ≡ ends end (read_mark m end ls) parts
unfolding outcome sees read.refusal_at
mark_table m end [] parts = refl
mark_table m end (l ∷ ls) parts = mark_by m end l ls parts (is_mark m l) refl

-- how a move goes on
abbrev pub after_move : ℕ → Move → Lexeme → Ahead → List Part → Outcome
after_move end move l ls parts = after_step (moved move parts (step parts l)) (outcome end ls)

pub said_after : (end : ℕ) (l : Lexeme) (ls : Ahead) (taken parts : List Part) (o : Option (List ℕ)) → after_move end (rules.if_some o taken (refuse (refusal wanted.Other l))) l ls parts ≡ ends end (read.found o end (l ∷ ls)) (taken ++ parts)
unfolding rest read.refusal_at
said_after end l ls taken parts (Some a) = refl
said_after end l ls taken parts None = refl

pub name_table : (end : ℕ) (ls : Ahead) (parts : List Part) → outcome end ls (name ∷ parts) ≡ ends end (read_said name_of end ls) parts
unfolding outcome rule read.said_at read.refusal_at
name_table end [] parts = refl
name_table end (l ∷ ls) parts = said_after end l ls [] parts (name_of l)

guard_by : {A : Type 0} (end : ℕ) (l : Lexeme) (ls : Ahead) (f : Read A) (parts others : List Part) (o : Option Form) → outcome end (l ∷ ls) parts ≡ ends end f others → after_move end (rules.guarding_by o l) l ls parts ≡ ends end (and_then (read.let_pass o l.byte (l ∷ ls)) (λ _ _. f)) others
unfolding outcome
guard_by end l ls f parts others (Some form) h = refl
guard_by end l ls f parts others None h = h

pub guard_table : {A : Type 0} (g : Guard) (end : ℕ) (ls : Ahead) (f : Read A) (parts others : List Part) → outcome end ls parts ≡ ends end f others → outcome end ls (guarding g ∷ parts) ≡ ends end (and_then (read_guard g end ls) (λ _ _. f)) others
unfolding outcome rule read.read_guard
guard_table g end [] f parts others h = h
guard_table g end (l ∷ ls) f parts others h = guard_by end l ls f parts others (guarded g l) h

pub close_table : {A : Type 0} (end : ℕ) (r : Read A) (parts : List Part) → ends end r (mark CloseRound ∷ parts) ≡ ends end (read.closed end r) parts
close_table end r parts = compose end r _ (mark CloseRound ∷ parts) parts (λ a ls. mark_table CloseRound end ls parts ∙ keep end (read_mark CloseRound end ls) (λ _. a) parts)

pub within : (level left : ℕ) (l : Lexeme) (move : Move) → level + suc left ≡ 501 → within_levels level l move ≡ move
unfolding within_levels
within level left l move h = let fits : nat_le level 500 ≡ true = grind (arith, nat_tests) in rw fits refl

pub outside : (level : ℕ) (l : Lexeme) (move : Move) → 501 ≤ level → within_levels level l move ≡ refuse (Deep l.byte)
unfolding within_levels
outside level l move h = let passes : nat_le level 500 ≡ false = grind (arith, nat_tests) in rw passes refl

-- ---- what a token of a class says

abbrev says_none : Class → Bool
says_none class.Atom = false
says_none class.Variable = false
says_none _ = true

dollar_says : (text : List ℕ) → says_none (dollar_class text) ≡ true
unfolding dollar_class
dollar_says text = elim (or_false (bytes_eq text (codes "$true"))) [
  | inl t ↦ rw t refl
  | inr f1 ↦ elim (or_false (bytes_eq text (codes "$false"))) [
    | inl t ↦ rw (f1, t) refl
    | inr f2 ↦ elim (or_false (bytes_eq text (codes "$i") || bytes_eq text (codes "$iType"))) [
      | inl t ↦ rw (f1, f2, t) refl
      | inr f3 ↦ elim (or_false (bytes_eq text (codes "$o") || bytes_eq text (codes "$oType"))) [
        | inl t ↦ rw (f1, f2, f3, t) refl
        | inr f4 ↦ elim (or_false (bytes_eq text (codes "$tType"))) [ inl t ↦ rw (f1, f2, f3, f4, t) refl | inr f5 ↦ rw (f1, f2, f3, f4, f5) refl ]
      ]
    ]
  ]
]

mark_says : (m : Mark) → says_none (mark_class m) ≡ true
unfolding mark_class
mark_says Comma = refl
mark_says _ = refl

pub atom_said : (k : Kind) (text : List ℕ) → class_by k text ≡ class.Atom → (a : List ℕ) × (said_by says.Atom k text ≡ Some a)
unfolding class_by said_by
atom_said kind.Lower text e = (_, refl)
atom_said kind.Quoted text e = (_, refl)
atom_said kind.Dollar text e = let f = dollar_says text in let g : says_none class.Atom ≡ true = rw e at f in absurd cc
atom_said (kind.Mark m) text e = let f = mark_says m in let g : says_none class.Atom ≡ true = rw e at f in absurd cc
atom_said _ text e = absurd cc

pub upper_said : (k : Kind) (text : List ℕ) → class_by k text ≡ class.Variable → (a : List ℕ) × (said_by says.Upper k text ≡ Some a)
unfolding class_by said_by
upper_said kind.Upper text e = (_, refl)
upper_said kind.Dollar text e = let f = dollar_says text in let g : says_none class.Variable ≡ true = rw e at f in absurd cc
upper_said (kind.Mark m) text e = let f = mark_says m in let g : says_none class.Variable ≡ true = rw e at f in absurd cc
upper_said _ text e = absurd cc

-- ---- types

abbrev TypeLaw : ℕ → ℕ → Type 0
TypeLaw end left = (level : ℕ) → level + left ≡ 501 → (ls : Ahead) (parts : List Part) → outcome end ls (typed level parts) ≡ ends end (read.ty end left ls) parts

deep_type : (end level : ℕ) → 501 ≤ level → (ls : Ahead) (parts : List Part) → outcome end ls (operand_type level ∷ parts) ≡ refused (read.deep_at end ls)
unfolding outcome rule read.deep_at
deep_type end level h [] parts = refl
deep_type end level h (l ∷ ls) parts = rw (outside level l _ h) refl

pub reached : (end level left : ℕ) → level + suc left ≡ 501 → (ls : Ahead) (parts : List Part) → outcome end ls (reaches level ∷ parts) ≡ outcome end ls parts
unfolding outcome rule
reached end level left h [] parts = refl
reached end level left h (l ∷ ls) parts = rw (within level left l _ h) refl

opened_type_zero : (end level : ℕ) → level + 0 ≡ 501 → (ls : Ahead) (parts : List Part) → outcome end ls (reaches level ∷ guarding guard.BehindBracket ∷ typed level (mark CloseRound ∷ parts)) ≡ ends end (read.opened end 0 (read.ty end 0) ls) parts
unfolding outcome rule read.deep_at
opened_type_zero end level h [] parts = refl
opened_type_zero end level h (l ∷ ls) parts = rw (outside level l _ (omega (arith, h))) refl

opened_type : (end left : ℕ) → TypeLaw end left → (level : ℕ) → level + left ≡ 501 → (ls : Ahead) (parts : List Part) → outcome end ls (reaches level ∷ guarding guard.BehindBracket ∷ typed level (mark CloseRound ∷ parts)) ≡ ends end (read.opened end left (read.ty end left) ls) parts
opened_type end zero law level h ls parts = opened_type_zero end level h ls parts
opened_type end (suc left) law level h ls parts =
    reached end level left h ls (guarding guard.BehindBracket ∷ typed level (mark CloseRound ∷ parts))
    ∙ guard_table guard.BehindBracket end ls (read.closed end (read.ty end (suc left) ls)) (typed level (mark CloseRound ∷ parts)) parts
    (law level h ls (mark CloseRound ∷ parts) ∙ close_table end (read.ty end (suc left) ls) parts)

module _ (end left : ℕ) (law : TypeLaw end left) where
  operand_type_by : (level : ℕ) → level + suc left ≡ 501 → (l : Lexeme) (ls : Ahead) (parts : List Part) (c : Class) → class_of l ≡ c → after_move end (rules.type_by c level l) l ls parts ≡ ends end (read.operand_type_by c end left (read.ty end left) (l ∷ ls)) parts
  unfolding read.said_at rest read.refusal_at
  operand_type_by level h l ls parts class.Atom e = let a = atom_said l.kind l.text e in rw a.1 refl
  operand_type_by level h l ls parts class.Individual e = refl
  operand_type_by level h l ls parts class.Truth e = refl
  operand_type_by level h l ls parts class.TypeOfTypes e = refl
  operand_type_by level h l ls parts class.Open e = opened_type end left law (level + 1) (omega (arith, h)) ls parts
  operand_type_by level h l ls parts _ e = refl

  operand_type_step : (level : ℕ) → level + suc left ≡ 501 → (ls : Ahead) (parts : List Part) → outcome end ls (operand_type level ∷ parts) ≡ ends end (read.operand_type_with end left (read.ty end left) ls) parts
  unfolding outcome rule read.operand_type_with class_at read.refusal_at
  operand_type_step level h [] parts = refl
  operand_type_step level h (l ∷ ls) parts = rw (within level left l _ h) (operand_type_by level h l ls parts (class_of l) refl)

  arrows_by : (level : ℕ) → level + suc left ≡ 501 → (byte : ℕ) (from : TypeTree) (l : Lexeme) (ls : Ahead) (parts : List Part) (c : Class) → after_move end (rules.arrows_by c level) l ls parts ≡ ends end (read.arrow_by c (read.ty end left) byte from (l ∷ ls)) parts
  unfolding rest outcome
  arrows_by level h byte from l ls parts class.Arrow = law (level + 1) (omega (arith, h)) ls parts ∙ keep end (read.ty end left ls) _ parts
  arrows_by level h byte from l ls parts _ = refl

  arrows_step : (level : ℕ) → level + suc left ≡ 501 → (byte : ℕ) (from : TypeTree) (ls : Ahead) (parts : List Part) → outcome end ls (arrows level ∷ parts) ≡ ends end (read.arrow_by (class_at ls) (read.ty end left) byte from ls) parts
  unfolding outcome rule class_at
  arrows_step level h byte from [] parts = refl
  arrows_step level h byte from (l ∷ ls) parts = arrows_by level h byte from l ls parts (class_of l)

  type_step : TypeLaw end (suc left)
  unfolding read.ty read.type_with
  type_step level h ls parts =
      operand_type_step level h ls (guarding guard.BehindType ∷ arrows level ∷ parts)
      ∙ compose end (read.operand_type_with end left (read.ty end left) ls) _ (guarding guard.BehindType ∷ arrows level ∷ parts) parts (λ from l1.
      guard_table guard.BehindType end l1 _ (arrows level ∷ parts) parts (arrows_step level h (byte_of ls) from l1 parts))

type_zero : (end : ℕ) → TypeLaw end 0
unfolding read.ty
type_zero end level h ls parts = deep_type end level (omega (arith, h)) ls (guarding guard.BehindType ∷ arrows level ∷ parts)

pub type_table : (end left : ℕ) → TypeLaw end left
type_table end zero = type_zero end
type_table end (suc left) = type_step end left (type_table end left)

-- ---- variables

upper_table : (end : ℕ) (level : ℕ) (ls : Ahead) (parts : List Part) → outcome end ls (variable level ∷ parts) ≡ ends end (read_said upper_of end ls) (mark Colon ∷ typed level parts)
unfolding outcome rule read.said_at read.refusal_at
upper_table end level [] parts = refl
upper_table end level (l ∷ ls) parts = said_after end l ls (mark Colon ∷ typed level []) parts (upper_of l)

variable_table : (end left level : ℕ) → level + left ≡ 501 → (ls : Ahead) (parts : List Part) → outcome end ls (variable level ∷ parts) ≡ ends end (read.variable end left ls) parts
unfolding read.variable
variable_table end left level h ls parts =
    upper_table end level ls parts
    ∙ compose end (read_said upper_of end ls) _ (mark Colon ∷ typed level parts) parts (λ name l1. mark_table Colon end l1 (typed level parts)
    ∙ compose end (read_mark Colon end l1) _ (typed level parts) parts (λ _ l2. type_table end left level h l2 parts
    ∙ keep end (read.ty end left l2) _ parts))

abbrev Shorter : {A : Type 0} → Ahead → A → Ahead → Type 0
Shorter ls a after = length after ≤ length ls

then_shorter : {A B : Type 0} (ls : Ahead) (r : Read A) (f : A → Ahead → Read B) → IfRead r (Shorter ls) → ((a : A) (l1 : Ahead) → IfRead (f a l1) (Shorter l1)) → IfRead (and_then r f) (Shorter ls)
then_shorter ls r f h next = then_read r f (Shorter ls) (Shorter ls) h (λ a l1 k. then_same (f a l1) (Shorter l1) (Shorter ls) (next a l1) (λ b l2 m. omega (arith, k, m)))

rest_shorter : (ls : Ahead) → length (rest ls) ≤ length ls
unfolding rest
rest_shorter [] = omega arith
rest_shorter (l ∷ ls) = omega arith

mark_shorter : (m : Mark) (end : ℕ) (ls : Ahead) → IfRead (read_mark m end ls) (Shorter ls)
mark_shorter m end ls = elim (or_false (sees m ls)) [ inl t ↦ rw t (rest_shorter ls) | inr f ↦ rw f tt ]

found_shorter : {A : Type 0} (o : Option A) (end : ℕ) (ls : Ahead) → IfRead (read.found o end ls) (Shorter ls)
found_shorter (Some a) end ls = rest_shorter ls
found_shorter None end ls = tt

closed_shorter : {A : Type 0} (end : ℕ) (ls : Ahead) (r : Read A) → IfRead r (Shorter ls) → IfRead (read.closed end r) (Shorter ls)
closed_shorter end ls r h = then_shorter ls r _ h (λ a l1. then_shorter l1 (read_mark CloseRound end l1) _ (mark_shorter CloseRound end l1) (λ _ l2. omega arith))

keep_shorter : {A B : Type 0} (ls : Ahead) (r : Read A) (f : A → B) → IfRead r (Shorter ls) → IfRead (and_then r (λ a after. Ok (f a, after))) (Shorter ls)
keep_shorter ls r f h = then_read r _ (Shorter ls) (Shorter ls) h (λ a after k. k)

later_shorter : (inner : Ahead → Read TypeTree) → ((ls : Ahead) → IfRead (inner ls) (Shorter ls)) → (ls : Ahead) → IfRead (inner (rest ls)) (Shorter ls)
later_shorter inner known ls = then_same (inner (rest ls)) (Shorter (rest ls)) (Shorter ls) (known (rest ls)) (λ t after k. omega (arith, k, rest_shorter ls))

operand_shorter : (end left : ℕ) (inner : Ahead → Read TypeTree) → ((ls : Ahead) → IfRead (inner ls) (Shorter ls)) → (ls : Ahead) (c : Class) → IfRead (read.operand_type_by c end left inner ls) (Shorter ls)
operand_shorter end left inner known ls class.Atom = keep_shorter ls (read_said atom_of end ls) _ (found_shorter (read.said_at atom_of ls) end ls)
operand_shorter end left inner known ls class.Individual = rest_shorter ls
operand_shorter end left inner known ls class.Truth = rest_shorter ls
operand_shorter end left inner known ls class.TypeOfTypes = rest_shorter ls
operand_shorter end left inner known ls class.Open = then_skip (read.read_level end left (rest ls)) _ (Shorter ls) (then_skip (read_guard guard.BehindBracket end (rest ls)) _ (Shorter ls) (closed_shorter end ls (inner (rest ls)) (later_shorter inner known ls)))
operand_shorter end left inner known ls _ = tt

arrow_shorter : (inner : Ahead → Read TypeTree) → ((ls : Ahead) → IfRead (inner ls) (Shorter ls)) → (byte : ℕ) (from : TypeTree) (l1 : Ahead) (c : Class) → IfRead (read.arrow_by c inner byte from l1) (Shorter l1)
arrow_shorter inner known byte from l1 class.Arrow = keep_shorter l1 (inner (rest l1)) _ (later_shorter inner known l1)
arrow_shorter inner known byte from l1 _ = omega arith

type_shorter : (end left : ℕ) (ls : Ahead) → IfRead (read.ty end left ls) (Shorter ls)
unfolding read.ty read.type_with read.operand_type_with
type_shorter end zero ls = tt
type_shorter end (suc left) ls =
    then_shorter ls (read.operand_type_by (class_at ls) end left (read.ty end left) ls) _ (operand_shorter end left (read.ty end left) (type_shorter end left) ls (class_at ls)) (λ from l1.
    then_skip (read_guard guard.BehindType end l1) _ (Shorter l1) (arrow_shorter (read.ty end left) (type_shorter end left) (byte_of ls) from l1 (class_at l1)))

variable_shorter : (end left : ℕ) (ls : Ahead) → IfRead (read.variable end left ls) (Shorter ls)
unfolding read.variable
variable_shorter end left ls = then_shorter ls (read_said upper_of end ls) _ (found_shorter (read.said_at upper_of ls) end ls) (λ name l1. then_shorter l1 (read_mark Colon end l1) _ (mark_shorter Colon end l1) (λ _ l2. keep_shorter l2 (read.ty end left l2) _ (type_shorter end left l2)))

some_variable : {ls after : Ahead} {vs : List Variable} → AreVariables ls vs after → 1 ≤ length vs
some_variable (last_variable h e) = omega arith
some_variable (next_variable h p k) = omega arith

abbrev behind_variables : ℕ → List Part → List Variable → List Part
behind_variables body parts vs = mark CloseSquare ∷ mark Colon ∷ unary (body + (length vs - 1)) ∷ parts

closing_table : (end body : ℕ) (v : Variable) (l : Lexeme) (ls : Ahead) (parts : List Part) → after_step (moved (rules.if_mark CloseSquare l (mark Colon ∷ unary body ∷ []) (refuse (refusal wanted.Other l))) parts (step parts l)) (outcome end ls) ≡ outcome end (l ∷ ls) (behind_variables body parts (v ∷ []))
unfolding outcome rule
closing_table end body v l ls parts = let same : body + 0 ≡ body = omega arith in elim (or_false (is_mark CloseSquare l)) [ inl t ↦ rw (t, same) refl | inr f ↦ rw f refl ]

further_table : (n end left level body : ℕ) → ((ls : Ahead) → length ls ≤ n → (parts : List Part) → outcome end ls (variable level ∷ variables level (body + 1) ∷ parts) ≡ ends_by end (read.variables n end left ls) (behind_variables (body + 1) parts))
    → (v : Variable) (ls : Ahead) → length ls ≤ suc n → (parts : List Part) → outcome end ls (variables level body ∷ parts) ≡ ends_by end (read.further_with (read.variables n end left) v ls) (behind_variables body parts)
unfolding outcome rule sees rest
further_table n end left level body known v [] h parts = refl
further_table n end left level body known v (l ∷ ls) h parts = elim (or_false (is_mark Comma l)) [
  | inl t ↦ rw t (known ls (omega (arith, h)) parts ∙ keep_by end (read.variables n end left ls) (λ vs. v ∷ vs) (behind_variables (body + 1) parts) (behind_variables body parts) (AreVariables ls) (variables_sound n end left ls)
      (λ vs after a. let some = some_variable a in let same : (body + 1) + (length vs - 1) ≡ body + (length (v ∷ vs) - 1) = omega arith in ap (λ k. mark CloseSquare ∷ mark Colon ∷ unary k ∷ parts) same))
  | inr f ↦ rw f (closing_table end body v l ls parts)
]

none_left : (end level body : ℕ) (parts : List Part) → outcome end [] (variable level ∷ variables level body ∷ parts) ≡ refused (Syntax end)
unfolding outcome
none_left end level body parts = refl

variables_table : (n end left level : ℕ) → level + left ≡ 501 → (body : ℕ) (ls : Ahead) → length ls ≤ n → (parts : List Part) → outcome end ls (variable level ∷ variables level body ∷ parts) ≡ ends_by end (read.variables n end left ls) (behind_variables body parts)
unfolding read.variables
variables_table zero end left level h body [] k parts = none_left end level body parts
variables_table zero end left level h body (l ∷ ls) k parts = absurd (omega (arith, k))
variables_table (suc n) end left level h body ls k parts =
    variable_table end left level h ls (variables level body ∷ parts)
    ∙ compose_if end (read.variable end left ls) (read.further_with (read.variables n end left)) (variables level body ∷ parts) (behind_variables body parts) (Shorter ls) (variable_shorter end left ls)
    (λ v l1 m. further_table n end left level body (λ ls o parts. variables_table n end left level h (body + 1) ls o parts) v l1 (omega (arith, k, m)) parts)

-- ---- formulas

deep_unary : (end level : ℕ) → 501 ≤ level → (ls : Ahead) (parts : List Part) → outcome end ls (unary level ∷ parts) ≡ refused (read.deep_at end ls)
unfolding outcome rule read.deep_at
deep_unary end level h [] parts = refl
deep_unary end level h (l ∷ ls) parts = rw (outside level l _ h) refl

deep_argument : (end level : ℕ) → 501 ≤ level → (ls : Ahead) (parts : List Part) → outcome end ls (argument level ∷ parts) ≡ refused (read.deep_at end ls)
unfolding outcome rule read.deep_at
deep_argument end level h [] parts = refl
deep_argument end level h (l ∷ ls) parts = rw (outside level l _ h) refl

deep_inside : (end level : ℕ) → 501 ≤ level → (ls : Ahead) (parts : List Part) → outcome end ls (inside level ∷ parts) ≡ refused (read.deep_at end ls)
unfolding outcome rule read.deep_at
deep_inside end level h [] parts = refl
deep_inside end level h (l ∷ ls) parts = rw (outside level l _ h) refl

pub record Laws (end left : ℕ) : Type 0 where
  pub unary_law : (level : ℕ) → level + left ≡ 501 → (ls : Ahead) (parts : List Part) → outcome end ls (unary level ∷ parts) ≡ ends end (read.unary end left ls) parts
  pub body_law : (n level : ℕ) → level + left ≡ 501 → (ls : Ahead) (parts : List Part) → outcome end ls (unary (level + n) ∷ parts) ≡ ends end (read.body end left n ls) parts
  pub arguments_law : (level : ℕ) → (level + 1) + left ≡ 501 → (found : List Tree) (ls : Ahead) (parts : List Part) → outcome end ls (arguments level ∷ parts) ≡ ends end (read.arguments end left found ls) parts
  pub operands_law : (c : Connective) → is_chain c ≡ true → (level : ℕ) → level + left ≡ 501 → (ls : Ahead) (parts : List Part) → outcome end ls (unary level ∷ operands c level ∷ parts) ≡ ends end (read.operands end left c ls) parts
  pub formula_law : (level : ℕ) → level + left ≡ 501 → (ls : Ahead) (parts : List Part) → outcome end ls (unary level ∷ operators level ∷ parts) ≡ ends end (read.formula end left ls) parts
  pub inside_law : (level : ℕ) → level + left ≡ 501 → (byte : ℕ) (ls : Ahead) (parts : List Part) → outcome end ls (inside level ∷ parts) ≡ ends end (read.inside end left byte ls) parts

arguments_zero_by : (end level : ℕ) → 501 ≤ level + 1 → (found : List Tree) (l : Lexeme) (ls : Ahead) (parts : List Part) (c : Class) → after_move end (rules.arguments_by c level) l ls parts ≡ ends end (read.arguments_by c (λ found ls. Err (read.deep_at end ls)) found (l ∷ ls)) parts
unfolding rest outcome
arguments_zero_by end level h found l ls parts class.Apply = deep_argument end (level + 1) h ls parts
arguments_zero_by end level h found l ls parts _ = refl

arguments_zero : (end level : ℕ) → 501 ≤ level + 1 → (found : List Tree) (ls : Ahead) (parts : List Part) → outcome end ls (arguments level ∷ parts) ≡ ends end (read.arguments_by (class_at ls) (λ found ls. Err (read.deep_at end ls)) found ls) parts
unfolding outcome rule class_at
arguments_zero end level h found [] parts = refl
arguments_zero end level h found (l ∷ ls) parts = arguments_zero_by end level h found l ls parts (class_of l)

laws_zero : (end : ℕ) → Laws end 0
unfolding read.unary
laws_zero end = record {
  unary_law = λ level h ls parts. deep_unary end level (omega (arith, h)) ls parts;
  body_law = λ n level h ls parts. deep_unary end (level + n) (omega (arith, h)) ls parts;
  arguments_law = λ level h found ls parts. arguments_zero end level (omega (arith, h)) found ls parts;
  operands_law = λ c k level h ls parts. deep_unary end level (omega (arith, h)) ls (operands c level ∷ parts);
  formula_law = λ level h ls parts. deep_unary end level (omega (arith, h)) ls (operators level ∷ parts);
  inside_law = λ level h byte ls parts. deep_inside end level (omega (arith, h)) ls parts;
}

module _ (end left : ℕ) (laws : Laws end left) where
  abbrev u : Ahead → Read Tree
  u ls = read.unary_with end (suc left) (read.unary end left) (read.body end left) (read.inside end left) (read.arguments end left) ls

  abbrev app : Ahead → Read Tree
  app ls = read.application_with end (read.inside end left) (read.arguments end left) ls

  item_step : (level : ℕ) → level + suc left ≡ 501 → (behind : List Part) (l : Lexeme) (ls : Ahead) (parts : List Part) (c : Class) → class_of l ≡ c
      → after_move end (rules.item_by c level behind l) l ls parts ≡ ends end (read.item_by c end (read.inside end left) (l ∷ ls)) (behind ++ parts)
  unfolding read.said_at rest read.refusal_at
  item_step level h behind l ls parts class.Atom e = let a = atom_said l.kind l.text e in rw a.1 (guard_table guard.BehindAtom end ls (Ok (at_byte (byte_of (l ∷ ls)) (node.Atom a.0), ls)) (behind ++ parts) (behind ++ parts) refl)
  item_step level h behind l ls parts class.Variable e = let a = upper_said l.kind l.text e in rw a.1 refl
  item_step level h behind l ls parts (class.Symbol s) e = refl
  item_step level h behind l ls parts class.Open e = laws.inside_law (level + 1) (omega (arith, h)) (byte_of (l ∷ ls)) ls (behind ++ parts)
  item_step level h behind l ls parts _ e = refl

  app_step : (level : ℕ) → level + suc left ≡ 501 → (behind : List Part) (l : Lexeme) (ls : Ahead) (parts : List Part) (c : Class) → class_of l ≡ c
      → after_move end (rules.item_by c level (arguments level ∷ behind) l) l ls parts ≡ ends end (app (l ∷ ls)) (behind ++ parts)
  unfolding read.application_with read.item_with class_at
  app_step level h behind l ls parts c e =
      item_step level h (arguments level ∷ behind) l ls parts c e
      ∙ ap (λ k. ends end (read.item_by k end (read.inside end left) (l ∷ ls)) (arguments level ∷ (behind ++ parts))) (sym e)
      ∙ compose end (read.item_by (class_of l) end (read.inside end left) (l ∷ ls)) _ (arguments level ∷ (behind ++ parts)) (behind ++ parts) (λ head l1.
      laws.arguments_law level (omega (arith, h)) [] l1 (behind ++ parts) ∙ keep end (read.arguments end left [] l1) _ (behind ++ parts))

  binder_step : (level : ℕ) → level + suc left ≡ 501 → (b : Binder) (l : Lexeme) (ls : Ahead) (parts : List Part)
      → outcome end ls (rules.bound level parts) ≡ ends end (read.binder_with end (suc left) (read.body end left) b (l ∷ ls)) parts
  unfolding rest
  binder_step level h b l ls parts =
      mark_table OpenSquare end ls (variable level ∷ variables level (level + 1) ∷ parts)
      ∙ compose end (read_mark OpenSquare end ls) _ (variable level ∷ variables level (level + 1) ∷ parts) parts (λ _ l2.
      variables_table (length l2) end (suc left) level h (level + 1) l2 (omega arith) parts
      ∙ compose_by end (read.variables (length l2) end (suc left) l2) _ (behind_variables (level + 1) parts) parts (λ vs l3.
      mark_table CloseSquare end l3 (mark Colon ∷ unary ((level + 1) + (length vs - 1)) ∷ parts)
      ∙ compose end (read_mark CloseSquare end l3) _ (mark Colon ∷ unary ((level + 1) + (length vs - 1)) ∷ parts) parts (λ _ l4.
      mark_table Colon end l4 (unary ((level + 1) + (length vs - 1)) ∷ parts)
      ∙ compose end (read_mark Colon end l4) _ (unary ((level + 1) + (length vs - 1)) ∷ parts) parts (λ _ l5.
      laws.body_law (length vs - 1) (level + 1) (omega (arith, h)) l5 parts ∙ keep end (read.body end left (length vs - 1) l5) _ parts))))

  negation_step : (level : ℕ) → level + suc left ≡ 501 → (l : Lexeme) (ls : Ahead) (parts : List Part) → outcome end ls (unary (level + 1) ∷ parts) ≡ ends end (read.negation_with end (read.unary end left) (l ∷ ls)) parts
  unfolding rest
  negation_step level h l ls parts = laws.unary_law (level + 1) (omega (arith, h)) ls parts ∙ keep end (read.unary end left ls) _ parts

  side_by : (level : ℕ) → level + suc left ≡ 501 → (l : Lexeme) (ls : Ahead) (parts : List Part) (c : Class) → class_of l ≡ c
      → after_move end (rules.begin_by c level [] (arguments level ∷ []) l) l ls parts ≡ ends end (read.begin_by c (read.negation_with end (read.unary end left)) (read.binder_with end (suc left) (read.body end left)) app (λ tree after. Ok (tree, after)) (l ∷ ls)) parts
  side_by level h l ls parts class.Not e = negation_step level h l ls parts
  side_by level h l ls parts (class.Bind b) e = binder_step level h b l ls parts
  side_by level h l ls parts class.Atom e = app_step level h [] l ls parts class.Atom e ∙ keep end (app (l ∷ ls)) (λ tree. tree) parts
  side_by level h l ls parts c e = app_step level h [] l ls parts c e ∙ keep end (app (l ∷ ls)) (λ tree. tree) parts

  side_step : (level : ℕ) → level + suc left ≡ 501 → (ls : Ahead) (parts : List Part) → outcome end ls (side level ∷ parts) ≡ ends end (read.side_above end (suc left) left ls) parts
  unfolding outcome rule class_at read.refusal_at read.application_with read.item_with
  side_step level h [] parts = refl
  side_step level h (l ∷ ls) parts = rw (within level left l _ h) (side_by level h l ls parts (class_of l) refl)

  equals_by : (level : ℕ) → level + suc left ≡ 501 → (byte : ℕ) (first : Tree) (l : Lexeme) (ls : Ahead) (parts : List Part) (c : Class)
      → after_move end (rules.equals_by c level) l ls parts ≡ ends end (read.equation_by c end (read.side_above end (suc left) left) byte first (l ∷ ls)) parts
  unfolding rest outcome
  equals_by level h byte first l ls parts (class.Equal s) = side_step level h ls parts ∙ keep end (read.side_above end (suc left) left ls) _ parts
  equals_by level h byte first l ls parts _ = refl

  equals_step : (level : ℕ) → level + suc left ≡ 501 → (byte : ℕ) (first : Tree) (ls : Ahead) (parts : List Part) → outcome end ls (equals level ∷ parts) ≡ ends end (read.equation_with end (read.side_above end (suc left) left) byte first ls) parts
  unfolding outcome rule class_at read.equation_with
  equals_step level h byte first [] parts = refl
  equals_step level h byte first (l ∷ ls) parts = equals_by level h byte first l ls parts (class_of l)

  begin_term : (level : ℕ) → level + suc left ≡ 501 → (behind : List Part) (l : Lexeme) (ls : Ahead) (parts : List Part) (c : Class) → class_of l ≡ c
      → after_move end (rules.item_by c level (arguments level ∷ equals level ∷ behind) l) l ls parts ≡ ends end (read.term_above end (suc left) left (l ∷ ls)) (behind ++ parts)
  begin_term level h behind l ls parts c e =
      app_step level h (equals level ∷ behind) l ls parts c e
      ∙ compose end (app (l ∷ ls)) _ (equals level ∷ (behind ++ parts)) (behind ++ parts) (λ first l1. equals_step level h (byte_of (l ∷ ls)) first l1 (behind ++ parts))

  begin_by : (level : ℕ) → level + suc left ≡ 501 → (behind : List Part) (l : Lexeme) (ls : Ahead) (parts : List Part) (c : Class) → class_of l ≡ c
      → after_move end (rules.begin_by c level behind (arguments level ∷ equals level ∷ behind) l) l ls parts
      ≡ ends end (read.begin_by c (read.negation_with end (read.unary end left)) (read.binder_with end (suc left) (read.body end left)) app (read.equation_with end (read.side_above end (suc left) left) (byte_of (l ∷ ls))) (l ∷ ls)) (behind ++ parts)
  begin_by level h behind l ls parts class.Not e = negation_step level h l ls (behind ++ parts)
  begin_by level h behind l ls parts (class.Bind b) e = binder_step level h b l ls (behind ++ parts)
  begin_by level h behind l ls parts c e = begin_term level h behind l ls parts c e

  begin_step : (level : ℕ) → level + suc left ≡ 501 → (behind : List Part) (l : Lexeme) (ls : Ahead) (parts : List Part) → after_move end (begin_unary level behind l) l ls parts ≡ ends end (u (l ∷ ls)) (behind ++ parts)
  unfolding begin_unary read.unary_with class_at
  begin_step level h behind l ls parts = begin_by level h behind l ls parts (class_of l) refl

  unary_step : (level : ℕ) → level + suc left ≡ 501 → (ls : Ahead) (parts : List Part) → outcome end ls (unary level ∷ parts) ≡ ends end (u ls) parts
  unfolding outcome rule class_at read.refusal_at read.unary_with read.application_with read.item_with
  unary_step level h [] parts = refl
  unary_step level h (l ∷ ls) parts = rw (within level left l _ h) (begin_step level h [] l ls parts)

  body_step : (n level : ℕ) → level + suc left ≡ 501 → (ls : Ahead) (parts : List Part) → outcome end ls (unary (level + n) ∷ parts) ≡ ends end (read.body end (suc left) n ls) parts
  unfolding read.unary
  body_step zero level h ls parts = let same : level + 0 ≡ level = omega arith in ap (λ k. outcome end ls (unary k ∷ parts)) same ∙ unary_step level h ls parts
  body_step (suc n) level h ls parts = let same : level + suc n ≡ (level + 1) + n = omega arith in ap (λ k. outcome end ls (unary k ∷ parts)) same ∙ laws.body_law n (level + 1) (omega (arith, h)) ls parts

  argument_by : (level : ℕ) → level + suc left ≡ 501 → (found : List Tree) (l : Lexeme) (ls : Ahead) (parts : List Part) (c : Class) → class_of l ≡ c
      → after_move end (rules.argument_by c level l) l ls parts ≡ ends end (read.argument_by c end (read.binder_with end (suc left) (read.body end left)) (read.inside end left) (read.arguments end left) found (l ∷ ls)) parts
  unfolding read.item_with class_at
  argument_by level h found l ls parts (class.Bind b) e = binder_step level h b l ls parts ∙ keep end (read.binder_with end (suc left) (read.body end left) b (l ∷ ls)) _ parts
  argument_by level h found l ls parts c e =
      item_step level h (arguments level ∷ []) l ls parts c e
      ∙ ap (λ k. ends end (read.item_by k end (read.inside end left) (l ∷ ls)) (arguments level ∷ parts)) (sym e)
      ∙ compose end (read.item_by (class_of l) end (read.inside end left) (l ∷ ls)) _ (arguments level ∷ parts) parts (λ tree l1.
      laws.arguments_law level (omega (arith, h)) (found ++ tree ∷ []) l1 parts)

  argument_step : (level : ℕ) → level + suc left ≡ 501 → (found : List Tree) (ls : Ahead) (parts : List Part) → outcome end ls (argument level ∷ parts) ≡ ends end (read.argument_with end (suc left) (read.body end left) (read.inside end left) (read.arguments end left) found ls) parts
  unfolding outcome rule class_at read.refusal_at read.argument_with read.item_with
  argument_step level h found [] parts = refl
  argument_step level h found (l ∷ ls) parts = rw (within level left l _ h) (argument_by level h found l ls parts (class_of l) refl)

  arguments_by : (level : ℕ) → (level + 1) + suc left ≡ 501 → (found : List Tree) (l : Lexeme) (ls : Ahead) (parts : List Part) (c : Class)
      → after_move end (rules.arguments_by c level) l ls parts ≡ ends end (read.arguments_by c (read.argument_with end (suc left) (read.body end left) (read.inside end left) (read.arguments end left)) found (l ∷ ls)) parts
  unfolding rest outcome
  arguments_by level h found l ls parts class.Apply = argument_step (level + 1) h found ls parts
  arguments_by level h found l ls parts _ = refl

  arguments_step : (level : ℕ) → (level + 1) + suc left ≡ 501 → (found : List Tree) (ls : Ahead) (parts : List Part) → outcome end ls (arguments level ∷ parts) ≡ ends end (read.arguments end (suc left) found ls) parts
  unfolding outcome rule class_at read.unary
  arguments_step level h found [] parts = refl
  arguments_step level h found (l ∷ ls) parts = arguments_by level h found l ls parts (class_of l)

  or_by : (level : ℕ) → level + suc left ≡ 501 → (byte : ℕ) (first : Tree) (l : Lexeme) (ls : Ahead) (parts : List Part) (k : Class)
      → after_move end (rules.operands_by Or k level) l ls parts ≡ ends end (cond (continues Or k) (read.join_with Or (read.operands end left Or) byte first (l ∷ ls)) (Ok (first, l ∷ ls))) parts
  unfolding rest outcome
  or_by level h byte first l ls parts (class.Join Or) = laws.operands_law Or refl (level + 1) (omega (arith, h)) ls parts ∙ keep end (read.operands end left Or ls) _ parts
  or_by level h byte first l ls parts (class.Join _) = refl
  or_by level h byte first l ls parts _ = refl

  and_by : (level : ℕ) → level + suc left ≡ 501 → (byte : ℕ) (first : Tree) (l : Lexeme) (ls : Ahead) (parts : List Part) (k : Class)
      → after_move end (rules.operands_by And k level) l ls parts ≡ ends end (cond (continues And k) (read.join_with And (read.operands end left And) byte first (l ∷ ls)) (Ok (first, l ∷ ls))) parts
  unfolding rest outcome
  and_by level h byte first l ls parts (class.Join And) = laws.operands_law And refl (level + 1) (omega (arith, h)) ls parts ∙ keep end (read.operands end left And ls) _ parts
  and_by level h byte first l ls parts (class.Join _) = refl
  and_by level h byte first l ls parts _ = refl

  chain_by : (c : Connective) → is_chain c ≡ true → (level : ℕ) → level + suc left ≡ 501 → (byte : ℕ) (first : Tree) (ls : Ahead) (parts : List Part)
      → outcome end ls (operands c level ∷ parts) ≡ ends end (cond (continues c (class_at ls)) (read.join_with c (read.operands end left c) byte first ls) (Ok (first, ls))) parts
  unfolding outcome rule class_at
  chain_by Or k level h byte first [] parts = refl
  chain_by And k level h byte first [] parts = refl
  chain_by Or k level h byte first (l ∷ ls) parts = or_by level h byte first l ls parts (class_of l)
  chain_by And k level h byte first (l ∷ ls) parts = and_by level h byte first l ls parts (class_of l)
  chain_by _ k level h byte first ls parts = absurd cc

  operands_step : (c : Connective) → is_chain c ≡ true → (level : ℕ) → level + suc left ≡ 501 → (ls : Ahead) (parts : List Part) → outcome end ls (unary level ∷ operands c level ∷ parts) ≡ ends end (read.operands end (suc left) c ls) parts
  unfolding read.unary
  operands_step c k level h ls parts =
      unary_step level h ls (operands c level ∷ parts)
      ∙ compose end (u ls) _ (operands c level ∷ parts) parts (λ first l1. chain_by c k level h (byte_of ls) first l1 parts)

  joined_by : (level : ℕ) → level + suc left ≡ 501 → (byte : ℕ) (first : Tree) (l : Lexeme) (ls : Ahead) (parts : List Part) (c : Connective)
      → after_move end (rules.joined_by c level) l ls parts ≡ ends end (cond (is_chain c) (read.join_with c (read.operands end left c) byte first (l ∷ ls)) (read.join_with c u byte first (l ∷ ls))) parts
  unfolding rest
  joined_by level h byte first l ls parts Or = laws.operands_law Or refl (level + 1) (omega (arith, h)) ls parts ∙ keep end (read.operands end left Or ls) _ parts
  joined_by level h byte first l ls parts And = laws.operands_law And refl (level + 1) (omega (arith, h)) ls parts ∙ keep end (read.operands end left And ls) _ parts
  joined_by level h byte first l ls parts c = unary_step level h ls parts ∙ keep end (u ls) _ parts

  operators_by : (level : ℕ) → level + suc left ≡ 501 → (byte : ℕ) (first : Tree) (l : Lexeme) (ls : Ahead) (parts : List Part) (k : Class)
      → after_move end (rules.operators_by k level) l ls parts ≡ ends end (read.operators_by k u (λ c ls. read.operands end left c ls) byte first (l ∷ ls)) parts
  unfolding outcome
  operators_by level h byte first l ls parts (class.Join c) = joined_by level h byte first l ls parts c
  operators_by level h byte first l ls parts _ = refl

  operators_step : (level : ℕ) → level + suc left ≡ 501 → (byte : ℕ) (first : Tree) (ls : Ahead) (parts : List Part)
      → outcome end ls (operators level ∷ parts) ≡ ends end (read.operators_by (class_at ls) u (λ c ls. read.operands end left c ls) byte first ls) parts
  unfolding outcome rule class_at
  operators_step level h byte first [] parts = refl
  operators_step level h byte first (l ∷ ls) parts = operators_by level h byte first l ls parts (class_of l)

  abbrev formula_above : Ahead → Read Tree
  formula_above ls = read.formula_with end u (λ c ls. read.operands end left c ls) ls

  from_unary : (level : ℕ) → level + suc left ≡ 501 → (ls : Ahead) (parts : List Part) → ends end (u ls) (operators level ∷ parts) ≡ ends end (formula_above ls) parts
  from_unary level h ls parts = compose end (u ls) _ (operators level ∷ parts) parts (λ first l1. operators_step level h (byte_of ls) first l1 parts)

  formula_step : (level : ℕ) → level + suc left ≡ 501 → (ls : Ahead) (parts : List Part) → outcome end ls (unary level ∷ operators level ∷ parts) ≡ ends end (formula_above ls) parts
  formula_step level h ls parts = unary_step level h ls (operators level ∷ parts) ∙ from_unary level h ls parts

  -- what stands behind `( ~`

  begin_pushed : (c : Class) (deeper level : ℕ) (m : Lexeme) (parts : List Part) (x y : rules.Step)
      → moved (rules.begin_by c deeper (rules.in_brackets level) (arguments deeper ∷ equals deeper ∷ rules.in_brackets level) m) parts x ≡ moved (rules.begin_by c deeper [] (arguments deeper ∷ equals deeper ∷ []) m) (operators level ∷ mark CloseRound ∷ parts) y
  begin_pushed class.Not deeper level m parts x y = refl
  begin_pushed _ deeper level m parts x y = refl

  negated_moved : (k : Class) → read.is_close k ≡ false → (level : ℕ) (m : Lexeme) (parts : List Part) (x y : rules.Step)
      → moved (rules.negated_by k level m) parts x ≡ moved (within_levels (level + 1) m (begin_unary (level + 1) [] m)) (operators level ∷ mark CloseRound ∷ parts) y
  unfolding within_levels begin_unary
  negated_moved class.Close e level m parts x y = absurd cc
  negated_moved _ e level m parts x y = elim (or_false (nat_le (level + 1) 500)) [ inl t ↦ rw t (begin_pushed (class_of m) (level + 1) level m parts x y) | inr f ↦ rw f refl ]

  negated_open : (level : ℕ) (ls : Ahead) (parts : List Part) → read.is_close (class_at ls) ≡ false → outcome end ls (negated level ∷ parts) ≡ outcome end ls (unary (level + 1) ∷ operators level ∷ mark CloseRound ∷ parts)
  unfolding outcome rule class_at
  negated_open level [] parts e = refl
  negated_open level (m ∷ ms) parts e = ap (λ s. after_step s (outcome end ms)) (negated_moved (class_of m) e level m parts _ _)

  negated_close : (level : ℕ) (ls : Ahead) (parts : List Part) → read.is_close (class_at ls) ≡ true → outcome end ls (negated level ∷ parts) ≡ outcome end (rest ls) parts
  unfolding outcome rule class_at rest
  negated_close level [] parts t = absurd cc
  negated_close level (m ∷ ms) parts t = let e : class_of m ≡ class.Close = close_is (class_of m) t in rw e refl

  first_tilde : (level : ℕ) → level + suc left ≡ 501 → (l : Lexeme) (ls : Ahead) (parts : List Part) → class_of l ≡ class.Not → outcome end (l ∷ ls) (unary level ∷ parts) ≡ outcome end ls (unary (level + 1) ∷ parts)
  unfolding outcome rule begin_unary
  first_tilde level h l ls parts e = rw (within level left l _ h, e) refl

  not_inside : (level : ℕ) → level + suc left ≡ 501 → (byte : ℕ) (l : Lexeme) (ls : Ahead) (parts : List Part) → class_of l ≡ class.Not
      → outcome end ls (negated level ∷ parts) ≡ ends end (cond (read.is_close (class_at ls)) (Ok (at_byte byte node.Negation, rest ls)) (read.closed end (formula_above (l ∷ ls)))) parts
  not_inside level h byte l ls parts e = elim (or_false (read.is_close (class_at ls))) [
    | inl t ↦ rw t (negated_close level ls parts t)
    | inr f ↦ rw f (negated_open level ls parts f ∙ sym (first_tilde level h l ls (operators level ∷ mark CloseRound ∷ parts) e) ∙ formula_step level h (l ∷ ls) (mark CloseRound ∷ parts) ∙ close_table end (formula_above (l ∷ ls)) parts)
  ]

  inside_by : (level : ℕ) → level + suc left ≡ 501 → (byte : ℕ) (l : Lexeme) (ls : Ahead) (parts : List Part) (k : Class) → class_of l ≡ k
      → after_move end (rules.inside_by k level l) l ls parts ≡ ends end (read.inside_by k end formula_above byte (l ∷ ls)) parts
  unfolding rest read.equality_at
  inside_by level h byte l ls parts class.Not e = not_inside level h byte l ls parts e
  inside_by level h byte l ls parts (class.Join c) e = mark_table CloseRound end ls parts ∙ keep end (read_mark CloseRound end ls) _ parts
  inside_by level h byte l ls parts (class.Equal s) e = refl
  inside_by level h byte l ls parts _ e = begin_step level h (rules.in_brackets level) l ls parts ∙ from_unary level h (l ∷ ls) (mark CloseRound ∷ parts) ∙ close_table end (formula_above (l ∷ ls)) parts

  nothing_inside : (byte : ℕ) → read.inside_by (class_at []) end formula_above byte [] ≡ Err (Syntax end)
  unfolding class_at read.refusal_at read.unary_with read.application_with read.item_with
  nothing_inside byte = refl

  inside_end : (level byte : ℕ) (parts : List Part) → outcome end [] (inside level ∷ parts) ≡ ends end (read.inside_by (class_at []) end formula_above byte []) parts
  unfolding outcome
  inside_end level byte parts = rw (nothing_inside byte) refl

  inside_some : (level : ℕ) → level + suc left ≡ 501 → (byte : ℕ) (l : Lexeme) (ls : Ahead) (parts : List Part) → outcome end (l ∷ ls) (inside level ∷ parts) ≡ ends end (read.inside_by (class_at (l ∷ ls)) end formula_above byte (l ∷ ls)) parts
  unfolding outcome rule class_at
  inside_some level h byte l ls parts = rw (within level left l _ h) (inside_by level h byte l ls parts (class_of l) refl)

  inside_step : (level : ℕ) → level + suc left ≡ 501 → (byte : ℕ) (ls : Ahead) (parts : List Part) → outcome end ls (inside level ∷ parts) ≡ ends end (read.inside end (suc left) byte ls) parts
  unfolding read.unary
  inside_step level h byte [] parts = inside_end level byte parts
  inside_step level h byte (l ∷ ls) parts = inside_some level h byte l ls parts

  laws_suc : Laws end (suc left)
  unfolding read.unary
  laws_suc = record {
    unary_law = unary_step;
    body_law = body_step;
    arguments_law = arguments_step;
    operands_law = operands_step;
    formula_law = formula_step;
    inside_law = inside_step;
  }

laws : (end left : ℕ) → Laws end left
laws end zero = laws_zero end
laws end (suc left) = laws_suc end left (laws end left)

-- a formula at level 0
pub formula_table : (end : ℕ) (ls : Ahead) (parts : List Part) → outcome end ls (unary 0 ∷ operators 0 ∷ parts) ≡ ends end (read.formula end 501 ls) parts
formula_table end ls parts = (laws end 501).formula_law 0 refl ls parts
