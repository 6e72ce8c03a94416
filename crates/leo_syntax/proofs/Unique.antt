-- A text has one tree of the grammar at most: the one that is read, unless it is nested too deep.
use Rattle.std.proofs.Common.{◌≡◌, ℕ, zero, suc, ◌-◌, ◌<◌, ◌≤◌, Bool, true, false, List, [], ◌∷◌, ◌++◌, length, refl, subst, arith}
use Rattle.std.specs.Prelude.{Ok, Err, Option, Some, None}
use Rattle.leo_lex.specs.declared.mark.Mark.{Mark}
use Rattle.leo_lex.specs.declared.mark.Mark.TheVariants.{OpenRound, CloseRound, OpenSquare, CloseSquare, Comma, Dot, Colon}
use Rattle.leo_lex.specs.declared.token.Kind.{Kind}
use Rattle.leo_lex.specs.declared.token.Kind.TheVariants as kind
use Rattle.leo_syntax.specs.declared.classes.Class.{Class}
use Rattle.leo_syntax.specs.declared.classes.Class.TheVariants as class
use Rattle.leo_syntax.specs.declared.classes.Shape.{Shape}
use Rattle.leo_syntax.specs.declared.classes.Shape.TheVariants as shape
use Rattle.leo_syntax.specs.declared.classes.Bracket.{Bracket}
use Rattle.leo_syntax.specs.declared.classes.Keyword.TheVariants as keyword
use Rattle.leo_syntax.specs.declared.classes.Says.TheVariants as says
use Rattle.leo_syntax.specs.declared.classes.Guard.{Guard}
use Rattle.leo_syntax.specs.declared.classes.Guard.TheVariants as guard
use Rattle.leo_syntax.specs.declared.refusal.ReadRefusal.{ReadRefusal}
use Rattle.leo_syntax.specs.declared.refusal.ReadRefusal.TheVariants.{Deep}
use Rattle.leo_syntax.specs.declared.tree.Binder.{Binder}
use Rattle.leo_syntax.specs.declared.tree.Connective.{Connective}
use Rattle.leo_syntax.specs.declared.tree.Connective.TheVariants.{Or, And}
use Rattle.leo_syntax.specs.declared.tree.TypeTree.{TypeTree}
use Rattle.leo_syntax.specs.declared.tree.Variable.{Variable}
use Rattle.leo_syntax.specs.declared.tree.Tree.{Tree}
use Rattle.leo_syntax.specs.declared.tree.Node.TheVariants as node
use Rattle.leo_syntax.specs.declared.tree.Statement.{Statement}
use Rattle.leo_syntax.specs.declared.tree.Statement.TheVariants.{Include}
use Rattle.leo_syntax.specs.Classes.{class_by, mark_class, same_shape, guard_form}
use Rattle.leo_syntax.specs.Lexemes.{Lexeme, Ahead, is_mark_kind, same_mark, said_by, name_of, atom_of, lower_of, upper_of, quoted_of}
use Rattle.leo_syntax.specs.Reading as read
use Rattle.leo_syntax.specs.Reading.{Read, and_then, read_mark, read_said, read_guard, read_level, rest}
use Rattle.leo_syntax.specs.Grammar.{Takes, Says, Passes, sees, class_at, byte_of, at_byte, is_arrow, is_apply, is_equal, is_join, is_chain, continues, IsOperandType, type_atom, individual, truth, type_of_types, type_brackets, IsType, operand, function, IsVariable, variable, AreVariables, last_variable, next_variable, IsItem, atom, variable_item, symbol_item, negation_sign, connective_sign, brackets, AreArguments, none, more, binder_last, IsApplication, application, IsBinder, binder, IsNegation, negation, IsUnary, negated, bound, term, equation, IsSide, negated_side, bound_side, term_side, AreOperands, last, further, IsFormula, alone, chain, pair, IsTyping, typed_atom, typed_brackets, Turns, bracket_at, Annotates, matched, plain_token, opens, closes, IsEnding, bare, with_annotations, AreNames, last_name, next_name, IsSelection, whole, no_names, some_names, Begins, IsHead, IsStatement, formula_statement, typing_statement, include_statement}
use Rattle.leo_syntax.proofs.AnnotationSteps.{annotated_next}
use Rattle.leo_syntax.proofs.Names.{names_next}

abbrev pub IsDeep : ReadRefusal → Type 0
IsDeep (Deep byte) = Unit {0}
IsDeep _ = ⊥

-- what is read is that value, and that is left, or it is nested too deep
abbrev pub Reads : {A : Type 0} → Read A → A → Ahead → Type 0
Reads (Ok p) a after = (p.0 ≡ a) × (p.1 ≡ after)
Reads (Err e) a after = IsDeep e

-- a reader that refuses only what is nested too deep
abbrev pub OnlyDeep : {A : Type 0} → Read A → Type 0
OnlyDeep (Ok p) = Unit {0}
OnlyDeep (Err e) = IsDeep e

reads_then : {A B : Type 0} (r : Read A) (f : A → Ahead → Read B) (a : A) (mid : Ahead) (b : B) (after : Ahead) → Reads r a mid → Reads (f a mid) b after → Reads (and_then r f) b after
reads_then (Ok p) f a mid b after h k = rw (h.0, h.1) k
reads_then (Err e) f a mid b after h k = h

reads_skip : {A B : Type 0} (r : Read A) (f : Read B) (b : B) (after : Ahead) → OnlyDeep r → Reads f b after → Reads (and_then r (λ _ _. f)) b after
reads_skip (Ok p) f b after o h = h
reads_skip (Err e) f b after o h = o

-- ---- the next token

pub taken : {c : Class} {ls after : Ahead} → Takes c ls after → (class_at ls ≡ c) × (rest ls ≡ after)
unfolding class_at rest
taken h = rw h.ahead_is (h.class_is, refl)

pub passed : {m : Mark} {ls after : Ahead} → Passes m ls after → (sees m ls ≡ true) × (rest ls ≡ after)
unfolding sees rest
passed h = rw h.ahead_is (h.is_that, refl)

pub said : {A : Type 0} {f : Lexeme → Option A} {ls after : Ahead} {a : A} → Says f ls a after → (read.said_at f ls ≡ Some a) × (rest ls ≡ after)
unfolding read.said_at rest
said h = rw h.ahead_is (h.said, refl)

mark_reads : (m : Mark) (end : ℕ) (ls after : Ahead) → Passes m ls after → Reads (read_mark m end ls) tt after
mark_reads m end ls after h = let p = passed h in rw (p.0, p.1) (refl, refl)

said_reads : {A : Type 0} (f : Lexeme → Option A) (end : ℕ) (ls after : Ahead) (a : A) → Says f ls a after → Reads (read_said f end ls) a after
said_reads f end ls after a h = let p = said h in rw (p.0, p.1) (refl, refl)

-- ---- what may stand behind a part

-- a `(` behind an atom is refused
abbrev pub is_open : Class → Bool
is_open class.Open = true
is_open _ = false

-- behind a type more is
abbrev pub extends_type : Class → Bool
extends_type class.Open = true
extends_type class.Apply = true
extends_type class.Star = true
extends_type _ = false

-- what closes a part, or parts it from the next
abbrev pub closes_part : Class → Bool
closes_part class.Close = true
closes_part class.Other = true
closes_part _ = false

pub closes_type : (k : Class) → closes_part k ≡ true → extends_type k ≡ false
closes_type class.Close e = refl
closes_type class.Other e = refl
closes_type _ e = absurd cc

pub closes_term : (k : Class) → closes_part k ≡ true → is_open k ≡ false
closes_term class.Close e = refl
closes_term class.Other e = refl
closes_term _ e = absurd cc

pub round_mark : (m : Mark) → same_mark m CloseRound ≡ true → closes_part (mark_class m) ≡ true
unfolding same_mark mark_class
round_mark CloseRound e = refl
round_mark _ e = absurd cc

square_mark : (m : Mark) → same_mark m CloseSquare ≡ true → closes_part (mark_class m) ≡ true
unfolding same_mark mark_class
square_mark CloseSquare e = refl
square_mark _ e = absurd cc

comma_mark : (m : Mark) → same_mark m Comma ≡ true → closes_part (mark_class m) ≡ true
unfolding same_mark mark_class
comma_mark Comma e = refl
comma_mark _ e = absurd cc

mark_kind : (closer : Mark) → ((m : Mark) → same_mark m closer ≡ true → closes_part (mark_class m) ≡ true) → (k : Kind) (text : List ℕ) → is_mark_kind closer k ≡ true → closes_part (class_by k text) ≡ true
unfolding is_mark_kind class_by
mark_kind closer known (kind.Mark m) text e = known m e
mark_kind closer known _ text e = absurd cc

closes_at : (closer : Mark) → ((m : Mark) → same_mark m closer ≡ true → closes_part (mark_class m) ≡ true) → {ls after : Ahead} → Passes closer ls after → closes_part (class_at ls) ≡ true
unfolding class_at
closes_at closer known h = rw h.ahead_is (mark_kind closer known h.token.kind h.token.text h.is_that)

pub round_closes : {ls after : Ahead} → Passes CloseRound ls after → closes_part (class_at ls) ≡ true
round_closes h = closes_at CloseRound round_mark h

pub square_closes : {ls after : Ahead} → Passes CloseSquare ls after → closes_part (class_at ls) ≡ true
square_closes h = closes_at CloseSquare square_mark h

pub comma_closes : {ls after : Ahead} → Passes Comma ls after → closes_part (class_at ls) ≡ true
comma_closes h = closes_at Comma comma_mark h

pub guard_passes : (g : Guard) (end : ℕ) (ls : Ahead) → guard_form g (class_at ls) ≡ None → OnlyDeep (read_guard g end ls)
unfolding read_guard class_at
guard_passes g end [] e = tt
guard_passes g end (l ∷ ls) e = rw e tt

pub type_passes : (end : ℕ) (ls : Ahead) → extends_type (class_at ls) ≡ false → OnlyDeep (read_guard guard.BehindType end ls)
unfolding guard_form
type_passes end ls e = guard_passes guard.BehindType end ls (by (class_at ls) e)
  where
    by : (k : Class) → extends_type k ≡ false → guard_form guard.BehindType k ≡ None
    by class.Open e = absurd cc
    by class.Apply e = absurd cc
    by class.Star e = absurd cc
    by _ e = refl

pub atom_passes : (end : ℕ) (ls : Ahead) → is_open (class_at ls) ≡ false → OnlyDeep (read_guard guard.BehindAtom end ls)
unfolding guard_form
atom_passes end ls e = guard_passes guard.BehindAtom end ls (by (class_at ls) e)
  where
    by : (k : Class) → is_open k ≡ false → guard_form guard.BehindAtom k ≡ None
    by class.Open e = absurd cc
    by _ e = refl

pub bracket_passes : (end : ℕ) (ls : Ahead) → is_equal (class_at ls) ≡ false → OnlyDeep (read_guard guard.BehindBracket end ls)
unfolding guard_form
bracket_passes end ls e = guard_passes guard.BehindBracket end ls (by (class_at ls) e)
  where
    by : (k : Class) → is_equal k ≡ false → guard_form guard.BehindBracket k ≡ None
    by (class.Equal s) e = absurd cc
    by _ e = refl

-- ---- what stands beyond the last level

abbrev pub real : Class → Bool
real class.Other = false
real _ = true

is_deep : (end : ℕ) (ls : Ahead) → real (class_at ls) ≡ true → IsDeep (read.deep_at end ls)
unfolding class_at read.deep_at
is_deep end [] e = absurd cc
is_deep end (l ∷ ls) e = tt

level_passes : (end left : ℕ) (ls : Ahead) → real (class_at ls) ≡ true → OnlyDeep (read_level end left ls)
level_passes end zero ls e = is_deep end ls e
level_passes end (suc left) ls e = tt

closed_reads : {A : Type 0} (end : ℕ) (r : Read A) (a : A) (mid after : Ahead) → Reads r a mid → Passes CloseRound mid after → Reads (read.closed end r) a after
closed_reads end r a mid after h p = reads_then r _ a mid a after h (reads_then (read_mark CloseRound end mid) _ tt after a after (mark_reads CloseRound end mid after p) (refl, refl))

opened_reads : {A : Type 0} (end left : ℕ) (inner : Ahead → Read A) (ls : Ahead) (a : A) (mid after : Ahead) → real (class_at ls) ≡ true → is_equal (class_at ls) ≡ false → Reads (inner ls) a mid → Passes CloseRound mid after → Reads (read.opened end left inner ls) a after
opened_reads end left inner ls a mid after some plain h p = reads_skip (read_level end left ls) _ a after (level_passes end left ls some) (reads_skip (read_guard guard.BehindBracket end ls) _ a after (bracket_passes end ls plain) (closed_reads end (inner ls) a mid after h p))

atom_class : (k : Kind) (text a : List ℕ) → said_by says.Atom k text ≡ Some a → class_by k text ≡ class.Atom
unfolding class_by said_by
atom_class kind.Lower text a e = refl
atom_class kind.Quoted text a e = refl
atom_class _ text a e = absurd cc

upper_class : (k : Kind) (text a : List ℕ) → said_by says.Upper k text ≡ Some a → class_by k text ≡ class.Variable
unfolding class_by said_by
upper_class kind.Upper text a e = refl
upper_class _ text a e = absurd cc

pub says_atom : {ls after : Ahead} {a : List ℕ} → Says atom_of ls a after → class_at ls ≡ class.Atom
unfolding class_at
says_atom {a = a} h = rw h.ahead_is (atom_class h.token.kind h.token.text a h.said)

pub says_upper : {ls after : Ahead} {a : List ℕ} → Says upper_of ls a after → class_at ls ≡ class.Variable
unfolding class_at
says_upper {a = a} h = rw h.ahead_is (upper_class h.token.kind h.token.text a h.said)

-- ---- types

pub no_arrow : (k : Class) → is_arrow k ≡ false → (inner : Ahead → Read TypeTree) (byte : ℕ) (from : TypeTree) (ls : Ahead) → Reads (read.arrow_by k inner byte from ls) from ls
no_arrow class.Arrow e inner byte from ls = absurd cc
no_arrow _ e inner byte from ls = (refl, refl)

abbrev pub begins_type : Class → Bool
begins_type class.Atom = true
begins_type class.Individual = true
begins_type class.Truth = true
begins_type class.TypeOfTypes = true
begins_type class.Open = true
begins_type _ = false

operand_begins : {ls after : Ahead} {t : TypeTree} → IsOperandType ls t after → begins_type (class_at ls) ≡ true
operand_begins (type_atom h) = rw (says_atom h) refl
operand_begins (individual h) = rw (taken h).0 refl
operand_begins (truth h) = rw (taken h).0 refl
operand_begins (type_of_types h) = rw (taken h).0 refl
operand_begins (type_brackets h i p) = rw (taken h).0 refl

pub type_begins : {ls after : Ahead} {t : TypeTree} → IsType ls t after → begins_type (class_at ls) ≡ true
type_begins (operand h e) = operand_begins h
type_begins (function h t k) = operand_begins h

pub type_real : (k : Class) → begins_type k ≡ true → (real k ≡ true) × (is_equal k ≡ false)
type_real class.Other e = absurd cc
type_real (class.Equal s) e = absurd cc
type_real _ e = (refl, refl)

operand_reads : (end left : ℕ) (inner : Ahead → Read TypeTree) → ((ls after : Ahead) (t : TypeTree) → IsType ls t after → extends_type (class_at after) ≡ false → Reads (inner ls) t after) → {ls after : Ahead} {t : TypeTree} → IsOperandType ls t after → Reads (read.operand_type_with end left inner ls) t after
unfolding read.operand_type_with
operand_reads end left inner known (type_atom {ls = ls} {after = after} {name = name} h) = rw (says_atom h) (reads_then (read_said atom_of end ls) _ name after _ after (said_reads atom_of end ls after name h) (refl, refl))
operand_reads end left inner known (individual h) = let m = taken h in rw (m.0, m.1) (refl, refl)
operand_reads end left inner known (truth h) = let m = taken h in rw (m.0, m.1) (refl, refl)
operand_reads end left inner known (type_of_types h) = let m = taken h in rw (m.0, m.1) (refl, refl)
operand_reads end left inner known (type_brackets {ls = ls} {l1 = l1} {l2 = l2} {after = after} {ty = t} h i p) =
    let m = taken h in
    let b = type_real (class_at l1) (type_begins i) in
    rw (m.0, m.1) (opened_reads end left inner l1 t l2 after b.0 b.1 (known l1 l2 t i (closes_type (class_at l2) (round_closes p))) p)

type_by : (end left : ℕ) → ((ls after : Ahead) (t : TypeTree) → IsType ls t after → extends_type (class_at after) ≡ false → Reads (read.ty end left ls) t after) → {ls after : Ahead} {t : TypeTree} → IsType ls t after → extends_type (class_at after) ≡ false → Reads (read.type_with end left (read.ty end left) ls) t after
unfolding read.type_with
type_by end left known (operand {ls = ls} {after = after} {ty = t} h e) q =
    reads_then (read.operand_type_with end left (read.ty end left) ls) _ t after t after (operand_reads end left (read.ty end left) known h)
    (reads_skip (read_guard guard.BehindType end after) _ t after (type_passes end after q) (no_arrow (class_at after) e (read.ty end left) (byte_of ls) t after))
type_by end left known (function {ls = ls} {l1 = l1} {l2 = l2} {after = after} {from = from} {to = to} h t k) q =
    let m = taken t in
    let free : extends_type (class_at l1) ≡ false = rw m.0 refl in
    reads_then (read.operand_type_with end left (read.ty end left) ls) _ from l1 _ after (operand_reads end left (read.ty end left) known h)
    (reads_skip (read_guard guard.BehindType end l1) _ _ after (type_passes end l1 free) (rw (m.0, m.1) (reads_then (read.ty end left l2) _ to after _ after (known l2 after to k q) (refl, refl))))

pub type_reads : (end left : ℕ) (ls after : Ahead) (t : TypeTree) → IsType ls t after → extends_type (class_at after) ≡ false → Reads (read.ty end left ls) t after
unfolding read.ty
type_reads end zero ls after t h q = is_deep end ls (type_real (class_at ls) (type_begins h)).0
type_reads end (suc left) ls after t h q = type_by end left (type_reads end left) h q

-- ---- variables

variable_reads : (end left : ℕ) {ls after : Ahead} {v : Variable} → IsVariable ls v after → extends_type (class_at after) ≡ false → Reads (read.variable end left ls) v after
unfolding read.variable
variable_reads end left (variable {ls = ls} {l1 = l1} {l2 = l2} {after = after} {name = name} {ty = t} h p k) q =
    reads_then (read_said upper_of end ls) _ name l1 _ after (said_reads upper_of end ls l1 name h) (
    reads_then (read_mark Colon end l1) _ tt l2 _ after (mark_reads Colon end l1 l2 p) (
    reads_then (read.ty end left l2) _ t after _ after (type_reads end left l2 after t k q) (refl, refl)))

-- a part takes a token at least

pub takes_less : {c : Class} {ls after : Ahead} → Takes c ls after → length after < length ls
takes_less h = rw h.ahead_is (omega arith)

pub passes_less : {m : Mark} {ls after : Ahead} → Passes m ls after → length after < length ls
passes_less h = rw h.ahead_is (omega arith)

pub says_less : {A : Type 0} {f : Lexeme → Option A} {ls after : Ahead} {a : A} → Says f ls a after → length after < length ls
says_less h = rw h.ahead_is (omega arith)

mutual
  operand_less : {ls after : Ahead} {t : TypeTree} → IsOperandType ls t after → length after < length ls
  operand_less (type_atom h) = says_less h
  operand_less (individual h) = takes_less h
  operand_less (truth h) = takes_less h
  operand_less (type_of_types h) = takes_less h
  operand_less (type_brackets h i p) = omega (arith, takes_less h, type_less i, passes_less p)

  pub type_less : {ls after : Ahead} {t : TypeTree} → IsType ls t after → length after < length ls
  type_less (operand h e) = operand_less h
  type_less (function h t k) = omega (arith, operand_less h, takes_less t, type_less k)

pub variable_less : {ls after : Ahead} {v : Variable} → IsVariable ls v after → length after < length ls
variable_less (variable h p k) = omega (arith, says_less h, passes_less p, type_less k)

variables_some : {ls after : Ahead} {vs : List Variable} → AreVariables ls vs after → 0 < length ls
variables_some (last_variable h e) = omega (arith, variable_less h)
variables_some (next_variable h p k) = omega (arith, variable_less h)

variables_reads : (n end left : ℕ) {ls after : Ahead} {vs : List Variable} → AreVariables ls vs after → length ls ≤ n → extends_type (class_at after) ≡ false → Reads (read.variables n end left ls) vs after
unfolding read.variables
variables_reads zero end left h o q = absurd (omega (arith, variables_some h, o))
variables_reads (suc n) end left (last_variable {ls = ls} {after = after} {v = v} h e) o q = reads_then (read.variable end left ls) _ v after _ after (variable_reads end left h q) (rw e (refl, refl))
variables_reads (suc n) end left (next_variable {ls = ls} {l1 = l1} {l2 = l2} {after = after} {v = v} {vs = vs} h p k) o q =
    let m = passed p in
    reads_then (read.variable end left ls) _ v l1 _ after (variable_reads end left h (closes_type (class_at l1) (comma_closes p)))
    (rw (m.0, m.1) (reads_then (read.variables n end left l2) _ vs after _ after (variables_reads n end left k (omega (arith, variable_less h, passes_less p, o)) q) (refl, refl)))

-- ---- what a part begins with

abbrev pub begins_item : Class → Bool
begins_item class.Atom = true
begins_item class.Variable = true
begins_item (class.Symbol s) = true
begins_item class.Open = true
begins_item _ = false

abbrev pub begins_unary : Class → Bool
begins_unary class.Not = true
begins_unary (class.Bind b) = true
begins_unary k = begins_item k

pub item_begins : {ls after : Ahead} {tree : Tree} → IsItem ls tree after → begins_item (class_at ls) ≡ true
item_begins (atom h) = rw (says_atom h) refl
item_begins (variable_item h) = rw (says_upper h) refl
item_begins (symbol_item h) = rw (taken h).0 refl
item_begins (negation_sign h k m) = rw (taken h).0 refl
item_begins (connective_sign h k m) = rw (taken h).0 refl
item_begins (brackets h k m) = rw (taken h).0 refl

pub application_begins : {ls after : Ahead} {tree : Tree} → IsApplication ls tree after → begins_item (class_at ls) ≡ true
application_begins (application i a) = item_begins i

pub item_unary : (k : Class) → begins_item k ≡ true → begins_unary k ≡ true
item_unary class.Not e = refl
item_unary (class.Bind b) e = refl
item_unary _ e = e

binder_class : {ls after : Ahead} {tree : Tree} → IsBinder ls tree after → (b : Binder) × (class_at ls ≡ class.Bind b)
binder_class (binder {b = b} t p vs q r u) = (b, (taken t).0)

pub unary_begins : {ls after : Ahead} {tree : Tree} → IsUnary ls tree after → begins_unary (class_at ls) ≡ true
unary_begins (negated (negation t u)) = rw (taken t).0 refl
unary_begins (bound h) = rw (binder_class h).1 refl
unary_begins {ls} (term a e) = item_unary (class_at ls) (application_begins a)
unary_begins {ls} (equation a t s) = item_unary (class_at ls) (application_begins a)

pub not_close : (k : Class) → begins_unary k ≡ true → read.is_close k ≡ false
not_close class.Close e = absurd cc
not_close _ e = refl

tilde_by : (ls : Ahead) → class_at ls ≡ class.Not → begins_item (class_at ls) ≡ true → ⊥
tilde_by ls e h = let f : begins_item class.Not ≡ true = subst (λ k. begins_item k ≡ true) e h in absurd cc

-- no bracket closes behind a `~` that begins a unary
pub open_tilde : {ls after : Ahead} {tree : Tree} → IsUnary ls tree after → class_at ls ≡ class.Not → read.is_close (class_at (rest ls)) ≡ false
open_tilde (negated (negation {l1 = l1} t u)) e = rw (taken t).1 (not_close (class_at l1) (unary_begins u))
open_tilde {ls} (bound h) e = let f = (binder_class h).1 in absurd cc
open_tilde {ls} (term a f) e = absurd (tilde_by ls e (application_begins a))
open_tilde {ls} (equation a t s) e = absurd (tilde_by ls e (application_begins a))

unary_real : (k : Class) → begins_unary k ≡ true → real k ≡ true
unary_real class.Other e = absurd cc
unary_real _ e = refl

unary_deep : (end : ℕ) (ls : Ahead) → begins_unary (class_at ls) ≡ true → IsDeep (read.deep_at end ls)
unary_deep end ls e = is_deep end ls (unary_real (class_at ls) e)

operands_begin : {c : Connective} {ls after : Ahead} {tree : Tree} → AreOperands c ls tree after → begins_unary (class_at ls) ≡ true
operands_begin (last u e) = unary_begins u
operands_begin (further u t o) = unary_begins u

-- what stands behind an item where arguments may follow
arguments_front : {found all : List Tree} {ls after : Ahead} → AreArguments found ls all after → is_open (class_at after) ≡ false → is_open (class_at ls) ≡ false
arguments_front (none e) q = q
arguments_front (more t i a) q = rw (taken t).0 refl
arguments_front (binder_last t b) q = rw (taken t).0 refl

pub formula_front : {ls after : Ahead} {tree : Tree} → IsFormula ls tree after → (begins_unary (class_at ls) ≡ true) × (class_at ls ≡ class.Not → read.is_close (class_at (rest ls)) ≡ false)
formula_front (alone u e) = (unary_begins u, open_tilde u)
formula_front (chain k u t o) = (unary_begins u, open_tilde u)
formula_front (pair k u t o) = (unary_begins u, open_tilde u)

-- ---- formulas

pub begin_default : (k : Class) → begins_item k ≡ true → (n : Ahead → Read Tree) (b : Binder → Ahead → Read Tree) (a : Ahead → Read Tree) (f : Tree → Ahead → Read Tree) (ls : Ahead) → read.begin_by k n b a f ls ≡ and_then (a ls) f
begin_default class.Not e n b a f ls = absurd cc
begin_default (class.Bind x) e n b a f ls = absurd cc
begin_default _ e n b a f ls = refl

pub argument_default : (k : Class) → begins_item k ≡ true → (end : ℕ) (b : Binder → Ahead → Read Tree) (i : ℕ → Ahead → Read Tree) (a : List Tree → Ahead → Read (List Tree)) (found : List Tree) (ls : Ahead)
    → read.argument_by k end b i a found ls ≡ and_then (read.item_with end i ls) (λ argument. a (found ++ argument ∷ []))
argument_default (class.Bind x) e end b i a found ls = absurd cc
argument_default _ e end b i a found ls = refl

pub no_equation : (k : Class) → is_equal k ≡ false → (end : ℕ) (side : Ahead → Read Tree) (byte : ℕ) (first : Tree) (ls : Ahead) → Reads (read.equation_by k end side byte first ls) first ls
no_equation (class.Equal s) e end side byte first ls = absurd cc
no_equation _ e end side byte first ls = (refl, refl)

pub no_argument : (k : Class) → is_apply k ≡ false → (argument : List Tree → Ahead → Read (List Tree)) (found : List Tree) (ls : Ahead) → Reads (read.arguments_by k argument found ls) found ls
no_argument class.Apply e argument found ls = absurd cc
no_argument _ e argument found ls = (refl, refl)

pub no_operator : (k : Class) → is_join k ≡ false → (u : Ahead → Read Tree) (o : Connective → Ahead → Read Tree) (byte : ℕ) (first : Tree) (ls : Ahead) → Reads (read.operators_by k u o byte first ls) first ls
no_operator (class.Join c) e u o byte first ls = absurd cc
no_operator _ e u o byte first ls = (refl, refl)

pub continues_chain : (c : Connective) → is_chain c ≡ true → continues c (class.Join c) ≡ true
continues_chain Or e = refl
continues_chain And e = refl
continues_chain _ e = absurd cc

pub record Unique (end left : ℕ) : Type 0 where
  pub unary_reads : {ls after : Ahead} {tree : Tree} → IsUnary ls tree after → is_open (class_at after) ≡ false → Reads (read.unary end left ls) tree after
  pub body_reads : (n : ℕ) {ls after : Ahead} {tree : Tree} → IsUnary ls tree after → is_open (class_at after) ≡ false → Reads (read.body end left n ls) tree after
  pub arguments_reads : {found all : List Tree} {ls after : Ahead} → AreArguments found ls all after → is_open (class_at after) ≡ false → Reads (read.arguments end left found ls) all after
  pub operands_reads : {c : Connective} {ls after : Ahead} {tree : Tree} → is_chain c ≡ true → AreOperands c ls tree after → is_open (class_at after) ≡ false → Reads (read.operands end left c ls) tree after
  pub formula_reads : {ls after : Ahead} {tree : Tree} → IsFormula ls tree after → is_open (class_at after) ≡ false → Reads (read.formula end left ls) tree after
  pub negation_inside : {ls l1 after : Ahead} (byte : ℕ) → Takes class.Not ls l1 → Takes class.Close l1 after → Reads (read.inside end left byte ls) (at_byte byte node.Negation) after
  pub connective_inside : {ls l1 after : Ahead} {c : Connective} (byte : ℕ) → Takes (class.Join c) ls l1 → Passes CloseRound l1 after → Reads (read.inside end left byte ls) (at_byte byte (node.Connective c)) after
  pub formula_inside : {ls l1 after : Ahead} {tree : Tree} (byte : ℕ) → IsFormula ls tree l1 → Passes CloseRound l1 after → Reads (read.inside end left byte ls) tree after

arguments_zero : (end : ℕ) {found all : List Tree} {ls after : Ahead} → AreArguments found ls all after → Reads (read.arguments_by (class_at ls) (λ found ls. Err (read.deep_at end ls)) found ls) all after
arguments_zero end (none {found = found} {ls = ls} e) = no_argument (class_at ls) e _ found ls
arguments_zero end (more {l1 = l1} t i a) = let m = taken t in rw (m.0, m.1) (unary_deep end l1 (item_unary (class_at l1) (item_begins i)))
arguments_zero end (binder_last {l1 = l1} t b) = let m = taken t in rw (m.0, m.1) (unary_deep end l1 (rw (binder_class b).1 refl))

unary_zero : (end : ℕ) {ls after : Ahead} {tree : Tree} → IsUnary ls tree after → IsDeep (read.deep_at end ls)
unary_zero end {ls} h = unary_deep end ls (unary_begins h)

operands_zero : (end : ℕ) {c : Connective} {ls after : Ahead} {tree : Tree} → AreOperands c ls tree after → IsDeep (read.deep_at end ls)
operands_zero end {ls = ls} h = unary_deep end ls (operands_begin h)

formula_zero : (end : ℕ) {ls after : Ahead} {tree : Tree} → IsFormula ls tree after → IsDeep (read.deep_at end ls)
formula_zero end {ls} h = unary_deep end ls (formula_front h).0

taken_zero : (end : ℕ) {c : Class} {ls after : Ahead} → Takes c ls after → real c ≡ true → IsDeep (read.deep_at end ls)
taken_zero end {c} {ls} h e = is_deep end ls (rw (taken h).0 e)

unique_zero : (end : ℕ) → Unique end 0
unfolding read.unary
unique_zero end = record {
  unary_reads = λ h q. unary_zero end h;
  body_reads = λ n h q. unary_zero end h;
  arguments_reads = λ h q. arguments_zero end h;
  operands_reads = λ k h q. operands_zero end h;
  formula_reads = λ h q. formula_zero end h;
  negation_inside = λ byte h k. taken_zero end h refl;
  connective_inside = λ byte h k. taken_zero end h refl;
  formula_inside = λ byte h k. formula_zero end h;
}

module _ (end left : ℕ) (known : Unique end left) where
  items : {ls after : Ahead} {tree : Tree} → IsItem ls tree after → is_open (class_at after) ≡ false → Reads (read.item_with end (read.inside end left) ls) tree after
  unfolding read.item_with
  items (atom {ls = ls} {after = after} {name = name} h) q = rw (says_atom h) (reads_then (read_said atom_of end ls) _ name after _ after (said_reads atom_of end ls after name h) (reads_skip (read_guard guard.BehindAtom end after) _ _ after (atom_passes end after q) (refl, refl)))
  items (variable_item {ls = ls} {after = after} {name = name} h) q = rw (says_upper h) (reads_then (read_said upper_of end ls) _ name after _ after (said_reads upper_of end ls after name h) (refl, refl))
  items (symbol_item h) q = let m = taken h in rw (m.0, m.1) (refl, refl)
  items (negation_sign {ls = ls} h t k) q = let m = taken h in rw (m.0, m.1) (known.negation_inside (byte_of ls) t k)
  items (connective_sign {ls = ls} h t k) q = let m = taken h in rw (m.0, m.1) (known.connective_inside (byte_of ls) t k)
  items (brackets {ls = ls} h t k) q = let m = taken h in rw (m.0, m.1) (known.formula_inside (byte_of ls) t k)

  applications : {ls after : Ahead} {tree : Tree} → IsApplication ls tree after → is_open (class_at after) ≡ false → Reads (read.application_with end (read.inside end left) (read.arguments end left) ls) tree after
  unfolding read.application_with
  applications (application {ls = ls} {l1 = l1} {after = after} {head = head} {all = all} i a) q =
      reads_then (read.item_with end (read.inside end left) ls) _ head l1 _ after (items i (arguments_front a q)) (reads_then (read.arguments end left [] l1) _ all after _ after (known.arguments_reads a q) (refl, refl))

  binders : {ls after : Ahead} {tree : Tree} → IsBinder ls tree after → is_open (class_at after) ≡ false → (b : Binder) → class_at ls ≡ class.Bind b → Reads (read.binder_with end (suc left) (read.body end left) b ls) tree after
  binders (binder {ls = ls} {l1 = l1} {l2 = l2} {l3 = l3} {l4 = l4} {l5 = l5} {after = after} {b = c} {vs = vs} {body = body} t p v q r u) f b e =
      let m = taken t in
      let same : b ≡ c = cc in
      rw (m.1, same) (
      reads_then (read_mark OpenSquare end l1) _ tt l2 _ after (mark_reads OpenSquare end l1 l2 p) (
      reads_then (read.variables (length l2) end (suc left) l2) _ vs l3 _ after (variables_reads (length l2) end (suc left) v (omega arith) (closes_type (class_at l3) (square_closes q))) (
      reads_then (read_mark CloseSquare end l3) _ tt l4 _ after (mark_reads CloseSquare end l3 l4 q) (
      reads_then (read_mark Colon end l4) _ tt l5 _ after (mark_reads Colon end l4 l5 r) (
      reads_then (read.body end left (length vs - 1) l5) _ body after _ after (known.body_reads (length vs - 1) u f) (refl, refl))))))

  negations : {ls after : Ahead} {tree : Tree} → IsNegation ls tree after → is_open (class_at after) ≡ false → (class_at ls ≡ class.Not) × Reads (read.negation_with end (read.unary end left) ls) tree after
  negations (negation {ls = ls} {l1 = l1} {after = after} {tree = tree} t u) q = let m = taken t in (m.0, rw m.1 (reads_then (read.unary end left l1) _ tree after _ after (known.unary_reads u q) (refl, refl)))

  sides : {ls after : Ahead} {tree : Tree} → IsSide ls tree after → is_open (class_at after) ≡ false → Reads (read.side_above end (suc left) left ls) tree after
  sides (negated_side h) q = let m = negations h q in rw m.0 m.1
  sides (bound_side h) q = let m = binder_class h in rw m.1 (binders h q m.0 m.1)
  sides (term_side {ls = ls} {after = after} {tree = tree} h) q = rw (begin_default (class_at ls) (application_begins h) _ _ _ _ ls) (reads_then (read.application_with end (read.inside end left) (read.arguments end left) ls) _ tree after tree after (applications h q) (refl, refl))

  unaries : {ls after : Ahead} {tree : Tree} → IsUnary ls tree after → is_open (class_at after) ≡ false → Reads (read.unary_with end (suc left) (read.unary end left) (read.body end left) (read.inside end left) (read.arguments end left) ls) tree after
  unfolding read.unary_with read.equation_with
  unaries (negated h) q = let m = negations h q in rw m.0 m.1
  unaries (bound h) q = let m = binder_class h in rw m.1 (binders h q m.0 m.1)
  unaries (term {ls = ls} {after = after} {tree = tree} h e) q = rw (begin_default (class_at ls) (application_begins h) _ _ _ _ ls)
      (reads_then (read.application_with end (read.inside end left) (read.arguments end left) ls) _ tree after tree after (applications h q) (no_equation (class_at after) e end _ (byte_of ls) tree after))
  unaries (equation {ls = ls} {l1 = l1} {l2 = l2} {after = after} {left = first} {right = right} h t s) q =
      let m = taken t in
      rw (begin_default (class_at ls) (application_begins h) _ _ _ _ ls)
      (reads_then (read.application_with end (read.inside end left) (read.arguments end left) ls) _ first l1 _ after (applications h (rw m.0 refl))
      (rw (m.0, m.1) (reads_then (read.side_above end (suc left) left l2) _ right after _ after (sides s q) (refl, refl))))

  bodies : (n : ℕ) {ls after : Ahead} {tree : Tree} → IsUnary ls tree after → is_open (class_at after) ≡ false → Reads (read.body end (suc left) n ls) tree after
  unfolding read.unary
  bodies zero h q = unaries h q
  bodies (suc n) h q = known.body_reads n h q

  arguments : {found all : List Tree} {ls after : Ahead} → AreArguments found ls all after → is_open (class_at after) ≡ false → Reads (read.arguments end (suc left) found ls) all after
  unfolding read.unary read.argument_with
  arguments (none {found = found} {ls = ls} e) q = no_argument (class_at ls) e _ found ls
  arguments (more {found = found} {all = all} {argument = argument} {ls = ls} {l1 = l1} {l2 = l2} {after = after} t i a) q =
      let m = taken t in
      rw (m.0, m.1, argument_default (class_at l1) (item_begins i) end (read.binder_with end (suc left) (read.body end left)) (read.inside end left) (read.arguments end left) found l1)
      (reads_then (read.item_with end (read.inside end left) l1) _ argument l2 all after (items i (arguments_front a q)) (known.arguments_reads a q))
  arguments (binder_last {found = found} {argument = argument} {ls = ls} {l1 = l1} {after = after} t h) q =
      let m = taken t in
      let b = binder_class h in
      rw (m.0, m.1, b.1) (reads_then (read.binder_with end (suc left) (read.body end left) b.0 l1) _ argument after _ after (binders h q b.0 b.1) (refl, refl))

  operands : {c : Connective} {ls after : Ahead} {tree : Tree} → is_chain c ≡ true → AreOperands c ls tree after → is_open (class_at after) ≡ false → Reads (read.operands end (suc left) c ls) tree after
  unfolding read.unary
  operands k (last {c = c} {ls = ls} {after = after} {tree = tree} u e) q = reads_then (read.unary_with end (suc left) (read.unary end left) (read.body end left) (read.inside end left) (read.arguments end left) ls) _ tree after tree after (unaries u q) (rw e (refl, refl))
  operands k (further {c = c} {ls = ls} {l1 = l1} {l2 = l2} {after = after} {left = first} {right = right} u t o) q =
      let m = taken t in
      reads_then (read.unary_with end (suc left) (read.unary end left) (read.body end left) (read.inside end left) (read.arguments end left) ls) _ first l1 _ after (unaries u (rw m.0 refl))
      (rw (m.0, m.1, continues_chain c k) (reads_then (read.operands end left c l2) _ right after _ after (known.operands_reads k o q) (refl, refl)))

  abbrev formula_above : Ahead → Read Tree
  formula_above ls = read.formula_with end (read.unary_with end (suc left) (read.unary end left) (read.body end left) (read.inside end left) (read.arguments end left)) (λ c ls. read.operands end left c ls) ls

  formulas : {ls after : Ahead} {tree : Tree} → IsFormula ls tree after → is_open (class_at after) ≡ false → Reads (formula_above ls) tree after
  formulas (alone {ls = ls} {after = after} {tree = tree} u e) q = reads_then (read.unary_with end (suc left) (read.unary end left) (read.body end left) (read.inside end left) (read.arguments end left) ls) _ tree after tree after (unaries u q) (no_operator (class_at after) e _ _ (byte_of ls) tree after)
  formulas (chain {ls = ls} {l1 = l1} {l2 = l2} {after = after} {left = first} {right = right} {c = c} k u t o) q =
      let m = taken t in
      reads_then (read.unary_with end (suc left) (read.unary end left) (read.body end left) (read.inside end left) (read.arguments end left) ls) _ first l1 _ after (unaries u (rw m.0 refl))
      (rw (m.0, m.1, k) (reads_then (read.operands end left c l2) _ right after _ after (known.operands_reads k o q) (refl, refl)))
  formulas (pair {ls = ls} {l1 = l1} {l2 = l2} {after = after} {left = first} {right = right} {c = c} k u t o) q =
      let m = taken t in
      reads_then (read.unary_with end (suc left) (read.unary end left) (read.body end left) (read.inside end left) (read.arguments end left) ls) _ first l1 _ after (unaries u (rw m.0 refl))
      (rw (m.0, m.1, k) (reads_then (read.unary_with end (suc left) (read.unary end left) (read.body end left) (read.inside end left) (read.arguments end left) l2) _ right after _ after (unaries o q) (refl, refl)))

  inside_by : (byte : ℕ) (ls : Ahead) (tree : Tree) (after : Ahead) (k : Class) → class_at ls ≡ k → begins_unary k ≡ true → (class_at ls ≡ class.Not → read.is_close (class_at (rest ls)) ≡ false) → Reads (read.closed end (formula_above ls)) tree after → Reads (read.inside_by k end formula_above byte ls) tree after
  inside_by byte ls tree after class.Not e b n h = rw (n e) h
  inside_by byte ls tree after (class.Join c) e b n h = absurd cc
  inside_by byte ls tree after (class.Equal s) e b n h = absurd cc
  inside_by byte ls tree after _ e b n h = h

  formulas_inside : {ls l1 after : Ahead} {tree : Tree} (byte : ℕ) → IsFormula ls tree l1 → Passes CloseRound l1 after → Reads (read.inside end (suc left) byte ls) tree after
  unfolding read.unary
  formulas_inside {ls} {l1} {after} {tree} byte h p = let f = formula_front h in inside_by byte ls tree after (class_at ls) refl f.0 f.1 (closed_reads end (formula_above ls) tree l1 after (formulas h (closes_term (class_at l1) (round_closes p))) p)

  negations_inside : {ls l1 after : Ahead} (byte : ℕ) → Takes class.Not ls l1 → Takes class.Close l1 after → Reads (read.inside end (suc left) byte ls) (at_byte byte node.Negation) after
  unfolding read.unary
  negations_inside byte h k = let m = taken h in let n = taken k in rw (m.0, m.1, n.0, n.1) (refl, refl)

  connectives_inside : {ls l1 after : Ahead} {c : Connective} (byte : ℕ) → Takes (class.Join c) ls l1 → Passes CloseRound l1 after → Reads (read.inside end (suc left) byte ls) (at_byte byte (node.Connective c)) after
  unfolding read.unary
  connectives_inside {ls} {l1} {after} byte h p = let m = taken h in rw (m.0, m.1) (reads_then (read_mark CloseRound end l1) _ tt after _ after (mark_reads CloseRound end l1 after p) (refl, refl))

  unique_suc : Unique end (suc left)
  unfolding read.unary
  unique_suc = record { unary_reads = λ h q. unaries h q; body_reads = λ n h q. bodies n h q; arguments_reads = λ h q. arguments h q; operands_reads = λ k h q. operands k h q; formula_reads = λ h q. formulas h q; negation_inside = λ byte h k. negations_inside byte h k; connective_inside = λ byte h k. connectives_inside byte h k; formula_inside = λ byte h k. formulas_inside byte h k }

unique : (end left : ℕ) → Unique end left
unique end zero = unique_zero end
unique end (suc left) = unique_suc end left (unique end left)

-- ---- typings

atom_reads : (end left : ℕ) (ls l1 l2 after : Ahead) (name : List ℕ) (t : TypeTree) → Says atom_of ls name l1 → Passes Colon l1 l2 → IsType l2 t after → extends_type (class_at after) ≡ false → Reads (read.typed end left ls) (record { atom = name; atom_byte = byte_of ls; ty = t }) after
unfolding read.typed
atom_reads end left ls l1 l2 after name t h p k q =
    reads_then (read_said atom_of end ls) _ name l1 _ after (said_reads atom_of end ls l1 name h) (
    reads_then (read_mark Colon end l1) _ tt l2 _ after (mark_reads Colon end l1 l2 p) (
    reads_then (read.ty end left l2) _ t after _ after (type_reads end left l2 after t k q) (refl, refl)))

typing_begins : {ls after : Ahead} {name : List ℕ} {byte : ℕ} {t : TypeTree} → IsTyping ls name byte t after → begins_type (class_at ls) ≡ true
typing_begins (typed_atom h p k) = rw (says_atom h) refl
typing_begins (typed_brackets h i p) = rw (taken h).0 refl

typing_reads : (end left : ℕ) {ls after : Ahead} {name : List ℕ} {byte : ℕ} {t : TypeTree} → IsTyping ls name byte t after → extends_type (class_at after) ≡ false → Reads (read.typing end left ls) (record { atom = name; atom_byte = byte; ty = t }) after
unfolding read.typing
typing_reads end zero {ls} h q = is_deep end ls (type_real (class_at ls) (typing_begins h)).0
typing_reads end (suc left) (typed_atom {ls = ls} {l1 = l1} {l2 = l2} {after = after} {name = name} {ty = t} h p k) q = rw (says_atom h) (atom_reads end (suc left) ls l1 l2 after name t h p k q)
typing_reads end (suc left) (typed_brackets {ls = ls} {l1 = l1} {l2 = l2} {after = after} {name = name} {byte = byte} {ty = t} h i p) q =
    let m = taken h in
    let b = type_real (class_at l1) (typing_begins i) in
    rw (m.0, m.1) (opened_reads end left (read.typing end left) l1 (record { atom = name; atom_byte = byte; ty = t }) l2 after b.0 b.1 (typing_reads end left i (closes_type (class_at l2) (round_closes p))) p)

-- ---- annotations

turned : {b : Bracket} {ls after : Ahead} → Turns b ls after → (bracket_at ls ≡ b) × (rest ls ≡ after)
unfolding bracket_at rest
turned h = rw h.ahead_is (h.sort_is, refl)

same_itself : (s : Shape) → same_shape s s ≡ true
unfolding same_shape
same_itself shape.Round = refl
same_itself shape.Square = refl
same_itself shape.Curly = refl

annotated_reads : (end : ℕ) {due : List Shape} {ls after : Ahead} → Annotates due ls after → Reads (read.annotated end due ls) tt after
annotated_reads end (matched {ls = ls} e) = rw (annotated_next end [] ls, e) (refl, refl)
annotated_reads end (plain_token {due = due} {ls = ls} t h) = let m = turned t in rw (annotated_next end due ls, m.0, m.1) (annotated_reads end h)
annotated_reads end (opens {due = due} {ls = ls} t h) = let m = turned t in rw (annotated_next end due ls, m.0, m.1) (annotated_reads end h)
annotated_reads end (closes {due = due} {s = s} {ls = ls} t h) = let m = turned t in rw (annotated_next end (s ∷ due) ls, m.0, m.1, same_itself s) (annotated_reads end h)

close_mark : (m : Mark) → same_mark m CloseRound ≡ true → same_mark m Comma ≡ false
unfolding same_mark
close_mark CloseRound e = refl
close_mark _ e = absurd cc

close_kind : (k : Kind) → is_mark_kind CloseRound k ≡ true → is_mark_kind Comma k ≡ false
unfolding is_mark_kind
close_kind (kind.Mark m) e = close_mark m e
close_kind _ e = absurd cc

pub no_comma : {ls after : Ahead} → Passes CloseRound ls after → sees Comma ls ≡ false
unfolding sees
no_comma h = rw h.ahead_is (close_kind h.token.kind h.is_that)

ending_closes : {ls after : Ahead} → IsEnding ls after → closes_part (class_at ls) ≡ true
ending_closes (bare p q) = round_closes p
ending_closes (with_annotations c e a p q) = comma_closes c

pub ended_reads : (end : ℕ) {ls l1 after : Ahead} → Passes CloseRound ls l1 → Passes Dot l1 after → Reads (read.ended end ls) tt after
unfolding read.ended
ended_reads end {ls} {l1} {after} p q = reads_then (read_mark CloseRound end ls) _ tt l1 tt after (mark_reads CloseRound end ls l1 p) (mark_reads Dot end l1 after q)

ending_reads : (end : ℕ) {ls after : Ahead} → IsEnding ls after → Reads (read.ending end ls) tt after
unfolding read.ending read.annotations read.annotation
ending_reads end (bare {ls = ls} {l1 = l1} {after = after} p q) = rw (no_comma p) (ended_reads end p q)
ending_reads end (with_annotations {ls = ls} {l1 = l1} {l2 = l2} {after = after} c e a p q) =
    let m = passed c in
    rw (m.0, m.1, e) (reads_then (read.annotated end [] l1) _ tt l2 tt after (annotated_reads end a) (ended_reads end p q))

-- ---- includes

names_reads : (end : ℕ) {ls after : Ahead} {found : List (List ℕ)} → AreNames ls found after → Reads (read.names end ls) found after
names_reads end (last_name {ls = ls} {after = after} {name = label} h e) = rw (names_next end ls) (reads_then (read_said name_of end ls) _ label after _ after (said_reads name_of end ls after label h) (rw e (refl, refl)))
names_reads end (next_name {ls = ls} {l1 = l1} {l2 = l2} {after = after} {name = label} {names = others} h p k) =
    let m = passed p in
    rw (names_next end ls) (reads_then (read_said name_of end ls) _ label l1 _ after (said_reads name_of end ls l1 label h) (rw (m.0, m.1) (reads_then (read.names end l2) _ others after _ after (names_reads end k) (refl, refl))))

pub name_kind : (k : Kind) (text a : List ℕ) → said_by says.Name k text ≡ Some a → is_mark_kind CloseSquare k ≡ false
unfolding said_by is_mark_kind
name_kind (kind.Mark m) text a e = absurd cc
name_kind _ text a e = refl

pub name_opens : {ls after : Ahead} {found : List (List ℕ)} → AreNames ls found after → sees CloseSquare ls ≡ false
unfolding sees
name_opens (last_name {name = label} h e) = rw h.ahead_is (name_kind h.token.kind h.token.text label h.said)
name_opens (next_name {name = label} h p k) = rw h.ahead_is (name_kind h.token.kind h.token.text label h.said)

selection_reads : (end : ℕ) {ls after : Ahead} {found : Option (List (List ℕ))} → IsSelection ls found after → Reads (read.selection end ls) found after
unfolding read.selection read.selected
selection_reads end (whole e) = rw e (refl, refl)
selection_reads end (no_names {l1 = l1} {l2 = l2} {after = after} c p q) =
    let m = passed c in
    let n = passed q in
    rw (m.0, m.1) (reads_then (read_mark OpenSquare end l1) _ tt l2 _ after (mark_reads OpenSquare end l1 l2 p) (rw (n.0, n.1) (refl, refl)))
selection_reads end (some_names {l1 = l1} {l2 = l2} {l3 = l3} {after = after} {names = found} c p h q) =
    let m = passed c in
    rw (m.0, m.1) (reads_then (read_mark OpenSquare end l1) _ tt l2 _ after (mark_reads OpenSquare end l1 l2 p) (rw (name_opens h) (
    reads_then (and_then (read.names end l2) _) _ found after _ after (reads_then (read.names end l2) _ found l3 found after (names_reads end h) (reads_then (read_mark CloseSquare end l3) _ tt after found after (mark_reads CloseSquare end l3 after q) (refl, refl))) (refl, refl))))

quoted_class : (k : Kind) (text a : List ℕ) → said_by says.Quoted k text ≡ Some a → class_by k text ≡ class.Atom
unfolding class_by said_by
quoted_class kind.Quoted text a e = refl
quoted_class _ text a e = absurd cc

pub says_quoted : {ls after : Ahead} {a : List ℕ} → Says quoted_of ls a after → class_at ls ≡ class.Atom
unfolding class_at
says_quoted {a = a} h = rw h.ahead_is (quoted_class h.token.kind h.token.text a h.said)

name_class : (k : Kind) (text a : List ℕ) → said_by says.Name k text ≡ Some a → is_equal (class_by k text) ≡ false
unfolding class_by said_by
name_class kind.Lower text a e = refl
name_class kind.Quoted text a e = refl
name_class kind.Number text a e = refl
name_class _ text a e = absurd cc

pub says_name : {ls after : Ahead} {a : List ℕ} → Says name_of ls a after → is_equal (class_at ls) ≡ false
unfolding class_at
says_name {a = a} h = rw h.ahead_is (name_class h.token.kind h.token.text a h.said)

include_reads : (end : ℕ) {ls l1 l2 l3 l4 l5 after : Ahead} {file : List ℕ} {found : Option (List (List ℕ))} → Begins keyword.Include ls l1 → Passes OpenRound l1 l2 → Says quoted_of l2 file l3 → IsSelection l3 found l4 → Passes CloseRound l4 l5 → Passes Dot l5 after
    → Reads (read.statement end ls) (Include (byte_of ls) file (byte_of l2) found) after
unfolding read.statement read.keyword_at read.included rest
include_reads end {ls} {l1} {l2} {l3} {l4} {l5} {after} {file} {found} b p h i q r =
    rw (b.ahead_is, b.word_is) (
    reads_then (read_mark OpenRound end l1) _ tt l2 _ after (mark_reads OpenRound end l1 l2 p) (
    reads_skip (read_guard guard.BehindBracket end l2) _ _ after (bracket_passes end l2 (rw (says_quoted h) refl)) (
    reads_then (read_said quoted_of end l2) _ file l3 _ after (said_reads quoted_of end l2 l3 file h) (
    reads_then (read.selection end l3) _ found l4 _ after (selection_reads end i) (
    reads_then (read.ended end l4) _ tt after _ after (ended_reads end q r) (refl, refl))))))

-- ---- statements

head_reads : (end byte word_byte : ℕ) (label word : List ℕ) (ls mid : Ahead) (s : Statement) (after : Ahead) → IsHead ls byte label word word_byte mid → Reads (read.stated end byte label word word_byte mid) s after → Reads (read.statement end ls) s after
unfolding read.statement read.keyword_at read.headed rest
head_reads end byte word_byte label word ls mid s after h k =
    rw (h.takes_thf, h.is_thf) (
    reads_then (read_mark OpenRound end h.l1) _ tt h.l2 s after (mark_reads OpenRound end h.l1 h.l2 h.takes_open) (
    reads_skip (read_guard guard.BehindBracket end h.l2) _ s after (bracket_passes end h.l2 (says_name h.says_name)) (
    reads_then (read_said name_of end h.l2) _ label h.l3 s after (said_reads name_of end h.l2 h.l3 label h.says_name) (
    reads_then (read_mark Comma end h.l3) _ tt h.l4 s after (mark_reads Comma end h.l3 h.l4 h.takes_comma) (
    reads_then (read_said lower_of end h.l4) _ word h.l5 s after (said_reads lower_of end h.l4 h.l5 word h.says_role) (
    reads_then (read_mark Comma end h.l5) _ tt mid s after (mark_reads Comma end h.l5 mid h.takes_second_comma) (
    rw (← h.takes_thf, ← h.byte_is, ← h.role_byte_is) k)))))))

pub statement_reads : (end : ℕ) (ls after : Ahead) (s : Statement) → IsStatement ls s after → Reads (read.statement end ls) s after
unfolding read.stated read.typing_statement read.formula_statement
statement_reads end ls after s (formula_statement {l1 = l1} {l2 = l2} {byte = byte} {role_byte = word_byte} {name = label} {role = word} {tree = tree} h r f k) =
    head_reads end byte word_byte label word ls l1 s after h (rw r (
    reads_then (read.formula end 501 l1) _ tree l2 s after ((unique end 501).formula_reads f (closes_term (class_at l2) (ending_closes k))) (
    reads_then (read.ending end l2) _ tt after s after (ending_reads end k) (refl, refl))))
statement_reads end ls after s (typing_statement {l1 = l1} {l2 = l2} {byte = byte} {role_byte = word_byte} {atom_byte = atom_byte} {name = label} {role = word} {atom = subject} {ty = t} h r f k) =
    head_reads end byte word_byte label word ls l1 s after h (rw r (
    reads_then (read.typing end 501 l1) _ (record { atom = subject; atom_byte = atom_byte; ty = t }) l2 s after (typing_reads end 501 f (closes_type (class_at l2) (ending_closes k))) (
    reads_then (read.ending end l2) _ tt after s after (ending_reads end k) (refl, refl))))
statement_reads end ls after s (include_statement b p h i q r) = include_reads end b p h i q r

pub same_statement : {r : Read Statement} {s t : Statement} {a b : Ahead} → r ≡ Ok (s, a) → Reads r t b → (s ≡ t) × (a ≡ b)
same_statement {r} {s} {t} {a} {b} e h = subst (λ x. Reads x t b) e h
