-- What stands at a place is read there.
use Rattle.std.proofs.Common.{◌≡◌, ℕ, zero, suc, ◌≤◌, Bool, true, false, List, [], ◌++◌, refl, subst, arith}
use Rattle.std.specs.Prelude.{codes, Ok, Err, not, if◌then◌else◌}
use Rattle.leo_lex.specs.declared.mark.Mark.TheVariants as mark
use Rattle.leo_syntax.specs.declared.classes.Class.{Class}
use Rattle.leo_syntax.specs.declared.classes.Class.TheVariants as class
use Rattle.leo_syntax.specs.declared.refusal.ReadRefusal.TheVariants.{Syntax}
use Rattle.leo_syntax.specs.declared.tree.Connective.{Connective}
use Rattle.leo_syntax.specs.declared.tree.Connective.TheVariants as connective
use Rattle.leo_syntax.specs.declared.tree.Tree.{Tree}
use Rattle.leo_syntax.specs.declared.writing.Place.{Place}
use Rattle.leo_syntax.specs.declared.writing.Place.TheVariants.{Formula, Operand, SealedOperand, Chain, Side, SealedSide, Left, Last, SealedLast, Item}
use Rattle.leo_syntax.specs.Classes.{mark_class}
use Rattle.leo_syntax.specs.Lexemes.{Ahead}
use Rattle.leo_syntax.specs.Grammar.{Takes, Passes, class_at, byte_of, is_equal, is_apply, is_join, continues, IsFormula}
use Rattle.leo_syntax.specs.Reading as read
use Rattle.leo_syntax.specs.Reading.{Read, and_then, read_mark, rest}
use Rattle.leo_syntax.specs.Texts.{word, opened, closed, writer, written}
use Rattle.leo_syntax.specs.Bare.{bare_tree}
use Rattle.leo_syntax.proofs.Sound.{sound}
use Rattle.leo_syntax.proofs.Unique.{taken, is_open, closes_part, round_closes, begins_item, begins_unary, begin_default, formula_front}
use Rattle.leo_syntax.proofs.WrittenWords.{IsText, text_none, text_as, text_join, Joined, text_class, close_text}
use Rattle.leo_syntax.proofs.WrittenTypes.{gives_then, gives_mark, of_read}

-- ---- the reader of each place, and what may stand behind it

abbrev pub item_at : ℕ → ℕ → Ahead → Read Tree
item_at end zero ls = Err (Syntax end)
item_at end (suc left) ls = read.item_with end (read.inside end left) ls

abbrev pub application_at : ℕ → ℕ → Ahead → Read Tree
application_at end zero ls = Err (Syntax end)
application_at end (suc left) ls = read.application_with end (read.inside end left) (read.arguments end left) ls

abbrev pub side_at : ℕ → ℕ → Ahead → Read Tree
side_at end zero ls = Err (Syntax end)
side_at end (suc left) ls = read.side_above end (suc left) left ls

abbrev pub last_by : Class → ℕ → ℕ → Ahead → Read Tree
last_by (class.Bind b) end left ls = read.binder_with end (suc left) (read.body end left) b ls
last_by _ end left ls = read.item_with end (read.inside end left) ls

abbrev pub last_at : ℕ → ℕ → Ahead → Read Tree
last_at end zero ls = Err (Syntax end)
last_at end (suc left) ls = last_by (class_at ls) end left ls

abbrev pub reader : Place → ℕ → ℕ → Ahead → Read Tree
reader Formula end left = read.formula end left
reader Operand end left = read.unary end left
reader SealedOperand end left = read.unary end left
reader (Chain c) end left = read.operands end left c
reader Side end left = side_at end left
reader SealedSide end left = side_at end left
reader Left end left = application_at end left
reader Last end left = last_at end left
reader SealedLast end left = last_at end left
reader Item end left = item_at end left

abbrev pub ends_operand : Class → Bool
ends_operand class.Close = true
ends_operand class.Other = true
ends_operand (class.Join c) = true
ends_operand _ = false

abbrev pub follows : Place → Class → Bool
follows Formula k = closes_part k
follows (Chain c) k = closes_part k
follows Operand k = ends_operand k
follows Side k = ends_operand k
follows Last k = ends_operand k
follows SealedOperand k = is_equal k
follows SealedSide k = is_equal k
follows SealedLast k = is_equal k
follows Left k = is_equal k
follows Item k = not (is_open k)

abbrev pub Back : Read Tree → Tree → Ahead → Type 0
Back r t after = (found : Tree) × (r ≡ Ok (found, after)) × (bare_tree found ≡ bare_tree t)

abbrev pub ReadsAt : Place → ℕ → Tree → Ahead → Ahead → Type 0
ReadsAt p left t ls after = follows p (class_at after) ≡ true → (end : ℕ) → Back (reader p end left ls) t after

-- ---- classes

pub closes_ends : (k : Class) → closes_part k ≡ true → ends_operand k ≡ true
closes_ends class.Close e = refl
closes_ends class.Other e = refl
closes_ends _ e = absurd cc

pub closes_join : (k : Class) → closes_part k ≡ true → is_join k ≡ false
closes_join class.Close e = refl
closes_join class.Other e = refl
closes_join _ e = absurd cc

pub closes_chain : (c : Connective) (k : Class) → closes_part k ≡ true → continues c k ≡ false
closes_chain connective.Or class.Close e = refl
closes_chain connective.Or class.Other e = refl
closes_chain connective.And class.Close e = refl
closes_chain connective.And class.Other e = refl
closes_chain connective.Or _ e = absurd cc
closes_chain connective.And _ e = absurd cc
closes_chain _ _ e = refl

pub ends_open : (k : Class) → ends_operand k ≡ true → is_open k ≡ false
ends_open class.Close e = refl
ends_open class.Other e = refl
ends_open (class.Join c) e = refl
ends_open _ e = absurd cc

pub ends_apply : (k : Class) → ends_operand k ≡ true → is_apply k ≡ false
ends_apply class.Close e = refl
ends_apply class.Other e = refl
ends_apply (class.Join c) e = refl
ends_apply _ e = absurd cc

pub ends_equal : (k : Class) → ends_operand k ≡ true → is_equal k ≡ false
ends_equal class.Close e = refl
ends_equal class.Other e = refl
ends_equal (class.Join c) e = refl
ends_equal _ e = absurd cc

pub equal_open : (k : Class) → is_equal k ≡ true → is_open k ≡ false
equal_open (class.Equal s) e = refl
equal_open _ e = absurd cc

pub equal_apply : (k : Class) → is_equal k ≡ true → is_apply k ≡ false
equal_apply (class.Equal s) e = refl
equal_apply _ e = absurd cc

pub not_true : (b : Bool) → not b ≡ true → b ≡ false
not_true false e = refl
not_true true e = absurd cc

pub not_false : (b : Bool) → b ≡ false → not b ≡ true
not_false false e = refl
not_false true e = absurd cc

pub follows_open : (p : Place) (k : Class) → follows p k ≡ true → is_open k ≡ false
follows_open Formula k e = ends_open k (closes_ends k e)
follows_open (Chain c) k e = ends_open k (closes_ends k e)
follows_open Operand k e = ends_open k e
follows_open Side k e = ends_open k e
follows_open Last k e = ends_open k e
follows_open SealedOperand k e = equal_open k e
follows_open SealedSide k e = equal_open k e
follows_open SealedLast k e = equal_open k e
follows_open Left k e = equal_open k e
follows_open Item k e = not_true (is_open k) e

-- ---- from one place to another

then_ok : {A B : Type 0} (r : Read A) (f : A → Ahead → Read B) {q : B × Ahead} → and_then r f ≡ Ok q → (p : A × Ahead) × (r ≡ Ok p)
then_ok (Ok p) f e = (p, refl)
then_ok (Err x) f e = absurd cc

item_by_front : (c : Class) (end : ℕ) (i : ℕ → Ahead → Read Tree) (ls : Ahead) {q : Tree × Ahead} → read.item_by c end i ls ≡ Ok q → begins_item c ≡ true
item_by_front class.Atom end i ls e = refl
item_by_front class.Variable end i ls e = refl
item_by_front (class.Symbol s) end i ls e = refl
item_by_front class.Open end i ls e = refl
item_by_front _ end i ls e = absurd cc

pub item_front : (end left : ℕ) (ls : Ahead) {q : Tree × Ahead} → item_at end left ls ≡ Ok q → begins_item (class_at ls) ≡ true
unfolding read.item_with
item_front end zero ls e = absurd cc
item_front end (suc left) ls e = item_by_front (class_at ls) end (read.inside end left) ls e

pub application_front : (end left : ℕ) (ls : Ahead) {q : Tree × Ahead} → application_at end left ls ≡ Ok q → begins_item (class_at ls) ≡ true
unfolding read.application_with
application_front end zero ls e = absurd cc
application_front end (suc left) ls e = item_front end (suc left) ls (then_ok (read.item_with end (read.inside end left) ls) _ e).1

arguments_default : (k : Class) → is_apply k ≡ false → (a : List Tree → Ahead → Read (List Tree)) (found : List Tree) (ls : Ahead) → read.arguments_by k a found ls ≡ Ok (found, ls)
arguments_default class.Apply e a found ls = absurd cc
arguments_default _ e a found ls = refl

pub arguments_none : (end left : ℕ) (found : List Tree) (ls : Ahead) → is_apply (class_at ls) ≡ false → read.arguments end left found ls ≡ Ok (found, ls)
unfolding read.unary
arguments_none end zero found ls e = arguments_default (class_at ls) e _ found ls
arguments_none end (suc left) found ls e = arguments_default (class_at ls) e _ found ls

equation_none : (k : Class) → is_equal k ≡ false → (end : ℕ) (side : Ahead → Read Tree) (byte : ℕ) (first : Tree) (ls : Ahead) → read.equation_by k end side byte first ls ≡ Ok (first, ls)
equation_none (class.Equal s) e end side byte first ls = absurd cc
equation_none _ e end side byte first ls = refl

operators_none : (k : Class) → is_join k ≡ false → (u : Ahead → Read Tree) (o : Connective → Ahead → Read Tree) (byte : ℕ) (first : Tree) (ls : Ahead) → read.operators_by k u o byte first ls ≡ Ok (first, ls)
operators_none (class.Join c) e u o byte first ls = absurd cc
operators_none _ e u o byte first ls = refl

application_item : (end left : ℕ) (ls after : Ahead) (t : Tree) → item_at end left ls ≡ Ok (t, after) → is_apply (class_at after) ≡ false → application_at end left ls ≡ Ok (t, after)
unfolding read.application_with
application_item end zero ls after t e q = absurd cc
application_item end (suc left) ls after t e q = gives_then (read.item_with end (read.inside end left) ls) _ e (gives_then (read.arguments end left [] after) _ (arguments_none end left [] after q) refl)

pub operand_application : (end left : ℕ) (ls after : Ahead) (t : Tree) → application_at end left ls ≡ Ok (t, after) → is_equal (class_at after) ≡ false → read.unary end left ls ≡ Ok (t, after)
unfolding read.unary read.unary_with read.equation_with
operand_application end zero ls after t e q = absurd cc
operand_application end (suc left) ls after t e q = rw (begin_default (class_at ls) (application_front end (suc left) ls e) _ _ _ _ ls) (gives_then (application_at end (suc left) ls) _ e (equation_none (class_at after) q end _ (byte_of ls) t after))

pub side_application : (end left : ℕ) (ls after : Ahead) (t : Tree) → application_at end left ls ≡ Ok (t, after) → side_at end left ls ≡ Ok (t, after)
side_application end zero ls after t e = absurd cc
side_application end (suc left) ls after t e = rw (begin_default (class_at ls) (application_front end (suc left) ls e) _ _ _ _ ls) (gives_then (application_at end (suc left) ls) _ e refl)

pub formula_operand : (end left : ℕ) (ls after : Ahead) (t : Tree) → read.unary end left ls ≡ Ok (t, after) → closes_part (class_at after) ≡ true → read.formula end left ls ≡ Ok (t, after)
unfolding read.unary
formula_operand end zero ls after t e q = absurd cc
formula_operand end (suc left) ls after t e q = gives_then (read.unary end (suc left) ls) _ e (operators_none (class_at after) (closes_join (class_at after) q) _ _ (byte_of ls) t after)

pub chain_operand : (end left : ℕ) (c : Connective) (ls after : Ahead) (t : Tree) → read.unary end left ls ≡ Ok (t, after) → continues c (class_at after) ≡ false → read.operands end left c ls ≡ Ok (t, after)
unfolding read.unary
chain_operand end zero c ls after t e q = absurd cc
chain_operand end (suc left) c ls after t e q = gives_then (read.unary end (suc left) ls) _ e (rw q refl)

last_default : (k : Class) → begins_item k ≡ true → (end left : ℕ) (ls : Ahead) → last_by k end left ls ≡ read.item_with end (read.inside end left) ls
last_default (class.Bind b) e end left ls = absurd cc
last_default _ e end left ls = refl

last_item : (end left : ℕ) (ls after : Ahead) (t : Tree) → item_at end left ls ≡ Ok (t, after) → last_at end left ls ≡ Ok (t, after)
last_item end zero ls after t e = absurd cc
last_item end (suc left) ls after t e = rw (last_default (class_at ls) (item_front end (suc left) ls e) end left ls) e

abbrev pub takes_item : Place → Bool
takes_item SealedOperand = false
takes_item _ = true

-- an item is read at any place but a sealed operand's
pub at_item : (p : Place) → takes_item p ≡ true → (end left : ℕ) (ls after : Ahead) (t : Tree) → item_at end left ls ≡ Ok (t, after) → follows p (class_at after) ≡ true → reader p end left ls ≡ Ok (t, after)
at_item Formula s end left ls after t e q =
    let k = class_at after in let f = closes_ends k q in
    formula_operand end left ls after t (operand_application end left ls after t (application_item end left ls after t e (ends_apply k f)) (ends_equal k f)) q
at_item Operand s end left ls after t e q = let k = class_at after in operand_application end left ls after t (application_item end left ls after t e (ends_apply k q)) (ends_equal k q)
at_item SealedOperand s end left ls after t e q = absurd cc
at_item (Chain c) s end left ls after t e q =
    let k = class_at after in let f = closes_ends k q in
    chain_operand end left c ls after t (operand_application end left ls after t (application_item end left ls after t e (ends_apply k f)) (ends_equal k f)) (closes_chain c k q)
at_item Side s end left ls after t e q = side_application end left ls after t (application_item end left ls after t e (ends_apply (class_at after) q))
at_item SealedSide s end left ls after t e q = side_application end left ls after t (application_item end left ls after t e (equal_apply (class_at after) q))
at_item Left s end left ls after t e q = application_item end left ls after t e (equal_apply (class_at after) q)
at_item Last s end left ls after t e q = last_item end left ls after t e
at_item SealedLast s end left ls after t e q = last_item end left ls after t e
at_item Item s end left ls after t e q = e

-- ---- brackets

inside_by : (end left byte : ℕ) (ls after : Ahead) (t : Tree) (k : Class) → class_at ls ≡ k → begins_unary k ≡ true → (class_at ls ≡ class.Not → read.is_close (class_at (rest ls)) ≡ false)
    → read.closed end (read.formula end (suc left) ls) ≡ Ok (t, after) → read.inside_by k end (read.formula end (suc left)) byte ls ≡ Ok (t, after)
inside_by end left byte ls after t class.Not e b n h = rw (n e) h
inside_by end left byte ls after t (class.Join c) e b n h = absurd cc
inside_by end left byte ls after t (class.Equal s) e b n h = absurd cc
inside_by end left byte ls after t _ e b n h = h

inside_gives : (end left byte : ℕ) (ls mid after : Ahead) (t : Tree) → read.formula end left ls ≡ Ok (t, mid) → Passes mark.CloseRound mid after → read.inside end left byte ls ≡ Ok (t, after)
unfolding read.unary
inside_gives end zero byte ls mid after t e p = absurd cc
inside_gives end (suc left) byte ls mid after t e p =
    let f = formula_front (of_read (λ x y. IsFormula ls x y) ((sound end (suc left)).formula_sound ls) e) in
    inside_by end left byte ls after t (class_at ls) refl f.0 f.1 (gives_then (read.formula end (suc left) ls) _ e (gives_then (read_mark mark.CloseRound end mid) _ (gives_mark end p) refl))

brackets_gives : (end left : ℕ) (ls l1 mid after : Ahead) (t : Tree) → Takes class.Open ls l1 → read.formula end left l1 ≡ Ok (t, mid) → Passes mark.CloseRound mid after → item_at end (suc left) ls ≡ Ok (t, after)
unfolding read.item_with
brackets_gives end left ls l1 mid after t h e p = let m = taken h in rw (m.0, m.1) (inside_gives end left (byte_of ls) l1 mid after t e p)

abbrev pub InBrackets : (Ahead → Ahead → Type 0) → Ahead → Ahead → Type 0
InBrackets P = Joined (λ ls after. Takes class.Open ls after) (Joined P (λ ls after. Passes mark.CloseRound ls after))

-- what is read between brackets is read with them, one level further in
pub in_brackets : (p : Place) → takes_item p ≡ true → (left : ℕ) (t : Tree) (ls after : Ahead) → InBrackets (ReadsAt Formula left t) ls after → ReadsAt p (suc left) t ls after
in_brackets p s left t ls after j q end =
    let b = j.back.front (round_closes j.back.back) end in
    (b.0, at_item p s end (suc left) ls after b.0 (brackets_gives end left ls j.mid j.back.mid after b.0 j.front b.1 j.back.back) q, b.2)

-- a text that stands with or without brackets

abbrev pub Stands : Bool → (Ahead → Ahead → Type 0) → Ahead → Ahead → Type 0
Stands true P = P
Stands false P = InBrackets P

pub in_place : (stands : Bool) (body : List ℕ → List ℕ) {P : Ahead → Ahead → Type 0} → ((e : List ℕ) (E : Ahead → Ahead → Type 0) → IsText e E → IsText (body e) (Joined P E)) → IsText (opened stands ++ body (closed stands)) (Stands stands P)
unfolding mark_class
in_place true body {P} h = text_as (h [] (λ ls after. ls ≡ after) text_none) (λ ls after j. subst (λ x. P ls x) j.back j.front)
in_place false body h = text_join (text_class mark.OpenRound) (h (word (codes ")")) (λ ls after. Passes mark.CloseRound ls after) close_text)

pub text_two : {a b : List ℕ} {A B : Ahead → Ahead → Type 0} → IsText a A → IsText b B → (e : List ℕ) (E : Ahead → Ahead → Type 0) → IsText e E → IsText (a ++ (b ++ e)) (Joined (Joined A B) E)
text_two h k e E m = text_as (text_join h (text_join k m)) (λ ls after j. record { mid = j.back.mid; front = record { mid = j.mid; front = j.front; back = j.back.front }; back = j.back.back })

pub text_three : {a b c : List ℕ} {A B C : Ahead → Ahead → Type 0} → IsText a A → IsText b B → IsText c C → (e : List ℕ) (E : Ahead → Ahead → Type 0) → IsText e E → IsText (a ++ (b ++ (c ++ e))) (Joined (Joined A (Joined B C)) E)
text_three h k l e E m = text_as (text_join h (text_join k (text_join l m)))
    (λ ls after j. record { mid = j.back.back.mid; front = record { mid = j.mid; front = j.front; back = record { mid = j.back.mid; front = j.back.front; back = j.back.back.front } }; back = j.back.back.back })

-- ---- written at a place with so many levels and more

abbrev pub IsWrittenAt : Place → Tree → ℕ → Type 0
IsWrittenAt p t least = (left : ℕ) → least ≤ left → IsText (written p t) (ReadsAt p left t)

pub from_more : (p : Place) (t : Tree) (least more : ℕ) → least ≤ more → IsWrittenAt p t least → IsWrittenAt p t more
from_more p t least more o h left q = h left (omega (arith, o, q))

-- only what ends in an equation is written as a sealed operand
abbrev pub MayStand : Place → Tree → Type 0
MayStand SealedOperand t = (writer t).ends ≡ true
MayStand _ t = Unit {0}

-- one level more where the tree does not stand there by itself
abbrev pub level_at : Bool → ℕ → ℕ
level_at stands least = if stands then least else suc least

-- at some places with so many levels, at all others with one level more
pub record IsWrittenFrom (here : Place → Bool) (least : ℕ) (t : Tree) : Type 0 where
  pub at : (p : Place) → MayStand p t → IsWrittenAt p t (level_at (here p) least)

-- where parts of each kind stand by themselves, and whether the mark of an equation stands behind them

abbrev pub as_formula : Place → Bool
as_formula Formula = true
as_formula _ = false

abbrev pub as_item : Place → Bool
as_item p = true

abbrev pub as_unary : Bool → Place → Bool
as_unary sealed Formula = true
as_unary sealed Operand = true
as_unary sealed (Chain c) = true
as_unary sealed SealedOperand = sealed
as_unary sealed _ = false

abbrev pub as_negation : Bool → Place → Bool
as_negation sealed Side = true
as_negation sealed SealedSide = sealed
as_negation sealed p = as_unary sealed p

abbrev pub as_binder : Bool → Place → Bool
as_binder sealed Last = true
as_binder sealed SealedLast = sealed
as_binder sealed p = as_negation sealed p

abbrev pub as_application : Bool → Place → Bool
as_application sealed Formula = true
as_application sealed Operand = true
as_application sealed (Chain c) = true
as_application sealed Side = true
as_application sealed SealedSide = sealed
as_application sealed Left = sealed
as_application sealed _ = false

abbrev pub as_side : Bool → Place → Bool
as_side sealed Side = true
as_side sealed SealedSide = sealed
as_side sealed _ = false

-- ---- a node that stands by itself, and one that stands in brackets

pub stand_text : (body : List ℕ → List ℕ) (P : Ahead → Ahead → Type 0) (p : Place) (left : ℕ) (t : Tree) → ((e : List ℕ) (E : Ahead → Ahead → Type 0) → IsText e E → IsText (body e) (Joined P E))
    → ((ls after : Ahead) → P ls after → ReadsAt p left t ls after) → IsText (opened true ++ body (closed true)) (ReadsAt p left t)
stand_text body P p left t h r = text_as (in_place true body h) r

pub bracket_text : (body : List ℕ → List ℕ) (P : Ahead → Ahead → Type 0) (p : Place) → takes_item p ≡ true → (left : ℕ) (t : Tree) → ((e : List ℕ) (E : Ahead → Ahead → Type 0) → IsText e E → IsText (body e) (Joined P E))
    → ((ls after : Ahead) → P ls after → ReadsAt Formula left t ls after) → IsText (opened false ++ body (closed false)) (ReadsAt p (suc left) t)
bracket_text body P p s left t h r = text_as (in_place false body h) (λ ls after j. in_brackets p s left t ls after (record { mid = j.mid; front = j.front; back = record { mid = j.back.mid; front = r j.mid j.back.mid j.back.front; back = j.back.back } }))
