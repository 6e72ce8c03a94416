-- Types and variables that are written are read back.
use Rattle.std.proofs.Common.{◌≡◌, ℕ, zero, suc, ◌<◌, ◌≤◌, true, false, List, [], ◌∷◌, length, map, refl, sym, subst, ◌∙◌, inl, inr, arith}
use Rattle.std.specs.Prelude.{codes, Ok, Err, Option, Some, None}
use Rattle.leo_lex.specs.declared.mark.Mark.{Mark}
use Rattle.leo_lex.specs.declared.mark.Mark.TheVariants as mark
use Rattle.leo_syntax.specs.declared.classes.Says.TheVariants as says
use Rattle.leo_lex.specs.declared.token.Kind.{Kind}
use Rattle.leo_lex.specs.declared.token.Kind.TheVariants as kind
use Rattle.leo_lex.specs.Forms.{IsToken, IsWord}
use Rattle.leo_lex.specs.Bytes.{is_lower, is_word}
use Rattle.leo_syntax.specs.declared.refusal.ReadRefusal.TheVariants.{Syntax}
use Rattle.leo_syntax.specs.declared.classes.Class.{Class}
use Rattle.leo_syntax.specs.declared.classes.Class.TheVariants as class
use Rattle.leo_syntax.specs.declared.classes.Guard.TheVariants as guard
use Rattle.leo_syntax.specs.declared.tree.TypeTree.{TypeTree}
use Rattle.leo_syntax.specs.declared.tree.TypeWord.{TypeWord}
use Rattle.leo_syntax.specs.declared.tree.TypeWord.TheVariants as word_of
use Rattle.leo_syntax.specs.declared.classes.Guard.{Guard}
use Rattle.leo_syntax.specs.Classes.{class_by, mark_class, dollar_class, guard_form}
use Rattle.leo_syntax.specs.declared.tree.Variable.{Variable}
use Rattle.leo_syntax.specs.Lexemes.{Lexeme, Ahead, atom_of, upper_of, said_by, content}
use Rattle.leo_syntax.specs.Grammar.{Takes, Says, Passes, class_at, byte_of, type_at, arrow, is_arrow, is_equal, sees, IsType, IsVariable}
use Rattle.leo_syntax.specs.Reading as read
use Rattle.leo_syntax.specs.Reading.{Read, and_then, read_mark, read_said, read_guard, read_level, rest}
use Rattle.leo_syntax.specs.Texts.{word, type_word_text, type_written, variable_written, further_variables, variables_written}
use Rattle.leo_syntax.specs.Bare.{bare_type, bare_variable}
use Rattle.leo_syntax.proofs.Nodes.{type_written-Base, type_written-Arrow, bare_type-Base, bare_type-Arrow}
use Rattle.leo_syntax.proofs.Sound.{or_false, IfRead, then_read, then_skip, says_sound, mark_sound, opened_sound, type_sound, variable_sound}
use Rattle.leo_syntax.proofs.Unique.{taken, passed, said, says_atom, closes_part, extends_type, closes_type, round_closes, type_begins, type_real, variable_less, passes_less, comma_closes}
use Rattle.leo_syntax.proofs.WrittenWords.{IsText, text_none, text_word, text_as, text_join, Joined, text_class, next_takes, close_text, IsAtom, IsQuotable, quotable, atom_text_is, upper_text_is, comma_text, colon_text}

-- ---- what readers give

pub gives_then : {A B : Type 0} (r : Read A) (f : A → Ahead → Read B) {a : A} {mid : Ahead} {x : Read B} → r ≡ Ok (a, mid) → f a mid ≡ x → and_then r f ≡ x
gives_then r f e k = rw e k

pub gives_mark : {m : Mark} (end : ℕ) {ls after : Ahead} → Passes m ls after → read_mark m end ls ≡ Ok (tt, after)
gives_mark end h = let p = passed h in rw (p.0, p.1) refl

pub gives_said : {A : Type 0} (f : Lexeme → Option A) (end : ℕ) {ls after : Ahead} {a : A} → Says f ls a after → read_said f end ls ≡ Ok (a, after)
gives_said f end h = let p = said h in rw (p.0, p.1) refl

pub gives_guard : (g : Guard) (end : ℕ) (ls : Ahead) → guard_form g (class_at ls) ≡ None → read_guard g end ls ≡ Ok (tt, ls)
unfolding read_guard class_at
gives_guard g end [] e = refl
gives_guard g end (l ∷ ls) e = rw e refl

pub type_guard : (k : Class) → extends_type k ≡ false → guard_form guard.BehindType k ≡ None
unfolding guard_form
type_guard class.Open e = absurd cc
type_guard class.Apply e = absurd cc
type_guard class.Star e = absurd cc
type_guard _ e = refl

pub bracket_guard : (k : Class) → is_equal k ≡ false → guard_form guard.BehindBracket k ≡ None
unfolding guard_form
bracket_guard (class.Equal s) e = absurd cc
bracket_guard _ e = refl

pub closes_arrow : (k : Class) → closes_part k ≡ true → is_arrow k ≡ false
closes_arrow class.Close e = refl
closes_arrow class.Other e = refl
closes_arrow _ e = absurd cc

-- what a reader that gave something gave is so
pub of_read : {A : Type 0} {r : Read A} {a : A} {after : Ahead} (P : A → Ahead → Type 0) → IfRead r P → r ≡ Ok (a, after) → P a after
of_read P h e = subst (λ x. IfRead x P) e h

-- ---- the lexemes of a text

abbrev pub AreGood : Ahead → Type 0
AreGood [] = Unit {0}
AreGood (l ∷ ls) = IsToken l.kind l.text × AreGood ls

pub good_rest : (ls : Ahead) → AreGood ls → AreGood (rest ls)
unfolding rest
good_rest [] h = tt
good_rest (l ∷ ls) h = h.1

pub good_says : {A : Type 0} {f : Lexeme → Option A} {ls after : Ahead} {a : A} (h : Says f ls a after) → AreGood ls → IsToken h.token.kind h.token.text × AreGood after
good_says h g = rw h.ahead_is at g

pub good_passes : {m : Mark} {ls after : Ahead} → Passes m ls after → AreGood ls → AreGood after
good_passes h g = (let k = rw h.ahead_is at g in k.1)

pub atom_good : (k : Kind) (text name : List ℕ) → said_by says.Atom k text ≡ Some name → IsToken k text → IsAtom name
unfolding said_by
atom_good kind.Lower text name e h = inl (subst (λ o. IsSome_token o) e h)
  where
    IsSome_token : Option (List ℕ) → Type 0
    IsSome_token (Some x) = IsToken kind.Lower x
    IsSome_token None = Unit {0}
atom_good kind.Quoted text name e h = inr (let same : content text ≡ name = cc in subst IsQuotable same (quotable text h))
atom_good _ text name e h = absurd cc

-- ---- types

abbrev pub BackType : Read TypeTree → TypeTree → Ahead → Type 0
BackType r t after = (found : TypeTree) × (r ≡ Ok (found, after)) × (bare_type found ≡ bare_type t)

abbrev pub operand_at : ℕ → ℕ → Ahead → Read TypeTree
operand_at end zero ls = Err (Syntax end)
operand_at end (suc left) ls = read.operand_type_with end left (read.ty end left) ls

abbrev pub ReadsWhole : ℕ → TypeTree → Ahead → Ahead → Type 0
ReadsWhole left t ls after = closes_part (class_at after) ≡ true → (end : ℕ) → BackType (read.ty end left ls) t after

abbrev pub ReadsOperand : ℕ → TypeTree → Ahead → Ahead → Type 0
ReadsOperand left t ls after = (end : ℕ) → BackType (operand_at end left ls) t after

-- with so many levels and more the type is written and read as a whole, and with so many as an operand
pub record IsWritten (whole operand : ℕ) (t : TypeTree) : Type 0 where
  pub as_whole : (left : ℕ) → whole ≤ left → IsText (type_written true t) (ReadsWhole left t)
  pub as_operand : (left : ℕ) → operand ≤ left → IsText (type_written false t) (ReadsOperand left t)

arrow_none : (k : Class) → is_arrow k ≡ false → (inner : Ahead → Read TypeTree) (byte : ℕ) (from : TypeTree) (ls : Ahead) → read.arrow_by k inner byte from ls ≡ Ok (from, ls)
arrow_none class.Arrow e inner byte from ls = absurd cc
arrow_none _ e inner byte from ls = refl

operand_whole : (left end : ℕ) (ls after : Ahead) (t : TypeTree) → operand_at end left ls ≡ Ok (t, after) → closes_part (class_at after) ≡ true → read.ty end left ls ≡ Ok (t, after)
unfolding read.ty read.type_with
operand_whole zero end ls after t e q = absurd cc
operand_whole (suc left) end ls after t e q =
    gives_then (read.operand_type_with end left (read.ty end left) ls) _ e
    (gives_then (read_guard guard.BehindType end after) _ (gives_guard guard.BehindType end after (type_guard (class_at after) (closes_type (class_at after) q)))
    (arrow_none (class_at after) (closes_arrow (class_at after) q) (read.ty end left) (byte_of ls) t after))

-- what is an operand by itself is so with one level
abbrev ReadsWord : TypeWord → Ahead → Ahead → Type 0
ReadsWord w ls after = (end left : ℕ) → operand_at end (suc left) ls ≡ Ok (type_at (byte_of ls) w, after)

word_operand : (byte : ℕ) (w : TypeWord) (left : ℕ) (ls after : Ahead) → 1 ≤ left → ReadsWord w ls after → ReadsOperand left (type_at byte w) ls after
word_operand byte w zero ls after h r = absurd (omega (arith, h))
word_operand byte w (suc left) ls after h r = λ end. (type_at (byte_of ls) w, r end left, bare_type-Base (byte_of ls) w ∙ sym (bare_type-Base byte w))

operand_is_whole : (left : ℕ) (t : TypeTree) (ls after : Ahead) → ReadsOperand left t ls after → ReadsWhole left t ls after
operand_is_whole left t ls after h q end = let b = h end in (b.0, operand_whole left end ls after b.0 b.1 q, b.2)

word_written : (byte : ℕ) (w : TypeWord) → IsText (word (type_word_text w)) (ReadsWord w) → IsWritten 1 1 (type_at byte w)
word_written byte w h = record {
  as_whole = λ left o. rw (type_written-Base true byte w) (text_as h (λ ls after r. operand_is_whole left (type_at byte w) ls after (word_operand byte w left ls after o r)));
  as_operand = λ left o. rw (type_written-Base false byte w) (text_as h (λ ls after r. word_operand byte w left ls after o r));
}

pub wider : (whole operand more most : ℕ) (t : TypeTree) → IsWritten whole operand t → whole ≤ more → operand ≤ most → IsWritten more most t
wider whole operand more most t h o p = record {
  as_whole = λ left q. h.as_whole left (omega (arith, o, q));
  as_operand = λ left q. h.as_operand left (omega (arith, p, q));
}

atom_written : (byte : ℕ) (name : List ℕ) → IsAtom name → IsWritten 1 1 (type_at byte (word_of.Atom name))
unfolding type_word_text read.operand_type_with
atom_written byte name h = word_written byte (word_of.Atom name) (text_as (atom_text_is name h) (λ ls after s. λ end left. rw (says_atom s) (gives_then (read_said atom_of end ls) _ (gives_said atom_of end s) refl)))

dollar_word : (w : TypeWord) (c : Class) (tail : List ℕ) → IsWord is_lower tail → class_by kind.Dollar (36 ∷ tail) ≡ c → ((end left : ℕ) (ls : Ahead) → read.operand_type_by c end left (read.ty end left) ls ≡ Ok (type_at (byte_of ls) w, rest ls))
    → IsText (word (36 ∷ tail)) (ReadsWord w)
unfolding read.operand_type_with
dollar_word w c tail h e r = text_as (text_word kind.Dollar (36 ∷ tail) (tail, h, refl)) (λ ls after n. λ end left. let m = taken (next_takes n) in rw (m.0, e) (r end left ls ∙ rw m.1 refl))

individual_written : (byte : ℕ) → IsWritten 1 1 (type_at byte word_of.Individual)
unfolding type_word_text class_by dollar_class is_lower is_word
individual_written byte = word_written byte word_of.Individual (dollar_word word_of.Individual class.Individual (codes "i") (refl, tt) refl (λ end left ls. refl))

truth_written : (byte : ℕ) → IsWritten 1 1 (type_at byte word_of.Truth)
unfolding type_word_text class_by dollar_class is_lower is_word
truth_written byte = word_written byte word_of.Truth (dollar_word word_of.Truth class.Truth (codes "o") (refl, tt) refl (λ end left ls. refl))

types_written : (byte : ℕ) → IsWritten 1 1 (type_at byte word_of.TypeOfTypes)
unfolding type_word_text class_by dollar_class is_lower is_word
types_written byte = word_written byte word_of.TypeOfTypes (dollar_word word_of.TypeOfTypes class.TypeOfTypes (codes "tType") (refl, (refl, (refl, (refl, (refl, tt))))) refl (λ end left ls. refl))

-- an arrow

arrow_reads : (left byte : ℕ) (from to : TypeTree) (ls after : Ahead)
    → Joined (ReadsOperand (suc left) from) (Joined (Takes class.Arrow) (Joined (ReadsWhole left to) (λ ls after. ls ≡ after))) ls after → ReadsWhole (suc left) (arrow byte from to) ls after
unfolding read.ty read.type_with
arrow_reads left byte from to ls after j q end =
    let f = j.front end in
    let m = taken j.back.front in
    let t = j.back.back.front (rw (j.back.back.back) q) end in (
      arrow (byte_of ls) f.0 t.0,
      gives_then (read.operand_type_with end left (read.ty end left) ls) _ f.1
          (gives_then (read_guard guard.BehindType end j.mid) _ (gives_guard guard.BehindType end j.mid (type_guard (class_at j.mid) (rw m.0 refl)))
          (rw (m.0, m.1) (gives_then (read.ty end left j.back.mid) _ t.1 (rw j.back.back.back refl)))),
      bare_type-Arrow (byte_of ls) f.0 t.0 ∙ rw (f.2, t.2) (sym (bare_type-Arrow byte from to)),
    )

brackets_read : (left : ℕ) (t : TypeTree) (ls after : Ahead) → Joined (Takes class.Open) (Joined (ReadsWhole left t) (Joined (Passes mark.CloseRound) (λ ls after. ls ≡ after))) ls after → ReadsOperand (suc left) t ls after
unfolding read.operand_type_with read.ty
brackets_read left t ls after j end =
    let m = taken j.front in
    let b = j.back.front (round_closes j.back.back.front) end in
    (b.0, rw (m.0, m.1) (opened_gives left end j.mid j.back.mid b.0 after b.1 (rw (← j.back.back.back) j.back.back.front)), b.2)
  where
    opened_gives : (left end : ℕ) (l1 l2 : Ahead) (found : TypeTree) (after : Ahead) → read.ty end left l1 ≡ Ok (found, l2) → Passes mark.CloseRound l2 after → read.opened end left (read.ty end left) l1 ≡ Ok (found, after)
    opened_gives zero end l1 l2 found after e p = absurd cc
    opened_gives (suc n) end l1 l2 found after e p = gives_then (read_guard guard.BehindBracket end l1) _ (gives_guard guard.BehindBracket end l1 (bracket_guard (class_at l1) (type_real (class_at l1) (type_begins (of_read (λ x y. IsType l1 x y) (type_sound end (suc n) l1) e))).1))
        (gives_then (read.ty end (suc n) l1) _ e (gives_then (read_mark mark.CloseRound end l2) _ (gives_mark end p) refl))

arrow_written : (left byte : ℕ) (from to : TypeTree) → IsWritten (suc left) (suc left) from → IsWritten left (suc left) to → IsWritten (suc left) (suc (suc left)) (arrow byte from to)
unfolding mark_class
arrow_written left byte from to f t = record { as_whole = whole; as_operand = operand }
  where
    whole : (m : ℕ) → suc left ≤ m → IsText (type_written true (arrow byte from to)) (ReadsWhole m (arrow byte from to))
    whole zero o = absurd (omega (arith, o))
    whole (suc m) o = rw (type_written-Arrow true byte from to)
        (text_as (text_join (f.as_operand (suc m) o) (text_join (text_class mark.Greater) (text_join (t.as_whole m (omega (arith, o))) text_none))) (λ ls after j. arrow_reads m byte from to ls after j))

    operand : (m : ℕ) → suc (suc left) ≤ m → IsText (type_written false (arrow byte from to)) (ReadsOperand m (arrow byte from to))
    operand zero o = absurd (omega (arith, o))
    operand (suc zero) o = absurd (omega (arith, o))
    operand (suc (suc m)) o = rw (type_written-Arrow false byte from to)
        (text_as (text_join (text_class mark.OpenRound) (text_join (f.as_operand (suc m) (omega (arith, o))) (text_join (text_class mark.Greater) (text_join (t.as_whole m (omega (arith, o))) close_text)))) (λ ls after j.
        let arrow_is = arrow_reads m byte from to j.mid j.back.back.back.mid (record { mid = j.back.mid; front = j.back.front; back = record { mid = j.back.back.mid; front = j.back.back.front; back = record { mid = j.back.back.back.mid; front = j.back.back.back.front; back = refl } } }) in
        brackets_read (suc m) (arrow byte from to) ls after (record { mid = j.mid; front = j.front; back = record { mid = j.back.back.back.mid; front = arrow_is; back = record { mid = after; front = j.back.back.back.back; back = refl } } })))

-- ---- the types that are read

abbrev pub TypeOk : ℕ → TypeTree → Ahead → Type 0
TypeOk left t after = IsWritten left (suc left) t × AreGood after

abbrev OperandOk : ℕ → TypeTree → Ahead → Type 0
OperandOk left t after = IsWritten (suc left) (suc left) t × AreGood after

operand_by : (end left : ℕ) → ((ls : Ahead) → AreGood ls → IfRead (read.ty end left ls) (TypeOk left)) → (ls : Ahead) → AreGood ls → (c : Class) → IfRead (read.operand_type_by c end left (read.ty end left) ls) (OperandOk left)
operand_by end left known ls g class.Atom = then_read (read_said atom_of end ls) _ (λ name after. Says atom_of ls name after) (OperandOk left) (says_sound atom_of end ls) (λ name after h.
    let s = good_says h g in (wider 1 1 (suc left) (suc left) _ (atom_written (byte_of ls) name (atom_good h.token.kind h.token.text name h.said s.0)) (omega arith) (omega arith), s.1))
operand_by end left known ls g class.Individual = (wider 1 1 (suc left) (suc left) _ (individual_written (byte_of ls)) (omega arith) (omega arith), good_rest ls g)
operand_by end left known ls g class.Truth = (wider 1 1 (suc left) (suc left) _ (truth_written (byte_of ls)) (omega arith) (omega arith), good_rest ls g)
operand_by end left known ls g class.TypeOfTypes = (wider 1 1 (suc left) (suc left) _ (types_written (byte_of ls)) (omega arith) (omega arith), good_rest ls g)
operand_by end left known ls g class.Open = opened_sound end left (read.ty end left) (rest ls) (TypeOk left) (OperandOk left) (known (rest ls) (good_rest ls g)) (λ t l1 after h m. (wider left (suc left) (suc left) (suc left) t h.0 (omega arith) (omega arith), good_passes m h.1))
operand_by end left known ls g _ = tt

arrow_by : (end left : ℕ) → ((ls : Ahead) → AreGood ls → IfRead (read.ty end left ls) (TypeOk left)) → (byte : ℕ) (from : TypeTree) (l1 : Ahead) → OperandOk left from l1 → (c : Class) → IfRead (read.arrow_by c (read.ty end left) byte from l1) (TypeOk (suc left))
arrow_by end left known byte from l1 h class.Arrow = then_read (read.ty end left (rest l1)) _ (TypeOk left) (TypeOk (suc left)) (known (rest l1) (good_rest l1 h.1)) (λ to after k. (arrow_written left byte from to h.0 k.0, k.1))
arrow_by end left known byte from l1 h _ = (wider (suc left) (suc left) (suc left) (suc (suc left)) from h.0 (omega arith) (omega arith), h.1)

pub types_written_back : (end left : ℕ) (ls : Ahead) → AreGood ls → IfRead (read.ty end left ls) (TypeOk left)
unfolding read.ty read.type_with read.operand_type_with
types_written_back end zero ls g = tt
types_written_back end (suc left) ls g = then_read (read.operand_type_with end left (read.ty end left) ls) _ (OperandOk left) (TypeOk (suc left)) (operand_by end left (types_written_back end left) ls g (class_at ls)) (λ from l1 h.
    then_skip (read_guard guard.BehindType end l1) _ (TypeOk (suc left)) (arrow_by end left (types_written_back end left) (byte_of ls) from l1 h (class_at l1)))

-- ---- variables

abbrev pub BackVariable : Read Variable → Variable → Ahead → Type 0
BackVariable r v after = (found : Variable) × (r ≡ Ok (found, after)) × (bare_variable found ≡ bare_variable v)

abbrev pub ReadsVariable : ℕ → Variable → Ahead → Ahead → Type 0
ReadsVariable left v ls after = closes_part (class_at after) ≡ true → (end : ℕ) → BackVariable (read.variable end left ls) v after

-- with so many levels and more
abbrev pub IsVariableWritten : ℕ → Variable → Type 0
IsVariableWritten least v = (left : ℕ) → least ≤ left → IsText (variable_written v) (ReadsVariable left v)

variable_reads : (left : ℕ) (v : Variable) (ls after : Ahead) → Joined (λ ls after. Says upper_of ls v.name after) (Joined (Passes mark.Colon) (ReadsWhole left v.ty)) ls after → ReadsVariable left v ls after
unfolding read.variable
variable_reads left v ls after j q end =
    let t = j.back.back q end in (
      record { name = v.name; ty = t.0 },
      gives_then (read_said upper_of end ls) _ (gives_said upper_of end j.front) (gives_then (read_mark mark.Colon end j.mid) _ (gives_mark end j.back.front) (gives_then (read.ty end left j.back.mid) _ t.1 refl)),
      rw t.2 refl,
    )

pub upper_good : (k : Kind) (text name : List ℕ) → said_by says.Upper k text ≡ Some name → IsToken k text → IsToken kind.Upper name
unfolding said_by
upper_good kind.Upper text name e h = (let same : text ≡ name = cc in subst (IsToken kind.Upper) same h)
upper_good _ text name e h = absurd cc

abbrev VariableOk : ℕ → Variable → Ahead → Type 0
VariableOk left v after = IsVariableWritten left v × AreGood after

variable_ok : (end left : ℕ) (ls : Ahead) → AreGood ls → IfRead (read.variable end left ls) (VariableOk left)
unfolding read.variable
variable_ok end left ls g =
    then_read (read_said upper_of end ls) _ (λ name after. Says upper_of ls name after) (VariableOk left) (says_sound upper_of end ls) (λ name l1 h.
    let s = good_says h g in
    then_read (read_mark mark.Colon end l1) _ (λ _ after. Passes mark.Colon l1 after) (VariableOk left) (mark_sound mark.Colon end l1) (λ _ l2 m.
    then_read (read.ty end left l2) _ (TypeOk left) (VariableOk left) (types_written_back end left l2 (good_passes m s.1)) (λ t after k.
    (λ n o. text_as (text_join (upper_text_is name (upper_good h.token.kind h.token.text name h.said s.0)) (text_join colon_text (k.0.as_whole n o))) (λ ls after j. variable_reads n (record { name = name; ty = t }) ls after j), k.1))))

abbrev pub AreVariablesWritten : ℕ → List Variable → Type 0
AreVariablesWritten least [] = Unit {0}
AreVariablesWritten least (v ∷ vs) = IsVariableWritten least v × AreVariablesWritten least vs

abbrev pub VariablesOk : ℕ → List Variable → Ahead → Type 0
VariablesOk left vs after = AreVariablesWritten left vs × AreGood after × ((v : Variable) × (others : List Variable) × (vs ≡ v ∷ others))

further_ok : (end left n : ℕ) → ((ls : Ahead) → AreGood ls → IfRead (read.variables n end left ls) (VariablesOk left)) → (v : Variable) (ls : Ahead) → VariableOk left v ls → IfRead (read.further_with (read.variables n end left) v ls) (VariablesOk left)
further_ok end left n known v ls h = elim (or_false (sees mark.Comma ls)) [
  | inl t ↦ rw t (then_read (read.variables n end left (rest ls)) _ (VariablesOk left) (VariablesOk left) (known (rest ls) (good_rest ls h.1)) (λ vs after k. ((h.0, k.0), k.1, (v, vs, refl))))
  | inr f ↦ rw f ((h.0, tt), h.1, (v, [], refl))
]

pub variables_ok : (n end left : ℕ) (ls : Ahead) → AreGood ls → IfRead (read.variables n end left ls) (VariablesOk left)
unfolding read.variables
variables_ok zero end left ls g = tt
variables_ok (suc n) end left ls g = then_read (read.variable end left ls) _ (VariableOk left) (VariablesOk left) (variable_ok end left ls g) (λ v l1 h. further_ok end left n (variables_ok n end left) v l1 h)

-- read back

abbrev BackVariables : Read (List Variable) → List Variable → Ahead → Type 0
BackVariables r vs after = (found : List Variable) × (r ≡ Ok (found, after)) × (map bare_variable found ≡ map bare_variable vs)

abbrev pub ReadsVariables : ℕ → List Variable → Ahead → Ahead → Type 0
ReadsVariables left vs ls after = closes_part (class_at after) ≡ true → sees mark.Comma after ≡ false → (end n : ℕ) → length ls ≤ n → BackVariables (read.variables n end left ls) vs after

abbrev ReadsFurther : ℕ → List Variable → Ahead → Ahead → Type 0
ReadsFurther left vs ls after = closes_part (class_at after) ≡ true → sees mark.Comma after ≡ false → (end n : ℕ) → length ls ≤ n
    → (closes_part (class_at ls) ≡ true) × ((v : Variable) → (found : List Variable) × (read.further_with (read.variables n end left) v ls ≡ Ok (v ∷ found, after)) × (map bare_variable found ≡ map bare_variable vs))

variables_read : (left : ℕ) (v : Variable) (vs : List Variable) (ls after : Ahead) → Joined (ReadsVariable left v) (ReadsFurther left vs) ls after → ReadsVariables left (v ∷ vs) ls after
unfolding read.variables
variables_read left v vs ls after j q c end n o = by n o
  where
    less : (found : Variable) → read.variable end left ls ≡ Ok (found, j.mid) → length j.mid < length ls
    less found e = variable_less (of_read (λ x y. IsVariable ls x y) (variable_sound end left ls) e)

    by : (n : ℕ) → length ls ≤ n → BackVariables (read.variables n end left ls) (v ∷ vs) after
    by zero o =
        let f = j.back q c end (length j.mid) (omega arith) in
        let b = j.front f.0 end in
        absurd (omega (arith, o, less b.0 b.1))
    by (suc m) o =
        let b = j.front (j.back q c end (length j.mid) (omega arith)).0 end in
        let f = (j.back q c end m (omega (arith, o, less b.0 b.1))).1 b.0 in
        (b.0 ∷ f.0, gives_then (read.variable end left ls) _ b.1 f.1, rw (b.2, f.2) refl)

comma_further : (left : ℕ) (v : Variable) (vs : List Variable) (ls after : Ahead) → Joined (Passes mark.Comma) (Joined (ReadsVariable left v) (ReadsFurther left vs)) ls after → ReadsFurther left (v ∷ vs) ls after
comma_further left v vs ls after j q c end n o =
    let m = passed j.front in (
      comma_closes j.front,
      λ w. let b = variables_read left v vs j.mid after j.back q c end n (omega (arith, o, passes_less j.front)) in
          (b.0, rw (m.0, m.1) (gives_then (read.variables n end left j.mid) _ b.1 refl), b.2),
    )

no_further : (left : ℕ) (ls after : Ahead) → ls ≡ after → ReadsFurther left [] ls after
no_further left ls after e q c end n o = rw e (q, λ w. ([], rw c refl, refl))

further_written : (least : ℕ) (vs : List Variable) → AreVariablesWritten least vs → (left : ℕ) → least ≤ left → IsText (further_variables vs) (ReadsFurther left vs)
further_written least [] h left o = text_as text_none (λ ls after e. no_further left ls after e)
further_written least (v ∷ vs) h left o = text_as (text_join comma_text (text_join (h.0 left o) (further_written least vs h.1 left o))) (λ ls after j. comma_further left v vs ls after j)

pub variables_back : (least : ℕ) (v : Variable) (vs : List Variable) → AreVariablesWritten least (v ∷ vs) → (left : ℕ) → least ≤ left → IsText (variables_written (v ∷ vs)) (ReadsVariables left (v ∷ vs))
variables_back least v vs h left o = text_as (text_join (h.0 left o) (further_written least vs h.1 left o)) (λ ls after j. variables_read left v vs ls after j)
