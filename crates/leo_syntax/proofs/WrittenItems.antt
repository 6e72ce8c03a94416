-- Items that are written are read back at each place.
use Rattle.std.proofs.Common.{◌≡◌, ◌⊎◌, ℕ, zero, suc, ◌≤◌, true, false, List, ◌∷◌, refl, ap, sym, subst, ◌∙◌, inl, inr, arith}
use Rattle.std.specs.Prelude.{codes, None}
use Rattle.leo_lex.specs.declared.mark.Mark.TheVariants as mark
use Rattle.leo_lex.specs.declared.token.Kind.TheVariants as kind
use Rattle.leo_lex.specs.Forms.{IsToken, IsWord}
use Rattle.leo_lex.specs.Bytes.{is_lower, is_word}
use Rattle.leo_syntax.specs.declared.classes.Class.TheVariants as class
use Rattle.leo_syntax.specs.declared.classes.Guard.TheVariants as guard
use Rattle.leo_syntax.specs.declared.classes.Symbol.{Symbol}
use Rattle.leo_syntax.specs.declared.classes.Symbol.TheVariants as symbol
use Rattle.leo_syntax.specs.declared.tree.Connective.{Connective}
use Rattle.leo_syntax.specs.declared.tree.Connective.TheVariants as connective
use Rattle.leo_syntax.specs.declared.tree.Tree.{Tree}
use Rattle.leo_syntax.specs.declared.tree.Node.TheVariants as node
use Rattle.leo_syntax.specs.declared.writing.Place.{Place}
use Rattle.leo_syntax.specs.declared.writing.Place.TheVariants.{Formula, Operand, SealedOperand, Chain, Side, SealedSide, Left, Last, SealedLast, Item}
use Rattle.leo_syntax.specs.Classes.{class_by, mark_class, dollar_class, guard_form}
use Rattle.leo_syntax.specs.declared.classes.Class.{Class}
use Rattle.leo_syntax.specs.Lexemes.{Ahead, atom_of, upper_of}
use Rattle.leo_syntax.specs.Grammar.{Takes, Says, Passes, class_at, byte_of, at_byte, symbol_node}
use Rattle.leo_syntax.specs.Reading as read
use Rattle.leo_syntax.specs.Reading.{read_mark, read_said, read_guard, rest}
use Rattle.leo_syntax.specs.Texts.{word, atom_text, connective_text, sign_written, writer, written, open_ended}
use Rattle.leo_syntax.specs.Bare.{bare_tree}
use Rattle.leo_syntax.proofs.Nodes.{writer-Atom, writer-Var, writer-True, writer-False, writer-Negation, writer-Connective, writer-Pi, writer-Sigma, writer-Choice, bare-Atom, bare-Var, bare-True, bare-False, bare-Negation, bare-Connective, bare-Pi, bare-Sigma, bare-Choice}
use Rattle.leo_syntax.proofs.Unique.{taken, says_atom, says_upper, is_open}
use Rattle.leo_syntax.proofs.WrittenWords.{IsText, text_as, text_join, Joined, text_word, text_class, next_takes, close_text, IsAtom, atom_text_is, upper_text_is}
use Rattle.leo_syntax.proofs.WrittenTypes.{gives_then, gives_mark, gives_said, gives_guard}
use Rattle.leo_syntax.proofs.WrittenPlaces.{item_at, Back, ReadsAt, follows_open, takes_item, at_item, MayStand, IsWrittenFrom, as_item}

-- with so many levels and more it is read as an item
abbrev ReadsItem : ℕ → Tree → Ahead → Ahead → Type 0
ReadsItem least t ls after = is_open (class_at after) ≡ false → (end left : ℕ) → least ≤ left → Back (item_at end left ls) t after

takes_or : (p : Place) → (takes_item p ≡ true) ⊎ (p ≡ SealedOperand)
takes_or SealedOperand = inr refl
takes_or Formula = inl refl
takes_or Operand = inl refl
takes_or (Chain c) = inl refl
takes_or Side = inl refl
takes_or SealedSide = inl refl
takes_or Left = inl refl
takes_or Last = inl refl
takes_or SealedLast = inl refl
takes_or Item = inl refl

item_written : (least : ℕ) (t : Tree) (text : List ℕ) → writer t ≡ open_ended (λ p. text) → IsText text (ReadsItem least t) → IsWrittenFrom as_item least t
item_written least t text e h = record { at = λ p may left o. by p may left o (takes_or p) }
  where
    by : (p : Place) → MayStand p t → (left : ℕ) → least ≤ left → (takes_item p ≡ true) ⊎ (p ≡ SealedOperand) → IsText (written p t) (ReadsAt p left t)
    by p may left o (inl s) = subst (λ x. IsText x (ReadsAt p left t)) (sym (ap (λ w. w.at p) e)) (text_as h (λ ls after r q end.
        let b = r (follows_open p (class_at after) q) end left o in
        (b.0, at_item p s end left ls after b.0 b.1 q, b.2)))
    by p may left o (inr s) = (let f : (writer t).ends ≡ true = subst (λ x. MayStand x t) s may in absurd (let g : false ≡ true = sym (ap (λ w. w.ends) e) ∙ f in cc))

atom_guard : (k : Class) → is_open k ≡ false → guard_form guard.BehindAtom k ≡ None
unfolding guard_form
atom_guard class.Open e = absurd cc
atom_guard _ e = refl

atom_item : (byte : ℕ) (name : List ℕ) (ls after : Ahead) → Says atom_of ls name after → ReadsItem 1 (at_byte byte (node.Atom name)) ls after
unfolding read.item_with
atom_item byte name ls after s q end zero o = absurd (omega (arith, o))
atom_item byte name ls after s q end (suc left) o = (
  at_byte (byte_of ls) (node.Atom name),
  rw (says_atom s) (gives_then (read_said atom_of end ls) _ (gives_said atom_of end s) (gives_then (read_guard guard.BehindAtom end after) _ (gives_guard guard.BehindAtom end after (atom_guard (class_at after) q)) refl)),
  bare-Atom (byte_of ls) name ∙ sym (bare-Atom byte name),
)

pub atom_ok : (byte : ℕ) (name : List ℕ) → IsAtom name → IsWrittenFrom as_item 1 (at_byte byte (node.Atom name))
atom_ok byte name h = item_written 1 (at_byte byte (node.Atom name)) (word (atom_text name)) (writer-Atom byte name) (text_as (atom_text_is name h) (λ ls after s. atom_item byte name ls after s))

variable_item : (byte : ℕ) (name : List ℕ) (ls after : Ahead) → Says upper_of ls name after → ReadsItem 1 (at_byte byte (node.Var name)) ls after
unfolding read.item_with
variable_item byte name ls after s q end zero o = absurd (omega (arith, o))
variable_item byte name ls after s q end (suc left) o = (
  at_byte (byte_of ls) (node.Var name),
  rw (says_upper s) (gives_then (read_said upper_of end ls) _ (gives_said upper_of end s) refl),
  bare-Var (byte_of ls) name ∙ sym (bare-Var byte name),
)

pub variable_item_ok : (byte : ℕ) (name : List ℕ) → IsToken kind.Upper name → IsWrittenFrom as_item 1 (at_byte byte (node.Var name))
variable_item_ok byte name h = item_written 1 (at_byte byte (node.Var name)) (word name) (writer-Var byte name) (text_as (upper_text_is name h) (λ ls after s. variable_item byte name ls after s))

-- ---- symbols

abbrev symbol_text : Symbol → List ℕ
symbol_text symbol.True = codes "$true"
symbol_text symbol.False = codes "$false"
symbol_text symbol.Pi = codes "!!"
symbol_text symbol.Sigma = codes "??"
symbol_text symbol.Choice = codes "@@+"

symbol_bare : (s : Symbol) (byte : ℕ) → bare_tree (at_byte byte (symbol_node s)) ≡ at_byte 0 (symbol_node s)
symbol_bare symbol.True byte = bare-True byte
symbol_bare symbol.False byte = bare-False byte
symbol_bare symbol.Pi byte = bare-Pi byte
symbol_bare symbol.Sigma byte = bare-Sigma byte
symbol_bare symbol.Choice byte = bare-Choice byte

symbol_writer : (s : Symbol) (byte : ℕ) → writer (at_byte byte (symbol_node s)) ≡ open_ended (λ p. word (symbol_text s))
symbol_writer symbol.True byte = writer-True byte
symbol_writer symbol.False byte = writer-False byte
symbol_writer symbol.Pi byte = writer-Pi byte
symbol_writer symbol.Sigma byte = writer-Sigma byte
symbol_writer symbol.Choice byte = writer-Choice byte

dollar_takes : (c : Class) (tail : List ℕ) → IsWord is_lower tail → class_by kind.Dollar (36 ∷ tail) ≡ c → IsText (word (36 ∷ tail)) (λ ls after. Takes c ls after)
dollar_takes c tail h e = text_as (text_word kind.Dollar (36 ∷ tail) (tail, h, refl)) (λ ls after n. subst (λ x. Takes x ls after) e (next_takes n))

symbol_takes : (s : Symbol) → IsText (word (symbol_text s)) (λ ls after. Takes (class.Symbol s) ls after)
unfolding class_by dollar_class is_lower is_word mark_class
symbol_takes symbol.True = dollar_takes (class.Symbol symbol.True) (codes "true") (refl, (refl, (refl, (refl, tt)))) refl
symbol_takes symbol.False = dollar_takes (class.Symbol symbol.False) (codes "false") (refl, (refl, (refl, (refl, (refl, tt))))) refl
symbol_takes symbol.Pi = text_class mark.Pi
symbol_takes symbol.Sigma = text_class mark.Sigma
symbol_takes symbol.Choice = text_class mark.ChoiceOf

symbol_item : (s : Symbol) (byte : ℕ) (ls after : Ahead) → Takes (class.Symbol s) ls after → ReadsItem 1 (at_byte byte (symbol_node s)) ls after
unfolding read.item_with
symbol_item s byte ls after h q end zero o = absurd (omega (arith, o))
symbol_item s byte ls after h q end (suc left) o = let m = taken h in (at_byte (byte_of ls) (symbol_node s), rw (m.0, m.1) refl, symbol_bare s (byte_of ls) ∙ sym (symbol_bare s byte))

pub symbol_ok : (s : Symbol) (byte : ℕ) → IsWrittenFrom as_item 1 (at_byte byte (symbol_node s))
symbol_ok s byte = item_written 1 (at_byte byte (symbol_node s)) (word (symbol_text s)) (symbol_writer s byte) (text_as (symbol_takes s) (λ ls after h. symbol_item s byte ls after h))

-- ---- connectives in brackets

close_takes : {ls after : Ahead} → Takes class.Close ls after → read.is_close (class_at ls) ≡ true
close_takes h = rw (taken h).0 refl

negation_item : (byte : ℕ) (ls after : Ahead) → Joined (λ ls after. Takes class.Open ls after) (Joined (λ ls after. Takes class.Not ls after) (λ ls after. Takes class.Close ls after)) ls after → ReadsItem 2 (at_byte byte node.Negation) ls after
unfolding read.item_with read.unary
negation_item byte ls after j q end zero o = absurd (omega (arith, o))
negation_item byte ls after j q end (suc zero) o = absurd (omega (arith, o))
negation_item byte ls after j q end (suc (suc left)) o =
    let m = taken j.front in let n = taken j.back.front in let k = taken j.back.back in
    (at_byte (byte_of ls) node.Negation, rw (m.0, m.1, n.0, n.1, close_takes j.back.back, k.1) refl, bare-Negation (byte_of ls) ∙ sym (bare-Negation byte))

pub negation_ok : (byte : ℕ) → IsWrittenFrom as_item 2 (at_byte byte node.Negation)
unfolding mark_class
negation_ok byte = item_written 2 (at_byte byte node.Negation) (sign_written (codes "~")) (writer-Negation byte)
    (text_as (text_join (text_class mark.OpenRound) (text_join (text_class mark.Not) (text_class mark.CloseRound))) (λ ls after j. negation_item byte ls after j))

pub connective_takes : (c : Connective) → IsText (word (connective_text c)) (λ ls after. Takes (class.Join c) ls after)
unfolding mark_class connective_text
connective_takes connective.Or = text_class mark.Or
connective_takes connective.And = text_class mark.And
connective_takes connective.Implies = text_class mark.Implies
connective_takes connective.ImpliedBy = text_class mark.ImpliedBy
connective_takes connective.Iff = text_class mark.Iff
connective_takes connective.Xor = text_class mark.Xor
connective_takes connective.Nor = text_class mark.Nor
connective_takes connective.Nand = text_class mark.Nand

connective_item : (c : Connective) (byte : ℕ) (ls after : Ahead) → Joined (λ ls after. Takes class.Open ls after) (Joined (λ ls after. Takes (class.Join c) ls after) (λ ls after. Passes mark.CloseRound ls after)) ls after → ReadsItem 2 (at_byte byte (node.Connective c)) ls after
unfolding read.item_with read.unary
connective_item c byte ls after j q end zero o = absurd (omega (arith, o))
connective_item c byte ls after j q end (suc zero) o = absurd (omega (arith, o))
connective_item c byte ls after j q end (suc (suc left)) o =
    let m = taken j.front in let n = taken j.back.front in
    (at_byte (byte_of ls) (node.Connective c), rw (m.0, m.1, n.0, n.1) (gives_then (read_mark mark.CloseRound end j.back.mid) _ (gives_mark end j.back.back) refl), bare-Connective (byte_of ls) c ∙ sym (bare-Connective byte c))

pub connective_ok : (c : Connective) (byte : ℕ) → IsWrittenFrom as_item 2 (at_byte byte (node.Connective c))
unfolding mark_class
connective_ok c byte = item_written 2 (at_byte byte (node.Connective c)) (sign_written (connective_text c)) (writer-Connective byte c)
    (text_as (text_join (text_class mark.OpenRound) (text_join (connective_takes c) close_text)) (λ ls after j. connective_item c byte ls after j))
