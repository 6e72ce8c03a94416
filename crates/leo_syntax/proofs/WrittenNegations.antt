-- Negations that are written are read back.
use Rattle.std.proofs.Common.{◌≡◌, ℕ, zero, suc, ◌≤◌, Bool, true, false, List, ◌++◌, refl, ap, sym, subst, ◌∙◌, arith}
use Rattle.std.specs.Prelude.{codes, Ok}
use Rattle.leo_lex.specs.declared.mark.Mark.TheVariants as mark
use Rattle.leo_syntax.specs.declared.classes.Class.TheVariants as class
use Rattle.leo_syntax.specs.declared.tree.Tree.{Tree}
use Rattle.leo_syntax.specs.declared.tree.Node.TheVariants as node
use Rattle.leo_syntax.specs.declared.writing.Place.{Place}
use Rattle.leo_syntax.specs.declared.writing.Place.TheVariants.{Formula, Operand, SealedOperand, Chain, Side, SealedSide, Left, Last, SealedLast, Item}
use Rattle.leo_syntax.specs.Classes.{mark_class}
use Rattle.leo_syntax.specs.Lexemes.{Ahead}
use Rattle.leo_syntax.specs.Grammar.{Takes, class_at, byte_of, at_byte}
use Rattle.leo_syntax.specs.Reading as read
use Rattle.leo_syntax.specs.Reading.{rest}
use Rattle.leo_syntax.specs.Texts.{word, opened, closed, negates, operand_of, writer, written}
use Rattle.leo_syntax.specs.Bare.{bare_tree}
use Rattle.leo_syntax.proofs.Nodes.{writer-Not, bare-Not}
use Rattle.leo_syntax.proofs.Unique.{taken}
use Rattle.leo_syntax.proofs.WrittenWords.{IsText, Joined, text_class}
use Rattle.leo_syntax.proofs.WrittenTypes.{gives_then}
use Rattle.leo_syntax.proofs.WrittenPlaces.{reader, ReadsAt, closes_ends, formula_operand, chain_operand, closes_chain, takes_item, text_two, stand_text, bracket_text, IsWrittenAt, MayStand, level_at, IsWrittenFrom, as_unary, as_negation}

negated_by : (end left : ℕ) (ls mid after : Ahead) (t : Tree) → Takes class.Not ls mid → read.unary end left mid ≡ Ok (t, after) → read.negation_with end (read.unary end left) ls ≡ Ok (at_byte (byte_of ls) (node.Not t), after)
negated_by end left ls mid after t h e = rw (taken h).1 (gives_then (read.unary end left mid) _ e refl)

operand : (end left : ℕ) (ls mid after : Ahead) (t : Tree) → Takes class.Not ls mid → read.unary end left mid ≡ Ok (t, after) → read.unary end (suc left) ls ≡ Ok (at_byte (byte_of ls) (node.Not t), after)
unfolding read.unary read.unary_with
operand end left ls mid after t h e = rw (taken h).0 (negated_by end left ls mid after t h e)

side : (end left : ℕ) (ls mid after : Ahead) (t : Tree) → Takes class.Not ls mid → read.unary end left mid ≡ Ok (t, after) → reader Side end (suc left) ls ≡ Ok (at_byte (byte_of ls) (node.Not t), after)
side end left ls mid after t h e = rw (taken h).0 (negated_by end left ls mid after t h e)

module _ (byte : ℕ) (u : Tree) where
  abbrev whole : Tree
  whole = at_byte byte (node.Not u)

  abbrev Parts : Place → ℕ → Ahead → Ahead → Type 0
  Parts q left = Joined (λ ls after. Takes class.Not ls after) (ReadsAt q left u)

  same : (at : ℕ) (t : Tree) → bare_tree t ≡ bare_tree u → bare_tree (at_byte at (node.Not t)) ≡ bare_tree whole
  same at t e = bare-Not at t ∙ ap (λ x. at_byte 0 (node.Not x)) e ∙ sym (bare-Not byte u)

  reads : (p : Place) → negates p (writer u).ends ≡ true → (left : ℕ) (ls after : Ahead) → Parts (operand_of p true) left ls after → ReadsAt p (suc left) whole ls after
  reads Formula s left ls after j q end = let b = j.back (closes_ends (class_at after) q) end in
      (at_byte (byte_of ls) (node.Not b.0), formula_operand end (suc left) ls after _ (operand end left ls j.mid after b.0 j.front b.1) q, same (byte_of ls) b.0 b.2)
  reads Operand s left ls after j q end = let b = j.back q end in (at_byte (byte_of ls) (node.Not b.0), operand end left ls j.mid after b.0 j.front b.1, same (byte_of ls) b.0 b.2)
  reads SealedOperand s left ls after j q end = let b = j.back q end in (at_byte (byte_of ls) (node.Not b.0), operand end left ls j.mid after b.0 j.front b.1, same (byte_of ls) b.0 b.2)
  reads (Chain c) s left ls after j q end = let b = j.back (closes_ends (class_at after) q) end in
      (at_byte (byte_of ls) (node.Not b.0), chain_operand end (suc left) c ls after _ (operand end left ls j.mid after b.0 j.front b.1) (closes_chain c (class_at after) q), same (byte_of ls) b.0 b.2)
  reads Side s left ls after j q end = let b = j.back q end in (at_byte (byte_of ls) (node.Not b.0), side end left ls j.mid after b.0 j.front b.1, same (byte_of ls) b.0 b.2)
  reads SealedSide s left ls after j q end = let b = j.back q end in (at_byte (byte_of ls) (node.Not b.0), side end left ls j.mid after b.0 j.front b.1, same (byte_of ls) b.0 b.2)
  reads Left s left ls after j q end = absurd cc
  reads Last s left ls after j q end = absurd cc
  reads SealedLast s left ls after j q end = absurd cc
  reads Item s left ls after j q end = absurd cc

  abbrev body : Place → List ℕ → List ℕ
  body q e = word (codes "~") ++ (written q u ++ e)

  joined : (q : Place) (left : ℕ) → IsText (written q u) (ReadsAt q left u) → (e : List ℕ) (E : Ahead → Ahead → Type 0) → IsText e E → IsText (body q e) (Joined (Parts q left) E)
  unfolding mark_class
  joined q left h = text_two (text_class mark.Not) h

  stands : (p : Place) → negates p (writer u).ends ≡ true → (least : ℕ) → IsWrittenAt (operand_of p true) u least → (left : ℕ) → suc least ≤ left → IsText (opened true ++ body (operand_of p true) (closed true)) (ReadsAt p left whole)
  stands p s least h zero o = absurd (omega (arith, o))
  stands p s least h (suc left) o = stand_text (body (operand_of p true)) (Parts (operand_of p true) left) p (suc left) whole (joined (operand_of p true) left (h left (omega (arith, o)))) (λ ls after j. reads p s left ls after j)

  brackets : (p : Place) → takes_item p ≡ true → (least : ℕ) → IsWrittenAt Operand u least → (left : ℕ) → suc (suc least) ≤ left → IsText (opened false ++ body Operand (closed false)) (ReadsAt p left whole)
  brackets p s least h zero o = absurd (omega (arith, o))
  brackets p s least h (suc zero) o = absurd (omega (arith, o))
  brackets p s least h (suc (suc left)) o = bracket_text (body Operand) (Parts Operand left) p s (suc left) whole (joined Operand left (h left (omega (arith, o)))) (λ ls after j. reads Formula refl left ls after j)

  abbrev text_at : Place → Bool → List ℕ
  text_at p ends = opened (negates p ends) ++ body (operand_of p (negates p ends)) (closed (negates p ends))

  by : (sealed : Bool) (least : ℕ) → IsWrittenFrom (as_unary sealed) least u → (sealed ≡ true → (writer u).ends ≡ true) → (p : Place) → MayStand p whole → (left : ℕ) → level_at (as_negation sealed p) (suc least) ≤ left
      → (ends : Bool) → (writer u).ends ≡ ends → IsText (text_at p ends) (ReadsAt p left whole)
  by sealed least h k Formula may left o ends e = stands Formula refl least (h.at Operand tt) left o
  by sealed least h k Operand may left o ends e = stands Operand refl least (h.at Operand tt) left o
  by sealed least h k (Chain c) may left o ends e = stands (Chain c) refl least (h.at Operand tt) left o
  by sealed least h k Side may left o ends e = stands Side refl least (h.at Operand tt) left o
  by sealed least h k SealedOperand may left o ends e = stands SealedOperand refl (level_at sealed least) (h.at SealedOperand (sym (ap (λ w. w.ends) (writer-Not byte u)) ∙ may)) left (level_suc sealed least left o)
    where
      level_suc : (b : Bool) (n m : ℕ) → level_at b (suc n) ≤ m → suc (level_at b n) ≤ m
      level_suc true n m o = o
      level_suc false n m o = o
  by sealed least h k SealedSide may left o true e = stands SealedSide e (level_at sealed least) (h.at SealedOperand e) left (level_suc sealed least left o)
    where
      level_suc : (b : Bool) (n m : ℕ) → level_at b (suc n) ≤ m → suc (level_at b n) ≤ m
      level_suc true n m o = o
      level_suc false n m o = o
  by sealed least h k SealedSide may left o false e = brackets SealedSide refl least (h.at Operand tt) left (open_level sealed k e o)
    where
      open_level : (b : Bool) → (b ≡ true → (writer u).ends ≡ true) → (writer u).ends ≡ false → level_at b (suc least) ≤ left → suc (suc least) ≤ left
      open_level false k e o = o
      open_level true k e o = (let f = k refl in absurd (let g : false ≡ true = sym e ∙ f in cc))
  by sealed least h k Left may left o ends e = brackets Left refl least (h.at Operand tt) left o
  by sealed least h k Last may left o ends e = brackets Last refl least (h.at Operand tt) left o
  by sealed least h k SealedLast may left o ends e = brackets SealedLast refl least (h.at Operand tt) left o
  by sealed least h k Item may left o ends e = brackets Item refl least (h.at Operand tt) left o

pub not_ok : (byte : ℕ) (u : Tree) (sealed : Bool) (least : ℕ) → IsWrittenFrom (as_unary sealed) least u → (sealed ≡ true → (writer u).ends ≡ true) → IsWrittenFrom (as_negation sealed) (suc least) (at_byte byte (node.Not u))
not_ok byte u sealed least h k = record { at = λ p may left o. subst (λ x. IsText x (ReadsAt p left (at_byte byte (node.Not u)))) (sym (ap (λ w. w.at p) (writer-Not byte u))) (by byte u sealed least h k p may left o (writer u).ends refl) }
