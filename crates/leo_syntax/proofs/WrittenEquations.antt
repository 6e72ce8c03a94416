-- Equations that are written are read back.
use Rattle.std.proofs.Common.{◌≡◌, ℕ, zero, suc, ◌≤◌, Bool, true, false, List, ◌++◌, refl, ap, sym, subst, ◌∙◌, arith}
use Rattle.std.specs.Prelude.{Ok}
use Rattle.leo_lex.specs.declared.mark.Mark.TheVariants as mark
use Rattle.leo_syntax.specs.declared.classes.Class.TheVariants as class
use Rattle.leo_syntax.specs.declared.tree.Sign.{Sign}
use Rattle.leo_syntax.specs.declared.tree.Sign.TheVariants as sign
use Rattle.leo_syntax.specs.declared.tree.Tree.{Tree}
use Rattle.leo_syntax.specs.declared.tree.Node.TheVariants as node
use Rattle.leo_syntax.specs.declared.writing.Place.{Place}
use Rattle.leo_syntax.specs.declared.writing.Place.TheVariants.{Formula, Operand, SealedOperand, Chain, Side, SealedSide, Left, Last, SealedLast, Item}
use Rattle.leo_syntax.specs.Classes.{mark_class}
use Rattle.leo_syntax.specs.Lexemes.{Ahead}
use Rattle.leo_syntax.specs.Grammar.{Takes, class_at, byte_of, at_byte, is_equal}
use Rattle.leo_syntax.specs.Reading as read
use Rattle.leo_syntax.specs.Reading.{rest}
use Rattle.leo_syntax.specs.Texts.{word, opened, closed, sign_text, equates, side_of, written}
use Rattle.leo_syntax.specs.Bare.{bare_tree}
use Rattle.leo_syntax.proofs.Nodes.{writer-Equal, bare-Equal}
use Rattle.leo_syntax.proofs.Unique.{taken, begin_default}
use Rattle.leo_syntax.proofs.WrittenWords.{IsText, Joined, text_class}
use Rattle.leo_syntax.proofs.WrittenTypes.{gives_then}
use Rattle.leo_syntax.proofs.WrittenPlaces.{application_front, reader, ReadsAt, closes_ends, formula_operand, chain_operand, closes_chain, takes_item, text_three, stand_text, bracket_text, IsWrittenAt, level_at, IsWrittenFrom, as_unary, as_side}

equal_follows : {s : Sign} {ls after : Ahead} → Takes (class.Equal s) ls after → is_equal (class_at ls) ≡ true
equal_follows h = rw (taken h).0 refl

abbrev found : Sign → ℕ → Ahead → Tree → Tree → Tree
found s mark ls x y = at_byte (byte_of ls) (node.Equal s mark x y)

operand : (s : Sign) (end left : ℕ) (ls mid next after : Ahead) (x y : Tree) → reader Left end left ls ≡ Ok (x, mid) → Takes (class.Equal s) mid next → reader Side end left next ≡ Ok (y, after) → read.unary end left ls ≡ Ok (found s (byte_of mid) ls x y, after)
unfolding read.unary read.unary_with read.equation_with
operand s end zero ls mid next after x y e h k = absurd cc
operand s end (suc left) ls mid next after x y e h k = let m = taken h in
    rw (begin_default (class_at ls) (application_front end (suc left) ls e) _ _ _ _ ls) (gives_then (reader Left end (suc left) ls) _ e (rw (m.0, m.1) (gives_then (reader Side end (suc left) next) _ k refl)))

sign_takes : (s : Sign) → IsText (word (sign_text s)) (λ ls after. Takes (class.Equal s) ls after)
unfolding sign_text mark_class
sign_takes sign.Equal = text_class mark.Equal
sign_takes sign.NotEqual = text_class mark.NotEqual

more : (b : Bool) (n m : ℕ) → level_at b n ≤ m → n ≤ m
more true n m o = o
more false n m o = omega (arith, o)

module _ (byte at : ℕ) (s : Sign) (a b : Tree) where
  abbrev whole : Tree
  whole = at_byte byte (node.Equal s at a b)

  abbrev Parts : Place → ℕ → Ahead → Ahead → Type 0
  Parts q left = Joined (ReadsAt Left left a) (Joined (λ ls after. Takes (class.Equal s) ls after) (ReadsAt q left b))

  same : (mark place : ℕ) (x y : Tree) → bare_tree x ≡ bare_tree a → bare_tree y ≡ bare_tree b → bare_tree (at_byte place (node.Equal s mark x y)) ≡ bare_tree whole
  same mark place x y e f = bare-Equal place s mark x y ∙ rw (e, f) (sym (bare-Equal byte s at a b))

  reads : (p : Place) → equates p ≡ true → (left : ℕ) (ls after : Ahead) → Parts (side_of p) left ls after → ReadsAt p left whole ls after
  reads Formula e left ls after j q end = let x = j.front (equal_follows j.back.front) end in let y = j.back.back (closes_ends (class_at after) q) end in
      (found s (byte_of j.mid) ls x.0 y.0, formula_operand end left ls after _ (operand s end left ls j.mid j.back.mid after x.0 y.0 x.1 j.back.front y.1) q, same (byte_of j.mid) (byte_of ls) x.0 y.0 x.2 y.2)
  reads (Chain c) e left ls after j q end = let x = j.front (equal_follows j.back.front) end in let y = j.back.back (closes_ends (class_at after) q) end in
      (found s (byte_of j.mid) ls x.0 y.0, chain_operand end left c ls after _ (operand s end left ls j.mid j.back.mid after x.0 y.0 x.1 j.back.front y.1) (closes_chain c (class_at after) q), same (byte_of j.mid) (byte_of ls) x.0 y.0 x.2 y.2)
  reads Operand e left ls after j q end = let x = j.front (equal_follows j.back.front) end in let y = j.back.back q end in
      (found s (byte_of j.mid) ls x.0 y.0, operand s end left ls j.mid j.back.mid after x.0 y.0 x.1 j.back.front y.1, same (byte_of j.mid) (byte_of ls) x.0 y.0 x.2 y.2)
  reads SealedOperand e left ls after j q end = let x = j.front (equal_follows j.back.front) end in let y = j.back.back q end in
      (found s (byte_of j.mid) ls x.0 y.0, operand s end left ls j.mid j.back.mid after x.0 y.0 x.1 j.back.front y.1, same (byte_of j.mid) (byte_of ls) x.0 y.0 x.2 y.2)
  reads Side e left ls after j q end = absurd cc
  reads SealedSide e left ls after j q end = absurd cc
  reads Left e left ls after j q end = absurd cc
  reads Last e left ls after j q end = absurd cc
  reads SealedLast e left ls after j q end = absurd cc
  reads Item e left ls after j q end = absurd cc

  abbrev body : Place → List ℕ → List ℕ
  body q e = written Left a ++ (word (sign_text s) ++ (written q b ++ e))

  stands : (p : Place) → equates p ≡ true → (least most : ℕ) → IsWrittenAt Left a least → IsWrittenAt (side_of p) b most → (left : ℕ) → least ≤ left → most ≤ left → IsText (opened true ++ body (side_of p) (closed true)) (ReadsAt p left whole)
  stands p e least most h k left o r = stand_text (body (side_of p)) (Parts (side_of p) left) p left whole (text_three (h left o) (sign_takes s) (k left r)) (λ ls after j. reads p e left ls after j)

  brackets : (p : Place) → takes_item p ≡ true → (least : ℕ) → IsWrittenAt Left a least → IsWrittenAt Side b least → (left : ℕ) → suc least ≤ left → IsText (opened false ++ body Side (closed false)) (ReadsAt p left whole)
  brackets p e least h k zero o = absurd (omega (arith, o))
  brackets p e least h k (suc left) o = bracket_text (body Side) (Parts Side left) p e left whole (text_three (h left (omega (arith, o))) (sign_takes s) (k left (omega (arith, o)))) (λ ls after j. reads Formula refl left ls after j)

  by : (sealed : Bool) (least : ℕ) → IsWrittenAt Left a least → IsWrittenFrom (as_side sealed) least b → (p : Place) (left : ℕ) → level_at (as_unary sealed p) least ≤ left
      → IsText (opened (equates p) ++ body (side_of p) (closed (equates p))) (ReadsAt p left whole)
  by sealed least h k Formula left o = stands Formula refl least least h (k.at Side tt) left o o
  by sealed least h k Operand left o = stands Operand refl least least h (k.at Side tt) left o o
  by sealed least h k (Chain c) left o = stands (Chain c) refl least least h (k.at Side tt) left o o
  by sealed least h k SealedOperand left o = stands SealedOperand refl least (level_at sealed least) h (k.at SealedSide tt) left (more sealed least left o) o
  by sealed least h k Side left o = brackets Side refl least h (k.at Side tt) left o
  by sealed least h k SealedSide left o = brackets SealedSide refl least h (k.at Side tt) left o
  by sealed least h k Left left o = brackets Left refl least h (k.at Side tt) left o
  by sealed least h k Last left o = brackets Last refl least h (k.at Side tt) left o
  by sealed least h k SealedLast left o = brackets SealedLast refl least h (k.at Side tt) left o
  by sealed least h k Item left o = brackets Item refl least h (k.at Side tt) left o

pub equal_ok : (byte at : ℕ) (s : Sign) (a b : Tree) (sealed : Bool) (least : ℕ) → IsWrittenAt Left a least → IsWrittenFrom (as_side sealed) least b → IsWrittenFrom (as_unary sealed) least (at_byte byte (node.Equal s at a b))
equal_ok byte at s a b sealed least h k = record { at = λ p may left o. subst (λ x. IsText x (ReadsAt p left (at_byte byte (node.Equal s at a b)))) (sym (ap (λ w. w.at p) (writer-Equal byte s at a b))) (by byte at s a b sealed least h k p left o) }
