-- Binders that are written are read back.
use Rattle.std.proofs.Common.{◌≡◌, ℕ, zero, suc, ◌+◌, ◌-◌, ◌≤◌, length, map, Bool, true, false, List, [], ◌∷◌, ◌++◌, refl, ap, sym, subst, ◌∙◌, arith}
use Rattle.std.specs.Prelude.{Ok}
use Rattle.leo_lex.specs.declared.mark.Mark.TheVariants as mark
use Rattle.leo_syntax.specs.declared.classes.Class.TheVariants as class
use Rattle.leo_syntax.specs.declared.tree.Tree.{Tree}
use Rattle.leo_syntax.specs.declared.tree.Node.TheVariants as node
use Rattle.leo_syntax.specs.declared.writing.Place.{Place}
use Rattle.leo_syntax.specs.declared.writing.Place.TheVariants.{Formula, Operand, SealedOperand, Chain, Side, SealedSide, Left, Last, SealedLast, Item}
use Rattle.leo_syntax.specs.Classes.{mark_class}
use Rattle.leo_syntax.specs.Lexemes.{Ahead, is_mark_kind, same_mark}
use Rattle.leo_syntax.specs.declared.tree.Binder.{Binder}
use Rattle.leo_syntax.specs.declared.tree.Binder.TheVariants as binder
use Rattle.leo_syntax.specs.declared.tree.Variable.{Variable}
use Rattle.leo_lex.specs.declared.token.Kind.{Kind}
use Rattle.leo_lex.specs.declared.token.Kind.TheVariants as kind
use Rattle.leo_syntax.specs.Grammar.{Passes, sees, Takes, class_at, byte_of, at_byte}
use Rattle.leo_syntax.specs.Reading as read
use Rattle.leo_syntax.specs.Reading.{rest, read_mark}
use Rattle.leo_syntax.specs.Texts.{word, opened, closed, binder_text, binder_written, binds, operand_of, writer, written}
use Rattle.leo_syntax.specs.Bare.{bare_tree, bare_variable}
use Rattle.leo_syntax.proofs.Nodes.{writer-Bind, bare-Bind}
use Rattle.leo_syntax.proofs.Unique.{taken, square_closes}
use Rattle.leo_syntax.proofs.WrittenWords.{IsText, text_join, Joined, text_class, square_text, close_square_text, colon_text}
use Rattle.leo_syntax.proofs.WrittenTypes.{gives_then, gives_mark, AreVariablesWritten, ReadsVariables, variables_back}
use Rattle.leo_syntax.proofs.WrittenPlaces.{reader, Back, ReadsAt, closes_ends, formula_operand, chain_operand, closes_chain, takes_item, text_two, stand_text, bracket_text, IsWrittenAt, MayStand, level_at, IsWrittenFrom, as_unary, as_binder}

abbrev Head : Binder → ℕ → List Variable → Ahead → Ahead → Type 0
Head b left vs = Joined (λ ls after. Takes (class.Bind b) ls after) (Joined (λ ls after. Passes mark.OpenSquare ls after) (Joined (ReadsVariables left vs) (Joined (λ ls after. Passes mark.CloseSquare ls after) (λ ls after. Passes mark.Colon ls after))))

binder_takes : (b : Binder) → IsText (word (binder_text b)) (λ ls after. Takes (class.Bind b) ls after)
unfolding mark_class binder_text
binder_takes binder.ForAll = text_class mark.ForAll
binder_takes binder.Exists = text_class mark.Exists
binder_takes binder.Lambda = text_class mark.Lambda
binder_takes binder.Choice = text_class mark.Choice

head_is : (b : Binder) (v : Variable) (vs : List Variable) (least : ℕ) → AreVariablesWritten least (v ∷ vs) → (left : ℕ) → least ≤ left → IsText (binder_written b (v ∷ vs)) (Head b left (v ∷ vs))
head_is b v vs least h left o = text_join (binder_takes b) (text_join square_text (text_join (variables_back least v vs h left o) (text_join close_square_text colon_text)))

body_now : (end left : ℕ) (ls : Ahead) → read.body end left 0 ls ≡ read.unary end left ls
unfolding read.unary
body_now end zero ls = refl
body_now end (suc left) ls = refl

body_is : (end n left whole : ℕ) (ls : Ahead) → whole ≡ n + left → read.body end whole n ls ≡ read.unary end left ls
unfolding read.unary
body_is end zero left whole ls e = let f : whole ≡ left = omega (arith, e) in rw f (body_now end left ls)
body_is end (suc n) left zero ls e = absurd (omega (arith, e))
body_is end (suc n) left (suc whole) ls e = body_is end n left whole ls (omega (arith, e))

length_bare : (xs ys : List Variable) → map bare_variable xs ≡ map bare_variable ys → length xs ≡ length ys
length_bare [] [] e = refl
length_bare [] (y ∷ ys) e = absurd cc
length_bare (x ∷ xs) [] e = absurd cc
length_bare (x ∷ xs) (y ∷ ys) e = ap suc (length_bare xs ys (ap tail e))
  where
    tail : List Variable → List Variable
    tail [] = []
    tail (z ∷ zs) = zs

square_comma : {ls after : Ahead} → Passes mark.CloseSquare ls after → sees mark.Comma ls ≡ false
unfolding sees is_mark_kind same_mark
square_comma h = rw h.ahead_is (by h.token.kind h.is_that)
  where
    by : (k : Kind) → is_mark_kind mark.CloseSquare k ≡ true → is_mark_kind mark.Comma k ≡ false
    by (kind.Mark mark.CloseSquare) e = refl
    by (kind.Mark _) e = absurd cc
    by _ e = absurd cc

binder_reads : (b : Binder) (v : Variable) (vs : List Variable) (end left : ℕ) (ls mid after : Ahead) (t : Tree) → Head b (suc (length vs + left)) (v ∷ vs) ls mid → read.unary end left mid ≡ Ok (t, after)
    → (found : List Variable) × (read.binder_with end (suc (length vs + left)) (read.body end (length vs + left)) b ls ≡ Ok (at_byte (byte_of ls) (node.Bind b found t), after)) × (map bare_variable found ≡ map bare_variable (v ∷ vs))
binder_reads b v vs end left ls mid after t j e =
    let m = taken j.front in
    let l2 = j.back.mid in
    let l3 = j.back.back.mid in
    let l4 = j.back.back.back.mid in
    let f = j.back.back.front (square_closes j.back.back.back.front) (square_comma j.back.back.back.front) end (length l2) (omega arith) in
    let n : length f.0 - 1 ≡ length vs = omega (arith, length_bare f.0 (v ∷ vs) f.2) in (
      f.0,
      rw m.1 (gives_then (read_mark mark.OpenSquare end j.mid) _ (gives_mark end j.back.front)
          (gives_then (read.variables (length l2) end (suc (length vs + left)) l2) _ f.1
          (gives_then (read_mark mark.CloseSquare end l3) _ (gives_mark end j.back.back.back.front)
          (gives_then (read_mark mark.Colon end l4) _ (gives_mark end j.back.back.back.back)
          (gives_then (read.body end (length vs + left) (length f.0 - 1) mid) _ (rw n (body_is end (length vs) left (length vs + left) mid refl ∙ e)) refl))))),
      f.2,
    )

module _ (byte : ℕ) (b : Binder) (v : Variable) (vs : List Variable) (u : Tree) where
  abbrev whole : Tree
  whole = at_byte byte (node.Bind b (v ∷ vs) u)

  abbrev Parts : Place → ℕ → Ahead → Ahead → Type 0
  Parts q left = Joined (Head b (suc (length vs + left)) (v ∷ vs)) (ReadsAt q left u)

  -- what a binder with that body is read as
  abbrev Found : ℕ → ℕ → Ahead → Ahead → Type 0
  Found end left ls after = (found : List Variable) × (t : Tree) × (read.binder_with end (suc (length vs + left)) (read.body end (length vs + left)) b ls ≡ Ok (at_byte (byte_of ls) (node.Bind b found t), after)) × (class_at ls ≡ class.Bind b) × (bare_tree (at_byte (byte_of ls) (node.Bind b found t)) ≡ bare_tree whole)

  finds : (end left : ℕ) (ls mid after : Ahead) → Head b (suc (length vs + left)) (v ∷ vs) ls mid → Back (read.unary end left mid) u after → Found end left ls after
  finds end left ls mid after h k =
      let r = binder_reads b v vs end left ls mid after k.0 h k.1 in
      (r.0, k.0, r.1, (taken h.front).0, bare-Bind (byte_of ls) b r.0 k.0 ∙ rw (r.2, k.2) (sym (bare-Bind byte b (v ∷ vs) u)))

  operand : (end left : ℕ) (ls after : Ahead) → Found end left ls after → Back (read.unary end (suc (length vs + left)) ls) whole after
  unfolding read.unary read.unary_with
  operand end left ls after f = (at_byte (byte_of ls) (node.Bind b f.0 f.1), rw f.3 f.2, f.4)

  side : (end left : ℕ) (ls after : Ahead) → Found end left ls after → Back (reader Side end (suc (length vs + left)) ls) whole after
  side end left ls after f = (at_byte (byte_of ls) (node.Bind b f.0 f.1), rw f.3 f.2, f.4)

  last : (end left : ℕ) (ls after : Ahead) → Found end left ls after → Back (reader Last end (suc (length vs + left)) ls) whole after
  last end left ls after f = (at_byte (byte_of ls) (node.Bind b f.0 f.1), rw f.3 f.2, f.4)

  reads : (p : Place) → binds p (writer u).ends ≡ true → (left : ℕ) (ls after : Ahead) → Parts (operand_of p true) left ls after → ReadsAt p (suc (length vs + left)) whole ls after
  reads Formula s left ls after j q end = let o = operand end left ls after (finds end left ls j.mid after j.front (j.back (closes_ends (class_at after) q) end)) in
      (o.0, formula_operand end (suc (length vs + left)) ls after o.0 o.1 q, o.2)
  reads Operand s left ls after j q end = operand end left ls after (finds end left ls j.mid after j.front (j.back q end))
  reads SealedOperand s left ls after j q end = operand end left ls after (finds end left ls j.mid after j.front (j.back q end))
  reads (Chain c) s left ls after j q end = let o = operand end left ls after (finds end left ls j.mid after j.front (j.back (closes_ends (class_at after) q) end)) in
      (o.0, chain_operand end (suc (length vs + left)) c ls after o.0 o.1 (closes_chain c (class_at after) q), o.2)
  reads Side s left ls after j q end = side end left ls after (finds end left ls j.mid after j.front (j.back q end))
  reads SealedSide s left ls after j q end = side end left ls after (finds end left ls j.mid after j.front (j.back q end))
  reads Last s left ls after j q end = last end left ls after (finds end left ls j.mid after j.front (j.back q end))
  reads SealedLast s left ls after j q end = last end left ls after (finds end left ls j.mid after j.front (j.back q end))
  reads Left s left ls after j q end = absurd cc
  reads Item s left ls after j q end = absurd cc

  abbrev body : Place → List ℕ → List ℕ
  body q e = binder_written b (v ∷ vs) ++ (written q u ++ e)

  stands_at : (p : Place) → binds p (writer u).ends ≡ true → (least : ℕ) → AreVariablesWritten (suc (length vs + least)) (v ∷ vs) → IsWrittenAt (operand_of p true) u least → (left : ℕ) → least ≤ left → IsText (opened true ++ body (operand_of p true) (closed true)) (ReadsAt p (suc (length vs + left)) whole)
  stands_at p s least g h left o = stand_text (body (operand_of p true)) (Parts (operand_of p true) left) p (suc (length vs + left)) whole
      (text_two (head_is b v vs (suc (length vs + least)) g (suc (length vs + left)) (omega (arith, o))) (h left o)) (λ ls after j. reads p s left ls after j)

  brackets_at : (p : Place) → takes_item p ≡ true → (least : ℕ) → AreVariablesWritten (suc (length vs + least)) (v ∷ vs) → IsWrittenAt Operand u least → (left : ℕ) → least ≤ left → IsText (opened false ++ body Operand (closed false)) (ReadsAt p (suc (suc (length vs + left))) whole)
  brackets_at p s least g h left o = bracket_text (body Operand) (Parts Operand left) p s (suc (length vs + left)) whole
      (text_two (head_is b v vs (suc (length vs + least)) g (suc (length vs + left)) (omega (arith, o))) (h left o)) (λ ls after j. reads Formula refl left ls after j)

  stands : (p : Place) → binds p (writer u).ends ≡ true → (least : ℕ) → AreVariablesWritten (suc (length vs + least)) (v ∷ vs) → IsWrittenAt (operand_of p true) u least → (left : ℕ) → suc (length vs + least) ≤ left → IsText (opened true ++ body (operand_of p true) (closed true)) (ReadsAt p left whole)
  stands p s least g h left o = let e : suc (length vs + (left - suc (length vs))) ≡ left = omega (arith, o) in
      subst (λ x. IsText (opened true ++ body (operand_of p true) (closed true)) (ReadsAt p x whole)) e (stands_at p s least g h (left - suc (length vs)) (omega (arith, o)))

  brackets : (p : Place) → takes_item p ≡ true → (least : ℕ) → AreVariablesWritten (suc (length vs + least)) (v ∷ vs) → IsWrittenAt Operand u least → (left : ℕ) → suc (suc (length vs + least)) ≤ left → IsText (opened false ++ body Operand (closed false)) (ReadsAt p left whole)
  brackets p s least g h left o = let e : suc (suc (length vs + (left - suc (suc (length vs))))) ≡ left = omega (arith, o) in
      subst (λ x. IsText (opened false ++ body Operand (closed false)) (ReadsAt p x whole)) e (brackets_at p s least g h (left - suc (suc (length vs))) (omega (arith, o)))

  abbrev text_at : Place → Bool → List ℕ
  text_at p ends = opened (binds p ends) ++ body (operand_of p (binds p ends)) (closed (binds p ends))

-- variables that are read with so many levels are read with more
more_variables : (least more : ℕ) (vs : List Variable) → least ≤ more → AreVariablesWritten least vs → AreVariablesWritten more vs
more_variables least more [] o h = tt
more_variables least more (v ∷ vs) o h = (λ left q. h.0 left (omega (arith, o, q)), more_variables least more vs o h.1)

open_level : (u : Tree) (b : Bool) → (b ≡ true → (writer u).ends ≡ true) → (writer u).ends ≡ false → (n m : ℕ) → level_at b n ≤ m → suc n ≤ m
open_level u false k e n m o = o
open_level u true k e n m o = (let f = k refl in absurd (let g : false ≡ true = sym e ∙ f in cc))

module _ (byte : ℕ) (b : Binder) (v : Variable) (vs : List Variable) (u : Tree) (sealed : Bool) (least : ℕ) (g : AreVariablesWritten (suc (length vs + least)) (v ∷ vs)) (h : IsWrittenFrom (as_unary sealed) least u) (k : sealed ≡ true → (writer u).ends ≡ true) where
  sealed_stands : (p : Place) → binds p (writer u).ends ≡ true → (writer u).ends ≡ true → operand_of p true ≡ SealedOperand → (left : ℕ) → level_at sealed (suc (length vs + least)) ≤ left → IsText (opened true ++ body byte b v vs u (operand_of p true) (closed true)) (ReadsAt p left (at_byte byte (node.Bind b (v ∷ vs) u)))
  sealed_stands p s e w left o = stands byte b v vs u p s (level_at sealed least) (more_variables _ _ (v ∷ vs) (omega_level sealed) g) (subst (λ x. IsWrittenAt x u (level_at sealed least)) (sym w) (h.at SealedOperand e)) left (level_suc sealed o)
    where
      omega_level : (s : Bool) → suc (length vs + least) ≤ suc (length vs + level_at s least)
      omega_level true = omega arith
      omega_level false = omega arith

      level_suc : (s : Bool) → level_at s (suc (length vs + least)) ≤ left → suc (length vs + level_at s least) ≤ left
      level_suc true o = o
      level_suc false o = omega (arith, o)

  by : (p : Place) → MayStand p (at_byte byte (node.Bind b (v ∷ vs) u)) → (left : ℕ) → level_at (as_binder sealed p) (suc (length vs + least)) ≤ left → (ends : Bool) → (writer u).ends ≡ ends → IsText (text_at byte b v vs u p ends) (ReadsAt p left (at_byte byte (node.Bind b (v ∷ vs) u)))
  by Formula may left o ends e = stands byte b v vs u Formula refl least g (h.at Operand tt) left o
  by Operand may left o ends e = stands byte b v vs u Operand refl least g (h.at Operand tt) left o
  by (Chain c) may left o ends e = stands byte b v vs u (Chain c) refl least g (h.at Operand tt) left o
  by Side may left o ends e = stands byte b v vs u Side refl least g (h.at Operand tt) left o
  by Last may left o ends e = stands byte b v vs u Last refl least g (h.at Operand tt) left o
  by SealedOperand may left o ends e = sealed_stands SealedOperand refl (sym (ap (λ w. w.ends) (writer-Bind byte b (v ∷ vs) u)) ∙ may) refl left o
  by SealedSide may left o true e = sealed_stands SealedSide e e refl left o
  by SealedSide may left o false e = brackets byte b v vs u SealedSide refl least g (h.at Operand tt) left (open_level u sealed k e (suc (length vs + least)) left o)
  by SealedLast may left o true e = sealed_stands SealedLast e e refl left o
  by SealedLast may left o false e = brackets byte b v vs u SealedLast refl least g (h.at Operand tt) left (open_level u sealed k e (suc (length vs + least)) left o)
  by Left may left o ends e = brackets byte b v vs u Left refl least g (h.at Operand tt) left o
  by Item may left o ends e = brackets byte b v vs u Item refl least g (h.at Operand tt) left o

  pub bind_ok : IsWrittenFrom (as_binder sealed) (suc (length vs + least)) (at_byte byte (node.Bind b (v ∷ vs) u))
  bind_ok = record { at = λ p may left o. subst (λ x. IsText x (ReadsAt p left (at_byte byte (node.Bind b (v ∷ vs) u)))) (sym (ap (λ w. w.at p) (writer-Bind byte b (v ∷ vs) u))) (by p may left o (writer u).ends refl) }
