-- Applications that are written are read back.
use Rattle.std.proofs.Common.{◌≡◌, ℕ, zero, suc, ◌≤◌, map, append_assoc, append-nil, Bool, true, false, List, [], ◌∷◌, ◌++◌, refl, ap, sym, subst, ◌∙◌, arith}
use Rattle.std.specs.Prelude.{Ok}
use Rattle.leo_lex.specs.declared.mark.Mark.TheVariants as mark
use Rattle.leo_syntax.specs.declared.classes.Class.{Class}
use Rattle.leo_syntax.specs.declared.classes.Class.TheVariants as class
use Rattle.leo_syntax.specs.declared.tree.Tree.{Tree}
use Rattle.leo_syntax.specs.declared.tree.Node.TheVariants as node
use Rattle.leo_syntax.specs.declared.writing.Place.{Place}
use Rattle.leo_syntax.specs.declared.writing.Place.TheVariants.{Formula, Operand, SealedOperand, Chain, Side, SealedSide, Left, Last, SealedLast, Item}
use Rattle.leo_syntax.specs.Classes.{mark_class}
use Rattle.leo_syntax.specs.Lexemes.{Ahead}
use Rattle.leo_syntax.specs.Grammar.{Takes, class_at, byte_of, at_byte, applied, is_apply}
use Rattle.leo_syntax.specs.Reading as read
use Rattle.leo_syntax.specs.Reading.{Read}
use Rattle.leo_syntax.specs.Texts.{opened, closed, arguments_written, applies, last_of, writer, written}
use Rattle.leo_syntax.specs.Bare.{bare_tree}
use Rattle.leo_syntax.proofs.Nodes.{writer-Apply, bare-Apply}
use Rattle.leo_syntax.proofs.Unique.{taken, is_open, argument_default}
use Rattle.leo_syntax.proofs.WrittenWords.{IsText, text_none, text_as, text_join, Joined, text_class}
use Rattle.leo_syntax.proofs.WrittenTypes.{gives_then}
use Rattle.leo_syntax.proofs.WrittenPlaces.{follows, Back, ReadsAt, item_at, item_front, application_at, last_by, last_at, arguments_none, ends_apply, ends_equal, equal_apply, follows_open, not_false, operand_application, side_application, closes_ends, formula_operand, chain_operand, closes_chain, takes_item, text_two, stand_text, bracket_text, IsWrittenAt, MayStand, level_at, IsWrittenFrom, as_application}

-- ---- arguments

abbrev BackArguments : Read (List Tree) → List Tree → List Tree → Ahead → Type 0
BackArguments r before list after = (found : List Tree) × (r ≡ Ok (before ++ found, after)) × (map bare_tree found ≡ map bare_tree list)

-- the arguments are read, whatever was found before; and no bracket opens where they begin
pub record ReadsArguments (q : Place) (left : ℕ) (list : List Tree) (ls after : Ahead) : Type 0 where
  pub front : follows q (class_at after) ≡ true → is_open (class_at ls) ≡ false
  pub reads : follows q (class_at after) ≡ true → (end : ℕ) (before : List Tree) → BackArguments (read.arguments end left before ls) before list after

abbrev pub AreArgumentsAt : Place → List Tree → ℕ → Type 0
AreArgumentsAt q list least = (left : ℕ) → least ≤ left → IsText (arguments_written q (map writer list)) (ReadsArguments q left list)

-- the places of a last argument
abbrev pub is_last : Place → Bool
is_last Last = true
is_last SealedLast = true
is_last _ = false

last_apply : (q : Place) → is_last q ≡ true → (k : Class) → follows q k ≡ true → is_apply k ≡ false
last_apply Last e k f = ends_apply k f
last_apply SealedLast e k f = equal_apply k f
last_apply Formula e k f = absurd cc
last_apply Operand e k f = absurd cc
last_apply SealedOperand e k f = absurd cc
last_apply (Chain c) e k f = absurd cc
last_apply Side e k f = absurd cc
last_apply SealedSide e k f = absurd cc
last_apply Left e k f = absurd cc
last_apply Item e k f = absurd cc

no_arguments : (q : Place) → is_last q ≡ true → (left : ℕ) (ls after : Ahead) → ls ≡ after → ReadsArguments q left [] ls after
no_arguments q s left ls after e = record {
  front = λ f. rw e (follows_open q (class_at after) f);
  reads = λ f end before. ([], rw e (arguments_none end left before after (last_apply q s (class_at after) f) ∙ rw (append-nil before) refl), refl);
}

apply_open : {ls after : Ahead} → Takes class.Apply ls after → is_open (class_at ls) ≡ false
apply_open h = rw (taken h).0 refl

-- a last argument

last_argument_by : (k : Class) (end left : ℕ) (before : List Tree) (ls after : Ahead) (t : Tree) → last_by k end left ls ≡ Ok (t, after) → is_apply (class_at after) ≡ false
    → read.argument_by k end (read.binder_with end (suc left) (read.body end left)) (read.inside end left) (read.arguments end left) before ls ≡ Ok (before ++ t ∷ [], after)
last_argument_by (class.Bind b) end left before ls after t e n = gives_then (read.binder_with end (suc left) (read.body end left) b ls) _ e refl
last_argument_by _ end left before ls after t e n = gives_then (read.item_with end (read.inside end left) ls) _ e (arguments_none end left (before ++ t ∷ []) after n)

last_gives : (end left : ℕ) (before : List Tree) (ls mid after : Ahead) (t : Tree) → Takes class.Apply ls mid → last_at end (suc left) mid ≡ Ok (t, after) → is_apply (class_at after) ≡ false → read.arguments end (suc left) before ls ≡ Ok (before ++ t ∷ [], after)
unfolding read.unary read.argument_with
last_gives end left before ls mid after t h e n = let m = taken h in rw (m.0, m.1) (last_argument_by (class_at mid) end left before mid after t e n)

last_reads : (q : Place) → is_last q ≡ true → (left : ℕ) (a : Tree) (ls after : Ahead) → Joined (λ ls after. Takes class.Apply ls after) (ReadsAt q (suc left) a) ls after → ReadsArguments q (suc left) (a ∷ []) ls after
last_reads Last s left a ls after j = record {
  front = λ f. apply_open j.front;
  reads = λ f end before. let b = j.back f end in (b.0 ∷ [], last_gives end left before ls j.mid after b.0 j.front b.1 (ends_apply (class_at after) f), rw b.2 refl);
}
last_reads SealedLast s left a ls after j = record {
  front = λ f. apply_open j.front;
  reads = λ f end before. let b = j.back f end in (b.0 ∷ [], last_gives end left before ls j.mid after b.0 j.front b.1 (equal_apply (class_at after) f), rw b.2 refl);
}
last_reads Formula s left a ls after j = absurd cc
last_reads Operand s left a ls after j = absurd cc
last_reads SealedOperand s left a ls after j = absurd cc
last_reads (Chain c) s left a ls after j = absurd cc
last_reads Side s left a ls after j = absurd cc
last_reads SealedSide s left a ls after j = absurd cc
last_reads Left s left a ls after j = absurd cc
last_reads Item s left a ls after j = absurd cc

pub last_argument : (q : Place) → is_last q ≡ true → (a : Tree) (least : ℕ) → IsWrittenAt q a (suc least) → AreArgumentsAt q (a ∷ []) (suc least)
unfolding mark_class
last_argument q s a least h zero o = absurd (omega (arith, o))
last_argument q s a least h (suc left) o = text_as (text_join (text_class mark.At) (text_join (h (suc left) o) text_none)) (λ ls after j. last_reads q s left a ls after (record { mid = j.mid; front = j.front; back = subst (λ x. ReadsAt q (suc left) a j.mid x) j.back.back j.back.front }))

-- an argument before others

argument_gives : (end left : ℕ) (before : List Tree) (ls mid next : Ahead) (t : Tree) (r : Read (List Tree)) → Takes class.Apply ls mid → item_at end (suc left) mid ≡ Ok (t, next) → read.arguments end left (before ++ t ∷ []) next ≡ r → read.arguments end (suc left) before ls ≡ r
unfolding read.unary read.argument_with
argument_gives end left before ls mid next t r h e k = let m = taken h in
    rw (m.0, m.1, argument_default (class_at mid) (item_front end (suc left) mid e) end (read.binder_with end (suc left) (read.body end left)) (read.inside end left) (read.arguments end left) before mid)
    (gives_then (read.item_with end (read.inside end left) mid) _ e k)

argument_reads : (q : Place) (left : ℕ) (a : Tree) (more : List Tree) (ls after : Ahead) → Joined (λ ls after. Takes class.Apply ls after) (Joined (ReadsAt Item (suc left) a) (ReadsArguments q left more)) ls after → ReadsArguments q (suc left) (a ∷ more) ls after
argument_reads q left a more ls after j = record {
  front = λ f. apply_open j.front;
  reads = λ f end before.
      let x = j.back.front (not_false (is_open (class_at j.back.mid)) (j.back.back.front f)) end in
      let y = j.back.back.reads f end (before ++ x.0 ∷ []) in
      (x.0 ∷ y.0, argument_gives end left before ls j.mid j.back.mid x.0 _ j.front x.1 (y.1 ∙ rw (append_assoc before (x.0 ∷ []) y.0) refl), rw (x.2, y.2) refl);
}

pub more_arguments : (q : Place) (a b : Tree) (more : List Tree) (least : ℕ) → IsWrittenAt Item a (suc least) → AreArgumentsAt q (b ∷ more) least → AreArgumentsAt q (a ∷ b ∷ more) (suc least)
unfolding mark_class
more_arguments q a b more least h k zero o = absurd (omega (arith, o))
more_arguments q a b more least h k (suc left) o = text_as (text_join (text_class mark.At) (text_join (h (suc left) o) (k left (omega (arith, o))))) (λ ls after j. argument_reads q left a (b ∷ more) ls after j)

-- ---- applications

apply_gives : (end left : ℕ) (ls mid after : Ahead) (f : Tree) (all : List Tree) → item_at end (suc left) ls ≡ Ok (f, mid) → read.arguments end left [] mid ≡ Ok (all, after) → application_at end (suc left) ls ≡ Ok (applied (byte_of ls) f all, after)
unfolding read.application_with
apply_gives end left ls mid after f all e k = gives_then (read.item_with end (read.inside end left) ls) _ e (gives_then (read.arguments end left [] mid) _ k refl)

module _ (byte : ℕ) (f a : Tree) (args : List Tree) where
  abbrev whole : Tree
  whole = at_byte byte (node.Apply f (a ∷ args))

  abbrev Parts : Place → ℕ → Ahead → Ahead → Type 0
  Parts q left = Joined (ReadsAt Item (suc left) f) (ReadsArguments q left (a ∷ args))

  same : (place : ℕ) (x : Tree) (xs : List Tree) → bare_tree x ≡ bare_tree f → map bare_tree xs ≡ map bare_tree (a ∷ args) → bare_tree (applied place x xs) ≡ bare_tree whole
  same place x [] e k = absurd cc
  same place x (y ∷ ys) e k = bare-Apply place x (y ∷ ys) ∙ ap (λ z. at_byte 0 (node.Apply z (map bare_tree (y ∷ ys)))) e ∙ ap (λ z. at_byte 0 (node.Apply (bare_tree f) z)) k ∙ sym (bare-Apply byte f (a ∷ args))

  application : (q : Place) (left : ℕ) (ls after : Ahead) → Parts q left ls after → follows q (class_at after) ≡ true → (end : ℕ) → Back (application_at end (suc left) ls) whole after
  application q left ls after j k end =
      let x = j.front (not_false (is_open (class_at j.mid)) (j.back.front k)) end in
      let y = j.back.reads k end [] in
      (applied (byte_of ls) x.0 y.0, apply_gives end left ls j.mid after x.0 y.0 x.1 y.1, same (byte_of ls) x.0 y.0 x.2 y.2)

  reads : (p : Place) → applies p ≡ true → MayStand p whole → (left : ℕ) (ls after : Ahead) → Parts (last_of p) left ls after → ReadsAt p (suc left) whole ls after
  reads Formula s may left ls after j q end = let k = closes_ends (class_at after) q in let b = application Last left ls after j k end in
      (b.0, formula_operand end (suc left) ls after b.0 (operand_application end (suc left) ls after b.0 b.1 (ends_equal (class_at after) k)) q, b.2)
  reads (Chain c) s may left ls after j q end = let k = closes_ends (class_at after) q in let b = application Last left ls after j k end in
      (b.0, chain_operand end (suc left) c ls after b.0 (operand_application end (suc left) ls after b.0 b.1 (ends_equal (class_at after) k)) (closes_chain c (class_at after) q), b.2)
  reads Operand s may left ls after j q end = let b = application Last left ls after j q end in (b.0, operand_application end (suc left) ls after b.0 b.1 (ends_equal (class_at after) q), b.2)
  reads Side s may left ls after j q end = let b = application Last left ls after j q end in (b.0, side_application end (suc left) ls after b.0 b.1, b.2)
  reads SealedSide s may left ls after j q end = let b = application SealedLast left ls after j q end in (b.0, side_application end (suc left) ls after b.0 b.1, b.2)
  reads Left s may left ls after j q end = application SealedLast left ls after j q end
  reads SealedOperand s may left ls after j q end = absurd (let g : false ≡ true = sym (ap (λ w. w.ends) (writer-Apply byte f (a ∷ args))) ∙ may in cc)
  reads Last s may left ls after j q end = absurd cc
  reads SealedLast s may left ls after j q end = absurd cc
  reads Item s may left ls after j q end = absurd cc

  abbrev body : Place → List ℕ → List ℕ
  body q e = written Item f ++ (arguments_written q (map writer (a ∷ args)) ++ e)

  stands : (p : Place) → applies p ≡ true → MayStand p whole → (least : ℕ) → IsWrittenAt Item f (suc least) → AreArgumentsAt (last_of p) (a ∷ args) least → (left : ℕ) → suc least ≤ left → IsText (opened true ++ body (last_of p) (closed true)) (ReadsAt p left whole)
  stands p s may least h k zero o = absurd (omega (arith, o))
  stands p s may least h k (suc left) o = stand_text (body (last_of p)) (Parts (last_of p) left) p (suc left) whole (text_two (h (suc left) o) (k left (omega (arith, o)))) (λ ls after j. reads p s may left ls after j)

  brackets : (p : Place) → takes_item p ≡ true → (least : ℕ) → IsWrittenAt Item f (suc least) → AreArgumentsAt Last (a ∷ args) least → (left : ℕ) → suc (suc least) ≤ left → IsText (opened false ++ body Last (closed false)) (ReadsAt p left whole)
  brackets p s least h k zero o = absurd (omega (arith, o))
  brackets p s least h k (suc zero) o = absurd (omega (arith, o))
  brackets p s least h k (suc (suc left)) o = bracket_text (body Last) (Parts Last left) p s (suc left) whole (text_two (h (suc left) (omega (arith, o))) (k left (omega (arith, o)))) (λ ls after j. reads Formula refl tt left ls after j)

level_suc : (b : Bool) (n m : ℕ) → level_at b (suc n) ≤ m → suc (level_at b n) ≤ m
level_suc true n m o = o
level_suc false n m o = o

more_level : (b : Bool) (n : ℕ) → n ≤ level_at b n
more_level true n = omega arith
more_level false n = omega arith

module _ (byte : ℕ) (f a : Tree) (args : List Tree) (sealed : Bool) (least : ℕ) (h : IsWrittenAt Item f (suc least)) (k : AreArgumentsAt Last (a ∷ args) least) (l : AreArgumentsAt SealedLast (a ∷ args) (level_at sealed least)) where
  head_more : IsWrittenAt Item f (suc (level_at sealed least))
  head_more left o = h left (omega (arith, o, more_level sealed least))

  by : (p : Place) → MayStand p (at_byte byte (node.Apply f (a ∷ args))) → (left : ℕ) → level_at (as_application sealed p) (suc least) ≤ left
      → IsText (opened (applies p) ++ body byte f a args (last_of p) (closed (applies p))) (ReadsAt p left (at_byte byte (node.Apply f (a ∷ args))))
  by Formula may left o = stands byte f a args Formula refl tt least h k left o
  by Operand may left o = stands byte f a args Operand refl tt least h k left o
  by (Chain c) may left o = stands byte f a args (Chain c) refl tt least h k left o
  by Side may left o = stands byte f a args Side refl tt least h k left o
  by SealedSide may left o = stands byte f a args SealedSide refl tt (level_at sealed least) head_more l left (level_suc sealed least left o)
  by Left may left o = stands byte f a args Left refl tt (level_at sealed least) head_more l left (level_suc sealed least left o)
  by SealedOperand may left o = absurd (let g : false ≡ true = sym (ap (λ w. w.ends) (writer-Apply byte f (a ∷ args))) ∙ may in cc)
  by Last may left o = brackets byte f a args Last refl least h k left o
  by SealedLast may left o = brackets byte f a args SealedLast refl least h k left o
  by Item may left o = brackets byte f a args Item refl least h k left o

  pub apply_ok : IsWrittenFrom (as_application sealed) (suc least) (at_byte byte (node.Apply f (a ∷ args)))
  apply_ok = record { at = λ p may left o. subst (λ x. IsText x (ReadsAt p left (at_byte byte (node.Apply f (a ∷ args))))) (sym (ap (λ w. w.at p) (writer-Apply byte f (a ∷ args)))) (by p may left o) }
