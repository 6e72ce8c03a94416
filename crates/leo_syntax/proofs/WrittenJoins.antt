-- Connectives between formulas, as they are written, are read back.
use Rattle.std.proofs.Common.{◌≡◌, ℕ, zero, suc, ◌≤◌, Bool, true, false, List, ◌++◌, refl, ap, sym, subst, ◌∙◌, arith}
use Rattle.std.specs.Prelude.{Ok, if◌then◌else◌}
use Rattle.leo_syntax.specs.declared.classes.Class.TheVariants as class
use Rattle.leo_syntax.specs.declared.tree.Connective.{Connective}
use Rattle.leo_syntax.specs.declared.tree.Connective.TheVariants as connective
use Rattle.leo_syntax.specs.declared.tree.Tree.{Tree}
use Rattle.leo_syntax.specs.declared.tree.Node.TheVariants as node
use Rattle.leo_syntax.specs.declared.writing.Place.{Place}
use Rattle.leo_syntax.specs.declared.writing.Place.TheVariants.{Formula, Operand, SealedOperand, Chain, Side, SealedSide, Left, Last, SealedLast, Item}
use Rattle.leo_syntax.specs.Lexemes.{Ahead}
use Rattle.leo_syntax.specs.Grammar.{Takes, class_at, byte_of, at_byte, is_chain}
use Rattle.leo_syntax.specs.Reading as read
use Rattle.leo_syntax.specs.Reading.{rest}
use Rattle.leo_syntax.specs.Texts.{word, opened, closed, connective_text, joins, right_of, written}
use Rattle.leo_syntax.specs.Bare.{bare_tree}
use Rattle.leo_syntax.proofs.Nodes.{writer-Join, bare-Join}
use Rattle.leo_syntax.proofs.Unique.{taken, continues_chain}
use Rattle.leo_syntax.proofs.WrittenWords.{IsText, Joined}
use Rattle.leo_syntax.proofs.WrittenTypes.{gives_then}
use Rattle.leo_syntax.proofs.WrittenPlaces.{ReadsAt, closes_ends, ends_operand, takes_item, text_three, stand_text, bracket_text, IsWrittenAt, MayStand, level_at, IsWrittenFrom}
use Rattle.leo_syntax.proofs.WrittenItems.{connective_takes}

-- behind a connective that chains, operands stand one level further in
abbrev pub right_level : Connective → ℕ → ℕ
right_level c left = if is_chain c then left else suc left

abbrev Right : Connective → ℕ → Tree → Ahead → Ahead → Type 0
Right c left b = ReadsAt (right_of c) (right_level c left) b

join_front : {c : Connective} {ls after : Ahead} → Takes (class.Join c) ls after → ends_operand (class_at ls) ≡ true
join_front h = rw (taken h).0 refl

chain_formula : (c : Connective) → is_chain c ≡ true → (end left : ℕ) (ls mid next after : Ahead) (x y : Tree) → read.unary end (suc left) ls ≡ Ok (x, mid) → Takes (class.Join c) mid next → read.operands end left c next ≡ Ok (y, after)
    → read.formula end (suc left) ls ≡ Ok (at_byte (byte_of ls) (node.Join c x y), after)
unfolding read.unary
chain_formula c i end left ls mid next after x y e h k = let m = taken h in gives_then (read.unary end (suc left) ls) _ e (rw (m.0, m.1, i) (gives_then (read.operands end left c next) _ k refl))

pair_formula : (c : Connective) → is_chain c ≡ false → (end left : ℕ) (ls mid next after : Ahead) (x y : Tree) → read.unary end (suc left) ls ≡ Ok (x, mid) → Takes (class.Join c) mid next → read.unary end (suc left) next ≡ Ok (y, after)
    → read.formula end (suc left) ls ≡ Ok (at_byte (byte_of ls) (node.Join c x y), after)
unfolding read.unary
pair_formula c i end left ls mid next after x y e h k = let m = taken h in gives_then (read.unary end (suc left) ls) _ e (rw (m.0, m.1, i) (gives_then (read.unary end (suc left) next) _ k refl))

further_operands : (c : Connective) → is_chain c ≡ true → (end left : ℕ) (ls mid next after : Ahead) (x y : Tree) → read.unary end (suc left) ls ≡ Ok (x, mid) → Takes (class.Join c) mid next → read.operands end left c next ≡ Ok (y, after)
    → read.operands end (suc left) c ls ≡ Ok (at_byte (byte_of ls) (node.Join c x y), after)
unfolding read.unary
further_operands c i end left ls mid next after x y e h k = let m = taken h in gives_then (read.unary end (suc left) ls) _ e (rw (m.0, m.1, continues_chain c i) (gives_then (read.operands end left c next) _ k refl))

module _ (byte : ℕ) (c : Connective) (a b : Tree) where
  abbrev whole : Tree
  whole = at_byte byte (node.Join c a b)

  abbrev Parts : ℕ → Ahead → Ahead → Type 0
  Parts left = Joined (ReadsAt Operand (suc left) a) (Joined (λ ls after. Takes (class.Join c) ls after) (Right c left b))

  same : (place : ℕ) (x y : Tree) → bare_tree x ≡ bare_tree a → bare_tree y ≡ bare_tree b → bare_tree (at_byte place (node.Join c x y)) ≡ bare_tree whole
  same place x y e f = bare-Join place c x y ∙ rw (e, f) (sym (bare-Join byte c a b))

  formula_by : (i : Bool) → is_chain c ≡ i → (left : ℕ) (ls after : Ahead) → Joined (ReadsAt Operand (suc left) a) (Joined (λ ls after. Takes (class.Join c) ls after) (ReadsAt (if i then Chain c else Operand) (if i then left else suc left) b)) ls after → ReadsAt Formula (suc left) whole ls after
  formula_by true i left ls after j q end = let x = j.front (join_front j.back.front) end in let y = j.back.back q end in
      (at_byte (byte_of ls) (node.Join c x.0 y.0), chain_formula c i end left ls j.mid j.back.mid after x.0 y.0 x.1 j.back.front y.1, same (byte_of ls) x.0 y.0 x.2 y.2)
  formula_by false i left ls after j q end = let x = j.front (join_front j.back.front) end in let y = j.back.back (closes_ends (class_at after) q) end in
      (at_byte (byte_of ls) (node.Join c x.0 y.0), pair_formula c i end left ls j.mid j.back.mid after x.0 y.0 x.1 j.back.front y.1, same (byte_of ls) x.0 y.0 x.2 y.2)

  formula : (left : ℕ) (ls after : Ahead) → Parts left ls after → ReadsAt Formula (suc left) whole ls after
  formula left ls after j = formula_by (is_chain c) refl left ls after j

  chained_by : (i : Bool) → is_chain c ≡ i → i ≡ true → (left : ℕ) (ls after : Ahead) → Joined (ReadsAt Operand (suc left) a) (Joined (λ ls after. Takes (class.Join c) ls after) (ReadsAt (if i then Chain c else Operand) (if i then left else suc left) b)) ls after → ReadsAt (Chain c) (suc left) whole ls after
  chained_by false i e left ls after j q end = absurd cc
  chained_by true i e left ls after j q end = let x = j.front (join_front j.back.front) end in let y = j.back.back q end in
      (at_byte (byte_of ls) (node.Join c x.0 y.0), further_operands c i end left ls j.mid j.back.mid after x.0 y.0 x.1 j.back.front y.1, same (byte_of ls) x.0 y.0 x.2 y.2)

  abbrev body : List ℕ → List ℕ
  body e = written Operand a ++ (word (connective_text c) ++ (written (right_of c) b ++ e))

  text_is : (least : ℕ) → IsWrittenAt Operand a (suc least) → IsWrittenAt (right_of c) b (right_level c least) → (left : ℕ) → least ≤ left → (e : List ℕ) (E : Ahead → Ahead → Type 0) → IsText e E → IsText (body e) (Joined (Parts left) E)
  text_is least h k left o = text_three (h (suc left) (omega (arith, o))) (connective_takes c) (k (right_level c left) (by (is_chain c)))
    where
      by : (i : Bool) → (if i then least else suc least) ≤ (if i then left else suc left)
      by true = o
      by false = omega (arith, o)

  as_whole : (least : ℕ) → IsWrittenAt Operand a (suc least) → IsWrittenAt (right_of c) b (right_level c least) → (left : ℕ) → suc least ≤ left → IsText (opened true ++ body (closed true)) (ReadsAt Formula left whole)
  as_whole least h k zero o = absurd (omega (arith, o))
  as_whole least h k (suc left) o = stand_text body (Parts left) Formula (suc left) whole (text_is least h k left (omega (arith, o))) (λ ls after j. formula left ls after j)

  as_chained : (least : ℕ) → IsWrittenAt Operand a (suc least) → IsWrittenAt (right_of c) b (right_level c least) → is_chain c ≡ true → (left : ℕ) → suc least ≤ left → IsText (opened true ++ body (closed true)) (ReadsAt (Chain c) left whole)
  as_chained least h k i zero o = absurd (omega (arith, o))
  as_chained least h k i (suc left) o = stand_text body (Parts left) (Chain c) (suc left) whole (text_is least h k left (omega (arith, o))) (λ ls after j. chained_by (is_chain c) refl i left ls after j)

  brackets : (p : Place) → takes_item p ≡ true → (least : ℕ) → IsWrittenAt Operand a (suc least) → IsWrittenAt (right_of c) b (right_level c least) → (left : ℕ) → suc (suc least) ≤ left → IsText (opened false ++ body (closed false)) (ReadsAt p left whole)
  brackets p s least h k zero o = absurd (omega (arith, o))
  brackets p s least h k (suc zero) o = absurd (omega (arith, o))
  brackets p s least h k (suc (suc left)) o = bracket_text body (Parts left) p s (suc left) whole (text_is least h k left (omega (arith, o))) (λ ls after j. formula left ls after j)

chains : (d c : Connective) → joins (Chain d) c ≡ true → (d ≡ c) × (is_chain c ≡ true)
chains connective.Or connective.Or e = (refl, refl)
chains connective.And connective.And e = (refl, refl)
chains connective.Or _ e = absurd cc
chains connective.And _ e = absurd cc
chains _ _ e = absurd cc

module _ (byte : ℕ) (c : Connective) (a b : Tree) (least : ℕ) (h : IsWrittenAt Operand a (suc least)) (k : IsWrittenAt (right_of c) b (right_level c least)) where
  chain_by : (d : Connective) (left : ℕ) (s : Bool) → joins (Chain d) c ≡ s → level_at s (suc least) ≤ left → IsText (opened s ++ body byte c a b (closed s)) (ReadsAt (Chain d) left (at_byte byte (node.Join c a b)))
  chain_by d left true e o = (let p = chains d c e in subst (λ x. IsText (opened true ++ body byte c a b (closed true)) (ReadsAt (Chain x) left (at_byte byte (node.Join c a b)))) (sym p.0) (as_chained byte c a b least h k p.1 left o))
  chain_by d left false e o = brackets byte c a b (Chain d) refl least h k left o

  by : (p : Place) → MayStand p (at_byte byte (node.Join c a b)) → (left : ℕ) → level_at (joins p c) (suc least) ≤ left → IsText (opened (joins p c) ++ body byte c a b (closed (joins p c))) (ReadsAt p left (at_byte byte (node.Join c a b)))
  by Formula may left o = as_whole byte c a b least h k left o
  by (Chain d) may left o = chain_by d left (joins (Chain d) c) refl o
  by SealedOperand may left o = absurd (let f : false ≡ true = sym (ap (λ w. w.ends) (writer-Join byte c a b)) ∙ may in cc)
  by Operand may left o = brackets byte c a b Operand refl least h k left o
  by Side may left o = brackets byte c a b Side refl least h k left o
  by SealedSide may left o = brackets byte c a b SealedSide refl least h k left o
  by Left may left o = brackets byte c a b Left refl least h k left o
  by Last may left o = brackets byte c a b Last refl least h k left o
  by SealedLast may left o = brackets byte c a b SealedLast refl least h k left o
  by Item may left o = brackets byte c a b Item refl least h k left o

  pub join_ok : IsWrittenFrom (λ p. joins p c) (suc least) (at_byte byte (node.Join c a b))
  join_ok = record { at = λ p may left o. subst (λ x. IsText x (ReadsAt p left (at_byte byte (node.Join c a b)))) (sym (ap (λ w. w.at p) (writer-Join byte c a b))) (by p may left o) }
