-- Each tree that is read with so many levels is written, and read back, with so many.
use Rattle.std.proofs.Common.{◌≡◌, ℕ, zero, suc, ◌+◌, ◌-◌, ◌≤◌, Bool, true, false, cond, List, [], ◌∷◌, ◌++◌, length, refl, ap, sym, subst, ◌∙◌, append_assoc, append-nil, arith}
use Rattle.std.specs.Prelude.{Ok, Err}
use Rattle.leo_lex.specs.declared.mark.Mark.TheVariants as mark
use Rattle.leo_syntax.specs.declared.classes.Class.{Class}
use Rattle.leo_syntax.specs.declared.classes.Class.TheVariants as class
use Rattle.leo_syntax.specs.declared.classes.Guard.TheVariants as guard
use Rattle.leo_syntax.specs.declared.tree.Binder.{Binder}
use Rattle.leo_syntax.specs.declared.tree.Connective.{Connective}
use Rattle.leo_syntax.specs.declared.tree.Connective.TheVariants as connective
use Rattle.leo_syntax.specs.declared.tree.Variable.{Variable}
use Rattle.leo_syntax.specs.declared.tree.Tree.{Tree}
use Rattle.leo_syntax.specs.declared.tree.Node.TheVariants as node
use Rattle.leo_syntax.specs.declared.writing.Place.{Place}
use Rattle.leo_syntax.specs.declared.writing.Place.TheVariants.{Formula, Operand, SealedOperand, Chain, Side, SealedSide, Left, Last, SealedLast, Item}
use Rattle.leo_syntax.specs.Lexemes.{Ahead, atom_of, upper_of}
use Rattle.leo_syntax.specs.Grammar.{Says, Passes, class_at, byte_of, at_byte, applied, is_equal, is_chain, continues}
use Rattle.leo_syntax.specs.Reading as read
use Rattle.leo_syntax.specs.Reading.{read_mark, read_said, read_guard, rest}
use Rattle.leo_syntax.specs.Texts.{joins, right_of, writer}
use Rattle.leo_syntax.proofs.Nodes.{writer-Not, writer-Bind, writer-Equal}
use Rattle.leo_syntax.proofs.Sound.{IfRead, then_read, then_same, then_skip, says_sound, mark_sound, closed_sound}
use Rattle.leo_syntax.proofs.WrittenTypes.{AreGood, good_rest, good_says, good_passes, atom_good, upper_good, AreVariablesWritten, variables_ok}
use Rattle.leo_syntax.proofs.WrittenPlaces.{IsWrittenAt, from_more, level_at, IsWrittenFrom, as_formula, as_item, as_unary, as_negation, as_binder, as_application, as_side}
use Rattle.leo_syntax.proofs.WrittenItems.{atom_ok, variable_item_ok, symbol_ok, negation_ok, connective_ok}
use Rattle.leo_syntax.proofs.WrittenNegations.{not_ok}
use Rattle.leo_syntax.proofs.WrittenEquations.{equal_ok}
use Rattle.leo_syntax.proofs.WrittenJoins.{right_level, join_ok}
use Rattle.leo_syntax.proofs.WrittenBinders.{bind_ok}
use Rattle.leo_syntax.proofs.WrittenApplications.{AreArgumentsAt, last_argument, more_arguments, apply_ok}

-- ---- weaker statements

level_weaker : (a b : Bool) → (a ≡ true → b ≡ true) → (n m : ℕ) → n ≤ m → level_at b n ≤ level_at a m
level_weaker true true f n m o = o
level_weaker true false f n m o = (let e = f refl in absurd cc)
level_weaker false true f n m o = omega (arith, o)
level_weaker false false f n m o = omega (arith, o)

weaker : (here there : Place → Bool) (least more : ℕ) (t : Tree) → ((p : Place) → there p ≡ true → here p ≡ true) → least ≤ more → IsWrittenFrom here least t → IsWrittenFrom there more t
weaker here there least more t f o h = record { at = λ p may. from_more p t (level_at (here p) least) (level_at (there p) more) (level_weaker (there p) (here p) (f p) least more o) (h.at p may) }

negation_unary : (sealed : Bool) (p : Place) → as_unary sealed p ≡ true → as_negation sealed p ≡ true
negation_unary sealed Formula e = refl
negation_unary sealed Operand e = refl
negation_unary sealed SealedOperand e = e
negation_unary sealed (Chain c) e = refl
negation_unary sealed Side e = refl
negation_unary sealed SealedSide e = absurd cc
negation_unary sealed Left e = e
negation_unary sealed Last e = e
negation_unary sealed SealedLast e = e
negation_unary sealed Item e = e

binder_unary : (sealed : Bool) (p : Place) → as_unary sealed p ≡ true → as_binder sealed p ≡ true
binder_unary sealed Formula e = refl
binder_unary sealed Operand e = refl
binder_unary sealed SealedOperand e = e
binder_unary sealed (Chain c) e = refl
binder_unary sealed Side e = refl
binder_unary sealed SealedSide e = absurd cc
binder_unary sealed Left e = e
binder_unary sealed Last e = refl
binder_unary sealed SealedLast e = absurd cc
binder_unary sealed Item e = e

negation_side : (sealed : Bool) (p : Place) → as_side sealed p ≡ true → as_negation sealed p ≡ true
negation_side sealed Side e = refl
negation_side sealed SealedSide e = e
negation_side sealed Formula e = refl
negation_side sealed Operand e = refl
negation_side sealed (Chain c) e = refl
negation_side sealed SealedOperand e = absurd cc
negation_side sealed Left e = absurd cc
negation_side sealed Last e = absurd cc
negation_side sealed SealedLast e = absurd cc
negation_side sealed Item e = absurd cc

binder_side : (sealed : Bool) (p : Place) → as_side sealed p ≡ true → as_binder sealed p ≡ true
binder_side sealed Side e = refl
binder_side sealed SealedSide e = e
binder_side sealed Formula e = refl
binder_side sealed Operand e = refl
binder_side sealed (Chain c) e = refl
binder_side sealed SealedOperand e = absurd cc
binder_side sealed Left e = absurd cc
binder_side sealed Last e = refl
binder_side sealed SealedLast e = absurd cc
binder_side sealed Item e = absurd cc

application_side : (sealed : Bool) (p : Place) → as_side sealed p ≡ true → as_application sealed p ≡ true
application_side sealed Side e = refl
application_side sealed SealedSide e = e
application_side sealed Formula e = refl
application_side sealed Operand e = refl
application_side sealed (Chain c) e = refl
application_side sealed SealedOperand e = absurd cc
application_side sealed Left e = absurd cc
application_side sealed Last e = absurd cc
application_side sealed SealedLast e = absurd cc
application_side sealed Item e = absurd cc

application_unary : (sealed : Bool) (p : Place) → as_unary false p ≡ true → as_application sealed p ≡ true
application_unary sealed Formula e = refl
application_unary sealed Operand e = refl
application_unary sealed (Chain c) e = refl
application_unary sealed SealedOperand e = absurd cc
application_unary sealed Side e = refl
application_unary sealed SealedSide e = absurd cc
application_unary sealed Left e = absurd cc
application_unary sealed Last e = absurd cc
application_unary sealed SealedLast e = absurd cc
application_unary sealed Item e = absurd cc

unary_formula : (sealed : Bool) (p : Place) → as_formula p ≡ true → as_unary sealed p ≡ true
unary_formula sealed Formula e = refl
unary_formula sealed _ e = absurd cc

join_formula : (c : Connective) (p : Place) → as_formula p ≡ true → joins p c ≡ true
join_formula c Formula e = refl
join_formula c _ e = absurd cc

-- ---- what is so of what is read

pub record ItemOk (left : ℕ) (t : Tree) (after : Ahead) : Type 0 where
  pub is_written : IsWrittenFrom as_item left t
  pub good : AreGood after

pub record UnaryOk (left : ℕ) (t : Tree) (after : Ahead) : Type 0 where
  pub is_written : IsWrittenFrom (as_unary (is_equal (class_at after))) left t
  pub ends : is_equal (class_at after) ≡ true → (writer t).ends ≡ true
  pub good : AreGood after

record NegationOk (left : ℕ) (t : Tree) (after : Ahead) : Type 0 where
  is_written : IsWrittenFrom (as_negation (is_equal (class_at after))) left t
  ends : is_equal (class_at after) ≡ true → (writer t).ends ≡ true
  good : AreGood after

record BinderOk (left : ℕ) (t : Tree) (after : Ahead) : Type 0 where
  is_written : IsWrittenFrom (as_binder (is_equal (class_at after))) left t
  ends : is_equal (class_at after) ≡ true → (writer t).ends ≡ true
  good : AreGood after

record ApplicationOk (left : ℕ) (t : Tree) (after : Ahead) : Type 0 where
  is_written : IsWrittenFrom (as_application (is_equal (class_at after))) left t
  good : AreGood after

record SideOk (left : ℕ) (t : Tree) (after : Ahead) : Type 0 where
  is_written : IsWrittenFrom (as_side (is_equal (class_at after))) left t
  good : AreGood after

pub record FormulaOk (left : ℕ) (t : Tree) (after : Ahead) : Type 0 where
  pub is_written : IsWrittenFrom as_formula left t
  pub good : AreGood after

record OperandsOk (c : Connective) (left : ℕ) (t : Tree) (after : Ahead) : Type 0 where
  is_written : IsWrittenAt (Chain c) t left
  good : AreGood after

record BodyOk (left n : ℕ) (t : Tree) (after : Ahead) : Type 0 where
  level : ℕ
  level_is : left ≡ n + level
  unary : UnaryOk level t after

-- arguments that are there
record ArgumentsFrom (sealed : Bool) (left : ℕ) (list : List Tree) : Type 0 where
  plain : AreArgumentsAt Last list left
  before_equation : AreArgumentsAt SealedLast list (level_at sealed left)

abbrev ArgumentsIf : Bool → ℕ → List Tree → Type 0
ArgumentsIf sealed left [] = Unit {0}
ArgumentsIf sealed left (a ∷ more) = ArgumentsFrom sealed left (a ∷ more)

record ArgumentsOk (left : ℕ) (before all : List Tree) (after : Ahead) : Type 0 where
  found : List Tree
  all_is : all ≡ before ++ found
  are_written : ArgumentsIf (is_equal (class_at after)) left found
  good : AreGood after

record Good (end left : ℕ) : Type 0 where
  unary_ok : (ls : Ahead) → AreGood ls → IfRead (read.unary end left ls) (UnaryOk left)
  body_ok : (n : ℕ) (ls : Ahead) → AreGood ls → IfRead (read.body end left n ls) (BodyOk left n)
  arguments_ok : (found : List Tree) (ls : Ahead) → AreGood ls → IfRead (read.arguments end left found ls) (ArgumentsOk left found)
  operands_ok : (c : Connective) → is_chain c ≡ true → (ls : Ahead) → AreGood ls → IfRead (read.operands end left c ls) (OperandsOk c left)
  formula_ok : (ls : Ahead) → AreGood ls → IfRead (read.formula end left ls) (FormulaOk left)
  inside_ok : (byte : ℕ) (ls : Ahead) → AreGood ls → IfRead (read.inside end left byte ls) (ItemOk (suc left))

no_more : (left : ℕ) (found : List Tree) (ls : Ahead) → AreGood ls → ArgumentsOk left found found ls
no_more left found ls g = record { found = []; all_is = sym (append-nil found); are_written = tt; good = g }

arguments_zero : (end : ℕ) (found : List Tree) (ls : Ahead) → AreGood ls → (c : Class) → IfRead (read.arguments_by c (λ found ls. Err (read.deep_at end ls)) found ls) (ArgumentsOk 0 found)
arguments_zero end found ls g class.Apply = tt
arguments_zero end found ls g _ = no_more 0 found ls g

good_zero : (end : ℕ) → Good end 0
unfolding read.unary
good_zero end = record { unary_ok = λ ls g. tt; body_ok = λ n ls g. tt; arguments_ok = λ found ls g. arguments_zero end found ls g (class_at ls); operands_ok = λ c i ls g. tt; formula_ok = λ ls g. tt; inside_ok = λ byte ls g. tt }

-- ---- arguments

item_argument : (sealed : Bool) (left : ℕ) (a : Tree) → IsWrittenFrom as_item (suc left) a → ArgumentsFrom sealed (suc left) (a ∷ [])
item_argument true left a h = record { plain = last_argument Last refl a left (h.at Last tt); before_equation = last_argument SealedLast refl a left (h.at SealedLast tt) }
item_argument false left a h = record { plain = last_argument Last refl a left (h.at Last tt); before_equation = last_argument SealedLast refl a (suc left) (from_more SealedLast a (suc left) (suc (suc left)) (omega arith) (h.at SealedLast tt)) }

binder_argument : (sealed : Bool) (left : ℕ) (a : Tree) → IsWrittenFrom (as_binder sealed) (suc left) a → ArgumentsFrom sealed (suc left) (a ∷ [])
binder_argument true left a h = record { plain = last_argument Last refl a left (h.at Last tt); before_equation = last_argument SealedLast refl a left (h.at SealedLast tt) }
binder_argument false left a h = record { plain = last_argument Last refl a left (h.at Last tt); before_equation = last_argument SealedLast refl a (suc left) (h.at SealedLast tt) }

further_argument : (sealed : Bool) (left : ℕ) (a : Tree) (more : List Tree) → IsWrittenFrom as_item (suc left) a → ArgumentsIf sealed left more → ArgumentsFrom sealed (suc left) (a ∷ more)
further_argument sealed left a [] h k = item_argument sealed left a h
further_argument true left a (b ∷ more) h k = record { plain = more_arguments Last a b more left (h.at Item tt) k.plain; before_equation = more_arguments SealedLast a b more left (h.at Item tt) k.before_equation }
further_argument false left a (b ∷ more) h k = record { plain = more_arguments Last a b more left (h.at Item tt) k.plain; before_equation = more_arguments SealedLast a b more (suc left) (from_more Item a (suc left) (suc (suc left)) (omega arith) (h.at Item tt)) k.before_equation }

application_of : (byte left : ℕ) (head : Tree) (list : List Tree) (sealed : Bool) → IsWrittenFrom as_item (suc left) head → ArgumentsIf sealed left list → IsWrittenFrom (as_application sealed) (suc left) (applied byte head list)
application_of byte left head [] sealed h k = weaker as_item (as_application sealed) (suc left) (suc left) head (λ p e. refl) (omega arith) h
application_of byte left head (a ∷ args) sealed h k = apply_ok byte head a args sealed left (h.at Item tt) k.plain k.before_equation

-- a binder with its variables

bind_of : (byte left level : ℕ) (b : Binder) (vs : List Variable) (u : Tree) (sealed : Bool) → ((v : Variable) × (others : List Variable) × (vs ≡ v ∷ others)) → left ≡ (length vs - 1) + level → AreVariablesWritten (suc left) vs
    → IsWrittenFrom (as_unary sealed) level u → (sealed ≡ true → (writer u).ends ≡ true) → IsWrittenFrom (as_binder sealed) (suc left) (at_byte byte (node.Bind b vs u))
bind_of byte left level b [] u sealed n e g h k = (let f = n.2 in absurd cc)
bind_of byte left level b (v ∷ vs) u sealed n e g h k =
    let f : left ≡ length vs + level = omega (arith, e) in
    rw f (bind_ok byte b v vs u sealed level (subst (λ x. AreVariablesWritten (suc x) (v ∷ vs)) f g) h k)

-- a connective and its operands

join_of : (byte left : ℕ) (c : Connective) (a b : Tree) → IsWrittenAt Operand a (suc left) → IsWrittenAt (right_of c) b (right_level c left) → IsWrittenFrom (λ p. joins p c) (suc left) (at_byte byte (node.Join c a b))
join_of byte left c a b h k = join_ok byte c a b left h k

chain_right : (c : Connective) → is_chain c ≡ true → (left : ℕ) (b : Tree) → IsWrittenAt (Chain c) b left → IsWrittenAt (right_of c) b (right_level c left)
chain_right c i left b h = rw i h

pair_right : (c : Connective) → is_chain c ≡ false → (left : ℕ) (b : Tree) → IsWrittenAt Operand b (suc left) → IsWrittenAt (right_of c) b (right_level c left)
pair_right c i left b h = rw i h

joins_chain : (c : Connective) → is_chain c ≡ true → joins (Chain c) c ≡ true
joins_chain connective.Or e = refl
joins_chain connective.And e = refl
joins_chain _ e = absurd cc

-- an application that no equation follows is an operand
term_alone : (left : ℕ) (first : Tree) (l1 : Ahead) → ApplicationOk (suc left) first l1 → is_equal (class_at l1) ≡ false → UnaryOk (suc left) first l1
term_alone left first l1 h f = record {
  is_written = subst (λ x. IsWrittenFrom (as_unary x) (suc left) first) (sym f) (weaker _ (as_unary false) (suc left) (suc left) first (application_unary (is_equal (class_at l1))) (omega arith) h.is_written);
  ends = λ t. absurd (let g : false ≡ true = sym f ∙ t in cc);
  good = h.good;
}

module _ (end left : ℕ) (known : Good end left) where
  items_by : (ls : Ahead) → AreGood ls → (c : Class) → IfRead (read.item_by c end (read.inside end left) ls) (ItemOk (suc left))
  items_by ls g class.Atom = then_read (read_said atom_of end ls) _ (λ name after. Says atom_of ls name after) (ItemOk (suc left)) (says_sound atom_of end ls) (λ name l1 h.
      let s = good_says h g in
      then_skip (read_guard guard.BehindAtom end l1) _ (ItemOk (suc left)) (record { is_written = weaker as_item as_item 1 (suc left) _ (λ p e. refl) (omega arith) (atom_ok (byte_of ls) name (atom_good h.token.kind h.token.text name h.said s.0)); good = s.1 }))
  items_by ls g class.Variable = then_read (read_said upper_of end ls) _ (λ name after. Says upper_of ls name after) (ItemOk (suc left)) (says_sound upper_of end ls) (λ name after h.
      let s = good_says h g in
      record { is_written = weaker as_item as_item 1 (suc left) _ (λ p e. refl) (omega arith) (variable_item_ok (byte_of ls) name (upper_good h.token.kind h.token.text name h.said s.0)); good = s.1 })
  items_by ls g (class.Symbol s) = record { is_written = weaker as_item as_item 1 (suc left) _ (λ p e. refl) (omega arith) (symbol_ok s (byte_of ls)); good = good_rest ls g }
  items_by ls g class.Open = known.inside_ok (byte_of ls) (rest ls) (good_rest ls g)
  items_by ls g _ = tt

  items : (ls : Ahead) → AreGood ls → IfRead (read.item_with end (read.inside end left) ls) (ItemOk (suc left))
  unfolding read.item_with
  items ls g = items_by ls g (class_at ls)

  applications : (ls : Ahead) → AreGood ls → IfRead (read.application_with end (read.inside end left) (read.arguments end left) ls) (ApplicationOk (suc left))
  unfolding read.application_with
  applications ls g = then_read (read.item_with end (read.inside end left) ls) _ (ItemOk (suc left)) (ApplicationOk (suc left)) (items ls g) (λ head l1 h.
      then_read (read.arguments end left [] l1) _ (ArgumentsOk left []) (ApplicationOk (suc left)) (known.arguments_ok [] l1 h.good) (λ all after k.
      record { is_written = rw k.all_is (application_of (byte_of ls) left head k.found (is_equal (class_at after)) h.is_written k.are_written); good = k.good }))

  binders : (b : Binder) (ls : Ahead) → AreGood ls → IfRead (read.binder_with end (suc left) (read.body end left) b ls) (BinderOk (suc left))
  binders b ls g =
      then_read (read_mark mark.OpenSquare end (rest ls)) _ (λ _ after. Passes mark.OpenSquare (rest ls) after) (BinderOk (suc left)) (mark_sound mark.OpenSquare end (rest ls)) (λ _ l2 m2.
      then_read (read.variables (length l2) end (suc left) l2) _ _ (BinderOk (suc left)) (variables_ok (length l2) end (suc left) l2 (good_passes m2 (good_rest ls g))) (λ vs l3 h3.
      then_read (read_mark mark.CloseSquare end l3) _ (λ _ after. Passes mark.CloseSquare l3 after) (BinderOk (suc left)) (mark_sound mark.CloseSquare end l3) (λ _ l4 m4.
      then_read (read_mark mark.Colon end l4) _ (λ _ after. Passes mark.Colon l4 after) (BinderOk (suc left)) (mark_sound mark.Colon end l4) (λ _ l5 m5.
      then_read (read.body end left (length vs - 1) l5) _ (BodyOk left (length vs - 1)) (BinderOk (suc left)) (known.body_ok (length vs - 1) l5 (good_passes m5 (good_passes m4 h3.1))) (λ u after h.
      record {
        is_written = bind_of (byte_of ls) left h.level b vs u (is_equal (class_at after)) h3.2 h.level_is h3.0 h.unary.is_written h.unary.ends;
        ends = λ e. ap (λ w. w.ends) (writer-Bind (byte_of ls) b vs u) ∙ h.unary.ends e;
        good = h.unary.good;
      })))))

  negations : (ls : Ahead) → AreGood ls → IfRead (read.negation_with end (read.unary end left) ls) (NegationOk (suc left))
  negations ls g = then_read (read.unary end left (rest ls)) _ (UnaryOk left) (NegationOk (suc left)) (known.unary_ok (rest ls) (good_rest ls g)) (λ u after h. record {
    is_written = not_ok (byte_of ls) u (is_equal (class_at after)) left h.is_written h.ends;
    ends = λ e. ap (λ w. w.ends) (writer-Not (byte_of ls) u) ∙ h.ends e;
    good = h.good;
  })

  sides_by : (ls : Ahead) → AreGood ls → (c : Class) → IfRead (read.begin_by c (read.negation_with end (read.unary end left)) (read.binder_with end (suc left) (read.body end left)) (read.application_with end (read.inside end left) (read.arguments end left)) (λ tree after. Ok (tree, after)) ls) (SideOk (suc left))
  sides_by ls g class.Not = then_same (read.negation_with end (read.unary end left) ls) (NegationOk (suc left)) (SideOk (suc left)) (negations ls g) (λ t after h. record { is_written = weaker _ _ (suc left) (suc left) t (negation_side (is_equal (class_at after))) (omega arith) h.is_written; good = h.good })
  sides_by ls g (class.Bind b) = then_same (read.binder_with end (suc left) (read.body end left) b ls) (BinderOk (suc left)) (SideOk (suc left)) (binders b ls g) (λ t after h. record { is_written = weaker _ _ (suc left) (suc left) t (binder_side (is_equal (class_at after))) (omega arith) h.is_written; good = h.good })
  sides_by ls g _ = then_read (read.application_with end (read.inside end left) (read.arguments end left) ls) _ (ApplicationOk (suc left)) (SideOk (suc left)) (applications ls g) (λ t after h. record { is_written = weaker _ _ (suc left) (suc left) t (application_side (is_equal (class_at after))) (omega arith) h.is_written; good = h.good })

  sides : (ls : Ahead) → AreGood ls → IfRead (read.side_above end (suc left) left ls) (SideOk (suc left))
  sides ls g = sides_by ls g (class_at ls)

  equations_by : (ls : Ahead) (first : Tree) (l1 : Ahead) → ApplicationOk (suc left) first l1 → (c : Class) → class_at l1 ≡ c → IfRead (read.equation_by c end (read.side_above end (suc left) left) (byte_of ls) first l1) (UnaryOk (suc left))
  equations_by ls first l1 h (class.Equal s) e = then_read (read.side_above end (suc left) left (rest l1)) _ (SideOk (suc left)) (UnaryOk (suc left)) (sides (rest l1) (good_rest l1 h.good)) (λ right after k.
      let front : is_equal (class_at l1) ≡ true = rw e refl in
      record {
        is_written = equal_ok (byte_of ls) (byte_of l1) s first right (is_equal (class_at after)) (suc left) (subst (λ x. IsWrittenAt Left first (level_at x (suc left))) front (h.is_written.at Left tt)) k.is_written;
        ends = λ f. ap (λ w. w.ends) (writer-Equal (byte_of ls) s (byte_of l1) first right);
        good = k.good;
      })
  equations_by ls first l1 h _ e = term_alone left first l1 h (rw e refl)

  terms : (ls : Ahead) → AreGood ls → IfRead (read.term_above end (suc left) left ls) (UnaryOk (suc left))
  unfolding read.equation_with
  terms ls g = then_read (read.application_with end (read.inside end left) (read.arguments end left) ls) _ (ApplicationOk (suc left)) (UnaryOk (suc left)) (applications ls g) (λ first l1 h. equations_by ls first l1 h (class_at l1) refl)

  unaries_by : (ls : Ahead) → AreGood ls → (c : Class) → IfRead (read.begin_by c (read.negation_with end (read.unary end left)) (read.binder_with end (suc left) (read.body end left)) (read.application_with end (read.inside end left) (read.arguments end left)) (read.equation_with end (read.side_above end (suc left) left) (byte_of ls)) ls) (UnaryOk (suc left))
  unaries_by ls g class.Not = then_same (read.negation_with end (read.unary end left) ls) (NegationOk (suc left)) (UnaryOk (suc left)) (negations ls g) (λ t after h. record { is_written = weaker _ _ (suc left) (suc left) t (negation_unary (is_equal (class_at after))) (omega arith) h.is_written; ends = h.ends; good = h.good })
  unaries_by ls g (class.Bind b) = then_same (read.binder_with end (suc left) (read.body end left) b ls) (BinderOk (suc left)) (UnaryOk (suc left)) (binders b ls g) (λ t after h. record { is_written = weaker _ _ (suc left) (suc left) t (binder_unary (is_equal (class_at after))) (omega arith) h.is_written; ends = h.ends; good = h.good })
  unaries_by ls g _ = terms ls g

  unaries : (ls : Ahead) → AreGood ls → IfRead (read.unary_with end (suc left) (read.unary end left) (read.body end left) (read.inside end left) (read.arguments end left) ls) (UnaryOk (suc left))
  unfolding read.unary_with
  unaries ls g = unaries_by ls g (class_at ls)

  bodies : (n : ℕ) (ls : Ahead) → AreGood ls → IfRead (read.body end (suc left) n ls) (BodyOk (suc left) n)
  unfolding read.unary
  bodies zero ls g = then_same (read.unary_with end (suc left) (read.unary end left) (read.body end left) (read.inside end left) (read.arguments end left) ls) (UnaryOk (suc left)) (BodyOk (suc left) 0) (unaries ls g) (λ t after h. record { level = suc left; level_is = omega arith; unary = h })
  bodies (suc n) ls g = then_same (read.body end left n ls) (BodyOk left n) (BodyOk (suc left) (suc n)) (known.body_ok n ls g) (λ t after h. record { level = h.level; level_is = omega (arith, h.level_is); unary = h.unary })

  argument_by : (before : List Tree) (ls : Ahead) → AreGood ls → (c : Class) → IfRead (read.argument_by c end (read.binder_with end (suc left) (read.body end left)) (read.inside end left) (read.arguments end left) before ls) (ArgumentsOk (suc left) before)
  argument_by before ls g (class.Bind b) = then_read (read.binder_with end (suc left) (read.body end left) b ls) _ (BinderOk (suc left)) (ArgumentsOk (suc left) before) (binders b ls g) (λ a after h. record { found = a ∷ []; all_is = refl; are_written = binder_argument (is_equal (class_at after)) left a h.is_written; good = h.good })
  argument_by before ls g _ = then_read (read.item_with end (read.inside end left) ls) _ (ItemOk (suc left)) (ArgumentsOk (suc left) before) (items ls g) (λ a l2 h.
      then_same (read.arguments end left (before ++ a ∷ []) l2) (ArgumentsOk left (before ++ a ∷ [])) (ArgumentsOk (suc left) before) (known.arguments_ok (before ++ a ∷ []) l2 h.good) (λ all after k. record {
        found = a ∷ k.found;
        all_is = k.all_is ∙ append_assoc before (a ∷ []) k.found;
        are_written = further_argument (is_equal (class_at after)) left a k.found h.is_written k.are_written;
        good = k.good;
      }))

  arguments_by : (before : List Tree) (ls : Ahead) → AreGood ls → (c : Class) → IfRead (read.arguments_by c (read.argument_with end (suc left) (read.body end left) (read.inside end left) (read.arguments end left)) before ls) (ArgumentsOk (suc left) before)
  unfolding read.argument_with
  arguments_by before ls g class.Apply = argument_by before (rest ls) (good_rest ls g) (class_at (rest ls))
  arguments_by before ls g _ = no_more (suc left) before ls g

  arguments : (before : List Tree) (ls : Ahead) → AreGood ls → IfRead (read.arguments end (suc left) before ls) (ArgumentsOk (suc left) before)
  unfolding read.unary
  arguments before ls g = arguments_by before ls g (class_at ls)

  abbrev unary_above : Ahead → read.Read Tree
  unary_above ls = read.unary_with end (suc left) (read.unary end left) (read.body end left) (read.inside end left) (read.arguments end left) ls

  operands_if : (c : Connective) → is_chain c ≡ true → (byte : ℕ) (first : Tree) (l1 : Ahead) → UnaryOk (suc left) first l1 → (b : Bool) → IfRead (cond b (read.join_with c (read.operands end left c) byte first l1) (Ok (first, l1))) (OperandsOk c (suc left))
  operands_if c i byte first l1 h true = then_read (read.operands end left c (rest l1)) _ (OperandsOk c left) (OperandsOk c (suc left)) (known.operands_ok c i (rest l1) (good_rest l1 h.good)) (λ right after k.
      record { is_written = subst (λ x. IsWrittenAt (Chain c) (at_byte byte (node.Join c first right)) (level_at x (suc left))) (joins_chain c i) ((join_of byte left c first right (h.is_written.at Operand tt) (chain_right c i left right k.is_written)).at (Chain c) tt); good = k.good })
  operands_if c i byte first l1 h false = record { is_written = h.is_written.at (Chain c) tt; good = h.good }

  operands : (c : Connective) → is_chain c ≡ true → (ls : Ahead) → AreGood ls → IfRead (read.operands end (suc left) c ls) (OperandsOk c (suc left))
  unfolding read.unary
  operands c i ls g = then_read (unary_above ls) _ (UnaryOk (suc left)) (OperandsOk c (suc left)) (unaries ls g) (λ first l1 h. operands_if c i (byte_of ls) first l1 h (continues c (class_at l1)))

  operators_if : (c : Connective) (byte : ℕ) (first : Tree) (l1 : Ahead) → UnaryOk (suc left) first l1 → (b : Bool) → is_chain c ≡ b → IfRead (cond b (read.join_with c (read.operands end left c) byte first l1) (read.join_with c unary_above byte first l1)) (FormulaOk (suc left))
  operators_if c byte first l1 h true i = then_read (read.operands end left c (rest l1)) _ (OperandsOk c left) (FormulaOk (suc left)) (known.operands_ok c i (rest l1) (good_rest l1 h.good)) (λ right after k.
      record { is_written = weaker _ as_formula (suc left) (suc left) _ (join_formula c) (omega arith) (join_of byte left c first right (h.is_written.at Operand tt) (chain_right c i left right k.is_written)); good = k.good })
  operators_if c byte first l1 h false i = then_read (unary_above (rest l1)) _ (UnaryOk (suc left)) (FormulaOk (suc left)) (unaries (rest l1) (good_rest l1 h.good)) (λ right after k.
      record { is_written = weaker _ as_formula (suc left) (suc left) _ (join_formula c) (omega arith) (join_of byte left c first right (h.is_written.at Operand tt) (pair_right c i left right (k.is_written.at Operand tt))); good = k.good })

  operators_by : (byte : ℕ) (first : Tree) (l1 : Ahead) → UnaryOk (suc left) first l1 → (k : Class) → IfRead (read.operators_by k unary_above (λ c ls. read.operands end left c ls) byte first l1) (FormulaOk (suc left))
  operators_by byte first l1 h (class.Join c) = operators_if c byte first l1 h (is_chain c) refl
  operators_by byte first l1 h _ = record { is_written = weaker _ as_formula (suc left) (suc left) first (unary_formula (is_equal (class_at l1))) (omega arith) h.is_written; good = h.good }

  abbrev formula_above : Ahead → read.Read Tree
  formula_above ls = read.formula_with end unary_above (λ c ls. read.operands end left c ls) ls

  formulas : (ls : Ahead) → AreGood ls → IfRead (formula_above ls) (FormulaOk (suc left))
  formulas ls g = then_read (unary_above ls) _ (UnaryOk (suc left)) (FormulaOk (suc left)) (unaries ls g) (λ first l1 h. operators_by (byte_of ls) first l1 h (class_at l1))

  formula_item : (t : Tree) → IsWrittenFrom as_formula (suc left) t → IsWrittenFrom as_item (suc (suc left)) t
  formula_item t h = record { at = λ p may. from_more p t (level_at (as_formula p) (suc left)) (suc (suc left)) (by (as_formula p)) (h.at p may) }
    where
      by : (b : Bool) → level_at b (suc left) ≤ suc (suc left)
      by true = omega arith
      by false = omega arith

  in_brackets : (ls : Ahead) → AreGood ls → IfRead (read.closed end (formula_above ls)) (ItemOk (suc (suc left)))
  in_brackets ls g = closed_sound end (formula_above ls) (FormulaOk (suc left)) (ItemOk (suc (suc left))) (formulas ls g) (λ t l1 after h p. record { is_written = formula_item t h.is_written; good = good_passes p h.good })

  inside_if : (byte : ℕ) (ls : Ahead) → AreGood ls → (b : Bool) → IfRead (cond b (Ok (at_byte byte node.Negation, rest (rest ls))) (read.closed end (formula_above ls))) (ItemOk (suc (suc left)))
  inside_if byte ls g true = record { is_written = weaker as_item as_item 2 (suc (suc left)) _ (λ p e. refl) (omega arith) (negation_ok byte); good = good_rest (rest ls) (good_rest ls g) }
  inside_if byte ls g false = in_brackets ls g

  inside_by : (byte : ℕ) (ls : Ahead) → AreGood ls → (c : Class) → IfRead (read.inside_by c end formula_above byte ls) (ItemOk (suc (suc left)))
  inside_by byte ls g class.Not = inside_if byte ls g (read.is_close (class_at (rest ls)))
  inside_by byte ls g (class.Join c) = then_read (read_mark mark.CloseRound end (rest ls)) _ (λ _ after. Passes mark.CloseRound (rest ls) after) (ItemOk (suc (suc left))) (mark_sound mark.CloseRound end (rest ls)) (λ _ after m.
      record { is_written = weaker as_item as_item 2 (suc (suc left)) _ (λ p e. refl) (omega arith) (connective_ok c byte); good = good_passes m (good_rest ls g) })
  inside_by byte ls g (class.Equal s) = tt
  inside_by byte ls g _ = in_brackets ls g

  good_suc : Good end (suc left)
  unfolding read.unary
  good_suc = record { unary_ok = unaries; body_ok = bodies; arguments_ok = arguments; operands_ok = operands; formula_ok = formulas; inside_ok = λ byte ls g. inside_by byte ls g (class_at ls) }

good_at : (end left : ℕ) → Good end left
good_at end zero = good_zero end
good_at end (suc left) = good_suc end left (good_at end left)

-- a formula that is read is written as one
pub formula_ok_at : (end left : ℕ) (ls : Ahead) → AreGood ls → IfRead (read.formula end left ls) (FormulaOk left)
formula_ok_at end left ls g = (good_at end left).formula_ok ls g
