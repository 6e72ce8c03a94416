-- What is read is in the grammar.
use Rattle.std.proofs.Common.{◌≡◌, ℕ, zero, suc, ◌⊎◌, Bool, true, false, cond, List, [], ◌∷◌, ◌++◌, refl, sym, subst, inl, inr, length, ◌-◌, ap, ◌∙◌}
use Rattle.std.specs.Prelude.{Ok, Err, Option, Some, None}
use Rattle.leo_lex.specs.declared.mark.Mark.{Mark}
use Rattle.leo_lex.specs.declared.mark.Mark.TheVariants.{OpenRound, CloseRound, OpenSquare, CloseSquare, Comma, Dot, Colon}
use Rattle.leo_syntax.specs.declared.classes.Class.{Class}
use Rattle.leo_syntax.specs.declared.classes.Class.TheVariants as class
use Rattle.leo_syntax.specs.declared.classes.Keyword.{Keyword}
use Rattle.leo_syntax.specs.declared.classes.Keyword.TheVariants as keyword
use Rattle.leo_syntax.specs.declared.classes.Guard.TheVariants as guard
use Rattle.leo_syntax.specs.declared.classes.Shape.{Shape}
use Rattle.leo_syntax.specs.declared.classes.Shape.TheVariants as shape
use Rattle.leo_syntax.specs.declared.classes.Bracket.{Bracket}
use Rattle.leo_syntax.specs.declared.classes.Bracket.TheVariants as bracket
use Rattle.leo_syntax.specs.declared.tree.Binder.{Binder}
use Rattle.leo_syntax.specs.declared.tree.Connective.{Connective}
use Rattle.leo_syntax.specs.declared.tree.Connective.TheVariants.{Or, And}
use Rattle.leo_syntax.specs.declared.tree.TypeTree.{TypeTree}
use Rattle.leo_syntax.specs.declared.tree.Variable.{Variable}
use Rattle.leo_syntax.specs.declared.tree.Tree.{Tree}
use Rattle.leo_syntax.specs.declared.typed.Typed.{Typed}
use Rattle.leo_syntax.specs.Classes.{same_shape}
use Rattle.leo_syntax.specs.Lexemes.{Lexeme, Ahead, is_mark, keyword_of, bracket_of, name_of, atom_of, lower_of, upper_of, quoted_of}
use Rattle.leo_syntax.specs.Reading as read
use Rattle.leo_syntax.specs.Reading.{Read, and_then, read_mark, read_said, read_guard, read_level, rest}
use Rattle.leo_syntax.specs.Grammar.{Takes, Says, Passes, sees, class_at, byte_of, is_chain, continues, is_type_role, IsOperandType, type_atom, individual, truth, type_of_types, type_brackets, IsType, operand, function, IsVariable, variable, AreVariables, last_variable, next_variable, IsItem, atom, variable_item, symbol_item, negation_sign, connective_sign, brackets, AreArguments, none, more, binder_last, IsApplication, application, IsBinder, binder, IsNegation, negation, IsUnary, negated, bound, term, equation, IsSide, negated_side, bound_side, term_side, AreOperands, last, further, IsFormula, alone, chain, pair, IsTyping, typed_atom, typed_brackets, bracket_at, is_closing, Annotates, matched, plain_token, opens, closes, IsEnding, bare, with_annotations, AreNames, last_name, next_name, IsSelection, whole, no_names, some_names, IsHead, IsStatement, formula_statement, typing_statement, include_statement}

pub or_false : (b : Bool) → (b ≡ true) ⊎ (b ≡ false)
or_false true = inl refl
or_false false = inr refl

-- what is so of the value that was read, and of what is left
abbrev pub IfRead : {A : Type 0} → Read A → (A → Ahead → Type 0) → Type 0
IfRead (Ok p) P = P p.0 p.1
IfRead (Err e) P = Unit {0}

pub then_read : {A B : Type 0} (r : Read A) (f : A → Ahead → Read B) (P : A → Ahead → Type 0) (Q : B → Ahead → Type 0) → IfRead r P → ((a : A) (ls : Ahead) → P a ls → IfRead (f a ls) Q) → IfRead (and_then r f) Q
then_read (Ok p) f P Q h next = next p.0 p.1 h
then_read (Err e) f P Q h next = tt

pub then_same : {A : Type 0} (r : Read A) (P Q : A → Ahead → Type 0) → IfRead r P → ((a : A) (ls : Ahead) → P a ls → Q a ls) → IfRead r Q
then_same (Ok p) P Q h next = next p.0 p.1 h
then_same (Err e) P Q h next = tt

-- a reader of which only the refusal counts
pub then_skip : {A B : Type 0} (r : Read A) (f : Read B) (Q : B → Ahead → Type 0) → IfRead f Q → IfRead (and_then r (λ _ _. f)) Q
then_skip (Ok p) f Q h = h
then_skip (Err e) f Q h = tt

-- ---- the next token

abbrev real : Class → Bool
real class.Other = false
real _ = true

pub took : (c : Class) (ls : Ahead) → class_at ls ≡ c → real c ≡ true → Takes c ls (rest ls)
unfolding class_at rest
took c [] e r = let f : false ≡ true = subst (λ x. real x ≡ true) (sym e) r in absurd cc
took c (l ∷ ls) e r = record { token = l; ahead_is = refl; class_is = e }

says_by : {A : Type 0} (says : Lexeme → Option A) (end : ℕ) (l : Lexeme) (ls : Ahead) (o : Option A) → says l ≡ o → IfRead (read.found o end (l ∷ ls)) (λ a after. Says says (l ∷ ls) a after)
unfolding rest
says_by says end l ls (Some a) e = record { token = l; ahead_is = refl; said = e }
says_by says end l ls None e = tt

pub says_sound : {A : Type 0} (says : Lexeme → Option A) (end : ℕ) (ls : Ahead) → IfRead (read_said says end ls) (λ a after. Says says ls a after)
unfolding read.said_at
says_sound says end [] = tt
says_sound says end (l ∷ ls) = says_by says end l ls (says l) refl

pub mark_sound : (m : Mark) (end : ℕ) (ls : Ahead) → IfRead (read_mark m end ls) (λ _ after. Passes m ls after)
unfolding sees rest
mark_sound m end [] = tt
mark_sound m end (l ∷ ls) = elim (or_false (is_mark m l)) [ inl t ↦ rw t (record { token = l; ahead_is = refl; is_that = t }) | inr f ↦ rw f tt ]

pub closed_sound : {A : Type 0} (end : ℕ) (r : Read A) (P Q : A → Ahead → Type 0) → IfRead r P → ((a : A) (l1 after : Ahead) → P a l1 → Passes CloseRound l1 after → Q a after) → IfRead (read.closed end r) Q
closed_sound end r P Q h next = then_read r _ P Q h (λ a l1 k. then_read (read_mark CloseRound end l1) _ (λ _ after. Passes CloseRound l1 after) Q (mark_sound CloseRound end l1) (λ _ after m. next a l1 after k m))

pub opened_sound : {A : Type 0} (end left : ℕ) (inner : Ahead → Read A) (ls : Ahead) (P Q : A → Ahead → Type 0) → IfRead (inner ls) P → ((a : A) (l1 after : Ahead) → P a l1 → Passes CloseRound l1 after → Q a after) → IfRead (read.opened end left inner ls) Q
opened_sound end left inner ls P Q h next = then_skip (read_level end left ls) _ Q (then_skip (read_guard guard.BehindBracket end ls) _ Q (closed_sound end (inner ls) P Q h next))

-- ---- types

operand_by : (end left : ℕ) (inner : Ahead → Read TypeTree) → ((ls : Ahead) → IfRead (inner ls) (IsType ls)) → (ls : Ahead) (c : Class) → class_at ls ≡ c → IfRead (read.operand_type_by c end left inner ls) (IsOperandType ls)
operand_by end left inner known ls class.Atom e = then_read (read_said atom_of end ls) _ (λ name after. Says atom_of ls name after) (IsOperandType ls) (says_sound atom_of end ls) (λ name after h. type_atom h)
operand_by end left inner known ls class.Individual e = individual (took class.Individual ls e refl)
operand_by end left inner known ls class.Truth e = truth (took class.Truth ls e refl)
operand_by end left inner known ls class.TypeOfTypes e = type_of_types (took class.TypeOfTypes ls e refl)
operand_by end left inner known ls class.Open e = opened_sound end left inner (rest ls) (IsType (rest ls)) (IsOperandType ls) (known (rest ls)) (λ ty l1 after h m. type_brackets (took class.Open ls e refl) h m)
operand_by end left inner known ls _ e = tt

operand_sound : (end left : ℕ) (inner : Ahead → Read TypeTree) → ((ls : Ahead) → IfRead (inner ls) (IsType ls)) → (ls : Ahead) → IfRead (read.operand_type_with end left inner ls) (IsOperandType ls)
unfolding read.operand_type_with
operand_sound end left inner known ls = operand_by end left inner known ls (class_at ls) refl

arrow_by : (inner : Ahead → Read TypeTree) → ((ls : Ahead) → IfRead (inner ls) (IsType ls)) → (ls l1 : Ahead) (from : TypeTree) → IsOperandType ls from l1 → (c : Class) → class_at l1 ≡ c → IfRead (read.arrow_by c inner (byte_of ls) from l1) (IsType ls)
arrow_by inner known ls l1 from h class.Arrow e = then_read (inner (rest l1)) _ (IsType (rest l1)) (IsType ls) (known (rest l1)) (λ to after k. function h (took class.Arrow l1 e refl) k)
arrow_by inner known ls l1 from h _ e = operand h (rw e refl)

type_by : (end left : ℕ) (inner : Ahead → Read TypeTree) → ((ls : Ahead) → IfRead (inner ls) (IsType ls)) → (ls : Ahead) → IfRead (read.type_with end left inner ls) (IsType ls)
unfolding read.type_with
type_by end left inner known ls = then_read (read.operand_type_with end left inner ls) _ (IsOperandType ls) (IsType ls) (operand_sound end left inner known ls) (λ from l1 h.
    then_skip (read_guard guard.BehindType end l1) _ (IsType ls) (arrow_by inner known ls l1 from h (class_at l1) refl))

pub type_sound : (end left : ℕ) (ls : Ahead) → IfRead (read.ty end left ls) (IsType ls)
unfolding read.ty
type_sound end zero ls = tt
type_sound end (suc left) ls = type_by end left (read.ty end left) (type_sound end left) ls

-- ---- variables

pub variable_sound : (end left : ℕ) (ls : Ahead) → IfRead (read.variable end left ls) (IsVariable ls)
unfolding read.variable
variable_sound end left ls =
    then_read (read_said upper_of end ls) _ (λ name after. Says upper_of ls name after) (IsVariable ls) (says_sound upper_of end ls) (λ name l1 h.
    then_read (read_mark Colon end l1) _ (λ _ after. Passes Colon l1 after) (IsVariable ls) (mark_sound Colon end l1) (λ _ l2 m.
    then_read (read.ty end left l2) _ (IsType l2) (IsVariable ls) (type_sound end left l2) (λ t after k. variable h m k)))

comma_by : (variables : Ahead → Read (List Variable)) → ((ls : Ahead) → IfRead (variables ls) (AreVariables ls)) → (ls : Ahead) (v : Variable) (l1 : Ahead) → IsVariable ls v l1 → IfRead (read.further_with variables v l1) (AreVariables ls)
unfolding sees rest
comma_by variables known ls v [] h = last_variable h refl
comma_by variables known ls v (l ∷ l2) h = elim (or_false (is_mark Comma l)) [
  | inl t ↦ rw t (then_read (variables l2) _ (AreVariables l2) (AreVariables ls) (known l2) (λ vs after k. next_variable h (record { token = l; ahead_is = refl; is_that = t }) k))
  | inr f ↦ rw f (last_variable h f)
]

pub variables_sound : (n end left : ℕ) (ls : Ahead) → IfRead (read.variables n end left ls) (AreVariables ls)
unfolding read.variables
variables_sound zero end left ls = tt
variables_sound (suc n) end left ls = then_read (read.variable end left ls) _ (IsVariable ls) (AreVariables ls) (variable_sound end left ls) (λ v l1 h. comma_by (read.variables n end left) (variables_sound n end left) ls v l1 h)

-- ---- formulas

pub record Sound (end left : ℕ) : Type 0 where
  pub unary_sound : (ls : Ahead) → IfRead (read.unary end left ls) (IsUnary ls)
  pub body_sound : (n : ℕ) (ls : Ahead) → IfRead (read.body end left n ls) (IsUnary ls)
  pub arguments_sound : (found : List Tree) (ls : Ahead) → IfRead (read.arguments end left found ls) (AreArguments found ls)
  pub operands_sound : (c : Connective) (ls : Ahead) → IfRead (read.operands end left c ls) (AreOperands c ls)
  pub formula_sound : (ls : Ahead) → IfRead (read.formula end left ls) (IsFormula ls)
  pub inside_sound : (ls l1 : Ahead) → Takes class.Open ls l1 → IfRead (read.inside end left (byte_of ls) l1) (IsItem ls)

arguments_zero : (end : ℕ) (found : List Tree) (ls : Ahead) (c : Class) → class_at ls ≡ c → IfRead (read.arguments_by c (λ found ls. Err (read.deep_at end ls)) found ls) (AreArguments found ls)
arguments_zero end found ls class.Apply e = tt
arguments_zero end found ls _ e = none (rw e refl)

sound_zero : (end : ℕ) → Sound end 0
unfolding read.unary
sound_zero end = record { unary_sound = λ ls. tt; body_sound = λ n ls. tt; arguments_sound = λ found ls. arguments_zero end found ls (class_at ls) refl; operands_sound = λ c ls. tt; formula_sound = λ ls. tt; inside_sound = λ ls l1 h. tt }

continues_is : (c : Connective) (k : Class) → continues c k ≡ true → k ≡ class.Join c
continues_is Or (class.Join Or) e = refl
continues_is And (class.Join And) e = refl
continues_is Or (class.Join _) e = absurd cc
continues_is And (class.Join _) e = absurd cc
continues_is Or _ e = absurd cc
continues_is And _ e = absurd cc
continues_is _ _ e = absurd cc

pub close_is : (k : Class) → read.is_close k ≡ true → k ≡ class.Close
close_is class.Close e = refl
close_is _ e = absurd cc

module _ (end left : ℕ) (known : Sound end left) where
  items_by : (ls : Ahead) (c : Class) → class_at ls ≡ c → IfRead (read.item_by c end (read.inside end left) ls) (IsItem ls)
  items_by ls class.Atom e = then_read (read_said atom_of end ls) _ (λ name after. Says atom_of ls name after) (IsItem ls) (says_sound atom_of end ls) (λ name l1 h. then_skip (read_guard guard.BehindAtom end l1) _ (IsItem ls) (atom h))
  items_by ls class.Variable e = then_read (read_said upper_of end ls) _ (λ name after. Says upper_of ls name after) (IsItem ls) (says_sound upper_of end ls) (λ name after h. variable_item h)
  items_by ls (class.Symbol s) e = symbol_item (took (class.Symbol s) ls e refl)
  items_by ls class.Open e = known.inside_sound ls (rest ls) (took class.Open ls e refl)
  items_by ls _ e = tt

  items : (ls : Ahead) → IfRead (read.item_with end (read.inside end left) ls) (IsItem ls)
  unfolding read.item_with
  items ls = items_by ls (class_at ls) refl

  applications : (ls : Ahead) → IfRead (read.application_with end (read.inside end left) (read.arguments end left) ls) (IsApplication ls)
  unfolding read.application_with
  applications ls = then_read (read.item_with end (read.inside end left) ls) _ (IsItem ls) (IsApplication ls) (items ls) (λ head l1 h.
      then_read (read.arguments end left [] l1) _ (AreArguments [] l1) (IsApplication ls) (known.arguments_sound [] l1) (λ all after k. application h k))

  binders : (b : Binder) (ls : Ahead) → class_at ls ≡ class.Bind b → IfRead (read.binder_with end (suc left) (read.body end left) b ls) (IsBinder ls)
  binders b ls e =
      then_read (read_mark OpenSquare end (rest ls)) _ (λ _ after. Passes OpenSquare (rest ls) after) (IsBinder ls) (mark_sound OpenSquare end (rest ls)) (λ _ l2 m2.
      then_read (read.variables (length l2) end (suc left) l2) _ (AreVariables l2) (IsBinder ls) (variables_sound (length l2) end (suc left) l2) (λ vs l3 h3.
      then_read (read_mark CloseSquare end l3) _ (λ _ after. Passes CloseSquare l3 after) (IsBinder ls) (mark_sound CloseSquare end l3) (λ _ l4 m4.
      then_read (read_mark Colon end l4) _ (λ _ after. Passes Colon l4 after) (IsBinder ls) (mark_sound Colon end l4) (λ _ l5 m5.
      then_read (read.body end left (length vs - 1) l5) _ (IsUnary l5) (IsBinder ls) (known.body_sound (length vs - 1) l5) (λ tree after h. binder (took (class.Bind b) ls e refl) m2 h3 m4 m5 h)))))

  negations : (ls : Ahead) → class_at ls ≡ class.Not → IfRead (read.negation_with end (read.unary end left) ls) (IsNegation ls)
  negations ls e = then_read (read.unary end left (rest ls)) _ (IsUnary (rest ls)) (IsNegation ls) (known.unary_sound (rest ls)) (λ tree after h. negation (took class.Not ls e refl) h)

  sides_by : (ls : Ahead) (c : Class) → class_at ls ≡ c → IfRead (read.begin_by c (read.negation_with end (read.unary end left)) (read.binder_with end (suc left) (read.body end left)) (read.application_with end (read.inside end left) (read.arguments end left)) (λ tree after. Ok (tree, after)) ls) (IsSide ls)
  sides_by ls class.Not e = then_same (read.negation_with end (read.unary end left) ls) (IsNegation ls) (IsSide ls) (negations ls e) (λ tree after h. negated_side h)
  sides_by ls (class.Bind b) e = then_same (read.binder_with end (suc left) (read.body end left) b ls) (IsBinder ls) (IsSide ls) (binders b ls e) (λ tree after h. bound_side h)
  sides_by ls _ e = then_read (read.application_with end (read.inside end left) (read.arguments end left) ls) _ (IsApplication ls) (IsSide ls) (applications ls) (λ tree after h. term_side h)

  sides : (ls : Ahead) → IfRead (read.side_above end (suc left) left ls) (IsSide ls)
  sides ls = sides_by ls (class_at ls) refl

  equations_by : (ls : Ahead) (first : Tree) (l1 : Ahead) → IsApplication ls first l1 → (c : Class) → class_at l1 ≡ c → IfRead (read.equation_by c end (read.side_above end (suc left) left) (byte_of ls) first l1) (IsUnary ls)
  equations_by ls first l1 h (class.Equal s) e = then_read (read.side_above end (suc left) left (rest l1)) _ (IsSide (rest l1)) (IsUnary ls) (sides (rest l1)) (λ right after k. equation h (took (class.Equal s) l1 e refl) k)
  equations_by ls first l1 h _ e = term h (rw e refl)

  equations : (ls : Ahead) (first : Tree) (l1 : Ahead) → IsApplication ls first l1 → IfRead (read.equation_with end (read.side_above end (suc left) left) (byte_of ls) first l1) (IsUnary ls)
  unfolding read.equation_with
  equations ls first l1 h = equations_by ls first l1 h (class_at l1) refl

  terms : (ls : Ahead) → IfRead (read.term_above end (suc left) left ls) (IsUnary ls)
  terms ls = then_read (read.application_with end (read.inside end left) (read.arguments end left) ls) _ (IsApplication ls) (IsUnary ls) (applications ls) (λ first l1 h. equations ls first l1 h)

  unaries_by : (ls : Ahead) (c : Class) → class_at ls ≡ c → IfRead (read.begin_by c (read.negation_with end (read.unary end left)) (read.binder_with end (suc left) (read.body end left)) (read.application_with end (read.inside end left) (read.arguments end left)) (read.equation_with end (read.side_above end (suc left) left) (byte_of ls)) ls) (IsUnary ls)
  unaries_by ls class.Not e = then_same (read.negation_with end (read.unary end left) ls) (IsNegation ls) (IsUnary ls) (negations ls e) (λ tree after h. negated h)
  unaries_by ls (class.Bind b) e = then_same (read.binder_with end (suc left) (read.body end left) b ls) (IsBinder ls) (IsUnary ls) (binders b ls e) (λ tree after h. bound h)
  unaries_by ls _ e = terms ls

  unaries : (ls : Ahead) → IfRead (read.unary_with end (suc left) (read.unary end left) (read.body end left) (read.inside end left) (read.arguments end left) ls) (IsUnary ls)
  unfolding read.unary_with
  unaries ls = unaries_by ls (class_at ls) refl

  bodies : (n : ℕ) (ls : Ahead) → IfRead (read.body end (suc left) n ls) (IsUnary ls)
  unfolding read.unary
  bodies zero ls = unaries ls
  bodies (suc n) ls = known.body_sound n ls

  argument_by : (found : List Tree) (ls l1 : Ahead) → Takes class.Apply ls l1 → (c : Class) → class_at l1 ≡ c → IfRead (read.argument_by c end (read.binder_with end (suc left) (read.body end left)) (read.inside end left) (read.arguments end left) found l1) (AreArguments found ls)
  argument_by found ls l1 t (class.Bind b) e = then_read (read.binder_with end (suc left) (read.body end left) b l1) _ (IsBinder l1) (AreArguments found ls) (binders b l1 e) (λ argument after h. binder_last t h)
  argument_by found ls l1 t _ e = then_read (read.item_with end (read.inside end left) l1) _ (IsItem l1) (AreArguments found ls) (items l1) (λ argument l2 h.
      then_same (read.arguments end left (found ++ argument ∷ []) l2) (AreArguments (found ++ argument ∷ []) l2) (AreArguments found ls) (known.arguments_sound (found ++ argument ∷ []) l2) (λ all after k. more t h k))

  argument : (found : List Tree) (ls l1 : Ahead) → Takes class.Apply ls l1 → IfRead (read.argument_with end (suc left) (read.body end left) (read.inside end left) (read.arguments end left) found l1) (AreArguments found ls)
  unfolding read.argument_with
  argument found ls l1 t = argument_by found ls l1 t (class_at l1) refl

  arguments_by : (found : List Tree) (ls : Ahead) (c : Class) → class_at ls ≡ c → IfRead (read.arguments_by c (read.argument_with end (suc left) (read.body end left) (read.inside end left) (read.arguments end left)) found ls) (AreArguments found ls)
  arguments_by found ls class.Apply e = argument found ls (rest ls) (took class.Apply ls e refl)
  arguments_by found ls _ e = none (rw e refl)

  arguments : (found : List Tree) (ls : Ahead) → IfRead (read.arguments end (suc left) found ls) (AreArguments found ls)
  unfolding read.unary
  arguments found ls = arguments_by found ls (class_at ls) refl

  operands_go : (c : Connective) (ls : Ahead) (first : Tree) (l1 : Ahead) → IsUnary ls first l1 → IfRead (cond (continues c (class_at l1)) (read.join_with c (read.operands end left c) (byte_of ls) first l1) (Ok (first, l1))) (AreOperands c ls)
  operands_go c ls first l1 h = elim (or_false (continues c (class_at l1))) [
    | inl t ↦ rw t (then_read (read.operands end left c (rest l1)) _ (AreOperands c (rest l1)) (AreOperands c ls) (known.operands_sound c (rest l1)) (λ others after k. further h (took (class.Join c) l1 (continues_is c (class_at l1) t) refl) k))
    | inr f ↦ rw f (last h f)
  ]

  operands : (c : Connective) (ls : Ahead) → IfRead (read.operands end (suc left) c ls) (AreOperands c ls)
  unfolding read.unary
  operands c ls = then_read (read.unary_with end (suc left) (read.unary end left) (read.body end left) (read.inside end left) (read.arguments end left) ls) _ (IsUnary ls) (AreOperands c ls) (unaries ls) (λ first l1 h. operands_go c ls first l1 h)

  operators_by : (ls : Ahead) (first : Tree) (l1 : Ahead) → IsUnary ls first l1 → (c : Class) → class_at l1 ≡ c → IfRead (read.operators_by c (read.unary_with end (suc left) (read.unary end left) (read.body end left) (read.inside end left) (read.arguments end left)) (λ c ls. read.operands end left c ls) (byte_of ls) first l1) (IsFormula ls)
  operators_by ls first l1 h (class.Join c) e = elim (or_false (is_chain c)) [
    | inl t ↦ rw t (then_read (read.operands end left c (rest l1)) _ (AreOperands c (rest l1)) (IsFormula ls) (known.operands_sound c (rest l1)) (λ others after k. chain t h (took (class.Join c) l1 e refl) k))
    | inr f ↦ rw f (then_read (read.unary_with end (suc left) (read.unary end left) (read.body end left) (read.inside end left) (read.arguments end left) (rest l1)) _ (IsUnary (rest l1)) (IsFormula ls) (unaries (rest l1)) (λ other after k. pair f h (took (class.Join c) l1 e refl) k))
  ]
  operators_by ls first l1 h _ e = alone h (rw e refl)

  abbrev formula_above : Ahead → Read Tree
  formula_above ls = read.formula_with end (read.unary_with end (suc left) (read.unary end left) (read.body end left) (read.inside end left) (read.arguments end left)) (λ c ls. read.operands end left c ls) ls

  formulas : (ls : Ahead) → IfRead (formula_above ls) (IsFormula ls)
  formulas ls = then_read (read.unary_with end (suc left) (read.unary end left) (read.body end left) (read.inside end left) (read.arguments end left) ls) _ (IsUnary ls) (IsFormula ls) (unaries ls) (λ first l1 h. operators_by ls first l1 h (class_at l1) refl)

  in_brackets : (ls l1 : Ahead) → Takes class.Open ls l1 → IfRead (read.closed end (formula_above l1)) (IsItem ls)
  in_brackets ls l1 t = closed_sound end (formula_above l1) (IsFormula l1) (IsItem ls) (formulas l1) (λ tree l2 after h m. brackets t h m)

  inside_by : (ls l1 : Ahead) → Takes class.Open ls l1 → (c : Class) → class_at l1 ≡ c → IfRead (read.inside_by c end formula_above (byte_of ls) l1) (IsItem ls)
  inside_by ls l1 t class.Not e = elim (or_false (read.is_close (class_at (rest l1)))) [
    | inl k ↦ rw k (negation_sign t (took class.Not l1 e refl) (took class.Close (rest l1) (close_is (class_at (rest l1)) k) refl))
    | inr f ↦ rw f (in_brackets ls l1 t)
  ]
  inside_by ls l1 t (class.Join c) e = then_read (read_mark CloseRound end (rest l1)) _ (λ _ after. Passes CloseRound (rest l1) after) (IsItem ls) (mark_sound CloseRound end (rest l1)) (λ _ after m. connective_sign t (took (class.Join c) l1 e refl) m)
  inside_by ls l1 t (class.Equal s) e = tt
  inside_by ls l1 t _ e = in_brackets ls l1 t

  sound_suc : Sound end (suc left)
  unfolding read.unary
  sound_suc = record {
    unary_sound = unaries;
    body_sound = bodies;
    arguments_sound = arguments;
    operands_sound = operands;
    formula_sound = formulas;
    inside_sound = λ ls l1 t. inside_by ls l1 t (class_at l1) refl;
  }

pub sound : (end left : ℕ) → Sound end left
sound end zero = sound_zero end
sound end (suc left) = sound_suc end left (sound end left)

-- ---- statements

typed_sound : (end left : ℕ) (ls : Ahead) → IfRead (read.typed end left ls) (λ t after. IsTyping ls t.atom t.atom_byte t.ty after)
unfolding read.typed
typed_sound end left ls =
    then_read (read_said atom_of end ls) _ (λ name after. Says atom_of ls name after) (λ t after. IsTyping ls t.atom t.atom_byte t.ty after) (says_sound atom_of end ls) (λ name l1 h.
    then_read (read_mark Colon end l1) _ (λ _ after. Passes Colon l1 after) (λ t after. IsTyping ls t.atom t.atom_byte t.ty after) (mark_sound Colon end l1) (λ _ l2 m.
    then_read (read.ty end left l2) _ (IsType l2) (λ t after. IsTyping ls t.atom t.atom_byte t.ty after) (type_sound end left l2) (λ t after k. typed_atom h m k)))

typing_by : (end left : ℕ) (inner : Ahead → Read Typed) → ((ls : Ahead) → IfRead (inner ls) (λ t after. IsTyping ls t.atom t.atom_byte t.ty after)) → (ls : Ahead) (c : Class) → class_at ls ≡ c → IfRead (read.typing_by c end left inner ls) (λ t after. IsTyping ls t.atom t.atom_byte t.ty after)
typing_by end left inner known ls class.Open e = opened_sound end left inner (rest ls) (λ t after. IsTyping (rest ls) t.atom t.atom_byte t.ty after) (λ t after. IsTyping ls t.atom t.atom_byte t.ty after) (known (rest ls)) (λ t l1 after h m. typed_brackets (took class.Open ls e refl) h m)
typing_by end left inner known ls _ e = typed_sound end (suc left) ls

pub typing_sound : (end left : ℕ) (ls : Ahead) → IfRead (read.typing end left ls) (λ t after. IsTyping ls t.atom t.atom_byte t.ty after)
unfolding read.typing
typing_sound end zero ls = tt
typing_sound end (suc left) ls = typing_by end left (read.typing end left) (typing_sound end left) ls (class_at ls) refl

-- ---- annotations

same_shape_is : (s due : Shape) → same_shape s due ≡ true → s ≡ due
unfolding same_shape
same_shape_is shape.Round shape.Round e = refl
same_shape_is shape.Square shape.Square e = refl
same_shape_is shape.Curly shape.Curly e = refl
same_shape_is _ _ e = absurd cc

module _ (end : ℕ) (l : Lexeme) (ls : Ahead) (known : (due : List Shape) → IfRead (read.annotated end due ls) (λ _ after. Annotates due ls after)) where
  closes_by : (due : List Shape) (s : Shape) → bracket_of l ≡ bracket.Closes s → IfRead (read.closes_by due s end (λ others. read.annotated end others ls) (l ∷ ls)) (λ _ after. Annotates due (l ∷ ls) after)
  unfolding bracket_at
  closes_by [] shape.Round e = matched e
  closes_by [] _ e = tt
  closes_by (d ∷ others) s e = elim (or_false (same_shape s d)) [
    | inl t ↦ rw t (then_same (read.annotated end others ls) (λ _ after. Annotates others ls after) (λ _ after. Annotates (d ∷ others) (l ∷ ls) after) (known others)
        (λ _ after h. closes (record { token = l; ahead_is = refl; sort_is = e ∙ ap bracket.Closes (same_shape_is s d t) }) h))
    | inr f ↦ rw f tt
  ]

  annotated_by : (due : List Shape) (b : Bracket) → bracket_of l ≡ b → IfRead (read.annotated_by b end (λ others. read.annotated end others ls) due (l ∷ ls)) (λ _ after. Annotates due (l ∷ ls) after)
  annotated_by due (bracket.Opens s) e = then_same (read.annotated end (s ∷ due) ls) (λ _ after. Annotates (s ∷ due) ls after) (λ _ after. Annotates due (l ∷ ls) after) (known (s ∷ due)) (λ _ after h. opens (record { token = l; ahead_is = refl; sort_is = e }) h)
  annotated_by due (bracket.Closes s) e = closes_by due s e
  annotated_by due bracket.Plain e = then_same (read.annotated end due ls) (λ _ after. Annotates due ls after) (λ _ after. Annotates due (l ∷ ls) after) (known due) (λ _ after h. plain_token (record { token = l; ahead_is = refl; sort_is = e }) h)

annotated_sound : (end : ℕ) (ls : Ahead) (due : List Shape) → IfRead (read.annotated end due ls) (λ _ after. Annotates due ls after)
unfolding read.annotated
annotated_sound end [] due = tt
annotated_sound end (l ∷ ls) due = annotated_by end l ls (annotated_sound end ls) due (bracket_of l) refl

annotation_if : (end : ℕ) (ls : Ahead) (t : Bool) → is_closing (bracket_at ls) ≡ t → IfRead (cond t (Err (read.syntax_at end ls)) (read.annotated end [] ls)) (λ _ after. (is_closing (bracket_at ls) ≡ false) × Annotates [] ls after)
annotation_if end ls true e = tt
annotation_if end ls false e = then_same (read.annotated end [] ls) (λ _ after. Annotates [] ls after) (λ _ after. (is_closing (bracket_at ls) ≡ false) × Annotates [] ls after) (annotated_sound end ls []) (λ _ after h. (e, h))

annotation_sound : (end : ℕ) (ls : Ahead) → IfRead (read.annotation end ls) (λ _ after. (is_closing (bracket_at ls) ≡ false) × Annotates [] ls after)
unfolding read.annotation
annotation_sound end ls = annotation_if end ls (is_closing (bracket_at ls)) refl

-- what comes behind annotations, if there are any
abbrev Behind : Ahead → Ahead → Type 0
Behind ls l1 = (l2 after : Ahead) → Passes CloseRound l1 l2 → Passes Dot l2 after → IsEnding ls after

annotations_sound : (end : ℕ) (ls : Ahead) → IfRead (read.annotations end ls) (λ _ l1. Behind ls l1)
unfolding read.annotations sees rest
annotations_sound end [] = λ l2 after p q. bare p q
annotations_sound end (l ∷ ls) = elim (or_false (is_mark Comma l)) [
  | inl t ↦ rw t (then_same (read.annotation end ls) (λ _ after. (is_closing (bracket_at ls) ≡ false) × Annotates [] ls after) (λ _ l1. Behind (l ∷ ls) l1) (annotation_sound end ls)
      (λ _ l1 h. λ l2 after p q. with_annotations (record { token = l; ahead_is = refl; is_that = t }) h.0 h.1 p q))
  | inr f ↦ rw f (λ l2 after p q. bare p q)
]

pub ended_sound : (end : ℕ) (ls : Ahead) → IfRead (read.ended end ls) (λ _ after. (l1 : Ahead) × Passes CloseRound ls l1 × Passes Dot l1 after)
unfolding read.ended
ended_sound end ls = then_read (read_mark CloseRound end ls) _ (λ _ after. Passes CloseRound ls after) (λ _ after. (l1 : Ahead) × Passes CloseRound ls l1 × Passes Dot l1 after) (mark_sound CloseRound end ls) (λ _ l1 m.
    then_same (read_mark Dot end l1) (λ _ after. Passes Dot l1 after) (λ _ after. (l1 : Ahead) × Passes CloseRound ls l1 × Passes Dot l1 after) (mark_sound Dot end l1) (λ _ after k. (l1, m, k)))

pub ending_sound : (end : ℕ) (ls : Ahead) → IfRead (read.ending end ls) (λ _ after. IsEnding ls after)
unfolding read.ending
ending_sound end ls = then_read (read.annotations end ls) _ (λ _ l1. Behind ls l1) (λ _ after. IsEnding ls after) (annotations_sound end ls) (λ _ l1 h.
    then_same (read.ended end l1) (λ _ after. (l2 : Ahead) × Passes CloseRound l1 l2 × Passes Dot l2 after) (λ _ after. IsEnding ls after) (ended_sound end l1) (λ _ after k. h k.0 after k.1 k.2))

-- ---- includes

-- what names come to behind another
abbrev Further : Ahead → List (List ℕ) → Ahead → Type 0
Further l1 others after = (ls : Ahead) (label : List ℕ) → Says name_of ls label l1 → AreNames ls (label ∷ others) after

named_by : (end : ℕ) (l : Lexeme) (ls : Ahead) → IfRead (read.further_names end ls) (Further ls) → (o : Option (List ℕ)) → name_of l ≡ o
    → IfRead (and_then (read.found o end (l ∷ ls)) (λ label _. and_then (read.further_names end ls) (λ others after. Ok (label ∷ others, after)))) (AreNames (l ∷ ls))
unfolding rest
named_by end l ls known (Some label) e = then_read (read.further_names end ls) _ (Further ls) (AreNames (l ∷ ls)) known (λ others after h. h (l ∷ ls) label (record { token = l; ahead_is = refl; said = e }))
named_by end l ls known None e = tt

further_by : (end : ℕ) (m : Lexeme) (ms : Ahead) → IfRead (read.names end ms) (AreNames ms) → IfRead (cond (is_mark Comma m) (read.names end ms) (Ok ([], m ∷ ms))) (Further (m ∷ ms))
unfolding sees
further_by end m ms known = elim (or_false (is_mark Comma m)) [
  | inl t ↦ rw t (then_same (read.names end ms) (AreNames ms) (Further (m ∷ ms)) known (λ others after k. λ ls label h. next_name h (record { token = m; ahead_is = refl; is_that = t }) k))
  | inr f ↦ rw f (λ ls label h. last_name h f)
]

further_nothing : Further [] [] []
unfolding sees
further_nothing = λ ls label h. last_name h refl

mutual
  unfolding read.names read.said_at

  names_sound : (end : ℕ) (ls : Ahead) → IfRead (read.names end ls) (AreNames ls)
  names_sound end [] = tt
  names_sound end (l ∷ ls) = named_by end l ls (further_sound end ls) (name_of l) refl

  further_sound : (end : ℕ) (ls : Ahead) → IfRead (read.further_names end ls) (Further ls)
  further_sound end [] = further_nothing
  further_sound end (m ∷ ms) = further_by end m ms (names_sound end ms)

-- what is read in the square brackets of an include
abbrev Selected : Ahead → List (List ℕ) → Ahead → Type 0
Selected l2 found after = (ls l1 : Ahead) → Passes Comma ls l1 → Passes OpenSquare l1 l2 → IsSelection ls (Some found) after

some_selected : (end : ℕ) (ls : Ahead) → IfRead (and_then (read.names end ls) (λ found l1. and_then (read_mark CloseSquare end l1) (λ _ after. Ok (found, after)))) (Selected ls)
some_selected end ls = then_read (read.names end ls) _ (AreNames ls) (Selected ls) (names_sound end ls) (λ found l3 h.
    then_read (read_mark CloseSquare end l3) _ (λ _ after. Passes CloseSquare l3 after) (Selected ls) (mark_sound CloseSquare end l3) (λ _ after k. λ l0 l1 p q. some_names p q h k))

selected_sound : (end : ℕ) (ls : Ahead) → IfRead (read.selected end ls) (Selected ls)
unfolding read.selected sees rest
selected_sound end [] = some_selected end []
selected_sound end (l ∷ ls) = elim (or_false (is_mark CloseSquare l)) [
  | inl t ↦ rw t (λ l0 l1 p q. no_names p q (record { token = l; ahead_is = refl; is_that = t }))
  | inr f ↦ rw f (some_selected end (l ∷ ls))
]

pub selection_sound : (end : ℕ) (ls : Ahead) → IfRead (read.selection end ls) (IsSelection ls)
unfolding read.selection sees rest
selection_sound end [] = whole refl
selection_sound end (l ∷ ls) = elim (or_false (is_mark Comma l)) [
  | inl t ↦ rw t (then_read (read_mark OpenSquare end ls) _ (λ _ after. Passes OpenSquare ls after) (IsSelection (l ∷ ls)) (mark_sound OpenSquare end ls) (λ _ l2 m.
      then_read (read.selected end l2) _ (Selected l2) (IsSelection (l ∷ ls)) (selected_sound end l2) (λ found after h. h (l ∷ ls) ls (record { token = l; ahead_is = refl; is_that = t }) m)))
  | inr f ↦ rw f (whole f)
]

included_sound : (end : ℕ) (word : Lexeme) (l1 : Ahead) → keyword_of word ≡ keyword.Include → IfRead (read.included end (byte_of (word ∷ l1)) l1) (IsStatement (word ∷ l1))
unfolding read.included
included_sound end word l1 e =
    then_read (read_mark OpenRound end l1) _ (λ _ after. Passes OpenRound l1 after) (IsStatement (word ∷ l1)) (mark_sound OpenRound end l1) (λ _ l2 m2.
    then_skip (read_guard guard.BehindBracket end l2) _ (IsStatement (word ∷ l1)) (
    then_read (read_said quoted_of end l2) _ (λ file after. Says quoted_of l2 file after) (IsStatement (word ∷ l1)) (says_sound quoted_of end l2) (λ file l3 h3.
    then_read (read.selection end l3) _ (IsSelection l3) (IsStatement (word ∷ l1)) (selection_sound end l3) (λ names l4 h4.
    then_read (read.ended end l4) _ (λ _ after. (l5 : Ahead) × Passes CloseRound l4 l5 × Passes Dot l5 after) (IsStatement (word ∷ l1)) (ended_sound end l4) (λ _ after k.
    include_statement (record { token = word; ahead_is = refl; word_is = e }) m2 h3 h4 k.1 k.2)))))

stated_sound : (end byte : ℕ) (name role : List ℕ) (role_byte : ℕ) (ls l1 : Ahead) → IsHead ls byte name role role_byte l1 → IfRead (read.stated end byte name role role_byte l1) (IsStatement ls)
unfolding read.stated read.typing_statement read.formula_statement
stated_sound end byte name role role_byte ls l1 h = elim (or_false (is_type_role role)) [
  | inl t ↦ rw t (then_read (read.typing end 501 l1) _ (λ t after. IsTyping l1 t.atom t.atom_byte t.ty after) (IsStatement ls) (typing_sound end 501 l1) (λ found l2 k.
      then_read (read.ending end l2) _ (λ _ after. IsEnding l2 after) (IsStatement ls) (ending_sound end l2) (λ _ after m. typing_statement h t k m)))
  | inr f ↦ rw f (then_read (read.formula end 501 l1) _ (IsFormula l1) (IsStatement ls) ((sound end 501).formula_sound l1) (λ tree l2 k.
      then_read (read.ending end l2) _ (λ _ after. IsEnding l2 after) (IsStatement ls) (ending_sound end l2) (λ _ after m. formula_statement h f k m)))
]

headed_sound : (end : ℕ) (thf : Lexeme) (l1 : Ahead) → keyword_of thf ≡ keyword.Thf → IfRead (read.headed end (byte_of (thf ∷ l1)) l1) (IsStatement (thf ∷ l1))
unfolding read.headed
headed_sound end thf l1 e =
    then_read (read_mark OpenRound end l1) _ (λ _ after. Passes OpenRound l1 after) (IsStatement (thf ∷ l1)) (mark_sound OpenRound end l1) (λ _ l2 m2.
    then_skip (read_guard guard.BehindBracket end l2) _ (IsStatement (thf ∷ l1)) (
    then_read (read_said name_of end l2) _ (λ name after. Says name_of l2 name after) (IsStatement (thf ∷ l1)) (says_sound name_of end l2) (λ name l3 h3.
    then_read (read_mark Comma end l3) _ (λ _ after. Passes Comma l3 after) (IsStatement (thf ∷ l1)) (mark_sound Comma end l3) (λ _ l4 m4.
    then_read (read_said lower_of end l4) _ (λ role after. Says lower_of l4 role after) (IsStatement (thf ∷ l1)) (says_sound lower_of end l4) (λ role l5 h5.
    then_read (read_mark Comma end l5) _ (λ _ after. Passes Comma l5 after) (IsStatement (thf ∷ l1)) (mark_sound Comma end l5) (λ _ l6 m6.
    stated_sound end (byte_of (thf ∷ l1)) name role (byte_of l4) (thf ∷ l1) l6 (record {
      l1 = l1;
      l2 = l2;
      l3 = l3;
      l4 = l4;
      l5 = l5;
      thf = thf;
      takes_thf = refl;
      is_thf = e;
      byte_is = refl;
      takes_open = m2;
      says_name = h3;
      takes_comma = m4;
      says_role = h5;
      role_byte_is = refl;
      takes_second_comma = m6;
    })))))))

statement_by : (end : ℕ) (l : Lexeme) (ls : Ahead) (k : Keyword) → keyword_of l ≡ k → IfRead (read.statement_by k end (l ∷ ls)) (IsStatement (l ∷ ls))
unfolding rest
statement_by end l ls keyword.Thf e = headed_sound end l ls e
statement_by end l ls keyword.Include e = included_sound end l ls e
statement_by end l ls keyword.Other e = tt

pub statement_sound : (end : ℕ) (ls : Ahead) → IfRead (read.statement end ls) (IsStatement ls)
unfolding read.statement read.keyword_at
statement_sound end [] = tt
statement_sound end (l ∷ ls) = statement_by end l ls (keyword_of l) refl
