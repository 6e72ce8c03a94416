-- All that is inferred from one clause alone, in order, and the choice symbols that stand then.
use Rattle.std.specs.Prelude.{ℕ, suc, ◌≡◌, true, false, List, [], ◌∷◌, ◌++◌, length, Some}
use Rattle.leo_clause.specs.Choices.{Choice, symbol_of}
use Rattle.leo_clause.specs.Trees.{Literal, ClauseTree}
use Rattle.leo_kernel.specs.Choosing.{claimed, applied_to, difference_in}
use Rattle.leo_kernel.specs.Conclusions.{with_new}
use Rattle.leo_kernel.specs.Shapes.{literal_type}
use Rattle.leo_kernel.specs.Steps.{Line, func_ext}
use Rattle.leo_clausify.specs.Choosing.{Chooses, chosen_arguments, closed_form}
use Rattle.leo_ext.specs.Members.{Member, alone, is_arrow, func_ext_line, resolve_members, factor_members, bool_ext_members, primitive_members, choice_members}

-- `f w ≠ g w` in the place of `f ≠ g`, where w is the symbol of line n with variables of the clause
abbrev pub difference_line : ℕ → ClauseTree → ℕ → Literal → ℕ → Choice → Line
difference_line p c i l n k = record {
  clause = with_new c i [] (claimed (difference_in l) (applied_to (symbol_of k) (chosen_arguments c.variables (difference_in l))) ∷ []);
  rule = func_ext p i (Some n);
}

-- func_ext: the literals, numbered from i on, that are equations of functions or their negations, one after the other. For `f ≠ g`
-- the earliest symbol of the list that stands for the closed term is taken, else a new one at the end of the list.
pub data FuncExts (known p : ℕ) (c : ClauseTree) : ℕ → List Choice → List Literal → List Choice → List Member → Type 0 where
  done : (i : ℕ) (choices : List Choice) → FuncExts known p c i choices [] choices []
  other : (i : ℕ) (choices later : List Choice) (l : Literal) (ls : List Literal) (members : List Member) →
      is_arrow (literal_type l) ≡ false → FuncExts known p c (suc i) choices ls later members → FuncExts known p c i choices (l ∷ ls) later members
  equal_functions : (i : ℕ) (choices later : List Choice) (l : Literal) (ls : List Literal) (members : List Member) →
      is_arrow (literal_type l) ≡ true → l.positive ≡ true → FuncExts known p c (suc i) choices ls later members → FuncExts known p c i choices (l ∷ ls) later (alone (func_ext_line p c i l) ∷ members)
  different_functions : (i : ℕ) (choices middle later : List Choice) (l : Literal) (ls : List Literal) (members : List Member) (n : ℕ) (k : Choice) →
      is_arrow (literal_type l) ≡ true → l.positive ≡ false → Chooses known choices (closed_form c.variables (difference_in l)) middle n k →
      FuncExts known p c (suc i) middle ls later members → FuncExts known p c i choices (l ∷ ls) later (alone (difference_line p c i l n k) ∷ members)

-- the members by resolve, factor, bool_ext, func_ext, primitive and choice, in this order; the clause stands behind the lines that
-- abbreviate the choice symbols
pub record AreUnary (known : ℕ) (choices : List Choice) (c : ClauseTree) (later : List Choice) (members : List Member) : Type 0 where
  pub by_func_ext : List Member
  pub functions : FuncExts known (length later) c 0 choices c.literals later by_func_ext
  pub all : members ≡ resolve_members (length later) c ++ (factor_members (length later) c ++ (bool_ext_members (length later) c ++ (by_func_ext ++ (primitive_members (length later) c ++ choice_members (length later) c))))
