-- The leaves of a clause: the clauses in which nothing can be reduced any more, in order.
use Rattle.std.specs.Prelude.{ℕ, suc, ◌≡◌, ◌-◌, ◌<◌, List, [], ◌∷◌, ◌++◌, length, map, slice_get, Some}
use Rattle.leo_q0.specs.Terms.{SimpleType}
use Rattle.leo_terms.specs.NormalForm.{normal_form}
use Rattle.leo_clause.specs.declared.record.LogicKind.{LogicKind}
use Rattle.leo_clause.specs.Arranging.{arranged}
use Rattle.leo_clause.specs.Choices.{Choice, symbol_of}
use Rattle.leo_clause.specs.Trees.{Literal, ClauseTree}
use Rattle.leo_kernel.specs.Choosing.{Claim, Claims, claimed, applied_to}
use Rattle.leo_kernel.specs.Conclusions.{with_new}
use Rattle.leo_kernel.specs.Rows.{TakesApart}
use Rattle.leo_clausify.specs.Forms.{Form, turn, omit, apart, no_form, one_form, two_forms, forms_of}
use Rattle.leo_clausify.specs.Choosing.{closed_form, chosen_arguments, Chooses}

-- the normal form of a literal, and when one is in normal form
abbrev pub normal_literal : Literal → Literal
normal_literal l = record { positive = l.positive; left = normal_form l.left; right = normal_form l.right }

abbrev pub AreNormal : List Literal → Type 0
AreNormal [] = Unit {0}
AreNormal (l ∷ ls) = (normal_form l.left ≡ l.left) × (normal_form l.right ≡ l.right) × AreNormal ls

abbrev pub turned : Literal → Literal
turned l = record { positive = l.positive; left = l.right; right = l.left }

-- the clause with literal i in this form, and the choice symbols that stand then
pub data Becomes (known : ℕ) (choices : List Choice) (c : ClauseTree) (i : ℕ) (l : Literal) : Form → List Choice → ClauseTree → Type 0 where
  turns : Becomes known choices c i l turn choices (with_new c i [] (turned l ∷ []))
  omits : Becomes known choices c i l omit choices (with_new c i [] [])
  takes_apart : (kind : LogicKind) (fresh : List SimpleType) (new : List Literal) → TakesApart (length c.variables) kind l fresh new → Becomes known choices c i l (apart kind) choices (with_new c i fresh (map normal_literal new))
  chooses : (kind : LogicKind) (claim : Claim) (later : List Choice) (n : ℕ) (k : Choice) → Claims kind l claim → Chooses known choices (closed_form c.variables claim) later n k →
      Becomes known choices c i l (apart kind) later (with_new c i [] (normal_literal (claimed claim (applied_to (symbol_of k) (chosen_arguments c.variables claim))) ∷ []))

-- nothing can be reduced
abbrev pub AreReduced : List Literal → Type 0
AreReduced [] = Unit {0}
AreReduced (l ∷ ls) = (forms_of l ≡ no_form) × AreReduced ls

-- literal i is the first that can be reduced
pub record IsFirst (c : ClauseTree) (i : ℕ) (l : Literal) : Type 0 where
  pub stands : slice_get c.literals i ≡ Some l
  pub earlier : (j : ℕ) (k : Literal) → j < i → slice_get c.literals j ≡ Some k → forms_of k ≡ no_form

-- these are the leaves, at most `room`, and the choice symbols that stand after them: of the first literal that can be
-- reduced, the first form is split to the end before the second
pub data Splits (known : ℕ) : ℕ → List Choice → ClauseTree → List Choice → List ClauseTree → Type 0 where
  leaf : (room : ℕ) (choices : List Choice) (c : ClauseTree) → AreReduced c.literals → Splits known (suc room) choices c choices (arranged c ∷ [])
  one : (room : ℕ) (choices middle later : List Choice) (c d : ClauseTree) (i : ℕ) (l : Literal) (f : Form) (leaves : List ClauseTree) →
      IsFirst c i l → forms_of l ≡ one_form f → Becomes known choices c i l f middle d → Splits known room middle d later leaves → Splits known room choices c later leaves
  two : (room : ℕ) (choices first middle second later : List Choice) (c d e : ClauseTree) (i : ℕ) (l : Literal) (f g : Form) (leaves more : List ClauseTree) →
      IsFirst c i l → forms_of l ≡ two_forms f g → Becomes known choices c i l f first d → Splits known room first d middle leaves → Becomes known middle c i l g second e → Splits known (room - length leaves) second e later more → Splits known room choices c later (leaves ++ more)

-- there are more than `room` leaves
pub data Overflows (known : ℕ) : ℕ → List Choice → ClauseTree → Type 0 where
  too_many : (choices : List Choice) (c : ClauseTree) → AreReduced c.literals → Overflows known 0 choices c
  of_one : (room : ℕ) (choices middle : List Choice) (c d : ClauseTree) (i : ℕ) (l : Literal) (f : Form) →
      IsFirst c i l → forms_of l ≡ one_form f → Becomes known choices c i l f middle d → Overflows known room middle d → Overflows known room choices c
  first_of_two : (room : ℕ) (choices first : List Choice) (c d : ClauseTree) (i : ℕ) (l : Literal) (f g : Form) →
      IsFirst c i l → forms_of l ≡ two_forms f g → Becomes known choices c i l f first d → Overflows known room first d → Overflows known room choices c
  second_of_two : (room : ℕ) (choices first middle second : List Choice) (c d e : ClauseTree) (i : ℕ) (l : Literal) (f g : Form) (leaves : List ClauseTree) →
      IsFirst c i l → forms_of l ≡ two_forms f g → Becomes known choices c i l f first d → Splits known room first d middle leaves → Becomes known middle c i l g second e → Overflows known (room - length leaves) second e → Overflows known room choices c
