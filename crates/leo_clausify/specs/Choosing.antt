-- The closed term that a choice symbol stands for, and the item of the list for it.
use Rattle.std.specs.Prelude.{ℕ, ◌≡◌, ◌+◌, ◌<◌, ◌≤◌, nat_eq, if◌then◌else◌, List, [], ◌∷◌, ◌++◌, length, map, slice_get, Some}
use Rattle.leo_q0.specs.Terms.{SimpleType}
use Rattle.leo_terms.specs.Contents.{Contents}
use Rattle.leo_terms.specs.Tree.{Tree, variable, bound, symbol, app, lam, logic, absent}
use Rattle.leo_terms.specs.NormalForm.{normal_form}
use Rattle.leo_clause.specs.Arranging.{firsts, occurring, variable_type}
use Rattle.leo_clause.specs.Choices.{Choice, AreChoicesOf, choice_at}
use Rattle.leo_clause.specs.Typed.{IsOver}
use Rattle.leo_kernel.specs.Choosing.{Claim, chosen}
use Rattle.leo_kernel.specs.Symbols.{LacksSymbol}

-- the term under k lambdas, with the variable n as the index of one more lambda around all
abbrev pub indexed : ℕ → ℕ → Tree → Tree
indexed n k (variable m a) = if nat_eq m n then bound k a else variable m a
indexed n k (bound i a) = bound i a
indexed n k (symbol s a) = symbol s a
indexed n k (app f x) = app (indexed n k f) (indexed n k x)
indexed n k (lam a t) = lam a (indexed n (k + 1) t)
indexed n k (logic c x y) = logic c (indexed n k x) (indexed n k y)
indexed n k absent = absent

-- the term as a function of these variables, the first one outermost
abbrev pub function_of : List SimpleType → List ℕ → Tree → Tree
function_of variables [] t = t
function_of variables (n ∷ ns) t = lam (variable_type variables n) (indexed n 0 (function_of variables ns t))

-- the variables of a term, each once, in the order in which they come
abbrev pub variables_of : Tree → List ℕ
variables_of t = firsts nat_eq [] (occurring t)

abbrev pub variable_terms : List SimpleType → List ℕ → List Tree
variable_terms variables ns = map (λ n. variable n (variable_type variables n)) ns

-- the normal form of the chosen term, the closed term that is this as a function of its variables, and these variables
abbrev pub chosen_form : Claim → Tree
chosen_form claim = normal_form (chosen claim)

abbrev pub closed_form : List SimpleType → Claim → Tree
closed_form variables claim = function_of variables (variables_of (chosen_form claim)) (chosen_form claim)

abbrev pub chosen_arguments : List SimpleType → Claim → List Tree
chosen_arguments variables claim = variable_terms variables (variables_of (chosen_form claim))

-- no item before place n stands for the term
abbrev pub LackTerm : ℕ → Tree → List Choice → Type 0
LackTerm n t choices = (m : ℕ) (k : Choice) → m < n → slice_get choices m ≡ Some k → k.term ≡ t → ⊥

-- the item at place n is for the term: the earliest that stands for it, else a new one at the end, with a symbol of its own.
-- Numbers below `known` are those of earlier symbols.
pub data Chooses (known : ℕ) (choices : List Choice) (t : Tree) : List Choice → ℕ → Choice → Type 0 where
  earliest : (n : ℕ) (k : Choice) → slice_get choices n ≡ Some k → k.term ≡ t → LackTerm n t choices → Chooses known choices t choices n k
  added : (k : Choice) → k.term ≡ t → known ≤ k.number → LackTerm (length choices) t choices → ((m : ℕ) (j : Choice) → slice_get choices m ≡ Some j → j.number ≡ k.number → ⊥) → Chooses known choices t (choices ++ k ∷ []) (length choices) k

-- the symbols differ, and each term is closed and has neither the symbol of its own item nor that of a later one
pub record AreChoices (choices : List Choice) : Type 0 where
  pub distinct : (m n : ℕ) (j k : Choice) → slice_get choices m ≡ Some j → slice_get choices n ≡ Some k → j.number ≡ k.number → m ≡ n
  pub closed : (n : ℕ) (k : Choice) → slice_get choices n ≡ Some k → IsOver [] 0 k.term
  pub lacking : (m n : ℕ) (j k : Choice) → slice_get choices m ≡ Some j → slice_get choices n ≡ Some k → m ≤ n → LacksSymbol k.number j.term

-- the list of a bank is such a list, and its numbers are numbers of the bank
pub record AreInOrder (c : Contents) (items : List (ℕ × ℕ)) : Type 0 where
  pub of_bank : AreChoicesOf c items
  pub choices : AreChoices (map (choice_at c) items)
