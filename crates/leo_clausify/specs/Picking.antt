-- How a symbol for a chosen term is found. No public contract speaks of it.
use Rattle.std.specs.Prelude.{ℕ, ◌≡◌, ◌<◌, ◌≤◌, List, [], ◌∷◌, length, map, slice_get, Some}
use Rattle.leo_q0.specs.Terms.{SimpleType}
use Rattle.leo_terms.specs.Contents.{Contents, tree_at}
use Rattle.leo_terms.specs.Tree.{Tree}
use Rattle.leo_clause.specs.Choices.{Choice, AreChoicesOf, choice_at, symbol_of}
use Rattle.leo_clause.specs.Trees.{Literal}
use Rattle.leo_kernel.specs.Choosing.{Claim, claimed, applied_to}
use Rattle.leo_clausify.specs.Choosing.{AreChoices, Chooses, closed_form, chosen_arguments}

-- t is a term of the bank that reads so
pub record IsTree (c : Contents) (t : ℕ) (s : Tree) : Type 0 where
  pub within : t < length c.terms
  pub reads : tree_at c t ≡ s

-- no item has the term t
abbrev pub HasNone : List (ℕ × ℕ) → ℕ → ℕ → Type 0
HasNone items t n = (m : ℕ) (k : ℕ × ℕ) → m < n → slice_get items m ≡ Some k → k.1 ≡ t → ⊥

-- the item at place n is the first that has it
pub record IsFound (items : List (ℕ × ℕ)) (t n : ℕ) : Type 0 where
  pub within : n < length items
  pub item : ℕ × ℕ
  pub stands : slice_get items n ≡ Some item
  pub has : item.1 ≡ t
  pub earlier : HasNone items t n

-- the item at place n is for the term t, the list grew at most, and stays in order
pub record IsPlaced (c d : Contents) (before after : List (ℕ × ℕ)) (t n : ℕ) : Type 0 where
  pub item : ℕ × ℕ
  pub stands : slice_get after n ≡ Some item
  pub of_bank : AreChoicesOf d after
  pub choices : AreChoices (map (choice_at d) after)
  pub chooses : (known : ℕ) → known ≤ length c.symbols → Chooses known (map (choice_at c) before) (tree_at c t) (map (choice_at d) after) n (choice_at d item)

-- the claim is made about the symbol of the item at place n
pub record IsPicked (known : ℕ) (c d : Contents) (before after : List (ℕ × ℕ)) (variables : List SimpleType) (claim : Claim) (n : ℕ) (new : List Literal) : Type 0 where
  pub item : Choice
  pub stands : slice_get (map (choice_at d) after) n ≡ Some item
  pub is : item.term ≡ closed_form variables claim
  pub chooses : Chooses known (map (choice_at c) before) (closed_form variables claim) (map (choice_at d) after) n item
  pub said : new ≡ claimed claim (applied_to (symbol_of item) (chosen_arguments variables claim)) ∷ []
