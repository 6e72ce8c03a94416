-- The node at the front of an input, sought among all that may stand there.
use Rattle.std.specs.Prelude.{ℕ, ◌≡◌, ◌≤◌, ◌⊎◌, Bool, List, ◌∷◌, ◌++◌, length, Option}
use Rattle.fo_terms.specs.declared.term.FoNode.{FoNode}
use Rattle.fo_text.specs.declared.problem.FoSym.{FoSym}
use Rattle.fo_text.specs.declared.nodes.Found.{Found}
use Rattle.fo_text.specs.declared.nodes.Found.TheVariants.{Whole, Part}
use Rattle.fo_text.specs.Words.{space}
use Rattle.fo_text.specs.Spellings.{node_word}
use Rattle.fo_text.specs.Pieces.{common, StandsFirst}
use Rattle.fo_text.specs.Nodes.{IsCandidate, StandsAt, node_end, spaced_node}

-- the node stands at the front, and the byte behind it is as it is to be
pub record IsAhead (after : ℕ) (input : List ℕ) (n : FoNode) (rest : List ℕ) : Type 0 where
  pub input_is : input ≡ space ∷ (node_word n ++ rest)
  pub ended : StandsFirst (node_end after n) rest

-- a node that the input does not begin with has so many bytes in common with it at most
pub record IsShort (input word : List ℕ) (most : ℕ) : Type 0 where
  pub few : common input word ≤ most
  pub short : common input word ≡ length word → ⊥

-- of the candidates at some numbers, the input begins with none, and that is what it has in common with them at most
pub record IsBest (vars : List ℕ) (syms : List FoSym) (usable : List Bool) (want : Option ℕ) (after : ℕ) (input : List ℕ) (AtOne : ℕ → Type 0) (best : ℕ) : Type 0 where
  pub short : (n : FoNode) (at : ℕ) → AtOne at → StandsAt vars at n → IsCandidate vars syms usable want n → IsShort input (spaced_node after n) best
  pub attained : (best ≡ 0) ⊎ ((n : FoNode) × IsCandidate vars syms usable want n × (best ≡ common input (spaced_node after n)))

-- what comparing with one candidate comes to
abbrev pub IsFound : List ℕ → List FoSym → List Bool → Option ℕ → ℕ → List ℕ → ℕ → Found → Type 0
IsFound vars syms usable want after input at (Whole n len) = IsCandidate vars syms usable want n × (len ≡ length (spaced_node after n)) × (common input (spaced_node after n) ≡ length (spaced_node after n))
IsFound vars syms usable want after input at (Part count) = IsBest vars syms usable want after input (λ other. other ≡ at) count
