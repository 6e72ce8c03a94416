-- Terms that are wanted, read from left to right.
use Rattle.std.specs.Prelude.{ℕ, ◌≡◌, List, [], ◌∷◌, ◌++◌, Bool, Option}
use Rattle.std.specs.List.{AllByRecursion}
use Rattle.fo_terms.specs.declared.term.FoNode.{FoNode}
use Rattle.fo_terms.specs.Terms.{Term}
use Rattle.fo_text.specs.declared.problem.FoSym.{FoSym}
use Rattle.fo_text.specs.Problems.{HasSort}
use Rattle.fo_text.specs.Spellings.{term_text, nodes_text}
use Rattle.fo_text.specs.Pieces.{StandsFirst}
use Rattle.fo_text.specs.Nodes.{Suits, Takes, CanBegin, AreMarks}

abbrev pub IsTerm : List ℕ → List FoSym → Option ℕ → Term → Type 0
IsTerm vars syms want t = (s : ℕ) × Suits want s × HasSort vars syms t s

-- a term with the byte behind it
abbrev pub ended_term : ℕ → Term → List ℕ
ended_term after t = term_text t ++ after ∷ []

-- the byte behind a term, where others are wanted, and where none is
abbrev pub follow : ℕ → List (Option ℕ) → ℕ
follow after [] = after
follow after (w ∷ ws) = 32

-- so far the nodes were read, and these terms are wanted yet
pub record AreRead (vars : List ℕ) (syms : List FoSym) (usable : List Bool) (want : Option ℕ) (after : ℕ) (input : List ℕ) (nodes : List FoNode) (wants : List (Option ℕ)) (rest : List ℕ) : Type 0 where
  pub takes : Takes vars syms (want ∷ []) nodes wants
  pub input_is : input ≡ nodes_text nodes ++ rest
  pub ahead : StandsFirst (follow after wants) rest
  pub can : AreMarks vars syms usable → CanBegin vars syms want → AllByRecursion (CanBegin vars syms) wants
