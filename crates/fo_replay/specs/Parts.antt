-- What parts of a replay come to.
use Rattle.std.specs.Prelude.{ℕ, ◌≡◌, ◌+◌, Some, None, List, [], ◌∷◌, ◌++◌, length, map, slice_get, slice_set, remove}
use Rattle.fo_terms.specs.declared.term.FoNode.{FoNode}
use Rattle.fo_terms.specs.declared.term.FoNode.TheVariants.{Var, Sym}
use Rattle.fo_terms.specs.Terms.{Term, variable}
use Rattle.fo_terms.specs.Prefix.{prefix}
use Rattle.fo_terms.specs.Substitutions.{Substitution}
use Rattle.fo_text.specs.declared.problem.FoSym.{FoSym}
use Rattle.fo_text.specs.Nodes.{Takes}
use Rattle.fo_text.specs.declared.problem.FoLit.{FoLit}
use Rattle.fo_text.specs.declared.answer.FoSide.{FoSide}
use Rattle.fo_text.specs.declared.problem.FoClause.{FoClause}
use Rattle.fo_replay.specs.Replays.{moved, near, far, with_near, differ, at_path, replaced, HaveOneSort}

-- a variable is renumbered after so many others
abbrev pub shift : ℕ → Substitution
shift n v = variable (n + v)

-- the nodes of what a substitution makes of a node
abbrev pub image_nodes : Substitution → FoNode → List FoNode
image_nodes s (Var v) = prefix (s v)
image_nodes s (Sym f k) = Sym f k ∷ []

-- the nodes of the term at a path stand from one place up to another
pub record StandsAt (whole : Term) (path : List ℕ) (start end : ℕ) : Type 0 where
  pub term : Term
  pub front : List FoNode
  pub back : List FoNode
  pub term_at : at_path whole path ≡ Some term
  pub nodes : prefix whole ≡ front ++ (prefix term ++ back)
  pub start_is : length front ≡ start
  pub end_is : length front + length (prefix term) ≡ end
  pub others : (u : Term) → prefix (replaced whole path u) ≡ front ++ (prefix u ++ back)

-- the nodes are those of terms of these sorts
abbrev pub Fill : List ℕ → List FoSym → List ℕ → List FoNode → Type 0
Fill vars syms wants nodes = Takes vars syms (map Some wants) nodes []

-- an argument of a term, in its nodes
pub record IsDown (t : Term) (back nodes : List FoNode) (n : ℕ) (rest : List FoNode) : Type 0 where
  pub term : Term
  pub front : List FoNode
  pub behind : List FoNode
  pub rest_is : rest ≡ prefix term ++ behind
  pub nodes_are : nodes ≡ front ++ rest
  pub at : (ns : List ℕ) → at_path t (n ∷ ns) ≡ at_path term ns
  pub put : (ns : List ℕ) (u : Term) → prefix (replaced t (n ∷ ns) u) ++ back ≡ front ++ (prefix (replaced term ns u) ++ behind)

-- the term at the front has no such argument
abbrev pub HasNone : List FoNode → ℕ → Type 0
HasNone nodes n = (t : Term) (back : List FoNode) (ns : List ℕ) → nodes ≡ prefix t ++ back → at_path t (n ∷ ns) ≡ None

-- it has, and its nodes are there
abbrev pub IsArgument : List FoNode → ℕ → List FoNode → Type 0
IsArgument nodes n rest = (t : Term) (back : List FoNode) → nodes ≡ prefix t ++ back → IsDown t back nodes n rest

-- an equation was applied at a path in a literal: that literal, and the denial that comes last
pub record IsRewritten (syms : List FoSym) (vars : List ℕ) (literal : FoLit) (side : FoSide) (path : List ℕ) (equation : FoLit) (equation_side : FoSide) (new last : FoLit) : Type 0 where
  pub term : Term
  pub term_at : at_path (near side literal) path ≡ Some term
  pub sort : HaveOneSort vars syms (near equation_side equation) term
  pub new_is : new ≡ with_near side (replaced (near side literal) path (far equation_side equation)) literal
  pub last_is : last ≡ differ (near equation_side equation) term

-- from a positive literal of one clause into a literal of another
pub record IsFromInto (syms : List FoSym) (giver : FoClause) (equation : FoLit) (i : ℕ) (side : FoSide) (receiver : FoClause) (j : ℕ) (place_side : FoSide) (path : List ℕ) (conclusion : FoClause) : Type 0 where
  pub literal : FoLit
  pub new : FoLit
  pub last : FoLit
  pub literal_at : slice_get (moved (length giver.vars) receiver) j ≡ Some literal
  pub rewritten : IsRewritten syms (giver.vars ++ receiver.vars) literal place_side path equation side new last
  pub is : conclusion ≡ record { vars = giver.vars ++ receiver.vars; lits = remove giver.lits i ++ (slice_set (moved (length giver.vars) receiver) j new ++ last ∷ []) }
