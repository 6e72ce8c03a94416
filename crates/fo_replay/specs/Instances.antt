-- The words of an instance, read.
use Rattle.std.specs.Prelude.{ℕ, ◌≡◌, ◌++◌, List, [], ◌∷◌, length, map, Some, slice_get}
use Rattle.fo_terms.specs.declared.term.FoNode.{FoNode}
use Rattle.fo_terms.specs.declared.term.FoNode.TheVariants.{Var, Sym}
use Rattle.fo_terms.specs.Terms.{Term, Terms, none, more}
use Rattle.fo_text.specs.declared.problem.FoSym.{FoSym}
use Rattle.fo_text.specs.declared.problem.FoClause.{FoClause}
use Rattle.fo_text.specs.declared.answer.FoWord.{FoWord}
use Rattle.fo_text.specs.declared.answer.FoWord.TheVariants as word
use Rattle.fo_terms.specs.Prefix.{prefix_of_all}
use Rattle.fo_text.specs.Problems.{AreSorts, HaveSorts}
use Rattle.fo_replay.specs.Replays.{node_as_word}

abbrev pub numbers_as_words : List ℕ → List FoWord
numbers_as_words ns = map word.Number ns

-- the word writes the node
abbrev pub IsNodeOf : List FoSym → FoWord → FoNode → Type 0
IsNodeOf syms w (Var v) = w ≡ word.Var v
IsNodeOf syms w (Sym f k) = (w ≡ word.Sym f) × ((y : FoSym) × (slice_get syms f ≡ Some y) × (length y.args ≡ k))

abbrev pub AreNodesOf : List FoSym → List FoWord → List FoNode → Type 0
AreNodesOf syms [] [] = Unit {0}
AreNodesOf syms [] (n ∷ ns) = ⊥
AreNodesOf syms (w ∷ ws) [] = ⊥
AreNodesOf syms (w ∷ ws) (n ∷ ns) = IsNodeOf syms w n × AreNodesOf syms ws ns

-- a count, so many words, and others
abbrev pub AreSplit : List FoWord → List FoWord → List FoWord → Type 0
AreSplit words front back = words ≡ word.Number (length front) ∷ (front ++ back)

abbrev pub as_terms : List Term → Terms
as_terms [] = none
as_terms (t ∷ ts) = more t (as_terms ts)

-- the words are those of sorts and of terms of the sorts that the clause's variables have
pub record IsTyped (sorts : ℕ) (syms : List FoSym) (clause : FoClause) (front back : List FoWord) (vars : List ℕ) (terms : Terms) : Type 0 where
  pub front_is : front ≡ numbers_as_words vars
  pub sorts_exist : AreSorts sorts vars
  pub back_is : back ≡ map node_as_word (prefix_of_all terms)
  pub typed : HaveSorts vars syms terms clause.vars
