-- The steps of a refutation: the lines of the kept clauses on which the empty clause rests.
use Rattle.std.specs.Prelude.{ℕ, ◌≡◌, ◌+◌, ◌-◌, ◌⊎◌, List, [], ◌∷◌, ◌++◌, length, map, Some, slice_get, slice_index}
use Rattle.fo_terms.specs.Terms.{Terms, variable}
use Rattle.fo_text.specs.declared.problem.FoClause.{FoClause}
use Rattle.fo_text.specs.declared.problem.FoProblem.{FoProblem}
use Rattle.fo_text.specs.declared.answer.FoStep.{FoStep}
use Rattle.fo_text.specs.declared.answer.FoStep.TheVariants.{Inst}
use Rattle.fo_replay.specs.Replays.{instance_words}
use Rattle.fo_super.specs.Members.{Member, resolve, factor, superpose}
use Rattle.fo_super.specs.Conclusions.{images_from, line_count, lines}
use Rattle.fo_super.specs.Turns.{Origin, given, concluded, Search}

-- a clause of which a member is made
abbrev pub IsParent : Origin → ℕ → Type 0
IsParent given n = ⊥
IsParent (concluded (resolve c i) vars terms) n = n ≡ c
IsParent (concluded (factor c i s j r) vars terms) n = n ≡ c
IsParent (concluded (superpose c i s d j r path) vars terms) n = (n ≡ c) ⊎ (n ≡ d)

-- clause e rests on itself, and on the parents of each clause on which it rests
pub data RestsOn (origins : List Origin) (e : ℕ) : ℕ → Type 0 where
  itself : RestsOn origins e e
  on_parent : {n m : ℕ} {o : Origin} → RestsOn origins e n → slice_get origins n ≡ Some o → IsParent o m → RestsOn origins e m

-- how many literals the clause with a number has
abbrev pub literals_of : List FoClause → ℕ → ℕ
literals_of clauses n = slice_index (map (λ c. length c.lits) clauses) n

-- the lines of clauses, of those alone that are needed, in order: `next` is the number of the next line, and `last` has the
-- number of the last line of each clause before
pub data AreLines (IsNeeded : ℕ → Type 0) (literals : ℕ → ℕ) : ℕ → List ℕ → List Origin → List FoStep → Type 0 where
  no_more : {next : ℕ} {last : List ℕ} → AreLines IsNeeded literals next last [] []
  of_text : {next : ℕ} {last : List ℕ} {os : List Origin} {steps : List FoStep} →
      AreLines IsNeeded literals next (last ++ length last ∷ []) os steps → AreLines IsNeeded literals next last (given ∷ os) steps
  left_out : {next : ℕ} {last : List ℕ} {os : List Origin} {steps : List FoStep} {m : Member} {vars : List ℕ} {terms : Terms} → (IsNeeded (length last) → ⊥) →
      AreLines IsNeeded literals next (last ++ 0 ∷ []) os steps → AreLines IsNeeded literals next last (concluded m vars terms ∷ os) steps
  written : {next : ℕ} {last : List ℕ} {os : List Origin} {steps : List FoStep} {m : Member} {vars : List ℕ} {terms : Terms} → IsNeeded (length last) →
      AreLines IsNeeded literals (next + line_count m) (last ++ (next + line_count m - 1) ∷ []) os steps →
      AreLines IsNeeded literals next last (concluded m vars terms ∷ os) (lines (slice_index last) literals next m vars terms ++ steps)

-- the variables themselves, so many
abbrev pub own_variables : ℕ → Terms
own_variables n = images_from (λ v. variable v) 0 n

-- the steps that give clause e, which is empty: an instance of a clause of the text by its own variables, or the lines of
-- all clauses on which it rests
pub data IsRefutation (p : FoProblem) (s : Search) (e : ℕ) : List FoStep → Type 0 where
  of_text : (clause : FoClause) → slice_get s.origins e ≡ Some given → slice_get s.clauses e ≡ Some clause →
      IsRefutation p s e (Inst e (instance_words clause.vars (own_variables (length clause.vars))) ∷ [])
  of_lines : {steps : List FoStep} (m : Member) (vars : List ℕ) (terms : Terms) → slice_get s.origins e ≡ Some (concluded m vars terms) →
      AreLines (RestsOn s.origins e) (literals_of s.clauses) (length p.clauses) [] s.origins steps → IsRefutation p s e steps
