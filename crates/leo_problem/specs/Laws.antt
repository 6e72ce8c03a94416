-- Laws of problems.
use Rattle.std.specs.Prelude.{◌≡◌, ℕ, List, Option, Some, slice_get, ◌⊎◌}
use Rattle.leo_syntax.specs.declared.tree.Statement.{Statement}
use Rattle.leo_syntax.specs.declared.tree.Statement.TheVariants as statement
use Rattle.leo_problem.specs.declared.refusal.LoadRefusal.{LoadRefusal}
use Rattle.leo_problem.specs.declared.refusal.LoadRefusal.TheVariants.{Refused}
use Rattle.leo_problem.specs.declared.refusal.What.TheVariants as what
use Rattle.leo_problem.specs.Texts.{AreStatements}
use Rattle.leo_problem.specs.Generating.{IsFileName}
use Rattle.leo_problem.specs.Gathering.{folder_by, joined}
use Rattle.leo_problem.specs.Theories.{Answer, says, refused}
use Rattle.leo_problem.specs.Loading.{ProblemOf}

-- a file that may be asked for: the problem's, unless its name stands for a generated text, or one that an include names in such a file, of which the content is told
pub data IsAsked (told : List ℕ → Option (List ℕ)) (folder name : List ℕ) : List ℕ → Type 0 where
  problem_file : IsFileName name → IsAsked told folder name name
  include_in : {file text include : List ℕ} {list : List Statement} {byte include_byte : ℕ} {names : Option (List (List ℕ))} (place : ℕ)
      → IsAsked told folder name file → told file ≡ Some text → AreStatements text list → slice_get list place ≡ Some (statement.Include byte include include_byte names)
      → IsAsked told folder name (joined folder include)

-- the content of each file that may be asked for is told; where the name stands for a generated text none is asked for
abbrev pub AreTold : (List ℕ → Option (List ℕ)) → List ℕ → Option (List ℕ) → Type 0
AreTold told name root = (file : List ℕ) → IsAsked told (folder_by name root) name file → (text : List ℕ) × (told file ≡ Some text)

-- the refusal of a file that could not be read
pub data IsReadFault : LoadRefusal → Type 0 where
  unreadable : {file : List ℕ} {byte : ℕ} → IsReadFault (Refused file byte what.ReadFault)

-- the answer is that a file could not be read
abbrev pub IsUnread : Answer → Type 0
IsUnread (says t) = ⊥
IsUnread (refused r) = IsReadFault r

-- told files say one thing at most, unless one of them cannot be read
abbrev pub OneProblem : Type 0
OneProblem = (told : List ℕ → Option (List ℕ)) (name : List ℕ) (root : Option (List ℕ)) (one other : Answer) → AreTold told name root
    → ProblemOf told name root one → ProblemOf told name root other → ¬ IsUnread other → IsUnread one ⊎ (one ≡ other)
