-- What single steps of gathering give. For private contracts.
use Rattle.std.specs.Prelude.{◌≡◌, ℕ, ◌+◌, List, ◌∷◌, ◌++◌, map, drop, Option}
use Rattle.leo_syntax.specs.declared.tree.Statement.{Statement}
use Rattle.leo_problem.specs.declared.gathered.Counts.{Counts}
use Rattle.leo_problem.specs.declared.gathered.Kept.{Kept}
use Rattle.leo_problem.specs.declared.refusal.LoadRefusal.{LoadRefusal}
use Rattle.leo_problem.specs.Loading.{IsFault}
use Rattle.leo_problem.specs.Places.{Place}
use Rattle.leo_problem.specs.declared.refusal.LoadRefusal.TheVariants.{Refused}
use Rattle.leo_problem.specs.declared.refusal.What.TheVariants as what
use Rattle.leo_problem.specs.Gathering.{Gathers, GathersStatements, Outcome, refused, preceded, joined, IsFull, HasRoom, kept_in}
use Rattle.leo_problem.specs.Generating.{generated_text}
use Rattle.leo_problem.specs.Texts.{AreStatements}

-- the file is refused before its statements are known
pub record IsRefusedFile (told : List ℕ → Option (List ℕ)) (file : List ℕ) (before : Counts) (r : LoadRefusal) : Type 0 where
  pub gathers : (folder : List ℕ) (level : ℕ) → Gathers told folder level file before (refused r)

-- the refusal is no read fault
pub record IsNoFault (r : LoadRefusal) : Type 0 where
  pub fault : (before now : ℕ) (failed : Option (List ℕ)) → IsFault before now failed r

-- with the statement, whatever comes behind it, what was kept becomes that
pub record KeepsMore (told : List ℕ → Option (List ℕ)) (folder : List ℕ) (level : ℕ) (file : List ℕ) (s : Statement) (before between : Counts) (kept now : List Kept) : Type 0 where
  pub more : List Kept
  pub appended : now ≡ kept ++ more
  pub passes : (list : List Statement) (outcome : Outcome) → GathersStatements told folder level file list between outcome
      → GathersStatements told folder level file (s ∷ list) before (preceded more outcome)

-- the statement is refused, whatever comes behind it
pub record IsRefusedStatement (told : List ℕ → Option (List ℕ)) (folder : List ℕ) (level : ℕ) (file : List ℕ) (s : Statement) (before : Counts) (r : LoadRefusal) : Type 0 where
  pub gathers : (list : List Statement) → GathersStatements told folder level file (s ∷ list) before (refused r)

-- the statements before a place gave what is kept, and what comes from there on is to be put behind it
pub record AreKeptUpTo (told : List ℕ → Option (List ℕ)) (folder : List ℕ) (level : ℕ) (file : List ℕ) (list : List Statement) (before now : Counts) (kept : List Kept) (place : ℕ) : Type 0 where
  pub passes : (outcome : Outcome) → GathersStatements told folder level file (drop place list) now outcome
      → GathersStatements told folder level file list before (preceded kept outcome)

-- the file of an include with that name gives that
pub record Includes (told : List ℕ → Option (List ℕ)) (p : Place) (name : List ℕ) (before : Counts) (outcome : Outcome) : Type 0 where
  pub room : HasRoom p.level before
  pub gathers : Gathers told p.folder (p.level + 1) (joined p.folder name) before outcome

-- an include is refused: there is no room for its file, or the file is refused
pub data IsRefusedInclude (told : List ℕ → Option (List ℕ)) (p : Place) (name : List ℕ) (name_byte : ℕ) (before : Counts) : LoadRefusal → Type 0 where
  full : IsFull p.level before → IsRefusedInclude told p name name_byte before (Refused p.file name_byte what.Includes)
  in_file : {r : LoadRefusal} → Includes told p name before (refused r) → IsRefusedInclude told p name name_byte before r

-- these are the statements of the generated text of that number, kept by the name that stands for it
pub record AreOfText (name : List ℕ) (n : ℕ) (ks : List Kept) : Type 0 where
  pub list : List Statement
  pub are_statements : AreStatements (generated_text n) list
  pub all : ks ≡ map (kept_in name) list
