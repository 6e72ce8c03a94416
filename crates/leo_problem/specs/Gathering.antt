-- The files of a problem and the statements that are kept of them: the statements of an include stand at its place.
use Rattle.std.specs.Prelude.{◌≡◌, ℕ, ◌+◌, ◌<◌, ◌≤◌, Bool, true, false, List, [], ◌∷◌, ◌++◌, length, map, filter, ◌==◌, Option, Some, None, IfSome, ◌⊎◌, if◌then◌else◌}
use Rattle.std.specs.List.{list_any}
use Rattle.std.specs.Str.{bytes_eq}
use Rattle.leo_syntax.specs.declared.tree.Statement.{Statement}
use Rattle.leo_syntax.specs.declared.tree.Statement.TheVariants as statement
use Rattle.leo_problem.specs.declared.gathered.Counts.{Counts}
use Rattle.leo_problem.specs.declared.gathered.Kept.{Kept}
use Rattle.leo_problem.specs.declared.refusal.LoadRefusal.{LoadRefusal}
use Rattle.leo_problem.specs.declared.refusal.LoadRefusal.TheVariants.{Refused}
use Rattle.leo_problem.specs.declared.refusal.What.TheVariants as what
use Rattle.leo_problem.specs.Limits.{room_for}
use Rattle.leo_problem.specs.Texts.{AreStatements, RefusesText}
use Rattle.leo_problem.specs.Generating.{IsGenerator, IsFileName, generated_text}

-- ---- names of files

-- the part of a name up to its last slash
abbrev pub folder_of : List ℕ → List ℕ
folder_of [] = []
folder_of (b ∷ bs) = if list_any (λ x. x == 47) (b ∷ bs) then b ∷ folder_of bs else []

-- where includes are looked for: in the root if there is one, else in the folder of the problem's file
abbrev pub folder_by : List ℕ → Option (List ℕ) → List ℕ
folder_by name None = folder_of name
folder_by name (Some root) = root ++ 47 ∷ []

abbrev pub begins_with_slash : List ℕ → Bool
begins_with_slash [] = false
begins_with_slash (b ∷ bs) = b == 47

-- by which name an include's file is asked for
abbrev pub joined : List ℕ → List ℕ → List ℕ
joined folder name = if begins_with_slash name then name else folder ++ name

-- ---- limits

-- nothing is read yet
abbrev pub nothing_read : Counts
nothing_read = record { files = 0; bytes = 0 }

-- the counts with one more file
abbrev pub with_file : Counts → List ℕ → Counts
with_file c text = record { files = c.files + 1; bytes = c.bytes + length text }

-- there are 64 files, or a file on the eighth level of includes: none may be included there
abbrev pub IsFull : ℕ → Counts → Type 0
IsFull level c = (8 ≤ level) ⊎ (64 ≤ c.files)

abbrev pub HasRoom : ℕ → Counts → Type 0
HasRoom level c = (level < 8) × (c.files < 64)

-- ---- what is kept

-- the name of a statement
abbrev pub name_of : Statement → List ℕ
name_of (statement.Formula byte name role role_byte tree) = name
name_of (statement.Typing byte name atom atom_byte ty) = name
name_of (statement.Include byte file file_byte names) = []

abbrev pub is_include : Statement → Bool
is_include (statement.Include byte file file_byte names) = true
is_include _ = false

abbrev pub is_among : List ℕ → List (List ℕ) → Bool
is_among name names = list_any (bytes_eq name) names

-- whether an include with that list of names, if it has one, keeps a statement
abbrev pub is_selected : Option (List (List ℕ)) → Kept → Bool
is_selected None k = true
is_selected (Some names) k = is_among (name_of k.statement) names

abbrev pub selected : Option (List (List ℕ)) → List Kept → List Kept
selected names ks = filter (is_selected names) ks

-- ---- the files in reading order

-- the content of a file as it was read: what is told of it, and within the limits
pub record IsContent (told : Option (List ℕ)) (before : Counts) (text : List ℕ) : Type 0 where
  pub is_told : IfSome told (λ whole. text ≡ whole)
  pub fits : length text ≤ room_for before.bytes

-- the statements that are kept, and what was read; or the first refusal
pub data Outcome : Type 0 where
  gathered : List Kept → Counts → Outcome
  refused : LoadRefusal → Outcome

-- with statements in front
abbrev pub preceded : List Kept → Outcome → Outcome
preceded ks (gathered more c) = gathered (ks ++ more) c
preceded ks (refused r) = refused r

mutual
  -- what a file gives that stands so many levels of includes below the problem's file. Any file may fail to be read.
  pub data Gathers (told : List ℕ → Option (List ℕ)) (folder : List ℕ) : ℕ → List ℕ → Counts → Outcome → Type 0 where
    unread : {level : ℕ} {file : List ℕ} {before : Counts} → Gathers told folder level file before (refused (Refused file 0 what.ReadFault))
    too_large : {level : ℕ} {file : List ℕ} {before : Counts} → IfSome (told file) (λ whole. room_for before.bytes < length whole)
        → Gathers told folder level file before (refused (Refused file 0 what.Large))
    no_statements : {level : ℕ} {file text : List ℕ} {before : Counts} {r : LoadRefusal} → IsContent (told file) before text → RefusesText file text r
        → Gathers told folder level file before (refused r)
    statements : {level : ℕ} {file text : List ℕ} {before : Counts} {list : List Statement} {outcome : Outcome} → IsContent (told file) before text → AreStatements text list
        → GathersStatements told folder level file list (with_file before text) outcome → Gathers told folder level file before outcome

  -- what the statements of a file give, one after the other
  pub data GathersStatements (told : List ℕ → Option (List ℕ)) (folder : List ℕ) : ℕ → List ℕ → List Statement → Counts → Outcome → Type 0 where
    no_more : {level : ℕ} {file : List ℕ} {before : Counts} → GathersStatements told folder level file [] before (gathered [] before)
    kept : {level : ℕ} {file : List ℕ} {s : Statement} {list : List Statement} {before : Counts} {outcome : Outcome} → is_include s ≡ false
        → GathersStatements told folder level file list before outcome
        → GathersStatements told folder level file (s ∷ list) before (preceded (record { file = file; statement = s } ∷ []) outcome)
    too_many : {level byte name_byte : ℕ} {file name : List ℕ} {names : Option (List (List ℕ))} {list : List Statement} {before : Counts} → IsFull level before
        → GathersStatements told folder level file (statement.Include byte name name_byte names ∷ list) before (refused (Refused file name_byte what.Includes))
    refused_include : {level byte name_byte : ℕ} {file name : List ℕ} {names : Option (List (List ℕ))} {list : List Statement} {before : Counts} {r : LoadRefusal} → HasRoom level before
        → Gathers told folder (level + 1) (joined folder name) before (refused r)
        → GathersStatements told folder level file (statement.Include byte name name_byte names ∷ list) before (refused r)
    included : {level byte name_byte : ℕ} {file name : List ℕ} {names : Option (List (List ℕ))} {list : List Statement} {before between : Counts} {ks : List Kept} {outcome : Outcome} → HasRoom level before
        → Gathers told folder (level + 1) (joined folder name) before (gathered ks between)
        → GathersStatements told folder level file list between outcome
        → GathersStatements told folder level file (statement.Include byte name name_byte names ∷ list) before (preceded (selected names ks) outcome)

-- ---- the statements of a problem

-- the statement as it is kept of the file of that name
abbrev pub kept_in : List ℕ → Statement → Kept
kept_in file s = record { file = file; statement = s }

-- what a name gives: its file, with the files that are included, or the generated text for which it stands. Of such a text each statement is kept, and no file is asked for.
pub data GathersProblem (told : List ℕ → Option (List ℕ)) (name : List ℕ) (root : Option (List ℕ)) : Outcome → Type 0 where
  of_file : {outcome : Outcome} → IsFileName name → Gathers told (folder_by name root) 0 name nothing_read outcome → GathersProblem told name root outcome
  refused_text : {n : ℕ} {r : LoadRefusal} → IsGenerator name n → RefusesText name (generated_text n) r → GathersProblem told name root (refused r)
  of_text : {n : ℕ} {list : List Statement} → IsGenerator name n → AreStatements (generated_text n) list
      → GathersProblem told name root (gathered (map (kept_in name) list) (with_file nothing_read (generated_text n)))
