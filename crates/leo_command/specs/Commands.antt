-- The commands of the programs, and what their words ask for.
use Rattle.std.specs.String.{string_bytes}
use Rattle.std.specs.Prelude.{ℕ, ◌≡◌, ◌≤◌, ◌⊎◌, true, List, [], ◌∷◌, Some, option_map, IsSomeAnd, Result, Ok, Err, codes, decimal}
use Rattle.clap.specs.Words.{App, Rule, Text, Row, Kinds, IsAmong, fault_of, first_of, found_of, rows_of, matches_of, new_app, new_rule, with_rule}
use Rattle.clap.specs.Simple.{on_top}
use Rattle.clap.specs.declared.builder.action.ArgAction.TheVariants.{Set}
use Rattle.clap.specs.declared.error.kind.ErrorKind.{ErrorKind}
use Rattle.clap.specs.declared.error.kind.ErrorKind.TheVariants.{DisplayHelp, DisplayVersion, OutOfMemory}
use Rattle.leo_command.specs.declared.asked.Asked.{Asked}
use Rattle.leo_command.specs.declared.asked.Asked.TheVariants.{Work, Print}
use Rattle.leo_command.specs.declared.asked.CommandRefusal.{CommandRefusal}
use Rattle.leo_command.specs.declared.asked.CommandRefusal.TheVariants.{Usage, Memory}
use Rattle.leo_command.specs.declared.leo3.Search.{Search}
use Rattle.leo_command.specs.declared.leo3.Settings.{Settings}
use Rattle.leo_command.specs.declared.check.Check.{Check}
use Rattle.leo_command.specs.declared.parsing.Parse.{Parse}
use Rattle.leo_command.specs.declared.parsing.Parse.TheVariants.{Matches}
use Rattle.leo_command.specs.declared.parsing.Parse.TheVariants as parse

-- a word that must be there, with no name before it
abbrev pub word_rule : Text → Rule
word_rule id = record (new_rule id) { action = Some Set; value_names = 1; required = true }

-- an option with one value
abbrev pub option_rule : Text → Rule
option_rule id = record (new_rule id) { long = Some id; action = Some Set; value_names = 1 }

-- an option with one value, which is `default` where the option is not given
abbrev pub default_rule : Text → Text → Rule
default_rule id default = record (option_rule id) { defaults = default ∷ [] }

-- a program with `--help` and `--version`
abbrev pub program : Text → App
program name = on_top (λ s. record s { has_version = true }) (new_app name)

-- `leo3 [--turns N] [--every N] [--children N] [--child PROGRAM] [--depth N] [--weight N] [--patience N] [--root DIR] FILE`
abbrev pub leo3_app : App
leo3_app =
    let turns = with_rule (program (codes "leo3")) (default_rule (codes "turns") (codes "20000")) in
    let every = with_rule turns (default_rule (codes "every") (codes "200")) in
    let children = with_rule every (default_rule (codes "children") (codes "0")) in
    let child = with_rule children (default_rule (codes "child") (codes "leo3_fo")) in
    let depth = with_rule child (default_rule (codes "depth") (codes "4")) in
    let weight = with_rule depth (default_rule (codes "weight") (codes "256")) in
    let patience = with_rule weight (default_rule (codes "patience") (codes "10000")) in
    let root = with_rule patience (option_rule (codes "root")) in
    with_rule root (word_rule (codes "file"))

-- `leo3_check [--root DIR] FILE PROOF`
abbrev pub check_app : App
check_app =
    let root = with_rule (program (codes "leo3_check")) (option_rule (codes "root")) in
    with_rule (with_rule root (word_rule (codes "file"))) (word_rule (codes "proof"))

-- the word is a number from `least` to `most`, in decimal digits without a sign or a leading zero
pub record IsNumberWord (word : Text) (least most n : ℕ) : Type 0 where
  pub word_is : word ≡ decimal n
  pub from : least ≤ n
  pub to : n ≤ most

-- the option's value is such a number
abbrev pub IsNumberOf : List Row → Text → ℕ → ℕ → ℕ → Type 0
IsNumberOf rows id least most n = IsSomeAnd (first_of id rows) (λ word. IsNumberWord word least most n)

-- the settings of a search, as its options name them
pub record AreSettings (rows : List Row) (s : Settings) : Type 0 where
  pub turns : IsNumberOf rows (codes "turns") 1 1000000 s.turns
  pub every : IsNumberOf rows (codes "every") 10 100000 s.every
  pub children : IsNumberOf rows (codes "children") 0 8 s.children
  pub depth : IsNumberOf rows (codes "depth") 0 6 s.depth
  pub weight : IsNumberOf rows (codes "weight") 1 512 s.weight
  pub patience : IsNumberOf rows (codes "patience") 1 100000 s.patience

-- the search that the options and the file name
pub record IsSearchIn (rows : List Row) (s : Search) : Type 0 where
  pub file : first_of (codes "file") rows ≡ Some (string_bytes s.file)
  pub root : first_of (codes "root") rows ≡ option_map string_bytes s.root
  pub child : first_of (codes "child") rows ≡ Some (string_bytes s.child)
  pub settings : AreSettings rows s.settings

-- the check that the options and the files name
pub record IsCheckIn (rows : List Row) (c : Check) : Type 0 where
  pub file : first_of (codes "file") rows ≡ Some (string_bytes c.file)
  pub proof : first_of (codes "proof") rows ≡ Some (string_bytes c.proof)
  pub root : first_of (codes "root") rows ≡ option_map string_bytes c.root

-- the command takes the words, and what it finds in them is this
pub record IsAsked {T : Type 0} (app : App) (IsIn : List Row → T → Type 0) (words : List Text) (work : T) : Type 0 where
  pub taken : fault_of app words ≡ []
  pub found : IsIn (matches_of app words) work

-- what the words of `leo3` ask for, and those of `leo3_check`
abbrev pub IsSearch : List Text → Search → Type 0
IsSearch = IsAsked leo3_app IsSearchIn

abbrev pub IsCheck : List Text → Check → Type 0
IsCheck = IsAsked check_app IsCheckIn

-- what is found, or that there is nothing of the kind; memory may run out
abbrev pub IsTaken : {T : Type 0} → (T → Type 0) → Result T CommandRefusal → Type 0
IsTaken Is (Ok work) = Is work
IsTaken {T} Is (Err Usage) = (work : T) → ¬ Is work
IsTaken Is (Err Memory) = Unit {0}

-- `--help` or `--version` is met before a mistake
abbrev pub IsRequest : Kinds → Type 0
IsRequest kinds = IsAmong DisplayHelp kinds ⊎ IsAmong DisplayVersion kinds

-- a mistake is met before `--help` and `--version`
pub record IsMistake (kinds : Kinds) : Type 0 where
  pub kind : ErrorKind
  pub among : IsAmong kind kinds
  pub no_help : ¬ (kind ≡ DisplayHelp)
  pub no_version : ¬ (kind ≡ DisplayVersion)

-- what a parse of a simple command gives: its matches, or a text that the words ask for
abbrev pub IsParse : App → List Text → Result Parse CommandRefusal → Type 0
IsParse app words (Ok (Matches matches)) = (fault_of app words ≡ []) × (rows_of (found_of matches) ≡ matches_of app words)
IsParse app words (Ok (parse.Text text)) = IsRequest (fault_of app words)
IsParse app words (Err Usage) = IsMistake (fault_of app words)
IsParse app words (Err Memory) = Unit {0}

-- what an error of this kind comes to
abbrev pub IsRefused : ErrorKind → Result Parse CommandRefusal → Type 0
IsRefused kind (Ok (Matches matches)) = ⊥
IsRefused kind (Ok (parse.Text text)) = (kind ≡ DisplayHelp) ⊎ (kind ≡ DisplayVersion)
IsRefused kind (Err Usage) = ¬ (kind ≡ DisplayHelp) × ¬ (kind ≡ DisplayVersion) × ¬ (kind ≡ OutOfMemory)
IsRefused kind (Err Memory) = Unit {0}

-- the answer to the words of a command: what they ask for, or a text that they ask for, or that they ask for nothing, by a
-- mistake in them or by a number out of its range; memory may run out
abbrev pub IsAskedOf : {T : Type 0} → App → (List Row → T → Type 0) → List Text → Result (Asked T) CommandRefusal → Type 0
IsAskedOf app IsIn words (Ok (Work work)) = IsAsked app IsIn words work
IsAskedOf app IsIn words (Ok (Print text)) = IsRequest (fault_of app words)
IsAskedOf {T} app IsIn words (Err Usage) = ((work : T) → ¬ IsAsked app IsIn words work) × (IsMistake (fault_of app words) ⊎ (fault_of app words ≡ []))
IsAskedOf app IsIn words (Err Memory) = Unit {0}
