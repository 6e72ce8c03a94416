-- The book of a run, as contracts see it.
use Rattle.std.specs.Prelude.{ℕ, ◌≡◌, ◌<◌, ◌≤◌, List, [], ◌∷◌, ◌++◌, length, map, Option, Some, None}
use Rattle.leo_terms.specs.Contents.{Extends}
use Rattle.leo_kernel.specs.Steps.{Line, line_at}
use Rattle.leo_kernel.specs.Symbols.{LackSymbol}
use Rattle.leo_problem.specs.declared.loaded.Hyp.{Hyp}
use Rattle.leo_problem.specs.declared.loaded.Problem.{Problem}
use Rattle.leo_problem.specs.Loading.{IsProblem}
use Rattle.leo_derive.specs.Verdicts.{hypotheses_of}
use Rattle.leo_turn.specs.declared.search.Search.{Search}
use Rattle.leo_turn.specs.Searches.{IsSearch}
use Rattle.leo_turn.specs.Turns.{IsFixed, Setting, state_of}
use Rattle.leo_core.specs.declared.event.Cause.{Cause}
use Rattle.leo_core.specs.declared.event.Event.{Event}
use Rattle.leo_core.specs.declared.event.Event.TheVariants as event
use Rattle.leo_core.specs.declared.settings.Settings.{Settings}
use Rattle.leo_core.specs.Limits.{AreSettings}
use Rattle.leo_core.specs.Machine.{Standing, IsRun, Steps}

-- what a book has
pub record Pages : Type 0 where
  pub problem : Problem
  pub settings : Settings
  pub search : Search
  pub journal : List Event
  pub ending : Option Cause

-- where its run stands
abbrev pub standing_of : Pages → Standing
standing_of p = record { state = state_of p.problem.bank p.search; ending = p.ending }

-- the lines that its search has made
abbrev pub lines_of : Pages → List Line
lines_of p = map (line_at p.problem.bank) p.search.lines

-- the problem with a bank that grew
pub record HasGrown (old new : Problem) : Type 0 where
  pub bank : Extends old.bank new.bank
  pub rest : new ≡ record { bank = new.bank; names = old.names; hyps = old.hyps; conjecture = old.conjecture; statements = old.statements }

abbrev pub AreNumbersBelow : ℕ → List (List ℕ × ℕ) → Type 0
AreNumbersBelow n [] = Unit {0}
AreNumbersBelow n (p ∷ ps) = (p.1 < n) × AreNumbersBelow n ps

-- all symbols of the problem, those of its names and those of its hypotheses, have numbers below n
pub record HasSymbolsBelow (n : ℕ) (p : Problem) : Type 0 where
  pub names : AreNumbersBelow n p.names.constants
  pub hypotheses : (s : ℕ) → n ≤ s → LackSymbol s (hypotheses_of p)

-- what all turns have in common
abbrev pub setting_with : ℕ → Settings → Setting
setting_with symbols settings = record { symbols = symbols; depth = settings.depth; weight = settings.weight }

-- the journal is that of a run from the start of this problem, by these settings, to where it stands
pub record IsRunOf (problem : Problem) (settings : Settings) (journal : List Event) (standing : Standing) : Type 0 where
  pub symbols : ℕ
  pub below : HasSymbolsBelow symbols problem
  pub within : symbols ≤ length problem.bank.symbols
  pub run : IsRun (setting_with symbols settings) settings.turns (hypotheses_of problem) journal standing

-- what is true of every book
pub record IsBook (p : Pages) : Type 0 where
  pub problem : IsProblem p.problem
  pub settings : AreSettings p.settings
  pub search : IsSearch p.problem.bank p.search
  pub fixed : IsFixed (map (λ (h : Hyp). h.term) p.problem.hyps) p.settings.depth p.settings.weight p.search
  pub run : IsRunOf p.problem p.settings p.journal (standing_of p)

-- a book at its start: nothing has happened yet
pub record IsNew (problem : Problem) (settings : Settings) (p : Pages) : Type 0 where
  pub problem_grew : HasGrown problem p.problem
  pub settings_are : p.settings ≡ settings
  pub journal_is : p.journal ≡ []
  pub ending_is : p.ending ≡ None

-- a turn came to the book, as its last event
pub record HasTurned (old new : Pages) : Type 0 where
  pub problem_grew : HasGrown old.problem new.problem
  pub settings_are : new.settings ≡ old.settings
  pub ending_is : new.ending ≡ None
  pub given : ℕ
  pub kept : ℕ
  pub journal_is : new.journal ≡ old.journal ++ event.Turn given kept ∷ []
  pub symbols : ℕ
  pub below : HasSymbolsBelow symbols new.problem
  pub step : Steps (setting_with symbols old.settings) old.settings.turns (standing_of old) (event.Turn given kept) (standing_of new)

-- nothing came to the book but terms of its bank: it stands where it stood
pub record IsUnchanged (old new : Pages) : Type 0 where
  pub problem_grew : HasGrown old.problem new.problem
  pub settings_are : new.settings ≡ old.settings
  pub search_is : new.search ≡ old.search
  pub journal_is : new.journal ≡ old.journal
  pub standing_is : standing_of new ≡ standing_of old

-- the book with an end
abbrev pub ended : Pages → Cause → Pages
ended p cause = record { problem = p.problem; settings = p.settings; search = p.search; journal = p.journal ++ event.Ended cause ∷ []; ending = Some cause }
