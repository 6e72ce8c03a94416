-- The pieces of an answer's text as they are read.
use Rattle.std.specs.Prelude.{ℕ, ◌≡◌, ◌⊎◌, Bool, Option, Some, None, List, [], ◌∷◌, ◌++◌, if◌then◌else◌}
use Rattle.std.specs.List.{AllByRecursion}
use Rattle.fo_text.specs.declared.answer.FoStep.{FoStep}
use Rattle.fo_text.specs.declared.lines.LineKind.{LineKind}
use Rattle.fo_text.specs.declared.lines.LineKind.TheVariants.{Instance, Paramodulation, Factoring, Dropping, Finish}
use Rattle.fo_text.specs.declared.lines.FrontKind.{FrontKind}
use Rattle.fo_text.specs.declared.lines.FrontKind.TheVariants.{Beat, GivingUp, Refutation}
use Rattle.fo_text.specs.declared.lines.LiteralSide.{LiteralSide}
use Rattle.fo_text.specs.Answers.{IsSmall, IsStep}
use Rattle.fo_text.specs.AnswerSpellings.{inst_word, para_word, factor_word, drop_word, finish_word, beat_word, gave_up_word, refuted_word, beats_text, step_text, place_text}

-- the byte behind a value of a line: a separator, or the line's end
abbrev pub IsEndByte : ℕ → ℕ → Type 0
IsEndByte separator b = (b ≡ separator) ⊎ (b ≡ 10)

-- a value with such a byte behind it
abbrev pub IsEnded : {X : Type 0} → ℕ → (X → Type 0) → X × ℕ → Type 0
IsEnded separator IsX w = IsX w.0 × IsEndByte separator w.1

abbrev pub ended_text : {X : Type 0} → (X → List ℕ) → X × ℕ → List ℕ
ended_text text w = text w.0 ++ w.1 ∷ []

-- one of some words
abbrev pub IsKind : {T : Type 0} → T → Type 0
IsKind t = Unit {0}

abbrev pub line_word : LineKind → List ℕ
line_word Instance = inst_word
line_word Paramodulation = para_word
line_word Factoring = factor_word
line_word Dropping = drop_word
line_word Finish = finish_word

abbrev pub front_word : FrontKind → List ℕ
front_word Beat = beat_word
front_word GivingUp = gave_up_word
front_word Refutation = refuted_word

-- a line behind `refuted`: a step, or the last line
abbrev pub IsItem : Option FoStep → Type 0
IsItem None = Unit {0}
IsItem (Some s) = IsStep s

abbrev pub item_text : Option FoStep → List ℕ
item_text None = finish_word
item_text (Some s) = step_text s

abbrev pub AreSteps : List FoStep → Type 0
AreSteps steps = AllByRecursion IsStep steps

-- the beats, and whether a refutation follows
abbrev pub front_text : ℕ × Bool → List ℕ
front_text f = beats_text f.0 ++ (if f.1 then refuted_word else gave_up_word)

abbrev pub IsPlace : LiteralSide → Type 0
IsPlace p = IsSmall p.clause × IsSmall p.literal

abbrev pub place_word : LiteralSide → List ℕ
place_word p = place_text p.clause p.literal p.side

abbrev pub IsPath : List ℕ → Type 0
IsPath path = AllByRecursion IsSmall path
