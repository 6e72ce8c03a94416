-- Which answers have a text: numbers have at most nine digits.
use Rattle.std.specs.Prelude.{ℕ, ◌≡◌, ◌≤◌, List}
use Rattle.std.specs.List.{AllByRecursion}
use Rattle.fo_text.specs.declared.answer.FoAnswer.{FoAnswer}
use Rattle.fo_text.specs.declared.answer.FoEnd.{FoEnd}
use Rattle.fo_text.specs.declared.answer.FoEnd.TheVariants.{GaveUp, Refuted}
use Rattle.fo_text.specs.declared.answer.FoStep.{FoStep}
use Rattle.fo_text.specs.declared.answer.FoStep.TheVariants.{Inst, Para, Factor, Drop}
use Rattle.fo_text.specs.declared.answer.FoWord.{FoWord}
use Rattle.fo_text.specs.declared.answer.FoWord.TheVariants.{Number, Var, Sym}
use Rattle.fo_text.specs.Words.{most_number}
use Rattle.fo_text.specs.AnswerSpellings.{answer_text}

abbrev pub IsSmall : ℕ → Type 0
IsSmall n = n ≤ most_number

abbrev pub IsWord : FoWord → Type 0
IsWord (Number n) = IsSmall n
IsWord (Var v) = IsSmall v
IsWord (Sym f) = IsSmall f

abbrev pub IsStep : FoStep → Type 0
IsStep (Inst parent words) = IsSmall parent × AllByRecursion IsWord words
IsStep (Para from lit side target place place_side path) = IsSmall from × IsSmall lit × IsSmall target × IsSmall place × AllByRecursion IsSmall path
IsStep (Factor parent first second side) = IsSmall parent × IsSmall first × IsSmall second
IsStep (Drop parent lit) = IsSmall parent × IsSmall lit

abbrev pub IsEnd : FoEnd → Type 0
IsEnd GaveUp = Unit {0}
IsEnd (Refuted steps) = AllByRecursion IsStep steps

-- any number of beats
abbrev pub IsAnswer : FoAnswer → Type 0
IsAnswer a = IsEnd a.end

abbrev pub IsAnswerText : List ℕ → Type 0
IsAnswerText z = (a : FoAnswer) × IsAnswer a × (z ≡ answer_text a)
