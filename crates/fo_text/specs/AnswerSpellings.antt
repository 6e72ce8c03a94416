-- The text of an answer.
use Rattle.std.specs.Prelude.{ℕ, zero, suc, List, [], ◌∷◌, ◌++◌, codes, decimal}
use Rattle.std.specs.List.{flat_map}
use Rattle.fo_text.specs.declared.answer.FoAnswer.{FoAnswer}
use Rattle.fo_text.specs.declared.answer.FoEnd.{FoEnd}
use Rattle.fo_text.specs.declared.answer.FoEnd.TheVariants.{GaveUp, Refuted}
use Rattle.fo_text.specs.declared.answer.FoStep.{FoStep}
use Rattle.fo_text.specs.declared.answer.FoStep.TheVariants.{Inst, Para, Factor, Drop}
use Rattle.fo_text.specs.declared.answer.FoWord.{FoWord}
use Rattle.fo_text.specs.declared.answer.FoWord.TheVariants.{Number, Var, Sym}
use Rattle.fo_text.specs.declared.answer.FoSide.{FoSide}
use Rattle.fo_text.specs.declared.answer.FoSide.TheVariants.{Left, Right}
use Rattle.fo_text.specs.Words.{space, newline}

abbrev pub point : ℕ
point = 46

-- `l` or `r`
abbrev pub side_byte : FoSide → ℕ
side_byte Left = 108
side_byte Right = 114

-- `N`, `vN` or `fN`
abbrev pub word_text : FoWord → List ℕ
word_text (Number n) = decimal n
word_text (Var v) = 118 ∷ decimal v
word_text (Sym f) = 102 ∷ decimal f

-- a number with a space behind it
abbrev pub spaced_number : ℕ → List ℕ
spaced_number n = decimal n ++ space ∷ []

-- a side with a byte behind it
abbrev pub ended_side : ℕ → FoSide → List ℕ
ended_side end s = side_byte s ∷ end ∷ []

-- the rest of a line: each value behind a separator
abbrev pub tail_text : {X : Type 0} → ℕ → (X → List ℕ) → List X → List ℕ
tail_text separator text xs = flat_map (λ x. separator ∷ text x) xs ++ newline ∷ []

-- `e`, or the numbers of arguments, parted by points
abbrev pub path_text : List ℕ → List ℕ
path_text [] = codes "e\n"
path_text (n ∷ ns) = decimal n ++ tail_text point decimal ns

-- a clause, a literal of it, and a side of that
abbrev pub place_text : ℕ → ℕ → FoSide → List ℕ
place_text c l s = spaced_number c ++ (spaced_number l ++ ended_side space s)

abbrev pub inst_word : List ℕ
inst_word = codes "i "

abbrev pub para_word : List ℕ
para_word = codes "p "

abbrev pub factor_word : List ℕ
factor_word = codes "f "

abbrev pub drop_word : List ℕ
drop_word = codes "d "

abbrev pub step_text : FoStep → List ℕ
step_text (Inst parent words) = inst_word ++ (decimal parent ++ tail_text space word_text words)
step_text (Para from lit side target place place_side path) = para_word ++ (place_text from lit side ++ (place_text target place place_side ++ path_text path))
step_text (Factor parent first second side) = factor_word ++ (spaced_number parent ++ (spaced_number first ++ (spaced_number second ++ ended_side newline side)))
step_text (Drop parent lit) = drop_word ++ (spaced_number parent ++ (decimal lit ++ newline ∷ []))

abbrev pub beat_word : List ℕ
beat_word = codes ".\n"

abbrev pub gave_up_word : List ℕ
gave_up_word = codes "gaveup\n"

abbrev pub refuted_word : List ℕ
refuted_word = codes "refuted\n"

abbrev pub finish_word : List ℕ
finish_word = codes "% end\n"

abbrev pub beats_text : ℕ → List ℕ
beats_text zero = []
beats_text (suc n) = beat_word ++ beats_text n

abbrev pub steps_text : List FoStep → List ℕ
steps_text steps = flat_map step_text steps ++ finish_word

abbrev pub end_text : FoEnd → List ℕ
end_text GaveUp = gave_up_word
end_text (Refuted steps) = refuted_word ++ steps_text steps

abbrev pub answer_text : FoAnswer → List ℕ
answer_text a = beats_text a.beats ++ end_text a.end
