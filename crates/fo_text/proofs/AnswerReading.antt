-- An answer is refused where a part of it is.
use Rattle.std.proofs.Common.{ℕ, ◌≡◌, ◌≤◌, ◌+◌, ◌-◌, suc, zero, Bool, true, false, Option, Some, None, List, [], ◌∷◌, ◌++◌, length, refl, sym, ap, ◌∙◌, arith, append_assoc, length-append, add-one}
use Rattle.std.specs.Prelude.{if◌then◌else◌}
use Rattle.std.specs.List.{flat_map}
use Rattle.std.proofs.lemmas.List.{append-nil}
use Rattle.std.proofs.lemmas.List.Concat.{flat_map-append}
use Rattle.fo_text.specs.declared.answer.FoAnswer.{FoAnswer}
use Rattle.fo_text.specs.declared.answer.FoEnd.{FoEnd}
use Rattle.fo_text.specs.declared.answer.FoEnd.TheVariants.{GaveUp, Refuted}
use Rattle.fo_text.specs.declared.answer.FoStep.{FoStep}
use Rattle.fo_text.specs.declared.answer.FoStep.TheVariants.{Inst, Para, Factor, Drop}
use Rattle.fo_text.specs.declared.answer.FoWord.{FoWord}
use Rattle.fo_text.specs.declared.answer.FoSide.{FoSide}
use Rattle.fo_text.specs.declared.answer.FoSide.TheVariants.{Left}
use Rattle.fo_text.specs.declared.lines.LineKind.{LineKind}
use Rattle.fo_text.specs.declared.lines.LineKind.TheVariants.{Instance, Paramodulation, Factoring, Dropping, Finish}
use Rattle.fo_text.specs.declared.lines.FrontKind.{FrontKind}
use Rattle.fo_text.specs.declared.lines.FrontKind.TheVariants.{Beat, GivingUp, Refutation}
use Rattle.fo_text.specs.declared.lines.LiteralSide.{LiteralSide}
use Rattle.fo_text.specs.Words.{newline, space}
use Rattle.fo_text.specs.Refusals.{Spells, Opens, IsFirstBad}
use Rattle.fo_text.specs.Answers.{IsSmall, IsWord, IsStep, IsEnd, IsAnswer, IsAnswerText}
use Rattle.fo_text.specs.AnswerSpellings.{word_text, spaced_number, ended_side, path_text, step_text, inst_word, para_word, factor_word, drop_word, finish_word, beat_word, gave_up_word, refuted_word, beats_text, steps_text, answer_text}
use Rattle.fo_text.specs.AnswerReads.{line_word, front_word, IsItem, item_text, AreSteps, front_text, IsPlace, place_word, IsPath}
use Rattle.fo_text.proofs.Lists.{append-cancel, All-append}
use Rattle.fo_text.proofs.Composing.{IsCode, Stops-wider, refuses-then, refuses-same}
use Rattle.fo_text.proofs.Sequences.{Stopped, IsAny, choice-code, IsPair, pair_text, pair-first, pair-then, pair-code}
use Rattle.fo_text.proofs.NumberedLines.{IsLine, line_text, line-code}
use Rattle.fo_text.proofs.AnswerPieces.{first_byte, side-apart, spaced-code, lined_number, lined-code, place-code, path-code, word-words}

-- what stands in each kind of line
abbrev pub IsInst : ℕ × List FoWord → Type 0
IsInst = IsLine IsWord

abbrev pub inst_body : ℕ × List FoWord → List ℕ
inst_body = line_text space word_text

abbrev pub IsRest : LiteralSide × List ℕ → Type 0
IsRest = IsPair IsPlace IsPath

abbrev pub rest_body : LiteralSide × List ℕ → List ℕ
rest_body = pair_text place_word path_text

abbrev pub IsPara : LiteralSide × (LiteralSide × List ℕ) → Type 0
IsPara = IsPair IsPlace IsRest

abbrev pub para_body : LiteralSide × (LiteralSide × List ℕ) → List ℕ
para_body = pair_text place_word rest_body

abbrev pub IsLast : ℕ × FoSide → Type 0
IsLast = IsPair IsSmall (IsAny {T = FoSide})

abbrev pub last_body : ℕ × FoSide → List ℕ
last_body = pair_text spaced_number (ended_side newline)

abbrev pub IsLater : ℕ × (ℕ × FoSide) → Type 0
IsLater = IsPair IsSmall IsLast

abbrev pub later_body : ℕ × (ℕ × FoSide) → List ℕ
later_body = pair_text spaced_number last_body

abbrev pub IsFactor : ℕ × (ℕ × (ℕ × FoSide)) → Type 0
IsFactor = IsPair IsSmall IsLater

abbrev pub factor_body : ℕ × (ℕ × (ℕ × FoSide)) → List ℕ
factor_body = pair_text spaced_number later_body

abbrev pub IsDrop : ℕ × ℕ → Type 0
IsDrop = IsPair IsSmall IsSmall

abbrev pub drop_body : ℕ × ℕ → List ℕ
drop_body = pair_text spaced_number lined_number

side-code : (end : ℕ) → IsCode (IsAny {T = FoSide}) (ended_side end)
side-code end = choice-code (ended_side end) (side-apart end)

inst-code : IsCode IsInst inst_body
inst-code = line-code space IsWord word_text word-words (omega arith) (λ h. absurd cc)

rest-code : IsCode IsRest rest_body
rest-code = pair-code IsPlace place_word IsPath path_text place-code path-code

para-code : IsCode IsPara para_body
para-code = pair-code IsPlace place_word IsRest rest_body place-code rest-code

factor-code : IsCode IsFactor factor_body
factor-code = pair-code IsSmall spaced_number IsLater later_body spaced-code (pair-code IsSmall spaced_number IsLast last_body spaced-code (pair-code IsSmall spaced_number (IsAny {T = FoSide}) (ended_side newline) spaced-code (side-code newline)))

drop-code : IsCode IsDrop drop_body
drop-code = pair-code IsSmall spaced_number IsSmall lined_number spaced-code lined-code

-- the step of what stands in a line
abbrev pub inst_of : ℕ × List FoWord → FoStep
inst_of y = Inst y.0 y.1

abbrev pub para_of : LiteralSide × (LiteralSide × List ℕ) → FoStep
para_of y = Para y.0.clause y.0.literal y.0.side y.1.0.clause y.1.0.literal y.1.0.side y.1.1

abbrev pub factor_of : ℕ × (ℕ × (ℕ × FoSide)) → FoStep
factor_of y = Factor y.0 y.1.0 y.1.1.0 y.1.1.1

abbrev pub drop_of : ℕ × ℕ → FoStep
drop_of y = Drop y.0 y.1

abbrev place_of : ℕ → ℕ → FoSide → LiteralSide
place_of c l s = record { clause = c; literal = l; side = s }

-- the text of an item that begins as a kind of line does is a line of that kind
inst_back : (z : List ℕ) (x : Option FoStep) → IsItem x → (p : List ℕ) → inst_word ++ z ≡ item_text x ++ p → Opens IsInst inst_body z
inst_back z (Some (Inst parent words)) i p e = ((parent, words), (i.0, i.1), p, append-cancel inst_word z (inst_body (parent, words) ++ p) e)
inst_back z x i p e = absurd (omega (arith, ap first_byte e))

para_back : (z : List ℕ) (x : Option FoStep) → IsItem x → (p : List ℕ) → para_word ++ z ≡ item_text x ++ p → Opens IsPara para_body z
para_back z (Some (Para from lit side target place place_side path)) i p e =
    let y : LiteralSide × (LiteralSide × List ℕ) = (place_of from lit side, (place_of target place place_side, path)) in
    (y, ((i.0, i.1), ((i.2, i.3), i.4)), p, append-cancel para_word z (para_body y ++ p) e)
para_back z x i p e = absurd (omega (arith, ap first_byte e))

factor_back : (z : List ℕ) (x : Option FoStep) → IsItem x → (p : List ℕ) → factor_word ++ z ≡ item_text x ++ p → Opens IsFactor factor_body z
factor_back z (Some (Factor parent first second side)) i p e = ((parent, (first, (second, side))), (i.0, (i.1, (i.2, tt))), p, append-cancel factor_word z (factor_body (parent, (first, (second, side))) ++ p) e)
factor_back z x i p e = absurd (omega (arith, ap first_byte e))

drop_back : (z : List ℕ) (x : Option FoStep) → IsItem x → (p : List ℕ) → drop_word ++ z ≡ item_text x ++ p → Opens IsDrop drop_body z
drop_back z (Some (Drop parent lit)) i p e = ((parent, lit), (i.0, i.1), p, append-cancel drop_word z (drop_body (parent, lit) ++ p) e)
drop_back z x i p e = absurd (omega (arith, ap first_byte e))

pub inst-stop : (input : List ℕ) (left : ℕ) → Stopped (IsLine IsWord) (line_text space word_text) input left → Stopped IsItem item_text (inst_word ++ input) left
inst-stop input left r =
    refuses-then IsItem item_text IsInst inst_body inst_word input left (λ y i. ([], (Some (inst_of y), (i.0, i.1), ap (λ u. inst_word ++ u) (append-nil (inst_body y))))) (λ z o. inst_back z o.0 o.1 o.2 o.3) r

para_stop : (input : List ℕ) (left : ℕ) → Stopped IsPara para_body input left → Stopped IsItem item_text (para_word ++ input) left
para_stop input left r =
    refuses-then IsItem item_text IsPara para_body para_word input left (λ y i. ([], (Some (para_of y), (i.0.0, i.0.1, i.1.0.0, i.1.0.1, i.1.1), ap (λ u. para_word ++ u) (append-nil (para_body y))))) (λ z o. para_back z o.0 o.1 o.2 o.3) r

factor_stop : (input : List ℕ) (left : ℕ) → Stopped IsFactor factor_body input left → Stopped IsItem item_text (factor_word ++ input) left
factor_stop input left r =
    refuses-then IsItem item_text IsFactor factor_body factor_word input left (λ y i. ([], (Some (factor_of y), (i.0, i.1.0, i.1.1.0), ap (λ u. factor_word ++ u) (append-nil (factor_body y))))) (λ z o. factor_back z o.0 o.1 o.2 o.3) r

drop_stop : (input : List ℕ) (left : ℕ) → Stopped IsDrop drop_body input left → Stopped IsItem item_text (drop_word ++ input) left
drop_stop input left r =
    refuses-then IsItem item_text IsDrop drop_body drop_word input left (λ y i. ([], (Some (drop_of y), (i.0, i.1), ap (λ u. drop_word ++ u) (append-nil (drop_body y))))) (λ z o. drop_back z o.0 o.1 o.2 o.3) r

-- the parts of the lines
abbrev some_place : LiteralSide
some_place = record { clause = 0; literal = 0; side = Left }

some_is : IsPlace some_place
some_is = (omega arith, omega arith)

pub para-first : (input : List ℕ) (left : ℕ) → Stopped IsPlace place_word input left → Stopped IsItem item_text (para_word ++ input) left
para-first input left r = para_stop input left (pair-first IsPlace place_word IsRest rest_body (some_place, []) (some_is, tt) input left r)

pub para-second : (a : LiteralSide) (input one : List ℕ) (left : ℕ) → IsPlace a → input ≡ place_word a ++ one → Stopped IsPlace place_word one left → Stopped IsItem item_text (para_word ++ input) left
para-second a input one left i e r = para_stop input left (pair-then IsPlace place_word IsRest rest_body place-code a i input one left e (pair-first IsPlace place_word IsPath path_text [] tt one left r))

pub para-third : (a b : LiteralSide) (input one two : List ℕ) (left : ℕ) → IsPlace a → IsPlace b → input ≡ place_word a ++ one → one ≡ place_word b ++ two → Stopped IsPath path_text two left → Stopped IsItem item_text (para_word ++ input) left
para-third a b input one two left i j e f r =
    para_stop input left (pair-then IsPlace place_word IsRest rest_body place-code a i input one left e (pair-then IsPlace place_word IsPath path_text place-code b j one two left f r))

pub factor-first : (input : List ℕ) (left : ℕ) → Stopped IsSmall spaced_number input left → Stopped IsItem item_text (factor_word ++ input) left
factor-first input left r = factor_stop input left (pair-first IsSmall spaced_number IsLater later_body (0, (0, Left)) (omega arith, (omega arith, tt)) input left r)

pub factor-second : (a : ℕ) (input one : List ℕ) (left : ℕ) → IsSmall a → input ≡ spaced_number a ++ one → Stopped IsSmall spaced_number one left → Stopped IsItem item_text (factor_word ++ input) left
factor-second a input one left i e r =
    factor_stop input left (pair-then IsSmall spaced_number IsLater later_body spaced-code a i input one left e (pair-first IsSmall spaced_number IsLast last_body (0, Left) (omega arith, tt) one left r))

pub factor-third : (a b : ℕ) (input one two : List ℕ) (left : ℕ) → IsSmall a → IsSmall b → input ≡ spaced_number a ++ one → one ≡ spaced_number b ++ two → Stopped IsSmall spaced_number two left → Stopped IsItem item_text (factor_word ++ input) left
factor-third a b input one two left i j e f r =
    factor_stop input left (pair-then IsSmall spaced_number IsLater later_body spaced-code a i input one left e (pair-then IsSmall spaced_number IsLast last_body spaced-code b j one two left f (pair-first IsSmall spaced_number (IsAny {T = FoSide}) (ended_side newline) Left tt two left r)))

pub factor-fourth : (a b c : ℕ) (input one two three : List ℕ) (left : ℕ) → IsSmall a → IsSmall b → IsSmall c → input ≡ spaced_number a ++ one → one ≡ spaced_number b ++ two → two ≡ spaced_number c ++ three → Stopped (IsAny {T = FoSide}) (ended_side newline) three left → Stopped IsItem item_text (factor_word ++ input) left
factor-fourth a b c input one two three left i j k e f g r =
    factor_stop input left (pair-then IsSmall spaced_number IsLater later_body spaced-code a i input one left e (pair-then IsSmall spaced_number IsLast last_body spaced-code b j one two left f (pair-then IsSmall spaced_number (IsAny {T = FoSide}) (ended_side newline) spaced-code c k two three left g r)))

pub drop-first : (input : List ℕ) (left : ℕ) → Stopped IsSmall spaced_number input left → Stopped IsItem item_text (drop_word ++ input) left
drop-first input left r = drop_stop input left (pair-first IsSmall spaced_number IsSmall lined_number 0 (omega arith) input left r)

pub drop-second : (a : ℕ) (input one : List ℕ) (left : ℕ) → IsSmall a → input ≡ spaced_number a ++ one → Stopped IsSmall lined_number one left → Stopped IsItem item_text (drop_word ++ input) left
drop-second a input one left i e r = drop_stop input left (pair-then IsSmall spaced_number IsSmall lined_number spaced-code a i input one left e r)

-- the kind of a line
kind_of : Option FoStep → LineKind
kind_of None = Finish
kind_of (Some (Inst parent words)) = Instance
kind_of (Some (Para from lit side target place place_side path)) = Paramodulation
kind_of (Some (Factor parent first second side)) = Factoring
kind_of (Some (Drop parent lit)) = Dropping

body_of : Option FoStep → List ℕ
body_of None = []
body_of (Some (Inst parent words)) = inst_body (parent, words)
body_of (Some (Para from lit side target place place_side path)) = para_body (place_of from lit side, (place_of target place place_side, path))
body_of (Some (Factor parent first second side)) = factor_body (parent, (first, (second, side)))
body_of (Some (Drop parent lit)) = drop_body (parent, lit)

kind_text : (x : Option FoStep) → item_text x ≡ line_word (kind_of x) ++ body_of x
unfolding kind_of body_of
kind_text None = refl
kind_text (Some (Inst parent words)) = refl
kind_text (Some (Para from lit side target place place_side path)) = refl
kind_text (Some (Factor parent first second side)) = refl
kind_text (Some (Drop parent lit)) = refl

some_line : (t : LineKind) → (more : List ℕ) × Spells IsItem item_text (line_word t ++ more)
some_line Instance = (inst_body (0, []), (Some (Inst 0 []), (omega arith, tt), refl))
some_line Paramodulation = (para_body (some_place, (some_place, [])), (Some (Para 0 0 Left 0 0 Left []), (omega arith, omega arith, omega arith, omega arith, tt), refl))
some_line Factoring = (factor_body (0, (0, (0, Left))), (Some (Factor 0 0 0 Left), (omega arith, omega arith, omega arith), refl))
some_line Dropping = (drop_body (0, 0), (Some (Drop 0 0), (omega arith, omega arith), refl))
some_line Finish = ([], (None, tt, refl))

pub item-kind : (input : List ℕ) (left : ℕ) → Stopped (IsAny {T = LineKind}) line_word input left → Stopped IsItem item_text input left
item-kind input left r =
    refuses-then IsItem item_text (IsAny {T = LineKind}) line_word [] input left (λ t i. some_line t) (λ z o. (kind_of o.0, tt, body_of o.0 ++ o.2, o.3 ∙ ap (λ u. u ++ o.2) (kind_text o.0) ∙ append_assoc (line_word (kind_of o.0)) (body_of o.0) o.2)) r

same_item : (x y : Option FoStep) → IsItem x → IsItem y → (p q : List ℕ) → item_text x ++ p ≡ item_text y ++ q → (x ≡ y) × (p ≡ q)
same_item None None i j p q e = (refl, append-cancel finish_word p q e)
same_item None (Some (Inst parent words)) i j p q e = absurd (omega (arith, ap first_byte e))
same_item (Some (Inst parent words)) (Some (Inst parent' words')) i j p q e =
    let s = inst-code.same (parent, words) (parent', words') p q (i.0, i.1) (j.0, j.1) (append-cancel inst_word (inst_body (parent, words) ++ p) (inst_body (parent', words') ++ q) e) in
    (ap (λ (y : ℕ × List FoWord). Some (inst_of y)) s.0, s.1)
same_item (Some (Para from lit side target place place_side path)) (Some (Para from' lit' side' target' place' place_side' path')) i j p q e =
    let x : LiteralSide × (LiteralSide × List ℕ) = (place_of from lit side, (place_of target place place_side, path)) in
    let y : LiteralSide × (LiteralSide × List ℕ) = (place_of from' lit' side', (place_of target' place' place_side', path')) in
    let s = para-code.same x y p q ((i.0, i.1), ((i.2, i.3), i.4)) ((j.0, j.1), ((j.2, j.3), j.4)) (append-cancel para_word (para_body x ++ p) (para_body y ++ q) e) in
    (ap (λ (w : LiteralSide × (LiteralSide × List ℕ)). Some (para_of w)) s.0, s.1)
same_item (Some (Factor parent first second side)) (Some (Factor parent' first' second' side')) i j p q e =
    let s = factor-code.same (parent, (first, (second, side))) (parent', (first', (second', side'))) p q (i.0, (i.1, (i.2, tt))) (j.0, (j.1, (j.2, tt))) (append-cancel factor_word (factor_body (parent, (first, (second, side))) ++ p) (factor_body (parent', (first', (second', side'))) ++ q) e) in
    (ap (λ (y : ℕ × (ℕ × (ℕ × FoSide))). Some (factor_of y)) s.0, s.1)
same_item (Some (Drop parent lit)) (Some (Drop parent' lit')) i j p q e =
    let s = drop-code.same (parent, lit) (parent', lit') p q (i.0, i.1) (j.0, j.1) (append-cancel drop_word (drop_body (parent, lit) ++ p) (drop_body (parent', lit') ++ q) e) in
    (ap (λ (y : ℕ × ℕ). Some (drop_of y)) s.0, s.1)
same_item x y i j p q e = absurd (omega (arith, ap first_byte e))

pub item-code : IsCode IsItem item_text
item-code = record { same = λ x y p q i j e. same_item x y i j p q e }

-- steps
steps_parts : (ss : List FoStep) (p : List ℕ) → steps_text ss ++ p ≡ flat_map step_text ss ++ (finish_word ++ p)
steps_parts ss p = append_assoc (flat_map step_text ss) finish_word p

steps_back : (xs ys : List FoStep) (z p : List ℕ) → AreSteps xs → AreSteps ys → flat_map step_text ys ++ (finish_word ++ p) ≡ flat_map step_text xs ++ z → Opens IsItem item_text z
steps_back [] [] z p a b e = (None, tt, p, sym e)
steps_back [] (y ∷ ys) z p a b e = (Some y, b.0, flat_map step_text ys ++ (finish_word ++ p), sym e ∙ append_assoc (step_text y) (flat_map step_text ys) (finish_word ++ p))
steps_back (x ∷ xs) [] z p a b e = absurd (let s = same_item None (Some x) tt a.0 p (flat_map step_text xs ++ z) (e ∙ append_assoc (step_text x) (flat_map step_text xs) z) in let h : None ≡ Some x = s.0 in cc)
steps_back (x ∷ xs) (y ∷ ys) z p a b e =
    let s = same_item (Some y) (Some x) b.0 a.0 (flat_map step_text ys ++ (finish_word ++ p)) (flat_map step_text xs ++ z) (sym (append_assoc (step_text y) (flat_map step_text ys) (finish_word ++ p)) ∙ e ∙ append_assoc (step_text x) (flat_map step_text xs) z) in
    steps_back xs ys z p a.1 b.1 s.1

steps_forth : (xs : List FoStep) → AreSteps xs → (x : Option FoStep) → IsItem x → (more : List ℕ) × Spells AreSteps steps_text (flat_map step_text xs ++ (item_text x ++ more))
steps_forth xs a None i = ([], (xs, a, ap (λ u. flat_map step_text xs ++ u) (append-nil finish_word)))
steps_forth xs a (Some s) i =
    (finish_word, (xs ++ s ∷ [], All-append IsStep xs (s ∷ []) a (i, tt), sym (append_assoc (flat_map step_text xs) (step_text s) finish_word) ∙ ap (λ u. (flat_map step_text xs ++ u) ++ finish_word) (sym (append-nil (step_text s))) ∙ ap (λ u. u ++ finish_word) (sym (flat_map-append step_text xs (s ∷ [])))))

pub steps-stop : (xs : List FoStep) (whole input : List ℕ) (left : ℕ) → AreSteps xs → whole ≡ flat_map step_text xs ++ input → Stopped IsItem item_text input left → Stopped AreSteps steps_text whole left
steps-stop xs whole input left a e r =
    refuses-same AreSteps steps_text whole (flat_map step_text xs ++ input) left e (refuses-then AreSteps steps_text IsItem item_text (flat_map step_text xs) input left
    (λ x i. steps_forth xs a x i) (λ z o. steps_back xs o.0 z o.2 a o.1 (sym (steps_parts o.0 o.2) ∙ sym o.3)) r)

steps_same : (xs ys : List FoStep) (p q : List ℕ) → AreSteps xs → AreSteps ys → flat_map step_text xs ++ (finish_word ++ p) ≡ flat_map step_text ys ++ (finish_word ++ q) → (xs ≡ ys) × (p ≡ q)
steps_same [] [] p q a b e = (refl, append-cancel finish_word p q e)
steps_same [] (y ∷ ys) p q a b e = absurd (let s = same_item None (Some y) tt b.0 p (flat_map step_text ys ++ (finish_word ++ q)) (e ∙ append_assoc (step_text y) (flat_map step_text ys) (finish_word ++ q)) in let h : None ≡ Some y = s.0 in cc)
steps_same (x ∷ xs) [] p q a b e = absurd (let s = same_item (Some x) None a.0 tt (flat_map step_text xs ++ (finish_word ++ p)) q (sym (append_assoc (step_text x) (flat_map step_text xs) (finish_word ++ p)) ∙ e) in let h : Some x ≡ None = s.0 in cc)
steps_same (x ∷ xs) (y ∷ ys) p q a b e =
    let s = same_item (Some x) (Some y) a.0 b.0 (flat_map step_text xs ++ (finish_word ++ p)) (flat_map step_text ys ++ (finish_word ++ q)) (sym (append_assoc (step_text x) (flat_map step_text xs) (finish_word ++ p)) ∙ e ∙ append_assoc (step_text y) (flat_map step_text ys) (finish_word ++ q)) in
    let r = steps_same xs ys p q a.1 b.1 s.1 in
    let h : x ≡ y = (let k : Some x ≡ Some y = s.0 in cc) in
    (ap (λ u. u ∷ xs) h ∙ ap (λ u. y ∷ u) r.0, r.1)

steps-code : IsCode AreSteps steps_text
steps-code = record { same = λ xs ys p q i j e. steps_same xs ys p q i j (sym (steps_parts xs p) ∙ e ∙ steps_parts ys q) }

pub steps_more : (xs : List FoStep) (s : FoStep) (input rest left : List ℕ) → input ≡ flat_map step_text xs ++ rest → rest ≡ step_text s ++ left → input ≡ flat_map step_text (xs ++ s ∷ []) ++ left
steps_more xs s input rest left e f =
    e ∙ ap (λ u. flat_map step_text xs ++ u) (f ∙ ap (λ u. u ++ left) (sym (append-nil (step_text s)))) ∙ sym (append_assoc (flat_map step_text xs) (step_text s ++ []) left) ∙ ap (λ u. u ++ left) (sym (flat_map-append step_text xs (s ∷ [])))

-- beats
abbrev close_word : Bool → List ℕ
close_word b = if b then refuted_word else gave_up_word

front_parts : (f : ℕ × Bool) (p : List ℕ) → front_text f ++ p ≡ beats_text f.0 ++ (close_word f.1 ++ p)
front_parts f p = append_assoc (beats_text f.0) (close_word f.1) p

pub beats_more : (n : ℕ) (z : List ℕ) → beats_text (suc n) ++ z ≡ beats_text n ++ (beat_word ++ z)
beats_more zero z = refl
beats_more (suc n) z = ap (λ u. beat_word ++ u) (beats_more n z)

kind_there : (m : ℕ) (b : Bool) (z p : List ℕ) → z ≡ beats_text m ++ (close_word b ++ p) → Opens (IsAny {T = FrontKind}) front_word z
kind_there zero true z p e = (Refutation, tt, p, e)
kind_there zero false z p e = (GivingUp, tt, p, e)
kind_there (suc m) b z p e = (Beat, tt, beats_text m ++ (close_word b ++ p), e)

beats_back : (n m : ℕ) (b : Bool) (z p : List ℕ) → beats_text m ++ (close_word b ++ p) ≡ beats_text n ++ z → Opens (IsAny {T = FrontKind}) front_word z
beats_back zero m b z p e = kind_there m b z p (sym e)
beats_back (suc n) zero true z p e = absurd (omega (arith, ap first_byte e))
beats_back (suc n) zero false z p e = absurd (omega (arith, ap first_byte e))
beats_back (suc n) (suc m) b z p e = beats_back n m b z p (append-cancel beat_word (beats_text m ++ (close_word b ++ p)) (beats_text n ++ z) e)

front_forth : (n : ℕ) (t : FrontKind) → (more : List ℕ) × Spells (IsAny {T = ℕ × Bool}) front_text (beats_text n ++ (front_word t ++ more))
front_forth n Beat = (gave_up_word, ((suc n, false), tt, sym (beats_more n gave_up_word)))
front_forth n GivingUp = ([], ((n, false), tt, ap (λ u. beats_text n ++ u) (append-nil gave_up_word)))
front_forth n Refutation = ([], ((n, true), tt, ap (λ u. beats_text n ++ u) (append-nil refuted_word)))

pub front-stop : (n : ℕ) (whole input : List ℕ) (left : ℕ) → whole ≡ beats_text n ++ input → Stopped (IsAny {T = FrontKind}) front_word input left → Stopped (IsAny {T = ℕ × Bool}) front_text whole left
front-stop n whole input left e r =
    refuses-same (IsAny {T = ℕ × Bool}) front_text whole (beats_text n ++ input) left e (refuses-then (IsAny {T = ℕ × Bool}) front_text (IsAny {T = FrontKind}) front_word (beats_text n) input left
    (λ t i. front_forth n t) (λ z o. beats_back n o.0.0 o.0.1 z o.2 (sym (front_parts o.0 o.2) ∙ sym o.3)) r)

front_same : (m n : ℕ) (a b : Bool) (p q : List ℕ) → beats_text m ++ (close_word a ++ p) ≡ beats_text n ++ (close_word b ++ q) → (m ≡ n) × (a ≡ b) × (p ≡ q)
front_same zero zero true true p q e = (refl, refl, append-cancel refuted_word p q e)
front_same zero zero true false p q e = absurd (omega (arith, ap first_byte e))
front_same zero zero false true p q e = absurd (omega (arith, ap first_byte e))
front_same zero zero false false p q e = (refl, refl, append-cancel gave_up_word p q e)
front_same zero (suc n) true b p q e = absurd (omega (arith, ap first_byte e))
front_same zero (suc n) false b p q e = absurd (omega (arith, ap first_byte e))
front_same (suc m) zero a true p q e = absurd (omega (arith, ap first_byte e))
front_same (suc m) zero a false p q e = absurd (omega (arith, ap first_byte e))
front_same (suc m) (suc n) a b p q e =
    let s = front_same m n a b p q (append-cancel beat_word (beats_text m ++ (close_word a ++ p)) (beats_text n ++ (close_word b ++ q)) e) in
    (ap suc s.0, s.1, s.2)

front-code : IsCode (IsAny {T = ℕ × Bool}) front_text
front-code = record {
  same = λ x y p q i j e.
      let s = front_same x.0 y.0 x.1 y.1 p q (sym (front_parts x p) ∙ e ∙ front_parts y q) in
      (ap (λ u. (u, x.1)) s.0 ∙ ap (λ u. (y.0, u)) s.1, s.2);
}

pub beats_on : (n : ℕ) (input rest left : List ℕ) → input ≡ beats_text n ++ rest → rest ≡ beat_word ++ left → input ≡ beats_text (n + 1) ++ left
beats_on n input rest left e f = rw add-one (e ∙ ap (λ u. beats_text n ++ u) f ∙ sym (beats_more n left))

beats_end : (n : ℕ) → beats_text (suc n) ≡ beats_text n ++ beat_word
beats_end zero = refl
beats_end (suc n) = ap (λ u. beat_word ++ u) (beats_end n)

pub beats_out : (n : ℕ) (start old new : List ℕ) → old ≡ start ++ beats_text n → new ≡ old ++ beat_word → new ≡ start ++ beats_text (n + 1)
beats_out n start old new e f = rw add-one (f ∙ ap (λ u. u ++ beat_word) e ∙ append_assoc start (beats_text n) beat_word ∙ ap (λ u. start ++ u) (sym (beats_end n)))

pub front_done : (n : ℕ) (b : Bool) (whole input rest : List ℕ) → whole ≡ beats_text n ++ input → input ≡ (if b then refuted_word else gave_up_word) ++ rest → whole ≡ front_text (n, b) ++ rest
front_done n b whole input rest e f = e ∙ ap (λ u. beats_text n ++ u) f ∙ sym (front_parts (n, b) rest)

-- an answer in its two parts
is_refuted : FoEnd → Bool
is_refuted GaveUp = false
is_refuted (Refuted ss) = true

end_body : FoEnd → List ℕ
end_body GaveUp = []
end_body (Refuted ss) = steps_text ss

end_parts : (n : ℕ) (e : FoEnd) (p : List ℕ) → answer_text (record { beats = n; end = e }) ++ p ≡ front_text (n, is_refuted e) ++ (end_body e ++ p)
unfolding is_refuted end_body
end_parts n GaveUp p = refl
end_parts n (Refuted ss) p = ap (λ u. u ++ p) (sym (append_assoc (beats_text n) refuted_word (steps_text ss))) ∙ append_assoc (beats_text n ++ refuted_word) (steps_text ss) p

some_end : (b : Bool) → (e : FoEnd) × IsEnd e × (is_refuted e ≡ b)
unfolding is_refuted
some_end true = (Refuted [], tt, refl)
some_end false = (GaveUp, tt, refl)

pub answer-front : (input : List ℕ) (left : ℕ) → Stopped (IsAny {T = ℕ × Bool}) front_text input left → Stopped IsAnswer answer_text input left
answer-front input left r =
    refuses-then IsAnswer answer_text (IsAny {T = ℕ × Bool}) front_text [] input left
    (λ f i. (let s = some_end f.1 in (end_body s.0, (record { beats = f.0; end = s.0 }, s.1, ap (λ u. front_text (f.0, u) ++ end_body s.0) (sym s.2) ∙ ap (λ u. front_text (f.0, is_refuted s.0) ++ u) (sym (append-nil (end_body s.0))) ∙ sym (end_parts f.0 s.0 []) ∙ append-nil (answer_text (record { beats = f.0; end = s.0 }))))))
    (λ z o. ((o.0.beats, is_refuted o.0.end), tt, end_body o.0.end ++ o.2, o.3 ∙ end_parts o.0.beats o.0.end o.2)) r

steps_there : (e : FoEnd) → IsEnd e → is_refuted e ≡ true → (p z : List ℕ) → end_body e ++ p ≡ z → Opens AreSteps steps_text z
unfolding is_refuted end_body
steps_there GaveUp i h p z e = absurd cc
steps_there (Refuted ss) i h p z e = (ss, i, p, sym e)

pub answer-steps : (n : ℕ) (whole input : List ℕ) (left : ℕ) → whole ≡ front_text (n, true) ++ input → Stopped AreSteps steps_text input left → Stopped IsAnswer answer_text whole left
unfolding is_refuted end_body
answer-steps n whole input left e r =
    refuses-same IsAnswer answer_text whole (front_text (n, true) ++ input) left e (refuses-then IsAnswer answer_text AreSteps steps_text (front_text (n, true)) input left
    (λ ss i. ([], (record { beats = n; end = Refuted ss }, i, sym (end_parts n (Refuted ss) []) ∙ append-nil (answer_text (record { beats = n; end = Refuted ss })))))
    (λ z o. (let s = front-code.same (o.0.beats, is_refuted o.0.end) (n, true) (end_body o.0.end ++ o.2) z tt tt (sym (end_parts o.0.beats o.0.end o.2) ∙ sym o.3) in
    steps_there o.0.end o.1 (ap (λ (u : ℕ × Bool). u.1) s.0) o.2 z s.1)) r)

pub answer_done : (n : ℕ) (ss : List FoStep) (whole input rest : List ℕ) → whole ≡ front_text (n, true) ++ input → input ≡ steps_text ss ++ rest → whole ≡ answer_text (record { beats = n; end = Refuted ss }) ++ rest
unfolding is_refuted end_body
answer_done n ss whole input rest e f = e ∙ ap (λ u. front_text (n, true) ++ u) f ∙ sym (end_parts n (Refuted ss) rest)

end_same : (a b : FoEnd) (p q : List ℕ) → IsEnd a → IsEnd b → is_refuted a ≡ is_refuted b → end_body a ++ p ≡ end_body b ++ q → (a ≡ b) × (p ≡ q)
unfolding is_refuted end_body
end_same GaveUp GaveUp p q i j h e = (refl, e)
end_same GaveUp (Refuted ss) p q i j h e = absurd cc
end_same (Refuted ss) GaveUp p q i j h e = absurd cc
end_same (Refuted ss) (Refuted rs) p q i j h e = let s = steps-code.same ss rs p q i j e in (ap Refuted s.0, s.1)

answers_same : (x y : FoAnswer) (p q : List ℕ) → IsAnswer x → IsAnswer y → answer_text x ++ p ≡ answer_text y ++ q → (x ≡ y) × (p ≡ q)
answers_same x y p q i j e =
    let s = front-code.same (x.beats, is_refuted x.end) (y.beats, is_refuted y.end) (end_body x.end ++ p) (end_body y.end ++ q) tt tt (sym (end_parts x.beats x.end p) ∙ e ∙ end_parts y.beats y.end q) in
    let r = end_same x.end y.end p q i j (ap (λ (u : ℕ × Bool). u.1) s.0) s.1 in
    let one : x ≡ record { beats = y.beats; end = x.end } = ap (λ u. let a : FoAnswer = record { beats = u; end = x.end } in a) (ap (λ (u : ℕ × Bool). u.0) s.0) in
    (one ∙ ap (λ u. let a : FoAnswer = record { beats = y.beats; end = u } in a) r.0, r.1)

pub answer-code : IsCode IsAnswer answer_text
answer-code = record { same = λ x y p q i j e. answers_same x y p q i j e }

pub answers_unique : (a b : FoAnswer) → IsAnswer a → IsAnswer b → answer_text a ≡ answer_text b → a ≡ b
answers_unique a b i j e = (answers_same a b [] [] i j (ap (λ u. u ++ []) e)).0

-- from the bytes that are left to the number of the first bad byte
pub answer_bad : (input : List ℕ) (left : ℕ) → Stopped IsAnswer answer_text input left → IsFirstBad IsAnswerText input (length input - left)
answer_bad input left r =
    let l : length input ≡ length r.before + length r.after = ap length r.input_is ∙ length-append r.before r.after in
    let k : left ≡ length r.after = r.left_is in
    record {
      before = r.before;
      after = r.after;
      input_is = r.input_is;
      byte_is = omega arith;
      rest = r.rest;
      goes_on = r.goes_on;
      stops = Stops-wider (λ z. Opens IsAnswer answer_text (r.before ++ z)) (λ z. IsAnswerText (r.before ++ z)) r.after (λ z o. (o.0, o.1, [], o.2 ∙ sym (append-nil (answer_text o.0)))) r.stops;
    }

pub answer_left : (input : List ℕ) (left : ℕ) → Stopped IsAnswer answer_text input left → left ≤ length input
answer_left input left r =
    let l : length input ≡ length r.before + length r.after = ap length r.input_is ∙ length-append r.before r.after in
    let k : left ≡ length r.after = r.left_is in
    omega arith

no_more : (a : FoAnswer) → IsAnswer a → (b : ℕ) (z : List ℕ) → IsAnswerText (answer_text a ++ b ∷ z) → ⊥
no_more a i b z o =
    let s = answers_same a o.0 (b ∷ z) [] i o.1 (o.2 ∙ sym (append-nil (answer_text o.0))) in
    never b z s.1
  where
    never : (b : ℕ) (z : List ℕ) → b ∷ z ≡ [] → ⊥
    never b z e = cc

pub answer_trailing : (input : List ℕ) (a : FoAnswer) (rest : List ℕ) → IsAnswer a → input ≡ answer_text a ++ rest → (rest ≡ [] → ⊥) → IsFirstBad IsAnswerText input (length input - length rest)
answer_trailing input a [] i e n = absurd (n refl)
answer_trailing input a (b ∷ bs) i e n =
    let l : length input ≡ length (answer_text a) + length (b ∷ bs) = ap length e ∙ length-append (answer_text a) (b ∷ bs) in
    record { before = answer_text a; after = b ∷ bs; input_is = e; byte_is = omega arith; rest = []; goes_on = (a, i, append-nil (answer_text a)); stops = λ z o. no_more a i b z o }
