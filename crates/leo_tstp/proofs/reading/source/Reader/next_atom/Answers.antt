use Rattle.std.proofs.Common.{◌≡◌, ◌∙◌, sym, ap, refl}
use Rattle.leo_tstp.specs.Ahead.{first_word}
use Rattle.leo_tstp.proofs.TermSteps.{truth-said, falsity-said, variable-found, level-found, symbol-found}
use Rattle.leo_tstp.proofs.reading.source.Reader.next_atom.Goals as goal

pub returns-then-is : goal.returns-then-is
returns-then-is c = λ v vs s t w rest a h.
    let word_is : c.word-word.result.now ≡ w = c.word-word.ensures ∙ ap first_word h.ahead in
    truth-said c.args.self.now vs s a h.around h.known (sym word_is ∙ c.if-is.ensures.same.0 refl)

pub returns-then-is-2 : goal.returns-then-is-2
returns-then-is-2 c = λ v vs s t w rest a h.
    let word_is : c.word-word.result.now ≡ w = c.word-word.ensures ∙ ap first_word h.ahead in
    falsity-said c.args.self.now vs s a h.around h.known (sym word_is ∙ c.if-is-2.ensures.same.0 refl)

pub returns-in-Some : goal.returns-in-Some
returns-in-Some c = λ v vs s t w rest a h.
    let word_is : c.word-word.result.now ≡ w = c.word-word.ensures ∙ ap first_word h.ahead in
    variable-found c.args.self.now vs s c.number_behind.result c.in-Some.number c.variable.result a h.around h.known
    (record { reads = λ n g e. c.number_behind.ensures.reads n g (word_is ∙ e); other = λ b bs e n. c.number_behind.ensures.other b bs (word_is ∙ e) n })
    c.in-Some.is (λ b g e. c.variable.ensures v vs s b h.around g e)

pub returns-in-Some-level_named : goal.returns-in-Some-level_named
returns-in-Some-level_named c = λ v vs s t w rest a h.
    let word_is : c.word-word.result.now ≡ w = c.word-word.ensures ∙ ap first_word h.ahead in
    level-found c.args.self.now vs s c.level_named.result c.in-Some-level_named.place c.level.result a h.around h.known
    (record { reads = λ n g e. c.level_named.ensures.reads n g (word_is ∙ e); other = λ b bs e n. c.level_named.ensures.other b bs (word_is ∙ e) n })
    c.in-Some-level_named.is (λ i b e n. c.level.ensures v vs s i b h.around e n)

pub returns : goal.returns
returns c = λ v vs s t w rest a h.
    let word_is : c.word-word.result.now ≡ w = c.word-word.ensures ∙ ap first_word h.ahead in
    symbol-found c.args.self.now vs s c.number_behind.result c.level_named.result c.symbol.result a h.around h.known
    (λ e. let g = c.if-is.ensures.same.1 (word_is ∙ e) in absurd (cc)) (λ e. let g = c.if-is-2.ensures.same.1 (word_is ∙ e) in absurd (cc))
    (record { reads = λ n g e. c.number_behind.ensures.reads n g (word_is ∙ e); other = λ b bs e n. c.number_behind.ensures.other b bs (word_is ∙ e) n }) c.in_default.not-Some
    (record { reads = λ n g e. c.level_named.ensures.reads n g (word_is ∙ e); other = λ b bs e n. c.level_named.ensures.other b bs (word_is ∙ e) n }) c.in_default-level_named.not-Some
    (λ m b e g. c.symbol.ensures v m b (word_is ∙ e) g)
