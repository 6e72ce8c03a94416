use Rattle.std.proofs.Common.{sym, ◌∙◌, length, ◌-◌, subst}
use Rattle.fo_text.specs.Refusals.{Refuses, Spells, Opens}
use Rattle.fo_text.specs.Pieces.{IsKeyword, keyword_text}
use Rattle.fo_text.proofs.Keywords.{keyword-whole, refuses-keyword}
use Rattle.fo_text.proofs.field.keyword.Goals as goal

pub returns-then-count-word-clause-read : goal.returns-then-count-word-clause-read
returns-then-count-word-clause-read c = keyword-whole c.args.input.now c.args.word.now c.split_at.result.0.now c.split_at.result.1.now c.common-count.result c.common-count.ensures.count c.if-count-word.true c.split_at.ensures.back

pub returns-else-count-word-clause-refused : goal.returns-else-count-word-clause-refused
returns-else-count-word-clause-refused c =
    subst (λ k. Refuses (Spells IsKeyword (keyword_text c.args.word.now)) (Opens IsKeyword (keyword_text c.args.word.now)) c.args.input.now (length c.args.input.now - k)) (sym c.common-count.ensures.count)
    (refuses-keyword c.args.input.now c.args.word.now (λ h. c.if-count-word.false (c.common-count.ensures.count ∙ h)))
