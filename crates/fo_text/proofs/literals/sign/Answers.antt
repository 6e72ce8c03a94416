use Rattle.std.proofs.Common.{subst, sym, length, ◌-◌}
use Rattle.fo_text.specs.Refusals.{Spells, Opens, Refuses}
use Rattle.fo_text.specs.Literals.{IsSign, spaced_sign}
use Rattle.fo_text.proofs.LiteralReading.{refuses-sign}
use Rattle.fo_text.proofs.literals.sign.Goals as goal

pub returns-clause-refused : goal.returns-clause-refused
returns-clause-refused c =
    subst (λ k. Refuses (Spells IsSign spaced_sign) (Opens IsSign spaced_sign) c.args.input.now (length c.args.input.now - k)) (sym c.larger.ensures)
    (refuses-sign c.args.input.now c.common-plus.result c.common-minus.result c.common-plus.ensures.count c.common-minus.ensures.count c.if-plus-eq3.false c.if-minus-eq3.false)
