use Rattle.std.proofs.Common.{rules, refl}
use Rattle.leo_tstp.proofs.Typing.{second-part, arrow-read, arrow-goes, open-type, closed-type}
use Rattle.leo_tstp.proofs.reading.source.Reader.+typing.Goals as goal

pub arrow-returns-in_err-b-clause-takes : goal.arrow-returns-in_err-b-clause-takes
arrow-returns-in_err-b-clause-takes t c = λ v a b rest h k.
    let s = second-part v _ _ _ _ _ _ a b _ rest h (c.in-Some.ensures.fit v c.args.self.now.lexicon a b h.shared k) c.pass.ensures.stays c.pass.ensures.passes c.in_ok-a.ensures.takes c.in_ok-a.ensures.goes c.in_ok-take.ensures.takes c.in_ok-take.ensures.stays in
    let w = c.in_err-b.ensures.takes v b _ s.ahead s.fits in
    search rules

pub arrow-returns-in_err-take-2-clause-takes : goal.arrow-returns-in_err-take-2-clause-takes
arrow-returns-in_err-take-2-clause-takes t c = λ v a b rest h k.
    let s = second-part v _ _ _ _ _ _ a b _ rest h (c.in-Some.ensures.fit v c.args.self.now.lexicon a b h.shared k) c.pass.ensures.stays c.pass.ensures.passes c.in_ok-a.ensures.takes c.in_ok-a.ensures.goes c.in_ok-take.ensures.takes c.in_ok-take.ensures.stays in
    let w = c.in_err-take-2.ensures.takes rest (c.in_ok-b.ensures.takes v b _ s.ahead s.fits).words in
    search rules

pub arrow-returns-clause-takes : goal.arrow-returns-clause-takes
arrow-returns-clause-takes t c = λ v a b rest h k.
    let s = second-part v _ _ _ _ _ _ a b _ rest h (c.in-Some.ensures.fit v c.args.self.now.lexicon a b h.shared k) c.pass.ensures.stays c.pass.ensures.passes c.in_ok-a.ensures.takes c.in_ok-a.ensures.goes c.in_ok-take.ensures.takes c.in_ok-take.ensures.stays in
    arrow-read v _ _ _ _ _ _ a b _ _ _ rest s c.in_ok-b.ensures.takes c.in_ok-b.ensures.goes c.in_ok-take-2.ensures.takes c.in_ok-take-2.ensures.stays c.in_ok-ty.ensures

pub arrow-returns-clause-goes : goal.arrow-returns-clause-goes
arrow-returns-clause-goes t c = arrow-goes _ _ _ _ _ _ _ _ _ c.pass.ensures.stays c.in_ok-a.ensures.goes c.in_ok-take.ensures.stays c.in_ok-b.ensures.goes c.in_ok-take-2.ensures.stays c.in_ok-ty.ensures

pub read_type-returns-then-sees-clause-takes : goal.read_type-returns-then-sees-clause-takes
read_type-returns-then-sees-clause-takes t c = open-type _ _ _ _ c.arrow.ensures.takes (c.if-sees.ensures.0 refl)

pub read_type-returns-else-sees-clause-takes : goal.read_type-returns-else-sees-clause-takes
read_type-returns-else-sees-clause-takes t c = closed-type _ _ _ _ c.base_type.ensures.takes (λ e. let w = c.if-sees.ensures.1 e in absurd (cc))
