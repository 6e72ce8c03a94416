use Rattle.std.proofs.Common.{ℕ, Bool, ◌∙◌, ◌++◌, [], nat_eq, ap, sym, subst}
use Rattle.std.specs.Prelude.{if◌then◌else◌}
use Rattle.fo_super.specs.Members.{superpositions}
use Rattle.fo_super.specs.Sifting.{AreListed}
use Rattle.fo_super.proofs.Answering.{other-number, same-number}
use Rattle.fo_super.proofs.Sifted.{listed-append, listed-end}
use Rattle.fo_super.proofs.candidates.list_meeting.Goals as goal

pub returns-then-given-number : goal.returns-then-given-number
returns-then-given-number c = λ clauses d e.
    subst (λ (b : Bool). AreListed clauses (superpositions c.args.given c.args.clause.now.lits c.args.number c.args.partner.now.lits ++ (if b then [] else superpositions c.args.number c.args.partner.now.lits c.args.given c.args.clause.now.lits)) c.args.out.now c.list_superpositions.new.out)
    (sym (ap (nat_eq c.args.given) (sym c.if-given-number.true) ∙ same-number c.args.given))
    (listed-end clauses _ c.args.out.now c.list_superpositions.new.out (c.in_ok-list_superpositions.ensures clauses d e))

pub returns : goal.returns
returns c = λ clauses d e.
    subst (λ (b : Bool). AreListed clauses (superpositions c.args.given c.args.clause.now.lits c.args.number c.args.partner.now.lits ++ (if b then [] else superpositions c.args.number c.args.partner.now.lits c.args.given c.args.clause.now.lits)) c.args.out.now c.list_superpositions-2.new.out)
    (sym (other-number c.args.given c.args.number c.if-given-number.false))
    (listed-append clauses _ _ c.args.out.now c.list_superpositions.new.out c.list_superpositions-2.new.out (c.in_ok-list_superpositions.ensures clauses d e) (c.in_ok-list_superpositions-2.ensures clauses e d))
