use Rattle.leo_ext.proofs.Adding.{lit-stands}
use Rattle.leo_terms.proofs.CallerLemmas.{extends-itself}
use Rattle.leo_ext.proofs.ChoiceMembers.{of-none}
use Rattle.leo_ext.proofs.FunctionMembers.{extended-different, extended-equal, extended-other, literal-typed}
use Rattle.leo_ext.proofs.func_ext.put_extended_at.Goals as goal

pub arrow_of-requires-clause-lit : goal.arrow_of-requires-clause-lit
arrow_of-requires-clause-lit c = lit-stands c.args.bank.now c.args.clause.now.lits c.args.at c.args.lit.now c.requires.clause.of_bank.literals_of c.requires.lit

pub arrow_of-requires-clause-same_type : goal.arrow_of-requires-clause-same_type
arrow_of-requires-clause-same_type c = (literal-typed c.args.bank.now c.args.clause.now c.args.at c.args.lit.now c.requires.clause c.requires.lit).same_type

pub returns-in_default-clause-made : goal.returns-in_default-clause-made
returns-in_default-clause-made c = extended-other c.args.bank.now c.is_sound.ensures.sound c.args.choices.now.items c.args.clause.now c.args.at c.args.lit.now c.args.extended.now.items c.requires.in_order (of-none c.arrow_of.result _ _ c.in_default.not-Some c.arrow_of.ensures)

pub returns-in_default-clause-grows : goal.returns-in_default-clause-grows
returns-in_default-clause-grows c = extends-itself c.is_sound.ensures.sound

pub returns-then-lit-clause-made : goal.returns-then-lit-clause-made
returns-then-lit-clause-made c = extended-equal c.equal_at.ensures.grows c.args.choices.now.items c.args.clause.now c.args.at c.args.lit.now c.in_ok-next.next c.args.extended.now.items c.push.new.self.items c.requires.in_order c.in-Some.ensures.arrow c.if-lit.true c.in_ok-next.ensures.made c.in_ok-push.ensures.items

pub returns-clause-made : goal.returns-clause-made
returns-clause-made c = extended-different c.different_at.ensures.grows c.args.choices.now.items c.different_at.new.choices.items c.args.clause.now c.args.at c.args.lit.now c.in_ok-next-2.next c.args.extended.now.items c.push-2.new.self.items c.in-Some.ensures.arrow c.if-lit.false c.in_ok-next-2.ensures.made c.in_ok-push-2.ensures.items
