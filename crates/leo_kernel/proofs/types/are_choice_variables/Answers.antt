use Rattle.leo_kernel.proofs.TypeRules.{choice-base, choice-apart, choice-decides}
use Rattle.leo_kernel.proofs.types.are_choice_variables.Goals as goal

pub returns-in-Base : goal.returns-in-Base
returns-in-Base c = choice-base c.args.bank.now c.is_sound.ensures.sound c.args.vars.now c.requires c.index-vars-0.result c.index-vars-1.result c.if-vars-ne2.false c.index-vars-0.is c.index-vars-1.is _ c.in-Base.ensures.view

pub returns-then-ne : goal.returns-then-ne
returns-then-ne c = choice-apart c.args.bank.now c.is_sound.ensures.sound c.args.vars.now c.requires c.index-vars-0.result c.index-vars-1.result c.if-vars-ne2.false c.index-vars-0.is c.index-vars-1.is c.in-Arrow.from c.in-Arrow.to c.in-Arrow.ensures.view c.ne.result c.ne.ensures c.if-ne.true

pub returns-else-ne : goal.returns-else-ne
returns-else-ne c = choice-decides c.args.bank.now c.is_sound.ensures.sound c.args.vars.now c.requires c.index-vars-0.result c.index-vars-1.result c.if-vars-ne2.false c.index-vars-0.is c.index-vars-1.is c.in-Arrow.from c.in-Arrow.to c.in-Arrow.ensures.view c.ne.result c.eq.result c.truth.result c.ne.ensures c.if-ne.false c.truth.ensures c.eq.ensures
