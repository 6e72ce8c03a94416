use Rattle.leo_terms.specs.Contents.{tree_at, argument, connective}
use Rattle.leo_terms.proofs.CallerLemmas.{reads-logic}
use Rattle.leo_kernel.proofs.ChosenSteps.{leads-first, leads-second, apart-logic}
use Rattle.leo_kernel.proofs.chosen_matching.from_logic.Goals as goal

pub into_argument-requires-clause-leads : goal.into_argument-requires-clause-leads
into_argument-requires-clause-leads c =
    leads-second (tree_at c.args.bank.now c.args.s) (tree_at c.args.bank.now c.args.t) (argument (tree_at c.args.bank.now) c.args.x) (argument (tree_at c.args.bank.now) c.args.y) (argument (tree_at c.args.bank.now) c.in-Logic.z) (argument (tree_at c.args.bank.now) c.in-Logic.w)
    (connective c.args.bank.now c.args.op) (connective c.args.bank.now c.in-Logic.field-0) c.requires.reads (reads-logic c.in-Logic.ensures.sound c.args.t c.in-Logic.field-0 c.in-Logic.z c.in-Logic.w c.in-Logic.ensures.view)

pub into_argument-requires-else-first-second-clause-leads : goal.into_argument-requires-else-first-second-clause-leads
into_argument-requires-else-first-second-clause-leads c =
    leads-first (tree_at c.args.bank.now c.args.s) (tree_at c.args.bank.now c.args.t) (argument (tree_at c.args.bank.now) c.args.x) (argument (tree_at c.args.bank.now) c.args.y) (argument (tree_at c.args.bank.now) c.in-Logic.z) (argument (tree_at c.args.bank.now) c.in-Logic.w)
    (connective c.args.bank.now c.args.op) (connective c.args.bank.now c.in-Logic.field-0) c.requires.reads (reads-logic c.in-Logic.ensures.sound c.args.t c.in-Logic.field-0 c.in-Logic.z c.in-Logic.w c.in-Logic.ensures.view)

pub returns-in_default : goal.returns-in_default
returns-in_default c = apart-logic c.args.bank.now c.view.ensures.sound c.args.t c.view.result c.view.ensures.view (tree_at c.args.bank.now c.args.s) c.in_default.not-Logic (connective c.args.bank.now c.args.op) (argument (tree_at c.args.bank.now) c.args.x) (argument (tree_at c.args.bank.now) c.args.y) c.requires.reads
