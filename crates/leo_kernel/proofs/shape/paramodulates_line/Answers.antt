use Rattle.leo_kernel.proofs.Lookups.{step-there, clause-there, literal-within}
use Rattle.leo_kernel.proofs.shape.paramodulates_line.Goals as goal

pub paramodulates-requires-clause-source : goal.paramodulates-requires-clause-source
paramodulates-requires-clause-source c = (step-there c.args.bank.now c.args.lines.now c.args.source c.index-lines-source.result c.requires.line c.index-lines-source.is c.requires.lines).clause_of

pub paramodulates-requires-clause-target : goal.paramodulates-requires-clause-target
paramodulates-requires-clause-target c = (step-there c.args.bank.now c.args.lines.now c.args.target c.index-lines-target.result c.requires.target c.index-lines-target.is c.requires.lines).clause_of

pub paramodulates-requires-clause-place : goal.paramodulates-requires-clause-place
paramodulates-requires-clause-place c = literal-within c.args.bank.now c.args.lines.now c.args.source c.index-lines-source.result c.requires.line c.index-lines-source.is c.args.place c.requires.literal

pub paramodulates-requires-clause-target_place : goal.paramodulates-requires-clause-target_place
paramodulates-requires-clause-target_place c = literal-within c.args.bank.now c.args.lines.now c.args.target c.index-lines-target.result c.requires.target c.index-lines-target.is c.args.target_place c.requires.target_literal

pub paramodulates-requires-clause-there : goal.paramodulates-requires-clause-there
paramodulates-requires-clause-there c = rw (clause-there c.args.bank.now c.args.lines.now c.args.target c.index-lines-target.result c.requires.target c.index-lines-target.is) at c.literal-target_lit.ensures.reads

pub paramodulates-requires-clause-leads : goal.paramodulates-requires-clause-leads
paramodulates-requires-clause-leads c = rw c.literal-target_lit.ensures.reads at c.requires.leads

pub returns-clause-value : goal.returns-clause-value
returns-clause-value c = rw (c.literal-lit.ensures.reads, c.literal-target_lit.ensures.reads, clause-there c.args.bank.now c.args.lines.now c.args.source c.index-lines-source.result c.requires.line c.index-lines-source.is, clause-there c.args.bank.now c.args.lines.now c.args.target c.index-lines-target.result c.requires.target c.index-lines-target.is) c.in_ok-holds.ensures.value
