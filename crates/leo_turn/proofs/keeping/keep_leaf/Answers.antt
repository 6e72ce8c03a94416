use Rattle.std.proofs.Common.{◌∙◌, ap}
use Rattle.leo_clause.specs.declared.clause.Clause.{Clause}
use Rattle.leo_clause.specs.Trees.{clause_at}
use Rattle.leo_turn.specs.Searches.{passive_weight}
use Rattle.leo_turn.proofs.Growing.{grows-itself, grows-lines, grows-trans}
use Rattle.leo_turn.proofs.KeptLeaves.{kept-leaf, leaf-ready}
use Rattle.leo_turn.proofs.keeping.keep_leaf.Goals as goal

pub returns-in_err-clause-clause-longer : goal.returns-in_err-clause-clause-longer
returns-in_err-clause-clause-longer c = grows-itself c.args.search.now

pub returns-in_err-first-clause-longer : goal.returns-in_err-first-clause-longer
returns-in_err-first-clause-longer c = grows-itself c.args.search.now

pub append_records-requires : goal.append_records-requires
append_records-requires c = rw (c.as_slice-2.ensures, c.in_ok-first.ensures, c.as_slice.ensures, c.as_slice-records.ensures) (leaf-ready c.args.bank.now c.args.search.now c.args.start c.args.leaf.now c.requires.search c.requires.leaf)

pub returns-in_err-append_records-clause-longer : goal.returns-in_err-append_records-clause-longer
returns-in_err-append_records-clause-longer c = grows-lines c.args.search.now c.append_records.new.lines c.append_records.ensures.longer

pub returns-clause-kept : goal.returns-clause-kept
returns-clause-kept c = rw (c.in_ok-keep.ensures.kept, c.in_ok-clause.ensures, c.len.ensures) (kept-leaf c.args.bank.now c.args.search.now c.args.start c.weight-weight.result c.args.leaf.now c.front_of-front.result c.append_records.new.lines c.requires.search (rw c.in_ok-clause.ensures at c.front_of-front.ensures) c.requires.few c.requires.leaf (rw c.as_slice-records.ensures at c.in_ok-append_records.ensures.appended) c.append_records.ensures.longer (c.weight-weight.ensures ∙ ap (λ (k : Clause). passive_weight (clause_at c.args.bank.now k)) c.in_ok-clause.ensures))

pub returns-in_err-keep-clause-longer : goal.returns-in_err-keep-clause-longer
returns-in_err-keep-clause-longer c = grows-trans (grows-lines c.args.search.now c.append_records.new.lines c.append_records.ensures.longer) c.keep.ensures.longer

pub returns-clause-longer : goal.returns-clause-longer
returns-clause-longer c = grows-trans (grows-lines c.args.search.now c.append_records.new.lines c.append_records.ensures.longer) c.keep.ensures.longer
