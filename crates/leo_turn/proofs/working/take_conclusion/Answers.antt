use Rattle.leo_terms.proofs.CallerLemmas.{extends-itself}
use Rattle.leo_turn.proofs.Growing.{grows-lines, grows-trans}
use Rattle.leo_turn.proofs.Worked.{conclusion-from, conclusion-ready, conclusion-taken, last-there, search-appended}
use Rattle.leo_turn.proofs.working.take_conclusion.Goals as goal

pub append_records-requires : goal.append_records-requires
append_records-requires c = rw c.as_slice-records.ensures (conclusion-ready c.args.bank.now c.args.search.now c.args.start c.args.conclusion.now c.requires.conclusion)

pub returns-in_err-append_records-clause-longer : goal.returns-in_err-append_records-clause-longer
returns-in_err-append_records-clause-longer c = grows-lines c.args.search.now c.append_records.new.lines c.append_records.ensures.longer

pub returns-in_err-append_records-clause-grows : goal.returns-in_err-append_records-clause-grows
returns-in_err-append_records-clause-grows c = extends-itself c.is_sound.ensures.sound

pub intake-requires-clause-search : goal.intake-requires-clause-search
intake-requires-clause-search c = search-appended c.args.bank.now c.args.search.now c.args.conclusion.now.records c.append_records.new.lines c.requires.search (rw c.as_slice-records.ensures at c.in_ok-append_records.ensures.appended) c.append_records.ensures.longer (conclusion-from c.args.bank.now c.args.search.now c.args.start c.args.conclusion.now c.requires.search c.requires.conclusion)

pub intake-requires-clause-line : goal.intake-requires-clause-line
intake-requires-clause-line c = rw c.len.ensures (last-there c.args.bank.now c.args.conclusion.now.records c.args.search.now.lines c.append_records.new.lines (rw c.as_slice-records.ensures at c.in_ok-append_records.ensures.appended) c.requires.conclusion.conclusion.some)

pub returns-in_err-intake-clause-longer : goal.returns-in_err-intake-clause-longer
returns-in_err-intake-clause-longer c = grows-trans (grows-lines c.args.search.now c.append_records.new.lines c.append_records.ensures.longer) c.intake.ensures.longer

pub returns-clause-longer : goal.returns-clause-longer
returns-clause-longer c = grows-trans (grows-lines c.args.search.now c.append_records.new.lines c.append_records.ensures.longer) c.intake.ensures.longer

pub returns-clause-taken : goal.returns-clause-taken
returns-clause-taken c = conclusion-taken c.args.bank.now c.intake.new.bank c.args.search.now c.intake.new.search c.args.start c.args.conclusion.now c.append_records.new.lines c.requires.search c.requires.conclusion (rw c.as_slice-records.ensures at c.in_ok-append_records.ensures.appended) (rw c.len.ensures at c.in_ok-intake.ensures.intakes)
