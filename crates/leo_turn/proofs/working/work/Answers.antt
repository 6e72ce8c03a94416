use Rattle.std.proofs.Common.{ℕ, ◌≡◌, ◌-◌, List, map, slice_get, Some, length, sym, subst}
use Rattle.leo_terms.proofs.CallerLemmas.{extends-itself, extends-trans}
use Rattle.leo_clause.specs.declared.record.StepRecord.{StepRecord}
use Rattle.leo_clause.specs.Trees.{clause_at}
use Rattle.leo_clause.specs.Typed.{IsTypedIn}
use Rattle.leo_conclude.specs.declared.concluding.Conclusion.{Conclusion}
use Rattle.leo_conclude.specs.Conclusions.{AreConclusions}
use Rattle.leo_conclude.specs.Leaving.{AreConstraints, AreNumbersOf}
use Rattle.leo_conclude.specs.Results.{AreConclusionsOf, conclusion_clause}
use Rattle.leo_turn.specs.Changing.{AreAppended, with_lines}
use Rattle.leo_turn.specs.Turns.{TakesEach}
use Rattle.leo_turn.specs.Working.{Makes}
use Rattle.leo_turn.proofs.Growing.{grows-lines, grows-trans}
use Rattle.leo_turn.proofs.Lists.{stands-at}
use Rattle.leo_turn.proofs.Valid.{search-grow}
use Rattle.leo_turn.proofs.Worked.{due-conclusions, due-constraints, due-from, due-numbers, due-typed, due-worked, last-there, search-appended}
use Rattle.leo_turn.proofs.working.work.Goals as goal

pub append_records-requires : goal.append_records-requires
append_records-requires c = rw c.as_slice-records.ensures c.requires.due.ready

pub returns-in_err-append_records-clause-longer : goal.returns-in_err-append_records-clause-longer
returns-in_err-append_records-clause-longer c = grows-lines c.args.search.now c.append_records.new.lines c.append_records.ensures.longer

pub returns-in_err-append_records-clause-grows : goal.returns-in_err-append_records-clause-grows
returns-in_err-append_records-clause-grows c = extends-itself c.is_sound.ensures.sound

pub conclusions-requires-clause-clause : goal.conclusions-requires-clause-clause
conclusions-requires-clause-clause c =
    let appended : AreAppended c.args.bank.now c.args.due.now.records c.args.search.now.lines c.append_records.new.lines = rw c.as_slice-records.ensures at c.in_ok-append_records.ensures.appended in
    let there = last-there c.args.bank.now c.args.due.now.records c.args.search.now.lines c.append_records.new.lines appended c.requires.due.some in
    let get : slice_get c.append_records.new.lines (length c.append_records.new.lines - 1) ≡ Some c.index-as_slice-line.result = stands-at c.append_records.new.lines (length c.append_records.new.lines - 1) c.index-as_slice-line.result there (rw (c.as_slice.ensures, c.len.ensures) at c.index-as_slice-line.is) in
    subst (λ (s : StepRecord). IsTypedIn c.args.bank.now s.clause) c.index-as_slice-line.is (due-typed c.args.bank.now c.args.search.now c.args.first.now c.args.due.now c.append_records.new.lines c.index-as_slice-line.result c.requires.search c.requires.due appended c.append_records.ensures.longer get)

pub conclusions-requires-clause-numbers : goal.conclusions-requires-clause-numbers
conclusions-requires-clause-numbers c =
    let appended : AreAppended c.args.bank.now c.args.due.now.records c.args.search.now.lines c.append_records.new.lines = rw c.as_slice-records.ensures at c.in_ok-append_records.ensures.appended in
    let there = last-there c.args.bank.now c.args.due.now.records c.args.search.now.lines c.append_records.new.lines appended c.requires.due.some in
    let get : slice_get c.append_records.new.lines (length c.append_records.new.lines - 1) ≡ Some c.index-as_slice-line.result = stands-at c.append_records.new.lines (length c.append_records.new.lines - 1) c.index-as_slice-line.result there (rw (c.as_slice.ensures, c.len.ensures) at c.index-as_slice-line.is) in
    rw c.as_slice-2.ensures (subst (λ (s : StepRecord). AreNumbersOf s.clause.lits c.args.due.now.pairs) c.index-as_slice-line.is (due-numbers c.args.bank.now c.args.search.now c.args.first.now c.args.due.now c.append_records.new.lines c.index-as_slice-line.result c.requires.search c.requires.due appended c.append_records.ensures.longer get))

pub conclusions-requires-clause-constraints : goal.conclusions-requires-clause-constraints
conclusions-requires-clause-constraints c =
    let appended : AreAppended c.args.bank.now c.args.due.now.records c.args.search.now.lines c.append_records.new.lines = rw c.as_slice-records.ensures at c.in_ok-append_records.ensures.appended in
    let there = last-there c.args.bank.now c.args.due.now.records c.args.search.now.lines c.append_records.new.lines appended c.requires.due.some in
    let get : slice_get c.append_records.new.lines (length c.append_records.new.lines - 1) ≡ Some c.index-as_slice-line.result = stands-at c.append_records.new.lines (length c.append_records.new.lines - 1) c.index-as_slice-line.result there (rw (c.as_slice.ensures, c.len.ensures) at c.index-as_slice-line.is) in
    rw c.as_slice-2.ensures (subst (λ (s : StepRecord). AreConstraints (clause_at c.args.bank.now s.clause).literals c.args.due.now.pairs) c.index-as_slice-line.is (due-constraints c.args.bank.now c.args.search.now c.args.first.now c.args.due.now c.append_records.new.lines c.index-as_slice-line.result c.requires.search c.requires.due appended c.append_records.ensures.longer get))

pub returns-in_err-found-clause-longer : goal.returns-in_err-found-clause-longer
returns-in_err-found-clause-longer c = grows-lines c.args.search.now c.append_records.new.lines c.append_records.ensures.longer

pub take_conclusions-requires-clause-search : goal.take_conclusions-requires-clause-search
take_conclusions-requires-clause-search c = search-grow c.conclusions.ensures.grows (with_lines c.args.search.now c.append_records.new.lines) (search-appended c.args.bank.now c.args.search.now c.args.due.now.records c.append_records.new.lines c.requires.search (rw c.as_slice-records.ensures at c.in_ok-append_records.ensures.appended) c.append_records.ensures.longer (due-from c.args.bank.now c.args.search.now c.args.first.now c.args.due.now c.requires.search c.requires.due))

pub take_conclusions-requires-clause-conclusions : goal.take_conclusions-requires-clause-conclusions
take_conclusions-requires-clause-conclusions c =
    let appended : AreAppended c.args.bank.now c.args.due.now.records c.args.search.now.lines c.append_records.new.lines = rw c.as_slice-records.ensures at c.in_ok-append_records.ensures.appended in
    let there = last-there c.args.bank.now c.args.due.now.records c.args.search.now.lines c.append_records.new.lines appended c.requires.due.some in
    let get : slice_get c.append_records.new.lines (length c.append_records.new.lines - 1) ≡ Some c.index-as_slice-line.result = stands-at c.append_records.new.lines (length c.append_records.new.lines - 1) c.index-as_slice-line.result there (rw (c.as_slice.ensures, c.len.ensures) at c.index-as_slice-line.is) in
    let each : AreConclusionsOf c.conclusions.new.bank (clause_at c.args.bank.now c.index-as_slice-line.result.clause) c.in_ok-found.found = subst (λ (s : StepRecord). AreConclusionsOf c.conclusions.new.bank (clause_at c.args.bank.now s.clause) c.in_ok-found.found) (sym c.index-as_slice-line.is) c.in_ok-found.ensures.each in
    rw (c.as_slice-3.ensures, c.len.ensures) (due-conclusions c.args.bank.now c.args.search.now c.args.first.now c.args.due.now c.append_records.new.lines c.index-as_slice-line.result c.requires.search c.requires.due appended c.append_records.ensures.longer get c.conclusions.ensures.grows c.in_ok-found.found each)

pub returns-in_err-take_conclusions-clause-longer : goal.returns-in_err-take_conclusions-clause-longer
returns-in_err-take_conclusions-clause-longer c = grows-trans (grows-lines c.args.search.now c.append_records.new.lines c.append_records.ensures.longer) c.take_conclusions.ensures.longer

pub returns-in_err-take_conclusions-clause-grows : goal.returns-in_err-take_conclusions-clause-grows
returns-in_err-take_conclusions-clause-grows c = extends-trans c.conclusions.ensures.grows c.take_conclusions.ensures.grows

pub returns-clause-longer : goal.returns-clause-longer
returns-clause-longer c = grows-trans (grows-lines c.args.search.now c.append_records.new.lines c.append_records.ensures.longer) c.take_conclusions.ensures.longer

pub returns-clause-grows : goal.returns-clause-grows
returns-clause-grows c = extends-trans c.conclusions.ensures.grows c.take_conclusions.ensures.grows

pub returns-clause-worked : goal.returns-clause-worked
returns-clause-worked c =
    let appended : AreAppended c.args.bank.now c.args.due.now.records c.args.search.now.lines c.append_records.new.lines = rw c.as_slice-records.ensures at c.in_ok-append_records.ensures.appended in
    let there = last-there c.args.bank.now c.args.due.now.records c.args.search.now.lines c.append_records.new.lines appended c.requires.due.some in
    let get : slice_get c.append_records.new.lines (length c.append_records.new.lines - 1) ≡ Some c.index-as_slice-line.result = stands-at c.append_records.new.lines (length c.append_records.new.lines - 1) c.index-as_slice-line.result there (rw (c.as_slice.ensures, c.len.ensures) at c.index-as_slice-line.is) in
    let are : AreConclusions (clause_at c.args.bank.now c.index-as_slice-line.result.clause) c.args.search.now.depth c.args.due.now.pairs (map (conclusion_clause c.conclusions.new.bank) c.in_ok-found.found) = subst (λ (ns : List ℕ). AreConclusions (clause_at c.args.bank.now c.index-as_slice-line.result.clause) c.args.search.now.depth ns (map (conclusion_clause c.conclusions.new.bank) c.in_ok-found.found)) c.as_slice-2.ensures (subst (λ (s : StepRecord). AreConclusions (clause_at c.args.bank.now s.clause) c.args.search.now.depth c.as_slice-2.result.now (map (conclusion_clause c.conclusions.new.bank) c.in_ok-found.found)) (sym c.index-as_slice-line.is) c.in_ok-found.ensures.conclusions) in
    let taken : Makes c.conclusions.new.bank c.take_conclusions.new.bank (with_lines c.args.search.now c.append_records.new.lines) c.take_conclusions.new.search (λ setting. TakesEach setting (Some setting.weight) (map (conclusion_clause c.conclusions.new.bank) c.in_ok-found.found)) = subst (λ (us : List Conclusion). Makes c.conclusions.new.bank c.take_conclusions.new.bank (with_lines c.args.search.now c.append_records.new.lines) c.take_conclusions.new.search (λ setting. TakesEach setting (Some setting.weight) (map (conclusion_clause c.conclusions.new.bank) us))) c.as_slice-3.ensures c.in_ok-take_conclusions.ensures.taken in
    due-worked c.args.bank.now c.args.search.now c.args.first.now c.args.due.now c.append_records.new.lines c.index-as_slice-line.result c.requires.search c.requires.due appended c.append_records.ensures.longer get c.conclusions.ensures.grows c.in_ok-found.found c.take_conclusions.new.bank c.take_conclusions.new.search are taken
