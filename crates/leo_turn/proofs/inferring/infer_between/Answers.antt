use Rattle.std.proofs.Common.{◌≡◌, ◌<◌, List, length, map, slice_get, Some, subst}
use Rattle.std.specs.Prelude.{slice_index_or}
use Rattle.leo_terms.proofs.CallerLemmas.{extends-trans}
use Rattle.leo_clause.specs.Trees.{clause_at}
use Rattle.leo_para.specs.declared.member.Due.{Due}
use Rattle.leo_para.specs.Dues.{AreDue}
use Rattle.leo_turn.specs.Turns.{WorksEach}
use Rattle.leo_turn.specs.Working.{Makes, constrained_at}
use Rattle.leo_turn.proofs.Growing.{grows-itself}
use Rattle.leo_turn.proofs.Inferred.{between-due, between-inferred, between-trees}
use Rattle.leo_turn.proofs.Lists.{stands-at, stands-there}
use Rattle.leo_turn.proofs.Places.{kept-at, kept-typed}
use Rattle.leo_turn.proofs.Valid.{search-grow}
use Rattle.leo_turn.proofs.inferring.infer_between.Goals as goal

pub para-requires-clause-from : goal.para-requires-clause-from
para-requires-clause-from c =
    let first : slice_get c.args.search.now.kept c.args.source ≡ Some c.index-clauses-source.result = stands-at c.args.search.now.kept c.args.source c.index-clauses-source.result c.requires.source (rw c.clauses-clauses.ensures at c.index-clauses-source.is) in
    let second : slice_get c.args.search.now.kept c.args.target ≡ Some c.index-clauses-target.result = stands-at c.args.search.now.kept c.args.target c.index-clauses-target.result c.requires.target (rw c.clauses-clauses.ensures at c.index-clauses-target.is) in
    kept-typed c.args.bank.now c.args.search.now c.args.source c.index-clauses-source.result c.requires.search first

pub para-requires-clause-into : goal.para-requires-clause-into
para-requires-clause-into c =
    let first : slice_get c.args.search.now.kept c.args.source ≡ Some c.index-clauses-source.result = stands-at c.args.search.now.kept c.args.source c.index-clauses-source.result c.requires.source (rw c.clauses-clauses.ensures at c.index-clauses-source.is) in
    let second : slice_get c.args.search.now.kept c.args.target ≡ Some c.index-clauses-target.result = stands-at c.args.search.now.kept c.args.target c.index-clauses-target.result c.requires.target (rw c.clauses-clauses.ensures at c.index-clauses-target.is) in
    kept-typed c.args.bank.now c.args.search.now c.args.target c.index-clauses-target.result c.requires.search second

pub returns-in_err-dues-clause-longer : goal.returns-in_err-dues-clause-longer
returns-in_err-dues-clause-longer c = grows-itself c.args.search.now

pub bounds-at-source : goal.bounds-at-source
bounds-at-source c = rw (c.as_slice-at.ensures, kept-at c.args.bank.now c.args.search.now c.requires.search) c.requires.source

pub bounds-at-target : goal.bounds-at-target
bounds-at-target c = rw (c.as_slice-at.ensures, kept-at c.args.bank.now c.args.search.now c.requires.search) c.requires.target

pub work_all-requires-clause-search : goal.work_all-requires-clause-search
work_all-requires-clause-search c = search-grow c.para.ensures.grows c.args.search.now c.requires.search

pub work_all-requires-clause-dues : goal.work_all-requires-clause-dues
work_all-requires-clause-dues c =
    let first : slice_get c.args.search.now.kept c.args.source ≡ Some c.index-clauses-source.result = stands-at c.args.search.now.kept c.args.source c.index-clauses-source.result c.requires.source (rw c.clauses-clauses.ensures at c.index-clauses-source.is) in
    let second : slice_get c.args.search.now.kept c.args.target ≡ Some c.index-clauses-target.result = stands-at c.args.search.now.kept c.args.target c.index-clauses-target.result c.requires.target (rw c.clauses-clauses.ensures at c.index-clauses-target.is) in
    let due : AreDue c.para.new.bank (clause_at c.args.bank.now c.index-clauses-source.result) (clause_at c.args.bank.now c.index-clauses-target.result) c.in_ok-dues.dues = c.in_ok-dues.ensures.due in
    let one : c.args.source < length c.args.search.now.at = rw (kept-at c.args.bank.now c.args.search.now c.requires.search) c.requires.source in
    let two : c.args.target < length c.args.search.now.at = rw (kept-at c.args.bank.now c.args.search.now c.requires.search) c.requires.target in
    rw (c.as_slice.ensures, c.as_slice-at.ensures) (between-due c.para.ensures.grows c.args.search.now c.args.source c.args.target (slice_index_or c.args.search.now.at c.args.source 0) (slice_index_or c.args.search.now.at c.args.target 0) c.index-clauses-source.result c.index-clauses-target.result c.in_ok-dues.dues c.requires.search first second due c.due_laws.ensures.symbols c.due_laws.ensures.bases (stands-there c.args.search.now.at c.args.source one) (stands-there c.args.search.now.at c.args.target two))

pub returns-in_err-work_all-clause-grows : goal.returns-in_err-work_all-clause-grows
returns-in_err-work_all-clause-grows c = extends-trans c.para.ensures.grows c.work_all.ensures.grows

pub returns-clause-grows : goal.returns-clause-grows
returns-clause-grows c = extends-trans c.para.ensures.grows c.work_all.ensures.grows

pub returns-clause-inferred : goal.returns-clause-inferred
returns-clause-inferred c =
    let first : slice_get c.args.search.now.kept c.args.source ≡ Some c.index-clauses-source.result = stands-at c.args.search.now.kept c.args.source c.index-clauses-source.result c.requires.source (rw c.clauses-clauses.ensures at c.index-clauses-source.is) in
    let second : slice_get c.args.search.now.kept c.args.target ≡ Some c.index-clauses-target.result = stands-at c.args.search.now.kept c.args.target c.index-clauses-target.result c.requires.target (rw c.clauses-clauses.ensures at c.index-clauses-target.is) in
    let due : AreDue c.para.new.bank (clause_at c.args.bank.now c.index-clauses-source.result) (clause_at c.args.bank.now c.index-clauses-target.result) c.in_ok-dues.dues = c.in_ok-dues.ensures.due in
    let worked : Makes c.para.new.bank c.work_all.new.bank c.args.search.now c.work_all.new.search (λ setting. WorksEach setting (map (constrained_at c.para.new.bank) c.in_ok-dues.dues)) = subst (λ (us : List Due). Makes c.para.new.bank c.work_all.new.bank c.args.search.now c.work_all.new.search (λ setting. WorksEach setting (map (constrained_at c.para.new.bank) us))) c.as_slice.ensures c.in_ok-work_all.ensures.worked in
    between-trees c.args.bank.now c.work_all.new.bank c.args.search.now c.work_all.new.search c.args.source c.args.target c.index-clauses-source.result c.index-clauses-target.result first second (between-inferred c.para.ensures.grows c.args.search.now c.args.source c.args.target (slice_index_or c.args.search.now.at c.args.source 0) (slice_index_or c.args.search.now.at c.args.target 0) c.index-clauses-source.result c.index-clauses-target.result c.in_ok-dues.dues c.requires.search first second due c.work_all.new.bank c.work_all.new.search worked)
