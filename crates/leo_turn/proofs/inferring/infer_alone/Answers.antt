use Rattle.std.proofs.Common.{◌≡◌, ◌<◌, List, length, map, slice_get, Some, subst}
use Rattle.std.specs.Prelude.{slice_index_or}
use Rattle.leo_terms.proofs.CallerLemmas.{extends-itself, extends-trans}
use Rattle.leo_clause.specs.declared.choices.Abbr.{Abbr}
use Rattle.leo_ext.specs.Joining.{AreUnaryIn}
use Rattle.leo_para.specs.declared.member.Due.{Due}
use Rattle.leo_turn.specs.Changing.{AreAnnounced}
use Rattle.leo_turn.specs.Turns.{WorksEach}
use Rattle.leo_turn.specs.Working.{Makes, constrained_at}
use Rattle.leo_turn.proofs.Alone.{unary-due, unary-inferred, unary-more, unary-new}
use Rattle.leo_turn.proofs.Growing.{grows-itself, grows-trans}
use Rattle.leo_turn.proofs.Inferred.{alone-tree}
use Rattle.leo_turn.proofs.Lists.{stands-at, stands-there}
use Rattle.leo_turn.proofs.Places.{kept-at, kept-typed}
use Rattle.leo_turn.proofs.Taken.{more-longer, more-new}
use Rattle.leo_turn.proofs.Valid.{search-grow}
use Rattle.leo_turn.proofs.inferring.infer_alone.Goals as goal

pub returns-in_err-abbr-clause-longer : goal.returns-in_err-abbr-clause-longer
returns-in_err-abbr-clause-longer c = grows-itself c.args.search.now

pub returns-in_err-abbr-clause-grows : goal.returns-in_err-abbr-clause-grows
returns-in_err-abbr-clause-grows c = extends-itself c.is_sound.ensures.sound

pub unary-requires-clause-clause : goal.unary-requires-clause-clause
unary-requires-clause-clause c =
    let stands : slice_get c.args.search.now.kept c.args.given ≡ Some c.index-clauses-given.result = stands-at c.args.search.now.kept c.args.given c.index-clauses-given.result c.requires.given (rw c.clauses.ensures at c.index-clauses-given.is) in
    kept-typed c.args.bank.now c.args.search.now c.args.given c.index-clauses-given.result c.requires.search stands

pub returns-in_err-dues-clause-longer : goal.returns-in_err-dues-clause-longer
returns-in_err-dues-clause-longer c = grows-itself c.args.search.now

pub introduce_all-requires-clause-search : goal.introduce_all-requires-clause-search
introduce_all-requires-clause-search c = search-grow c.unary.ensures.grows c.args.search.now c.requires.search

pub introduce_all-requires-clause-longer : goal.introduce_all-requires-clause-longer
introduce_all-requires-clause-longer c =
    let stands : slice_get c.args.search.now.kept c.args.given ≡ Some c.index-clauses-given.result = stands-at c.args.search.now.kept c.args.given c.index-clauses-given.result c.requires.given (rw c.clauses.ensures at c.index-clauses-given.is) in
    let u : AreUnaryIn c.args.bank.now c.unary.new.bank c.args.search.now.abbr.items c.unary.new.abbr.items c.index-clauses-given.result c.in_ok-dues.dues.items = subst (λ (a : Abbr). AreUnaryIn c.args.bank.now c.unary.new.bank a.items c.unary.new.abbr.items c.index-clauses-given.result c.in_ok-dues.dues.items) c.in_ok-abbr.ensures c.in_ok-dues.ensures.members in
    rw c.as_slice.ensures (more-longer c.unary.ensures.grows c.args.search.now c.requires.search c.unary.new.abbr.items (unary-more c.args.search.now c.index-clauses-given.result c.unary.new.abbr.items c.in_ok-dues.dues.items u) c.unary.ensures.in_order)

pub introduce_all-requires-clause-new : goal.introduce_all-requires-clause-new
introduce_all-requires-clause-new c =
    let stands : slice_get c.args.search.now.kept c.args.given ≡ Some c.index-clauses-given.result = stands-at c.args.search.now.kept c.args.given c.index-clauses-given.result c.requires.given (rw c.clauses.ensures at c.index-clauses-given.is) in
    let u : AreUnaryIn c.args.bank.now c.unary.new.bank c.args.search.now.abbr.items c.unary.new.abbr.items c.index-clauses-given.result c.in_ok-dues.dues.items = subst (λ (a : Abbr). AreUnaryIn c.args.bank.now c.unary.new.bank a.items c.unary.new.abbr.items c.index-clauses-given.result c.in_ok-dues.dues.items) c.in_ok-abbr.ensures c.in_ok-dues.ensures.members in
    let there : c.args.given < length c.args.search.now.at = rw (kept-at c.args.bank.now c.args.search.now c.requires.search) c.requires.given in
    rw c.as_slice.ensures (more-new c.unary.ensures.grows c.args.search.now c.requires.search c.unary.new.abbr.items (unary-more c.args.search.now c.index-clauses-given.result c.unary.new.abbr.items c.in_ok-dues.dues.items u) c.unary.ensures.in_order (unary-new c.unary.ensures.grows c.args.search.now c.index-clauses-given.result c.args.given (slice_index_or c.args.search.now.at c.args.given 0) c.unary.new.abbr.items c.in_ok-dues.dues.items c.requires.search stands (stands-there c.args.search.now.at c.args.given there) u c.unary_members_are_from_clause.ensures.choices))

pub returns-in_err-introduce_all-clause-grows : goal.returns-in_err-introduce_all-clause-grows
returns-in_err-introduce_all-clause-grows c = extends-trans c.unary.ensures.grows c.introduce_all.ensures.grows

pub bounds-as_slice-given : goal.bounds-as_slice-given
bounds-as_slice-given c =
    let ann : AreAnnounced c.introduce_all.new.bank c.args.search.now c.introduce_all.new.search c.unary.new.abbr.items = rw c.as_slice.ensures at c.in_ok-introduce_all.ensures.introduced in
    rw (c.as_slice-2.ensures, kept-at c.introduce_all.new.bank c.introduce_all.new.search ann.search, ann.kept) c.requires.given

pub returns-in_err-first-clause-grows : goal.returns-in_err-first-clause-grows
returns-in_err-first-clause-grows c = extends-trans c.unary.ensures.grows c.introduce_all.ensures.grows

pub work_all-requires-clause-dues : goal.work_all-requires-clause-dues
work_all-requires-clause-dues c =
    let stands : slice_get c.args.search.now.kept c.args.given ≡ Some c.index-clauses-given.result = stands-at c.args.search.now.kept c.args.given c.index-clauses-given.result c.requires.given (rw c.clauses.ensures at c.index-clauses-given.is) in
    let u : AreUnaryIn c.args.bank.now c.unary.new.bank c.args.search.now.abbr.items c.unary.new.abbr.items c.index-clauses-given.result c.in_ok-dues.dues.items = subst (λ (a : Abbr). AreUnaryIn c.args.bank.now c.unary.new.bank a.items c.unary.new.abbr.items c.index-clauses-given.result c.in_ok-dues.dues.items) c.in_ok-abbr.ensures c.in_ok-dues.ensures.members in
    let ann : AreAnnounced c.introduce_all.new.bank c.args.search.now c.introduce_all.new.search c.unary.new.abbr.items = rw c.as_slice.ensures at c.in_ok-introduce_all.ensures.introduced in
    let there : c.args.given < length c.introduce_all.new.search.at = rw (kept-at c.introduce_all.new.bank c.introduce_all.new.search ann.search, ann.kept) c.requires.given in
    rw (c.as_slice-5.ensures.value, c.as_slice-4.ensures, c.in_ok-first.ensures, c.as_slice-3.ensures, c.as_slice-2.ensures) (unary-due c.unary.ensures.grows c.introduce_all.ensures.grows c.args.search.now c.introduce_all.new.search c.index-clauses-given.result c.args.given (slice_index_or c.introduce_all.new.search.at c.args.given 0) c.unary.new.abbr.items c.in_ok-dues.dues.items c.requires.search stands u c.unary.ensures.in_order ann (stands-there c.introduce_all.new.search.at c.args.given there) c.unary_laws.ensures.accepted c.unary_laws.ensures.lines c.unary_laws.ensures.pairs c.unary_members_are_from_clause.ensures.lines)

pub returns-in_err-work_all-clause-longer : goal.returns-in_err-work_all-clause-longer
returns-in_err-work_all-clause-longer c = grows-trans c.introduce_all.ensures.longer c.work_all.ensures.longer

pub returns-in_err-work_all-clause-grows : goal.returns-in_err-work_all-clause-grows
returns-in_err-work_all-clause-grows c = extends-trans (extends-trans c.unary.ensures.grows c.introduce_all.ensures.grows) c.work_all.ensures.grows

pub returns-clause-longer : goal.returns-clause-longer
returns-clause-longer c = grows-trans c.introduce_all.ensures.longer c.work_all.ensures.longer

pub returns-clause-grows : goal.returns-clause-grows
returns-clause-grows c = extends-trans (extends-trans c.unary.ensures.grows c.introduce_all.ensures.grows) c.work_all.ensures.grows

pub returns-clause-inferred : goal.returns-clause-inferred
returns-clause-inferred c =
    let stands : slice_get c.args.search.now.kept c.args.given ≡ Some c.index-clauses-given.result = stands-at c.args.search.now.kept c.args.given c.index-clauses-given.result c.requires.given (rw c.clauses.ensures at c.index-clauses-given.is) in
    let u : AreUnaryIn c.args.bank.now c.unary.new.bank c.args.search.now.abbr.items c.unary.new.abbr.items c.index-clauses-given.result c.in_ok-dues.dues.items = subst (λ (a : Abbr). AreUnaryIn c.args.bank.now c.unary.new.bank a.items c.unary.new.abbr.items c.index-clauses-given.result c.in_ok-dues.dues.items) c.in_ok-abbr.ensures c.in_ok-dues.ensures.members in
    let ann : AreAnnounced c.introduce_all.new.bank c.args.search.now c.introduce_all.new.search c.unary.new.abbr.items = rw c.as_slice.ensures at c.in_ok-introduce_all.ensures.introduced in
    let there : c.args.given < length c.introduce_all.new.search.at = rw (kept-at c.introduce_all.new.bank c.introduce_all.new.search ann.search, ann.kept) c.requires.given in
    let worked : Makes c.introduce_all.new.bank c.work_all.new.bank c.introduce_all.new.search c.work_all.new.search (λ setting. WorksEach setting (map (constrained_at c.introduce_all.new.bank) c.in_ok-dues.dues.items)) = subst (λ (us : List Due). Makes c.introduce_all.new.bank c.work_all.new.bank c.introduce_all.new.search c.work_all.new.search (λ setting. WorksEach setting (map (constrained_at c.introduce_all.new.bank) us))) c.as_slice-5.ensures.value c.in_ok-work_all.ensures.worked in
    alone-tree c.args.bank.now c.work_all.new.bank c.args.search.now c.work_all.new.search c.args.given c.index-clauses-given.result stands (unary-inferred c.unary.ensures.grows c.introduce_all.ensures.grows c.args.search.now c.introduce_all.new.search c.index-clauses-given.result c.args.given (slice_index_or c.introduce_all.new.search.at c.args.given 0) c.unary.new.abbr.items c.in_ok-dues.dues.items c.requires.search stands u c.unary.ensures.in_order ann (stands-there c.introduce_all.new.search.at c.args.given there) c.unary_laws.ensures.accepted c.unary_laws.ensures.lines c.unary_laws.ensures.pairs c.unary_members_are_from_clause.ensures.lines c.work_all.new.bank c.work_all.new.search c.introduce_all.ensures.longer worked)
