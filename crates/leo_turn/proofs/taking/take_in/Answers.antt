use Rattle.std.proofs.Common.{List, Option, length, map, subst, ℕ}
use Rattle.leo_clausify.specs.declared.leaves.Leaf.{Leaf}
use Rattle.leo_turn.specs.Changing.{AreAnnounced}
use Rattle.leo_terms.proofs.CallerLemmas.{extends-trans}
use Rattle.leo_clause.specs.declared.choices.Abbr.{Abbr}
use Rattle.leo_clausify.specs.declared.leaves.Split.{Split}
use Rattle.leo_clausify.specs.declared.leaves.Split.TheVariants.{Clauses, Room}
use Rattle.leo_clausify.specs.Leaves.{IsSplit, leaf_clause}
use Rattle.leo_turn.specs.Intakes.{TakesAll, limit_if}
use Rattle.leo_turn.specs.Searches.{kept_of}
use Rattle.leo_turn.proofs.Growing.{grows-trans}
use Rattle.leo_turn.proofs.Taken.{converted-there, leaves-at, split-longer, split-new, taken-leaves, taken-room}
use Rattle.leo_turn.proofs.Valid.{search-grow}
use Rattle.leo_turn.proofs.taking.take_in.Goals as goal

pub returns-in_err-split-clause-grows : goal.returns-in_err-split-clause-grows
returns-in_err-split-clause-grows c = extends-trans c.convert.ensures.grows c.split.ensures.grows

pub returns-in-Room-clause-search : goal.returns-in-Room-clause-search
returns-in-Room-clause-search c = search-grow c.split.ensures.grows c.convert.new.search c.in_ok-clause.ensures.converted.search

pub returns-in-Room-clause-intakes : goal.returns-in-Room-clause-intakes
returns-in-Room-clause-intakes c =
    let with_abbr : IsSplit c.convert.new.bank c.split.new.bank c.convert.new.search.abbr c.split.new.abbr c.in_ok-clause.clause c.in_ok-split.field-0 = subst (λ (a : Abbr). IsSplit c.convert.new.bank c.split.new.bank a c.split.new.abbr c.in_ok-clause.clause c.in_ok-split.field-0) c.in_ok-abbr.ensures c.in_ok-split.ensures.split in
    let split : IsSplit c.convert.new.bank c.split.new.bank c.convert.new.search.abbr c.split.new.abbr c.in_ok-clause.clause Room = subst (λ (a : Split). IsSplit c.convert.new.bank c.split.new.bank c.convert.new.search.abbr c.split.new.abbr c.in_ok-clause.clause a) c.in-Room.is with_abbr in
    taken-room c.convert.ensures.grows c.args.search.now c.convert.new.search c.args.line c.in_ok-clause.clause c.requires.search c.in_ok-clause.ensures.converted c.split.ensures.grows (limit_if c.args.heavy c.args.search.now.weight) split.0

pub returns-in-Room-clause-grows : goal.returns-in-Room-clause-grows
returns-in-Room-clause-grows c = extends-trans c.convert.ensures.grows c.split.ensures.grows

pub introduce_all-requires-clause-search : goal.introduce_all-requires-clause-search
introduce_all-requires-clause-search c = search-grow c.split.ensures.grows c.convert.new.search c.in_ok-clause.ensures.converted.search

pub introduce_all-requires-clause-longer : goal.introduce_all-requires-clause-longer
introduce_all-requires-clause-longer c =
    let with_abbr : IsSplit c.convert.new.bank c.split.new.bank c.convert.new.search.abbr c.split.new.abbr c.in_ok-clause.clause c.in_ok-split.field-0 = subst (λ (a : Abbr). IsSplit c.convert.new.bank c.split.new.bank a c.split.new.abbr c.in_ok-clause.clause c.in_ok-split.field-0) c.in_ok-abbr.ensures c.in_ok-split.ensures.split in
    let split : IsSplit c.convert.new.bank c.split.new.bank c.convert.new.search.abbr c.split.new.abbr c.in_ok-clause.clause (Clauses c.in-Clauses.leaves) = subst (λ (a : Split). IsSplit c.convert.new.bank c.split.new.bank c.convert.new.search.abbr c.split.new.abbr c.in_ok-clause.clause a) c.in-Clauses.is with_abbr in
    rw c.as_slice.ensures (split-longer c.split.ensures.grows c.convert.new.search c.in_ok-clause.ensures.converted.search c.split.new.abbr 256 _ _ split.0 c.split.ensures.choices)

pub introduce_all-requires-clause-new : goal.introduce_all-requires-clause-new
introduce_all-requires-clause-new c =
    let with_abbr : IsSplit c.convert.new.bank c.split.new.bank c.convert.new.search.abbr c.split.new.abbr c.in_ok-clause.clause c.in_ok-split.field-0 = subst (λ (a : Abbr). IsSplit c.convert.new.bank c.split.new.bank a c.split.new.abbr c.in_ok-clause.clause c.in_ok-split.field-0) c.in_ok-abbr.ensures c.in_ok-split.ensures.split in
    let split : IsSplit c.convert.new.bank c.split.new.bank c.convert.new.search.abbr c.split.new.abbr c.in_ok-clause.clause (Clauses c.in-Clauses.leaves) = subst (λ (a : Split). IsSplit c.convert.new.bank c.split.new.bank c.convert.new.search.abbr c.split.new.abbr c.in_ok-clause.clause a) c.in-Clauses.is with_abbr in
    rw c.as_slice.ensures (split-new c.split.ensures.grows c.convert.new.search c.in_ok-clause.ensures.converted.search c.split.new.abbr 256 _ _ split.0 c.split.ensures.choices (length c.args.search.now.lines) (converted-there c.convert.ensures.grows c.args.search.now c.convert.new.search c.args.line c.in_ok-clause.clause c.requires.search c.in_ok-clause.ensures.converted))

pub returns-in_err-introduce_all-in-Clauses-clause-grows :
    goal.returns-in_err-introduce_all-in-Clauses-clause-grows
returns-in_err-introduce_all-in-Clauses-clause-grows c = extends-trans (extends-trans c.convert.ensures.grows c.split.ensures.grows) c.introduce_all.ensures.grows

pub returns-in_err-introduce_all-in-Clauses-clause-longer :
    goal.returns-in_err-introduce_all-in-Clauses-clause-longer
returns-in_err-introduce_all-in-Clauses-clause-longer c = grows-trans c.convert.ensures.longer c.introduce_all.ensures.longer

pub take_leaves-requires-clause-leaves : goal.take_leaves-requires-clause-leaves
take_leaves-requires-clause-leaves c =
    let with_abbr : IsSplit c.convert.new.bank c.split.new.bank c.convert.new.search.abbr c.split.new.abbr c.in_ok-clause.clause c.in_ok-split.field-0 = subst (λ (a : Abbr). IsSplit c.convert.new.bank c.split.new.bank a c.split.new.abbr c.in_ok-clause.clause c.in_ok-split.field-0) c.in_ok-abbr.ensures c.in_ok-split.ensures.split in
    let split : IsSplit c.convert.new.bank c.split.new.bank c.convert.new.search.abbr c.split.new.abbr c.in_ok-clause.clause (Clauses c.in-Clauses.leaves) = subst (λ (a : Split). IsSplit c.convert.new.bank c.split.new.bank c.convert.new.search.abbr c.split.new.abbr c.in_ok-clause.clause a) c.in-Clauses.is with_abbr in
    let ann : AreAnnounced c.introduce_all.new.bank c.convert.new.search c.introduce_all.new.search c.split.new.abbr.items = subst (AreAnnounced c.introduce_all.new.bank c.convert.new.search c.introduce_all.new.search) c.as_slice.ensures c.in_ok-introduce_all-in-Clauses.ensures.introduced in
    rw (c.len-start.ensures, c.as_slice-in-Clauses.ensures) (leaves-at c.convert.ensures.grows c.args.search.now c.convert.new.search c.args.line c.in_ok-clause.clause c.requires.search c.in_ok-clause.ensures.converted c.split.ensures.grows c.introduce_all.ensures.grows c.introduce_all.new.search c.split.new.abbr c.in-Clauses.leaves split.0 split.1 c.split.ensures.choices ann)

pub returns-in_err-take_leaves-in-Clauses-clause-longer :
    goal.returns-in_err-take_leaves-in-Clauses-clause-longer
returns-in_err-take_leaves-in-Clauses-clause-longer c = grows-trans (grows-trans c.convert.ensures.longer c.introduce_all.ensures.longer) c.take_leaves.ensures.longer

pub returns-in_err-take_leaves-in-Clauses-clause-grows :
    goal.returns-in_err-take_leaves-in-Clauses-clause-grows
returns-in_err-take_leaves-in-Clauses-clause-grows c = extends-trans (extends-trans c.convert.ensures.grows c.split.ensures.grows) c.introduce_all.ensures.grows

pub returns-clause-longer : goal.returns-clause-longer
returns-clause-longer c = grows-trans (grows-trans c.convert.ensures.longer c.introduce_all.ensures.longer) c.take_leaves.ensures.longer

pub returns-clause-grows : goal.returns-clause-grows
returns-clause-grows c = extends-trans (extends-trans c.convert.ensures.grows c.split.ensures.grows) c.introduce_all.ensures.grows

pub returns-clause-intakes : goal.returns-clause-intakes
returns-clause-intakes c =
    let with_abbr : IsSplit c.convert.new.bank c.split.new.bank c.convert.new.search.abbr c.split.new.abbr c.in_ok-clause.clause c.in_ok-split.field-0 = subst (λ (a : Abbr). IsSplit c.convert.new.bank c.split.new.bank a c.split.new.abbr c.in_ok-clause.clause c.in_ok-split.field-0) c.in_ok-abbr.ensures c.in_ok-split.ensures.split in
    let split : IsSplit c.convert.new.bank c.split.new.bank c.convert.new.search.abbr c.split.new.abbr c.in_ok-clause.clause (Clauses c.in-Clauses.leaves) = subst (λ (a : Split). IsSplit c.convert.new.bank c.split.new.bank c.convert.new.search.abbr c.split.new.abbr c.in_ok-clause.clause a) c.in-Clauses.is with_abbr in
    let ann : AreAnnounced c.introduce_all.new.bank c.convert.new.search c.introduce_all.new.search c.split.new.abbr.items = subst (AreAnnounced c.introduce_all.new.bank c.convert.new.search c.introduce_all.new.search) c.as_slice.ensures c.in_ok-introduce_all-in-Clauses.ensures.introduced in
    let with_limit : TakesAll (limit_if c.args.heavy c.args.search.now.weight) (kept_of c.introduce_all.new.bank c.introduce_all.new.search) (map (leaf_clause c.introduce_all.new.bank) c.as_slice-in-Clauses.result.now) (kept_of c.introduce_all.new.bank c.take_leaves.new.search) = subst (λ (l : Option ℕ). TakesAll l (kept_of c.introduce_all.new.bank c.introduce_all.new.search) (map (leaf_clause c.introduce_all.new.bank) c.as_slice-in-Clauses.result.now) (kept_of c.introduce_all.new.bank c.take_leaves.new.search)) c.limit-limit.ensures c.in_ok-take_leaves-in-Clauses.ensures.takes in
    let takes : TakesAll (limit_if c.args.heavy c.args.search.now.weight) (kept_of c.introduce_all.new.bank c.introduce_all.new.search) (map (leaf_clause c.introduce_all.new.bank) c.in-Clauses.leaves) (kept_of c.introduce_all.new.bank c.take_leaves.new.search) = subst (λ (ls : List Leaf). TakesAll (limit_if c.args.heavy c.args.search.now.weight) (kept_of c.introduce_all.new.bank c.introduce_all.new.search) (map (leaf_clause c.introduce_all.new.bank) ls) (kept_of c.introduce_all.new.bank c.take_leaves.new.search)) c.as_slice-in-Clauses.ensures with_limit in
    taken-leaves c.convert.ensures.grows c.args.search.now c.convert.new.search c.args.line c.in_ok-clause.clause c.requires.search c.in_ok-clause.ensures.converted c.split.ensures.grows c.introduce_all.ensures.grows c.introduce_all.new.search c.split.new.abbr c.in-Clauses.leaves split.0 split.1 c.split.ensures.choices ann (limit_if c.args.heavy c.args.search.now.weight) c.take_leaves.new.search takes c.in_ok-take_leaves-in-Clauses.ensures.same
