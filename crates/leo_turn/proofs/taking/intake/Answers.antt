use Rattle.std.proofs.Common.{◌∙◌, ap, length, arith, ◌≤◌}
use Rattle.leo_turn.specs.declared.marks.Mark.{Mark}
use Rattle.leo_turn.specs.Changing.{cut_to}
use Rattle.leo_turn.proofs.Growing.{cut-back, grows-itself, reaches-grown}
use Rattle.leo_turn.proofs.Valid.{search-grow}
use Rattle.leo_turn.proofs.taking.intake.Goals as goal

pub cut-requires : goal.cut-requires
cut-requires c = rw c.marked-before.ensures (let few : length c.take_in.new.search.kept ≤ 200000 = c.take_in.ensures.longer.few c.requires.search.few in reaches-grown c.take_in.ensures.longer c.requires.search.shared.passive_below (omega arith))

pub returns-in-Err-clause-err : goal.returns-in-Err-clause-err
returns-in-Err-clause-err c = c.cut.ensures ∙ ap (λ (m : Mark). cut_to m c.take_in.new.search) c.marked-before.ensures ∙ cut-back c.take_in.ensures.longer c.requires.search.shared.passive_below

pub returns-in-Err-clause-search : goal.returns-in-Err-clause-search
returns-in-Err-clause-search c = rw (c.cut.ensures, c.marked-before.ensures, cut-back c.take_in.ensures.longer c.requires.search.shared.passive_below) (search-grow c.take_in.ensures.grows c.args.search.now c.requires.search)

pub returns-in-Err-clause-longer : goal.returns-in-Err-clause-longer
returns-in-Err-clause-longer c = rw (c.cut.ensures, c.marked-before.ensures, cut-back c.take_in.ensures.longer c.requires.search.shared.passive_below) (grows-itself c.args.search.now)
