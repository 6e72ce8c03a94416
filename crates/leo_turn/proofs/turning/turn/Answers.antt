use Rattle.std.proofs.Common.{◌∙◌, ap, length, arith, ◌≤◌}
use Rattle.leo_turn.specs.declared.marks.Mark.{Mark}
use Rattle.leo_turn.specs.Changing.{cut_to}
use Rattle.leo_turn.proofs.Growing.{cut-back, reaches-grown}
use Rattle.leo_turn.proofs.Valid.{search-grow}
use Rattle.leo_turn.proofs.turning.turn.Goals as goal

pub cut-requires : goal.cut-requires
cut-requires c = rw c.marked-before.ensures (let few : length c.work.new.search.kept ≤ 200000 = c.in-Err.ensures.longer.few c.requires.search.few in reaches-grown c.in-Err.ensures.longer c.requires.search.shared.passive_below (omega arith))

pub returns-in-Err-clause-search : goal.returns-in-Err-clause-search
returns-in-Err-clause-search c = rw (c.cut.ensures, c.marked-before.ensures, cut-back c.in-Err.ensures.longer c.requires.search.shared.passive_below) (search-grow c.work.ensures.grows c.args.search.now c.requires.search)

pub returns-in-Err-clause-err : goal.returns-in-Err-clause-err
returns-in-Err-clause-err c = c.cut.ensures ∙ ap (λ (m : Mark). cut_to m c.work.new.search) c.marked-before.ensures ∙ cut-back c.in-Err.ensures.longer c.requires.search.shared.passive_below
