use Rattle.std.proofs.Common.{◌≡◌, ◌++◌, [], ◌∷◌, ◌∙◌, rules, arith}
use Rattle.leo_lists.specs.Rings.{own_link}
use Rattle.leo_lists.proofs.Growing.{one-more}
use Rattle.leo_lists.proofs.rings.Rings.add_heads.Goals as goal

pub loop-list-preserved : goal.loop-list-preserved
loop-list-preserved c =
    let pushed : c.push.new.self.items ≡ c.loop-list.self.heads.items ++ own_link c.loop-list.list ∷ [] = search rules in (
      c.loop-list.invariant.0,
      omega (arith, c.loop-list.invariant.1),
      c.loop-list.invariant.2,
      pushed ∙ one-more _ _ c.len-count.result c.loop-list.list c.loop-list.invariant.1 c.loop-list.invariant.3,
    )
