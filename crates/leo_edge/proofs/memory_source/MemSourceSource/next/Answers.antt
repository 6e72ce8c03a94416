use Rattle.std.proofs.Common.{rules}
use Rattle.leo_edge.proofs.Given.{given-more}
use Rattle.leo_edge.proofs.memory_source.MemSourceSource.next.Goals as goal

-- src/memory_source.rt:54:5
pub returns-clause-got : goal.returns-clause-got
returns-clause-got c =
    (search rules, search rules, given-more c.args.self.now.content.items c.as_slice.result.now c.put_front.new.buf c.args.self.now.place c.min-place.result c.min-count.result c.as_slice.ensures.value (search rules) (search rules) c.put_front.ensures.front)
