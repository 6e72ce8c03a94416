use Rattle.std.proofs.Common.{arith, rules}
use Rattle.leo_terms.proofs.CallerLemmas.{reads-base, reads-arrow, arrow-parts}
use Rattle.leo_tstp.proofs.terms.+typing.Goals as goal

pub write_type_within-write_arrow-requires : goal.write_type_within-write_arrow-requires
write_type_within-write_arrow-requires t c =
    let p = arrow-parts c.in-Arrow.ensures.sound (record { arrow_node = c.in-Arrow.ensures.view }) in
    (search rules, (omega arith, omega arith))

pub write_type_within-returns-in-Base : goal.write_type_within-returns-in-Base
write_type_within-returns-in-Base t c = rw (reads-base c.in-Base.ensures.sound c.args.ty _ c.in-Base.ensures.view) c.write_base.ensures

pub write_type_within-returns-in-Arrow : goal.write_type_within-returns-in-Arrow
write_type_within-returns-in-Arrow t c = rw (reads-arrow c.in-Arrow.ensures.sound (record { arrow_node = c.in-Arrow.ensures.view })) c.write_arrow.ensures
