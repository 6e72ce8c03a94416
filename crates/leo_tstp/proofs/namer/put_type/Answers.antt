use Rattle.std.proofs.Common.{refl}
use Rattle.leo_terms.proofs.CallerLemmas.{reads-base, reads-arrow}
use Rattle.leo_tstp.proofs.namer.put_type.Goals as goal

pub returns-in-Base : goal.returns-in-Base
returns-in-Base c = rw (reads-base c.in-Base.ensures.sound c.args.ty _ c.in-Base.ensures.view) c.put_base.ensures

pub returns-in-Arrow : goal.returns-in-Arrow
returns-in-Arrow c = λ k. rw (reads-arrow c.in-Arrow.ensures.sound (record { arrow_node = c.in-Arrow.ensures.view })) refl
