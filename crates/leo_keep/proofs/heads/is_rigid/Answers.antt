use Rattle.std.proofs.Common.{None}
use Rattle.leo_terms.proofs.CallerLemmas.{reads-sym, reads-logic}
use Rattle.leo_keep.specs.Heads.{a_constant, a_symbol}
use Rattle.leo_keep.proofs.heads.is_rigid.Goals as goal

pub returns-in-Sym : goal.returns-in-Sym
returns-in-Sym c = rw (reads-sym c.in-Sym.ensures.sound c.args.t c.in-Sym.field-0 c.in-Sym.ensures.view) (a_symbol _ _)

pub returns-in-Logic-default-None-None : goal.returns-in-Logic-default-None-None
returns-in-Logic-default-None-None c =
    let k = c.in-Logic-default-None-None in
    rw (reads-logic k.ensures.sound c.args.t k.field-0 None None (rw (k.field-1-is, k.field-2-is) at k.ensures.view)) (a_constant _)
