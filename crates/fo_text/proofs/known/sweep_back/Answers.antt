use Rattle.std.proofs.Common.{◌≡◌, ◌<◌, ◌-◌, length, refl, Some, List, arith}
use Rattle.std.specs.Prelude.{slice_get}
use Rattle.std.proofs.lemmas.Option.{slice_get_read}
use Rattle.fo_text.specs.declared.problem.FoSym.{FoSym}
use Rattle.fo_text.proofs.KnownSorts.{IsGrown-try}
use Rattle.fo_text.proofs.known.sweep_back.Goals as goal

pub loop-at-preserved : goal.loop-at-preserved
loop-at-preserved c =
    let syms : List FoSym = c.args.syms.now in
    let low = c.loop-at.invariant.0 in
    let some : 0 < c.loop-at.at = c.loop-at-test.true in
    let inside : c.loop-at.at - 1 < length syms = omega arith in
    let stands : slice_get syms (c.loop-at.at - 1) ≡ Some c.index-syms-at.result = slice_get_read syms (length syms) (c.loop-at.at - 1) c.index-syms-at.result refl inside c.index-syms-at.is in (
      omega arith,
      IsGrown-try syms c.args.known.now c.loop-at.known c.try_add.new.known (c.loop-at.at - 1) c.index-syms-at.result c.in_ok-try_add.field-0 stands c.loop-at.invariant.1 c.in_ok-try_add.ensures,
    )
