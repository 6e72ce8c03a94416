use Rattle.std.proofs.Common.{ℕ, ◌≡◌, ◌<◌, ◌∙◌, sym, length, refl, true, false, Some, Bool, List}
use Rattle.std.specs.Prelude.{slice_get}
use Rattle.std.specs.BTreeMap.{BTreeMap}
use Rattle.std.proofs.lemmas.Option.{slice_get_read}
use Rattle.fo_text.specs.declared.problem.FoSym.{FoSym}
use Rattle.fo_text.specs.Known.{IsTry, IsGrown, unknown_results}
use Rattle.fo_text.proofs.KnownSorts.{IsGrown-try, fewer-try, results-try}
use Rattle.fo_text.proofs.known.sweep.Goals as goal
use Rattle.fo_text.proofs.known.sweep.Goals.{then-branch, else-branch}

clash : (b : Bool) → b ≡ true → b ≡ false → ⊥
clash b h k = cc

still_fewer : (syms : List FoSym) (first known new : BTreeMap ℕ Bool) → new ≡ known → unknown_results known syms < unknown_results first syms → unknown_results new syms < unknown_results first syms
still_fewer syms first known new e h = rw e h

pub loop-sym-preserved : goal.loop-sym-preserved
loop-sym-preserved c =
    let syms : List FoSym = c.args.syms.now in
    let stands : slice_get syms c.loop-sym.sym-index ≡ Some c.sym-item.result = slice_get_read syms (length syms) c.loop-sym.sym-index c.sym-item.result refl c.loop-sym-test.true c.sym-item.is in
    let grown : IsGrown syms c.args.known.now c.try_add.new.known = IsGrown-try syms c.args.known.now c.loop-sym.known c.try_add.new.known c.loop-sym.sym-index c.sym-item.result c.in_ok-try_add.field-0 stands c.loop-sym.invariant.0 c.in_ok-try_add.ensures in
    elim c.if-branch.branch [
      | then-branch w ↦
          (let t : IsTry c.loop-sym.known c.try_add.new.known c.sym-item.result true = rw w.if-branch.true at c.in_ok-try_add.ensures in (
            grown,
            (λ q. fewer-try syms c.args.known.now c.loop-sym.known c.try_add.new.known c.loop-sym.sym-index c.sym-item.result stands c.loop-sym.invariant.0 t),
            (λ q. absurd (clash c.if-branch.changed w.changed-is q)),
          ))
      | else-branch w ↦
          (let t : IsTry c.loop-sym.known c.try_add.new.known c.sym-item.result false = rw w.if-branch.false at c.in_ok-try_add.ensures in (
            grown,
            (λ q. still_fewer syms c.args.known.now c.loop-sym.known c.try_add.new.known t.0 (c.loop-sym.invariant.1 (sym w.changed-is ∙ q))),
            (λ q. results-try syms c.loop-sym.known c.try_add.new.known c.loop-sym.sym-index c.sym-item.result stands (c.loop-sym.invariant.2 (sym w.changed-is ∙ q)) t),
          ))
    ]
