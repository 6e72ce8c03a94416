use Rattle.std.proofs.Common.{◌∙◌, ap, sym}
use Rattle.fo_text.specs.declared.problem.FoLit.{FoLit}
use Rattle.fo_replay.specs.Replays.{moved}
use Rattle.fo_replay.specs.Parts.{IsRewritten}
use Rattle.fo_replay.proofs.Concluding.{no_rewriting}
use Rattle.fo_replay.proofs.para.from_into.Goals as goal

pub returns-in-None : goal.returns-in-None
returns-in-None c =
    let a = c.args in
    let never : (x y : FoLit) → IsRewritten a.syms.now c.as_slice.result.now c.in-Some.literal.now a.place_side a.path.now a.equation.now a.side x y → ⊥ = rw c.in-None.is at c.in_ok-found.ensures in
    no_rewriting a.syms.now a.giver.now a.equation.now a.lit a.side a.receiver.now a.place a.place_side a.path.now c.as_slice.result.now c.in_ok-others.others c.in-Some.literal.now (c.as_slice.ensures ∙ c.in_ok-vars.ensures) (c.in_ok-others.ensures ∙ ap (λ n. moved n a.receiver.now) c.in_ok-variables_of.ensures) (sym c.in-Some.ensures.value) never
