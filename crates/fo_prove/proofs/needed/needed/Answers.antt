use Rattle.std.proofs.Common.{map, sym, ◌∙◌, subst}
use Rattle.std.proofs.lemmas.List.{length-map}
use Rattle.fo_super.specs.Runs.{origin_of}
use Rattle.fo_prove.specs.Marks.{AreNeeded}
use Rattle.fo_prove.proofs.Closing.{written_whole, needed_of}
use Rattle.fo_prove.proofs.needed.needed.Goals as goal

pub returns : goal.returns
returns c =
    let os = map origin_of c.args.origins.now in
    let new = c.visit_all.new.marks in
    let old = c.in_ok-marks.marks in
    let whole = written_whole new old.items old.len (c.in_ok-marks.ensures.length ∙ sym c.visit_all.ensures.same_length) in
    let marked = c.deref_mut.ensures.value ∙ c.in_ok-marks.ensures.marks in
    subst (λ marks. AreNeeded os c.args.last marks) (sym whole) (needed_of os _ c.args.last c.deref_mut.result.now new (sym (length-map c.args.origins.now origin_of)) c.requires.within marked c.visit_all.ensures.visited)
