use Rattle.std.proofs.Common.{◌≡◌, ◌∙◌, false, length, replicate, ap, subst}
use Rattle.std.proofs.lemmas.List.{length-replicate}
use Rattle.leo_terms.specs.Contents.{Contents, IsSound}
use Rattle.leo_terms.proofs.Parts.{marks_blank, needed_first}
use Rattle.leo_terms.proofs.bank.Bank.needed.Goals as goal

pub mark_subterms-requires : goal.mark_subterms-requires
mark_subterms-requires c =
    let e : c.in_ok-marks.marks.items ≡ replicate c.len.result false = c.in_ok-marks.ensures.items_if_clones_equal (λ y e. e) in
    let s = subst (λ (v : Contents). IsSound v) c.self.view_is c.self.invariant.sound in
    needed_first c.args.self.now s c.args.terms.now c.in_ok-marks.marks.items c.mark_all.new.marks.items (λ i h. marks_blank c.len.result i (rw e at h)) (ap length e ∙ length-replicate c.len.result false ∙ c.len.ensures.len ∙ ap (λ (v : Contents). length v.terms) c.self.view_is) c.mark_all.ensures
