use Rattle.std.proofs.Common.{ℕ, ◌≡◌, ◌<◌, ◌∙◌, List, ap, arith}
use Rattle.std.proofs.lemmas.Result.{IfOk-weaker}
use Rattle.leo_terms.specs.Contents.{Contents}
use Rattle.leo_terms.proofs.Parts.{part-subterm, moved-node, moved-reads, added_only}
use Rattle.leo_terms.proofs.bank.Bank.move_term.Goals as goal

pub moved_view-view-requires : goal.moved_view-view-requires
moved_view-view-requires c = λ i p. (let l = (part-subterm c.args.self.now c.top.ensures.sound c.args.t c.top.result c.top.ensures.view i p).0 in let m = c.requires.numbered in omega arith)

pub numbered-requires : goal.numbered-requires
numbered-requires c = rw (c.moved_view-view.ensures, c.ty_of.ensures.number) (moved-node c.args.self.now c.args.part.now c.top.ensures.sound (ap (λ (b : Contents). b.types) c.requires.rest) (ap (λ (b : Contents). b.symbols) c.requires.rest) c.args.numbers.now c.args.t c.top.result c.top.ensures.view (c.requires.parts c.top.result c.top.ensures.view))

pub returns-clause-made : goal.returns-clause-made
returns-clause-made c =
    let e = moved-reads c.args.self.now c.args.part.now c.top.ensures.sound (ap (λ (b : Contents). b.types) c.requires.rest) (ap (λ (b : Contents). b.symbols) c.requires.rest) c.args.numbers.now c.args.t c.top.result c.top.ensures.view (c.requires.parts c.top.result c.top.ensures.view) in
    IfOk-weaker c.numbered.result _ _ (λ r h. (let k = rw (c.moved_view-view.ensures, c.ty_of.ensures.number) at h in record { within = k.within; type_is = k.type_is; reads = k.reads ∙ e })) c.numbered.ensures.made

pub returns-clause-only : goal.returns-clause-only
returns-clause-only c = IfOk-weaker c.numbered.result _ _ (λ r h. added_only _ _ _ r h) c.numbered.ensures.added
