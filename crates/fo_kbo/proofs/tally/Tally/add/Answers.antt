use Rattle.std.proofs.Common.{◌∙◌, ap, Some}
use Rattle.fo_terms.specs.declared.term.FoNode.{FoNode}
use Rattle.fo_kbo.proofs.Tallying.{AreCounts-symbol}
use Rattle.fo_kbo.proofs.tally.Tally.add.Goals as goal

pub returns-in-Sym : goal.returns-in-Sym
returns-in-Sym c ns a p l h t s = AreCounts-symbol ns a p c.in-Sym.field-0 c.in-Sym.field-1 c.args.self.now.counts l (h ∙ ap (λ (n : FoNode). Some n) c.in-Sym.is) (t s)
