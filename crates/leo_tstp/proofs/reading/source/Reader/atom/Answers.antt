use Rattle.std.proofs.Common.{◌∙◌, sym, false}
use Rattle.std.proofs.lemmas.Bool.{false≢true}
use Rattle.leo_terms.specs.Tree.{type_of}
use Rattle.leo_tstp.proofs.TermSteps.{found-some, atom-read}
use Rattle.leo_tstp.proofs.reading.source.Reader.atom.Goals as goal

pub returns-then-not-fits-clause-takes : goal.returns-then-not-fits-clause-takes
returns-then-not-fits-clause-takes c = λ v t w rest a vs s h k.
    let said = found-some _ c.next_atom.result c.in-Some.found c.in-Some.is (c.next_atom.ensures v vs s t w rest a h) in
    absurd (false≢true (sym c.if-not-fits.true ∙ c.fits.ensures v c.args.self.now.lexicon (type_of t) h.around.shared said.place k))

pub returns-clause-takes : goal.returns-clause-takes
returns-clause-takes c = λ v t w rest a vs s h k.
    let said = found-some _ c.next_atom.result c.in-Some.found c.in-Some.is (c.next_atom.ensures v vs s t w rest a h) in
    atom-read v c.args.self.now c.pass.new.self vs s t w rest c.in-Some.found h said c.pass.ensures.stays c.pass.ensures.passes
