use Rattle.fo_super.proofs.Sifted.{listed-append}
use Rattle.fo_super.proofs.candidates.list_alone.Goals as goal

pub returns : goal.returns
returns c = λ clauses. listed-append clauses _ _ c.args.out.now c.list_resolutions.new.out c.list_factorings.new.out (c.in_ok-list_resolutions.ensures clauses) (c.in_ok-list_factorings.ensures clauses)
