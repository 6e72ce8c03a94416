use Rattle.fo_super.proofs.Sifted.{listed-both}
use Rattle.fo_super.proofs.candidates.list_literal.Goals as goal

pub returns : goal.returns
returns c = λ clauses at there. listed-both clauses _ _ c.args.out.now c.list_side.new.out c.list_side-2.new.out (c.in_ok-list_side.ensures clauses at there) (c.in_ok-list_side-2.ensures clauses at there)
