use Rattle.std.proofs.Common.{ℕ, List, sym, ◌∙◌, subst}
use Rattle.std.proofs.lemmas.Bool.{eqb-true}
use Rattle.leo_tstp.specs.Built.{AreBothBuilt}
use Rattle.leo_tstp.proofs.Recorded.{literal-built}
use Rattle.leo_tstp.proofs.building.records.literal.Goals as goal

pub returns-then-eq-clause-built : goal.returns-then-eq-clause-built
returns-then-eq-clause-built c = literal-built c.type_of.ensures.sound c.args.parsed.now.positive (subst (λ (s : List ℕ). AreBothBuilt c.both.new.bank c.args.variables.now s c.in_ok-left.left c.in_ok-left.right) c.new-scope.ensures.items c.in_ok-left.ensures.built) (sym c.type_of.ensures.number ∙ (eqb-true _ _ (sym c.eq.ensures ∙ c.if-eq.true) ∙ c.type_of-2.ensures.number))
