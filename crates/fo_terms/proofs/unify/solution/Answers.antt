use Rattle.std.proofs.Common.{◌≡◌, List, Some, None, Option}
use Rattle.std.specs.Prelude.{MatchOption, IfSome, IfNone}
use Rattle.fo_terms.specs.declared.term.FoNode.{FoNode}
use Rattle.fo_terms.specs.declared.bindings.Binding.{Binding}
use Rattle.fo_terms.specs.declared.bindings.Bindings.{Bindings}
use Rattle.fo_terms.specs.Terms.{Term}
use Rattle.fo_terms.specs.Substitutions.{Substitution, apply}
use Rattle.fo_terms.specs.Places.{term_at}
use Rattle.fo_terms.specs.Bindings.{AreBindings, Obeys, IsLoose, IsSolution}
use Rattle.fo_terms.specs.Arranging.{SayTheSame}
use Rattle.fo_terms.proofs.Unifying.{IsSolution-arranged}
use Rattle.fo_terms.proofs.unify.solution.Goals as goal

arranged : (ns : List FoNode) (bs : List Binding) (left right : Term) (o : Option Bindings) → IsLoose ns bs left right → IfSome o (λ b. AreBindings ns b.made.items × SayTheSame ns bs b.made.items) → IfNone o ((r : Substitution) → Obeys ns bs r → ⊥)
    → MatchOption o ((r : Substitution) → apply r left ≡ apply r right → ⊥) (λ b. IsSolution ns b.made.items left right)
arranged ns bs left right None l s n = λ r e. n r (l.from r e)
arranged ns bs left right (Some b) l s n = IsSolution-arranged ns bs b.made.items left right l s.0 s.1

pub returns-in_ok-found-in-Some-clause-solved : goal.returns-in_ok-found-in-Some-clause-solved
returns-in_ok-found-in-Some-clause-solved c =
    let ns : List FoNode = c.args.places.now.nodes.items in
    let bs : List Binding = c.in-Some.bindings.made.items in
    let loose : IsLoose ns bs (term_at ns 0) (term_at ns c.args.right) = rw c.in-Some.is at c.in_ok-solve.ensures.solved in
    arranged ns bs (term_at ns 0) (term_at ns c.args.right) c.in_ok-found-in-Some.found loose c.in_ok-found-in-Some.ensures.arranged c.in_ok-found-in-Some.ensures.refused
