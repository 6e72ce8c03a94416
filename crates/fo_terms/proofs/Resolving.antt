-- Following bindings from a place.
use Rattle.std.proofs.Common.{ℕ, ◌≡◌, List, Some, sym, ap}
use Rattle.std.specs.Prelude.{slice_get}
use Rattle.fo_terms.specs.declared.term.FoNode.{FoNode}
use Rattle.fo_terms.specs.declared.term.FoNode.TheVariants.{Var}
use Rattle.fo_terms.specs.declared.bindings.Binding.{Binding}
use Rattle.fo_terms.specs.Terms.{variable, first_term}
use Rattle.fo_terms.specs.Substitutions.{Substitution, apply}
use Rattle.fo_terms.specs.Places.{term_at}
use Rattle.fo_terms.specs.Bindings.{Obeys, IsBoundAt}
use Rattle.fo_terms.proofs.AtPlaces.{terms_at-node}

-- the place of a binding stands for what its variable stands for
pub same_along : (ns : List FoNode) (bs : List Binding) (r : Substitution) → Obeys ns bs r → (k at : ℕ) (b : Binding) → slice_get bs k ≡ Some b → slice_get ns at ≡ Some (Var b.variable)
    → apply r (term_at ns b.place) ≡ apply r (term_at ns at)
same_along ns bs r o k at b h v =
    let here : term_at ns at ≡ variable b.variable = ap first_term (terms_at-node ns at (Var b.variable) v) in
    rw here (sym (o k b h))

pub IsBoundAt-variable : (ns : List FoNode) (bs : List Binding) (k at : ℕ) (b : Binding) → IsBoundAt ns bs k at → slice_get bs k ≡ Some b → slice_get ns at ≡ Some (Var b.variable)
IsBoundAt-variable ns bs k at b h e =
    let same : h.0 ≡ b = cc in
    rw (← same) h.2
