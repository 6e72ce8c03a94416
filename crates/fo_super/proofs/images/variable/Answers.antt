use Rattle.std.proofs.Common.{◌∙◌, ap, sym, ◌++◌, ◌∷◌, []}
use Rattle.fo_terms.specs.declared.term.FoNode.TheVariants.{Var}
use Rattle.fo_terms.specs.Terms.{variable as a_variable}
use Rattle.fo_super.proofs.Listing.{variable-built}
use Rattle.fo_super.proofs.images.variable.Goals as goal

pub built-requires : goal.built-requires
built-requires c = (a_variable c.args.number, sym (c.in_ok-push.ensures.items ∙ ap (λ xs. xs ++ Var c.args.number ∷ []) c.new-nodes.ensures.items))

pub returns : goal.returns
returns c = variable-built c.built.result c.args.number c.push.new.self.items c.built.ensures (c.in_ok-push.ensures.items ∙ ap (λ xs. xs ++ Var c.args.number ∷ []) c.new-nodes.ensures.items)
