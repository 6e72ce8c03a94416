use Rattle.std.proofs.Common.{◌≡◌, ◌∙◌, ap, sym, ◌∷◌, ℕ}
use Rattle.std.specs.Prelude.{reverse}
use Rattle.fo_terms.specs.declared.term.FoNode.{FoNode}
use Rattle.fo_terms.specs.Prefix.{with_node}
use Rattle.fo_super.specs.Marks.{pending, with_marks}
use Rattle.fo_super.proofs.Masks.{symbol-marked}
use Rattle.fo_super.proofs.marking.step.Goals as goal

pub returns-in_ok-push_children-in-Sym : goal.returns-in_ok-push_children-in-Sym
returns-in_ok-push_children-in-Sym c = λ ts.
    ap (λ (m : ℕ). with_marks m (pending (reverse c.push_children.new.places.items) ts)) c.with_mark.ensures
    ∙ symbol-marked c.args.mask c.args.place c.in-Sym.symbol c.in-Sym.arguments (reverse c.args.places.now.items) (reverse c.push_children.new.places.items) ts c.in_ok-push_children-in-Sym.ensures
    ∙ ap (λ (n : FoNode). with_marks c.args.mask (pending (c.args.place ∷ reverse c.args.places.now.items) (with_node n ts))) (sym c.in-Sym.is)
