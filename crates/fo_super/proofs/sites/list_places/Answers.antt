use Rattle.std.proofs.Common.{◌∙◌, ap, sym, length, refl}
use Rattle.fo_super.proofs.Walking.{all-sites, has-nodes, no-sites, symbol-sites, variable-sites}
use Rattle.fo_super.proofs.sites.list_places.Goals as goal

pub returns-in_default : goal.returns-in_default
returns-in_default c = absurd (has-nodes c.args.term.now (ap length (sym c.nodes.ensures) ∙ c.in_default.ensures.cases))

pub returns-in-Var : goal.returns-in-Var
returns-in-Var c = no-sites c.args.from c.args.into c.args.head c.args.out.now _ (variable-sites c.args.term.now c.in-Var.field-0 c.in-Some.node.now c.in-Some.others.now (sym c.nodes.ensures ∙ c.in-Some.ensures.cases.0) c.in-Var.is)

pub returns-in_ok-walk-in-Sym : goal.returns-in_ok-walk-in-Sym
returns-in_ok-walk-in-Sym c =
    all-sites c.args.from c.args.into c.args.head c.args.out.now c.visit.new.out c.walk.new.out _ c.in-Sym.symbol _ _ refl c.in_ok-visit-in-Sym.ensures c.in_ok-walk-in-Sym.ensures
    (symbol-sites c.args.term.now c.in-Sym.symbol c.in-Sym.arguments c.in-Some.node.now c.in-Some.others.now (sym c.nodes.ensures ∙ c.in-Some.ensures.cases.0) c.in-Sym.is)
