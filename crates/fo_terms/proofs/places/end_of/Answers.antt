use Rattle.std.proofs.Common.{add-one}
use Rattle.fo_terms.proofs.AtPlaces.{IsBehind-variable, IsBehind-symbol}
use Rattle.fo_terms.specs.declared.term.FoNode.TheVariants.{Sym}
use Rattle.fo_terms.proofs.places.end_of.Goals as goal

pub behind_arguments-requires-clause-enough : goal.behind_arguments-requires-clause-enough
behind_arguments-requires-clause-enough c = c.requires.full c.args.at (Sym c.in-Sym.field-0 c.in-Sym.count) c.in-Sym.ensures

pub returns-in-Var : goal.returns-in-Var
returns-in-Var c = rw add-one (IsBehind-variable c.args.nodes.now c.args.at c.in-Var.field-0 c.in-Var.ensures c.requires.inside)

pub returns-in-Sym : goal.returns-in-Sym
returns-in-Sym c = IsBehind-symbol c.args.nodes.now c.args.at c.in-Sym.field-0 c.in-Sym.count c.behind_arguments.result c.in-Sym.ensures c.behind_arguments.ensures
