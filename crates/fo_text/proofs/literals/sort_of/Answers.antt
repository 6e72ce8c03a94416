use Rattle.std.proofs.lemmas.Option.{slice_get_within}
use Rattle.fo_text.proofs.LiteralReading.{head_of, nodes_some, var_known, sym_known, var_sort, sym_sort}
use Rattle.fo_text.proofs.literals.sort_of.Goals as goal

pub first_node-requires : goal.first_node-requires
first_node-requires c = nodes_some c.args.term.now c.nodes.result.now c.nodes.ensures

pub sort_at-requires : goal.sort_at-requires
sort_at-requires c =
    let n = c.args.names in
    slice_get_within n.vars.now c.in-Var.variable c.requires.0 (var_known n.vars.now n.syms.now c.args.term.now c.requires.0 c.in-Var.variable c.requires.1 (head_of c.args.term.now c.nodes.result.now _ c.nodes.ensures c.in-Var.ensures))

pub result_of-requires : goal.result_of-requires
result_of-requires c =
    let n = c.args.names in
    let y = sym_known n.vars.now n.syms.now c.args.term.now c.requires.0 c.in-Sym.symbol c.in-Sym.field-1 c.requires.1 (head_of c.args.term.now c.nodes.result.now _ c.nodes.ensures c.in-Sym.ensures) in
    slice_get_within n.syms.now c.in-Sym.symbol y.0 y.1

pub returns-in-Var : goal.returns-in-Var
returns-in-Var c =
    let n = c.args.names in
    var_sort n.vars.now n.syms.now c.args.term.now c.requires.0 c.in-Var.variable c.sort_at.result c.requires.1 (head_of c.args.term.now c.nodes.result.now _ c.nodes.ensures c.in-Var.ensures) c.sort_at.ensures

pub returns-in-Sym : goal.returns-in-Sym
returns-in-Sym c =
    let n = c.args.names in
    sym_sort n.vars.now n.syms.now c.args.term.now c.requires.0 c.in-Sym.symbol c.in-Sym.field-1 c.result_of.result c.requires.1 (head_of c.args.term.now c.nodes.result.now _ c.nodes.ensures c.in-Sym.ensures) c.result_of.ensures
