use Rattle.fo_terms.specs.Substitutions.{apply}
use Rattle.fo_replay.proofs.Nodes.{applied_nodes, term_built}
use Rattle.fo_super.specs.Numbering.{renaming}
use Rattle.fo_super.proofs.numbering.renamed.Goals as goal

pub built-requires : goal.built-requires
built-requires c = (apply (renaming c.args.names.now) c.args.term.now, applied_nodes (renaming c.args.names.now) c.args.term.now c.nodes.result.now c.in_ok-nodes.nodes.items c.nodes.ensures c.in_ok-nodes.ensures)

pub returns : goal.returns
returns c = term_built c.built.result (apply (renaming c.args.names.now) c.args.term.now) c.in_ok-nodes.nodes.items (applied_nodes (renaming c.args.names.now) c.args.term.now c.nodes.result.now c.in_ok-nodes.nodes.items c.nodes.ensures c.in_ok-nodes.ensures) c.built.ensures
