use Rattle.fo_terms.specs.Substitutions.{apply}
use Rattle.fo_replay.specs.Parts.{shift}
use Rattle.fo_replay.proofs.Nodes.{applied_nodes, term_built}
use Rattle.fo_replay.proofs.para.moved_term.Goals as goal

pub built-requires : goal.built-requires
built-requires c = (apply (shift c.args.by) c.args.term.now, applied_nodes (shift c.args.by) c.args.term.now c.nodes.result.now c.in_ok-nodes.nodes.items c.nodes.ensures c.in_ok-nodes.ensures)

pub returns : goal.returns
returns c = term_built c.built.result (apply (shift c.args.by) c.args.term.now) c.in_ok-nodes.nodes.items (applied_nodes (shift c.args.by) c.args.term.now c.nodes.result.now c.in_ok-nodes.nodes.items c.nodes.ensures c.in_ok-nodes.ensures) c.built.ensures
