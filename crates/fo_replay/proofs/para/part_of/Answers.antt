use Rattle.std.proofs.Common.{◌∙◌, sym, ap, Some}
use Rattle.fo_terms.specs.Prefix.{prefix}
use Rattle.fo_replay.proofs.Nodes.{range_middle, term_built}
use Rattle.fo_replay.proofs.para.part_of.Goals as goal

pub returns : goal.returns
returns c =
    let r = c.requires in
    let m = range_middle c.nodes.result.now r.front (prefix r.term) r.back c.args.start c.args.stop (c.nodes.ensures ∙ r.nodes) r.start_is r.end_is in
    r.term_at ∙ ap Some (sym (term_built c.built.result r.term c.in_ok-nodes.nodes.items (sym (c.in_ok-nodes.ensures.items ∙ m)) c.built.ensures))
