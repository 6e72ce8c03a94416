use Rattle.std.proofs.Common.{◌∙◌, sym}
use Rattle.fo_terms.specs.Prefix.{prefix}
use Rattle.fo_replay.specs.Replays.{replaced}
use Rattle.fo_replay.proofs.Nodes.{put_nodes, term_built}
use Rattle.fo_replay.proofs.para.put.Goals as goal

pub built-requires : goal.built-requires
built-requires c =
    let r = c.requires in (
      replaced c.args.whole.now c.args.path.now c.args.by.now,
      put_nodes c.nodes.result.now r.front (prefix r.term) r.back c.args.start c.args.stop (prefix c.args.by.now) (prefix (replaced c.args.whole.now c.args.path.now c.args.by.now)) c.new-nodes.result.items c.extend_from_slice.new.self.items c.nodes-2.result.now c.extend_from_slice-2.new.self.items c.nodes-3.result.now c.extend_from_slice-3.new.self.items
          (c.nodes.ensures ∙ r.nodes) (c.nodes-3.ensures ∙ sym c.nodes.ensures) r.start_is r.end_is (r.others c.args.by.now) c.new-nodes.ensures.items c.in_ok-extend_from_slice.ensures.items c.nodes-2.ensures c.in_ok-extend_from_slice-2.ensures.items c.in_ok-extend_from_slice-3.ensures.items,
    )

pub returns : goal.returns
returns c =
    let r = c.requires in
    term_built c.built.result (replaced c.args.whole.now c.args.path.now c.args.by.now) c.extend_from_slice-3.new.self.items
    (put_nodes c.nodes.result.now r.front (prefix r.term) r.back c.args.start c.args.stop (prefix c.args.by.now) (prefix (replaced c.args.whole.now c.args.path.now c.args.by.now)) c.new-nodes.result.items c.extend_from_slice.new.self.items c.nodes-2.result.now c.extend_from_slice-2.new.self.items c.nodes-3.result.now c.extend_from_slice-3.new.self.items
    (c.nodes.ensures ∙ r.nodes) (c.nodes-3.ensures ∙ sym c.nodes.ensures) r.start_is r.end_is (r.others c.args.by.now) c.new-nodes.ensures.items c.in_ok-extend_from_slice.ensures.items c.nodes-2.ensures c.in_ok-extend_from_slice-2.ensures.items c.in_ok-extend_from_slice-3.ensures.items) c.built.ensures
