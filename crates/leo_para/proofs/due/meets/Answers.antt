use Rattle.leo_terms.specs.Contents.{tree_at}
use Rattle.leo_para.proofs.Comparing.{terms-types}
use Rattle.leo_para.proofs.Looping.{met}
use Rattle.leo_para.proofs.due.meets.Goals as goal

pub returns : goal.returns
returns c =
    met c.args.spot.now.path (tree_at c.args.bank.now c.args.t) (tree_at c.args.bank.now c.args.spot.now.term) _ _ c.is_empty.result c.meet.result c.eq.result _
    c.head_of-first.ensures.reads c.head_of-second.ensures.reads c.is_empty.ensures c.meet.ensures c.if-not-meet.false
    (terms-types c.args.bank.now c.is_sound.ensures.sound c.args.t c.args.spot.now.term c.type_of.result c.type_of-2.result c.requires.term c.requires.spot c.type_of.ensures.number c.type_of-2.ensures.number c.eq.result c.eq.ensures)
