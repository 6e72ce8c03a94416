use Rattle.fo_replay.proofs.Instancing.{instance_match}
use Rattle.fo_replay.proofs.instance.instantiated.Goals as goal

pub returns : goal.returns
returns c =
    let a = c.args in
    instance_match a.sorts a.syms.now a.clauses.now a.parent a.words.now c.in-Some-split.front.now c.in-Some-split.back.now c.in-Some.clause.now c.instance_by.result c.in-Some.ensures c.in-Some-split.ensures c.instance_by.ensures
