use Rattle.fo_replay.proofs.Concluding.{para_match}
use Rattle.fo_replay.proofs.para.paramodulated.Goals as goal

pub returns : goal.returns
returns c =
    let a = c.args in
    para_match a.syms.now a.clauses.now a.from a.lit a.side a.target a.place a.place_side a.path.now c.in-Some.giver.now c.in-Some-clause_at.receiver.now c.in-Some.equation.now c.from_into.result c.in-Some.ensures c.in-Some-clause_at.ensures c.if-not-equation.false c.from_into.ensures
