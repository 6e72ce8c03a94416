use Rattle.leo_passive.proofs.Calls
use Rattle.leo_passive.proofs.passive.Passive.oldest.Goals as goal

pub returns : goal.returns
returns c = Calls.oldest c.self.inside.slots c.self.inside.weights.items c.args.self.now c.front.result c.number_of.result
    (Calls.has c.self.inside.slots c.self.inside.weights.items c.args.self.now (c.self.invariant, c.self.view_is)) c.front.ensures c.number_of.ensures
