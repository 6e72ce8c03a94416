use Rattle.std.proofs.Common.{arith}
use Rattle.leo_terms.proofs.CallerLemmas.{extends-itself}
use Rattle.leo_clausify.proofs.UnderWay.{under-leaf, under-full}
use Rattle.leo_clausify.proofs.agenda.Agenda.finish.Goals as goal

pub returns-then-len-ge-LEAVES-clause-progress : goal.returns-then-len-ge-LEAVES-clause-progress
returns-then-len-ge-LEAVES-clause-progress c = record {
  progress = λ known before start h.
      under-full known before start (extends-itself c.is_sound.ensures.sound) c.args.self.now c.args.branch h c.requires.reduced (omega arith);
}

pub returns-then-len-ge-LEAVES-clause-grows : goal.returns-then-len-ge-LEAVES-clause-grows
returns-then-len-ge-LEAVES-clause-grows c = extends-itself c.is_sound.ensures.sound

pub returns-clause-progress : goal.returns-clause-progress
returns-clause-progress c = record {
  progress = λ known before start low h.
      rw c.in_ok-push.ensures.ok (under-leaf known before start c.arranged_branch.ensures.grows c.args.self.now c.args.branch h c.in_ok-leaf.leaf c.in_ok-leaf.ensures.extended c.in_ok-leaf.ensures.some c.requires.reduced (omega arith));
}
