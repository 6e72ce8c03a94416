use Rattle.std.proofs.Common.{[]}
use Rattle.fo_super.proofs.tests.noted.Goals as goal

pub returns : goal.returns
returns c = c.in_ok-push.ensures.noted [] c.new-notes.ensures
