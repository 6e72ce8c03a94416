use Rattle.leo_para.proofs.Joined.{constraint-made}
use Rattle.leo_para.proofs.concluding.constraint.Goals as goal

pub returns : goal.returns
returns c = record {
  made =
      constraint-made c.args.bank.now c.args.member.now c.args.there.now c.side_of-whole.result c.side_of-whole.ensures c.side_of.result c.in-Some.right c.requires.equation c.side_of.ensures
      (rw c.as_slice.ensures at c.in-Some.ensures.value) c.in-Some.ensures.within;
}
