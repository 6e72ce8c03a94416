use Rattle.std.proofs.Common.{arith, rules}
use Rattle.fo_super.proofs.Walking.{step-symbol}
use Rattle.fo_super.proofs.sites.step.Goals as goal

pub returns-in_ok-push-in-Sym-2 : goal.returns-in_ok-push-in-Sym-2
returns-in_ok-push-in-Sym-2 c =
    step-symbol c.args.from c.args.into c.args.head c.args.out.now c.visit.new.out c.args.path.now.items c.push-in-Sym.new.self.items c.args.frames.now.items c.push.new.self.items c.push-in-Sym-2.new.self.items c.args.frame c.in-Some.next c.in-Sym.symbol c.in-Sym.arguments c.args.node
    c.requires (search rules) c.in-Sym.is c.in_ok-push-in-Sym.ensures.items c.in_ok-push.ensures.items c.in_ok-push-in-Sym-2.ensures.items (rw c.as_slice.ensures.value at c.in_ok-visit-in-Sym.ensures)
