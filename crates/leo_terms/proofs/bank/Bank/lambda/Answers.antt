use Rattle.leo_terms.proofs.Making.{IsSoundNode-lam, IsTerm-lam, type_number-below}
use Rattle.leo_terms.proofs.bank.Bank.lambda.Goals as goal

pub type_numbered-requires : goal.type_numbered-requires
type_numbered-requires c = (c.requires.from, rw c.ty_of.ensures.number (type_number-below c.args.self.now c.ty_of.ensures.sound c.args.body c.requires.body))

pub numbered-requires : goal.numbered-requires
numbered-requires c = IsSoundNode-lam c.args.self.now c.type_numbered.new.self c.type_numbered.ensures.grows c.args.ty c.args.body c.in_ok-whole.whole c.requires.from c.requires.body c.requires.typed (record { arrow_node = rw c.ty_of.ensures.number at c.in_ok-whole.ensures.added.stored })

pub returns-clause-made : goal.returns-clause-made
returns-clause-made c =
    let m = c.in_ok-t.ensures.made in
    rw m.type_is (IsTerm-lam c.args.self.now c.type_numbered.new.self c.numbered.new.self c.type_numbered.ensures.grows c.in_ok-t.t c.in_ok-whole.whole c.args.ty c.args.body c.requires.from c.requires.body m)

pub returns-clause-arrow : goal.returns-clause-arrow
returns-clause-arrow c =
    let k = c.numbered.ensures.grows.keeps.types _ _ c.in_ok-whole.ensures.added.stored in
    record { arrow_node = rw (c.in_ok-t.ensures.made.type_is, ← c.ty_of.ensures.number) k }
