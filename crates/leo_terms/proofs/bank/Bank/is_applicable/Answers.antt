use Rattle.std.proofs.Common.{◌≡◌, IsTrue, rules}
use Rattle.leo_terms.specs.Contents.{type_number}
use Rattle.leo_terms.proofs.Rebuild.{IsSoundNode-leaf}
use Rattle.leo_terms.proofs.Accepting.{applicable-arrow}
use Rattle.leo_terms.proofs.bank.Bank.is_applicable.Goals as goal

pub ty_node-requires : goal.ty_node-requires
ty_node-requires c = rw c.ty_of.ensures.number (IsSoundNode-leaf c.args.self.now c.ty_of.ensures.sound c.args.f c.requires.function)

pub returns-in-Arrow-clause-typed : goal.returns-in-Arrow-clause-typed
returns-in-Arrow-clause-typed c =
    let d = applicable-arrow c.args.self.now c.args.f c.args.a c.in-Arrow.from c.in-Arrow.field-1 (rw c.ty_of.ensures.number at c.in-Arrow.ensures.view) in
    let n : c.ty_of-in-Arrow.result ≡ type_number c.args.self.now c.args.a = c.ty_of-in-Arrow.ensures.number in
    let p : IsTrue c.eq.result → c.in-Arrow.from ≡ c.ty_of-in-Arrow.result = λ h. search rules in
    let q : c.in-Arrow.from ≡ c.ty_of-in-Arrow.result → IsTrue c.eq.result = λ e. search rules in
    (λ h. d.0 (rw n at p h), λ h. q (rw n (d.1 h)))
