use Rattle.fo_replay.specs.Instances.{as_terms}
use Rattle.fo_super.proofs.Worked.{super-due, super-lesser, super-no-target, super-not-into, super-nowhere, super-worked}
use Rattle.fo_super.proofs.superposing.superposition.Goals as goal

pub returns-in_default-literal_at : goal.returns-in_default-literal_at
returns-in_default-literal_at c = super-no-target c.args.sorts c.args.syms.now c.args.clauses.now c.args.from c.args.literal c.args.side c.args.into c.args.place c.args.place_side c.args.path.now c.in_default-literal_at.ensures

pub returns-then-not-is_side_open : goal.returns-then-not-is_side_open
returns-then-not-is_side_open c = λ vars terms i d h.
    super-nowhere c.args.sorts c.args.syms.now c.args.clauses.now c.args.from c.args.literal c.args.side c.args.into c.args.place c.args.place_side c.args.path.now
    c.in-Some.giver.now c.in-Some-literal_at.receiver.now c.in-Some.equation.now c.in-Some-literal_at.target.now c.in-Some.ensures c.in-Some-literal_at.ensures
    c.is_side_open.result vars terms i d c.is_side_open.ensures c.if-not-is_side_open.true h

pub returns-then-not-is_side_open-2 : goal.returns-then-not-is_side_open-2
returns-then-not-is_side_open-2 c = λ vars terms i d h.
    super-not-into c.args.sorts c.args.syms.now c.args.clauses.now c.args.from c.args.literal c.args.side c.args.into c.args.place c.args.place_side c.args.path.now
    c.in-Some.giver.now c.in-Some-literal_at.receiver.now c.in-Some.equation.now c.in-Some-literal_at.target.now c.in-Some.ensures c.in-Some-literal_at.ensures
    c.is_side_open-2.result vars terms i d c.is_side_open-2.ensures c.if-not-is_side_open-2.true h

pub returns-in_default-found : goal.returns-in_default-found
returns-in_default-found c = λ vars terms i d h.
    (rw (c.in_default-found.is, c.in_ok-constraint.ensures) at c.in_ok-found.ensures) vars terms i d
    (super-worked c.args.sorts c.args.syms.now c.args.clauses.now c.args.from c.args.literal c.args.side c.args.into c.args.place c.args.place_side c.args.path.now
    c.in-Some.giver.now c.in-Some-literal_at.receiver.now c.in-Some.equation.now c.in-Some-literal_at.target.now c.in-Some.ensures c.in-Some-literal_at.ensures vars terms i d h)

pub returns-then-not-branch : goal.returns-then-not-branch
returns-then-not-branch c =
    super-lesser c.args.sorts c.args.syms.now c.args.clauses.now c.args.from c.args.literal c.args.side c.args.into c.args.place c.args.place_side c.args.path.now
    c.in-Some.giver.now c.in-Some-literal_at.receiver.now c.in-Some.equation.now c.in-Some-literal_at.target.now c.in-Some.ensures c.in-Some-literal_at.ensures c.requires.giver c.requires.receiver
    c.in-Some-found.found.instance.vars (as_terms c.in-Some-found.found.terms) c.in-Some-found.found.instance c.in-Some-found.found.conclusion
    (rw (c.in-Some-found.is, c.in_ok-constraint.ensures) at c.in_ok-found.ensures)
    c.in_ok-are_leading.field-0 (rw c.as_slice-terms.ensures at c.in_ok-are_leading.ensures) c.if-not-branch.true

pub returns : goal.returns
returns c =
    super-due c.args.sorts c.args.syms.now c.args.clauses.now c.args.from c.args.literal c.args.side c.args.into c.args.place c.args.place_side c.args.path.now
    c.in-Some.giver.now c.in-Some-literal_at.receiver.now c.in-Some.equation.now c.in-Some-literal_at.target.now c.in-Some.ensures c.in-Some-literal_at.ensures
    c.in-Some-found.found.instance.vars (as_terms c.in-Some-found.found.terms) c.in-Some-found.found.instance c.in-Some-found.found.conclusion
    (rw (c.in-Some-found.is, c.in_ok-constraint.ensures) at c.in_ok-found.ensures)
    ((rw c.as_slice-terms.ensures at c.in_ok-are_leading.ensures).0 c.if-not-branch.false)
