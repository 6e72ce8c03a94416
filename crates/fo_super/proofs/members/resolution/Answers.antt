use Rattle.fo_replay.specs.Instances.{as_terms}
use Rattle.fo_super.proofs.Due.{is-due, lesser-refused}
use Rattle.fo_super.proofs.members.resolution.Goals as goal

pub returns-in_default-2 : goal.returns-in_default-2
returns-in_default-2 c = λ vars terms i d h. (rw c.in_default-2.is at c.in_ok-found.ensures) vars terms i d h.resolved

pub returns-then-not-branch : goal.returns-then-not-branch
returns-then-not-branch c =
    lesser-refused c.args.sorts c.args.syms.now c.args.clauses.now c.args.number c.args.place c.in-Some.clause.now c.in-Some.literal.now c.in-Some.ensures c.requires
    c.in-Some-2.found.instance.vars (as_terms c.in-Some-2.found.terms) c.in-Some-2.found.instance c.in-Some-2.found.conclusion (rw c.in-Some-2.is at c.in_ok-found.ensures)
    c.in_ok-is_maximal_under.field-0 (rw (c.as_slice-terms.ensures, c.as_slice.ensures) at c.in_ok-is_maximal_under.ensures) c.if-not-branch.true

pub returns : goal.returns
returns c =
    is-due c.args.sorts c.args.syms.now c.args.clauses.now c.args.number c.args.place c.in-Some.clause.now c.in-Some.literal.now c.in-Some.ensures
    c.in-Some-2.found.instance.vars (as_terms c.in-Some-2.found.terms) c.in-Some-2.found.instance c.in-Some-2.found.conclusion c.if-literal.false (rw c.in-Some-2.is at c.in_ok-found.ensures)
    ((rw (c.as_slice-terms.ensures, c.as_slice.ensures) at c.in_ok-is_maximal_under.ensures).0 c.if-not-branch.false)
