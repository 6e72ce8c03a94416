use Rattle.std.proofs.Common.{◌≡◌, ◌∙◌, ap, length}
use Rattle.fo_text.specs.declared.answer.FoStep.TheVariants.{Factor}
use Rattle.fo_replay.specs.Instances.{as_terms}
use Rattle.fo_super.specs.Conclusions.{constraint_place}
use Rattle.fo_super.proofs.Worked.{factor-due, factor-lesser, factor-not-open, factor-worked}
use Rattle.fo_super.proofs.factoring.factoring.Goals as goal

pub returns-then-not-is_side_open : goal.returns-then-not-is_side_open
returns-then-not-is_side_open c =
    factor-not-open c.args.sorts c.args.syms.now c.args.clauses.now c.args.number c.args.first c.args.first_side c.args.second c.args.second_side c.in-Some.clause.now c.in-Some.literal.now c.in-Some.ensures
    c.is_side_open.result c.is_side_open.ensures c.if-not-is_side_open.true

pub returns-in_default-found : goal.returns-in_default-found
returns-in_default-found c = λ vars terms i d h.
    (rw (c.in_default-found.is, c.turned-side.ensures, c.in_ok-place.ensures, c.len.ensures) at c.in_ok-found.ensures) vars terms i d
    (factor-worked c.args.sorts c.args.syms.now c.args.clauses.now c.args.number c.args.first c.args.first_side c.args.second c.args.second_side c.in-Some.clause.now c.in-Some.literal.now c.in-Some.ensures vars terms i d h)

pub returns-then-not-branch : goal.returns-then-not-branch
returns-then-not-branch c =
    factor-lesser c.args.sorts c.args.syms.now c.args.clauses.now c.args.number c.args.first c.args.first_side c.args.second c.args.second_side c.in-Some.clause.now c.in-Some.literal.now c.in-Some.ensures c.requires
    c.in-Some-found.found.instance.vars (as_terms c.in-Some-found.found.terms) c.in-Some-found.found.instance c.in-Some-found.found.conclusion
    (rw (c.in-Some-found.is, c.turned-side.ensures, c.in_ok-place.ensures, c.len.ensures) at c.in_ok-found.ensures)
    c.in_ok-is_leading_under.field-0 (rw (c.as_slice-terms.ensures, c.as_slice.ensures) at c.in_ok-is_leading_under.ensures) c.if-not-branch.true

pub returns : goal.returns
returns c =
    factor-due c.args.sorts c.args.syms.now c.args.clauses.now c.args.number c.args.first c.args.first_side c.args.second c.args.second_side c.in-Some.clause.now c.in-Some.literal.now c.in-Some.ensures
    c.in-Some-found.found.instance.vars (as_terms c.in-Some-found.found.terms) c.in-Some-found.found.instance c.in-Some-found.found.conclusion c.if-not-literal.false
    (rw (c.in-Some-found.is, c.turned-side.ensures, c.in_ok-place.ensures, c.len.ensures) at c.in_ok-found.ensures)
    ((rw (c.as_slice-terms.ensures, c.as_slice.ensures) at c.in_ok-is_leading_under.ensures).0 c.if-not-branch.false)
