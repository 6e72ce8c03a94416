use Rattle.fo_terms.specs.Substitutions.{image}
use Rattle.fo_replay.specs.Instances.{as_terms}
use Rattle.fo_super.proofs.Resolved.{found-resolved}
use Rattle.fo_super.proofs.resolving.resolved.Goals as goal

pub returns : goal.returns
returns c =
    found-resolved c.args.sorts c.args.syms.now c.args.clauses.now c.args.number c.args.place c.in-Some.clause.now c.in-Some.literal.now c.in-Some.ensures
    (image c.in-Some-2.unifier.pairs) c.in_ok-numbered.numbered.names.items (as_terms c.in_ok-numbered.numbered.terms)
    (rw c.in-Some-2.is at c.in_ok-unifier.ensures.most_general) (rw c.as_slice-pairs.ensures at c.in_ok-numbered.ensures.terms) c.in_ok-numbered.ensures.numbered c.requires c.in_ok-found.found c.in_ok-found.ensures
