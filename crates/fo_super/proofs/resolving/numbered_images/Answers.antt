use Rattle.std.proofs.Common.{◌∙◌, ap}
use Rattle.fo_terms.specs.Substitutions.{image}
use Rattle.fo_replay.specs.Instances.{as_terms}
use Rattle.fo_super.specs.Conclusions.{images_from}
use Rattle.fo_super.proofs.Instances.{numbered-by-names}
use Rattle.fo_super.proofs.resolving.numbered_images.Goals as goal

pub returns-clause-terms : goal.returns-clause-terms
returns-clause-terms c =
    (numbered-by-names c.args.clause.now.vars c.args.syms.now (image c.args.pairs.now) c.in_ok-names.names.items c.args.clause.now.lits c.args.place (as_terms c.in_ok-images.images) (as_terms c.in_ok-terms.terms) c.in_ok-literals.literals c.requires.sorted
    (c.in_ok-images.ensures ∙ ap (images_from (image c.args.pairs.now) 0) c.in_ok-variables_of.ensures)
    (rw c.as_slice.ensures at c.in_ok-literals.ensures) (rw (c.as_slice-2.ensures, c.as_slice-3.ensures) at c.in_ok-names.ensures) (rw (c.deref.ensures.value, c.as_slice-4.ensures) at c.in_ok-terms.ensures)).0

pub returns-clause-numbered : goal.returns-clause-numbered
returns-clause-numbered c =
    (numbered-by-names c.args.clause.now.vars c.args.syms.now (image c.args.pairs.now) c.in_ok-names.names.items c.args.clause.now.lits c.args.place (as_terms c.in_ok-images.images) (as_terms c.in_ok-terms.terms) c.in_ok-literals.literals c.requires.sorted
    (c.in_ok-images.ensures ∙ ap (images_from (image c.args.pairs.now) 0) c.in_ok-variables_of.ensures)
    (rw c.as_slice.ensures at c.in_ok-literals.ensures) (rw (c.as_slice-2.ensures, c.as_slice-3.ensures) at c.in_ok-names.ensures) (rw (c.deref.ensures.value, c.as_slice-4.ensures) at c.in_ok-terms.ensures)).1
