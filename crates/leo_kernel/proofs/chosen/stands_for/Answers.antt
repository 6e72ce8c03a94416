use Rattle.leo_terms.specs.Contents.{tree_at}
use Rattle.leo_terms.proofs.CallerLemmas.{extends-trans, new_bank, tree-kept}
use Rattle.leo_clause.specs.Trees.{clause_at}
use Rattle.leo_kernel.specs.ChosenClaims.{claim_at}
use Rattle.leo_kernel.proofs.Growing.{types-kept}
use Rattle.leo_kernel.proofs.ChosenClauses.{stands-shown, stands-untyped, stands-nothing}
use Rattle.leo_kernel.proofs.ChosenGrowing.{claim-grows, claim-kept}
use Rattle.leo_kernel.proofs.Growing.{types-grow}
use Rattle.leo_kernel.proofs.chosen.stands_for.Goals as goal

pub fits_claim-requires-clause-claim : goal.fits_claim-requires-clause-claim
fits_claim-requires-clause-claim c = claim-grows c.shown_in.ensures.grows c.args.claim.now c.requires.claim

pub fits_claim-requires-clause-within : goal.fits_claim-requires-clause-within
fits_claim-requires-clause-within c = (rw c.in-Term.is at c.in_ok-found.ensures.value).within

pub returns-in_err-fit-in-Term-clause-grows : goal.returns-in_err-fit-in-Term-clause-grows
returns-in_err-fit-in-Term-clause-grows c = extends-trans c.shown_in.ensures.grows c.fits_claim.ensures.grows

pub returns-in_ok-fit-in-Term-clause-value : goal.returns-in_ok-fit-in-Term-clause-value
returns-in_ok-fit-in-Term-clause-value c =
    stands-shown c.shown_in.new.bank (new_bank c.shown_in.ensures.grows) (clause_at c.args.bank.now c.args.clause.now) c.args.place (claim_at c.args.bank.now c.args.claim.now) (tree_at c.args.bank.now c.args.abbreviation.left) (tree_at c.args.bank.now c.args.abbreviation.right) c.args.abbreviation.pos
    c.in-Term.t (rw c.in-Term.is at c.in_ok-found.ensures.value) c.in_ok-fit-in-Term.fit (rw (claim-kept c.shown_in.ensures.grows c.args.claim.now c.requires.claim) at c.in_ok-fit-in-Term.ensures.value)

pub returns-in_ok-fit-in-Term-clause-grows : goal.returns-in_ok-fit-in-Term-clause-grows
returns-in_ok-fit-in-Term-clause-grows c = extends-trans c.shown_in.ensures.grows c.fits_claim.ensures.grows

pub returns-in-Untyped-clause-value : goal.returns-in-Untyped-clause-value
returns-in-Untyped-clause-value c =
    stands-untyped c.shown_in.new.bank (new_bank c.shown_in.ensures.grows) (clause_at c.args.bank.now c.args.clause.now) c.args.place (claim_at c.args.bank.now c.args.claim.now) (tree_at c.args.bank.now c.args.abbreviation.left) (tree_at c.args.bank.now c.args.abbreviation.right) c.args.abbreviation.pos
    (rw c.in-Untyped.is at c.in_ok-found.ensures.value)

pub may_fit_claim-requires-clause-vars : goal.may_fit_claim-requires-clause-vars
may_fit_claim-requires-clause-vars c = rw c.as_slice-vars.ensures (types-grow c.shown_in.ensures.grows c.args.clause.now.vars c.requires.clause.types_of)

pub may_fit_claim-requires-clause-claim : goal.may_fit_claim-requires-clause-claim
may_fit_claim-requires-clause-claim c = claim-grows c.shown_in.ensures.grows c.args.claim.now c.requires.claim

pub returns-in_err-fit-in-Nothing-clause-grows : goal.returns-in_err-fit-in-Nothing-clause-grows
returns-in_err-fit-in-Nothing-clause-grows c = extends-trans c.shown_in.ensures.grows c.may_fit_claim.ensures.grows

pub returns-in_ok-fit-in-Nothing-clause-value : goal.returns-in_ok-fit-in-Nothing-clause-value
returns-in_ok-fit-in-Nothing-clause-value c =
    stands-nothing c.shown_in.new.bank (new_bank c.shown_in.ensures.grows) (clause_at c.args.bank.now c.args.clause.now) c.args.place (claim_at c.args.bank.now c.args.claim.now) (tree_at c.args.bank.now c.args.abbreviation.left) (tree_at c.args.bank.now c.args.abbreviation.right) c.args.abbreviation.pos
    (rw c.in-Nothing.is at c.in_ok-found.ensures.value) c.in_ok-fit-in-Nothing.fit
    (rw (c.as_slice-vars.ensures, types-kept c.shown_in.ensures.grows c.args.clause.now.vars c.requires.clause.types_of, tree-kept c.shown_in.ensures.grows c.args.abbreviation.right c.requires.term, (claim-kept c.shown_in.ensures.grows c.args.claim.now c.requires.claim)) at c.in_ok-fit-in-Nothing.ensures.value)

pub returns-in_ok-fit-in-Nothing-clause-grows : goal.returns-in_ok-fit-in-Nothing-clause-grows
returns-in_ok-fit-in-Nothing-clause-grows c = extends-trans c.shown_in.ensures.grows c.may_fit_claim.ensures.grows
