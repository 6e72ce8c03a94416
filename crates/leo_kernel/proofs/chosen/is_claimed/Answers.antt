use Rattle.std.proofs.Common.{[], ◌∷◌, ◌∙◌, sym}
use Rattle.leo_terms.specs.Contents.{tree_at}
use Rattle.leo_terms.proofs.CallerLemmas.{extends-itself, extends-trans, new_bank, term-typed}
use Rattle.leo_clause.specs.Trees.{clause_at, literal_at}
use Rattle.leo_kernel.specs.ChosenClaims.{claim_at}
use Rattle.leo_kernel.specs.ChosenClauses.{is_said}
use Rattle.leo_kernel.proofs.Clauses.{concluded}
use Rattle.leo_kernel.proofs.TypedLits.{literals-at}
use Rattle.leo_kernel.proofs.ChosenShowing.{literal-missing, literal-found}
use Rattle.leo_kernel.proofs.ChosenClauses.{parent-within, none-there, not-said, not-concluded, not-shown, not-typed, concluded-shown, said-literal, claimed-said}
use Rattle.leo_kernel.proofs.ChosenGrowing.{claim-grows, claim-kept}
use Rattle.leo_kernel.proofs.chosen.is_claimed.Goals as goal

pub returns-then-place-lits-clause-value : goal.returns-then-place-lits-clause-value
returns-then-place-lits-clause-value c = none-there c.args.bank.now (clause_at c.args.bank.now c.args.parent.now) (clause_at c.args.bank.now c.args.clause.now) c.args.place (claim_at c.args.bank.now c.args.claim.now) c.args.abbreviation.pos (tree_at c.args.bank.now c.args.abbreviation.left) (tree_at c.args.bank.now c.args.abbreviation.right) (parent-within c.args.bank.now c.args.parent.now c.args.place c.requires.place) (literal-missing c.args.bank.now c.args.clause.now c.args.place (rw c.as_slice-lits.ensures at c.if-place-lits.true))

pub returns-then-place-lits-clause-grows : goal.returns-then-place-lits-clause-grows
returns-then-place-lits-clause-grows c = extends-itself c.is_sound.ensures.sound

pub is_said-requires : goal.is_said-requires
is_said-requires c = (literals-at c.args.bank.now c.args.clause.now.lits c.requires.clause.literals_of c.args.place c.index-lits-place.result (rw c.as_slice-lits.ensures at c.if-place-lits.false) (rw c.as_slice-lits.ensures at c.index-lits-place.is)).1

pub returns-then-not-is_said-clause-value : goal.returns-then-not-is_said-clause-value
returns-then-not-is_said-clause-value c =
    not-said c.args.bank.now (clause_at c.args.bank.now c.args.parent.now) (clause_at c.args.bank.now c.args.clause.now) c.args.place (claim_at c.args.bank.now c.args.claim.now) c.args.abbreviation.pos (tree_at c.args.bank.now c.args.abbreviation.left) (tree_at c.args.bank.now c.args.abbreviation.right) (parent-within c.args.bank.now c.args.parent.now c.args.place c.requires.place)
    (literal_at c.args.bank.now c.index-lits-place.result) (literal-found c.args.bank.now c.args.clause.now c.args.place c.index-lits-place.result (rw c.as_slice-lits.ensures at c.if-place-lits.false) (rw c.as_slice-lits.ensures at c.index-lits-place.is))
    (is_said c.args.claim.now) (claimed-said c.args.bank.now c.args.claim.now) (sym c.is_said.ensures ∙ c.if-not-is_said.true)

pub returns-then-not-is_said-clause-grows : goal.returns-then-not-is_said-clause-grows
returns-then-not-is_said-clause-grows c = extends-itself c.is_sound.ensures.sound

pub returns-then-not-concludes-clause-value : goal.returns-then-not-concludes-clause-value
returns-then-not-concludes-clause-value c =
    not-concluded c.args.bank.now (clause_at c.args.bank.now c.args.parent.now) (clause_at c.args.bank.now c.args.clause.now) c.args.place (claim_at c.args.bank.now c.args.claim.now) c.args.abbreviation.pos (tree_at c.args.bank.now c.args.abbreviation.left) (tree_at c.args.bank.now c.args.abbreviation.right) (parent-within c.args.bank.now c.args.parent.now c.args.place c.requires.place)
    (literal_at c.args.bank.now c.index-lits-place.result) (literal-found c.args.bank.now c.args.clause.now c.args.place c.index-lits-place.result (rw c.as_slice-lits.ensures at c.if-place-lits.false) (rw c.as_slice-lits.ensures at c.index-lits-place.is))
    c.concludes.result (concluded c.args.bank.now c.is_sound.ensures.sound c.args.parent.now c.args.place [] (c.index-lits-place.result ∷ []) c.args.clause.now c.requires.parent c.requires.clause tt ((literals-at c.args.bank.now c.args.clause.now.lits c.requires.clause.literals_of c.args.place c.index-lits-place.result (rw c.as_slice-lits.ensures at c.if-place-lits.false) (rw c.as_slice-lits.ensures at c.index-lits-place.is)).0, (literals-at c.args.bank.now c.args.clause.now.lits c.requires.clause.literals_of c.args.place c.index-lits-place.result (rw c.as_slice-lits.ensures at c.if-place-lits.false) (rw c.as_slice-lits.ensures at c.index-lits-place.is)).1, tt) c.concludes.result c.concludes.ensures) c.if-not-concludes.true

pub returns-then-not-concludes-clause-grows : goal.returns-then-not-concludes-clause-grows
returns-then-not-concludes-clause-grows c = extends-itself c.is_sound.ensures.sound

pub fits_claim-requires-clause-claim : goal.fits_claim-requires-clause-claim
fits_claim-requires-clause-claim c = claim-grows c.shown_in.ensures.grows c.args.claim.now c.requires.claim

pub fits_claim-requires-clause-within : goal.fits_claim-requires-clause-within
fits_claim-requires-clause-within c = (rw c.in-Term.is at c.in_ok-found.ensures.value).within

pub returns-in_err-fit-in-Term-clause-grows : goal.returns-in_err-fit-in-Term-clause-grows
returns-in_err-fit-in-Term-clause-grows c = extends-trans c.shown_in.ensures.grows c.fits_claim.ensures.grows

pub returns-in_ok-fit-in-Term-clause-value : goal.returns-in_ok-fit-in-Term-clause-value
returns-in_ok-fit-in-Term-clause-value c =
    concluded-shown c.shown_in.new.bank (clause_at c.args.bank.now c.args.parent.now) (clause_at c.args.bank.now c.args.clause.now) c.args.place (claim_at c.args.bank.now c.args.claim.now) c.args.abbreviation.pos (tree_at c.args.bank.now c.args.abbreviation.left) (tree_at c.args.bank.now c.args.abbreviation.right) (parent-within c.args.bank.now c.args.parent.now c.args.place c.requires.place)
    (literal_at c.args.bank.now c.index-lits-place.result) (literal-found c.args.bank.now c.args.clause.now c.args.place c.index-lits-place.result (rw c.as_slice-lits.ensures at c.if-place-lits.false) (rw c.as_slice-lits.ensures at c.index-lits-place.is))
    (new_bank c.shown_in.ensures.grows) c.in-Term.t (rw c.in-Term.is at c.in_ok-found.ensures.value)
    (λ w. said-literal c.args.bank.now c.args.claim.now c.index-lits-place.result.pos (tree_at c.args.bank.now c.index-lits-place.result.left) (tree_at c.args.bank.now c.index-lits-place.result.right) w (term-typed c.is_sound.ensures.sound c.index-lits-place.result.right (literals-at c.args.bank.now c.args.clause.now.lits c.requires.clause.literals_of c.args.place c.index-lits-place.result (rw c.as_slice-lits.ensures at c.if-place-lits.false) (rw c.as_slice-lits.ensures at c.index-lits-place.is)).1) (sym c.is_said.ensures ∙ c.if-not-is_said.false))
    ((concluded c.args.bank.now c.is_sound.ensures.sound c.args.parent.now c.args.place [] (c.index-lits-place.result ∷ []) c.args.clause.now c.requires.parent c.requires.clause tt ((literals-at c.args.bank.now c.args.clause.now.lits c.requires.clause.literals_of c.args.place c.index-lits-place.result (rw c.as_slice-lits.ensures at c.if-place-lits.false) (rw c.as_slice-lits.ensures at c.index-lits-place.is)).0, (literals-at c.args.bank.now c.args.clause.now.lits c.requires.clause.literals_of c.args.place c.index-lits-place.result (rw c.as_slice-lits.ensures at c.if-place-lits.false) (rw c.as_slice-lits.ensures at c.index-lits-place.is)).1, tt) c.concludes.result c.concludes.ensures).0 c.if-not-concludes.false)
    c.in_ok-fit-in-Term.fit (rw (claim-kept c.shown_in.ensures.grows c.args.claim.now c.requires.claim) at c.in_ok-fit-in-Term.ensures.value)

pub returns-in_ok-fit-in-Term-clause-grows : goal.returns-in_ok-fit-in-Term-clause-grows
returns-in_ok-fit-in-Term-clause-grows c = extends-trans c.shown_in.ensures.grows c.fits_claim.ensures.grows

pub returns-in-Untyped-clause-value : goal.returns-in-Untyped-clause-value
returns-in-Untyped-clause-value c =
    not-typed c.shown_in.new.bank (clause_at c.args.bank.now c.args.parent.now) (clause_at c.args.bank.now c.args.clause.now) c.args.place (claim_at c.args.bank.now c.args.claim.now) c.args.abbreviation.pos (tree_at c.args.bank.now c.args.abbreviation.left) (tree_at c.args.bank.now c.args.abbreviation.right) (parent-within c.args.bank.now c.args.parent.now c.args.place c.requires.place)
    (literal_at c.args.bank.now c.index-lits-place.result) (literal-found c.args.bank.now c.args.clause.now c.args.place c.index-lits-place.result (rw c.as_slice-lits.ensures at c.if-place-lits.false) (rw c.as_slice-lits.ensures at c.index-lits-place.is))
    (new_bank c.shown_in.ensures.grows) (rw c.in-Untyped.is at c.in_ok-found.ensures.value)

pub returns-in-Nothing-clause-value : goal.returns-in-Nothing-clause-value
returns-in-Nothing-clause-value c =
    not-shown c.shown_in.new.bank (clause_at c.args.bank.now c.args.parent.now) (clause_at c.args.bank.now c.args.clause.now) c.args.place (claim_at c.args.bank.now c.args.claim.now) c.args.abbreviation.pos (tree_at c.args.bank.now c.args.abbreviation.left) (tree_at c.args.bank.now c.args.abbreviation.right) (parent-within c.args.bank.now c.args.parent.now c.args.place c.requires.place)
    (literal_at c.args.bank.now c.index-lits-place.result) (literal-found c.args.bank.now c.args.clause.now c.args.place c.index-lits-place.result (rw c.as_slice-lits.ensures at c.if-place-lits.false) (rw c.as_slice-lits.ensures at c.index-lits-place.is))
    (rw c.in-Nothing.is at c.in_ok-found.ensures.value)
