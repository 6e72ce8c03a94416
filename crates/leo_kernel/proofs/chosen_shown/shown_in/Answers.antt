use Rattle.std.proofs.Common.{map}
use Rattle.leo_terms.specs.Contents.{tree_at, type_at}
use Rattle.leo_terms.proofs.CallerLemmas.{extends-itself}
use Rattle.leo_clause.specs.Trees.{clause_at, literal_at}
use Rattle.leo_kernel.specs.ChosenClaims.{claim_at}
use Rattle.leo_kernel.proofs.TypedLits.{literals-at}
use Rattle.leo_kernel.proofs.ChosenShowing.{shown-claim, unspoken-claim, no-claim, literal-missing, literal-found}
use Rattle.leo_kernel.proofs.chosen_shown.shown_in.Goals as goal

pub returns-then-place-lits-clause-value : goal.returns-then-place-lits-clause-value
returns-then-place-lits-clause-value c = no-claim c.args.bank.now (map (type_at c.args.bank.now) c.args.clause.now.vars) (tree_at c.args.bank.now c.args.abbreviation.right) (tree_at c.args.bank.now c.args.abbreviation.left) (clause_at c.args.bank.now c.args.clause.now) c.args.place (claim_at c.args.bank.now c.args.claim.now) (literal-missing c.args.bank.now c.args.clause.now c.args.place (rw c.as_slice-lits.ensures at c.if-place-lits.true))

pub returns-then-place-lits-clause-grows : goal.returns-then-place-lits-clause-grows
returns-then-place-lits-clause-grows c = extends-itself c.is_sound.ensures.sound

pub spoken_of-requires-clause-left : goal.spoken_of-requires-clause-left
spoken_of-requires-clause-left c = (literals-at c.args.bank.now c.args.clause.now.lits c.requires.clause.literals_of c.args.place c.index-lits-place.result (rw c.as_slice-lits.ensures at c.if-place-lits.false) (rw c.as_slice-lits.ensures at c.index-lits-place.is)).0

pub spoken_of-requires-clause-right : goal.spoken_of-requires-clause-right
spoken_of-requires-clause-right c = (literals-at c.args.bank.now c.args.clause.now.lits c.requires.clause.literals_of c.args.place c.index-lits-place.result (rw c.as_slice-lits.ensures at c.if-place-lits.false) (rw c.as_slice-lits.ensures at c.index-lits-place.is)).1

pub returns-in_ok-found-in-Some-clause-value : goal.returns-in_ok-found-in-Some-clause-value
returns-in_ok-found-in-Some-clause-value c =
    shown-claim c.instance.new.bank (map (type_at c.args.bank.now) c.args.clause.now.vars) (tree_at c.args.bank.now c.args.abbreviation.right) (tree_at c.args.bank.now c.args.abbreviation.left) (tree_at c.args.bank.now c.in-Some.w) (clause_at c.args.bank.now c.args.clause.now) c.args.place (claim_at c.args.bank.now c.args.claim.now) (literal_at c.args.bank.now c.index-lits-place.result)
    (literal-found c.args.bank.now c.args.clause.now c.args.place c.index-lits-place.result (rw c.as_slice-lits.ensures at c.if-place-lits.false) (rw c.as_slice-lits.ensures at c.index-lits-place.is))
    c.in-Some.ensures.1 c.in_ok-found-in-Some.found (rw c.as_slice-vars.ensures at c.in_ok-found-in-Some.ensures.value)

pub returns-in-None-clause-value : goal.returns-in-None-clause-value
returns-in-None-clause-value c =
    unspoken-claim c.args.bank.now (map (type_at c.args.bank.now) c.args.clause.now.vars) (tree_at c.args.bank.now c.args.abbreviation.right) (tree_at c.args.bank.now c.args.abbreviation.left) (clause_at c.args.bank.now c.args.clause.now) c.args.place (claim_at c.args.bank.now c.args.claim.now) (literal_at c.args.bank.now c.index-lits-place.result)
    (literal-found c.args.bank.now c.args.clause.now c.args.place c.index-lits-place.result (rw c.as_slice-lits.ensures at c.if-place-lits.false) (rw c.as_slice-lits.ensures at c.index-lits-place.is))
    c.in-None.ensures

pub returns-in-None-clause-grows : goal.returns-in-None-clause-grows
returns-in-None-clause-grows c = extends-itself c.is_sound.ensures.sound
