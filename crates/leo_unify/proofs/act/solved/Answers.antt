use Rattle.std.proofs.Common.{◌∙◌, sym, arith}
use Rattle.leo_terms.proofs.CallerLemmas.{extends-trans}
use Rattle.leo_unify.proofs.ActSteps.{solved-body, solved-value, solved-uncovered}
use Rattle.leo_unify.proofs.Growing.{types-grow}
use Rattle.leo_unify.proofs.act.solved.Goals as goal

pub returns-then-not-covered-clause-value : goal.returns-then-not-covered-clause-value
returns-then-not-covered-clause-value c =
    solved-uncovered c.pattern_of.ensures.grows c.args.side c.args.other c.requires.other c.in-Some.pattern (rw c.in-Some.is at c.in_ok-found.ensures.value) _ (rw c.as_slice.ensures at c.in_ok-covered-in-Some.ensures) c.if-not-covered.true

pub rebound-requires : goal.rebound-requires
rebound-requires c = let e = c.pattern_of.ensures.grows.terms_more in let l = c.requires.other in omega arith

pub is_covered-requires : goal.is_covered-requires
is_covered-requires c = let e = c.pattern_of.ensures.grows.terms_more in let l = c.requires.other in omega arith

pub abstracted-requires-clause-types : goal.abstracted-requires-clause-types
abstracted-requires-clause-types c = rw c.as_slice-in-Some-2.ensures (types-grow c.rebound.ensures.grows c.in-Some.pattern.types (rw c.in-Some.is at c.in_ok-found.ensures.types))

pub abstracted-requires-clause-typed : goal.abstracted-requires-clause-typed
abstracted-requires-clause-typed c =
    rw c.as_slice-in-Some-2.ensures (solved-body c.pattern_of.ensures.grows c.rebound.ensures.grows c.args.vars.now c.args.side c.args.other c.requires.side c.requires.other c.requires.typed c.in-Some.pattern (rw c.in-Some.is at c.in_ok-found.ensures.value) (rw c.in-Some.is at c.in_ok-found.ensures.types) (sym c.if-not-covered.false ∙ (rw c.as_slice.ensures at c.in_ok-covered-in-Some.ensures)) c.in_ok-body-in-Some.body _ (rw c.as_slice-in-Some.ensures at c.in_ok-body-in-Some.ensures.made))

pub returns-in_err-body-in-Some-clause-grows : goal.returns-in_err-body-in-Some-clause-grows
returns-in_err-body-in-Some-clause-grows c = extends-trans c.pattern_of.ensures.grows c.rebound.ensures.grows

pub returns-in_err-term-in-Some-clause-grows : goal.returns-in_err-term-in-Some-clause-grows
returns-in_err-term-in-Some-clause-grows c = extends-trans (extends-trans c.pattern_of.ensures.grows c.rebound.ensures.grows) c.abstracted.ensures.grows

pub returns-in_ok-term-in-Some-clause-value : goal.returns-in_ok-term-in-Some-clause-value
returns-in_ok-term-in-Some-clause-value c =
    rw c.new.ensures (solved-value c.pattern_of.ensures.grows c.rebound.ensures.grows c.args.vars.now c.args.side c.args.other c.requires.side c.requires.other c.requires.typed c.in-Some.pattern (rw c.in-Some.is at c.in_ok-found.ensures.value) (rw c.in-Some.is at c.in_ok-found.ensures.types) (sym c.if-not-covered.false ∙ (rw c.as_slice.ensures at c.in_ok-covered-in-Some.ensures)) c.in_ok-body-in-Some.body _ (rw c.as_slice-in-Some.ensures at c.in_ok-body-in-Some.ensures.made) _ _ (rw c.as_slice-in-Some-2.ensures at c.in_ok-term-in-Some.ensures.value))

pub returns-in_ok-term-in-Some-clause-grows : goal.returns-in_ok-term-in-Some-clause-grows
returns-in_ok-term-in-Some-clause-grows c = extends-trans (extends-trans c.pattern_of.ensures.grows c.rebound.ensures.grows) c.abstracted.ensures.grows
