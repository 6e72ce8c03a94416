use Rattle.std.proofs.Common.{ℕ, List, rules, arith, subst, sym}
use Rattle.leo_tstp.specs.Built.{IsBuilt, IsSite}
use Rattle.leo_terms.proofs.CallerLemmas.{extends-itself, extends-trans}
use Rattle.leo_tstp.proofs.Built.{body-typed, types-grow, types-push, site-kept, built-kept}
use Rattle.leo_tstp.proofs.building.terms.+building.Goals as goal

pub build-returns-in_err-t-in-Apply-clause-grows : goal.build-returns-in_err-t-in-Apply-clause-grows
build-returns-in_err-t-in-Apply-clause-grows t c = extends-trans c.both.ensures.grows c.applied.ensures.grows

pub build-returns-in_ok-t-in-Apply-clause-grows : goal.build-returns-in_ok-t-in-Apply-clause-grows
build-returns-in_ok-t-in-Apply-clause-grows t c = extends-trans c.both.ensures.grows c.applied.ensures.grows

pub build-returns-in_err-t-in-Join-clause-grows : goal.build-returns-in_err-t-in-Join-clause-grows
build-returns-in_err-t-in-Join-clause-grows t c = extends-trans c.both-in-Join.ensures.grows c.joined.ensures.grows

pub build-returns-in_ok-t-in-Join-clause-grows : goal.build-returns-in_ok-t-in-Join-clause-grows
build-returns-in_ok-t-in-Join-clause-grows t c = extends-trans c.both-in-Join.ensures.grows c.joined.ensures.grows

pub build-returns-in_err-t-in-Equal-clause-grows : goal.build-returns-in_err-t-in-Equal-clause-grows
build-returns-in_err-t-in-Equal-clause-grows t c = extends-trans c.both-in-Equal.ensures.grows c.equated.ensures.grows

pub build-returns-in_ok-t-in-Equal-clause-grows : goal.build-returns-in_ok-t-in-Equal-clause-grows
build-returns-in_ok-t-in-Equal-clause-grows t c = extends-trans c.both-in-Equal.ensures.grows c.equated.ensures.grows

pub build-returns-in_err-t-in-Not-clause-grows : goal.build-returns-in_err-t-in-Not-clause-grows
build-returns-in_err-t-in-Not-clause-grows t c = extends-trans c.build.ensures.grows c.with_one.ensures.grows

pub build-returns-in_ok-t-in-Not-clause-grows : goal.build-returns-in_ok-t-in-Not-clause-grows
build-returns-in_ok-t-in-Not-clause-grows t c = extends-trans c.build.ensures.grows c.with_one.ensures.grows

pub build-returns-in_err-t-in-Quantify-clause-grows : goal.build-returns-in_err-t-in-Quantify-clause-grows
build-returns-in_err-t-in-Quantify-clause-grows t c = extends-trans c.build-in-Quantify.ensures.grows c.quantified.ensures.grows

pub build-returns-in_ok-t-in-Quantify-clause-grows : goal.build-returns-in_ok-t-in-Quantify-clause-grows
build-returns-in_ok-t-in-Quantify-clause-grows t c = extends-trans c.build-in-Quantify.ensures.grows c.quantified.ensures.grows

pub build-returns-in_err-t-in-Lambda-clause-grows : goal.build-returns-in_err-t-in-Lambda-clause-grows
build-returns-in_err-t-in-Lambda-clause-grows t c = extends-trans c.under.ensures.grows c.lambda.ensures.grows

pub build-returns-in_ok-t-in-Lambda-clause-grows : goal.build-returns-in_ok-t-in-Lambda-clause-grows
build-returns-in_ok-t-in-Lambda-clause-grows t c = extends-trans c.under.ensures.grows c.lambda.ensures.grows

pub build-returns-in_err-ty-in-Lambda-clause-grows : goal.build-returns-in_err-ty-in-Lambda-clause-grows
build-returns-in_err-ty-in-Lambda-clause-grows t c = extends-itself c.is_sound.ensures.sound

pub build-under-requires : goal.build-under-requires
build-under-requires t c = (search rules, (c.requires, c.in_ok-ty-in-Lambda.ensures c.args.bank.now c.requires.numbering))

pub build-lambda-requires-clause-from : goal.build-lambda-requires-clause-from
build-lambda-requires-clause-from t c = let w = c.in_ok-ty-in-Lambda.ensures c.args.bank.now c.requires.numbering in let more = c.under.ensures.grows.types_more in omega arith

pub build-lambda-requires-clause-typed : goal.build-lambda-requires-clause-typed
build-lambda-requires-clause-typed t c = body-typed _ _ c.in_ok-body-in-Lambda.ensures.built

pub build-returns-in_ok-t-in-Symbol-clause-built : goal.build-returns-in_ok-t-in-Symbol-clause-built
build-returns-in_ok-t-in-Symbol-clause-built t c = c.in_ok-t-in-Symbol.ensures.built _ _ c.requires.variables c.requires.scope_of

pub build-returns-in_ok-t-in-Truth-clause-built : goal.build-returns-in_ok-t-in-Truth-clause-built
build-returns-in_ok-t-in-Truth-clause-built t c = c.in_ok-t-in-Truth.ensures.built _ _ c.requires.variables c.requires.scope_of

pub build-returns-in_ok-t-in-Lambda-clause-built : goal.build-returns-in_ok-t-in-Lambda-clause-built
build-returns-in_ok-t-in-Lambda-clause-built t c = c.in_ok-t-in-Lambda.ensures.built _ _ (types-grow c.under.ensures.grows _ c.requires.scope_of) c.in_ok-body-in-Lambda.ensures.built

pub under-returns-in_err-push-clause-grows : goal.under-returns-in_err-push-clause-grows
under-returns-in_err-push-clause-grows t c = extends-itself c.is_sound.ensures.sound

pub under-build-requires : goal.under-build-requires
under-build-requires t c = (search rules, record { numbering = c.requires.site.numbering; variables = c.requires.site.variables; scope_of = rw c.in_ok-push.ensures.items (types-push c.args.bank.now c.args.scope.now.items c.args.ty c.requires.site.scope_of c.requires.ty) })

pub both-build-requires-2 : goal.both-build-requires-2
both-build-requires-2 t c = (search rules, subst (λ (s : List ℕ). IsSite c.build.new.bank c.args.numbers.now c.args.variables.now s) (sym c.in_ok-x.ensures.scope) (site-kept c.build.ensures.grows c.requires))

pub both-returns-in_err-y-clause-grows : goal.both-returns-in_err-y-clause-grows
both-returns-in_err-y-clause-grows t c = extends-trans c.build.ensures.grows c.build-2.ensures.grows

pub both-returns-clause-built : goal.both-returns-clause-built
both-returns-clause-built t c = record { first = built-kept c.build-2.ensures.grows c.in_ok-x.ensures.built; second = subst (λ (s : List ℕ). IsBuilt c.build-2.new.bank c.args.variables.now s c.in_ok-y.y) c.in_ok-x.ensures.scope c.in_ok-y.ensures.built }

pub both-returns-clause-grows : goal.both-returns-clause-grows
both-returns-clause-grows t c = extends-trans c.build.ensures.grows c.build-2.ensures.grows

pub build-returns-in_default-clause-grows : goal.build-returns-in_default-clause-grows
build-returns-in_default-clause-grows t c = extends-itself c.is_sound.ensures.sound
