use Rattle.leo_terms.proofs.CallerLemmas.{extends-itself}
use Rattle.conclude_rows.proofs.Ready.{types-end, types-later, type-within}
use Rattle.conclude_rows.proofs.board.put_function.Goals as goal

pub returns-then-from-known-clause-grows : goal.returns-then-from-known-clause-grows
returns-then-from-known-clause-grows c = extends-itself c.is_sound.ensures.sound

pub returns-then-to-known-clause-grows : goal.returns-then-to-known-clause-grows
returns-then-to-known-clause-grows c = extends-itself c.is_sound.ensures.sound

pub arrow-requires-clause-from : goal.arrow-requires-clause-from
arrow-requires-clause-from c = type-within c.args.bank.now c.args.types.now c.requires c.args.parts.0 c.index-known-from.result (rw c.as_slice-known.ensures at c.if-from-known.false) (rw c.as_slice-known.ensures at c.index-known-from.is)

pub arrow-requires-clause-to : goal.arrow-requires-clause-to
arrow-requires-clause-to c = type-within c.args.bank.now c.args.types.now c.requires c.args.parts.1 c.index-known-to.result (rw c.as_slice-known.ensures at c.if-to-known.false) (rw c.as_slice-known.ensures at c.index-known-to.is)

pub returns-in_err-push-clause-types : goal.returns-in_err-push-clause-types
returns-in_err-push-clause-types c = rw c.in_err-push.ensures.err (types-later c.arrow.ensures.grows c.args.types.now c.requires)

pub returns-clause-types : goal.returns-clause-types
returns-clause-types c = rw c.in_ok-push.ensures.ok (types-end c.arrow.new.self c.args.types.now c.in_ok-function.function (types-later c.arrow.ensures.grows c.args.types.now c.requires) c.in_ok-function.ensures.within)
