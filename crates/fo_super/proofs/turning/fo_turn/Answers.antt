use Rattle.std.proofs.Common.{◌≡◌, ◌≤◌, length, sym, subst, arith}
use Rattle.fo_super.specs.Runs.{IsState}
use Rattle.fo_super.proofs.Fronts.{front-long}
use Rattle.fo_super.proofs.Noted.{notes-long}
use Rattle.fo_super.proofs.Turned.{cut-back, state-turned}
use Rattle.fo_super.proofs.turning.fo_turn.Goals as goal

pub returns-in-Ok-clause-state : goal.returns-in-Ok-clause-state
returns-in-Ok-clause-state c = state-turned c.args.state.now _ c.requires.state c.attempt.ensures.grown.problem c.in-Ok.ensures.noted c.in-Ok.ensures.turn

pub returns-in-Ok-clause-turn : goal.returns-in-Ok-clause-turn
returns-in-Ok-clause-turn c = c.in-Ok.ensures.turn

pub shorten-requires : goal.shorten-requires
shorten-requires c =
    let e : c.len-clauses.result ≡ length c.args.state.now.clauses = c.len-clauses.ensures in
    let l : length c.args.state.now.clauses ≤ length c.attempt.new.state.clauses = front-long _ _ c.attempt.ensures.grown.clauses in
    omega arith

pub shorten-requires-in-Err : goal.shorten-requires-in-Err
shorten-requires-in-Err c =
    let e : c.len-origins.result ≡ length c.args.state.now.origins = c.len-origins.ensures in
    let l : length c.args.state.now.origins ≤ length c.attempt.new.state.origins = front-long _ _ c.attempt.ensures.grown.origins in
    omega arith

pub returns-in-Err-clause-err : goal.returns-in-Err-clause-err
returns-in-Err-clause-err c = cut-back c.args.state.now c.attempt.new.state c.len-clauses.result c.len-origins.result c.shorten.new.items c.shorten-in-Err.new.items c.cut.new.self c.requires.state c.attempt.ensures.grown c.len-clauses.ensures c.len-origins.ensures c.shorten.ensures c.shorten-in-Err.ensures c.cut.ensures.masks c.cut.ensures.weights

pub returns-in-Err-clause-state : goal.returns-in-Err-clause-state
returns-in-Err-clause-state c = subst IsState (sym (cut-back c.args.state.now c.attempt.new.state c.len-clauses.result c.len-origins.result c.shorten.new.items c.shorten-in-Err.new.items c.cut.new.self c.requires.state c.attempt.ensures.grown c.len-clauses.ensures c.len-origins.ensures c.shorten.ensures c.shorten-in-Err.ensures c.cut.ensures.masks c.cut.ensures.weights)) c.requires.state

pub cut-requires-clause-masks : goal.cut-requires-clause-masks
cut-requires-clause-masks c = (notes-long c.args.state.now.notes c.attempt.new.state.notes c.args.state.now.clauses c.len-clauses.result c.requires.state.notes c.attempt.ensures.grown.notes c.len-clauses.ensures).0

pub cut-requires-clause-weights : goal.cut-requires-clause-weights
cut-requires-clause-weights c = (notes-long c.args.state.now.notes c.attempt.new.state.notes c.args.state.now.clauses c.len-clauses.result c.requires.state.notes c.attempt.ensures.grown.notes c.len-clauses.ensures).1
