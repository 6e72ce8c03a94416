use Rattle.std.proofs.Common.{None, Some, refl}
use Rattle.std.proofs.lemmas.Result.{err_from_is_err_and}
use Rattle.fo_text.specs.Problems.{IsLiteral}
use Rattle.fo_text.specs.Literals.{IsSign, spaced_sign, ended_literal}
use Rattle.fo_text.specs.Terms.{IsTerm, ended_term}
use Rattle.fo_text.proofs.Composing.{stop-behind, refuses-same}
use Rattle.fo_text.proofs.TermReading.{stands_space}
use Rattle.fo_text.proofs.LiteralReading.{literal-sign, literal-left, literal-right, right_behind, same_part}
use Rattle.fo_text.proofs.literals.literal.Goals as goal

pub returns-in_err-pos-clause-refused : goal.returns-in_err-pos-clause-refused
returns-in_err-pos-clause-refused c =
    let p = err_from_is_err_and c.from_residual.result c.from_residual.ensures.1 in
    let n = c.args.names in
    rw (p.1, p.2) (λ m can. stop-behind (IsLiteral n.vars.now n.syms.now) (ended_literal c.args.end) IsSign spaced_sign c.args.input.now c.args.input.now (λ k r. literal-sign n.vars.now n.syms.now c.args.end c.args.input.now k can r) c.in_err-pos.field-0.0 c.in_err-pos.ensures.refused)

pub returns-in_err-left-clause-refused : goal.returns-in_err-left-clause-refused
returns-in_err-left-clause-refused c =
    let p = err_from_is_err_and c.from_residual-in_err-left.result c.from_residual-in_err-left.ensures.1 in
    let n = c.args.names in
    rw (p.1, p.2) (λ m can. stop-behind (IsLiteral n.vars.now n.syms.now) (ended_literal c.args.end) (IsTerm n.vars.now n.syms.now None) (ended_term 32) c.args.input.now c.in_ok-pos.behind_sign.now
    (λ k r. refuses-same (IsLiteral n.vars.now n.syms.now) (ended_literal c.args.end) c.args.input.now _ k c.in_ok-pos.ensures.read (literal-left n.vars.now n.syms.now c.args.end c.in_ok-pos.pos c.in_ok-pos.behind_sign.now k r))
    c.in_err-left.field-0.0 (c.in_err-left.ensures.refused m can))

pub returns-in_err-right-clause-refused : goal.returns-in_err-right-clause-refused
returns-in_err-right-clause-refused c =
    let p = err_from_is_err_and c.from_residual-in_err-right.result c.from_residual-in_err-right.ensures.1 in
    let n = c.args.names in
    let tail = stands_space c.in_ok-left.behind_left.now c.in_ok-left.ensures.ended in
    rw (p.1, p.2) (λ m can. stop-behind (IsLiteral n.vars.now n.syms.now) (ended_literal c.args.end) (IsTerm n.vars.now n.syms.now (Some c.sort_of-sort.result)) (ended_term c.args.end) c.args.input.now c.in_ok-left.behind_left.now
    (λ k r. refuses-same (IsLiteral n.vars.now n.syms.now) (ended_literal c.args.end) c.args.input.now _ k (right_behind c.args.input.now c.in_ok-pos.pos c.in_ok-pos.behind_sign.now c.in_ok-left.left c.in_ok-left.behind_left.now tail.0 c.in_ok-pos.ensures.read c.in_ok-left.ensures.read tail.1)
    (literal-right n.vars.now n.syms.now c.args.end c.in_ok-pos.pos c.in_ok-left.left c.sort_of-sort.result tail.0 k c.requires.numbered.0 c.requires.numbered.1 c.sort_of-sort.ensures (same_part (IsTerm n.vars.now n.syms.now (Some c.sort_of-sort.result)) (ended_term c.args.end) c.in_ok-left.behind_left.now _ k tail.1 r)))
    c.in_err-right.field-0.0 (c.in_err-right.ensures.refused m (c.sort_of-sort.result, refl, (c.in_ok-left.left, c.sort_of-sort.ensures))))
