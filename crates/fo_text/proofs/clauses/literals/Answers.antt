use Rattle.std.proofs.Common.{arith, ◌+◌, ◌<◌, ◌≡◌, length, ◌∙◌, sym, ap, subst}
use Rattle.std.proofs.lemmas.Result.{err_from_is_err_and}
use Rattle.fo_text.specs.Numbers.{IsNumberWord, number_word}
use Rattle.fo_text.specs.declared.number.Ends.TheVariants.{LineAtZero}
use Rattle.fo_text.specs.Problems.{IsLiteral}
use Rattle.fo_text.specs.Literals.{ended_literal}
use Rattle.fo_text.specs.Reads.{IsStop}
use Rattle.fo_text.specs.Clauses.{AreLits, lits_text, behind_lits}
use Rattle.fo_text.proofs.Composing.{stop-behind, refuses-same}
use Rattle.fo_text.proofs.TermReading.{stands_space}
use Rattle.fo_text.proofs.LiteralReading.{same_part}
use Rattle.fo_text.proofs.ClauseReading.{lits-count-most, lits-next, lits_so_far, inner_space, some_begins, most_is}
use Rattle.fo_text.proofs.clauses.literals.Goals as goal

pub returns-in_err-count-clause-refused : goal.returns-in_err-count-clause-refused
returns-in_err-count-clause-refused c =
    let p = err_from_is_err_and c.from_residual.result c.from_residual.ensures.1 in
    let a = c.args in
    let n = a.names in
    rw (p.1, p.2) (λ m. stop-behind (AreLits n.vars.now n.syms.now) lits_text (IsNumberWord 0 c.most_if.result LineAtZero) number_word a.input.now a.input.now (λ k r. lits-count-most n.vars.now n.syms.now a.some c.most_if.result a.input.now k c.requires.some c.most_if.ensures r) c.in_err-count.field-0.0 c.in_err-count.ensures.refused)

pub returns-in_err-lit-clause-refused : goal.returns-in_err-lit-clause-refused
returns-in_err-lit-clause-refused c =
    let p = err_from_is_err_and c.from_residual-in_err-lit.result c.from_residual-in_err-lit.ensures.1 in
    let a = c.args in
    let n = a.names in
    let count = c.in_ok-count.count in
    let t = c.loop-read-test.true in
    let read : length c.loop-read.lits ≡ c.loop-read.read = c.loop-read.invariant.2 in
    let l : length c.loop-read.lits < count = omega arith in
    let tail = stands_space c.loop-read.rest.now (inner_space c.loop-read.read count c.loop-read.rest.now (omega arith) c.loop-read.invariant.3) in
    let can = some_begins n.vars.now n.syms.now a.some count c.most_if.result c.requires.some c.most_if.ensures c.in_ok-count.ensures.read.not_above (omega arith) in
    let end : c.behind_literals.result ≡ behind_lits (length c.loop-read.lits + 1) count = c.behind_literals.ensures ∙ ap (λ u. behind_lits (u + 1) count) (sym read) in
    rw (p.1, p.2) (λ m. stop-behind (AreLits n.vars.now n.syms.now) lits_text (IsLiteral n.vars.now n.syms.now) (ended_literal (behind_lits (length c.loop-read.lits + 1) count)) a.input.now c.loop-read.rest.now
    (λ k r. refuses-same (AreLits n.vars.now n.syms.now) lits_text a.input.now _ k (lits_so_far count c.loop-read.lits a.input.now c.loop-read.rest.now tail.0 c.loop-read.invariant.0 tail.1)
    (lits-next n.vars.now n.syms.now count c.loop-read.lits tail.0 k c.requires.numbered.0 c.requires.numbered.1 (most_is a.some count c.most_if.result c.most_if.ensures c.in_ok-count.ensures.read.not_above) l c.loop-read.invariant.1
    (same_part (IsLiteral n.vars.now n.syms.now) (ended_literal (behind_lits (length c.loop-read.lits + 1) count)) c.loop-read.rest.now _ k tail.1 r)))
    c.in_err-lit.field-0.0 (subst (λ u. IsStop (IsLiteral n.vars.now n.syms.now) (ended_literal u) c.loop-read.rest.now c.in_err-lit.field-0.0) end (c.in_err-lit.ensures.refused m can)))
