use Rattle.std.proofs.Common.{◌≡◌, [], refl, arith}
use Rattle.leo_core.proofs.Refuting.{found_at, remains_next}
use Rattle.leo_core.proofs.refuted.has_empty.Goals as goal

pub returns-then-is_empty : goal.returns-then-is_empty
returns-then-is_empty c = λ b. (λ _. found_at c.args.clauses.now c.args.from c.loop-number.number c.index-clauses-number.result c.loop-number.invariant.1 c.loop-number-test.true c.index-clauses-number.is (c.is_empty.ensures.0 c.if-is_empty.true) b, λ _. refl)

pub loop-number-preserved : goal.loop-number-preserved
loop-number-preserved c =
    let within = c.loop-number.invariant.1 in
    let full : c.index-clauses-number.result.lits ≡ [] → ⊥ = λ e. (let f = c.is_empty.ensures.1 e in let g = c.if-is_empty.false in let z : ⊥ = cc in z) in
    (remains_next c.args.clauses.now c.args.from c.loop-number.number c.index-clauses-number.result c.loop-number-test.true c.index-clauses-number.is full c.loop-number.invariant.0, omega (arith, within))
