use Rattle.std.proofs.Common.{map, ap, refl, sym, ◌∙◌, arith}
use Rattle.std.proofs.lemmas.List.{length-map}
use Rattle.std.proofs.lemmas.Option.{slice_get_within}
use Rattle.leo_clause.specs.Trees.{literal_at}
use Rattle.leo_kernel.specs.Steps.{line_at}
use Rattle.leo_derive.proofs.Records.{line_stands, one_more, mapped_empty}
use Rattle.leo_derive.proofs.pruning.first_empty.Goals as goal

pub returns-then-is_empty-clause-some : goal.returns-then-is_empty-clause-some
returns-then-is_empty-clause-some c = record {
  line = line_at c.args.bank.now c.index-lines-number.result;
  line_is = line_stands c.args.bank.now c.args.lines.now c.loop-number.number c.index-lines-number.result c.loop-number-test.true c.index-lines-number.is;
  empty = ap (λ r. map (literal_at c.args.bank.now) r.clause.lits) c.index-lines-number.is ∙ ap (map (literal_at c.args.bank.now)) (c.if-is_empty.ensures.0 refl);
  first = c.loop-number.invariant;
}

pub loop-number-preserved : goal.loop-number-preserved
loop-number-preserved c = one_more (map (line_at c.args.bank.now) c.args.lines.now) c.loop-number.number (line_at c.args.bank.now c.index-lines-number.result)
    (line_stands c.args.bank.now c.args.lines.now c.loop-number.number c.index-lines-number.result c.loop-number-test.true c.index-lines-number.is) (λ h. let e = c.if-is_empty.ensures.1 (ap (λ r. r.clause.lits) (sym c.index-lines-number.is) ∙ mapped_empty (literal_at c.args.bank.now) c.index-lines-number.result.clause.lits h) in cc) c.loop-number.invariant

pub returns-clause-none : goal.returns-clause-none
returns-clause-none c h =
    let w = slice_get_within (map (line_at c.args.bank.now) c.args.lines.now) h.number h.line h.line_is in
    c.loop-number.invariant h.number h.line (omega (arith, w, length-map c.args.lines.now (line_at c.args.bank.now), c.loop-number-test.false)) h.line_is h.empty
