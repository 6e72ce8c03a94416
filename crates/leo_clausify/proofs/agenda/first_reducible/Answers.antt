use Rattle.std.proofs.Common.{◌∙◌, map, sym, arith}
use Rattle.std.proofs.lemmas.Option.{slice_get_within}
use Rattle.leo_clause.specs.Trees.{literal_at}
use Rattle.leo_kernel.proofs.Lists.{get-index}
use Rattle.leo_clausify.proofs.Banks.{literals-at}
use Rattle.leo_clausify.proofs.Giving.{length-map}
use Rattle.leo_clausify.proofs.Stepping.{reduced-next, reduced-all}
use Rattle.leo_clausify.proofs.agenda.first_reducible.Goals as goal

pub is_reducible-requires-clause-left : goal.is_reducible-requires-clause-left
is_reducible-requires-clause-left c = (literals-at c.args.bank.now c.args.lits.now c.requires c.loop-at.at c.index-lits-at.result c.loop-at-test.true c.index-lits-at.is).0

pub is_reducible-requires-clause-right : goal.is_reducible-requires-clause-right
is_reducible-requires-clause-right c = (literals-at c.args.bank.now c.args.lits.now c.requires c.loop-at.at c.index-lits-at.result c.loop-at-test.true c.index-lits-at.is).1

pub returns-then-is_reducible : goal.returns-then-is_reducible
returns-then-is_reducible c = record {
  lit = c.index-lits-at.result;
  stands = get-index c.args.lits.now c.loop-at.at c.index-lits-at.result c.loop-at-test.true c.index-lits-at.is;
  reducible = sym c.is_reducible.ensures ∙ c.if-is_reducible.true;
  earlier = c.loop-at.invariant;
}

pub loop-at-preserved : goal.loop-at-preserved
loop-at-preserved c = reduced-next c.args.bank.now c.args.lits.now c.loop-at.at c.index-lits-at.result c.loop-at.invariant c.loop-at-test.true c.index-lits-at.is c.is_reducible.result c.is_reducible.ensures c.if-is_reducible.false

pub returns : goal.returns
returns c = reduced-all (map (literal_at c.args.bank.now) c.args.lits.now) (λ j k e. c.loop-at.invariant j k (let a = slice_get_within (map (literal_at c.args.bank.now) c.args.lits.now) j k e in let b = length-map (literal_at c.args.bank.now) c.args.lits.now in omega arith) e)
