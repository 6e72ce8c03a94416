use Rattle.std.proofs.Common.{◌≡◌, ◌∙◌, ◌+◌, refl, rules}
use Rattle.leo_ext.specs.Pairs.{turned_lit}
use Rattle.leo_ext.proofs.Factoring.{replaced-length}
use Rattle.leo_ext.proofs.factor.turned_records.Goals as goal

pub factored-requires : goal.factored-requires
factored-requires c = rw c.in_ok-middle.ensures.lits (replaced-length c.args.clause.now.lits c.args.pair.now.second (turned_lit c.args.pair.now.other) c.requires)

pub returns : goal.returns
returns c =
    let p : c.in-Some.parent ≡ c.args.before + 1 = search rules in
    record {
      middle = c.in_ok-middle.middle;
      conclusion = c.in_ok-conclusion.conclusion;
      middle_vars = c.in_ok-middle.ensures.vars;
      middle_lits = c.in_ok-middle.ensures.lits;
      conclusion_vars = c.in_ok-conclusion.ensures.vars;
      conclusion_lits = c.in_ok-conclusion.ensures.lits;
      are = c.in_ok-records.ensures ∙ rw (p, c.in_ok-first.ensures, c.in_ok-second.ensures) refl;
    }
