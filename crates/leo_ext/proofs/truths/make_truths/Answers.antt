use Rattle.std.proofs.Common.{◌∙◌, arith}
use Rattle.leo_terms.proofs.CallerLemmas.{extends-trans, tree-kept}
use Rattle.leo_ext.proofs.truths.make_truths.Goals as goal

pub returns-clause-truths : goal.returns-clause-truths
returns-clause-truths c =
    let y = c.in_ok-yes.ensures.made in
    let n = c.in_ok-no.ensures.made in
    let g = c.make_logic-2.ensures.grows in
    record {
      yes_within = let w = y.within in let m = g.terms_more in omega arith;
      no_within = n.within;
      yes_reads = tree-kept g c.in_ok-yes.yes y.within ∙ y.reads;
      no_reads = n.reads;
    }

pub returns-clause-grows : goal.returns-clause-grows
returns-clause-grows c = extends-trans c.make_logic.ensures.grows c.make_logic-2.ensures.grows
