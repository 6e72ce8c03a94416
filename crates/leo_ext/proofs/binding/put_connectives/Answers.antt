use Rattle.leo_terms.proofs.CallerLemmas.{extends-trans}
use Rattle.leo_kernel.proofs.Growing.{types-grow}
use Rattle.leo_ext.proofs.BoundMaking.{connectives-put}
use Rattle.leo_ext.proofs.binding.put_connectives.Goals as goal

pub returns-in_err-no-clause-grows : goal.returns-in_err-no-clause-grows
returns-in_err-no-clause-grows c = extends-trans c.truth_bound.ensures.grows c.truth_bound-2.ensures.grows

pub returns-in_err-push-2-clause-grows : goal.returns-in_err-push-2-clause-grows
returns-in_err-push-2-clause-grows c = extends-trans c.truth_bound.ensures.grows c.truth_bound-2.ensures.grows

pub negation_bound-requires : goal.negation_bound-requires
negation_bound-requires c = types-grow (extends-trans c.truth_bound.ensures.grows c.truth_bound-2.ensures.grows) c.args.types.now c.requires

pub returns-in_err-negation-clause-grows : goal.returns-in_err-negation-clause-grows
returns-in_err-negation-clause-grows c = extends-trans (extends-trans c.truth_bound.ensures.grows c.truth_bound-2.ensures.grows) c.negation_bound.ensures.grows

pub returns-in_err-push-3-clause-grows : goal.returns-in_err-push-3-clause-grows
returns-in_err-push-3-clause-grows c = extends-trans (extends-trans c.truth_bound.ensures.grows c.truth_bound-2.ensures.grows) c.negation_bound.ensures.grows

pub disjunction_bound-requires : goal.disjunction_bound-requires
disjunction_bound-requires c = types-grow (extends-trans (extends-trans c.truth_bound.ensures.grows c.truth_bound-2.ensures.grows) c.negation_bound.ensures.grows) c.args.types.now c.requires

pub returns-in_err-disjunction-clause-grows : goal.returns-in_err-disjunction-clause-grows
returns-in_err-disjunction-clause-grows c = extends-trans (extends-trans (extends-trans c.truth_bound.ensures.grows c.truth_bound-2.ensures.grows) c.negation_bound.ensures.grows) c.disjunction_bound.ensures.grows

pub returns-in_err-push-4-clause-grows : goal.returns-in_err-push-4-clause-grows
returns-in_err-push-4-clause-grows c = extends-trans (extends-trans (extends-trans c.truth_bound.ensures.grows c.truth_bound-2.ensures.grows) c.negation_bound.ensures.grows) c.disjunction_bound.ensures.grows

pub returns-clause-adds : goal.returns-clause-adds
returns-clause-adds c =
    connectives-put c.truth_bound.ensures.grows c.truth_bound-2.ensures.grows c.negation_bound.ensures.grows c.disjunction_bound.ensures.grows c.args.types.now c.requires c.args.next c.args.bounds.now.items c.push.new.self.items c.push-2.new.self.items c.push-3.new.self.items c.push-4.new.self.items c.in_ok-yes.yes c.in_ok-no.no c.in_ok-negation.negation c.in_ok-disjunction.disjunction
    c.in_ok-push.ensures.items c.in_ok-yes.ensures.made c.in_ok-push-2.ensures.items c.in_ok-no.ensures.made c.in_ok-push-3.ensures.items c.in_ok-negation.ensures.made c.in_ok-push-4.ensures.items c.in_ok-disjunction.ensures.made

pub returns-clause-grows : goal.returns-clause-grows
returns-clause-grows c = extends-trans (extends-trans (extends-trans c.truth_bound.ensures.grows c.truth_bound-2.ensures.grows) c.negation_bound.ensures.grows) c.disjunction_bound.ensures.grows
