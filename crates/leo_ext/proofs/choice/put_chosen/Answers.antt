use Rattle.std.proofs.Common.{◌≡◌, ◌+◌, rules}
use Rattle.leo_terms.proofs.CallerLemmas.{extends-itself, extends-trans}
use Rattle.leo_kernel.proofs.Growing.{types-grow}
use Rattle.leo_ext.proofs.ChoiceMembers.{chosen-added, property-grow, truths-kept}
use Rattle.leo_ext.proofs.choice.put_chosen.Goals as goal

pub returns-in_default-clause-grows : goal.returns-in_default-clause-grows
returns-in_default-clause-grows c = extends-itself c.is_sound.ensures.sound

pub instance-requires-clause-truths : goal.instance-requires-clause-truths
instance-requires-clause-truths c = truths-kept c.axiom.ensures.grows c.args.truths.now c.requires.truths

pub instance-requires-clause-vars : goal.instance-requires-clause-vars
instance-requires-clause-vars c = rw c.as_slice.ensures (types-grow c.axiom.ensures.grows c.args.clause.now.vars c.requires.clause.of_bank.types_of)

pub instance-requires-clause-property : goal.instance-requires-clause-property
instance-requires-clause-property c = property-grow c.axiom.ensures.grows c.requires.property

pub returns-in_err-second-clause-grows : goal.returns-in_err-second-clause-grows
returns-in_err-second-clause-grows c = extends-trans c.axiom.ensures.grows c.instance.ensures.grows

pub returns-in_err-records-clause-grows : goal.returns-in_err-records-clause-grows
returns-in_err-records-clause-grows c = extends-trans c.axiom.ensures.grows c.instance.ensures.grows

pub returns-in_err-put_member-clause-grows : goal.returns-in_err-put_member-clause-grows
returns-in_err-put_member-clause-grows c = extends-trans c.axiom.ensures.grows c.instance.ensures.grows

pub returns-clause-adds : goal.returns-clause-adds
returns-clause-adds c =
    let p : c.in-Some.parent ≡ c.args.before + 1 = search rules in
    chosen-added c.axiom.ensures.grows c.instance.ensures.grows c.args.clause.now c.requires.clause.of_bank.types_of c.args.chosen.now c.requires.property c.args.before c.in-Some.parent c.in_ok-first.first c.in_ok-second.second c.as_slice.result.now c.args.dues.now.items c.put_member.new.dues.items c.in_ok-records.records c.as_slice.ensures p c.in_ok-first.ensures.made c.in_ok-second.ensures.made c.in_ok-records.ensures c.in_ok-put_member.ensures

pub returns-clause-grows : goal.returns-clause-grows
returns-clause-grows c = extends-trans c.axiom.ensures.grows c.instance.ensures.grows
