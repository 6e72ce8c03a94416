use Rattle.std.proofs.Common.{ℕ, List, [], subst, map}
use Rattle.leo_terms.proofs.CallerLemmas.{extends-itself, extends-trans}
use Rattle.leo_clause.specs.declared.choices.Abbr.{Abbr}
use Rattle.leo_clause.specs.Trees.{clause_at}
use Rattle.leo_para.specs.declared.member.Due.{Due}
use Rattle.leo_ext.specs.declared.func_ext.Extended.{Extended}
use Rattle.leo_ext.specs.Functions.{AreExtended, extended_member}
use Rattle.leo_ext.specs.Joining.{joined}
use Rattle.leo_ext.specs.Listing.{Adds}
use Rattle.leo_ext.proofs.Adding.{typed-grow}
use Rattle.leo_ext.proofs.Joined.{order-grow, stand-first, unary-in}
use Rattle.leo_ext.proofs.joining.unary.Goals as goal

pub returns-in_err-choices-clause-grows : goal.returns-in_err-choices-clause-grows
returns-in_err-choices-clause-grows c = extends-itself c.is_sound.ensures.sound

pub returns-in_err-extended-clause-in_order : goal.returns-in_err-extended-clause-in_order
returns-in_err-extended-clause-in_order c = order-grow c.all_extended.ensures.grows c.args.abbr.now.items c.requires.in_order

pub put_all-requires-clause-clause : goal.put_all-requires-clause-clause
put_all-requires-clause-clause c = typed-grow c.all_extended.ensures.grows c.args.clause.now c.requires.clause

pub returns-in_err-put_all-clause-in_order : goal.returns-in_err-put_all-clause-in_order
returns-in_err-put_all-clause-in_order c = order-grow (extends-trans c.all_extended.ensures.grows c.put_all.ensures.grows) c.args.abbr.now.items c.requires.in_order

pub returns-in_err-put_all-clause-grows : goal.returns-in_err-put_all-clause-grows
returns-in_err-put_all-clause-grows c = extends-trans c.all_extended.ensures.grows c.put_all.ensures.grows

pub returns-clause-members : goal.returns-clause-members
returns-clause-members c =
    let made = subst (λ (a : Abbr). AreExtended c.args.bank.now c.all_extended.new.bank a.items c.all_extended.new.choices.items c.args.clause.now c.in_ok-extended.extended.items) c.in_ok-choices.ensures c.in_ok-extended.ensures.made in
    let put = subst (λ (es : List Extended). Adds c.all_extended.new.bank c.put_all.new.bank c.new-dues.result.items c.put_all.new.dues.items (joined c.count_of-before.result (clause_at c.all_extended.new.bank c.args.clause.now) (map (extended_member c.all_extended.new.bank c.count_of-before.result) es))) c.deref.ensures.value c.in_ok-put_all.ensures.adds in
    let there = subst (λ (ds : List Due). Adds c.all_extended.new.bank c.put_all.new.bank ds c.put_all.new.dues.items (joined c.count_of-before.result (clause_at c.all_extended.new.bank c.args.clause.now) (map (extended_member c.all_extended.new.bank c.count_of-before.result) c.in_ok-extended.extended.items))) c.new-dues.ensures.items put in
    let counted = subst (λ (n : ℕ). Adds c.all_extended.new.bank c.put_all.new.bank [] c.put_all.new.dues.items (joined n (clause_at c.all_extended.new.bank c.args.clause.now) (map (extended_member c.all_extended.new.bank n) c.in_ok-extended.extended.items))) c.count_of-before.ensures there in
    unary-in c.all_extended.ensures.grows c.put_all.ensures.grows c.args.abbr.now.items c.all_extended.new.choices.items c.args.clause.now c.requires.clause c.requires.in_order c.in_ok-extended.extended.items made c.put_all.new.dues.items counted

pub returns-clause-in_order : goal.returns-clause-in_order
returns-clause-in_order c = order-grow c.put_all.ensures.grows c.all_extended.new.choices.items c.in_ok-extended.ensures.made.in_order

pub returns-clause-longer : goal.returns-clause-longer
returns-clause-longer c =
    let made = subst (λ (a : Abbr). AreExtended c.args.bank.now c.all_extended.new.bank a.items c.all_extended.new.choices.items c.args.clause.now c.in_ok-extended.extended.items) c.in_ok-choices.ensures c.in_ok-extended.ensures.made in
    stand-first c.all_extended.ensures.grows c.args.abbr.now.items c.all_extended.new.choices.items c.args.clause.now c.requires.in_order c.in_ok-extended.extended.items made

pub returns-clause-grows : goal.returns-clause-grows
returns-clause-grows c = extends-trans c.all_extended.ensures.grows c.put_all.ensures.grows
