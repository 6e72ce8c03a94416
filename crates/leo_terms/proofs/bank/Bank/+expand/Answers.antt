use Rattle.leo_terms.proofs.Growth.{IsKept-length}
use Rattle.std.proofs.Common.{arith}
use Rattle.leo_terms.proofs.Growth.{Grows-trans}
use Rattle.leo_terms.proofs.Rebuild.{IsSoundNode-leaf}
use Rattle.leo_terms.proofs.ExpandLemmas.{IsExpansionOf-base, IsArrow-parts, index-neutral, expand_app-sound, expand_app-neutral, expand_app-falls, expand_lam-sound, IsExpansionOf-expanded}
use Rattle.leo_terms.proofs.MemoLemmas.{IsFormOf-since}
use Rattle.leo_terms.proofs.bank.Bank.+expand.Goals as goal

pub expand_parts-ty_node-requires : goal.expand_parts-ty_node-requires
expand_parts-ty_node-requires m c = rw c.ty_of-ty.ensures.number (IsSoundNode-leaf c.args.self.now c.ty_of-ty.ensures.sound c.args.t c.requires.within)

pub expand_parts-returns-in-Base-clause-made : goal.expand_parts-returns-in-Base-clause-made
expand_parts-returns-in-Base-clause-made m c = IsExpansionOf-base c.args.self.now c.ty_of-ty.ensures.sound c.args.t c.in-Base.field-0 c.requires.within c.requires.form (rw c.ty_of-ty.ensures.number at c.in-Base.ensures.view)

pub expand_parts-loose-requires : goal.expand_parts-loose-requires
expand_parts-loose-requires m c =
    (IsArrow-parts c.args.self.now c.lift_from.new.self c.lift_from.ensures.grows _ c.in-Arrow.a c.in-Arrow.b c.in-Arrow.ensures.view).0

pub expand_parts-expand-requires : goal.expand_parts-expand-requires
expand_parts-expand-requires m c =
    let a = c.args.self.now in
    let b = c.lift_from.new.self in
    let e = c.loose.new.self in
    let ab = c.lift_from.ensures.grows in
    let be = c.loose.ensures.grows in
    let ty = rw c.ty_of-ty.ensures.number at c.in-Arrow.ensures.view in
    let p = IsArrow-parts a b ab _ c.in-Arrow.a c.in-Arrow.b ty in
    let i = c.in_ok-x-in-Arrow.ensures.made in
    let k = i.type_is in
    (omega arith, (i.within, index-neutral e c.in_ok-x-in-Arrow.x _ 0 _ i))

pub expand_parts-numbered-requires : goal.expand_parts-numbered-requires
expand_parts-numbered-requires m c =
    let a = c.args.self.now in
    let b = c.lift_from.new.self in
    let e = c.loose.new.self in
    let ab = c.lift_from.ensures.grows in
    let be = c.loose.ensures.grows in
    let ty = rw c.ty_of-ty.ensures.number at c.in-Arrow.ensures.view in
    let d = c.expand.new.self in
    let ed = c.expand.ensures.grows in
    let raised = c.in_ok-raised-in-Arrow.ensures.made in
    let index = c.in_ok-x-in-Arrow.ensures.made in
    let expanded = c.in_ok-x-in-Arrow-2.ensures.made in
    expand_app-sound a b e d ab be ed c.args.t c.in-Arrow.a c.in-Arrow.b c.in_ok-raised-in-Arrow.raised c.in_ok-x-in-Arrow.x c.in_ok-x-in-Arrow-2.x c.requires.within c.requires.form ty raised index expanded

pub expand_parts-expand-requires-in-Arrow : goal.expand_parts-expand-requires-in-Arrow
expand_parts-expand-requires-in-Arrow m c =
    let a = c.args.self.now in
    let b = c.lift_from.new.self in
    let e = c.loose.new.self in
    let ab = c.lift_from.ensures.grows in
    let be = c.loose.ensures.grows in
    let ty = rw c.ty_of-ty.ensures.number at c.in-Arrow.ensures.view in
    let d = c.expand.new.self in
    let ed = c.expand.ensures.grows in
    let raised = c.in_ok-raised-in-Arrow.ensures.made in
    let index = c.in_ok-x-in-Arrow.ensures.made in
    let expanded = c.in_ok-x-in-Arrow-2.ensures.made in
    let f = expand_app-falls a b e d ab be ed c.args.t c.in-Arrow.a c.in-Arrow.b c.in_ok-raised-in-Arrow.raised c.in_ok-x-in-Arrow.x c.in_ok-x-in-Arrow-2.x c.requires.within c.requires.form ty raised index expanded c.numbered.new.self c.numbered.ensures.grows c.in_ok-body-in-Arrow.body c.in_ok-body-in-Arrow.ensures.made in
    (omega arith, (c.in_ok-body-in-Arrow.ensures.made.within, expand_app-neutral a b e d ab be ed c.args.t c.in-Arrow.a c.in-Arrow.b c.in_ok-raised-in-Arrow.raised c.in_ok-x-in-Arrow.x c.in_ok-x-in-Arrow-2.x c.requires.within c.requires.form ty raised index expanded c.numbered.new.self c.numbered.ensures.grows c.in_ok-body-in-Arrow.body c.in_ok-body-in-Arrow.ensures.made))

pub expand_parts-numbered-requires-in-Arrow : goal.expand_parts-numbered-requires-in-Arrow
expand_parts-numbered-requires-in-Arrow m c =
    let a = c.args.self.now in
    let b = c.lift_from.new.self in
    let e = c.loose.new.self in
    let ab = c.lift_from.ensures.grows in
    let be = c.loose.ensures.grows in
    let ty = rw c.ty_of-ty.ensures.number at c.in-Arrow.ensures.view in
    let d = c.expand.new.self in
    let ed = c.expand.ensures.grows in
    let raised = c.in_ok-raised-in-Arrow.ensures.made in
    let index = c.in_ok-x-in-Arrow.ensures.made in
    let expanded = c.in_ok-x-in-Arrow-2.ensures.made in
    rw c.ty_of-ty.ensures.number (expand_lam-sound a b e d ab be ed c.args.t c.in-Arrow.a c.in-Arrow.b c.in_ok-raised-in-Arrow.raised c.in_ok-x-in-Arrow.x c.in_ok-x-in-Arrow-2.x c.requires.within c.requires.form ty raised index expanded c.numbered.new.self c.numbered.ensures.grows c.in_ok-body-in-Arrow.body c.in_ok-body-in-Arrow.ensures.made c.expand-in-Arrow.new.self c.expand-in-Arrow.ensures.grows c.in_ok-body-in-Arrow-2.body c.in_ok-body-in-Arrow-2.ensures.made)

pub expand_parts-returns-in_ok-r-in-Arrow-clause-made : goal.expand_parts-returns-in_ok-r-in-Arrow-clause-made
expand_parts-returns-in_ok-r-in-Arrow-clause-made m c =
    let a = c.args.self.now in
    let b = c.lift_from.new.self in
    let e = c.loose.new.self in
    let ab = c.lift_from.ensures.grows in
    let be = c.loose.ensures.grows in
    let ty = rw c.ty_of-ty.ensures.number at c.in-Arrow.ensures.view in
    let d = c.expand.new.self in
    let ed = c.expand.ensures.grows in
    let raised = c.in_ok-raised-in-Arrow.ensures.made in
    let index = c.in_ok-x-in-Arrow.ensures.made in
    let expanded = c.in_ok-x-in-Arrow-2.ensures.made in
    IsExpansionOf-expanded a b e d ab be ed c.args.t c.in-Arrow.a c.in-Arrow.b c.in_ok-raised-in-Arrow.raised c.in_ok-x-in-Arrow.x c.in_ok-x-in-Arrow-2.x c.requires.within c.requires.form ty raised index expanded c.numbered.new.self c.numbered.ensures.grows c.in_ok-body-in-Arrow.body c.in_ok-body-in-Arrow.ensures.made c.expand-in-Arrow.new.self c.expand-in-Arrow.ensures.grows c.in_ok-body-in-Arrow-2.body c.in_ok-body-in-Arrow-2.ensures.made c.numbered-in-Arrow.new.self c.in_ok-r-in-Arrow.r (rw c.ty_of-ty.ensures.number at c.in_ok-r-in-Arrow.ensures.made)

pub expand_parts-returns-in_ok-r-in-Arrow-clause-grows : goal.expand_parts-returns-in_ok-r-in-Arrow-clause-grows
expand_parts-returns-in_ok-r-in-Arrow-clause-grows m c =
    let a = c.args.self.now in
    let b = c.lift_from.new.self in
    let e = c.loose.new.self in
    let ab = c.lift_from.ensures.grows in
    let be = c.loose.ensures.grows in
    let ty = rw c.ty_of-ty.ensures.number at c.in-Arrow.ensures.view in
    let d = c.expand.new.self in
    let ed = c.expand.ensures.grows in
    let raised = c.in_ok-raised-in-Arrow.ensures.made in
    let index = c.in_ok-x-in-Arrow.ensures.made in
    let expanded = c.in_ok-x-in-Arrow-2.ensures.made in
    let n = c.numbered.new.self in
    let f = c.expand-in-Arrow.new.self in
    Grows-trans a f c.numbered-in-Arrow.new.self (Grows-trans a d f (Grows-trans a e d (Grows-trans a b e ab be) ed) (Grows-trans d n f c.numbered.ensures.grows c.expand-in-Arrow.ensures.grows)) c.numbered-in-Arrow.ensures.grows

pub expand-keep_expansion-requires-clause-made : goal.expand-keep_expansion-requires-clause-made
expand-keep_expansion-requires-clause-made m c = IsFormOf-since c.args.self.now c.expand_parts.new.self c.expand_parts.ensures.grows c.args.t c.in_ok-r-in-None.r c.requires.within c.in_ok-r-in-None.ensures.made

pub expand-keep_expansion-requires-clause-within : goal.expand-keep_expansion-requires-clause-within
expand-keep_expansion-requires-clause-within m c =
    let h = c.requires.within in
    let l = IsKept-length c.args.self.now.terms c.expand_parts.new.self.terms c.expand_parts.ensures.grows.keeps.terms in
    omega arith
