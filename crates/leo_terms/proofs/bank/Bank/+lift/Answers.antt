use Rattle.std.proofs.Common.{◌≡◌, ◌+◌, sym, refl, arith, rules}
use Rattle.leo_terms.specs.Contents.{tree_at, type_at, type_number}
use Rattle.leo_terms.proofs.TreeLemmas.{lifted-below, lifted-above, IsBoundAt-lifted}
use Rattle.leo_terms.proofs.Rebuild.{parts-app, parts-lam, parts-logic, bound-lam, part-keeps, argument-keeps, IsSoundNode-leaf, IsTerm-itself, tree-var, tree-sym, tree-bound, tree-app, tree-lam, tree-logic, rebuilt_app, rebuilt_app-sound, rebuilt_lam, rebuilt_lam-sound, rebuilt_logic, rebuilt_logic-sound, argument_number-below, IsArgumentBelow-length}
use Rattle.leo_terms.proofs.FactLemmas.{lifted-closed}
use Rattle.leo_terms.proofs.Growth.{IsKept-length}
use Rattle.leo_terms.proofs.Measures.{argument_size-falls}
use Rattle.leo_terms.proofs.MemoLemmas.{IsTerm-since}
use Rattle.leo_terms.proofs.bank.Bank.+lift.Goals as goal

pub lift_parts-returns-in-Var-clause-made : goal.lift_parts-returns-in-Var-clause-made
lift_parts-returns-in-Var-clause-made m c =
    let e = tree-var c.args.self.now c.in-Var.ensures.sound c.args.t _ c.in-Var.ensures.view in
    IsTerm-itself c.args.self.now c.args.t _ c.requires.within (rw e refl)

pub lift_parts-returns-in-Sym-clause-made : goal.lift_parts-returns-in-Sym-clause-made
lift_parts-returns-in-Sym-clause-made m c =
    let e = tree-sym c.args.self.now c.in-Sym.ensures.sound c.args.t _ c.in-Sym.ensures.view in
    IsTerm-itself c.args.self.now c.args.t _ c.requires.within (rw e refl)

pub lift_parts-returns-then-from-clause-made : goal.lift_parts-returns-then-from-clause-made
lift_parts-returns-then-from-clause-made m c =
    let e = tree-bound c.args.self.now c.in-Bound.ensures.sound c.args.t _ c.in-Bound.ensures.view in
    IsTerm-itself c.args.self.now c.args.t _ c.requires.within (rw e (sym (lifted-below c.in-Bound.index c.args.from c.args.by _ (omega arith))))

pub lift_parts-numbered-requires : goal.lift_parts-numbered-requires
lift_parts-numbered-requires m c = rw c.ty_of-ty.ensures.number (record {
  type_below = IsSoundNode-leaf c.args.self.now c.in-Bound.ensures.sound c.args.t c.requires.within;
  view_sound = tt;
})

pub lift_parts-returns-in_ok-r-in-Bound-clause-made : goal.lift_parts-returns-in_ok-r-in-Bound-clause-made
lift_parts-returns-in_ok-r-in-Bound-clause-made m c =
    let e = tree-bound c.args.self.now c.in-Bound.ensures.sound c.args.t _ c.in-Bound.ensures.view in
    let q : c.in-Some.raised ≡ c.in-Bound.index + c.args.by = search rules in
    rw (e, lifted-above c.in-Bound.index c.args.from c.args.by (type_at c.args.self.now (type_number c.args.self.now c.args.t)) (omega arith), ← c.ty_of-ty.ensures.number, ← q) c.in_ok-r-in-Bound.ensures.made

pub lift_parts-lift_from-requires : goal.lift_parts-lift_from-requires
lift_parts-lift_from-requires m c =
    let p = parts-app c.args.self.now c.in-App.ensures.sound c.args.t c.in-App.f c.in-App.a c.in-App.ensures.view in
    (omega arith, omega arith)

pub lift_parts-lift_from-requires-in-App : goal.lift_parts-lift_from-requires-in-App
lift_parts-lift_from-requires-in-App m c =
    let p = parts-app c.args.self.now c.in-App.ensures.sound c.args.t c.in-App.f c.in-App.a c.in-App.ensures.view in
    let l = IsKept-length c.args.self.now.terms c.lift_from.new.self.terms c.lift_from.ensures.grows.keeps.terms in
    (omega arith, omega arith)

pub lift_parts-numbered-requires-in-App : goal.lift_parts-numbered-requires-in-App
lift_parts-numbered-requires-in-App m c =
    rw c.ty_of-ty.ensures.number (rebuilt_app-sound c.args.self.now c.lift_from.new.self c.lift_from-in-App.new.self c.lift_from.ensures.grows c.lift_from-in-App.ensures.grows c.args.t c.in-App.f c.in-App.a c.in_ok-f-in-App.f c.in_ok-a-in-App.a c.in-App.ensures.view _ _ c.in_ok-f-in-App.ensures.made c.in_ok-a-in-App.ensures.made)

pub lift_parts-returns-in_ok-r-in-App-clause-made : goal.lift_parts-returns-in_ok-r-in-App-clause-made
lift_parts-returns-in_ok-r-in-App-clause-made m c =
    let a = c.args.self.now in
    let b = c.lift_from.new.self in
    let v = c.in-App.ensures.view in
    let s = c.in-App.ensures.sound in
    let p = parts-app a s c.args.t c.in-App.f c.in-App.a v in
    let e = part-keeps a b c.lift_from.ensures.grows c.args.t c.in-App.a p.1 p.2 in
    let r = rebuilt_app a b c.lift_from-in-App.new.self c.lift_from.ensures.grows c.lift_from-in-App.ensures.grows c.args.t c.in-App.f c.in-App.a c.in_ok-f-in-App.f c.in_ok-a-in-App.a v _ _ c.in_ok-f-in-App.ensures.made c.in_ok-a-in-App.ensures.made c.numbered-in-App.new.self c.in_ok-r-in-App.r (rw c.ty_of-ty.ensures.number at c.in_ok-r-in-App.ensures.made) in
    rw (tree-app a s c.args.t c.in-App.f c.in-App.a v) (rw e at r)

pub lift_parts-overflow_add-from : goal.lift_parts-overflow_add-from
lift_parts-overflow_add-from m c =
    let p = parts-lam c.args.self.now c.in-Lam.ensures.sound c.args.t c.in-Lam.a c.in-Lam.body c.in-Lam.ensures.view in
    let q = c.requires.deep in
    omega arith

pub lift_parts-lift_from-requires-in-Lam : goal.lift_parts-lift_from-requires-in-Lam
lift_parts-lift_from-requires-in-Lam m c =
    let p = parts-lam c.args.self.now c.in-Lam.ensures.sound c.args.t c.in-Lam.a c.in-Lam.body c.in-Lam.ensures.view in
    (omega arith, omega arith)

pub lift_parts-numbered-requires-in-Lam : goal.lift_parts-numbered-requires-in-Lam
lift_parts-numbered-requires-in-Lam m c =
    let a = c.args.self.now in
    let v = c.in-Lam.ensures.view in
    let s = c.in-Lam.ensures.sound in
    rw c.ty_of-ty.ensures.number (rebuilt_lam-sound a c.lift_from-in-Lam.new.self c.lift_from-in-Lam.ensures.grows c.args.t c.in-Lam.a c.in-Lam.body c.in_ok-body-in-Lam.body v _ c.in_ok-body-in-Lam.ensures.made (IsBoundAt-lifted (tree_at a c.in-Lam.body) 0 (c.args.from + 1) c.args.by (type_at a c.in-Lam.a) (omega arith) (bound-lam a s c.args.t c.in-Lam.a c.in-Lam.body v)))

pub lift_parts-returns-in_ok-r-in-Lam-clause-made : goal.lift_parts-returns-in_ok-r-in-Lam-clause-made
lift_parts-returns-in_ok-r-in-Lam-clause-made m c =
    let a = c.args.self.now in
    let v = c.in-Lam.ensures.view in
    let s = c.in-Lam.ensures.sound in
    rw (tree-lam a s c.args.t c.in-Lam.a c.in-Lam.body v) (rebuilt_lam a c.lift_from-in-Lam.new.self c.lift_from-in-Lam.ensures.grows c.args.t c.in-Lam.a c.in-Lam.body c.in_ok-body-in-Lam.body v _ c.in_ok-body-in-Lam.ensures.made c.numbered-in-Lam.new.self c.in_ok-r-in-Lam.r (rw c.ty_of-ty.ensures.number at c.in_ok-r-in-Lam.ensures.made))

pub lift_parts-lift_argument-requires : goal.lift_parts-lift_argument-requires
lift_parts-lift_argument-requires m c =
    let p = parts-logic c.args.self.now c.in-Logic.ensures.sound c.args.t c.in-Logic.op c.in-Logic.x c.in-Logic.y c.in-Logic.ensures.view in
    let f = argument_size-falls c.args.t c.in-Logic.x p.0 in
    (omega arith, (IsArgumentBelow-length c.args.t _ (omega arith) c.in-Logic.x p.0, λ u e. let k = argument_number-below c.args.t c.in-Logic.x u p.0 e in let q = c.requires.deep in omega arith))

pub lift_parts-lift_argument-requires-in-Logic : goal.lift_parts-lift_argument-requires-in-Logic
lift_parts-lift_argument-requires-in-Logic m c =
    let p = parts-logic c.args.self.now c.in-Logic.ensures.sound c.args.t c.in-Logic.op c.in-Logic.x c.in-Logic.y c.in-Logic.ensures.view in
    let l = IsKept-length c.args.self.now.terms c.lift_argument.new.self.terms c.lift_argument.ensures.grows.keeps.terms in
    let f = argument_size-falls c.args.t c.in-Logic.y p.1 in
    (omega arith, (IsArgumentBelow-length c.args.t _ (omega arith) c.in-Logic.y p.1, λ u e. let k = argument_number-below c.args.t c.in-Logic.y u p.1 e in let q = c.requires.deep in omega arith))

pub lift_parts-numbered-requires-in-Logic : goal.lift_parts-numbered-requires-in-Logic
lift_parts-numbered-requires-in-Logic m c =
    rw c.ty_of-ty.ensures.number (rebuilt_logic-sound c.args.self.now c.lift_argument.new.self c.lift_argument-in-Logic.new.self c.lift_argument.ensures.grows c.lift_argument-in-Logic.ensures.grows c.args.t c.in-Logic.op c.in-Logic.x c.in-Logic.y c.in_ok-x-in-Logic.x c.in_ok-y-in-Logic.y c.in-Logic.ensures.view _ _ c.in_ok-x-in-Logic.ensures.made c.in_ok-y-in-Logic.ensures.made)

pub lift_parts-returns-in_ok-r-in-Logic-clause-made : goal.lift_parts-returns-in_ok-r-in-Logic-clause-made
lift_parts-returns-in_ok-r-in-Logic-clause-made m c =
    let a = c.args.self.now in
    let b = c.lift_argument.new.self in
    let v = c.in-Logic.ensures.view in
    let s = c.in-Logic.ensures.sound in
    let p = parts-logic a s c.args.t c.in-Logic.op c.in-Logic.x c.in-Logic.y v in
    let e = argument-keeps a b c.lift_argument.ensures.grows c.args.t p.2 c.in-Logic.y p.1 in
    let r = rebuilt_logic a b c.lift_argument-in-Logic.new.self c.lift_argument.ensures.grows c.lift_argument-in-Logic.ensures.grows c.args.t c.in-Logic.op c.in-Logic.x c.in-Logic.y c.in_ok-x-in-Logic.x c.in_ok-y-in-Logic.y v _ _ c.in_ok-x-in-Logic.ensures.made c.in_ok-y-in-Logic.ensures.made c.numbered-in-Logic.new.self c.in_ok-r-in-Logic.r (rw c.ty_of-ty.ensures.number at c.in_ok-r-in-Logic.ensures.made) in
    rw (tree-logic a s c.args.t c.in-Logic.op c.in-Logic.x c.in-Logic.y v) (rw e at r)

pub lift_from-keep_lift-requires-clause-made : goal.lift_from-keep_lift-requires-clause-made
lift_from-keep_lift-requires-clause-made m c = IsTerm-since c.args.self.now c.lift_parts.new.self c.lift_parts.ensures.grows c.args.t c.args.from c.args.by c.in_ok-r-in-None.r c.requires.within c.in_ok-r-in-None.ensures.made

pub lift_from-keep_lift-requires-clause-within : goal.lift_from-keep_lift-requires-clause-within
lift_from-keep_lift-requires-clause-within m c =
    let h = c.requires.within in
    let l = IsKept-length c.args.self.now.terms c.lift_parts.new.self.terms c.lift_parts.ensures.grows.keeps.terms in
    omega arith

pub lift_from-returns-then-facts_at-from-clause-made : goal.lift_from-returns-then-facts_at-from-clause-made
lift_from-returns-then-facts_at-from-clause-made m c =
    let e = c.facts_at.ensures.facts.loose in
    let h = c.if-facts_at-from.true in
    IsTerm-itself c.args.self.now c.args.t _ c.requires.within (sym (lifted-closed (tree_at c.args.self.now c.args.t) c.args.from c.args.by (omega arith)))
