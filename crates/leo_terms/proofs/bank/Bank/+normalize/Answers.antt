use Rattle.std.proofs.Common.{inr, refl, arith}
use Rattle.leo_terms.specs.Tree.{absent}
use Rattle.leo_terms.specs.Reduction.{nothing}
use Rattle.leo_terms.specs.Contents.{tree_at, type_number, argument}
use Rattle.leo_terms.proofs.Growth.{IsKept-length, Grows-trans, Grows-itself, argument_type-keeps}
use Rattle.leo_terms.proofs.Measures.{argument_size-falls}
use Rattle.leo_terms.proofs.Rebuild.{parts-app, parts-lam, parts-logic, tree-var, tree-sym, tree-bound, rebuilt_lam, rebuilt_lam-sound, rebuilt_logic, rebuilt_logic-sound, IsArgumentBelow-length}
use Rattle.leo_terms.proofs.ExpandLemmas.{IsFormOf-grows, IsFormOf-from, IsNormalArgumentOf-grows, IsNormalArgumentOf-from, IsTerm-normal, IsArgumentTerm-normal, IsNormalFormOf-after, normal_function, normal_body, normal_body-within, normal_body-bound, IsNormalFormOf-app, normal_lam-bound, IsNormalFormOf-lam, normal_logic-neutral, normal_logic-reduces, normal_logic-value, IsNormalFormOf-leaf}
use Rattle.leo_terms.proofs.MemoLemmas.{IsFormOf-since}
use Rattle.leo_terms.proofs.bank.Bank.+normalize.Goals as goal

pub normalize_parts-expand-requires-clause-form : goal.normalize_parts-expand-requires-clause-form
normalize_parts-expand-requires-clause-form m c = rw (tree-var c.args.self.now c.in-Var.ensures.sound c.args.t _ c.in-Var.ensures.view) tt

pub normalize_parts-expand-requires-in-Sym-clause-form : goal.normalize_parts-expand-requires-in-Sym-clause-form
normalize_parts-expand-requires-in-Sym-clause-form m c = rw (tree-sym c.args.self.now c.in-Sym.ensures.sound c.args.t _ c.in-Sym.ensures.view) tt

pub normalize_parts-expand-requires-in-Bound-clause-form : goal.normalize_parts-expand-requires-in-Bound-clause-form
normalize_parts-expand-requires-in-Bound-clause-form m c = rw (tree-bound c.args.self.now c.in-Bound.ensures.sound c.args.t _ c.in-Bound.ensures.view) tt

pub normalize_parts-normalize-requires : goal.normalize_parts-normalize-requires
normalize_parts-normalize-requires m c =
    let p = parts-app c.args.self.now c.in-App.ensures.sound c.args.t c.in-App.f c.in-App.a c.in-App.ensures.view in
    (omega arith, omega arith)

pub normalize_parts-normalize-requires-in-App : goal.normalize_parts-normalize-requires-in-App
normalize_parts-normalize-requires-in-App m c =
    let p = parts-app c.args.self.now c.in-App.ensures.sound c.args.t c.in-App.f c.in-App.a c.in-App.ensures.view in
    let l = IsKept-length c.args.self.now.terms c.normalize.new.self.terms c.normalize.ensures.grows.keeps.terms in
    (omega arith, omega arith)

pub normalize_parts-top-requires-in-App : goal.normalize_parts-top-requires-in-App
normalize_parts-top-requires-in-App m c =
    let l = IsKept-length c.normalize.new.self.terms c.normalize-in-App.new.self.terms c.normalize-in-App.ensures.grows.keeps.terms in
    let w = c.in_ok-f-in-App.ensures.made.within in
    omega arith

pub normalize_parts-put-requires-clause-within : goal.normalize_parts-put-requires-clause-within
normalize_parts-put-requires-clause-within m c =
    let a = c.args.self.now in
    let b = c.normalize.new.self in
    let d = c.normalize-in-App.new.self in
    let g = c.normalize.ensures.grows in
    let h = c.normalize-in-App.ensures.grows in
    let e = Grows-trans a b d g h in
    let v = c.in-App.ensures.view in
    let u = parts-app a c.in-App.ensures.sound c.args.t c.in-App.f c.in-App.a v in
    let p = IsFormOf-grows a b d h c.in-App.f c.in_ok-f-in-App.f c.in_ok-f-in-App.ensures.made in
    let q = IsFormOf-from a b d g c.in-App.a c.in_ok-a-in-App.a (omega arith) c.in_ok-a-in-App.ensures.made in
    (normal_body-within a d e c.args.t c.in-App.f c.in-App.a c.in_ok-f-in-App.f c.in_ok-a-in-App.a v p q c.in-Lam-top.field-0 c.in-Lam-top.body c.in-Lam-top.ensures.view).0

pub normalize_parts-put-requires-clause-deep : goal.normalize_parts-put-requires-clause-deep
normalize_parts-put-requires-clause-deep m c =
    let a = c.args.self.now in
    let b = c.normalize.new.self in
    let d = c.normalize-in-App.new.self in
    let g = c.normalize.ensures.grows in
    let h = c.normalize-in-App.ensures.grows in
    let e = Grows-trans a b d g h in
    let v = c.in-App.ensures.view in
    let u = parts-app a c.in-App.ensures.sound c.args.t c.in-App.f c.in-App.a v in
    let p = IsFormOf-grows a b d h c.in-App.f c.in_ok-f-in-App.f c.in_ok-f-in-App.ensures.made in
    let q = IsFormOf-from a b d g c.in-App.a c.in_ok-a-in-App.a (omega arith) c.in_ok-a-in-App.ensures.made in
    let w = normal_body-within a d e c.args.t c.in-App.f c.in-App.a c.in_ok-f-in-App.f c.in_ok-a-in-App.a v p q c.in-Lam-top.field-0 c.in-Lam-top.body c.in-Lam-top.ensures.view in
    omega arith

pub normalize_parts-put-requires-clause-typed : goal.normalize_parts-put-requires-clause-typed
normalize_parts-put-requires-clause-typed m c =
    let a = c.args.self.now in
    let b = c.normalize.new.self in
    let d = c.normalize-in-App.new.self in
    let g = c.normalize.ensures.grows in
    let h = c.normalize-in-App.ensures.grows in
    let e = Grows-trans a b d g h in
    let v = c.in-App.ensures.view in
    let u = parts-app a c.in-App.ensures.sound c.args.t c.in-App.f c.in-App.a v in
    let p = IsFormOf-grows a b d h c.in-App.f c.in_ok-f-in-App.f c.in_ok-f-in-App.ensures.made in
    let q = IsFormOf-from a b d g c.in-App.a c.in_ok-a-in-App.a (omega arith) c.in_ok-a-in-App.ensures.made in
    normal_body-bound a d e c.args.t c.in-App.f c.in-App.a c.in_ok-f-in-App.f c.in_ok-a-in-App.a v p q c.in-Lam-top.field-0 c.in-Lam-top.body c.in-Lam-top.ensures.view

pub normalize_parts-put-requires-clause-form : goal.normalize_parts-put-requires-clause-form
normalize_parts-put-requires-clause-form m c =
    let a = c.args.self.now in
    let b = c.normalize.new.self in
    let d = c.normalize-in-App.new.self in
    let g = c.normalize.ensures.grows in
    let h = c.normalize-in-App.ensures.grows in
    let e = Grows-trans a b d g h in
    let v = c.in-App.ensures.view in
    let u = parts-app a c.in-App.ensures.sound c.args.t c.in-App.f c.in-App.a v in
    let p = IsFormOf-grows a b d h c.in-App.f c.in_ok-f-in-App.f c.in_ok-f-in-App.ensures.made in
    let q = IsFormOf-from a b d g c.in-App.a c.in_ok-a-in-App.a (omega arith) c.in_ok-a-in-App.ensures.made in
    inr (normal_body a d e c.args.t c.in-App.f c.in-App.a c.in_ok-f-in-App.f c.in_ok-a-in-App.a v p q c.in-Lam-top.field-0 c.in-Lam-top.body c.in-Lam-top.ensures.view)

pub normalize_parts-unreachable-requires : goal.normalize_parts-unreachable-requires
normalize_parts-unreachable-requires m c =
    let a = c.args.self.now in
    let b = c.normalize.new.self in
    let d = c.normalize-in-App.new.self in
    let g = c.normalize.ensures.grows in
    let h = c.normalize-in-App.ensures.grows in
    let e = Grows-trans a b d g h in
    let v = c.in-App.ensures.view in
    let u = parts-app a c.in-App.ensures.sound c.args.t c.in-App.f c.in-App.a v in
    let p = IsFormOf-grows a b d h c.in-App.f c.in_ok-f-in-App.f c.in_ok-f-in-App.ensures.made in
    let q = IsFormOf-from a b d g c.in-App.a c.in_ok-a-in-App.a (omega arith) c.in_ok-a-in-App.ensures.made in
    let n = normal_function a d e c.args.t c.in-App.f c.in-App.a c.in_ok-f-in-App.f c.in_ok-a-in-App.a v p q c.top-in-App.result c.top-in-App.ensures.view in
    c.in_default.not-Lam n.0 n.1 n.2

pub normalize_parts-returns-in_ok-r-in-Lam-top-clause-made : goal.normalize_parts-returns-in_ok-r-in-Lam-top-clause-made
normalize_parts-returns-in_ok-r-in-Lam-top-clause-made m c =
    let a = c.args.self.now in
    let b = c.normalize.new.self in
    let d = c.normalize-in-App.new.self in
    let g = c.normalize.ensures.grows in
    let h = c.normalize-in-App.ensures.grows in
    let e = Grows-trans a b d g h in
    let v = c.in-App.ensures.view in
    let u = parts-app a c.in-App.ensures.sound c.args.t c.in-App.f c.in-App.a v in
    let p = IsFormOf-grows a b d h c.in-App.f c.in_ok-f-in-App.f c.in_ok-f-in-App.ensures.made in
    let q = IsFormOf-from a b d g c.in-App.a c.in_ok-a-in-App.a (omega arith) c.in_ok-a-in-App.ensures.made in
    IsNormalFormOf-app a d e c.args.t c.in-App.f c.in-App.a c.in_ok-f-in-App.f c.in_ok-a-in-App.a v p q c.in-Lam-top.field-0 c.in-Lam-top.body c.in-Lam-top.ensures.view c.put.new.self c.in_ok-r-in-Lam-top.r c.in_ok-r-in-Lam-top.ensures.made

pub normalize_parts-normalize-requires-in-Lam : goal.normalize_parts-normalize-requires-in-Lam
normalize_parts-normalize-requires-in-Lam m c =
    let p = parts-lam c.args.self.now c.in-Lam.ensures.sound c.args.t c.in-Lam.a c.in-Lam.body c.in-Lam.ensures.view in
    (omega arith, omega arith)

pub normalize_parts-numbered-requires : goal.normalize_parts-numbered-requires
normalize_parts-numbered-requires m c =
    let a = c.args.self.now in
    let b = c.normalize-in-Lam.new.self in
    let g = c.normalize-in-Lam.ensures.grows in
    let v = c.in-Lam.ensures.view in
    let n = c.in_ok-body-in-Lam.ensures.made in
    rw c.ty_of-ty.ensures.number (rebuilt_lam-sound a b g c.args.t c.in-Lam.a c.in-Lam.body c.in_ok-body-in-Lam.body v (tree_at b c.in_ok-body-in-Lam.body) (IsTerm-normal a b c.in-Lam.body c.in_ok-body-in-Lam.body n) (normal_lam-bound a b g c.args.t c.in-Lam.a c.in-Lam.body c.in_ok-body-in-Lam.body v n))

pub normalize_parts-returns-in_ok-r-in-Lam-clause-made : goal.normalize_parts-returns-in_ok-r-in-Lam-clause-made
normalize_parts-returns-in_ok-r-in-Lam-clause-made m c =
    let a = c.args.self.now in
    let b = c.normalize-in-Lam.new.self in
    let d = c.numbered.new.self in
    let g = c.normalize-in-Lam.ensures.grows in
    let v = c.in-Lam.ensures.view in
    let n = c.in_ok-body-in-Lam.ensures.made in
    let r = rebuilt_lam a b g c.args.t c.in-Lam.a c.in-Lam.body c.in_ok-body-in-Lam.body v (tree_at b c.in_ok-body-in-Lam.body) (IsTerm-normal a b c.in-Lam.body c.in_ok-body-in-Lam.body n) d c.in_ok-r-in-Lam.r (rw c.ty_of-ty.ensures.number at c.in_ok-r-in-Lam.ensures.made) in
    IsNormalFormOf-lam a b d g c.args.t c.in-Lam.a c.in-Lam.body c.in_ok-body-in-Lam.body c.in_ok-r-in-Lam.r v n r

pub normalize_parts-normalize_argument-requires : goal.normalize_parts-normalize_argument-requires
normalize_parts-normalize_argument-requires m c =
    let p = parts-logic c.args.self.now c.in-Logic.ensures.sound c.args.t c.in-Logic.op c.in-Logic.x c.in-Logic.y c.in-Logic.ensures.view in
    let f = argument_size-falls c.args.t c.in-Logic.x p.0 in
    (omega arith, IsArgumentBelow-length c.args.t _ (omega arith) c.in-Logic.x p.0)

pub normalize_parts-normalize_argument-requires-in-Logic : goal.normalize_parts-normalize_argument-requires-in-Logic
normalize_parts-normalize_argument-requires-in-Logic m c =
    let p = parts-logic c.args.self.now c.in-Logic.ensures.sound c.args.t c.in-Logic.op c.in-Logic.x c.in-Logic.y c.in-Logic.ensures.view in
    let f = argument_size-falls c.args.t c.in-Logic.y p.1 in
    let l = IsKept-length c.args.self.now.terms c.normalize_argument.new.self.terms c.normalize_argument.ensures.grows.keeps.terms in
    (omega arith, IsArgumentBelow-length c.args.t _ (omega arith) c.in-Logic.y p.1)

pub normalize_parts-numbered-requires-in-Logic : goal.normalize_parts-numbered-requires-in-Logic
normalize_parts-numbered-requires-in-Logic m c =
    let a = c.args.self.now in
    let b = c.normalize_argument.new.self in
    let d = c.normalize_argument-in-Logic.new.self in
    let g = c.normalize_argument.ensures.grows in
    let h = c.normalize_argument-in-Logic.ensures.grows in
    let i = Grows-trans a b d g h in
    let v = c.in-Logic.ensures.view in
    let w = parts-logic a c.in-Logic.ensures.sound c.args.t c.in-Logic.op c.in-Logic.x c.in-Logic.y v in
    let p = IsNormalArgumentOf-grows a b d h c.in-Logic.x c.in_ok-x-in-Logic.x c.in_ok-x-in-Logic.ensures.made in
    let q = IsNormalArgumentOf-from a b d g c.in-Logic.y c.in_ok-y-in-Logic.y (IsArgumentBelow-length c.args.t _ (omega arith) c.in-Logic.y w.1) c.in_ok-y-in-Logic.ensures.made in
    rw c.ty_of-ty.ensures.number (rebuilt_logic-sound a d d i (Grows-itself d h.new_sound) c.args.t c.in-Logic.op c.in-Logic.x c.in-Logic.y c.in_ok-x-in-Logic.x c.in_ok-y-in-Logic.y v (argument (tree_at d) c.in_ok-x-in-Logic.x) (argument (tree_at d) c.in_ok-y-in-Logic.y) (IsArgumentTerm-normal a d c.in-Logic.x c.in_ok-x-in-Logic.x p) (rw (argument_type-keeps a d i.keeps c.args.t (omega arith) c.in-Logic.y w.1) (IsArgumentTerm-normal a d c.in-Logic.y c.in_ok-y-in-Logic.y q)))

pub normalize_parts-expand-requires-in-Logic-clause-form : goal.normalize_parts-expand-requires-in-Logic-clause-form
normalize_parts-expand-requires-in-Logic-clause-form m c =
    let a = c.args.self.now in
    let b = c.normalize_argument.new.self in
    let d = c.normalize_argument-in-Logic.new.self in
    let g = c.normalize_argument.ensures.grows in
    let h = c.normalize_argument-in-Logic.ensures.grows in
    let i = Grows-trans a b d g h in
    let v = c.in-Logic.ensures.view in
    let w = parts-logic a c.in-Logic.ensures.sound c.args.t c.in-Logic.op c.in-Logic.x c.in-Logic.y v in
    let p = IsNormalArgumentOf-grows a b d h c.in-Logic.x c.in_ok-x-in-Logic.x c.in_ok-x-in-Logic.ensures.made in
    let q = IsNormalArgumentOf-from a b d g c.in-Logic.y c.in_ok-y-in-Logic.y (IsArgumentBelow-length c.args.t _ (omega arith) c.in-Logic.y w.1) c.in_ok-y-in-Logic.ensures.made in
    let n = c.numbered-in-Logic.new.self in
    let r = rebuilt_logic a d d i (Grows-itself d h.new_sound) c.args.t c.in-Logic.op c.in-Logic.x c.in-Logic.y c.in_ok-x-in-Logic.x c.in_ok-y-in-Logic.y v (argument (tree_at d) c.in_ok-x-in-Logic.x) (argument (tree_at d) c.in_ok-y-in-Logic.y) (IsArgumentTerm-normal a d c.in-Logic.x c.in_ok-x-in-Logic.x p) (rw (argument_type-keeps a d i.keeps c.args.t (omega arith) c.in-Logic.y w.1) (IsArgumentTerm-normal a d c.in-Logic.y c.in_ok-y-in-Logic.y q)) n c.in_ok-r-in-Logic.r (rw c.ty_of-ty.ensures.number at c.in_ok-r-in-Logic.ensures.made) in
    normal_logic-neutral a d n c.in-Logic.op c.in-Logic.x c.in-Logic.y c.in_ok-x-in-Logic.x c.in_ok-y-in-Logic.y (type_number a c.args.t) c.in_ok-r-in-Logic.r p q r

pub normalize_parts-returns-in_ok-r-in-Logic-2-clause-made : goal.normalize_parts-returns-in_ok-r-in-Logic-2-clause-made
normalize_parts-returns-in_ok-r-in-Logic-2-clause-made m c =
    let a = c.args.self.now in
    let b = c.normalize_argument.new.self in
    let d = c.normalize_argument-in-Logic.new.self in
    let g = c.normalize_argument.ensures.grows in
    let h = c.normalize_argument-in-Logic.ensures.grows in
    let i = Grows-trans a b d g h in
    let v = c.in-Logic.ensures.view in
    let w = parts-logic a c.in-Logic.ensures.sound c.args.t c.in-Logic.op c.in-Logic.x c.in-Logic.y v in
    let p = IsNormalArgumentOf-grows a b d h c.in-Logic.x c.in_ok-x-in-Logic.x c.in_ok-x-in-Logic.ensures.made in
    let q = IsNormalArgumentOf-from a b d g c.in-Logic.y c.in_ok-y-in-Logic.y (IsArgumentBelow-length c.args.t _ (omega arith) c.in-Logic.y w.1) c.in_ok-y-in-Logic.ensures.made in
    let n = c.numbered-in-Logic.new.self in
    let r = rebuilt_logic a d d i (Grows-itself d h.new_sound) c.args.t c.in-Logic.op c.in-Logic.x c.in-Logic.y c.in_ok-x-in-Logic.x c.in_ok-y-in-Logic.y v (argument (tree_at d) c.in_ok-x-in-Logic.x) (argument (tree_at d) c.in_ok-y-in-Logic.y) (IsArgumentTerm-normal a d c.in-Logic.x c.in_ok-x-in-Logic.x p) (rw (argument_type-keeps a d i.keeps c.args.t (omega arith) c.in-Logic.y w.1) (IsArgumentTerm-normal a d c.in-Logic.y c.in_ok-y-in-Logic.y q)) n c.in_ok-r-in-Logic.r (rw c.ty_of-ty.ensures.number at c.in_ok-r-in-Logic.ensures.made) in
    let o = normal_logic-reduces a d n c.in-Logic.ensures.sound c.args.t c.in-Logic.op c.in-Logic.x c.in-Logic.y c.in_ok-x-in-Logic.x c.in_ok-y-in-Logic.y (type_number a c.args.t) c.in_ok-r-in-Logic.r v p q r in
    let u = normal_logic-value a d n c.in-Logic.ensures.sound c.args.t c.in-Logic.op c.in-Logic.x c.in-Logic.y c.in_ok-x-in-Logic.x c.in_ok-y-in-Logic.y (type_number a c.args.t) c.in_ok-r-in-Logic.r v p q r in
    IsNormalFormOf-after a n _ c.args.t c.in_ok-r-in-Logic.r c.in_ok-r-in-Logic-2.r r.type_is o u c.in_ok-r-in-Logic-2.ensures.made

pub normalize_argument-returns-in-None-clause-made : goal.normalize_argument-returns-in-None-clause-made
normalize_argument-returns-in-None-clause-made m c = rw c.in-None.is (record { within = tt; type_is = refl; value = refl; reduces = nothing absent; normal = tt })

pub normalize-keep_normal-requires-clause-made : goal.normalize-keep_normal-requires-clause-made
normalize-keep_normal-requires-clause-made m c = IsFormOf-since c.args.self.now c.normalize_parts.new.self c.normalize_parts.ensures.grows c.args.t c.in_ok-r-in-None.r c.requires c.in_ok-r-in-None.ensures.made

pub normalize_parts-returns-in_ok-r-in-Var-clause-made : goal.normalize_parts-returns-in_ok-r-in-Var-clause-made
normalize_parts-returns-in_ok-r-in-Var-clause-made m c =
    let e = tree-var c.args.self.now c.in-Var.ensures.sound c.args.t _ c.in-Var.ensures.view in
    IsNormalFormOf-leaf c.args.self.now c.expand.new.self c.args.t c.in_ok-r-in-Var.r (rw e refl) c.in_ok-r-in-Var.ensures.made

pub normalize_parts-returns-in_ok-r-in-Sym-clause-made : goal.normalize_parts-returns-in_ok-r-in-Sym-clause-made
normalize_parts-returns-in_ok-r-in-Sym-clause-made m c =
    let e = tree-sym c.args.self.now c.in-Sym.ensures.sound c.args.t _ c.in-Sym.ensures.view in
    IsNormalFormOf-leaf c.args.self.now c.expand-in-Sym.new.self c.args.t c.in_ok-r-in-Sym.r (rw e refl) c.in_ok-r-in-Sym.ensures.made

pub normalize_parts-returns-in_ok-r-in-Bound-clause-made : goal.normalize_parts-returns-in_ok-r-in-Bound-clause-made
normalize_parts-returns-in_ok-r-in-Bound-clause-made m c =
    let e = tree-bound c.args.self.now c.in-Bound.ensures.sound c.args.t _ c.in-Bound.ensures.view in
    IsNormalFormOf-leaf c.args.self.now c.expand-in-Bound.new.self c.args.t c.in_ok-r-in-Bound.r (rw e refl) c.in_ok-r-in-Bound.ensures.made

pub normalize_parts-returns-in_ok-r-in-Logic-2-clause-grows : goal.normalize_parts-returns-in_ok-r-in-Logic-2-clause-grows
normalize_parts-returns-in_ok-r-in-Logic-2-clause-grows m c =
    let a = c.args.self.now in
    let b = c.normalize_argument.new.self in
    let d = c.normalize_argument-in-Logic.new.self in
    let n = c.numbered-in-Logic.new.self in
    let i = Grows-trans a b d c.normalize_argument.ensures.grows c.normalize_argument-in-Logic.ensures.grows in
    Grows-trans a n c.expand-in-Logic.new.self (Grows-trans a d n i c.numbered-in-Logic.ensures.grows) c.expand-in-Logic.ensures.grows

pub normalize-keep_normal-requires-clause-within : goal.normalize-keep_normal-requires-clause-within
normalize-keep_normal-requires-clause-within m c =
    let h = c.requires in
    let l = IsKept-length c.args.self.now.terms c.normalize_parts.new.self.terms c.normalize_parts.ensures.grows.keeps.terms in
    omega arith
