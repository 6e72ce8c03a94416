use Rattle.std.proofs.Common.{◌+◌, inl, inr, refl, arith}
use Rattle.leo_terms.specs.Tree.{absent}
use Rattle.leo_terms.specs.Reduction.{nothing}
use Rattle.leo_terms.specs.Contents.{tree_at, type_at, type_number, argument}
use Rattle.leo_terms.proofs.Growth.{IsKept-length, Grows-trans, Grows-itself, argument_type-keeps, ty-keeps, tree-keeps, type_number-keeps}
use Rattle.leo_terms.proofs.Measures.{argument_size-falls}
use Rattle.leo_terms.proofs.Rebuild.{parts-app, parts-lam, parts-logic, part-keeps, argument-keeps, IsSoundNode-leaf, tree-var, tree-sym, tree-bound, rebuilt_app-sound, rebuilt_lam, rebuilt_lam-sound, rebuilt_logic, rebuilt_logic-sound, argument_number-below, IsArgumentBelow-length}
use Rattle.leo_terms.proofs.ReductionLemmas.{bound_opened-below}
use Rattle.leo_terms.proofs.PutLemmas.{IsPut-itself, IsPut-at, IsPut-above, IsTerm-put, IsArgumentTerm-put, IsPut-grows, IsPut-from, IsPutArgument-grows, IsPutArgument-from, put_head, IsPut-app, put_body-normal, put_body-bound, put_argument-normal, put_body-within, put_type-falls, IsPut-redex, put_lam-bound, IsPut-lam, IsPut-logic, ready-app, ready-lam, ready-logic, typed-app, typed-lam, typed-logic}
use Rattle.leo_terms.proofs.MemoLemmas.{IsPut-since}
use Rattle.leo_terms.proofs.bank.Bank.+put.Goals as goal

pub put_parts-returns-in-Var-clause-made : goal.put_parts-returns-in-Var-clause-made
put_parts-returns-in-Var-clause-made m c =
    let e = tree-var c.args.self.now c.in-Var.ensures.sound c.args.t _ c.in-Var.ensures.view in
    IsPut-itself c.args.self.now c.args.t c.args.k c.args.s _ c.requires.within e refl (λ depth. refl)

pub put_parts-returns-in-Sym-clause-made : goal.put_parts-returns-in-Sym-clause-made
put_parts-returns-in-Sym-clause-made m c =
    let e = tree-sym c.args.self.now c.in-Sym.ensures.sound c.args.t _ c.in-Sym.ensures.view in
    IsPut-itself c.args.self.now c.args.t c.args.k c.args.s _ c.requires.within e refl (λ depth. refl)

pub put_parts-returns-then-place-k-clause-made : goal.put_parts-returns-then-place-k-clause-made
put_parts-returns-then-place-k-clause-made m c =
    let e = tree-bound c.args.self.now c.in-Bound.ensures.sound c.args.t _ c.in-Bound.ensures.view in
    IsPut-itself c.args.self.now c.args.t c.args.k c.args.s _ c.requires.within e (bound_opened-below c.args.k (tree_at c.args.self.now c.args.s) c.in-Bound.index _ (omega arith)) (λ depth. bound_opened-below c.args.k (tree_at c.args.self.now c.args.s) c.in-Bound.index _ (omega arith))

pub put_parts-returns-then-place-k-2-clause-made : goal.put_parts-returns-then-place-k-2-clause-made
put_parts-returns-then-place-k-2-clause-made m c =
    IsPut-at c.args.self.now c.lift_from.new.self c.in-Bound.ensures.sound c.args.t c.args.k c.args.s c.in-Bound.index c.in_ok-r-in-Bound.r c.requires.within c.requires.put_within c.in-Bound.ensures.view (omega arith) c.requires.typed c.requires.normal c.in_ok-r-in-Bound.ensures.made

pub put_parts-numbered-requires : goal.put_parts-numbered-requires
put_parts-numbered-requires m c = rw c.ty_of-ty.ensures.number (record {
  type_below = IsSoundNode-leaf c.args.self.now c.in-Bound.ensures.sound c.args.t c.requires.within;
  view_sound = tt;
})

pub put_parts-returns-in_ok-r-in-Bound-2-clause-made : goal.put_parts-returns-in_ok-r-in-Bound-2-clause-made
put_parts-returns-in_ok-r-in-Bound-2-clause-made m c =
    IsPut-above c.args.self.now c.numbered.new.self c.in-Bound.ensures.sound c.args.t c.args.k c.args.s c.in-Bound.index _ c.in-Bound.ensures.view (omega arith) (rw c.ty_of-ty.ensures.number at c.in_ok-r-in-Bound-2.ensures.made)

pub put_parts-put-requires : goal.put_parts-put-requires
put_parts-put-requires m c =
    let a = c.args.self.now in
    let s = c.in-App.ensures.sound in
    let v = c.in-App.ensures.view in
    let p = parts-app a s c.args.t c.in-App.f c.in-App.a v in
    let r = ready-app a s c.args.t c.in-App.f c.in-App.a v c.requires.form in
    let b = typed-app a s c.args.t c.in-App.f c.in-App.a v c.args.k (type_at a (type_number a c.args.s)) c.requires.typed in
    (omega arith, (omega arith, (c.requires.put_within, (omega arith, (b.0, (inl r.0, c.requires.normal))))))

pub put_parts-put-requires-in-App : goal.put_parts-put-requires-in-App
put_parts-put-requires-in-App m c =
    let a = c.args.self.now in
    let d = c.put.new.self in
    let s = c.in-App.ensures.sound in
    let v = c.in-App.ensures.view in
    let g = c.put.ensures.grows in
    let p = parts-app a s c.args.t c.in-App.f c.in-App.a v in
    let r = ready-app a s c.args.t c.in-App.f c.in-App.a v c.requires.form in
    let b = typed-app a s c.args.t c.in-App.f c.in-App.a v c.args.k (type_at a (type_number a c.args.s)) c.requires.typed in
    let l = IsKept-length a.terms d.terms g.keeps.terms in
    let n = type_number-keeps a d g.keeps c.args.s c.requires.put_within in
    let i = ty-keeps a d s g.keeps.types (type_number a c.args.s) (IsSoundNode-leaf a s c.args.s c.requires.put_within) in
    let x = part-keeps a d g c.args.t c.in-App.a p.1 p.2 in
    let y = tree-keeps a d s g.keeps c.args.s c.requires.put_within in
    let q = c.requires.put_within in
    (omega arith, (omega arith, (omega arith, (omega arith, (rw (n, i, x) b.1, (rw x (inr r.1), rw y c.requires.normal))))))

pub put_parts-top-requires-in-App : goal.put_parts-top-requires-in-App
put_parts-top-requires-in-App m c =
    let l = IsKept-length c.put.new.self.terms c.put-in-App.new.self.terms c.put-in-App.ensures.grows.keeps.terms in
    let w = c.in_ok-f-in-App.ensures.made.within in
    omega arith

pub put_parts-put-requires-in-Lam-top : goal.put_parts-put-requires-in-Lam-top
put_parts-put-requires-in-Lam-top m c =
    let a = c.args.self.now in
    let b = c.put.new.self in
    let d = c.put-in-App.new.self in
    let g = c.put.ensures.grows in
    let h = c.put-in-App.ensures.grows in
    let e = Grows-trans a b d g h in
    let v = c.in-App.ensures.view in
    let s = c.in-App.ensures.sound in
    let u = parts-app a s c.args.t c.in-App.f c.in-App.a v in
    let p = IsPut-grows a b d h c.in-App.f c.args.k c.args.s c.in_ok-f-in-App.f c.in_ok-f-in-App.ensures.made in
    let q = IsPut-from a b d g c.in-App.a c.args.k c.args.s c.in_ok-a-in-App.a (omega arith) c.requires.put_within c.in_ok-a-in-App.ensures.made in
    let w = put_body-within a d e c.args.t c.in-App.f c.in-App.a c.args.k c.args.s c.in_ok-f-in-App.f c.in_ok-a-in-App.a v c.requires.form p q c.in-Lam-top.field-0 c.in-Lam-top.body c.in-Lam-top.ensures.view in
    let f = put_type-falls a d e c.args.t c.in-App.f c.in-App.a c.args.k c.args.s c.in_ok-f-in-App.f c.in_ok-a-in-App.a v c.requires.form p q c.in-Lam-top.field-0 c.in-Lam-top.body c.in-Lam-top.ensures.view in
    (omega arith, (w.0, (q.within, (omega arith, (put_body-bound a d e c.args.t c.in-App.f c.in-App.a c.args.k c.args.s c.in_ok-f-in-App.f c.in_ok-a-in-App.a v c.requires.form p q c.in-Lam-top.field-0 c.in-Lam-top.body c.in-Lam-top.ensures.view, (inr (put_body-normal a d e c.args.t c.in-App.f c.in-App.a c.args.k c.args.s c.in_ok-f-in-App.f c.in_ok-a-in-App.a v c.requires.form p q c.in-Lam-top.field-0 c.in-Lam-top.body c.in-Lam-top.ensures.view), put_argument-normal a d e c.args.t c.in-App.f c.in-App.a c.args.k c.args.s c.in_ok-f-in-App.f c.in_ok-a-in-App.a v c.requires.form p q c.in-Lam-top.field-0 c.in-Lam-top.body c.in-Lam-top.ensures.view))))))

pub put_parts-returns-in_ok-r-in-Lam-top-clause-made : goal.put_parts-returns-in_ok-r-in-Lam-top-clause-made
put_parts-returns-in_ok-r-in-Lam-top-clause-made m c =
    let a = c.args.self.now in
    let b = c.put.new.self in
    let d = c.put-in-App.new.self in
    let g = c.put.ensures.grows in
    let h = c.put-in-App.ensures.grows in
    let e = Grows-trans a b d g h in
    let v = c.in-App.ensures.view in
    let s = c.in-App.ensures.sound in
    let u = parts-app a s c.args.t c.in-App.f c.in-App.a v in
    let p = IsPut-grows a b d h c.in-App.f c.args.k c.args.s c.in_ok-f-in-App.f c.in_ok-f-in-App.ensures.made in
    let q = IsPut-from a b d g c.in-App.a c.args.k c.args.s c.in_ok-a-in-App.a (omega arith) c.requires.put_within c.in_ok-a-in-App.ensures.made in
    IsPut-redex a d e c.args.t c.in-App.f c.in-App.a c.args.k c.args.s c.in_ok-f-in-App.f c.in_ok-a-in-App.a v c.requires.form p q c.in-Lam-top.field-0 c.in-Lam-top.body c.in-Lam-top.ensures.view c.put-in-Lam-top.new.self c.in_ok-r-in-Lam-top.r c.in_ok-r-in-Lam-top.ensures.made

pub put_parts-numbered-requires-in_default : goal.put_parts-numbered-requires-in_default
put_parts-numbered-requires-in_default m c =
    let a = c.args.self.now in
    let b = c.put.new.self in
    let d = c.put-in-App.new.self in
    let g = c.put.ensures.grows in
    let h = c.put-in-App.ensures.grows in
    let e = Grows-trans a b d g h in
    let v = c.in-App.ensures.view in
    let s = c.in-App.ensures.sound in
    let u = parts-app a s c.args.t c.in-App.f c.in-App.a v in
    let p = IsPut-grows a b d h c.in-App.f c.args.k c.args.s c.in_ok-f-in-App.f c.in_ok-f-in-App.ensures.made in
    let q = IsPut-from a b d g c.in-App.a c.args.k c.args.s c.in_ok-a-in-App.a (omega arith) c.requires.put_within c.in_ok-a-in-App.ensures.made in
    rw c.ty_of-ty.ensures.number (rebuilt_app-sound a b d g h c.args.t c.in-App.f c.in-App.a c.in_ok-f-in-App.f c.in_ok-a-in-App.a v (tree_at b c.in_ok-f-in-App.f) (tree_at d c.in_ok-a-in-App.a) (IsTerm-put a b c.in-App.f c.args.k c.args.s c.in_ok-f-in-App.f c.in_ok-f-in-App.ensures.made) (IsTerm-put b d c.in-App.a c.args.k c.args.s c.in_ok-a-in-App.a c.in_ok-a-in-App.ensures.made))

pub put_parts-returns-in_ok-r-in_default-clause-made : goal.put_parts-returns-in_ok-r-in_default-clause-made
put_parts-returns-in_ok-r-in_default-clause-made m c =
    let a = c.args.self.now in
    let b = c.put.new.self in
    let d = c.put-in-App.new.self in
    let g = c.put.ensures.grows in
    let h = c.put-in-App.ensures.grows in
    let e = Grows-trans a b d g h in
    let v = c.in-App.ensures.view in
    let s = c.in-App.ensures.sound in
    let u = parts-app a s c.args.t c.in-App.f c.in-App.a v in
    let p = IsPut-grows a b d h c.in-App.f c.args.k c.args.s c.in_ok-f-in-App.f c.in_ok-f-in-App.ensures.made in
    let q = IsPut-from a b d g c.in-App.a c.args.k c.args.s c.in_ok-a-in-App.a (omega arith) c.requires.put_within c.in_ok-a-in-App.ensures.made in
    let n = put_head a d e c.args.t c.in-App.f c.in-App.a c.args.k c.args.s c.in_ok-f-in-App.f c.in_ok-a-in-App.a v c.requires.form p q c.top-in-App.result c.top-in-App.ensures.view c.in_default.not-Lam in
    IsPut-app a d e c.args.t c.in-App.f c.in-App.a c.args.k c.args.s c.in_ok-f-in-App.f c.in_ok-a-in-App.a v c.requires.form p q c.numbered-in_default.new.self c.in_ok-r-in_default.r n (rw c.ty_of-ty.ensures.number at c.in_ok-r-in_default.ensures.made)

pub put_parts-returns-in_ok-r-in_default-clause-grows : goal.put_parts-returns-in_ok-r-in_default-clause-grows
put_parts-returns-in_ok-r-in_default-clause-grows m c =
    Grows-trans c.args.self.now c.put-in-App.new.self c.numbered-in_default.new.self (Grows-trans c.args.self.now c.put.new.self c.put-in-App.new.self c.put.ensures.grows c.put-in-App.ensures.grows) c.numbered-in_default.ensures.grows

pub put_parts-overflow_add-k : goal.put_parts-overflow_add-k
put_parts-overflow_add-k m c =
    let p = parts-lam c.args.self.now c.in-Lam.ensures.sound c.args.t c.in-Lam.a c.in-Lam.body c.in-Lam.ensures.view in
    let q = c.requires.deep in
    omega arith

pub put_parts-put-requires-in-Lam : goal.put_parts-put-requires-in-Lam
put_parts-put-requires-in-Lam m c =
    let a = c.args.self.now in
    let s = c.in-Lam.ensures.sound in
    let v = c.in-Lam.ensures.view in
    let p = parts-lam a s c.args.t c.in-Lam.a c.in-Lam.body v in
    let r = ready-lam a s c.args.t c.in-Lam.a c.in-Lam.body v c.requires.form in
    let b = typed-lam a s c.args.t c.in-Lam.a c.in-Lam.body v c.args.k (type_at a (type_number a c.args.s)) c.requires.typed in
    (omega arith, (omega arith, (c.requires.put_within, (omega arith, (b, (inr r, c.requires.normal))))))

pub put_parts-numbered-requires-in-Lam : goal.put_parts-numbered-requires-in-Lam
put_parts-numbered-requires-in-Lam m c =
    let a = c.args.self.now in
    let b = c.put-in-Lam.new.self in
    let g = c.put-in-Lam.ensures.grows in
    let v = c.in-Lam.ensures.view in
    rw c.ty_of-ty.ensures.number (rebuilt_lam-sound a b g c.args.t c.in-Lam.a c.in-Lam.body c.in_ok-body-in-Lam.body v (tree_at b c.in_ok-body-in-Lam.body) (IsTerm-put a b c.in-Lam.body (c.args.k + 1) c.args.s c.in_ok-body-in-Lam.body c.in_ok-body-in-Lam.ensures.made) (put_lam-bound a b g c.args.t c.in-Lam.a c.in-Lam.body c.args.k c.args.s c.in_ok-body-in-Lam.body v c.in_ok-body-in-Lam.ensures.made))

pub put_parts-returns-in_ok-r-in-Lam-clause-made : goal.put_parts-returns-in_ok-r-in-Lam-clause-made
put_parts-returns-in_ok-r-in-Lam-clause-made m c =
    let a = c.args.self.now in
    let b = c.put-in-Lam.new.self in
    let d = c.numbered-in-Lam.new.self in
    let g = c.put-in-Lam.ensures.grows in
    let v = c.in-Lam.ensures.view in
    let r = rebuilt_lam a b g c.args.t c.in-Lam.a c.in-Lam.body c.in_ok-body-in-Lam.body v (tree_at b c.in_ok-body-in-Lam.body) (IsTerm-put a b c.in-Lam.body (c.args.k + 1) c.args.s c.in_ok-body-in-Lam.body c.in_ok-body-in-Lam.ensures.made) d c.in_ok-r-in-Lam.r (rw c.ty_of-ty.ensures.number at c.in_ok-r-in-Lam.ensures.made) in
    IsPut-lam a b d g c.args.t c.in-Lam.a c.in-Lam.body c.args.k c.args.s c.in_ok-body-in-Lam.body c.in_ok-r-in-Lam.r v c.in_ok-body-in-Lam.ensures.made r

pub put_parts-put_argument-requires : goal.put_parts-put_argument-requires
put_parts-put_argument-requires m c =
    let a = c.args.self.now in
    let s = c.in-Logic.ensures.sound in
    let v = c.in-Logic.ensures.view in
    let p = parts-logic a s c.args.t c.in-Logic.op c.in-Logic.x c.in-Logic.y v in
    let r = ready-logic a s c.args.t c.in-Logic.op c.in-Logic.x c.in-Logic.y v c.requires.form in
    let b = typed-logic a s c.args.t c.in-Logic.op c.in-Logic.x c.in-Logic.y v c.args.k (type_at a (type_number a c.args.s)) c.requires.typed in
    let f = argument_size-falls c.args.t c.in-Logic.x p.0 in
    (omega arith, (IsArgumentBelow-length c.args.t _ (omega arith) c.in-Logic.x p.0, (c.requires.put_within, ((λ u e. let k = argument_number-below c.args.t c.in-Logic.x u p.0 e in let q = c.requires.deep in omega arith), (b.0, (r.0, c.requires.normal))))))

pub put_parts-put_argument-requires-in-Logic : goal.put_parts-put_argument-requires-in-Logic
put_parts-put_argument-requires-in-Logic m c =
    let a = c.args.self.now in
    let d = c.put_argument.new.self in
    let s = c.in-Logic.ensures.sound in
    let v = c.in-Logic.ensures.view in
    let g = c.put_argument.ensures.grows in
    let p = parts-logic a s c.args.t c.in-Logic.op c.in-Logic.x c.in-Logic.y v in
    let r = ready-logic a s c.args.t c.in-Logic.op c.in-Logic.x c.in-Logic.y v c.requires.form in
    let b = typed-logic a s c.args.t c.in-Logic.op c.in-Logic.x c.in-Logic.y v c.args.k (type_at a (type_number a c.args.s)) c.requires.typed in
    let f = argument_size-falls c.args.t c.in-Logic.y p.1 in
    let l = IsKept-length a.terms d.terms g.keeps.terms in
    let n = type_number-keeps a d g.keeps c.args.s c.requires.put_within in
    let i = ty-keeps a d s g.keeps.types (type_number a c.args.s) (IsSoundNode-leaf a s c.args.s c.requires.put_within) in
    let x = argument-keeps a d g c.args.t p.2 c.in-Logic.y p.1 in
    let y = tree-keeps a d s g.keeps c.args.s c.requires.put_within in
    let q = c.requires.put_within in
    (omega arith, (IsArgumentBelow-length c.args.t _ (omega arith) c.in-Logic.y p.1, (omega arith, ((λ u e. let k = argument_number-below c.args.t c.in-Logic.y u p.1 e in let q = c.requires.deep in omega arith), (rw (n, i, x) b.1, (rw x r.1, rw y c.requires.normal))))))

pub put_parts-numbered-requires-in-Logic : goal.put_parts-numbered-requires-in-Logic
put_parts-numbered-requires-in-Logic m c =
    let a = c.args.self.now in
    let b = c.put_argument.new.self in
    let d = c.put_argument-in-Logic.new.self in
    rw c.ty_of-ty.ensures.number (rebuilt_logic-sound a b d c.put_argument.ensures.grows c.put_argument-in-Logic.ensures.grows c.args.t c.in-Logic.op c.in-Logic.x c.in-Logic.y c.in_ok-x-in-Logic.x c.in_ok-y-in-Logic.y c.in-Logic.ensures.view (argument (tree_at b) c.in_ok-x-in-Logic.x) (argument (tree_at d) c.in_ok-y-in-Logic.y) (IsArgumentTerm-put a b c.in-Logic.x c.args.k c.args.s c.in_ok-x-in-Logic.x c.in_ok-x-in-Logic.ensures.made) (IsArgumentTerm-put b d c.in-Logic.y c.args.k c.args.s c.in_ok-y-in-Logic.y c.in_ok-y-in-Logic.ensures.made))

pub put_parts-returns-in_ok-r-in-Logic-clause-made : goal.put_parts-returns-in_ok-r-in-Logic-clause-made
put_parts-returns-in_ok-r-in-Logic-clause-made m c =
    let a = c.args.self.now in
    let b = c.put_argument.new.self in
    let d = c.put_argument-in-Logic.new.self in
    let e = c.numbered-in-Logic.new.self in
    let g = c.put_argument.ensures.grows in
    let h = c.put_argument-in-Logic.ensures.grows in
    let v = c.in-Logic.ensures.view in
    let w = parts-logic a c.in-Logic.ensures.sound c.args.t c.in-Logic.op c.in-Logic.x c.in-Logic.y v in
    let p = IsPutArgument-grows a b d h c.in-Logic.x c.args.k c.args.s c.in_ok-x-in-Logic.x c.in_ok-x-in-Logic.ensures.made in
    let q = IsPutArgument-from a b d g c.in-Logic.y c.args.k c.args.s c.in_ok-y-in-Logic.y (IsArgumentBelow-length c.args.t _ (omega arith) c.in-Logic.y w.1) c.requires.put_within c.in_ok-y-in-Logic.ensures.made in
    let r = rebuilt_logic a d d (Grows-trans a b d g h) (Grows-itself d h.new_sound) c.args.t c.in-Logic.op c.in-Logic.x c.in-Logic.y c.in_ok-x-in-Logic.x c.in_ok-y-in-Logic.y v (argument (tree_at d) c.in_ok-x-in-Logic.x) (argument (tree_at d) c.in_ok-y-in-Logic.y) (IsArgumentTerm-put a d c.in-Logic.x c.args.k c.args.s c.in_ok-x-in-Logic.x p) (rw (argument_type-keeps a d (Grows-trans a b d g h).keeps c.args.t (omega arith) c.in-Logic.y w.1) (IsArgumentTerm-put a d c.in-Logic.y c.args.k c.args.s c.in_ok-y-in-Logic.y q)) e c.in_ok-r-in-Logic.r (rw c.ty_of-ty.ensures.number at c.in_ok-r-in-Logic.ensures.made) in
    IsPut-logic a d e (Grows-trans a b d g h) c.args.t c.in-Logic.op c.in-Logic.x c.in-Logic.y c.args.k c.args.s c.in_ok-x-in-Logic.x c.in_ok-y-in-Logic.y c.in_ok-r-in-Logic.r v p q r

pub put_argument-returns-in-None-clause-made : goal.put_argument-returns-in-None-clause-made
put_argument-returns-in-None-clause-made m c = rw c.in-None.is (record { within = tt; type_is = refl; value = λ depth l. refl; reduces = nothing absent; normal = λ h. h })

pub put-keep_put-requires-clause-made : goal.put-keep_put-requires-clause-made
put-keep_put-requires-clause-made m c = IsPut-since c.args.self.now c.put_parts.new.self c.put_parts.ensures.grows c.args.t c.args.k c.args.s c.in_ok-r-in-None.r c.requires.within c.requires.put_within c.in_ok-r-in-None.ensures.made

pub put-keep_put-requires-clause-within : goal.put-keep_put-requires-clause-within
put-keep_put-requires-clause-within m c =
    let h = c.requires.within in
    let l = IsKept-length c.args.self.now.terms c.put_parts.new.self.terms c.put_parts.ensures.grows.keeps.terms in
    omega arith

pub put-keep_put-requires-clause-put_within : goal.put-keep_put-requires-clause-put_within
put-keep_put-requires-clause-put_within m c =
    let h = c.requires.put_within in
    let l = IsKept-length c.args.self.now.terms c.put_parts.new.self.terms c.put_parts.ensures.grows.keeps.terms in
    omega arith
