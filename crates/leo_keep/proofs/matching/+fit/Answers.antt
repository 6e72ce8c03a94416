use Rattle.std.proofs.Common.{length, map, refl, arith}
use Rattle.leo_terms.specs.Contents.{type_at, tree_at, connective, argument}
use Rattle.leo_terms.proofs.CallerLemmas.{reads-var, reads-bound, reads-sym, reads-app, reads-lam, reads-logic, term-present, arrow-parts}
use Rattle.leo_keep.proofs.Comparing.{argument-raised}
use Rattle.leo_keep.proofs.Measures.{argument_measure-falls}
use Rattle.leo_keep.proofs.Matched.{app-first, app-fits, app-other, ground-fits, lam-apart, lam-fits, lam-other, logic-apart, logic-first, logic-fits, logic-other, never-nothing, nothing-fits, over-argument, over-body, over-first, over-function, over-second, over-variable, types-apart, types-same, variable-fits, variable-within}
use Rattle.leo_keep.proofs.matching.+fit.Goals as goal

pub fit-returns-then-is_ground : goal.fit-returns-then-is_ground
fit-returns-then-is_ground m c =
    ground-fits c.args.bank.now c.is_ground.ensures.sound (map (type_at c.args.bank.now) c.args.vars.now) c.args.bindings.now.items c.args.pattern c.args.t c.requires.sound c.requires.pattern c.requires.within
    (c.is_ground.ensures.no_variables.0 c.if-is_ground.true) c.eq.result c.eq.ensures

pub fit_parts-bind-requires-clause-variable : goal.fit_parts-bind-requires-clause-variable
fit_parts-bind-requires-clause-variable m c =
    variable-within c.args.bank.now c.args.vars.now c.in-Var.number _ (over-variable (map (type_at c.args.bank.now) c.args.vars.now) (tree_at c.args.bank.now c.args.pattern) c.in-Var.number _ (reads-var c.in-Var.ensures.sound c.args.pattern c.in-Var.number c.in-Var.ensures.view) c.requires.over)

pub fit_parts-returns-in_ok-bound-in-Var : goal.fit_parts-returns-in_ok-bound-in-Var
fit_parts-returns-in_ok-bound-in-Var m c =
    let e = reads-var c.in-Var.ensures.sound c.args.pattern c.in-Var.number c.in-Var.ensures.view in
    variable-fits c.args.bank.now (map (type_at c.args.bank.now) c.args.vars.now) _ (tree_at c.args.bank.now c.args.pattern) (tree_at c.args.bank.now c.args.t) c.in-Var.number _ e (over-variable (map (type_at c.args.bank.now) c.args.vars.now) (tree_at c.args.bank.now c.args.pattern) c.in-Var.number _ e c.requires.over) c.in_ok-bound-in-Var.ensures

pub fit_parts-returns-in-Bound : goal.fit_parts-returns-in-Bound
fit_parts-returns-in-Bound m c =
    ground-fits c.args.bank.now c.in-Bound.ensures.sound (map (type_at c.args.bank.now) c.args.vars.now) c.args.bindings.now.items c.args.pattern c.args.t c.requires.sound c.requires.pattern c.requires.within
    (rw (reads-bound c.in-Bound.ensures.sound c.args.pattern c.in-Bound.field-0 c.in-Bound.ensures.view) refl) _ c.eq.ensures

pub fit_parts-returns-in-Sym : goal.fit_parts-returns-in-Sym
fit_parts-returns-in-Sym m c =
    ground-fits c.args.bank.now c.in-Sym.ensures.sound (map (type_at c.args.bank.now) c.args.vars.now) c.args.bindings.now.items c.args.pattern c.args.t c.requires.sound c.requires.pattern c.requires.within
    (rw (reads-sym c.in-Sym.ensures.sound c.args.pattern c.in-Sym.field-0 c.in-Sym.ensures.view) refl) _ c.eq-in-Sym.ensures

pub fit_parts-returns-in-App : goal.fit_parts-returns-in-App
fit_parts-returns-in-App m c = rw (reads-app c.in-App.ensures.sound c.args.pattern c.in-App.f c.in-App.a c.in-App.ensures.view) c.fit_app.ensures

pub fit_parts-returns-in-Lam : goal.fit_parts-returns-in-Lam
fit_parts-returns-in-Lam m c = rw (reads-lam c.in-Lam.ensures.sound c.args.pattern c.in-Lam.ty c.in-Lam.body c.in-Lam.ensures.view) c.fit_lam.ensures

pub fit_parts-returns-in-Logic : goal.fit_parts-returns-in-Logic
fit_parts-returns-in-Logic m c = rw (reads-logic c.in-Logic.ensures.sound c.args.pattern c.in-Logic.op c.in-Logic.first c.in-Logic.second c.in-Logic.ensures.view) c.fit_constant.ensures

pub fit_app-returns-then-not-first : goal.fit_app-returns-then-not-first
fit_app-returns-then-not-first m c =
    app-first c.args.bank.now (map (type_at c.args.bank.now) c.args.vars.now) _ (tree_at c.args.bank.now c.args.f) (tree_at c.args.bank.now c.args.a) (tree_at c.args.bank.now c.in-Some.other.function) (tree_at c.args.bank.now c.in-Some.other.argument) _ (tree_at c.args.bank.now c.args.t) refl c.in-Some.ensures.reads c.if-not-first.true c.in_ok-first-in-Some.ensures

pub fit_app-returns-in_ok-second-in-Some : goal.fit_app-returns-in_ok-second-in-Some
fit_app-returns-in_ok-second-in-Some m c =
    app-fits c.args.bank.now (map (type_at c.args.bank.now) c.args.vars.now) _ _ (tree_at c.args.bank.now c.args.f) (tree_at c.args.bank.now c.args.a) (tree_at c.args.bank.now c.in-Some.other.function) (tree_at c.args.bank.now c.in-Some.other.argument) _ (tree_at c.args.bank.now c.args.t) refl c.in-Some.ensures.reads c.if-not-first.false c.in_ok-first-in-Some.ensures c.in_ok-second-in-Some.ensures

pub fit_app-returns-in-None : goal.fit_app-returns-in-None
fit_app-returns-in-None m c =
    app-other c.args.bank.now (map (type_at c.args.bank.now) c.args.vars.now) c.args.bindings.now.items (tree_at c.args.bank.now c.args.f) (tree_at c.args.bank.now c.args.a) _ (tree_at c.args.bank.now c.args.t) c.requires.sound refl c.in-None.ensures

pub fit_lam-returns-then-ne : goal.fit_lam-returns-then-ne
fit_lam-returns-then-ne m c =
    lam-apart c.args.bank.now (map (type_at c.args.bank.now) c.args.vars.now) c.args.bindings.now.items (type_at c.args.bank.now c.args.ty) (type_at c.args.bank.now c.in-Some.other.ty) (tree_at c.args.bank.now c.args.body) (tree_at c.args.bank.now c.in-Some.other.body) _ (tree_at c.args.bank.now c.args.t) c.requires.sound refl c.in-Some.ensures.reads
    (types-apart c.args.bank.now c.is_sound.ensures.sound c.args.ty c.in-Some.other.ty c.requires.ty c.in-Some.ensures.type_within c.ne.result c.ne.ensures c.if-ne.true)

pub fit_lam-returns-in_ok-fits-in-Some : goal.fit_lam-returns-in_ok-fits-in-Some
fit_lam-returns-in_ok-fits-in-Some m c =
    lam-fits c.args.bank.now (map (type_at c.args.bank.now) c.args.vars.now) _ (type_at c.args.bank.now c.args.ty) (type_at c.args.bank.now c.in-Some.other.ty) (tree_at c.args.bank.now c.args.body) (tree_at c.args.bank.now c.in-Some.other.body) _ (tree_at c.args.bank.now c.args.t) refl c.in-Some.ensures.reads
    (types-same c.args.bank.now c.args.ty c.in-Some.other.ty c.ne.result c.ne.ensures c.if-ne.false) c.requires.over c.in_ok-fits-in-Some.ensures

pub fit_lam-returns-in-None : goal.fit_lam-returns-in-None
fit_lam-returns-in-None m c =
    lam-other c.args.bank.now (map (type_at c.args.bank.now) c.args.vars.now) c.args.bindings.now.items (type_at c.args.bank.now c.args.ty) (tree_at c.args.bank.now c.args.body) _ (tree_at c.args.bank.now c.args.t) c.requires.sound refl c.in-None.ensures

pub fit_constant-returns-then-not-is_one_constant : goal.fit_constant-returns-then-not-is_one_constant
fit_constant-returns-then-not-is_one_constant m c =
    logic-apart c.args.bank.now (map (type_at c.args.bank.now) c.args.vars.now) c.args.bindings.now.items c.is_one_constant.result (connective c.args.bank.now c.args.pattern.now.op) (connective c.args.bank.now c.in-Some.other.op) (argument (tree_at c.args.bank.now) c.args.pattern.now.first) (argument (tree_at c.args.bank.now) c.args.pattern.now.second) (argument (tree_at c.args.bank.now) c.in-Some.other.first) (argument (tree_at c.args.bank.now) c.in-Some.other.second) _ (tree_at c.args.bank.now c.args.t) c.requires.sound refl c.in-Some.ensures.reads c.is_one_constant.ensures c.if-not-is_one_constant.true

pub fit_constant-returns-then-not-first : goal.fit_constant-returns-then-not-first
fit_constant-returns-then-not-first m c =
    logic-first c.args.bank.now (map (type_at c.args.bank.now) c.args.vars.now) _ c.is_one_constant.result (connective c.args.bank.now c.args.pattern.now.op) (connective c.args.bank.now c.in-Some.other.op) (argument (tree_at c.args.bank.now) c.args.pattern.now.first) (argument (tree_at c.args.bank.now) c.args.pattern.now.second) (argument (tree_at c.args.bank.now) c.in-Some.other.first) (argument (tree_at c.args.bank.now) c.in-Some.other.second) _ (tree_at c.args.bank.now c.args.t) refl c.in-Some.ensures.reads c.if-not-first.true c.in_ok-first-in-Some.ensures

pub fit_constant-returns-in_ok-second-in-Some : goal.fit_constant-returns-in_ok-second-in-Some
fit_constant-returns-in_ok-second-in-Some m c =
    logic-fits c.args.bank.now (map (type_at c.args.bank.now) c.args.vars.now) _ _ c.is_one_constant.result (connective c.args.bank.now c.args.pattern.now.op) (connective c.args.bank.now c.in-Some.other.op) (argument (tree_at c.args.bank.now) c.args.pattern.now.first) (argument (tree_at c.args.bank.now) c.args.pattern.now.second) (argument (tree_at c.args.bank.now) c.in-Some.other.first) (argument (tree_at c.args.bank.now) c.in-Some.other.second) _ (tree_at c.args.bank.now c.args.t) refl c.in-Some.ensures.reads c.is_one_constant.ensures c.if-not-is_one_constant.false c.if-not-first.false c.in_ok-first-in-Some.ensures c.in_ok-second-in-Some.ensures

pub fit_constant-returns-in-None : goal.fit_constant-returns-in-None
fit_constant-returns-in-None m c =
    logic-other c.args.bank.now (map (type_at c.args.bank.now) c.args.vars.now) c.args.bindings.now.items (connective c.args.bank.now c.args.pattern.now.op) (argument (tree_at c.args.bank.now) c.args.pattern.now.first) (argument (tree_at c.args.bank.now) c.args.pattern.now.second) _ (tree_at c.args.bank.now c.args.t) c.requires.sound refl c.in-None.ensures

pub fit_argument-returns-in-None-y : goal.fit_argument-returns-in-None-y
fit_argument-returns-in-None-y m c =
    rw (c.in-Some.is, c.in-None-y.is) (never-nothing c.args.bank.now (map (type_at c.args.bank.now) c.args.vars.now) c.args.bindings.now.items (tree_at c.args.bank.now c.in-Some.pattern) c.requires.sound (rw c.in-Some.is at c.requires.over) (term-present c.is_sound.ensures.sound c.in-Some.pattern (rw c.in-Some.is at c.requires.pattern)))

pub fit_argument-returns-in-None : goal.fit_argument-returns-in-None
fit_argument-returns-in-None m c =
    rw (c.in-None.is, c.is_missing.ensures) (nothing-fits c.args.bank.now (map (type_at c.args.bank.now) c.args.vars.now) c.is_sound.ensures.sound c.args.bindings.now.items c.args.y c.requires.sound c.requires.within)

pub fit_parts-fit_app-requires : goal.fit_parts-fit_app-requires
fit_parts-fit_app-requires m c =
    let h = c.in-App.ensures.typed in
    let e = (reads-app c.in-App.ensures.sound c.args.pattern c.in-App.f c.in-App.a c.in-App.ensures.view) in (
      omega arith,
      (
        c.requires.vars,
        (
          omega arith,
          (
            omega arith,
            (
              c.requires.within,
              (
                over-function (map (type_at c.args.bank.now) c.args.vars.now) (tree_at c.args.bank.now c.args.pattern) (tree_at c.args.bank.now c.in-App.f) (tree_at c.args.bank.now c.in-App.a) e c.requires.over,
                (over-argument (map (type_at c.args.bank.now) c.args.vars.now) (tree_at c.args.bank.now c.args.pattern) (tree_at c.args.bank.now c.in-App.f) (tree_at c.args.bank.now c.in-App.a) e c.requires.over, c.requires.sound),
              ),
            ),
          ),
        ),
      ),
    )

pub fit_parts-fit_lam-requires : goal.fit_parts-fit_lam-requires
fit_parts-fit_lam-requires m c =
    let h = c.in-Lam.ensures.typed in
    let k = arrow-parts c.in-Lam.ensures.sound h.typed in (
      omega arith,
      (
        c.requires.vars,
        (
          omega arith,
          (
            omega arith,
            (
              c.requires.within,
              (over-body (map (type_at c.args.bank.now) c.args.vars.now) (tree_at c.args.bank.now c.args.pattern) (tree_at c.args.bank.now c.in-Lam.body) (type_at c.args.bank.now c.in-Lam.ty) (reads-lam c.in-Lam.ensures.sound c.args.pattern c.in-Lam.ty c.in-Lam.body c.in-Lam.ensures.view) c.requires.over, c.requires.sound),
            ),
          ),
        ),
      ),
    )

pub fit_parts-fit_constant-requires : goal.fit_parts-fit_constant-requires
fit_parts-fit_constant-requires m c =
    let h = c.in-Logic.ensures.typed in
    let e = (reads-logic c.in-Logic.ensures.sound c.args.pattern c.in-Logic.op c.in-Logic.first c.in-Logic.second c.in-Logic.ensures.view) in
    let x = argument_measure-falls c.args.pattern c.in-Logic.first h.first_below in
    let y = argument_measure-falls c.args.pattern c.in-Logic.second h.second_below in (
      omega arith,
      (
        c.requires.vars,
        (
          h.type_below,
          (
            argument-raised c.args.pattern (length c.args.bank.now.terms) c.in-Logic.first c.requires.pattern h.first_below,
            (
              argument-raised c.args.pattern (length c.args.bank.now.terms) c.in-Logic.second c.requires.pattern h.second_below,
              (
                c.requires.within,
                (
                  over-first (map (type_at c.args.bank.now) c.args.vars.now) (tree_at c.args.bank.now c.args.pattern) (argument (tree_at c.args.bank.now) c.in-Logic.first) (argument (tree_at c.args.bank.now) c.in-Logic.second) (connective c.args.bank.now c.in-Logic.op) e c.requires.over,
                  (over-second (map (type_at c.args.bank.now) c.args.vars.now) (tree_at c.args.bank.now c.args.pattern) (argument (tree_at c.args.bank.now) c.in-Logic.first) (argument (tree_at c.args.bank.now) c.in-Logic.second) (connective c.args.bank.now c.in-Logic.op) e c.requires.over, c.requires.sound),
                ),
              ),
            ),
          ),
        ),
      ),
    )
