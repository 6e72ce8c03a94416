use Rattle.std.proofs.Common.{ap, arith}
use Rattle.leo_terms.specs.Contents.{tree_at}
use Rattle.leo_terms.specs.Facts.{variable_range}
use Rattle.leo_terms.proofs.CallerLemmas.{reads-app}
use Rattle.leo_kernel.proofs.ChosenSteps.{leads-function, leads-argument, apart-app}
use Rattle.leo_kernel.proofs.chosen_matching.from_app.Goals as goal

pub returns-then-first-second : goal.returns-then-first-second
returns-then-first-second c =
    let p = c.in-App.ensures.typed.argument_below in
    let q = c.requires.other in
    let e = ap variable_range c.requires.reads in
    let l = c.if-first-second.true in
    let m = c.variable_range-first.ensures.range in
    let n = c.variable_range-second.ensures.range in
    record {
      falls = c.requires.argument;
      within = omega arith;
      range_is = omega arith;
      parts = leads-argument (tree_at c.args.bank.now c.args.s) (tree_at c.args.bank.now c.args.t) (tree_at c.args.bank.now c.args.f) (tree_at c.args.bank.now c.args.x) (tree_at c.args.bank.now c.in-App.g) (tree_at c.args.bank.now c.in-App.y) c.requires.reads (reads-app c.in-App.ensures.sound c.args.t c.in-App.g c.in-App.y c.in-App.ensures.view);
    }

pub returns-else-first-second : goal.returns-else-first-second
returns-else-first-second c =
    let p = c.in-App.ensures.typed.function_below in
    let q = c.requires.other in
    let e = ap variable_range c.requires.reads in
    let l = c.if-first-second.false in
    let m = c.variable_range-first.ensures.range in
    let n = c.variable_range-second.ensures.range in
    record {
      falls = c.requires.function;
      within = omega arith;
      range_is = omega arith;
      parts = leads-function (tree_at c.args.bank.now c.args.s) (tree_at c.args.bank.now c.args.t) (tree_at c.args.bank.now c.args.f) (tree_at c.args.bank.now c.args.x) (tree_at c.args.bank.now c.in-App.g) (tree_at c.args.bank.now c.in-App.y) c.requires.reads (reads-app c.in-App.ensures.sound c.args.t c.in-App.g c.in-App.y c.in-App.ensures.view);
    }

pub returns-in_default : goal.returns-in_default
returns-in_default c = apart-app c.args.bank.now c.view.ensures.sound c.args.t c.view.result c.view.ensures.view (tree_at c.args.bank.now c.args.s) c.in_default.not-App (tree_at c.args.bank.now c.args.f) (tree_at c.args.bank.now c.args.x) c.requires.reads
