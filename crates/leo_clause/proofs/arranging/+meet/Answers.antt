use Rattle.std.proofs.Common.{◌∙◌, [], ◌∷◌, sym, rules, refl}
use Rattle.leo_terms.specs.Contents.{tree_at}
use Rattle.leo_terms.proofs.CallerLemmas.{reads-var, reads-sym, reads-bound, reads-app, reads-lam, reads-logic}
use Rattle.leo_clause.specs.Arranging.{occurring}
use Rattle.leo_clause.specs.Renaming.{AreSeen}
use Rattle.leo_clause.proofs.Seen.{firsts-none, AreSeen-met}
use Rattle.leo_clause.proofs.Meeting.{known, met-with, met-more, both-met}
use Rattle.leo_clause.proofs.arranging.+meet.Goals as goal

pub meet-returns-then-contains-clause-order : goal.meet-returns-then-contains-clause-order
meet-returns-then-contains-clause-order m c =
    let s = known c.args.bank.now c.args.t _ (λ v e. search rules) c.args.visited.now.keys c.args.order.now.keys c.requires.met (sym c.contains.ensures ∙ c.if-contains.true) in
    sym (firsts-none (occurring (tree_at c.args.bank.now c.args.t)) c.args.order.now.keys s)

pub meet-returns-clause-met : goal.meet-returns-clause-met
meet-returns-clause-met m c =
    let o = c.in_ok-meet_parts.ensures.order in
    let s : AreSeen c.meet_parts.new.order.keys (occurring (tree_at c.args.bank.now c.args.t)) = rw o (AreSeen-met (occurring (tree_at c.args.bank.now c.args.t)) c.args.order.now.keys) in
    rw c.in_ok-insert.ensures.keys (met-more c.args.bank.now _ c.meet_parts.new.visited.keys c.meet_parts.new.order.keys c.args.t c.in_ok-meet_parts.ensures.met s)

pub meet_parts-returns-in_ok-insert-in-Var-clause-order : goal.meet_parts-returns-in_ok-insert-in-Var-clause-order
meet_parts-returns-in_ok-insert-in-Var-clause-order m c =
    rw (reads-var c.in-Var.ensures.sound c.args.t _ c.in-Var.ensures.view, c.in_ok-insert-in-Var.ensures.keys, c.from.ensures) refl

pub meet_parts-returns-in_ok-insert-in-Var-clause-met : goal.meet_parts-returns-in_ok-insert-in-Var-clause-met
meet_parts-returns-in_ok-insert-in-Var-clause-met m c =
    rw (c.in_ok-insert-in-Var.ensures.keys, c.from.ensures) (met-with c.args.bank.now c.args.visited.now.keys c.args.order.now.keys (c.in-Var.number ∷ []) c.requires.met)

pub meet_parts-returns-in-Bound-clause-order : goal.meet_parts-returns-in-Bound-clause-order
meet_parts-returns-in-Bound-clause-order m c =
    rw (reads-bound c.in-Bound.ensures.sound c.args.t _ c.in-Bound.ensures.view) refl

pub meet_parts-returns-in-Sym-clause-order : goal.meet_parts-returns-in-Sym-clause-order
meet_parts-returns-in-Sym-clause-order m c =
    rw (reads-sym c.in-Sym.ensures.sound c.args.t _ c.in-Sym.ensures.view) refl

pub meet_parts-returns-in_ok-meet-in-App-2-clause-order : goal.meet_parts-returns-in_ok-meet-in-App-2-clause-order
meet_parts-returns-in_ok-meet-in-App-2-clause-order m c =
    rw (reads-app c.in-App.ensures.sound c.args.t c.in-App.f c.in-App.a c.in-App.ensures.view)
    (both-met (occurring (tree_at c.args.bank.now c.in-App.f)) (occurring (tree_at c.args.bank.now c.in-App.a)) c.args.order.now.keys c.meet.new.order.keys c.meet-in-App.new.order.keys c.in_ok-meet-in-App.ensures.order c.in_ok-meet-in-App-2.ensures.order)

pub meet_parts-returns-in_ok-meet-in-Lam-clause-order : goal.meet_parts-returns-in_ok-meet-in-Lam-clause-order
meet_parts-returns-in_ok-meet-in-Lam-clause-order m c =
    rw (reads-lam c.in-Lam.ensures.sound c.args.t c.in-Lam.field-0 c.in-Lam.body c.in-Lam.ensures.view) c.in_ok-meet-in-Lam.ensures.order

pub meet_parts-returns-in_ok-meet_argument-in-Logic-2-clause-order : goal.meet_parts-returns-in_ok-meet_argument-in-Logic-2-clause-order
meet_parts-returns-in_ok-meet_argument-in-Logic-2-clause-order m c =
    rw (reads-logic c.in-Logic.ensures.sound c.args.t c.in-Logic.field-0 c.in-Logic.x c.in-Logic.y c.in-Logic.ensures.view)
    (both-met _ _ c.args.order.now.keys c.meet_argument.new.order.keys c.meet_argument-in-Logic.new.order.keys c.in_ok-meet_argument-in-Logic.ensures.order c.in_ok-meet_argument-in-Logic-2.ensures.order)
