use Rattle.std.proofs.Common.{◌∙◌, [], ◌∷◌, sym, rules, refl}
use Rattle.leo_terms.specs.Contents.{tree_at}
use Rattle.leo_terms.proofs.CallerLemmas.{reads-var, reads-sym, reads-bound, reads-app, reads-lam, reads-logic}
use Rattle.leo_clause.specs.Renaming.{AreSeen}
use Rattle.leo_clause.proofs.Seen.{firsts-none, AreSeen-met}
use Rattle.leo_clause.proofs.Meeting.{both-met}
use Rattle.leo_derive.specs.Symbols.{symbols_of}
use Rattle.leo_derive.proofs.Collecting.{known, collected-with, collected-more}
use Rattle.leo_derive.proofs.symbols.+meet.Goals as goal

pub meet-returns-then-contains-clause-symbols : goal.meet-returns-then-contains-clause-symbols
meet-returns-then-contains-clause-symbols m c =
    let s = known c.args.bank.now c.args.t _ (λ v e. search rules) c.args.visited.now.keys c.args.symbols.now.keys c.requires.met (sym c.contains.ensures ∙ c.if-contains.true) in
    sym (firsts-none (symbols_of (tree_at c.args.bank.now c.args.t)) c.args.symbols.now.keys s)

pub meet-returns-clause-met : goal.meet-returns-clause-met
meet-returns-clause-met m c =
    let o = c.in_ok-meet_parts.ensures.symbols in
    let s : AreSeen c.meet_parts.new.symbols.keys (symbols_of (tree_at c.args.bank.now c.args.t)) = rw o (AreSeen-met (symbols_of (tree_at c.args.bank.now c.args.t)) c.args.symbols.now.keys) in
    rw c.in_ok-insert.ensures.keys (collected-more c.args.bank.now _ c.meet_parts.new.visited.keys c.meet_parts.new.symbols.keys c.args.t c.in_ok-meet_parts.ensures.met s)

pub meet_parts-returns-in-Var-clause-symbols : goal.meet_parts-returns-in-Var-clause-symbols
meet_parts-returns-in-Var-clause-symbols m c = rw (reads-var c.in-Var.ensures.sound c.args.t _ c.in-Var.ensures.view) refl

pub meet_parts-returns-in-Bound-clause-symbols : goal.meet_parts-returns-in-Bound-clause-symbols
meet_parts-returns-in-Bound-clause-symbols m c = rw (reads-bound c.in-Bound.ensures.sound c.args.t _ c.in-Bound.ensures.view) refl

pub meet_parts-returns-in_ok-insert-in-Sym-clause-symbols : goal.meet_parts-returns-in_ok-insert-in-Sym-clause-symbols
meet_parts-returns-in_ok-insert-in-Sym-clause-symbols m c = rw (reads-sym c.in-Sym.ensures.sound c.args.t _ c.in-Sym.ensures.view, c.in_ok-insert-in-Sym.ensures.keys) refl

pub meet_parts-returns-in_ok-insert-in-Sym-clause-met : goal.meet_parts-returns-in_ok-insert-in-Sym-clause-met
meet_parts-returns-in_ok-insert-in-Sym-clause-met m c = rw c.in_ok-insert-in-Sym.ensures.keys (collected-with c.args.bank.now c.args.visited.now.keys c.args.symbols.now.keys (c.in-Sym.symbol ∷ []) c.requires.met)

pub meet_parts-returns-in_ok-meet-in-App-2-clause-symbols : goal.meet_parts-returns-in_ok-meet-in-App-2-clause-symbols
meet_parts-returns-in_ok-meet-in-App-2-clause-symbols m c =
    rw (reads-app c.in-App.ensures.sound c.args.t c.in-App.f c.in-App.a c.in-App.ensures.view)
    (both-met (symbols_of (tree_at c.args.bank.now c.in-App.f)) (symbols_of (tree_at c.args.bank.now c.in-App.a)) c.args.symbols.now.keys c.meet.new.symbols.keys c.meet-in-App.new.symbols.keys c.in_ok-meet-in-App.ensures.symbols c.in_ok-meet-in-App-2.ensures.symbols)

pub meet_parts-returns-in_ok-meet-in-Lam-clause-symbols : goal.meet_parts-returns-in_ok-meet-in-Lam-clause-symbols
meet_parts-returns-in_ok-meet-in-Lam-clause-symbols m c =
    rw (reads-lam c.in-Lam.ensures.sound c.args.t c.in-Lam.field-0 c.in-Lam.body c.in-Lam.ensures.view) c.in_ok-meet-in-Lam.ensures.symbols

pub meet_parts-returns-in_ok-meet_argument-in-Logic-2-clause-symbols : goal.meet_parts-returns-in_ok-meet_argument-in-Logic-2-clause-symbols
meet_parts-returns-in_ok-meet_argument-in-Logic-2-clause-symbols m c =
    rw (reads-logic c.in-Logic.ensures.sound c.args.t c.in-Logic.field-0 c.in-Logic.x c.in-Logic.y c.in-Logic.ensures.view)
    (both-met _ _ c.args.symbols.now.keys c.meet_argument.new.symbols.keys c.meet_argument-in-Logic.new.symbols.keys c.in_ok-meet_argument-in-Logic.ensures.symbols c.in_ok-meet_argument-in-Logic-2.ensures.symbols)
