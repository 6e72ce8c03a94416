use Rattle.std.proofs.Common.{map, arith}
use Rattle.leo_terms.specs.Contents.{argument, tree_at}
use Rattle.leo_terms.proofs.CallerLemmas.{reads-var, reads-bound, reads-sym, reads-app, reads-lam, reads-logic, term-present}
use Rattle.leo_para.specs.Places.{argument_places, places}
use Rattle.leo_ext.proofs.PlaceTerms.{children-terms, none-terms, terms-end, whole-terms}
use Rattle.leo_ext.proofs.terms.+put.Goals as goal

pub put_arguments-returns-in-Var-clause-places : goal.put_arguments-returns-in-Var-clause-places
put_arguments-returns-in-Var-clause-places m c = rw (reads-var c.in-Var.ensures.sound c.args.t c.in-Var.field-0 c.in-Var.ensures.view) (none-terms (map (tree_at c.args.bank.now) c.args.terms.now.items))

pub put_arguments-returns-in-Bound-clause-places : goal.put_arguments-returns-in-Bound-clause-places
put_arguments-returns-in-Bound-clause-places m c = rw (reads-bound c.in-Bound.ensures.sound c.args.t c.in-Bound.field-0 c.in-Bound.ensures.view) (none-terms (map (tree_at c.args.bank.now) c.args.terms.now.items))

pub put_arguments-returns-in-Sym-clause-places : goal.put_arguments-returns-in-Sym-clause-places
put_arguments-returns-in-Sym-clause-places m c = rw (reads-sym c.in-Sym.ensures.sound c.args.t c.in-Sym.field-0 c.in-Sym.ensures.view) (none-terms (map (tree_at c.args.bank.now) c.args.terms.now.items))

pub put_arguments-returns-in-Lam-clause-places : goal.put_arguments-returns-in-Lam-clause-places
put_arguments-returns-in-Lam-clause-places m c = rw (reads-lam c.in-Lam.ensures.sound c.args.t c.in-Lam.field-0 c.in-Lam.field-1 c.in-Lam.ensures.view) (none-terms (map (tree_at c.args.bank.now) c.args.terms.now.items))

pub put_arguments-returns-in_ok-put_places-in-App-clause-places : goal.put_arguments-returns-in_ok-put_places-in-App-clause-places
put_arguments-returns-in_ok-put_places-in-App-clause-places m c =
    rw (reads-app c.in-App.ensures.sound c.args.t c.in-App.f c.in-App.a c.in-App.ensures.view)
    (children-terms (map (tree_at c.args.bank.now) c.args.terms.now.items) (map (tree_at c.args.bank.now) c.put_arguments.new.terms.items) (map (tree_at c.args.bank.now) c.put_places.new.terms.items)
    (argument_places (tree_at c.args.bank.now c.in-App.f)) (places (tree_at c.args.bank.now c.in-App.a))
    c.in_ok-put_arguments-in-App.ensures.places c.in_ok-put_places-in-App.ensures.places)

pub put_arguments-returns-in_ok-put_argument-in-Logic-2-clause-places : goal.put_arguments-returns-in_ok-put_argument-in-Logic-2-clause-places
put_arguments-returns-in_ok-put_argument-in-Logic-2-clause-places m c =
    rw (reads-logic c.in-Logic.ensures.sound c.args.t c.in-Logic.field-0 c.in-Logic.x c.in-Logic.y c.in-Logic.ensures.view)
    (children-terms (map (tree_at c.args.bank.now) c.args.terms.now.items) (map (tree_at c.args.bank.now) c.put_argument.new.terms.items) (map (tree_at c.args.bank.now) c.put_argument-in-Logic.new.terms.items)
    (places (argument (tree_at c.args.bank.now) c.in-Logic.x)) (places (argument (tree_at c.args.bank.now) c.in-Logic.y))
    c.in_ok-put_argument-in-Logic.ensures.places c.in_ok-put_argument-in-Logic-2.ensures.places)

pub put_places-put_arguments-requires : goal.put_places-put_arguments-requires
put_places-put_arguments-requires m c =
    (omega arith, (c.requires.within, rw c.in_ok-push.ensures.items (terms-end c.args.bank.now c.args.terms.now.items c.args.t c.requires.terms c.requires.within)))

pub put_places-returns-clause-places : goal.put_places-returns-clause-places
put_places-returns-clause-places m c =
    whole-terms c.args.bank.now c.args.t c.args.terms.now.items c.push.new.self.items _ (term-present c.is_sound.ensures.sound c.args.t c.requires.within)
    c.in_ok-push.ensures.items c.in_ok-put_arguments.ensures.places
