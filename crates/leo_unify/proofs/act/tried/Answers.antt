use Rattle.std.proofs.Common.{length, refl}
use Rattle.leo_terms.specs.Contents.{tree_at}
use Rattle.leo_terms.proofs.CallerLemmas.{extends-itself, type_number-within, reads-var, reads-bound, reads-sym, reads-app, reads-lam, reads-logic}
use Rattle.leo_unify.proofs.ActSteps.{tried-other}
use Rattle.leo_unify.proofs.act.tried.Goals as goal

pub guessed-requires-clause-ty : goal.guessed-requires-clause-ty
guessed-requires-clause-ty c = rw c.type_of-ty.ensures.number (type_number-within c.is_sound.ensures.sound c.args.flex c.requires.flex)

pub returns-in-Var-clause-value : goal.returns-in-Var-clause-value
returns-in-Var-clause-value c = rw (reads-var c.in-Var.ensures.sound c.args.flex _ c.in-Var.ensures.view) (rw c.type_of-ty.ensures.number at c.guessed.ensures.value)

pub returns-in-Bound-clause-value : goal.returns-in-Bound-clause-value
returns-in-Bound-clause-value c = tried-other (length c.args.vars.now) c.args.depth (tree_at c.args.bank.now c.args.flex) (tree_at c.args.bank.now c.args.rigid) (rw (reads-bound c.in-Bound.ensures.sound c.args.flex _ c.in-Bound.ensures.view) refl)

pub returns-in-Bound-clause-grows : goal.returns-in-Bound-clause-grows
returns-in-Bound-clause-grows c = extends-itself c.is_sound.ensures.sound

pub returns-in-Sym-clause-value : goal.returns-in-Sym-clause-value
returns-in-Sym-clause-value c = tried-other (length c.args.vars.now) c.args.depth (tree_at c.args.bank.now c.args.flex) (tree_at c.args.bank.now c.args.rigid) (rw (reads-sym c.in-Sym.ensures.sound c.args.flex _ c.in-Sym.ensures.view) refl)

pub returns-in-Sym-clause-grows : goal.returns-in-Sym-clause-grows
returns-in-Sym-clause-grows c = extends-itself c.is_sound.ensures.sound

pub returns-in-App-clause-value : goal.returns-in-App-clause-value
returns-in-App-clause-value c = tried-other (length c.args.vars.now) c.args.depth (tree_at c.args.bank.now c.args.flex) (tree_at c.args.bank.now c.args.rigid) (rw (reads-app c.in-App.ensures.sound c.args.flex _ _ c.in-App.ensures.view) refl)

pub returns-in-App-clause-grows : goal.returns-in-App-clause-grows
returns-in-App-clause-grows c = extends-itself c.is_sound.ensures.sound

pub returns-in-Lam-clause-value : goal.returns-in-Lam-clause-value
returns-in-Lam-clause-value c = tried-other (length c.args.vars.now) c.args.depth (tree_at c.args.bank.now c.args.flex) (tree_at c.args.bank.now c.args.rigid) (rw (reads-lam c.in-Lam.ensures.sound c.args.flex _ _ c.in-Lam.ensures.view) refl)

pub returns-in-Lam-clause-grows : goal.returns-in-Lam-clause-grows
returns-in-Lam-clause-grows c = extends-itself c.is_sound.ensures.sound

pub returns-in-Logic-clause-value : goal.returns-in-Logic-clause-value
returns-in-Logic-clause-value c = tried-other (length c.args.vars.now) c.args.depth (tree_at c.args.bank.now c.args.flex) (tree_at c.args.bank.now c.args.rigid) (rw (reads-logic c.in-Logic.ensures.sound c.args.flex _ _ _ c.in-Logic.ensures.view) refl)

pub returns-in-Logic-clause-grows : goal.returns-in-Logic-clause-grows
returns-in-Logic-clause-grows c = extends-itself c.is_sound.ensures.sound
