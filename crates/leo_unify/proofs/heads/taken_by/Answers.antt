use Rattle.std.proofs.Common.{◌≡◌, ◌∙◌, sym, ap, refl}
use Rattle.leo_terms.specs.Contents.{connective, type_at, type_number}
use Rattle.leo_terms.specs.Tree.{connective_type, type_of}
use Rattle.leo_terms.proofs.CallerLemmas.{extends-itself, type_number-within, type_of-term, reads-var, reads-bound, reads-sym, reads-app, reads-lam, reads-logic}
use Rattle.leo_unify.proofs.heads.taken_by.Goals as goal

pub domains-requires : goal.domains-requires
domains-requires c = rw c.type_of-ty.ensures.number (type_number-within c.is_sound.ensures.sound c.args.h c.requires)

pub returns-in-Var-clause-value : goal.returns-in-Var-clause-value
returns-in-Var-clause-value c = rw (reads-var c.in-Var.ensures.sound c.args.h _ c.in-Var.ensures.view) (rw c.type_of-ty.ensures.number at c.domains.ensures.value)

pub returns-in-Var-clause-grows : goal.returns-in-Var-clause-grows
returns-in-Var-clause-grows c = extends-itself c.is_sound.ensures.sound

pub domains-requires-in-Bound : goal.domains-requires-in-Bound
domains-requires-in-Bound c = rw c.type_of-ty.ensures.number (type_number-within c.is_sound.ensures.sound c.args.h c.requires)

pub returns-in-Bound-clause-value : goal.returns-in-Bound-clause-value
returns-in-Bound-clause-value c = rw (reads-bound c.in-Bound.ensures.sound c.args.h _ c.in-Bound.ensures.view) (rw c.type_of-ty.ensures.number at c.domains-in-Bound.ensures.value)

pub returns-in-Bound-clause-grows : goal.returns-in-Bound-clause-grows
returns-in-Bound-clause-grows c = extends-itself c.is_sound.ensures.sound

pub domains-requires-in-Sym : goal.domains-requires-in-Sym
domains-requires-in-Sym c = rw c.type_of-ty.ensures.number (type_number-within c.is_sound.ensures.sound c.args.h c.requires)

pub returns-in-Sym-clause-value : goal.returns-in-Sym-clause-value
returns-in-Sym-clause-value c = rw (reads-sym c.in-Sym.ensures.sound c.args.h _ c.in-Sym.ensures.view) (rw c.type_of-ty.ensures.number at c.domains-in-Sym.ensures.value)

pub returns-in-Sym-clause-grows : goal.returns-in-Sym-clause-grows
returns-in-Sym-clause-grows c = extends-itself c.is_sound.ensures.sound

pub returns-in-App-clause-value : goal.returns-in-App-clause-value
returns-in-App-clause-value c = rw (c.new.ensures, reads-app c.in-App.ensures.sound c.args.h _ _ c.in-App.ensures.view) refl

pub returns-in-App-clause-grows : goal.returns-in-App-clause-grows
returns-in-App-clause-grows c = extends-itself c.is_sound.ensures.sound

pub returns-in-Lam-clause-value : goal.returns-in-Lam-clause-value
returns-in-Lam-clause-value c = rw (c.new-in-Lam.ensures, reads-lam c.in-Lam.ensures.sound c.args.h _ _ c.in-Lam.ensures.view) refl

pub returns-in-Lam-clause-grows : goal.returns-in-Lam-clause-grows
returns-in-Lam-clause-grows c = extends-itself c.is_sound.ensures.sound

pub returns-in-Logic-clause-value : goal.returns-in-Logic-clause-value
returns-in-Logic-clause-value c =
    let e = reads-logic c.in-Logic.ensures.sound c.args.h _ _ _ c.in-Logic.ensures.view in
    let t : type_at c.args.bank.now (type_number c.args.bank.now c.args.h) ≡ connective_type (connective c.args.bank.now c.in-Logic.op) = sym (type_of-term c.is_sound.ensures.sound c.args.h c.requires) ∙ ap type_of e in
    rw e (rw (c.type_of-ty.ensures.number, t) at c.taken_by_constant.ensures.value)
