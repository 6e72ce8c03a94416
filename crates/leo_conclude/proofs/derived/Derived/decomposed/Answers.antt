use Rattle.leo_conclude.proofs.Changing.{decomposed-changed}
use Rattle.leo_conclude.proofs.derived.Derived.decomposed.Goals as goal

pub returns : goal.returns
returns c = λ front back l is count decomposes one typed.
    decomposed-changed c.args.bank.now c.is_sound.ensures.sound c.args.self c.in_ok-derived.derived c.in_ok-clause.clause c.args.at c.args.new.now c.requires.typed c.in_ok-clause.ensures.vars c.in_ok-clause.ensures.lits c.requires.new c.in_ok-derived.ensures.clause (rw (c.line-parent.ensures, c.in_ok-lit.ensures) at c.in_ok-derived.ensures.records) front back l is count decomposes one typed
