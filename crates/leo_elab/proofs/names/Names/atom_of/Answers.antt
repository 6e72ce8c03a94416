use Rattle.std.proofs.Common.{◌≡◌, true, false, Some, sym, ap, ◌∙◌}
use Rattle.std.proofs.lemmas.Bool.{false≢true}
use Rattle.leo_elab.proofs.Naming.{atom-found, atom-further}
use Rattle.leo_elab.proofs.names.Names.atom_of.Goals as goal
use Rattle.leo_elab.proofs.names.Names.atom_of.Goals.{in-Some+else-eq, in_default}

pub returns-then-eq : goal.returns-then-eq
returns-then-eq c =
    let found = atom-found (λ v. v.items) c.self.inside.constants.entries c.loop-place.place c.args.constant c.in-Some.symbol.now c.in-Some.atom.now c.in-Some.ensures.entry (sym c.eq.ensures ∙ c.if-eq.true) in
    rw (← c.self.view_is) (ap Some c.as_slice.ensures.value ∙ (sym found ∙ (rw (← c.self.view_is) at c.loop-place.invariant)))

pub loop-place-preserved : goal.loop-place-preserved
loop-place-preserved c = elim c.match-get_index.branch [
  | in-Some+else-eq w ↦
      let further = atom-further (λ v. v.items) c.self.inside.constants.entries c.loop-place.place c.args.constant w.in-Some.symbol.now w.in-Some.atom.now w.in-Some.ensures.entry (sym w.eq.ensures ∙ w.if-eq.false) in
      rw (← c.self.view_is) (sym further ∙ (rw (← c.self.view_is) at c.loop-place.invariant))
  | in_default w ↦ let g = c.get_index.ensures.found.1 (rw (← c.len-place-end.ensures.len) c.loop-place-test.true) in let h : false ≡ true = rw w.in_default.is at g in absurd (false≢true h)
]
