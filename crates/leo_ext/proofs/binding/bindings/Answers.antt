use Rattle.leo_terms.proofs.CallerLemmas.{extends-trans}
use Rattle.leo_kernel.proofs.Growing.{types-grow}
use Rattle.leo_ext.proofs.BoundMaking.{bindings-made, sides-of}
use Rattle.leo_ext.proofs.binding.bindings.Goals as goal

pub put_equations-requires-clause-types : goal.put_equations-requires-clause-types
put_equations-requires-clause-types c = types-grow c.put_connectives.ensures.grows c.args.types.now c.requires

pub put_equations-requires-clause-sides : goal.put_equations-requires-clause-sides
put_equations-requires-clause-sides c = rw c.deref.ensures.value (sides-of c.put_connectives.ensures.grows c.args.types.now c.requires c.in_ok-sides.sides.items c.in_ok-sides.ensures)

pub returns-in_err-put_equations-clause-grows : goal.returns-in_err-put_equations-clause-grows
returns-in_err-put_equations-clause-grows c = extends-trans c.put_connectives.ensures.grows c.put_equations.ensures.grows

pub returns-clause-made : goal.returns-clause-made
returns-clause-made c =
    bindings-made c.put_connectives.ensures.grows c.args.types.now c.requires c.args.next c.new-bounds.result.items c.put_connectives.new.bounds.items c.put_equations.new.bounds.items c.in_ok-sides.sides.items c.new-bounds.ensures.items c.in_ok-put_connectives.ensures.adds c.in_ok-sides.ensures (rw c.deref.ensures.value at c.in_ok-put_equations.ensures.adds)

pub returns-clause-grows : goal.returns-clause-grows
returns-clause-grows c = extends-trans c.put_connectives.ensures.grows c.put_equations.ensures.grows
