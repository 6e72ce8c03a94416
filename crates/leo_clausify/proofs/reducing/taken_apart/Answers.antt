use Rattle.leo_terms.proofs.CallerLemmas.{extends-trans}
use Rattle.leo_clausify.specs.Ways.{way_at}
use Rattle.leo_clausify.proofs.Reduced.{branch-grow, way-over, row-at, taken-typed, taken-reduced}
use Rattle.leo_clausify.proofs.reducing.taken_apart.Goals as goal

pub pieces-requires-clause-over : goal.pieces-requires-clause-over
pieces-requires-clause-over c = rw c.as_slice.ensures (way-over c.args.bank.now c.args.branch c.args.at (way_at c.args.bank.now c.args.way.now) c.requires.branch c.requires.row)

pub taken-requires-clause-branch : goal.taken-requires-clause-branch
taken-requires-clause-branch c = branch-grow c.pieces.ensures.grows c.args.branch c.requires.branch

pub taken-requires-clause-typed : goal.taken-requires-clause-typed
taken-requires-clause-typed c =
    taken-typed c.pieces.ensures.grows c.args.branch c.args.choices.now.items c.pieces.new.choices.items c.args.at (way_at c.args.bank.now c.args.way.now) c.in_ok-pieces.pieces c.requires.branch c.requires.in_order (rw c.as_slice.ensures at c.in_ok-pieces.ensures.made) c.requires.row.lit c.requires.row.stands c.requires.row.row

pub returns-in_err-taken-clause-grows : goal.returns-in_err-taken-clause-grows
returns-in_err-taken-clause-grows c = extends-trans c.pieces.ensures.grows c.taken.ensures.grows

pub returns-clause-made : goal.returns-clause-made
returns-clause-made c = λ l e.
    taken-reduced c.pieces.ensures.grows c.args.branch c.args.choices.now.items c.pieces.new.choices.items c.args.at (way_at c.args.bank.now c.args.way.now) c.in_ok-pieces.pieces c.requires.branch c.requires.in_order (rw c.as_slice.ensures at c.in_ok-pieces.ensures.made) l e (row-at c.args.bank.now c.args.branch c.args.at (way_at c.args.bank.now c.args.way.now) c.requires.row l e) c.taken.ensures.grows c.in_ok-taken.taken c.in_ok-taken.ensures.extended

pub returns-clause-grows : goal.returns-clause-grows
returns-clause-grows c = extends-trans c.pieces.ensures.grows c.taken.ensures.grows
