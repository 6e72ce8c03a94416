use Rattle.std.proofs.Common.{◌≡◌, arith, Some}
use Rattle.std.specs.Prelude.{slice_get}
use Rattle.fo_terms.proofs.places.Places.behind.Goals as goal

pub returns : goal.returns
returns c =
    let here : slice_get c.args.self.now.ends.items c.args.at ≡ Some c.place_at.result = rw c.deref.ensures.value at c.place_at.ensures in
    c.requires.places.behind c.args.at c.place_at.result (omega arith) here
