use Rattle.std.proofs.Common.{◌≡◌, ◌++◌, subst, sym, rules}
use Rattle.std.specs.Prelude.{List}
use Rattle.fo_terms.specs.declared.term.FoNode.{FoNode}
use Rattle.fo_terms.specs.Prefix.{prefix}
use Rattle.fo_terms.specs.Places.{IsFull}
use Rattle.fo_terms.proofs.AtPlaces.{IsFull-append}
use Rattle.fo_terms.proofs.places.Places.of.Goals as goal

pub ends_of-requires : goal.ends_of-requires
ends_of-requires c =
    let whole : c.deref.result.now ≡ prefix c.args.first.now ++ prefix c.args.second.now = search rules in
    let P : List FoNode → Type 0 = IsFull in
    subst P (sym whole) (IsFull-append c.args.first.now c.args.second.now)
