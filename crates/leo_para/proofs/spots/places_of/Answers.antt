use Rattle.std.proofs.Common.{map, ap}
use Rattle.leo_terms.specs.Contents.{tree_at}
use Rattle.leo_para.specs.Places.{places}
use Rattle.leo_para.specs.Reading.{place_at}
use Rattle.leo_para.proofs.Spotting.{all-put}
use Rattle.leo_para.proofs.spots.places_of.Goals as goal

pub returns-clause-places : goal.returns-clause-places
returns-clause-places c =
    all-put _ _ (places (tree_at c.args.bank.now c.args.t)) (ap (map (place_at c.args.bank.now)) c.new-spots.ensures.items) c.in_ok-put_places.ensures.places
