use Rattle.std.proofs.Common.{map, ap}
use Rattle.leo_terms.specs.Contents.{tree_at}
use Rattle.leo_para.specs.Places.{places}
use Rattle.leo_ext.specs.Terms.{terms_of}
use Rattle.leo_ext.proofs.PlaceTerms.{all-terms}
use Rattle.leo_ext.proofs.terms.terms_at.Goals as goal

pub returns-clause-places : goal.returns-clause-places
returns-clause-places c =
    all-terms _ _ (terms_of (places (tree_at c.args.bank.now c.args.t))) (ap (map (tree_at c.args.bank.now)) c.new-terms.ensures.items) c.in_ok-put_places.ensures.places
