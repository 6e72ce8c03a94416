use Rattle.std.proofs.Common.{◌≡◌, ◌++◌, length}
use Rattle.std.specs.Prelude.{reverse}
use Rattle.fo_terms.specs.Terms.{first_terms}
use Rattle.fo_terms.specs.Prefix.{terms_of}
use Rattle.fo_super.specs.Sifting.{sites_in_all}
use Rattle.fo_super.specs.Walks.{pending, made, selected}
use Rattle.fo_super.proofs.sites.walk.Given as goal

abbrev pub invariant-loop-node : goal.invariant-loop-node
invariant-loop-node l = l.out ++ made l.from l.into (selected l.head (pending (reverse l.path.items) (reverse l.frames.items) (terms_of l.rest))) ≡ l.fn.out ++ made l.from l.into (selected l.head (sites_in_all 0 (first_terms l.arguments (terms_of l.nodes))))

abbrev pub decreases-loop-node : goal.decreases-loop-node
decreases-loop-node l = length l.rest
