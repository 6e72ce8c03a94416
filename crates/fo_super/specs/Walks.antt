-- The walk over the places of a term, in the list of its nodes.
use Rattle.std.specs.Prelude.{ℕ, suc, ◌≡◌, ◌+◌, List, [], ◌∷◌, ◌++◌, Option, map, filter, reverse}
use Rattle.fo_terms.specs.Terms.{Term, Terms, first_terms, terms_after}
use Rattle.fo_super.specs.declared.member.FoMember.{FoMember}
use Rattle.fo_super.specs.declared.member.FoMember.TheVariants.{Superpose}
use Rattle.fo_super.specs.declared.sites.Frame.{Frame}
use Rattle.fo_super.specs.declared.sites.Spot.{Spot}
use Rattle.fo_super.specs.Sifting.{meets, sites_in_all}

-- the paths of those sites whose symbol may stand under the head
abbrev pub selected : Option ℕ → List (List ℕ × ℕ) → List (List ℕ)
selected head ss = map (λ s. s.0) (filter (λ s. meets head s.1) ss)

-- superpositions from one spot into these paths in another
abbrev pub made : Spot → Spot → List (List ℕ) → List FoMember
made from into paths = map (λ path. Superpose from.clause from.literal from.side into.clause into.literal into.side path) paths

abbrev pub behind_first : List ℕ → List ℕ
behind_first [] = []
behind_first (n ∷ ns) = ns

-- a site below the place with this path, which is written from its end
abbrev pub below : List ℕ → List ℕ × ℕ → List ℕ × ℕ
below path s = (reverse path ++ s.0, s.1)

-- what is still to be walked of the terms, where the arguments of symbols are walked, the innermost first
abbrev pub pending : List ℕ → List Frame → Terms → List (List ℕ × ℕ)
pending path [] ts = []
pending path (f ∷ fs) ts = map (below path) (sites_in_all f.next (first_terms f.left ts)) ++ pending (behind_first path) fs (terms_after f.left ts)
