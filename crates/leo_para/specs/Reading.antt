-- What the calls that look for places say to one another. No public contract speaks of it.
use Rattle.std.specs.Prelude.{ℕ, ◌<◌, List, [], ◌∷◌, ◌++◌, length}
use Rattle.leo_terms.specs.Contents.{Contents, HasTypeBelow, connective, tree_at}
use Rattle.leo_para.specs.declared.heads.Head.{Head}
use Rattle.leo_para.specs.declared.heads.Head.TheVariants as head_of
use Rattle.leo_para.specs.declared.spots.Spot.{Spot}
use Rattle.leo_para.specs.Spines.{Top, some_variable, one_symbol, one_constant, other_top}
use Rattle.leo_para.specs.Places.{Place}

-- a head of a bank
abbrev pub top_at : Contents → Head → Top
top_at c head_of.Variable = some_variable
top_at c (head_of.Symbol s) = one_symbol s
top_at c (head_of.Constant o) = one_constant (connective c o)
top_at c head_of.Other = other_top

abbrev pub IsHeadOf : Contents → Head → Type 0
IsHeadOf c (head_of.Constant o) = HasTypeBelow (length c.types) o
IsHeadOf c head_of.Variable = Unit {0}
IsHeadOf c (head_of.Symbol s) = Unit {0}
IsHeadOf c head_of.Other = Unit {0}

-- a place in a term of a bank
abbrev pub place_at : Contents → Spot → Place
place_at c s = record { path = s.path; term = tree_at c s.term }

-- a place in a term that is at a path itself
abbrev pub behind : List ℕ → Place → Place
behind path p = record { path = path ++ p.path; term = p.term }

abbrev pub AreSpotsOf : Contents → List Spot → Type 0
AreSpotsOf c [] = Unit {0}
AreSpotsOf c (s ∷ ss) = (s.term < length c.terms) × AreSpotsOf c ss
