-- Terms of a bank that calls hand on. No public contract speaks of them.
use Rattle.std.specs.Prelude.{ℕ, ◌<◌, List, [], ◌∷◌, length, map}
use Rattle.leo_terms.specs.Contents.{Contents}
use Rattle.leo_terms.specs.Tree.{Tree}
use Rattle.leo_para.specs.Places.{Place}

abbrev pub term_of : Place → Tree
term_of p = p.term

abbrev pub terms_of : List Place → List Tree
terms_of ps = map term_of ps

abbrev pub AreWithin : Contents → List ℕ → Type 0
AreWithin c [] = Unit {0}
AreWithin c (t ∷ ts) = (t < length c.terms) × AreWithin c ts
