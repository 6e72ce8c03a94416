-- Terms that stand ready to become parts of others.
use Rattle.std.specs.Prelude.{ℕ, ◌≡◌, ◌<◌, List, [], ◌∷◌, length, slice_get, Some}
use Rattle.leo_q0.specs.Terms.{base}
use Rattle.leo_terms.specs.Tree.{IsBoundAt}
use Rattle.leo_terms.specs.Contents.{Contents, tree_at}

-- a term of the bank whose loose indices are things
pub record IsReady (c : Contents) (t : ℕ) : Type 0 where
  pub within : t < length c.terms
  pub indices : (k : ℕ) → IsBoundAt k (base 1) (tree_at c t)

abbrev pub AreReady : Contents → List ℕ → Type 0
AreReady c [] = Unit {0}
AreReady c (t ∷ ts) = IsReady c t × AreReady c ts

-- each of these numbers is a symbol of the bank
abbrev pub AreSymbols : Contents → List ℕ → Type 0
AreSymbols c symbols = (n s : ℕ) → slice_get symbols n ≡ Some s → s < length c.symbols
