-- A search to which something was added.
use Rattle.std.specs.Prelude.{ℕ, suc, ◌≡◌, ◌≤◌, List, [], ◌∷◌, ◌++◌, length}
use Rattle.leo_clause.specs.declared.clause.Clause.{Clause}
use Rattle.leo_passive.specs.Entries.{Entry}
use Rattle.leo_turn.specs.declared.search.Search.{Search}

-- the list with more behind it
pub record IsLonger {X : Type 0} (xs ys : List X) : Type 0 where
  pub more : List X
  pub is : ys ≡ xs ++ more

-- the entries have the numbers from n on
abbrev pub AreNext : ℕ → List Entry → Type 0
AreNext n [] = Unit {0}
AreNext n (e ∷ es) = (e.number ≡ n) × AreNext (suc n) es

-- all lists grew at their ends at most, each clause that was kept is passive, and there are not too many of them
pub record Grows (old new : Search) : Type 0 where
  pub hyps : new.hyps ≡ old.hyps
  pub abbr : IsLonger old.abbr.items new.abbr.items
  pub abbr_at : IsLonger old.abbr_at new.abbr_at
  pub lines : IsLonger old.lines new.lines
  pub at : IsLonger old.at new.at
  pub fronts : IsLonger old.fronts new.fronts
  pub active : new.active ≡ old.active
  pub turns : new.turns ≡ old.turns
  pub depth : new.depth ≡ old.depth
  pub weight : new.weight ≡ old.weight
  pub clauses : List Clause
  pub entries : List Entry
  pub kept : new.kept ≡ old.kept ++ clauses
  pub passive : new.passive ≡ old.passive ++ entries
  pub numbered : AreNext (length old.kept) entries
  pub as_many : length entries ≡ length clauses
  pub few : length old.kept ≤ 200000 → length new.kept ≤ 200000
