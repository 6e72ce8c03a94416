-- What a bank may keep of results: each entry is right in the bank as it stands.
use Rattle.std.specs.Prelude.{ℕ, ◌≡◌, ◌<◌, List, length, slice_get, Some}
use Rattle.leo_terms.specs.declared.memo.Lift.{Lift}
use Rattle.leo_terms.specs.declared.memo.Put.{Put}
use Rattle.leo_terms.specs.Tree.{lifted}
use Rattle.leo_terms.specs.Contents.{Contents, IsTerm, tree_at, type_number}
use Rattle.leo_terms.specs.Normal.{IsNormalFormOf, IsExpansionOf, IsPut}

-- every entry of the table meets the condition
abbrev pub AllEntries : {K : Type 0} → (K → ℕ → Type 0) → List (K × ℕ) → Type 0
AllEntries {K} holds entries = (i : ℕ) (k : K) (r : ℕ) → slice_get entries i ≡ Some (k, r) → holds k r

-- the term r is the lifted one
pub record IsLifted (c : Contents) (k : Lift) (r : ℕ) : Type 0 where
  pub known : k.term < length c.terms
  pub made : IsTerm c r (type_number c k.term) (lifted k.from k.by (tree_at c k.term))

-- the term r is the one with the other put in
pub record IsPutIn (c : Contents) (k : Put) (r : ℕ) : Type 0 where
  pub known : k.term < length c.terms
  pub put_known : k.put < length c.terms
  pub made : IsPut c c k.term k.index k.put r

-- the term r is the normal form of t
pub record IsNormalized (c : Contents) (t r : ℕ) : Type 0 where
  pub known : t < length c.terms
  pub made : IsNormalFormOf c c t r

-- the term r is the eta-long form of t
pub record IsExpanded (c : Contents) (t r : ℕ) : Type 0 where
  pub known : t < length c.terms
  pub made : IsExpansionOf c c t r

-- all that is kept is right
pub record AreRight (c : Contents) (lifts : List (Lift × ℕ)) (puts : List (Put × ℕ)) (expansions normals : List (ℕ × ℕ)) : Type 0 where
  pub lifts_right : AllEntries (IsLifted c) lifts
  pub puts_right : AllEntries (IsPutIn c) puts
  pub expansions_right : AllEntries (IsExpanded c) expansions
  pub normals_right : AllEntries (IsNormalized c) normals
