-- Kept results stay right in a bank that grew, and with one more.
use Rattle.std.proofs.Common.{ℕ, zero, suc, ◌≡◌, ◌<◌, ◌⊎◌, Bool, true, false, cond, List, [], ◌∷◌, length, slice_get, Option, Some, None, refl, sym, ◌∙◌, ap, subst, inl, inr, arith}
use Rattle.std.specs.Bool.{if◌then◌else◌}
use Rattle.std.specs.Map.{lookup}
use Rattle.std.specs.Option.{IfSome}
use Rattle.indexmap.specs.IndexMap.{insert_entry}
use Rattle.leo_terms.specs.declared.memo.Lift.{Lift}
use Rattle.leo_terms.specs.declared.memo.Put.{Put}
use Rattle.leo_terms.specs.Tree.{Tree, lifted}
use Rattle.leo_terms.specs.Contents.{Contents, IsTerm, Grows, tree_at, type_number}
use Rattle.leo_terms.specs.Normal.{IsFormOf, IsPut}
use Rattle.leo_terms.specs.Memo.{AllEntries, IsLifted, IsPutIn, IsNormalized, IsExpanded, AreRight}
use Rattle.leo_terms.proofs.Growth.{IsKept-length, tree-keeps, type_number-keeps}
use Rattle.leo_terms.proofs.Rebuild.{IsTerm-keeps}
use Rattle.leo_terms.proofs.PutLemmas.{IsPut-grows}
use Rattle.leo_terms.proofs.ExpandLemmas.{IsFormOf-grows}

module _ {K : Type 0} where
  lookup-entry : (test : K → Bool) (es : List (K × ℕ)) (r : ℕ) → lookup test es ≡ Some r → (i : ℕ) × (k : K) × (slice_get es i ≡ Some (k, r)) × (test k ≡ true)
  lookup-entry test [] r h = absurd (cc)
  lookup-entry test (e ∷ es) r h = at (test e.0) refl h (λ k. lookup-entry test es r k)
    where
      at : (b : Bool) → test e.0 ≡ b → cond b (Some e.1) (lookup test es) ≡ Some r → (lookup test es ≡ Some r → (i : ℕ) × (k : K) × (slice_get es i ≡ Some (k, r)) × (test k ≡ true)) → (i : ℕ) × (k : K) × (slice_get (e ∷ es) i ≡ Some (k, r)) × (test k ≡ true)
      at true q h later = let f : e.1 ≡ r = cc in (0, e.0, rw (← f) refl, q)
      at false q h later = let w = later h in (suc w.0, w.1, w.2, w.3)

  pub found : (test : K → Bool) (es : List (K × ℕ)) (o : Option ℕ) → o ≡ lookup test es → IfSome o (λ r. (i : ℕ) × (k : K) × (slice_get es i ≡ Some (k, r)) × (test k ≡ true))
  found test es None e = tt
  found test es (Some r) e = lookup-entry test es r (sym e)

  pairs : (p q : K × ℕ) → Some p ≡ Some q → p ≡ q
  pairs p q h = cc

  same_entry : (k k' : K) (v r : ℕ) → ◌≡◌ {A = Option (K × ℕ)} (Some (k, v)) (Some (k', r)) → (k ≡ k') × (v ≡ r)
  same_entry k k' v r h =
      let p : K × ℕ = (k, v) in
      let q : K × ℕ = (k', r) in
      let e = pairs p q h in
      (ap (λ (p : K × ℕ). p.0) e, ap (λ (p : K × ℕ). p.1) e)

  pub insert-entry : (eq : K → K → Bool) → ((x : K) → eq x x ≡ true) → (es : List (K × ℕ)) (k : K) (v i : ℕ) (k' : K) (r : ℕ) → slice_get (insert_entry eq es k v) i ≡ Some (k', r) → (slice_get es i ≡ Some (k', r)) ⊎ ((r ≡ v) × (eq k k' ≡ true))
  insert-entry eq same [] k v zero k' r h =
      let p = same_entry k k' v r h in
      inr (sym p.1, rw (← p.0) (same k))
  insert-entry eq same [] k v (suc i) k' r h = absurd (cc)
  insert-entry eq same (e ∷ es) k v i k' r h = at (eq k e.0) refl i h (λ j q. insert-entry eq same es k v j k' r q)
    where
      at : (b : Bool) → eq k e.0 ≡ b → (i : ℕ) → slice_get (if b then (e.0, v) ∷ es else e ∷ insert_entry eq es k v) i ≡ Some (k', r) → ((j : ℕ) → slice_get (insert_entry eq es k v) j ≡ Some (k', r) → (slice_get es j ≡ Some (k', r)) ⊎ ((r ≡ v) × (eq k k' ≡ true))) → (slice_get (e ∷ es) i ≡ Some (k', r)) ⊎ ((r ≡ v) × (eq k k' ≡ true))
      at true q zero h later =
          let p = same_entry e.0 k' v r h in
          inr (sym p.1, rw (← p.0) q)
      at true q (suc i) h later = inl h
      at false q zero h later = inl h
      at false q (suc i) h later = later i h

module _ (c d : Contents) (g : Grows c d) where
  -- what was made of terms of the bank before is made of them as they stand in the new one
  pub IsPut-since : (t k s r : ℕ) → t < length c.terms → s < length c.terms → IsPut c d t k s r → IsPut d d t k s r
  IsPut-since t k s r l m p =
      let e : tree_at d t ≡ tree_at c t = tree-keeps c d g.old_sound g.keeps t l in
      let f : tree_at d s ≡ tree_at c s = tree-keeps c d g.old_sound g.keeps s m in
      let i : type_number d t ≡ type_number c t = type_number-keeps c d g.keeps t l in
      let j : type_number d s ≡ type_number c s = type_number-keeps c d g.keeps s m in
      record {
        within = p.within;
        type_is = p.type_is ∙ sym i;
        value = rw (e, f) p.value;
        reduces = rw (e, f) p.reduces;
        normal = rw e p.normal;
        neutral = rw (e, f, i, j) p.neutral;
      }

  pub IsFormOf-since : {form : Tree → Tree} (t r : ℕ) → t < length c.terms → IsFormOf form c d t r → IsFormOf form d d t r
  IsFormOf-since t r l p =
      let e : tree_at d t ≡ tree_at c t = tree-keeps c d g.old_sound g.keeps t l in
      let i : type_number d t ≡ type_number c t = type_number-keeps c d g.keeps t l in
      record {
        within = p.within;
        type_is = p.type_is ∙ sym i;
        value = rw e p.value;
        reduces = rw e p.reduces;
        normal = p.normal;
      }

  pub IsTerm-since : (t from by r : ℕ) → t < length c.terms → IsTerm d r (type_number c t) (lifted from by (tree_at c t)) → IsTerm d r (type_number d t) (lifted from by (tree_at d t))
  IsTerm-since t from by r l p = rw (type_number-keeps c d g.keeps t l, tree-keeps c d g.old_sound g.keeps t l) p

  IsLifted-grows : (k : Lift) (r : ℕ) → IsLifted c k r → IsLifted d k r
  IsLifted-grows k r h =
      let l = IsKept-length c.terms d.terms g.keeps.terms in
      let w = h.known in
      record {
        known = omega arith;
        made = rw (type_number-keeps c d g.keeps k.term h.known, tree-keeps c d g.old_sound g.keeps k.term h.known) (IsTerm-keeps c d g r _ _ h.made);
      }

  IsPutIn-grows : (k : Put) (r : ℕ) → IsPutIn c k r → IsPutIn d k r
  IsPutIn-grows k r h =
      let l = IsKept-length c.terms d.terms g.keeps.terms in
      let w = h.known in
      let u = h.put_known in
      record {
        known = omega arith;
        put_known = omega arith;
        made = IsPut-since k.term k.index k.put r h.known h.put_known (IsPut-grows c c d g k.term k.index k.put r h.made);
      }

  IsNormalized-grows : (t r : ℕ) → IsNormalized c t r → IsNormalized d t r
  IsNormalized-grows t r h =
      let l = IsKept-length c.terms d.terms g.keeps.terms in
      let w = h.known in
      record { known = omega arith; made = IsFormOf-since t r h.known (IsFormOf-grows c c d g t r h.made) }

  IsExpanded-grows : (t r : ℕ) → IsExpanded c t r → IsExpanded d t r
  IsExpanded-grows t r h =
      let l = IsKept-length c.terms d.terms g.keeps.terms in
      let w = h.known in
      record { known = omega arith; made = IsFormOf-since t r h.known (IsFormOf-grows c c d g t r h.made) }

  pub AreRight-grows : (l : List (Lift × ℕ)) (p : List (Put × ℕ)) (x n : List (ℕ × ℕ)) → AreRight c l p x n → AreRight d l p x n
  AreRight-grows l p x n h = record {
    lifts_right = λ i k r e. IsLifted-grows k r (h.lifts_right i k r e);
    puts_right = λ i k r e. IsPutIn-grows k r (h.puts_right i k r e);
    expansions_right = λ i t r e. IsExpanded-grows t r (h.expansions_right i t r e);
    normals_right = λ i t r e. IsNormalized-grows t r (h.normals_right i t r e);
  }

-- a table with one more result
module _ (c : Contents) (l : List (Lift × ℕ)) (p : List (Put × ℕ)) (x n : List (ℕ × ℕ)) (h : AreRight c l p x n) where
  abbrev pub Gains : {K : Type 0} → (K → K → Bool) → List (K × ℕ) → List (K × ℕ) → K → ℕ → Type 0
  Gains {K} eq old new key r = (i : ℕ) (k : K) (v : ℕ) → slice_get new i ≡ Some (k, v) → (slice_get old i ≡ Some (k, v)) ⊎ ((v ≡ r) × (eq key k ≡ true))

  gained : {K : Type 0} (P : K → ℕ → Type 0) (eq : K → K → Bool) → ((a b : K) → eq a b ≡ true → a ≡ b) → (old new : List (K × ℕ)) (key : K) (r : ℕ) → AllEntries P old → P key r → Gains eq old new key r → AllEntries P new
  gained P eq same old new key r all now gains i k v e =
      elim (gains i k v e) [
        | inl g ↦ all i k v g
        | inr g ↦ (let f = same key k g.1 in subst (λ (w : ℕ). P k w) (sym g.0) (subst (λ (j : _). P j r) f now))
      ]

  pub AreRight-lift : (eq : Lift → Lift → Bool) → ((a b : Lift) → eq a b ≡ true → a ≡ b) → (new : List (Lift × ℕ)) (key : Lift) (r : ℕ) → IsLifted c key r → Gains eq l new key r → AreRight c new p x n
  AreRight-lift eq same new key r now gains = record {
    lifts_right = gained (IsLifted c) eq same l new key r h.lifts_right now gains;
    puts_right = h.puts_right;
    expansions_right = h.expansions_right;
    normals_right = h.normals_right;
  }

  pub AreRight-put : (eq : Put → Put → Bool) → ((a b : Put) → eq a b ≡ true → a ≡ b) → (new : List (Put × ℕ)) (key : Put) (r : ℕ) → IsPutIn c key r → Gains eq p new key r → AreRight c l new x n
  AreRight-put eq same new key r now gains = record {
    lifts_right = h.lifts_right;
    puts_right = gained (IsPutIn c) eq same p new key r h.puts_right now gains;
    expansions_right = h.expansions_right;
    normals_right = h.normals_right;
  }

  pub AreRight-normal : (eq : ℕ → ℕ → Bool) → ((a b : ℕ) → eq a b ≡ true → a ≡ b) → (new : List (ℕ × ℕ)) (t r : ℕ) → IsNormalized c t r → Gains eq n new t r → AreRight c l p x new
  AreRight-normal eq same new t r now gains = record {
    lifts_right = h.lifts_right;
    puts_right = h.puts_right;
    expansions_right = h.expansions_right;
    normals_right = gained (IsNormalized c) eq same n new t r h.normals_right now gains;
  }

  pub AreRight-expansion : (eq : ℕ → ℕ → Bool) → ((a b : ℕ) → eq a b ≡ true → a ≡ b) → (new : List (ℕ × ℕ)) (t r : ℕ) → IsExpanded c t r → Gains eq x new t r → AreRight c l p new n
  AreRight-expansion eq same new t r now gains = record {
    lifts_right = h.lifts_right;
    puts_right = h.puts_right;
    expansions_right = gained (IsExpanded c) eq same x new t r h.expansions_right now gains;
    normals_right = h.normals_right;
  }

  pub AreRight-fewer : (l' : List (Lift × ℕ)) (p' : List (Put × ℕ)) (x' : List (ℕ × ℕ)) → ((i : ℕ) (k : Lift) (r : ℕ) → slice_get l' i ≡ Some (k, r) → slice_get l i ≡ Some (k, r)) → ((i : ℕ) (k : Put) (r : ℕ) → slice_get p' i ≡ Some (k, r) → slice_get p i ≡ Some (k, r)) → ((i k r : ℕ) → slice_get x' i ≡ Some (k, r) → slice_get x i ≡ Some (k, r)) → AreRight c l' p' x' n
  AreRight-fewer l' p' x' f g j = record {
    lifts_right = λ i k r e. h.lifts_right i k r (f i k r e);
    puts_right = λ i k r e. h.puts_right i k r (g i k r e);
    expansions_right = λ i k r e. h.expansions_right i k r (j i k r e);
    normals_right = h.normals_right;
  }

  pub known_put-right : (eq : Put → Put → Bool) → ((a b : Put) → eq a b ≡ true → a ≡ b) → (key : Put) (o : Option ℕ) → IfSome o (λ r. (i : ℕ) × (k : Put) × (slice_get p i ≡ Some (k, r)) × (eq key k ≡ true)) → IfSome o (λ r. (key.term < length c.terms) × (key.put < length c.terms) × IsPut c c key.term key.index key.put r)
  known_put-right eq same key None f = tt
  known_put-right eq same key (Some r) f =
      let e = same key f.1 f.3 in
      let w = h.puts_right f.0 f.1 r f.2 in
      subst (λ (j : Put). (j.term < length c.terms) × (j.put < length c.terms) × IsPut c c j.term j.index j.put r) (sym e) (w.known, w.put_known, w.made)

-- nothing is kept
pub AreRight-none : (c : Contents) (l : List (Lift × ℕ)) (p : List (Put × ℕ)) (x n : List (ℕ × ℕ)) → l ≡ [] → p ≡ [] → x ≡ [] → n ≡ [] → AreRight c l p x n
AreRight-none c l p x n e f j g = record {
  lifts_right = λ i k r h. absurd (let q = rw e at h in cc);
  puts_right = λ i k r h. absurd (let q = rw f at h in cc);
  expansions_right = λ i k r h. absurd (let q = rw j at h in cc);
  normals_right = λ i k r h. absurd (let q = rw g at h in cc);
}
