-- The literals of a paramodulant, by number and as trees.
use Rattle.std.proofs.Common.{ℕ, zero, suc, ◌≡◌, ◌∙◌, ◌+◌, ◌-◌, ◌<◌, ◌≤◌, Bool, false, List, [], ◌∷◌, ◌++◌, length, map, take, drop, slice_get, slice_index_or, Option, Some, None, refl, sym, ap, arith}
use Rattle.std.specs.Prelude.{IsSomeAnd}
use Rattle.std.specs.Bool.{Decides}
use Rattle.std.proofs.lemmas.List.{map-append}
use Rattle.std.proofs.lemmas.Bool.Decides.{Decides-like}
use Rattle.leo_terms.specs.Tree.{Tree}
use Rattle.leo_terms.specs.Contents.{Contents, IsBank, tree_at}
use Rattle.leo_clause.specs.declared.clause.Lit.{Lit}
use Rattle.leo_clause.specs.declared.record.Side.{Side}
use Rattle.leo_clause.specs.declared.record.Side.TheVariants.{Left, Right}
use Rattle.leo_clause.specs.Trees.{Literal, literal_at}
use Rattle.leo_clause.specs.Typed.{AreLiteralsOf}
use Rattle.leo_kernel.specs.Shapes.{side_of, other_side_of, unequal}
use Rattle.leo_kernel.specs.ByNumber.{side_number, other_side_number}
use Rattle.leo_kernel.specs.Conditions.{LeadsTo}
use Rattle.leo_kernel.specs.Conclusions.{with_literals, without}
use Rattle.leo_kernel.specs.Places.{subterm, replaced_in}
use Rattle.leo_kernel.specs.Moved.{joined}
use Rattle.leo_kernel.proofs.TypedLits.{no, not-both}
use Rattle.leo_kernel.proofs.Clauses.{lits-append, lits-placed, map-placed, lits-same}
use Rattle.leo_kernel.proofs.Lists.{get-index, get-map, get-none, length-map}
use Rattle.leo_kernel.proofs.MovedTerms.{behind}

some-value : {X : Type 0} {x y : X} → Some x ≡ Some y → x ≡ y
some-value e = cc

-- lists
without-length : {X : Type 0} (xs : List X) (i : ℕ) → i < length xs → suc (length (take i xs ++ ([] ++ drop (suc i) xs))) ≡ length xs
without-length [] i l = absurd (omega arith)
without-length (x ∷ xs) zero l = refl
without-length (x ∷ xs) (suc i) l = ap suc (without-length xs i (omega arith))

-- the item that was put in a place
placed-at : {X : Type 0} (xs : List X) (j : ℕ) (x : X) (ys : List X) → j < length xs → slice_get ((take j xs ++ ((x ∷ []) ++ drop (suc j) xs)) ++ ys) j ≡ Some x
placed-at [] j x ys l = absurd (omega arith)
placed-at (z ∷ xs) zero x ys l = refl
placed-at (z ∷ xs) (suc j) x ys l = placed-at xs j x ys (omega arith)

item-behind : {X : Type 0} (front xs : List X) (j n : ℕ) (x : X) (ys : List X) → j < length xs → n ≡ length front + j → slice_get (front ++ ((take j xs ++ ((x ∷ []) ++ drop (suc j) xs)) ++ ys)) n ≡ Some x
item-behind front xs j n x ys l e = rw e (behind front ((take j xs ++ ((x ∷ []) ++ drop (suc j) xs)) ++ ys) j ∙ placed-at xs j x ys l)

pub side-reads : (c : Contents) (s : Side) (k : Lit) → tree_at c (side_number s k) ≡ side_of s (literal_at c k)
side-reads c Left k = refl
side-reads c Right k = refl

pub other-reads : (c : Contents) (s : Side) (k : Lit) → tree_at c (other_side_number s k) ≡ other_side_of s (literal_at c k)
other-reads c Left k = refl
other-reads c Right k = refl

pub other-within : (c : Contents) (s : Side) (k : Lit) → (k.left < length c.terms) × (k.right < length c.terms) → other_side_number s k < length c.terms
other-within c Left k h = h.1
other-within c Right k h = h.0

pub last-reads : (c : Contents) (l r : ℕ) (s : Tree) → tree_at c l ≡ s → literal_at c (record { pos = false; left = l; right = r }) ≡ unequal s (tree_at c r)
last-reads c l r s e = rw e refl

-- literals of a bank against those of a paramodulant, where the target's are moved already
module _ (c : Contents) (b : IsBank c) (source target lits : List Lit) (i j : ℕ) (place : i < length source) (target_place : j < length target) (hs : AreLiteralsOf c source) (ht : AreLiteralsOf c target) (hl : AreLiteralsOf c lits) where
  literals_joined : (new last : Literal) → List Literal
  literals_joined new last = without (map (literal_at c) source) i ++ (with_literals (map (literal_at c) target) j (new ∷ []) ++ last ∷ [])

  joined-within : (new last : Lit) → (new.left < length c.terms) × (new.right < length c.terms) → (last.left < length c.terms) × (last.right < length c.terms) → AreLiteralsOf c (joined source i target j new last)
  joined-within new last p q =
      lits-append c (take i source ++ ([] ++ drop (suc i) source)) ((take j target ++ ((new ∷ []) ++ drop (suc j) target)) ++ last ∷ []) (lits-placed c i source [] hs tt)
      (lits-append c (take j target ++ ((new ∷ []) ++ drop (suc j) target)) (last ∷ []) (lits-placed c j target (new ∷ []) ht (p.0, p.1, tt)) (q.0, q.1, tt))

  joined-reads : (new last : Lit) → map (literal_at c) (joined source i target j new last) ≡ without (map (literal_at c) source) i ++ (with_literals (map (literal_at c) target) j (literal_at c new ∷ []) ++ literal_at c last ∷ [])
  joined-reads new last =
      map-append (literal_at c) (take i source ++ ([] ++ drop (suc i) source)) ((take j target ++ ((new ∷ []) ++ drop (suc j) target)) ++ last ∷ [])
      ∙ rw (map-placed c i source [], map-append (literal_at c) (take j target ++ ((new ∷ []) ++ drop (suc j) target)) (last ∷ []), map-placed c j target (new ∷ [])) refl

  pub joined-decides : (new last : Lit) (x y : Literal) → (new.left < length c.terms) × (new.right < length c.terms) → (last.left < length c.terms) × (last.right < length c.terms) →
      literal_at c new ≡ x → literal_at c last ≡ y → (r : Bool) → Decides r (lits ≡ joined source i target j new last) →
      Decides r (map (literal_at c) lits ≡ without (map (literal_at c) source) i ++ (with_literals (map (literal_at c) target) j (x ∷ []) ++ y ∷ []))
  joined-decides new last x y p q e f r d =
      rw (← e, ← f)
      (Decides-like r
      (λ h. ap (map (literal_at c)) h ∙ joined-reads new last)
      (λ h. lits-same c b lits (joined source i target j new last) hl (joined-within new last p q) (h ∙ sym (joined-reads new last)))
      d)

  module _ (n : ℕ) (at : n ≡ (length source - 1) + j) (x y : Literal) (h : map (literal_at c) lits ≡ without (map (literal_at c) source) i ++ (with_literals (map (literal_at c) target) j (x ∷ []) ++ y ∷ [])) where
    there : slice_get (map (literal_at c) lits) n ≡ Some x
    there =
        let l : j < length (map (literal_at c) target) = rw (length-map (literal_at c) target) target_place in
        let p : i < length (map (literal_at c) source) = rw (length-map (literal_at c) source) place in
        let s = without-length (map (literal_at c) source) i p in
        let m = length-map (literal_at c) source in
        rw h (item-behind (without (map (literal_at c) source) i) (map (literal_at c) target) j n x (y ∷ []) l (omega arith))

    item-is : (new : Lit) → n < length lits → new ≡ slice_index_or lits n new → literal_at c new ≡ x
    item-is new l e = some-value (sym (get-map (literal_at c) lits n ∙ rw (get-index lits n new l e) refl) ∙ there)

    item-missing : length lits ≤ n → ⊥
    item-missing l = none-some x (sym (get-map (literal_at c) lits n ∙ rw (get-none lits n l) refl) ∙ there)
      where
        none-some : (x : Literal) → None ≡ Some x → ⊥
        none-some x e = cc

-- what stands there
leads-option : {X : Type 0} (o : Option X) → IsSomeAnd o (λ s. Unit {0}) → (t : X) × (o ≡ Some t)
leads-option None h = absurd h
leads-option (Some t) h = (t, refl)

pub leads-to : (path : List ℕ) (s : Tree) → LeadsTo path s → (t : Tree) × (subterm path s ≡ Some t)
leads-to path s h = leads-option (subterm path s) h

-- the same by what stands at the place and at the path
module _ (c : Contents) (b : IsBank c) (source target lits : List Lit) (i j : ℕ) (place : i < length source) (target_place : j < length target) (hs : AreLiteralsOf c source) (ht : AreLiteralsOf c target) (hl : AreLiteralsOf c lits)
    (l : Lit) (s side : Side) (path : List ℕ) (old : Lit) (is : old ≡ slice_index_or target j old) where
  old-at : slice_get (map (literal_at c) target) j ≡ Some (literal_at c old)
  old-at = get-map (literal_at c) target j ∙ rw (get-index target j old target_place is) refl

  pub old-leads : IsSomeAnd (slice_get (map (literal_at c) target) j) (λ k. LeadsTo path (side_of side k)) → LeadsTo path (side_of side (literal_at c old))
  old-leads h = rw old-at at h

  pub joins-decide : (right : ℕ) → Some (tree_at c right) ≡ subterm path (side_of side (literal_at c old)) → (new last : Lit) → (new.left < length c.terms) × (new.right < length c.terms) → (last.left < length c.terms) × (last.right < length c.terms) →
      literal_at c new ≡ replaced_in side path (other_side_of s (literal_at c l)) (literal_at c old) → literal_at c last ≡ unequal (side_of s (literal_at c l)) (tree_at c right) →
      (r : Bool) → Decides r (lits ≡ joined source i target j new last) →
      Decides r (IsSomeAnd (slice_get (map (literal_at c) target) j) (λ k. IsSomeAnd (subterm path (side_of side k)) (λ t. map (literal_at c) lits ≡ without (map (literal_at c) source) i ++ (with_literals (map (literal_at c) target) j (replaced_in side path (other_side_of s (literal_at c l)) k ∷ []) ++ unequal (side_of s (literal_at c l)) t ∷ []))))
  joins-decide right e new last p q f g r d =
      rw (old-at, ← e) (joined-decides c b source target lits i j place target_place hs ht hl new last _ _ p q f g r d)

  pub joins-other : IsSomeAnd (slice_get (map (literal_at c) target) j) (λ k. LeadsTo path (side_of side k)) → (n : ℕ) → n ≡ (length source - 1) + j →
      ((t : Tree) → map (literal_at c) lits ≡ without (map (literal_at c) source) i ++ (with_literals (map (literal_at c) target) j (replaced_in side path (other_side_of s (literal_at c l)) (literal_at c old) ∷ []) ++ unequal (side_of s (literal_at c l)) t ∷ []) → ⊥) →
      Decides false (IsSomeAnd (slice_get (map (literal_at c) target) j) (λ k. IsSomeAnd (subterm path (side_of side k)) (λ t. map (literal_at c) lits ≡ without (map (literal_at c) source) i ++ (with_literals (map (literal_at c) target) j (replaced_in side path (other_side_of s (literal_at c l)) k ∷ []) ++ unequal (side_of s (literal_at c l)) t ∷ []))))
  joins-other h n e f =
      let found = leads-to path (side_of side (literal_at c old)) (old-leads h) in
      rw (old-at, found.1) (no (f found.0))

  module _ (h : IsSomeAnd (slice_get (map (literal_at c) target) j) (λ k. LeadsTo path (side_of side k))) (n : ℕ) (at : n ≡ (length source - 1) + j) where
    pub joins-short : length lits ≤ n →
        Decides false (IsSomeAnd (slice_get (map (literal_at c) target) j) (λ k. IsSomeAnd (subterm path (side_of side k)) (λ t. map (literal_at c) lits ≡ without (map (literal_at c) source) i ++ (with_literals (map (literal_at c) target) j (replaced_in side path (other_side_of s (literal_at c l)) k ∷ []) ++ unequal (side_of s (literal_at c l)) t ∷ []))))
    joins-short m = joins-other h n at (λ t e. item-missing c b source target lits i j place target_place hs ht hl n at _ _ e m)

    pub joins-differ : (new : Lit) → n < length lits → new ≡ slice_index_or lits n new → (q : Bool) → Decides q (literal_at c new ≡ replaced_in side path (other_side_of s (literal_at c l)) (literal_at c old)) → q ≡ false →
        Decides false (IsSomeAnd (slice_get (map (literal_at c) target) j) (λ k. IsSomeAnd (subterm path (side_of side k)) (λ t. map (literal_at c) lits ≡ without (map (literal_at c) source) i ++ (with_literals (map (literal_at c) target) j (replaced_in side path (other_side_of s (literal_at c l)) k ∷ []) ++ unequal (side_of s (literal_at c l)) t ∷ []))))
    joins-differ new m e q d f = joins-other h n at (λ t k. not-both q d f (item-is c b source target lits i j place target_place hs ht hl n at _ _ k new m e))

    pub joins-nowhere : None ≡ subterm path (side_of side (literal_at c old)) →
        Decides false (IsSomeAnd (slice_get (map (literal_at c) target) j) (λ k. IsSomeAnd (subterm path (side_of side k)) (λ t. map (literal_at c) lits ≡ without (map (literal_at c) source) i ++ (with_literals (map (literal_at c) target) j (replaced_in side path (other_side_of s (literal_at c l)) k ∷ []) ++ unequal (side_of s (literal_at c l)) t ∷ []))))
    joins-nowhere e = rw (old-at, ← e) (no (λ x. x))
