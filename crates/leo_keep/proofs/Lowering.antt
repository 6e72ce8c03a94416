-- The search for the least number of a clause of which something holds: one number, some numbers, a group, all groups.
use Rattle.std.proofs.Common.{ℕ, zero, suc, ◌≡◌, ◌∙◌, ◌<◌, ◌≤◌, ◌+◌, List, [], ◌∷◌, length, map, slice_get, Option, Some, None, MatchOption, refl, sym, ap, subst, inl, inr, arith}
use Rattle.std.proofs.lemmas.Bool.{cases_eq}
use Rattle.std.proofs.lemmas.List.{length-map}
use Rattle.std.proofs.lemmas.Option.{slice_get_within}
use Rattle.leo_terms.specs.Contents.{Contents, IsBank}
use Rattle.leo_clause.specs.declared.clause.Clause.{Clause}
use Rattle.leo_clause.specs.declared.clause.Lit.{Lit}
use Rattle.leo_clause.specs.Trees.{ClauseTree, clause_at, literal_at}
use Rattle.leo_keep.specs.declared.fronts.Front.{Front}
use Rattle.leo_keep.specs.declared.groups.Group.{Group}
use Rattle.leo_keep.specs.Fronts.{AreFronts, IsFront}
use Rattle.leo_keep.proofs.Fronting.{front-at, front-below, front-within, fronts-length}
use Rattle.leo_keep.proofs.Numbers.{get-from_map, get-mapped, same-item}
use Rattle.leo_keep.proofs.Clauses.{heads-same}
use Rattle.leo_keep.specs.Heads.{NeverAmong}
use Rattle.leo_keep.specs.Groups.{AreFrontsIn, AreGrouped, FailsAt, HoldsAt, IsLeastAmong, IsLeastInGroup, IsLeastInGroups, IsLower}
use Rattle.leo_keep.specs.Outcomes.{HoldsOfNone, IsLeast}

within-none : {X : Type 0} (xs : List X) (n : ℕ) → slice_get xs n ≡ None → n < length xs → ⊥
within-none [] n e l = (let f : ⊥ = omega arith in f)
within-none (x ∷ xs) zero e l = (let f : ⊥ = cc in f)
within-none (x ∷ xs) (suc n) e l = within-none xs n e (omega arith)

module _ (P : ClauseTree → Type 0) (clauses : List ClauseTree) where
  lower-itself : (n : ℕ) → IsLower P clauses n n
  lower-itself n = record { lower = omega arith; found = inl refl }

  lower-next : (a b c : ℕ) → IsLower P clauses a b → IsLower P clauses b c → IsLower P clauses a c
  lower-next a b c h k = record {
    lower = (let x = h.lower in let y = k.lower in omega arith);
    found = elim k.found [
      | inl e ↦ elim h.found [
        | inl d ↦ inl (e ∙ d)
        | inr d ↦ inr (subst (HoldsAt P clauses) (sym e) d)
      ]
      | inr d ↦ inr d
    ];
  }

  lower-found : (n least : ℕ) → n < least → HoldsAt P clauses n → IsLower P clauses least n
  lower-found n least l h = record { lower = omega arith; found = inr h }

  -- one number
  not-below : (n m least : ℕ) → least ≤ n → m < least → m ≡ n → ⊥
  not-below n m least l k e = (let f : ⊥ = omega arith in f)

  one : (n i m : ℕ) → slice_get (n ∷ []) i ≡ Some m → m ≡ n
  one n zero m e = cc
  one n (suc i) m e = absurd (let f : ⊥ = cc in f)

  pub one-above : (n least : ℕ) → least ≤ n → IsLeastAmong P clauses (n ∷ []) 1 least least
  one-above n least l = record {
    is_lower = lower-itself least;
    none = λ i m j e k. absurd (not-below n m least l k (one n i m e));
  }

  pub one-fails : (n least : ℕ) → FailsAt P clauses n → IsLeastAmong P clauses (n ∷ []) 1 least least
  one-fails n least f = record {
    is_lower = lower-itself least;
    none = λ i m j e k. subst (FailsAt P clauses) (sym (one n i m e)) f;
  }

  pub one-holds : (n least : ℕ) → n < least → HoldsAt P clauses n → IsLeastAmong P clauses (n ∷ []) 1 least n
  one-holds n least l h = record {
    is_lower = lower-found n least l h;
    none = λ i m j e k. absurd (let d = one n i m e in let f : ⊥ = omega arith in f);
  }

  -- some numbers
  pub among-first : (numbers : List ℕ) (before : ℕ) → IsLeastAmong P clauses numbers 0 before before
  among-first numbers before = record { is_lower = lower-itself before; none = λ i n l e k. absurd (let f : ⊥ = omega arith in f) }

  same-number : (o : Option ℕ) (m n : ℕ) → o ≡ Some m → o ≡ Some n → m ≡ n
  same-number o m n e f = cc

  pub among-next : (numbers : List ℕ) (count before least after n : ℕ) → IsLeastAmong P clauses numbers count before least → slice_get numbers count ≡ Some n → IsLeastAmong P clauses (n ∷ []) 1 least after → IsLeastAmong P clauses numbers (count + 1) before after
  among-next numbers count before least after n h e g = record {
    is_lower = lower-next before least after h.is_lower g.is_lower;
    none = λ i m l d k.
        elim (cases_eq i count) [
          | inl s ↦ (let at : slice_get numbers count ≡ Some m = rw (← s) d in g.none 0 m (omega arith) (ap Some (same-number (slice_get numbers count) n m e at)) k)
          | inr s ↦ (let a = g.is_lower.lower in h.none i m (omega arith) d (omega arith))
        ];
  }

  -- a group
  pub group-numbers : (fronts : List (Option Front)) (group : Group) (before after : ℕ) → IsLeastAmong P clauses group.numbers.items (length group.numbers.items) before after → IsLeastInGroup P clauses fronts group before after
  group-numbers fronts group before after h = record {
    is_lower = h.is_lower;
    none = λ i n f e s d k. h.none i n (slice_get_within group.numbers.items i n e) e k;
  }

  pub group-fails : (fronts : List (Option Front)) (group : Group) (before : ℕ) → ((n : ℕ) (f : Front) → slice_get fronts n ≡ Some (Some f) → f.heads ≡ group.heads → FailsAt P clauses n) → IsLeastInGroup P clauses fronts group before before
  group-fails fronts group before h = record { is_lower = lower-itself before; none = λ i n f e s d k. h n f s d }

  -- all groups
  pub groups-first : (fronts : List (Option Front)) (groups : List Group) (before : ℕ) → IsLeastInGroups P clauses fronts groups 0 before before
  groups-first fronts groups before = record { is_lower = lower-itself before; none = λ p g i n f l e d s t k. absurd (let z : ⊥ = omega arith in z) }

  same-group : (o : Option Group) (g h : Group) → o ≡ Some g → o ≡ Some h → g ≡ h
  same-group o g h e f = cc

  pub groups-next : (fronts : List (Option Front)) (groups : List Group) (count before least after : ℕ) (group : Group) → IsLeastInGroups P clauses fronts groups count before least → slice_get groups count ≡ Some group → IsLeastInGroup P clauses fronts group least after → IsLeastInGroups P clauses fronts groups (count + 1) before after
  groups-next fronts groups count before least after group h e g = record {
    is_lower = lower-next before least after h.is_lower g.is_lower;
    none = λ p k i n f l a d s t m.
        elim (cases_eq p count) [
          | inl q ↦
              (let at : slice_get groups count ≡ Some k = rw (← q) a in
              let same : group ≡ k = same-group (slice_get groups count) group k e at in
              g.none i n f (rw same d) s (t ∙ ap (λ (x : Group). x.heads) (sym same)) m)
          | inr q ↦ (let b = g.is_lower.lower in h.none p k i n f (omega arith) a d s t (omega arith))
        ];
  }

  pub groups-all : (fronts : List (Option Front)) (groups : List Group) (count before after : ℕ) → length groups ≤ count → IsLeastInGroups P clauses fronts groups count before after → IsLeastInGroups P clauses fronts groups (length groups) before after
  groups-all fronts groups count before after l h = record { is_lower = h.is_lower; none = λ p g i n f k e d s t m. h.none p g i n f (omega arith) e d s t m }

  -- the end
  below-all : (fronts : List (Option Front)) (groups : List Group) (before after : ℕ) → AreGrouped fronts groups
      → IsLeastInGroups P clauses fronts groups (length groups) before after
      → ((n : ℕ) → n < length clauses → ((f : Front) → slice_get fronts n ≡ Some (Some f) → FailsAt P clauses n) → FailsAt P clauses n)
      → (n : ℕ) → n < after → FailsAt P clauses n
  below-all fronts groups before after grouped h fronted n l k e p =
      fronted n (slice_get_within clauses n k e) (λ f s. (let g = grouped n f s in h.none g.place g.group g.index n f (slice_get_within groups g.place g.group g.stands) g.stands g.has s (sym g.heads_are) l)) k e p

  pub found-none : (after : ℕ) → ((n : ℕ) → n < after → FailsAt P clauses n) → after ≡ length clauses → HoldsOfNone P clauses
  found-none after h e n k s p = h n (let l = slice_get_within clauses n k s in omega arith) k s p

  held-at : (n : ℕ) → IsLower P clauses (length clauses) n → n < length clauses → HoldsAt P clauses n
  held-at n h l =
      elim h.found [
        | inl e ↦ absurd (let f : ⊥ = omega arith in f)
        | inr k ↦ k
      ]

  pub found-least : (after n : ℕ) → IsLower P clauses (length clauses) after → ((n : ℕ) → n < after → FailsAt P clauses n) → n ≡ after → after < length clauses → IsLeast P clauses n
  found-least after n low h e l =
      let k = held-at after low l in
      subst (IsLeast P clauses) (sym e) (record { clause = k.clause; stands = k.stands; holds = k.holds; least = λ m j less s p. h m less j s p })

  pub found-end : (fronts : List (Option Front)) (groups : List Group) (after : ℕ) (o : Option ℕ) → AreGrouped fronts groups
      → IsLeastInGroups P clauses fronts groups (length groups) (length clauses) after
      → ((n : ℕ) → n < length clauses → ((f : Front) → slice_get fronts n ≡ Some (Some f) → FailsAt P clauses n) → FailsAt P clauses n)
      → MatchOption o (after ≡ length clauses) (λ n. (n ≡ after) × (after < length clauses))
      → MatchOption o (HoldsOfNone P clauses) (IsLeast P clauses)
  found-end fronts groups after None grouped h fronted m = found-none after (below-all fronts groups (length clauses) after grouped h fronted) m
  found-end fronts groups after (Some n) grouped h fronted m = found-least after n h.is_lower (below-all fronts groups (length clauses) after grouped h fronted) m.0 m.1

-- clauses of a bank
module _ (c : Contents) (ks : List Clause) (P : ClauseTree → Type 0) where
  pub at-holds : (n : ℕ) (k : Clause) → slice_get ks n ≡ Some k → P (clause_at c k) → HoldsAt P (map (clause_at c) ks) n
  at-holds n k e p = record { clause = clause_at c k; stands = get-mapped (clause_at c) ks n k e; holds = p }

  pub at-fails : (n : ℕ) (k : Clause) → slice_get ks n ≡ Some k → (P (clause_at c k) → ⊥) → FailsAt P (map (clause_at c) ks) n
  at-fails n k e f t s p = f (let same : clause_at c k ≡ t = same-item (slice_get (map (clause_at c) ks) n) (clause_at c k) t (get-mapped (clause_at c) ks n k e) s in subst P (sym same) p)

  pub at-fronts : (fs : List (Option Front)) → AreFronts c ks fs
      → ((k : Clause) → IsFront c k None → P (clause_at c k) → ⊥)
      → (n : ℕ) → n < length (map (clause_at c) ks) → ((f : Front) → slice_get fs n ≡ Some (Some f) → FailsAt P (map (clause_at c) ks) n) → FailsAt P (map (clause_at c) ks) n
  at-fronts fs h none n l some t s p =
      let g = get-from_map (clause_at c) ks n t s in
      let w : n < length fs = front-below c ks fs h n (slice_get_within ks n g.0 g.1) in
      go (slice_get fs n) refl g.0 g.1 w
    where
      go : (o : Option (Option Front)) → slice_get fs n ≡ o → (k : Clause) → slice_get ks n ≡ Some k → n < length fs → ⊥
      go None e k at w = (let f : ⊥ = within-none fs n e w in f)
      go (Some None) e k at w = none k (front-at c ks fs h n k None at e) (let same = same-item (slice_get (map (clause_at c) ks) n) (clause_at c k) t (get-mapped (clause_at c) ks n k at) s in subst P (sym same) p)
      go (Some (Some f)) e k at w = some f e t s p

  -- of what a front rules out for each clause that has it
  pub front-fails : (fs : List (Option Front)) → AreFronts c ks fs → (n : ℕ) (f : Front) → slice_get fs n ≡ Some (Some f)
      → ((k : Clause) → IsFront c k (Some f) → P (clause_at c k) → ⊥) → FailsAt P (map (clause_at c) ks) n
  front-fails fs h n f e not_one t s p =
      let g = get-from_map (clause_at c) ks n t s in
      not_one g.0 (front-at c ks fs h n g.0 (Some f) g.1 e) (subst P (sym g.2) p)

  -- the number that was found at the end
  pub found-kept : (fs : List (Option Front)) → AreFronts c ks fs → (groups : List Group) (count after : ℕ) (o : Option ℕ) → AreGrouped fs groups
      → IsLeastInGroups P (map (clause_at c) ks) fs groups count (length ks) after → length groups ≤ count
      → ((k : Clause) → IsFront c k None → P (clause_at c k) → ⊥)
      → MatchOption o (after ≡ length ks) (λ n. (n ≡ after) × (after < length ks))
      → MatchOption o (HoldsOfNone P (map (clause_at c) ks)) (IsLeast P (map (clause_at c) ks))
  found-kept fs h groups count after o grouped least l none m =
      found-end P (map (clause_at c) ks) fs groups after o grouped
      (subst (λ n. IsLeastInGroups P (map (clause_at c) ks) fs groups (length groups) n after) (sym (length-map ks (clause_at c))) (groups-all P (map (clause_at c) ks) fs groups count (length ks) after l least))
      (at-fronts fs h none)
      (subst (λ n. MatchOption o (after ≡ n) (λ k. (k ≡ after) × (after < n))) (sym (length-map ks (clause_at c))) m)

-- copies: what is not in the group of a clause's heads is none
module _ (c : Contents) (d : Clause) (g : Front) (front : IsFront c d (Some g)) where
  first-of : (l m : Lit) (ls ms : List Lit) → map (literal_at c) (l ∷ ls) ≡ map (literal_at c) (m ∷ ms) → literal_at c l ≡ literal_at c m
  first-of l m ls ms e = cc

  pub other-heads : IsBank c → (f : Front) → (f.heads ≡ g.heads → ⊥) → (k : Clause) → IsFront c k (Some f) → clause_at c k ≡ clause_at c d → ⊥
  other-heads b f other k h e =
      let lits : map (literal_at c) k.lits ≡ map (literal_at c) d.lits = ap (λ (x : ClauseTree). x.literals) e in
      let firsts : map (literal_at c) (f.first ∷ h.rest) ≡ map (literal_at c) (g.first ∷ front.rest) = ap (map (literal_at c)) (sym h.begins) ∙ lits ∙ ap (map (literal_at c)) front.begins in
      other (heads-same c b (literal_at c f.first) (literal_at c g.first) f.heads g.heads h.heads front.heads (first-of f.first g.first h.rest front.rest firsts))

  pub empty-differs : (k : Clause) → IsFront c k None → clause_at c k ≡ clause_at c d → ⊥
  empty-differs k h e =
      let lits : map (literal_at c) k.lits ≡ map (literal_at c) d.lits = ap (λ (x : ClauseTree). x.literals) e in
      let bad : map (literal_at c) [] ≡ map (literal_at c) (g.first ∷ front.rest) = ap (map (literal_at c)) (sym h) ∙ lits ∙ ap (map (literal_at c)) front.begins in
      (let z : ⊥ = cc in z)

pub other-group : (h k g : Lit) → h ≡ k → (k ≡ g → ⊥) → h ≡ g → ⊥
other-group h k g e other d = other (sym e ∙ d)

pub never-group : (c : Contents) (h k : Lit) (heads : List Lit) → h ≡ k → NeverAmong c k heads → NeverAmong c h heads
never-group c h k heads e n = rw e n

pub fronts-in : (c : Contents) (ks : List Clause) (fs : List (Option Front)) → AreFronts c ks fs → AreFrontsIn c fs
fronts-in c ks fs h n f e =
    let w : n < length ks = subst (λ m. n < m) (fronts-length c ks fs h) (slice_get_within fs n (Some f) e) in
    let k = get-below ks n w in
    front-within c k.0 (Some f) (front-at c ks fs h n k.0 (Some f) k.1 e)
  where
    get-below : {X : Type 0} (xs : List X) (n : ℕ) → n < length xs → (x : X) × (slice_get xs n ≡ Some x)
    get-below [] n l = absurd (let f : ⊥ = omega arith in f)
    get-below (x ∷ xs) zero l = (x, refl)
    get-below (x ∷ xs) (suc n) l = get-below xs n (omega arith)
