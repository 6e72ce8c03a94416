-- A slot taken out of its list.
use Rattle.std.proofs.Common.{◌≡◌, ◌≢◌, ◌⊎◌, inl, inr, ℕ, ◌<◌, Bool, true, false, ◌||◌, not, List, [], ◌∷◌, ◌++◌, map, length, refl, sym, ◌∙◌, subst, ap, eq-eqb, arith}
use Rattle.std.specs.Prelude.{nat_eq}
use Rattle.std.proofs.lemmas.Bool.{or_cases, eqb-true}
use Rattle.std.proofs.lemmas.List.{append-nil, length-map}
use Rattle.std.proofs.lemmas.List.Elements.{filter-append}
use Rattle.std.proofs.Math.ListN.{get_or-map}
use Rattle.leo_lists.specs.declared.rings.Place.{Place}
use Rattle.leo_lists.specs.declared.rings.Place.TheVariants.{Head, Slot}
use Rattle.leo_lists.specs.Rings.{Table, IsPlace, link_at, joined, IsChain, has, AreDistinct, list_at, HasLists, without}
use Rattle.leo_lists.proofs.Links.{heads-joined}
use Rattle.leo_lists.proofs.Chains
use Rattle.leo_lists.proofs.Pushing.{or-none, turned, apart-from, IsOf, other-ring, has-append}

or-true : (a : Bool) → (a || true) ≡ true
or-true true = refl
or-true false = refl

-- a list with a slot is cut at it
pub cut : (xs : List ℕ) (s : ℕ) → has xs s ≡ true → (ys : List ℕ) × (zs : List ℕ) × (xs ≡ ys ++ s ∷ zs)
cut [] s e = (let f : ⊥ = cc in absurd f)
cut (x ∷ xs) s e = elim (or_cases (nat_eq s x) (has xs s) e) [
  | inl a ↦ ([], xs, ap (λ (y : ℕ). y ∷ xs) (sym (eqb-true s x a)))
  | inr b ↦ (let r = cut xs s b in (x ∷ r.0, r.1, ap (λ (ws : List ℕ). x ∷ ws) r.2))
]

-- what is distinct is so in parts
pub distinct-parts : (ys zs : List ℕ) (s : ℕ) → AreDistinct (ys ++ s ∷ zs) →
    AreDistinct ys × AreDistinct zs × (has ys s ≡ false) × (has zs s ≡ false) × ((x : ℕ) → has ys x ≡ true → has zs x ≡ false)
distinct-parts [] zs s d = (tt, d.1, refl, d.0, λ x e. (let f : ⊥ = cc in absurd f))
distinct-parts (y ∷ ys) zs s d =
    let r = distinct-parts ys zs s d.1 in
    let n : (has ys y || (nat_eq y s || has zs y)) ≡ false = sym (has-append ys (s ∷ zs) y) ∙ d.0 in
    let p = or-none (has ys y) (nat_eq y s || has zs y) n in
    let q = or-none (nat_eq y s) (has zs y) p.1 in (
      (p.0, r.0),
      r.1,
      rw (turned y s q.0, r.2) refl,
      r.3,
      λ x e. elim (or_cases (nat_eq x y) (has ys x) e) [
        | inl a ↦ subst (λ (w : ℕ). has zs w ≡ false) (sym (eqb-true x y a)) q.1
        | inr b ↦ r.4 x b
      ],
    )

pub without-missing : (xs : List ℕ) (s : ℕ) → has xs s ≡ false → without s xs ≡ xs
without-missing [] s e = refl
without-missing (x ∷ xs) s e = let p = or-none (nat_eq s x) (has xs s) e in rw p.0 (ap (λ (ws : List ℕ). x ∷ ws) (without-missing xs s p.1))

pub without-cut : (ys zs : List ℕ) (s : ℕ) → has ys s ≡ false → has zs s ≡ false → without s (ys ++ s ∷ zs) ≡ ys ++ zs
without-cut ys zs s e f =
    filter-append (λ x. not (nat_eq s x)) ys (s ∷ zs) ∙ (rw (without-missing ys s e, eq-eqb s s refl, without-missing zs s f) refl)

-- the place after a slot, whose list goes on with zs to q
abbrev pub next_place : List ℕ → Place → Place
next_place [] q = q
next_place (z ∷ zs) q = Slot z

pub chain-next : (t : Table) (p q : Place) (zs : List ℕ) → IsChain t p zs q → (link_at t p).after ≡ next_place zs q
chain-next t p q [] h = h.2
chain-next t p q (z ∷ zs) h = h.0.2

-- the chain of the other slots, once the places on both sides of one are joined
chain-cut : (t : Table) (l : ℕ) (ys zs : List ℕ) (s : ℕ) → AreDistinct (ys ++ s ∷ zs) → IsChain t (Head l) (ys ++ s ∷ zs) (Head l) →
    IsChain (joined t (Chains.last_place (Head l) ys) (next_place zs (Head l))) (Head l) (ys ++ zs) (Head l)
chain-cut t l ys [] s d h =
    let parts = Chains.chain-split t (Head l) (Head l) ys [] s h in
    let q = distinct-parts ys [] s d in
    rw (append-nil ys) (Chains.chain-moved t (Head l) (Slot s) (Head l) ys (apart-from (Head l) ys q.0 (λ x e k. cc))
    (Chains.chain-places t (Slot s) (Head l) [] parts.1).1 (λ x e k. cc) parts.0)
chain-cut t l ys (z ∷ zs) s d h =
    let parts = Chains.chain-split t (Head l) (Head l) ys (z ∷ zs) s h in
    let q = distinct-parts ys (z ∷ zs) s d in
    let there : IsPlace t (Slot z) = parts.1.0.1 in
    let tail : IsPlace t (Chains.last_place (Head l) ys) = Chains.last-there t (Head l) (Slot s) ys parts.0 in
    let moved = Chains.chain-moved t (Head l) (Slot s) (Slot z) ys (apart-from (Head l) ys q.0 (λ x e k. cc)) there
    (λ x e k. let same : x ≡ z = cc in Chains.differs (z ∷ zs) z x (Chains.has-first z zs) (q.4 x e) (sym same)) parts.0 in
    let away : (x : ℕ) → has (z ∷ zs) x ≡ true → Slot x ≢ Chains.last_place (Head l) ys = λ x e k. elim (Chains.last-cases (Head l) ys) [
      | inl f ↦ (let g : ⊥ = cc in g)
      | inr r ↦ (let same : r.0 ≡ x = cc in Chains.differs (z ∷ zs) x r.0 e (q.4 r.0 r.1) (sym same))
    ] in
    Chains.chain-append (joined t (Chains.last_place (Head l) ys) (Slot z)) (Head l) (Head l) ys zs z moved
    (Chains.chain-kept t (Chains.last_place (Head l) ys) (Slot z) tail there (Slot z) (Head l) zs (away z (Chains.has-first z zs)) (λ k. cc)
    (λ x e. (away x (Chains.has-later z x zs e), λ k. let same : x ≡ z = cc in Chains.differs zs x z e q.1.0 same)) parts.1.1)

module _ (t : Table) (lists : List (List ℕ)) (h : HasLists t lists) (l s : ℕ) (b : l < length t.heads) (ys zs : List ℕ) (is : list_at lists l ≡ ys ++ s ∷ zs) where
  in_lists : l < length lists
  in_lists = rw h.count b

  distinct : AreDistinct (ys ++ s ∷ zs)
  distinct = subst AreDistinct is (h.once.in_list l in_lists)

  chain : IsChain t (Head l) (ys ++ s ∷ zs) (Head l)
  chain = subst (λ (xs : List ℕ). IsChain t (Head l) xs (Head l)) is (h.chained l b)

  -- the places on both sides of the slot
  pub before-is : (link_at t (Slot s)).before ≡ Chains.last_place (Head l) ys
  before-is = Chains.chain-end t (Head l) (Slot s) ys (Chains.chain-split t (Head l) (Head l) ys zs s chain).0

  pub after-is : (link_at t (Slot s)).after ≡ next_place zs (Head l)
  after-is = chain-next t (Slot s) (Head l) zs (Chains.chain-split t (Head l) (Head l) ys zs s chain).1

  pub slot-there : IsPlace t (Slot s)
  slot-there = (Chains.chain-places t (Slot s) (Head l) zs (Chains.chain-split t (Head l) (Head l) ys zs s chain).1).0

  tail-there : IsPlace t (Chains.last_place (Head l) ys)
  tail-there = Chains.last-there t (Head l) (Slot s) ys (Chains.chain-split t (Head l) (Head l) ys zs s chain).0

  next-there : IsPlace t (next_place zs (Head l))
  next-there = there zs (Chains.chain-split t (Head l) (Head l) ys zs s chain).1 where
    there : (ws : List ℕ) → IsChain t (Slot s) ws (Head l) → IsPlace t (next_place ws (Head l))
    there [] k = k.1
    there (w ∷ ws) k = k.0.1

  -- the places are the head of this list, or slots in it
  tail-of : IsOf lists l (Chains.last_place (Head l) ys)
  tail-of = elim (Chains.last-cases (Head l) ys) [
    | inl e ↦ inl e
    | inr r ↦ inr (r.0, (rw (is, has-append ys (s ∷ zs) r.0, r.1) refl), r.2)
  ]

  next-of : IsOf lists l (next_place zs (Head l))
  next-of = of zs refl where
    of : (ws : List ℕ) → ws ≡ zs → IsOf lists l (next_place ws (Head l))
    of [] e = inl refl
    of (w ∷ ws) e = inr (w, (rw (is, has-append ys (s ∷ zs) w, ← e, Chains.has-later s w (w ∷ ws) (Chains.has-first w ws)) (or-true (has ys w))), refl)

  at : (m : ℕ) → (m ≡ l) ⊎ (m ≢ l)
  at m = grind arith

  missing : (m : ℕ) → m < length lists → m ≢ l → has (list_at lists m) s ≡ false
  missing m c n = h.once.in_one l m s in_lists c (λ e. n (sym e)) (rw (is, has-append ys (s ∷ zs) s, Chains.has-first s zs) (or-true (has ys s)))

  list-same : list_at (map (without s) lists) l ≡ ys ++ zs
  list-same = let q = distinct-parts ys zs s distinct in get_or-map (without s) lists l [] ∙ (rw is (without-cut ys zs s q.2 q.3))

  list-other : (m : ℕ) → m < length lists → m ≢ l → list_at (map (without s) lists) m ≡ list_at lists m
  list-other m c n = get_or-map (without s) lists m [] ∙ without-missing (list_at lists m) s (missing m c n)

  pub before-there : IsPlace t (link_at t (Slot s)).before
  before-there = rw before-is tail-there

  pub after-there : IsPlace t (link_at t (Slot s)).after
  after-there = rw after-is next-there

  heads : length (joined t (Chains.last_place (Head l) ys) (next_place zs (Head l))).heads ≡ length t.heads
  heads = heads-joined t (Chains.last_place (Head l) ys) (next_place zs (Head l))

  others : (m : ℕ) → m < length t.heads → m ≢ l → IsChain (joined t (Chains.last_place (Head l) ys) (next_place zs (Head l))) (Head m) (list_at lists m) (Head m)
  others m d n =
      let e : m < length lists = rw h.count d in
      let p = other-ring lists h.once l m in_lists e n (Chains.last_place (Head l) ys) tail-of in
      let q = other-ring lists h.once l m in_lists e n (next_place zs (Head l)) next-of in
      Chains.chain-kept t (Chains.last_place (Head l) ys) (next_place zs (Head l)) tail-there next-there (Head m) (Head m) (list_at lists m) p.0 q.0
      (λ x a. (p.1 x a, q.1 x a)) (h.chained m d)

  -- what stands in a list now stood there
  stood : (m x : ℕ) → m < length lists → has (list_at (map (without s) lists) m) x ≡ true → has (list_at lists m) x ≡ true
  stood m x c e = elim (at m) [
    | inl same ↦ (let f : has (list_at (map (without s) lists) l) x ≡ true = subst (λ (k : ℕ). has (list_at (map (without s) lists) k) x ≡ true) same e in
        let g : has (ys ++ zs) x ≡ true = rw list-same at f in
        subst (λ (k : ℕ). has (list_at lists k) x ≡ true) (sym same) (rw is (more ys zs x g)))
    | inr n ↦ rw (list-other m c n) at e
  ] where
    more : (vs ws : List ℕ) (y : ℕ) → has (vs ++ ws) y ≡ true → has (vs ++ s ∷ ws) y ≡ true
    more [] ws y k = Chains.has-later s y ws k
    more (v ∷ vs) ws y k = elim (or_cases (nat_eq y v) (has (vs ++ ws) y) k) [
      | inl a ↦ rw a refl
      | inr b ↦ Chains.has-later v y (vs ++ s ∷ ws) (more vs ws y b)
    ]

  distinct-rest : (vs ws : List ℕ) → AreDistinct (vs ++ s ∷ ws) → AreDistinct (vs ++ ws)
  distinct-rest [] ws d = d.1
  distinct-rest (v ∷ vs) ws d =
      let k : (has vs v || has (s ∷ ws) v) ≡ false = sym (has-append vs (s ∷ ws) v) ∙ d.0 in
      let p = or-none (has vs v) (has (s ∷ ws) v) k in
      let q = or-none (nat_eq v s) (has ws v) p.1 in
      (has-append vs ws v ∙ (rw (p.0, q.1) refl), distinct-rest vs ws d.1)

  pub unlinked : HasLists (joined t (Chains.last_place (Head l) ys) (next_place zs (Head l))) (map (without s) lists)
  unlinked = record {
    count = length-map lists (without s) ∙ h.count ∙ sym heads;
    chained = λ m d. let e : m < length t.heads = rw heads at d in
        let f : m < length lists = rw h.count e in elim (at m) [
          | inl same ↦ (subst (λ (k : ℕ). IsChain (joined t (Chains.last_place (Head l) ys) (next_place zs (Head l))) (Head k) (list_at (map (without s) lists) k) (Head k)) (sym same)
              (rw list-same (chain-cut t l ys zs s distinct chain)))
          | inr n ↦ (rw (list-other m f n) (others m e n))
        ];
    once = record {
      in_list = λ m d. let f : m < length lists = rw (length-map lists (without s)) at d in elim (at m) [
        | inl same ↦ (subst (λ (k : ℕ). AreDistinct (list_at (map (without s) lists) k)) (sym same) (rw list-same (distinct-rest ys zs distinct)))
        | inr n ↦ (rw (list-other m f n) (h.once.in_list m f))
      ];
      in_one = λ m k x d e n f. let g : m < length lists = rw (length-map lists (without s)) at d in
          let i : k < length lists = rw (length-map lists (without s)) at e in
          let none : has (list_at lists k) x ≡ false = h.once.in_one m k x g i n (stood m x g f) in
          absent (has (list_at (map (without s) lists) k) x) (λ a. let b : has (list_at lists k) x ≡ true = stood k x i a in (let c : ⊥ = cc in c));
    };
  } where
    absent : (b : Bool) → (b ≡ true → ⊥) → b ≡ false
    absent true never = absurd (never refl)
    absent false never = refl
