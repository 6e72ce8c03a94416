-- Lists of members of which some are left out.
use Rattle.std.proofs.Common.{ℕ, zero, suc, ◌≡◌, ◌∙◌, ◌+◌, ◌<◌, ◌≤◌, Bool, true, false, List, [], ◌∷◌, ◌++◌, length, map, take, nat_eq, not, slice_get, Option, Some, None, refl, sym, ap, subst, arith, append_assoc}
use Rattle.std.specs.Prelude.{cond, filter, flat_map}
use Rattle.std.specs.List.{AllByRecursion}
use Rattle.std.proofs.lemmas.List.{append-nil, map-append, take_all}
use Rattle.std.proofs.lemmas.List.Elements.{filter-append}
use Rattle.std.proofs.lemmas.Grind.{flat_map-append}
use Rattle.fo_text.specs.declared.answer.FoSide.{FoSide}
use Rattle.fo_text.specs.declared.answer.FoSide.TheVariants.{Left, Right}
use Rattle.fo_text.specs.declared.problem.FoLit.{FoLit}
use Rattle.fo_text.specs.declared.problem.FoClause.{FoClause}
use Rattle.fo_super.specs.declared.member.FoMember.{FoMember}
use Rattle.fo_super.specs.declared.member.FoMember.TheVariants.{Factor}
use Rattle.fo_super.specs.Members.{Member, numbered_from}
use Rattle.fo_super.specs.Viewing.{member_of}
use Rattle.fo_super.specs.Sifting.{IsNeverDue, AreSifted, AreListed, StandsIn, signed, with_other, no_members, listed, left_out}
use Rattle.fo_super.proofs.Answering.{other-number, same-number}

-- a fact about each item of lists that are made
pub all-map : {X Y : Type 0} (P : Y → Type 0) (f : X → Y) (xs : List X) → ((x : X) → P (f x)) → AllByRecursion P (map f xs)
all-map P f [] h = tt
all-map P f (x ∷ xs) h = (h x, all-map P f xs h)

pub all-both : {X : Type 0} (P : X → Type 0) (xs ys : List X) → AllByRecursion P xs → AllByRecursion P ys → AllByRecursion P (xs ++ ys)
all-both P [] ys h k = k
all-both P (x ∷ xs) ys h k = (h.0, all-both P xs ys h.1 k)

pub all-flat : {X Y : Type 0} (P : Y → Type 0) (f : X → List Y) (xs : List X) → ((x : X) → AllByRecursion P (f x)) → AllByRecursion P (flat_map f xs)
all-flat P f [] h = tt
all-flat P f (x ∷ xs) h = all-both P (f x) (flat_map f xs) (h x) (all-flat P f xs h)

-- one item more
pub take-next : {X : Type 0} (xs : List X) (i : ℕ) (x : X) → slice_get xs i ≡ Some x → take (i + 1) xs ≡ take i xs ++ x ∷ []
take-next {X} xs i x e = let on : i + 1 ≡ suc i = omega arith in ap (λ n. take n xs) on ∙ go xs i e
  where
    go : (ys : List X) (j : ℕ) → slice_get ys j ≡ Some x → take (suc j) ys ≡ take j ys ++ x ∷ []
    go [] j f = absurd (let g : ⊥ = cc in g)
    go (y ∷ ys) zero f = let g : y ≡ x = cc in ap (λ z. z ∷ []) g
    go (y ∷ ys) (suc j) f = ap (λ (zs : List X). y ∷ zs) (go ys j f)

pub take-length : {X : Type 0} (xs : List X) (i : ℕ) (x : X) → slice_get xs i ≡ Some x → length (take i xs) ≡ i
take-length [] i x f = absurd (let g : ⊥ = cc in g)
take-length (y ∷ ys) zero x f = refl
take-length (y ∷ ys) (suc j) x f = ap suc (take-length ys j x f)

numbered-push : {X : Type 0} (n : ℕ) (xs : List X) (x : X) → numbered_from n (xs ++ x ∷ []) ≡ numbered_from n xs ++ (n + length xs, x) ∷ []
numbered-push n [] x = ap (λ (k : ℕ). (k, x) ∷ []) (let e : n ≡ n + 0 = omega arith in e)
numbered-push {X} n (y ∷ ys) x =
    ap (λ (zs : List (ℕ × X)). (n, y) ∷ zs) (numbered-push (suc n) ys x ∙ ap (λ (k : ℕ). numbered_from (suc n) ys ++ (k, x) ∷ []) (let e : suc n + length ys ≡ n + suc (length ys) = omega arith in e))

pub numbered-next : {X : Type 0} (xs : List X) (i : ℕ) (x : X) → slice_get xs i ≡ Some x → numbered_from 0 (take (i + 1) xs) ≡ numbered_from 0 (take i xs) ++ (i, x) ∷ []
numbered-next xs i x e =
    ap (numbered_from 0) (take-next xs i x e) ∙ numbered-push 0 (take i xs) x ∙ ap (λ (k : ℕ). numbered_from 0 (take i xs) ++ (k, x) ∷ []) (let f = take-length xs i x e in let g : 0 + length (take i xs) ≡ i = omega arith in g)

module _ (clauses : List FoClause) where
  pub sifted-none : (ms : List Member) → AllByRecursion (IsNeverDue clauses) ms → AreSifted clauses ms []
  sifted-none [] h = no_members
  sifted-none (m ∷ ms) h = left_out h.0 (sifted-none ms h.1)

  pub sifted-append : {ks bs cs ds : List Member} → AreSifted clauses ks bs → AreSifted clauses cs ds → AreSifted clauses (ks ++ cs) (bs ++ ds)
  sifted-append no_members k = k
  sifted-append (listed h) k = listed (sifted-append h k)
  sifted-append (left_out n h) k = left_out n (sifted-append h k)

  pub listed-append : (ks bs : List Member) (o1 o2 o3 : List FoMember) → AreListed clauses ks o1 o2 → AreListed clauses bs o2 o3 → AreListed clauses (ks ++ bs) o1 o3
  listed-append ks bs o1 o2 o3 h k = record {
    found = h.found ++ k.found;
    new_is = k.new_is ∙ ap (λ (x : List FoMember). x ++ k.found) h.new_is ∙ append_assoc o1 h.found k.found;
    sifted = subst (AreSifted clauses (ks ++ bs)) (sym (map-append member_of h.found k.found)) (sifted-append h.sifted k.sifted);
  }

  pub listed-none : (ms : List Member) (os : List FoMember) → AllByRecursion (IsNeverDue clauses) ms → AreListed clauses ms os os
  listed-none ms os h = record { found = []; new_is = sym (append-nil os); sifted = sifted-none ms h }

  pub listed-nothing : (os : List FoMember) → AreListed clauses [] os os
  listed-nothing os = record { found = []; new_is = sym (append-nil os); sifted = no_members }

  pub listed-one : (m : FoMember) (os ns : List FoMember) → ns ≡ os ++ m ∷ [] → AreListed clauses (member_of m ∷ []) os ns
  listed-one m os ns e = record { found = m ∷ []; new_is = e; sifted = listed no_members }

  -- both sides, one after the other
  pub listed-both : (ks bs : List Member) (o1 o2 o3 : List FoMember) → AreListed clauses ks o1 o2 → AreListed clauses bs o2 o3 → AreListed clauses (ks ++ (bs ++ [])) o1 o3
  listed-both ks bs o1 o2 o3 h k = subst (λ (x : List Member). AreListed clauses (ks ++ x) o1 o3) (sym (append-nil bs)) (listed-append ks bs o1 o2 o3 h k)

  pub listed-end : (ks : List Member) (o1 o2 : List FoMember) → AreListed clauses ks o1 o2 → AreListed clauses (ks ++ []) o1 o2
  listed-end ks o1 o2 h = subst (λ (x : List Member). AreListed clauses x o1 o2) (sym (append-nil ks)) h

  -- a loop over literals with their places
  module _ (G : List (ℕ × FoLit) → List Member) (both : (xs ys : List (ℕ × FoLit)) → G (xs ++ ys) ≡ G xs ++ G ys) (xs : List FoLit) where
    pub listed-next : (i : ℕ) (x : FoLit) (o1 o2 o3 : List FoMember) → slice_get xs i ≡ Some x → AreListed clauses (G (numbered_from 0 (take i xs))) o1 o2 → AreListed clauses (G ((i, x) ∷ [])) o2 o3 →
        AreListed clauses (G (numbered_from 0 (take (i + 1) xs))) o1 o3
    listed-next i x o1 o2 o3 e h k =
        subst (λ (ms : List Member). AreListed clauses ms o1 o3) (sym (ap G (numbered-next xs i x e) ∙ both (numbered_from 0 (take i xs)) ((i, x) ∷ []))) (listed-append _ _ o1 o2 o3 h k)

    pub listed-all : (i : ℕ) (o1 o2 : List FoMember) → length xs ≤ i → AreListed clauses (G (numbered_from 0 (take i xs))) o1 o2 → AreListed clauses (G (numbered_from 0 xs)) o1 o2
    listed-all i o1 o2 l h = subst (λ (ys : List FoLit). AreListed clauses (G (numbered_from 0 ys)) o1 o2) (take_all i xs l) h

-- lists that are made by parts
pub flat-both : {X Y : Type 0} (f : X → List Y) (xs ys : List X) → flat_map f (xs ++ ys) ≡ flat_map f xs ++ flat_map f ys
flat-both f xs ys = flat_map-append f xs ys

pub flat-filter-both : {X Y : Type 0} (f : X → List Y) (t : X → Bool) (xs ys : List X) → flat_map f (filter t (xs ++ ys)) ≡ flat_map f (filter t xs) ++ flat_map f (filter t ys)
flat-filter-both f t xs ys = ap (flat_map f) (filter-append t xs ys) ∙ flat_map-append f (filter t xs) (filter t ys)

pub map-filter-both : {X Y : Type 0} (f : X → Y) (t : X → Bool) (xs ys : List X) → map f (filter t (xs ++ ys)) ≡ map f (filter t xs) ++ map f (filter t ys)
map-filter-both f t xs ys = ap (map f) (filter-append t xs ys) ∙ map-append f (filter t xs) (filter t ys)

pub flat-filters-both : {X Y : Type 0} (f : X → List Y) (t u : X → Bool) (xs ys : List X) → flat_map f (filter u (filter t (xs ++ ys))) ≡ flat_map f (filter u (filter t xs)) ++ flat_map f (filter u (filter t ys))
flat-filters-both {X} f t u xs ys = ap (λ (zs : List X). flat_map f (filter u zs)) (filter-append t xs ys) ∙ flat-filter-both f u (filter t xs) (filter t ys)

-- another literal for factoring
module _ (clauses : List FoClause) (c i : ℕ) (side : FoSide) (j : ℕ) (l : FoLit) where
  pub other-same : (old : List FoMember) → i ≡ j → AreListed clauses (flat_map (with_other c i side) (filter (λ q. not (nat_eq i q.0)) (signed true j l))) old old
  other-same old e = go l.pos
    where
      go : (b : Bool) → AreListed clauses (flat_map (with_other c i side) (filter (λ q. not (nat_eq i q.0)) (cond b ((j, l) ∷ []) []))) old old
      go false = listed-nothing clauses old
      go true = subst (λ b. AreListed clauses (flat_map (with_other c i side) (cond (not b) ((j, l) ∷ []) [])) old old) (sym (ap (nat_eq i) (sym e) ∙ same-number i)) (listed-nothing clauses old)

  pub other-listed : (old mid new : List FoMember) → l.pos ≡ true → (i ≡ j → ⊥) → mid ≡ old ++ Factor c i side j Left ∷ [] → new ≡ mid ++ Factor c i side j Right ∷ [] →
      AreListed clauses (flat_map (with_other c i side) (filter (λ q. not (nat_eq i q.0)) (signed true j l))) old new
  other-listed old mid new p n e f =
      subst (λ b. AreListed clauses (flat_map (with_other c i side) (filter (λ q. not (nat_eq i q.0)) (cond b ((j, l) ∷ []) []))) old new) (sym p)
      (subst (λ b. AreListed clauses (flat_map (with_other c i side) (cond (not b) ((j, l) ∷ []) [])) old new) (sym (other-number i j n))
      (record {
        found = Factor c i side j Left ∷ Factor c i side j Right ∷ [];
        new_is = f ∙ ap (λ (x : List FoMember). x ++ Factor c i side j Right ∷ []) e ∙ append_assoc old (Factor c i side j Left ∷ []) (Factor c i side j Right ∷ []);
        sifted = listed (listed no_members);
      }))

-- a literal of a clause in a slice
pub stands : (clauses : List FoClause) (c i : ℕ) (r : FoClause) (ls : List FoLit) (l : FoLit) → slice_get clauses c ≡ Some r → ls ≡ r.lits → slice_get ls i ≡ Some l → StandsIn clauses c i l
stands clauses c i r ls l e f g = (r, record { clause_at = e; literal_at = ap (λ (x : List FoLit). slice_get x i) (sym f) ∙ g })

pub listed-sifted : (clauses : List FoClause) (ms : List Member) (old new : List FoMember) → AreListed clauses ms old new → old ≡ [] → AreSifted clauses ms (map member_of new)
listed-sifted clauses ms old new h e = subst (λ (xs : List FoMember). AreSifted clauses ms (map member_of xs)) (sym (h.new_is ∙ ap (λ (x : List FoMember). x ++ h.found) e)) h.sifted
