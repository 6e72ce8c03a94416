-- Members that are never due.
use Rattle.std.proofs.Common.{ℕ, zero, suc, ◌≡◌, ◌∙◌, ◌+◌, ◌-◌, ◌<◌, ◌≤◌, Bool, true, false, List, [], ◌∷◌, ◌++◌, length, map, take, drop, nat_eq, slice_get, Option, Some, None, refl, sym, ap, subst, arith, append_assoc, length-append}
use Rattle.std.specs.Prelude.{cond, filter, remove, slice_set}
use Rattle.std.specs.List.{AllByRecursion}
use Rattle.std.proofs.lemmas.List.{map-append}
use Rattle.std.proofs.lemmas.Bool.Decides.{nat_tests}
use Rattle.fo_terms.specs.Terms.{Term, Terms, variable, symbol, none, more}
use Rattle.fo_terms.specs.Substitutions.{Substitution, apply, apply_to_all}
use Rattle.fo_text.specs.declared.problem.FoSym.{FoSym}
use Rattle.fo_text.specs.declared.problem.FoLit.{FoLit}
use Rattle.fo_text.specs.declared.problem.FoClause.{FoClause}
use Rattle.fo_text.specs.declared.answer.FoSide.{FoSide}
use Rattle.fo_text.specs.declared.answer.FoSide.TheVariants.{Left, Right}
use Rattle.fo_kbo.specs.Order.{IsGreater}
use Rattle.fo_kbo.specs.Laws.{IsStable}
use Rattle.fo_replay.specs.Replays.{near, far, with_near, differ, applied_literal, moved, images, at_path, at_argument, replaced, IsLiteralAt, IsPara}
use Rattle.fo_replay.specs.Parts.{shift}
use Rattle.fo_super.specs.declared.member.FoMember.{FoMember}
use Rattle.fo_super.specs.declared.sites.Spot.{Spot}
use Rattle.fo_super.specs.Members.{Member, superpose, numbered_from, both_sides, places, places_in_all}
use Rattle.fo_super.specs.Conclusions.{IsNotBelow, IsResolved, IsSuperposition}
use Rattle.fo_super.specs.Sifting.{IsNeverDue, AreSifted, AreListed, StandsIn, head_symbol, meets, sites, sites_in_all, into_side, into_literal, into_clause, no_members, listed, left_out}
use Rattle.fo_super.specs.Viewing.{member_of}
use Rattle.fo_super.specs.Walks.{made, selected}
use Rattle.fo_super.proofs.Resolutions.{some-same}
use Rattle.fo_super.proofs.Sifted.{all-map, all-both, all-flat, listed-none}

-- what stands in the front of a list stands in the whole
pub get-front : {X : Type 0} (xs ys : List X) (i : ℕ) (x : X) → slice_get xs i ≡ Some x → slice_get (xs ++ ys) i ≡ Some x
get-front [] ys i x e = absurd (let f : ⊥ = cc in f)
get-front (z ∷ xs) ys zero x e = e
get-front (z ∷ xs) ys (suc i) x e = get-front xs ys i x e

get-behind : {X : Type 0} (xs ys : List X) (i n : ℕ) (y : X) → n ≡ length xs + i → slice_get ys i ≡ Some y → slice_get (xs ++ ys) n ≡ Some y
get-behind [] ys i n y l e = let f : n ≡ i = omega arith in ap (slice_get ys) f ∙ e
get-behind (x ∷ xs) ys i zero y l e = absurd (omega arith)
get-behind (x ∷ xs) ys i (suc n) y l e = get-behind xs ys i n y (omega arith) e

get-map : {X Y : Type 0} (f : X → Y) (xs : List X) (i : ℕ) (x : X) (y : Y) → slice_get xs i ≡ Some x → slice_get (map f xs) i ≡ Some y → y ≡ f x
get-map f [] i x y e g = absurd (let h : ⊥ = cc in h)
get-map f (z ∷ xs) zero x y e g = let h : z ≡ x = cc in some-same (Some (f z)) y (f x) g (ap (λ w. Some (f w)) h)
get-map f (z ∷ xs) (suc i) x y e g = get-map f xs i x y e g

-- the literal of a spot, and its clause
module _ (clauses behind : List FoClause) (c i : ℕ) (l : FoLit) (at : StandsIn clauses c i l) where
  clause-same : (x : FoClause) → slice_get (clauses ++ behind) c ≡ Some x → x ≡ at.0
  clause-same x e = some-same (slice_get (clauses ++ behind) c) x at.0 e (get-front clauses behind c at.0 at.1.clause_at)

  literal-same : (x : FoClause) (k : FoLit) → IsLiteralAt (clauses ++ behind) c i x k → k ≡ l
  literal-same x k h = some-same (slice_get at.0.lits i) k l (ap (λ (y : FoClause). slice_get y.lits i) (sym (clause-same x h.clause_at)) ∙ h.literal_at) at.1.literal_at

  -- and the same, moved
  moved-same : (n : ℕ) (x : FoClause) (k : FoLit) → slice_get (clauses ++ behind) c ≡ Some x → slice_get (moved n x) i ≡ Some k → k ≡ applied_literal (shift n) l
  moved-same n x k e f =
      get-map (applied_literal (shift n)) at.0.lits i l k at.1.literal_at (ap (λ (y : FoClause). slice_get (moved n y) i) (sym (clause-same x e)) ∙ f)

near-applied : (s : Substitution) (r : FoSide) (l : FoLit) → near r (applied_literal s l) ≡ apply s (near r l)
near-applied s Left l = refl
near-applied s Right l = refl

far-applied : (s : Substitution) (r : FoSide) (l : FoLit) → far r (applied_literal s l) ≡ apply s (far r l)
far-applied s Left l = refl
far-applied s Right l = refl

-- a side that is below the other stays so
below-stays : IsStable → (s : Substitution) (t u : Term) → (IsNotBelow t u → ⊥) → IsNotBelow (apply s t) (apply s u) → ⊥
below-stays stable s t u f h = f (λ e. h.0 (ap (apply s) e), λ g. h.1 (stable s u t g))

module _ (stable : IsStable) (clauses : List FoClause) where
  -- from the lesser side of an equation
  pub giver-never : (c i : ℕ) (side : FoSide) (l : FoLit) → StandsIn clauses c i l → (IsNotBelow (near side l) (far side l) → ⊥) → (d j : ℕ) (r : FoSide) (path : List ℕ) → IsNeverDue clauses (superpose c i side d j r path)
  giver-never c i side l at f d j r path sorts syms behind vars terms inst concl h =
      let e : h.equation ≡ l = literal-same clauses behind c i l at h.giver h.equation h.equation_at in
      below-stays stable (images terms) (near side l) (far side l) f (subst (λ (x : FoLit). IsNotBelow (apply (images terms) (near side x)) (apply (images terms) (far side x))) e h.ordered)

  -- into the lesser side of a literal
  pub receiver-never : (d j : ℕ) (r : FoSide) (l : FoLit) → StandsIn clauses d j l → (IsNotBelow (near r l) (far r l) → ⊥) → (c i : ℕ) (side : FoSide) (path : List ℕ) → IsNeverDue clauses (superpose c i side d j r path)
  receiver-never d j r l at f c i side path sorts syms behind vars terms inst concl h =
      let s : Substitution = shift (length h.giver.vars) in
      let e : h.literal ≡ applied_literal s l = moved-same clauses behind d j l at (length h.giver.vars) h.receiver h.literal h.receiver_at h.literal_at in
      let o : IsNotBelow (apply (images terms) (near r (applied_literal s l))) (apply (images terms) (far r (applied_literal s l)))
      = subst (λ (x : FoLit). IsNotBelow (apply (images terms) (near r x)) (apply (images terms) (far r x))) e h.ordered_into in
      let p : IsNotBelow (apply (images terms) (apply s (near r l))) (apply (images terms) (far r (applied_literal s l))) = subst (λ x. IsNotBelow (apply (images terms) x) (apply (images terms) (far r (applied_literal s l)))) (near-applied s r l) o in
      let q : IsNotBelow (apply (images terms) (apply s (near r l))) (apply (images terms) (apply s (far r l))) = subst (λ x. IsNotBelow (apply (images terms) (apply s (near r l))) (apply (images terms) x)) (far-applied s r l) p in
      below-stays stable (images terms) (apply s (near r l)) (apply s (far r l)) (below-stays stable s (near r l) (far r l) f) q

-- the term at a path of a term under a substitution
mutual
  path-applied : (s : Substitution) (t : Term) (path : List ℕ) (u : Term) → at_path t path ≡ Some u → at_path (apply s t) path ≡ Some (apply s u)
  path-applied s t [] u e = let f : t ≡ u = cc in ap (λ x. Some (apply s x)) f
  path-applied s (variable v) (n ∷ ns) u e = absurd (let f : ⊥ = cc in f)
  path-applied s (symbol f ts) (n ∷ ns) u e = argument-applied s ts n ns u e

  argument-applied : (s : Substitution) (ts : Terms) (n : ℕ) (ns : List ℕ) (u : Term) → at_argument ts n ns ≡ Some u → at_argument (apply_to_all s ts) n ns ≡ Some (apply s u)
  argument-applied s none n ns u e = absurd (let f : ⊥ = cc in f)
  argument-applied s (more t ts) zero ns u e = path-applied s t ns u e
  argument-applied s (more t ts) (suc n) ns u e = argument-applied s ts n ns u e

-- symbols that differ have no unifier
heads-differ : (s : Substitution) (t : Term) (f : ℕ) (us : Terms) → meets (head_symbol t) f ≡ false → apply s t ≡ apply s (symbol f us) → ⊥
heads-differ s (variable v) f us e h = absurd (let g : ⊥ = cc in g)
heads-differ s (symbol g ts) f us e h = let k : g ≡ f = cc in grind (arith, nat_tests)

length-set : {X : Type 0} (xs : List X) (i : ℕ) (x : X) → length (slice_set xs i x) ≡ length xs
length-set [] i x = refl
length-set (y ∷ xs) zero x = refl
length-set (y ∷ xs) (suc i) x = ap suc (length-set xs i x)

length-without : {X : Type 0} (xs : List X) (i : ℕ) (x : X) → slice_get xs i ≡ Some x → length (remove xs i) ≡ length xs - 1
length-without [] i x e = absurd (let f : ⊥ = cc in f)
length-without (y ∷ xs) zero x e = omega arith
length-without (y ∷ []) (suc i) x e = absurd (let f : ⊥ = cc in f)
length-without (y ∷ (z ∷ xs)) (suc i) x e = let h = length-without (z ∷ xs) i x e in omega arith

pub length-mapped : {X Y : Type 0} (f : X → Y) (xs : List X) → length (map f xs) ≡ length xs
length-mapped f [] = refl
length-mapped f (x ∷ xs) = ap suc (length-mapped f xs)

last-of : (xs ys : List FoLit) (y : FoLit) (n : ℕ) → n ≡ length xs + length ys → slice_get (xs ++ (ys ++ y ∷ [])) n ≡ Some y
last-of xs ys y n e = get-behind xs (ys ++ y ∷ []) (length ys) n y e (get-behind ys (y ∷ []) 0 (length ys) y (let f : length ys ≡ length ys + 0 = omega arith in f) refl)

module _ (clauses : List FoClause) (c i : ℕ) (side : FoSide) (l : FoLit) (at : StandsIn clauses c i l) (d j : ℕ) (r : FoSide) (k : FoLit) (there : StandsIn clauses d j k) where
  -- the last literal of what is replaced
  last-literal : (sorts : ℕ) (syms : List FoSym) (all : List FoClause) (path : List ℕ) (vars : List ℕ) (terms : Terms) (inst concl : FoClause) (h : IsSuperposition sorts syms all c i side d j r path vars terms inst concl) →
      slice_get h.replaced.lits (length h.giver.lits - 1 + length h.receiver.lits) ≡ Some (differ (near side h.para.gives.equation) h.para.gives.term)
  last-literal sorts syms all path vars terms inst concl h =
      let p : IsPara syms all c i side d j r path h.replaced = h.para.gives in
      let e : p.giver ≡ h.giver = some-same (slice_get all c) p.giver h.giver p.equation_at.clause_at h.equation_at.clause_at in
      let f : p.receiver ≡ h.receiver = some-same (slice_get all d) p.receiver h.receiver p.receiver_at h.receiver_at in
      let put : List FoLit = slice_set (moved (length p.giver.vars) p.receiver) j (with_near r (replaced (near r p.literal) path (far side p.equation)) p.literal) in
      let a : length (remove p.giver.lits i) ≡ length p.giver.lits - 1 = length-without p.giver.lits i p.equation p.equation_at.literal_at in
      let b : length put ≡ length p.receiver.lits = length-set (moved (length p.giver.vars) p.receiver) j (with_near r (replaced (near r p.literal) path (far side p.equation)) p.literal) ∙ length-mapped (applied_literal (shift (length p.giver.vars))) p.receiver.lits in
      let g : length p.giver.lits ≡ length h.giver.lits = ap (λ (x : FoClause). length x.lits) e in
      let k : length p.receiver.lits ≡ length h.receiver.lits = ap (λ (x : FoClause). length x.lits) f in
      let shape : h.replaced.lits ≡ remove p.giver.lits i ++ (put ++ differ (near side p.equation) p.term ∷ []) = ap (λ (x : FoClause). x.lits) p.is in
      ap (λ (x : List FoLit). slice_get x (length h.giver.lits - 1 + length h.receiver.lits)) shape
      ∙ last-of (remove p.giver.lits i) put (differ (near side p.equation) p.term) (length h.giver.lits - 1 + length h.receiver.lits) (let n : length h.giver.lits - 1 + length h.receiver.lits ≡ length (remove p.giver.lits i) + length put = omega arith in n)

  pub head-never : (path : List ℕ) (f : ℕ) (us : Terms) → at_path (near r k) path ≡ Some (symbol f us) → meets (head_symbol (near side l)) f ≡ false → IsNeverDue clauses (superpose c i side d j r path)
  head-never path f us e m sorts syms behind vars terms inst concl h =
      let all : List FoClause = clauses ++ behind in
      let p : IsPara syms all c i side d j r path h.replaced = h.para.gives in
      let q : IsResolved sorts syms (h.replaced ∷ []) 0 (length h.giver.lits - 1 + length h.receiver.lits) vars terms inst concl = h.resolved in
      let same : q.clause ≡ h.replaced = some-same (Some h.replaced) q.clause h.replaced q.at.clause_at refl in
      let lit : q.literal ≡ differ (near side p.equation) p.term
      = some-same (slice_get h.replaced.lits (length h.giver.lits - 1 + length h.receiver.lits)) q.literal (differ (near side p.equation) p.term) (ap (λ (x : FoClause). slice_get x.lits (length h.giver.lits - 1 + length h.receiver.lits)) (sym same) ∙ q.at.literal_at) (last-literal sorts syms all path vars terms inst concl h) in
      let s : Substitution = shift (length p.giver.vars) in
      let eq : p.equation ≡ l = literal-same clauses behind c i l at p.giver p.equation p.equation_at in
      let into : p.literal ≡ applied_literal s k = moved-same clauses behind d j k there (length p.giver.vars) p.receiver p.literal p.receiver_at p.literal_at in
      let found : at_path (near r p.literal) path ≡ Some (apply s (symbol f us)) = ap (λ (x : FoLit). at_path (near r x) path) into ∙ ap (λ x. at_path x path) (near-applied s r k) ∙ path-applied s (near r k) path (symbol f us) e in
      let term : p.term ≡ apply s (symbol f us) = some-same (at_path (near r p.literal) path) p.term (apply s (symbol f us)) p.term_at found in
      let one : apply q.unifier (near side p.equation) ≡ apply q.unifier p.term = subst (λ (x : FoLit). apply q.unifier x.left ≡ apply q.unifier x.right) lit q.general.unifies in
      heads-differ q.unifier (near side l) f (apply_to_all s us) m (ap (λ (x : FoLit). apply q.unifier (near side x)) (sym eq) ∙ one ∙ ap (apply q.unifier) term)

-- the places of a term and their symbols
abbrev IsSite : Term → List ℕ × ℕ → Type 0
IsSite t s = (us : Terms) × (at_path t s.0 ≡ Some (symbol s.1 us))

all-made : {X Y : Type 0} (P : X → Type 0) (Q : Y → Type 0) (g : X → Y) (xs : List X) → AllByRecursion P xs → ((x : X) → P x → Q (g x)) → AllByRecursion Q (map g xs)
all-made P Q g [] h k = tt
all-made P Q g (x ∷ xs) h k = (k x h.0, all-made P Q g xs h.1 k)

mutual
  all-sites : (t : Term) → AllByRecursion (IsSite t) (sites t)
  all-sites (variable v) = tt
  all-sites (symbol f ts) = ((ts, refl), all-below f ts 0 ts (λ m ns. ap (λ x. at_argument ts x ns) (let e : 0 + m ≡ m = omega arith in e)))

  all-below : (f : ℕ) (us : Terms) (n : ℕ) (ts : Terms) → ((m : ℕ) (ns : List ℕ) → at_argument us (n + m) ns ≡ at_argument ts m ns) → AllByRecursion (IsSite (symbol f us)) (sites_in_all n ts)
  all-below f us n none h = tt
  all-below f us n (more t ts) h =
      all-both (IsSite (symbol f us)) (map (λ (s : List ℕ × ℕ). (n ∷ s.0, s.1)) (sites t)) (sites_in_all (suc n) ts)
      (all-made (IsSite t) (IsSite (symbol f us)) (λ (s : List ℕ × ℕ). (n ∷ s.0, s.1)) (sites t) (all-sites t)
      (λ s k. (k.0, ap (λ m. at_argument us m s.0) (let e : n ≡ n + 0 = omega arith in e) ∙ h 0 s.0 ∙ k.1)))
      (all-below f us (suc n) ts (λ m ns. ap (λ x. at_argument us x ns) (let e : suc n + m ≡ n + suc m = omega arith in e) ∙ h (suc m) ns))

paths-below : (n : ℕ) (ss : List (List ℕ × ℕ)) → map (λ (path : List ℕ). n ∷ path) (map (λ (s : List ℕ × ℕ). s.0) ss) ≡ map (λ (s : List ℕ × ℕ). s.0) (map (λ (s : List ℕ × ℕ). let y : List ℕ × ℕ = (n ∷ s.0, s.1) in y) ss)
paths-below n [] = refl
paths-below n (s ∷ ss) = ap (λ (x : List (List ℕ)). (n ∷ s.0) ∷ x) (paths-below n ss)

mutual
  places-sites : (t : Term) → places t ≡ map (λ s. s.0) (sites t)
  places-sites (variable v) = refl
  places-sites (symbol f ts) = ap (λ (x : List (List ℕ)). [] ∷ x) (all-places-sites 0 ts)

  all-places-sites : (n : ℕ) (ts : Terms) → places_in_all n ts ≡ map (λ s. s.0) (sites_in_all n ts)
  all-places-sites n none = refl
  all-places-sites n (more t ts) =
      ap (λ (x : List (List ℕ)). map (λ (path : List ℕ). n ∷ path) x ++ places_in_all (suc n) ts) (places-sites t)
      ∙ ap (λ (x : List (List ℕ)). x ++ places_in_all (suc n) ts) (paths-below n (sites t))
      ∙ ap (λ (x : List (List ℕ)). map (λ (s : List ℕ × ℕ). s.0) (map (λ (s : List ℕ × ℕ). let y : List ℕ × ℕ = (n ∷ s.0, s.1) in y) (sites t)) ++ x) (all-places-sites (suc n) ts)
      ∙ sym (map-append (λ (s : List ℕ × ℕ). s.0) (map (λ (s : List ℕ × ℕ). let y : List ℕ × ℕ = (n ∷ s.0, s.1) in y) (sites t)) (sites_in_all (suc n) ts))

-- the places that are listed, where the others are never due
module _ (clauses : List FoClause) (from into : Spot) (l k : FoLit) (at : StandsIn clauses from.clause from.literal l) (there : StandsIn clauses into.clause into.literal k) where
  abbrev head : Option ℕ
  head = head_symbol (near from.side l)

  abbrev made_at : List ℕ → Member
  made_at path = superpose from.clause from.literal from.side into.clause into.literal into.side path

  sites-sifted : (ss : List (List ℕ × ℕ)) → AllByRecursion (IsSite (near into.side k)) ss → AreSifted clauses (map made_at (map (λ s. s.0) ss)) (map member_of (made from into (selected head ss)))
  sites-sifted [] h = no_members
  sites-sifted (s ∷ ss) h = go (meets head s.1) refl (sites-sifted ss h.1)
    where
      go : (b : Bool) → meets head s.1 ≡ b → AreSifted clauses (map made_at (map (λ s. s.0) ss)) (map member_of (made from into (selected head ss))) → AreSifted clauses (map made_at (map (λ s. s.0) (s ∷ ss))) (map member_of (made from into (selected head (s ∷ ss))))
      go true e rest =
          subst (λ b. AreSifted clauses (made_at s.0 ∷ map made_at (map (λ s. s.0) ss)) (map member_of (made from into (map (λ s. s.0) (cond b (s ∷ filter (λ s. meets head s.1) ss) (filter (λ s. meets head s.1) ss)))))) (sym e) (listed rest)
      go false e rest =
          subst (λ b. AreSifted clauses (made_at s.0 ∷ map made_at (map (λ s. s.0) ss)) (map member_of (made from into (map (λ s. s.0) (cond b (s ∷ filter (λ s. meets head s.1) ss) (filter (λ s. meets head s.1) ss)))))) (sym e)
          (left_out (head-never clauses from.clause from.literal from.side l at into.clause into.literal into.side k there s.0 s.1 h.0.0 h.0.1 e) rest)

  pub places-listed : (old new : List FoMember) (head : Option ℕ) → head ≡ head_symbol (near from.side l) → new ≡ old ++ made from into (selected head (sites (near into.side k))) → AreListed clauses (into_side from.clause from.literal from.side into.clause into.literal into.side (near into.side k)) old new
  places-listed old new found_head same e = record {
    found = made from into (selected (head_symbol (near from.side l)) (sites (near into.side k)));
    new_is = e ∙ ap (λ o. old ++ made from into (selected o (sites (near into.side k)))) same;
    sifted = subst (λ (ps : List (List ℕ)). AreSifted clauses (map made_at ps) (map member_of (made from into (selected (head_symbol (near from.side l)) (sites (near into.side k)))))) (sym (places-sites (near into.side k))) (sites-sifted (sites (near into.side k)) (all-sites (near into.side k)));
  }

  -- a side that is below the other
  pub side-passed : IsStable → (IsNotBelow (near into.side k) (far into.side k) → ⊥) → (old : List FoMember) → AreListed clauses (into_side from.clause from.literal from.side into.clause into.literal into.side (near into.side k)) old old
  side-passed stable f old =
      listed-none clauses (into_side from.clause from.literal from.side into.clause into.literal into.side (near into.side k)) old
      (all-map (IsNeverDue clauses) made_at (places (near into.side k)) (λ path. receiver-never stable clauses into.clause into.literal into.side k there f from.clause from.literal from.side path))

-- from a side that is below the other
pub giver-passed : IsStable → (clauses : List FoClause) (c i : ℕ) (side : FoSide) (l : FoLit) → StandsIn clauses c i l → (IsNotBelow (near side l) (far side l) → ⊥) → (d : ℕ) (ks : List FoLit) (old : List FoMember) → AreListed clauses (into_clause c i side d ks) old old
giver-passed stable clauses c i side l at f d ks old =
    listed-none clauses (into_clause c i side d ks) old
    (all-flat (IsNeverDue clauses) (into_literal c i side d) (numbered_from 0 ks)
    (λ q. all-flat (IsNeverDue clauses) (λ r. into_side c i side d q.0 r (near r q.1)) both_sides
    (λ r. all-map (IsNeverDue clauses) (λ path. superpose c i side d q.0 r path) (places (near r q.1)) (λ path. giver-never stable clauses c i side l at f d q.0 r path))))
