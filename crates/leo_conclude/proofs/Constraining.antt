-- Constraints of a clause, one after the other.
use Rattle.std.proofs.Common.{ℕ, zero, suc, nat_eq, ◌≡◌, ◌∙◌, ◌+◌, ◌-◌, ◌<◌, ◌≤◌, Bool, true, false, List, [], ◌∷◌, ◌++◌, length, map, take, drop, slice_get, slice_index_or, Some, refl, sym, ap, subst, append-nil, append_assoc, arith}
use Rattle.std.proofs.lemmas.List.{map-append, take_more}
use Rattle.std.specs.Bool.{if◌then◌else◌}
use Rattle.std.specs.List.{list_any, flat_map}
use Rattle.leo_q0.specs.Terms.{SimpleType}
use Rattle.leo_terms.specs.Contents.{Contents, tree_at}
use Rattle.leo_clause.specs.declared.clause.Clause.{Clause}
use Rattle.leo_clause.specs.declared.clause.Lit.{Lit}
use Rattle.leo_clause.specs.Trees.{Literal, clause_at, literal_at}
use Rattle.leo_clause.specs.Typed.{AreLiteralsOf, AreTyped, IsTypedIn}
use Rattle.leo_kernel.specs.Shapes.{unequal}
use Rattle.leo_unify.specs.Given.{AreTypedPairs, IsTypedPair, pair_of}
use Rattle.leo_conclude.specs.declared.derived.Derived.{Derived}
use Rattle.leo_conclude.specs.declared.relieving.Relieved.{Relieved}
use Rattle.leo_conclude.specs.Conclusions.{constraint_pairs, relieved, rest_of, sides_of, unequal_pair}
use Rattle.leo_conclude.specs.Deriving.{IsChanged}
use Rattle.leo_conclude.specs.Leaving.{AreConstraints, AreNumbersOf, HasUnequal, Leaves, Stands}
use Rattle.leo_unify.specs.Residues.{residue}
use Rattle.leo_conclude.proofs.Changing.{changed-none, changed-twice}
use Rattle.leo_conclude.proofs.Resting.{stands-get, stands-in}

-- numbers
pub number-at : {X : Type 0} (xs : List X) (ns : List ℕ) → AreNumbersOf xs ns → (i d : ℕ) → i < length ns → slice_index_or ns i d < length xs
number-at xs [] h i d l = absurd (omega arith)
number-at xs (m ∷ ns) h zero d l = h.0
number-at xs (m ∷ ns) h (suc i) d l = number-at xs ns h.1 i d (omega arith)

get-index : {X : Type 0} (xs : List X) (i : ℕ) (x : X) → i < length xs → x ≡ slice_index_or xs i x → slice_get xs i ≡ Some x
get-index [] i x l e = absurd (omega arith)
get-index (y ∷ xs) zero x l e = let f : x ≡ y = e in rw f refl
get-index (y ∷ xs) (suc i) x l e = get-index xs i x (omega arith) e

get-map : {X Y : Type 0} (f : X → Y) (xs : List X) (i : ℕ) (x : X) → slice_get xs i ≡ Some x → slice_get (map f xs) i ≡ Some (f x)
get-map f [] i x h = absurd (cc)
get-map f (y ∷ xs) zero x h = let e : y ≡ x = cc in rw e refl
get-map f (y ∷ xs) (suc i) x h = get-map f xs i x h

lit-at : (c : Contents) (ls : List Lit) (i : ℕ) (l : Lit) → AreLiteralsOf c ls → slice_get ls i ≡ Some l → (l.left < length c.terms) × (l.right < length c.terms)
lit-at c [] i l h e = absurd (cc)
lit-at c (k ∷ ls) zero l h e = let f : k ≡ l = cc in rw (← f) (h.0, h.1)
lit-at c (k ∷ ls) (suc i) l h e = lit-at c ls i l h.2 e

typed-at : (variables : List SimpleType) (ls : List Literal) (i : ℕ) (l : Literal) → AreTyped variables ls → slice_get ls i ≡ Some l → AreTyped variables (l ∷ [])
typed-at variables [] i l h e = absurd (cc)
typed-at variables (k ∷ ls) zero l h e = let f : k ≡ l = cc in rw (← f) (h.0, tt)
typed-at variables (k ∷ ls) (suc i) l h e = typed-at variables ls i l h.1 e

flat-append : {X Y : Type 0} (f : X → List Y) (xs ys : List X) → flat_map f (xs ++ ys) ≡ flat_map f xs ++ flat_map f ys
flat-append f [] ys = refl
flat-append f (x ∷ xs) ys = ap (λ (zs : List _). f x ++ zs) (flat-append f xs ys) ∙ sym (append_assoc (f x) (flat_map f xs) (flat_map f ys))

pairs-end : (c : Contents) (variables : List SimpleType) (ps : List (ℕ × ℕ)) (p : ℕ × ℕ) → AreTypedPairs c variables ps → IsTypedPair c variables p → AreTypedPairs c variables (ps ++ p ∷ [])
pairs-end c variables [] p h g = (g, tt)
pairs-end c variables (q ∷ ps) p h g = (h.0, pairs-end c variables ps p h.1 g)

-- one pair more
pub pair-next : (c : Contents) (k : Clause) (ns : List ℕ) (ps : List (ℕ × ℕ)) (i n d : ℕ) (l : Lit) → IsTypedIn c k → AreNumbersOf k.lits ns → map (pair_of c) ps ≡ constraint_pairs (clause_at c k) (take i ns) → AreTypedPairs c (clause_at c k).variables ps → i < length ns → n ≡ slice_index_or ns i d → l ≡ slice_index_or k.lits n l →
    (map (pair_of c) (ps ++ (l.left, l.right) ∷ []) ≡ constraint_pairs (clause_at c k) (take (i + 1) ns)) × AreTypedPairs c (clause_at c k).variables (ps ++ (l.left, l.right) ∷ [])
pair-next c k ns ps i n d l typed numbers reads pairs lt is at =
    let within : n < length k.lits = rw is (number-at k.lits ns numbers i d lt) in
    let get = get-index k.lits n l within at in
    let tree : slice_get (clause_at c k).literals n ≡ Some (literal_at c l) = get-map (literal_at c) k.lits n l get in
    let t : take (i + 1) ns ≡ take i ns ++ n ∷ [] = take_more ns i d lt ∙ ap (λ z. take i ns ++ z ∷ []) (sym is) in
    let one : sides_of (slice_get (clause_at c k).literals n) ≡ pair_of c (l.left, l.right) ∷ [] = rw tree refl in
    let more : constraint_pairs (clause_at c k) (take (i + 1) ns) ≡ constraint_pairs (clause_at c k) (take i ns) ++ pair_of c (l.left, l.right) ∷ [] = ap (constraint_pairs (clause_at c k)) t ∙ flat-append (λ m. sides_of (slice_get (clause_at c k).literals m)) (take i ns) (n ∷ []) ∙ rw one refl in
    let w = lit-at c k.lits n l typed.of_bank.literals_of get in
    let h = (typed-at (clause_at c k).variables (clause_at c k).literals n (literal_at c l) typed.typed tree).0 in (
      map-append (pair_of c) ps ((l.left, l.right) ∷ []) ∙ rw reads refl ∙ sym more,
      pairs-end c (clause_at c k).variables ps (l.left, l.right) pairs (record { left_within = w.0; right_within = w.1; left_over = h.left_over; right_over = h.right_over; same_type = h.same_type }),
    )

take-all : {X : Type 0} (xs : List X) (n : ℕ) → length xs ≤ n → take n xs ≡ xs
take-all [] zero h = refl
take-all [] (suc n) h = refl
take-all (x ∷ xs) zero h = absurd (omega arith)
take-all (x ∷ xs) (suc n) h = ap (λ (ys : List _). x ∷ ys) (take-all xs n (omega arith))

pub pairs-all : (c : Contents) (k : Clause) (ns : List ℕ) (i : ℕ) (ps : List (ℕ × ℕ)) → map (pair_of c) ps ≡ constraint_pairs (clause_at c k) (take i ns) → length ns ≤ i → map (pair_of c) ps ≡ constraint_pairs (clause_at c k) ns
pairs-all c k ns i ps e l = e ∙ ap (constraint_pairs (clause_at c k)) (take-all ns i l)

-- the literals of which those from number n on are relieved
abbrev pub partly : List ℕ → ℕ → List Literal → List Literal
partly constraints n ls = take n ls ++ relieved constraints n (drop n ls)

drop-all : {X : Type 0} (xs : List X) (n : ℕ) → length xs ≤ n → drop n xs ≡ []
drop-all [] zero h = refl
drop-all [] (suc n) h = refl
drop-all (x ∷ xs) zero h = absurd (omega arith)
drop-all (x ∷ xs) (suc n) h = drop-all xs n (omega arith)

pub partly-all : (constraints : List ℕ) (n : ℕ) (ls : List Literal) → length ls ≤ n → ls ≡ partly constraints n ls
partly-all constraints n ls h = sym (rw (take-all ls n h, drop-all ls n h) (append-nil ls))

take-one : {X : Type 0} (xs : List X) (n : ℕ) (x : X) → slice_get xs n ≡ Some x → take (suc n) xs ≡ take n xs ++ x ∷ []
take-one [] n x e = absurd (cc)
take-one (y ∷ xs) zero x e = let f : y ≡ x = cc in rw f refl
take-one (y ∷ xs) (suc n) x e = ap (λ (ys : List _). y ∷ ys) (take-one xs n x e)

drop-one : {X : Type 0} (xs : List X) (n : ℕ) (x : X) → slice_get xs n ≡ Some x → drop n xs ≡ x ∷ drop (suc n) xs
drop-one [] n x e = absurd (cc)
drop-one (y ∷ xs) zero x e = let f : y ≡ x = cc in rw f refl
drop-one (y ∷ xs) (suc n) x e = drop-one xs n x e

length-take : {X : Type 0} (xs : List X) (n : ℕ) → n ≤ length xs → length (take n xs) ≡ n
length-take xs zero h = refl
length-take [] (suc n) h = absurd (omega arith)
length-take (x ∷ xs) (suc n) h = ap suc (length-take xs n (omega arith))

module _ (constraints : List ℕ) (ls : List Literal) (n : ℕ) (l : Literal) (stands : slice_get ls n ≡ Some l) where
  abbrev rest : List Literal
  rest = relieved constraints (suc n) (drop (suc n) ls)

  partly-next : partly constraints (suc n) ls ≡ take n ls ++ (l ∷ rest)
  partly-next = rw (take-one ls n l stands) (append_assoc (take n ls) (l ∷ []) rest)

  partly-here : partly constraints n ls ≡ take n ls ++ ((if list_any (nat_eq n) constraints then rest_of l else l ∷ []) ++ rest)
  partly-here = rw (drop-one ls n l stands) refl

  pub partly-kept : list_any (nat_eq n) constraints ≡ false → partly constraints n ls ≡ partly constraints (suc n) ls
  partly-kept e = partly-here ∙ rw e (sym partly-next)

  partly-left : list_any (nat_eq n) constraints ≡ true → take n ls ++ (rest_of l ++ rest) ≡ partly constraints n ls
  partly-left e = sym (partly-here ∙ rw e refl)

  -- the constraint of this number is relieved
  pub constraint-next : (c : Contents) (d p : Derived) (w : Relieved) (s t : ℕ) → n ≤ length ls → l ≡ unequal (tree_at c s) (tree_at c t) → list_any (nat_eq n) constraints ≡ true → IsChanged c d p [] (partly constraints (suc n) ls) [] → Leaves c p n s t (residue (tree_at c s) (tree_at c t)) w → IsChanged c d w.derived [] (partly constraints n ls) []
  constraint-next c d p w s t lt is e h g =
      let there : (clause_at c p.clause).literals ≡ take n ls ++ (unequal (tree_at c s) (tree_at c t) ∷ rest) = h.literals ∙ append-nil (partly constraints (suc n) ls) ∙ partly-next ∙ rw is refl in
      let k = g.leaves (take n ls) rest there (length-take ls n lt) in
      let same : take n ls ++ (map unequal_pair (residue (tree_at c s) (tree_at c t)) ++ rest) ≡ partly constraints n ls ++ [] = rw is at (partly-left e) ∙ sym (append-nil (partly constraints n ls)) in
      changed-twice c d p w.derived [] (partly constraints (suc n) ls) [] (take n ls) (map unequal_pair (residue (tree_at c s) (tree_at c t))) rest [] (partly constraints n ls) [] h k same

  pub constraint-stands : (c : Contents) (d p : Derived) → n ≤ length ls → IsChanged c d p [] (partly constraints (suc n) ls) [] → Stands (clause_at c p.clause).literals n l
  constraint-stands c d p lt h = record {
    front = take n ls;
    back = rest;
    is = h.literals ∙ append-nil (partly constraints (suc n) ls) ∙ partly-next;
    count = length-take ls n lt;
  }

some-at : {X : Type 0} (xs : List X) (n : ℕ) → n < length xs → (x : X) × (slice_get xs n ≡ Some x)
some-at [] n h = absurd (omega arith)
some-at (x ∷ xs) zero h = (x, refl)
some-at (x ∷ xs) (suc n) h = some-at xs n (omega arith)

-- the next literal, from the last one to the first
module _ (c : Contents) (d p : Derived) (constraints : List ℕ) (n : ℕ) (lt : n < length (clause_at c d.clause).literals) (h : IsChanged c d p [] (partly constraints (suc n) (clause_at c d.clause).literals) []) where
  abbrev original : (x : Literal) × (slice_get (clause_at c d.clause).literals n ≡ Some x)
  original = some-at (clause_at c d.clause).literals n lt

  pub next-kept : (b : Bool) → b ≡ list_any (nat_eq n) constraints → b ≡ false → IsChanged c d p [] (partly constraints n (clause_at c d.clause).literals) []
  next-kept b e f = rw (partly-kept constraints (clause_at c d.clause).literals n original.0 original.1 (sym e ∙ f)) h

  stands : Stands (clause_at c p.clause).literals n original.0
  stands = constraint-stands constraints (clause_at c d.clause).literals n original.0 original.1 c d p (omega arith) h

  pub next-there : n < length p.clause.lits
  next-there = stands-in c p.clause n original.0 stands

  module _ (lit : Lit) (is : lit ≡ slice_index_or p.clause.lits n lit) (b : Bool) (e : b ≡ list_any (nat_eq n) constraints) (yes : b ≡ true) (all : AreConstraints (clause_at c d.clause).literals constraints) where
    read : slice_get (clause_at c p.clause).literals n ≡ Some (literal_at c lit)
    read = get-map (literal_at c) p.clause.lits n lit (get-index p.clause.lits n lit next-there is)

    same : original.0 ≡ literal_at c lit
    same = (let f : Some original.0 ≡ Some (literal_at c lit) = sym (stands-get (clause_at c p.clause).literals n original.0 stands) ∙ read in cc)

    negative : lit.pos ≡ false
    negative = ap (λ (l : Literal). l.positive) (sym same) ∙ all n original.0 original.1 (sym e ∙ yes)

    unequal-is : original.0 ≡ unequal (tree_at c lit.left) (tree_at c lit.right)
    unequal-is = same ∙ ap (λ v. record { positive = v; left = tree_at c lit.left; right = tree_at c lit.right }) negative

    pub next-stands : HasUnequal c p.clause n lit.left lit.right
    next-stands = subst (λ (l : Literal). Stands (clause_at c p.clause).literals n l) unequal-is stands

    pub next-within : (lit.left < length c.terms) × (lit.right < length c.terms)
    next-within = lit-at c p.clause.lits n lit h.typed.of_bank.literals_of (get-index p.clause.lits n lit next-there is)

    pub next-changed : (w : Relieved) → Leaves c p n lit.left lit.right (residue (tree_at c lit.left) (tree_at c lit.right)) w → IsChanged c d w.derived [] (partly constraints n (clause_at c d.clause).literals) []
    next-changed w g = constraint-next constraints (clause_at c d.clause).literals n original.0 original.1 c d p w lit.left lit.right (omega arith) unequal-is (sym e ∙ yes) h g

length-map : {X Y : Type 0} (f : X → Y) (xs : List X) → length (map f xs) ≡ length xs
length-map f [] = refl
length-map f (x ∷ xs) = ap suc (length-map f xs)

-- counting from the last one
pub before-all : (c : Contents) (d : Derived) (count done : ℕ) → count ≡ length d.clause.lits → done < count → count - 1 - done < length (clause_at c d.clause).literals
before-all c d count done e l = (let f = length-map (literal_at c) d.clause.lits in omega arith)

pub still-partly : (c : Contents) (d p : Derived) (constraints : List ℕ) (count done : ℕ) → done < count → IsChanged c d p [] (partly constraints (count - done) (clause_at c d.clause).literals) [] → IsChanged c d p [] (partly constraints (suc (count - 1 - done)) (clause_at c d.clause).literals) []
still-partly c d p constraints count done l h =
    let e : count - done ≡ suc (count - 1 - done) = omega arith in
    subst (λ n. IsChanged c d p [] (partly constraints n (clause_at c d.clause).literals) []) e h

pub now-partly : (c : Contents) (d p : Derived) (constraints : List ℕ) (count done : ℕ) → done < count → IsChanged c d p [] (partly constraints (count - 1 - done) (clause_at c d.clause).literals) [] → IsChanged c d p [] (partly constraints (count - (done + 1)) (clause_at c d.clause).literals) []
now-partly c d p constraints count done l h =
    let e : count - 1 - done ≡ count - (done + 1) = omega arith in
    subst (λ n. IsChanged c d p [] (partly constraints n (clause_at c d.clause).literals) []) e h

pub partly-first : (c : Contents) (d : Derived) (constraints : List ℕ) (n : ℕ) → IsTypedIn c d.clause → n ≡ length d.clause.lits → IsChanged c d d [] (partly constraints n (clause_at c d.clause).literals) []
partly-first c d constraints n typed e =
    let f = length-map (literal_at c) d.clause.lits in
    changed-none c d [] (partly constraints n (clause_at c d.clause).literals) [] typed (partly-all constraints n (clause_at c d.clause).literals (omega arith) ∙ sym (append-nil (partly constraints n (clause_at c d.clause).literals)))
