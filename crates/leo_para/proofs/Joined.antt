-- The literals of a conclusion, by number and as trees.
use Rattle.std.proofs.Common.{ℕ, zero, suc, ◌≡◌, ◌∙◌, ◌+◌, ◌-◌, ◌<◌, false, List, [], ◌∷◌, ◌++◌, append_assoc, length, length-append, map, take, drop, slice_get, Option, Some, None, refl, sym, ap, subst, arith}
use Rattle.std.specs.Prelude.{IsSomeAnd}
use Rattle.std.proofs.lemmas.List.{map-append}
use Rattle.leo_terms.specs.Tree.{Tree, type_of}
use Rattle.leo_terms.specs.Contents.{Contents, Extends, IsTerm, tree_at}
use Rattle.leo_terms.proofs.CallerLemmas.{tree-kept}
use Rattle.leo_clause.specs.declared.clause.Clause.{Clause}
use Rattle.leo_clause.specs.declared.clause.Lit.{Lit}
use Rattle.leo_clause.specs.declared.record.Side.{Side}
use Rattle.leo_clause.specs.declared.record.Side.TheVariants.{Left, Right}
use Rattle.leo_clause.specs.Trees.{literal_at}
use Rattle.leo_clause.specs.Typed.{AreLiteralsOf, AreTypesOf, IsClauseOf}
use Rattle.leo_kernel.specs.ByNumber.{other_side_number, side_number}
use Rattle.leo_kernel.specs.Conclusions.{with_literals, without}
use Rattle.leo_kernel.specs.Moved.{joined}
use Rattle.leo_kernel.specs.Places.{replaced_at, replaced_in, subterm}
use Rattle.leo_kernel.specs.Shapes.{other_side_of, side_of, unequal}
use Rattle.leo_kernel.proofs.Clauses.{lits-append, lits-placed, map-placed, types-append}
use Rattle.leo_kernel.proofs.Growing.{lits-grow, lits-kept, types-grow}
use Rattle.leo_kernel.proofs.Lists.{get-map}
use Rattle.leo_para.specs.declared.due.Found.{Found}
use Rattle.leo_para.specs.Concluding.{IsConcluded, IsConstraint, IsLiteral, LeadsIn}
use Rattle.leo_para.specs.Found.{IsLitOf}

some-value : {X : Type 0} {x y : X} → Some x ≡ Some y → x ≡ y
some-value e = cc

-- sides
pub side-within : (c : Contents) (s : Side) (l : Lit) → IsLitOf c l → side_number s l < length c.terms
side-within c Left l h = h.0
side-within c Right l h = h.1

pub other-within : (c : Contents) (s : Side) (l : Lit) → IsLitOf c l → other_side_number s l < length c.terms
other-within c Left l h = h.1
other-within c Right l h = h.0

side-reads : (c : Contents) (s : Side) (l : Lit) → tree_at c (side_number s l) ≡ side_of s (literal_at c l)
side-reads c Left l = refl
side-reads c Right l = refl

other-reads : (c : Contents) (s : Side) (l : Lit) → tree_at c (other_side_number s l) ≡ other_side_of s (literal_at c l)
other-reads c Left l = refl
other-reads c Right l = refl

pub lit-grow : {c d : Contents} → Extends c d → (l : Lit) → IsLitOf c l → IsLitOf d l
lit-grow e l h = let m = e.terms_more in let p = h.0 in let q = h.1 in (omega arith, omega arith)

pub lit-kept : {c d : Contents} → Extends c d → (l : Lit) → IsLitOf c l → literal_at d l ≡ literal_at c l
lit-kept e l h = rw (tree-kept e l.left h.0, tree-kept e l.right h.1) refl

-- a literal with another term in a side
pub left-replaced : {c d : Contents} → Extends c d → (l : Lit) (side : Side) (path : List ℕ) (by new i : ℕ) → side ≡ Left → IsLitOf c l → IsTerm d new i (replaced_at path (tree_at c by) (tree_at c l.left)) → IsLiteral d (record { pos = l.pos; left = new; right = l.right }) (replaced_in side path (tree_at c by) (literal_at c l))
left-replaced e l side path by new i s h m = let k = e.terms_more in let r = h.1 in record { left_within = m.within; right_within = omega arith; reads = rw (s, m.reads, tree-kept e l.right r) refl }

pub right-replaced : {c d : Contents} → Extends c d → (l : Lit) (side : Side) (path : List ℕ) (by new i : ℕ) → side ≡ Right → IsLitOf c l → IsTerm d new i (replaced_at path (tree_at c by) (tree_at c l.right)) → IsLiteral d (record { pos = l.pos; left = l.left; right = new }) (replaced_in side path (tree_at c by) (literal_at c l))
right-replaced e l side path by new i s h m = let k = e.terms_more in let r = h.0 in record { left_within = omega arith; right_within = m.within; reads = rw (s, m.reads, tree-kept e l.left r) refl }

-- lists that are put together
pub placed-list : {X : Type 0} (f front piece new rest back first whole : List X) → f ≡ front → piece ≡ new → rest ≡ back → first ≡ f ++ piece → whole ≡ first ++ rest → whole ≡ front ++ (new ++ back)
placed-list f front piece new rest back first whole a b d e g = g ∙ rw (e, a, b, d) (append_assoc front new back)

-- a literal at a place
pub lit-at : (c : Contents) (ls : List Lit) → AreLiteralsOf c ls → (i : ℕ) (l : Lit) → slice_get ls i ≡ Some l → IsLitOf c l
lit-at c [] h i l e = absurd (cc)
lit-at c (k ∷ ls) h zero l e = subst (IsLitOf c) (some-value e) (h.0, h.1)
lit-at c (k ∷ ls) h (suc i) l e = lit-at c ls h.2 i l e

-- the literal that is to be solved
module _ (c : Contents) (m : Found) (there : Lit) (whole : ℕ) (reads : whole ≡ side_number m.place_side there) where
  pub constraint-made : (left right : ℕ) → IsLitOf c m.equation → left ≡ side_number m.side m.equation → Some (tree_at c right) ≡ subterm m.path (tree_at c whole) → right < length c.terms → IsConstraint c m there (record { pos = false; left = left; right = right })
  constraint-made left right h e at l =
      let f : tree_at c whole ≡ side_of m.place_side (literal_at c there) = ap (tree_at c) reads ∙ side-reads c m.place_side there in
      let g : tree_at c left ≡ side_of m.side (literal_at c m.equation) = ap (tree_at c) e ∙ side-reads c m.side m.equation in
      record {
        left_within = rw e (side-within c m.side m.equation h);
        right_within = l;
        reads = λ t p. (let k : tree_at c right ≡ t = some-value (at ∙ ap (subterm m.path) f ∙ p) in rw (g, k) refl);
      }

  pub constraint-stands : LeadsIn c m there → None ≡ subterm m.path (tree_at c whole) → ⊥
  constraint-stands h e =
      let f : tree_at c whole ≡ side_of m.place_side (literal_at c there) = ap (tree_at c) reads ∙ side-reads c m.place_side there in
      subst (λ o. IsSomeAnd o (λ t. type_of (other_side_of m.side (literal_at c m.equation)) ≡ type_of t)) (ap (subterm m.path) (sym f) ∙ sym e) h

-- what comes there has the type of what stands there
pub by-typed : (c : Contents) (m : Found) (there : Lit) (by : ℕ) → by ≡ other_side_number m.side m.equation → LeadsIn c m there → IsSomeAnd (subterm m.path (side_of m.place_side (literal_at c there))) (λ s. type_of s ≡ type_of (tree_at c by))
by-typed c m there by e h = turn (subterm m.path (side_of m.place_side (literal_at c there))) h
  where
    same : tree_at c by ≡ other_side_of m.side (literal_at c m.equation)
    same = ap (tree_at c) e ∙ other-reads c m.side m.equation

    turn : (o : Option Tree) → IsSomeAnd o (λ t. type_of (other_side_of m.side (literal_at c m.equation)) ≡ type_of t) → IsSomeAnd o (λ s. type_of s ≡ type_of (tree_at c by))
    turn None g = g
    turn (Some t) g = sym g ∙ ap type_of (sym same)

-- counts
take-length : {X : Type 0} (i : ℕ) (xs : List X) → i < length xs → length (take i xs) ≡ i
take-length zero xs l = refl
take-length (suc i) [] l = absurd (omega arith)
take-length (suc i) (x ∷ xs) l = ap suc (take-length i xs (omega arith))

drop-length : {X : Type 0} (i : ℕ) (xs : List X) → i < length xs → length (drop (suc i) xs) + suc i ≡ length xs
drop-length zero [] l = absurd (omega arith)
drop-length zero (x ∷ xs) l = omega arith
drop-length (suc i) [] l = absurd (omega arith)
drop-length (suc i) (x ∷ xs) l = let h = drop-length i xs (omega arith) in omega arith

placed-length : {X : Type 0} (i : ℕ) (xs new : List X) → i < length xs → length (take i xs ++ (new ++ drop (suc i) xs)) + 1 ≡ length xs + length new
placed-length i xs new l =
    let p = length-append (take i xs) (new ++ drop (suc i) xs) in
    let q = length-append new (drop (suc i) xs) in
    let r = take-length i xs l in
    let s = drop-length i xs l in
    omega arith

pub joined-length : (source target : List Lit) (i j : ℕ) (new last : Lit) → i < length source → j < length target → length (joined source i target j new last) - 1 ≡ length source - 1 + length target
joined-length source target i j new last p q =
    let front = take i source ++ ([] ++ drop (suc i) source) in
    let back = take j target ++ ((new ∷ []) ++ drop (suc j) target) in
    let a = length-append front (back ++ last ∷ []) in
    let b = length-append back (last ∷ []) in
    let c : length front + 1 ≡ length source + 0 = placed-length i source [] p in
    let d : length back + 1 ≡ length target + 1 = placed-length j target (new ∷ []) q in
    omega arith

-- the whole conclusion
module _ (c : Contents) (source target : List Lit) (i j : ℕ) (new last : Lit) where
  joined-within : AreLiteralsOf c source → AreLiteralsOf c target → IsLitOf c new → IsLitOf c last → AreLiteralsOf c (joined source i target j new last)
  joined-within hs ht p q =
      lits-append c (take i source ++ ([] ++ drop (suc i) source)) ((take j target ++ ((new ∷ []) ++ drop (suc j) target)) ++ last ∷ []) (lits-placed c i source [] hs tt)
      (lits-append c (take j target ++ ((new ∷ []) ++ drop (suc j) target)) (last ∷ []) (lits-placed c j target (new ∷ []) ht (p.0, p.1, tt)) (q.0, q.1, tt))

  joined-reads : map (literal_at c) (joined source i target j new last) ≡ without (map (literal_at c) source) i ++ (with_literals (map (literal_at c) target) j (literal_at c new ∷ []) ++ literal_at c last ∷ [])
  joined-reads =
      map-append (literal_at c) (take i source ++ ([] ++ drop (suc i) source)) ((take j target ++ ((new ∷ []) ++ drop (suc j) target)) ++ last ∷ [])
      ∙ rw (map-placed c i source [], map-append (literal_at c) (take j target ++ ((new ∷ []) ++ drop (suc j) target)) (last ∷ []), map-placed c j target (new ∷ [])) refl

pub conclusion-made : {c d : Contents} → Extends c d → (source target : Clause) (moved : List Lit) (m : Found) (there new last : Lit) (by : ℕ) (vars : List ℕ) (lits : List Lit) →
    IsClauseOf c source → AreTypesOf c target.vars → AreLiteralsOf c moved → IsLitOf c m.equation → m.literal < length source.lits → m.place < length moved → slice_get moved m.place ≡ Some there →
    IsConstraint c m there last → by ≡ other_side_number m.side m.equation → IsLiteral d new (replaced_in m.place_side m.path (tree_at c by) (literal_at c there)) →
    vars ≡ source.vars ++ target.vars → lits ≡ joined source.lits m.literal moved m.place new last → IsConcluded c d source target moved m (record { vars = vars; lits = lits })
conclusion-made {c} {d} e source target moved m there new last by vars lits hs ht hm he li lp at con is new-is v l =
    let last-of : IsLitOf d last = lit-grow e last (con.left_within, con.right_within) in
    let same : tree_at c by ≡ other_side_of m.side (literal_at c m.equation) = ap (tree_at c) is ∙ other-reads c m.side m.equation in
    record {
      clause_of = record {
        types_of = rw v (types-append d source.vars target.vars (types-grow e source.vars hs.types_of) (types-grow e target.vars ht));
        literals_of = rw l (joined-within d source.lits moved m.literal m.place new last (lits-grow e source.lits hs.literals_of) (lits-grow e moved hm) (new-is.left_within, new-is.right_within) last-of);
      };
      variables = v;
      literals = λ k t g p.
          let there-is : literal_at c there ≡ k = some-value (sym (get-map (literal_at c) moved m.place ∙ rw at refl) ∙ g) in
          let new-reads : literal_at d new ≡ replaced_in m.place_side m.path (other_side_of m.side (literal_at c m.equation)) k = new-is.reads ∙ rw (same, there-is) refl in
          let last-reads : literal_at d last ≡ unequal (side_of m.side (literal_at c m.equation)) t = lit-kept e last (con.left_within, con.right_within) ∙ con.reads t (rw there-is p) in
          ap (map (literal_at d)) l ∙ joined-reads d source.lits moved m.literal m.place new last
          ∙ rw (lits-kept e source.lits hs.literals_of, lits-kept e moved hm, new-reads, last-reads) refl;
      last = ap (λ (xs : List Lit). length xs - 1) l ∙ joined-length source.lits moved m.literal m.place new last li lp;
    }
