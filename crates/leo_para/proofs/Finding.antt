-- What is in lists that are put together, and what is known of a member.
use Rattle.std.proofs.Common.{ℕ, zero, suc, ◌≡◌, ◌+◌, Bool, true, false, ◌&&◌, List, [], ◌∷◌, ◌++◌, map, slice_get, Some, refl, sym, subst, arith, ◌⊎◌, inl, inr}
use Rattle.std.specs.Bool.{if◌then◌else◌}
use Rattle.std.specs.List.{flat_map}
use Rattle.std.proofs.lemmas.Bool.{and_parts}
use Rattle.leo_q0.specs.Terms.{same_type}
use Rattle.leo_q0.proofs.Variables.{equal_types}
use Rattle.leo_terms.specs.Tree.{type_of}
use Rattle.leo_clause.specs.declared.record.Side.{Side}
use Rattle.leo_clause.specs.Trees.{Literal, ClauseTree}
use Rattle.leo_kernel.specs.Shapes.{side_of}
use Rattle.leo_para.specs.Spines.{heads_meet}
use Rattle.leo_para.specs.Places.{Place, places}
use Rattle.leo_para.specs.Members.{Member, due_members, each_literal, member_at, members_of_equation, members_of_target, used_sides}

-- one of a list
abbrev pub IsIn : {X : Type 0} → X → List X → Type 0
IsIn x [] = ⊥
IsIn x (y ∷ ys) = (x ≡ y) ⊎ IsIn x ys

pub in-get : {X : Type 0} (xs : List X) (n : ℕ) (x : X) → slice_get xs n ≡ Some x → IsIn x xs
in-get [] n x e = (let f : ⊥ = cc in f)
in-get (y ∷ xs) zero x e = inl (let f : y ≡ x = cc in sym f)
in-get (y ∷ xs) (suc n) x e = inr (in-get xs n x e)

pub in-append : {X : Type 0} (x : X) (xs ys : List X) → IsIn x (xs ++ ys) → IsIn x xs ⊎ IsIn x ys
in-append x [] ys h = inr h
in-append x (y ∷ xs) ys (inl e) = inl (inl e)
in-append x (y ∷ xs) ys (inr h) = elim (in-append x xs ys h) [ inl g ↦ inl (inr g) | inr g ↦ inr g ]

pub record IsImage {X Y : Type 0} (f : X → Y) (y : Y) (xs : List X) : Type 0 where
  pub item : X
  pub among : IsIn item xs
  pub image : y ≡ f item

pub in-map : {X Y : Type 0} (f : X → Y) (xs : List X) (y : Y) → IsIn y (map f xs) → IsImage f y xs
in-map f [] y h = absurd h
in-map f (x ∷ xs) y (inl e) = record { item = x; among = inl refl; image = e }
in-map f (x ∷ xs) y (inr h) = let r = in-map f xs y h in record { item = r.item; among = inr r.among; image = r.image }

pub record IsGivenBy {X Y : Type 0} (f : X → List Y) (y : Y) (xs : List X) : Type 0 where
  pub item : X
  pub among : IsIn item xs
  pub given : IsIn y (f item)

pub in-flat_map : {X Y : Type 0} (f : X → List Y) (xs : List X) (y : Y) → IsIn y (flat_map f xs) → IsGivenBy f y xs
in-flat_map f [] y h = absurd h
in-flat_map f (x ∷ xs) y h =
    elim (in-append y (f x) (flat_map f xs) h) [
      | inl g ↦ record { item = x; among = inl refl; given = g }
      | inr g ↦ (let r = in-flat_map f xs y g in record { item = r.item; among = inr r.among; given = r.given })
    ]

in-if : {X : Type 0} (b : Bool) (x : X) (xs : List X) → IsIn x (if b then xs else []) → (b ≡ true) × IsIn x xs
in-if true x xs h = (refl, h)
in-if false x xs h = absurd h

-- a literal of a list, by its number
pub record IsOfLiteral {X : Type 0} (give : ℕ → Literal → List X) (n : ℕ) (ls : List Literal) (x : X) : Type 0 where
  pub number : ℕ
  pub literal : Literal
  pub stands : slice_get ls number ≡ Some literal
  pub given : IsIn x (give (n + number) literal)

pub in-each : {X : Type 0} (give : ℕ → Literal → List X) (n : ℕ) (ls : List Literal) (x : X) → IsIn x (each_literal give n ls) → IsOfLiteral give n ls x
in-each give n [] x h = absurd h
in-each give n (l ∷ ls) x h =
    elim (in-append x (give n l) (each_literal give (suc n) ls) h) [
      | inl g ↦ record { number = zero; literal = l; stands = refl; given = (let e : n + zero ≡ n = omega arith in subst (λ m. IsIn x (give m l)) (sym e) g) }
      | inr g ↦ (let r = in-each give (suc n) ls x g in let e : n + suc r.number ≡ suc n + r.number = omega arith in record { number = suc r.number; literal = r.literal; stands = r.stands; given = subst (λ m. IsIn x (give m r.literal)) (sym e) r.given })
    ]

-- the same from number 0 on
pub record IsOfFirst {X : Type 0} (give : ℕ → Literal → List X) (ls : List Literal) (x : X) : Type 0 where
  pub number : ℕ
  pub literal : Literal
  pub stands : slice_get ls number ≡ Some literal
  pub given : IsIn x (give number literal)

in-first : {X : Type 0} (give : ℕ → Literal → List X) (ls : List Literal) (x : X) → IsIn x (each_literal give 0 ls) → IsOfFirst give ls x
in-first give ls x h =
    let r = in-each give 0 ls x h in
    let e : 0 + r.number ≡ r.number = omega arith in
    record { number = r.number; literal = r.literal; stands = r.stands; given = subst (λ m. IsIn x (give m r.literal)) e r.given }

-- what is known of a member
pub record IsDue (source target : List Literal) (m : Member) : Type 0 where
  pub equation_at : slice_get source m.literal ≡ Some m.equation
  pub positive : m.equation.positive ≡ true
  pub target_at : slice_get target m.place ≡ Some m.target
  pub place_in : IsIn (record { path = m.path; term = m.term }) (places (side_of m.place_side m.target))
  pub types : type_of (side_of m.side m.equation) ≡ type_of m.term

due-there : (source target : List Literal) (i : ℕ) (l : Literal) (s : Side) (j : ℕ) (k : Literal) (r : Side) (p : Place) (m : Member) → slice_get source i ≡ Some l → l.positive ≡ true → slice_get target j ≡ Some k → IsIn p (places (side_of r k)) → IsIn m (member_at i l s j k r p) → IsDue source target m
due-there source target i l s j k r p m at pos there among h =
    let q = in-if (heads_meet p.path (side_of s l) p.term && same_type (type_of (side_of s l)) (type_of p.term)) m _ h in
    let t = and_parts (heads_meet p.path (side_of s l) p.term) _ q.0 in
    let e = equal_types (type_of (side_of s l)) (type_of p.term) t.1 in
    elim q.1 [
      | inl f ↦ subst (IsDue source target) (sym f) (record { equation_at = at; positive = pos; target_at = there; place_in = among; types = e })
      | inr g ↦ absurd g
    ]

pub is-due : (source target : ClauseTree) (m : Member) → IsIn m (due_members source target) → IsDue source.literals target.literals m
is-due source target m h =
    let a = in-first (members_of_equation target.literals) source.literals m h in
    let b = in-if a.literal.positive m _ a.given in
    let c = in-flat_map (λ s. each_literal (members_of_target a.number a.literal s) 0 target.literals) (used_sides a.literal) m b.1 in
    let d = in-first (members_of_target a.number a.literal c.item) target.literals m c.given in
    let e = in-flat_map (λ r. flat_map (member_at a.number a.literal c.item d.number d.literal r) (places (side_of r d.literal))) (used_sides d.literal) m d.given in
    let f = in-flat_map (member_at a.number a.literal c.item d.number d.literal e.item) (places (side_of e.item d.literal)) m e.given in
    due-there source.literals target.literals a.number a.literal c.item d.number d.literal e.item f.item m a.stands b.0 d.stands f.among f.given
