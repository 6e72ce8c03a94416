-- Terms whose variables are moved: moving is putting in the moved variables, and what is typed once it was moved had its variables.
use Rattle.std.proofs.Common.{ℕ, zero, suc, ◌≡◌, ◌∙◌, ◌+◌, true, List, [], ◌∷◌, ◌++◌, length, map, slice_get, Option, Some, None, refl, sym, ap, arith}
use Rattle.std.specs.Option.{option_and_then}
use Rattle.std.proofs.lemmas.Bool.{and_parts}
use Rattle.leo_q0.specs.Terms.{SimpleType}
use Rattle.leo_terms.specs.Tree.{Tree, variable, bound, symbol, app, lam, logic, absent, type_of, substituted, variable_given}
use Rattle.leo_clause.specs.Trees.{Literal}
use Rattle.leo_clause.specs.Typed.{IsOver, AreTyped}
use Rattle.leo_clause.specs.Renaming.{substituted_literal}
use Rattle.leo_clause.specs.declared.record.Side.{Side}
use Rattle.leo_clause.specs.declared.record.Side.TheVariants.{Left, Right}
use Rattle.leo_kernel.specs.declared.leaves.LeafTest.TheVariants.{Declared}
use Rattle.leo_kernel.specs.Shapes.{side_of, unequal}
use Rattle.leo_kernel.specs.Places.{child, present, subterm, with_child, replaced_at, replaced_in, shifted, shifted_literal}
use Rattle.leo_kernel.specs.Conclusions.{with_literals}
use Rattle.leo_kernel.specs.Leaves.{leaves_pass, AreDeclared}
use Rattle.leo_kernel.specs.Moved.{variables_from}
use Rattle.leo_kernel.proofs.LeafTests.{both, is_type-true, true-is_type}

some-value : {X : Type 0} {x y : X} → Some x ≡ Some y → x ≡ y
some-value e = cc

variable-from : (first : ℕ) (types : List SimpleType) (i : ℕ) (a : SimpleType) → slice_get types i ≡ Some a → slice_get (variables_from first types) i ≡ Some (variable (first + i) a)
variable-from first [] i a e = cc
variable-from first (b ∷ types) zero a e = moved (some-value e)
  where
    moved : b ≡ a → Some (variable first b) ≡ Some (variable (first + 0) a)
    moved e = let k : first + 0 ≡ first = omega arith in rw (e, k) refl
variable-from first (b ∷ types) (suc i) a e =
    let k : first + suc i ≡ suc first + i = omega arith in
    rw k (variable-from (suc first) types i a e)

given-variable : (first k m : ℕ) (a : SimpleType) (o : Option Tree) → o ≡ Some (variable (first + m) a) → variable_given k o m a ≡ variable (first + m) a
given-variable first k m a o e = rw e refl

pub variables-types : (first : ℕ) (types : List SimpleType) → map type_of (variables_from first types) ≡ types
variables-types first [] = refl
variables-types first (a ∷ types) = ap (λ (bs : List SimpleType). a ∷ bs) (variables-types (suc first) types)

-- moving is putting in the moved variables
pub substituted-variables : (first : ℕ) (types : List SimpleType) (depth k : ℕ) (t : Tree) → leaves_pass Declared types depth t ≡ true → substituted (variables_from first types) k t ≡ shifted first t
substituted-variables first types depth k (variable m a) h = given-variable first k m a (slice_get (variables_from first types) m) (variable-from first types m a (true-is_type (slice_get types m) a h))
substituted-variables first types depth k (bound i a) h = refl
substituted-variables first types depth k (symbol s a) h = refl
substituted-variables first types depth k (app f x) h = let p = and_parts (leaves_pass Declared types depth f) _ h in rw (substituted-variables first types depth k f p.0, substituted-variables first types depth k x p.1) refl
substituted-variables first types depth k (lam a t) h = rw (substituted-variables first types (depth + 1) (k + 1) t h) refl
substituted-variables first types depth k (logic c x y) h = let p = and_parts (leaves_pass Declared types depth x) _ h in rw (substituted-variables first types depth k x p.0, substituted-variables first types depth k y p.1) refl
substituted-variables first types depth k absent h = refl

pub literals-moved : (first : ℕ) (types : List SimpleType) (ls : List Literal) → AreDeclared types ls → map (substituted_literal (variables_from first types)) ls ≡ map (shifted_literal first) ls
literals-moved first types [] h = refl
literals-moved first types (l ∷ ls) h =
    let p = substituted-variables first types 0 0 l.left h.0 in
    let q = substituted-variables first types 0 0 l.right h.1 in
    let r = literals-moved first types ls h.2 in
    rw (p, q, r) refl

-- what was moved over variables behind others was over those
pub behind : {X : Type 0} (xs ys : List X) (i : ℕ) → slice_get (xs ++ ys) (length xs + i) ≡ slice_get ys i
behind [] ys i = let e : 0 + i ≡ i = omega arith in rw e refl
behind (x ∷ xs) ys i = let e : suc (length xs) + i ≡ suc (length xs + i) = omega arith in rw e (behind xs ys i)

module _ (front types : List SimpleType) where
  moved-declared : (depth d : ℕ) (t : Tree) → IsOver (front ++ types) depth (shifted (length front) t) → leaves_pass Declared types d t ≡ true
  moved-declared depth d (variable m a) h = is_type-true (slice_get types m) a (sym (behind front types m) ∙ h)
  moved-declared depth d (bound i a) h = refl
  moved-declared depth d (symbol s a) h = refl
  moved-declared depth d (app f x) h = both _ _ (moved-declared depth d f h.0) (moved-declared depth d x h.1)
  moved-declared depth d (lam a t) h = moved-declared (depth + 1) (d + 1) t h
  moved-declared depth d (logic c x y) h = both _ _ (moved-declared depth d x h.0) (moved-declared depth d y h.1)
  moved-declared depth d absent h = refl

  literals-declared : (ls : List Literal) → AreTyped (front ++ types) (map (shifted_literal (length front)) ls) → AreDeclared types ls
  literals-declared [] h = tt
  literals-declared (l ∷ ls) h = (moved-declared 0 0 l.left h.0.left_over, moved-declared 0 0 l.right h.0.right_over, literals-declared ls h.1)

  -- one literal is known by itself, and the others are typed once they were moved
  declared-around : (ls : List Literal) (j : ℕ) (k x : Literal) → slice_get ls j ≡ Some k → AreTyped (front ++ types) (with_literals (map (shifted_literal (length front)) ls) j (x ∷ [])) →
      leaves_pass Declared types 0 k.left ≡ true → leaves_pass Declared types 0 k.right ≡ true → AreDeclared types ls
  declared-around [] j k x e h p q = (let f : ⊥ = cc in absurd f)
  declared-around (l ∷ ls) zero k x e h p q = let f : l ≡ k = some-value e in (rw f p, rw f q, literals-declared ls h.1)
  declared-around (l ∷ ls) (suc j) k x e h p q = (moved-declared 0 0 l.left h.0.left_over, moved-declared 0 0 l.right h.0.right_over, declared-around ls j k x e h.1 p q)

-- what stands at a path, once it was moved
present-shifted : (by : ℕ) (x u : Tree) → present x ≡ Some u → present (shifted by x) ≡ Some (shifted by u)
present-shifted by (variable m a) u e = ap (λ t. Some (shifted by t)) (some-value e)
present-shifted by (bound i a) u e = ap (λ t. Some (shifted by t)) (some-value e)
present-shifted by (symbol m a) u e = ap (λ t. Some (shifted by t)) (some-value e)
present-shifted by (app f x) u e = ap (λ t. Some (shifted by t)) (some-value e)
present-shifted by (lam a t) u e = ap (λ t. Some (shifted by t)) (some-value e)
present-shifted by (logic c x y) u e = ap (λ t. Some (shifted by t)) (some-value e)
present-shifted by absent u e = (let f : ⊥ = cc in absurd f)

child-shifted : (by n : ℕ) (t u : Tree) → child n t ≡ Some u → child n (shifted by t) ≡ Some (shifted by u)
child-shifted by zero (app f x) u e = ap (λ t. Some (shifted by t)) (some-value e)
child-shifted by (suc zero) (app f x) u e = ap (λ t. Some (shifted by t)) (some-value e)
child-shifted by (suc (suc n)) (app f x) u e = (let f : ⊥ = cc in absurd f)
child-shifted by zero (logic c x y) u e = present-shifted by x u e
child-shifted by (suc zero) (logic c x y) u e = present-shifted by y u e
child-shifted by (suc (suc n)) (logic c x y) u e = (let f : ⊥ = cc in absurd f)
child-shifted by n (variable m a) u e = (let f : ⊥ = cc in absurd f)
child-shifted by n (bound i a) u e = (let f : ⊥ = cc in absurd f)
child-shifted by n (symbol m a) u e = (let f : ⊥ = cc in absurd f)
child-shifted by n (lam a t) u e = (let f : ⊥ = cc in absurd f)
child-shifted by n absent u e = (let f : ⊥ = cc in absurd f)

pub subterm-shifted : (by : ℕ) (path : List ℕ) (t s : Tree) → subterm path t ≡ Some s → subterm path (shifted by t) ≡ Some (shifted by s)
subterm-shifted by [] t s e = ap (λ t. Some (shifted by t)) (some-value e)
subterm-shifted by (n ∷ path) t s e = go (child n t) refl e (subterm-shifted by path)
  where
    go : (o : Option Tree) → child n t ≡ o → option_and_then (subterm path) o ≡ Some s → ((u s : Tree) → subterm path u ≡ Some s → subterm path (shifted by u) ≡ Some (shifted by s)) →
        option_and_then (subterm path) (child n (shifted by t)) ≡ Some (shifted by s)
    go None k e inner = (let f : ⊥ = cc in absurd f)
    go (Some u) k e inner = rw (child-shifted by n t u k) (inner u s e)

-- a term is over variables, where what stands at a path is, and the term with something else in its place
pub present-same : (x u : Tree) → present x ≡ Some u → x ≡ u
present-same (variable m a) u e = cc
present-same (bound i a) u e = cc
present-same (symbol m a) u e = cc
present-same (app f x) u e = cc
present-same (lam a t) u e = cc
present-same (logic c x y) u e = cc
present-same absent u e = (let f : ⊥ = cc in absurd f)

module _ (vs : List SimpleType) where
  over-child : (n : ℕ) (change : Tree → Tree) (s u : Tree) → child n s ≡ Some u → IsOver vs 0 (with_child n change s) → (IsOver vs 0 (change u) → IsOver vs 0 u) → IsOver vs 0 s
  over-child zero change (app f x) u e h inner = let g : f ≡ u = some-value e in (rw g (inner (rw g at h.0)), h.1)
  over-child (suc zero) change (app f x) u e h inner = let g : x ≡ u = some-value e in (h.0, rw g (inner (rw g at h.1)))
  over-child (suc (suc n)) change (app f x) u e h inner = h
  over-child zero change (logic c x y) u e h inner = let g : x ≡ u = present-same x u e in (rw g (inner (rw g at h.0)), h.1)
  over-child (suc zero) change (logic c x y) u e h inner = let g : y ≡ u = present-same y u e in (h.0, rw g (inner (rw g at h.1)))
  over-child (suc (suc n)) change (logic c x y) u e h inner = h
  over-child n change (variable m a) u e h inner = h
  over-child n change (bound i a) u e h inner = h
  over-child n change (symbol m a) u e h inner = h
  over-child n change (lam a t) u e h inner = h
  over-child n change absent u e h inner = h

  over-replaced : (path : List ℕ) (r s t : Tree) → subterm path s ≡ Some t → IsOver vs 0 (replaced_at path r s) → IsOver vs 0 t → IsOver vs 0 s
  over-replaced [] r s t e h k = let f : s ≡ t = some-value e in rw f k
  over-replaced (n ∷ path) r s t e h k = go (child n s) refl e (λ u g p. over-replaced path r u t g p k)
    where
      go : (o : Option Tree) → child n s ≡ o → option_and_then (subterm path) o ≡ Some t → ((u : Tree) → subterm path u ≡ Some t → IsOver vs 0 (replaced_at path r u) → IsOver vs 0 u) → IsOver vs 0 s
      go None f g inner = (let z : ⊥ = cc in absurd z)
      go (Some u) f g inner = over-child n (replaced_at path r) s u f h (inner u g)

  typed-split : (ls ks : List Literal) → AreTyped vs (ls ++ ks) → AreTyped vs ls × AreTyped vs ks
  typed-split [] ks h = (tt, h)
  typed-split (l ∷ ls) ks h = let p = typed-split ls ks h.1 in ((h.0, p.0), p.1)

  typed-at : (ls : List Literal) (j : ℕ) (k x : Literal) → slice_get ls j ≡ Some k → AreTyped vs (with_literals ls j (x ∷ [])) → IsOver vs 0 x.left × IsOver vs 0 x.right
  typed-at [] j k x e h = (let f : ⊥ = cc in absurd f)
  typed-at (l ∷ ls) zero k x e h = (h.0.left_over, h.0.right_over)
  typed-at (l ∷ ls) (suc j) k x e h = typed-at ls j k x e h.1

pub get-mapped : (f : Literal → Literal) (ls : List Literal) (j : ℕ) (k : Literal) → slice_get ls j ≡ Some k → slice_get (map f ls) j ≡ Some (f k)
get-mapped f [] j k e = (let g : ⊥ = cc in absurd g)
get-mapped f (l ∷ ls) zero k e = ap (λ (x : Literal). Some (f x)) (some-value e)
get-mapped f (l ∷ ls) (suc j) k e = get-mapped f ls j k e

-- the literals of a typed paramodulant come from a clause whose variables are its own
module _ (front types : List SimpleType) (others ls : List Literal) (j : ℕ) (k : Literal) (at : slice_get ls j ≡ Some k) (path : List ℕ) (r s t : Tree) where
  private-sides : (side : Side) → subterm path (side_of side k) ≡ Some t →
      AreTyped (front ++ types) (others ++ (with_literals (map (shifted_literal (length front)) ls) j (replaced_in side path r (shifted_literal (length front) k) ∷ []) ++ unequal s (shifted (length front) t) ∷ [])) →
      IsOver (front ++ types) 0 (shifted (length front) k.left) × IsOver (front ++ types) 0 (shifted (length front) k.right)
  private-sides Left e h =
      let moved = map (shifted_literal (length front)) ls in
      let new = replaced_in Left path r (shifted_literal (length front) k) in
      let back = (typed-split (front ++ types) others _ h).1 in
      let parts = typed-split (front ++ types) (with_literals moved j (new ∷ [])) _ back in
      let sides = typed-at (front ++ types) moved j (shifted_literal (length front) k) new (get-mapped (shifted_literal (length front)) ls j k at) parts.0 in
      (over-replaced (front ++ types) path r (shifted (length front) k.left) (shifted (length front) t) (subterm-shifted (length front) path k.left t e) sides.0 parts.1.0.right_over, sides.1)
  private-sides Right e h =
      let moved = map (shifted_literal (length front)) ls in
      let new = replaced_in Right path r (shifted_literal (length front) k) in
      let back = (typed-split (front ++ types) others _ h).1 in
      let parts = typed-split (front ++ types) (with_literals moved j (new ∷ [])) _ back in
      let sides = typed-at (front ++ types) moved j (shifted_literal (length front) k) new (get-mapped (shifted_literal (length front)) ls j k at) parts.0 in
      (sides.0, over-replaced (front ++ types) path r (shifted (length front) k.right) (shifted (length front) t) (subterm-shifted (length front) path k.right t e) sides.1 parts.1.0.right_over)

  pub paramodulant-declared : (side : Side) → subterm path (side_of side k) ≡ Some t →
      AreTyped (front ++ types) (others ++ (with_literals (map (shifted_literal (length front)) ls) j (replaced_in side path r (shifted_literal (length front) k) ∷ []) ++ unequal s (shifted (length front) t) ∷ [])) →
      AreDeclared types ls
  paramodulant-declared side e h =
      let back = (typed-split (front ++ types) others _ h).1 in
      let parts = typed-split (front ++ types) (with_literals (map (shifted_literal (length front)) ls) j (replaced_in side path r (shifted_literal (length front) k) ∷ [])) _ back in
      let sides = private-sides side e h in
      declared-around front types ls j k _ at parts.0 (moved-declared front types 0 0 k.left sides.0) (moved-declared front types 0 0 k.right sides.1)
