-- The steps of the calls that choose what is done with a pair.
use Rattle.std.proofs.Common.{ℕ, nat_eq, nat_lt, ◌≡◌, ◌∙◌, ◌<◌, ◌≤◌, Bool, true, false, not, ◌&&◌, ◌||◌, List, [], length, map, Option, Some, None, refl, sym, ap, arith}
use Rattle.std.specs.Prelude.{unwrap_or}
use Rattle.std.specs.Bool.{if◌then◌else◌}
use Rattle.std.proofs.lemmas.Bool.Decides.{nat_tests}
use Rattle.leo_q0.specs.Terms.{SimpleType, same_type}
use Rattle.leo_terms.specs.Tree.{truth_type, Tree, variable, bound, symbol, app, lam, logic, absent, type_of}
use Rattle.leo_terms.specs.Contents.{Contents, IsBank, Extends, IsTerm, tree_at, type_at, type_number}
use Rattle.leo_terms.proofs.CallerLemmas.{old_bank, tree-kept, term-typed, type_of-term, type_number-within, reads-base, sound}
use Rattle.leo_clause.specs.Typed.{AreTypesOf}
use Rattle.leo_unify.specs.declared.pattern.Pattern as declared
use Rattle.leo_clause.specs.Sameness.{same_tree}
use Rattle.leo_unify.specs.Spines.{head, is_flex, is_variable}
use Rattle.leo_unify.specs.Patterns.{pattern_of, is_covered, rebound, abstracted}
use Rattle.leo_unify.specs.Acts.{Binding, Act, stay, replace, bind, refuse, branch, domains, bindings, solved, removed, stuck, branching, tried, act_on_heads, act_on_sides}
use Rattle.leo_unify.specs.Contexts.{IsPairIn}
use Rattle.leo_unify.specs.Views.{pattern_at, AreBodyTypes}
use Rattle.leo_unify.proofs.Places.{length-map}
use Rattle.leo_unify.proofs.Growing.{types-kept, same-terms}
use Rattle.leo_unify.proofs.PairLemmas.{same-types}
use Rattle.leo_unify.proofs.PatternLemmas.{IsPatternIn}
use Rattle.leo_unify.proofs.ActLemmas.{pattern-in, body-types}

pub pair-flipped : (vs : List SimpleType) (l r : Tree) → IsPairIn vs (record { left = l; right = r }) → IsPairIn vs (record { left = r; right = l })
pair-flipped vs l r h = record {
  depth = h.depth;
  types = h.types;
  left_over = h.right_over;
  right_over = h.left_over;
  left_bound = h.right_bound;
  right_bound = h.left_bound;
  same_type = sym h.same_type;
}

module _ {a b c : Contents} (e : Extends a b) (f : Extends b c) (vars : List ℕ) (side other : ℕ) (ls : side < length a.terms) (lo : other < length a.terms) (h : IsPairIn (map (type_at a) vars) (record { left = tree_at a side; right = tree_at a other })) (p : declared.Pattern) (v : Some (pattern_at b p) ≡ pattern_of (tree_at a side)) (t : AreTypesOf b p.types) (k : true ≡ is_covered p.number p.order 0 (tree_at b other)) (body i : ℕ) (m : IsTerm c body i (rebound p.order 0 (tree_at b other))) where
  in-context : IsPatternIn (map (type_at a) vars) h.types (rebound p.order 0 (tree_at a other)) (pattern_at b p)
  in-context = pattern-in (map (type_at a) vars) h.types h.depth (tree_at a other) h.right_over h.right_bound (tree_at a side) (term-typed (old_bank e) side ls) h.left_over h.left_bound h.same_type (pattern_at b p) (sym v)

  covered : is_covered p.number p.order 0 (tree_at a other) ≡ true
  covered = sym (rw (tree-kept e other lo) at k)

  pub solved-body : AreBodyTypes (map (type_at c) p.types) (tree_at c body)
  solved-body q x g = rw (m.reads, tree-kept e other lo) (body-types (map (type_at a) vars) h.types h.depth (tree_at a other) h.right_over h.right_bound p.number p.order (map (type_at b) p.types) in-context.ordered covered q x (rw (types-kept f p.types t) at g))

  pub solved-value : (d : Contents) (r : ℕ) → tree_at d r ≡ abstracted (map (type_at c) p.types) (tree_at c body) → Some (bind (record { number = p.number; fresh = []; term = tree_at d r })) ≡ solved (tree_at a side) (tree_at a other)
  solved-value d r g =
      let w : tree_at d r ≡ abstracted (map (type_at b) p.types) (rebound p.order 0 (tree_at a other)) = g ∙ rw (types-kept f p.types t, m.reads, tree-kept e other lo) refl in
      rw (w, ← v, covered) refl

pub solved-uncovered : {a b : Contents} → Extends a b → (side other : ℕ) → other < length a.terms → (p : declared.Pattern) → Some (pattern_at b p) ≡ pattern_of (tree_at a side) → (k : Bool) → k ≡ is_covered p.number p.order 0 (tree_at b other) → k ≡ false → None ≡ solved (tree_at a side) (tree_at a other)
solved-uncovered e side other lo p v k q z =
    let w : is_covered p.number p.order 0 (tree_at _ other) ≡ false = sym (rw (tree-kept e other lo) at q) ∙ z in
    rw (← v, w) refl

pub solved-none : (a : Contents) (side other : ℕ) → None ≡ pattern_of (tree_at a side) → None ≡ solved (tree_at a side) (tree_at a other)
solved-none a side other v = rw (← v) refl

-- the first case that applies
pub else-some : {X : Type 0} (o : Option X) (x y : X) → Some x ≡ o → x ≡ unwrap_or o y
else-some o x y e = rw (← e) refl

pub else-none : {X : Type 0} (o : Option X) (y z : X) → None ≡ o → z ≡ y → z ≡ unwrap_or o y
else-none o y z e f = rw (← e) f

pub clash-decides : (c : Contents) → IsBank c → (l : ℕ) → l < length c.terms → (p q : Bool) → p ≡ false → q ≡ false → (r : Bool) → r ≡ not (nat_eq (type_number c l) 0) → r ≡ (not p && (not q && not (same_type (type_of (tree_at c l)) truth_type)))
clash-decides c b l h p q e f r k =
    let two = b.base_types in
    let z : type_at c 0 ≡ truth_type = reads-base b 0 0 (sound c b).truth_first in
    let w : nat_eq (type_number c l) 0 ≡ same_type (type_of (tree_at c l)) truth_type = same-types c b (type_number c l) 0 (type_number-within b l h) (omega arith) ∙ rw (z, type_of-term b l h) refl in
    rw (e, f, ← w) k

pub stuck-some : (b : Bool) → b ≡ true → Some refuse ≡ (if b then Some refuse else None)
stuck-some b e = rw e refl

pub stuck-none : (b : Bool) → b ≡ false → None ≡ (if b then Some refuse else None)
stuck-none b e = rw e refl

-- equal sides
pub removed-some : (c : Contents) → IsBank c → (l r : ℕ) → l < length c.terms → r < length c.terms → (t : Bool) → t ≡ nat_eq l r → t ≡ true → Some (replace []) ≡ removed (tree_at c l) (tree_at c r)
removed-some c b l r p q t e f = let w : same_tree (tree_at c l) (tree_at c r) ≡ true = sym (e ∙ same-terms c b l r p q) ∙ f in rw w refl

pub removed-none : (c : Contents) → IsBank c → (l r : ℕ) → l < length c.terms → r < length c.terms → (t : Bool) → t ≡ nat_eq l r → t ≡ false → None ≡ removed (tree_at c l) (tree_at c r)
removed-none c b l r p q t e f = let w : same_tree (tree_at c l) (tree_at c r) ≡ false = sym (e ∙ same-terms c b l r p q) ∙ f in rw w refl

-- flex and rigid sides
pub flex-left : (next depth : ℕ) (l r : Tree) → true ≡ is_flex l → false ≡ is_flex r → (a : Act) → a ≡ tried next depth (head l) (head r) → a ≡ unwrap_or (branching next depth l r) stay
flex-left next depth l r e f a g = rw (← e, ← f) g

pub flex-right : (next depth : ℕ) (l r : Tree) → false ≡ is_flex l → true ≡ is_flex r → (a : Act) → a ≡ tried next depth (head r) (head l) → a ≡ unwrap_or (branching next depth l r) stay
flex-right next depth l r e f a g = rw (← e, ← f) g

pub flex-both : (next depth : ℕ) (l r : Tree) (b : Bool) → b ≡ is_flex l → b ≡ is_flex r → stay ≡ unwrap_or (branching next depth l r) stay
flex-both next depth l r true e f = rw (← e, ← f) refl
flex-both next depth l r false e f = rw (← e, ← f) refl

or-true : (a : Bool) → (a || true) ≡ true
or-true true = refl
or-true false = refl

pub tried-zero : (next depth n : ℕ) (a : SimpleType) (h : Tree) → depth ≡ 0 → refuse ≡ tried next depth (variable n a) h
tried-zero next depth n a h e = rw e refl

pub tried-many : (c : Contents) (next depth n : ℕ) (a : SimpleType) (h : Tree) (outer : List ℕ) → map (type_at c) outer ≡ domains a → 8 < length outer → refuse ≡ tried next depth (variable n a) h
tried-many c next depth n a h outer e l =
    let m : length (domains a) ≡ length outer = ap length (sym e) ∙ length-map (type_at c) outer in
    let t : nat_lt 8 (length (domains a)) ≡ true = rw m (grind (arith, nat_tests)) in
    rw (t, or-true (nat_eq depth 0)) refl

pub tried-branch : (c : Contents) (next depth n : ℕ) (a : SimpleType) (h : Tree) (outer : List ℕ) (bs : List Binding) → (depth ≡ 0 → ⊥) → map (type_at c) outer ≡ domains a → length outer ≤ 8 → bs ≡ bindings n a next h → branch bs ≡ tried next depth (variable n a) h
tried-branch c next depth n a h outer bs z e l v =
    let m : length (domains a) ≡ length outer = ap length (sym e) ∙ length-map (type_at c) outer in
    let t : nat_lt 8 (length (domains a)) ≡ false = rw m (grind (arith, nat_tests)) in
    let u : nat_eq depth 0 ≡ false = grind (arith, nat_tests) in
    rw (t, u, v) refl

pub tried-other : (next depth : ℕ) (t h : Tree) → is_variable t ≡ false → refuse ≡ tried next depth t h
tried-other next depth (variable n a) h e = absurd (cc)
tried-other next depth (bound i a) h e = refl
tried-other next depth (symbol s a) h e = refl
tried-other next depth (app f x) h e = refl
tried-other next depth (lam a t) h e = refl
tried-other next depth (logic c x y) h e = refl
tried-other next depth absent h e = refl

module _ {a b c : Contents} (e : Extends a b) (f : Extends b c) (n d l r : ℕ) (pl : l < length a.terms) (pr : r < length a.terms) (h : None ≡ solved (tree_at a l) (tree_at a r)) where
  left-kept : tree_at c l ≡ tree_at a l
  left-kept = let m = e.terms_more in tree-kept f l (omega arith) ∙ tree-kept e l pl

  right-kept : tree_at c r ≡ tree_at a r
  right-kept = let m = e.terms_more in tree-kept f r (omega arith) ∙ tree-kept e r pr

  pub sides-second : (o : Act) → Some o ≡ solved (tree_at b r) (tree_at b l) → o ≡ act_on_sides n d (tree_at a l) (tree_at a r)
  sides-second o g = else-none (solved (tree_at a l) (tree_at a r)) _ o h (else-some (solved (tree_at a r) (tree_at a l)) o _ (rw (tree-kept e l pl, tree-kept e r pr) at g))

  module _ (g : None ≡ solved (tree_at b r) (tree_at b l)) (t : Bool) (k : t ≡ (is_variable (tree_at c l) || is_variable (tree_at c r))) where
    none-second : None ≡ solved (tree_at a r) (tree_at a l)
    none-second = rw (tree-kept e l pl, tree-kept e r pr) at g

    test : t ≡ (is_variable (tree_at a l) || is_variable (tree_at a r))
    test = rw (left-kept, right-kept) at k

    pub sides-stuck : t ≡ true → refuse ≡ act_on_sides n d (tree_at a l) (tree_at a r)
    sides-stuck q =
        else-none (solved (tree_at a l) (tree_at a r)) _ refuse h
        (else-none (solved (tree_at a r) (tree_at a l)) _ refuse none-second
        (else-some (stuck (tree_at a l) (tree_at a r)) refuse _ (stuck-some (is_variable (tree_at a l) || is_variable (tree_at a r)) (sym test ∙ q))))

    pub sides-heads : t ≡ false → (o : Act) → o ≡ act_on_heads n d (tree_at c l) (tree_at c r) → o ≡ act_on_sides n d (tree_at a l) (tree_at a r)
    sides-heads q o w =
        else-none (solved (tree_at a l) (tree_at a r)) _ o h
        (else-none (solved (tree_at a r) (tree_at a l)) _ o none-second
        (else-none (stuck (tree_at a l) (tree_at a r)) _ o (stuck-none (is_variable (tree_at a l) || is_variable (tree_at a r)) (sym test ∙ q)) (rw (left-kept, right-kept) at w)))
