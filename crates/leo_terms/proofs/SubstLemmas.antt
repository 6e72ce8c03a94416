-- Putting terms in for variables.
use Rattle.std.proofs.Common.{ℕ, zero, suc, ◌≡◌, ◌+◌, ◌<◌, List, [], ◌∷◌, length, map, slice_get, Option, Some, None, refl, sym, ◌∙◌, arith}
use Rattle.leo_terms.specs.declared.node.View.TheVariants.{Var, App, Lam, Logic}
use Rattle.leo_terms.specs.declared.node.Op.{Op}
use Rattle.leo_q0.specs.Terms.{SimpleType}
use Rattle.leo_terms.specs.Tree.{Tree, variable, bound, symbol, app, lam, logic, absent, type_of, IsBoundAt, lifted, substituted, variable_given, IsGiven, IsOfTypeIfGiven}
use Rattle.leo_terms.specs.Contents.{Contents, tree_at, type_at, type_number, argument, IsSound, Grows, IsTerm, AreTerms}
use Rattle.leo_terms.proofs.Growth.{tree-keeps, IsKept-length}
use Rattle.leo_terms.proofs.Rebuild.{HasView, tree-app, tree-lam, tree-logic, tree-var, IsSoundNode-leaf}
use Rattle.leo_terms.proofs.ReductionLemmas.{IsBoundAt-gap}
use Rattle.leo_terms.proofs.TypeLemmas.{type_at-injective}
use Rattle.leo_terms.proofs.NormalLemmas.{type_of-tree}

IsBoundAt-given : (o : Option Tree) (n k j : ℕ) (b a : SimpleType) → j < k → IsBoundAt j a (variable_given k o n b)
IsBoundAt-given None n k j b a l = tt
IsBoundAt-given (Some s) n k j b a l = IsBoundAt-gap s j 0 k a (omega arith) (omega arith)

-- the indices of the lambdas that a term stands under keep their types
pub IsBoundAt-substituted : (t : Tree) (given : List Tree) (k j : ℕ) (a : SimpleType) → j < k → IsBoundAt j a t → IsBoundAt j a (substituted given k t)
IsBoundAt-substituted (variable n b) given k j a l h = IsBoundAt-given (slice_get given n) n k j b a l
IsBoundAt-substituted (bound i b) given k j a l h = h
IsBoundAt-substituted (symbol n b) given k j a l h = tt
IsBoundAt-substituted (app f x) given k j a l h = (IsBoundAt-substituted f given k j a l h.0, IsBoundAt-substituted x given k j a l h.1)
IsBoundAt-substituted (lam b t) given k j a l h = IsBoundAt-substituted t given (k + 1) (j + 1) a (omega arith) h
IsBoundAt-substituted (logic c x y) given k j a l h = (IsBoundAt-substituted x given k j a l h.0, IsBoundAt-substituted y given k j a l h.1)
IsBoundAt-substituted absent given k j a l h = tt

-- the given terms read alike in a bank that grew
pub trees-keep : (a b : Contents) → Grows a b → (ts : List ℕ) → AreTerms a ts → map (tree_at b) ts ≡ map (tree_at a) ts
trees-keep a b g [] h = refl
trees-keep a b g (t ∷ ts) h =
    let e : tree_at b t ≡ tree_at a t = tree-keeps a b g.old_sound g.keeps t (h 0 t refl) in
    let f : map (tree_at b) ts ≡ map (tree_at a) ts = trees-keep a b g ts (λ n u p. h (suc n) u p) in
    cc

pub AreTerms-keep : (a b : Contents) → Grows a b → (ts : List ℕ) → AreTerms a ts → AreTerms b ts
AreTerms-keep a b g ts h n t p = let l = IsKept-length a.terms b.terms g.keeps.terms in let k = h n t p in omega arith

given_at : (f : ℕ → Tree) (ts : List ℕ) (n : ℕ) (a : SimpleType) → IsOfTypeIfGiven a (slice_get (map f ts) n) → (t : ℕ) × (slice_get ts n ≡ Some t) × (n < length ts) × (slice_get (map f ts) n ≡ Some (f t)) × (type_of (f t) ≡ a)
given_at f [] n a h = absurd h
given_at f (t ∷ ts) zero a h = (t, refl, omega arith, refl, h)
given_at f (t ∷ ts) (suc n) a h = let p = given_at f ts n a h in (p.0, p.1, (let q = p.2 in omega arith), p.3, p.4)

pub given_var : (c : Contents) → IsSound c → (t n : ℕ) → HasView c t (Var n) → (ts : List ℕ) → IsGiven (map (tree_at c) ts) (tree_at c t) → (s : ℕ) × (slice_get ts n ≡ Some s) × (n < length ts) × (slice_get (map (tree_at c) ts) n ≡ Some (tree_at c s)) × (type_of (tree_at c s) ≡ type_at c (type_number c t))
given_var c s t n v ts h = given_at (tree_at c) ts n (type_at c (type_number c t)) (rw (tree-var c s t n v) at h)

-- the term that is put in for a variable
pub IsTerm-given : (c d : Contents) → IsSound c → (t n k r : ℕ) → t < length c.terms → HasView c t (Var n) → (ts : List ℕ) → AreTerms c ts → IsGiven (map (tree_at c) ts) (tree_at c t) → (u : ℕ) → slice_get ts n ≡ Some u → IsTerm d r (type_number c u) (lifted 0 k (tree_at c u)) → IsTerm d r (type_number c t) (substituted (map (tree_at c) ts) k (tree_at c t))
IsTerm-given c d s t n k r l v ts terms h u f m =
    let p = given_var c s t n v ts h in
    let e : p.0 ≡ u = cc in
    let g : slice_get (map (tree_at c) ts) n ≡ Some (tree_at c u) = rw e at p.3 in
    let q : type_of (tree_at c u) ≡ type_at c (type_number c t) = rw e at p.4 in
    let w = terms n u f in
    let i : type_number c u ≡ type_number c t = type_at-injective c s _ _ (IsSoundNode-leaf c s u w) (IsSoundNode-leaf c s t l) (sym (type_of-tree c s u w) ∙ q) in
    rw (tree-var c s t n v, g, ← i) m

pub given-app : (a : Contents) → IsSound a → (t f x : ℕ) → HasView a t (App f x) → (ts : List Tree) → IsGiven ts (tree_at a t) → IsGiven ts (tree_at a f) × IsGiven ts (tree_at a x)
given-app a s t f x v ts h = rw (tree-app a s t f x v) at h

pub given-lam : (a : Contents) → IsSound a → (t j x : ℕ) → HasView a t (Lam j x) → (ts : List Tree) → IsGiven ts (tree_at a t) → IsGiven ts (tree_at a x)
given-lam a s t j x v ts h = rw (tree-lam a s t j x v) at h

pub given-logic : (a : Contents) → IsSound a → (t : ℕ) (o : Op) (x y : Option ℕ) → HasView a t (Logic o x y) → (ts : List Tree) → IsGiven ts (tree_at a t) → IsGiven ts (argument (tree_at a) x) × IsGiven ts (argument (tree_at a) y)
given-logic a s t o x y v ts h = rw (tree-logic a s t o x y v) at h
