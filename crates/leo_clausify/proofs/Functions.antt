-- Terms of a bank as functions of variables, and functions that are applied to variables.
use Rattle.std.proofs.Common.{ℕ, zero, suc, nat_eq, ◌≡◌, ◌∙◌, ◌+◌, ◌-◌, ◌<◌, Bool, true, false, List, [], ◌∷◌, length, map, take, drop, slice_get, Some, refl, sym, ap, arith}
use Rattle.std.specs.Bool.{if◌then◌else◌}
use Rattle.leo_q0.specs.Terms.{SimpleType, arrow}
use Rattle.leo_terms.specs.declared.node.TyView.{TyView}
use Rattle.leo_terms.specs.declared.node.TyView.TheVariants.{Base, Arrow}
use Rattle.leo_terms.specs.Contents.{Contents, IsBank, Extends, IsTerm, IsApplicable, IsArrow, tree_at, type_at, type_number}
use Rattle.leo_terms.specs.Tree.{codomain, Tree, variable, bound, symbol, app, lam, logic, absent, type_of, lifted, substituted, put_in, IsGiven, IsBoundAt}
use Rattle.leo_terms.proofs.CallerLemmas.{extends-trans, tree-kept, type-kept, put_in-is, type_number-within, type_of-term, type-shared, reads-base, reads-arrow, arrow-parts}
use Rattle.leo_terms.proofs.Growth.{slice_get-some}
use Rattle.leo_terms.proofs.Making.{codomain_number-node}
use Rattle.leo_terms.proofs.TreeLemmas.{lifted-above}
use Rattle.leo_clause.specs.Arranging.{variable_type}
use Rattle.leo_clause.specs.Renaming.{AreBelow}
use Rattle.leo_clause.specs.Typed.{AreTypesOf, IsOver}
use Rattle.leo_clause.proofs.Meeting.{take-map_next}
use Rattle.leo_kernel.specs.Choosing.{applied_to}
use Rattle.leo_kernel.proofs.ChosenShowing.{applied-end}
use Rattle.leo_kernel.proofs.Growing.{types-kept}
use Rattle.leo_clausify.specs.Applied.{function_type}
use Rattle.leo_clausify.specs.Choosing.{indexed, function_of, variable_terms}
use Rattle.leo_clausify.specs.Giving.{AreGivenBy, index_tree}
use Rattle.leo_clausify.specs.Picking.{IsTree}
use Rattle.leo_clausify.proofs.Applying.{declared}
use Rattle.leo_clausify.proofs.Branching.{get-map}
use Rattle.leo_clausify.proofs.Closures.{indexed-bound, indexed-over}
use Rattle.leo_clausify.proofs.Giving.{Gives, given-all, is-given, length-map}

-- a variable that becomes an index
index-type_by : (b : Bool) (m : ℕ) (a : SimpleType) → type_of (if b then bound 0 a else variable m a) ≡ a
index-type_by true m a = refl
index-type_by false m a = refl

index-type : (n m : ℕ) (a : SimpleType) → type_of (index_tree n m a) ≡ a
index-type n m a = index-type_by (nat_eq m n) m a

lifted-index_by : (b : Bool) (k m : ℕ) (a : SimpleType) → lifted 0 k (if b then bound 0 a else variable m a) ≡ (if b then bound k a else variable m a)
lifted-index_by true k m a = lifted-above 0 0 k a (omega arith) ∙ ap (λ i. bound i a) (omega arith)
lifted-index_by false k m a = refl

module _ (variables : List SimpleType) (n : ℕ) (given : List Tree) (gives : Gives (index_tree n) variables given) where
  substituted-indexed : (t : Tree) (depth k : ℕ) → IsOver variables depth t → substituted given k t ≡ indexed n k t
  substituted-indexed (variable m a) depth k o = rw (gives m a o) (lifted-index_by (nat_eq m n) k m a)
  substituted-indexed (bound i a) depth k o = refl
  substituted-indexed (symbol s a) depth k o = refl
  substituted-indexed (app f x) depth k o = rw (substituted-indexed f depth k o.0, substituted-indexed x depth k o.1) refl
  substituted-indexed (lam a t) depth k o = ap (lam a) (substituted-indexed t (depth + 1) (k + 1) o)
  substituted-indexed (logic c x y) depth k o = rw (substituted-indexed x depth k o.0, substituted-indexed y depth k o.1) refl
  substituted-indexed absent depth k o = refl

type-listed : (c : Contents) (vars : List ℕ) → AreTypesOf c vars → (n a : ℕ) → slice_get vars n ≡ Some a → a < length c.types
type-listed c [] h n a g = absurd (cc)
type-listed c (b ∷ vars) h zero a g = let k : b ≡ a = cc in rw (← k) h.0
type-listed c (b ∷ vars) h (suc n) a g = type-listed c vars h.1 n a g

-- the type of a variable of a list
pub type-of_variable : (c : Contents) (vars : List ℕ) (n a : ℕ) → slice_get vars n ≡ Some a → variable_type (map (type_at c) vars) n ≡ type_at c a
type-of_variable c vars n a g = (let h = get-map (type_at c) vars n a g in rw h refl)

pub type-within : {c d : Contents} → Extends c d → (vars : List ℕ) → AreTypesOf c vars → (n a : ℕ) → slice_get vars n ≡ Some a → a < length d.types
type-within {c} {d} e vars h n a g = (let l = type-listed c vars h n a g in let m = e.types_more in omega arith)

module _ {a b : Contents} (f : Extends a b) (vars sigma : List ℕ) (n t : ℕ) (types : AreTypesOf a vars) (l : t < length a.terms) (over : IsOver (map (type_at a) vars) 0 (tree_at a t)) (given : AreGivenBy (index_tree n) a b vars sigma (length vars)) where
  gives : Gives (index_tree n) (map (type_at a) vars) (map (tree_at b) sigma)
  gives = given-all (index_tree n) a b vars sigma given

  pub over-given : IsGiven (map (tree_at b) sigma) (tree_at b t)
  over-given = rw (tree-kept f t l) (is-given (map (type_at a) vars) (map (tree_at b) sigma) (index_tree n) gives (index-type n) (tree_at a t) 0 over)

  module _ {d : Contents} (g : Extends b d) (ty : ℕ) (at : slice_get vars n ≡ Some ty) (body i : ℕ) (m : IsTerm d body i (put_in (map (tree_at b) sigma) (tree_at b t))) where
    body-reads : tree_at d body ≡ indexed n 0 (tree_at a t)
    body-reads = m.reads ∙ put_in-is (map (tree_at b) sigma) (tree_at b t) ∙ ap (substituted (map (tree_at b) sigma) 0) (tree-kept f t l) ∙ substituted-indexed (map (type_at a) vars) n (map (tree_at b) sigma) gives (tree_at a t) 0 0 over

    type-same : type_at d ty ≡ type_at a ty
    type-same = type-kept (extends-trans f g) ty (type-listed a vars types n ty at)

    pub body-bound : IsBoundAt 0 (type_at d ty) (tree_at d body)
    body-bound = rw (type-same, body-reads) (indexed-bound (map (type_at a) vars) n (type_at a ty) (get-map (type_at a) vars n ty at) (tree_at a t) 0 over)

    pub function-made : (e : Contents) (r j : ℕ) → IsTerm e r j (lam (type_at d ty) (tree_at d body)) → IsTree e r (lam (variable_type (map (type_at a) vars) n) (indexed n 0 (tree_at a t)))
    function-made e r j h = record { within = h.within; reads = h.reads ∙ rw (type-same, body-reads, type-of_variable a vars n ty at) refl }

-- functions of several variables
pub function-over : (variables : List SimpleType) (ns : List ℕ) (t : Tree) → AreBelow (length variables) ns → IsOver variables 0 t → IsOver variables 0 (function_of variables ns t)
function-over variables [] t h o = o
function-over variables (n ∷ ns) t h o = indexed-over variables n (variable_type variables n) (declared variables n h.0) (function_of variables ns t) 0 (function-over variables ns t h.1 o)

pub below-drop : (m : ℕ) (k : ℕ) (ns : List ℕ) → AreBelow m ns → AreBelow m (drop k ns)
below-drop m zero ns h = h
below-drop m (suc k) [] h = tt
below-drop m (suc k) (n ∷ ns) h = below-drop m k ns h.1

drop-whole : (ns : List ℕ) → drop (length ns) ns ≡ []
drop-whole [] = refl
drop-whole (n ∷ ns) = drop-whole ns

pub drop-at : (ns : List ℕ) (i n : ℕ) → slice_get ns i ≡ Some n → drop i ns ≡ n ∷ drop (i + 1) ns
drop-at [] i n e = absurd (cc)
drop-at (m ∷ ns) zero n e = let f : m ≡ n = cc in rw f refl
drop-at (m ∷ ns) (suc i) n e = let f : suc i + 1 ≡ suc (i + 1) = omega arith in rw f (drop-at ns i n e)

pub function-none : (c : Contents) (variables : List SimpleType) (keys : List ℕ) (t : ℕ) → t < length c.terms → IsTree c t (function_of variables (drop (length keys - 0) keys) (tree_at c t))
function-none c variables keys t l =
    let e : length keys - 0 ≡ length keys = omega arith in
    record { within = l; reads = rw (e, drop-whole keys) refl }

pub function-next : (c d : Contents) (variables others : List SimpleType) (keys : List ℕ) (form : Tree) (whole next n count done : ℕ) → others ≡ variables → count ≡ length keys → done < count → slice_get keys (count - 1 - done) ≡ Some n → IsTree c whole (function_of variables (drop (length keys - done) keys) form) → IsTree d next (lam (variable_type others n) (indexed n 0 (tree_at c whole))) → IsTree d next (function_of variables (drop (length keys - (done + 1)) keys) form)
function-next c d variables others keys form whole next n count done same counted l at inv made =
    let i : length keys - (done + 1) ≡ count - 1 - done = omega arith in
    let j : count - 1 - done + 1 ≡ length keys - done = omega arith in
    let k : drop (length keys - (done + 1)) keys ≡ n ∷ drop (length keys - done) keys = ap (λ m. drop m keys) i ∙ drop-at keys (count - 1 - done) n at ∙ ap (λ m. n ∷ drop m keys) j in
    record { within = made.within; reads = made.reads ∙ rw (same, inv.reads) (sym (ap (λ ns. function_of variables ns form) k)) }

-- a function may be applied to a term of the type that it takes
pub applies : (c : Contents) → IsBank c → (f x : ℕ) → f < length c.terms → x < length c.terms → (b : SimpleType) → type_of (tree_at c f) ≡ arrow (type_of (tree_at c x)) b → IsApplicable c f x
applies c s f x l m b e =
    let w = slice_get-some c.types (type_number c f) (type_number-within s f l) in
    by w.0 w.1
  where
    by : (v : TyView) → slice_get c.types (type_number c f) ≡ Some v → IsApplicable c f x
    by (Base k) h = absurd (let g = sym (reads-base s (type_number c f) k h) ∙ sym (type_of-term s f l) ∙ e in cc)
    by (Arrow p q) h =
        let p-arrow : IsArrow c (type_number c f) p q = record { arrow_node = h } in
        let g : arrow (type_at c p) (type_at c q) ≡ arrow (type_of (tree_at c x)) b = sym (reads-arrow s p-arrow) ∙ sym (type_of-term s f l) ∙ e in
        let t : type_at c p ≡ type_at c (type_number c x) = (let r : type_at c p ≡ type_of (tree_at c x) = cc in r ∙ type_of-term s x m) in
        let parts = arrow-parts s p-arrow in
        let i = parts.0 in
        let j = parts.1 in
        let same : p ≡ type_number c x = type-shared s p (type_number c x) (omega arith) (type_number-within s x m) t in
        record { arrow_node = rw (codomain_number-node c (type_number c f) p q h, ← same) h }

-- a function applied to variables, one after the other
pub function-front : (variables : List SimpleType) (place : ℕ) (keys : List ℕ) (f : Tree) (a : SimpleType) → type_of f ≡ function_type variables keys a → type_of (applied_to f (take place (variable_terms variables keys))) ≡ function_type variables (drop place keys) a
function-front variables zero keys f a e = e
function-front variables (suc place) [] f a e = e
function-front variables (suc place) (n ∷ keys) f a e = function-front variables place keys (app f (variable n (variable_type variables n))) a (ap codomain e)

pub front-arrow : (variables : List SimpleType) (place n : ℕ) (keys : List ℕ) (f whole : Tree) (a c : SimpleType) → slice_get keys place ≡ Some n → whole ≡ applied_to f (take place (variable_terms variables keys)) → type_of f ≡ function_type variables keys a → variable_type variables n ≡ c → (b : SimpleType) × (type_of whole ≡ arrow c b)
front-arrow variables place n keys f whole a c at is e g =
    let d = drop-at keys place n at in
    let t = function-front variables place keys f a e in
    (function_type variables (drop (place + 1) keys) a, ap type_of is ∙ t ∙ ap (λ ns. function_type variables ns a) d ∙ ap (λ (x : SimpleType). arrow x (function_type variables (drop (place + 1) keys) a)) g)

pub front-next : (c d : Contents) (variables : List SimpleType) (keys : List ℕ) (f : Tree) (whole next place n : ℕ) (ty : SimpleType) → slice_get keys place ≡ Some n → ty ≡ variable_type variables n → IsTree c whole (applied_to f (take place (variable_terms variables keys))) → IsTree d next (app (tree_at c whole) (variable n ty)) → IsTree d next (applied_to f (take (place + 1) (variable_terms variables keys)))
front-next c d variables keys f whole next place n ty at same inv made =
    let t = take-map_next (λ m. variable m (variable_type variables m)) keys place n at in
    record { within = made.within; reads = made.reads ∙ rw (same, inv.reads, t) (sym (applied-end (take place (variable_terms variables keys)) f (variable n (variable_type variables n)))) }

take-whole : {X : Type 0} (xs : List X) → take (length xs) xs ≡ xs
take-whole [] = refl
take-whole (x ∷ xs) = ap (λ ys. x ∷ ys) (take-whole xs)

pub front-whole : (c : Contents) (variables : List SimpleType) (keys : List ℕ) (f : Tree) (whole count : ℕ) → count ≡ length keys → IsTree c whole (applied_to f (take count (variable_terms variables keys))) → IsTree c whole (applied_to f (variable_terms variables keys))
front-whole c variables keys f whole count e h =
    let k : count ≡ length (variable_terms variables keys) = e ∙ sym (length-map (λ n. variable n (variable_type variables n)) keys) in
    let z : take count (variable_terms variables keys) ≡ variable_terms variables keys = rw k (take-whole (variable_terms variables keys)) in
    record { within = h.within; reads = h.reads ∙ ap (applied_to f) z }

pub over-tree : {a c : Contents} → Extends a c → (vars keys : List ℕ) (k whole : ℕ) (form : Tree) → AreTypesOf a vars → AreBelow (length vars) keys → IsOver (map (type_at a) vars) 0 form → IsTree c whole (function_of (map (type_at a) vars) (drop k keys) form) → IsOver (map (type_at c) vars) 0 (tree_at c whole)
over-tree {a} {c} e vars keys k whole form types below over inv =
    let n : AreBelow (length (map (type_at a) vars)) keys = rw (length-map (type_at a) vars) below in
    rw (types-kept e vars types, inv.reads) (function-over (map (type_at a) vars) (drop k keys) form (below-drop _ k keys n) over)

pub type-old : {a c : Contents} → Extends a c → (vars : List ℕ) → AreTypesOf a vars → (n ty : ℕ) → slice_get vars n ≡ Some ty → type_at c ty ≡ type_at a ty
type-old {a} e vars types n ty at = type-kept e ty (type-listed a vars types n ty at)
