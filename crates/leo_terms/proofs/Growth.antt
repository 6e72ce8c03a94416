-- A bank that only grew reads all earlier numbers alike, and stays sound.
use Rattle.std.proofs.Common.{ℕ, zero, suc, ◌≡◌, ◌^◌, ◌<◌, ◌≤◌, List, [], ◌∷◌, ◌++◌, length, slice_get, Option, Some, None, refl, sym, ◌∙◌, ap, inl, inr, arith}
use Rattle.std.proofs.lemmas.Option.{slice_get_within}
use Rattle.std.specs.Option.{option_map}
use Rattle.leo_terms.specs.declared.node.TyView.{TyView}
use Rattle.leo_terms.specs.declared.node.TyView.TheVariants.{Base, Arrow}
use Rattle.leo_terms.specs.declared.node.Op.{Op}
use Rattle.leo_terms.specs.declared.node.Op.TheVariants as op
use Rattle.leo_terms.specs.declared.node.View.{View}
use Rattle.leo_terms.specs.declared.node.View.TheVariants.{Var, Bound, Sym, App, Lam, Logic}
use Rattle.leo_terms.specs.declared.node.TermNode.{TermNode}
use Rattle.leo_q0.specs.Terms.{SimpleType, base, arrow}
use Rattle.leo_terms.specs.Tree.{Tree, equality, universal, existential, choice}
use Rattle.leo_terms.specs.Contents.{Contents, Symbol, node, type_at, type_within, node_type, tree_at, tree_within, view_tree, connective, argument, argument_type, type_number, number_in, Takes, IsArrow, IsProperty, IsArgumentBelow, HasTypeBelow, IsSoundView, IsSoundNode, IsSoundType, IsSound, IsKept, AddsShared, Keeps, Grows, IsTerm}
use Rattle.leo_terms.proofs.ListLemmas.{IsKept-append, append_only}

pub slice_get-some : {X : Type 0} (xs : List X) (i : ℕ) → i < length xs → (x : X) × (slice_get xs i ≡ Some x)
slice_get-some [] i h = absurd (omega arith)
slice_get-some (x ∷ xs) zero h = (x, refl)
slice_get-some (x ∷ xs) (suc i) h = slice_get-some xs i (omega arith)

pub IsKept-length : {X : Type 0} (xs ys : List X) → IsKept xs ys → length xs ≤ length ys
IsKept-length [] ys k = omega arith
IsKept-length (x ∷ xs) [] k = absurd (let e = k 0 x refl in cc)
IsKept-length (x ∷ xs) (y ∷ ys) k = omega (arith, IsKept-length xs ys (λ i z h. k (suc i) z h))

-- each type's parts come before it
abbrev ComesAfterParts : List TyView → Type 0
ComesAfterParts xs = (i a b : ℕ) → slice_get xs i ≡ Some (Arrow a b) → (a < i) × (b < i)

node_type-same : (r s : ℕ → SimpleType) (xs ys : List TyView) (i : ℕ) (n : TyView) → slice_get xs i ≡ Some n → slice_get ys i ≡ Some n → ComesAfterParts xs → ((a : ℕ) → a < i → r a ≡ s a) → node_type r (slice_get xs i) ≡ node_type s (slice_get ys i)
node_type-same r s xs ys i (Base n) h k sound same = rw (h, k) refl
node_type-same r s xs ys i (Arrow a b) h k sound same =
    let p = sound i a b h in
    rw (h, k, same a p.0, same b p.1) refl

type_within-same : (xs ys : List TyView) → IsKept xs ys → ComesAfterParts xs → (d e i : ℕ) → i < d → i < e → i < length xs → type_within xs d i ≡ type_within ys e i
type_within-same xs ys kept sound zero e i p q r = absurd (omega arith)
type_within-same xs ys kept sound (suc d) zero i p q r = absurd (omega arith)
type_within-same xs ys kept sound (suc d) (suc e) i p q r =
    let w = slice_get-some xs i r in
    node_type-same (type_within xs d) (type_within ys e) xs ys i w.0 w.1 (kept i w.0 w.1) sound
    (λ a h. type_within-same xs ys kept sound d e a (omega arith) (omega arith) (omega arith))

comes_after_parts : (c : Contents) → IsSound c → ComesAfterParts c.types
comes_after_parts c s i a b h = s.types_sound i (Arrow a b) h

pub ty-keeps : (c d : Contents) → IsSound c → IsKept c.types d.types → (i : ℕ) → i < length c.types → type_at d i ≡ type_at c i
unfolding type_at
ty-keeps c d s k i h = sym (type_within-same c.types d.types k (comes_after_parts c s) (suc i) (suc i) i (omega arith) (omega arith) h)

-- how a type reads at each kind of node
pub ty-base : (c : Contents) (i n : ℕ) → slice_get c.types i ≡ Some (Base n) → type_at c i ≡ base n
unfolding type_at
ty-base c i n h = rw h refl

pub ty-arrow : (c : Contents) → IsSound c → (i a b : ℕ) → slice_get c.types i ≡ Some (Arrow a b) → type_at c i ≡ arrow (type_at c a) (type_at c b)
unfolding type_at
ty-arrow c s i a b h =
    let p = s.types_sound i (Arrow a b) h in
    let w = slice_get_within c.types i (Arrow a b) h in
    let k : IsKept c.types c.types = λ j x e. e in
    let f : type_within c.types i a ≡ type_within c.types (suc a) a = type_within-same c.types c.types k (comes_after_parts c s) i (suc a) a p.0 (omega arith) (omega arith) in
    let g : type_within c.types i b ≡ type_within c.types (suc b) b = type_within-same c.types c.types k (comes_after_parts c s) i (suc b) b p.1 (omega arith) (omega arith) in
    rw (h, f, g) refl

-- a view's parts are numbers of the bank, those of terms below n
abbrev PartsBelow : Contents → ℕ → View → Type 0
PartsBelow c n (Var v) = Unit {0}
PartsBelow c n (Bound i) = Unit {0}
PartsBelow c n (Sym s) = Unit {0}
PartsBelow c n (App f x) = (f < n) × (x < n)
PartsBelow c n (Lam a t) = (a < length c.types) × (t < n)
PartsBelow c n (Logic o x y) = HasTypeBelow (length c.types) o × IsArgumentBelow n x × IsArgumentBelow n y

pub arrow-below : (c : Contents) → IsSound c → (i a b : ℕ) → IsArrow c i a b → (i < length c.types) × (a < i) × (b < i)
arrow-below c s i a b h =
    let p = s.types_sound i (Arrow a b) h.arrow_node in
    (slice_get_within c.types i (Arrow a b) h.arrow_node, p.0, p.1)

parts_below : (c : Contents) → IsSound c → (n : ℕ) (v : View) (i : ℕ) → IsSoundView c n v i → PartsBelow c n v
parts_below c s n (Var v) i h = tt
parts_below c s n (Bound b) i h = tt
parts_below c s n (Sym b) i h = tt
parts_below c s n (App f x) i h = (h.function_below, h.argument_below)
parts_below c s n (Lam a t) i h = (let p = arrow-below c s i a _ h.typed in omega arith, h.body_below)
parts_below c s n (Logic o x y) i h = (h.type_below, h.first_below, h.second_below)

pub connective-same : (c d : Contents) → ((i : ℕ) → i < length c.types → type_at d i ≡ type_at c i) → (o : Op) → HasTypeBelow (length c.types) o → connective d o ≡ connective c o
connective-same c d same op.True h = refl
connective-same c d same op.False h = refl
connective-same c d same op.Not h = refl
connective-same c d same op.Or h = refl
connective-same c d same op.And h = refl
connective-same c d same op.Imp h = refl
connective-same c d same (op.Eq a) h = ap equality (same a h)
connective-same c d same (op.All a) h = ap universal (same a h)
connective-same c d same (op.Some a) h = ap existential (same a h)
connective-same c d same (op.Eps a) h = ap choice (same a h)

pub argument-same : (r s : ℕ → Tree) (n : ℕ) → ((t : ℕ) → t < n → s t ≡ r t) → (x : Option ℕ) → IsArgumentBelow n x → argument s x ≡ argument r x
argument-same r s n same None h = refl
argument-same r s n same (Some x) h = same x h

view_tree-same : (c d : Contents) → ((i : ℕ) → i < length c.types → type_at d i ≡ type_at c i) → (r s : ℕ → Tree) (n : ℕ) → ((t : ℕ) → t < n → s t ≡ r t) → (v : View) (a : SimpleType) → PartsBelow c n v → view_tree d s v a ≡ view_tree c r v a
view_tree-same c d types r s n same (Var v) a h = refl
view_tree-same c d types r s n same (Bound v) a h = refl
view_tree-same c d types r s n same (Sym v) a h = refl
view_tree-same c d types r s n same (App f x) a h = rw (same f h.0, same x h.1) refl
view_tree-same c d types r s n same (Lam b t) a h = rw (types b h.0, same t h.1) refl
view_tree-same c d types r s n same (Logic o x y) a h =
    rw (connective-same c d types o h.0, argument-same r s n same x h.1, argument-same r s n same y h.2) refl

tree_within-same : (c d : Contents) → IsSound c → Keeps c d → (k l t : ℕ) → t < k → t < l → t < length c.terms → tree_within d l t ≡ tree_within c k t
tree_within-same c d s e zero l t p q r = absurd (omega arith)
tree_within-same c d s e (suc k) zero t p q r = absurd (omega arith)
tree_within-same c d s e (suc k) (suc l) t p q r =
    let w = slice_get-some c.terms t r in
    let m = s.terms_sound t w.0 w.1 in
    let types : (i : ℕ) → i < length c.types → type_at d i ≡ type_at c i = ty-keeps c d s e.types in
    let f : slice_get d.terms t ≡ Some w.0 = e.terms t w.0 w.1 in
    let same : (u : ℕ) → u < t → tree_within d l u ≡ tree_within c k u = λ u h. tree_within-same c d s e k l u (omega arith) (omega arith) (omega arith) in
    rw (f, w.1, types w.0.ty m.type_below)
    (view_tree-same c d types (tree_within c k) (tree_within d l) t same w.0.view (type_at c w.0.ty) (parts_below c s t w.0.view w.0.ty m.view_sound))

-- the law of growth: every earlier number reads as before
pub tree-keeps : (c d : Contents) → IsSound c → Keeps c d → (t : ℕ) → t < length c.terms → tree_at d t ≡ tree_at c t
unfolding tree_at
tree-keeps c d s e t h = tree_within-same c d s e (suc t) (suc t) t (omega arith) (omega arith) h

-- how a term reads, by its node
pub tree-node : (c : Contents) → IsSound c → (t : ℕ) (v : View) (i : ℕ) → slice_get c.terms t ≡ Some (node v i) → tree_at c t ≡ view_tree c (tree_at c) v (type_at c i)
unfolding tree_at
tree-node c s t v i h =
    let w = slice_get_within c.terms t (node v i) h in
    let m = s.terms_sound t (node v i) h in
    let keeps : Keeps c c = record { types = λ j x e. e; symbols = λ j x e. e; terms = λ j x e. e } in
    let same : (u : ℕ) → u < t → tree_within c t u ≡ tree_within c (suc u) u = λ u q. tree_within-same c c s keeps (suc u) t u (omega arith) (omega arith) (omega arith) in
    rw h (view_tree-same c c (λ j q. refl) (λ u. tree_within c (suc u) u) (tree_within c t) t same v (type_at c i) (parts_below c s t v i m.view_sound))

pub type_number-node : (c : Contents) (t : ℕ) (n : TermNode) → slice_get c.terms t ≡ Some n → type_number c t ≡ n.ty
unfolding type_number
type_number-node c t n h = ap number_in h

pub type_number-keeps : (c d : Contents) → Keeps c d → (t : ℕ) → t < length c.terms → type_number d t ≡ type_number c t
type_number-keeps c d e t h =
    let w = slice_get-some c.terms t h in
    type_number-node d t w.0 (e.terms t w.0 w.1) ∙ sym (type_number-node c t w.0 w.1)

pub argument_type-keeps : (c d : Contents) → Keeps c d → (n : ℕ) → n ≤ length c.terms → (x : Option ℕ) → IsArgumentBelow n x → argument_type d x ≡ argument_type c x
argument_type-keeps c d e n l None h = refl
argument_type-keeps c d e n l (Some x) h = ap Some (type_number-keeps c d e x (omega arith))

pub IsArrow-keeps : (c d : Contents) → Keeps c d → (i a b : ℕ) → IsArrow c i a b → IsArrow d i a b
IsArrow-keeps c d e i a b h = record { arrow_node = e.types i (Arrow a b) h.arrow_node }

IsProperty-keeps : (c d : Contents) → Keeps c d → (x : Option ℕ) (a : ℕ) → IsProperty c x a → IsProperty d x a
IsProperty-keeps c d e x a h = record { number = h.number; argument_is = h.argument_is; property = IsArrow-keeps c d e h.number a 0 h.property }

pub Takes-keeps : (c d : Contents) → Keeps c d → (o : Op) (x y : Option ℕ) (i : ℕ) → Takes c o x y i → Takes d o x y i
Takes-keeps c d e op.True x y i h = h
Takes-keeps c d e op.False x y i h = h
Takes-keeps c d e op.Not x y i h = h
Takes-keeps c d e op.Or x y i h = h
Takes-keeps c d e op.And x y i h = h
Takes-keeps c d e op.Imp x y i h = h
Takes-keeps c d e (op.Eq a) x y i h = h
Takes-keeps c d e (op.All a) x y i h = (IsProperty-keeps c d e x a h.0, h.1, h.2)
Takes-keeps c d e (op.Some a) x y i h = (IsProperty-keeps c d e x a h.0, h.1, h.2)
Takes-keeps c d e (op.Eps a) x y i h = (IsProperty-keeps c d e x a h.0, h.1, h.2)

pub HasTypeBelow-more : (n m : ℕ) → n ≤ m → (o : Op) → HasTypeBelow n o → HasTypeBelow m o
HasTypeBelow-more n m l op.True h = tt
HasTypeBelow-more n m l op.False h = tt
HasTypeBelow-more n m l op.Not h = tt
HasTypeBelow-more n m l op.Or h = tt
HasTypeBelow-more n m l op.And h = tt
HasTypeBelow-more n m l op.Imp h = tt
HasTypeBelow-more n m l (op.Eq a) h = omega arith
HasTypeBelow-more n m l (op.All a) h = omega arith
HasTypeBelow-more n m l (op.Some a) h = omega arith
HasTypeBelow-more n m l (op.Eps a) h = omega arith

pub IsSoundView-keeps : (c d : Contents) → IsSound c → Keeps c d → (n : ℕ) → n ≤ length c.terms → (v : View) (i : ℕ) → IsSoundView c n v i → IsSoundView d n v i
IsSoundView-keeps c d s e n l (Var v) i h = tt
IsSoundView-keeps c d s e n l (Bound b) i h = tt
IsSoundView-keeps c d s e n l (Sym b) i h = record { symbol_type = symbol_keeps h.symbol_type }
  where
    at : (o : Option Symbol) → slice_get c.symbols b ≡ o → option_map (λ s. s.ty) o ≡ Some i → option_map (λ s. s.ty) (slice_get d.symbols b) ≡ Some i
    at None q k = absurd (cc)
    at (Some r) q k = rw (e.symbols b r q) k

    symbol_keeps : option_map (λ s. s.ty) (slice_get c.symbols b) ≡ Some i → option_map (λ s. s.ty) (slice_get d.symbols b) ≡ Some i
    symbol_keeps k = at (slice_get c.symbols b) refl k
IsSoundView-keeps c d s e n l (App f x) i h = record {
  function_below = h.function_below;
  argument_below = h.argument_below;
  typed =
      let p = h.function_below in
      let q = h.argument_below in
      rw (type_number-keeps c d e f (omega arith), type_number-keeps c d e x (omega arith)) (IsArrow-keeps c d e _ _ i h.typed);
}
IsSoundView-keeps c d s e n l (Lam a t) i h =
    let q = h.body_below in
    let p = arrow-below c s i a (type_number c t) h.typed in
    record {
      body_below = h.body_below;
      typed = rw (type_number-keeps c d e t (omega arith)) (IsArrow-keeps c d e i a _ h.typed);
      bound_typed = rw (ty-keeps c d s e.types a (omega arith), tree-keeps c d s e t (omega arith)) h.bound_typed;
    }
IsSoundView-keeps c d s e n l (Logic o x y) i h = record {
  first_below = h.first_below;
  second_below = h.second_below;
  type_below = HasTypeBelow-more _ _ (IsKept-length c.types d.types e.types) o h.type_below;
  typed = rw (argument_type-keeps c d e n l x h.first_below, argument_type-keeps c d e n l y h.second_below) (Takes-keeps c d e o _ _ i h.typed);
}

pub IsSoundNode-keeps : (c d : Contents) → IsSound c → Keeps c d → (n : ℕ) → n ≤ length c.terms → (t : TermNode) → IsSoundNode c n t → IsSoundNode d n t
IsSoundNode-keeps c d s e n l t h = record {
  type_below = let k = IsKept-length c.types d.types e.types in let p = h.type_below in omega arith;
  view_sound = IsSoundView-keeps c d s e n l t.view t.ty h.view_sound;
}

pub keeps_itself : (c : Contents) → Keeps c c
keeps_itself c = record { types = λ i x h. h; symbols = λ i x h. h; terms = λ i x h. h }

pub Keeps-trans : (b c d : Contents) → Keeps b c → Keeps c d → Keeps b d
Keeps-trans b c d p q = record {
  types = λ i x h. q.types i x (p.types i x h);
  symbols = λ i x h. q.symbols i x (p.symbols i x h);
  terms = λ i x h. q.terms i x (p.terms i x h);
}

pub Grows-itself : (c : Contents) → IsSound c → Grows c c
Grows-itself c s = record { old_sound = s; new_sound = s; bases = omega arith; keeps = keeps_itself c }

pub Grows-trans : (b c d : Contents) → Grows b c → Grows c d → Grows b d
Grows-trans b c d p q = record {
  old_sound = p.old_sound;
  new_sound = q.new_sound;
  bases = let x = p.bases in let y = q.bases in omega arith;
  keeps = Keeps-trans b c d p.keeps q.keeps;
}

IsSoundType-more : (b b' n : ℕ) → b ≤ b' → (x : TyView) → IsSoundType b n x → IsSoundType b' n x
IsSoundType-more b b' n l (Base k) h = omega arith
IsSoundType-more b b' n l (Arrow p q) h = h

-- a bank stays sound as it gains a type
pub grows_by_type : (c : Contents) (b : ℕ) (types : List TyView) (x : TyView) (i : ℕ) → IsSound c → c.bases ≤ b → AddsShared c.types types x i → IsSoundType b (length c.types) x → Grows c (record { bases = b; types = types; symbols = c.symbols; terms = c.terms })
grows_by_type c b types x i s l a h =
    let d : Contents = record { bases = b; types = types; symbols = c.symbols; terms = c.terms } in
    let e : Keeps c d = record { types = a.kept; symbols = λ j y k. k; terms = λ j y k. k } in
    let more = IsKept-length c.types types a.kept in
    record {
      old_sound = s;
      new_sound = record {
        truth_first = a.kept 0 _ s.truth_first;
        thing_second = a.kept 1 _ s.thing_second;
        types_sound = λ j y k. elim (a.only j y k) [ inl q ↦ IsSoundType-more c.bases b j l y (s.types_sound j y q) | inr q ↦ rw (q.0, q.1) h ];
        types_shared = a.shared;
        symbols_sound = λ j y k. let q = s.symbols_sound j y k in omega arith;
        terms_sound = λ t n k. IsSoundNode-keeps c d s e t (let q = slice_get_within c.terms t n k in omega arith) n (s.terms_sound t n k);
        terms_shared = s.terms_shared;
        terms_fit = s.terms_fit;
      };
      bases = l;
      keeps = e;
    }

-- a bank stays sound as it gains a term
pub grows_by_term : (c : Contents) (terms : List TermNode) (x : TermNode) (i : ℕ) → IsSound c → length terms < 2 ^ 64 → AddsShared c.terms terms x i → IsSoundNode c (length c.terms) x → Grows c (record { bases = c.bases; types = c.types; symbols = c.symbols; terms = terms })
grows_by_term c terms x i s fit a h =
    let d : Contents = record { bases = c.bases; types = c.types; symbols = c.symbols; terms = terms } in
    let e : Keeps c d = record { types = λ j y k. k; symbols = λ j y k. k; terms = a.kept } in
    record {
      old_sound = s;
      new_sound = record {
        truth_first = s.truth_first;
        thing_second = s.thing_second;
        types_sound = s.types_sound;
        types_shared = s.types_shared;
        symbols_sound = s.symbols_sound;
        terms_sound = λ t n k. elim (a.only t n k) [
          | inl q ↦ IsSoundNode-keeps c d s e t (let w = slice_get_within c.terms t n q in omega arith) n (s.terms_sound t n q)
          | inr q ↦ rw (q.0, q.1) (IsSoundNode-keeps c d s e (length c.terms) (omega arith) x h)
        ];
        terms_shared = a.shared;
        terms_fit = fit;
      };
      bases = omega arith;
      keeps = e;
    }

-- a term that was added is the one that was meant
pub IsTerm-added : (c d : Contents) → Grows c d → (v : View) (i : ℕ) → IsSoundNode c (length c.terms) (node v i) → (t : ℕ) → slice_get d.terms t ≡ Some (node v i) → IsTerm d t i (view_tree c (tree_at c) v (type_at c i))
IsTerm-added c d g v i h t k =
    let s = g.old_sound in
    let types : (j : ℕ) → j < length c.types → type_at d j ≡ type_at c j = ty-keeps c d s g.keeps.types in
    record {
      within = slice_get_within d.terms t (node v i) k;
      type_is = type_number-node d t (node v i) k;
      reads = tree-node d g.new_sound t v i k ∙ ap (view_tree d (tree_at d) v) (types i h.type_below) ∙ view_tree-same c d types (tree_at c) (tree_at d) (length c.terms) (tree-keeps c d s g.keeps) v (type_at c i) (parts_below c s (length c.terms) v i h.view_sound);
    }

-- a bank stays sound as it gains a symbol
pub grows_by_symbol : (c : Contents) (x : Symbol) → IsSound c → x.ty < length c.types → Grows c (record { bases = c.bases; types = c.types; symbols = c.symbols ++ x ∷ []; terms = c.terms })
grows_by_symbol c x s h =
    let d : Contents = record { bases = c.bases; types = c.types; symbols = c.symbols ++ x ∷ []; terms = c.terms } in
    let e : Keeps c d = record { types = λ j y k. k; symbols = IsKept-append c.symbols (x ∷ []); terms = λ j y k. k } in
    record {
      old_sound = s;
      new_sound = record {
        truth_first = s.truth_first;
        thing_second = s.thing_second;
        types_sound = s.types_sound;
        types_shared = s.types_shared;
        symbols_sound = λ j y k. elim (append_only c.symbols x j y k) [ inl q ↦ s.symbols_sound j y q | inr q ↦ rw q.1 h ];
        terms_sound = λ t n k. IsSoundNode-keeps c d s e t (let q = slice_get_within c.terms t n k in omega arith) n (s.terms_sound t n k);
        terms_shared = s.terms_shared;
        terms_fit = s.terms_fit;
      };
      bases = omega arith;
      keeps = e;
    }
