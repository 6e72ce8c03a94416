-- What is known at a place in a formula, and that it stays so as the bank grows.
use Rattle.std.proofs.Common.{None, take, get_or, ◌-◌, Bool, true, false, cond, ℕ, zero, suc, ◌+◌, ◌≡◌, ◌<◌, ◌≤◌, [], ◌∷◌, ◌++◌, List, length, map, slice_get, Some, refl, ap, sym, ◌∙◌, arith}
use Rattle.std.specs.Option.{option_map}
use Rattle.std.specs.Str.{bytes_eq}
use Rattle.std.specs.Map.{lookup}
use Rattle.std.proofs.lemmas.List.{length-map, length-append}
use Rattle.indexmap.specs.IndexMap.{IndexMap, get, insert_entry}
use Rattle.indexmap.proofs.CallerLemmas.{insert_entry-new}
use Rattle.leo_q0.specs.Terms.{Variable}
use Rattle.leo_terms.specs.Contents.{Contents, Extends, type_at, symbol_type}
use Rattle.leo_terms.proofs.Growth.{slice_get-some}
use Rattle.leo_terms.proofs.Making.{symbol_type-node}
use Rattle.leo_terms.proofs.CallerLemmas.{old_bank, sound, type-kept, symbol-kept}
use Rattle.leo_elab.specs.declared.scope.Bound.{Bound}
use Rattle.leo_elab.specs.Problem.{Declared, Constant, Scope, named, outside, bound_to}
use Rattle.leo_elab.specs.Table.{Table, AreTypesIn, AreConstantsIn, AreNamesOf, KnowsNames, type_entry, constant_entry, declared_in}
use Rattle.leo_elab.specs.Places.{scope_in, AreBoundIn, types_in, IsPlace, Around}

-- ---- names

-- what a name stands for once each entry is read
module _ {A B : Type 0} (g : A → B) where
  abbrev pub read_entry : List ℕ × A → List ℕ × B
  read_entry p = (p.0, g p.1)

  pub named-map : (name : List ℕ) (ps : List (List ℕ × A)) → named name (map read_entry ps) ≡ option_map g (named name ps)
  named-map name [] = refl
  named-map name (p ∷ ps) = by (bytes_eq name p.0) (named-map name ps)
    where
      by : (b : Bool) → named name (map read_entry ps) ≡ option_map g (named name ps)
          → cond b (Some (g p.1)) (named name (map read_entry ps)) ≡ option_map g (cond b (Some p.1) (named name ps))
      by true e = refl
      by false e = e

pub type-named : (c : Contents) (n : Table) (name : List ℕ) → named name (declared_in c n).types ≡ option_map (type_at c) (named name n.types)
type-named c n name = named-map (type_at c) name n.types

abbrev pub constant_at : Contents → ℕ → Constant
constant_at c s = record { number = s; type = type_at c (symbol_type c s) }

pub constant-named : (c : Contents) (n : Table) (name : List ℕ) → named name (declared_in c n).constants ≡ option_map (constant_at c) (named name n.constants)
constant-named c n name = named-map (constant_at c) name n.constants

pub type-within : (c : Contents) (name : List ℕ) (ps : List (List ℕ × ℕ)) (i : ℕ) → AreTypesIn c ps → named name ps ≡ Some i → i < length c.types
type-within c name [] i h e = absurd cc
type-within c name (p ∷ ps) i h e = by (bytes_eq name p.0) e (type-within c name ps i h.1)
  where
    by : (b : Bool) → cond b (Some p.1) (named name ps) ≡ Some i → (named name ps ≡ Some i → i < length c.types) → i < length c.types
    by true q k = let w = h.0 in let z : p.1 ≡ i = cc in rw (← z) w
    by false q k = k q

pub constant-within : (c : Contents) (name : List ℕ) (ps : List (List ℕ × ℕ)) (i : ℕ) → AreConstantsIn c ps → named name ps ≡ Some i → i < length c.symbols
constant-within c name [] i h e = absurd cc
constant-within c name (p ∷ ps) i h e = by (bytes_eq name p.0) e (constant-within c name ps i h.1)
  where
    by : (b : Bool) → cond b (Some p.1) (named name ps) ≡ Some i → (named name ps ≡ Some i → i < length c.symbols) → i < length c.symbols
    by true q k = let w = h.0 in let z : p.1 ≡ i = cc in rw (← z) w
    by false q k = k q

-- a map of names, as contracts see it
pub named-lookup : {K A : Type 0} (text : K → List ℕ) (name : List ℕ) (es : List (K × A)) → named name (map (λ p. (text p.0, p.1)) es) ≡ lookup (λ k. bytes_eq name (text k)) es
named-lookup text name [] = refl
named-lookup text name (e ∷ es) = ap (cond (bytes_eq name (text e.0)) (Some e.1)) (named-lookup text name es)

pub map-last : {A B : Type 0} (f : A → B) (xs : List A) (x : A) → map f (xs ++ x ∷ []) ≡ map f xs ++ f x ∷ []
map-last f [] x = refl
map-last f (y ∷ xs) x = ap (λ w. f y ∷ w) (map-last f xs x)

abbrev pub text_entry : {K A : Type 0} → (K → List ℕ) → K × A → List ℕ × A
text_entry text p = (text p.0, p.1)

-- and with a name that it did not have
pub added-entries : {K A S : Type 0} (text : K → List ℕ) (m : IndexMap K A S) (k : K) (v : A) → named (text k) (map (text_entry text) m.entries) ≡ None
    → (es : List (K × A)) → es ≡ insert_entry (λ x y. bytes_eq (text x) (text y)) m.entries k v → map (text_entry text) es ≡ map (text_entry text) m.entries ++ (text k, v) ∷ []
added-entries {K} {A} {S} text m k v n es e =
    let eq : K → K → Bool = λ x y. bytes_eq (text x) (text y) in
    let g : get eq m k ≡ None = sym (named-lookup text (text k) m.entries) ∙ n in
    let h : es ≡ m.entries ++ (k, v) ∷ [] = e ∙ insert_entry-new eq m k v g in
    rw h (map-last (text_entry text) m.entries (k, v))

-- ---- growth

module _ {c d : Contents} (e : Extends c d) where
  pub symbol_type-kept : (s : ℕ) → s < length c.symbols → symbol_type d s ≡ symbol_type c s
  symbol_type-kept s l =
      let x = slice_get-some c.symbols s l in
      symbol_type-node d s x.0 (symbol-kept e s x.0 x.1) ∙ sym (symbol_type-node c s x.0 x.1)

  pub symbol-type-within : (s : ℕ) → s < length c.symbols → symbol_type c s < length c.types
  symbol-type-within s l =
      let x = slice_get-some c.symbols s l in
      rw (symbol_type-node c s x.0 x.1) ((sound c (old_bank e)).symbols_sound s x.0 x.1)

  types-kept : (ps : List (List ℕ × ℕ)) → AreTypesIn c ps → (map (type_entry d) ps ≡ map (type_entry c) ps) × AreTypesIn d ps
  types-kept [] h = (refl, tt)
  types-kept (p ∷ ps) h =
      let r = types-kept ps h.1 in
      let w = h.0 in
      let more = e.types_more in
      let t : type_at d p.1 ≡ type_at c p.1 = type-kept e p.1 w in
      (rw (t, r.0) refl, (omega arith, r.1))

  constants-kept : (ps : List (List ℕ × ℕ)) → AreConstantsIn c ps → (map (constant_entry d) ps ≡ map (constant_entry c) ps) × AreConstantsIn d ps
  constants-kept [] h = (refl, tt)
  constants-kept (p ∷ ps) h =
      let r = constants-kept ps h.1 in
      let w = h.0 in
      let more = e.symbols_more in
      let s : symbol_type d p.1 ≡ symbol_type c p.1 = symbol_type-kept p.1 w in
      let t : type_at d (symbol_type c p.1) ≡ type_at c (symbol_type c p.1) = type-kept e (symbol_type c p.1) (symbol-type-within p.1 w) in
      (rw (s, t, r.0) refl, (omega arith, r.1))

  pub declared-kept : (n : Table) → AreNamesOf c n → (declared_in d n ≡ declared_in c n) × AreNamesOf d n
  declared-kept n h =
      let t = types-kept n.types h.types in
      let k = constants-kept n.constants h.constants in
      (rw (t.0, k.0) refl, record { types = t.1; constants = k.1 })

  pub knows-kept : {n : Table} {k : Declared} → KnowsNames c n k → KnowsNames d n k
  knows-kept {n} {k} h = let r = declared-kept n h.names in record { names = r.1; declared_is = h.declared_is ∙ sym r.0 }

  pub scope-kept : (bs : List Bound) → AreBoundIn c bs → (scope_in d bs ≡ scope_in c bs) × AreBoundIn d bs
  scope-kept [] h = (refl, tt)
  scope-kept (b ∷ bs) h =
      let r = scope-kept bs h.1 in
      let w = h.0 in
      let more = e.types_more in
      let t : type_at d b.ty ≡ type_at c b.ty = type-kept e b.ty w in
      (rw (t, r.0) refl, (omega arith, r.1))

  pub place-kept : {n : Table} {bs : List Bound} → IsPlace c n bs → IsPlace d n bs
  place-kept {n} {bs} h = record { names = (declared-kept n h.names).1; bound = (scope-kept bs h.bound).1 }

  pub around-kept : {n : Table} {bs : List Bound} {k : Declared} {s : Scope} → Around c n bs k s → Around d n bs k s
  around-kept {n} {bs} {k} {s} h = let r = scope-kept bs h.bound in record { knows = knows-kept h.knows; bound = r.1; scope_is = h.scope_is ∙ sym r.0 }

-- what stands around a place, in the first words
pub around-itself : {c : Contents} {n : Table} {bs : List Bound} → IsPlace c n bs → Around c n bs (declared_in c n) (scope_in c bs)
around-itself h = record { knows = record { names = h.names; declared_is = refl }; bound = h.bound; scope_is = refl }

pub place-of : {c : Contents} {n : Table} {bs : List Bound} {k : Declared} {s : Scope} → Around c n bs k s → IsPlace c n bs
place-of h = record { names = h.knows.names; bound = h.bound }

-- ---- scopes

pub scope-push : (c : Contents) (bs : List Bound) (b : Bound) → scope_in c (bs ++ b ∷ []) ≡ (b.name, type_at c b.ty) ∷ scope_in c bs
scope-push c [] b = refl
scope-push c (x ∷ bs) b = rw (scope-push c bs b) refl

pub bound-push : (c : Contents) (bs : List Bound) (b : Bound) → AreBoundIn c bs → b.ty < length c.types → AreBoundIn c (bs ++ b ∷ [])
bound-push c [] b h l = (l, tt)
bound-push c (x ∷ bs) b h l = (h.0, bound-push c bs b h.1 l)

pub bound-front : (c : Contents) (bs : List Bound) (b : Bound) → AreBoundIn c (bs ++ b ∷ []) → AreBoundIn c bs × (b.ty < length c.types)
bound-front c [] b h = (tt, h.0)
bound-front c (x ∷ bs) b h = let r = bound-front c bs b h.1 in ((h.0, r.0), r.1)

pub place-push : {c : Contents} {n : Table} {bs : List Bound} (b : Bound) → IsPlace c n bs → b.ty < length c.types → IsPlace c n (bs ++ b ∷ [])
place-push {c} {n} {bs} b h l = record { names = h.names; bound = bound-push c bs b h.bound l }

pub around-push : {c : Contents} {n : Table} {bs : List Bound} {k : Declared} {s : Scope} (b : Bound) → Around c n bs k s → b.ty < length c.types
    → Around c n (bs ++ b ∷ []) k ((b.name, type_at c b.ty) ∷ s)
around-push {c} {n} {bs} {k} {s} b h l = record { knows = h.knows; bound = bound-push c bs b h.bound l; scope_is = rw (scope-push c bs b, h.scope_is) refl }

pub scope-length : (c : Contents) (bs : List Bound) → length (scope_in c bs) ≡ length bs
scope-length c [] = refl
scope-length c (b ∷ bs) = rw (length-append (scope_in c bs) ((b.name, type_at c b.ty) ∷ []), scope-length c bs) (omega arith)

pub types-length : (s : Scope) → length (types_in s) ≡ length s
types-length s = length-map s (λ v. v.1)

-- a variable that a name stands for, and where it stands
number-below : (name : List ℕ) (s : Scope) (v : Variable) → bound_to name s ≡ Some v → v.number < length s
number-below name [] v h = absurd cc
number-below name (x ∷ s) v h = by (bytes_eq name x.0) h (number-below name s v)
  where
    by : (b : Bool) → cond b (Some (outside s x.1)) (bound_to name s) ≡ Some v → (bound_to name s ≡ Some v → v.number < length s) → v.number < suc (length s)
    by true e k = let z : outside s x.1 ≡ v = cc in rw (← z) (omega arith)
    by false e k = let w = k e in omega arith

pub bound-at : (name : List ℕ) (s : Scope) (v : Variable) (i : ℕ) → bound_to name s ≡ Some v → i + (v.number + 1) ≡ length s → slice_get (types_in s) i ≡ Some v.type
bound-at name [] v i h e = absurd cc
bound-at name (x ∷ s) v i h e = by (bytes_eq name x.0) h i e (bound-at name s v) (number-below name s v)
  where
    by : (b : Bool) → cond b (Some (outside s x.1)) (bound_to name s) ≡ Some v → (i : ℕ) → i + (v.number + 1) ≡ suc (length s)
        → ((i : ℕ) → bound_to name s ≡ Some v → i + (v.number + 1) ≡ length s → slice_get (types_in s) i ≡ Some v.type) → (bound_to name s ≡ Some v → v.number < length s)
        → slice_get (x.1 ∷ types_in s) i ≡ Some v.type
    by true q zero f k m = let z : outside s x.1 ≡ v = cc in ap (λ (w : Variable). Some w.type) z
    by true q (suc i) f k m = let z : outside s x.1 ≡ v = cc in let y : v.number ≡ length s = sym (ap (λ (w : Variable). w.number) z) in absurd (omega arith)
    by false q zero f k m = let w = m q in absurd (omega arith)
    by false q (suc i) f k m = k i q (omega arith)

-- the last of a list
last-at : (xs : List Bound) (k : ℕ) (x : Bound) → k + 1 ≡ length xs → x ≡ get_or xs k x → take k xs ++ x ∷ [] ≡ xs
last-at [] k x l e = absurd (omega arith)
last-at (y ∷ []) zero x l e = rw (← e) refl
last-at (y ∷ []) (suc k) x l e = absurd (omega arith)
last-at (y ∷ z ∷ xs) zero x l e = absurd (omega arith)
last-at (y ∷ z ∷ xs) (suc k) x l e = ap (λ (w : List Bound). y ∷ w) (last-at (z ∷ xs) k x (omega arith) e)

pub last-of : (xs : List Bound) (x : Bound) → 1 ≤ length xs → x ≡ get_or xs (length xs - 1) x → take (length xs - 1) xs ++ x ∷ [] ≡ xs
last-of xs x l e = last-at xs (length xs - 1) x (omega arith) e

pub find-here : (c : Contents) (name : List ℕ) (xs : List Bound) (x : Bound) → bytes_eq name x.name ≡ true
    → bound_to name (scope_in c (xs ++ x ∷ [])) ≡ Some (record { number = length xs; type = type_at c x.ty })
find-here c name xs x e = rw (scope-push c xs x, e, scope-length c xs) refl

pub find-there : (c : Contents) (name : List ℕ) (xs : List Bound) (x : Bound) → bytes_eq name x.name ≡ false
    → bound_to name (scope_in c (xs ++ x ∷ [])) ≡ bound_to name (scope_in c xs)
find-there c name xs x e = rw (scope-push c xs x, e) refl
