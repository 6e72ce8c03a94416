-- Terms that were built, in a bank that grows.
use Rattle.std.proofs.Common.{ℕ, zero, suc, ◌≡◌, ◌∙◌, ◌+◌, ◌<◌, List, [], ◌∷◌, ◌++◌, length, map, slice_get, slice_index_or, Some, refl, sym, ap, arith, add-one}
use Rattle.std.proofs.lemmas.List.{length-append, map-append}
use Rattle.std.proofs.lemmas.Option.{slice_get_within, slice_get-map}
use Rattle.std.specs.Option.{option_map}
use Rattle.leo_q0.specs.Terms.{SimpleType}
use Rattle.leo_terms.specs.Tree.{Tree, variable, bound, symbol, app, lam, logic, absent, Connective, IsBoundAt}
use Rattle.leo_terms.specs.Contents.{Contents, Extends, IsTerm, type_at, tree_at}
use Rattle.leo_terms.proofs.CallerLemmas.{type-kept, tree-kept}
use Rattle.leo_clause.specs.Typed.{AreTypesOf, IsOver}
use Rattle.leo_tstp.specs.declared.building.numbers.Numbers.{Numbers}
use Rattle.leo_tstp.specs.Built.{inside_out, IsTermOver, AreSymbolNumbers, IsNumbering, IsSite, IsBuilt}

-- ---- lists

pub type-there : (c : Contents) (ts : List ℕ) → AreTypesOf c ts → (n t : ℕ) → n < length ts → t ≡ slice_index_or ts n t → t < length c.types
type-there c [] h n t l e = absurd (omega arith)
type-there c (x ∷ ts) h zero t l e = rw e h.0
type-there c (x ∷ ts) h (suc n) t l e = type-there c ts h.1 n t (omega arith) e

pub symbol-there : (c : Contents) (ts : List ℕ) → AreSymbolNumbers c ts → (n t : ℕ) → n < length ts → t ≡ slice_index_or ts n t → t < length c.symbols
symbol-there c [] h n t l e = absurd (omega arith)
symbol-there c (x ∷ ts) h zero t l e = rw e h.0
symbol-there c (x ∷ ts) h (suc n) t l e = symbol-there c ts h.1 n t (omega arith) e

pub stands-there : (ts : List ℕ) (n t : ℕ) → n < length ts → t ≡ slice_index_or ts n t → slice_get ts n ≡ Some t
stands-there [] n t l e = absurd (omega arith)
stands-there (x ∷ ts) zero t l e = let f : x ≡ t = sym e in rw f refl
stands-there (x ∷ ts) (suc n) t l e = stands-there ts n t (omega arith) e

pub types-push : (c : Contents) (ts : List ℕ) (t : ℕ) → AreTypesOf c ts → t < length c.types → AreTypesOf c (ts ++ t ∷ [])
types-push c [] t h l = (l, tt)
types-push c (x ∷ ts) t h l = (h.0, types-push c ts t h.1 l)

pub symbols-push : (c : Contents) (ts : List ℕ) (t : ℕ) → AreSymbolNumbers c ts → t < length c.symbols → AreSymbolNumbers c (ts ++ t ∷ [])
symbols-push c [] t h l = (l, tt)
symbols-push c (x ∷ ts) t h l = (h.0, symbols-push c ts t h.1 l)

-- ---- scopes

at-front : {A : Type 0} (xs ys : List A) (n : ℕ) (x : A) → slice_get xs n ≡ Some x → slice_get (xs ++ ys) n ≡ Some x
at-front [] ys n x e = absurd cc
at-front (y ∷ xs) ys zero x e = e
at-front (y ∷ xs) ys (suc n) x e = at-front xs ys n x e

at-end : {A : Type 0} (xs ys : List A) (x : A) → slice_get (xs ++ x ∷ ys) (length xs) ≡ Some x
at-end [] ys x = refl
at-end (y ∷ xs) ys x = at-end xs ys x

inside_out-length : {A : Type 0} (xs : List A) → length (inside_out xs) ≡ length xs
inside_out-length [] = refl
inside_out-length (x ∷ xs) = rw (length-append (inside_out xs) (x ∷ []), inside_out-length xs) (omega arith)

inside_out-push : {A : Type 0} (xs : List A) (x : A) → inside_out (xs ++ x ∷ []) ≡ x ∷ inside_out xs
inside_out-push [] x = refl
inside_out-push (y ∷ xs) x = ap (λ zs. zs ++ y ∷ []) (inside_out-push xs x)

inside_out-at : {A : Type 0} (xs : List A) (i n : ℕ) (x : A) → slice_get xs n ≡ Some x → i + (n + 1) ≡ length xs → slice_get (inside_out xs) i ≡ Some x
inside_out-at [] i n x e l = absurd cc
inside_out-at (y ∷ xs) i zero x e l =
    let f : y ≡ x = cc in
    let m : i ≡ length (inside_out xs) = rw (inside_out-length xs) (omega arith) in
    rw (m, f) (at-end (inside_out xs) [] x)
inside_out-at (y ∷ xs) i (suc n) x e l = at-front (inside_out xs) (y ∷ []) i x (inside_out-at xs i n x e (omega arith))

-- an index that leads to a variable of the scope has that variable's type
pub bound-typed : (vs before s : List SimpleType) (a : SimpleType) (t : Tree) → IsTermOver vs (before ++ a ∷ s) t → IsBoundAt (length before) a t
bound-typed vs before s a (variable n b) h = tt
bound-typed vs before s a (bound i b) h = λ e. let f : slice_get (before ++ a ∷ s) (length before) ≡ Some a = at-end before s a in let g : slice_get (before ++ a ∷ s) (length before) ≡ Some b = rw (← e) h in cc
bound-typed vs before s a (symbol n b) h = tt
bound-typed vs before s a (app f x) h = (bound-typed vs before s a f h.0, bound-typed vs before s a x h.1)
bound-typed vs before s a (lam b t) h = rw (add-one (length before)) (bound-typed vs (b ∷ before) s a t h)
bound-typed vs before s a (logic c x y) h = (bound-typed vs before s a x h.0, bound-typed vs before s a y h.1)
bound-typed vs before s a absent h = tt

pub over : (vs s : List SimpleType) (t : Tree) → IsTermOver vs s t → IsOver vs (length s) t
over vs s (variable n b) h = h
over vs s (bound i b) h = slice_get_within s i b h
over vs s (symbol n b) h = tt
over vs s (app f x) h = (over vs s f h.0, over vs s x h.1)
over vs s (lam b t) h = rw (add-one (length s)) (over vs (b ∷ s) t h)
over vs s (logic c x y) h = (over vs s x h.0, over vs s y h.1)
over vs s absent h = tt

-- ---- growth

module _ {c d : Contents} (e : Extends c d) where
  pub types-grow : (ts : List ℕ) → AreTypesOf c ts → AreTypesOf d ts
  types-grow [] h = tt
  types-grow (t ∷ ts) h = let w = h.0 in let more = e.types_more in (omega arith, types-grow ts h.1)

  pub types-kept : (ts : List ℕ) → AreTypesOf c ts → map (type_at d) ts ≡ map (type_at c) ts
  types-kept [] h = refl
  types-kept (t ∷ ts) h = rw (type-kept e t h.0, types-kept ts h.1) refl

  pub symbols-grow : (ts : List ℕ) → AreSymbolNumbers c ts → AreSymbolNumbers d ts
  symbols-grow [] h = tt
  symbols-grow (t ∷ ts) h = let w = h.0 in let more = e.symbols_more in (omega arith, symbols-grow ts h.1)

  pub numbering-kept : {n : Numbers} → IsNumbering c n → IsNumbering d n
  numbering-kept {n} h = record { bases = types-grow n.bases.items h.bases; types = types-grow n.types.items h.types; symbols = symbols-grow n.symbols.items h.symbols }

  pub site-kept : {n : Numbers} {vs s : List ℕ} → IsSite c n vs s → IsSite d n vs s
  site-kept {n} {vs} {s} h = record { numbering = numbering-kept h.numbering; variables = types-grow vs h.variables; scope_of = types-grow s h.scope_of }

  -- a term that reads as a tree over the variables around
  pub built-as : {vs s : List ℕ} {t i : ℕ} {x : Tree} → IsTerm d t i x → AreTypesOf c vs → AreTypesOf c s → IsTermOver (map (type_at c) vs) (inside_out (map (type_at c) s)) x → IsBuilt d vs s t
  built-as {vs} {s} {t} {i} {x} h v k o = record {
    within = h.within;
    variables = types-grow vs v;
    scope_of = types-grow s k;
    over = rw (h.reads, types-kept vs v, types-kept s k) o;
  }

  pub built-kept : {vs s : List ℕ} {t : ℕ} → IsBuilt c vs s t → IsBuilt d vs s t
  built-kept {vs} {s} {t} h = let w = h.within in let more = e.terms_more in record {
    within = omega arith;
    variables = types-grow vs h.variables;
    scope_of = types-grow s h.scope_of;
    over = rw (tree-kept e t h.within, types-kept vs h.variables, types-kept s h.scope_of) h.over;
  }

  pub built-app : {f x t i : ℕ} → IsTerm d t i (app (tree_at c f) (tree_at c x)) → (vs s : List ℕ) → IsBuilt c vs s f → IsBuilt c vs s x → IsBuilt d vs s t
  built-app h vs s p q = built-as h p.variables p.scope_of (p.over, q.over)

  pub built-alone : {k : Connective} {t i : ℕ} → IsTerm d t i (logic k absent absent) → (vs s : List ℕ) → AreTypesOf c vs → AreTypesOf c s → IsBuilt d vs s t
  built-alone h vs s p q = built-as h p q (tt, tt)

  pub built-one : {k : Connective} {x t i : ℕ} → IsTerm d t i (logic k (tree_at c x) absent) → (vs s : List ℕ) → IsBuilt c vs s x → IsBuilt d vs s t
  built-one h vs s p = built-as h p.variables p.scope_of (p.over, tt)

  pub built-two : {k : Connective} {x y t i : ℕ} → IsTerm d t i (logic k (tree_at c x) (tree_at c y)) → (vs s : List ℕ) → IsBuilt c vs s x → IsBuilt c vs s y → IsBuilt d vs s t
  built-two h vs s p q = built-as h p.variables p.scope_of (p.over, q.over)

  pub built-lam : (ty : ℕ) {body t i : ℕ} → IsTerm d t i (lam (type_at c ty) (tree_at c body)) → (vs s : List ℕ) → AreTypesOf c s → IsBuilt c vs (s ++ ty ∷ []) body → IsBuilt d vs s t
  built-lam ty {body} h vs s k p =
      let m : inside_out (map (type_at c) (s ++ ty ∷ [])) ≡ type_at c ty ∷ inside_out (map (type_at c) s) = ap inside_out (map-append (type_at c) s (ty ∷ [])) ∙ inside_out-push (map (type_at c) s) (type_at c ty) in
      built-as h p.variables k (rw m at p.over)

  pub built-var : {n ty t i : ℕ} → IsTerm d t i (variable n (type_at c ty)) → (vs s : List ℕ) → AreTypesOf c vs → AreTypesOf c s → n < length vs → ty ≡ slice_index_or vs n ty → IsBuilt d vs s t
  built-var {n} {ty} h vs s p q l k =
      built-as h p q (slice_get-map (type_at c) vs n ∙ ap (option_map (type_at c)) (stands-there vs n ty l k))

  pub built-level : {j n ty t i : ℕ} → IsTerm d t i (bound j (type_at c ty)) → (vs s : List ℕ) → AreTypesOf c vs → AreTypesOf c s → n < length s → ty ≡ slice_index_or s n ty → j + (n + 1) ≡ length s → IsBuilt d vs s t
  built-level {j} {n} {ty} h vs s p q l k e =
      let there : slice_get (map (type_at c) s) n ≡ Some (type_at c ty) = slice_get-map (type_at c) s n ∙ ap (option_map (type_at c)) (stands-there s n ty l k) in
      built-as h p q (inside_out-at (map (type_at c) s) j n (type_at c ty) there (rw (mapped-length s) e))
    where
      mapped-length : (ts : List ℕ) → length (map (type_at c) ts) ≡ length ts
      mapped-length [] = refl
      mapped-length (x ∷ ts) = ap suc (mapped-length ts)

  pub built-symbol : {n t i : ℕ} {a : SimpleType} → IsTerm d t i (symbol n a) → (vs s : List ℕ) → AreTypesOf c vs → AreTypesOf c s → IsBuilt d vs s t
  built-symbol h vs s p q = built-as h p q tt

-- a body that was built, as a lambda takes it
pub body-typed : {c : Contents} {vs : List ℕ} (s : List ℕ) (ty : ℕ) {body : ℕ} → IsBuilt c vs (s ++ ty ∷ []) body → IsBoundAt 0 (type_at c ty) (tree_at c body)
body-typed {c} {vs} s ty {body} p =
    let m : inside_out (map (type_at c) (s ++ ty ∷ [])) ≡ type_at c ty ∷ inside_out (map (type_at c) s) = ap inside_out (map-append (type_at c) s (ty ∷ [])) ∙ inside_out-push (map (type_at c) s) (type_at c ty) in
    bound-typed (map (type_at c) vs) [] (inside_out (map (type_at c) s)) (type_at c ty) (tree_at c body) (rw m at p.over)
