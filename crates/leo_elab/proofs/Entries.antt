-- The declared atoms as more are declared.
use Rattle.std.proofs.Common.{Bool, true, false, cond, ℕ, ◌≡◌, ◌≢◌, ◌<◌, [], ◌∷◌, ◌++◌, List, length, map, slice_get, Option, Some, None, refl, ap, sym, ◌∙◌, ◌⊎◌, inl, inr}
use Rattle.std.specs.Option.{option_map}
use Rattle.std.specs.Str.{bytes_eq}
use Rattle.std.proofs.lemmas.Bool.{eq-eqb}
use Rattle.leo_q0.specs.Terms.{base}
use Rattle.leo_terms.specs.declared.node.TyView.TheVariants.{Base}
use Rattle.leo_terms.specs.Contents.{Contents, Symbol, Extends, IsAdded, AddsSymbol, IsTerm, type_at, type_number, symbol_type}
use Rattle.leo_terms.proofs.ListLemmas.{append_only}
use Rattle.leo_terms.specs.Tree.{Tree}
use Rattle.leo_terms.proofs.CallerLemmas.{new_bank, reads-base, type-kept, type_number-kept, extends-trans}
use Rattle.leo_syntax.specs.declared.tree.TypeTree.{TypeTree}
use Rattle.leo_elab.specs.Problem.{Declared, named}
use Rattle.leo_elab.specs.Table.{Table, AreTypesIn, AreConstantsIn, AreNamesOf, type_entry, constant_entry, declared_in}
use Rattle.leo_elab.specs.Meaning.{MeansType}
use Rattle.leo_elab.specs.Declaring.{IsUndeclared, DeclaresType, Declares, new_type, new_constant, AreConstantsNamed}
use Rattle.leo_elab.proofs.Places.{type-named, constant-named, declared-kept, map-last}

mapped-none : {A B : Type 0} (f : A → B) (o : Option A) → option_map f o ≡ None → o ≡ None
mapped-none f None e = refl
mapped-none f (Some x) e = absurd cc

pub no-type : (c : Contents) (n : Table) (atom : List ℕ) → named atom (declared_in c n).types ≡ None → named atom n.types ≡ None
no-type c n atom e = mapped-none _ (named atom n.types) (sym (type-named c n atom) ∙ e)

pub no-constant : (c : Contents) (n : Table) (atom : List ℕ) → named atom (declared_in c n).constants ≡ None → named atom n.constants ≡ None
no-constant c n atom e = mapped-none _ (named atom n.constants) (sym (constant-named c n atom) ∙ e)

pub undeclared : (c : Contents) (n : Table) (atom : List ℕ) → named atom n.types ≡ None → named atom n.constants ≡ None → IsUndeclared (declared_in c n) atom
undeclared c n atom e f = record { no_type = type-named c n atom ∙ ap (option_map _) e; no_constant = constant-named c n atom ∙ ap (option_map _) f }

types-last : (c : Contents) (ps : List (List ℕ × ℕ)) (p : List ℕ × ℕ) → AreTypesIn c ps → p.1 < length c.types → AreTypesIn c (ps ++ p ∷ [])
types-last c [] p h l = (l, tt)
types-last c (q ∷ ps) p h l = (h.0, types-last c ps p h.1 l)

constants-last : (c : Contents) (ps : List (List ℕ × ℕ)) (p : List ℕ × ℕ) → AreConstantsIn c ps → p.1 < length c.symbols → AreConstantsIn c (ps ++ p ∷ [])
constants-last c [] p h l = (l, tt)
constants-last c (q ∷ ps) p h l = (h.0, constants-last c ps p h.1 l)

abbrev with_type : Table → List ℕ → ℕ → Table
with_type n atom i = record { types = n.types ++ (atom, i) ∷ []; constants = n.constants }

abbrev with_constant : Table → List ℕ → ℕ → Table
with_constant n atom i = record { types = n.types; constants = n.constants ++ (atom, i) ∷ [] }

pub names-type : {c d : Contents} {n m : Table} (atom : List ℕ) (i : ℕ) → Extends c d → AreNamesOf c n → i < length d.types → m ≡ with_type n atom i → AreNamesOf d m
names-type {c} {d} {n} {m} atom i e h l q = let k = (declared-kept e n h).1 in rw q (record { types = types-last d n.types (atom, i) k.types l; constants = k.constants })

pub names-constant : {c d : Contents} {n m : Table} (atom : List ℕ) (i : ℕ) → Extends c d → AreNamesOf c n → i < length d.symbols → m ≡ with_constant n atom i → AreNamesOf d m
names-constant {c} {d} {n} {m} atom i e h l q = let k = (declared-kept e n h).1 in rw q (record { types = k.types; constants = constants-last d n.constants (atom, i) k.constants l })

pub declares-type : {c d : Contents} {n m : Table} {atom : List ℕ} {i x : ℕ} {ty : TypeTree} → Extends c d → AreNamesOf c n → IsAdded c.types d.types (Base c.bases) i → m ≡ with_type n atom i
    → IsUndeclared (declared_in c n) atom → DeclaresType ty → Declares (declared_in c n) atom ty c.bases x (declared_in d m)
declares-type {c} {d} {n} {m} {atom} {i} {x} {ty} e h a q u w =
    let k : declared_in d n ≡ declared_in c n = (declared-kept e n h).0 in
    let t : map (type_entry d) n.types ≡ map (type_entry c) n.types = ap (λ (z : Declared). z.types) k in
    let f : map (constant_entry d) n.constants ≡ map (constant_entry c) n.constants = ap (λ (z : Declared). z.constants) k in
    let b : type_at d i ≡ base c.bases = reads-base (new_bank e) i c.bases a.stored in
    rw (q, map-last (type_entry d) n.types (atom, i), t, f, b) (new_type u w)

pub declares-constant : {b c d : Contents} {n m : Table} {atom : List ℕ} {i s : ℕ} {ty : TypeTree} {x : ℕ} → Extends b d → Extends c d → AreNamesOf b n → c.symbols ≡ b.symbols → AddsSymbol c d (record { name = Some atom; ty = i }) s
    → symbol_type d s ≡ i → i < length c.types → m ≡ with_constant n atom s → IsUndeclared (declared_in b n) atom → MeansType (declared_in b n) ty (type_at c i)
    → Declares (declared_in b n) atom ty x (length b.symbols) (declared_in d m)
declares-constant {b} {c} {d} {n} {m} {atom} {i} {s} {ty} {x} e f h y a o l q u w =
    let k : declared_in d n ≡ declared_in b n = (declared-kept e n h).0 in
    let t : map (type_entry d) n.types ≡ map (type_entry b) n.types = ap (λ (z : Declared). z.types) k in
    let g : map (constant_entry d) n.constants ≡ map (constant_entry b) n.constants = ap (λ (z : Declared). z.constants) k in
    let v : type_at d i ≡ type_at c i = type-kept f i l in
    let r : s ≡ length b.symbols = a.last ∙ ap (λ (z : List Symbol). length z) y in
    rw (q, map-last (constant_entry d) n.constants (atom, s), t, g, o, v, r) (new_constant u w)

bytes-itself : (xs : List ℕ) → bytes_eq xs xs ≡ true
bytes-itself [] = refl
bytes-itself (x ∷ xs) = rw (eq-eqb x x refl, bytes-itself xs) refl

named-more : {A : Type 0} (name : List ℕ) (ps : List (List ℕ × A)) (p : List ℕ × A) → named name ps ≢ None → named name (ps ++ p ∷ []) ≢ None
named-more name [] p h e = h refl
named-more {A} name (q ∷ ps) p h e = by (bytes_eq name q.0) h e (named-more name ps p)
  where
    by : (b : Bool) → cond b (Some q.1) (named name ps) ≢ None → cond b (Some q.1) (named name (ps ++ p ∷ [])) ≡ None → (named name ps ≢ None → named name (ps ++ p ∷ []) ≢ None) → ⊥
    by true x y z = absurd cc
    by false x y z = z x y

named-last : {A : Type 0} (name : List ℕ) (ps : List (List ℕ × A)) (x : A) → named name (ps ++ (name, x) ∷ []) ≢ None
named-last {A} name [] x e = let t : bytes_eq name name ≡ true = bytes-itself name in let z : Some x ≡ None = rw t at e in absurd cc
named-last {A} name (q ∷ ps) x e = by (bytes_eq name q.0) e (named-last name ps x)
  where
    by : (b : Bool) → cond b (Some q.1) (named name (ps ++ (name, x) ∷ [])) ≡ None → named name (ps ++ (name, x) ∷ []) ≢ None → ⊥
    by true y z = absurd cc
    by false y z = z y

pub constants-named : {b c d : Contents} {n m : Table} {atom : List ℕ} {i s : ℕ} → AreConstantsNamed b n → c.symbols ≡ b.symbols → AddsSymbol c d (record { name = Some atom; ty = i }) s → m ≡ with_constant n atom s → AreConstantsNamed d m
constants-named {b} {c} {d} {n} {m} {atom} {i} {s} h y a q = record {
  named_constant = λ t x name f g.
      let z : slice_get (c.symbols ++ record { name = Some atom; ty = i } ∷ []) t ≡ Some x = rw (a.appended) at f in
      by t x name g (append_only c.symbols (record { name = Some atom; ty = i }) t x z);
}
  where
    by : (t : ℕ) (x : Symbol) (name : List ℕ) → x.name ≡ Some name → (slice_get c.symbols t ≡ Some x) ⊎ ((t ≡ length c.symbols) × (x ≡ record { name = Some atom; ty = i })) → named name m.constants ≢ None
    by t x name g (inl f) = rw q (named-more name n.constants (atom, s) (h.named_constant t x name (rw (← y) f) g))
    by t x name g (inr f) =
        let w : Some atom ≡ Some name = sym (ap (λ (u : Symbol). u.name) f.1) ∙ g in
        let v : atom ≡ name = cc in
        rw (q, ← v) (named-last atom n.constants s)

-- the type of a symbol, as the term of the symbol has it in later banks
pub again-type : {b c d : Contents} {t i : ℕ} {x : Tree} → Extends b c → Extends c d → i < length b.types → IsTerm c t i x → type_at d (type_number d t) ≡ type_at b i
again-type {b} {c} {d} {t} {i} e f l h =
    let k : type_number d t ≡ i = type_number-kept f t h.within ∙ h.type_is in
    ap (type_at d) k ∙ type-kept (extends-trans e f) i l
