-- Steps of declaring all atoms, over plain variables.
use Rattle.std.proofs.Common.{Bool, true, false, cond, ℕ, zero, suc, ◌+◌, ◌≡◌, ◌≢◌, ◌<◌, List, [], ◌∷◌, ◌++◌, length, map, slice_get, drop, Option, Some, None, option_copied, refl, ap, sym, ◌∙◌, append_assoc, add-one, arith, lit≤, Bor}
use Rattle.std.specs.Option.{option_map, is_some}
use Rattle.std.specs.Str.{bytes_eq}
use Rattle.std.specs.Map.{lookup}
use Rattle.indexmap.specs.IndexMap.{IndexMap, get, insert_entry}
use Rattle.indexmap.proofs.CallerLemmas.{insert_entry-new}
use Rattle.leo_q0.specs.Terms.{SimpleType, base}
use Rattle.leo_terms.specs.Contents.{Contents, start}
use Rattle.leo_syntax.specs.declared.tree.TypeTree.{TypeTree}
use Rattle.leo_elab.specs.Problem.{Declared, Constant, named}
use Rattle.leo_elab.specs.Table.{Table, AreNamesOf, declared_in}
use Rattle.leo_elab.specs.Meaning.{MeansType, individuals, truth_values, declared_type, functions}
use Rattle.leo_elab.specs.Declaring.{Declares, new_type, new_constant, same_type, same_constant, DeclaresType, IsUndeclared, AreConstantsNamed}
use Rattle.leo_elab.specs.Pairs.{without, beyond, IsEachOnce, AreNew}
use Rattle.leo_elab.specs.Passes.{AreTypesUpTo, AreConstantsUpTo}
use Rattle.leo_elab.specs.Typings as typings
use Rattle.leo_elab.specs.Typings.{Typing, first_typings, declares_type, base_types, AreConstants, AreDeclared, AreRight, AreAlike, OffendsAmong, IsRight, SaysWhatAtomsAre, IsAt, IsRefusalOf}
use Rattle.leo_elab.specs.declared.refusal.ElabRefusal.{ElabRefusal}
use Rattle.leo_elab.specs.declared.refusal.ElabRefusal.TheVariants.{Twice, Memory}
use Rattle.leo_elab.specs.declared.refusal.TypingsRefusal.{TypingsRefusal}
use Rattle.leo_elab.specs.declared.refusal.TypingsRefusal.TheVariants as refusal
use Rattle.leo_elab.specs.Offences.{OffendsInType}
use Rattle.leo_elab.specs.Places.{IsType}
use borrow.Author.Count.{below_more}
use Rattle.leo_elab.proofs.Pairs.{new-more, new-nothing, bytes-same, bytes-itself, beyond-more, beyond-known}
use Rattle.leo_elab.proofs.FirstTypings.{types-constant, says-some}
use Rattle.leo_elab.proofs.Places.{map-last}

-- ---- a map of names whose values are read, as contracts see it

module _ {K A B : Type 0} (text : K → List ℕ) (value : A → B) where
  abbrev pub read_pair : K × A → List ℕ × B
  read_pair p = (text p.0, value p.1)

  pub named-read : (name : List ℕ) (es : List (K × A)) → named name (map read_pair es) ≡ option_map value (lookup (λ k. bytes_eq name (text k)) es)
  named-read name [] = refl
  named-read name (e ∷ es) = by (bytes_eq name (text e.0)) (named-read name es)
    where
      by : (b : Bool) → named name (map read_pair es) ≡ option_map value (lookup (λ k. bytes_eq name (text k)) es)
          → cond b (Some (value e.1)) (named name (map read_pair es)) ≡ option_map value (cond b (Some e.1) (lookup (λ k. bytes_eq name (text k)) es))
      by true k = refl
      by false k = k

mapped-none : {A B : Type 0} (f : A → B) (o : Option A) → option_map f o ≡ None → o ≡ None
mapped-none f None e = refl
mapped-none f (Some x) e = absurd cc

pub added-read : {K A B S : Type 0} (text : K → List ℕ) (value : A → B) (m : IndexMap K A S) (k : K) (v : A) → named (text k) (map (read_pair text value) m.entries) ≡ None
    → (es : List (K × A)) → es ≡ insert_entry (λ x y. bytes_eq (text x) (text y)) m.entries k v → map (read_pair text value) es ≡ map (read_pair text value) m.entries ++ (text k, value v) ∷ []
added-read {K} {A} {B} {S} text value m k v n es e =
    let eq : K → K → Bool = λ x y. bytes_eq (text x) (text y) in
    let g : get eq m k ≡ None = mapped-none value (get eq m k) (sym (named-read text value (text k) m.entries) ∙ n) in
    let h : es ≡ m.entries ++ (k, v) ∷ [] = e ∙ insert_entry-new eq m k v g in
    rw h (map-last (read_pair text value) m.entries (k, v))

-- ---- lists

pub drop-here : {A : Type 0} (xs : List A) (k : ℕ) (x : A) → slice_get xs k ≡ Some x → drop k xs ≡ x ∷ drop (k + 1) xs
drop-here [] k x e = absurd cc
drop-here (y ∷ ys) zero x e = let z : y ≡ x = cc in rw z refl
drop-here (y ∷ ys) (suc k) x e = rw add-one (rw add-one at (drop-here ys k x e))

pub drop-end : {A : Type 0} (xs : List A) → drop (length xs) xs ≡ []
drop-end [] = refl
drop-end (x ∷ xs) = drop-end xs

pub append-nothing : {A : Type 0} (xs : List A) → xs ++ [] ≡ xs
append-nothing [] = refl
append-nothing (x ∷ xs) = ap (λ w. x ∷ w) (append-nothing xs)

other-name : {A : Type 0} (name : List ℕ) (ps : List (List ℕ × A)) (k : ℕ) (p : List ℕ × A) → named name ps ≡ None → slice_get ps k ≡ Some p → bytes_eq p.0 name ≡ false
other-name name ps k p e f = by (bytes_eq p.0 name) refl
  where
    here : {A : Type 0} (ps : List (List ℕ × A)) (k : ℕ) (p : List ℕ × A) → named p.0 ps ≡ None → slice_get ps k ≡ Some p → ⊥
    here [] k p e f = absurd cc
    here (q ∷ qs) zero p e f = let z : q ≡ p = cc in let w : bytes_eq p.0 q.0 ≡ true = rw z (bytes-itself p.0) in let v : Some q.1 ≡ None = rw w at e in absurd cc
    here {A} (q ∷ qs) (suc k) p e f = tail (bytes_eq p.0 q.0) e (λ n. here qs k p n f)
      where
        tail : (b : Bool) → cond b (Some q.1) (named p.0 qs) ≡ None → (named p.0 qs ≡ None → ⊥) → ⊥
        tail true n g = absurd cc
        tail false n g = g n

    by : (b : Bool) → bytes_eq p.0 name ≡ b → bytes_eq p.0 name ≡ false
    by true g = absurd (here ps k p (rw (bytes-same p.0 name g) e) f)
    by false g = g

pub named-at : {A : Type 0} (ps : List (List ℕ × A)) (k : ℕ) (name : List ℕ) (x : A) → IsEachOnce ps → slice_get ps k ≡ Some (name, x) → named name ps ≡ Some x
named-at [] k name x h e = absurd cc
named-at (p ∷ ps) zero name x h e = let z : p ≡ (name, x) = cc in rw (z, bytes-itself name) refl
named-at (p ∷ ps) (suc k) name x h e = rw (other-name p.0 ps k (name, x) h.0 e) (named-at ps k name x h.1 e)

-- ---- meanings rest on types alone

pub means-by_types : {d e : Declared} {ty : TypeTree} {a : SimpleType} → d.types ≡ e.types → MeansType d ty a → MeansType e ty a
means-by_types q (individuals h) = individuals h
means-by_types q (truth_values h) = truth_values h
means-by_types {d} {e} q (declared_type {name = name} h f) = declared_type h (ap (named name) (sym q) ∙ f)
means-by_types q (functions h f g) = functions h (means-by_types q f) (means-by_types q g)

-- ---- what one declaration adds

pub adds-type : {d e : Declared} {atom : List ℕ} {ty : TypeTree} {b n : ℕ} → IsUndeclared d atom → DeclaresType ty → Declares d atom ty b n e
    → (e.types ≡ d.types ++ (atom, base b) ∷ []) × (e.constants ≡ d.constants)
adds-type u h (new_type v w) = (refl, refl)
adds-type u h (new_constant v w) = absurd (type-no-meaning h w)
  where
    type-no-meaning : {d : Declared} {ty : TypeTree} {a : SimpleType} → DeclaresType ty → MeansType d ty a → ⊥
    type-no-meaning h (individuals p) = absurd cc
    type-no-meaning h (truth_values p) = absurd cc
    type-no-meaning h (declared_type p f) = absurd cc
    type-no-meaning h (functions p f g) = absurd cc
adds-type u h (same_type f w) = let z : Some _ ≡ None = sym f ∙ u.no_type in absurd cc
adds-type u h (same_constant f g w) = let z : Some _ ≡ None = sym g ∙ u.no_constant in absurd cc

pub adds-constant : {d e : Declared} {atom : List ℕ} {ty : TypeTree} {b n : ℕ} → IsUndeclared d atom → ¬ DeclaresType ty → Declares d atom ty b n e
    → (a : SimpleType) × MeansType d ty a × (e.types ≡ d.types) × (e.constants ≡ d.constants ++ (atom, record { number = n; type = a }) ∷ [])
adds-constant u h (new_type v w) = absurd (h w)
adds-constant u h (new_constant {a = a} v w) = (a, w, refl, refl)
adds-constant u h (same_type f w) = absurd (h w)
adds-constant u h (same_constant f g w) = let z : Some _ ≡ None = sym g ∙ u.no_constant in absurd cc

-- ---- the types

module _ {c : Contents} {n : Table} {firsts : List (List ℕ × TypeTree)} {place : ℕ} (h : AreTypesUpTo c n firsts place) (atom : List ℕ) (ty : TypeTree) (at : slice_get firsts place ≡ Some (atom, ty)) where
  type-here : drop place firsts ≡ (atom, ty) ∷ drop (place + 1) firsts
  type-here = drop-here firsts place (atom, ty) at

  pub type-undeclared : IsUndeclared (declared_in c n) atom
  type-undeclared =
      let k : AreNew (declared_in c n).types ((atom, ty) ∷ drop (place + 1) firsts) = rw type-here at h.new_atoms in
      record { no_type = k.0; no_constant = ap (named atom) h.no_constants }

  pub types-pass : declares_type ty ≡ false → AreTypesUpTo c n firsts (place + 1)
  types-pass isnt =
      let k : AreNew (declared_in c n).types ((atom, ty) ∷ drop (place + 1) firsts) = rw type-here at h.new_atoms in
      let b = h.bases in
      let t : base_types c.bases (drop place firsts) ≡ base_types c.bases (drop (place + 1) firsts) = ap (base_types c.bases) type-here ∙ rw isnt refl in
      record {
        names = h.names;
        types = ap (λ w. (declared_in c n).types ++ w) (sym t) ∙ h.types;
        new_atoms = k.1;
        no_constants = h.no_constants;
        no_symbols = h.no_symbols;
        named_symbols = h.named_symbols;
        bases = omega arith;
      }

  pub types-more : {d : Contents} {m : Table} {x : ℕ} → declares_type ty ≡ true → IsEachOnce (drop place firsts) → AreNamesOf d m → AreConstantsNamed d m → d.bases ≡ c.bases + 1 → d.symbols ≡ c.symbols
      → DeclaresType ty → Declares (declared_in c n) atom ty c.bases x (declared_in d m) → AreTypesUpTo d m firsts (place + 1)
  types-more {d} {m} is once names named_symbols counted symbols w declares =
      let a = adds-type type-undeclared w declares in
      let k : AreNew (declared_in c n).types ((atom, ty) ∷ drop (place + 1) firsts) = rw type-here at h.new_atoms in
      let o : IsEachOnce ((atom, ty) ∷ drop (place + 1) firsts) = rw type-here at once in
      let b = h.bases in
      let t : base_types c.bases (drop place firsts) ≡ (atom, base c.bases) ∷ base_types (c.bases + 1) (drop (place + 1) firsts) = ap (base_types c.bases) type-here ∙ rw is refl in
      record {
        names = names;
        types = rw (a.0, counted, append_assoc) (ap (λ w. (declared_in c n).types ++ w) (sym t) ∙ h.types);
        new_atoms = rw (a.0) (new-more (declared_in c n).types atom (base c.bases) (drop (place + 1) firsts) o.0 k.1);
        no_constants = a.1 ∙ h.no_constants;
        no_symbols = symbols ∙ h.no_symbols;
        named_symbols = named_symbols;
        bases = omega arith;
      }

no-item : {A : Type 0} (s : ℕ) (x : A) → slice_get [] s ≡ Some x → ⊥
no-item s x e = absurd cc

pub types-start : {c : Contents} {n : Table} (firsts : List (List ℕ × TypeTree)) → c ≡ start → n.types ≡ [] → n.constants ≡ [] → AreTypesUpTo c n firsts 0
types-start {c} {n} firsts e f g = record {
  names = record { types = rw f tt; constants = rw g tt };
  types = rw (f, e) refl;
  new_atoms = new-nothing (declared_in c n).types firsts (rw f refl);
  no_constants = rw g refl;
  no_symbols = rw e refl;
  named_symbols = record { named_constant = λ s x name h k. let z : slice_get [] s ≡ Some x = rw e at h in absurd (no-item s x z) };
  bases = rw e (lit≤ tt);
}

pub constants-start : {c : Contents} {n : Table} {firsts : List (List ℕ × TypeTree)} → AreTypesUpTo c n firsts (length firsts) → AreConstantsUpTo c n firsts 0
constants-start {c} {n} {firsts} h =
    let t : base_types c.bases (drop (length firsts) firsts) ≡ [] = ap (base_types c.bases) (drop-end firsts) in
    record {
      names = h.names;
      types = sym (append-nothing (declared_in c n).types) ∙ (ap (λ w. (declared_in c n).types ++ w) (sym t) ∙ h.types);
      constants = λ d cs q a. rw (h.no_constants) (rw (h.no_symbols) at a);
      new_atoms = new-nothing (declared_in c n).constants firsts h.no_constants;
      named_symbols = h.named_symbols;
    }

-- ---- the constants

module _ {c : Contents} {n : Table} {firsts : List (List ℕ × TypeTree)} {place : ℕ} (h : AreConstantsUpTo c n firsts place) (atom : List ℕ) (ty : TypeTree) (at : slice_get firsts place ≡ Some (atom, ty)) where
  constant-here : drop place firsts ≡ (atom, ty) ∷ drop (place + 1) firsts
  constant-here = drop-here firsts place (atom, ty) at

  pub constant-undeclared : IsEachOnce firsts → declares_type ty ≡ false → IsUndeclared (declared_in c n) atom
  constant-undeclared once isnt =
      let k : AreNew (declared_in c n).constants ((atom, ty) ∷ drop (place + 1) firsts) = rw constant-here at h.new_atoms in
      record { no_type = ap (named atom) h.types ∙ types-constant 2 atom ty firsts once (named-at firsts place atom ty once at) isnt; no_constant = k.0 }

  pub constants-pass : declares_type ty ≡ true → AreConstantsUpTo c n firsts (place + 1)
  constants-pass is =
      let k : AreNew (declared_in c n).constants ((atom, ty) ∷ drop (place + 1) firsts) = rw constant-here at h.new_atoms in
      record {
        names = h.names;
        types = h.types;
        constants = λ d cs q a. h.constants d cs q (rw constant-here (typings.type is a));
        new_atoms = k.1;
        named_symbols = h.named_symbols;
      }

  pub constants-more : {d : Contents} {m : Table} {b : ℕ} → declares_type ty ≡ false → IsEachOnce firsts → IsEachOnce (drop place firsts) → AreNamesOf d m → AreConstantsNamed d m → length d.symbols ≡ length c.symbols + 1
      → ¬ DeclaresType ty → Declares (declared_in c n) atom ty b (length c.symbols) (declared_in d m) → AreConstantsUpTo d m firsts (place + 1)
  constants-more {d} {m} {b} isnt once later names named_symbols counted w declares =
      let a = adds-constant (constant-undeclared once isnt) w declares in
      let k : AreNew (declared_in c n).constants ((atom, ty) ∷ drop (place + 1) firsts) = rw constant-here at h.new_atoms in
      let o : IsEachOnce ((atom, ty) ∷ drop (place + 1) firsts) = rw constant-here at later in
      let x : Constant = record { number = length c.symbols; type = a.0 } in
      record {
        names = names;
        types = a.2 ∙ h.types;
        constants = λ e cs q p. rw (a.3, append_assoc) (h.constants e ((atom, x) ∷ cs) q (rw constant-here (typings.constant isnt (means-by_types (h.types ∙ sym q) a.1) (rw counted at p))));
        new_atoms = rw (a.3) (new-more (declared_in c n).constants atom x (drop (place + 1) firsts) o.0 k.1);
        named_symbols = named_symbols;
      }

pub once-drop : {A : Type 0} (k : ℕ) (ps : List (List ℕ × A)) → IsEachOnce ps → IsEachOnce (drop k ps)
once-drop zero ps h = h
once-drop (suc k) [] h = tt
once-drop (suc k) (p ∷ ps) h = once-drop k ps h.1

pub all-declared : {c : Contents} {n : Table} {firsts : List (List ℕ × TypeTree)} (ts : List Typing) → firsts ≡ first_typings ts → AreRight ts → AreConstantsUpTo c n firsts (length firsts) → AreDeclared ts (declared_in c n)
all-declared {c} {n} {firsts} ts e right h =
    let a : AreConstants (declared_in c n) 0 firsts ((declared_in c n).constants ++ []) = h.constants (declared_in c n) [] h.types (rw (drop-end firsts) typings.no_more) in
    record {
      right = right;
      types = rw e at h.types;
      constants = rw (e, append-nothing (declared_in c n).constants) at a;
    }

-- ---- a typing among the first ones

pub copied-some : {A : Type 0} (o : Option (Bor A)) → is_some (option_copied o) ≡ is_some o
copied-some None = refl
copied-some (Some x) = refl

pub note-new : (known more : List (List ℕ × TypeTree)) (atom : List ℕ) (ty : TypeTree) (later : List (List ℕ × TypeTree)) → is_some (named atom known) ≡ false → more ≡ known ++ (atom, ty) ∷ []
    → more ++ beyond more later ≡ known ++ beyond known ((atom, ty) ∷ without atom later)
note-new known more atom ty later f q = rw (q, f, beyond-more known atom ty later, append_assoc) refl

pub note-old : (known : List (List ℕ × TypeTree)) (atom : List ℕ) (ty : TypeTree) (later : List (List ℕ × TypeTree)) → is_some (named atom known) ≡ true
    → known ++ beyond known later ≡ known ++ beyond known ((atom, ty) ∷ without atom later)
note-old known atom ty later f = rw f (ap (λ w. known ++ w) (sym (beyond-known known atom later f)))

named-beside : {A : Type 0} (b a : List ℕ) (xs : List (List ℕ × A)) → bytes_eq b a ≡ false → named b (without a xs) ≡ named b xs
named-beside b a [] e = refl
named-beside {A} b a (p ∷ ps) e = by (bytes_eq b p.0) (bytes_eq p.0 a) refl refl (named-beside b a ps e)
  where
    by : (s t : Bool) → bytes_eq b p.0 ≡ s → bytes_eq p.0 a ≡ t → named b (without a ps) ≡ named b ps → named b (cond t (without a ps) (p ∷ without a ps)) ≡ cond s (Some p.1) (named b ps)
    by true true f g k = let z : true ≡ false = sym (rw (bytes-same b p.0 f) g) ∙ e in absurd cc
    by true false f g k = rw f refl
    by false true f g k = k
    by false false f g k = rw f k

pub named-there : (t : Typing) (ts : List Typing) (n : ℕ) → slice_get ts n ≡ Some t → named t.atom (first_typings ts) ≡ None → ⊥
named-there t [] n e f = absurd cc
named-there t (s ∷ ts) zero e f =
    let z : s ≡ t = cc in
    let w : bytes_eq t.atom s.atom ≡ true = rw z (bytes-itself t.atom) in
    let v : Some s.ty ≡ None = rw w at f in absurd cc
named-there t (s ∷ ts) (suc n) e f = by (bytes_eq t.atom s.atom) refl f (λ k. named-there t ts n e k)
  where
    by : (b : Bool) → bytes_eq t.atom s.atom ≡ b → cond b (Some s.ty) (named t.atom (without s.atom (first_typings ts))) ≡ None → (named t.atom (first_typings ts) ≡ None → ⊥) → ⊥
    by true g h k = absurd cc
    by false g h k = k (sym (named-beside t.atom s.atom (first_typings ts) g) ∙ h)

-- ---- what is found of one typing

module _ (firsts : List (List ℕ × TypeTree)) (t : Typing) (first : TypeTree) (e : named t.atom firsts ≡ Some first) where
  pub offends-twice : (byte : ℕ) (ty : TypeTree) → byte ≡ t.byte → ty ≡ t.ty → ¬ AreAlike first ty → OffendsAmong firsts t (Twice byte)
  offends-twice byte ty p q n = rw p (typings.twice e (λ a. n (rw q a)))

  pub offends-type : {r : ElabRefusal} (ty : TypeTree) → ty ≡ t.ty → AreAlike first ty → declares_type ty ≡ false → ((d : Declared) → SaysWhatAtomsAre firsts d → OffendsInType d ty r) → OffendsAmong firsts t r
  offends-type ty q a f o = let w = says-some firsts in typings.in_type e (rw q at a) (rw q at f) w.1 (rw q at (o w.0 w.1))

  pub right-type : (ty : TypeTree) → ty ≡ t.ty → AreAlike first ty → declares_type ty ≡ true → IsRight firsts t
  right-type ty q a f = typings.a_type e (rw q at a) (rw q at f)

  pub right-constant : (ty : TypeTree) → ty ≡ t.ty → AreAlike first ty → declares_type ty ≡ false → ((d : Declared) → SaysWhatAtomsAre firsts d → IsType d ty) → IsRight firsts t
  right-constant ty q a f m = let w = says-some firsts in let n = m w.0 w.1 in typings.a_constant e (rw q at a) (rw q at f) w.1 (rw q at n.means)

-- ---- the first offence

module _ (ts : List Typing) (firsts : List (List ℕ × TypeTree)) (e : firsts ≡ first_typings ts) (place : ℕ) (t : Typing) (at : slice_get ts place ≡ Some t)
    (before : (n : ℕ) (s : Typing) → n < place → slice_get ts n ≡ Some s → IsRight firsts s) where
  pub first-offence : (r : ElabRefusal) → (r ≢ Memory → OffendsAmong firsts t r) → (x : TypingsRefusal) → IsAt place r x → IsRefusalOf ts x
  first-offence r o (refusal.Offends p f) h =
      let w : OffendsAmong firsts t r = o h.2 in
      rw (h.0, h.1) (record { typing = t; stands = at; offends = rw e at w; before = λ n s l q. rw e at (before n s l q) })
  first-offence r o refusal.Memory h = tt

  pub right-more : IsRight firsts t → (n : ℕ) (s : Typing) → n < place + 1 → slice_get ts n ≡ Some s → IsRight firsts s
  right-more h = λ n s l q.
      below_more (λ n. (s : Typing) → slice_get ts n ≡ Some s → IsRight firsts s) place (λ n l s q. before n s l q)
      (λ s q. let z : Some t ≡ Some s = sym at ∙ q in let y : t ≡ s = cc in rw (← y) h) n l s q
