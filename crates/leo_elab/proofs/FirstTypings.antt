-- What the first typings of atoms say of an atom.
use Rattle.std.proofs.Common.{Bool, true, false, cond, ◌||◌, ℕ, ◌+◌, ◌≡◌, List, [], ◌∷◌, map, Option, Some, None, refl, ap, sym, ◌∙◌}
use Rattle.std.specs.Option.{is_some}
use Rattle.std.specs.Str.{bytes_eq}
use Rattle.std.specs.List.{list_any}
use Rattle.leo_q0.specs.Terms.{SimpleType, base}
use Rattle.leo_syntax.specs.declared.tree.TypeTree.{TypeTree}
use Rattle.leo_elab.specs.Problem.{Declared, Constant, named}
use Rattle.leo_elab.specs.Pairs.{IsEachOnce}
use Rattle.leo_elab.specs.Typings.{Typing, first_typings, declares_type, base_types, constant_atoms, SaysWhatAtomsAre}
use Rattle.leo_elab.proofs.Pairs.{without-itself, once-without, bytes-same}

pub once-first_typings : (ts : List Typing) → IsEachOnce (first_typings ts)
once-first_typings [] = tt
once-first_typings (t ∷ ts) = (without-itself t.atom (first_typings ts), once-without t.atom (first_typings ts) (once-first_typings ts))

-- ---- types

types-none : (n : ℕ) (atom : List ℕ) (ps : List (List ℕ × TypeTree)) → named atom ps ≡ None → named atom (base_types n ps) ≡ None
types-none n atom [] e = refl
types-none n atom (p ∷ ps) e = by (bytes_eq atom p.0) (declares_type p.1) refl e (types-none n atom ps) (types-none (n + 1) atom ps)
  where
    by : (s t : Bool) → bytes_eq atom p.0 ≡ s → cond s (Some p.1) (named atom ps) ≡ None → (named atom ps ≡ None → named atom (base_types n ps) ≡ None) → (named atom ps ≡ None → named atom (base_types (n + 1) ps) ≡ None)
        → named atom (cond t ((p.0, base n) ∷ base_types (n + 1) ps) (base_types n ps)) ≡ None
    by true t f g k l = absurd cc
    by false true f g k l = rw f (l g)
    by false false f g k l = k g

types-some : (n : ℕ) (atom : List ℕ) (ty : TypeTree) (ps : List (List ℕ × TypeTree)) → named atom ps ≡ Some ty → declares_type ty ≡ true → (a : SimpleType) × (named atom (base_types n ps) ≡ Some a)
types-some n atom ty [] e h = absurd cc
types-some n atom ty (p ∷ ps) e h = by (bytes_eq atom p.0) (declares_type p.1) refl refl e (λ k. types-some n atom ty ps k h) (λ k. types-some (n + 1) atom ty ps k h)
  where
    by : (s t : Bool) → bytes_eq atom p.0 ≡ s → declares_type p.1 ≡ t → cond s (Some p.1) (named atom ps) ≡ Some ty
        → (named atom ps ≡ Some ty → (a : SimpleType) × (named atom (base_types n ps) ≡ Some a)) → (named atom ps ≡ Some ty → (a : SimpleType) × (named atom (base_types (n + 1) ps) ≡ Some a))
        → (a : SimpleType) × (named atom (cond t ((p.0, base n) ∷ base_types (n + 1) ps) (base_types n ps)) ≡ Some a)
    by true true f i g k l = (base n, rw f refl)
    by true false f i g k l = let z : p.1 ≡ ty = cc in let w : true ≡ false = sym h ∙ (ap declares_type (sym z) ∙ i) in absurd cc
    by false true f i g k l = let r = l g in (r.0, rw f r.1)
    by false false f i g k l = k g

pub types-constant : (n : ℕ) (atom : List ℕ) (ty : TypeTree) (ps : List (List ℕ × TypeTree)) → IsEachOnce ps → named atom ps ≡ Some ty → declares_type ty ≡ false → named atom (base_types n ps) ≡ None
types-constant n atom ty [] o e h = refl
types-constant n atom ty (p ∷ ps) o e h = by (bytes_eq atom p.0) (declares_type p.1) refl refl e (λ k. types-constant n atom ty ps o.1 k h) (λ k. types-constant (n + 1) atom ty ps o.1 k h)
  where
    by : (s t : Bool) → bytes_eq atom p.0 ≡ s → declares_type p.1 ≡ t → cond s (Some p.1) (named atom ps) ≡ Some ty
        → (named atom ps ≡ Some ty → named atom (base_types n ps) ≡ None) → (named atom ps ≡ Some ty → named atom (base_types (n + 1) ps) ≡ None)
        → named atom (cond t ((p.0, base n) ∷ base_types (n + 1) ps) (base_types n ps)) ≡ None
    by true true f i g k l = let z : p.1 ≡ ty = cc in let w : true ≡ false = sym i ∙ (ap declares_type z ∙ h) in absurd cc
    by true false f i g k l = types-none n atom ps (rw (bytes-same atom p.0 f) o.0)
    by false true f i g k l = rw f (l g)
    by false false f i g k l = k g

-- ---- constants

pub any-named : (atom : List ℕ) (cs : List (List ℕ × Constant)) → is_some (named atom cs) ≡ list_any (bytes_eq atom) (map (λ c. c.0) cs)
any-named atom [] = refl
any-named atom (c ∷ cs) = by (bytes_eq atom c.0) (any-named atom cs)
  where
    by : (s : Bool) → is_some (named atom cs) ≡ list_any (bytes_eq atom) (map (λ c. c.0) cs) → is_some (cond s (Some c.1) (named atom cs)) ≡ (s || list_any (bytes_eq atom) (map (λ c. c.0) cs))
    by true k = refl
    by false k = k

constants-none : (atom : List ℕ) (ps : List (List ℕ × TypeTree)) → named atom ps ≡ None → list_any (bytes_eq atom) (constant_atoms ps) ≡ false
constants-none atom [] e = refl
constants-none atom (p ∷ ps) e = by (bytes_eq atom p.0) (declares_type p.1) refl e (constants-none atom ps)
  where
    by : (s t : Bool) → bytes_eq atom p.0 ≡ s → cond s (Some p.1) (named atom ps) ≡ None → (named atom ps ≡ None → list_any (bytes_eq atom) (constant_atoms ps) ≡ false)
        → list_any (bytes_eq atom) (cond t (constant_atoms ps) (p.0 ∷ constant_atoms ps)) ≡ false
    by true t f g k = absurd cc
    by false true f g k = k g
    by false false f g k = rw f (k g)

constants-some : (atom : List ℕ) (ty : TypeTree) (ps : List (List ℕ × TypeTree)) → named atom ps ≡ Some ty → declares_type ty ≡ false → list_any (bytes_eq atom) (constant_atoms ps) ≡ true
constants-some atom ty [] e h = absurd cc
constants-some atom ty (p ∷ ps) e h = by (bytes_eq atom p.0) (declares_type p.1) refl refl e (λ k. constants-some atom ty ps k h)
  where
    by : (s t : Bool) → bytes_eq atom p.0 ≡ s → declares_type p.1 ≡ t → cond s (Some p.1) (named atom ps) ≡ Some ty → (named atom ps ≡ Some ty → list_any (bytes_eq atom) (constant_atoms ps) ≡ true)
        → list_any (bytes_eq atom) (cond t (constant_atoms ps) (p.0 ∷ constant_atoms ps)) ≡ true
    by true true f i g k = let z : p.1 ≡ ty = cc in let w : true ≡ false = sym i ∙ (ap declares_type z ∙ h) in absurd cc
    by true false f i g k = rw f refl
    by false true f i g k = k g
    by false false f i g k = rw f (k g)

not-some : {A : Type 0} (o : Option A) → is_some o ≡ false → o ≡ None
not-some None e = refl
not-some (Some x) e = absurd cc

is-some : {A : Type 0} (o : Option A) → is_some o ≡ true → (x : A) × (o ≡ Some x)
is-some None e = absurd cc
is-some (Some x) e = (x, refl)

module _ {firsts : List (List ℕ × TypeTree)} {d : Declared} (says : SaysWhatAtomsAre firsts d) (atom : List ℕ) where
  pub no-type : named atom firsts ≡ None → named atom d.types ≡ None
  no-type e = ap (named atom) says.types ∙ types-none 2 atom firsts e

  pub a-type : (ty : TypeTree) → named atom firsts ≡ Some ty → declares_type ty ≡ true → (a : SimpleType) × (named atom d.types ≡ Some a)
  a-type ty e h = let r = types-some 2 atom ty firsts e h in (r.0, ap (named atom) says.types ∙ r.1)

  pub no-type-constant : (ty : TypeTree) → IsEachOnce firsts → named atom firsts ≡ Some ty → declares_type ty ≡ false → named atom d.types ≡ None
  no-type-constant ty o e h = ap (named atom) says.types ∙ types-constant 2 atom ty firsts o e h

  pub no-constant : named atom firsts ≡ None → named atom d.constants ≡ None
  no-constant e = not-some (named atom d.constants) (any-named atom d.constants ∙ (ap (list_any (bytes_eq atom)) says.constants ∙ constants-none atom firsts e))

  pub a-constant : (ty : TypeTree) → named atom firsts ≡ Some ty → declares_type ty ≡ false → (k : Constant) × (named atom d.constants ≡ Some k)
  a-constant ty e h = is-some (named atom d.constants) (any-named atom d.constants ∙ (ap (list_any (bytes_eq atom)) says.constants ∙ constants-some atom ty firsts e h))

-- some declarations say what the atoms are
atoms_of : List (List ℕ) → List (List ℕ × Constant)
atoms_of names = map (λ name. (name, record { number = 0; type = base 0 })) names

atoms-are : (names : List (List ℕ)) → map (λ c. c.0) (atoms_of names) ≡ names
unfolding atoms_of
atoms-are [] = refl
atoms-are (name ∷ names) = ap (λ w. name ∷ w) (atoms-are names)

pub says-some : (firsts : List (List ℕ × TypeTree)) → (d : Declared) × SaysWhatAtomsAre firsts d
says-some firsts = (record { types = base_types 2 firsts; constants = atoms_of (constant_atoms firsts) }, record { types = refl; constants = atoms-are (constant_atoms firsts) })
