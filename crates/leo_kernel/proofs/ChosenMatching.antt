-- Finding the first of the variables with which a closed term has a given normal form, by what it has with fresh ones.
use Rattle.std.proofs.Common.{ℕ, suc, ◌≡◌, ◌+◌, ◌-◌, ◌<◌, ◌≤◌, List, [], ◌∷◌, ◌++◌, length, map, slice_get, Option, Some, refl, sym, ◌∙◌, ap, inl, inr, arith}
use Rattle.std.proofs.lemmas.Bool.Decides.{nat_tests}
use Rattle.leo_q0.specs.Terms.{SimpleType, base, arrow}
use Rattle.leo_terms.specs.Tree.{codomain, Tree, variable, bound, symbol, app, lam, logic, absent, type_of}
use Rattle.leo_terms.specs.Typing.{IsWellTyped, IsPresent}
use Rattle.leo_terms.specs.Facts.{variable_range}
use Rattle.leo_terms.specs.NormalForm.{type_size, normal_form}
use Rattle.leo_kernel.specs.Choosing.{applied_to, IsVariableOf, AreVariablesOf}
use Rattle.leo_kernel.specs.ChosenTerms.{renamed, descending, renaming, HasForm, MayHaveForm}
use Rattle.leo_kernel.specs.ChosenMatching.{LeadsToType}
use Rattle.leo_kernel.proofs.ChosenRenaming.{renamed-normal, renamed-same, renamed-fixed}

-- terms with arguments

pub typed-head : (xs : List Tree) (t : Tree) → IsWellTyped (applied_to t xs) → IsWellTyped t
typed-head [] t w = w
typed-head (x ∷ xs) t w = (typed-head xs (app t x) w).0

pub applied-type : (xs : List Tree) (t x : Tree) → IsWellTyped (applied_to t (x ∷ xs)) → type_of t ≡ arrow (type_of x) (codomain (type_of t))
applied-type xs t x w = (typed-head xs (app t x) w).4

size-falls : (a b c : SimpleType) → a ≡ arrow b c → type_size c < type_size a
size-falls a b c e = rw e (omega arith)

size-applied : (xs : List Tree) (t : Tree) → IsWellTyped (applied_to t xs) → type_size (type_of (applied_to t xs)) + length xs ≤ type_size (type_of t)
size-applied [] t w = omega arith
size-applied (x ∷ xs) t w =
    let h = size-applied xs (app t x) w in
    let k = size-falls (type_of t) (type_of x) (codomain (type_of t)) (applied-type xs t x w) in
    omega arith

-- a term of this type has no arguments
pub no-arguments : (xs : List Tree) (t : Tree) → IsWellTyped (applied_to t xs) → type_of (applied_to t xs) ≡ type_of t → xs ≡ []
no-arguments [] t w e = refl
no-arguments (x ∷ xs) t w e = absurd (let h = size-applied (x ∷ xs) t w in let k = ap type_size e in omega arith)

arrows : (a b c d : SimpleType) → arrow a b ≡ arrow c d → (a ≡ c) × (b ≡ d)
arrows a b c d e = (cc, cc)

-- how many arguments a term takes, and of which types, is determined by its type and that of the whole
argument-types : (xs ys : List Tree) (t u : Tree) → type_of t ≡ type_of u → IsWellTyped (applied_to t xs) → IsWellTyped (applied_to u ys) → type_of (applied_to t xs) ≡ type_of (applied_to u ys) → map type_of xs ≡ map type_of ys
argument-types [] [] t u e v w f = refl
argument-types [] (y ∷ ys) t u e v w f = absurd (let h = size-applied (y ∷ ys) u w in let k = ap type_size e in let m = ap type_size f in omega arith)
argument-types (x ∷ xs) [] t u e v w f = absurd (let h = size-applied (x ∷ xs) t v in let k = ap type_size e in let m = ap type_size f in omega arith)
argument-types (x ∷ xs) (y ∷ ys) t u e v w f =
    let p = arrows (type_of x) (codomain (type_of t)) (type_of y) (codomain (type_of u)) (sym (applied-type xs t x v) ∙ e ∙ applied-type ys u y w) in
    consed p.0 (argument-types xs ys (app t x) (app u y) p.1 v w f)
  where
    consed : {a b : SimpleType} {us vs : List SimpleType} → a ≡ b → us ≡ vs → a ∷ us ≡ b ∷ vs
    consed {a} {b} {us} {vs} p q = rw (p, q) refl

-- another term of the same type takes the same arguments
other-head : (xs : List Tree) (t u : Tree) → type_of t ≡ type_of u → IsWellTyped u → IsPresent u → IsWellTyped (applied_to t xs) → IsWellTyped (applied_to u xs) × (type_of (applied_to u xs) ≡ type_of (applied_to t xs))
other-head [] t u e w p v = (w, sym e)
other-head (x ∷ xs) t u e w p v =
    let h = typed-head xs (app t x) v in
    let k : type_of u ≡ arrow (type_of x) (codomain (type_of u)) = rw (← e) h.4 in
    other-head xs (app t x) (app u x) (ap codomain e) (w, h.1, p, h.3, k) tt v

renamed-arguments : (r : ℕ → ℕ) (xs : List Tree) (t : Tree) → renamed r (applied_to t xs) ≡ applied_to (renamed r t) (map (renamed r) xs)
renamed-arguments r [] t = refl
renamed-arguments r (x ∷ xs) t = renamed-arguments r xs (app t x)

-- fresh variables

pub descending-types : (types : List SimpleType) (top : ℕ) → map type_of (descending top types) ≡ types
descending-types [] top = refl
descending-types (a ∷ types) top = ap (λ (ts : List SimpleType). a ∷ ts) (descending-types types (top - 1))

pub descending-more : (types : List SimpleType) (top : ℕ) (a : SimpleType) (t : Tree) → applied_to t (descending top (types ++ a ∷ [])) ≡ app (applied_to t (descending top types)) (variable (top - length types) a)
descending-more [] top a t = ap (λ n. app t (variable n a)) (omega arith)
descending-more (b ∷ types) top a t = descending-more types (top - 1) a (app t (variable top b)) ∙ ap (λ n. app (applied_to (app t (variable top b)) (descending (top - 1) types)) (variable n a)) (omega arith)

descending-same : (types : List SimpleType) (m : ℕ) (r s : ℕ → ℕ) → ((n : ℕ) → n ≤ m → r n ≡ s n) → map (renamed r) (descending m types) ≡ map (renamed s) (descending m types)
descending-same [] m r s h = refl
descending-same (a ∷ types) m r s h = consed (ap (λ n. variable n a) (h m (omega arith))) (descending-same types (m - 1) r s (λ n l. h n (omega arith)))
  where
    consed : {a b : Tree} {us vs : List Tree} → a ≡ b → us ≡ vs → a ∷ us ≡ b ∷ vs
    consed {a} {b} {us} {vs} p q = rw (p, q) refl

-- the number of a variable
abbrev pub number_of : Tree → ℕ
number_of (variable n a) = n
number_of (bound i a) = 0
number_of (symbol n a) = 0
number_of (app f x) = 0
number_of (lam a t) = 0
number_of (logic c x y) = 0
number_of absent = 0

pub renaming-top : (top m : ℕ) (ms : List ℕ) → renaming top (m ∷ ms) top ≡ m
renaming-top top m ms = grind (arith, nat_tests)

renaming-below : (top m : ℕ) (ms : List ℕ) (n : ℕ) → (n ≡ top → ⊥) → renaming top (m ∷ ms) n ≡ renaming (top - 1) ms n
renaming-below top m ms n h = grind (arith, nat_tests)

renaming-fixes : (ms : List ℕ) (top low : ℕ) → low + length ms ≤ suc top → (n : ℕ) → n < low → renaming top ms n ≡ n
renaming-fixes [] top low h n l = refl
renaming-fixes (m ∷ ms) top low h n l = renaming-below top m ms n (λ e. omega arith) ∙ renaming-fixes ms (top - 1) low (omega arith) n l

-- those that follow the first
tail-same : (types : List SimpleType) (top m : ℕ) (ms : List ℕ) → length types ≤ top → map (renamed (renaming top (m ∷ ms))) (descending (top - 1) types) ≡ map (renamed (renaming (top - 1) ms)) (descending (top - 1) types)
tail-same [] top m ms l = refl
tail-same (a ∷ types) top m ms l = descending-same (a ∷ types) (top - 1) (renaming top (m ∷ ms)) (renaming (top - 1) ms) (λ n h. renaming-below top m ms n (λ e. omega arith))

the-variable : (variables : List SimpleType) (x : Tree) → IsVariableOf variables x → x ≡ variable (number_of x) (type_of x)
the-variable variables (variable n a) h = refl
the-variable variables (bound i a) h = absurd h
the-variable variables (symbol n a) h = absurd h
the-variable variables (app f x) h = absurd h
the-variable variables (lam a t) h = absurd h
the-variable variables (logic c x y) h = absurd h
the-variable variables absent h = absurd h

renamed-descending : (variables : List SimpleType) (xs : List Tree) (types : List SimpleType) (top : ℕ) → AreVariablesOf variables xs → map type_of xs ≡ types → length types ≤ suc top → map (renamed (renaming top (map number_of xs))) (descending top types) ≡ xs
renamed-descending variables [] [] top h e l = refl
renamed-descending variables [] (a ∷ types) top h e l = (let f : ⊥ = cc in absurd f)
renamed-descending variables (x ∷ xs) [] top h e l = (let f : ⊥ = cc in absurd f)
renamed-descending variables (x ∷ xs) (a ∷ types) top h e l =
    let p = heads (type_of x) a (map type_of xs) types e in
    let r : ℕ → ℕ = renaming top (number_of x ∷ map number_of xs) in
    let first : variable (r top) a ≡ x = ap (λ n. variable n a) (renaming-top top (number_of x) (map number_of xs)) ∙ ap (variable (number_of x)) (sym p.0) ∙ sym (the-variable variables x h.0) in
    consed first (tail-same types top (number_of x) (map number_of xs) (omega arith) ∙ renamed-descending variables xs types (top - 1) h.1 p.1 (omega arith))
  where
    heads : (a b : SimpleType) (us vs : List SimpleType) → a ∷ us ≡ b ∷ vs → (a ≡ b) × (us ≡ vs)
    heads a b us vs e = (cc, cc)

    consed : {a b : Tree} {us vs : List Tree} → a ≡ b → us ≡ vs → a ∷ us ≡ b ∷ vs
    consed {a} {b} {us} {vs} p q = rw (p, q) refl

lengths : (xs : List Tree) (types : List SimpleType) → map type_of xs ≡ types → length (map number_of xs) ≡ length types
lengths [] [] e = refl
lengths [] (a ∷ types) e = (let f : ⊥ = cc in absurd f)
lengths (x ∷ xs) [] e = (let f : ⊥ = cc in absurd f)
lengths (x ∷ xs) (a ∷ types) e = ap suc (lengths xs types (let f : map type_of xs ≡ types = cc in f))

-- a list of variables that begins with one of this type
record First (variables : List SimpleType) (b : SimpleType) (xs : List Tree) : Type 0 where
  number : ℕ
  rest : List Tree
  first : xs ≡ variable number b ∷ rest
  declared : slice_get variables number ≡ Some b
  variables_of : AreVariablesOf variables rest

-- this is the number of a variable with which the term may still have the form
pub record Next (variables : List SimpleType) (a : SimpleType) (form t : Tree) (b : SimpleType) (r : Option ℕ) : Type 0 where
  pub number : ℕ
  pub is : r ≡ Some number
  pub declared : slice_get variables number ≡ Some b
  pub still : MayHaveForm variables a form (app t (variable number b))

-- form is the term with other variables, and that for `top` is one of this type
pub record Standing (variables : List SimpleType) (b : SimpleType) (form term : Tree) (top : ℕ) : Type 0 where
  pub renames : ℕ → ℕ
  pub is : form ≡ renamed renames term
  pub declared : slice_get variables (renames top) ≡ Some b

-- the numbers of fresh variables
pub range-fresh : (types : List SimpleType) (t : Tree) (top m : ℕ) → top ≤ m → variable_range t ≤ suc m → variable_range (applied_to t (descending top types)) ≤ suc m
range-fresh [] t top m l h = h
range-fresh (a ∷ types) t top m l h = range-fresh types (app t (variable top a)) (top - 1) m (omega arith) (omega arith)

-- a term t with fresh variables that give it a type, and its normal form
module _ (variables : List SimpleType) (a : SimpleType) (form t u : Tree) (top : ℕ) (types : List SimpleType) (reads : u ≡ applied_to t (descending top types)) (typed : IsWellTyped u) (type_is : type_of u ≡ a) (room : variable_range t + length types ≤ suc top) where
  -- with other variables it is the same, but for their numbers
  instance-of : (xs : List Tree) → AreVariablesOf variables xs → map type_of xs ≡ types → renamed (renaming top (map number_of xs)) u ≡ applied_to t xs
  instance-of xs h e =
      let r : ℕ → ℕ = renaming top (map number_of xs) in
      let k = lengths xs types e in
      let fixed : renamed r t ≡ t = renamed-fixed r t (renaming-fixes (map number_of xs) top (variable_range t) (omega arith)) in
      let rest : map (renamed r) (descending top types) ≡ xs = renamed-descending variables xs types top h e (omega arith) in
      ap (renamed r) reads ∙ renamed-arguments r (descending top types) t ∙ ap (λ s. applied_to s (map (renamed r) (descending top types))) fixed ∙ ap (applied_to t) rest

  form-of : (xs : List Tree) → AreVariablesOf variables xs → map type_of xs ≡ types → renamed (renaming top (map number_of xs)) (normal_form u) ≡ normal_form (applied_to t xs)
  form-of xs h e = renamed-normal (renaming top (map number_of xs)) u ∙ ap normal_form (instance-of xs h e)

  types-of : (xs : List Tree) → HasForm variables a form t xs → map type_of xs ≡ types
  types-of xs h =
      let w : IsWellTyped (applied_to t (descending top types)) = rw (← reads) typed in
      let e : type_of (applied_to t (descending top types)) ≡ a = rw (← reads) type_is in
      argument-types xs (descending top types) t t refl h.typed w (h.type_is ∙ sym e) ∙ descending-types types top

  module _ (b d : SimpleType) (arrow_is : type_of t ≡ arrow b d) (short : type_of t ≡ a → ⊥) where
    first-of : (xs : List Tree) → HasForm variables a form t xs → First variables b xs
    first-of [] h = absurd (short h.type_is)
    first-of (variable m c ∷ xs) h =
        let e : b ≡ c = (arrows b d c (codomain (type_of t)) (sym arrow_is ∙ applied-type xs t (variable m c) h.typed)).0 in
        record { number = m; rest = xs; first = ap (λ x. variable m x ∷ xs) (sym e); declared = rw e h.variables_of.0; variables_of = h.variables_of.1 }
    first-of (bound i c ∷ xs) h = absurd h.variables_of.0
    first-of (symbol n c ∷ xs) h = absurd h.variables_of.0
    first-of (app f x ∷ xs) h = absurd h.variables_of.0
    first-of (lam c s ∷ xs) h = absurd h.variables_of.0
    first-of (logic c x y ∷ xs) h = absurd h.variables_of.0
    first-of (absent ∷ xs) h = absurd h.variables_of.0

    -- the first variable stands where the first fresh one does
    pub next-found : (r : Option ℕ) → ((rho : ℕ → ℕ) → form ≡ renamed rho (normal_form u) → r ≡ Some (rho top)) → MayHaveForm variables a form t → Next variables a form t b r
    next-found r found h =
        let p = first-of h.arguments h.has_form in
        let k : HasForm variables a form t (variable p.number b ∷ p.rest) = rw p.first at h.has_form in
        let e : form ≡ renamed (renaming top (map number_of (variable p.number b ∷ p.rest))) (normal_form u) = sym k.same_form ∙ sym (form-of (variable p.number b ∷ p.rest) k.variables_of (types-of (variable p.number b ∷ p.rest) k)) in
        record {
          number = p.number;
          is = found (renaming top (map number_of (variable p.number b ∷ p.rest))) e ∙ ap Some (renaming-top top p.number (map number_of p.rest));
          declared = p.declared;
          still = record { arguments = p.rest; has_form = record { variables_of = p.variables_of; typed = k.typed; type_is = k.type_is; same_form = k.same_form } };
        }

    -- the first fresh one stands for a variable of its type
    pub next-renaming : MayHaveForm variables a form t → Standing variables b form (normal_form u) top
    next-renaming h =
        let p = first-of h.arguments h.has_form in
        let k : HasForm variables a form t (variable p.number b ∷ p.rest) = rw p.first at h.has_form in
        let rho : ℕ → ℕ = renaming top (map number_of (variable p.number b ∷ p.rest)) in
        record {
          renames = rho;
          is = sym k.same_form ∙ sym (form-of (variable p.number b ∷ p.rest) k.variables_of (types-of (variable p.number b ∷ p.rest) k));
          declared = rw (renaming-top top p.number (map number_of p.rest)) p.declared;
        }

    -- where the first fresh one does not stand, any variable of its type will do
    pub next-any : variable_range (normal_form u) ≤ top → (m : ℕ) → slice_get variables m ≡ Some b → MayHaveForm variables a form t → MayHaveForm variables a form (app t (variable m b))
    next-any unseen m declared h =
        let p = first-of h.arguments h.has_form in
        let k : HasForm variables a form t (variable p.number b ∷ p.rest) = rw p.first at h.has_form in
        let w = typed-head p.rest (app t (variable p.number b)) k.typed in
        let o = other-head p.rest (app t (variable p.number b)) (app t (variable m b)) refl (w.0, tt, w.2, tt, w.4) tt k.typed in
        let ms = map number_of p.rest in
        let types-are : b ∷ map type_of p.rest ≡ types = types-of (variable p.number b ∷ p.rest) k in
        let here : renamed (renaming top (p.number ∷ ms)) (normal_form u) ≡ form = form-of (variable p.number b ∷ p.rest) k.variables_of types-are ∙ k.same_form in
        let there : renamed (renaming top (m ∷ ms)) (normal_form u) ≡ normal_form (applied_to t (variable m b ∷ p.rest)) = form-of (variable m b ∷ p.rest) (declared, p.variables_of) types-are in
        let same : renamed (renaming top (m ∷ ms)) (normal_form u) ≡ renamed (renaming top (p.number ∷ ms)) (normal_form u) =
        renamed-same (renaming top (m ∷ ms)) (renaming top (p.number ∷ ms)) (normal_form u) (λ n l. renaming-below top m ms n (λ e. omega arith) ∙ sym (renaming-below top p.number ms n (λ e. omega arith))) in
        record { arguments = p.rest; has_form = record { variables_of = p.variables_of; typed = o.0; type_is = o.1 ∙ k.type_is; same_form = sym there ∙ same ∙ here } }

    -- without a variable of its type there are none
    pub next-none : ((m : ℕ) → slice_get variables m ≡ Some b → ⊥) → MayHaveForm variables a form t → ⊥
    next-none none h = let p = first-of h.arguments h.has_form in none p.number p.declared

-- a variable of the clause may be the first, if it can be so with it
pub next-back : (variables : List SimpleType) (a : SimpleType) (form t : Tree) (m : ℕ) (b : SimpleType) → slice_get variables m ≡ Some b → MayHaveForm variables a form (app t (variable m b)) → MayHaveForm variables a form t
next-back variables a form t m b declared h =
    let k = h.has_form in
    record { arguments = variable m b ∷ h.arguments; has_form = record { variables_of = (declared, k.variables_of); typed = k.typed; type_is = k.type_is; same_form = k.same_form } }

-- a term that has the type already has no arguments
pub form-itself : (variables : List SimpleType) (a : SimpleType) (form t : Tree) → type_of t ≡ a → MayHaveForm variables a form t → normal_form t ≡ form
form-itself variables a form t e h =
    let k = h.has_form in
    let n : h.arguments ≡ [] = no-arguments h.arguments t k.typed (k.type_is ∙ sym e) in
    ap (λ xs. normal_form (applied_to t xs)) (sym n) ∙ k.same_form

pub itself-form : (variables : List SimpleType) (a : SimpleType) (form t : Tree) → IsWellTyped t → type_of t ≡ a → normal_form t ≡ form → MayHaveForm variables a form t
itself-form variables a form t w e f = record { arguments = []; has_form = record { variables_of = tt; typed = w; type_is = e; same_form = f } }

-- types that lead to one another
leads-itself : (a b : SimpleType) → b ≡ a → LeadsToType a b
leads-itself a (base n) e = e
leads-itself a (arrow b d) e = inl e

leads-arrow : (a b c d : SimpleType) → b ≡ arrow c d → LeadsToType a d → LeadsToType a b
leads-arrow a b c d e h = rw e (inr h)

pub arguments-lead : (xs : List Tree) (t : Tree) (a : SimpleType) → IsWellTyped (applied_to t xs) → type_of (applied_to t xs) ≡ a → LeadsToType a (type_of t)
arguments-lead [] t a w e = leads-itself a (type_of t) e
arguments-lead (x ∷ xs) t a w e = leads-arrow a (type_of t) (type_of x) (codomain (type_of t)) (applied-type xs t x w) (arguments-lead xs (app t x) a w e)

pub leads-on : (a b c d : SimpleType) → b ≡ arrow c d → (b ≡ a → ⊥) → LeadsToType a b → LeadsToType a d
leads-on a b c d e f h = elim (rw e at h) [ inl k ↦ absurd (f (e ∙ k)) | inr k ↦ k ]

pub leads-nowhere : (a b : SimpleType) (n : ℕ) → b ≡ base n → (b ≡ a → ⊥) → LeadsToType a b → ⊥
leads-nowhere a b n e f h = f (e ∙ rw e at h)
