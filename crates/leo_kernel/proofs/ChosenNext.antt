-- Arguments of terms of a bank, one after the other.
use Rattle.std.proofs.Common.{ℕ, zero, suc, nat_eq, ◌≡◌, ◌∙◌, ◌+◌, ◌-◌, ◌<◌, ◌≤◌, Bool, true, false, not, List, [], ◌∷◌, ◌++◌, length, map, slice_get, Option, Some, None, refl, sym, ap, subst, ◌⊎◌, inl, inr, arith}
use Rattle.std.specs.Bool.{Decides}
use Rattle.std.specs.Option.{option_map}
use Rattle.std.proofs.lemmas.Bool.Decides.{Decides-like, nat_tests}
use Rattle.leo_q0.specs.Terms.{SimpleType, arrow}
use Rattle.leo_terms.specs.declared.node.TyView.TheVariants.{Base, Arrow}
use Rattle.leo_terms.specs.Tree.{codomain, Tree, variable, app, type_of}
use Rattle.leo_terms.specs.Facts.{variable_range}
use Rattle.leo_terms.specs.NormalForm.{normal_form}
use Rattle.leo_terms.specs.Normal.{HasNormalForm}
use Rattle.leo_terms.specs.Contents.{Contents, IsBank, Extends, IsTerm, IsArrow, IsApplicable, type_at, tree_at, type_number, codomain_number}
use Rattle.leo_terms.proofs.CallerLemmas.{old_bank, new_bank, extends-trans, type-kept, tree-kept, type_number-kept, arrow-kept, applicable, arrow-parts, reads-arrow, reads-base, type_of-term, type_number-within, type-shared, term-typed}
use Rattle.leo_clause.specs.Typed.{AreTypesOf}
use Rattle.leo_kernel.specs.declared.chosen_claims.Wanted.{Wanted}
use Rattle.leo_kernel.specs.Choosing.{applied_to}
use Rattle.leo_kernel.specs.ChosenTerms.{renamed, descending}
use Rattle.leo_kernel.specs.ChosenClaims.{IsFunctionOf}
use Rattle.leo_kernel.specs.ChosenMatching.{IsCandidateOf, HasNoCandidate, IsCandidate, LeadsToType, IsFreshOf, IsFreshSoFar, MayGet, IsFirstOf, IsFirst, IsNextOf}
use Rattle.leo_kernel.proofs.FormRules.{kept-within}
use Rattle.leo_kernel.proofs.Growing.{types-kept}
use Rattle.leo_kernel.proofs.Lists.{get-map}
use Rattle.leo_kernel.proofs.TypedLits.{no}
use Rattle.leo_kernel.proofs.ChosenRenaming.{range-normal}
use Rattle.leo_kernel.proofs.ChosenMatching.{descending-more, range-fresh, next-found, next-renaming, next-any, next-back, form-itself, itself-form, arguments-lead, leads-on, leads-nowhere}

some-number : (m n : ℕ) → Some m ≡ Some n → m ≡ n
some-number m n e = cc

some-type : (x y : SimpleType) → Some x ≡ Some y → x ≡ y
some-type x y e = cc

in-order : (m n : ℕ) → (m < n) ⊎ (n ≤ m)
in-order m n = grind arith

-- variables by number
declared-type : (c : Contents) (vars : List ℕ) (n i : ℕ) → slice_get vars n ≡ Some i → slice_get (map (type_at c) vars) n ≡ Some (type_at c i)
declared-type c vars n i e = get-map (type_at c) vars n ∙ ap (option_map (type_at c)) e

types-get : (c : Contents) (vars : List ℕ) → AreTypesOf c vars → (n x : ℕ) → slice_get vars n ≡ Some x → x < length c.types
types-get c [] h n x e = absurd (cc)
types-get c (y ∷ vars) h zero x e = (let f : y ≡ x = some-number y x e in rw (← f) h.0)
types-get c (y ∷ vars) h (suc n) x e = types-get c vars h.1 n x e

declared-number : (c : Contents) → IsBank c → (vars : List ℕ) → AreTypesOf c vars → (n i : ℕ) → i < length c.types → slice_get (map (type_at c) vars) n ≡ Some (type_at c i) → slice_get vars n ≡ Some i
declared-number c b vars types n i l e = at (slice_get vars n) refl (sym (get-map (type_at c) vars n) ∙ e)
  where
    at : (o : Option ℕ) → slice_get vars n ≡ o → option_map (type_at c) o ≡ Some (type_at c i) → slice_get vars n ≡ Some i
    at None f g = (let h : ⊥ = cc in absurd h)
    at (Some x) f g = f ∙ ap Some (type-shared b x i (types-get c vars types n x f) l (some-type (type_at c x) (type_at c i) g))

-- fresh variables so far
pub fresh-start : (c : Contents) (t top : ℕ) → t < length c.terms → IsFreshSoFar c top (tree_at c t) t top
fresh-start c t top l = record { within = l; types = []; reads = refl; count = omega arith }

function-reads : (c : Contents) → IsBank c → (u m i j : ℕ) → u < length c.terms → m ≡ type_number c u → slice_get c.types m ≡ Some (Arrow i j) → IsArrow c (type_number c u) i j
function-reads c b u m i j l e f = record { arrow_node = rw (← e) f }

module _ {c d : Contents} (f : Extends c d) {top u n m i j x : ℕ} (t : Tree) (fresh : IsFreshSoFar c top t u n) (type_is : m ≡ type_number c u) (node : slice_get c.types m ≡ Some (Arrow i j)) (argument : IsTerm d x i (variable n (type_at c i))) where
  function : IsArrow c (type_number c u) i j
  function = function-reads c (old_bank f) u m i j fresh.within type_is node

  applies : IsApplicable d u x × (codomain_number d (type_number d u) ≡ j)
  applies =
      let whole : IsTerm d u (type_number c u) (tree_at d u) = record { within = kept-within f u fresh.within; type_is = type_number-kept f u fresh.within; reads = refl } in
      applicable whole argument (arrow-kept f function)

  pub fresh-applies : IsApplicable d u x
  fresh-applies = applies.0

  module _ {e : Contents} {v : ℕ} (made : IsTerm e v (codomain_number d (type_number d u)) (app (tree_at d u) (tree_at d x))) where
    pub fresh-falls : type_number e v < type_number c u
    fresh-falls = let p = arrow-parts (old_bank f) function in let q = p.2 in let k = made.type_is in let h = applies.1 in omega arith

    more-reads : tree_at e v ≡ applied_to t (descending top (fresh.types ++ type_at c i ∷ []))
    more-reads =
        let first : tree_at d u ≡ applied_to t (descending top fresh.types) = tree-kept f u fresh.within ∙ fresh.reads in
        let k = fresh.count in
        let number : n ≡ top - length fresh.types = omega arith in
        made.reads ∙ rw (first, argument.reads) (ap (λ z. app (applied_to t (descending top fresh.types)) (variable z (type_at c i))) number) ∙ sym (descending-more fresh.types top (type_at c i) t)

    pub fresh-more : 0 < n → IsFreshSoFar e top t v (n - 1)
    fresh-more l =
        let k = fresh.count in
        let h = length-end fresh.types (type_at c i) in
        record { within = made.within; types = fresh.types ++ type_at c i ∷ []; reads = more-reads; count = omega arith }
      where
        length-end : (xs : List SimpleType) (y : SimpleType) → length (xs ++ y ∷ []) ≡ suc (length xs)
        length-end [] y = refl
        length-end (z ∷ xs) y = ap suc (length-end xs y)

    pub fresh-leads : (a : SimpleType) → (type_of (tree_at c u) ≡ a → ⊥) → LeadsToType a (type_of (tree_at c u)) → LeadsToType a (type_of (tree_at e v))
    fresh-leads a other h =
        let b = old_bank f in
        let whole : type_of (tree_at c u) ≡ arrow (type_at c i) (type_at c j) = type_of-term b u fresh.within ∙ reads-arrow b function in
        let p = arrow-parts b function in
        let y : type_of (tree_at e v) ≡ type_at c j = ap type_of made.reads ∙ ap codomain (ap type_of (tree-kept f u fresh.within) ∙ whole) in
        rw y (leads-on a (type_of (tree_at c u)) (type_at c i) (type_at c j) whole other h)

-- types by number
pub type-other : (c : Contents) → IsBank c → (u m i : ℕ) → u < length c.terms → i < length c.types → m ≡ type_number c u → (r : Bool) → r ≡ not (nat_eq m i) → r ≡ true → type_of (tree_at c u) ≡ type_at c i → ⊥
type-other c b u m i l k e r f g h = apart m i r f g (type-shared b m i (rw e (type_number-within b u l)) k (ap (type_at c) e ∙ sym (type_of-term b u l) ∙ h))
  where
    apart : (m n : ℕ) (r : Bool) → r ≡ not (nat_eq m n) → r ≡ true → m ≡ n → ⊥
    apart m n r e t f = grind (arith, nat_tests)

pub number-other : (u m i : ℕ) (r : Bool) → m ≡ u → r ≡ not (nat_eq m i) → r ≡ true → u ≡ i → ⊥
number-other u m i r e f g h = grind (arith, nat_tests)

pub type-same : (c : Contents) → IsBank c → (u m i : ℕ) → u < length c.terms → m ≡ type_number c u → (r : Bool) → r ≡ not (nat_eq m i) → r ≡ false → type_of (tree_at c u) ≡ type_at c i
type-same c b u m i l e r f g = type_of-term b u l ∙ ap (type_at c) (sym e ∙ together m i r f g)
  where
    together : (m n : ℕ) (r : Bool) → r ≡ not (nat_eq m n) → r ≡ false → m ≡ n
    together m n r e t = grind (arith, nat_tests)

pub fresh-nowhere : (c : Contents) → IsBank c → (u m n : ℕ) (a : SimpleType) → u < length c.terms → m ≡ type_number c u → slice_get c.types m ≡ Some (Base n) → (type_of (tree_at c u) ≡ a → ⊥) → LeadsToType a (type_of (tree_at c u)) → ⊥
fresh-nowhere c b u m n a l e f other h = leads-nowhere a (type_of (tree_at c u)) n (type_of-term b u l ∙ ap (type_at c) (sym e) ∙ reads-base b m n f) other h

pub fresh-done : (c : Contents) (top : ℕ) (a : SimpleType) (t : Tree) (u n : ℕ) → IsFreshSoFar c top t u n → variable_range t ≤ n → type_of (tree_at c u) ≡ a → IsFreshOf c top a t u
fresh-done c top a t u n fresh low e = let k = fresh.count in record { within = fresh.within; types = fresh.types; reads = fresh.reads; type_is = e; room = omega arith }

-- the form may be got
pub may-lead : (c : Contents) (vars : List ℕ) (w : Wanted) (t : Tree) → MayGet c vars w t → LeadsToType (type_at c w.ty) (type_of t)
may-lead c vars w t h = arguments-lead h.arguments t (type_at c w.ty) h.has_form.typed h.has_form.type_is

pub may-kept : {c d : Contents} → Extends c d → (vars : List ℕ) (w : Wanted) → AreTypesOf c vars → w.ty < length c.types → w.form < length c.terms → (t : Tree) → MayGet d vars w t → MayGet c vars w t
may-kept e vars w types l k t h = rw (types-kept e vars types, type-kept e w.ty l, tree-kept e w.form k) at h

pub may-grows : {c d : Contents} → Extends c d → (vars : List ℕ) (w : Wanted) → AreTypesOf c vars → w.ty < length c.types → w.form < length c.terms → (t : Tree) → MayGet c vars w t → MayGet d vars w t
may-grows e vars w types l k t h = rw (types-kept e vars types, type-kept e w.ty l, tree-kept e w.form k) h

-- the first argument: the function with fresh variables (c), and its normal form (d)
module _ {a c d : Contents} (e : Extends a c) (g : Extends c d) (vars : List ℕ) (w : Wanted) (f i j top u r : ℕ) (function : IsFunctionOf a i j f) (fresh : IsFreshOf c top (type_at a w.ty) (tree_at a f) u) (normal : HasNormalForm c d u r) where
  pub normal-range : variable_range (tree_at d r) ≤ top + 1
  normal-range =
      let k = fresh.room in
      let h = range-fresh fresh.types (tree_at a f) top top (omega arith) (omega arith) in
      let y : variable_range (tree_at c u) ≤ suc top = rw fresh.reads h in
      let z : variable_range (normal_form (tree_at c u)) ≤ suc top = range-normal top (tree_at c u) y in
      rw normal.value (let z' = z in omega arith)

  module _ (types : AreTypesOf a vars) (within : w.form < length a.terms) (type_within : w.ty < length a.types) (other : type_number a f ≡ w.ty → ⊥) where
    b : IsBank a
    b = old_bank e

    whole : type_of (tree_at a f) ≡ arrow (type_at a i) (type_at a j)
    whole = type_of-term b f function.within ∙ reads-arrow b function.typed

    short : type_of (tree_at a f) ≡ type_at a w.ty → ⊥
    short h = other (type-shared b (type_number a f) w.ty (type_number-within b f function.within) type_within (sym (type_of-term b f function.within) ∙ h))

    form-is : tree_at d w.form ≡ tree_at a w.form
    form-is = tree-kept (extends-trans e g) w.form within

    pub first-there : (n : ℕ) → IsCandidateOf vars i top (tree_at d r) (tree_at d w.form) n → IsFirstOf a vars w i f n
    first-there n h = record { declared = h.declared; there = there }
      where
        there : MayGet a vars w (tree_at a f) → MayGet a vars w (app (tree_at a f) (variable n (type_at a i)))
        there m =
            elim (in-order top (variable_range (tree_at d r))) [
              | inl l ↦
                  let k = next-found (map (type_at a) vars) (type_at a w.ty) (tree_at a w.form) (tree_at a f) (tree_at c u) top fresh.types fresh.reads (term-typed (old_bank g) u fresh.within) fresh.type_is fresh.room (type_at a i) (type_at a j) whole short (Some n)
                  (λ rho q. ap Some (h.stands l rho (form-is ∙ q ∙ ap (λ z. renamed rho z) (sym normal.value)))) m in
                  subst (λ (z : ℕ). MayGet a vars w (app (tree_at a f) (variable z (type_at a i)))) (sym (some-number n k.number k.is)) k.still
              | inr l ↦ next-any (map (type_at a) vars) (type_at a w.ty) (tree_at a w.form) (tree_at a f) (tree_at c u) top fresh.types fresh.reads (term-typed (old_bank g) u fresh.within) fresh.type_is fresh.room (type_at a i) (type_at a j) whole short (rw (← normal.value) l) n (declared-type a vars n i h.declared) m
            ]

    pub first-none : HasNoCandidate vars i top (tree_at d r) (tree_at d w.form) → MayGet a vars w (tree_at a f) → ⊥
    first-none h m =
        let k = next-renaming (map (type_at a) vars) (type_at a w.ty) (tree_at a w.form) (tree_at a f) (tree_at c u) top fresh.types fresh.reads (term-typed (old_bank g) u fresh.within) fresh.type_is fresh.room (type_at a i) (type_at a j) whole short m in
        let there : slice_get vars (k.renames top) ≡ Some i = declared-number a b vars types (k.renames top) i function.from_within k.declared in
        elim (in-order top (variable_range (tree_at d r))) [
          | inl l ↦ h.seen l k.renames (form-is ∙ k.is ∙ ap (λ z. renamed k.renames z) (sym normal.value)) there
          | inr l ↦ h.unseen l (k.renames top) there
        ]

    pub first-of : (o : Option ℕ) → IsCandidate vars i top (tree_at d r) (tree_at d w.form) o → IsFirst a vars w i f o
    first-of None h = first-none h
    first-of (Some n) h = first-there n h

-- a function whose type leads nowhere else
pub no-first : (c : Contents) (vars : List ℕ) (w : Wanted) (f : ℕ) → (LeadsToType (type_at c w.ty) (type_of (tree_at c f)) → ⊥) → MayGet c vars w (tree_at c f) → ⊥
no-first c vars w f h m = h (may-lead c vars w (tree_at c f) m)

-- the function with its first argument
pub next-applies : {a c d : Contents} → Extends a c → Extends c d → {f i j n x : ℕ} → IsFunctionOf a i j f → IsTerm d x i (variable n (type_at c i)) → IsApplicable d f x × (codomain_number d (type_number d f) ≡ j)
next-applies {a} {c} {d} e g {f} {i} {j} {n} {x} function argument =
    let h = extends-trans e g in
    let whole : IsTerm d f (type_number a f) (tree_at d f) = record { within = kept-within h f function.within; type_is = type_number-kept h f function.within; reads = refl } in
    applicable whole argument (arrow-kept h function.typed)

pub next-made : {a c d k : Contents} → Extends a c → Extends c d → (vars : List ℕ) (w : Wanted) → {f i j n x v : ℕ} → IsFunctionOf a i j f → IsFirstOf a vars w i f n → IsTerm d x i (variable n (type_at c i)) → IsTerm k v (codomain_number d (type_number d f)) (app (tree_at d f) (tree_at d x)) → IsNextOf a k vars w f v
next-made {a} {c} {d} {k} e g vars w {f} {i} {j} {n} {x} {v} function first argument made =
    let h = extends-trans e g in
    let reads : tree_at k v ≡ app (tree_at a f) (variable n (type_at a i)) = made.reads ∙ rw (tree-kept h f function.within, argument.reads, type-kept e i function.from_within) refl in
    let p = arrow-parts (old_bank e) function.typed in
    let q = p.2 in
    let y = made.type_is in
    let z = (next-applies e g function argument).1 in
    record {
      within = made.within;
      falls = omega arith;
      there = λ m. rw reads (first.there m);
      back = λ m. next-back (map (type_at a) vars) (type_at a w.ty) (tree_at a w.form) (tree_at a f) n (type_at a i) (declared-type a vars n i first.declared) (rw reads at m);
    }

-- the function that a view of its type shows
pub function-of : (c : Contents) → IsBank c → (t m i j : ℕ) → t < length c.terms → m ≡ type_number c t → slice_get c.types m ≡ Some (Arrow i j) → IsFunctionOf c i j t
function-of c b t m i j l e f =
    let h = function-reads c b t m i j l e f in
    let p = arrow-parts b h in
    let x = p.0 in
    let y = p.1 in
    let z = p.2 in
    record { from_within = omega arith; to_within = omega arith; within = l; typed = h }

pub base-none : (c : Contents) → IsBank c → (vars : List ℕ) (w : Wanted) (t m n : ℕ) → t < length c.terms → w.ty < length c.types → m ≡ type_number c t → slice_get c.types m ≡ Some (Base n) → (type_number c t ≡ w.ty → ⊥) → MayGet c vars w (tree_at c t) → ⊥
base-none c b vars w t m n l k e f other h =
    fresh-nowhere c b t m n (type_at c w.ty) l e f
    (λ q. other (type-shared b (type_number c t) w.ty (type_number-within b t l) k (sym (type_of-term b t l) ∙ q)))
    (may-lead c vars w (tree_at c t) h)

module _ {a c d : Contents} (e : Extends a c) (vars : List ℕ) (w : Wanted) (types : AreTypesOf a vars) (ty : w.ty < length a.types) (form : w.form < length a.terms) (t : Tree) (u v : ℕ) (next : IsNextOf c d vars w u v) where
  pub there-on : (MayGet a vars w t → MayGet a vars w (tree_at c u)) → MayGet a vars w t → MayGet a vars w (tree_at d v)
  there-on f m = may-kept e vars w types ty form (tree_at d v) (next.there (may-grows e vars w types ty form (tree_at c u) (f m)))

  pub back-on : (MayGet a vars w (tree_at c u) → MayGet a vars w t) → MayGet a vars w (tree_at d v) → MayGet a vars w t
  back-on f m = f (may-kept e vars w types ty form (tree_at c u) (next.back (may-grows e vars w types ty form (tree_at d v) m)))

pub none-on : {a c : Contents} → Extends a c → (vars : List ℕ) (w : Wanted) → AreTypesOf a vars → w.ty < length a.types → w.form < length a.terms → (t : Tree) (u : ℕ) → (MayGet a vars w t → MayGet a vars w (tree_at c u)) → (MayGet c vars w (tree_at c u) → ⊥) → Decides false (MayGet a vars w t)
none-on {a} {c} e vars w types ty form t u f g = no (λ m. g (may-grows e vars w types ty form (tree_at c u) (f m)))

-- in the end
pub get-decides : {a c : Contents} → Extends a c → (vars : List ℕ) (w : Wanted) → w.ty < length a.types → w.form < length a.terms → (u : ℕ) (t : Tree) → u < length c.terms → (MayGet a vars w t → MayGet a vars w (tree_at c u)) → (MayGet a vars w (tree_at c u) → MayGet a vars w t) → type_of (tree_at c u) ≡ type_at c w.ty →
    (r : Bool) → Decides r ((type_of (tree_at c u) ≡ type_at c w.ty) × (normal_form (tree_at c u) ≡ tree_at c w.form)) → Decides r (MayGet a vars w t)
get-decides {a} {c} e vars w l k u t m there back same r d =
    let type_is : type_of (tree_at c u) ≡ type_at a w.ty = same ∙ type-kept e w.ty l in
    let form_is : tree_at c w.form ≡ tree_at a w.form = tree-kept e w.form k in
    Decides-like r
    (λ p. back (itself-form (map (type_at a) vars) (type_at a w.ty) (tree_at a w.form) (tree_at c u) (term-typed (new_bank e) u m) type_is (p.1 ∙ form_is)))
    (λ h. (same, form-itself (map (type_at a) vars) (type_at a w.ty) (tree_at a w.form) (tree_at c u) type_is (there h) ∙ sym form_is))
    d
