-- The terms that a variable at the head of a formula is bound to, in banks that grow.
use Rattle.std.proofs.Common.{ℕ, nat_eq, ◌≡◌, ◌∙◌, ◌<◌, ◌+◌, Bool, true, false, List, [], ◌∷◌, ◌++◌, length, map, take, slice_get, slice_index_or, Some, refl, sym, ap, append_assoc, append-nil, arith}
use Rattle.std.specs.Bool.{if◌then◌else◌}
use Rattle.std.specs.List.{list_any}
use Rattle.std.proofs.lemmas.Bool.Decides.{nat_tests}
use Rattle.std.proofs.lemmas.List.{map-append}
use Rattle.leo_q0.specs.Terms.{SimpleType, arrow, same_type}
use Rattle.leo_terms.specs.declared.node.TyView.{TyView}
use Rattle.leo_terms.specs.declared.node.TyView.TheVariants.{Base, Arrow}
use Rattle.leo_terms.specs.Contents.{Contents, IsBank, IsArrow, IsApplicable, IsTerm, Extends, type_at, tree_at, type_number}
use Rattle.leo_terms.specs.Tree.{codomain, Tree, variable, bound, app, lam, logic, absent, type_of, truth_type, IsBoundAt, negation, disjunction, equality}
use Rattle.leo_terms.proofs.CallerLemmas.{extends-itself, extends-trans, new_bank, old_bank, term-kept, reads-arrow, reads-base, tree-kept, type-kept, type_of-term, type_number-within, type-shared}
use Rattle.leo_clause.specs.Arranging.{firsts}
use Rattle.leo_clause.specs.Typed.{AreTypesOf}
use Rattle.leo_clause.proofs.Renaming.{types-at}
use Rattle.leo_kernel.proofs.Growing.{types-grow, types-kept}
use Rattle.leo_kernel.proofs.TypeRules.{truth-reads}
use Rattle.leo_clausify.specs.Giving.{AreGivenBy}
use Rattle.leo_clausify.specs.Picking.{IsTree}
use Rattle.leo_clausify.proofs.Branching.{get-map}
use Rattle.leo_clausify.proofs.Functions.{applies, type-old}
use Rattle.leo_clausify.proofs.Giving.{given-all}
use Rattle.leo_ext.specs.declared.binding.Bound.{Bound}
use Rattle.leo_ext.specs.declared.binding.Two.{Two}
use Rattle.leo_ext.specs.Binding.{Binding, argument_types, arrows, under_lambdas, of_indices, fresh_function, truth_binding, negation_binding, disjunction_binding, equation_binding, bindings, given_for}
use Rattle.leo_ext.specs.Bounds.{AddsBindings, AreBindings, AreBoundsOf, AreIndicesOf, AreTrees, AreTwo, IsBinding, IsType, binding_at}
use Rattle.leo_ext.proofs.Adding.{stands-at}
use Rattle.leo_ext.proofs.Bindings.{function-typed}
use Rattle.leo_ext.proofs.BoundTerms.{first-bound, given_by, given-whole}
use Rattle.leo_ext.proofs.ChoiceMembers.{within-kept}
use Rattle.leo_ext.proofs.Comparing.{same-types}
use Rattle.leo_ext.proofs.Loops.{length-mapped, mapped-next}

-- types of arguments
pub arguments-next : (c : Contents) → IsBank c → (types : List ℕ) (from to rest : ℕ) (all : List SimpleType) → slice_get c.types rest ≡ Some (Arrow from to) → map (type_at c) types ++ argument_types (type_at c rest) ≡ all → map (type_at c) (types ++ from ∷ []) ++ argument_types (type_at c to) ≡ all
arguments-next c b types from to rest all e h =
    let r : type_at c rest ≡ arrow (type_at c from) (type_at c to) = reads-arrow b (record { arrow_node = e }) in
    ap (λ (xs : List SimpleType). xs ++ argument_types (type_at c to)) (map-append (type_at c) types (from ∷ []))
    ∙ append_assoc (map (type_at c) types) (type_at c from ∷ []) (argument_types (type_at c to))
    ∙ ap (λ (a : SimpleType). map (type_at c) types ++ argument_types a) (sym r)
    ∙ h

pub types-end : (c : Contents) (types : List ℕ) (a : ℕ) → AreTypesOf c types → a < length c.types → AreTypesOf c (types ++ a ∷ [])
types-end c [] a h l = (l, tt)
types-end c (t ∷ types) a h l = (h.0, types-end c types a h.1 l)

pub arguments-all : (c : Contents) → IsBank c → (types : List ℕ) (rest : ℕ) (v : TyView) (all : List SimpleType) → slice_get c.types rest ≡ Some v → ((x y : ℕ) → v ≡ Arrow x y → ⊥) → map (type_at c) types ++ argument_types (type_at c rest) ≡ all → map (type_at c) types ≡ all
arguments-all c b types rest (Base n) all e f h = sym (append-nil (map (type_at c) types)) ∙ ap (λ (a : SimpleType). map (type_at c) types ++ argument_types a) (sym (reads-base b rest n e)) ∙ h
arguments-all c b types rest (Arrow x y) all e f h = absurd (f x y refl)

-- types of functions
pub type-itself : (c : Contents) (types : List ℕ) (to : ℕ) → length types ≡ 0 → to < length c.types → IsType c to (arrows (map (type_at c) types) (type_at c to))
type-itself c [] to e l = record { within = l; reads = refl }
type-itself c (a ∷ types) to e l = absurd (omega arith)

module _ {a b d : Contents} (f : Extends a b) (g : Extends b d) (types : List ℕ) (first : ℕ) (rest : List ℕ) (is : types ≡ first ∷ rest) (of : AreTypesOf a types) where
  parts : AreTypesOf a (first ∷ rest)
  parts = rw is at of

  pub function-type-made : (to given whole : ℕ) → IsType b given (arrows (map (type_at a) rest) (type_at a to)) → IsArrow d whole first given → whole < length d.types → IsType d whole (arrows (map (type_at a) types) (type_at a to))
  function-type-made to given whole h w l = record {
    within = l;
    reads = reads-arrow (new_bank g) w ∙ rw (is, type-kept (extends-trans f g) first parts.0, type-kept g given h.within, h.reads) refl;
  }

  -- a function of indices
  pub indices-made : (t next whole : ℕ) → IsTree b next (app (tree_at a t) (bound (length rest) (type_at a first))) → IsTree d whole (of_indices (map (type_at b) rest) (tree_at b next)) → IsTree d whole (of_indices (map (type_at a) types) (tree_at a t))
  indices-made t next whole m n =
      let k : length (map (type_at a) rest) ≡ length rest = length-mapped (type_at a) rest in
      let one : of_indices (map (type_at b) rest) (tree_at b next) ≡ of_indices (map (type_at a) rest) (app (tree_at a t) (bound (length rest) (type_at a first))) = rw (types-kept f rest parts.1, m.reads) refl in
      let two : of_indices (map (type_at a) rest) (app (tree_at a t) (bound (length rest) (type_at a first))) ≡ of_indices (map (type_at a) (first ∷ rest)) (tree_at a t) = ap (λ (i : ℕ). of_indices (map (type_at a) rest) (app (tree_at a t) (bound i (type_at a first)))) (sym k) in
      record { within = n.within; reads = n.reads ∙ one ∙ two ∙ ap (λ (ts : List ℕ). of_indices (map (type_at a) ts) (tree_at a t)) (sym is) }

  -- lambdas
  pub lambdas-made : (t below whole i : ℕ) → IsTree b below (under_lambdas (map (type_at a) rest) (tree_at a t)) → IsTerm d whole i (lam (type_at b first) (tree_at b below)) → IsTree d whole (under_lambdas (map (type_at a) types) (tree_at a t))
  lambdas-made t below whole i m n = record { within = n.within; reads = n.reads ∙ rw (is, type-kept f first parts.0, m.reads) refl }

-- the same where nothing is made yet
module _ {a b : Contents} (f : Extends a b) (types : List ℕ) (first : ℕ) (rest : List ℕ) (is : types ≡ first ∷ rest) (of : AreTypesOf a types) where
  both : AreTypesOf a (first ∷ rest)
  both = rw is at of

  pub rest-types : AreTypesOf b rest
  rest-types = types-grow f rest both.1

  pub indices-function : (t next : ℕ) (b' : SimpleType) → type_of (tree_at a t) ≡ arrows (map (type_at a) types) b' → IsTree b next (app (tree_at a t) (bound (length rest) (type_at a first))) → type_of (tree_at b next) ≡ arrows (map (type_at b) rest) b'
  indices-function t next b' e m =
      let u : type_of (tree_at a t) ≡ arrows (map (type_at a) (first ∷ rest)) b' = rw is at e in
      ap type_of m.reads ∙ ap codomain u ∙ ap (λ (xs : List SimpleType). arrows xs b') (sym (types-kept f rest both.1))

  pub lambdas-bound : (t below : ℕ) → AreIndicesOf (map (type_at a) types) (tree_at a t) → IsTree b below (under_lambdas (map (type_at a) rest) (tree_at a t)) → IsBoundAt 0 (type_at b first) (tree_at b below)
  lambdas-bound t below h m =
      let j : AreIndicesOf (map (type_at a) (first ∷ rest)) (tree_at a t) = rw is at h in
      rw (type-kept f first both.0, m.reads) (first-bound (map (type_at a) rest) (tree_at a t) (type_at a first) j.0)

pub first-function : (c : Contents) (types : List ℕ) (first : ℕ) (rest : List ℕ) (t : ℕ) (b : SimpleType) → types ≡ first ∷ rest → type_of (tree_at c t) ≡ arrows (map (type_at c) types) b → type_of (tree_at c t) ≡ arrow (type_at c first) (arrows (map (type_at c) rest) b)
first-function c types first rest t b is e = rw is at e

pub indices-none : (c : Contents) (types : List ℕ) (t : ℕ) → length types ≡ 0 → t < length c.terms → IsTree c t (of_indices (map (type_at c) types) (tree_at c t))
indices-none c [] t e l = record { within = l; reads = refl }
indices-none c (a ∷ types) t e l = absurd (omega arith)

pub lambdas-none : (c : Contents) (types : List ℕ) (t : ℕ) → length types ≡ 0 → t < length c.terms → IsTree c t (under_lambdas (map (type_at c) types) (tree_at c t))
lambdas-none c [] t e l = record { within = l; reads = refl }
lambdas-none c (a ∷ types) t e l = absurd (omega arith)

-- a function of an index
pub index-applies : {a b : Contents} → Extends a b → (f x index ty : ℕ) → f < length a.terms → (c : SimpleType) → type_of (tree_at a f) ≡ arrow (type_at a ty) c → IsTerm b x ty (bound index (type_at a ty)) → IsApplicable b f x
index-applies {a} {b} e f x index ty l c t m =
    applies b (new_bank e) f x (within-kept e f l) m.within c (ap type_of (tree-kept e f l) ∙ t ∙ ap (λ (u : Tree). arrow (type_of u) c) (sym m.reads))

pub index-made : {a b d : Contents} → Extends a b → (f x whole index ty i : ℕ) → f < length a.terms → IsTerm b x ty (bound index (type_at a ty)) → IsTerm d whole i (app (tree_at b f) (tree_at b x)) → IsTree d whole (app (tree_at a f) (bound index (type_at a ty)))
index-made e f x whole index ty i l m n = record { within = n.within; reads = n.reads ∙ rw (tree-kept e f l, m.reads) refl }

-- a fresh variable as a function of indices
pub term-typed : {a b : Contents} → Extends a b → (t to : ℕ) (s : Tree) → to < length a.types → IsTree b t s → type_of s ≡ type_at a to → IsTerm b t to s
term-typed {a} {b} e t to s l m h =
    let k = new_bank e in
    let n = e.types_more in
    record {
      within = m.within;
      type_is = type-shared k (type_number b t) to (type_number-within k t m.within) (omega arith) (sym (type_of-term k t m.within) ∙ ap type_of m.reads ∙ h ∙ sym (type-kept e to l));
      reads = m.reads;
    }

pub function-made : {a b d : Contents} → Extends a b → Extends b d → (types : List ℕ) → AreTypesOf a types → (number whole to x t : ℕ) → to < length a.types → IsType a whole (arrows (map (type_at a) types) (type_at a to)) → IsTerm b x whole (variable number (type_at a whole)) → IsTree d t (of_indices (map (type_at b) types) (tree_at b x)) → IsTerm d t to (fresh_function number (map (type_at a) types) (type_at a to))
function-made {a} {b} {d} f g types of number whole to x t l w m n =
    let s = fresh_function number (map (type_at a) types) (type_at a to) in
    let r : tree_at d t ≡ s = n.reads ∙ rw (types-kept f types of, m.reads, w.reads) refl in
    term-typed (extends-trans f g) t to s l (record { within = n.within; reads = r }) (function-typed number (map (type_at a) types) (type_at a to))

-- bindings in banks that grow
pub type-grow : {c d : Contents} → Extends c d → (i : ℕ) (a : SimpleType) → IsType c i a → IsType d i a
type-grow e i a h = (let m = e.types_more in let l = h.within in record { within = omega arith; reads = type-kept e i h.within ∙ h.reads })

pub bounds-grow : {c d : Contents} → Extends c d → (bs : List Bound) → AreBoundsOf c bs → AreBoundsOf d bs
bounds-grow e [] h = tt
bounds-grow e (b ∷ bs) h = (types-grow e b.fresh h.0, within-kept e b.body h.1, bounds-grow e bs h.2)

pub bounds-kept : {c d : Contents} → Extends c d → (bs : List Bound) → AreBoundsOf c bs → map (binding_at d) bs ≡ map (binding_at c) bs
bounds-kept e [] h = refl
bounds-kept e (b ∷ bs) h = rw (types-kept e b.fresh h.0, tree-kept e b.body h.1, bounds-kept e bs h.2) refl

bounds-append : (c : Contents) (bs cs : List Bound) → AreBoundsOf c bs → AreBoundsOf c cs → AreBoundsOf c (bs ++ cs)
bounds-append c [] cs h g = g
bounds-append c (b ∷ bs) cs h g = (h.0, h.1, bounds-append c bs cs h.2 g)

pub bindings-grow : {c d : Contents} → Extends c d → (bs : List Bound) (ks : List Binding) → AreBindings c bs ks → AreBindings d bs ks
bindings-grow e bs ks h = record { of_bank = bounds-grow e bs h.of_bank; reads = bounds-kept e bs h.of_bank ∙ h.reads }

pub puts-nothing : {c d : Contents} → Extends c d → (bs : List Bound) → AddsBindings c d bs bs []
puts-nothing e bs = record { extends = e; adds = λ ks h. rw (append-nil ks) (bindings-grow e bs ks h) }

pub puts-as : {c d : Contents} (old new : List Bound) (xs ys : List Binding) → AddsBindings c d old new xs → xs ≡ ys → AddsBindings c d old new ys
puts-as old new xs ys h e = rw (← e) h

pub puts-both : {b c d : Contents} (old middle new : List Bound) (xs ys : List Binding) → AddsBindings b c old middle xs → AddsBindings c d middle new ys → AddsBindings b d old new (xs ++ ys)
puts-both old middle new xs ys h g = record {
  extends = extends-trans h.extends g.extends;
  adds = λ ks k. rw (← append_assoc ks xs ys) (g.adds (ks ++ xs) (h.adds ks k));
}

pub puts-one : {c d : Contents} → Extends c d → (old new : List Bound) (x : Bound) (k : Binding) → new ≡ old ++ x ∷ [] → IsBinding d x k → AddsBindings c d old new (k ∷ [])
puts-one {c} {d} e old new x k is h = record {
  extends = e;
  adds = λ ks m. (
      let g = bindings-grow e old ks m in
      rw is (record {
        of_bank = bounds-append d old (x ∷ []) g.of_bank (h.fresh_of, h.body_within, tt);
        reads = map-append (binding_at d) old (x ∷ []) ∙ ap (λ (zs : List Binding). zs ++ binding_at d x ∷ []) g.reads ∙ ap (λ (z : Binding). ks ++ z ∷ []) h.reads;
      })
      );
}

-- different types by their numbers
firsts-types : (c : Contents) → IsBank c → (seen ns : List ℕ) → AreTypesOf c seen → AreTypesOf c ns → AreTypesOf c (firsts nat_eq seen ns) × (map (type_at c) (firsts nat_eq seen ns) ≡ firsts same_type (map (type_at c) seen) (map (type_at c) ns))
firsts-types c b seen [] h g = (h, refl)
firsts-types c b seen (n ∷ ns) h g =
    by (list_any (nat_eq n) seen) (list_any (same_type (type_at c n)) (map (type_at c) seen)) (any-same seen h) (firsts-types c b seen ns h g.1) (firsts-types c b (seen ++ n ∷ []) ns (types-end c seen n h g.0) g.1)
  where
    any-same : (ms : List ℕ) → AreTypesOf c ms → list_any (nat_eq n) ms ≡ list_any (same_type (type_at c n)) (map (type_at c) ms)
    any-same [] k = refl
    any-same (m ∷ ms) k = rw (same-types c b n m g.0 k.0 (nat_eq n m) refl, any-same ms k.1) refl

    by : (p q : Bool) → p ≡ q → AreTypesOf c (firsts nat_eq seen ns) × (map (type_at c) (firsts nat_eq seen ns) ≡ firsts same_type (map (type_at c) seen) (map (type_at c) ns)) → AreTypesOf c (firsts nat_eq (seen ++ n ∷ []) ns) × (map (type_at c) (firsts nat_eq (seen ++ n ∷ []) ns) ≡ firsts same_type (map (type_at c) (seen ++ n ∷ [])) (map (type_at c) ns))
        → AreTypesOf c (if p then firsts nat_eq seen ns else firsts nat_eq (seen ++ n ∷ []) ns) × (map (type_at c) (if p then firsts nat_eq seen ns else firsts nat_eq (seen ++ n ∷ []) ns) ≡ (if q then firsts same_type (map (type_at c) seen) (map (type_at c) ns) else firsts same_type (map (type_at c) seen ++ type_at c n ∷ []) (map (type_at c) ns)))
    by true true e x y = x
    by false false e x y = (y.0, y.1 ∙ ap (λ (ts : List SimpleType). firsts same_type ts (map (type_at c) ns)) (map-append (type_at c) seen (n ∷ [])))
    by true false e x y = absurd (cc)
    by false true e x y = absurd (cc)

pub different-types : (c : Contents) → IsBank c → (ns : List ℕ) → AreTypesOf c ns → AreTypesOf c (firsts nat_eq [] ns) × (map (type_at c) (firsts nat_eq [] ns) ≡ firsts same_type [] (map (type_at c) ns))
different-types c b ns h = firsts-types c b [] ns tt h

-- the term that is given for a variable
pub given-term : (c : Contents) → IsBank c → (n number ty term : ℕ) → ty < length c.types → term < length c.terms → (number ≡ n → type_of (tree_at c term) ≡ type_at c ty) → number ≡ n → IsTerm c term ty (if nat_eq number n then tree_at c term else variable number (type_at c ty))
given-term c b n number ty term l k h e =
    let t : nat_eq number n ≡ true = grind (arith, nat_tests) in
    rw t (term-typed (extends-itself b) term ty (tree_at c term) l (record { within = k; reads = refl }) (h e))

pub given-all_terms : (a b : Contents) (n term : ℕ) (vars sigma : List ℕ) → AreGivenBy (given_by n (tree_at a term)) a b vars sigma (length vars) → AreTrees b sigma (given_for n (tree_at a term) 0 (map (type_at a) vars))
given-all_terms a b n term vars sigma h = record {
  terms = h.terms;
  reads = given-whole n (tree_at a term) (map (type_at a) vars) (map (tree_at b) sigma) (length-mapped (tree_at b) sigma ∙ h.count ∙ sym (length-mapped (type_at a) vars)) (λ k x e. given-all (given_by n (tree_at a term)) a b vars sigma h k x e);
}

-- the type of the term is that of the variable
pub given-typed : {a c : Contents} → Extends a c → (vars : List ℕ) → AreTypesOf a vars → (n number ty term : ℕ) → term < length a.terms → slice_get (map (type_at a) vars) n ≡ Some (type_of (tree_at a term)) → number < length vars → ty ≡ slice_index_or vars number ty → number ≡ n → type_of (tree_at c term) ≡ type_at c ty
given-typed {a} {c} e vars of n number ty term l at lt is same =
    let s : slice_get vars number ≡ Some ty = stands-at vars number ty lt is in
    let t : slice_get (map (type_at a) vars) number ≡ Some (type_at a ty) = get-map (type_at a) vars number ty s in
    let u : slice_get (map (type_at a) vars) number ≡ Some (type_of (tree_at a term)) = rw same at in
    let v : type_of (tree_at a term) ≡ type_at a ty = (let w : Some (type_of (tree_at a term)) ≡ Some (type_at a ty) = sym u ∙ t in cc) in
    ap type_of (tree-kept e term l) ∙ v ∙ sym (type-old e vars of number ty s)

binding-same : (fs gs : List SimpleType) (s t : Tree) → fs ≡ gs → s ≡ t → (let x : Binding = record { fresh = fs; body = s } in x) ≡ record { fresh = gs; body = t }
binding-same fs gs s t e f = rw (e, f) refl

-- a variable whose type is that of such functions
pub variable-function : {a b : Contents} → Extends a b → (types : List ℕ) → AreTypesOf a types → (number whole to x : ℕ) → IsType a whole (arrows (map (type_at a) types) (type_at a to)) → IsTerm b x whole (variable number (type_at a whole)) → (c : SimpleType) × (type_of (tree_at b x) ≡ arrows (map (type_at b) types) c)
variable-function {a} {b} e types of number whole to x w m = (type_at a to, ap type_of m.reads ∙ w.reads ∙ ap (λ (ts : List SimpleType). arrows ts (type_at a to)) (sym (types-kept e types of)))

-- the type of functions in a bank that grew: b has it first
pub whole-later : {a b d : Contents} → Extends a b → Extends b d → (types : List ℕ) → AreTypesOf a types → (to whole : ℕ) → to < length a.types → IsType b whole (arrows (map (type_at a) types) (type_at a to)) → IsType d whole (arrows (map (type_at d) types) (type_at d to))
whole-later f g types of to whole l h =
    let z = extends-trans f g in
    let t = type-grow g whole _ h in
    record { within = t.within; reads = t.reads ∙ rw (types-kept z types of, type-kept z to l) refl }

-- a fresh function for a bank that grew
pub function-later : {a b d : Contents} → Extends a b → Extends b d → (types : List ℕ) → AreTypesOf a types → (n to t : ℕ) → to < length a.types → IsTerm d t to (fresh_function n (map (type_at b) types) (type_at b to)) → IsTerm d t to (fresh_function n (map (type_at a) types) (type_at a to))
function-later f g types of n to t l h = record { within = h.within; type_is = h.type_is; reads = h.reads ∙ rw (types-kept f types of, type-kept f to l) refl }

pub two-made : {a b d e : Contents} → Extends a b → Extends b d → Extends d e → (types : List ℕ) → AreTypesOf a types → (next after to ty first second : ℕ) → to < length a.types → after ≡ next + 1 → IsType b ty (arrows (map (type_at a) types) (type_at a to))
    → IsTerm d first to (fresh_function next (map (type_at b) types) (type_at b to)) → IsTerm e second to (fresh_function after (map (type_at d) types) (type_at d to)) → AreTwo e next (map (type_at a) types) to (type_at a to) (record { ty = ty; first = first; second = second })
two-made {a} {b} {d} {e} f g h types of next after to ty first second l is w m n = record {
  type = type-grow (extends-trans g h) ty _ w;
  first = term-kept h (function-later f g types of next to first l m);
  second = rw is at (function-later (extends-trans f g) h types of after to second l n);
}

-- the binding of two functions
pub two-bound : {a b d : Contents} → Extends a b → Extends b d → (types : List ℕ) → (next to : ℕ) → to < length a.types → (p : Two) → AreTwo b next (map (type_at a) types) to (type_at a to) p → (fresh : List ℕ) → fresh ≡ p.ty ∷ p.ty ∷ [] → AreTypesOf d fresh × (map (type_at d) fresh ≡ arrows (map (type_at a) types) (type_at a to) ∷ arrows (map (type_at a) types) (type_at a to) ∷ [])
two-bound f g types next to l p two fresh is =
    let t = type-grow g p.ty _ two.type in
    (rw is (t.within, (t.within, tt)), rw (is, t.reads) refl)

pub disjunction-made : {a b d : Contents} → Extends a b → Extends b d → (types : List ℕ) → (next i body : ℕ) → 0 < length a.types → (p : Two) → AreTwo b next (map (type_at a) types) 0 (type_at a 0) p → (fresh : List ℕ) → fresh ≡ p.ty ∷ p.ty ∷ [] → IsTerm d body i (logic disjunction (tree_at b p.first) (tree_at b p.second)) → IsBinding d (record { fresh = fresh; body = body }) (disjunction_binding next (map (type_at a) types))
disjunction-made {a} {b} {d} f g types next i body l p two fresh is m =
    let bank = old_bank f in
    let zero-is : type_at a 0 ≡ truth_type = truth-reads a bank in
    let all = two-bound f g types next 0 l p two fresh is in
    let body-is : tree_at d body ≡ logic disjunction (fresh_function next (map (type_at a) types) (type_at a 0)) (fresh_function (next + 1) (map (type_at a) types) (type_at a 0)) = m.reads ∙ rw (two.first.reads, two.second.reads) refl in
    record {
      fresh_of = all.0;
      body_within = m.within;
      reads = binding-same _ _ _ _ (all.1 ∙ rw zero-is refl) (body-is ∙ rw zero-is refl);
    }

pub equation-made : {a b d : Contents} → Extends a b → Extends b d → (types : List ℕ) → (next i ty body : ℕ) → ty < length a.types → (p : Two) → AreTwo b next (map (type_at a) types) ty (type_at a ty) p → (fresh : List ℕ) → fresh ≡ p.ty ∷ p.ty ∷ [] → IsTerm d body i (logic (equality (type_at b ty)) (tree_at b p.first) (tree_at b p.second)) → IsBinding d (record { fresh = fresh; body = body }) (equation_binding next (map (type_at a) types) (type_at a ty))
equation-made {a} {b} {d} f g types next i ty body l p two fresh is m =
    let all = two-bound f g types next ty l p two fresh is in
    record {
      fresh_of = all.0;
      body_within = m.within;
      reads = binding-same _ _ _ _ all.1 (m.reads ∙ rw (type-kept f ty l, two.first.reads, two.second.reads) refl);
    }

pub negation-made : {a b d e : Contents} → Extends a b → Extends b d → Extends d e → (types : List ℕ) → AreTypesOf a types → (next i to whole term body : ℕ) → to ≡ 0 → 0 < length a.types → IsType b whole (arrows (map (type_at a) types) (type_at a to)) → IsTerm d term to (fresh_function next (map (type_at b) types) (type_at b to)) → (fresh : List ℕ) → fresh ≡ whole ∷ [] → IsTerm e body i (logic negation (tree_at d term) absent) → IsBinding e (record { fresh = fresh; body = body }) (negation_binding next (map (type_at a) types))
negation-made {a} {b} {d} {e} f g h types of next i to whole term body is-zero l w m fresh is n =
    let bank = old_bank f in
    let to-is : type_at a to ≡ truth_type = ap (type_at a) is-zero ∙ truth-reads a bank in
    let t = type-grow (extends-trans g h) whole _ w in
    let term-is : tree_at d term ≡ fresh_function next (map (type_at a) types) (type_at a to) = (function-later f g types of next to term (rw is-zero l) m).reads in
    record {
      fresh_of = rw is (t.within, tt);
      body_within = n.within;
      reads = binding-same _ _ _ _ (rw (is, t.reads, to-is) refl) (n.reads ∙ rw (term-is, to-is) refl);
    }

-- the first four bindings
pub connectives-put : {a b c d e : Contents} → Extends a b → Extends b c → Extends c d → Extends d e → (types : List ℕ) → AreTypesOf a types → (next : ℕ) (s0 s1 s2 s3 s4 : List Bound) (yes no negation disjunction : Bound)
    → s1 ≡ s0 ++ yes ∷ [] → IsBinding b yes (truth_binding true) → s2 ≡ s1 ++ no ∷ [] → IsBinding c no (truth_binding false) → s3 ≡ s2 ++ negation ∷ [] → IsBinding d negation (negation_binding next (map (type_at c) types)) → s4 ≡ s3 ++ disjunction ∷ [] → IsBinding e disjunction (disjunction_binding next (map (type_at d) types))
    → AddsBindings a e s0 s4 (truth_binding true ∷ truth_binding false ∷ negation_binding next (map (type_at a) types) ∷ disjunction_binding next (map (type_at a) types) ∷ [])
connectives-put f g h k types of next s0 s1 s2 s3 s4 first second neg dis is1 m1 is2 m2 is3 m3 is4 m4 =
    let x3 = puts-as s2 s3 _ _ (puts-one h s2 s3 neg _ is3 m3) (ap (λ (ts : List SimpleType). negation_binding next ts ∷ []) (types-kept (extends-trans f g) types of)) in
    let x4 = puts-as s3 s4 _ _ (puts-one k s3 s4 dis _ is4 m4) (ap (λ (ts : List SimpleType). disjunction_binding next ts ∷ []) (types-kept (extends-trans f (extends-trans g h)) types of)) in
    puts-both s0 s1 s4 (truth_binding true ∷ []) _ (puts-one f s0 s1 first (truth_binding true) is1 m1) (puts-both s1 s2 s4 (truth_binding false ∷ []) _ (puts-one g s1 s2 second (truth_binding false) is2 m2) (puts-both s2 s3 s4 _ _ x3 x4))

-- an equation more
pub equations-next : {a b d : Contents} → Extends b d → (types sides : List ℕ) → AreTypesOf a types → AreTypesOf a sides → (next i side : ℕ) (old middle new : List Bound) (x : Bound) → i < length sides → side ≡ slice_index_or sides i side
    → AddsBindings a b old middle (map (equation_binding next (map (type_at a) types)) (map (type_at a) (take i sides))) → IsBinding d x (equation_binding next (map (type_at b) types) (type_at b side)) → new ≡ middle ++ x ∷ []
    → AddsBindings a d old new (map (equation_binding next (map (type_at a) types)) (map (type_at a) (take (i + 1) sides)))
equations-next {a} {b} {d} g types sides of sides-of next i side old middle new x l e h m is =
    let f = h.extends in
    let below = types-at a sides sides-of i side l e in
    let kept : equation_binding next (map (type_at b) types) (type_at b side) ≡ equation_binding next (map (type_at a) types) (type_at a side) =
    ap (λ (ts : List SimpleType). equation_binding next ts (type_at b side)) (types-kept f types of) ∙ ap (equation_binding next (map (type_at a) types)) (type-kept f side below) in
    let one = puts-as middle new _ _ (puts-one g middle new x _ is m) (ap (λ (k : Binding). k ∷ []) kept) in
    puts-as old new _ _ (puts-both old middle new _ _ h one) (sym (mapped-next (type_at a) (equation_binding next (map (type_at a) types)) sides i side l e))

-- all of them
pub bindings-made : {a b d : Contents} → Extends a b → (types : List ℕ) → AreTypesOf a types → (next : ℕ) (s0 s1 s2 : List Bound) (sides : List ℕ) → s0 ≡ []
    → AddsBindings a b s0 s1 (truth_binding true ∷ truth_binding false ∷ negation_binding next (map (type_at a) types) ∷ disjunction_binding next (map (type_at a) types) ∷ [])
    → sides ≡ firsts nat_eq [] types → AddsBindings b d s1 s2 (map (equation_binding next (map (type_at b) types)) (map (type_at b) sides)) → AreBindings d s2 (bindings next (map (type_at a) types))
bindings-made {a} {b} {d} f types of next s0 s1 s2 sides none h are g =
    let different = different-types a (old_bank f) types of in
    let sides-of : AreTypesOf a sides = rw are different.0 in
    let reads : map (type_at b) sides ≡ firsts same_type [] (map (type_at a) types) = types-kept f sides sides-of ∙ ap (map (type_at a)) are ∙ different.1 in
    let same : map (equation_binding next (map (type_at b) types)) (map (type_at b) sides) ≡ map (equation_binding next (map (type_at a) types)) (firsts same_type [] (map (type_at a) types)) =
    ap (λ (ts : List SimpleType). map (equation_binding next ts) (map (type_at b) sides)) (types-kept f types of) ∙ ap (map (equation_binding next (map (type_at a) types))) reads in
    (puts-both s0 s1 s2 _ _ h (puts-as s1 s2 _ _ g same)).adds [] (rw none (record { of_bank = tt; reads = refl }))

pub sides-of : {a b : Contents} → Extends a b → (types : List ℕ) → AreTypesOf a types → (sides : List ℕ) → sides ≡ firsts nat_eq [] types → AreTypesOf b sides
sides-of {a} f types of sides are = types-grow f sides (rw are (different-types a (old_bank f) types of).0)
