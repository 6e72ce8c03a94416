-- Terms of a bank that stand for terms of Q0: that they stay so as the bank grows, and how they are made.
use Rattle.std.proofs.lemmas.Bool.Decides.{nat_tests}
use Rattle.std.proofs.Common.{eqb, not, Bool, true, false, ℕ, zero, suc, ◌+◌, ◌≡◌, ◌<◌, [], ◌∷◌, ◌++◌, List, length, slice_get, Some, None, refl, ap, sym, ◌∙◌, arith, add-one}
use Rattle.leo_q0.proofs.Variables.{same_type-refl, equal_types}
use Rattle.leo_q0.specs.Terms.{SimpleType, base, arrow, truth, same_type, Term, variable, identity, choice, apply, lambda}
use Rattle.leo_q0.specs.Connectives.{equation, apply_two, true_term, false_term, not_term, or_term, and_term, imp_term, all_term, some_term}
use Rattle.leo_syntax.specs.declared.tree.Binder.{Binder}
use Rattle.leo_syntax.specs.declared.tree.Binder.TheVariants as binder
use Rattle.leo_terms.specs.declared.node.Op.{Op}
use Rattle.leo_terms.specs.declared.node.Op.TheVariants as op
use Rattle.leo_terms.specs.declared.node.TyView.TheVariants.{Base}
use Rattle.leo_terms.specs.Tree as tree
use Rattle.leo_terms.specs.Tree.{Tree, IsBoundAt}
use Rattle.leo_terms.specs.Contents.{Contents, IsBank, Extends, IsTerm, IsArrow, connective, codomain_number, operator_type, HasTypeBelow, type_at, tree_at, type_number}
use Rattle.leo_terms.specs.Decode.{decoded, named}
use Rattle.leo_terms.proofs.CallerLemmas.{sound, old_bank, new_bank, tree-kept, type_number-kept, type-kept, type_number-within, type-shared, reads-base, reads-arrow, arrow-parts, applicable}
use Rattle.leo_elab.specs.declared.quantifiers.Quantifier.{Quantifier}
use Rattle.leo_elab.specs.Signs.{quantified, quantified_type, IsBodyOf, applied, element}
use Rattle.leo_elab.specs.Standing.{IsScoped, Stands}
use Rattle.leo_elab.specs.Places.{IsFormulaIn, AppliesTo, QuantifiesOver, TakesFormulas, both, IsBodyIn}

pub same_type-differs : (a b : SimpleType) → (a ≡ b → ⊥) → same_type a b ≡ false
same_type-differs a b n = by (same_type a b) refl
  where
    by : (t : Bool) → same_type a b ≡ t → same_type a b ≡ false
    by true e = absurd (n (equal_types a b e))
    by false e = e

-- the type of truth values
pub truth-is : {c : Contents} → IsBank c → type_at c 0 ≡ truth
truth-is {c} b = reads-base b 0 0 (sound c b).truth_first

pub thing-is : {c : Contents} → IsBank c → type_at c 1 ≡ base 1
thing-is {c} b = reads-base b 1 1 (sound c b).thing_second

-- what stands for a term still does once the bank grew
pub stands-kept : {c d : Contents} {s : List SimpleType} {t : ℕ} {m : Term} {a : SimpleType} → Extends c d → Stands c s t m a → Stands d s t m a
stands-kept {c} {d} {s} {t} {m} {a} e h =
    let w = h.within in
    let more = e.terms_more in
    let k : tree_at d t ≡ tree_at c t = tree-kept e t w in
    let n : type_number d t ≡ type_number c t = type_number-kept e t w in
    let i : type_at d (type_number c t) ≡ type_at c (type_number c t) = type-kept e (type_number c t) (type_number-within (old_bank e) t w) in
    record { within = omega arith; decodes = rw k h.decodes; typed = rw (n, i) h.typed; scoped = rw k h.scoped }

-- a term that was made stands for what its tree decodes to
pub stands-made : {c : Contents} {s : List SimpleType} {t i : ℕ} {x : Tree} {m : Term} {a : SimpleType} → IsTerm c t i x → decoded (length s) x ≡ m → type_at c i ≡ a → IsScoped s x → Stands c s t m a
stands-made h e f g = record { within = h.within; decodes = rw h.reads e; typed = rw h.type_is f; scoped = rw h.reads g }

-- a term of the type of truth values is a formula, and terms of one type have one number of it
pub formula-of : {c : Contents} {s : List SimpleType} {t : ℕ} {m : Term} → IsBank c → Stands c s t m truth → IsFormulaIn c t
formula-of {c} {s} {t} {m} b h =
    let two = b.base_types in
    record { within = h.within; formula = type-shared b (type_number c t) 0 (type_number-within b t h.within) (omega arith) (h.typed ∙ sym (truth-is b)) }

pub formula-type : {c : Contents} {s : List SimpleType} {t : ℕ} {m : Term} {a : SimpleType} → IsBank c → IsFormulaIn c t → Stands c s t m a → a ≡ truth
formula-type {c} b f h = sym h.typed ∙ ap (type_at c) f.formula ∙ truth-is b

pub formula-kept : {c d : Contents} {t : ℕ} → Extends c d → IsFormulaIn c t → IsFormulaIn d t
formula-kept {c} {d} {t} e h = let more = e.terms_more in let w = h.within in record { within = omega arith; formula = type_number-kept e t w ∙ h.formula }

pub number-of-type : {c : Contents} {s : List SimpleType} {t u : ℕ} {m n : Term} {a b : SimpleType} → type_number c t ≡ type_number c u → Stands c s t m a → Stands c s u n b → a ≡ b
number-of-type {c} e h k = sym h.typed ∙ ap (type_at c) e ∙ k.typed

-- ---- signs

pub true-made : {c d : Contents} {t : ℕ} → Extends c d → IsTerm d t 0 (tree.logic tree.truth tree.absent tree.absent) → (s : List SimpleType) → Stands d s t true_term truth
true-made e h s = stands-made h refl (truth-is (new_bank e)) (tt, tt)

pub false-made : {c d : Contents} {t : ℕ} → Extends c d → IsTerm d t 0 (tree.logic tree.falsity tree.absent tree.absent) → (s : List SimpleType) → Stands d s t false_term truth
false-made e h s = stands-made h refl (truth-is (new_bank e)) (tt, tt)

pub not-made : {c d : Contents} {t r : ℕ} → Extends c d → IsTerm d r 0 (tree.logic tree.negation (tree_at c t) tree.absent) → (s : List SimpleType) (m : Term) → Stands c s t m truth → Stands d s r (apply not_term m) truth
not-made e h s m k = stands-made h (ap (apply not_term) k.decodes) (truth-is (new_bank e)) (k.scoped, tt)

two-decoded : (f : Term) {m n x y : Term} → x ≡ m → y ≡ n → apply_two f x y ≡ apply_two f m n
two-decoded f e g = rw (e, g) refl

pub both-made : {c d : Contents} {t u r : ℕ} → Extends c d → (o : Op) → TakesFormulas o → IsTerm d r (operator_type o) (tree.logic (connective c o) (tree_at c t) (tree_at c u))
    → (s : List SimpleType) (m n : Term) → Stands c s t m truth → Stands c s u n truth → Stands d s r (both o m n) truth
both-made e op.Or k h s m n x y = stands-made h (two-decoded or_term x.decodes y.decodes) (truth-is (new_bank e)) (x.scoped, y.scoped)
both-made e op.And k h s m n x y = stands-made h (two-decoded and_term x.decodes y.decodes) (truth-is (new_bank e)) (x.scoped, y.scoped)
both-made e op.Imp k h s m n x y = stands-made h (two-decoded imp_term x.decodes y.decodes) (truth-is (new_bank e)) (x.scoped, y.scoped)
both-made {c} e (op.Eq a) k h s m n x y =
    let i : type_at c a ≡ truth = ap (type_at c) k ∙ truth-is (old_bank e) in
    stands-made h (rw i (two-decoded (identity truth) x.decodes y.decodes)) (truth-is (new_bank e)) (x.scoped, y.scoped)
both-made e op.True k h s m n x y = absurd k
both-made e op.False k h s m n x y = absurd k
both-made e op.Not k h s m n x y = absurd k
both-made e (op.All a) k h s m n x y = absurd k
both-made e (op.Some a) k h s m n x y = absurd k
both-made e (op.Eps a) k h s m n x y = absurd k

pub equation-made : {c d : Contents} {t u r : ℕ} → Extends c d → IsTerm d r 0 (tree.logic (tree.equality (type_at c (type_number c t))) (tree_at c t) (tree_at c u))
    → (s : List SimpleType) (m n : Term) (a : SimpleType) → Stands c s t m a → Stands c s u n a → Stands d s r (equation a m n) truth
equation-made e h s m n a x y = stands-made h (rw x.typed (two-decoded (identity a) x.decodes y.decodes)) (truth-is (new_bank e)) (x.scoped, y.scoped)

-- ---- quantifiers and binders

pub all-made : {c d : Contents} {set r : ℕ} (el : ℕ) → Extends c d → IsTerm d r 0 (tree.logic (tree.universal (type_at c el)) (tree_at c set) tree.absent)
    → (s : List SimpleType) (p : Term) (a : SimpleType) → a ≡ type_at c el → Stands c s set p (arrow a truth) → Stands d s r (apply (all_term a) p) truth
all-made el e h s p a i x = stands-made h (rw (← i) (ap (apply (all_term a)) x.decodes)) (truth-is (new_bank e)) (x.scoped, tt)

pub some-made : {c d : Contents} {set r : ℕ} (el : ℕ) → Extends c d → IsTerm d r 0 (tree.logic (tree.existential (type_at c el)) (tree_at c set) tree.absent)
    → (s : List SimpleType) (p : Term) (a : SimpleType) → a ≡ type_at c el → Stands c s set p (arrow a truth) → Stands d s r (apply (some_term a) p) truth
some-made el e h s p a i x = stands-made h (rw (← i) (ap (apply (some_term a)) x.decodes)) (truth-is (new_bank e)) (x.scoped, tt)

pub choice-made : {c d : Contents} {set el r : ℕ} → Extends c d → el < length c.types → IsTerm d r el (tree.logic (tree.choice (type_at c el)) (tree_at c set) tree.absent)
    → (s : List SimpleType) (p : Term) (a : SimpleType) → a ≡ type_at c el → Stands c s set p (arrow a truth) → Stands d s r (apply (choice a) p) a
choice-made {c} {d} {set} {el} e l h s p a i x = stands-made h (rw (← i) (ap (apply (choice a)) x.decodes)) (type-kept e el l ∙ sym i) (x.scoped, tt)

pub lambda-made : {c d : Contents} {ty body r : ℕ} → Extends c d → ty < length c.types → IsTerm d r (type_number d r) (tree.lam (type_at c ty) (tree_at c body)) → IsArrow d (type_number d r) ty (type_number c body)
    → (s : List SimpleType) (m : Term) (a b : SimpleType) → a ≡ type_at c ty → Stands c (a ∷ s) body m b → Stands d s r (lambda (named (length s) a) m) (arrow a b)
lambda-made {c} {d} {ty} {body} {r} e l h k s m a b i x =
    let n : type_at d (type_number d r) ≡ arrow (type_at d ty) (type_at d (type_number c body)) = reads-arrow (new_bank e) k in
    let p : type_at d ty ≡ type_at c ty = type-kept e ty l in
    let q : type_at d (type_number c body) ≡ type_at c (type_number c body) = type-kept e (type_number c body) (type_number-within (old_bank e) body x.within) in
    let o : decoded (length s + 1) (tree_at c body) ≡ m = rw (add-one (length s)) x.decodes in
    stands-made h (rw (← i) (ap (lambda (named (length s) a)) o)) (n ∙ rw (p, q, x.typed, ← i) refl) (rw (← i) x.scoped)

-- ---- indices

bound-in : (before : List SimpleType) (a : SimpleType) (s : List SimpleType) (i : ℕ) (b : SimpleType) → slice_get (before ++ a ∷ s) i ≡ Some b → i ≡ length before → b ≡ a
bound-in [] a s zero b h e = cc
bound-in [] a s (suc i) b h e = absurd cc
bound-in (x ∷ before) a s zero b h e = absurd cc
bound-in (x ∷ before) a s (suc i) b h e = bound-in before a s i b h cc

scoped-under : (before : List SimpleType) (a : SimpleType) (s : List SimpleType) (t : Tree) → IsScoped (before ++ a ∷ s) t → IsBoundAt (length before) a t
scoped-under before a s (tree.variable n b) h = tt
scoped-under before a s (tree.bound i b) h = bound-in before a s i b h
scoped-under before a s (tree.symbol n b) h = tt
scoped-under before a s (tree.app f x) h = (scoped-under before a s f h.0, scoped-under before a s x h.1)
scoped-under before a s (tree.lam b t) h = rw (add-one (length before)) (scoped-under (b ∷ before) a s t h)
scoped-under before a s (tree.logic c x y) h = (scoped-under before a s x h.0, scoped-under before a s y h.1)
scoped-under before a s tree.absent h = tt

-- the innermost index has the type of the innermost variable
pub stands-bound : {c : Contents} {t : ℕ} {m : Term} {a b : SimpleType} {s : List SimpleType} → Stands c (a ∷ s) t m b → IsBoundAt 0 a (tree_at c t)
stands-bound {c} {t} {m} {a} {b} {s} h = scoped-under [] a s (tree_at c t) h.scoped

-- an index stands for the variable that it leads to
pub index-made : {c d : Contents} {t i ty : ℕ} → Extends c d → ty < length c.types → IsTerm d t ty (tree.bound i (type_at c ty))
    → (s : List SimpleType) (n : ℕ) (a : SimpleType) → a ≡ type_at c ty → slice_get s i ≡ Some a → i + (n + 1) ≡ length s → Stands d s t (variable (named n a)) a
index-made {c} {d} {t} {i} {ty} e l h s n a j g k =
    let m : length s ≡ i + (n + 1) = sym k in
    stands-made h (rw (← j) (ap (λ (x : ℕ). variable (named x a)) (omega arith))) (type-kept e ty l ∙ sym j) (rw (← j) g)

-- ---- what is asked where terms are made

-- a logical constant of two formulas has a type that stands in the bank
pub type-below : {c : Contents} → IsBank c → (o : Op) → TakesFormulas o → HasTypeBelow (length c.types) o
type-below b op.Or k = tt
type-below b op.And k = tt
type-below b op.Imp k = tt
type-below b (op.Eq a) k = let two = b.base_types in rw k (omega arith)
type-below b op.True k = tt
type-below b op.False k = tt
type-below b op.Not k = tt
type-below b (op.All a) k = absurd k
type-below b (op.Some a) k = absurd k
type-below b (op.Eps a) k = absurd k

-- a function applied to an argument, where the type is that of the argument
pub applied-here : {c : Contents} (f x : ℕ) {from to : ℕ} → IsBank c → IsArrow c (type_number c f) from to → type_number c x ≡ from
    → applied (type_at c (type_number c f)) (type_at c (type_number c x)) ≡ Some (type_at c to)
applied-here {c} f x {from} {to} b h e = rw (reads-arrow b h, e, same_type-refl (type_at c from)) refl

pub applied-other : {c : Contents} (f x : ℕ) {from to : ℕ} → IsBank c → IsArrow c (type_number c f) from to → x < length c.terms → (type_number c x ≡ from → ⊥)
    → applied (type_at c (type_number c f)) (type_at c (type_number c x)) ≡ None
applied-other {c} f x {from} {to} b h l n =
    let w = arrow-parts b h in
    let v = w.1 in
    let u = w.0 in
    let d : same_type (type_at c from) (type_at c (type_number c x)) ≡ false =
    same_type-differs (type_at c from) (type_at c (type_number c x)) (λ (e : type_at c from ≡ type_at c (type_number c x)). n (type-shared b (type_number c x) from (type_number-within b x l) (omega arith) (sym e))) in
    rw (reads-arrow b h, d) refl

pub applied-base : {c : Contents} (f n : ℕ) → IsBank c → (a : SimpleType) → slice_get c.types (type_number c f) ≡ Some (Base n) → applied (type_at c (type_number c f)) a ≡ None
applied-base {c} f n b a h = rw (reads-base b (type_number c f) n h) refl

pub element-here : {c : Contents} {i from : ℕ} → IsBank c → IsArrow c i from 0 → element (type_at c i) ≡ Some (type_at c from)
element-here {c} {i} {from} b h = rw (reads-arrow b h, truth-is b) refl

pub element-other : {c : Contents} {i from to : ℕ} → IsBank c → IsArrow c i from to → (to ≡ 0 → ⊥) → element (type_at c i) ≡ None
element-other {c} {i} {from} {to} b h n =
    let w = arrow-parts b h in
    let v = w.2 in
    let u = w.0 in
    let two = b.base_types in
    let d : same_type (type_at c to) truth ≡ false =
    same_type-differs (type_at c to) truth (λ (e : type_at c to ≡ truth). n (type-shared b to 0 (omega arith) (omega arith) (e ∙ sym (truth-is b)))) in
    rw (reads-arrow b h, d) refl

pub element-base : {c : Contents} (i n : ℕ) → IsBank c → slice_get c.types i ≡ Some (Base n) → element (type_at c i) ≡ None
element-base {c} i n b h = rw (reads-base b i n h) refl

-- a function applied to an argument that fits
pub applied-made : {c d : Contents} {f x r from to : ℕ} → Extends c d → IsArrow c (type_number c f) from to → type_number c x ≡ from
    → IsTerm d r (codomain_number c (type_number c f)) (tree.app (tree_at c f) (tree_at c x))
    → (s : List SimpleType) (m n : Term) (a b : SimpleType) → Stands c s f m a → Stands c s x n b → AppliesTo d s m n a b r
applied-made {c} {d} {f} {x} {r} {from} {to} e h i k s m n a b u v =
    let o = old_bank e in
    let w = arrow-parts o h in
    let q : IsTerm c f (type_number c f) (tree_at c f) = record { within = u.within; type_is = refl; reads = refl } in
    let q2 : IsTerm c x from (tree_at c x) = record { within = v.within; type_is = i; reads = refl } in
    let j : codomain_number c (type_number c f) ≡ to = (applicable q q2 h).1 in
    let p : type_at d to ≡ type_at c to = type-kept e to (let y = w.0 in let z = w.2 in omega arith) in
    record {
      type = type_at c to;
      fits = rw (← u.typed, ← v.typed) (applied-here f x o h i);
      stands = stands-made k (rw (u.decodes, v.decodes) refl) (rw j p) (u.scoped, v.scoped);
    }

pub bank-grown : {c d : Contents} → Extends c d → IsBank d
bank-grown e = new_bank e

operator-formula : (o : Op) → TakesFormulas o → operator_type o ≡ 0
operator-formula op.Or k = refl
operator-formula op.And k = refl
operator-formula op.Imp k = refl
operator-formula (op.Eq a) k = refl
operator-formula op.True k = refl
operator-formula op.False k = refl
operator-formula op.Not k = refl
operator-formula (op.All a) k = refl
operator-formula (op.Some a) k = refl
operator-formula (op.Eps a) k = absurd k

pub both-formula : {d : Contents} {r : ℕ} {x : Tree} (o : Op) → TakesFormulas o → IsTerm d r (operator_type o) x → IsFormulaIn d r
both-formula o k h = record { within = h.within; formula = h.type_is ∙ operator-formula o k }

-- which bodies a binder takes
pub takes-yes : (c : Contents) (t : ℕ) (b : Binder) → type_number c t ≡ 0 → IsBodyIn c b t
takes-yes c t binder.ForAll e = e
takes-yes c t binder.Exists e = e
takes-yes c t binder.Lambda e = tt
takes-yes c t binder.Choice e = e

pub takes-no : (b : Binder) (a : SimpleType) → (b ≡ binder.Lambda → ⊥) → (a ≡ truth → ⊥) → IsBodyOf b a → ⊥
takes-no binder.ForAll a l n h = n h
takes-no binder.Exists a l n h = n h
takes-no binder.Lambda a l n h = l refl
takes-no binder.Choice a l n h = n h

pub takes-body : {c : Contents} {t : ℕ} {s : List SimpleType} {m : Term} {a : SimpleType} (b : Binder) → IsBank c → IsBodyIn c b t → Stands c s t m a → IsBodyOf b a
takes-body binder.ForAll k e h = formula-type k (record { within = h.within; formula = e }) h
takes-body binder.Exists k e h = formula-type k (record { within = h.within; formula = e }) h
takes-body binder.Lambda k e h = tt
takes-body binder.Choice k e h = formula-type k (record { within = h.within; formula = e }) h

-- a number other than that of the truth values is another type
pub not-truth : {c : Contents} (t : ℕ) → IsBank c → t < length c.terms → (type_number c t ≡ 0 → ⊥) → type_at c (type_number c t) ≡ truth → ⊥
not-truth {c} t b l n e = let two = b.base_types in n (type-shared b (type_number c t) 0 (type_number-within b t l) (omega arith) (e ∙ sym (truth-is b)))

pub types-differ : {c : Contents} (t u : ℕ) → IsBank c → t < length c.terms → u < length c.terms → (type_number c t ≡ type_number c u → ⊥) → type_at c (type_number c t) ≡ type_at c (type_number c u) → ⊥
types-differ {c} t u b l k n e = n (type-shared b (type_number c t) (type_number c u) (type_number-within b t l) (type_number-within b u k) e)

-- a lambda under a quantifier, for a binder that takes formulas
pub under-made : {b c d : Contents} {body f r : ℕ} (q : Quantifier) (ty : ℕ) → Extends b c → ty < length b.types → type_number b body ≡ 0 →
    ((s : List SimpleType) (m : Term) (a e : SimpleType) → a ≡ type_at b ty → Stands b (a ∷ s) body m e → Stands c s f (lambda (named (length s) a) m) (arrow a e)) →
    ((s : List SimpleType) (p : Term) (a : SimpleType) → a ≡ type_at c ty → Stands c s f p (arrow a truth) → Stands d s r (quantified q a p) (quantified_type q a)) →
    (s : List SimpleType) (m : Term) (a e : SimpleType) → a ≡ type_at b ty → Stands b (a ∷ s) body m e → Stands d s r (quantified q a (lambda (named (length s) a) m)) (quantified_type q a)
under-made {b} {c} {d} {body} {f} q ty x l n make over s m a e i h =
    let t : e ≡ truth = formula-type (old_bank x) (record { within = h.within; formula = n }) h in
    let j : a ≡ type_at c ty = i ∙ sym (type-kept x ty l) in
    let k : Stands c s f (lambda (named (length s) a) m) (arrow a e) = make s m a e i h in
    over s (lambda (named (length s) a) m) a j (rw t at k)

pub applicable-here : {c : Contents} (f x : ℕ) {from to : ℕ} → IsBank c → f < length c.terms → x < length c.terms → IsArrow c (type_number c f) from to → type_number c x ≡ from
    → IsArrow c (type_number c f) (type_number c x) (codomain_number c (type_number c f))
applicable-here {c} f x {from} {to} b l k h i =
    let q : IsTerm c f (type_number c f) (tree_at c f) = record { within = l; type_is = refl; reads = refl } in
    let q2 : IsTerm c x from (tree_at c x) = record { within = k; type_is = i; reads = refl } in
    (applicable q q2 h).0

-- what a test of numbers says
pub same-true : (m n : ℕ) → eqb m n ≡ true → m ≡ n
same-true m n e = grind (arith, nat_tests)

pub same-false : (m n : ℕ) → eqb m n ≡ false → m ≡ n → ⊥
same-false m n e k = absurd (grind (arith, nat_tests))

pub not-false : (b : Bool) → false ≡ not b → b ≡ true
not-false true e = refl
not-false false e = e

pub not-true : (b : Bool) → true ≡ not b → b ≡ false
not-true false e = refl
not-true true e = e

-- the type of a variable of the type of truth values
pub truth-type : {c : Contents} (ty : ℕ) → IsBank c → ty ≡ 0 → truth ≡ type_at c ty
truth-type {c} ty b e = sym (ap (type_at c) e ∙ truth-is b)

pub bound-truth : {c : Contents} {t : ℕ} {m : Term} {b : SimpleType} {s : List SimpleType} (ty : ℕ) → IsBank c → ty ≡ 0 → Stands c (truth ∷ s) t m b → IsBoundAt 0 (type_at c ty) (tree_at c t)
bound-truth ty b e h = rw (← truth-type ty b e) (stands-bound h)

-- a quantifier over what is a set
pub quantified-made : {b d : Contents} {set r : ℕ} (q : Quantifier) (el : ℕ) → IsBank b → IsArrow b (type_number b set) el 0 →
    ((s : List SimpleType) (p : Term) (a : SimpleType) → a ≡ type_at b el → Stands b s set p (arrow a truth) → Stands d s r (quantified q a p) (quantified_type q a)) →
    (s : List SimpleType) (p : Term) (c : SimpleType) → Stands b s set p c → QuantifiesOver d q s p c r
quantified-made {b} {d} {set} {r} q el k i over s p c h =
    let t : type_at b (type_number b set) ≡ arrow (type_at b el) truth = reads-arrow k i ∙ ap (arrow (type_at b el)) (truth-is k) in
    let u : c ≡ arrow (type_at b el) truth = sym h.typed ∙ t in
    record { type = type_at b el; fits = rw (← h.typed) (element-here k i); stands = over s p (type_at b el) refl (rw u at h) }
