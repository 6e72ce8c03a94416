-- A type means one simple type, or it has one first word that offends.
use Rattle.std.proofs.Common.{◌≡◌, refl}
use Rattle.leo_q0.specs.Terms.{SimpleType, arrow}
use Rattle.leo_syntax.specs.declared.tree.TypeTree.{TypeTree}
use Rattle.leo_elab.specs.declared.refusal.ElabRefusal.{ElabRefusal}
use Rattle.leo_elab.specs.Problem.{Declared}
use Rattle.leo_elab.specs.Meaning.{MeansType, individuals, truth_values, declared_type, functions}
use Rattle.leo_elab.specs.Offences.{OffendsInType, type_of_types, unknown_type, constant_as_type, in_domain, in_range}
use Rattle.leo_elab.specs.Declaring.{DeclaresType}

arrows : {d : Declared} {from to x y : TypeTree} {a b c e : SimpleType} → from ≡ x → to ≡ y → MeansType d x c → MeansType d y e
    → ((z : SimpleType) → MeansType d from z → a ≡ z) → ((z : SimpleType) → MeansType d to z → b ≡ z) → arrow a b ≡ arrow c e
arrows {d} {from} {to} {x} {y} {a} {b} {c} {e} p q r s f g =
    let u : a ≡ c = f c (rw p r) in
    let v : b ≡ e = g e (rw q s) in
    rw (u, v) refl

pub one-type : {d : Declared} {ty : TypeTree} {a b : SimpleType} → MeansType d ty a → MeansType d ty b → a ≡ b
one-type (individuals e) (individuals f) = refl
one-type (truth_values e) (truth_values f) = refl
one-type (declared_type e g) (declared_type f h) = cc
one-type (functions e p q) (functions f r s) = arrows (cc) (cc) r s (λ z w. one-type p w) (λ z w. one-type q w)
one-type (individuals e) (truth_values f) = absurd cc
one-type (individuals e) (declared_type f h) = absurd cc
one-type (individuals e) (functions f r s) = absurd cc
one-type (truth_values e) (individuals f) = absurd cc
one-type (truth_values e) (declared_type f h) = absurd cc
one-type (truth_values e) (functions f r s) = absurd cc
one-type (declared_type e g) (individuals f) = absurd cc
one-type (declared_type e g) (truth_values f) = absurd cc
one-type (declared_type e g) (functions f r s) = absurd cc
one-type (functions e p q) (individuals f) = absurd cc
one-type (functions e p q) (truth_values f) = absurd cc
one-type (functions e p q) (declared_type f h) = absurd cc

split-domain : {d : Declared} {from x : TypeTree} {e : ElabRefusal} → x ≡ from → OffendsInType d x e → (OffendsInType d from e → ⊥) → ⊥
split-domain {d} {from} {x} {e} p o n = n (rw (← p) o)

-- a type that has a meaning does not offend
pub no-offence : {d : Declared} {ty : TypeTree} {a : SimpleType} {e : ElabRefusal} → MeansType d ty a → OffendsInType d ty e → ⊥
no-offence (individuals p) (type_of_types q) = absurd cc
no-offence (individuals p) (unknown_type q g h) = absurd cc
no-offence (individuals p) (constant_as_type q g h) = absurd cc
no-offence (individuals p) (in_domain q o) = absurd cc
no-offence (individuals p) (in_range q r o) = absurd cc
no-offence (truth_values p) (type_of_types q) = absurd cc
no-offence (truth_values p) (unknown_type q g h) = absurd cc
no-offence (truth_values p) (constant_as_type q g h) = absurd cc
no-offence (truth_values p) (in_domain q o) = absurd cc
no-offence (truth_values p) (in_range q r o) = absurd cc
no-offence (declared_type p f) (type_of_types q) = absurd cc
no-offence (declared_type p f) (unknown_type q g h) = absurd cc
no-offence (declared_type p f) (constant_as_type q g h) = absurd cc
no-offence (declared_type p f) (in_domain q o) = absurd cc
no-offence (declared_type p f) (in_range q r o) = absurd cc
no-offence (functions p f g) (type_of_types q) = absurd cc
no-offence (functions p f g) (unknown_type q h k) = absurd cc
no-offence (functions p f g) (constant_as_type q h k) = absurd cc
no-offence (functions p f g) (in_domain q o) = split-domain (cc) o (λ w. no-offence f w)
no-offence (functions p f g) (in_range q r o) = split-domain (cc) o (λ w. no-offence g w)

-- what declares a type has no meaning as a type
pub declares-no-meaning : {d : Declared} {ty : TypeTree} {a : SimpleType} → DeclaresType ty → MeansType d ty a → ⊥
declares-no-meaning h (individuals p) = absurd cc
declares-no-meaning h (truth_values p) = absurd cc
declares-no-meaning h (declared_type p f) = absurd cc
declares-no-meaning h (functions p f g) = absurd cc

same-offence : {d : Declared} {x y : TypeTree} {e f : ElabRefusal} → y ≡ x → OffendsInType d y f → (OffendsInType d x f → e ≡ f) → e ≡ f
same-offence {d} {x} {y} {e} {f} p o n = n (rw (← p) o)

same-type : {d : Declared} {x y : TypeTree} {a : SimpleType} → y ≡ x → MeansType d y a → MeansType d x a
same-type p m = rw (← p) m

-- a type has one first word that offends
pub one-offence : {d : Declared} {ty : TypeTree} {e f : ElabRefusal} → OffendsInType d ty e → OffendsInType d ty f → e ≡ f
one-offence (type_of_types p) (type_of_types q) = refl
one-offence (type_of_types p) (unknown_type q g h) = absurd cc
one-offence (type_of_types p) (constant_as_type q g h) = absurd cc
one-offence (type_of_types p) (in_domain q o) = absurd cc
one-offence (type_of_types p) (in_range q r o) = absurd cc
one-offence (unknown_type p a b) (type_of_types q) = absurd cc
one-offence (unknown_type p a b) (unknown_type q g h) = refl
one-offence (unknown_type p a b) (constant_as_type q g h) = absurd cc
one-offence (unknown_type p a b) (in_domain q o) = absurd cc
one-offence (unknown_type p a b) (in_range q r o) = absurd cc
one-offence (constant_as_type p a b) (type_of_types q) = absurd cc
one-offence (constant_as_type p a b) (unknown_type q g h) = absurd cc
one-offence (constant_as_type p a b) (constant_as_type q g h) = refl
one-offence (constant_as_type p a b) (in_domain q o) = absurd cc
one-offence (constant_as_type p a b) (in_range q r o) = absurd cc
one-offence (in_domain p n) (type_of_types q) = absurd cc
one-offence (in_domain p n) (unknown_type q g h) = absurd cc
one-offence (in_domain p n) (constant_as_type q g h) = absurd cc
one-offence (in_domain p n) (in_domain q o) = same-offence (cc) o (λ w. one-offence n w)
one-offence (in_domain p n) (in_range q r o) = absurd (no-offence (same-type (cc) r) n)
one-offence (in_range p m n) (type_of_types q) = absurd cc
one-offence (in_range p m n) (unknown_type q g h) = absurd cc
one-offence (in_range p m n) (constant_as_type q g h) = absurd cc
one-offence (in_range p m n) (in_domain q o) = absurd (no-offence (same-type (cc) m) o)
one-offence (in_range p m n) (in_range q r o) = same-offence (cc) o (λ w. one-offence n w)
