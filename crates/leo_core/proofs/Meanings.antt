-- What formulas mean has the base types and the symbols of the atoms alone.
use Rattle.std.proofs.Common.{ℕ, zero, suc, ◌≡◌, Bool, true, false, List, [], ◌∷◌, slice_get, Some, None, refl, subst}
use Rattle.std.specs.Prelude.{if◌then◌else◌}
use Rattle.std.specs.Str.{bytes_eq}
use Rattle.leo_q0.specs.Terms.{SimpleType, base, arrow, truth, same_type, Variable as Q0Variable, Term, variable, constant, identity, choice, apply, lambda}
use Rattle.leo_q0.specs.Connectives.{true_term, false_term, not_term, or_term, and_term, imp_term, all_term, some_term}
use Rattle.leo_syntax.specs.declared.tree.Binder.{Binder}
use Rattle.leo_syntax.specs.declared.tree.Binder.TheVariants as binder
use Rattle.leo_syntax.specs.declared.tree.Connective.{Connective}
use Rattle.leo_syntax.specs.declared.tree.Connective.TheVariants.{Or, And, Implies, ImpliedBy, Iff, Xor, Nor, Nand}
use Rattle.leo_syntax.specs.declared.tree.Sign.{Sign}
use Rattle.leo_syntax.specs.declared.tree.Sign.TheVariants.{Equal, NotEqual}
use Rattle.leo_syntax.specs.declared.tree.Variable.{Variable}
use Rattle.leo_syntax.specs.declared.tree.Tree.{Tree}
use Rattle.leo_syntax.specs.declared.tree.TypeTree.{TypeTree}
use Rattle.leo_elab.specs.declared.quantifiers.Quantifier.{Quantifier}
use Rattle.leo_elab.specs.declared.quantifiers.Quantifier.TheVariants as quantifier
use Rattle.leo_elab.specs.Problem.{Declared, Constant, Scope, named, outside, bound_to}
use Rattle.leo_elab.specs.Signs.{joined, equated, bound, bound_type, quantified, quantified_type, applied, element}
use Rattle.leo_elab.specs.Meaning.{MeansType, individuals, truth_values, declared_type, functions, Means, atom, bound_variable, true_sign, false_sign, application, quantification, binding, negation, joining, equating, negation_sign, connective_sign, Applies, no_more, one_more, Binds, body, variable_of}
use Rattle.leo_elab.specs.Typings.{AreConstants, AreDeclared}
use Rattle.leo_elab.specs.Typings as typings
use Rattle.leo_clausify.specs.Origins.{Origin, IsTypeFrom}
use Rattle.leo_core.specs.Naming.{IsVocabulary}

-- each base type and each constant of the term is one of these
abbrev pub IsMeaningFrom : Origin → Term → Type 0
IsMeaningFrom o (variable v) = IsTypeFrom o v.type
IsMeaningFrom o (constant n a) = (o.has_symbol n ≡ true) × IsTypeFrom o a
IsMeaningFrom o (identity a) = IsTypeFrom o a
IsMeaningFrom o (choice a) = IsTypeFrom o a
IsMeaningFrom o (apply f t) = IsMeaningFrom o f × IsMeaningFrom o t
IsMeaningFrom o (lambda v t) = IsTypeFrom o v.type × IsMeaningFrom o t

-- what a name stands for
named-from : {A : Type 0} (P : A → Type 0) (name : List ℕ) (ps : List (List ℕ × A)) (a : A) → ((n : ℕ) (p : List ℕ × A) → slice_get ps n ≡ Some p → P p.1) → named name ps ≡ Some a → P a
named-from P name [] a f e = absurd cc
named-from {A} P name (p ∷ ps) a f e = by (bytes_eq name p.0) (f zero p refl) (λ g. named-from P name ps a (λ n q h. f (suc n) q h) g) e
  where
    by : (b : Bool) → P p.1 → (named name ps ≡ Some a → P a) → (if b then Some p.1 else named name ps) ≡ Some a → P a
    by true x g e = (let h : p.1 ≡ a = cc in subst P h x)
    by false x g e = g e

module _ (o : Origin) where
  abbrev IsScopeFrom : Scope → Type 0
  IsScopeFrom [] = Unit {0}
  IsScopeFrom (v ∷ scope) = IsTypeFrom o v.1 × IsScopeFrom scope

  bound-from : (name : List ℕ) (scope : Scope) (w : Q0Variable) → IsScopeFrom scope → bound_to name scope ≡ Some w → IsTypeFrom o w.type
  bound-from name [] w h e = absurd cc
  bound-from name (v ∷ scope) w h e = by (bytes_eq name v.0) (λ g. bound-from name scope w h.1 g) e
    where
      by : (b : Bool) → (bound_to name scope ≡ Some w → IsTypeFrom o w.type) → (if b then Some (outside scope v.1) else bound_to name scope) ≡ Some w → IsTypeFrom o w.type
      by true g e = (let f : outside scope v.1 ≡ w = cc in subst (λ (u : Q0Variable). IsTypeFrom o u.type) f h.0)
      by false g e = g e

  element-from : (c a : SimpleType) → element c ≡ Some a → IsTypeFrom o c → IsTypeFrom o a
  element-from (base n) a e h = absurd cc
  element-from (arrow b c) a e h = by (same_type c truth) e
    where
      by : (t : Bool) → (if t then Some b else None) ≡ Some a → IsTypeFrom o a
      by true e = (let f : b ≡ a = cc in subst (IsTypeFrom o) f h.0)
      by false e = absurd cc

  applied-from : (a b c : SimpleType) → applied a b ≡ Some c → IsTypeFrom o a → IsTypeFrom o c
  applied-from (base n) b c e h = absurd cc
  applied-from (arrow x y) b c e h = by (same_type x b) e
    where
      by : (t : Bool) → (if t then Some y else None) ≡ Some c → IsTypeFrom o c
      by true e = (let f : y ≡ c = cc in subst (IsTypeFrom o) f h.1)
      by false e = absurd cc

  module _ (z : o.has_base 0 ≡ true) where
    from-true : IsMeaningFrom o true_term
    from-true = (((z, (z, z)), z), z)

    from-false : IsMeaningFrom o false_term
    from-false = (((z, z), (z, from-true)), (z, z))

    pub from-not : IsMeaningFrom o not_term
    from-not = (z, from-false)

    from-all : (a : SimpleType) → IsTypeFrom o a → IsMeaningFrom o (all_term a)
    from-all a h = ((h, z), (h, from-true))

    from-and : IsMeaningFrom o and_term
    from-and = (z, (z, ((((z, (z, z)), z), ((z, (z, z)), (((z, (z, z)), from-true), from-true))), ((z, (z, z)), (((z, (z, z)), z), z)))))

    from-imp : IsMeaningFrom o imp_term
    from-imp = (z, (z, ((z, z), ((from-and, z), z))))

    from-or : IsMeaningFrom o or_term
    from-or = (z, (z, (from-not, ((from-and, (from-not, z)), (from-not, z)))))

    from-some : (a : SimpleType) → IsTypeFrom o a → IsMeaningFrom o (some_term a)
    from-some a h = ((h, z), (from-not, (from-all a h, (h, (from-not, ((h, z), h))))))

    joined-from : (c : Connective) (t u : Term) → IsMeaningFrom o t → IsMeaningFrom o u → IsMeaningFrom o (joined c t u)
    joined-from Or t u h g = ((from-or, h), g)
    joined-from And t u h g = ((from-and, h), g)
    joined-from Implies t u h g = ((from-imp, h), g)
    joined-from ImpliedBy t u h g = ((from-imp, g), h)
    joined-from Iff t u h g = ((z, h), g)
    joined-from Xor t u h g = (from-not, ((z, h), g))
    joined-from Nor t u h g = (from-not, ((from-or, h), g))
    joined-from Nand t u h g = (from-not, ((from-and, h), g))

    equated-from : (sign : Sign) (a : SimpleType) (t u : Term) → IsTypeFrom o a → IsMeaningFrom o t → IsMeaningFrom o u → IsMeaningFrom o (equated sign a t u)
    equated-from Equal a t u k h g = ((k, h), g)
    equated-from NotEqual a t u k h g = (from-not, ((k, h), g))

    quantified-from : (q : Quantifier) (a : SimpleType) (p : Term) → IsTypeFrom o a → IsMeaningFrom o p → IsMeaningFrom o (quantified q a p)
    quantified-from quantifier.Pi a p k h = (from-all a k, h)
    quantified-from quantifier.Sigma a p k h = (from-some a k, h)
    quantified-from quantifier.Choice a p k h = (k, h)

    quantified-type : (q : Quantifier) (a : SimpleType) → IsTypeFrom o a → IsTypeFrom o (quantified_type q a)
    quantified-type quantifier.Pi a k = z
    quantified-type quantifier.Sigma a k = z
    quantified-type quantifier.Choice a k = k

    binder-from : (b : Binder) (v : Q0Variable) (t : Term) → IsTypeFrom o v.type → IsMeaningFrom o t → IsMeaningFrom o (bound b v t)
    binder-from binder.ForAll v t k h = (from-all v.type k, (k, h))
    binder-from binder.Exists v t k h = (from-some v.type k, (k, h))
    binder-from binder.Lambda v t k h = (k, h)
    binder-from binder.Choice v t k h = (k, (k, h))

    binder-type : (b : Binder) (a c : SimpleType) → IsTypeFrom o a → IsTypeFrom o c → IsTypeFrom o (bound_type b a c)
    binder-type binder.ForAll a c k h = z
    binder-type binder.Exists a c k h = z
    binder-type binder.Lambda a c k h = (k, h)
    binder-type binder.Choice a c k h = k

module _ (o : Origin) (d : Declared) (v : IsVocabulary d o) where
  type-from : {ty : TypeTree} {a : SimpleType} → MeansType d ty a → IsTypeFrom o a
  type-from (individuals e) = v.individuals
  type-from (truth_values e) = v.truth
  type-from (declared_type {name = name} {a = a} e f) = named-from (IsTypeFrom o) name d.types a v.types f
  type-from (functions e f g) = (type-from f, type-from g)

  -- the types of constants
  pub constants-typed : {n : ℕ} {ps : List (List ℕ × TypeTree)} {cs : List (List ℕ × Constant)} → AreConstants d n ps cs → (m : ℕ) (c : List ℕ × Constant) → slice_get cs m ≡ Some c → IsTypeFrom o c.1.type
  constants-typed typings.no_more m c e = absurd cc
  constants-typed (typings.type t r) m c e = constants-typed r m c e
  constants-typed (typings.constant {n = n} {atom = word} {a = a} t f r) zero c e = (let g : (word, record { number = n; type = a }) ≡ c = cc in subst (λ (k : List ℕ × Constant). IsTypeFrom o k.1.type) g (type-from f))
  constants-typed (typings.constant t f r) (suc m) c e = constants-typed r m c e

  module _ (typed : (n : ℕ) (p : List ℕ × Constant) → slice_get d.constants n ≡ Some p → IsTypeFrom o p.1.type) where
    mutual
      pub means-from : {s : Scope} {tree : Tree} {t : Term} {a : SimpleType} → IsScopeFrom o s → Means d s tree t a → IsMeaningFrom o t × IsTypeFrom o a
      means-from h (atom {name = name} {k = k} e f) = (let g = named-from (λ (c : Constant). (o.has_symbol c.number ≡ true) × IsTypeFrom o c.type) name d.constants k (λ n p u. (v.constants n p u, typed n p u)) f in (g, g.1))
      means-from {s} h (bound_variable {name = name} {v = w} e f) = (let g = bound-from o name s w h f in (g, g))
      means-from h (true_sign e) = (from-true o v.truth, v.truth)
      means-from h (false_sign e) = (from-false o v.truth, v.truth)
      means-from h (application e q m r) = (let p = means-from h m in applies-from h p.0 p.1 r)
      means-from h (quantification {q = q} {p = p} {a = a} {c = c} e f m l r) =
          let g = means-from h m in
          let k : IsTypeFrom o a = element-from o c a l g.1 in
          applies-from h (quantified-from o v.truth q a p k g.0) (quantified-type o v.truth q a k) r
      means-from h (binding e r) = binds-from h r
      means-from h (negation e m) = (let p = means-from h m in ((from-not o v.truth, p.0), v.truth))
      means-from h (joining {c = c} {t = t} {u = u} e m n) = (let p = means-from h m in let q = means-from h n in (joined-from o v.truth c t u p.0 q.0, v.truth))
      means-from h (equating {sign = sign} {t = t} {u = u} {a = a} e m n) = (let p = means-from h m in let q = means-from h n in (equated-from o v.truth sign a t u p.1 p.0 q.0, v.truth))
      means-from h (negation_sign e) = ((v.truth, (from-not o v.truth, v.truth)), (v.truth, v.truth))
      means-from h (connective_sign {c = c} e) = ((v.truth, (v.truth, joined-from o v.truth c _ _ v.truth v.truth)), (v.truth, (v.truth, v.truth)))

      applies-from : {s : Scope} {f t : Term} {a b : SimpleType} {arguments : List Tree} → IsScopeFrom o s → IsMeaningFrom o f → IsTypeFrom o a → Applies d s f a arguments t b → IsMeaningFrom o t × IsTypeFrom o b
      applies-from h g k no_more = (g, k)
      applies-from h g k (one_more {a = a} {b = b} {c = c} m e r) = (let p = means-from h m in applies-from h (g, p.0) (applied-from o a b c e k) r)

      binds-from : {b : Binder} {s : Scope} {vs : List Variable} {tree : Tree} {t : Term} {a : SimpleType} → IsScopeFrom o s → Binds d b s vs tree t a → IsMeaningFrom o t × IsTypeFrom o a
      binds-from h (body m) = means-from h m
      binds-from {b} {s} h (variable_of {t = t} {a = a} {c = c} m r e) =
          let k : IsTypeFrom o a = type-from m in
          let p = binds-from (k, h) r in
          (binder-from o v.truth b (outside s a) t k p.0, binder-type o v.truth b a c k p.1)
