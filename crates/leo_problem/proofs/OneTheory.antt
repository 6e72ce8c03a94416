-- Kept statements say one thing at most.
use Rattle.std.proofs.Common.{Bool, true, false, ℕ, ◌≡◌, inl, inr, List, [], ◌∷◌, length, map, slice_get, Option, Some, None, refl, ap, sym, ◌∙◌, subst, arith}
use Rattle.std.specs.Option.{is_some}
use Rattle.std.specs.List.{list_any}
use Rattle.std.specs.Str.{bytes_eq}
use Rattle.std.proofs.lemmas.Bool.{cases_lt}
use Rattle.std.proofs.lemmas.Option.{same_Some, slice_get_within}
use Rattle.leo_q0.specs.Terms.{SimpleType, Term, truth}
use Rattle.leo_syntax.specs.declared.tree.TypeTree.{TypeTree}
use Rattle.leo_syntax.specs.declared.tree.Tree.{Tree}
use Rattle.leo_syntax.specs.declared.tree.Statement.{Statement}
use Rattle.leo_syntax.specs.declared.tree.Statement.TheVariants as statement
use Rattle.leo_elab.specs.declared.refusal.ElabRefusal.{ElabRefusal}
use Rattle.leo_elab.specs.Problem.{Declared, Constant, named}
use Rattle.leo_elab.specs.Meaning.{Means}
use Rattle.leo_elab.specs.Offences.{OffendsInType, type_of_types, unknown_type, constant_as_type, in_domain, in_range, OffendsAsFormula}
use Rattle.leo_elab.specs.Typings.{Typing, first_typings, AreConstants, no_more, type, constant, AreAlike, IsRight, a_type, a_constant, OffendsAmong, twice, in_type, AreDeclared, IsFirstOffence}
use Rattle.leo_elab.proofs.TypeLaws.{one-type, no-offence, one-offence}
use Rattle.leo_elab.proofs.MeaningLaw.{one-meaning}
use Rattle.leo_elab.proofs.ConflictLaw.{sound, sound-formula}
use Rattle.leo_elab.proofs.OffenceLaw.{first-as-formula}
use Rattle.leo_elab.proofs.FirstTypings.{any-named}
use Rattle.leo_elab.proofs.Declarations.{means-by_types}
use Rattle.leo_problem.specs.declared.gathered.Kept.{Kept}
use Rattle.leo_problem.specs.declared.roles.Role.{Role}
use Rattle.leo_problem.specs.declared.refusal.LoadRefusal.{LoadRefusal}
use Rattle.leo_problem.specs.declared.refusal.LoadRefusal.TheVariants.{Refused}
use Rattle.leo_problem.specs.declared.refusal.What.TheVariants as what
use Rattle.leo_problem.specs.Roles.{role_of, assumed}
use Rattle.leo_problem.specs.Theories.{Hypothesis, unlisted_role, conjectures, has_conjecture, byte_of, typings, typing_files, meaning_refusal, is_formula, HaveRoles, AreHypotheses, no_formula, formula, OffendsInFormulas, here, behind_no_formula, behind_formula, Answer, says, refused, Says, bad_role, second_conjecture, bad_typing, bad_formula, theory}
use Rattle.leo_problem.specs.Theories as theories

-- ---- typings

not-some : {A : Type 0} (o : Option A) → is_some o ≡ false → o ≡ None
not-some None e = refl
not-some (Some x) e = absurd cc

is-some : {A : Type 0} (o : Option A) → is_some o ≡ true → (x : A) × (o ≡ Some x)
is-some None e = absurd cc
is-some (Some x) e = (x, refl)

abbrev constant_names : Declared → List (List ℕ)
constant_names d = map (λ c. c.0) d.constants

-- whether a name is a constant rests on the names alone
named-alike : (d e : Declared) (name : List ℕ) → constant_names d ≡ constant_names e → is_some (named name e.constants) ≡ is_some (named name d.constants)
named-alike d e name q = any-named name e.constants ∙ (ap (list_any (bytes_eq name)) (sym q) ∙ sym (any-named name d.constants))

offends-by_names : {d e : Declared} {ty : TypeTree} {r : ElabRefusal} → d.types ≡ e.types → constant_names d ≡ constant_names e → OffendsInType d ty r → OffendsInType e ty r
offends-by_names p q (type_of_types h) = type_of_types h
offends-by_names {d} {e} p q (unknown_type {name = name} h t k) =
    unknown_type h (ap (named name) (sym p) ∙ t) (not-some (named name e.constants) (named-alike d e name q ∙ ap is_some k))
offends-by_names {d} {e} p q (constant_as_type {name = name} h t k) =
    let s = is-some (named name e.constants) (named-alike d e name q ∙ ap is_some k) in
    constant_as_type h (ap (named name) (sym p) ∙ t) s.1
offends-by_names p q (in_domain h o) = in_domain h (offends-by_names p q o)
offends-by_names p q (in_range h m o) = in_range h (means-by_types p m) (offends-by_names p q o)

module _ (firsts : List (List ℕ × TypeTree)) (t : Typing) where
  same-first : {f g : TypeTree} → named t.atom firsts ≡ Some f → named t.atom firsts ≡ Some g → AreAlike f t.ty → AreAlike g t.ty
  same-first {f} {g} p q a = let e : f ≡ g = cc in (let P : TypeTree → Type 0 = λ x. AreAlike x t.ty in subst P e a)

  one-offence-among : {r u : ElabRefusal} → OffendsAmong firsts t r → OffendsAmong firsts t u → r ≡ u
  one-offence-among (twice p n) (twice q m) = refl
  one-offence-among (twice p n) (in_type q a c s o) = absurd (n (same-first q p a))
  one-offence-among (in_type q a c s o) (twice p n) = absurd (n (same-first q p a))
  one-offence-among (in_type q a c s o) (in_type p b k z w) = one-offence o (offends-by_names (z.types ∙ sym s.types) (z.constants ∙ sym s.constants) w)

  right-no-offence : {r : ElabRefusal} → IsRight firsts t → OffendsAmong firsts t r → ⊥
  right-no-offence (a_type p a c) (twice q n) = n (same-first p q a)
  right-no-offence (a_type p a c) (in_type q b k z w) = absurd cc
  right-no-offence (a_constant p a c s m) (twice q n) = n (same-first p q a)
  right-no-offence (a_constant p a c s m) (in_type q b k z w) = no-offence (means-by_types (s.types ∙ sym z.types) m) w

one-first-offence : {ts : List Typing} {p q : ℕ} {e f : ElabRefusal} → IsFirstOffence ts p e → IsFirstOffence ts q f → (p ≡ q) × (e ≡ f)
one-first-offence {ts} {p} {q} {e} {f} a b = elim (cases_lt p q) [
  | inl lt ↦ absurd (right-no-offence _ _ (b.before p a.typing lt a.stands) a.offends)
  | inr ge ↦ elim (cases_lt q p) [
    | inl lt ↦ absurd (right-no-offence _ _ (a.before q b.typing lt b.stands) b.offends)
    | inr le ↦
        let same : p ≡ q = omega arith in
        let stands : slice_get ts q ≡ Some a.typing = ap (slice_get ts) (sym same) ∙ a.stands in
        let typing : a.typing ≡ b.typing = same_Some _ _ (sym stands ∙ b.stands) in
        let P : Typing → Type 0 = λ t. OffendsAmong (first_typings ts) t e in
        (same, one-offence-among _ _ (subst P typing a.offends) b.offends)
  ]
]

right-all : {ts : List Typing} {d : Declared} {p : ℕ} {e : ElabRefusal} → AreDeclared ts d → IsFirstOffence ts p e → ⊥
right-all {ts} {d} {p} a b = right-no-offence _ _ (a.right p b.typing b.stands) b.offends

same-constants : (atom : List ℕ) (n : ℕ) {a b : SimpleType} {cs ds : List (List ℕ × Constant)} → a ≡ b → cs ≡ ds
    → (atom, record { number = n; type = a }) ∷ cs ≡ (atom, record { number = n; type = b }) ∷ ds
same-constants atom n {a} {b} {cs} {ds} p q = rw (p, q) refl

one-constants : {d e : Declared} {n : ℕ} {ps : List (List ℕ × TypeTree)} {cs ds : List (List ℕ × Constant)} → e.types ≡ d.types → AreConstants d n ps cs → AreConstants e n ps ds → cs ≡ ds
one-constants q no_more no_more = refl
one-constants q (type t a) (type u b) = one-constants q a b
one-constants q (type t a) (constant u m b) = absurd cc
one-constants q (constant t m a) (type u b) = absurd cc
one-constants q (constant {n = n} {atom = atom} t m a) (constant u k b) = same-constants atom n (one-type m (means-by_types q k)) (one-constants q a b)

same-declared : {d e : Declared} → d.types ≡ e.types → d.constants ≡ e.constants → d ≡ e
same-declared {d} {e} p q = ap (λ t. record { types = t; constants = d.constants }) p ∙ ap (λ (c : List (List ℕ × Constant)). record { types = e.types; constants = c }) q

one-declared : {ts : List Typing} {d e : Declared} → AreDeclared ts d → AreDeclared ts e → d ≡ e
one-declared {ts} {d} {e} a b = same-declared (a.types ∙ sym b.types) (one-constants (b.types ∙ sym a.types) a.constants b.constants)

-- ---- formulas

same-hypotheses : {t u : Term} (file : List ℕ) {n m : List ℕ} {r s : Role} {hs us : List Hypothesis} → t ≡ u → n ≡ m → r ≡ s → hs ≡ us
    → record { formula = assumed r t; file = file; name = n; role = r } ∷ hs ≡ record { formula = assumed s u; file = file; name = m; role = s } ∷ us
same-hypotheses {t} {u} file {n} {m} {r} {s} {hs} {us} e f g h = rw (e, f, g, h) refl

module _ {s : Statement} {byte role_byte other_byte other_role_byte : ℕ} {name word other_name other_word : List ℕ} {tree other : Tree}
    (p : s ≡ statement.Formula byte name word role_byte tree) (q : s ≡ statement.Formula other_byte other_name other_word other_role_byte other) where
  same-tree : other ≡ tree
  same-tree = cc

  same-name : name ≡ other_name
  same-name = cc

  same-role : {r u : Role} → role_of word ≡ Some r → role_of other_word ≡ Some u → r ≡ u
  same-role e f = let w : word ≡ other_word = cc in same_Some _ _ (sym e ∙ (ap role_of w ∙ f))

is-formula : {s : Statement} {byte role_byte : ℕ} {name word : List ℕ} {tree : Tree} → s ≡ statement.Formula byte name word role_byte tree → is_formula s ≡ false → ⊥
is-formula e f = let g : true ≡ false = sym (ap is_formula e) ∙ f in absurd cc

module _ {d : Declared} where
  means-along : {x y : Tree} {t : Term} → x ≡ y → Means d [] x t truth → Means d [] y t truth
  means-along {x} {y} {t} e m = let P : Tree → Type 0 = λ z. Means d [] z t truth in subst P e m

  offends-along : {x y : Tree} {e : ElabRefusal} → x ≡ y → OffendsAsFormula d [] x e → OffendsAsFormula d [] y e
  offends-along {x} {y} {e} s m = let P : Tree → Type 0 = λ z. OffendsAsFormula d [] z e in subst P s m

  not-both : {tree : Tree} {t : Term} {e : ElabRefusal} → Means d [] tree t truth → OffendsAsFormula d [] tree e → ⊥
  not-both m o = sound-formula m (sound m) o

  one-hypotheses : {ks : List Kept} {hs us : List Hypothesis} → AreHypotheses d ks hs → AreHypotheses d ks us → hs ≡ us
  one-hypotheses theories.no_more theories.no_more = refl
  one-hypotheses (no_formula e a) (no_formula f b) = one-hypotheses a b
  one-hypotheses (no_formula e a) (formula f r m b) = absurd (is-formula f e)
  one-hypotheses (formula f r m b) (no_formula e a) = absurd (is-formula f e)
  one-hypotheses (formula {k = k} e r m a) (formula f s n b) =
      same-hypotheses k.file ((one-meaning m _ _ (means-along (same-tree e f) n)).0) (same-name e f) (same-role e f r s) (one-hypotheses a b)

  one-refused : {ks : List Kept} {r u : LoadRefusal} → OffendsInFormulas d ks r → OffendsInFormulas d ks u → r ≡ u
  one-refused (here {k = k} e o) (here f w) = ap (meaning_refusal k.file) (first-as-formula o _ (offends-along (same-tree e f) w))
  one-refused (here e o) (behind_no_formula f w) = absurd (is-formula e f)
  one-refused (here e o) (behind_formula f m w) = absurd (not-both (means-along (same-tree e f) m) o)
  one-refused (behind_no_formula f w) (here e o) = absurd (is-formula e f)
  one-refused (behind_no_formula f w) (behind_no_formula g v) = one-refused w v
  one-refused (behind_no_formula f w) (behind_formula e m v) = absurd (is-formula e f)
  one-refused (behind_formula f m w) (here e o) = absurd (not-both (means-along (same-tree e f) m) o)
  one-refused (behind_formula e m v) (behind_no_formula f w) = absurd (is-formula e f)
  one-refused (behind_formula e m v) (behind_formula f n w) = one-refused v w

  no-refusal : {ks : List Kept} {hs : List Hypothesis} {r : LoadRefusal} → AreHypotheses d ks hs → OffendsInFormulas d ks r → ⊥
  no-refusal theories.no_more o = elim o [ ]
  no-refusal (no_formula e a) (here f o) = is-formula f e
  no-refusal (no_formula e a) (behind_no_formula f o) = no-refusal a o
  no-refusal (no_formula e a) (behind_formula f m o) = is-formula f e
  no-refusal (formula e r m a) (here f o) = not-both m (offends-along (same-tree e f) o)
  no-refusal (formula e r m a) (behind_no_formula f o) = is-formula e f
  no-refusal (formula e r m a) (behind_formula f n o) = no-refusal a o

-- ---- the whole

no-second : {ks : List Kept} {k : Kept} → HaveRoles ks → slice_get (conjectures ks) 1 ≡ Some k → ⊥
no-second {ks} {k} r e = let w = slice_get_within (conjectures ks) 1 k e in let o = r.one_conjecture in omega arith

along : {d e : Declared} {ks : List Kept} {r : LoadRefusal} → d ≡ e → OffendsInFormulas d ks r → OffendsInFormulas e ks r
along {d} {e} {ks} {r} q o = let P : Declared → Type 0 = λ x. OffendsInFormulas x ks r in subst P q o

same-theory : {d e : Declared} {hs us : List Hypothesis} (c : Bool) (n : ℕ) → d ≡ e → hs ≡ us
    → says (record { declared = d; hypotheses = hs; conjecture = c; statements = n }) ≡ says (record { declared = e; hypotheses = us; conjecture = c; statements = n })
same-theory {d} {e} {hs} {us} c n p q = rw (p, q) refl

hypotheses-along : {d e : Declared} {ks : List Kept} {hs : List Hypothesis} → d ≡ e → AreHypotheses d ks hs → AreHypotheses e ks hs
hypotheses-along {d} {e} {ks} {hs} q o = let P : Declared → Type 0 = λ x. AreHypotheses x ks hs in subst P q o

same-file : (fs : List (List ℕ)) {p q : ℕ} {f g : List ℕ} → p ≡ q → slice_get fs p ≡ Some f → slice_get fs q ≡ Some g → f ≡ g
same-file fs {p} {q} {f} {g} e a b = same_Some _ _ (sym a ∙ (ap (slice_get fs) e ∙ b))

same-refused : {f g : List ℕ} {e u : ElabRefusal} → f ≡ g → e ≡ u → refused (meaning_refusal f e) ≡ refused (meaning_refusal g u)
same-refused {f} {g} {e} {u} p q = rw (p, q) refl

pub one-saying : {ks : List Kept} {a b : Answer} → Says ks a → Says ks b → a ≡ b
one-saying (bad_role e) (bad_role f) = ap refused (same_Some _ _ (sym e ∙ f))
one-saying (bad_role e) (second_conjecture f g) = absurd cc
one-saying (bad_role e) (bad_typing r f g) = let l = r.listed in absurd cc
one-saying (bad_role e) (bad_formula r a o) = let l = r.listed in absurd cc
one-saying (bad_role e) (theory r a h) = let l = r.listed in absurd cc
one-saying (second_conjecture f g) (bad_role e) = absurd cc
one-saying {ks} (second_conjecture f g) (second_conjecture h i) = ap (λ (k : Kept). refused (Refused k.file (byte_of k.statement) what.Conjectures)) (same_Some _ _ (sym g ∙ i))
one-saying (second_conjecture f g) (bad_typing r h i) = absurd (no-second r g)
one-saying (second_conjecture f g) (bad_formula r a o) = absurd (no-second r g)
one-saying (second_conjecture f g) (theory r a h) = absurd (no-second r g)
one-saying (bad_typing r f g) (bad_role e) = let l = r.listed in absurd cc
one-saying (bad_typing r h i) (second_conjecture f g) = absurd (no-second r g)
one-saying {ks} (bad_typing r f g) (bad_typing s h i) = let o = one-first-offence f h in same-refused (same-file (typing_files ks) o.0 g i) o.1
one-saying (bad_typing r f g) (bad_formula s a o) = absurd (right-all a f)
one-saying (bad_typing r f g) (theory s a h) = absurd (right-all a f)
one-saying (bad_formula r a o) (bad_role e) = let l = r.listed in absurd cc
one-saying (bad_formula r a o) (second_conjecture f g) = absurd (no-second r g)
one-saying (bad_formula s a o) (bad_typing r f g) = absurd (right-all a f)
one-saying (bad_formula r a o) (bad_formula s b w) = ap refused (one-refused (along (one-declared a b) o) w)
one-saying (bad_formula r a o) (theory s b h) = absurd (no-refusal h (along (one-declared a b) o))
one-saying (theory r a h) (bad_role e) = let l = r.listed in absurd cc
one-saying (theory r a h) (second_conjecture f g) = absurd (no-second r g)
one-saying (theory s a h) (bad_typing r f g) = absurd (right-all a f)
one-saying (theory s b h) (bad_formula r a o) = absurd (no-refusal h (along (one-declared a b) o))
one-saying {ks} (theory r a h) (theory s b k) = same-theory (has_conjecture ks) (length ks) (one-declared a b) (one-hypotheses (hypotheses-along (one-declared a b) h) k)
