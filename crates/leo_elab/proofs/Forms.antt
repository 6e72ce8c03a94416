-- Steps of the elaboration over plain variables.
use Rattle.std.proofs.Common.{ℕ, suc, ◌-◌, ◌≡◌, ◌<◌, ◌≤◌, [], ◌∷◌, ◌++◌, List, length, take, drop, get_or, Some, refl, ap, ◌∙◌, arith}
use Rattle.std.proofs.Math.Seq.{take-length}
use Rattle.leo_q0.specs.Terms.{SimpleType, Term}
use Rattle.leo_syntax.specs.declared.tree.Tree.{Tree}
use Rattle.leo_syntax.specs.declared.tree.Binder.{Binder}
use Rattle.leo_syntax.specs.declared.tree.Variable.{Variable}
use Rattle.leo_syntax.specs.declared.tree.Node.TheOpen.{Node-F}
use Rattle.leo_terms.specs.Contents.{Contents, Extends, IsArrow, IsTerm, type_at, type_number, codomain_number, tree_at}
use Rattle.leo_terms.specs.Tree as terms
use Rattle.leo_terms.proofs.CallerLemmas.{old_bank, type-kept, type_number-kept, type_number-within, applicable, arrow-parts}
use Rattle.leo_elab.specs.declared.scope.Bound.{Bound}
use Rattle.leo_elab.specs.declared.quantifiers.Quantifier.TheVariants as quantifier
use Rattle.leo_elab.specs.declared.refusal.ElabRefusal.{ElabRefusal}
use Rattle.leo_elab.specs.Problem.{Declared, Scope}
use Rattle.leo_elab.specs.Table.{Table}
use Rattle.leo_elab.specs.Signs.{top, quantifier_of, applied}
use Rattle.leo_elab.specs.Meaning.{Applies, Binds, no_more}
use Rattle.leo_elab.specs.Offences.{OffendsInArguments, OffendsInBinding}
use Rattle.leo_elab.specs.Standing.{Stands}
use Rattle.leo_elab.specs.Places.{IsPlace, Around, ElaboratesArguments, types_in}
use Rattle.leo_elab.proofs.Standing.{applied-here}
use Rattle.leo_elab.proofs.Places.{place-kept, around-kept, place-push, around-push}

-- a later place in the same scope
pub place-next : {c d : Contents} {n : Table} {bs later : List Bound} → Extends c d → later ≡ bs → IsPlace c n bs → IsPlace d n later
place-next e q h = rw q (place-kept e h)

pub around-next : {c d : Contents} {n : Table} {bs later : List Bound} {k : Declared} {s : Scope} → Extends c d → later ≡ bs → Around c n bs k s → Around d n later k s
around-next e q h = rw q (around-kept e h)

-- a later place inside one more variable
pub place-enter : {c d : Contents} {n : Table} {bs later : List Bound} (b : Bound) → Extends c d → later ≡ bs ++ b ∷ [] → IsPlace c n bs → b.ty < length d.types → IsPlace d n later
place-enter {c} {d} {n} {bs} {later} b e q h l = rw q (place-push b (place-kept e h) l)

pub around-enter : {c d : Contents} {n : Table} {bs later : List Bound} (b : Bound) {k : Declared} {s : Scope} → Extends c d → later ≡ bs ++ b ∷ [] → Around c n bs k s → b.ty < length d.types
    → Around d n later k ((b.name, type_at d b.ty) ∷ s)
around-enter {c} {d} {n} {bs} {later} b e q h l = rw q (around-push b (around-kept e h) l)

-- what a type stays
pub type-same : {c d : Contents} (t : ℕ) → Extends c d → t < length c.terms → type_at d (type_number d t) ≡ type_at c (type_number c t)
type-same {c} {d} t e l = ap (type_at d) (type_number-kept e t l) ∙ type-kept e (type_number c t) (type_number-within (old_bank e) t l)

-- lists by their first item
pub first-of : {A : Type 0} (xs : List A) (x : A) → 1 ≤ length xs → x ≡ get_or xs 0 x → xs ≡ x ∷ take (length xs - 1) (drop 1 xs)
first-of [] x l e = absurd (omega arith)
first-of (y ∷ xs) x l e =
    let k : suc (length xs) - 1 ≡ length xs = omega arith in
    rw (k, take-length xs, ← e) refl

pub empty-of : {A : Type 0} (xs : List A) → length xs < 1 → xs ≡ []
empty-of [] l = refl
empty-of (x ∷ xs) l = absurd (omega arith)

pub top-first : (tree head : Tree) (list : List Tree) (x : Tree) → top tree ≡ Node-F.Apply head list → 1 ≤ length list → x ≡ get_or list 0 x → top tree ≡ Node-F.Apply head (x ∷ take (length list - 1) (drop 1 list))
top-first tree head list x h l e = h ∙ ap (λ (w : List Tree). Node-F.Apply head w) (first-of list x l e)

pub top-empty : (tree head : Tree) (list : List Tree) → top tree ≡ Node-F.Apply head list → length list < 1 → top tree ≡ Node-F.Apply head []
top-empty tree head list h l = h ∙ ap (λ (w : List Tree). Node-F.Apply head w) (empty-of list l)

pub arguments-first : {d : Declared} {s : Scope} {a : SimpleType} {list rest : List Tree} {x : Tree} {e : ElabRefusal} → list ≡ x ∷ rest → OffendsInArguments d s a (x ∷ rest) e → OffendsInArguments d s a list e
arguments-first q h = rw q h

pub applies-first : {d : Declared} {s : Scope} {f t : Term} {a b : SimpleType} {list rest : List Tree} {x : Tree} → list ≡ x ∷ rest → Applies d s f a (x ∷ rest) t b → Applies d s f a list t b
applies-first q h = rw q h

pub arguments-none : {c : Contents} {d : Declared} {s : Scope} {m : Term} {a : SimpleType} {t : ℕ} (list : List Tree) → length list < 1 → Stands c (types_in s) t m a → ElaboratesArguments c d s m a list t
arguments-none {c} {d} {s} {m} {a} list l h = record { term = m; type = a; applies = rw (empty-of list l) no_more; stands = h }

pub binding-first : {d : Declared} {b : Binder} {s : Scope} {list rest : List Variable} {x : Variable} {tree : Tree} {e : ElabRefusal} → list ≡ x ∷ rest → OffendsInBinding d b s (x ∷ rest) tree e → OffendsInBinding d b s list tree e
binding-first q h = rw q h

pub binding-none : {d : Declared} {b : Binder} {s : Scope} {list : List Variable} {tree : Tree} {e : ElabRefusal} → list ≡ [] → OffendsInBinding d b s [] tree e → OffendsInBinding d b s list tree e
binding-none q h = rw q h

pub binds-first : {d : Declared} {b : Binder} {s : Scope} {list rest : List Variable} {x : Variable} {tree : Tree} {t : Term} {a : SimpleType} → list ≡ x ∷ rest → Binds d b s (x ∷ rest) tree t a → Binds d b s list tree t a
binds-first q h = rw q h

pub binds-none : {d : Declared} {b : Binder} {s : Scope} {list : List Variable} {tree : Tree} {t : Term} {a : SimpleType} → list ≡ [] → Binds d b s [] tree t a → Binds d b s list tree t a
binds-none q h = rw q h

-- a quantifier that stands alone
pub alone-pi : (tree : Tree) → top tree ≡ Node-F.Pi → quantifier_of tree ≡ Some quantifier.Pi
alone-pi tree e = rw e refl

pub alone-sigma : (tree : Tree) → top tree ≡ Node-F.Sigma → quantifier_of tree ≡ Some quantifier.Sigma
alone-sigma tree e = rw e refl

pub alone-choice : (tree : Tree) → top tree ≡ Node-F.Choice → quantifier_of tree ≡ Some quantifier.Choice
alone-choice tree e = rw e refl

-- the type of an application that was made
pub applied-fits : {c d : Contents} {f x r from to : ℕ} {w : terms.Tree} → Extends c d → f < length c.terms → x < length c.terms → IsArrow c (type_number c f) from to → type_number c x ≡ from
    → IsTerm d r (codomain_number c (type_number c f)) w → applied (type_at c (type_number c f)) (type_at c (type_number c x)) ≡ Some (type_at d (type_number d r))
applied-fits {c} {d} {f} {x} {r} {from} {to} e l k h i m =
    let o = old_bank e in
    let w = arrow-parts o h in
    let q : IsTerm c f (type_number c f) (tree_at c f) = record { within = l; type_is = refl; reads = refl } in
    let q2 : IsTerm c x from (tree_at c x) = record { within = k; type_is = i; reads = refl } in
    let j : codomain_number c (type_number c f) ≡ to = (applicable q q2 h).1 in
    let p : type_at d to ≡ type_at c to = type-kept e to (let y = w.0 in let z = w.2 in omega arith) in
    let u : type_at d (type_number d r) ≡ type_at c to = rw (m.type_is, j) p in
    rw u (applied-here f x o h i)
