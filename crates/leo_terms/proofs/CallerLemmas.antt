-- What callers of the bank cite. Each call that changes a bank gives `Extends old new`, and each that looks at one gives `IsBank c`.
use Rattle.std.proofs.Common.{ℕ, ◌≡◌, ◌<◌, ◌≤◌, [], ◌∷◌, ◌++◌, List, length, map, slice_get, Option, Some, refl, arith}
use Rattle.leo_q0.specs.Terms.{base, arrow}
use Rattle.leo_q0.specs.Connectives.{equation}
use Rattle.leo_q0.specs.Derivations.{Derives, AreHypotheses}
use Rattle.leo_terms.specs.declared.node.TyView.{TyView}
use Rattle.leo_terms.specs.declared.node.TyView.TheVariants.{Base}
use Rattle.leo_terms.specs.declared.node.Op.{Op}
use Rattle.leo_terms.specs.declared.node.View.{View}
use Rattle.leo_terms.specs.declared.node.View.TheVariants.{Var, Bound, Sym, App, Lam, Logic}
use Rattle.leo_terms.specs.declared.node.TermNode.{TermNode}
use Rattle.leo_terms.specs.Tree.{Tree, variable, bound, symbol, app, lam, logic, type_of}
use Rattle.leo_terms.specs.Typing.{IsWellTyped, IsPresent}
use Rattle.leo_terms.specs.Decode.{decoded, IsFitting}
use Rattle.leo_terms.specs.NormalForm.{normal_form as normal_form_of}
use Rattle.leo_terms.specs.Normal.{HasNormalForm}
use Rattle.leo_terms.specs.Contents.{Contents, Symbol, IsBank, Extends, IsTerm, IsArgumentTerm, IsArgumentBelow, IsArrow, IsApplicable, IsSoundView, AreTerms, AddsSymbol, type_at, tree_at, connective, argument, type_number, codomain_number, symbol_type}
use Rattle.std.proofs.lemmas.Option.{slice_get_within}
use Rattle.leo_terms.proofs.PublicWords.{is_bank, sound, extends, grown, has_normal_form, normal_form}
use Rattle.leo_terms.proofs.Growth.{ty-keeps, tree-keeps, type_number-keeps, IsArrow-keeps, Grows-itself, Grows-trans, ty-base, ty-arrow, arrow-below}
use Rattle.leo_terms.proofs.Rebuild.{view_sound, IsTerm-keeps, IsArgumentTerm-keeps, argument-keeps, tree-var, tree-bound, tree-sym, tree-app, tree-lam, tree-logic}
use Rattle.leo_terms.proofs.NormalLemmas.{type_of-tree}
use Rattle.leo_terms.proofs.TypingLemmas.{tree_at-typed, tree_at-present}
use Rattle.leo_terms.proofs.Making.{type_number-below, codomain_number-node, symbol_type-node}
use Rattle.leo_terms.proofs.TypeLemmas.{type_at-injective}
use Rattle.leo_terms.proofs.TermLemmas.{tree_at-injective}
use Rattle.leo_terms.proofs.ExpandLemmas.{IsFormOf-grows, IsFormOf-from}
use Rattle.leo_terms.proofs.SubstLemmas.{trees-keep, AreTerms-keep}
use Rattle.leo_terms.proofs.DecodedReductions.{reduces_derives}
use Rattle.leo_terms.proofs.NormalFormTyping.{normal_form-reduces}
pub use Rattle.leo_terms.proofs.Rebuild.{HasView}
pub use Rattle.leo_terms.proofs.PublicWords.{is_bank, sound, extends, grown, is_added, added, has_normal_form, normal_form, raised-is, put_in-is}
pub use Rattle.leo_terms.proofs.TypeLemmas.{arrow-same}
pub use Rattle.leo_terms.proofs.FactLemmas.{bound-closed, given-closed, lifted-closed, substituted-closed}
pub use Rattle.leo_terms.proofs.Parts.{IsSubterm-trans, part-type, part-only}
pub use Rattle.leo_terms.proofs.TypingLemmas.{reduces_typed}
pub use Rattle.leo_terms.proofs.NormalFormLaws.{normal_form-itself}
pub use Rattle.leo_terms.proofs.NormalFormTyping.{normal_form-reduces, normal_form-normal}
-- decoding
pub use Rattle.leo_terms.proofs.DecodedTypes.{decoded_typed}
pub use Rattle.leo_terms.proofs.DecodedShapes.{lifted_shape, opened_shape, decoded_unfree, decoded_free_for}
pub use Rattle.leo_terms.proofs.DecodedSubstitutions.{substitution_decodes, lifting_decodes}
pub use Rattle.leo_terms.proofs.DecodedReductions.{reduces_derives}

-- growth
pub old_bank : {c d : Contents} → Extends c d → IsBank c
old_bank {c} {d} e = is_bank c (grown c d e).old_sound

pub new_bank : {c d : Contents} → Extends c d → IsBank d
new_bank {c} {d} e = is_bank d (grown c d e).new_sound

pub extends-itself : {c : Contents} → IsBank c → Extends c c
extends-itself {c} b = extends c c (Grows-itself c (sound c b))

pub extends-trans : {b c d : Contents} → Extends b c → Extends c d → Extends b d
extends-trans {b} {c} {d} e f = extends b d (Grows-trans b c d (grown b c e) (grown c d f))

module _ {c d : Contents} (e : Extends c d) where
  -- earlier numbers keep their nodes, and read as before
  pub type_node-kept : (i : ℕ) (n : TyView) → slice_get c.types i ≡ Some n → slice_get d.types i ≡ Some n
  type_node-kept = (grown c d e).keeps.types

  pub symbol-kept : (s : ℕ) (x : Symbol) → slice_get c.symbols s ≡ Some x → slice_get d.symbols s ≡ Some x
  symbol-kept = (grown c d e).keeps.symbols

  pub node-kept : (t : ℕ) (n : TermNode) → slice_get c.terms t ≡ Some n → slice_get d.terms t ≡ Some n
  node-kept = (grown c d e).keeps.terms

  pub type-kept : (i : ℕ) → i < length c.types → type_at d i ≡ type_at c i
  type-kept = let g = grown c d e in ty-keeps c d g.old_sound g.keeps.types

  pub tree-kept : (t : ℕ) → t < length c.terms → tree_at d t ≡ tree_at c t
  tree-kept = let g = grown c d e in tree-keeps c d g.old_sound g.keeps

  pub type_number-kept : (t : ℕ) → t < length c.terms → type_number d t ≡ type_number c t
  type_number-kept = type_number-keeps c d (grown c d e).keeps

  pub view-kept : (t : ℕ) (v : View) → HasView c t v → HasView d t v
  view-kept t v h = let b = (view_sound c (grown c d e).old_sound t v h).1 in rw (type_number-kept t b) (node-kept t _ h)

  pub arrow-kept : {i a b : ℕ} → IsArrow c i a b → IsArrow d i a b
  arrow-kept {i} {a} {b} h = IsArrow-keeps c d (grown c d e).keeps i a b h

  pub term-kept : {t i : ℕ} {s : Tree} → IsTerm c t i s → IsTerm d t i s
  term-kept {t} {i} {s} h = IsTerm-keeps c d (grown c d e) t i s h

  pub argument_term-kept : {x i : Option ℕ} {s : Tree} → IsArgumentTerm c x i s → IsArgumentTerm d x i s
  argument_term-kept {x} {i} {s} h = IsArgumentTerm-keeps c d (grown c d e) x i s h

  pub argument-kept : (t : ℕ) → t < length c.terms → (x : Option ℕ) → IsArgumentBelow t x → argument (tree_at d) x ≡ argument (tree_at c) x
  argument-kept = argument-keeps c d (grown c d e)

  pub trees-kept : (ts : List ℕ) → AreTerms c ts → map (tree_at d) ts ≡ map (tree_at c) ts
  trees-kept = trees-keep c d (grown c d e)

  pub are_terms-kept : (ts : List ℕ) → AreTerms c ts → AreTerms d ts
  are_terms-kept = AreTerms-keep c d (grown c d e)

-- a normal form in a bank that grew since, and one of a term of a bank before
pub normal_form-kept : {b c d : Contents} → Extends c d → {t r : ℕ} → HasNormalForm b c t r → HasNormalForm b d t r
normal_form-kept {b} {c} {d} e {t} {r} n = has_normal_form b d t r (IsFormOf-grows b c d (grown c d e) t r (normal_form b c t r n))

pub normal_form-of_earlier : {b c d : Contents} → Extends b c → {t r : ℕ} → t < length b.terms → HasNormalForm c d t r → HasNormalForm b d t r
normal_form-of_earlier {b} {c} {d} e {t} {r} l n = has_normal_form b d t r (IsFormOf-from b c d (grown b c e) t r l (normal_form c d t r n))

module _ {c : Contents} (b : IsBank c) where
  -- how a term reads at its view
  pub reads-var : (t n : ℕ) → HasView c t (Var n) → tree_at c t ≡ variable n (type_at c (type_number c t))
  reads-var = tree-var c (sound c b)

  pub reads-bound : (t i : ℕ) → HasView c t (Bound i) → tree_at c t ≡ bound i (type_at c (type_number c t))
  reads-bound = tree-bound c (sound c b)

  pub reads-sym : (t s : ℕ) → HasView c t (Sym s) → tree_at c t ≡ symbol s (type_at c (type_number c t))
  reads-sym = tree-sym c (sound c b)

  pub reads-app : (t f x : ℕ) → HasView c t (App f x) → tree_at c t ≡ app (tree_at c f) (tree_at c x)
  reads-app = tree-app c (sound c b)

  pub reads-lam : (t a x : ℕ) → HasView c t (Lam a x) → tree_at c t ≡ lam (type_at c a) (tree_at c x)
  reads-lam = tree-lam c (sound c b)

  pub reads-logic : (t : ℕ) (o : Op) (x y : Option ℕ) → HasView c t (Logic o x y) → tree_at c t ≡ logic (connective c o) (argument (tree_at c) x) (argument (tree_at c) y)
  reads-logic = tree-logic c (sound c b)

  -- the parts of a term come before it and are typed as they must be
  pub view-typed : (t : ℕ) (v : View) → HasView c t v → IsSoundView c t v (type_number c t)
  view-typed t v h = (view_sound c (sound c b) t v h).0

  -- how a type reads at its view, and that its parts come before it
  pub reads-base : (i n : ℕ) → slice_get c.types i ≡ Some (Base n) → type_at c i ≡ base n
  reads-base = ty-base c

  pub reads-arrow : {i x y : ℕ} → IsArrow c i x y → type_at c i ≡ arrow (type_at c x) (type_at c y)
  reads-arrow {i} {x} {y} h = ty-arrow c (sound c b) i x y h.arrow_node

  pub arrow-parts : {i x y : ℕ} → IsArrow c i x y → (i < length c.types) × (x < i) × (y < i)
  arrow-parts {i} {x} {y} h = arrow-below c (sound c b) i x y h

  -- types of terms
  pub type_number-within : (t : ℕ) → t < length c.terms → type_number c t < length c.types
  type_number-within = type_number-below c (sound c b)

  pub type_of-term : (t : ℕ) → t < length c.terms → type_of (tree_at c t) ≡ type_at c (type_number c t)
  type_of-term = type_of-tree c (sound c b)

  pub term-typed : (t : ℕ) → t < length c.terms → IsWellTyped (tree_at c t)
  term-typed = tree_at-typed c (sound c b)

  pub term-present : (t : ℕ) → t < length c.terms → IsPresent (tree_at c t)
  term-present = tree_at-present c (sound c b)

  -- what reads alike has one number
  pub type-shared : (i j : ℕ) → i < length c.types → j < length c.types → type_at c i ≡ type_at c j → i ≡ j
  type-shared = type_at-injective c (sound c b)

  pub term-shared : (t u : ℕ) → t < length c.terms → u < length c.terms → tree_at c t ≡ tree_at c u → t ≡ u
  term-shared = tree_at-injective c (sound c b)

-- a function may be applied to an argument of the type that it takes, and what that gives
pub applicable : {c : Contents} {f x i a j : ℕ} {s u : Tree} → IsTerm c f i s → IsTerm c x a u → IsArrow c i a j → IsApplicable c f x × (codomain_number c (type_number c f) ≡ j)
applicable {c} {f} {x} {i} {a} {j} {s} {u} p q h =
    let e : codomain_number c i ≡ j = codomain_number-node c i a j h.arrow_node in
    (rw (p.type_is, q.type_is, e) h, rw (p.type_is, e) refl)

at_end : {X : Type 0} (xs : List X) (x : X) → slice_get (xs ++ x ∷ []) (length xs) ≡ Some x
at_end [] x = refl
at_end (y ∷ xs) x = at_end xs x

-- a new symbol, by its row, and its type
pub symbol-added : {c d : Contents} {x : Symbol} {s : ℕ} → AddsSymbol c d x s → (s < length d.symbols) × (symbol_type d s ≡ x.ty)
symbol-added {c} {d} {x} {s} a =
    let n = a.last in
    let f : slice_get d.symbols s ≡ Some x = rw (a.appended, a.last) (at_end c.symbols x) in
    (slice_get_within d.symbols s x f, symbol_type-node d s x f)

no_hypotheses : AreHypotheses []
no_hypotheses formula h = absurd (let l = h.1 in omega arith)

-- a term is equal to its normal form in Q0
pub normal_derives : (t : Tree) (first next : ℕ) → first ≤ next → IsWellTyped t → IsFitting first next t → Derives [] (equation (type_of t) (decoded next t) (decoded next (normal_form_of t)))
normal_derives t first next below w fits = reduces_derives no_hypotheses t (normal_form_of t) (normal_form-reduces t w) first next below w fits
