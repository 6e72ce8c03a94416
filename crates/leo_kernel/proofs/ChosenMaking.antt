-- How the term that a claim chooses is made, in banks that grow.
use Rattle.std.proofs.Common.{ℕ, ◌≡◌, ◌∙◌, ◌<◌, false, length, slice_get, Some, refl, sym, ap, arith}
use Rattle.leo_q0.specs.Terms.{SimpleType}
use Rattle.leo_terms.specs.declared.node.TyView.TheVariants.{Arrow}
use Rattle.leo_terms.specs.Tree.{codomain, Tree, bound, app, lam, logic, absent, negation, equality, choice, type_of, IsBoundAt, lifted, raised}
use Rattle.leo_terms.specs.NormalForm.{normal_form}
use Rattle.leo_terms.specs.Normal.{HasNormalForm}
use Rattle.leo_terms.specs.Contents.{Contents, IsBank, Extends, IsTerm, IsArrow, IsApplicable, type_at, tree_at, type_number, codomain_number}
use Rattle.leo_terms.proofs.ReductionLemmas.{IsBoundAt-gap}
use Rattle.leo_terms.proofs.CallerLemmas.{old_bank, extends-trans, type-kept, tree-kept, type_number-kept, arrow-kept, term-kept, applicable, arrow-parts, reads-arrow, type_of-term, type-shared, type_number-within, raised-is}
use Rattle.leo_kernel.specs.declared.chosen_claims.Claim as declared
use Rattle.leo_kernel.specs.declared.chosen_claims.Claim.TheVariants as said
use Rattle.leo_kernel.specs.Choosing.{value, difference, chosen, chosen_type}
use Rattle.leo_kernel.specs.ChosenClaims.{IsFunctionOf, IsClaimOf, IsWanted, claim_at, type_chosen}
use Rattle.leo_kernel.specs.Shapes.{choice_tree, not_tree, eq_tree}
use Rattle.leo_kernel.specs.Tops.{IsPropertyOf}
use Rattle.leo_kernel.proofs.FormRules.{kept-within}

-- a function under one more lambda, applied to its variable
abbrev pub inside : Tree → SimpleType → Tree
inside f a = app (lifted 0 1 f) (bound 0 a)

pub inside-bound : (f : Tree) (a b : SimpleType) → a ≡ b → IsBoundAt 0 b (inside f a)
inside-bound f a b e = (IsBoundAt-gap f 0 0 1 b (omega arith) (omega arith), λ _. e)

module _ {a b c : Contents} (f : Extends a b) (g : Extends b c) {i j t r x : ℕ} (function : IsFunctionOf a i j t) (lifts : IsTerm b r (type_number a t) (raised 1 (tree_at a t))) (index : IsTerm c x i (bound 0 (type_at b i))) where
  pub inside-applies : IsApplicable c r x × (codomain_number c (type_number c r) ≡ j)
  inside-applies = applicable (term-kept g lifts) index (arrow-kept (extends-trans f g) function.typed)

  pub inside-made : {d : Contents} {u : ℕ} → IsTerm d u (codomain_number c (type_number c r)) (app (tree_at c r) (tree_at c x)) → IsTerm d u j (inside (tree_at a t) (type_at a i))
  inside-made {d} {u} m =
      let first : tree_at c r ≡ lifted 0 1 (tree_at a t) = (term-kept g lifts).reads ∙ raised-is 1 (tree_at a t) in
      let second : tree_at c x ≡ bound 0 (type_at a i) = index.reads ∙ ap (bound 0) (type-kept f i function.from_within) in
      record { within = m.within; type_is = m.type_is ∙ inside-applies.1; reads = m.reads ∙ rw (first, second) refl }

-- `ε (λx. ~ A)`
pub against-bound : {a b : Contents} → Extends a b → {i n : ℕ} → i < length a.types → (s : Tree) → IsTerm b n 0 (logic negation s absent) → IsBoundAt 0 (type_at a i) s → IsBoundAt 0 (type_at b i) (tree_at b n)
against-bound f {i} {n} ty s negated h = rw (negated.reads, type-kept f i ty) (h, tt)

pub against-made : {a b c d : Contents} → Extends a b → Extends b c → {i n p u : ℕ} → i < length a.types → (s : Tree) → IsTerm b n 0 (logic negation s absent) → IsTerm c p (type_number c p) (lam (type_at b i) (tree_at b n)) → IsTerm d u i (logic (choice (type_at c i)) (tree_at c p) absent) → IsTerm d u i (choice_tree (type_at a i) (lam (type_at a i) (not_tree s)))
against-made {a} {b} {c} {d} f g {i} {n} {p} {u} ty s negated property m =
    let e : type_at b i ≡ type_at a i = type-kept f i ty in
    let k : type_at c i ≡ type_at a i = type-kept (extends-trans f g) i ty in
    let body : tree_at c p ≡ lam (type_at a i) (not_tree s) = property.reads ∙ rw (e, negated.reads) refl in
    record { within = m.within; type_is = m.type_is; reads = m.reads ∙ rw (k, body) refl }

pub property-function : {c : Contents} {i p j : ℕ} → IsBank c → j ≡ 0 → IsPropertyOf c i p → IsFunctionOf c i j p
property-function {c} {i} {p} {j} b e h = record { from_within = h.type_within; to_within = (let m = b.base_types in omega arith); within = h.within; typed = rw e h.typed }

pub function-kept : {c d : Contents} → Extends c d → {i j f : ℕ} → IsFunctionOf c i j f → IsFunctionOf d i j f
function-kept {c} {d} e {i} {j} {f} h =
    let m = e.types_more in
    let p = h.from_within in
    let q = h.to_within in
    record { from_within = omega arith; to_within = omega arith; within = kept-within e f h.within; typed = rw (type_number-kept e f h.within) (arrow-kept e h.typed) }

-- the same tree in a bank that grew
pub moved-term : {c : Contents} {t i : ℕ} {s u : Tree} → IsTerm c t i s → s ≡ u → IsTerm c t i u
moved-term {c} {t} {i} {s} {u} h e = record { within = h.within; type_is = h.type_is; reads = h.reads ∙ e }

-- `ε (λx. ~ (P x))`
pub chosen-false : {a b c : Contents} → Extends a b → {i j t u : ℕ} (p : ℕ) → i < length a.types → IsTerm b t j (inside (tree_at a p) (type_at a i)) → IsTerm c u i (choice_tree (type_at b i) (lam (type_at b i) (not_tree (tree_at b t)))) → IsTerm c u i (chosen (value (type_at a i) (tree_at a p) false))
chosen-false {a} {b} {c} f {i} {j} {t} {u} p l applied m =
    moved-term m (rw (type-kept f i l, applied.reads) refl)

-- `ε (λx. ~ (f x = g x))`
module _ {a b c : Contents} (h : Extends a b) (k : Extends b c) {i j f g s t : ℕ} (first : IsFunctionOf a i j f) (second : IsFunctionOf a i j g) (left : IsTerm b s j (inside (tree_at a f) (type_at a i))) (right : IsTerm c t j (inside (tree_at b g) (type_at b i))) where
  pub difference-typed : (type_number c s ≡ j) × (type_number c t ≡ j)
  difference-typed = ((term-kept k left).type_is, right.type_is)

  module _ {d : Contents} {q : ℕ} (m : IsTerm d q 0 (logic (equality (type_at c j)) (tree_at c s) (tree_at c t))) where
    equal-reads : tree_at d q ≡ eq_tree (type_at a j) (inside (tree_at a f) (type_at a i)) (inside (tree_at a g) (type_at a i))
    equal-reads =
        let y : type_at c j ≡ type_at a j = type-kept (extends-trans h k) j first.to_within in
        let x : tree_at c s ≡ inside (tree_at a f) (type_at a i) = (term-kept k left).reads in
        let z : tree_at c t ≡ inside (tree_at a g) (type_at a i) = right.reads ∙ rw (tree-kept h g second.within, type-kept h i first.from_within) refl in
        m.reads ∙ rw (y, x, z) refl

    pub difference-bound : Extends c d → IsBoundAt 0 (type_at d i) (tree_at d q)
    difference-bound l =
        let y : type_at d i ≡ type_at a i = type-kept (extends-trans h (extends-trans k l)) i first.from_within in
        rw (equal-reads, y) (inside-bound (tree_at a f) (type_at a i) (type_at a i) refl, inside-bound (tree_at a g) (type_at a i) (type_at a i) refl)

    pub difference-made : Extends c d → {e : Contents} {u : ℕ} → IsTerm e u i (choice_tree (type_at d i) (lam (type_at d i) (not_tree (tree_at d q)))) → IsTerm e u i (chosen (difference (type_at a i) (tree_at a f) (tree_at a g)))
    difference-made l n =
        let y : type_at d i ≡ type_at a i = type-kept (extends-trans h (extends-trans k l)) i first.from_within in
        let b = old_bank h in
        let w : codomain (type_of (tree_at a f)) ≡ type_at a j = ap codomain (type_of-term b f first.within ∙ reads-arrow b first.typed) in
        moved-term n (rw (y, equal-reads, w) refl)

-- two functions of one type
pub difference-of : (c : Contents) → IsBank c → (l r m i j : ℕ) → l < length c.terms → r < length c.terms → m ≡ type_number c l → slice_get c.types m ≡ Some (Arrow i j) → type_of (tree_at c l) ≡ type_of (tree_at c r) → IsFunctionOf c i j l × IsFunctionOf c i j r
difference-of c b l r m i j p q e f g =
    let first : IsArrow c (type_number c l) i j = record { arrow_node = rw (← e) f } in
    let same : type_number c r ≡ type_number c l = type-shared b (type_number c r) (type_number c l) (type_number-within b r q) (type_number-within b l p) (sym (type_of-term b r q) ∙ sym g ∙ type_of-term b l p) in
    let second : IsArrow c (type_number c r) i j = rw same first in
    let h = arrow-parts b first in
    let x = h.0 in
    let y = h.1 in
    let z = h.2 in
    (record { from_within = omega arith; to_within = omega arith; within = p; typed = first }, record { from_within = omega arith; to_within = omega arith; within = q; typed = second })

-- the type and the normal form
pub claim-type : (c : Contents) (claim : declared.Claim) → type_at c (type_chosen claim) ≡ chosen_type (claim_at c claim)
claim-type c (said.Value i p v) = refl
claim-type c (said.Difference i j f g) = refl

pub claim-type_within : (c : Contents) (claim : declared.Claim) → IsClaimOf c claim → type_chosen claim < length c.types
claim-type_within c (said.Value i p v) h = h.type_within
claim-type_within c (said.Difference i j f g) h = h.0.from_within

pub wanted-made : {a b c : Contents} → Extends a b → Extends b c → (claim : declared.Claim) → IsClaimOf a claim → (i t r : ℕ) → i ≡ type_chosen claim → IsTerm b t (type_chosen claim) (chosen (claim_at a claim)) → HasNormalForm b c t r → IsWanted c (record { ty = i; form = r }) (claim_at a claim)
wanted-made {a} {b} {c} f g claim h i t r e m n =
    let w = claim-type_within a claim h in
    let k = f.types_more in
    let l = g.types_more in
    record {
      type_within = omega arith;
      within = n.within;
      type_is = type-kept (extends-trans f g) i (omega arith) ∙ ap (type_at a) e ∙ claim-type a claim;
      reads = n.value ∙ ap normal_form m.reads;
    }
