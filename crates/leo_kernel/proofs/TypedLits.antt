-- When a literal of a bank is typed.
use Rattle.std.proofs.Common.{ℕ, zero, suc, nat_eq, ◌≡◌, ◌∙◌, ◌<◌, ◌≤◌, Bool, true, false, not, List, [], ◌∷◌, length, map, take, slice_index_or, refl, sym, ap, arith}
use Rattle.std.specs.Bool.{Decides}
use Rattle.std.proofs.lemmas.Bool.Decides.{nat_tests}
use Rattle.leo_q0.specs.Terms.{SimpleType}
use Rattle.leo_terms.specs.Contents.{Contents, IsBank, type_at, tree_at, type_number}
use Rattle.leo_terms.proofs.CallerLemmas.{type-shared, type_of-term, type_number-within}
use Rattle.leo_clause.specs.declared.clause.Lit.{Lit}
use Rattle.leo_clause.specs.Trees.{literal_at}
use Rattle.leo_clause.specs.Typed.{IsTypedLiteral, AreTyped, AreLiteralsOf}
use Rattle.leo_kernel.specs.declared.leaves.LeafTest.TheVariants.{Over}
use Rattle.leo_kernel.specs.Leaves.{leaves_pass}
use Rattle.leo_kernel.proofs.LeafTests.{over-passes, passes-over}
use Rattle.leo_kernel.proofs.Lists.{Each, each-get, each-whole, get-index}

-- answers
pub no : {P : Type 0} → (P → ⊥) → Decides false P
no f = (λ e. (let h : ⊥ = cc in absurd h), λ p. absurd (f p))

pub yes : {P : Type 0} → P → Decides true P
yes p = (λ e. p, λ q. refl)

pub not-both : {P : Type 0} (b : Bool) → Decides b P → b ≡ false → P → ⊥
not-both b d e p = (let h : b ≡ true = d.1 p in cc)

apart : (m n : ℕ) (r : Bool) → r ≡ not (nat_eq m n) → r ≡ true → m ≡ n → ⊥
apart m n r e t f = grind (arith, nat_tests)

together : (m n : ℕ) (r : Bool) → r ≡ not (nat_eq m n) → r ≡ false → m ≡ n
together m n r e t = grind (arith, nat_tests)

module _ (c : Contents) (b : IsBank c) (vars : List ℕ) (l : Lit) (left : l.left < length c.terms) (right : l.right < length c.terms) where
  types-apart : (type_number c l.left ≡ type_number c l.right → ⊥) → IsTypedLiteral (map (type_at c) vars) (literal_at c l) → ⊥
  types-apart f h =
      let e : type_at c (type_number c l.left) ≡ type_at c (type_number c l.right) = sym (type_of-term b l.left left) ∙ h.same_type ∙ type_of-term b l.right right in
      f (type-shared b (type_number c l.left) (type_number c l.right) (type_number-within b l.left left) (type_number-within b l.right right) e)

  pub lit-types_differ : (m n : ℕ) (r : Bool) → m ≡ type_number c l.left → n ≡ type_number c l.right → r ≡ not (nat_eq m n) → r ≡ true → Decides false (IsTypedLiteral (map (type_at c) vars) (literal_at c l))
  lit-types_differ m n r e f g t = no (types-apart (λ h. apart m n r g t (e ∙ h ∙ sym f)))

  pub lit-left_fails : (p : Bool) → p ≡ leaves_pass Over (map (type_at c) vars) 0 (tree_at c l.left) → p ≡ false → Decides false (IsTypedLiteral (map (type_at c) vars) (literal_at c l))
  lit-left_fails p e t = no (λ h. (let k : p ≡ true = e ∙ over-passes (map (type_at c) vars) 0 (tree_at c l.left) h.left_over in cc))

  pub lit-typed : (m n : ℕ) (r p q : Bool) → m ≡ type_number c l.left → n ≡ type_number c l.right → r ≡ not (nat_eq m n) → r ≡ false → p ≡ leaves_pass Over (map (type_at c) vars) 0 (tree_at c l.left) → p ≡ true → q ≡ leaves_pass Over (map (type_at c) vars) 0 (tree_at c l.right) → Decides q (IsTypedLiteral (map (type_at c) vars) (literal_at c l))
  lit-typed m n r p q e f g t u v w = (
    λ h. record {
      left_over = passes-over (map (type_at c) vars) 0 (tree_at c l.left) (sym u ∙ v);
      right_over = passes-over (map (type_at c) vars) 0 (tree_at c l.right) (sym w ∙ h);
      same_type = type_of-term b l.left left ∙ ap (type_at c) (sym e ∙ together m n r g t ∙ f) ∙ sym (type_of-term b l.right right);
    },
    λ h. w ∙ over-passes (map (type_at c) vars) 0 (tree_at c l.right) h.right_over,
  )

-- literals of a list
pub literals-at : (c : Contents) (ls : List Lit) → AreLiteralsOf c ls → (i : ℕ) (l : Lit) → i < length ls → l ≡ slice_index_or ls i l → (l.left < length c.terms) × (l.right < length c.terms)
literals-at c [] h i l lt e = absurd (omega arith)
literals-at c (k ∷ ls) h zero l lt e = rw e (h.0, h.1)
literals-at c (k ∷ ls) h (suc i) l lt e = literals-at c ls h.2 i l (omega arith) e

each-typed : (c : Contents) (vs : List SimpleType) (ls : List Lit) → Each (λ (k : Lit). IsTypedLiteral vs (literal_at c k)) ls → AreTyped vs (map (literal_at c) ls)
each-typed c vs [] h = tt
each-typed c vs (l ∷ ls) h = (h.0, each-typed c vs ls h.1)

typed-each : (c : Contents) (vs : List SimpleType) (ls : List Lit) → AreTyped vs (map (literal_at c) ls) → Each (λ (k : Lit). IsTypedLiteral vs (literal_at c k)) ls
typed-each c vs [] h = tt
typed-each c vs (l ∷ ls) h = (h.0, typed-each c vs ls h.1)

module _ (c : Contents) (vars : List ℕ) (ls : List Lit) where
  pub all-typed : (n : ℕ) → length ls ≤ n → Each (λ (l : Lit). IsTypedLiteral (map (type_at c) vars) (literal_at c l)) (take n ls) → Decides true (AreTyped (map (type_at c) vars) (map (literal_at c) ls))
  all-typed n l h = yes (each-typed c (map (type_at c) vars) ls (each-whole (λ (l : Lit). IsTypedLiteral (map (type_at c) vars) (literal_at c l)) ls n l h))

  pub one-untyped : (i : ℕ) (l : Lit) (r : Bool) → i < length ls → l ≡ slice_index_or ls i l → Decides r (IsTypedLiteral (map (type_at c) vars) (literal_at c l)) → r ≡ false → Decides false (AreTyped (map (type_at c) vars) (map (literal_at c) ls))
  one-untyped i l r lt e d f =
      no (λ h. not-both r d f (each-get (λ (l : Lit). IsTypedLiteral (map (type_at c) vars) (literal_at c l)) ls i l (typed-each c (map (type_at c) vars) ls h) (get-index ls i l lt e)))
