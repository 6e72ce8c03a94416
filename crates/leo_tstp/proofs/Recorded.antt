-- Records that were built, in a bank that grows.
use Rattle.std.proofs.Common.{ℕ, zero, suc, ◌≡◌, ◌∙◌, ◌<◌, ◌≤◌, Bool, List, [], ◌∷◌, ◌++◌, length, map, slice_get, Option, Some, None, refl, sym, ap, subst, arith}
use Rattle.std.specs.Prelude.{IfSome}
use Rattle.leo_terms.specs.Contents.{Contents, Extends, IsBank, AreTerms, type_at, tree_at, type_number}
use Rattle.leo_terms.proofs.CallerLemmas.{tree-kept, type_of-term}
use Rattle.leo_clause.specs.declared.clause.Lit.{Lit}
use Rattle.leo_clause.specs.declared.clause.Clause.{Clause}
use Rattle.leo_clause.specs.declared.record.Rule.{Rule}
use Rattle.leo_clause.specs.declared.record.Rule.TheVariants as record_of
use Rattle.leo_clause.specs.Trees.{ClauseTree, literal_at}
use Rattle.leo_clause.specs.Typed.{AreTypesOf, AreLiteralsOf, AreTyped, IsTyped, IsTypedIn}
use Rattle.leo_kernel.proofs.Growing.{clause-grow, clause-kept}
use Rattle.leo_tstp.specs.Read.{IsPlain}
use Rattle.leo_tstp.specs.NewSymbols.{introduced_by}
use Rattle.leo_tstp.specs.Built.{AreBothBuilt, IsLiteralBuilt, AreLiteralsBuilt, IsRuleBuilt}
use Rattle.leo_tstp.proofs.Built.{over, types-kept}

-- ---- literals and clauses

pub literal-built : {c : Contents} {vs : List ℕ} {t u : ℕ} → IsBank c → (positive : Bool) → AreBothBuilt c vs [] t u → type_number c t ≡ type_number c u → IsLiteralBuilt c vs (record { pos = positive; left = t; right = u })
literal-built {c} {vs} {t} {u} b positive h e = record {
  left = h.first.within;
  right = h.second.within;
  typed = record {
    left_over = over (map (type_at c) vs) [] (tree_at c t) h.first.over;
    right_over = over (map (type_at c) vs) [] (tree_at c u) h.second.over;
    same_type = type_of-term b t h.first.within ∙ ap (type_at c) e ∙ sym (type_of-term b u h.second.within);
  };
}

module _ {c d : Contents} (e : Extends c d) where
  literal-kept : (vs : List ℕ) (l : Lit) → AreTypesOf c vs → IsLiteralBuilt c vs l → IsLiteralBuilt d vs l
  literal-kept vs l v h =
      let w = h.left in
      let x = h.right in
      let more = e.terms_more in
      record {
        left = omega arith;
        right = omega arith;
        typed = rw (tree-kept e l.left h.left, tree-kept e l.right h.right, types-kept e vs v) h.typed;
      }

  pub literals-kept : (vs : List ℕ) (ls : List Lit) → AreTypesOf c vs → AreLiteralsBuilt c vs ls → AreLiteralsBuilt d vs ls
  literals-kept vs [] v h = tt
  literals-kept vs (l ∷ ls) v h = (literal-kept vs l v h.0, literals-kept vs ls v h.1)

pub literals-push : (c : Contents) (vs : List ℕ) (ls : List Lit) (l : Lit) → AreLiteralsBuilt c vs ls → IsLiteralBuilt c vs l → AreLiteralsBuilt c vs (ls ++ l ∷ [])
literals-push c vs [] l h k = (k, tt)
literals-push c vs (m ∷ ls) l h k = (h.0, literals-push c vs ls l h.1 k)

literals-of : (c : Contents) (vs : List ℕ) (ls : List Lit) → AreLiteralsBuilt c vs ls → AreLiteralsOf c ls
literals-of c vs [] h = tt
literals-of c vs (l ∷ ls) h = (h.0.left, h.0.right, literals-of c vs ls h.1)

literals-typed : (c : Contents) (vs : List ℕ) (ls : List Lit) → AreLiteralsBuilt c vs ls → AreTyped (map (type_at c) vs) (map (literal_at c) ls)
literals-typed c vs [] h = tt
literals-typed c vs (l ∷ ls) h = (h.0.typed, literals-typed c vs ls h.1)

pub clause-typed : (c : Contents) (k : Clause) → AreTypesOf c k.vars → AreLiteralsBuilt c k.vars k.lits → IsTypedIn c k
clause-typed c k v h = record {
  of_bank = record { types_of = v; literals_of = literals-of c k.vars k.lits h };
  typed = literals-typed c k.vars k.lits h;
}

pub typed-kept : {c d : Contents} → Extends c d → (k : Clause) → IsTypedIn c k → IsTypedIn d k
typed-kept e k h = record { of_bank = clause-grow e k h.of_bank; typed = subst (λ (t : ClauseTree). IsTyped t) (sym (clause-kept e k h.of_bank)) h.typed }

-- ---- rules

pub no-terms : (c : Contents) {ts : List ℕ} → ts ≡ [] → AreTerms c ts
no-terms c e n t f = absurd (nothing n t (subst (λ (ts : List ℕ). slice_get ts n ≡ Some t) e f))
  where
    nothing : (n t : ℕ) → slice_get [] n ≡ Some t → ⊥
    nothing n t g = cc

pub terms-push : (c : Contents) (ts : List ℕ) (t : ℕ) → AreTerms c ts → t < length c.terms → AreTerms c (ts ++ t ∷ [])
terms-push c [] t h l zero u e = let f : t ≡ u = cc in rw (← f) l
terms-push c [] t h l (suc n) u e = absurd cc
terms-push c (x ∷ ts) t h l zero u e = h zero u e
terms-push c (x ∷ ts) t h l (suc n) u e = terms-push c ts t (λ m v f. h (suc m) v f) l n u e

pub plain-built : (c : Contents) (r : Rule) → IsPlain r → IsRuleBuilt c r
plain-built c (record_of.Axiom h) p = record { terms_of = tt; symbol_of = tt }
plain-built c (record_of.Convert q) p = record { terms_of = tt; symbol_of = tt }
plain-built c (record_of.Inst q sigma) p = absurd p
plain-built c (record_of.Para q i s r j t path) p = record { terms_of = tt; symbol_of = tt }
plain-built c (record_of.Arrange q) p = record { terms_of = tt; symbol_of = tt }
plain-built c (record_of.Drop q i) p = record { terms_of = tt; symbol_of = tt }
plain-built c (record_of.Logic q i kind a) p = record { terms_of = tt; symbol_of = tt }
plain-built c (record_of.BoolExt q i half) p = record { terms_of = tt; symbol_of = tt }
plain-built c (record_of.FuncExt q i a) p = record { terms_of = tt; symbol_of = tt }
plain-built c (record_of.Decompose q i) p = record { terms_of = tt; symbol_of = tt }
plain-built c record_of.Refl p = record { terms_of = tt; symbol_of = tt }
plain-built c record_of.Choice p = record { terms_of = tt; symbol_of = tt }
plain-built c (record_of.Factor q i j) p = record { terms_of = tt; symbol_of = tt }
plain-built c (record_of.Abbreviate s) p = absurd p

pub plain-introduces : (r : Rule) → IsPlain r → introduced_by r ≡ []
plain-introduces (record_of.Axiom h) p = refl
plain-introduces (record_of.Convert q) p = refl
plain-introduces (record_of.Inst q sigma) p = absurd p
plain-introduces (record_of.Para q i s r j t path) p = refl
plain-introduces (record_of.Arrange q) p = refl
plain-introduces (record_of.Drop q i) p = refl
plain-introduces (record_of.Logic q i kind a) p = refl
plain-introduces (record_of.BoolExt q i half) p = refl
plain-introduces (record_of.FuncExt q i a) p = refl
plain-introduces (record_of.Decompose q i) p = refl
plain-introduces record_of.Refl p = refl
plain-introduces record_of.Choice p = refl
plain-introduces (record_of.Factor q i j) p = refl
plain-introduces (record_of.Abbreviate s) p = absurd p

-- ---- a symbol

pub below-later : (o : Option ℕ) (m n : ℕ) → m ≤ n → IfSome o (λ s. s < m) → IfSome o (λ s. s < n)
below-later None m n l h = tt
below-later (Some s) m n l h = let k : s < m = h in omega arith
