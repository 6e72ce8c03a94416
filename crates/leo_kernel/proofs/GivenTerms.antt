-- Terms that may be put in for the variables of a clause.
use Rattle.std.proofs.Common.{ℕ, nat_eq, ◌≡◌, ◌∙◌, ◌<◌, ◌≤◌, Bool, true, false, not, List, [], ◌∷◌, length, map, take, slice_index_or, refl, sym, ap, arith}
use Rattle.std.specs.Bool.{Decides}
use Rattle.std.proofs.lemmas.Bool.Decides.{nat_tests}
use Rattle.leo_q0.specs.Terms.{SimpleType}
use Rattle.leo_terms.specs.Tree.{Tree, type_of}
use Rattle.leo_terms.specs.Contents.{Contents, IsBank, type_at, tree_at, type_number}
use Rattle.leo_terms.proofs.CallerLemmas.{type-shared, type_of-term, type_number-within}
use Rattle.leo_clause.specs.declared.clause.Lit.{Lit}
use Rattle.leo_clause.specs.Trees.{Literal, literal_at}
use Rattle.leo_clause.specs.Typed.{IsOver}
use Rattle.leo_clause.specs.Renaming.{AreGiven}
use Rattle.leo_kernel.specs.declared.leaves.LeafTest.TheVariants.{Over, Declared}
use Rattle.leo_kernel.specs.Conditions.{AreTermsFor}
use Rattle.leo_kernel.specs.Leaves.{leaves_pass, AreDeclared}
use Rattle.leo_kernel.proofs.LeafTests.{over-passes, passes-over, given-passes, passes-given}
use Rattle.leo_kernel.proofs.Lists.{Each, each-get, each-whole, get-index}
use Rattle.leo_kernel.proofs.Pairs.{Pairs, pairs-index, pairs-length, pairs-whole}
use Rattle.leo_kernel.proofs.TypedLits.{no, yes, not-both}

apart : (m n : ℕ) (r : Bool) → r ≡ not (nat_eq m n) → r ≡ true → m ≡ n → ⊥
apart m n r e t f = grind (arith, nat_tests)

together : (m n : ℕ) (r : Bool) → r ≡ not (nat_eq m n) → r ≡ false → m ≡ n
together m n r e t = grind (arith, nat_tests)

module _ (c : Contents) (b : IsBank c) (vs : List SimpleType) (a t : ℕ) (in_types : a < length c.types) (in_terms : t < length c.terms) (n : ℕ) (number : n ≡ type_number c t) (r : Bool) (test : r ≡ not (nat_eq n a)) where
  pub term-other_type : r ≡ true → Decides false ((type_of (tree_at c t) ≡ type_at c a) × IsOver vs 0 (tree_at c t))
  term-other_type h =
      no (λ x. apart n a r test h (number ∙ type-shared b (type_number c t) a (type_number-within b t in_terms) in_types (sym (type_of-term b t in_terms) ∙ x.0)))

  pub term-fits : r ≡ false → (p : Bool) → p ≡ leaves_pass Over vs 0 (tree_at c t) → Decides p ((type_of (tree_at c t) ≡ type_at c a) × IsOver vs 0 (tree_at c t))
  term-fits h p e = (
    λ x. (type_of-term b t in_terms ∙ ap (type_at c) (sym number ∙ together n a r test h), passes-over vs 0 (tree_at c t) (sym e ∙ x)),
    λ x. e ∙ over-passes vs 0 (tree_at c t) x.1,
  )

module _ (c : Contents) (vs : List SimpleType) where
  fit-pairs : (xs ts : List ℕ) → AreTermsFor vs (map (type_at c) xs) (map (tree_at c) ts) → Pairs (λ (a t : ℕ). (type_of (tree_at c t) ≡ type_at c a) × IsOver vs 0 (tree_at c t)) xs ts
  fit-pairs [] [] h = tt
  fit-pairs [] (t ∷ ts) h = h
  fit-pairs (a ∷ xs) [] h = h
  fit-pairs (a ∷ xs) (t ∷ ts) h = ((h.0, h.1), fit-pairs xs ts h.2)

  pairs-fit : (xs ts : List ℕ) → Pairs (λ (a t : ℕ). (type_of (tree_at c t) ≡ type_at c a) × IsOver vs 0 (tree_at c t)) xs ts → AreTermsFor vs (map (type_at c) xs) (map (tree_at c) ts)
  pairs-fit [] [] h = tt
  pairs-fit [] (t ∷ ts) h = h
  pairs-fit (a ∷ xs) [] h = h
  pairs-fit (a ∷ xs) (t ∷ ts) h = (h.0.0, h.0.1, pairs-fit xs ts h.1)

  pub terms-length : (xs ts : List ℕ) → (length xs ≡ length ts → ⊥) → Decides false (AreTermsFor vs (map (type_at c) xs) (map (tree_at c) ts))
  terms-length xs ts f = no (λ h. f (pairs-length _ xs ts (fit-pairs xs ts h)))

  pub terms-fit : (xs ts : List ℕ) (n : ℕ) → length xs ≤ n → length xs ≡ length ts → Pairs (λ (a t : ℕ). (type_of (tree_at c t) ≡ type_at c a) × IsOver vs 0 (tree_at c t)) (take n xs) (take n ts) → Decides true (AreTermsFor vs (map (type_at c) xs) (map (tree_at c) ts))
  terms-fit xs ts n l e h = yes (pairs-fit xs ts (pairs-whole _ xs ts n l e h))

  pub term-unfit : (xs ts : List ℕ) (i a t : ℕ) (r : Bool) → i < length xs → length xs ≡ length ts → a ≡ slice_index_or xs i a → t ≡ slice_index_or ts i t → Decides r ((type_of (tree_at c t) ≡ type_at c a) × IsOver vs 0 (tree_at c t)) → r ≡ false → Decides false (AreTermsFor vs (map (type_at c) xs) (map (tree_at c) ts))
  term-unfit xs ts i a t r l e f g d h = no (λ k. not-both r d h (pairs-index (λ (a t : ℕ). (type_of (tree_at c t) ≡ type_at c a) × IsOver vs 0 (tree_at c t)) xs ts i a t (fit-pairs xs ts k) l (omega arith) f g))

  fit-types : (xs : List SimpleType) (ts : List Tree) → AreTermsFor vs xs ts → map type_of ts ≡ xs
  fit-types [] [] h = refl
  fit-types [] (t ∷ ts) h = absurd h
  fit-types (a ∷ xs) [] h = absurd h
  fit-types (a ∷ xs) (t ∷ ts) h = rw (h.0, fit-types xs ts h.2) refl

declared-each : (c : Contents) (vs : List SimpleType) (ls : List Lit) → AreDeclared vs (map (literal_at c) ls) → Each (λ (k : Lit). (leaves_pass Declared vs 0 (tree_at c k.left) ≡ true) × (leaves_pass Declared vs 0 (tree_at c k.right) ≡ true)) ls
declared-each c vs [] h = tt
declared-each c vs (l ∷ ls) h = ((h.0, h.1), declared-each c vs ls h.2)

each-declared : (c : Contents) (vs : List SimpleType) (ls : List Lit) → Each (λ (k : Lit). (leaves_pass Declared vs 0 (tree_at c k.left) ≡ true) × (leaves_pass Declared vs 0 (tree_at c k.right) ≡ true)) ls → AreDeclared vs (map (literal_at c) ls)
each-declared c vs [] h = tt
each-declared c vs (l ∷ ls) h = (h.0.0, h.0.1, each-declared c vs ls h.1)

pub all-declared : (c : Contents) (vs : List SimpleType) (ls : List Lit) (n : ℕ) → length ls ≤ n → Each (λ (k : Lit). (leaves_pass Declared vs 0 (tree_at c k.left) ≡ true) × (leaves_pass Declared vs 0 (tree_at c k.right) ≡ true)) (take n ls) → Decides true (AreDeclared vs (map (literal_at c) ls))
all-declared c vs ls n l h = yes (each-declared c vs ls (each-whole _ ls n l h))

pub one-undeclared : (c : Contents) (vs : List SimpleType) (ls : List Lit) (i : ℕ) (l : Lit) (r : Bool) → i < length ls → l ≡ slice_index_or ls i l → Decides r ((leaves_pass Declared vs 0 (tree_at c l.left) ≡ true) × (leaves_pass Declared vs 0 (tree_at c l.right) ≡ true)) → r ≡ false → Decides false (AreDeclared vs (map (literal_at c) ls))
one-undeclared c vs ls i l r lt e d f =
    no (λ h. not-both r d f (each-get (λ (k : Lit). (leaves_pass Declared vs 0 (tree_at c k.left) ≡ true) × (leaves_pass Declared vs 0 (tree_at c k.right) ≡ true)) ls i l (declared-each c vs ls h) (get-index ls i l lt e)))

pub given-of : (terms : List Tree) (ls : List Literal) → AreDeclared (map type_of terms) ls → AreGiven terms ls
given-of terms [] h = tt
given-of terms (l ∷ ls) h = (passes-given terms 0 l.left h.0, passes-given terms 0 l.right h.1, given-of terms ls h.2)

of-given : (terms : List Tree) (ls : List Literal) → AreGiven terms ls → AreDeclared (map type_of terms) ls
of-given terms [] h = tt
of-given terms (l ∷ ls) h = (given-passes terms 0 l.left h.0, given-passes terms 0 l.right h.1, of-given terms ls h.2)

pub given-decides : (c : Contents) (vs : List SimpleType) (xs : List SimpleType) (terms : List Tree) (ls : List Literal) (p q : Bool) → Decides p (AreTermsFor vs xs terms) → p ≡ true → Decides q (AreDeclared xs ls) → Decides q (AreTermsFor vs xs terms × AreGiven terms ls)
given-decides c vs xs terms ls p q d e f =
    let h = d.0 e in
    let g : Decides q (AreDeclared (map type_of terms) ls) = rw (fit-types c vs xs terms h) f in
    (λ x. (h, given-of terms ls (g.0 x)), λ x. g.1 (of-given terms ls x.1))
