-- Facts of terms, from those of their parts, and what follows from them.
use Rattle.std.proofs.Common.{ℕ, zero, suc, ◌≡◌, ◌+◌, ◌-◌, ◌^◌, ◌<◌, ◌≤◌, Bool, true, false, nat_lt, List, [], ◌∷◌, ◌++◌, length, take, slice_get, Option, Some, None, refl, sym, ◌∙◌, ap, ◌⊎◌, inl, inr, arith}
use Rattle.std.specs.Prelude.{min, max}
use Rattle.std.specs.Bool.{if◌then◌else◌}
use Rattle.std.proofs.lemmas.Bool.Decides.{nat_tests}
use Rattle.std.proofs.lemmas.Option.{slice_get_within}
use Rattle.leo_q0.specs.Terms.{SimpleType}
use Rattle.leo_terms.specs.declared.facts.TermFacts.{TermFacts}
use Rattle.leo_terms.specs.declared.node.View.{View}
use Rattle.leo_terms.specs.declared.node.View.TheVariants.{Var, Bound, Sym, App, Lam, Logic}
use Rattle.leo_terms.specs.declared.node.TermNode.{TermNode}
use Rattle.leo_terms.specs.Tree.{Tree, variable, bound, symbol, app, lam, logic, absent, Connective, IsBoundAt, IsGiven, lifted, substituted}
use Rattle.leo_terms.specs.Contents.{Contents, IsSound, IsSoundNode, IsSoundView, IsArgumentBelow, Grows, node, type_at, tree_at, view_tree}
use Rattle.leo_terms.specs.Facts.{tree_weight, loose_range, variable_range}
use Rattle.leo_terms.specs.Marks.{IsPartOf}
use Rattle.leo_terms.specs.KeptFacts.{AreFactsOf, AreFacts}
use Rattle.leo_terms.proofs.Growth.{slice_get-some, tree-keeps, IsKept-length, IsTerm-added}
use Rattle.leo_terms.proofs.TreeLemmas.{lifted-below}

-- one kind of term each
pub facts-var : (n : ℕ) (a : SimpleType) → AreFactsOf (variable n a) (record { weight = 1; loose = 0; variables = n + 1 })
facts-var n a = record { weight = omega arith; loose = refl; variables = omega arith }

pub facts-bound : (i : ℕ) (a : SimpleType) → AreFactsOf (bound i a) (record { weight = 1; loose = i + 1; variables = 0 })
facts-bound i a = record { weight = omega arith; loose = omega arith; variables = refl }

pub facts-sym : (s : ℕ) (a : SimpleType) → AreFactsOf (symbol s a) (record { weight = min (0 + 1) (2 ^ 64 - 1); loose = 0; variables = 0 })
facts-sym s a = record { weight = omega arith; loose = refl; variables = refl }

pub facts-none : AreFactsOf absent (record { weight = 0; loose = 0; variables = 0 })
facts-none = record { weight = omega arith; loose = refl; variables = refl }

sum-saturated : (a b m : ℕ) → min (min a m + min b m) m ≡ min (a + b) m
sum-saturated a b m = omega arith

next-saturated : (a m : ℕ) → 0 < m → min (min a m + 1) m ≡ min (suc a) m
next-saturated a m h = omega arith

pub facts-app : (s t : Tree) (f g : TermFacts) → AreFactsOf s f → AreFactsOf t g → AreFactsOf (app s t) (record { weight = min (f.weight + g.weight) (2 ^ 64 - 1); loose = max f.loose g.loose; variables = max f.variables g.variables })
facts-app s t f g p q = record {
  weight = rw (p.weight, q.weight) (sum-saturated (tree_weight s) (tree_weight t) (2 ^ 64 - 1));
  loose = rw (p.loose, q.loose) refl;
  variables = rw (p.variables, q.variables) refl;
}

pub facts-lam : (a : SimpleType) (t : Tree) (f : TermFacts) → AreFactsOf t f → AreFactsOf (lam a t) (record { weight = min (f.weight + 1) (2 ^ 64 - 1); loose = f.loose - 1; variables = f.variables })
facts-lam a t f p = record {
  weight = rw p.weight (next-saturated (tree_weight t) (2 ^ 64 - 1) (omega arith));
  loose = rw p.loose refl;
  variables = p.variables;
}

pub facts-logic : (c : Connective) (s t : Tree) (f g : TermFacts) → AreFactsOf s f → AreFactsOf t g → AreFactsOf (logic c s t) (record { weight = min (min (f.weight + g.weight) (2 ^ 64 - 1) + 1) (2 ^ 64 - 1); loose = max f.loose g.loose; variables = max f.variables g.variables })
facts-logic c s t f g p q =
    let j = facts-app s t f g p q in
    record {
      weight = rw j.weight (next-saturated (tree_weight s + tree_weight t) (2 ^ 64 - 1) (omega arith));
      loose = j.loose;
      variables = j.variables;
    }

-- facts in a bank that grows
pub facts-kept : (c d : Contents) (fs : List TermFacts) → Grows c d → length d.terms ≡ length c.terms → AreFacts c fs → AreFacts d fs
facts-kept c d fs g e h = record {
  same_length = h.same_length ∙ sym e;
  right = λ t f k. (let l = slice_get_within fs t f k in let m = h.same_length in rw (tree-keeps c d g.old_sound g.keeps t (omega arith)) (h.right t f k));
}

module _ {X : Type 0} where
  take-all : (xs : List X) (x : X) (n : ℕ) → n ≡ length xs → take n (xs ++ x ∷ []) ≡ xs
  take-all [] x n e = rw e refl
  take-all (y ∷ xs) x n e = rw e (ap (λ ys. y ∷ ys) (take-all xs x (length xs) refl))

  take-more : (xs : List X) (x : X) (n : ℕ) → n ≡ suc (length xs) → take n (xs ++ x ∷ []) ≡ xs ++ x ∷ []
  take-more [] x n e = rw e refl
  take-more (y ∷ xs) x n e = rw e (ap (λ ys. y ∷ ys) (take-more xs x (suc (length xs)) refl))

  length-more : (xs : List X) (x : X) → length (xs ++ x ∷ []) ≡ suc (length xs)
  length-more [] x = refl
  length-more (y ∷ xs) x = ap suc (length-more xs x)

  last_or_before : (xs : List X) (x : X) (t : ℕ) (y : X) → slice_get (xs ++ x ∷ []) t ≡ Some y → (slice_get xs t ≡ Some y) ⊎ ((t ≡ length xs) × (x ≡ y))
  last_or_before [] x zero y h = inr (refl, cc)
  last_or_before [] x (suc t) y h = (let f : ⊥ = cc in absurd f)
  last_or_before (z ∷ xs) x zero y h = inl h
  last_or_before (z ∷ xs) x (suc t) y h = elim (last_or_before xs x t y h) [ inl k ↦ inl k | inr k ↦ inr (ap suc k.0, k.1) ]

  at_end : (xs : List X) (x : X) → slice_get (xs ++ x ∷ []) (length xs) ≡ Some x
  at_end [] x = refl
  at_end (y ∷ xs) x = at_end xs x

pub facts-added : (c d : Contents) (fs : List TermFacts) (f : TermFacts) (v : View) (i : ℕ) → Grows c d → IsSoundNode c (length c.terms) (node v i) → AreFacts c fs → AreFactsOf (view_tree c (tree_at c) v (type_at c i)) f → (b : Bool) → d.terms ≡ (if b then c.terms else c.terms ++ node v i ∷ []) → AreFacts d (take (length d.terms) (fs ++ f ∷ []))
facts-added c d fs f v i g s h k true e =
    let l : length d.terms ≡ length c.terms = ap length e in
    rw (take-all fs f (length d.terms) (l ∙ sym h.same_length)) (facts-kept c d fs g l h)
facts-added c d fs f v i g s h k false e =
    let l : length d.terms ≡ suc (length c.terms) = ap length e ∙ length-more c.terms (node v i) in
    let m : AreFacts d (fs ++ f ∷ []) = record {
      same_length = length-more fs f ∙ ap suc h.same_length ∙ sym l;
      right = λ t y q. at t y (last_or_before fs f t y q);
    } in
    rw (take-more fs f (length d.terms) (l ∙ ap suc (sym h.same_length))) m
  where
    at : (t : ℕ) (y : TermFacts) → (slice_get fs t ≡ Some y) ⊎ ((t ≡ length fs) × (f ≡ y)) → AreFactsOf (tree_at d t) y
    at t y (inl q) = (let l = slice_get_within fs t y q in let m = h.same_length in rw (tree-keeps c d g.old_sound g.keeps t (omega arith)) (h.right t y q))
    at t y (inr q) = rw (q.0 ∙ h.same_length, ← q.1, (IsTerm-added c d g v i s (length c.terms) (rw e (at_end c.terms (node v i)))).reads) k

pub facts-refused : (c : Contents) (fs : List TermFacts) (f : TermFacts) → AreFacts c fs → AreFacts c (take (length c.terms) (fs ++ f ∷ []))
facts-refused c fs f h = rw (take-all fs f (length c.terms) (sym h.same_length)) h

pub facts-found : (c : Contents) (fs : List TermFacts) → AreFacts c fs → (t : ℕ) (f : TermFacts) → slice_get fs t ≡ Some f → AreFactsOf (tree_at c t) f
facts-found c fs h = h.right

-- raising indices that do not occur changes nothing
pub lifted-closed : (t : Tree) (from by : ℕ) → loose_range t ≤ from → lifted from by t ≡ t
lifted-closed (variable n a) from by h = refl
lifted-closed (bound i a) from by h = lifted-below i from by a (omega arith)
lifted-closed (symbol s a) from by h = refl
lifted-closed (app f x) from by h = rw (lifted-closed f from by (omega arith), lifted-closed x from by (omega arith)) refl
lifted-closed (lam a t) from by h = ap (lam a) (lifted-closed t (from + 1) by (omega arith))
lifted-closed (logic c x y) from by h = rw (lifted-closed x from by (omega arith), lifted-closed y from by (omega arith)) refl
lifted-closed absent from by h = refl

-- and so does putting terms in for variables where there are none
pub substituted-closed : (t : Tree) (given : List Tree) (k : ℕ) → variable_range t ≡ 0 → substituted given k t ≡ t
substituted-closed (variable n a) given k h = (let f : ⊥ = omega arith in absurd f)
substituted-closed (bound i a) given k h = refl
substituted-closed (symbol s a) given k h = refl
substituted-closed (app f x) given k h = rw (substituted-closed f given k (omega arith), substituted-closed x given k (omega arith)) refl
substituted-closed (lam a t) given k h = ap (lam a) (substituted-closed t given (k + 1) h)
substituted-closed (logic c x y) given k h = rw (substituted-closed x given k (omega arith), substituted-closed y given k (omega arith)) refl
substituted-closed absent given k h = refl

pub facts-of_none : (c : Contents) (fs : List TermFacts) → c.terms ≡ [] → fs ≡ [] → AreFacts c fs
facts-of_none c fs e f = record {
  same_length = rw (e, f) refl;
  right = λ t g h. (let k = rw f at h in let d : ⊥ = cc in absurd d);
}

some_same : (i j : ℕ) → Some i ≡ Some j → i ≡ j
some_same i j e = cc

-- the parts of a sound view come before it
pub sound-part : (c : Contents) (n : ℕ) (v : View) (i : ℕ) → IsSoundView c n v i → (j : ℕ) → IsPartOf j v → j < n
sound-part c n (Var m) i h j p = elim p [ inl e ↦ (let f : ⊥ = cc in absurd f) | inr e ↦ (let f : ⊥ = cc in absurd f) ]
sound-part c n (Bound m) i h j p = elim p [ inl e ↦ (let f : ⊥ = cc in absurd f) | inr e ↦ (let f : ⊥ = cc in absurd f) ]
sound-part c n (Sym m) i h j p = elim p [ inl e ↦ (let f : ⊥ = cc in absurd f) | inr e ↦ (let f : ⊥ = cc in absurd f) ]
sound-part c n (App f x) i h j p = elim p [ inl e ↦ rw (← some_same f j e) h.function_below | inr e ↦ rw (← some_same x j e) h.argument_below ]
sound-part c n (Lam a t) i h j p = elim p [ inl e ↦ rw (← some_same t j e) h.body_below | inr e ↦ (let f : ⊥ = cc in absurd f) ]
sound-part c n (Logic o x y) i h j p = elim p [ inl e ↦ rw e at h.first_below | inr e ↦ rw e at h.second_below ]

-- an argument that may be missing
pub argument-within : (n : ℕ) (x : Option ℕ) → ((i : ℕ) → x ≡ Some i → i < n) → IsArgumentBelow n x
argument-within n None h = tt
argument-within n (Some x) h = h x refl

-- for callers: an index that does not occur has any type, and where there are no variables none wants a term
pub bound-closed : (t : Tree) (k : ℕ) (a : SimpleType) → loose_range t ≤ k → IsBoundAt k a t
bound-closed (variable n b) k a h = tt
bound-closed (bound i b) k a h = λ e. (let f : ⊥ = omega arith in absurd f)
bound-closed (symbol n b) k a h = tt
bound-closed (app f x) k a h = (bound-closed f k a (omega arith), bound-closed x k a (omega arith))
bound-closed (lam b t) k a h = bound-closed t (k + 1) a (omega arith)
bound-closed (logic c x y) k a h = (bound-closed x k a (omega arith), bound-closed y k a (omega arith))
bound-closed absent k a h = tt

pub given-closed : (t : Tree) (given : List Tree) → variable_range t ≡ 0 → IsGiven given t
given-closed (variable n b) given h = (let f : ⊥ = omega arith in absurd f)
given-closed (bound i b) given h = tt
given-closed (symbol n b) given h = tt
given-closed (app f x) given h = (given-closed f given (omega arith), given-closed x given (omega arith))
given-closed (lam b t) given h = given-closed t given h
given-closed (logic c x y) given h = (given-closed x given (omega arith), given-closed y given (omega arith))
given-closed absent given h = tt
