-- Children and paths in terms of a bank.
use Rattle.std.proofs.Common.{ℕ, zero, suc, ◌≡◌, ◌∙◌, ◌+◌, ◌<◌, ◌≤◌, List, [], ◌∷◌, length, drop, slice_index_or, Option, Some, None, refl, sym, ap, arith}
use Rattle.std.specs.Option.{option_map}
use Rattle.leo_terms.specs.Tree.{Tree, variable, bound, symbol, app, lam, logic, absent, Connective}
use Rattle.leo_terms.specs.Typing.{IsPresent}
use Rattle.leo_terms.specs.Contents.{Contents, IsBank, IsArgumentBelow, argument, tree_at}
use Rattle.leo_terms.proofs.CallerLemmas.{term-present}
use Rattle.leo_kernel.specs.Places.{child, present, subterm}
use Rattle.leo_kernel.specs.ByNumber.{app_child_of, logic_child_of}

pub present-itself : (t : Tree) → IsPresent t → present t ≡ Some t
present-itself absent h = absurd h
present-itself (variable n a) h = refl
present-itself (bound i a) h = refl
present-itself (symbol n a) h = refl
present-itself (app f x) h = refl
present-itself (lam a t) h = refl
present-itself (logic c x y) h = refl

module _ (c : Contents) (b : IsBank c) where
  present-argument : (x : Option ℕ) → IsArgumentBelow (length c.terms) x → option_map (tree_at c) x ≡ present (argument (tree_at c) x)
  present-argument None h = refl
  present-argument (Some t) h = sym (present-itself (tree_at c t) (term-present b t h))

  pub app-child : (f a n : ℕ) → option_map (tree_at c) (app_child_of f a n) ≡ child n (app (tree_at c f) (tree_at c a))
  app-child f a zero = refl
  app-child f a (suc zero) = refl
  app-child f a (suc (suc n)) = refl

  pub app-child_below : (f a n : ℕ) → f < length c.terms → a < length c.terms → IsArgumentBelow (length c.terms) (app_child_of f a n)
  app-child_below f a zero h k = h
  app-child_below f a (suc zero) h k = k
  app-child_below f a (suc (suc n)) h k = tt

  pub logic-child : (o : Connective) (x y : Option ℕ) (n : ℕ) → IsArgumentBelow (length c.terms) x → IsArgumentBelow (length c.terms) y → option_map (tree_at c) (logic_child_of x y n) ≡ child n (logic o (argument (tree_at c) x) (argument (tree_at c) y))
  logic-child o x y zero h k = present-argument x h
  logic-child o x y (suc zero) h k = present-argument y k
  logic-child o x y (suc (suc n)) h k = refl

  pub logic-child_below : (x y : Option ℕ) (n : ℕ) → IsArgumentBelow (length c.terms) x → IsArgumentBelow (length c.terms) y → IsArgumentBelow (length c.terms) (logic_child_of x y n)
  logic-child_below x y zero h k = h
  logic-child_below x y (suc zero) h k = k
  logic-child_below x y (suc (suc n)) h k = tt

pub drop-at : (path : List ℕ) (i n : ℕ) → i < length path → n ≡ slice_index_or path i n → drop i path ≡ n ∷ drop (i + 1) path
drop-at [] i n l e = absurd (omega arith)
drop-at (m ∷ path) zero n l e = ap (λ (k : ℕ). k ∷ path) (sym e)
drop-at (m ∷ path) (suc i) n l e = let k : suc i + 1 ≡ suc (i + 1) = omega arith in rw k (drop-at path i n (omega arith) e)

pub drop-all : (path : List ℕ) (i : ℕ) → length path ≤ i → drop i path ≡ []
drop-all [] zero l = refl
drop-all [] (suc i) l = refl
drop-all (m ∷ path) zero l = absurd (omega arith)
drop-all (m ∷ path) (suc i) l = drop-all path i (omega arith)

pub index-default : (path : List ℕ) (i : ℕ) → i < length path → slice_index_or path i 0 ≡ slice_index_or path i (slice_index_or path i 0)
index-default [] i l = absurd (omega arith)
index-default (m ∷ path) zero l = refl
index-default (m ∷ path) (suc i) l = default-free path i _ _ (omega arith)
  where
    default-free : (path : List ℕ) (i m n : ℕ) → i < length path → slice_index_or path i m ≡ slice_index_or path i n
    default-free [] i m n l = absurd (omega arith)
    default-free (k ∷ path) zero m n l = refl
    default-free (k ∷ path) (suc i) m n l = default-free path i m n (omega arith)

module _ (whole s : Tree) (path : List ℕ) (i : ℕ) (e : subterm path whole ≡ subterm (drop i path) s) where
  -- a step further, a step that leads nowhere, and the end
  pub path-next : (t : Tree) → i < length path → Some t ≡ child (slice_index_or path i 0) s → subterm path whole ≡ subterm (drop (i + 1) path) t
  path-next t l h = e ∙ ap (λ (p : List ℕ). subterm p s) (drop-at path i (slice_index_or path i 0) l (index-default path i l)) ∙ rw (← h) refl

  pub path-fails : i < length path → None ≡ child (slice_index_or path i 0) s → None ≡ subterm path whole
  path-fails l h = sym (e ∙ ap (λ (p : List ℕ). subterm p s) (drop-at path i (slice_index_or path i 0) l (index-default path i l)) ∙ rw (← h) refl)

  pub path-ends : length path ≤ i → Some s ≡ subterm path whole
  path-ends l = sym (e ∙ ap (λ (p : List ℕ). subterm p s) (drop-all path i l))

pub argument-within : (t m : ℕ) (x : Option ℕ) → IsArgumentBelow t x → t < m → IsArgumentBelow m x
argument-within t m None h l = tt
argument-within t m (Some x) h l = omega arith

-- what stands there
pub found : (c : Contents) (o : Option ℕ) (t : ℕ) → o ≡ Some t → IsArgumentBelow (length c.terms) o → t < length c.terms
found c o t e h = let k : IsArgumentBelow (length c.terms) (Some t) = rw e at h in k
