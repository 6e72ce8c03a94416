-- Steps along a path, in a term and in one that may be it with something else at the path's end; and the same for literals.
use Rattle.std.proofs.Common.{ℕ, nat_eq, ◌≡◌, ◌+◌, ◌<◌, ◌≤◌, Bool, true, false, not, List, [], ◌∷◌, length, drop, slice_index_or, Some, None, sym, ap, arith}
use Rattle.std.specs.Prelude.{◌↔◌}
use Rattle.std.specs.Bool.{Decides}
use Rattle.std.proofs.lemmas.Bool.Decides.{nat_tests}
use Rattle.leo_terms.specs.Tree.{Tree}
use Rattle.leo_terms.specs.Typing.{IsPresent}
use Rattle.leo_terms.specs.Contents.{Contents, IsBank}
use Rattle.leo_terms.proofs.CallerLemmas.{term-shared}
use Rattle.leo_clause.specs.declared.clause.Lit.{Lit}
use Rattle.leo_clause.specs.declared.record.Side.TheVariants.{Left, Right}
use Rattle.leo_clause.specs.Trees.{Literal, literal_at}
use Rattle.leo_kernel.specs.Conditions.{LeadsTo}
use Rattle.leo_kernel.specs.Places.{child, replaced_at, replaced_in}
use Rattle.leo_kernel.specs.Moved.{put_child}
use Rattle.leo_kernel.proofs.TypedLits.{no, not-both}
use Rattle.leo_kernel.proofs.Paths.{drop-at, drop-all, index-default}
use Rattle.leo_kernel.proofs.ReplacedTerms.{replaced-childless, replaced-rest, replaced-step}

module _ (whole new r s u : Tree) (path : List ℕ) (i : ℕ) (inv : (new ≡ replaced_at path r whole) ↔ (u ≡ replaced_at (drop i path) r s)) where
  pub path-end : length path ≤ i → (x : Bool) → Decides x (u ≡ r) → Decides x (new ≡ replaced_at path r whole)
  path-end l x d =
      let e : drop i path ≡ [] = drop-all path i l in
      (λ h. inv.1 (rw e (d.0 h)), λ h. d.1 (let g : u ≡ replaced_at [] r s = rw e at (inv.0 h) in g))

  module _ (l : i < length path) (a : Tree) (e : Some a ≡ child (slice_index_or path i 0) s) where
    split : drop i path ≡ slice_index_or path i 0 ∷ drop (i + 1) path
    split = drop-at path i (slice_index_or path i 0) l (index-default path i l)

    pub leads-next : LeadsTo (drop i path) s → LeadsTo (drop (i + 1) path) a
    leads-next h = (let g : LeadsTo (slice_index_or path i 0 ∷ drop (i + 1) path) s = rw split at h in rw (← e) at g)

    module _ (p : IsPresent r) (q : IsPresent a) where
      here : new ≡ replaced_at path r whole → u ≡ replaced_at (slice_index_or path i 0 ∷ drop (i + 1) path) r s
      here h = rw split at (inv.0 h)

      pub path-childless : None ≡ child (slice_index_or path i 0) u → Decides false (new ≡ replaced_at path r whole)
      path-childless f = no (λ h. replaced-childless (slice_index_or path i 0) (drop (i + 1) path) r s u a p q (sym e) (sym f) (here h))

      module _ (b : Tree) (f : Some b ≡ child (slice_index_or path i 0) u) where
        pub path-other : (x : Bool) → Decides x (u ≡ put_child (slice_index_or path i 0) b s) → x ≡ false → Decides false (new ≡ replaced_at path r whole)
        path-other x d g = no (λ h. not-both x d g (replaced-rest (slice_index_or path i 0) (drop (i + 1) path) r s u a p q (sym e) b (sym f) (here h)))

        pub path-step : u ≡ put_child (slice_index_or path i 0) b s → (new ≡ replaced_at path r whole) ↔ (b ≡ replaced_at (drop (i + 1) path) r a)
        path-step g =
            let k = replaced-step (slice_index_or path i 0) (drop (i + 1) path) r s u a p q (sym e) b (sym f) g in
            (λ h. k.0 (here h), λ h. inv.1 (rw split (k.1 h)))

apart : (m n : ℕ) (r : Bool) → r ≡ not (nat_eq m n) → r ≡ true → m ≡ n → ⊥
apart m n r e t f = grind (arith, nat_tests)

-- literals of a bank
module _ (c : Contents) (b : IsBank c) (l new : Lit) (path : List ℕ) (r : Tree) where
  pub right-differs : l.right < length c.terms → new.right < length c.terms → (q : Bool) → q ≡ not (nat_eq new.right l.right) → q ≡ true → Decides false (literal_at c new ≡ replaced_in Left path r (literal_at c l))
  right-differs h k q e f = no (λ g. apart new.right l.right q e f (term-shared b new.right l.right k h (ap (λ (x : Literal). x.right) g)))

  pub left-differs : l.left < length c.terms → new.left < length c.terms → (q : Bool) → q ≡ not (nat_eq new.left l.left) → q ≡ true → Decides false (literal_at c new ≡ replaced_in Right path r (literal_at c l))
  left-differs h k q e f = no (λ g. apart new.left l.left q e f (term-shared b new.left l.left k h (ap (λ (x : Literal). x.left) g)))
