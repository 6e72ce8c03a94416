-- Terms and literals without a symbol.
use Rattle.std.proofs.Common.{ℕ, ◌≡◌, ◌<◌, ◌≤◌, Bool, true, false, List, [], ◌∷◌, length, map, take, slice_index_or}
use Rattle.std.specs.Bool.{Decides}
use Rattle.leo_terms.specs.Tree.{Tree}
use Rattle.leo_terms.specs.Contents.{Contents, tree_at}
use Rattle.leo_clause.specs.declared.clause.Lit.{Lit}
use Rattle.leo_clause.specs.Trees.{literal_at}
use Rattle.leo_kernel.specs.declared.leaves.LeafTest.TheVariants.{Lacks}
use Rattle.leo_kernel.specs.Leaves.{leaves_pass}
use Rattle.leo_kernel.specs.Symbols.{LacksSymbol, LackSymbol, LiteralsLackSymbol}
use Rattle.leo_kernel.proofs.LeafTests.{lacks-passes, passes-lacks, decides}
use Rattle.leo_kernel.proofs.Lists.{Each, each-get, each-whole, get-index}
use Rattle.leo_kernel.proofs.TypedLits.{no, yes, not-both}

pub lacks-decides : (s : ℕ) (t : Tree) (b : Bool) → b ≡ leaves_pass (Lacks s) [] 0 t → Decides b (LacksSymbol s t)
lacks-decides s t b e = decides b (leaves_pass (Lacks s) [] 0 t) e (lacks-passes s [] 0 t) (passes-lacks s [] 0 t)

terms-each : (c : Contents) (s : ℕ) (ts : List ℕ) → LackSymbol s (map (tree_at c) ts) → Each (λ (t : ℕ). LacksSymbol s (tree_at c t)) ts
terms-each c s [] h = tt
terms-each c s (t ∷ ts) h = (h.0, terms-each c s ts h.1)

each-terms : (c : Contents) (s : ℕ) (ts : List ℕ) → Each (λ (t : ℕ). LacksSymbol s (tree_at c t)) ts → LackSymbol s (map (tree_at c) ts)
each-terms c s [] h = tt
each-terms c s (t ∷ ts) h = (h.0, each-terms c s ts h.1)

lits-each : (c : Contents) (s : ℕ) (ls : List Lit) → LiteralsLackSymbol s (map (literal_at c) ls) → Each (λ (k : Lit). LacksSymbol s (tree_at c k.left) × LacksSymbol s (tree_at c k.right)) ls
lits-each c s [] h = tt
lits-each c s (l ∷ ls) h = ((h.0, h.1), lits-each c s ls h.2)

each-lits : (c : Contents) (s : ℕ) (ls : List Lit) → Each (λ (k : Lit). LacksSymbol s (tree_at c k.left) × LacksSymbol s (tree_at c k.right)) ls → LiteralsLackSymbol s (map (literal_at c) ls)
each-lits c s [] h = tt
each-lits c s (l ∷ ls) h = (h.0.0, h.0.1, each-lits c s ls h.1)

module _ (c : Contents) (s : ℕ) where
  pub all-lack : (ts : List ℕ) (n : ℕ) → length ts ≤ n → Each (λ (t : ℕ). LacksSymbol s (tree_at c t)) (take n ts) → Decides true (LackSymbol s (map (tree_at c) ts))
  all-lack ts n l h = yes (each-terms c s ts (each-whole _ ts n l h))

  pub one-has : (ts : List ℕ) (i t : ℕ) (r : Bool) → i < length ts → t ≡ slice_index_or ts i t → Decides r (LacksSymbol s (tree_at c t)) → r ≡ false → Decides false (LackSymbol s (map (tree_at c) ts))
  one-has ts i t r l e d f = no (λ h. not-both r d f (each-get (λ (t : ℕ). LacksSymbol s (tree_at c t)) ts i t (terms-each c s ts h) (get-index ts i t l e)))

  pub all-lits_lack : (ls : List Lit) (n : ℕ) → length ls ≤ n → Each (λ (k : Lit). LacksSymbol s (tree_at c k.left) × LacksSymbol s (tree_at c k.right)) (take n ls) → Decides true (LiteralsLackSymbol s (map (literal_at c) ls))
  all-lits_lack ls n l h = yes (each-lits c s ls (each-whole _ ls n l h))

  pub one-lit_has : (ls : List Lit) (i : ℕ) (l : Lit) (r : Bool) → i < length ls → l ≡ slice_index_or ls i l → Decides r (LacksSymbol s (tree_at c l.left) × LacksSymbol s (tree_at c l.right)) → r ≡ false → Decides false (LiteralsLackSymbol s (map (literal_at c) ls))
  one-lit_has ls i l r lt e d f = no (λ h. not-both r d f (each-get (λ (k : Lit). LacksSymbol s (tree_at c k.left) × LacksSymbol s (tree_at c k.right)) ls i l (lits-each c s ls h) (get-index ls i l lt e)))
