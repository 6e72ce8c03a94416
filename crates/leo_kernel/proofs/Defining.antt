-- Clauses that define a new symbol by a closed term without it.
use Rattle.std.proofs.Common.{ℕ, ◌≡◌, ◌∙◌, Bool, true, List, [], ◌∷◌, map, Some, sym, ap, subst}
use Rattle.std.specs.Bool.{Decides}
use Rattle.leo_q0.specs.Terms.{SimpleType}
use Rattle.leo_terms.specs.Tree.{Tree, symbol}
use Rattle.leo_terms.specs.Contents.{Contents, tree_at}
use Rattle.leo_clause.specs.declared.clause.Lit.{Lit}
use Rattle.leo_clause.specs.Trees.{Literal, literal_at}
use Rattle.leo_kernel.specs.declared.leaves.LeafTest.TheVariants.{Declared}
use Rattle.leo_kernel.specs.Leaves.{leaves_pass}
use Rattle.leo_kernel.specs.Shapes.{equal}
use Rattle.leo_kernel.specs.ByNumber.{only, is_symbol_tree}
use Rattle.leo_kernel.specs.Symbols.{HasNoVariable, LacksSymbol, LackSymbol, LinesLackSymbol, IsNewSymbol}
use Rattle.leo_kernel.specs.Steps.{Line}
use Rattle.leo_kernel.proofs.LeafTests.{decides, no_variable-passes, passes-no_variable}
use Rattle.leo_kernel.proofs.Definitions.{the-symbol, only-item, literal-of}

pub no_variable-decides : (t : Tree) (b : Bool) → b ≡ leaves_pass Declared [] 0 t → Decides b (HasNoVariable t)
no_variable-decides t b e = decides b (leaves_pass Declared [] 0 t) e (no_variable-passes 0 t) (passes-no_variable 0 t)

one-head : (l k : Literal) → l ∷ [] ≡ k ∷ [] → l ≡ k
one-head l k e = cc

module _ (c : Contents) (s : ℕ) (lits : List Lit) where
  abbrev Fresh : Type 0
  Fresh = ((a : SimpleType) (t : Tree) → map (literal_at c) lits ≡ equal (symbol s a) t ∷ [] → HasNoVariable t) × ((a : SimpleType) (t : Tree) → map (literal_at c) lits ≡ equal (symbol s a) t ∷ [] → LacksSymbol s t)

  module _ (l : Lit) (o : Some l ≡ only lits) where
    listed : lits ≡ l ∷ []
    listed = only-item lits l (sym o)

    literal-is : (a : SimpleType) (t : Tree) → map (literal_at c) lits ≡ equal (symbol s a) t ∷ [] → literal_at c l ≡ equal (symbol s a) t
    literal-is a t e = one-head (literal_at c l) (equal (symbol s a) t) (rw listed at e)

    pub fresh-decides : l.pos ≡ true → (r : Bool) → r ≡ is_symbol_tree s (tree_at c l.left) → r ≡ true → (b : Bool) → Decides b (HasNoVariable (tree_at c l.right) × LacksSymbol s (tree_at c l.right)) → Decides b Fresh
    fresh-decides p r q f b d =
        let found = the-symbol s (tree_at c l.left) (sym q ∙ f) in
        let is : map (literal_at c) lits ≡ equal (symbol s found.0) (tree_at c l.right) ∷ [] = rw listed (ap (λ (x : Literal). x ∷ []) (literal-of l.pos (tree_at c l.left) (tree_at c l.right) s found.0 p found.1)) in (
          λ h. (
            λ a t e. subst HasNoVariable (ap (λ (x : Literal). x.right) (literal-is a t e)) (d.0 h).0,
            λ a t e. subst (LacksSymbol s) (ap (λ (x : Literal). x.right) (literal-is a t e)) (d.0 h).1,
          ),
          λ n. d.1 (n.0 found.0 (tree_at c l.right) is, n.1 found.0 (tree_at c l.right) is),
        )

module _ (hypotheses : List Tree) (lines : List Line) (s : ℕ) (literals : List Literal) where
  pub new-decides : (p q r : Bool) → Decides p (LackSymbol s hypotheses) → p ≡ true → Decides q (LinesLackSymbol s lines) → q ≡ true → Decides r (((a : SimpleType) (t : Tree) → literals ≡ equal (symbol s a) t ∷ [] → HasNoVariable t) × ((a : SimpleType) (t : Tree) → literals ≡ equal (symbol s a) t ∷ [] → LacksSymbol s t)) → Decides r (IsNewSymbol hypotheses lines s literals)
  new-decides p q r d e f g h = (
    λ k. record { hypotheses_lack = d.0 e; lines_lack = f.0 g; no_variable = (h.0 k).0; term_lacks = (h.0 k).1 },
    λ n. h.1 (n.no_variable, n.term_lacks),
  )
