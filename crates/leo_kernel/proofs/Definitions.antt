-- Clauses that define a symbol, and functions that are applied to a fresh variable.
use Rattle.std.proofs.Common.{ℕ, nat_eq, ◌≡◌, ◌∙◌, ◌<◌, Bool, true, false, not, List, [], ◌∷◌, length, map, Some, refl, sym, ap, arith}
use Rattle.std.specs.Bool.{Decides}
use Rattle.std.proofs.lemmas.Bool.Decides.{nat_tests}
use Rattle.leo_q0.specs.Terms.{SimpleType}
use Rattle.leo_terms.specs.Tree.{Tree, variable, bound, symbol, app, lam, logic, absent, type_of}
use Rattle.leo_terms.specs.Contents.{Contents, IsBank, Extends, IsArrow, IsTerm, IsApplicable, tree_at, type_at, type_number}
use Rattle.leo_terms.proofs.CallerLemmas.{type_number-kept, arrow-kept, applicable, reads-arrow, type_of-term}
use Rattle.leo_clause.specs.declared.clause.Lit.{Lit}
use Rattle.leo_clause.specs.declared.clause.Clause.{Clause}
use Rattle.leo_clause.specs.Trees.{Literal, ClauseTree, literal_at, clause_at}
use Rattle.leo_kernel.specs.Shapes.{equal, domain}
use Rattle.leo_kernel.specs.Conclusions.{abbreviated}
use Rattle.leo_kernel.specs.ByNumber.{only, is_symbol_tree}

pub symbol-itself : (s : ℕ) (a : SimpleType) → is_symbol_tree s (symbol s a) ≡ true
symbol-itself s a = grind (arith, nat_tests)

equal-numbers : (m n : ℕ) → nat_eq m n ≡ true → m ≡ n
equal-numbers m n h = grind (arith, nat_tests)

pub the-symbol : (s : ℕ) (t : Tree) → is_symbol_tree s t ≡ true → (a : SimpleType) × (t ≡ symbol s a)
the-symbol s (symbol n a) e = (a, ap (λ (m : ℕ). symbol m a) (equal-numbers n s e))
the-symbol s (variable n a) e = (let f : ⊥ = cc in absurd f)
the-symbol s (bound n a) e = (let f : ⊥ = cc in absurd f)
the-symbol s (app f x) e = (let f : ⊥ = cc in absurd f)
the-symbol s (lam a t) e = (let f : ⊥ = cc in absurd f)
the-symbol s (logic c x y) e = (let f : ⊥ = cc in absurd f)
the-symbol s absent e = (let f : ⊥ = cc in absurd f)

pub only-item : (ls : List Lit) (l : Lit) → only ls ≡ Some l → ls ≡ l ∷ []
only-item [] l e = cc
only-item (k ∷ []) l e = (let f : k ≡ l = cc in rw f refl)
only-item (k ∷ j ∷ ls) l e = cc

clause-of : (vs : List SimpleType) (ls : List Literal) (s : ℕ) (a : SimpleType) (t : Tree) → vs ≡ [] → ls ≡ equal (symbol s a) t ∷ [] → ◌≡◌ {A = ClauseTree} (record { variables = vs; literals = ls }) (abbreviated s a t)
clause-of vs ls s a t e f = rw (e, f) refl

pub literal-of : (p : Bool) (l r : Tree) (s : ℕ) (a : SimpleType) → p ≡ true → l ≡ symbol s a → ◌≡◌ {A = Literal} (record { positive = p; left = l; right = r }) (equal (symbol s a) r)
literal-of p l r s a e f = rw (e, f) refl

first-left : (l : Literal) (k : Literal) → l ∷ [] ≡ k ∷ [] → l.left ≡ k.left
first-left l k e = let f : l ≡ k = cc in ap (λ (x : Literal). x.left) f

pub abbreviation-decides : (c : Contents) (k : Clause) (l : Lit) (s : ℕ) → k.vars ≡ [] → only k.lits ≡ Some l → l.pos ≡ true → (r : Bool) → r ≡ is_symbol_tree s (tree_at c l.left) → Decides r ((a : SimpleType) × ((t : Tree) × (clause_at c k ≡ abbreviated s a t)))
abbreviation-decides c k l s e f p r q =
    let ls : k.lits ≡ l ∷ [] = only-item k.lits l f in (
      λ h.
          let found = the-symbol s (tree_at c l.left) (sym q ∙ h) in (
            found.0,
            (
              tree_at c l.right,
              clause-of (map (type_at c) k.vars) (map (literal_at c) k.lits) s found.0 (tree_at c l.right) (rw e refl)
                  (rw ls (ap (λ (x : Literal). x ∷ []) (literal-of l.pos (tree_at c l.left) (tree_at c l.right) s found.0 p found.1))),
            ),
          ),
      λ h.
          let both : map (literal_at c) k.lits ≡ equal (symbol s h.0) h.1.0 ∷ [] = ap (λ (x : ClauseTree). x.literals) h.1.1 in
          let left : tree_at c l.left ≡ symbol s h.0 = first-left (literal_at c l) (equal (symbol s h.0) h.1.0) (rw ls at both) in
          q ∙ rw left (symbol-itself s h.0),
    )

-- a function may be applied to a term of the type that it takes, in a bank that grew
pub function-applies : {c d : Contents} → Extends c d → {f x a j i : ℕ} {u : Tree} → f < length c.terms → type_number c f ≡ i → IsArrow c i a j → IsTerm d x a u → IsApplicable d f x
function-applies {c} {d} e {f} {x} {a} {j} {i} {u} l t h k =
    let m = e.terms_more in
    let function : IsTerm d f (type_number c f) (tree_at d f) = record { within = omega arith; type_is = type_number-kept e f l; reads = refl } in
    (applicable function k (arrow-kept e (rw (← t) at h))).0

pub domain-of : (c : Contents) → IsBank c → (t a j : ℕ) → t < length c.terms → IsArrow c (type_number c t) a j → domain (type_of (tree_at c t)) ≡ type_at c a
domain-of c b t a j l h = rw (type_of-term b t l, reads-arrow b h) refl

pub applied-literal : (p q r s : Tree) → p ≡ r → q ≡ s → ◌≡◌ {A = Literal} (record { positive = true; left = p; right = q }) (equal r s)
applied-literal p q r s e f = rw (e, f) refl

pub not-false : (b : Bool) → not b ≡ false → b ≡ true
not-false true e = refl
not-false false e = cc
