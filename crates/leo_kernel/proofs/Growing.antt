-- Clauses of a bank that grew.
use Rattle.std.proofs.Common.{ℕ, ◌≡◌, ◌∙◌, ◌<◌, Bool, false, List, [], ◌∷◌, length, map, Option, Some, None, refl, sym, ap, subst, arith}
use Rattle.std.specs.Bool.{Decides}
use Rattle.std.proofs.lemmas.Bool.Decides.{Decides-like}
use Rattle.leo_q0.specs.Terms.{SimpleType}
use Rattle.leo_terms.specs.Tree.{Tree}
use Rattle.leo_terms.specs.Typing.{IsWellTyped}
use Rattle.leo_terms.specs.Contents.{Contents, IsBank, Extends, IsTerm, IsApplicable, type_at, tree_at, type_number}
use Rattle.leo_terms.proofs.CallerLemmas.{type-kept, tree-kept, type_number-kept, arrow-kept, applicable, new_bank, term-typed}
use Rattle.leo_clause.specs.declared.clause.Lit.{Lit}
use Rattle.leo_clause.specs.declared.clause.Clause.{Clause}
use Rattle.leo_clause.specs.declared.record.LogicKind.{LogicKind}
use Rattle.leo_clause.specs.Trees.{Literal, ClauseTree, literal_at, clause_at}
use Rattle.leo_clause.specs.Typed.{AreTypesOf, AreLiteralsOf, IsClauseOf}
use Rattle.leo_kernel.specs.declared.truths.Truths.{Truths}
use Rattle.leo_kernel.specs.Conclusions.{with_new, IsTakenApart}
use Rattle.leo_kernel.specs.Parts.{Pieces, pieces_of}
use Rattle.leo_kernel.specs.Truths.{AreTruths}
use Rattle.leo_kernel.specs.Tops.{IsPropertyOf}
use Rattle.leo_kernel.specs.ByNumber.{IsConclusion}
use Rattle.leo_kernel.proofs.TakingApart.{rows-pieces, pieces-row, Row}
use Rattle.leo_kernel.proofs.TypedLits.{no}
use Rattle.leo_kernel.proofs.Clauses.{concluded}

module _ {c d : Contents} (e : Extends c d) where
  pub types-grow : (vars : List ℕ) → AreTypesOf c vars → AreTypesOf d vars
  types-grow [] h = tt
  types-grow (a ∷ vars) h = let m = e.types_more in let k = h.0 in (omega arith, types-grow vars h.1)

  pub lits-grow : (ls : List Lit) → AreLiteralsOf c ls → AreLiteralsOf d ls
  lits-grow [] h = tt
  lits-grow (l ∷ ls) h = let m = e.terms_more in let p = h.0 in let q = h.1 in (omega arith, omega arith, lits-grow ls h.2)

  pub clause-grow : (k : Clause) → IsClauseOf c k → IsClauseOf d k
  clause-grow k h = record { types_of = types-grow k.vars h.types_of; literals_of = lits-grow k.lits h.literals_of }

  pub types-kept : (vars : List ℕ) → AreTypesOf c vars → map (type_at d) vars ≡ map (type_at c) vars
  types-kept [] h = refl
  types-kept (a ∷ vars) h = rw (type-kept e a h.0, types-kept vars h.1) refl

  pub lits-kept : (ls : List Lit) → AreLiteralsOf c ls → map (literal_at d) ls ≡ map (literal_at c) ls
  lits-kept [] h = refl
  lits-kept (l ∷ ls) h = rw (tree-kept e l.left h.0, tree-kept e l.right h.1, lits-kept ls h.2) refl

  pub clause-kept : (k : Clause) → IsClauseOf c k → clause_at d k ≡ clause_at c k
  clause-kept k h = rw (types-kept k.vars h.types_of, lits-kept k.lits h.literals_of) refl

  pub truths-grow : (t : Truths) → AreTruths c t → AreTruths d t
  truths-grow t h =
      let m = e.terms_more in
      let p = h.yes_within in
      let q = h.no_within in
      record {
        yes_within = omega arith;
        no_within = omega arith;
        yes_reads = tree-kept e t.yes h.yes_within ∙ h.yes_reads;
        no_reads = tree-kept e t.no h.no_within ∙ h.no_reads;
      }

  moved : (r : Bool) (x v y w : ClauseTree) (place : ℕ) (a b : List SimpleType) (new : List Literal) → x ≡ v → y ≡ w → a ≡ b → Decides r (x ≡ with_new y place a new) → Decides r (v ≡ with_new w place b new)
  moved r x v y w place a b new e f g d =
      subst (λ (z : List SimpleType). Decides r (v ≡ with_new w place z new)) g
      (subst (λ (z : ClauseTree). Decides r (v ≡ with_new z place a new)) f
      (subst (λ (z : ClauseTree). Decides r (z ≡ with_new y place a new)) e d))

  -- a conclusion whose new literals were made since
  pub concluded-later : (parent : Clause) (place : ℕ) (fresh : List ℕ) (new : List Lit) (step : Clause) → IsClauseOf c parent → IsClauseOf c step → AreTypesOf c fresh → AreLiteralsOf d new → (r : Bool) → Decides r (IsConclusion parent place fresh new step) → Decides r (clause_at c step ≡ with_new (clause_at c parent) place (map (type_at c) fresh) (map (literal_at d) new))
  concluded-later parent place fresh new step h k types literals r f =
      moved r (clause_at d step) (clause_at c step) (clause_at d parent) (clause_at c parent) place (map (type_at d) fresh) (map (type_at c) fresh) (map (literal_at d) new) (clause-kept step k) (clause-kept parent h) (types-kept fresh types)
      (concluded d (new_bank e) parent place fresh new step (clause-grow parent h) (clause-grow step k) (types-grow fresh types) literals r f)

-- what the pieces of a literal conclude
same-pieces : (p q : Pieces) → Some p ≡ Some q → (p.fresh ≡ q.fresh) × (p.new ≡ q.new)
same-pieces p q e = let f : p ≡ q = cc in (ap (λ (x : Pieces). x.fresh) f, ap (λ (x : Pieces). x.new) f)

pub pieces-decide : (parent : ClauseTree) (i : ℕ) (kind : LogicKind) (l : Literal) (clause : ClauseTree) (p : Pieces) → IsWellTyped l.left → IsWellTyped l.right → Some p ≡ pieces_of (length parent.variables) kind l → (r : Bool) → Decides r (clause ≡ with_new parent i p.fresh p.new) → Decides r (IsTakenApart parent i kind l clause)
pieces-decide parent i kind l clause p w u e r d =
    let row : Row (length parent.variables) kind l (Some p) = subst (λ (o : Option Pieces). Row (length parent.variables) kind l o) (sym e) (pieces-row (length parent.variables) kind l w u) in
    Decides-like r
    (λ h. record { fresh = p.fresh; new = p.new; row = row; concluded = h })
    (λ t.
    let q : Pieces = record { fresh = t.fresh; new = t.new } in
    let f : Some p ≡ Some q = e ∙ rows-pieces (length parent.variables) kind l t.fresh t.new t.row in
    let g = same-pieces p q f in
    rw (g.0, g.1) t.concluded)
    d

pub no-pieces : (parent : ClauseTree) (i : ℕ) (kind : LogicKind) (l : Literal) (clause : ClauseTree) → None ≡ pieces_of (length parent.variables) kind l → Decides false (IsTakenApart parent i kind l clause)
no-pieces parent i kind l clause e =
    no (λ t. none-some (record { fresh = t.fresh; new = t.new }) (e ∙ rows-pieces (length parent.variables) kind l t.fresh t.new t.row))
  where
    none-some : (p : Pieces) → None ≡ Some p → ⊥
    none-some p f = cc

-- the same for a literal of a bank
module _ (c : Contents) (b : IsBank c) (parent step : Clause) (place : ℕ) (kind : LogicKind) (l : Lit) (left : l.left < length c.terms) (right : l.right < length c.terms) where
  pub lit-pieces : (p : Pieces) → Some p ≡ pieces_of (length (map (type_at c) parent.vars)) kind (literal_at c l) → (r : Bool) → Decides r (clause_at c step ≡ with_new (clause_at c parent) place p.fresh p.new) → Decides r (IsTakenApart (clause_at c parent) place kind (literal_at c l) (clause_at c step))
  lit-pieces p e r d = pieces-decide (clause_at c parent) place kind (literal_at c l) (clause_at c step) p (term-typed b l.left left) (term-typed b l.right right) e r d

  pub lit-no_pieces : None ≡ pieces_of (length (map (type_at c) parent.vars)) kind (literal_at c l) → Decides false (IsTakenApart (clause_at c parent) place kind (literal_at c l) (clause_at c step))
  lit-no_pieces e = no-pieces (clause_at c parent) place kind (literal_at c l) (clause_at c step) e

-- a property may be applied to a variable of its type, in a bank that grew
pub property-applies : {c d : Contents} → Extends c d → {i p x : ℕ} {u : Tree} → IsPropertyOf c i p → IsTerm d x i u → IsApplicable d p x
property-applies {c} {d} e {i} {p} {x} {u} h t =
    let w = h.within in
    let m = e.terms_more in
    let property : IsTerm d p (type_number c p) (tree_at d p) = record { within = omega arith; type_is = type_number-kept e p h.within; reads = refl } in
    (applicable property t (arrow-kept e h.typed)).0
