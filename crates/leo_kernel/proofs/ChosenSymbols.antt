-- Abbreviations that are named for a chosen thing, by what a literal becomes.
use Rattle.std.proofs.Common.{ℕ, ◌≡◌, ◌∙◌, ◌<◌, Bool, true, false, not, List, length, map, Option, Some, None, refl, sym, ap, subst, ◌⊎◌, inl, inr}
use Rattle.std.specs.Prelude.{IsSomeAnd, is_some}
use Rattle.std.specs.Bool.{Decides}
use Rattle.std.proofs.lemmas.Bool.Decides.{Decides-like}
use Rattle.leo_terms.specs.Tree.{Tree}
use Rattle.leo_terms.specs.Typing.{IsWellTyped}
use Rattle.leo_terms.specs.Contents.{Contents, Extends, tree_at}
use Rattle.leo_terms.proofs.CallerLemmas.{old_bank, tree-kept, term-typed}
use Rattle.leo_clause.specs.declared.clause.Lit.{Lit}
use Rattle.leo_clause.specs.declared.clause.Clause.{Clause}
use Rattle.leo_clause.specs.declared.record.LogicKind.{LogicKind}
use Rattle.leo_clause.specs.declared.record.LogicKind.TheVariants as kind
use Rattle.leo_clause.specs.declared.record.StepRecord.{StepRecord}
use Rattle.leo_clause.specs.Trees.{Literal, ClauseTree, literal_at, clause_at}
use Rattle.leo_clause.specs.Typed.{IsClauseOf}
use Rattle.leo_kernel.specs.Choosing.{Claim, Claims, difference_in}
use Rattle.leo_kernel.specs.Conclusions.{IsClaimed, ClaimsNamed, LogicConcludes, FuncExtConcludes}
use Rattle.leo_kernel.specs.Records.{AreStepsOf}
use Rattle.leo_kernel.specs.Steps.{Line, line_at}
use Rattle.leo_kernel.specs.Symbols.{StandsFor, NamesSymbolFor, IsMissing, LogicHasSymbol, FuncExtHasSymbol, abbreviation_of}
use Rattle.leo_kernel.specs.ChosenClaims.{claim_of}
use Rattle.leo_kernel.specs.ChosenClauses.{Chooses}
use Rattle.leo_kernel.proofs.Growing.{clause-kept}
use Rattle.leo_kernel.proofs.TypedLits.{no}
use Rattle.leo_kernel.proofs.ChosenClauses.{claims-are, claim-of, some-claim}
use Rattle.leo_kernel.proofs.LinesGrowing.{lines-kept}

-- the same said of what becomes
module _ (B R : Claim → Type 0) where
  claims-like : ((x : Claim) → B x → R x) → (lines : List Line) (parent : ClauseTree) (i : ℕ) (a : Option ℕ) (clause : ClauseTree) → ClaimsNamed lines parent i a B clause → ClaimsNamed lines parent i a R clause
  claims-like f lines parent i None clause h = h
  claims-like f lines parent i (Some a) clause h = at (abbreviation_of lines a) h
    where
      at : (o : Option Literal) → IsSomeAnd o (λ s. IsClaimed parent i B s clause) → IsSomeAnd o (λ s. IsClaimed parent i R s clause)
      at None h = h
      at (Some s) h = record { claim = h.claim; becomes = f h.claim h.becomes; arguments = h.arguments; fits = h.fits; concluded = h.concluded }

  names-like : ((x : Claim) → R x → B x) → (lines : List Line) (clause : ClauseTree) (i : ℕ) (a : Option ℕ) → NamesSymbolFor lines clause i a B → NamesSymbolFor lines clause i a R
  names-like f lines clause i None h = h
  names-like f lines clause i (Some a) h = at (abbreviation_of lines a) h
    where
      at : (o : Option Literal) → IsSomeAnd o (λ s. (x : Claim) → B x → StandsFor clause i x s) → IsSomeAnd o (λ s. (x : Claim) → R x → StandsFor clause i x s)
      at None h = h
      at (Some s) h = λ x k. h x (f x k)

module _ (lines : List Line) (i : ℕ) (a : Option ℕ) (l : Literal) (o : Option Claim) (r : Bool) where
  module _ (k : LogicKind) (left : IsWellTyped l.left) (right : IsWellTyped l.right) (e : o ≡ claim_of k l) where
    there : (x : Claim) → o ≡ Some x → Claims k l x
    there x f = claim-of k l x left right (sym e ∙ f)

    back : (x : Claim) → Claims k l x → o ≡ Some x
    back x h = e ∙ claims-are k l x h

    claimed-of : (parent clause : ClauseTree) → Decides r (ClaimsNamed lines parent i a (λ x. o ≡ Some x) clause) → Decides r (ClaimsNamed lines parent i a (Claims k l) clause)
    claimed-of parent clause = Decides-like r (claims-like (λ x. o ≡ Some x) (Claims k l) there lines parent i a clause) (claims-like (Claims k l) (λ x. o ≡ Some x) back lines parent i a clause)

    named-of : (clause : ClauseTree) → Decides r (NamesSymbolFor lines clause i a (λ x. o ≡ Some x)) → Decides r (NamesSymbolFor lines clause i a (Claims k l))
    named-of clause = Decides-like r (names-like (λ x. o ≡ Some x) (Claims k l) back lines clause i a) (names-like (Claims k l) (λ x. o ≡ Some x) there lines clause i a)

  module _ (e : o ≡ Some (difference_in l)) where
    difference-there : (x : Claim) → o ≡ Some x → x ≡ difference_in l
    difference-there x f = sym (some-claim (difference_in l) x (sym e ∙ f))

    difference-back : (x : Claim) → x ≡ difference_in l → o ≡ Some x
    difference-back x f = e ∙ ap Some (sym f)

    func_ext-concludes : (parent clause : ClauseTree) → Decides r (ClaimsNamed lines parent i a (λ x. o ≡ Some x) clause) → Decides r (FuncExtConcludes lines parent i a l false clause)
    func_ext-concludes parent clause = Decides-like r (claims-like (λ x. o ≡ Some x) (λ x. x ≡ difference_in l) difference-there lines parent i a clause) (claims-like (λ x. x ≡ difference_in l) (λ x. o ≡ Some x) difference-back lines parent i a clause)

    func_ext-names : (clause : ClauseTree) → Decides r (NamesSymbolFor lines clause i a (λ x. o ≡ Some x)) → Decides r (FuncExtHasSymbol lines clause i a l false)
    func_ext-names clause = Decides-like r (names-like (λ x. o ≡ Some x) (λ x. x ≡ difference_in l) difference-back lines clause i a) (names-like (λ x. x ≡ difference_in l) (λ x. o ≡ Some x) difference-there lines clause i a)

  logic-concludes : (k : LogicKind) → Chooses k → IsWellTyped l.left → IsWellTyped l.right → o ≡ claim_of k l → (parent clause : ClauseTree) → Decides r (ClaimsNamed lines parent i a (λ x. o ≡ Some x) clause) → Decides r (LogicConcludes lines parent i a l k clause)
  logic-concludes kind.AllF c w u e parent clause d = claimed-of kind.AllF w u e parent clause d
  logic-concludes kind.SomeT c w u e parent clause d = claimed-of kind.SomeT w u e parent clause d
  logic-concludes _ c w u e parent clause d = absurd c

  logic-names : (k : LogicKind) → Chooses k → IsWellTyped l.left → IsWellTyped l.right → o ≡ claim_of k l → (clause : ClauseTree) → Decides r (NamesSymbolFor lines clause i a (λ x. o ≡ Some x)) → Decides r (LogicHasSymbol lines clause i a l k)
  logic-names kind.AllF c w u e clause d = named-of kind.AllF w u e clause d
  logic-names kind.SomeT c w u e clause d = named-of kind.SomeT w u e clause d
  logic-names _ c w u e clause d = absurd c

-- the same in a bank that grew
literal-of : (p : Bool) (s t u v : Tree) → s ≡ u → t ≡ v → ◌≡◌ {A = Literal} (record { positive = p; left = s; right = t }) (record { positive = p; left = u; right = v })
literal-of p s t u v e f = rw (e, f) refl

module _ {c d : Contents} (e : Extends c d) where
  literal-kept : (l : Lit) → l.left < length c.terms → l.right < length c.terms → literal_at d l ≡ literal_at c l
  literal-kept l p q = literal-of l.pos (tree_at d l.left) (tree_at d l.right) (tree_at c l.left) (tree_at c l.right) (tree-kept e l.left p) (tree-kept e l.right q)

  module _ (lines : List StepRecord) (steps : AreStepsOf c lines) (l : Lit) (left : l.left < length c.terms) (right : l.right < length c.terms) (clause : Clause) (clause_of : IsClauseOf c clause) (P : List Line → Literal → ClauseTree → Type 0) (r : Bool) where
    pub kept-three : Decides r (P (map (line_at c) lines) (literal_at c l) (clause_at c clause)) → Decides r (P (map (line_at d) lines) (literal_at d l) (clause_at d clause))
    kept-three h =
        subst (λ (x : List Line). Decides r (P x (literal_at d l) (clause_at d clause))) (sym (lines-kept e lines steps))
        (subst (λ (x : Literal). Decides r (P (map (line_at c) lines) x (clause_at d clause))) (sym (literal-kept l left right))
        (subst (λ (x : ClauseTree). Decides r (P (map (line_at c) lines) (literal_at c l) x)) (sym (clause-kept e clause clause_of)) h))

  module _ (lines : List StepRecord) (steps : AreStepsOf c lines) (l : Lit) (left : l.left < length c.terms) (right : l.right < length c.terms) (i : ℕ) (a : Option ℕ) (o : Option Claim) (r : Bool) where
    pub logic-named : (k : LogicKind) → Chooses k → o ≡ claim_of k (literal_at c l) → (clause : Clause) → IsClauseOf c clause → Decides r (NamesSymbolFor (map (line_at c) lines) (clause_at c clause) i a (λ x. o ≡ Some x)) → Decides r (LogicHasSymbol (map (line_at d) lines) (clause_at d clause) i a (literal_at d l) k)
    logic-named k chooses f clause h n =
        kept-three lines steps l left right clause h (λ x y z. LogicHasSymbol x z i a y k) r
        (logic-names (map (line_at c) lines) i a (literal_at c l) o r k chooses (term-typed (old_bank e) l.left left) (term-typed (old_bank e) l.right right) f (clause_at c clause) n)

    pub func_ext-named : o ≡ Some (difference_in (literal_at c l)) → (clause : Clause) → IsClauseOf c clause → Decides r (NamesSymbolFor (map (line_at c) lines) (clause_at c clause) i a (λ x. o ≡ Some x)) → Decides r (FuncExtHasSymbol (map (line_at d) lines) (clause_at d clause) i a (literal_at d l) false)
    func_ext-named f clause h n =
        kept-three lines steps l left right clause h (λ x y z. FuncExtHasSymbol x z i a y false) r
        (func_ext-names (map (line_at c) lines) i a (literal_at c l) o r f (clause_at c clause) n)

    module _ (parent clause : Clause) (parent_of : IsClauseOf c parent) (clause_of : IsClauseOf c clause) where
      pub logic-claimed : (k : LogicKind) → Chooses k → o ≡ claim_of k (literal_at c l) → Decides r (ClaimsNamed (map (line_at c) lines) (clause_at c parent) i a (λ x. o ≡ Some x) (clause_at c clause)) → Decides r (LogicConcludes (map (line_at d) lines) (clause_at d parent) i a (literal_at d l) k (clause_at d clause))
      logic-claimed k chooses f n =
          subst (λ (x : ClauseTree). Decides r (LogicConcludes (map (line_at d) lines) x i a (literal_at d l) k (clause_at d clause))) (sym (clause-kept e parent parent_of))
          (kept-three lines steps l left right clause clause_of (λ x y z. LogicConcludes x (clause_at c parent) i a y k z) r
          (logic-concludes (map (line_at c) lines) i a (literal_at c l) o r k chooses (term-typed (old_bank e) l.left left) (term-typed (old_bank e) l.right right) f (clause_at c parent) (clause_at c clause) n))

      pub func_ext-claimed : o ≡ Some (difference_in (literal_at c l)) → Decides r (ClaimsNamed (map (line_at c) lines) (clause_at c parent) i a (λ x. o ≡ Some x) (clause_at c clause)) → Decides r (FuncExtConcludes (map (line_at d) lines) (clause_at d parent) i a (literal_at d l) false (clause_at d clause))
      func_ext-claimed f n =
          subst (λ (x : ClauseTree). Decides r (FuncExtConcludes (map (line_at d) lines) x i a (literal_at d l) false (clause_at d clause))) (sym (clause-kept e parent parent_of))
          (kept-three lines steps l left right clause clause_of (λ x y z. FuncExtConcludes x (clause_at c parent) i a y false z) r
          (func_ext-concludes (map (line_at c) lines) i a (literal_at c l) o r f (clause_at c parent) (clause_at c clause) n))

-- where nothing is chosen, no line is named
pub missing-decides : (a : Option ℕ) (r : Bool) → is_some a ≡ not r → Decides r (IsMissing a)
missing-decides None true e = (λ h. refl, λ h. refl)
missing-decides None false e = (let f : ⊥ = cc in absurd f)
missing-decides (Some n) true e = (let f : ⊥ = cc in absurd f)
missing-decides (Some n) false e = no (λ h. (let f : ⊥ = cc in f))

pub func_ext-missing : (lines : List Line) (clause : ClauseTree) (i : ℕ) (a : Option ℕ) (l : Literal) (p : Bool) → p ≡ true → (r : Bool) → Decides r (IsMissing a) → Decides r (FuncExtHasSymbol lines clause i a l p)
func_ext-missing lines clause i a l p e r d = rw e d

pub func_ext-asked : (lines : List Line) (clause : ClauseTree) (i : ℕ) (a : Option ℕ) (l : Literal) (p : Bool) → p ≡ false → (r : Bool) → Decides r (FuncExtHasSymbol lines clause i a l false) → Decides r (FuncExtHasSymbol lines clause i a l p)
func_ext-asked lines clause i a l p e r d = rw e d

pub unchosen : (lines : List Line) (clause : ClauseTree) (i : ℕ) (a : Option ℕ) (l : Literal) (k : LogicKind) → (k ≡ kind.AllF → ⊥) → (k ≡ kind.SomeT → ⊥) → (r : Bool) → Decides r (IsMissing a) → Decides r (LogicHasSymbol lines clause i a l k)
unchosen lines clause i a l kind.AllF f g r d = absurd (f refl)
unchosen lines clause i a l kind.SomeT f g r d = absurd (g refl)
unchosen lines clause i a l kind.Not f g r d = d
unchosen lines clause i a l kind.OrT f g r d = d
unchosen lines clause i a l kind.OrF1 f g r d = d
unchosen lines clause i a l kind.OrF2 f g r d = d
unchosen lines clause i a l kind.AndT1 f g r d = d
unchosen lines clause i a l kind.AndT2 f g r d = d
unchosen lines clause i a l kind.AndF f g r d = d
unchosen lines clause i a l kind.ImpT f g r d = d
unchosen lines clause i a l kind.ImpF1 f g r d = d
unchosen lines clause i a l kind.ImpF2 f g r d = d
unchosen lines clause i a l kind.EqT f g r d = d
unchosen lines clause i a l kind.EqF f g r d = d
unchosen lines clause i a l kind.Flip f g r d = d
unchosen lines clause i a l kind.AllT f g r d = d
unchosen lines clause i a l kind.SomeF f g r d = d

pub either-chooses : (k : LogicKind) → (k ≡ kind.AllF) ⊎ (k ≡ kind.SomeT) → Chooses k
either-chooses k (inl e) = rw e tt
either-chooses k (inr e) = rw e tt
