-- What a step's clause must be, in a bank that grew, and literals whose sides are functions.
use Rattle.std.proofs.Common.{ℕ, ◌≡◌, ◌∙◌, ◌<◌, Bool, false, List, length, map, slice_get, slice_index_or, Option, Some, refl, sym, ap}
use Rattle.std.specs.Prelude.{IsSomeAnd}
use Rattle.std.specs.Bool.{Decides}
use Rattle.leo_q0.specs.Terms.{base}
use Rattle.leo_terms.specs.declared.node.TyView.TheVariants.{Base}
use Rattle.leo_terms.specs.Tree.{Tree, type_of}
use Rattle.leo_terms.specs.Contents.{Contents, IsBank, Extends, AreTerms, tree_at, type_at, type_number}
use Rattle.leo_terms.proofs.CallerLemmas.{reads-base, type-shared, type_of-term, type_number-within, trees-kept}
use Rattle.leo_clause.specs.declared.clause.Lit.{Lit}
use Rattle.leo_clause.specs.declared.clause.Clause.{Clause}
use Rattle.leo_clause.specs.declared.record.LogicKind.{LogicKind}
use Rattle.leo_clause.specs.declared.record.Rule.{Rule}
use Rattle.leo_clause.specs.declared.record.Rule.TheVariants as record_of
use Rattle.leo_clause.specs.declared.record.StepRecord.{StepRecord}
use Rattle.leo_clause.specs.Trees.{Literal, ClauseTree, literal_at, clause_at}
use Rattle.leo_clause.specs.Typed.{IsClauseOf}
use Rattle.leo_kernel.specs.Shapes.{IsArrowType, literal_type}
use Rattle.leo_kernel.specs.Conclusions.{FuncExtConcludes, LogicConcludes, HasShape}
use Rattle.leo_kernel.specs.Conditions.{HasLiterals, HasParents, HasPlace, HasTypes}
use Rattle.leo_kernel.specs.Symbols.{FuncExtHasSymbol, LogicHasSymbol, HasSymbol}
use Rattle.leo_kernel.specs.Steps.{Line, line_at, rule_at}
use Rattle.leo_kernel.specs.Records.{IsStepOf, AreStepsOf}
use Rattle.leo_kernel.proofs.Growing.{clause-kept}
use Rattle.leo_kernel.proofs.Lists.{get-index}
use Rattle.leo_kernel.proofs.LinesGrowing.{rule-kept, step-kept, lines-kept}
use Rattle.leo_kernel.proofs.Paramodulants.{lit-kept}

pub hypothesis-within : (c : Contents) (hyps : List ℕ) → AreTerms c hyps → (h t : ℕ) → h < length hyps → t ≡ slice_index_or hyps h t → t < length c.terms
hypothesis-within c hyps w h t l e = w h t (get-index hyps h t l e)

module _ (c : Contents) (b : IsBank c) (l : Lit) (left : l.left < length c.terms) (right : l.right < length c.terms) where
  pub sides-number : type_of (tree_at c l.left) ≡ type_of (tree_at c l.right) → type_number c l.right ≡ type_number c l.left
  sides-number e =
      type-shared b (type_number c l.right) (type_number c l.left) (type_number-within b l.right right) (type_number-within b l.left left) (sym (type_of-term b l.right right) ∙ sym e ∙ type_of-term b l.left left)

  pub no-function : (m x : ℕ) → m ≡ type_number c l.left → slice_get c.types m ≡ Some (Base x) → IsArrowType (literal_type (literal_at c l)) → ⊥
  no-function m x e f h =
      let g : type_of (tree_at c l.left) ≡ base x = type_of-term b l.left left ∙ ap (type_at c) (sym e) ∙ reads-base b m x f in
      (let k : IsArrowType (base x) = rw g at h in k)

pub func_ext-there : (lines : List Line) (o : Option Literal) (l : Literal) (k : ClauseTree) (parent : ClauseTree) (i : ℕ) (a : Option ℕ) (clause : ClauseTree) (r : Bool) → o ≡ Some l → k ≡ parent → Decides r (FuncExtConcludes lines parent i a l l.positive clause) → Decides r (IsSomeAnd o (λ x. FuncExtConcludes lines k i a x x.positive clause))
func_ext-there lines o l k parent i a clause r e f d = rw (e, f) d

-- a rule that names no symbol
pub no-symbol : (c : Contents) (hyps : List Tree) (lines : List Line) (clause : ClauseTree) (r : Rule) → ((p i : ℕ) (k : LogicKind) (a : Option ℕ) → r ≡ record_of.Logic p i k a → ⊥) → ((p i : ℕ) (a : Option ℕ) → r ≡ record_of.FuncExt p i a → ⊥) → ((s : ℕ) → r ≡ record_of.Abbreviate s → ⊥) →
    HasSymbol hyps lines clause (rule_at c r)
no-symbol c hyps lines clause (record_of.Logic p i k a) f g h = absurd (f p i k a refl)
no-symbol c hyps lines clause (record_of.FuncExt p i a) f g h = absurd (g p i a refl)
no-symbol c hyps lines clause (record_of.Abbreviate s) f g h = absurd (h s refl)
no-symbol c hyps lines clause (record_of.Axiom n) f g h = tt
no-symbol c hyps lines clause (record_of.Convert p) f g h = tt
no-symbol c hyps lines clause (record_of.Inst p sigma) f g h = tt
no-symbol c hyps lines clause (record_of.Para p i s q j r path) f g h = tt
no-symbol c hyps lines clause (record_of.Arrange p) f g h = tt
no-symbol c hyps lines clause (record_of.Drop p i) f g h = tt
no-symbol c hyps lines clause (record_of.BoolExt p i half) f g h = tt
no-symbol c hyps lines clause (record_of.Decompose p i) f g h = tt
no-symbol c hyps lines clause record_of.Refl f g h = tt
no-symbol c hyps lines clause record_of.Choice f g h = tt
no-symbol c hyps lines clause (record_of.Factor p i j) f g h = tt

module _ {c d : Contents} (e : Extends c d) (lines : List StepRecord) (steps : AreStepsOf c lines) where
  module _ (l : Lit) (left : l.left < length c.terms) (right : l.right < length c.terms) (step : Clause) (w : IsClauseOf c step) (i : ℕ) (a : Option ℕ) (r : Bool) where
    pub logic-symbol : (kind : LogicKind) → Decides r (LogicHasSymbol (map (line_at d) lines) (clause_at d step) i a (literal_at d l) kind) → Decides r (LogicHasSymbol (map (line_at c) lines) (clause_at c step) i a (literal_at c l) kind)
    logic-symbol kind h = moved _ _ _ _ _ _ (lines-kept e lines steps) (clause-kept e step w) (lit-kept e l left right) h
      where
        moved : (p q : List Line) (x y : ClauseTree) (m n : Literal) → p ≡ q → x ≡ y → m ≡ n → Decides r (LogicHasSymbol p x i a m kind) → Decides r (LogicHasSymbol q y i a n kind)
        moved p q x y m n f g k h = rw (← f, ← g, ← k) h

    pub func_ext-symbol : (v : Bool) → Decides r (FuncExtHasSymbol (map (line_at d) lines) (clause_at d step) i a (literal_at d l) v) → Decides r (FuncExtHasSymbol (map (line_at c) lines) (clause_at c step) i a (literal_at c l) v)
    func_ext-symbol v h = moved _ _ _ _ _ _ (lines-kept e lines steps) (clause-kept e step w) (lit-kept e l left right) h
      where
        moved : (p q : List Line) (x y : ClauseTree) (m n : Literal) → p ≡ q → x ≡ y → m ≡ n → Decides r (FuncExtHasSymbol p x i a m v) → Decides r (FuncExtHasSymbol q y i a n v)
        moved p q x y m n f g k h = rw (← f, ← g, ← k) h

    module _ (parent : Clause) (u : IsClauseOf c parent) where
      pub logic-later : (kind k : LogicKind) → k ≡ kind → Decides r (LogicConcludes (map (line_at d) lines) (clause_at d parent) i a (literal_at d l) kind (clause_at d step)) → Decides r (LogicConcludes (map (line_at c) lines) (clause_at c parent) i a (literal_at c l) k (clause_at c step))
      logic-later kind k z h = moved _ _ _ _ _ _ _ _ (lines-kept e lines steps) (clause-kept e parent u) (lit-kept e l left right) (clause-kept e step w) h
        where
          moved : (p q : List Line) (x y : ClauseTree) (m n : Literal) (s t : ClauseTree) → p ≡ q → x ≡ y → m ≡ n → s ≡ t → Decides r (LogicConcludes p x i a m kind s) → Decides r (LogicConcludes q y i a n k t)
          moved p q x y m n s t f g j o h = rw (← f, ← g, ← j, ← o, z) h

      pub func_ext-later : (v : Bool) → v ≡ false → Decides r (FuncExtConcludes (map (line_at d) lines) (clause_at d parent) i a (literal_at d l) false (clause_at d step)) → Decides r (FuncExtConcludes (map (line_at c) lines) (clause_at c parent) i a (literal_at c l) v (clause_at c step))
      func_ext-later v z h = moved _ _ _ _ _ _ _ _ (lines-kept e lines steps) (clause-kept e parent u) (lit-kept e l left right) (clause-kept e step w) h
        where
          moved : (p q : List Line) (x y : ClauseTree) (m n : Literal) (s t : ClauseTree) → p ≡ q → x ≡ y → m ≡ n → s ≡ t → Decides r (FuncExtConcludes p x i a m false s) → Decides r (FuncExtConcludes q y i a n v t)
          moved p q x y m n s t f g j o h = rw (← f, ← g, ← j, ← o, z) h

  module _ (hyps : List ℕ) (terms : AreTerms c hyps) (step : StepRecord) (w : IsStepOf c step) where
    pub parents-later : HasParents (map (tree_at c) hyps) (map (line_at c) lines) (rule_at c step.rule) → HasParents (map (tree_at d) hyps) (map (line_at d) lines) (rule_at d step.rule)
    parents-later h = rw (trees-kept e hyps terms, lines-kept e lines steps, rule-kept e step.rule w.terms_of) h

    pub literals-later : HasLiterals (map (line_at c) lines) (rule_at c step.rule) → HasLiterals (map (line_at d) lines) (rule_at d step.rule)
    literals-later h = rw (lines-kept e lines steps, rule-kept e step.rule w.terms_of) h

    pub place-later : HasPlace (map (line_at c) lines) (rule_at c step.rule) → HasPlace (map (line_at d) lines) (rule_at d step.rule)
    place-later h = rw (lines-kept e lines steps, rule-kept e step.rule w.terms_of) h

    pub types-later : HasTypes (map (line_at c) lines) (line_at c step) → HasTypes (map (line_at d) lines) (line_at d step)
    types-later h = moved _ _ _ _ (lines-kept e lines steps) (step-kept e step w) h
      where
        moved : (p q : List Line) (x y : Line) → p ≡ q → x ≡ y → HasTypes q y → HasTypes p x
        moved p q x y f g h = rw (f, g) h

    pub shape-earlier : (r : Bool) → Decides r (HasShape (map (tree_at d) hyps) (map (line_at d) lines) (clause_at d step.clause) (rule_at d step.rule)) → Decides r (HasShape (map (tree_at c) hyps) (map (line_at c) lines) (clause_at c step.clause) (rule_at c step.rule))
    shape-earlier r h = rw (trees-kept e hyps terms, lines-kept e lines steps, clause-kept e step.clause w.clause_of, rule-kept e step.rule w.terms_of) at h
