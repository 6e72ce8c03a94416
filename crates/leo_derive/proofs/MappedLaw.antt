-- Accepted lines are accepted with other numbers for their symbols.
use Rattle.std.proofs.Common.{ℕ, ◌≡◌, Bool, true, false, List, [], ◌∷◌, ◌++◌, length, map, take, refl, sym, ◌∙◌, ap, subst, subst₂}
use Rattle.std.specs.Prelude.{slice_get, Option, Some, None, IsSomeAnd}
use Rattle.std.specs.Option.{option_map}
use Rattle.std.proofs.lemmas.List.{take-map}
use Rattle.std.proofs.lemmas.Option.{slice_get-map}
use Rattle.leo_terms.specs.Tree.{Tree}
use Rattle.leo_clause.specs.declared.record.LogicKind.{LogicKind}
use Rattle.leo_clause.specs.declared.record.LogicKind.TheVariants as kind
use Rattle.leo_clause.specs.Trees.{Literal, ClauseTree}
use Rattle.leo_clause.specs.Renaming.{substituted_literal}
use Rattle.leo_clause.proofs.Same.{same-number}
use Rattle.leo_kernel.specs.Choosing.{Claim, claimed, applied_to}
use Rattle.leo_kernel.specs.Steps.{StepRule, assume, convert, inst, para, arrange, drop_literal, take_apart, bool_ext, func_ext, decompose, reflexivity, choose, factor, abbreviate, Line, clause_of}
use Rattle.leo_kernel.specs.Symbols.{abbreviation_of}
use Rattle.leo_kernel.specs.Conclusions.{with_new, assumed, AreConverted, paramodulant, AreAmong, bool_case, factored, IsTakenApart, IsClaimed, ClaimsNamed, LogicConcludes, FuncExtConcludes, HasShape}
use Rattle.leo_kernel.specs.Acceptance.{Accepts, AreAccepted}
use Rattle.leo_derive.specs.Symbols.{symbols_in, symbols_in_literals, symbols_in_rule, symbols_in_line, IsOneOf}
use Rattle.leo_derive.specs.Renaming.{symbols_mapped, literal_mapped, clause_mapped, rule_mapped, line_mapped, symbols_in_lines}
use Rattle.leo_derive.specs.Laws.{MappedLinesAreAccepted, EmptyLinesStay}
use Rattle.leo_derive.proofs.MappedLines.{there-mapped, clause-mapped, abbreviation-mapped, of_literal, of_place, parents-mapped, has_literals-mapped, has_place-mapped, types-mapped}
use Rattle.leo_derive.proofs.MappedSymbols.{claim_mapped, claims-mapped, difference_in-mapped, applied-same, fits-mapped, symbols-mapped}
use Rattle.leo_derive.proofs.MappedClauses.{claimed-mapped, with_new-mapped, factored-mapped, func_ext-mapped, all_converted-mapped, instance-mapped, paramodulant-mapped, among-mapped, never-mapped, bool_case-mapped, decomposes-mapped, taken-mapped}
use Rattle.leo_derive.proofs.Permuting.{AreInverse, extended}
use Rattle.leo_derive.proofs.MappedAlike.{one_of_left, HasItsSymbol, agree_left, agree_right, terms_alike, lines_alike}

module _ (r : ℕ → ℕ) where
  -- ---- rules that take a literal apart, or speak of a chosen term

  taken_apart-mapped : (parent : ClauseTree) (i : ℕ) (k : LogicKind) (l : Literal) (clause : ClauseTree) → IsTakenApart parent i k l clause → IsTakenApart (clause_mapped r parent) i k (literal_mapped r l) (clause_mapped r clause)
  taken_apart-mapped parent i k l clause h = record {
    fresh = h.fresh;
    new = map (literal_mapped r) h.new;
    row = taken-mapped r (length parent.variables) k l h.fresh h.new h.row;
    concluded = ap (clause_mapped r) h.concluded ∙ with_new-mapped r parent i h.fresh h.new;
  }

  is_claimed-mapped : (parent : ClauseTree) (i : ℕ) (Becomes Other : Claim → Type 0) → ((k : Claim) → Becomes k → Other (claim_mapped r k)) → (s : Literal) (clause : ClauseTree) →
      IsClaimed parent i Becomes s clause → IsClaimed (clause_mapped r parent) i Other (literal_mapped r s) (clause_mapped r clause)
  is_claimed-mapped parent i Becomes Other becomes s clause h = record {
    claim = claim_mapped r h.claim;
    becomes = becomes h.claim h.becomes;
    arguments = h.arguments;
    fits = fits-mapped r clause.variables h.claim s.right h.arguments h.fits;
    concluded =
        ap (clause_mapped r) h.concluded
        ∙ (with_new-mapped r parent i [] (claimed h.claim (applied_to s.left h.arguments) ∷ [])
        ∙ ap (λ (l : Literal). with_new (clause_mapped r parent) i [] (l ∷ []))
        (claimed-mapped r h.claim (applied_to s.left h.arguments) ∙ ap (claimed (claim_mapped r h.claim)) (sym (applied-same r clause.variables h.claim s.left h.arguments h.fits.variables_of))));
  }

  module _ (lines : List Line) (parent : ClauseTree) (i : ℕ) (clause : ClauseTree) where
    claims_named-mapped : (a : Option ℕ) (Becomes Other : Claim → Type 0) → ((k : Claim) → Becomes k → Other (claim_mapped r k)) →
        ClaimsNamed lines parent i a Becomes clause → ClaimsNamed (map (line_mapped r) lines) (clause_mapped r parent) i a Other (clause_mapped r clause)
    claims_named-mapped None Becomes Other becomes h = h
    claims_named-mapped (Some a) Becomes Other becomes h =
        subst (λ (o : Option Literal). IsSomeAnd o (λ s. IsClaimed (clause_mapped r parent) i Other s (clause_mapped r clause))) (sym (abbreviation-mapped r lines a))
        (there-mapped (literal_mapped r) (abbreviation_of lines a) _ _ (λ s. is_claimed-mapped parent i Becomes Other becomes s clause) h)

    logic-mapped : (a : Option ℕ) (l : Literal) (k : LogicKind) → LogicConcludes lines parent i a l k clause → LogicConcludes (map (line_mapped r) lines) (clause_mapped r parent) i a (literal_mapped r l) k (clause_mapped r clause)
    logic-mapped a l kind.AllF h = claims_named-mapped a _ _ (claims-mapped r kind.AllF l) h
    logic-mapped a l kind.SomeT h = claims_named-mapped a _ _ (claims-mapped r kind.SomeT l) h
    logic-mapped a l kind.Not h = taken_apart-mapped parent i kind.Not l clause h
    logic-mapped a l kind.OrT h = taken_apart-mapped parent i kind.OrT l clause h
    logic-mapped a l kind.OrF1 h = taken_apart-mapped parent i kind.OrF1 l clause h
    logic-mapped a l kind.OrF2 h = taken_apart-mapped parent i kind.OrF2 l clause h
    logic-mapped a l kind.AndT1 h = taken_apart-mapped parent i kind.AndT1 l clause h
    logic-mapped a l kind.AndT2 h = taken_apart-mapped parent i kind.AndT2 l clause h
    logic-mapped a l kind.AndF h = taken_apart-mapped parent i kind.AndF l clause h
    logic-mapped a l kind.ImpT h = taken_apart-mapped parent i kind.ImpT l clause h
    logic-mapped a l kind.ImpF1 h = taken_apart-mapped parent i kind.ImpF1 l clause h
    logic-mapped a l kind.ImpF2 h = taken_apart-mapped parent i kind.ImpF2 l clause h
    logic-mapped a l kind.EqT h = taken_apart-mapped parent i kind.EqT l clause h
    logic-mapped a l kind.EqF h = taken_apart-mapped parent i kind.EqF l clause h
    logic-mapped a l kind.Flip h = taken_apart-mapped parent i kind.Flip l clause h
    logic-mapped a l kind.AllT h = taken_apart-mapped parent i kind.AllT l clause h
    logic-mapped a l kind.SomeF h = taken_apart-mapped parent i kind.SomeF l clause h

    function-mapped : (a : Option ℕ) (l : Literal) (b : Bool) → FuncExtConcludes lines parent i a l b clause → FuncExtConcludes (map (line_mapped r) lines) (clause_mapped r parent) i a (literal_mapped r l) b (clause_mapped r clause)
    function-mapped a l true h = ap (clause_mapped r) h ∙ func_ext-mapped r parent i l
    function-mapped a l false h = claims_named-mapped a _ _ (λ k e. ap (claim_mapped r) e ∙ sym (difference_in-mapped r l)) h

module _ (r q : ℕ → ℕ) (there : (n : ℕ) → q (r n) ≡ n) (hypotheses : List Tree) (lines : List Line) where
  -- the parent is the one with other symbols
  by_parent : (p : ℕ) (P : ClauseTree → Type 0) → P (clause_mapped r (clause_of lines p)) → P (clause_of (map (line_mapped r) lines) p)
  by_parent p P h = subst P (sym (clause-mapped r lines p)) h

  shape-mapped : (clause : ClauseTree) (rule : StepRule) → HasShape hypotheses lines clause rule → HasShape (map (symbols_mapped r) hypotheses) (map (line_mapped r) lines) (clause_mapped r clause) (rule_mapped r rule)
  shape-mapped clause (assume h) e =
      subst (λ (o : Option Tree). IsSomeAnd o (λ t. clause_mapped r clause ≡ assumed t)) (sym (slice_get-map (symbols_mapped r) hypotheses h))
      (there-mapped (symbols_mapped r) (slice_get hypotheses h) _ _ (λ t k. ap (clause_mapped r) k) e)
  shape-mapped clause (convert p) e =
      by_parent p (λ c. (clause.variables ≡ c.variables) × AreConverted c.literals (map (literal_mapped r) clause.literals)) (e.0, all_converted-mapped r (clause_of lines p).literals clause.literals e.1)
  shape-mapped clause (inst p sigma) e =
      by_parent p (λ c. map (literal_mapped r) clause.literals ≡ map (substituted_literal (map (symbols_mapped r) sigma)) c.literals) (ap (map (literal_mapped r)) e ∙ instance-mapped r sigma (clause_of lines p).literals)
  shape-mapped clause (para p i s w j side path) e =
      of_literal r lines p i _ _ (λ l. of_literal r lines w j _ _ (λ k. of_place r path side k _ _ (λ t h. (
        h.0,
        by_parent p (λ c. clause_mapped r clause ≡ paramodulant c i (literal_mapped r l) s (clause_of (map (line_mapped r) lines) w) j (literal_mapped r k) side path (symbols_mapped r t))
            (by_parent w (λ d. clause_mapped r clause ≡ paramodulant (clause_mapped r (clause_of lines p)) i (literal_mapped r l) s d j (literal_mapped r k) side path (symbols_mapped r t))
            (ap (clause_mapped r) h.1 ∙ paramodulant-mapped r (clause_of lines p) i l s (clause_of lines w) j k side path t)),
      )))) e
  shape-mapped clause (arrange p) e =
      by_parent p (λ c. (clause.variables ≡ c.variables) × AreAmong c.literals (map (literal_mapped r) clause.literals)) (e.0, among-mapped r q there (clause_of lines p).literals clause.literals e.1)
  shape-mapped clause (drop_literal p i) e =
      of_literal r lines p i _ _ (λ l h. (never-mapped r l h.0, by_parent p (λ c. clause_mapped r clause ≡ with_new c i [] []) (ap (clause_mapped r) h.1 ∙ with_new-mapped r (clause_of lines p) i [] []))) e
  shape-mapped clause (take_apart p i k a) e =
      of_literal r lines p i _ _ (λ l h. by_parent p (λ c. LogicConcludes (map (line_mapped r) lines) c i a (literal_mapped r l) k (clause_mapped r clause)) (logic-mapped r lines (clause_of lines p) i clause a l k h)) e
  shape-mapped clause (bool_ext p i half) e =
      of_literal r lines p i _ _ (λ l h. by_parent p (λ c. clause_mapped r clause ≡ with_new c i [] (bool_case half l.positive (symbols_mapped r l.left) (symbols_mapped r l.right)))
      (ap (clause_mapped r) h ∙ (with_new-mapped r (clause_of lines p) i [] (bool_case half l.positive l.left l.right) ∙ ap (with_new (clause_mapped r (clause_of lines p)) i []) (bool_case-mapped r half l.positive l.left l.right)))) e
  shape-mapped clause (func_ext p i a) e =
      of_literal r lines p i _ _ (λ l h. by_parent p (λ c. FuncExtConcludes (map (line_mapped r) lines) c i a (literal_mapped r l) l.positive (clause_mapped r clause)) (function-mapped r lines (clause_of lines p) i clause a l l.positive h)) e
  shape-mapped clause (decompose p i) e =
      of_literal r lines p i _ _ (λ l (new, h). (map (literal_mapped r) new, (decomposes-mapped r l new h.0, by_parent p (λ c. clause_mapped r clause ≡ with_new c i [] (map (literal_mapped r) new)) (ap (clause_mapped r) h.1 ∙ with_new-mapped r (clause_of lines p) i [] new)))) e
  shape-mapped clause reflexivity e = (symbols_mapped r e.0, ap (map (literal_mapped r)) e.1)
  shape-mapped clause choose e = (e.0, ap (clause_mapped r) e.1)
  shape-mapped clause (factor p i j) e =
      of_literal r lines p i _ _ (λ l. of_literal r lines p j _ _ (λ k h. (h.0, by_parent p (λ c. clause_mapped r clause ≡ factored c j (literal_mapped r l) (literal_mapped r k)) (ap (clause_mapped r) h.1 ∙ factored-mapped r (clause_of lines p) j l k)))) e
  shape-mapped clause (abbreviate s) e = (e.0, (symbols_mapped r e.1.0, ap (clause_mapped r) e.1.1))

-- ---- the law

module _ (r q : ℕ → ℕ) (inverse : AreInverse r q) where
  pub accepts-mapped : (hypotheses : List Tree) (lines : List Line) (step : Line) → Accepts hypotheses lines step → Accepts (map (symbols_mapped r) hypotheses) (map (line_mapped r) lines) (line_mapped r step)
  accepts-mapped hypotheses lines step h = record {
    parents = parents-mapped r hypotheses lines step.rule h.parents;
    literals = has_literals-mapped r lines step.rule h.literals;
    place = has_place-mapped r lines step.rule h.place;
    types = types-mapped r lines step h.types;
    symbols = symbols-mapped r q inverse.there inverse.back hypotheses lines step.clause step.rule h.symbols;
    shape = shape-mapped r q inverse.there hypotheses lines step.clause step.rule h.shape;
  }

  from_line : (hypotheses : List Tree) (lines : List Line) (step : Line) (o : Option Line) → ((k : Line) → o ≡ Some k → Accepts hypotheses lines k) → option_map (line_mapped r) o ≡ Some step → Accepts (map (symbols_mapped r) hypotheses) (map (line_mapped r) lines) step
  from_line hypotheses lines step None h e = absurd cc
  from_line hypotheses lines step (Some k) h e = let same : line_mapped r k ≡ step = cc in subst (Accepts (map (symbols_mapped r) hypotheses) (map (line_mapped r) lines)) same (accepts-mapped hypotheses lines k (h k refl))

  bijective_law : (hypotheses : List Tree) (lines : List Line) → AreAccepted hypotheses lines → AreAccepted (map (symbols_mapped r) hypotheses) (map (line_mapped r) lines)
  bijective_law hypotheses lines accepted n step e =
      subst (λ (earlier : List Line). Accepts (map (symbols_mapped r) hypotheses) earlier step) (sym (take-map (line_mapped r) n lines))
      (from_line hypotheses (take n lines) step (slice_get lines n) (λ k. accepted n k) (sym (slice_get-map (line_mapped r) lines n) ∙ e))

introduced : (hypotheses : List Tree) (lines : List Line) (step : Line) → Accepts hypotheses lines step → HasItsSymbol step
introduced hypotheses lines step h s e = by (subst (HasShape hypotheses lines step.clause) e h.shape)
  where
    by : HasShape hypotheses lines step.clause (abbreviate s) → IsOneOf s (symbols_in_line step)
    by k = one_of_left s (symbols_in_literals step.clause.literals) (symbols_in_rule step.rule) (subst (λ (c : ClauseTree). IsOneOf s (symbols_in_literals c.literals)) (sym k.1.1) (rw (same-number s) refl))

pub mapped_law : MappedLinesAreAccepted
mapped_law f hypotheses lines injective accepted =
    let symbols = symbols_in hypotheses ++ symbols_in_lines lines in
    let e = extended f symbols injective in
    let same_terms = terms_alike f e.forth hypotheses (agree_left f e.forth (symbols_in hypotheses) (symbols_in_lines lines) e.agrees) in
    let same_lines = lines_alike f e.forth lines (agree_right f e.forth (symbols_in hypotheses) (symbols_in_lines lines) e.agrees) (λ n l k. introduced hypotheses (take n lines) l (accepted n l k)) in
    subst₂ AreAccepted (sym same_terms) (sym same_lines) (bijective_law e.forth e.undo e.inverse hypotheses lines accepted)

pub empty_law : EmptyLinesStay
empty_law f lines h = record {
  number = h.number;
  line = line_mapped f h.line;
  line_is = slice_get-map (line_mapped f) lines h.number ∙ ap (option_map (line_mapped f)) h.line_is;
  empty = ap (map (literal_mapped f)) h.empty;
}
