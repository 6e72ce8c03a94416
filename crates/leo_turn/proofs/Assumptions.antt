-- Hypotheses that are assumed, and the start of a search.
use Rattle.std.proofs.Common.{ℕ, zero, suc, ◌≡◌, ◌∙◌, ◌+◌, ◌<◌, ◌≤◌, true, List, [], ◌∷◌, ◌++◌, length, map, take, slice_get, Some, None, refl, sym, ap, ap₂, subst, arith}
use Rattle.std.proofs.lemmas.List.{map-append}
use Rattle.leo_terms.specs.Tree.{Tree, type_of, truth_type}
use Rattle.leo_terms.specs.Contents.{Contents, Extends, AreTerms, tree_at, type_at, type_number}
use Rattle.leo_terms.proofs.CallerLemmas.{extends-trans, new_bank, tree-kept, type_number-kept, type_of-term}
use Rattle.std.proofs.Math.Seq.{take-length}
use Rattle.leo_q0.specs.Terms.{SimpleType}
use Rattle.leo_clause.specs.declared.clause.Clause.{Clause}
use Rattle.leo_clause.specs.declared.record.Rule.TheVariants as record_of
use Rattle.leo_clause.specs.declared.record.StepRecord.{StepRecord}
use Rattle.leo_clause.specs.Trees.{ClauseTree, Literal, clause_at, literal_at}
use Rattle.leo_clause.specs.Typed.{IsOver}
use Rattle.leo_kernel.specs.Acceptance.{Accepts}
use Rattle.leo_kernel.specs.Conclusions.{assumed}
use Rattle.leo_kernel.specs.Records.{IsStepOf}
use Rattle.leo_kernel.specs.Shapes.{truth_tree}
use Rattle.leo_kernel.specs.Steps.{Line, line_at, assume, clause_of}
use Rattle.leo_turn.specs.declared.search.Search.{Search}
use Rattle.leo_turn.specs.Changing.{with_lines}
use Rattle.leo_turn.specs.Growth.{Grows}
use Rattle.leo_turn.specs.Intakes.{Intakes}
use Rattle.leo_turn.specs.Searches.{HasClause, HaveWeights, IsSearch, choices_of, hypotheses_of, kept_of, lines_of}
use Rattle.leo_turn.specs.Starting.{IsAssumed, empty_search}
use Rattle.leo_turn.specs.Turns.{AreFormulas, AreKnown, IsFixed, IsFormula, IsStart, Setting, Stock, TakesEach, none_left, TakesIn, no_stock, state_of, stock_of}
use Rattle.leo_turn.proofs.Growing.{grows-itself, grows-trans}
use Rattle.leo_turn.proofs.Lists.{get-last, get-map, get-within, length-map, longer-pushed, take-next}
use Rattle.leo_turn.proofs.Origins.{assumed-from, from-next, none-from, term-at}
use Rattle.leo_turn.proofs.Passives.{entries-came}
use Rattle.leo_turn.proofs.Valid.{accepted-added, hypotheses-same, search-grow, search-lines, steps-added}
use Rattle.leo_turn.proofs.Worked.{each-added, known-choices, stock-same}

-- the line is accepted
accepts-assumed : (hypotheses : List Tree) (lines : List Line) (n : ℕ) (t : Tree) → slice_get hypotheses n ≡ Some t → n < length hypotheses → IsOver [] 0 t → type_of t ≡ truth_type → Accepts hypotheses lines (record { clause = assumed t; rule = assume n })
accepts-assumed hypotheses lines n t stands within closed formula = record {
  parents = within;
  literals = tt;
  place = tt;
  types = record { clause_typed = (record { left_over = closed; right_over = (tt, tt); same_type = formula }, tt); rule_typed = tt };
  symbols = tt;
  shape = rw stands refl;
}

-- the record is that line
pub step-assumed : (c : Contents) (k : Clause) (n t right : ℕ) → k.vars ≡ [] → k.lits ≡ record { pos = true; left = t; right = right } ∷ [] → t < length c.terms → right < length c.terms
    → (u : Tree) → tree_at c t ≡ u → tree_at c right ≡ truth_tree true
    → IsStepOf c (record { clause = k; rule = record_of.Axiom n }) × (line_at c (record { clause = k; rule = record_of.Axiom n }) ≡ record { clause = assumed u; rule = assume n })
step-assumed c k n t right vars lits within right_within u reads truth = (
  record { clause_of = record { types_of = rw vars tt; literals_of = rw lits (within, right_within, tt) }; terms_of = tt },
  ap (λ (d : ClauseTree). record { clause = d; rule = assume n }) (clause-assumed (clause_at c k) u (ap (map (type_at c)) vars) (ap (map (literal_at c)) lits ∙ ap (λ (l : Literal). l ∷ []) (ap₂ (λ (x y : Tree). record { positive = true; left = x; right = y }) reads truth))),
)
  where
    clause-assumed : (d : ClauseTree) (u : Tree) → d.variables ≡ [] → d.literals ≡ record { positive = true; left = u; right = truth_tree true } ∷ [] → d ≡ assumed u
    clause-assumed d u vs ls = ap₂ (λ (types : List SimpleType) (ks : List Literal). record { variables = types; literals = ks }) vs ls

-- a hypothesis is assumed
module _ {b c : Contents} (e : Extends b c) (s : Search) (h : IsSearch b s) where
  -- a term with T's type number is a formula
  pub formula-type : (t right : ℕ) → IsFormula b t → right < length c.terms → type_number c right ≡ 0 → tree_at c right ≡ truth_tree true → type_of (tree_at b t) ≡ truth_type
  formula-type t right formula within zero_type reads =
      let number : type_number c t ≡ type_number c right = type_number-kept e t formula.within ∙ formula.formula ∙ sym zero_type in
      let within_c : t < length c.terms = (let l = formula.within in let m = e.terms_more in omega (arith, l, m)) in
      ap type_of (sym (tree-kept e t formula.within)) ∙ type_of-term (new_bank e) t within_c ∙ ap (type_at c) number ∙ sym (type_of-term (new_bank e) right within) ∙ ap type_of reads

  pub hypothesis-assumed : (n t : ℕ) (r : StepRecord) → slice_get s.hyps n ≡ Some t → IsFormula b t → type_of (tree_at b t) ≡ truth_type → IsStepOf c r → line_at c r ≡ record { clause = assumed (tree_at b t); rule = assume n } → IsAssumed b c s (with_lines s (s.lines ++ r ∷ [])) t
  hypothesis-assumed n t r stands formula typed step is =
      let valid : IsSearch c s = search-grow e s h in
      let more : map (line_at c) (s.lines ++ r ∷ []) ≡ lines_of c s ++ record { clause = assumed (tree_at b t); rule = assume n } ∷ [] = map-append (line_at c) s.lines (r ∷ []) ∙ ap (λ (l : Line). lines_of c s ++ l ∷ []) is in
      let there : slice_get (hypotheses_of c s) n ≡ Some (tree_at b t) = ap (λ (ts : List Tree). slice_get ts n) (hypotheses-same e s h) ∙ get-map (tree_at b) s.hyps n t stands in
      let within : n < length (hypotheses_of c s) = get-within (hypotheses_of c s) n (tree_at b t) there in
      let accepts : Accepts (hypotheses_of c s) (lines_of c s) (record { clause = assumed (tree_at b t); rule = assume n }) = accepts-assumed (hypotheses_of c s) (lines_of c s) n (tree_at b t) there within formula.closed typed in
      let count : length (lines_of c s) ≡ length s.lines = length-map (line_at c) s.lines in
      record {
        search = search-lines c s (s.lines ++ r ∷ []) valid (longer-pushed r refl) (steps-added c s.lines r valid.steps step) (rw more (accepted-added (hypotheses_of c s) (lines_of c s) (record { clause = assumed (tree_at b t); rule = assume n }) valid.accepted accepts)) (rw more (from-next (hypotheses_of c s) (lines_of c s) (record { clause = assumed (tree_at b t); rule = assume n }) valid.origin (λ o g. (assumed-from o (tree_at b t) (term-at o (hypotheses_of c s) n (tree_at b t) g.hypotheses_from there), tt))));
        clause = record { line = record { clause = assumed (tree_at b t); rule = assume n }; stands = rw more (subst (λ m. slice_get (lines_of c s ++ record { clause = assumed (tree_at b t); rule = assume n } ∷ []) m ≡ Some (record { clause = assumed (tree_at b t); rule = assume n })) count (get-last (lines_of c s) (record { clause = assumed (tree_at b t); rule = assume n }))); clause_is = refl };
        stock = stock-same e s h;
      }

-- and taken in
pub hypothesis-taken : {b c d : Contents} (e : Extends b c) (f : Extends c d) (s s1 s2 : Search) (t : ℕ) → IsAssumed b c s s1 t
    → Intakes (length c.symbols) None (kept_of c s1) (choices_of c s1) (clause_of (lines_of c s1) (length s.lines)) (kept_of d s2) (choices_of d s2)
    → (setting : Setting) → setting.symbols ≤ length b.symbols → TakesIn setting None (assumed (tree_at b t)) (stock_of b s) (stock_of d s2)
hypothesis-taken {b} {c} {d} e f s s1 s2 t a i setting l =
    let clause : clause_of (lines_of c s1) (length s.lines) ≡ assumed (tree_at b t) = clause-has (lines_of c s1) (length s.lines) (assumed (tree_at b t)) a.clause in
    let m = e.symbols_more in
    let known : AreKnown setting (length c.symbols) (choices_of c s1) = record { problem = omega (arith, l, m); choices_below = known-choices c s1 a.search } in
    subst (λ (old : Stock). TakesIn setting None (assumed (tree_at b t)) old (stock_of d s2)) a.stock
    (record { known = length c.symbols; are_known = known; intakes = subst (λ (k : ClauseTree). Intakes (length c.symbols) None (kept_of c s1) (choices_of c s1) k (kept_of d s2) (choices_of d s2)) clause i })
  where
    clause-has : (lines : List Line) (n : ℕ) (k : ClauseTree) → HasClause lines n k → clause_of lines n ≡ k
    clause-has lines n k g = rw g.stands g.clause_is

-- the formulas of a bank that grew
module _ {b c : Contents} (e : Extends b c) where
  formula-at : (ts : List ℕ) (n t : ℕ) → AreFormulas b ts → slice_get ts n ≡ Some t → IsFormula b t
  formula-at [] n t h g = absurd cc
  formula-at (u ∷ ts) zero t h g = (let k : u ≡ t = cc in subst (IsFormula b) k h.0)
  formula-at (u ∷ ts) (suc n) t h g = formula-at ts n t h.1 g

  formula-grow : (t : ℕ) → IsFormula b t → IsFormula c t
  formula-grow t h =
      let same : tree_at c t ≡ tree_at b t = tree-kept e t h.within in
      record {
        within = (let l = h.within in let m = e.terms_more in omega (arith, l, m));
        closed = subst (IsOver [] 0) (sym same) h.closed;
        formula = type_number-kept e t h.within ∙ h.formula;
      }

-- the search without a line is valid
formulas-terms : (c : Contents) (ts : List ℕ) → AreFormulas c ts → AreTerms c ts
formulas-terms c [] h n t g = absurd cc
formulas-terms c (u ∷ ts) h zero t g = (let k : u ≡ t = cc in subst (λ (v : ℕ). v < length c.terms) k h.0.within)
formulas-terms c (u ∷ ts) h (suc n) t g = formulas-terms c ts h.1 n t g

pub search-empty : (c : Contents) (hyps : List ℕ) (depth weight : ℕ) → AreFormulas c hyps → IsSearch c (empty_search hyps depth weight)
search-empty c hyps depth weight h = record {
  hypotheses = formulas-terms c hyps h;
  steps = λ n s g. absurd (nothing n s g);
  accepted = λ n s g. absurd (nothing n s g);
  origin = none-from (hypotheses_of c (empty_search hyps depth weight));
  choices = record { of_bank = λ n k g. absurd (nothing n k g); choices = record { distinct = λ m n j k f g. absurd (nothing m j f); closed = λ n k g. absurd (nothing n k g); lacking = λ m n j k f g l. absurd (nothing m j f) } };
  choice_lines = tt;
  rising = tt;
  typed = tt;
  fronts = tt;
  normal = tt;
  few = omega arith;
  clause_lines = tt;
  plain = tt;
  shared = record { active_below = tt; passive_below = tt; once = λ n l. absurd (let f : ⊥ = omega arith in f) };
  weights = tt;
}
  where
    nothing : {X : Type 0} (n : ℕ) (x : X) → slice_get [] n ≡ Some x → ⊥
    nothing n x g = cc

-- the first n hypotheses were taken in
pub record AreAssumed (b c : Contents) (hyps : List ℕ) (depth weight : ℕ) (s : Search) (n : ℕ) : Type 0 where
  pub search : IsSearch c s
  pub taken : (setting : Setting) → setting.symbols ≤ length b.symbols → TakesEach setting None (map assumed (map (tree_at b) (take n hyps))) no_stock (stock_of c s)
  pub grows : Grows (empty_search hyps depth weight) s
  pub extends : Extends b c

pub assumed-first : (b : Contents) (hyps : List ℕ) (depth weight : ℕ) → Extends b b → AreFormulas b hyps → AreAssumed b b hyps depth weight (empty_search hyps depth weight) 0
assumed-first b hyps depth weight e h = record {
  search = search-empty b hyps depth weight h;
  taken = λ setting l. none_left no_stock;
  grows = grows-itself (empty_search hyps depth weight);
  extends = e;
}

module _ (b c : Contents) (hyps : List ℕ) (depth weight : ℕ) (s : Search) (n t : ℕ) (h : AreAssumed b c hyps depth weight s n) (formulas : AreFormulas b hyps) (stands : slice_get hyps n ≡ Some t) where
  pub assumed-stands : slice_get s.hyps n ≡ Some t
  assumed-stands = ap (λ (ts : List ℕ). slice_get ts n) h.grows.hyps ∙ stands

  pub assumed-formula : IsFormula c t
  assumed-formula = formula-grow h.extends t (formula-at h.extends hyps n t formulas stands)

  pub assumed-next : (d : Contents) (s2 : Search) → Extends c d → IsSearch d s2 → Grows s s2
      → ((setting : Setting) → setting.symbols ≤ length c.symbols → TakesIn setting None (assumed (tree_at c t)) (stock_of c s) (stock_of d s2)) → AreAssumed b d hyps depth weight s2 (n + 1)
  assumed-next d s2 e valid g taken =
      let same : tree_at c t ≡ tree_at b t = tree-kept h.extends t (formula-at h.extends hyps n t formulas stands).within in
      let more : map assumed (map (tree_at b) (take (n + 1) hyps)) ≡ map assumed (map (tree_at b) (take n hyps)) ++ assumed (tree_at b t) ∷ [] =
      ap (λ (ts : List ℕ). map assumed (map (tree_at b) ts)) (take-next hyps n t stands) ∙ ap (map assumed) (map-append (tree_at b) (take n hyps) (t ∷ [])) ∙ map-append assumed (map (tree_at b) (take n hyps)) (tree_at b t ∷ []) in
      let m = h.extends.symbols_more in
      record {
        search = valid;
        taken = λ setting l. subst (λ (ks : List ClauseTree). TakesEach setting None ks no_stock (stock_of d s2)) (sym more)
            (each-added setting None (map assumed (map (tree_at b) (take n hyps))) no_stock (stock_of c s) (stock_of d s2) (assumed (tree_at b t)) (h.taken setting l)
            (subst (λ (u : Tree). TakesIn setting None (assumed u) (stock_of c s) (stock_of d s2)) same (taken setting (omega (arith, l, m)))));
        grows = grows-trans h.grows g;
        extends = extends-trans h.extends e;
      }

-- all were
pub assumed-all : (b c : Contents) (hyps : List ℕ) (depth weight : ℕ) (s : Search) → AreAssumed b c hyps depth weight s (length hyps)
    → (symbols : ℕ) → symbols ≤ length b.symbols → IsStart (record { symbols = symbols; depth = depth; weight = weight }) (map (tree_at b) hyps) (state_of c s)
assumed-all b c hyps depth weight s h symbols l =
    let count : length h.grows.entries ≡ length (kept_of c s) = h.grows.as_many ∙ sym (length-map (clause_at c) s.kept ∙ ap length h.grows.kept) in
    let weights : HaveWeights (kept_of c s) h.grows.entries = subst (HaveWeights (kept_of c s)) h.grows.passive h.search.weights in
    record {
      taken = subst (λ (ts : List ℕ). TakesEach (record { symbols = symbols; depth = depth; weight = weight }) None (map assumed (map (tree_at b) ts)) no_stock (stock_of c s)) (take-length hyps) (h.taken (record { symbols = symbols; depth = depth; weight = weight }) l);
      active = h.grows.active;
      passive = h.grows.passive ∙ entries-came [] (kept_of c s) h.grows.entries h.grows.numbered count weights;
      turns = h.grows.turns;
    }

pub assumed-fixed : (b c : Contents) (hyps : List ℕ) (depth weight : ℕ) (s : Search) (n : ℕ) → AreAssumed b c hyps depth weight s n → IsFixed hyps depth weight s
assumed-fixed b c hyps depth weight s n h = record { hyps_are = h.grows.hyps; depth_is = h.grows.depth; weight_is = h.grows.weight }
