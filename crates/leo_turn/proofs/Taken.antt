-- What is kept of a clause that is taken in.
use Rattle.std.proofs.Common.{ℕ, zero, suc, ◌≡◌, ◌∙◌, ◌<◌, ◌≤◌, List, [], ◌∷◌, ◌++◌, length, map, slice_get, Option, Some, None, refl, sym, ap, subst, arith}
use Rattle.std.proofs.lemmas.List.{map-append}
use Rattle.leo_terms.specs.Contents.{Contents, IsBank, Extends, AreTerms, tree_at}
use Rattle.leo_terms.proofs.CallerLemmas.{extends-trans, old_bank}
use Rattle.leo_clause.specs.declared.clause.Clause.{Clause}
use Rattle.leo_clause.specs.declared.clause.Lit.{Lit}
use Rattle.leo_clause.specs.declared.record.Rule.{Rule}
use Rattle.leo_clause.specs.declared.record.Rule.TheVariants as record_of
use Rattle.leo_clause.specs.declared.record.StepRecord.{StepRecord}
use Rattle.leo_clause.specs.declared.choices.Abbr.{Abbr}
use Rattle.leo_clause.specs.Choices.{Choice, choice_at, choices_at}
use Rattle.leo_clause.specs.Trees.{ClauseTree, clause_at, literal_at}
use Rattle.leo_clause.specs.Typed.{AreLiteralsOf}
use Rattle.leo_kernel.specs.Acceptance.{AreAcceptedAfter}
use Rattle.leo_kernel.specs.Records.{AreStepsOf, AreTermsOfRule}
use Rattle.leo_kernel.specs.Steps.{StepRule, convert, Line, line_at, rule_at, clause_of}
use Rattle.leo_kernel.specs.Symbols.{LackSymbol, LinesLackSymbol, LiteralsLackSymbol, RuleLacksSymbol, abbreviation_at, abbreviation_in}
use Rattle.leo_kernel.proofs.Growing.{clause-kept}
use Rattle.leo_kernel.proofs.LinesGrowing.{lines-grow, lines-kept}
use Rattle.leo_clausify.specs.declared.leaves.Leaf.{Leaf}
use Rattle.leo_clausify.specs.Choosing.{AreInOrder}
use Rattle.leo_clausify.specs.Leaves.{IsLeafOf, first_lines, last_clause, leaf_clause}
use Rattle.leo_clausify.specs.Origins.{Origin, IsChoiceFrom, IsClauseFrom, IsTermFrom, AreLinesFrom}
use Rattle.leo_clausify.specs.Splitting.{AreNormal, Splits, Overflows}
use Rattle.leo_clausify.proofs.Picks.{items-kept, lacks-new}
use Rattle.leo_clausify.proofs.SplitOrigins.{choices-from}
use Rattle.leo_turn.specs.declared.search.Search.{Search}
use Rattle.leo_turn.specs.Changing.{AreAnnounced, AreLeavesOf, AreNew, IsConverted, IsLeafAt, HasSameSymbols}
use Rattle.leo_turn.specs.Growth.{IsLonger}
use Rattle.leo_turn.specs.Intakes.{Intakes, splits, overflows, TakesAll, normal_clause}
use Rattle.leo_turn.specs.Origins.{IsOriginOf}
use Rattle.leo_turn.specs.Searches.{HasClause, IsSearch, choices_of, hypotheses_of, kept_of, lines_of}
use Rattle.leo_turn.proofs.Lists.{get-made, get-map, get-last, length-map, longer-get, longer-map}
use Rattle.leo_turn.proofs.Origins.{all-from, clause-from}
use Rattle.leo_turn.proofs.Splitting.{AreMore, high-at, items-longer, overflows-weaker, splits-more, splits-weaker}
use Rattle.leo_turn.proofs.Valid.{choices-same, hypotheses-same, kept-same, lines-same, search-grow, typed-grow}

-- no term of a bank has a symbol that came later
module _ (c : Contents) (b : IsBank c) (n : ℕ) (high : length c.symbols ≤ n) where
  terms-lack : (ts : List ℕ) → AreTerms c ts → LackSymbol n (map (tree_at c) ts)
  terms-lack [] h = tt
  terms-lack (t ∷ ts) h = (lacks-new c b n t high (h zero t refl), terms-lack ts (λ i u e. h (suc i) u e))

  literals-lack : (ls : List Lit) → AreLiteralsOf c ls → LiteralsLackSymbol n (map (literal_at c) ls)
  literals-lack [] h = tt
  literals-lack (l ∷ ls) h = (lacks-new c b n l.left high h.0, lacks-new c b n l.right high h.1, literals-lack ls h.2)

  rule-lacks : (r : Rule) → AreTermsOfRule c r → RuleLacksSymbol n (rule_at c r)
  rule-lacks (record_of.Inst p sigma) h = terms-lack sigma h
  rule-lacks (record_of.Axiom h) k = tt
  rule-lacks (record_of.Convert p) k = tt
  rule-lacks (record_of.Para p i s q j r path) k = tt
  rule-lacks (record_of.Arrange p) k = tt
  rule-lacks (record_of.Drop p i) k = tt
  rule-lacks (record_of.Logic p i kind a) k = tt
  rule-lacks (record_of.BoolExt p i half) k = tt
  rule-lacks (record_of.FuncExt p i a) k = tt
  rule-lacks (record_of.Decompose p i) k = tt
  rule-lacks record_of.Refl k = tt
  rule-lacks record_of.Choice k = tt
  rule-lacks (record_of.Factor p i j) k = tt
  rule-lacks (record_of.Abbreviate s) k = tt

  lines-lack : (rs : List StepRecord) → AreStepsOf c rs → LinesLackSymbol n (map (line_at c) rs)
  lines-lack [] h = tt
  lines-lack (r ∷ rs) h = (literals-lack r.clause.lits (h zero r refl).clause_of.literals_of, rule-lacks r.rule (h zero r refl).terms_of, lines-lack rs (λ i s e. h (suc i) s e))

get-behind : {X : Type 0} (xs ys : List X) (i : ℕ) (x : X) → length xs ≤ i → slice_get (xs ++ ys) i ≡ Some x → (j : ℕ) × (slice_get ys j ≡ Some x)
get-behind [] ys i x l e = (i, e)
get-behind (y ∷ xs) ys zero x l e = absurd (let f : ⊥ = omega arith in f)
get-behind (y ∷ xs) ys (suc i) x l e = get-behind xs ys i x (omega arith) e

-- with choice symbols more, each of which has a number that no earlier symbol has
-- the terms of the items that are new are from each origin of the lines and of the items before them
abbrev pub AreNewFrom : Contents → Search → List (ℕ × ℕ) → Type 0
AreNewFrom c s items = (n : ℕ) (k : ℕ × ℕ) → slice_get items n ≡ Some k → length s.abbr.items ≤ n → (o : Origin) → IsOriginOf (hypotheses_of c s) (lines_of c s) o
    → ((m : ℕ) (j : ℕ × ℕ) → m < n → slice_get items m ≡ Some j → IsChoiceFrom o (choice_at c j)) → IsTermFrom o (tree_at c k.1)

module _ {c d : Contents} (e : Extends c d) (s : Search) (h : IsSearch c s) (items : List (ℕ × ℕ)) (more : AreMore (length c.symbols) (choices_of c s) (map (choice_at d) items)) (order : AreInOrder d items) where
  pub more-longer : IsLonger s.abbr.items items
  more-longer = items-longer e s.abbr.items items more.more h.choices.of_bank order.of_bank more.is

  high : (n : ℕ) (k : ℕ × ℕ) → slice_get items n ≡ Some k → length s.abbr.items ≤ n → length c.symbols ≤ k.0
  high n k g l =
      let there : slice_get (choices_of c s ++ more.more) n ≡ Some (choice_at d k) = subst (λ (ks : List Choice). slice_get ks n ≡ Some (choice_at d k)) more.is (get-map (choice_at d) items n k g) in
      let many = length-map (choice_at c) s.abbr.items in
      let b = get-behind (choices_of c s) more.more n (choice_at d k) (omega arith) there in
      high-at (length c.symbols) more.more b.0 (choice_at d k) more.high b.1

  pub more-new : AreNewFrom d s items → AreNew d s items
  more-new from = record {
    hypotheses_lack = λ n k g l. subst (LackSymbol k.0) (sym (hypotheses-same e s h)) (terms-lack c (old_bank e) k.0 (high n k g l) s.hyps h.hypotheses);
    lines_lack = λ n k g l. subst (LinesLackSymbol k.0) (sym (lines-same e s h)) (lines-lack c (old_bank e) k.0 (high n k g l) s.lines h.steps);
    terms_from = from;
  }

-- after a split
module _ {c d : Contents} (e : Extends c d) (s : Search) (h : IsSearch c s) (abbr : Abbr) (room : ℕ) (start : ClauseTree) (leaves : List ClauseTree) (split : Splits (length c.symbols) room (choices_of c s) start (choices_at d abbr) leaves) (order : AreInOrder d abbr.items) where
  pub split-longer : IsLonger s.abbr.items abbr.items
  split-longer = more-longer e s h abbr.items (splits-more (length c.symbols) room (choices_of c s) (choices_at d abbr) start leaves split) order

  split-from : (line : ℕ) → HasClause (lines_of c s) line start → AreNewFrom d s abbr.items
  split-from line there n k g l o from before =
      let many : length (choices_of c s) ≡ length s.abbr.items = length-map (choice_at c) s.abbr.items in
      let all : AreLinesFrom o (lines_of d s) = all-from (lines_of d s) (search-grow e s h).origin from in
      let clause : IsClauseFrom o start = clause-from o (lines_of c s) line start (subst (AreLinesFrom o) (lines-same e s h) all) there in
      choices-from (length c.symbols) room (choices_of c s) (choices_at d abbr) start leaves split n (choice_at d k) (let x = many in omega (arith, x, l)) (get-map (choice_at d) abbr.items n k g) o from.truth clause
      (λ m j u at. (let f = get-made (choice_at d) abbr.items m j at in subst (IsChoiceFrom o) f.1.1 (before m f.0 u f.1.0)))

  pub split-new : (line : ℕ) → HasClause (lines_of c s) line start → AreNew d s abbr.items
  split-new line there = more-new e s h abbr.items (splits-more (length c.symbols) room (choices_of c s) (choices_at d abbr) start leaves split) order (split-from line there)

-- leaves in a bank that grew
leaf-grow : {c d : Contents} → Extends c d → (choices : List Choice) (start : ClauseTree) (leaf : Leaf) → IsLeafOf c choices start leaf → IsLeafOf d choices start leaf
leaf-grow {c} {d} e choices start leaf h =
    let lines : map (line_at d) leaf.records ≡ map (line_at c) leaf.records = lines-kept e leaf.records h.steps in
    let clause : clause_at d leaf.clause ≡ clause_at c leaf.clause = clause-kept e leaf.clause h.typed.of_bank in
    record {
      typed = typed-grow e leaf.clause h.typed;
      normal = subst (λ (k : ClauseTree). AreNormal k.literals) (sym clause) h.normal;
      steps = lines-grow e leaf.records h.steps;
      accepted = λ rule. subst (AreAcceptedAfter (first_lines choices start rule)) (sym lines) (h.accepted rule);
      some = h.some;
      ends = ap (last_clause start) lines ∙ h.ends ∙ sym clause;
      origin = λ o z from choices_from. subst (AreLinesFrom o) (sym lines) (h.origin o z from choices_from);
    }

each-leaf : (c : Contents) (s : Search) (n : ℕ) (leaves : List Leaf) → ((i : ℕ) (leaf : Leaf) → slice_get leaves i ≡ Some leaf → IsLeafAt c s n leaf) → AreLeavesOf c s n leaves
each-leaf c s n [] f = tt
each-leaf c s n (leaf ∷ leaves) f = (f zero leaf refl, each-leaf c s n leaves (λ i l e. f (suc i) l e))

leaves-kept : {c d : Contents} → Extends c d → (choices : List Choice) (start : ClauseTree) (leaves : List Leaf) → ((i : ℕ) (leaf : Leaf) → slice_get leaves i ≡ Some leaf → IsLeafOf c choices start leaf) → map (leaf_clause d) leaves ≡ map (leaf_clause c) leaves
leaves-kept {c} {d} e choices start [] f = refl
leaves-kept {c} {d} e choices start (leaf ∷ leaves) f = rw (clause-kept e leaf.clause (f zero leaf refl).typed.of_bank, leaves-kept e choices start leaves (λ i l g. f (suc i) l g)) refl

plain-rule : (r : StepRule) (line : ℕ) (k : ClauseTree) → r ≡ convert line → abbreviation_in r k.literals ≡ None
plain-rule r line k e = ap (λ (q : StepRule). abbreviation_in q k.literals) e

-- from the line that was converted on
module _ {b0 b1 : Contents} (e01 : Extends b0 b1) (s0 s1 : Search) (line : ℕ) (k : Clause) (h0 : IsSearch b0 s0) (conv : IsConverted b0 b1 s0 s1 line k) where
  abbr-same : s1.abbr ≡ s0.abbr
  abbr-same = ap (λ (s : Search). s.abbr) conv.new_is

  kept-as : s1.kept ≡ s0.kept
  kept-as = ap (λ (s : Search). s.kept) conv.new_is

  choices-as : choices_of b1 s1 ≡ choices_of b0 s0
  choices-as = ap (choices_at b1) abbr-same ∙ choices-same e01 s0 h0

  converted-stands : slice_get (lines_of b1 s1) (length s0.lines) ≡ Some (line_at b1 conv.record_of)
  converted-stands =
      let lines : lines_of b1 s1 ≡ map (line_at b1) s0.lines ++ line_at b1 conv.record_of ∷ [] = ap (λ (s : Search). map (line_at b1) s.lines) conv.new_is ∙ map-append (line_at b1) s0.lines (conv.record_of ∷ []) in
      rw lines (subst (λ n. slice_get (map (line_at b1) s0.lines ++ line_at b1 conv.record_of ∷ []) n ≡ Some (line_at b1 conv.record_of)) (length-map (line_at b1) s0.lines) (get-last (map (line_at b1) s0.lines) (line_at b1 conv.record_of)))

  pub converted-there : HasClause (lines_of b1 s1) (length s0.lines) (clause_at b1 k)
  converted-there = record { line = line_at b1 conv.record_of; stands = converted-stands; clause_is = conv.clause }

  pub taken-room : {b2 : Contents} → Extends b1 b2 → (limit : Option ℕ) → Overflows (length b1.symbols) 256 (choices_of b1 s1) (clause_at b1 k) → Intakes (length b0.symbols) limit (kept_of b0 s0) (choices_of b0 s0) (clause_of (lines_of b0 s0) line) (kept_of b2 s1) (choices_of b2 s1)
  taken-room {b2} e12 limit o =
      let e02 = extends-trans e01 e12 in
      let ks : kept_of b2 s1 ≡ kept_of b0 s0 = ap (map (clause_at b2)) kept-as ∙ kept-same e02 s0 h0 in
      let cs : choices_of b2 s1 ≡ choices_of b0 s0 = ap (choices_at b2) abbr-same ∙ choices-same e02 s0 h0 in
      let o0 : Overflows (length b0.symbols) 256 (choices_of b0 s0) (normal_clause (clause_of (lines_of b0 s0) line)) = overflows-weaker (length b0.symbols) (length b1.symbols) e01.symbols_more 256 (choices_of b0 s0) (normal_clause (clause_of (lines_of b0 s0) line)) (subst (λ (t : ClauseTree). Overflows (length b1.symbols) 256 (choices_of b0 s0) t) conv.reads (subst (λ (js : List Choice). Overflows (length b1.symbols) 256 js (clause_at b1 k)) choices-as o)) in
      rw (ks, cs) (overflows o0)

  module _ {b2 b3 : Contents} (e12 : Extends b1 b2) (e23 : Extends b2 b3) (s2 : Search) (abbr : Abbr) (leaves : List Leaf)
      (split : Splits (length b1.symbols) 256 (choices_of b1 s1) (clause_at b1 k) (choices_at b2 abbr) (map (leaf_clause b2) leaves))
      (each : (n : ℕ) (leaf : Leaf) → slice_get leaves n ≡ Some leaf → IsLeafOf b2 (choices_at b2 abbr) (clause_at b1 k) leaf)
      (order : AreInOrder b2 abbr.items) (ann : AreAnnounced b3 s1 s2 abbr.items) where
    choices-then : choices_of b3 s2 ≡ choices_at b2 abbr
    choices-then = ap (map (choice_at b3)) ann.abbr ∙ items-kept e23 abbr.items order.of_bank

    the-line : slice_get (lines_of b3 s2) (length s0.lines) ≡ Some (line_at b1 conv.record_of)
    the-line =
        let then : slice_get (lines_of b3 s1) (length s0.lines) ≡ Some (line_at b1 conv.record_of) = subst (λ (ls : List Line). slice_get ls (length s0.lines) ≡ Some (line_at b1 conv.record_of)) (sym (lines-same (extends-trans e12 e23) s1 conv.search)) converted-stands in
        longer-get (longer-map (line_at b3) ann.lines) (length s0.lines) (line_at b1 conv.record_of) then

    pub leaves-at : AreLeavesOf b3 s2 (length s0.lines) leaves
    leaves-at = each-leaf b3 s2 (length s0.lines) leaves (λ i leaf g. record {
      start = clause_at b1 k;
      clause = record { line = line_at b1 conv.record_of; stands = the-line; clause_is = conv.clause };
      plain = ap abbreviation_at the-line ∙ plain-rule (rule_at b1 conv.record_of.rule) line (clause_at b1 conv.record_of.clause) conv.plain;
      leaf_of = subst (λ (cs : List Choice). IsLeafOf b3 cs (clause_at b1 k) leaf) (sym choices-then) (leaf-grow e23 (choices_at b2 abbr) (clause_at b1 k) leaf (each i leaf g));
    })

    pub taken-leaves : (limit : Option ℕ) (s3 : Search) → TakesAll limit (kept_of b3 s2) (map (leaf_clause b3) leaves) (kept_of b3 s3) → HasSameSymbols b3 s2 s3 → Intakes (length b0.symbols) limit (kept_of b0 s0) (choices_of b0 s0) (clause_of (lines_of b0 s0) line) (kept_of b3 s3) (choices_of b3 s3)
    taken-leaves limit s3 t g =
        let e03 = extends-trans (extends-trans e01 e12) e23 in
        let ks : kept_of b3 s2 ≡ kept_of b0 s0 = ap (map (clause_at b3)) (ann.kept ∙ kept-as) ∙ kept-same e03 s0 h0 in
        let cs : choices_of b3 s3 ≡ choices_at b2 abbr = ap (choices_at b3) g.abbr ∙ choices-then in
        let ls : map (leaf_clause b3) leaves ≡ map (leaf_clause b2) leaves = leaves-kept e23 (choices_at b2 abbr) (clause_at b1 k) leaves each in
        let sp : Splits (length b0.symbols) 256 (choices_of b0 s0) (normal_clause (clause_of (lines_of b0 s0) line)) (choices_at b2 abbr) (map (leaf_clause b2) leaves) = splits-weaker (length b0.symbols) (length b1.symbols) e01.symbols_more 256 (choices_of b0 s0) (choices_at b2 abbr) (normal_clause (clause_of (lines_of b0 s0) line)) (map (leaf_clause b2) leaves) (subst (λ (u : ClauseTree). Splits (length b1.symbols) 256 (choices_of b0 s0) u (choices_at b2 abbr) (map (leaf_clause b2) leaves)) conv.reads (subst (λ (js : List Choice). Splits (length b1.symbols) 256 js (clause_at b1 k) (choices_at b2 abbr) (map (leaf_clause b2) leaves)) choices-as split)) in
        let ta : TakesAll limit (kept_of b0 s0) (map (leaf_clause b2) leaves) (kept_of b3 s3) = subst (λ (js : List ClauseTree). TakesAll limit js (map (leaf_clause b2) leaves) (kept_of b3 s3)) ks (subst (λ (js : List ClauseTree). TakesAll limit (kept_of b3 s2) js (kept_of b3 s3)) ls t) in
        subst (λ (js : List Choice). Intakes (length b0.symbols) limit (kept_of b0 s0) (choices_of b0 s0) (clause_of (lines_of b0 s0) line) (kept_of b3 s3) js) (sym cs) (splits (kept_of b3 s3) (choices_at b2 abbr) (map (leaf_clause b2) leaves) sp ta)
