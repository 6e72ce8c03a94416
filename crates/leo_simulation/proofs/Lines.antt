-- Each accepted line is derivable from the hypotheses and the definitions that abbreviations make.
use Rattle.std.proofs.Common.{◌≡◌, ℕ, zero, suc, ◌<◌, Bool, true, false, List, [], ◌∷◌, ◌++◌, length, map, take, slice_get, Option, Some, None, IsSomeAnd, refl, sym, ap, ◌∙◌, subst, arith}
use Rattle.std.specs.List.{Contains}
use Rattle.std.proofs.lemmas.List.{map-append}
use Rattle.std.proofs.lemmas.List.Elements.{Contains-append_left, Contains-append_right}
use Rattle.leo_q0.specs.Terms.{SimpleType, Term}
use Rattle.leo_q0.specs.Derivations.{Derivable, by_hypothesis}
use Rattle.leo_terms.specs.Tree.{Tree, symbol}
use Rattle.leo_terms.specs.Decode.{decoded}
use Rattle.leo_terms.proofs.Growth.{slice_get-some}
use Rattle.leo_clause.specs.Trees.{Literal, ClauseTree}
use Rattle.leo_clause.specs.Typed.{AreTyped}
use Rattle.leo_clause.specs.declared.record.LogicKind.{LogicKind}
use Rattle.leo_clause.specs.declared.record.LogicKind.TheVariants as kind
use Rattle.leo_kernel.specs.Shapes.{equal, literal_type, IsArrowType, side_of}
use Rattle.leo_kernel.specs.Places.{subterm}
use Rattle.leo_kernel.specs.Conditions.{HasParents, HasLiterals, RuleHasTypes}
use Rattle.leo_kernel.specs.Steps.{StepRule, assume, convert, inst, para, arrange, drop_literal, take_apart, bool_ext, func_ext, decompose, reflexivity, choose, factor, abbreviate, Line, clause_in, clause_of, literal_of}
use Rattle.leo_kernel.specs.Choosing.{Claims, difference_in}
use Rattle.leo_kernel.specs.Symbols.{abbreviation_in, abbreviation_at, abbreviation_of}
use Rattle.leo_kernel.specs.Conclusions.{abbreviated, IsTakenApart, ClaimsNamed, LogicConcludes, FuncExtConcludes, HasShape}
use Rattle.leo_kernel.specs.Acceptance.{AreAccepted}
use Rattle.leo_simulation.specs.Proper.{IsTermTree, AreTermTrees, AreLiteralTrees, rule_terms, AreProper, IsHypothesis, AreHypotheses}
use Rattle.leo_simulation.proofs.Sayings.{literal_said, literals_said, clause_said, IsFine, AreFine}
use Rattle.leo_simulation.proofs.ClauseInstances.{AreWellTyped}
use Rattle.leo_simulation.proofs.Rules.{IsSensible, Says, assume_says, convert_says, arrange_says, inst_says, drop_says, row_says, bool_ext_says, decompose_says, func_ext_says, refl_says, choice_says}
use Rattle.leo_simulation.proofs.JoiningRules.{factor_says, para_says}
use Rattle.leo_simulation.proofs.ClaimRules.{claim_says, func_ext_claims}

-- what is there
pub some_and : {X : Type 0} {P : X → Type 0} (o : Option X) → IsSomeAnd o P → (x : X) × ((o ≡ Some x) × P x)
some_and None h = absurd h
some_and (Some x) h = (x, (refl, h))

pub sensible : (variables : List SimpleType) (ls : List Literal) → AreTyped variables ls → AreLiteralTrees ls → AreFine variables ls
sensible variables [] t h = tt
sensible variables (l ∷ ls) t h =
    (record { left_typed = h.0.typed; right_typed = h.1.typed; typed = t.0 }, sensible variables ls t.1 h.2)

well_typed_terms : (ts : List Tree) → AreTermTrees ts → AreWellTyped ts
well_typed_terms [] h = tt
well_typed_terms (t ∷ ts) h = (h.0.typed, well_typed_terms ts h.1)

pub proper_at : (lines : List Line) (n : ℕ) (line : Line) → slice_get lines n ≡ Some line → AreProper lines → AreLiteralTrees line.clause.literals × AreTermTrees (rule_terms line.rule)
proper_at [] n line e h = cc
proper_at (l ∷ ls) zero line e h = subst (λ k. AreLiteralTrees k.clause.literals × AreTermTrees (rule_terms k.rule)) (some_line e) (h.0, h.1)
  where
    some_line : {x y : Line} → Some x ≡ Some y → x ≡ y
    some_line e = cc
proper_at (l ∷ ls) (suc n) line e h = proper_at ls n line e h.2

pub literal_present : (ls : List Literal) (i : ℕ) (l : Literal) → slice_get ls i ≡ Some l → AreLiteralTrees ls → IsTermTree l.left × IsTermTree l.right
literal_present [] i l e h = cc
literal_present (k ∷ ks) zero l e h = subst (λ x. IsTermTree x.left × IsTermTree x.right) (some_literal e) (h.0, h.1)
  where
    some_literal : {x y : Literal} → Some x ≡ Some y → x ≡ y
    some_literal e = cc
literal_present (k ∷ ks) (suc i) l e h = literal_present ks i l e h.2

pub taken_at : {X : Type 0} (xs : List X) (n i : ℕ) (x : X) → slice_get (take n xs) i ≡ Some x → (i < n) × (slice_get xs i ≡ Some x)
taken_at xs zero i x e = cc
taken_at [] (suc n) i x e = cc
taken_at (y ∷ ys) (suc n) zero x e = (omega arith, e)
taken_at (y ∷ ys) (suc n) (suc i) x e = let p = taken_at ys n i x e in (omega (arith, p.0), p.1)

-- the definition that a line makes, if it does
abbrev pub listed : Option Literal → List Literal
listed None = []
listed (Some l) = l ∷ []

abbrev pub definitions : List Line → List Literal
definitions [] = []
definitions (l ∷ ls) = listed (abbreviation_in l.rule l.clause.literals) ++ definitions ls

-- the hypotheses and the definitions, as formulas
abbrev pub grounds : List Tree → List Line → List Term
grounds hypotheses lines = map (decoded 0) hypotheses ++ literals_said 0 (definitions lines)

here_first : {X : Type 0} (x : X) (xs : List X) → Contains (x ∷ xs) x
here_first x xs = (0, omega arith, refl)

definition_listed : (lines : List Line) (n : ℕ) (line : Line) (ab : Literal) → slice_get lines n ≡ Some line → abbreviation_in line.rule line.clause.literals ≡ Some ab →
    Contains (literals_said 0 (definitions lines)) (literal_said 0 ab)
definition_listed [] n line ab e k = cc
definition_listed (l ∷ ls) zero line ab e k =
    let same : abbreviation_in l.rule l.clause.literals ≡ Some ab = subst (λ x. abbreviation_in x.rule x.clause.literals ≡ Some ab) (sym (some_line e)) k in
    rw same (here_first (literal_said 0 ab) (literals_said 0 (definitions ls)))
  where
    some_line : {x y : Line} → Some x ≡ Some y → x ≡ y
    some_line e = cc
definition_listed (l ∷ ls) (suc n) line ab e k =
    rw (map-append (literal_said 0) (listed (abbreviation_in l.rule l.clause.literals)) (definitions ls))
    (Contains-append_right (literals_said 0 (listed (abbreviation_in l.rule l.clause.literals))) (literals_said 0 (definitions ls)) (literal_said 0 ab) (definition_listed ls n line ab e k))

hypothesis_at : (hypotheses : List Tree) (n : ℕ) (t : Tree) → slice_get hypotheses n ≡ Some t → AreHypotheses hypotheses → IsHypothesis t × Contains (map (decoded 0) hypotheses) (decoded 0 t)
hypothesis_at [] n t e h = cc
hypothesis_at (s ∷ ss) zero t e h = subst (λ x. IsHypothesis x × Contains (decoded 0 s ∷ map (decoded 0) ss) (decoded 0 x)) (some_tree e) (h.0, here_first (decoded 0 s) (map (decoded 0) ss))
  where
    some_tree : {x y : Tree} → Some x ≡ Some y → x ≡ y
    some_tree e = cc
hypothesis_at (s ∷ ss) (suc n) t e h =
    let p = hypothesis_at ss n t e h.1 in
    (p.0, Contains-append_right (decoded 0 s ∷ []) (map (decoded 0) ss) (decoded 0 t) p.1)

-- which lines abbreviate
pub abbreviating : (rule : StepRule) (ls : List Literal) (ab : Literal) → abbreviation_in rule ls ≡ Some ab → (s : ℕ) × ((rule ≡ abbreviate s) × (ls ≡ ab ∷ []))
abbreviating (abbreviate s) [] ab e = cc
abbreviating (abbreviate s) (l ∷ []) ab e = (s, (refl, ap (λ x. x ∷ []) (some_literal e)))
  where
    some_literal : {x y : Literal} → Some x ≡ Some y → x ≡ y
    some_literal e = cc
abbreviating (abbreviate s) (l ∷ k ∷ ls) ab e = cc
abbreviating (assume h) ls ab e = cc
abbreviating (convert p) ls ab e = cc
abbreviating (inst p sigma) ls ab e = cc
abbreviating (para p i side q j place_side path) ls ab e = cc
abbreviating (arrange p) ls ab e = cc
abbreviating (drop_literal p i) ls ab e = cc
abbreviating (take_apart p i k a) ls ab e = cc
abbreviating (bool_ext p i half) ls ab e = cc
abbreviating (func_ext p i a) ls ab e = cc
abbreviating (decompose p i) ls ab e = cc
abbreviating reflexivity ls ab e = cc
abbreviating choose ls ab e = cc
abbreviating (factor p i j) ls ab e = cc

some_and_both : {X : Type 0} {P Q : X → Type 0} (o : Option X) → IsSomeAnd o P → IsSomeAnd o Q → (x : X) × ((o ≡ Some x) × (P x × Q x))
some_and_both None h k = absurd h
some_and_both (Some x) h k = (x, (refl, (h, k)))

-- what is known of an abbreviation that a line makes
record IsKnown (H : List Term) (ab : Literal) : Type 0 where
  positive : ab.positive ≡ true
  fine : IsFine [] ab
  said : Derivable H (clause_said 0 (ab ∷ []))

known_from : (H : List Term) (c : ClauseTree) (ab : Literal) (s : ℕ) (a : SimpleType) (t : Tree) → c.literals ≡ ab ∷ [] → c ≡ abbreviated s a t → IsSensible c → Says H c → IsKnown H ab
known_from H c ab s a t lits e h says =
    let vars : c.variables ≡ [] = ap (λ (k : ClauseTree). k.variables) e in
    let same : ab ∷ [] ≡ equal (symbol s a) t ∷ [] = sym lits ∙ ap (λ (k : ClauseTree). k.literals) e in
    let fine : AreFine [] (ab ∷ []) = subst (λ v. AreFine v (ab ∷ [])) vars (subst (AreFine c.variables) lits h) in
    record {
      positive = ap (λ (l : Literal). l.positive) (first same);
      fine = fine.0;
      said = subst (λ n. Derivable H (clause_said n (ab ∷ []))) (ap length vars) (subst (λ ls. Derivable H (clause_said (length c.variables) ls)) lits says.said);
    }
  where
    first : {x y : Literal} → x ∷ [] ≡ y ∷ [] → x ≡ y
    first e = cc

module _ (hypotheses : List Tree) (lines : List Line) (formulas : AreHypotheses hypotheses) (proper : AreProper lines) (accepted : AreAccepted hypotheses lines) where
  abbrev Said : ℕ → Type 0
  Said j = (line : Line) → slice_get lines j ≡ Some line → Says (grounds hypotheses lines) line.clause

  abbrev SaidBelow : ℕ → Type 0
  SaidBelow k = (j : ℕ) → j < k → Said j

  pub line_sensible : (n : ℕ) (line : Line) → slice_get lines n ≡ Some line → IsSensible line.clause
  line_sensible n line e = sensible line.clause.variables line.clause.literals (accepted n line e).types.clause_typed (proper_at lines n line e proper).0

  -- an earlier line that is named
  record IsReady (c : ClauseTree) : Type 0 where
    says : Says (grounds hypotheses lines) c
    fine : IsSensible c
    terms : AreLiteralTrees c.literals

  ready : (k p : ℕ) → p < length (take k lines) → SaidBelow k → IsReady (clause_of (take k lines) p)
  ready k p lt below =
      let there = slice_get-some (take k lines) p lt in
      let line = there.0 in
      let at = taken_at lines k p line there.1 in
      subst IsReady (sym (ap clause_in there.1))
      (record { says = below p at.0 line at.1; fine = line_sensible p line at.1; terms = (proper_at lines p line at.1 proper).0 })

  abbreviation_known : (k n : ℕ) (ab : Literal) → abbreviation_of (take k lines) n ≡ Some ab → SaidBelow k → IsKnown (grounds hypotheses lines) ab
  abbreviation_known k n ab e below = go (slice_get (take k lines) n) refl e
    where
      go : (o : Option Line) → slice_get (take k lines) n ≡ o → abbreviation_at o ≡ Some ab → IsKnown (grounds hypotheses lines) ab
      go None q e = cc
      go (Some line) q e =
          let at = taken_at lines k n line q in
          let a = abbreviating line.rule line.clause.literals ab e in
          let shape = subst (HasShape hypotheses (take n lines) line.clause) a.1.0 (accepted n line at.1).shape in
          known_from (grounds hypotheses lines) line.clause ab a.0 shape.0 shape.1.0 a.1.1 shape.1.1 (line_sensible n line at.1) (below n at.0 line at.1)

  -- a claim with its abbreviation
  claimed_says : (k p i : ℕ) (a : Option ℕ) (kind : LogicKind) (l : Literal) (c : ClauseTree) → slice_get (clause_of (take k lines) p).literals i ≡ Some l → IsReady (clause_of (take k lines) p) → IsSensible c → SaidBelow k →
      ClaimsNamed (take k lines) (clause_of (take k lines) p) i a (Claims kind l) c → Says (grounds hypotheses lines) c
  claimed_says k p i None kind l c at r hc below h = absurd h
  claimed_says k p i (Some n) kind l c at r hc below h =
      let ab = some_and (abbreviation_of (take k lines) n) h in
      let known = abbreviation_known k n ab.0 ab.1.0 below in
      let s = ab.1.1 in
      claim_says (clause_of (take k lines) p) c i ab.0 s.arguments known.positive known.fine known.said r.fine hc kind l s.claim at s.becomes s.fits s.concluded r.says

  difference_claimed : (k p i : ℕ) (a : Option ℕ) (l : Literal) (c : ClauseTree) → slice_get (clause_of (take k lines) p).literals i ≡ Some l → l.positive ≡ false → IsArrowType (literal_type l) →
      IsReady (clause_of (take k lines) p) → IsSensible c → SaidBelow k →
      ClaimsNamed (take k lines) (clause_of (take k lines) p) i a (λ claim. claim ≡ difference_in l) c → Says (grounds hypotheses lines) c
  difference_claimed k p i None l c at neg arrows r hc below h = absurd h
  difference_claimed k p i (Some n) l c at neg arrows r hc below h =
      let ab = some_and (abbreviation_of (take k lines) n) h in
      let known = abbreviation_known k n ab.0 ab.1.0 below in
      let s = ab.1.1 in
      let present = literal_present (clause_of (take k lines) p).literals i l at r.terms in
      func_ext_claims (clause_of (take k lines) p) c i ab.0 s.arguments known.positive known.fine known.said r.fine hc l s.claim at neg arrows present.0.present present.1.present s.becomes s.fits s.concluded r.says

  taken_apart_says : (k p i : ℕ) (kind : LogicKind) (l : Literal) (c : ClauseTree) → slice_get (clause_of (take k lines) p).literals i ≡ Some l → IsReady (clause_of (take k lines) p) → IsSensible c →
      IsTakenApart (clause_of (take k lines) p) i kind l c → Says (grounds hypotheses lines) c
  taken_apart_says k p i kind l c at r hc h = row_says (clause_of (take k lines) p) c i l kind h.fresh h.new at h.row h.concluded r.fine hc r.says

  logic_says : (k p i : ℕ) (a : Option ℕ) (kind : LogicKind) (l : Literal) (c : ClauseTree) → slice_get (clause_of (take k lines) p).literals i ≡ Some l → IsReady (clause_of (take k lines) p) → IsSensible c → SaidBelow k →
      LogicConcludes (take k lines) (clause_of (take k lines) p) i a l kind c → Says (grounds hypotheses lines) c
  logic_says k p i a kind.AllF l c at r hc below h = claimed_says k p i a kind.AllF l c at r hc below h
  logic_says k p i a kind.SomeT l c at r hc below h = claimed_says k p i a kind.SomeT l c at r hc below h
  logic_says k p i a kind.Not l c at r hc below h = taken_apart_says k p i kind.Not l c at r hc h
  logic_says k p i a kind.OrT l c at r hc below h = taken_apart_says k p i kind.OrT l c at r hc h
  logic_says k p i a kind.OrF1 l c at r hc below h = taken_apart_says k p i kind.OrF1 l c at r hc h
  logic_says k p i a kind.OrF2 l c at r hc below h = taken_apart_says k p i kind.OrF2 l c at r hc h
  logic_says k p i a kind.AndT1 l c at r hc below h = taken_apart_says k p i kind.AndT1 l c at r hc h
  logic_says k p i a kind.AndT2 l c at r hc below h = taken_apart_says k p i kind.AndT2 l c at r hc h
  logic_says k p i a kind.AndF l c at r hc below h = taken_apart_says k p i kind.AndF l c at r hc h
  logic_says k p i a kind.ImpT l c at r hc below h = taken_apart_says k p i kind.ImpT l c at r hc h
  logic_says k p i a kind.ImpF1 l c at r hc below h = taken_apart_says k p i kind.ImpF1 l c at r hc h
  logic_says k p i a kind.ImpF2 l c at r hc below h = taken_apart_says k p i kind.ImpF2 l c at r hc h
  logic_says k p i a kind.EqT l c at r hc below h = taken_apart_says k p i kind.EqT l c at r hc h
  logic_says k p i a kind.EqF l c at r hc below h = taken_apart_says k p i kind.EqF l c at r hc h
  logic_says k p i a kind.Flip l c at r hc below h = taken_apart_says k p i kind.Flip l c at r hc h
  logic_says k p i a kind.AllT l c at r hc below h = taken_apart_says k p i kind.AllT l c at r hc h
  logic_says k p i a kind.SomeF l c at r hc below h = taken_apart_says k p i kind.SomeF l c at r hc h

  func_ext_step : (k p i : ℕ) (a : Option ℕ) (l : Literal) (c : ClauseTree) (b : Bool) → l.positive ≡ b → slice_get (clause_of (take k lines) p).literals i ≡ Some l → IsArrowType (literal_type l) → IsReady (clause_of (take k lines) p) → IsSensible c → SaidBelow k →
      FuncExtConcludes (take k lines) (clause_of (take k lines) p) i a l b c → Says (grounds hypotheses lines) c
  func_ext_step k p i a l c true pos at arrows r hc below h = func_ext_says (clause_of (take k lines) p) c i l at pos arrows h r.fine hc r.says
  func_ext_step k p i a l c false neg at arrows r hc below h = difference_claimed k p i a l c at neg arrows r hc below h

  by_rule : (k : ℕ) (c : ClauseTree) (rule : StepRule) → HasParents hypotheses (take k lines) rule → HasLiterals (take k lines) rule → RuleHasTypes (take k lines) c.variables rule → HasShape hypotheses (take k lines) c rule →
      IsSensible c → AreTermTrees (rule_terms rule) → SaidBelow k → ((ab : Literal) → abbreviation_in rule c.literals ≡ Some ab → Contains (grounds hypotheses lines) (literal_said 0 ab)) → Says (grounds hypotheses lines) c
  by_rule k c (assume h) parents literals types shape hc terms below listed =
      let s = some_and (slice_get hypotheses h) shape in
      let p = hypothesis_at hypotheses h s.0 s.1.0 formulas in
      assume_says s.0 c s.1.1 p.0.term.typed p.0.formula (by_hypothesis (Contains-append_left (map (decoded 0) hypotheses) (literals_said 0 (definitions lines)) (decoded 0 s.0) p.1))
  by_rule k c (convert p) parents literals types shape hc terms below listed =
      let r = ready k p parents below in convert_says (clause_of (take k lines) p) c shape.0 shape.1 r.fine hc r.says
  by_rule k c (inst p sigma) parents literals types shape hc terms below listed =
      let r = ready k p parents below in inst_says (clause_of (take k lines) p) c sigma shape types.0 types.1 (well_typed_terms sigma terms) r.fine hc r.says
  by_rule k c (para p i side q j place_side path) parents literals types shape hc terms below listed =
      let r = ready k p parents.0 below in
      let t = ready k q parents.1 below in
      let l = some_and_both (literal_of (take k lines) p i) types shape in
      let m = some_and_both (literal_of (take k lines) q j) l.1.1.0 l.1.1.1 in
      let u = some_and_both (subterm path (side_of place_side m.0)) m.1.1.0 m.1.1.1 in
      para_says (clause_of (take k lines) p) (clause_of (take k lines) q) c i l.0 side j m.0 place_side path u.0 l.1.0 m.1.0 u.1.0 u.1.1.1.0 u.1.1.0 u.1.1.1.1 r.fine t.fine hc r.says t.says
  by_rule k c (arrange p) parents literals types shape hc terms below listed =
      let r = ready k p parents below in arrange_says (clause_of (take k lines) p) c shape.0 shape.1 r.fine hc r.says
  by_rule k c (drop_literal p i) parents literals types shape hc terms below listed =
      let r = ready k p parents below in
      let l = some_and (literal_of (take k lines) p i) shape in
      drop_says (clause_of (take k lines) p) c i l.0 l.1.0 l.1.1.0 l.1.1.1 r.fine hc r.says
  by_rule k c (take_apart p i kind a) parents literals types shape hc terms below listed =
      let r = ready k p parents.0 below in
      let l = some_and (literal_of (take k lines) p i) shape in
      logic_says k p i a kind l.0 c l.1.0 r hc below l.1.1
  by_rule k c (bool_ext p i half) parents literals types shape hc terms below listed =
      let r = ready k p parents below in
      let l = some_and_both (literal_of (take k lines) p i) types shape in
      bool_ext_says (clause_of (take k lines) p) c i l.0 half l.1.0 l.1.1.0 l.1.1.1 r.fine hc r.says
  by_rule k c (func_ext p i a) parents literals types shape hc terms below listed =
      let r = ready k p parents.0 below in
      let l = some_and_both (literal_of (take k lines) p i) types shape in
      func_ext_step k p i a l.0 c l.0.positive refl l.1.0 l.1.1.0.0 r hc below l.1.1.1
  by_rule k c (decompose p i) parents literals types shape hc terms below listed =
      let r = ready k p parents below in
      let l = some_and_both (literal_of (take k lines) p i) types shape in
      decompose_says (clause_of (take k lines) p) c i l.0 l.1.1.1.0 l.1.0 l.1.1.0 l.1.1.1.1.0 l.1.1.1.1.1 r.fine hc r.says
  by_rule k c reflexivity parents literals types shape hc terms below listed = refl_says c shape.0 shape.1 hc
  by_rule k c choose parents literals types shape hc terms below listed = choice_says c shape.0 shape.1
  by_rule k c (factor p i j) parents literals types shape hc terms below listed =
      let r = ready k p parents below in
      let l = some_and_both (literal_of (take k lines) p i) types shape in
      let m = some_and_both (literal_of (take k lines) p j) l.1.1.0 l.1.1.1 in
      factor_says (clause_of (take k lines) p) c i j l.0 m.0 l.1.0 m.1.0 literals.2 m.1.1.1.0 m.1.1.0 m.1.1.1.1 r.fine hc r.says
  by_rule k c (abbreviate s) parents literals types shape hc terms below listed = defined s shape.0 shape.1.0 shape.1.1 listed
    where
      defined : (s : ℕ) (a : SimpleType) (t : Tree) → c ≡ abbreviated s a t → ((ab : Literal) → abbreviation_in (abbreviate s) c.literals ≡ Some ab → Contains (grounds hypotheses lines) (literal_said 0 ab)) → Says (grounds hypotheses lines) c
      defined s a t e listed =
          let only : abbreviation_in (abbreviate s) c.literals ≡ Some (equal (symbol s a) t) = ap (λ (k : ClauseTree). abbreviation_in (abbreviate s) k.literals) e in
          let member = listed (equal (symbol s a) t) only in
          subst (Says (grounds hypotheses lines)) (sym e) (record { said = by_hypothesis member })

  step_says : (k : ℕ) (step : Line) → slice_get lines k ≡ Some step → SaidBelow k → Says (grounds hypotheses lines) step.clause
  step_says k step e below =
      let a = accepted k step e in
      by_rule k step.clause step.rule a.parents a.literals a.types.rule_typed a.shape (line_sensible k step e) (proper_at lines k step e proper).1 below
      (λ ab q. Contains-append_right (map (decoded 0) hypotheses) (literals_said 0 (definitions lines)) (literal_said 0 ab) (definition_listed lines k step ab e q))

  said_below : (k : ℕ) → SaidBelow k
  said_below zero j lt = λ line e. absurd (let f : ⊥ = omega (arith, lt) in f)
  said_below (suc k) j lt = λ line e. step_says j line e (λ m ltm. said_below k m (omega (arith, lt, ltm)))

  -- every line
  pub line_says : (n : ℕ) (line : Line) → slice_get lines n ≡ Some line → Says (grounds hypotheses lines) line.clause
  line_says n line e = step_says n line e (said_below n)
