-- Lines that are from hypotheses.
use Rattle.std.proofs.Common.{ℕ, zero, suc, ◌≡◌, ◌+◌, ◌≤◌, true, List, [], ◌∷◌, ◌++◌, length, take, slice_get, Some, refl, ap, subst, arith}
use Rattle.std.proofs.lemmas.List.{length-append, take-append-le}
use Rattle.leo_terms.specs.Tree.{Tree}
use Rattle.leo_clause.specs.Choices.{Choice}
use Rattle.leo_clause.specs.Trees.{ClauseTree}
use Rattle.leo_kernel.specs.Conclusions.{assumed}
use Rattle.leo_kernel.specs.Steps.{StepRule, assume, convert, inst, para, arrange, drop_literal, take_apart, bool_ext, func_ext, decompose, reflexivity, choose, factor, abbreviate, Line}
use Rattle.leo_clausify.specs.Leaves.{choice_line}
use Rattle.leo_clausify.specs.Origins.{Origin, IsTermFrom, AreTermsFrom, IsClauseFrom, AreClausesFrom, IsChoiceFrom, AreChoicesFrom, IsRuleFrom, IsLineFrom, AreLinesFrom}
use Rattle.leo_clausify.proofs.Origins.{from-type_of, normals-from}
use Rattle.leo_derive.specs.Pruning.{numbered_rule, numbered_line}
use Rattle.leo_turn.specs.Growth.{IsLonger}
use Rattle.leo_turn.specs.Intakes.{normal_clause}
use Rattle.leo_turn.specs.Origins.{AreFrom, IsOriginOf}
use Rattle.leo_turn.specs.Searches.{HasClause, HaveChoices, HaveClauses}
use Rattle.leo_turn.proofs.Lists.{get-added, get-last, get-within, longer-get, take-all}

-- lines of a list
module _ (o : Origin) where
  pub each-line : (lines : List Line) → ((n : ℕ) (l : Line) → slice_get lines n ≡ Some l → IsLineFrom o l) → AreLinesFrom o lines
  each-line [] f = tt
  each-line (l ∷ lines) f = (f zero l refl, each-line lines (λ n k e. f (suc n) k e))

  pub line-at : (lines : List Line) (n : ℕ) (l : Line) → AreLinesFrom o lines → slice_get lines n ≡ Some l → IsLineFrom o l
  line-at [] n l h e = absurd cc
  line-at (k ∷ lines) zero l h e = (let f : k ≡ l = cc in subst (IsLineFrom o) f h.0)
  line-at (k ∷ lines) (suc n) l h e = line-at lines n l h.1 e

  pub clause-from : (lines : List Line) (n : ℕ) (k : ClauseTree) → AreLinesFrom o lines → HasClause lines n k → IsClauseFrom o k
  clause-from lines n k h c = subst (IsClauseFrom o) c.clause_is (line-at lines n c.line h c.stands).0

  pub clauses-from : (lines : List Line) (ns : List ℕ) (ks : List ClauseTree) → AreLinesFrom o lines → HaveClauses lines ns ks → AreClausesFrom o ks
  clauses-from lines [] [] h c = tt
  clauses-from lines [] (k ∷ ks) h c = absurd c
  clauses-from lines (n ∷ ns) [] h c = absurd c
  clauses-from lines (n ∷ ns) (k ∷ ks) h c = (clause-from lines n k h c.0, clauses-from lines ns ks h c.1)

  choice-from : (k : Choice) → IsLineFrom o (choice_line k) → IsChoiceFrom o k
  choice-from k h = (h.1, h.0.1.1)

  -- the choice symbols that lines introduce
  pub choices-there : (lines : List Line) (ns : List ℕ) (ks : List Choice) → AreLinesFrom o lines → HaveChoices lines ns ks → AreChoicesFrom o ks
  choices-there lines [] [] h c n k e = absurd cc
  choices-there lines [] (j ∷ ks) h c n k e = absurd c
  choices-there lines (m ∷ ns) [] h c n k e = absurd c
  choices-there lines (m ∷ ns) (j ∷ ks) h c zero k e = (let f : j ≡ k = cc in subst (IsChoiceFrom o) f (choice-from j (line-at lines m (choice_line j) h c.0)))
  choices-there lines (m ∷ ns) (j ∷ ks) h c (suc n) k e = choices-there lines ns ks h c.1 n k e

  pub term-at : (ts : List Tree) (n : ℕ) (t : Tree) → AreTermsFrom o ts → slice_get ts n ≡ Some t → IsTermFrom o t
  term-at [] n t h e = absurd cc
  term-at (u ∷ ts) zero t h e = (let f : u ≡ t = cc in subst (IsTermFrom o) f h.0)
  term-at (u ∷ ts) (suc n) t h e = term-at ts n t h.1 e

  -- other numbers for the lines that a rule names
  rule-numbered : (number : ℕ → ℕ) (r : StepRule) → IsRuleFrom o r → IsRuleFrom o (numbered_rule number r)
  rule-numbered number (assume h) f = f
  rule-numbered number (convert p) f = f
  rule-numbered number (inst p sigma) f = f
  rule-numbered number (para p i s q j r path) f = f
  rule-numbered number (arrange p) f = f
  rule-numbered number (drop_literal p i) f = f
  rule-numbered number (take_apart p i kind a) f = f
  rule-numbered number (bool_ext p i half) f = f
  rule-numbered number (func_ext p i a) f = f
  rule-numbered number (decompose p i) f = f
  rule-numbered number reflexivity f = f
  rule-numbered number choose f = f
  rule-numbered number (factor p i j) f = f
  rule-numbered number (abbreviate s) f = f

  pub line-numbered : (number : ℕ → ℕ) (l : Line) → IsLineFrom o l → IsLineFrom o (numbered_line number l)
  line-numbered number l h = (h.0, rule-numbered number l.rule h.1)

  lines-front : (xs ys : List Line) → AreLinesFrom o (xs ++ ys) → AreLinesFrom o xs
  lines-front [] ys h = tt
  lines-front (x ∷ xs) ys h = (h.0, lines-front xs ys h.1)

  pub lines-shorter : {xs ys : List Line} → IsLonger xs ys → AreLinesFrom o ys → AreLinesFrom o xs
  lines-shorter {xs} {ys} l h = lines-front xs l.more (subst (AreLinesFrom o) l.is h)

  module _ (zero_base : o.has_base 0 ≡ true) where
    pub choice_line-from : (k : Choice) → IsChoiceFrom o k → IsLineFrom o (choice_line k)
    choice_line-from k h = ((tt, ((h.0, from-type_of o zero_base k.term h.1), h.1, tt)), h.0)

    pub normal-from : (k : ClauseTree) → IsClauseFrom o k → IsClauseFrom o (normal_clause k)
    normal-from k h = (h.0, normals-from o zero_base k.literals h.1)

  pub assumed-from : (t : Tree) → IsTermFrom o t → IsClauseFrom o (assumed t)
  assumed-from t h = (tt, (h, (tt, tt, tt), tt))

-- fewer lines
take-longer : {X : Type 0} (n : ℕ) (xs : List X) → IsLonger (take n xs) xs
take-longer zero xs = record { more = xs; is = refl }
take-longer (suc n) [] = record { more = []; is = refl }
take-longer {X} (suc n) (x ∷ xs) = (let r = take-longer n xs in record { more = r.more; is = ap (λ (ys : List X). x ∷ ys) r.is })

module _ {hypotheses : List Tree} {o : Origin} where
  pub origin-shorter : {lines later : List Line} → IsLonger lines later → IsOriginOf hypotheses later o → IsOriginOf hypotheses lines o
  origin-shorter longer h = record { truth = h.truth; hypotheses_from = h.hypotheses_from; abbreviated = λ n s l e r. h.abbreviated n s l (longer-get longer n l e) r }

  -- an origin of lines that are from hypotheses
  pub all-from : (lines : List Line) → AreFrom hypotheses lines → IsOriginOf hypotheses lines o → AreLinesFrom o lines
  all-from lines f h = each-line o lines (λ n l e. f.each n l e o (origin-shorter (take-longer (suc n) lines) h))

-- a line more
pub none-from : (hypotheses : List Tree) → AreFrom hypotheses []
none-from hypotheses = record { each = λ n l e. absurd cc }

pub from-added : (hypotheses : List Tree) (lines : List Line) (l : Line) → AreFrom hypotheses lines → ((o : Origin) → IsOriginOf hypotheses (lines ++ l ∷ []) o → IsLineFrom o l) → AreFrom hypotheses (lines ++ l ∷ [])
from-added hypotheses lines l h f = record { each = get-added (λ n s. (o : Origin) → IsOriginOf hypotheses (take (suc n) (lines ++ l ∷ [])) o → IsLineFrom o s) lines l front last }
  where
    front : (n : ℕ) (s : Line) → slice_get lines n ≡ Some s → (o : Origin) → IsOriginOf hypotheses (take (suc n) (lines ++ l ∷ [])) o → IsLineFrom o s
    front n s e o g =
        let w = get-within lines n s e in
        let b : suc n ≤ length lines = omega arith in
        h.each n s e o (subst (λ ls. IsOriginOf hypotheses ls o) (take-append-le (suc n) lines (l ∷ []) b) g)

    last : (o : Origin) → IsOriginOf hypotheses (take (suc (length lines)) (lines ++ l ∷ [])) o → IsLineFrom o l
    last o g =
        let m : length (lines ++ l ∷ []) ≡ length lines + 1 = length-append lines (l ∷ []) in
        let b : length (lines ++ l ∷ []) ≤ suc (length lines) = omega arith in
        f o (subst (λ ls. IsOriginOf hypotheses ls o) (take-all (suc (length lines)) (lines ++ l ∷ []) b) g)

-- a line more that is from each origin of those before it
pub from-next : (hypotheses : List Tree) (lines : List Line) (l : Line) → AreFrom hypotheses lines → ((o : Origin) → IsOriginOf hypotheses lines o → IsLineFrom o l) → AreFrom hypotheses (lines ++ l ∷ [])
from-next hypotheses lines l h f = from-added hypotheses lines l h (λ o g. f o (origin-shorter (record { more = l ∷ []; is = refl }) g))

-- the line of a choice symbol more, whose term is from each origin of those before it
pub from-choice : (hypotheses : List Tree) (lines : List Line) (k : Choice) → AreFrom hypotheses lines → ((o : Origin) → IsOriginOf hypotheses lines o → IsTermFrom o k.term) → AreFrom hypotheses (lines ++ choice_line k ∷ [])
from-choice hypotheses lines k h f = from-added hypotheses lines (choice_line k) h (λ o g. choice_line-from o g.truth k (g.abbreviated (length lines) k.number (choice_line k) (get-last lines (choice_line k)) refl, f o (origin-shorter (record { more = choice_line k ∷ []; is = refl }) g)))
