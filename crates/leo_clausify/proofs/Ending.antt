-- The split at first, and the leaves at its end.
use Rattle.std.proofs.Common.{ℕ, zero, suc, ◌≡◌, ◌∙◌, ◌+◌, ◌<◌, ◌≤◌, ◌-◌, List, [], ◌∷◌, ◌++◌, length, map, slice_get, Some, refl, sym, ap, subst, append-nil, arith}
use Rattle.std.proofs.lemmas.List.{length-append}
use Rattle.std.specs.Prelude.{reverse}
use Rattle.leo_terms.specs.Contents.{Contents}
use Rattle.leo_terms.proofs.ListLemmas.{slice_get-append}
use Rattle.leo_clause.specs.Choices.{Choice, choice_at, choices_at}
use Rattle.leo_clause.specs.declared.choices.Abbr.{Abbr}
use Rattle.leo_clause.specs.declared.clause.Clause.{Clause}
use Rattle.leo_clause.specs.Trees.{ClauseTree, clause_at}
use Rattle.leo_clause.specs.Typed.{IsTypedIn}
use Rattle.leo_kernel.specs.Acceptance.{AreAcceptedAfter}
use Rattle.leo_kernel.specs.Records.{IsStepOf, AreStepsOf}
use Rattle.leo_kernel.specs.Steps.{StepRule, Line, line_at, rule_at, clause_of, clause_in}
use Rattle.leo_kernel.specs.Symbols.{abbreviation_at}
use Rattle.leo_clausify.specs.declared.agenda.Agenda.{Agenda}
use Rattle.leo_clausify.specs.declared.branch.Branch.{Branch}
use Rattle.leo_clausify.specs.declared.moves.Move.{Move}
use Rattle.leo_clausify.specs.declared.moves.Move.TheVariants as move
use Rattle.leo_clausify.specs.declared.moves.Step.{Step}
use Rattle.leo_clausify.specs.declared.leaves.Leaf.{Leaf}
use Rattle.leo_clausify.specs.Agendas.{SplitsAll, done, EachBranch, clauses_of, IsUnderWay, IsRunning}
use Rattle.leo_clausify.specs.Branches.{IsBranch, Leads}
use Rattle.leo_clausify.specs.Leaves.{choice_line, first_lines, last_clause, IsLeafOf, leaf_clause}
use Rattle.leo_clausify.specs.Origins.{AreLinesFrom}
use Rattle.leo_clausify.specs.Moves.{IsMoveOf, IsStepIn, AreStepsIn, HaveChoices, lines_after, move_rule, records_after, rule_for, step_at}
use Rattle.leo_clausify.specs.Choosing.{AreInOrder}
use Rattle.leo_clausify.specs.Splitting.{AreNormal, Splits}
use Rattle.leo_clausify.proofs.Chains.{chain-accepted, chain-from, chain-last, descent-chain}
use Rattle.leo_clausify.proofs.Giving.{length-map}
use Rattle.leo_clausify.proofs.Remaining.{remains-first}

-- the records of steps read as their lines
rule-reads : (c : Contents) (m : Move) (p : ℕ) → rule_at c (rule_for m p) ≡ move_rule c m p
rule-reads c move.Arrange p = refl
rule-reads c (move.Omit i) p = refl
rule-reads c (move.Apart i k a) p = refl
rule-reads c move.Convert p = refl
rule-reads c (move.Inst sigma) p = refl

lines-are : (c : Contents) (p : ℕ) (ss : List Step) → map (line_at c) (records_after p ss) ≡ lines_after p (map (step_at c) ss)
lines-are c p [] = refl
lines-are c p (s ∷ ss) = rw (rule-reads c s.rule p, lines-are c (p + 1) ss) refl

record-of : (c : Contents) (s : Step) (p : ℕ) → IsStepIn c s → IsStepOf c (record { clause = s.clause; rule = rule_for s.rule p })
record-of c s p h = by s.rule h.terms_of
  where
    by : (m : Move) → IsMoveOf c m → IsStepOf c (record { clause = s.clause; rule = rule_for m p })
    by move.Arrange g = record { clause_of = h.clause_of; terms_of = tt }
    by (move.Omit i) g = record { clause_of = h.clause_of; terms_of = tt }
    by (move.Apart i k a) g = record { clause_of = h.clause_of; terms_of = tt }
    by move.Convert g = record { clause_of = h.clause_of; terms_of = tt }
    by (move.Inst sigma) g = record { clause_of = h.clause_of; terms_of = g }

records-of : (c : Contents) (p : ℕ) (ss : List Step) → AreStepsIn c ss → AreStepsOf c (records_after p ss)
records-of c p [] h n r e = absurd (cc)
records-of c p (s ∷ ss) h zero r e = let f : record { clause = s.clause; rule = rule_for s.rule p } ≡ r = cc in subst (IsStepOf c) f (record-of c s p h.0)
records-of c p (s ∷ ss) h (suc n) r e = records-of c (p + 1) ss h.1 n r e

records-length : (p : ℕ) (ss : List Step) → length (records_after p ss) ≡ length ss
records-length p [] = refl
records-length p (s ∷ ss) = ap suc (records-length (p + 1) ss)

-- the first lines
get-map : {X Y : Type 0} (f : X → Y) (xs : List X) (i : ℕ) (x : X) → slice_get xs i ≡ Some x → slice_get (map f xs) i ≡ Some (f x)
get-map f [] i x h = absurd (cc)
get-map f (y ∷ xs) zero x h = let e : y ≡ x = cc in rw e refl
get-map f (y ∷ xs) (suc i) x h = get-map f xs i x h

get-within : {X : Type 0} (xs : List X) (i : ℕ) (x : X) → slice_get xs i ≡ Some x → i < length xs
get-within [] i x e = absurd (cc)
get-within (y ∷ xs) zero x e = omega arith
get-within (y ∷ xs) (suc i) x e = let h = get-within xs i x e in omega arith

last-line : (ls : List Line) (l : Line) → slice_get (ls ++ l ∷ []) (length ls) ≡ Some l
last-line [] l = refl
last-line (k ∷ ls) l = last-line ls l

module _ (choices : List Choice) (start : ClauseTree) (rule : StepRule) where
  first-length : length (first_lines choices start rule) ≡ length choices + 1
  first-length = (let a = length-append (map choice_line choices) (record { clause = start; rule = rule } ∷ []) in let b = length-map choice_line choices in omega arith)

  first-clause : clause_of (first_lines choices start rule) (length choices) ≡ start
  first-clause = rw (← length-map choice_line choices) (ap clause_in (last-line (map choice_line choices) (record { clause = start; rule = rule })))

  have-choices : HaveChoices choices (first_lines choices start rule)
  have-choices = record {
    within = λ n k e. (let a = get-within choices n k e in let b = first-length in omega arith);
    abbreviated = λ n k e. ap abbreviation_at (slice_get-append (map choice_line choices) (record { clause = start; rule = rule } ∷ []) n (choice_line k) (get-map choice_line choices n k e));
  }

-- the leaf of a branch
abbrev pub leaf_of : ℕ → Branch → Leaf
leaf_of p b = record { clause = b.clause; records = records_after p b.steps }

leaf-good : (c : Contents) (choices : List Choice) (start : ClauseTree) (p : ℕ) (b : Branch) → p ≡ length choices → IsBranch c b → Leads c choices start b → 1 ≤ length b.steps → IsLeafOf c choices start (leaf_of p b)
leaf-good c choices start p b e h l some = record {
  typed = h.typed;
  normal = h.normal;
  steps = records-of c p b.steps h.steps;
  accepted = λ rule.
      let long = first-length choices start rule in
      let is : clause_of (first_lines choices start rule) p ≡ start = rw e (first-clause choices start rule) in
      let a = chain-accepted choices start (clause_at c b.clause) (map (step_at c) b.steps) (first_lines choices start rule) p (omega arith) is (have-choices choices start rule) (descent-chain choices start (clause_at c b.clause) (map (step_at c) b.steps) l) in
      subst (AreAcceptedAfter (first_lines choices start rule)) (sym (lines-are c p b.steps)) a;
  some = (let n = records-length p b.steps in omega arith);
  ends = ap (last_clause start) (lines-are c p b.steps) ∙ chain-last choices start (clause_at c b.clause) (map (step_at c) b.steps) p l;
  origin = λ o z g k. subst (AreLinesFrom o) (sym (lines-are c p b.steps)) (chain-from choices start (clause_at c b.clause) (map (step_at c) b.steps) p l o z g k);
}

pub leaves-good : (c : Contents) (choices : List Choice) (start : ClauseTree) (p : ℕ) (bs : List Branch) → p ≡ length choices → EachBranch (IsBranch c) bs → EachBranch (Leads c choices start) bs → EachBranch (λ b. 1 ≤ length b.steps) bs → (n : ℕ) (leaf : Leaf) → slice_get (map (leaf_of p) bs) n ≡ Some leaf → IsLeafOf c choices start leaf
leaves-good c choices start p [] e h l s n leaf g = absurd (cc)
leaves-good c choices start p (b ∷ bs) e h l s zero leaf g = let f : leaf_of p b ≡ leaf = cc in subst (IsLeafOf c choices start) f (leaf-good c choices start p b e h.0 l.0 s.0)
leaves-good c choices start p (b ∷ bs) e h l s (suc n) leaf g = leaves-good c choices start p bs e h.1 l.1 s.1 n leaf g

pub leaf-clauses : (c : Contents) (p : ℕ) (bs : List Branch) → map (leaf_clause c) (map (leaf_of p) bs) ≡ clauses_of c bs
leaf-clauses c p [] = refl
leaf-clauses c p (b ∷ bs) = ap (λ (cs : List ClauseTree). clause_at c b.clause ∷ cs) (leaf-clauses c p bs)

-- where nothing is pending, these are the leaves
pub all-split : (known : ℕ) (before : List Choice) (start : ClauseTree) (c : Contents) (a : Agenda) (p : ℕ) → IsUnderWay known before start c a → a.pending ≡ [] → Splits known 256 before start (choices_at c a.choices) (map (leaf_clause c) (map (leaf_of p) a.finished))
all-split known before start c a p h e =
    let none : SplitsAll known (256 - length (clauses_of c a.finished)) (choices_at c a.choices) (reverse (clauses_of c a.pending)) (choices_at c a.choices) [] = rw e (done (256 - length (clauses_of c a.finished)) (choices_at c a.choices)) in
    rw (leaf-clauses c p a.finished, ← append-nil (clauses_of c a.finished)) (h.remains.splits (choices_at c a.choices) [] none)

-- at first
pub under-first : (c : Contents) (k : Clause) (abbr : Abbr) → IsTypedIn c k → AreNormal (clause_at c k).literals → AreInOrder c abbr.items → IsUnderWay (length c.symbols) (choices_at c abbr) (clause_at c k) c (record { pending = record { clause = k; steps = [] } ∷ []; finished = []; choices = abbr })
under-first c k abbr typed normal order = record {
  agenda = record { pending = (record { typed = typed; normal = normal; steps = tt }, tt); finished = tt; in_order = order };
  pending = (refl, tt);
  finished = tt;
  some = tt;
  remains = remains-first (length c.symbols) 256 (choices_at c abbr) (clause_at c k);
}

pub running-first : (c : Contents) (k : Clause) (abbr : Abbr) → IsTypedIn c k → AreNormal (clause_at c k).literals → AreInOrder c abbr.items → IsRunning c (record { pending = record { clause = k; steps = [] } ∷ []; finished = []; choices = abbr })
running-first c k abbr typed normal order = record { known = length c.symbols; before = choices_at c abbr; start = clause_at c k; low = omega arith; under = under-first c k abbr typed normal order }

-- all that is promised of the leaves
pub ended-leaves : (known : ℕ) (before : List Choice) (start : ClauseTree) (c : Contents) (a : Agenda) (p : ℕ) (leaves : List Leaf) → IsUnderWay known before start c a → a.pending ≡ [] → p ≡ length a.choices.items → leaves ≡ map (leaf_of p) a.finished → Splits known 256 before start (choices_at c a.choices) (map (leaf_clause c) leaves) × ((n : ℕ) (leaf : Leaf) → slice_get leaves n ≡ Some leaf → IsLeafOf c (choices_at c a.choices) start leaf)
ended-leaves known before start c a p leaves h none count is =
    let n : p ≡ length (choices_at c a.choices) = count ∙ sym (length-map (choice_at c) a.choices.items) in
    rw is (all-split known before start c a p h none, leaves-good c (choices_at c a.choices) start p a.finished n h.agenda.finished h.finished h.some)
