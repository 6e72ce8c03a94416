-- What a problem's files say, by their contents as they are told, the file's name and the root of includes; or what the generated text says for which the name stands.
use Rattle.std.specs.Prelude.{◌≡◌, ℕ, List, [], ◌∷◌, map, Option, Some}
use Rattle.leo_edge.specs.Outside.{HasRisen}
use Rattle.leo_terms.specs.Contents.{Contents}
use Rattle.leo_terms.specs.Contents as bank
use Rattle.leo_terms.specs.Decode.{decoded}
use Rattle.leo_elab.specs.Table.{AreNamesOf, declared_in}
use Rattle.leo_elab.specs.Standing.{IsClosedFormula}
use Rattle.leo_problem.specs.declared.gathered.Counts.{Counts}
use Rattle.leo_problem.specs.declared.gathered.Kept.{Kept}
use Rattle.leo_problem.specs.declared.loaded.Hyp.{Hyp}
use Rattle.leo_problem.specs.declared.loaded.Problem.{Problem}
use Rattle.leo_problem.specs.declared.refusal.LoadRefusal.{LoadRefusal}
use Rattle.leo_problem.specs.declared.refusal.LoadRefusal.TheVariants.{Refused, Memory}
use Rattle.leo_problem.specs.declared.refusal.What.{What}
use Rattle.leo_problem.specs.declared.refusal.What.TheVariants as what
use Rattle.leo_problem.specs.Gathering.{GathersProblem, gathered}
use Rattle.leo_problem.specs.Gathering as gathering
use Rattle.leo_problem.specs.Theories.{Hypothesis, Theory, Answer, Says, refused}

-- what the files or the generated text of a problem say, or the first refusal
pub data ProblemOf (told : List ℕ → Option (List ℕ)) (name : List ℕ) (root : Option (List ℕ)) : Answer → Type 0 where
  not_gathered : {r : LoadRefusal} → GathersProblem told name root (gathering.refused r) → ProblemOf told name root (refused r)
  kept : {ks : List Kept} {counts : Counts} {answer : Answer} → GathersProblem told name root (gathered ks counts) → Says ks answer → ProblemOf told name root answer

-- ---- the problem as it stands in a bank

abbrev pub hypothesis_in : Contents → Hyp → Hypothesis
hypothesis_in c h = record { formula = decoded 0 (bank.tree_at c h.term); file = h.file; name = h.name; role = h.role }

abbrev pub theory_of : Problem → Theory
theory_of p = record { declared = declared_in p.bank p.names; hypotheses = map (hypothesis_in p.bank) p.hyps; conjecture = p.conjecture; statements = p.statements }

-- each hypothesis is a closed formula
abbrev pub AreClosedFormulas : Contents → List Hyp → Type 0
AreClosedFormulas c [] = Unit {0}
AreClosedFormulas c (h ∷ hs) = IsClosedFormula c h.term × AreClosedFormulas c hs

-- the condition of calls that take a problem: its atoms stand in its bank, and its hypotheses are closed formulas there
pub record IsProblem (p : Problem) : Type 0 where
  pub names : AreNamesOf p.bank p.names
  pub closed : AreClosedFormulas p.bank p.hyps

-- ---- faults

abbrev pub IsFaultIn : ℕ → ℕ → Option (List ℕ) → List ℕ → What → Type 0
IsFaultIn before now failed file what.ReadFault = HasRisen before now × (failed ≡ Some file)
IsFaultIn before now failed file _ = Unit {0}

-- a read fault is answered only where the count of faults rose, for the file whose fetch failed last
abbrev pub IsFault : ℕ → ℕ → Option (List ℕ) → LoadRefusal → Type 0
IsFault before now failed (Refused file byte w) = IsFaultIn before now failed file w
IsFault before now failed Memory = Unit {0}
