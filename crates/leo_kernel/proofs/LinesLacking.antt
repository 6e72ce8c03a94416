-- Lines without a symbol.
use Rattle.std.proofs.Common.{ℕ, ◌≡◌, ◌<◌, ◌≤◌, Bool, true, false, List, [], ◌∷◌, length, map, take, slice_index_or}
use Rattle.std.specs.Bool.{Decides}
use Rattle.leo_terms.specs.Contents.{Contents}
use Rattle.leo_clause.specs.declared.record.StepRecord.{StepRecord}
use Rattle.leo_clause.specs.Trees.{clause_at}
use Rattle.leo_kernel.specs.Steps.{line_at, rule_at}
use Rattle.leo_kernel.specs.Symbols.{LiteralsLackSymbol, RuleLacksSymbol, LinesLackSymbol}
use Rattle.leo_kernel.proofs.Lists.{Each, each-get, each-whole, get-index}
use Rattle.leo_kernel.proofs.TypedLits.{no, yes, not-both}

-- the line of a record lacks it
abbrev pub LineLacks : Contents → ℕ → StepRecord → Type 0
LineLacks c s r = LiteralsLackSymbol s (clause_at c r.clause).literals × RuleLacksSymbol s (rule_at c r.rule)

module _ (c : Contents) (s : ℕ) where
  lines-each : (rs : List StepRecord) → LinesLackSymbol s (map (line_at c) rs) → Each (λ (r : StepRecord). LineLacks c s r) rs
  lines-each [] h = tt
  lines-each (r ∷ rs) h = ((h.0, h.1), lines-each rs h.2)

  each-lines : (rs : List StepRecord) → Each (λ (r : StepRecord). LineLacks c s r) rs → LinesLackSymbol s (map (line_at c) rs)
  each-lines [] h = tt
  each-lines (r ∷ rs) h = (h.0.0, h.0.1, each-lines rs h.1)

  pub all-lines_lack : (rs : List StepRecord) (n : ℕ) → length rs ≤ n → Each (λ (r : StepRecord). LineLacks c s r) (take n rs) → Decides true (LinesLackSymbol s (map (line_at c) rs))
  all-lines_lack rs n l h = yes (each-lines rs (each-whole _ rs n l h))

  pub one-line_has : (rs : List StepRecord) (i : ℕ) (r : StepRecord) (b : Bool) → i < length rs → r ≡ slice_index_or rs i r → Decides b (LineLacks c s r) → b ≡ false → Decides false (LinesLackSymbol s (map (line_at c) rs))
  one-line_has rs i r b l e d f = no (λ h. not-both b d f (each-get (λ (r : StepRecord). LineLacks c s r) rs i r (lines-each rs h) (get-index rs i r l e)))
