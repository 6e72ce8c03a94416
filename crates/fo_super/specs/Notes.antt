-- Notes on clauses.
use Rattle.std.specs.Prelude.{ℕ, ◌≡◌, List, map}
use Rattle.fo_text.specs.declared.problem.FoClause.{FoClause}
use Rattle.fo_replay.specs.Replays.{clause_weight}
use Rattle.fo_super.specs.declared.notes.FoNotes.{FoNotes}
use Rattle.fo_super.specs.Marks.{mask}
use Rattle.fo_super.specs.Passives.{IsFrontOf}

abbrev pub clause_mask : FoClause → ℕ
clause_mask c = mask c.lits

-- the mask and the weight of each of these clauses, in their order
pub record AreNotes (n : FoNotes) (cs : List FoClause) : Type 0 where
  pub masks : n.masks ≡ map clause_mask cs
  pub weights : n.weights ≡ map clause_weight cs

-- the same notes, and maybe more behind them
pub record AreMoreNotes (old new : FoNotes) : Type 0 where
  pub masks : IsFrontOf old.masks new.masks
  pub weights : IsFrontOf old.weights new.weights
