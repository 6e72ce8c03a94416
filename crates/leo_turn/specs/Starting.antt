-- How the calls below `start` and `turn` change a search. For private contracts.
use Rattle.std.specs.Prelude.{ℕ, ◌≡◌, ◌+◌, List, [], ◌∷◌, ◌++◌, length}
use Rattle.leo_terms.specs.Contents.{Contents, tree_at}
use Rattle.leo_kernel.specs.Conclusions.{assumed}
use Rattle.leo_passive.specs.Entries.{without}
use Rattle.leo_turn.specs.declared.search.Search.{Search}
use Rattle.leo_turn.specs.Searches.{HasClause, IsSearch, lines_of}
use Rattle.leo_turn.specs.Turns.{stock_of}

-- the search without a line and without a clause
abbrev pub empty_search : List ℕ → ℕ → ℕ → Search
empty_search hypotheses depth weight = record { hyps = hypotheses; abbr = record { items = [] }; abbr_at = []; kept = []; fronts = []; active = []; passive = []; lines = []; at = []; turns = 0; depth = depth; weight = weight }

-- the line that assumes a hypothesis came to the journal
pub record IsAssumed (b c : Contents) (old new : Search) (t : ℕ) : Type 0 where
  pub search : IsSearch c new
  pub clause : HasClause (lines_of c new) (length old.lines) (assumed (tree_at b t))
  pub stock : stock_of c new ≡ stock_of b old

-- the search with this passive clause as an active one, a turn later
abbrev pub with_given : Search → ℕ → Search
with_given s given = record { hyps = s.hyps; abbr = s.abbr; abbr_at = s.abbr_at; kept = s.kept; fronts = s.fronts; active = s.active ++ given ∷ []; passive = without given s.passive; lines = s.lines; at = s.at; turns = s.turns + 1; depth = s.depth; weight = s.weight }
