-- What the numbers of a bank say in states. No public contract speaks of it.
use Rattle.std.specs.Prelude.{ℕ, map}
use Rattle.leo_terms.specs.Contents.{Contents, AreTerms, tree_at, type_at}
use Rattle.leo_clause.specs.Typed.{AreTypesOf}
use Rattle.leo_unify.specs.declared.state.State as declared
use Rattle.leo_unify.specs.Contexts.{AreTermsIn, ArePairsIn}
use Rattle.leo_unify.specs.Search.{State}
use Rattle.leo_unify.specs.Views.{pair_at, ArePairsOf}

abbrev pub state_at : Contents → declared.State → ℕ → State
state_at c s depth = record {
  variables = map (type_at c) s.vars;
  terms = map (tree_at c) s.terms;
  pairs = map (pair_at c) s.pairs;
  depth = depth;
}

-- the numbers of a state are numbers of the bank, and its terms and pairs stand over its variables
pub record IsStateOf (c : Contents) (s : declared.State) : Type 0 where
  pub types_of : AreTypesOf c s.vars
  pub terms_of : AreTerms c s.terms
  pub pairs_of : ArePairsOf c s.pairs
  pub terms_in : AreTermsIn (map (type_at c) s.vars) (map (tree_at c) s.terms)
  pub pairs_in : ArePairsIn (map (type_at c) s.vars) (map (pair_at c) s.pairs)
