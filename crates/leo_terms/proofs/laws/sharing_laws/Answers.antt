use Rattle.leo_terms.proofs.TypeLemmas.{type_at-injective}
use Rattle.leo_terms.proofs.TermLemmas.{tree_at-injective}
use Rattle.leo_terms.proofs.PublicWords.{sound}
use Rattle.leo_terms.proofs.laws.sharing_laws.Goals as goal

pub returns-clause-types : goal.returns-clause-types
returns-clause-types c bank b = type_at-injective bank (sound bank b)

pub returns-clause-terms : goal.returns-clause-terms
returns-clause-terms c bank b = tree_at-injective bank (sound bank b)
