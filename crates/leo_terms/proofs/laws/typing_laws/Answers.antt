use Rattle.leo_terms.proofs.NormalLemmas.{type_of-tree}
use Rattle.leo_terms.proofs.TypingLemmas.{tree_at-typed}
use Rattle.leo_terms.proofs.PublicWords.{sound}
use Rattle.leo_terms.proofs.laws.typing_laws.Goals as goal

pub returns-clause-typed : goal.returns-clause-typed
returns-clause-typed c bank b = tree_at-typed bank (sound bank b)

pub returns-clause-types : goal.returns-clause-types
returns-clause-types c bank b = type_of-tree bank (sound bank b)
