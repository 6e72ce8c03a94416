use Rattle.std.proofs.Common.{ap}
use Rattle.leo_terms.specs.Decode.{decoded}
use Rattle.leo_terms.proofs.DecodedSubstitutions.{substitution_decodes, lifting_decodes}
use Rattle.leo_terms.proofs.laws.decoding_laws.Goals as goal

pub returns-clause-making : goal.returns-clause-making
returns-clause-making c bank t i s m next = ap (decoded next) m.reads

pub returns-clause-lifting : goal.returns-clause-lifting
returns-clause-lifting c = lifting_decodes

pub returns-clause-substitution : goal.returns-clause-substitution
returns-clause-substitution c = substitution_decodes
