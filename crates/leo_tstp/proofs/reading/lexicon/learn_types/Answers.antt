use Rattle.leo_tstp.proofs.Wording.{types-in, entry-at}
use Rattle.leo_tstp.proofs.reading.lexicon.learn_types.Goals as goal

pub learn_type-requires-clause-type_of : goal.learn_type-requires-clause-type_of
learn_type-requires-clause-type_of c = types-in c.args.bank.now c.args.names.now.types c.requires.names.types _ _ (entry-at (λ w. w.items) _ _ _ _ _ c.types-types.ensures c.in-Some.ensures.entry)
