use Rattle.std.proofs.Common.{length, inl, inr, refl}
use Rattle.leo_terms.proofs.FactLemmas.{argument-within}
use Rattle.leo_terms.proofs.bank.Bank.facts_of.Goals as goal

pub facts_at-requires : goal.facts_at-requires
facts_at-requires c = c.requires c.in-App.f (rw c.in-App.is (inl refl))

pub facts_at-requires-in-App : goal.facts_at-requires-in-App
facts_at-requires-in-App c = c.requires c.in-App.a (rw c.in-App.is (inr refl))

pub facts_at-requires-in-Lam : goal.facts_at-requires-in-Lam
facts_at-requires-in-Lam c = c.requires c.in-Lam.body (rw c.in-Lam.is (inl refl))

pub argument_facts-x-requires : goal.argument_facts-x-requires
argument_facts-x-requires c = argument-within (length c.args.self.now.terms) c.in-Logic.x (λ i e. c.requires i (rw c.in-Logic.is (inl e)))

pub argument_facts-y-requires : goal.argument_facts-y-requires
argument_facts-y-requires c = argument-within (length c.args.self.now.terms) c.in-Logic.y (λ i e. c.requires i (rw c.in-Logic.is (inr e)))
