use Rattle.std.proofs.Common.{refl, arith, [], ◌∷◌, List, length}
use Rattle.leo_q0.specs.Terms.{SimpleType, truth, variable, apply}
use Rattle.leo_q0.specs.Connectives.{not_term}
use Rattle.leo_terms.specs.Decode.{named}
use Rattle.leo_terms.proofs.CallerLemmas.{new_bank, extends-trans}
use Rattle.leo_elab.proofs.Standing.{truth-type, bound-truth}
use Rattle.leo_elab.proofs.signs.negation_sign.Goals as goal

pub returns-in_err-body-clause-grows : goal.returns-in_err-body-clause-grows
returns-in_err-body-clause-grows c = extends-trans c.operand.ensures.grows c.negated.ensures.grows

pub under-requires-clause-typed : goal.under-requires-clause-typed
under-requires-clause-typed c = let s : List SimpleType = [] in let z = c.in_ok-x.ensures.made (truth ∷ s) (length s) refl (omega arith) in let y = c.in_ok-body.ensures.made (truth ∷ s) (variable (named (length s) truth)) z in bound-truth c.truth.result (new_bank c.negated.ensures.grows) c.truth.ensures y

pub returns-in_err-r-clause-grows : goal.returns-in_err-r-clause-grows
returns-in_err-r-clause-grows c = extends-trans (extends-trans c.operand.ensures.grows c.negated.ensures.grows) c.under.ensures.grows

pub returns-clause-made : goal.returns-clause-made
returns-clause-made c = λ s. let z = c.in_ok-x.ensures.made (truth ∷ s) (length s) refl (omega arith) in let y = c.in_ok-body.ensures.made (truth ∷ s) (variable (named (length s) truth)) z in c.in_ok-r.ensures.made s (apply not_term (variable (named (length s) truth))) truth truth (truth-type c.truth.result (new_bank c.negated.ensures.grows) c.truth.ensures) y

pub returns-clause-grows : goal.returns-clause-grows
returns-clause-grows c = extends-trans (extends-trans c.operand.ensures.grows c.negated.ensures.grows) c.under.ensures.grows
