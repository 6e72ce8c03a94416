use Rattle.std.proofs.Common.{suc, refl, arith, [], ◌∷◌, List, length, add-one}
use Rattle.leo_q0.specs.Terms.{SimpleType, truth, arrow, variable}
use Rattle.leo_terms.specs.Decode.{named}
use Rattle.leo_terms.proofs.CallerLemmas.{new_bank, extends-trans}
use Rattle.leo_elab.specs.Signs as sign
use Rattle.leo_elab.proofs.Standing.{stands-kept, formula-kept}
use Rattle.leo_q0.specs.Terms.{lambda}
use Rattle.leo_elab.proofs.Standing.{truth-type, bound-truth}
use Rattle.leo_elab.proofs.signs.connective_sign.Goals as goal

pub joined-requires-clause-left : goal.joined-requires-clause-left
joined-requires-clause-left c = formula-kept c.operand-2.ensures.grows c.in_ok-x.ensures.formula

pub returns-in_err-y-clause-grows : goal.returns-in_err-y-clause-grows
returns-in_err-y-clause-grows c = extends-trans c.operand.ensures.grows c.operand-2.ensures.grows

pub returns-in_err-body-clause-grows : goal.returns-in_err-body-clause-grows
returns-in_err-body-clause-grows c = extends-trans (extends-trans c.operand.ensures.grows c.operand-2.ensures.grows) c.joined.ensures.grows

pub under-requires-clause-typed : goal.under-requires-clause-typed
under-requires-clause-typed c = let s : List SimpleType = [] in let l = c.in_ok-x.ensures.made (truth ∷ truth ∷ s) (length s) refl (omega arith) in let r = c.in_ok-y.ensures.made (truth ∷ truth ∷ s) (suc (length s)) refl (omega arith) in let b = c.in_ok-body.ensures.made (truth ∷ truth ∷ s) (variable (named (length s) truth)) (variable (named (suc (length s)) truth)) (stands-kept c.operand-2.ensures.grows l) r in bound-truth c.truth.result (new_bank c.joined.ensures.grows) c.truth.ensures b

pub returns-in_err-inner-clause-grows : goal.returns-in_err-inner-clause-grows
returns-in_err-inner-clause-grows c = extends-trans (extends-trans (extends-trans c.operand.ensures.grows c.operand-2.ensures.grows) c.joined.ensures.grows) c.under.ensures.grows

pub under-requires-2-clause-typed : goal.under-requires-2-clause-typed
under-requires-2-clause-typed c = let s : List SimpleType = [] in let l = c.in_ok-x.ensures.made (truth ∷ truth ∷ s) (length s) refl (omega arith) in let r = c.in_ok-y.ensures.made (truth ∷ truth ∷ s) (suc (length s)) refl (omega arith) in let b = c.in_ok-body.ensures.made (truth ∷ truth ∷ s) (variable (named (length s) truth)) (variable (named (suc (length s)) truth)) (stands-kept c.operand-2.ensures.grows l) r in let i = c.in_ok-inner.ensures.made (truth ∷ s) (sign.joined c.args.connective (variable (named (length s) truth)) (variable (named (suc (length s)) truth))) truth truth (truth-type c.truth.result (new_bank c.joined.ensures.grows) c.truth.ensures) b in bound-truth c.truth-2.result (new_bank c.under.ensures.grows) c.truth-2.ensures i

pub returns-in_err-r-clause-grows : goal.returns-in_err-r-clause-grows
returns-in_err-r-clause-grows c = extends-trans (extends-trans (extends-trans (extends-trans c.operand.ensures.grows c.operand-2.ensures.grows) c.joined.ensures.grows) c.under.ensures.grows) c.under-2.ensures.grows

pub returns-clause-made : goal.returns-clause-made
returns-clause-made c = λ s. let l = c.in_ok-x.ensures.made (truth ∷ truth ∷ s) (length s) refl (omega arith) in let r = c.in_ok-y.ensures.made (truth ∷ truth ∷ s) (suc (length s)) refl (omega arith) in let b = c.in_ok-body.ensures.made (truth ∷ truth ∷ s) (variable (named (length s) truth)) (variable (named (suc (length s)) truth)) (stands-kept c.operand-2.ensures.grows l) r in let i = c.in_ok-inner.ensures.made (truth ∷ s) (sign.joined c.args.connective (variable (named (length s) truth)) (variable (named (suc (length s)) truth))) truth truth (truth-type c.truth.result (new_bank c.joined.ensures.grows) c.truth.ensures) b in rw (add-one (length s)) (c.in_ok-r.ensures.made s (lambda (named (suc (length s)) truth) (sign.joined c.args.connective (variable (named (length s) truth)) (variable (named (suc (length s)) truth)))) truth (arrow truth truth) (truth-type c.truth-2.result (new_bank c.under.ensures.grows) c.truth-2.ensures) i)

pub returns-clause-grows : goal.returns-clause-grows
returns-clause-grows c = extends-trans (extends-trans (extends-trans (extends-trans c.operand.ensures.grows c.operand-2.ensures.grows) c.joined.ensures.grows) c.under.ensures.grows) c.under-2.ensures.grows
