use Rattle.std.proofs.Common.{◌∙◌, ap, nat_eq, [], map, List}
use Rattle.leo_terms.proofs.CallerLemmas.{extends-itself, extends-trans}
use Rattle.leo_clause.specs.Arranging.{firsts, occurring_in}
use Rattle.leo_clause.specs.Sameness.{same_numbers}
use Rattle.leo_clause.specs.declared.clause.Lit.{Lit}
use Rattle.leo_clause.specs.Trees.{literal_at}
use Rattle.leo_kernel.proofs.Growing.{types-grow}
use Rattle.leo_clausify.proofs.Arranged.{arranged-extended, distinct-literals, some-last}
use Rattle.leo_clausify.proofs.closing.arranged_branch.Goals as goal

pub returns-in_err-lits-clause-grows : goal.returns-in_err-lits-clause-grows
returns-in_err-lits-clause-grows c = extends-itself c.is_sound.ensures.sound

pub order_of-requires : goal.order_of-requires
order_of-requires c = rw c.as_slice-2.ensures (distinct-literals c.args.bank.now c.is_sound.ensures.sound c.args.branch.clause.lits c.in_ok-lits.lits c.requires.typed.of_bank.literals_of (c.in_ok-lits.ensures ∙ ap (firsts same_numbers []) c.as_slice.ensures)).0

pub returns-in_err-order-clause-grows : goal.returns-in_err-order-clause-grows
returns-in_err-order-clause-grows c = extends-itself c.is_sound.ensures.sound

pub placed_terms-requires : goal.placed_terms-requires
placed_terms-requires c = rw c.as_slice-3.ensures (types-grow c.arranged.ensures.grows c.args.branch.clause.vars c.requires.typed.of_bank.types_of)

pub returns-in_err-sigma-clause-grows : goal.returns-in_err-sigma-clause-grows
returns-in_err-sigma-clause-grows c = extends-trans c.arranged.ensures.grows c.placed_terms.ensures.grows

pub returns-in_err-vars-clause-grows : goal.returns-in_err-vars-clause-grows
returns-in_err-vars-clause-grows c = extends-trans c.arranged.ensures.grows c.placed_terms.ensures.grows

pub returns-in_err-branch-clause-grows : goal.returns-in_err-branch-clause-grows
returns-in_err-branch-clause-grows c = extends-trans c.arranged.ensures.grows c.placed_terms.ensures.grows

pub returns-in_err-branch-2-clause-grows : goal.returns-in_err-branch-2-clause-grows
returns-in_err-branch-2-clause-grows c = extends-trans c.arranged.ensures.grows c.placed_terms.ensures.grows

pub returns-clause-extended : goal.returns-clause-extended
returns-clause-extended c =
    let once = c.in_ok-lits.ensures ∙ ap (firsts same_numbers []) c.as_slice.ensures in
    let order = c.in_ok-order.ensures ∙ ap (λ (ls : List Lit). firsts nat_eq [] (occurring_in (map (literal_at c.args.bank.now) ls))) c.as_slice-2.ensures in
    arranged-extended c.arranged.ensures.grows c.placed_terms.ensures.grows c.args.branch c.in_ok-branch.branch c.in_ok-branch-2.branch c.in_ok-lits.lits c.in_ok-order.order.keys c.in_ok-vars.vars c.in_ok-sigma.sigma c.in_ok-clause.clause c.requires once order c.in_ok-clause.ensures.value c.in_ok-clause.ensures.typed (rw c.as_slice-3.ensures at c.in_ok-sigma.ensures.given) (c.in_ok-vars.ensures ∙ c.as_slice-4.ensures) c.in_ok-branch.ensures.clause c.in_ok-branch.ensures.steps c.in_ok-branch-2.ensures.clause c.in_ok-branch-2.ensures.steps

pub returns-clause-some : goal.returns-clause-some
returns-clause-some c = rw c.in_ok-branch-2.ensures.steps (some-last c.in_ok-branch.branch.steps _)

pub returns-clause-grows : goal.returns-clause-grows
returns-clause-grows c = extends-trans c.arranged.ensures.grows c.placed_terms.ensures.grows
