use Rattle.std.proofs.Common.{◌≡◌, ◌∙◌, [], List, nat_eq, map, ap}
use Rattle.leo_terms.proofs.CallerLemmas.{extends-itself, extends-trans, new_bank}
use Rattle.leo_clause.specs.declared.clause.Lit.{Lit}
use Rattle.leo_clause.specs.Sameness.{same_numbers}
use Rattle.leo_clause.specs.Trees.{literal_at}
use Rattle.leo_clause.specs.Arranging.{firsts, occurring_in}
use Rattle.leo_clause.proofs.Renaming.{literals-grow, first-literals, order-below, kept-given, arranged-value, arranged-typed}
use Rattle.leo_clause.proofs.arranging.arranged.Goals as goal

pub returns-in_err-lits-clause-grows : goal.returns-in_err-lits-clause-grows
returns-in_err-lits-clause-grows c = extends-itself c.is_sound.ensures.sound

pub returns-in_err-order-clause-grows : goal.returns-in_err-order-clause-grows
returns-in_err-order-clause-grows c = extends-itself c.is_sound.ensures.sound

pub returns-in_err-vars-clause-grows : goal.returns-in_err-vars-clause-grows
returns-in_err-vars-clause-grows c = extends-itself c.is_sound.ensures.sound

pub order_of-requires : goal.order_of-requires
order_of-requires c =
    let kept : c.in_ok-lits.lits ≡ firsts same_numbers [] c.args.c.now.lits = c.in_ok-lits.ensures ∙ ap (firsts same_numbers []) c.as_slice.ensures in
    rw c.as_slice-2.ensures (first-literals c.args.bank.now c.is_sound.ensures.sound c.args.c.now c.requires c.in_ok-lits.lits kept)

pub types_in-requires : goal.types_in-requires
types_in-requires c =
    let a = c.args.bank.now in
    let b = c.is_sound.ensures.sound in
    let kept : c.in_ok-lits.lits ≡ firsts same_numbers [] c.args.c.now.lits = c.in_ok-lits.ensures ∙ ap (firsts same_numbers []) c.as_slice.ensures in
    let met : c.in_ok-order.order.keys ≡ firsts nat_eq [] (occurring_in (map (literal_at a) c.in_ok-lits.lits)) = c.in_ok-order.ensures ∙ ap (λ (ls : List Lit). firsts nat_eq [] (occurring_in (map (literal_at a) ls))) c.as_slice-2.ensures in
    rw c.as_slice-3.ensures (order-below a a a b (extends-itself b) (extends-itself b) c.args.c.now c.requires c.in_ok-lits.lits c.in_ok-order.order.keys [] [] [] kept met)

pub renamed-requires-clause-literals : goal.renamed-requires-clause-literals
renamed-requires-clause-literals c =
    let kept : c.in_ok-lits.lits ≡ firsts same_numbers [] c.args.c.now.lits = c.in_ok-lits.ensures ∙ ap (firsts same_numbers []) c.as_slice.ensures in
    rw c.as_slice-5.ensures (literals-grow c.renaming.ensures.grows c.in_ok-lits.lits (first-literals c.args.bank.now c.is_sound.ensures.sound c.args.c.now c.requires c.in_ok-lits.lits kept))

pub renamed-requires-clause-terms : goal.renamed-requires-clause-terms
renamed-requires-clause-terms c = rw c.deref.ensures.value c.in_ok-sigma.ensures.renaming.terms

pub renamed-requires-clause-given : goal.renamed-requires-clause-given
renamed-requires-clause-given c =
    let a = c.args.bank.now in
    let d = c.renaming.new.bank in
    let b = c.is_sound.ensures.sound in
    let e = c.renaming.ensures.grows in
    let kept : c.in_ok-lits.lits ≡ firsts same_numbers [] c.args.c.now.lits = c.in_ok-lits.ensures ∙ ap (firsts same_numbers []) c.as_slice.ensures in
    let met : c.in_ok-order.order.keys ≡ firsts nat_eq [] (occurring_in (map (literal_at a) c.in_ok-lits.lits)) = c.in_ok-order.ensures ∙ ap (λ (ls : List Lit). firsts nat_eq [] (occurring_in (map (literal_at a) ls))) c.as_slice-2.ensures in
    rw (c.deref.ensures.value, c.as_slice-5.ensures) (kept-given a d d b e (extends-itself (new_bank e)) c.args.c.now c.requires c.in_ok-lits.lits c.in_ok-order.order.keys [] c.in_ok-sigma.sigma.items [] kept met (rw c.as_slice-4.ensures at c.in_ok-sigma.ensures.renaming))

pub returns-in_err-lits-2-clause-grows : goal.returns-in_err-lits-2-clause-grows
returns-in_err-lits-2-clause-grows c = extends-trans c.renaming.ensures.grows c.renamed.ensures.grows

pub returns-clause-value : goal.returns-clause-value
returns-clause-value c =
    let a = c.args.bank.now in
    let d = c.renaming.new.bank in
    let b = c.is_sound.ensures.sound in
    let e = c.renaming.ensures.grows in
    let kept : c.in_ok-lits.lits ≡ firsts same_numbers [] c.args.c.now.lits = c.in_ok-lits.ensures ∙ ap (firsts same_numbers []) c.as_slice.ensures in
    let met : c.in_ok-order.order.keys ≡ firsts nat_eq [] (occurring_in (map (literal_at a) c.in_ok-lits.lits)) = c.in_ok-order.ensures ∙ ap (λ (ls : List Lit). firsts nat_eq [] (occurring_in (map (literal_at a) ls))) c.as_slice-2.ensures in
    arranged-value a d c.renamed.new.bank b e c.renamed.ensures.grows c.args.c.now c.requires c.in_ok-lits.lits c.in_ok-order.order.keys c.in_ok-vars.vars c.in_ok-sigma.sigma.items c.in_ok-lits-2.lits kept met (rw c.as_slice-4.ensures at c.in_ok-sigma.ensures.renaming) (rw c.as_slice-3.ensures at c.in_ok-vars.ensures) (rw (c.deref.ensures.value, c.as_slice-5.ensures) at c.in_ok-lits-2.ensures.renamed)

pub returns-clause-typed : goal.returns-clause-typed
returns-clause-typed c =
    let a = c.args.bank.now in
    let d = c.renaming.new.bank in
    let b = c.is_sound.ensures.sound in
    let e = c.renaming.ensures.grows in
    let kept : c.in_ok-lits.lits ≡ firsts same_numbers [] c.args.c.now.lits = c.in_ok-lits.ensures ∙ ap (firsts same_numbers []) c.as_slice.ensures in
    let met : c.in_ok-order.order.keys ≡ firsts nat_eq [] (occurring_in (map (literal_at a) c.in_ok-lits.lits)) = c.in_ok-order.ensures ∙ ap (λ (ls : List Lit). firsts nat_eq [] (occurring_in (map (literal_at a) ls))) c.as_slice-2.ensures in
    arranged-typed a d c.renamed.new.bank b e c.renamed.ensures.grows c.args.c.now c.requires c.in_ok-lits.lits c.in_ok-order.order.keys c.in_ok-vars.vars c.in_ok-sigma.sigma.items c.in_ok-lits-2.lits kept met (rw c.as_slice-4.ensures at c.in_ok-sigma.ensures.renaming) (rw c.as_slice-3.ensures at c.in_ok-vars.ensures) (rw (c.deref.ensures.value, c.as_slice-5.ensures) at c.in_ok-lits-2.ensures.renamed)

pub returns-clause-grows : goal.returns-clause-grows
returns-clause-grows c = extends-trans c.renaming.ensures.grows c.renamed.ensures.grows
