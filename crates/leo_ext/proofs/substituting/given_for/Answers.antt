use Rattle.std.proofs.Common.{◌≡◌, length, arith, subst}
use Rattle.leo_terms.specs.Contents.{IsTerm, tree_at, type_at}
use Rattle.leo_terms.specs.Tree.{Tree}
use Rattle.leo_terms.proofs.CallerLemmas.{extends-itself, extends-trans, tree-kept}
use Rattle.leo_clause.proofs.Renaming.{types-at}
use Rattle.leo_clausify.proofs.Giving.{given-none, given-next}
use Rattle.leo_ext.proofs.BoundTerms.{given_by}
use Rattle.leo_ext.proofs.BoundMaking.{given-all_terms, given-typed}
use Rattle.leo_ext.proofs.ChoiceMembers.{within-kept}
use Rattle.leo_ext.proofs.substituting.given_for.Goals as goal

pub loop-number-init : goal.loop-number-init
loop-number-init c = (extends-itself c.is_sound.ensures.sound, rw c.new-sigma.ensures.items (given-none (given_by c.args.n (tree_at c.args.bank.now c.args.term)) c.args.bank.now c.args.vars.now))

pub given_term-requires-clause-ty : goal.given_term-requires-clause-ty
given_term-requires-clause-ty c =
    let l = types-at c.args.bank.now c.args.vars.now c.requires.types c.loop-number.number c.index-vars-number.result c.loop-number-test.true c.index-vars-number.is in
    let m = c.loop-number.invariant.0.types_more in
    omega arith

pub given_term-requires-clause-within : goal.given_term-requires-clause-within
given_term-requires-clause-within c = within-kept c.loop-number.invariant.0 c.args.term c.requires.within

pub given_term-requires-clause-typed : goal.given_term-requires-clause-typed
given_term-requires-clause-typed c = given-typed c.loop-number.invariant.0 c.args.vars.now c.requires.types c.args.n c.loop-number.number c.index-vars-number.result c.args.term c.requires.within c.requires.typed c.loop-number-test.true c.index-vars-number.is

pub returns-in_err-given-clause-grows : goal.returns-in_err-given-clause-grows
returns-in_err-given-clause-grows c = extends-trans c.loop-number.invariant.0 c.given_term.ensures.grows

pub returns-in_err-push-clause-grows : goal.returns-in_err-push-clause-grows
returns-in_err-push-clause-grows c = extends-trans c.loop-number.invariant.0 c.given_term.ensures.grows

pub loop-number-preserved : goal.loop-number-preserved
loop-number-preserved c =
    let e = c.loop-number.invariant.0 in
    let f = c.given_term.ensures.grows in
    let m = subst (λ (u : Tree). IsTerm c.given_term.new.bank c.in_ok-given.given c.index-vars-number.result (given_by c.args.n u c.loop-number.number (type_at c.loop-number.bank c.index-vars-number.result))) (tree-kept e c.args.term c.requires.within) c.in_ok-given.ensures.made in
    (extends-trans e f, rw c.in_ok-push.ensures.items (given-next (given_by c.args.n (tree_at c.args.bank.now c.args.term)) c.args.bank.now c.loop-number.bank c.given_term.new.bank c.args.vars.now c.loop-number.sigma.items c.loop-number.number c.in_ok-given.given c.index-vars-number.result e f c.requires.types c.loop-number.invariant.1 c.loop-number-test.true c.index-vars-number.is m))

pub returns-clause-given : goal.returns-clause-given
returns-clause-given c =
    let e : c.loop-number.number ≡ length c.args.vars.now = (let a = c.loop-number.auto.number-end in let b = c.loop-number-test.false in omega arith) in
    given-all_terms c.args.bank.now c.loop-number.bank c.args.n c.args.term c.args.vars.now c.loop-number.sigma.items (rw e at c.loop-number.invariant.1)
