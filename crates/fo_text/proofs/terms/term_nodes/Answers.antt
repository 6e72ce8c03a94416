use Rattle.std.proofs.Common.{◌∙◌, ap, length, arith, ◌≡◌, ◌++◌, ◌∷◌, []}
use Rattle.std.proofs.lemmas.Result.{err_from_is_err_and}
use Rattle.std.specs.Prelude.{reverse}
use Rattle.fo_text.specs.Terms.{follow}
use Rattle.fo_text.proofs.TermReading.{read-start, read-stop, read-next, read-all, empty_list}
use Rattle.fo_text.proofs.terms.term_nodes.Goals as goal

pub loop-next-init : goal.loop-next-init
loop-next-init c =
    let n = c.args.names in
    rw c.new-nodes.ensures.items (read-start n.vars.now n.syms.now n.usable.now c.args.want c.args.after c.args.input.now c.push.new.self.items c.requires.ahead (c.in_ok-push.ensures.items ∙ ap (λ u. u ++ c.args.want ∷ []) c.new-wants.ensures.items))

pub returns-in_err-found-clause-refused : goal.returns-in_err-found-clause-refused
returns-in_err-found-clause-refused c =
    let p = err_from_is_err_and c.from_residual-in_err-found.result c.from_residual-in_err-found.ensures.1 in
    let n = c.args.names in
    rw (p.1, p.2) (read-stop n.vars.now n.syms.now n.usable.now c.args.want c.args.after c.args.input.now c.loop-next.nodes.items c.in-Some.next c.loop-next.wants.items c.pop.new.self.items c.loop-next.rest.now c.end_before-end.result c.in_err-found.field-0.0
    c.requires.numbered.0 c.requires.numbered.1 c.requires.after c.loop-next.invariant c.in-Some.ensures.items (c.end_before-end.ensures ∙ ap (λ u. follow c.args.after (reverse u)) c.deref.ensures.value) c.in_err-found.ensures.refused)

pub loop-next-preserved : goal.loop-next-preserved
loop-next-preserved c =
    let n = c.args.names in
    read-next n.vars.now n.syms.now n.usable.now c.args.want c.args.after c.args.input.now c.loop-next.nodes.items c.push-in-Some.new.self.items c.in-Some.next c.loop-next.wants.items c.pop.new.self.items c.push_arguments.new.wants.items c.loop-next.rest.now c.end_before-end.result c.in_ok-found.found c.in_ok-found.left.now
    c.loop-next.invariant c.in-Some.ensures.items (c.end_before-end.ensures ∙ ap (λ u. follow c.args.after (reverse u)) c.deref.ensures.value) c.in_ok-found.ensures.candidate c.in_ok-found.ensures.ahead c.in_ok-push-2.ensures.items c.in_ok-push_arguments.ensures

pub returns-clause-takes : goal.returns-clause-takes
returns-clause-takes c =
    let n = c.args.names in
    let none : length c.loop-next.wants.items ≡ 0 = omega (arith, c.loop-next.wants.ok.0, c.in_default.ensures.cases.0) in
    (read-all n.vars.now n.syms.now n.usable.now c.args.want c.args.after c.args.input.now c.loop-next.nodes.items c.loop-next.wants.items c.loop-next.rest.now c.loop-next.invariant (empty_list c.loop-next.wants.items none)).takes

pub returns-clause-read : goal.returns-clause-read
returns-clause-read c = c.loop-next.invariant.input_is

pub returns-clause-ended : goal.returns-clause-ended
returns-clause-ended c =
    let n = c.args.names in
    let none : length c.loop-next.wants.items ≡ 0 = omega (arith, c.loop-next.wants.ok.0, c.in_default.ensures.cases.0) in
    (read-all n.vars.now n.syms.now n.usable.now c.args.want c.args.after c.args.input.now c.loop-next.nodes.items c.loop-next.wants.items c.loop-next.rest.now c.loop-next.invariant (empty_list c.loop-next.wants.items none)).ahead
