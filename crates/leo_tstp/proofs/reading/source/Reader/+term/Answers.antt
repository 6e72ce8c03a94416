use Rattle.std.proofs.Common.{◌≡◌, Some, None, Ok, Err, slice_get, refl, sym, rules}
use Rattle.leo_tstp.specs.declared.reading.trees.TypeNode.TheVariants as node
use Rattle.leo_terms.specs.Tree.{type_of, truth_type}
use Rattle.leo_tstp.specs.declared.reading.terms.Opening.TheVariants.{Lambda, Binder, Applied, Not, Other}
use Rattle.leo_tstp.specs.declared.reading.terms.Between.TheVariants.{Apply, Join}
use Rattle.leo_tstp.specs.declared.refusal.Stop.TheVariants.{Refused}
use Rattle.leo_tstp.specs.Ahead.{ahead_of, first_word}
use Rattle.leo_tstp.specs.Shapes.{opening, between}
use Rattle.leo_tstp.proofs.Typing.{goes-by, goes-trans, goes-added}
use Rattle.leo_tstp.proofs.TermSteps.{app-second, app-read, join-second, join-read, equal-second, equal-read, not-second, not-read, lambda-binder, lambda-second, lambda-read, quantified-over, quantified-second, quantified-read, under-taken-by, set-goes, set-words, set-no-lambda, set-type, set-ahead, set-fits, set-truth, set-taken, set-place, set-read, found-some, found-none, still, still-ahead, on-goes, lambda-inside, binder-inside, set-inside, not-inside, first-wanted, two-inside, apply-behind, join-behind, none-behind, inside-taken, bracket-read, atom-taken}
use Rattle.leo_tstp.proofs.reading.source.Reader.+term.Goals as goal

pub application-returns-in_err-argument-clause-takes : goal.application-returns-in_err-argument-clause-takes
application-returns-in_err-argument-clause-takes t c = λ v f x sign rest said vs s h k.
    let e : slice_get c.args.self.now.types.nodes.keys c.args.function.ty ≡ Some (node.Arrow c.in-Some-Arrow.from c.in-Some-Arrow.to) = cc in
    let w = app-second v c.args.self.now c.pass.new.self c.term.new.self vs s f x c.args.function c.in-Some-Arrow.from c.in-Some-Arrow.to sign rest (Err c.in_err-argument.field-0.0) said h e c.pass.ensures.stays c.pass.ensures.passes c.in_err-argument.ensures.takes in
    search rules

pub application-returns-clause-takes : goal.application-returns-clause-takes
application-returns-clause-takes t c = λ v f x sign rest said vs s h k.
    let e : slice_get c.args.self.now.types.nodes.keys c.args.function.ty ≡ Some (node.Arrow c.in-Some-Arrow.from c.in-Some-Arrow.to) = cc in
    let w = app-second v c.args.self.now c.pass.new.self c.term.new.self vs s f x c.args.function c.in-Some-Arrow.from c.in-Some-Arrow.to sign rest (Ok c.in_ok-argument.argument) said h e c.pass.ensures.stays c.pass.ensures.passes c.in_ok-argument.ensures.takes in
    app-read v c.args.self.now c.term.new.self vs s _ f x c.args.function c.in_ok-argument.argument c.in-Some-Arrow.from c.in-Some-Arrow.to _ _ rest h.known said e (goes-trans _ _ _ (goes-by _ _ c.pass.ensures.stays) c.in_ok-argument.ensures.goes) w c.in_ok-function.ensures c.in_ok-argument-2.ensures

pub application-returns-clause-goes : goal.application-returns-clause-goes
application-returns-clause-goes t c = goes-trans _ _ _ (goes-by _ _ c.pass.ensures.stays) c.in_ok-argument.ensures.goes

pub behind-returns-in-Some-Apply-clause-takes : goal.behind-returns-in-Some-Apply-clause-takes
behind-returns-in-Some-Apply-clause-takes t c =
    let e : between (first_word (ahead_of c.args.self.now)) ≡ Some Apply = cc in
    apply-behind c.args.self.now c.application.new.self c.args.first c.args.asked c.application.result c.application.ensures.takes e

pub behind-returns-in-Some-Join-clause-takes : goal.behind-returns-in-Some-Join-clause-takes
behind-returns-in-Some-Join-clause-takes t c =
    let e : between (first_word (ahead_of c.args.self.now)) ≡ Some (Join c.in-Some-Join.joint) = cc in
    join-behind c.args.self.now c.joined.new.self c.args.first c.args.asked c.joined.result c.in-Some-Join.joint c.joined.ensures.takes e

pub behind-returns-in-None-clause-takes : goal.behind-returns-in-None-clause-takes
behind-returns-in-None-clause-takes t c =
    let e : between (first_word (ahead_of c.args.self.now)) ≡ None = cc in
    none-behind c.args.self.now c.args.self.now c.args.first c.args.asked (Err Refused) e

pub equation-returns-in_err-second-clause-takes : goal.equation-returns-in_err-second-clause-takes
equation-returns-in_err-second-clause-takes t c = λ v a x y sign rest said vs s h k.
    let w = equal-second v c.args.self.now c.pass.new.self c.term.new.self vs s a x y c.args.first sign rest (Err c.in_err-second.field-0.0) said h c.pass.ensures.stays c.pass.ensures.passes c.in_err-second.ensures.takes in
    search rules

pub equation-returns-clause-takes : goal.equation-returns-clause-takes
equation-returns-clause-takes t c = λ v a x y sign rest said vs s h k.
    let w = equal-second v c.args.self.now c.pass.new.self c.term.new.self vs s a x y c.args.first sign rest (Ok c.in_ok-second.second) said h c.pass.ensures.stays c.pass.ensures.passes c.in_ok-second.ensures.takes in
    equal-read v c.args.self.now c.term.new.self vs s _ a x y c.args.first c.in_ok-second.second _ _ rest h.around said (goes-trans _ _ _ (goes-by _ _ c.pass.ensures.stays) c.in_ok-second.ensures.goes) w c.in_ok-first.ensures c.in_ok-second-2.ensures

pub equation-returns-clause-goes : goal.equation-returns-clause-goes
equation-returns-clause-goes t c = goes-trans _ _ _ (goes-by _ _ c.pass.ensures.stays) c.in_ok-second.ensures.goes

pub inside-returns-in_err-first-in-Other-clause-takes : goal.inside-returns-in_err-first-in-Other-clause-takes
inside-returns-in_err-first-in-Other-clause-takes t c = λ v x ws rest i vs s h k.
    let e : opening (first_word (ahead_of c.args.self.now)) ≡ Other = cc in
    let w = first-wanted c.args.self.now c.first.new.self c.args.asked c.in_err-first-in-Other.field-0.0 c.in_err-first-in-Other.ensures.takes e v x ws rest i vs s h k in
    search rules

pub inside-returns-in-Lambda-clause-takes : goal.inside-returns-in-Lambda-clause-takes
inside-returns-in-Lambda-clause-takes t c =
    let e : opening (first_word (ahead_of c.args.self.now)) ≡ Lambda = cc in
    lambda-inside c.args.self.now c.lambda.new.self c.args.asked c.lambda.result c.lambda.ensures.takes e

pub inside-returns-in-Binder-clause-takes : goal.inside-returns-in-Binder-clause-takes
inside-returns-in-Binder-clause-takes t c =
    let e : opening (first_word (ahead_of c.args.self.now)) ≡ Binder c.in-Binder.quantifier = cc in
    binder-inside c.args.self.now c.quantified.new.self c.args.asked c.quantified.result c.in-Binder.quantifier c.quantified.ensures.takes e

pub inside-returns-in-Applied-clause-takes : goal.inside-returns-in-Applied-clause-takes
inside-returns-in-Applied-clause-takes t c =
    let e : opening (first_word (ahead_of c.args.self.now)) ≡ Applied c.in-Applied.quantifier = cc in
    set-inside c.args.self.now c.set.new.self c.args.asked c.set.result c.in-Applied.quantifier c.set.ensures.takes e

pub inside-returns-in-Not-clause-takes : goal.inside-returns-in-Not-clause-takes
inside-returns-in-Not-clause-takes t c =
    let e : opening (first_word (ahead_of c.args.self.now)) ≡ Not = cc in
    not-inside c.args.self.now c.negation.new.self c.args.asked c.negation.result c.negation.ensures.takes e

pub inside-returns-in_ok-first-in-Other-clause-takes : goal.inside-returns-in_ok-first-in-Other-clause-takes
inside-returns-in_ok-first-in-Other-clause-takes t c =
    let e : opening (first_word (ahead_of c.args.self.now)) ≡ Other = cc in
    two-inside c.args.self.now c.first.new.self c.behind.new.self c.args.asked c.in_ok-first-in-Other.first c.behind.result c.in_ok-first-in-Other.ensures.takes c.in_ok-first-in-Other.ensures.goes c.behind.ensures.takes e

pub inside-returns-in_ok-first-in-Other-clause-goes : goal.inside-returns-in_ok-first-in-Other-clause-goes
inside-returns-in_ok-first-in-Other-clause-goes t c = on-goes c.args.self.now c.first.new.self c.behind.new.self c.behind.result c.in_ok-first-in-Other.ensures.goes c.behind.ensures.goes

pub joined-returns-in_err-second-clause-takes : goal.joined-returns-in_err-second-clause-takes
joined-returns-in_err-second-clause-takes t c = λ v x y sign rest said vs s h k.
    let w = join-second v c.args.self.now c.pass.new.self c.term.new.self vs s c.args.joint x y sign rest (Err c.in_err-second.field-0.0) h c.pass.ensures.stays c.pass.ensures.passes c.in_err-second.ensures.takes in
    search rules

pub joined-returns-clause-takes : goal.joined-returns-clause-takes
joined-returns-clause-takes t c = λ v x y sign rest said vs s h k.
    let w = join-second v c.args.self.now c.pass.new.self c.term.new.self vs s c.args.joint x y sign rest (Ok c.in_ok-second.second) h c.pass.ensures.stays c.pass.ensures.passes c.in_ok-second.ensures.takes in
    join-read v c.args.self.now c.term.new.self vs s _ c.args.joint x y c.args.first c.in_ok-second.second _ _ rest h.around said (goes-trans _ _ _ (goes-by _ _ c.pass.ensures.stays) c.in_ok-second.ensures.goes) w c.in_ok-first.ensures c.in_ok-second-2.ensures

pub joined-returns-clause-goes : goal.joined-returns-clause-goes
joined-returns-clause-goes t c = goes-trans _ _ _ (goes-by _ _ c.pass.ensures.stays) c.in_ok-second.ensures.goes

pub lambda-returns-in_err-body-clause-takes : goal.lambda-returns-in_err-body-clause-takes
lambda-returns-in_err-body-clause-takes t c = λ v a x sign rest vs s h k.
    let f = c.in-Some.ensures.fit v c.args.self.now.lexicon a (type_of x) h.around.shared k in
    let read = lambda-binder v c.args.self.now c.pass.new.self c.binder.new.self vs s a x sign rest c.in-Some.from c.in_ok-of.of h c.pass.ensures.stays c.pass.ensures.passes c.in_ok-of.ensures.takes f.0 in
    let w = lambda-second v c.args.self.now c.pass.new.self c.binder.new.self vs s a x sign rest c.in-Some.from c.in_ok-of.of h c.pass.ensures.stays c.under.new.self c.in-Some.to (Err c.in_err-body.field-0.0) c.in_ok-of.ensures.goes read c.in_err-body.ensures.takes f.1 in
    search rules

pub lambda-returns-clause-takes : goal.lambda-returns-clause-takes
lambda-returns-clause-takes t c = λ v a x sign rest vs s h k.
    let f = c.in-Some.ensures.fit v c.args.self.now.lexicon a (type_of x) h.around.shared k in
    let read = lambda-binder v c.args.self.now c.pass.new.self c.binder.new.self vs s a x sign rest c.in-Some.from c.in_ok-of.of h c.pass.ensures.stays c.pass.ensures.passes c.in_ok-of.ensures.takes f.0 in
    let w = lambda-second v c.args.self.now c.pass.new.self c.binder.new.self vs s a x sign rest c.in-Some.from c.in_ok-of.of h c.pass.ensures.stays c.under.new.self c.in-Some.to (Ok c.in_ok-body.body) c.in_ok-of.ensures.goes read c.in_ok-body.ensures.takes f.1 in
    lambda-read v c.binder.new.self c.under.new.self c.place.new.self _ a x c.in_ok-of.of c.in_ok-ty.ty c.in_ok-body.body _ _ rest read c.in_ok-body.ensures.goes w c.in_ok-ty.ensures c.in_ok-body-2.ensures

pub lambda-returns-clause-goes : goal.lambda-returns-clause-goes
lambda-returns-clause-goes t c = goes-trans _ _ _ (goes-by _ _ c.pass.ensures.stays) (goes-trans _ _ _ c.in_ok-of.ensures.goes (goes-trans _ _ _ c.in_ok-body.ensures.goes (goes-added _ _ _ _ c.in_ok-ty.ensures)))

pub negation-returns-in_err-formula-clause-takes : goal.negation-returns-in_err-formula-clause-takes
negation-returns-in_err-formula-clause-takes t c = λ v x y sign rest vs s h k.
    let w = not-second v c.args.self.now c.pass.new.self c.term.new.self vs s x y sign rest (Err c.in_err-formula.field-0.0) h c.pass.ensures.stays c.pass.ensures.passes c.in_err-formula.ensures.takes in
    search rules

pub negation-returns-clause-takes : goal.negation-returns-clause-takes
negation-returns-clause-takes t c = λ v x y sign rest vs s h k.
    let w = not-second v c.args.self.now c.pass.new.self c.term.new.self vs s x y sign rest (Ok c.in_ok-formula.formula) h c.pass.ensures.stays c.pass.ensures.passes c.in_ok-formula.ensures.takes in
    not-read v c.args.self.now c.term.new.self vs s _ x y c.in_ok-formula.formula _ rest h.around (goes-trans _ _ _ (goes-by _ _ c.pass.ensures.stays) c.in_ok-formula.ensures.goes) w c.in_ok-formula-2.ensures

pub negation-returns-clause-goes : goal.negation-returns-clause-goes
negation-returns-clause-goes t c = goes-trans _ _ _ (goes-by _ _ c.pass.ensures.stays) c.in_ok-formula.ensures.goes

pub quantified-returns-in_err-body-clause-takes : goal.quantified-returns-in_err-body-clause-takes
quantified-returns-in_err-body-clause-takes t c = λ v a b x y sign rest vs s h k.
    let read = quantified-over v c.args.self.now c.over.new.self vs s c.args.quantifier a b x y sign rest c.in_ok-of.of h c.args.asked (Ok c.in_ok-of.of) c.in_ok-of.ensures.takes k in
    let w = quantified-second v c.args.self.now c.over.new.self vs s c.args.quantifier a b x y sign rest c.in_ok-of.of h c.under.new.self (Err c.in_err-body.field-0.0) c.in_ok-of.ensures.goes read c.in_err-body.ensures.takes in
    search rules

pub quantified-returns-clause-takes : goal.quantified-returns-clause-takes
quantified-returns-clause-takes t c = λ v a b x y sign rest vs s h k.
    let read = quantified-over v c.args.self.now c.over.new.self vs s c.args.quantifier a b x y sign rest c.in_ok-of.of h c.args.asked (Ok c.in_ok-of.of) c.in_ok-of.ensures.takes k in
    let w = quantified-second v c.args.self.now c.over.new.self vs s c.args.quantifier a b x y sign rest c.in_ok-of.of h c.under.new.self (Ok c.in_ok-body.body) c.in_ok-of.ensures.goes read c.in_ok-body.ensures.takes in
    quantified-read v c.args.self.now c.over.new.self vs s c.args.quantifier a b x y sign rest c.in_ok-of.of h c.under.new.self c.in_ok-body.body c.in_ok-body-2.body c.in_ok-set.set c.quantified_type.result c.in_ok-of.ensures.goes read c.in_ok-body.ensures.goes w c.in_ok-body-2.ensures c.in_ok-set.ensures
    (c.quantified_type.ensures v c.under.new.self.lexicon c.under.new.self.types.nodes.keys a)

pub term-returns-in_err-found-clause-takes : goal.term-returns-in_err-found-clause-takes
term-returns-in_err-found-clause-takes t c = λ v x rest vs s h k.
    let w = inside-taken c.args.self.now c.pass.new.self c.inside.new.self c.args.asked c.pass.ensures.stays c.pass.ensures.passes (c.if-sees.ensures.0 refl) (Err c.in_err-found.field-0.0) c.in_err-found.ensures.takes v x rest vs s h k in
    search rules

pub term-returns-in_err-take-clause-takes : goal.term-returns-in_err-take-clause-takes
term-returns-in_err-take-clause-takes t c = λ v x rest vs s h k.
    let read = inside-taken c.args.self.now c.pass.new.self c.inside.new.self c.args.asked c.pass.ensures.stays c.pass.ensures.passes (c.if-sees.ensures.0 refl) (Ok c.in_ok-found.found) c.in_ok-found.ensures.takes v x rest vs s h k in
    let w = c.in_err-take.ensures.takes rest read.words in
    search rules

pub term-returns-in_ok-take-clause-takes : goal.term-returns-in_ok-take-clause-takes
term-returns-in_ok-take-clause-takes t c = λ v x rest vs s h k.
    let read = inside-taken c.args.self.now c.pass.new.self c.inside.new.self c.args.asked c.pass.ensures.stays c.pass.ensures.passes (c.if-sees.ensures.0 refl) (Ok c.in_ok-found.found) c.in_ok-found.ensures.takes v x rest vs s h k in
    bracket-read v c.inside.new.self c.take.new.self _ x rest c.in_ok-found.found read c.in_ok-take.ensures.takes c.in_ok-take.ensures.stays

pub term-returns-in_ok-take-clause-goes : goal.term-returns-in_ok-take-clause-goes
term-returns-in_ok-take-clause-goes t c = goes-trans _ _ _ (goes-by _ _ c.pass.ensures.stays) (goes-trans _ _ _ c.in_ok-found.ensures.goes (goes-by _ _ c.in_ok-take.ensures.stays))

pub term-returns-else-sees-clause-takes : goal.term-returns-else-sees-clause-takes
term-returns-else-sees-clause-takes t c = atom-taken c.args.self.now c.atom.new.self c.args.asked c.atom.result c.atom.ensures.takes (λ e. let w = c.if-sees.ensures.1 e in absurd (cc))

pub under-returns-in_err-body-clause-takes : goal.under-returns-in_err-body-clause-takes
under-returns-in_err-body-clause-takes t c = λ v vs s a x rest ar p k w f.
    let g = under-taken-by c.args.self.now (record c.args.self.now { scope = c.push.new.self }) c.term.new.self c.args.of c.args.asked (Err c.in_err-body.field-0.0) c.in_err-body.ensures.takes refl c.in_ok-push.ensures.items v vs s a x rest ar p k w f in
    search rules

pub under-returns-clause-takes : goal.under-returns-clause-takes
under-returns-clause-takes t c = λ v vs s a x rest ar p k w f.
    let g = under-taken-by c.args.self.now (record c.args.self.now { scope = c.push.new.self }) c.term.new.self c.args.of c.args.asked (Ok c.in_ok-body.body) c.in_ok-body.ensures.takes refl c.in_ok-push.ensures.items v vs s a x rest ar p k w f in
    record { said = record { says = g.said.says; place = g.said.place }; words = g.words }

pub set-returns-clause-goes : goal.set-returns-clause-goes
set-returns-clause-goes t c = goes-trans _ _ _ (goes-by _ _ c.pass.ensures.stays) (goes-trans _ _ _ (goes-by _ _ (still c.pass.new.self c.take.new.self c.want_no_lambda.new.self c.in_ok-want_no_lambda.ensures.stays c.in_ok-take.ensures.stays)) c.in_ok-set.ensures.goes)

pub set-returns-clause-takes : goal.set-returns-clause-takes
set-returns-clause-takes t c = λ v a x y sign rest n vs s h k.
    let w = set-words v c.args.self.now c.pass.new.self c.take.new.self vs s c.args.quantifier a x y sign rest h c.pass.ensures.stays c.in_ok-take.ensures.stays c.pass.ensures.passes c.in_ok-take.ensures.takes in
    let w₂ = still-ahead c.take.new.self c.want_no_lambda.new.self _ c.in_ok-want_no_lambda.ensures.stays w in
    let f = c.element_of-element.ensures v c.args.self.now.lexicon c.args.self.now.types.nodes.keys a k in
    let read = set-taken v c.args.self.now c.pass.new.self c.want_no_lambda.new.self vs s c.args.quantifier a x y sign rest h c.pass.ensures.stays (still c.pass.new.self c.take.new.self c.want_no_lambda.new.self c.in_ok-want_no_lambda.ensures.stays c.in_ok-take.ensures.stays) c.term.new.self (Ok c.in_ok-set.set) (c.in_ok-set.ensures.takes v x rest vs s (set-ahead v c.args.self.now c.pass.new.self c.want_no_lambda.new.self vs s c.args.quantifier a x y sign rest h c.pass.ensures.stays (still c.pass.new.self c.take.new.self c.want_no_lambda.new.self c.in_ok-want_no_lambda.ensures.stays c.in_ok-take.ensures.stays) w₂) (rw (set-type v c.args.self.now c.pass.new.self c.want_no_lambda.new.self vs s c.args.quantifier a x y sign rest h c.pass.ensures.stays (still c.pass.new.self c.take.new.self c.want_no_lambda.new.self c.in_ok-want_no_lambda.ensures.stays c.in_ok-take.ensures.stays)) (set-fits v c.args.self.now c.pass.new.self c.want_no_lambda.new.self vs s c.args.quantifier a x y sign rest h c.pass.ensures.stays (still c.pass.new.self c.take.new.self c.want_no_lambda.new.self c.in_ok-want_no_lambda.ensures.stays c.in_ok-take.ensures.stays) c.element_of-element.result f, set-truth v c.args.self.now c.pass.new.self c.want_no_lambda.new.self vs s c.args.quantifier a x y sign rest h c.pass.ensures.stays (still c.pass.new.self c.take.new.self c.want_no_lambda.new.self c.in_ok-want_no_lambda.ensures.stays c.in_ok-take.ensures.stays)))) in
    let place = found-some _ c.domain.result c.in-Some.of c.in-Some.is (c.domain.ensures v c.term.new.self.lexicon a truth_type (set-place v c.args.self.now c.pass.new.self c.want_no_lambda.new.self vs s c.args.quantifier a x y sign rest h c.pass.ensures.stays (still c.pass.new.self c.take.new.self c.want_no_lambda.new.self c.in_ok-want_no_lambda.ensures.stays c.in_ok-take.ensures.stays) c.term.new.self c.in_ok-set.set read)) in
    let found = set-read v c.args.self.now c.pass.new.self c.want_no_lambda.new.self vs s c.args.quantifier a x y sign rest h c.pass.ensures.stays (still c.pass.new.self c.take.new.self c.want_no_lambda.new.self c.in_ok-want_no_lambda.ensures.stays c.in_ok-take.ensures.stays) c.term.new.self c.in_ok-set.set c.in-Some.of c.in_ok-set-2.set c.quantified_type.result c.in_ok-set.ensures.goes read place c.in_ok-set-2.ensures
    (c.quantified_type.ensures v c.term.new.self.lexicon c.term.new.self.types.nodes.keys a) in
    record { said = record { says = found.said.says; place = found.said.place }; words = found.words }

pub set-returns-in_err-want_no_lambda-clause-takes : goal.set-returns-in_err-want_no_lambda-clause-takes
set-returns-in_err-want_no_lambda-clause-takes t c = λ v a x y sign rest n vs s h k.
    let w = set-words v c.args.self.now c.pass.new.self c.take.new.self vs s c.args.quantifier a x y sign rest h c.pass.ensures.stays c.in_ok-take.ensures.stays c.pass.ensures.passes c.in_ok-take.ensures.takes in
    let u = c.in_err-want_no_lambda.ensures.takes (set-no-lambda v c.args.self.now c.pass.new.self c.take.new.self vs s c.args.quantifier a x y sign rest h c.pass.ensures.stays c.in_ok-take.ensures.stays n w) in
    search rules

pub set-returns-in_err-set-clause-takes : goal.set-returns-in_err-set-clause-takes
set-returns-in_err-set-clause-takes t c = λ v a x y sign rest n vs s h k.
    let w = set-words v c.args.self.now c.pass.new.self c.take.new.self vs s c.args.quantifier a x y sign rest h c.pass.ensures.stays c.in_ok-take.ensures.stays c.pass.ensures.passes c.in_ok-take.ensures.takes in
    let w₂ = still-ahead c.take.new.self c.want_no_lambda.new.self _ c.in_ok-want_no_lambda.ensures.stays w in
    let f = c.element_of-element.ensures v c.args.self.now.lexicon c.args.self.now.types.nodes.keys a k in
    let u = set-taken v c.args.self.now c.pass.new.self c.want_no_lambda.new.self vs s c.args.quantifier a x y sign rest h c.pass.ensures.stays (still c.pass.new.self c.take.new.self c.want_no_lambda.new.self c.in_ok-want_no_lambda.ensures.stays c.in_ok-take.ensures.stays) c.term.new.self (Err c.in_err-set.field-0.0) (c.in_err-set.ensures.takes v x rest vs s (set-ahead v c.args.self.now c.pass.new.self c.want_no_lambda.new.self vs s c.args.quantifier a x y sign rest h c.pass.ensures.stays (still c.pass.new.self c.take.new.self c.want_no_lambda.new.self c.in_ok-want_no_lambda.ensures.stays c.in_ok-take.ensures.stays) w₂) (rw (set-type v c.args.self.now c.pass.new.self c.want_no_lambda.new.self vs s c.args.quantifier a x y sign rest h c.pass.ensures.stays (still c.pass.new.self c.take.new.self c.want_no_lambda.new.self c.in_ok-want_no_lambda.ensures.stays c.in_ok-take.ensures.stays)) (set-fits v c.args.self.now c.pass.new.self c.want_no_lambda.new.self vs s c.args.quantifier a x y sign rest h c.pass.ensures.stays (still c.pass.new.self c.take.new.self c.want_no_lambda.new.self c.in_ok-want_no_lambda.ensures.stays c.in_ok-take.ensures.stays) c.element_of-element.result f, set-truth v c.args.self.now c.pass.new.self c.want_no_lambda.new.self vs s c.args.quantifier a x y sign rest h c.pass.ensures.stays (still c.pass.new.self c.take.new.self c.want_no_lambda.new.self c.in_ok-want_no_lambda.ensures.stays c.in_ok-take.ensures.stays)))) in
    search rules

pub set-returns-in_default-clause-takes : goal.set-returns-in_default-clause-takes
set-returns-in_default-clause-takes t c = λ v a x y sign rest n vs s h k.
    let w = set-words v c.args.self.now c.pass.new.self c.take.new.self vs s c.args.quantifier a x y sign rest h c.pass.ensures.stays c.in_ok-take.ensures.stays c.pass.ensures.passes c.in_ok-take.ensures.takes in
    let w₂ = still-ahead c.take.new.self c.want_no_lambda.new.self _ c.in_ok-want_no_lambda.ensures.stays w in
    let f = c.element_of-element.ensures v c.args.self.now.lexicon c.args.self.now.types.nodes.keys a k in
    let read = set-taken v c.args.self.now c.pass.new.self c.want_no_lambda.new.self vs s c.args.quantifier a x y sign rest h c.pass.ensures.stays (still c.pass.new.self c.take.new.self c.want_no_lambda.new.self c.in_ok-want_no_lambda.ensures.stays c.in_ok-take.ensures.stays) c.term.new.self (Ok c.in_ok-set.set) (c.in_ok-set.ensures.takes v x rest vs s (set-ahead v c.args.self.now c.pass.new.self c.want_no_lambda.new.self vs s c.args.quantifier a x y sign rest h c.pass.ensures.stays (still c.pass.new.self c.take.new.self c.want_no_lambda.new.self c.in_ok-want_no_lambda.ensures.stays c.in_ok-take.ensures.stays) w₂) (rw (set-type v c.args.self.now c.pass.new.self c.want_no_lambda.new.self vs s c.args.quantifier a x y sign rest h c.pass.ensures.stays (still c.pass.new.self c.take.new.self c.want_no_lambda.new.self c.in_ok-want_no_lambda.ensures.stays c.in_ok-take.ensures.stays)) (set-fits v c.args.self.now c.pass.new.self c.want_no_lambda.new.self vs s c.args.quantifier a x y sign rest h c.pass.ensures.stays (still c.pass.new.self c.take.new.self c.want_no_lambda.new.self c.in_ok-want_no_lambda.ensures.stays c.in_ok-take.ensures.stays) c.element_of-element.result f, set-truth v c.args.self.now c.pass.new.self c.want_no_lambda.new.self vs s c.args.quantifier a x y sign rest h c.pass.ensures.stays (still c.pass.new.self c.take.new.self c.want_no_lambda.new.self c.in_ok-want_no_lambda.ensures.stays c.in_ok-take.ensures.stays)))) in
    found-none _ c.domain.result c.in_default.is (c.domain.ensures v c.term.new.self.lexicon a truth_type (set-place v c.args.self.now c.pass.new.self c.want_no_lambda.new.self vs s c.args.quantifier a x y sign rest h c.pass.ensures.stays (still c.pass.new.self c.take.new.self c.want_no_lambda.new.self c.in_ok-want_no_lambda.ensures.stays c.in_ok-take.ensures.stays) c.term.new.self c.in_ok-set.set read))
