use Rattle.std.proofs.Common.{ℕ, List, ◌≡◌, ◌∙◌, sym, ap, subst, refl, None, length, arith}
use Rattle.std.proofs.lemmas.Option.{slice_get_read, slice_get_within}
use Rattle.leo_syntax.specs.declared.tree.TypeTree.{TypeTree}
use Rattle.leo_elab.specs.Problem.{named}
use Rattle.leo_elab.specs.Pairs.{IsEachOnce}
use Rattle.leo_elab.specs.Typings.{Typing, IsRight}
use Rattle.leo_elab.proofs.FirstTypings.{once-first_typings}
use Rattle.leo_elab.proofs.Declarations.{named-there, first-offence, right-more}
use Rattle.leo_elab.proofs.checking.check_typings.Goals as goal

pub unreachable-requires : goal.unreachable-requires
unreachable-requires c =
    let ts = c.args.typings.now in
    let x = c.index-typings-place.result in
    let at = slice_get_read ts (length ts) c.loop-place.place x refl (omega arith) c.index-typings-place.is in
    let q : named x.atom c.args.firsts.now ≡ None = ap (λ (w : Typing). named w.atom c.args.firsts.now) (sym c.typing.view_is) ∙ sym c.in_default.ensures in
    named-there x ts c.loop-place.place at (ap (named x.atom) (sym c.requires) ∙ q)

pub check_typing-requires-clause-once : goal.check_typing-requires-clause-once
check_typing-requires-clause-once c = let P : List (List ℕ × TypeTree) → Type 0 = λ w. IsEachOnce w in subst P (sym c.requires) (once-first_typings c.args.typings.now)

pub returns-in-Err-clause-refusal : goal.returns-in-Err-clause-refusal
returns-in-Err-clause-refusal c =
    let ts = c.args.typings.now in
    let x = c.index-typings-place.result in
    let at = slice_get_read ts (length ts) c.loop-place.place x refl (omega arith) c.index-typings-place.is in
    first-offence ts c.args.firsts.now c.requires c.loop-place.place x at c.loop-place.invariant c.in-Err.refusal c.in-Err.ensures.refusal c.at_place.result c.at_place.ensures

pub loop-place-preserved : goal.loop-place-preserved
loop-place-preserved c =
    let ts = c.args.typings.now in
    let x = c.index-typings-place.result in
    let at = slice_get_read ts (length ts) c.loop-place.place x refl (omega arith) c.index-typings-place.is in
    right-more ts c.args.firsts.now c.requires c.loop-place.place x at c.loop-place.invariant c.in_default-check_typing.ensures.right

pub returns-clause-right : goal.returns-clause-right
returns-clause-right c = λ n t q.
    let l = slice_get_within c.args.typings.now n t q in
    let P : List (List ℕ × TypeTree) → Type 0 = λ w. IsRight w t in
    subst P c.requires (c.loop-place.invariant n t (omega arith) q)
