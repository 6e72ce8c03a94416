use Rattle.std.proofs.Common.{sym, ◌∙◌, refl, arith}
use Rattle.leo_terms.specs.Contents.{tree_at, type_at}
use Rattle.leo_unify.specs.Residues.{residue}
use Rattle.leo_unify.proofs.PairLemmas.{residue-equal}
use Rattle.leo_conclude.specs.Leaving.{parts_left}
use Rattle.leo_conclude.proofs.Residues.{parts-choices, parts-symbol}
use Rattle.leo_conclude.proofs.Resting.{application-in, applications-leave, applications-parts, applications-stand, apart-typed, arguments-stand, choices-leave, choices-typed, equal-leave, equal-terms, functions-stand, functions-typed, no-parts-left, parts-are-left, properties-stand, whole-leave}
use Rattle.leo_conclude.proofs.relieving.+relieve.Goals as goal

pub relieve-returns-then-eq : goal.relieve-returns-then-eq
relieve-returns-then-eq m c =
    equal-leave c.args.bank.now c.args.derived c.in_ok-derived.derived c.args.at c.args.l c.args.r (residue (tree_at c.args.bank.now c.args.l) (tree_at c.args.bank.now c.args.r)) _
    (equal-terms c.args.bank.now c.args.l c.args.r c.eq.result c.eq.ensures c.if-eq.true)
    (sym (residue-equal c.args.bank.now c.is_sound.ensures.sound c.args.l c.args.r c.requires.left c.requires.right c.eq.result c.eq.ensures c.if-eq.true)) c.in_ok-derived.ensures refl

pub relieve-returns-then-not-have : goal.relieve-returns-then-not-have
relieve-returns-then-not-have m c =
    whole-leave c.args.bank.now c.args.derived c.args.at c.args.l c.args.r c.in-Some.end (residue (tree_at c.args.bank.now c.args.l) (tree_at c.args.bank.now c.args.r)) c.requires.typed
    (no-parts-left c.args.bank.now c.is_sound.ensures.sound c.args.l c.args.r c.requires.left c.requires.right c.eq.result c.eq.ensures c.if-eq.false c.in_ok-have.have c.in_ok-have.ensures c.if-not-have.true) c.in-Some.ensures.1

pub relieve-returns : goal.relieve-returns
relieve-returns m c =
    rw (parts-are-left c.args.bank.now c.is_sound.ensures.sound c.args.l c.args.r c.requires.left c.requires.right c.eq.result c.eq.ensures c.if-eq.false (sym c.in_ok-have.ensures ∙ c.if-not-have.false)) c.in_ok-whole.ensures

pub relieve_application-relieve_parts-requires : goal.relieve_application-relieve_parts-requires
relieve_application-relieve_parts-requires m c = (
  omega arith,
  (
    apart-typed c.args.bank.now c.args.derived c.args.at c.args.first.now c.args.second.now c.requires.typed c.requires.first c.requires.second c.requires.parts c.in_ok-derived.derived c.in_ok-derived.ensures c.requires.unequal,
    (
      c.requires.first.function_within,
      (
        c.requires.second.function_within,
        (functions-stand c.args.bank.now c.args.derived c.args.at c.args.first.now c.args.second.now c.requires.typed c.requires.first c.requires.second c.requires.parts c.in_ok-derived.derived c.in_ok-derived.ensures c.requires.unequal, c.requires.parts),
      ),
    ),
  ),
)

pub relieve_application-relieve-requires : goal.relieve_application-relieve-requires
relieve_application-relieve-requires m c = (
  omega arith,
  (
    functions-typed c.args.bank.now c.args.derived c.args.at c.args.first.now c.args.second.now c.requires.typed c.requires.first c.requires.second c.requires.parts c.in_ok-derived.derived c.in_ok-front.front c.in_ok-derived.ensures c.in_ok-front.ensures c.requires.unequal,
    (
      c.requires.first.argument_within,
      (
        c.requires.second.argument_within,
        arguments-stand c.args.bank.now c.args.derived c.args.at c.args.first.now c.args.second.now c.requires.typed c.requires.first c.requires.second c.requires.parts c.in_ok-derived.derived c.in_ok-front.front c.in_ok-derived.ensures c.in_ok-front.ensures c.requires.unequal,
      ),
    ),
  ),
)

pub relieve_application-returns : goal.relieve_application-returns
relieve_application-returns m c =
    applications-leave c.args.bank.now c.args.derived c.args.at c.args.first.now c.args.second.now c.requires.typed c.requires.first c.requires.second c.requires.parts c.in_ok-derived.derived c.in_ok-front.front c.in_ok-whole.whole c.in_ok-derived.ensures c.in_ok-front.ensures c.in_ok-whole.ensures

pub relieve_heads-relieve-requires : goal.relieve_heads-relieve-requires
relieve_heads-relieve-requires m c =
    let choices = parts-choices (tree_at c.args.bank.now c.args.l) (tree_at c.args.bank.now c.args.r) (tree_at c.args.bank.now c.in-Some.first.property) (tree_at c.args.bank.now c.in-Some-choice_of.second.property) (type_at c.args.bank.now c.in-Some.first.ty) (type_at c.args.bank.now c.in-Some-choice_of.second.ty) c.requires.parts (sym c.in-Some.ensures.value) (sym c.in-Some-choice_of.ensures.value) in
    let l = c.requires.left in
    let r = c.requires.right in
    let p = c.in-Some.ensures.property in
    let q = c.in-Some-choice_of.ensures.property in (
      omega arith,
      (
        choices-typed c.args.bank.now c.is_sound.ensures.sound c.args.derived c.args.at c.args.l c.args.r c.in-Some.first.property c.in-Some-choice_of.second.property c.requires.typed c.requires.left c.requires.right choices (omega arith) c.in_ok-derived-in-Some-choice_of.derived c.in_ok-derived-in-Some-choice_of.ensures c.requires.unequal,
        (
          omega arith,
          (
            omega arith,
            properties-stand c.args.bank.now c.is_sound.ensures.sound c.args.derived c.args.at c.args.l c.args.r c.in-Some.first.property c.in-Some-choice_of.second.property c.requires.typed c.requires.left c.requires.right choices (omega arith) c.in_ok-derived-in-Some-choice_of.derived c.in_ok-derived-in-Some-choice_of.ensures c.requires.unequal,
          ),
        ),
      ),
    )

pub relieve_heads-returns-in_ok-whole-in-Some-choice_of : goal.relieve_heads-returns-in_ok-whole-in-Some-choice_of
relieve_heads-returns-in_ok-whole-in-Some-choice_of m c =
    let choices = parts-choices (tree_at c.args.bank.now c.args.l) (tree_at c.args.bank.now c.args.r) (tree_at c.args.bank.now c.in-Some.first.property) (tree_at c.args.bank.now c.in-Some-choice_of.second.property) (type_at c.args.bank.now c.in-Some.first.ty) (type_at c.args.bank.now c.in-Some-choice_of.second.ty) c.requires.parts (sym c.in-Some.ensures.value) (sym c.in-Some-choice_of.ensures.value) in
    let l = c.requires.left in
    let p = c.in-Some.ensures.property in
    choices-leave c.args.bank.now c.is_sound.ensures.sound c.args.derived c.args.at c.args.l c.args.r c.in-Some.first.property c.in-Some-choice_of.second.property c.requires.typed c.requires.left c.requires.right choices (omega arith) c.in_ok-derived-in-Some-choice_of.derived c.in_ok-whole-in-Some-choice_of.whole c.in_ok-derived-in-Some-choice_of.ensures c.in_ok-whole-in-Some-choice_of.ensures

pub relieve_heads-returns-in_ok-derived-in-None : goal.relieve_heads-returns-in_ok-derived-in-None
relieve_heads-returns-in_ok-derived-in-None m c =
    let s = parts-symbol (tree_at c.args.bank.now c.args.l) (tree_at c.args.bank.now c.args.r) c.requires.head (sym c.in-None.ensures.value) c.requires.parts in
    equal-leave c.args.bank.now c.args.derived c.in_ok-derived-in-None.derived c.args.at c.args.l c.args.r (parts_left (tree_at c.args.bank.now c.args.l) (tree_at c.args.bank.now c.args.r)) _ s.0 s.1 c.in_ok-derived-in-None.ensures refl

pub relieve_parts-relieve_application-requires : goal.relieve_parts-relieve_application-requires
relieve_parts-relieve_application-requires m c =
    let first = application-in c.args.bank.now c.is_sound.ensures.sound c.args.l c.in-Some-application_of.first c.requires.left c.in-Some-application_of.ensures.function c.in-Some-application_of.ensures.argument c.in-Some-application_of.ensures.value in
    let second = application-in c.args.bank.now c.is_sound.ensures.sound c.args.r c.in-Some-application_of-2.second c.requires.right c.in-Some-application_of-2.ensures.function c.in-Some-application_of-2.ensures.argument c.in-Some-application_of-2.ensures.value in (
      omega arith,
      (
        c.requires.typed,
        (
          first.application,
          (
            second.application,
            (
              applications-stand c.args.bank.now c.args.derived.clause c.args.at c.args.l c.args.r c.in-Some-application_of.first c.in-Some-application_of-2.second first second c.requires.unequal,
              applications-parts c.args.bank.now c.args.l c.args.r c.in-Some-application_of.first c.in-Some-application_of-2.second first second c.requires.parts,
            ),
          ),
        ),
      ),
    )
