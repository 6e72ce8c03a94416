use Rattle.std.proofs.Common.{ℕ, List, sym, subst}
use Rattle.leo_terms.proofs.CallerLemmas.{extends-itself, extends-trans}
use Rattle.leo_syntax.specs.declared.tree.TypeTree.{TypeTree}
use Rattle.leo_elab.specs.Pairs.{IsEachOnce}
use Rattle.leo_elab.proofs.FirstTypings.{once-first_typings}
use Rattle.leo_elab.proofs.Declarations.{types-start, constants-start, all-declared}
use Rattle.leo_elab.proofs.declaring.declare_all.Goals as goal

pub returns-in_err-firsts-clause-grows : goal.returns-in_err-firsts-clause-grows
returns-in_err-firsts-clause-grows c = extends-itself c.is_sound.ensures.sound

pub returns-in_err-check_typings-clause-grows : goal.returns-in_err-check_typings-clause-grows
returns-in_err-check_typings-clause-grows c = extends-itself c.is_sound.ensures.sound

pub declare_types-requires-clause-once : goal.declare_types-requires-clause-once
declare_types-requires-clause-once c = let P : List (List ℕ × TypeTree) → Type 0 = λ w. IsEachOnce w in subst P (sym c.in_ok-firsts.ensures) (once-first_typings c.args.typings.now)

pub declare_types-requires-clause-before : goal.declare_types-requires-clause-before
declare_types-requires-clause-before c = types-start c.in_ok-firsts.firsts c.requires.new c.new-names.ensures.types c.new-names.ensures.constants

pub declare_constants-requires-clause-once : goal.declare_constants-requires-clause-once
declare_constants-requires-clause-once c = let P : List (List ℕ × TypeTree) → Type 0 = λ w. IsEachOnce w in subst P (sym c.in_ok-firsts.ensures) (once-first_typings c.args.typings.now)

pub declare_constants-requires-clause-before : goal.declare_constants-requires-clause-before
declare_constants-requires-clause-before c = constants-start c.in_ok-declare_types.ensures.now

pub returns-in_err-declare_constants-clause-grows : goal.returns-in_err-declare_constants-clause-grows
returns-in_err-declare_constants-clause-grows c = extends-trans c.declare_types.ensures.grows c.declare_constants.ensures.grows

pub returns-clause-declares : goal.returns-clause-declares
returns-clause-declares c = all-declared c.args.typings.now c.in_ok-firsts.ensures c.in_ok-check_typings.ensures.right c.in_ok-declare_constants.ensures.now

pub returns-clause-grows : goal.returns-clause-grows
returns-clause-grows c = extends-trans c.declare_types.ensures.grows c.declare_constants.ensures.grows
