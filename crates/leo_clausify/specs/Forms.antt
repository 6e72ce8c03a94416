-- How a literal is reduced, by the first of these rules that fits.
use Rattle.std.specs.Prelude.{Bool, true, false, not, ◌&&◌, if◌then◌else◌, Option, Some, None, is_some, is_none}
use Rattle.std.specs.Bool.{beq}
use Rattle.leo_terms.specs.Tree.{Tree, variable, bound, symbol, app, lam, logic, absent, Connective, truth, falsity, negation, disjunction, conjunction, implication, equality, universal, existential, choice}
use Rattle.leo_clause.specs.declared.record.LogicKind.{LogicKind}
use Rattle.leo_clause.specs.declared.record.LogicKind.TheVariants as kind
use Rattle.leo_clause.specs.Sameness.{same_tree}
use Rattle.leo_clause.specs.Trees.{Literal}
use Rattle.leo_kernel.specs.Parts.{value_of}

-- what is done with a literal: its sides change places, it is left out, or it is taken apart by a rule about truth values
pub data Form : Type 0 where
  turn : Form
  omit : Form
  apart : LogicKind → Form

-- nothing can be done, or there is one form or two, of which the first comes first
pub data Forms : Type 0 where
  no_form : Forms
  one_form : Form → Forms
  two_forms : Form → Form → Forms

-- `A = v`, by the logical constant at the top of A
abbrev pub forms_with : Connective → Bool → Forms
forms_with negation v = one_form (apart kind.Not)
forms_with disjunction true = one_form (apart kind.OrT)
forms_with disjunction false = two_forms (apart kind.OrF1) (apart kind.OrF2)
forms_with conjunction true = two_forms (apart kind.AndT1) (apart kind.AndT2)
forms_with conjunction false = one_form (apart kind.AndF)
forms_with implication true = one_form (apart kind.ImpT)
forms_with implication false = two_forms (apart kind.ImpF1) (apart kind.ImpF2)
forms_with (equality a) true = one_form (apart kind.EqT)
forms_with (equality a) false = one_form (apart kind.EqF)
forms_with (universal a) true = one_form (apart kind.AllT)
forms_with (universal a) false = one_form (apart kind.AllF)
forms_with (existential a) true = one_form (apart kind.SomeT)
forms_with (existential a) false = one_form (apart kind.SomeF)
forms_with truth v = no_form
forms_with falsity v = no_form
forms_with (choice a) v = no_form

abbrev pub forms_about : Tree → Bool → Forms
forms_about (logic c x y) v = forms_with c v
forms_about (variable n a) v = no_form
forms_about (bound i a) v = no_form
forms_about (symbol n a) v = no_form
forms_about (app f x) v = no_form
forms_about (lam a t) v = no_form
forms_about absent v = no_form

-- of two truth values one is T and the other F
abbrev pub are_opposite : Option Bool → Option Bool → Bool
are_opposite None o = false
are_opposite (Some v) None = false
are_opposite (Some v) (Some w) = not (beq v w)

-- `T = F`, `F = T` or `s ≠ s`
abbrev pub never_holds : Literal → Bool
never_holds l = if l.positive then are_opposite (value_of l.left) (value_of l.right) else same_tree l.left l.right

-- `A = v` or `A ≠ v`, where the right side is the truth value v
abbrev pub forms_valued : Literal → Option Bool → Forms
forms_valued l None = no_form
forms_valued l (Some v) = if l.positive then forms_about l.left v else one_form (apart kind.Flip)

-- with T or F on the left alone it is turned; what never holds is left out; `A ≠ v` is flipped; `A = v` is taken apart
abbrev pub forms_of : Literal → Forms
forms_of l =
    if is_some (value_of l.left) && is_none (value_of l.right) then one_form turn
    else (if never_holds l then one_form omit else forms_valued l (value_of l.right))
