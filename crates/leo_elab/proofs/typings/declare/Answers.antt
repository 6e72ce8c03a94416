use Rattle.std.proofs.Common.{◌∙◌, sym, ap}
use Rattle.std.specs.Option.{option_map}
use Rattle.leo_terms.specs.Contents.{type_at}
use Rattle.leo_terms.proofs.CallerLemmas.{extends-itself}
use Rattle.leo_elab.proofs.Places.{type-named, constant-named, constant_at, constant-within, declared-kept}
use Rattle.leo_elab.proofs.Entries.{undeclared}
use Rattle.leo_elab.specs.Declaring as declaring
use Rattle.leo_elab.specs.Declaring.{IsUndeclared}
use Rattle.std.proofs.lemmas.Result.{err_from_is_err_and}
use Rattle.leo_elab.proofs.typings.declare.Goals as goal

pub returns-then-declares_type-clause-grows : goal.returns-then-declares_type-clause-grows
returns-then-declares_type-clause-grows c = extends-itself c.is_sound.ensures.sound

pub returns-else-declares_type-clause-grows : goal.returns-else-declares_type-clause-grows
returns-else-declares_type-clause-grows c = extends-itself c.is_sound.ensures.sound

pub returns-then-declares_type-clause-declares : goal.returns-then-declares_type-clause-declares
returns-then-declares_type-clause-declares c = declaring.same_type (type-named c.args.bank.now c.args.names.now c.args.atom.now ∙ ap (option_map (type_at c.args.bank.now)) (sym c.in-Some.ensures)) (c.declares_type.ensures.yes c.if-declares_type.true)

pub returns-else-declares_type-clause-refusal : goal.returns-else-declares_type-clause-refusal
returns-else-declares_type-clause-refusal c = λ n. declaring.twice_type (type-named c.args.bank.now c.args.names.now c.args.atom.now ∙ ap (option_map (type_at c.args.bank.now)) (sym c.in-Some.ensures)) (c.declares_type.ensures.no c.if-declares_type.false)

pub declare_again-requires-clause-symbol : goal.declare_again-requires-clause-symbol
declare_again-requires-clause-symbol c = constant-within c.args.bank.now c.args.atom.now c.args.names.now.constants c.in-Some-constant_named.symbol c.requires.names.constants (sym c.in-Some-constant_named.ensures)

pub returns-in_err-declare_again-clause-refusal : goal.returns-in_err-declare_again-clause-refusal
returns-in_err-declare_again-clause-refusal c = let p = err_from_is_err_and c.from_residual.result c.from_residual.ensures.1 in rw (p.1, p.2) (λ n. rw (c.in_err-declare_again.ensures.refusal n) (declaring.twice_constant (type-named c.args.bank.now c.args.names.now c.args.atom.now ∙ ap (option_map (type_at c.args.bank.now)) (sym c.in_default.ensures)) (constant-named c.args.bank.now c.args.names.now c.args.atom.now ∙ ap (option_map (constant_at c.args.bank.now)) (sym c.in-Some-constant_named.ensures)) (c.in_err-declare_again.ensures.differs n)))

pub returns-in-Some-constant_named-clause-names : goal.returns-in-Some-constant_named-clause-names
returns-in-Some-constant_named-clause-names c = (declared-kept c.declare_again.ensures.grows c.args.names.now c.requires.names).1

pub returns-in-Some-constant_named-clause-declares : goal.returns-in-Some-constant_named-clause-declares
returns-in-Some-constant_named-clause-declares c = rw ((declared-kept c.declare_again.ensures.grows c.args.names.now c.requires.names).0) (declaring.same_constant (type-named c.args.bank.now c.args.names.now c.args.atom.now ∙ ap (option_map (type_at c.args.bank.now)) (sym c.in_default.ensures)) (constant-named c.args.bank.now c.args.names.now c.args.atom.now ∙ ap (option_map (constant_at c.args.bank.now)) (sym c.in-Some-constant_named.ensures)) c.in_ok-declare_again.ensures.same)

pub declare_type-requires-clause-undeclared : goal.declare_type-requires-clause-undeclared
declare_type-requires-clause-undeclared c = undeclared c.args.bank.now c.args.names.now c.args.atom.now (sym c.in_default.ensures) (sym c.in_default-constant_named.ensures)

pub declare_constant-requires-clause-undeclared : goal.declare_constant-requires-clause-undeclared
declare_constant-requires-clause-undeclared c = undeclared c.args.bank.now c.args.names.now c.args.atom.now (sym c.in_default.ensures) (sym c.in_default-constant_named.ensures)

pub returns-in_err-declare_constant-clause-refusal : goal.returns-in_err-declare_constant-clause-refusal
returns-in_err-declare_constant-clause-refusal c = let p = err_from_is_err_and c.from_residual-in_err-declare_constant.result c.from_residual-in_err-declare_constant.ensures.1 in rw (p.1, p.2) (λ n. declaring.in_type (undeclared c.args.bank.now c.args.names.now c.args.atom.now (sym c.in_default.ensures) (sym c.in_default-constant_named.ensures)) (c.declares_type-2.ensures.no c.if-declares_type-2.false) (c.in_err-declare_constant.ensures.refusal n))
