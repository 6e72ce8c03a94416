use Rattle.std.proofs.Common.{◌≡◌, ◌∙◌, sym, ap, refl, arith}
use Rattle.leo_terms.specs.Contents.{type_at}
use Rattle.leo_terms.proofs.CallerLemmas.{new_bank, extends-trans, type_number-within}
use Rattle.leo_elab.specs.Table.{declared_in}
use Rattle.leo_elab.proofs.Standing.{same-true, same-false}
use Rattle.leo_elab.proofs.Places.{declared-kept, knows-kept}
use Rattle.leo_elab.proofs.TypeLaws.{one-type, no-offence}
use Rattle.leo_terms.specs.Contents.{symbol_type}
use Rattle.leo_terms.proofs.CallerLemmas.{type-shared}
use Rattle.leo_elab.proofs.Places.{symbol-type-within}
use Rattle.leo_elab.proofs.Entries.{again-type}
use Rattle.leo_elab.proofs.typings.declare_again.Goals as goal

pub read_type-requires : goal.read_type-requires
read_type-requires c = (declared-kept c.make_sym.ensures.grows c.args.names.now c.requires.names).1

pub returns-in-Err-clause-differs : goal.returns-in-Err-clause-differs
returns-in-Err-clause-differs c = λ n h. no-offence h (c.in-Err.ensures.refusal (c.again.ensures.from n) (declared_in c.args.bank.now c.args.names.now) (knows-kept c.make_sym.ensures.grows (record { names = c.requires.names; declared_is = refl })))

pub returns-in-Err-clause-grows : goal.returns-in-Err-clause-grows
returns-in-Err-clause-grows c = extends-trans c.make_sym.ensures.grows c.read_type.ensures.grows

pub returns-then-eq-clause-same : goal.returns-then-eq-clause-same
returns-then-eq-clause-same c = let q : type_at c.read_type.new.bank c.in-Ok.number ≡ type_at c.args.bank.now (symbol_type c.args.bank.now c.args.symbol) = ap (type_at c.read_type.new.bank) (sym (same-true _ _ (sym c.if-eq.ensures)) ∙ c.type_of.ensures.number) ∙ (again-type c.make_sym.ensures.grows c.read_type.ensures.grows (symbol-type-within c.make_sym.ensures.grows c.args.symbol c.requires.symbol) c.in_ok-declared.ensures.made) in rw (← q) (c.in-Ok.ensures.value (declared_in c.args.bank.now c.args.names.now) (knows-kept c.make_sym.ensures.grows (record { names = c.requires.names; declared_is = refl })))

pub returns-then-eq-clause-grows : goal.returns-then-eq-clause-grows
returns-then-eq-clause-grows c = extends-trans c.make_sym.ensures.grows c.read_type.ensures.grows

pub returns-else-eq-clause-differs : goal.returns-else-eq-clause-differs
returns-else-eq-clause-differs c = λ n h. let o = new_bank c.read_type.ensures.grows in let q = one-type h (c.in-Ok.ensures.value (declared_in c.args.bank.now c.args.names.now) (knows-kept c.make_sym.ensures.grows (record { names = c.requires.names; declared_is = refl }))) in same-false _ _ (sym c.if-eq.ensures) (c.type_of.ensures.number ∙ type-shared o _ _ (type_number-within o c.in_ok-declared.declared (let w = c.in_ok-declared.ensures.made.within in let z = c.read_type.ensures.grows.terms_more in omega arith)) c.in-Ok.ensures.within ((again-type c.make_sym.ensures.grows c.read_type.ensures.grows (symbol-type-within c.make_sym.ensures.grows c.args.symbol c.requires.symbol) c.in_ok-declared.ensures.made) ∙ q))

pub returns-else-eq-clause-grows : goal.returns-else-eq-clause-grows
returns-else-eq-clause-grows c = extends-trans c.make_sym.ensures.grows c.read_type.ensures.grows
