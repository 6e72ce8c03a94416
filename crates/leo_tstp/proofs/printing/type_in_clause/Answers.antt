use Rattle.std.proofs.Common.{◌∙◌, sym, ap}
use Rattle.std.proofs.lemmas.Option.{slice_get_within}
use Rattle.std.proofs.lemmas.Bool.{eqb-true}
use Rattle.leo_terms.specs.Contents.{symbol_type}
use Rattle.leo_terms.proofs.CallerLemmas.{type_number-within}
use Rattle.leo_tstp.proofs.Writing.{symbol-typed}
use Rattle.leo_tstp.proofs.printing.type_in_clause.Goals as goal

pub returns-then-eq-clause-type_is : goal.returns-then-eq-clause-type_is
returns-then-eq-clause-type_is c =
    c.type_of.ensures.number ∙ (sym (symbol-typed c.args.bank.now c.in-Sym.s _ c.in-Sym.ensures.typed) ∙ ap (symbol_type c.args.bank.now) (eqb-true c.in-Sym.s c.args.symbol (sym c.eq.ensures ∙ c.if-eq.true)))

pub returns-then-eq-clause-within : goal.returns-then-eq-clause-within
returns-then-eq-clause-within c =
    rw c.type_of.ensures.number (type_number-within c.in-Sym.ensures.sound _ (slice_get_within _ _ _ c.in-Sym.ensures.view))
