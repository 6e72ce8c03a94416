use Rattle.std.proofs.Common.{Some, map, ap}
use Rattle.leo_terms.proofs.CallerLemmas.{extends-itself}
use Rattle.leo_clause.specs.Trees.{clause_at, literal_at}
use Rattle.leo_kernel.specs.Steps.{line_at}
use Rattle.leo_kernel.specs.ChosenClaims.{claim_at}
use Rattle.leo_kernel.proofs.ChosenSymbols.{func_ext-named, func_ext-missing, func_ext-asked, missing-decides}
use Rattle.leo_kernel.proofs.chosen.func_ext_has_symbol.Goals as goal

pub returns-then-lit-clause-grows : goal.returns-then-lit-clause-grows
returns-then-lit-clause-grows c = extends-itself c.is_sound.ensures.sound

pub returns-then-lit-clause-value : goal.returns-then-lit-clause-value
returns-then-lit-clause-value c = func_ext-missing (map (line_at c.args.bank.now) c.args.lines.now) (clause_at c.args.bank.now c.args.clause.now) c.args.place c.args.abbr (literal_at c.args.bank.now c.args.lit) c.args.lit.pos c.if-lit.true c.is_none.result (missing-decides c.args.abbr c.is_none.result c.is_none.ensures)

pub returns-clause-value : goal.returns-clause-value
returns-clause-value c =
    let new = c.names_symbol.new.bank in
    func_ext-asked (map (line_at new) c.args.lines.now) (clause_at new c.args.clause.now) c.args.place c.args.abbr (literal_at new c.args.lit) c.args.lit.pos c.if-lit.false c.in_ok-named.named
    (func_ext-named c.names_symbol.ensures.grows c.args.lines.now c.requires.lines c.args.lit c.requires.left c.requires.right c.args.place c.args.abbr (Some (claim_at c.args.bank.now c.difference.result)) c.in_ok-named.named (ap Some c.difference.ensures.value) c.args.clause.now c.requires.clause c.in_ok-named.ensures.value)
