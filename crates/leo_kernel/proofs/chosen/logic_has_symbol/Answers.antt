use Rattle.std.proofs.Common.{map}
use Rattle.std.specs.Option.{option_map}
use Rattle.leo_terms.proofs.CallerLemmas.{extends-itself}
use Rattle.leo_clause.specs.Trees.{clause_at, literal_at}
use Rattle.leo_kernel.specs.Steps.{line_at}
use Rattle.leo_kernel.specs.ChosenClaims.{claim_at}
use Rattle.leo_kernel.proofs.ChosenSymbols.{logic-named, missing-decides, unchosen, either-chooses}
use Rattle.leo_kernel.proofs.chosen.logic_has_symbol.Goals as goal

pub returns-in_ok-named-in-AllF-clause-value : goal.returns-in_ok-named-in-AllF-clause-value
returns-in_ok-named-in-AllF-clause-value c =
    logic-named c.names_symbol.ensures.grows c.args.lines.now c.requires.lines c.args.lit c.requires.left c.requires.right c.args.place c.args.abbr (option_map (claim_at c.args.bank.now) c.claim_in-claim.result) c.in_ok-named-in-AllF.named
    c.args.kind (either-chooses c.args.kind c.in-AllF.is) c.claim_in-claim.ensures.value c.args.clause.now c.requires.clause c.in_ok-named-in-AllF.ensures.value

pub returns-in_default : goal.returns-in_default
returns-in_default c = record {
  value = unchosen (map (line_at c.args.bank.now) c.args.lines.now) (clause_at c.args.bank.now c.args.clause.now) c.args.place c.args.abbr (literal_at c.args.bank.now c.args.lit) c.args.kind c.in_default.not-AllF c.in_default.not-SomeT c.is_none.result (missing-decides c.args.abbr c.is_none.result c.is_none.ensures);
  grows = extends-itself c.is_sound.ensures.sound;
}
