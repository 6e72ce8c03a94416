use Rattle.std.specs.Option.{option_map}
use Rattle.leo_kernel.specs.ChosenClaims.{claim_at}
use Rattle.leo_kernel.proofs.ChosenSymbols.{logic-claimed}
use Rattle.leo_kernel.proofs.chosen.logic_claims.Goals as goal

pub returns-clause-value : goal.returns-clause-value
returns-clause-value c =
    logic-claimed c.claims_named.ensures.grows c.args.lines.now c.requires.lines c.args.lit c.requires.left c.requires.right c.args.place c.args.abbr (option_map (claim_at c.args.bank.now) c.claim_in-claim.result) c.in_ok-claimed.claimed
    c.args.parent.now c.args.clause.now c.requires.parent c.requires.clause c.args.kind c.requires.kind c.claim_in-claim.ensures.value c.in_ok-claimed.ensures.value
