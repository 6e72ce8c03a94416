use Rattle.std.proofs.Common.{Some, ap}
use Rattle.leo_kernel.specs.ChosenClaims.{claim_at}
use Rattle.leo_kernel.proofs.ChosenSymbols.{func_ext-claimed}
use Rattle.leo_kernel.proofs.chosen.func_ext_claims.Goals as goal

pub returns-clause-value : goal.returns-clause-value
returns-clause-value c =
    func_ext-claimed c.claims_named.ensures.grows c.args.lines.now c.requires.lines c.args.lit c.requires.left c.requires.right c.args.place c.args.abbr (Some (claim_at c.args.bank.now c.difference.result)) c.in_ok-claimed.claimed
    c.args.parent.now c.args.clause.now c.requires.parent c.requires.clause (ap Some c.difference.ensures.value) c.in_ok-claimed.ensures.value
