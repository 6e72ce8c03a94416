use Rattle.std.proofs.Common.{◌≡◌, true, subst, rules}
use Rattle.std.proofs.lemmas.Bool.Decides.{not_from_Decides}
use Rattle.leo_clausify.specs.Leaves.{leaf_clause}
use Rattle.leo_keep.specs.Outcomes.{OutcomeOf}
use Rattle.leo_turn.specs.Intakes.{left_out}
use Rattle.leo_turn.specs.Searches.{kept_of}
use Rattle.leo_turn.proofs.KeptLeaves.{taken-kept}
use Rattle.leo_turn.proofs.Growing.{grows-itself}
use Rattle.leo_turn.proofs.keeping.take_leaf.Goals as goal

pub returns-in_err-found-clause-longer : goal.returns-in_err-found-clause-longer
returns-in_err-found-clause-longer c = grows-itself c.args.search.now

pub returns-then-not-is_kept-clause-longer : goal.returns-then-not-is_kept-clause-longer
returns-then-not-is_kept-clause-longer c = grows-itself c.args.search.now

pub returns-then-not-is_kept-clause-takes : goal.returns-then-not-is_kept-clause-takes
returns-then-not-is_kept-clause-takes c = left_out c.in_ok-found.found c.in_ok-found.ensures (not_from_Decides c.is_kept.result c.is_kept.ensures (search rules))

pub returns-clause-takes : goal.returns-clause-takes
returns-clause-takes c =
    let e : c.is_kept.result ≡ true = search rules in
    taken-kept c.args.bank.now c.args.limit c.args.search.now c.keep_leaf.new.search c.args.leaf.now (subst (OutcomeOf (kept_of c.args.bank.now c.args.search.now) (leaf_clause c.args.bank.now c.args.leaf.now) c.args.limit) (c.is_kept.ensures.0 e) c.in_ok-found.ensures) c.in_ok-keep_leaf.ensures.kept
