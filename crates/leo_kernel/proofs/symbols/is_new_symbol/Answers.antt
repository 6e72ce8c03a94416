use Rattle.leo_terms.specs.Contents.{tree_at}
use Rattle.leo_clause.specs.Trees.{literal_at}
use Rattle.leo_kernel.specs.Steps.{line_at}
use Rattle.std.proofs.Common.{map}
use Rattle.leo_kernel.proofs.Defining.{new-decides}
use Rattle.leo_kernel.proofs.symbols.is_new_symbol.Goals as goal

pub returns : goal.returns
returns c = new-decides (map (tree_at c.args.bank.now) c.args.hyps.now) (map (line_at c.args.bank.now) c.args.lines.now) c.args.symbol (map (literal_at c.args.bank.now) c.args.lits.now) c.in_ok-unused.unused c.in_ok-absent.absent c.in_ok-may.may c.in_ok-unused.ensures c.if-not-unused.false c.in_ok-absent.ensures c.if-not-absent.false c.in_ok-may.ensures
