use Rattle.std.proofs.Common.{map, slice_get, subst}
use Rattle.fo_text.specs.declared.problem.FoClause.{FoClause}
use Rattle.fo_super.specs.Sifting.{alone, AreSifted}
use Rattle.fo_super.specs.Viewing.{member_of}
use Rattle.fo_super.proofs.Answering.{get-index, same-item}
use Rattle.fo_super.proofs.Sifted.{listed-sifted}
use Rattle.fo_super.proofs.working.listed_alone.Goals as goal

pub returns : goal.returns
returns c = λ d e.
    subst (λ (x : FoClause). AreSifted c.args.clauses.now (alone c.args.given x.lits) (map member_of c.list_alone.new.out))
    (same-item (slice_get c.args.clauses.now c.args.given) c.index-clauses-given.result d (get-index c.args.clauses.now c.args.given c.index-clauses-given.result c.requires.given c.index-clauses-given.is) e)
    (listed-sifted c.args.clauses.now _ c.new-members.result c.list_alone.new.out (c.in_ok-list_alone.ensures c.args.clauses.now) c.new-members.ensures)
