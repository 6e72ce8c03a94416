use Rattle.leo_clause.specs.Trees.{literal_at}
use Rattle.leo_clausify.specs.Ways.{form_of, way_at}
use Rattle.leo_clausify.proofs.UnderWay.{under-one, first-tree}
use Rattle.leo_clausify.proofs.agenda.Agenda.reduce_to_one.Goals as goal

pub returns-clause-progress : goal.returns-clause-progress
returns-clause-progress c = record {
  progress = λ known before start low h.
      let f = c.requires.first in
      rw c.in_ok-push.ensures.ok (under-one known before start c.reduced.ensures.grows c.args.self.now c.args.branch h c.reduced.new.choices c.in_ok-next.next c.args.at (literal_at c.args.bank.now f.lit) (form_of (way_at c.args.bank.now c.args.way.now)) low (first-tree c.args.bank.now c.args.branch c.args.at f) (c.requires.form f.lit f.stands) (c.in_ok-next.ensures.made f.lit f.stands));
}
