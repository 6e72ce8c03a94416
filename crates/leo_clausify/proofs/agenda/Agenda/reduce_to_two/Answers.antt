use Rattle.leo_clause.specs.Trees.{literal_at}
use Rattle.leo_terms.proofs.CallerLemmas.{extends-itself, extends-trans}
use Rattle.leo_clausify.specs.Ways.{form_of, way_at}
use Rattle.leo_clausify.proofs.Reduced.{branch-grow}
use Rattle.leo_clausify.proofs.Stepping.{way-grow, row-grow, reduced-as}
use Rattle.leo_clausify.proofs.UnderWay.{under-two, first-tree}
use Rattle.leo_clausify.proofs.agenda.Agenda.reduce_to_two.Goals as goal

pub returns-in_err-copy-clause-grows : goal.returns-in_err-copy-clause-grows
returns-in_err-copy-clause-grows c = extends-itself c.is_sound.ensures.sound

pub reduced-requires-2-clause-branch : goal.reduced-requires-2-clause-branch
reduced-requires-2-clause-branch c = rw c.in_ok-copy.ensures (branch-grow c.reduced.ensures.grows c.args.branch c.requires.branch)

pub reduced-requires-2-clause-way : goal.reduced-requires-2-clause-way
reduced-requires-2-clause-way c = way-grow c.reduced.ensures.grows c.args.second.now c.requires.second_way

pub reduced-requires-2-clause-row : goal.reduced-requires-2-clause-row
reduced-requires-2-clause-row c = rw c.in_ok-copy.ensures (row-grow c.reduced.ensures.grows c.args.branch c.args.at c.args.second.now c.requires.branch c.requires.second_way c.requires.second_row)

pub reduced-requires-2-clause-in_order : goal.reduced-requires-2-clause-in_order
reduced-requires-2-clause-in_order c = (c.in_ok-one.ensures.made c.requires.first.lit c.requires.first.stands).in_order

pub returns-in_err-other-clause-grows : goal.returns-in_err-other-clause-grows
returns-in_err-other-clause-grows c = extends-trans c.reduced.ensures.grows c.reduced-2.ensures.grows

pub returns-in_err-push-clause-grows : goal.returns-in_err-push-clause-grows
returns-in_err-push-clause-grows c = extends-trans c.reduced.ensures.grows c.reduced-2.ensures.grows

pub returns-in_err-push-2-clause-grows : goal.returns-in_err-push-2-clause-grows
returns-in_err-push-2-clause-grows c = extends-trans c.reduced.ensures.grows c.reduced-2.ensures.grows

pub returns-clause-grows : goal.returns-clause-grows
returns-clause-grows c = extends-trans c.reduced.ensures.grows c.reduced-2.ensures.grows

pub returns-clause-progress : goal.returns-clause-progress
returns-clause-progress c = record {
  progress = λ known before start low h.
      let f = c.requires.first in
      let g = c.reduced.ensures.grows in
      let k = c.reduced-2.ensures.grows in
      let made = rw c.in_ok-copy.ensures at c.in_ok-other.ensures.made in
      let second = reduced-as g c.reduced.new.choices.items c.reduced-2.new.choices.items c.args.branch c.in_ok-other.other c.args.at f.lit c.args.second.now c.requires.branch f.stands c.requires.second_way (made f.lit f.stands) in
      rw (c.in_ok-push-2.ensures.ok, c.in_ok-push.ensures.ok) (under-two known before start (extends-trans g k) c.args.self.now c.args.branch h g k c.reduced.new.choices c.reduced-2.new.choices c.in_ok-one.one c.in_ok-other.other c.args.at (literal_at c.args.bank.now f.lit) (form_of (way_at c.args.bank.now c.args.first.now)) (form_of (way_at c.args.bank.now c.args.second.now)) low (first-tree c.args.bank.now c.args.branch c.args.at f) (c.requires.forms f.lit f.stands) (c.in_ok-one.ensures.made f.lit f.stands) second);
}
