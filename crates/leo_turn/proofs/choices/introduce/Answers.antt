use Rattle.std.proofs.Common.{length}
use Rattle.leo_turn.proofs.Growing.{grows-itself}
use Rattle.leo_turn.proofs.Introducing.{announced, grows-choice}
use Rattle.leo_turn.proofs.Lists.{get-last, longer-itself, longer-pushed, longer-same}
use Rattle.leo_turn.proofs.choices.introduce.Goals as goal

pub abbreviation-requires : goal.abbreviation-requires
abbreviation-requires c = c.requires.order.of_bank (length c.args.search.now.abbr.items) (c.args.symbol, c.args.term) (get-last c.args.search.now.abbr.items (c.args.symbol, c.args.term))

pub returns-in_err-line-clause-longer : goal.returns-in_err-line-clause-longer
returns-in_err-line-clause-longer c = grows-itself c.args.search.now

pub returns-in_err-push-clause-longer : goal.returns-in_err-push-clause-longer
returns-in_err-push-clause-longer c = grows-choice c.args.search.now c.push.new.self c.args.search.now.abbr_at c.args.search.now.abbr.items (longer-same c.in_err-push.ensures.err) (longer-itself c.args.search.now.abbr_at) (longer-itself c.args.search.now.abbr.items)

pub returns-in_err-push-2-clause-longer : goal.returns-in_err-push-2-clause-longer
returns-in_err-push-2-clause-longer c = grows-choice c.args.search.now c.push.new.self c.push-2.new.self c.args.search.now.abbr.items (longer-pushed _ c.in_ok-push.ensures.ok) (longer-same c.in_err-push-2.ensures.err) (longer-itself c.args.search.now.abbr.items)

pub returns-in_err-push-3-clause-longer : goal.returns-in_err-push-3-clause-longer
returns-in_err-push-3-clause-longer c = grows-choice c.args.search.now c.push.new.self c.push-2.new.self c.push-3.new.self (longer-pushed _ c.in_ok-push.ensures.ok) (longer-pushed _ c.in_ok-push-2.ensures.ok) (longer-same c.in_err-push-3.ensures.err)

pub returns-clause-longer : goal.returns-clause-longer
returns-clause-longer c = grows-choice c.args.search.now c.push.new.self c.push-2.new.self c.push-3.new.self (longer-pushed _ c.in_ok-push.ensures.ok) (longer-pushed _ c.in_ok-push-2.ensures.ok) (longer-pushed _ c.in_ok-push-3.ensures.ok)

pub returns-clause-introduced : goal.returns-clause-introduced
returns-clause-introduced c = rw (c.in_ok-push.ensures.ok, c.in_ok-push-2.ensures.ok, c.in_ok-push-3.ensures.ok, c.len-number.ensures) (announced c.abbreviation.ensures.grows c.args.search.now c.in_ok-line.line (c.args.symbol, c.args.term) c.requires.search c.requires.order c.requires.hypotheses_lack c.requires.lines_lack c.requires.origin c.in_ok-line.ensures.line c.in_ok-line.ensures.step)
