use Rattle.leo_terms.proofs.CallerLemmas.{extends-itself}
use Rattle.ext_rows.proofs.Ready.{no-order}
use Rattle.ext_rows.proofs.telling.tell_row.Goals as goal

pub tell_clauses-requires-clause-in_order : goal.tell_clauses-requires-clause-in_order
tell_clauses-requires-clause-in_order g c = rw c.new-abbr.ensures (no-order c.args.bank.now)

pub returns-in_default : goal.returns-in_default
returns-in_default g c = extends-itself c.is_sound.ensures.sound
