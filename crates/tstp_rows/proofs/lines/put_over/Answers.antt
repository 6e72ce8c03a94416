use Rattle.tstp_rows.proofs.Putting.{steps-more, symbols-more}
use Rattle.tstp_rows.proofs.lines.put_over.Goals as goal

pub returns-clause-lines : goal.returns-clause-lines
returns-clause-lines c =
    steps-more c.args.bank.now c.args.lines.now.items _ _ c.in_ok-push.ensures.items c.requires.lines
    (record {
      clause_of = record { types_of = rw c.in_ok-vars.ensures c.requires.vars; literals_of = rw c.in_ok-lits.ensures c.requires.lits };
      terms_of = c.requires.rule;
    })

pub returns-clause-symbols : goal.returns-clause-symbols
returns-clause-symbols c = symbols-more c.args.bank.now c.args.lines.now.items _ _ c.in_ok-push.ensures.items c.requires.symbols c.requires.symbol
