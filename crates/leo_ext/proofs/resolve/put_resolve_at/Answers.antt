use Rattle.std.proofs.Common.{refl}
use Rattle.leo_terms.proofs.CallerLemmas.{extends-itself}
use Rattle.leo_ext.proofs.Adding.{adds-none}
use Rattle.leo_ext.proofs.Resolving.{resolve-added}
use Rattle.leo_ext.proofs.resolve.put_resolve_at.Goals as goal

pub returns-then-lit : goal.returns-then-lit
returns-then-lit c = record { adds = adds-none (extends-itself c.is_sound.ensures.sound) c.args.dues.now.items _ (rw c.if-lit.true refl) }

pub returns : goal.returns
returns c = record {
  adds = resolve-added c.args.bank.now c.is_sound.ensures.sound c.args.clause.now c.in_ok-conclusion.conclusion c.requires.clause.of_bank c.args.before c.args.at c.in_ok-number.number c.args.lit c.args.dues.now.items c.put_member.new.dues.items c.in_ok-records.records c.if-lit.false c.in_ok-conclusion.ensures c.in_ok-records.ensures c.in_ok-number.ensures c.in_ok-put_member.ensures;
}
