use Rattle.leo_terms.specs.Contents.{AreTerms, Extends}
use Rattle.kernel_rows.proofs.rules.given_terms.Given as goal

abbrev pub invariant-loop-text : goal.invariant-loop-text
invariant-loop-text l = Extends l.initial.bank l.bank × AreTerms l.bank l.given
