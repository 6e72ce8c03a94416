use Rattle.std.proofs.Common.{length}
use Rattle.leo_terms.proofs.CallerLemmas.{are_terms-kept}
use Rattle.kernel_rows.proofs.Ready.{all-end}
use Rattle.kernel_rows.proofs.rules.put_term.Goals as goal

pub returns-in_err-read-clause-terms : goal.returns-in_err-read-clause-terms
returns-in_err-read-clause-terms c = are_terms-kept c.term.ensures.grows c.args.terms.now c.requires.terms

pub returns-in_default-clause-terms : goal.returns-in_default-clause-terms
returns-in_default-clause-terms c = are_terms-kept c.term.ensures.grows c.args.terms.now c.requires.terms

pub returns-in_err-push-clause-terms : goal.returns-in_err-push-clause-terms
returns-in_err-push-clause-terms c = rw c.in_err-push.ensures.err (are_terms-kept c.term.ensures.grows c.args.terms.now c.requires.terms)

pub returns-clause-terms : goal.returns-clause-terms
returns-clause-terms c = rw c.in_ok-push.ensures.ok (all-end (length c.term.new.bank.terms) c.args.terms.now c.in-Some.t (are_terms-kept c.term.ensures.grows c.args.terms.now c.requires.terms) (rw c.in-Some.is at c.in_ok-read.ensures.term).within)
