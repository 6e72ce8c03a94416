use Rattle.std.proofs.Common.{◌∙◌, List, None, map, ap, sym, subst}
use Rattle.leo_problem.specs.declared.loaded.Hyp.{Hyp}
use Rattle.leo_derive.proofs.CallerLemmas.{in_bank}
use Rattle.leo_turn.specs.Turns.{AreFormulas}
use Rattle.leo_core.specs.declared.event.Event.{Event}
use Rattle.leo_core.specs.Books.{IsBook}
use Rattle.leo_core.proofs.Books.{pages, book_started, refuted_first}
use Rattle.leo_core.proofs.Formulas.{are_formulas}
use Rattle.leo_core.proofs.book.Book.start.Goals as goal

pub start-requires : goal.start-requires
start-requires c =
    let are = c.as_slice-2.ensures ∙ (c.in_ok-hyps.ensures ∙ ap (map (λ (h : Hyp). h.term)) c.as_slice.ensures) in
    record { hypotheses = subst (λ ts. AreFormulas c.args.problem.bank ts) (sym are) (are_formulas c.args.problem.bank c.args.problem.hyps c.requires.problem.closed) }

pub invariant_of-result : goal.invariant_of-result
invariant_of-result c =
    let are = c.as_slice-2.ensures ∙ (c.in_ok-hyps.ensures ∙ ap (map (λ (h : Hyp). h.term)) c.as_slice.ensures) in
    let found = c.in_ok-search.ensures in
    record {
      book = subst (λ (js : List Event). IsBook (pages (in_bank c.args.problem c.start.new.bank) c.args.settings c.in_ok-search.search js None)) (sym c.in_ok-journal.ensures.items)
          (book_started c.start.ensures.grows c.requires.problem c.requires.settings are found.search found.fixed found.start);
      refuted = refuted_first c.start.new.bank c.in_ok-search.search c.has_empty-refuted.result c.clauses.result.now c.clauses.ensures c.has_empty-refuted.ensures;
      room = c.in_ok-journal.ensures.capacity;
    }

pub returns-clause-book : goal.returns-clause-book
returns-clause-book c =
    let are = c.as_slice-2.ensures ∙ (c.in_ok-hyps.ensures ∙ ap (map (λ (h : Hyp). h.term)) c.as_slice.ensures) in
    let found = c.in_ok-search.ensures in
    subst (λ (js : List Event). IsBook (pages (in_bank c.args.problem c.start.new.bank) c.args.settings c.in_ok-search.search js None)) (sym c.in_ok-journal.ensures.items)
    (book_started c.start.ensures.grows c.requires.problem c.requires.settings are found.search found.fixed found.start)
