use Rattle.std.proofs.Common.{ℕ, [], ◌∷◌, ◌++◌, ◌+◌, ◌≡◌, ◌∙◌, ap, length, refl, inl, inr, arith}
use Rattle.std.proofs.lemmas.Iterator.Adapters.{YieldsList-from_vec}
use Rattle.std.proofs.lemmas.Iterator.Consumers.{YieldsList-turn, YieldsList-end}
use Rattle.std.proofs.lemmas.List.{length-append}
use Rattle.std.proofs.lemmas.Option.{slice_get_read}
use Rattle.std.proofs.lemmas.Result.{err_from_is_err_and}
use Rattle.leo_problem.specs.Places.{Place}
use Rattle.leo_problem.proofs.Pieces.{same-told, gather-refused, gather-statements, refused-include, keeps-included, keeps-itself, no-include, kept-more, kept-all, refused-there, fault-earlier, refused-full, refused-inner}
use Rattle.leo_problem.proofs.gathering.+files.Goals as goal
use Rattle.leo_problem.proofs.gathering.+files.Goals.{include-then-place-ge-MOST_LEVELS-via-then-place-ge-MOST_LEVELS, include-then-place-ge-MOST_LEVELS-via-else-place-ge-MOST_LEVELS+then-counts-ge-MOST_FILES}

pub gather-returns-in_err-list-clause-refusal : goal.gather-returns-in_err-list-clause-refusal
gather-returns-in_err-list-clause-refusal g t c =
    let p = err_from_is_err_and c.from_residual-in_err-list.result c.from_residual-in_err-list.ensures.1 in
    rw (p.1, p.2) (λ n.
    gather-refused (g.F.Files.content c.args.files.now) c.args.place.now c.place.inside.file.now c.in_ok-text.text.items (ap (λ (w : Place). w.file) c.place.view_is) c.in_ok-text.ensures.content
    c.deref.result.now c.deref.ensures.value (c.in_err-list.ensures.refusal n))

pub gather-returns-in_err-kept-clause-refusal : goal.gather-returns-in_err-kept-clause-refusal
gather-returns-in_err-kept-clause-refusal g t c =
    let p = err_from_is_err_and c.from_residual-in_err-kept.result c.from_residual-in_err-kept.ensures.1 in
    rw (p.1, p.2) (λ n.
    gather-statements (g.F.Files.content c.args.files.now) c.args.place.now c.place.inside.file.now c.in_ok-text.text.items (ap (λ (w : Place). w.file) c.place.view_is) c.in_ok-text.ensures.content
    c.deref.result.now c.deref.ensures.value (same-told _ _ c.fetch.ensures.stays)
    (c.with_file.ensures ∙ ap (λ (k : ℕ). record { files = c.args.counts.now.files + 1; bytes = c.args.counts.now.bytes + k }) (c.len.ensures ∙ c.in_ok-text.text.ok.0))
    c.in_ok-list.ensures.statements (c.in_err-kept.ensures.refusal n))

pub gather-returns-clause-gathered : goal.gather-returns-clause-gathered
gather-returns-clause-gathered g t c =
    gather-statements (g.F.Files.content c.args.files.now) c.args.place.now c.place.inside.file.now c.in_ok-text.text.items (ap (λ (w : Place). w.file) c.place.view_is) c.in_ok-text.ensures.content
    c.deref.result.now c.deref.ensures.value (same-told _ _ c.fetch.ensures.stays)
    (c.with_file.ensures ∙ ap (λ (k : ℕ). record { files = c.args.counts.now.files + 1; bytes = c.args.counts.now.bytes + k }) (c.len.ensures ∙ c.in_ok-text.text.ok.0))
    c.in_ok-list.ensures.statements c.in_ok-kept.ensures.gathered

pub gather_statement-returns-in_err-inner-in-Include-clause-refusal : goal.gather_statement-returns-in_err-inner-in-Include-clause-refusal
gather_statement-returns-in_err-inner-in-Include-clause-refusal g t c =
    let p = err_from_is_err_and c.from_residual.result c.from_residual.ensures.1 in
    rw (p.1, p.2) (λ n. refused-include c.args.place.now c.args.statement c.in-Include.is _ (rw c.as_slice.ensures at (c.in_err-inner-in-Include.ensures.refusal n)))

pub gather_statement-returns-in_ok-append_selected-in-Include-clause-keeps : goal.gather_statement-returns-in_ok-append_selected-in-Include-clause-keeps
gather_statement-returns-in_ok-append_selected-in-Include-clause-keeps g t c =
    keeps-included c.args.place.now c.args.statement c.in-Include.is (rw c.as_slice.ensures at c.in_ok-inner-in-Include.ensures.gathered) c.in_ok-append_selected-in-Include.ensures

pub gather_statement-returns-in_ok-keep-in_default : goal.gather_statement-returns-in_ok-keep-in_default
gather_statement-returns-in_ok-keep-in_default g t c = record {
  keeps = keeps-itself c.args.place.now c.args.statement (no-include c.args.statement c.in_default.not-Include)
      (c.in_ok-keep-in_default.ensures ∙ ap (λ (w : Place). c.args.kept.now.items ++ record { file = w.file; statement = c.args.statement } ∷ []) c.place.view_is);
  refusal = tt;
  fault = tt;
  stays = λ n. refl;
  never_falls = omega arith;
}

pub gather_statements-returns-in_err-gather_statement-clause-refusal : goal.gather_statements-returns-in_err-gather_statement-clause-refusal
gather_statements-returns-in_err-gather_statement-clause-refusal g t c =
    let xs = c.args.list.items in
    let b = c.into_iter-statement-iterator.ensures.into_iter_gives in
    let y = YieldsList-turn (YieldsList-from_vec {s = c.into_iter-statement-iterator.result} xs b.0 (b.1 ∙ c.args.list.ok.0)) c.loop-statement.yielded c.loop-statement.statement-iterator c.loop-statement.yielded_by c.next.result c.next.new.self c.in-Some.statement c.in-Some.is c.next.ensures.steps in
    let at = slice_get_read xs (length xs) (length c.loop-statement.yielded) c.in-Some.statement refl y.0 y.1 in
    let p = err_from_is_err_and c.from_residual.result c.from_residual.ensures.1 in
    rw (p.1, p.2) (λ n. refused-there c.loop-statement.invariant.kept c.in-Some.statement at (same-told _ _ c.loop-statement.invariant.stays) (c.in_err-gather_statement.ensures.refusal n))

pub gather_statements-returns-in_err-gather_statement-clause-fault : goal.gather_statements-returns-in_err-gather_statement-clause-fault
gather_statements-returns-in_err-gather_statement-clause-fault g t c =
    let p = err_from_is_err_and c.from_residual.result c.from_residual.ensures.1 in
    rw (p.1, p.2) (fault-earlier (g.F.Files.faults c.args.files.now) (g.F.Files.faults c.loop-statement.files) (g.F.Files.faults c.gather_statement.new.files) (g.F.Files.failed c.gather_statement.new.files) _
    c.loop-statement.invariant.never_falls c.in_err-gather_statement.ensures.fault)

pub gather_statements-loop-statement-preserved : goal.gather_statements-loop-statement-preserved
gather_statements-loop-statement-preserved g t c =
    let xs = c.args.list.items in
    let b = c.into_iter-statement-iterator.ensures.into_iter_gives in
    let y = YieldsList-turn (YieldsList-from_vec {s = c.into_iter-statement-iterator.result} xs b.0 (b.1 ∙ c.args.list.ok.0)) c.loop-statement.yielded c.loop-statement.statement-iterator c.loop-statement.yielded_by c.next.result c.next.new.self c.in-Some.statement c.in-Some.is c.next.ensures.steps in
    let at = slice_get_read xs (length xs) (length c.loop-statement.yielded) c.in-Some.statement refl y.0 y.1 in
    let e : length (c.loop-statement.yielded ++ c.in-Some.statement ∷ []) ≡ length c.loop-statement.yielded + 1 = omega (arith, length-append c.loop-statement.yielded (c.in-Some.statement ∷ [])) in
    record {
      level = c.loop-statement.invariant.level;
      kept = rw e (kept-more c.loop-statement.invariant.kept c.in-Some.statement at (same-told _ _ c.loop-statement.invariant.stays) c.in_ok-gather_statement.ensures.keeps);
      stays = λ n. c.gather_statement.ensures.stays n ∙ c.loop-statement.invariant.stays n;
      never_falls = (let x = c.loop-statement.invariant.never_falls in let z = c.gather_statement.ensures.never_falls in omega arith);
    }

pub gather_statements-returns-clause-gathered : goal.gather_statements-returns-clause-gathered
gather_statements-returns-clause-gathered g t c =
    let xs = c.args.list.items in
    let b = c.into_iter-statement-iterator.ensures.into_iter_gives in
    let y = YieldsList-end (YieldsList-from_vec {s = c.into_iter-statement-iterator.result} xs b.0 (b.1 ∙ c.args.list.ok.0)) c.loop-statement.yielded c.loop-statement.statement-iterator c.loop-statement.yielded_by c.next.result c.next.new.self c.in-None.is c.next.ensures.steps in
    kept-all c.loop-statement.invariant.kept (omega (arith, y.1))

pub include-returns-then-place-ge-MOST_LEVELS-clause-refusal : goal.include-returns-then-place-ge-MOST_LEVELS-clause-refusal
include-returns-then-place-ge-MOST_LEVELS-clause-refusal g t c = λ n.
    let v = c.place.view_is in
    refused-full c.args.place.now c.place.inside.folder.now c.place.inside.file.now c.place.inside.level (ap (λ (w : Place). w.folder) v) (ap (λ (w : Place). w.level) v) (ap (λ (w : Place). w.file) v)
    (elim c.then-place-ge-MOST_LEVELS.branch [
      | include-then-place-ge-MOST_LEVELS-via-then-place-ge-MOST_LEVELS w ↦ inl w.if-place-ge-MOST_LEVELS.true
      | include-then-place-ge-MOST_LEVELS-via-else-place-ge-MOST_LEVELS+then-counts-ge-MOST_FILES w ↦ inr w.if-counts-ge-MOST_FILES.true
    ])
    (c.refused.ensures n)

pub include-returns-in_err-kept-clause-refusal : goal.include-returns-in_err-kept-clause-refusal
include-returns-in_err-kept-clause-refusal g t c =
    let v = c.place.view_is in
    let p = err_from_is_err_and c.from_residual-in_err-kept.result c.from_residual-in_err-kept.ensures.1 in
    rw (p.1, p.2) (λ n.
    refused-inner c.args.place.now c.place.inside.folder.now c.place.inside.file.now c.place.inside.level (ap (λ (w : Place). w.folder) v) (ap (λ (w : Place). w.level) v) (ap (λ (w : Place). w.file) v)
    c.as_slice.result.now (omega arith, omega arith) (c.as_slice.ensures.value ∙ c.in_ok-file.ensures) (c.in_err-kept.ensures.refusal n))
