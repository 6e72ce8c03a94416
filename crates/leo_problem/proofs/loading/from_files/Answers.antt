use Rattle.std.proofs.lemmas.Result.{err_from_is_err_and}
use Rattle.leo_problem.specs.Gathering as gathering
use Rattle.leo_problem.specs.Loading as loading
use Rattle.leo_problem.proofs.loading.from_files.Goals as goal

pub returns-in_err-kept-clause-refusal : goal.returns-in_err-kept-clause-refusal
returns-in_err-kept-clause-refusal g c =
    let p = err_from_is_err_and c.from_residual-in_err-kept.result c.from_residual-in_err-kept.ensures.1 in
    rw (p.1, p.2) (λ n. loading.not_gathered (gathering.of_file c.requires (rw (c.as_slice.ensures.value, c.in_ok-folder.ensures, c.as_bytes.ensures.value, c.as_bytes-2.ensures.value, c.none-counts.ensures) at (c.in_err-kept.ensures.refusal n))))

pub returns-clause-gathered : goal.returns-clause-gathered
returns-clause-gathered g c = record {
  counts = c.gather.new.counts;
  gathers = gathering.of_file c.requires (rw (c.as_slice.ensures.value, c.in_ok-folder.ensures, c.as_bytes.ensures.value, c.as_bytes-2.ensures.value, c.none-counts.ensures) at c.in_ok-kept.ensures.gathered);
}
