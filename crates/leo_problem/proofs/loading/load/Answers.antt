use Rattle.std.proofs.lemmas.Result.{err_from_is_err_and}
use Rattle.leo_problem.specs.Loading as loading
use Rattle.leo_problem.proofs.Pieces.{answer-no-fault}
use Rattle.leo_problem.proofs.loading.load.Goals as goal

pub returns-in_err-loaded-clause-refusal : goal.returns-in_err-loaded-clause-refusal
returns-in_err-loaded-clause-refusal g c =
    let p = err_from_is_err_and c.from_residual-in_err-loaded.result c.from_residual-in_err-loaded.ensures.1 in
    let k = c.in_ok-kept.ensures.gathered in
    rw (p.1, p.2) (λ n. loading.kept k.gathers (rw (c.deref.ensures.value) at (c.in_err-loaded.ensures.refusal n)))

pub returns-in_err-loaded-clause-fault : goal.returns-in_err-loaded-clause-fault
returns-in_err-loaded-clause-fault g c =
    let p = err_from_is_err_and c.from_residual-in_err-loaded.result c.from_residual-in_err-loaded.ensures.1 in
    rw (p.1, p.2) (answer-no-fault c.deref.result.now _ c.in_err-loaded.ensures.refusal (g.F.Files.faults c.args.files.now) (g.F.Files.faults c.gathered.new.files) (g.F.Files.failed c.gathered.new.files))

pub returns-clause-says : goal.returns-clause-says
returns-clause-says g c =
    let k = c.in_ok-kept.ensures.gathered in
    loading.kept k.gathers (rw (c.deref.ensures.value) at c.in_ok-loaded.ensures.says)
