use Rattle.std.proofs.Common.{ℕ, List, map, Option, ◌≡◌, ◌∙◌, ap, sym, subst}
use Rattle.std.proofs.lemmas.Result.{err_from_is_err_and}
use Rattle.leo_problem.specs.declared.gathered.Kept.{Kept}
use Rattle.leo_problem.specs.Gathered.{IsGathered}
use Rattle.leo_problem.specs.Gathering.{kept_in, nothing_read, with_file}
use Rattle.leo_problem.specs.Gathering as gathering
use Rattle.leo_problem.specs.Generating.{IsGenerator, generated_text}
use Rattle.leo_problem.specs.Loading as loading
use Rattle.leo_problem.specs.Pieces.{AreOfText}
use Rattle.leo_problem.proofs.loading.gathered.Goals as goal

text-gathered : {told : List ℕ → Option (List ℕ)} {name file : List ℕ} {root : Option (List ℕ)} {n : ℕ} {ks : List Kept} → file ≡ name → IsGenerator name n → AreOfText file n ks → IsGathered told name root ks
text-gathered {told} {name} {file} {root} {n} {ks} e is k =
    let P : List Kept → Type 0 = λ x. IsGathered told name root x in
    subst P (sym (k.all ∙ ap (λ f. map (kept_in f) k.list) e)) (record { counts = with_file nothing_read (generated_text n); gathers = gathering.of_text is k.are_statements })

pub returns-in_err-kept-in-Some-clause-refusal : goal.returns-in_err-kept-in-Some-clause-refusal
returns-in_err-kept-in-Some-clause-refusal g c =
    let p = err_from_is_err_and c.from_residual.result c.from_residual.ensures.1 in
    rw (p.1, p.2) (λ n. loading.not_gathered (gathering.refused_text c.in-Some.ensures (rw c.as_bytes.ensures.value at (c.in_err-kept-in-Some.ensures.refusal n))))

pub returns-in_ok-kept-in-Some-clause-gathered : goal.returns-in_ok-kept-in-Some-clause-gathered
returns-in_ok-kept-in-Some-clause-gathered g c = text-gathered c.as_bytes.ensures.value c.in-Some.ensures c.in_ok-kept-in-Some.ensures.kept
