-- What callers of the book cite: the problem of a book is the one that was handed in, with a bank that grew, and says the same.
use Rattle.std.proofs.Common.{◌≡◌, ◌∙◌, refl, sym, subst}
use Rattle.leo_terms.specs.Contents.{IsBank}
use Rattle.leo_terms.proofs.CallerLemmas.{extends-itself, extends-trans}
use Rattle.leo_elab.proofs.Places.{declared-kept}
use Rattle.leo_problem.specs.declared.loaded.Problem.{Problem}
use Rattle.leo_problem.specs.Loading.{IsProblem, theory_of}
use Rattle.leo_problem.proofs.Assumed as assumed
use Rattle.leo_derive.proofs.CallerLemmas.{in_bank, problem-kept}
use Rattle.leo_core.specs.Books.{HasGrown}

pub grown-itself : {p : Problem} → IsBank p.bank → HasGrown p p
grown-itself {p} b = record { bank = extends-itself b; rest = refl }

pub grown-trans : {p q r : Problem} → HasGrown p q → HasGrown q r → HasGrown p r
grown-trans {p} {q} {r} g h =
    let same : in_bank q r.bank ≡ in_bank p r.bank = subst (λ (x : Problem). in_bank x r.bank ≡ in_bank p r.bank) (sym g.rest) refl in
    record { bank = extends-trans g.bank h.bank; rest = h.rest ∙ same }

module _ {p q : Problem} (g : HasGrown p q) (h : IsProblem p) where
  pub grown-problem : IsProblem q
  grown-problem = problem-kept {p = p} {q = q} g.bank g.rest h

  pub grown-theory : theory_of q ≡ theory_of p
  grown-theory =
      let d = (declared-kept g.bank p.names h.names).0 in
      let k = assumed.hypotheses-kept p.hyps g.bank h.closed in
      let later : theory_of (in_bank p q.bank) ≡ theory_of p = rw (d, k) refl in
      subst (λ (x : Problem). theory_of x ≡ theory_of p) (sym g.rest) later
