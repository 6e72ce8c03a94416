-- Problems whose bank grew.
use Rattle.std.proofs.Common.{◌≡◌, sym, subst}
use Rattle.leo_terms.specs.Contents.{Contents, Extends}
use Rattle.leo_elab.proofs.Places.{declared-kept}
use Rattle.leo_problem.specs.declared.loaded.Problem.{Problem}
use Rattle.leo_problem.specs.Loading.{IsProblem}
use Rattle.leo_problem.proofs.Assumed.{all-closed-kept}

-- the problem with another bank
abbrev pub in_bank : Problem → Contents → Problem
in_bank p d = record { bank = d; names = p.names; hyps = p.hyps; conjecture = p.conjecture; statements = p.statements }

pub in-bank : (p : Problem) (d : Contents) → Extends p.bank d → IsProblem p → IsProblem (in_bank p d)
in-bank p d e h = record { names = (declared-kept e p.names h.names).1; closed = all-closed-kept p.hyps e h.closed }

pub problem-kept : (p q : Problem) → Extends p.bank q.bank → q ≡ in_bank p q.bank → IsProblem p → IsProblem q
problem-kept p q e same h = subst IsProblem (sym same) (in-bank p q.bank e h)
