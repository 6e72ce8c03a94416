-- Terms seen down to a depth.
use Rattle.std.proofs.Common.{ℕ, zero, suc, ◌+◌, ◌≡◌, ◌≤◌, refl, sym, ◌∙◌, ap, arith}
use Rattle.fo_terms.specs.Terms.{Term, Terms, variable, symbol, none, more, count, size, size_of_all}
use Rattle.fo_terms.specs.Depths.{mapped, cut}
use Rattle.fo_terms.proofs.Substituting.{size-positive}

pub count-mapped : (h : Term → Term) (ts : Terms) → count (mapped h ts) ≡ count ts
count-mapped h none = refl
count-mapped h (more t ts) = ap suc (count-mapped h ts)

mutual
  cut-large : (n : ℕ) (t : Term) → size t ≤ n → cut n t ≡ t
  cut-large zero t h = let p = size-positive t in absurd (omega arith)
  cut-large (suc n) (variable v) h = refl
  cut-large (suc n) (symbol f ts) h = ap (symbol f) (cut_all-large n ts (omega arith))

  cut_all-large : (n : ℕ) (ts : Terms) → size_of_all ts ≤ n → mapped (cut n) ts ≡ ts
  cut_all-large n none h = refl
  cut_all-large n (more t ts) h = rw (cut-large n t (omega arith), cut_all-large n ts (omega arith)) refl

-- terms that are one at each depth are equal
pub all_depths : (t u : Term) → ((n : ℕ) → cut n t ≡ cut n u) → t ≡ u
all_depths t u h = sym (cut-large (size t + size u) t (omega arith)) ∙ h (size t + size u) ∙ cut-large (size t + size u) u (omega arith)
