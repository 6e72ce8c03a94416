-- Terms down to a depth: all terms are one at depth 0, and terms that are one at each depth are equal.
use Rattle.std.specs.Prelude.{ℕ, zero, suc}
use Rattle.fo_terms.specs.Terms.{Term, Terms, variable, symbol, none, more}

-- what a function makes of each term
abbrev pub mapped : (Term → Term) → Terms → Terms
mapped h none = none
mapped h (more t ts) = more (h t) (mapped h ts)

-- a term with what a function makes of its arguments
abbrev pub below : (Term → Term) → Term → Term
below h (variable v) = variable v
below h (symbol f ts) = symbol f (mapped h ts)

-- a term without what is deeper
abbrev pub cut : ℕ → Term → Term
cut zero t = variable 0
cut (suc n) t = below (cut n) t

abbrev pub whole : Term → Term
whole t = t
