-- Marks of clauses: one for each symbol and the place where it stands. A substitution takes none away. No public contract but
-- those of the notes on clauses speaks of them.
use Rattle.std.specs.Prelude.{ℕ, zero, suc, ◌+◌, ◌*◌, ◌%◌, ◌^◌, Bool, List, [], ◌∷◌, ◌++◌, flat_map, fold, bit_or, if◌then◌else◌}
use Rattle.fo_terms.specs.Terms.{Term, Terms, variable, symbol, none, more}
use Rattle.fo_text.specs.declared.problem.FoLit.{FoLit}

-- the number of a place: of an argument of what stands at a place, and of a side of a literal
abbrev pub child : ℕ → ℕ → ℕ
child h n = (h % 251 * 31 + n + 1) % 251

abbrev pub root : Bool → ℕ
root pos = if pos then 1 else 2

-- the mark of a symbol at a place
abbrev pub mark : ℕ → ℕ → ℕ
mark h f = h % 251 + f * 23

-- the marks of a term that stands at a place
abbrev mutual
  pub marks : ℕ → Term → List ℕ
  marks h (variable v) = []
  marks h (symbol f ts) = mark h f ∷ marks_in_all h 0 ts

  pub marks_in_all : ℕ → ℕ → Terms → List ℕ
  marks_in_all h n none = []
  marks_in_all h n (more t ts) = marks (child h n) t ++ marks_in_all h (suc n) ts

abbrev pub literal_marks : FoLit → List ℕ
literal_marks l = marks (root l.pos) l.left ++ marks (root l.pos) l.right

abbrev pub clause_marks : List FoLit → List ℕ
clause_marks ls = flat_map literal_marks ls

-- a mark is kept as one of 61 bits
abbrev pub with_mark : ℕ → ℕ → ℕ
with_mark m b = bit_or m (1 * 2 ^ (b % 61) % 2 ^ 64)

abbrev pub with_marks : ℕ → List ℕ → ℕ
with_marks m bs = fold with_mark m bs

abbrev pub mask : List FoLit → ℕ
mask ls = with_marks 0 (clause_marks ls)

-- the places of the arguments of what stands at a place, so many, from a number on
abbrev pub children : ℕ → ℕ → ℕ → List ℕ
children h n zero = []
children h n (suc k) = child h n ∷ children h (suc n) k

-- the marks of terms that stand at these places
abbrev pub pending : List ℕ → Terms → List ℕ
pending [] ts = []
pending (h ∷ hs) none = []
pending (h ∷ hs) (more t ts) = marks h t ++ pending hs ts
