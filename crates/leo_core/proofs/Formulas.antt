-- The hypotheses of a problem are formulas, as a search wants them.
use Rattle.std.proofs.Common.{◌≡◌, ◌+◌, suc, List, [], ◌∷◌, length, map, arith}
use Rattle.std.proofs.lemmas.Option.{slice_get_within}
use Rattle.leo_q0.specs.Terms.{SimpleType}
use Rattle.leo_terms.specs.Tree as tree
use Rattle.leo_terms.specs.Tree.{Tree}
use Rattle.leo_terms.specs.Contents.{Contents, tree_at}
use Rattle.leo_clause.specs.Typed.{IsOver}
use Rattle.leo_elab.specs.Standing.{IsScoped}
use Rattle.leo_problem.specs.declared.loaded.Hyp.{Hyp}
use Rattle.leo_problem.specs.Loading.{AreClosedFormulas}
use Rattle.leo_turn.specs.Turns.{AreFormulas}

scoped_over : (s : List SimpleType) (t : Tree) → IsScoped s t → IsOver [] (length s) t
scoped_over s (tree.variable n a) h = absurd h
scoped_over s (tree.bound i a) h = slice_get_within s i a h
scoped_over s (tree.symbol n a) h = tt
scoped_over s (tree.app f x) h = (scoped_over s f h.0, scoped_over s x h.1)
scoped_over s (tree.lam a t) h = let e : length s + 1 ≡ suc (length s) = omega arith in rw e (scoped_over (a ∷ s) t h)
scoped_over s (tree.logic c x y) h = (scoped_over s x h.0, scoped_over s y h.1)
scoped_over s tree.absent h = tt

pub are_formulas : (c : Contents) (hs : List Hyp) → AreClosedFormulas c hs → AreFormulas c (map (λ (h : Hyp). h.term) hs)
are_formulas c [] h = tt
are_formulas c (x ∷ hs) h = (record { within = h.0.within; formula = h.0.formula; closed = scoped_over [] (tree_at c x.term) h.0.closed }, are_formulas c hs h.1)
