-- How a literal about a truth value is taken apart.
use Rattle.std.specs.Prelude.{ℕ, Bool, true, false, not, List, [], ◌∷◌}
use Rattle.leo_q0.specs.Terms.{SimpleType}
use Rattle.leo_terms.specs.Tree.{Tree, variable, app}
use Rattle.leo_clause.specs.declared.record.LogicKind.{LogicKind}
use Rattle.leo_clause.specs.declared.record.LogicKind.TheVariants.{Not, OrT, OrF1, OrF2, AndT1, AndT2, AndF, ImpT, ImpF1, ImpF2, EqT, EqF, Flip, AllT, SomeF}
use Rattle.leo_clause.specs.Trees.{Literal}
use Rattle.leo_kernel.specs.Shapes.{truth_tree, not_tree, or_tree, and_tree, imp_tree, eq_tree, all_tree, some_tree, equal, unequal, valued}

-- in a clause of `next` variables the literal becomes these literals, with a fresh variable of each of these types
pub data TakesApart (next : ℕ) : LogicKind → Literal → List SimpleType → List Literal → Type 0 where
  not_v : (a : Tree) (v : Bool) → TakesApart next Not (valued (not_tree a) v) [] (valued a (not v) ∷ [])
  or_t : (a b : Tree) → TakesApart next OrT (valued (or_tree a b) true) [] (valued a true ∷ valued b true ∷ [])
  or_f1 : (a b : Tree) → TakesApart next OrF1 (valued (or_tree a b) false) [] (valued a false ∷ [])
  or_f2 : (a b : Tree) → TakesApart next OrF2 (valued (or_tree a b) false) [] (valued b false ∷ [])
  and_t1 : (a b : Tree) → TakesApart next AndT1 (valued (and_tree a b) true) [] (valued a true ∷ [])
  and_t2 : (a b : Tree) → TakesApart next AndT2 (valued (and_tree a b) true) [] (valued b true ∷ [])
  and_f : (a b : Tree) → TakesApart next AndF (valued (and_tree a b) false) [] (valued a false ∷ valued b false ∷ [])
  imp_t : (a b : Tree) → TakesApart next ImpT (valued (imp_tree a b) true) [] (valued a false ∷ valued b true ∷ [])
  imp_f1 : (a b : Tree) → TakesApart next ImpF1 (valued (imp_tree a b) false) [] (valued a true ∷ [])
  imp_f2 : (a b : Tree) → TakesApart next ImpF2 (valued (imp_tree a b) false) [] (valued b false ∷ [])
  eq_t : (c : SimpleType) (s t : Tree) → TakesApart next EqT (valued (eq_tree c s t) true) [] (equal s t ∷ [])
  eq_f : (c : SimpleType) (s t : Tree) → TakesApart next EqF (valued (eq_tree c s t) false) [] (unequal s t ∷ [])
  flip : (a : Tree) (v : Bool) → TakesApart next Flip (unequal a (truth_tree v)) [] (valued a (not v) ∷ [])
  all_t : (c : SimpleType) (p : Tree) → TakesApart next AllT (valued (all_tree c p) true) (c ∷ []) (valued (app p (variable next c)) true ∷ [])
  some_f : (c : SimpleType) (p : Tree) → TakesApart next SomeF (valued (some_tree c p) false) (c ∷ []) (valued (app p (variable next c)) false ∷ [])
