-- The forms of a literal with what it becomes are those of the definition, and follow the rows of the rules.
use Rattle.std.proofs.Common.{ℕ, ◌≡◌, Bool, true, false, ◌&&◌, Option, Some, None, refl}
use Rattle.std.specs.Prelude.{is_some, is_none}
use Rattle.std.specs.Bool.{if◌then◌else◌}
use Rattle.leo_terms.specs.Tree.{Tree, variable, bound, symbol, app, lam, logic, absent, Connective, truth, falsity, negation, disjunction, conjunction, implication, equality, universal, existential, choice}
use Rattle.leo_terms.specs.Typing.{IsWellTyped}
use Rattle.leo_clause.specs.Sameness.{same_tree}
use Rattle.leo_clause.specs.Trees.{Literal}
use Rattle.leo_clause.proofs.Same.{equal-trees}
use Rattle.leo_kernel.specs.Choosing.{all_f, some_t}
use Rattle.leo_kernel.specs.Conclusions.{NeverHolds, self_unequal, true_is_false, false_is_true}
use Rattle.leo_kernel.specs.Parts.{value_of}
use Rattle.leo_kernel.specs.Rows.{not_v, or_t, or_f1, or_f2, and_t1, and_t2, and_f, imp_t, imp_f1, imp_f2, eq_t, eq_f, flip, all_t, some_f}
use Rattle.leo_kernel.specs.Shapes.{truth_tree, valued}
use Rattle.leo_kernel.proofs.TakingApart.{value-tree}
use Rattle.leo_clausify.specs.Forms.{one_form, turn, omit, forms_with, forms_about, forms_valued, forms_of, never_holds, are_opposite}
use Rattle.leo_clausify.specs.Ways.{one_way, turned, omitted, ways_with, ways_about, ways_valued, ways_of, forms_in, AreRows}

-- the forms alone
forms-with : (c : Connective) (x y : Tree) (v : Bool) → forms_in (ways_with c x y v) ≡ forms_with c v
forms-with truth x y v = refl
forms-with falsity x y v = refl
forms-with negation x y v = refl
forms-with disjunction x y true = refl
forms-with disjunction x y false = refl
forms-with conjunction x y true = refl
forms-with conjunction x y false = refl
forms-with implication x y true = refl
forms-with implication x y false = refl
forms-with (equality a) x y true = refl
forms-with (equality a) x y false = refl
forms-with (universal a) x y true = refl
forms-with (universal a) x y false = refl
forms-with (existential a) x y true = refl
forms-with (existential a) x y false = refl
forms-with (choice a) x y v = refl

forms-about : (t : Tree) (v : Bool) → forms_in (ways_about t v) ≡ forms_about t v
forms-about (variable n a) v = refl
forms-about (bound i a) v = refl
forms-about (symbol n a) v = refl
forms-about (app f x) v = refl
forms-about (lam a t) v = refl
forms-about (logic c x y) v = forms-with c x y v
forms-about absent v = refl

forms-valued : (p : Bool) (s t : Tree) (o : Option Bool) → forms_in (ways_valued (record { positive = p; left = s; right = t }) o) ≡ forms_valued (record { positive = p; left = s; right = t }) o
forms-valued p s t None = refl
forms-valued true s t (Some v) = forms-about s v
forms-valued false s t (Some v) = refl

forms-first : (l : Literal) (o : Option Bool) (b c : Bool) → forms_in (if b then one_way turned else (if c then one_way omitted else ways_valued l o)) ≡ (if b then one_form turn else (if c then one_form omit else forms_valued l o))
forms-first l o true c = refl
forms-first l o false true = refl
forms-first l o false false = forms-valued l.positive l.left l.right o

pub forms-are : (l : Literal) → forms_in (ways_of l) ≡ forms_of l
forms-are l = forms-first l (value_of l.right) (is_some (value_of l.left) && is_none (value_of l.right)) (never_holds l)

-- each follows a row
rows-with : (next : ℕ) (c : Connective) (x y : Tree) (v : Bool) → IsWellTyped (logic c x y) → AreRows next (valued (logic c x y) v) (ways_with c x y v)
rows-with next truth x y v w = tt
rows-with next falsity x y v w = tt
rows-with next negation x y v w = rw w.2.1 (not_v x v)
rows-with next disjunction x y true w = or_t x y
rows-with next disjunction x y false w = (or_f1 x y, or_f2 x y)
rows-with next conjunction x y true w = (and_t1 x y, and_t2 x y)
rows-with next conjunction x y false w = and_f x y
rows-with next implication x y true w = imp_t x y
rows-with next implication x y false w = (imp_f1 x y, imp_f2 x y)
rows-with next (equality a) x y true w = eq_t a x y
rows-with next (equality a) x y false w = eq_f a x y
rows-with next (universal a) x y true w = rw w.2.1 (all_t a x)
rows-with next (universal a) x y false w = rw w.2.1 (all_f a x)
rows-with next (existential a) x y true w = rw w.2.1 (some_t a x)
rows-with next (existential a) x y false w = rw w.2.1 (some_f a x)
rows-with next (choice a) x y v w = tt

rows-about : (next : ℕ) (t : Tree) (v : Bool) → IsWellTyped t → AreRows next (valued t v) (ways_about t v)
rows-about next (variable n a) v w = tt
rows-about next (bound i a) v w = tt
rows-about next (symbol n a) v w = tt
rows-about next (app f x) v w = tt
rows-about next (lam a t) v w = tt
rows-about next (logic c x y) v w = rows-with next c x y v w
rows-about next absent v w = tt

opposite : (p : Bool) (s t : Tree) (v w : Bool) → p ≡ true → s ≡ truth_tree v → t ≡ truth_tree w → are_opposite (Some v) (Some w) ≡ true → NeverHolds (record { positive = p; left = s; right = t })
opposite p s t true false q e f h = rw (q, e, f) true_is_false
opposite p s t false true q e f h = rw (q, e, f) false_is_true
opposite p s t true true q e f h = (let k : ⊥ = cc in absurd k)
opposite p s t false false q e f h = (let k : ⊥ = cc in absurd k)

rows-valued : (next : ℕ) (p : Bool) (s t : Tree) (v : Bool) → IsWellTyped s → t ≡ truth_tree v → AreRows next (record { positive = p; left = s; right = t }) (ways_valued (record { positive = p; left = s; right = t }) (Some v))
rows-valued next true s t v w e = rw e (rows-about next s v w)
rows-valued next false s t v w e = rw e (flip s v)

rows-negative : (next : ℕ) (s t : Tree) (o : Option Bool) (b : Bool) → same_tree s t ≡ b → IsWellTyped s → ((v : Bool) → o ≡ Some v → t ≡ truth_tree v) → AreRows next (record { positive = false; left = s; right = t }) (if b then one_way omitted else ways_valued (record { positive = false; left = s; right = t }) o)
rows-negative next s t o true e w f = rw (equal-trees s t e) (self_unequal t)
rows-negative next s t None false e w f = tt
rows-negative next s t (Some v) false e w f = rows-valued next false s t v w (f v refl)

rows-positive : (next : ℕ) (s t : Tree) (o u : Option Bool) (b : Bool) → are_opposite o u ≡ b → IsWellTyped s → ((v : Bool) → o ≡ Some v → s ≡ truth_tree v) → ((v : Bool) → u ≡ Some v → t ≡ truth_tree v) → AreRows next (record { positive = true; left = s; right = t }) (if b then one_way omitted else ways_valued (record { positive = true; left = s; right = t }) u)
rows-positive next s t None u true e w f g = (let k : ⊥ = cc in absurd k)
rows-positive next s t (Some v) None true e w f g = (let k : ⊥ = cc in absurd k)
rows-positive next s t (Some v) (Some x) true e w f g = opposite true s t v x refl (f v refl) (g x refl) e
rows-positive next s t o None false e w f g = tt
rows-positive next s t o (Some x) false e w f g = rows-valued next true s t x w (g x refl)

rows-signed : (next : ℕ) (p : Bool) (s t : Tree) (o u : Option Bool) → IsWellTyped s → ((v : Bool) → o ≡ Some v → s ≡ truth_tree v) → ((v : Bool) → u ≡ Some v → t ≡ truth_tree v) → AreRows next (record { positive = p; left = s; right = t }) (if (if p then are_opposite o u else same_tree s t) then one_way omitted else ways_valued (record { positive = p; left = s; right = t }) u)
rows-signed next true s t o u w f g = rows-positive next s t o u (are_opposite o u) refl w f g
rows-signed next false s t o u w f g = rows-negative next s t u (same_tree s t) refl w g

rows-first : (next : ℕ) (p : Bool) (s t : Tree) (o u : Option Bool) (b : Bool) → IsWellTyped s → ((v : Bool) → o ≡ Some v → s ≡ truth_tree v) → ((v : Bool) → u ≡ Some v → t ≡ truth_tree v) → AreRows next (record { positive = p; left = s; right = t }) (if b then one_way turned else (if (if p then are_opposite o u else same_tree s t) then one_way omitted else ways_valued (record { positive = p; left = s; right = t }) u))
rows-first next p s t o u true w f g = tt
rows-first next p s t o u false w f g = rows-signed next p s t o u w f g

pub rows-are : (next : ℕ) (l : Literal) → IsWellTyped l.left → IsWellTyped l.right → AreRows next l (ways_of l)
rows-are next l w u =
    rows-first next l.positive l.left l.right (value_of l.left) (value_of l.right) (is_some (value_of l.left) && is_none (value_of l.right)) w (λ v e. value-tree l.left v w e) (λ v e. value-tree l.right v u e)
