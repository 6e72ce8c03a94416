-- A term with another one at a place: where no lambda stands above the place, the same place of the decoded term changes.
use Rattle.std.proofs.Common.{◌≡◌, ℕ, zero, suc, Bool, true, false, List, [], ◌∷◌, Option, Some, None, refl, sym, subst}
use Rattle.std.specs.Option.{option_and_then}
use Rattle.leo_q0.specs.Terms.{Term, identity, choice as q_choice, apply}
use Rattle.leo_q0.specs.Connectives.{not_term, or_term, and_term, imp_term, all_term, some_term}
use Rattle.leo_terms.specs.Tree.{Tree, variable, bound, symbol, app, lam, logic, absent, Connective, truth, falsity, negation, disjunction, conjunction, implication, equality, universal, existential, choice}
use Rattle.leo_terms.specs.Typing.{IsWellTyped, IsPresent, TakesTrees}
use Rattle.leo_terms.specs.Decode.{decoded, connected}
use Rattle.leo_clause.specs.Formulas.{signed}
use Rattle.leo_kernel.specs.Places.{present, subterm, replaced_at}
use Rattle.leo_simulation.proofs.Congruence.{Swaps, here, in_function, in_argument}

some_value : {x y : Tree} → Some x ≡ Some y → x ≡ y
some_value e = cc

present_is : (x u : Tree) → present x ≡ Some u → (x ≡ u) × IsPresent x
present_is absent u e = cc
present_is (variable n a) u e = (some_value e, tt)
present_is (bound i a) u e = (some_value e, tt)
present_is (symbol n a) u e = (some_value e, tt)
present_is (app f x) u e = (some_value e, tt)
present_is (lam a t) u e = (some_value e, tt)
present_is (logic c x y) u e = (some_value e, tt)

not_present : (x : Tree) → x ≡ absent → IsPresent x → ⊥
not_present x e p = subst IsPresent e p

module _ {S R : Term} where
  first_swaps : (c : Connective) (x y : Tree) (s t u : Term) → TakesTrees c x y → IsPresent x → Swaps S R s u → Swaps S R (connected c s t) (connected c u t)
  first_swaps truth x y s t u h p r = absurd (not_present x h.0 p)
  first_swaps falsity x y s t u h p r = absurd (not_present x h.0 p)
  first_swaps negation x y s t u h p r = in_argument not_term r
  first_swaps disjunction x y s t u h p r = in_function t (in_argument or_term r)
  first_swaps conjunction x y s t u h p r = in_function t (in_argument and_term r)
  first_swaps implication x y s t u h p r = in_function t (in_argument imp_term r)
  first_swaps (equality a) x y s t u h p r = in_function t (in_argument (identity a) r)
  first_swaps (universal a) x y s t u h p r = in_argument (all_term a) r
  first_swaps (existential a) x y s t u h p r = in_argument (some_term a) r
  first_swaps (choice a) x y s t u h p r = in_argument (q_choice a) r

  second_swaps : (c : Connective) (x y : Tree) (s t u : Term) → TakesTrees c x y → IsPresent y → Swaps S R t u → Swaps S R (connected c s t) (connected c s u)
  second_swaps truth x y s t u h p r = absurd (not_present y h.1 p)
  second_swaps falsity x y s t u h p r = absurd (not_present y h.1 p)
  second_swaps negation x y s t u h p r = absurd (not_present y h.1 p)
  second_swaps disjunction x y s t u h p r = in_argument (apply or_term s) r
  second_swaps conjunction x y s t u h p r = in_argument (apply and_term s) r
  second_swaps implication x y s t u h p r = in_argument (apply imp_term s) r
  second_swaps (equality a) x y s t u h p r = in_argument (apply (identity a) s) r
  second_swaps (universal a) x y s t u h p r = absurd (not_present y h.1 p)
  second_swaps (existential a) x y s t u h p r = absurd (not_present y h.1 p)
  second_swaps (choice a) x y s t u h p r = absurd (not_present y h.1 p)

  pub signed_swaps : (b : Bool) {s t : Term} → Swaps S R s t → Swaps S R (signed b s) (signed b t)
  signed_swaps true r = r
  signed_swaps false r = in_argument not_term r

-- the occurrence at a path
pub path_swaps : (n : ℕ) (path : List ℕ) (r t s : Tree) → IsWellTyped t → subterm path t ≡ Some s → Swaps (decoded n s) (decoded n r) (decoded n t) (decoded n (replaced_at path r t))
path_swaps n [] r t s w e = subst (λ u. Swaps (decoded n s) (decoded n r) (decoded n u) (decoded n r)) (sym (some_value e)) here
path_swaps n (zero ∷ path) r (app f x) s w e = in_function (decoded n x) (path_swaps n path r f s w.0 e)
path_swaps n (suc zero ∷ path) r (app f x) s w e = in_argument (decoded n f) (path_swaps n path r x s w.1 e)
path_swaps n (suc (suc m) ∷ path) r (app f x) s w e = cc
path_swaps n (zero ∷ path) r (logic c x y) s w e = go (present x) refl e (path_swaps n path r x s w.0)
  where
    go : (o : Option Tree) → present x ≡ o → option_and_then (subterm path) o ≡ Some s →
        (subterm path x ≡ Some s → Swaps (decoded n s) (decoded n r) (decoded n x) (decoded n (replaced_at path r x))) →
        Swaps (decoded n s) (decoded n r) (decoded n (logic c x y)) (decoded n (logic c (replaced_at path r x) y))
    go None k e inner = cc
    go (Some u) k e inner = let p = present_is x u k in first_swaps c x y (decoded n x) (decoded n y) (decoded n (replaced_at path r x)) w.2 p.1 (inner (rw p.0 e))
path_swaps n (suc zero ∷ path) r (logic c x y) s w e = go (present y) refl e (path_swaps n path r y s w.1)
  where
    go : (o : Option Tree) → present y ≡ o → option_and_then (subterm path) o ≡ Some s →
        (subterm path y ≡ Some s → Swaps (decoded n s) (decoded n r) (decoded n y) (decoded n (replaced_at path r y))) →
        Swaps (decoded n s) (decoded n r) (decoded n (logic c x y)) (decoded n (logic c x (replaced_at path r y)))
    go None k e inner = cc
    go (Some u) k e inner = let p = present_is y u k in second_swaps c x y (decoded n x) (decoded n y) (decoded n (replaced_at path r y)) w.2 p.1 (inner (rw p.0 e))
path_swaps n (suc (suc m) ∷ path) r (logic c x y) s w e = cc
path_swaps n (m ∷ path) r (variable v a) s w e = cc
path_swaps n (m ∷ path) r (bound i a) s w e = cc
path_swaps n (m ∷ path) r (symbol v a) s w e = cc
path_swaps n (m ∷ path) r (lam a t) s w e = cc
path_swaps n (m ∷ path) r absent s w e = cc
