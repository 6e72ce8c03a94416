-- Each place of a term is at its path.
use Rattle.std.proofs.Common.{ℕ, ◌≡◌, ◌∙◌, List, [], ◌++◌, map, Some, refl, sym, ap, subst, inl, inr}
use Rattle.std.specs.Option.{option_and_then}
use Rattle.leo_terms.specs.Tree.{Tree, variable, bound, symbol, app, lam, logic, absent}
use Rattle.leo_kernel.specs.Places.{child, present, subterm}
use Rattle.leo_para.specs.Places.{Place, argument_places, below_child, places, whole}
use Rattle.leo_para.proofs.Finding.{IsIn, in-append, in-map}

abbrev Leads : Tree → Place → Type 0
Leads t p = subterm p.path t ≡ Some p.term

at-whole : (t : Tree) (p : Place) → p ≡ record { path = []; term = t } → Leads t p
at-whole t p e = subst (Leads t) (sym e) refl

whole-leads : (t : Tree) (p : Place) → IsIn p (whole t) → Leads t p
whole-leads (variable n a) p (inl e) = at-whole (variable n a) p e
whole-leads (variable n a) p (inr h) = absurd h
whole-leads (bound i a) p (inl e) = at-whole (bound i a) p e
whole-leads (bound i a) p (inr h) = absurd h
whole-leads (symbol s a) p (inl e) = at-whole (symbol s a) p e
whole-leads (symbol s a) p (inr h) = absurd h
whole-leads (app f x) p (inl e) = at-whole (app f x) p e
whole-leads (app f x) p (inr h) = absurd h
whole-leads (lam a t) p (inl e) = at-whole (lam a t) p e
whole-leads (lam a t) p (inr h) = absurd h
whole-leads (logic c x y) p (inl e) = at-whole (logic c x y) p e
whole-leads (logic c x y) p (inr h) = absurd h
whole-leads absent p h = absurd h

-- where there is a place, a term stands there
stands : (x : Tree) (p : Place) → IsIn p (places x) → present x ≡ Some x
stands (variable n a) p h = refl
stands (bound i a) p h = refl
stands (symbol s a) p h = refl
stands (app f x) p h = refl
stands (lam a t) p h = refl
stands (logic c x y) p h = refl
stands absent p h = absurd h

below : (n : ℕ) (t x : Tree) (p q : Place) → child n t ≡ Some x → p ≡ below_child n q → Leads x q → Leads t p
below n t x p q e f h = subst (Leads t) (sym f) (ap (option_and_then (subterm q.path)) e ∙ h)

both : (t : Tree) (p : Place) → (IsIn p (argument_places t) → Leads t p) → IsIn p (places t) → Leads t p
both t p rest h = elim (in-append p (whole t) (argument_places t) h) [ inl g ↦ whole-leads t p g | inr g ↦ rest g ]

arguments-lead : (t : Tree) (p : Place) → IsIn p (argument_places t) → Leads t p
arguments-lead (app f x) p h =
    elim (in-append p (map (below_child 0) (argument_places f)) (map (below_child 1) (whole x ++ argument_places x)) h) [
      | inl g ↦ (let r = in-map (below_child 0) (argument_places f) p g in below 0 (app f x) f p r.item refl r.image (arguments-lead f r.item r.among))
      | inr g ↦ (let r = in-map (below_child 1) (whole x ++ argument_places x) p g in below 1 (app f x) x p r.item refl r.image (both x r.item (arguments-lead x r.item) r.among))
    ]
arguments-lead (logic c x y) p h =
    elim (in-append p (map (below_child 0) (whole x ++ argument_places x)) (map (below_child 1) (whole y ++ argument_places y)) h) [
      | inl g ↦ (let r = in-map (below_child 0) (whole x ++ argument_places x) p g in below 0 (logic c x y) x p r.item (stands x r.item r.among) r.image (both x r.item (arguments-lead x r.item) r.among))
      | inr g ↦ (let r = in-map (below_child 1) (whole y ++ argument_places y) p g in below 1 (logic c x y) y p r.item (stands y r.item r.among) r.image (both y r.item (arguments-lead y r.item) r.among))
    ]
arguments-lead (variable n a) p h = absurd h
arguments-lead (bound i a) p h = absurd h
arguments-lead (symbol s a) p h = absurd h
arguments-lead (lam a t) p h = absurd h
arguments-lead absent p h = absurd h

pub places-lead : (t : Tree) (path : List ℕ) (s : Tree) → IsIn (record { path = path; term = s }) (places t) → subterm path t ≡ Some s
places-lead t path s h = both t (record { path = path; term = s }) (arguments-lead t (record { path = path; term = s })) h
