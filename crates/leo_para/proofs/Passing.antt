-- Where no heads meet, nothing is due.
use Rattle.std.proofs.Common.{ℕ, suc, ◌≡◌, Bool, true, false, List, [], ◌∷◌, ◌++◌, map, refl, if◌then◌else◌}
use Rattle.std.specs.Bool.{OnFalse}
use Rattle.std.specs.List.{flat_map}
use Rattle.leo_terms.specs.Tree.{Tree, variable, bound, symbol, app, lam, logic, absent}
use Rattle.leo_terms.specs.Typing.{IsPresent}
use Rattle.leo_clause.specs.declared.record.Side.{Side}
use Rattle.leo_clause.specs.declared.record.Side.TheVariants.{Left, Right}
use Rattle.leo_clause.specs.Trees.{Literal}
use Rattle.leo_kernel.specs.Shapes.{side_of}
use Rattle.leo_para.specs.Spines.{Top, head, top, tops_meet}
use Rattle.leo_para.specs.Places.{Place, argument_places, below_child, places, whole}
use Rattle.leo_para.specs.Members.{Member, each_literal, is_formula, member_at, members_of_target}
use Rattle.leo_para.specs.Meeting.{ArePassedOver, GiveNothing, GivesNothing, IsPassedOver, MeetsNone, MeetsNoneInside}

inside-children : (h : Top) (n : ℕ) (ps : List Place) → MeetsNoneInside h ps → MeetsNoneInside h (map (below_child n) ps)
inside-children h n [] m = tt
inside-children h n (p ∷ ps) m = (m.0, inside-children h n ps m.1)

inside-both : (h : Top) (ps qs : List Place) → MeetsNoneInside h ps → MeetsNoneInside h qs → MeetsNoneInside h (ps ++ qs)
inside-both h [] qs m k = k
inside-both h (p ∷ ps) qs m k = (m.0, inside-both h ps qs m.1 k)

-- the places of two children
pub children : (h : Top) (ps qs : List Place) → MeetsNoneInside h ps → MeetsNoneInside h qs → MeetsNoneInside h (map (below_child 0) ps ++ map (below_child 1) qs)
children h ps qs m k = inside-both h (map (below_child 0) ps) (map (below_child 1) qs) (inside-children h 0 ps m) (inside-children h 1 qs k)

none-first : (h : Top) (n : ℕ) (ps qs : List Place) → MeetsNoneInside h (map (below_child n) ps ++ qs) → (MeetsNoneInside h qs → MeetsNone h qs) → MeetsNone h (map (below_child n) ps ++ qs)
none-first h n [] qs m rest = rest m
none-first h n (p ∷ ps) qs m rest = (m.0, none-first h n ps qs m.1 rest)

none-children : (h : Top) (ps qs : List Place) → MeetsNoneInside h (map (below_child 0) ps ++ map (below_child 1) qs) → MeetsNone h (map (below_child 0) ps ++ map (below_child 1) qs)
none-children h ps qs m = none-first h 0 ps (map (below_child 1) qs) m (last qs)
  where
    last : (rs : List Place) → MeetsNoneInside h (map (below_child 1) rs) → MeetsNone h (map (below_child 1) rs)
    last [] k = tt
    last (r ∷ rs) k = (k.0, last rs k.1)

none-arguments : (h : Top) (t : Tree) → MeetsNoneInside h (argument_places t) → MeetsNone h (argument_places t)
none-arguments h (app f x) m = none-children h (argument_places f) (whole x ++ argument_places x) m
none-arguments h (logic c x y) m = none-children h (whole x ++ argument_places x) (whole y ++ argument_places y) m
none-arguments h (variable n a) m = tt
none-arguments h (bound i a) m = tt
none-arguments h (symbol s a) m = tt
none-arguments h (lam a t) m = tt
none-arguments h absent m = tt

-- a term that is an argument, with its arguments
pub inside-whole : (h : Top) (t : Tree) → IsPresent t → tops_meet false h (top (head t)) ≡ false → MeetsNoneInside h (argument_places t) → MeetsNoneInside h (places t)
inside-whole h (variable n a) p e m = (e, m)
inside-whole h (bound i a) p e m = (e, m)
inside-whole h (symbol s a) p e m = (e, m)
inside-whole h (app f x) p e m = (e, m)
inside-whole h (lam a t) p e m = (e, m)
inside-whole h (logic c x y) p e m = (e, m)
inside-whole h absent p e m = absurd p

-- a whole side, with its arguments
pub none-whole : (h : Top) (t : Tree) → IsPresent t → tops_meet true h (top (head t)) ≡ false → MeetsNoneInside h (argument_places t) → MeetsNone h (places t)
none-whole h (variable n a) p e m = (e, none-arguments h (variable n a) m)
none-whole h (bound i a) p e m = (e, none-arguments h (bound i a) m)
none-whole h (symbol s a) p e m = (e, none-arguments h (symbol s a) m)
none-whole h (app f x) p e m = (e, none-arguments h (app f x) m)
none-whole h (lam a t) p e m = (e, none-arguments h (lam a t) m)
none-whole h (logic c x y) p e m = (e, none-arguments h (logic c x y) m)
none-whole h absent p e m = absurd p

no-members : (i : ℕ) (l : Literal) (s : Side) (j : ℕ) (k : Literal) (r : Side) (ps : List Place) → MeetsNone (top (head (side_of s l))) ps → flat_map (member_at i l s j k r) ps ≡ []
no-members i l s j k r [] m = refl
no-members i l s j k r (p ∷ ps) m = rw m.0 (no-members i l s j k r ps m.1)

two-sides : (b : Bool) (f : Side → List Member) → f Left ≡ [] → f Right ≡ [] → flat_map f (if b then (Left ∷ []) else (Left ∷ Right ∷ [])) ≡ []
two-sides true f e g = rw e refl
two-sides false f e g = rw (e, g) refl

one-side : (b : Bool) (f : Side → List Member) → b ≡ true → f Left ≡ [] → flat_map f (if b then (Left ∷ []) else (Left ∷ Right ∷ [])) ≡ []
one-side b f h e = rw (h, e) refl

-- a literal in which neither side has such a place
pub passed-both : (h : Top) (k : Literal) → MeetsNone h (places k.left) → MeetsNone h (places k.right) → IsPassedOver h k
passed-both h k m n i l s j e =
    two-sides (is_formula k) (λ r. flat_map (member_at i l s j k r) (places (side_of r k)))
    (no-members i l s j k Left (places k.left) (rw e at m)) (no-members i l s j k Right (places k.right) (rw e at n))

-- a formula literal whose left side has none
pub passed-formula : (h : Top) (k : Literal) → MeetsNone h (places k.left) → is_formula k ≡ true → IsPassedOver h k
passed-formula h k m f i l s j e =
    one-side (is_formula k) (λ r. flat_map (member_at i l s j k r) (places (side_of r k))) f (no-members i l s j k Left (places k.left) (rw e at m))

pub passed-more : (h : Top) (k : Literal) (ks : List Literal) → IsPassedOver h k → ArePassedOver h ks → ArePassedOver h (k ∷ ks)
passed-more h k ks p ps i l s j e = rw (p i l s j e, ps i l s (suc j) e) refl

-- a literal that is no equation, one of which both sides are looked for nowhere, and a formula literal
pub gives-negative : (l : Literal) (ks : List Literal) → l.positive ≡ false → GivesNothing l ks
gives-negative l ks e i = rw e refl

either-sign : (b : Bool) (ms : List Member) → ms ≡ [] → (if b then ms else []) ≡ []
either-sign true ms e = e
either-sign false ms e = refl

pub gives-both : (l : Literal) (ks : List Literal) → ArePassedOver (top (head l.left)) ks → ArePassedOver (top (head l.right)) ks → GivesNothing l ks
gives-both l ks p q i =
    either-sign l.positive _ (two-sides (is_formula l) (λ s. each_literal (members_of_target i l s) 0 ks) (p i l Left 0 refl) (q i l Right 0 refl))

pub gives-formula : (l : Literal) (ks : List Literal) → ArePassedOver (top (head l.left)) ks → is_formula l ≡ true → GivesNothing l ks
gives-formula l ks p f i =
    either-sign l.positive _ (one-side (is_formula l) (λ s. each_literal (members_of_target i l s) 0 ks) f (p i l Left 0 refl))

pub on-false : {P Q : Type 0} (b : Bool) → (P → Q) → OnFalse b P → OnFalse b Q
on-false true f p = tt
on-false false f p = f p

pub given-more : (l : Literal) (ls ks : List Literal) → GivesNothing l ks → GiveNothing ls ks → GiveNothing (l ∷ ls) ks
given-more l ls ks p ps i = rw (p i, ps (suc i)) refl
