-- Bindings, and terms that obey them.
use Rattle.std.proofs.Common.{ℕ, zero, suc, nat_eq, ◌≡◌, ◌∙◌, ◌+◌, Bool, true, false, List, [], ◌∷◌, ◌++◌, slice_get, Some, refl, sym, ap, arith}
use Rattle.std.specs.Bool.{if◌then◌else◌}
use Rattle.leo_q0.specs.Terms.{SimpleType}
use Rattle.leo_terms.specs.Tree.{Tree, variable}
use Rattle.leo_terms.specs.Contents.{Contents, tree_at}
use Rattle.leo_keep.specs.declared.matching.Binding.{Binding}
use Rattle.leo_keep.specs.Subsumption.{MayReplace, AreReplacements}
use Rattle.leo_keep.specs.Matching.{AreBindings, IsBinding, IsBoundTo, IsUnbound, Obey}
use Rattle.leo_keep.proofs.Numbers.{same-number, other-number, same-item}
use Rattle.leo_keep.proofs.Replacements.{replaces-variable}

-- bindings one after another
pub obey-front : (c : Contents) (xs ys : List Binding) (terms : List Tree) → Obey c (xs ++ ys) terms → Obey c xs terms
obey-front c [] ys terms h = tt
obey-front c (x ∷ xs) ys terms h = (h.0, obey-front c xs ys terms h.1)

pub obey-both : (c : Contents) (xs ys : List Binding) (terms : List Tree) → Obey c xs terms → Obey c ys terms → Obey c (xs ++ ys) terms
obey-both c [] ys terms h k = k
obey-both c (x ∷ xs) ys terms h k = (h.0, obey-both c xs ys terms h.1 k)

pub obey-back : (c : Contents) (xs ys : List Binding) (terms : List Tree) → Obey c (xs ++ ys) terms → Obey c ys terms
obey-back c [] ys terms h = h
obey-back c (x ∷ xs) ys terms h = obey-back c xs ys terms h.1

pub obey-at : (c : Contents) (bs : List Binding) (terms : List Tree) → Obey c bs terms → (i : ℕ) (b : Binding) → slice_get bs i ≡ Some b → slice_get terms b.variable ≡ Some (tree_at c b.term)
obey-at c [] terms h i b e = absurd (let f : ⊥ = cc in f)
obey-at c (x ∷ bs) terms h zero b e = let f : x ≡ b = cc in rw (← f) h.0
obey-at c (x ∷ bs) terms h (suc i) b e = obey-at c bs terms h.1 i b e

obey-each : (c : Contents) (bs : List Binding) (terms : List Tree) → ((i : ℕ) (b : Binding) → slice_get bs i ≡ Some b → slice_get terms b.variable ≡ Some (tree_at c b.term)) → Obey c bs terms
obey-each c [] terms h = tt
obey-each c (x ∷ bs) terms h = (h zero x refl, obey-each c bs terms (λ i b e. h (suc i) b e))

pub bound-obeyed : (c : Contents) (n t : ℕ) (bs : List Binding) (terms : List Tree) → IsBoundTo n t bs → Obey c bs terms → slice_get terms n ≡ Some (tree_at c t)
bound-obeyed c n t bs terms h o = rw (h.variable_is, h.term_is) at (obey-at c bs terms o h.place h.binding h.stands)

-- one binding more
pub unbound-last : (n : ℕ) (bs : List Binding) (b : Binding) → IsUnbound n bs → (b.variable ≡ n → ⊥) → IsUnbound n (bs ++ b ∷ [])
unbound-last n [] b h f = (f, tt)
unbound-last n (x ∷ bs) b h f = (h.0, unbound-last n bs b h.1 f)

pub bindings-last : (c : Contents) (variables : List SimpleType) (bs : List Binding) (b : Binding) → AreBindings c variables bs → IsBinding c variables b → IsUnbound b.variable bs → AreBindings c variables (bs ++ b ∷ [])
bindings-last c variables [] b h k u = (k, tt, tt)
bindings-last c variables (x ∷ bs) b h k u = (h.0, unbound-last x.variable bs b h.1 (λ e. u.0 (sym e)), bindings-last c variables bs b h.2 k u.1)

unbound-at : (n : ℕ) (bs : List Binding) → IsUnbound n bs → (i : ℕ) (b : Binding) → slice_get bs i ≡ Some b → b.variable ≡ n → ⊥
unbound-at n [] h i b e f = cc
unbound-at n (x ∷ bs) h zero b e f = let g : x ≡ b = cc in h.0 (ap (λ (y : Binding). y.variable) g ∙ f)
unbound-at n (x ∷ bs) h (suc i) b e f = unbound-at n bs h.1 i b e f

-- terms that obey: what each variable is bound to, and else the variable itself
abbrev looked_up : Contents → ℕ → SimpleType → List Binding → Tree
looked_up c n a [] = variable n a
looked_up c n a (b ∷ bs) = if nat_eq b.variable n then tree_at c b.term else looked_up c n a bs

abbrev pub completed : Contents → List Binding → ℕ → List SimpleType → List Tree
completed c bs n [] = []
completed c bs n (a ∷ variables) = looked_up c n a bs ∷ completed c bs (suc n) variables

completed-at : (c : Contents) (bs : List Binding) (n : ℕ) (variables : List SimpleType) (i m : ℕ) (a : SimpleType) → m ≡ n + i → slice_get variables i ≡ Some a → slice_get (completed c bs n variables) i ≡ Some (looked_up c m a bs)
completed-at c bs n [] i m a e f = absurd (let g : ⊥ = cc in g)
completed-at c bs n (b ∷ variables) zero m a e f = let g : b ≡ a = cc in let k : m ≡ n = omega arith in rw (g, k) refl
completed-at c bs n (b ∷ variables) (suc i) m a e f = completed-at c bs (suc n) variables i m a (omega arith) f

looked_up-found : (c : Contents) (variables : List SimpleType) (bs : List Binding) (a : SimpleType) → AreBindings c variables bs → (i : ℕ) (b : Binding) → slice_get bs i ≡ Some b → looked_up c b.variable a bs ≡ tree_at c b.term
looked_up-found c variables [] a h i b e = absurd (let f : ⊥ = cc in f)
looked_up-found c variables (x ∷ bs) a h zero b e = let f : x ≡ b = cc in rw (f, same-number b.variable) refl
looked_up-found c variables (x ∷ bs) a h (suc i) b e =
    let f : nat_eq x.variable b.variable ≡ false = other-number x.variable b.variable (λ g. unbound-at x.variable bs h.1 i b e (sym g)) in
    rw f (looked_up-found c variables bs a h.2 i b e)

looked_up-by : (c : Contents) (n : ℕ) (a : SimpleType) (b : Binding) (bs : List Binding) (r : Bool) → (r ≡ true → MayReplace a (tree_at c b.term)) → MayReplace a (looked_up c n a bs) → MayReplace a (if r then tree_at c b.term else looked_up c n a bs)
looked_up-by c n a b bs true f h = f refl
looked_up-by c n a b bs false f h = h

looked_up-replaces : (c : Contents) (variables : List SimpleType) (bs : List Binding) → AreBindings c variables bs → (n : ℕ) (a : SimpleType) → slice_get variables n ≡ Some a → MayReplace a (looked_up c n a bs)
looked_up-replaces c variables [] h n a e = replaces-variable a n
looked_up-replaces c variables (b ∷ bs) h n a e =
    looked_up-by c n a b bs (nat_eq b.variable n)
    (λ t. let f : b.variable ≡ n = equal b.variable n t in let g : slice_get variables n ≡ Some h.0.ty = rw f at h.0.declared in let k : h.0.ty ≡ a = same-item (slice_get variables n) h.0.ty a g e in rw (← k) h.0.may_replace)
    (looked_up-replaces c variables bs h.2 n a e)
  where
    equal : (m n : ℕ) → nat_eq m n ≡ true → m ≡ n
    equal m n t = Rattle.leo_keep.proofs.Numbers.equal-numbers m n t

completed-replace : (c : Contents) (whole : List SimpleType) (bs : List Binding) → AreBindings c whole bs → (n : ℕ) (variables : List SimpleType) → ((i m : ℕ) (a : SimpleType) → m ≡ n + i → slice_get variables i ≡ Some a → slice_get whole m ≡ Some a) → AreReplacements variables (completed c bs n variables)
completed-replace c whole bs h n [] at = tt
completed-replace c whole bs h n (a ∷ variables) at = (
  looked_up-replaces c whole bs h n a (at zero n a (omega arith) refl),
  completed-replace c whole bs h (suc n) variables (λ i m b e f. at (suc i) m b (omega arith) f),
)

pub completed-replacements : (c : Contents) (variables : List SimpleType) (bs : List Binding) → AreBindings c variables bs → AreReplacements variables (completed c bs 0 variables)
completed-replacements c variables bs h = completed-replace c variables bs h 0 variables (λ i m a e f. let g : m ≡ i = omega arith in rw g f)

pub binding-at : (c : Contents) (variables : List SimpleType) (bs : List Binding) → AreBindings c variables bs → (i : ℕ) (b : Binding) → slice_get bs i ≡ Some b → IsBinding c variables b
binding-at c variables [] h i b e = absurd (let f : ⊥ = cc in f)
binding-at c variables (x ∷ bs) h zero b e = let f : x ≡ b = cc in rw (← f) h.0
binding-at c variables (x ∷ bs) h (suc i) b e = binding-at c variables bs h.2 i b e

pub completed-obey : (c : Contents) (variables : List SimpleType) (bs : List Binding) → AreBindings c variables bs → Obey c bs (completed c bs 0 variables)
completed-obey c variables bs h =
    obey-each c bs (completed c bs 0 variables) (λ i b e.
    let k = binding-at c variables bs h i b e in
    completed-at c bs 0 variables b.variable b.variable k.ty (omega arith) k.declared ∙ ap Some (looked_up-found c variables bs k.ty h i b e))
