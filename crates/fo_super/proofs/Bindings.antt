-- Bindings, and substitutions that obey them.
use Rattle.std.proofs.Common.{ℕ, zero, suc, nat_eq, ◌≡◌, ◌∙◌, ◌+◌, ◌<◌, ◌≤◌, false, List, [], ◌∷◌, ◌++◌, length, take, slice_get, slice_index_or, Some, refl, sym, ap}
use Rattle.std.specs.Bool.{if◌then◌else◌}
use Rattle.std.proofs.lemmas.List.{take_more, take_all}
use Rattle.fo_terms.specs.Terms.{Term, variable}
use Rattle.fo_terms.specs.Substitutions.{Substitution}
use Rattle.fo_text.specs.declared.problem.FoSym.{FoSym}
use Rattle.fo_super.specs.declared.matching.Binding.{Binding}
use Rattle.fo_super.specs.Subsumption.{KeepsSort}
use Rattle.fo_super.specs.Matching.{AreBindings, IsBoundTo, IsUnbound, Obeys}
use Rattle.fo_super.proofs.Answering.{same-number, other-number}

-- bindings one after another
pub obeys-front : (xs ys : List Binding) (s : Substitution) → Obeys (xs ++ ys) s → Obeys xs s
obeys-front [] ys s h = tt
obeys-front (x ∷ xs) ys s h = (h.0, obeys-front xs ys s h.1)

pub obeys-both : (xs ys : List Binding) (s : Substitution) → Obeys xs s → Obeys ys s → Obeys (xs ++ ys) s
obeys-both [] ys s h k = k
obeys-both (x ∷ xs) ys s h k = (h.0, obeys-both xs ys s h.1 k)

pub obeys-back : (xs ys : List Binding) (s : Substitution) → Obeys (xs ++ ys) s → Obeys ys s
obeys-back [] ys s h = h
obeys-back (x ∷ xs) ys s h = obeys-back xs ys s h.1

obeys-at : (bs : List Binding) (s : Substitution) → Obeys bs s → (i : ℕ) (b : Binding) → slice_get bs i ≡ Some b → s b.variable ≡ b.term
obeys-at [] s h i b e = absurd (let f : ⊥ = cc in f)
obeys-at (x ∷ bs) s h zero b e = let f : x ≡ b = cc in rw (← f) h.0
obeys-at (x ∷ bs) s h (suc i) b e = obeys-at bs s h.1 i b e

pub bound-obeyed : (n : ℕ) (t : Term) (bs : List Binding) (s : Substitution) → IsBoundTo n t bs → Obeys bs s → s n ≡ t
bound-obeyed n t bs s h o = ap s (sym h.variable_is) ∙ obeys-at bs s o h.place h.binding h.stands ∙ h.term_is

-- one binding more
pub unbound-last : (n : ℕ) (bs : List Binding) (b : Binding) → IsUnbound n bs → (b.variable ≡ n → ⊥) → IsUnbound n (bs ++ b ∷ [])
unbound-last n [] b h f = (f, tt)
unbound-last n (x ∷ bs) b h f = (h.0, unbound-last n bs b h.1 f)

pub unbound-next : (n : ℕ) (bs : List Binding) (i : ℕ) (b : Binding) → IsUnbound n (take i bs) → i < length bs → b ≡ slice_index_or bs i b → (b.variable ≡ n → ⊥) → IsUnbound n (take (i + 1) bs)
unbound-next n bs i b h l e f =
    let t : take (i + 1) bs ≡ take i bs ++ b ∷ [] = take_more bs i b l ∙ ap (λ z. take i bs ++ z ∷ []) (sym e) in
    rw t (unbound-last n (take i bs) b h f)

pub unbound-whole : (n : ℕ) (bs : List Binding) (i : ℕ) → IsUnbound n (take i bs) → length bs ≤ i → IsUnbound n bs
unbound-whole n bs i h l = rw (take_all i bs l) at h

pub bindings-last : (vars news : List ℕ) (syms : List FoSym) (bs : List Binding) (b : Binding) → AreBindings vars news syms bs → KeepsSort vars news syms b.variable b.term → IsUnbound b.variable bs → AreBindings vars news syms (bs ++ b ∷ [])
bindings-last vars news syms [] b h k u = (k, tt, tt)
bindings-last vars news syms (x ∷ bs) b h k u = (h.0, unbound-last x.variable bs b h.1 (λ e. u.0 (sym e)), bindings-last vars news syms bs b h.2 k u.1)

unbound-at : (n : ℕ) (bs : List Binding) → IsUnbound n bs → (i : ℕ) (b : Binding) → slice_get bs i ≡ Some b → b.variable ≡ n → ⊥
unbound-at n [] h i b e f = cc
unbound-at n (x ∷ bs) h zero b e f = let g : x ≡ b = cc in h.0 (ap (λ (y : Binding). y.variable) g ∙ f)
unbound-at n (x ∷ bs) h (suc i) b e f = unbound-at n bs h.1 i b e f

pub sort-at : (vars news : List ℕ) (syms : List FoSym) (bs : List Binding) → AreBindings vars news syms bs → (i : ℕ) (b : Binding) → slice_get bs i ≡ Some b → KeepsSort vars news syms b.variable b.term
sort-at vars news syms [] h i b e = absurd (let f : ⊥ = cc in f)
sort-at vars news syms (x ∷ bs) h zero b e = let f : x ≡ b = cc in rw (← f) h.0
sort-at vars news syms (x ∷ bs) h (suc i) b e = sort-at vars news syms bs h.2 i b e

-- a substitution that obeys: what each variable is bound to, and else the variable itself
abbrev pub looked_up : List Binding → Substitution
looked_up [] n = variable n
looked_up (b ∷ bs) n = if nat_eq b.variable n then b.term else looked_up bs n

looked_up-found : (vars news : List ℕ) (syms : List FoSym) (bs : List Binding) → AreBindings vars news syms bs → (i : ℕ) (b : Binding) → slice_get bs i ≡ Some b → looked_up bs b.variable ≡ b.term
looked_up-found vars news syms [] h i b e = absurd (let f : ⊥ = cc in f)
looked_up-found vars news syms (x ∷ bs) h zero b e = let f : x ≡ b = cc in rw (f, same-number b.variable) refl
looked_up-found vars news syms (x ∷ bs) h (suc i) b e =
    let f : nat_eq x.variable b.variable ≡ false = other-number x.variable b.variable (λ g. unbound-at x.variable bs h.1 i b e (sym g)) in
    rw f (looked_up-found vars news syms bs h.2 i b e)

obeys-each : (bs : List Binding) (s : Substitution) → ((i : ℕ) (b : Binding) → slice_get bs i ≡ Some b → s b.variable ≡ b.term) → Obeys bs s
obeys-each [] s h = tt
obeys-each (x ∷ bs) s h = (h zero x refl, obeys-each bs s (λ i b e. h (suc i) b e))

pub looked_up-obeys : (vars news : List ℕ) (syms : List FoSym) (bs : List Binding) → AreBindings vars news syms bs → Obeys bs (looked_up bs)
looked_up-obeys vars news syms bs h = obeys-each bs (looked_up bs) (looked_up-found vars news syms bs h)
