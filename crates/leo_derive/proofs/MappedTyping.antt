-- With other numbers for its symbols a term is typed as before.
use Rattle.std.proofs.Common.{ℕ, ◌≡◌, ◌+◌, List, [], ◌∷◌, map, refl, ◌∙◌, ap, ap₂}
use Rattle.std.specs.Prelude.{slice_get, Option, Some, None}
use Rattle.std.specs.Option.{option_map}
use Rattle.std.proofs.lemmas.Option.{slice_get-map}
use Rattle.leo_q0.specs.Terms.{SimpleType}
use Rattle.leo_terms.specs.Tree.{Tree, variable, bound, symbol, app, lam, logic, absent, Connective, truth, falsity, negation, disjunction, conjunction, implication, equality, universal, existential, choice, IsBoundAt, IsOfTypeIfGiven, IsGiven}
use Rattle.leo_terms.specs.Typing.{IsPresent, IsPresentOf, TakesTrees, IsWellTyped}
use Rattle.leo_clause.specs.Trees.{Literal}
use Rattle.leo_clause.specs.Typed.{IsOver, AreTyped}
use Rattle.leo_clause.specs.Renaming.{AreGiven}
use Rattle.leo_kernel.specs.Conditions.{AreTermsFor, HaveOneHeadType}
use Rattle.leo_kernel.specs.Choosing.{applied_to, IsVariableOf, AreVariablesOf}
use Rattle.leo_derive.specs.Renaming.{symbols_mapped, literal_mapped}
use Rattle.leo_derive.proofs.MappedTerms.{mapped-type}

pub present-mapped : (r : ℕ → ℕ) (t : Tree) → IsPresent t → IsPresent (symbols_mapped r t)
present-mapped r (variable n a) h = h
present-mapped r (bound i a) h = h
present-mapped r (symbol n a) h = h
present-mapped r (app f x) h = h
present-mapped r (lam a t) h = h
present-mapped r (logic c x y) h = h
present-mapped r absent h = h

present_of-mapped : (r : ℕ → ℕ) (a : SimpleType) (t : Tree) → IsPresentOf a t → IsPresentOf a (symbols_mapped r t)
present_of-mapped r a t h = (present-mapped r t h.0, mapped-type r t ∙ h.1)

missing-mapped : (r : ℕ → ℕ) (t : Tree) → t ≡ absent → symbols_mapped r t ≡ absent
missing-mapped r t e = ap (symbols_mapped r) e

takes-mapped : (r : ℕ → ℕ) (c : Connective) (x y : Tree) → TakesTrees c x y → TakesTrees c (symbols_mapped r x) (symbols_mapped r y)
takes-mapped r truth x y h = (missing-mapped r x h.0, missing-mapped r y h.1)
takes-mapped r falsity x y h = (missing-mapped r x h.0, missing-mapped r y h.1)
takes-mapped r negation x y h = (present_of-mapped r _ x h.0, missing-mapped r y h.1)
takes-mapped r disjunction x y h = (present_of-mapped r _ x h.0, present_of-mapped r _ y h.1)
takes-mapped r conjunction x y h = (present_of-mapped r _ x h.0, present_of-mapped r _ y h.1)
takes-mapped r implication x y h = (present_of-mapped r _ x h.0, present_of-mapped r _ y h.1)
takes-mapped r (equality a) x y h = (present_of-mapped r _ x h.0, present_of-mapped r _ y h.1)
takes-mapped r (universal a) x y h = (present_of-mapped r _ x h.0, missing-mapped r y h.1)
takes-mapped r (existential a) x y h = (present_of-mapped r _ x h.0, missing-mapped r y h.1)
takes-mapped r (choice a) x y h = (present_of-mapped r _ x h.0, missing-mapped r y h.1)

bound-mapped : (r : ℕ → ℕ) (k : ℕ) (a : SimpleType) (t : Tree) → IsBoundAt k a t → IsBoundAt k a (symbols_mapped r t)
bound-mapped r k a (variable n b) h = h
bound-mapped r k a (bound i b) h = h
bound-mapped r k a (symbol n b) h = h
bound-mapped r k a (app f x) h = (bound-mapped r k a f h.0, bound-mapped r k a x h.1)
bound-mapped r k a (lam b t) h = bound-mapped r (k + 1) a t h
bound-mapped r k a (logic c x y) h = (bound-mapped r k a x h.0, bound-mapped r k a y h.1)
bound-mapped r k a absent h = h

pub typed-mapped : (r : ℕ → ℕ) (t : Tree) → IsWellTyped t → IsWellTyped (symbols_mapped r t)
typed-mapped r (variable n a) h = h
typed-mapped r (bound i a) h = h
typed-mapped r (symbol n a) h = h
typed-mapped r (app f x) (p, q, s, t, e) = (typed-mapped r f p, typed-mapped r x q, present-mapped r f s, present-mapped r x t, rw (mapped-type r f, mapped-type r x) e)
typed-mapped r (lam a t) (p, q, e) = (typed-mapped r t p, present-mapped r t q, bound-mapped r 0 a t e)
typed-mapped r (logic c x y) (p, q, e) = (typed-mapped r x p, typed-mapped r y q, takes-mapped r c x y e)
typed-mapped r absent h = h

pub over-mapped : (r : ℕ → ℕ) (variables : List SimpleType) (depth : ℕ) (t : Tree) → IsOver variables depth t → IsOver variables depth (symbols_mapped r t)
over-mapped r variables depth (variable n a) h = h
over-mapped r variables depth (bound i a) h = h
over-mapped r variables depth (symbol n a) h = h
over-mapped r variables depth (app f x) h = (over-mapped r variables depth f h.0, over-mapped r variables depth x h.1)
over-mapped r variables depth (lam a t) h = over-mapped r variables (depth + 1) t h
over-mapped r variables depth (logic c x y) h = (over-mapped r variables depth x h.0, over-mapped r variables depth y h.1)
over-mapped r variables depth absent h = h

pub literals_typed-mapped : (r : ℕ → ℕ) (variables : List SimpleType) (ls : List Literal) → AreTyped variables ls → AreTyped variables (map (literal_mapped r) ls)
literals_typed-mapped r variables [] h = h
literals_typed-mapped r variables (l ∷ ls) h = (
  record {
    left_over = over-mapped r variables 0 l.left h.0.left_over;
    right_over = over-mapped r variables 0 l.right h.0.right_over;
    same_type = rw (mapped-type r l.left, mapped-type r l.right) h.0.same_type;
  },
  literals_typed-mapped r variables ls h.1,
)

-- terms for variables

given_one-mapped : (r : ℕ → ℕ) (a : SimpleType) (o : Option Tree) → IsOfTypeIfGiven a o → IsOfTypeIfGiven a (option_map (symbols_mapped r) o)
given_one-mapped r a None h = h
given_one-mapped r a (Some s) h = mapped-type r s ∙ h

given-mapped : (r : ℕ → ℕ) (given : List Tree) (t : Tree) → IsGiven given t → IsGiven (map (symbols_mapped r) given) (symbols_mapped r t)
given-mapped r given (variable n a) h = rw (slice_get-map (symbols_mapped r) given n) (given_one-mapped r a (slice_get given n) h)
given-mapped r given (bound i a) h = h
given-mapped r given (symbol n a) h = h
given-mapped r given (app f x) h = (given-mapped r given f h.0, given-mapped r given x h.1)
given-mapped r given (lam a t) h = given-mapped r given t h
given-mapped r given (logic c x y) h = (given-mapped r given x h.0, given-mapped r given y h.1)
given-mapped r given absent h = h

pub are_given-mapped : (r : ℕ → ℕ) (given : List Tree) (ls : List Literal) → AreGiven given ls → AreGiven (map (symbols_mapped r) given) (map (literal_mapped r) ls)
are_given-mapped r given [] h = h
are_given-mapped r given (l ∷ ls) (p, q, e) = (given-mapped r given l.left p, given-mapped r given l.right q, are_given-mapped r given ls e)

pub terms_for-mapped : (r : ℕ → ℕ) (new types : List SimpleType) (ts : List Tree) → AreTermsFor new types ts → AreTermsFor new types (map (symbols_mapped r) ts)
terms_for-mapped r new [] [] h = h
terms_for-mapped r new [] (t ∷ ts) h = h
terms_for-mapped r new (a ∷ types) [] h = h
terms_for-mapped r new (a ∷ types) (t ∷ ts) (p, q, e) = (mapped-type r t ∙ p, over-mapped r new 0 t q, terms_for-mapped r new types ts e)

pub heads-mapped : (r : ℕ → ℕ) (s t : Tree) → HaveOneHeadType s t → HaveOneHeadType (symbols_mapped r s) (symbols_mapped r t)
heads-mapped r (app f x) (app g y) h = rw (mapped-type r f, mapped-type r g) h
heads-mapped r (logic c x y) (logic d z w) h = h
heads-mapped r s t h = tt

-- variables as arguments

variable-mapped : (r : ℕ → ℕ) (variables : List SimpleType) (t : Tree) → IsVariableOf variables t → symbols_mapped r t ≡ t
variable-mapped r variables (variable n a) h = refl
variable-mapped r variables _ h = absurd h

pub variables-mapped : (r : ℕ → ℕ) (variables : List SimpleType) (ts : List Tree) → AreVariablesOf variables ts → map (symbols_mapped r) ts ≡ ts
variables-mapped r variables [] h = refl
variables-mapped r variables (t ∷ ts) h = ap₂ (λ x xs. x ∷ xs) (variable-mapped r variables t h.0) (variables-mapped r variables ts h.1)

pub applied_to-mapped : (r : ℕ → ℕ) (t : Tree) (xs : List Tree) → symbols_mapped r (applied_to t xs) ≡ applied_to (symbols_mapped r t) (map (symbols_mapped r) xs)
applied_to-mapped r t [] = refl
applied_to-mapped r t (x ∷ xs) = applied_to-mapped r (app t x) xs
