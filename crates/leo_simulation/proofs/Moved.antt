-- Terms whose variables were moved.
use Rattle.std.proofs.Common.{◌≡◌, ℕ, zero, suc, ◌+◌, List, [], ◌∷◌, ◌++◌, length, map, slice_get, Option, Some, refl, sym, ◌∙◌, subst, arith, append_assoc}
use Rattle.std.proofs.lemmas.List.{length-append}
use Rattle.leo_q0.specs.Terms.{SimpleType}
use Rattle.leo_terms.specs.Tree.{Tree, variable, bound, symbol, app, lam, logic, absent, Connective, truth, falsity, negation, disjunction, conjunction, implication, equality, universal, existential, choice, substituted, variable_given, IsBoundAt, IsGiven}
use Rattle.leo_terms.specs.Typing.{IsWellTyped, IsPresent, IsPresentOf, TakesTrees}
use Rattle.leo_clause.specs.Trees.{Literal}
use Rattle.leo_clause.specs.Typed.{IsOver}
use Rattle.leo_clause.specs.Renaming.{substituted_literal, AreGiven}
use Rattle.leo_kernel.specs.Places.{shifted, shifted_literal}
use Rattle.leo_kernel.specs.Conditions as kernel
use Rattle.leo_simulation.proofs.TreeInstances.{variables_from}
use Rattle.leo_simulation.proofs.ClauseInstances.{AreWellTyped, type_of-shifted}
use Rattle.leo_simulation.proofs.Sayings.{IsFine, AreFine}

variable_from : (first : ℕ) (types : List SimpleType) (i : ℕ) (a : SimpleType) → slice_get types i ≡ Some a → slice_get (variables_from first types) i ≡ Some (variable (first + i) a)
variable_from first [] i a e = cc
variable_from first (b ∷ types) zero a e = moved (some_value e)
  where
    some_value : {x y : SimpleType} → Some x ≡ Some y → x ≡ y
    some_value e = cc

    moved : b ≡ a → Some (variable first b) ≡ Some (variable (first + 0) a)
    moved e = let k : first + 0 ≡ first = omega arith in rw (e, k) refl
variable_from first (b ∷ types) (suc i) a e =
    let k : first + suc i ≡ suc first + i = omega arith in
    rw k (variable_from (suc first) types i a e)

given_variable : (first k m : ℕ) (a : SimpleType) (o : Option Tree) → o ≡ Some (variable (first + m) a) → variable_given k o m a ≡ variable (first + m) a
given_variable first k m a o e = rw e refl

-- moving is putting in the moved variables
pub substituted-variables : (first : ℕ) (types : List SimpleType) (depth k : ℕ) (t : Tree) → IsOver types depth t → substituted (variables_from first types) k t ≡ shifted first t
substituted-variables first types depth k (variable m a) o = given_variable first k m a (slice_get (variables_from first types) m) (variable_from first types m a o)
substituted-variables first types depth k (bound i a) o = refl
substituted-variables first types depth k (symbol s a) o = refl
substituted-variables first types depth k (app f x) o = rw (substituted-variables first types depth k f o.0, substituted-variables first types depth k x o.1) refl
substituted-variables first types depth k (lam a t) o = rw (substituted-variables first types (depth + 1) (k + 1) t o) refl
substituted-variables first types depth k (logic c x y) o = rw (substituted-variables first types depth k x o.0, substituted-variables first types depth k y o.1) refl
substituted-variables first types depth k absent o = refl

given-variables : (first : ℕ) (types : List SimpleType) (depth : ℕ) (t : Tree) → IsOver types depth t → IsGiven (variables_from first types) t
given-variables first types depth (variable m a) o = rw (variable_from first types m a o) refl
given-variables first types depth (bound i a) o = tt
given-variables first types depth (symbol s a) o = tt
given-variables first types depth (app f x) o = (given-variables first types depth f o.0, given-variables first types depth x o.1)
given-variables first types depth (lam a t) o = given-variables first types (depth + 1) t o
given-variables first types depth (logic c x y) o = (given-variables first types depth x o.0, given-variables first types depth y o.1)
given-variables first types depth absent o = tt

pub typed-variables : (first : ℕ) (types : List SimpleType) → AreWellTyped (variables_from first types)
typed-variables first [] = tt
typed-variables first (a ∷ types) = (tt, typed-variables (suc first) types)

pub behind : {X : Type 0} (xs ys : List X) (i : ℕ) → slice_get (xs ++ ys) (length xs + i) ≡ slice_get ys i
behind [] ys i = let e : 0 + i ≡ i = omega arith in rw e refl
behind (x ∷ xs) ys i = let e : suc (length xs) + i ≡ suc (length xs + i) = omega arith in rw e (behind xs ys i)

-- the moved variables stand behind those of another list
variables_fit : (front seen types : List SimpleType) → kernel.AreTermsFor (front ++ (seen ++ types)) types (variables_from (length front + length seen) types)
variables_fit front seen [] = tt
variables_fit front seen (a ∷ types) =
    let here : slice_get (front ++ (seen ++ a ∷ types)) (length front + length seen) ≡ Some a =
    behind front (seen ++ a ∷ types) (length seen) ∙ (let e : length seen ≡ length seen + 0 = omega arith in rw e (behind seen (a ∷ types) 0)) in
    let lists : seen ++ a ∷ types ≡ (seen ++ a ∷ []) ++ types = sym (append_assoc seen (a ∷ []) types) in
    let lengths : suc (length front + length seen) ≡ length front + length (seen ++ a ∷ []) = rw (length-append seen (a ∷ [])) (omega arith) in
    let rest = variables_fit front (seen ++ a ∷ []) types in (
      refl,
      here,
      subst (λ l. kernel.AreTermsFor (front ++ l) types (variables_from (suc (length front + length seen)) types)) (sym lists)
          (subst (λ n. kernel.AreTermsFor (front ++ ((seen ++ a ∷ []) ++ types)) types (variables_from n types)) (sym lengths) rest),
    )

pub moved_variables_fit : (front types : List SimpleType) → kernel.AreTermsFor (front ++ types) types (variables_from (length front) types)
moved_variables_fit front types = let e : length front + 0 ≡ length front = omega arith in subst (λ n. kernel.AreTermsFor (front ++ types) types (variables_from n types)) e (variables_fit front [] types)

-- what moving keeps
IsPresent-shifted : (by : ℕ) (t : Tree) → IsPresent t → IsPresent (shifted by t)
IsPresent-shifted by (variable n a) h = tt
IsPresent-shifted by (bound i a) h = tt
IsPresent-shifted by (symbol s a) h = tt
IsPresent-shifted by (app f x) h = tt
IsPresent-shifted by (lam a t) h = tt
IsPresent-shifted by (logic c x y) h = tt
IsPresent-shifted by absent h = h

bound-shifted : (by k : ℕ) (a : SimpleType) (t : Tree) → IsBoundAt k a t → IsBoundAt k a (shifted by t)
bound-shifted by k a (variable n b) h = tt
bound-shifted by k a (bound i b) h = h
bound-shifted by k a (symbol s b) h = tt
bound-shifted by k a (app f x) h = (bound-shifted by k a f h.0, bound-shifted by k a x h.1)
bound-shifted by k a (lam b t) h = bound-shifted by (k + 1) a t h
bound-shifted by k a (logic c x y) h = (bound-shifted by k a x h.0, bound-shifted by k a y h.1)
bound-shifted by k a absent h = tt

of_type-shifted : (by : ℕ) (a : SimpleType) (t : Tree) → IsPresentOf a t → IsPresentOf a (shifted by t)
of_type-shifted by a t h = (IsPresent-shifted by t h.0, type_of-shifted by t ∙ h.1)

absent-shifted : (by : ℕ) (t : Tree) → t ≡ absent → shifted by t ≡ absent
absent-shifted by t e = rw e refl

takes-shifted : (by : ℕ) (c : Connective) (x y : Tree) → TakesTrees c x y → TakesTrees c (shifted by x) (shifted by y)
takes-shifted by truth x y h = (absent-shifted by x h.0, absent-shifted by y h.1)
takes-shifted by falsity x y h = (absent-shifted by x h.0, absent-shifted by y h.1)
takes-shifted by negation x y h = (of_type-shifted by _ x h.0, absent-shifted by y h.1)
takes-shifted by disjunction x y h = (of_type-shifted by _ x h.0, of_type-shifted by _ y h.1)
takes-shifted by conjunction x y h = (of_type-shifted by _ x h.0, of_type-shifted by _ y h.1)
takes-shifted by implication x y h = (of_type-shifted by _ x h.0, of_type-shifted by _ y h.1)
takes-shifted by (equality a) x y h = (of_type-shifted by a x h.0, of_type-shifted by a y h.1)
takes-shifted by (universal a) x y h = (of_type-shifted by _ x h.0, absent-shifted by y h.1)
takes-shifted by (existential a) x y h = (of_type-shifted by _ x h.0, absent-shifted by y h.1)
takes-shifted by (choice a) x y h = (of_type-shifted by _ x h.0, absent-shifted by y h.1)

pub IsWellTyped-shifted : (by : ℕ) (t : Tree) → IsWellTyped t → IsWellTyped (shifted by t)
IsWellTyped-shifted by (variable n a) w = tt
IsWellTyped-shifted by (bound i a) w = tt
IsWellTyped-shifted by (symbol s a) w = tt
IsWellTyped-shifted by (app f x) w =
    let tf = type_of-shifted by f in
    let tx = type_of-shifted by x in
    (IsWellTyped-shifted by f w.0, IsWellTyped-shifted by x w.1, IsPresent-shifted by f w.2, IsPresent-shifted by x w.3, rw (tf, tx) w.4)
IsWellTyped-shifted by (lam a t) w = (IsWellTyped-shifted by t w.0, IsPresent-shifted by t w.1, bound-shifted by 0 a t w.2)
IsWellTyped-shifted by (logic c x y) w = (IsWellTyped-shifted by x w.0, IsWellTyped-shifted by y w.1, takes-shifted by c x y w.2)
IsWellTyped-shifted by absent w = tt

over-shifted : (front types : List SimpleType) (depth : ℕ) (t : Tree) → IsOver types depth t → IsOver (front ++ types) depth (shifted (length front) t)
over-shifted front types depth (variable m a) o = behind front types m ∙ o
over-shifted front types depth (bound i a) o = o
over-shifted front types depth (symbol s a) o = tt
over-shifted front types depth (app f x) o = (over-shifted front types depth f o.0, over-shifted front types depth x o.1)
over-shifted front types depth (lam a t) o = over-shifted front types (depth + 1) t o
over-shifted front types depth (logic c x y) o = (over-shifted front types depth x o.0, over-shifted front types depth y o.1)
over-shifted front types depth absent o = tt

fine-literal_shifted : (front types : List SimpleType) (l : Literal) → IsFine types l → IsFine (front ++ types) (shifted_literal (length front) l)
fine-literal_shifted front types l h =
    let n = length front in
    record {
      left_typed = IsWellTyped-shifted n l.left h.left_typed;
      right_typed = IsWellTyped-shifted n l.right h.right_typed;
      typed = record {
        left_over = over-shifted front types 0 l.left h.typed.left_over;
        right_over = over-shifted front types 0 l.right h.typed.right_over;
        same_type = type_of-shifted n l.left ∙ h.typed.same_type ∙ sym (type_of-shifted n l.right);
      };
    }

pub fine-shifted : (front types : List SimpleType) (ls : List Literal) → AreFine types ls → AreFine (front ++ types) (map (shifted_literal (length front)) ls)
fine-shifted front types [] h = tt
fine-shifted front types (l ∷ ls) h = (fine-literal_shifted front types l h.0, fine-shifted front types ls h.1)

pub literals-variables : (first : ℕ) (types : List SimpleType) (ls : List Literal) → AreFine types ls → map (substituted_literal (variables_from first types)) ls ≡ map (shifted_literal first) ls
literals-variables first types [] h = refl
literals-variables first types (l ∷ ls) h =
    let p = substituted-variables first types 0 0 l.left h.0.typed.left_over in
    let q = substituted-variables first types 0 0 l.right h.0.typed.right_over in
    let r = literals-variables first types ls h.1 in
    rw (p, q, r) refl

pub literals_given : (first : ℕ) (types : List SimpleType) (ls : List Literal) → AreFine types ls → AreGiven (variables_from first types) ls
literals_given first types [] h = tt
literals_given first types (l ∷ ls) h =
    (given-variables first types 0 l.left h.0.typed.left_over, given-variables first types 0 l.right h.0.typed.right_over, literals_given first types ls h.1)
