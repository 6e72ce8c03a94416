-- What clauses say in Q0, whatever numbers from some number on their bound variables get.
use Rattle.std.proofs.Common.{◌≡◌, ℕ, ◌+◌, ◌<◌, ◌≤◌, Bool, true, false, nat_lt, cond, List, [], ◌∷◌, length, map, refl, sym, subst, arith}
use Rattle.std.proofs.lemmas.Option.{slice_get_within}
use Rattle.std.proofs.lemmas.Bool.{lt-ltb}
use Rattle.leo_q0.specs.Terms.{SimpleType, Variable, Term, HasType, of_apply, IsFormula}
use Rattle.leo_q0.specs.Shapes.{shape}
use Rattle.leo_q0.specs.Substitution.{is_free}
use Rattle.leo_q0.specs.Connectives.{equation, apply_two, or_term}
use Rattle.leo_q0.specs.Derivations.{Derivable}
use Rattle.leo_q0.proofs.WellTyped.{HasType-equation}
use Rattle.leo_q0.proofs.Formulas.{HasType-not}
use Rattle.leo_q0.proofs.Equations.{carry}
use Rattle.leo_q0.proofs.Alpha.{alpha}
use Rattle.leo_sound.specs.Propositions.{disjunction}
use Rattle.leo_sound.proofs.Tautologies.{AreFormulas, HasType-disjunction}
use Rattle.leo_terms.specs.Tree.{Tree, variable, bound, symbol, app, lam, logic, absent, type_of, lifted}
use Rattle.leo_terms.specs.Typing.{IsWellTyped}
use Rattle.leo_terms.specs.Decode.{decoded, IsFitting}
use Rattle.leo_terms.proofs.CallerLemmas.{decoded_typed, lifting_decodes, decoded_unfree}
use Rattle.leo_clause.specs.Trees.{Literal}
use Rattle.leo_clause.specs.Typed.{IsOver, IsTypedLiteral}
use Rattle.leo_clause.specs.Formulas.{signed}

-- a literal's formula, and a clause's
abbrev pub literal_said : ℕ → Literal → Term
literal_said n l = signed l.positive (equation (type_of l.left) (decoded n l.left) (decoded n l.right))

abbrev pub literals_said : ℕ → List Literal → List Term
literals_said n ls = map (literal_said n) ls

abbrev pub clause_said : ℕ → List Literal → Term
clause_said n ls = disjunction (literals_said n ls)

-- a literal whose sides are well typed, of one type, over these variables
pub record IsFine (variables : List SimpleType) (l : Literal) : Type 0 where
  pub left_typed : IsWellTyped l.left
  pub right_typed : IsWellTyped l.right
  pub typed : IsTypedLiteral variables l

abbrev pub AreFine : List SimpleType → List Literal → Type 0
AreFine variables [] = Unit {0}
AreFine variables (l ∷ ls) = IsFine variables l × AreFine variables ls

pub signed_formula : (b : Bool) {s : Term} → IsFormula s → IsFormula (signed b s)
signed_formula true h = h
signed_formula false h = of_apply HasType-not h

module _ {variables : List SimpleType} {l : Literal} (n : ℕ) (h : IsFine variables l) where
  pub left_said : HasType (decoded n l.left) (type_of l.left)
  left_said = decoded_typed l.left n h.left_typed

  pub right_said : HasType (decoded n l.right) (type_of l.left)
  right_said = subst (HasType (decoded n l.right)) (sym h.typed.same_type) (decoded_typed l.right n h.right_typed)

  pub said_formula : IsFormula (literal_said n l)
  said_formula = signed_formula l.positive (HasType-equation left_said right_said)

pub said_formulas : (variables : List SimpleType) (n : ℕ) (ls : List Literal) → AreFine variables ls → AreFormulas (literals_said n ls)
said_formulas variables n [] h = tt
said_formulas variables n (l ∷ ls) h = (said_formula n h.0, said_formulas variables n ls h.1)

pub clause_formula : (variables : List SimpleType) (n : ℕ) (ls : List Literal) → AreFine variables ls → IsFormula (clause_said n ls)
clause_formula variables n ls h = HasType-disjunction (literals_said n ls) (said_formulas variables n ls h)

pub fitting-over : (variables : List SimpleType) (depth : ℕ) (t : Tree) (first n : ℕ) → length variables ≤ first → first + depth ≤ n → IsOver variables depth t → IsFitting first n t
fitting-over variables depth (variable m a) first n few le h = let k = slice_get_within variables m a h in omega (arith, few, k)
fitting-over variables depth (bound i a) first n few le h = omega (arith, le, h)
fitting-over variables depth (symbol s a) first n few le h = tt
fitting-over variables depth (app f x) first n few le h = (fitting-over variables depth f first n few le h.0, fitting-over variables depth x first n few le h.1)
fitting-over variables depth (lam a t) first n few le h = fitting-over variables (depth + 1) t first (n + 1) few (omega (arith, le)) h
fitting-over variables depth (logic c x y) first n few le h = (fitting-over variables depth x first n few le h.0, fitting-over variables depth y first n few le h.1)
fitting-over variables depth absent first n few le h = tt

lifted_index : (i from by : ℕ) (a : SimpleType) → i < from → cond (nat_lt i from) (bound i a) (bound (i + by) a) ≡ bound i a
lifted_index i from by a lt = rw (lt-ltb i from lt) refl

-- a term without loose indices stays as it is when it is lifted
pub lifted-over : (variables : List SimpleType) (depth by : ℕ) (t : Tree) → IsOver variables depth t → lifted depth by t ≡ t
lifted-over variables depth by (variable m a) h = refl
lifted-over variables depth by (bound i a) h = lifted_index i depth by a h
lifted-over variables depth by (symbol s a) h = refl
lifted-over variables depth by (app f x) h = rw (lifted-over variables depth by f h.0, lifted-over variables depth by x h.1) refl
lifted-over variables depth by (lam a t) h = rw (lifted-over variables (depth + 1) by t h) refl
lifted-over variables depth by (logic c x y) h = rw (lifted-over variables depth by x h.0, lifted-over variables depth by y h.1) refl
lifted-over variables depth by absent h = refl

-- the numbers of bound variables do not matter
pub decoded_shape : (variables : List SimpleType) (t : Tree) (n k : ℕ) → length variables ≤ n → IsWellTyped t → IsOver variables 0 t → shape [] (decoded n t) ≡ shape [] (decoded (n + k) t)
decoded_shape variables t n k few w h =
    subst (λ (u : Tree). shape [] (decoded n t) ≡ shape [] (decoded (n + k) u)) (lifted-over variables 0 k t h)
    (lifting_decodes t (length variables) n k few w (fitting-over variables 0 t (length variables) n (omega arith) (omega (arith, few)) h))

pub signed_shape : (b : Bool) (a : SimpleType) (s t s' t' : Term) → shape [] s ≡ shape [] s' → shape [] t ≡ shape [] t' →
    shape [] (signed b (equation a s t)) ≡ shape [] (signed b (equation a s' t'))
signed_shape true a s t s' t' e k = rw (e, k) refl
signed_shape false a s t s' t' e k = rw (e, k) refl

literal_shape : (variables : List SimpleType) (l : Literal) (n k : ℕ) → length variables ≤ n → IsFine variables l → shape [] (literal_said n l) ≡ shape [] (literal_said (n + k) l)
literal_shape variables l n k few h =
    signed_shape l.positive (type_of l.left) (decoded n l.left) (decoded n l.right) (decoded (n + k) l.left) (decoded (n + k) l.right)
    (decoded_shape variables l.left n k few h.left_typed h.typed.left_over) (decoded_shape variables l.right n k few h.right_typed h.typed.right_over)

pub or_shape : (s t s' t' : Term) → shape [] s ≡ shape [] s' → shape [] t ≡ shape [] t' →
    shape [] (apply_two or_term s t) ≡ shape [] (apply_two or_term s' t')
or_shape s t s' t' e k = rw (e, k) refl

clause_shape : (variables : List SimpleType) (ls : List Literal) (n k : ℕ) → length variables ≤ n → AreFine variables ls → shape [] (clause_said n ls) ≡ shape [] (clause_said (n + k) ls)
clause_shape variables [] n k few h = refl
clause_shape variables (l ∷ []) n k few h = literal_shape variables l n k few h.0
clause_shape variables (l ∷ l' ∷ ls) n k few h =
    or_shape (literal_said n l) (clause_said n (l' ∷ ls)) (literal_said (n + k) l) (clause_said (n + k) (l' ∷ ls))
    (literal_shape variables l n k few h.0) (clause_shape variables (l' ∷ ls) n k few h.1)

module _ {H : List Term} (variables : List SimpleType) (ls : List Literal) (h : AreFine variables ls) (n k : ℕ) (few : length variables ≤ n) where
  pub said_higher : Derivable H (clause_said n ls) → Derivable H (clause_said (n + k) ls)
  said_higher d = carry (alpha (clause_shape variables ls n k few h) (clause_formula variables n ls h) (clause_formula variables (n + k) ls h)) d

  pub said_lower : Derivable H (clause_said (n + k) ls) → Derivable H (clause_said n ls)
  said_lower d = carry (alpha (sym (clause_shape variables ls n k few h)) (clause_formula variables (n + k) ls h) (clause_formula variables n ls h)) d

-- no bound variable is free in a decoded term without loose indices
pub free_below : (variables : List SimpleType) (t : Tree) (n : ℕ) → length variables ≤ n → IsWellTyped t → IsOver variables 0 t → (v : Variable) → n ≤ v.number → is_free v (decoded n t) ≡ false
free_below variables t n few w o v high =
    decoded_unfree t (length variables) n 0 n [] v refl (omega arith) few high refl (λ j b i. absurd (let f : ⊥ = cc in f)) w
    (fitting-over variables 0 t (length variables) n (omega arith) (omega (arith, few)) o)
