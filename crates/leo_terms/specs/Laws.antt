-- Laws of all banks: what growth keeps, that nothing stands twice, that all is typed, and what terms, lifting, substitution and normal forms decode to.
use Rattle.std.specs.Prelude.{[], ℕ, ◌≡◌, ◌+◌, ◌<◌, ◌≤◌, List, length, slice_get, Some}
use Rattle.leo_terms.specs.Tree.{Tree, type_of, lifted, substituted, IsGiven}
use Rattle.leo_terms.specs.Typing.{IsWellTyped}
use Rattle.leo_terms.specs.Contents.{Contents, type_at, tree_at, type_number, IsBank, Extends, IsTerm}
use Rattle.leo_terms.specs.Reduction.{Reduces, IsNormal}
use Rattle.leo_terms.specs.NormalForm.{normal_form}
use Rattle.leo_terms.specs.Decode.{decoded, IsFitting, replaced_all, given_terms}
use Rattle.leo_q0.specs.Shapes.{AreSameUpToNames}
use Rattle.leo_q0.specs.Connectives.{equation}
use Rattle.leo_q0.specs.Derivations.{Derives}

-- a bank that grew reads all earlier numbers as before
abbrev pub TypesAreKept : Type 0
TypesAreKept = (old new : Contents) → Extends old new → (i : ℕ) → i < length old.types → type_at new i ≡ type_at old i

abbrev pub TermsAreKept : Type 0
TermsAreKept = (old new : Contents) → Extends old new → (t : ℕ) → t < length old.terms → tree_at new t ≡ tree_at old t

-- what reads alike has one number
abbrev pub TypesAreShared : Type 0
TypesAreShared = (c : Contents) → IsBank c → (i j : ℕ) → i < length c.types → j < length c.types → type_at c i ≡ type_at c j → i ≡ j

abbrev pub TermsAreShared : Type 0
TermsAreShared = (c : Contents) → IsBank c → (t u : ℕ) → t < length c.terms → u < length c.terms → tree_at c t ≡ tree_at c u → t ≡ u

-- each term is well typed, and has the type whose number stands in its node
abbrev pub TermsAreTyped : Type 0
TermsAreTyped = (c : Contents) → IsBank c → (t : ℕ) → t < length c.terms → IsWellTyped (tree_at c t)

abbrev pub TypesAreThoseOfTrees : Type 0
TypesAreThoseOfTrees = (c : Contents) → IsBank c → (t : ℕ) → t < length c.terms → type_of (tree_at c t) ≡ type_at c (type_number c t)

-- what a making call says of a term it says of its decoding
abbrev pub MadeTermsDecode : Type 0
MadeTermsDecode = (c : Contents) (t i : ℕ) (s : Tree) → IsTerm c t i s → (next : ℕ) → decoded next (tree_at c t) ≡ decoded next s

-- a well-typed term is equal to its normal form by a derivation in Q0 from no hypotheses, whatever numbers from `first` on the bound variables get
abbrev pub NormalFormsAreEqual : Type 0
NormalFormsAreEqual = (t : Tree) (first next : ℕ) → first ≤ next → IsWellTyped t → IsFitting first next t →
    Derives [] (equation (type_of t) (decoded next t) (decoded next (normal_form t)))

-- it reduces to its normal form, which is normal
abbrev pub TermsReduceToNormalForms : Type 0
TermsReduceToNormalForms = (t : Tree) → IsWellTyped t → Reduces t (normal_form t) × IsNormal (normal_form t)

-- a normal term is its own normal form
abbrev pub NormalTermsStay : Type 0
NormalTermsStay = (t : Tree) → IsWellTyped t → IsNormal t → normal_form t ≡ t

-- a lifted term under k more lambdas is the same term of Q0, up to the names of its bound variables
abbrev pub LiftingDecodes : Type 0
LiftingDecodes = (t : Tree) (first next k : ℕ) → first ≤ next → IsWellTyped t → IsFitting first next t →
    AreSameUpToNames (decoded next t) (decoded (next + k) (lifted 0 k t))

-- what is put in for variables may stand there
abbrev pub AreFitting : ℕ → ℕ → List Tree → Type 0
AreFitting first next terms = (n : ℕ) (s : Tree) → slice_get terms n ≡ Some s → IsWellTyped s × IsFitting first next s

-- a term with terms put in for its variables is Andrews' substitution of all of them at once, up to the names of its bound variables
abbrev pub SubstitutionDecodes : Type 0
SubstitutionDecodes = (t : Tree) (terms : List Tree) (first next : ℕ) → length terms ≤ first → first ≤ next → IsWellTyped t → IsGiven terms t →
    IsFitting first next t → AreFitting first next terms →
    AreSameUpToNames (replaced_all (given_terms next terms) (decoded next t)) (decoded next (substituted terms 0 t))
