-- What each rule concludes.
use Rattle.std.specs.Prelude.{ℕ, suc, ◌≡◌, Bool, true, false, List, [], ◌∷◌, ◌++◌, length, map, take, drop, slice_get, Option, Some, None, IsSomeAnd}
use Rattle.std.specs.List.{list_any}
use Rattle.leo_q0.specs.Terms.{SimpleType, arrow}
use Rattle.leo_terms.specs.Tree.{Tree, variable, bound, symbol, app, lam, logic, absent, Connective, truth_type}
use Rattle.leo_terms.specs.NormalForm.{normal_form}
use Rattle.leo_clause.specs.declared.record.Side.{Side}
use Rattle.leo_clause.specs.declared.record.Half.{Half}
use Rattle.leo_clause.specs.declared.record.Half.TheVariants.{One, Two}
use Rattle.leo_clause.specs.declared.record.LogicKind.{LogicKind}
use Rattle.leo_clause.specs.declared.record.LogicKind.TheVariants as kind
use Rattle.leo_clause.specs.Trees.{Literal, ClauseTree}
use Rattle.leo_clause.specs.Sameness.{same_literal}
use Rattle.leo_clause.specs.Renaming.{substituted_literal}
use Rattle.leo_kernel.specs.Shapes.{truth_tree, choice_tree, equal, unequal, valued, side_of, other_side_of, literal_type, domain}
use Rattle.leo_kernel.specs.Places.{subterm, replaced_in, shifted, shifted_literal}
use Rattle.leo_kernel.specs.Rows.{TakesApart}
use Rattle.leo_kernel.specs.Choosing.{Claim, Claims, claimed, difference_in, applied_to, Fits}
use Rattle.leo_kernel.specs.Symbols.{abbreviation_of}
use Rattle.leo_kernel.specs.Steps.{StepRule, assume, convert, inst, para, arrange, drop_literal, take_apart, bool_ext, func_ext, decompose, reflexivity, choose, factor, abbreviate, Line, clause_of, literal_of}

-- new literals in the place of the one with this number
abbrev pub with_literals : List Literal → ℕ → List Literal → List Literal
with_literals literals i new = take i literals ++ (new ++ drop (suc i) literals)

abbrev pub without : List Literal → ℕ → List Literal
without literals i = with_literals literals i []

-- the clause with new literals in that place, and variables more
abbrev pub with_new : ClauseTree → ℕ → List SimpleType → List Literal → ClauseTree
with_new c i fresh new = record { variables = c.variables ++ fresh; literals = with_literals c.literals i new }

-- assume: `H = T`
abbrev pub assumed : Tree → ClauseTree
assumed h = record { variables = []; literals = valued h true ∷ [] }

-- convert: side by side the same normal form

pub record IsConverted (l k : Literal) : Type 0 where
  pub polarity : k.positive ≡ l.positive
  pub left_form : normal_form k.left ≡ normal_form l.left
  pub right_form : normal_form k.right ≡ normal_form l.right

abbrev pub AreConverted : List Literal → List Literal → Type 0
AreConverted [] [] = Unit {0}
AreConverted [] (k ∷ ks) = ⊥
AreConverted (l ∷ ls) [] = ⊥
AreConverted (l ∷ ls) (k ∷ ks) = IsConverted l k × AreConverted ls ks

-- para: `l = r` in one clause, t at a place in the other; r comes there, and `l ≠ t` is added
abbrev pub paramodulant : ClauseTree → ℕ → Literal → Side → ClauseTree → ℕ → Literal → Side → List ℕ → Tree → ClauseTree
paramodulant source i l s target j k r path t =
    let n = length source.variables in
    let replaced = replaced_in r path (other_side_of s l) (shifted_literal n k) in
    record {
      variables = source.variables ++ target.variables;
      literals = without source.literals i ++ (with_literals (map (shifted_literal n) target.literals) j (replaced ∷ []) ++ unequal (side_of s l) (shifted n t) ∷ []);
    }

-- arrange: each literal is among those of the clause, as it is or turned
abbrev pub AreAmong : List Literal → List Literal → Type 0
AreAmong [] ks = Unit {0}
AreAmong (l ∷ ls) ks = (list_any (same_literal l) ks ≡ true) × AreAmong ls ks

-- drop: `s ≠ s`, `T = F` and `F = T`
pub data NeverHolds : Literal → Type 0 where
  self_unequal : (s : Tree) → NeverHolds (unequal s s)
  true_is_false : NeverHolds (equal (truth_tree true) (truth_tree false))
  false_is_true : NeverHolds (equal (truth_tree false) (truth_tree true))

-- bool_ext: one of the two cases in which `A = B` holds, or fails, of truth values
abbrev pub bool_case : Half → Bool → Tree → Tree → List Literal
bool_case One true a b = valued a false ∷ valued b true ∷ []
bool_case Two true a b = valued a true ∷ valued b false ∷ []
bool_case One false a b = valued a true ∷ valued b true ∷ []
bool_case Two false a b = valued a false ∷ valued b false ∷ []

-- func_ext: `f X = g X` for a fresh variable
abbrev pub func_ext_positive : ClauseTree → ℕ → Literal → ClauseTree
func_ext_positive c i l =
    let a = domain (literal_type l) in
    let x = variable (length c.variables) a in
    with_new c i (a ∷ []) (equal (app l.left x) (app l.right x) ∷ [])

-- decompose: the parts of two applications, or of one constant with its arguments

abbrev pub unequal_if_present : Tree → Tree → List Literal
unequal_if_present absent t = []
unequal_if_present (variable n a) t = unequal (variable n a) t ∷ []
unequal_if_present (bound i a) t = unequal (bound i a) t ∷ []
unequal_if_present (symbol n a) t = unequal (symbol n a) t ∷ []
unequal_if_present (app f x) t = unequal (app f x) t ∷ []
unequal_if_present (lam a s) t = unequal (lam a s) t ∷ []
unequal_if_present (logic c x y) t = unequal (logic c x y) t ∷ []

pub data Decomposes : Literal → List Literal → Type 0 where
  applications : (f g x y : Tree) → Decomposes (unequal (app f x) (app g y)) (unequal f g ∷ unequal x y ∷ [])
  constants : (c : Connective) (x y z w : Tree) → Decomposes (unequal (logic c x y) (logic c z w)) (unequal_if_present x z ++ unequal_if_present y w)

-- choose: of things that have the property X0, `ε X0` is one
abbrev pub choice_clause : SimpleType → ClauseTree
choice_clause a =
    let p = variable 0 (arrow a truth_type) in
    record {
      variables = arrow a truth_type ∷ a ∷ [];
      literals = valued (app p (variable 1 a)) false ∷ valued (app p (choice_tree a p)) true ∷ [];
    }

-- factor: without the second literal, if it is the first
abbrev pub factored : ClauseTree → ℕ → Literal → Literal → ClauseTree
factored c j l k = record { variables = c.variables; literals = without c.literals j ++ (unequal l.left k.left ∷ unequal l.right k.right ∷ []) }

-- abbreviate: `s = t`
abbrev pub abbreviated : ℕ → SimpleType → Tree → ClauseTree
abbreviated s a t = record { variables = []; literals = equal (symbol s a) t ∷ [] }

-- the parent's literal becomes some literals by this kind, which stand in its place
pub record IsTakenApart (parent : ClauseTree) (i : ℕ) (kind : LogicKind) (l : Literal) (clause : ClauseTree) : Type 0 where
  pub fresh : List SimpleType
  pub new : List Literal
  pub row : TakesApart (length parent.variables) kind l fresh new
  pub concluded : clause ≡ with_new parent i fresh new

-- the parent's literal becomes a claim about w, the symbol of the abbreviation with variables that fit
pub record IsClaimed (parent : ClauseTree) (i : ℕ) (Becomes : Claim → Type 0) (abbreviation : Literal) (clause : ClauseTree) : Type 0 where
  pub claim : Claim
  pub becomes : Becomes claim
  pub arguments : List Tree
  pub fits : Fits clause.variables claim abbreviation.right arguments
  pub concluded : clause ≡ with_new parent i [] (claimed claim (applied_to abbreviation.left arguments) ∷ [])

abbrev pub ClaimsNamed : List Line → ClauseTree → ℕ → Option ℕ → (Claim → Type 0) → ClauseTree → Type 0
ClaimsNamed lines parent i None Becomes clause = ⊥
ClaimsNamed lines parent i (Some a) Becomes clause = IsSomeAnd (abbreviation_of lines a) (λ s. IsClaimed parent i Becomes s clause)

abbrev pub LogicConcludes : List Line → ClauseTree → ℕ → Option ℕ → Literal → LogicKind → ClauseTree → Type 0
LogicConcludes lines parent i a l kind.AllF clause = ClaimsNamed lines parent i a (Claims kind.AllF l) clause
LogicConcludes lines parent i a l kind.SomeT clause = ClaimsNamed lines parent i a (Claims kind.SomeT l) clause
LogicConcludes lines parent i a l kind.Not clause = IsTakenApart parent i kind.Not l clause
LogicConcludes lines parent i a l kind.OrT clause = IsTakenApart parent i kind.OrT l clause
LogicConcludes lines parent i a l kind.OrF1 clause = IsTakenApart parent i kind.OrF1 l clause
LogicConcludes lines parent i a l kind.OrF2 clause = IsTakenApart parent i kind.OrF2 l clause
LogicConcludes lines parent i a l kind.AndT1 clause = IsTakenApart parent i kind.AndT1 l clause
LogicConcludes lines parent i a l kind.AndT2 clause = IsTakenApart parent i kind.AndT2 l clause
LogicConcludes lines parent i a l kind.AndF clause = IsTakenApart parent i kind.AndF l clause
LogicConcludes lines parent i a l kind.ImpT clause = IsTakenApart parent i kind.ImpT l clause
LogicConcludes lines parent i a l kind.ImpF1 clause = IsTakenApart parent i kind.ImpF1 l clause
LogicConcludes lines parent i a l kind.ImpF2 clause = IsTakenApart parent i kind.ImpF2 l clause
LogicConcludes lines parent i a l kind.EqT clause = IsTakenApart parent i kind.EqT l clause
LogicConcludes lines parent i a l kind.EqF clause = IsTakenApart parent i kind.EqF l clause
LogicConcludes lines parent i a l kind.Flip clause = IsTakenApart parent i kind.Flip l clause
LogicConcludes lines parent i a l kind.AllT clause = IsTakenApart parent i kind.AllT l clause
LogicConcludes lines parent i a l kind.SomeF clause = IsTakenApart parent i kind.SomeF l clause

abbrev pub FuncExtConcludes : List Line → ClauseTree → ℕ → Option ℕ → Literal → Bool → ClauseTree → Type 0
FuncExtConcludes lines parent i a l true clause = clause ≡ func_ext_positive parent i l
FuncExtConcludes lines parent i a l false clause = ClaimsNamed lines parent i a (λ claim. claim ≡ difference_in l) clause

-- the clause is what the rule concludes
abbrev pub HasShape : List Tree → List Line → ClauseTree → StepRule → Type 0
HasShape hypotheses lines clause (assume h) = IsSomeAnd (slice_get hypotheses h) (λ t. clause ≡ assumed t)
HasShape hypotheses lines clause (convert p) = (clause.variables ≡ (clause_of lines p).variables) × AreConverted (clause_of lines p).literals clause.literals
HasShape hypotheses lines clause (inst p sigma) = clause.literals ≡ map (substituted_literal sigma) (clause_of lines p).literals
HasShape hypotheses lines clause (para p i s q j r path) =
    IsSomeAnd (literal_of lines p i) (λ l. IsSomeAnd (literal_of lines q j) (λ k. IsSomeAnd (subterm path (side_of r k)) (λ t.
    (l.positive ≡ true) × (clause ≡ paramodulant (clause_of lines p) i l s (clause_of lines q) j k r path t))))
HasShape hypotheses lines clause (arrange p) = (clause.variables ≡ (clause_of lines p).variables) × AreAmong (clause_of lines p).literals clause.literals
HasShape hypotheses lines clause (drop_literal p i) = IsSomeAnd (literal_of lines p i) (λ l. NeverHolds l × (clause ≡ with_new (clause_of lines p) i [] []))
HasShape hypotheses lines clause (take_apart p i k a) = IsSomeAnd (literal_of lines p i) (λ l. LogicConcludes lines (clause_of lines p) i a l k clause)
HasShape hypotheses lines clause (bool_ext p i half) = IsSomeAnd (literal_of lines p i) (λ l. clause ≡ with_new (clause_of lines p) i [] (bool_case half l.positive l.left l.right))
HasShape hypotheses lines clause (func_ext p i a) = IsSomeAnd (literal_of lines p i) (λ l. FuncExtConcludes lines (clause_of lines p) i a l l.positive clause)
HasShape hypotheses lines clause (decompose p i) = IsSomeAnd (literal_of lines p i) (λ l. (new : List Literal) × (Decomposes l new × (clause ≡ with_new (clause_of lines p) i [] new)))
HasShape hypotheses lines clause reflexivity = (s : Tree) × (clause.literals ≡ equal s s ∷ [])
HasShape hypotheses lines clause choose = (a : SimpleType) × (clause ≡ choice_clause a)
HasShape hypotheses lines clause (factor p i j) =
    IsSomeAnd (literal_of lines p i) (λ l. IsSomeAnd (literal_of lines p j) (λ k. (l.positive ≡ k.positive) × (clause ≡ factored (clause_of lines p) j l k)))
HasShape hypotheses lines clause (abbreviate s) = (a : SimpleType) × ((t : Tree) × (clause ≡ abbreviated s a t))
