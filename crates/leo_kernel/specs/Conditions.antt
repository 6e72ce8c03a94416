-- What a rule asks for beside its conclusion: earlier lines, literals, places and types.
use Rattle.std.specs.Prelude.{ℕ, ◌≡◌, ◌<◌, List, [], ◌∷◌, length, Option, Some, None, IsSomeAnd}
use Rattle.leo_q0.specs.Terms.{SimpleType, arrow}
use Rattle.leo_terms.specs.Tree.{Tree, app, logic, Connective, equality, universal, existential, choice, truth_type, type_of}
use Rattle.leo_clause.specs.Typed.{IsOver, IsTyped}
use Rattle.leo_clause.specs.Renaming.{AreGiven}
use Rattle.leo_kernel.specs.Shapes.{side_of, literal_type, IsArrowType}
use Rattle.leo_kernel.specs.Places.{subterm}
use Rattle.leo_kernel.specs.Steps.{StepRule, assume, convert, inst, para, arrange, drop_literal, take_apart, bool_ext, func_ext, decompose, reflexivity, choose, factor, abbreviate, Line, clause_of, literal_of}

-- earlier lines

-- a line with this number, if one is named
abbrev pub IsLineIfNamed : List Line → Option ℕ → Type 0
IsLineIfNamed lines None = Unit {0}
IsLineIfNamed lines (Some a) = a < length lines

-- each line and each hypothesis that is named is there
abbrev pub HasParents : List Tree → List Line → StepRule → Type 0
HasParents hypotheses lines (assume h) = h < length hypotheses
HasParents hypotheses lines (convert p) = p < length lines
HasParents hypotheses lines (inst p sigma) = p < length lines
HasParents hypotheses lines (para p i s q j r path) = (p < length lines) × (q < length lines)
HasParents hypotheses lines (arrange p) = p < length lines
HasParents hypotheses lines (drop_literal p i) = p < length lines
HasParents hypotheses lines (take_apart p i kind a) = (p < length lines) × IsLineIfNamed lines a
HasParents hypotheses lines (bool_ext p i half) = p < length lines
HasParents hypotheses lines (func_ext p i a) = (p < length lines) × IsLineIfNamed lines a
HasParents hypotheses lines (decompose p i) = p < length lines
HasParents hypotheses lines reflexivity = Unit {0}
HasParents hypotheses lines choose = Unit {0}
HasParents hypotheses lines (factor p i j) = p < length lines
HasParents hypotheses lines (abbreviate s) = Unit {0}

-- literals

abbrev pub IsLiteralOf : List Line → ℕ → ℕ → Type 0
IsLiteralOf lines p i = i < length (clause_of lines p).literals

-- each literal that is named is there, and those of a factor are two
abbrev pub HasLiterals : List Line → StepRule → Type 0
HasLiterals lines (para p i s q j r path) = IsLiteralOf lines p i × IsLiteralOf lines q j
HasLiterals lines (drop_literal p i) = IsLiteralOf lines p i
HasLiterals lines (take_apart p i kind a) = IsLiteralOf lines p i
HasLiterals lines (bool_ext p i half) = IsLiteralOf lines p i
HasLiterals lines (func_ext p i a) = IsLiteralOf lines p i
HasLiterals lines (decompose p i) = IsLiteralOf lines p i
HasLiterals lines (factor p i j) = IsLiteralOf lines p i × IsLiteralOf lines p j × (i ≡ j → ⊥)
HasLiterals lines (assume h) = Unit {0}
HasLiterals lines (convert p) = Unit {0}
HasLiterals lines (inst p sigma) = Unit {0}
HasLiterals lines (arrange p) = Unit {0}
HasLiterals lines reflexivity = Unit {0}
HasLiterals lines choose = Unit {0}
HasLiterals lines (abbreviate s) = Unit {0}

-- places

-- a term stands at the path
abbrev pub LeadsTo : List ℕ → Tree → Type 0
LeadsTo path t = IsSomeAnd (subterm path t) (λ s. Unit {0})

abbrev pub HasPlace : List Line → StepRule → Type 0
HasPlace lines (para p i s q j r path) = IsSomeAnd (literal_of lines q j) (λ k. LeadsTo path (side_of r k))
HasPlace lines (assume h) = Unit {0}
HasPlace lines (convert p) = Unit {0}
HasPlace lines (inst p sigma) = Unit {0}
HasPlace lines (arrange p) = Unit {0}
HasPlace lines (drop_literal p i) = Unit {0}
HasPlace lines (take_apart p i kind a) = Unit {0}
HasPlace lines (bool_ext p i half) = Unit {0}
HasPlace lines (func_ext p i a) = Unit {0}
HasPlace lines (decompose p i) = Unit {0}
HasPlace lines reflexivity = Unit {0}
HasPlace lines choose = Unit {0}
HasPlace lines (factor p i j) = Unit {0}
HasPlace lines (abbreviate s) = Unit {0}

-- types

-- each variable, of which these are the types, is given a term of its type over the new variables
abbrev pub AreTermsFor : List SimpleType → List SimpleType → List Tree → Type 0
AreTermsFor new [] [] = Unit {0}
AreTermsFor new [] (t ∷ ts) = ⊥
AreTermsFor new (a ∷ types) [] = ⊥
AreTermsFor new (a ∷ types) (t ∷ ts) = (type_of t ≡ a) × IsOver new 0 t × AreTermsFor new types ts

-- one constant at two types is never decomposed
abbrev pub HaveOneType : Connective → Connective → Type 0
HaveOneType (equality a) (equality b) = a ≡ b
HaveOneType (universal a) (universal b) = a ≡ b
HaveOneType (existential a) (existential b) = a ≡ b
HaveOneType (choice a) (choice b) = a ≡ b
HaveOneType _ _ = Unit {0}

-- the functions of two applications, or the constants, have one type
abbrev pub HaveOneHeadType : Tree → Tree → Type 0
HaveOneHeadType (app f x) (app g y) = type_of f ≡ type_of g
HaveOneHeadType (logic c x y) (logic d z w) = HaveOneType c d
HaveOneHeadType _ _ = Unit {0}

-- the types of variables for a property of things, and for a thing
abbrev pub AreChoiceVariables : List SimpleType → Type 0
AreChoiceVariables variables = (a : SimpleType) × (variables ≡ arrow a truth_type ∷ a ∷ [])

-- what the rule names has the types that it asks for. (In a typed parent each variable is one of its own, so that it is given a term of its
-- type, and both sides of a literal have one type.)
abbrev pub RuleHasTypes : List Line → List SimpleType → StepRule → Type 0
RuleHasTypes lines variables (inst p sigma) = AreTermsFor variables (clause_of lines p).variables sigma × AreGiven sigma (clause_of lines p).literals
RuleHasTypes lines variables (para p i s q j r path) =
    IsSomeAnd (literal_of lines p i) (λ l. IsSomeAnd (literal_of lines q j) (λ k. IsSomeAnd (subterm path (side_of r k)) (λ t. type_of (side_of s l) ≡ type_of t)))
RuleHasTypes lines variables (bool_ext p i half) = IsSomeAnd (literal_of lines p i) (λ l. literal_type l ≡ truth_type)
RuleHasTypes lines variables (func_ext p i a) = IsSomeAnd (literal_of lines p i) (λ l. IsArrowType (literal_type l) × (type_of l.left ≡ type_of l.right))
RuleHasTypes lines variables (decompose p i) = IsSomeAnd (literal_of lines p i) (λ l. HaveOneHeadType l.left l.right)
RuleHasTypes lines variables choose = AreChoiceVariables variables
RuleHasTypes lines variables (factor p i j) = IsSomeAnd (literal_of lines p i) (λ l. IsSomeAnd (literal_of lines p j) (λ k. literal_type l ≡ literal_type k))
RuleHasTypes lines variables (assume h) = Unit {0}
RuleHasTypes lines variables (convert p) = Unit {0}
RuleHasTypes lines variables (arrange p) = Unit {0}
RuleHasTypes lines variables (drop_literal p i) = Unit {0}
RuleHasTypes lines variables (take_apart p i kind a) = Unit {0}
RuleHasTypes lines variables reflexivity = Unit {0}
RuleHasTypes lines variables (abbreviate s) = Unit {0}

-- the step's clause is typed, and so is what the rule names
pub record HasTypes (lines : List Line) (step : Line) : Type 0 where
  pub clause_typed : IsTyped step.clause
  pub rule_typed : RuleHasTypes lines step.clause.variables step.rule
