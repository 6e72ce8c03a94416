-- What lines and hypotheses of a bank always are: their terms are well typed.
use Rattle.std.specs.Prelude.{◌≡◌, List, [], ◌∷◌}
use Rattle.leo_terms.specs.Tree.{Tree, type_of, truth_type}
use Rattle.leo_terms.specs.Typing.{IsWellTyped, IsPresent}
use Rattle.leo_clause.specs.Trees.{Literal}
use Rattle.leo_clause.specs.Typed.{IsOver}
use Rattle.leo_kernel.specs.Steps.{StepRule, assume, convert, inst, para, arrange, drop_literal, take_apart, bool_ext, func_ext, decompose, reflexivity, choose, factor, abbreviate, Line}

-- a term that is well typed
pub record IsTermTree (t : Tree) : Type 0 where
  pub typed : IsWellTyped t
  pub present : IsPresent t

abbrev pub AreTermTrees : List Tree → Type 0
AreTermTrees [] = Unit {0}
AreTermTrees (t ∷ ts) = IsTermTree t × AreTermTrees ts

abbrev pub AreLiteralTrees : List Literal → Type 0
AreLiteralTrees [] = Unit {0}
AreLiteralTrees (l ∷ ls) = IsTermTree l.left × IsTermTree l.right × AreLiteralTrees ls

-- the terms of a rule
abbrev pub rule_terms : StepRule → List Tree
rule_terms (inst p sigma) = sigma
rule_terms (assume h) = []
rule_terms (convert p) = []
rule_terms (para p i side q j place_side path) = []
rule_terms (arrange p) = []
rule_terms (drop_literal p i) = []
rule_terms (take_apart p i k a) = []
rule_terms (bool_ext p i half) = []
rule_terms (func_ext p i a) = []
rule_terms (decompose p i) = []
rule_terms reflexivity = []
rule_terms choose = []
rule_terms (factor p i j) = []
rule_terms (abbreviate s) = []

abbrev pub AreProper : List Line → Type 0
AreProper [] = Unit {0}
AreProper (l ∷ ls) = AreLiteralTrees l.clause.literals × AreTermTrees (rule_terms l.rule) × AreProper ls

-- a hypothesis is a closed formula
pub record IsHypothesis (t : Tree) : Type 0 where
  pub term : IsTermTree t
  pub formula : type_of t ≡ truth_type
  pub closed : IsOver [] 0 t

abbrev pub AreHypotheses : List Tree → Type 0
AreHypotheses [] = Unit {0}
AreHypotheses (t ∷ ts) = IsHypothesis t × AreHypotheses ts
