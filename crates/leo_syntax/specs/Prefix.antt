-- The front of a text, and how it may go on.
use Rattle.std.specs.Prelude.{◌≡◌, ◌≤◌, List, [], ◌∷◌, ◌++◌}
use Rattle.leo_syntax.specs.declared.refusal.ReadRefusal.{ReadRefusal}
use Rattle.leo_syntax.specs.declared.refusal.ReadRefusal.TheVariants.{Deep}
use Rattle.leo_syntax.specs.Lexemes.{Lexeme, Ahead}
use Rattle.leo_syntax.specs.Rules.{Part, statement, reaches, typing, operand_type, unary, side, argument, inside, variable, variables, max_level, accepted, refused, Outcome, outcome, Step, goes_on, stops, step}

-- what is looked for after these tokens, or why the first of them that is refused is
abbrev pub then_steps : Step → (List Part → Step) → Step
then_steps (goes_on parts) next = next parts
then_steps (stops e) next = stops e

unfoldable pub steps : Ahead → List Part → Step
steps [] parts = goes_on parts
steps (l ∷ ls) parts = then_steps (step parts l) (steps ls)

abbrev pub file_steps : Ahead → Step
file_steps ls = steps ls (statement ∷ [])

-- each token is taken, or one stands beyond the last level
abbrev pub IsTaken : Outcome → Type 0
IsTaken accepted = Unit {0}
IsTaken (refused (Deep byte)) = Unit {0}
IsTaken _ = ⊥

-- some file begins with these tokens
abbrev pub GoesOn : Ahead → Type 0
GoesOn ls = (more : Ahead) × (outcome 0 (ls ++ more) (statement ∷ []) ≡ accepted)

-- the first token that is refused, and how
pub record StopsWith (ls : Ahead) (e : ReadRefusal) : Type 0 where
  pub before : Ahead
  pub token : Lexeme
  pub after : Ahead
  pub parts : List Part
  pub ahead_is : ls ≡ before ++ token ∷ after
  pub taken : file_steps before ≡ goes_on parts
  pub stops_at : step parts token ≡ stops e

abbrev pub PartInLevels : Part → Type 0
PartInLevels (reaches level) = level ≤ max_level
PartInLevels (typing level) = level ≤ max_level
PartInLevels (operand_type level) = level ≤ max_level
PartInLevels (unary level) = level ≤ max_level
PartInLevels (side level) = level ≤ max_level
PartInLevels (argument level) = level ≤ max_level
PartInLevels (inside level) = level ≤ max_level
PartInLevels (variable level) = level ≤ max_level
PartInLevels (variables level body) = body ≤ max_level
PartInLevels _ = Unit {0}

-- no part is looked for beyond the last level
abbrev pub InLevels : List Part → Type 0
InLevels [] = Unit {0}
InLevels (p ∷ ps) = PartInLevels p × InLevels ps
