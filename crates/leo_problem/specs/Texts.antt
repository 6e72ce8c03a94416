-- What the text of a file says, or why it is refused.
use Rattle.std.specs.Prelude.{◌≡◌, ℕ, List, length}
use Rattle.leo_lex.specs.Cut.{AreTokens, StopsAt}
use Rattle.leo_lex.specs.declared.token.Token.{Token}
use Rattle.leo_lex.specs.declared.token.LexRefusal.{LexRefusal}
use Rattle.leo_lex.specs.declared.token.LexRefusal.TheVariants as lexical
use Rattle.leo_syntax.specs.declared.refusal.ReadRefusal.{ReadRefusal}
use Rattle.leo_syntax.specs.declared.refusal.ReadRefusal.TheVariants as cause
use Rattle.leo_syntax.specs.declared.tree.Statement.{Statement}
use Rattle.leo_syntax.specs.Grammar.{IsFile}
use Rattle.leo_syntax.specs.Lexemes.{lexemes}
use Rattle.leo_syntax.specs.Rules.{file_outcome, accepted, refused}
use Rattle.leo_problem.specs.declared.refusal.LoadRefusal.{LoadRefusal}
use Rattle.leo_problem.specs.declared.refusal.LoadRefusal.TheVariants.{Refused, Memory}
use Rattle.leo_problem.specs.declared.refusal.What.TheVariants as what

-- these are the statements of the text by the grammar, and it has no others
pub record AreStatements (text : List ℕ) (statements : List Statement) : Type 0 where
  pub tokens : List Token
  pub are_tokens : AreTokens text tokens
  pub taken : file_outcome (length text) (lexemes text tokens) ≡ accepted
  pub grammar : IsFile (lexemes text tokens) statements
  pub only : (others : List Statement) → IsFile (lexemes text tokens) others → statements ≡ others

-- the refusal of a file whose text the grammar refuses
abbrev pub text_refusal : List ℕ → ReadRefusal → LoadRefusal
text_refusal file (cause.Syntax byte) = Refused file byte what.Syntax
text_refusal file (cause.Unsupported byte form) = Refused file byte (what.Unsupported form)
text_refusal file (cause.Deep byte) = Refused file byte what.Deep
text_refusal file cause.Memory = Memory

-- the refusal of a file in whose text no token begins
abbrev pub lex_refusal : List ℕ → LexRefusal → LoadRefusal
lex_refusal file (lexical.Lexical byte) = Refused file byte what.Lexical
lex_refusal file lexical.Memory = Memory

-- the text of a file is refused: at the first place where no token begins, or at the first token with which no file goes on
pub data RefusesText (file text : List ℕ) : LoadRefusal → Type 0 where
  no_token : {byte : ℕ} → StopsAt text byte → RefusesText file text (Refused file byte what.Lexical)
  no_file : {tokens : List Token} {e : ReadRefusal} → AreTokens text tokens → file_outcome (length text) (lexemes text tokens) ≡ refused e
      → RefusesText file text (text_refusal file e)
