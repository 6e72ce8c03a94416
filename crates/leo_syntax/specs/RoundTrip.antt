-- What it means that statements which are written are read back.
use Rattle.std.specs.Prelude.{◌≡◌, List, map, length}
use Rattle.leo_lex.specs.declared.token.Token.{Token}
use Rattle.leo_lex.specs.Cut.{AreTokens}
use Rattle.leo_syntax.specs.declared.tree.Statement.{Statement}
use Rattle.leo_syntax.specs.Lexemes.{lexemes}
use Rattle.leo_syntax.specs.Rules.{file_outcome, accepted}
use Rattle.leo_syntax.specs.Grammar.{IsFile}
use Rattle.leo_syntax.specs.Texts.{list_written}
use Rattle.leo_syntax.specs.Bare.{bare_statement}

-- the text of these statements has tokens, which are a text of the grammar within the levels, of statements that are the same but for bytes
pub record IsReadBack (list : List Statement) : Type 0 where
  pub tokens : List Token
  pub are_tokens : AreTokens (list_written list) tokens
  pub statements : List Statement
  pub grammar : IsFile (lexemes (list_written list) tokens) statements
  pub taken : file_outcome (length (list_written list)) (lexemes (list_written list) tokens) ≡ accepted
  pub same : map bare_statement statements ≡ map bare_statement list
