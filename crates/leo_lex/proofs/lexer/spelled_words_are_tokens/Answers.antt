use Rattle.leo_lex.proofs.Spelling.{has_tokens}
use Rattle.leo_lex.proofs.lexer.spelled_words_are_tokens.Goals as goal

pub returns : goal.returns
returns c = has_tokens
