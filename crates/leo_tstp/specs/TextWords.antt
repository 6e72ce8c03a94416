-- The words of a text, and which texts are texts of a derivation.
use Rattle.std.specs.Prelude.{ℕ, ◌≡◌, ◌-◌, ◌<◌, ◌≤◌, List, length, map, take, drop, slice_get, slice_index_or, Some}
use Rattle.leo_lex.specs.declared.token.Token.{Token}
use Rattle.leo_lex.specs.Cut.{AreTokens}
use Rattle.leo_terms.specs.Contents.{Contents}
use Rattle.leo_clause.specs.declared.record.StepRecord.{StepRecord}
use Rattle.leo_clause.specs.Typed.{IsTypedIn}
use Rattle.leo_problem.specs.declared.loaded.Problem.{Problem}
use Rattle.leo_tstp.specs.Derivations.{printed}

-- the bytes of a token
abbrev pub word_of : List ℕ → Token → List ℕ
word_of bytes t = take (t.end - t.start) (drop t.start bytes)

abbrev pub words : List ℕ → List Token → List (List ℕ)
words bytes ts = map (word_of bytes) ts

-- two texts have the same tokens: they differ in comments and white space alone
pub record HaveSameTokens (one other : List ℕ) : Type 0 where
  pub first : List Token
  pub second : List Token
  pub are_first : AreTokens one first
  pub are_second : AreTokens other second
  pub same_words : words one first ≡ words other second

-- the bytes are a text of the derivation: they have the tokens of what is printed of it
pub record IsDerivationText (p : Problem) (bytes : List ℕ) (steps : List StepRecord) : Type 0 where
  pub same_tokens : HaveSameTokens bytes (printed p steps)

-- the clause of each line is typed
abbrev pub AreTypedSteps : Contents → List StepRecord → Type 0
AreTypedSteps c steps = (n : ℕ) (s : StepRecord) → slice_get steps n ≡ Some s → IsTypedIn c s.clause

-- tokens that lie in a text. For private contracts
abbrev pub TokensFit : List ℕ → List Token → Type 0
TokensFit bytes ts = (k : ℕ) (d : Token) → k < length ts → ((slice_index_or ts k d).start ≤ (slice_index_or ts k d).end) × ((slice_index_or ts k d).end ≤ length bytes)
