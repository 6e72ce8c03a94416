-- Annotations, one token after the other.
use Rattle.std.proofs.Common.{◌≡◌, ℕ, ◌≤◌, List, [], ◌∷◌, length, refl}
use Rattle.std.specs.Prelude.{Err}
use Rattle.leo_syntax.specs.declared.classes.Shape.{Shape}
use Rattle.leo_syntax.specs.declared.source.Source.{Source}
use Rattle.leo_syntax.specs.Lexemes.{Ahead}
use Rattle.leo_syntax.specs.Grammar.{bracket_at}
use Rattle.leo_syntax.specs.Reading as read
use Rattle.leo_syntax.specs.Reading.{rest}
use Rattle.leo_syntax.specs.Source.{ahead, end_of}
use Rattle.leo_syntax.proofs.Sources.{ahead_none}

pub annotated_next : (end : ℕ) (due : List Shape) (ls : Ahead) → read.annotated end due ls ≡ read.annotated_by (bracket_at ls) end (λ others. read.annotated end others (rest ls)) due ls
unfolding read.annotated rest bracket_at
annotated_next end due [] = refl
annotated_next end due (l ∷ ls) = refl

nothing : (end : ℕ) (due : List Shape) → read.annotated end due [] ≡ Err (read.syntax_at end [])
unfolding read.annotated read.syntax_at
nothing end due = refl

pub annotated_none : (s : Source) (at : ℕ) (due : List Shape) → length s.tokens.now ≤ at → read.annotated (end_of s) due (ahead s at) ≡ Err (read.syntax_at (end_of s) (ahead s at))
annotated_none s at due h = rw (ahead_none s at h) (nothing (end_of s) due)
