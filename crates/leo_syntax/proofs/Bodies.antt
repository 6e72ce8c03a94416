-- Bodies some levels further in.
use Rattle.std.proofs.Common.{◌≡◌, ℕ, zero, suc, ◌+◌, ◌<◌, refl, arith}
use Rattle.std.specs.Prelude.{Err}
use Rattle.leo_syntax.specs.Lexemes.{Ahead}
use Rattle.leo_syntax.specs.Reading as read
use Rattle.leo_syntax.specs.Reading.{Read}

pub body_within : (end left levels beyond : ℕ) (ls : Ahead) → left ≡ levels + beyond → read.body end left levels ls ≡ read.unary end beyond ls
unfolding read.unary
body_within end zero zero zero ls h = refl
body_within end zero zero (suc beyond) ls h = absurd (omega arith)
body_within end zero (suc levels) beyond ls h = absurd (omega arith)
body_within end (suc left) zero beyond ls h = let e : beyond ≡ suc left = omega arith in rw e refl
body_within end (suc left) (suc levels) beyond ls h = body_within end left levels beyond ls (omega arith)

pub body_deep : (end left levels : ℕ) (ls : Ahead) → left < levels → read.body end left levels ls ≡ Err (read.deep_at end ls)
unfolding read.unary
body_deep end zero levels ls h = refl
body_deep end (suc left) zero ls h = absurd (omega arith)
body_deep end (suc left) (suc levels) ls h = body_deep end left levels ls (omega arith)
