-- A unary that begins neither with a negation nor with a binder.
use Rattle.std.proofs.Common.{◌≡◌, ℕ, suc, refl}
use Rattle.leo_syntax.specs.declared.classes.Class.{Class}
use Rattle.leo_syntax.specs.declared.classes.Class.TheVariants as class
use Rattle.leo_syntax.specs.declared.tree.Binder.{Binder}
use Rattle.leo_syntax.specs.Lexemes.{Ahead}
use Rattle.leo_syntax.specs.Grammar.{class_at}
use Rattle.leo_syntax.specs.Reading as read

by : (c : Class) (end beyond : ℕ) (ls : Ahead) → class_at ls ≡ c → (c ≡ class.Not → ⊥) → ((b : Binder) → c ≡ class.Bind b → ⊥) → read.unary end (suc beyond) ls ≡ read.term_above end (suc beyond) beyond ls
unfolding read.unary read.unary_with
by class.Not end beyond ls e n b = absurd (n refl)
by (class.Bind x) end beyond ls e n b = absurd (b x refl)
by _ end beyond ls e n b = rw e refl

pub unary_term : (c : Class) (end left beyond : ℕ) (ls : Ahead) → left ≡ suc beyond → c ≡ class_at ls → (c ≡ class.Not → ⊥) → ((b : Binder) → c ≡ class.Bind b → ⊥) → read.unary end left ls ≡ read.term_above end left beyond ls
unary_term c end left beyond ls h e n b = rw h (by c end beyond ls (rw e refl) n b)
