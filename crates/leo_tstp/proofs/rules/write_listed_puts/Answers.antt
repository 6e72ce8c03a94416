use Rattle.std.proofs.Common.{ℕ, suc, List, ap, ◌∙◌, slice_get}
use Rattle.leo_tstp.proofs.rules.write_listed_puts.Goals as goal

pub write_put-requires : goal.write_put-requires
write_put-requires c = c.requires 0 _ (ap (λ (xs : List ℕ). slice_get xs 0) c.in-Some.ensures.cases.0)

pub write_further_puts-requires : goal.write_further_puts-requires
write_further_puts-requires c = λ n t e. c.requires (suc n) t (ap (λ (xs : List ℕ). slice_get xs (suc n)) c.in-Some.ensures.cases.0 ∙ e)
