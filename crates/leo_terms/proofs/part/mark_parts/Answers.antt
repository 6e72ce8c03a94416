use Rattle.std.proofs.Common.{sym, ◌∙◌, inl, inr}
use Rattle.leo_terms.proofs.part.mark_parts.Goals as goal

pub mark-requires : goal.mark-requires
mark-requires c = λ i e. c.requires i (inl (sym c.first_part.ensures ∙ e))

pub mark-requires-2 : goal.mark-requires-2
mark-requires-2 c = λ i e. rw c.mark.ensures.same_length (c.requires i (inr (sym c.second_part.ensures ∙ e)))
