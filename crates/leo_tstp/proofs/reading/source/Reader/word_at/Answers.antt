use Rattle.std.proofs.Common.{◌∙◌, refl}
use Rattle.std.proofs.lemmas.Option.{slice_get_read, slice_get_past}
use Rattle.leo_tstp.proofs.Ahead.{first-some, first-none}
use Rattle.leo_tstp.proofs.reading.source.Reader.word_at.Goals as goal

pub returns-in-Some : goal.returns-in-Some
returns-in-Some c = let h = c.in-Some.ensures.lookup in c.text_at.ensures ∙ first-some _ _ _ c.in-Some.token.now (slice_get_read _ _ _ c.in-Some.token.now refl h.3.0 h.1)

pub returns-in-None : goal.returns-in-None
returns-in-None c = let h = c.in-None.ensures.lookup in first-none _ _ _ (slice_get_past _ _ h.3)
