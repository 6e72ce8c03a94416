use Rattle.std.proofs.Common.{◌≡◌, true, false, max, ap, ◌∙◌}
use Rattle.std.proofs.lemmas.Bool.{false≢true}
use Rattle.leo_tstp.specs.Vocabulary.{marks_in}
use Rattle.leo_tstp.proofs.Wording.{marks-more}
use Rattle.leo_tstp.proofs.namer.most_marks.Goals as goal
use Rattle.leo_tstp.proofs.namer.most_marks.Goals.{in-Some, in_default}

pub loop-place-preserved : goal.loop-place-preserved
loop-place-preserved g c = elim c.match-get_index.branch [
  | in-Some w ↦ marks-more (λ v. v.items) c.args.atoms.now.entries c.loop-place.place c.loop-place.most c.match-get_index.most _ _ _ w.in-Some.ensures.entry
      (w.most-is ∙ (w.larger-most.ensures ∙ ap (max c.loop-place.most) (w.marks_in.ensures ∙ ap marks_in w.as_slice.ensures.value))) c.loop-place.invariant
  | in_default w ↦ let h = c.get_index.ensures.found.1 (rw (← c.len-place-end.ensures.len) c.loop-place-test.true) in let f : false ≡ true = rw w.in_default.is at h in absurd (false≢true f)
]
