use Rattle.clausify_rows.proofs.telling.put_answer.Goals as goal

pub put_choices-requires : goal.put_choices-requires
put_choices-requires g c = rw c.as_slice-choices.ensures c.requires.choices_of
