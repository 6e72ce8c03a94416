use Rattle.std.proofs.Common.{◌∙◌, sym}
use Rattle.leo_tstp.proofs.Stepped.{steps-of, symbols-of}
use Rattle.leo_tstp.proofs.Worded.{tokens_fit, tokens_fit-same}
use Rattle.leo_tstp.proofs.text.compared.Goals as goal

pub text_of-requires-clause-lines : goal.text_of-requires-clause-lines
text_of-requires-clause-lines c = steps-of c.args.steps.now c.requires.steps

pub text_of-requires-clause-symbols : goal.text_of-requires-clause-symbols
text_of-requires-clause-symbols c = symbols-of c.args.steps.now c.requires.steps

pub first_difference-requires-clause-fit : goal.first_difference-requires-clause-fit
first_difference-requires-clause-fit c = tokens_fit c.args.bytes.now c.args.found.now c.requires.tokens

pub first_difference-requires-clause-others_fit : goal.first_difference-requires-clause-others_fit
first_difference-requires-clause-others_fit c = tokens_fit-same c.deref.result.now c.deref-in-Ok.result.now c.in-Ok.others.items c.deref-in-Ok-2.result.now (c.deref.ensures.value ∙ sym c.deref-in-Ok.ensures.value) (sym c.deref-in-Ok-2.ensures.value) c.in-Ok.ensures.tokens
