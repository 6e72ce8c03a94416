use Rattle.leo_terms.proofs.CallerLemmas.{extends-itself}
use Rattle.leo_tstp.proofs.Problems.{problem-kept}
use Rattle.leo_tstp.proofs.Stepped.{steps-of, typed-of, symbols-of}
use Rattle.leo_tstp.proofs.text.read.Goals as goal

pub returns-in_err-steps-in-Ok-clause-problem : goal.returns-in_err-steps-in-Ok-clause-problem
returns-in_err-steps-in-Ok-clause-problem c = problem-kept c.args.problem.now c.read_tokens.new.problem c.read_tokens.ensures.grows c.read_tokens.ensures.stays c.requires.problem

pub returns-in_ok-steps-in-Ok-clause-steps : goal.returns-in_ok-steps-in-Ok-clause-steps
returns-in_ok-steps-in-Ok-clause-steps c = steps-of _ c.in_ok-steps-in-Ok.ensures.read

pub returns-in_ok-steps-in-Ok-clause-typed : goal.returns-in_ok-steps-in-Ok-clause-typed
returns-in_ok-steps-in-Ok-clause-typed c = typed-of _ c.in_ok-steps-in-Ok.ensures.read

pub returns-in_ok-steps-in-Ok-clause-symbols : goal.returns-in_ok-steps-in-Ok-clause-symbols
returns-in_ok-steps-in-Ok-clause-symbols c = symbols-of _ c.in_ok-steps-in-Ok.ensures.read

pub returns-in_ok-steps-in-Ok-clause-problem : goal.returns-in_ok-steps-in-Ok-clause-problem
returns-in_ok-steps-in-Ok-clause-problem c = problem-kept c.args.problem.now c.read_tokens.new.problem c.read_tokens.ensures.grows c.read_tokens.ensures.stays c.requires.problem

pub returns-in-Err-Lexical-clause-problem : goal.returns-in-Err-Lexical-clause-problem
returns-in-Err-Lexical-clause-problem c = problem-kept c.args.problem.now c.refused_before.new.problem c.refused_before.ensures.grows c.refused_before.ensures.stays c.requires.problem

pub returns-in-Err-Memory-clause-grows : goal.returns-in-Err-Memory-clause-grows
returns-in-Err-Memory-clause-grows c = extends-itself c.is_sound.ensures.sound
