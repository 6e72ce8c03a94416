use Rattle.std.proofs.Common.{refl, sym}
use Rattle.std.specs.Option.{option_copied}
use Rattle.leo_problem.specs.Loading.{theory_of}
use Rattle.leo_problem.specs.Theories.{says}
use Rattle.leo_top.specs.Answers.{AnswersFile, AnswersProblem}
use Rattle.leo_top.specs.Refusals.{refused_status}
use Rattle.leo_top.proofs.Answering.{fixed, answers_weaker, problem_answered, refused_answered}
use Rattle.leo_top.proofs.answer.answer_file.Goals as goal

pub returns-in-Ok : goal.returns-in-Ok
returns-in-Ok g c =
    answers_weaker (AnswersProblem c.args.file.now c.args.settings (says (theory_of c.in-Ok.problem)))
    (AnswersFile c.args.file.now (option_copied c.args.root) c.args.settings (g.F.Files.content c.args.files.now) (g.F.Files.faults c.args.files.now) (g.F.Files.faults c.load.new.files) (g.F.Files.failed c.load.new.files))
    c.answer_problem.result (problem_answered refl c.in-Ok.ensures.says tt) c.answer_problem.ensures

pub returns-in-Err-Refused : goal.returns-in-Err-Refused
returns-in-Err-Refused g c =
    fixed
    (AnswersFile c.args.file.now (option_copied c.args.root) c.args.settings (g.F.Files.content c.args.files.now) (g.F.Files.faults c.args.files.now) (g.F.Files.faults c.load.new.files) (g.F.Files.failed c.load.new.files))
    c.refused.result (refused_status c.in-Err-Refused.what) _
    (refused_answered (sym c.as_bytes.ensures.value) c.in-Err-Refused.field-0 c.in-Err-Refused.field-0-is c.in-Err-Refused.ensures.refusal c.in-Err-Refused.ensures.fault (rw c.in-Err-Refused.field-0-is at c.as_slice.ensures))
    (rw c.in-Err-Refused.field-0-is at c.refused.ensures.status) (rw c.in-Err-Refused.field-0-is at c.refused.ensures.text)
