use Rattle.std.proofs.Common.{sym, subst, codes, [], ◌∷◌}
use Rattle.std.specs.Prelude.{Ok, Err}
use Rattle.leo_command.specs.Commands.{IsAskedOf, IsSearchIn, leo3_app}
use Rattle.std.proofs.lemmas.List.{append-nil}
use Rattle.leo_top.specs.declared.status.Status.TheVariants.{MemoryOut, Shown, UsageError}
use Rattle.leo_top.specs.Answers.{by_usage, by_request, by_no_memory, status_word}
use Rattle.leo_top.specs.Texts.{status_line}
use Rattle.leo_top.proofs.Answering.{lines_written, not_taken, settings_within, with_children}
use Rattle.leo_top.proofs.alone.answered.Goals as goal

pub searched-requires : goal.searched-requires
searched-requires g c =
    settings_within c.args.words.now c.in-Ok-Work.search (subst (λ a. IsAskedOf leo3_app IsSearchIn c.args.words.now (Ok a)) c.in-Ok-Work.field-0-is c.in-Ok-Work.ensures)

pub returns-in-Ok-Work-clause-answer : goal.returns-in-Ok-Work-clause-answer
returns-in-Ok-Work-clause-answer g c = record {
  due = UsageError;
  lines = status_line (status_word UsageError) (codes "leo3") ∷ [];
  answers = by_usage (with_children c.args.words.now c.in-Ok-Work.search (subst (λ a. IsAskedOf leo3_app IsSearchIn c.args.words.now (Ok a)) c.in-Ok-Work.field-0-is c.in-Ok-Work.ensures) c.if-search-eq0.false);
  written = c.usage.ensures.written;
}

pub returns-in-Ok-Print-clause-answer : goal.returns-in-Ok-Print-clause-answer
returns-in-Ok-Print-clause-answer g c = record {
  due = Shown;
  lines = c.as_bytes.result.now ∷ [];
  answers = by_request (subst (λ a. IsAskedOf leo3_app IsSearchIn c.args.words.now (Ok a)) c.in-Ok-Print.field-0-is c.in-Ok-Print.ensures);
  written = lines_written _ (c.as_bytes.result.now ∷ []) _ _ _ _ _ (sym (append-nil c.as_bytes.result.now)) c.written.ensures.written;
}

pub returns-in-Err-Usage-clause-answer : goal.returns-in-Err-Usage-clause-answer
returns-in-Err-Usage-clause-answer g c =
    let none = subst (λ e. IsAskedOf leo3_app IsSearchIn c.args.words.now (Err e)) c.in-Err-Usage.field-0-is c.in-Err-Usage.ensures in
    record {
      due = UsageError;
      lines = status_line (status_word UsageError) (codes "leo3") ∷ [];
      answers = by_usage (not_taken c.args.words.now none.0 none.1);
      written = c.usage-in-Err-Usage.ensures.written;
    }

pub returns-clause-answer : goal.returns-clause-answer
returns-clause-answer g c = record {
  due = MemoryOut;
  lines = status_line (status_word MemoryOut) (codes "leo3") ∷ [];
  answers = by_no_memory;
  written = c.no_memory.ensures.written;
}
