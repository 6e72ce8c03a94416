use Rattle.std.proofs.Common.{rules, ◌≡◌, ◌∙◌, ap₂, codes}
use Rattle.std.proofs.lemmas.Result.{IfOk-weaker}
use Rattle.clap.specs.Words.{app_of, rule_of, with_rule}
use Rattle.leo_command.specs.Commands.{program, option_rule, word_rule}
use Rattle.leo_command.proofs.check.command.Goals as goal

pub returns : goal.returns
returns c =
    let start : app_of c.program-check.result ≡ program (codes "leo3_check") = search rules in
    let root_is : rule_of c.option-root.result ≡ option_rule (codes "root") = search rules in
    let root = c.in_ok-check.ensures ∙ ap₂ with_rule start root_is in
    let file_is : rule_of c.word-file.result ≡ word_rule (codes "file") = search rules in
    let file = c.in_ok-check-2.ensures ∙ ap₂ with_rule root file_is in
    let proof_is : rule_of c.word-proof.result ≡ word_rule (codes "proof") = search rules in
    IfOk-weaker c.with-3.result _ _ (λ k h. h ∙ ap₂ with_rule file proof_is) c.with-3.ensures
