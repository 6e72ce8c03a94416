use Rattle.std.proofs.Common.{rules, ◌≡◌, ◌∙◌, ap₂, codes}
use Rattle.std.proofs.lemmas.Result.{IfOk-weaker}
use Rattle.clap.specs.Words.{app_of, rule_of, with_rule}
use Rattle.leo_command.specs.Commands.{program, default_rule, option_rule, word_rule}
use Rattle.leo_command.proofs.leo3.command.Goals as goal

pub returns : goal.returns
returns c =
    let start : app_of c.program-leo3.result ≡ program (codes "leo3") = search rules in
    let turns_is : rule_of c.option_or-turns.result ≡ default_rule (codes "turns") (codes "20000") = search rules in
    let turns = c.in_ok-leo3.ensures ∙ ap₂ with_rule start turns_is in
    let every_is : rule_of c.option_or-every.result ≡ default_rule (codes "every") (codes "200") = search rules in
    let every = c.in_ok-leo3-2.ensures ∙ ap₂ with_rule turns every_is in
    let children_is : rule_of c.option_or-children.result ≡ default_rule (codes "children") (codes "0") = search rules in
    let children = c.in_ok-leo3-3.ensures ∙ ap₂ with_rule every children_is in
    let child_is : rule_of c.option_or-child.result ≡ default_rule (codes "child") (codes "leo3_fo") = search rules in
    let child = c.in_ok-leo3-4.ensures ∙ ap₂ with_rule children child_is in
    let depth_is : rule_of c.option_or-depth.result ≡ default_rule (codes "depth") (codes "4") = search rules in
    let depth = c.in_ok-leo3-5.ensures ∙ ap₂ with_rule child depth_is in
    let weight_is : rule_of c.option_or-weight.result ≡ default_rule (codes "weight") (codes "256") = search rules in
    let weight = c.in_ok-leo3-6.ensures ∙ ap₂ with_rule depth weight_is in
    let patience_is : rule_of c.option_or-patience.result ≡ default_rule (codes "patience") (codes "10000") = search rules in
    let patience = c.in_ok-leo3-7.ensures ∙ ap₂ with_rule weight patience_is in
    let root_is : rule_of c.option-root.result ≡ option_rule (codes "root") = search rules in
    let root = c.in_ok-leo3-8.ensures ∙ ap₂ with_rule patience root_is in
    let file_is : rule_of c.word-file.result ≡ word_rule (codes "file") = search rules in
    IfOk-weaker c.with-9.result _ _ (λ k h. h ∙ ap₂ with_rule root file_is) c.with-9.ensures
