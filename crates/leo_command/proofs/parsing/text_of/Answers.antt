use Rattle.std.proofs.Common.{◌∙◌, ap, sym}
use Rattle.std.specs.Prelude.{Some, option_map}
use Rattle.leo_command.proofs.Rows.{first_value-row}
use Rattle.clap.specs.Words.{found_of}
use Rattle.leo_command.proofs.parsing.text_of.Goals as goal

pub returns-in_ok-from_str-in-Some : goal.returns-in_ok-from_str-in-Some
returns-in_ok-from_str-in-Some c =
    ap Some c.in_ok-from_str-in-Some.ensures.ok ∙ (ap (option_map (λ s. s.now)) (sym c.in-Some.is) ∙ (c.get_str.ensures ∙ first_value-row (found_of c.args.matches.now) c.args.id.now))

pub returns-in-None : goal.returns-in-None
returns-in-None c = ap (option_map (λ s. s.now)) (sym c.in-None.is) ∙ (c.get_str.ensures ∙ first_value-row (found_of c.args.matches.now) c.args.id.now)
