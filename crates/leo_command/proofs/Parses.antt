-- What the errors of a parse come to.
use Rattle.std.proofs.Common.{◌≡◌, ◌⊎◌, inl, inr, subst, List}
use Rattle.std.specs.Prelude.{Result, Ok, Err}
use Rattle.clap.specs.Words.{App, Text, IsAmong, fault_of}
use Rattle.clap.specs.declared.error.kind.ErrorKind.{ErrorKind}
use Rattle.clap.specs.declared.error.kind.ErrorKind.TheVariants.{OutOfMemory}
use Rattle.leo_command.specs.Commands.{IsParse, IsRefused}
use Rattle.leo_command.specs.declared.asked.CommandRefusal.{CommandRefusal}
use Rattle.leo_command.specs.declared.asked.CommandRefusal.TheVariants.{Usage, Memory}
use Rattle.leo_command.specs.declared.parsing.Parse.{Parse}
use Rattle.leo_command.specs.declared.parsing.Parse.TheVariants.{Matches}
use Rattle.leo_command.specs.declared.parsing.Parse.TheVariants as parse

pub refused_parse : (app : App) (words : List Text) (kind : ErrorKind) (r : Result Parse CommandRefusal) → IsRefused kind r
    → (kind ≡ OutOfMemory) ⊎ IsAmong kind (fault_of app words) → IsParse app words r
refused_parse app words kind (Ok (Matches m)) refused k = absurd refused
refused_parse app words kind (Ok (parse.Text t)) (inl e) (inl full) = cc
refused_parse app words kind (Ok (parse.Text t)) (inr e) (inl full) = cc
refused_parse app words kind (Ok (parse.Text t)) (inl e) (inr among) = inl (subst (λ k. IsAmong k (fault_of app words)) e among)
refused_parse app words kind (Ok (parse.Text t)) (inr e) (inr among) = inr (subst (λ k. IsAmong k (fault_of app words)) e among)
refused_parse app words kind (Err Usage) refused (inl full) = absurd (refused.2 full)
refused_parse app words kind (Err Usage) refused (inr among) = record { kind = kind; among = among; no_help = refused.0; no_version = refused.1 }
refused_parse app words kind (Err Memory) refused k = tt
