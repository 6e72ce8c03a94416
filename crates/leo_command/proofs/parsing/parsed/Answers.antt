use Rattle.std.proofs.Common.{◌≡◌, ◌&&◌, true, false, refl, map, Bool}
use Rattle.clap.specs.Words.{app_of}
use Rattle.leo_command.proofs.Parses.{refused_parse}
use Rattle.leo_command.proofs.parsing.parsed.Goals as goal

left_true : (a b : Bool) → (a && b) ≡ true → a ≡ true
left_true true b h = refl
left_true false b h = cc

pub returns-in-Ok : goal.returns-in-Ok
returns-in-Ok c = (c.in-Ok.ensures.kinds c.requires.simple, (c.in-Ok.ensures.matches (left_true _ _ c.requires.simple)).0)

pub returns-in-Err : goal.returns-in-Err
returns-in-Err c = refused_parse (app_of c.args.command) (map (λ w. w.now) c.args.words.now) _ _ c.refused.ensures (c.in-Err.ensures.kinds c.requires.simple)
