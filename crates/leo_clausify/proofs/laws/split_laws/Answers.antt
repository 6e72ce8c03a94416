use Rattle.leo_clausify.proofs.SplitOrigins.{choices-from, leaves-from}
use Rattle.leo_clausify.proofs.laws.split_laws.Goals as goal

pub returns : goal.returns
returns c = record { choices = choices-from; leaves = leaves-from }
