use Rattle.std.proofs.Common.{ℕ, ◌≡◌, Some}
use Rattle.std.specs.Prelude.{slice_get, slice_index_or}
use Rattle.std.proofs.lemmas.Option.{get_or_from_slice_get}
use Rattle.fo_kbo.specs.Tallies.{occurs_between}
use Rattle.fo_kbo.proofs.Tallying.{AreCounts-variable}
use Rattle.fo_kbo.proofs.tally.Tally.add_variable.Goals as goal

pub returns-then-self-number-lt18446744073709551615 : goal.returns-then-self-number-lt18446744073709551615
returns-then-self-number-lt18446744073709551615 c ns a p l h t s =
    let n : ℕ = occurs_between c.args.variable ns a p in
    let e : slice_get c.args.self.now.counts c.args.variable ≡ Some n = (t s).small c.args.variable c.if-number-lt-COUNTED.true in
    let same : slice_index_or c.args.self.now.counts c.args.variable 0 ≡ n = get_or_from_slice_get c.args.self.now.counts c.args.variable n 0 e in
    rw same (AreCounts-variable ns a p c.args.variable n c.args.self.now.counts l h e c.if-number-lt-COUNTED.true (t s))
