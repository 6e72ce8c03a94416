use Rattle.std.proofs.Common.{◌≡◌}
use Rattle.std.specs.Prelude.{map}
use Rattle.fo_terms.specs.Terms.{Terms}
use Rattle.fo_terms.specs.Prefix.{prefix_of_all}
use Rattle.fo_text.specs.Problems.{AreSorts, HaveSorts}
use Rattle.fo_replay.specs.Replays.{node_as_word}
use Rattle.fo_replay.specs.Instances.{numbers_as_words}
use Rattle.fo_replay.proofs.Instancing.{untyped}
use Rattle.fo_replay.proofs.instance.instance_by.Goals as goal

pub returns-in-None : goal.returns-in-None
returns-in-None c =
    let a = c.args in
    let v : (a.front.now ≡ numbers_as_words c.in-Some.vars) × AreSorts a.sorts c.in-Some.vars = rw c.in-Some.is at c.in_ok-vars.ensures in
    let never : (ts : Terms) → a.back.now ≡ map node_as_word (prefix_of_all ts) → HaveSorts c.as_slice.result.now a.syms.now ts c.as_slice-2.result.now → ⊥ = rw c.in-None.is at c.in_ok-found.ensures in
    untyped a.sorts a.syms.now a.clause.now a.front.now a.back.now c.in-Some.vars c.as_slice.result.now c.as_slice-2.result.now v.0 c.as_slice.ensures c.as_slice-2.ensures never
