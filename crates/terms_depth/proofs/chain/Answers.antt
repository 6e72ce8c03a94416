use Rattle.std.proofs.Common.{◌∙◌}
use Rattle.leo_terms.proofs.CallerLemmas.{extends-trans, arrow-kept, term-kept}
use Rattle.terms_depth.proofs.chain.Goals as goal

pub loop-init : goal.loop-init
loop-init c =
    let e = extends-trans c.make_var.ensures.grows c.make_bound.ensures.grows in
    let k = term-kept c.make_bound.ensures.grows c.in_ok-f.ensures.made in
    let a = rw c.thing-thing.ensures at (arrow-kept e c.in_ok-ty.ensures.made) in
    record {
      function = k.within;
      argument = c.in_ok-t.ensures.made.within;
      from_things = rw k.type_is a;
      thing = c.in_ok-t.ensures.made.type_is ∙ c.thing-thing.ensures;
    }
