use Rattle.std.proofs.Common.{◌≤◌, ◌∙◌, suc, add-one, arith, refl}
use Rattle.std.proofs.lemmas.Option.{slice_get_within}
use Rattle.fo_terms.specs.Bindings.{LeadsPast}
use Rattle.fo_terms.proofs.Resolving.{same_along, IsBoundAt-variable}
use Rattle.fo_terms.proofs.bindings.Bindings.resolve.Goals as goal

pub loop-number-smaller : goal.loop-number-smaller
loop-number-smaller c =
    let inside = slice_get_within c.args.self.now.made.items c.in-Some.number c.binding-here.result c.binding-here.ensures in
    let at = IsBoundAt-variable c.args.places.now.nodes.items c.args.self.now.made.items c.in-Some.number c.loop-number.here c.binding-here.result c.in-Some.ensures c.binding-here.ensures in
    let past : c.loop-number.passed ≤ c.in-Some.number = c.loop-number.invariant.1 c.binding-here.result.variable c.in-Some.number at (c.binding-here.result, c.binding-here.ensures, refl) in
    omega arith

pub loop-number-preserved : goal.loop-number-preserved
loop-number-preserved c =
    let at = IsBoundAt-variable c.args.places.now.nodes.items c.args.self.now.made.items c.in-Some.number c.loop-number.here c.binding-here.result c.in-Some.ensures c.binding-here.ensures in
    let later : LeadsPast c.args.places.now.nodes.items c.args.self.now.made.items (suc c.in-Some.number) c.binding-here.result.place = c.requires.bindings.ordered c.in-Some.number c.binding-here.result c.binding-here.ensures in (
      c.requires.bindings.inside c.in-Some.number c.binding-here.result c.binding-here.ensures,
      rw add-one later,
      (λ r o. same_along c.args.places.now.nodes.items c.args.self.now.made.items r o c.in-Some.number c.loop-number.here c.binding-here.result c.binding-here.ensures at ∙ c.loop-number.invariant.2 r o),
    )
