use Rattle.std.proofs.Common.{◌≡◌, ◌∙◌, sym, ap, refl, slice_get, Some}
use Rattle.leo_tstp.specs.declared.reading.trees.Parsed.TheVariants as parsed
use Rattle.leo_tstp.proofs.TermSteps.{found-at, some-same, found-some, found-none}
use Rattle.leo_tstp.proofs.reading.source.Reader.variable.Goals as goal

pub returns-in_err-ty : goal.returns-in_err-ty
returns-in_err-ty c =
    λ v vs s a h small k.
    let n = some-same _ _ (sym c.in_ok-place.was ∙ c.small.ensures small) in
    let e : c.number_at.result ≡ slice_get c.args.self.now.variables.items c.args.number = c.number_at.ensures ∙ (ap (λ l. slice_get l c.in_ok-place.place) c.as_slice.ensures.value ∙ ap (λ k. slice_get c.args.self.now.variables.items k) n) in
    absurd (found-none _ c.number_at.result c.in_err-ty.was (found-at v c.args.self.now vs s c.args.number a c.number_at.result h k e))

pub returns : goal.returns
returns c =
    λ v vs s a h small k.
    let n = some-same _ _ (sym c.in_ok-place.was ∙ c.small.ensures small) in
    let e : c.number_at.result ≡ slice_get c.args.self.now.variables.items c.args.number = c.number_at.ensures ∙ (ap (λ l. slice_get l c.in_ok-place.place) c.as_slice.ensures.value ∙ ap (λ k. slice_get c.args.self.now.variables.items k) n) in
    record {
      says = ap parsed.Variable n;
      place = found-some _ c.number_at.result c.in_ok-ty.ty c.in_ok-ty.was (found-at v c.args.self.now vs s c.args.number a c.number_at.result h k e);
    }
