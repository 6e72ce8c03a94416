use Rattle.std.proofs.Common.{◌≡◌, ◌∙◌, sym, ap, refl, slice_get, Some}
use Rattle.leo_tstp.specs.declared.reading.trees.Parsed.TheVariants as parsed
use Rattle.leo_tstp.specs.TermPlaces.{symbol_place}
use Rattle.leo_tstp.proofs.TermSteps.{symbol-at, no-symbol, found-some, found-none}
use Rattle.leo_tstp.proofs.reading.source.Reader.symbol.Goals as goal

pub returns-in_err-ty : goal.returns-in_err-ty
returns-in_err-ty c =
    let f : symbol_place c.args.self.now.lexicon c.args.word.now ≡ Some c.in_ok-place.place = sym c.symbol_named.ensures ∙ c.in_ok-place.was in
    let e : c.number_at.result ≡ slice_get c.args.self.now.lexicon.symbol_types.items c.in_ok-place.place = c.number_at.ensures ∙ ap (λ l. slice_get l c.in_ok-place.place) c.as_slice.ensures.value in
    λ v s a w h. absurd (found-none _ c.number_at.result c.in_err-ty.was (symbol-at v c.args.self.now.lexicon _ s a c.args.word.now c.in_ok-place.place c.number_at.result h w f e).0)

pub returns : goal.returns
returns c =
    let f : symbol_place c.args.self.now.lexicon c.args.word.now ≡ Some c.in_ok-place.place = sym c.symbol_named.ensures ∙ c.in_ok-place.was in
    let e : c.number_at.result ≡ slice_get c.args.self.now.lexicon.symbol_types.items c.in_ok-place.place = c.number_at.ensures ∙ ap (λ l. slice_get l c.in_ok-place.place) c.as_slice.ensures.value in
    λ v s a w h.
    let p = symbol-at v c.args.self.now.lexicon c.args.self.now.types.nodes.keys s a c.args.word.now c.in_ok-place.place c.number_at.result h w f e in
    record { says = (c.in_ok-place.place, refl, p.1); place = found-some _ c.number_at.result c.in_ok-ty.ty c.in_ok-ty.was p.0 }
