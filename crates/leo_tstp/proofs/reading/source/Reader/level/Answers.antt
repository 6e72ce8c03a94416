use Rattle.std.proofs.Common.{◌≡◌, ap, refl, slice_get, Some}
use Rattle.leo_tstp.specs.declared.reading.trees.Parsed.TheVariants as parsed
use Rattle.leo_tstp.proofs.TermSteps.{level-at, found-some, found-none}
use Rattle.leo_tstp.proofs.reading.source.Reader.level.Goals as goal

pub returns-in_err-ty : goal.returns-in_err-ty
returns-in_err-ty c =
    let e : c.number_at.result ≡ slice_get c.args.self.now.scope.items c.args.place = cc in
    λ v vs s i a h k n. absurd (found-none _ c.number_at.result c.in_err-ty.was (level-at v c.args.self.now vs s i c.args.place a c.number_at.result h k n e))

pub returns : goal.returns
returns c =
    let e : c.number_at.result ≡ slice_get c.args.self.now.scope.items c.args.place = cc in
    λ v vs s i a h k n. record {
      says = ap parsed.Level n;
      place = found-some _ c.number_at.result c.in_ok-ty.ty c.in_ok-ty.was (level-at v c.args.self.now vs s i c.args.place a c.number_at.result h k n e);
    }
