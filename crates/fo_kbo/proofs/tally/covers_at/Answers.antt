use Rattle.std.proofs.Common.{◌≡◌, ◌∙◌, Bool, true, false, refl}
use Rattle.fo_terms.specs.Prefix.{prefix}
use Rattle.fo_terms.specs.Places.{term_at}
use Rattle.fo_terms.proofs.AtPlaces.{IsPrefix-full}
use Rattle.fo_terms.proofs.Spans.{slice_range-term}
use Rattle.fo_kbo.proofs.Comparing.{IsPrefix-is, term_of-is}
use Rattle.fo_kbo.proofs.Tallying.{covers-from, covers-refused}
use Rattle.fo_kbo.proofs.tally.covers_at.Goals as goal

pub covers-requires-clause-left : goal.covers-requires-clause-left
covers-requires-clause-left c = IsPrefix-is c.part.result.now (term_at c.args.left.now c.args.at) (c.part.ensures ∙ slice_range-term c.args.left.now c.args.at c.args.left_end (IsPrefix-full c.args.left.now c.requires.left) c.requires.tallied.left_behind)

pub covers-requires-clause-right : goal.covers-requires-clause-right
covers-requires-clause-right c =
    IsPrefix-is c.part-else-first.result.now (term_at c.args.right.now c.args.at) (c.part-else-first.ensures ∙ slice_range-term c.args.right.now c.args.at c.args.right_end (IsPrefix-full c.args.right.now c.requires.right) c.requires.tallied.right_behind)

not_false : (b : Bool) → (b ≡ false → ⊥) → b ≡ true
not_false true h = refl
not_false false h = absurd (h refl)

pub returns-then-second : goal.returns-then-second
returns-then-second c = (
  (λ t. covers-from c.args.left.now c.args.right.now (IsPrefix-full c.args.left.now c.requires.left) (IsPrefix-full c.args.right.now c.requires.right) c.args.at c.args.left_end c.args.right_end c.args.tallies.0.now c.args.tallies.1.now c.requires.tallied c.if-first.true c.if-second.true
      (c.are_at_least.ensures.covered t)),
  (λ h. not_false c.are_at_least.result (λ e. (let v = c.are_at_least.ensures.larger e in
      covers-refused c.args.left.now c.args.right.now (IsPrefix-full c.args.left.now c.requires.left) (IsPrefix-full c.args.right.now c.requires.right) c.args.at c.args.left_end c.args.right_end c.args.tallies.0.now c.args.tallies.1.now c.requires.tallied c.if-first.true c.if-second.true
      v.0 v.1 v.2 h))),
)

pub returns-else-first : goal.returns-else-first
returns-else-first c =
    let first : c.part.result.now ≡ prefix (term_at c.args.left.now c.args.at) = c.part.ensures ∙ slice_range-term c.args.left.now c.args.at c.args.left_end (IsPrefix-full c.args.left.now c.requires.left) c.requires.tallied.left_behind in
    let second : c.part-else-first.result.now ≡ prefix (term_at c.args.right.now c.args.at) = c.part-else-first.ensures ∙ slice_range-term c.args.right.now c.args.at c.args.right_end (IsPrefix-full c.args.right.now c.requires.right) c.requires.tallied.right_behind in
    rw (term_of-is c.part.result.now (term_at c.args.left.now c.args.at) first, term_of-is c.part-else-first.result.now (term_at c.args.right.now c.args.at) second) at c.covers.ensures
