use Rattle.std.proofs.Common.{ℕ, ◌≡◌, ◌<◌, ◌≤◌, ◌∙◌, ◌++◌, ◌∷◌, [], sym, ap, length, refl, Bool, true, false, Some, List, Vec, Global, arith}
use Rattle.std.specs.Prelude.{slice_get}
use Rattle.std.proofs.lemmas.Option.{slice_get_read, slice_get_within}
use Rattle.fo_terms.specs.Terms.{Term}
use Rattle.fo_index.specs.Meeting.{IsUnifiable}
use Rattle.fo_index.proofs.Trying.{met-only, met-all, unmet-all}
use Rattle.fo_index.proofs.index.FoIndex.meet.Goals as goal
use Rattle.fo_index.proofs.index.FoIndex.meet.Goals.{then-branch+in_ok-push, else-branch}

clash : (b : Bool) → b ≡ true → b ≡ false → ⊥
clash b h k = cc

pub loop-number-preserved : goal.loop-number-preserved
loop-number-preserved c =
    let items : List (ℕ × Term) = c.deref-number-items.result.now in
    let entries : List (ℕ × Term) = c.args.self.now in
    let item : ℕ × Term = c.loop-number-item.result in
    let at : ℕ = c.loop-number.number-index in
    let found : List ℕ = c.loop-number.found.items in
    let listed : slice_get items at ≡ Some item = slice_get_read items (length items) at item refl c.loop-number-test.true c.loop-number-item.is in
    let same : entries ≡ items = sym c.self.view_is ∙ sym c.deref-number-items.ensures.value in
    let stands : slice_get entries at ≡ Some item = ap (λ (xs : List (ℕ × Term)). slice_get xs at) same ∙ listed in
    elim c.if-branch.branch [
      | then-branch+in_ok-push w ↦
          (let met : IsUnifiable item.1 c.args.term.now = c.in_ok-unifies.ensures.0 w.if-branch.true in
          let now : c.if-branch.found.items ≡ found ++ item.0 ∷ [] = ap (λ (v : Vec ℕ Global). v.items) w.found-is ∙ w.in_ok-push.ensures.items in
          rw now (met-only c.args.term.now entries at item stands found met c.loop-number.invariant.0, met-all c.args.term.now entries at item stands found c.loop-number.invariant.1))
      | else-branch w ↦
          (let unmet : IsUnifiable item.1 c.args.term.now → ⊥ = (λ u. clash c.in_ok-unifies.field-0 (c.in_ok-unifies.ensures.1 u) w.if-branch.false) in
          let now : c.if-branch.found.items ≡ found = ap (λ (v : Vec ℕ Global). v.items) w.found-is in
          rw now (c.loop-number.invariant.0, unmet-all c.args.term.now entries at item stands found unmet c.loop-number.invariant.1))
    ]

pub returns-clause-all : goal.returns-clause-all
returns-clause-all c k n s e u =
    let items : List (ℕ × Term) = c.deref-number-items.result.now in
    let same : c.args.self.now ≡ items = sym c.self.view_is ∙ sym c.deref-number-items.ensures.value in
    let low : length items ≤ c.loop-number.number-index = c.loop-number-test.false in
    let inside : k < length c.args.self.now = slice_get_within c.args.self.now k (n, s) e in
    let sizes : length c.args.self.now ≡ length items = ap (λ (xs : List (ℕ × Term)). length xs) same in
    c.loop-number.invariant.1 k n s (omega arith) e u
