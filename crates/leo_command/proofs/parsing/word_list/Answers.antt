use Rattle.std.proofs.Common.{◌≡◌, ◌∙◌, ap, sym, ℕ, zero, suc, List, [], ◌∷◌, ◌++◌, ◌+◌, take, map, arith}
use Rattle.std.specs.Prelude.{slice_get, Some}
use Rattle.std.proofs.lemmas.List.{map-append}
use Rattle.leo_command.proofs.parsing.word_list.Goals as goal

take_next : {X : Type 0} (xs : List X) (n : ℕ) (x : X) → slice_get xs n ≡ Some x → take (suc n) xs ≡ take n xs ++ x ∷ []
take_next [] n x h = cc
take_next (y ∷ ys) zero x h = cc
take_next (y ∷ ys) (suc n) x h = ap (λ zs. y ∷ zs) (take_next ys n x h)

pub loop-number-preserved : goal.loop-number-preserved
loop-number-preserved c =
    ap (map (λ w. w.now)) c.in_ok-push.ensures.items ∙ (map-append (λ w. w.now) c.loop-number.list.items (c.word.result ∷ []) ∙
    (ap (λ ws. ws ++ c.word.result.now ∷ []) c.loop-number.invariant ∙ sym (next c.args.words.now c.loop-number.number c.word.result.now c.word.ensures)))
  where
    next : (ws : List (List ℕ)) (n : ℕ) (w : List ℕ) → slice_get ws n ≡ Some w → take (n + 1) ws ≡ take n ws ++ w ∷ []
    next ws n w h = let e : n + 1 ≡ suc n = omega arith in ap (λ k. take k ws) e ∙ take_next ws n w h
