-- What a sink took, piece by piece.
use Rattle.std.proofs.Common.{◌≡◌, ℕ, ◌+◌, ◌-◌, ◌<◌, ◌≤◌, List, ◌++◌, length, take, drop, Option, Some, None, Result, Ok, Err, sym, ap, ◌∙◌, append_assoc, arith}
use Rattle.std.specs.Option.{option_map}
use Rattle.std.specs.Result.{OnErr}
use Rattle.std.proofs.lemmas.List.{take_rest, length-drop, length-take, take-take}
use Rattle.std.proofs.Math.Seq.{take-add}
use Rattle.fo_prove.specs.Writing.{IsCut}

pub rest_length : (text : List ℕ) (done : ℕ) → length (take (length text - done) (drop done text)) ≡ length text - done
rest_length text done = ap length (take_rest text done) ∙ length-drop done text

pub taken_more : (text piece : List ℕ) (done n : ℕ) (start mid now : Option (List ℕ)) → piece ≡ take n (drop done text) →
    mid ≡ option_map (λ bytes. bytes ++ take done text) start → now ≡ option_map (λ bytes. bytes ++ piece) mid →
    now ≡ option_map (λ bytes. bytes ++ take (done + n) text) start
taken_more text piece done n None mid now is e f = f ∙ ap (option_map (λ bytes. bytes ++ piece)) e
taken_more text piece done n (Some before) mid now is e f =
    f ∙ (ap (option_map (λ bytes. bytes ++ piece)) e ∙ ap Some
    (append_assoc before (take done text) piece ∙ ap (λ xs. before ++ xs) (ap (λ xs. take done text ++ xs) is ∙ sym (take-add done n text))))

-- what was cut of a piece was cut of the text
pub cut_of_text : (text piece : List ℕ) (done n : ℕ) (start mid now : Option (List ℕ)) → piece ≡ take n (drop done text) → done + n ≤ length text →
    mid ≡ option_map (λ bytes. bytes ++ take done text) start → IsCut piece mid now → IsCut text start now
cut_of_text text piece done n start mid now is within e cut =
    let len : length piece ≤ n = omega (arith, ap length is ∙ length-take n (drop done text)) in
    let short : cut.count < n = omega (arith, cut.short) in
    let front : take cut.count piece ≡ take cut.count (drop done text) =
    ap (take cut.count) is ∙ take-take cut.count n (drop done text) (omega arith) in
    record {
      count = done + cut.count;
      short = omega arith;
      taken = taken_more text (take cut.count piece) done cut.count start mid now front e cut.taken;
    }

pub on_err : {T E Q : Type 0} (r : Result T E) → Q → OnErr r Q
on_err (Ok x) q = tt
on_err (Err e) q = q
