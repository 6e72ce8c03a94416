use Rattle.std.proofs.Common.{◌≡◌, ◌∙◌, ap, sym, subst, ℕ, List}
use Rattle.std.specs.Prelude.{Option, Some, None, option_map, MatchOption, IsSomeAnd}
use Rattle.clap.specs.Words.{found_of, rows_of, first_of}
use Rattle.leo_command.specs.Commands.{IsNumberWord}
use Rattle.leo_command.proofs.Rows.{first_value-row}
use Rattle.leo_command.proofs.numbers.number_of.Goals as goal

-- the number in the option's text, as in the text itself
pub in_text : (o : Option (List ℕ)) (word : List ℕ) (least most : ℕ) (r : Option ℕ) → o ≡ Some word
    → MatchOption r ((n : ℕ) → ¬ IsNumberWord word least most n) (IsNumberWord word least most)
    → MatchOption r ((n : ℕ) → ¬ IsSomeAnd o (λ w. IsNumberWord w least most n)) (λ n. IsSomeAnd o (λ w. IsNumberWord w least most n))
in_text o word least most r e h = rw e h

pub returns-in-Some : goal.returns-in-Some
returns-in-Some c =
    in_text _ c.in-Some.word.now c.args.least c.args.most c.number.result
    (sym (ap (option_map (λ s. s.now)) (sym c.in-Some.is) ∙ (c.get_str.ensures ∙ first_value-row (found_of c.args.matches.now) c.args.id.now))) c.number.ensures

pub returns-in-None : goal.returns-in-None
returns-in-None c = λ n is.
    let e : first_of c.args.id.now (rows_of (found_of c.args.matches.now)) ≡ None = sym (ap (option_map (λ s. s.now)) (sym c.in-None.is) ∙ (c.get_str.ensures ∙ first_value-row (found_of c.args.matches.now) c.args.id.now)) in
    subst (λ o. IsSomeAnd o (λ w. IsNumberWord w c.args.least c.args.most n)) e is
