-- Words, and lines of a word and a number.
use Rattle.std.proofs.Common.{ℕ, ◌≡◌, ◌≤◌, ◌+◌, ◌-◌, suc, Bool, true, false, List, [], ◌∷◌, ◌++◌, length, drop, refl, sym, ap, ◌∙◌, arith, append_assoc, length-append, zero-add}
use Rattle.std.specs.Prelude.{decimal, ◌==◌, if◌then◌else◌}
use Rattle.std.proofs.lemmas.Bool.Decides.{nat_tests}
use Rattle.std.proofs.lemmas.List.{append-nil}
use Rattle.fo_text.specs.Words.{newline}
use Rattle.fo_text.specs.Refusals.{Spells, Opens, Stops, Refuses}
use Rattle.fo_text.specs.Spellings.{field_text}
use Rattle.fo_text.specs.Pieces.{common, StandsFirst, IsKeyword, keyword_text, IsBetween}
use Rattle.fo_text.specs.declared.number.Ends.TheVariants.{Line}
use Rattle.fo_text.specs.Numbers.{may_end, IsNumberWord, number_word}
use Rattle.fo_text.proofs.Lists.{append-cancel}
use Rattle.fo_text.proofs.Composing.{refuses-then}

-- two lists do not go on alike
abbrev pub Apart : List ℕ → List ℕ → Type 0
Apart [] ys = Unit {0}
Apart (x ∷ xs) [] = Unit {0}
Apart (x ∷ xs) (y ∷ ys) = x ≡ y → ⊥

-- two lists with the front that they have in common
pub record IsCommon (xs ys : List ℕ) (count : ℕ) : Type 0 where
  pub front : List ℕ
  pub one : List ℕ
  pub other : List ℕ
  pub one_is : xs ≡ front ++ one
  pub other_is : ys ≡ front ++ other
  pub count_is : count ≡ length front
  pub apart : Apart one other

pub common-is : (xs ys : List ℕ) → IsCommon xs ys (common xs ys)
common-is [] ys = record { front = []; one = []; other = ys; one_is = refl; other_is = refl; count_is = refl; apart = tt }
common-is (x ∷ xs) [] = record { front = []; one = x ∷ xs; other = []; one_is = refl; other_is = refl; count_is = refl; apart = tt }
common-is (x ∷ xs) (y ∷ ys) = go (common-is xs ys) (x == y) refl
  where
    go : (rest : IsCommon xs ys (common xs ys)) (t : Bool) → (x == y) ≡ t → IsCommon (x ∷ xs) (y ∷ ys) (if t then suc (common xs ys) else 0)
    go rest true e =
        let same : x ≡ y = grind (arith, nat_tests) in
        record { front = x ∷ rest.front; one = rest.one; other = rest.other; one_is = ap (λ u. x ∷ u) rest.one_is; other_is = ap (λ u. u ∷ ys) (sym same) ∙ ap (λ u. x ∷ u) rest.other_is; count_is = ap suc rest.count_is; apart = rest.apart }
    go rest false e = record { front = []; one = x ∷ xs; other = y ∷ ys; one_is = refl; other_is = refl; count_is = refl; apart = λ h. grind (arith, nat_tests) }

-- a list begins with a word exactly where they have the whole word in common
pub common-whole : (xs ys : List ℕ) → common xs ys ≡ length ys → xs ≡ ys ++ drop (length ys) xs
common-whole xs [] e = refl
common-whole [] (y ∷ ys) e = cc
common-whole (x ∷ xs) (y ∷ ys) e = go (x == y) refl e (λ h. common-whole xs ys h)
  where
    go : (t : Bool) → (x == y) ≡ t → (if t then suc (common xs ys) else 0) ≡ suc (length ys) → (common xs ys ≡ length ys → xs ≡ ys ++ drop (length ys) xs) → x ∷ xs ≡ y ∷ (ys ++ drop (length ys) xs)
    go true b e f = let same : x ≡ y = grind (arith, nat_tests) in let rest : xs ≡ ys ++ drop (length ys) xs = f cc in cc
    go false b e f = cc

pub common-behind : (front one other : List ℕ) → common (front ++ one) (front ++ other) ≡ length front + common one other
common-behind [] one other = sym (zero-add (common one other))
common-behind (x ∷ front) one other = go (x == x) (grind (arith, nat_tests)) (common-behind front one other)
  where
    go : (t : Bool) → t ≡ true → common (front ++ one) (front ++ other) ≡ length front + common one other → (if t then suc (common (front ++ one) (front ++ other)) else 0) ≡ suc (length front) + common one other
    go true e h = omega arith
    go false e h = cc

keyword-stops : (word front one other : List ℕ) → word ≡ front ++ other → (other ≡ [] → ⊥) → Apart one other → Stops (λ z. Opens IsKeyword (keyword_text word) (front ++ z)) one
keyword-stops word front [] other w more apart = λ o. more (let e : front ++ [] ≡ front ++ (other ++ o.2) = o.3 ∙ ap (λ u. u ++ o.2) w ∙ append_assoc front other o.2 in nothing other o.2 (append-cancel front [] (other ++ o.2) e))
  where
    nothing : (a b : List ℕ) → [] ≡ a ++ b → a ≡ []
    nothing [] b e = refl
    nothing (x ∷ a) b e = cc
keyword-stops word front (x ∷ one) [] w more apart = λ z o. more refl
keyword-stops word front (x ∷ one) (y ∷ other) w more apart = λ z o.
    let e : front ++ x ∷ z ≡ front ++ (y ∷ (other ++ o.2)) = o.3 ∙ ap (λ u. u ++ o.2) w ∙ append_assoc front (y ∷ other) o.2 in
    let h : x ∷ z ≡ y ∷ (other ++ o.2) = append-cancel front (x ∷ z) (y ∷ (other ++ o.2)) e in
    apart cc

pub refuses-keyword : (input word : List ℕ) → (common input word ≡ length word → ⊥) → Refuses (Spells IsKeyword (keyword_text word)) (Opens IsKeyword (keyword_text word)) input (length input - common input word)
refuses-keyword input word short =
    let c = common-is input word in
    let count : common input word ≡ length c.front = c.count_is in
    let whole : length input ≡ length c.front + length c.one = ap length c.one_is ∙ length-append c.front c.one in
    record {
      before = c.front;
      after = c.one;
      input_is = c.one_is;
      left_is = omega arith;
      rest = c.other;
      goes_on = (tt, tt, sym c.other_is);
      stops = keyword-stops word c.front c.one c.other c.other_is (λ none. short (count ∙ sym (ap length (c.other_is ∙ ap (λ u. c.front ++ u) none ∙ append-nil c.front)))) c.apart;
    }

-- the line feed behind a number
pub line_behind : (n : ℕ) (rest : List ℕ) → may_end Line n rest ≡ true → StandsFirst newline rest
line_behind n [] e = cc
line_behind n (b ∷ bs) e = grind (arith, nat_tests)

is_line : (b : ℕ) → (b == 10) ≡ true → b ≡ newline
is_line b e = grind (arith, nat_tests)

pub field-keyword : (least most : ℕ) (word input : List ℕ) (left : ℕ) → least ≤ most
    → Refuses (Spells IsKeyword (keyword_text word)) (Opens IsKeyword (keyword_text word)) input left → Refuses (Spells (IsBetween least most) (field_text word)) (Opens (IsBetween least most) (field_text word)) input left
field-keyword least most word input left r h =
    refuses-then (IsBetween least most) (field_text word) IsKeyword (keyword_text word) [] input left
    (λ u k. (decimal least ++ newline ∷ [], (least, (omega arith, r), refl)))
    (λ z o. (tt, tt, (decimal o.0 ++ newline ∷ []) ++ o.2, o.3 ∙ append_assoc word (decimal o.0 ++ newline ∷ []) o.2)) h

pub field-number : (least most : ℕ) (word rest : List ℕ) (left : ℕ)
    → Refuses (Spells (IsNumberWord least most Line) number_word) (Opens (IsNumberWord least most Line) number_word) rest left
    → Refuses (Spells (IsBetween least most) (field_text word)) (Opens (IsBetween least most) (field_text word)) (word ++ rest) left
field-number least most word rest left h =
    refuses-then (IsBetween least most) (field_text word) (IsNumberWord least most Line) number_word word rest left
    (λ w i. ([], (w.0, (i.not_below, i.not_above), ap (λ u. word ++ u) (append-nil (number_word w) ∙ ap (λ b. decimal w.0 ++ b ∷ []) (is_line w.1 i.ended)))))
    (λ z o. ((o.0, newline), record { not_below = o.1.0; not_above = o.1.1; ended = refl }, o.2, append-cancel word z ((decimal o.0 ++ newline ∷ []) ++ o.2) (o.3 ∙ append_assoc word (decimal o.0 ++ newline ∷ []) o.2))) h

pub keyword-whole : (input word front back : List ℕ) (k : ℕ) → k ≡ common input word → k ≡ length word → back ≡ drop k input → input ≡ word ++ back
keyword-whole input word front back k e w b = common-whole input word (sym e ∙ w) ∙ ap (λ u. word ++ u) (ap (λ u. drop u input) (sym w) ∙ sym b)
