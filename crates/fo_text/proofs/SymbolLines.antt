-- The lines of the symbols.
use Rattle.std.proofs.Common.{ℕ, ◌≡◌, ◌<◌, ◌≤◌, ◌-◌, ◌^◌, Bool, true, false, List, [], ◌∷◌, ◌++◌, refl, sym, ap, ◌∙◌, subst, arith, append_assoc, ◌⊎◌, inl, inr}
use Rattle.std.specs.Prelude.{decimal, ◌==◌, ◌||◌}
use Rattle.std.proofs.lemmas.Bool.Decides.{nat_tests}
use Rattle.std.proofs.lemmas.List.{append-nil}
use Rattle.std.proofs.lemmas.List.Concat.{flat_map-append}
use Rattle.fo_text.specs.Words.{most_number, newline, space, numbers_text}
use Rattle.fo_text.specs.Refusals.{Spells, Opens, Refuses}
use Rattle.fo_text.specs.Problems.{IsSymbol, AreSorts}
use Rattle.fo_text.specs.declared.problem.FoSym.{FoSym}
use Rattle.fo_text.specs.Spellings.{symbol_text}
use Rattle.fo_text.specs.Pieces.{StandsFirst}
use Rattle.fo_text.specs.declared.number.Ends.TheVariants.{SpaceOrLine}
use Rattle.fo_text.specs.Numbers.{may_end, IsNumberWord, number_word}
use Rattle.fo_text.proofs.Lists.{All-append}
use Rattle.fo_text.proofs.Digits.{decimal-same}
use Rattle.fo_text.proofs.Composing.{refuses-then, IsCode}

-- what stands behind a number of a line
pub space_or_line : (b : ℕ) → ((b == 32) || (b == 10)) ≡ true → (b ≡ 32) ⊎ (b ≡ 10)
space_or_line b h = go (b == 32) refl h
  where
    go : (t : Bool) → (b == 32) ≡ t → (t || (b == 10)) ≡ true → (b ≡ 32) ⊎ (b ≡ 10)
    go true e h = inl (grind (arith, nat_tests))
    go false e h = inr (grind (arith, nat_tests))

pub line_left : (rest : List ℕ) → may_end SpaceOrLine 0 rest ≡ true → (StandsFirst 32 rest → ⊥) → StandsFirst 10 rest
line_left [] e n = cc
line_left (b ∷ bs) e n = elim (space_or_line b e) [ inl h ↦ absurd (n h) | inr h ↦ h ]

pub may_end-any : (n m : ℕ) (rest : List ℕ) → may_end SpaceOrLine n rest ≡ true → may_end SpaceOrLine m rest ≡ true
may_end-any n m [] e = e
may_end-any n m (b ∷ bs) e = e

-- the bytes behind a number of a line
pub behind_number : (xs : List ℕ) (p : List ℕ) → (c : ℕ) × (q : List ℕ) × (numbers_text xs ++ newline ∷ p ≡ c ∷ q) × (c < 48)
behind_number [] p = (10, p, refl, omega arith)
behind_number (a ∷ xs) p = (32, decimal a ++ numbers_text xs ++ newline ∷ p, ap (λ u. 32 ∷ u) refl, omega arith)

-- two numbers of a line, and what is behind
pub same_number : (m n : ℕ) (p q : List ℕ) → m < 2 ^ 64 → n < 2 ^ 64 → (c : ℕ) × (u : List ℕ) × (p ≡ c ∷ u) × (c < 48) → (c : ℕ) × (u : List ℕ) × (q ≡ c ∷ u) × (c < 48) → decimal m ++ p ≡ decimal n ++ q → (m ≡ n) × (p ≡ q)
same_number m n p q fm fn hp hq e =
    let s = decimal-same m n hp.0 hp.1 hq.1 hq.0 fm fn hp.3 hq.3 (ap (λ u. decimal m ++ u) (sym hp.2) ∙ e ∙ ap (λ u. decimal n ++ u) hq.2) in
    (s.0, hp.2 ∙ s.1 ∙ sym hq.2)

pub behind_more : (xs z : List ℕ) → (c : ℕ) × (q : List ℕ) × (numbers_text xs ++ space ∷ z ≡ c ∷ q) × (c < 48)
behind_more [] z = (32, z, refl, omega arith)
behind_more (a ∷ xs) z = (32, decimal a ++ numbers_text xs ++ space ∷ z, refl, omega arith)

line_is_no_space : (p q : List ℕ) → newline ∷ p ≡ space ∷ q → ⊥
line_is_no_space p q e = cc

next_number : (b : ℕ) (bs p z : List ℕ) → numbers_text (b ∷ bs) ++ newline ∷ p ≡ space ∷ z → z ≡ decimal b ++ (numbers_text bs ++ newline ∷ p)
next_number b bs p z e = let h : decimal b ++ numbers_text bs ++ newline ∷ p ≡ z = cc in sym h ∙ append_assoc (decimal b) (numbers_text bs) (newline ∷ p)

number_passed : (sorts a b : ℕ) (xs bs p z : List ℕ) → sorts ≤ most_number → a < sorts → b < sorts → numbers_text (b ∷ bs) ++ newline ∷ p ≡ numbers_text (a ∷ xs) ++ space ∷ z → numbers_text bs ++ newline ∷ p ≡ numbers_text xs ++ space ∷ z
number_passed sorts a b xs bs p z f la lb e =
    let h : decimal b ++ numbers_text bs ++ newline ∷ p ≡ decimal a ++ numbers_text xs ++ space ∷ z = cc in
    let parts : decimal b ++ (numbers_text bs ++ newline ∷ p) ≡ decimal a ++ (numbers_text xs ++ space ∷ z) = sym (append_assoc (decimal b) (numbers_text bs) (newline ∷ p)) ∙ h ∙ append_assoc (decimal a) (numbers_text xs) (space ∷ z) in
    (same_number b a (numbers_text bs ++ newline ∷ p) (numbers_text xs ++ space ∷ z) (omega arith) (omega arith) (behind_number bs p) (behind_more xs z) parts).1

-- what goes on behind some numbers of a line: a number, and the rest of a line
pub record GoesOn (sorts : ℕ) (p z : List ℕ) : Type 0 where
  pub number : ℕ
  pub below : number < sorts
  pub others : List ℕ
  pub text_is : z ≡ decimal number ++ (numbers_text others ++ newline ∷ p)

-- the text of a line that begins as some numbers do goes on with a number
pub numbers-back : (sorts : ℕ) (xs bs p z : List ℕ) → sorts ≤ most_number → AreSorts sorts xs → AreSorts sorts bs → numbers_text bs ++ newline ∷ p ≡ numbers_text xs ++ space ∷ z → GoesOn sorts p z
numbers-back sorts [] [] p z f sa sb e = absurd (line_is_no_space p z e)
numbers-back sorts [] (b ∷ bs) p z f sa sb e = record { number = b; below = sb.0; others = bs; text_is = next_number b bs p z e }
numbers-back sorts (a ∷ xs) [] p z f sa sb e = absurd (line_is_no_space p (decimal a ++ numbers_text xs ++ space ∷ z) e)
numbers-back sorts (a ∷ xs) (b ∷ bs) p z f sa sb e = numbers-back sorts xs bs p z f sa.1 sb.1 (number_passed sorts a b xs bs p z f sa.0 sb.0 e)

pub numbers-same : (sorts : ℕ) (xs bs p q : List ℕ) → sorts ≤ most_number → AreSorts sorts xs → AreSorts sorts bs → numbers_text xs ++ newline ∷ p ≡ numbers_text bs ++ newline ∷ q → (xs ≡ bs) × (p ≡ q)
numbers-same sorts [] [] p q f sa sb e = (refl, cc)
numbers-same sorts [] (b ∷ bs) p q f sa sb e = cc
numbers-same sorts (a ∷ xs) [] p q f sa sb e = cc
numbers-same sorts (a ∷ xs) (b ∷ bs) p q f sa sb e =
    let h : decimal a ++ numbers_text xs ++ newline ∷ p ≡ decimal b ++ numbers_text bs ++ newline ∷ q = cc in
    let parts : decimal a ++ (numbers_text xs ++ newline ∷ p) ≡ decimal b ++ (numbers_text bs ++ newline ∷ q) = sym (append_assoc (decimal a) (numbers_text xs) (newline ∷ p)) ∙ h ∙ append_assoc (decimal b) (numbers_text bs) (newline ∷ q) in
    let la : a < sorts = sa.0 in
    let lb : b < sorts = sb.0 in
    let s = same_number a b (numbers_text xs ++ newline ∷ p) (numbers_text bs ++ newline ∷ q) (omega arith) (omega arith) (behind_number xs p) (behind_number bs q) parts in
    let r = numbers-same sorts xs bs p q f sa.1 sb.1 s.1 in
    (let h0 : a ≡ b = s.0 in let h1 : xs ≡ bs = r.0 in cc, r.1)

-- a symbol's line, in its parts
pub line_parts : (y : FoSym) (p : List ℕ) → symbol_text y ++ p ≡ decimal y.result ++ (numbers_text y.args ++ newline ∷ p)
line_parts y p = append_assoc (decimal y.result) (numbers_text y.args ++ newline ∷ []) p ∙ ap (λ u. decimal y.result ++ u) (append_assoc (numbers_text y.args) (newline ∷ []) p)

same_symbol : (x y : FoSym) → x.result ≡ y.result → x.args ≡ y.args → x ≡ y
same_symbol x y e f =
    let one : x ≡ record { result = y.result; args = x.args } = ap (λ r. let s : FoSym = record { result = r; args = x.args } in s) e in
    one ∙ ap (λ a. let s : FoSym = record { result = y.result; args = a } in s) f

pub symbol-code : (sorts : ℕ) → sorts ≤ most_number → IsCode (IsSymbol sorts) symbol_text
symbol-code sorts f = record {
  same = λ x y p q ix iy e.
      let parts : decimal x.result ++ (numbers_text x.args ++ newline ∷ p) ≡ decimal y.result ++ (numbers_text y.args ++ newline ∷ q) = sym (line_parts x p) ∙ e ∙ line_parts y q in
      let lx : x.result < sorts = ix.result in
      let ly : y.result < sorts = iy.result in
      let s = same_number x.result y.result (numbers_text x.args ++ newline ∷ p) (numbers_text y.args ++ newline ∷ q) (omega arith) (omega arith) (behind_number x.args p) (behind_number y.args q) parts in
      let r = numbers-same sorts x.args y.args p q f ix.args iy.args s.1 in
      (same_symbol x y s.0 r.0, r.1);
}

-- the first number of a line is refused
pub symbol-first : (sorts : ℕ) (input : List ℕ) (left : ℕ) → 0 < sorts
    → Refuses (Spells (IsNumberWord 0 (sorts - 1) SpaceOrLine) number_word) (Opens (IsNumberWord 0 (sorts - 1) SpaceOrLine) number_word) input left
    → Refuses (Spells (IsSymbol sorts) symbol_text) (Opens (IsSymbol sorts) symbol_text) input left
symbol-first sorts input left some r =
    refuses-then (IsSymbol sorts) symbol_text (IsNumberWord 0 (sorts - 1) SpaceOrLine) number_word [] input left
    (λ w i. forth w.0 w.1 (let h = i.not_above in omega arith) (space_or_line w.1 i.ended))
    (λ z o. (let g = behind_number o.0.args o.2 in (
      (o.0.result, g.0),
      record { not_below = omega arith; not_above = (let h = o.1.result in omega arith); ended = low o.0.args o.2 g.0 g.1 g.2 },
      g.1,
      o.3 ∙ line_parts o.0 o.2 ∙ ap (λ u. decimal o.0.result ++ u) g.2 ∙ sym (append_assoc (decimal o.0.result) (g.0 ∷ []) g.1),
    ))) r
  where
    low : (xs p : List ℕ) (c : ℕ) (q : List ℕ) → numbers_text xs ++ newline ∷ p ≡ c ∷ q → ((c == 32) || (c == 10)) ≡ true
    low [] p c q e = let h : 10 ≡ c = cc in subst (λ u. ((u == 32) || (u == 10)) ≡ true) h refl
    low (a ∷ xs) p c q e = let h : 32 ≡ c = cc in subst (λ u. ((u == 32) || (u == 10)) ≡ true) h refl

    forth : (n b : ℕ) → n < sorts → (b ≡ 32) ⊎ (b ≡ 10) → (more : List ℕ) × Spells (IsSymbol sorts) symbol_text ((decimal n ++ b ∷ []) ++ more)
    forth n b h (inl e) = ((decimal n ++ []) ++ newline ∷ [], (record { result = n; args = n ∷ [] }, record { result = h; args = (h, tt) }, append_assoc (decimal n) (b ∷ []) ((decimal n ++ []) ++ newline ∷ []) ∙ ap (λ u. decimal n ++ u ∷ ((decimal n ++ []) ++ newline ∷ [])) e))
    forth n b h (inr e) = ([], (record { result = n; args = [] }, record { result = h; args = tt }, append-nil (decimal n ++ b ∷ []) ∙ ap (λ u. decimal n ++ u ∷ []) e))

-- a later number of a line is refused
pub symbol-next : (sorts n : ℕ) (xs : List ℕ) (input : List ℕ) (left : ℕ) → 0 < sorts → sorts ≤ most_number → n < sorts → AreSorts sorts xs
    → Refuses (Spells (IsNumberWord 0 (sorts - 1) SpaceOrLine) number_word) (Opens (IsNumberWord 0 (sorts - 1) SpaceOrLine) number_word) input left
    → Refuses (Spells (IsSymbol sorts) symbol_text) (Opens (IsSymbol sorts) symbol_text) ((decimal n ++ (numbers_text xs ++ space ∷ [])) ++ input) left
symbol-next sorts n xs input left some few hn ha r =
    refuses-then (IsSymbol sorts) symbol_text (IsNumberWord 0 (sorts - 1) SpaceOrLine) number_word (decimal n ++ (numbers_text xs ++ space ∷ [])) input left
    (λ w i. forth w.0 w.1 (let h = i.not_above in omega arith) (space_or_line w.1 i.ended))
    (λ z o. back z o.0 o.1 o.2 (sym (line_parts o.0 o.2) ∙ sym o.3 ∙ before z)) r
  where
    before : (z : List ℕ) → (decimal n ++ (numbers_text xs ++ space ∷ [])) ++ z ≡ decimal n ++ (numbers_text xs ++ space ∷ z)
    before z = append_assoc (decimal n) (numbers_text xs ++ space ∷ []) z ∙ ap (λ u. decimal n ++ u) (append_assoc (numbers_text xs) (space ∷ []) z)

    low : (xs p : List ℕ) (c : ℕ) (q : List ℕ) → numbers_text xs ++ newline ∷ p ≡ c ∷ q → ((c == 32) || (c == 10)) ≡ true
    low [] p c q e = let h : 10 ≡ c = cc in subst (λ u. ((u == 32) || (u == 10)) ≡ true) h refl
    low (a ∷ xs) p c q e = let h : 32 ≡ c = cc in subst (λ u. ((u == 32) || (u == 10)) ≡ true) h refl

    one_more : (m : ℕ) (bs p : List ℕ) → numbers_text (xs ++ m ∷ bs) ++ p ≡ numbers_text xs ++ space ∷ (decimal m ++ (numbers_text bs ++ p))
    one_more m bs p = ap (λ u. u ++ p) (flat_map-append (λ k. space ∷ decimal k) xs (m ∷ bs)) ∙ append_assoc (numbers_text xs) (numbers_text (m ∷ bs)) p ∙ ap (λ u. numbers_text xs ++ space ∷ u) (append_assoc (decimal m) (numbers_text bs) p)

    whole : (m : ℕ) (bs more : List ℕ) (b : ℕ) → b ∷ more ≡ numbers_text bs ++ newline ∷ [] → (decimal n ++ (numbers_text xs ++ space ∷ [])) ++ ((decimal m ++ b ∷ []) ++ more) ≡ decimal n ++ (numbers_text (xs ++ m ∷ bs) ++ newline ∷ [])
    whole m bs more b e =
        before ((decimal m ++ b ∷ []) ++ more) ∙ ap (λ u. decimal n ++ (numbers_text xs ++ space ∷ u)) (append_assoc (decimal m) (b ∷ []) more ∙ ap (λ u. decimal m ++ u) e) ∙ ap (λ u. decimal n ++ u) (sym (one_more m bs (newline ∷ [])))

    forth : (m b : ℕ) → m < sorts → (b ≡ 32) ⊎ (b ≡ 10) → (more : List ℕ) × Spells (IsSymbol sorts) symbol_text ((decimal n ++ (numbers_text xs ++ space ∷ [])) ++ ((decimal m ++ b ∷ []) ++ more))
    forth m b h (inl e) = ((decimal m ++ []) ++ newline ∷ [], (record { result = n; args = xs ++ m ∷ m ∷ [] }, record { result = hn; args = All-append (λ s. s < sorts) xs (m ∷ m ∷ []) ha (h, (h, tt)) }, whole m (m ∷ []) ((decimal m ++ []) ++ newline ∷ []) b (ap (λ u. u ∷ ((decimal m ++ []) ++ newline ∷ [])) e)))
    forth m b h (inr e) = ([], (record { result = n; args = xs ++ m ∷ [] }, record { result = hn; args = All-append (λ s. s < sorts) xs (m ∷ []) ha (h, tt) }, whole m [] [] b (ap (λ u. u ∷ []) e)))

    back : (z : List ℕ) (y : FoSym) → IsSymbol sorts y → (p : List ℕ) → decimal y.result ++ (numbers_text y.args ++ newline ∷ p) ≡ decimal n ++ (numbers_text xs ++ space ∷ z) → Opens (IsNumberWord 0 (sorts - 1) SpaceOrLine) number_word z
    back z y iy p e =
        let s = same_number y.result n (numbers_text y.args ++ newline ∷ p) (numbers_text xs ++ space ∷ z) (let h = iy.result in omega arith) (omega arith) (behind_number y.args p) (behind_more xs z) e in
        let t = numbers-back sorts xs y.args p z few ha iy.args s.1 in
        let g = behind_number t.others p in
        ((t.number, g.0), record { not_below = omega arith; not_above = (let h = t.below in omega arith); ended = low t.others p g.0 g.1 g.2 }, g.1, t.text_is ∙ ap (λ u. decimal t.number ++ u) g.2 ∙ sym (append_assoc (decimal t.number) (g.0 ∷ []) g.1))

pub line_so_far : (n : ℕ) (xs tail : List ℕ) (input rest : List ℕ) → input ≡ decimal n ++ (numbers_text xs ++ rest) → rest ≡ space ∷ tail → input ≡ (decimal n ++ (numbers_text xs ++ space ∷ [])) ++ tail
line_so_far n xs tail input rest e h = e ∙ ap (λ u. decimal n ++ (numbers_text xs ++ u)) h ∙ ap (λ u. decimal n ++ u) (sym (append_assoc (numbers_text xs) (space ∷ []) tail)) ∙ sym (append_assoc (decimal n) (numbers_text xs ++ space ∷ []) tail)
