-- A clause is refused where a number or a literal of it is.
use Rattle.std.proofs.Common.{ℕ, ◌≡◌, ◌<◌, ◌≤◌, ◌+◌, ◌-◌, ◌^◌, suc, zero, Bool, true, false, List, [], ◌∷◌, ◌++◌, length, Some, None, refl, sym, ap, ◌∙◌, subst, arith, append_assoc, length-append}
use Rattle.std.specs.Prelude.{decimal, ◌==◌, if◌then◌else◌, nat_lt, IsTrue, ◌↔◌}
use Rattle.std.specs.List.{AllByRecursion, flat_map}
use Rattle.std.proofs.lemmas.List.{append-nil}
use Rattle.std.proofs.lemmas.List.Concat.{flat_map-append}
use Rattle.std.proofs.lemmas.Bool.Decides.{nat_tests}
use Rattle.fo_terms.specs.Terms.{Term, Terms, variable, symbol, none, more}
use Rattle.std.specs.Prelude.{slice_get, not}
use Rattle.std.proofs.lemmas.Option.{slice_get_within}
use Rattle.fo_text.specs.declared.problem.FoSym.{FoSym}
use Rattle.fo_text.specs.declared.problem.FoLit.{FoLit}
use Rattle.fo_text.specs.declared.number.Ends.TheVariants.{Space, LineAtZero}
use Rattle.fo_text.specs.Words.{most_number, space, newline, numbers_text}
use Rattle.fo_text.specs.Refusals.{Spells, Opens, Refuses}
use Rattle.fo_text.specs.Problems.{HasSort, HaveSorts, AreSorts, IsLiteral, IsClause}
use Rattle.fo_text.specs.declared.problem.FoClause.{FoClause}
use Rattle.fo_text.specs.Spellings.{clause_text}
use Rattle.fo_text.proofs.Composing.{IsCode}
use Rattle.fo_text.specs.Spellings.{sign_word, term_text, literal_text}
use Rattle.fo_text.specs.Pieces.{StandsFirst}
use Rattle.fo_text.specs.Numbers.{ends_with, IsNumberWord, number_word}
use Rattle.fo_text.specs.Nodes.{CanBegin}
use Rattle.fo_text.specs.Literals.{ended_literal}
use Rattle.fo_text.specs.Clauses.{most_if, AreVars, vars_text, AreLits, lits_text, behind_lits, HasConstant}
use Rattle.fo_text.proofs.Lists.{All-append}
use Rattle.fo_text.proofs.Composing.{refuses-then, repeated, length-repeated, All-repeated}
use Rattle.fo_text.proofs.SymbolLines.{same_number, behind_more}
use Rattle.fo_text.proofs.TermReading.{LowFirst, refuses-tail}
use Rattle.fo_text.proofs.LiteralReading.{literal_same}

cons_tail : (a b : ℕ) (p q : List ℕ) → a ∷ p ≡ b ∷ q → p ≡ q
cons_tail a b p q e = cc

is_space : (b : ℕ) → (b == 32) ≡ true → b ≡ space
is_space b e = grind (arith, nat_tests)

-- numbers, each behind a space, and a space behind them
spaced_first : (xs : List ℕ) (p : List ℕ) → (q : List ℕ) × (numbers_text xs ++ space ∷ p ≡ space ∷ q)
spaced_first [] p = (p, refl)
spaced_first (x ∷ xs) p = (decimal x ++ numbers_text xs ++ space ∷ p, refl)

vars_parts : (vs : List ℕ) (p : List ℕ) → vars_text vs ++ p ≡ decimal (length vs) ++ (numbers_text vs ++ space ∷ p)
vars_parts vs p = append_assoc (decimal (length vs)) (numbers_text vs ++ space ∷ []) p ∙ ap (λ u. decimal (length vs) ++ u) (append_assoc (numbers_text vs) (space ∷ []) p)

no_sorts : (vs : List ℕ) → AreSorts 0 vs → length vs ≡ 0
no_sorts [] h = refl
no_sorts (v ∷ vs) h = absurd (let l : v < 0 = h.0 in omega arith)

vars_below : (sorts : ℕ) (some : Bool) (vs : List ℕ) → (some ≡ true → 0 < sorts) → (some ≡ false → sorts ≡ 0) → AreVars sorts vs → length vs ≤ most_if some
vars_below sorts true vs t f h = h.count
vars_below sorts false vs t f h = let z = no_sorts vs (subst (λ u. AreSorts u vs) (f refl) h.sorted) in omega arith

zeros : (sorts : ℕ) (some : Bool) (n : ℕ) → (some ≡ true → 0 < sorts) → n ≤ most_if some → AreVars sorts (repeated n 0)
zeros sorts true n t l = let e : length (repeated {X = ℕ} n 0) ≡ n = length-repeated n 0 in record { count = omega arith; sorted = All-repeated (λ s. s < sorts) n 0 (t refl) }
zeros sorts false zero t l = record { count = omega arith; sorted = tt }
zeros sorts false (suc n) t l = absurd (omega arith)

pub vars-count : (sorts : ℕ) (some : Bool) (input : List ℕ) (left : ℕ) → (some ≡ true → 0 < sorts) → (some ≡ false → sorts ≡ 0)
    → Refuses (Spells (IsNumberWord 0 (most_if some) Space) number_word) (Opens (IsNumberWord 0 (most_if some) Space) number_word) input left → Refuses (Spells (AreVars sorts) vars_text) (Opens (AreVars sorts) vars_text) input left
vars-count sorts some input left t f r =
    refuses-then (AreVars sorts) vars_text (IsNumberWord 0 (most_if some) Space) number_word [] input left
    (λ w i. forth w.0 w.1 i.not_above (is_space w.1 i.ended)) (λ z o. back z o.0 o.1 o.2 o.3) r
  where
    forth : (n b : ℕ) → n ≤ most_if some → b ≡ space → (beyond : List ℕ) × Spells (AreVars sorts) vars_text ((decimal n ++ b ∷ []) ++ beyond)
    forth n b l e =
        let vs : List ℕ = repeated n 0 in
        let q = spaced_first vs [] in
        (q.0, (vs, zeros sorts some n t l, append_assoc (decimal n) (b ∷ []) q.0 ∙ ap (λ u. decimal n ++ u ∷ q.0) e ∙ ap (λ u. decimal n ++ u) (sym q.1) ∙ ap (λ u. decimal u ++ (numbers_text vs ++ space ∷ [])) (sym (length-repeated n 0))))

    back : (z : List ℕ) (vs : List ℕ) → AreVars sorts vs → (p : List ℕ) → z ≡ vars_text vs ++ p → Opens (IsNumberWord 0 (most_if some) Space) number_word z
    back z vs i p e =
        let q = spaced_first vs p in
        ((length vs, space), record { not_below = omega arith; not_above = vars_below sorts some vs t f i; ended = refl }, q.0, e ∙ vars_parts vs p ∙ ap (λ u. decimal (length vs) ++ u) q.1 ∙ sym (append_assoc (decimal (length vs)) (space ∷ []) q.0))

-- what goes on behind some variables: a number and a space
pub record NextNumber (sorts : ℕ) (z : List ℕ) : Type 0 where
  pub number : ℕ
  pub below : number < sorts
  pub rest : List ℕ
  pub text_is : z ≡ decimal number ++ space ∷ rest

next_one : (sorts b : ℕ) (bs p z : List ℕ) → b < sorts → numbers_text (b ∷ bs) ++ space ∷ p ≡ space ∷ z → NextNumber sorts z
next_one sorts b bs p z l e =
    let q = spaced_first bs p in
    let h : decimal b ++ numbers_text bs ++ space ∷ p ≡ z = cons_tail space space (decimal b ++ numbers_text bs ++ space ∷ p) z e in
    record { number = b; below = l; rest = q.0; text_is = sym h ∙ append_assoc (decimal b) (numbers_text bs) (space ∷ p) ∙ ap (λ u. decimal b ++ u) q.1 }

one_passed : (sorts a b : ℕ) (xs bs p z : List ℕ) → sorts ≤ most_number → a < sorts → b < sorts → numbers_text (b ∷ bs) ++ space ∷ p ≡ numbers_text (a ∷ xs) ++ space ∷ z → (a ≡ b) × (numbers_text bs ++ space ∷ p ≡ numbers_text xs ++ space ∷ z)
one_passed sorts a b xs bs p z f la lb e =
    let h : decimal b ++ numbers_text bs ++ space ∷ p ≡ decimal a ++ numbers_text xs ++ space ∷ z = cons_tail space space (decimal b ++ numbers_text bs ++ space ∷ p) (decimal a ++ numbers_text xs ++ space ∷ z) e in
    let parts : decimal b ++ (numbers_text bs ++ space ∷ p) ≡ decimal a ++ (numbers_text xs ++ space ∷ z) = sym (append_assoc (decimal b) (numbers_text bs) (space ∷ p)) ∙ h ∙ append_assoc (decimal a) (numbers_text xs) (space ∷ z) in
    let s = same_number b a (numbers_text bs ++ space ∷ p) (numbers_text xs ++ space ∷ z) (omega arith) (omega arith) (behind_more bs p) (behind_more xs z) parts in
    (sym s.0, s.1)

vars_back : (sorts : ℕ) (xs bs p z : List ℕ) → sorts ≤ most_number → length xs < length bs → AreSorts sorts xs → AreSorts sorts bs → numbers_text bs ++ space ∷ p ≡ numbers_text xs ++ space ∷ z → NextNumber sorts z
vars_back sorts xs [] p z f l sa sb e = absurd (omega arith)
vars_back sorts [] (b ∷ bs) p z f l sa sb e = next_one sorts b bs p z sb.0 e
vars_back sorts (a ∷ xs) (b ∷ bs) p z f l sa sb e = vars_back sorts xs bs p z f (omega arith) sa.1 sb.1 (one_passed sorts a b xs bs p z f sa.0 sb.0 e).1

numbers_more : (xs : List ℕ) (m : ℕ) (bs p : List ℕ) → numbers_text (xs ++ m ∷ bs) ++ p ≡ numbers_text xs ++ space ∷ (decimal m ++ (numbers_text bs ++ p))
numbers_more xs m bs p = ap (λ u. u ++ p) (flat_map-append (λ k. space ∷ decimal k) xs (m ∷ bs)) ∙ append_assoc (numbers_text xs) (numbers_text (m ∷ bs)) p ∙ ap (λ u. numbers_text xs ++ space ∷ u) (append_assoc (decimal m) (numbers_text bs) p)

pub vars-next : (sorts count : ℕ) (xs input : List ℕ) (left : ℕ) → 0 < sorts → sorts ≤ most_number → count ≤ most_number → length xs < count → AreSorts sorts xs
    → Refuses (Spells (IsNumberWord 0 (sorts - 1) Space) number_word) (Opens (IsNumberWord 0 (sorts - 1) Space) number_word) input left → Refuses (Spells (AreVars sorts) vars_text) (Opens (AreVars sorts) vars_text) ((decimal count ++ (numbers_text xs ++ space ∷ [])) ++ input) left
vars-next sorts count xs input left some few fc short sx r =
    refuses-then (AreVars sorts) vars_text (IsNumberWord 0 (sorts - 1) Space) number_word (decimal count ++ (numbers_text xs ++ space ∷ [])) input left
    (λ w i. forth w.0 w.1 (let h = i.not_above in omega arith) (is_space w.1 i.ended)) (λ z o. back z o.0 o.1 o.2 (sym (vars_parts o.0 o.2) ∙ sym o.3 ∙ before z)) r
  where
    before : (z : List ℕ) → (decimal count ++ (numbers_text xs ++ space ∷ [])) ++ z ≡ decimal count ++ (numbers_text xs ++ space ∷ z)
    before z = append_assoc (decimal count) (numbers_text xs ++ space ∷ []) z ∙ ap (λ u. decimal count ++ u) (append_assoc (numbers_text xs) (space ∷ []) z)

    forth : (m b : ℕ) → m < sorts → b ≡ space → (beyond : List ℕ) × Spells (AreVars sorts) vars_text ((decimal count ++ (numbers_text xs ++ space ∷ [])) ++ ((decimal m ++ b ∷ []) ++ beyond))
    forth m b l e =
        let k : ℕ = count - length xs - 1 in
        let bs : List ℕ = repeated k m in
        let q = spaced_first bs [] in
        let len : length (xs ++ m ∷ bs) ≡ count = length-append xs (m ∷ bs) ∙ (let r : length bs ≡ k = length-repeated k m in omega arith) in (
          q.0,
          (
            xs ++ m ∷ bs,
            record { count = (let h = len in omega arith); sorted = All-append (λ s. s < sorts) xs (m ∷ bs) sx (l, All-repeated (λ s. s < sorts) k m l) },
            before ((decimal m ++ b ∷ []) ++ q.0) ∙ ap (λ u. decimal count ++ (numbers_text xs ++ space ∷ u)) (append_assoc (decimal m) (b ∷ []) q.0 ∙ ap (λ u. decimal m ++ u ∷ q.0) e ∙ ap (λ u. decimal m ++ u) (sym q.1))
                ∙ ap (λ u. decimal count ++ u) (sym (numbers_more xs m bs (space ∷ []))) ∙ ap (λ u. decimal u ++ (numbers_text (xs ++ m ∷ bs) ++ space ∷ [])) (sym len),
          ),
        )

    back : (z : List ℕ) (vs : List ℕ) → AreVars sorts vs → (p : List ℕ) → decimal (length vs) ++ (numbers_text vs ++ space ∷ p) ≡ decimal count ++ (numbers_text xs ++ space ∷ z) → Opens (IsNumberWord 0 (sorts - 1) Space) number_word z
    back z vs i p e =
        let few_vars = i.count in
        let s = same_number (length vs) count (numbers_text vs ++ space ∷ p) (numbers_text xs ++ space ∷ z) (omega arith) (omega arith) (behind_more vs p) (behind_more xs z) e in
        let n = vars_back sorts xs vs p z few (let h : length vs ≡ count = s.0 in omega arith) sx i.sorted s.1 in
        ((n.number, space), record { not_below = omega arith; not_above = (let h = n.below in omega arith); ended = refl }, n.rest, n.text_is ∙ sym (append_assoc (decimal n.number) (space ∷ []) n.rest))

pub vars_more : (count : ℕ) (xs : List ℕ) (m : ℕ) (input rest left back : List ℕ) → input ≡ decimal count ++ (numbers_text xs ++ space ∷ rest) → rest ≡ decimal m ++ left → left ≡ space ∷ back → input ≡ decimal count ++ (numbers_text (xs ++ m ∷ []) ++ space ∷ back)
vars_more count xs m input rest left back e f g =
    e ∙ ap (λ u. decimal count ++ (numbers_text xs ++ space ∷ u)) (f ∙ ap (λ u. decimal m ++ u) g) ∙ ap (λ u. decimal count ++ u) (sym (numbers_more xs m [] (space ∷ back)))

pub vars_so_far : (count : ℕ) (xs input rest : List ℕ) → input ≡ decimal count ++ (numbers_text xs ++ space ∷ rest) → input ≡ (decimal count ++ (numbers_text xs ++ space ∷ [])) ++ rest
vars_so_far count xs input rest e = e ∙ ap (λ u. decimal count ++ u) (sym (append_assoc (numbers_text xs) (space ∷ []) rest)) ∙ sym (append_assoc (decimal count) (numbers_text xs ++ space ∷ []) rest)

-- the literals of a line
lits_parts : (ls : List FoLit) (p : List ℕ) → lits_text ls ++ p ≡ decimal (length ls) ++ (flat_map literal_text ls ++ newline ∷ p)
lits_parts ls p = append_assoc (decimal (length ls)) (flat_map literal_text ls ++ newline ∷ []) p ∙ ap (λ u. decimal (length ls) ++ u) (append_assoc (flat_map literal_text ls) (newline ∷ []) p)

-- the first byte behind the count
lits_first : (ls : List FoLit) (p : List ℕ) → (b : ℕ) × (q : List ℕ) × (flat_map literal_text ls ++ newline ∷ p ≡ b ∷ q) × (ends_with LineAtZero (length ls) b ≡ true) × (b < 48)
lits_first [] p = (10, p, refl, refl, omega arith)
lits_first (l ∷ ls) p = (32, (sign_word l.pos ++ (term_text l.left ++ term_text l.right)) ++ flat_map literal_text ls ++ newline ∷ p, refl, ends_some (length ls), omega arith)
  where
    ends_some : (n : ℕ) → ends_with LineAtZero (suc n) 32 ≡ true
    ends_some n = grind (arith, nat_tests)

any_literal : (vars : List ℕ) (syms : List FoSym) → CanBegin vars syms None → (l : FoLit) × IsLiteral vars syms l
any_literal vars syms c = (record { pos = true; left = c.2.0; right = c.2.0 }, (c.0, c.2.1, c.2.1))

some_lits : (vars : List ℕ) (syms : List FoSym) (some : Bool) (n : ℕ) → (some ≡ true → CanBegin vars syms None) → n ≤ most_if some → (ls : List FoLit) × AreLits vars syms ls × (length ls ≡ n)
some_lits vars syms true n t l =
    let a = any_literal vars syms (t refl) in
    let e : length (repeated n a.0) ≡ n = length-repeated n a.0 in
    (repeated n a.0, record { count = omega arith; each = All-repeated (IsLiteral vars syms) n a.0 a.1 }, e)
some_lits vars syms false zero t l = ([], record { count = omega arith; each = tt }, refl)
some_lits vars syms false (suc n) t l = absurd (omega arith)

lits_below : (vars : List ℕ) (syms : List FoSym) (some : Bool) (ls : List FoLit) → (CanBegin vars syms None → some ≡ true) → AreLits vars syms ls → length ls ≤ most_if some
lits_below vars syms true ls t h = h.count
lits_below vars syms false [] t h = omega arith
lits_below vars syms false (l ∷ ls) t h = absurd (let i = h.each.0 in let e : false ≡ true = t (i.0, tt, (l.left, i.1)) in cc)

ends_same : (n b c : ℕ) → ends_with LineAtZero n b ≡ true → ends_with LineAtZero n c ≡ true → b ≡ c
ends_same n b c e f = go (n == 0) e f
  where
    go : (t : Bool) → (if t then b == 10 else b == 32) ≡ true → (if t then c == 10 else c == 32) ≡ true → b ≡ c
    go true e f = grind (arith, nat_tests)
    go false e f = grind (arith, nat_tests)

pub lits-count : (vars : List ℕ) (syms : List FoSym) (some : Bool) (input : List ℕ) (left : ℕ) → (some ≡ true → CanBegin vars syms None) → (CanBegin vars syms None → some ≡ true)
    → Refuses (Spells (IsNumberWord 0 (most_if some) LineAtZero) number_word) (Opens (IsNumberWord 0 (most_if some) LineAtZero) number_word) input left → Refuses (Spells (AreLits vars syms) lits_text) (Opens (AreLits vars syms) lits_text) input left
lits-count vars syms some input left t f r =
    refuses-then (AreLits vars syms) lits_text (IsNumberWord 0 (most_if some) LineAtZero) number_word [] input left
    (λ w i. forth w.0 w.1 i.not_above i.ended) (λ z o. back z o.0 o.1 o.2 o.3) r
  where
    forth : (n b : ℕ) → n ≤ most_if some → ends_with LineAtZero n b ≡ true → (beyond : List ℕ) × Spells (AreLits vars syms) lits_text ((decimal n ++ b ∷ []) ++ beyond)
    forth n b l e =
        let s = some_lits vars syms some n t l in
        let q = lits_first s.0 [] in
        let same : b ≡ q.0 = ends_same n b q.0 e (subst (λ u. ends_with LineAtZero u q.0 ≡ true) s.2 q.3) in
        (q.1, (s.0, s.1, append_assoc (decimal n) (b ∷ []) q.1 ∙ ap (λ u. decimal n ++ u ∷ q.1) same ∙ ap (λ u. decimal n ++ u) (sym q.2) ∙ ap (λ u. decimal u ++ (flat_map literal_text s.0 ++ newline ∷ [])) (sym s.2)))

    back : (z : List ℕ) (ls : List FoLit) → AreLits vars syms ls → (p : List ℕ) → z ≡ lits_text ls ++ p → Opens (IsNumberWord 0 (most_if some) LineAtZero) number_word z
    back z ls i p e =
        let q = lits_first ls p in
        ((length ls, q.0), record { not_below = omega arith; not_above = lits_below vars syms some ls f i; ended = q.3 }, q.1, e ∙ lits_parts ls p ∙ ap (λ u. decimal (length ls) ++ u) q.2 ∙ sym (append_assoc (decimal (length ls)) (q.0 ∷ []) q.1))

pub is_below : (sorts : ℕ) → nat_lt 0 sorts ≡ true → 0 < sorts
is_below sorts e = grind (arith, nat_tests)

pub not_below : (sorts : ℕ) → nat_lt 0 sorts ≡ false → sorts ≡ 0
not_below sorts e = grind (arith, nat_tests)

pub vars-count-most : (sorts most : ℕ) (input : List ℕ) (left : ℕ) → most ≡ most_if (nat_lt 0 sorts)
    → Refuses (Spells (IsNumberWord 0 most Space) number_word) (Opens (IsNumberWord 0 most Space) number_word) input left → Refuses (Spells (AreVars sorts) vars_text) (Opens (AreVars sorts) vars_text) input left
vars-count-most sorts most input left e r =
    vars-count sorts (nat_lt 0 sorts) input left (is_below sorts) (not_below sorts) (subst (λ m. Refuses (Spells (IsNumberWord 0 m Space) number_word) (Opens (IsNumberWord 0 m Space) number_word) input left) e r)

pub lits-count-most : (vars : List ℕ) (syms : List FoSym) (some : Bool) (most : ℕ) (input : List ℕ) (left : ℕ) → IsTrue some ↔ CanBegin vars syms None → most ≡ most_if some
    → Refuses (Spells (IsNumberWord 0 most LineAtZero) number_word) (Opens (IsNumberWord 0 most LineAtZero) number_word) input left → Refuses (Spells (AreLits vars syms) lits_text) (Opens (AreLits vars syms) lits_text) input left
lits-count-most vars syms some most input left t e r =
    lits-count vars syms some input left t.0 t.1 (subst (λ m. Refuses (Spells (IsNumberWord 0 m LineAtZero) number_word) (Opens (IsNumberWord 0 m LineAtZero) number_word) input left) e r)

-- a literal behind its space, with the byte behind it
abbrev pub body : FoLit → List ℕ
body l = sign_word l.pos ++ (term_text l.left ++ term_text l.right)

abbrev lit_tail : ℕ → FoLit → List ℕ
lit_tail end l = body l ++ end ∷ []

pub record NextLiteral (vars : List ℕ) (syms : List FoSym) (short : ℕ) (p z : List ℕ) : Type 0 where
  pub literal : FoLit
  pub is_literal : IsLiteral vars syms literal
  pub others : List FoLit
  pub counted : length others + 1 ≡ short
  pub text_is : z ≡ body literal ++ (flat_map literal_text others ++ newline ∷ p)

lits_low : (xs : List FoLit) (z : List ℕ) → LowFirst (flat_map literal_text xs ++ space ∷ z)
lits_low [] z = (32, z, refl, omega arith)
lits_low (x ∷ xs) z = (32, body x ++ flat_map literal_text xs ++ space ∷ z, refl, omega arith)

line_low : (xs : List FoLit) (p : List ℕ) → LowFirst (flat_map literal_text xs ++ newline ∷ p)
line_low xs p = let q = lits_first xs p in (q.0, q.1, q.2, q.4)

next_here : (vars : List ℕ) (syms : List FoSym) (l : FoLit) (ls : List FoLit) (p z : List ℕ) → IsLiteral vars syms l → flat_map literal_text (l ∷ ls) ++ newline ∷ p ≡ space ∷ z → NextLiteral vars syms (length (l ∷ ls)) p z
next_here vars syms l ls p z i e = record {
  literal = l;
  is_literal = i;
  others = ls;
  counted = omega arith;
  text_is = sym (cons_tail space space (body l ++ flat_map literal_text ls ++ newline ∷ p) z e) ∙ append_assoc (body l) (flat_map literal_text ls) (newline ∷ p);
}

literal_passed : (vars : List ℕ) (syms : List FoSym) (l m : FoLit) (ls xs : List FoLit) (p z : List ℕ) → length vars < 2 ^ 32 → length syms < 2 ^ 32 → IsLiteral vars syms l → IsLiteral vars syms m
    → flat_map literal_text (l ∷ ls) ++ newline ∷ p ≡ flat_map literal_text (m ∷ xs) ++ space ∷ z → flat_map literal_text ls ++ newline ∷ p ≡ flat_map literal_text xs ++ space ∷ z
literal_passed vars syms l m ls xs p z lv lsy i j e =
    (literal_same vars syms l m (flat_map literal_text ls ++ newline ∷ p) (flat_map literal_text xs ++ space ∷ z) lv lsy (line_low ls p) (lits_low xs z) i j
    (sym (append_assoc (literal_text l) (flat_map literal_text ls) (newline ∷ p)) ∙ e ∙ append_assoc (literal_text m) (flat_map literal_text xs) (space ∷ z))).1

lits_back : (vars : List ℕ) (syms : List FoSym) (xs ls : List FoLit) (p z : List ℕ) → length vars < 2 ^ 32 → length syms < 2 ^ 32 → length xs < length ls → AllByRecursion (IsLiteral vars syms) xs → AllByRecursion (IsLiteral vars syms) ls
    → flat_map literal_text ls ++ newline ∷ p ≡ flat_map literal_text xs ++ space ∷ z → NextLiteral vars syms (length ls - length xs) p z
lits_back vars syms xs [] p z lv lsy l a b e = absurd (omega arith)
lits_back vars syms [] (m ∷ ls) p z lv lsy l a b e = subst (λ u. NextLiteral vars syms u p z) (omega arith) (next_here vars syms m ls p z b.0 e)
lits_back vars syms (x ∷ xs) (m ∷ ls) p z lv lsy l a b e =
    subst (λ u. NextLiteral vars syms u p z) (omega arith) (lits_back vars syms xs ls p z lv lsy (omega arith) a.1 b.1 (literal_passed vars syms m x ls xs p z lv lsy b.0 a.0 e))

last_end : (read count : ℕ) → read ≡ count → behind_lits read count ≡ newline
last_end read count e = grind (arith, nat_tests)

inner_end : (read count : ℕ) → read < count → behind_lits read count ≡ space
inner_end read count l = grind (arith, nat_tests)

-- what stands behind a literal
behind_one : (others : List FoLit) (read count : ℕ) (p : List ℕ) → read + length others ≡ count → (q : List ℕ) × (flat_map literal_text others ++ newline ∷ p ≡ behind_lits read count ∷ q)
behind_one [] read count p e = (p, ap (λ u. u ∷ p) (sym (last_end read count (omega arith))))
behind_one (o ∷ os) read count p e = (body o ++ flat_map literal_text os ++ newline ∷ p, ap (λ u. u ∷ (body o ++ flat_map literal_text os ++ newline ∷ p)) (sym (inner_end read count (omega arith))))

lits_more : (xs : List FoLit) (l : FoLit) (ls : List FoLit) (p : List ℕ) → flat_map literal_text (xs ++ l ∷ ls) ++ p ≡ flat_map literal_text xs ++ space ∷ (body l ++ (flat_map literal_text ls ++ p))
lits_more xs l ls p = ap (λ u. u ++ p) (flat_map-append literal_text xs (l ∷ ls)) ∙ append_assoc (flat_map literal_text xs) (flat_map literal_text (l ∷ ls)) p ∙ ap (λ u. flat_map literal_text xs ++ space ∷ u) (append_assoc (body l) (flat_map literal_text ls) p)

pub lits-next : (vars : List ℕ) (syms : List FoSym) (count : ℕ) (xs : List FoLit) (tail : List ℕ) (left : ℕ) → length vars < 2 ^ 32 → length syms < 2 ^ 32 → count ≤ most_number → length xs < count → AllByRecursion (IsLiteral vars syms) xs
    → Refuses (Spells (IsLiteral vars syms) (ended_literal (behind_lits (length xs + 1) count))) (Opens (IsLiteral vars syms) (ended_literal (behind_lits (length xs + 1) count))) (space ∷ tail) left
    → Refuses (Spells (AreLits vars syms) lits_text) (Opens (AreLits vars syms) lits_text) ((decimal count ++ (flat_map literal_text xs ++ space ∷ [])) ++ tail) left
lits-next vars syms count xs tail left lv lsy fc short a r =
    refuses-then (AreLits vars syms) lits_text (IsLiteral vars syms) (lit_tail (behind_lits (length xs + 1) count)) (decimal count ++ (flat_map literal_text xs ++ space ∷ [])) tail left
    (λ l i. forth l i) (λ z o. back z o.0 o.1 o.2 (sym (lits_parts o.0 o.2) ∙ sym o.3 ∙ before z)) (refuses-tail (IsLiteral vars syms) (ended_literal (behind_lits (length xs + 1) count)) (lit_tail (behind_lits (length xs + 1) count)) space tail left (λ l. refl) r)
  where
    before : (z : List ℕ) → (decimal count ++ (flat_map literal_text xs ++ space ∷ [])) ++ z ≡ decimal count ++ (flat_map literal_text xs ++ space ∷ z)
    before z = append_assoc (decimal count) (flat_map literal_text xs ++ space ∷ []) z ∙ ap (λ u. decimal count ++ u) (append_assoc (flat_map literal_text xs) (space ∷ []) z)

    forth : (l : FoLit) → IsLiteral vars syms l → (beyond : List ℕ) × Spells (AreLits vars syms) lits_text ((decimal count ++ (flat_map literal_text xs ++ space ∷ [])) ++ (lit_tail (behind_lits (length xs + 1) count) l ++ beyond))
    forth l i =
        let k : ℕ = count - length xs - 1 in
        let ls : List FoLit = repeated k l in
        let lk : length ls ≡ k = length-repeated k l in
        let q = behind_one ls (length xs + 1) count [] (omega arith) in
        let len : length (xs ++ l ∷ ls) ≡ count = length-append xs (l ∷ ls) ∙ omega arith in (
          q.0,
          (
            xs ++ l ∷ ls,
            record { count = omega arith; each = All-append (IsLiteral vars syms) xs (l ∷ ls) a (i, All-repeated (IsLiteral vars syms) k l i) },
            before (lit_tail (behind_lits (length xs + 1) count) l ++ q.0) ∙ ap (λ u. decimal count ++ (flat_map literal_text xs ++ space ∷ u)) (append_assoc (body l) (behind_lits (length xs + 1) count ∷ []) q.0 ∙ ap (λ u. body l ++ u) (sym q.1))
                ∙ ap (λ u. decimal count ++ u) (sym (lits_more xs l ls (newline ∷ []))) ∙ ap (λ u. decimal u ++ (flat_map literal_text (xs ++ l ∷ ls) ++ newline ∷ [])) (sym len),
          ),
        )

    back : (z : List ℕ) (ls : List FoLit) → AreLits vars syms ls → (p : List ℕ) → decimal (length ls) ++ (flat_map literal_text ls ++ newline ∷ p) ≡ decimal count ++ (flat_map literal_text xs ++ space ∷ z) → Opens (IsLiteral vars syms) (lit_tail (behind_lits (length xs + 1) count)) z
    back z ls i p e =
        let few = i.count in
        let s = same_number (length ls) count (flat_map literal_text ls ++ newline ∷ p) (flat_map literal_text xs ++ space ∷ z) (omega arith) (omega arith) (line_low ls p) (lits_low xs z) e in
        let many : length ls ≡ count = s.0 in
        let n = lits_back vars syms xs ls p z lv lsy (omega arith) a i.each s.1 in
        let counted = n.counted in
        let q = behind_one n.others (length xs + 1) count p (omega arith) in
        (n.literal, n.is_literal, q.0, n.text_is ∙ ap (λ u. body n.literal ++ u) q.1 ∙ sym (append_assoc (body n.literal) (behind_lits (length xs + 1) count ∷ []) q.0))

pub lits_so_far : (count : ℕ) (xs : List FoLit) (input rest tail : List ℕ) → input ≡ decimal count ++ (flat_map literal_text xs ++ rest) → rest ≡ space ∷ tail → input ≡ (decimal count ++ (flat_map literal_text xs ++ space ∷ [])) ++ tail
lits_so_far count xs input rest tail e f = e ∙ ap (λ u. decimal count ++ (flat_map literal_text xs ++ u)) f ∙ ap (λ u. decimal count ++ u) (sym (append_assoc (flat_map literal_text xs) (space ∷ []) tail)) ∙ sym (append_assoc (decimal count) (flat_map literal_text xs ++ space ∷ []) tail)

pub inner_space : (read count : ℕ) (rest : List ℕ) → read < count → StandsFirst (behind_lits read count) rest → StandsFirst 32 rest
inner_space read count rest l s = subst (λ u. StandsFirst u rest) (inner_end read count l) s

most_least : (some : Bool) (count : ℕ) → count ≤ most_if some → (count ≤ most_number) × (0 < count → some ≡ true)
most_least true count l = (l, λ p. refl)
most_least false count l = (omega arith, λ p. absurd (omega arith))

pub most_is : (some : Bool) (count most : ℕ) → most ≡ most_if some → count ≤ most → count ≤ most_number
most_is some count most e l = (most_least some count (subst (λ u. count ≤ u) e l)).0

pub count_below : (sorts count most : ℕ) → most ≡ most_if (nat_lt 0 sorts) → count ≤ most → 0 < count → (0 < sorts) × (count ≤ most_number)
count_below sorts count most e l p = let m = most_least (nat_lt 0 sorts) count (subst (λ u. count ≤ u) e l) in (is_below sorts (m.1 p), m.0)

pub some_begins : (vars : List ℕ) (syms : List FoSym) (some : Bool) (count most : ℕ) → IsTrue some ↔ CanBegin vars syms None → most ≡ most_if some → count ≤ most → 0 < count → CanBegin vars syms None
some_begins vars syms some count most t e l p = t.0 ((most_least some count (subst (λ u. count ≤ u) e l)).1 p)

-- some term exists: a variable, or a symbol without arguments
mutual
  constant_of : (syms : List FoSym) (t : Term) (s : ℕ) → HasSort [] syms t s → HasConstant syms
  constant_of syms (variable v) s h = absurd (let l : v < 0 = slice_get_within [] v s h in omega arith)
  constant_of syms (symbol f ts) s h = constant_in syms f h.0 ts h.0.args refl h.1 h.3

  constant_in : (syms : List FoSym) (f : ℕ) (y : FoSym) (ts : Terms) (ss : List ℕ) → y.args ≡ ss → slice_get syms f ≡ Some y → HaveSorts [] syms ts ss → HasConstant syms
  constant_in syms f y none [] e at h = (f, y, at, e)
  constant_in syms f y none (s ∷ ss) e at h = absurd h
  constant_in syms f y (more t ts) [] e at h = absurd h
  constant_in syms f y (more t ts) (s ∷ ss) e at h = constant_of syms t s h.0

begins_constant : (vars : List ℕ) (syms : List FoSym) → HasConstant syms → CanBegin vars syms None
begins_constant vars syms c = (c.1.result, tt, (symbol c.0 none, (c.1, c.2, refl, subst (HaveSorts vars syms none) (sym c.3) tt)))

pub some_constant : (vars : List ℕ) (syms : List FoSym) → HasConstant syms → IsTrue true ↔ CanBegin vars syms None
some_constant vars syms h = ((λ t. begins_constant vars syms h), (λ b. refl))

pub some_variable : (vars : List ℕ) (syms : List FoSym) → (HasConstant syms → ⊥) → IsTrue (not (length vars == 0)) ↔ CanBegin vars syms None
some_variable [] syms h = ((λ t. absurd cc), (λ b. absurd (h (constant_of syms b.2.0 b.0 b.2.1))))
some_variable (x ∷ xs) syms h = ((λ t. (x, tt, (variable 0, refl))), (λ b. grind (arith, nat_tests)))

-- a clause in its two parts
clause_parts : (c : FoClause) (p : List ℕ) → clause_text c ++ p ≡ vars_text c.vars ++ (lits_text c.lits ++ p)
clause_parts c p =
    append_assoc (decimal (length c.vars)) (numbers_text c.vars ++ (space ∷ lits_text c.lits)) p ∙ ap (λ u. decimal (length c.vars) ++ u) (append_assoc (numbers_text c.vars) (space ∷ lits_text c.lits) p) ∙ sym (vars_parts c.vars (lits_text c.lits ++ p))

same_numbers : (sorts : ℕ) (xs bs p q : List ℕ) → sorts ≤ most_number → length xs ≡ length bs → AreSorts sorts xs → AreSorts sorts bs → numbers_text xs ++ space ∷ p ≡ numbers_text bs ++ space ∷ q → (xs ≡ bs) × (p ≡ q)
same_numbers sorts [] [] p q f l sa sb e = (refl, cons_tail space space p q e)
same_numbers sorts [] (b ∷ bs) p q f l sa sb e = absurd (omega arith)
same_numbers sorts (a ∷ xs) [] p q f l sa sb e = absurd (omega arith)
same_numbers sorts (a ∷ xs) (b ∷ bs) p q f l sa sb e =
    let s = one_passed sorts b a bs xs p q f sb.0 sa.0 e in
    let r = same_numbers sorts xs bs p q f (omega arith) sa.1 sb.1 s.1 in
    (ap (λ u. u ∷ xs) (sym s.0) ∙ ap (λ u. b ∷ u) r.0, r.1)

vars_same : (sorts : ℕ) (xs bs p q : List ℕ) → sorts ≤ most_number → AreVars sorts xs → AreVars sorts bs → vars_text xs ++ p ≡ vars_text bs ++ q → (xs ≡ bs) × (p ≡ q)
vars_same sorts xs bs p q f i j e =
    let one = i.count in
    let two = j.count in
    let s = same_number (length xs) (length bs) (numbers_text xs ++ space ∷ p) (numbers_text bs ++ space ∷ q) (omega arith) (omega arith) (behind_more xs p) (behind_more bs q) (sym (vars_parts xs p) ∙ e ∙ vars_parts bs q) in
    same_numbers sorts xs bs p q f s.0 i.sorted j.sorted s.1

same_lits : (vars : List ℕ) (syms : List FoSym) (xs ls : List FoLit) (p q : List ℕ) → length vars < 2 ^ 32 → length syms < 2 ^ 32 → length xs ≡ length ls → AllByRecursion (IsLiteral vars syms) xs → AllByRecursion (IsLiteral vars syms) ls
    → flat_map literal_text xs ++ newline ∷ p ≡ flat_map literal_text ls ++ newline ∷ q → (xs ≡ ls) × (p ≡ q)
same_lits vars syms [] [] p q lv ly l a b e = (refl, cons_tail newline newline p q e)
same_lits vars syms [] (m ∷ ls) p q lv ly l a b e = absurd (omega arith)
same_lits vars syms (x ∷ xs) [] p q lv ly l a b e = absurd (omega arith)
same_lits vars syms (x ∷ xs) (m ∷ ls) p q lv ly l a b e =
    let s = literal_same vars syms x m (flat_map literal_text xs ++ newline ∷ p) (flat_map literal_text ls ++ newline ∷ q) lv ly (line_low xs p) (line_low ls q) a.0 b.0
    (sym (append_assoc (literal_text x) (flat_map literal_text xs) (newline ∷ p)) ∙ e ∙ append_assoc (literal_text m) (flat_map literal_text ls) (newline ∷ q)) in
    let r = same_lits vars syms xs ls p q lv ly (omega arith) a.1 b.1 s.1 in
    (ap (λ u. u ∷ xs) s.0 ∙ ap (λ u. m ∷ u) r.0, r.1)

lits_same : (vars : List ℕ) (syms : List FoSym) (xs ls : List FoLit) (p q : List ℕ) → length vars < 2 ^ 32 → length syms < 2 ^ 32 → AreLits vars syms xs → AreLits vars syms ls → lits_text xs ++ p ≡ lits_text ls ++ q → (xs ≡ ls) × (p ≡ q)
lits_same vars syms xs ls p q lv ly i j e =
    let one = i.count in
    let two = j.count in
    let s = same_number (length xs) (length ls) (flat_map literal_text xs ++ newline ∷ p) (flat_map literal_text ls ++ newline ∷ q) (omega arith) (omega arith) (line_low xs p) (line_low ls q) (sym (lits_parts xs p) ∙ e ∙ lits_parts ls q) in
    same_lits vars syms xs ls p q lv ly s.0 i.each j.each s.1

vars_of : (sorts : ℕ) (syms : List FoSym) (c : FoClause) → IsClause sorts syms c → AreVars sorts c.vars
vars_of sorts syms c i = record { count = i.vars_count; sorted = i.vars }

lits_of : (sorts : ℕ) (syms : List FoSym) (c : FoClause) → IsClause sorts syms c → AreLits c.vars syms c.lits
lits_of sorts syms c i = record { count = i.lits_count; each = i.lits }

abbrev joined : List ℕ → List FoLit → FoClause
joined vs ls = record { vars = vs; lits = ls }

pub clause_of : (sorts : ℕ) (syms : List FoSym) (vs : List ℕ) (ls : List FoLit) → AreVars sorts vs → AreLits vs syms ls → IsClause sorts syms (record { vars = vs; lits = ls })
clause_of sorts syms vs ls i j = record { vars_count = i.count; vars = i.sorted; lits_count = j.count; lits = j.each }

same_clause : (c d : FoClause) → c.vars ≡ d.vars → c.lits ≡ d.lits → c ≡ d
same_clause c d e f = let one : c ≡ joined d.vars c.lits = ap (λ u. joined u c.lits) e in one ∙ ap (joined d.vars) f

pub clause-code : (sorts : ℕ) (syms : List FoSym) → sorts ≤ most_number → length syms < 2 ^ 32 → IsCode (IsClause sorts syms) clause_text
clause-code sorts syms f ly = record {
  same = λ c d p q i j e.
      let a = vars_same sorts c.vars d.vars (lits_text c.lits ++ p) (lits_text d.lits ++ q) f (vars_of sorts syms c i) (vars_of sorts syms d j) (sym (clause_parts c p) ∙ e ∙ clause_parts d q) in
      let few = j.vars_count in
      let ic : AreLits d.vars syms c.lits = subst (λ u. AreLits u syms c.lits) a.0 (lits_of sorts syms c i) in
      let b = lits_same d.vars syms c.lits d.lits p q (omega arith) ly ic (lits_of sorts syms d j) a.1 in
      (same_clause c d a.0 b.0, b.1);
}

pub clause-vars : (sorts : ℕ) (syms : List FoSym) (input : List ℕ) (left : ℕ) → Refuses (Spells (AreVars sorts) vars_text) (Opens (AreVars sorts) vars_text) input left → Refuses (Spells (IsClause sorts syms) clause_text) (Opens (IsClause sorts syms) clause_text) input left
clause-vars sorts syms input left r =
    refuses-then (IsClause sorts syms) clause_text (AreVars sorts) vars_text [] input left
    (λ vs i. (lits_text [], (joined vs [], clause_of sorts syms vs [] i (record { count = omega arith; each = tt }), sym (append-nil (vars_text vs ++ lits_text [])) ∙ append_assoc (vars_text vs) (lits_text []) [] ∙ sym (clause_parts (joined vs []) []) ∙ append-nil (clause_text (joined vs [])))))
    (λ z o. (o.0.vars, vars_of sorts syms o.0 o.1, lits_text o.0.lits ++ o.2, o.3 ∙ clause_parts o.0 o.2)) r

pub clause-lits : (sorts : ℕ) (syms : List FoSym) (vs : List ℕ) (input : List ℕ) (left : ℕ) → sorts ≤ most_number → AreVars sorts vs → Refuses (Spells (AreLits vs syms) lits_text) (Opens (AreLits vs syms) lits_text) input left → Refuses (Spells (IsClause sorts syms) clause_text) (Opens (IsClause sorts syms) clause_text) (vars_text vs ++ input) left
clause-lits sorts syms vs input left f i r =
    refuses-then (IsClause sorts syms) clause_text (AreLits vs syms) lits_text (vars_text vs) input left
    (λ ls j. ([], (joined vs ls, clause_of sorts syms vs ls i j, sym (clause_parts (joined vs ls) []) ∙ append-nil (clause_text (joined vs ls)))))
    (λ z o. (let s = vars_same sorts o.0.vars vs (lits_text o.0.lits ++ o.2) z f (vars_of sorts syms o.0 o.1) i (sym (clause_parts o.0 o.2) ∙ sym o.3) in
    (o.0.lits, subst (λ u. AreLits u syms o.0.lits) s.0 (lits_of sorts syms o.0 o.1), o.2, sym s.1))) r

pub clause_read : (vs : List ℕ) (ls : List FoLit) (input one two : List ℕ) → input ≡ vars_text vs ++ one → one ≡ lits_text ls ++ two → input ≡ clause_text (record { vars = vs; lits = ls }) ++ two
clause_read vs ls input one two e f = e ∙ ap (λ u. vars_text vs ++ u) f ∙ sym (clause_parts (joined vs ls) two)

pub never_constant : (constant : Bool) (syms : List FoSym) → constant ≡ false → IsTrue constant ↔ HasConstant syms → HasConstant syms → ⊥
never_constant constant syms e h k = let a : false ≡ true = sym e ∙ h.1 k in cc
