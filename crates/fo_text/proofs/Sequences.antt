-- Pieces one behind the other, and pieces that their first bytes tell apart.
use Rattle.std.proofs.Common.{ℕ, ◌≡◌, List, [], ◌∷◌, ◌++◌, length, refl, sym, ap, ◌∙◌, subst, append_assoc}
use Rattle.std.proofs.lemmas.List.{append-nil}
use Rattle.fo_text.specs.Refusals.{Spells, Opens, Stops, Refuses}
use Rattle.fo_text.specs.Pieces.{StandsFirst, IsKeyword, keyword_text}
use Rattle.fo_text.proofs.Lists.{append-cancel}
use Rattle.fo_text.proofs.Composing.{IsCode, refuses-then, refuses-same}

abbrev pub Stopped : {X : Type 0} → (X → Type 0) → (X → List ℕ) → List ℕ → ℕ → Type 0
Stopped P tx input left = Refuses (Spells P tx) (Opens P tx) input left

-- both lists are empty, or begin with one byte
abbrev pub BeginAlike : List ℕ → List ℕ → Type 0
BeginAlike [] z = z ≡ []
BeginAlike (b ∷ bs) z = StandsFirst b z

ahead_stops : (None None' : List ℕ → Type 0) (input before after : List ℕ) → input ≡ before ++ after → ((z : List ℕ) → BeginAlike input z → None' z → None z) → Stops (λ z. None (before ++ z)) after → Stops (λ z. None' (before ++ z)) after
ahead_stops None None' input [] [] e back s = λ m. s (back [] (subst (λ u. BeginAlike u []) (sym e) refl) m)
ahead_stops None None' input [] (b ∷ bs) e back s = λ rest m. s rest (back (b ∷ rest) (subst (λ u. BeginAlike u (b ∷ rest)) (sym e) refl) m)
ahead_stops None None' input (c ∷ cs) [] e back s = λ m. s (back (c ∷ (cs ++ [])) (subst (λ u. BeginAlike u (c ∷ (cs ++ []))) (sym e) refl) m)
ahead_stops None None' input (c ∷ cs) (b ∷ bs) e back s = λ rest m. s rest (back (c ∷ (cs ++ b ∷ rest)) (subst (λ u. BeginAlike u (c ∷ (cs ++ b ∷ rest))) (sym e) refl) m)

-- a piece that the whole begins with, where the whole begins as the input does
pub refuses-part : {X Y : Type 0} (IsX : X → Type 0) (tx : X → List ℕ) (IsY : Y → Type 0) (ty : Y → List ℕ) (input : List ℕ) (left : ℕ)
    → ((y : Y) → IsY y → (more : List ℕ) × Spells IsX tx (ty y ++ more))
    → ((z : List ℕ) → BeginAlike input z → Opens IsX tx z → Opens IsY ty z)
    → Stopped IsY ty input left → Stopped IsX tx input left
refuses-part IsX tx IsY ty input left forth back r =
    let y = r.goes_on in
    let g = forth y.0 y.1 in
    let whole : r.before ++ (r.rest ++ g.0) ≡ ty y.0 ++ g.0 = sym (append_assoc r.before r.rest g.0) ∙ ap (λ u. u ++ g.0) y.2 in
    record {
      before = r.before;
      after = r.after;
      input_is = r.input_is;
      left_is = r.left_is;
      rest = r.rest ++ g.0;
      goes_on = subst (Spells IsX tx) (sym whole) g.1;
      stops = ahead_stops (Opens IsY ty) (Opens IsX tx) input r.before r.after r.input_is back r.stops;
    }

no_start : {X : Type 0} (IsX : X → Type 0) (tx : X → List ℕ) (input : List ℕ) → ((z : List ℕ) → BeginAlike input z → Opens IsX tx z → ⊥) → Stops (λ z. Opens IsX tx ([] ++ z)) input
no_start IsX tx [] h = λ o. h [] refl o
no_start IsX tx (b ∷ bs) h = λ z o. h (b ∷ z) refl o

-- nothing begins as the input does
pub refuses-nothing : {X : Type 0} (IsX : X → Type 0) (tx : X → List ℕ) (x : X) → IsX x → (input : List ℕ) → ((z : List ℕ) → BeginAlike input z → Opens IsX tx z → ⊥) → Stopped IsX tx input (length input)
refuses-nothing IsX tx x i input h = record { before = []; after = input; input_is = refl; left_is = refl; rest = tx x; goes_on = (x, i, refl); stops = no_start IsX tx input h }

-- two pieces
abbrev pub IsPair : {A B : Type 0} → (A → Type 0) → (B → Type 0) → A × B → Type 0
IsPair IsA IsB p = IsA p.0 × IsB p.1

abbrev pub pair_text : {A B : Type 0} → (A → List ℕ) → (B → List ℕ) → A × B → List ℕ
pair_text ta tb p = ta p.0 ++ tb p.1

pub pair-first : {A B : Type 0} (IsA : A → Type 0) (ta : A → List ℕ) (IsB : B → Type 0) (tb : B → List ℕ) (b : B) → IsB b → (input : List ℕ) (left : ℕ) → Stopped IsA ta input left → Stopped (IsPair IsA IsB) (pair_text ta tb) input left
pair-first IsA ta IsB tb b ib input left r =
    refuses-then (IsPair IsA IsB) (pair_text ta tb) IsA ta [] input left (λ a i. (tb b, ((a, b), (i, ib), refl))) (λ z o. (o.0.0, o.1.0, tb o.0.1 ++ o.2, o.3 ∙ append_assoc (ta o.0.0) (tb o.0.1) o.2)) r

pub pair-then : {A B : Type 0} (IsA : A → Type 0) (ta : A → List ℕ) (IsB : B → Type 0) (tb : B → List ℕ) → IsCode IsA ta → (a : A) → IsA a → (whole input : List ℕ) (left : ℕ) → whole ≡ ta a ++ input → Stopped IsB tb input left → Stopped (IsPair IsA IsB) (pair_text ta tb) whole left
pair-then IsA ta IsB tb code a ia whole input left e r =
    refuses-same (IsPair IsA IsB) (pair_text ta tb) whole (ta a ++ input) left e (refuses-then (IsPair IsA IsB) (pair_text ta tb) IsB tb (ta a) input left
    (λ b i. ([], ((a, b), (ia, i), ap (λ u. ta a ++ u) (append-nil (tb b)))))
    (λ z o. (let s = code.same o.0.0 a (tb o.0.1 ++ o.2) z o.1.0 ia (sym (append_assoc (ta o.0.0) (tb o.0.1) o.2) ∙ sym o.3) in (o.0.1, o.1.1, o.2, sym s.1))) r)

pub pair-code : {A B : Type 0} (IsA : A → Type 0) (ta : A → List ℕ) (IsB : B → Type 0) (tb : B → List ℕ) → IsCode IsA ta → IsCode IsB tb → IsCode (IsPair IsA IsB) (pair_text ta tb)
pair-code IsA ta IsB tb ca cb = record {
  same = λ x y p q i j e.
      let s = ca.same x.0 y.0 (tb x.1 ++ p) (tb y.1 ++ q) i.0 j.0 (sym (append_assoc (ta x.0) (tb x.1) p) ∙ e ∙ append_assoc (ta y.0) (tb y.1) q) in
      let r = cb.same x.1 y.1 p q i.1 j.1 s.1 in
      (ap (λ u. (u, x.1)) s.0 ∙ ap (λ u. (y.0, u)) r.0, r.1);
}

-- what is behind two pieces
pub pair_read : (a b input one two : List ℕ) → input ≡ a ++ one → one ≡ b ++ two → input ≡ (a ++ b) ++ two
pair_read a b input one two e f = e ∙ ap (λ u. a ++ u) f ∙ sym (append_assoc a b two)

-- some words, each with a first byte of its own
pub record AreApart {T : Type 0} (word : T → List ℕ) : Type 0 where
  pub first : T → ℕ
  pub tail : T → List ℕ
  pub word_is : (t : T) → word t ≡ first t ∷ tail t
  pub same : (t u : T) → first t ≡ first u → t ≡ u

abbrev pub IsAny : {T : Type 0} → T → Type 0
IsAny t = Unit {0}

-- the bytes at the front of a word
first_is : {T : Type 0} (word : T → List ℕ) (apart : AreApart word) (t : T) (p : List ℕ) (b : ℕ) (bs : List ℕ) → b ∷ bs ≡ word t ++ p → b ≡ apart.first t
first_is word apart t p b bs e = let f : b ∷ bs ≡ apart.first t ∷ (apart.tail t ++ p) = e ∙ ap (λ u. u ++ p) (apart.word_is t) in cc

pub choice-none : {T : Type 0} (word : T → List ℕ) (apart : AreApart word) (some : T) (input : List ℕ) → ((t : T) → StandsFirst (apart.first t) input → ⊥) → Stopped (IsAny {T = T}) word input (length input)
choice-none {T = T} word apart some input h = refuses-nothing (IsAny {T = T}) word some tt input (λ z a o. never input z a o.0 o.2 o.3 (h o.0))
  where
    never : (input z : List ℕ) → BeginAlike input z → (t : T) (p : List ℕ) → z ≡ word t ++ p → (StandsFirst (apart.first t) input → ⊥) → ⊥
    never [] z a t p e n = let f : [] ≡ apart.first t ∷ (apart.tail t ++ p) = sym a ∙ e ∙ ap (λ u. u ++ p) (apart.word_is t) in cc
    never (b ∷ bs) [] a t p e n = a
    never (b ∷ bs) (c ∷ z) a t p e n = n (sym a ∙ first_is word apart t p c z e)

pub choice-word : {T : Type 0} (word : T → List ℕ) (apart : AreApart word) (t : T) (input : List ℕ) (left : ℕ) → StandsFirst (apart.first t) input → Stopped IsKeyword (keyword_text (word t)) input left → Stopped (IsAny {T = T}) word input left
choice-word {T = T} word apart t input left h r =
    refuses-part (IsAny {T = T}) word IsKeyword (keyword_text (word t)) input left (λ u k. ([], (t, tt, append-nil (word t)))) (λ z a o. back input z h a o.0 o.2 o.3) r
  where
    back : (input z : List ℕ) → StandsFirst (apart.first t) input → BeginAlike input z → (u : T) (p : List ℕ) → z ≡ word u ++ p → Opens IsKeyword (keyword_text (word t)) z
    back [] z h a u p e = absurd h
    back (b ∷ bs) [] h a u p e = absurd a
    back (b ∷ bs) (c ∷ z) h a u p e =
        let f : apart.first u ≡ apart.first t = sym (first_is word apart u p c z e) ∙ a ∙ h in
        (tt, tt, p, e ∙ ap (λ v. word v ++ p) (apart.same u t f))

pub choice-code : {T : Type 0} (word : T → List ℕ) → AreApart word → IsCode (IsAny {T = T}) word
choice-code word apart = record {
  same = λ t u p q i j e.
      let f : apart.first t ∷ (apart.tail t ++ p) ≡ apart.first u ∷ (apart.tail u ++ q) = ap (λ v. v ++ p) (sym (apart.word_is t)) ∙ e ∙ ap (λ v. v ++ q) (apart.word_is u) in
      let s : t ≡ u = apart.same t u (heads f) in
      let g : apart.tail t ++ p ≡ apart.tail u ++ q = tails f in
      (s, append-cancel (apart.tail u) p q (ap (λ v. apart.tail v ++ p) (sym s) ∙ g));
}
  where
    heads : {a b : ℕ} {p q : List ℕ} → a ∷ p ≡ b ∷ q → a ≡ b
    heads e = cc

    tails : {a b : ℕ} {p q : List ℕ} → a ∷ p ≡ b ∷ q → p ≡ q
    tails e = cc
