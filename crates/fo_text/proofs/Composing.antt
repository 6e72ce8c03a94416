-- A part that is refused refuses the whole.
use Rattle.std.proofs.Common.{ℕ, ◌≡◌, ◌<◌, ◌-◌, suc, zero, List, [], ◌∷◌, ◌++◌, length, refl, sym, ap, ◌∙◌, subst, arith, append_assoc, length-append}
use Rattle.std.proofs.lemmas.List.Concat.{flat_map-append}
use Rattle.std.proofs.lemmas.List.{append-nil}
use Rattle.std.specs.List.{AllByRecursion, flat_map}
use Rattle.fo_text.specs.Refusals.{Spells, Opens, Stops, Refuses}
use Rattle.fo_text.specs.declared.refusal.Stop.{Stop}
use Rattle.fo_text.specs.declared.refusal.Stop.TheVariants.{At, NoRoom}
use Rattle.fo_text.specs.Reads.{IsStop}
use Rattle.fo_text.specs.Pieces.{AreMany}
use Rattle.fo_text.proofs.Lists.{All-append}

pub Stops-wider : (L M : List ℕ → Type 0) (z : List ℕ) → ((x : List ℕ) → M x → L x) → Stops L z → Stops M z
Stops-wider L M [] h s = λ m. s (h [] m)
Stops-wider L M (b ∷ bs) h s = λ rest m. s rest (h (b ∷ rest) m)

regroup : (w b r m : List ℕ) → w ++ ((b ++ r) ++ m) ≡ (w ++ b) ++ (r ++ m)
regroup w b r m = ap (λ z. w ++ z) (append_assoc b r m) ∙ sym (append_assoc w b (r ++ m))

pub refuses-behind : (Some None Some' None' : List ℕ → Type 0) (w input : List ℕ) (left : ℕ)
    → ((z : List ℕ) → Some z → (more : List ℕ) × Some' (w ++ (z ++ more)))
    → ((z : List ℕ) → None' (w ++ z) → None z)
    → Refuses Some None input left → Refuses Some' None' (w ++ input) left
refuses-behind Some None Some' None' w input left forth back r =
    let g : (more : List ℕ) × Some' (w ++ ((r.before ++ r.rest) ++ more)) = forth (r.before ++ r.rest) r.goes_on in
    record {
      before = w ++ r.before;
      after = r.after;
      input_is = ap (λ z. w ++ z) r.input_is ∙ sym (append_assoc w r.before r.after);
      left_is = r.left_is;
      rest = r.rest ++ g.0;
      goes_on = subst Some' (regroup w r.before r.rest g.0) g.1;
      stops = Stops-wider (λ z. None (r.before ++ z)) (λ z. None' ((w ++ r.before) ++ z)) r.after (λ x m. back (r.before ++ x) (subst None' (append_assoc w r.before x) m)) r.stops;
    }

-- one piece behind bytes that were read
pub refuses-then : {X Y : Type 0} (IsX : X → Type 0) (tx : X → List ℕ) (IsY : Y → Type 0) (ty : Y → List ℕ) (w input : List ℕ) (left : ℕ)
    → ((y : Y) → IsY y → (more : List ℕ) × Spells IsX tx (w ++ (ty y ++ more)))
    → ((z : List ℕ) → Opens IsX tx (w ++ z) → Opens IsY ty z)
    → Refuses (Spells IsY ty) (Opens IsY ty) input left → Refuses (Spells IsX tx) (Opens IsX tx) (w ++ input) left
refuses-then IsX tx IsY ty w input left forth back r =
    refuses-behind (Spells IsY ty) (Opens IsY ty) (Spells IsX tx) (Opens IsX tx) w input left (λ z s. subst (λ u. (more : List ℕ) × Spells IsX tx (w ++ (u ++ more))) (sym s.2) (forth s.0 s.1)) back r

-- no text of a value begins another
pub record IsCode {X : Type 0} (IsX : X → Type 0) (tx : X → List ℕ) : Type 0 where
  pub same : (x y : X) (p q : List ℕ) → IsX x → IsX y → tx x ++ p ≡ tx y ++ q → (x ≡ y) × (p ≡ q)

abbrev pub repeated : {X : Type 0} → ℕ → X → List X
repeated zero x = []
repeated (suc n) x = x ∷ repeated n x

pub length-repeated : {X : Type 0} (n : ℕ) (x : X) → length (repeated n x) ≡ n
length-repeated zero x = refl
length-repeated (suc n) x = ap suc (length-repeated n x)

pub All-repeated : {X : Type 0} (P : X → Type 0) (n : ℕ) (x : X) → P x → AllByRecursion P (repeated n x)
All-repeated P zero x h = tt
All-repeated P (suc n) x h = (h, All-repeated P n x h)

-- the text that begins as some values do goes on with the next one
many-back : {X : Type 0} (IsX : X → Type 0) (tx : X → List ℕ) (code : IsCode IsX tx) (xs ys : List X) (z more : List ℕ)
    → AllByRecursion IsX xs → AllByRecursion IsX ys → length xs < length ys → flat_map tx ys ++ more ≡ flat_map tx xs ++ z → Opens IsX tx z
many-back IsX tx code [] [] z more a b l e = absurd (omega arith)
many-back IsX tx code [] (y ∷ ys) z more a b l e = (y, b.0, flat_map tx ys ++ more, sym e ∙ append_assoc (tx y) (flat_map tx ys) more)
many-back IsX tx code (x ∷ xs) [] z more a b l e = absurd (omega arith)
many-back IsX tx code (x ∷ xs) (y ∷ ys) z more a b l e =
    let parts : tx y ++ (flat_map tx ys ++ more) ≡ tx x ++ (flat_map tx xs ++ z) = sym (append_assoc (tx y) (flat_map tx ys) more) ∙ e ∙ append_assoc (tx x) (flat_map tx xs) z in
    let s : (y ≡ x) × (flat_map tx ys ++ more ≡ flat_map tx xs ++ z) = code.same y x (flat_map tx ys ++ more) (flat_map tx xs ++ z) b.0 a.0 parts in
    many-back IsX tx code xs ys z more a.1 b.1 (omega arith) s.1

many-forth : {X : Type 0} (IsX : X → Type 0) (tx : X → List ℕ) (n : ℕ) (xs : List X) → AllByRecursion IsX xs → length xs < n
    → (x : X) → IsX x → (more : List ℕ) × Spells (AreMany IsX n) (flat_map tx) (flat_map tx xs ++ (tx x ++ more))
many-forth {X = X} IsX tx n xs a l x h =
    let k : ℕ = n - length xs - 1 in
    let ys : List X = x ∷ repeated k x in
    let len : length (xs ++ ys) ≡ n = length-append xs ys ∙ (let r : length (repeated k x) ≡ k = length-repeated k x in omega arith) in
    (flat_map tx (repeated k x), (xs ++ ys, (len, All-append IsX xs ys a (h, All-repeated IsX k x h)), sym (flat_map-append tx xs ys)))

pub refuses-item : {X : Type 0} (IsX : X → Type 0) (tx : X → List ℕ) (code : IsCode IsX tx) (n : ℕ) (xs : List X) (input : List ℕ) (left : ℕ)
    → AllByRecursion IsX xs → length xs < n
    → Refuses (Spells IsX tx) (Opens IsX tx) input left → Refuses (Spells (AreMany IsX n) (flat_map tx)) (Opens (AreMany IsX n) (flat_map tx)) (flat_map tx xs ++ input) left
refuses-item IsX tx code n xs input left a l r =
    refuses-then (AreMany IsX n) (flat_map tx) IsX tx (flat_map tx xs) input left (many-forth IsX tx n xs a l)
    (λ z o. many-back IsX tx code xs o.0 z o.2 a o.1.1 (let m : length o.0 ≡ n = o.1.0 in omega arith) (sym o.3)) r

-- why a part is refused refuses the whole
pub stop-behind : {X Y : Type 0} (IsX : X → Type 0) (tx : X → List ℕ) (IsY : Y → Type 0) (ty : Y → List ℕ) (whole part : List ℕ)
    → ((left : ℕ) → Refuses (Spells IsY ty) (Opens IsY ty) part left → Refuses (Spells IsX tx) (Opens IsX tx) whole left)
    → (e : Stop) → IsStop IsY ty part e → IsStop IsX tx whole e
stop-behind IsX tx IsY ty whole part h (At left) s = h left s
stop-behind IsX tx IsY ty whole part h NoRoom s = tt

pub refuses-same : {X : Type 0} (IsX : X → Type 0) (tx : X → List ℕ) (a b : List ℕ) (left : ℕ) → a ≡ b → Refuses (Spells IsX tx) (Opens IsX tx) b left → Refuses (Spells IsX tx) (Opens IsX tx) a left
refuses-same IsX tx a b left e r = subst (λ u. Refuses (Spells IsX tx) (Opens IsX tx) u left) (sym e) r

-- values whose text begins with that of a part
pub record Begins {X A : Type 0} (P : X → Type 0) (tx tb : X → List ℕ) (f : X → A) (IsA : A → Type 0) (ta : A → List ℕ) : Type 0 where
  pub part : (x : X) → P x → IsA (f x)
  pub text : (x : X) → tx x ≡ ta (f x) ++ tb x
  pub some : (a : A) → IsA a → (x : X) × P x × (f x ≡ a)

pub begins-first : {X A : Type 0} (P : X → Type 0) (tx tb : X → List ℕ) (f : X → A) (IsA : A → Type 0) (ta : A → List ℕ) → Begins P tx tb f IsA ta → (input : List ℕ) (left : ℕ) → Refuses (Spells IsA ta) (Opens IsA ta) input left → Refuses (Spells P tx) (Opens P tx) input left
begins-first P tx tb f IsA ta b input left r =
    refuses-then P tx IsA ta [] input left
    (λ a i. let s = b.some a i in (tb s.0, (s.0, s.1, ap (λ u. ta u ++ tb s.0) (sym s.2) ∙ sym (b.text s.0))))
    (λ z o. (f o.0, b.part o.0 o.1, tb o.0 ++ o.2, o.3 ∙ ap (λ u. u ++ o.2) (b.text o.0) ∙ append_assoc (ta (f o.0)) (tb o.0) o.2)) r

pub begins-then : {X A : Type 0} (P : X → Type 0) (tx tb : X → List ℕ) (f : X → A) (IsA : A → Type 0) (ta : A → List ℕ) → Begins P tx tb f IsA ta → IsCode IsA ta → (a : A) → IsA a → (whole input : List ℕ) (left : ℕ) → whole ≡ ta a ++ input
    → Refuses (Spells (λ x. P x × (f x ≡ a)) tb) (Opens (λ x. P x × (f x ≡ a)) tb) input left → Refuses (Spells P tx) (Opens P tx) whole left
begins-then P tx tb f IsA ta b code a i whole input left e r =
    refuses-same P tx whole (ta a ++ input) left e (refuses-then P tx (λ x. P x × (f x ≡ a)) tb (ta a) input left
    (λ x h. ([], (x, h.0, ap (λ u. ta a ++ u) (append-nil (tb x)) ∙ ap (λ u. ta u ++ tb x) (sym h.1) ∙ sym (b.text x))))
    (λ z o. (let s = code.same (f o.0) a (tb o.0 ++ o.2) z (b.part o.0 o.1) i (sym (append_assoc (ta (f o.0)) (tb o.0) o.2) ∙ ap (λ u. u ++ o.2) (sym (b.text o.0)) ∙ sym o.3) in
    (o.0, (o.1, s.0), o.2, sym s.1))) r)

pub begins-code : {X A : Type 0} (P : X → Type 0) (tx tb : X → List ℕ) (f : X → A) (IsA : A → Type 0) (ta : A → List ℕ) → Begins P tx tb f IsA ta → IsCode IsA ta → ((a : A) → IsA a → IsCode (λ x. P x × (f x ≡ a)) tb) → IsCode P tx
begins-code P tx tb f IsA ta b code rest = record {
  same = λ x y p q i j e.
      let s = code.same (f x) (f y) (tb x ++ p) (tb y ++ q) (b.part x i) (b.part y j) (sym (append_assoc (ta (f x)) (tb x) p) ∙ ap (λ u. u ++ p) (sym (b.text x)) ∙ e ∙ ap (λ u. u ++ q) (b.text y) ∙ append_assoc (ta (f y)) (tb y) q) in
      (rest (f y) (b.part y j)).same x y p q (i, s.0) (j, refl) s.1;
}

pub refuses-iff : {X : Type 0} (P Q : X → Type 0) (tx : X → List ℕ) (input : List ℕ) (left : ℕ) → ((x : X) → P x → Q x) → ((x : X) → Q x → P x) → Refuses (Spells P tx) (Opens P tx) input left → Refuses (Spells Q tx) (Opens Q tx) input left
refuses-iff P Q tx input left to from r = refuses-then Q tx P tx [] input left (λ x i. ([], (x, to x i, append-nil (tx x)))) (λ z o. (o.0, from o.0 o.1, o.2, o.3)) r

-- so many values, one behind the other
many-same : {X : Type 0} (IsX : X → Type 0) (tx : X → List ℕ) (code : IsCode IsX tx) (xs ys : List X) (p q : List ℕ) → length xs ≡ length ys → AllByRecursion IsX xs → AllByRecursion IsX ys → flat_map tx xs ++ p ≡ flat_map tx ys ++ q → (xs ≡ ys) × (p ≡ q)
many-same IsX tx code [] [] p q l a b e = (refl, e)
many-same IsX tx code [] (y ∷ ys) p q l a b e = absurd (omega arith)
many-same IsX tx code (x ∷ xs) [] p q l a b e = absurd (omega arith)
many-same IsX tx code (x ∷ xs) (y ∷ ys) p q l a b e =
    let s = code.same x y (flat_map tx xs ++ p) (flat_map tx ys ++ q) a.0 b.0 (sym (append_assoc (tx x) (flat_map tx xs) p) ∙ e ∙ append_assoc (tx y) (flat_map tx ys) q) in
    let r = many-same IsX tx code xs ys p q (omega arith) a.1 b.1 s.1 in
    (ap (λ u. u ∷ xs) s.0 ∙ ap (λ u. y ∷ u) r.0, r.1)

pub many-code : {X : Type 0} (IsX : X → Type 0) (tx : X → List ℕ) → IsCode IsX tx → (n : ℕ) → IsCode (AreMany IsX n) (flat_map tx)
many-code IsX tx code n = record { same = λ xs ys p q i j e. many-same IsX tx code xs ys p q (i.0 ∙ sym j.0) i.1 j.1 e }
