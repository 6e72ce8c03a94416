-- A literal is refused where its sign or a term of it is.
use Rattle.std.proofs.Common.{ℕ, ◌≡◌, ◌<◌, ◌+◌, ◌-◌, ◌^◌, suc, Bool, true, false, List, [], ◌∷◌, ◌++◌, length, Some, None, refl, sym, ap, ◌∙◌, subst, arith, append_assoc, length-append, drop, inl, inr}
use Rattle.std.specs.Prelude.{slice_get, max, ◌==◌}
use Rattle.std.proofs.lemmas.List.{append-nil}
use Rattle.fo_terms.specs.declared.term.FoNode.{FoNode}
use Rattle.fo_terms.specs.declared.term.FoNode.TheVariants.{Var, Sym}
use Rattle.fo_terms.specs.Prefix.{prefix, prefix_of_all}
use Rattle.fo_terms.specs.Terms.{Term, variable, symbol, count}
use Rattle.fo_text.specs.declared.problem.FoSym.{FoSym}
use Rattle.fo_text.specs.declared.problem.FoLit.{FoLit}
use Rattle.fo_text.specs.Words.{space}
use Rattle.fo_text.specs.Refusals.{Spells, Opens, Stops, Refuses}
use Rattle.fo_text.specs.Problems.{HasSort, IsLiteral}
use Rattle.fo_text.specs.Spellings.{sign_word, term_text, literal_text}
use Rattle.fo_text.specs.Pieces.{common, StandsFirst}
use Rattle.fo_text.specs.Nodes.{CanBegin}
use Rattle.fo_text.specs.Terms.{IsTerm, ended_term}
use Rattle.fo_text.specs.Searches.{IsShort}
use Rattle.fo_text.specs.Literals.{IsSign, spaced_sign, ended_literal}
use Rattle.fo_text.proofs.Composing.{refuses-then}
use Rattle.fo_text.proofs.Keywords.{common-is, common-whole}
use Rattle.fo_text.proofs.Searching.{word_stops, word_ends, larger}
use Rattle.fo_text.proofs.TermReading.{LowFirst, term_same, term_first, sort_same, refuses-tail}

sign_stops : (front one : List ℕ) → ((b : Bool) → IsShort (front ++ one) (spaced_sign b) (length front)) → Stops (λ z. Opens IsSign spaced_sign (front ++ z)) one
sign_stops front [] h = λ o. word_ends (spaced_sign o.0) front o.2 (h o.0) o.3
sign_stops front (b ∷ one) h = λ z o. word_stops (spaced_sign o.0) front b one z o.2 (h o.0) o.3

sign_at : (input : List ℕ) (b : Bool) (best : ℕ) → best ≡ common input (spaced_sign b) → ((c : Bool) → IsShort input (spaced_sign c) best) → Refuses (Spells IsSign spaced_sign) (Opens IsSign spaced_sign) input (length input - best)
sign_at input b best e h =
    let k = common-is input (spaced_sign b) in
    let l : best ≡ length k.front = e ∙ k.count_is in
    let len : length input ≡ length k.front + length k.one = ap length k.one_is ∙ length-append k.front k.one in
    record {
      before = k.front;
      after = k.one;
      input_is = k.one_is;
      left_is = omega arith;
      rest = k.other;
      goes_on = (b, tt, sym k.other_is);
      stops = sign_stops k.front k.one (λ c. subst (λ u. IsShort u (spaced_sign c) (length k.front)) k.one_is (subst (IsShort input (spaced_sign c)) l (h c)));
    }

pub refuses-sign : (input : List ℕ) (plus minus : ℕ) → plus ≡ common input (spaced_sign true) → minus ≡ common input (spaced_sign false) → (plus ≡ 3 → ⊥) → (minus ≡ 3 → ⊥) → Refuses (Spells IsSign spaced_sign) (Opens IsSign spaced_sign) input (length input - max plus minus)
refuses-sign input plus minus p m np nm = elim (larger plus minus) [
  | inl h ↦ sign_at input true (max plus minus) (h ∙ p) short
  | inr h ↦ sign_at input false (max plus minus) (h ∙ m) short
]
  where
    short : (c : Bool) → IsShort input (spaced_sign c) (max plus minus)
    short true = record { few = omega arith; short = λ e. np (p ∙ e) }
    short false = record { few = omega arith; short = λ e. nm (m ∙ e) }

pub sign_read : (input : List ℕ) (b : Bool) (count : ℕ) (back : List ℕ) → count ≡ common input (spaced_sign b) → count ≡ 3 → back ≡ drop 2 input → (input ≡ space ∷ (sign_word b ++ back)) × StandsFirst 32 back
sign_read input true count back e t d =
    let w = common-whole input (spaced_sign true) (sym e ∙ t) in
    let k : back ≡ space ∷ drop 3 input = d ∙ ap (drop 2) w in
    (w ∙ ap (λ u. space ∷ 43 ∷ u) (sym k), subst (StandsFirst 32) (sym k) refl)
sign_read input false count back e t d =
    let w = common-whole input (spaced_sign false) (sym e ∙ t) in
    let k : back ≡ space ∷ drop 3 input = d ∙ ap (drop 2) w in
    (w ∙ ap (λ u. space ∷ 45 ∷ u) (sym k), subst (StandsFirst 32) (sym k) refl)

-- a literal's text in its parts
abbrev behind_sign : FoLit → List ℕ → List ℕ
behind_sign l p = term_text l.left ++ (term_text l.right ++ p)

parts : (l : FoLit) (p : List ℕ) → literal_text l ++ p ≡ space ∷ (sign_word l.pos ++ behind_sign l p)
parts l p = ap (λ u. space ∷ u) (append_assoc (sign_word l.pos) (term_text l.left ++ term_text l.right) p ∙ ap (λ u. sign_word l.pos ++ u) (append_assoc (term_text l.left) (term_text l.right) p))

ended : (end : ℕ) (l : FoLit) (p : List ℕ) → ended_literal end l ++ p ≡ space ∷ (sign_word l.pos ++ behind_sign l (end ∷ p))
ended end l p = append_assoc (literal_text l) (end ∷ []) p ∙ parts l (end ∷ p)

abbrev lit : Bool → Term → Term → FoLit
lit b t u = record { pos = b; left = t; right = u }

any_same : (vars : List ℕ) (syms : List FoSym) (s : ℕ) (t : Term) → HasSort vars syms t s → IsTerm vars syms None t
any_same vars syms s t h = (s, tt, h)

pub literal-sign : (vars : List ℕ) (syms : List FoSym) (end : ℕ) (input : List ℕ) (left : ℕ) → CanBegin vars syms None → Refuses (Spells IsSign spaced_sign) (Opens IsSign spaced_sign) input left → Refuses (Spells (IsLiteral vars syms) (ended_literal end)) (Opens (IsLiteral vars syms) (ended_literal end)) input left
literal-sign vars syms end input left can r =
    refuses-then (IsLiteral vars syms) (ended_literal end) IsSign spaced_sign [] input left (λ b u. forth b can.0 can.2.0 can.2.1) (λ z o. back z o.0 o.2 o.3) r
  where
    forth : (b : Bool) (s : ℕ) (t : Term) → HasSort vars syms t s → (more : List ℕ) × Spells (IsLiteral vars syms) (ended_literal end) (spaced_sign b ++ more)
    forth b s t h =
        let f = term_first t in (
          f.0 ++ (term_text t ++ end ∷ []),
          (
            lit b t t,
            (s, h, h),
            ap (λ u. space ∷ u) (append_assoc (sign_word b) (space ∷ []) (f.0 ++ (term_text t ++ end ∷ [])) ∙ ap (λ u. sign_word b ++ u) (ap (λ u. u ++ (term_text t ++ end ∷ [])) (sym f.1))) ∙ sym (parts (lit b t t) (end ∷ [])),
          ),
        )

    back : (z : List ℕ) (l : FoLit) (p : List ℕ) → z ≡ ended_literal end l ++ p → Opens IsSign spaced_sign z
    back z l p e =
        let f = term_first l.left in
        (l.pos, tt, f.0 ++ (term_text l.right ++ end ∷ p), e ∙ ended end l p ∙ ap (λ u. space ∷ u) (ap (λ u. sign_word l.pos ++ (u ++ (term_text l.right ++ end ∷ p))) f.1 ∙ sym (append_assoc (sign_word l.pos) (space ∷ []) (f.0 ++ (term_text l.right ++ end ∷ p)))))

behind_byte : (a b : ℕ) (p q : List ℕ) → space ∷ a ∷ p ≡ space ∷ b ∷ q → p ≡ q
behind_byte a b p q e = cc

same_byte : (a b : ℕ) (p q : List ℕ) → space ∷ a ∷ p ≡ space ∷ b ∷ q → a ≡ b
same_byte a b p q e = cc

signs_differ : ◌≡◌ {A = ℕ} 43 45 → ⊥
signs_differ e = let b : true ≡ false = ap (λ (u : ℕ). u == 43) e in cc

sign_passed : (a b : Bool) (p q : List ℕ) → space ∷ (sign_word a ++ p) ≡ space ∷ (sign_word b ++ q) → (a ≡ b) × (p ≡ q)
sign_passed true true p q e = (refl, behind_byte 43 43 p q e)
sign_passed false false p q e = (refl, behind_byte 45 45 p q e)
sign_passed true false p q e = absurd (signs_differ (same_byte 43 45 p q e))
sign_passed false true p q e = absurd (signs_differ (sym (same_byte 45 43 p q e)))

space_low : (q : List ℕ) (p : List ℕ) → p ≡ space ∷ q → LowFirst p
space_low q p e = (32, q, e, omega arith)

pub literal-left : (vars : List ℕ) (syms : List FoSym) (end : ℕ) (b : Bool) (input : List ℕ) (left : ℕ)
    → Refuses (Spells (IsTerm vars syms None) (ended_term 32)) (Opens (IsTerm vars syms None) (ended_term 32)) input left → Refuses (Spells (IsLiteral vars syms) (ended_literal end)) (Opens (IsLiteral vars syms) (ended_literal end)) ((space ∷ sign_word b) ++ input) left
literal-left vars syms end b input left r =
    refuses-then (IsLiteral vars syms) (ended_literal end) (IsTerm vars syms None) (ended_term 32) (space ∷ sign_word b) input left (λ t h. forth t h.0 h.2) (λ z o. back z o.0 o.1 o.2 o.3) r
  where
    forth : (t : Term) (s : ℕ) → HasSort vars syms t s → (more : List ℕ) × Spells (IsLiteral vars syms) (ended_literal end) ((space ∷ sign_word b) ++ (ended_term 32 t ++ more))
    forth t s h =
        let f = term_first t in (
          f.0 ++ end ∷ [],
          (
            lit b t t,
            (s, h, h),
            ap (λ u. space ∷ (sign_word b ++ u)) (append_assoc (term_text t) (space ∷ []) (f.0 ++ end ∷ []) ∙ ap (λ u. term_text t ++ (u ++ end ∷ [])) (sym f.1)) ∙ sym (parts (lit b t t) (end ∷ [])),
          ),
        )

    back : (z : List ℕ) (l : FoLit) → IsLiteral vars syms l → (p : List ℕ) → (space ∷ sign_word b) ++ z ≡ ended_literal end l ++ p → Opens (IsTerm vars syms None) (ended_term 32) z
    back z l i p e =
        let s = sign_passed b l.pos z (behind_sign l (end ∷ p)) (e ∙ ended end l p) in
        let f = term_first l.right in
        (l.left, any_same vars syms i.0 l.left i.1, f.0 ++ end ∷ p, s.1 ∙ ap (λ u. term_text l.left ++ (u ++ end ∷ p)) f.1 ∙ sym (append_assoc (term_text l.left) (space ∷ []) (f.0 ++ end ∷ p)))

abbrev term_tail : ℕ → Term → List ℕ
term_tail end t = drop 1 (ended_term end t)

tail_is : (end : ℕ) (t : Term) → ended_term end t ≡ space ∷ term_tail end t
tail_is end t = let f = term_first t in ap (λ u. u ++ end ∷ []) f.1 ∙ ap (λ u. space ∷ drop 1 (u ++ end ∷ [])) (sym f.1)

pub literal-right : (vars : List ℕ) (syms : List FoSym) (end : ℕ) (b : Bool) (t : Term) (s : ℕ) (tail : List ℕ) (left : ℕ) → length vars < 2 ^ 32 → length syms < 2 ^ 32 → HasSort vars syms t s
    → Refuses (Spells (IsTerm vars syms (Some s)) (ended_term end)) (Opens (IsTerm vars syms (Some s)) (ended_term end)) (space ∷ tail) left → Refuses (Spells (IsLiteral vars syms) (ended_literal end)) (Opens (IsLiteral vars syms) (ended_literal end)) ((space ∷ (sign_word b ++ (term_text t ++ space ∷ []))) ++ tail) left
literal-right vars syms end b t s tail left lv ls h r =
    refuses-then (IsLiteral vars syms) (ended_literal end) (IsTerm vars syms (Some s)) (term_tail end) (space ∷ (sign_word b ++ (term_text t ++ space ∷ []))) tail left
    (λ u i. forth u i.0 i.1 i.2) (λ z o. back z o.0 o.1 o.2 o.3) (refuses-tail (IsTerm vars syms (Some s)) (ended_term end) (term_tail end) space tail left (tail_is end) r)
  where
    front : (z : List ℕ) → (space ∷ (sign_word b ++ (term_text t ++ space ∷ []))) ++ z ≡ space ∷ (sign_word b ++ (term_text t ++ space ∷ z))
    front z = ap (λ u. space ∷ u) (append_assoc (sign_word b) (term_text t ++ space ∷ []) z ∙ ap (λ u. sign_word b ++ u) (append_assoc (term_text t) (space ∷ []) z))

    forth : (u : Term) (v : ℕ) → s ≡ v → HasSort vars syms u v → (more : List ℕ) × Spells (IsLiteral vars syms) (ended_literal end) ((space ∷ (sign_word b ++ (term_text t ++ space ∷ []))) ++ (term_tail end u ++ more))
    forth u v e k = (
      [],
      (
        lit b t u,
        (s, h, subst (HasSort vars syms u) (sym e) k),
        front (term_tail end u ++ []) ∙ ap (λ x. space ∷ (sign_word b ++ (term_text t ++ space ∷ x))) (append-nil (term_tail end u)) ∙ ap (λ x. space ∷ (sign_word b ++ (term_text t ++ x))) (sym (tail_is end u)) ∙ sym (parts (lit b t u) (end ∷ [])),
      ),
    )

    back : (z : List ℕ) (l : FoLit) → IsLiteral vars syms l → (p : List ℕ) → (space ∷ (sign_word b ++ (term_text t ++ space ∷ []))) ++ z ≡ ended_literal end l ++ p → Opens (IsTerm vars syms (Some s)) (term_tail end) z
    back z l i p e =
        let q = sign_passed b l.pos (term_text t ++ space ∷ z) (behind_sign l (end ∷ p)) (sym (front z) ∙ e ∙ ended end l p) in
        let f = term_first l.right in
        let low : LowFirst (term_text l.right ++ end ∷ p) = space_low (f.0 ++ end ∷ p) (term_text l.right ++ end ∷ p) (ap (λ u. u ++ end ∷ p) f.1) in
        let m = term_same vars syms None t l.left (space ∷ z) (term_text l.right ++ end ∷ p) lv ls (space_low z (space ∷ z) refl) low (any_same vars syms s t h) (any_same vars syms i.0 l.left i.1) q.1 in
        let same : i.0 ≡ s = sort_same vars syms l.left i.0 s i.1 (subst (λ u. HasSort vars syms u s) m.0 h) in
        let whole : space ∷ z ≡ space ∷ (term_tail end l.right ++ p) = m.1 ∙ sym (append_assoc (term_text l.right) (end ∷ []) p) ∙ ap (λ u. u ++ p) (tail_is end l.right) in
        (l.right, (s, refl, subst (HasSort vars syms l.right) same i.2), p, cons_tail z (term_tail end l.right ++ p) whole)
      where
        cons_tail : (x y : List ℕ) → space ∷ x ≡ space ∷ y → x ≡ y
        cons_tail x y e = cc

same_literal : (l m : FoLit) → l.pos ≡ m.pos → l.left ≡ m.left → l.right ≡ m.right → l ≡ m
same_literal l m a b c =
    let one : l ≡ lit m.pos l.left l.right = ap (λ u. lit u l.left l.right) a in
    let two : lit m.pos l.left l.right ≡ lit m.pos m.left l.right = ap (λ u. lit m.pos u l.right) b in
    one ∙ two ∙ ap (λ u. lit m.pos m.left u) c

pub literal_same : (vars : List ℕ) (syms : List FoSym) (l m : FoLit) (p q : List ℕ) → length vars < 2 ^ 32 → length syms < 2 ^ 32 → LowFirst p → LowFirst q → IsLiteral vars syms l → IsLiteral vars syms m → literal_text l ++ p ≡ literal_text m ++ q → (l ≡ m) × (p ≡ q)
literal_same vars syms l m p q lv ls lp lq i j e =
    let s = sign_passed l.pos m.pos (behind_sign l p) (behind_sign m q) (sym (parts l p) ∙ e ∙ parts m q) in
    let f = term_first l.right in
    let g = term_first m.right in
    let a = term_same vars syms None l.left m.left (term_text l.right ++ p) (term_text m.right ++ q) lv ls (space_low (f.0 ++ p) (term_text l.right ++ p) (ap (λ u. u ++ p) f.1)) (space_low (g.0 ++ q) (term_text m.right ++ q) (ap (λ u. u ++ q) g.1)) (any_same vars syms i.0 l.left i.1) (any_same vars syms j.0 m.left j.1) s.1 in
    let b = term_same vars syms None l.right m.right p q lv ls lp lq (any_same vars syms i.0 l.right i.2) (any_same vars syms j.0 m.right j.2) a.1 in
    (same_literal l m s.0 a.0 b.0, b.1)

kinds_differ : (v f k : ℕ) → Var v ≡ Sym f k → ⊥
kinds_differ v f k e = cc

-- the first node of a term
abbrev pub Heads : Term → FoNode → Type 0
Heads (variable v) n = n ≡ Var v
Heads (symbol f ts) n = n ≡ Sym f (count ts)

pub head_of : (t : Term) (ns : List FoNode) (n : FoNode) → ns ≡ prefix t → slice_get ns 0 ≡ Some n → Heads t n
head_of (variable v) ns n e h = let k : Some (Var v) ≡ Some n = ap (λ u. slice_get u 0) (sym e) ∙ h in cc
head_of (symbol f ts) ns n e h = let k : Some (Sym f (count ts)) ≡ Some n = ap (λ u. slice_get u 0) (sym e) ∙ h in cc

pub nodes_some : (t : Term) (ns : List FoNode) → ns ≡ prefix t → 0 < length ns
nodes_some (variable v) ns e = let k : length ns ≡ 1 = ap length e in omega arith
nodes_some (symbol f ts) ns e = let k : length ns ≡ suc (length (prefix_of_all ts)) = ap length e in omega arith

pub var_known : (vars : List ℕ) (syms : List FoSym) (t : Term) (s v : ℕ) → HasSort vars syms t s → Heads t (Var v) → slice_get vars v ≡ Some s
var_known vars syms (variable w) s v h k = let e : w ≡ v = cc in subst (λ u. slice_get vars u ≡ Some s) e h
var_known vars syms (symbol f ts) s v h k = absurd (kinds_differ v f (count ts) k)

pub sym_known : (vars : List ℕ) (syms : List FoSym) (t : Term) (s f k : ℕ) → HasSort vars syms t s → Heads t (Sym f k) → (y : FoSym) × (slice_get syms f ≡ Some y) × (y.result ≡ s)
sym_known vars syms (variable w) s f k h e = absurd (kinds_differ w f k (sym e))
sym_known vars syms (symbol g ts) s f k h e = let same : g ≡ f = cc in (h.0, subst (λ u. slice_get syms u ≡ Some h.0) same h.1, h.2)

pub var_sort : (vars : List ℕ) (syms : List FoSym) (t : Term) (s v r : ℕ) → HasSort vars syms t s → Heads t (Var v) → slice_get vars v ≡ Some r → HasSort vars syms t r
var_sort vars syms t s v r h k e = let k2 : Some s ≡ Some r = sym (var_known vars syms t s v h k) ∙ e in let same : s ≡ r = cc in subst (HasSort vars syms t) same h

pub sym_sort : (vars : List ℕ) (syms : List FoSym) (t : Term) (s f k r : ℕ) → HasSort vars syms t s → Heads t (Sym f k) → ((y : FoSym) → slice_get syms f ≡ Some y → r ≡ y.result) → HasSort vars syms t r
sym_sort vars syms t s f k r h e g = let y = sym_known vars syms t s f k h e in subst (HasSort vars syms t) (sym (g y.0 y.1 ∙ y.2)) h

pub right_behind : (input : List ℕ) (b : Bool) (one : List ℕ) (t : Term) (two tail : List ℕ) → input ≡ space ∷ (sign_word b ++ one) → one ≡ term_text t ++ two → two ≡ space ∷ tail → input ≡ (space ∷ (sign_word b ++ (term_text t ++ space ∷ []))) ++ tail
right_behind input b one t two tail e f g =
    e ∙ ap (λ u. space ∷ (sign_word b ++ u)) (f ∙ ap (λ u. term_text t ++ u) g ∙ sym (append_assoc (term_text t) (space ∷ []) tail)) ∙ ap (λ u. space ∷ u) (sym (append_assoc (sign_word b) (term_text t ++ space ∷ []) tail))

pub same_part : {X : Type 0} (IsX : X → Type 0) (tx : X → List ℕ) (a b : List ℕ) (left : ℕ) → a ≡ b → Refuses (Spells IsX tx) (Opens IsX tx) a left → Refuses (Spells IsX tx) (Opens IsX tx) b left
same_part IsX tx a b left e r = subst (λ u. Refuses (Spells IsX tx) (Opens IsX tx) u left) e r
