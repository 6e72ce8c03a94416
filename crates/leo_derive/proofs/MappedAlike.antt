-- Maps that agree on the symbols of lines give the same lines.
use Rattle.std.proofs.Common.{ℕ, zero, suc, ◌≡◌, nat_eq, Bool, true, false, List, [], ◌∷◌, ◌++◌, ◌||◌, map, refl, ◌∙◌, ap, ap₂}
use Rattle.std.specs.Prelude.{slice_get, Some}
use Rattle.std.specs.List.{list_any}
use Rattle.leo_terms.specs.Tree.{Tree, variable, bound, symbol, app, lam, logic, absent}
use Rattle.leo_clause.specs.Trees.{Literal}
use Rattle.leo_clause.proofs.Same.{same-number}
use Rattle.leo_kernel.specs.Steps.{StepRule, inst, abbreviate, Line}
use Rattle.leo_derive.specs.Symbols.{symbols_of, symbols_in, symbols_in_literals, symbols_in_rule, symbols_in_line, IsOneOf}
use Rattle.leo_derive.specs.Renaming.{symbols_mapped, literal_mapped, rule_mapped, line_mapped, symbols_in_lines}
use Rattle.leo_derive.proofs.Occurring.{one_of_append}

pub one_of_left : (s : ℕ) (xs ys : List ℕ) → IsOneOf s xs → IsOneOf s (xs ++ ys)
one_of_left s xs ys h = one_of_append s xs ys ∙ rw h refl

pub one_of_right : (s : ℕ) (xs ys : List ℕ) → IsOneOf s ys → IsOneOf s (xs ++ ys)
one_of_right s xs ys h = one_of_append s xs ys ∙ by (list_any (nat_eq s) xs) (list_any (nat_eq s) ys) h
  where
    by : (a b : Bool) → b ≡ true → (a || b) ≡ true
    by true b k = refl
    by false b k = k

-- the symbol that a line introduces stands in it
abbrev pub HasItsSymbol : Line → Type 0
HasItsSymbol l = (s : ℕ) → l.rule ≡ abbreviate s → IsOneOf s (symbols_in_line l)

module _ (f g : ℕ → ℕ) where
  -- on these symbols they are the same
  abbrev pub Agree : List ℕ → Type 0
  Agree symbols = (s : ℕ) → IsOneOf s symbols → f s ≡ g s

  pub agree_left : (xs ys : List ℕ) → Agree (xs ++ ys) → Agree xs
  agree_left xs ys h s k = h s (one_of_left s xs ys k)

  pub agree_right : (xs ys : List ℕ) → Agree (xs ++ ys) → Agree ys
  agree_right xs ys h s k = h s (one_of_right s xs ys k)

  alike : (t : Tree) → Agree (symbols_of t) → symbols_mapped f t ≡ symbols_mapped g t
  alike (variable n a) h = refl
  alike (bound i a) h = refl
  alike (symbol n a) h = ap (λ m. symbol m a) (h n (rw (same-number n) refl))
  alike (app t x) h = rw (alike t (agree_left (symbols_of t) (symbols_of x) h), alike x (agree_right (symbols_of t) (symbols_of x) h)) refl
  alike (lam a t) h = ap (lam a) (alike t h)
  alike (logic c x y) h = rw (alike x (agree_left (symbols_of x) (symbols_of y) h), alike y (agree_right (symbols_of x) (symbols_of y) h)) refl
  alike absent h = refl

  pub terms_alike : (ts : List Tree) → Agree (symbols_in ts) → map (symbols_mapped f) ts ≡ map (symbols_mapped g) ts
  terms_alike [] h = refl
  terms_alike (t ∷ ts) h = ap₂ (λ u us. u ∷ us) (alike t (agree_left (symbols_of t) (symbols_in ts) h)) (terms_alike ts (agree_right (symbols_of t) (symbols_in ts) h))

  literals_alike : (ls : List Literal) → Agree (symbols_in_literals ls) → map (literal_mapped f) ls ≡ map (literal_mapped g) ls
  literals_alike [] h = refl
  literals_alike (l ∷ ls) h =
      let sides = agree_left (symbols_of l.left ++ symbols_of l.right) (symbols_in_literals ls) h in
      let left = alike l.left (agree_left (symbols_of l.left) (symbols_of l.right) sides) in
      let right = alike l.right (agree_right (symbols_of l.left) (symbols_of l.right) sides) in
      let same : literal_mapped f l ≡ literal_mapped g l = rw (left, right) refl in
      ap₂ (λ k ks. k ∷ ks) same (literals_alike ls (agree_right (symbols_of l.left ++ symbols_of l.right) (symbols_in_literals ls) h))

  rule_alike : (rule : StepRule) (symbols : List ℕ) → Agree symbols → Agree (symbols_in_rule rule) → ((s : ℕ) → rule ≡ abbreviate s → IsOneOf s symbols) → rule_mapped f rule ≡ rule_mapped g rule
  rule_alike (inst p sigma) symbols h k e = ap (inst p) (terms_alike sigma k)
  rule_alike (abbreviate s) symbols h k e = ap abbreviate (h s (e s refl))
  rule_alike _ symbols h k e = refl

  line_alike : (l : Line) → Agree (symbols_in_line l) → HasItsSymbol l → line_mapped f l ≡ line_mapped g l
  line_alike l h e =
      rw (literals_alike l.clause.literals (agree_left (symbols_in_literals l.clause.literals) (symbols_in_rule l.rule) h), rule_alike l.rule (symbols_in_line l) h (agree_right (symbols_in_literals l.clause.literals) (symbols_in_rule l.rule) h) e) refl

  pub lines_alike : (ls : List Line) → Agree (symbols_in_lines ls) → ((n : ℕ) (l : Line) → slice_get ls n ≡ Some l → HasItsSymbol l) → map (line_mapped f) ls ≡ map (line_mapped g) ls
  lines_alike [] h e = refl
  lines_alike (l ∷ ls) h e = ap₂ (λ k ks. k ∷ ks) (line_alike l (agree_left (symbols_in_line l) (symbols_in_lines ls) h) (e zero l refl)) (lines_alike ls (agree_right (symbols_in_line l) (symbols_in_lines ls) h) (λ n k. e (suc n) k))
