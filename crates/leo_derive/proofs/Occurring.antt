-- The symbols that a line has are those which it does not lack.
use Rattle.std.proofs.Common.{ℕ, nat_eq, ◌≡◌, ◌∙◌, ◌⊎◌, Bool, true, false, ◌||◌, List, [], ◌∷◌, ◌++◌, refl, sym, arith, inl, inr}
use Rattle.std.specs.Bool.{if◌then◌else◌}
use Rattle.std.specs.List.{list_any}
use Rattle.std.proofs.lemmas.Bool.Decides.{nat_tests}
use Rattle.leo_terms.specs.Tree.{Tree, variable, bound, symbol, app, lam, logic, absent}
use Rattle.leo_clause.specs.Trees.{Literal}
use Rattle.leo_clause.specs.Arranging.{firsts}
use Rattle.leo_clause.specs.Renaming.{AreSeen}
use Rattle.leo_clause.proofs.Same.{same-number}
use Rattle.leo_kernel.specs.Symbols.{LacksSymbol, LackSymbol, LiteralsLackSymbol, RuleLacksSymbol}
use Rattle.leo_kernel.specs.Steps.{StepRule, inst, Line}
use Rattle.leo_derive.specs.Resting.{LineLacksSymbol}
use Rattle.leo_derive.specs.Symbols.{symbols_of, symbols_in, symbols_in_literals, symbols_in_rule, symbols_in_line, IsOneOf}

or_bool : (b : Bool) → (b ≡ true) ⊎ (b ≡ false)
or_bool true = inl refl
or_bool false = inr refl

equal_numbers : (m n : ℕ) → nat_eq m n ≡ true → m ≡ n
equal_numbers m n h = grind (arith, nat_tests)

-- ---- membership

pub one_of_append : (s : ℕ) (xs ys : List ℕ) → list_any (nat_eq s) (xs ++ ys) ≡ (list_any (nat_eq s) xs || list_any (nat_eq s) ys)
one_of_append s [] ys = refl
one_of_append s (x ∷ xs) ys = rw (one_of_append s xs ys) (assoc (nat_eq s x) (list_any (nat_eq s) xs) (list_any (nat_eq s) ys))
  where
    assoc : (a b c : Bool) → (a || (b || c)) ≡ ((a || b) || c)
    assoc true b c = refl
    assoc false b c = refl

either_true : (a b : Bool) → (a || b) ≡ true → (a ≡ true) ⊎ (b ≡ true)
either_true true b e = inl refl
either_true false b e = inr e

either_false : (a b : Bool) → (a || b) ≡ false → (a ≡ false) × (b ≡ false)
either_false true b e = absurd cc
either_false false b e = (refl, e)

pub seen_one : (s : ℕ) (seen xs : List ℕ) → AreSeen seen xs → IsOneOf s xs → IsOneOf s seen
seen_one s seen [] h e = absurd cc
seen_one s seen (x ∷ xs) h e = elim (either_true (nat_eq s x) (list_any (nat_eq s) xs) e) [
  | inl t ↦ rw (equal_numbers s x t) h.0
  | inr t ↦ seen_one s seen xs h.1 t
]

pub one_of_firsts : (s : ℕ) (xs seen : List ℕ) → IsOneOf s (firsts nat_eq seen xs) → IsOneOf s seen ⊎ IsOneOf s xs
one_of_firsts s [] seen e = inl e
one_of_firsts s (x ∷ xs) seen e = by (list_any (nat_eq x) seen) (one_of_firsts s xs seen) (one_of_firsts s xs (seen ++ x ∷ [])) e
  where
    later : IsOneOf s xs → IsOneOf s (x ∷ xs)
    later h = or_true (nat_eq s x) (list_any (nat_eq s) xs) h
      where
        or_true : (a b : Bool) → b ≡ true → (a || b) ≡ true
        or_true true b h = refl
        or_true false b h = h

    here : nat_eq s x ≡ true → IsOneOf s (x ∷ xs)
    here h = rw h refl

    in_end : IsOneOf s (seen ++ x ∷ []) → IsOneOf s seen ⊎ IsOneOf s (x ∷ xs)
    in_end h = elim (either_true (list_any (nat_eq s) seen) (list_any (nat_eq s) (x ∷ [])) (sym (one_of_append s seen (x ∷ [])) ∙ h)) [
      | inl t ↦ inl t
      | inr t ↦ elim (either_true (nat_eq s x) false t) [ inl u ↦ inr (here u) | inr u ↦ absurd cc ]
    ]

    by : (b : Bool) → (IsOneOf s (firsts nat_eq seen xs) → IsOneOf s seen ⊎ IsOneOf s xs) → (IsOneOf s (firsts nat_eq (seen ++ x ∷ []) xs) → IsOneOf s (seen ++ x ∷ []) ⊎ IsOneOf s xs)
        → IsOneOf s (if b then firsts nat_eq seen xs else firsts nat_eq (seen ++ x ∷ []) xs) → IsOneOf s seen ⊎ IsOneOf s (x ∷ xs)
    by true f g e = elim (f e) [ inl h ↦ inl h | inr h ↦ inr (later h) ]
    by false f g e = elim (g e) [ inl h ↦ in_end h | inr h ↦ inr (later h) ]

-- ---- lacking

lacks_tree : (s : ℕ) (t : Tree) → list_any (nat_eq s) (symbols_of t) ≡ false → LacksSymbol s t
lacks_tree s (variable n a) e = tt
lacks_tree s (bound i a) e = tt
lacks_tree s (symbol n a) e = λ f. let g : nat_eq s n ≡ true = rw f (same-number s) in let h = (either_false (nat_eq s n) false e).0 in cc
lacks_tree s (app f x) e = let p = either_false (list_any (nat_eq s) (symbols_of f)) (list_any (nat_eq s) (symbols_of x)) (sym (one_of_append s (symbols_of f) (symbols_of x)) ∙ e) in (lacks_tree s f p.0, lacks_tree s x p.1)
lacks_tree s (lam a t) e = lacks_tree s t e
lacks_tree s (logic c x y) e = let p = either_false (list_any (nat_eq s) (symbols_of x)) (list_any (nat_eq s) (symbols_of y)) (sym (one_of_append s (symbols_of x) (symbols_of y)) ∙ e) in (lacks_tree s x p.0, lacks_tree s y p.1)
lacks_tree s absent e = tt

has_tree : (s : ℕ) (t : Tree) → IsOneOf s (symbols_of t) → LacksSymbol s t → ⊥
has_tree s (variable n a) e h = absurd cc
has_tree s (bound i a) e h = absurd cc
has_tree s (symbol n a) e h = elim (either_true (nat_eq s n) false e) [ inl t ↦ h (sym (equal_numbers s n t)) | inr t ↦ absurd cc ]
has_tree s (app f x) e h = elim (either_true (list_any (nat_eq s) (symbols_of f)) (list_any (nat_eq s) (symbols_of x)) (sym (one_of_append s (symbols_of f) (symbols_of x)) ∙ e)) [ inl t ↦ has_tree s f t h.0 | inr t ↦ has_tree s x t h.1 ]
has_tree s (lam a t) e h = has_tree s t e h
has_tree s (logic c x y) e h = elim (either_true (list_any (nat_eq s) (symbols_of x)) (list_any (nat_eq s) (symbols_of y)) (sym (one_of_append s (symbols_of x) (symbols_of y)) ∙ e)) [ inl t ↦ has_tree s x t h.0 | inr t ↦ has_tree s y t h.1 ]
has_tree s absent e h = absurd cc

lack_trees : (s : ℕ) (ts : List Tree) → list_any (nat_eq s) (symbols_in ts) ≡ false → LackSymbol s ts
lack_trees s [] e = tt
lack_trees s (t ∷ ts) e = let p = either_false (list_any (nat_eq s) (symbols_of t)) (list_any (nat_eq s) (symbols_in ts)) (sym (one_of_append s (symbols_of t) (symbols_in ts)) ∙ e) in (lacks_tree s t p.0, lack_trees s ts p.1)

have_trees : (s : ℕ) (ts : List Tree) → IsOneOf s (symbols_in ts) → LackSymbol s ts → ⊥
have_trees s [] e h = absurd cc
have_trees s (t ∷ ts) e h = elim (either_true (list_any (nat_eq s) (symbols_of t)) (list_any (nat_eq s) (symbols_in ts)) (sym (one_of_append s (symbols_of t) (symbols_in ts)) ∙ e)) [ inl u ↦ has_tree s t u h.0 | inr u ↦ have_trees s ts u h.1 ]

literals_lack : (s : ℕ) (ls : List Literal) → list_any (nat_eq s) (symbols_in_literals ls) ≡ false → LiteralsLackSymbol s ls
literals_lack s [] e = tt
literals_lack s (l ∷ ls) e =
    let p = either_false (list_any (nat_eq s) (symbols_of l.left ++ symbols_of l.right)) (list_any (nat_eq s) (symbols_in_literals ls)) (sym (one_of_append s (symbols_of l.left ++ symbols_of l.right) (symbols_in_literals ls)) ∙ e) in
    let q = either_false (list_any (nat_eq s) (symbols_of l.left)) (list_any (nat_eq s) (symbols_of l.right)) (sym (one_of_append s (symbols_of l.left) (symbols_of l.right)) ∙ p.0) in
    (lacks_tree s l.left q.0, lacks_tree s l.right q.1, literals_lack s ls p.1)

literals_have : (s : ℕ) (ls : List Literal) → IsOneOf s (symbols_in_literals ls) → LiteralsLackSymbol s ls → ⊥
literals_have s [] e h = absurd cc
literals_have s (l ∷ ls) e h =
    elim (either_true (list_any (nat_eq s) (symbols_of l.left ++ symbols_of l.right)) (list_any (nat_eq s) (symbols_in_literals ls)) (sym (one_of_append s (symbols_of l.left ++ symbols_of l.right) (symbols_in_literals ls)) ∙ e)) [
      | inl u ↦ elim (either_true (list_any (nat_eq s) (symbols_of l.left)) (list_any (nat_eq s) (symbols_of l.right)) (sym (one_of_append s (symbols_of l.left) (symbols_of l.right)) ∙ u)) [ inl v ↦ has_tree s l.left v h.0 | inr v ↦ has_tree s l.right v h.1 ]
      | inr u ↦ literals_have s ls u h.2
    ]

rule_lacks : (s : ℕ) (r : StepRule) → list_any (nat_eq s) (symbols_in_rule r) ≡ false → RuleLacksSymbol s r
rule_lacks s (inst p sigma) e = lack_trees s sigma e
rule_lacks s _ e = tt

rule_has : (s : ℕ) (r : StepRule) → IsOneOf s (symbols_in_rule r) → RuleLacksSymbol s r → ⊥
rule_has s (inst p sigma) e h = have_trees s sigma e h
rule_has s _ e h = absurd cc

line_lacks : (s : ℕ) (l : Line) → list_any (nat_eq s) (symbols_in_line l) ≡ false → LineLacksSymbol s l
line_lacks s l e =
    let p = either_false (list_any (nat_eq s) (symbols_in_literals l.clause.literals)) (list_any (nat_eq s) (symbols_in_rule l.rule)) (sym (one_of_append s (symbols_in_literals l.clause.literals) (symbols_in_rule l.rule)) ∙ e) in
    (literals_lack s l.clause.literals p.0, rule_lacks s l.rule p.1)

pub line_has : (s : ℕ) (l : Line) → IsOneOf s (symbols_in_line l) → LineLacksSymbol s l → ⊥
line_has s l e h = elim (either_true (list_any (nat_eq s) (symbols_in_literals l.clause.literals)) (list_any (nat_eq s) (symbols_in_rule l.rule)) (sym (one_of_append s (symbols_in_literals l.clause.literals) (symbols_in_rule l.rule)) ∙ e)) [
  | inl u ↦ literals_have s l.clause.literals u h.0
  | inr u ↦ rule_has s l.rule u h.1
]

pub line_not_lacks : (s : ℕ) (l : Line) → (LineLacksSymbol s l → ⊥) → IsOneOf s (symbols_in_line l)
line_not_lacks s l n = elim (or_bool (list_any (nat_eq s) (symbols_in_line l))) [ inl t ↦ t | inr f ↦ absurd (n (line_lacks s l f)) ]
