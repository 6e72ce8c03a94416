-- The node at the front of an input, sought among all candidates.
use Rattle.std.proofs.Common.{ℕ, ◌≡◌, ◌<◌, ◌≤◌, ◌+◌, ◌-◌, Bool, List, [], ◌∷◌, ◌++◌, length, drop, Option, Some, None, refl, sym, ap, ◌∙◌, subst, arith, append_assoc, length-append, ◌⊎◌, inl, inr, add-zero}
use Rattle.std.specs.Prelude.{slice_get, max, MatchOption}
use Rattle.std.proofs.lemmas.List.{append-nil}
use Rattle.std.proofs.lemmas.Option.{slice_get_within}
use Rattle.std.proofs.lemmas.Bool.{cases_lt}
use Rattle.fo_terms.specs.declared.term.FoNode.{FoNode}
use Rattle.fo_terms.specs.declared.term.FoNode.TheVariants.{Var, Sym}
use Rattle.fo_text.specs.declared.problem.FoSym.{FoSym}
use Rattle.fo_text.specs.Words.{space}
use Rattle.fo_text.specs.Refusals.{Spells, Opens, Stops, Refuses}
use Rattle.fo_text.specs.Spellings.{node_word}
use Rattle.fo_text.specs.Pieces.{common, StandsFirst}
use Rattle.fo_text.specs.Nodes.{IsCandidate, StandsAt, node_end, spaced_node}
use Rattle.fo_text.specs.Searches.{IsAhead, IsShort, IsBest}
use Rattle.std.proofs.lemmas.List.Prefix.{front_rest}
use Rattle.fo_text.proofs.Lists.{either_front}
use Rattle.fo_text.proofs.Keywords.{common-is, common-whole, common-behind}

-- candidates by their numbers
some_same : (o : Option FoSym) (x y : FoSym) → o ≡ Some x → o ≡ Some y → x ≡ y
some_same o x y a b = let e : Some x ≡ Some y = sym a ∙ b in cc

pub candidate-same : (vars : List ℕ) (syms : List FoSym) (usable : List Bool) (want : Option ℕ) (at : ℕ) (n m : FoNode) → StandsAt vars at n → StandsAt vars at m → IsCandidate vars syms usable want n → IsCandidate vars syms usable want m → n ≡ m
candidate-same vars syms usable want at (Var v) (Var w) a b c d = ap Var (sym a ∙ b)
candidate-same vars syms usable want at (Var v) (Sym f k) a b c d = absurd (let inside : v < length vars = slice_get_within vars v c.sort c.begins.gives.0 in omega arith)
candidate-same vars syms usable want at (Sym f k) (Var v) a b c d = absurd (let inside : v < length vars = slice_get_within vars v d.sort d.begins.gives.0 in omega arith)
candidate-same vars syms usable want at (Sym f k) (Sym g l) a b c d =
    let same : f ≡ g = omega arith in
    let x = c.begins.gives in
    let y = d.begins.gives in
    let one : x.0 ≡ y.0 = some_same (slice_get syms g) x.0 y.0 (subst (λ u. slice_get syms u ≡ Some x.0) same x.1) y.1 in
    let args : k ≡ l = sym x.4 ∙ ap length (sym x.3 ∙ ap (λ u. let s : FoSym = u in s.args) one ∙ y.3) ∙ y.4 in
    ap (λ u. Sym u k) same ∙ ap (Sym g) args

pub candidate-within : (vars : List ℕ) (syms : List FoSym) (usable : List Bool) (want : Option ℕ) (n : FoNode) → IsCandidate vars syms usable want n → (at : ℕ) × StandsAt vars at n × (at < length vars + length syms)
candidate-within vars syms usable want (Var v) c = (v, refl, (let inside : v < length vars = slice_get_within vars v c.sort c.begins.gives.0 in omega arith))
candidate-within vars syms usable want (Sym f k) c = (length vars + f, refl, (let inside : f < length syms = slice_get_within syms f c.begins.gives.0 c.begins.gives.1 in omega arith))

pub common-none : (xs : List ℕ) → common xs [] ≡ 0
common-none [] = refl
common-none (x ∷ xs) = refl

-- an input that begins with the whole word
pub whole : (input word rest : List ℕ) → input ≡ word ++ rest → common input word ≡ length word
whole input word rest e =
    ap (λ u. common u word) e ∙ ap (common (word ++ rest)) (sym (append-nil word)) ∙ common-behind word rest [] ∙ ap (λ u. length word + u) (common-none rest) ∙ add-zero (length word)

suc_apart : (b : ℕ) (xs ys : List ℕ) → 0 < common (b ∷ xs) (b ∷ ys)
suc_apart b xs ys = let h : common ((b ∷ []) ++ xs) ((b ∷ []) ++ ys) ≡ 1 + common xs ys = common-behind (b ∷ []) xs ys in omega arith

-- a word that is short of the input and has at most the front in common with it
pub word_stops : (word front : List ℕ) (b : ℕ) (one z more : List ℕ) → IsShort (front ++ b ∷ one) word (length front) → front ++ b ∷ z ≡ word ++ more → ⊥
word_stops word front b one z more s e =
    elim (either_front front word (b ∷ z) more e) [
      | inl w ↦ longer w.0 w.1 w.2
      | inr w ↦ s.short (whole (front ++ b ∷ one) word (w.0 ∷ (w.1 ++ b ∷ one)) (ap (λ u. u ++ b ∷ one) w.2 ∙ append_assoc word (w.0 ∷ w.1) (b ∷ one)))
    ]
  where
    longer : (r : List ℕ) → word ≡ front ++ r → b ∷ z ≡ r ++ more → ⊥
    longer [] h k = s.short (whole (front ++ b ∷ one) word (b ∷ one) (ap (λ u. u ++ b ∷ one) (sym (h ∙ append-nil front))))
    longer (c ∷ r) h k =
        let same : b ≡ c = cc in
        let both : common (front ++ b ∷ one) word ≡ length front + common (b ∷ one) (b ∷ r) = ap (common (front ++ b ∷ one)) (h ∙ ap (λ u. front ++ u ∷ r) (sym same)) ∙ common-behind front (b ∷ one) (b ∷ r) in
        let some = suc_apart b one r in
        let few = s.few in
        omega arith

pub word_ends : (word front more : List ℕ) → IsShort (front ++ []) word (length front) → front ++ [] ≡ word ++ more → ⊥
word_ends word front more s e = s.short (whole (front ++ []) word more e)

candidate_stops : (vars : List ℕ) (syms : List FoSym) (usable : List Bool) (want : Option ℕ) (after : ℕ) (front one : List ℕ)
    → ((n : FoNode) → IsCandidate vars syms usable want n → IsShort (front ++ one) (spaced_node after n) (length front))
    → Stops (λ z. Opens (IsCandidate vars syms usable want) (spaced_node after) (front ++ z)) one
candidate_stops vars syms usable want after front [] h = λ o. word_ends (spaced_node after o.0) front o.2 (h o.0 o.1) o.3
candidate_stops vars syms usable want after front (b ∷ one) h = λ z o. word_stops (spaced_node after o.0) front b one z o.2 (h o.0 o.1) o.3

-- each candidate is short of the input
short_of : (vars : List ℕ) (syms : List FoSym) (usable : List Bool) (want : Option ℕ) (after : ℕ) (input : List ℕ) (best : ℕ) → IsBest vars syms usable want after input (λ other. other < length vars + length syms) best
    → (n : FoNode) → IsCandidate vars syms usable want n → IsShort input (spaced_node after n) best
short_of vars syms usable want after input best b n c = let at = candidate-within vars syms usable want n c in b.short n at.0 at.2 at.1 c

refuses_front : (vars : List ℕ) (syms : List FoSym) (usable : List Bool) (want : Option ℕ) (after : ℕ) (input : List ℕ) (best : ℕ) → IsBest vars syms usable want after input (λ other. other < length vars + length syms) best
    → (front one : List ℕ) → input ≡ front ++ one → best ≡ length front → (n : FoNode) → IsCandidate vars syms usable want n → (rest : List ℕ) → spaced_node after n ≡ front ++ rest
    → Refuses (Spells (IsCandidate vars syms usable want) (spaced_node after)) (Opens (IsCandidate vars syms usable want) (spaced_node after)) input (length input - best)
refuses_front vars syms usable want after input best b front one e l n c rest w = record {
  before = front;
  after = one;
  input_is = e;
  left_is = (let len : length input ≡ length front + length one = ap length e ∙ length-append front one in omega arith);
  rest = rest;
  goes_on = (n, c, sym w);
  stops = candidate_stops vars syms usable want after front one (λ m d. subst (λ u. IsShort u (spaced_node after m) (length front)) e (subst (IsShort input (spaced_node after m)) l (short_of vars syms usable want after input best b m d)));
}

pub refuses-best : (vars : List ℕ) (syms : List FoSym) (usable : List Bool) (want : Option ℕ) (after : ℕ) (input : List ℕ) (best : ℕ) → IsBest vars syms usable want after input (λ other. other < length vars + length syms) best
    → (n : FoNode) → IsCandidate vars syms usable want n
    → Refuses (Spells (IsCandidate vars syms usable want) (spaced_node after)) (Opens (IsCandidate vars syms usable want) (spaced_node after)) input (length input - best)
refuses-best vars syms usable want after input best b n c = elim b.attained [
  | inl z ↦ refuses_front vars syms usable want after input best b [] input refl z n c (spaced_node after n) refl
  | inr w ↦ (let k = common-is input (spaced_node after w.0) in refuses_front vars syms usable want after input best b k.front k.one k.one_is (w.2 ∙ k.count_is) w.0 w.1 k.other k.other_is)
]

-- more candidates
below_or_at : (at other : ℕ) → other < at + 1 → (other < at) ⊎ (other ≡ at)
below_or_at at other l = elim (cases_lt other at) [ inl h ↦ inl h | inr h ↦ inr (omega arith) ]

pub larger : (m n : ℕ) → (max m n ≡ m) ⊎ (max m n ≡ n)
larger m n = elim (cases_lt m n) [ inl h ↦ inr (omega arith) | inr h ↦ inl (omega arith) ]

pub best-none : (vars : List ℕ) (syms : List FoSym) (usable : List Bool) (want : Option ℕ) (after : ℕ) (input : List ℕ) → IsBest vars syms usable want after input (λ other. other < 0) 0
best-none vars syms usable want after input = record { short = λ n at l s c. absurd (omega arith); attained = inl refl }

short_wider : (input word : List ℕ) (a b : ℕ) → a ≤ b → IsShort input word a → IsShort input word b
short_wider input word a b l s = record { few = (let h = s.few in omega arith); short = s.short }

pub best-more : (vars : List ℕ) (syms : List FoSym) (usable : List Bool) (want : Option ℕ) (after : ℕ) (input : List ℕ) (at best count : ℕ) → IsBest vars syms usable want after input (λ other. other < at) best → IsBest vars syms usable want after input (λ other. other ≡ at) count
    → IsBest vars syms usable want after input (λ other. other < at + 1) (max best count)
best-more vars syms usable want after input at best count a b = record {
  short = λ n other l s c. elim (below_or_at at other l) [
    | inl h ↦ short_wider input (spaced_node after n) best (max best count) (omega arith) (a.short n other h s c)
    | inr h ↦ short_wider input (spaced_node after n) count (max best count) (omega arith) (b.short n other h s c)
  ];
  attained = elim (larger best count) [
    | inl h ↦ subst (λ u. (u ≡ 0) ⊎ ((n : FoNode) × IsCandidate vars syms usable want n × (u ≡ common input (spaced_node after n)))) (sym h) a.attained
    | inr h ↦ subst (λ u. (u ≡ 0) ⊎ ((n : FoNode) × IsCandidate vars syms usable want n × (u ≡ common input (spaced_node after n)))) (sym h) b.attained
  ];
}

pub at-var : (vars : List ℕ) (P : FoNode → Type 0) (at : ℕ) (r : Option FoNode) → at < length vars → MatchOption r ((n : FoNode) → n ≡ Var at → P n → ⊥) (λ n. (n ≡ Var at) × P n)
    → MatchOption r ((n : FoNode) → StandsAt vars at n → P n → ⊥) (λ n. StandsAt vars at n × P n)
at-var vars P at None l h = none
  where
    none : (n : FoNode) → StandsAt vars at n → P n → ⊥
    none (Var v) s p = h (Var v) (ap Var (sym s)) p
    none (Sym f k) s p = absurd (omega arith)
at-var vars P at (Some n) l h = (subst (StandsAt vars at) (sym h.0) refl, h.1)

pub at-sym : (vars : List ℕ) (P : FoNode → Type 0) (at f : ℕ) (r : Option FoNode) → at ≡ length vars + f → ((v : ℕ) → at ≡ v → P (Var v) → ⊥) → MatchOption r ((n : FoNode) (k : ℕ) → n ≡ Sym f k → P n → ⊥) (λ n. ((k : ℕ) × (n ≡ Sym f k)) × P n)
    → MatchOption r ((n : FoNode) → StandsAt vars at n → P n → ⊥) (λ n. StandsAt vars at n × P n)
at-sym vars P at f None l apart h = none
  where
    none : (n : FoNode) → StandsAt vars at n → P n → ⊥
    none (Var v) s p = apart v s p
    none (Sym g k) s p = h (Sym g k) k (ap (λ u. Sym u k) (let e : g ≡ f = omega arith in e)) p
at-sym vars P at f (Some n) l apart h = (subst (StandsAt vars at) (sym h.0.1) l, h.1)

pub var-below : (vars : List ℕ) (syms : List FoSym) (usable : List Bool) (want : Option ℕ) (v : ℕ) → IsCandidate vars syms usable want (Var v) → v < length vars
var-below vars syms usable want v c = slice_get_within vars v c.sort c.begins.gives.0

-- a candidate that the input begins with
pub ahead : (after : ℕ) (input : List ℕ) (n : FoNode) (len : ℕ) (back : List ℕ) → len ≡ length (spaced_node after n) → common input (spaced_node after n) ≡ length (spaced_node after n) → back ≡ drop (len - 1) input → IsAhead after input n back
ahead after input n len back l c b =
    let w : List ℕ = spaced_node after n in
    let e : input ≡ (space ∷ node_word n) ++ (node_end after n ∷ drop (length w) input) = common-whole input w c ∙ append_assoc (space ∷ node_word n) (node_end after n ∷ []) (drop (length w) input) in
    let k : len - 1 ≡ length (space ∷ node_word n) = (let m : length w ≡ length (space ∷ node_word n) + 1 = length-append (space ∷ node_word n) (node_end after n ∷ []) in omega arith) in
    let r : back ≡ node_end after n ∷ drop (length w) input = b ∙ ap (λ u. drop u input) k ∙ front_rest input (space ∷ node_word n) (node_end after n ∷ drop (length w) input) e in
    record { input_is = e ∙ ap (λ u. space ∷ (node_word n ++ u)) (sym r); ended = subst (StandsFirst (node_end after n)) (sym r) refl }

pub whole-within : (input w : List ℕ) (len : ℕ) → len ≡ length w → common input w ≡ length w → len - 1 ≤ length input
whole-within input w len l c =
    let k = common-is input w in
    let a : length input ≡ length k.front + length k.one = ap length k.one_is ∙ length-append k.front k.one in
    let b = k.count_is in
    omega arith

common-within : (input word : List ℕ) → common input word ≤ length input
common-within input word =
    let k = common-is input word in
    let a : length input ≡ length k.front + length k.one = ap length k.one_is ∙ length-append k.front k.one in
    let b = k.count_is in
    omega arith

pub best-within : (vars : List ℕ) (syms : List FoSym) (usable : List Bool) (want : Option ℕ) (after : ℕ) (input : List ℕ) (AtOne : ℕ → Type 0) (best : ℕ) → IsBest vars syms usable want after input AtOne best → best ≤ length input
best-within vars syms usable want after input AtOne best b = elim b.attained [
  | inl z ↦ omega arith
  | inr w ↦ (let h = common-within input (spaced_node after w.0) in let e : best ≡ common input (spaced_node after w.0) = w.2 in omega arith)
]
