-- Terms as they are read: what is known of them as a reader goes on, and how their words are cut.
use Rattle.std.proofs.Common.{ℕ, zero, suc, ◌≡◌, ◌∙◌, ◌+◌, ◌-◌, ◌<◌, ◌||◌, Bool, true, false, IsTrue, nat_eq, List, [], ◌∷◌, ◌++◌, length, slice_get, Option, Some, None, refl, sym, ap, subst, codes, decimal, arith, rules}
use Rattle.std.specs.Prelude.{if◌then◌else◌}
use Rattle.std.specs.Str.{bytes_eq}
use Rattle.std.proofs.lemmas.Slice.Eq.{bytes_eq-Decides}
use Rattle.std.proofs.lemmas.Bool.Decides.{nat_tests}
use Rattle.leo_lex.specs.Bytes.{is_lower, single_quote}
use Rattle.leo_q0.specs.Terms.{SimpleType, base, arrow}
use Rattle.leo_terms.specs.Tree.{Tree, variable, bound, symbol, app, lam, logic, absent, Connective, truth, falsity, negation, disjunction, conjunction, implication, equality, universal, existential, choice, truth_type, type_of}
use Rattle.leo_terms.specs.Typing.{IsPresent, IsPresentOf, IsWellTyped, TakesTrees}
use Rattle.leo_terms.specs.Contents.{IsKept}
use Rattle.leo_tstp.specs.declared.reading.trees.TypeNode.{TypeNode}
use Rattle.leo_tstp.specs.declared.reading.trees.Joint.{Joint}
use Rattle.leo_tstp.specs.declared.reading.trees.Joint.TheVariants as joint
use Rattle.leo_tstp.specs.declared.reading.trees.Quantifier.{Quantifier}
use Rattle.leo_tstp.specs.declared.reading.trees.Quantifier.TheVariants as quantifier
use Rattle.leo_tstp.specs.declared.reading.trees.Parsed.{Parsed}
use Rattle.leo_tstp.specs.declared.reading.trees.Typed.{Typed}
use Rattle.leo_tstp.specs.declared.reading.lexicon.Lexicon.{Lexicon}
use Rattle.leo_tstp.specs.declared.reading.source.Reader.{Reader}
use Rattle.leo_tstp.specs.declared.reading.terms.Opening.{Opening}
use Rattle.leo_tstp.specs.declared.reading.terms.Between.{Between}
use Rattle.leo_tstp.specs.declared.reading.terms.Between.TheVariants.{Apply, Join, Equal}
use Rattle.leo_tstp.specs.declared.reading.terms.Opening.TheVariants.{Lambda, Binder, Applied, Not, Other}
use Rattle.leo_tstp.specs.Vocabulary.{Vocabulary}
use Rattle.leo_tstp.specs.Shapes.{opening, between}
use Rattle.leo_tstp.specs.Ahead.{first_word, second_word}
use Rattle.leo_tstp.specs.Places.{IsPlace, AreKnownBases, GoesOn}
use Rattle.leo_tstp.specs.TermTexts.{is_lambda, lambda_sign}
use Rattle.leo_tstp.specs.TermWords.{signed_then, quantified_then}
use Rattle.leo_tstp.specs.TermPlaces.{Says, SaysLogic, IsSaid, ArePlaces, IsScope, IsAround, IsAtomWord, IsKnownSymbol, AreKnownWords, IsKnownTerm, quantified_by, binder_word, constant_word, joined_by, joint_word, Behind, behind_apply, behind_join, behind_equal, Inside, inside_lambda, inside_binder, inside_set, inside_not, inside_two, Atom, atom_variable, atom_bound, atom_symbol, atom_truth, atom_falsity, Words, words_atom, words_brackets}
use Rattle.leo_tstp.proofs.Placing.{place-kept}
use Rattle.leo_tstp.proofs.Typing.{place-on}

-- ---- as a reader goes on

logic-kept : (c : Connective) (p : Parsed) (F G H K : Parsed → Type 0) → ((q : Parsed) → F q → H q) → ((q : Parsed) → G q → K q) → SaysLogic c p F G → SaysLogic c p H K
logic-kept truth p F G H K f g h = h
logic-kept falsity p F G H K f g h = h
logic-kept negation p F G H K f g h = (h.0, h.1, f h.0 h.2)
logic-kept disjunction p F G H K f g h = (h.0, h.1, h.2, f h.0 h.3, g h.1 h.4)
logic-kept conjunction p F G H K f g h = (h.0, h.1, h.2, f h.0 h.3, g h.1 h.4)
logic-kept implication p F G H K f g h = (h.0, h.1, h.2, f h.0 h.3, g h.1 h.4)
logic-kept (equality a) p F G H K f g h = (h.0, h.1, h.2, f h.0 h.3, g h.1 h.4)
logic-kept (universal a) p F G H K f g h = (h.0, h.1, f h.0 h.2)
logic-kept (existential a) p F G H K f g h = (h.0, h.1, f h.0 h.2)
logic-kept (choice a) p F G H K f g h = (h.0, h.1, f h.0 h.2)

pub says-kept : (v : Vocabulary) (l : Lexicon) (ns ms : List TypeNode) (d : ℕ) (p : Parsed) (t : Tree) → IsKept ns ms → Says v l ns d p t → Says v l ms d p t
says-kept v l ns ms d p (variable n a) k h = h
says-kept v l ns ms d p (bound i a) k h = h
says-kept v l ns ms d p (symbol s a) k h = h
says-kept v l ns ms d p (app f x) k h = (h.0, h.1, h.2, says-kept v l ns ms d h.0 f k h.3, says-kept v l ns ms d h.1 x k h.4)
says-kept v l ns ms d p (lam a t) k h = (h.0, h.1, h.2, place-kept v l ns ms a h.0 k h.3, says-kept v l ns ms (d + 1) h.1 t k h.4)
says-kept v l ns ms d p (logic c x y) k h =
    logic-kept c p (λ q. Says v l ns d q x) (λ q. Says v l ns d q y) (λ q. Says v l ms d q x) (λ q. Says v l ms d q y)
    (λ q g. says-kept v l ns ms d q x k g) (λ q g. says-kept v l ns ms d q y k g) h
says-kept v l ns ms d p absent k h = h

pub places-kept : (v : Vocabulary) (l : Lexicon) (ns ms : List TypeNode) (vs : List SimpleType) (ps : List ℕ) → IsKept ns ms → ArePlaces v l ns vs ps → ArePlaces v l ms vs ps
places-kept v l ns ms [] ps k h = h
places-kept v l ns ms (a ∷ vs) ps k h = (h.0, h.1, h.2, place-kept v l ns ms a h.0 k h.3, places-kept v l ns ms vs h.1 k h.4)

pub scope-kept : (v : Vocabulary) (l : Lexicon) (ns ms : List TypeNode) (s : List SimpleType) (ps : List ℕ) → IsKept ns ms → IsScope v l ns s ps → IsScope v l ms s ps
scope-kept v l ns ms [] ps k h = h
scope-kept v l ns ms (a ∷ s) ps k h = (h.0, h.1, h.2, place-kept v l ns ms a h.0 k h.3, scope-kept v l ns ms s h.1 k h.4)

pub words-kept : (v : Vocabulary) (l : Lexicon) (ns ms : List TypeNode) (t : Tree) → IsKept ns ms → AreKnownWords v l ns t → AreKnownWords v l ms t
words-kept v l ns ms (variable n a) k h = h
words-kept v l ns ms (bound i a) k h = h
words-kept v l ns ms (symbol s a) k h = record { place = h.place; at = h.at; ty = h.ty; type_at = h.type_at; type_is = place-kept v l ns ms a h.ty k h.type_is; word = h.word }
words-kept v l ns ms (app f x) k h = (words-kept v l ns ms f k h.0, words-kept v l ns ms x k h.1)
words-kept v l ns ms (lam a t) k h = (h.0, words-kept v l ns ms t k h.1)
words-kept v l ns ms (logic c x y) k h = (words-kept v l ns ms x k h.0, words-kept v l ns ms y k h.1)
words-kept v l ns ms absent k h = h

pub same-lexicon : (r t : Reader) → GoesOn r t → t.lexicon ≡ r.lexicon
same-lexicon r t g = rw g.stays refl

pub same-variables : (r t : Reader) → GoesOn r t → t.variables ≡ r.variables
same-variables r t g = rw g.stays refl

pub around-on : (v : Vocabulary) (r t : Reader) (vs s : List SimpleType) → GoesOn r t → IsAround v r vs s → IsAround v t vs s
around-on v r t vs s g h = record {
  shared = g.shared h.shared;
  truth_is = place-on v r t truth_type 0 g h.truth_is;
  variables = rw (same-lexicon r t g, same-variables r t g) (places-kept v r.lexicon r.types.nodes.keys t.types.nodes.keys vs r.variables.items g.kept h.variables);
  scope = rw (same-lexicon r t g, g.scope_stays) (scope-kept v r.lexicon r.types.nodes.keys t.types.nodes.keys s r.scope.items g.kept h.scope);
}

pub known-on : (v : Vocabulary) (r t : Reader) (vs s : List SimpleType) (x : Tree) → GoesOn r t → IsKnownTerm v r vs s x → IsKnownTerm v t vs s x
known-on v r t vs s x g h = record {
  present = h.present;
  typed = h.typed;
  over = h.over;
  words = rw (same-lexicon r t g) (words-kept v r.lexicon r.types.nodes.keys t.types.nodes.keys x g.kept h.words);
}

pub said-on : (v : Vocabulary) (r t : Reader) (d : ℕ) (x : Tree) (p : Typed) → GoesOn r t → IsSaid v r d x p → IsSaid v t d x p
said-on v r t d x p g h = record {
  says = rw (same-lexicon r t g) (says-kept v r.lexicon r.types.nodes.keys t.types.nodes.keys d p.term x g.kept h.says);
  place = place-on v r t (type_of x) p.ty g h.place;
}

-- ---- places of variables

pub place-of : (v : Vocabulary) (l : Lexicon) (ns : List TypeNode) (vs : List SimpleType) (ps : List ℕ) (n : ℕ) (a : SimpleType) → ArePlaces v l ns vs ps → slice_get vs n ≡ Some a
    → (q : ℕ) × (slice_get ps n ≡ Some q) × IsPlace v l ns a q
place-of v l ns [] ps n a h e = absurd (cc)
place-of v l ns (b ∷ vs) ps zero a h e = let same : b ≡ a = cc in (h.0, rw h.2 refl, subst (λ x. IsPlace v l ns x h.0) same h.3)
place-of v l ns (b ∷ vs) ps (suc n) a h e = let rest = place-of v l ns vs h.1 n a h.4 e in (rest.0, rw h.2 rest.1, rest.2)

at-last : (qs : List ℕ) (q : ℕ) → slice_get (qs ++ q ∷ []) (length qs) ≡ Some q
at-last [] q = refl
at-last (x ∷ qs) q = at-last qs q

at-front : (qs rs : List ℕ) (n q : ℕ) → slice_get qs n ≡ Some q → slice_get (qs ++ rs) n ≡ Some q
at-front [] rs n q e = absurd (cc)
at-front (x ∷ qs) rs zero q e = e
at-front (x ∷ qs) rs (suc n) q e = at-front qs rs n q e

pub longer : (qs : List ℕ) (q : ℕ) → length (qs ++ q ∷ []) ≡ suc (length qs)
longer [] q = refl
longer (x ∷ qs) q = ap suc (longer qs q)

here : (m n : ℕ) → n ≡ suc m → (n - 0) - 1 ≡ m
here m n e = omega arith

below : (m n i : ℕ) → n ≡ suc m → (n - suc i) - 1 ≡ (m - i) - 1
below m n i e = omega arith

pub scope-of : (v : Vocabulary) (l : Lexicon) (ns : List TypeNode) (s : List SimpleType) (ps : List ℕ) (i : ℕ) (a : SimpleType) → IsScope v l ns s ps → slice_get s i ≡ Some a
    → (q : ℕ) × (slice_get ps ((length ps - i) - 1) ≡ Some q) × IsPlace v l ns a q
scope-of v l ns [] ps i a h e = absurd (cc)
scope-of v l ns (b ∷ s) ps zero a h e =
    let same : b ≡ a = cc in
    let n = here (length h.1) (length ps) (ap length h.2 ∙ longer h.1 h.0) in
    (h.0, rw (n, h.2) (at-last h.1 h.0), subst (λ x. IsPlace v l ns x h.0) same h.3)
scope-of v l ns (b ∷ s) ps (suc i) a h e =
    let rest = scope-of v l ns s h.1 i a h.4 e in
    let n = below (length h.1) (length ps) i (ap length h.2 ∙ longer h.1 h.0) in
    (rest.0, rw (n, h.2) (at-front h.1 (h.0 ∷ []) _ rest.0 rest.1), rest.2)

-- ---- parts of a term that is read

arguments-of : (c : Connective) (x y : Tree) → IsWellTyped (logic c x y) → TakesTrees c x y
arguments-of c x y h = h.2

module _ {v : Vocabulary} {r : Reader} {vs s : List SimpleType} where
  pub known-body : (a : SimpleType) (t : Tree) → IsKnownTerm v r vs s (lam a t) → IsKnownTerm v r vs (a ∷ s) t
  known-body a t h = record { present = h.typed.1; typed = h.typed.0; over = h.over; words = h.words.1 }

  pub known-function : (f x : Tree) → IsKnownTerm v r vs s (app f x) → IsKnownTerm v r vs s f
  known-function f x h = record { present = h.typed.2; typed = h.typed.0; over = h.over.0; words = h.words.0 }

  pub known-argument : (f x : Tree) → IsKnownTerm v r vs s (app f x) → IsKnownTerm v r vs s x
  known-argument f x h = record { present = h.typed.3; typed = h.typed.1; over = h.over.1; words = h.words.1 }

  pub known-first : (c : Connective) (x y : Tree) → IsPresent x → IsKnownTerm v r vs s (logic c x y) → IsKnownTerm v r vs s x
  known-first c x y p h = record { present = p; typed = h.typed.0; over = h.over.0; words = h.words.0 }

  pub known-second : (c : Connective) (x y : Tree) → IsPresent y → IsKnownTerm v r vs s (logic c x y) → IsKnownTerm v r vs s y
  known-second c x y p h = record { present = p; typed = h.typed.1; over = h.over.1; words = h.words.1 }

  pub negated : (x y : Tree) → IsKnownTerm v r vs s (logic negation x y) → IsPresentOf truth_type x
  negated x y h = (arguments-of negation x y h.typed).0

  pub equated : (a : SimpleType) (x y : Tree) → IsKnownTerm v r vs s (logic (equality a) x y) → IsPresentOf a x × IsPresentOf a y
  equated a x y h = arguments-of (equality a) x y h.typed

  pub joined : (j : Joint) (x y : Tree) → IsKnownTerm v r vs s (logic (joined_by j) x y) → IsPresentOf truth_type x × IsPresentOf truth_type y
  joined joint.Or x y h = arguments-of disjunction x y h.typed
  joined joint.And x y h = arguments-of conjunction x y h.typed
  joined joint.Implies x y h = arguments-of implication x y h.typed

  pub quantified : (k : Quantifier) (a : SimpleType) (x y : Tree) → IsKnownTerm v r vs s (logic (quantified_by k a) x y) → IsPresentOf (arrow a truth_type) x
  quantified quantifier.All a x y h = (arguments-of (universal a) x y h.typed).0
  quantified quantifier.Some a x y h = (arguments-of (existential a) x y h.typed).0
  quantified quantifier.Choice a x y h = (arguments-of (choice a) x y h.typed).0

  pub known-front : {d : ℕ} {rest ws : List (List ℕ)} {t f : Tree} → Behind v d rest t f ws → IsKnownTerm v r vs s t → IsKnownTerm v r vs s f
  known-front (behind_apply f x) h = known-function f x h
  known-front (behind_join j x y) h = let p = joined j x y h in known-first (joined_by j) x y p.0.0 h
  known-front (behind_equal a x y) h = let p = equated a x y h in known-first (equality a) x y p.0.0 h

-- ---- how words are cut

quantified-cut : (v : Vocabulary) (d : ℕ) (rest : List (List ℕ)) (k : Quantifier) (a : SimpleType) (x y : Tree)
    → Words v d rest (logic (quantified_by k a) x y) (quantified_then (binder_word k) (constant_word k) (is_lambda x) (λ s r. signed_then v d s x r) rest)
quantified-cut v d rest k a (lam b t) y = words_brackets _ _ (inside_binder k a b t y)
quantified-cut v d rest k a (variable n b) y = words_brackets _ _ (inside_set k a (variable n b) y refl)
quantified-cut v d rest k a (bound i b) y = words_brackets _ _ (inside_set k a (bound i b) y refl)
quantified-cut v d rest k a (symbol s b) y = words_brackets _ _ (inside_set k a (symbol s b) y refl)
quantified-cut v d rest k a (app f x) y = words_brackets _ _ (inside_set k a (app f x) y refl)
quantified-cut v d rest k a (logic c x z) y = words_brackets _ _ (inside_set k a (logic c x z) y refl)
quantified-cut v d rest k a absent y = words_brackets _ _ (inside_set k a absent y refl)

pub cut : (v : Vocabulary) (d : ℕ) (rest : List (List ℕ)) (t : Tree) → IsPresent t → Words v d rest t (signed_then v d lambda_sign t rest)
cut v d rest (variable n a) p = words_atom _ _ (atom_variable n a)
cut v d rest (bound i a) p = words_atom _ _ (atom_bound i a)
cut v d rest (symbol s a) p = words_atom _ _ (atom_symbol s a)
cut v d rest (app f x) p = words_brackets _ _ (inside_two _ _ _ (behind_apply f x))
cut v d rest (lam a t) p = words_brackets _ _ (inside_lambda a t)
cut v d rest (logic truth x y) p = words_atom _ _ (atom_truth x y)
cut v d rest (logic falsity x y) p = words_atom _ _ (atom_falsity x y)
cut v d rest (logic negation x y) p = words_brackets _ _ (inside_not x y)
cut v d rest (logic disjunction x y) p = words_brackets _ _ (inside_two _ _ _ (behind_join joint.Or x y))
cut v d rest (logic conjunction x y) p = words_brackets _ _ (inside_two _ _ _ (behind_join joint.And x y))
cut v d rest (logic implication x y) p = words_brackets _ _ (inside_two _ _ _ (behind_join joint.Implies x y))
cut v d rest (logic (equality a) x y) p = words_brackets _ _ (inside_two _ _ _ (behind_equal a x y))
cut v d rest (logic (universal a) x y) p = quantified-cut v d rest quantifier.All a x y
cut v d rest (logic (existential a) x y) p = quantified-cut v d rest quantifier.Some a x y
cut v d rest (logic (choice a) x y) p = quantified-cut v d rest quantifier.Choice a x y
cut v d rest absent p = absurd p

-- ---- first words

-- with which bytes no atom begins
pub not-front : (w : List ℕ) (k : ℕ) (rest : List ℕ) → IsAtomWord w → (IsTrue (is_lower k || nat_eq k single_quote) → ⊥) → w ≡ k ∷ rest → ⊥
not-front w k rest h n e =
    let both : h.front ∷ h.back ≡ k ∷ rest = sym h.word_is ∙ e in
    let same : h.front ≡ k = cc in
    n (subst (λ x. IsTrue (is_lower x || nat_eq x single_quote)) same h.begins)

unfoldable pub begins : ℕ → Bool
begins k = is_lower k || nat_eq k single_quote

pub begins-not : (k : ℕ) → begins k ≡ false → IsTrue (is_lower k || nat_eq k single_quote) → ⊥
unfolding begins
begins-not k e h = absurd (cc)

no-94 : begins 94 ≡ false
unfolding begins is_lower
no-94 = search rules

no-33 : begins 33 ≡ false
unfolding begins is_lower
no-33 = search rules

no-63 : begins 63 ≡ false
unfolding begins is_lower
no-63 = search rules

no-64 : begins 64 ≡ false
unfolding begins is_lower
no-64 = search rules

no-126 : begins 126 ≡ false
unfolding begins is_lower
no-126 = search rules

no-40 : begins 40 ≡ false
unfolding begins is_lower
no-40 = search rules

pub no-36 : begins 36 ≡ false
unfolding begins is_lower
no-36 = search rules

pub no-88 : begins 88 ≡ false
unfolding begins is_lower
no-88 = search rules

pub no-89 : begins 89 ≡ false
unfolding begins is_lower
no-89 = search rules

differs : (w u : List ℕ) → (w ≡ u → ⊥) → bytes_eq w u ≡ false
differs w u n = by (bytes_eq w u) refl
  where
    by : (b : Bool) → bytes_eq w u ≡ b → bytes_eq w u ≡ false
    by true e = absurd (n ((bytes_eq-Decides w u).0 e))
    by false e = e

other-by : (a b c d e f g h : Bool) → a ≡ false → b ≡ false → c ≡ false → d ≡ false → e ≡ false → f ≡ false → g ≡ false → h ≡ false
    → (if a then Lambda else (if b then Binder quantifier.All else (if c then Binder quantifier.Some else (if d then Binder quantifier.Choice
    else (if e then Applied quantifier.All else (if f then Applied quantifier.Some else (if g then Applied quantifier.Choice else (if h then Not else Other)))))))) ≡ Other
other-by a b c d e f g h i j k l m n o p = rw (i, j, k, l, m, n, o, p) refl

symbol-opens : (w : List ℕ) → IsAtomWord w → opening w ≡ Other
symbol-opens w h = other-by (bytes_eq w (codes "^")) (bytes_eq w (codes "!")) (bytes_eq w (codes "?")) (bytes_eq w (codes "@+")) (bytes_eq w (codes "!!")) (bytes_eq w (codes "??")) (bytes_eq w (codes "@@+")) (bytes_eq w (codes "~"))
    (differs w _ (λ e. not-front w 94 _ h (begins-not 94 no-94) e)) (differs w _ (λ e. not-front w 33 _ h (begins-not 33 no-33) e)) (differs w _ (λ e. not-front w 63 _ h (begins-not 63 no-63) e)) (differs w _ (λ e. not-front w 64 _ h (begins-not 64 no-64) e))
    (differs w _ (λ e. not-front w 33 _ h (begins-not 33 no-33) e)) (differs w _ (λ e. not-front w 63 _ h (begins-not 63 no-63) e)) (differs w _ (λ e. not-front w 64 _ h (begins-not 64 no-64) e)) (differs w _ (λ e. not-front w 126 _ h (begins-not 126 no-126) e))

atom-opens : {v : Vocabulary} (l : Lexicon) (ns : List TypeNode) {d : ℕ} {t : Tree} {w : List ℕ} → Atom v d t w → AreKnownWords v l ns t → opening w ≡ Other
atom-opens l ns (atom_variable n a) k = refl
atom-opens l ns (atom_bound i a) k = refl
atom-opens {v} l ns (atom_symbol s a) k = symbol-opens (v.symbol_word s) k.word
atom-opens l ns (atom_truth x y) k = refl
atom-opens l ns (atom_falsity x y) k = refl

pub other-front : (a b : ℕ) (xs ys : List ℕ) → nat_eq a b ≡ false → a ∷ xs ≡ b ∷ ys → ⊥
other-front a b xs ys n e = let same : a ≡ b = cc in itself b (subst (λ x. nat_eq x b ≡ false) same n)
  where
    itself : (b : ℕ) → nat_eq b b ≡ false → ⊥
    itself b h = let g : nat_eq b b ≡ true = grind (arith, nat_tests) in absurd (cc)

pub other-text : (w u : List ℕ) → bytes_eq w u ≡ false → w ≡ u → ⊥
other-text w u n e = let same : bytes_eq w u ≡ true = (bytes_eq-Decides w u).1 e in both w u n same
  where
    both : (w u : List ℕ) → bytes_eq w u ≡ false → bytes_eq w u ≡ true → ⊥
    both w u f g = cc

no-letter : (a : ℕ) (xs : List ℕ) → nat_eq a 40 ≡ false → a ∷ xs ≡ codes "(" → ⊥
no-letter a xs n e = let same : a ≡ 40 = cc in let n' : nat_eq 40 40 ≡ false = subst (λ x. nat_eq x 40 ≡ false) same n in absurd (cc)

no-text : (w : List ℕ) → bytes_eq w (codes "(") ≡ false → w ≡ codes "(" → ⊥
no-text w n e = let n' : bytes_eq (codes "(") (codes "(") ≡ false = subst (λ x. bytes_eq x (codes "(") ≡ false) e n in absurd (cc)

pub atom-no-bracket : {v : Vocabulary} (l : Lexicon) (ns : List TypeNode) {d : ℕ} {t : Tree} {w : List ℕ} → Atom v d t w → AreKnownWords v l ns t → w ≡ codes "(" → ⊥
atom-no-bracket l ns (atom_variable n a) k e = no-letter 88 (decimal n) refl e
atom-no-bracket l ns (atom_bound i a) k e = no-letter 89 _ refl e
atom-no-bracket {v} l ns (atom_symbol s a) k e = not-front (v.symbol_word s) 40 [] k.word (begins-not 40 no-40) e
atom-no-bracket l ns (atom_truth x y) k e = no-text (codes "$true") refl e
atom-no-bracket l ns (atom_falsity x y) k e = no-text (codes "$false") refl e

words-open : {v : Vocabulary} (l : Lexicon) (ns : List TypeNode) {d : ℕ} {rest ws : List (List ℕ)} {t : Tree} → Words v d rest t ws → AreKnownWords v l ns t → opening (first_word ws) ≡ Other
words-open l ns (words_atom t w a) k = atom-opens l ns a k
words-open l ns (words_brackets t ws i) k = refl

-- the words of a term begin with no sign
pub opens-other : (v : Vocabulary) (l : Lexicon) (ns : List TypeNode) (d : ℕ) (rest : List (List ℕ)) (t : Tree) → IsPresent t → AreKnownWords v l ns t → opening (first_word (signed_then v d lambda_sign t rest)) ≡ Other
opens-other v l ns d rest t p k = words-open l ns (cut v d rest t p) k

-- the sign that stands at the front of what is inside brackets
unfoldable pub shape : {v : Vocabulary} {d : ℕ} {rest ws : List (List ℕ)} {t : Tree} → Inside v d rest t ws → Opening
shape (inside_lambda a t) = Lambda
shape (inside_binder k a b t y) = Binder k
shape (inside_set k a x y n) = Applied k
shape (inside_not x y) = Not
shape (inside_two t f ws b) = Other

binder-opens : (k : Quantifier) → opening (binder_word k) ≡ Binder k
binder-opens quantifier.All = refl
binder-opens quantifier.Some = refl
binder-opens quantifier.Choice = refl

constant-opens : (k : Quantifier) → opening (constant_word k) ≡ Applied k
constant-opens quantifier.All = refl
constant-opens quantifier.Some = refl
constant-opens quantifier.Choice = refl

pub inside-opens : {v : Vocabulary} {r : Reader} {vs s : List SimpleType} {d : ℕ} {rest ws : List (List ℕ)} {t : Tree}
    → (i : Inside v d rest t ws) → IsKnownTerm v r vs s t → opening (first_word ws) ≡ shape i
unfolding shape
inside-opens (inside_lambda a t) k = refl
inside-opens (inside_binder k a b t y) h = binder-opens k
inside-opens (inside_set k a x y n) h = constant-opens k
inside-opens (inside_not x y) h = refl
inside-opens {v} {r} (inside_two t f ws b) h = let g = known-front b h in opens-other v r.lexicon r.types.nodes.keys _ ws f g.present g.words

lambda-shape : {v : Vocabulary} {d : ℕ} {rest ws : List (List ℕ)} {t : Tree} → (i : Inside v d rest t ws) → shape i ≡ Lambda → is_lambda t ≡ true
unfolding shape
lambda-shape (inside_lambda a t) e = refl
lambda-shape (inside_binder k a b t y) e = absurd (cc)
lambda-shape (inside_set k a x y n) e = absurd (cc)
lambda-shape (inside_not x y) e = absurd (cc)
lambda-shape (inside_two t f ws b) e = absurd (cc)

both-ways : (b : Bool) → b ≡ true → b ≡ false → ⊥
both-ways b e f = cc

words-no-lambda : {v : Vocabulary} {r : Reader} {vs s : List SimpleType} {d : ℕ} {rest ws : List (List ℕ)} {t : Tree}
    → Words v d rest t ws → IsKnownTerm v r vs s t → is_lambda t ≡ false → first_word ws ≡ codes "(" → second_word ws ≡ codes "^" → ⊥
words-no-lambda {v} {r} (words_atom t w a) k n e f = atom-no-bracket r.lexicon r.types.nodes.keys a k.words e
words-no-lambda (words_brackets t ws i) k n e f = both-ways (is_lambda t) (lambda-shape i (sym (inside-opens i k) ∙ ap opening f)) n

-- what is no lambda does not begin as one
pub no-lambda : (v : Vocabulary) (r : Reader) (vs s : List SimpleType) (d : ℕ) (rest : List (List ℕ)) (t : Tree) → IsKnownTerm v r vs s t → is_lambda t ≡ false
    → first_word (signed_then v d lambda_sign t rest) ≡ codes "(" → second_word (signed_then v d lambda_sign t rest) ≡ codes "^" → ⊥
no-lambda v r vs s d rest t k n e f = words-no-lambda (cut v d rest t k.present) k n e f

-- the sign that stands behind the first of two parts
unfoldable pub sign_behind : {v : Vocabulary} {d : ℕ} {rest ws : List (List ℕ)} {t f : Tree} → Behind v d rest t f ws → Between
sign_behind (behind_apply f x) = Apply
sign_behind (behind_join j x y) = Join j
sign_behind (behind_equal a x y) = Equal

joint-between : (j : Joint) → between (joint_word j) ≡ Some (Join j)
joint-between joint.Or = refl
joint-between joint.And = refl
joint-between joint.Implies = refl

pub behind-between : {v : Vocabulary} {d : ℕ} {rest ws : List (List ℕ)} {t f : Tree} → (b : Behind v d rest t f ws) → between (first_word ws) ≡ Some (sign_behind b)
unfolding sign_behind
behind-between (behind_apply f x) = refl
behind-between (behind_join j x y) = joint-between j
behind-between (behind_equal a x y) = refl
