-- The words that are kept of base types and symbols.
use Rattle.std.proofs.Common.{ℕ, zero, suc, nat_eq, ◌≡◌, ◌∙◌, ◌+◌, ◌<◌, add-one, Bool, true, false, cond, List, [], ◌∷◌, length, map, drop, max, slice_get, Option, Some, refl, sym, ap, arith}
use Rattle.std.specs.Option.{option_map, option_map_or}
use Rattle.std.proofs.lemmas.Option.{slice_get-map}
use Rattle.leo_terms.specs.Contents.{Contents, type_at}
use Rattle.leo_elab.specs.Table.{AreTypesIn, type_entry, constant_entry}
use Rattle.leo_tstp.specs.Words.{atom_text}
use Rattle.leo_tstp.specs.Vocabulary.{base_atom, is_base, symbol_atom, with_word, word_of, marks_in, most_marks}

-- a word more
put-by : {V : Type 0} (items : V → List ℕ) (b : Bool) (w : V) (text : List ℕ) (o : Option V) → items w ≡ text → option_map_or items (cond b (Some w) o) [] ≡ cond b text (option_map_or items o [])
put-by items true w text o e = e
put-by items false w text o e = refl

pub put : {V : Type 0} (items : V → List ℕ) (old new : ℕ → Option V) (s : ℕ) (w : V) (text : List ℕ) → ((k : ℕ) → new k ≡ cond (nat_eq s k) (Some w) (old k)) → items w ≡ text
    → (k : ℕ) → option_map_or items (new k) [] ≡ with_word (λ j. option_map_or items (old j) []) s text k
put items old new s w text h e k = ap (λ o. option_map_or items o []) (h k) ∙ put-by items (nat_eq s k) w text (old k) e

-- the list from a place on
pub drop-here : {A : Type 0} (xs : List A) (k : ℕ) (x : A) → slice_get xs k ≡ Some x → drop k xs ≡ x ∷ drop (k + 1) xs
drop-here [] k x e = absurd cc
drop-here (y ∷ xs) zero x e = let z : y ≡ x = cc in rw z refl
drop-here (y ∷ xs) (suc k) x e = rw add-one (rw add-one at (drop-here xs k x e))

-- the same behind a place that is one more
here : {A : Type 0} (xs : List A) (k next : ℕ) (x : A) → next ≡ k + 1 → slice_get xs k ≡ Some x → drop k xs ≡ x ∷ drop next xs
here xs k next x n e = rw n (drop-here xs k x e)

-- a pair of a map, as contracts see it
pub entry-at : {K A : Type 0} (text : K → List ℕ) (es : List (K × A)) (ps : List (List ℕ × A)) (i : ℕ) (key : K) (n : A) → map (λ p. (text p.0, p.1)) es ≡ ps → Some (key, n) ≡ slice_get es i → slice_get ps i ≡ Some (text key, n)
entry-at text es ps i key n m e = rw (← m) (slice_get-map (λ p. (text p.0, p.1)) es i ∙ ap (option_map (λ p. (text p.0, p.1))) (sym e))

pub drop-all : {A : Type 0} (xs : List A) (k : ℕ) → k ≡ length xs → drop k xs ≡ []
drop-all [] k e = rw e refl
drop-all (x ∷ xs) zero e = absurd (omega arith)
drop-all (x ∷ xs) (suc k) e = drop-all xs k (omega arith)

word-if : (b : Bool) (atom : List ℕ) (o : Option (List ℕ)) → word_of (cond b (Some atom) o) ≡ cond b (atom_text atom) (word_of o)
word-if true atom o = refl
word-if false atom o = refl

-- one declared type more, from the last to the first
pub type-more : (c : Contents) (ps : List (List ℕ × ℕ)) (place next k : ℕ) (p : List ℕ × ℕ) (old new : ℕ → List ℕ) → next ≡ place + 1 → slice_get ps place ≡ Some p
    → ((j : ℕ) → new j ≡ cond (is_base j (type_at c p.1)) (atom_text p.0) (old j)) → ((j : ℕ) → old j ≡ word_of (base_atom j (map (type_entry c) (drop next ps))))
    → new k ≡ word_of (base_atom k (map (type_entry c) (drop place ps)))
type-more c ps place next k p old new h e n o =
    let d : word_of (base_atom k (map (type_entry c) (drop place ps))) ≡ cond (is_base k (type_at c p.1)) (atom_text p.0) (word_of (base_atom k (map (type_entry c) (drop next ps)))) =
    ap (λ qs. word_of (base_atom k (map (type_entry c) qs))) (here ps place next p h e) ∙ word-if (is_base k (type_at c p.1)) p.0 (base_atom k (map (type_entry c) (drop next ps))) in
    n k ∙ (ap (cond (is_base k (type_at c p.1)) (atom_text p.0)) (o k) ∙ sym d)

pub symbol-more : (c : Contents) (ps : List (List ℕ × ℕ)) (place next k : ℕ) (p : List ℕ × ℕ) (old new : ℕ → List ℕ) → next ≡ place + 1 → slice_get ps place ≡ Some p
    → ((j : ℕ) → new j ≡ with_word old p.1 (atom_text p.0) j) → ((j : ℕ) → old j ≡ word_of (symbol_atom j (map (constant_entry c) (drop next ps))))
    → new k ≡ word_of (symbol_atom k (map (constant_entry c) (drop place ps)))
symbol-more c ps place next k p old new h e n o =
    let d : word_of (symbol_atom k (map (constant_entry c) (drop place ps))) ≡ cond (nat_eq p.1 k) (atom_text p.0) (word_of (symbol_atom k (map (constant_entry c) (drop next ps)))) =
    ap (λ qs. word_of (symbol_atom k (map (constant_entry c) qs))) (here ps place next p h e) ∙ word-if (nat_eq p.1 k) p.0 (symbol_atom k (map (constant_entry c) (drop next ps))) in
    n k ∙ (ap (cond (nat_eq p.1 k) (atom_text p.0)) (o k) ∙ sym d)

-- before any is kept
pub type-none : (c : Contents) (ps : List (List ℕ × ℕ)) (place k : ℕ) → place ≡ length ps → [] ≡ word_of (base_atom k (map (type_entry c) (drop place ps)))
type-none c ps place k e = rw (drop-all ps place e) refl

pub symbol-none : (c : Contents) (ps : List (List ℕ × ℕ)) (place k : ℕ) → place ≡ length ps → [] ≡ word_of (symbol_atom k (map (constant_entry c) (drop place ps)))
symbol-none c ps place k e = rw (drop-all ps place e) refl

pub types-in : (c : Contents) (ps : List (List ℕ × ℕ)) → AreTypesIn c ps → (place : ℕ) (p : List ℕ × ℕ) → slice_get ps place ≡ Some p → p.1 < length c.types
types-in c [] h place p e = absurd cc
types-in c (q ∷ ps) h zero p e = let f : q ≡ p = cc in rw (← f) h.0
types-in c (q ∷ ps) h (suc place) p e = types-in c ps h.1 place p e

-- the most marks
pub marks-more : {K A : Type 0} (text : K → List ℕ) (es : List (K × A)) (place most next total : ℕ) (key : K) (x : A) → Some (key, x) ≡ slice_get es place → next ≡ max most (marks_in (text key))
    → max most (most_marks (map (λ p. (text p.0, p.1)) (drop place es))) ≡ total → max next (most_marks (map (λ p. (text p.0, p.1)) (drop (place + 1) es))) ≡ total
marks-more text es place most next total key x e n h =
    let d : max most (max (marks_in (text key)) (most_marks (map (λ p. (text p.0, p.1)) (drop (place + 1) es)))) ≡ total =
    ap (λ qs. max most (most_marks (map (λ p. (text p.0, p.1)) qs))) (sym (drop-here es place (key, x) (sym e))) ∙ h in
    omega arith

pub marks-of-types : (c : Contents) (ps : List (List ℕ × ℕ)) → most_marks (map (type_entry c) ps) ≡ most_marks ps
marks-of-types c [] = refl
marks-of-types c (p ∷ ps) = ap (max _) (marks-of-types c ps)

pub marks-of-constants : (c : Contents) (ps : List (List ℕ × ℕ)) → most_marks (map (constant_entry c) ps) ≡ most_marks ps
marks-of-constants c [] = refl
marks-of-constants c (p ∷ ps) = ap (max _) (marks-of-constants c ps)
