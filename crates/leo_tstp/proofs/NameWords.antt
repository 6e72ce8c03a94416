-- Words of base types and symbols are told apart, and none of them is another word of a derivation.
use Rattle.std.proofs.Common.{ℕ, ◌≡◌, ◌≢◌, ◌∙◌, ◌+◌, ◌<◌, ◌^◌, nat_eq, Bool, true, false, cond, ◌||◌, List, [], ◌∷◌, ◌++◌, map, Option, Some, None, refl, sym, ap, subst, append_assoc, arith}
use Rattle.std.specs.Prelude.{codes, decimal}
use Rattle.std.specs.List.{flat_map, list_any, starts_with}
use Rattle.std.specs.Str.{bytes_eq}
use Rattle.std.proofs.lemmas.Bool.{eqb-true, eq-eqb, true≢false, or_parts}
use Rattle.std.proofs.lemmas.Slice.Eq.{bytes_eq-Decides}
use Rattle.std.proofs.lemmas.List.{append_cancel_left}
use Rattle.std.proofs.lemmas.Fmt.{decimal_injective}
use Rattle.leo_lex.specs.Bytes.{is_lower, single_quote}
use Rattle.leo_lex.specs.Forms.{IsWord}
use Rattle.leo_q0.specs.Terms.{SimpleType, base, arrow}
use Rattle.leo_terms.specs.Contents.{Contents, type_at}
use Rattle.leo_elab.specs.Problem.{named}
use Rattle.leo_elab.specs.Table.{declared_in, type_entry, constant_entry}
use Rattle.leo_kernel.specs.Steps.{StepRule, assume, convert, inst, para, arrange, drop_literal, take_apart, bool_ext, func_ext, decompose, reflexivity, choose, factor, abbreviate}
use Rattle.leo_problem.specs.declared.loaded.Problem.{Problem}
use Rattle.leo_tstp.specs.declared.reading.terms.Opening.TheVariants.{Other}
use Rattle.leo_tstp.specs.Vocabulary.{Vocabulary, is_base, base_atom, symbol_atom, word_of, base_word_by, new_prefix, new_name, with_symbol, with_rule}
use Rattle.leo_tstp.specs.Words.{escaped, is_lower_word, in_quotes, atom_text}
use Rattle.leo_tstp.specs.Derivations.{words_of}
use Rattle.leo_tstp.specs.Laws.{IsFree}
use Rattle.leo_tstp.specs.Shapes.{opening}
use Rattle.leo_tstp.specs.Atoms.{AreDistinct, HasDistinctAtoms}
use Rattle.leo_tstp.specs.Nameable.{is_named_base, is_named_symbol, with_introduced}
use Rattle.leo_tstp.specs.Readable.{begins_name, has_first, IsReadableWord}
use Rattle.leo_tstp.proofs.Prefixes.{first-free}
use Rattle.leo_tstp.proofs.Cutting.{lower-word}
use Rattle.leo_tstp.proofs.CutDerivations.{new-word, prefix-word, eqb-turn}

-- ---- atoms

-- texts of bytes in quotes, up to the quote that closes
abbrev inside : List ℕ → List ℕ
inside bytes = flat_map escaped bytes ++ single_quote ∷ []

abbrev is_marked : ℕ → Bool
is_marked b = nat_eq b 39 || nat_eq b 92

abbrev one : Bool → ℕ → List ℕ → List ℕ
one t b rest = cond t (92 ∷ b ∷ []) (b ∷ []) ++ rest

inside-cons : (b : ℕ) (bs : List ℕ) → inside (b ∷ bs) ≡ one (is_marked b) b (inside bs)
inside-cons b bs = append_assoc (escaped b) (flat_map escaped bs) (single_quote ∷ [])

not-quote : (b : ℕ) → is_marked b ≡ false → b ≢ 39
not-quote b e f = let g : nat_eq b 39 ≡ false = (or_parts _ _ e).0 in true≢false (sym (eq-eqb b 39 f) ∙ g)

not-backslash : (b : ℕ) → is_marked b ≡ false → b ≢ 92
not-backslash b e f = let g : nat_eq b 92 ≡ false = (or_parts _ _ e).1 in true≢false (sym (eq-eqb b 92 f) ∙ g)

heads : {a b : ℕ} {xs ys : List ℕ} → a ∷ xs ≡ b ∷ ys → a ≡ b
heads e = cc

tails : {a b : ℕ} {xs ys : List ℕ} → a ∷ xs ≡ b ∷ ys → xs ≡ ys
tails e = cc

-- a byte in quotes is no closing quote
quote-ends : (t : Bool) (b : ℕ) (rest end : List ℕ) → is_marked b ≡ t → one t b rest ≢ single_quote ∷ end
quote-ends true b rest end e f = true≢false (sym (eq-eqb 92 39 (heads f)))
quote-ends false b rest end e f = not-quote b e (heads f)

same-one : (s t : Bool) (a b : ℕ) (xs ys : List ℕ) → is_marked a ≡ s → is_marked b ≡ t → one s a xs ≡ one t b ys → (a ≡ b) × (xs ≡ ys)
same-one true true a b xs ys e f g = (heads (tails g), tails (tails g))
same-one false false a b xs ys e f g = (heads g, tails g)
same-one true false a b xs ys e f g = absurd (not-backslash b f (sym (heads g)))
same-one false true a b xs ys e f g = absurd (not-backslash a e (heads g))

inside-injective : (xs ys : List ℕ) → inside xs ≡ inside ys → xs ≡ ys
inside-injective [] [] e = refl
inside-injective [] (b ∷ bs) e = absurd (quote-ends (is_marked b) b (inside bs) [] refl (sym (inside-cons b bs) ∙ sym e))
inside-injective (a ∷ xs) [] e = absurd (quote-ends (is_marked a) a (inside xs) [] refl (sym (inside-cons a xs) ∙ e))
inside-injective (a ∷ xs) (b ∷ ys) e =
    let h = same-one (is_marked a) (is_marked b) a b (inside xs) (inside ys) refl refl (sym (inside-cons a xs) ∙ (e ∙ inside-cons b ys)) in
    ap (λ x. x ∷ xs) h.0 ∙ ap (λ zs. b ∷ zs) (inside-injective xs ys h.1)

quotes-injective : (a b : List ℕ) → in_quotes a ≡ in_quotes b → a ≡ b
unfolding in_quotes
quotes-injective a b e = inside-injective a b (tails e)

lower-no-quote : (bytes end : List ℕ) → is_lower_word bytes ≡ true → bytes ≢ single_quote ∷ end
unfolding is_lower_word is_lower
lower-no-quote bytes end e f = let g : is_lower_word (single_quote ∷ end) ≡ true = subst (λ x. is_lower_word x ≡ true) f e in cc

lower-quote : (bytes end : List ℕ) → IsWord is_lower bytes → bytes ≢ single_quote ∷ end
unfolding is_lower
lower-quote bytes end h f = let g : IsWord is_lower (single_quote ∷ end) = subst (IsWord is_lower) f h in true≢false (sym g.0)

-- atoms have different texts
pub atom-injective : (a b : List ℕ) → atom_text a ≡ atom_text b → a ≡ b
unfolding atom_text in_quotes
atom-injective a b e = by (is_lower_word a) (is_lower_word b) refl refl e
  where
    by : (s t : Bool) → is_lower_word a ≡ s → is_lower_word b ≡ t → cond s a (in_quotes a) ≡ cond t b (in_quotes b) → a ≡ b
    by true true f g h = h
    by false false f g h = quotes-injective a b h
    by true false f g h = absurd (lower-no-quote a _ f h)
    by false true f g h = absurd (lower-no-quote b _ g (sym h))

lower-first : (w : List ℕ) → IsWord is_lower w → has_first begins_name w ≡ true
lower-first [] h = absurd h
lower-first (b ∷ bs) h = ap (λ t. t || nat_eq b single_quote) h.0

-- ---- the atoms that are found

-- the first atom whose number passes a test
abbrev first_atom : (ℕ → Bool) → List (List ℕ × ℕ) → Option (List ℕ)
first_atom test [] = None
first_atom test (p ∷ ps) = cond (test p.1) (Some p.0) (first_atom test ps)

base-first : (c : Contents) (b : ℕ) (ps : List (List ℕ × ℕ)) → base_atom b (map (type_entry c) ps) ≡ first_atom (λ n. is_base b (type_at c n)) ps
base-first c b [] = refl
base-first c b (p ∷ ps) = ap (cond (is_base b (type_at c p.1)) (Some p.0)) (base-first c b ps)

symbol-first : (c : Contents) (s : ℕ) (ps : List (List ℕ × ℕ)) → symbol_atom s (map (constant_entry c) ps) ≡ first_atom (λ n. nat_eq n s) ps
symbol-first c s [] = refl
symbol-first c s (p ∷ ps) = ap (cond (nat_eq p.1 s) (Some p.0)) (symbol-first c s ps)

record Found (test : ℕ → Bool) (ps : List (List ℕ × ℕ)) : Type 0 where
  atom : List ℕ
  number : ℕ
  first : first_atom test ps ≡ Some atom
  stands : named atom ps ≡ Some number
  passes : test number ≡ true

same-bytes : (bs : List ℕ) → bytes_eq bs bs ≡ true
same-bytes bs = (bytes_eq-Decides bs bs).1 refl

some-none : {A : Type 0} {x : A} → Some x ≢ None
some-none e = cc

-- an atom that stands further on is not the first
not-first : (a b : List ℕ) (n : ℕ) (ps : List (List ℕ × ℕ)) → named a ps ≡ Some n → named b ps ≡ None → bytes_eq a b ≡ false
not-first a b n ps e f = by (bytes_eq a b) refl
  where
    by : (t : Bool) → bytes_eq a b ≡ t → t ≡ false
    by false g = refl
    by true g = absurd (some-none (sym e ∙ (ap (λ x. named x ps) ((bytes_eq-Decides a b).0 g) ∙ f)))

found : (test : ℕ → Bool) (ps : List (List ℕ × ℕ)) → AreDistinct ps → list_any (λ e. test e.1) ps ≡ true → Found test ps
found test [] h e = absurd (true≢false (sym e))
found test (p ∷ ps) h e = by (test p.1) refl e (found test ps h.1)
  where
    others : Bool
    others = list_any (λ e. test e.1) ps

    here : {t : Bool} → test p.1 ≡ t → first_atom test (p ∷ ps) ≡ cond t (Some p.0) (first_atom test ps)
    here f = ap (λ t. cond t (Some p.0) (first_atom test ps)) f

    by : (t : Bool) → test p.1 ≡ t → (t || others) ≡ true → (others ≡ true → Found test ps) → Found test (p ∷ ps)
    by true f g more = record { atom = p.0; number = p.1; first = here f; stands = ap (λ t. cond t (Some p.1) (named p.0 ps)) (same-bytes p.0); passes = f }
    by false f g more =
        let m = more g in
        record {
          atom = m.atom;
          number = m.number;
          first = here f ∙ m.first;
          stands = ap (λ t. cond t (Some p.1) (named m.atom ps)) (not-first m.atom p.0 m.number ps m.stands h.0) ∙ m.stands;
          passes = m.passes;
        }

same-some : {A : Type 0} {x y : A} → Some x ≡ Some y → x ≡ y
same-some e = cc

-- atoms with one text are one atom, and have one number
same-found : (test other : ℕ → Bool) (ps : List (List ℕ × ℕ)) (f : Found test ps) (g : Found other ps) → word_of (first_atom test ps) ≡ word_of (first_atom other ps) → f.number ≡ g.number
same-found test other ps f g e =
    let texts : atom_text f.atom ≡ atom_text g.atom = sym (ap word_of f.first) ∙ (e ∙ ap word_of g.first) in
    let atoms = atom-injective f.atom g.atom texts in
    same-some (sym f.stands ∙ (ap (λ a. named a ps) atoms ∙ g.stands))

-- ---- base types

is-base : (b : ℕ) (a : SimpleType) → is_base b a ≡ true → a ≡ base b
is-base b (base n) e = ap base (eqb-true n b e)
is-base b (arrow x y) e = absurd (true≢false (sym e))

base-number : {a b : ℕ} → base a ≡ base b → a ≡ b
base-number e = cc

-- an atom's text has no `$` in front
text-first : (atom : List ℕ) → has_first begins_name (atom_text atom) ≡ true
unfolding atom_text in_quotes is_lower
text-first atom = by (is_lower_word atom) refl
  where
    by : (t : Bool) → is_lower_word atom ≡ t → has_first begins_name (cond t atom (in_quotes atom)) ≡ true
    by true e = lower-first atom (lower-word atom e)
    by false e = refl

dollar-first : (atom rest : List ℕ) → atom_text atom ≢ 36 ∷ rest
unfolding is_lower
dollar-first atom rest e = true≢false (sym (text-first atom) ∙ ap (has_first begins_name) e)

-- the word of a base type: `$o`, `$i`, or the text of an atom
data IsBaseWord (c : Contents) (types : List (List ℕ × ℕ)) (b : ℕ) (w : List ℕ) : Type 0 where
  truth_word : b ≡ 0 → w ≡ codes "$o" → IsBaseWord c types b w
  thing_word : b ≡ 1 → w ≡ codes "$i" → IsBaseWord c types b w
  other_word : Found (λ n. is_base b (type_at c n)) types → w ≡ word_of (first_atom (λ n. is_base b (type_at c n)) types) → IsBaseWord c types b w

base-word : (c : Contents) (types : List (List ℕ × ℕ)) → AreDistinct types → (b : ℕ) → (nat_eq b 0 || (nat_eq b 1 || list_any (λ e. is_base b (type_at c e.1)) types)) ≡ true
    → IsBaseWord c types b (base_word_by (λ k. word_of (base_atom k (map (type_entry c) types))) b)
base-word c types h b e = by (nat_eq b 0) (nat_eq b 1) refl refl e
  where
    others : Bool
    others = list_any (λ e. is_base b (type_at c e.1)) types

    by : (s t : Bool) → nat_eq b 0 ≡ s → nat_eq b 1 ≡ t → (s || (t || others)) ≡ true
        → IsBaseWord c types b (cond s (codes "$o") (cond t (codes "$i") (word_of (base_atom b (map (type_entry c) types)))))
    by true t f g k = truth_word (eqb-true b 0 f) refl
    by false true f g k = thing_word (eqb-true b 1 g) refl
    by false false f g k = other_word (found (λ n. is_base b (type_at c n)) types h k) (ap word_of (base-first c b types))

found-text : (test : ℕ → Bool) (ps : List (List ℕ × ℕ)) (f : Found test ps) → word_of (first_atom test ps) ≡ atom_text f.atom
found-text test ps f = ap word_of f.first

no-dollar : (test : ℕ → Bool) (ps : List (List ℕ × ℕ)) (w rest : List ℕ) → Found test ps → w ≡ word_of (first_atom test ps) → w ≢ 36 ∷ rest
no-dollar test ps w rest f e g = dollar-first f.atom rest (sym (found-text test ps f) ∙ (sym e ∙ g))

truth-thing : codes "$o" ≢ codes "$i"
truth-thing e = true≢false (sym (eq-eqb 111 105 (heads (tails e))))

same-base : (c : Contents) (types : List (List ℕ × ℕ)) (a b : ℕ) (v w : List ℕ) → IsBaseWord c types a v → IsBaseWord c types b w → v ≡ w → a ≡ b
same-base c types a b v w (truth_word i e) (truth_word j f) g = i ∙ sym j
same-base c types a b v w (truth_word i e) (thing_word j f) g = absurd (truth-thing (sym e ∙ (g ∙ f)))
same-base c types a b v w (truth_word i e) (other_word j f) g = absurd (no-dollar _ types w (codes "o") j f (sym g ∙ e))
same-base c types a b v w (thing_word i e) (truth_word j f) g = absurd (truth-thing (sym f ∙ (sym g ∙ e)))
same-base c types a b v w (thing_word i e) (thing_word j f) g = i ∙ sym j
same-base c types a b v w (thing_word i e) (other_word j f) g = absurd (no-dollar _ types w (codes "i") j f (sym g ∙ e))
same-base c types a b v w (other_word i e) (truth_word j f) g = absurd (no-dollar _ types v (codes "o") i e (g ∙ f))
same-base c types a b v w (other_word i e) (thing_word j f) g = absurd (no-dollar _ types v (codes "i") i e (g ∙ f))
same-base c types a b v w (other_word i e) (other_word j f) g =
    let n = same-found (λ n. is_base a (type_at c n)) (λ n. is_base b (type_at c n)) types i j (sym e ∙ (g ∙ f)) in
    base-number (sym (is-base a (type_at c i.number) i.passes) ∙ (ap (type_at c) n ∙ is-base b (type_at c j.number) j.passes))

-- two base types with names have different words
pub base_words_differ : (p : Problem) → HasDistinctAtoms p → (a b : ℕ) → is_named_base p a ≡ true → is_named_base p b ≡ true → (words_of p).base_word a ≡ (words_of p).base_word b → a ≡ b
base_words_differ p h a b j k e = same-base p.bank p.names.types a b _ _ (base-word p.bank p.names.types h.types a j) (base-word p.bank p.names.types h.types b k) e

base-first-byte : (c : Contents) (types : List (List ℕ × ℕ)) (b : ℕ) (w : List ℕ) → IsBaseWord c types b w → has_first (λ x. begins_name x || nat_eq x 36) w ≡ true
unfolding is_lower
base-first-byte c types b w (truth_word i e) = rw e refl
base-first-byte c types b w (thing_word i e) = rw e refl
base-first-byte c types b w (other_word f e) = rw (e ∙ found-text _ types f) (first-or (atom_text f.atom) (text-first f.atom))
  where
    first-or : (x : List ℕ) → has_first begins_name x ≡ true → has_first (λ y. begins_name y || nat_eq y 36) x ≡ true
    first-or [] g = absurd (true≢false (sym g))
    first-or (x ∷ xs) g = ap (λ t. t || nat_eq x 36) g

-- and none of them is a bracket
pub base-no-bracket : (p : Problem) → HasDistinctAtoms p → (b : ℕ) → is_named_base p b ≡ true → (words_of p).base_word b ≢ codes "("
unfolding is_lower
base-no-bracket p h b k e =
    let f = base-first-byte p.bank p.names.types b _ (base-word p.bank p.names.types h.types b k) in
    true≢false (sym f ∙ ap (has_first (λ x. begins_name x || nat_eq x 36)) e)

-- ---- symbols

-- the word of a symbol: the text of an atom that does not begin as new names do, or one of so many new names
pub data IsNameIn (prefix : List ℕ) (count : ℕ) (w : List ℕ) : Type 0 where
  atom_name : (atom : List ℕ) → starts_with nat_eq atom prefix ≡ false → w ≡ atom_text atom → IsNameIn prefix count w
  new_one : (k : ℕ) → k < count → w ≡ new_name prefix k → IsNameIn prefix count w

name-grow : (prefix : List ℕ) (count : ℕ) (w : List ℕ) → IsNameIn prefix count w → IsNameIn prefix (count + 1) w
name-grow prefix count w (atom_name atom f e) = atom_name atom f e
name-grow prefix count w (new_one k l e) = new_one k (omega (arith, l)) e

starts-itself : (front back : List ℕ) → starts_with nat_eq (front ++ back) front ≡ true
starts-itself [] back = refl
starts-itself (b ∷ bs) back = rw (eq-eqb b b refl) (starts-itself bs back)

-- a new name is no text of such an atom
new-no-atom : (prefix atom : List ℕ) (n : ℕ) → IsWord is_lower prefix → starts_with nat_eq atom prefix ≡ false → atom_text atom ≢ new_name prefix n
unfolding atom_text in_quotes
new-no-atom prefix atom n h f e = by (is_lower_word atom) refl e
  where
    by : (t : Bool) → is_lower_word atom ≡ t → cond t atom (in_quotes atom) ≡ new_name prefix n → ⊥
    by true g k = true≢false (sym (starts-itself prefix (decimal n)) ∙ (ap (λ w. starts_with nat_eq w prefix) (sym k) ∙ f))
    by false g k = lower-quote (new_name prefix n) (flat_map escaped atom ++ single_quote ∷ []) (new-word prefix n h) (sym k)

new-differs : (prefix : List ℕ) (j k : ℕ) → j < 2 ^ 64 → k < 2 ^ 64 → new_name prefix j ≡ new_name prefix k → j ≡ k
new-differs prefix j k l m e = decimal_injective j k l m (append_cancel_left prefix (decimal j) (decimal k) e)

-- the next new name is not in use
next-differs : (prefix w : List ℕ) (count : ℕ) → IsWord is_lower prefix → count < 2 ^ 64 → IsNameIn prefix count w → w ≢ new_name prefix count
next-differs prefix w count h l (atom_name atom f e) g = new-no-atom prefix atom count h f (sym e ∙ g)
next-differs prefix w count h l (new_one k m e) g =
    let same : k ≡ count = new-differs prefix k count (omega (arith, l, m)) l (sym e ∙ g) in
    omega (arith, m, same)

-- such a word is no bracket and no sign
name-readable : (prefix w : List ℕ) (count : ℕ) → IsWord is_lower prefix → IsNameIn prefix count w → IsReadableWord w
name-readable prefix w count h (atom_name atom f e) = record { begins = rw e (text-first atom) }
name-readable prefix w count h (new_one k l e) = record { begins = rw e (lower-first (new_name prefix k) (new-word prefix k h)) }

-- what is known of the words of symbols before a line
pub record AreToldApart (p : Problem) (introduced : List ℕ) (v : Vocabulary) : Type 0 where
  pub bases : v.base_word ≡ (words_of p).base_word
  pub prefix : IsWord is_lower v.prefix
  pub names : (s : ℕ) → is_named_symbol p introduced s ≡ true → IsNameIn v.prefix v.introduced (v.symbol_word s)
  pub differ : (s t : ℕ) → is_named_symbol p introduced s ≡ true → is_named_symbol p introduced t ≡ true → v.symbol_word s ≡ v.symbol_word t → s ≡ t

-- two symbols with names have different words
pub symbol_words_differ : (p : Problem) (introduced : List ℕ) (v : Vocabulary) → AreToldApart p introduced v → (s t : ℕ) → is_named_symbol p introduced s ≡ true
    → is_named_symbol p introduced t ≡ true → s ≢ t → v.symbol_word s ≢ v.symbol_word t
symbol_words_differ p introduced v h s t j k n e = n (h.differ s t j k e)

-- and each of them is read as a name
pub symbol-readable : (p : Problem) (introduced : List ℕ) (v : Vocabulary) → AreToldApart p introduced v → (s : ℕ) → is_named_symbol p introduced s ≡ true → IsReadableWord (v.symbol_word s)
symbol-readable p introduced v h s k = name-readable v.prefix (v.symbol_word s) v.introduced h.prefix (h.names s k)

-- the next new name is none of them
pub next-is-new : (p : Problem) (introduced : List ℕ) (v : Vocabulary) → AreToldApart p introduced v → v.introduced < 2 ^ 64 → (s : ℕ) → is_named_symbol p introduced s ≡ true
    → v.symbol_word s ≢ new_name v.prefix v.introduced
next-is-new p introduced v h l s k = next-differs v.prefix (v.symbol_word s) v.introduced h.prefix l (h.names s k)

-- ---- the words of a problem

free-atom : (c : Contents) (prefix : List ℕ) (test : ℕ → Bool) (ps : List (List ℕ × ℕ)) (atom : List ℕ) → IsFree prefix (map (constant_entry c) ps) → first_atom test ps ≡ Some atom
    → starts_with nat_eq atom prefix ≡ false
free-atom c prefix test [] atom h e = absurd (some-none (sym e))
free-atom c prefix test (p ∷ ps) atom h e = by (test p.1) e (free-atom c prefix test ps atom h.1)
  where
    by : (t : Bool) → cond t (Some p.0) (first_atom test ps) ≡ Some atom → (first_atom test ps ≡ Some atom → starts_with nat_eq atom prefix ≡ false) → starts_with nat_eq atom prefix ≡ false
    by true f more = rw (← same-some f) h.0
    by false f more = more f

symbol-found : (p : Problem) → HasDistinctAtoms p → (s : ℕ) → is_named_symbol p [] s ≡ true → Found (λ n. nat_eq n s) p.names.constants
symbol-found p h s k = found (λ n. nat_eq n s) p.names.constants h.constants k

symbol-word : (p : Problem) (s : ℕ) → (words_of p).symbol_word s ≡ word_of (first_atom (λ n. nat_eq n s) p.names.constants)
symbol-word p s = ap word_of (symbol-first p.bank s p.names.constants)

pub words-apart : (p : Problem) → HasDistinctAtoms p → AreToldApart p [] (words_of p)
words-apart p h = record {
  bases = refl;
  prefix = prefix-word _;
  names = λ s k.
      let f = symbol-found p h s k in
      atom_name f.atom (free-atom p.bank (new_prefix (declared_in p.bank p.names)) _ p.names.constants f.atom (first-free (declared_in p.bank p.names)).no_constant f.first) (symbol-word p s ∙ found-text _ p.names.constants f);
  differ = λ s t j k e.
      let f = symbol-found p h s j in
      let g = symbol-found p h t k in
      let n = same-found (λ i. nat_eq i s) (λ i. nat_eq i t) p.names.constants f g (sym (symbol-word p s) ∙ (e ∙ symbol-word p t)) in
      sym (eqb-true f.number s f.passes) ∙ (n ∙ eqb-true g.number t g.passes);
}

-- ---- and behind a line

was-named : (p : Problem) (introduced : List ℕ) (s k : ℕ) → nat_eq s k ≡ false → is_named_symbol p (s ∷ introduced) k ≡ true → is_named_symbol p introduced k ≡ true
was-named p introduced s k f e = rw (eqb-turn s k f) at e

new-apart : (p : Problem) (introduced : List ℕ) (v : Vocabulary) (s : ℕ) → v.introduced < 2 ^ 64 → AreToldApart p introduced v → AreToldApart p (s ∷ introduced) (with_symbol v s)
new-apart p introduced v s l h = record {
  bases = h.bases;
  prefix = h.prefix;
  names = λ k e. name k (nat_eq s k) refl e;
  differ = λ j k e f g. same-word j k (nat_eq s j) (nat_eq s k) refl refl e f g;
}
  where
    new : List ℕ
    new = new_name v.prefix v.introduced

    name : (k : ℕ) (t : Bool) → nat_eq s k ≡ t → is_named_symbol p (s ∷ introduced) k ≡ true → IsNameIn v.prefix (v.introduced + 1) (cond t new (v.symbol_word k))
    name k true f e = new_one v.introduced (omega arith) refl
    name k false f e = name-grow v.prefix v.introduced (v.symbol_word k) (h.names k (was-named p introduced s k f e))

    same-word : (j k : ℕ) (t u : Bool) → nat_eq s j ≡ t → nat_eq s k ≡ u → is_named_symbol p (s ∷ introduced) j ≡ true → is_named_symbol p (s ∷ introduced) k ≡ true
        → cond t new (v.symbol_word j) ≡ cond u new (v.symbol_word k) → j ≡ k
    same-word j k true true f g d e i = sym (eqb-true s j f) ∙ eqb-true s k g
    same-word j k true false f g d e i = absurd (next-is-new p introduced v h l k (was-named p introduced s k g e) (sym i))
    same-word j k false true f g d e i = absurd (next-is-new p introduced v h l j (was-named p introduced s j f d) i)
    same-word j k false false f g d e i = h.differ j k (was-named p introduced s j f d) (was-named p introduced s k g e) i

-- the words behind a line are told apart, as long as the new names have different numbers
pub line-apart : (p : Problem) (introduced : List ℕ) (v : Vocabulary) (r : StepRule) → v.introduced < 2 ^ 64 → AreToldApart p introduced v
    → AreToldApart p (with_introduced introduced r) (with_rule v r)
line-apart p introduced v (abbreviate s) l h = new-apart p introduced v s l h
line-apart p introduced v (assume a) l h = h
line-apart p introduced v (convert q) l h = h
line-apart p introduced v (inst q sigma) l h = h
line-apart p introduced v (para q i s r j side path) l h = h
line-apart p introduced v (arrange q) l h = h
line-apart p introduced v (drop_literal q i) l h = h
line-apart p introduced v (take_apart q i kind a) l h = h
line-apart p introduced v (bool_ext q i half) l h = h
line-apart p introduced v (func_ext q i a) l h = h
line-apart p introduced v (decompose q i) l h = h
line-apart p introduced v reflexivity l h = h
line-apart p introduced v choose l h = h
line-apart p introduced v (factor q i j) l h = h

-- ---- what a readable word is not

pub readable-differs : (w : List ℕ) (b : ℕ) (bs : List ℕ) → IsReadableWord w → begins_name b ≡ false → w ≢ b ∷ bs
readable-differs w b bs h f e = true≢false (sym h.begins ∙ (ap (has_first begins_name) e ∙ f))

readable-test : (w : List ℕ) (b : ℕ) (bs : List ℕ) → IsReadableWord w → begins_name b ≡ false → bytes_eq w (b ∷ bs) ≡ false
readable-test w b bs h f = by (bytes_eq w (b ∷ bs)) refl
  where
    by : (t : Bool) → bytes_eq w (b ∷ bs) ≡ t → t ≡ false
    by false e = refl
    by true e = absurd (readable-differs w b bs h f ((bytes_eq-Decides w (b ∷ bs)).0 e))

pub readable-no-bracket : (w : List ℕ) → IsReadableWord w → w ≢ codes "("
unfolding is_lower
readable-no-bracket w h = readable-differs w 40 [] h refl

pub readable-no-dollar : (w bs : List ℕ) → IsReadableWord w → w ≢ 36 ∷ bs
unfolding is_lower
readable-no-dollar w bs h = readable-differs w 36 bs h refl

pub readable-no-variable : (w bs : List ℕ) → IsReadableWord w → w ≢ 88 ∷ bs
unfolding is_lower
readable-no-variable w bs h = readable-differs w 88 bs h refl

pub readable-no-bound : (w bs : List ℕ) → IsReadableWord w → w ≢ 89 ∷ bs
unfolding is_lower
readable-no-bound w bs h = readable-differs w 89 bs h refl

-- behind a bracket it opens a term
pub readable-opening : (w : List ℕ) → IsReadableWord w → opening w ≡ Other
unfolding is_lower
readable-opening w h =
    rw (
      readable-test w 94 [] h refl,
      readable-test w 33 [] h refl,
      readable-test w 63 [] h refl,
      readable-test w 64 (codes "+") h refl,
      readable-test w 33 (codes "!") h refl,
      readable-test w 63 (codes "?") h refl,
      readable-test w 64 (codes "@+") h refl,
      readable-test w 126 [] h refl,
    ) refl
