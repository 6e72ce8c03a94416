-- Lists, written item by item.
use Rattle.std.proofs.Common.{◌≡◌, ℕ, ◌+◌, ◌<◌, ◌≤◌, ◌⊎◌, List, [], ◌∷◌, ◌++◌, length, drop, map, get_or, refl, ap, sym, ◌∙◌, append_assoc, append-nil, add-one, arith, inl, inr}
use Rattle.std.specs.Prelude.{codes, Bool, true, false, nat_le}
use Rattle.std.proofs.lemmas.Bool.Decides.{nat_tests}
use Rattle.leo_syntax.specs.declared.tree.Tree.{Tree}
use Rattle.leo_syntax.specs.declared.writing.Place.{Place}
use Rattle.leo_syntax.specs.declared.writing.Place.TheVariants.{Item}
use Rattle.leo_syntax.specs.Texts.{word, character, escaped, writer, written, arguments_written}
use Rattle.std.proofs.Math.Seq.{drop-cons}
use Rattle.std.proofs.Math.ListN.{drop_of_length-le}

-- What is written from an item on is the item and what is written behind it.
pub written_step : {A : Type 0} (write : List A → List ℕ) (item : A → List ℕ) → ((x : A) (xs : List A) → write (x ∷ xs) ≡ item x ++ write xs)
    → (list : List A) (i : ℕ) (d : A) (out whole : List ℕ) → i < length list → out ++ write (drop i list) ≡ whole → (out ++ item (get_or list i d)) ++ write (drop (i + 1) list) ≡ whole
written_step write item each list i d out whole h k =
    append_assoc out (item (get_or list i d)) (write (drop (i + 1) list))
    ∙ ap (λ x. out ++ x) (sym (ap write (drop-cons list i d h ∙ rw add-one refl) ∙ each (get_or list i d) (drop (i + 1) list))) ∙ k

pub written_end : {A : Type 0} (write : List A → List ℕ) → write [] ≡ [] → (list : List A) (i : ℕ) (out whole : List ℕ) → length list ≤ i → out ++ write (drop i list) ≡ whole → out ≡ whole
written_end write none list i out whole h k = sym (append-nil out) ∙ ap (λ x. out ++ x) (sym (ap write (drop_of_length-le list h) ∙ none)) ∙ k

pub escaped_next : (content out whole : List ℕ) (i : ℕ) → i < length content → out ++ escaped (drop i content) ≡ whole → (out ++ character (get_or content i 0)) ++ escaped (drop (i + 1) content) ≡ whole
unfolding escaped
escaped_next content out whole i h k = written_step escaped character (λ x xs. refl) content i 0 out whole h k

pub escaped_end : (content out whole : List ℕ) (i : ℕ) → length content ≤ i → out ++ escaped (drop i content) ≡ whole → out ≡ whole
unfolding escaped
escaped_end content out whole i h k = written_end escaped refl content i out whole h k

-- items with a word before each
pub listed_next : {A : Type 0} (write : List A → List ℕ) (item : A → List ℕ) (mark : List ℕ) → ((x : A) (xs : List A) → write (x ∷ xs) ≡ mark ++ (item x ++ write xs))
    → (list : List A) (i : ℕ) (d : A) (out whole : List ℕ) → i < length list → out ++ write (drop i list) ≡ whole → ((out ++ mark) ++ item (get_or list i d)) ++ write (drop (i + 1) list) ≡ whole
listed_next write item mark each list i d out whole h k =
    append_assoc (out ++ mark) (item (get_or list i d)) (write (drop (i + 1) list))
    ∙ append_assoc out mark (item (get_or list i d) ++ write (drop (i + 1) list))
    ∙ ap (λ x. out ++ x) (sym (ap write (drop-cons list i d h ∙ rw add-one refl) ∙ each (get_or list i d) (drop (i + 1) list))) ∙ k

-- ---- arguments

drop_next : (list : List Tree) (i : ℕ) (d : Tree) → i < length list → drop i list ≡ get_or list i d ∷ drop (i + 1) list
drop_next list i d h = rw add-one (drop-cons list i d h)

le_or : (m n : ℕ) → (n ≤ m) ⊎ (m < n)
le_or m n = by (nat_le n m) refl
  where
    by : (b : Bool) → nat_le n m ≡ b → (n ≤ m) ⊎ (m < n)
    by true e = inl (grind (arith, nat_tests))
    by false e = inr (grind (arith, nat_tests))

abbrev place_before : Place → List Tree → Place
place_before end [] = end
place_before end (_ ∷ _) = Item

argument_first : (end : Place) (x : Tree) (xs : List Tree) → arguments_written end (map writer (x ∷ xs)) ≡ word (codes "@") ++ (written (place_before end xs) x ++ arguments_written end (map writer xs))
argument_first end x [] = refl
argument_first end x (y ∷ ys) = refl

place_is : (end p : Place) (list : List Tree) (i : ℕ) (d : Tree) → i < length list → (i + 1 ≡ length list → p ≡ end) → (i + 1 < length list → p ≡ Item) → p ≡ place_before end (drop (i + 1) list)
place_is end p list i d h one others = elim (le_or (i + 1) (length list)) [
  | inl e ↦ rw (drop_of_length-le list e) (one (omega (arith, e, h)))
  | inr l ↦ rw (drop-cons list (i + 1) d l) (others l)
]

pub argument_next : (end p : Place) (list : List Tree) (i : ℕ) (x : Tree) (out whole : List ℕ) → i < length list → x ≡ get_or list i x → (i + 1 ≡ length list → p ≡ end) → (i + 1 < length list → p ≡ Item) → out ++ arguments_written end (map writer (drop i list)) ≡ whole
    → ((out ++ word (codes "@")) ++ written p x) ++ arguments_written end (map writer (drop (i + 1) list)) ≡ whole
argument_next end p list i x out whole h e one others k =
    let xs = drop (i + 1) list in
    append_assoc (out ++ word (codes "@")) (written p x) (arguments_written end (map writer xs))
    ∙ append_assoc out (word (codes "@")) (written p x ++ arguments_written end (map writer xs))
    ∙ ap (λ q. out ++ (word (codes "@") ++ (written q x ++ arguments_written end (map writer xs)))) (place_is end p list i x h one others)
    ∙ ap (λ y. out ++ y) (sym (ap (λ ys. arguments_written end (map writer ys)) (drop_next list i x h ∙ ap (λ y. y ∷ xs) (sym e)) ∙ argument_first end x xs)) ∙ k

pub argument_end : (end : Place) (list : List Tree) (i : ℕ) (out whole : List ℕ) → length list ≤ i → out ++ arguments_written end (map writer (drop i list)) ≡ whole → out ≡ whole
argument_end end list i out whole h k = written_end (λ xs. arguments_written end (map writer xs)) refl list i out whole h k
