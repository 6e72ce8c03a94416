-- What is appended for each of a list.
use Rattle.std.proofs.Common.{ℕ, zero, suc, ◌≡◌, ◌∙◌, ◌+◌, ◌<◌, ◌≤◌, Bool, true, false, ◌&&◌, List, [], ◌∷◌, ◌++◌, append_assoc, length, map, take, slice_index_or, refl, sym, ap, arith}
use Rattle.std.proofs.lemmas.List.{append-nil, map-append, take_all, take_more}
use Rattle.std.specs.List.{flat_map}
use Rattle.leo_terms.specs.Tree.{Tree}
use Rattle.leo_terms.specs.Contents.{Contents, Extends, tree_at}
use Rattle.leo_clause.specs.declared.clause.Lit.{Lit}
use Rattle.leo_clause.specs.declared.record.Side.{Side}
use Rattle.leo_clause.specs.declared.record.Side.TheVariants.{Left, Right}
use Rattle.leo_clause.specs.Trees.{Literal, literal_at}
use Rattle.leo_clause.specs.Typed.{AreLiteralsOf}
use Rattle.leo_kernel.specs.ByNumber.{side_number}
use Rattle.leo_kernel.specs.Shapes.{side_of}
use Rattle.leo_para.specs.declared.spots.Spot.{Spot}
use Rattle.leo_para.specs.Reading.{AreSpotsOf}
use Rattle.leo_para.specs.Spines.{Top, head, heads_meet, is_whole, top, tops_meet}
use Rattle.leo_kernel.proofs.Growing.{lits-kept}
use Rattle.leo_para.specs.Members.{each_literal, members_of_equation}

whole-is : (path : List ℕ) (r : Bool) → (r ≡ true → path ≡ []) × (path ≡ [] → r ≡ true) → r ≡ is_whole path
whole-is [] r h = h.1 refl
whole-is (n ∷ path) true h = (let f : n ∷ path ≡ [] = h.0 refl in let g : ⊥ = cc in absurd g)
whole-is (n ∷ path) false h = refl

-- heads meet, and the types are compared
pub met : (path : List ℕ) (s t : Tree) (x y : Top) (whole r q types : Bool) → x ≡ top (head s) → y ≡ top (head t) → (whole ≡ true → path ≡ []) × (path ≡ [] → whole ≡ true) → r ≡ tops_meet whole x y → r ≡ true → q ≡ types → q ≡ (heads_meet path s t && types)
met path s t x y whole r q types e f g h k l =
    let w : whole ≡ is_whole path = whole-is path whole g in
    let m : heads_meet path s t ≡ true = rw (← e, ← f, ← w) (sym h ∙ k) in
    l ∙ rw m refl

flat_map-last : {X Y : Type 0} (f : X → List Y) (xs : List X) (x : X) → flat_map f (xs ++ x ∷ []) ≡ flat_map f xs ++ f x
flat_map-last f [] x = append-nil (f x)
flat_map-last f (y ∷ xs) x = ap (λ (zs : List _). f y ++ zs) (flat_map-last f xs x) ∙ sym (append_assoc (f y) (flat_map f xs) (f x))

-- one more of a list that is gone through
pub flat_map-next : {X Y Z : Type 0} (read : X → Z) (f : Z → List Y) (xs : List X) (i : ℕ) (x : X) (start old new : List Y) → old ≡ start ++ flat_map f (map read (take i xs)) → i < length xs → x ≡ slice_index_or xs i x → new ≡ old ++ f (read x) → new ≡ start ++ flat_map f (map read (take (i + 1) xs))
flat_map-next read f xs i x start old new h l e g =
    let t : take (i + 1) xs ≡ take i xs ++ x ∷ [] = take_more xs i x l ∙ ap (λ z. take i xs ++ z ∷ []) (sym e) in
    let u : map read (take (i + 1) xs) ≡ map read (take i xs) ++ read x ∷ [] = ap (map read) t ∙ map-append read (take i xs) (x ∷ []) in
    g ∙ ap (λ (zs : List _). zs ++ f (read x)) h ∙ append_assoc start (flat_map f (map read (take i xs))) (f (read x)) ∙
    ap (λ (zs : List _). start ++ zs) (sym (ap (flat_map f) u ∙ flat_map-last f (map read (take i xs)) (read x)))

pub flat_map-whole : {X Y Z : Type 0} (read : X → Z) (f : Z → List Y) (xs : List X) (zs : List Z) (i : ℕ) (start new : List Y) → map read xs ≡ zs → length xs ≤ i → new ≡ start ++ flat_map f (map read (take i xs)) → new ≡ start ++ flat_map f zs
flat_map-whole read f xs zs i start new e l h = h ∙ rw (take_all i xs l, e) refl

each-last : {Y : Type 0} (give : ℕ → Literal → List Y) (n m : ℕ) (ls : List Literal) (l : Literal) → m ≡ n + length ls → each_literal give n (ls ++ l ∷ []) ≡ each_literal give n ls ++ give m l
each-last give n m [] l e = let f : m ≡ n = omega arith in rw f (append-nil (give n l))
each-last give n m (k ∷ ls) l e = ap (λ (zs : List _). give n k ++ zs) (each-last give (suc n) m ls l (omega arith)) ∙ sym (append_assoc (give n k) (each_literal give (suc n) ls) (give m l))

length-front : {X : Type 0} (xs : List X) (i : ℕ) → i < length xs → length (take i xs) ≡ i
length-front [] i l = absurd (omega arith)
length-front (x ∷ xs) zero l = refl
length-front (x ∷ xs) (suc i) l = ap suc (length-front xs i (omega arith))

-- the same of literals with their numbers
pub each-next : {X Y : Type 0} (read : X → Literal) (give : ℕ → Literal → List Y) (xs : List X) (i : ℕ) (x : X) (start old new : List Y) → old ≡ start ++ each_literal give 0 (map read (take i xs)) → i < length xs → x ≡ slice_index_or xs i x → new ≡ old ++ give i (read x) → new ≡ start ++ each_literal give 0 (map read (take (i + 1) xs))
each-next read give xs i x start old new h l e g =
    let t : take (i + 1) xs ≡ take i xs ++ x ∷ [] = take_more xs i x l ∙ ap (λ z. take i xs ++ z ∷ []) (sym e) in
    let u : map read (take (i + 1) xs) ≡ map read (take i xs) ++ read x ∷ [] = ap (map read) t ∙ map-append read (take i xs) (x ∷ []) in
    let n : length (map read (take i xs)) ≡ i = Rattle.std.proofs.lemmas.List.length-map (take i xs) read ∙ length-front xs i l in
    g ∙ ap (λ (zs : List _). zs ++ give i (read x)) h ∙ append_assoc start (each_literal give 0 (map read (take i xs))) (give i (read x)) ∙
    ap (λ (zs : List _). start ++ zs) (sym (ap (each_literal give 0) u ∙ each-last give 0 i (map read (take i xs)) (read x) (omega arith)))

pub each-whole : {X Y : Type 0} (read : X → Literal) (give : ℕ → Literal → List Y) (xs : List X) (i : ℕ) (start new : List Y) → length xs ≤ i → new ≡ start ++ each_literal give 0 (map read (take i xs)) → new ≡ start ++ each_literal give 0 (map read xs)
each-whole read give xs i start new l h = h ∙ rw (take_all i xs l) refl

-- what is appended twice, and not at all
pub twice : {Y : Type 0} (start old new a b : List Y) → old ≡ start ++ a → new ≡ old ++ b → new ≡ start ++ (a ++ (b ++ []))
twice start old new a b e f = f ∙ ap (λ (zs : List _). zs ++ b) e ∙ append_assoc start a b ∙ ap (λ (zs : List _). start ++ (a ++ zs)) (sym (append-nil b))

pub once : {Y : Type 0} (start new a : List Y) → new ≡ start ++ a → new ≡ start ++ (a ++ [])
once start new a e = e ∙ ap (λ (zs : List _). start ++ zs) (sym (append-nil a))

pub nothing : {Y : Type 0} (start : List Y) → start ≡ start ++ []
nothing start = sym (append-nil start)

-- items of lists of a bank
pub spot-within : (c : Contents) (ss : List Spot) → AreSpotsOf c ss → (i : ℕ) (s : Spot) → i < length ss → s ≡ slice_index_or ss i s → s.term < length c.terms
spot-within c [] h i s l e = absurd (omega arith)
spot-within c (x ∷ ss) h zero s l e = rw e h.0
spot-within c (x ∷ ss) h (suc i) s l e = spot-within c ss h.1 i s (omega arith) e

pub lit-within : (c : Contents) (ls : List Lit) → AreLiteralsOf c ls → (i : ℕ) (l : Lit) → i < length ls → l ≡ slice_index_or ls i l → (l.left < length c.terms) × (l.right < length c.terms)
lit-within c [] h i l lt e = absurd (omega arith)
lit-within c (k ∷ ls) h zero l lt e = rw e (h.0, h.1)
lit-within c (k ∷ ls) h (suc i) l lt e = lit-within c ls h.2 i l (omega arith) e

pub side-reads : (c : Contents) (side : Side) (l : Lit) → tree_at c (side_number side l) ≡ side_of side (literal_at c l)
side-reads c Left l = refl
side-reads c Right l = refl

-- due members in a bank that grew
pub due-kept : {c d : Contents} → Extends c d → (source target : List Lit) → AreLiteralsOf c source → AreLiteralsOf c target → each_literal (members_of_equation (map (literal_at d) target)) 0 (map (literal_at d) source) ≡ each_literal (members_of_equation (map (literal_at c) target)) 0 (map (literal_at c) source)
due-kept e source target h k = rw (lits-kept e source h, lits-kept e target k) refl
