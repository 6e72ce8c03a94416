-- Terms that are given for variables, one after the other.
use Rattle.std.proofs.Common.{ℕ, zero, suc, nat_eq, ◌≡◌, ◌∙◌, ◌+◌, ◌<◌, ◌≤◌, Bool, true, false, ◌||◌, List, [], ◌∷◌, ◌++◌, length, map, slice_get, slice_index_or, Some, refl, sym, ap, arith, ◌⊎◌, inl, inr}
use Rattle.std.proofs.lemmas.List.{map-append}
use Rattle.std.proofs.lemmas.Option.{slice_get_within}
use Rattle.std.specs.Bool.{if◌then◌else◌}
use Rattle.std.specs.List.{list_any}
use Rattle.leo_q0.specs.Terms.{SimpleType}
use Rattle.leo_terms.specs.Contents.{Contents, Extends, IsTerm, AreTerms, tree_at, type_at}
use Rattle.leo_terms.specs.NormalForm.{normal_form}
use Rattle.leo_terms.specs.Tree.{Tree, variable, bound, symbol, app, lam, logic, absent, type_of, substituted, IsGiven}
use Rattle.leo_terms.proofs.CallerLemmas.{trees-kept, are_terms-kept, type-kept}
use Rattle.leo_terms.proofs.ListLemmas.{slice_get-append}
use Rattle.leo_clause.specs.Arranging.{distinct, firsts, occurring, occurring_in, place_in, renumbered, renumbered_literal, variable_type, numbered}
use Rattle.leo_clause.specs.Renaming.{AreSeen, AreGiven, substituted_literal}
use Rattle.leo_clause.specs.Sameness.{same_literal}
use Rattle.leo_clause.specs.Trees.{Literal, ClauseTree}
use Rattle.leo_clause.specs.Typed.{IsOver, AreTyped, IsTyped, AreTypesOf}
use Rattle.leo_clause.proofs.Renumbered.{AreSeen-parts, placed, typed-firsts, typed-numbered}
use Rattle.leo_clause.proofs.Renaming.{types-at}
use Rattle.leo_clause.proofs.Seen.{AreSeen-met}
use Rattle.leo_clause.specs.Choices.{Choice}
use Rattle.leo_kernel.specs.Conditions.{AreTermsFor}
use Rattle.leo_kernel.specs.Conclusions.{AreAmong}
use Rattle.leo_kernel.specs.ChosenTerms.{renamed}
use Rattle.leo_kernel.specs.Steps.{arrange, inst}
use Rattle.leo_kernel.proofs.ChosenRenaming.{renamed-normal}
use Rattle.leo_kernel.proofs.Lists.{get-index}
use Rattle.leo_clausify.specs.Giving.{AreGivenBy, placed_tree, some_tree}
use Rattle.leo_clausify.specs.Moves.{Descends}
use Rattle.leo_clausify.specs.Splitting.{AreNormal}
use Rattle.leo_clausify.proofs.Branching.{get-map}
use Rattle.leo_clausify.proofs.Origins.{distinct-from, numbered-from, given-from, from-placed_tree}
use Rattle.leo_clausify.proofs.Placing.{same_literal-refl}

-- lists with one item more
at-end : {X : Type 0} (xs : List X) (x : X) → slice_get (xs ++ x ∷ []) (length xs) ≡ Some x
at-end [] x = refl
at-end (y ∷ xs) x = at-end xs x

length-end : {X : Type 0} (xs : List X) (x : X) → length (xs ++ x ∷ []) ≡ length xs + 1
length-end [] x = refl
length-end (y ∷ xs) x = let e = length-end xs x in omega arith

pub length-map : {X Y : Type 0} (f : X → Y) (xs : List X) → length (map f xs) ≡ length xs
length-map f [] = refl
length-map f (x ∷ xs) = ap suc (length-map f xs)

end-only : {X : Type 0} (xs : List X) (x : X) (i : ℕ) (y : X) → slice_get (xs ++ x ∷ []) i ≡ Some y → (slice_get xs i ≡ Some y) ⊎ (x ≡ y)
end-only [] x zero y h = inr (cc)
end-only [] x (suc i) y h = absurd (cc)
end-only (z ∷ xs) x zero y h = inl h
end-only (z ∷ xs) x (suc i) y h = end-only xs x i y h

terms-end : (c : Contents) (ts : List ℕ) (t : ℕ) → AreTerms c ts → t < length c.terms → AreTerms c (ts ++ t ∷ [])
terms-end c ts t h l i u e =
    elim (end-only ts t i u e) [
      | inl g ↦ h i u g
      | inr g ↦ rw (← g) l
    ]

pub given-none : (f : ℕ → SimpleType → Tree) (c : Contents) (vars : List ℕ) → AreGivenBy f c c vars [] 0
given-none f c vars = record {
  count = refl;
  terms = λ i u g. absurd (cc);
  given = λ m a l g. absurd (omega arith);
}

-- one variable more
pub given-next : (f : ℕ → SimpleType → Tree) (old c d : Contents) (vars sigma : List ℕ) (n t a : ℕ) → Extends old c → Extends c d → AreTypesOf old vars → AreGivenBy f old c vars sigma n → n < length vars → a ≡ slice_index_or vars n a → IsTerm d t a (f n (type_at c a)) → AreGivenBy f old d vars (sigma ++ t ∷ []) (n + 1)
given-next f old c d vars sigma n t a e g types r l is m =
    let below : a < length old.types = types-at old vars types n a l is in
    let kept : map (tree_at d) sigma ≡ map (tree_at c) sigma = trees-kept g sigma r.terms in
    let split : map (tree_at d) (sigma ++ t ∷ []) ≡ map (tree_at c) sigma ++ tree_at d t ∷ [] = map-append (tree_at d) sigma (t ∷ []) ∙ ap (λ (xs : List Tree). xs ++ tree_at d t ∷ []) kept in
    let last : slice_get (map (tree_at c) sigma ++ tree_at d t ∷ []) (length (map (tree_at c) sigma)) ≡ Some (tree_at d t) = at-end (map (tree_at c) sigma) (tree_at d t) in
    let size : length (map (tree_at c) sigma) ≡ n = length-map (tree_at c) sigma ∙ r.count in
    let row : slice_get (map (type_at old) vars) n ≡ Some (type_at old a) = get-map (type_at old) vars n a (get-index vars n a l is) in
    let type : type_at c a ≡ type_at old a = type-kept e a below in
    record {
      count = length-end sigma t ∙ ap (λ (k : ℕ). k + 1) r.count;
      terms = terms-end d sigma t (are_terms-kept g sigma r.terms) m.within;
      given = λ k b h j. elim (case_of k n) [
        | inl w ↦ rw split (slice_get-append (map (tree_at c) sigma) (tree_at d t ∷ []) k (f k b) (r.given k b w j))
        | inr w ↦ (
            let v : k ≡ n = (let z = h in omega arith) in
            let s : type_at old a ≡ b = (let u : slice_get (map (type_at old) vars) n ≡ Some b = rw v at j in cc) in
            let y : tree_at d t ≡ f n b = m.reads ∙ ap (f n) (type ∙ s) in
            rw (split, v, ← size) (last ∙ ap Some (rw size y)))
      ];
    }
  where
    case_of : (k n : ℕ) → (k < n) ⊎ (n ≤ k)
    case_of k n = grind arith

-- each variable of these types is given what f says
abbrev pub Gives : (ℕ → SimpleType → Tree) → List SimpleType → List Tree → Type 0
Gives f types given = (n : ℕ) (a : SimpleType) → slice_get types n ≡ Some a → slice_get given n ≡ Some (f n a)

pub given-all : (f : ℕ → SimpleType → Tree) (old new : Contents) (vars sigma : List ℕ) → AreGivenBy f old new vars sigma (length vars) → Gives f (map (type_at old) vars) (map (tree_at new) sigma)
given-all f old new vars sigma r n a e =
    let l : n < length (map (type_at old) vars) = slice_get_within (map (type_at old) vars) n a e in
    let m = length-map (type_at old) vars in
    r.given n a (omega arith) e

-- the terms fit the variables
pub terms-for : (new types : List SimpleType) (given : List Tree) (f : ℕ → SimpleType → Tree) → length given ≡ length types → Gives f types given → ((n : ℕ) (a : SimpleType) → slice_get types n ≡ Some a → (type_of (f n a) ≡ a) × IsOver new 0 (f n a)) → AreTermsFor new types given
terms-for new [] [] f l g h = tt
terms-for new [] (t ∷ given) f l g h = absurd (omega arith)
terms-for new (a ∷ types) [] f l g h = absurd (omega arith)
terms-for new (a ∷ types) (t ∷ given) f l g h =
    let e : t ≡ f 0 a = (let k = g 0 a refl in cc) in
    let p = h 0 a refl in
    (rw e p.0, rw e p.1, terms-for new types given (λ n. f (suc n)) (omega arith) (λ n b k. g (suc n) b k) (λ n b k. h (suc n) b k))

module _ (types : List SimpleType) (given : List Tree) (f : ℕ → SimpleType → Tree) (gives : Gives f types given) (typed : (n : ℕ) (a : SimpleType) → type_of (f n a) ≡ a) where
  pub is-given : (t : Tree) (depth : ℕ) → IsOver types depth t → IsGiven given t
  is-given (variable n a) depth o = rw (gives n a o) (typed n a)
  is-given (bound i a) depth o = tt
  is-given (symbol s a) depth o = tt
  is-given (app g x) depth o = (is-given g depth o.0, is-given x depth o.1)
  is-given (lam a t) depth o = is-given t (depth + 1) o
  is-given (logic c x y) depth o = (is-given x depth o.0, is-given y depth o.1)
  is-given absent depth o = tt

  pub are-given : (ls : List Literal) → AreTyped types ls → AreGiven given ls
  are-given [] h = tt
  are-given (l ∷ ls) h = (is-given l.left 0 h.0.left_over, is-given l.right 0 h.0.right_over, are-given ls h.1)

-- renumbering
placed-type_by : (b : Bool) (p : ℕ) (a : SimpleType) → type_of (if b then variable p a else some_tree a) ≡ a
placed-type_by true p a = refl
placed-type_by false p a = refl

pub placed-type : (order : List ℕ) (n : ℕ) (a : SimpleType) → type_of (placed_tree order n a) ≡ a
placed-type order n a = placed-type_by (list_any (nat_eq n) order) (place_in order n) a

module _ (variables : List SimpleType) (order : List ℕ) where
  placed-over_by : (n : ℕ) (a : SimpleType) → slice_get variables n ≡ Some a → (b : Bool) → list_any (nat_eq n) order ≡ b → IsOver (map (variable_type variables) order) 0 (if b then variable (place_in order n) a else some_tree a)
  placed-over_by n a e true h = (let p : variable_type variables n ≡ a = rw e refl in placed (variable_type variables) order n h ∙ ap Some p)
  placed-over_by n a e false h = ((tt, tt), tt)

  pub placed-over : (n : ℕ) (a : SimpleType) → slice_get variables n ≡ Some a → IsOver (map (variable_type variables) order) 0 (placed_tree order n a)
  placed-over n a e = placed-over_by n a e (list_any (nat_eq n) order) refl

  module _ (given : List Tree) (gives : Gives (placed_tree order) variables given) where
    substituted-placed : (t : Tree) (depth k : ℕ) → IsOver variables depth t → AreSeen order (occurring t) → substituted given k t ≡ renumbered order t
    substituted-placed (variable n a) depth k o h = rw (gives n a o, h.0) refl
    substituted-placed (bound i a) depth k o h = refl
    substituted-placed (symbol s a) depth k o h = refl
    substituted-placed (app g x) depth k o h = let p = AreSeen-parts (occurring g) (occurring x) order h in rw (substituted-placed g depth k o.0 p.0, substituted-placed x depth k o.1 p.1) refl
    substituted-placed (lam a t) depth k o h = ap (lam a) (substituted-placed t (depth + 1) (k + 1) o h)
    substituted-placed (logic c x y) depth k o h = let p = AreSeen-parts (occurring x) (occurring y) order h in rw (substituted-placed x depth k o.0 p.0, substituted-placed y depth k o.1 p.1) refl
    substituted-placed absent depth k o h = refl

    pub literals-placed : (ls : List Literal) → AreTyped variables ls → AreSeen order (occurring_in ls) → map (renumbered_literal order) ls ≡ map (substituted_literal given) ls
    literals-placed [] t h = refl
    literals-placed (l ∷ ls) t h =
        let p = AreSeen-parts (occurring l.left ++ occurring l.right) (occurring_in ls) order h in
        let q = AreSeen-parts (occurring l.left) (occurring l.right) order p.0 in
        rw (substituted-placed l.left 0 0 t.0.left_over q.0, substituted-placed l.right 0 0 t.0.right_over q.1, literals-placed ls t.1 p.1) refl

-- the literals once
firsts-keep_by : (b : Bool) (test : Literal → Bool) (x : Literal) (xs seen : List Literal) → (list_any test seen ≡ true → list_any test (firsts same_literal seen xs) ≡ true) → (list_any test (seen ++ x ∷ []) ≡ true → list_any test (firsts same_literal (seen ++ x ∷ []) xs) ≡ true) → (list_any test seen ≡ true → list_any test (seen ++ x ∷ []) ≡ true) → list_any test seen ≡ true → list_any test (if b then firsts same_literal seen xs else firsts same_literal (seen ++ x ∷ []) xs) ≡ true
firsts-keep_by true test x xs seen p q r h = p h
firsts-keep_by false test x xs seen p q r h = q (r h)

any-first : (test : Literal → Bool) (xs : List Literal) (x : Literal) → list_any test xs ≡ true → list_any test (xs ++ x ∷ []) ≡ true
any-first test [] x h = absurd (cc)
any-first test (y ∷ xs) x h = either (test y) (list_any test xs) (list_any test (xs ++ x ∷ [])) h (any-first test xs x)
  where
    either : (b c d : Bool) → (b || c) ≡ true → (c ≡ true → d ≡ true) → (b || d) ≡ true
    either true c d h f = refl
    either false c d h f = f h

any-last : (test : Literal → Bool) (xs : List Literal) (x : Literal) → test x ≡ true → list_any test (xs ++ x ∷ []) ≡ true
any-last test [] x h = rw h refl
any-last test (y ∷ xs) x h = second (test y) (list_any test (xs ++ x ∷ [])) (any-last test xs x h)
  where
    second : (b c : Bool) → c ≡ true → (b || c) ≡ true
    second true c h = refl
    second false c h = h

firsts-keep : (test : Literal → Bool) (xs seen : List Literal) → list_any test seen ≡ true → list_any test (firsts same_literal seen xs) ≡ true
firsts-keep test [] seen h = h
firsts-keep test (x ∷ xs) seen h = firsts-keep_by (list_any (same_literal x) seen) test x xs seen (firsts-keep test xs seen) (firsts-keep test xs (seen ++ x ∷ [])) (any-first test seen x) h

firsts-among_by : (b : Bool) (x : Literal) (xs seen : List Literal) → list_any (same_literal x) seen ≡ b → AreAmong xs (firsts same_literal seen xs) → AreAmong xs (firsts same_literal (seen ++ x ∷ []) xs) → AreAmong (x ∷ xs) (if b then firsts same_literal seen xs else firsts same_literal (seen ++ x ∷ []) xs)
firsts-among_by true x xs seen e p q = (firsts-keep (same_literal x) xs seen e, p)
firsts-among_by false x xs seen e p q = (firsts-keep (same_literal x) xs (seen ++ x ∷ []) (any-last (same_literal x) seen x (same_literal-refl x)), q)

firsts-among : (xs seen : List Literal) → AreAmong xs (firsts same_literal seen xs)
firsts-among [] seen = tt
firsts-among (x ∷ xs) seen = firsts-among_by (list_any (same_literal x) seen) x xs seen refl (firsts-among xs seen) (firsts-among xs (seen ++ x ∷ []))

pub distinct-follows : (choices : List Choice) (c : ClauseTree) → IsTyped c → Descends choices c (record { clause = record { variables = c.variables; literals = distinct c.literals }; rule = arrange })
distinct-follows choices c typed = record {
  follows = record {
    accepted = λ lines p within is h. record {
      parents = within;
      literals = tt;
      place = tt;
      types = record { clause_typed = typed-firsts same_literal c.variables c.literals [] tt typed; rule_typed = tt };
      symbols = tt;
      shape = rw is (refl, firsts-among c.literals []);
    };
  };
  origin = λ o z h k p. ((h.0, distinct-from o z c.literals h.1), tt);
}

-- the variables numbered as they come
pub numbered-follows : (choices : List Choice) (variables : List SimpleType) (ls : List Literal) (given : List Tree) → AreTyped variables ls → length given ≡ length variables → Gives (placed_tree (firsts nat_eq [] (occurring_in ls))) variables given →
    Descends choices (record { variables = variables; literals = ls }) (record { clause = numbered variables ls; rule = λ p. inst p given })
numbered-follows choices variables ls given typed l gives = record {
  follows = record {
    accepted = λ lines p within is h. record {
      parents = within;
      literals = tt;
      place = tt;
      types = record {
        clause_typed = typed-numbered variables ls typed;
        rule_typed = rw is (
          terms-for (map (variable_type variables) (firsts nat_eq [] (occurring_in ls))) variables given (placed_tree (firsts nat_eq [] (occurring_in ls))) l gives (λ n a e. (placed-type (firsts nat_eq [] (occurring_in ls)) n a, placed-over variables (firsts nat_eq [] (occurring_in ls)) n a e)),
          are-given variables given (placed_tree (firsts nat_eq [] (occurring_in ls))) gives (placed-type (firsts nat_eq [] (occurring_in ls))) ls typed,
        );
      };
      symbols = tt;
      shape = rw is (literals-placed variables (firsts nat_eq [] (occurring_in ls)) given gives ls typed (AreSeen-met (occurring_in ls) []));
    };
  };
  origin = λ o z h k p. (numbered-from o z variables ls h.0 h.1, given-from o z (placed_tree (firsts nat_eq [] (occurring_in ls))) (from-placed_tree o z (firsts nat_eq [] (occurring_in ls))) variables given l gives h.0);
}

-- normal forms with other numbers
renumbered-renamed : (order : List ℕ) (t : Tree) → renumbered order t ≡ renamed (place_in order) t
renumbered-renamed order (variable n a) = refl
renumbered-renamed order (bound i a) = refl
renumbered-renamed order (symbol s a) = refl
renumbered-renamed order (app f x) = rw (renumbered-renamed order f, renumbered-renamed order x) refl
renumbered-renamed order (lam a t) = ap (lam a) (renumbered-renamed order t)
renumbered-renamed order (logic c x y) = rw (renumbered-renamed order x, renumbered-renamed order y) refl
renumbered-renamed order absent = refl

renumbered-normal : (order : List ℕ) (t : Tree) → normal_form t ≡ t → normal_form (renumbered order t) ≡ renumbered order t
renumbered-normal order t h = ap normal_form (renumbered-renamed order t) ∙ sym (renamed-normal (place_in order) t) ∙ ap (renamed (place_in order)) h ∙ sym (renumbered-renamed order t)

renumbered-normals : (order : List ℕ) (ls : List Literal) → AreNormal ls → AreNormal (map (renumbered_literal order) ls)
renumbered-normals order [] h = tt
renumbered-normals order (l ∷ ls) h = (renumbered-normal order l.left h.0, renumbered-normal order l.right h.1, renumbered-normals order ls h.2)

normal-end : (ls : List Literal) (l : Literal) → AreNormal ls → (normal_form l.left ≡ l.left) × (normal_form l.right ≡ l.right) → AreNormal (ls ++ l ∷ [])
normal-end [] l h g = (g.0, g.1, tt)
normal-end (k ∷ ls) l h g = (h.0, h.1, normal-end ls l h.2 g)

normal-if : (b : Bool) (xs ys : List Literal) → AreNormal xs → AreNormal ys → AreNormal (if b then xs else ys)
normal-if true xs ys p q = p
normal-if false xs ys p q = q

normal-firsts : (ls seen : List Literal) → AreNormal seen → AreNormal ls → AreNormal (firsts same_literal seen ls)
normal-firsts [] seen s h = s
normal-firsts (l ∷ ls) seen s h = normal-if (list_any (same_literal l) seen) (firsts same_literal seen ls) (firsts same_literal (seen ++ l ∷ []) ls) (normal-firsts ls seen s h.2) (normal-firsts ls (seen ++ l ∷ []) (normal-end seen l s (h.0, h.1)) h.2)

pub arranged-normal : (variables : List SimpleType) (ls : List Literal) → AreNormal ls → AreNormal (numbered variables (distinct ls)).literals
arranged-normal variables ls h = renumbered-normals (firsts nat_eq [] (occurring_in (distinct ls))) (distinct ls) (normal-firsts ls [] tt h)
