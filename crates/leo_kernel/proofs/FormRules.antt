-- Literals whose sides have the same normal forms, and literals with terms put in.
use Rattle.std.proofs.Common.{ℕ, zero, suc, nat_eq, ◌≡◌, ◌∙◌, ◌<◌, ◌≤◌, Bool, true, false, not, List, [], ◌∷◌, length, map, take, slice_index_or, refl, sym, ap, arith}
use Rattle.std.specs.Bool.{beq, Decides}
use Rattle.std.proofs.lemmas.Bool.Decides.{nat_tests}
use Rattle.leo_terms.specs.Tree.{Tree, substituted, put_in, IsGiven}
use Rattle.leo_terms.specs.Contents.{Contents, IsBank, Extends, IsTerm, AreTerms, tree_at}
use Rattle.leo_terms.specs.NormalForm.{normal_form}
use Rattle.leo_terms.specs.Normal.{HasNormalForm}
use Rattle.leo_terms.proofs.CallerLemmas.{tree-kept, trees-kept, new_bank, term-shared, put_in-is}
use Rattle.leo_clause.specs.declared.clause.Lit.{Lit}
use Rattle.leo_clause.specs.declared.clause.Clause.{Clause}
use Rattle.leo_clause.specs.Trees.{Literal, literal_at, clause_at}
use Rattle.leo_clause.specs.Typed.{IsClauseOf}
use Rattle.leo_clause.specs.Renaming.{substituted_literal, AreGiven}
use Rattle.leo_kernel.specs.Conclusions.{IsConverted, AreConverted}
use Rattle.leo_kernel.proofs.TypedLits.{no, yes, not-both}
use Rattle.leo_kernel.proofs.Clauses.{types-same}
use Rattle.leo_kernel.proofs.PlainRules.{terms-decide, polarity-same}
use Rattle.leo_kernel.proofs.Pairs.{Pairs, pairs-index, pairs-length, pairs-whole}

pub kept-within : {c d : Contents} → Extends c d → (t : ℕ) → t < length c.terms → t < length d.terms
kept-within e t h = let m = e.terms_more in omega arith

pub forms-decide : {c d e : Contents} → Extends c d → Extends d e → (s t m n : ℕ) → t < length c.terms → HasNormalForm c d s m → HasNormalForm d e t n → (r : Bool) → r ≡ nat_eq m n → Decides r (normal_form (tree_at c s) ≡ normal_form (tree_at c t))
forms-decide {c} {d} {e} f g s t m n l h k r q =
    let first : tree_at e m ≡ normal_form (tree_at c s) = tree-kept g m h.within ∙ h.value in
    let second : tree_at e n ≡ normal_form (tree_at c t) = k.value ∙ ap normal_form (tree-kept f t l) in
    let x = terms-decide e (new_bank g) m n (kept-within g m h.within) k.within r q in
    (λ p. sym first ∙ x.0 p ∙ second, λ p. x.1 (first ∙ p ∙ sym second))

module _ {c d : Contents} (e : Extends c d) (old new : Lit) where
  pub converted-decides : new.right < length c.terms → old.right < length c.terms → not (beq new.pos old.pos) ≡ false →
      (a r : Bool) → Decides a (normal_form (tree_at c new.left) ≡ normal_form (tree_at c old.left)) → a ≡ true → Decides r (normal_form (tree_at d new.right) ≡ normal_form (tree_at d old.right)) → Decides r (IsConverted (literal_at c old) (literal_at c new))
  converted-decides p q f a r x y z =
      let w : Decides r (normal_form (tree_at c new.right) ≡ normal_form (tree_at c old.right)) = rw (tree-kept e new.right p, tree-kept e old.right q) at z in
      (λ h. record { polarity = polarity-same new.pos old.pos f; left_form = x.0 y; right_form = w.0 h }, λ h. w.1 h.right_form)

  pub converted-there : old.left < length c.terms → old.right < length c.terms → new.left < length c.terms → new.right < length c.terms → (r : Bool) → Decides r (IsConverted (literal_at d old) (literal_at d new)) → Decides r (IsConverted (literal_at c old) (literal_at c new))
  converted-there p q s t r h = rw (tree-kept e old.left p, tree-kept e old.right q, tree-kept e new.left s, tree-kept e new.right t) at h

pairs-converted : (c : Contents) (xs ys : List Lit) → Pairs (λ (k j : Lit). IsConverted (literal_at c k) (literal_at c j)) xs ys → AreConverted (map (literal_at c) xs) (map (literal_at c) ys)
pairs-converted c [] [] h = tt
pairs-converted c [] (y ∷ ys) h = h
pairs-converted c (x ∷ xs) [] h = h
pairs-converted c (x ∷ xs) (y ∷ ys) h = (h.0, pairs-converted c xs ys h.1)

converted-pairs : (c : Contents) (xs ys : List Lit) → AreConverted (map (literal_at c) xs) (map (literal_at c) ys) → Pairs (λ (k j : Lit). IsConverted (literal_at c k) (literal_at c j)) xs ys
converted-pairs c [] [] h = tt
converted-pairs c [] (y ∷ ys) h = h
converted-pairs c (x ∷ xs) [] h = h
converted-pairs c (x ∷ xs) (y ∷ ys) h = (h.0, converted-pairs c xs ys h.1)

module _ (c : Contents) (xs ys : List Lit) where
  pub lengths-differ : (length xs ≡ length ys → ⊥) → Decides false (AreConverted (map (literal_at c) xs) (map (literal_at c) ys))
  lengths-differ f = no (λ h. f (pairs-length (λ (k j : Lit). IsConverted (literal_at c k) (literal_at c j)) xs ys (converted-pairs c xs ys h)))

  pub all-converted : (n : ℕ) → length xs ≤ n → length xs ≡ length ys → Pairs (λ (k j : Lit). IsConverted (literal_at c k) (literal_at c j)) (take n xs) (take n ys) → Decides true (AreConverted (map (literal_at c) xs) (map (literal_at c) ys))
  all-converted n l e h = yes (pairs-converted c xs ys (pairs-whole (λ (k j : Lit). IsConverted (literal_at c k) (literal_at c j)) xs ys n l e h))

  pub one-unconverted : (i : ℕ) (x y : Lit) (r : Bool) → i < length xs → length xs ≡ length ys → x ≡ slice_index_or xs i x → y ≡ slice_index_or ys i y → Decides r (IsConverted (literal_at c x) (literal_at c y)) → r ≡ false → Decides false (AreConverted (map (literal_at c) xs) (map (literal_at c) ys))
  one-unconverted i x y r l e f g d t =
      no (λ h. not-both r d t (pairs-index (λ (k j : Lit). IsConverted (literal_at c k) (literal_at c j)) xs ys i x y (converted-pairs c xs ys h) l (omega arith) f g))

-- other variables
pub variables-differ : (c : Contents) (b : IsBank c) (parent step : Clause) (P : Type 0) → IsClauseOf c parent → IsClauseOf c step → (q : Bool) → Decides q (step.vars ≡ parent.vars) → q ≡ false → Decides false (((clause_at c step).variables ≡ (clause_at c parent).variables) × P)
variables-differ c b parent step P h k q d e = no (λ x. not-both q d e (types-same c b step.vars parent.vars k.types_of h.types_of x.0))

-- literals with terms put in
module _ {c d : Contents} (e : Extends c d) (sigma : List ℕ) (old new : Lit) where
  left-reads : (m i : ℕ) → IsTerm d m i (put_in (map (tree_at c) sigma) (tree_at c old.left)) → tree_at d m ≡ substituted (map (tree_at c) sigma) 0 (tree_at c old.left)
  left-reads m i t = t.reads ∙ put_in-is (map (tree_at c) sigma) (tree_at c old.left)

  apart : (m n : ℕ) (r : Bool) → r ≡ not (nat_eq m n) → r ≡ true → m ≡ n → ⊥
  apart m n r e t f = grind (arith, nat_tests)

  together : (m n : ℕ) (r : Bool) → r ≡ not (nat_eq m n) → r ≡ false → m ≡ n
  together m n r e t = grind (arith, nat_tests)

  pub instance-fails : (m i : ℕ) → new.left < length c.terms → IsTerm d m i (put_in (map (tree_at c) sigma) (tree_at c old.left)) → (r : Bool) → r ≡ not (nat_eq new.left m) → r ≡ true → Decides false (literal_at c new ≡ substituted_literal (map (tree_at c) sigma) (literal_at c old))
  instance-fails m i l t r f g =
      no (λ h. apart new.left m r f g (term-shared (new_bank e) new.left m (kept-within e new.left l) t.within (tree-kept e new.left l ∙ ap (λ (x : Literal). x.left) h ∙ sym (left-reads m i t))))

  same-literal : (p q : Bool) (s t u v : Tree) → p ≡ q → s ≡ u → t ≡ v → ◌≡◌ {A = Literal} (record { positive = p; left = s; right = t }) (record { positive = q; left = u; right = v })
  same-literal p q s t u v f g h = rw (f, g, h) refl

module _ {c d e : Contents} (f : Extends c d) (g : Extends d e) (sigma : List ℕ) (terms : AreTerms c sigma) (old new : Lit) where
  pub instance-decides : new.left < length c.terms → new.right < length c.terms → old.right < length c.terms → (m i n j : ℕ) →
      IsTerm d m i (put_in (map (tree_at c) sigma) (tree_at c old.left)) → IsTerm e n j (put_in (map (tree_at d) sigma) (tree_at d old.right)) →
      not (beq new.pos old.pos) ≡ false → (a r : Bool) → a ≡ not (nat_eq new.left m) → a ≡ false → r ≡ nat_eq new.right n →
      Decides r (literal_at c new ≡ substituted_literal (map (tree_at c) sigma) (literal_at c old))
  instance-decides p q s m i n j t u v a r w x y =
      let left : tree_at c new.left ≡ substituted (map (tree_at c) sigma) 0 (tree_at c old.left) =
      sym (tree-kept f new.left p) ∙ ap (tree_at d) (together f sigma old new new.left m a w x) ∙ left-reads f sigma old new m i t in
      let right : tree_at e n ≡ substituted (map (tree_at c) sigma) 0 (tree_at c old.right) =
      u.reads ∙ rw (trees-kept f sigma terms, tree-kept f old.right s) (put_in-is (map (tree_at c) sigma) (tree_at c old.right)) in
      let z = terms-decide e (new_bank g) new.right n (kept-within g new.right (kept-within f new.right q)) u.within r y in
      let later : tree_at e new.right ≡ tree_at c new.right = tree-kept g new.right (kept-within f new.right q) ∙ tree-kept f new.right q in (
        λ h. same-literal f sigma old new new.pos old.pos _ _ _ _ (polarity-same new.pos old.pos v) left (sym later ∙ z.0 h ∙ right),
        λ h. z.1 (later ∙ ap (λ (k : Literal). k.right) h ∙ sym right),
      )

instance-list : (c : Contents) (sigma : List Tree) (xs ys : List Lit) → Pairs (λ (k j : Lit). literal_at c j ≡ substituted_literal sigma (literal_at c k)) xs ys → map (literal_at c) ys ≡ map (substituted_literal sigma) (map (literal_at c) xs)
instance-list c sigma [] [] h = refl
instance-list c sigma [] (y ∷ ys) h = absurd h
instance-list c sigma (x ∷ xs) [] h = absurd h
instance-list c sigma (x ∷ xs) (y ∷ ys) h = consed h.0 (instance-list c sigma xs ys h.1)
  where
    consed : {X : Type 0} {a b : X} {us vs : List X} → a ≡ b → us ≡ vs → a ∷ us ≡ b ∷ vs
    consed {X} {a} {b} {us} {vs} e f = rw (e, f) refl

list-instance : (c : Contents) (sigma : List Tree) (xs ys : List Lit) → map (literal_at c) ys ≡ map (substituted_literal sigma) (map (literal_at c) xs) → Pairs (λ (k j : Lit). literal_at c j ≡ substituted_literal sigma (literal_at c k)) xs ys
list-instance c sigma [] [] h = tt
list-instance c sigma [] (y ∷ ys) h = (let f : ⊥ = cc in absurd f)
list-instance c sigma (x ∷ xs) [] h = (let f : ⊥ = cc in absurd f)
list-instance c sigma (x ∷ xs) (y ∷ ys) h = let p = split (literal_at c y) (substituted_literal sigma (literal_at c x)) (map (literal_at c) ys) (map (substituted_literal sigma) (map (literal_at c) xs)) h in (p.0, list-instance c sigma xs ys p.1)
  where
    split : (a b : Literal) (us vs : List Literal) → a ∷ us ≡ b ∷ vs → (a ≡ b) × (us ≡ vs)
    split a b us vs e = (cc, cc)

module _ (c : Contents) (sigma : List Tree) (xs ys : List Lit) where
  pub instances-differ : (length xs ≡ length ys → ⊥) → Decides false (map (literal_at c) ys ≡ map (substituted_literal sigma) (map (literal_at c) xs))
  instances-differ f = no (λ h. f (pairs-length (λ (k j : Lit). literal_at c j ≡ substituted_literal sigma (literal_at c k)) xs ys (list-instance c sigma xs ys h)))

  pub all-instances : (n : ℕ) → length xs ≤ n → length xs ≡ length ys → Pairs (λ (k j : Lit). literal_at c j ≡ substituted_literal sigma (literal_at c k)) (take n xs) (take n ys) → Decides true (map (literal_at c) ys ≡ map (substituted_literal sigma) (map (literal_at c) xs))
  all-instances n l e h = yes (instance-list c sigma xs ys (pairs-whole (λ (k j : Lit). literal_at c j ≡ substituted_literal sigma (literal_at c k)) xs ys n l e h))

  pub one-other : (i : ℕ) (x y : Lit) (r : Bool) → i < length xs → length xs ≡ length ys → x ≡ slice_index_or xs i x → y ≡ slice_index_or ys i y → Decides r (literal_at c y ≡ substituted_literal sigma (literal_at c x)) → r ≡ false → Decides false (map (literal_at c) ys ≡ map (substituted_literal sigma) (map (literal_at c) xs))
  one-other i x y r l e f g d t =
      no (λ h. not-both r d t (pairs-index (λ (k j : Lit). literal_at c j ≡ substituted_literal sigma (literal_at c k)) xs ys i x y (list-instance c sigma xs ys h) l (omega arith) f g))

pub given-at : (sigma : List Tree) (c : Contents) (ls : List Lit) → AreGiven sigma (map (literal_at c) ls) → (i : ℕ) (l : Lit) → i < length ls → l ≡ slice_index_or ls i l → IsGiven sigma (tree_at c l.left) × IsGiven sigma (tree_at c l.right)
given-at sigma c [] h i l lt e = absurd (omega arith)
given-at sigma c (k ∷ ls) h zero l lt e = rw e (h.0, h.1)
given-at sigma c (k ∷ ls) h (suc i) l lt e = given-at sigma c ls h.2 i l (omega arith) e

module _ {c d : Contents} (e : Extends c d) (sigma : List ℕ) (terms : AreTerms c sigma) where
  pub given-later : (t : ℕ) → t < length c.terms → IsGiven (map (tree_at c) sigma) (tree_at c t) → IsGiven (map (tree_at d) sigma) (tree_at d t)
  given-later t l h = rw (trees-kept e sigma terms, tree-kept e t l) h

  pub instance-there : (old new : Lit) → old.left < length c.terms → old.right < length c.terms → new.left < length c.terms → new.right < length c.terms → (r : Bool) → Decides r (literal_at d new ≡ substituted_literal (map (tree_at d) sigma) (literal_at d old)) → Decides r (literal_at c new ≡ substituted_literal (map (tree_at c) sigma) (literal_at c old))
  instance-there old new p q s t r h = rw (trees-kept e sigma terms, tree-kept e old.left p, tree-kept e old.right q, tree-kept e new.left s, tree-kept e new.right t) at h
