-- Marks of terms that are walked, and what a mask says.
use Rattle.std.proofs.Common.{ℕ, zero, suc, ◌≡◌, ◌∙◌, ◌+◌, ◌*◌, ◌%◌, ◌^◌, ◌<◌, ◌≤◌, ◌⊎◌, min, max, Bool, List, [], ◌∷◌, ◌++◌, length, map, slice_get, Some, refl, sym, ap, subst, arith, append_assoc, inl, inr}
use Rattle.std.specs.Prelude.{bit_and, bit_or, flat_map, fold, reverse}
use Rattle.std.specs.Int.{bit_at, w64}
use Rattle.std.specs.List.{AllByRecursion}
use Rattle.std.proofs.lemmas.Bool.{cases_eq}
use Rattle.std.proofs.lemmas.List.{append-nil, reverse-append}
use Rattle.std.proofs.lemmas.List.Sums.{fold-append}
use Rattle.std.proofs.lemmas.Nat.Bits.{bit_at-lt, bit_at-zero, bit_at_and, bit_at_or, bit_at_set_same, bit_at_set_other, same_from_bits}
use Rattle.fo_terms.specs.declared.term.FoNode.{FoNode}
use Rattle.fo_terms.specs.Terms.{Term, Terms, variable, symbol, none, more, first_terms, terms_after}
use Rattle.fo_terms.specs.Prefix.{prefix, terms_of, with_node}
use Rattle.fo_terms.specs.Reading.{terms_of-prefix}
use Rattle.fo_terms.specs.Substitutions.{Substitution, apply, apply_to_all}
use Rattle.fo_text.specs.declared.problem.FoSym.{FoSym}
use Rattle.fo_text.specs.declared.problem.FoLit.{FoLit}
use Rattle.fo_text.specs.declared.problem.FoClause.{FoClause}
use Rattle.fo_replay.specs.Replays.{applied_literal}
use Rattle.fo_super.specs.Marks.{child, children, clause_marks, literal_marks, mark, marks, marks_in_all, mask, pending, root, with_mark, with_marks}
use Rattle.fo_super.specs.Subsumption.{IsSameLiteral, IsSent, Subsumes}

-- the walk
nothing-pending : (hs : List ℕ) → pending hs none ≡ []
nothing-pending [] = refl
nothing-pending (h ∷ hs) = refl

arguments-pending : (h n c : ℕ) (hs : List ℕ) (ts : Terms) → pending (children h n c ++ hs) ts ≡ marks_in_all h n (first_terms c ts) ++ pending hs (terms_after c ts)
arguments-pending h n zero hs ts = refl
arguments-pending h n (suc c) hs none = sym (nothing-pending hs)
arguments-pending h n (suc c) hs (more t ts) =
    ap (λ (x : List ℕ). marks (child h n) t ++ x) (arguments-pending h (suc n) c hs ts) ∙ sym (append_assoc (marks (child h n) t) (marks_in_all h (suc n) (first_terms c ts)) (pending hs (terms_after c ts)))

-- a symbol whose arguments are put on the stack
pub symbol-marked : (m h f c : ℕ) (hs news : List ℕ) (ts : Terms) → news ≡ children h 0 c ++ hs →
    with_marks (with_mark m (mark h f)) (pending news ts) ≡ with_marks m (pending (h ∷ hs) (more (symbol f (first_terms c ts)) (terms_after c ts)))
symbol-marked m h f c hs news ts e = ap (λ (x : List ℕ). with_marks (with_mark m (mark h f)) x) (ap (λ (x : List ℕ). pending x ts) e ∙ arguments-pending h 0 c hs ts)

pub walk-starts : (m h : ℕ) (t : Term) (nodes : List FoNode) (places news : List ℕ) → nodes ≡ prefix t → places ≡ [] → news ≡ places ++ h ∷ [] → with_marks m (pending (reverse news) (terms_of nodes)) ≡ with_marks m (marks h t)
walk-starts m h t nodes places news e p q =
    let read : terms_of nodes ≡ more t none = ap terms_of (e ∙ sym (append-nil (prefix t))) ∙ terms_of-prefix t [] in
    ap (λ (x : List ℕ). with_marks m (pending (reverse x) (terms_of nodes))) (q ∙ ap (λ (x : List ℕ). x ++ h ∷ []) p)
    ∙ ap (λ (x : Terms). with_marks m (pending (h ∷ []) x)) read ∙ ap (with_marks m) (append-nil (marks h t))

pub walk-over : (m whole : ℕ) (hs : List ℕ) (nodes : List FoNode) → length nodes ≡ 0 → with_marks m (pending hs (terms_of nodes)) ≡ whole → m ≡ whole
walk-over m whole hs [] e f = ap (with_marks m) (sym (nothing-pending hs)) ∙ f
walk-over m whole hs (n ∷ ns) e f = absurd (omega (arith, e))

-- the places of arguments
last-child : (h n k : ℕ) → children h n (suc k) ≡ children h n k ++ child h (n + k) ∷ []
last-child h n zero = (let e : n ≡ n + 0 = omega arith in ap (λ (x : ℕ). child h x ∷ []) e)
last-child h n (suc k) = ap (λ (x : List ℕ). child h n ∷ x) (last-child h (suc n) k ∙ (let e : suc n + k ≡ n + suc k = omega arith in ap (λ (x : ℕ). children h (suc n) k ++ child h x ∷ []) e))

first-children : (h k : ℕ) → children h 0 (suc k) ≡ children h 0 k ++ child h k ∷ []
first-children h k = last-child h 0 k ∙ (let e : 0 + k ≡ k = omega arith in ap (λ (x : ℕ). children h 0 k ++ child h x ∷ []) e)

pub child-pushed : (h left less : ℕ) (old new behind : List ℕ) → left ≡ suc less → new ≡ old ++ child h less ∷ [] → children h 0 left ++ reverse old ≡ behind → children h 0 less ++ reverse new ≡ behind
child-pushed h left less old new behind e f g =
    ap (λ (x : List ℕ). children h 0 less ++ x) (ap reverse f ∙ reverse-append old (child h less ∷ []))
    ∙ sym (append_assoc (children h 0 less) (child h less ∷ []) (reverse old))
    ∙ ap (λ (x : List ℕ). x ++ reverse old) (sym (first-children h less) ∙ ap (children h 0) (sym e)) ∙ g

-- what a mask says
abbrev IsOf : ℕ → List ℕ → Type 0
IsOf b [] = ⊥
IsOf b (x ∷ xs) = (b ≡ x) ⊎ IsOf b xs

of-front : (b : ℕ) (xs ys : List ℕ) → IsOf b xs → IsOf b (xs ++ ys)
of-front b [] ys h = absurd h
of-front b (x ∷ xs) ys (inl e) = inl e
of-front b (x ∷ xs) ys (inr h) = inr (of-front b xs ys h)

of-back : (b : ℕ) (xs ys : List ℕ) → IsOf b ys → IsOf b (xs ++ ys)
of-back b [] ys h = h
of-back b (x ∷ xs) ys h = inr (of-back b xs ys h)

of-either : (b : ℕ) (xs ys : List ℕ) → IsOf b (xs ++ ys) → IsOf b xs ⊎ IsOf b ys
of-either b [] ys h = inr h
of-either b (x ∷ xs) ys (inl e) = inl (inl e)
of-either b (x ∷ xs) ys (inr h) = elim (of-either b xs ys h) [ inl k ↦ inl (inr k) | inr k ↦ inr k ]

bit-kept : (m b i : ℕ) → bit_at m i ≡ 1 → bit_at (with_mark m b) i ≡ 1
bit-kept m b i e =
    elim (cases_eq i (b % 61)) [
      | inl h ↦ subst (λ x. bit_at (with_mark m b) x ≡ 1) (sym h) (bit_at_set_same w64 m (b % 61) (omega arith))
      | inr h ↦ bit_at_set_other w64 m (b % 61) (omega arith) i h ∙ e
    ]

bits-kept : (bs : List ℕ) (m i : ℕ) → bit_at m i ≡ 1 → bit_at (with_marks m bs) i ≡ 1
bits-kept [] m i e = e
bits-kept (b ∷ bs) m i e = bits-kept bs (with_mark m b) i (bit-kept m b i e)

bit-of : (bs : List ℕ) (m b : ℕ) → IsOf b bs → bit_at (with_marks m bs) (b % 61) ≡ 1
bit-of [] m b h = absurd h
bit-of (x ∷ bs) m b (inl e) = bits-kept bs (with_mark m x) (b % 61) (subst (λ y. bit_at (with_mark m x) (y % 61) ≡ 1) (sym e) (bit_at_set_same w64 m (x % 61) (omega arith)))
bit-of (x ∷ bs) m b (inr h) = bit-of bs (with_mark m x) b h

-- a bit comes of a mark
record ComesOf (bs : List ℕ) (i : ℕ) : Type 0 where
  which : ℕ
  is : IsOf which bs
  place : i ≡ which % 61

comes : (bs : List ℕ) (m i : ℕ) → bit_at (with_marks m bs) i ≡ 1 → (bit_at m i ≡ 1) ⊎ ComesOf bs i
comes [] m i e = inl e
comes (b ∷ bs) m i e =
    elim (comes bs (with_mark m b) i e) [
      | inl k ↦ elim (cases_eq i (b % 61)) [
        | inl h ↦ inr (record { which = b; is = inl refl; place = h })
        | inr h ↦ inl (sym (bit_at_set_other w64 m (b % 61) (omega arith) i h) ∙ k)
      ]
      | inr c ↦ inr (record { which = c.which; is = inr c.is; place = c.place })
    ]

-- a mask lies within another where its marks are among those of the other
pub masks-within : (bs cs : List ℕ) → ((b : ℕ) → IsOf b bs → IsOf b cs) → bit_and (with_marks 0 bs) (with_marks 0 cs) ≡ with_marks 0 bs
masks-within bs cs h = same_from_bits (bit_and (with_marks 0 bs) (with_marks 0 cs)) (with_marks 0 bs) (λ i. bit_at_and (with_marks 0 bs) (with_marks 0 cs) i ∙ least i (cases_eq (bit_at (with_marks 0 bs) i) 1))
  where
    there : (i : ℕ) → bit_at (with_marks 0 bs) i ≡ 1 → bit_at (with_marks 0 cs) i ≡ 1
    there i e =
        elim (comes bs 0 i e) [
          | inl k ↦ absurd (let z = bit_at-zero i in let f : ⊥ = omega (arith, k, z) in f)
          | inr c ↦ subst (λ x. bit_at (with_marks 0 cs) x ≡ 1) (sym c.place) (bit-of cs 0 c.which (h c.which c.is))
        ]

    small : (m n : ℕ) → m < 2 → (m ≡ 1 → ⊥) → min m n ≡ m
    small m n l f = omega (arith, l, f)

    both : (m n : ℕ) → m ≡ 1 → n ≡ 1 → min m n ≡ m
    both m n e f = omega (arith, e, f)

    least : (i : ℕ) → (bit_at (with_marks 0 bs) i ≡ 1) ⊎ (bit_at (with_marks 0 bs) i ≡ 1 → ⊥) → min (bit_at (with_marks 0 bs) i) (bit_at (with_marks 0 cs) i) ≡ bit_at (with_marks 0 bs) i
    least i (inl e) = both (bit_at (with_marks 0 bs) i) (bit_at (with_marks 0 cs) i) e (there i e)
    least i (inr f) = small (bit_at (with_marks 0 bs) i) (bit_at (with_marks 0 cs) i) (bit_at-lt (with_marks 0 bs) i) f

-- a substitution takes no mark away
module _ (s : Substitution) (b : ℕ) where
  mutual
    mark-stays : (h : ℕ) (t : Term) → IsOf b (marks h t) → IsOf b (marks h (apply s t))
    mark-stays h (variable v) k = absurd k
    mark-stays h (symbol f ts) (inl e) = inl e
    mark-stays h (symbol f ts) (inr k) = inr (marks-stay h 0 ts k)

    marks-stay : (h n : ℕ) (ts : Terms) → IsOf b (marks_in_all h n ts) → IsOf b (marks_in_all h n (apply_to_all s ts))
    marks-stay h n none k = absurd k
    marks-stay h n (more t ts) k =
        elim (of-either b (marks (child h n) t) (marks_in_all h (suc n) ts) k) [
          | inl a ↦ of-front b (marks (child h n) (apply s t)) (marks_in_all h (suc n) (apply_to_all s ts)) (mark-stays (child h n) t a)
          | inr a ↦ of-back b (marks (child h n) (apply s t)) (marks_in_all h (suc n) (apply_to_all s ts)) (marks-stay h (suc n) ts a)
        ]

  literal-stays : (l : FoLit) → IsOf b (literal_marks l) → IsOf b (literal_marks (applied_literal s l))
  literal-stays l k =
      elim (of-either b (marks (root l.pos) l.left) (marks (root l.pos) l.right) k) [
        | inl a ↦ of-front b (marks (root l.pos) (apply s l.left)) (marks (root l.pos) (apply s l.right)) (mark-stays (root l.pos) l.left a)
        | inr a ↦ of-back b (marks (root l.pos) (apply s l.left)) (marks (root l.pos) (apply s l.right)) (mark-stays (root l.pos) l.right a)
      ]

  -- nor does a turn
  literal-same : (l k : FoLit) → IsSameLiteral l k → IsOf b (literal_marks l) → IsOf b (literal_marks k)
  literal-same l k (p, inl e) h =
      subst (λ (x : Term). IsOf b (marks (root k.pos) x ++ marks (root k.pos) k.right)) e.0
      (subst (λ (x : Term). IsOf b (marks (root k.pos) l.left ++ marks (root k.pos) x)) e.1 (subst (λ (x : Bool). IsOf b (marks (root x) l.left ++ marks (root x) l.right)) p h))
  literal-same l k (p, inr e) h =
      let all = subst (λ (x : Bool). IsOf b (marks (root x) l.left ++ marks (root x) l.right)) p h in
      elim (of-either b (marks (root k.pos) l.left) (marks (root k.pos) l.right) all) [
        | inl a ↦ of-back b (marks (root k.pos) k.left) (marks (root k.pos) k.right) (subst (λ (x : Term). IsOf b (marks (root k.pos) x)) e.0 a)
        | inr a ↦ of-front b (marks (root k.pos) k.left) (marks (root k.pos) k.right) (subst (λ (x : Term). IsOf b (marks (root k.pos) x)) e.1 a)
      ]

  clause-has : (ks : List FoLit) (place : ℕ) (k : FoLit) → slice_get ks place ≡ Some k → IsOf b (literal_marks k) → IsOf b (clause_marks ks)
  clause-has [] place k e h = absurd (let f : ⊥ = cc in f)
  clause-has (x ∷ ks) zero k e h = let same : x ≡ k = cc in of-front b (literal_marks x) (clause_marks ks) (subst (λ (y : FoLit). IsOf b (literal_marks y)) (sym same) h)
  clause-has (x ∷ ks) (suc place) k e h = of-back b (literal_marks x) (clause_marks ks) (clause-has ks place k e h)

  clause-sent : (vars news : List ℕ) (syms : List FoSym) (ls ks : List FoLit) → AllByRecursion (IsSent vars news syms ks s) ls → IsOf b (clause_marks ls) → IsOf b (clause_marks ks)
  clause-sent vars news syms [] ks h k = absurd k
  clause-sent vars news syms (l ∷ ls) ks h k =
      elim (of-either b (literal_marks l) (clause_marks ls) k) [
        | inl a ↦ clause-has ks h.0.place h.0.other h.0.stands (literal-same (applied_literal s l) h.0.other h.0.same (literal-stays l a))
        | inr a ↦ clause-sent vars news syms ls ks h.1 a
      ]

-- a clause subsumes none that lacks one of its marks
pub subsumed-within : (syms : List FoSym) (c d : FoClause) → Subsumes syms c d → bit_and (mask c.lits) (mask d.lits) ≡ mask c.lits
subsumed-within syms c d h = masks-within (clause_marks c.lits) (clause_marks d.lits) (λ b. clause-sent h.substitution b c.vars d.vars syms c.lits d.lits h.sent)

-- literals, one after the other
abbrev with_literals : ℕ → List FoLit → ℕ
with_literals m ls = with_marks m (clause_marks ls)

pub literal-next : (m : ℕ) (xs : List FoLit) (l : FoLit) → with_marks (with_marks m (clause_marks xs)) (literal_marks l) ≡ with_marks m (clause_marks (xs ++ l ∷ []))
literal-next m xs l =
    sym (fold-append with_mark m (clause_marks xs) (literal_marks l))
    ∙ ap (with_marks m) (sym (flat xs))
  where
    flat : (ys : List FoLit) → clause_marks (ys ++ l ∷ []) ≡ clause_marks ys ++ literal_marks l
    flat [] = append-nil (literal_marks l)
    flat (y ∷ ys) = ap (λ (x : List ℕ). literal_marks y ++ x) (flat ys) ∙ sym (append_assoc (literal_marks y) (clause_marks ys) (literal_marks l))

pub literal-whole : (m place : ℕ) (l : FoLit) (left both : ℕ) → place ≡ root l.pos → left ≡ with_marks m (marks place l.left) → both ≡ with_marks left (marks place l.right) → both ≡ with_marks m (literal_marks l)
literal-whole m place l left both e f g =
    g ∙ ap (λ (x : ℕ). with_marks x (marks place l.right)) f ∙ sym (fold-append with_mark m (marks place l.left) (marks place l.right)) ∙ ap (λ (x : ℕ). with_marks m (marks x l.left ++ marks x l.right)) e
