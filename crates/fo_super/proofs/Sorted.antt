-- What replays from sorted clauses is sorted.
use Rattle.std.proofs.Common.{ℕ, zero, suc, ◌≡◌, ◌∙◌, ◌+◌, List, [], ◌∷◌, ◌++◌, length, map, slice_get, slice_set, Some, refl, sym, ap, subst, arith}
use Rattle.std.specs.Prelude.{remove}
use Rattle.std.specs.List.{AllByRecursion}
use Rattle.fo_terms.specs.Terms.{Term, Terms, variable, symbol, none, more}
use Rattle.fo_terms.specs.Substitutions.{apply, apply_to_all}
use Rattle.fo_text.specs.declared.problem.FoSym.{FoSym}
use Rattle.fo_text.specs.declared.problem.FoLit.{FoLit}
use Rattle.fo_text.specs.declared.problem.FoClause.{FoClause}
use Rattle.fo_text.specs.declared.answer.FoSide.{FoSide}
use Rattle.fo_text.specs.declared.answer.FoSide.TheVariants.{Left, Right}
use Rattle.fo_text.specs.declared.problem.FoProblem.{FoProblem}
use Rattle.fo_text.specs.Problems.{HasSort, HaveSorts, IsClause, IsLiteral, IsProblem}
use Rattle.fo_replay.specs.Replays.{near, far, with_near, differ, applied_literal, at_path, at_argument, replaced, replaced_argument, moved, IsFactor, IsPara}
use Rattle.fo_super.specs.Laws.{AreSorted}
use Rattle.fo_super.proofs.Resolutions.{remove-all, some-same}
use Rattle.fo_super.proofs.Sorting.{all-at, all-both}

-- a term has one sort
sort-one : (vars : List ℕ) (syms : List FoSym) (t : Term) (s r : ℕ) → HasSort vars syms t s → HasSort vars syms t r → s ≡ r
sort-one vars syms (variable v) s r h k = some-same (slice_get vars v) s r h k
sort-one vars syms (symbol f ts) s r h k =
    let same : h.0 ≡ k.0 = some-same (slice_get syms f) h.0 k.0 h.1 k.1 in
    sym h.2 ∙ ap (λ (y : FoSym). y.result) same ∙ k.2

module _ (vars : List ℕ) (syms : List FoSym) where
  -- both sides of a literal have the sort that one has
  right-has : (l : FoLit) (s : ℕ) → IsLiteral vars syms l → HasSort vars syms l.left s → HasSort vars syms l.right s
  right-has l s h k = subst (λ x. HasSort vars syms l.right x) (sort-one vars syms l.left h.0 s h.1 k) h.2

  near-has : (side : FoSide) (l : FoLit) (h : IsLiteral vars syms l) → HasSort vars syms (near side l) h.0
  near-has Left l h = h.1
  near-has Right l h = h.2

  far-has : (side : FoSide) (l : FoLit) (h : IsLiteral vars syms l) → HasSort vars syms (far side l) h.0
  far-has Left l h = h.2
  far-has Right l h = h.1

  both-have : (side : FoSide) (l : FoLit) (s : ℕ) → IsLiteral vars syms l → HasSort vars syms l.left s → HasSort vars syms (near side l) s × HasSort vars syms (far side l) s
  both-have Left l s h k = (k, right-has l s h k)
  both-have Right l s h k = (right-has l s h k, k)

  far-like-near : (side : FoSide) (l : FoLit) (s : ℕ) → IsLiteral vars syms l → HasSort vars syms (near side l) s → HasSort vars syms (far side l) s
  far-like-near side l s h k = subst (λ x. HasSort vars syms (far side l) x) (sort-one vars syms (near side l) h.0 s (near-has side l h) k) (far-has side l h)

  -- a term put into another keeps the sort
  mutual
    replaced-has : (path : List ℕ) (t u w : Term) (s r : ℕ) → HasSort vars syms t s → at_path t path ≡ Some u → HasSort vars syms u r → HasSort vars syms w r → HasSort vars syms (replaced t path w) s
    replaced-has [] t u w s r h e k m =
        let same : t ≡ u = cc in
        let sort : r ≡ s = sort-one vars syms u r s k (subst (λ x. HasSort vars syms x s) same h) in
        subst (λ x. HasSort vars syms w x) sort m
    replaced-has (n ∷ ns) (variable v) u w s r h e k m = absurd (let f : ⊥ = cc in f)
    replaced-has (n ∷ ns) (symbol f ts) u w s r h e k m = (h.0, h.1, h.2, replaced-have ts n ns u w h.0.args r h.3 e k m)

    replaced-have : (ts : Terms) (n : ℕ) (path : List ℕ) (u w : Term) (ss : List ℕ) (r : ℕ) → HaveSorts vars syms ts ss → at_argument ts n path ≡ Some u → HasSort vars syms u r → HasSort vars syms w r → HaveSorts vars syms (replaced_argument ts n path w) ss
    replaced-have none n path u w ss r h e k m = absurd (let f : ⊥ = cc in f)
    replaced-have (more t ts) n path u w [] r h e k m = absurd h
    replaced-have (more t ts) zero path u w (s ∷ ss) r h e k m = (replaced-has path t u w s r h.0 e k m, h.1)
    replaced-have (more t ts) (suc n) path u w (s ∷ ss) r h e k m = (h.0, replaced-have ts n path u w ss r h.1 e k m)

  with-near-is : (side : FoSide) (l : FoLit) (t : Term) (h : IsLiteral vars syms l) → HasSort vars syms t h.0 → IsLiteral vars syms (with_near side t l)
  with-near-is Left l t h k = (h.0, k, h.2)
  with-near-is Right l t h k = (h.0, h.1, k)

-- variables before and behind others
get-front : (xs ys : List ℕ) (v s : ℕ) → slice_get xs v ≡ Some s → slice_get (xs ++ ys) v ≡ Some s
get-front [] ys v s e = absurd (let f : ⊥ = cc in f)
get-front (x ∷ xs) ys zero s e = e
get-front (x ∷ xs) ys (suc v) s e = get-front xs ys v s e

pub get-back : {X : Type 0} (xs ys : List X) (v n : ℕ) (s : X) → n ≡ length xs + v → slice_get ys v ≡ Some s → slice_get (xs ++ ys) n ≡ Some s
get-back [] ys v n s e f = let g : n ≡ v = omega arith in subst (λ x. slice_get ys x ≡ Some s) (sym g) f
get-back (x ∷ xs) ys v zero s e f = absurd (let g : ⊥ = omega arith in g)
get-back (x ∷ xs) ys v (suc n) s e f = get-back xs ys v n s (omega arith) f

module _ (vars wars : List ℕ) (syms : List FoSym) where
  mutual
    before-has : (t : Term) (s : ℕ) → HasSort vars syms t s → HasSort (vars ++ wars) syms t s
    before-has (variable v) s h = get-front vars wars v s h
    before-has (symbol f ts) s h = (h.0, h.1, h.2, before-have ts h.0.args h.3)

    before-have : (ts : Terms) (ss : List ℕ) → HaveSorts vars syms ts ss → HaveSorts (vars ++ wars) syms ts ss
    before-have none [] h = tt
    before-have none (s ∷ ss) h = absurd h
    before-have (more t ts) [] h = absurd h
    before-have (more t ts) (s ∷ ss) h = (before-has t s h.0, before-have ts ss h.1)

  mutual
    behind-has : (t : Term) (s : ℕ) → HasSort wars syms t s → HasSort (vars ++ wars) syms (apply (λ v. variable (length vars + v)) t) s
    behind-has (variable v) s h = get-back vars wars v (length vars + v) s refl h
    behind-has (symbol f ts) s h = (h.0, h.1, h.2, behind-have ts h.0.args h.3)

    behind-have : (ts : Terms) (ss : List ℕ) → HaveSorts wars syms ts ss → HaveSorts (vars ++ wars) syms (apply_to_all (λ v. variable (length vars + v)) ts) ss
    behind-have none [] h = tt
    behind-have none (s ∷ ss) h = absurd h
    behind-have (more t ts) [] h = absurd h
    behind-have (more t ts) (s ∷ ss) h = (behind-has t s h.0, behind-have ts ss h.1)

  before-are : (ls : List FoLit) → AllByRecursion (IsLiteral vars syms) ls → AllByRecursion (IsLiteral (vars ++ wars) syms) ls
  before-are [] h = tt
  before-are (l ∷ ls) h = ((h.0.0, before-has l.left h.0.0 h.0.1, before-has l.right h.0.0 h.0.2), before-are ls h.1)

  behind-are : (ls : List FoLit) → AllByRecursion (IsLiteral wars syms) ls → AllByRecursion (IsLiteral (vars ++ wars) syms) (map (applied_literal (λ v. variable (length vars + v))) ls)
  behind-are [] h = tt
  behind-are (l ∷ ls) h = ((h.0.0, behind-has l.left h.0.0 h.0.1, behind-has l.right h.0.0 h.0.2), behind-are ls h.1)

set-all : (P : FoLit → Type 0) (ls : List FoLit) (j : ℕ) (l : FoLit) → AllByRecursion P ls → P l → AllByRecursion P (slice_set ls j l)
set-all P [] j l h k = tt
set-all P (x ∷ ls) zero l h k = (k, h.1)
set-all P (x ∷ ls) (suc j) l h k = (h.0, set-all P ls j l h.1 k)

-- a clause alone
sorted-alone : (syms : List FoSym) (c : FoClause) → AllByRecursion (IsLiteral c.vars syms) c.lits → AreSorted syms (c ∷ []) 0
sorted-alone syms c h x e = let same : c ≡ x = cc in subst (λ (y : FoClause). AllByRecursion (IsLiteral y.vars syms) y.lits) same h

pub factor-sorted : (syms : List FoSym) (clauses : List FoClause) (c i j : ℕ) (side : FoSide) (factored : FoClause) → AreSorted syms clauses c → IsFactor syms clauses c i j side factored → AreSorted syms (factored ∷ []) 0
factor-sorted syms clauses c i j side factored sorted h =
    let all = sorted h.clause h.one_at.clause_at in
    let one = all-at (IsLiteral h.clause.vars syms) h.clause.lits all i h.one h.one_at.literal_at in
    let other = all-at (IsLiteral h.clause.vars syms) h.clause.lits (sorted h.clause h.other_at.clause_at) j h.other h.other_at.literal_at in
    let sides = both-have h.clause.vars syms side h.other h.sort.0 other h.sort.2 in
    let right = right-has h.clause.vars syms h.one h.sort.0 one h.sort.1 in
    let last : AllByRecursion (IsLiteral h.clause.vars syms) (differ h.one.left (near side h.other) ∷ differ h.one.right (far side h.other) ∷ []) = ((h.sort.0, h.sort.1, sides.0), ((h.sort.0, right, sides.1), tt)) in
    let lits = all-both (IsLiteral h.clause.vars syms) (remove h.clause.lits j) _ (remove-all (IsLiteral h.clause.vars syms) h.clause.lits j all) last in
    sorted-alone syms factored (subst (λ (y : FoClause). AllByRecursion (IsLiteral y.vars syms) y.lits) (sym h.is) lits)

pub para-sorted : (syms : List FoSym) (clauses : List FoClause) (c i : ℕ) (side : FoSide) (d j : ℕ) (place_side : FoSide) (path : List ℕ) (made : FoClause) → AreSorted syms clauses c → AreSorted syms clauses d → IsPara syms clauses c i side d j place_side path made → AreSorted syms (made ∷ []) 0
para-sorted syms clauses c i side d j place_side path made giving receiving h =
    let given = before-are h.giver.vars h.receiver.vars syms h.giver.lits (giving h.giver h.equation_at.clause_at) in
    let received = behind-are h.giver.vars h.receiver.vars syms h.receiver.lits (receiving h.receiver h.receiver_at) in
    let equation = all-at (IsLiteral (h.giver.vars ++ h.receiver.vars) syms) h.giver.lits given i h.equation h.equation_at.literal_at in
    let literal = all-at (IsLiteral (h.giver.vars ++ h.receiver.vars) syms) (moved (length h.giver.vars) h.receiver) received j h.literal h.literal_at in
    let by = far-like-near (h.giver.vars ++ h.receiver.vars) syms side h.equation h.sort.0 equation h.sort.1 in
    let whole = replaced-has (h.giver.vars ++ h.receiver.vars) syms path (near place_side h.literal) h.term (far side h.equation) literal.0 h.sort.0 (near-has (h.giver.vars ++ h.receiver.vars) syms place_side h.literal literal) h.term_at h.sort.2 by in
    let new = with-near-is (h.giver.vars ++ h.receiver.vars) syms place_side h.literal (replaced (near place_side h.literal) path (far side h.equation)) literal whole in
    let others = set-all (IsLiteral (h.giver.vars ++ h.receiver.vars) syms) (moved (length h.giver.vars) h.receiver) j _ received new in
    let last : AllByRecursion (IsLiteral (h.giver.vars ++ h.receiver.vars) syms) (differ (near side h.equation) h.term ∷ []) = ((h.sort.0, h.sort.1, h.sort.2), tt) in
    let back = all-both (IsLiteral (h.giver.vars ++ h.receiver.vars) syms) _ _ others last in
    let lits = all-both (IsLiteral (h.giver.vars ++ h.receiver.vars) syms) (remove h.giver.lits i) _ (remove-all (IsLiteral (h.giver.vars ++ h.receiver.vars) syms) h.giver.lits i given) back in
    sorted-alone syms made (subst (λ (y : FoClause). AllByRecursion (IsLiteral y.vars syms) y.lits) (sym h.is) lits)

-- the clauses of a problem
pub problem-sorted : (p : FoProblem) → IsProblem p → (c : ℕ) → AreSorted p.syms p.clauses c
problem-sorted p h c clause e = (all-at (IsClause p.sorts p.syms) p.clauses h.clauses c clause e).lits
