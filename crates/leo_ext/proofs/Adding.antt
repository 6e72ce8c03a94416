-- Members that are put behind others, in banks that grow.
use Rattle.std.proofs.Common.{ℕ, zero, suc, ◌≡◌, ◌∙◌, ◌<◌, ◌≤◌, ◌+◌, List, [], ◌∷◌, ◌++◌, length, map, take, slice_get, slice_index_or, Some, refl, sym, ap, subst, append_assoc, append-nil, arith}
use Rattle.std.proofs.lemmas.List.{map-append}
use Rattle.leo_terms.specs.Contents.{Contents, IsBank, Extends}
use Rattle.leo_terms.proofs.CallerLemmas.{extends-itself, extends-trans, tree-kept}
use Rattle.leo_clause.specs.declared.clause.Clause.{Clause}
use Rattle.leo_clause.specs.declared.clause.Lit.{Lit}
use Rattle.leo_clause.specs.declared.record.StepRecord.{StepRecord}
use Rattle.leo_clause.specs.Trees.{Literal, ClauseTree, clause_at, literal_at}
use Rattle.leo_clause.specs.Typed.{AreLiteralsOf, IsClauseOf, IsTyped, IsTypedIn}
use Rattle.leo_kernel.specs.Records.{AreStepsOf, IsStepOf}
use Rattle.leo_kernel.specs.Steps.{Line}
use Rattle.leo_kernel.proofs.Growing.{clause-grow, clause-kept}
use Rattle.leo_kernel.proofs.LinesGrowing.{lines-grow, lines-kept}
use Rattle.leo_para.specs.Members.{each_literal}
use Rattle.leo_para.specs.declared.member.Due.{Due}
use Rattle.leo_ext.specs.Listing.{AreDuesOf, AreMembers, Adds, IsStep, member_at}
use Rattle.leo_ext.specs.Members.{Member}
use Rattle.leo_ext.proofs.Loops.{each-next, take-all}

-- members of a bank that grew
dues-grow : {c d : Contents} → Extends c d → (ds : List Due) → AreDuesOf c ds → AreDuesOf d ds
dues-grow e [] h = tt
dues-grow e (x ∷ ds) h = (lines-grow e x.records h.0, dues-grow e ds h.1)

dues-kept : {c d : Contents} → Extends c d → (ds : List Due) → AreDuesOf c ds → map (member_at d) ds ≡ map (member_at c) ds
dues-kept e [] h = refl
dues-kept e (x ∷ ds) h = rw (lines-kept e x.records h.0, dues-kept e ds h.1) refl

pub members-grow : {c d : Contents} → Extends c d → (ds : List Due) (ms : List Member) → AreMembers c ds ms → AreMembers d ds ms
members-grow e ds ms h = record { of_bank = dues-grow e ds h.of_bank; reads = dues-kept e ds h.of_bank ∙ h.reads }

dues-append : (c : Contents) (ds es : List Due) → AreDuesOf c ds → AreDuesOf c es → AreDuesOf c (ds ++ es)
dues-append c [] es h g = g
dues-append c (x ∷ ds) es h g = (h.0, dues-append c ds es h.1 g)

-- nothing is put there
pub adds-nothing : {c d : Contents} → Extends c d → (ds : List Due) → Adds c d ds ds []
adds-nothing e ds = record { extends = e; adds = λ ms h. rw (append-nil ms) (members-grow e ds ms h) }

pub adds-none : {c d : Contents} → Extends c d → (ds : List Due) (ms : List Member) → ms ≡ [] → Adds c d ds ds ms
adds-none e ds ms n = rw n (adds-nothing e ds)

pub adds-as : {c d : Contents} (old new : List Due) (xs ys : List Member) → Adds c d old new xs → xs ≡ ys → Adds c d old new ys
adds-as old new xs ys h e = rw (← e) h

pub adds-both : {b c d : Contents} (old middle new : List Due) (xs ys : List Member) → Adds b c old middle xs → Adds c d middle new ys → Adds b d old new (xs ++ ys)
adds-both old middle new xs ys h g = record {
  extends = extends-trans h.extends g.extends;
  adds = λ ms k. rw (← append_assoc ms xs ys) (g.adds (ms ++ xs) (h.adds ms k));
}

pub adds-after : {b c d : Contents} (old new : List Due) (xs : List Member) → Extends b c → Adds c d old new xs → Adds b d old new xs
adds-after old new xs e h = adds-both old old new [] xs (adds-nothing e old) h

pub adds-then : {b c d : Contents} (old new : List Due) (xs : List Member) → Adds b c old new xs → Extends c d → Adds b d old new xs
adds-then old new xs h e = adds-as old new (xs ++ []) xs (adds-both old new new xs [] h (adds-nothing e new)) (append-nil xs)

-- one member
pub adds-member : {c d : Contents} → Extends c d → (old new : List Due) (x : Due) (m : Member) → new ≡ old ++ x ∷ [] → AreStepsOf d x.records → member_at d x ≡ m → Adds c d old new (m ∷ [])
adds-member {c} {d} e old new x m is steps reads = record {
  extends = e;
  adds = λ ms h. (
      let g = members-grow e old ms h in
      rw is (record {
        of_bank = dues-append d old (x ∷ []) g.of_bank (steps, tt);
        reads = map-append (member_at d) old (x ∷ []) ∙ ap (λ (zs : List Member). zs ++ member_at d x ∷ []) g.reads ∙ ap (λ (z : Member). ms ++ z ∷ []) reads;
      })
      );
}

-- one record, and two
pub one-step_of : (c : Contents) (s : StepRecord) → IsStepOf c s → AreStepsOf c (s ∷ [])
one-step_of c s h zero x e = (let f : s ≡ x = cc in subst (IsStepOf c) f h)
one-step_of c s h (suc n) x e = absurd (cc)

pub two-steps_of : (c : Contents) (s t : StepRecord) → IsStepOf c s → IsStepOf c t → AreStepsOf c (s ∷ t ∷ [])
two-steps_of c s t h g zero x e = (let f : s ≡ x = cc in subst (IsStepOf c) f h)
two-steps_of c s t h g (suc zero) x e = (let f : t ≡ x = cc in subst (IsStepOf c) f g)
two-steps_of c s t h g (suc (suc n)) x e = absurd (cc)

pub adds-step : {c d : Contents} → Extends c d → (old new : List Due) (s : StepRecord) (pairs : List ℕ) (l : Line) → new ≡ old ++ record { records = s ∷ []; pairs = pairs } ∷ [] → IsStep d s l → Adds c d old new (record { lines = l ∷ []; pairs = pairs } ∷ [])
adds-step {c} {d} e old new s pairs l is h = adds-member e old new (record { records = s ∷ []; pairs = pairs }) (record { lines = l ∷ []; pairs = pairs }) is (one-step_of d s h.step_of) (rw h.reads refl)

pub adds-two : {c d : Contents} → Extends c d → (old new : List Due) (s t : StepRecord) (pairs : List ℕ) (l k : Line) → new ≡ old ++ record { records = s ∷ t ∷ []; pairs = pairs } ∷ [] → IsStep d s l → IsStep d t k → Adds c d old new (record { lines = l ∷ k ∷ []; pairs = pairs } ∷ [])
adds-two {c} {d} e old new s t pairs l k is h g = adds-member e old new (record { records = s ∷ t ∷ []; pairs = pairs }) (record { lines = l ∷ k ∷ []; pairs = pairs }) is (two-steps_of d s t h.step_of g.step_of) (rw (h.reads, g.reads) refl)

-- the literals of a clause, one after the other
module _ (give : ClauseTree → ℕ → Literal → List Member) (a : Contents) (k : Clause) where
  -- those of the first literals
  pub record AddsFirst (b : Contents) (n : ℕ) (old new : List Due) : Type 0 where
    pub adds : Adds a b old new (each_literal (give (clause_at a k)) 0 (map (literal_at a) (take n k.lits)))

  pub first-none : IsBank a → (old : List Due) → AddsFirst a 0 old old
  first-none h old = record { adds = adds-nothing (extends-itself h) old }

  pub lit-of : IsClauseOf a k → (i : ℕ) (l : Lit) → i < length k.lits → l ≡ slice_index_or k.lits i l → (l.left < length a.terms) × (l.right < length a.terms)
  lit-of of i l lt is = lits k.lits i of.literals_of lt is
    where
      lits : (ls : List Lit) (j : ℕ) → AreLiteralsOf a ls → j < length ls → l ≡ slice_index_or ls j l → (l.left < length a.terms) × (l.right < length a.terms)
      lits [] j h lt is = absurd (omega arith)
      lits (x ∷ ls) zero h lt is = rw is (h.0, h.1)
      lits (x ∷ ls) (suc j) h lt is = lits ls j h.2 (omega arith) is

  pub literal-same : {b : Contents} → Extends a b → IsClauseOf a k → (i : ℕ) (l : Lit) → i < length k.lits → l ≡ slice_index_or k.lits i l → literal_at b l ≡ literal_at a l
  literal-same e of i l lt is = (let w = lit-of of i l lt is in rw (tree-kept e l.left w.0, tree-kept e l.right w.1) refl)

  pub first-next : IsClauseOf a k → (b c : Contents) (i : ℕ) (l : Lit) (old middle new : List Due) → AddsFirst b i old middle → i < length k.lits → l ≡ slice_index_or k.lits i l → Adds b c middle new (give (clause_at b k) i (literal_at b l)) → AddsFirst c (i + 1) old new
  first-next of b c i l old middle new h lt is g =
      let e = h.adds.extends in
      let same : give (clause_at b k) i (literal_at b l) ≡ give (clause_at a k) i (literal_at a l) = rw (clause-kept e k of, literal-same e of i l lt is) refl in
      record { adds = adds-as old new _ _ (adds-both old middle new _ _ h.adds (adds-as middle new _ _ g same)) (sym (each-next (literal_at a) (give (clause_at a k)) k.lits i l lt is)) }

  -- the same where the literal is found by its number
  pub first-next-at : IsClauseOf a k → (b c : Contents) (i : ℕ) (old middle new : List Due) → AddsFirst b i old middle → i < length k.lits → ((l : Lit) → slice_get k.lits i ≡ Some l → Adds b c middle new (give (clause_at b k) i (literal_at b l))) → AddsFirst c (i + 1) old new
  first-next-at of b c i old middle new h lt g =
      let l = item k.lits i lt in
      first-next of b c i l.0 old middle new h lt l.2 (g l.0 l.1)
    where
      item : (ls : List Lit) (j : ℕ) → j < length ls → (x : Lit) × (slice_get ls j ≡ Some x) × (x ≡ slice_index_or ls j x)
      item [] j n = absurd (omega arith)
      item (x ∷ ls) zero n = (x, refl, refl)
      item (x ∷ ls) (suc j) n = item ls j (omega arith)

  pub first-all : (b : Contents) (i : ℕ) (old new : List Due) → length k.lits ≤ i → AddsFirst b i old new → Adds a b old new (each_literal (give (clause_at a k)) 0 (clause_at a k).literals)
  first-all b i old new l h = adds-as old new _ _ h.adds (rw (take-all k.lits i l) refl)

-- an item by its place
pub stands-at : {X : Type 0} (xs : List X) (i : ℕ) (x : X) → i < length xs → x ≡ slice_index_or xs i x → slice_get xs i ≡ Some x
stands-at [] i x l e = absurd (omega arith)
stands-at (y ∷ xs) zero x l e = rw e refl
stands-at (y ∷ xs) (suc i) x l e = stands-at xs i x (omega arith) e

pub lit-stands : (c : Contents) (ls : List Lit) (i : ℕ) (l : Lit) → AreLiteralsOf c ls → slice_get ls i ≡ Some l → (l.left < length c.terms) × (l.right < length c.terms)
lit-stands c [] i l h e = absurd (cc)
lit-stands c (x ∷ ls) zero l h e = (let f : x ≡ l = cc in rw (← f) (h.0, h.1))
lit-stands c (x ∷ ls) (suc i) l h e = lit-stands c ls i l h.2 e

pub typed-grow : {c d : Contents} → Extends c d → (k : Clause) → IsTypedIn c k → IsTypedIn d k
typed-grow e k h = record { of_bank = clause-grow e k h.of_bank; typed = subst IsTyped (sym (clause-kept e k h.of_bank)) h.typed }
