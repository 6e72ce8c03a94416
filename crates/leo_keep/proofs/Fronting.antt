-- Fronts of kept clauses.
use Rattle.std.proofs.Common.{ℕ, zero, suc, ◌≡◌, ◌∙◌, ◌<◌, ◌≤◌, true, false, List, [], ◌∷◌, length, map, slice_get, Option, Some, None, refl, sym, ap, subst, arith}
use Rattle.leo_terms.specs.Contents.{Contents}
use Rattle.leo_clause.specs.declared.clause.Clause.{Clause}
use Rattle.leo_clause.specs.declared.clause.Lit.{Lit}
use Rattle.leo_clause.specs.Trees.{literal_at}
use Rattle.leo_keep.specs.declared.fronts.Front.{Front}
use Rattle.leo_keep.specs.Fronts.{AreFronts, IsFront, IsFrontIn, IsNoCopy, SendsNone, second_or_first}
use Rattle.leo_keep.specs.Heads.{HasHeads, NeverAmong, NeverSend}
use Rattle.std.proofs.lemmas.List.{length-map}
use Rattle.leo_keep.proofs.Sending.{first-never, rest-never}

-- the front of a clause of a list
pub front-at : (c : Contents) (ks : List Clause) (fs : List (Option Front)) → AreFronts c ks fs → (i : ℕ) (k : Clause) (f : Option Front) → slice_get ks i ≡ Some k → slice_get fs i ≡ Some f → IsFront c k f
front-at c [] [] h i k f e g = absurd (let z : ⊥ = cc in z)
front-at c [] (g ∷ fs) h i k f e j = absurd h
front-at c (k ∷ ks) [] h i j f e g = absurd h
front-at c (x ∷ ks) (y ∷ fs) h zero k f e g = let p : x ≡ k = cc in let q : y ≡ f = cc in rw (← p, ← q) h.0
front-at c (x ∷ ks) (y ∷ fs) h (suc i) k f e g = front-at c ks fs h.1 i k f e g

pub fronts-length : (c : Contents) (ks : List Clause) (fs : List (Option Front)) → AreFronts c ks fs → length fs ≡ length ks
fronts-length c [] [] h = refl
fronts-length c [] (f ∷ fs) h = absurd h
fronts-length c (k ∷ ks) [] h = absurd h
fronts-length c (k ∷ ks) (f ∷ fs) h = ap suc (fronts-length c ks fs h.1)

pub front-below : (c : Contents) (ks : List Clause) (fs : List (Option Front)) → AreFronts c ks fs → (i : ℕ) → i < length ks → i < length fs
front-below c ks fs h i l = rw (fronts-length c ks fs h) l

pub front-within : (c : Contents) (k : Clause) (f : Option Front) → IsFront c k f → IsFrontIn c f
front-within c k None h = tt
front-within c k (Some f) h = (h.heads.left_within, h.heads.right_within, (h.second.left_within, h.second.right_within, tt))

-- what a front rules out
pub other-first : (f : Front) (d : Clause) (l : Lit) (rest : List Lit) → d.lits ≡ l ∷ rest → (f.first ≡ l → ⊥) → IsNoCopy (Some f) d
other-first f d l rest e g c k h same = g (let p : f.first ∷ h.rest ≡ l ∷ rest = sym h.begins ∙ same ∙ e in let q : f.first ≡ l = cc in q)

pub some-first : (f : Front) (d : Clause) → length d.lits ≡ 0 → IsNoCopy (Some f) d
some-first f d e c k h same =
    let p : length k.lits ≡ 0 = ap length same ∙ e in
    let q : length k.lits ≡ suc (length h.rest) = ap length h.begins in
    let z : ⊥ = omega arith in z

pub none-first : (d : Clause) (l : Lit) (rest : List Lit) → d.lits ≡ l ∷ rest → IsNoCopy None d
none-first d l rest e c k h same = (let p : [] ≡ l ∷ rest = sym h ∙ same ∙ e in let z : ⊥ = cc in z)

-- an empty clause subsumes nothing
pub empty-sends : (c : Contents) (heads : List Lit) → SendsNone c None heads
empty-sends c heads k d h x s =
    let e : length (map (literal_at c) k.lits) ≡ 0 = ap (λ (ls : List Lit). length (map (literal_at c) ls)) h in
    let l = s.not_empty in
    let z : ⊥ = omega arith in z

pub many-sends : (c : Contents) (f : Front) (heads : List Lit) → f.few ≡ false → SendsNone c (Some f) heads
many-sends c f heads e k d h x s =
    let l : length k.lits ≤ 3 = subst (λ n. n ≤ 3) (length-map k.lits (literal_at c)) s.few in
    let t : f.few ≡ true = h.few.1 l in
    let z : ⊥ = cc in z

pub first-sends : (c : Contents) (f : Front) (heads : List Lit) → NeverAmong c f.heads heads → SendsNone c (Some f) heads
first-sends c f heads n k d h x s =
    let e : map (literal_at c) k.lits ≡ literal_at c f.first ∷ map (literal_at c) h.rest = ap (map (literal_at c)) h.begins in
    let never : NeverSend c (map (literal_at c) k.lits) heads = rw e (first-never c (literal_at c f.first) (map (literal_at c) h.rest) f.heads heads h.heads n) in
    never (map (literal_at c) d.lits) s.terms x s.among

second-never : (c : Contents) (l h : Lit) (rest heads : List Lit) → HasHeads c (literal_at c (second_or_first l rest)) h → NeverAmong c h heads → NeverSend c (literal_at c l ∷ map (literal_at c) rest) heads
second-never c l h [] heads g n = first-never c (literal_at c l) [] h heads g n
second-never c l h (m ∷ ms) heads g n = rest-never c (literal_at c l) (literal_at c m ∷ map (literal_at c) ms) heads (first-never c (literal_at c m) (map (literal_at c) ms) h heads g n)

pub second-sends : (c : Contents) (f : Front) (heads : List Lit) → NeverAmong c f.second heads → SendsNone c (Some f) heads
second-sends c f heads n k d h x s =
    let e : map (literal_at c) k.lits ≡ literal_at c f.first ∷ map (literal_at c) h.rest = ap (map (literal_at c)) h.begins in
    let never : NeverSend c (map (literal_at c) k.lits) heads = rw e (second-never c f.first f.second h.rest heads h.second n) in
    never (map (literal_at c) d.lits) s.terms x s.among

pub other-clause : (c : Contents) (k d : Clause) (f : Option Front) → IsFront c k f → IsNoCopy f d → (k.lits ≡ d.lits → ⊥)
other-clause c k d f h n e = n c k h e
