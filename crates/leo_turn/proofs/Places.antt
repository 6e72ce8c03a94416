-- Kept clauses and their lines, by number.
use Rattle.std.proofs.Common.{ℕ, zero, suc, ◌≡◌, ◌∙◌, ◌<◌, ◌≤◌, List, [], ◌∷◌, ◌++◌, length, map, slice_get, Some, None, refl, sym, ap, subst, arith}
use Rattle.std.proofs.lemmas.List.{map-append}
use Rattle.leo_terms.specs.Contents.{Contents, Extends}
use Rattle.leo_clause.specs.declared.clause.Clause.{Clause}
use Rattle.leo_clause.specs.Trees.{ClauseTree, clause_at}
use Rattle.leo_clause.specs.Typed.{IsTypedIn}
use Rattle.leo_kernel.specs.Steps.{Line}
use Rattle.leo_kernel.specs.Symbols.{abbreviation_of}
use Rattle.leo_keep.specs.Outcomes.{AreTypedIn}
use Rattle.leo_turn.specs.declared.search.Search.{Search}
use Rattle.leo_turn.specs.Growth.{Grows, IsLonger}
use Rattle.leo_turn.specs.Searches.{AreAllBelow, ArePlain, HasClause, HaveClauses, IsSearch, kept_of, lines_of}
use Rattle.leo_turn.proofs.Lists.{get-map, length-map, longer-length, some-same}
use Rattle.leo_turn.proofs.Valid.{kept-same}

clauses-many : (lines : List Line) (ns : List ℕ) (ks : List ClauseTree) → HaveClauses lines ns ks → length ns ≡ length ks
clauses-many lines [] [] h = refl
clauses-many lines [] (k ∷ ks) h = absurd h
clauses-many lines (n ∷ ns) [] h = absurd h
clauses-many lines (n ∷ ns) (k ∷ ks) h = ap suc (clauses-many lines ns ks h.1)

clauses-get : (lines : List Line) (ns : List ℕ) (ks : List ClauseTree) (i n : ℕ) (k : ClauseTree) → HaveClauses lines ns ks → slice_get ns i ≡ Some n → slice_get ks i ≡ Some k → HasClause lines n k
clauses-get lines [] ks i n k h e f = absurd cc
clauses-get lines (m ∷ ns) [] i n k h e f = absurd h
clauses-get lines (m ∷ ns) (j ∷ ks) zero n k h e f = (let a : m ≡ n = some-same m n e in let b : j ≡ k = some-same j k f in subst (λ (i : ClauseTree). HasClause lines n i) b (subst (λ i. HasClause lines i j) a h.0))
clauses-get lines (m ∷ ns) (j ∷ ks) (suc i) n k h e f = clauses-get lines ns ks i n k h.1 e f

plain-get : (lines : List Line) (ns : List ℕ) (i n : ℕ) → ArePlain lines ns → slice_get ns i ≡ Some n → abbreviation_of lines n ≡ None
plain-get lines [] i n h e = absurd cc
plain-get lines (m ∷ ns) zero n h e = (let a : m ≡ n = some-same m n e in subst (λ i. abbreviation_of lines i ≡ None) a h.0)
plain-get lines (m ∷ ns) (suc i) n h e = plain-get lines ns i n h.1 e

typed-get : (c : Contents) (ks : List Clause) (i : ℕ) (k : Clause) → AreTypedIn c ks → slice_get ks i ≡ Some k → IsTypedIn c k
typed-get c [] i k h e = absurd cc
typed-get c (j ∷ ks) zero k h e = (let a : j ≡ k = some-same j k e in subst (IsTypedIn c) a h.0)
typed-get c (j ∷ ks) (suc i) k h e = typed-get c ks i k h.1 e

pub below-get : (n : ℕ) (ns : List ℕ) (i m : ℕ) → AreAllBelow n ns → slice_get ns i ≡ Some m → m < n
below-get n [] i m h e = absurd cc
below-get n (j ∷ ns) zero m h e = (let a : j ≡ m = some-same j m e in subst (λ k. k < n) a h.0)
below-get n (j ∷ ns) (suc i) m h e = below-get n ns i m h.1 e

pub below-more : (n m : ℕ) (ns : List ℕ) → n ≤ m → AreAllBelow n ns → AreAllBelow m ns
below-more n m [] l h = tt
below-more n m (k ∷ ns) l h = (let a = h.0 in omega arith, below-more n m ns l h.1)

-- of a kept clause
pub kept-typed : (c : Contents) (s : Search) (i : ℕ) (k : Clause) → IsSearch c s → slice_get s.kept i ≡ Some k → IsTypedIn c k
kept-typed c s i k h e = typed-get c s.kept i k h.typed e

pub kept-line : (c : Contents) (s : Search) (i n : ℕ) (k : Clause) → IsSearch c s → slice_get s.kept i ≡ Some k → slice_get s.at i ≡ Some n → HasClause (lines_of c s) n (clause_at c k)
kept-line c s i n k h e f = clauses-get (lines_of c s) s.at (kept_of c s) i n (clause_at c k) h.clause_lines f (get-map (clause_at c) s.kept i k e)

pub kept-plain : (c : Contents) (s : Search) (i n : ℕ) → IsSearch c s → slice_get s.at i ≡ Some n → abbreviation_of (lines_of c s) n ≡ None
kept-plain c s i n h e = plain-get (lines_of c s) s.at i n h.plain e

pub kept-tree : (c : Contents) (s : Search) (i : ℕ) (k : Clause) (t : ClauseTree) → slice_get s.kept i ≡ Some k → slice_get (kept_of c s) i ≡ Some t → clause_at c k ≡ t
kept-tree c s i k t e f = some-same (clause_at c k) t (sym (get-map (clause_at c) s.kept i k e) ∙ f)

pub kept-at : (c : Contents) (s : Search) → IsSearch c s → length s.at ≡ length s.kept
kept-at c s h = clauses-many (lines_of c s) s.at (kept_of c s) h.clause_lines ∙ length-map (clause_at c) s.kept

-- kept clauses of a search that went on
pub kept-more : {old new : Search} → Grows old new → IsLonger old.kept new.kept
kept-more g = record { more = g.clauses; is = g.kept }

pub kept-longer : {c d : Contents} → Extends c d → (old new : Search) → IsSearch c old → Grows old new → IsLonger (kept_of c old) (kept_of d new)
kept-longer {c} {d} e old new h g = record {
  more = map (clause_at d) g.clauses;
  is = ap (map (clause_at d)) g.kept ∙ map-append (clause_at d) old.kept g.clauses ∙ ap (λ (ks : List ClauseTree). ks ++ map (clause_at d) g.clauses) (kept-same e old h);
}

pub kept-count : {old new : Search} (n : ℕ) → Grows old new → n < length old.kept → n < length new.kept
kept-count n g l = (let a = longer-length (kept-more g) in omega arith)

pub below-grown : {old new : Search} (ns : List ℕ) → Grows old new → AreAllBelow (length old.kept) ns → AreAllBelow (length new.kept) ns
below-grown {old} {new} ns g h = below-more (length old.kept) (length new.kept) ns (longer-length (kept-more g)) h
