-- Terms that stand ready, as the bank grows and as they are made.
use Rattle.std.proofs.Common.{ℕ, zero, suc, ◌≡◌, ◌<◌, ◌++◌, List, [], ◌∷◌, length, slice_get, slice_index_or, Option, Some, None, refl, arith, ◌⊎◌, inl, inr}
use Rattle.std.proofs.lemmas.Option.{slice_get_within}
use Rattle.leo_q0.specs.Terms.{base}
use Rattle.leo_terms.specs.Tree.{Tree, IsBoundAt}
use Rattle.leo_terms.specs.Contents.{Contents, IsBank, Extends, IsTerm, AreTerms, argument, tree_at, type_at}
use Rattle.leo_terms.proofs.CallerLemmas.{sound, tree-kept, reads-base}
use Rattle.leo_clause.specs.declared.clause.Lit.{Lit}
use Rattle.leo_clause.specs.declared.clause.Clause.{Clause}
use Rattle.leo_clause.specs.Typed.{AreTypesOf, AreLiteralsOf, IsClauseOf}
use Rattle.conclude_rows.specs.declared.board.Board.{Board}
use Rattle.leo_clause.specs.declared.record.StepRecord.{StepRecord}
use Rattle.leo_kernel.specs.Records.{AreStepsOf, IsStepOf}
use Rattle.leo_kernel.proofs.Lists.{get-index}
use Rattle.leo_clause.specs.Trees.{ClauseTree}
use Rattle.leo_conclude.specs.declared.concluding.Conclusion.{Conclusion}
use Rattle.leo_conclude.specs.Results.{AreConclusionsOf}
use Rattle.conclude_rows.specs.Boards.{AreRecorded, IsBoard}
use Rattle.conclude_rows.specs.Stacks.{IsReady, AreReady, AreSymbols}

-- growth
pub ready-later : {c d : Contents} → Extends c d → (t : ℕ) → IsReady c t → IsReady d t
ready-later {c} {d} e t h =
    let m = e.terms_more in
    let l = h.within in
    record { within = omega arith; indices = λ k. rw (tree-kept e t h.within) (h.indices k) }

pub are_ready-later : {c d : Contents} → Extends c d → (ts : List ℕ) → AreReady c ts → AreReady d ts
are_ready-later e [] h = tt
are_ready-later e (t ∷ ts) h = (ready-later e t h.0, are_ready-later e ts h.1)

pub symbols-later : {c d : Contents} → Extends c d → (ss : List ℕ) → AreSymbols c ss → AreSymbols d ss
symbols-later e ss h n s g = let l = h n s g in let m = e.symbols_more in omega arith

pub types-later : {c d : Contents} → Extends c d → (ns : List ℕ) → AreTypesOf c ns → AreTypesOf d ns
types-later e [] h = tt
types-later e (a ∷ ns) h = let m = e.types_more in let l = h.0 in (omega arith, types-later e ns h.1)

pub type-within : (c : Contents) (ns : List ℕ) → AreTypesOf c ns → (i a : ℕ) → i < length ns → a ≡ slice_index_or ns i a → a < length c.types
type-within c [] h i a l e = absurd (omega arith)
type-within c (b ∷ ns) h zero a l e = rw e h.0
type-within c (b ∷ ns) h (suc i) a l e = type-within c ns h.1 i a (omega arith) e

pub thing-reads : (c : Contents) → IsBank c → type_at c 1 ≡ base 1
thing-reads c b = reads-base b 1 1 (sound c b).thing_second

pub first-types : (c : Contents) → IsBank c → (a b : ℕ) → a ≡ 0 → b ≡ 1 → AreTypesOf c (a ∷ b ∷ [])
first-types c h a b e f = (let m = slice_get_within c.types 1 _ (sound c h).thing_second in (omega arith, (omega arith, tt)))

-- a term that reads as a tree whose loose indices are things
pub made-ready : (c : Contents) (t i : ℕ) (s : Tree) → IsTerm c t i s → ((k : ℕ) → IsBoundAt k (base 1) s) → IsReady c t
made-ready c t i s m h = record { within = m.within; indices = λ k. rw (m.reads) (h k) }

pub argument-indices : (c : Contents) (x : Option ℕ) → ((t : ℕ) → x ≡ Some t → IsReady c t) → (k : ℕ) → IsBoundAt k (base 1) (argument (tree_at c) x)
argument-indices c None h k = tt
argument-indices c (Some t) h k = (h t refl).indices k

-- lists that grow at their end
pub lits-later : {c d : Contents} → Extends c d → (ls : List Lit) → AreLiteralsOf c ls → AreLiteralsOf d ls
lits-later e [] h = tt
lits-later e (l ∷ ls) h = let m = e.terms_more in let p = h.0 in let q = h.1 in (omega arith, omega arith, lits-later e ls h.2)

pub lits-end : (c : Contents) (ls : List Lit) (l : Lit) → AreLiteralsOf c ls → l.left < length c.terms → l.right < length c.terms → AreLiteralsOf c (ls ++ l ∷ [])
lits-end c [] l h p q = (p, q, tt)
lits-end c (k ∷ ls) l h p q = (h.0, h.1, lits-end c ls l h.2 p q)

pub types-end : (c : Contents) (ns : List ℕ) (a : ℕ) → AreTypesOf c ns → a < length c.types → AreTypesOf c (ns ++ a ∷ [])
types-end c [] a h l = (l, tt)
types-end c (b ∷ ns) a h l = (h.0, types-end c ns a h.1 l)

end-only : (xs : List ℕ) (x i y : ℕ) → slice_get (xs ++ x ∷ []) i ≡ Some y → (slice_get xs i ≡ Some y) ⊎ (x ≡ y)
end-only [] x zero y h = inr (cc)
end-only [] x (suc i) y h = (let f : ⊥ = cc in absurd f)
end-only (z ∷ xs) x zero y h = inl h
end-only (z ∷ xs) x (suc i) y h = end-only xs x i y h

pub all-end : (n : ℕ) (xs : List ℕ) (x : ℕ) → ((i y : ℕ) → slice_get xs i ≡ Some y → y < n) → x < n → (i y : ℕ) → slice_get (xs ++ x ∷ []) i ≡ Some y → y < n
all-end n xs x h l i y e =
    elim (end-only xs x i y e) [
      | inl g ↦ h i y g
      | inr g ↦ rw (← g) l
    ]

pub board-later : {c d : Contents} → Extends c d → (b : Board) → IsBoard c b → IsBoard d b
board-later e b h = record {
  types_of = types-later e b.types h.types_of;
  symbols_of = symbols-later e b.symbols h.symbols_of;
}

-- clauses
pub clause-later : {c d : Contents} → Extends c d → (k : Clause) → IsClauseOf c k → IsClauseOf d k
clause-later e k h = record { types_of = types-later e k.vars h.types_of; literals_of = lits-later e k.lits h.literals_of }

-- the records of conclusions
pub recorded : (c : Contents) (start : ClauseTree) (rs : List Conclusion) → AreConclusionsOf c start rs → AreRecorded c rs
recorded c start [] h = tt
recorded c start (r ∷ rs) h = ((h zero r refl).steps, recorded c start rs (λ n x e. h (suc n) x e))

pub found-at : (c : Contents) (rs : List Conclusion) → AreRecorded c rs → (i : ℕ) (r : Conclusion) → i < length rs → r ≡ slice_index_or rs i r → AreStepsOf c r.records
found-at c [] h i r l e = absurd (omega arith)
found-at c (x ∷ rs) h zero r l e = rw e h.0
found-at c (x ∷ rs) h (suc i) r l e = found-at c rs h.1 i r (omega arith) e

pub step-at : (c : Contents) (steps : List StepRecord) → AreStepsOf c steps → (i : ℕ) (s : StepRecord) → i < length steps → s ≡ slice_index_or steps i s → IsStepOf c s
step-at c steps h i s l e = h i s (get-index steps i s l e)

-- the terms of a list
pub term-at : (c : Contents) (ts : List ℕ) → AreTerms c ts → (i t : ℕ) → i < length ts → t ≡ slice_index_or ts i t → t < length c.terms
term-at c ts h i t l e = h i t (get-index ts i t l e)
