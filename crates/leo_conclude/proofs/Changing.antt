-- Clauses of which a part is replaced.
use Rattle.std.proofs.Common.{ℕ, ◌≡◌, ◌∙◌, ◌+◌, ◌≤◌, List, [], ◌∷◌, ◌++◌, length, map, take, drop, refl, sym, ap, subst, append-nil, arith}
use Rattle.std.proofs.lemmas.List.{length-append}
use Rattle.leo_terms.specs.Contents.{Contents, IsBank}
use Rattle.leo_terms.proofs.CallerLemmas.{extends-itself}
use Rattle.leo_clause.specs.declared.clause.Clause.{Clause}
use Rattle.leo_clause.specs.declared.clause.Lit.{Lit}
use Rattle.leo_clause.specs.declared.record.Rule.TheVariants as record_of
use Rattle.leo_clause.specs.Trees.{Literal, ClauseTree, clause_at, literal_at}
use Rattle.leo_clause.specs.Typed.{AreLiteralsOf, AreTyped, IsTyped, IsTypedIn}
use Rattle.leo_kernel.specs.Conclusions.{Decomposes, NeverHolds, with_new}
use Rattle.leo_kernel.specs.Conditions.{HaveOneHeadType}
use Rattle.leo_kernel.specs.Steps.{drop_literal, decompose}
use Rattle.leo_clausify.proofs.Branching.{placed-of, placed-reads}
use Rattle.leo_clausify.proofs.Following.{omitted-follows}
use Rattle.leo_clausify.proofs.Placing.{no-fresh, typed-placed}
use Rattle.leo_conclude.specs.declared.derived.Derived.{Derived}
use Rattle.leo_conclude.specs.Deriving.{IsChanged}
use Rattle.leo_conclude.proofs.Between.{between-get, between-with}
use Rattle.leo_conclude.proofs.Origins.{clause-with, literal-at, parts-from}
use Rattle.leo_conclude.proofs.Steps.{derived-step, decomposed-follows, from-read}

longer-more : {X : Type 0} (xs ys : List X) (x : X) → ys ≡ xs ++ x ∷ [] → length xs ≤ length ys
longer-more xs ys x e = (let f = ap length e in let g = length-append xs (x ∷ []) in omega arith)

module _ (c : Contents) (b : IsBank c) (d r : Derived) (k : Clause) (at : ℕ) (new : List Lit) (typed : IsTypedIn c d.clause) (vars : k.vars ≡ d.clause.vars) (lits : k.lits ≡ take at d.clause.lits ++ (new ++ drop (at + 1) d.clause.lits)) (of_bank : AreLiteralsOf c new) (clause : r.clause ≡ k) where
  parent : ClauseTree
  parent = clause_at c d.clause

  same-vars : k.vars ≡ d.clause.vars ++ []
  same-vars = vars ∙ sym (append-nil d.clause.vars)

  reads : clause_at c k ≡ with_new (clause_at c d.clause) at [] (map (literal_at c) new)
  reads = placed-reads (extends-itself b) d.clause k at [] new same-vars lits typed.of_bank tt

  typed-now : AreTyped (clause_at c d.clause).variables (map (literal_at c) new) → IsTypedIn c k
  typed-now h = record {
    of_bank = placed-of (extends-itself b) d.clause k at [] new same-vars lits typed.of_bank tt of_bank;
    typed = subst IsTyped (sym reads) (typed-placed (clause_at c d.clause) at [] (map (literal_at c) new) typed.typed (no-fresh (clause_at c d.clause).variables (map (literal_at c) new) h));
  }

  literals-now : (front back : List Literal) (l : Literal) → (clause_at c d.clause).literals ≡ front ++ (l ∷ back) → length front ≡ at → (clause_at c r.clause).literals ≡ front ++ (map (literal_at c) new ++ back)
  literals-now front back l is count = ap (λ (x : Clause). (clause_at c x).literals) clause ∙ ap (λ (t : ClauseTree). t.literals) reads ∙ between-with (clause_at c d.clause).literals front back at l is count (map (literal_at c) new)

  -- a literal that never holds is left out
  pub omitted-changed : new ≡ [] → r.records ≡ d.records ++ record { clause = k; rule = record_of.Drop (length d.records) at } ∷ [] → (front back : List Literal) (l : Literal) → (clause_at c d.clause).literals ≡ front ++ (l ∷ back) → length front ≡ at → NeverHolds l → IsChanged c d r front [] back
  omitted-changed none records front back l is count never =
      let get = between-get (clause_at c d.clause).literals front back at l is count in
      let t = typed-now (rw none tt) in
      record {
        typed = rw clause t;
        variables = ap (λ (x : Clause). x.vars) clause ∙ vars;
        literals = literals-now front back l is count ∙ rw none refl;
        longer = longer-more d.records r.records _ records;
        derived = λ start h. derived-step c start d r k (record_of.Drop (length d.records) at) (λ p. drop_literal p at) h clause records t tt refl
            (rw (reads, none) (omitted-follows [] (clause_at c d.clause) at l get typed.typed never).follows.accepted)
            (from-read start (clause_at c d.clause) (clause_at c d.clause) (clause_at c k) (with_new (clause_at c d.clause) at [] []) (drop_literal (length d.records) at) refl (reads ∙ ap (λ (ls : List Lit). with_new (clause_at c d.clause) at [] (map (literal_at c) ls)) none)
            (λ o b s p. (clause-with o b (clause_at c d.clause) at [] [] p tt tt, tt)));
      }

  -- an inequation becomes its parts
  pub decomposed-changed : r.records ≡ d.records ++ record { clause = k; rule = record_of.Decompose (length d.records) at } ∷ [] → (front back : List Literal) (l : Literal) → (clause_at c d.clause).literals ≡ front ++ (l ∷ back) → length front ≡ at → Decomposes l (map (literal_at c) new) → HaveOneHeadType l.left l.right → AreTyped (clause_at c d.clause).variables (map (literal_at c) new) → IsChanged c d r front (map (literal_at c) new) back
  decomposed-changed records front back l is count decomposes one typed-new =
      let get = between-get (clause_at c d.clause).literals front back at l is count in
      let t = typed-now typed-new in
      record {
        typed = rw clause t;
        variables = ap (λ (x : Clause). x.vars) clause ∙ vars;
        literals = literals-now front back l is count;
        longer = longer-more d.records r.records _ records;
        derived = λ start h. derived-step c start d r k (record_of.Decompose (length d.records) at) (λ p. decompose p at) h clause records t tt refl
            (rw reads (decomposed-follows (clause_at c d.clause) at l (map (literal_at c) new) get typed.typed decomposes one typed-new))
            (from-read start (clause_at c d.clause) (clause_at c d.clause) (clause_at c k) (with_new (clause_at c d.clause) at [] (map (literal_at c) new)) (decompose (length d.records) at) refl reads
            (λ o b s p. (clause-with o b (clause_at c d.clause) at [] (map (literal_at c) new) p tt (parts-from o b l (map (literal_at c) new) decomposes (literal-at o (clause_at c d.clause).literals at l p.1 get)), tt)));
      }

-- one change after the other
pub changed-twice : (c : Contents) (d e r : Derived) (front new back front2 new2 back2 front3 new3 back3 : List Literal) → IsChanged c d e front new back → IsChanged c e r front2 new2 back2 → front2 ++ (new2 ++ back2) ≡ front3 ++ (new3 ++ back3) → IsChanged c d r front3 new3 back3
changed-twice c d e r front new back front2 new2 back2 front3 new3 back3 h g same = record {
  typed = g.typed;
  variables = g.variables ∙ h.variables;
  literals = g.literals ∙ same;
  longer = (let a = h.longer in let b = g.longer in omega arith);
  derived = λ start k. g.derived start (h.derived start k);
}

-- no change
pub changed-none : (c : Contents) (d : Derived) (front new back : List Literal) → IsTypedIn c d.clause → (clause_at c d.clause).literals ≡ front ++ (new ++ back) → IsChanged c d d front new back
changed-none c d front new back typed is = record { typed = typed; variables = refl; literals = is; longer = omega arith; derived = λ start h. h }
