-- The members of two literals that become one, in a bank.
use Rattle.std.proofs.Common.{ℕ, zero, suc, nat_eq, ◌≡◌, ◌∙◌, ◌<◌, ◌+◌, ◌-◌, Bool, true, false, List, [], ◌∷◌, ◌++◌, length, map, take, drop, refl, sym, ap, arith}
use Rattle.std.proofs.lemmas.List.{map-append}
use Rattle.leo_q0.specs.Terms.{same_type}
use Rattle.leo_terms.specs.Contents.{Contents, IsBank, tree_at, type_number}
use Rattle.leo_terms.specs.Tree.{type_of}
use Rattle.leo_terms.proofs.CallerLemmas.{extends-itself}
use Rattle.leo_clause.specs.declared.clause.Clause.{Clause}
use Rattle.leo_clause.specs.declared.clause.Lit.{Lit}
use Rattle.leo_clause.specs.declared.record.Rule.TheVariants as record_of
use Rattle.leo_clause.specs.declared.record.StepRecord.{StepRecord}
use Rattle.leo_clause.specs.Sameness.{same_tree}
use Rattle.leo_clause.specs.Trees.{Literal, ClauseTree, clause_at, literal_at}
use Rattle.leo_clause.specs.Typed.{AreLiteralsOf, IsClauseOf}
use Rattle.leo_kernel.specs.Conclusions.{without, factored}
use Rattle.leo_kernel.specs.Shapes.{unequal}
use Rattle.leo_kernel.specs.Steps.{Line}
use Rattle.leo_clausify.specs.Splitting.{turned}
use Rattle.leo_para.specs.Members.{is_formula}
use Rattle.leo_para.specs.Spines.{heads_meet}
use Rattle.leo_para.specs.declared.member.Due.{Due}
use Rattle.leo_ext.specs.declared.factor.Pair.{Pair}
use Rattle.leo_ext.specs.Listing.{Adds}
use Rattle.leo_ext.specs.Members.{are_alike, factor_as_it_is, factor_line, factor_turned, last_two, with_turned}
use Rattle.leo_ext.specs.Pairs.{AreTurned, IsLitOf, IsPairOf, are_alike_by, factored_lits, turned_lit}
use Rattle.leo_ext.proofs.Adding.{adds-as, adds-step, adds-two, lit-stands}
use Rattle.leo_ext.proofs.Comparing.{same-trees, terms-types}
use Rattle.leo_ext.proofs.Loops.{length-mapped}
use Rattle.leo_ext.proofs.Placed.{lits-both, placed-of, placed-reads, replaced-of, replaced-reads}

pub alike-as : (c : Contents) → IsBank c → (l k : Lit) → IsLitOf c l → IsLitOf c k → (p q v t r : Bool) (m n : ℕ) → p ≡ is_formula (literal_at c l) → q ≡ is_formula (literal_at c k) → v ≡ nat_eq l.right k.right → m ≡ type_number c l.left → n ≡ type_number c k.left → t ≡ nat_eq m n → r ≡ are_alike_by p q v t → r ≡ are_alike (literal_at c l) (literal_at c k)
alike-as c b l k h g p q v t r m n e f i j y z w =
    let a : v ≡ same_tree (tree_at c l.right) (tree_at c k.right) = i ∙ same-trees c b l.right k.right h.1 g.1 in
    let d : t ≡ same_type (type_of (tree_at c l.left)) (type_of (tree_at c k.left)) = terms-types c b l.left k.left m n h.0 g.0 j y t z in
    w ∙ rw (e, f, a, d) refl

pub replaced-length : {X : Type 0} (ls : List X) (i : ℕ) (x : X) → i < length ls → i < length (take i ls ++ ((x ∷ []) ++ drop (i + 1) ls))
replaced-length [] i x l = absurd (omega arith)
replaced-length (y ∷ ls) zero x l = omega arith
replaced-length (y ∷ ls) (suc i) x l = (let h = replaced-length ls i x (omega arith) in let e : suc i + 1 ≡ suc (i + 1) = omega arith in rw e (omega arith))

module _ (c : Contents) where
  factored-of : (ls : List Lit) (j : ℕ) (l k : Lit) → AreLiteralsOf c ls → IsLitOf c l → IsLitOf c k → AreLiteralsOf c (factored_lits ls j l k)
  factored-of ls j l k h f g = lits-both c (take j ls ++ ([] ++ drop (j + 1) ls)) _ (replaced-of c ls [] j h tt) (f.0, g.0, (f.1, g.1, tt))

  factored-reads : (ls : List Lit) (j : ℕ) (l k : Lit) → map (literal_at c) (factored_lits ls j l k) ≡ without (map (literal_at c) ls) j ++ (unequal (tree_at c l.left) (tree_at c k.left) ∷ unequal (tree_at c l.right) (tree_at c k.right) ∷ [])
  factored-reads ls j l k = map-append (literal_at c) (take j ls ++ ([] ++ drop (j + 1) ls)) _ ∙ ap (λ (zs : List Literal). zs ++ (unequal (tree_at c l.left) (tree_at c k.left) ∷ unequal (tree_at c l.right) (tree_at c k.right) ∷ [])) (replaced-reads c ls [] j)

  -- the conclusion
  module _ (k q : Clause) (j : ℕ) (one other : Lit) (vars : q.vars ≡ k.vars) (lits : q.lits ≡ factored_lits k.lits j one other) where
    pub conclusion-of : IsClauseOf c k → IsLitOf c one → IsLitOf c other → IsClauseOf c q
    conclusion-of h f g = record { types_of = rw vars h.types_of; literals_of = rw lits (factored-of k.lits j one other h.literals_of f g) }

    pub conclusion-reads : clause_at c q ≡ factored (clause_at c k) j (literal_at c one) (literal_at c other)
    conclusion-reads = rw (vars, lits, factored-reads k.lits j one other) refl

  pairs-are : (k : Clause) (count : ℕ) → count ≡ length k.lits → (count - 1) ∷ count ∷ [] ≡ last_two (clause_at c k)
  pairs-are k count e = rw (e, length-mapped (literal_at c) k.lits) refl

  pub as-it-is-added : IsBank c → (k q : Clause) → IsClauseOf c k → (before first second count : ℕ) (p : Pair) (old after : List Due) (records : List StepRecord) (r : Bool) → IsPairOf k p → r ≡ heads_meet [] (tree_at c p.one.left) (tree_at c p.other.left) → r ≡ true → q.vars ≡ k.vars → q.lits ≡ factored_lits k.lits p.second p.one p.other → first ≡ p.first → second ≡ p.second → count ≡ length k.lits
      → records ≡ record { clause = q; rule = record_of.Factor before first second } ∷ [] → after ≡ old ++ record { records = records; pairs = (count - 1) ∷ count ∷ [] } ∷ [] → Adds c c old after (factor_as_it_is before (clause_at c k) p.first (literal_at c p.one) p.second (literal_at c p.other))
  as-it-is-added b k q of before first second count p old after records r pair meets holds vars lits e f n g is =
      let s : StepRecord = record { clause = q; rule = record_of.Factor before p.first p.second } in
      let one = lit-stands c k.lits p.first p.one of.literals_of pair.first_stands in
      let other = lit-stands c k.lits p.second p.other of.literals_of pair.second_stands in
      let put : after ≡ old ++ record { records = s ∷ []; pairs = last_two (clause_at c k) } ∷ [] = is ∙ rw (g, e, f, pairs-are k count n) refl in
      let line = factor_line before (clause_at c k) p.first (literal_at c p.one) p.second (literal_at c p.other) in
      let t : heads_meet [] (tree_at c p.one.left) (tree_at c p.other.left) ≡ true = sym meets ∙ holds in
      adds-as old after _ _ (adds-step (extends-itself b) old after s (last_two (clause_at c k)) line put (record { step_of = record { clause_of = conclusion-of k q p.second p.one p.other vars lits of one other; terms_of = tt }; reads = rw (conclusion-reads k q p.second p.one p.other vars lits) refl })) (rw t refl)

  pub turned-added : IsBank c → (k : Clause) → IsClauseOf c k → (before count : ℕ) (p : Pair) (old after : List Due) (records : List StepRecord) (r y : Bool) → IsPairOf k p → y ≡ is_formula (literal_at c p.other) → y ≡ false → r ≡ heads_meet [] (tree_at c p.one.left) (tree_at c p.other.right) → r ≡ true → AreTurned k before p records → count ≡ length k.lits
      → after ≡ old ++ record { records = records; pairs = (count - 1) ∷ count ∷ [] } ∷ [] → Adds c c old after (factor_turned before (clause_at c k) p.first (literal_at c p.one) p.second (literal_at c p.other))
  turned-added b k of before count p old after records r y pair formula not-one meets holds h n is =
      let one = lit-stands c k.lits p.first p.one of.literals_of pair.first_stands in
      let other = lit-stands c k.lits p.second p.other of.literals_of pair.second_stands in
      let x : Lit = turned_lit p.other in
      let s : StepRecord = record { clause = h.middle; rule = record_of.Arrange before } in
      let t : StepRecord = record { clause = h.conclusion; rule = record_of.Factor (suc before) p.first p.second } in
      let z : before + 1 ≡ suc before = omega arith in
      let put : after ≡ old ++ record { records = s ∷ t ∷ []; pairs = last_two (clause_at c k) } ∷ [] = is ∙ rw (h.are, z, pairs-are k count n) refl in
      let middle = placed-of c k h.middle p.second [] (x ∷ []) h.middle_vars h.middle_lits of tt (other.1, other.0, tt) in
      let middle-reads : clause_at c h.middle ≡ with_turned (clause_at c k) p.second (literal_at c p.other) = placed-reads c k h.middle p.second [] (x ∷ []) h.middle_vars h.middle_lits in
      let last = conclusion-of h.middle h.conclusion p.second p.one x h.conclusion_vars h.conclusion_lits middle one (other.1, other.0) in
      let last-reads = conclusion-reads h.middle h.conclusion p.second p.one x h.conclusion_vars h.conclusion_lits in
      let first-line : Line = record { clause = with_turned (clause_at c k) p.second (literal_at c p.other); rule = Rattle.leo_kernel.specs.Steps.arrange before } in
      let second-line : Line = factor_line (suc before) (with_turned (clause_at c k) p.second (literal_at c p.other)) p.first (literal_at c p.one) p.second (turned (literal_at c p.other)) in
      let make : ClauseTree → Line = λ x. record { clause = x; rule = Rattle.leo_kernel.specs.Steps.factor (suc before) p.first p.second } in
      let f : is_formula (literal_at c p.other) ≡ false = sym formula ∙ not-one in
      let m : heads_meet [] (tree_at c p.one.left) (tree_at c p.other.right) ≡ true = sym meets ∙ holds in
      adds-as old after _ _ (adds-two (extends-itself b) old after s t (last_two (clause_at c k)) first-line second-line put
      (record { step_of = record { clause_of = middle; terms_of = tt }; reads = rw middle-reads refl })
      (record { step_of = record { clause_of = last; terms_of = tt }; reads = ap make (last-reads ∙ ap (λ (x : ClauseTree). factored x p.second (literal_at c p.one) (turned (literal_at c p.other))) middle-reads) })) (rw (f, m) refl)
