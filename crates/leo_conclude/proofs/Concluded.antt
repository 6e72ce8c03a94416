-- Conclusions, and lists of them.
use Rattle.std.proofs.Common.{ℕ, zero, suc, nat_eq, ◌≡◌, ◌∙◌, ◌+◌, ◌<◌, Bool, true, false, List, [], ◌∷◌, ◌++◌, length, map, take, slice_get, slice_index_or, Some, refl, sym, ap, subst, append-nil, arith}
use Rattle.std.proofs.lemmas.List.{map-append, take_more}
use Rattle.std.specs.Bool.{◌==◌, if◌then◌else◌}
use Rattle.std.proofs.lemmas.Bool.Decides.{nat_tests}
use Rattle.std.specs.List.{list_any}
use Rattle.leo_q0.specs.Terms.{SimpleType}
use Rattle.leo_terms.specs.Contents.{Contents, IsBank, Extends, type_at}
use Rattle.leo_terms.specs.Tree.{Tree}
use Rattle.leo_terms.specs.NormalForm.{normal_form}
use Rattle.leo_terms.specs.Reduction.{IsNormal}
use Rattle.leo_terms.specs.Typing.{IsWellTyped}
use Rattle.leo_terms.proofs.CallerLemmas.{normal_form-itself, normal_form-normal}
use Rattle.leo_clause.specs.declared.clause.Clause.{Clause}
use Rattle.leo_clause.specs.Renaming.{substituted_literal}
use Rattle.leo_clause.specs.Trees.{Literal, ClauseTree, clause_at, literal_at}
use Rattle.leo_clause.specs.Typed.{IsTyped, IsTypedIn}
use Rattle.leo_kernel.specs.Acceptance.{AreAcceptedAfter}
use Rattle.leo_kernel.specs.Steps.{line_at}
use Rattle.leo_kernel.proofs.Growing.{clause-grow, clause-kept}
use Rattle.leo_kernel.proofs.LinesGrowing.{lines-grow, lines-kept}
use Rattle.leo_clausify.specs.Leaves.{last_clause}
use Rattle.leo_clausify.specs.Splitting.{AreNormal}
use Rattle.leo_clausify.specs.Splitting.{normal_literal}
use Rattle.leo_clausify.proofs.Banks.{literals-well}
use Rattle.leo_clausify.proofs.Following.{AreWell}
use Rattle.leo_unify.specs.Pairs.{Pair}
use Rattle.leo_unify.specs.Residues.{residue}
use Rattle.leo_unify.specs.Given.{pair_of}
use Rattle.leo_unify.specs.Search.{AreSolutions, Solution}
use Rattle.leo_unify.specs.Solutions.{AreSigmasOf, IsSigmaOf, sigma_at}
use Rattle.leo_unify.specs.declared.sigma.Sigma.{Sigma}
use Rattle.leo_unify.proofs.SearchLemmas.{sigmas-grow, sigmas-kept}
use Rattle.leo_conclude.specs.Conclusions.{AreConclusions, unconstrained, solved, conclusion, constraint_pairs, instance, normal_clause, relieved, rest_of, sides_of, unequal_pair}
use Rattle.leo_unify.specs.Laws.{SolutionsAreFromPairs}
use Rattle.leo_unify.specs.Origins.{Origin, ArePairsFrom, AreSolutionsFrom, AreTermsFrom, AreTypesFrom}
use Rattle.leo_conclude.specs.Origins.{AreLinesFrom, AreLiteralsFrom, AreSolutionsFromClause, IsClauseFrom, IsSolutionFrom}
use Rattle.leo_conclude.specs.Leaving.{AreConstraints}
use Rattle.leo_conclude.proofs.Residues.{ArePairsNormal, residue-normal}
use Rattle.leo_conclude.specs.declared.concluding.Conclusion.{Conclusion}
use Rattle.leo_conclude.specs.declared.derived.Derived.{Derived}
use Rattle.leo_conclude.specs.Deriving.{IsChanged, IsDerived, IsDerivedAs}
use Rattle.leo_conclude.specs.Results.{IsConclusionOf, AreConclusionsOf, conclusion_clause}

-- the conclusion of a derived clause
abbrev pub conclusion_of : Derived → Conclusion
conclusion_of d = record { clause = d.clause; records = d.records }

pub derived-concluded : (c : Contents) (start : ClauseTree) (d : Derived) → IsDerived c start d → 0 < length d.records → AreNormal (clause_at c d.clause).literals → IsConclusionOf c start (conclusion_of d)
derived-concluded c start d h some normal = record { typed = h.typed; normal = normal; steps = h.steps; accepted = h.accepted; some = some; ends = h.ends; origin = h.origin }

pub one-conclusion : (c : Contents) (start : ClauseTree) (d : Derived) (tree : ClauseTree) → IsDerivedAs c start d tree → AreConclusionsOf c start (conclusion_of d ∷ [])
one-conclusion c start d tree h zero r e = let f : conclusion_of d ≡ r = cc in subst (IsConclusionOf c start) f (derived-concluded c start d h.derived h.some (subst (λ (t : ClauseTree). AreNormal t.literals) (sym h.reads) h.normal))
one-conclusion c start d tree h (suc n) r e = absurd (cc)

-- ---- normal forms

-- both sides of literals are beta-normal and eta-long
abbrev AreForms : List Literal → Type 0
AreForms [] = Unit {0}
AreForms (l ∷ ls) = IsNormal l.left × IsNormal l.right × AreForms ls

normal-is : (t : Tree) → IsWellTyped t → normal_form t ≡ t → IsNormal t
normal-is t w e = subst IsNormal e (normal_form-normal t w)

forms-of : (ls : List Literal) → AreNormal ls → AreWell ls → AreForms ls
forms-of [] n w = tt
forms-of (l ∷ ls) n w = (normal-is l.left w.0 n.0, normal-is l.right w.1 n.1, forms-of ls n.2 w.2)

normal-of : (ls : List Literal) → AreForms ls → AreWell ls → AreNormal ls
normal-of [] h w = tt
normal-of (l ∷ ls) h w = (normal_form-itself l.left h.0 w.0, normal_form-itself l.right h.1 w.1, normal-of ls h.2 w.2)

forms-append : (ls ks : List Literal) → AreForms ls → AreForms ks → AreForms (ls ++ ks)
forms-append [] ks h g = g
forms-append (l ∷ ls) ks h g = (h.0, h.1, forms-append ls ks h.2 g)

forms-pairs : (ps : List Pair) → ArePairsNormal ps → AreForms (map unequal_pair ps)
forms-pairs [] h = tt
forms-pairs (p ∷ ps) h = (h.0, h.1, forms-pairs ps h.2)

forms-one : (b : Bool) (l : Literal) → IsNormal l.left → IsNormal l.right → AreForms (if b then rest_of l else l ∷ [])
forms-one true l h g = forms-pairs (residue l.left l.right) (residue-normal l.left l.right h g)
forms-one false l h g = (h, g, tt)

forms-relieved : (constraints : List ℕ) (n : ℕ) (ls : List Literal) → AreForms ls → AreForms (relieved constraints n ls)
forms-relieved constraints n [] h = tt
forms-relieved constraints n (l ∷ ls) h =
    forms-append (if list_any (nat_eq n) constraints then rest_of l else l ∷ []) (relieved constraints (suc n) ls) (forms-one (list_any (nat_eq n) constraints) l h.0 h.1) (forms-relieved constraints (suc n) ls h.2)

-- ---- the conclusion for a solution

abbrev pub with_rests : List ℕ → ClauseTree → ClauseTree
with_rests constraints tree = record { variables = tree.variables; literals = relieved constraints 0 tree.literals }

clause-parts : (u v : List SimpleType) (l m : List Literal) → u ≡ v → l ≡ m → ◌≡◌ {A = ClauseTree} (record { variables = u; literals = l }) (record { variables = v; literals = m })
clause-parts u v l m p q = rw (p, q) refl

module _ (c : Contents) (b : IsBank c) (start : ClauseTree) (d r : Derived) (tree : ClauseTree) (constraints : List ℕ) (h : IsDerivedAs c start d tree) (g : IsChanged c d r [] (relieved constraints 0 (clause_at c d.clause).literals) []) where
  pub rests-read : clause_at c r.clause ≡ with_rests constraints tree
  rests-read =
      let v : map (type_at c) r.clause.vars ≡ tree.variables = ap (map (type_at c)) g.variables ∙ ap (λ (t : ClauseTree). t.variables) h.reads in
      let l : map (literal_at c) r.clause.lits ≡ relieved constraints 0 tree.literals = g.literals ∙ append-nil (relieved constraints 0 (clause_at c d.clause).literals) ∙ ap (λ (t : ClauseTree). relieved constraints 0 t.literals) h.reads in
      clause-parts (map (type_at c) r.clause.vars) tree.variables (map (literal_at c) r.clause.lits) (relieved constraints 0 tree.literals) v l

  well : AreWell (clause_at c r.clause).literals
  well = literals-well c b r.clause.lits g.typed.of_bank.literals_of

  tree-well : AreWell tree.literals
  tree-well = subst (λ (t : ClauseTree). AreWell t.literals) h.reads (literals-well c b d.clause.lits h.derived.typed.of_bank.literals_of)

  rests-normal : AreNormal (clause_at c r.clause).literals
  rests-normal =
      let f : AreForms (with_rests constraints tree).literals = forms-relieved constraints 0 tree.literals (forms-of tree.literals h.normal tree-well) in
      normal-of (clause_at c r.clause).literals (subst (λ (t : ClauseTree). AreForms t.literals) (sym rests-read) f) well

  pub rests-concluded : IsConclusionOf c start (conclusion_of r)
  rests-concluded = derived-concluded c start r (g.derived start h.derived) (let x = h.some in let y = g.longer in omega arith) rests-normal

-- constraints stay inequations
module _ (f : Literal → Literal) (same : (l : Literal) → (f l).positive ≡ l.positive) (IsOne : ℕ → Type 0) where
  constraints-mapped : (ls : List Literal) (k : ℕ → ℕ) (n : ℕ) (l : Literal) → ((m : ℕ) (j : Literal) → slice_get ls m ≡ Some j → IsOne (k m) → j.positive ≡ false) → slice_get (map f ls) n ≡ Some l → IsOne (k n) → l.positive ≡ false
  constraints-mapped [] k n l h e g = absurd (cc)
  constraints-mapped (j ∷ ls) k zero l h e g = let p : f j ≡ l = cc in ap (λ (x : Literal). x.positive) (sym p) ∙ same j ∙ h 0 j refl g
  constraints-mapped (j ∷ ls) k (suc n) l h e g = constraints-mapped ls (λ m. k (suc m)) n l (λ m i p q. h (suc m) i p q) e g

constraints-kept : (f : Literal → Literal) → ((l : Literal) → (f l).positive ≡ l.positive) → (constraints : List ℕ) (ls : List Literal) → AreConstraints ls constraints → AreConstraints (map f ls) constraints
constraints-kept f same constraints ls h n l e g = constraints-mapped f same (λ m. list_any (nat_eq m) constraints ≡ true) ls (λ m. m) n l h e g

pub instance-constraints : (c : ClauseTree) (s : Solution) (constraints : List ℕ) → AreConstraints c.literals constraints → AreConstraints (instance c s).literals constraints
instance-constraints c s constraints h =
    constraints-kept normal_literal (λ l. refl) constraints (map (substituted_literal s.terms) c.literals) (constraints-kept (substituted_literal s.terms) (λ l. refl) constraints c.literals h)

pub derived-constraints : (c : Contents) (start : ClauseTree) (d : Derived) (k : ClauseTree) (s : Solution) (constraints : List ℕ) → IsDerivedAs c start d (instance k s) → AreConstraints k.literals constraints → AreConstraints (clause_at c d.clause).literals constraints
derived-constraints c start d k s constraints h g = subst (λ (t : ClauseTree). AreConstraints t.literals constraints) (sym h.reads) (instance-constraints k s constraints g)

-- ---- lists of conclusions, as the bank grows
module _ {c d : Contents} (e : Extends c d) (start : ClauseTree) where
  pub conclusion-grows : (r : Conclusion) → IsConclusionOf c start r → IsConclusionOf d start r
  conclusion-grows r h =
      let k : clause_at d r.clause ≡ clause_at c r.clause = clause-kept e r.clause h.typed.of_bank in
      let l : map (line_at d) r.records ≡ map (line_at c) r.records = lines-kept e r.records h.steps in
      record {
        typed = record { of_bank = clause-grow e r.clause h.typed.of_bank; typed = subst IsTyped (sym k) h.typed.typed };
        normal = subst (λ (t : ClauseTree). AreNormal t.literals) (sym k) h.normal;
        steps = lines-grow e r.records h.steps;
        accepted = λ rule. subst (AreAcceptedAfter (record { clause = start; rule = rule } ∷ [])) (sym l) (h.accepted rule);
        some = h.some;
        ends = ap (last_clause start) l ∙ h.ends ∙ sym k;
        origin = λ o z g. subst (AreLinesFrom o) (sym l) (h.origin o z g);
      }

  conclusions-kept : (rs : List Conclusion) → AreConclusionsOf c start rs → map (conclusion_clause d) rs ≡ map (conclusion_clause c) rs
  conclusions-kept [] h = refl
  conclusions-kept (r ∷ rs) h =
      let k : clause_at d r.clause ≡ clause_at c r.clause = clause-kept e r.clause (h 0 r refl).typed.of_bank in
      rw (k, conclusions-kept rs (λ n s f. h (suc n) s f)) refl

  conclusions-end : (rs : List Conclusion) (r : Conclusion) → AreConclusionsOf c start rs → IsConclusionOf d start r → AreConclusionsOf d start (rs ++ r ∷ [])
  conclusions-end [] r h g zero s f = let p : r ≡ s = cc in subst (IsConclusionOf d start) p g
  conclusions-end [] r h g (suc n) s f = absurd (cc)
  conclusions-end (q ∷ rs) r h g zero s f = conclusion-grows s (h zero s f)
  conclusions-end (q ∷ rs) r h g (suc n) s f = conclusions-end rs r (λ m t p. h (suc m) t p) g n s f

  pub conclusions-next : (rs : List Conclusion) (r : Conclusion) (trees : List ClauseTree) (tree : ClauseTree) → AreConclusionsOf c start rs → map (conclusion_clause c) rs ≡ trees → IsConclusionOf d start r → conclusion_clause d r ≡ tree → AreConclusionsOf d start (rs ++ r ∷ []) × (map (conclusion_clause d) (rs ++ r ∷ []) ≡ trees ++ tree ∷ [])
  conclusions-next rs r trees tree h reads g read =
      (conclusions-end rs r h g, map-append (conclusion_clause d) rs (r ∷ []) ∙ rw (conclusions-kept rs h, reads, read) refl)

-- ---- solutions, one after the other

pub none-concluded : (c : Contents) (start : ClauseTree) → AreConclusionsOf c start []
none-concluded c start n r e = absurd (cc)

item-at : {X : Type 0} (P : X → Type 0) (All : List X → Type 0) → ((x : X) (xs : List X) → All (x ∷ xs) → P x × All xs) → (xs : List X) (i : ℕ) (x : X) → All xs → i < length xs → x ≡ slice_index_or xs i x → P x
item-at P All split [] i x h l e = absurd (omega arith)
item-at P All split (y ∷ xs) zero x h l e = let f : x ≡ y = e in rw f (split y xs h).0
item-at P All split (y ∷ xs) (suc i) x h l e = item-at P All split xs i x (split y xs h).1 (omega arith) e

sigma-at : (c : Contents) (types : List SimpleType) (ss : List Sigma) (i : ℕ) (s : Sigma) → AreSigmasOf c types ss → i < length ss → s ≡ slice_index_or ss i s → IsSigmaOf c types s
sigma-at c types ss i s h l e = item-at (IsSigmaOf c types) (AreSigmasOf c types) (λ x xs g. (g.0, g.1)) ss i s h l e

module _ {c d : Contents} (e : Extends c d) (k : Clause) (typed : IsTypedIn c k) where
  kept : clause_at d k ≡ clause_at c k
  kept = clause-kept e k typed.of_bank

  pub clause-grows : IsTypedIn d k
  clause-grows = record { of_bank = clause-grow e k typed.of_bank; typed = subst IsTyped (sym kept) typed.typed }

  pub constraints-grow : (constraints : List ℕ) → AreConstraints (clause_at c k).literals constraints → AreConstraints (clause_at d k).literals constraints
  constraints-grow constraints h = subst (λ (t : ClauseTree). AreConstraints t.literals constraints) (sym kept) h

  pub sigma-there : (ss : List Sigma) → AreSigmasOf c (clause_at c k).variables ss → (i : ℕ) (s : Sigma) → i < length ss → s ≡ slice_index_or ss i s → IsSigmaOf d (clause_at d k).variables s
  sigma-there ss h i s l is =
      let g = sigma-at c (clause_at c k).variables ss i s h l is in
      let grown = sigmas-grow e (clause_at c k).variables (s ∷ []) (g, tt) in
      subst (λ (t : ClauseTree). IsSigmaOf d t.variables s) (sym kept) grown.0

solution-at : (o : Origin) (ss : List Solution) (i : ℕ) (s : Solution) → AreSolutionsFrom o ss → slice_get ss i ≡ Some s → AreTypesFrom o s.variables × AreTermsFrom o s.terms
solution-at o [] i s h e = absurd (cc)
solution-at o (t ∷ ss) zero s h e = (let f : t ≡ s = cc in rw (← f) (h.0, h.1))
solution-at o (t ∷ ss) (suc i) s h e = solution-at o ss i s h.2 e

mapped-at : {X Y : Type 0} (f : X → Y) (xs : List X) (i : ℕ) (x : X) → i < length xs → x ≡ slice_index_or xs i x → slice_get (map f xs) i ≡ Some (f x)
mapped-at f [] i x l e = absurd (omega arith)
mapped-at f (y ∷ xs) zero x l e = let g : x ≡ y = e in rw g refl
mapped-at f (y ∷ xs) (suc i) x l e = mapped-at f xs i x (omega arith) e

module _ {b c : Contents} (e : Extends b c) (k : Clause) (typed : IsTypedIn b k) (ss : List Sigma) (sigmas : AreSigmasOf b (clause_at b k).variables ss) (i : ℕ) (s : Sigma) (lt : i < length ss) (is : s ≡ slice_index_or ss i s) where
  pub solution-there : AreSolutionsFromClause (clause_at b k) (map (sigma_at b) ss) → IsSolutionFrom (clause_at c k) (sigma_at c s)
  solution-there from =
      let one = sigma-at b (clause_at b k).variables ss i s sigmas lt is in
      let all = sigmas-kept e (clause_at b k).variables (s ∷ []) (one, tt) in
      let same : sigma_at c s ≡ sigma_at b s = cc in
      let old : IsSolutionFrom (clause_at b k) (sigma_at b s) = λ o z g. solution-at o (map (sigma_at b) ss) i (sigma_at b s) (from o z g) (mapped-at (sigma_at b) ss i s lt is) in
      subst (λ (t : ClauseTree). IsSolutionFrom t (sigma_at c s)) (sym (kept e k typed)) (subst (IsSolutionFrom (clause_at b k)) (sym same) old)

module _ {b c d : Contents} (e : Extends b c) (f : Extends c d) (k : Clause) (typed : IsTypedIn b k) (constraints : List ℕ) (ss : List Sigma) (sigmas : AreSigmasOf b (clause_at b k).variables ss) (i : ℕ) (s : Sigma) (lt : i < length ss) (is : s ≡ slice_index_or ss i s) where
  pub solution-next : (found : List Conclusion) (next : Conclusion) → AreConclusionsOf c (clause_at b k) found → map (conclusion_clause c) found ≡ map (conclusion (clause_at b k) constraints) (map (sigma_at b) (take i ss)) → IsConclusionOf d (clause_at c k) next → conclusion_clause d next ≡ conclusion (clause_at c k) constraints (sigma_at c s) →
      AreConclusionsOf d (clause_at b k) (found ++ next ∷ []) × (map (conclusion_clause d) (found ++ next ∷ []) ≡ map (conclusion (clause_at b k) constraints) (map (sigma_at b) (take (i + 1) ss)))
  solution-next found next h reads g read =
      let start = kept e k typed in
      let one = sigma-at b (clause_at b k).variables ss i s sigmas lt is in
      let all = sigmas-kept e (clause_at b k).variables (s ∷ []) (one, tt) in
      let same : sigma_at c s ≡ sigma_at b s = cc in
      let now : conclusion_clause d next ≡ conclusion (clause_at b k) constraints (sigma_at b s) = read ∙ ap (λ (t : ClauseTree). conclusion t constraints (sigma_at c s)) start ∙ ap (conclusion (clause_at b k) constraints) same in
      let r = conclusions-next f (clause_at b k) found next (map (conclusion (clause_at b k) constraints) (map (sigma_at b) (take i ss))) (conclusion (clause_at b k) constraints (sigma_at b s)) h reads (subst (λ (t : ClauseTree). IsConclusionOf d t next) start g) now in
      let t : take (i + 1) ss ≡ take i ss ++ s ∷ [] = take_more ss i s lt ∙ ap (λ (z : Sigma). take i ss ++ z ∷ []) (sym is) in
      let v : map (conclusion (clause_at b k) constraints) (map (sigma_at b) (take (i + 1) ss)) ≡ map (conclusion (clause_at b k) constraints) (map (sigma_at b) (take i ss)) ++ conclusion (clause_at b k) constraints (sigma_at b s) ∷ [] =
      ap (λ (xs : List Sigma). map (conclusion (clause_at b k) constraints) (map (sigma_at b) xs)) t ∙ ap (map (conclusion (clause_at b k) constraints)) (map-append (sigma_at b) (take i ss) (s ∷ [])) ∙ map-append (conclusion (clause_at b k) constraints) (map (sigma_at b) (take i ss)) (sigma_at b s ∷ []) in
      (r.0, r.1 ∙ sym v)

-- ---- all of them

not-both : (b : Bool) → b ≡ true → b ≡ false → ⊥
not-both true e f = cc
not-both false e f = cc

pub empty-list : (xs : List ℕ) (b : Bool) → b ≡ (length xs == 0) → b ≡ true → xs ≡ []
empty-list [] b e f = refl
empty-list (x ∷ xs) b e f = absurd (let g : length (x ∷ xs) ≡ 0 = grind (arith, nat_tests) in omega arith)

pub some-list : (xs : List ℕ) (b : Bool) → b ≡ (length xs == 0) → b ≡ false → xs ≡ [] → ⊥
some-list xs b e f g = not-both b (rw g at e) f

pub no-constraints : (k : ClauseTree) (depth : ℕ) (constraints : List ℕ) (trees : List ClauseTree) → constraints ≡ [] → trees ≡ normal_clause k ∷ [] → AreConclusions k depth constraints trees
no-constraints k depth constraints trees e f = rw (e, f) (unconstrained)

module _ {b c : Contents} (e : Extends b c) (k : Clause) (typed : IsTypedIn b k) where
  pub solved-conclusions : (constraints : List ℕ) (depth : ℕ) (pairs : List (ℕ × ℕ)) (solutions : List Solution) (trees : List ClauseTree) → (constraints ≡ [] → ⊥) → map (pair_of b) pairs ≡ constraint_pairs (clause_at b k) constraints → AreSolutions (clause_at b k).variables (map (pair_of b) pairs) depth solutions → trees ≡ map (conclusion (clause_at c k) constraints) solutions → AreConclusions (clause_at b k) depth constraints trees
  solved-conclusions [] depth pairs solutions trees some reads finds is = absurd (some refl)
  solved-conclusions (n ∷ ns) depth pairs solutions trees some reads finds is =
      let now : trees ≡ map (conclusion (clause_at b k) (n ∷ ns)) solutions = is ∙ ap (λ (t : ClauseTree). map (conclusion t (n ∷ ns)) solutions) (kept e k typed) in
      rw now (solved n ns solutions (subst (λ (ps : List Pair). AreSolutions (clause_at b k).variables ps depth solutions) reads finds))

  pub sigmas-over : (ss : List Sigma) → AreSigmasOf c (clause_at b k).variables ss → AreSigmasOf c (clause_at c k).variables ss
  sigmas-over ss h = subst (λ (t : ClauseTree). AreSigmasOf c t.variables ss) (sym (kept e k typed)) h

  -- the pairs of constraints are sides of literals
  sides-from : (o : Origin) (ls : List Literal) (n : ℕ) → AreLiteralsFrom o ls → ArePairsFrom o (sides_of (slice_get ls n))
  sides-from o [] n h = tt
  sides-from o (l ∷ ls) zero h = (h.0.0, h.0.1, tt)
  sides-from o (l ∷ ls) (suc n) h = sides-from o ls n h.1

  pairs-append : (o : Origin) (ps qs : List Pair) → ArePairsFrom o ps → ArePairsFrom o qs → ArePairsFrom o (ps ++ qs)
  pairs-append o [] qs h g = g
  pairs-append o (p ∷ ps) qs h g = (h.0, h.1, pairs-append o ps qs h.2 g)

  pairs-from : (o : Origin) (t : ClauseTree) (ns : List ℕ) → IsClauseFrom o t → ArePairsFrom o (constraint_pairs t ns)
  pairs-from o t [] h = tt
  pairs-from o t (n ∷ ns) h = pairs-append o (sides_of (slice_get t.literals n)) (constraint_pairs t ns) (sides-from o t.literals n h.1) (pairs-from o t ns h)

  pub found-from : SolutionsAreFromPairs → (constraints : List ℕ) (depth : ℕ) (pairs : List (ℕ × ℕ)) (solutions : List Solution) → map (pair_of b) pairs ≡ constraint_pairs (clause_at b k) constraints → AreSolutions (clause_at b k).variables (map (pair_of b) pairs) depth solutions → AreSolutionsFromClause (clause_at c k) solutions
  found-from law constraints depth pairs solutions reads finds o z g =
      let old : IsClauseFrom o (clause_at b k) = subst (IsClauseFrom o) (kept e k typed) g in
      law 16 (clause_at b k).variables (map (pair_of b) pairs) depth solutions finds o z old.0 (subst (ArePairsFrom o) (sym reads) (pairs-from o (clause_at b k) constraints old))

  pub start-back : (d : Contents) (rs : List Conclusion) → AreConclusionsOf d (clause_at c k) rs → AreConclusionsOf d (clause_at b k) rs
  start-back d rs h = subst (λ (t : ClauseTree). AreConclusionsOf d t rs) (kept e k typed) h
