-- The literals of a member that are to be solved.
use Rattle.std.proofs.Common.{ℕ, zero, suc, nat_eq, ◌≡◌, ◌∙◌, ◌<◌, ◌-◌, Bool, true, false, not, ◌&&◌, ◌||◌, List, [], ◌∷◌, ◌++◌, length, slice_get, Some, refl, sym, ap, subst, arith}
use Rattle.std.specs.List.{flat_map, list_any}
use Rattle.std.proofs.lemmas.Bool.Decides.{nat_tests}
use Rattle.std.proofs.lemmas.List.{length-append}
use Rattle.std.proofs.lemmas.Option.{slice_get_within}
use Rattle.leo_q0.specs.Terms.{same_type}
use Rattle.leo_terms.specs.Facts.{loose_range}
use Rattle.leo_terms.specs.Tree.{Tree, variable, bound, symbol, app, lam, logic, absent, Connective, truth, falsity, negation, disjunction, conjunction, implication, equality, universal, existential, choice, truth_type}
use Rattle.leo_clause.specs.Choices.{Choice}
use Rattle.leo_clause.specs.Trees.{Literal, ClauseTree}
use Rattle.leo_kernel.specs.Conclusions.{factored, with_literals, without}
use Rattle.leo_kernel.specs.Shapes.{literal_type, side_of, unequal}
use Rattle.leo_kernel.specs.Steps.{Line}
use Rattle.leo_clausify.specs.Leaves.{last_clause}
use Rattle.leo_clausify.specs.Splitting.{turned}
use Rattle.leo_para.specs.Members.{is_formula, used_sides}
use Rattle.leo_para.specs.Places.{places}
use Rattle.leo_para.specs.Spines.{head, heads_meet}
use Rattle.leo_conclude.specs.Leaving.{AreConstraints, AreNumbersOf}
use Rattle.leo_ext.specs.Binding.{argument_types, bindings}
use Rattle.leo_ext.specs.Laws.{UnaryMembersHaveLines, UnaryPairsAreNegative}
use Rattle.leo_ext.specs.Members.{Member, resolve_members, resolve_at, factor_members, factor_at, factor_with, factor_as_it_is, factor_turned, may_be_one, last_two, with_turned, bool_ext_members, bool_ext_at, primitive_members, primitive_at, primitive_for, primitive_member, choice_members, choice_at, choice_in, choice_for, choice_with}
use Rattle.leo_ext.specs.Unary.{FuncExts, done, other, equal_functions, different_functions, AreUnary}
use Rattle.leo_ext.proofs.Each.{Each, each-at, each-append, each-map, each-flat_map, each-all, each-if, each-unless, each-literals}

-- there are lines, and the literals of the last one's clause that are to be solved are inequations
pub record IsPaired (c : ClauseTree) (m : Member) : Type 0 where
  pub some : 0 < length m.lines
  pub negative : AreConstraints (last_clause c m.lines).literals m.pairs
  pub numbers : AreNumbersOf (last_clause c m.lines).literals m.pairs

nothing-paired : (c : ClauseTree) (l : Line) (ls : List Line) → IsPaired c (record { lines = l ∷ ls; pairs = [] })
nothing-paired c l ls = record { some = omega arith; negative = λ n k e h. absurd (let f : ⊥ = cc in f); numbers = tt }

-- one literal, and two at the end
or-left : (b : Bool) → (b || false) ≡ true → b ≡ true
or-left true h = refl
or-left false h = h

same-number : (m n : ℕ) → nat_eq m n ≡ true → m ≡ n
same-number m n h = grind (arith, nat_tests)

one-negative : (ls : List Literal) (i : ℕ) (l : Literal) → slice_get ls i ≡ Some l → l.positive ≡ false → AreConstraints ls (i ∷ [])
one-negative ls i l at h n k e t =
    let same : n ≡ i = same-number n i (or-left (nat_eq n i) t) in
    let g : slice_get ls i ≡ Some k = rw same at e in
    let f : l ≡ k = (let w : Some l ≡ Some k = sym at ∙ g in cc) in
    rw (← f) h

end-first : (xs : List Literal) (u v : Literal) → slice_get (xs ++ u ∷ v ∷ []) (length xs) ≡ Some u
end-first [] u v = refl
end-first (x ∷ xs) u v = end-first xs u v

end-second : (xs : List Literal) (u v : Literal) → slice_get (xs ++ u ∷ v ∷ []) (suc (length xs)) ≡ Some v
end-second [] u v = refl
end-second (x ∷ xs) u v = end-second xs u v

module _ (xs : List Literal) (u v : Literal) (first : u.positive ≡ false) (second : v.positive ≡ false) where
  two-by : (a b : Bool) (m n s : ℕ) (k : Literal) → m ≡ length xs → s ≡ suc m → nat_eq n m ≡ a → nat_eq n s ≡ b → slice_get (xs ++ u ∷ v ∷ []) n ≡ Some k → (a || (b || false)) ≡ true → k.positive ≡ false
  two-by true b m n s k long next p q e t =
      let same : n ≡ length xs = same-number n m p ∙ long in
      let g : slice_get (xs ++ u ∷ v ∷ []) (length xs) ≡ Some k = rw same at e in
      let f : u ≡ k = (let w : Some u ≡ Some k = sym (end-first xs u v) ∙ g in cc) in
      rw (← f) first
  two-by false true m n s k long next p q e t =
      let same : n ≡ suc (length xs) = (let d = same-number n s q in omega arith) in
      let g : slice_get (xs ++ u ∷ v ∷ []) (suc (length xs)) ≡ Some k = rw same at e in
      let f : v ≡ k = (let w : Some v ≡ Some k = sym (end-second xs u v) ∙ g in cc) in
      rw (← f) second
  two-by false false m n s k long next p q e t = absurd (let f : ⊥ = cc in f)

  two-negative : (m s : ℕ) → m ≡ length xs → s ≡ suc m → AreConstraints (xs ++ u ∷ v ∷ []) (m ∷ s ∷ [])
  two-negative m s long next n k e t = two-by (nat_eq n m) (nat_eq n s) m n s k long next refl refl e t

  two-numbers : (m s : ℕ) → m ≡ length xs → s ≡ suc m → AreNumbersOf (xs ++ u ∷ v ∷ []) (m ∷ s ∷ [])
  two-numbers m s long next = (let a = length-append xs (u ∷ v ∷ []) in (omega arith, (omega arith, tt)))

-- how many literals are left
without-length : (ls : List Literal) (j : ℕ) → j < length ls → suc (length (without ls j)) ≡ length ls
without-length [] j l = absurd (omega arith)
without-length (k ∷ ls) zero l = refl
without-length (k ∷ ls) (suc j) l = ap suc (without-length ls j (omega arith))

with-one : (ls : List Literal) (j : ℕ) (x : Literal) → j < length ls → length (with_literals ls j (x ∷ [])) ≡ length ls
with-one [] j x l = absurd (omega arith)
with-one (k ∷ ls) zero x l = refl
with-one (k ∷ ls) (suc j) x l = ap suc (with-one ls j x (omega arith))

factored-paired : (start c d : ClauseTree) (j : ℕ) (l k : Literal) (before : List Line) (line : Line) → length d.literals ≡ length c.literals → j < length d.literals → line.clause ≡ factored d j l k → last_clause start (before ++ line ∷ []) ≡ line.clause → 0 < length (before ++ line ∷ []) → IsPaired start (record { lines = before ++ line ∷ []; pairs = last_two c })
factored-paired start c d j l k before line same lt is last some =
    let xs = without d.literals j in
    let u = unequal l.left k.left in
    let v = unequal l.right k.right in
    let long = without-length d.literals j lt in
    let m : length c.literals - 1 ≡ length xs = omega arith in
    let s : length c.literals ≡ suc (length c.literals - 1) = omega arith in
    let reads : (last_clause start (before ++ line ∷ [])).literals ≡ xs ++ u ∷ v ∷ [] = ap (λ (t : ClauseTree). t.literals) (last ∙ is) in
    record {
      some = some;
      negative = subst (λ (ls : List Literal). AreConstraints ls (last_two c)) (sym reads) (two-negative xs u v refl refl (length c.literals - 1) (length c.literals) m s);
      numbers = subst (λ (ls : List Literal). AreNumbersOf ls (last_two c)) (sym reads) (two-numbers xs u v refl refl (length c.literals - 1) (length c.literals) m s);
    }

module _ (p : ℕ) (c : ClauseTree) where
  abbrev Paired : Member → Type 0
  Paired = IsPaired c

  resolve-paired : Each Paired (resolve_members p c)
  resolve-paired = each-literals Paired (resolve_at p c) c.literals (λ i l e. each-unless Paired l.positive _ (λ f. (
    record { some = omega arith; negative = one-negative c.literals i l e f; numbers = (slice_get_within c.literals i l e, tt) },
    tt,
  )))

  bool_ext-paired : Each Paired (bool_ext_members p c)
  bool_ext-paired = each-literals Paired (bool_ext_at p c) c.literals (λ i l e. each-if Paired (same_type (literal_type l) truth_type && not (is_formula l)) _ (λ f. (nothing-paired c _ [], (nothing-paired c _ [], tt))))

  factor-paired : Each Paired (factor_members p c)
  factor-paired = each-literals Paired (factor_at p c) c.literals (λ i l e. each-literals Paired (factor_with p c i l) c.literals (λ j k f. each-if Paired (may_be_one i l j k) _ (λ h.
      let lt = slice_get_within c.literals j k f in
      each-append Paired (factor_as_it_is p c i l j k) (factor_turned p c i l j k)
      (each-if Paired (heads_meet [] l.left k.left) _ (λ g. (factored-paired c c c j l k [] _ refl lt refl refl (omega arith), tt)))
      (each-if Paired (not (is_formula k) && heads_meet [] l.left k.right) _ (λ g. (
        let long = with-one c.literals j (turned k) lt in
            factored-paired c c (with_turned c j k) j l (turned k) (record { clause = with_turned c j k; rule = Rattle.leo_kernel.specs.Steps.arrange p } ∷ []) _ long (omega arith) refl refl (omega arith),
        tt,
      ))))))

  primitive-paired : Each Paired (primitive_members p c)
  primitive-paired = each-literals Paired (primitive_at p c) c.literals (λ i l e. each-if Paired (is_formula l) _ (λ f. for (head l.left)))
    where
      for : (t : Tree) → Each Paired (primitive_for p c t)
      for (variable n a) = each-if Paired (Rattle.std.specs.Prelude.nat_le (length (argument_types a)) 8) _ (λ f. each-map Paired (primitive_member p c n a) (bindings (length c.variables) (argument_types a)) (each-all (λ b. Paired (primitive_member p c n a b)) (bindings (length c.variables) (argument_types a)) (λ b. nothing-paired c _ [])))
      for (bound i a) = tt
      for (symbol s a) = tt
      for (app f x) = tt
      for (lam a t) = tt
      for (logic o x y) = tt
      for absent = tt

  choice-paired : Each Paired (choice_members p c)
  choice-paired = each-literals Paired (choice_at p c) c.literals (λ i l e. each-flat_map Paired (λ s. flat_map (choice_in p c) (places (side_of s l))) (used_sides l)
      (each-all (λ s. Each Paired (flat_map (choice_in p c) (places (side_of s l)))) (used_sides l) (λ s. each-flat_map Paired (choice_in p c) (places (side_of s l)) (each-all (λ q. Each Paired (choice_in p c q)) (places (side_of s l)) (λ q. for (head q.term))))))
    where
      with-choice : (o : Connective) (t : Tree) → Each Paired (choice_with p c o t)
      with-choice (choice a) t = each-if Paired (nat_eq (loose_range t) 0) _ (λ f. (nothing-paired c _ _, tt))
      with-choice truth t = tt
      with-choice falsity t = tt
      with-choice negation t = tt
      with-choice disjunction t = tt
      with-choice conjunction t = tt
      with-choice implication t = tt
      with-choice (equality a) t = tt
      with-choice (universal a) t = tt
      with-choice (existential a) t = tt

      for : (t : Tree) → Each Paired (choice_for p c t)
      for (logic o t y) = with-choice o t
      for (variable n a) = tt
      for (bound i a) = tt
      for (symbol s a) = tt
      for (app f x) = tt
      for (lam a t) = tt
      for absent = tt

  functions-paired : (known i : ℕ) (before : List Choice) (ls : List Literal) (later : List Choice) (ms : List Member) → FuncExts known p c i before ls later ms → Each Paired ms
  functions-paired known i before [] later ms (done j chs) = tt
  functions-paired known i before (l ∷ ls) later ms (other j chs last k ks members f h) = functions-paired known (suc i) before ls later ms h
  functions-paired known i before (l ∷ ls) later (m ∷ ms) (equal_functions j chs last k ks members f g h) = (nothing-paired c _ [], functions-paired known (suc i) before ls later ms h)
  functions-paired known i before (l ∷ ls) later (m ∷ ms) (different_functions j chs middle last k ks members n item f g chooses h) = (nothing-paired c _ [], functions-paired known (suc i) middle ls later ms h)

paired : (known : ℕ) (choices : List Choice) (c : ClauseTree) (later : List Choice) (members : List Member) → AreUnary known choices c later members → Each (IsPaired c) members
paired known choices c later members h =
    let p = length later in
    subst (Each (IsPaired c)) (sym h.all)
    (each-append (IsPaired c) (resolve_members p c) _ (resolve-paired p c) (each-append (IsPaired c) (factor_members p c) _ (factor-paired p c) (each-append (IsPaired c) (bool_ext_members p c) _ (bool_ext-paired p c)
    (each-append (IsPaired c) h.by_func_ext _ (functions-paired p c known 0 choices c.literals later h.by_func_ext h.functions) (each-append (IsPaired c) (primitive_members p c) (choice_members p c) (primitive-paired p c) (choice-paired p c))))))

pub some-lines : UnaryMembersHaveLines
some-lines known choices c later members h n m e = (each-at (IsPaired c) members n m (paired known choices c later members h) e).some

pub pairs-negative : UnaryPairsAreNegative
pairs-negative known choices c later members h n m e = (let r = each-at (IsPaired c) members n m (paired known choices c later members h) e in (r.negative, r.numbers))
