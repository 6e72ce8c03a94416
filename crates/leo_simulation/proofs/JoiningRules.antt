-- Factoring and paramodulation: where the parents' clauses are derivable, the conclusion is.
use Rattle.std.proofs.Common.{◌≡◌, ℕ, zero, suc, ◌+◌, true, List, [], ◌∷◌, ◌++◌, length, map, take, drop, slice_get, Option, Some, None, refl, sym, ap, ◌∙◌, subst}
use Rattle.std.proofs.lemmas.List.{map-append, length-append}
use Rattle.std.proofs.lemmas.Option.{slice_get-map}
use Rattle.std.specs.Option.{option_map, option_and_then}
use Rattle.leo_q0.specs.Terms.{SimpleType, Term, identity, apply, HasType, IsFormula}
use Rattle.leo_q0.specs.Connectives.{equation}
use Rattle.leo_q0.specs.Derivations.{Derivable}
use Rattle.leo_q0.proofs.WellTyped.{HasType-equation, equal_type}
use Rattle.leo_sound.specs.Propositions.{disjunction}
use Rattle.leo_sound.proofs.Logic.{imp_of, not_of}
use Rattle.leo_sound.proofs.Tautologies.{HasType-disjunction}
use Rattle.leo_terms.specs.Tree.{Tree, variable, bound, symbol, app, lam, logic, absent, type_of}
use Rattle.leo_terms.specs.Decode.{decoded}
use Rattle.leo_clause.specs.Trees.{Literal, ClauseTree}
use Rattle.leo_clause.specs.declared.record.Side.{Side}
use Rattle.leo_clause.specs.declared.record.Side.TheVariants.{Left, Right}
use Rattle.leo_clause.specs.Formulas.{signed}
use Rattle.leo_kernel.specs.Shapes.{unequal, literal_type, side_of, other_side_of}
use Rattle.leo_kernel.specs.Places.{present, child, subterm, replaced_in, shifted, shifted_literal}
use Rattle.leo_kernel.specs.Conclusions.{with_literals, without, factored, paramodulant}
use Rattle.leo_simulation.proofs.Disjunctions.{AllImply, none, also, AllImply-append, AreFormulas-append, from_members, members_imply-left, members_imply-right, imp_then, imp_formula, imp_itself, AllImply-premise}
use Rattle.leo_simulation.proofs.Sayings.{literal_said, literals_said, clause_said, IsFine, AreFine, said_formula, said_formulas, left_said, right_said}
use Rattle.leo_simulation.proofs.Places.{fine-append, fine-take, fine-drop, fine-at, fine-parts, said-split, said-with}
use Rattle.leo_simulation.proofs.Members.{implies_at, member_implies, at_map, at_without, at_front}
use Rattle.leo_simulation.proofs.Congruence.{Swaps, in_function, in_argument, turned_follows, HasType-Swaps}
use Rattle.leo_simulation.proofs.Occurrences.{path_swaps, signed_swaps}
use Rattle.leo_simulation.proofs.Paramodulation.{factor_implies, para_implies}
use Rattle.leo_simulation.proofs.Rules.{IsSensible, Says, said_at, inst_says}
use Rattle.leo_simulation.proofs.TreeInstances.{variables_from}
use Rattle.leo_simulation.proofs.ClauseInstances.{type_of-shifted}
use Rattle.leo_simulation.proofs.Parts.{typed_as}
use Rattle.leo_simulation.proofs.Moved.{typed-variables, moved_variables_fit, fine-shifted, literals-variables, literals_given}

module _ {H : List Term} where
  parts_imply : (ss ts : List Term) {u : Term} → AllImply H u (ss ++ ts) → AllImply H u ss × AllImply H u ts
  parts_imply [] ts all = (none, all)
  parts_imply (s ∷ ss) ts (also d all) = let p = parts_imply ss ts all in (also d p.0, p.1)

  -- the literals but one imply what those of the list without it do, and so does that one
  others_and_one : (n : ℕ) (ls : List Literal) (i : ℕ) (l : Literal) {d : Term} → slice_get ls i ≡ Some l → AllImply H d (literals_said n (without ls i)) → Derivable H (imp_of (literal_said n l) d) →
      AllImply H d (literals_said n ls)
  others_and_one n ls i l {d} at others one =
      let split = parts_imply (literals_said n (take i ls)) ([] ++ literals_said n (drop (suc i) ls)) (subst (AllImply H d) (said-with n ls i []) others) in
      subst (AllImply H d) (sym (said-split n ls i l at))
      (AllImply-append (literals_said n (take i ls)) (literal_said n l ∷ literals_said n (drop (suc i) ls)) split.0 (also one split.1))

  pub factor_says : (p c : ClauseTree) (i j : ℕ) (l k : Literal) → slice_get p.literals i ≡ Some l → slice_get p.literals j ≡ Some k → (i ≡ j → ⊥) → l.positive ≡ k.positive →
      literal_type l ≡ literal_type k → c ≡ factored p j l k → IsSensible p → IsSensible c → Says H p → Says H c
  factor_says p c i j l k at at' ne pos types e hp hc s =
      let n = length p.variables in
      let vars : c.variables ≡ p.variables = ap (λ (x : ClauseTree). x.variables) e in
      let lits : c.literals ≡ without p.literals j ++ (unequal l.left k.left ∷ unequal l.right k.right ∷ []) = ap (λ (x : ClauseTree). x.literals) e in
      let more = unequal l.left k.left ∷ unequal l.right k.right ∷ [] in
      let whole : AreFine c.variables (without p.literals j ++ more) = subst (AreFine c.variables) lits hc in
      let parts = fine-parts c.variables (without p.literals j) more whole in
      let rest = said_formulas c.variables n (without p.literals j) parts.0 in
      let ends = said_formulas c.variables n more parts.1 in
      let joined : literals_said n (without p.literals j ++ more) ≡ literals_said n (without p.literals j) ++ literals_said n more = map-append (literal_said n) (without p.literals j) more in
      let d = disjunction (literals_said n (without p.literals j) ++ literals_said n more) in
      let hd = HasType-disjunction (literals_said n (without p.literals j) ++ literals_said n more) (AreFormulas-append (literals_said n (without p.literals j)) (literals_said n more) rest ends) in
      let tail : AllImply H d (literals_said n more) = members_imply-right (literals_said n (without p.literals j)) (literals_said n more) rest ends in
      let there = at_without p.literals i j l at ne in
      let first : Derivable H (imp_of (literal_said n l) d) =
      member_implies (literals_said n (without p.literals j) ++ literals_said n more) there.0 (literal_said n l)
      (at_front (literals_said n (without p.literals j)) (literals_said n more) there.0 (literal_said n l) (at_map (literal_said n) (without p.literals j) there.0 l there.1))
      (AreFormulas-append (literals_said n (without p.literals j)) (literals_said n more) rest ends) in
      let fl = fine-at p.variables p.literals i l at hp in
      let fk = fine-at p.variables p.literals j k at' hp in
      let second : Derivable H (imp_of (literal_said n k) d) = same_kind n l k fl fk pos types hd first tail in
      let all = others_and_one n p.literals j k at' (members_imply-left (literals_said n (without p.literals j)) (literals_said n more) rest ends) second in
      let result = from_members (literals_said n p.literals) (said_formulas p.variables n p.literals hp) hd all s.said in
      record { said = subst (λ m. Derivable H (clause_said m c.literals)) (ap length (sym vars)) (subst (λ ls. Derivable H (clause_said n ls)) (sym lits) (subst (λ ts. Derivable H (disjunction ts)) (sym joined) result)) }
    where
      two_members : {d s t : Term} → AllImply H d (s ∷ t ∷ []) → Derivable H (imp_of s d) × Derivable H (imp_of t d)
      two_members (also a (also b none)) = (a, b)

      same_kind : (n : ℕ) (l k : Literal) {d : Term} → IsFine p.variables l → IsFine p.variables k → l.positive ≡ k.positive → literal_type l ≡ literal_type k → IsFormula d →
          Derivable H (imp_of (literal_said n l) d) → AllImply H d (literals_said n (unequal l.left k.left ∷ unequal l.right k.right ∷ [])) → Derivable H (imp_of (literal_said n k) d)
      same_kind n l k {d} fl fk pos types hd first tail =
          let a = type_of l.left in
          let two = two_members tail in
          let right_types : type_of l.right ≡ a = sym fl.typed.same_type in
          let second : Derivable H (imp_of (not_of (equation a (decoded n l.right) (decoded n k.right))) d) =
          subst (λ x. Derivable H (imp_of (not_of (equation x (decoded n l.right) (decoded n k.right))) d)) right_types two.1 in
          let hk = subst (HasType (decoded n k.left)) (sym types) (left_said n fk) in
          let hk' = subst (HasType (decoded n k.right)) (sym types) (right_said n fk) in
          rw (sym pos, sym types) (factor_implies l.positive (left_said n fl) (right_said n fl) hk hk' hd first two.0 second)

-- the places of a paramodulation
some_tree : {x y : Tree} → Some x ≡ Some y → x ≡ y
some_tree e = cc

slice_get-with : (ls : List Literal) (i : ℕ) (l k : Literal) → slice_get ls i ≡ Some l → slice_get (with_literals ls i (k ∷ [])) i ≡ Some k
slice_get-with [] i l k e = cc
slice_get-with (x ∷ xs) zero l k e = refl
slice_get-with (x ∷ xs) (suc i) l k e = slice_get-with xs i l k e

moved_at : (f : Literal → Literal) (ls : List Literal) (i : ℕ) (l : Literal) → slice_get ls i ≡ Some l → slice_get (map f ls) i ≡ Some (f l)
moved_at f ls i l e = slice_get-map f ls i ∙ ap (option_map f) e

-- the same place of a moved term
present-shifted : (by : ℕ) (x u : Tree) → present x ≡ Some u → present (shifted by x) ≡ Some (shifted by u)
present-shifted by absent u e = cc
present-shifted by (variable n a) u e = ap (λ t. Some (shifted by t)) (some_tree e)
present-shifted by (bound i a) u e = ap (λ t. Some (shifted by t)) (some_tree e)
present-shifted by (symbol n a) u e = ap (λ t. Some (shifted by t)) (some_tree e)
present-shifted by (app f x) u e = ap (λ t. Some (shifted by t)) (some_tree e)
present-shifted by (lam a t) u e = ap (λ t. Some (shifted by t)) (some_tree e)
present-shifted by (logic c x y) u e = ap (λ t. Some (shifted by t)) (some_tree e)

child-shifted : (by n : ℕ) (t u : Tree) → child n t ≡ Some u → child n (shifted by t) ≡ Some (shifted by u)
child-shifted by zero (app f x) u e = ap (λ t. Some (shifted by t)) (some_tree e)
child-shifted by (suc zero) (app f x) u e = ap (λ t. Some (shifted by t)) (some_tree e)
child-shifted by (suc (suc n)) (app f x) u e = cc
child-shifted by zero (logic c x y) u e = present-shifted by x u e
child-shifted by (suc zero) (logic c x y) u e = present-shifted by y u e
child-shifted by (suc (suc n)) (logic c x y) u e = cc
child-shifted by n (variable m a) u e = cc
child-shifted by n (bound i a) u e = cc
child-shifted by n (symbol m a) u e = cc
child-shifted by n (lam a t) u e = cc
child-shifted by n absent u e = cc

subterm-shifted : (by : ℕ) (path : List ℕ) (t s : Tree) → subterm path t ≡ Some s → subterm path (shifted by t) ≡ Some (shifted by s)
subterm-shifted by [] t s e = ap (λ t. Some (shifted by t)) (some_tree e)
subterm-shifted by (n ∷ path) t s e = go (child n t) refl e (subterm-shifted by path)
  where
    go : (o : Option Tree) → child n t ≡ o → option_and_then (subterm path) o ≡ Some s → ((u s : Tree) → subterm path u ≡ Some s → subterm path (shifted by u) ≡ Some (shifted by s)) →
        option_and_then (subterm path) (child n (shifted by t)) ≡ Some (shifted by s)
    go None k e inner = cc
    go (Some u) k e inner = rw (child-shifted by n t u k) (inner u s e)

-- a literal with a part of a side changed
side_swaps : (n : ℕ) (side : Side) (path : List ℕ) (r t : Tree) (l : Literal) {variables : List SimpleType} → IsFine variables l → subterm path (side_of side l) ≡ Some t →
    Swaps (decoded n t) (decoded n r) (literal_said n l) (signed l.positive (equation (type_of l.left) (decoded n (replaced_in side path r l).left) (decoded n (replaced_in side path r l).right)))
side_swaps n Left path r t l h e = signed_swaps l.positive (in_function (decoded n l.right) (in_argument (identity (type_of l.left)) (path_swaps n path r l.left t h.left_typed e)))
side_swaps n Right path r t l h e = signed_swaps l.positive (in_argument (apply (identity (type_of l.left)) (decoded n l.left)) (path_swaps n path r l.right t h.right_typed e))

-- the type of a side stays
replaced_type : {variables more : List SimpleType} (n : ℕ) (side : Side) (path : List ℕ) (r t : Tree) (l : Literal) (a : SimpleType) → IsFine variables l → IsFine more (replaced_in side path r l) →
    subterm path (side_of side l) ≡ Some t → HasType (decoded n t) a → HasType (decoded n r) a → type_of (replaced_in side path r l).left ≡ type_of l.left
replaced_type n Left path r t l a h g e ht hr =
    equal_type (left_said n g) (HasType-Swaps (path_swaps n path r l.left t h.left_typed e) ht hr (left_said n h))
replaced_type n Right path r t l a h g e ht hr = refl

new_formula : (n : ℕ) (side : Side) (path : List ℕ) (r : Tree) (l : Literal) → type_of (replaced_in side path r l).left ≡ type_of l.left →
    literal_said n (replaced_in side path r l) ≡ signed l.positive (equation (type_of l.left) (decoded n (replaced_in side path r l).left) (decoded n (replaced_in side path r l).right))
new_formula n Left path r l e = rw e refl
new_formula n Right path r l e = refl

positive_formula : (n : ℕ) (l : Literal) → l.positive ≡ true → literal_said n l ≡ equation (type_of l.left) (decoded n l.left) (decoded n l.right)
positive_formula n l e = ap (λ b. signed b (equation (type_of l.left) (decoded n l.left) (decoded n l.right))) e

place_moved : (by : ℕ) (side : Side) (path : List ℕ) (l : Literal) (t : Tree) → subterm path (side_of side l) ≡ Some t → subterm path (side_of side (shifted_literal by l)) ≡ Some (shifted by t)
place_moved by Left path l t e = subterm-shifted by path l.left t e
place_moved by Right path l t e = subterm-shifted by path l.right t e

without_fine : (variables : List SimpleType) (ls : List Literal) (j : ℕ) → AreFine variables ls → AreFine variables (without ls j)
without_fine variables ls j h = fine-append variables (take j ls) ([] ++ drop (suc j) ls) (fine-take variables j ls h) (fine-drop variables (suc j) ls h)

-- both sides of a literal, the named one first
record Oriented (H : List Term) (n : ℕ) (side : Side) (l : Literal) : Type 0 where
  side_type : type_of (side_of side l) ≡ type_of l.left
  side_said : HasType (decoded n (side_of side l)) (type_of l.left)
  other_said : HasType (decoded n (other_side_of side l)) (type_of l.left)
  turned : Derivable H (imp_of (equation (type_of l.left) (decoded n l.left) (decoded n l.right)) (equation (type_of l.left) (decoded n (side_of side l)) (decoded n (other_side_of side l))))

module _ {H : List Term} where
  oriented : {variables : List SimpleType} (n : ℕ) (side : Side) (l : Literal) → IsFine variables l → Oriented H n side l
  oriented n Left l h =
      record { side_type = refl; side_said = left_said n h; other_said = right_said n h; turned = imp_itself (HasType-equation (left_said n h) (right_said n h)) }
  oriented n Right l h =
      record { side_type = sym h.typed.same_type; side_said = right_said n h; other_said = left_said n h; turned = turned_follows (left_said n h) (right_said n h) }

  -- the others, and the new one
  others_and_new : (n : ℕ) (ls : List Literal) (j : ℕ) (k new : Literal) {d : Term} → slice_get ls j ≡ Some k → AllImply H d (literals_said n (with_literals ls j (new ∷ []))) →
      AllImply H d (literals_said n (without ls j)) × Derivable H (imp_of (literal_said n new) d)
  others_and_new n ls j k new {d} at all =
      let split = parts_imply (literals_said n (take j ls)) ((literal_said n new ∷ []) ++ literals_said n (drop (suc j) ls)) (subst (AllImply H d) (said-with n ls j (new ∷ [])) all) in
      let rest = parts_imply (literal_said n new ∷ []) (literals_said n (drop (suc j) ls)) split.1 in
      let one = implies_at (literal_said n new ∷ []) 0 (literal_said n new) refl rest.0 in
      (subst (AllImply H d) (sym (said-with n ls j [])) (AllImply-append (literals_said n (take j ls)) ([] ++ literals_said n (drop (suc j) ls)) split.0 rest.1), one)

  pub para_says : (p q c : ClauseTree) (i : ℕ) (l : Literal) (s : Side) (j : ℕ) (k : Literal) (r : Side) (path : List ℕ) (t : Tree) →
      slice_get p.literals i ≡ Some l → slice_get q.literals j ≡ Some k → subterm path (side_of r k) ≡ Some t → l.positive ≡ true → type_of (side_of s l) ≡ type_of t →
      c ≡ paramodulant p i l s q j k r path t → IsSensible p → IsSensible q → IsSensible c → Says H p → Says H q → Says H c
  para_says p q c i l s j k r path t at at' place pos types e hp hq hc sp sq =
      let a = p.variables in
      let b = q.variables in
      let n = length a in
      let vars : c.variables ≡ a ++ b = ap (λ (x : ClauseTree). x.variables) e in
      let len : length (a ++ b) ≡ n + length b = length-append a b in
      let m = length (a ++ b) in
      let moved = map (shifted_literal n) q.literals in
      let kk = shifted_literal n k in
      let tt' = shifted n t in
      let other = other_side_of s l in
      let new = replaced_in r path other kk in
      let first = without p.literals i in
      let second = with_literals moved j (new ∷ []) in
      let last = unequal (side_of s l) tt' ∷ [] in
      let lits : c.literals ≡ first ++ (second ++ last) = ap (λ (x : ClauseTree). x.literals) e in
      let hm : AreFine (a ++ b) moved = fine-shifted a b q.literals hq in
      let whole : AreFine c.variables (first ++ (second ++ last)) = subst (AreFine c.variables) lits hc in
      let parts = fine-parts c.variables first (second ++ last) whole in
      let parts' = fine-parts c.variables second last parts.1 in
      let f1 = said_formulas c.variables m first parts.0 in
      let f2 = said_formulas c.variables m second parts'.0 in
      let f3 = said_formulas c.variables m last parts'.1 in
      let f23 = AreFormulas-append (literals_said m second) (literals_said m last) f2 f3 in
      let all_said = literals_said m first ++ (literals_said m second ++ literals_said m last) in
      let joined : literals_said m (first ++ (second ++ last)) ≡ all_said =
      map-append (literal_said m) first (second ++ last) ∙ ap (λ ts. literals_said m first ++ ts) (map-append (literal_said m) second last) in
      let d = disjunction all_said in
      let hd = HasType-disjunction all_said (AreFormulas-append (literals_said m first) (literals_said m second ++ literals_said m last) f1 f23) in
      let d1 = members_imply-left (literals_said m first) (literals_said m second ++ literals_said m last) f1 f23 in
      let d23 = parts_imply (literals_said m second) (literals_said m last) (members_imply-right (literals_said m first) (literals_said m second ++ literals_said m last) f1 f23) in
      let at'' = moved_at (shifted_literal n) q.literals j k at' in
      let fl = fine-at a p.literals i l at hp in
      let fk = fine-at (a ++ b) moved j kk at'' hm in
      let o : Oriented H m s l = oriented m s l fl in
      let place' : subterm path (side_of r kk) ≡ Some tt' = place_moved n r path k t place in
      let new_at = others_and_new m moved j kk new at'' d23.0 in
      let fnew = fine-at c.variables second j new (slice_get-with moved j kk new at'') parts'.0 in
      let t_type : type_of tt' ≡ type_of l.left = type_of-shifted n t ∙ sym types ∙ o.side_type in
      let ht : HasType (decoded m tt') (type_of l.left) = typed_as m tt' (type_of l.left) parts'.1.0.right_typed t_type in
      let apart : Derivable H (imp_of (not_of (equation (type_of l.left) (decoded m (side_of s l)) (decoded m tt'))) d) =
      subst (λ x. Derivable H (imp_of (not_of (equation x (decoded m (side_of s l)) (decoded m tt'))) d)) o.side_type (implies_at (literals_said m last) 0 _ refl d23.1) in
      let new_type = replaced_type m r path other tt' kk (type_of l.left) fk fnew place' ht o.other_said in
      let new_said : Derivable H (imp_of (signed kk.positive (equation (type_of kk.left) (decoded m new.left) (decoded m new.right))) d) =
      subst (λ x. Derivable H (imp_of x d)) (new_formula m r path other kk new_type) new_at.1 in
      let swaps = side_swaps m r path other tt' kk fk place' in
      let q_implies = para_implies o.side_said o.other_said ht (said_formula m fk) hd swaps new_said apart in
      let he = HasType-equation o.side_said o.other_said in
      let goal = imp_formula he hd in
      let q_others = AllImply-premise (literals_said m (without moved j)) (said_formulas (a ++ b) m (without moved j) (without_fine (a ++ b) moved j hm)) hd he new_at.0 in
      let q_all = others_and_one m moved j kk at'' q_others q_implies in
      let q_says : Says H (record { variables = a ++ b; literals = moved }) =
      inst_says q (record { variables = a ++ b; literals = moved }) (variables_from n b) (sym (literals-variables n b q.literals hq)) (moved_variables_fit a b) (literals_given n b q.literals hq)
      (typed-variables n b) hq hm sq in
      let equal_gives = from_members (literals_said m moved) (said_formulas (a ++ b) m moved hm) goal q_all q_says.said in
      let hpl = HasType-equation (left_said m fl) (right_said m fl) in
      let p_one : Derivable H (imp_of (literal_said m l) d) =
      subst (λ x. Derivable H (imp_of x d)) (sym (positive_formula m l pos)) (imp_then hpl he hd o.turned equal_gives) in
      let p_all = others_and_one m p.literals i l at d1 p_one in
      let result = from_members (literals_said m p.literals) (said_formulas a m p.literals hp) hd p_all (said_at p m (length b) len hp sp) in
      record { said = subst (λ x. Derivable H (clause_said x c.literals)) (ap length (sym vars)) (subst (λ ls. Derivable H (clause_said m ls)) (sym lits) (subst (λ ts. Derivable H (disjunction ts)) (sym joined) result)) }
