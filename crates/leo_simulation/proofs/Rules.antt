-- Each rule: where the parents' clauses are derivable, the conclusion is.
use Rattle.std.proofs.Common.{◌≡◌, ℕ, suc, ◌+◌, true, false, List, [], ◌∷◌, ◌++◌, length, map, take, drop, slice_get, Some, refl, sym, ap, ◌∙◌, subst, arith}
use Rattle.std.proofs.lemmas.List.{length-append}
use Rattle.leo_q0.specs.Terms.{SimpleType, base, arrow, truth, Term, variable as q_variable, choice as q_choice, apply, HasType, of_variable, of_choice, of_apply}
use Rattle.leo_q0.specs.Connectives.{equation, true_term, false_term}
use Rattle.leo_q0.specs.Derivations.{Derivable}
use Rattle.leo_q0.proofs.WellTyped.{HasType-equation}
use Rattle.leo_q0.proofs.Formulas.{HasType-true, HasType-false}
use Rattle.leo_q0.proofs.Equations.{same}
use Rattle.leo_sound.specs.Propositions.{atom, truth_value, either, implies, equals, disjunction}
use Rattle.leo_sound.proofs.Truth.{equals_true}
use Rattle.leo_sound.proofs.Logic.{imp_of, modus_ponens}
use Rattle.leo_sound.proofs.Quantifiers.{functions_agree, chosen}
use Rattle.leo_sound.proofs.Tautologies.{AreFormulas, HasType-disjunction}
use Rattle.leo_terms.specs.Tree.{Tree, variable, app, type_of, codomain, truth_type}
use Rattle.leo_terms.specs.Typing.{IsWellTyped}
use Rattle.leo_terms.specs.Decode.{decoded, named}
use Rattle.leo_terms.proofs.CallerLemmas.{decoded_typed}
use Rattle.leo_clause.specs.Trees.{Literal, ClauseTree}
use Rattle.leo_clause.specs.declared.record.Half.{Half}
use Rattle.leo_clause.specs.declared.record.LogicKind.{LogicKind}
use Rattle.leo_clause.specs.Renaming.{substituted_literal, AreGiven}
use Rattle.leo_kernel.specs.Shapes.{equal, literal_type, domain, IsArrowType}
use Rattle.leo_kernel.specs.Conditions as kernel
use Rattle.leo_kernel.specs.Rows.{TakesApart}
use Rattle.leo_kernel.specs.Conclusions.{with_literals, with_new, assumed, AreConverted, AreAmong, NeverHolds, bool_case, func_ext_positive, Decomposes, choice_clause}
use Rattle.leo_simulation.proofs.Tables.{by_table}
use Rattle.leo_simulation.proofs.Disjunctions.{imp_formula, AllImply, from_members}
use Rattle.leo_simulation.proofs.Sayings.{literal_said, literals_said, clause_said, IsFine, AreFine, said_formulas, clause_formula, said_higher, said_lower, left_said, right_said}
use Rattle.leo_simulation.proofs.Places.{fine-at, fine-parts, literal_replaced}
use Rattle.leo_simulation.proofs.Steps.{never_implies, case_implies}
use Rattle.leo_simulation.proofs.Rows.{formula_decoded, row_implies}
use Rattle.leo_simulation.proofs.Parts.{parts_imply}
use Rattle.leo_simulation.proofs.Sides.{arranged_implies, converted_implies}
use Rattle.leo_simulation.proofs.ClauseInstances.{AreWellTyped, clause_instance}

-- all sides are well typed, of one type in each literal, over the clause's variables
abbrev pub IsSensible : ClauseTree → Type 0
IsSensible c = AreFine c.variables c.literals

-- what the clause says is derivable
pub record Says (H : List Term) (c : ClauseTree) : Type 0 where
  pub said : Derivable H (clause_said (length c.variables) c.literals)

module _ {H : List Term} where
  -- the same with more variables around
  pub said_at : (c : ClauseTree) (n k : ℕ) → n ≡ length c.variables + k → IsSensible c → Says H c → Derivable H (clause_said n c.literals)
  said_at c n k e h s = subst (λ m. Derivable H (clause_said m c.literals)) (sym e) (said_higher c.variables c.literals h (length c.variables) k (omega arith) s.said)

  -- assume
  pub assume_says : (t : Tree) (c : ClauseTree) → c ≡ assumed t → IsWellTyped t → type_of t ≡ truth_type → Derivable H (decoded 0 t) → Says H c
  assume_says t c e w ty d =
      subst (Says H) (sym e) (record { said = rw ty (equals_true (formula_decoded 0 t w ty) d).derived })

  -- rules whose literals each imply the conclusion
  by_implications : (p c : ClauseTree) → length p.variables ≡ length c.variables → IsSensible p → IsSensible c → AllImply H (clause_said (length c.variables) c.literals) (literals_said (length c.variables) p.literals) → Says H p → Says H c
  by_implications p c e hp hc all s =
      record {
        said = from_members (literals_said (length c.variables) p.literals) (said_formulas p.variables (length c.variables) p.literals hp) (clause_formula c.variables (length c.variables) c.literals hc) all
            (subst (λ n. Derivable H (clause_said n p.literals)) e s.said);
      }

  pub convert_says : (p c : ClauseTree) → c.variables ≡ p.variables → AreConverted p.literals c.literals → IsSensible p → IsSensible c → Says H p → Says H c
  convert_says p c e k hp hc s =
      let l : length p.variables ≡ length c.variables = ap length (sym e) in
      by_implications p c l hp hc (converted_implies p.variables c.variables (length c.variables) p.literals c.literals (omega (arith, l)) (omega arith) hp hc k) s

  pub arrange_says : (p c : ClauseTree) → c.variables ≡ p.variables → AreAmong p.literals c.literals → IsSensible p → IsSensible c → Says H p → Says H c
  arrange_says p c e k hp hc s =
      by_implications p c (ap length (sym e)) hp hc (arranged_implies p.variables c.variables (length c.variables) p.literals c.literals hp hc k) s

  -- the literals of an instance
  pub inst_says : (p c : ClauseTree) (sigma : List Tree) → c.literals ≡ map (substituted_literal sigma) p.literals → kernel.AreTermsFor c.variables p.variables sigma → AreGiven sigma p.literals →
      AreWellTyped sigma → IsSensible p → IsSensible c → Says H p → Says H c
  inst_says p c sigma e fits given typed hp hc s =
      let k = length p.variables in
      let m = length c.variables in
      let limit = m + (k + k + 2) in
      let good : AreFine c.variables (map (substituted_literal sigma) p.literals) = subst (AreFine c.variables) e hc in
      let high = said_at p limit (m + (k + 2)) (omega arith) hp s in
      let all = clause_instance limit (omega arith) c.variables (m + k) p.variables sigma fits typed (omega arith) (omega arith) p.literals (omega arith) hp given good high in
      record { said = said_lower c.variables c.literals hc m (k + k + 2) (omega arith) (subst (λ ls. Derivable H (clause_said limit ls)) (sym e) all) }

  -- rules that change one literal
  pub by_literal : (p c : ClauseTree) (i : ℕ) (l : Literal) (fresh : List SimpleType) (new : List Literal) → slice_get p.literals i ≡ Some l → c ≡ with_new p i fresh new →
      IsSensible p → IsSensible c → Derivable H (imp_of (literal_said (length p.variables + length fresh) l) (clause_said (length p.variables + length fresh) new)) → Says H p → Says H c
  by_literal p c i l fresh new at e hp hc d s =
      let n = length p.variables + length fresh in
      let len : length c.variables ≡ n = ap length (ap (λ (k : ClauseTree). k.variables) e) ∙ length-append p.variables fresh in
      let lits : c.literals ≡ with_literals p.literals i new = ap (λ (k : ClauseTree). k.literals) e in
      let whole : AreFine c.variables (with_literals p.literals i new) = subst (AreFine c.variables) lits hc in
      let parts = fine-parts c.variables (take i p.literals) (new ++ drop (suc i) p.literals) whole in
      let good = (fine-parts c.variables new (drop (suc i) p.literals) parts.1).0 in
      let all = literal_replaced p.variables c.variables n p.literals i l at hp new good d (said_at p n (length fresh) refl hp s) in
      record { said = subst (λ m. Derivable H (clause_said m c.literals)) (sym len) (subst (λ ls. Derivable H (clause_said n ls)) (sym lits) all) }

  pub drop_says : (p c : ClauseTree) (i : ℕ) (l : Literal) → slice_get p.literals i ≡ Some l → NeverHolds l → c ≡ with_new p i [] [] → IsSensible p → IsSensible c → Says H p → Says H c
  drop_says p c i l at never e hp hc s = by_literal p c i l [] [] at e hp hc (never_implies (length p.variables + 0) never (fine-at p.variables p.literals i l at hp)) s

  pub row_says : (p c : ClauseTree) (i : ℕ) (l : Literal) (kind : LogicKind) (fresh : List SimpleType) (new : List Literal) → slice_get p.literals i ≡ Some l →
      TakesApart (length p.variables) kind l fresh new → c ≡ with_new p i fresh new → IsSensible p → IsSensible c → Says H p → Says H c
  row_says p c i l kind fresh new at row e hp hc s =
      by_literal p c i l fresh new at e hp hc (row_implies (length p.variables + length fresh) (length p.variables) row (fine-at p.variables p.literals i l at hp)) s

  pub bool_ext_says : (p c : ClauseTree) (i : ℕ) (l : Literal) (half : Half) → slice_get p.literals i ≡ Some l → literal_type l ≡ truth_type →
      c ≡ with_new p i [] (bool_case half l.positive l.left l.right) → IsSensible p → IsSensible c → Says H p → Says H c
  bool_ext_says p c i l half at t e hp hc s =
      by_literal p c i l [] (bool_case half l.positive l.left l.right) at e hp hc (case_implies (length p.variables + 0) half l (fine-at p.variables p.literals i l at hp) t) s

  pub decompose_says : (p c : ClauseTree) (i : ℕ) (l : Literal) (new : List Literal) → slice_get p.literals i ≡ Some l → kernel.HaveOneHeadType l.left l.right → Decomposes l new →
      c ≡ with_new p i [] new → IsSensible p → IsSensible c → Says H p → Says H c
  decompose_says p c i l new at t parts e hp hc s =
      by_literal p c i l [] new at e hp hc (parts_imply (length p.variables + 0) parts (fine-at p.variables p.literals i l at hp) t) s

  -- functions that are equal agree at a fresh variable
  pub func_ext_says : (p c : ClauseTree) (i : ℕ) (l : Literal) → slice_get p.literals i ≡ Some l → l.positive ≡ true → IsArrowType (literal_type l) →
      c ≡ func_ext_positive p i l → IsSensible p → IsSensible c → Says H p → Says H c
  func_ext_says p c i l at pos arrows e hp hc s =
      by_literal p c i l (domain (literal_type l) ∷ []) (equal (app l.left (variable (length p.variables) (domain (literal_type l)))) (app l.right (variable (length p.variables) (domain (literal_type l)))) ∷ []) at e hp hc (agree (length p.variables + 1) l (fine-at p.variables p.literals i l at hp) pos arrows) s
    where
      agree_typed : (n : ℕ) (f g : Tree) (t : SimpleType) → IsArrowType t → HasType (decoded n f) t → HasType (decoded n g) t →
          Derivable H (imp_of (equation t (decoded n f) (decoded n g)) (equation (codomain t) (decoded n (app f (variable (length p.variables) (domain t)))) (decoded n (app g (variable (length p.variables) (domain t))))))
      agree_typed n f g (base m) a hf hg = absurd a
      agree_typed n f g (arrow x y) a hf hg = functions_agree hf hg (of_variable (named (length p.variables) x))

      agree : (n : ℕ) (l : Literal) → IsFine p.variables l → l.positive ≡ true → IsArrowType (literal_type l) →
          Derivable H (imp_of (literal_said n l) (clause_said n (equal (app l.left (variable (length p.variables) (domain (literal_type l)))) (app l.right (variable (length p.variables) (domain (literal_type l)))) ∷ [])))
      agree n l h pos arrows = rw pos (agree_typed n l.left l.right (literal_type l) arrows (left_said n h) (right_said n h))

  pub refl_says : (c : ClauseTree) (t : Tree) → c.literals ≡ equal t t ∷ [] → IsSensible c → Says H c
  refl_says c t e hc =
      let n = length c.variables in
      let h : AreFine c.variables (equal t t ∷ []) = subst (AreFine c.variables) e hc in
      record { said = subst (λ ls. Derivable H (clause_said n ls)) (sym e) (same (decoded_typed t n h.0.left_typed)).derived }

  pub choice_says : (c : ClauseTree) (a : SimpleType) → c ≡ choice_clause a → Says H c
  choice_says c a e =
      let p = of_variable (named 0 (arrow a truth_type)) in
      let x = of_variable (named 1 a) in
      let px = of_apply p x in
      let pe = of_apply p (of_apply (of_choice a) p) in
      let s = apply (q_variable (named 0 (arrow a truth_type))) (q_variable (named 1 a)) in
      let t = apply (q_variable (named 0 (arrow a truth_type))) (apply (q_choice a) (q_variable (named 0 (arrow a truth_type)))) in
      let both : AreFormulas (equation truth s false_term ∷ equation truth t true_term ∷ []) = (HasType-equation px HasType-false, (HasType-equation pe HasType-true, tt)) in
      let atoms : AreFormulas (s ∷ t ∷ []) = (px, (pe, tt)) in
      let table : Derivable H (imp_of (imp_of s t) (disjunction (equation truth s false_term ∷ equation truth t true_term ∷ []))) =
      by_table 2 (s ∷ t ∷ []) (implies (implies (atom 0) (atom 1)) (either (equals (atom 0) (truth_value false)) (equals (atom 1) (truth_value true)))) atoms refl refl in
      subst (Says H) (sym e)
      (record { said = modus_ponens (imp_formula px pe) (HasType-disjunction (equation truth s false_term ∷ equation truth t true_term ∷ []) both) table (chosen p x) })
