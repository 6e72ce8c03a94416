-- Rules that keep the literals, each turned or with sides of the same normal form, and factoring.
use Rattle.std.proofs.Common.{◌≡◌, ℕ, ◌≤◌, Bool, true, false, ◌&&◌, ◌||◌, List, [], ◌∷◌, length, refl, sym, subst, arith}
use Rattle.std.specs.Bool.{beq}
use Rattle.std.specs.List.{list_any}
use Rattle.std.proofs.lemmas.Bool.{and_parts}
use Rattle.leo_q0.specs.Terms.{SimpleType, truth, Term, HasType, of_identity}
use Rattle.leo_q0.specs.Connectives.{equation}
use Rattle.leo_q0.specs.Derivations.{Derivable, by_axiom, by_hypothesis, by_rule_r}
use Rattle.leo_q0.proofs.WellTyped.{HasType-equation, equal_type}
use Rattle.leo_q0.proofs.Formulas.{HasType-not}
use Rattle.leo_q0.proofs.Equations.{Equal, same, back, then, applied}
use Rattle.leo_q0.proofs.LawProofs.{equal}
use Rattle.leo_sound.specs.Propositions.{atom, implies, equals}
use Rattle.leo_sound.proofs.Logic.{imp_of, modus_ponens}
use Rattle.leo_sound.proofs.Quantifiers.{to_negations}
use Rattle.leo_terms.specs.Tree.{Tree, type_of}
use Rattle.leo_terms.specs.Typing.{IsWellTyped}
use Rattle.leo_terms.specs.NormalForm.{normal_form}
use Rattle.leo_terms.specs.Decode.{decoded}
use Rattle.leo_terms.proofs.CallerLemmas.{normal_derives}
use Rattle.leo_clause.specs.Trees.{Literal}
use Rattle.leo_clause.specs.Typed.{IsOver}
use Rattle.leo_clause.specs.Sameness.{same_tree, same_literal}
use Rattle.leo_clause.specs.Formulas.{signed}
use Rattle.leo_clause.proofs.Same.{equal-trees}
use Rattle.leo_kernel.specs.Conclusions.{AreAmong, AreConverted, IsConverted}
use Rattle.leo_simulation.proofs.Tables.{by_table}
use Rattle.leo_simulation.proofs.Disjunctions.{imp_formula, imp_itself, imp_then, front_implies, rest_implies, imply_more, AllImply, none, also}
use Rattle.leo_simulation.proofs.Congruence.{turned_follows}
use Rattle.leo_simulation.proofs.Sayings.{literal_said, literals_said, clause_said, IsFine, AreFine, said_formula, said_formulas, clause_formula, fitting-over, left_said, right_said}

either : (b c : Bool) {X : Type 0} → (b || c) ≡ true → (b ≡ true → X) → (c ≡ true → X) → X
either true c h f g = f refl
either false c h f g = g h

same_polarity : (b c : Bool) → beq b c ≡ true → b ≡ c
same_polarity true true h = refl
same_polarity true false h = cc
same_polarity false true h = cc
same_polarity false false h = refl

-- an equation implies its turned form, and so does an inequation
module _ {H : List Term} where
  turned_signed : (b : Bool) {a : SimpleType} {s t : Term} → HasType s a → HasType t a → Derivable H (imp_of (signed b (equation a s t)) (signed b (equation a t s)))
  turned_signed true hs ht = turned_follows hs ht
  turned_signed false hs ht = to_negations (HasType-equation ht hs) (HasType-equation hs ht) (turned_follows ht hs)

  -- a literal implies the one that is the same, or turned
  same_implies : {variables : List SimpleType} (n : ℕ) (l k : Literal) → IsFine variables l → same_literal l k ≡ true → Derivable H (imp_of (literal_said n l) (literal_said n k))
  same_implies n l k h e =
      let p = and_parts (beq l.positive k.positive) ((same_tree l.left k.left && same_tree l.right k.right) || (same_tree l.left k.right && same_tree l.right k.left)) e in
      let b = same_polarity l.positive k.positive p.0 in
      either (same_tree l.left k.left && same_tree l.right k.right) (same_tree l.left k.right && same_tree l.right k.left) p.1
      (λ q. (let r = and_parts (same_tree l.left k.left) (same_tree l.right k.right) q in
      let x = equal-trees l.left k.left r.0 in
      let y = equal-trees l.right k.right r.1 in
      rw (sym b, sym x, sym y) (imp_itself (said_formula n h))))
      (λ q. (let r = and_parts (same_tree l.left k.right) (same_tree l.right k.left) q in
      let x = equal-trees l.left k.right r.0 in
      let y = equal-trees l.right k.left r.1 in
      rw (sym b, sym x, sym y, sym h.typed.same_type) (turned_signed l.positive (left_said n h) (right_said n h))))

  among_implies : (variables more : List SimpleType) (n : ℕ) (l : Literal) (ks : List Literal) → IsFine variables l → AreFine more ks → list_any (same_literal l) ks ≡ true →
      Derivable H (imp_of (literal_said n l) (clause_said n ks))
  among_implies variables more n l [] h fine e = cc
  among_implies variables more n l (k ∷ ks) h fine e =
      either (same_literal l k) (list_any (same_literal l) ks) e
      (λ q. imp_then (said_formula n h) (said_formula n fine.0) (clause_formula more n (k ∷ ks) fine) (same_implies n l k h q)
      (front_implies (literal_said n k) (literals_said n ks) (said_formula n fine.0) (said_formulas more n ks fine.1)))
      (λ q. imp_then (said_formula n h) (clause_formula more n ks fine.1) (clause_formula more n (k ∷ ks) fine) (among_implies variables more n l ks h fine.1 q)
      (rest_implies (literal_said n k) (literals_said n ks) (said_formula n fine.0) (said_formulas more n ks fine.1)))

  -- arrange: each literal is among those of the clause
  pub arranged_implies : (variables more : List SimpleType) (n : ℕ) (ls ks : List Literal) → AreFine variables ls → AreFine more ks → AreAmong ls ks → AllImply H (clause_said n ks) (literals_said n ls)
  arranged_implies variables more n [] ks h fine e = none
  arranged_implies variables more n (l ∷ ls) ks h fine e = also (among_implies variables more n l ks h.0 fine e.0) (arranged_implies variables more n ls ks h.1 fine e.1)

  from_none : {s : Term} → Derivable [] s → Derivable H s
  from_none (by_axiom a) = by_axiom a
  from_none (by_hypothesis c) = absurd (let k = c.1 in let f : ⊥ = omega arith in f)
  from_none (by_rule_r d e r) = by_rule_r (from_none d) (from_none e) r

  -- a side equals the one with its normal form
  form_equal : (variables : List SimpleType) (n : ℕ) (t : Tree) → length variables ≤ n → IsWellTyped t → IsOver variables 0 t →
      Equal H (type_of t) (decoded n t) (decoded n (normal_form t))
  form_equal variables n t few w o =
      let e = equal (λ s c. absurd (let k = c.1 in let f : ⊥ = omega arith in f)) (normal_derives t (length variables) n few w (fitting-over variables 0 t (length variables) n (omega arith) (omega (arith, few)) o)) in
      record { left = e.left; right = e.right; derived = from_none e.derived }

  pub forms_equal : (variables more : List SimpleType) (n : ℕ) (s t : Tree) → length variables ≤ n → length more ≤ n → IsWellTyped s → IsOver variables 0 s → IsWellTyped t → IsOver more 0 t →
      normal_form s ≡ normal_form t → Equal H (type_of s) (decoded n s) (decoded n t)
  forms_equal variables more n s t few few' ws os wt ot e =
      let one = form_equal variables n s few ws os in
      let two = form_equal more n t few' wt ot in
      let other : HasType (decoded n (normal_form s)) (type_of t) = subst (λ u. HasType (decoded n u) (type_of t)) (sym e) two.right in
      let types : type_of t ≡ type_of s = equal_type other one.right in
      then one (back (subst (λ u. Equal H (type_of s) (decoded n t) (decoded n u)) (sym e) (subst (λ a. Equal H a (decoded n t) (decoded n (normal_form t))) types two)))

  signed_equal : (b : Bool) {a c : SimpleType} {s t s' t' : Term} → a ≡ c → Equal H a s s' → Equal H a t t' → Equal H truth (signed b (equation a s t)) (signed b (equation c s' t'))
  signed_equal b {a} {c} {s} {t} {s'} {t'} e x y =
      subst (λ c. Equal H truth (signed b (equation a s t)) (signed b (equation c s' t'))) e
      (go b (applied (applied (same (of_identity a)) x) y))
    where
      go : (b : Bool) {p q : Term} → Equal H truth p q → Equal H truth (signed b p) (signed b q)
      go true x = x
      go false x = applied (same HasType-not) x

  pub equal_implies : {p q : Term} → Equal H truth p q → Derivable H (imp_of p q)
  equal_implies {p} {q} x =
      modus_ponens (HasType-equation x.left x.right) (imp_formula x.left x.right)
      (by_table 2 (p ∷ q ∷ []) (implies (equals (atom 0) (atom 1)) (implies (atom 0) (atom 1))) (x.left, (x.right, tt)) refl refl) x.derived

  -- convert: side by side the same normal form
  converted_literal : (variables more : List SimpleType) (n : ℕ) (l k : Literal) → length variables ≤ n → length more ≤ n → IsFine variables l → IsFine more k → IsConverted l k →
      Derivable H (imp_of (literal_said n l) (literal_said n k))
  converted_literal variables more n l k few few' h g e =
      let x = forms_equal variables more n l.left k.left few few' h.left_typed h.typed.left_over g.left_typed g.typed.left_over (sym e.left_form) in
      let y = forms_equal variables more n l.right k.right few few' h.right_typed h.typed.right_over g.right_typed g.typed.right_over (sym e.right_form) in
      let types : type_of l.left ≡ type_of k.left = equal_type x.right (left_said n g) in
      let y' = subst (λ a. Equal H a (decoded n l.right) (decoded n k.right)) (sym h.typed.same_type) y in
      equal_implies (subst (λ b. Equal H truth (literal_said n l) (signed b (equation (type_of k.left) (decoded n k.left) (decoded n k.right)))) (sym e.polarity)
      (signed_equal l.positive types x y'))

  pub converted_implies : (variables more : List SimpleType) (n : ℕ) (ls ks : List Literal) → length variables ≤ n → length more ≤ n → AreFine variables ls → AreFine more ks → AreConverted ls ks →
      AllImply H (clause_said n ks) (literals_said n ls)
  converted_implies variables more n [] [] few few' h g e = none
  converted_implies variables more n [] (k ∷ ks) few few' h g e = none
  converted_implies variables more n (l ∷ ls) [] few few' h g e = absurd e
  converted_implies variables more n (l ∷ ls) (k ∷ ks) few few' h g e =
      let said = clause_formula more n (k ∷ ks) g in
      also (imp_then (said_formula n h.0) (said_formula n g.0) said (converted_literal variables more n l k few few' h.0 g.0 e.0)
      (front_implies (literal_said n k) (literals_said n ks) (said_formula n g.0) (said_formulas more n ks g.1)))
      (imply_more (literals_said n ls) (literal_said n k) (literals_said n ks) (said_formulas variables n ls h.1) (said_formula n g.0) (said_formulas more n ks g.1)
      (converted_implies variables more n ls ks few few' h.1 g.1 e.1))
