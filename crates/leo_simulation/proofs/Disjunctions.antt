-- Reasoning with implications and with disjunctions of lists of formulas.
use Rattle.std.proofs.Common.{false, List, [], ◌∷◌, ◌++◌, refl}
use Rattle.leo_q0.specs.Terms.{Term, IsFormula}
use Rattle.leo_q0.specs.Connectives.{false_term}
use Rattle.leo_q0.specs.Derivations.{Derivable}
use Rattle.leo_q0.proofs.Formulas.{HasType-imp, HasType-or, HasType-apply_two}
use Rattle.leo_sound.specs.Propositions.{atom, truth_value, either, implies, disjunction}
use Rattle.leo_sound.proofs.Logic.{imp_of, or_of, modus_ponens}
use Rattle.leo_sound.proofs.Tautologies.{AreFormulas, HasType-disjunction}
use Rattle.leo_simulation.proofs.Tables.{by_table}

pub imp_formula : {s t : Term} → IsFormula s → IsFormula t → IsFormula (imp_of s t)
imp_formula hs ht = HasType-apply_two HasType-imp hs ht

pub or_formula : {s t : Term} → IsFormula s → IsFormula t → IsFormula (or_of s t)
or_formula hs ht = HasType-apply_two HasType-or hs ht

module _ {H : List Term} where
  pub imp_itself : {s : Term} → IsFormula s → Derivable H (imp_of s s)
  imp_itself {s} hs = by_table 1 (s ∷ []) (implies (atom 0) (atom 0)) (hs, tt) refl refl

  pub imp_then : {s t u : Term} → IsFormula s → IsFormula t → IsFormula u → Derivable H (imp_of s t) → Derivable H (imp_of t u) → Derivable H (imp_of s u)
  imp_then {s} {t} {u} hs ht hu d e =
      let whole : Derivable H (imp_of (imp_of s t) (imp_of (imp_of t u) (imp_of s u))) =
      by_table 3 (s ∷ t ∷ u ∷ []) (implies (implies (atom 0) (atom 1)) (implies (implies (atom 1) (atom 2)) (implies (atom 0) (atom 2)))) (hs, (ht, (hu, tt))) refl refl in
      modus_ponens (imp_formula ht hu) (imp_formula hs hu) (modus_ponens (imp_formula hs ht) (imp_formula (imp_formula ht hu) (imp_formula hs hu)) whole d) e

  -- what holds follows from everything
  pub imp_known : {s t : Term} → IsFormula s → IsFormula t → Derivable H t → Derivable H (imp_of s t)
  imp_known {s} {t} hs ht d =
      modus_ponens ht (imp_formula hs ht) (by_table 2 (s ∷ t ∷ []) (implies (atom 1) (implies (atom 0) (atom 1))) (hs, (ht, tt)) refl refl) d

  pub imp_swap : {s t u : Term} → IsFormula s → IsFormula t → IsFormula u → Derivable H (imp_of s (imp_of t u)) → Derivable H (imp_of t (imp_of s u))
  imp_swap {s} {t} {u} hs ht hu d =
      modus_ponens (imp_formula hs (imp_formula ht hu)) (imp_formula ht (imp_formula hs hu))
      (by_table 3 (s ∷ t ∷ u ∷ []) (implies (implies (atom 0) (implies (atom 1) (atom 2))) (implies (atom 1) (implies (atom 0) (atom 2)))) (hs, (ht, (hu, tt))) refl refl) d

  -- a step behind two premises
  pub imp_two_then : {s t u v : Term} → IsFormula s → IsFormula t → IsFormula u → IsFormula v →
      Derivable H (imp_of s (imp_of t u)) → Derivable H (imp_of u v) → Derivable H (imp_of s (imp_of t v))
  imp_two_then {s} {t} {u} {v} hs ht hu hv d e =
      let whole : Derivable H (imp_of (imp_of s (imp_of t u)) (imp_of (imp_of u v) (imp_of s (imp_of t v)))) =
      by_table 4 (s ∷ t ∷ u ∷ v ∷ []) (implies (implies (atom 0) (implies (atom 1) (atom 2))) (implies (implies (atom 2) (atom 3)) (implies (atom 0) (implies (atom 1) (atom 3)))))
      (hs, (ht, (hu, (hv, tt)))) refl refl in
      let p = imp_formula hs (imp_formula ht hu) in
      let q = imp_formula hu hv in
      let r = imp_formula hs (imp_formula ht hv) in
      modus_ponens q r (modus_ponens p (imp_formula q r) whole d) e

  or_left : {s t : Term} → IsFormula s → IsFormula t → Derivable H (imp_of s (or_of s t))
  or_left {s} {t} hs ht = by_table 2 (s ∷ t ∷ []) (implies (atom 0) (either (atom 0) (atom 1))) (hs, (ht, tt)) refl refl

  or_right : {s t : Term} → IsFormula s → IsFormula t → Derivable H (imp_of t (or_of s t))
  or_right {s} {t} hs ht = by_table 2 (s ∷ t ∷ []) (implies (atom 1) (either (atom 0) (atom 1))) (hs, (ht, tt)) refl refl

  or_cases : {s t u : Term} → IsFormula s → IsFormula t → IsFormula u → Derivable H (imp_of s u) → Derivable H (imp_of t u) → Derivable H (imp_of (or_of s t) u)
  or_cases {s} {t} {u} hs ht hu d e =
      let whole : Derivable H (imp_of (imp_of s u) (imp_of (imp_of t u) (imp_of (or_of s t) u))) =
      by_table 3 (s ∷ t ∷ u ∷ []) (implies (implies (atom 0) (atom 2)) (implies (implies (atom 1) (atom 2)) (implies (either (atom 0) (atom 1)) (atom 2)))) (hs, (ht, (hu, tt))) refl refl in
      let q = imp_formula ht hu in
      let r = imp_formula (or_formula hs ht) hu in
      modus_ponens q r (modus_ponens (imp_formula hs hu) (imp_formula q r) whole d) e

  pub false_imp : {s : Term} → IsFormula s → Derivable H (imp_of false_term s)
  false_imp {s} hs = by_table 1 (s ∷ []) (implies (truth_value false) (atom 0)) (hs, tt) refl refl

-- each formula of the list implies u
pub data AllImply (H : List Term) (u : Term) : List Term → Type 0 where
  none : AllImply H u []
  also : {s : Term} {ss : List Term} → Derivable H (imp_of s u) → AllImply H u ss → AllImply H u (s ∷ ss)

pub AreFormulas-append : (ss ts : List Term) → AreFormulas ss → AreFormulas ts → AreFormulas (ss ++ ts)
AreFormulas-append [] ts h k = k
AreFormulas-append (s ∷ ss) ts h k = (h.0, AreFormulas-append ss ts h.1 k)

module _ {H : List Term} where
  -- a disjunction implies what each of its members implies
  pub disjunction_implies : (ss : List Term) {u : Term} → AreFormulas ss → IsFormula u → AllImply H u ss → Derivable H (imp_of (disjunction ss) u)
  disjunction_implies [] h hu none = false_imp hu
  disjunction_implies (s ∷ []) h hu (also d all) = d
  disjunction_implies (s ∷ t ∷ ts) h hu (also d all) =
      or_cases h.0 (HasType-disjunction (t ∷ ts) h.1) hu d (disjunction_implies (t ∷ ts) h.1 hu all)

  -- a disjunction of more formulas is weaker
  pub front_implies : (s : Term) (ts : List Term) → IsFormula s → AreFormulas ts → Derivable H (imp_of s (disjunction (s ∷ ts)))
  front_implies s [] hs h = imp_itself hs
  front_implies s (t ∷ ts) hs h = or_left hs (HasType-disjunction (t ∷ ts) h)

  pub rest_implies : (s : Term) (ts : List Term) → IsFormula s → AreFormulas ts → Derivable H (imp_of (disjunction ts) (disjunction (s ∷ ts)))
  rest_implies s [] hs h = false_imp hs
  rest_implies s (t ∷ ts) hs h = or_right hs (HasType-disjunction (t ∷ ts) h)

  -- all of them imply what is weaker than u
  pub AllImply-then : (ss : List Term) {u v : Term} → AreFormulas ss → IsFormula u → IsFormula v → AllImply H u ss → Derivable H (imp_of u v) → AllImply H v ss
  AllImply-then [] h hu hv none d = none
  AllImply-then (s ∷ ss) h hu hv (also e all) d = also (imp_then h.0 hu hv e d) (AllImply-then ss h.1 hu hv all d)

  pub imply_more : (ss : List Term) (s : Term) (ts : List Term) → AreFormulas ss → IsFormula s → AreFormulas ts → AllImply H (disjunction ts) ss → AllImply H (disjunction (s ∷ ts)) ss
  imply_more ss s ts h hs ht all = AllImply-then ss h (HasType-disjunction ts ht) (HasType-disjunction (s ∷ ts) (hs, ht)) all (rest_implies s ts hs ht)

  -- the members of a list imply its disjunction
  pub members_imply : (ss : List Term) → AreFormulas ss → AllImply H (disjunction ss) ss
  members_imply [] h = none
  members_imply (s ∷ ss) h = also (front_implies s ss h.0 h.1) (imply_more ss s ss h.1 h.0 h.1 (members_imply ss h.1))

  -- the members of one part imply the disjunction of the whole
  pub members_imply-right : (ss ts : List Term) → AreFormulas ss → AreFormulas ts → AllImply H (disjunction (ss ++ ts)) ts
  members_imply-right [] ts h k = members_imply ts k
  members_imply-right (s ∷ ss) ts h k = imply_more ts s (ss ++ ts) k h.0 (AreFormulas-append ss ts h.1 k) (members_imply-right ss ts h.1 k)

  pub members_imply-left : (ss ts : List Term) → AreFormulas ss → AreFormulas ts → AllImply H (disjunction (ss ++ ts)) ss
  members_imply-left [] ts h k = none
  members_imply-left (s ∷ ss) ts h k =
      let more = AreFormulas-append ss ts h.1 k in
      also (front_implies s (ss ++ ts) h.0 more) (imply_more ss s (ss ++ ts) h.1 h.0 more (members_imply-left ss ts h.1 k))

  pub AllImply-append : (ss ts : List Term) {u : Term} → AllImply H u ss → AllImply H u ts → AllImply H u (ss ++ ts)
  AllImply-append [] ts none b = b
  AllImply-append (s ∷ ss) ts (also d all) b = also d (AllImply-append ss ts all b)

  -- from a disjunction and what each member implies
  pub from_members : (ss : List Term) {u : Term} → AreFormulas ss → IsFormula u → AllImply H u ss → Derivable H (disjunction ss) → Derivable H u
  from_members ss h hu all d = modus_ponens (HasType-disjunction ss h) hu (disjunction_implies ss h hu all) d

  -- the disjunction of a part implies that of the whole
  pub left_implies : (ss ts : List Term) → AreFormulas ss → AreFormulas ts → Derivable H (imp_of (disjunction ss) (disjunction (ss ++ ts)))
  left_implies ss ts h k = disjunction_implies ss h (HasType-disjunction (ss ++ ts) (AreFormulas-append ss ts h k)) (members_imply-left ss ts h k)

  pub right_implies : (ss ts : List Term) → AreFormulas ss → AreFormulas ts → Derivable H (imp_of (disjunction ts) (disjunction (ss ++ ts)))
  right_implies ss ts h k = disjunction_implies ts k (HasType-disjunction (ss ++ ts) (AreFormulas-append ss ts h k)) (members_imply-right ss ts h k)

  pub part_implies : (front part back : List Term) → AreFormulas front → AreFormulas part → AreFormulas back →
      Derivable H (imp_of (disjunction part) (disjunction (front ++ (part ++ back))))
  part_implies front part back hf hp hb =
      let inner = AreFormulas-append part back hp hb in
      imp_then (HasType-disjunction part hp) (HasType-disjunction (part ++ back) inner) (HasType-disjunction (front ++ (part ++ back)) (AreFormulas-append front (part ++ back) hf inner))
      (left_implies part back hp hb) (right_implies front (part ++ back) hf inner)

  -- from a disjunction with s in it: the one with new members in the place of s, where s implies their disjunction
  pub taken_apart : (front back : List Term) {s : Term} (part : List Term) → AreFormulas front → IsFormula s → AreFormulas back → AreFormulas part →
      Derivable H (imp_of s (disjunction part)) → Derivable H (disjunction (front ++ s ∷ back)) → Derivable H (disjunction (front ++ (part ++ back)))
  taken_apart front back {s} part hf hs hb hp d e =
      let inner = AreFormulas-append part back hp hb in
      let whole = AreFormulas-append front (part ++ back) hf inner in
      let goal = HasType-disjunction (front ++ (part ++ back)) whole in
      let from_back = AllImply-then back hb (HasType-disjunction (part ++ back) inner) goal (members_imply-right part back hp hb) (right_implies front (part ++ back) hf inner) in
      from_members (front ++ s ∷ back) (AreFormulas-append front (s ∷ back) hf (hs, hb)) goal
      (AllImply-append front (s ∷ back) (members_imply-left front (part ++ back) hf inner)
      (also (imp_then hs (HasType-disjunction part hp) goal d (part_implies front part back hf hp hb)) from_back)) e

  -- all of them imply what u implies with one more premise
  pub AllImply-premise : (ss : List Term) {u v : Term} → AreFormulas ss → IsFormula u → IsFormula v → AllImply H u ss → AllImply H (imp_of v u) ss
  AllImply-premise ss {u} {v} h hu hv all =
      AllImply-then ss h hu (imp_formula hv hu) all (by_table 2 (u ∷ v ∷ []) (implies (atom 0) (implies (atom 1) (atom 0))) (hu, (hv, tt)) refl refl)
