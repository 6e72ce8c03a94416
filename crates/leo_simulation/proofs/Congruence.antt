-- Equal parts give equal wholes, as an implication, where no lambda stands above the part.
use Rattle.std.proofs.Common.{◌≡◌, List, [], ◌∷◌, refl, subst}
use Rattle.leo_q0.specs.Terms.{SimpleType, Term, identity, apply, HasType, of_apply, IsFormula}
use Rattle.leo_q0.specs.Connectives.{equation}
use Rattle.leo_q0.specs.Derivations.{Derivable}
use Rattle.leo_q0.proofs.WellTyped.{HasType-equation, equal_type}
use Rattle.leo_sound.specs.Propositions.{atom, implies, equals}
use Rattle.leo_sound.proofs.Logic.{imp_of, modus_ponens, values_agree}
use Rattle.leo_sound.proofs.Quantifiers.{functions_agree}
use Rattle.leo_q0.proofs.Equations.{same}
use Rattle.leo_simulation.proofs.Tables.{by_table}
use Rattle.leo_simulation.proofs.Disjunctions.{imp_formula, imp_itself, imp_then}

-- the second term is the first with t in the place of one occurrence of s that stands under no lambda
pub data Swaps (s t : Term) : Term → Term → Type 0 where
  here : Swaps s t s t
  in_function : {f g : Term} (u : Term) → Swaps s t f g → Swaps s t (apply f u) (apply g u)
  in_argument : (f : Term) {u w : Term} → Swaps s t u w → Swaps s t (apply f u) (apply f w)

-- the type stays
pub HasType-Swaps : {s t c d : Term} {a b : SimpleType} → Swaps s t c d → HasType s a → HasType t a → HasType c b → HasType d b
HasType-Swaps {t = t} here hs ht hc = subst (HasType t) (equal_type hs hc) ht
HasType-Swaps (in_function u r) hs ht (of_apply f x) = of_apply (HasType-Swaps r hs ht f) x
HasType-Swaps (in_argument f r) hs ht (of_apply g x) = of_apply g (HasType-Swaps r hs ht x)

module _ {H : List Term} where
  same_sides : {s t : Term} {a b : SimpleType} → a ≡ b → HasType s a → HasType t a → Derivable H (imp_of (equation a s t) (equation b s t))
  same_sides {s} {t} {a} e hs ht = subst (λ (b : SimpleType). Derivable H (imp_of (equation a s t) (equation b s t))) e (imp_itself (HasType-equation hs ht))

  -- equal parts give equal wholes
  pub swaps_agree : {s t c d : Term} {a b : SimpleType} → Swaps s t c d → HasType s a → HasType t a → HasType c b →
      Derivable H (imp_of (equation a s t) (equation b c d))
  swaps_agree {s} {t} here hs ht hc = same_sides (equal_type hs hc) hs ht
  swaps_agree (in_function u r) hs ht (of_apply hf hu) =
      let hg = HasType-Swaps r hs ht hf in
      imp_then (HasType-equation hs ht) (HasType-equation hf hg) (HasType-equation (of_apply hf hu) (of_apply hg hu))
      (swaps_agree r hs ht hf) (functions_agree hf hg hu)
  swaps_agree (in_argument f r) hs ht (of_apply hf hu) =
      let hw = HasType-Swaps r hs ht hu in
      imp_then (HasType-equation hs ht) (HasType-equation hu hw) (HasType-equation (of_apply hf hu) (of_apply hf hw))
      (swaps_agree r hs ht hu) (values_agree hu hw hf)

  -- so a formula with an equal part follows
  pub swapped_follows : {s t c d : Term} {a : SimpleType} → Swaps s t c d → HasType s a → HasType t a → IsFormula c →
      Derivable H (imp_of (equation a s t) (imp_of c d))
  swapped_follows {s} {t} {c} {d} {a} r hs ht hc =
      let hd = HasType-Swaps r hs ht hc in
      imp_then (HasType-equation hs ht) (HasType-equation hc hd) (imp_formula hc hd) (swaps_agree r hs ht hc)
      (by_table 2 (c ∷ d ∷ []) (implies (equals (atom 0) (atom 1)) (implies (atom 0) (atom 1))) (hc, (hd, tt)) refl refl)

  -- equations can be turned
  pub turned_follows : {s t : Term} {a : SimpleType} → HasType s a → HasType t a → Derivable H (imp_of (equation a s t) (equation a t s))
  turned_follows {s} {t} {a} hs ht =
      let one : Derivable H (imp_of (equation a s t) (imp_of (equation a s s) (equation a t s))) =
      swapped_follows (in_function s (in_argument (identity a) here)) hs ht (HasType-equation hs hs) in
      drop_second (HasType-equation hs ht) (HasType-equation hs hs) (HasType-equation ht hs) one (same hs).derived
    where
      drop_second : {p q r : Term} → IsFormula p → IsFormula q → IsFormula r → Derivable H (imp_of p (imp_of q r)) → Derivable H q → Derivable H (imp_of p r)
      drop_second {p} {q} {r} hp hq hr d e =
          let whole : Derivable H (imp_of (imp_of p (imp_of q r)) (imp_of q (imp_of p r))) =
          by_table 3 (p ∷ q ∷ r ∷ []) (implies (implies (atom 0) (implies (atom 1) (atom 2))) (implies (atom 1) (implies (atom 0) (atom 2)))) (hp, (hq, (hr, tt))) refl refl in
          modus_ponens hq (imp_formula hp hr) (modus_ponens (imp_formula hp (imp_formula hq hr)) (imp_formula hq (imp_formula hp hr)) whole d) e

  -- equations join: s = t and s = u give t = u
  pub joined_follows : {s t u : Term} {a : SimpleType} → HasType s a → HasType t a → HasType u a →
      Derivable H (imp_of (equation a s t) (imp_of (equation a s u) (equation a t u)))
  joined_follows {s} {t} {u} {a} hs ht hu = swapped_follows (in_function u (in_argument (identity a) here)) hs ht (HasType-equation hs hu)
