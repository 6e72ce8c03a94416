-- The laws, as the public functions state them.
use Rattle.std.proofs.Common.{◌≡◌, List, true, false, refl, sym, ap, ◌∙◌, subst}
use Rattle.leo_q0.specs.Terms.{SimpleType, arrow, Variable, Term, variable, lambda, HasType}
use Rattle.leo_q0.specs.Substitution.{is_free, is_free_for, replace}
use Rattle.leo_q0.specs.Connectives.{equation}
use Rattle.leo_q0.specs.Derivations.{Derives, AreHypotheses}
use Rattle.leo_q0.specs.Laws
use Rattle.leo_q0.proofs.WellTyped.{equation_parts}
use Rattle.leo_q0.proofs.Formulas.{derived_formula}
use Rattle.leo_q0.proofs.Lists.{derivable, derivation}
use Rattle.leo_q0.proofs.Equations.{Equal, same, back, then, applied, under}
use Rattle.leo_q0.proofs.Renaming.{renumbered, eta, renamed}
use Rattle.leo_q0.proofs.Alpha.{alpha, beta_renamed, copy_of, same_copy, free_for_copy, HasType-copy, numbered}

-- a derivable equation, with the type of both sides
pub equal : {H : List Term} → AreHypotheses H → {a : SimpleType} {s t : Term} → Derives H (equation a s t) → Equal H a s t
equal ok d =
    let parts = equation_parts (derived_formula ok (derivable d)) in
    record { left = parts.left; right = parts.right; derived = derivable d }

pub derives : {H : List Term} {a : SimpleType} {s t : Term} → Equal H a s t → Derives H (equation a s t)
derives e = derivation e.derived

pub reflexive : Laws.EqualityIsReflexive
reflexive h ok a s t = derives (same t)

pub symmetric : Laws.EqualityIsSymmetric
symmetric h ok a s t d = derives (back (equal ok d))

pub transitive : Laws.EqualityIsTransitive
transitive h ok a s t u d e = derives (then (equal ok d) (equal ok e))

pub applies : Laws.EqualsApply
applies h ok a b f g s t d e = derives (applied (equal ok d) (equal ok e))

pub bodies : Laws.EqualBodies
bodies h ok x b s t d = derives (under x (equal ok d))

-- the two variables have one type
renamed_to : (h : List Term) (x y : Variable) (c : SimpleType) → c ≡ y.type → x.type ≡ c → (b : SimpleType) (s : Term) → HasType s b →
    is_free y (lambda x s) ≡ false → is_free_for (variable y) x s ≡ true → Derives h (equation (arrow x.type b) (lambda x s) (lambda y (replace x (variable y) s)))
renamed_to h x y c e k b s typed fresh free =
    let z = renumbered y.number x in
    let same_variables : z ≡ y = ap (λ (a : SimpleType). numbered y.number a) (k ∙ e) in
    subst (λ (w : Variable). Derives h (equation (arrow x.type b) (lambda x s) (lambda w (replace x (variable w) s)))) same_variables
    (derives (renamed y.number x typed
    (subst (λ (w : Variable). is_free w (lambda x s) ≡ false) (sym same_variables) fresh)
    (subst (λ (w : Variable). is_free_for (variable w) x s ≡ true) (sym same_variables) free)))

pub renames : Laws.LambdaRenames
renames h ok x y b s same_types typed fresh free = renamed_to h x y y.type refl same_types b s typed fresh free

pub names : Laws.NamesDoNotMatter
names h ok a s t hs ht e = derives (alpha e hs ht)

pub beta_steps : Laws.BetaSteps
beta_steps h ok x b s renamed t hs hr ht e f = derives (beta_renamed e hs hr ht f)

pub copies : Laws.CopiesExist
copies x b s t h = (copy_of s t, HasType-copy t h, same_copy s t, free_for_copy s t x)

pub eta_holds : Laws.EtaHolds
eta_holds h ok x b s hs n = derives (back (eta x hs n))

pub formulas : Laws.DerivableIsFormula
formulas h ok s d = derived_formula ok (derivable d)
