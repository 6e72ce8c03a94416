-- The laws, as the public functions state them.
use Rattle.std.proofs.Common.{◌≡◌, List, [], ◌∷◌, ◌++◌, refl, sym, ap, ◌∙◌, subst, arith}
use Rattle.std.specs.List.{Contains}
use Rattle.std.proofs.lemmas.List.Elements.{Contains-append_right}
use Rattle.leo_q0.specs.Terms.{SimpleType, truth, Variable, Term, HasType, of_apply, IsFormula}
use Rattle.leo_q0.specs.Substitution.{replace}
use Rattle.leo_q0.specs.Connectives.{apply_two, true_term, false_term}
use Rattle.leo_q0.specs.Derivations.{Derives}
use Rattle.leo_q0.proofs.WellTyped.{equal_type}
use Rattle.leo_q0.proofs.Formulas.{binary, HasType-imp, HasType-or, derived_formula}
use Rattle.leo_q0.proofs.Lists.{derivable, derivation}
use Rattle.leo_q0.proofs.Alpha.{numbered}
use Rattle.leo_q0.proofs.LawProofs.{equal, derives}
use Rattle.leo_sound.specs.Propositions.{disjunction}
use Rattle.leo_sound.specs.Laws
use Rattle.leo_sound.proofs.Truth.{truth_holds, equals_true, from_true}
use Rattle.leo_sound.proofs.Logic.{substituted, cases, modus_ponens, values_agree}
use Rattle.leo_sound.proofs.Quantifiers.{functions_agree, differ_somewhere, all_imp, not_some_imp, some_imp, not_all_imp}
use Rattle.leo_sound.proofs.Tautologies.{AreFormulas, tautology, weaker_literal}

pub true_holds : Laws.TruthHolds
true_holds h ok = derivation truth_holds

pub equals_truth : Laws.DerivableEqualsTrue
equals_truth h ok s d = derives (equals_true (derived_formula ok (derivable d)) (derivable d))

pub truth_equals : Laws.EqualsTrueIsDerivable
truth_equals h ok s d = derivation (from_true (equal ok d))

-- the two arguments of a connective are formulas
argument_formulas : {c s t : Term} {b : SimpleType} → HasType c binary → HasType (apply_two c s t) b → IsFormula s × IsFormula t
argument_formulas {c} {s} {t} hc (of_apply {a = d} (of_apply {a = a} h hs) ht) =
    let e = equal_type h hc in
    let first : a ≡ truth = cc in
    let second : d ≡ truth = cc in
    (subst (HasType s) first hs, subst (HasType t) second ht)

pub instances : Laws.InstancesFollow
instances h ok x s t ht f d = derivation (substituted x t (derived_formula ok (derivable d)) ht f (derivable d))

by_cases : (h : List Term) (x : Variable) (c : SimpleType) → x.type ≡ c → c ≡ truth → (s : Term) → IsFormula s →
    Derives h (replace x true_term s) → Derives h (replace x false_term s) → Derives h s
by_cases h x c k e s hs d1 d2 =
    let same_variables : numbered x.number truth ≡ x = ap (numbered x.number) (sym (k ∙ e)) in
    derivation (cases x.number hs
    (derivable (subst (λ (w : Variable). Derives h (replace w true_term s)) (sym same_variables) d1))
    (derivable (subst (λ (w : Variable). Derives h (replace w false_term s)) (sym same_variables) d2)))

pub cases_suffice : Laws.CasesSuffice
cases_suffice h ok x s e hs d1 d2 = by_cases h x x.type refl e s hs d1 d2

are_formulas : (ss : List Term) → ((s : Term) → Contains ss s → IsFormula s) → AreFormulas ss
are_formulas [] f = tt
are_formulas (s ∷ ss) f = (f s (0, omega arith, refl), are_formulas ss (λ t c. f t (Contains-append_right (s ∷ []) ss t c)))

pub tautologies : Laws.TautologiesHold
tautologies h ok atoms p f all = derivation (tautology atoms p (are_formulas atoms f) all)

pub ponens : Laws.ModusPonens
ponens h ok s t d e =
    let parts = argument_formulas HasType-imp (derived_formula ok (derivable e)) in
    derivation (modus_ponens parts.0 parts.1 (derivable e) (derivable d))

disjunction_formulas : (ss : List Term) → IsFormula (disjunction ss) → AreFormulas ss
disjunction_formulas [] h = tt
disjunction_formulas (s ∷ []) h = (h, tt)
disjunction_formulas (s ∷ t ∷ ts) h = let p = argument_formulas HasType-or h in (p.0, disjunction_formulas (t ∷ ts) p.1)

split_formulas : (front back : List Term) (s : Term) → AreFormulas (front ++ s ∷ back) → AreFormulas front × AreFormulas back
split_formulas [] back s h = (tt, h.1)
split_formulas (t ∷ ts) back s h = let p = split_formulas ts back s h.1 in ((h.0, p.0), p.1)

pub weaker : Laws.WeakerLiteral
weaker h ok front back s t d e =
    let all = split_formulas front back s (disjunction_formulas (front ++ s ∷ back) (derived_formula ok (derivable d))) in
    let parts = argument_formulas HasType-imp (derived_formula ok (derivable e)) in
    derivation (weaker_literal front back all.0 all.1 parts.0 parts.1 (derivable e) (derivable d))

pub arguments : Laws.EqualArguments
arguments h ok a b s t c hs ht hc = derivation (values_agree hs ht hc)

pub equal_functions : Laws.EqualFunctions
equal_functions h ok a b f g s hf hg hs = derivation (functions_agree hf hg hs)

pub different_functions : Laws.DifferentFunctions
different_functions h ok x b f g hf hg x_f x_g = derivation (differ_somewhere b x hf hg x_f x_g)

pub all_gives : Laws.AllGives
all_gives h ok a p s hp hs = derivation (all_imp hp hs)

pub not_some_gives : Laws.NotSomeGives
not_some_gives h ok a p s hp hs = derivation (not_some_imp hp hs)

pub some_gives : Laws.SomeGives
some_gives h ok a p hp = derivation (some_imp hp)

pub not_all_gives : Laws.NotAllGives
not_all_gives h ok x p hp x_p = derivation (not_all_imp x hp x_p)
