-- A variable bound to a term, as far as that can be.
use Rattle.std.proofs.Common.{ℕ, ◌≡◌, ◌∙◌, Bool, true, List, [], ◌∷◌, ◌++◌, refl, sym, subst}
use Rattle.std.specs.Bool.{Decides}
use Rattle.fo_terms.specs.Terms.{Term, variable}
use Rattle.fo_text.specs.declared.problem.FoSym.{FoSym}
use Rattle.fo_super.specs.declared.matching.Binding.{Binding}
use Rattle.fo_super.specs.Subsumption.{KeepsSort}
use Rattle.fo_super.specs.Matching.{AreBindings, Fits, IsBoundTo, IsUnbound, Narrows}
use Rattle.fo_super.proofs.Bindings.{bindings-last, bound-obeyed, obeys-back, obeys-both}
use Rattle.fo_super.proofs.Narrowing.{decided}

module _ (vars news : List ℕ) (syms : List FoSym) (old : List Binding) (n : ℕ) (t : Term) (sound : AreBindings vars news syms old) where
  pub binds : KeepsSort vars news syms n t → IsUnbound n old → Narrows vars news syms old (old ++ (record { variable = n; term = t }) ∷ []) true (Fits vars news syms (variable n) t)
  binds k u = record {
    more = (record { variable = n; term = t }) ∷ [];
    extends = refl;
    sound = bindings-last vars news syms old (record { variable = n; term = t }) sound k u;
    gained = λ e s o. (let f = (obeys-back old ((record { variable = n; term = t }) ∷ []) s o).0 in (subst (KeepsSort vars news syms n) (sym f) k, f));
    kept = λ e s o q. obeys-both old ((record { variable = n; term = t }) ∷ []) s o (q.1, tt);
    refused = λ e. (let f : ⊥ = cc in absurd f);
  }

  pub bound-again : (u : Term) → IsBoundTo n u old → KeepsSort vars news syms n t → (r : Bool) → Decides r (u ≡ t) → Narrows vars news syms old old r (Fits vars news syms (variable n) t)
  bound-again u h k r d =
      decided vars news syms old r (u ≡ t) (Fits vars news syms (variable n) t) sound d
      (λ s o e. (let f = bound-obeyed n u old s h o ∙ e in (subst (KeepsSort vars news syms n) (sym f) k, f)))
      (λ s o q. sym (bound-obeyed n u old s h o) ∙ q.1)
