-- What is found where a clause is resolved.
use Rattle.std.proofs.Common.{ℕ, ◌≡◌, ◌∙◌, ◌++◌, List, length, map, slice_get, Option, Some, None, sym, ap, subst}
use Rattle.std.specs.Prelude.{MatchOption, remove}
use Rattle.fo_terms.specs.Terms.{Terms}
use Rattle.fo_terms.specs.Substitutions.{Substitution, apply, IsMostGeneralUnifier, IsUnifier}
use Rattle.fo_text.specs.declared.problem.FoSym.{FoSym}
use Rattle.fo_text.specs.declared.problem.FoLit.{FoLit}
use Rattle.fo_text.specs.declared.problem.FoClause.{FoClause}
use Rattle.fo_text.specs.Problems.{IsLiteral}
use Rattle.fo_replay.specs.Replays.{applied_literal, images, IsLiteralAt}
use Rattle.fo_replay.specs.Instances.{as_terms}
use Rattle.fo_super.specs.declared.resolving.FoResolved.{FoResolved}
use Rattle.fo_super.specs.Laws.{AreSorted}
use Rattle.fo_super.specs.Numbering.{clause_variables, variables_of_all, renaming, IsNumbered}
use Rattle.fo_super.specs.Conclusions.{images_from, IsResolved, IsInstanced, HasHeavyInstance}
use Rattle.fo_super.proofs.Naming.{renamed-general}
use Rattle.fo_super.proofs.Resolutions.{numbered-once, numbered-lits, remove-map, remove-all, instance_lits, some-same}

module _ (sorts : ℕ) (syms : List FoSym) (clauses : List FoClause) (c k : ℕ) (clause : FoClause) (literal : FoLit) (at : IsLiteralAt clauses c k clause literal) where
  -- nothing is resolved where the sides have no unifier
  pub not-unified : ((r : Substitution) → IsUnifier r literal.left literal.right → ⊥) → (vars : List ℕ) (terms : Terms) (i d : FoClause) → IsResolved sorts syms clauses c k vars terms i d → ⊥
  not-unified f vars terms i d h =
      let same : h.clause ≡ clause = some-same (slice_get clauses c) h.clause clause h.at.clause_at at.clause_at in
      let lit : h.literal ≡ literal = some-same (slice_get clause.lits k) h.literal literal (ap (λ (x : FoClause). slice_get x.lits k) (sym same) ∙ h.at.literal_at) at.literal_at in
      f h.unifier (subst (λ (x : FoLit). IsUnifier h.unifier x.left x.right) lit h.general.unifies)

  module _ (s : Substitution) (ns : List ℕ) (terms : Terms) (general : IsMostGeneralUnifier s literal.left literal.right) (terms_are : terms ≡ images_from (λ v. apply (renaming ns) (s v)) 0 (length clause.vars))
      (numbered : IsNumbered 0 (clause_variables (remove (map (applied_literal (images terms)) clause.lits) k) ++ variables_of_all terms) (length ns)) where
    lits-are : (i : FoClause) → i.lits ≡ map (applied_literal (images terms)) clause.lits → i ≡ (record { vars = i.vars; lits = map (applied_literal (images terms)) clause.lits })
    lits-are i e = ap (λ (x : List FoLit). let y : FoClause = record { vars = i.vars; lits = x } in y) e

    -- an instance by the numbered terms
    pub is-resolved : (i d : FoClause) → IsInstanced sorts syms clause k (length ns) terms i d → IsResolved sorts syms clauses c k i.vars terms i d
    is-resolved i d h = record {
      clause = clause;
      literal = literal;
      unifier = λ v. apply (renaming ns) (s v);
      at = at;
      general = renamed-general ns s literal.left literal.right general;
      terms_are = terms_are;
      sorts_exist = h.sorts_exist;
      typed = h.typed;
      instance_is = lits-are i h.instance_lits;
      conclusion_is = parts d.vars i.vars d.lits (remove (map (applied_literal (images terms)) clause.lits) k) h.conclusion_vars h.conclusion_lits;
      numbered = subst (λ (x : List FoLit). IsNumbered 0 (clause_variables x ++ variables_of_all terms) (length i.vars)) (sym h.conclusion_lits)
          (subst (λ n. IsNumbered 0 (clause_variables (remove (map (applied_literal (images terms)) clause.lits) k) ++ variables_of_all terms) n) (sym h.counted) numbered);
      light = h.light;
    }
      where
        parts : (vs ws : List ℕ) (ls ks : List FoLit) → vs ≡ ws → ls ≡ ks → (let y : FoClause = record { vars = vs; lits = ls } in y) ≡ (record { vars = ws; lits = ks })
        parts vs ws ls ks e f = ap (λ (x : List ℕ). let y : FoClause = record { vars = x; lits = ls } in y) e ∙ ap (λ (x : List FoLit). let y : FoClause = record { vars = ws; lits = x } in y) f

    -- no instance is light where that by the numbered terms is not
    pub not-light : AreSorted syms clauses c → HasHeavyInstance clause terms → (vars : List ℕ) (others : Terms) (i d : FoClause) → IsResolved sorts syms clauses c k vars others i d → ⊥
    not-light sorted heavy vars others i d h =
        let same : h.clause ≡ clause = some-same (slice_get clauses c) h.clause clause h.at.clause_at at.clause_at in
        let lit : h.literal ≡ literal = some-same (slice_get clause.lits k) h.literal literal (ap (λ (x : FoClause). slice_get x.lits k) (sym same) ∙ h.at.literal_at) at.literal_at in
        let gen : IsMostGeneralUnifier h.unifier literal.left literal.right = subst (λ (x : FoLit). IsMostGeneralUnifier h.unifier x.left x.right) lit h.general in
        let mine : IsMostGeneralUnifier (λ v. apply (renaming ns) (s v)) literal.left literal.right = renamed-general ns s literal.left literal.right general in
        let there = mine.general h.unifier gen.unifies in
        let back = gen.general (λ v. apply (renaming ns) (s v)) mine.unifies in
        let a0 : IsNumbered 0 (clause_variables (instance_lits terms (remove clause.lits k)) ++ variables_of_all terms) (length ns)
        = subst (λ (x : List FoLit). IsNumbered 0 (clause_variables x ++ variables_of_all terms) (length ns)) (remove-map (applied_literal (images terms)) clause.lits k) numbered in
        let a = subst (λ x. IsNumbered 0 (clause_variables (instance_lits x (remove clause.lits k)) ++ variables_of_all x) (length ns)) terms_are a0 in
        let b : IsNumbered 0 (clause_variables (instance_lits (images_from h.unifier 0 (length clause.vars)) (remove clause.lits k)) ++ variables_of_all (images_from h.unifier 0 (length clause.vars))) (length vars)
        = subst (λ (x : FoClause). IsNumbered 0 (clause_variables (instance_lits (images_from h.unifier 0 (length x.vars)) (remove x.lits k)) ++ variables_of_all (images_from h.unifier 0 (length x.vars))) (length vars)) same (numbered-lits sorts syms clauses c k h) in
        let t = numbered-once clause.vars syms (λ v. apply (renaming ns) (s v)) h.unifier there.0 back.0 there.1 back.1 (remove clause.lits k) (length ns) (length vars) (remove-all (IsLiteral clause.vars syms) clause.lits k (sorted clause at.clause_at)) a b in
        let u : others ≡ terms = h.terms_are ∙ ap (λ (x : FoClause). images_from h.unifier 0 (length x.vars)) same ∙ t ∙ sym terms_are in
        heavy i (ap (λ (x : FoClause). x.lits) h.instance_is ∙ ap (λ (x : FoClause). map (applied_literal (images others)) x.lits) same ∙ ap (λ x. map (applied_literal (images x)) clause.lits) u) h.light

    pub found-resolved : AreSorted syms clauses c → (o : Option FoResolved) → MatchOption o (HasHeavyInstance clause terms) (λ r. (as_terms r.terms ≡ terms) × IsInstanced sorts syms clause k (length ns) terms r.instance r.conclusion) →
        MatchOption o ((vars : List ℕ) (ts : Terms) (i d : FoClause) → IsResolved sorts syms clauses c k vars ts i d → ⊥) (λ r. IsResolved sorts syms clauses c k r.instance.vars (as_terms r.terms) r.instance r.conclusion)
    found-resolved sorted None h = not-light sorted h
    found-resolved sorted (Some r) h = subst (λ x. IsResolved sorts syms clauses c k r.instance.vars x r.instance r.conclusion) (sym h.0) (is-resolved r.instance r.conclusion h.1)
