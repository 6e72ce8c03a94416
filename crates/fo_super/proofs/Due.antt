-- When equality resolution is due.
use Rattle.std.proofs.Common.{ℕ, ◌≡◌, ◌∙◌, Bool, false, List, slice_get, sym, ap, subst}
use Rattle.std.specs.Bool.{Decides}
use Rattle.fo_terms.specs.Terms.{Terms}
use Rattle.fo_text.specs.declared.problem.FoSym.{FoSym}
use Rattle.fo_text.specs.declared.problem.FoLit.{FoLit}
use Rattle.fo_text.specs.declared.problem.FoClause.{FoClause}
use Rattle.fo_replay.specs.Replays.{images, IsLiteralAt}
use Rattle.fo_super.specs.Laws.{AreSorted}
use Rattle.fo_super.specs.Conclusions.{IsMaximalUnder, IsResolved, IsResolution}
use Rattle.fo_super.proofs.Answering.{refuted}
use Rattle.fo_super.proofs.Resolutions.{resolved-once, some-same}

module _ (sorts : ℕ) (syms : List FoSym) (clauses : List FoClause) (c k : ℕ) (clause : FoClause) (literal : FoLit) (at : IsLiteralAt clauses c k clause literal) where
  literal-is : (x : FoClause) (l : FoLit) → IsLiteralAt clauses c k x l → (x ≡ clause) × (l ≡ literal)
  literal-is x l h =
      let same : x ≡ clause = some-same (slice_get clauses c) x clause h.clause_at at.clause_at in
      (same, some-same (slice_get clause.lits k) l literal (ap (λ (y : FoClause). slice_get y.lits k) (sym same) ∙ h.literal_at) at.literal_at)

  -- a literal that is not maximal
  pub lesser-refused : AreSorted syms clauses c → (vars : List ℕ) (terms : Terms) (i d : FoClause) → IsResolved sorts syms clauses c k vars terms i d → (r : Bool) → Decides r (IsMaximalUnder (images terms) clause.lits literal) → r ≡ false →
      (wars : List ℕ) (others : Terms) (j e : FoClause) → IsResolution sorts syms clauses c k wars others j e → ⊥
  lesser-refused sorted vars terms i d found r m f wars others j e h =
      let t : others ≡ terms = resolved-once sorts syms clauses c k wars vars others terms j e i d sorted h.resolved found in
      let n = literal-is h.clause h.literal h.at in
      let a : IsMaximalUnder (images terms) h.clause.lits h.literal = subst (λ x. IsMaximalUnder (images x) h.clause.lits h.literal) t h.maximal in
      let b : IsMaximalUnder (images terms) clause.lits h.literal = subst (λ (x : FoClause). IsMaximalUnder (images terms) x.lits h.literal) n.0 a in
      refuted r m f (subst (λ (x : FoLit). IsMaximalUnder (images terms) clause.lits x) n.1 b)

  -- and one that is
  pub is-due : (vars : List ℕ) (terms : Terms) (i d : FoClause) → literal.pos ≡ false → IsResolved sorts syms clauses c k vars terms i d → IsMaximalUnder (images terms) clause.lits literal → IsResolution sorts syms clauses c k vars terms i d
  is-due vars terms i d e found m = record { clause = clause; literal = literal; at = at; negative = e; resolved = found; maximal = m }
