-- When factoring and superposition are due.
use Rattle.std.proofs.Common.{ℕ, zero, suc, ◌≡◌, ◌∙◌, ◌+◌, ◌-◌, Bool, true, false, List, [], ◌∷◌, length, map, slice_get, Option, Some, None, sym, ap, subst}
use Rattle.std.specs.Prelude.{MatchOption}
use Rattle.std.specs.Bool.{Decides}
use Rattle.fo_terms.specs.Terms.{Term, Terms, variable}
use Rattle.fo_terms.specs.Substitutions.{Substitution, apply}
use Rattle.fo_text.specs.declared.problem.FoSym.{FoSym}
use Rattle.fo_text.specs.declared.problem.FoLit.{FoLit}
use Rattle.fo_text.specs.declared.problem.FoClause.{FoClause}
use Rattle.fo_text.specs.declared.answer.FoSide.{FoSide}
use Rattle.fo_text.specs.declared.answer.FoSide.TheVariants.{Left, Right}
use Rattle.fo_text.specs.declared.answer.FoStep.{FoStep}
use Rattle.fo_text.specs.declared.answer.FoStep.TheVariants.{Factor, Para}
use Rattle.fo_replay.specs.Replays.{near, far, applied_literal, images, moved, IsLiteralAt, IsPara, Replays}
use Rattle.fo_replay.specs.Instances.{as_terms}
use Rattle.fo_replay.proofs.Unique.{conclusions_same}
use Rattle.fo_kbo.proofs.Ordering.{stable}
use Rattle.fo_super.specs.declared.resolving.FoResolved.{FoResolved}
use Rattle.fo_super.specs.Laws.{AreSorted}
use Rattle.fo_super.specs.Conclusions.{IsMaximalUnder, IsNotBelow, IsSideUnder, IsResolved, IsFactoring, IsSuperposition, constraint_place, turn}
use Rattle.fo_super.specs.Working.{IsLeadingInto, IsLeadingUnder, IsWorked}
use Rattle.fo_super.proofs.Answering.{refuted}
use Rattle.fo_super.proofs.Resolutions.{resolved-once, some-same}
use Rattle.fo_super.proofs.Sorted.{factor-sorted, para-sorted}

-- a side that is below the other one stays so
open-before : (s : Substitution) (t u : Term) → IsNotBelow (apply s t) (apply s u) → IsNotBelow t u
open-before s t u h = (λ e. h.0 (ap (apply s) e), λ g. h.1 (stable s u t g))

pub side-open : (s : Substitution) (side : FoSide) (l : FoLit) → IsSideUnder s side l → IsNotBelow (near side l) (far side l)
side-open s side l h = open-before s (near side l) (far side l) h

-- the literal at a place of a moved clause
moved-at : (f : FoLit → FoLit) (ls : List FoLit) (j : ℕ) (l k : FoLit) → slice_get (map f ls) j ≡ Some k → slice_get ls j ≡ Some l → k ≡ f l
moved-at f [] j l k e g = absurd (let h : ⊥ = cc in h)
moved-at f (x ∷ ls) zero l k e g =
    let a : f x ≡ k = cc in
    let b : x ≡ l = cc in
    sym a ∙ ap f b
moved-at f (x ∷ ls) (suc j) l k e g = moved-at f ls j l k e g

pub moved-from : (f : FoLit → FoLit) (ls : List FoLit) (j : ℕ) (k : FoLit) → slice_get (map f ls) j ≡ Some k → (l : FoLit) × (slice_get ls j ≡ Some l)
moved-from f [] j k e = absurd (let h : ⊥ = cc in h)
moved-from f (x ∷ ls) zero k e = (x, (let h : Some x ≡ Some x = cc in h))
moved-from f (x ∷ ls) (suc j) k e = moved-from f ls j k e

side-open-applied : (s r : Substitution) (side : FoSide) (l : FoLit) → IsSideUnder s side (applied_literal r l) → IsNotBelow (near side l) (far side l)
side-open-applied s r Left l h = open-before r l.left l.right (open-before s (apply r l.left) (apply r l.right) h)
side-open-applied s r Right l h = open-before r l.right l.left (open-before s (apply r l.right) (apply r l.left) h)

-- leading literals
module _ (s : Substitution) (n : ℕ) (receiver : FoClause) (place : ℕ) (side : FoSide) where
  pub leading-into : (literal : FoLit) (r : Bool) → slice_get (moved n receiver) place ≡ Some literal → Decides r (IsLeadingUnder s (moved n receiver) side literal) → Decides r (IsLeadingInto s n receiver place side)
  leading-into literal r e d = (
    λ t. record { literal = literal; stands = e; leading = d.0 t },
    λ h. d.1 (subst (IsLeadingUnder s (moved n receiver) side) (some-same (slice_get (moved n receiver) place) h.literal literal h.stands e) h.leading),
  )

-- what is worked
module _ (sorts : ℕ) (syms : List FoSym) (clauses : List FoClause) (step : FoStep) (place : ℕ) where
  pub none-worked : ((c : FoClause) → Replays sorts syms clauses step c → ⊥) → (vars : List ℕ) (terms : Terms) (i d : FoClause) → IsWorked sorts syms clauses step place vars terms i d → ⊥
  none-worked f vars terms i d h = f h.made h.replays

  pub made-same : (made : FoClause) → Replays sorts syms clauses step made → {vars : List ℕ} {terms : Terms} {i d : FoClause} → IsWorked sorts syms clauses step place vars terms i d → IsResolved sorts syms (made ∷ []) 0 place vars terms i d
  made-same made r {vars} {terms} {i} {d} h = subst (λ (x : FoClause). IsResolved sorts syms (x ∷ []) 0 place vars terms i d) (conclusions_same sorts syms clauses step h.made made h.replays r) h.resolved

  pub worked-found : (made : FoClause) → Replays sorts syms clauses step made → (o : Option FoResolved) →
      MatchOption o ((vars : List ℕ) (terms : Terms) (i d : FoClause) → IsResolved sorts syms (made ∷ []) 0 place vars terms i d → ⊥) (λ r. IsResolved sorts syms (made ∷ []) 0 place r.instance.vars (as_terms r.terms) r.instance r.conclusion) →
      MatchOption o ((vars : List ℕ) (terms : Terms) (i d : FoClause) → IsWorked sorts syms clauses step place vars terms i d → ⊥) (λ r. IsWorked sorts syms clauses step place r.instance.vars (as_terms r.terms) r.instance r.conclusion)
  worked-found made r None h = λ vars terms i d w. h vars terms i d (made-same made r w)
  worked-found made r (Some x) h = record { made = made; replays = r; resolved = h }

  -- the terms are fixed
  pub worked-once : ((made : FoClause) → Replays sorts syms clauses step made → AreSorted syms (made ∷ []) 0) → {vars wars : List ℕ} {terms others : Terms} {i d j e : FoClause} → IsWorked sorts syms clauses step place vars terms i d → IsWorked sorts syms clauses step place wars others j e → others ≡ terms
  worked-once sorted {vars} {wars} {terms} {others} {i} {d} {j} {e} g h =
      resolved-once sorts syms (g.made ∷ []) 0 place wars vars others terms j e i d (sorted g.made g.replays) (made-same g.made g.replays h) g.resolved

-- factoring
module _ (sorts : ℕ) (syms : List FoSym) (clauses : List FoClause) (c i : ℕ) (side : FoSide) (j : ℕ) (other_side : FoSide) (clause : FoClause) (literal : FoLit) (at : IsLiteralAt clauses c i clause literal) where
  abbrev step : FoStep
  step = Factor c i j (turn side other_side)

  abbrev place : ℕ
  place = constraint_place side (length clause.lits)

  pub factor-step-sorted : AreSorted syms clauses c → (made : FoClause) → Replays sorts syms clauses step made → AreSorted syms (made ∷ []) 0
  factor-step-sorted sorted made r = factor-sorted syms clauses c i j (turn side other_side) made sorted r.gives

  module _ (vars : List ℕ) (terms : Terms) (instance conclusion : FoClause) where
    clause-is : (h : IsFactoring sorts syms clauses c i side j other_side vars terms instance conclusion) → h.clause ≡ clause
    clause-is h = some-same (slice_get clauses c) h.clause clause h.at.clause_at at.clause_at

    literal-is : (h : IsFactoring sorts syms clauses c i side j other_side vars terms instance conclusion) → h.literal ≡ literal
    literal-is h = some-same (slice_get clause.lits i) h.literal literal (ap (λ (y : FoClause). slice_get y.lits i) (sym (clause-is h)) ∙ h.at.literal_at) at.literal_at

    pub factor-positive : IsFactoring sorts syms clauses c i side j other_side vars terms instance conclusion → literal.pos ≡ true
    factor-positive h = ap (λ (x : FoLit). x.pos) (sym (literal-is h)) ∙ h.positive

    pub factor-worked : IsFactoring sorts syms clauses c i side j other_side vars terms instance conclusion → IsWorked sorts syms clauses (Factor c i j (turn side other_side)) (constraint_place side (length clause.lits)) vars terms instance conclusion
    factor-worked h = record {
      made = h.factored;
      replays = h.factor;
      resolved = subst (λ (x : FoClause). IsResolved sorts syms (h.factored ∷ []) 0 (constraint_place side (length x.lits)) vars terms instance conclusion) (clause-is h) h.resolved;
    }

    pub factor-leading : IsFactoring sorts syms clauses c i side j other_side vars terms instance conclusion → IsLeadingUnder (images terms) clause.lits side literal
    factor-leading h =
        let a : IsLeadingUnder (images terms) h.clause.lits side h.literal = (h.maximal, h.ordered) in
        let b = subst (λ (x : FoClause). IsLeadingUnder (images terms) x.lits side h.literal) (clause-is h) a in
        subst (IsLeadingUnder (images terms) clause.lits side) (literal-is h) b

    pub factor-due : literal.pos ≡ true → IsWorked sorts syms clauses (Factor c i j (turn side other_side)) (constraint_place side (length clause.lits)) vars terms instance conclusion → IsLeadingUnder (images terms) clause.lits side literal → IsFactoring sorts syms clauses c i side j other_side vars terms instance conclusion
    factor-due e w l = record { clause = clause; literal = literal; factored = w.made; at = at; positive = e; factor = w.replays; resolved = w.resolved; maximal = l.0; ordered = l.1 }

  pub factor-not-open : (r : Bool) → Decides r (IsNotBelow (near side literal) (far side literal)) → r ≡ false → (vars : List ℕ) (terms : Terms) (instance conclusion : FoClause) → IsFactoring sorts syms clauses c i side j other_side vars terms instance conclusion → ⊥
  factor-not-open r d e vars terms instance conclusion h = refuted r d e (side-open (images terms) side literal (factor-leading vars terms instance conclusion h).1)

  pub factor-lesser : AreSorted syms clauses c → (vars : List ℕ) (terms : Terms) (instance conclusion : FoClause) → IsWorked sorts syms clauses (Factor c i j (turn side other_side)) (constraint_place side (length clause.lits)) vars terms instance conclusion →
      (r : Bool) → Decides r (IsLeadingUnder (images terms) clause.lits side literal) → r ≡ false → (wars : List ℕ) (others : Terms) (k e : FoClause) → IsFactoring sorts syms clauses c i side j other_side wars others k e → ⊥
  factor-lesser sorted vars terms instance conclusion w r d f wars others k e h =
      let t : others ≡ terms = worked-once sorts syms clauses step place (factor-step-sorted sorted) w (factor-worked wars others k e h) in
      refuted r d f (subst (λ x. IsLeadingUnder (images x) clause.lits side literal) t (factor-leading wars others k e h))

-- superposition
module _ (sorts : ℕ) (syms : List FoSym) (clauses : List FoClause) (c i : ℕ) (side : FoSide) (d j : ℕ) (place_side : FoSide) (path : List ℕ) (giver receiver : FoClause) (equation target : FoLit) (at : IsLiteralAt clauses c i giver equation) (there : IsLiteralAt clauses d j receiver target) where
  pub para-step-sorted : AreSorted syms clauses c → AreSorted syms clauses d → (made : FoClause) → Replays sorts syms clauses (Para c i side d j place_side path) made → AreSorted syms (made ∷ []) 0
  para-step-sorted giving receiving made r = para-sorted syms clauses c i side d j place_side path made giving receiving r.gives

  abbrev Both : Terms → Type 0
  Both terms = IsLeadingUnder (images terms) giver.lits side equation × IsLeadingInto (images terms) (length giver.vars) receiver j place_side

  module _ (vars : List ℕ) (terms : Terms) (instance conclusion : FoClause) (h : IsSuperposition sorts syms clauses c i side d j place_side path vars terms instance conclusion) where
    giver-is : h.giver ≡ giver
    giver-is = some-same (slice_get clauses c) h.giver giver h.equation_at.clause_at at.clause_at

    equation-is : h.equation ≡ equation
    equation-is = some-same (slice_get giver.lits i) h.equation equation (ap (λ (y : FoClause). slice_get y.lits i) (sym giver-is) ∙ h.equation_at.literal_at) at.literal_at

    receiver-is : h.receiver ≡ receiver
    receiver-is = some-same (slice_get clauses d) h.receiver receiver h.receiver_at there.clause_at

    pub super-positive : equation.pos ≡ true
    super-positive =
        let p : IsPara syms clauses c i side d j place_side path h.replaced = h.para.gives in
        let same : p.giver ≡ giver = some-same (slice_get clauses c) p.giver giver p.equation_at.clause_at at.clause_at in
        let one : p.equation ≡ equation = some-same (slice_get giver.lits i) p.equation equation (ap (λ (y : FoClause). slice_get y.lits i) (sym same) ∙ p.equation_at.literal_at) at.literal_at in
        ap (λ (x : FoLit). x.pos) (sym one) ∙ p.positive

    pub super-worked : IsWorked sorts syms clauses (Para c i side d j place_side path) (length giver.lits - 1 + length receiver.lits) vars terms instance conclusion
    super-worked = record {
      made = h.replaced;
      replays = h.para;
      resolved = subst (λ (x : FoClause). IsResolved sorts syms (h.replaced ∷ []) 0 (length giver.lits - 1 + length x.lits) vars terms instance conclusion) receiver-is
          (subst (λ (x : FoClause). IsResolved sorts syms (h.replaced ∷ []) 0 (length x.lits - 1 + length h.receiver.lits) vars terms instance conclusion) giver-is h.resolved);
    }

    pub super-leading : IsLeadingUnder (images terms) giver.lits side equation
    super-leading =
        let a : IsLeadingUnder (images terms) h.giver.lits side h.equation = (h.maximal, h.ordered) in
        let b = subst (λ (x : FoClause). IsLeadingUnder (images terms) x.lits side h.equation) giver-is a in
        subst (IsLeadingUnder (images terms) giver.lits side) equation-is b

    pub super-into : IsLeadingInto (images terms) (length giver.vars) receiver j place_side
    super-into =
        let a : IsLeadingInto (images terms) (length h.giver.vars) h.receiver j place_side = record { literal = h.literal; stands = h.literal_at; leading = (h.maximal_into, h.ordered_into) } in
        let b = subst (λ (x : FoClause). IsLeadingInto (images terms) (length x.vars) h.receiver j place_side) giver-is a in
        subst (λ (x : FoClause). IsLeadingInto (images terms) (length giver.vars) x j place_side) receiver-is b

    -- this side of the target is not below the other one
    pub target-open : IsNotBelow (near place_side target) (far place_side target)
    target-open =
        let l = super-into.literal in
        let same = moved-at (applied_literal (λ v. variable (length giver.vars + v))) receiver.lits j target super-into.literal super-into.stands there.literal_at in
        side-open-applied (images terms) (λ v. variable (length giver.vars + v)) place_side target (subst (IsSideUnder (images terms) place_side) same super-into.leading.1)

  pub super-nowhere : (r : Bool) (vars : List ℕ) (terms : Terms) (instance conclusion : FoClause) → Decides r (IsNotBelow (near side equation) (far side equation)) → r ≡ false → IsSuperposition sorts syms clauses c i side d j place_side path vars terms instance conclusion → ⊥
  super-nowhere r vars terms instance conclusion x e h = refuted r x e (side-open (images terms) side equation (super-leading vars terms instance conclusion h).1)

  pub super-not-into : (r : Bool) (vars : List ℕ) (terms : Terms) (instance conclusion : FoClause) → Decides r (IsNotBelow (near place_side target) (far place_side target)) → r ≡ false → IsSuperposition sorts syms clauses c i side d j place_side path vars terms instance conclusion → ⊥
  super-not-into r vars terms instance conclusion x e h = refuted r x e (target-open vars terms instance conclusion h)

  pub super-lesser : AreSorted syms clauses c → AreSorted syms clauses d → (vars : List ℕ) (terms : Terms) (instance conclusion : FoClause) → IsWorked sorts syms clauses (Para c i side d j place_side path) (length giver.lits - 1 + length receiver.lits) vars terms instance conclusion →
      (r : Bool) → Decides r (Both terms) → r ≡ false → (wars : List ℕ) (others : Terms) (k e : FoClause) → IsSuperposition sorts syms clauses c i side d j place_side path wars others k e → ⊥
  super-lesser giving receiving vars terms instance conclusion w r x f wars others k e h =
      let t : others ≡ terms = worked-once sorts syms clauses (Para c i side d j place_side path) (length giver.lits - 1 + length receiver.lits) (para-step-sorted giving receiving) w (super-worked wars others k e h) in
      refuted r x f (subst Both t (super-leading wars others k e h, super-into wars others k e h))

  pub super-due : (vars : List ℕ) (terms : Terms) (instance conclusion : FoClause) → IsWorked sorts syms clauses (Para c i side d j place_side path) (length giver.lits - 1 + length receiver.lits) vars terms instance conclusion → Both terms → IsSuperposition sorts syms clauses c i side d j place_side path vars terms instance conclusion
  super-due vars terms instance conclusion w b = record {
    giver = giver;
    receiver = receiver;
    equation = equation;
    literal = b.1.literal;
    replaced = w.made;
    equation_at = at;
    receiver_at = there.clause_at;
    literal_at = b.1.stands;
    para = w.replays;
    resolved = w.resolved;
    maximal = b.0.0;
    maximal_into = b.1.leading.0;
    ordered = b.0.1;
    ordered_into = b.1.leading.1;
  }

-- there is no literal of the receiver
pub super-no-target : (sorts : ℕ) (syms : List FoSym) (clauses : List FoClause) (c i : ℕ) (side : FoSide) (d j : ℕ) (place_side : FoSide) (path : List ℕ) → ((x : FoClause) (l : FoLit) → IsLiteralAt clauses d j x l → ⊥) →
    (vars : List ℕ) (terms : Terms) (instance conclusion : FoClause) → IsSuperposition sorts syms clauses c i side d j place_side path vars terms instance conclusion → ⊥
super-no-target sorts syms clauses c i side d j place_side path f vars terms instance conclusion h =
    let l = moved-from (applied_literal (λ v. variable (length h.giver.vars + v))) h.receiver.lits j h.literal h.literal_at in
    f h.receiver l.0 (record { clause_at = h.receiver_at; literal_at = l.1 })
