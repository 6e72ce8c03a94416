-- A member has one conclusion.
use Rattle.std.proofs.Common.{ℕ, zero, suc, ◌≡◌, ◌∙◌, ◌<◌, ◌-◌, ◌+◌, List, [], ◌∷◌, ◌++◌, length, map, slice_get, Some, refl, sym, ap, subst, arith, inl, inr}
use Rattle.std.specs.Prelude.{remove}
use Rattle.std.specs.List.{AllByRecursion}
use Rattle.std.proofs.lemmas.Bool.{cases_eq}
use Rattle.fo_terms.specs.Terms.{Term, Terms, variable, symbol, none, more}
use Rattle.fo_terms.specs.Substitutions.{apply, apply_to_all}
use Rattle.fo_text.specs.declared.problem.FoSym.{FoSym}
use Rattle.fo_text.specs.declared.problem.FoLit.{FoLit}
use Rattle.fo_text.specs.declared.problem.FoClause.{FoClause}
use Rattle.fo_text.specs.declared.answer.FoStep.{FoStep}
use Rattle.fo_text.specs.declared.answer.FoStep.TheVariants.{Factor, Para}
use Rattle.fo_text.specs.Problems.{HasSort, HaveSorts, IsLiteral}
use Rattle.fo_replay.specs.Replays.{applied_literal, images, term_or, Replays}
use Rattle.fo_super.specs.Laws.{AreSorted}
use Rattle.fo_super.specs.Members.{Member, resolve, factor, superpose}
use Rattle.fo_super.specs.Numbering.{variables, variables_of_all, literal_variables, clause_variables, IsNumbered}
use Rattle.fo_super.specs.Conclusions.{IsDue, IsResolved, constraint_place, turn}
use Rattle.fo_super.specs.Replaying.{HaveOneConclusion}
use Rattle.fo_super.specs.Viewing.{NamesSorted}
use Rattle.fo_super.specs.Working.{IsWorked}
use Rattle.fo_super.proofs.Renaming.{numbered-count}
use Rattle.fo_super.proofs.Resolutions.{instance_lits, remove-all, remove-map, resolved-once, some-same}
use Rattle.fo_super.proofs.Sorting.{all-both}
use Rattle.fo_super.proofs.Worked.{factor-step-sorted, factor-worked, made-same, moved-from, para-step-sorted, super-worked}

-- each number that is met has the property
numbered-all : (P : ℕ → Type 0) (next n : ℕ) (ws : List ℕ) → IsNumbered next ws n → ((v : ℕ) → v < next → P v) → AllByRecursion P ws → (v : ℕ) → v < n → P v
numbered-all P next n [] a below h v l = below v (omega arith)
numbered-all P next n (w ∷ ws) (inl a) below h v l = numbered-all P next n ws a.1 below h.1 v l
numbered-all P next n (w ∷ ws) (inr a) below h v l = numbered-all P (suc next) n ws a.1 met h.1 v l
  where
    met : (u : ℕ) → u < suc next → P u
    met u k =
        elim (cases_eq u next) [
          | inl e ↦ subst P (a.0 ∙ sym e) h.0
          | inr e ↦ below u (omega arith)
        ]

lists-same : (xs ys : List ℕ) → length xs ≡ length ys → ((v : ℕ) → v < length xs → slice_get xs v ≡ slice_get ys v) → xs ≡ ys
lists-same [] [] e h = refl
lists-same [] (y ∷ ys) e h = absurd (let f : ⊥ = omega arith in f)
lists-same (x ∷ xs) [] e h = absurd (let f : ⊥ = omega arith in f)
lists-same (x ∷ xs) (y ∷ ys) e h =
    let first : Some x ≡ Some y = h zero (omega arith) in
    let one : x ≡ y = cc in
    let rest = lists-same xs ys (omega arith) (λ v l. h (suc v) (omega arith)) in
    ap (λ (z : ℕ). z ∷ xs) one ∙ ap (λ (zs : List ℕ). y ∷ zs) rest

module _ (syms : List FoSym) (vars wars : List ℕ) where
  abbrev Same : ℕ → Type 0
  Same v = slice_get vars v ≡ slice_get wars v

  -- where a term has one sort over both, so has each variable of it
  mutual
    term-same : (t : Term) (s : ℕ) → HasSort vars syms t s → HasSort wars syms t s → AllByRecursion Same (variables t)
    term-same (variable v) s h k = (h ∙ sym k, tt)
    term-same (symbol f ts) s h k =
        let same : k.0 ≡ h.0 = some-same (slice_get syms f) k.0 h.0 k.1 h.1 in
        terms-same ts h.0.args h.3 (subst (λ (y : FoSym). HaveSorts wars syms ts y.args) same k.3)

    terms-same : (ts : Terms) (ss : List ℕ) → HaveSorts vars syms ts ss → HaveSorts wars syms ts ss → AllByRecursion Same (variables_of_all ts)
    terms-same none ss h k = tt
    terms-same (more t ts) [] h k = absurd h
    terms-same (more t ts) (s ∷ ss) h k = all-both Same (variables t) (variables_of_all ts) (term-same t s h.0 k.0) (terms-same ts ss h.1 k.1)

module _ (syms : List FoSym) (olds vars : List ℕ) (terms : Terms) (typed : HaveSorts vars syms terms olds) where
  term-at : (ts : Terms) (ss : List ℕ) (v s : ℕ) (other : Term) → HaveSorts vars syms ts ss → slice_get ss v ≡ Some s → HasSort vars syms (term_or ts v other) s
  term-at none [] v s other h e = absurd (let f : ⊥ = cc in f)
  term-at none (x ∷ ss) v s other h e = absurd h
  term-at (more t ts) [] v s other h e = absurd h
  term-at (more t ts) (x ∷ ss) zero s other h e = let f : x ≡ s = cc in subst (HasSort vars syms t) f h.0
  term-at (more t ts) (x ∷ ss) (suc v) s other h e = term-at ts ss v s other h.1 e

  mutual
    image-has : (t : Term) (s : ℕ) → HasSort olds syms t s → HasSort vars syms (apply (images terms) t) s
    image-has (variable v) s h = term-at terms olds v s (variable v) typed h
    image-has (symbol f ts) s h = (h.0, h.1, h.2, images-have ts h.0.args h.3)

    images-have : (ts : Terms) (ss : List ℕ) → HaveSorts olds syms ts ss → HaveSorts vars syms (apply_to_all (images terms) ts) ss
    images-have none [] h = tt
    images-have none (s ∷ ss) h = absurd h
    images-have (more t ts) [] h = absurd h
    images-have (more t ts) (s ∷ ss) h = (image-has t s h.0, images-have ts ss h.1)

module _ (syms : List FoSym) (olds vars wars : List ℕ) (terms : Terms) (typed : HaveSorts vars syms terms olds) (others : HaveSorts wars syms terms olds) where
  side-same : (t : Term) (s : ℕ) → HasSort olds syms t s → AllByRecursion (Same syms vars wars) (variables (apply (images terms) t))
  side-same t s h = term-same syms vars wars (apply (images terms) t) s (image-has syms olds vars terms typed t s h) (image-has syms olds wars terms others t s h)

  literals-same : (ls : List FoLit) → AllByRecursion (IsLiteral olds syms) ls → AllByRecursion (Same syms vars wars) (clause_variables (instance_lits terms ls))
  literals-same [] h = tt
  literals-same (l ∷ ls) h =
      all-both (Same syms vars wars) (literal_variables (applied_literal (images terms) l)) (clause_variables (instance_lits terms ls))
      (all-both (Same syms vars wars) (variables (apply (images terms) l.left)) (variables (apply (images terms) l.right)) (side-same l.left h.0.0 h.0.1) (side-same l.right h.0.0 h.0.2))
      (literals-same ls h.1)

  -- numbered variables have one list of sorts
  variables-same : (ls : List FoLit) → AllByRecursion (IsLiteral olds syms) ls → IsNumbered 0 (clause_variables (instance_lits terms ls) ++ variables_of_all terms) (length vars) →
      IsNumbered 0 (clause_variables (instance_lits terms ls) ++ variables_of_all terms) (length wars) → vars ≡ wars
  variables-same ls h a b =
      let all = all-both (Same syms vars wars) (clause_variables (instance_lits terms ls)) (variables_of_all terms) (literals-same ls h) (terms-same syms vars wars terms olds typed others) in
      lists-same vars wars (numbered-count 0 (length vars) (length wars) (clause_variables (instance_lits terms ls) ++ variables_of_all terms) a b)
      (numbered-all (Same syms vars wars) 0 (length vars) (clause_variables (instance_lits terms ls) ++ variables_of_all terms) a (λ v l. absurd (let f : ⊥ = omega arith in f)) all)

module _ (sorts : ℕ) (syms : List FoSym) (clauses : List FoClause) (c k : ℕ) where
  abbrev instance_of : List ℕ → Terms → FoClause → FoClause
  instance_of vs ts x = record { vars = vs; lits = map (applied_literal (images ts)) x.lits }

  abbrev conclusion_of : List ℕ → Terms → FoClause → FoClause
  conclusion_of vs ts x = record { vars = vs; lits = remove (map (applied_literal (images ts)) x.lits) k }

  numbered-of : (vars : List ℕ) (terms : Terms) (i d : FoClause) (h : IsResolved sorts syms clauses c k vars terms i d) → IsNumbered 0 (clause_variables (instance_lits terms (remove h.clause.lits k)) ++ variables_of_all terms) (length vars)
  numbered-of vars terms i d h =
      let lits : d.lits ≡ instance_lits terms (remove h.clause.lits k) = ap (λ (x : FoClause). x.lits) h.conclusion_is ∙ remove-map (applied_literal (images terms)) h.clause.lits k in
      subst (λ (x : List FoLit). IsNumbered 0 (clause_variables x ++ variables_of_all terms) (length vars)) lits h.numbered

  same-terms : (vars wars : List ℕ) (terms : Terms) (i d j e : FoClause) → AreSorted syms clauses c → IsResolved sorts syms clauses c k vars terms i d → IsResolved sorts syms clauses c k wars terms j e → HaveOneConclusion vars wars terms terms i j d e
  same-terms vars wars terms i d j e sorted h g =
      let same : g.clause ≡ h.clause = some-same (slice_get clauses c) g.clause h.clause g.at.clause_at h.at.clause_at in
      let typed : HaveSorts wars syms terms h.clause.vars = subst (λ (x : FoClause). HaveSorts wars syms terms x.vars) same g.typed in
      let b : IsNumbered 0 (clause_variables (instance_lits terms (remove h.clause.lits k)) ++ variables_of_all terms) (length wars)
      = subst (λ (x : FoClause). IsNumbered 0 (clause_variables (instance_lits terms (remove x.lits k)) ++ variables_of_all terms) (length wars)) same (numbered-of wars terms j e g) in
      let v : vars ≡ wars
      = variables-same syms h.clause.vars vars wars terms h.typed typed (remove h.clause.lits k) (remove-all (IsLiteral h.clause.vars syms) h.clause.lits k (sorted h.clause h.at.clause_at)) (numbered-of vars terms i d h) b in
      record {
        vars = v;
        terms = refl;
        instance = h.instance_is ∙ ap (λ (x : List ℕ). instance_of x terms h.clause) v ∙ ap (λ (x : FoClause). instance_of wars terms x) (sym same) ∙ sym g.instance_is;
        conclusion = h.conclusion_is ∙ ap (λ (x : List ℕ). conclusion_of x terms h.clause) v ∙ ap (λ (x : FoClause). conclusion_of wars terms x) (sym same) ∙ sym g.conclusion_is;
      }

  resolved-same : (vars wars : List ℕ) (terms others : Terms) (i d j e : FoClause) → AreSorted syms clauses c → IsResolved sorts syms clauses c k vars terms i d → IsResolved sorts syms clauses c k wars others j e → HaveOneConclusion vars wars terms others i j d e
  resolved-same vars wars terms others i d j e sorted h g =
      let t : terms ≡ others = resolved-once sorts syms clauses c k vars wars terms others i d j e sorted h g in
      subst (λ x. HaveOneConclusion vars wars terms x i j d e) t (same-terms vars wars terms i d j e sorted h (subst (λ x. IsResolved sorts syms clauses c k wars x j e) (sym t) g))

module _ (sorts : ℕ) (syms : List FoSym) (clauses : List FoClause) (vars wars : List ℕ) (terms others : Terms) (i d j e : FoClause) where
  worked-same : (step : FoStep) (place : ℕ) → ((made : FoClause) → Replays sorts syms clauses step made → AreSorted syms (made ∷ []) 0) → IsWorked sorts syms clauses step place vars terms i d → IsWorked sorts syms clauses step place wars others j e → HaveOneConclusion vars wars terms others i j d e
  worked-same step place sorted h g =
      resolved-same sorts syms (h.made ∷ []) 0 place vars wars terms others i d j e (sorted h.made h.replays) h.resolved (made-same sorts syms clauses step place h.made h.replays g)

  pub members-same : (m : Member) → NamesSorted syms clauses m → IsDue sorts syms clauses m vars terms i d → IsDue sorts syms clauses m wars others j e → HaveOneConclusion vars wars terms others i j d e
  members-same (resolve c k) sorted h g = resolved-same sorts syms clauses c k vars wars terms others i d j e sorted h.resolved g.resolved
  members-same (factor c k s l r) sorted h g =
      worked-same (Factor c k l (turn s r)) (constraint_place s (length h.clause.lits)) (factor-step-sorted sorts syms clauses c k s l r h.clause h.literal h.at sorted)
      (factor-worked sorts syms clauses c k s l r h.clause h.literal h.at vars terms i d h) (factor-worked sorts syms clauses c k s l r h.clause h.literal h.at wars others j e g)
  members-same (superpose c k s b l r path) sorted h g =
      let target = moved-from (applied_literal (λ v. variable (length h.giver.vars + v))) h.receiver.lits l h.literal h.literal_at in
      worked-same (Para c k s b l r path) (length h.giver.lits - 1 + length h.receiver.lits)
      (para-step-sorted sorts syms clauses c k s b l r path h.giver h.receiver h.equation target.0 h.equation_at (record { clause_at = h.receiver_at; literal_at = target.1 }) sorted.0 sorted.1)
      (super-worked sorts syms clauses c k s b l r path h.giver h.receiver h.equation target.0 h.equation_at (record { clause_at = h.receiver_at; literal_at = target.1 }) vars terms i d h)
      (super-worked sorts syms clauses c k s b l r path h.giver h.receiver h.equation target.0 h.equation_at (record { clause_at = h.receiver_at; literal_at = target.1 }) wars others j e g)
