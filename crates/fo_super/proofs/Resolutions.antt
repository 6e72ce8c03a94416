-- A clause is resolved in one way: numbered variables fix the instance.
use Rattle.std.proofs.Common.{ℕ, zero, suc, ◌≡◌, ◌∙◌, ◌+◌, ◌<◌, ◌≤◌, List, [], ◌∷◌, ◌++◌, length, map, slice_get, Option, Some, refl, sym, ap, subst, arith, false}
use Rattle.std.specs.Prelude.{remove, sum_by}
use Rattle.std.specs.List.{AllByRecursion}
use Rattle.fo_terms.specs.Terms.{Term, Terms, variable, symbol, none, more}
use Rattle.fo_terms.specs.Substitutions.{Substitution, apply, apply_to_all, IsMostGeneralUnifier}
use Rattle.fo_text.specs.declared.problem.FoSym.{FoSym}
use Rattle.fo_text.specs.declared.problem.FoLit.{FoLit}
use Rattle.fo_text.specs.declared.problem.FoClause.{FoClause}
use Rattle.fo_text.specs.Problems.{HasSort, HaveSorts, IsLiteral}
use Rattle.fo_text.specs.declared.answer.FoStep.TheVariants.{Inst, Drop}
use Rattle.fo_replay.specs.Replays.{term_or, images, applied_literal, instance_words, literal_weight, IsLiteralAt, Replays}
use Rattle.fo_super.specs.Laws.{AreSorted}
use Rattle.fo_super.specs.Numbering.{variables, variables_of_all, literal_variables, clause_variables, IsNumbered}
use Rattle.fo_super.specs.Conclusions.{images_from, IsResolved}
use Rattle.std.proofs.lemmas.List.Sums.{sum_by-cons}
use Rattle.fo_super.proofs.Answering.{get-within}
use Rattle.fo_super.proofs.Sorting.{all-at}
use Rattle.fo_super.proofs.Renaming.{AreSent, none-sent, sent-append, term-sent, terms-sent, numbered-same, all-second, terms-stay}

-- the terms of the first variables
image-at : (s : Substitution) (n v i : ℕ) (other : Term) → i < n → term_or (images_from s v n) i other ≡ s (v + i)
image-at s zero v i other l = absurd (omega arith)
image-at s (suc n) v zero other l = ap s (let e : v ≡ v + 0 = omega arith in e)
image-at s (suc n) v (suc i) other l = image-at s n (suc v) i other (omega arith) ∙ ap s (let e : suc v + i ≡ v + suc i = omega arith in e)

module _ (vars : List ℕ) (syms : List FoSym) (s : Substitution) where
  mutual
    pub images-apply : (t : Term) (x : ℕ) → HasSort vars syms t x → apply (images (images_from s 0 (length vars))) t ≡ apply s t
    images-apply (variable v) x h = image-at s (length vars) 0 v (variable v) (get-within vars v x h) ∙ ap s (let e : 0 + v ≡ v = omega arith in e)
    images-apply (symbol f ts) x h = ap (symbol f) (images-apply-all ts h.0.args h.3)

    images-apply-all : (ts : Terms) (xs : List ℕ) → HaveSorts vars syms ts xs → apply_to_all (images (images_from s 0 (length vars))) ts ≡ apply_to_all s ts
    images-apply-all none xs h = refl
    images-apply-all (more t ts) [] h = absurd h
    images-apply-all (more t ts) (x ∷ xs) h =
        ap (λ z. more z (apply_to_all (images (images_from s 0 (length vars))) ts)) (images-apply t x h.0) ∙ ap (more (apply s t)) (images-apply-all ts xs h.1)

-- one unifier after another
pub images-after : (r s t : Substitution) → ((v : ℕ) → t v ≡ apply r (s v)) → (v n : ℕ) → images_from t v n ≡ apply_to_all r (images_from s v n)
images-after r s t h v zero = refl
images-after r s t h v (suc n) = ap (λ x. more x (images_from t (suc v) n)) (h v) ∙ ap (more (apply r (s v))) (images-after r s t h (suc v) n)

mutual
  apply-after : (r s t : Substitution) → ((v : ℕ) → t v ≡ apply r (s v)) → (u : Term) → apply t u ≡ apply r (apply s u)
  apply-after r s t h (variable v) = h v
  apply-after r s t h (symbol f us) = ap (symbol f) (apply-after-all r s t h us)

  apply-after-all : (r s t : Substitution) → ((v : ℕ) → t v ≡ apply r (s v)) → (us : Terms) → apply_to_all t us ≡ apply_to_all r (apply_to_all s us)
  apply-after-all r s t h none = refl
  apply-after-all r s t h (more u us) = ap (λ x. more x (apply_to_all t us)) (apply-after r s t h u) ∙ ap (more (apply r (apply s u))) (apply-after-all r s t h us)

-- the literals but one
abbrev pub instance_lits : Terms → List FoLit → List FoLit
instance_lits ts ls = map (applied_literal (images ts)) ls

pub remove-map : (f : FoLit → FoLit) (ls : List FoLit) (k : ℕ) → remove (map f ls) k ≡ map f (remove ls k)
remove-map f [] zero = refl
remove-map f [] (suc k) = refl
remove-map f (l ∷ ls) zero = refl
remove-map f (l ∷ ls) (suc k) = ap (λ (xs : List FoLit). f l ∷ xs) (remove-map f ls k)

pub remove-all : (P : FoLit → Type 0) (ls : List FoLit) (k : ℕ) → AllByRecursion P ls → AllByRecursion P (remove ls k)
remove-all P [] zero h = tt
remove-all P [] (suc k) h = tt
remove-all P (l ∷ ls) zero h = h.1
remove-all P (l ∷ ls) (suc k) h = (h.0, remove-all P ls k h.1)

module _ (vars : List ℕ) (syms : List FoSym) (s t r q : Substitution) (there : (v : ℕ) → t v ≡ apply r (s v)) (back : (v : ℕ) → s v ≡ apply q (t v)) where
  side-sent : (u : Term) (x : ℕ) → HasSort vars syms u x → AreSent r q (variables (apply (images (images_from s 0 (length vars))) u)) (variables (apply (images (images_from t 0 (length vars))) u))
  side-sent u x h =
      let a = images-apply vars syms s u x h in
      let b = images-apply vars syms t u x h in
      let c : apply q (apply r (apply s u)) ≡ apply s u = ap (apply q) (sym (apply-after r s t there u)) ∙ sym (apply-after q t s back u) in
      let d : AreSent r q (variables (apply s u)) (variables (apply r (apply s u))) = term-sent r q (apply s u) c in
      subst (λ z. AreSent r q (variables z) (variables (apply (images (images_from t 0 (length vars))) u))) (sym a)
      (subst (λ z. AreSent r q (variables (apply s u)) (variables z)) (sym (apply-after r s t there u) ∙ sym b) d)

  lits-sent : (ls : List FoLit) → AllByRecursion (IsLiteral vars syms) ls → AreSent r q (clause_variables (instance_lits (images_from s 0 (length vars)) ls)) (clause_variables (instance_lits (images_from t 0 (length vars)) ls))
  lits-sent [] h = none-sent
  lits-sent (l ∷ ls) h =
      sent-append r q (literal_variables (applied_literal (images (images_from s 0 (length vars))) l)) (literal_variables (applied_literal (images (images_from t 0 (length vars))) l)) _ _
      (sent-append r q _ _ _ _ (side-sent l.left h.0.0 h.0.1) (side-sent l.right h.0.0 h.0.2)) (lits-sent ls h.1)

  pub numbered-once : (ls : List FoLit) (m n : ℕ) → AllByRecursion (IsLiteral vars syms) ls → IsNumbered 0 (clause_variables (instance_lits (images_from s 0 (length vars)) ls) ++ variables_of_all (images_from s 0 (length vars))) m →
      IsNumbered 0 (clause_variables (instance_lits (images_from t 0 (length vars)) ls) ++ variables_of_all (images_from t 0 (length vars))) n → images_from t 0 (length vars) ≡ images_from s 0 (length vars)
  numbered-once ls m n h a b =
      let c : images_from t 0 (length vars) ≡ apply_to_all r (images_from s 0 (length vars)) = images-after r s t there 0 (length vars) in
      let d : images_from s 0 (length vars) ≡ apply_to_all q (images_from t 0 (length vars)) = images-after q t s back 0 (length vars) in
      let e : AreSent r q (variables_of_all (images_from s 0 (length vars))) (variables_of_all (apply_to_all r (images_from s 0 (length vars)))) = terms-sent r q (images_from s 0 (length vars)) (ap (apply_to_all q) (sym c) ∙ sym d) in
      let f : AreSent r q (variables_of_all (images_from s 0 (length vars))) (variables_of_all (images_from t 0 (length vars))) = subst (λ z. AreSent r q (variables_of_all (images_from s 0 (length vars))) (variables_of_all z)) (sym c) e in
      let g = numbered-same r q m n _ _ (sent-append r q _ _ _ _ (lits-sent ls h) f) a b in
      c ∙ terms-stay r q (images_from s 0 (length vars)) (all-second r q (clause_variables (instance_lits (images_from s 0 (length vars)) ls)) (variables_of_all (images_from s 0 (length vars))) g)

-- two resolutions of a clause on a literal
pub some-same : {X : Type 0} (o : Option X) (x y : X) → o ≡ Some x → o ≡ Some y → x ≡ y
some-same o x y e f = let g : Some x ≡ Some y = sym e ∙ f in cc

module _ (sorts : ℕ) (syms : List FoSym) (clauses : List FoClause) (c k : ℕ) where
  pub numbered-lits : {vars : List ℕ} {terms : Terms} {i d : FoClause} (h : IsResolved sorts syms clauses c k vars terms i d) →
      IsNumbered 0 (clause_variables (instance_lits (images_from h.unifier 0 (length h.clause.vars)) (remove h.clause.lits k)) ++ variables_of_all (images_from h.unifier 0 (length h.clause.vars))) (length vars)
  numbered-lits {vars} {terms} {i} {d} h =
      let a : d.lits ≡ instance_lits terms (remove h.clause.lits k) = ap (λ (x : FoClause). x.lits) h.conclusion_is ∙ remove-map (applied_literal (images terms)) h.clause.lits k in
      let b : IsNumbered 0 (clause_variables (instance_lits terms (remove h.clause.lits k)) ++ variables_of_all terms) (length vars) = subst (λ (x : List FoLit). IsNumbered 0 (clause_variables x ++ variables_of_all terms) (length vars)) a h.numbered in
      subst (λ x. IsNumbered 0 (clause_variables (instance_lits x (remove h.clause.lits k)) ++ variables_of_all x) (length vars)) h.terms_are b

  pub resolved-once : (vars wars : List ℕ) (terms others : Terms) (i d j e : FoClause) → AreSorted syms clauses c → IsResolved sorts syms clauses c k vars terms i d → IsResolved sorts syms clauses c k wars others j e → terms ≡ others
  resolved-once vars wars terms others i d j e sorted g h =
      let same : h.clause ≡ g.clause = some-same (slice_get clauses c) h.clause g.clause h.at.clause_at g.at.clause_at in
      let lit : h.literal ≡ g.literal = some-same (slice_get g.clause.lits k) h.literal g.literal (ap (λ (x : FoClause). slice_get x.lits k) (sym same) ∙ h.at.literal_at) g.at.literal_at in
      let gen : IsMostGeneralUnifier h.unifier g.literal.left g.literal.right = subst (λ (x : FoLit). IsMostGeneralUnifier h.unifier x.left x.right) lit h.general in
      let there = g.general.general h.unifier gen.unifies in
      let back = gen.general g.unifier g.general.unifies in
      let a = numbered-lits g in
      let b : IsNumbered 0 (clause_variables (instance_lits (images_from h.unifier 0 (length g.clause.vars)) (remove g.clause.lits k)) ++ variables_of_all (images_from h.unifier 0 (length g.clause.vars))) (length wars)
      = subst (λ (x : FoClause). IsNumbered 0 (clause_variables (instance_lits (images_from h.unifier 0 (length x.vars)) (remove x.lits k)) ++ variables_of_all (images_from h.unifier 0 (length x.vars))) (length wars)) same (numbered-lits h) in
      let t = numbered-once g.clause.vars syms g.unifier h.unifier there.0 back.0 there.1 back.1 (remove g.clause.lits k) (length vars) (length wars) (remove-all (IsLiteral g.clause.vars syms) g.clause.lits k (sorted g.clause g.at.clause_at)) a b in
      g.terms_are ∙ sym t ∙ ap (λ (x : FoClause). images_from h.unifier 0 (length x.vars)) (sym same) ∙ sym h.terms_are

-- the line of the instance
pub instance-replays : (sorts : ℕ) (syms : List FoSym) (clauses all : List FoClause) (c k n : ℕ) (clause : FoClause) (vars : List ℕ) (terms : Terms) (i d : FoClause) → IsResolved sorts syms clauses c k vars terms i d → slice_get clauses c ≡ Some clause → slice_get all n ≡ Some clause → Replays sorts syms all (Inst n (instance_words vars terms)) i
instance-replays sorts syms clauses all c k n clause vars terms i d h e f =
    let same : h.clause ≡ clause = some-same (slice_get clauses c) h.clause clause h.at.clause_at e in
    record {
      gives = record { clause = clause; vars = vars; terms = terms; clause_at = f; words_are = refl; sorts_exist = h.sorts_exist; typed = subst (λ (x : FoClause). HaveSorts vars syms terms x.vars) same h.typed; is = h.instance_is ∙ ap (λ (x : FoClause). instance_of vars terms x) same };
      light = h.light;
    }
  where
    instance_of : List ℕ → Terms → FoClause → FoClause
    instance_of vs ts x = record { vars = vs; lits = map (applied_literal (images ts)) x.lits }

-- the line of the conclusion
remove-lighter : (f : FoLit → ℕ) (ls : List FoLit) (k : ℕ) → sum_by f (remove ls k) ≤ sum_by f ls
remove-lighter f [] zero = omega arith
remove-lighter f [] (suc k) = omega arith
remove-lighter f (l ∷ ls) zero = let a = sum_by-cons f l ls in omega arith
remove-lighter f (l ∷ ls) (suc k) =
    let a = sum_by-cons f l ls in
    let b = sum_by-cons f l (remove ls k) in
    let r = remove-lighter f ls k in
    omega arith

remove-shorter : (ls : List FoLit) (k : ℕ) → length (remove ls k) ≤ length ls
remove-shorter [] zero = omega arith
remove-shorter [] (suc k) = omega arith
remove-shorter (l ∷ ls) zero = omega arith
remove-shorter (l ∷ ls) (suc k) = let r = remove-shorter ls k in omega arith

get-applied : (f : FoLit → FoLit) (ls : List FoLit) (k : ℕ) (l : FoLit) → slice_get ls k ≡ Some l → slice_get (map f ls) k ≡ Some (f l)
get-applied f [] k l e = absurd (let g : ⊥ = cc in g)
get-applied f (x ∷ ls) zero l e = let g : x ≡ l = cc in ap (λ (y : FoLit). Some (f y)) g
get-applied f (x ∷ ls) (suc k) l e = get-applied f ls k l e

sides-one : (vars : List ℕ) (syms : List FoSym) (s : Substitution) (terms : Terms) (l : FoLit) → terms ≡ images_from s 0 (length vars) → IsLiteral vars syms l → apply s l.left ≡ apply s l.right → apply (images terms) l.left ≡ apply (images terms) l.right
sides-one vars syms s terms l e h u =
    subst (λ x. apply (images x) l.left ≡ apply (images x) l.right) (sym e)
    (images-apply vars syms s l.left h.0 h.1 ∙ u ∙ sym (images-apply vars syms s l.right h.0 h.2))

pub conclusion-replays : (sorts : ℕ) (syms : List FoSym) (clauses all : List FoClause) (c k n : ℕ) (clause : FoClause) (literal : FoLit) (vars : List ℕ) (terms : Terms) (i d : FoClause) → AreSorted syms clauses c → IsResolved sorts syms clauses c k vars terms i d → IsLiteralAt clauses c k clause literal → literal.pos ≡ false → slice_get all n ≡ Some i → Replays sorts syms all (Drop n k) d
conclusion-replays sorts syms clauses all c k n clause literal vars terms i d sorted h at negative f =
    let same : h.clause ≡ clause = some-same (slice_get clauses c) h.clause clause h.at.clause_at at.clause_at in
    let lit : h.literal ≡ literal = some-same (slice_get clause.lits k) h.literal literal (ap (λ (x : FoClause). slice_get x.lits k) (sym same) ∙ h.at.literal_at) at.literal_at in
    let lits : i.lits ≡ instance_lits terms h.clause.lits = ap (λ (x : FoClause). x.lits) h.instance_is in
    let is_literal : IsLiteral h.clause.vars syms h.literal = all-at (IsLiteral h.clause.vars syms) h.clause.lits (sorted h.clause h.at.clause_at) k h.literal h.at.literal_at in
    let short = remove-shorter i.lits k in
    let light = remove-lighter literal_weight i.lits k in
    let rest : d.lits ≡ remove i.lits k = ap (λ (x : FoClause). x.lits) h.conclusion_is ∙ ap (λ (x : List FoLit). remove x k) (sym lits) in
    let few : length (remove i.lits k) ≤ 1000 = (let b = h.light.literals in omega arith) in
    let small : sum_by literal_weight (remove i.lits k) ≤ 100000 = (let b = h.light.weight in omega arith) in
    record {
      gives = record {
        clause = i;
        literal = applied_literal (images terms) h.literal;
        at = record { clause_at = f; literal_at = ap (λ (x : List FoLit). slice_get x k) lits ∙ get-applied (applied_literal (images terms)) h.clause.lits k h.literal h.at.literal_at };
        negative = ap (λ (x : FoLit). x.pos) lit ∙ negative;
        equal_sides = sides-one h.clause.vars syms h.unifier terms h.literal h.terms_are is_literal h.general.unifies;
        is = h.conclusion_is ∙ ap (λ (x : FoClause). without x) (sym h.instance_is);
      };
      light = record { literals = subst (λ (x : List FoLit). length x ≤ 1000) (sym rest) few; weight = subst (λ (x : List FoLit). sum_by literal_weight x ≤ 100000) (sym rest) small };
    }
  where
    without : FoClause → FoClause
    without x = record { vars = x.vars; lits = remove x.lits k }
