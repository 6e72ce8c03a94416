-- A turn has one result.
use Rattle.std.proofs.Common.{ℕ, suc, ◌≡◌, ◌∙◌, ◌*◌, ◌+◌, ◌<◌, ◌⊎◌, Bool, true, false, List, [], ◌∷◌, ◌++◌, length, nat_eq, not, slice_get, Some, refl, sym, ap, subst, arith, inl, inr}
use Rattle.std.specs.Prelude.{filter}
use Rattle.std.specs.List.{AllByRecursion}
use Rattle.fo_terms.specs.Terms.{Terms}
use Rattle.fo_text.specs.declared.problem.FoClause.{FoClause}
use Rattle.fo_text.specs.declared.problem.FoProblem.{FoProblem}
use Rattle.fo_text.specs.Problems.{IsProblem}
use Rattle.fo_replay.specs.Replays.{clause_weight}
use Rattle.fo_super.specs.declared.outcomes.FoOutcome.{FoOutcome}
use Rattle.fo_super.specs.declared.outcomes.FoOutcome.TheVariants as outcome
use Rattle.fo_super.specs.Conclusions.{IsDue}
use Rattle.fo_super.specs.Members.{Member, members}
use Rattle.fo_super.specs.Outcomes.{OutcomeOf}
use Rattle.fo_super.specs.Replaying.{HaveOneConclusion}
use Rattle.fo_super.specs.Runs.{started, turned, IsFit, IsRunOf}
use Rattle.fo_super.specs.Turns.{Origin, Search, concluded, done, kept, numbers_from, passed, refused, IsBefore, IsByNumber, IsGiven, IsTurn, Works}
use Rattle.fo_super.proofs.Answering.{same-item}
use Rattle.fo_super.proofs.Singular.{members-same}
use Rattle.fo_super.proofs.Turned.{fit-all}
use Rattle.fo_super.proofs.Unique.{unique}
use Rattle.fo_super.proofs.Works.{kept-fit, names-sorted, works-fit}

-- of two clauses one comes before the other
before-once : (b : Bool) (cs : List FoClause) (g h : ℕ) → IsBefore b cs g h → IsBefore b cs h g → ⊥
before-once true cs g h k l = omega (arith, k, l)
before-once false cs g h (c, d, e, f, k) (x, y, p, q, l) =
    let a : c ≡ y = same-item (slice_get cs g) c y e q in
    let b : d ≡ x = same-item (slice_get cs h) d x f p in
    go (clause_weight c) (clause_weight d) (clause_weight x) (clause_weight y) (ap clause_weight a) (ap clause_weight b) k l
  where
    go : (m n i j : ℕ) → m ≡ j → n ≡ i → (m < n) ⊎ ((m ≡ n) × (g < h)) → (i < j) ⊎ ((i ≡ j) × (h < g)) → ⊥
    go m n i j a b (inl u) (inl v) = omega arith
    go m n i j a b (inl u) (inr v) = let w : i ≡ j = v.0 in omega arith
    go m n i j a b (inr u) (inl v) = let w : m ≡ n = u.0 in omega arith
    go m n i j a b (inr u) (inr v) = let w : g < h = u.1 in let z : h < g = v.1 in omega arith

kind-same : (t : ℕ) (a b : Bool) → IsByNumber t a → IsByNumber t b → a ≡ b
kind-same t true true h k = refl
kind-same t true false h k = absurd (k h.0 h.1)
kind-same t false true h k = absurd (h k.0 k.1)
kind-same t false false h k = refl

given-same : (s : Search) (g h : ℕ) (c d : FoClause) → IsGiven s g c → IsGiven s h d → g ≡ h
given-same s g h c d x y = go (x.first y.place h y.stands) (y.first x.place g x.stands)
  where
    go : (h ≡ g) ⊎ IsBefore x.by_number s.clauses g h → (g ≡ h) ⊎ IsBefore y.by_number s.clauses h g → g ≡ h
    go (inl e) k = sym e
    go (inr b) (inl e) = e
    go (inr b) (inr k) = absurd (before-once x.by_number s.clauses g h b (subst (λ (z : Bool). IsBefore z s.clauses h g) (kind-same (suc s.turns) y.by_number x.by_number y.kind x.kind) k))

-- the members of a turn leave one list of clauses, with one list of origins
module _ (p : FoProblem) where
  abbrev Fit : List FoClause → Type 0
  Fit cs = AllByRecursion (IsFit p.syms) cs

  abbrev Due : List FoClause → Member → List ℕ → Terms → FoClause → FoClause → Type 0
  Due cs m vars terms i c = IsDue p.sorts p.syms cs m vars terms i c

  one : (cs : List FoClause) (m : Member) (vars wars : List ℕ) (terms others : Terms) (i c j e : FoClause) → Fit cs → Due cs m vars terms i c → Due cs m wars others j e → HaveOneConclusion vars wars terms others i j c e
  one cs m vars wars terms others i c j e h due other = members-same p.sorts p.syms cs vars wars terms others i c j e m (names-sorted p.syms cs m h) due other

  -- a member is not both kept and refused
  not-kept : (cs : List FoClause) (m : Member) (vars wars : List ℕ) (terms others : Terms) (i c j e : FoClause) (o : FoOutcome) → Fit cs → Due cs m vars terms i c → OutcomeOf p.syms cs p.weight i c o → (o ≡ outcome.Kept → ⊥) →
      Due cs m wars others j e → OutcomeOf p.syms cs p.weight j e outcome.Kept → ⊥
  not-kept cs m vars wars terms others i c j e o h due out unkept other there =
      let same = one cs m vars wars terms others i c j e h due other in
      unkept (unique p.syms cs p.weight i c o outcome.Kept out
      (subst (λ (x : FoClause). OutcomeOf p.syms cs p.weight x c outcome.Kept) (sym same.instance) (subst (λ (x : FoClause). OutcomeOf p.syms cs p.weight j x outcome.Kept) (sym same.conclusion) there)))

  works-same : {ms : List Member} {cs ds es : List FoClause} {os qs rs : List Origin} → Fit cs → Works p ms cs os ds qs → Works p ms cs os es rs → (ds ≡ es) × (qs ≡ rs)
  works-same h done done = (refl, refl)
  works-same h (passed f v) (passed g w) = works-same h v w
  works-same h (passed f v) (refused vars terms i c o due out n w) = absurd (f vars terms i c due)
  works-same h (passed f v) (kept vars terms i c due out w) = absurd (f vars terms i c due)
  works-same h (refused vars terms i c o due out n v) (passed f w) = absurd (f vars terms i c due)
  works-same h (refused vars terms i c o due out n v) (refused wars others j e u duty end k w) = works-same h v w
  works-same {cs = cs} h (refused {m} vars terms i c o due out n v) (kept wars others j e duty end w) = absurd (not-kept cs m vars wars terms others i c j e o h due out n duty end)
  works-same h (kept vars terms i c due out v) (passed f w) = absurd (f vars terms i c due)
  works-same {cs = cs} h (kept {m} vars terms i c due out v) (refused wars others j e u duty end k w) = absurd (not-kept cs m wars vars others terms j e i c u h duty end k due out)
  works-same {cs = cs} {es = es} {os = os} {rs = rs} h (kept {m} {ms} vars terms i c due out v) (kept wars others j e duty end w) =
      let same = one cs m vars wars terms others i c j e h due duty in
      let here : Works p ms (cs ++ c ∷ []) (os ++ concluded m vars terms ∷ []) es rs
      = subst (λ (x : FoClause). Works p ms (cs ++ x ∷ []) (os ++ concluded m vars terms ∷ []) es rs) (sym same.conclusion)
      (subst (λ (x : List ℕ). Works p ms (cs ++ e ∷ []) (os ++ concluded m x terms ∷ []) es rs) (sym same.vars)
      (subst (λ (x : Terms). Works p ms (cs ++ e ∷ []) (os ++ concluded m wars x ∷ []) es rs) (sym same.terms) w)) in
      works-same (kept-fit p cs m vars terms i c due out h) v here

  abbrev Turned : Search → ℕ → FoClause → List FoClause → List Origin → Type 0
  Turned old g c ds qs = Works p (members old.clauses (filter (λ n. not (nat_eq n g)) old.passive) g c) old.clauses old.origins ds qs

  abbrev searched : List FoClause → List Origin → List ℕ → ℕ → Search
  searched cs os ns n = record { clauses = cs; origins = os; passive = ns; turns = n }

  pub turn-same : (old new other : Search) → Fit old.clauses → IsTurn p old new → IsTurn p old other → new ≡ other
  turn-same old new other h x y =
      let g : x.given ≡ y.given = given-same old x.given y.given x.clause y.clause x.chosen y.chosen in
      let c : x.clause ≡ y.clause = same-item (slice_get old.clauses x.given) x.clause y.clause x.chosen.clause_at (subst (λ n. slice_get old.clauses n ≡ Some y.clause) (sym g) y.chosen.clause_at) in
      let works : Turned old x.given x.clause other.clauses other.origins
      = subst (λ (d : FoClause). Turned old x.given d other.clauses other.origins) (sym c) (subst (λ n. Turned old n y.clause other.clauses other.origins) (sym g) y.worked) in
      let same = works-same h x.worked works in
      let more : x.more ≡ y.more = (let a = x.counted in let b = y.counted in let d : length new.clauses ≡ length other.clauses = ap length same.0 in omega arith) in
      let passive : new.passive ≡ other.passive
      = x.passive ∙ ap (λ n. filter (λ k. not (nat_eq k n)) old.passive ++ numbers_from (length old.clauses) x.more) g ∙ ap (λ n. filter (λ k. not (nat_eq k y.given)) old.passive ++ numbers_from (length old.clauses) n) more ∙ sym y.passive in
      ap (λ (z : List FoClause). searched z new.origins new.passive new.turns) same.0
      ∙ ap (λ (z : List Origin). searched other.clauses z new.passive new.turns) same.1
      ∙ ap (λ (z : List ℕ). searched other.clauses other.origins z new.turns) passive
      ∙ ap (searched other.clauses other.origins other.passive) (x.turns ∙ sym y.turns)

  run-fit : {s : Search} → IsProblem p → IsRunOf p s → Fit s.clauses
  run-fit h started = fit-all p.sorts p.syms p.clauses h.clauses
  run-fit h (turned r t) = works-fit p t.worked (run-fit h r)

pub turns-same : (p : FoProblem) (old new other : Search) → IsProblem p → IsRunOf p old → IsTurn p old new → IsTurn p old other → new ≡ other
turns-same p old new other h r x y = turn-same p old new other (run-fit p h r) x y
