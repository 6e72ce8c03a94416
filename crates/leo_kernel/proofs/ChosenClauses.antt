-- Clauses that speak of a chosen thing.
use Rattle.std.proofs.Common.{ℕ, zero, suc, ◌≡◌, ◌∙◌, ◌<◌, Bool, true, false, not, List, [], ◌∷◌, length, slice_get, Option, Some, None, refl, sym, ap, subst, arith}
use Rattle.std.specs.Prelude.{IsSomeAnd}
use Rattle.std.specs.Bool.{Decides}
use Rattle.std.proofs.lemmas.Bool.Decides.{Decides-like}
use Rattle.leo_q0.specs.Terms.{SimpleType}
use Rattle.leo_terms.specs.Tree.{Tree, app, type_of}
use Rattle.leo_terms.specs.Typing.{IsWellTyped}
use Rattle.leo_terms.specs.NormalForm.{normal_form}
use Rattle.leo_terms.specs.Contents.{Contents, IsBank, tree_at}
use Rattle.leo_terms.proofs.CallerLemmas.{term-typed}
use Rattle.leo_clause.specs.declared.clause.Clause.{Clause}
use Rattle.leo_clause.specs.declared.record.LogicKind.{LogicKind}
use Rattle.leo_clause.specs.declared.record.LogicKind.TheVariants as kind
use Rattle.leo_clause.specs.Trees.{Literal, ClauseTree, literal_at, clause_at}
use Rattle.leo_kernel.specs.declared.chosen_claims.Claim as declared
use Rattle.leo_kernel.specs.declared.chosen_claims.Claim.TheVariants as said
use Rattle.leo_kernel.specs.declared.chosen_shown.Shown.TheVariants as shown
use Rattle.leo_kernel.specs.Shapes.{truth_tree, valued}
use Rattle.leo_kernel.specs.Parts.{Formula, negated, disjoined, conjoined, implied, equated, for_all, for_some, other, formula_of, value_of}
use Rattle.leo_kernel.specs.Choosing.{Claim, value, difference, claimed, chosen, chosen_type, Claims, all_f, some_t, SpeaksOf, applied_to, AreVariablesOf, Fits, MayFit}
use Rattle.leo_kernel.specs.Conclusions.{with_literals, with_new, IsClaimed}
use Rattle.leo_kernel.specs.Symbols.{StandsFor}
use Rattle.leo_kernel.specs.ChosenTerms.{MayHaveForm}
use Rattle.leo_kernel.specs.ChosenClaims.{claim_at, all_claim, some_claim, claim_by, claim_valued, claim_of}
use Rattle.leo_kernel.specs.ChosenShown.{IsUntyped, IsShownWith, IsShown, ShowsClaim}
use Rattle.leo_kernel.specs.ChosenClauses.{is_value, is_said}
use Rattle.leo_kernel.proofs.TakingApart.{value-tree, formula-shown}
use Rattle.leo_kernel.proofs.TakingApart.{shown as shows}
use Rattle.leo_kernel.proofs.Lists.{length-map}
use Rattle.leo_kernel.proofs.TypedLits.{no, not-both}
use Rattle.leo_kernel.proofs.ChosenShowing.{same-arguments, speaks-once}

-- the claim that a literal becomes
pub claims-are : (k : LogicKind) (l : Literal) (claim : Claim) → Claims k l claim → claim_of k l ≡ Some claim
claims-are k l claim (all_f c p) = refl
claims-are k l claim (some_t c p) = refl

pub some-claim : (x y : Claim) → Some x ≡ Some y → x ≡ y
some-claim x y e = cc

row-all : (t : Tree) (f : Formula) (v : Bool) (claim : Claim) → shows t f → all_claim f v ≡ Some claim → Claims kind.AllF (valued t v) claim
row-all t (for_all c p) true claim s e = (let h : ⊥ = cc in absurd h)
row-all t (for_all c p) false claim s e = rw (s, ← some-claim (value c p false) claim e) (all_f c p)
row-all t (negated a) v claim s e = (let h : ⊥ = cc in absurd h)
row-all t (disjoined a b) v claim s e = (let h : ⊥ = cc in absurd h)
row-all t (conjoined a b) v claim s e = (let h : ⊥ = cc in absurd h)
row-all t (implied a b) v claim s e = (let h : ⊥ = cc in absurd h)
row-all t (equated c a b) v claim s e = (let h : ⊥ = cc in absurd h)
row-all t (for_some c p) v claim s e = (let h : ⊥ = cc in absurd h)
row-all t other v claim s e = (let h : ⊥ = cc in absurd h)

row-some : (t : Tree) (f : Formula) (v : Bool) (claim : Claim) → shows t f → some_claim f v ≡ Some claim → Claims kind.SomeT (valued t v) claim
row-some t (for_some c p) false claim s e = (let h : ⊥ = cc in absurd h)
row-some t (for_some c p) true claim s e = rw (s, ← some-claim (value c p true) claim e) (some_t c p)
row-some t (negated a) v claim s e = (let h : ⊥ = cc in absurd h)
row-some t (disjoined a b) v claim s e = (let h : ⊥ = cc in absurd h)
row-some t (conjoined a b) v claim s e = (let h : ⊥ = cc in absurd h)
row-some t (implied a b) v claim s e = (let h : ⊥ = cc in absurd h)
row-some t (equated c a b) v claim s e = (let h : ⊥ = cc in absurd h)
row-some t (for_all c p) v claim s e = (let h : ⊥ = cc in absurd h)
row-some t other v claim s e = (let h : ⊥ = cc in absurd h)

row-claim : (k : LogicKind) (t : Tree) (f : Formula) (v : Bool) (claim : Claim) → shows t f → claim_by k f v ≡ Some claim → Claims k (valued t v) claim
row-claim kind.AllF t f v claim s e = row-all t f v claim s e
row-claim kind.SomeT t f v claim s e = row-some t f v claim s e
row-claim _ t f v claim s e = (let h : ⊥ = cc in absurd h)

claim-of_by : (k : LogicKind) (s t : Tree) (positive : Bool) (o : Option Bool) (claim : Claim) → IsWellTyped s → ((v : Bool) → o ≡ Some v → t ≡ truth_tree v) → claim_valued k s positive o ≡ Some claim → Claims k (record { positive = positive; left = s; right = t }) claim
claim-of_by k s t false o claim w f e = (let h : ⊥ = cc in absurd h)
claim-of_by k s t true None claim w f e = (let h : ⊥ = cc in absurd h)
claim-of_by k s t true (Some v) claim w f e = rw (f v refl) (row-claim k s (formula_of s) v claim (formula-shown s w) e)

pub claim-of : (k : LogicKind) (l : Literal) (claim : Claim) → IsWellTyped l.left → IsWellTyped l.right → claim_of k l ≡ Some claim → Claims k l claim
claim-of k l claim w u e = claim-of_by k l.left l.right l.positive (value_of l.right) claim w (λ v h. value-tree l.right v u h) e

-- type and form of the chosen term
module _ (variables : List SimpleType) (claim : Claim) (t : Tree) where
  pub may-fit : MayHaveForm variables (chosen_type claim) (normal_form (chosen claim)) t → MayFit variables claim t
  may-fit h = let k = h.has_form in record { arguments = h.arguments; fits = record { variables_of = k.variables_of; typed = k.typed; type_is = k.type_is; same_form = k.same_form } }

  pub may-have : MayFit variables claim t → MayHaveForm variables (chosen_type claim) (normal_form (chosen claim)) t
  may-have h = let k = h.fits in record { arguments = h.arguments; has_form = record { variables_of = k.variables_of; typed = k.typed; type_is = k.type_is; same_form = k.same_form } }

module _ (c : Contents) (b : IsBank c) (clause : ClauseTree) (i : ℕ) (claim : Claim) (s t : Tree) where
  -- only these arguments are shown
  one-shown : (xs ys : List Tree) → AreVariablesOf clause.variables xs → AreVariablesOf clause.variables ys → ShowsClaim clause i claim s xs → ShowsClaim clause i claim s ys → xs ≡ ys
  one-shown xs ys h k p q = at (slice_get clause.literals i) p q
    where
      at : (o : Option Literal) → IsSomeAnd o (SpeaksOf claim (applied_to s xs)) → IsSomeAnd o (SpeaksOf claim (applied_to s ys)) → xs ≡ ys
      at None p q = absurd p
      at (Some l) p q = same-arguments clause.variables xs ys s h k (speaks-once claim (applied_to s xs) (applied_to s ys) l p q)

  module _ (u : ℕ) (h : IsShownWith c clause.variables t (ShowsClaim clause i claim s) u) where
    fits-shown : (type_of (tree_at c u) ≡ chosen_type claim) × (normal_form (tree_at c u) ≡ normal_form (chosen claim)) → Fits clause.variables claim t h.arguments
    fits-shown p = record { variables_of = h.variables_of; typed = rw (← h.reads) (term-typed b u h.within); type_is = rw (← h.reads) p.0; same_form = rw (← h.reads) p.1 }

    shown-fits : (ys : List Tree) → ys ≡ h.arguments → Fits clause.variables claim t ys → (type_of (tree_at c u) ≡ chosen_type claim) × (normal_form (tree_at c u) ≡ normal_form (chosen claim))
    shown-fits ys e f = (rw (h.reads, ← e) f.type_is, rw (h.reads, ← e) f.same_form)

  -- whether an abbreviation stands for the chosen term
  module _ (positive : Bool) where
    pub stands-shown : (u : ℕ) → IsShownWith c clause.variables t (ShowsClaim clause i claim s) u → (r : Bool) → Decides r ((type_of (tree_at c u) ≡ chosen_type claim) × (normal_form (tree_at c u) ≡ normal_form (chosen claim))) → Decides r (StandsFor clause i claim (record { positive = positive; left = s; right = t }))
    stands-shown u h r d =
        Decides-like r
        (λ p. record {
          may_fit = record { arguments = h.arguments; fits = fits-shown u h p };
          fits_there = λ l ys e f v. subst (λ (zs : List Tree). Fits clause.variables claim t zs) (one-shown h.arguments ys h.variables_of v h.shows (rw e f)) (fits-shown u h p);
        })
        (λ k. shown-fits u h h.arguments refl (there (slice_get clause.literals i) h.shows (λ l e f. k.fits_there l h.arguments e f h.variables_of)))
        d
      where
        there : (o : Option Literal) → IsSomeAnd o (SpeaksOf claim (applied_to s h.arguments)) → ((l : Literal) → o ≡ Some l → SpeaksOf claim (applied_to s h.arguments) l → Fits clause.variables claim t h.arguments) → Fits clause.variables claim t h.arguments
        there None p f = absurd p
        there (Some l) p f = f l refl p

    pub stands-untyped : IsUntyped clause.variables t (ShowsClaim clause i claim s) → Decides false (StandsFor clause i claim (record { positive = positive; left = s; right = t }))
    stands-untyped h = no (λ k. h.untyped (there (slice_get clause.literals i) h.shows (λ l e f. k.fits_there l h.arguments e f h.variables_of)).typed)
      where
        there : (o : Option Literal) → IsSomeAnd o (SpeaksOf claim (applied_to s h.arguments)) → ((l : Literal) → o ≡ Some l → SpeaksOf claim (applied_to s h.arguments) l → Fits clause.variables claim t h.arguments) → Fits clause.variables claim t h.arguments
        there None p f = absurd p
        there (Some l) p f = f l refl p

    pub stands-nothing : IsShown c clause.variables t (ShowsClaim clause i claim s) shown.Nothing → (r : Bool) → Decides r (MayHaveForm clause.variables (chosen_type claim) (normal_form (chosen claim)) t) → Decides r (StandsFor clause i claim (record { positive = positive; left = s; right = t }))
    stands-nothing h r d =
        Decides-like r
        (λ p. record { may_fit = may-fit clause.variables claim t p; fits_there = λ l ys e f v. absurd (h ys v (rw e f)) })
        (λ k. may-have clause.variables claim t k.may_fit)
        d

-- a literal that is concluded stands in its place
pub placed : (ls : List Literal) (i : ℕ) (k : Literal) → i < length ls → slice_get (with_literals ls i (k ∷ [])) i ≡ Some k
placed [] i k l = absurd (omega arith)
placed (j ∷ ls) zero k l = refl
placed (j ∷ ls) (suc i) k l = placed ls i k (omega arith)

same-clause : (parent : ClauseTree) (i : ℕ) (k l : Literal) → k ≡ l → with_new parent i [] (k ∷ []) ≡ with_new parent i [] (l ∷ [])
same-clause parent i k l e = ap (λ (j : Literal). with_new parent i [] (j ∷ [])) e

-- polarity and value of a claim
value-right : (positive : Bool) (o : Option Bool) (v : Bool) → is_value positive o v ≡ true → (positive ≡ true) × (o ≡ Some v)
value-right positive None v e = (let h : ⊥ = cc in absurd h)
value-right true (Some true) true e = (refl, refl)
value-right true (Some true) false e = (let h : ⊥ = cc in absurd h)
value-right true (Some false) true e = (let h : ⊥ = cc in absurd h)
value-right true (Some false) false e = (refl, refl)
value-right false (Some w) v e = (let h : ⊥ = cc in absurd h)

valued-true : (v : Bool) → is_value true (value_of (truth_tree v)) v ≡ true
valued-true true = refl
valued-true false = refl

make : (p q : Bool) (s t u v : Tree) → p ≡ q → s ≡ u → t ≡ v → ◌≡◌ {A = Literal} (record { positive = p; left = s; right = t }) (record { positive = q; left = u; right = v })
make p q s t u v e f g = rw (e, f, g) refl

not-true : (b : Bool) → not b ≡ true → b ≡ false
not-true true e = (let h : ⊥ = cc in absurd h)
not-true false e = refl

pub said-literal : (c : Contents) (claim : declared.Claim) (p : Bool) (l r w : Tree) → IsWellTyped r → is_said claim p r ≡ true → SpeaksOf (claim_at c claim) w (record { positive = p; left = l; right = r }) → record { positive = p; left = l; right = r } ≡ claimed (claim_at c claim) w
said-literal c (said.Value i q v) p l r w u e h =
    let k = value-right p (value_of r) v e in
    make p true l r (app (tree_at c q) w) (truth_tree v) k.0 h (value-tree r v u k.1)
said-literal c (said.Difference i j f g) p l r w u e h = make p false l r (app (tree_at c f) w) (app (tree_at c g) w) (not-true p e) h.0 h.1

pub claimed-said : (c : Contents) (claim : declared.Claim) (w : Tree) → is_said claim (claimed (claim_at c claim) w).positive (claimed (claim_at c claim) w).right ≡ true
claimed-said c (said.Value i q v) w = valued-true v
claimed-said c (said.Difference i j f g) w = refl

pub claimed-speaks : (claim : Claim) (w : Tree) → SpeaksOf claim w (claimed claim w)
claimed-speaks (value a p v) w = refl
claimed-speaks (difference a f g) w = (refl, refl)

pub parent-within : (c : Contents) (k : Clause) (i : ℕ) → i < length k.lits → i < length (clause_at c k).literals
parent-within c k i l = let m = length-map (literal_at c) k.lits in omega arith

-- whether a clause concludes a claim
module _ (c : Contents) (parent clause : ClauseTree) (i : ℕ) (claim : Claim) (positive : Bool) (s t : Tree) (within : i < length parent.literals) where
  abbrev Concludes : Type 0
  Concludes = IsClaimed parent i (λ x. x ≡ claim) (record { positive = positive; left = s; right = t }) clause

  literal-there : (h : Concludes) → slice_get clause.literals i ≡ Some (claimed claim (applied_to s h.arguments))
  literal-there h =
      let e : clause ≡ with_new parent i [] (claimed claim (applied_to s h.arguments) ∷ []) = rw (← h.becomes) h.concluded in
      ap (λ (k : ClauseTree). slice_get k.literals i) e ∙ placed parent.literals i (claimed claim (applied_to s h.arguments)) within

  shows-there : (h : Concludes) → ShowsClaim clause i claim s h.arguments
  shows-there h = rw (literal-there h) (claimed-speaks claim (applied_to s h.arguments))

  some-literal : (k l : Literal) → Some k ≡ Some l → k ≡ l
  some-literal k l e = cc

  pub none-there : slice_get clause.literals i ≡ None → Decides false Concludes
  none-there e = no (λ h. none-some (claimed claim (applied_to s h.arguments)) (sym e ∙ literal-there h))
    where
      none-some : (k : Literal) → None ≡ Some k → ⊥
      none-some k e = cc

  module _ (l : Literal) (there : slice_get clause.literals i ≡ Some l) where
    same-there : (h : Concludes) → l ≡ claimed claim (applied_to s h.arguments)
    same-there h = some-literal l (claimed claim (applied_to s h.arguments)) (sym there ∙ literal-there h)

    pub not-concluded : (r : Bool) → Decides r (clause ≡ with_new parent i [] (l ∷ [])) → r ≡ false → Decides false Concludes
    not-concluded r d e = no (λ h. not-both r d e (rw (← h.becomes) h.concluded ∙ same-clause parent i (claimed claim (applied_to s h.arguments)) l (sym (same-there h))))

    pub not-said : (said_of : Bool → Tree → Bool) → ((w : Tree) → said_of (claimed claim w).positive (claimed claim w).right ≡ true) → said_of l.positive l.right ≡ false → Decides false Concludes
    not-said said_of f e = no (λ h. (let g : said_of l.positive l.right ≡ true = ap (λ (k : Literal). said_of k.positive k.right) (same-there h) ∙ f (applied_to s h.arguments) in cc))

    pub not-shown : IsShown c clause.variables t (ShowsClaim clause i claim s) shown.Nothing → Decides false Concludes
    not-shown f = no (λ h. f h.arguments h.fits.variables_of (shows-there h))

    pub not-typed : IsBank c → IsUntyped clause.variables t (ShowsClaim clause i claim s) → Decides false Concludes
    not-typed b f = no (λ h. (let e = one-shown c b clause i claim s t f.arguments h.arguments f.variables_of h.fits.variables_of f.shows (shows-there h) in f.untyped (rw e h.fits.typed)))

    pub concluded-shown : (b : IsBank c) (u : ℕ) (h : IsShownWith c clause.variables t (ShowsClaim clause i claim s) u) → ((w : Tree) → SpeaksOf claim w l → l ≡ claimed claim w) → clause ≡ with_new parent i [] (l ∷ []) →
        (r : Bool) → Decides r ((type_of (tree_at c u) ≡ chosen_type claim) × (normal_form (tree_at c u) ≡ normal_form (chosen claim))) → Decides r Concludes
    concluded-shown b u h f e r d =
        let speaks : SpeaksOf claim (applied_to s h.arguments) l = rw there at h.shows in
        let is : l ≡ claimed claim (applied_to s h.arguments) = f (applied_to s h.arguments) speaks in
        Decides-like r
        (λ p. record { claim = claim; becomes = refl; arguments = h.arguments; fits = fits-shown c b clause i claim s t u h p; concluded = e ∙ same-clause parent i l (claimed claim (applied_to s h.arguments)) is })
        (λ k. shown-fits c b clause i claim s t u h k.arguments (sym (one-shown c b clause i claim s t h.arguments k.arguments h.variables_of k.fits.variables_of h.shows (shows-there k))) (subst (λ (x : Claim). Fits clause.variables x t k.arguments) k.becomes k.fits))
        d
