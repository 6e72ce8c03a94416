-- Rules that choose: where the parent's clause and the abbreviation's are derivable, the conclusion is.
use Rattle.std.proofs.Common.{◌≡◌, ℕ, ◌+◌, ◌≤◌, true, false, List, [], ◌∷◌, length, slice_get, Some, refl, sym, ap, ◌∙◌, subst, arith}
use Rattle.std.proofs.lemmas.List.{length-append, append-nil}
use Rattle.leo_clause.specs.Formulas.{signed}
use Rattle.leo_q0.specs.Terms.{SimpleType, base, arrow, Term}
use Rattle.leo_q0.specs.Connectives.{equation}
use Rattle.leo_q0.specs.Derivations.{Derivable}
use Rattle.leo_q0.proofs.Equations.{Equal, same, then, applied}
use Rattle.leo_sound.proofs.Logic.{imp_of, not_of}
use Rattle.leo_terms.specs.Tree.{Tree, variable, bound, symbol, app, lam, logic, absent, type_of, codomain, lifted, truth_type, IsBoundAt}
use Rattle.leo_terms.specs.Typing.{IsWellTyped, IsPresent}
use Rattle.leo_terms.specs.Decode.{decoded}
use Rattle.leo_terms.proofs.CallerLemmas.{decoded_typed}
use Rattle.leo_clause.specs.Trees.{Literal, ClauseTree}
use Rattle.leo_clause.specs.Typed.{IsOver}
use Rattle.leo_clause.specs.declared.record.LogicKind.{LogicKind}
use Rattle.leo_kernel.specs.Shapes.{literal_type, domain, IsArrowType}
use Rattle.leo_kernel.specs.Choosing.{Claim, value, difference, claimed, chosen, chosen_type, Claims, all_f, some_t, difference_in, applied_to, Fits}
use Rattle.leo_kernel.specs.Conclusions.{with_new}
use Rattle.leo_simulation.proofs.Sayings.{literal_said, clause_said, IsFine, lifted-over, said_higher, left_said, right_said}
use Rattle.leo_simulation.proofs.Places.{fine-at}
use Rattle.leo_simulation.proofs.Sides.{forms_equal}
use Rattle.leo_simulation.proofs.Claims.{not_all_claims, some_claims, difference_claims, over-nothing, applied_over}
use Rattle.leo_simulation.proofs.Rules.{IsSensible, Says, by_literal}

-- a term without loose indices binds none
over-bound : (variables : List SimpleType) (k : ℕ) (a : SimpleType) (t : Tree) → IsOver variables k t → IsBoundAt k a t
over-bound variables k a (variable n b) o = tt
over-bound variables k a (bound i b) o = λ e. absurd (let f : ⊥ = omega (arith, e, o) in f)
over-bound variables k a (symbol s b) o = tt
over-bound variables k a (app f x) o = (over-bound variables k a f o.0, over-bound variables k a x o.1)
over-bound variables k a (lam b t) o = over-bound variables (k + 1) a t o
over-bound variables k a (logic c x y) o = (over-bound variables k a x o.0, over-bound variables k a y o.1)
over-bound variables k a absent o = tt

applied_typed : (t : Tree) (xs : List Tree) → IsWellTyped (applied_to t xs) → IsWellTyped t
applied_typed t [] w = w
applied_typed t (x ∷ xs) w = (applied_typed (app t x) xs w).0

-- what stands before a claim
record Grounds (variables : List SimpleType) (claim : Claim) : Type 0 where
  typed : IsWellTyped (chosen claim)
  over : IsOver variables 0 (chosen claim)

weaker_over : (variables : List SimpleType) (k m : ℕ) (t : Tree) → k ≤ m → IsOver variables k t → IsOver variables m t
weaker_over variables k m (variable n b) le o = o
weaker_over variables k m (bound i b) le o = omega (arith, le, o)
weaker_over variables k m (symbol s b) le o = tt
weaker_over variables k m (app f x) le o = (weaker_over variables k m f le o.0, weaker_over variables k m x le o.1)
weaker_over variables k m (lam b t) le o = weaker_over variables (k + 1) (m + 1) t (omega (arith, le)) o
weaker_over variables k m (logic c x y) le o = (weaker_over variables k m x le o.0, weaker_over variables k m y le o.1)
weaker_over variables k m absent le o = tt

chosen_for_true : (variables : List SimpleType) (c : SimpleType) (p : Tree) → IsWellTyped p → IsPresent p → type_of p ≡ arrow c truth_type → IsOver variables 0 p → Grounds variables (value c p true)
chosen_for_true variables c p w here t o = record { typed = (w, tt, ((here, t), refl)); over = (o, tt) }

-- P applied to the index of a lambda around it
applied_here : (variables : List SimpleType) (c b : SimpleType) (f : Tree) → IsWellTyped f → IsPresent f → type_of f ≡ arrow c b → IsOver variables 0 f →
    IsWellTyped (app (lifted 0 1 f) (bound 0 c)) × (codomain (type_of (lifted 0 1 f)) ≡ b) × IsOver variables 1 (app (lifted 0 1 f) (bound 0 c)) × IsBoundAt 0 c (app (lifted 0 1 f) (bound 0 c))
applied_here variables c b f w here t o =
    let e = lifted-over variables 0 1 f o in
    rw e (typed_here, ap codomain t, (weaker_over variables 0 1 f (omega arith) o, omega arith), (over-bound variables 0 c f o, λ q. refl))
  where
    typed_here : IsWellTyped (app f (bound 0 c))
    typed_here = (w, tt, here, tt, rw t refl)

chosen_for_false : (variables : List SimpleType) (c : SimpleType) (p : Tree) → IsWellTyped p → IsPresent p → type_of p ≡ arrow c truth_type → IsOver variables 0 p → Grounds variables (value c p false)
chosen_for_false variables c p w here t o =
    let a = applied_here variables c truth_type p w here t o in
    record { typed = (((a.0, tt, ((tt, a.1), refl)), tt, (a.3, tt)), tt, ((tt, refl), refl)); over = ((a.2, tt), tt) }

chosen_for_difference : (variables : List SimpleType) (c b : SimpleType) (f g : Tree) → IsWellTyped f → IsPresent f → type_of f ≡ arrow c b → IsOver variables 0 f →
    IsWellTyped g → IsPresent g → type_of g ≡ arrow c b → IsOver variables 0 g → Grounds variables (difference c f g)
chosen_for_difference variables c b f g wf hf tf of wg hg tg og =
    let x = applied_here variables c b f wf hf tf of in
    let y = applied_here variables c b g wg hg tg og in
    let e : codomain (type_of f) ≡ b = ap codomain tf in
    record {
      typed = ((((x.0, y.0, ((tt, x.1 ∙ sym e), (tt, y.1 ∙ sym e))), tt, ((tt, refl), refl)), tt, ((x.3, y.3), tt)), tt, ((tt, refl), refl));
      over = (((x.2, y.2), tt), tt);
    }

module _ {H : List Term} where
  -- equal functions at the same arguments
  applied_equal : (n : ℕ) (s t : Tree) (xs : List Tree) → IsWellTyped (applied_to t xs) → Equal H (type_of t) (decoded n s) (decoded n t) →
      Equal H (type_of (applied_to t xs)) (decoded n (applied_to s xs)) (decoded n (applied_to t xs))
  applied_equal n s t [] w e = e
  applied_equal n s t (x ∷ xs) w e =
      let here = applied_typed (app t x) xs w in
      let function : Equal H (arrow (type_of x) (codomain (type_of t))) (decoded n s) (decoded n t) = subst (λ a. Equal H a (decoded n s) (decoded n t)) here.4 e in
      applied_equal n (app s x) (app t x) xs w (applied function (same (decoded_typed x n here.1)))

  -- w is the chosen term
  w_is_chosen : (variables : List SimpleType) (n : ℕ) (claim : Claim) (s t : Tree) (xs : List Tree) → length variables ≤ n → Grounds variables claim → IsOver [] 0 t →
      Equal H (type_of t) (decoded n s) (decoded n t) → Fits variables claim t xs → Equal H (chosen_type claim) (decoded n (applied_to s xs)) (decoded n (chosen claim))
  w_is_chosen variables n claim s t xs few g o e f =
      let one = applied_equal n s t xs f.typed e in
      let two = forms_equal variables variables n (applied_to t xs) (chosen claim) few few f.typed (applied_over variables t xs (over-nothing variables 0 t o) f.variables_of) g.typed g.over f.same_form in
      subst (λ a. Equal H a (decoded n (applied_to s xs)) (decoded n (chosen claim))) f.type_is (then one two)

  -- an abbreviation's clause, wherever it is used
  abbreviation_equal : (n : ℕ) (ab : Literal) → ab.positive ≡ true → IsFine [] ab → Derivable H (clause_said 0 (ab ∷ [])) → Equal H (type_of ab.right) (decoded n ab.left) (decoded n ab.right)
  abbreviation_equal n ab pos h d =
      let e : 0 + n ≡ n = omega arith in
      let at : Derivable H (literal_said n ab) = subst (λ m. Derivable H (literal_said m ab)) e (said_higher [] (ab ∷ []) (h, tt) 0 n (omega arith) d) in
      let equation_at : Derivable H (equation (type_of ab.left) (decoded n ab.left) (decoded n ab.right)) = subst (λ b. Derivable H (signed b (equation (type_of ab.left) (decoded n ab.left) (decoded n ab.right)))) pos at in
      subst (λ a. Equal H a (decoded n ab.left) (decoded n ab.right)) h.typed.same_type (record { left = left_said n h; right = right_said n h; derived = equation_at })

  module _ (p c : ClauseTree) (i : ℕ) (ab : Literal) (xs : List Tree) (pos : ab.positive ≡ true) (closed : IsFine [] ab) (said : Derivable H (clause_said 0 (ab ∷ []))) (hp : IsSensible p) (hc : IsSensible c) where
    chosen_here : (claim : Claim) → Grounds c.variables claim → c ≡ with_new p i [] (claimed claim (applied_to ab.left xs) ∷ []) → Fits c.variables claim ab.right xs →
        Equal H (chosen_type claim) (decoded (length p.variables + 0) (applied_to ab.left xs)) (decoded (length p.variables + 0) (chosen claim))
    chosen_here claim g e f =
        let n = length p.variables + 0 in
        let len : length c.variables ≡ n = ap length (ap (λ (k : ClauseTree). k.variables) e) ∙ length-append p.variables [] in
        w_is_chosen c.variables n claim ab.left ab.right xs (omega (arith, len)) g closed.typed.right_over (abbreviation_equal n ab pos closed said) f

    same_variables : (claim : Claim) → c ≡ with_new p i [] (claimed claim (applied_to ab.left xs) ∷ []) → p.variables ≡ c.variables
    same_variables claim e = sym (ap (λ (k : ClauseTree). k.variables) e ∙ append-nil p.variables)

    pub claim_says : (kind : LogicKind) (l : Literal) (claim : Claim) → slice_get p.literals i ≡ Some l → Claims kind l claim → Fits c.variables claim ab.right xs →
        c ≡ with_new p i [] (claimed claim (applied_to ab.left xs) ∷ []) → Says H p → Says H c
    claim_says kind l claim at (all_f a q) f e s =
        let h = fine-at p.variables p.literals i l at hp in
        let wq = h.left_typed.0 in
        let here = h.left_typed.2.0.0 in
        let tq = h.left_typed.2.0.1 in
        let oq : IsOver c.variables 0 q = subst (λ v. IsOver v 0 q) (same_variables claim e) h.typed.left_over.0 in
        let x = chosen_here claim (chosen_for_false c.variables a q wq here tq oq) e f in
        by_literal p c i l [] (claimed claim (applied_to ab.left xs) ∷ []) at e hp hc
        (rw tq (not_all_claims p.variables (length p.variables + 0) (omega arith) a q (applied_to ab.left xs) wq h.typed.left_over.0 tq x)) s
    claim_says kind l claim at (some_t a q) f e s =
        let h = fine-at p.variables p.literals i l at hp in
        let wq = h.left_typed.0 in
        let here = h.left_typed.2.0.0 in
        let tq = h.left_typed.2.0.1 in
        let oq : IsOver c.variables 0 q = subst (λ v. IsOver v 0 q) (same_variables claim e) h.typed.left_over.0 in
        let x = chosen_here claim (chosen_for_true c.variables a q wq here tq oq) e f in
        by_literal p c i l [] (claimed claim (applied_to ab.left xs) ∷ []) at e hp hc
        (rw tq (some_claims p.variables (length p.variables + 0) (omega arith) a q (applied_to ab.left xs) wq tq x)) s

    difference_says : (l : Literal) (a b : SimpleType) → slice_get p.literals i ≡ Some l → l.positive ≡ false → type_of l.left ≡ arrow a b → IsPresent l.left → IsPresent l.right →
        Fits c.variables (difference a l.left l.right) ab.right xs →
        c ≡ with_new p i [] (claimed (difference a l.left l.right) (applied_to ab.left xs) ∷ []) → Says H p → Says H c
    difference_says l a b at neg tf hf hg f e s =
        let claim = difference a l.left l.right in
        let h = fine-at p.variables p.literals i l at hp in
        let tg : type_of l.right ≡ arrow a b = sym h.typed.same_type ∙ tf in
        let vars = same_variables claim e in
        let of : IsOver c.variables 0 l.left = subst (λ v. IsOver v 0 l.left) vars h.typed.left_over in
        let og : IsOver c.variables 0 l.right = subst (λ v. IsOver v 0 l.right) vars h.typed.right_over in
        let x = chosen_here claim (chosen_for_difference c.variables a b l.left l.right h.left_typed hf tf of h.right_typed hg tg og) e f in
        let n = length p.variables + 0 in
        let d = difference_claims p.variables n (omega arith) a b l.left l.right (applied_to ab.left xs) h.left_typed h.typed.left_over h.right_typed h.typed.right_over tf tg x in
        by_literal p c i l [] (claimed claim (applied_to ab.left xs) ∷ []) at e hp hc
        (subst (λ y. Derivable H (imp_of y (clause_said n (claimed claim (applied_to ab.left xs) ∷ [])))) (sym (negative n l neg tf))
        (rw tf d)) s
      where
        negative : (n : ℕ) (l : Literal) → l.positive ≡ false → type_of l.left ≡ arrow a b → literal_said n l ≡ not_of (equation (arrow a b) (decoded n l.left) (decoded n l.right))
        negative n l neg t = ap (λ x. signed x (equation (type_of l.left) (decoded n l.left) (decoded n l.right))) neg ∙ ap (λ x. not_of (equation x (decoded n l.left) (decoded n l.right))) t

    -- `f ≠ g` becomes a claim at the type of their arguments
    pub func_ext_claims : (l : Literal) (claim : Claim) → slice_get p.literals i ≡ Some l → l.positive ≡ false → IsArrowType (literal_type l) → IsPresent l.left → IsPresent l.right → claim ≡ difference_in l →
        Fits c.variables claim ab.right xs → c ≡ with_new p i [] (claimed claim (applied_to ab.left xs) ∷ []) → Says H p → Says H c
    func_ext_claims l claim at neg arrows hf hg k f e s =
        typed_claim (literal_type l) refl arrows
        (subst (λ x. Fits c.variables x ab.right xs) k f) (subst (λ x. c ≡ with_new p i [] (claimed x (applied_to ab.left xs) ∷ [])) k e)
      where
        typed_claim : (t : SimpleType) → type_of l.left ≡ t → IsArrowType t → Fits c.variables (difference (domain (literal_type l)) l.left l.right) ab.right xs →
            c ≡ with_new p i [] (claimed (difference (domain (literal_type l)) l.left l.right) (applied_to ab.left xs) ∷ []) → Says H c
        typed_claim (base m) t arrows f e = absurd arrows
        typed_claim (arrow a b) t arrows f e =
            let dom : domain (literal_type l) ≡ a = ap domain t in
            difference_says l a b at neg t hf hg (subst (λ x. Fits c.variables (difference x l.left l.right) ab.right xs) dom f)
            (subst (λ x. c ≡ with_new p i [] (claimed (difference x l.left l.right) (applied_to ab.left xs) ∷ [])) dom e) s
