-- Putting terms in for variables decodes to Andrews' substitution, of all of them at once.
use Rattle.std.proofs.Common.{ℕ, ◌≡◌, ◌+◌, ◌-◌, ◌<◌, ◌≤◌, Bool, true, false, not, ◌||◌, List, [], ◌∷◌, length, slice_get, Option, Some, None, refl, ◌∙◌, ap, arith}
use Rattle.std.specs.Option.{option_map}
use Rattle.std.proofs.lemmas.Option.{slice_get_within}
use Rattle.leo_q0.specs.Terms.{SimpleType, Variable, same_variable, Term, variable as q_variable, constant, identity, choice as q_choice, apply, lambda}
use Rattle.leo_q0.specs.Connectives.{false_term, not_term, or_term, and_term, imp_term, all_term, some_term, x_of}
use Rattle.leo_q0.specs.Substitution.{is_free}
use Rattle.leo_q0.specs.Shapes.{shape, lambda_shape}
use Rattle.leo_q0.proofs.Variables.{same_variable-refl}
use Rattle.leo_q0.proofs.Fresh.{different}
use Rattle.leo_terms.proofs.ClosedTerms.{and_closed, imp_closed, not_closed, or_closed, false_closed}
use Rattle.leo_terms.specs.Tree.{Tree, variable, bound, symbol, app, lam, logic, absent, Connective, truth, falsity, negation, disjunction, conjunction, implication, equality, universal, existential, choice, variable_given, lifted, substituted, IsGiven, IsOfTypeIfGiven}
use Rattle.leo_terms.specs.Typing.{IsWellTyped}
use Rattle.leo_terms.specs.Decode.{named, connected, decoded, IsFitting, without, replaced_all, given_terms}
use Rattle.leo_terms.specs.Laws.{AreFitting, SubstitutionDecodes, LiftingDecodes}
use Rattle.leo_terms.proofs.DecodedShapes.{Skips, lifted_shape, connected_shape, some_closed, and_false}

-- nothing is given for a free variable
abbrev Misses : (Variable → Option Term) → Term → Type 0
Misses given t = (v : Variable) → is_free v t ≡ true → given v ≡ None

Misses-function : (given : Variable → Option Term) (f t : Term) → Misses given (apply f t) → Misses given f
Misses-function given f t m v h = m v (rw h refl)

Misses-argument : (given : Variable → Option Term) (f t : Term) → Misses given (apply f t) → Misses given t
Misses-argument given f t m v h = m v (either (is_free v f) (is_free v t) h)
  where
    either : (p q : Bool) → q ≡ true → (p || q) ≡ true
    either true q e = refl
    either false q e = e

Misses-body : (given : Variable → Option Term) (w : Variable) (t : Term) → Misses given (lambda w t) → Misses (without w given) t
Misses-body given w t m v h = at (same_variable v w) refl
  where
    at : (p : Bool) → same_variable v w ≡ p → without w given v ≡ None
    at true e = rw e refl
    at false e = rw e (m v (rw (e, h) refl))

replaced_all-missed : (t : Term) (given : Variable → Option Term) → Misses given t → replaced_all given t ≡ t
replaced_all-missed (q_variable v) given m = rw (m v (same_variable-refl v)) refl
replaced_all-missed (constant n a) given m = refl
replaced_all-missed (identity a) given m = refl
replaced_all-missed (q_choice a) given m = refl
replaced_all-missed (apply f t) given m =
    let p = replaced_all-missed f given (Misses-function given f t m) in
    let q = replaced_all-missed t given (Misses-argument given f t m) in
    rw (p, q) refl
replaced_all-missed (lambda w t) given m = ap (lambda w) (replaced_all-missed t (without w given) (Misses-body given w t m))

replaced_all-closed : (t : Term) (given : Variable → Option Term) → ((v : Variable) → is_free v t ≡ false) → replaced_all given t ≡ t
replaced_all-closed t given h = replaced_all-missed t given (λ v e. absurd (let f = h v in cc))

connected_replaced : (c : Connective) (given : Variable → Option Term) (s t : Term) → replaced_all given (connected c s t) ≡ connected c (replaced_all given s) (replaced_all given t)
connected_replaced truth given s t = refl
connected_replaced falsity given s t = replaced_all-closed false_term given false_closed
connected_replaced negation given s t = ap (λ f. apply f (replaced_all given s)) (replaced_all-closed not_term given not_closed)
connected_replaced disjunction given s t = ap (λ f. apply (apply f (replaced_all given s)) (replaced_all given t)) (replaced_all-closed or_term given or_closed)
connected_replaced conjunction given s t = ap (λ f. apply (apply f (replaced_all given s)) (replaced_all given t)) (replaced_all-closed and_term given and_closed)
connected_replaced implication given s t = ap (λ f. apply (apply f (replaced_all given s)) (replaced_all given t)) (replaced_all-closed imp_term given imp_closed)
connected_replaced (equality a) given s t = refl
connected_replaced (universal a) given s t = ap (λ f. apply f (replaced_all given s)) (replaced_all-closed (all_term a) given (λ v. and_false (not (same_variable v (x_of a)))))
connected_replaced (existential a) given s t = ap (λ f. apply f (replaced_all given s)) (replaced_all-closed (some_term a) given (some_closed a))
connected_replaced (choice a) given s t = refl

module _ (terms : List Tree) (first d : ℕ) (few : length terms ≤ first) (lf : first ≤ d) (good : AreFitting first d terms) where
  -- what is given for the variables below first, and nothing for those from there on
  abbrev Gives : (Variable → Option Term) → Type 0
  Gives given = (v : Variable) → (v.number < first → given v ≡ given_terms d terms v) × (first ≤ v.number → given v ≡ None)

  gives_under : (given : Variable → Option Term) (w : Variable) → d ≤ w.number → Gives given → Gives (without w given)
  gives_under given w l g v = ((λ h. rw (different v w (λ e. omega arith)) ((g v).0 h)), (λ h. at (same_variable v w) refl ((g v).1 h)))
    where
      at : (p : Bool) → same_variable v w ≡ p → given v ≡ None → without w given v ≡ None
      at true e h = rw e refl
      at false e h = rw e h

  skips_under : (ws : List Variable) (w : Variable) → d ≤ w.number → Skips d ws → Skips d (w ∷ ws)
  skips_under ws w l low v h = rw (different v w (λ e. omega arith), low v h) refl

  given_shape : (k n a : ℕ) (b : SimpleType) (given : Variable → Option Term) (ws : List Variable) → n ≡ d + k → Gives given → Skips d ws → a < first → (o : Option Tree) → slice_get terms a ≡ o → IsOfTypeIfGiven b o →
      shape ws (replaced_all given (q_variable (named a b))) ≡ shape ws (decoded n (variable_given k o a b))
  given_shape k n a b given ws en g low l None e h = absurd h
  given_shape k n a b given ws en g low l (Some s) e h =
      let f : given (named a b) ≡ Some (decoded d s) = (g (named a b)).0 l ∙ ap (option_map (decoded d)) e in
      let q = good a s e in
      let p : shape ws (decoded d s) ≡ shape ws (decoded n (lifted 0 k s)) = lifted_shape s first d k 0 d n [] ws ws refl (omega arith) (omega arith) lf low low (λ j c i. absurd (cc)) q.0 q.1 in
      rw f p

  substituted_shape : (t : Tree) (k n : ℕ) (given : Variable → Option Term) (ws : List Variable) → n ≡ d + k → Gives given → Skips d ws → IsWellTyped t → IsGiven terms t → IsFitting first n t →
      shape ws (replaced_all given (decoded n t)) ≡ shape ws (decoded n (substituted terms k t))
  substituted_shape (variable a b) k n given ws en g low w h f = given_shape k n a b given ws en g low f (slice_get terms a) refl h
  substituted_shape (bound i b) k n given ws en g low w h f =
      let e : given (named (n - (i + 1)) b) ≡ None = (g (named (n - (i + 1)) b)).1 (omega arith) in
      rw e refl
  substituted_shape (symbol s b) k n given ws en g low w h f = refl
  substituted_shape (app t x) k n given ws en g low w h f =
      let p = substituted_shape t k n given ws en g low w.0 h.0 f.0 in
      let q = substituted_shape x k n given ws en g low w.1 h.1 f.1 in
      rw (p, q) refl
  substituted_shape (lam b t) k n given ws en g low w h f =
      let v = named n b in
      ap (lambda_shape b) (substituted_shape t (k + 1) (n + 1) (without v given) (v ∷ ws) (omega arith) (gives_under given v (omega arith) g) (skips_under ws v (omega arith) low) w.0 h f)
  substituted_shape (logic c x y) k n given ws en g low w h f =
      let p = substituted_shape x k n given ws en g low w.0 h.0 f.0 in
      let q = substituted_shape y k n given ws en g low w.1 h.1 f.1 in
      ap (shape ws) (connected_replaced c given (decoded n x) (decoded n y)) ∙ connected_shape c ws ws _ _ _ _ p q
  substituted_shape absent k n given ws en g low w h f = refl

  gives_terms : Gives (given_terms d terms)
  gives_terms v = ((λ h. refl), (λ h. none (slice_get terms v.number) refl (omega arith)))
    where
      none : (o : Option Tree) → slice_get terms v.number ≡ o → length terms ≤ v.number → option_map (decoded d) (slice_get terms v.number) ≡ None
      none None e l = rw e refl
      none (Some s) e l = absurd (let m = slice_get_within terms v.number s e in omega arith)

pub substitution_decodes : SubstitutionDecodes
substitution_decodes t terms first next few lf w h f good =
    substituted_shape terms first next few lf good t 0 next (given_terms next terms) [] (omega arith) (gives_terms terms first next few lf good) (λ v l. refl) w h f

pub lifting_decodes : LiftingDecodes
lifting_decodes t first next k lf w f = lifted_shape t first next k 0 next (next + k) [] [] [] refl (omega arith) (omega arith) lf (λ v l. refl) (λ v l. refl) (λ j b i. absurd (cc)) w f
