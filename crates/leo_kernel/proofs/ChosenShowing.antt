-- What a clause shows of a symbol with variables for arguments.
use Rattle.std.proofs.Common.{ℕ, nat_eq, ◌≡◌, ◌∙◌, ◌+◌, ◌<◌, ◌≤◌, ◌↔◌, Bool, true, false, not, IsTrue, List, [], ◌∷◌, ◌++◌, length, map, slice_get, slice_index_or, Some, None, refl, sym, ap, ◌⊎◌, inl, inr, arith}
use Rattle.std.specs.Bool.{Decides}
use Rattle.std.proofs.lemmas.Bool.Decides.{Decides-like}
use Rattle.leo_q0.specs.Terms.{SimpleType, base, arrow}
use Rattle.leo_terms.specs.declared.node.TyView.{TyView}
use Rattle.leo_terms.specs.declared.node.TyView.TheVariants.{Base, Arrow}
use Rattle.leo_terms.specs.declared.node.View.TheVariants.{Var, App}
use Rattle.leo_terms.specs.Tree.{codomain, Tree, variable, bound, symbol, app, lam, logic, absent, type_of}
use Rattle.leo_terms.specs.Facts.{tree_weight}
use Rattle.leo_terms.specs.Typing.{IsWellTyped}
use Rattle.leo_terms.specs.NormalForm.{normal_form}
use Rattle.leo_terms.specs.Normal.{HasNormalForm}
use Rattle.leo_terms.specs.Contents.{Contents, IsBank, Extends, IsArrow, IsApplicable, type_at, tree_at, type_number}
use Rattle.leo_terms.proofs.Growth.{slice_get-some}
use Rattle.leo_terms.proofs.Making.{codomain_number-node}
use Rattle.leo_terms.proofs.CallerLemmas.{HasView, new_bank, tree-kept, type-shared, type_of-term, type_number-within, reads-var, reads-app, reads-base, reads-arrow, arrow-parts}
use Rattle.leo_clause.specs.declared.clause.Lit.{Lit}
use Rattle.leo_clause.specs.declared.clause.Clause.{Clause}
use Rattle.leo_clause.specs.Trees.{Literal, ClauseTree, literal_at, clause_at}
use Rattle.leo_clause.specs.Typed.{AreTypesOf}
use Rattle.leo_kernel.specs.declared.chosen_shown.Shown.{Shown}
use Rattle.leo_kernel.specs.declared.chosen_shown.Shown.TheVariants as shown
use Rattle.leo_kernel.specs.Choosing.{Claim, value, difference, SpeaksOf, applied_to, IsVariableOf, AreVariablesOf}
use Rattle.leo_kernel.specs.ChosenShown.{IsShown, IsExtended, ShowsSymbol, ShowsClaim}
use Rattle.leo_kernel.proofs.Lists.{get-map, get-mapped, get-none}
use Rattle.leo_kernel.proofs.Numbers.{types-at}
use Rattle.leo_kernel.proofs.TypedLits.{no, not-both}
use Rattle.leo_kernel.proofs.TypeRules.{types-decide}
use Rattle.leo_kernel.proofs.PlainRules.{terms-decide}
use Rattle.leo_kernel.proofs.FormRules.{kept-within}

-- variables of a clause
module _ (c : Contents) (b : IsBank c) (vars : List ℕ) where
  pub variable-past : (t n : ℕ) → HasView c t (Var n) → length vars ≤ n → Decides false (IsVariableOf (map (type_at c) vars) (tree_at c t))
  variable-past t n v l =
      let e : slice_get (map (type_at c) vars) n ≡ None = get-map (type_at c) vars n ∙ rw (get-none vars n l) refl in
      rw (reads-var b t n v) (no (λ h. none-some (type_at c (type_number c t)) (sym e ∙ h)))
    where
      none-some : (a : SimpleType) → None ≡ Some a → ⊥
      none-some a e = cc

  pub variable-there : AreTypesOf c vars → (t n x i : ℕ) → t < length c.terms → HasView c t (Var n) → n < length vars → x ≡ slice_index_or vars n x → i ≡ type_number c t → (r : Bool) → r ≡ nat_eq x i → Decides r (IsVariableOf (map (type_at c) vars) (tree_at c t))
  variable-there types t n x i w v l e f r g =
      let h : slice_get (map (type_at c) vars) n ≡ Some (type_at c x) = get-mapped (type_at c) vars n x l e in
      let d : Decides r (type_at c x ≡ type_at c i) = types-decide c b x i (types-at c vars types n x l e) (rw f (type_number-within b t w)) r g in
      rw (reads-var b t n v) (Decides-like r (λ q. h ∙ ap Some (q ∙ ap (type_at c) f)) (λ q. some-type (type_at c x) (type_at c i) (sym h ∙ q ∙ ap Some (ap (type_at c) (sym f)))) d)
    where
      some-type : (x y : SimpleType) → Some x ≡ Some y → x ≡ y
      some-type x y e = cc

-- a term with one argument more
arrows : (x y u v : SimpleType) → arrow x y ≡ arrow u v → x ≡ u
arrows x y u v e = cc

app-applicable : (c : Contents) → IsBank c → (f x : ℕ) → f < length c.terms → x < length c.terms → IsWellTyped (app (tree_at c f) (tree_at c x)) → IsApplicable c f x
app-applicable c b f x l k w = (let s = slice_get-some c.types (type_number c f) (type_number-within b f l) in at s.0 s.1)
  where
    whole : type_at c (type_number c f) ≡ arrow (type_at c (type_number c x)) (codomain (type_of (tree_at c f)))
    whole = sym (type_of-term b f l) ∙ w.4 ∙ ap (λ a. arrow a (codomain (type_of (tree_at c f)))) (type_of-term b x k)

    at : (v : TyView) → slice_get c.types (type_number c f) ≡ Some v → IsApplicable c f x
    at (Base n) e = base-arrow n _ _ (sym (reads-base b (type_number c f) n e) ∙ whole)
      where
        base-arrow : (n : ℕ) (p q : SimpleType) → base n ≡ arrow p q → IsApplicable c f x
        base-arrow n p q e = cc
    at (Arrow i j) e =
        let h : IsArrow c (type_number c f) i j = record { arrow_node = e } in
        let p = arrow-parts b h in
        let m = p.0 in
        let n = p.1 in
        let same : i ≡ type_number c x = type-shared b i (type_number c x) (omega arith) (type_number-within b x k) (arrows _ _ _ _ (sym (reads-arrow b h) ∙ whole)) in
        record { arrow_node = rw (codomain_number-node c (type_number c f) i j e, ← same) e }

pub extended-untyped : (c : Contents) → IsBank c → (f x : ℕ) → f < length c.terms → x < length c.terms → (r : Bool) → (IsTrue r ↔ IsApplicable c f x) → r ≡ false → IsExtended c (tree_at c f) (tree_at c x) shown.Untyped
extended-untyped c b f x l k true h e = (let g : ⊥ = cc in absurd g)
extended-untyped c b f x l k false h e = λ w. (let g : false ≡ true = h.1 (app-applicable c b f x l k w) in let y : ⊥ = cc in absurd y)

-- the last argument
pub applied-end : (xs : List Tree) (t x : Tree) → applied_to t (xs ++ x ∷ []) ≡ app (applied_to t xs) x
applied-end [] t x = refl
applied-end (y ∷ xs) t x = applied-end xs (app t y) x

variables-end : (variables : List SimpleType) (xs : List Tree) (x : Tree) → AreVariablesOf variables xs → IsVariableOf variables x → AreVariablesOf variables (xs ++ x ∷ [])
variables-end variables [] x h k = (k, tt)
variables-end variables (y ∷ xs) x h k = (h.0, variables-end variables xs x h.1 k)

record Last (variables : List SimpleType) (s w : Tree) : Type 0 where
  before : List Tree
  last : Tree
  variables_of : AreVariablesOf variables before
  variable_of : IsVariableOf variables last
  whole : w ≡ app (applied_to s before) last

last-of : (variables : List SimpleType) (xs : List Tree) (s w : Tree) → AreVariablesOf variables xs → w ≡ applied_to s xs → (w ≡ s) ⊎ Last variables s w
last-of variables [] s w h e = inl e
last-of variables (x ∷ xs) s w h e =
    elim (last-of variables xs (app s x) w h.1 e) [
      | inl f ↦ inr (record { before = []; last = x; variables_of = tt; variable_of = h.0; whole = f })
      | inr k ↦ inr (record { before = x ∷ k.before; last = k.last; variables_of = (h.0, k.variables_of); variable_of = k.variable_of; whole = k.whole })
    ]

pub apps : (f x g y : Tree) → app f x ≡ app g y → (f ≡ g) × (x ≡ y)
apps f x g y e = (cc, cc)

module _ (c : Contents) (variables : List SimpleType) (s t w : Tree) where
  -- the symbol itself
  pub shown-itself : (u : ℕ) → u < length c.terms → tree_at c u ≡ t → w ≡ s → IsShown c variables t (ShowsSymbol s w) (shown.Term u)
  shown-itself u l e f = record { arguments = []; variables_of = tt; shows = f; within = l; reads = e }

  -- neither the symbol nor an application to a variable
  pub shows-nothing : (w ≡ s → ⊥) → ((f x : Tree) → w ≡ app f x → IsVariableOf variables x → ⊥) → IsShown c variables t (ShowsSymbol s w) shown.Nothing
  shows-nothing f g xs h e = elim (last-of variables xs s w h e) [ inl k ↦ f k | inr k ↦ g (applied_to s k.before) k.last k.whole k.variable_of ]

  pub shows-no_variable : (f x : Tree) → w ≡ app f x → (w ≡ s → ⊥) → (r : Bool) → Decides r (IsVariableOf variables x) → r ≡ false → IsShown c variables t (ShowsSymbol s w) shown.Nothing
  shows-no_variable f x e other r d n = shows-nothing other (λ g y h v. not-both r d n (rw (apps f x g y (sym e ∙ h)).1 v))

  module _ (f x : Tree) (whole : w ≡ app f x) (other : w ≡ s → ⊥) where
    pub shows-less : IsShown c variables t (ShowsSymbol s f) shown.Nothing → IsShown c variables t (ShowsSymbol s w) shown.Nothing
    shows-less h xs v e =
        elim (last-of variables xs s w v e) [
          | inl k ↦ other k
          | inr k ↦ h k.before k.variables_of (apps f x (applied_to s k.before) k.last (sym whole ∙ k.whole)).0
        ]

    ends : (xs : List Tree) → f ≡ applied_to s xs → w ≡ applied_to s (xs ++ x ∷ [])
    ends xs e = whole ∙ ap (λ y. app y x) e ∙ sym (applied-end xs s x)

    module _ (variable_of : IsVariableOf variables x) where
      pub shows-untyped : IsShown c variables t (ShowsSymbol s f) shown.Untyped → IsShown c variables t (ShowsSymbol s w) shown.Untyped
      shows-untyped h = record {
        arguments = h.arguments ++ x ∷ [];
        variables_of = variables-end variables h.arguments x h.variables_of variable_of;
        shows = ends h.arguments h.shows;
        untyped = λ k. h.untyped (rw (applied-end h.arguments t x) at k).0;
      }

      pub shows-extended : (d : Contents) (u : ℕ) → IsShown d variables t (ShowsSymbol s f) (shown.Term u) → (r : Shown) → IsExtended c (tree_at d u) x r → IsShown c variables t (ShowsSymbol s w) r
      shows-extended d u h shown.Nothing k = absurd k
      shows-extended d u h shown.Untyped k = record {
        arguments = h.arguments ++ x ∷ [];
        variables_of = variables-end variables h.arguments x h.variables_of variable_of;
        shows = ends h.arguments h.shows;
        untyped = λ y. k (rw (applied-end h.arguments t x, ← h.reads) at y);
      }
      shows-extended d u h (shown.Term v) k = record {
        arguments = h.arguments ++ x ∷ [];
        variables_of = variables-end variables h.arguments x h.variables_of variable_of;
        shows = ends h.arguments h.shows;
        within = k.0;
        reads = k.1 ∙ ap (λ y. app y x) h.reads ∙ sym (applied-end h.arguments t x);
      }

-- terms of a bank
pub other-term : (c : Contents) → IsBank c → (w s : ℕ) → w < length c.terms → s < length c.terms → (r : Bool) → r ≡ nat_eq w s → r ≡ false → tree_at c w ≡ tree_at c s → ⊥
other-term c b w s l k r e n h = not-both r (terms-decide c b w s l k r e) n h

pub same-term : (c : Contents) → IsBank c → (w s : ℕ) → w < length c.terms → s < length c.terms → (r : Bool) → r ≡ nat_eq w s → r ≡ true → tree_at c w ≡ tree_at c s
same-term c b w s l k r e y = (terms-decide c b w s l k r e).0 y

-- the same arguments are shown in other words
pub shown-like : (c : Contents) (variables : List SimpleType) (t : Tree) (S R : List Tree → Type 0) → ((xs : List Tree) → S xs → R xs) → ((xs : List Tree) → R xs → S xs) → (r : Shown) → IsShown c variables t S r → IsShown c variables t R r
shown-like c variables t S R f g shown.Nothing h = λ xs v k. h xs v (g xs k)
shown-like c variables t S R f g shown.Untyped h = record { arguments = h.arguments; variables_of = h.variables_of; shows = f h.arguments h.shows; untyped = h.untyped }
shown-like c variables t S R f g (shown.Term u) h = record { arguments = h.arguments; variables_of = h.variables_of; shows = f h.arguments h.shows; within = h.within; reads = h.reads }

pub speaks-once : (claim : Claim) (w v : Tree) (l : Literal) → SpeaksOf claim w l → SpeaksOf claim v l → w ≡ v
speaks-once (value a p x) w v l h k = (apps p w p v (sym h ∙ k)).1
speaks-once (difference a f g) w v l h k = (apps f w f v (sym h.0 ∙ k.0)).1

speaks-of : (claim : Claim) (w v : Tree) (l : Literal) → w ≡ v → SpeaksOf claim w l → SpeaksOf claim v l
speaks-of claim w v l e h = rw e at h

pub shown-claim : (c : Contents) (variables : List SimpleType) (t s w : Tree) (clause : ClauseTree) (i : ℕ) (claim : Claim) (l : Literal) → slice_get clause.literals i ≡ Some l → SpeaksOf claim w l → (r : Shown) → IsShown c variables t (ShowsSymbol s w) r → IsShown c variables t (ShowsClaim clause i claim s) r
shown-claim c variables t s w clause i claim l e h r k =
    shown-like c variables t (ShowsSymbol s w) (ShowsClaim clause i claim s)
    (λ xs f. rw e (speaks-of claim w (applied_to s xs) l f h))
    (λ xs f. (let g : SpeaksOf claim (applied_to s xs) l = rw e at f in speaks-once claim w (applied_to s xs) l h g))
    r k

pub unspoken-claim : (c : Contents) (variables : List SimpleType) (t s : Tree) (clause : ClauseTree) (i : ℕ) (claim : Claim) (l : Literal) → slice_get clause.literals i ≡ Some l → ((w : Tree) → SpeaksOf claim w l → ⊥) → IsShown c variables t (ShowsClaim clause i claim s) shown.Nothing
unspoken-claim c variables t s clause i claim l e h xs v f = h (applied_to s xs) (rw e at f)

pub no-claim : (c : Contents) (variables : List SimpleType) (t s : Tree) (clause : ClauseTree) (i : ℕ) (claim : Claim) → slice_get clause.literals i ≡ None → IsShown c variables t (ShowsClaim clause i claim s) shown.Nothing
no-claim c variables t s clause i claim e xs v f = (let g : ⊥ = rw e at f in g)

-- literals of a clause
pub literal-missing : (c : Contents) (k : Clause) (i : ℕ) → length k.lits ≤ i → slice_get (clause_at c k).literals i ≡ None
literal-missing c k i l = get-map (literal_at c) k.lits i ∙ rw (get-none k.lits i l) refl

pub literal-found : (c : Contents) (k : Clause) (i : ℕ) (l : Lit) → i < length k.lits → l ≡ slice_index_or k.lits i l → slice_get (clause_at c k).literals i ≡ Some (literal_at c l)
literal-found c k i l h e = get-mapped (literal_at c) k.lits i l h e

-- the argument of an application
module _ (c : Contents) (b : IsBank c) where
  pub argument-other : (t f g w : ℕ) → g < length c.terms → f < length c.terms → HasView c t (App g w) → (r : Bool) → r ≡ nat_eq g f → r ≡ false → (x : Tree) → tree_at c t ≡ app (tree_at c f) x → ⊥
  argument-other t f g w l k v r e n x h =
      not-both r (terms-decide c b g f l k r e) n (apps (tree_at c g) (tree_at c w) (tree_at c f) x (sym (reads-app b t g w v) ∙ h)).0

  pub argument-there : (t f g w : ℕ) → g < length c.terms → f < length c.terms → HasView c t (App g w) → (r : Bool) → r ≡ nat_eq g f → r ≡ true → tree_at c t ≡ app (tree_at c f) (tree_at c w)
  argument-there t f g w l k v r e y = reads-app b t g w v ∙ ap (λ x. app x (tree_at c w)) ((terms-decide c b g f l k r e).0 y)

  pub arguments-differ : (f s g t v w : ℕ) → v < length c.terms → w < length c.terms → tree_at c s ≡ app (tree_at c f) (tree_at c w) → tree_at c t ≡ app (tree_at c g) (tree_at c v) → (r : Bool) → r ≡ nat_eq v w → r ≡ false → (x : Tree) → (tree_at c s ≡ app (tree_at c f) x) × (tree_at c t ≡ app (tree_at c g) x) → ⊥
  arguments-differ f s g t v w l k d e r h n x p =
      not-both r (terms-decide c b v w l k r h) n ((apps (tree_at c g) (tree_at c v) (tree_at c g) x (sym e ∙ p.1)).1 ∙ sym (apps (tree_at c f) (tree_at c w) (tree_at c f) x (sym d ∙ p.0)).1)

-- type and normal form of a term
module _ (c : Contents) (b : IsBank c) (t m i form : ℕ) (l : t < length c.terms) (type_within : i < length c.types) (e : m ≡ type_number c t) where
  type-decides : (r : Bool) → r ≡ nat_eq m i → Decides r (type_of (tree_at c t) ≡ type_at c i)
  type-decides r f =
      let first : type_of (tree_at c t) ≡ type_at c m = type_of-term b t l ∙ ap (type_at c) (sym e) in
      Decides-like r (λ h. first ∙ h) (λ h. sym first ∙ h) (types-decide c b m i (rw e (type_number-within b t l)) type_within r f)

  pub other-type : (r : Bool) → r ≡ not (nat_eq m i) → r ≡ true → Decides false ((type_of (tree_at c t) ≡ type_at c i) × (normal_form (tree_at c t) ≡ tree_at c form))
  other-type r f g = no (λ h. not-both (nat_eq m i) (type-decides (nat_eq m i) refl) (flip (nat_eq m i) r f g) h.0)
    where
      flip : (x r : Bool) → r ≡ not x → r ≡ true → x ≡ false
      flip true r f g = (let h : ⊥ = cc in absurd h)
      flip false r f g = refl

  pub form-decides : (d : Contents) → Extends c d → form < length c.terms → (q : Bool) → q ≡ not (nat_eq m i) → q ≡ false → (n : ℕ) → HasNormalForm c d t n → (r : Bool) → r ≡ nat_eq n form → Decides r ((type_of (tree_at c t) ≡ type_at c i) × (normal_form (tree_at c t) ≡ tree_at c form))
  form-decides d g k q f x n h r y =
      let z = terms-decide d (new_bank g) n form h.within (kept-within g form k) r y in
      let same : type_of (tree_at c t) ≡ type_at c i = (type-decides (nat_eq m i) refl).0 (unflip (nat_eq m i) q f x) in
      Decides-like r (λ p. (same, sym h.value ∙ p ∙ tree-kept g form k)) (λ p. h.value ∙ p.1 ∙ sym (tree-kept g form k)) z
    where
      unflip : (x r : Bool) → r ≡ not x → r ≡ false → x ≡ true
      unflip true r f g = refl
      unflip false r f g = (let h : ⊥ = cc in absurd h)

-- the same arguments give the same term
variable-weight : (variables : List SimpleType) (x : Tree) → IsVariableOf variables x → tree_weight x ≡ 1
variable-weight variables (variable n a) h = refl
variable-weight variables (bound i a) h = absurd h
variable-weight variables (symbol n a) h = absurd h
variable-weight variables (app f x) h = absurd h
variable-weight variables (lam a t) h = absurd h
variable-weight variables (logic c x y) h = absurd h
variable-weight variables absent h = absurd h

applied-weight : (variables : List SimpleType) (xs : List Tree) (s : Tree) → AreVariablesOf variables xs → tree_weight (applied_to s xs) ≡ tree_weight s + length xs
applied-weight variables [] s h = omega arith
applied-weight variables (x ∷ xs) s h = let k = applied-weight variables xs (app s x) h.1 in let m = variable-weight variables x h.0 in omega arith

applied-parts : (xs ys : List Tree) (s t : Tree) → length xs ≡ length ys → applied_to s xs ≡ applied_to t ys → (s ≡ t) × (xs ≡ ys)
applied-parts [] [] s t l e = (e, refl)
applied-parts [] (y ∷ ys) s t l e = absurd (omega arith)
applied-parts (x ∷ xs) [] s t l e = absurd (omega arith)
applied-parts (x ∷ xs) (y ∷ ys) s t l e =
    let h = applied-parts xs ys (app s x) (app t y) (omega arith) e in
    let k = apps s x t y h.0 in
    (k.0, consed k.1 h.1)
  where
    consed : {a b : Tree} {us vs : List Tree} → a ≡ b → us ≡ vs → a ∷ us ≡ b ∷ vs
    consed {a} {b} {us} {vs} p q = rw (p, q) refl

pub same-arguments : (variables : List SimpleType) (xs ys : List Tree) (s : Tree) → AreVariablesOf variables xs → AreVariablesOf variables ys → applied_to s xs ≡ applied_to s ys → xs ≡ ys
same-arguments variables xs ys s h k e =
    let p = applied-weight variables xs s h in
    let q = applied-weight variables ys s k in
    let r = ap tree_weight e in
    (applied-parts xs ys s s (omega arith) e).1
