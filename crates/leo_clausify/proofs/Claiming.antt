-- A literal that becomes a claim about a chosen term is accepted.
use Rattle.std.proofs.Common.{ℕ, nat_eq, ◌≡◌, ◌+◌, Bool, true, false, List, [], ◌∷◌, ◌++◌, length, slice_get, Some, refl, sym, ◌∙◌, ap, subst, append-nil, arith}
use Rattle.std.specs.Bool.{if◌then◌else◌}
use Rattle.std.specs.List.{list_any}
use Rattle.std.proofs.lemmas.Option.{slice_get_within}
use Rattle.leo_q0.specs.Terms.{SimpleType, arrow}
use Rattle.leo_terms.specs.Tree.{codomain, truth_type, Tree, variable, bound, symbol, app, lam, logic, absent, type_of}
use Rattle.leo_terms.specs.Typing.{IsWellTyped, IsPresent}
use Rattle.leo_terms.proofs.CallerLemmas.{reduces_typed, normal_form-reduces, normal_form-normal}
use Rattle.leo_clause.specs.Arranging.{firsts, occurring}
use Rattle.leo_clause.specs.Choices.{Choice, symbol_of}
use Rattle.leo_clause.specs.Renaming.{AreBelow}
use Rattle.leo_clause.specs.Trees.{Literal, ClauseTree}
use Rattle.leo_clause.specs.Typed.{IsOver, IsTypedLiteral, IsTyped}
use Rattle.leo_clause.specs.declared.record.LogicKind.{LogicKind}
use Rattle.leo_clause.specs.declared.record.LogicKind.TheVariants as kind
use Rattle.leo_kernel.specs.Choosing.{Claim, value, Claims, all_f, some_t, claimed, chosen, applied_to, SpeaksOf, Fits}
use Rattle.leo_kernel.specs.Conclusions.{with_new, IsClaimed, LogicConcludes}
use Rattle.leo_kernel.specs.Shapes.{equal}
use Rattle.leo_kernel.specs.Steps.{Line, take_apart, clause_of, literal_of}
use Rattle.leo_kernel.specs.Symbols.{StandsFor, LogicHasSymbol, abbreviation_of}
use Rattle.leo_kernel.proofs.ChosenClauses.{claims-are, some-claim, placed}
use Rattle.leo_kernel.proofs.ChosenShowing.{speaks-once, same-arguments}
use Rattle.leo_clausify.specs.Choosing.{function_of, variables_of, chosen_form, closed_form, chosen_arguments}
use Rattle.leo_clausify.specs.Moves.{Descends}
use Rattle.leo_clausify.specs.Ways.{kind_chosen}
use Rattle.leo_clausify.proofs.Applying.{IsGood, function-type, function-applied, function-good, applied-typed, terms-variables, applied-over}
use Rattle.leo_clausify.proofs.Following.{there, literal-there, literal-within, value-typed}
use Rattle.leo_clausify.proofs.Origins.{claim-from, literal-at, placed-from, said-from}
use Rattle.leo_clausify.proofs.Placing.{no-fresh, typed-placed}
use Rattle.leo_clausify.proofs.Reducts.{over-lifted, over-normal, normal-typed, normal-type}

-- the variables of a term over variables
below-append : (n : ℕ) (xs ys : List ℕ) → AreBelow n xs → AreBelow n ys → AreBelow n (xs ++ ys)
below-append n [] ys h g = g
below-append n (x ∷ xs) ys h g = (h.0, below-append n xs ys h.1 g)

below-over : (variables : List SimpleType) (depth : ℕ) (t : Tree) → IsOver variables depth t → AreBelow (length variables) (occurring t)
below-over variables depth (variable n a) o = (slice_get_within variables n a o, tt)
below-over variables depth (bound i a) o = tt
below-over variables depth (symbol s a) o = tt
below-over variables depth (app f x) o = below-append (length variables) (occurring f) (occurring x) (below-over variables depth f o.0) (below-over variables depth x o.1)
below-over variables depth (lam a t) o = below-over variables (depth + 1) t o
below-over variables depth (logic c x y) o = below-append (length variables) (occurring x) (occurring y) (below-over variables depth x o.0) (below-over variables depth y o.1)
below-over variables depth absent o = tt

below-if : (m : ℕ) (b : Bool) (xs ys : List ℕ) → AreBelow m xs → AreBelow m ys → AreBelow m (if b then xs else ys)
below-if m true xs ys p q = p
below-if m false xs ys p q = q

below-firsts : (m : ℕ) (ns seen : List ℕ) → AreBelow m seen → AreBelow m ns → AreBelow m (firsts nat_eq seen ns)
below-firsts m [] seen s t = s
below-firsts m (n ∷ ns) seen s t = below-if m (list_any (nat_eq n) seen) (firsts nat_eq seen ns) (firsts nat_eq (seen ++ n ∷ []) ns) (below-firsts m ns seen s t.1) (below-firsts m ns (seen ++ n ∷ []) (below-append m seen (n ∷ []) s (t.0, tt)) t.1)

pub variables-below : (variables : List SimpleType) (t : Tree) → IsOver variables 0 t → AreBelow (length variables) (variables_of t)
variables-below variables t o = below-firsts (length variables) (occurring t) [] tt (below-over variables 0 t o)

-- the chosen term
pub chosen-over : (variables : List SimpleType) (c : SimpleType) (p : Tree) (v : Bool) → IsOver variables 0 p → IsOver variables 0 (chosen (value c p v))
chosen-over variables c p true o = (o, tt)
chosen-over variables c p false o = (((over-lifted variables p 0 0 1 (0 + 1) refl o, omega arith), tt), tt)

chosen-present : (c : SimpleType) (p : Tree) (v : Bool) → IsPresent (chosen (value c p v))
chosen-present c p true = tt
chosen-present c p false = tt

chosen-type : (c : SimpleType) (p : Tree) (v : Bool) → type_of (chosen (value c p v)) ≡ c
chosen-type c p true = refl
chosen-type c p false = refl

module _ (variables : List SimpleType) (c : SimpleType) (p : Tree) (v : Bool) (over : IsOver variables 0 p) (typed : IsWellTyped (chosen (value c p v))) where
  pub form-good : IsGood variables (chosen_form (value c p v))
  form-good = record {
    normal = normal_form-normal (chosen (value c p v)) typed;
    typed = normal-typed (chosen (value c p v)) typed;
    present = (reduces_typed (chosen (value c p v)) (chosen_form (value c p v)) (normal_form-reduces (chosen (value c p v)) typed) typed).1.0 (chosen-present c p v);
    over = over-normal variables (chosen (value c p v)) 0 typed (chosen-over variables c p v over);
  }

  pub form-type : type_of (chosen_form (value c p v)) ≡ c
  form-type = normal-type (chosen (value c p v)) typed ∙ chosen-type c p v

  pub form-below : AreBelow (length variables) (variables_of (chosen_form (value c p v)))
  form-below = variables-below variables (chosen_form (value c p v)) form-good.over

  -- the closed term with the variables as arguments fits
  pub closed-fits : Fits variables (value c p v) (closed_form variables (value c p v)) (chosen_arguments variables (value c p v))
  closed-fits =
      let e = chosen_form (value c p v) in
      let ns = variables_of e in
      let f = function-good variables ns e form-below form-good in
      let a = applied-typed variables ns (function_of variables ns e) (type_of e) f.typed f.present (function-type variables ns e) in
      record {
        variables_of = terms-variables variables ns form-below;
        typed = a.0;
        type_is = a.1 ∙ form-type;
        same_form = function-applied variables ns e form-below form-good;
      }

-- a claim is one literal
claim-once : (k : LogicKind) (l : Literal) (x y : Claim) → Claims k l x → Claims k l y → x ≡ y
claim-once k l x y h g = some-claim x y (sym (claims-are k l x h) ∙ claims-are k l y g)

-- the parts of the literal
pub claim-parts : (variables : List SimpleType) (c : SimpleType) (p : Tree) (v : Bool) (l : Literal) → Claims (kind_chosen v) l (value c p v) → IsTypedLiteral variables l → IsWellTyped l.left → IsOver variables 0 p × (type_of p ≡ arrow c truth_type)
claim-parts variables c p true l (some_t d q) h w = (h.left_over.0, w.2.0.1)
claim-parts variables c p false l (all_f d q) h w = (h.left_over.0, w.2.0.1)

module _ (parent : ClauseTree) (i : ℕ) (c : SimpleType) (p : Tree) (v : Bool) (l : Literal) (e : slice_get parent.literals i ≡ Some l) (typed : IsTyped parent) (over : IsOver parent.variables 0 p) (function : type_of p ≡ arrow c truth_type) (chosen_typed : IsWellTyped (chosen (value c p v))) (k : Choice) (is : k.term ≡ closed_form parent.variables (value c p v)) where
  abbrev argument : List Tree
  argument = chosen_arguments parent.variables (value c p v)

  abbrev said : Literal
  said = claimed (value c p v) (applied_to (symbol_of k) argument)

  abbrev concluded : ClauseTree
  concluded = with_new parent i [] (said ∷ [])

  pub said-typed : IsTypedLiteral parent.variables said
  said-typed = value-typed parent.variables (app p (applied_to (symbol_of k) argument)) v (over, applied-over parent.variables (variables_of (chosen_form (value c p v))) (symbol_of k) (form-below parent.variables c p v over chosen_typed) tt) (ap codomain function)

  pub concluded-typed : IsTyped concluded
  concluded-typed = typed-placed parent i [] (said ∷ []) typed (no-fresh parent.variables (said ∷ []) (said-typed, tt))

  fits-here : Fits (parent.variables ++ []) (value c p v) k.term argument
  fits-here = subst (λ (vs : List SimpleType). Fits vs (value c p v) k.term argument) (sym (append-nil parent.variables))
      (subst (λ (t : Tree). Fits parent.variables (value c p v) t argument) (sym is) (closed-fits parent.variables c p v over chosen_typed))

  stands : StandsFor concluded i (value c p v) (equal (symbol_of k) k.term)
  stands = record {
    may_fit = record { arguments = argument; fits = fits-here };
    fits_there = λ j xs f speaks vars.
        let g : slice_get concluded.literals i ≡ Some said = placed parent.literals i said (slice_get_within parent.literals i l e) in
        let h : said ≡ j = (let m : Some said ≡ Some j = sym g ∙ f in cc) in
        let here : SpeaksOf (value c p v) (applied_to (symbol_of k) argument) j = rw (← h) refl in
        let same : applied_to (symbol_of k) xs ≡ applied_to (symbol_of k) argument = speaks-once (value c p v) (applied_to (symbol_of k) xs) (applied_to (symbol_of k) argument) j speaks here in
        let all : xs ≡ argument = same-arguments (parent.variables ++ []) xs argument (symbol_of k) vars fits-here.variables_of same in
        subst (λ (ys : List Tree). Fits (parent.variables ++ []) (value c p v) k.term ys) (sym all) fits-here;
  }

  stands-for : (claim : Claim) → value c p v ≡ claim → StandsFor concluded i claim (equal (symbol_of k) k.term)
  stands-for claim h = subst (λ (x : Claim). StandsFor concluded i x (equal (symbol_of k) k.term)) h stands

  is-claimed : (Becomes : Claim → Type 0) → Becomes (value c p v) → IsClaimed parent i Becomes (equal (symbol_of k) k.term) concluded
  is-claimed Becomes h = record { claim = value c p v; becomes = h; arguments = argument; fits = fits-here; concluded = refl }

  has-symbol : (lines : List Line) (n : ℕ) (w : Bool) → v ≡ w → abbreviation_of lines n ≡ Some (equal (symbol_of k) k.term) → Claims (kind_chosen w) l (value c p v) → LogicHasSymbol lines concluded i (Some n) l (kind_chosen w)
  has-symbol lines n true f a h = there (abbreviation_of lines n) (equal (symbol_of k) k.term) (λ s. (claim : Claim) → Claims kind.SomeT l claim → StandsFor concluded i claim s) a (λ claim g. stands-for claim (claim-once kind.SomeT l (value c p v) claim h g))
  has-symbol lines n false f a h = there (abbreviation_of lines n) (equal (symbol_of k) k.term) (λ s. (claim : Claim) → Claims kind.AllF l claim → StandsFor concluded i claim s) a (λ claim g. stands-for claim (claim-once kind.AllF l (value c p v) claim h g))

  concludes : (lines : List Line) (n : ℕ) (w : Bool) → v ≡ w → abbreviation_of lines n ≡ Some (equal (symbol_of k) k.term) → Claims (kind_chosen w) l (value c p v) → LogicConcludes lines parent i (Some n) l (kind_chosen w) concluded
  concludes lines n true f a h = there (abbreviation_of lines n) (equal (symbol_of k) k.term) (λ s. IsClaimed parent i (Claims kind.SomeT l) s concluded) a (is-claimed (Claims kind.SomeT l) h)
  concludes lines n false f a h = there (abbreviation_of lines n) (equal (symbol_of k) k.term) (λ s. IsClaimed parent i (Claims kind.AllF l) s concluded) a (is-claimed (Claims kind.AllF l) h)

  pub claim-follows : (choices : List Choice) (n : ℕ) → slice_get choices n ≡ Some k → Claims (kind_chosen v) l (value c p v) → Descends choices parent (record { clause = concluded; rule = λ q. take_apart q i (kind_chosen v) (Some n) })
  claim-follows choices n at h = record {
    follows = record {
      accepted = λ lines q within same given. record {
        parents = (within, given.within n k at);
        literals = literal-within lines q i parent l same e;
        place = tt;
        types = record { clause_typed = concluded-typed; rule_typed = tt };
        symbols = there (literal_of lines q i) l (λ j. LogicHasSymbol lines concluded i (Some n) j (kind_chosen v)) (literal-there lines q i parent l same e) (has-symbol lines n v refl (given.abbreviated n k at) h);
        shape = there (literal_of lines q i) l (λ j. LogicConcludes lines (clause_of lines q) i (Some n) j (kind_chosen v) concluded) (literal-there lines q i parent l same e) (rw same (concludes lines n v refl (given.abbreviated n k at) h));
      };
    };
    origin = λ o z g j q.
        let side = literal-at o z parent.literals i l g.1 e in
        let parts = claim-from o z (kind_chosen v) l c p v h side.0 in
        (placed-from o z parent i [] (said ∷ []) g tt (said-from o z parent.variables c p v k g.0 parts.1 (j n k at)), tt);
  }
