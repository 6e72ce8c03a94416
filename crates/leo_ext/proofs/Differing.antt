-- `f w ≠ g w` for `f ≠ g`, where w is a symbol for a closed term with variables, is accepted.
use Rattle.std.proofs.Common.{ℕ, ◌≡◌, ◌+◌, Bool, true, false, List, [], ◌∷◌, ◌++◌, length, slice_get, Some, refl, sym, ◌∙◌, ap, subst, append-nil, arith}
use Rattle.std.proofs.lemmas.Option.{slice_get_within}
use Rattle.leo_q0.specs.Terms.{SimpleType, base, arrow}
use Rattle.leo_terms.specs.Tree.{codomain, Tree, variable, bound, symbol, app, lam, logic, absent, type_of, lifted}
use Rattle.leo_terms.specs.Typing.{IsWellTyped, IsPresent}
use Rattle.leo_terms.proofs.CallerLemmas.{reduces_typed, normal_form-reduces, normal_form-normal}
use Rattle.leo_terms.proofs.ReductionLemmas.{IsBoundAt-gap}
use Rattle.leo_terms.proofs.TreeLemmas.{type_of-lifted}
use Rattle.leo_terms.proofs.TypingLemmas.{IsPresent-lifted, IsWellTyped-lifted}
use Rattle.leo_clause.specs.Choices.{Choice, symbol_of}
use Rattle.leo_clause.specs.Renaming.{AreBelow}
use Rattle.leo_clause.specs.Trees.{Literal, ClauseTree}
use Rattle.leo_clause.specs.Typed.{IsOver, IsTypedLiteral, IsTyped}
use Rattle.leo_kernel.specs.Choosing.{Claim, difference, claimed, chosen, difference_in, applied_to, SpeaksOf, Fits}
use Rattle.leo_kernel.specs.Conclusions.{with_new, IsClaimed, FuncExtConcludes}
use Rattle.leo_kernel.specs.Shapes.{equal, literal_type, domain, IsArrowType}
use Rattle.leo_kernel.specs.Steps.{Line, func_ext, clause_of, literal_of}
use Rattle.leo_kernel.specs.Symbols.{StandsFor, FuncExtHasSymbol, abbreviation_of}
use Rattle.leo_kernel.proofs.ChosenClauses.{placed}
use Rattle.leo_kernel.proofs.ChosenShowing.{speaks-once, same-arguments}
use Rattle.leo_clausify.specs.Choosing.{function_of, variables_of, chosen_form, closed_form, chosen_arguments}
use Rattle.leo_clausify.specs.Moves.{Follows}
use Rattle.leo_clausify.proofs.Applying.{IsGood, function-type, function-applied, function-good, applied-typed, terms-variables, applied-over}
use Rattle.leo_clausify.proofs.Claiming.{variables-below}
use Rattle.leo_clausify.proofs.Following.{there, literal-there, literal-within}
use Rattle.leo_clausify.proofs.Placing.{no-fresh, typed-placed, typed-at}
use Rattle.leo_clausify.proofs.Reducts.{over-lifted, over-normal, normal-typed, normal-type}
use Rattle.leo_ext.specs.Members.{is_arrow}
use Rattle.leo_ext.proofs.Concluding.{arrow-type}

module _ (variables : List SimpleType) (c : SimpleType) (f g : Tree) (left : IsOver variables 0 f) (right : IsOver variables 0 g) (typed : IsWellTyped (chosen (difference c f g))) where
  pub chosen-over : IsOver variables 0 (chosen (difference c f g))
  chosen-over = ((((over-lifted variables f 0 0 1 (0 + 1) refl left, omega arith), (over-lifted variables g 0 0 1 (0 + 1) refl right, omega arith)), tt), tt)

  pub form-good : IsGood variables (chosen_form (difference c f g))
  form-good = record {
    normal = normal_form-normal (chosen (difference c f g)) typed;
    typed = normal-typed (chosen (difference c f g)) typed;
    present = (reduces_typed (chosen (difference c f g)) (chosen_form (difference c f g)) (normal_form-reduces (chosen (difference c f g)) typed) typed).1.0 tt;
    over = over-normal variables (chosen (difference c f g)) 0 typed chosen-over;
  }

  pub form-type : type_of (chosen_form (difference c f g)) ≡ c
  form-type = normal-type (chosen (difference c f g)) typed

  pub form-below : AreBelow (length variables) (variables_of (chosen_form (difference c f g)))
  form-below = variables-below variables (chosen_form (difference c f g)) form-good.over

  -- the closed term with the variables as arguments fits
  pub closed-fits : Fits variables (difference c f g) (closed_form variables (difference c f g)) (chosen_arguments variables (difference c f g))
  closed-fits =
      let e = chosen_form (difference c f g) in
      let ns = variables_of e in
      let h = function-good variables ns e form-below form-good in
      let a = applied-typed variables ns (function_of variables ns e) (type_of e) h.typed h.present (function-type variables ns e) in
      record {
        variables_of = terms-variables variables ns form-below;
        typed = a.0;
        type_is = a.1 ∙ form-type;
        same_form = function-applied variables ns e form-below form-good;
      }

-- a term with its symbol and all the variables has the type of the chosen one
applied-type : (variables : List SimpleType) (ns : List ℕ) (s t : Tree) (a : SimpleType) → type_of s ≡ type_of t → type_of (applied_to t (Rattle.leo_clausify.specs.Choosing.variable_terms variables ns)) ≡ a → type_of (applied_to s (Rattle.leo_clausify.specs.Choosing.variable_terms variables ns)) ≡ a
applied-type variables [] s t a e h = e ∙ h
applied-type variables (n ∷ ns) s t a e h = applied-type variables ns (app s _) (app t _) a (ap codomain e) h

module _ (parent : ClauseTree) (i : ℕ) (l : Literal) (e : slice_get parent.literals i ≡ Some l) (typed : IsTyped parent) (function : is_arrow (literal_type l) ≡ true) (negative : l.positive ≡ false) (chosen_typed : IsWellTyped (chosen (difference_in l))) (k : Choice) (is : k.term ≡ closed_form parent.variables (difference_in l)) where
  abbrev claim : Claim
  claim = difference_in l

  abbrev argument : List Tree
  argument = chosen_arguments parent.variables claim

  abbrev said : Literal
  said = claimed claim (applied_to (symbol_of k) argument)

  abbrev concluded : ClauseTree
  concluded = with_new parent i [] (said ∷ [])

  sides : IsTypedLiteral parent.variables l
  sides = typed-at parent.variables parent.literals i l typed e

  below : AreBelow (length parent.variables) (variables_of (chosen_form claim))
  below = form-below parent.variables (domain (literal_type l)) l.left l.right sides.left_over sides.right_over chosen_typed

  argument-over : IsOver parent.variables 0 (applied_to (symbol_of k) argument)
  argument-over = applied-over parent.variables (variables_of (chosen_form claim)) (symbol_of k) below tt

  said-typed : IsTypedLiteral parent.variables said
  said-typed = record { left_over = (sides.left_over, argument-over); right_over = (sides.right_over, argument-over); same_type = ap codomain sides.same_type }

  concluded-typed : IsTyped concluded
  concluded-typed = typed-placed parent i [] (said ∷ []) typed (no-fresh parent.variables (said ∷ []) (said-typed, tt))

  fits-here : Fits (parent.variables ++ []) claim k.term argument
  fits-here = subst (λ (vs : List SimpleType). Fits vs claim k.term argument) (sym (append-nil parent.variables))
      (subst (λ (t : Tree). Fits parent.variables claim t argument) (sym is) (closed-fits parent.variables (domain (literal_type l)) l.left l.right sides.left_over sides.right_over chosen_typed))

  stands : StandsFor concluded i claim (equal (symbol_of k) k.term)
  stands = record {
    may_fit = record { arguments = argument; fits = fits-here };
    fits_there = λ j xs f speaks vars.
        let g : slice_get concluded.literals i ≡ Some said = placed parent.literals i said (slice_get_within parent.literals i l e) in
        let h : said ≡ j = (let m : Some said ≡ Some j = sym g ∙ f in cc) in
        let here : SpeaksOf claim (applied_to (symbol_of k) argument) j = rw (← h) (refl, refl) in
        let same : applied_to (symbol_of k) xs ≡ applied_to (symbol_of k) argument = speaks-once claim (applied_to (symbol_of k) xs) (applied_to (symbol_of k) argument) j speaks here in
        let all : xs ≡ argument = same-arguments (parent.variables ++ []) xs argument (symbol_of k) vars fits-here.variables_of same in
        subst (λ (ys : List Tree). Fits (parent.variables ++ []) claim k.term ys) (sym all) fits-here;
  }

  has-symbol : (lines : List Line) (n : ℕ) (b : Bool) → b ≡ false → abbreviation_of lines n ≡ Some (equal (symbol_of k) k.term) → FuncExtHasSymbol lines concluded i (Some n) l b
  has-symbol lines n true f a = (let z : ⊥ = cc in absurd z)
  has-symbol lines n false f a = there (abbreviation_of lines n) (equal (symbol_of k) k.term) (λ s. (other : Claim) → other ≡ difference_in l → StandsFor concluded i other s) a (λ other g. subst (λ (x : Claim). StandsFor concluded i x (equal (symbol_of k) k.term)) (sym g) stands)

  is-claimed : IsClaimed parent i (λ other. other ≡ difference_in l) (equal (symbol_of k) k.term) concluded
  is-claimed = record { claim = claim; becomes = refl; arguments = argument; fits = fits-here; concluded = refl }

  concludes : (lines : List Line) (n : ℕ) (b : Bool) → b ≡ false → abbreviation_of lines n ≡ Some (equal (symbol_of k) k.term) → FuncExtConcludes lines parent i (Some n) l b concluded
  concludes lines n true f a = (let z : ⊥ = cc in absurd z)
  concludes lines n false f a = there (abbreviation_of lines n) (equal (symbol_of k) k.term) (λ s. IsClaimed parent i (λ other. other ≡ difference_in l) s concluded) a is-claimed

  pub difference-follows : (choices : List Choice) (n : ℕ) → slice_get choices n ≡ Some k → Follows choices parent (record { clause = concluded; rule = λ q. func_ext q i (Some n) })
  difference-follows choices n at = record {
    accepted = λ lines q within same given. record {
      parents = (within, given.within n k at);
      literals = literal-within lines q i parent l same e;
      place = tt;
      types = record {
        clause_typed = concluded-typed;
        rule_typed = there (literal_of lines q i) l (λ j. IsArrowType (literal_type j) × (type_of j.left ≡ type_of j.right)) (literal-there lines q i parent l same e) (arrow-type (literal_type l) function, sides.same_type);
      };
      symbols = there (literal_of lines q i) l (λ j. FuncExtHasSymbol lines concluded i (Some n) j j.positive) (literal-there lines q i parent l same e) (has-symbol lines n l.positive negative (given.abbreviated n k at));
      shape = there (literal_of lines q i) l (λ j. FuncExtConcludes lines (clause_of lines q) i (Some n) j j.positive concluded) (literal-there lines q i parent l same e) (rw same (concludes lines n l.positive negative (given.abbreviated n k at)));
    };
  }

-- the chosen term is well typed
present-function : (t : Tree) → is_arrow (type_of t) ≡ true → IsPresent t
present-function (variable n a) e = tt
present-function (bound i a) e = tt
present-function (symbol s a) e = tt
present-function (app f x) e = tt
present-function (lam a t) e = tt
present-function (logic c x y) e = tt
present-function absent e = (let f : ⊥ = cc in f)

arrow-parts : (a : SimpleType) → is_arrow a ≡ true → a ≡ arrow (domain a) (codomain a)
arrow-parts (base n) e = (let f : ⊥ = cc in absurd f)
arrow-parts (arrow a b) e = refl

inside-well : (a : SimpleType) (f : Tree) → IsWellTyped f → type_of f ≡ a → is_arrow a ≡ true → IsWellTyped (app (lifted 0 1 f) (bound 0 (domain a))) × (type_of (app (lifted 0 1 f) (bound 0 (domain a))) ≡ codomain a)
inside-well a f w e h =
    let t : type_of (lifted 0 1 f) ≡ a = type_of-lifted f 0 1 ∙ e in
    ((IsWellTyped-lifted f 0 1 w, tt, IsPresent-lifted f 0 1 (present-function f (ap is_arrow e ∙ h)), tt, t ∙ arrow-parts a h ∙ ap (arrow (domain a)) (ap codomain (sym t))), ap codomain t)

pub difference-well : (l : Literal) → IsWellTyped l.left → IsWellTyped l.right → type_of l.left ≡ type_of l.right → is_arrow (literal_type l) ≡ true → IsWellTyped (chosen (difference_in l))
difference-well l left right same function =
    let a = literal_type l in
    let f = inside-well a l.left left refl function in
    let g = inside-well a l.right right (sym same) function in
    let b = IsBoundAt-gap l.left 0 0 1 (domain a) (omega arith) (omega arith) in
    let c = IsBoundAt-gap l.right 0 0 1 (domain a) (omega arith) (omega arith) in
    ((((f.0, g.0, ((tt, f.1), (tt, g.1))), tt, ((tt, refl), refl)), tt, (((b, λ _. refl), (c, λ _. refl)), tt)), tt, ((tt, refl), refl))
