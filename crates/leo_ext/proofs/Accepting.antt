-- The lines of each member are accepted.
use Rattle.std.proofs.Common.{ℕ, zero, suc, nat_eq, nat_lt, ◌≡◌, ◌<◌, ◌+◌, Bool, true, false, not, ◌&&◌, ◌||◌, List, [], ◌∷◌, ◌++◌, length, map, slice_get, Some, refl, sym, ◌∙◌, ap, subst, arith}
use Rattle.std.specs.List.{flat_map}
use Rattle.std.proofs.lemmas.Bool.{and_parts}
use Rattle.std.proofs.lemmas.Bool.Decides.{nat_tests}
use Rattle.std.proofs.lemmas.List.{length-append}
use Rattle.leo_q0.specs.Terms.{SimpleType, same_type}
use Rattle.leo_q0.proofs.Variables.{equal_types}
use Rattle.leo_terms.specs.Facts.{loose_range}
use Rattle.leo_terms.specs.Tree.{Tree, variable, bound, symbol, app, lam, logic, absent, Connective, truth, falsity, negation, disjunction, conjunction, implication, equality, universal, existential, choice, truth_type, type_of}
use Rattle.leo_terms.specs.Typing.{IsWellTyped}
use Rattle.leo_terms.proofs.ListLemmas.{slice_get-append}
use Rattle.leo_clause.specs.declared.record.Half.TheVariants.{One, Two}
use Rattle.leo_clause.specs.declared.record.Side.{Side}
use Rattle.leo_clause.specs.declared.record.Side.TheVariants.{Left, Right}
use Rattle.leo_clause.specs.Choices.{Choice}
use Rattle.leo_clause.specs.Sameness.{same_tree}
use Rattle.leo_clause.specs.Trees.{Literal, ClauseTree}
use Rattle.leo_clause.specs.Typed.{IsOver, IsTyped}
use Rattle.leo_clause.proofs.Same.{equal-trees}
use Rattle.leo_kernel.specs.Acceptance.{AreAcceptedAfter}
use Rattle.leo_kernel.specs.Conclusions.{with_new, choice_clause}
use Rattle.leo_kernel.specs.Shapes.{truth_tree, valued, side_of, literal_type}
use Rattle.leo_kernel.specs.Steps.{StepRule, Line, clause_of, clause_in, choose}
use Rattle.leo_kernel.specs.Symbols.{abbreviation_at}
use Rattle.leo_clausify.specs.Branches.{Precedes}
use Rattle.leo_clausify.specs.Leaves.{choice_line, first_lines}
use Rattle.leo_clausify.specs.Moves.{TreeStep, HaveChoices, Follows, IsChain, lines_after}
use Rattle.leo_clausify.specs.Choosing.{Chooses, earliest, added, closed_form}
use Rattle.leo_clausify.specs.Splitting.{turned}
use Rattle.leo_clausify.proofs.Chains.{chain-accepted}
use Rattle.leo_clausify.proofs.ClosedForms.{chooses-term}
use Rattle.leo_clausify.proofs.Branching.{get-map}
use Rattle.leo_clausify.proofs.Following.{turned-follows, turned-typed, value-typed}
use Rattle.leo_clausify.proofs.Giving.{length-map}
use Rattle.leo_clausify.proofs.Placing.{no-fresh, typed-at, typed-placed}
use Rattle.leo_kernel.proofs.ChosenClauses.{placed}
use Rattle.std.proofs.lemmas.Option.{slice_get_within}
use Rattle.leo_para.specs.Members.{is_formula, used_sides}
use Rattle.leo_para.specs.Places.{Place, places}
use Rattle.leo_para.specs.Spines.{head, heads_meet}
use Rattle.leo_ext.specs.Binding.{argument_types, bindings}
use Rattle.leo_ext.specs.Members.{Member, alone, resolve_members, resolve_at, factor_members, factor_at, factor_with, factor_as_it_is, factor_turned, may_be_one, are_alike, with_turned, bool_ext_members, bool_ext_at, primitive_members, primitive_at, primitive_for, primitive_by, primitive_member, choice_members, choice_at, choice_in, choice_for, choice_with, choice_member, is_arrow}
use Rattle.leo_ext.specs.Unary.{FuncExts, done, other, equal_functions, different_functions, AreUnary}
use Rattle.leo_ext.specs.Laws.{AreWellTyped, UnaryMembersAreAccepted}
use Rattle.leo_ext.proofs.Each.{Each, each-at, each-append, each-map, each-flat_map, each-all, each-weaker, each-if, each-unless, each-literals}
use Rattle.leo_ext.proofs.Concluding.{itself-follows, case-follows, equal-follows, factor-follows}
use Rattle.leo_ext.proofs.Instances.{over-range, lifted-over, instance-follows}
use Rattle.leo_ext.proofs.Parts.{IsPart, part-head, place-parts, given_last, head-last}
use Rattle.leo_ext.proofs.Bindings.{IsTruthBinding, bindings-good, given-good}
use Rattle.leo_ext.proofs.Differing.{difference-follows, difference-well}

-- the lines of a member are steps from the clause
pub record IsLed (choices : List Choice) (p : ℕ) (c : ClauseTree) (m : Member) : Type 0 where
  pub steps : List TreeStep
  pub end : ClauseTree
  pub chain : IsChain choices c steps end
  pub are : m.lines ≡ lines_after p steps

one-step : (choices : List Choice) (p : ℕ) (c : ClauseTree) (s : TreeStep) (pairs : List ℕ) → Follows choices c s → IsLed choices p c (record { lines = record { clause = s.clause; rule = s.rule p } ∷ []; pairs = pairs })
one-step choices p c s pairs h = record { steps = s ∷ []; end = s.clause; chain = (h, refl); are = refl }

two-steps : (choices : List Choice) (p q : ℕ) (c : ClauseTree) (s t : TreeStep) (pairs : List ℕ) → q ≡ p + 1 → Follows choices c s → Follows choices s.clause t → IsLed choices p c (record { lines = record { clause = s.clause; rule = s.rule p } ∷ record { clause = t.clause; rule = t.rule q } ∷ []; pairs = pairs })
two-steps choices p q c s t pairs e h g = record { steps = s ∷ t ∷ []; end = t.clause; chain = (h, (g, refl)); are = rw e refl }

-- formula literals
truth-type : (v : Bool) → type_of (truth_tree v) ≡ truth_type
truth-type true = refl
truth-type false = refl

or-type : (t : Tree) (a b : Bool) → same_tree t (truth_tree true) ≡ a → same_tree t (truth_tree false) ≡ b → (a || b) ≡ true → type_of t ≡ truth_type
or-type t true b e f h = ap type_of (equal-trees t (truth_tree true) e)
or-type t false true e f h = ap type_of (equal-trees t (truth_tree false) f)
or-type t false false e f h = (let z : ⊥ = cc in absurd z)

pub formula-type : (l : Literal) → is_formula l ≡ true → type_of l.right ≡ truth_type
formula-type l h = or-type l.right (same_tree l.right (truth_tree true)) (same_tree l.right (truth_tree false)) refl refl h

-- lists
at-end : (xs : List SimpleType) (x : SimpleType) → slice_get (xs ++ x ∷ []) (length xs) ≡ Some x
at-end [] x = refl
at-end (y ∷ xs) x = at-end xs x

well-at : (ls : List Literal) (i : ℕ) (l : Literal) → AreWellTyped ls → slice_get ls i ≡ Some l → IsWellTyped l.left × IsWellTyped l.right
well-at [] i l h e = absurd (cc)
well-at (k ∷ ls) zero l h e = (let f : k ≡ l = cc in rw (← f) (h.0, h.1))
well-at (k ∷ ls) (suc i) l h e = well-at ls i l h.2 e

-- where a later item is replaced, the earlier ones stay
other-place : (ls : List Literal) (i j : ℕ) (l x : Literal) → i < j → slice_get ls i ≡ Some l → slice_get (Rattle.leo_kernel.specs.Conclusions.with_literals ls j (x ∷ [])) i ≡ Some l
other-place ls i zero l x h e = absurd (omega arith)
other-place [] i (suc j) l x h e = (let f : ⊥ = cc in absurd f)
other-place (k ∷ ls) zero (suc j) l x h e = e
other-place (k ∷ ls) (suc i) (suc j) l x h e = other-place ls i j l x (omega arith) e

-- the list of choice symbols grows at its end
chooses-stands : (known : ℕ) (before : List Choice) (t : Tree) (after : List Choice) (n : ℕ) (k : Choice) → Chooses known before t after n k → slice_get after n ≡ Some k
chooses-stands known before t after n k (earliest m j e f g) = e
chooses-stands known before t after n k (added j e f g h) = last before k
  where
    last : (xs : List Choice) (x : Choice) → slice_get (xs ++ x ∷ []) (length xs) ≡ Some x
    last [] x = refl
    last (y ∷ xs) x = last xs x

chooses-precede : (known : ℕ) (before : List Choice) (t : Tree) (after : List Choice) (n : ℕ) (k : Choice) → Chooses known before t after n k → Precedes before after
chooses-precede known before t after n k (earliest m j e f g) i x h = h
chooses-precede known before t after n k (added j e f g h) i x q = slice_get-append before (k ∷ []) i x q

pub functions-precede : (known p : ℕ) (c : ClauseTree) (i : ℕ) (before : List Choice) (ls : List Literal) (later : List Choice) (ms : List Member) → FuncExts known p c i before ls later ms → Precedes before later
functions-precede known p c i before [] later ms (done j chs) n x h = h
functions-precede known p c i before (l ∷ ls) later ms (other j chs last k ks members f h) n x e = functions-precede known p c (suc i) before ls later ms h n x e
functions-precede known p c i before (l ∷ ls) later (m ∷ ms) (equal_functions j chs last k ks members f g h) n x e = functions-precede known p c (suc i) before ls later ms h n x e
functions-precede known p c i before (l ∷ ls) later (m ∷ ms) (different_functions j chs middle last k ks members r item f g chooses h) n x e = functions-precede known p c (suc i) middle ls later ms h n x (chooses-precede known before _ middle r item chooses n x e)

-- the literals from a number on
module _ (c : ClauseTree) where
  abbrev FromHere : ℕ → List Literal → Type 0
  FromHere i ls = (k : ℕ) (l : Literal) → slice_get ls k ≡ Some l → slice_get c.literals (i + k) ≡ Some l

  first : (i : ℕ) (l : Literal) (ls : List Literal) → FromHere i (l ∷ ls) → slice_get c.literals i ≡ Some l
  first i l ls at = (let e : i + zero ≡ i = omega arith in let h = at zero l refl in rw e at h)

  next : (i : ℕ) (l : Literal) (ls : List Literal) → FromHere i (l ∷ ls) → FromHere (suc i) ls
  next i l ls at k x e = (let f : i + suc k ≡ suc i + k = omega arith in let h = at (suc k) x e in rw f at h)

module _ (choices : List Choice) (p : ℕ) (c : ClauseTree) (typed : IsTyped c) where
  abbrev Led : Member → Type 0
  Led = IsLed choices p c

  -- resolve
  resolve-led : Each Led (resolve_members p c)
  resolve-led = each-literals Led (resolve_at p c) c.literals (λ i l e. each-unless Led l.positive _ (λ f. (one-step choices p c (record { clause = c; rule = λ q. Rattle.leo_kernel.specs.Steps.convert q }) (i ∷ []) (itself-follows choices c typed), tt)))

  -- bool_ext
  bool_ext-led : Each Led (bool_ext_members p c)
  bool_ext-led = each-literals Led (bool_ext_at p c) c.literals (λ i l e. each-if Led (same_type (literal_type l) truth_type && not (is_formula l)) _ (λ f.
      let t = equal_types (literal_type l) truth_type (and_parts (same_type (literal_type l) truth_type) (not (is_formula l)) f).0 in
      (one-step choices p c _ [] (case-follows choices c i l One e typed t), (one-step choices p c _ [] (case-follows choices c i l Two e typed t), tt))))

  -- factor
  alike-types : (l k : Literal) → type_of l.left ≡ type_of l.right → type_of k.left ≡ type_of k.right → (b : Bool) → is_formula l ≡ b → are_alike l k ≡ true → literal_type l ≡ literal_type k
  alike-types l k s t true e h =
      let g : (is_formula k && same_tree l.right k.right) ≡ true = rw e at h in
      s ∙ formula-type l e ∙ sym (formula-type k (and_parts (is_formula k) (same_tree l.right k.right) g).0) ∙ sym t
  alike-types l k s t false e h =
      let g : (not (is_formula k) && same_type (literal_type l) (literal_type k)) ≡ true = rw e at h in
      equal_types (literal_type l) (literal_type k) (and_parts (not (is_formula k)) (same_type (literal_type l) (literal_type k)) g).1

  module _ (i j : ℕ) (l k : Literal) (at : slice_get c.literals i ≡ Some l) (there : slice_get c.literals j ≡ Some k) (h : may_be_one i l j k ≡ true) where
    parts : ((nat_lt i j && (l.positive && k.positive)) ≡ true) × (are_alike l k ≡ true)
    parts = and_parts (nat_lt i j && (l.positive && k.positive)) (are_alike l k) h

    ordered : nat_lt i j ≡ true
    ordered = (and_parts (nat_lt i j) (l.positive && k.positive) parts.0).0

    differ : i ≡ j → ⊥
    differ e = (let o = ordered in let lt : i < j = grind (arith, nat_tests) in omega arith)

    positives : (l.positive ≡ true) × (k.positive ≡ true)
    positives = and_parts l.positive k.positive (and_parts (nat_lt i j) (l.positive && k.positive) parts.0).1

    one-type : literal_type l ≡ literal_type k
    one-type = alike-types l k (typed-at c.variables c.literals i l typed at).same_type (typed-at c.variables c.literals j k typed there).same_type (is_formula l) refl parts.1

    as-it-is : Each Led (factor_as_it_is p c i l j k)
    as-it-is = each-if Led (heads_meet [] l.left k.left) _ (λ f. (one-step choices p c _ _ (factor-follows choices c i j l k at there differ typed (positives.0 ∙ sym positives.1) one-type), tt))

    turned-clause : IsTyped (with_turned c j k)
    turned-clause = typed-placed c j [] (turned k ∷ []) typed (no-fresh c.variables (turned k ∷ []) (turned-typed c.variables k (typed-at c.variables c.literals j k typed there), tt))

    when-turned : Each Led (factor_turned p c i l j k)
    when-turned = each-if Led (not (is_formula k) && heads_meet [] l.left k.right) _ (λ f. (
      two-steps choices p (suc p) c (record { clause = with_turned c j k; rule = λ q. Rattle.leo_kernel.specs.Steps.arrange q }) _ _ (omega arith) (turned-follows choices c j k there typed).follows
          (factor-follows choices (with_turned c j k) i j l (turned k) (other-place c.literals i j l (turned k) (let o = ordered in grind (arith, nat_tests)) at) (placed c.literals j (turned k) (slice_get_within c.literals j k there)) differ turned-clause (positives.0 ∙ sym positives.1) (one-type ∙ (typed-at c.variables c.literals j k typed there).same_type)),
      tt,
    ))

  factor-led : Each Led (factor_members p c)
  factor-led = each-literals Led (factor_at p c) c.literals (λ i l e. each-literals Led (factor_with p c i l) c.literals (λ j k f. each-if Led (may_be_one i l j k) _ (λ h. each-append Led (factor_as_it_is p c i l j k) (factor_turned p c i l j k) (as-it-is i j l k e f h) (when-turned i j l k e f h))))

  -- primitive
  bound-led : (n : ℕ) (a : SimpleType) → slice_get c.variables n ≡ Some a → given_last a ≡ truth_type → Each Led (primitive_by p c n a)
  bound-led n a e last = each-if Led (Rattle.std.specs.Prelude.nat_le (length (argument_types a)) 8) _ (λ f. each-map Led (primitive_member p c n a) (bindings (length c.variables) (argument_types a))
      (each-weaker (IsTruthBinding c.variables (argument_types a)) (λ b. Led (primitive_member p c n a b)) (bindings (length c.variables) (argument_types a)) (λ b g. one-step choices p c _ [] (instance-follows choices c (c.variables ++ b.fresh) _ typed (given-good c.variables n a b e last g))) (bindings-good c.variables (argument_types a))))

  head-led : (t : Tree) → IsPart c.variables t → given_last (type_of t) ≡ truth_type → Each Led (primitive_for p c t)
  head-led (variable n a) h last = bound-led n a h.over last
  head-led (bound i a) h last = tt
  head-led (symbol s a) h last = tt
  head-led (app f x) h last = tt
  head-led (lam a t) h last = tt
  head-led (logic o x y) h last = tt
  head-led absent h last = tt

  -- choice
  module _ (a : SimpleType) (property : Tree) (over : IsOver c.variables 0 property) (type : type_of property ≡ Rattle.leo_q0.specs.Terms.arrow a truth_type) where
    axiom-typed : IsTyped (choice_clause a)
    axiom-typed = (value-typed (choice_clause a).variables (app (variable 0 (Rattle.leo_q0.specs.Terms.arrow a truth_type)) (variable 1 a)) false (refl, refl) refl, (value-typed (choice_clause a).variables (app (variable 0 (Rattle.leo_q0.specs.Terms.arrow a truth_type)) (Rattle.leo_kernel.specs.Shapes.choice_tree a (variable 0 (Rattle.leo_q0.specs.Terms.arrow a truth_type)))) true (refl, (refl, tt)) refl, tt))

    axiom-follows : Follows choices c (record { clause = choice_clause a; rule = λ q. choose })
    axiom-follows = record {
      accepted = λ lines q within is h. record {
        parents = tt;
        literals = tt;
        place = tt;
        types = record { clause_typed = axiom-typed; rule_typed = (a, refl) };
        symbols = tt;
        shape = (a, refl);
      };
    }

    abbrev x : Tree
    x = variable (length c.variables) a

    terms : Rattle.leo_kernel.specs.Conditions.AreTermsFor (c.variables ++ a ∷ []) (choice_clause a).variables (property ∷ x ∷ [])
    terms = (type, Rattle.leo_clausify.proofs.Placing.over-more c.variables (a ∷ []) 0 property over, (refl, at-end c.variables a, tt))

    put : map (Rattle.leo_clause.specs.Renaming.substituted_literal (property ∷ x ∷ [])) (choice_clause a).literals ≡ Rattle.leo_ext.specs.Members.choice_literals a property x
    put = rw (lifted-over c.variables property 0 over) refl

    chosen-led : Each Led (choice_member p c a property ∷ [])
    chosen-led = (
      two-steps choices p (suc p) c (record { clause = choice_clause a; rule = λ q. choose }) _ [] (omega arith) axiom-follows
          (subst (λ (ls : List Literal). Follows choices (choice_clause a) (record { clause = record { variables = c.variables ++ a ∷ []; literals = ls }; rule = λ q. Rattle.leo_kernel.specs.Steps.inst q (property ∷ x ∷ []) })) put (instance-follows choices (choice_clause a) (c.variables ++ a ∷ []) (property ∷ x ∷ []) axiom-typed terms)),
      tt,
    )

  choice-with : (o : Connective) (t y : Tree) → IsPart c.variables (logic o t y) → Each Led (choice_with p c o t)
  choice-with (choice a) t y h = each-if Led (nat_eq (loose_range t) 0) _ (λ f. chosen-led a t (over-range c.variables t h.depth 0 (let g : loose_range t ≡ 0 = grind (arith, nat_tests) in omega arith) h.over.0) h.typed.2.0.1)
  choice-with truth t y h = tt
  choice-with falsity t y h = tt
  choice-with negation t y h = tt
  choice-with disjunction t y h = tt
  choice-with conjunction t y h = tt
  choice-with implication t y h = tt
  choice-with (equality a) t y h = tt
  choice-with (universal a) t y h = tt
  choice-with (existential a) t y h = tt

  choice-for : (t : Tree) → IsPart c.variables t → Each Led (choice_for p c t)
  choice-for (logic o t y) h = choice-with o t y h
  choice-for (variable n a) h = tt
  choice-for (bound i a) h = tt
  choice-for (symbol s a) h = tt
  choice-for (app f x) h = tt
  choice-for (lam a t) h = tt
  choice-for absent h = tt

  module _ (well : AreWellTyped c.literals) where
    side-part : (l : Literal) (i : ℕ) → slice_get c.literals i ≡ Some l → (s : Side) → IsPart c.variables (side_of s l)
    side-part l i e Left = record { typed = (well-at c.literals i l well e).0; depth = 0; over = (typed-at c.variables c.literals i l typed e).left_over }
    side-part l i e Right = record { typed = (well-at c.literals i l well e).1; depth = 0; over = (typed-at c.variables c.literals i l typed e).right_over }

    primitive-led : Each Led (primitive_members p c)
    primitive-led = each-literals Led (primitive_at p c) c.literals (λ i l e. each-if Led (is_formula l) _ (λ f. head-led (head l.left) (part-head c.variables l.left (side-part l i e Left))
        (head-last l.left (well-at c.literals i l well e).0 ∙ ap given_last ((typed-at c.variables c.literals i l typed e).same_type ∙ formula-type l f))))

    choice-led : Each Led (choice_members p c)
    choice-led = each-literals Led (choice_at p c) c.literals (λ i l e. each-flat_map Led (λ s. flat_map (choice_in p c) (places (side_of s l))) (used_sides l)
        (each-all (λ s. Each Led (flat_map (choice_in p c) (places (side_of s l)))) (used_sides l) (λ s. each-flat_map Led (choice_in p c) (places (side_of s l))
        (each-weaker (λ (q : Place). IsPart c.variables q.term) (λ q. Each Led (choice_in p c q)) (places (side_of s l)) (λ q h. choice-for (head q.term) (part-head c.variables q.term h)) (place-parts c.variables (side_of s l) (side-part l i e s))))))

    -- func_ext
    functions-led : (known i : ℕ) (before : List Choice) (ls : List Literal) (ms : List Member) → ((k : ℕ) (l : Literal) → slice_get ls k ≡ Some l → slice_get c.literals (i + k) ≡ Some l) → FuncExts known p c i before ls choices ms → Each Led ms
    functions-led known i before [] ms at (done j chs) = tt
    functions-led known i before (l ∷ ls) ms at (other j chs later k ks members f h) = functions-led known (suc i) before ls ms (next c i l ls at) h
    functions-led known i before (l ∷ ls) (m ∷ ms) at (equal_functions j chs later k ks members f g h) = (one-step choices p c _ [] (equal-follows choices c i l (first c i l ls at) typed f g), functions-led known (suc i) before ls ms (next c i l ls at) h)
    functions-led known i before (l ∷ ls) (m ∷ ms) at (different_functions j chs middle later k ks members n item f g chooses h) =
        let s = typed-at c.variables c.literals i l typed (first c i l ls at) in
        let w = well-at c.literals i l well (first c i l ls at) in (
          one-step choices p c _ [] (difference-follows c i l (first c i l ls at) typed f g (difference-well l w.0 w.1 s.same_type f) item (chooses-term known before middle (closed_form c.variables (Rattle.leo_kernel.specs.Choosing.difference_in l)) n item chooses) choices n (functions-precede known p c (suc i) middle ls choices ms h n item (chooses-stands known before _ middle n item chooses))),
          functions-led known (suc i) middle ls ms (next c i l ls at) h,
        )

    unary-led : (known : ℕ) (before : List Choice) (members : List Member) → p ≡ length choices → AreUnary known before c choices members → Each Led members
    unary-led known before members long h =
        let all = h.all in
        let functions : FuncExts known p c 0 before c.literals choices h.by_func_ext = rw long h.functions in
        let led = functions-led known 0 before c.literals h.by_func_ext (λ k l e. (let z : 0 + k ≡ k = omega arith in rw z e)) functions in
        subst (Each Led) (sym (rw (← long) at all))
        (each-append Led (resolve_members p c) _ resolve-led (each-append Led (factor_members p c) _ factor-led (each-append Led (bool_ext_members p c) _ bool_ext-led (each-append Led h.by_func_ext _ led (each-append Led (primitive_members p c) (choice_members p c) primitive-led choice-led)))))

-- the first lines
last-line : (ls : List Line) (l : Line) → slice_get (ls ++ l ∷ []) (length ls) ≡ Some l
last-line [] l = refl
last-line (k ∷ ls) l = last-line ls l

module _ (choices : List Choice) (start : ClauseTree) (rule : StepRule) where
  first-length : length (first_lines choices start rule) ≡ length choices + 1
  first-length = (let a = length-append (map choice_line choices) (record { clause = start; rule = rule } ∷ []) in let b = length-map choice_line choices in omega arith)

  first-clause : clause_of (first_lines choices start rule) (length choices) ≡ start
  first-clause = rw (← length-map choice_line choices) (ap clause_in (last-line (map choice_line choices) (record { clause = start; rule = rule })))

  have-choices : HaveChoices choices (first_lines choices start rule)
  have-choices = record {
    within = λ n k e. (let a = slice_get_within choices n k e in let b = first-length in omega arith);
    abbreviated = λ n k e. ap abbreviation_at (slice_get-append (map choice_line choices) (record { clause = start; rule = rule } ∷ []) n (choice_line k) (get-map choice_line choices n k e));
  }

pub accepted : UnaryMembersAreAccepted
accepted known before choices c rule members typed well h n m e =
    let p = length choices in
    let led = each-at (IsLed choices p c) members n m (unary-led choices p c typed well known before members refl h) e in
    subst (AreAcceptedAfter (first_lines choices c rule)) (sym led.are) (chain-accepted choices c led.end led.steps (first_lines choices c rule) p (first-length choices c rule) (first-clause choices c rule) (have-choices choices c rule) led.chain)
