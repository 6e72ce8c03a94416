-- The base types and the symbols in the lines of a member are those of the clause and of the choice symbols.
use Rattle.std.proofs.Common.{ℕ, zero, suc, nat_eq, nat_le, ◌≡◌, ◌∙◌, ◌+◌, ◌≤◌, Bool, true, false, not, ◌&&◌, List, [], ◌∷◌, ◌++◌, length, map, slice_get, Some, refl, sym, ap, subst, append_assoc, append-nil, arith}
use Rattle.std.specs.Bool.{if◌then◌else◌}
use Rattle.std.specs.List.{flat_map, list_any}
use Rattle.leo_q0.specs.Terms.{SimpleType, base, arrow, same_type}
use Rattle.leo_terms.specs.Facts.{loose_range}
use Rattle.leo_terms.specs.Tree.{Tree, variable, bound, symbol, app, lam, logic, absent, Connective, truth, falsity, negation, disjunction, conjunction, implication, equality, universal, existential, choice, truth_type, type_of}
use Rattle.leo_clause.specs.declared.record.Half.{Half}
use Rattle.leo_clause.specs.declared.record.Half.TheVariants.{One, Two}
use Rattle.leo_clause.specs.declared.record.Side.{Side}
use Rattle.leo_clause.specs.declared.record.Side.TheVariants.{Left, Right}
use Rattle.leo_clause.specs.Arranging.{firsts, variable_type}
use Rattle.leo_clause.specs.Choices.{Choice, symbol_of}
use Rattle.leo_clause.specs.Trees.{Literal, ClauseTree}
use Rattle.leo_kernel.specs.Choosing.{claimed, chosen, applied_to, difference_in}
use Rattle.leo_kernel.specs.Conclusions.{bool_case, choice_clause, factored}
use Rattle.leo_kernel.specs.Shapes.{truth_tree, side_of, literal_type, domain, equal, valued}
use Rattle.leo_clausify.specs.Choosing.{Chooses, earliest, added, indexed, function_of, variables_of, variable_terms, chosen_form, closed_form, chosen_arguments}
use Rattle.leo_clausify.specs.Splitting.{turned}
use Rattle.leo_unify.specs.Origins.{Origin, IsTypeFrom, AreTypesFrom, IsConstantFrom, IsTermFrom, AreTermsFrom}
use Rattle.leo_para.specs.Members.{is_formula, used_sides}
use Rattle.leo_para.specs.Places.{Place, argument_places, below_child, places, whole}
use Rattle.leo_para.specs.Spines.{applied_head, below_lambdas, head, heads_meet}
use Rattle.leo_conclude.specs.Origins.{AreLinesFrom, AreLiteralsFrom, IsClauseFrom, IsLiteralFrom}
use Rattle.leo_conclude.proofs.Origins.{clause-with, from-codomain, from-lifted, from-normal_form, from-type_of, literal-at, literals-append, literals-substituted, literals-with, types-append}
use Rattle.leo_ext.specs.Binding.{Binding, argument_types, arrows, under_lambdas, of_indices, fresh_function, truth_binding, negation_binding, disjunction_binding, equation_binding, bindings, given_for}
use Rattle.leo_ext.specs.Laws.{AreNamed, UnaryChoicesAreFromClause, UnaryMembersAreFromClause}
use Rattle.leo_ext.specs.Members.{Member, alone, func_ext_line, resolve_members, resolve_at, factor_members, factor_at, factor_with, factor_as_it_is, factor_turned, may_be_one, with_turned, bool_ext_members, bool_ext_at, primitive_members, primitive_at, primitive_for, primitive_member, choice_members, choice_at, choice_in, choice_for, choice_with, choice_literals, choice_member}
use Rattle.leo_ext.specs.Unary.{FuncExts, done, other, equal_functions, different_functions, difference_line}
use Rattle.leo_ext.proofs.Each.{Each, each-all, each-append, each-at, each-flat_map, each-if, each-literals, each-map, each-unless, each-weaker}

-- the choice symbols are named
named-at : (o : Origin) (choices : List Choice) (n : ℕ) (k : Choice) → AreNamed o choices → slice_get choices n ≡ Some k → o.has_symbol k.number ≡ true
named-at o [] n k h e = absurd (cc)
named-at o (j ∷ choices) zero k h e = (let f : j ≡ k = cc in rw (← f) h.0)
named-at o (j ∷ choices) (suc n) k h e = named-at o choices n k h.1 e

named-front : (o : Origin) (choices more : List Choice) → AreNamed o (choices ++ more) → AreNamed o choices
named-front o [] more h = tt
named-front o (k ∷ choices) more h = (h.0, named-front o choices more h.1)

named-last : (o : Origin) (choices : List Choice) (k : Choice) → AreNamed o (choices ++ k ∷ []) → o.has_symbol k.number ≡ true
named-last o [] k h = h.0
named-last o (j ∷ choices) k h = named-last o choices k h.1

module _ (o : Origin) (zero_base : o.has_base 0 ≡ true) where
  -- ---- types and terms of a clause

  from-domain : (a : SimpleType) → IsTypeFrom o a → IsTypeFrom o (domain a)
  from-domain (base n) h = h
  from-domain (arrow a b) h = h.0

  from-variable_type : (variables : List SimpleType) (n : ℕ) → AreTypesFrom o variables → IsTypeFrom o (variable_type variables n)
  from-variable_type [] n h = zero_base
  from-variable_type (a ∷ variables) zero h = h.0
  from-variable_type (a ∷ variables) (suc n) h = from-variable_type variables n h.1

  from-truth : (v : Bool) → IsTermFrom o (truth_tree v)
  from-truth true = (tt, tt, tt)
  from-truth false = (tt, tt, tt)

  from-valued : (t : Tree) (v : Bool) → IsTermFrom o t → IsLiteralFrom o (valued t v)
  from-valued t v h = (h, from-truth v)

  from-applied_to : (xs : List Tree) (t : Tree) → IsTermFrom o t → AreTermsFrom o xs → IsTermFrom o (applied_to t xs)
  from-applied_to [] t h k = h
  from-applied_to (x ∷ xs) t h k = from-applied_to xs (app t x) (h, k.0) k.1

  -- ---- the chosen term

  from-indexed : (n k : ℕ) (t : Tree) → IsTermFrom o t → IsTermFrom o (indexed n k t)
  from-indexed n k (variable m a) h = by (nat_eq m n)
    where
      by : (b : Bool) → IsTermFrom o (if b then bound k a else variable m a)
      by true = h
      by false = h
  from-indexed n k (bound i a) h = h
  from-indexed n k (symbol s a) h = h
  from-indexed n k (app f x) h = (from-indexed n k f h.0, from-indexed n k x h.1)
  from-indexed n k (lam a t) h = (h.0, from-indexed n (k + 1) t h.1)
  from-indexed n k (logic c x y) h = (h.0, from-indexed n k x h.1, from-indexed n k y h.2)
  from-indexed n k absent h = tt

  from-function_of : (variables : List SimpleType) (ns : List ℕ) (t : Tree) → AreTypesFrom o variables → IsTermFrom o t → IsTermFrom o (function_of variables ns t)
  from-function_of variables [] t h k = k
  from-function_of variables (n ∷ ns) t h k = (from-variable_type variables n h, from-indexed n 0 (function_of variables ns t) (from-function_of variables ns t h k))

  from-variable_terms : (variables : List SimpleType) (ns : List ℕ) → AreTypesFrom o variables → AreTermsFrom o (variable_terms variables ns)
  from-variable_terms variables [] h = tt
  from-variable_terms variables (n ∷ ns) h = (from-variable_type variables n h, from-variable_terms variables ns h)

  from-chosen : (l : Literal) → IsLiteralFrom o l → IsTermFrom o (chosen_form (difference_in l))
  from-chosen l h =
      let a = from-domain (literal_type l) (from-type_of o zero_base l.left h.0) in
      let b = from-codomain o zero_base (type_of l.left) (from-type_of o zero_base l.left h.0) in
      from-normal_form o zero_base (chosen (difference_in l)) (a, (a, (tt, (b, (from-lifted o zero_base l.left 0 1 h.0, a), (from-lifted o zero_base l.right 0 1 h.1, a)), tt)), tt)

  from-closed : (variables : List SimpleType) (l : Literal) → AreTypesFrom o variables → IsLiteralFrom o l → IsTermFrom o (closed_form variables (difference_in l))
  from-closed variables l h k = from-function_of variables (variables_of (chosen_form (difference_in l))) (chosen_form (difference_in l)) h (from-chosen l k)

  -- ---- places and heads

  abbrev AtPlace : Place → Type 0
  AtPlace q = IsTermFrom o q.term

  whole-from : (t : Tree) → IsTermFrom o t → Each AtPlace (whole t)
  whole-from (variable n a) h = (h, tt)
  whole-from (bound i a) h = (h, tt)
  whole-from (symbol s a) h = (h, tt)
  whole-from (app f x) h = (h, tt)
  whole-from (lam a t) h = (h, tt)
  whole-from (logic c x y) h = (h, tt)
  whole-from absent h = tt

  arguments-from : (t : Tree) → IsTermFrom o t → Each AtPlace (argument_places t)
  arguments-from (app f x) h =
      each-append AtPlace (map (below_child 0) (argument_places f)) (map (below_child 1) (whole x ++ argument_places x)) (each-map AtPlace (below_child 0) (argument_places f) (arguments-from f h.0))
      (each-map AtPlace (below_child 1) (whole x ++ argument_places x) (each-append AtPlace (whole x) (argument_places x) (whole-from x h.1) (arguments-from x h.1)))
  arguments-from (logic c x y) h =
      each-append AtPlace (map (below_child 0) (whole x ++ argument_places x)) (map (below_child 1) (whole y ++ argument_places y)) (each-map AtPlace (below_child 0) (whole x ++ argument_places x) (each-append AtPlace (whole x) (argument_places x) (whole-from x h.1) (arguments-from x h.1)))
      (each-map AtPlace (below_child 1) (whole y ++ argument_places y) (each-append AtPlace (whole y) (argument_places y) (whole-from y h.2) (arguments-from y h.2)))
  arguments-from (variable n a) h = tt
  arguments-from (bound i a) h = tt
  arguments-from (symbol s a) h = tt
  arguments-from (lam a t) h = tt
  arguments-from absent h = tt

  places-from : (t : Tree) → IsTermFrom o t → Each AtPlace (places t)
  places-from t h = each-append AtPlace (whole t) (argument_places t) (whole-from t h) (arguments-from t h)

  side-from : (s : Side) (l : Literal) → IsLiteralFrom o l → IsTermFrom o (side_of s l)
  side-from Left l h = h.0
  side-from Right l h = h.1

  from-applied_head : (t : Tree) → IsTermFrom o t → IsTermFrom o (applied_head t)
  from-applied_head (app f x) h = from-applied_head f h.0
  from-applied_head (variable n a) h = h
  from-applied_head (bound i a) h = h
  from-applied_head (symbol s a) h = h
  from-applied_head (lam a t) h = h
  from-applied_head (logic c x y) h = h
  from-applied_head absent h = tt

  from-below : (t : Tree) → IsTermFrom o t → IsTermFrom o (below_lambdas t)
  from-below (lam a t) h = from-below t h.1
  from-below (variable n a) h = h
  from-below (bound i a) h = h
  from-below (symbol s a) h = h
  from-below (app f x) h = h
  from-below (logic c x y) h = h
  from-below absent h = tt

  from-head : (t : Tree) → IsTermFrom o t → IsTermFrom o (head t)
  from-head t h = from-applied_head (below_lambdas t) (from-below t h)

  -- ---- bindings

  record IsBindingFrom (b : Binding) : Type 0 where
    fresh_from : AreTypesFrom o b.fresh
    body_from : IsTermFrom o b.body

  from-argument_types : (a : SimpleType) → IsTypeFrom o a → AreTypesFrom o (argument_types a)
  from-argument_types (base n) h = tt
  from-argument_types (arrow a b) h = (h.0, from-argument_types b h.1)

  from-arrows : (types : List SimpleType) (b : SimpleType) → AreTypesFrom o types → IsTypeFrom o b → IsTypeFrom o (arrows types b)
  from-arrows [] b h k = k
  from-arrows (a ∷ types) b h k = (h.0, from-arrows types b h.1 k)

  from-under_lambdas : (types : List SimpleType) (t : Tree) → AreTypesFrom o types → IsTermFrom o t → IsTermFrom o (under_lambdas types t)
  from-under_lambdas [] t h k = k
  from-under_lambdas (a ∷ types) t h k = (h.0, from-under_lambdas types t h.1 k)

  from-of_indices : (types : List SimpleType) (f : Tree) → AreTypesFrom o types → IsTermFrom o f → IsTermFrom o (of_indices types f)
  from-of_indices [] f h k = k
  from-of_indices (a ∷ types) f h k = from-of_indices types (app f (bound (length types) a)) h.1 (k, h.0)

  from-fresh_function : (n : ℕ) (types : List SimpleType) (b : SimpleType) → AreTypesFrom o types → IsTypeFrom o b → IsTermFrom o (fresh_function n types b)
  from-fresh_function n types b h k = from-of_indices types (variable n (arrows types b)) h (from-arrows types b h k)

  from-equation : (n : ℕ) (types : List SimpleType) (b : SimpleType) → AreTypesFrom o types → IsTypeFrom o b → IsBindingFrom (equation_binding n types b)
  from-equation n types b h k = record {
    fresh_from = (from-arrows types b h k, (from-arrows types b h k, tt));
    body_from = (k, from-fresh_function n types b h k, from-fresh_function (n + 1) types b h k);
  }

  from-firsts : (seen types : List SimpleType) → AreTypesFrom o seen → AreTypesFrom o types → AreTypesFrom o (firsts same_type seen types)
  from-firsts seen [] h k = h
  from-firsts seen (a ∷ types) h k = by (list_any (same_type a) seen) (from-firsts seen types h k.1) (from-firsts (seen ++ a ∷ []) types (types-append o zero_base seen (a ∷ []) h (k.0, tt)) k.1)
    where
      by : (b : Bool) → AreTypesFrom o (firsts same_type seen types) → AreTypesFrom o (firsts same_type (seen ++ a ∷ []) types) → AreTypesFrom o (if b then firsts same_type seen types else firsts same_type (seen ++ a ∷ []) types)
      by true f g = f
      by false f g = g

  equations-from : (n : ℕ) (types bs : List SimpleType) → AreTypesFrom o types → AreTypesFrom o bs → Each IsBindingFrom (map (equation_binding n types) bs)
  equations-from n types [] h k = tt
  equations-from n types (b ∷ bs) h k = (from-equation n types b h k.0, equations-from n types bs h k.1)

  bindings-from : (n : ℕ) (types : List SimpleType) → AreTypesFrom o types → Each IsBindingFrom (bindings n types)
  bindings-from n types h =
      let a = from-arrows types truth_type h zero_base in
      let x = from-fresh_function n types truth_type h zero_base in
      let y = from-fresh_function (n + 1) types truth_type h zero_base in
      let yes : IsBindingFrom (truth_binding true) = record { fresh_from = tt; body_from = from-truth true } in
      let no : IsBindingFrom (truth_binding false) = record { fresh_from = tt; body_from = from-truth false } in
      let negations : IsBindingFrom (negation_binding n types) = record { fresh_from = (a, tt); body_from = (tt, x, tt) } in
      let disjunctions : IsBindingFrom (disjunction_binding n types) = record { fresh_from = (a, (a, tt)); body_from = (tt, x, y) } in
      (yes, (no, (negations, (disjunctions, equations-from n types (firsts same_type [] types) h (from-firsts [] types tt h)))))

  from-given_for : (n : ℕ) (t : Tree) (m : ℕ) (types : List SimpleType) → IsTermFrom o t → AreTypesFrom o types → AreTermsFrom o (given_for n t m types)
  from-given_for n t m [] h k = tt
  from-given_for n t m (a ∷ types) h k = (by (nat_eq m n), from-given_for n t (m + 1) types h k.1)
    where
      by : (b : Bool) → IsTermFrom o (if b then t else variable m a)
      by true = h
      by false = k.0

  -- ---- the members of each kind

  abbrev IsFrom : Member → Type 0
  IsFrom m = AreLinesFrom o m.lines

  module _ (p : ℕ) (c : ClauseTree) (from : IsClauseFrom o c) where
    resolve-from : Each IsFrom (resolve_members p c)
    resolve-from = each-literals IsFrom (resolve_at p c) c.literals (λ i l e. each-unless IsFrom l.positive _ (λ f. ((((from.0, from.1), tt), tt), tt)))

    factored-from : (d : ClauseTree) (j : ℕ) (l k : Literal) → IsClauseFrom o d → IsLiteralFrom o l → IsLiteralFrom o k → IsClauseFrom o (factored d j l k)
    factored-from d j l k h f g = (h.0, literals-append o _ _ (literals-with o d.literals j [] h.1 tt) ((f.0, g.0), ((f.1, g.1), tt)))

    factor-from : Each IsFrom (factor_members p c)
    factor-from = each-literals IsFrom (factor_at p c) c.literals (λ i l e. each-literals IsFrom (factor_with p c i l) c.literals (λ j k f. each-if IsFrom (may_be_one i l j k) _ (λ h.
        let a = literal-at o c.literals i l from.1 e in
        let b = literal-at o c.literals j k from.1 f in
        let turned-from : IsLiteralFrom o (turned k) = (b.1, b.0) in
        let t = clause-with o zero_base c j [] (turned k ∷ []) from tt (turned-from, tt) in
        each-append IsFrom (factor_as_it_is p c i l j k) (factor_turned p c i l j k)
        (each-if IsFrom (heads_meet [] l.left k.left) _ (λ g. (((factored-from c j l k from a b, tt), tt), tt)))
        (each-if IsFrom (not (is_formula k) && heads_meet [] l.left k.right) _ (λ g. (((t, tt), ((factored-from (with_turned c j k) j l (turned k) t a turned-from, tt), tt)), tt))))))

    case-from : (half : Half) (v : Bool) (s t : Tree) → IsTermFrom o s → IsTermFrom o t → AreLiteralsFrom o (bool_case half v s t)
    case-from One true s t h k = (from-valued s false h, (from-valued t true k, tt))
    case-from Two true s t h k = (from-valued s true h, (from-valued t false k, tt))
    case-from One false s t h k = (from-valued s true h, (from-valued t true k, tt))
    case-from Two false s t h k = (from-valued s false h, (from-valued t false k, tt))

    bool_ext-from : Each IsFrom (bool_ext_members p c)
    bool_ext-from = each-literals IsFrom (bool_ext_at p c) c.literals (λ i l e. each-if IsFrom (same_type (literal_type l) truth_type && not (is_formula l)) _ (λ f.
        let h = literal-at o c.literals i l from.1 e in
        let one = clause-with o zero_base c i [] (bool_case One l.positive l.left l.right) from tt (case-from One l.positive l.left l.right h.0 h.1) in
        let two = clause-with o zero_base c i [] (bool_case Two l.positive l.left l.right) from tt (case-from Two l.positive l.left l.right h.0 h.1) in
        (((one, tt), tt), (((two, tt), tt), tt))))

    binding-from : (n : ℕ) (a : SimpleType) (b : Binding) → IsTypeFrom o a → IsBindingFrom b → IsFrom (primitive_member p c n a b)
    binding-from n a b h k =
        let given = from-given_for n (under_lambdas (argument_types a) b.body) 0 c.variables (from-under_lambdas (argument_types a) b.body (from-argument_types a h) k.body_from) from.0 in
        (((types-append o zero_base c.variables b.fresh from.0 k.fresh_from, literals-substituted o zero_base _ given c.literals from.1), given), tt)

    primitive-from : Each IsFrom (primitive_members p c)
    primitive-from = each-literals IsFrom (primitive_at p c) c.literals (λ i l e. each-if IsFrom (is_formula l) _ (λ f. for (head l.left) (from-head l.left (literal-at o c.literals i l from.1 e).0)))
      where
        for : (t : Tree) → IsTermFrom o t → Each IsFrom (primitive_for p c t)
        for (variable n a) h = each-if IsFrom (nat_le (length (argument_types a)) 8) _ (λ f.
            each-map IsFrom (primitive_member p c n a) (bindings (length c.variables) (argument_types a))
            (each-weaker IsBindingFrom (λ b. IsFrom (primitive_member p c n a b)) (bindings (length c.variables) (argument_types a)) (λ b g. binding-from n a b h g) (bindings-from (length c.variables) (argument_types a) (from-argument_types a h))))
        for (bound i a) h = tt
        for (symbol s a) h = tt
        for (app f x) h = tt
        for (lam a t) h = tt
        for (logic k x y) h = tt
        for absent h = tt

    property-from : (a : SimpleType) (t : Tree) → IsTypeFrom o a → IsTermFrom o t → IsFrom (choice_member p c a t)
    property-from a t h k =
        let q : IsTypeFrom o (arrow a truth_type) = (h, zero_base) in
        let no : IsTermFrom o (truth_tree false) = (tt, tt, tt) in
        let first : IsClauseFrom o (choice_clause a) = ((q, (h, tt)), (((q, h), no), (((q, (h, q, tt)), no), tt))) in
        let literals : AreLiteralsFrom o (choice_literals a t (variable (length c.variables) a)) = (((k, h), no), (((k, (h, k, tt)), no), tt)) in
        ((first, tt), (((types-append o zero_base c.variables (a ∷ []) from.0 (h, tt), literals), (k, (h, tt))), tt))

    choice-from : Each IsFrom (choice_members p c)
    choice-from = each-literals IsFrom (choice_at p c) c.literals (λ i l e. each-flat_map IsFrom (λ s. flat_map (choice_in p c) (places (side_of s l))) (used_sides l)
        (each-all (λ s. Each IsFrom (flat_map (choice_in p c) (places (side_of s l)))) (used_sides l) (λ s. each-flat_map IsFrom (choice_in p c) (places (side_of s l))
        (each-weaker AtPlace (λ q. Each IsFrom (choice_in p c q)) (places (side_of s l)) (λ q h. for (head q.term) (from-head q.term h)) (places-from (side_of s l) (side-from s l (literal-at o c.literals i l from.1 e)))))))
      where
        with-choice : (k : Connective) (t : Tree) → IsConstantFrom o k → IsTermFrom o t → Each IsFrom (choice_with p c k t)
        with-choice (choice a) t h g = each-if IsFrom (nat_eq (loose_range t) 0) _ (λ f. (property-from a t h g, tt))
        with-choice truth t h g = tt
        with-choice falsity t h g = tt
        with-choice negation t h g = tt
        with-choice disjunction t h g = tt
        with-choice conjunction t h g = tt
        with-choice implication t h g = tt
        with-choice (equality a) t h g = tt
        with-choice (universal a) t h g = tt
        with-choice (existential a) t h g = tt

        for : (t : Tree) → IsTermFrom o t → Each IsFrom (choice_for p c t)
        for (logic k t y) h = with-choice k t h.0 h.1
        for (variable n a) h = tt
        for (bound i a) h = tt
        for (symbol s a) h = tt
        for (app f x) h = tt
        for (lam a t) h = tt
        for absent h = tt

    -- ---- functions

    equal-from : (i : ℕ) (l : Literal) → IsLiteralFrom o l → IsFrom (alone (func_ext_line p c i l))
    equal-from i l h =
        let a = from-domain (literal_type l) (from-type_of o zero_base l.left h.0) in
        let x = variable (length c.variables) (domain (literal_type l)) in
        ((clause-with o zero_base c i (domain (literal_type l) ∷ []) (equal (app l.left x) (app l.right x) ∷ []) from (a, tt) (((h.0, a), (h.1, a)), tt), tt), tt)

    different-from : (i : ℕ) (l : Literal) (n : ℕ) (k : Choice) → IsLiteralFrom o l → k.term ≡ closed_form c.variables (difference_in l) → o.has_symbol k.number ≡ true → IsFrom (alone (difference_line p c i l n k))
    different-from i l n k h is named =
        let type : IsTypeFrom o (type_of k.term) = from-type_of o zero_base k.term (rw is (from-closed c.variables l from.0 h)) in
        let w = from-applied_to (chosen_arguments c.variables (difference_in l)) (symbol_of k) (named, type) (from-variable_terms c.variables (variables_of (chosen_form (difference_in l))) from.0) in
        ((clause-with o zero_base c i [] (claimed (difference_in l) (applied_to (symbol_of k) (chosen_arguments c.variables (difference_in l))) ∷ []) from tt (((h.0, w), (h.1, w)), tt), tt), tt)

    -- the symbol of an item that is chosen is named, if all are that stand then
    chosen-named : (known : ℕ) (choices middle : List Choice) (t : Tree) (n : ℕ) (k : Choice) → Chooses known choices t middle n k → AreNamed o middle → (k.term ≡ t) × (o.has_symbol k.number ≡ true) × AreNamed o choices
    chosen-named known choices middle t n k (earliest m j at is lack) h = (is, named-at o choices m j h at, h)
    chosen-named known choices middle t n k (added j is new lack distinct) h = (is, named-last o choices j h, named-front o choices (j ∷ []) h)

    functions-from : (known i : ℕ) (choices : List Choice) (ls : List Literal) (later : List Choice) (ms : List Member) → FuncExts known p c i choices ls later ms → AreLiteralsFrom o ls → AreNamed o later → Each IsFrom ms × AreNamed o choices
    functions-from known i choices [] later ms (done j chs) h g = (tt, g)
    functions-from known i choices (l ∷ ls) later ms (other j chs last k ks members f rest) h g = functions-from known (suc i) choices ls later ms rest h.1 g
    functions-from known i choices (l ∷ ls) later (m ∷ ms) (equal_functions j chs last k ks members f e rest) h g =
        let r = functions-from known (suc i) choices ls later ms rest h.1 g in
        ((equal-from i l h.0, r.0), r.1)
    functions-from known i choices (l ∷ ls) later (m ∷ ms) (different_functions j chs middle last k ks members n item f e chooses rest) h g =
        let r = functions-from known (suc i) middle ls later ms rest h.1 g in
        let w = chosen-named known choices middle (closed_form c.variables (difference_in l)) n item chooses r.1 in
        ((different-from i l n item h.0 w.0 w.1, r.0), w.2)

    -- ---- new choice symbols

    abbrev HasTermFrom : Choice → Type 0
    HasTermFrom k = IsTermFrom o k.term

    -- a list with such behind it
    record Grows (choices later : List Choice) : Type 0 where
      more : List Choice
      is : later ≡ choices ++ more
      added_from : Each HasTermFrom more

    chosen-grows : (known : ℕ) (choices middle : List Choice) (t : Tree) (n : ℕ) (k : Choice) → Chooses known choices t middle n k → IsTermFrom o t → Grows choices middle
    chosen-grows known choices middle t n k (earliest m j at is lack) h = record { more = []; is = sym (append-nil choices); added_from = tt }
    chosen-grows known choices middle t n k (added j is new lack distinct) h = record { more = j ∷ []; is = refl; added_from = (rw is h, tt) }

    functions-grow : (known i : ℕ) (choices : List Choice) (ls : List Literal) (later : List Choice) (ms : List Member) → FuncExts known p c i choices ls later ms → AreLiteralsFrom o ls → Grows choices later
    functions-grow known i choices [] later ms (done j chs) h = record { more = []; is = sym (append-nil choices); added_from = tt }
    functions-grow known i choices (l ∷ ls) later ms (other j chs last k ks members f rest) h = functions-grow known (suc i) choices ls later ms rest h.1
    functions-grow known i choices (l ∷ ls) later (m ∷ ms) (equal_functions j chs last k ks members f e rest) h = functions-grow known (suc i) choices ls later ms rest h.1
    functions-grow known i choices (l ∷ ls) later (m ∷ ms) (different_functions j chs middle last k ks members n item f e chooses rest) h =
        let a = chosen-grows known choices middle (closed_form c.variables (difference_in l)) n item chooses (from-closed c.variables l from.0 h.0) in
        let b = functions-grow known (suc i) middle ls later ms rest h.1 in
        record {
          more = a.more ++ b.more;
          is = b.is ∙ ap (λ (ks : List Choice). ks ++ b.more) a.is ∙ append_assoc choices a.more b.more;
          added_from = each-append HasTermFrom a.more b.more a.added_from b.added_from;
        }

-- what stands behind a list
behind : (P : Choice → Type 0) (choices more : List Choice) (n : ℕ) (k : Choice) → Each P more → length choices ≤ n → slice_get (choices ++ more) n ≡ Some k → P k
behind P [] more n k h l e = each-at P more n k h e
behind P (j ∷ choices) more zero k h l e = absurd (omega arith)
behind P (j ∷ choices) more (suc n) k h l e = behind P choices more n k h (omega arith) e

pub members-from : UnaryMembersAreFromClause
members-from known choices c later members h o z from named n m e =
    let p = length later in
    let f = functions-from o z p c from known 0 choices c.literals later h.by_func_ext h.functions from.1 named in
    let all = each-append (IsFrom o z) (resolve_members p c) _ (resolve-from o z p c from) (each-append (IsFrom o z) (factor_members p c) _ (factor-from o z p c from) (each-append (IsFrom o z) (bool_ext_members p c) _ (bool_ext-from o z p c from)
    (each-append (IsFrom o z) h.by_func_ext _ f.0 (each-append (IsFrom o z) (primitive_members p c) (choice_members p c) (primitive-from o z p c from) (choice-from o z p c from))))) in
    each-at (IsFrom o z) members n m (subst (Each (IsFrom o z)) (sym h.all) all) e

pub choices-from : UnaryChoicesAreFromClause
choices-from known choices c later members h o z from n k l e =
    let g = functions-grow o z (length later) c from known 0 choices c.literals later h.by_func_ext h.functions from.1 in
    behind (λ j. IsTermFrom o j.term) choices g.more n k g.added_from l (rw g.is at e)
