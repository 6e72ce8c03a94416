-- Steps that change literals of a clause are accepted.
use Rattle.std.proofs.Common.{ℕ, ◌≡◌, Bool, true, false, List, [], ◌∷◌, ◌++◌, length, slice_get, Some, None, refl, sym, ◌∙◌, ap, subst, append-nil}
use Rattle.std.specs.Prelude.{IsSomeAnd}
use Rattle.leo_q0.specs.Terms.{SimpleType, base, arrow}
use Rattle.leo_terms.specs.Tree.{codomain, Tree, variable, app, type_of, truth_type}
use Rattle.leo_clause.specs.declared.record.Half.{Half}
use Rattle.leo_clause.specs.declared.record.Half.TheVariants.{One, Two}
use Rattle.leo_clause.specs.Choices.{Choice}
use Rattle.leo_clause.specs.Trees.{Literal, ClauseTree}
use Rattle.leo_clause.specs.Typed.{IsOver, IsTypedLiteral, AreTyped, IsTyped}
use Rattle.leo_kernel.specs.Conclusions.{with_new, without, bool_case, func_ext_positive, factored, AreConverted, FuncExtConcludes}
use Rattle.leo_kernel.specs.Shapes.{unequal, equal, literal_type, domain, IsArrowType}
use Rattle.leo_kernel.specs.Steps.{Line, convert, bool_ext, func_ext, factor, clause_of, literal_of}
use Rattle.leo_kernel.specs.Symbols.{FuncExtHasSymbol}
use Rattle.leo_clausify.specs.Moves.{Follows}
use Rattle.leo_clausify.proofs.Following.{there, literal-there, literal-within, value-typed}
use Rattle.leo_clausify.proofs.Placing.{over-more, typed-placed, typed-at, no-fresh}
use Rattle.leo_ext.specs.Members.{is_arrow}

-- the clause itself
converted-itself : (ls : List Literal) → AreConverted ls ls
converted-itself [] = tt
converted-itself (l ∷ ls) = (record { polarity = refl; left_form = refl; right_form = refl }, converted-itself ls)

pub itself-follows : (choices : List Choice) (c : ClauseTree) → IsTyped c → Follows choices c (record { clause = c; rule = convert })
itself-follows choices c typed = record {
  accepted = λ lines p within is h. record {
    parents = within;
    literals = tt;
    place = tt;
    types = record { clause_typed = typed; rule_typed = tt };
    symbols = tt;
    shape = rw is (refl, converted-itself c.literals);
  };
}

-- the two cases of an equation of truth values
cases-typed : (variables : List SimpleType) (half : Half) (positive : Bool) (a b : Tree) → IsOver variables 0 a → IsOver variables 0 b → type_of a ≡ truth_type → type_of b ≡ truth_type → AreTyped variables (bool_case half positive a b)
cases-typed variables One true a b h g e f = (value-typed variables a false h e, (value-typed variables b true g f, tt))
cases-typed variables Two true a b h g e f = (value-typed variables a true h e, (value-typed variables b false g f, tt))
cases-typed variables One false a b h g e f = (value-typed variables a true h e, (value-typed variables b true g f, tt))
cases-typed variables Two false a b h g e f = (value-typed variables a false h e, (value-typed variables b false g f, tt))

pub case-follows : (choices : List Choice) (c : ClauseTree) (i : ℕ) (l : Literal) (half : Half) → slice_get c.literals i ≡ Some l → IsTyped c → literal_type l ≡ truth_type → Follows choices c (record { clause = with_new c i [] (bool_case half l.positive l.left l.right); rule = λ p. bool_ext p i half })
case-follows choices c i l half e typed type = record {
  accepted = λ lines p within is h. record {
    parents = within;
    literals = literal-within lines p i c l is e;
    place = tt;
    types = record {
      clause_typed =
          let t = typed-at c.variables c.literals i l typed e in
          typed-placed c i [] (bool_case half l.positive l.left l.right) typed (no-fresh c.variables (bool_case half l.positive l.left l.right) (cases-typed c.variables half l.positive l.left l.right t.left_over t.right_over type (sym t.same_type ∙ type)));
      rule_typed = there (literal_of lines p i) l (λ k. literal_type k ≡ truth_type) (literal-there lines p i c l is e) type;
    };
    symbols = tt;
    shape = there (literal_of lines p i) l (λ k. with_new c i [] (bool_case half l.positive l.left l.right) ≡ with_new (clause_of lines p) i [] (bool_case half k.positive k.left k.right)) (literal-there lines p i c l is e) (rw is refl);
  };
}

-- an equation of functions
at-end : (xs : List SimpleType) (x : SimpleType) → slice_get (xs ++ x ∷ []) (length xs) ≡ Some x
at-end [] x = refl
at-end (y ∷ xs) x = at-end xs x

pub arrow-type : (a : SimpleType) → is_arrow a ≡ true → IsArrowType a
arrow-type (base n) e = (let f : ⊥ = cc in f)
arrow-type (arrow a b) e = tt

values-typed : (c : ClauseTree) (l : Literal) → IsTypedLiteral c.variables l → IsTypedLiteral (c.variables ++ domain (literal_type l) ∷ []) (equal (app l.left (variable (length c.variables) (domain (literal_type l)))) (app l.right (variable (length c.variables) (domain (literal_type l)))))
values-typed c l t = record {
  left_over = (over-more c.variables (domain (literal_type l) ∷ []) 0 l.left t.left_over, at-end c.variables (domain (literal_type l)));
  right_over = (over-more c.variables (domain (literal_type l) ∷ []) 0 l.right t.right_over, at-end c.variables (domain (literal_type l)));
  same_type = ap codomain t.same_type;
}

symbol-missing : (lines : List Line) (clause : ClauseTree) (i : ℕ) (l : Literal) (b : Bool) → b ≡ true → FuncExtHasSymbol lines clause i None l b
symbol-missing lines clause i l true e = refl
symbol-missing lines clause i l false e = (let f : ⊥ = cc in absurd f)

concludes-equal : (lines : List Line) (parent clause : ClauseTree) (i : ℕ) (l : Literal) (b : Bool) → b ≡ true → clause ≡ func_ext_positive parent i l → FuncExtConcludes lines parent i None l b clause
concludes-equal lines parent clause i l true e h = h
concludes-equal lines parent clause i l false e h = (let f : ⊥ = cc in absurd f)

pub equal-follows : (choices : List Choice) (c : ClauseTree) (i : ℕ) (l : Literal) → slice_get c.literals i ≡ Some l → IsTyped c → is_arrow (literal_type l) ≡ true → l.positive ≡ true → Follows choices c (record { clause = func_ext_positive c i l; rule = λ p. func_ext p i None })
equal-follows choices c i l e typed function positive = record {
  accepted = λ lines p within is h. record {
    parents = (within, tt);
    literals = literal-within lines p i c l is e;
    place = tt;
    types = record {
      clause_typed = typed-placed c i (domain (literal_type l) ∷ []) (equal (app l.left (variable (length c.variables) (domain (literal_type l)))) (app l.right (variable (length c.variables) (domain (literal_type l)))) ∷ []) typed (values-typed c l (typed-at c.variables c.literals i l typed e), tt);
      rule_typed = there (literal_of lines p i) l (λ k. IsArrowType (literal_type k) × (type_of k.left ≡ type_of k.right)) (literal-there lines p i c l is e) (arrow-type (literal_type l) function, (typed-at c.variables c.literals i l typed e).same_type);
    };
    symbols = there (literal_of lines p i) l (λ k. FuncExtHasSymbol lines (func_ext_positive c i l) i None k k.positive) (literal-there lines p i c l is e) (symbol-missing lines (func_ext_positive c i l) i l l.positive positive);
    shape = there (literal_of lines p i) l (λ k. FuncExtConcludes lines (clause_of lines p) i None k k.positive (func_ext_positive c i l)) (literal-there lines p i c l is e) (concludes-equal lines (clause_of lines p) (func_ext_positive c i l) i l l.positive positive (rw is refl));
  };
}

-- two literals that become one
typed-both : (variables : List SimpleType) (ls ks : List Literal) → AreTyped variables ls → AreTyped variables ks → AreTyped variables (ls ++ ks)
typed-both variables [] ks h g = g
typed-both variables (l ∷ ls) ks h g = (h.0, typed-both variables ls ks h.1 g)

pub factor-follows : (choices : List Choice) (c : ClauseTree) (i j : ℕ) (l k : Literal) → slice_get c.literals i ≡ Some l → slice_get c.literals j ≡ Some k → (i ≡ j → ⊥) → IsTyped c → l.positive ≡ k.positive → literal_type l ≡ literal_type k → Follows choices c (record { clause = factored c j l k; rule = λ p. factor p i j })
factor-follows choices c i j l k e f other typed positive type = record {
  accepted = λ lines p within is h.
      let s = typed-at c.variables c.literals i l typed e in
      let t = typed-at c.variables c.literals j k typed f in
      record {
        parents = within;
        literals = (literal-within lines p i c l is e, literal-within lines p j c k is f, other);
        place = tt;
        types = record {
          clause_typed = typed-both c.variables (without c.literals j) (unequal l.left k.left ∷ unequal l.right k.right ∷ []) (without-typed)
              (record { left_over = s.left_over; right_over = t.left_over; same_type = type }, (record { left_over = s.right_over; right_over = t.right_over; same_type = sym s.same_type ∙ type ∙ t.same_type }, tt));
          rule_typed = there (literal_of lines p i) l (λ x. IsSomeAnd (literal_of lines p j) (λ y. literal_type x ≡ literal_type y)) (literal-there lines p i c l is e) (there (literal_of lines p j) k (λ y. literal_type l ≡ literal_type y) (literal-there lines p j c k is f) type);
        };
        symbols = tt;
        shape = there (literal_of lines p i) l (λ x. IsSomeAnd (literal_of lines p j) (λ y. (x.positive ≡ y.positive) × (factored c j l k ≡ factored (clause_of lines p) j x y))) (literal-there lines p i c l is e)
            (there (literal_of lines p j) k (λ y. (l.positive ≡ y.positive) × (factored c j l k ≡ factored (clause_of lines p) j l y)) (literal-there lines p j c k is f) (positive, rw is refl));
      };
}
  where
    without-typed : AreTyped c.variables (without c.literals j)
    without-typed = subst (λ (vs : List SimpleType). AreTyped vs (without c.literals j)) (append-nil c.variables) (typed-placed c j [] [] typed tt)
