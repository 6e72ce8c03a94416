-- Each step towards a leaf is accepted.
use Rattle.std.proofs.Common.{ℕ, suc, ◌≡◌, ◌<◌, Bool, true, false, not, List, [], ◌∷◌, ◌++◌, length, map, take, drop, slice_get, Option, Some, None, refl, sym, ◌∙◌, ap, append-nil}
use Rattle.std.specs.Prelude.{IsSomeAnd}
use Rattle.std.proofs.lemmas.Option.{slice_get_within}
use Rattle.leo_q0.specs.Terms.{SimpleType}
use Rattle.leo_terms.specs.Tree.{Tree, app, variable, codomain, truth_type, type_of}
use Rattle.leo_terms.specs.Typing.{IsWellTyped}
use Rattle.leo_clause.specs.declared.record.LogicKind.{LogicKind}
use Rattle.leo_clause.specs.Choices.{Choice}
use Rattle.leo_clause.specs.Trees.{Literal, ClauseTree}
use Rattle.leo_clause.specs.Typed.{IsOver, IsTypedLiteral, AreTyped, IsTyped}
use Rattle.leo_kernel.specs.Conclusions.{NeverHolds, with_new, AreConverted, IsTakenApart, LogicConcludes}
use Rattle.leo_kernel.specs.Rows.{TakesApart, not_v, or_t, or_f1, or_f2, and_t1, and_t2, and_f, imp_t, imp_f1, imp_f2, eq_t, eq_f, flip, all_t, some_f}
use Rattle.leo_kernel.specs.Shapes.{truth_tree, valued}
use Rattle.leo_kernel.specs.Steps.{Line, arrange, drop_literal, take_apart, convert, clause_of, literal_of}
use Rattle.leo_kernel.specs.Symbols.{LogicHasSymbol}
use Rattle.leo_clausify.specs.Moves.{Descends}
use Rattle.leo_clausify.specs.Splitting.{normal_literal, turned}
use Rattle.leo_clausify.proofs.Origins.{placed-from, turned-from, literal-at, row-from, converted-from}
use Rattle.leo_clausify.proofs.Placing.{over-more, literal-more, typed-placed, typed-at, no-fresh, same_literal-turned, among-placed}
use Rattle.leo_clausify.proofs.Reducts.{over-normal, normal-type, normal-twice}

pub there : {X : Type 0} (o : Option X) (x : X) (P : X → Type 0) → o ≡ Some x → P x → IsSomeAnd o P
there o x P e h = rw e h

pub literal-there : (lines : List Line) (p i : ℕ) (parent : ClauseTree) (l : Literal) → clause_of lines p ≡ parent → slice_get parent.literals i ≡ Some l → literal_of lines p i ≡ Some l
literal-there lines p i parent l e h = ap (λ (c : ClauseTree). slice_get c.literals i) e ∙ h

pub literal-within : (lines : List Line) (p i : ℕ) (parent : ClauseTree) (l : Literal) → clause_of lines p ≡ parent → slice_get parent.literals i ≡ Some l → i < length (clause_of lines p).literals
literal-within lines p i parent l e h = slice_get_within (clause_of lines p).literals i l (literal-there lines p i parent l e h)

-- sides that change places
pub turned-typed : (variables : List SimpleType) (l : Literal) → IsTypedLiteral variables l → IsTypedLiteral variables (turned l)
turned-typed variables l h = record { left_over = h.right_over; right_over = h.left_over; same_type = sym h.same_type }

pub turned-follows : (choices : List Choice) (parent : ClauseTree) (i : ℕ) (l : Literal) → slice_get parent.literals i ≡ Some l → IsTyped parent → Descends choices parent (record { clause = with_new parent i [] (turned l ∷ []); rule = arrange })
turned-follows choices parent i l e typed = record {
  follows = record {
    accepted = λ lines p within is h. record {
      parents = within;
      literals = tt;
      place = tt;
      types = record {
        clause_typed = typed-placed parent i [] (turned l ∷ []) typed (no-fresh parent.variables (turned l ∷ []) (turned-typed parent.variables l (typed-at parent.variables parent.literals i l typed e), tt));
        rule_typed = tt;
      };
      symbols = tt;
      shape = rw is (append-nil parent.variables, among-placed parent.literals i l (turned l) e (same_literal-turned l));
    };
  };
  origin = λ o z h k p. (placed-from o z parent i [] (turned l ∷ []) h tt (turned-from o z l (literal-at o z parent.literals i l h.1 e)), tt);
}

-- a literal that is left out
pub omitted-follows : (choices : List Choice) (parent : ClauseTree) (i : ℕ) (l : Literal) → slice_get parent.literals i ≡ Some l → IsTyped parent → NeverHolds l → Descends choices parent (record { clause = with_new parent i [] []; rule = λ p. drop_literal p i })
omitted-follows choices parent i l e typed never = record {
  follows = record {
    accepted = λ lines p within is h. record {
      parents = within;
      literals = literal-within lines p i parent l is e;
      place = tt;
      types = record { clause_typed = typed-placed parent i [] [] typed tt; rule_typed = tt };
      symbols = tt;
      shape = there (literal_of lines p i) l (λ k. NeverHolds k × (with_new parent i [] [] ≡ with_new (clause_of lines p) i [] [])) (literal-there lines p i parent l is e) (never, rw is refl);
    };
  };
  origin = λ o z h k p. (placed-from o z parent i [] [] h tt tt, tt);
}

-- a literal about a truth value
pub value-typed : (variables : List SimpleType) (a : Tree) (v : Bool) → IsOver variables 0 a → type_of a ≡ truth_type → IsTypedLiteral variables (valued a v)
value-typed variables a true h e = record { left_over = h; right_over = (tt, tt); same_type = e }
value-typed variables a false h e = record { left_over = h; right_over = (tt, tt); same_type = e }

at-end : (xs : List SimpleType) (x : SimpleType) → slice_get (xs ++ x ∷ []) (length xs) ≡ Some x
at-end [] x = refl
at-end (y ∷ xs) x = at-end xs x

applied-typed : (variables : List SimpleType) (c : SimpleType) (p : Tree) (v : Bool) → IsOver variables 0 p → codomain (type_of p) ≡ truth_type → IsTypedLiteral (variables ++ c ∷ []) (valued (app p (variable (length variables) c)) v)
applied-typed variables c p v h e = value-typed (variables ++ c ∷ []) (app p (variable (length variables) c)) v (over-more variables (c ∷ []) 0 p h, at-end variables c) e

pub row-typed : (variables : List SimpleType) (kind : LogicKind) (l : Literal) (fresh : List SimpleType) (new : List Literal) → TakesApart (length variables) kind l fresh new → IsTypedLiteral variables l → IsWellTyped l.left → AreTyped (variables ++ fresh) new
row-typed variables kind l fresh new (not_v a v) h w = no-fresh variables (valued a (not v) ∷ []) (value-typed variables a (not v) h.left_over.0 w.2.0.1, tt)
row-typed variables kind l fresh new (or_t a b) h w = no-fresh variables (valued a true ∷ valued b true ∷ []) (value-typed variables a true h.left_over.0 w.2.0.1, (value-typed variables b true h.left_over.1 w.2.1.1, tt))
row-typed variables kind l fresh new (or_f1 a b) h w = no-fresh variables (valued a false ∷ []) (value-typed variables a false h.left_over.0 w.2.0.1, tt)
row-typed variables kind l fresh new (or_f2 a b) h w = no-fresh variables (valued b false ∷ []) (value-typed variables b false h.left_over.1 w.2.1.1, tt)
row-typed variables kind l fresh new (and_t1 a b) h w = no-fresh variables (valued a true ∷ []) (value-typed variables a true h.left_over.0 w.2.0.1, tt)
row-typed variables kind l fresh new (and_t2 a b) h w = no-fresh variables (valued b true ∷ []) (value-typed variables b true h.left_over.1 w.2.1.1, tt)
row-typed variables kind l fresh new (and_f a b) h w = no-fresh variables (valued a false ∷ valued b false ∷ []) (value-typed variables a false h.left_over.0 w.2.0.1, (value-typed variables b false h.left_over.1 w.2.1.1, tt))
row-typed variables kind l fresh new (imp_t a b) h w = no-fresh variables (valued a false ∷ valued b true ∷ []) (value-typed variables a false h.left_over.0 w.2.0.1, (value-typed variables b true h.left_over.1 w.2.1.1, tt))
row-typed variables kind l fresh new (imp_f1 a b) h w = no-fresh variables (valued a true ∷ []) (value-typed variables a true h.left_over.0 w.2.0.1, tt)
row-typed variables kind l fresh new (imp_f2 a b) h w = no-fresh variables (valued b false ∷ []) (value-typed variables b false h.left_over.1 w.2.1.1, tt)
row-typed variables kind l fresh new (eq_t c s t) h w = (literal-more variables [] (record { positive = true; left = s; right = t }) (record { left_over = h.left_over.0; right_over = h.left_over.1; same_type = w.2.0.1 ∙ sym w.2.1.1 }), tt)
row-typed variables kind l fresh new (eq_f c s t) h w = (literal-more variables [] (record { positive = false; left = s; right = t }) (record { left_over = h.left_over.0; right_over = h.left_over.1; same_type = w.2.0.1 ∙ sym w.2.1.1 }), tt)
row-typed variables kind l fresh new (flip a v) h w = no-fresh variables (valued a (not v) ∷ []) (value-typed variables a (not v) h.left_over (h.same_type ∙ value-type v), tt)
  where
    value-type : (v : Bool) → type_of (truth_tree v) ≡ truth_type
    value-type true = refl
    value-type false = refl
row-typed variables kind l fresh new (all_t c p) h w = (applied-typed variables c p true h.left_over.0 (ap codomain w.2.0.1), tt)
row-typed variables kind l fresh new (some_f c p) h w = (applied-typed variables c p false h.left_over.0 (ap codomain w.2.0.1), tt)

row-missing : (next : ℕ) (kind : LogicKind) (l : Literal) (fresh : List SimpleType) (new : List Literal) → TakesApart next kind l fresh new → (lines : List Line) (clause : ClauseTree) (i : ℕ) (k : Literal) → LogicHasSymbol lines clause i None k kind
row-missing next kind l fresh new (not_v a v) lines clause i k = refl
row-missing next kind l fresh new (or_t a b) lines clause i k = refl
row-missing next kind l fresh new (or_f1 a b) lines clause i k = refl
row-missing next kind l fresh new (or_f2 a b) lines clause i k = refl
row-missing next kind l fresh new (and_t1 a b) lines clause i k = refl
row-missing next kind l fresh new (and_t2 a b) lines clause i k = refl
row-missing next kind l fresh new (and_f a b) lines clause i k = refl
row-missing next kind l fresh new (imp_t a b) lines clause i k = refl
row-missing next kind l fresh new (imp_f1 a b) lines clause i k = refl
row-missing next kind l fresh new (imp_f2 a b) lines clause i k = refl
row-missing next kind l fresh new (eq_t c s t) lines clause i k = refl
row-missing next kind l fresh new (eq_f c s t) lines clause i k = refl
row-missing next kind l fresh new (flip a v) lines clause i k = refl
row-missing next kind l fresh new (all_t c p) lines clause i k = refl
row-missing next kind l fresh new (some_f c p) lines clause i k = refl

row-concludes : (next : ℕ) (kind : LogicKind) (l : Literal) (fresh : List SimpleType) (new : List Literal) → TakesApart next kind l fresh new → (lines : List Line) (parent clause : ClauseTree) (i : ℕ) (k : Literal) → IsTakenApart parent i kind k clause → LogicConcludes lines parent i None k kind clause
row-concludes next kind l fresh new (not_v a v) lines parent clause i k h = h
row-concludes next kind l fresh new (or_t a b) lines parent clause i k h = h
row-concludes next kind l fresh new (or_f1 a b) lines parent clause i k h = h
row-concludes next kind l fresh new (or_f2 a b) lines parent clause i k h = h
row-concludes next kind l fresh new (and_t1 a b) lines parent clause i k h = h
row-concludes next kind l fresh new (and_t2 a b) lines parent clause i k h = h
row-concludes next kind l fresh new (and_f a b) lines parent clause i k h = h
row-concludes next kind l fresh new (imp_t a b) lines parent clause i k h = h
row-concludes next kind l fresh new (imp_f1 a b) lines parent clause i k h = h
row-concludes next kind l fresh new (imp_f2 a b) lines parent clause i k h = h
row-concludes next kind l fresh new (eq_t c s t) lines parent clause i k h = h
row-concludes next kind l fresh new (eq_f c s t) lines parent clause i k h = h
row-concludes next kind l fresh new (flip a v) lines parent clause i k h = h
row-concludes next kind l fresh new (all_t c p) lines parent clause i k h = h
row-concludes next kind l fresh new (some_f c p) lines parent clause i k h = h

pub row-follows : (choices : List Choice) (parent : ClauseTree) (i : ℕ) (kind : LogicKind) (l : Literal) (fresh : List SimpleType) (new : List Literal) → slice_get parent.literals i ≡ Some l → IsTyped parent → IsWellTyped l.left → TakesApart (length parent.variables) kind l fresh new → Descends choices parent (record { clause = with_new parent i fresh new; rule = λ p. take_apart p i kind None })
row-follows choices parent i kind l fresh new e typed w row = record {
  follows = record {
    accepted = λ lines p within is h. record {
      parents = (within, tt);
      literals = literal-within lines p i parent l is e;
      place = tt;
      types = record {
        clause_typed = typed-placed parent i fresh new typed (row-typed parent.variables kind l fresh new row (typed-at parent.variables parent.literals i l typed e) w);
        rule_typed = tt;
      };
      symbols = there (literal_of lines p i) l (λ k. LogicHasSymbol lines (with_new parent i fresh new) i None k kind) (literal-there lines p i parent l is e) (row-missing (length parent.variables) kind l fresh new row lines (with_new parent i fresh new) i l);
      shape = there (literal_of lines p i) l (λ k. LogicConcludes lines (clause_of lines p) i None k kind (with_new parent i fresh new)) (literal-there lines p i parent l is e)
          (row-concludes (length parent.variables) kind l fresh new row lines (clause_of lines p) (with_new parent i fresh new) i l (rw is (record { fresh = fresh; new = new; row = row; concluded = refl })));
    };
  };
  origin = λ o z h k p. (let r = row-from o z (length parent.variables) kind l fresh new row (literal-at o z parent.literals i l h.1 e) in (placed-from o z parent i fresh new h r.0 r.1, tt));
}

-- normal forms

-- both sides of each literal are well typed
abbrev pub AreWell : List Literal → Type 0
AreWell [] = Unit {0}
AreWell (l ∷ ls) = IsWellTyped l.left × IsWellTyped l.right × AreWell ls

pub normals-typed : (variables : List SimpleType) (ls : List Literal) → AreWell ls → AreTyped variables ls → AreTyped variables (map normal_literal ls)
normals-typed variables [] w h = tt
normals-typed variables (l ∷ ls) w h = (
  record {
    left_over = over-normal variables l.left 0 w.0 h.0.left_over;
    right_over = over-normal variables l.right 0 w.1 h.0.right_over;
    same_type = normal-type l.left w.0 ∙ h.0.same_type ∙ sym (normal-type l.right w.1);
  },
  normals-typed variables ls w.2 h.1,
)

converted-themselves : (ls : List Literal) → AreConverted ls ls
converted-themselves [] = tt
converted-themselves (l ∷ ls) = (record { polarity = refl; left_form = refl; right_form = refl }, converted-themselves ls)

converted-normals : (ls rest : List Literal) → AreWell ls → AreConverted (ls ++ rest) (map normal_literal ls ++ rest)
converted-normals [] rest w = converted-themselves rest
converted-normals (l ∷ ls) rest w = (record { polarity = refl; left_form = normal-twice l.left w.0; right_form = normal-twice l.right w.1 }, converted-normals ls rest w.2)

converted-after : (front : List Literal) (ls ks : List Literal) → AreConverted ls ks → AreConverted (front ++ ls) (front ++ ks)
converted-after [] ls ks h = h
converted-after (l ∷ front) ls ks h = (record { polarity = refl; left_form = refl; right_form = refl }, converted-after front ls ks h)

pub converted-follows : (choices : List Choice) (c : ClauseTree) (i : ℕ) (fresh : List SimpleType) (new : List Literal) → IsTyped c → AreTyped (c.variables ++ fresh) new → AreWell new → Descends choices (with_new c i fresh new) (record { clause = with_new c i fresh (map normal_literal new); rule = convert })
converted-follows choices c i fresh new typed h w = record {
  follows = record {
    accepted = λ lines p within is k. record {
      parents = within;
      literals = tt;
      place = tt;
      types = record { clause_typed = typed-placed c i fresh (map normal_literal new) typed (normals-typed (c.variables ++ fresh) new w h); rule_typed = tt };
      symbols = tt;
      shape = rw is (refl, converted-after (take i c.literals) (new ++ drop (suc i) c.literals) (map normal_literal new ++ drop (suc i) c.literals) (converted-normals new (drop (suc i) c.literals) w));
    };
  };
  origin = λ o z h k p. (converted-from o z c i fresh new h, tt);
}
