-- Terms that are put in for the variables of a clause.
use Rattle.std.proofs.Common.{ℕ, zero, suc, ◌≡◌, ◌≤◌, ◌+◌, List, [], ◌∷◌, map, slice_get, Some, refl, sym, ◌∙◌, ap, arith}
use Rattle.leo_q0.specs.Terms.{SimpleType}
use Rattle.leo_terms.specs.Facts.{loose_range}
use Rattle.leo_terms.specs.Tree.{codomain, Tree, variable, bound, symbol, app, lam, logic, absent, type_of, lifted, substituted, IsGiven}
use Rattle.leo_terms.proofs.CallerLemmas.{lifted-closed}
use Rattle.leo_terms.proofs.TreeLemmas.{type_of-lifted}
use Rattle.leo_clause.specs.Choices.{Choice}
use Rattle.leo_clause.specs.Renaming.{AreGiven, substituted_literal}
use Rattle.leo_clause.specs.Trees.{Literal, ClauseTree}
use Rattle.leo_clause.specs.Typed.{IsOver, AreTyped, IsTyped}
use Rattle.leo_kernel.specs.Conditions.{AreTermsFor}
use Rattle.leo_kernel.specs.Steps.{inst}
use Rattle.leo_clausify.specs.Moves.{Follows}

-- terms without loose indices
pub range-over : (variables : List SimpleType) (t : Tree) (d : ℕ) → IsOver variables d t → loose_range t ≤ d
range-over variables (variable n b) d h = omega arith
range-over variables (bound i b) d h = omega arith
range-over variables (symbol s b) d h = omega arith
range-over variables (app g x) d h = let p = range-over variables g d h.0 in let q = range-over variables x d h.1 in omega arith
range-over variables (lam b t) d h = let p = range-over variables t (d + 1) h in omega arith
range-over variables (logic c x y) d h = let p = range-over variables x d h.0 in let q = range-over variables y d h.1 in omega arith
range-over variables absent d h = omega arith

pub over-range : (variables : List SimpleType) (t : Tree) (d k : ℕ) → loose_range t ≤ k → IsOver variables d t → IsOver variables k t
over-range variables (variable n b) d k l h = h
over-range variables (bound i b) d k l h = omega arith
over-range variables (symbol s b) d k l h = tt
over-range variables (app g x) d k l h = (over-range variables g d k (omega arith) h.0, over-range variables x d k (omega arith) h.1)
over-range variables (lam b t) d k l h = over-range variables t (d + 1) (k + 1) (omega arith) h
over-range variables (logic c x y) d k l h = (over-range variables x d k (omega arith) h.0, over-range variables y d k (omega arith) h.1)
over-range variables absent d k l h = tt

pub lifted-over : (variables : List SimpleType) (t : Tree) (k : ℕ) → IsOver variables 0 t → lifted 0 k t ≡ t
lifted-over variables t k h = lifted-closed t 0 k (range-over variables t 0 h)

-- a term is given for a variable
pub record IsGivenFor (new : List SimpleType) (given : List Tree) (n : ℕ) (a : SimpleType) : Type 0 where
  pub term : Tree
  pub stands : slice_get given n ≡ Some term
  pub type : type_of term ≡ a
  pub over : IsOver new 0 term

given-at : (new types : List SimpleType) (given : List Tree) (n : ℕ) (a : SimpleType) → AreTermsFor new types given → slice_get types n ≡ Some a → IsGivenFor new given n a
given-at new [] given n a h e = absurd (cc)
given-at new (b ∷ types) [] n a h e = absurd h
given-at new (b ∷ types) (t ∷ given) zero a h e = (let f : b ≡ a = cc in record { term = t; stands = refl; type = h.0 ∙ f; over = h.1 })
given-at new (b ∷ types) (t ∷ given) (suc n) a h e = (let r = given-at new types given n a h.2 e in record { term = r.term; stands = r.stands; type = r.type; over = r.over })

module _ (new types : List SimpleType) (given : List Tree) (terms : AreTermsFor new types given) where
  put-over : (t : Tree) (d k : ℕ) → IsOver types d t → IsOver new d (substituted given k t)
  put-over (variable n a) d k o =
      let r = given-at new types given n a terms o in
      let z = range-over new r.term 0 r.over in
      rw (r.stands, lifted-over new r.term k r.over) (over-range new r.term 0 d (omega arith) r.over)
  put-over (bound i a) d k o = o
  put-over (symbol s a) d k o = tt
  put-over (app f x) d k o = (put-over f d k o.0, put-over x d k o.1)
  put-over (lam a t) d k o = put-over t (d + 1) (k + 1) o
  put-over (logic c x y) d k o = (put-over x d k o.0, put-over y d k o.1)
  put-over absent d k o = tt

  put-type : (t : Tree) (d k : ℕ) → IsOver types d t → type_of (substituted given k t) ≡ type_of t
  put-type (variable n a) d k o = (let r = given-at new types given n a terms o in rw r.stands (type_of-lifted r.term 0 k ∙ r.type))
  put-type (bound i a) d k o = refl
  put-type (symbol s a) d k o = refl
  put-type (app f x) d k o = ap codomain (put-type f d k o.0)
  put-type (lam a t) d k o = rw (put-type t (d + 1) (k + 1) o) refl
  put-type (logic c x y) d k o = refl
  put-type absent d k o = refl

  put-given : (t : Tree) (d : ℕ) → IsOver types d t → IsGiven given t
  put-given (variable n a) d o = (let r = given-at new types given n a terms o in rw r.stands r.type)
  put-given (bound i a) d o = tt
  put-given (symbol s a) d o = tt
  put-given (app f x) d o = (put-given f d o.0, put-given x d o.1)
  put-given (lam a t) d o = put-given t (d + 1) o
  put-given (logic c x y) d o = (put-given x d o.0, put-given y d o.1)
  put-given absent d o = tt

  all-typed : (ls : List Literal) → AreTyped types ls → AreTyped new (map (substituted_literal given) ls)
  all-typed [] h = tt
  all-typed (l ∷ ls) h = (
    record {
      left_over = put-over l.left 0 0 h.0.left_over;
      right_over = put-over l.right 0 0 h.0.right_over;
      same_type = put-type l.left 0 0 h.0.left_over ∙ h.0.same_type ∙ sym (put-type l.right 0 0 h.0.right_over);
    },
    all-typed ls h.1,
  )

  pub all-given : (ls : List Literal) → AreTyped types ls → AreGiven given ls
  all-given [] h = tt
  all-given (l ∷ ls) h = (put-given l.left 0 h.0.left_over, put-given l.right 0 h.0.right_over, all-given ls h.1)

-- an instance is accepted
pub instance-follows : (choices : List Choice) (c : ClauseTree) (new : List SimpleType) (given : List Tree) → IsTyped c → AreTermsFor new c.variables given → Follows choices c (record { clause = record { variables = new; literals = map (substituted_literal given) c.literals }; rule = λ p. inst p given })
instance-follows choices c new given typed terms = record {
  accepted = λ lines p within is h. record {
    parents = within;
    literals = tt;
    place = tt;
    types = record {
      clause_typed = all-typed new c.variables given terms c.literals typed;
      rule_typed = rw is (terms, all-given new c.variables given terms c.literals typed);
    };
    symbols = tt;
    shape = rw is refl;
  };
}
