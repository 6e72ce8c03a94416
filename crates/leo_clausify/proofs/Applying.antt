-- Closed terms of normal terms, and what they are with the variables as arguments.
use Rattle.std.proofs.Common.{ℕ, zero, suc, ◌≡◌, ◌<◌, true, List, [], ◌∷◌, length, slice_get, Some, refl, sym, ◌∙◌, ap, arith}
use Rattle.leo_q0.specs.Terms.{SimpleType, base, arrow}
use Rattle.leo_terms.specs.Tree.{codomain, Tree, variable, bound, app, type_of, lifted}
use Rattle.leo_terms.specs.Typing.{IsWellTyped, IsPresent}
use Rattle.leo_terms.specs.Reduction.{IsNormal}
use Rattle.leo_terms.specs.NormalForm.{type_size, contracted, expanded, eta_long, normal_form}
use Rattle.leo_terms.proofs.CallerLemmas.{normal_form-itself}
use Rattle.leo_terms.proofs.TreeLemmas.{type_of-lifted}
use Rattle.leo_clause.specs.Arranging.{variable_type}
use Rattle.leo_clause.specs.Renaming.{AreBelow}
use Rattle.leo_clause.specs.Typed.{IsOver}
use Rattle.leo_kernel.specs.Choosing.{applied_to, AreVariablesOf}
use Rattle.leo_clausify.specs.Applied.{function_type}
use Rattle.leo_clausify.specs.Choosing.{indexed, function_of, variable_terms}
use Rattle.leo_clausify.proofs.Closures.{indexed-type, indexed-present, indexed-form, indexed-typed, indexed-bound, indexed-over, put-back}

pub declared : (variables : List SimpleType) (n : ℕ) → n < length variables → slice_get variables n ≡ Some (variable_type variables n)
declared [] n l = absurd (omega arith)
declared (a ∷ variables) zero l = refl
declared (a ∷ variables) (suc n) l = declared variables n (omega arith)

type-expanded : (a : SimpleType) (t : Tree) → type_of t ≡ a → type_of (expanded a t) ≡ a
type-expanded (base n) t e = e
type-expanded (arrow a b) t e = ap (arrow a) (type-expanded b (app (lifted 0 1 t) (expanded a (bound 0 a))) (ap codomain (type_of-lifted t 0 1 ∙ e)))

module _ (variables : List SimpleType) where
  -- a normal term over the variables, without loose indices
  pub record IsGood (t : Tree) : Type 0 where
    pub normal : IsNormal t
    pub typed : IsWellTyped t
    pub present : IsPresent t
    pub over : IsOver variables 0 t

  pub function-good : (ns : List ℕ) (t : Tree) → AreBelow (length variables) ns → IsGood t → IsGood (function_of variables ns t)
  function-good [] t h g = g
  function-good (n ∷ ns) t h g =
      let f = function-good ns t h.1 g in
      let s = function_of variables ns t in
      let d = declared variables n h.0 in
      record {
        normal = indexed-form n s true 0 f.normal;
        typed = (indexed-typed n s 0 f.typed, indexed-present n s 0 f.present, indexed-bound variables n (variable_type variables n) d s 0 f.over);
        present = tt;
        over = indexed-over variables n (variable_type variables n) d s 0 f.over;
      }

  pub function-type : (ns : List ℕ) (t : Tree) → type_of (function_of variables ns t) ≡ function_type variables ns (type_of t)
  function-type [] t = refl
  function-type (n ∷ ns) t = ap (arrow (variable_type variables n)) (indexed-type n (function_of variables ns t) 0 ∙ function-type ns t)

  -- one argument
  contract-variable : (n : ℕ) (s : Tree) → n < length variables → IsGood s → contracted (eta_long (variable n (variable_type variables n))) (indexed n 0 s) ≡ s
  contract-variable n s l g =
      let a = variable_type variables n in
      put-back variables n a (declared variables n l) (type_size (type_of (expanded a (variable n a)))) (sym (ap type_size (type-expanded a (variable n a) refl))) s g.normal g.typed g.over

  pub applied-form : (ns : List ℕ) (t f : Tree) → AreBelow (length variables) ns → IsGood t → normal_form f ≡ function_of variables ns t → normal_form (applied_to f (variable_terms variables ns)) ≡ t
  applied-form [] t f h g e = e
  applied-form (n ∷ ns) t f h g e =
      let x = variable n (variable_type variables n) in
      let v : normal_form (app f x) ≡ function_of variables ns t = rw e (contract-variable n (function_of variables ns t) h.0 (function-good ns t h.1 g)) in
      applied-form ns t (app f x) h.1 g v

  pub function-applied : (ns : List ℕ) (t : Tree) → AreBelow (length variables) ns → IsGood t → normal_form (applied_to (function_of variables ns t) (variable_terms variables ns)) ≡ t
  function-applied ns t h g =
      let f = function-good ns t h g in
      applied-form ns t (function_of variables ns t) h g (normal_form-itself (function_of variables ns t) f.normal f.typed)

  pub applied-typed : (ns : List ℕ) (f : Tree) (a : SimpleType) → IsWellTyped f → IsPresent f → type_of f ≡ function_type variables ns a → IsWellTyped (applied_to f (variable_terms variables ns)) × (type_of (applied_to f (variable_terms variables ns)) ≡ a)
  applied-typed [] f a w p e = (w, e)
  applied-typed (n ∷ ns) f a w p e =
      let b = variable_type variables n in
      let d : codomain (type_of f) ≡ function_type variables ns a = ap codomain e in
      let k : type_of f ≡ arrow b (codomain (type_of f)) = e ∙ ap (arrow b) (sym d) in
      applied-typed ns (app f (variable n b)) a (w, tt, p, tt, k) tt d

  pub terms-variables : (ns : List ℕ) → AreBelow (length variables) ns → AreVariablesOf variables (variable_terms variables ns)
  terms-variables [] h = tt
  terms-variables (n ∷ ns) h = (declared variables n h.0, terms-variables ns h.1)

  pub applied-over : (ns : List ℕ) (f : Tree) → AreBelow (length variables) ns → IsOver variables 0 f → IsOver variables 0 (applied_to f (variable_terms variables ns))
  applied-over [] f h o = o
  applied-over (n ∷ ns) f h o = applied-over ns (app f (variable n (variable_type variables n))) h.1 (o, declared variables n h.0)
