-- The closed term for the argument at which two functions differ, and the claim about its symbol, in banks that grow.
use Rattle.std.proofs.Common.{ℕ, nat_eq, ◌≡◌, ◌∙◌, ◌<◌, false, List, [], ◌∷◌, length, map, slice_get, Some, refl, sym, ap, subst, arith}
use Rattle.leo_q0.specs.Terms.{SimpleType}
use Rattle.leo_terms.specs.Contents.{Contents, Extends, IsTerm, IsApplicable, tree_at, type_at, type_number, symbol_type}
use Rattle.leo_terms.specs.Tree.{codomain, Tree, variable, symbol, app, type_of}
use Rattle.leo_terms.specs.Typing.{IsWellTyped}
use Rattle.leo_terms.proofs.CallerLemmas.{applicable, new_bank, extends-trans, term-kept, tree-kept, type-kept, arrow-kept, type_number-within, type_of-term, type-shared}
use Rattle.leo_clause.specs.Arranging.{firsts, occurring, variable_type}
use Rattle.leo_clause.specs.Choices.{Choice, choice_at, symbol_of}
use Rattle.leo_clause.specs.Renaming.{AreBelow}
use Rattle.leo_clause.specs.Trees.{literal_at}
use Rattle.leo_clause.specs.declared.clause.Lit.{Lit}
use Rattle.leo_clause.specs.Typed.{AreTypesOf, IsOver}
use Rattle.leo_kernel.specs.Choosing.{Claim, difference, difference_in, claimed, chosen, applied_to}
use Rattle.leo_kernel.specs.ChosenClaims.{IsFunctionOf}
use Rattle.leo_kernel.specs.Shapes.{domain, literal_type}
use Rattle.leo_kernel.proofs.ChosenMaking.{function-kept}
use Rattle.leo_kernel.proofs.Growing.{types-kept}
use Rattle.leo_clausify.specs.Applied.{function_type}
use Rattle.leo_clausify.specs.Choosing.{AreInOrder, Chooses, function_of, variables_of, variable_terms, chosen_form, closed_form, chosen_arguments}
use Rattle.leo_clausify.specs.Literals.{IsLiteral}
use Rattle.leo_clausify.specs.Picking.{IsPlaced, IsTree}
use Rattle.leo_clausify.proofs.Applying.{function-type}
use Rattle.leo_clausify.proofs.ClosedForms.{chooses-term}
use Rattle.leo_clausify.proofs.Functions.{function-over}
use Rattle.leo_clausify.proofs.Giving.{length-map}
use Rattle.leo_clausify.proofs.Picks.{items-kept, items-grow}
use Rattle.leo_clausify.proofs.Sealed.{function-closed}
use Rattle.leo_ext.specs.declared.func_ext.Arrow.{Arrow}
use Rattle.leo_ext.specs.Functions.{AreFunctions, IsPickedFor}
use Rattle.leo_ext.proofs.Differing.{form-good, form-type, form-below}

-- the claim of a literal
abbrev pub claim_of : Contents → Lit → Claim
claim_of a l = difference_in (literal_at a l)

pub functions-kept : {a b : Contents} → Extends a b → (l : Lit) (w : Arrow) → AreFunctions a l w → AreFunctions b l w
functions-kept e l w h =
    let f = tree-kept e l.left h.first.within in
    record {
      arrow = rw f h.arrow;
      from = rw (f, type-kept e w.from h.first.from_within) h.from;
      first = function-kept e h.first;
      second = function-kept e h.second;
    }

pub claim-kept : {a b : Contents} → Extends a b → (l : Lit) (w : Arrow) → AreFunctions a l w → claim_of b l ≡ claim_of a l
claim-kept e l w h = rw (tree-kept e l.left h.first.within, tree-kept e l.right h.second.within) refl

-- the chosen term is that of the claim
pub chosen-made : {a b : Contents} (l : Lit) (w : Arrow) → AreFunctions a l w → (t : ℕ) → IsTerm b t w.from (chosen (difference (type_at a w.from) (tree_at a l.left) (tree_at a l.right))) → IsTerm b t w.from (chosen (claim_of a l))
chosen-made {a} {b} l w h t m = rw h.from m

module _ (a : Contents) (vars : List ℕ) (l : Lit) (left : IsOver (map (type_at a) vars) 0 (tree_at a l.left)) (right : IsOver (map (type_at a) vars) 0 (tree_at a l.right)) (typed : IsWellTyped (chosen (claim_of a l))) where
  abbrev V : List SimpleType
  V = map (type_at a) vars

  abbrev D : SimpleType
  D = domain (literal_type (literal_at a l))

  abbrev E : Tree
  E = chosen_form (claim_of a l)

  pub order-below : (keys : List ℕ) → keys ≡ variables_of E → AreBelow (length vars) keys
  order-below keys e = rw e (let h = form-below V D (tree_at a l.left) (tree_at a l.right) left right typed in let z = length-map (type_at a) vars in rw z at h)

  pub closed-over : IsOver [] 0 (closed_form V (claim_of a l))
  closed-over = function-closed V E (function-over V (variables_of E) E (form-below V D (tree_at a l.left) (tree_at a l.right) left right typed) (form-good V D (tree_at a l.left) (tree_at a l.right) left right typed).over)

  pub closed-type : type_of (closed_form V (claim_of a l)) ≡ function_type V (variables_of E) D
  closed-type = function-type V (variables_of E) E ∙ ap (function_type V (variables_of E)) (form-type V D (tree_at a l.left) (tree_at a l.right) left right typed)

  module _ {b : Contents} (e : Extends a b) (types : AreTypesOf a vars) (form : ℕ) (made : IsTree b form E) where
    pub keys-are : (keys : List ℕ) → keys ≡ firsts nat_eq [] (occurring (tree_at b form)) → keys ≡ variables_of E
    keys-are keys order = order ∙ ap variables_of made.reads

    pub form-over : IsOver (map (type_at b) vars) 0 (tree_at b form)
    form-over = rw (types-kept e vars types, made.reads) (form-good V D (tree_at a l.left) (tree_at a l.right) left right typed).over

    pub closed-made : (keys : List ℕ) → keys ≡ firsts nat_eq [] (occurring (tree_at b form)) → (d : Contents) (term : ℕ) → IsTree d term (function_of (map (type_at b) vars) keys (tree_at b form)) → IsTree d term (closed_form V (claim_of a l))
    closed-made keys order d term h = (let k = keys-are keys order in record { within = h.within; reads = h.reads ∙ rw (types-kept e vars types, made.reads, k) refl })

-- a function applied to all its variables
front-type : (variables : List SimpleType) (keys : List ℕ) (f : Tree) (a : SimpleType) → type_of f ≡ function_type variables keys a → type_of (applied_to f (variable_terms variables keys)) ≡ a
front-type variables [] f a e = e
front-type variables (n ∷ keys) f a e = front-type variables keys (app f (variable n (variable_type variables n))) a (ap codomain e)

-- the claim about a symbol
module _ {a b : Contents} (f : Extends a b) (vars keys : List ℕ) (head whole i : ℕ) (l : Lit) (w : Arrow) (functions : AreFunctions a l w) (types : AreTypesOf a vars) (function : type_at a (symbol_type a head) ≡ function_type (map (type_at a) vars) keys (type_at a w.from)) (made : IsTerm b whole i (symbol head (type_at a (symbol_type a head)))) where
  pub head-function : (x : SimpleType) × (type_of (tree_at b whole) ≡ function_type (map (type_at b) vars) keys x)
  head-function = (type_at a w.from, ap type_of made.reads ∙ function ∙ ap (λ (vs : List SimpleType). function_type vs keys (type_at a w.from)) (sym (types-kept f vars types)))

  module _ {c : Contents} (g : Extends b c) (x : ℕ) (applied : IsTree c x (applied_to (tree_at b whole) (variable_terms (map (type_at b) vars) keys))) where
    abbrev said : Tree
    said = applied_to (symbol head (type_at a (symbol_type a head))) (variable_terms (map (type_at a) vars) keys)

    argument-reads : tree_at c x ≡ said
    argument-reads = applied.reads ∙ rw (made.reads, types-kept f vars types) refl

    argument-number : type_number c x ≡ w.from
    argument-number =
        let s = new_bank g in
        let h = extends-trans f g in
        let m = h.types_more in
        let q = functions.first.from_within in
        let t : type_of (tree_at c x) ≡ type_at a w.from = ap type_of argument-reads ∙ front-type (map (type_at a) vars) keys (symbol head (type_at a (symbol_type a head))) (type_at a w.from) function in
        type-shared s (type_number c x) w.from (type_number-within s x applied.within) (omega arith) (sym (type_of-term s x applied.within) ∙ t ∙ sym (type-kept h w.from functions.first.from_within))

    argument-term : IsTerm c x w.from (tree_at c x)
    argument-term = record { within = applied.within; type_is = argument-number; reads = refl }

    function-term : {d : Contents} → Extends a d → (p : ℕ) → IsFunctionOf a w.from w.to p → IsTerm d p (type_number a p) (tree_at a p)
    function-term e p h = term-kept e (record { within = h.within; type_is = refl; reads = refl })

    pub first-applies : IsApplicable c l.left x
    first-applies = (applicable (function-term (extends-trans f g) l.left functions.first) argument-term (arrow-kept (extends-trans f g) functions.first.typed)).0

    pub second-applies : {d : Contents} → Extends c d → IsApplicable d l.right x
    second-applies h = (applicable (function-term (extends-trans f (extends-trans g h)) l.right functions.second) (term-kept h argument-term) (arrow-kept (extends-trans f (extends-trans g h)) functions.second.typed)).0

    pub difference-made : {d e : Contents} → Extends c d → Extends d e → (s t i j : ℕ) → IsTerm d s i (app (tree_at c l.left) (tree_at c x)) → IsTerm e t j (app (tree_at d l.right) (tree_at d x)) → IsLiteral e (record { pos = false; left = s; right = t }) (claimed (claim_of a l) said)
    difference-made {d} {e} h k s t i j m n =
        let z = extends-trans f g in
        let first : tree_at e s ≡ app (tree_at a l.left) said = (term-kept k m).reads ∙ rw (tree-kept z l.left functions.first.within, argument-reads) refl in
        let second : tree_at e t ≡ app (tree_at a l.right) said = n.reads ∙ rw (tree-kept (extends-trans z h) l.right functions.second.within, tree-kept h x applied.within, argument-reads) refl in
        record { left_within = (term-kept k m).within; right_within = n.within; reads = rw (first, second) refl }

-- an item for the closed term: banks a, b with the term, d with the item and e with the claim
module _ {a b d : Contents} (f : Extends a b) (g : Extends b d) (vars keys : List ℕ) (before after : List (ℕ × ℕ)) (l : Lit) (w : Arrow) (term place head : ℕ) (types : AreTypesOf a vars) (functions : AreFunctions a l w) (left : IsOver (map (type_at a) vars) 0 (tree_at a l.left)) (right : IsOver (map (type_at a) vars) 0 (tree_at a l.right)) (typed : IsWellTyped (chosen (claim_of a l))) (order : AreInOrder a before) (made : IsTree b term (closed_form (map (type_at a) vars) (claim_of a l))) (are : keys ≡ variables_of (chosen_form (claim_of a l))) (placed : IsPlaced b d before after term place) (is : (item : ℕ × ℕ) → slice_get after place ≡ Some item → head ≡ item.0) where
  abbrev VS : List SimpleType
  VS = map (type_at a) vars

  item-term : tree_at d placed.item.1 ≡ closed_form VS (claim_of a l)
  item-term = chooses-term 0 (map (choice_at b) before) (map (choice_at d) after) (tree_at b term) place (choice_at d placed.item) (placed.chooses 0 (omega arith)) ∙ made.reads

  pub head-within : head < length d.symbols
  head-within = rw (is placed.item placed.stands) (placed.of_bank place placed.item placed.stands).symbol_within

  head-type : type_at d (symbol_type d head) ≡ type_of (tree_at d placed.item.1)
  head-type =
      let h = placed.of_bank place placed.item placed.stands in
      rw (is placed.item placed.stands) (ap (type_at d) h.typed ∙ sym (type_of-term (new_bank g) placed.item.1 h.term_within))

  pub head-types : type_at d (symbol_type d head) ≡ function_type (map (type_at d) vars) keys (type_at d w.from)
  head-types =
      let h = extends-trans f g in
      head-type ∙ ap type_of item-term ∙ closed-type a vars l left right typed ∙ rw (types-kept h vars types, type-kept h w.from functions.first.from_within, are, functions.from) refl

  pub picked-order : {e : Contents} → Extends d e → AreInOrder e after
  picked-order {e} h = record { of_bank = items-grow h after placed.of_bank; choices = rw (items-kept h after placed.of_bank) placed.choices }

  pub picked-made : {e : Contents} (h : Extends d e) (new : Lit) → IsLiteral e new (claimed (claim_of d l) (applied_to (symbol head (type_at d (symbol_type d head))) (variable_terms (map (type_at d) vars) keys))) → IsPickedFor a e before after VS (claim_of a l) (record { place = place; new = new })
  picked-made {e} h new literal =
      let x = extends-trans f g in
      let item = placed.item in
      let old = items-kept f before order.of_bank in
      let now = items-kept h after placed.of_bank in
      let one : symbol head (type_at d (symbol_type d head)) ≡ symbol_of (choice_at d item) = ap (λ (n : ℕ). symbol n (type_at d (symbol_type d head))) (is item placed.stands) ∙ ap (symbol item.0) head-type in
      let chain : claimed (claim_of d l) (applied_to (symbol head (type_at d (symbol_type d head))) (variable_terms (map (type_at d) vars) keys)) ≡ claimed (claim_of a l) (applied_to (symbol_of (choice_at d item)) (chosen_arguments VS (claim_of a l))) =
      ap (λ (cl : Claim). claimed cl (applied_to (symbol head (type_at d (symbol_type d head))) (variable_terms (map (type_at d) vars) keys))) (claim-kept x l w functions)
      ∙ ap (λ (t : Tree). claimed (claim_of a l) (applied_to t (variable_terms (map (type_at d) vars) keys))) one
      ∙ ap (λ (vs : List SimpleType). claimed (claim_of a l) (applied_to (symbol_of (choice_at d item)) (variable_terms vs keys))) (types-kept x vars types)
      ∙ ap (λ (ns : List ℕ). claimed (claim_of a l) (applied_to (symbol_of (choice_at d item)) (variable_terms VS ns))) are in
      record {
        item = choice_at d item;
        chooses = λ known low. (
            let s = f.symbols_more in
            let chooses : Chooses known (map (choice_at b) before) (tree_at b term) (map (choice_at d) after) place (choice_at d item) = placed.chooses known (omega arith) in
            subst (λ (cs : List Choice). Chooses known (map (choice_at a) before) (closed_form VS (claim_of a l)) cs place (choice_at d item)) (sym now)
            (subst (λ (t : Tree). Chooses known (map (choice_at a) before) t (map (choice_at d) after) place (choice_at d item)) made.reads
            (subst (λ (cs : List Choice). Chooses known cs (tree_at b term) (map (choice_at d) after) place (choice_at d item)) old chooses))
            );
        said = subst (IsLiteral e new) chain literal;
        in_order = picked-order h;
      }
