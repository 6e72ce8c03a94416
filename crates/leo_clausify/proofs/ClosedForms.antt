-- The closed term for a chosen one, and the claim about its symbol, in banks that grow.
use Rattle.std.proofs.Common.{ℕ, nat_eq, ◌≡◌, ◌∙◌, ◌<◌, ◌≤◌, Bool, List, [], ◌∷◌, length, map, slice_get, Some, refl, sym, ap, subst, arith}
use Rattle.leo_q0.specs.Terms.{SimpleType}
use Rattle.leo_terms.specs.Contents.{Contents, Extends, IsTerm, IsApplicable, tree_at, type_at, type_number, symbol_type}
use Rattle.leo_terms.specs.Tree.{codomain, Tree, variable, symbol, app, type_of}
use Rattle.leo_terms.specs.Typing.{IsWellTyped}
use Rattle.leo_terms.proofs.CallerLemmas.{new_bank, extends-trans, tree-kept, type-kept, type_number-kept, arrow-kept, type_number-within, type_of-term, type-shared}
use Rattle.leo_clause.specs.Arranging.{firsts, occurring, variable_type}
use Rattle.leo_clause.specs.Choices.{Choice, choice_at, symbol_of}
use Rattle.leo_clause.specs.Renaming.{AreBelow}
use Rattle.leo_clause.specs.Trees.{literal_at}
use Rattle.leo_clause.specs.declared.clause.Lit.{Lit}
use Rattle.leo_clause.specs.Typed.{AreTypesOf, IsOver}
use Rattle.leo_kernel.specs.Choosing.{Claim, value, claimed, chosen, applied_to}
use Rattle.leo_kernel.specs.Shapes.{valued}
use Rattle.leo_kernel.specs.Tops.{IsPropertyOf}
use Rattle.leo_kernel.proofs.Growing.{types-kept, property-applies}
use Rattle.leo_clausify.specs.Applied.{function_type}
use Rattle.leo_clausify.specs.Choosing.{AreInOrder, Chooses, earliest, added, function_of, variables_of, variable_terms, chosen_form, closed_form, chosen_arguments}
use Rattle.leo_clausify.specs.Literals.{AreLiterals}
use Rattle.leo_clausify.specs.Picking.{IsPicked, IsPlaced, IsTree}
use Rattle.leo_clausify.proofs.Applying.{function-type}
use Rattle.leo_clausify.proofs.Banks.{within-grow}
use Rattle.leo_clausify.proofs.Branching.{get-map}
use Rattle.leo_clausify.proofs.Claiming.{form-good, form-type, form-below}
use Rattle.leo_clausify.proofs.Functions.{function-over}
use Rattle.leo_clausify.proofs.Giving.{length-map}
use Rattle.leo_clausify.proofs.Picks.{items-kept, items-grow}
use Rattle.leo_clausify.proofs.Sealed.{function-closed}

pub property-kept : {c d : Contents} → Extends c d → {i p : ℕ} → IsPropertyOf c i p → IsPropertyOf d i p
property-kept {c} {d} e {i} {p} h =
    let m = e.types_more in
    let l = h.type_within in
    record { type_within = omega arith; within = within-grow e p h.within; typed = rw (type_number-kept e p h.within) (arrow-kept e h.typed) }

-- the chosen term for a property of a bank
abbrev pub claim_of : Contents → ℕ → ℕ → Bool → Claim
claim_of a ty p v = value (type_at a ty) (tree_at a p) v

pub claim-kept : {a b : Contents} → Extends a b → (ty p : ℕ) (v : Bool) → IsPropertyOf a ty p → claim_of b ty p v ≡ claim_of a ty p v
claim-kept e ty p v h = rw (type-kept e ty h.type_within, tree-kept e p h.within) refl

module _ (a : Contents) (vars : List ℕ) (ty p : ℕ) (v : Bool) (over : IsOver (map (type_at a) vars) 0 (tree_at a p)) (typed : IsWellTyped (chosen (claim_of a ty p v))) where
  abbrev V : List SimpleType
  V = map (type_at a) vars

  abbrev E : Tree
  E = chosen_form (claim_of a ty p v)

  pub order-below : (keys : List ℕ) → keys ≡ variables_of E → AreBelow (length vars) keys
  order-below keys e = rw e (let h = form-below V (type_at a ty) (tree_at a p) v over typed in let l = length-map (type_at a) vars in rw l at h)

  pub closed-over : IsOver [] 0 (closed_form V (claim_of a ty p v))
  closed-over = function-closed V E (function-over V (variables_of E) E (form-below V (type_at a ty) (tree_at a p) v over typed) (form-good V (type_at a ty) (tree_at a p) v over typed).over)

  pub closed-type : type_of (closed_form V (claim_of a ty p v)) ≡ function_type V (variables_of E) (type_at a ty)
  closed-type = function-type V (variables_of E) E ∙ ap (function_type V (variables_of E)) (form-type V (type_at a ty) (tree_at a p) v over typed)

  module _ {b : Contents} (e : Extends a b) (types : AreTypesOf a vars) (form : ℕ) (made : IsTree b form E) where
    pub keys-are : (keys : List ℕ) → keys ≡ firsts nat_eq [] (occurring (tree_at b form)) → keys ≡ variables_of E
    keys-are keys order = order ∙ ap variables_of made.reads

    pub form-over : IsOver (map (type_at b) vars) 0 (tree_at b form)
    form-over = rw (types-kept e vars types, made.reads) (form-good V (type_at a ty) (tree_at a p) v over typed).over

    pub closed-made : (keys : List ℕ) → keys ≡ firsts nat_eq [] (occurring (tree_at b form)) → (d : Contents) (term : ℕ) → IsTree d term (function_of (map (type_at b) vars) keys (tree_at b form)) → IsTree d term (closed_form V (claim_of a ty p v))
    closed-made keys order d term h = (let k = keys-are keys order in record { within = h.within; reads = h.reads ∙ rw (types-kept e vars types, made.reads, k) refl })

-- a function applied to all its variables
front-type : (variables : List SimpleType) (keys : List ℕ) (f : Tree) (a : SimpleType) → type_of f ≡ function_type variables keys a → type_of (applied_to f (variable_terms variables keys)) ≡ a
front-type variables [] f a e = e
front-type variables (n ∷ keys) f a e = front-type variables keys (app f (variable n (variable_type variables n))) a (ap codomain e)

-- the claim about a symbol
module _ {a b : Contents} (f : Extends a b) (vars keys : List ℕ) (head ty whole i : ℕ) (types : AreTypesOf a vars) (function : type_at a (symbol_type a head) ≡ function_type (map (type_at a) vars) keys (type_at a ty)) (made : IsTerm b whole i (symbol head (type_at a (symbol_type a head)))) where
  pub head-function : (x : SimpleType) × (type_of (tree_at b whole) ≡ function_type (map (type_at b) vars) keys x)
  head-function = (type_at a ty, ap type_of made.reads ∙ function ∙ ap (λ (vs : List SimpleType). function_type vs keys (type_at a ty)) (sym (types-kept f vars types)))

  module _ {c : Contents} (g : Extends b c) (p w : ℕ) (property : IsPropertyOf a ty p) (applied : IsTree c w (applied_to (tree_at b whole) (variable_terms (map (type_at b) vars) keys))) where
    argument-reads : tree_at c w ≡ applied_to (symbol head (type_at a (symbol_type a head))) (variable_terms (map (type_at a) vars) keys)
    argument-reads = applied.reads ∙ rw (made.reads, types-kept f vars types) refl

    argument-number : type_number c w ≡ ty
    argument-number =
        let s = new_bank g in
        let h = extends-trans f g in
        let m = h.types_more in
        let l = property.type_within in
        let t : type_of (tree_at c w) ≡ type_at a ty = ap type_of argument-reads ∙ front-type (map (type_at a) vars) keys (symbol head (type_at a (symbol_type a head))) (type_at a ty) function in
        type-shared s (type_number c w) ty (type_number-within s w applied.within) (omega arith) (sym (type_of-term s w applied.within) ∙ t ∙ sym (type-kept h ty property.type_within))

    pub claim-applies : IsApplicable c p w
    claim-applies = property-applies (extends-trans f g) property (let t : IsTerm c w ty (tree_at c w) = record { within = applied.within; type_is = argument-number; reads = refl } in t)

    pub claim-made : {d e : Contents} (v : Bool) (claim j : ℕ) (new : List Lit) → IsTerm d claim j (app (tree_at c p) (tree_at c w)) → AreLiterals e new (valued (tree_at d claim) v ∷ []) → AreLiterals e new (claimed (claim_of a ty p v) (applied_to (symbol head (type_at a (symbol_type a head))) (variable_terms (map (type_at a) vars) keys)) ∷ [])
    claim-made {d} {e} v claim j new m h =
        let t : tree_at d claim ≡ app (tree_at a p) (applied_to (symbol head (type_at a (symbol_type a head))) (variable_terms (map (type_at a) vars) keys)) = m.reads ∙ rw (tree-kept (extends-trans f g) p property.within, argument-reads) refl in
        record { literals_of = h.literals_of; reads = h.reads ∙ ap (λ (x : Tree). valued x v ∷ []) t }

-- the term of the item that is chosen
pub chooses-term : (known : ℕ) (choices later : List Choice) (t : Tree) (n : ℕ) (k : Choice) → Chooses known choices t later n k → k.term ≡ t
chooses-term known choices later t n k (earliest m j e f g) = f
chooses-term known choices later t n k (added j e f g h) = e

-- an item for the closed term: banks a, b with the term, d with the item and e with the claim
module _ {a b d : Contents} (f : Extends a b) (g : Extends b d) (vars keys : List ℕ) (before after : List (ℕ × ℕ)) (ty p : ℕ) (v : Bool) (term place head : ℕ) (types : AreTypesOf a vars) (property : IsPropertyOf a ty p) (over : IsOver (map (type_at a) vars) 0 (tree_at a p)) (typed : IsWellTyped (chosen (claim_of a ty p v))) (order : AreInOrder a before) (made : IsTree b term (closed_form (map (type_at a) vars) (claim_of a ty p v))) (are : keys ≡ variables_of (chosen_form (claim_of a ty p v))) (placed : IsPlaced b d before after term place) (is : (item : ℕ × ℕ) → slice_get after place ≡ Some item → head ≡ item.0) where
  abbrev VS : List SimpleType
  VS = map (type_at a) vars

  item-term : tree_at d placed.item.1 ≡ closed_form VS (claim_of a ty p v)
  item-term = chooses-term 0 (map (choice_at b) before) (map (choice_at d) after) (tree_at b term) place (choice_at d placed.item) (placed.chooses 0 (omega arith)) ∙ made.reads

  pub head-within : head < length d.symbols
  head-within = rw (is placed.item placed.stands) (placed.of_bank place placed.item placed.stands).symbol_within

  head-type : type_at d (symbol_type d head) ≡ type_of (tree_at d placed.item.1)
  head-type =
      let h = placed.of_bank place placed.item placed.stands in
      rw (is placed.item placed.stands) (ap (type_at d) h.typed ∙ sym (type_of-term (new_bank g) placed.item.1 h.term_within))

  pub head-types : type_at d (symbol_type d head) ≡ function_type (map (type_at d) vars) keys (type_at d ty)
  head-types =
      let h = extends-trans f g in
      head-type ∙ ap type_of item-term ∙ closed-type a vars ty p v over typed ∙ rw (types-kept h vars types, type-kept h ty property.type_within, are) refl

  pub picked-order : {e : Contents} → Extends d e → AreInOrder e after
  picked-order {e} h = record { of_bank = items-grow h after placed.of_bank; choices = rw (items-kept h after placed.of_bank) placed.choices }

  pub picked-made : {e : Contents} (h : Extends d e) (new : List Lit) → AreLiterals e new (claimed (claim_of d ty p v) (applied_to (symbol head (type_at d (symbol_type d head))) (variable_terms (map (type_at d) vars) keys)) ∷ []) → (known : ℕ) → known ≤ length a.symbols → IsPicked known a e before after VS (claim_of a ty p v) place (map (literal_at e) new)
  picked-made {e} h new literals known low =
      let x = extends-trans f g in
      let s = f.symbols_more in
      let item = placed.item in
      let old = items-kept f before order.of_bank in
      let now = items-kept h after placed.of_bank in
      let o = placed.of_bank place item placed.stands in
      let reads : choice_at e item ≡ choice_at d item = rw (tree-kept h item.1 o.term_within) refl in
      let chooses : Chooses known (map (choice_at b) before) (tree_at b term) (map (choice_at d) after) place (choice_at d item) = placed.chooses known (omega arith) in
      let one : symbol head (type_at d (symbol_type d head)) ≡ symbol_of (choice_at d item) = ap (λ (n : ℕ). symbol n (type_at d (symbol_type d head))) (is item placed.stands) ∙ ap (symbol item.0) head-type in
      let said : map (literal_at e) new ≡ claimed (claim_of a ty p v) (applied_to (symbol_of (choice_at d item)) (chosen_arguments VS (claim_of a ty p v))) ∷ [] =
      literals.reads
      ∙ ap (λ (cl : Claim). claimed cl (applied_to (symbol head (type_at d (symbol_type d head))) (variable_terms (map (type_at d) vars) keys)) ∷ []) (claim-kept x ty p v property)
      ∙ ap (λ (t : Tree). claimed (claim_of a ty p v) (applied_to t (variable_terms (map (type_at d) vars) keys)) ∷ []) one
      ∙ ap (λ (vs : List SimpleType). claimed (claim_of a ty p v) (applied_to (symbol_of (choice_at d item)) (variable_terms vs keys)) ∷ []) (types-kept x vars types)
      ∙ ap (λ (ns : List ℕ). claimed (claim_of a ty p v) (applied_to (symbol_of (choice_at d item)) (variable_terms VS ns)) ∷ []) are in
      record {
        item = choice_at d item;
        stands = get-map (choice_at e) after place item placed.stands ∙ ap Some reads;
        is = item-term;
        chooses = subst (λ (cs : List Choice). Chooses known (map (choice_at a) before) (closed_form VS (claim_of a ty p v)) cs place (choice_at d item)) (sym now)
            (subst (λ (t : Tree). Chooses known (map (choice_at a) before) t (map (choice_at d) after) place (choice_at d item)) made.reads
            (subst (λ (cs : List Choice). Chooses known cs (tree_at b term) (map (choice_at d) after) place (choice_at d item)) old chooses));
        said = said;
      }
