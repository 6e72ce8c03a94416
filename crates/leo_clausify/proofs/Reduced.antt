-- A literal of a branch takes one of its forms.
use Rattle.std.proofs.Common.{ℕ, ◌≡◌, ◌∙◌, ◌<◌, ◌≤◌, Bool, true, false, List, [], ◌∷◌, ◌++◌, length, map, slice_get, Option, Some, None, refl, sym, ap, subst, arith}
use Rattle.leo_q0.specs.Terms.{SimpleType, arrow}
use Rattle.leo_terms.specs.Contents.{Contents, Extends, tree_at, type_at}
use Rattle.leo_terms.specs.Tree.{Tree, app, variable, truth_type, type_of, codomain, lifted}
use Rattle.leo_terms.specs.Typing.{IsWellTyped, IsPresent}
use Rattle.leo_terms.proofs.CallerLemmas.{old_bank, term-typed, type-kept}
use Rattle.leo_terms.proofs.ListLemmas.{slice_get-append}
use Rattle.leo_terms.proofs.ReductionLemmas.{IsBoundAt-gap}
use Rattle.leo_terms.proofs.TreeLemmas.{type_of-lifted}
use Rattle.leo_terms.proofs.TypingLemmas.{IsPresent-lifted, IsWellTyped-lifted}
use Rattle.leo_clause.specs.Choices.{Choice, choice_at, symbol_of}
use Rattle.leo_clause.specs.Trees.{Literal, ClauseTree, clause_at, literal_at}
use Rattle.leo_clause.specs.Typed.{AreTyped, AreLiteralsOf, IsOver, IsTyped, IsTypedLiteral}
use Rattle.leo_clause.specs.declared.clause.Lit.{Lit}
use Rattle.leo_clause.specs.declared.record.LogicKind.{LogicKind}
use Rattle.leo_kernel.specs.Choosing.{value, Claims, all_f, some_t, chosen, claimed, applied_to}
use Rattle.leo_kernel.specs.Conclusions.{with_new}
use Rattle.leo_kernel.specs.Rows.{TakesApart}
use Rattle.leo_kernel.specs.Shapes.{valued}
use Rattle.leo_kernel.specs.Steps.{take_apart}
use Rattle.leo_kernel.proofs.Growing.{clause-grow, clause-kept, types-kept}
use Rattle.leo_clausify.specs.declared.branch.Branch.{Branch}
use Rattle.leo_clausify.specs.declared.branch.Pieces.{Pieces}
use Rattle.leo_clausify.specs.declared.ways.Way as declared
use Rattle.leo_clausify.specs.declared.ways.Way.TheVariants as code
use Rattle.leo_clausify.specs.Branches.{IsBranch, IsExtended, Leads, Precedes}
use Rattle.leo_clausify.specs.Choosing.{AreInOrder, Chooses, earliest, added, chosen_arguments}
use Rattle.leo_clausify.specs.Forms.{Form, turn, omit, apart}
use Rattle.leo_clausify.specs.Literals.{AreLiterals}
use Rattle.leo_clausify.specs.Moves.{Descends, IsDescent, step_at}
use Rattle.leo_clausify.specs.Picking.{IsPicked}
use Rattle.leo_clausify.specs.Reducing.{ArePieces, HasRow, IsReduced, IsTaken, IsWayOver, PiecesBy}
use Rattle.leo_clausify.specs.Splitting.{Becomes, turns, omits, takes_apart, chooses, AreNormal, normal_literal}
use Rattle.leo_clausify.specs.Ways.{Way, turned, omitted, single, double, sides, fresh, chosen as chosen_way, kind_chosen, form_of, IsRow}
use Rattle.leo_clausify.proofs.Branching.{get-map, lit-at, steps-grow, steps-kept}
use Rattle.leo_clausify.proofs.Claiming.{claim-follows, claim-parts, said-typed}
use Rattle.leo_clausify.proofs.Following.{row-follows, row-typed}
use Rattle.leo_clausify.proofs.Giving.{length-map}
use Rattle.leo_clausify.proofs.Picks.{items-kept, items-grow}
use Rattle.leo_clausify.proofs.Placing.{typed-at, no-fresh}

-- the chosen term is well typed
chosen-well : (c : SimpleType) (p : Tree) (v : Bool) → IsWellTyped p → IsPresent p → type_of p ≡ arrow c truth_type → IsWellTyped (chosen (value c p v))
chosen-well c p true w h e = (w, tt, ((h, e), refl))
chosen-well c p false w h e =
    let t : type_of (lifted 0 1 p) ≡ arrow c truth_type = type_of-lifted p 0 1 ∙ e in
    let k : codomain (type_of (lifted 0 1 p)) ≡ truth_type = ap codomain t in
    let g : type_of (lifted 0 1 p) ≡ arrow c (codomain (type_of (lifted 0 1 p))) = t ∙ ap (arrow c) (sym k) in
    ((((IsWellTyped-lifted p 0 1 w, tt, IsPresent-lifted p 0 1 h, tt, g), tt, ((tt, k), refl)), tt, ((IsBoundAt-gap p 0 0 1 c (omega arith) (omega arith), λ _. refl), tt)), tt, ((tt, refl), refl))

claim-well : (c : SimpleType) (p : Tree) (v : Bool) (l : Literal) → Claims (kind_chosen v) l (value c p v) → IsWellTyped l.left → IsWellTyped (chosen (value c p v))
claim-well c p true l (some_t d q) w = chosen-well c p true w.0 w.2.0.0 w.2.0.1
claim-well c p false l (all_f d q) w = chosen-well c p false w.0 w.2.0.0 w.2.0.1

claim-over : (variables : List SimpleType) (c : SimpleType) (p : Tree) (v : Bool) (l : Literal) → Claims (kind_chosen v) l (value c p v) → IsTypedLiteral variables l → IsOver variables 0 p
claim-over variables c p true l (some_t d q) h = h.left_over.0
claim-over variables c p false l (all_f d q) h = h.left_over.0

pub row-over : (variables : List SimpleType) (next : ℕ) (l : Literal) (way : Way) → IsRow next l way → IsTypedLiteral variables l → IsWayOver variables way
row-over variables next l turned h t = tt
row-over variables next l omitted h t = tt
row-over variables next l (single k a v) h t = tt
row-over variables next l (double k a v b w) h t = tt
row-over variables next l (sides k p s r) h t = tt
row-over variables next l (fresh k a p v) h t = tt
row-over variables next l (chosen_way a p v) h t = claim-over variables a p v l h t

chooses-precede : (known : ℕ) (choices later : List Choice) (t : Tree) (n : ℕ) (k : Choice) → Chooses known choices t later n k → Precedes choices later
chooses-precede known choices later t n k (earliest m j e f g) = λ i x h. h
chooses-precede known choices later t n k (added j e f g h) = λ i x u. slice_get-append choices (j ∷ []) i x u

module _ (parent : ClauseTree) (i : ℕ) (l : Literal) (e : slice_get parent.literals i ≡ Some l) (typed : IsTyped parent) (well : IsWellTyped l.left) where
  -- what a literal is taken apart to, in a step that is accepted
  pub record IsStep (known : ℕ) (choices later : List Choice) (f : Form) (kind : LogicKind) (abbr : Option ℕ) (types : List SimpleType) (new : List Literal) : Type 0 where
    pub becomes : Becomes known choices parent i l f later (with_new parent i types (map normal_literal new))
    pub follows : Descends later parent (record { clause = with_new parent i types new; rule = λ q. take_apart q i kind abbr })
    pub typed_new : AreTyped (parent.variables ++ types) new
    pub precedes : Precedes choices later

  row-step : (known : ℕ) (choices : List Choice) (kind : LogicKind) (types : List SimpleType) (new : List Literal) → TakesApart (length parent.variables) kind l types new → IsStep known choices choices (apart kind) kind None types new
  row-step known choices kind types new row = record {
    becomes = takes_apart kind types new row;
    follows = row-follows choices parent i kind l types new e typed well row;
    typed_new = row-typed parent.variables kind l types new row (typed-at parent.variables parent.literals i l typed e) well;
    precedes = λ n k h. h;
  }

  module _ (c d : Contents) (known : ℕ) (before after : List (ℕ × ℕ)) where
    claim-step : (a : SimpleType) (p : Tree) (v : Bool) (n : ℕ) (new : List Literal) → Claims (kind_chosen v) l (value a p v) → IsPicked known c d before after parent.variables (value a p v) n new → IsStep known (map (choice_at c) before) (map (choice_at d) after) (apart (kind_chosen v)) (kind_chosen v) (Some n) [] new
    claim-step a p v n new row h =
        let here = typed-at parent.variables parent.literals i l typed e in
        let parts = claim-parts parent.variables a p v l row here well in
        let ct = claim-well a p v l row well in
        rw h.said (record {
          becomes = chooses (kind_chosen v) (value a p v) (map (choice_at d) after) n h.item row h.chooses;
          follows = claim-follows parent i a p v l e typed parts.0 parts.1 ct h.item h.is (map (choice_at d) after) n h.stands row;
          typed_new = no-fresh parent.variables (claimed (value a p v) (applied_to (symbol_of h.item) (chosen_arguments parent.variables (value a p v))) ∷ []) (said-typed parent i a p v l e typed parts.0 parts.1 ct h.item h.is, tt);
          precedes = chooses-precede known (map (choice_at c) before) (map (choice_at d) after) _ n h.item h.chooses;
        })

    pub way-step : map (choice_at d) before ≡ map (choice_at c) before → (way : Way) (kind : LogicKind) (abbr : Option ℕ) (types : List SimpleType) (new : List Literal) → IsRow (length parent.variables) l way → PiecesBy known c d before after parent.variables way kind abbr types new → IsStep known (map (choice_at c) before) (map (choice_at d) after) (form_of way) kind abbr types new
    way-step kept turned kind abbr types new row h = absurd h
    way-step kept omitted kind abbr types new row h = absurd h
    way-step kept (single k a v) kind abbr types new row h = rw (h.0, h.1, h.2, h.3, h.4, kept) (row-step known (map (choice_at c) before) k [] _ row)
    way-step kept (double k a v b w) kind abbr types new row h = rw (h.0, h.1, h.2, h.3, h.4, kept) (row-step known (map (choice_at c) before) k [] _ row)
    way-step kept (sides k p s t) kind abbr types new row h = rw (h.0, h.1, h.2, h.3, h.4, kept) (row-step known (map (choice_at c) before) k [] _ row)
    way-step kept (fresh k a p v) kind abbr types new row h = rw (h.0, h.1, h.2, h.3, h.4, kept) (row-step known (map (choice_at c) before) k (a ∷ []) _ row)
    way-step kept (chosen_way a p v) kind abbr types new row h = rw (h.0, h.1, h.2.1.0) (claim-step a p v h.2.0 new row h.2.1.1)

-- a branch as the bank grows
pub branch-grow : {c d : Contents} → Extends c d → (b : Branch) → IsBranch c b → IsBranch d b
branch-grow {c} {d} e b h =
    let k : clause_at d b.clause ≡ clause_at c b.clause = clause-kept e b.clause h.typed.of_bank in
    record {
      typed = record { of_bank = clause-grow e b.clause h.typed.of_bank; typed = subst IsTyped (sym k) h.typed.typed };
      normal = subst (λ (t : ClauseTree). AreNormal t.literals) (sym k) h.normal;
      steps = steps-grow e b.steps h.steps;
    }

pub leads-kept : {c d : Contents} → Extends c d → (b : Branch) → IsBranch c b → (choices : List Choice) (start : ClauseTree) → Leads c choices start b → Leads d choices start b
leads-kept {c} {d} e b h choices start l =
    let k : clause_at d b.clause ≡ clause_at c b.clause = clause-kept e b.clause h.typed.of_bank in
    let m : map (step_at d) b.steps ≡ map (step_at c) b.steps = steps-kept e b.steps h.steps in
    subst (λ (t : ClauseTree). IsDescent choices start (map (step_at d) b.steps) t) (sym k) (subst (λ (ss : List _). IsDescent choices start ss (clause_at c b.clause)) (sym m) l)

pub order-grow : {c d : Contents} → Extends c d → (items : List (ℕ × ℕ)) → AreInOrder c items → AreInOrder d items
order-grow e items h = record { of_bank = items-grow e items h.of_bank; choices = rw (items-kept e items h.of_bank) h.choices }

-- what is extended in a grown bank
extended-itself : (c d : Contents) (later : List Choice) (b r : Branch) (tree : ClauseTree) → IsExtended c d later b r tree → IsExtended c d later b r (clause_at d r.clause)
extended-itself c d later b r tree h = record { branch = h.branch; reads = refl; leads = h.leads }

extended-from : {a c d : Contents} → Extends a c → (later : List Choice) (b r : Branch) (tree : ClauseTree) → IsBranch a b → IsExtended c d later b r tree → IsExtended a d later b r tree
extended-from e later b r tree k h = record { branch = h.branch; reads = h.reads; leads = λ choices start before l. h.leads choices start before (leads-kept e b k choices start l) }

-- the sides change places, or the literal is left out
pub turned-reduced : (c : Contents) → (items : List (ℕ × ℕ)) (b r : Branch) (at : ℕ) (l : Literal) → AreInOrder c items → IsExtended c c (map (choice_at c) items) b r (with_new (clause_at c b.clause) at [] (record { positive = l.positive; left = l.right; right = l.left } ∷ [])) → IsReduced c c items items b r at l turn
turned-reduced c items b r at l order h = record {
  becomes = λ known low. subst (λ (t : ClauseTree). Becomes known (map (choice_at c) items) (clause_at c b.clause) at l turn (map (choice_at c) items) t) (sym h.reads) turns;
  extended = extended-itself c c (map (choice_at c) items) b r _ h;
  in_order = order;
  precedes = λ n k e. e;
}

pub omitted-reduced : (c : Contents) → (items : List (ℕ × ℕ)) (b r : Branch) (at : ℕ) (l : Literal) → AreInOrder c items → IsExtended c c (map (choice_at c) items) b r (with_new (clause_at c b.clause) at [] []) → IsReduced c c items items b r at l omit
omitted-reduced c items b r at l order h = record {
  becomes = λ known low. subst (λ (t : ClauseTree). Becomes known (map (choice_at c) items) (clause_at c b.clause) at l omit (map (choice_at c) items) t) (sym h.reads) omits;
  extended = extended-itself c c (map (choice_at c) items) b r _ h;
  in_order = order;
  precedes = λ n k e. e;
}

-- the literal is taken apart
module _ {a b : Contents} (e : Extends a b) (branch : Branch) (before after : List (ℕ × ℕ)) (at : ℕ) (way : Way) (p : Pieces) (h : IsBranch a branch) (order : AreInOrder a before) (pieces : ArePieces a b before after (map (type_at a) branch.clause.vars) way p) (l : Lit) (stands : slice_get branch.clause.lits at ≡ Some l) (row : IsRow (length branch.clause.vars) (literal_at a l) way) where
  taken-step : (known : ℕ) → known ≤ length a.symbols → IsStep (clause_at a branch.clause) at (literal_at a l) (get-map (literal_at a) branch.clause.lits at l stands) h.typed.typed (term-typed (old_bank e) l.left (lit-at a branch.clause.lits at l h.typed.of_bank.literals_of stands).0) known (map (choice_at a) before) (map (choice_at b) after) (form_of way) p.kind p.abbr (map (type_at b) p.fresh) (map (literal_at b) p.new)
  taken-step known low =
      way-step (clause_at a branch.clause) at (literal_at a l) (get-map (literal_at a) branch.clause.lits at l stands) h.typed.typed (term-typed (old_bank e) l.left (lit-at a branch.clause.lits at l h.typed.of_bank.literals_of stands).0) a b known before after (items-kept e before order.of_bank) way p.kind p.abbr (map (type_at b) p.fresh) (map (literal_at b) p.new)
      (rw (length-map (type_at a) branch.clause.vars) row) (pieces.by known low)

  pub taken-typed : AreTyped (map (type_at b) branch.clause.vars ++ map (type_at b) p.fresh) (map (literal_at b) p.new)
  taken-typed = rw (types-kept e branch.clause.vars h.typed.of_bank.types_of) (taken-step 0 (omega arith)).typed_new

  pub taken-reduced : {d : Contents} → Extends b d → (r : Branch) → ((later : List Choice) → Descends later (clause_at b branch.clause) (record { clause = with_new (clause_at b branch.clause) at (map (type_at b) p.fresh) (map (literal_at b) p.new); rule = λ q. take_apart q at p.kind p.abbr }) → IsExtended b d later branch r (with_new (clause_at b branch.clause) at (map (type_at b) p.fresh) (map normal_literal (map (literal_at b) p.new)))) → IsReduced a d before after branch r at (literal_at a l) (form_of way)
  taken-reduced {d} g r x =
      let k : clause_at b branch.clause ≡ clause_at a branch.clause = clause-kept e branch.clause h.typed.of_bank in
      let now : map (choice_at d) after ≡ map (choice_at b) after = items-kept g after pieces.in_order.of_bank in
      let zero = taken-step 0 (omega arith) in
      let follows = subst (λ (t : ClauseTree). Descends (map (choice_at b) after) t (record { clause = with_new t at (map (type_at b) p.fresh) (map (literal_at b) p.new); rule = λ q. take_apart q at p.kind p.abbr })) (sym k) zero.follows in
      let y = x (map (choice_at b) after) follows in
      let reads : clause_at d r.clause ≡ with_new (clause_at a branch.clause) at (map (type_at b) p.fresh) (map normal_literal (map (literal_at b) p.new)) = y.reads ∙ ap (λ (t : ClauseTree). with_new t at (map (type_at b) p.fresh) (map normal_literal (map (literal_at b) p.new))) k in
      let z = extended-from e (map (choice_at b) after) branch r _ h (extended-itself b d (map (choice_at b) after) branch r _ y) in
      record {
        becomes = λ known low.
            subst (λ (t : ClauseTree). Becomes known (map (choice_at a) before) (clause_at a branch.clause) at (literal_at a l) (form_of way) (map (choice_at d) after) t) (sym reads)
            (subst (λ (cs : List Choice). Becomes known (map (choice_at a) before) (clause_at a branch.clause) at (literal_at a l) (form_of way) cs (with_new (clause_at a branch.clause) at (map (type_at b) p.fresh) (map normal_literal (map (literal_at b) p.new)))) (sym now)
            (taken-step known low).becomes);
        extended = subst (λ (cs : List Choice). IsExtended a d cs branch r (clause_at d r.clause)) (sym now) z;
        in_order = order-grow g after pieces.in_order;
        precedes = subst (λ (cs : List Choice). Precedes (map (choice_at a) before) cs) (sym now) zero.precedes;
      }

-- pieces
pub plain-pieces : {c d : Contents} → Extends c d → (items : List (ℕ × ℕ)) (variables : List SimpleType) (way : Way) (kind : LogicKind) (new : List Lit) → AreInOrder c items → AreLiteralsOf d new → ((known : ℕ) → PiecesBy known c d items items variables way kind None [] (map (literal_at d) new)) → ArePieces c d items items variables way (record { kind = kind; abbr = None; fresh = []; new = new })
plain-pieces e items variables way kind new order literals by = record { types_of = tt; literals_of = literals; by = λ known low. by known; in_order = order-grow e items order }

pub taken-other : (w : declared.Way) → (w ≡ code.Turn → ⊥) → (w ≡ code.Omit → ⊥) → IsTaken w
taken-other code.Turn f g = f refl
taken-other code.Omit f g = g refl
taken-other (code.Single k a v) f g = tt
taken-other (code.Double k a v b w) f g = tt
taken-other (code.Sides k p s t) f g = tt
taken-other (code.Fresh k i p v) f g = tt
taken-other (code.Chosen i p v) f g = tt

pub fresh-pieces : {c d : Contents} → Extends c d → (items : List (ℕ × ℕ)) (vars : List ℕ) (kind : LogicKind) (ty p : ℕ) (v : Bool) (number : ℕ) (types : List ℕ) (new : List Lit) → ty < length c.types → AreInOrder c items → types ≡ ty ∷ [] → number ≡ length vars → AreLiterals d new (valued (app (tree_at c p) (variable number (type_at c ty))) v ∷ []) → ArePieces c d items items (map (type_at c) vars) (fresh kind (type_at c ty) (tree_at c p) v) (record { kind = kind; abbr = None; fresh = types; new = new })
fresh-pieces {c} {d} e items vars kind ty p v number types new l order is count made =
    let t : type_at d ty ≡ type_at c ty = type-kept e ty l in
    let m = e.types_more in
    let k : number ≡ length (map (type_at c) vars) = count ∙ sym (length-map (type_at c) vars) in
    let w : map (type_at d) types ≡ type_at c ty ∷ [] = rw (is, t) refl in
    let n : map (literal_at d) new ≡ valued (app (tree_at c p) (variable (length (map (type_at c) vars)) (type_at c ty))) v ∷ [] = made.reads ∙ ap (λ (i : ℕ). valued (app (tree_at c p) (variable i (type_at c ty))) v ∷ []) k in
    record {
      types_of = rw is (omega arith, tt);
      literals_of = made.literals_of;
      by = λ known low. (refl, refl, w, n, refl);
      in_order = order-grow e items order;
    }

-- the literal at the place
row-lit : (c : Contents) (b : Branch) (at : ℕ) (way : Way) (h : HasRow c b at way) (l : Lit) → slice_get b.clause.lits at ≡ Some l → IsRow (length b.clause.vars) (literal_at c l) way
row-lit c b at way h l e =
    let f : h.lit ≡ l = (let g : Some h.lit ≡ Some l = sym h.stands ∙ e in cc) in
    subst (λ (x : Lit). IsRow (length b.clause.vars) (literal_at c x) way) f h.row

pub row-at : (c : Contents) (b : Branch) (at : ℕ) (way : Way) (h : HasRow c b at way) (l : Lit) → slice_get b.clause.lits at ≡ Some l → IsRow (length b.clause.vars) (literal_at c l) way
row-at c b at way h l e = row-lit c b at way h l e

pub way-over : (c : Contents) (b : Branch) (at : ℕ) (way : Way) → IsBranch c b → HasRow c b at way → IsWayOver (map (type_at c) b.clause.vars) way
way-over c b at way k h = row-over (map (type_at c) b.clause.vars) (length b.clause.vars) (literal_at c h.lit) way h.row (typed-at (map (type_at c) b.clause.vars) (map (literal_at c) b.clause.lits) at (literal_at c h.lit) k.typed.typed (get-map (literal_at c) b.clause.lits at h.lit h.stands))
