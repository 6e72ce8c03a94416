-- Ways and branches in banks that grew, and agendas without their first branch.
use Rattle.std.proofs.Common.{ℕ, zero, suc, ◌≡◌, ◌∙◌, ◌+◌, ◌<◌, ◌≤◌, Bool, true, false, List, [], ◌∷◌, ◌++◌, length, map, slice_get, slice_index_or, Some, refl, sym, ap, subst, ◌⊎◌, inl, inr, arith}
use Rattle.leo_terms.specs.Contents.{Contents, IsBank, Extends}
use Rattle.leo_terms.proofs.CallerLemmas.{tree-kept, type-kept, term-typed}
use Rattle.leo_clause.specs.declared.clause.Lit.{Lit}
use Rattle.leo_clause.specs.Choices.{Choice}
use Rattle.leo_clause.specs.Trees.{Literal, ClauseTree, literal_at}
use Rattle.leo_clausify.specs.declared.agenda.Agenda.{Agenda}
use Rattle.leo_clausify.specs.declared.agenda.Progress.{Progress}
use Rattle.leo_clausify.specs.declared.branch.Branch.{Branch}
use Rattle.leo_clausify.specs.declared.ways.Way as declared
use Rattle.leo_clausify.specs.declared.ways.Way.TheVariants as code
use Rattle.leo_clausify.specs.Agendas.{EachBranch, IsAgenda, IsFirstOf, IsUnderWay, IsRunning, Progresses, Ends}
use Rattle.leo_clausify.specs.Branches.{IsBranch}
use Rattle.leo_clausify.specs.Forms.{Form, Forms, no_form, one_form, two_forms, forms_of}
use Rattle.leo_clausify.specs.Reducing.{HasRow, IsReduced, is_form}
use Rattle.leo_clausify.specs.Splitting.{AreReduced}
use Rattle.leo_clausify.specs.Ways.{Way, Ways, no_way, ways_of, way_at, forms_in, form_of, IsRow, AreRows, IsWayOf}
use Rattle.leo_clausify.proofs.Banks.{within-grow}
use Rattle.leo_clausify.proofs.Branching.{lit-at}
use Rattle.leo_clausify.proofs.ClosedForms.{property-kept}
use Rattle.leo_clausify.proofs.Rows.{forms-are, rows-are}
use Rattle.leo_clausify.proofs.UnderWay.{each-front, each-last}

module _ {c d : Contents} (e : Extends c d) where
  pub way-kept : (w : declared.Way) → IsWayOf c w → way_at d w ≡ way_at c w
  way-kept code.Turn h = refl
  way-kept code.Omit h = refl
  way-kept (code.Single k a v) h = rw (tree-kept e a h) refl
  way-kept (code.Double k a v b w) h = rw (tree-kept e a h.0, tree-kept e b h.1) refl
  way-kept (code.Sides k p s t) h = rw (tree-kept e s h.0, tree-kept e t h.1) refl
  way-kept (code.Fresh k i p v) h = rw (type-kept e i h.type_within, tree-kept e p h.within) refl
  way-kept (code.Chosen i p v) h = rw (type-kept e i h.type_within, tree-kept e p h.within) refl

  pub way-grow : (w : declared.Way) → IsWayOf c w → IsWayOf d w
  way-grow code.Turn h = tt
  way-grow code.Omit h = tt
  way-grow (code.Single k a v) h = within-grow e a h
  way-grow (code.Double k a v b w) h = (within-grow e a h.0, within-grow e b h.1)
  way-grow (code.Sides k p s t) h = (within-grow e s h.0, within-grow e t h.1)
  way-grow (code.Fresh k i p v) h = property-kept e h
  way-grow (code.Chosen i p v) h = property-kept e h

  literal-kept : (l : Lit) → (l.left < length c.terms) × (l.right < length c.terms) → literal_at d l ≡ literal_at c l
  literal-kept l h = rw (tree-kept e l.left h.0, tree-kept e l.right h.1) refl

  pub row-grow : (b : Branch) (at : ℕ) (w : declared.Way) → IsBranch c b → IsWayOf c w → HasRow c b at (way_at c w) → HasRow d b at (way_at d w)
  row-grow b at w k h r =
      let l = lit-at c b.clause.lits at r.lit k.typed.of_bank.literals_of r.stands in
      record {
        lit = r.lit;
        stands = r.stands;
        row = subst (λ (x : Way). IsRow (length b.clause.vars) (literal_at d r.lit) x) (sym (way-kept w h)) (subst (λ (x : Literal). IsRow (length b.clause.vars) x (way_at c w)) (sym (literal-kept r.lit l)) r.row);
      }

  -- the second form, by what was there before the first was made
  pub reduced-as : {f : Contents} (before after : List (ℕ × ℕ)) (b u : Branch) (at : ℕ) (l : Lit) (w : declared.Way) → IsBranch c b → slice_get b.clause.lits at ≡ Some l → IsWayOf c w → IsReduced d f before after b u at (literal_at d l) (form_of (way_at d w)) → IsReduced d f before after b u at (literal_at c l) (form_of (way_at c w))
  reduced-as {f} before after b u at l w k at-is h x =
      subst (λ (y : Form). IsReduced d f before after b u at (literal_at c l) y) (ap form_of (way-kept w h))
      (subst (λ (y : Literal). IsReduced d f before after b u at y (form_of (way_at d w))) (literal-kept l (lit-at c b.clause.lits at l k.typed.of_bank.literals_of at-is)) x)

-- whether a literal can be reduced, by its ways
pub reducible-as : (l : Literal) (w : Ways) (b : Bool) → w ≡ ways_of l → is_form (forms_in w) ≡ b → b ≡ is_form (forms_of l)
reducible-as l w b e f = sym f ∙ ap (λ (x : Ways). is_form (forms_in x)) e ∙ ap is_form (forms-are l)

pub forms-as : (l : Literal) (w : Ways) → w ≡ ways_of l → forms_of l ≡ forms_in w
forms-as l w e = sym (forms-are l) ∙ ap forms_in (sym e)

no-forms : (f : Forms) → is_form f ≡ false → f ≡ no_form
no-forms no_form h = refl
no-forms (one_form f) h = (let k : ⊥ = cc in absurd k)
no-forms (two_forms f g) h = (let k : ⊥ = cc in absurd k)

get-item : {X Y : Type 0} (f : X → Y) (xs : List X) (i : ℕ) (x : X) (y : Y) → i < length xs → x ≡ slice_index_or xs i x → slice_get (map f xs) i ≡ Some y → y ≡ f x
get-item f [] i x y l e h = absurd (cc)
get-item f (z ∷ xs) zero x y l e h = let g : f z ≡ y = cc in sym g ∙ ap f (sym e)
get-item f (z ∷ xs) (suc i) x y l e h = get-item f xs i x y (omega arith) e h

below-or-here : (j i : ℕ) → j < i + 1 → (j < i) ⊎ (j ≡ i)
below-or-here j i l = grind arith

-- one literal more that can't be reduced
pub reduced-next : (c : Contents) (lits : List Lit) (i : ℕ) (l : Lit) → ((j : ℕ) (k : Literal) → j < i → slice_get (map (literal_at c) lits) j ≡ Some k → forms_of k ≡ no_form) → i < length lits → l ≡ slice_index_or lits i l → (b : Bool) → b ≡ is_form (forms_of (literal_at c l)) → b ≡ false → (j : ℕ) (k : Literal) → j < i + 1 → slice_get (map (literal_at c) lits) j ≡ Some k → forms_of k ≡ no_form
reduced-next c lits i l h within is b e f j k lt g = elim (below-or-here j i lt) [
  | inl m ↦ h j k m g
  | inr m ↦ (
      let p : k ≡ literal_at c l = get-item (literal_at c) lits i l k within is (rw m at g) in
      ap forms_of p ∙ no-forms (forms_of (literal_at c l)) (sym e ∙ f))
]

pub reduced-all : (ks : List Literal) → ((j : ℕ) (k : Literal) → slice_get ks j ≡ Some k → forms_of k ≡ no_form) → AreReduced ks
reduced-all [] h = tt
reduced-all (k ∷ ks) h = (h 0 k refl, reduced-all ks (λ j x e. h (suc j) x e))

-- the rows of a literal of a branch, by its ways
pub rows-by : (c : Contents) → IsBank c → (b : Branch) (at : ℕ) (l : Lit) (w : Ways) → IsBranch c b → slice_get b.clause.lits at ≡ Some l → w ≡ ways_of (literal_at c l) → AreRows (length b.clause.vars) (literal_at c l) w
rows-by c s b at l w h e f =
    let m = lit-at c b.clause.lits at l h.typed.of_bank.literals_of e in
    subst (AreRows (length b.clause.vars) (literal_at c l)) (sym f) (rows-are (length b.clause.vars) (literal_at c l) (term-typed s l.left m.0) (term-typed s l.right m.1))

-- an agenda without its first branch
pub popped : (c : Contents) (a : Agenda) (rest : List Branch) (b : Branch) → IsAgenda c a → a.pending ≡ rest ++ b ∷ [] → IsAgenda c (record a { pending = rest }) × IsBranch c b
popped c a rest b h e =
    let p = subst (EachBranch (IsBranch c)) e h.pending in
    (record { pending = each-front (IsBranch c) rest b p; finished = h.finished; in_order = h.in_order }, each-last (IsBranch c) rest b p)

-- the first literal that can be reduced, and its ways
module _ (c : Contents) (s : IsBank c) (b : Branch) (at : ℕ) (first : IsFirstOf c b.clause.lits at) (x : Lit) (f : x ≡ first.lit) (w : Ways) (e : w ≡ ways_of (literal_at c x)) where
  ways-first : w ≡ ways_of (literal_at c first.lit)
  ways-first = e ∙ ap (λ (l : Lit). ways_of (literal_at c l)) f

  pub not-none : w ≡ no_way → ⊥
  not-none n = (let g : is_form (forms_of (literal_at c first.lit)) ≡ false = ap is_form (forms-as (literal_at c first.lit) w ways-first) ∙ ap (λ (v : Ways). is_form (forms_in v)) n in let h = first.reducible in cc)

  pub the-rows : IsBranch c b → AreRows (length b.clause.vars) (literal_at c first.lit) w
  the-rows h = rows-by c s b at first.lit w h first.stands ways-first

  pub row-of : (number : ℕ) → number ≡ at → (way : Way) → IsRow (length b.clause.vars) (literal_at c first.lit) way → HasRow c b number way
  row-of number n way r = record { lit = first.lit; stands = rw n first.stands; row = r }

  pub forms-at : (number : ℕ) → number ≡ at → (l : Lit) → slice_get b.clause.lits number ≡ Some l → forms_of (literal_at c l) ≡ forms_in w
  forms-at number n l g =
      let k : slice_get b.clause.lits at ≡ Some l = rw n at g in
      let m : first.lit ≡ l = (let q : Some first.lit ≡ Some l = sym first.stands ∙ k in cc) in
      forms-as (literal_at c l) w (ways-first ∙ ap (λ (y : Lit). ways_of (literal_at c y)) m)

-- the agenda of which the first branch was taken out
pub pending-as : (old new : Contents) (a z : Agenda) (rest : List Branch) (b : Branch) (p : Progress) → a.pending ≡ rest ++ b ∷ [] → Progresses old new (record { pending = rest ++ b ∷ []; finished = a.finished; choices = a.choices }) z p → Progresses old new a z p
pending-as old new a z rest b p e h = subst (λ (bs : List Branch). Progresses old new (record { pending = bs; finished = a.finished; choices = a.choices }) z p) (sym e) h

-- where nothing is pending any more
pub done-ended : (i c d : Contents) (x a b : Agenda) → ((known : ℕ) (before : List Choice) (start : ClauseTree) → known ≤ length i.symbols → IsUnderWay known before start i x → IsUnderWay known before start c a) → d ≡ c → b ≡ a → a.pending ≡ [] → Ends i d x b true
done-ended i c d x a b h e f g = record {
  ended = (
    ap (λ (y : Agenda). y.pending) f ∙ g,
    λ known before start low k. subst (λ (y : Agenda). IsUnderWay known before start d y) (sym f) (subst (λ (z : Contents). IsUnderWay known before start z a) (sym e) (h known before start low k)),
  );
}

pub still-running : (c d : Contents) (a b : Agenda) → Extends c d → IsRunning c a → ((known : ℕ) (before : List Choice) (start : ClauseTree) → known ≤ length c.symbols → IsUnderWay known before start c a → IsUnderWay known before start d b) → IsRunning d b
still-running c d a b e h f = record {
  known = h.known;
  before = h.before;
  start = h.start;
  low = (let m = e.symbols_more in let l = h.low in omega arith);
  under = f h.known h.before h.start h.low h.under;
}
