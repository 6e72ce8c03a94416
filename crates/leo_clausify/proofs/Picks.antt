-- The item of the list for a closed term.
use Rattle.std.proofs.Common.{ℕ, zero, suc, ◌≡◌, ◌∙◌, ◌<◌, ◌≤◌, List, [], ◌∷◌, ◌++◌, length, map, slice_get, Option, Some, None, refl, sym, ap, subst, ◌⊎◌, inl, inr, arith}
use Rattle.std.proofs.lemmas.List.{map-append}
use Rattle.std.specs.Option.{option_map}
use Rattle.std.proofs.lemmas.Option.{slice_get_within}
use Rattle.leo_terms.specs.declared.node.View.{View}
use Rattle.leo_terms.specs.declared.node.View.TheVariants.{Var, Bound, Sym, App, Lam, Logic}
use Rattle.leo_terms.specs.Contents.{Contents, Symbol, IsSound, IsBank, Extends, AddsSymbol, IsArgumentBelow, argument, tree_at, type_number, symbol_type}
use Rattle.leo_terms.proofs.CallerLemmas.{sound, old_bank, tree-kept, type_number-kept, symbol-kept, term-shared}
use Rattle.leo_terms.proofs.Growth.{slice_get-some, tree-node, type_number-node}
use Rattle.leo_terms.proofs.ListLemmas.{append_only}
use Rattle.leo_terms.proofs.Making.{symbol_type-node}
use Rattle.leo_terms.proofs.Rebuild.{HasView, tree-app, tree-lam, tree-logic, parts-app, parts-lam, parts-logic, view_sound}
use Rattle.leo_clause.specs.Choices.{Choice, choice_at, IsChoiceOf, AreChoicesOf}
use Rattle.leo_clause.specs.Typed.{IsOver}
use Rattle.leo_kernel.specs.Symbols.{LacksSymbol}
use Rattle.leo_clausify.specs.Choosing.{AreChoices, Chooses, earliest, added, LackTerm}
use Rattle.leo_clausify.specs.Picking.{HasNone, IsFound, IsPlaced}
use Rattle.leo_clausify.proofs.Branching.{get-map}
use Rattle.leo_clausify.proofs.Banks.{within-grow}
use Rattle.leo_clausify.proofs.Giving.{length-map}

-- no term of a bank has a symbol that is not the bank's
module _ (c : Contents) (s : IsSound c) (k : ℕ) (high : length c.symbols ≤ k) where
  symbol-low : (n : ℕ) (o : Option Symbol) (i : ℕ) → slice_get c.symbols n ≡ o → option_map (λ x. x.ty) o ≡ Some i → n < length c.symbols
  symbol-low n None i e h = (let f : ⊥ = cc in absurd f)
  symbol-low n (Some x) i e h = slice_get_within c.symbols n x e

  argument-lacks : (t : ℕ) → ((u : ℕ) → u < t → LacksSymbol k (tree_at c u)) → (x : Option ℕ) → IsArgumentBelow t x → LacksSymbol k (argument (tree_at c) x)
  argument-lacks t ih None h = tt
  argument-lacks t ih (Some x) h = ih x h

  view-lacks : (t : ℕ) (v : View) → ((u : ℕ) → u < t → LacksSymbol k (tree_at c u)) → HasView c t v → LacksSymbol k (tree_at c t)
  view-lacks t (Var n) ih v = rw (tree-node c s t (Var n) (type_number c t) v) tt
  view-lacks t (Bound n) ih v = rw (tree-node c s t (Bound n) (type_number c t) v) tt
  view-lacks t (Sym n) ih v =
      let p = view_sound c s t (Sym n) v in
      let l = symbol-low n (slice_get c.symbols n) (type_number c t) refl p.0.symbol_type in
      rw (tree-node c s t (Sym n) (type_number c t) v) (λ e. (let f : ⊥ = omega arith in f))
  view-lacks t (App f x) ih v = let u = parts-app c s t f x v in rw (tree-app c s t f x v) (ih f u.0, ih x u.1)
  view-lacks t (Lam a b) ih v = let u = parts-lam c s t a b v in rw (tree-lam c s t a b v) (ih b u.0)
  view-lacks t (Logic o x y) ih v =
      let u = parts-logic c s t o x y v in
      rw (tree-logic c s t o x y v) (argument-lacks t ih x u.0, argument-lacks t ih y u.1)

  lacks-below : (n t : ℕ) → t < n → t < length c.terms → LacksSymbol k (tree_at c t)
  lacks-below zero t p q = absurd (let f : ⊥ = omega (arith, p) in f)
  lacks-below (suc n) t p q =
      let w = slice_get-some c.terms t q in
      view-lacks t w.0.view (λ u h. lacks-below n u (omega (arith, h, p)) (omega (arith, h, q))) (rw (type_number-node c t w.0 w.1) w.1)

pub lacks-new : (c : Contents) → IsBank c → (k t : ℕ) → length c.symbols ≤ k → t < length c.terms → LacksSymbol k (tree_at c t)
lacks-new c b k t high l = lacks-below c (sound c b) k high (suc t) t (omega arith) l

-- an item behind the reading of a list
unmap : {X Y : Type 0} (f : X → Y) (xs : List X) (i : ℕ) (y : Y) → slice_get (map f xs) i ≡ Some y → (x : X) × (slice_get xs i ≡ Some x) × (f x ≡ y)
unmap f [] i y e = absurd (cc)
unmap f (x ∷ xs) zero y e = (x, refl, (let g : f x ≡ y = cc in g))
unmap f (x ∷ xs) (suc i) y e = unmap f xs i y e

at-end : {X : Type 0} (xs : List X) (x : X) → slice_get (xs ++ x ∷ []) (length xs) ≡ Some x
at-end [] x = refl
at-end (y ∷ xs) x = at-end xs x

-- no item that has a term stands for it
lack-term : (c : Contents) → IsBank c → (items : List (ℕ × ℕ)) (t n : ℕ) → AreChoicesOf c items → t < length c.terms → HasNone items t n → LackTerm n (tree_at c t) (map (choice_at c) items)
lack-term c b items t n of_bank l none m k lt e g =
    let u = unmap (choice_at c) items m k e in
    let h : tree_at c u.0.1 ≡ tree_at c t = ap (λ (x : Choice). x.term) u.2 ∙ g in
    none m u.0 lt u.1 (term-shared b u.0.1 t (of_bank m u.0 u.1).term_within l h)

pub placed-found : (c : Contents) → IsBank c → (items : List (ℕ × ℕ)) (t n : ℕ) → AreChoicesOf c items → AreChoices (map (choice_at c) items) → t < length c.terms → IsFound items t n → IsPlaced c c items items t n
placed-found c b items t n of_bank choices l f = record {
  item = f.item;
  stands = f.stands;
  of_bank = of_bank;
  choices = choices;
  chooses = λ known h. earliest n (choice_at c f.item) (get-map (choice_at c) items n f.item f.stands) (ap (tree_at c) f.has) (lack-term c b items t n of_bank l f.earlier);
}

-- one choice symbol more
module _ (choices : List Choice) (k : Choice) (old : AreChoices choices) (closed : IsOver [] 0 k.term) (own : LacksSymbol k.number k.term) (lacking : (m : ℕ) (j : Choice) → slice_get choices m ≡ Some j → LacksSymbol k.number j.term) (other : (m : ℕ) (j : Choice) → slice_get choices m ≡ Some j → j.number ≡ k.number → ⊥) where
  distinct-more : (m n : ℕ) (j i : Choice) → (slice_get choices m ≡ Some j) ⊎ ((m ≡ length choices) × (j ≡ k)) → (slice_get choices n ≡ Some i) ⊎ ((n ≡ length choices) × (i ≡ k)) → j.number ≡ i.number → m ≡ n
  distinct-more m n j i (inl p) (inl q) e = old.distinct m n j i p q e
  distinct-more m n j i (inl p) (inr q) e = absurd (other m j p (e ∙ ap (λ (x : Choice). x.number) q.1))
  distinct-more m n j i (inr p) (inl q) e = absurd (other n i q (sym e ∙ ap (λ (x : Choice). x.number) p.1))
  distinct-more m n j i (inr p) (inr q) e = p.0 ∙ sym q.0

  closed-more : (n : ℕ) (j : Choice) → (slice_get choices n ≡ Some j) ⊎ ((n ≡ length choices) × (j ≡ k)) → IsOver [] 0 j.term
  closed-more n j (inl p) = old.closed n j p
  closed-more n j (inr p) = subst (λ (x : Choice). IsOver [] 0 x.term) (sym p.1) closed

  lacking-more : (m n : ℕ) (j i : Choice) → (slice_get choices m ≡ Some j) ⊎ ((m ≡ length choices) × (j ≡ k)) → (slice_get choices n ≡ Some i) ⊎ ((n ≡ length choices) × (i ≡ k)) → m ≤ n → LacksSymbol i.number j.term
  lacking-more m n j i (inl p) (inl q) l = old.lacking m n j i p q l
  lacking-more m n j i (inl p) (inr q) l = subst (λ (x : Choice). LacksSymbol x.number j.term) (sym q.1) (lacking m j p)
  lacking-more m n j i (inr p) (inl q) l = absurd (let h = slice_get_within choices n i q in let f : m ≡ length choices = p.0 in let g : ⊥ = omega arith in g)
  lacking-more m n j i (inr p) (inr q) l = subst (λ (x : Choice). LacksSymbol x.number j.term) (sym q.1) (subst (λ (x : Choice). LacksSymbol k.number x.term) (sym p.1) own)

  choices-more : AreChoices (choices ++ k ∷ [])
  choices-more = record {
    distinct = λ m n j i p q e. distinct-more m n j i (append_only choices k m j p) (append_only choices k n i q) e;
    closed = λ n j p. closed-more n j (append_only choices k n j p);
    lacking = λ m n j i p q l. lacking-more m n j i (append_only choices k m j p) (append_only choices k n i q) l;
  }

module _ {c d : Contents} (e : Extends c d) where
  pub items-kept : (items : List (ℕ × ℕ)) → AreChoicesOf c items → map (choice_at d) items ≡ map (choice_at c) items
  items-kept [] h = refl
  items-kept (k ∷ items) h = rw (tree-kept e k.1 (h 0 k refl).term_within, items-kept items (λ n j g. h (suc n) j g)) refl

  symbol_type-kept : (s : ℕ) → s < length c.symbols → symbol_type d s ≡ symbol_type c s
  symbol_type-kept s l =
      let w = slice_get-some c.symbols s l in
      symbol_type-node d s w.0 (symbol-kept e s w.0 w.1) ∙ sym (symbol_type-node c s w.0 w.1)

  pub choice-grow : (k : ℕ × ℕ) → IsChoiceOf c k → IsChoiceOf d k
  choice-grow k h =
      let m = e.symbols_more in
      let l = h.symbol_within in
      record {
        symbol_within = omega arith;
        term_within = within-grow e k.1 h.term_within;
        typed = symbol_type-kept k.0 h.symbol_within ∙ h.typed ∙ sym (type_number-kept e k.1 h.term_within);
      }

  pub items-grow : (items : List (ℕ × ℕ)) → AreChoicesOf c items → AreChoicesOf d items
  items-grow items h = λ n k g. choice-grow k (h n k g)

  module _ (items : List (ℕ × ℕ)) (t s ty : ℕ) (x : Symbol) (of_bank : AreChoicesOf c items) (choices : AreChoices (map (choice_at c) items)) (l : t < length c.terms) (closed : IsOver [] 0 (tree_at c t)) (new : AddsSymbol c d x s) (within : s < length d.symbols) (typed : symbol_type d s ≡ ty) (type : ty ≡ type_number c t) (none : HasNone items t (length items)) where
    abbrev item : ℕ × ℕ
    item = (s, t)

    abbrev choice : Choice
    choice = record { number = s; term = tree_at c t }

    item-reads : choice_at d item ≡ choice
    item-reads = rw (tree-kept e t l) refl

    all-read : map (choice_at d) (items ++ item ∷ []) ≡ map (choice_at c) items ++ choice ∷ []
    all-read = map-append (choice_at d) items (item ∷ []) ∙ rw (items-kept items of_bank, item-reads) refl

    other-number : (m : ℕ) (j : Choice) → slice_get (map (choice_at c) items) m ≡ Some j → j.number ≡ s → ⊥
    other-number m j g h =
        let u = unmap (choice_at c) items m j g in
        let low = (of_bank m u.0 u.1).symbol_within in
        let same : u.0.0 ≡ j.number = ap (λ (k : Choice). k.number) u.2 in
        let last = new.last in
        (let f : ⊥ = omega arith in f)

    lacks-term : (m : ℕ) (j : Choice) → slice_get (map (choice_at c) items) m ≡ Some j → LacksSymbol s j.term
    lacks-term m j g =
        let u = unmap (choice_at c) items m j g in
        let last = new.last in
        subst (λ (k : Choice). LacksSymbol s k.term) u.2 (lacks-new c (old_bank e) s u.0.1 (omega arith) (of_bank m u.0 u.1).term_within)

    item-of : IsChoiceOf d item
    item-of = record { symbol_within = within; term_within = within-grow e t l; typed = typed ∙ type ∙ sym (type_number-kept e t l) }

    of-by : (n : ℕ) (k : ℕ × ℕ) → (slice_get items n ≡ Some k) ⊎ ((n ≡ length items) × (k ≡ item)) → IsChoiceOf d k
    of-by n k (inl g) = choice-grow k (of_bank n k g)
    of-by n k (inr g) = subst (IsChoiceOf d) (sym g.1) item-of

    pub placed-added : IsPlaced c d items (items ++ item ∷ []) t (length items)
    placed-added =
        let last = new.last in
        let old : List Choice = map (choice_at c) items in
        record {
          item = item;
          stands = at-end items item;
          of_bank = λ n k g. of-by n k (append_only items item n k g);
          choices = rw all-read (choices-more old choice choices closed (lacks-new c (old_bank e) s t (omega arith) l) lacks-term other-number);
          chooses = λ known h.
              let low : known ≤ s = omega arith in
              let lack : LackTerm (length old) (tree_at c t) old = (let m = length-map (choice_at c) items in rw m (lack-term c (old_bank e) items t (length items) of_bank l none)) in
              let made : Chooses known old (tree_at c t) (old ++ choice ∷ []) (length old) choice = added choice refl low lack other-number in
              rw (all-read, item-reads) (subst (λ (n : ℕ). Chooses known old (tree_at c t) (old ++ choice ∷ []) n choice) (length-map (choice_at c) items) made);
        }
