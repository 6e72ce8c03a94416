-- The lines that introduce choice symbols.
use Rattle.std.proofs.Common.{ℕ, zero, suc, ◌≡◌, ◌∙◌, ◌+◌, ◌<◌, ◌≤◌, true, List, [], ◌∷◌, ◌++◌, length, map, take, slice_get, Some, refl, sym, ap, subst, arith}
use Rattle.std.proofs.lemmas.List.{length-append, map-append, take-map}
use Rattle.leo_q0.specs.Terms.{SimpleType}
use Rattle.leo_terms.specs.Contents.{Contents, Extends, IsTerm, symbol_type, tree_at, type_at}
use Rattle.leo_terms.specs.Tree.{Tree, variable, bound, symbol, app, lam, logic, absent, type_of}
use Rattle.leo_terms.proofs.CallerLemmas.{old_bank, tree-kept, type_of-term}
use Rattle.leo_clause.specs.declared.record.Rule.TheVariants as record_of
use Rattle.leo_clause.specs.declared.record.StepRecord.{StepRecord}
use Rattle.leo_clause.specs.Choices.{Choice, IsChoiceOf, choice_at}
use Rattle.leo_clause.specs.Trees.{Literal}
use Rattle.leo_clause.specs.Typed.{IsOver}
use Rattle.leo_kernel.specs.Acceptance.{Accepts}
use Rattle.leo_kernel.specs.Records.{IsStepOf}
use Rattle.leo_kernel.specs.Shapes.{equal}
use Rattle.leo_kernel.specs.Steps.{Line, line_at}
use Rattle.leo_kernel.specs.Symbols.{HasNoVariable, LackSymbol, LacksSymbol, LinesLackSymbol}
use Rattle.leo_clausify.specs.Choosing.{AreChoices, AreInOrder}
use Rattle.leo_clausify.specs.Leaves.{choice_line}
use Rattle.leo_clausify.specs.Origins.{AreChoicesFrom, IsChoiceFrom, IsTermFrom}
use Rattle.leo_clausify.proofs.Banks.{within-grow}
use Rattle.leo_turn.specs.declared.search.Search.{Search}
use Rattle.leo_turn.specs.Changing.{AreNew, IsAllFrom, IsAnnounced, with_choice}
use Rattle.leo_turn.specs.Growth.{Grows, IsLonger}
use Rattle.leo_turn.specs.Origins.{IsOriginOf}
use Rattle.leo_turn.specs.Searches.{IsSearch, choices_of, hypotheses_of, lines_of}
use Rattle.leo_turn.proofs.Growing.{grows-itself, grows-trans}
use Rattle.leo_turn.proofs.Lists.{get-map, take-next, get-last, longer-cut, longer-itself, longer-length}
use Rattle.leo_turn.proofs.Origins.{all-from, choices-there, origin-shorter}
use Rattle.leo_turn.proofs.Valid.{hypotheses-same, lines-same, order-grow, search-choice, search-grow}

-- the line of a symbol, in a bank that grew
pub line-made : {c d : Contents} → Extends c d → (s t left : ℕ) → IsChoiceOf c (s, t) → IsTerm d left (symbol_type c s) (symbol s (type_at c (symbol_type c s))) → (line_at d (record { clause = record { vars = []; lits = record { pos = true; left = left; right = t } ∷ [] }; rule = record_of.Abbreviate s }) ≡ choice_line (choice_at c (s, t))) × IsStepOf d (record { clause = record { vars = []; lits = record { pos = true; left = left; right = t } ∷ [] }; rule = record_of.Abbreviate s })
line-made {c} {d} e s t left h made =
    let type : type_at c (symbol_type c s) ≡ type_of (tree_at c t) = ap (type_at c) h.typed ∙ sym (type_of-term (old_bank e) t h.term_within) in
    let l : tree_at d left ≡ symbol s (type_of (tree_at c t)) = made.reads ∙ ap (symbol s) type in
    (rw (l, tree-kept e t h.term_within) refl, record { clause_of = record { types_of = tt; literals_of = (made.within, within-grow e t h.term_within, tt) }; terms_of = tt })

over-none : (depth : ℕ) (t : Tree) → IsOver [] depth t → HasNoVariable t
over-none depth (variable n a) h = absurd cc
over-none depth (bound i a) h = tt
over-none depth (symbol s a) h = tt
over-none depth (app f x) h = (over-none depth f h.0, over-none depth x h.1)
over-none depth (lam a t) h = over-none (depth + 1) t h
over-none depth (logic c x y) h = (over-none depth x h.0, over-none depth y h.1)
over-none depth absent h = tt

right_or : Tree → List Literal → Tree
right_or t [] = t
right_or t (l ∷ ls) = l.right

same-term : (s : ℕ) (a b : SimpleType) (t u : Tree) → equal (symbol s a) t ∷ [] ≡ equal (symbol s b) u ∷ [] → t ≡ u
unfolding right_or
same-term s a b t u e = ap (right_or t) e

choice-accepted : (hypotheses : List Tree) (lines : List Line) (k : Choice) → IsOver [] 0 k.term → LacksSymbol k.number k.term → LackSymbol k.number hypotheses → LinesLackSymbol k.number lines → Accepts hypotheses lines (choice_line k)
choice-accepted hypotheses lines k closed own first second = record {
  parents = tt;
  literals = tt;
  place = tt;
  types = record { clause_typed = (record { left_over = tt; right_over = closed; same_type = refl }, tt); rule_typed = tt };
  symbols = record {
    hypotheses_lack = first;
    lines_lack = second;
    no_variable = λ a t e. subst HasNoVariable (same-term k.number (type_of k.term) a k.term t e) (over-none 0 k.term closed);
    term_lacks = λ a t e. subst (LacksSymbol k.number) (same-term k.number (type_of k.term) a k.term t e) own;
  };
  shape = (type_of k.term, (k.term, refl));
}

-- one symbol
pub announced : {c d : Contents} → Extends c d → (s : Search) (line : StepRecord) (item : ℕ × ℕ) → IsSearch c s → AreInOrder c (s.abbr.items ++ item ∷ []) → LackSymbol item.0 (hypotheses_of c s) → LinesLackSymbol item.0 (lines_of c s) → IsAllFrom (hypotheses_of c s) (lines_of c s) (tree_at c item.1) → line_at d line ≡ choice_line (choice_at c item) → IsStepOf d line → IsAnnounced d s (with_choice s line item) item
announced {c} {d} e s line item h order first second from reads step =
    let n : slice_get (s.abbr.items ++ item ∷ []) (length s.abbr.items) ≡ Some item = get-last s.abbr.items item in
    let w = (order.of_bank (length s.abbr.items) item n).term_within in
    let same : choice_at d item ≡ choice_at c item = rw (tree-kept e item.1 w) refl in
    let is : line_at d line ≡ choice_line (choice_at d item) = reads ∙ ap choice_line (sym same) in
    let later : AreInOrder d (s.abbr.items ++ item ∷ []) = order-grow e (s.abbr.items ++ item ∷ []) order in
    let g : slice_get (map (choice_at c) (s.abbr.items ++ item ∷ [])) (length s.abbr.items) ≡ Some (choice_at c item) = get-map (choice_at c) (s.abbr.items ++ item ∷ []) (length s.abbr.items) item n in
    let closed : IsOver [] 0 (tree_at c item.1) = order.choices.closed (length s.abbr.items) (choice_at c item) g in
    let own : LacksSymbol item.0 (tree_at c item.1) = order.choices.lacking (length s.abbr.items) (length s.abbr.items) (choice_at c item) (choice_at c item) g g (omega arith) in
    let a : Accepts (hypotheses_of d s) (lines_of d s) (choice_line (choice_at d item)) = subst (λ (j : Choice). Accepts (hypotheses_of d s) (lines_of d s) (choice_line j)) (sym same) (rw (hypotheses-same e s h, lines-same e s h) (choice-accepted (hypotheses_of c s) (lines_of c s) (choice_at c item) closed own first second)) in
    let origin : IsAllFrom (hypotheses_of d s) (lines_of d s) (tree_at d item.1) = rw (hypotheses-same e s h, lines-same e s h, tree-kept e item.1 w) from in
    record {
      line = line;
      line_is = is;
      search = search-choice d s line item (search-grow e s h) later step is a origin;
      new_is = refl;
    }

pub grows-choice : (s : Search) (lines : List StepRecord) (abbr_at : List ℕ) (items : List (ℕ × ℕ)) → IsLonger s.lines lines → IsLonger s.abbr_at abbr_at → IsLonger s.abbr.items items → Grows s (record { hyps = s.hyps; abbr = record { items = items }; abbr_at = abbr_at; kept = s.kept; fronts = s.fronts; active = s.active; passive = s.passive; lines = lines; at = s.at; turns = s.turns; depth = s.depth; weight = s.weight })
grows-choice s lines abbr_at items l a i =
    record { hyps = refl; abbr = i; abbr_at = a; lines = l; at = longer-itself s.at; fronts = longer-itself s.fronts; active = refl; turns = refl; depth = refl; weight = refl; clauses = []; entries = []; kept = nil s.kept; passive = nil s.passive; numbered = tt; as_many = refl; few = λ h. h }
  where
    nil : {X : Type 0} (xs : List X) → xs ≡ xs ++ []
    nil [] = refl
    nil {X} (x ∷ xs) = ap (λ (ys : List X). x ∷ ys) (nil xs)

-- the first items of a list in order
get-take : {X : Type 0} (n : ℕ) (xs : List X) (i : ℕ) (x : X) → slice_get (take n xs) i ≡ Some x → slice_get xs i ≡ Some x
get-take zero xs i x e = absurd cc
get-take (suc n) [] i x e = absurd cc
get-take (suc n) (y ∷ xs) zero x e = e
get-take (suc n) (y ∷ xs) (suc i) x e = get-take n xs i x e

choices-take : (n : ℕ) (ks : List Choice) → AreChoices ks → AreChoices (take n ks)
choices-take n ks h = record {
  distinct = λ i j x y e f g. h.distinct i j x y (get-take n ks i x e) (get-take n ks j y f) g;
  closed = λ i x e. h.closed i x (get-take n ks i x e);
  lacking = λ i j x y e f g. h.lacking i j x y (get-take n ks i x e) (get-take n ks j y f) g;
}

order-take : (c : Contents) (n : ℕ) (items : List (ℕ × ℕ)) → AreInOrder c items → AreInOrder c (take n items)
order-take c n items h = record {
  of_bank = λ i k e. h.of_bank i k (get-take n items i k e);
  choices = subst AreChoices (take-map (choice_at c) n items) (choices-take n (map (choice_at c) items) h.choices);
}

take-length : {X : Type 0} (n : ℕ) (xs : List X) → n ≤ length xs → length (take n xs) ≡ n
take-length zero xs h = refl
take-length (suc n) [] h = absurd (let f : ⊥ = omega arith in f)
take-length (suc n) (x ∷ xs) h = ap suc (take-length n xs (omega arith))

take-get : {X : Type 0} (n : ℕ) (xs : List X) (m : ℕ) (x : X) → m < n → slice_get xs m ≡ Some x → slice_get (take n xs) m ≡ Some x
take-get zero xs m x l e = absurd (let f : ⊥ = omega arith in f)
take-get (suc n) [] m x l e = e
take-get (suc n) (y ∷ xs) zero x l e = e
take-get (suc n) (y ∷ xs) (suc m) x l e = take-get n xs m x (omega arith) e

-- the first i of the items were introduced
pub record AreIntroduced (c : Contents) (old s : Search) (items : List (ℕ × ℕ)) (i : ℕ) : Type 0 where
  pub search : IsSearch c s
  pub order : AreInOrder c items
  pub abbr : s.abbr.items ≡ take i items
  pub new : AreNew c s items
  pub kept : s.kept ≡ old.kept
  pub grows : Grows old s
  pub within : i ≤ length items

pub introduced-first : (c : Contents) (s : Search) (items : List (ℕ × ℕ)) → IsSearch c s → AreInOrder c items → IsLonger s.abbr.items items → AreNew c s items → AreIntroduced c s s items (length s.abbr.items)
introduced-first c s items h order longer new = record { search = h; order = order; abbr = sym (longer-cut longer); new = new; kept = refl; grows = grows-itself s; within = longer-length longer }

module _ (c : Contents) (old s : Search) (items : List (ℕ × ℕ)) (i : ℕ) (item : ℕ × ℕ) (h : AreIntroduced c old s items i) (g : slice_get items i ≡ Some item) where
  more : s.abbr.items ++ item ∷ [] ≡ take (i + 1) items
  more = ap (λ (ks : List (ℕ × ℕ)). ks ++ item ∷ []) h.abbr ∙ sym (take-next items i item g)

  count : length s.abbr.items ≡ i
  count = ap length h.abbr ∙ take-length i items h.within

  pub introduced-order : AreInOrder c (s.abbr.items ++ item ∷ [])
  introduced-order = subst (AreInOrder c) (sym more) (order-take c (i + 1) items h.order)

  pub introduced-hypotheses : LackSymbol item.0 (hypotheses_of c s)
  introduced-hypotheses = h.new.hypotheses_lack i item g (let e = count in omega arith)

  pub introduced-from : IsAllFrom (hypotheses_of c s) (lines_of c s) (tree_at c item.1)
  introduced-from o f = h.new.terms_from i item g (let e = count in omega arith) o f (λ m j l at. there m j (choices-there o (lines_of c s) s.abbr_at (choices_of c s) (all-from (lines_of c s) h.search.origin f) h.search.choice_lines) (get-cut i m j l at))
    where
      there : (m : ℕ) (j : ℕ × ℕ) → AreChoicesFrom o (choices_of c s) → slice_get (take i items) m ≡ Some j → IsChoiceFrom o (choice_at c j)
      there m j all at = all m (choice_at c j) (get-map (choice_at c) s.abbr.items m j (subst (λ (ks : List (ℕ × ℕ)). slice_get ks m ≡ Some j) (sym h.abbr) at))

      get-cut : (n m : ℕ) (j : ℕ × ℕ) → m < n → slice_get items m ≡ Some j → slice_get (take n items) m ≡ Some j
      get-cut n m j l at = take-get n items m j l at

  pub introduced-lines : LinesLackSymbol item.0 (lines_of c s)
  introduced-lines = h.new.lines_lack i item g (let e = count in omega arith)

  lack-more : (n : ℕ) (ls : List Line) (k : Choice) → LinesLackSymbol n ls → (k.number ≡ n → ⊥) → LacksSymbol n k.term → LinesLackSymbol n (ls ++ choice_line k ∷ [])
  lack-more n [] k f e t = ((e, t, tt), tt, tt)
  lack-more n (l ∷ ls) k f e t = (f.0, f.1, lack-more n ls k f.2 e t)

  pub introduced-next : {d : Contents} → Extends c d → (new : Search) → IsAnnounced d s new item → Grows s new → AreIntroduced d old new items (i + 1)
  introduced-next {d} e new a grows =
      let hyps : hypotheses_of d new ≡ hypotheses_of c s = ap (λ (t : Search). map (tree_at d) t.hyps) a.new_is ∙ hypotheses-same e s h.search in
      let w = (h.order.of_bank i item g).term_within in
      let same : choice_at d item ≡ choice_at c item = rw (tree-kept e item.1 w) refl in
      let line : line_at d a.line ≡ choice_line (choice_at c item) = a.line_is ∙ ap choice_line same in
      let lines : lines_of d new ≡ lines_of c s ++ choice_line (choice_at c item) ∷ [] = ap (λ (t : Search). map (line_at d) t.lines) a.new_is ∙ map-append (line_at d) s.lines (a.line ∷ []) ∙ rw (line, lines-same e s h.search) refl in
      let items_are : new.abbr.items ≡ s.abbr.items ++ item ∷ [] = ap (λ (t : Search). t.abbr.items) a.new_is in
      let many : length new.abbr.items ≡ i + 1 = (let x : length (s.abbr.items ++ item ∷ []) ≡ length s.abbr.items + 1 = length-append s.abbr.items (item ∷ []) in ap length items_are ∙ x ∙ ap (λ n. n + 1) count) in
      let mine : slice_get (map (choice_at c) items) i ≡ Some (choice_at c item) = get-map (choice_at c) items i item g in
      let kept : (n : ℕ) (k : ℕ × ℕ) → slice_get items n ≡ Some k → tree_at d k.1 ≡ tree_at c k.1 = λ n k f. tree-kept e k.1 (h.order.of_bank n k f).term_within in
      let kept-choice : (n : ℕ) (k : ℕ × ℕ) → slice_get items n ≡ Some k → choice_at d k ≡ choice_at c k = λ n k f. rw (tree-kept e k.1 (h.order.of_bank n k f).term_within) refl in
      record {
        search = a.search;
        order = order-grow e items h.order;
        abbr = items_are ∙ more;
        new = record {
          hypotheses_lack = λ n k f l. subst (LackSymbol k.0) (sym hyps) (h.new.hypotheses_lack n k f (let x = count in omega arith));
          lines_lack = λ n k f l.
              let theirs : slice_get (map (choice_at c) items) n ≡ Some (choice_at c k) = get-map (choice_at c) items n k f in
              let other : item.0 ≡ k.0 → ⊥ = λ x. (let y : i ≡ n = h.order.choices.distinct i n (choice_at c item) (choice_at c k) mine theirs x in omega (arith, y, l, many)) in
              let lacks : LacksSymbol k.0 (tree_at c item.1) = h.order.choices.lacking i n (choice_at c item) (choice_at c k) mine theirs (omega (arith, l, many)) in
              subst (LinesLackSymbol k.0) (sym lines) (lack-more k.0 (lines_of c s) (choice_at c item) (h.new.lines_lack n k f (let x = count in omega (arith, x, l, many))) other lacks);
          terms_from = λ n k f l o from before.
              let longer : IsLonger (lines_of c s) (lines_of d new) = record { more = choice_line (choice_at c item) ∷ []; is = lines } in
              let earlier : IsOriginOf (hypotheses_of c s) (lines_of c s) o = origin-shorter longer (subst (λ (hs : List Tree). IsOriginOf hs (lines_of d new) o) hyps from) in
              subst (IsTermFrom o) (sym (kept n k f)) (h.new.terms_from n k f (let x = count in omega (arith, x, l, many)) o earlier (λ m j u at. subst (IsChoiceFrom o) (kept-choice m j at) (before m j u at)));
        };
        kept = ap (λ (t : Search). t.kept) a.new_is ∙ h.kept;
        grows = grows-trans h.grows grows;
        within = slice-within items i item g;
      }
    where
      slice-within : {X : Type 0} (xs : List X) (i : ℕ) (x : X) → slice_get xs i ≡ Some x → i + 1 ≤ length xs
      slice-within [] i x e = absurd cc
      slice-within (y ∷ xs) zero x e = omega arith
      slice-within (y ∷ xs) (suc i) x e = let f = slice-within xs i x e in omega arith
