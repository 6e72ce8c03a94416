-- What is inferred between clauses, and with all partners.
use Rattle.std.proofs.Common.{ℕ, ◌≡◌, ◌+◌, ◌<◌, ◌≤◌, List, [], ◌∷◌, ◌++◌, length, map, take, slice_get, Some, refl, sym, subst, arith}
use Rattle.std.specs.Prelude.{slice_index_or}
use Rattle.leo_terms.specs.Contents.{Contents, IsBank, Extends}
use Rattle.leo_terms.proofs.CallerLemmas.{extends-itself, extends-trans}
use Rattle.leo_clause.specs.declared.clause.Clause.{Clause}
use Rattle.leo_clause.specs.Trees.{ClauseTree, clause_at}
use Rattle.leo_kernel.proofs.Growing.{clause-kept}
use Rattle.leo_para.specs.declared.member.Due.{Due}
use Rattle.leo_para.specs.Dues.{AreDue}
use Rattle.leo_para.specs.Laws.{DueMembersAddNoBase, DueMembersAddNoSymbol}
use Rattle.leo_turn.specs.declared.search.Search.{Search}
use Rattle.leo_turn.specs.Growth.{Grows, IsLonger}
use Rattle.leo_turn.specs.Searches.{AreAllBelow, IsSearch, kept_of}
use Rattle.leo_turn.specs.Turns.{Constrained, Infers, InfersAlone, InfersBetween, InfersWith, itself, another, InfersWithEach, none_left, next, Setting, Stock, WorksEach, setting_of, stock_of}
use Rattle.leo_turn.specs.Working.{AreDueAt, Makes, MakesAlone, MakesBetween, MakesWith, MakesWithEach, constrained_at}
use Rattle.leo_turn.proofs.Growing.{grows-itself, grows-trans}
use Rattle.leo_turn.proofs.Lists.{get-there, length-map, longer-get, longer-length, longer-trans, stands-there, take-all, take-next}
use Rattle.leo_turn.proofs.Paramodulated.{paramodulation-due, paramodulations-read}
use Rattle.leo_turn.proofs.Places.{below-get, kept-line, kept-longer, kept-plain, kept-tree, kept-typed}
use Rattle.leo_turn.proofs.Valid.{search-grow}
use Rattle.leo_turn.proofs.Worked.{setting-same, stock-same}

-- from one kept clause into another
module _ {c d : Contents} (e : Extends c d) (s : Search) (i j m n : ℕ) (p q : Clause) (dues : List Due)
    (h : IsSearch c s) (first : slice_get s.kept i ≡ Some p) (second : slice_get s.kept j ≡ Some q) (due : AreDue d (clause_at c p) (clause_at c q) dues) where
  pub between-due : DueMembersAddNoSymbol → DueMembersAddNoBase → slice_get s.at i ≡ Some m → slice_get s.at j ≡ Some n → AreDueAt d s.lines (m ∷ n ∷ []) dues
  between-due no_symbol no_base f g k x there =
      let later : IsSearch d s = search-grow e s h in
      let one : clause_at d p ≡ clause_at c p = clause-kept e p (kept-typed c s i p h first).of_bank in
      let two : clause_at d q ≡ clause_at c q = clause-kept e q (kept-typed c s j q h second).of_bank in
      paramodulation-due d (clause_at c p) (clause_at c q) dues due k x there no_symbol no_base s.lines (m ∷ n ∷ []) (record {
        symbols = [];
        parents = m ∷ n ∷ [];
        numbers_are = refl;
        choice_lines = tt;
        clause_lines = (rw (← one) (kept-line d s i m p later first f), (rw (← two) (kept-line d s j n q later second g), tt));
        plain = (kept-plain d s i m later f, (kept-plain d s j n later g, tt));
      })

  pub between-inferred : (f : Contents) (t : Search) → Makes d f s t (λ setting. WorksEach setting (map (constrained_at d) dues)) → Makes c f s t (λ setting. InfersBetween setting (clause_at c p) (clause_at c q))
  between-inferred f t makes symbols l =
      let x = e.symbols_more in
      let a : WorksEach (setting_of symbols s) (map (constrained_at d) dues) (stock_of d s) (stock_of f t) = makes symbols (omega arith) in
      let b : WorksEach (setting_of symbols s) (map (constrained_at d) dues) (stock_of c s) (stock_of f t) = subst (λ (w : Stock). WorksEach (setting_of symbols s) (map (constrained_at d) dues) w (stock_of f t)) (stock-same e s h) a in
      subst (λ (is : List Constrained). WorksEach (setting_of symbols s) is (stock_of c s) (stock_of f t)) (paramodulations-read d (clause_at c p) (clause_at c q) dues due) b

-- what a call says of two kept clauses
pub between-trees : (c d : Contents) (s t : Search) (i j : ℕ) (p q : Clause) → slice_get s.kept i ≡ Some p → slice_get s.kept j ≡ Some q → Makes c d s t (λ setting. InfersBetween setting (clause_at c p) (clause_at c q)) → MakesBetween c d s t i j
between-trees c d s t i j p q first second makes k l f g symbols low =
    subst (λ (x : ClauseTree). InfersBetween (setting_of symbols s) k x (stock_of c s) (stock_of d t)) (kept-tree c s j q l second g)
    (subst (λ (x : ClauseTree). InfersBetween (setting_of symbols s) x (clause_at c q) (stock_of c s) (stock_of d t)) (kept-tree c s i p k first f) (makes symbols low))

-- with a partner
pub with-itself : (c d : Contents) (s t : Search) (given n : ℕ) → n ≡ given → MakesBetween c d s t given given → MakesWith c d s t given n
with-itself c d s t given n same makes clauses longer l m symbols low =
    let g = get-there clauses given l in
    let there : slice_get (kept_of c s) given ≡ Some g.0 = longer-get longer given g.0 g.1 in
    subst (λ k. InfersWith (setting_of symbols s) clauses given k (stock_of c s) (stock_of d t)) (sym same) (itself g.0 (stock_of c s) (stock_of d t) g.1 (makes g.0 g.0 there there symbols low))

pub with-another : {c d : Contents} → Extends c d → (f : Contents) (s t u : Search) (given n : ℕ) → IsSearch c s → Grows s t → (n ≡ given → ⊥) → MakesBetween c d s t given n → MakesBetween d f t u n given → MakesWith c f s u given n
with-another {c} {d} e f s t u given n h grows apart first second clauses longer l m symbols low =
    let x = e.symbols_more in
    let g = get-there clauses given l in
    let k = get-there clauses n m in
    let g-there : slice_get (kept_of c s) given ≡ Some g.0 = longer-get longer given g.0 g.1 in
    let k-there : slice_get (kept_of c s) n ≡ Some k.0 = longer-get longer n k.0 k.1 in
    let more : IsLonger (kept_of c s) (kept_of d t) = kept-longer e s t h grows in
    let a : InfersBetween (setting_of symbols s) g.0 k.0 (stock_of c s) (stock_of d t) = first g.0 k.0 g-there k-there symbols low in
    let b : InfersBetween (setting_of symbols t) k.0 g.0 (stock_of d t) (stock_of f u) = second k.0 g.0 (longer-get more n k.0 k-there) (longer-get more given g.0 g-there) symbols (omega arith) in
    let same : InfersBetween (setting_of symbols s) k.0 g.0 (stock_of d t) (stock_of f u) = subst (λ (w : Setting). InfersBetween w k.0 g.0 (stock_of d t) (stock_of f u)) (setting-same symbols grows) b in
    another n g.0 k.0 (stock_of c s) (stock_of d t) (stock_of f u) apart g.1 k.1 a same

-- the first i of the partners are done
pub record AreDoneWith (b c : Contents) (old s : Search) (given : ℕ) (partners : List ℕ) (i : ℕ) : Type 0 where
  pub search : IsSearch c s
  pub extends : Extends b c
  pub grows : Grows old s
  pub inferred : (clauses : List ClauseTree) → IsLonger clauses (kept_of b old) → given < length clauses → AreAllBelow (length clauses) partners → Makes b c old s (λ setting. InfersWithEach setting clauses given (take i partners))

pub done_with-first : (c : Contents) (s : Search) (given : ℕ) (partners : List ℕ) → IsBank c → IsSearch c s → AreDoneWith c c s s given partners 0
done_with-first c s given partners b h = record { search = h; extends = extends-itself b; grows = grows-itself s; inferred = λ clauses longer l m symbols low. none_left (stock_of c s) }

each-added : (setting : Setting) (clauses : List ClauseTree) (given : ℕ) (ns : List ℕ) (old middle new : Stock) (n : ℕ) → InfersWithEach setting clauses given ns old middle → InfersWith setting clauses given n middle new → InfersWithEach setting clauses given (ns ++ n ∷ []) old new
each-added setting clauses given ns old middle new n (none_left s) t = next n [] s new new t (none_left new)
each-added setting clauses given ns old middle new n (next m ms a b d u us) t = next m (ms ++ n ∷ []) a b new u (each-added setting clauses given ms b middle new n us t)

module _ {b c : Contents} (old s : Search) (given : ℕ) (partners : List ℕ) (i : ℕ) (begin : IsSearch b old) (h : AreDoneWith b c old s given partners i) (l : i < length partners) where
  here : slice_get partners i ≡ Some (slice_index_or partners i 0)
  here = stands-there partners i l

  pub done_with-given : given < length old.kept → given < length s.kept
  done_with-given m = (let k : length old.kept ≤ length s.kept = longer-length (record { more = h.grows.clauses; is = h.grows.kept }) in omega arith)

  pub done_with-partner : AreAllBelow (length old.kept) partners → slice_index_or partners i 0 < length s.kept
  done_with-partner all = (let k : length old.kept ≤ length s.kept = longer-length (record { more = h.grows.clauses; is = h.grows.kept }) in let m : slice_index_or partners i 0 < length old.kept = below-get (length old.kept) partners i (slice_index_or partners i 0) all here in omega arith)

  pub done_with-next : {d : Contents} → Extends c d → (t : Search) → IsSearch d t → Grows s t → MakesWith c d s t given (slice_index_or partners i 0) → AreDoneWith b d old t given partners (i + 1)
  done_with-next {d} e t valid grows makes = record {
    search = valid;
    extends = extends-trans h.extends e;
    grows = grows-trans h.grows grows;
    inferred = λ clauses longer m all symbols low.
        let x = h.extends.symbols_more in
        let n = slice_index_or partners i 0 in
        let more : IsLonger clauses (kept_of c s) = longer-trans longer (kept-longer h.extends old s begin h.grows) in
        let a : InfersWith (setting_of symbols s) clauses given n (stock_of c s) (stock_of d t) = makes clauses more m (below-get (length clauses) partners i n all here) symbols (omega arith) in
        let same : InfersWith (setting_of symbols old) clauses given n (stock_of c s) (stock_of d t) = subst (λ (w : Setting). InfersWith w clauses given n (stock_of c s) (stock_of d t)) (setting-same symbols h.grows) a in
        subst (λ (ns : List ℕ). InfersWithEach (setting_of symbols old) clauses given ns (stock_of b old) (stock_of d t)) (sym (take-next partners i n here)) (each-added (setting_of symbols old) clauses given (take i partners) (stock_of b old) (stock_of c s) (stock_of d t) n (h.inferred clauses longer m all symbols low) same);
  }

pub done_with-last : {b c : Contents} (old s : Search) (given : ℕ) (partners : List ℕ) (i : ℕ) → AreDoneWith b c old s given partners i → length partners ≤ i → MakesWithEach b c old s given partners
done_with-last {b} {c} old s given partners i h e clauses longer m all symbols low = subst (λ (ns : List ℕ). InfersWithEach (setting_of symbols old) clauses given ns (stock_of b old) (stock_of c s)) (take-all i partners e) (h.inferred clauses longer m all symbols low)

-- all
pub alone-tree : (c d : Contents) (s t : Search) (given : ℕ) (q : Clause) → slice_get s.kept given ≡ Some q → Makes c d s t (λ setting. InfersAlone setting (clause_at c q)) → MakesAlone c d s t given
alone-tree c d s t given q stands makes k f symbols low = subst (λ (x : ClauseTree). InfersAlone (setting_of symbols s) x (stock_of c s) (stock_of d t)) (kept-tree c s given q k stands f) (makes symbols low)

pub all-inferred : {c d : Contents} → Extends c d → (f : Contents) (s t u : Search) (given : ℕ) (partners : List ℕ) → IsSearch c s → Grows s t → given < length s.kept → AreAllBelow (length s.kept) partners → MakesAlone c d s t given → MakesWithEach d f t u given partners → Makes c f s u (λ setting. Infers setting given partners)
all-inferred {c} {d} e f s t u given partners h grows l all alone with_each symbols low =
    let x = e.symbols_more in
    let many : length (kept_of c s) ≡ length s.kept = length-map (clause_at c) s.kept in
    let g = get-there (kept_of c s) given (subst (λ n. given < n) (sym many) l) in
    let below : AreAllBelow (length (kept_of c s)) partners = subst (λ n. AreAllBelow n partners) (sym many) all in
    let a : InfersWithEach (setting_of symbols t) (kept_of c s) given partners (stock_of d t) (stock_of f u) = with_each (kept_of c s) (kept-longer e s t h grows) (subst (λ n. given < n) (sym many) l) below symbols (omega arith) in
    record {
      clause = g.0;
      stands = g.1;
      middle = stock_of d t;
      alone = alone g.0 g.1 symbols low;
      with_partners = subst (λ (w : Setting). InfersWithEach w (kept_of c s) given partners (stock_of d t) (stock_of f u)) (setting-same symbols grows) a;
    }
