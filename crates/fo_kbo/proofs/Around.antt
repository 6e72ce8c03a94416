-- From the first place where two lists of nodes differ outward.
use Rattle.std.proofs.Common.{ℕ, zero, suc, ◌+◌, ◌-◌, ◌≡◌, ◌<◌, ◌≤◌, List, [], ◌∷◌, ◌++◌, length, Some, None, refl, sym, ◌∙◌, ap, arith, ◌⊎◌, inl, inr}
use Rattle.std.specs.Prelude.{slice_get}
use Rattle.std.proofs.lemmas.List.{append-nil}
use Rattle.fo_terms.specs.declared.term.FoNode.{FoNode}
use Rattle.fo_terms.specs.declared.term.FoNode.TheVariants.{Var, Sym}
use Rattle.fo_terms.specs.Terms.{Term, Terms, variable, symbol, none, more, count, size, first_terms, terms_after, first_term}
use Rattle.fo_terms.specs.Prefix.{prefix, term_of, terms_of, IsPrefix}
use Rattle.fo_terms.specs.Reading.{terms_of-prefix}
use Rattle.fo_terms.specs.Places.{terms_at, term_at, arguments_of, IsFull, IsBehind}
use Rattle.fo_terms.proofs.AtPlaces.{terms_at-node, terms_at-zero, count-terms_after, IsPrefix-count, some_at}
use Rattle.fo_kbo.specs.declared.order.FoOrder.{FoOrder}
use Rattle.fo_kbo.specs.declared.order.FoOrder.TheVariants.{Less, Equal, Greater, Unordered}
use Rattle.fo_kbo.specs.declared.heads.Heads.{Heads}
use Rattle.fo_kbo.specs.declared.heads.Heads.TheVariants.{First, Second}
use Rattle.fo_kbo.specs.declared.outward.Level.{Level}
use Rattle.fo_kbo.specs.Order.{IsGreater, FirstIsGreater, IsOrder}
use Rattle.fo_kbo.specs.Heads.{IsHeads}
use Rattle.fo_kbo.specs.Outward.{AreSameBefore, AreOrdered, ArePassed, IsOver, heads_of}
use Rattle.fo_kbo.proofs.Ordering.{irreflexive, transitive, heavier_wins}
use Rattle.fo_kbo.proofs.Levels.{not_heavier, arguments_from, arguments_back, parted}
use Rattle.fo_kbo.proofs.Scanning.{terms_after-more}
use Rattle.fo_kbo.proofs.CountedNodes.{length-prefix}
use Rattle.fo_terms.proofs.Spans.{length-term, node_of}

-- ---- first terms of first terms

first-first : (k s : ℕ) (ts : Terms) → k ≤ s → first_terms k (first_terms s ts) ≡ first_terms k ts
first-first zero s ts h = refl
first-first (suc k) zero ts h = absurd (omega arith)
first-first (suc k) (suc s) none h = refl
first-first (suc k) (suc s) (more t ts) h = ap (more t) (first-first k s ts (omega arith))

first-none : (d : ℕ) → first_terms d none ≡ none
first-none zero = refl
first-none (suc d) = refl

after-first : (k s d : ℕ) (ts : Terms) → s ≡ k + d → terms_after k (first_terms s ts) ≡ first_terms d (terms_after k ts)
after-first zero s d ts e = let f : s ≡ d = omega arith in ap (λ (n : ℕ). first_terms n ts) f
after-first (suc k) zero d ts e = absurd (omega arith)
after-first (suc k) (suc s) d none e = sym (first-none d)
after-first (suc k) (suc s) d (more t ts) e = after-first k s d ts (omega arith)

-- ---- one node back

passed-variable : (ns ms : List FoNode) (p at m v : ℕ) → slice_get ns p ≡ Some (Var v) → slice_get ms p ≡ Some (Var v) → ArePassed ns ms (suc p) at m → ArePassed ns ms p at (suc m)
passed-variable ns ms p at m v h k b =
    let l : terms_at ns p ≡ more (variable v) (terms_at ns (suc p)) = terms_at-node ns p (Var v) h in
    let r : terms_at ms p ≡ more (variable v) (terms_at ms (suc p)) = terms_at-node ms p (Var v) k in
    let few = b.few in
    let a = b.left_enough in
    let c = b.right_enough in
    record {
      few = omega arith;
      same = rw (l, r) (ap (more (variable v)) b.same);
      left = rw l b.left;
      right = rw r b.right;
      left_enough = rw l (omega arith);
      right_enough = rw r (omega arith);
    }

passed-symbol : (ns ms : List FoNode) (p at m f k d : ℕ) → m ≡ k + d → slice_get ns p ≡ Some (Sym f k) → slice_get ms p ≡ Some (Sym f k) → ArePassed ns ms (suc p) at m → ArePassed ns ms p at (suc d)
passed-symbol ns ms p at m f k d e h j b =
    let T : Terms = terms_at ns (suc p) in
    let U : Terms = terms_at ms (suc p) in
    let l : terms_at ns p ≡ more (symbol f (first_terms k T)) (terms_after k T) = terms_at-node ns p (Sym f k) h in
    let r : terms_at ms p ≡ more (symbol f (first_terms k U)) (terms_after k U) = terms_at-node ms p (Sym f k) j in
    let a = b.left_enough in
    let c = b.right_enough in
    let few = b.few in
    let few_left = count-terms_after k T (omega arith) in
    let few_right = count-terms_after k U (omega arith) in
    let first : first_terms k T ≡ first_terms k U = sym (first-first k m T (omega arith)) ∙ ap (first_terms k) b.same ∙ first-first k m U (omega arith) in
    let others : first_terms d (terms_after k T) ≡ first_terms d (terms_after k U) = sym (after-first k m d T e) ∙ ap (terms_after k) b.same ∙ after-first k m d U e in
    record {
      few = omega arith;
      same = rw (l, r, first, others) refl;
      left = rw l (terms_after-more d k T ∙ rw e at b.left);
      right = rw r (terms_after-more d k U ∙ rw e at b.right);
      left_enough = rw l (omega arith);
      right_enough = rw r (omega arith);
    }

pub passed-node : (ns ms : List FoNode) (p at m now : ℕ) (n : FoNode) → slice_get ns p ≡ Some n → slice_get ms p ≡ Some n → arguments_of n ≤ m → now + arguments_of n ≡ m + 1 → ArePassed ns ms (suc p) at m → ArePassed ns ms p at now
passed-node ns ms p at m now (Var v) h k l e b = let same : now ≡ suc m = omega arith in rw same (passed-variable ns ms p at m v h k b)
passed-node ns ms p at m now (Sym f c) h k l e b =
    let same : now ≡ suc (m - c) = omega arith in
    rw same (passed-symbol ns ms p at m f c (m - c) (omega arith) h k b)

pub passed-none : (ns ms : List FoNode) (at : ℕ) → ArePassed ns ms at at 0
passed-none ns ms at = record { few = omega arith; same = refl; left = refl; right = refl; left_enough = omega arith; right_enough = omega arith }

-- ---- the terms at a level among the arguments of the symbol around them

none_is_not_more : (t : Term) (ts : Terms) → none ≡ more t ts → ⊥
none_is_not_more t ts e = cc

more-parts : (t u : Term) (ts us : Terms) → more t ts ≡ more u us → (t ≡ u) × (ts ≡ us)
more-parts t u ts us e = ((cc), (cc))

decides-from : (m k : ℕ) (T U : Terms) (s t : Term) (S V : Terms) → first_terms m T ≡ first_terms m U → m < k → terms_after m T ≡ more s S → terms_after m U ≡ more t V → (s ≡ t → ⊥) → FirstIsGreater (first_terms k T) (first_terms k U) → IsGreater s t
decides-from m zero T U s t S V e l a b d h = absurd (omega arith)
decides-from zero (suc k) T U s t S V e l a b d h =
    let shape : FirstIsGreater (more s (first_terms k S)) (more t (first_terms k V)) = rw (a, b) at h in
    elim shape [ inl g ↦ g | inr p ↦ absurd (d p.0) ]
decides-from (suc m) (suc k) none U s t S V e l a b d h = absurd (none_is_not_more s S a)
decides-from (suc m) (suc k) (more x T) none s t S V e l a b d h = absurd (none_is_not_more t V b)
decides-from (suc m) (suc k) (more x T) (more y U) s t S V e l a b d h =
    let p = more-parts x y (first_terms m T) (first_terms m U) e in
    elim h [ inl g ↦ absurd (irreflexive y (rw p.0 at g)) | inr q ↦ decides-from m k T U s t S V p.1 (omega arith) a b d q.1 ]

decides-back : (m k : ℕ) (T U : Terms) (s t : Term) (S V : Terms) → first_terms m T ≡ first_terms m U → m < k → terms_after m T ≡ more s S → terms_after m U ≡ more t V → IsGreater s t → FirstIsGreater (first_terms k T) (first_terms k U)
decides-back m zero T U s t S V e l a b g = absurd (omega arith)
decides-back zero (suc k) T U s t S V e l a b g = rw (a, b) (inl g)
decides-back (suc m) (suc k) none U s t S V e l a b g = absurd (none_is_not_more s S a)
decides-back (suc m) (suc k) (more x T) none s t S V e l a b g = absurd (none_is_not_more t V b)
decides-back (suc m) (suc k) (more x T) (more y U) s t S V e l a b g =
    let p = more-parts x y (first_terms m T) (first_terms m U) e in
    inr (p.0, decides-back m k T U s t S V p.1 (omega arith) a b g)

decides-same : (m k : ℕ) (T U : Terms) (s t : Term) (S V : Terms) → m < k → terms_after m T ≡ more s S → terms_after m U ≡ more t V → first_terms k T ≡ first_terms k U → s ≡ t
decides-same m zero T U s t S V l a b h = absurd (omega arith)
decides-same zero (suc k) T U s t S V l a b h =
    let shape : more s (first_terms k S) ≡ more t (first_terms k V) = rw (a, b) at h in
    (more-parts s t (first_terms k S) (first_terms k V) shape).0
decides-same (suc m) (suc k) none U s t S V l a b h = absurd (none_is_not_more s S a)
decides-same (suc m) (suc k) (more x T) none s t S V l a b h = absurd (none_is_not_more t V b)
decides-same (suc m) (suc k) (more x T) (more y U) s t S V l a b h = decides-same m k T U s t S V (omega arith) a b (more-parts x y (first_terms k T) (first_terms k U) h).1

-- ---- what the level says of the terms around it

both_ways : (s t : Term) → IsGreater s t → IsGreater t s → ⊥
both_ways s t g h = irreflexive s (transitive s t s g h)

module _ (f : ℕ) (A B : Terms) (s t : Term) (same_size : size (symbol f A) ≡ size (symbol f B)) (d : s ≡ t → ⊥)
    (from : FirstIsGreater A B → IsGreater s t) (back : IsGreater s t → FirstIsGreater A B)
    (turned_from : FirstIsGreater B A → IsGreater t s) (turned_back : IsGreater t s → FirstIsGreater B A) where
  pub outward-same : (o : FoOrder) → IsOrder s t o → IsHeads (symbol f A) (symbol f B) (heads_of o)
  outward-same Greater g = ((λ c. arguments_back f A B same_size c (back g)), (λ h. both_ways s t g (turned_from (arguments_from f B A (sym same_size) h))))
  outward-same Less g = ((λ c. arguments_back f B A (sym same_size) c (turned_back g)), (λ h. both_ways s t (from (arguments_from f A B same_size h)) g))
  outward-same Equal e = absurd (d e)
  outward-same Unordered u = ((λ h. u.2 (from (arguments_from f A B same_size h))), (λ h. u.0 (turned_from (arguments_from f B A (sym same_size) h))))

heads-heavier : (s t : Term) → size t < size s → IsHeads s t First
heads-heavier s t l = ((λ c. heavier_wins s t c l), not_heavier t s l)

heads-lighter : (s t : Term) → size s < size t → IsHeads s t Second
heads-lighter s t l = ((λ c. heavier_wins t s c l), not_heavier s t l)

three_ways : (m n : ℕ) → (n < m) ⊎ ((m < n) ⊎ (m ≡ n))
three_ways m n = grind arith

symbol-parts : (f g : ℕ) (ts us : Terms) → symbol f ts ≡ symbol g us → (f ≡ g) × (ts ≡ us)
symbol-parts f g ts us e = ((cc), (cc))

size-length : (ns : List FoNode) (at e : ℕ) → IsFull ns → IsBehind ns at e → size (term_at ns at) ≡ e - at
size-length ns at e f b = sym (length-prefix (term_at ns at)) ∙ length-term ns at e f b

-- ---- one side of the symbol around a level

module _ (ns : List FoNode) (full : IsFull ns) (at left_end here m k f missing : ℕ) (b : IsBehind ns at left_end) (stands : slice_get ns here ≡ Some (Sym f k)) (counted : m + suc missing ≡ k)
    (later : m + suc here ≤ at) (reads : terms_after m (terms_at ns (suc here)) ≡ terms_at ns at) (enough : m ≤ count (terms_at ns (suc here))) where
  whole : k ≤ count (terms_at ns (suc here))
  whole = full here (Sym f k) stands

  some : 1 ≤ count (terms_at ns at)
  some = let l = b.later in let i = b.inside in some_at ns at (omega arith)

  pub around-enough : missing ≤ count (terms_at ns left_end)
  around-enough =
      let one : count (terms_after m (terms_at ns (suc here))) + m ≡ count (terms_at ns (suc here)) = count-terms_after m (terms_at ns (suc here)) enough in
      let same : count (terms_after m (terms_at ns (suc here))) ≡ count (terms_at ns at) = ap count reads in
      let two : count (terms_after 1 (terms_at ns at)) + 1 ≡ count (terms_at ns at) = count-terms_after 1 (terms_at ns at) some in
      let last : count (terms_at ns left_end) ≡ count (terms_after 1 (terms_at ns at)) = ap count b.reads in
      let w = whole in
      omega arith

  pub around-behind : (e : ℕ) → left_end ≤ e → e ≤ length ns → terms_at ns e ≡ terms_after missing (terms_at ns left_end) → IsBehind ns here e
  around-behind e l i r =
      let first = b.later in
      let sum : m + (1 + missing) ≡ k = omega arith in
      let node : terms_at ns here ≡ more (symbol f (first_terms k (terms_at ns (suc here)))) (terms_after k (terms_at ns (suc here))) = terms_at-node ns here (Sym f k) stands in
      record {
        later = omega arith;
        inside = i;
        reads = r ∙ ap (terms_after missing) b.reads ∙ terms_after-more missing 1 (terms_at ns at) ∙ ap (terms_after (1 + missing)) (sym reads) ∙ terms_after-more (1 + missing) m (terms_at ns (suc here))
            ∙ ap (λ (n : ℕ). terms_after n (terms_at ns (suc here))) sum ∙ sym (ap (terms_after 1) node);
      }

  pub around-term : term_at ns here ≡ symbol f (first_terms k (terms_at ns (suc here)))
  around-term = ap first_term (terms_at-node ns here (Sym f k) stands)

  pub around-parts : terms_after m (terms_at ns (suc here)) ≡ more (term_at ns at) (terms_after 1 (terms_at ns at))
  around-parts = reads ∙ parted (terms_at ns at) some

-- ---- the symbols around a level

module _ (ns ms : List FoNode) (full : IsFull ns) (full' : IsFull ms) (l : Level) (o : AreOrdered ns ms l) (here missing : ℕ) (v : IsOver ns ms l here missing) where
  abbrev T : Terms
  T = terms_at ns (suc here)

  abbrev U : Terms
  U = terms_at ms (suc here)

  below : v.passed < v.arguments
  below = let c = v.counted in omega arith

  pub left-enough : missing ≤ count (terms_at ns l.left_end)
  left-enough = around-enough ns full l.at l.left_end here v.passed v.arguments v.symbol missing o.left v.left_is v.counted v.behind.few v.behind.left v.behind.left_enough

  pub right-enough : missing ≤ count (terms_at ms l.right_end)
  right-enough = around-enough ms full' l.at l.right_end here v.passed v.arguments v.symbol missing o.right v.right_is v.counted v.behind.few v.behind.right v.behind.right_enough

  pub left-behind : (e : ℕ) → l.left_end ≤ e → e ≤ length ns → terms_at ns e ≡ terms_after missing (terms_at ns l.left_end) → IsBehind ns here e
  left-behind = around-behind ns full l.at l.left_end here v.passed v.arguments v.symbol missing o.left v.left_is v.counted v.behind.few v.behind.left v.behind.left_enough

  pub right-behind : (e : ℕ) → l.right_end ≤ e → e ≤ length ms → terms_at ms e ≡ terms_after missing (terms_at ms l.right_end) → IsBehind ms here e
  right-behind = around-behind ms full' l.at l.right_end here v.passed v.arguments v.symbol missing o.right v.right_is v.counted v.behind.few v.behind.right v.behind.right_enough

  left-term : term_at ns here ≡ symbol v.symbol (first_terms v.arguments T)
  left-term = around-term ns full l.at l.left_end here v.passed v.arguments v.symbol missing o.left v.left_is v.counted v.behind.few v.behind.left v.behind.left_enough

  right-term : term_at ms here ≡ symbol v.symbol (first_terms v.arguments U)
  right-term = around-term ms full' l.at l.right_end here v.passed v.arguments v.symbol missing o.right v.right_is v.counted v.behind.few v.behind.right v.behind.right_enough

  left-parts : terms_after v.passed T ≡ more (term_at ns l.at) (terms_after 1 (terms_at ns l.at))
  left-parts = around-parts ns full l.at l.left_end here v.passed v.arguments v.symbol missing o.left v.left_is v.counted v.behind.few v.behind.left v.behind.left_enough

  right-parts : terms_after v.passed U ≡ more (term_at ms l.at) (terms_after 1 (terms_at ms l.at))
  right-parts = around-parts ms full' l.at l.right_end here v.passed v.arguments v.symbol missing o.right v.right_is v.counted v.behind.few v.behind.right v.behind.right_enough

  pub around-different : term_at ns here ≡ term_at ms here → ⊥
  around-different e =
      let p = symbol-parts v.symbol v.symbol (first_terms v.arguments T) (first_terms v.arguments U) (sym left-term ∙ e ∙ right-term) in
      o.different (decides-same v.passed v.arguments T U (term_at ns l.at) (term_at ms l.at) (terms_after 1 (terms_at ns l.at)) (terms_after 1 (terms_at ms l.at)) below left-parts right-parts p.1)

  same-heads : size (term_at ns here) ≡ size (term_at ms here) → IsHeads (term_at ns here) (term_at ms here) (heads_of l.order)
  same-heads e =
      rw (left-term, right-term)
      (outward-same v.symbol (first_terms v.arguments T) (first_terms v.arguments U) (term_at ns l.at) (term_at ms l.at) (sym (ap size left-term) ∙ e ∙ ap size right-term) o.different
      (decides-from v.passed v.arguments T U (term_at ns l.at) (term_at ms l.at) (terms_after 1 (terms_at ns l.at)) (terms_after 1 (terms_at ms l.at)) v.behind.same below left-parts right-parts o.different)
      (decides-back v.passed v.arguments T U (term_at ns l.at) (term_at ms l.at) (terms_after 1 (terms_at ns l.at)) (terms_after 1 (terms_at ms l.at)) v.behind.same below left-parts right-parts)
      (decides-from v.passed v.arguments U T (term_at ms l.at) (term_at ns l.at) (terms_after 1 (terms_at ms l.at)) (terms_after 1 (terms_at ns l.at)) (sym v.behind.same) below right-parts left-parts (λ q. o.different (sym q)))
      (decides-back v.passed v.arguments U T (term_at ms l.at) (term_at ns l.at) (terms_after 1 (terms_at ms l.at)) (terms_after 1 (terms_at ns l.at)) (sym v.behind.same) below right-parts left-parts)
      l.order o.order)

  pub around-heads : (e d : ℕ) (h : Heads) → IsBehind ns here e → IsBehind ms here d → (d < e → h ≡ First) → (e < d → h ≡ Second) → (e ≡ d → h ≡ heads_of l.order) → IsHeads (term_at ns here) (term_at ms here) h
  around-heads e d h b c heavier lighter same =
      let first = size-length ns here e full b in
      let second = size-length ms here d full' c in
      let x = b.later in
      let y = c.later in
      elim (three_ways e d) [
        | inl q ↦ (let is : h ≡ First = heavier q in rw is (heads-heavier (term_at ns here) (term_at ms here) (omega arith)))
        | inr r ↦ elim r [
          | inl q ↦ (let is : h ≡ Second = lighter q in rw is (heads-lighter (term_at ns here) (term_at ms here) (omega arith)))
          | inr q ↦ (let is : h ≡ heads_of l.order = same q in rw is (same-heads (omega arith)))
        ]
      ]

-- ---- the first and the last level

node_there : (xs : List FoNode) (i : ℕ) → i < length xs → (x : FoNode) × (slice_get xs i ≡ Some x)
node_there [] i h = absurd (omega arith)
node_there (x ∷ xs) zero h = (x, refl)
node_there (x ∷ xs) (suc i) h = node_there xs i (omega arith)

pub unlike-terms : (ns ms : List FoNode) (at e d : ℕ) → IsFull ns → IsFull ms → IsBehind ns at e → IsBehind ms at d → ((n : FoNode) → slice_get ns at ≡ Some n → slice_get ms at ≡ Some n → ⊥) → term_at ns at ≡ term_at ms at → ⊥
unlike-terms ns ms at e d full full' b c u same =
    let l = b.later in
    let i = b.inside in
    let k = c.later in
    let first = length-term ns at e full b in
    let second = length-term ms at d full' c in
    let x = node_there ns at (omega arith) in
    let zero_more : at + 0 ≡ at = omega arith in
    let left : slice_get ns (at + 0) ≡ slice_get (prefix (term_at ns at)) 0 = node_of ns at e full b 0 (omega arith) in
    let right : slice_get ms (at + 0) ≡ slice_get (prefix (term_at ms at)) 0 = node_of ms at d full' c 0 (omega arith) in
    let both : slice_get ms (at + 0) ≡ slice_get ns (at + 0) = right ∙ ap (λ (t : Term). slice_get (prefix t) 0) (sym same) ∙ sym left in
    u x.0 x.1 (rw zero_more at both ∙ x.1)

all_passed : (m : ℕ) (ts : Terms) → m ≤ count ts → count ts ≡ 1 → 1 ≤ count (terms_after m ts) → m ≡ 0
all_passed m ts h e l = let c = count-terms_after m ts h in omega arith

whole-term : (ns : List FoNode) (at m : ℕ) → IsPrefix ns → at < length ns → m ≤ count (terms_at ns 0) → terms_after m (terms_at ns 0) ≡ terms_at ns at → term_at ns at ≡ term_of ns
whole-term ns at m p i h r =
    let some : 1 ≤ count (terms_after m (terms_at ns 0)) = rw r (some_at ns at i) in
    let none_passed : m ≡ 0 = all_passed m (terms_at ns 0) h (IsPrefix-count ns p) some in
    let reads : terms_after 0 (terms_at ns 0) ≡ terms_at ns at = rw none_passed at r in
    ap first_term (sym reads ∙ terms_at-zero ns)

pub order-whole : (ns ms : List FoNode) (l : Level) (m : ℕ) → IsPrefix ns → IsPrefix ms → AreOrdered ns ms l → ArePassed ns ms 0 l.at m → IsOrder (term_of ns) (term_of ms) l.order
order-whole ns ms l m p q o b =
    let x = o.left.later in
    let y = o.left.inside in
    let z = o.right.later in
    let w = o.right.inside in
    rw (← whole-term ns l.at m p (omega arith) b.left_enough b.left, ← whole-term ms l.at m q (omega arith) b.right_enough b.right) o.order

-- ---- a list that begins another

front : (xs ys : List FoNode) → ((i : ℕ) → i < length xs → slice_get xs i ≡ slice_get ys i) → (rest : List FoNode) × (ys ≡ xs ++ rest)
front [] ys h = (ys, refl)
front (x ∷ xs) [] h = let e : Some x ≡ None = h 0 (omega arith) in absurd cc
front (x ∷ xs) (y ∷ ys) h =
    let r = front xs ys (λ i l. h (suc i) (omega arith)) in
    let e : Some x ≡ Some y = h 0 (omega arith) in
    let same : y ≡ x = cc in
    (r.0, rw same (ap (λ (zs : List FoNode). x ∷ zs) r.1))

pub begins-same : (ns ms : List FoNode) (s t : Term) → ns ≡ prefix s → ms ≡ prefix t → AreSameBefore ns ms (length ns) → s ≡ t
begins-same ns ms s t e d h =
    let r = front ns ms h in
    let read : terms_of (prefix s ++ r.0) ≡ more s (terms_of r.0) = terms_of-prefix s r.0 in
    let alone : terms_of (prefix t ++ []) ≡ more t (terms_of []) = terms_of-prefix t [] in
    let whole : prefix t ++ [] ≡ prefix s ++ r.0 = append-nil (prefix t) ∙ sym d ∙ r.1 ∙ ap (λ (xs : List FoNode). xs ++ r.0) e in
    (more-parts s t (terms_of r.0) (terms_of []) (sym read ∙ ap terms_of (sym whole) ∙ alone)).0
