-- The nodes of terms.
use Rattle.std.proofs.Common.{ℕ, ◌≡◌, ◌+◌, ◌-◌, ◌≤◌, ◌<◌, suc, zero, List, [], ◌∷◌, ◌++◌, length, take, drop, refl, sym, ap, ◌∙◌, arith, append_assoc, length-append}
use Rattle.std.specs.Prelude.{◌↔◌, IsTrue, Bool}
use Rattle.std.specs.List.{flat_map}
use Rattle.std.proofs.lemmas.List.{append-nil, take_rest}
use Rattle.std.proofs.lemmas.List.Concat.{flat_map-append}
use Rattle.fo_terms.specs.declared.term.FoNode.{FoNode}
use Rattle.fo_terms.specs.declared.term.FoNode.TheVariants.{Var, Sym}
use Rattle.fo_terms.specs.Terms.{Term, Terms, variable, symbol, none, more, count}
use Rattle.fo_terms.specs.Prefix.{prefix, prefix_of_all, term_of}
use Rattle.fo_terms.specs.Reading.{term_of-prefix, joined}
use Rattle.fo_terms.specs.Substitutions.{Substitution, apply, apply_to_all}
use Rattle.fo_terms.specs.Places.{arguments_of}
use Rattle.fo_text.proofs.NodeLists.{prefix_of_all-joined}
use Rattle.fo_replay.specs.Parts.{image_nodes}

pub prefix-injective : (t u : Term) → prefix t ≡ prefix u → t ≡ u
prefix-injective t u e = sym (term_of-prefix t) ∙ ap term_of e ∙ term_of-prefix u

pub cons_same : (n : FoNode) (one other xs ys left right : List FoNode) → left ≡ n ∷ xs → right ≡ n ∷ ys → (one ≡ other) ↔ (left ≡ right) → (one ≡ other) ↔ (xs ≡ ys)
cons_same n one other xs ys left right e f h = ((λ p. (let q : n ∷ xs ≡ n ∷ ys = sym e ∙ h.0 p ∙ f in cc)), (λ p. h.1 (e ∙ ap (λ u. n ∷ u) p ∙ sym f)))

pub ends_same : (xs ys : List FoNode) → ((n : FoNode) (ps qs : List FoNode) → xs ≡ n ∷ ps → ys ≡ n ∷ qs → ⊥) → xs ≡ ys → (xs ≡ []) × (ys ≡ [])
ends_same [] ys h e = (refl, sym e)
ends_same (x ∷ xs) ys h e = absurd (h x xs xs refl (sym e))

pub same_done : (t u : Term) (xs ys : List FoNode) (r : Bool) → (prefix t ≡ prefix u) ↔ (xs ≡ ys) → ((n : FoNode) (ps qs : List FoNode) → xs ≡ n ∷ ps → ys ≡ n ∷ qs → ⊥) → IsTrue r ↔ ((xs ≡ []) × (ys ≡ [])) → IsTrue r ↔ (t ≡ u)
same_done t u xs ys r h n e = (
  (λ p. (let w = e.0 p in prefix-injective t u (h.1 (w.0 ∙ sym w.1)))),
  (λ p. e.1 (ends_same xs ys n (h.0 (ap prefix p)))),
)

count-apply : (s : Substitution) (ts : Terms) → count (apply_to_all s ts) ≡ count ts
count-apply s none = refl
count-apply s (more t ts) = ap suc (count-apply s ts)

mutual
  pub prefix-apply : (s : Substitution) (t : Term) → prefix (apply s t) ≡ flat_map (image_nodes s) (prefix t)
  prefix-apply s (variable v) = sym (append-nil (prefix (s v)))
  prefix-apply s (symbol f ts) = ap (λ k. Sym f k ∷ prefix_of_all (apply_to_all s ts)) (count-apply s ts) ∙ ap (λ u. Sym f (count ts) ∷ u) (prefix-apply-all s ts)

  pub prefix-apply-all : (s : Substitution) (ts : Terms) → prefix_of_all (apply_to_all s ts) ≡ flat_map (image_nodes s) (prefix_of_all ts)
  prefix-apply-all s none = refl
  prefix-apply-all s (more t ts) = ap (λ u. u ++ prefix_of_all (apply_to_all s ts)) (prefix-apply s t) ∙ ap (λ u. flat_map (image_nodes s) (prefix t) ++ u) (prefix-apply-all s ts) ∙ sym (flat_map-append (image_nodes s) (prefix t) (prefix_of_all ts))

-- how many nodes terms have at least
pub nodes_some : (t : Term) → (n : FoNode) × (ns : List FoNode) × (prefix t ≡ n ∷ ns)
nodes_some (variable v) = (Var v, [], refl)
nodes_some (symbol f ts) = (Sym f (count ts), prefix_of_all ts, refl)

pub count_within : (ts : Terms) → count ts ≤ length (prefix_of_all ts)
count_within none = omega arith
count_within (more t ts) =
    let s = nodes_some t in
    let l : length (prefix t) ≡ suc (length s.1) = ap length s.2 in
    let a : length (prefix t ++ prefix_of_all ts) ≡ length (prefix t) + length (prefix_of_all ts) = length-append (prefix t) (prefix_of_all ts) in
    let r = count_within ts in
    omega arith

count-joined : (ts us : Terms) → count (joined ts us) ≡ count ts + count us
count-joined none us = omega arith
count-joined (more t ts) us = let r = count-joined ts us in omega arith

-- some terms stand at the front of nodes, and these nodes behind them
pub record Fronts (nodes back : List FoNode) (n : ℕ) : Type 0 where
  pub terms : Terms
  pub nodes_are : nodes ≡ prefix_of_all terms ++ back
  pub count_is : count terms ≡ n

pub fronts_next : (nodes : List FoNode) (node : FoNode) (tail back : List FoNode) (n m k : ℕ) → nodes ≡ node ∷ tail → n ≡ suc m → k ≡ m + arguments_of node → Fronts nodes back n → Fronts tail back k
fronts_next nodes node tail back n m k e s a f = go node f.terms (sym e ∙ f.nodes_are) (f.count_is ∙ s) a
  where
    go : (x : FoNode) (ts : Terms) → x ∷ tail ≡ prefix_of_all ts ++ back → count ts ≡ suc m → k ≡ m + arguments_of x → Fronts tail back k
    go x none h c a = absurd cc
    go x (more (variable v) ts) h c a =
        let i : x ≡ Var v = cc in
        let t : tail ≡ prefix_of_all ts ++ back = cc in
        let b : arguments_of x ≡ 0 = ap arguments_of i in
        record { terms = ts; nodes_are = t; count_is = omega arith }
    go x (more (symbol f us) ts) h c a =
        let i : x ≡ Sym f (count us) = cc in
        let t : tail ≡ (prefix_of_all us ++ prefix_of_all ts) ++ back = cc in
        let b : arguments_of x ≡ count us = ap arguments_of i in
        let j = count-joined us ts in
        record { terms = joined us ts; nodes_are = t ∙ ap (λ u. u ++ back) (sym (prefix_of_all-joined us ts)); count_is = omega arith }

pub fronts_none : (nodes back : List FoNode) → Fronts nodes back 0 → nodes ≡ back
fronts_none nodes back f = go f.terms f.nodes_are f.count_is
  where
    go : (ts : Terms) → nodes ≡ prefix_of_all ts ++ back → count ts ≡ 0 → nodes ≡ back
    go none h c = h
    go (more t ts) h c = absurd (omega arith)

pub fronts_within : (nodes back : List FoNode) (n : ℕ) → Fronts nodes back n → n ≤ length nodes
fronts_within nodes back n f =
    let l : length nodes ≡ length (prefix_of_all f.terms) + length back = ap length f.nodes_are ∙ length-append (prefix_of_all f.terms) back in
    let w = count_within f.terms in
    let c : count f.terms ≡ n = f.count_is in
    omega arith

pub fronts_of : (nodes back : List FoNode) (n : ℕ) (rest : List FoNode) (wanted : ℕ) → ((b : List FoNode) → Fronts nodes b n → Fronts rest b wanted) → (ts : Terms) → nodes ≡ prefix_of_all ts ++ back → count ts ≡ n → Fronts rest back wanted
fronts_of nodes back n rest wanted h ts e c = h back (record { terms = ts; nodes_are = e; count_is = c })

pub fronts_room : (nodes : List FoNode) (node : FoNode) (tail back : List FoNode) (n k : ℕ) → nodes ≡ node ∷ tail → 0 < n → k ≡ arguments_of node → Fronts nodes back n → n + k ≤ length nodes
fronts_room nodes node tail back zero k e p a f = absurd (omega arith)
fronts_room nodes node tail back (suc m) k e p a f =
    let g = fronts_next nodes node tail back (suc m) m (m + arguments_of node) e refl refl f in
    let w = fronts_within tail back (m + arguments_of node) g in
    let l : length nodes ≡ suc (length tail) = ap length e in
    omega arith

-- a part of a list
pub take_front : (xs ys : List FoNode) → take (length xs) (xs ++ ys) ≡ xs
take_front [] ys = refl
take_front (x ∷ xs) ys = ap (λ u. x ∷ u) (take_front xs ys)

drop_front : (xs ys : List FoNode) → drop (length xs) (xs ++ ys) ≡ ys
drop_front [] ys = refl
drop_front (x ∷ xs) ys = drop_front xs ys

pub range_middle : (xs front mid back : List FoNode) (start stop : ℕ) → xs ≡ front ++ (mid ++ back) → length front ≡ start → length front + length mid ≡ stop → take (stop - start) (drop start xs) ≡ mid
range_middle xs front mid back start stop e a b =
    let n : stop - start ≡ length mid = omega arith in
    ap (λ u. take u (drop start xs)) n ∙ ap (λ u. take (length mid) (drop u xs)) (sym a) ∙ ap (λ u. take (length mid) (drop (length front) u)) e ∙ ap (take (length mid)) (drop_front front (mid ++ back)) ∙ take_front mid back

pub range_start : (xs front mid back : List FoNode) (start : ℕ) → xs ≡ front ++ (mid ++ back) → length front ≡ start → take start xs ≡ front
range_start xs front mid back start e a = ap (λ u. take u xs) (sym a) ∙ ap (take (length front)) e ∙ take_front front (mid ++ back)

pub range_rest : (xs front mid back : List FoNode) (stop : ℕ) → xs ≡ front ++ (mid ++ back) → length front + length mid ≡ stop → drop stop xs ≡ back
range_rest xs front mid back stop e b =
    let w : xs ≡ (front ++ mid) ++ back = e ∙ sym (append_assoc front mid back) in
    let l : length (front ++ mid) ≡ stop = length-append front mid ∙ b in
    ap (λ u. drop u xs) (sym l) ∙ ap (drop (length (front ++ mid))) w ∙ drop_front (front ++ mid) back

pub applied_nodes : (s : Substitution) (t : Term) (nodes items : List FoNode) → nodes ≡ prefix t → items ≡ flat_map (image_nodes s) nodes → prefix (apply s t) ≡ items
applied_nodes s t nodes items e f = prefix-apply s t ∙ ap (flat_map (image_nodes s)) (sym e) ∙ sym f

pub term_built : (t u : Term) (items : List FoNode) → prefix u ≡ items → prefix t ≡ items → t ≡ u
term_built t u items e f = prefix-injective t u (f ∙ sym e)

pub put_nodes : (xs front mid back : List FoNode) (start stop : ℕ) (by whole zero_items one by_nodes two ys three : List FoNode) → xs ≡ front ++ (mid ++ back) → ys ≡ xs → length front ≡ start → length front + length mid ≡ stop → whole ≡ front ++ (by ++ back)
    → zero_items ≡ [] → one ≡ zero_items ++ take start xs → by_nodes ≡ by → two ≡ one ++ by_nodes → three ≡ two ++ take (length ys - stop) (drop stop ys) → whole ≡ three
put_nodes xs front mid back start stop by whole zero_items one by_nodes two ys three e y a b w z p q r t =
    let f : one ≡ front = p ∙ ap (λ u. u ++ take start xs) z ∙ range_start xs front mid back start e a in
    let g : two ≡ front ++ by = r ∙ ap (λ u. u ++ by_nodes) f ∙ ap (λ u. front ++ u) q in
    let h : three ≡ (front ++ by) ++ back = t ∙ ap (λ u. two ++ u) (take_rest ys stop) ∙ ap (λ u. u ++ drop stop ys) g ∙ ap (λ u. (front ++ by) ++ u) (range_rest ys front mid back stop (y ∙ e) b) in
    w ∙ sym (append_assoc front by back) ∙ sym h
