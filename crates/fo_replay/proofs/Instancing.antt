-- The words of an instance, and what they say.
use Rattle.std.proofs.Common.{ℕ, ◌≡◌, ◌<◌, ◌≤◌, ◌-◌, ◌+◌, suc, zero, Option, Some, None, List, [], ◌∷◌, ◌++◌, length, map, take, refl, sym, ap, ◌∙◌, subst, arith, append_assoc, length-append}
use Rattle.std.specs.Prelude.{MatchOption, Result, Ok, Err, IfOk, slice_get}
use Rattle.std.proofs.lemmas.List.{append-nil}
use Rattle.fo_terms.specs.declared.term.FoNode.{FoNode}
use Rattle.fo_terms.specs.declared.term.FoNode.TheVariants.{Var, Sym}
use Rattle.fo_terms.specs.Terms.{Term, Terms, variable, symbol, none, more, count}
use Rattle.fo_terms.specs.Prefix.{prefix, prefix_of_all, terms_of}
use Rattle.fo_terms.specs.Reading.{joined, terms_of-prefix_of_all}
use Rattle.fo_text.specs.declared.problem.FoSym.{FoSym}
use Rattle.fo_text.specs.declared.problem.FoClause.{FoClause}
use Rattle.fo_text.specs.declared.answer.FoWord.{FoWord}
use Rattle.fo_text.specs.declared.answer.FoWord.TheVariants as word
use Rattle.fo_text.specs.Problems.{AreSorts, HasSort, HaveSorts}
use Rattle.fo_replay.specs.Replays.{term_or, images, node_as_word, instance_words, IsInstance, applied_literal}
use Rattle.fo_replay.specs.Parts.{Fill}
use Rattle.fo_replay.specs.Instances.{numbers_as_words, IsNodeOf, AreNodesOf, AreSplit, IsTyped, as_terms}
use Rattle.fo_replay.proofs.Nodes.{take_front}
use Rattle.fo_replay.proofs.SortsOfNodes.{fill_terms, terms_fill}

-- sorts
pub no_sorts : (sorts : ℕ) (list : List ℕ) (w : FoWord) (tail : List FoWord) (ns : List ℕ) → numbers_as_words list ++ w ∷ tail ≡ numbers_as_words ns → AreSorts sorts ns → ((n : ℕ) → w ≡ word.Number n → n < sorts → ⊥) → ⊥
no_sorts sorts [] w tail [] e h never = cc
no_sorts sorts [] w tail (n ∷ ns) e h never = let k : w ≡ word.Number n = cc in never n k h.0
no_sorts sorts (x ∷ list) w tail [] e h never = cc
no_sorts sorts (x ∷ list) w tail (n ∷ ns) e h never = let t : numbers_as_words list ++ w ∷ tail ≡ numbers_as_words ns = cc in no_sorts sorts list w tail ns t h.1 never

-- nodes
pub no_nodes : (syms : List FoSym) (front : List FoWord) (w : FoWord) (tail : List FoWord) (ns : List FoNode) → AreNodesOf syms (front ++ w ∷ tail) ns → ((n : FoNode) → IsNodeOf syms w n → ⊥) → ⊥
no_nodes syms [] w tail [] h never = h
no_nodes syms [] w tail (n ∷ ns) h never = never n h.0
no_nodes syms (x ∷ front) w tail [] h never = h
no_nodes syms (x ∷ front) w tail (n ∷ ns) h never = no_nodes syms front w tail ns h.1 never

pub nodes_append : (syms : List FoSym) (ws vs : List FoWord) (ns ms : List FoNode) → AreNodesOf syms ws ns → AreNodesOf syms vs ms → AreNodesOf syms (ws ++ vs) (ns ++ ms)
nodes_append syms [] vs [] ms h k = k
nodes_append syms [] vs (n ∷ ns) ms h k = absurd h
nodes_append syms (w ∷ ws) vs [] ms h k = absurd h
nodes_append syms (w ∷ ws) vs (n ∷ ns) ms h k = (h.0, nodes_append syms ws vs ns ms h.1 k)

pub nodes_next : (syms : List FoSym) (words front rest : List FoWord) (w : FoWord) (tail : List FoWord) (list more_list : List FoNode) (n : FoNode) → words ≡ front ++ rest → rest ≡ w ∷ tail → AreNodesOf syms front list → IsNodeOf syms w n → more_list ≡ list ++ n ∷ [] → (f : List FoWord) × (words ≡ f ++ tail) × AreNodesOf syms f more_list
nodes_next syms words front rest w tail list more_list n e r h k m =
    (front ++ w ∷ [], e ∙ ap (λ u. front ++ u) r ∙ sym (append_assoc front (w ∷ []) tail), subst (AreNodesOf syms (front ++ w ∷ [])) (sym m) (nodes_append syms front (w ∷ []) list (n ∷ []) h (k, tt)))

node_words : (syms : List FoSym) (ws : List FoWord) (ns : List FoNode) → AreNodesOf syms ws ns → ws ≡ map node_as_word ns
node_words syms [] [] h = refl
node_words syms [] (n ∷ ns) h = absurd h
node_words syms (w ∷ ws) [] h = absurd h
node_words syms (w ∷ ws) (n ∷ ns) h = ap (λ u. u ∷ ws) (one n h.0) ∙ ap (λ u. node_as_word n ∷ u) (node_words syms ws ns h.1)
  where
    one : (n : FoNode) → IsNodeOf syms w n → w ≡ node_as_word n
    one (Var v) k = k
    one (Sym f k) h = h.0

some_same : {X : Type 0} (o : Option X) (x y : X) → o ≡ Some x → o ≡ Some y → x ≡ y
some_same o x y a b = let e : Some x ≡ Some y = sym a ∙ b in cc

node_same : (syms : List FoSym) (w : FoWord) (n m : FoNode) → IsNodeOf syms w n → IsNodeOf syms w m → n ≡ m
node_same syms w (Var v) (Var u) h k = let e : word.Var v ≡ word.Var u = sym h ∙ k in cc
node_same syms w (Var v) (Sym f k) h l = absurd (let e : word.Var v ≡ word.Sym f = sym h ∙ l.0 in cc)
node_same syms w (Sym f k) (Var v) h l = absurd (let e : word.Sym f ≡ word.Var v = sym h.0 ∙ l in cc)
node_same syms w (Sym f k) (Sym g l) h i =
    let e : f ≡ g = (let x : word.Sym f ≡ word.Sym g = sym h.0 ∙ i.0 in cc) in
    let y : h.1.0 ≡ i.1.0 = some_same (slice_get syms g) h.1.0 i.1.0 (subst (λ u. slice_get syms u ≡ Some h.1.0) e h.1.1) i.1.1 in
    let c : k ≡ l = sym h.1.2 ∙ ap (λ (s : FoSym). length s.args) y ∙ i.1.2 in
    ap (λ u. Sym u k) e ∙ ap (Sym g) c

nodes_same : (syms : List FoSym) (ws : List FoWord) (ns ms : List FoNode) → AreNodesOf syms ws ns → AreNodesOf syms ws ms → ns ≡ ms
nodes_same syms [] [] [] h k = refl
nodes_same syms [] [] (m ∷ ms) h k = absurd k
nodes_same syms [] (n ∷ ns) ms h k = absurd h
nodes_same syms (w ∷ ws) [] ms h k = absurd h
nodes_same syms (w ∷ ws) (n ∷ ns) [] h k = absurd k
nodes_same syms (w ∷ ws) (n ∷ ns) (m ∷ ms) h k = ap (λ u. u ∷ ns) (node_same syms w n m h.0 k.0) ∙ ap (λ u. m ∷ u) (nodes_same syms ws ns ms h.1 k.1)

map-append : (xs ys : List FoNode) → map node_as_word (xs ++ ys) ≡ map node_as_word xs ++ map node_as_word ys
map-append [] ys = refl
map-append (x ∷ xs) ys = ap (λ u. node_as_word x ∷ u) (map-append xs ys)

count_sorts : (vars : List ℕ) (syms : List FoSym) (ts : Terms) (ss : List ℕ) → HaveSorts vars syms ts ss → count ts ≡ length ss
count_sorts vars syms none [] h = refl
count_sorts vars syms none (s ∷ ss) h = absurd h
count_sorts vars syms (more t ts) [] h = absurd h
count_sorts vars syms (more t ts) (s ∷ ss) h = ap suc (count_sorts vars syms ts ss h.1)

mutual
  typed_nodes : (vars : List ℕ) (syms : List FoSym) (t : Term) (s : ℕ) → HasSort vars syms t s → AreNodesOf syms (map node_as_word (prefix t)) (prefix t)
  typed_nodes vars syms (variable v) s h = (refl, tt)
  typed_nodes vars syms (symbol f ts) s h = ((refl, (h.0, h.1, sym (count_sorts vars syms ts h.0.args h.3))), typed_nodes_all vars syms ts h.0.args h.3)

  typed_nodes_all : (vars : List ℕ) (syms : List FoSym) (ts : Terms) (ss : List ℕ) → HaveSorts vars syms ts ss → AreNodesOf syms (map node_as_word (prefix_of_all ts)) (prefix_of_all ts)
  typed_nodes_all vars syms none ss h = tt
  typed_nodes_all vars syms (more t ts) [] h = absurd h
  typed_nodes_all vars syms (more t ts) (s ∷ ss) h = subst (λ u. AreNodesOf syms u (prefix t ++ prefix_of_all ts)) (sym (map-append (prefix t) (prefix_of_all ts))) (nodes_append syms (map node_as_word (prefix t)) (map node_as_word (prefix_of_all ts)) (prefix t) (prefix_of_all ts) (typed_nodes vars syms t s h.0) (typed_nodes_all vars syms ts ss h.1))

-- images
or_at : (ts : List Term) (v : ℕ) (t other : Term) → slice_get ts v ≡ Some t → term_or (as_terms ts) v other ≡ t
or_at [] v t other e = absurd (none_there v e)
  where
    none_there : (v : ℕ) → slice_get [] v ≡ Some t → ⊥
    none_there zero e = cc
    none_there (suc v) e = cc
or_at (x ∷ ts) zero t other e = cc
or_at (x ∷ ts) (suc v) t other e = or_at ts v t other e

or_past : (ts : List Term) (v : ℕ) (other : Term) → length ts ≤ v → term_or (as_terms ts) v other ≡ other
or_past [] v other l = refl
or_past (x ∷ ts) zero other l = absurd (omega arith)
or_past (x ∷ ts) (suc v) other l = or_past ts v other (omega arith)

pub images_at : (ts : List Term) (v : ℕ) (t : Term) → slice_get ts v ≡ Some t → images (as_terms ts) v ≡ t
images_at ts v t e = or_at ts v t (variable v) e

pub images_past : (ts : List Term) (v : ℕ) → length ts ≤ v → images (as_terms ts) v ≡ variable v
images_past ts v l = or_past ts v (variable v) l

-- terms in a row
joined_none : (ts : Terms) → joined ts none ≡ ts
joined_none none = refl
joined_none (more t ts) = ap (more t) (joined_none ts)

all-injective : (ts us : Terms) → prefix_of_all ts ≡ prefix_of_all us → ts ≡ us
all-injective ts us e =
    let a : terms_of (prefix_of_all ts ++ []) ≡ ts = terms_of-prefix_of_all ts [] ∙ joined_none ts in
    let b : terms_of (prefix_of_all us ++ []) ≡ us = terms_of-prefix_of_all us [] ∙ joined_none us in
    sym a ∙ ap (λ x. terms_of (x ++ [])) e ∙ b

pub record IsFirst (rest first end : List FoNode) : Type 0 where
  pub term : Term
  pub others : Terms
  pub first_is : prefix term ≡ first
  pub end_is : end ≡ prefix_of_all others
  pub rest_is : rest ≡ prefix term ++ end

pub first_of_row : (rest first end : List FoNode) (ts : Terms) → rest ≡ prefix_of_all ts → (rest ≡ [] → ⊥) → ((us : Terms) (back : List FoNode) → rest ≡ prefix_of_all us ++ back → count us ≡ 1 → end ≡ back) → first ≡ take (length rest - length end) rest → IsFirst rest first end
first_of_row rest first end none e n skip f = absurd (n e)
first_of_row rest first end (more t ts) e n skip f =
    let s : end ≡ prefix_of_all ts = skip (more t none) (prefix_of_all ts) (e ∙ ap (λ u. u ++ prefix_of_all ts) (sym (append-nil (prefix t)))) refl in
    let r : rest ≡ prefix t ++ end = e ∙ ap (λ u. prefix t ++ u) (sym s) in
    let l : length rest ≡ length (prefix t) + length end = ap length r ∙ length-append (prefix t) end in
    let k : length rest - length end ≡ length (prefix t) = omega arith in
    record { term = t; others = ts; first_is = sym (f ∙ ap (λ u. take u rest) k ∙ ap (take (length (prefix t))) r ∙ take_front (prefix t) end); end_is = s; rest_is = r }

as_terms-append : (xs : List Term) (t : Term) → prefix_of_all (as_terms (xs ++ t ∷ [])) ≡ prefix_of_all (as_terms xs) ++ prefix t
as_terms-append [] t = append-nil (prefix t)
as_terms-append (x ∷ xs) t = ap (λ u. prefix x ++ u) (as_terms-append xs t) ∙ sym (append_assoc (prefix x) (prefix_of_all (as_terms xs)) (prefix t))

pub row_next : (list more_list : List Term) (t : Term) (nodes rest first end : List FoNode) → prefix_of_all (as_terms list) ++ rest ≡ nodes → IsFirst rest first end → prefix t ≡ first → more_list ≡ list ++ t ∷ [] → prefix_of_all (as_terms more_list) ++ end ≡ nodes
row_next list more_list t nodes rest first end e f p m =
    ap (λ u. prefix_of_all (as_terms u) ++ end) m ∙ ap (λ u. u ++ end) (as_terms-append list t ∙ ap (λ u. prefix_of_all (as_terms list) ++ u) (p ∙ sym f.first_is)) ∙ append_assoc (prefix_of_all (as_terms list)) (prefix f.term) end ∙ ap (λ u. prefix_of_all (as_terms list) ++ u) (sym f.rest_is) ∙ e

-- typed terms
pub typed_found : (vars : List ℕ) (syms : List FoSym) (wanted : List ℕ) (words : List FoWord) (nodes : List FoNode) (list : List Term) → AreNodesOf syms words nodes → Fill vars syms wanted nodes → prefix_of_all (as_terms list) ≡ nodes → (words ≡ map node_as_word (prefix_of_all (as_terms list))) × HaveSorts vars syms (as_terms list) wanted
typed_found vars syms wanted words nodes list h f e =
    let t = fill_terms vars syms wanted nodes f in
    let s : as_terms list ≡ t.0 = all-injective (as_terms list) t.0 (e ∙ sym t.1) in
    (node_words syms words nodes h ∙ ap (map node_as_word) (sym e), subst (λ u. HaveSorts vars syms u wanted) (sym s) t.2)

pub typed_nodes_there : (vars : List ℕ) (syms : List FoSym) (wanted : List ℕ) (words : List FoWord) (ts : Terms) → words ≡ map node_as_word (prefix_of_all ts) → HaveSorts vars syms ts wanted → AreNodesOf syms words (prefix_of_all ts)
typed_nodes_there vars syms wanted words ts e h = subst (λ u. AreNodesOf syms u (prefix_of_all ts)) (sym e) (typed_nodes_all vars syms ts wanted h)

pub typed_filled : (vars : List ℕ) (syms : List FoSym) (wanted : List ℕ) (words : List FoWord) (nodes : List FoNode) (ts : Terms) → AreNodesOf syms words nodes → words ≡ map node_as_word (prefix_of_all ts) → HaveSorts vars syms ts wanted → Fill vars syms wanted nodes
typed_filled vars syms wanted words nodes ts h e k =
    let s : prefix_of_all ts ≡ nodes = nodes_same syms words (prefix_of_all ts) nodes (typed_nodes_there vars syms wanted words ts e k) h in
    subst (Fill vars syms wanted) s (terms_fill vars syms wanted ts k)

-- the words in their parts
length-numbers : (ns : List ℕ) → length (numbers_as_words ns) ≡ length ns
length-numbers [] = refl
length-numbers (n ∷ ns) = ap suc (length-numbers ns)

pub split_there : (words : List FoWord) (vars : List ℕ) (ts : Terms) → words ≡ instance_words vars ts → AreSplit words (numbers_as_words vars) (map node_as_word (prefix_of_all ts))
split_there words vars ts e = e ∙ ap (λ n. word.Number n ∷ (numbers_as_words vars ++ map node_as_word (prefix_of_all ts))) (sym (length-numbers vars))

front_same : (xs ys p q : List FoWord) → length xs ≡ length ys → xs ++ p ≡ ys ++ q → (xs ≡ ys) × (p ≡ q)
front_same [] [] p q l e = (refl, e)
front_same [] (y ∷ ys) p q l e = absurd (omega arith)
front_same (x ∷ xs) [] p q l e = absurd (omega arith)
front_same (x ∷ xs) (y ∷ ys) p q l e =
    let h : x ≡ y = cc in
    let t : xs ++ p ≡ ys ++ q = cc in
    let r = front_same xs ys p q (omega arith) t in
    (ap (λ u. u ∷ xs) h ∙ ap (λ u. y ∷ u) r.0, r.1)

pub split_same : (words x y u v : List FoWord) → AreSplit words x y → AreSplit words u v → (x ≡ u) × (y ≡ v)
split_same words x y u v h k =
    let e : word.Number (length x) ∷ (x ++ y) ≡ word.Number (length u) ∷ (u ++ v) = sym h ∙ k in
    let l : length x ≡ length u = cc in
    let t : x ++ y ≡ u ++ v = cc in
    front_same x u y v l t

pub numbers_same : (xs ys : List ℕ) → numbers_as_words xs ≡ numbers_as_words ys → xs ≡ ys
numbers_same [] [] e = refl
numbers_same [] (y ∷ ys) e = cc
numbers_same (x ∷ xs) [] e = cc
numbers_same (x ∷ xs) (y ∷ ys) e = let h : x ≡ y = cc in let t : numbers_as_words xs ≡ numbers_as_words ys = cc in ap (λ u. u ∷ xs) h ∙ ap (λ u. y ∷ u) (numbers_same xs ys t)

-- an instance, by its parts
pub instance_match : {E : Type 0} (sorts : ℕ) (syms : List FoSym) (clauses : List FoClause) (parent : ℕ) (words front back : List FoWord) (clause : FoClause) (r : Result (Option FoClause) E) → slice_get clauses parent ≡ Some clause → AreSplit words front back
    → IfOk r (λ o. MatchOption o ((vars : List ℕ) (ts : Terms) → IsTyped sorts syms clause front back vars ts → ⊥) (λ c. (ts : Terms) × IsTyped sorts syms clause front back c.vars ts × (c.lits ≡ map (applied_literal (images ts)) clause.lits)))
    → IfOk r (λ o. MatchOption o ((c : FoClause) → IsInstance sorts syms clauses parent words c → ⊥) (IsInstance sorts syms clauses parent words))
instance_match sorts syms clauses parent words front back clause (Ok None) at s h = λ c i.
    let e = split_same words front back (numbers_as_words i.vars) (map node_as_word (prefix_of_all i.terms)) s (split_there words i.vars i.terms i.words_are) in
    let k : i.clause ≡ clause = some_same (slice_get clauses parent) i.clause clause i.clause_at at in
    h i.vars i.terms (record { front_is = e.0; sorts_exist = i.sorts_exist; back_is = e.1; typed = subst (λ u. HaveSorts i.vars syms i.terms u) (ap (λ (u : FoClause). u.vars) k) i.typed })
instance_match sorts syms clauses parent words front back clause (Ok (Some c)) at s h = record {
  clause = clause;
  vars = c.vars;
  terms = h.0;
  clause_at = at;
  words_are = s ∙ ap (λ u. word.Number (length u) ∷ (u ++ back)) h.1.front_is ∙ ap (λ n. word.Number n ∷ (numbers_as_words c.vars ++ back)) (length-numbers c.vars) ∙ ap (λ u. word.Number (length c.vars) ∷ (numbers_as_words c.vars ++ u)) h.1.back_is;
  sorts_exist = h.1.sorts_exist;
  typed = h.1.typed;
  is = ap (λ u. let k : FoClause = record { vars = c.vars; lits = u } in k) h.2;
}
instance_match sorts syms clauses parent words front back clause (Err e) at s h = tt

pub untyped : (sorts : ℕ) (syms : List FoSym) (clause : FoClause) (front back : List FoWord) (vars seen wanted : List ℕ) → front ≡ numbers_as_words vars → seen ≡ vars → wanted ≡ clause.vars → ((ts : Terms) → back ≡ map node_as_word (prefix_of_all ts) → HaveSorts seen syms ts wanted → ⊥) → (vs : List ℕ) (ts : Terms) → IsTyped sorts syms clause front back vs ts → ⊥
untyped sorts syms clause front back vars seen wanted f e w never vs ts t =
    let v : vs ≡ vars = numbers_same vs vars (sym t.front_is ∙ f) in
    never ts t.back_is (subst (λ u. HaveSorts seen syms ts u) (sym w) (subst (λ u. HaveSorts u syms ts clause.vars) (v ∙ sym e) t.typed))

-- typed terms with the same words are the same
pub words_terms : (vars wars : List ℕ) (syms : List FoSym) (ts us : Terms) (ss rs : List ℕ) → HaveSorts vars syms ts ss → HaveSorts wars syms us rs → map node_as_word (prefix_of_all ts) ≡ map node_as_word (prefix_of_all us) → ts ≡ us
words_terms vars wars syms ts us ss rs h k e =
    let a = typed_nodes_all vars syms ts ss h in
    let b = typed_nodes_all wars syms us rs k in
    all-injective ts us (nodes_same syms (map node_as_word (prefix_of_all us)) (prefix_of_all ts) (prefix_of_all us) (subst (λ u. AreNodesOf syms u (prefix_of_all ts)) e a) b)
