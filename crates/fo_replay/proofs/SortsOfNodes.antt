-- Sorts of terms, by their nodes.
use Rattle.std.proofs.Common.{ℕ, ◌≡◌, suc, Option, Some, None, List, [], ◌∷◌, ◌++◌, length, map, refl, sym, ap, ◌∙◌, subst}
use Rattle.std.specs.Prelude.{slice_get, ◌↔◌, MatchOption, IsTrue, Bool, Result, Ok, Err, IfOk, reverse}
use Rattle.std.proofs.lemmas.List.{append-nil}
use Rattle.fo_terms.specs.declared.term.FoNode.{FoNode}
use Rattle.fo_terms.specs.declared.term.FoNode.TheVariants.{Var, Sym}
use Rattle.fo_terms.specs.Terms.{Term, Terms, variable, symbol, none, more, count}
use Rattle.fo_terms.specs.Prefix.{prefix, prefix_of_all}
use Rattle.fo_text.specs.declared.problem.FoSym.{FoSym}
use Rattle.fo_text.specs.Problems.{HasSort, HaveSorts}
use Rattle.fo_text.specs.Nodes.{Gives, Takes}
use Rattle.fo_text.proofs.NodeLists.{AreWanted, terms_of_nodes, take_all}
use Rattle.fo_replay.specs.Parts.{Fill}
use Rattle.fo_replay.proofs.Nodes.{prefix-injective}

some_same : {X : Type 0} (o : Option X) (x y : X) → o ≡ Some x → o ≡ Some y → x ≡ y
some_same o x y a b = let e : Some x ≡ Some y = sym a ∙ b in cc

pub gives_one : (vars : List ℕ) (syms : List FoSym) (n : FoNode) (s t : ℕ) (args brgs : List ℕ) → Gives vars syms n s args → Gives vars syms n t brgs → (s ≡ t) × (args ≡ brgs)
gives_one vars syms (Var v) s t args brgs g h = (some_same (slice_get vars v) s t g.0 h.0, g.1 ∙ sym h.1)
gives_one vars syms (Sym f k) s t args brgs g h =
    let y : g.0 ≡ h.0 = some_same (slice_get syms f) g.0 h.0 g.1 h.1 in
    (sym g.2 ∙ ap (λ (u : FoSym). u.result) y ∙ h.2, sym g.3 ∙ ap (λ (u : FoSym). u.args) y ∙ h.3)

map-append : (xs ys : List ℕ) → map Some (xs ++ ys) ≡ map Some xs ++ map Some ys
map-append [] ys = refl
map-append (x ∷ xs) ys = ap (λ u. Some x ∷ u) (map-append xs ys)

pub fill_next : (vars : List ℕ) (syms : List FoSym) (w : ℕ) (args ws : List ℕ) (n : FoNode) (ns : List FoNode) → Gives vars syms n w args → Fill vars syms (w ∷ ws) (n ∷ ns) ↔ Fill vars syms (args ++ ws) ns
fill_next vars syms w args ws n ns g = (
  (λ h. subst (λ u. Takes vars syms u ns []) (sym (map-append args ws)) (subst (λ u. Takes vars syms (map Some u ++ map Some ws) ns []) (sym (gives_one vars syms n w h.0 args h.1 g h.2.gives).1) h.3)),
  (λ h. (w, args, record { suits = refl; gives = g }, subst (λ u. Takes vars syms u ns []) (map-append args ws) h)),
)

pub fill_never : (vars : List ℕ) (syms : List FoSym) (w : ℕ) (ws : List ℕ) (n : FoNode) (ns : List FoNode) → ((args : List ℕ) → Gives vars syms n w args → ⊥) → Fill vars syms (w ∷ ws) (n ∷ ns) → ⊥
fill_never vars syms w ws n ns never h = never h.1 (subst (λ u. Gives vars syms n u h.1) (sym h.2.suits) h.2.gives)

pub fill_empty : (vars : List ℕ) (syms : List FoSym) (n : FoNode) (ns : List FoNode) → Fill vars syms [] (n ∷ ns) → ⊥
fill_empty vars syms n ns h = h

pub fill_done : (vars : List ℕ) (syms : List FoSym) (ws : List ℕ) → Fill vars syms ws [] → ws ≡ []
fill_done vars syms [] h = refl
fill_done vars syms (w ∷ ws) h = absurd cc

wanted_sorts : (vars : List ℕ) (syms : List FoSym) (ts : Terms) (ss : List ℕ) → AreWanted vars syms ts (map Some ss) → HaveSorts vars syms ts ss
wanted_sorts vars syms none [] h = tt
wanted_sorts vars syms none (s ∷ ss) h = absurd h
wanted_sorts vars syms (more t ts) [] h = absurd h
wanted_sorts vars syms (more t ts) (s ∷ ss) h = (subst (HasSort vars syms t) (sym h.0.1) h.0.2, wanted_sorts vars syms ts ss h.1)

-- nodes that fill sorts are those of terms of these sorts
pub fill_terms : (vars : List ℕ) (syms : List FoSym) (ss : List ℕ) (ns : List FoNode) → Fill vars syms ss ns → (ts : Terms) × (prefix_of_all ts ≡ ns) × HaveSorts vars syms ts ss
fill_terms vars syms ss ns h = let t = terms_of_nodes vars syms ns (map Some ss) h in (t.terms, t.nodes, wanted_sorts vars syms t.terms ss t.wanted)

pub terms_fill : (vars : List ℕ) (syms : List FoSym) (ss : List ℕ) (ts : Terms) → HaveSorts vars syms ts ss → Fill vars syms ss (prefix_of_all ts)
terms_fill vars syms ss ts h = subst (λ u. Takes vars syms u (prefix_of_all ts) []) (append-nil (map Some ss)) (subst (λ u. Takes vars syms (map Some ss ++ []) u []) (append-nil (prefix_of_all ts)) (take_all vars syms ts ss [] [] [] h refl))

pub fill_one : (vars : List ℕ) (syms : List FoSym) (s : ℕ) (t : Term) → Fill vars syms (s ∷ []) (prefix t) ↔ HasSort vars syms t s
fill_one vars syms s t = ((λ h. back (fill_terms vars syms (s ∷ []) (prefix t) h)), (λ h. subst (λ u. Fill vars syms (s ∷ []) u) (append-nil (prefix t)) (terms_fill vars syms (s ∷ []) (more t none) (h, tt))))
  where
    back : (ts : Terms) × (prefix_of_all ts ≡ prefix t) × HaveSorts vars syms ts (s ∷ []) → HasSort vars syms t s
    back h = go h.0 h.1 h.2
      where
        go : (ts : Terms) → prefix_of_all ts ≡ prefix t → HaveSorts vars syms ts (s ∷ []) → HasSort vars syms t s
        go none e h = absurd h
        go (more u none) e h = subst (λ x. HasSort vars syms x s) (prefix-injective u t (sym (append-nil (prefix u)) ∙ e)) h.0
        go (more u (more x xs)) e h = absurd h.1

-- the sort of a term is that of its first node
pub head_sort : (vars : List ℕ) (syms : List FoSym) (t : Term) (s : ℕ) → HasSort vars syms t s → (n : FoNode) (ns : List FoNode) → prefix t ≡ n ∷ ns → (args : List ℕ) × Gives vars syms n s args
head_sort vars syms (variable v) s h n ns e = let i : Var v ≡ n = cc in ([], subst (λ u. Gives vars syms u s []) i (h, refl))
head_sort vars syms (symbol f ts) s h n ns e =
    let i : Sym f (count ts) ≡ n = cc in
    (h.0.args, subst (λ u. Gives vars syms u s h.0.args) i (h.0, h.1, h.2, refl, sym (count_sorts ts h.0.args h.3)))
  where
    count_sorts : (ts : Terms) (ss : List ℕ) → HaveSorts vars syms ts ss → count ts ≡ length ss
    count_sorts none [] h = refl
    count_sorts none (s ∷ ss) h = absurd h
    count_sorts (more t ts) [] h = absurd h
    count_sorts (more t ts) (s ∷ ss) h = ap suc (count_sorts ts ss h.1)

pub sort_by_node : (vars : List ℕ) (syms : List FoSym) (t : Term) (n : FoNode) (ns : List FoNode) (r : Option ℕ) → prefix t ≡ n ∷ ns
    → MatchOption r ((s : ℕ) (args : List ℕ) → Gives vars syms n s args → ⊥) (λ s. (r : ℕ) (args : List ℕ) → Gives vars syms n r args → r ≡ s)
    → MatchOption r ((s : ℕ) → HasSort vars syms t s → ⊥) (λ s. (r : ℕ) → HasSort vars syms t r → r ≡ s)
sort_by_node vars syms t n ns None e h = λ s k. (let g = head_sort vars syms t s k n ns e in h s g.0 g.1)
sort_by_node vars syms t n ns (Some s) e h = λ r k. (let g = head_sort vars syms t r k n ns e in h r g.0 g.1)

pub no_nodes : (vars : List ℕ) (syms : List FoSym) (t : Term) → length (prefix t) ≡ 0 → (s : ℕ) → HasSort vars syms t s → ⊥
no_nodes vars syms (variable v) l s h = cc
no_nodes vars syms (symbol f ts) l s h = cc

pub sort_filled : {E : Type 0} (vars : List ℕ) (syms : List FoSym) (t : Term) (s : ℕ) (wants : List ℕ) (nodes : List FoNode) (r : Result Bool E) → wants ≡ s ∷ [] → nodes ≡ prefix t → IfOk r (λ b. IsTrue b ↔ Fill vars syms (reverse wants) nodes) → IfOk r (λ b. IsTrue b ↔ HasSort vars syms t s)
sort_filled vars syms t s wants nodes (Ok b) w n h =
    let f = fill_one vars syms s t in
    ((λ p. f.0 (subst (λ u. Fill vars syms (s ∷ []) u) n (subst (λ u. Fill vars syms (reverse u) nodes) w (h.0 p)))), (λ p. h.1 (subst (λ u. Fill vars syms (reverse u) nodes) (sym w) (subst (λ u. Fill vars syms (s ∷ []) u) (sym n) (f.1 p)))))
sort_filled vars syms t s wants nodes (Err e) w n h = tt
