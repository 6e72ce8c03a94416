-- Nodes one after the other are the nodes of terms.
use Rattle.std.proofs.Common.{ℕ, ◌≡◌, suc, List, [], ◌∷◌, ◌++◌, length, map, Option, Some, refl, sym, ap, ◌∙◌, subst, append_assoc}
use Rattle.std.specs.List.{AllByRecursion}
use Rattle.fo_terms.specs.declared.term.FoNode.{FoNode}
use Rattle.fo_terms.specs.declared.term.FoNode.TheVariants.{Var, Sym}
use Rattle.fo_terms.specs.Terms.{Term, Terms, variable, symbol, none, more, count}
use Rattle.fo_terms.specs.Prefix.{prefix, prefix_of_all}
use Rattle.fo_terms.specs.Reading.{joined}
use Rattle.fo_text.specs.declared.problem.FoSym.{FoSym}
use Rattle.fo_text.specs.Problems.{HasSort, HaveSorts}
use Rattle.fo_text.specs.Nodes.{Suits, Begins, Takes, Inhabited, CanBegin}

-- terms of wanted sorts
abbrev pub AreWanted : List ℕ → List FoSym → Terms → List (Option ℕ) → Type 0
AreWanted vars syms none [] = Unit {0}
AreWanted vars syms none (w ∷ ws) = ⊥
AreWanted vars syms (more t ts) [] = ⊥
AreWanted vars syms (more t ts) (w ∷ ws) = ((s : ℕ) × Suits w s × HasSort vars syms t s) × AreWanted vars syms ts ws

pub prefix_of_all-joined : (us vs : Terms) → prefix_of_all (joined us vs) ≡ prefix_of_all us ++ prefix_of_all vs
prefix_of_all-joined none vs = refl
prefix_of_all-joined (more t us) vs = ap (λ u. prefix t ++ u) (prefix_of_all-joined us vs) ∙ sym (append_assoc (prefix t) (prefix_of_all us) (prefix_of_all vs))

-- the first of some terms, and those behind them
pub record Parts (vars : List ℕ) (syms : List FoSym) (ts : Terms) (args : List ℕ) (ws : List (Option ℕ)) : Type 0 where
  pub front : Terms
  pub back : Terms
  pub joined_is : ts ≡ joined front back
  pub front_sorts : HaveSorts vars syms front args
  pub back_wanted : AreWanted vars syms back ws
  pub count_is : count front ≡ length args

one_more : (vars : List ℕ) (syms : List FoSym) (t : Term) (ts : Terms) (a : ℕ) (args : List ℕ) (ws : List (Option ℕ)) → (s : ℕ) × (a ≡ s) × HasSort vars syms t s → Parts vars syms ts args ws → Parts vars syms (more t ts) (a ∷ args) ws
one_more vars syms t ts a args ws h p = record {
  front = more t p.front;
  back = p.back;
  joined_is = ap (more t) p.joined_is;
  front_sorts = (subst (λ s. HasSort vars syms t s) (sym h.1) h.2, p.front_sorts);
  back_wanted = p.back_wanted;
  count_is = ap suc p.count_is;
}

pub parts_of : (vars : List ℕ) (syms : List FoSym) (ts : Terms) (args : List ℕ) (ws : List (Option ℕ)) → AreWanted vars syms ts (map Some args ++ ws) → Parts vars syms ts args ws
parts_of vars syms ts [] ws h = record { front = none; back = ts; joined_is = refl; front_sorts = tt; back_wanted = h; count_is = refl }
parts_of vars syms none (a ∷ args) ws h = absurd h
parts_of vars syms (more t ts) (a ∷ args) ws h = one_more vars syms t ts a args ws h.0 (parts_of vars syms ts args ws h.1)

pub inhabited-all : (vars : List ℕ) (syms : List FoSym) (ts : Terms) (ss : List ℕ) → HaveSorts vars syms ts ss → AllByRecursion (Inhabited vars syms) ss
inhabited-all vars syms none [] h = tt
inhabited-all vars syms none (s ∷ ss) h = absurd h
inhabited-all vars syms (more t ts) [] h = absurd h
inhabited-all vars syms (more t ts) (s ∷ ss) h = ((t, h.0), inhabited-all vars syms ts ss h.1)

-- the terms whose nodes these are
pub record AreTermsOf (vars : List ℕ) (syms : List FoSym) (ns : List FoNode) (ws : List (Option ℕ)) : Type 0 where
  pub terms : Terms
  pub nodes : prefix_of_all terms ≡ ns
  pub wanted : AreWanted vars syms terms ws

first_node : (vars : List ℕ) (syms : List FoSym) (n : FoNode) (ns : List FoNode) (w : Option ℕ) (ws : List (Option ℕ)) (s : ℕ) (args : List ℕ) → Begins vars syms w n s args → AreTermsOf vars syms ns (map Some args ++ ws) → AreTermsOf vars syms (n ∷ ns) (w ∷ ws)
first_node vars syms (Var v) ns w ws s args b h =
    let none_left : args ≡ [] = b.gives.1 in record {
      terms = more (variable v) h.terms;
      nodes = ap (λ u. Var v ∷ u) h.nodes;
      wanted = ((s, b.suits, b.gives.0), subst (λ u. AreWanted vars syms h.terms (map Some u ++ ws)) none_left h.wanted);
    }
first_node vars syms (Sym f k) ns w ws s args b h =
    let p = parts_of vars syms h.terms args ws h.wanted in
    let g = b.gives in
    let many : count p.front ≡ k = p.count_is ∙ g.4 in
    let here : HasSort vars syms (symbol f p.front) s = (g.0, g.1, g.2, subst (λ u. HaveSorts vars syms p.front u) (sym g.3) p.front_sorts) in record {
      terms = more (symbol f p.front) p.back;
      nodes = ap (λ u. Sym f u ∷ prefix_of_all p.front ++ prefix_of_all p.back) many ∙ ap (λ u. Sym f k ∷ u) (sym (prefix_of_all-joined p.front p.back) ∙ ap prefix_of_all (sym p.joined_is) ∙ h.nodes);
      wanted = ((s, b.suits, here), p.back_wanted);
    }

pub terms_of_nodes : (vars : List ℕ) (syms : List FoSym) (ns : List FoNode) (ws : List (Option ℕ)) → Takes vars syms ws ns [] → AreTermsOf vars syms ns ws
terms_of_nodes vars syms [] [] h = record { terms = none; nodes = refl; wanted = tt }
terms_of_nodes vars syms [] (w ∷ ws) h = absurd cc
terms_of_nodes vars syms (n ∷ ns) [] h = absurd h
terms_of_nodes vars syms (n ∷ ns) (w ∷ ws) h = first_node vars syms n ns w ws h.0 h.1 h.2 (terms_of_nodes vars syms ns (map Some h.1 ++ ws) h.3)

pub count-sorts : (vars : List ℕ) (syms : List FoSym) (ts : Terms) (ss : List ℕ) → HaveSorts vars syms ts ss → count ts ≡ length ss
count-sorts vars syms none [] h = refl
count-sorts vars syms none (s ∷ ss) h = absurd h
count-sorts vars syms (more t ts) [] h = absurd h
count-sorts vars syms (more t ts) (s ∷ ss) h = ap suc (count-sorts vars syms ts ss h.1)

-- and the nodes of terms stand one after the other
mutual
  pub take_term : (vars : List ℕ) (syms : List FoSym) (t : Term) (s : ℕ) (w : Option ℕ) (ws : List (Option ℕ)) (ns : List FoNode) (left : List (Option ℕ)) → Suits w s → HasSort vars syms t s → Takes vars syms ws ns left → Takes vars syms (w ∷ ws) (prefix t ++ ns) left
  take_term vars syms (variable v) s w ws ns left f h k = (s, [], record { suits = f; gives = (h, refl) }, k)
  take_term vars syms (symbol g ts) s w ws ns left f h k =
      (s, h.0.args, record { suits = f; gives = (h.0, h.1, h.2, refl, sym (count-sorts vars syms ts h.0.args h.3)) }, take_all vars syms ts h.0.args ws ns left h.3 k)

  pub take_all : (vars : List ℕ) (syms : List FoSym) (ts : Terms) (ss : List ℕ) (ws : List (Option ℕ)) (ns : List FoNode) (left : List (Option ℕ)) → HaveSorts vars syms ts ss → Takes vars syms ws ns left → Takes vars syms (map Some ss ++ ws) (prefix_of_all ts ++ ns) left
  take_all vars syms none [] ws ns left h k = k
  take_all vars syms none (s ∷ ss) ws ns left h k = absurd h
  take_all vars syms (more t ts) [] ws ns left h k = absurd h
  take_all vars syms (more t ts) (s ∷ ss) ws ns left h k =
      rw (append_assoc (prefix t) (prefix_of_all ts) ns) (take_term vars syms t s (Some s) (map Some ss ++ ws) (prefix_of_all ts ++ ns) left refl h.0 (take_all vars syms ts ss ws ns left h.1 k))

pub Takes-append : (vars : List ℕ) (syms : List FoSym) (ns ms : List FoNode) (ws vs left : List (Option ℕ)) → Takes vars syms ws ns vs → Takes vars syms vs ms left → Takes vars syms ws (ns ++ ms) left
Takes-append vars syms [] ms ws vs left h k = subst (λ u. Takes vars syms u ms left) (sym h) k
Takes-append vars syms (n ∷ ns) ms [] vs left h k = absurd h
Takes-append vars syms (n ∷ ns) ms (w ∷ ws) vs left h k = (h.0, h.1, h.2, Takes-append vars syms ns ms (map Some h.1 ++ ws) vs left h.3 k)

-- wanted terms that there are
pub completion : (vars : List ℕ) (syms : List FoSym) (ws : List (Option ℕ)) → AllByRecursion (CanBegin vars syms) ws → (ns : List FoNode) × Takes vars syms ws ns []
completion vars syms [] h = ([], refl)
completion vars syms (w ∷ ws) h =
    let rest = completion vars syms ws h.1 in
    (prefix h.0.2.0 ++ rest.0, take_term vars syms h.0.2.0 h.0.0 w ws rest.0 [] h.0.1 h.0.2.1 rest.1)

pub wanted-some : (vars : List ℕ) (syms : List FoSym) (ss : List ℕ) → AllByRecursion (Inhabited vars syms) ss → AllByRecursion (CanBegin vars syms) (map Some ss)
wanted-some vars syms [] h = tt
wanted-some vars syms (s ∷ ss) h = ((s, refl, h.0), wanted-some vars syms ss h.1)
