-- A term is refused where a node of it is.
use Rattle.std.proofs.Common.{ℕ, ◌≡◌, ◌<◌, ◌+◌, ◌^◌, Bool, true, false, List, [], ◌∷◌, ◌++◌, length, map, Option, Some, refl, sym, ap, ◌∙◌, subst, arith, append_assoc}
use Rattle.std.specs.Prelude.{slice_get, decimal, ◌==◌, if◌then◌else◌}
use Rattle.std.specs.List.{AllByRecursion}
use Rattle.std.proofs.lemmas.List.{append-nil}
use Rattle.std.proofs.lemmas.List.Concat.{flat_map-append}
use Rattle.std.proofs.lemmas.Bool.Decides.{nat_tests}
use Rattle.std.proofs.lemmas.Option.{slice_get_within}
use Rattle.fo_terms.specs.declared.term.FoNode.{FoNode}
use Rattle.fo_terms.specs.declared.term.FoNode.TheVariants.{Var, Sym}
use Rattle.fo_terms.specs.Terms.{Term, Terms, variable, symbol, none, more, count}
use Rattle.fo_terms.specs.Prefix.{prefix, prefix_of_all, term_of}
use Rattle.fo_terms.specs.Reading.{term_of-prefix}
use Rattle.std.proofs.Common.{length-append}
use Rattle.fo_text.specs.declared.problem.FoSym.{FoSym}
use Rattle.fo_text.specs.Words.{space}
use Rattle.fo_text.specs.Refusals.{Spells, Opens, Stops, Refuses}
use Rattle.fo_text.specs.Problems.{HasSort}
use Rattle.fo_text.specs.Spellings.{node_word, nodes_text, term_text}
use Rattle.fo_text.specs.Pieces.{StandsFirst}
use Rattle.fo_text.specs.Nodes.{Gives, Begins, Takes, Inhabited, CanBegin, AreMarks, IsCandidate, node_end, spaced_node}
use Rattle.std.specs.Prelude.{reverse}
use Rattle.std.proofs.lemmas.List.{reverse-append}
use Rattle.fo_text.specs.declared.refusal.Stop.{Stop}
use Rattle.fo_text.specs.Reads.{IsStop}
use Rattle.fo_text.specs.Searches.{IsAhead}
use Rattle.fo_text.specs.Terms.{IsTerm, ended_term, follow, AreRead}
use Rattle.fo_text.proofs.Lists.{All-append}
use Rattle.fo_text.proofs.Composing.{refuses-then, refuses-same, stop-behind}
use Rattle.fo_text.proofs.NodeLists.{AreWanted, terms_of_nodes, parts_of, inhabited-all, take_term, Takes-append, completion, wanted-some, count-sorts}
use Rattle.fo_text.proofs.SymbolLines.{same_number}

-- the texts all begin with one byte, which was seen to stand first
pub refuses-tail : {X : Type 0} (IsX : X → Type 0) (tx ux : X → List ℕ) (d : ℕ) (rest : List ℕ) (left : ℕ) → ((x : X) → tx x ≡ d ∷ ux x)
    → Refuses (Spells IsX tx) (Opens IsX tx) (d ∷ rest) left → Refuses (Spells IsX ux) (Opens IsX ux) rest left
refuses-tail {X = X} IsX tx ux d rest left same r = go r.before r.after r.input_is r.left_is r.rest r.goes_on r.stops
  where
    go : (before after : List ℕ) → d ∷ rest ≡ before ++ after → left ≡ length after → (beyond : List ℕ) → Spells IsX tx (before ++ beyond) → Stops (λ z. Opens IsX tx (before ++ z)) after → Refuses (Spells IsX ux) (Opens IsX ux) rest left
    go [] [] e l beyond s st = absurd cc
    go [] (b ∷ after) e l beyond s st =
        let h : d ≡ b = cc in
        absurd (st (ux s.0) (s.0, s.1, [], ap (λ u. u ∷ ux s.0) (sym h) ∙ sym (same s.0) ∙ sym (append-nil (tx s.0))))
    go (b ∷ before) after e l beyond s st =
        let h : d ≡ b = cc in
        let t : rest ≡ before ++ after = cc in
        record {
          before = before;
          after = after;
          input_is = t;
          left_is = l;
          rest = beyond;
          goes_on = (s.0, s.1, (let k : b ∷ (before ++ beyond) ≡ d ∷ ux s.0 = s.2 ∙ same s.0 in cc));
          stops = stops_tail after st;
        }
      where
        stops_tail : (a : List ℕ) → Stops (λ z. Opens IsX tx (b ∷ (before ++ z))) a → Stops (λ z. Opens IsX ux (before ++ z)) a
        stops_tail [] q = λ o. q (o.0, o.1, o.2, ap (λ u. b ∷ u) o.3 ∙ ap (λ u. u ∷ (ux o.0 ++ o.2)) (let h : b ≡ d = cc in h) ∙ ap (λ u. u ++ o.2) (sym (same o.0)))
        stops_tail (c ∷ cs) q = λ z o. q z (o.0, o.1, o.2, ap (λ u. b ∷ u) o.3 ∙ ap (λ u. u ∷ (ux o.0 ++ o.2)) (let h : b ≡ d = cc in h) ∙ ap (λ u. u ++ o.2) (sym (same o.0)))

-- a node behind the space
abbrev pub node_tail : ℕ → FoNode → List ℕ
node_tail after n = node_word n ++ node_end after n ∷ []

pub end-follow : (vars : List ℕ) (syms : List FoSym) (n : FoNode) (s : ℕ) (args : List ℕ) (after : ℕ) (ws : List (Option ℕ)) → Gives vars syms n s args → node_end (follow after ws) n ≡ follow after (map Some args ++ ws)
end-follow vars syms (Var v) s args after ws g = ap (λ u. follow after (map Some u ++ ws)) (sym g.1)
end-follow vars syms (Sym f k) s args after ws g = go args g.4
  where
    go : (xs : List ℕ) → length xs ≡ k → (if k == 0 then follow after ws else 32) ≡ follow after (map Some xs ++ ws)
    go [] e = rw (sym e) refl
    go (x ∷ xs) e = rw (sym e) (grind (arith, nat_tests))

-- what stands behind nodes
pub behind_nodes : (after : ℕ) (ns : List FoNode) (p : List ℕ) → after < 48 → (c : ℕ) × (q : List ℕ) × (nodes_text ns ++ after ∷ p ≡ c ∷ q) × (c < 48)
behind_nodes after [] p l = (after, p, refl, l)
behind_nodes after (n ∷ ns) p l = (32, node_word n ++ nodes_text ns ++ after ∷ p, refl, omega arith)

-- two nodes with what is behind them
pub record Passed (n m : FoNode) (args brgs p q : List ℕ) : Type 0 where
  pub same_node : n ≡ m
  pub same_args : args ≡ brgs
  pub same_rest : p ≡ q

some_same : (o : Option FoSym) (x y : FoSym) → o ≡ Some x → o ≡ Some y → x ≡ y
some_same o x y a b = let e : Some x ≡ Some y = sym a ∙ b in cc

abbrev pub LowFirst : List ℕ → Type 0
LowFirst p = (c : ℕ) × (q : List ℕ) × (p ≡ c ∷ q) × (c < 48)

first_same : (a b : ℕ) (p q : List ℕ) → a ∷ p ≡ b ∷ q → a ≡ b
first_same a b p q e = cc

letters_differ : (p q : List ℕ) → 118 ∷ p ≡ 102 ∷ q → ⊥
letters_differ p q e = let b : true ≡ false = ap (λ u. u == 118) (first_same 118 102 p q e) in cc

behind_letter : (a b : ℕ) (p q : List ℕ) → a ∷ p ≡ b ∷ q → p ≡ q
behind_letter a b p q e = cc

node_passed : (vars : List ℕ) (syms : List FoSym) (n m : FoNode) (s t : ℕ) (args brgs p q : List ℕ) → length vars < 2 ^ 32 → length syms < 2 ^ 32 → Gives vars syms n s args → Gives vars syms m t brgs → LowFirst p → LowFirst q → node_word n ++ p ≡ node_word m ++ q → Passed n m args brgs p q
node_passed vars syms (Var v) (Var w) s t args brgs p q lv ls g h lp lq e =
    let a : v < length vars = slice_get_within vars v s g.0 in
    let b : w < length vars = slice_get_within vars w t h.0 in
    let r = same_number v w p q (omega arith) (omega arith) lp lq (behind_letter 118 118 (decimal v ++ p) (decimal w ++ q) e) in
    record { same_node = ap Var r.0; same_args = g.1 ∙ sym h.1; same_rest = r.1 }
node_passed vars syms (Var v) (Sym f k) s t args brgs p q lv ls g h lp lq e = absurd (letters_differ (decimal v ++ p) (decimal f ++ q) e)
node_passed vars syms (Sym f k) (Var v) s t args brgs p q lv ls g h lp lq e = absurd (letters_differ (decimal v ++ q) (decimal f ++ p) (sym e))
node_passed vars syms (Sym f k) (Sym g2 l) s t args brgs p q lv ls g h lp lq e =
    let a : f < length syms = slice_get_within syms f g.0 g.1 in
    let b : g2 < length syms = slice_get_within syms g2 h.0 h.1 in
    let r = same_number f g2 p q (omega arith) (omega arith) lp lq (behind_letter 102 102 (decimal f ++ p) (decimal g2 ++ q) e) in
    let one : g.0 ≡ h.0 = some_same (slice_get syms g2) g.0 h.0 (subst (λ u. slice_get syms u ≡ Some g.0) r.0 g.1) h.1 in
    let both : args ≡ brgs = sym g.3 ∙ ap (λ u. let y : FoSym = u in y.args) one ∙ h.3 in
    record { same_node = ap (λ u. Sym u k) r.0 ∙ ap (Sym g2) (sym g.4 ∙ ap length both ∙ h.4); same_args = both; same_rest = r.1 }

-- the node behind some nodes
pub record NextIs (vars : List ℕ) (syms : List FoSym) (after : ℕ) (ws : List (Option ℕ)) (beyond z : List ℕ) : Type 0 where
  pub node : FoNode
  pub others : List FoNode
  pub takes : Takes vars syms ws (node ∷ others) []
  pub text_is : z ≡ node_word node ++ (nodes_text others ++ after ∷ beyond)

here : (vars : List ℕ) (syms : List FoSym) (after : ℕ) (n : FoNode) (ms : List FoNode) (ws : List (Option ℕ)) (beyond z : List ℕ) → Takes vars syms ws (n ∷ ms) [] → nodes_text (n ∷ ms) ++ after ∷ beyond ≡ space ∷ z → NextIs vars syms after ws beyond z
here vars syms after n ms ws beyond z h e =
    record { node = n; others = ms; takes = h; text_is = sym (behind_letter 32 32 (node_word n ++ nodes_text ms ++ after ∷ beyond) z e) ∙ append_assoc (node_word n) (nodes_text ms) (after ∷ beyond) }

behind_more : (ns : List FoNode) (z : List ℕ) → LowFirst (nodes_text ns ++ space ∷ z)
behind_more [] z = (32, z, refl, omega arith)
behind_more (n ∷ ns) z = (32, node_word n ++ nodes_text ns ++ space ∷ z, refl, omega arith)

step : (vars : List ℕ) (syms : List FoSym) (after : ℕ) (k n : FoNode) (ns ms : List FoNode) (s t : ℕ) (args brgs beyond z : List ℕ) → length vars < 2 ^ 32 → length syms < 2 ^ 32 → after < 48 → Gives vars syms n s args → Gives vars syms k t brgs
    → nodes_text (n ∷ ms) ++ after ∷ beyond ≡ nodes_text (k ∷ ns) ++ space ∷ z → Passed n k args brgs (nodes_text ms ++ after ∷ beyond) (nodes_text ns ++ space ∷ z)
step vars syms after k n ns ms s t args brgs beyond z lv ls la g h e =
    node_passed vars syms n k s t args brgs (nodes_text ms ++ after ∷ beyond) (nodes_text ns ++ space ∷ z) lv ls g h (behind_nodes after ms beyond la) (behind_more ns z)
    (sym (append_assoc (node_word n) (nodes_text ms) (after ∷ beyond)) ∙ behind_letter 32 32 (node_word n ++ nodes_text ms ++ after ∷ beyond) (node_word k ++ nodes_text ns ++ space ∷ z) e ∙ append_assoc (node_word k) (nodes_text ns) (space ∷ z))

pub nodes-back : (vars : List ℕ) (syms : List FoSym) (after : ℕ) (ns ms : List FoNode) (start : List (Option ℕ)) (w : Option ℕ) (ws : List (Option ℕ)) (beyond z : List ℕ) → length vars < 2 ^ 32 → length syms < 2 ^ 32 → after < 48
    → Takes vars syms start ns (w ∷ ws) → Takes vars syms start ms [] → nodes_text ms ++ after ∷ beyond ≡ nodes_text ns ++ space ∷ z → NextIs vars syms after (w ∷ ws) beyond z
nodes-back vars syms after [] [] start w ws beyond z lv ls la h k e = absurd (let x : [] ≡ w ∷ ws = sym k ∙ h in cc)
nodes-back vars syms after [] (m ∷ ms) start w ws beyond z lv ls la h k e = here vars syms after m ms (w ∷ ws) beyond z (subst (λ u. Takes vars syms u (m ∷ ms) []) h k) e
nodes-back vars syms after (n ∷ ns) ms [] w ws beyond z lv ls la h k e = absurd h
nodes-back vars syms after (n ∷ ns) [] (s ∷ ss) w ws beyond z lv ls la h k e = absurd cc
nodes-back vars syms after (n ∷ ns) (m ∷ ms) (s ∷ ss) w ws beyond z lv ls la h k e =
    let p = step vars syms after n m ns ms k.0 h.0 k.1 h.1 beyond z lv ls la k.2.gives h.2.gives e in
    nodes-back vars syms after ns ms (map Some h.1 ++ ss) w ws beyond z lv ls la h.3 (subst (λ u. Takes vars syms (map Some u ++ ss) ms []) p.same_args k.3) p.same_rest

-- a node of terms is a candidate
candidate_of : (vars : List ℕ) (syms : List FoSym) (usable : List Bool) (n : FoNode) (w : Option ℕ) (s : ℕ) (args : List ℕ) → AreMarks vars syms usable → Begins vars syms w n s args → AllByRecursion (Inhabited vars syms) args → IsCandidate vars syms usable w n
candidate_of vars syms usable (Var v) w s args m b i = record { sort = s; args = args; begins = b; marked = tt }
candidate_of vars syms usable (Sym f k) w s args m b i =
    let g = b.gives in
    record { sort = s; args = args; begins = b; marked = (m f g.0 g.1).1 (subst (AllByRecursion (Inhabited vars syms)) (sym g.3) i) }

-- and what a candidate wants stands somewhere
pub args-inhabited : (vars : List ℕ) (syms : List FoSym) (usable : List Bool) (n : FoNode) (w : Option ℕ) → AreMarks vars syms usable → (c : IsCandidate vars syms usable w n) → AllByRecursion (Inhabited vars syms) c.args
args-inhabited vars syms usable (Var v) w m c = subst (AllByRecursion (Inhabited vars syms)) (sym c.begins.gives.1) tt
args-inhabited vars syms usable (Sym f k) w m c = let g = c.begins.gives in subst (AllByRecursion (Inhabited vars syms)) g.3 ((m f g.0 g.1).0 c.marked)

pub first-candidate : (vars : List ℕ) (syms : List FoSym) (usable : List Bool) (w : Option ℕ) → AreMarks vars syms usable → CanBegin vars syms w → (n : FoNode) × IsCandidate vars syms usable w n
first-candidate vars syms usable w m c = go c.2.0 c.2.1
  where
    go : (t : Term) → HasSort vars syms t c.0 → (n : FoNode) × IsCandidate vars syms usable w n
    go (variable v) h = (Var v, record { sort = c.0; args = []; begins = record { suits = c.1; gives = (h, refl) }; marked = tt })
    go (symbol f ts) h =
        (Sym f (count ts), candidate_of vars syms usable (Sym f (count ts)) w c.0 h.0.args m (record { suits = c.1; gives = (h.0, h.1, h.2, refl, sym (count-sorts vars syms ts h.0.args h.3)) }) (inhabited-all vars syms ts h.0.args h.3))

inhabited_front : (vars : List ℕ) (syms : List FoSym) (ns : List FoNode) (args : List ℕ) (ws : List (Option ℕ)) → Takes vars syms (map Some args ++ ws) ns [] → AllByRecursion (Inhabited vars syms) args
inhabited_front vars syms ns args ws h =
    let t = terms_of_nodes vars syms ns (map Some args ++ ws) h in
    let p = parts_of vars syms t.terms args ws t.wanted in
    inhabited-all vars syms p.front args p.front_sorts

-- behind the nodes of wanted terms, and where they end
nodes_follow : (vars : List ℕ) (syms : List FoSym) (after : ℕ) (ns : List FoNode) (ws : List (Option ℕ)) (beyond : List ℕ) → Takes vars syms ws ns [] → (q : List ℕ) × (nodes_text ns ++ after ∷ beyond ≡ follow after ws ∷ q)
nodes_follow vars syms after [] [] beyond h = (beyond, refl)
nodes_follow vars syms after [] (w ∷ ws) beyond h = absurd cc
nodes_follow vars syms after (n ∷ ns) [] beyond h = absurd h
nodes_follow vars syms after (n ∷ ns) (w ∷ ws) beyond h = (node_word n ++ nodes_text ns ++ after ∷ beyond, refl)

term_back : (vars : List ℕ) (syms : List FoSym) (usable : List Bool) (want : Option ℕ) (after : ℕ) (ns : List FoNode) (w : Option ℕ) (ws : List (Option ℕ)) (z : List ℕ) → length vars < 2 ^ 32 → length syms < 2 ^ 32 → after < 48 → AreMarks vars syms usable
    → Takes vars syms (want ∷ []) ns (w ∷ ws) → Opens (IsTerm vars syms want) (ended_term after) ((nodes_text ns ++ space ∷ []) ++ z) → Opens (IsCandidate vars syms usable w) (node_tail (follow after ws)) z
term_back vars syms usable want after ns w ws z lv ls la m h o =
    let t : Term = o.0 in
    let all : Takes vars syms (want ∷ []) (prefix t ++ []) [] = take_term vars syms t o.1.0 want [] [] [] o.1.1 o.1.2 refl in
    let nodes : Takes vars syms (want ∷ []) (prefix t) [] = subst (λ u. Takes vars syms (want ∷ []) u []) (append-nil (prefix t)) all in
    let e : nodes_text (prefix t) ++ after ∷ o.2 ≡ nodes_text ns ++ space ∷ z = sym (append_assoc (nodes_text (prefix t)) (after ∷ []) o.2) ∙ sym o.3 ∙ append_assoc (nodes_text ns) (space ∷ []) z in
    let x = nodes-back vars syms after ns (prefix t) (want ∷ []) w ws o.2 z lv ls la h nodes e in
    let k = x.takes in
    let f = nodes_follow vars syms after x.others (map Some k.1 ++ ws) o.2 k.3 in (
      x.node,
      candidate_of vars syms usable x.node w k.0 k.1 m k.2 (inhabited_front vars syms x.others k.1 ws k.3),
      f.0,
      x.text_is ∙ ap (λ u. node_word x.node ++ u) (f.1 ∙ ap (λ u. u ∷ f.0) (sym (end-follow vars syms x.node k.0 k.1 after ws k.2.gives))) ∙ sym (append_assoc (node_word x.node) (node_end (follow after ws) x.node ∷ []) f.0),
    )

term_forth : (vars : List ℕ) (syms : List FoSym) (usable : List Bool) (want : Option ℕ) (after : ℕ) (ns : List FoNode) (w : Option ℕ) (ws : List (Option ℕ)) → AreMarks vars syms usable → AllByRecursion (CanBegin vars syms) ws
    → Takes vars syms (want ∷ []) ns (w ∷ ws) → (n : FoNode) → IsCandidate vars syms usable w n → (beyond : List ℕ) × Spells (IsTerm vars syms want) (ended_term after) ((nodes_text ns ++ space ∷ []) ++ (node_tail (follow after ws) n ++ beyond))
term_forth vars syms usable want after ns w ws m can h n c =
    let rest = completion vars syms (map Some c.args ++ ws) (All-append (CanBegin vars syms) (map Some c.args) ws (wanted-some vars syms c.args (args-inhabited vars syms usable n w m c)) can) in
    let all : Takes vars syms (want ∷ []) (ns ++ n ∷ rest.0) [] = Takes-append vars syms ns (n ∷ rest.0) (want ∷ []) (w ∷ ws) [] h (c.sort, c.args, c.begins, rest.1) in
    let ts = terms_of_nodes vars syms (ns ++ n ∷ rest.0) (want ∷ []) all in
    let t = only_term vars syms want (ns ++ n ∷ rest.0) ts.terms ts.nodes ts.wanted in
    let f = nodes_follow vars syms after rest.0 (map Some c.args ++ ws) [] rest.1 in
    let text : nodes_text rest.0 ++ after ∷ [] ≡ node_end (follow after ws) n ∷ f.0 = f.1 ∙ ap (λ u. u ∷ f.0) (sym (end-follow vars syms n c.sort c.args after ws c.begins.gives)) in
    (f.0, (t.0, t.1, whole ns n rest.0 (node_end (follow after ws) n) f.0 text ∙ ap (λ u. nodes_text u ++ after ∷ []) (sym t.2)))
  where
    only_term : (vars : List ℕ) (syms : List FoSym) (want : Option ℕ) (ms : List FoNode) (ts : Terms) → prefix_of_all ts ≡ ms → AreWanted vars syms ts (want ∷ []) → (t : Term) × IsTerm vars syms want t × (prefix t ≡ ms)
    only_term vars syms want ms none e a = absurd a
    only_term vars syms want ms (more t none) e a = (t, a.0, sym (append-nil (prefix t)) ∙ e)
    only_term vars syms want ms (more t (more u us)) e a = absurd a.1

    whole : (ns : List FoNode) (n : FoNode) (ms : List FoNode) (d : ℕ) (q : List ℕ) → nodes_text ms ++ after ∷ [] ≡ d ∷ q → (nodes_text ns ++ space ∷ []) ++ ((node_word n ++ d ∷ []) ++ q) ≡ nodes_text (ns ++ n ∷ ms) ++ after ∷ []
    whole ns n ms d q e =
        append_assoc (nodes_text ns) (space ∷ []) ((node_word n ++ d ∷ []) ++ q) ∙ ap (λ u. nodes_text ns ++ space ∷ u) (append_assoc (node_word n) (d ∷ []) q ∙ ap (λ u. node_word n ++ u) (sym e) ∙ sym (append_assoc (node_word n) (nodes_text ms) (after ∷ [])))
        ∙ sym (append_assoc (nodes_text ns) (space ∷ (node_word n ++ nodes_text ms)) (after ∷ [])) ∙ ap (λ u. u ++ after ∷ []) (sym (flat_map-append (λ k. space ∷ node_word k) ns (n ∷ ms)))

pub term-refuses : (vars : List ℕ) (syms : List FoSym) (usable : List Bool) (want : Option ℕ) (after : ℕ) (ns : List FoNode) (w : Option ℕ) (ws : List (Option ℕ)) (tail : List ℕ) (left : ℕ) → length vars < 2 ^ 32 → length syms < 2 ^ 32 → after < 48 → AreMarks vars syms usable → AllByRecursion (CanBegin vars syms) ws
    → Takes vars syms (want ∷ []) ns (w ∷ ws)
    → Refuses (Spells (IsCandidate vars syms usable w) (spaced_node (follow after ws))) (Opens (IsCandidate vars syms usable w) (spaced_node (follow after ws))) (space ∷ tail) left
    → Refuses (Spells (IsTerm vars syms want) (ended_term after)) (Opens (IsTerm vars syms want) (ended_term after)) ((nodes_text ns ++ space ∷ []) ++ tail) left
term-refuses vars syms usable want after ns w ws tail left lv ls la m can h r =
    refuses-then (IsTerm vars syms want) (ended_term after) (IsCandidate vars syms usable w) (node_tail (follow after ws)) (nodes_text ns ++ space ∷ []) tail left
    (term_forth vars syms usable want after ns w ws m can h) (λ z o. term_back vars syms usable want after ns w ws z lv ls la m h o)
    (refuses-tail (IsCandidate vars syms usable w) (spaced_node (follow after ws)) (node_tail (follow after ws)) space tail left (λ n. refl) r)

-- a stack with the last on top
pub popped : (xs rest : List (Option ℕ)) (x : Option ℕ) → xs ≡ rest ++ x ∷ [] → reverse xs ≡ x ∷ reverse rest
popped xs rest x e = ap reverse e ∙ reverse-append rest (x ∷ [])

pub read-start : (vars : List ℕ) (syms : List FoSym) (usable : List Bool) (want : Option ℕ) (after : ℕ) (input : List ℕ) (stack : List (Option ℕ)) → StandsFirst 32 input → stack ≡ want ∷ [] → AreRead vars syms usable want after input [] (reverse stack) input
read-start vars syms usable want after input stack s e = subst (λ u. AreRead vars syms usable want after input [] u input) (sym (ap reverse e)) (record { takes = refl; input_is = refl; ahead = s; can = λ m c. (c, tt) })

pub stands_space : (rest : List ℕ) → StandsFirst 32 rest → (tail : List ℕ) × (rest ≡ space ∷ tail)
stands_space [] s = absurd s
stands_space (b ∷ bs) s = (bs, ap (λ u. u ∷ bs) s)

pub read-stop : (vars : List ℕ) (syms : List FoSym) (usable : List Bool) (want : Option ℕ) (after : ℕ) (input : List ℕ) (ns : List FoNode) (w : Option ℕ) (stack left : List (Option ℕ)) (rest : List ℕ) (end : ℕ) (e : Stop) → length vars < 2 ^ 32 → length syms < 2 ^ 32 → after < 48
    → AreRead vars syms usable want after input ns (reverse stack) rest → stack ≡ left ++ w ∷ [] → end ≡ follow after (reverse left)
    → ((n : FoNode) → IsCandidate vars syms usable w n → IsStop (IsCandidate vars syms usable w) (spaced_node end) rest e)
    → AreMarks vars syms usable → CanBegin vars syms want → IsStop (IsTerm vars syms want) (ended_term after) input e
read-stop vars syms usable want after input ns w stack left rest end e lv ls la r s d h m c =
    let ws : List (Option ℕ) = reverse left in
    let q : AreRead vars syms usable want after input ns (w ∷ ws) rest = subst (λ u. AreRead vars syms usable want after input ns u rest) (popped stack left w s) r in
    let can = q.can m c in
    let first = first-candidate vars syms usable w m can.0 in
    let stop : IsStop (IsCandidate vars syms usable w) (spaced_node (follow after ws)) rest e = subst (λ u. IsStop (IsCandidate vars syms usable w) (spaced_node u) rest e) d (h first.0 first.1) in
    let tail = stands_space rest q.ahead in
    stop-behind (IsTerm vars syms want) (ended_term after) (IsCandidate vars syms usable w) (spaced_node (follow after ws)) input rest
    (λ k f. refuses-same (IsTerm vars syms want) (ended_term after) input ((nodes_text ns ++ space ∷ []) ++ tail.0) k (q.input_is ∙ ap (λ u. nodes_text ns ++ u) tail.1 ∙ sym (append_assoc (nodes_text ns) (space ∷ []) tail.0))
    (term-refuses vars syms usable want after ns w ws tail.0 k lv ls la m can.1 q.takes (subst (λ u. Refuses (Spells (IsCandidate vars syms usable w) (spaced_node (follow after ws))) (Opens (IsCandidate vars syms usable w) (spaced_node (follow after ws))) u k) tail.1 f)))
    e stop

one_node : (ns : List FoNode) (n : FoNode) (left : List ℕ) → nodes_text ns ++ space ∷ (node_word n ++ left) ≡ nodes_text (ns ++ n ∷ []) ++ left
one_node ns n left =
    ap (λ u. nodes_text ns ++ space ∷ (u ++ left)) (sym (append-nil (node_word n))) ∙ sym (append_assoc (nodes_text ns) (space ∷ (node_word n ++ [])) left) ∙ ap (λ u. u ++ left) (sym (flat_map-append (λ k. space ∷ node_word k) ns (n ∷ [])))

pub read-next : (vars : List ℕ) (syms : List FoSym) (usable : List Bool) (want : Option ℕ) (after : ℕ) (input : List ℕ) (ns new : List FoNode) (w : Option ℕ) (stack left pushed : List (Option ℕ)) (rest : List ℕ) (end : ℕ) (n : FoNode) (next : List ℕ)
    → AreRead vars syms usable want after input ns (reverse stack) rest → stack ≡ left ++ w ∷ [] → end ≡ follow after (reverse left) → IsCandidate vars syms usable w n → IsAhead end rest n next → new ≡ ns ++ n ∷ []
    → ((s : ℕ) (args : List ℕ) → Gives vars syms n s args → reverse pushed ≡ map Some args ++ reverse left) → AreRead vars syms usable want after input new (reverse pushed) next
read-next vars syms usable want after input ns new w stack left pushed rest end n next r s d c a e p =
    let ws : List (Option ℕ) = reverse left in
    let q : AreRead vars syms usable want after input ns (w ∷ ws) rest = subst (λ u. AreRead vars syms usable want after input ns u rest) (popped stack left w s) r in
    let more_wants : reverse pushed ≡ map Some c.args ++ ws = p c.sort c.args c.begins.gives in
    let done : AreRead vars syms usable want after input (ns ++ n ∷ []) (map Some c.args ++ ws) next = record {
      takes = Takes-append vars syms ns (n ∷ []) (want ∷ []) (w ∷ ws) (map Some c.args ++ ws) q.takes (c.sort, c.args, c.begins, refl);
      input_is = q.input_is ∙ ap (λ u. nodes_text ns ++ u) a.input_is ∙ one_node ns n next;
      ahead = subst (λ u. StandsFirst u next) (ap (λ u. node_end u n) d ∙ end-follow vars syms n c.sort c.args after ws c.begins.gives) a.ended;
      can = λ m k. All-append (CanBegin vars syms) (map Some c.args) ws (wanted-some vars syms c.args (args-inhabited vars syms usable n w m c)) (q.can m k).1;
    } in
    subst (λ u. AreRead vars syms usable want after input u (reverse pushed) next) (sym e) (subst (λ u. AreRead vars syms usable want after input (ns ++ n ∷ []) u next) (sym more_wants) done)

pub read-all : (vars : List ℕ) (syms : List FoSym) (usable : List Bool) (want : Option ℕ) (after : ℕ) (input : List ℕ) (ns : List FoNode) (stack : List (Option ℕ)) (rest : List ℕ) → AreRead vars syms usable want after input ns (reverse stack) rest → stack ≡ [] → AreRead vars syms usable want after input ns [] rest
read-all vars syms usable want after input ns stack rest r e = subst (λ u. AreRead vars syms usable want after input ns (reverse u) rest) e r

pub ahead-shorter : (end : ℕ) (rest : List ℕ) (n : FoNode) (next : List ℕ) → IsAhead end rest n next → length next < length rest
ahead-shorter end rest n next a =
    let e : length rest ≡ length ((space ∷ node_word n) ++ next) = ap length a.input_is in
    let l : length ((space ∷ node_word n) ++ next) ≡ length (space ∷ node_word n) + length next = length-append (space ∷ node_word n) next in
    let k : 0 < length (space ∷ node_word n) = positive (node_word n) in
    omega arith
  where
    positive : (w : List ℕ) → 0 < length (space ∷ w)
    positive w = omega arith

-- nodes of a wanted term
pub the_term : (vars : List ℕ) (syms : List FoSym) (want : Option ℕ) (ns : List FoNode) → Takes vars syms (want ∷ []) ns [] → (t : Term) × IsTerm vars syms want t × (prefix t ≡ ns)
the_term vars syms want ns h = let ts = terms_of_nodes vars syms ns (want ∷ []) h in only_term vars syms want ns ts.terms ts.nodes ts.wanted
  where
    only_term : (vars : List ℕ) (syms : List FoSym) (want : Option ℕ) (ms : List FoNode) (ts : Terms) → prefix_of_all ts ≡ ms → AreWanted vars syms ts (want ∷ []) → (t : Term) × IsTerm vars syms want t × (prefix t ≡ ms)
    only_term vars syms want ms none e a = absurd a
    only_term vars syms want ms (more t none) e a = (t, a.0, sym (append-nil (prefix t)) ∙ e)
    only_term vars syms want ms (more t (more u us)) e a = absurd a.1

pub the_same : (vars : List ℕ) (syms : List FoSym) (want : Option ℕ) (ns : List FoNode) (t : Term) → Takes vars syms (want ∷ []) ns [] → prefix t ≡ ns → IsTerm vars syms want t
the_same vars syms want ns t h e =
    let u = the_term vars syms want ns h in
    let same : u.0 ≡ t = sym (term_of-prefix u.0) ∙ ap term_of (u.2 ∙ sym e) ∙ term_of-prefix t in
    subst (IsTerm vars syms want) same u.1

pub empty_list : {X : Type 0} (xs : List X) → length xs ≡ 0 → xs ≡ []
empty_list [] e = refl
empty_list (x ∷ xs) e = cc

behind_low : (ns : List FoNode) (p : List ℕ) → LowFirst p → LowFirst (nodes_text ns ++ p)
behind_low [] p l = l
behind_low (n ∷ ns) p l = (32, node_word n ++ nodes_text ns ++ p, refl, omega arith)

both_step : (vars : List ℕ) (syms : List FoSym) (k n : FoNode) (ns ms : List FoNode) (s t : ℕ) (args brgs p q : List ℕ) → length vars < 2 ^ 32 → length syms < 2 ^ 32 → LowFirst p → LowFirst q → Gives vars syms n s args → Gives vars syms k t brgs
    → nodes_text (n ∷ ms) ++ p ≡ nodes_text (k ∷ ns) ++ q → Passed n k args brgs (nodes_text ms ++ p) (nodes_text ns ++ q)
both_step vars syms k n ns ms s t args brgs p q lv ls lp lq g h e =
    node_passed vars syms n k s t args brgs (nodes_text ms ++ p) (nodes_text ns ++ q) lv ls g h (behind_low ms p lp) (behind_low ns q lq)
    (sym (append_assoc (node_word n) (nodes_text ms) p) ∙ behind_letter 32 32 (node_word n ++ nodes_text ms ++ p) (node_word k ++ nodes_text ns ++ q) e ∙ append_assoc (node_word k) (nodes_text ns) q)

pub record SameNodes (ns ms : List FoNode) (p q : List ℕ) : Type 0 where
  pub nodes : ns ≡ ms
  pub rest : p ≡ q

one_longer : (n m : FoNode) (ns ms : List FoNode) (p q : List ℕ) → n ≡ m → SameNodes ns ms p q → SameNodes (n ∷ ns) (m ∷ ms) p q
one_longer n m ns ms p q e s = record { nodes = ap (λ u. u ∷ ns) e ∙ ap (λ u. m ∷ u) s.nodes; rest = s.rest }

nodes_same : (vars : List ℕ) (syms : List FoSym) (ns ms : List FoNode) (ws : List (Option ℕ)) (p q : List ℕ) → length vars < 2 ^ 32 → length syms < 2 ^ 32 → LowFirst p → LowFirst q → Takes vars syms ws ns [] → Takes vars syms ws ms [] → nodes_text ns ++ p ≡ nodes_text ms ++ q → SameNodes ns ms p q
nodes_same vars syms [] [] ws p q lv ls lp lq h k e = record { nodes = refl; rest = e }
nodes_same vars syms [] (m ∷ ms) [] p q lv ls lp lq h k e = absurd k
nodes_same vars syms [] (m ∷ ms) (w ∷ ws) p q lv ls lp lq h k e = absurd cc
nodes_same vars syms (n ∷ ns) ms [] p q lv ls lp lq h k e = absurd h
nodes_same vars syms (n ∷ ns) [] (w ∷ ws) p q lv ls lp lq h k e = absurd cc
nodes_same vars syms (n ∷ ns) (m ∷ ms) (w ∷ ws) p q lv ls lp lq h k e =
    let s = both_step vars syms m n ms ns h.0 k.0 h.1 k.1 p q lv ls lp lq h.2.gives k.2.gives e in
    one_longer n m ns ms p q s.same_node (nodes_same vars syms ns ms (map Some k.1 ++ ws) p q lv ls lp lq (subst (λ u. Takes vars syms (map Some u ++ ws) ns []) s.same_args h.3) k.3 s.same_rest)

nodes_of : (vars : List ℕ) (syms : List FoSym) (want : Option ℕ) (t : Term) → IsTerm vars syms want t → Takes vars syms (want ∷ []) (prefix t) []
nodes_of vars syms want t h = subst (λ u. Takes vars syms (want ∷ []) u []) (append-nil (prefix t)) (take_term vars syms t h.0 want [] [] [] h.1 h.2 refl)

pub term_same : (vars : List ℕ) (syms : List FoSym) (want : Option ℕ) (t u : Term) (p q : List ℕ) → length vars < 2 ^ 32 → length syms < 2 ^ 32 → LowFirst p → LowFirst q → IsTerm vars syms want t → IsTerm vars syms want u → term_text t ++ p ≡ term_text u ++ q → (t ≡ u) × (p ≡ q)
term_same vars syms want t u p q lv ls lp lq a b e =
    let s = nodes_same vars syms (prefix t) (prefix u) (want ∷ []) p q lv ls lp lq (nodes_of vars syms want t a) (nodes_of vars syms want u b) e in
    (sym (term_of-prefix t) ∙ ap term_of s.nodes ∙ term_of-prefix u, s.rest)

pub term_first : (t : Term) → (q : List ℕ) × (term_text t ≡ space ∷ q)
term_first (variable v) = (node_word (Var v) ++ [], refl)
term_first (symbol f ts) = (node_word (Sym f (count ts)) ++ nodes_text (prefix_of_all ts), refl)

pub sort_same : (vars : List ℕ) (syms : List FoSym) (t : Term) (s u : ℕ) → HasSort vars syms t s → HasSort vars syms t u → s ≡ u
sort_same vars syms (variable v) s u a b = let e : Some s ≡ Some u = sym a ∙ b in cc
sort_same vars syms (symbol f ts) s u a b = sym a.2 ∙ ap (λ y. let x : FoSym = y in x.result) (some_same (slice_get syms f) a.0 b.0 a.1 b.1) ∙ b.2
