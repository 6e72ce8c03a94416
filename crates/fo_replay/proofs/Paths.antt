-- Terms at paths.
use Rattle.std.proofs.Common.{ℕ, ◌≡◌, ◌<◌, ◌≤◌, ◌+◌, suc, zero, None, List, [], ◌∷◌, ◌++◌, length, refl, sym, ap, ◌∙◌, arith, append_assoc, length-append}
use Rattle.std.proofs.lemmas.List.{append-nil}
use Rattle.fo_terms.specs.declared.term.FoNode.{FoNode}
use Rattle.fo_terms.specs.declared.term.FoNode.TheVariants.{Var, Sym}
use Rattle.fo_terms.specs.Terms.{Term, Terms, variable, symbol, none, more, count}
use Rattle.fo_terms.specs.Prefix.{prefix, prefix_of_all}
use Rattle.fo_replay.specs.Replays.{at_path, at_argument, replaced, replaced_argument}
use Rattle.fo_replay.specs.Parts.{StandsAt, IsDown, HasNone, IsArgument}
use Rattle.fo_replay.proofs.Nodes.{Fronts}

-- the same among terms in a row
record IsAcross (ts : Terms) (back : List FoNode) (n : ℕ) : Type 0 where
  pub term : Term
  pub front : List FoNode
  pub behind : List FoNode
  pub skipped : Fronts (prefix_of_all ts ++ back) (prefix term ++ behind) n
  pub nodes_are : prefix_of_all ts ++ back ≡ front ++ (prefix term ++ behind)
  pub at : (ns : List ℕ) → at_argument ts n ns ≡ at_path term ns
  pub put : (ns : List ℕ) (u : Term) → prefix_of_all (replaced_argument ts n ns u) ++ back ≡ front ++ (prefix (replaced term ns u) ++ behind)

across : (ts : Terms) (back : List FoNode) (n : ℕ) → n < count ts → IsAcross ts back n
across none back n l = absurd (omega arith)
across (more t ts) back zero l = record {
  term = t;
  front = [];
  behind = prefix_of_all ts ++ back;
  skipped = record { terms = none; nodes_are = append_assoc (prefix t) (prefix_of_all ts) back; count_is = refl };
  nodes_are = append_assoc (prefix t) (prefix_of_all ts) back;
  at = λ ns. refl;
  put = λ ns u. append_assoc (prefix (replaced t ns u)) (prefix_of_all ts) back;
}
across (more t ts) back (suc n) l =
    let r = across ts back n (omega arith) in record {
      term = r.term;
      front = prefix t ++ r.front;
      behind = r.behind;
      skipped = record { terms = more t r.skipped.terms; nodes_are = append_assoc (prefix t) (prefix_of_all ts) back ∙ ap (λ u. prefix t ++ u) r.skipped.nodes_are ∙ sym (append_assoc (prefix t) (prefix_of_all r.skipped.terms) (prefix r.term ++ r.behind)); count_is = ap suc r.skipped.count_is };
      nodes_are = append_assoc (prefix t) (prefix_of_all ts) back ∙ ap (λ u. prefix t ++ u) r.nodes_are ∙ sym (append_assoc (prefix t) r.front (prefix r.term ++ r.behind));
      at = r.at;
      put = λ ns u. append_assoc (prefix t) (prefix_of_all (replaced_argument ts n ns u)) back ∙ ap (λ x. prefix t ++ x) (r.put ns u) ∙ sym (append_assoc (prefix t) r.front (prefix (replaced r.term ns u) ++ r.behind));
    }

-- a path that leads past the arguments
none_there : (ts : Terms) (n : ℕ) (ns : List ℕ) → count ts ≤ n → at_argument ts n ns ≡ None
none_there none n ns l = refl
none_there (more t ts) zero ns l = absurd (omega arith)
none_there (more t ts) (suc n) ns l = none_there ts n ns (omega arith)

count-replaced : (ts : Terms) (n : ℕ) (ns : List ℕ) (u : Term) → count (replaced_argument ts n ns u) ≡ count ts
count-replaced none n ns u = refl
count-replaced (more t ts) zero ns u = refl
count-replaced (more t ts) (suc n) ns u = ap suc (count-replaced ts n ns u)

-- the nodes of a term with arguments
pub down : (t : Term) (back nodes : List FoNode) (f k : ℕ) (tail : List FoNode) (n : ℕ) (rest : List FoNode) → nodes ≡ prefix t ++ back → nodes ≡ Sym f k ∷ tail → n < k → ((ts : Terms) (behind : List FoNode) → tail ≡ prefix_of_all ts ++ behind → count ts ≡ n → rest ≡ behind) → IsDown t back nodes n rest
down (variable v) back nodes f k tail n rest e h l skip = absurd (let i : Var v ∷ back ≡ Sym f k ∷ tail = sym e ∙ h in cc)
down (symbol g ts) back nodes f k tail n rest e h l skip =
    let i : Sym g (count ts) ∷ (prefix_of_all ts ++ back) ≡ Sym f k ∷ tail = sym e ∙ h in
    let c : count ts ≡ k = counts i in
    let t : prefix_of_all ts ++ back ≡ tail = tails i in
    let r = across ts back n (omega arith) in
    let s : rest ≡ prefix r.term ++ r.behind = skip r.skipped.terms (prefix r.term ++ r.behind) (sym t ∙ r.skipped.nodes_are) r.skipped.count_is in
    record {
      term = r.term;
      front = Sym g (count ts) ∷ r.front;
      behind = r.behind;
      rest_is = s;
      nodes_are = e ∙ ap (λ u. Sym g (count ts) ∷ u) (r.nodes_are ∙ ap (λ u. r.front ++ u) (sym s));
      at = r.at;
      put = λ ns u. ap (λ x. Sym g x ∷ (prefix_of_all (replaced_argument ts n ns u) ++ back)) (count-replaced ts n ns u) ∙ ap (λ x. Sym g (count ts) ∷ x) (r.put ns u);
    }
  where
    counts : {a b : ℕ} {x y : ℕ} {p q : List FoNode} → Sym x a ∷ p ≡ Sym y b ∷ q → a ≡ b
    counts e = cc

    tails : {x y : FoNode} {p q : List FoNode} → x ∷ p ≡ y ∷ q → p ≡ q
    tails e = cc

pub no_way : (t : Term) (back nodes : List FoNode) (f k : ℕ) (tail : List FoNode) (n : ℕ) (ns : List ℕ) → nodes ≡ prefix t ++ back → nodes ≡ Sym f k ∷ tail → k ≤ n → at_path t (n ∷ ns) ≡ None
no_way (variable v) back nodes f k tail n ns e h l = refl
no_way (symbol g ts) back nodes f k tail n ns e h l =
    let i : Sym g (count ts) ∷ (prefix_of_all ts ++ back) ≡ Sym f k ∷ tail = sym e ∙ h in
    none_there ts n ns (let c : count ts ≡ k = counts i in omega arith)
  where
    counts : {a b : ℕ} {x y : ℕ} {p q : List FoNode} → Sym x a ∷ p ≡ Sym y b ∷ q → a ≡ b
    counts e = cc

pub no_arguments : (t : Term) (back nodes : List FoNode) (v : ℕ) (tail : List FoNode) (n : ℕ) (ns : List ℕ) → nodes ≡ prefix t ++ back → nodes ≡ Var v ∷ tail → at_path t (n ∷ ns) ≡ None
no_arguments (variable w) back nodes v tail n ns e h = refl
no_arguments (symbol g ts) back nodes v tail n ns e h = absurd (let i : Sym g (count ts) ∷ (prefix_of_all ts ++ back) ≡ Var v ∷ tail = sym e ∙ h in cc)

-- so far a path was gone
pub record IsReached (whole : Term) (path : List ℕ) (rest : List FoNode) (left : List ℕ) : Type 0 where
  pub term : Term
  pub front : List FoNode
  pub back : List FoNode
  pub rest_is : rest ≡ prefix term ++ back
  pub nodes_are : prefix whole ≡ front ++ rest
  pub at : at_path whole path ≡ at_path term left
  pub put : (u : Term) → prefix (replaced whole path u) ≡ front ++ (prefix (replaced term left u) ++ back)

pub reached_start : (whole : Term) (path : List ℕ) (nodes : List FoNode) → nodes ≡ prefix whole → IsReached whole path nodes path
reached_start whole path nodes e = record { term = whole; front = []; back = []; rest_is = e ∙ sym (append-nil (prefix whole)); nodes_are = sym e; at = refl; put = λ u. sym (append-nil (prefix (replaced whole path u))) }

pub reached_next : (whole : Term) (path : List ℕ) (rest : List FoNode) (left : List ℕ) (n : ℕ) (others : List ℕ) (down : List FoNode) → left ≡ n ∷ others → (r : IsReached whole path rest left) → IsDown r.term r.back rest n down → IsReached whole path down others
reached_next whole path rest left n others down e r d = record {
  term = d.term;
  front = r.front ++ d.front;
  back = d.behind;
  rest_is = d.rest_is;
  nodes_are = r.nodes_are ∙ ap (λ u. r.front ++ u) d.nodes_are ∙ sym (append_assoc r.front d.front down);
  at = r.at ∙ ap (at_path r.term) e ∙ d.at others;
  put = λ u. r.put u ∙ ap (λ x. r.front ++ (prefix (replaced r.term x u) ++ r.back)) e ∙ ap (λ x. r.front ++ x) (d.put others u) ∙ sym (append_assoc r.front d.front (prefix (replaced d.term others u) ++ d.behind));
}

pub reached_never : (whole : Term) (path : List ℕ) (rest : List FoNode) (left : List ℕ) (n : ℕ) (others : List ℕ) → left ≡ n ∷ others → (r : IsReached whole path rest left) → at_path r.term (n ∷ others) ≡ None → at_path whole path ≡ None
reached_never whole path rest left n others e r h = r.at ∙ ap (at_path r.term) e ∙ h

pub reached_end : (whole : Term) (path : List ℕ) (rest : List FoNode) (left : List ℕ) (end : List FoNode) (start stop : ℕ) → length left ≡ 0 → (r : IsReached whole path rest left) → end ≡ r.back → start + length rest ≡ length (prefix whole) → stop + length end ≡ length (prefix whole) → StandsAt whole path start stop
reached_end whole path rest [] end start stop l r e a b =
    let w : length (prefix whole) ≡ length r.front + length rest = ap length r.nodes_are ∙ length-append r.front rest in
    let v : length rest ≡ length (prefix r.term) + length r.back = ap length r.rest_is ∙ length-append (prefix r.term) r.back in
    let z : length end ≡ length r.back = ap length e in
    record {
      term = r.term;
      front = r.front;
      back = r.back;
      term_at = r.at;
      nodes = r.nodes_are ∙ ap (λ u. r.front ++ u) r.rest_is;
      start_is = omega arith;
      end_is = omega arith;
      others = r.put;
    }
reached_end whole path rest (n ∷ ns) end start stop l r e a b = absurd (omega arith)

pub argument_there : (nodes : List FoNode) (f k : ℕ) (tail : List FoNode) (n : ℕ) (rest : List FoNode) → nodes ≡ Sym f k ∷ tail → n < k → ((ts : Terms) (behind : List FoNode) → tail ≡ prefix_of_all ts ++ behind → count ts ≡ n → rest ≡ behind) → IsArgument nodes n rest
argument_there nodes f k tail n rest h l skip = λ t back e. down t back nodes f k tail n rest e h l skip

pub argument_not_there : (nodes : List FoNode) (f k : ℕ) (tail : List FoNode) (n : ℕ) → nodes ≡ Sym f k ∷ tail → k ≤ n → HasNone nodes n
argument_not_there nodes f k tail n h l = λ t back ns e. no_way t back nodes f k tail n ns e h l

pub variable_there : (nodes : List FoNode) (v : ℕ) (tail : List FoNode) (n : ℕ) → nodes ≡ Var v ∷ tail → HasNone nodes n
variable_there nodes v tail n h = λ t back ns e. no_arguments t back nodes v tail n ns e h

pub nothing_there : (nodes : List FoNode) (n : ℕ) → length nodes ≡ 0 → HasNone nodes n
nothing_there nodes n l = λ t back ns e. absurd (some t back (sym e ∙ empty nodes l))
  where
    empty : (xs : List FoNode) → length xs ≡ 0 → xs ≡ []
    empty [] l = refl
    empty (x ∷ xs) l = absurd (omega arith)

    some : (t : Term) (back : List FoNode) → prefix t ++ back ≡ [] → ⊥
    some (variable v) back e = cc
    some (symbol f ts) back e = cc

pub one_term : (rest : List FoNode) (t : Term) (back end : List FoNode) → rest ≡ prefix t ++ back → ((ts : Terms) (behind : List FoNode) → rest ≡ prefix_of_all ts ++ behind → count ts ≡ 1 → end ≡ behind) → end ≡ back
one_term rest t back end e h = h (more t none) back (e ∙ ap (λ u. u ++ back) (sym (append-nil (prefix t)))) refl

pub reached_within : (whole : Term) (path : List ℕ) (rest : List FoNode) (left : List ℕ) (end nodes : List FoNode) → (r : IsReached whole path rest left) → end ≡ r.back → nodes ≡ prefix whole → (length rest ≤ length nodes) × (length end ≤ length nodes)
reached_within whole path rest left end nodes r e n =
    let w : length (prefix whole) ≡ length r.front + length rest = ap length r.nodes_are ∙ length-append r.front rest in
    let v : length rest ≡ length (prefix r.term) + length r.back = ap length r.rest_is ∙ length-append (prefix r.term) r.back in
    let z : length end ≡ length r.back = ap length e in
    let m : length nodes ≡ length (prefix whole) = ap length n in
    (omega arith, omega arith)
