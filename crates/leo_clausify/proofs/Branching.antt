-- Branches after one step more.
use Rattle.std.proofs.Common.{ℕ, zero, suc, ◌≡◌, ◌+◌, ◌<◌, List, [], ◌∷◌, ◌++◌, length, map, take, drop, slice_get, slice_index_or, Some, refl, sym, ◌∙◌, ap, subst, append_assoc, arith}
use Rattle.std.proofs.lemmas.List.{map-append}
use Rattle.leo_q0.specs.Terms.{SimpleType}
use Rattle.leo_terms.specs.Contents.{Contents, IsBank, Extends, type_at}
use Rattle.leo_terms.proofs.CallerLemmas.{old_bank, extends-itself, trees-kept, are_terms-kept}
use Rattle.leo_clause.specs.Choices.{Choice}
use Rattle.leo_clause.specs.declared.clause.Clause.{Clause}
use Rattle.leo_clause.specs.declared.clause.Lit.{Lit}
use Rattle.leo_clause.specs.Trees.{Literal, ClauseTree, clause_at, literal_at}
use Rattle.leo_clause.specs.Typed.{AreTypesOf, AreLiteralsOf, AreTyped, IsClauseOf, IsTyped}
use Rattle.leo_kernel.specs.Conclusions.{NeverHolds, with_literals, with_new}
use Rattle.leo_kernel.specs.Steps.{inst}
use Rattle.leo_kernel.proofs.Clauses.{types-append, lits-placed, map-placed}
use Rattle.leo_kernel.proofs.Growing.{clause-grow, clause-kept, types-grow, types-kept, lits-grow, lits-kept}
use Rattle.leo_clausify.specs.declared.branch.Branch.{Branch}
use Rattle.leo_clausify.specs.declared.moves.Move.{Move}
use Rattle.leo_clausify.specs.declared.moves.Move.TheVariants as move
use Rattle.leo_clausify.specs.declared.moves.Step.{Step}
use Rattle.leo_clausify.specs.Branches.{IsBranch, IsExtended, Leads, Precedes}
use Rattle.leo_clausify.specs.Moves.{Descends, IsDescent, IsMoveOf, IsStepIn, AreStepsIn, move_rule, step_at}
use Rattle.leo_clausify.specs.Literals.{AreLiterals}
use Rattle.leo_clausify.specs.Splitting.{AreNormal, normal_literal, turned}
use Rattle.leo_clausify.proofs.Chains.{chain-later, chain-more}
use Rattle.leo_clausify.proofs.Following.{AreWell, omitted-follows, turned-follows, turned-typed, converted-follows, normals-typed}
use Rattle.leo_clausify.proofs.Placing.{no-fresh, normal-at, normal-placed, typed-at, typed-placed}
use Rattle.leo_clausify.proofs.Reducts.{normal-twice}
use Rattle.leo_clausify.proofs.Banks.{literals-well}

pub placed-list : {X : Type 0} (f front piece new rest back first whole : List X) → f ≡ front → piece ≡ new → rest ≡ back → first ≡ f ++ piece → whole ≡ first ++ rest → whole ≡ front ++ (new ++ back)
placed-list f front piece new rest back first whole a b d e g = g ∙ rw (e, a, b, d) (append_assoc front new back)

-- steps as the bank grows
module _ {c d : Contents} (e : Extends c d) where
  rule-kept : (m : Move) → IsMoveOf c m → move_rule d m ≡ move_rule c m
  rule-kept move.Arrange h = refl
  rule-kept (move.Omit i) h = refl
  rule-kept (move.Apart i k a) h = refl
  rule-kept move.Convert h = refl
  rule-kept (move.Inst sigma) h = ap (λ (ts : List _). λ (p : ℕ). inst p ts) (trees-kept e sigma h)

  move-grow : (m : Move) → IsMoveOf c m → IsMoveOf d m
  move-grow move.Arrange h = tt
  move-grow (move.Omit i) h = tt
  move-grow (move.Apart i k a) h = tt
  move-grow move.Convert h = tt
  move-grow (move.Inst sigma) h = are_terms-kept e sigma h

  pub steps-grow : (ss : List Step) → AreStepsIn c ss → AreStepsIn d ss
  steps-grow [] h = tt
  steps-grow (s ∷ ss) h = (record { clause_of = clause-grow e s.clause h.0.clause_of; terms_of = move-grow s.rule h.0.terms_of }, steps-grow ss h.1)

  pub steps-kept : (ss : List Step) → AreStepsIn c ss → map (step_at d) ss ≡ map (step_at c) ss
  steps-kept [] h = refl
  steps-kept (s ∷ ss) h = rw (clause-kept e s.clause h.0.clause_of, rule-kept s.rule h.0.terms_of, steps-kept ss h.1) refl

steps-end : (c : Contents) (ss : List Step) (s : Step) → AreStepsIn c ss → IsStepIn c s → AreStepsIn c (ss ++ s ∷ [])
steps-end c [] s h g = (g, tt)
steps-end c (t ∷ ss) s h g = (h.0, steps-end c ss s h.1 g)

-- like an extended branch, whose clause may not be in normal form
pub record Reached (c d : Contents) (later : List Choice) (b r : Branch) (tree : ClauseTree) : Type 0 where
  pub clause_of : IsClauseOf d r.clause
  pub reads : clause_at d r.clause ≡ tree
  pub typed : IsTyped tree
  pub steps : AreStepsIn d r.steps
  pub leads : (choices : List Choice) (start : ClauseTree) → Precedes choices later → Leads c choices start b → Leads d later start r

pub reached-itself : (c : Contents) (later : List Choice) (b : Branch) → IsBranch c b → Reached c c later b b (clause_at c b.clause)
reached-itself c later b h = record {
  clause_of = h.typed.of_bank;
  reads = refl;
  typed = h.typed.typed;
  steps = h.steps;
  leads = λ choices start before k. chain-later choices later before start (clause_at c b.clause) (map (step_at c) b.steps) k;
}

pub reached-step : {c d e : Contents} (g : Extends d e) (later : List Choice) (b r u : Branch) (tree next : ClauseTree) (k : Clause) (m : Move) → Reached c d later b r tree → u.clause ≡ k → u.steps ≡ r.steps ++ record { clause = k; rule = m } ∷ [] → IsClauseOf e k → IsMoveOf e m → clause_at e k ≡ next → IsTyped next → Descends later tree (record { clause = next; rule = move_rule e m }) → Reached c e later b u next
reached-step {c} {d} {e} g later b r u tree next k m h p q of_bank terms reads typed follows =
    let s : Step = record { clause = k; rule = m } in
    record {
      clause_of = rw p of_bank;
      reads = rw p reads;
      typed = typed;
      steps = rw q (steps-end e r.steps s (steps-grow g r.steps h.steps) (record { clause_of = of_bank; terms_of = terms }));
      leads = λ choices start before l.
          let chain : IsDescent later start (map (step_at d) r.steps) tree = rw h.reads at (h.leads choices start before l) in
          let more = chain-more later start tree (map (step_at d) r.steps) (record { clause = next; rule = move_rule e m }) chain follows in
          let steps : map (step_at e) (r.steps ++ s ∷ []) ≡ map (step_at d) r.steps ++ record { clause = next; rule = move_rule e m } ∷ [] = map-append (step_at e) r.steps (s ∷ []) ∙ rw (steps-kept g r.steps h.steps, reads) refl in
          rw (q, p, steps, reads) more;
    }

pub reached-extended : (c d : Contents) (later : List Choice) (b r : Branch) (tree : ClauseTree) → Reached c d later b r tree → AreNormal tree.literals → IsExtended c d later b r tree
reached-extended c d later b r tree h n = record {
  branch = record {
    typed = record { of_bank = h.clause_of; typed = subst IsTyped (sym h.reads) h.typed };
    normal = subst (λ (t : ClauseTree). AreNormal t.literals) (sym h.reads) n;
    steps = h.steps;
  };
  reads = h.reads;
  leads = h.leads;
}

-- a clause with new literals in the place of one
module _ {c d : Contents} (e : Extends c d) (parent k : Clause) (at : ℕ) (fresh : List ℕ) (new : List Lit) (vars : k.vars ≡ parent.vars ++ fresh) (lits : k.lits ≡ take at parent.lits ++ (new ++ drop (at + 1) parent.lits)) (of_bank : IsClauseOf c parent) (types : AreTypesOf c fresh) where
  suc-lits : k.lits ≡ take at parent.lits ++ (new ++ drop (suc at) parent.lits)
  suc-lits = let f : at + 1 ≡ suc at = omega arith in rw f at lits

  pub placed-of : AreLiteralsOf d new → IsClauseOf d k
  placed-of h = record {
    types_of = rw vars (types-append d parent.vars fresh (types-grow e parent.vars of_bank.types_of) (types-grow e fresh types));
    literals_of = rw suc-lits (lits-placed d at parent.lits new (lits-grow e parent.lits of_bank.literals_of) h);
  }

  pub placed-reads : clause_at d k ≡ with_new (clause_at c parent) at (map (type_at c) fresh) (map (literal_at d) new)
  placed-reads =
      let v : map (type_at d) k.vars ≡ map (type_at c) parent.vars ++ map (type_at c) fresh = ap (map (type_at d)) vars ∙ map-append (type_at d) parent.vars fresh ∙ rw (types-kept e parent.vars of_bank.types_of, types-kept e fresh types) refl in
      let l : map (literal_at d) k.lits ≡ with_literals (map (literal_at c) parent.lits) at (map (literal_at d) new) = ap (map (literal_at d)) suc-lits ∙ map-placed d at parent.lits new ∙ rw (lits-kept e parent.lits of_bank.literals_of) refl in
      clause-of (map (type_at d) k.vars) (map (type_at c) parent.vars ++ map (type_at c) fresh) (map (literal_at d) k.lits) (with_literals (map (literal_at c) parent.lits) at (map (literal_at d) new)) v l
    where
      clause-of : (u v : List SimpleType) (l m : List Literal) → u ≡ v → l ≡ m → ◌≡◌ {A = ClauseTree} (record { variables = u; literals = l }) (record { variables = v; literals = m })
      clause-of u v l m p q = rw (p, q) refl

-- literals of a clause
pub get-map : {X Y : Type 0} (f : X → Y) (xs : List X) (i : ℕ) (x : X) → slice_get xs i ≡ Some x → slice_get (map f xs) i ≡ Some (f x)
get-map f [] i x h = absurd (cc)
get-map f (y ∷ xs) zero x h = let e : y ≡ x = cc in rw e refl
get-map f (y ∷ xs) (suc i) x h = get-map f xs i x h

pub lit-at : (c : Contents) (ls : List Lit) (i : ℕ) (l : Lit) → AreLiteralsOf c ls → slice_get ls i ≡ Some l → (l.left < length c.terms) × (l.right < length c.terms)
lit-at c [] i l h e = absurd (cc)
lit-at c (k ∷ ls) zero l h e = let f : k ≡ l = cc in rw (← f) (h.0, h.1)
lit-at c (k ∷ ls) (suc i) l h e = lit-at c ls i l h.2 e

-- the sides of a literal change places
pub turned-extended : (c : Contents) → IsBank c → (later : List Choice) (b r : Branch) (at : ℕ) (l : Lit) (k : Clause) → IsBranch c b → slice_get b.clause.lits at ≡ Some l → k.vars ≡ b.clause.vars ++ [] → k.lits ≡ take at b.clause.lits ++ (record { pos = l.pos; left = l.right; right = l.left } ∷ [] ++ drop (at + 1) b.clause.lits) → r.clause ≡ k → r.steps ≡ b.steps ++ record { clause = k; rule = move.Arrange } ∷ [] → IsExtended c c later b r (with_new (clause_at c b.clause) at [] (turned (literal_at c l) ∷ []))
turned-extended c s later b r at l k h e vars lits p q =
    let x = extends-itself s in
    let new : List Lit = record { pos = l.pos; left = l.right; right = l.left } ∷ [] in
    let w = lit-at c b.clause.lits at l h.typed.of_bank.literals_of e in
    let stands : slice_get (clause_at c b.clause).literals at ≡ Some (literal_at c l) = get-map (literal_at c) b.clause.lits at l e in
    let typed = typed-placed (clause_at c b.clause) at [] (turned (literal_at c l) ∷ []) h.typed.typed (no-fresh _ (turned (literal_at c l) ∷ []) (turned-typed _ (literal_at c l) (typed-at _ _ at (literal_at c l) h.typed.typed stands), tt)) in
    let n = normal-at (clause_at c b.clause).literals at (literal_at c l) h.normal stands in
    reached-extended c c later b r (with_new (clause_at c b.clause) at [] (turned (literal_at c l) ∷ []))
    (reached-step x later b b r (clause_at c b.clause) (with_new (clause_at c b.clause) at [] (turned (literal_at c l) ∷ [])) k move.Arrange (reached-itself c later b h) p q
    (placed-of x b.clause k at [] new vars lits h.typed.of_bank tt (w.1, w.0, tt)) tt
    (placed-reads x b.clause k at [] new vars lits h.typed.of_bank tt)
    typed (turned-follows later (clause_at c b.clause) at (literal_at c l) stands h.typed.typed))
    (normal-placed (clause_at c b.clause).literals at (turned (literal_at c l) ∷ []) h.normal (n.1, n.0, tt))

-- a literal is left out
pub omitted-extended : (c : Contents) → IsBank c → (later : List Choice) (b r : Branch) (at : ℕ) (l : Lit) (k : Clause) → IsBranch c b → slice_get b.clause.lits at ≡ Some l → NeverHolds (literal_at c l) → k.vars ≡ b.clause.vars ++ [] → k.lits ≡ take at b.clause.lits ++ ([] ++ drop (at + 1) b.clause.lits) → r.clause ≡ k → r.steps ≡ b.steps ++ record { clause = k; rule = move.Omit at } ∷ [] → IsExtended c c later b r (with_new (clause_at c b.clause) at [] [])
omitted-extended c s later b r at l k h e never vars lits p q =
    let x = extends-itself s in
    let stands : slice_get (clause_at c b.clause).literals at ≡ Some (literal_at c l) = get-map (literal_at c) b.clause.lits at l e in
    reached-extended c c later b r (with_new (clause_at c b.clause) at [] [])
    (reached-step x later b b r (clause_at c b.clause) (with_new (clause_at c b.clause) at [] []) k (move.Omit at) (reached-itself c later b h) p q
    (placed-of x b.clause k at [] [] vars lits h.typed.of_bank tt tt) tt
    (placed-reads x b.clause k at [] [] vars lits h.typed.of_bank tt)
    (typed-placed (clause_at c b.clause) at [] [] h.typed.typed tt)
    (omitted-follows later (clause_at c b.clause) at (literal_at c l) stands h.typed.typed never))
    (normal-placed (clause_at c b.clause).literals at [] h.normal tt)

normals-normal : (ls : List Literal) → AreWell ls → AreNormal (map normal_literal ls)
normals-normal [] w = tt
normals-normal (l ∷ ls) w = (normal-twice l.left w.0, normal-twice l.right w.1, normals-normal ls w.2)

-- a literal becomes others, and these their normal forms
pub taken-extended : {c d : Contents} → Extends c d → (b m r : Branch) (at : ℕ) (fresh : List ℕ) (new normals : List Lit) (k n : Clause) (first : Move) → IsBranch c b → AreTypesOf c fresh → AreLiteralsOf c new →
    AreTyped (map (type_at c) b.clause.vars ++ map (type_at c) fresh) (map (literal_at c) new) →
    AreLiterals d normals (map normal_literal (map (literal_at c) new)) →
    k.vars ≡ b.clause.vars ++ fresh → k.lits ≡ take at b.clause.lits ++ (new ++ drop (at + 1) b.clause.lits) →
    n.vars ≡ b.clause.vars ++ fresh → n.lits ≡ take at b.clause.lits ++ (normals ++ drop (at + 1) b.clause.lits) →
    m.clause ≡ k → m.steps ≡ b.steps ++ record { clause = k; rule = first } ∷ [] → r.clause ≡ n → r.steps ≡ m.steps ++ record { clause = n; rule = move.Convert } ∷ [] → IsMoveOf c first →
    (later : List Choice) → Descends later (clause_at c b.clause) (record { clause = with_new (clause_at c b.clause) at (map (type_at c) fresh) (map (literal_at c) new); rule = move_rule c first }) →
    IsExtended c d later b r (with_new (clause_at c b.clause) at (map (type_at c) fresh) (map normal_literal (map (literal_at c) new)))
taken-extended {c} {d} e b m r at fresh new normals k n first h types literals typed normal kvars klits nvars nlits mp mq rp rq terms later follows =
    let s = old_bank e in
    let x = extends-itself s in
    let parent = clause_at c b.clause in
    let vs = map (type_at c) fresh in
    let ls = map (literal_at c) new in
    let well = literals-well c s new literals in
    let one = reached-step x later b b m parent (with_new parent at vs ls) k first (reached-itself c later b h) mp mq
    (placed-of x b.clause k at fresh new kvars klits h.typed.of_bank types literals) terms
    (placed-reads x b.clause k at fresh new kvars klits h.typed.of_bank types)
    (typed-placed parent at vs ls h.typed.typed typed) follows in
    let two = reached-step e later b m r (with_new parent at vs ls) (with_new parent at vs (map normal_literal ls)) n move.Convert one rp rq
    (placed-of e b.clause n at fresh normals nvars nlits h.typed.of_bank types normal.literals_of) tt
    (placed-reads e b.clause n at fresh normals nvars nlits h.typed.of_bank types ∙ ap (with_new parent at vs) normal.reads)
    (typed-placed parent at vs (map normal_literal ls) h.typed.typed (normals-typed (parent.variables ++ vs) ls well typed))
    (converted-follows later parent at vs ls h.typed.typed typed well) in
    reached-extended c d later b r (with_new parent at vs (map normal_literal ls)) two (normal-placed parent.literals at (map normal_literal ls) h.normal (normals-normal ls well))

-- the item at an index
pub index-is : {X : Type 0} (xs ys : List X) (i : ℕ) (x y : X) → ys ≡ xs → slice_get xs i ≡ Some x → y ≡ slice_index_or ys i y → y ≡ x
index-is [] ys i x y e f g = absurd (cc)
index-is (z ∷ xs) ys zero x y e f g = let h : z ≡ x = cc in rw e at g ∙ h
index-is (z ∷ xs) ys (suc i) x y e f g = index-is xs xs i x y refl f (rw e at g)
