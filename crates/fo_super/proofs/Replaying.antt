-- The lines of a member replay one after the other.
use Rattle.std.proofs.Common.{ℕ, zero, suc, ◌≡◌, ◌∙◌, ◌+◌, ◌-◌, ◌<◌, false, List, [], ◌∷◌, ◌++◌, length, map, slice_get, slice_set, Some, length-append, refl, sym, ap, subst, arith}
use Rattle.std.specs.Prelude.{remove}
use Rattle.std.proofs.Math.ListN.{length-set}
use Rattle.fo_terms.specs.Terms.{Term, Terms}
use Rattle.fo_text.specs.declared.problem.FoSym.{FoSym}
use Rattle.fo_text.specs.declared.problem.FoLit.{FoLit}
use Rattle.fo_text.specs.declared.problem.FoClause.{FoClause}
use Rattle.fo_text.specs.declared.answer.FoSide.{FoSide}
use Rattle.fo_text.specs.declared.answer.FoSide.TheVariants.{Left, Right}
use Rattle.fo_text.specs.declared.answer.FoStep.{FoStep}
use Rattle.fo_text.specs.declared.answer.FoStep.TheVariants.{Inst, Para, Factor, Drop}
use Rattle.fo_replay.specs.Replays.{differ, near, far, with_near, replaced, moved, instance_words, IsLiteralAt, IsFactor, IsPara, Replays}
use Rattle.fo_super.specs.Laws.{AreSorted}
use Rattle.fo_super.specs.Members.{Member, resolve, factor, superpose}
use Rattle.fo_super.specs.Conclusions.{IsDue, IsResolved, IsResolution, IsFactoring, IsSuperposition, constraint_place, lines, turn}
use Rattle.fo_super.specs.Replaying.{NamesStandOn, ReplayInTurn, StandsOn, no_steps, one_step}
use Rattle.fo_super.specs.Viewing.{NamesSorted}
use Rattle.fo_super.proofs.Answering.{get-within}
use Rattle.fo_super.proofs.Resolutions.{instance-replays, conclusion-replays, some-same}
use Rattle.fo_super.proofs.Sorted.{factor-sorted, get-back, para-sorted}

-- places in lists
length-remove : (ls : List FoLit) (j : ℕ) → j < length ls → length (remove ls j) ≡ length ls - 1
length-remove [] j h = absurd (let g : ⊥ = omega arith in g)
length-remove (l ∷ ls) zero h = omega arith
length-remove (l ∷ ls) (suc j) h = let r = length-remove ls j (omega arith) in omega arith

length-moved : (f : FoLit → FoLit) (ls : List FoLit) → length (map f ls) ≡ length ls
length-moved f [] = refl
length-moved f (l ∷ ls) = ap suc (length-moved f ls)

get-last : (all : List FoClause) (c : FoClause) (n : ℕ) → n ≡ length all → slice_get (all ++ c ∷ []) n ≡ Some c
get-last all c n e = get-back all (c ∷ []) 0 n c (omega arith) refl

-- the literal that says that the unified terms are one
factor-literal : (ls : List FoLit) (j : ℕ) (side : FoSide) (l k : FoLit) → j < length ls → l.pos ≡ false → k.pos ≡ false → (x : FoLit) → slice_get (remove ls j ++ l ∷ k ∷ []) (constraint_place side (length ls)) ≡ Some x → x.pos ≡ false
factor-literal ls j Left l k h e f x g =
    let r = length-remove ls j h in
    let at : slice_get (remove ls j ++ l ∷ k ∷ []) (length ls - 1) ≡ Some l = get-back (remove ls j) (l ∷ k ∷ []) 0 (length ls - 1) l (omega arith) refl in
    ap (λ (y : FoLit). y.pos) (some-same (slice_get (remove ls j ++ l ∷ k ∷ []) (length ls - 1)) x l g at) ∙ e
factor-literal ls j Right l k h e f x g =
    let r = length-remove ls j h in
    let at : slice_get (remove ls j ++ l ∷ k ∷ []) (length ls) ≡ Some k = get-back (remove ls j) (l ∷ k ∷ []) 1 (length ls) k (omega arith) refl in
    ap (λ (y : FoLit). y.pos) (some-same (slice_get (remove ls j ++ l ∷ k ∷ []) (length ls)) x k g at) ∙ f

para-at : (ls ks : List FoLit) (i n : ℕ) (l : FoLit) → i < length ls → n ≡ length ls - 1 + length ks → slice_get (remove ls i ++ (ks ++ l ∷ [])) n ≡ Some l
para-at ls ks i n l h e =
    let r = length-remove ls i h in
    get-back (remove ls i) (ks ++ l ∷ []) (length ks) n l (omega arith) (get-back ks (l ∷ []) 0 (length ks) l (omega arith) refl)

-- the last literal that paramodulation makes
last-negative : (syms : List FoSym) (clauses : List FoClause) (c i : ℕ) (side : FoSide) (d j : ℕ) (place_side : FoSide) (path : List ℕ) (made : FoClause) (p : IsPara syms clauses c i side d j place_side path made) (x : FoClause) (l : FoLit) (n m : ℕ) →
    x ≡ made → n ≡ length p.giver.lits → m ≡ length p.receiver.lits → slice_get x.lits (n - 1 + m) ≡ Some l → l.pos ≡ false
last-negative syms clauses c i side d j place_side path made p x l n m e f g at =
    let ks : List FoLit = slice_set (moved (length p.giver.vars) p.receiver) j (with_near place_side (replaced (near place_side p.literal) path (far side p.equation)) p.literal) in
    let lits : x.lits ≡ remove p.giver.lits i ++ (ks ++ differ (near side p.equation) p.term ∷ []) = ap (λ (y : FoClause). y.lits) (e ∙ p.is) in
    let count : length ks ≡ m = length-set (moved (length p.giver.vars) p.receiver) j _ ∙ length-moved _ p.receiver.lits ∙ sym g in
    let there = para-at p.giver.lits ks i (n - 1 + m) (differ (near side p.equation) p.term) (get-within p.giver.lits i p.equation p.equation_at.literal_at) (omega arith) in
    let same = some-same (slice_get (remove p.giver.lits i ++ (ks ++ differ (near side p.equation) p.term ∷ [])) (n - 1 + m)) l (differ (near side p.equation) p.term) (subst (λ (y : List FoLit). slice_get y (n - 1 + m) ≡ Some l) lits at) there in
    ap (λ (y : FoLit). y.pos) same

module _ (sorts : ℕ) (syms : List FoSym) where
  -- an instance and what is left of it, on the next two lines
  resolved-lines : (clauses all : List FoClause) (c k n : ℕ) (clause : FoClause) (literal : FoLit) (vars : List ℕ) (terms : Terms) (instance conclusion : FoClause) → AreSorted syms clauses c → IsResolved sorts syms clauses c k vars terms instance conclusion →
      IsLiteralAt clauses c k clause literal → literal.pos ≡ false → slice_get all n ≡ Some clause → (m : ℕ) → m ≡ length all →
      ReplayInTurn sorts syms all (Inst n (instance_words vars terms) ∷ Drop m k ∷ []) (instance ∷ conclusion ∷ [])
  resolved-lines clauses all c k n clause literal vars terms instance conclusion sorted h at negative stands m e =
      one_step (instance-replays sorts syms clauses all c k n clause vars terms instance conclusion h at.clause_at stands)
      (one_step (conclusion-replays sorts syms clauses (all ++ instance ∷ []) c k m clause literal vars terms instance conclusion sorted h at negative (get-last all instance m e)) no_steps)

  module _ (clauses all : List FoClause) (line literals : ℕ → ℕ) (vars : List ℕ) (terms : Terms) (instance conclusion : FoClause) where
    resolution-lines : (c i : ℕ) → AreSorted syms clauses c → StandsOn line literals clauses all c → IsResolution sorts syms clauses c i vars terms instance conclusion →
        ReplayInTurn sorts syms all (lines line literals (length all) (resolve c i) vars terms) (instance ∷ conclusion ∷ [])
    resolution-lines c i sorted on h =
        resolved-lines clauses all c i (line c) h.clause h.literal vars terms instance conclusion sorted h.resolved h.at h.negative (on h.clause h.at.clause_at).0 (length all) refl

    -- a clause that a line makes, an instance of it, and what is left of that
    made-lines : (step : FoStep) (made : FoClause) (k : ℕ) → Replays sorts syms all step made → AreSorted syms (made ∷ []) 0 → (h : IsResolved sorts syms (made ∷ []) 0 k vars terms instance conclusion) → h.literal.pos ≡ false →
        ReplayInTurn sorts syms all (step ∷ Inst (length all) (instance_words vars terms) ∷ Drop (length all + 1) k ∷ []) (made ∷ instance ∷ conclusion ∷ [])
    made-lines step made k r sorted h negative =
        let same : made ≡ h.clause = (let e : Some made ≡ Some h.clause = h.at.clause_at in cc) in
        let stands : slice_get (all ++ made ∷ []) (length all) ≡ Some h.clause = get-last all made (length all) refl ∙ ap (λ (x : FoClause). Some x) same in
        let l : length (all ++ made ∷ []) ≡ length all + 1 = length-append all (made ∷ []) in
        one_step r (resolved-lines (made ∷ []) (all ++ made ∷ []) 0 k (length all) h.clause h.literal vars terms instance conclusion sorted h h.at negative stands (length all + 1) (sym l))

    factor-there : (c i j : ℕ) (side : FoSide) (made : FoClause) → StandsOn line literals clauses all c → IsFactor syms clauses c i j side made → IsFactor syms all (line c) i j side made
    factor-there c i j side made on h = record {
      clause = h.clause;
      one = h.one;
      other = h.other;
      one_at = record { clause_at = (on h.clause h.one_at.clause_at).0; literal_at = h.one_at.literal_at };
      other_at = record { clause_at = (on h.clause h.one_at.clause_at).0; literal_at = h.other_at.literal_at };
      different = h.different;
      polarity = h.polarity;
      sort = h.sort;
      is = h.is;
    }

    para-there : (c i : ℕ) (side : FoSide) (d j : ℕ) (place_side : FoSide) (path : List ℕ) (made : FoClause) → StandsOn line literals clauses all c → StandsOn line literals clauses all d → IsPara syms clauses c i side d j place_side path made → IsPara syms all (line c) i side (line d) j place_side path made
    para-there c i side d j place_side path made on into h = record {
      giver = h.giver;
      receiver = h.receiver;
      equation = h.equation;
      literal = h.literal;
      term = h.term;
      equation_at = record { clause_at = (on h.giver h.equation_at.clause_at).0; literal_at = h.equation_at.literal_at };
      receiver_at = (into h.receiver h.receiver_at).0;
      literal_at = h.literal_at;
      positive = h.positive;
      term_at = h.term_at;
      sort = h.sort;
      is = h.is;
    }

    factoring-lines : (c i : ℕ) (side : FoSide) (j : ℕ) (other_side : FoSide) → AreSorted syms clauses c → StandsOn line literals clauses all c → (h : IsFactoring sorts syms clauses c i side j other_side vars terms instance conclusion) →
        ReplayInTurn sorts syms all (lines line literals (length all) (factor c i side j other_side) vars terms) (h.factored ∷ instance ∷ conclusion ∷ [])
    factoring-lines c i side j other_side sorted on h =
        let f : IsFactor syms clauses c i j (turn side other_side) h.factored = h.factor.gives in
        let same : f.clause ≡ h.clause = some-same (slice_get clauses c) f.clause h.clause f.one_at.clause_at h.at.clause_at in
        let made : h.factored ≡ h.resolved.clause = (let e : Some h.factored ≡ Some h.resolved.clause = h.resolved.at.clause_at in cc) in
        let lits : h.resolved.clause.lits ≡ remove f.clause.lits j ++ differ f.one.left (near (turn side other_side) f.other) ∷ differ f.one.right (far (turn side other_side) f.other) ∷ [] = ap (λ (x : FoClause). x.lits) (sym made ∙ f.is) in
        let stands : slice_get (remove f.clause.lits j ++ differ f.one.left (near (turn side other_side) f.other) ∷ differ f.one.right (far (turn side other_side) f.other) ∷ []) (constraint_place side (length f.clause.lits)) ≡ Some h.resolved.literal
        = subst (λ (x : List FoLit). slice_get x (constraint_place side (length f.clause.lits)) ≡ Some h.resolved.literal) lits (subst (λ (x : FoClause). slice_get h.resolved.clause.lits (constraint_place side (length x.lits)) ≡ Some h.resolved.literal) (sym same) h.resolved.at.literal_at) in
        let negative = factor-literal f.clause.lits j side _ _ (get-within f.clause.lits j f.other f.other_at.literal_at) refl refl h.resolved.literal stands in
        let r : Replays sorts syms all (Factor (line c) i j (turn side other_side)) h.factored = record { gives = factor-there c i j (turn side other_side) h.factored on f; light = h.factor.light } in
        subst (λ n. ReplayInTurn sorts syms all (Factor (line c) i j (turn side other_side) ∷ Inst (length all) (instance_words vars terms) ∷ Drop (length all + 1) (constraint_place side n) ∷ []) (h.factored ∷ instance ∷ conclusion ∷ []))
        (sym (on h.clause h.at.clause_at).1)
        (made-lines (Factor (line c) i j (turn side other_side)) h.factored (constraint_place side (length h.clause.lits)) r (factor-sorted syms clauses c i j (turn side other_side) h.factored sorted f) h.resolved negative)

    superposition-lines : (c i : ℕ) (side : FoSide) (d j : ℕ) (place_side : FoSide) (path : List ℕ) → AreSorted syms clauses c → AreSorted syms clauses d → StandsOn line literals clauses all c → StandsOn line literals clauses all d →
        (h : IsSuperposition sorts syms clauses c i side d j place_side path vars terms instance conclusion) → ReplayInTurn sorts syms all (lines line literals (length all) (superpose c i side d j place_side path) vars terms) (h.replaced ∷ instance ∷ conclusion ∷ [])
    superposition-lines c i side d j place_side path giving receiving on into h =
        let p : IsPara syms clauses c i side d j place_side path h.replaced = h.para.gives in
        let g : p.giver ≡ h.giver = some-same (slice_get clauses c) p.giver h.giver p.equation_at.clause_at h.equation_at.clause_at in
        let e : p.receiver ≡ h.receiver = some-same (slice_get clauses d) p.receiver h.receiver p.receiver_at h.receiver_at in
        let made : h.replaced ≡ h.resolved.clause = (let x : Some h.replaced ≡ Some h.resolved.clause = h.resolved.at.clause_at in cc) in
        let negative = last-negative syms clauses c i side d j place_side path h.replaced p h.resolved.clause h.resolved.literal (length h.giver.lits) (length h.receiver.lits) (sym made) (ap (λ (x : FoClause). length x.lits) (sym g)) (ap (λ (x : FoClause). length x.lits) (sym e)) h.resolved.at.literal_at in
        let r : Replays sorts syms all (Para (line c) i side (line d) j place_side path) h.replaced = record { gives = para-there c i side d j place_side path h.replaced on into p; light = h.para.light } in
        subst (λ n. ReplayInTurn sorts syms all (Para (line c) i side (line d) j place_side path ∷ Inst (length all) (instance_words vars terms) ∷ Drop (length all + 1) (n - 1 + literals d) ∷ []) (h.replaced ∷ instance ∷ conclusion ∷ []))
        (sym (on h.giver h.equation_at.clause_at).1)
        (subst (λ n. ReplayInTurn sorts syms all (Para (line c) i side (line d) j place_side path ∷ Inst (length all) (instance_words vars terms) ∷ Drop (length all + 1) (length h.giver.lits - 1 + n) ∷ []) (h.replaced ∷ instance ∷ conclusion ∷ []))
        (sym (into h.receiver h.receiver_at).1)
        (made-lines (Para (line c) i side (line d) j place_side path) h.replaced (length h.giver.lits - 1 + length h.receiver.lits) r (para-sorted syms clauses c i side d j place_side path h.replaced giving receiving p) h.resolved negative))

pub members-replay : (sorts : ℕ) (syms : List FoSym) (clauses all : List FoClause) (line literals : ℕ → ℕ) (m : Member) (vars : List ℕ) (terms : Terms) (instance conclusion : FoClause) → NamesSorted syms clauses m → NamesStandOn line literals clauses all m →
    IsDue sorts syms clauses m vars terms instance conclusion → (before : List FoClause) × ReplayInTurn sorts syms all (lines line literals (length all) m vars terms) (before ++ instance ∷ conclusion ∷ [])
members-replay sorts syms clauses all line literals (resolve c i) vars terms instance conclusion sorted on h = ([], resolution-lines sorts syms clauses all line literals vars terms instance conclusion c i sorted on h)
members-replay sorts syms clauses all line literals (factor c i s j r) vars terms instance conclusion sorted on h = (h.factored ∷ [], factoring-lines sorts syms clauses all line literals vars terms instance conclusion c i s j r sorted on h)
members-replay sorts syms clauses all line literals (superpose c i s d j r path) vars terms instance conclusion sorted on h = (h.replaced ∷ [], superposition-lines sorts syms clauses all line literals vars terms instance conclusion c i s d j r path sorted.0 sorted.1 on.0 on.1 h)
