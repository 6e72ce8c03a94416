-- Conclusions that there are not.
use Rattle.std.proofs.Common.{ℕ, ◌≡◌, true, Option, Some, None, List, [], ◌∷◌, ◌++◌, length, refl, sym, ap, ◌∙◌, subst}
use Rattle.std.specs.Prelude.{MatchOption, Result, Ok, Err, IfOk, slice_get, slice_set, remove}
use Rattle.fo_text.specs.declared.problem.FoSym.{FoSym}
use Rattle.fo_text.specs.declared.problem.FoLit.{FoLit}
use Rattle.fo_text.specs.declared.problem.FoClause.{FoClause}
use Rattle.fo_text.specs.declared.answer.FoSide.{FoSide}
use Rattle.fo_replay.specs.Replays.{moved, near, far, with_near, differ, replaced, IsLiteralAt, IsPara}
use Rattle.fo_replay.specs.Parts.{IsRewritten, IsFromInto}

some_same : {X : Type 0} (o : Option X) (x y : X) → o ≡ Some x → o ≡ Some y → x ≡ y
some_same o x y a b = let e : Some x ≡ Some y = sym a ∙ b in cc

pub no_rewriting : (syms : List FoSym) (giver : FoClause) (equation : FoLit) (i : ℕ) (side : FoSide) (receiver : FoClause) (j : ℕ) (place_side : FoSide) (path : List ℕ) (vars : List ℕ) (others : List FoLit) (literal : FoLit)
    → vars ≡ giver.vars ++ receiver.vars → others ≡ moved (length giver.vars) receiver → slice_get others j ≡ Some literal
    → ((x y : FoLit) → IsRewritten syms vars literal place_side path equation side x y → ⊥) → (c : FoClause) → IsFromInto syms giver equation i side receiver j place_side path c → ⊥
no_rewriting syms giver equation i side receiver j place_side path vars others literal v o at never c f =
    let same : f.literal ≡ literal = some_same (slice_get others j) f.literal literal (ap (λ u. slice_get u j) o ∙ f.literal_at) at in
    let one = subst (λ u. IsRewritten syms (giver.vars ++ receiver.vars) u place_side path equation side f.new f.last) same f.rewritten in
    never f.new f.last (subst (λ u. IsRewritten syms u literal place_side path equation side f.new f.last) (sym v) one)

para_of : (syms : List FoSym) (clauses : List FoClause) (from i : ℕ) (side : FoSide) (target j : ℕ) (place_side : FoSide) (path : List ℕ) (giver receiver : FoClause) (equation : FoLit) → IsLiteralAt clauses from i giver equation → slice_get clauses target ≡ Some receiver → equation.pos ≡ true
    → (c : FoClause) → IsFromInto syms giver equation i side receiver j place_side path c → IsPara syms clauses from i side target j place_side path c
para_of syms clauses from i side target j place_side path giver receiver equation at there pos c f = record {
  giver = giver;
  receiver = receiver;
  equation = equation;
  literal = f.literal;
  term = f.rewritten.term;
  equation_at = at;
  receiver_at = there;
  literal_at = f.literal_at;
  positive = pos;
  term_at = f.rewritten.term_at;
  sort = f.rewritten.sort;
  is = f.is ∙ ap (λ u. let k : FoClause = record { vars = giver.vars ++ receiver.vars; lits = remove giver.lits i ++ (slice_set (moved (length giver.vars) receiver) j u ++ f.last ∷ []) } in k) f.rewritten.new_is
      ∙ ap (λ u. let k : FoClause = record { vars = giver.vars ++ receiver.vars; lits = remove giver.lits i ++ (slice_set (moved (length giver.vars) receiver) j (with_near place_side (replaced (near place_side f.literal) path (far side equation)) f.literal) ++ u ∷ []) } in k) f.rewritten.last_is;
}

para_back : (syms : List FoSym) (clauses : List FoClause) (from i : ℕ) (side : FoSide) (target j : ℕ) (place_side : FoSide) (path : List ℕ) (giver receiver : FoClause) (equation : FoLit) → IsLiteralAt clauses from i giver equation → slice_get clauses target ≡ Some receiver
    → (c : FoClause) → IsPara syms clauses from i side target j place_side path c → IsFromInto syms giver equation i side receiver j place_side path c
para_back syms clauses from i side target j place_side path giver receiver equation at there c p =
    let g : p.giver ≡ giver = some_same (slice_get clauses from) p.giver giver p.equation_at.clause_at at.clause_at in
    let r : p.receiver ≡ receiver = some_same (slice_get clauses target) p.receiver receiver p.receiver_at there in
    let q : p.equation ≡ equation = some_same (slice_get giver.lits i) p.equation equation (subst (λ u. slice_get u.lits i ≡ Some p.equation) g p.equation_at.literal_at) at.literal_at in
    let own : IsFromInto syms p.giver p.equation i side p.receiver j place_side path c = record {
      literal = p.literal;
      new = with_near place_side (replaced (near place_side p.literal) path (far side p.equation)) p.literal;
      last = differ (near side p.equation) p.term;
      literal_at = p.literal_at;
      rewritten = record { term = p.term; term_at = p.term_at; sort = p.sort; new_is = refl; last_is = refl };
      is = p.is;
    } in
    subst (λ u. IsFromInto syms giver equation i side u j place_side path c) r (subst (λ u. IsFromInto syms giver u i side p.receiver j place_side path c) q (subst (λ u. IsFromInto syms u p.equation i side p.receiver j place_side path c) g own))

pub para_match : {E : Type 0} (syms : List FoSym) (clauses : List FoClause) (from i : ℕ) (side : FoSide) (target j : ℕ) (place_side : FoSide) (path : List ℕ) (giver receiver : FoClause) (equation : FoLit) (r : Result (Option FoClause) E)
    → IsLiteralAt clauses from i giver equation → slice_get clauses target ≡ Some receiver → equation.pos ≡ true
    → IfOk r (λ o. MatchOption o ((c : FoClause) → IsFromInto syms giver equation i side receiver j place_side path c → ⊥) (IsFromInto syms giver equation i side receiver j place_side path))
    → IfOk r (λ o. MatchOption o ((c : FoClause) → IsPara syms clauses from i side target j place_side path c → ⊥) (IsPara syms clauses from i side target j place_side path))
para_match syms clauses from i side target j place_side path giver receiver equation (Ok None) at there pos h = λ c p. h c (para_back syms clauses from i side target j place_side path giver receiver equation at there c p)
para_match syms clauses from i side target j place_side path giver receiver equation (Ok (Some c)) at there pos h = para_of syms clauses from i side target j place_side path giver receiver equation at there pos c h
para_match syms clauses from i side target j place_side path giver receiver equation (Err e) at there pos h = tt
