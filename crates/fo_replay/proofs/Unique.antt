-- A step gives one clause at most.
use Rattle.std.proofs.Common.{ℕ, ◌≡◌, Bool, true, false, Option, Some, List, [], ◌∷◌, ◌++◌, length, map, sym, ap, ◌∙◌, subst}
use Rattle.std.specs.Prelude.{slice_get, slice_set, remove, IsTrue, ◌↔◌}
use Rattle.fo_terms.specs.Terms.{Term, Terms}
use Rattle.fo_terms.specs.Prefix.{prefix_of_all}
use Rattle.fo_text.specs.declared.problem.FoSym.{FoSym}
use Rattle.fo_text.specs.declared.problem.FoLit.{FoLit}
use Rattle.fo_text.specs.declared.problem.FoClause.{FoClause}
use Rattle.fo_text.specs.declared.answer.FoStep.{FoStep}
use Rattle.fo_text.specs.declared.answer.FoStep.TheVariants.{Inst, Para, Factor, Drop}
use Rattle.fo_text.specs.declared.answer.FoWord.{FoWord}
use Rattle.fo_text.specs.declared.answer.FoSide.{FoSide}
use Rattle.fo_replay.specs.Replays.{near, far, with_near, differ, replaced, at_path, moved, applied_literal, images, node_as_word, IsLiteralAt, IsDrop, IsFactor, IsPara, IsInstance, Gives, IsLight, Replays}
use Rattle.fo_replay.specs.Instances.{numbers_as_words}
use Rattle.fo_replay.proofs.Instancing.{split_there, split_same, numbers_same, words_terms}

some_same : {X : Type 0} (o : Option X) (x y : X) → o ≡ Some x → o ≡ Some y → x ≡ y
some_same o x y a b = let e : Some x ≡ Some y = sym a ∙ b in cc

same_clause : (clauses : List FoClause) (n i j : ℕ) (c d : FoClause) (l m : FoLit) → IsLiteralAt clauses n i c l → IsLiteralAt clauses n j d m → c ≡ d
same_clause clauses n i j c d l m h k = some_same (slice_get clauses n) c d h.clause_at k.clause_at

same_literal : (clauses : List FoClause) (n i : ℕ) (c d : FoClause) (l m : FoLit) → IsLiteralAt clauses n i c l → IsLiteralAt clauses n i d m → l ≡ m
same_literal clauses n i c d l m h k = let e = same_clause clauses n i i c d l m h k in some_same (slice_get d.lits i) l m (subst (λ u. slice_get u.lits i ≡ Some l) e h.literal_at) k.literal_at

abbrev dropped : ℕ → FoClause → FoClause
dropped i c = record { vars = c.vars; lits = remove c.lits i }

drop_one : (clauses : List FoClause) (parent i : ℕ) (c d : FoClause) → IsDrop clauses parent i c → IsDrop clauses parent i d → c ≡ d
drop_one clauses parent i c d p q = p.is ∙ ap (dropped i) (same_clause clauses parent i i p.clause q.clause p.literal q.literal p.at q.at) ∙ sym q.is

abbrev factored : ℕ → FoSide → FoClause → FoLit → FoLit → FoClause
factored j side c one other = record { vars = c.vars; lits = remove c.lits j ++ differ one.left (near side other) ∷ differ one.right (far side other) ∷ [] }

factor_one : (syms : List FoSym) (clauses : List FoClause) (parent i j : ℕ) (side : FoSide) (c d : FoClause) → IsFactor syms clauses parent i j side c → IsFactor syms clauses parent i j side d → c ≡ d
factor_one syms clauses parent i j side c d p q =
    p.is ∙ ap (λ u. factored j side u p.one p.other) (same_clause clauses parent i i p.clause q.clause p.one q.one p.one_at q.one_at)
    ∙ ap (λ u. factored j side q.clause u p.other) (same_literal clauses parent i p.clause q.clause p.one q.one p.one_at q.one_at)
    ∙ ap (λ u. factored j side q.clause q.one u) (same_literal clauses parent j p.clause q.clause p.other q.other p.other_at q.other_at) ∙ sym q.is

abbrev para_of : ℕ → FoSide → ℕ → FoSide → List ℕ → FoClause → FoClause → FoLit → FoLit → Term → FoClause
para_of i side j place_side path giver receiver equation literal term = record {
  vars = giver.vars ++ receiver.vars;
  lits = remove giver.lits i ++ (slice_set (moved (length giver.vars) receiver) j (with_near place_side (replaced (near place_side literal) path (far side equation)) literal) ++ differ (near side equation) term ∷ []);
}

para_one : (syms : List FoSym) (clauses : List FoClause) (from i : ℕ) (side : FoSide) (target j : ℕ) (place_side : FoSide) (path : List ℕ) (c d : FoClause) → IsPara syms clauses from i side target j place_side path c → IsPara syms clauses from i side target j place_side path d → c ≡ d
para_one syms clauses from i side target j place_side path c d p q =
    let g : p.giver ≡ q.giver = same_clause clauses from i i p.giver q.giver p.equation q.equation p.equation_at q.equation_at in
    let e : p.equation ≡ q.equation = same_literal clauses from i p.giver q.giver p.equation q.equation p.equation_at q.equation_at in
    let r : p.receiver ≡ q.receiver = some_same (slice_get clauses target) p.receiver q.receiver p.receiver_at q.receiver_at in
    let l : p.literal ≡ q.literal = some_same (slice_get (moved (length q.giver.vars) q.receiver) j) p.literal q.literal (subst (λ u. slice_get (moved (length q.giver.vars) u) j ≡ Some p.literal) r (subst (λ u. slice_get (moved (length u.vars) p.receiver) j ≡ Some p.literal) g p.literal_at)) q.literal_at in
    let t : p.term ≡ q.term = some_same (at_path (near place_side q.literal) path) p.term q.term (subst (λ u. at_path (near place_side u) path ≡ Some p.term) l p.term_at) q.term_at in
    p.is ∙ ap (λ u. para_of i side j place_side path u p.receiver p.equation p.literal p.term) g ∙ ap (λ u. para_of i side j place_side path q.giver u p.equation p.literal p.term) r ∙ ap (λ u. para_of i side j place_side path q.giver q.receiver u p.literal p.term) e
    ∙ ap (λ u. para_of i side j place_side path q.giver q.receiver q.equation u p.term) l ∙ ap (λ u. para_of i side j place_side path q.giver q.receiver q.equation q.literal u) t ∙ sym q.is

abbrev instance_of : List ℕ → Terms → FoClause → FoClause
instance_of vars terms clause = record { vars = vars; lits = map (applied_literal (images terms)) clause.lits }

instance_one : (sorts : ℕ) (syms : List FoSym) (clauses : List FoClause) (parent : ℕ) (words : List FoWord) (c d : FoClause) → IsInstance sorts syms clauses parent words c → IsInstance sorts syms clauses parent words d → c ≡ d
instance_one sorts syms clauses parent words c d p q =
    let k : p.clause ≡ q.clause = some_same (slice_get clauses parent) p.clause q.clause p.clause_at q.clause_at in
    let e = split_same words (numbers_as_words p.vars) (map node_as_word (prefix_of_all p.terms)) (numbers_as_words q.vars) (map node_as_word (prefix_of_all q.terms)) (split_there words p.vars p.terms p.words_are) (split_there words q.vars q.terms q.words_are) in
    let v : p.vars ≡ q.vars = numbers_same p.vars q.vars e.0 in
    let t : p.terms ≡ q.terms = words_terms p.vars q.vars syms p.terms q.terms p.clause.vars q.clause.vars p.typed q.typed e.1 in
    p.is ∙ ap (λ u. instance_of u p.terms p.clause) v ∙ ap (λ u. instance_of q.vars u p.clause) t ∙ ap (λ u. instance_of q.vars q.terms u) k ∙ sym q.is

gives_one : (sorts : ℕ) (syms : List FoSym) (clauses : List FoClause) (step : FoStep) (c d : FoClause) → Gives sorts syms clauses step c → Gives sorts syms clauses step d → c ≡ d
gives_one sorts syms clauses (Inst parent words) c d p q = instance_one sorts syms clauses parent words c d p q
gives_one sorts syms clauses (Para from lit side target place place_side path) c d p q = para_one syms clauses from lit side target place place_side path c d p q
gives_one sorts syms clauses (Factor parent first second side) c d p q = factor_one syms clauses parent first second side c d p q
gives_one sorts syms clauses (Drop parent lit) c d p q = drop_one clauses parent lit c d p q

pub conclusions_same : (sorts : ℕ) (syms : List FoSym) (clauses : List FoClause) (step : FoStep) (c d : FoClause) → Replays sorts syms clauses step c → Replays sorts syms clauses step d → c ≡ d
conclusions_same sorts syms clauses step c d p q = gives_one sorts syms clauses step c d p.gives q.gives

-- a conclusion past the limits is the only one
pub too_heavy : (sorts : ℕ) (syms : List FoSym) (clauses : List FoClause) (step : FoStep) (c : FoClause) (light : Bool) → Gives sorts syms clauses step c → IsTrue light ↔ IsLight c → light ≡ false → (d : FoClause) → Replays sorts syms clauses step d → ⊥
too_heavy sorts syms clauses step c light g h e d r =
    let l : IsLight c = subst IsLight (sym (gives_one sorts syms clauses step c d g r.gives)) r.light in
    let t : light ≡ true = h.1 l in
    let u : true ≡ false = sym t ∙ e in
    cc
