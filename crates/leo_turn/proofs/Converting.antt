-- The normal form of a clause, as a line of the journal.
use Rattle.std.proofs.Common.{ℕ, ◌≡◌, ◌∙◌, ◌<◌, List, [], ◌∷◌, ◌++◌, length, map, slice_get, Some, refl, sym, ap, subst}
use Rattle.std.proofs.lemmas.List.{map-append}
use Rattle.leo_terms.specs.Tree.{Tree}
use Rattle.leo_terms.specs.Contents.{Contents, Extends}
use Rattle.leo_terms.proofs.CallerLemmas.{old_bank}
use Rattle.leo_clause.specs.declared.clause.Clause.{Clause}
use Rattle.leo_clause.specs.declared.clause.Lit.{Lit}
use Rattle.leo_clause.specs.declared.record.Rule.TheVariants as record_of
use Rattle.leo_clause.specs.declared.record.StepRecord.{StepRecord}
use Rattle.leo_clause.specs.Trees.{Literal, ClauseTree, clause_at, literal_at}
use Rattle.leo_clause.specs.Typed.{IsClauseOf, IsTyped}
use Rattle.leo_kernel.specs.Acceptance.{Accepts}
use Rattle.leo_kernel.specs.Conclusions.{AreConverted}
use Rattle.leo_kernel.specs.Steps.{Line, convert, clause_in, clause_of, line_at}
use Rattle.leo_kernel.specs.Records.{IsStepOf}
use Rattle.leo_kernel.proofs.Growing.{types-grow, types-kept}
use Rattle.leo_clausify.specs.Literals.{AreLiterals}
use Rattle.leo_clausify.specs.Origins.{Origin, IsLineFrom}
use Rattle.leo_clausify.specs.Splitting.{AreNormal, normal_literal}
use Rattle.leo_clausify.proofs.Banks.{literals-well}
use Rattle.leo_clausify.proofs.Following.{AreWell, normals-typed}
use Rattle.leo_clausify.proofs.Reducts.{normal-twice}
use Rattle.leo_turn.specs.declared.search.Search.{Search}
use Rattle.leo_turn.specs.Changing.{IsClauseIn, IsConverted, with_lines}
use Rattle.leo_turn.specs.Intakes.{normal_clause}
use Rattle.leo_turn.specs.Origins.{IsOriginOf}
use Rattle.leo_turn.specs.Searches.{IsSearch, hypotheses_of, lines_of}
use Rattle.leo_turn.proofs.Lists.{get-map, get-within}
use Rattle.leo_turn.proofs.Origins.{all-from, from-next, line-at, normal-from}
use Rattle.leo_turn.proofs.Valid.{accepted-added, hypotheses-same, lines-same, search-grow, search-lines, steps-added}

pub clause-made : {c d : Contents} → Extends c d → (k : Clause) (vars : List ℕ) (lits source : List Lit) → IsClauseOf c k → vars ≡ k.vars → source ≡ k.lits → AreLiterals d lits (map normal_literal (map (literal_at c) source)) → IsClauseIn d (record { vars = vars; lits = lits }) (normal_clause (clause_at c k))
clause-made {c} {d} e k vars lits source h v s made =
    let m : AreLiterals d lits (map normal_literal (map (literal_at c) k.lits)) = subst (λ (ls : List Lit). AreLiterals d lits (map normal_literal (map (literal_at c) ls))) s made in
    record {
      of_bank = record { types_of = rw v (types-grow e k.vars h.types_of); literals_of = m.literals_of };
      reads = rw (v, types-kept e k.vars h.types_of, m.reads) refl;
    }

converted-normals : (ls : List Literal) → AreWell ls → AreConverted ls (map normal_literal ls)
converted-normals [] w = tt
converted-normals (l ∷ ls) w = (record { polarity = refl; left_form = normal-twice l.left w.0; right_form = normal-twice l.right w.1 }, converted-normals ls w.2)

are-normal : (ls : List Literal) → AreWell ls → AreNormal (map normal_literal ls)
are-normal [] w = tt
are-normal (l ∷ ls) w = (normal-twice l.left w.0, normal-twice l.right w.1, are-normal ls w.2)

converted : (hypotheses : List Tree) (lines : List Line) (p : ℕ) (t : ClauseTree) → p < length lines → clause_of lines p ≡ t → IsTyped t → AreWell t.literals → Accepts hypotheses lines (record { clause = normal_clause t; rule = convert p })
converted hypotheses lines p t within is typed well = record {
  parents = within;
  literals = tt;
  place = tt;
  types = record { clause_typed = normals-typed t.variables t.literals well typed; rule_typed = tt };
  symbols = tt;
  shape = rw is (refl, converted-normals t.literals well);
}

pub line-converted : {b c : Contents} → Extends b c → (s : Search) (line : ℕ) (r : StepRecord) (k : Clause) → IsSearch b s → slice_get s.lines line ≡ Some r → IsClauseIn c k (normal_clause (clause_at b r.clause)) → IsConverted b c s (with_lines s (s.lines ++ record { clause = k; rule = record_of.Convert line } ∷ [])) line k
line-converted {b} {c} e s line r k h stands made =
    let get : slice_get (lines_of b s) line ≡ Some (line_at b r) = get-map (line_at b) s.lines line r stands in
    let within : line < length (lines_of b s) = get-within (lines_of b s) line (line_at b r) get in
    let of_bank : IsClauseOf b r.clause = (h.steps line r stands).clause_of in
    let typed : IsTyped (clause_at b r.clause) = (h.accepted line (line_at b r) get).types.clause_typed in
    let well : AreWell (map (literal_at b) r.clause.lits) = literals-well b (old_bank e) r.clause.lits of_bank.literals_of in
    let is : clause_of (lines_of b s) line ≡ clause_at b r.clause = ap clause_in get in
    let new : StepRecord = record { clause = k; rule = record_of.Convert line } in
    let step : IsStepOf c new = record { clause_of = made.of_bank; terms_of = tt } in
    let later : IsSearch c s = search-grow e s h in
    let accepted : Accepts (hypotheses_of c s) (lines_of c s) (record { clause = normal_clause (clause_at b r.clause); rule = convert line }) = rw (hypotheses-same e s h, lines-same e s h) (converted (hypotheses_of b s) (lines_of b s) line (clause_at b r.clause) within is typed well) in
    let there : slice_get (lines_of c s) line ≡ Some (line_at b r) = rw (lines-same e s h) get in
    let origin : (o : Origin) → IsOriginOf (hypotheses_of c s) (lines_of c s) o → IsLineFrom o (record { clause = normal_clause (clause_at b r.clause); rule = convert line }) = λ o g. (normal-from o g.truth (clause_at b r.clause) (line-at o (lines_of c s) line (line_at b r) (all-from (lines_of c s) later.origin g) there).0, tt) in
    let more : map (line_at c) (s.lines ++ new ∷ []) ≡ lines_of c s ++ record { clause = normal_clause (clause_at b r.clause); rule = convert line } ∷ [] = map-append (line_at c) s.lines (new ∷ []) ∙ rw made.reads refl in
    record {
      search = search-lines c s (s.lines ++ new ∷ []) later (record { more = new ∷ []; is = refl }) (steps-added c s.lines new later.steps step) (rw more (accepted-added (hypotheses_of c s) (lines_of c s) (record { clause = normal_clause (clause_at b r.clause); rule = convert line }) later.accepted accepted)) (rw more (from-next (hypotheses_of c s) (lines_of c s) (record { clause = normal_clause (clause_at b r.clause); rule = convert line }) later.origin origin));
      typed = record { of_bank = made.of_bank; typed = subst IsTyped (sym made.reads) (normals-typed (clause_at b r.clause).variables (map (literal_at b) r.clause.lits) well typed) };
      reads = made.reads ∙ ap normal_clause (sym is);
      normal = subst (λ (t : ClauseTree). AreNormal t.literals) (sym made.reads) (are-normal (map (literal_at b) r.clause.lits) well);
      record_of = new;
      new_is = refl;
      clause = refl;
      plain = refl;
    }
