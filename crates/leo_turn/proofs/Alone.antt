-- What is inferred from one clause alone can be worked.
use Rattle.std.proofs.Common.{ℕ, zero, suc, ◌≡◌, ◌∙◌, ◌<◌, ◌≤◌, true, List, [], ◌∷◌, ◌++◌, length, map, slice_get, Some, refl, sym, ap, subst, arith}
use Rattle.leo_terms.specs.Contents.{Contents, IsBank, Extends, tree_at}
use Rattle.leo_terms.proofs.CallerLemmas.{extends-trans, old_bank, term-typed}
use Rattle.leo_clause.specs.declared.clause.Clause.{Clause}
use Rattle.leo_clause.specs.declared.clause.Lit.{Lit}
use Rattle.leo_clause.specs.Choices.{Choice, choice_at}
use Rattle.leo_clause.specs.Trees.{Literal, ClauseTree, clause_at, literal_at}
use Rattle.leo_clause.specs.Typed.{AreLiteralsOf}
use Rattle.leo_kernel.specs.Acceptance.{AreAcceptedAfter}
use Rattle.leo_kernel.specs.Records.{AreStepsOf}
use Rattle.leo_kernel.specs.Steps.{Line, line_at}
use Rattle.leo_kernel.proofs.Growing.{clause-kept}
use Rattle.leo_kernel.proofs.LinesGrowing.{lines-grow, lines-kept}
use Rattle.leo_clausify.specs.Choosing.{AreInOrder}
use Rattle.leo_clausify.specs.Leaves.{last_clause}
use Rattle.leo_clausify.specs.Origins.{Origin, IsClauseFrom, AreChoicesFrom, AreLinesFrom}
use Rattle.leo_clausify.proofs.Picks.{items-kept}
use Rattle.leo_conclude.specs.Leaving.{AreConstraints, AreNumbersOf}
use Rattle.leo_ext.specs.Joining.{AreUnaryIn}
use Rattle.leo_ext.specs.Laws.{AreNamed, AreWellTyped, UnaryChoicesAreFromClause, UnaryMembersAreAccepted, UnaryMembersAreFromClause, UnaryMembersHaveLines, UnaryPairsAreNegative}
use Rattle.leo_ext.specs.Listing.{AreDuesOf, member_at}
use Rattle.leo_ext.specs.Members.{Member}
use Rattle.leo_ext.specs.Unary.{FuncExts, done, other, equal_functions, different_functions}
use Rattle.leo_para.specs.declared.member.Due.{Due}
use Rattle.leo_turn.specs.declared.search.Search.{Search}
use Rattle.leo_turn.specs.Changing.{AreAnnounced, lines_before}
use Rattle.leo_turn.specs.Growth.{Grows}
use Rattle.leo_turn.specs.Searches.{IsSearch, choices_of, kept_of, lines_of}
use Rattle.leo_turn.specs.Turns.{Constrained, InfersAlone, Setting, Stock, WorksEach, of_member, setting_of, stock_of}
use Rattle.leo_turn.specs.Working.{IsDueAt, Makes, constrained_at, no_clause}
use Rattle.leo_turn.proofs.Lists.{get-map, length-map, map-agree, map-fused}
use Rattle.leo_turn.proofs.Origins.{all-from, choices-there, clause-from}
use Rattle.leo_turn.proofs.Places.{kept-line, kept-plain, kept-typed}
use Rattle.leo_turn.proofs.SameOrigins.{clause-to, lines-of, term-of, tests}
use Rattle.leo_turn.proofs.Splitting.{AreMore, chosen-more, more-none, more-trans}
use Rattle.leo_turn.proofs.Taken.{AreNewFrom}
use Rattle.leo_turn.proofs.Valid.{kept-same, lines-same, search-grow}
use Rattle.leo_turn.proofs.Worked.{known-choices, setting-same}

functions-more : (known p : ℕ) (k : ClauseTree) (i : ℕ) (choices later : List Choice) (ls : List Literal) (members : List Member) → FuncExts known p k i choices ls later members → AreMore known choices later
functions-more known p k i choices later ls members (done j cs) = more-none known choices
functions-more known p k i choices later ls members (other j cs lt l ms more a f) = functions-more known p k (suc i) choices later ms more f
functions-more known p k i choices later ls members (equal_functions j cs lt l ms more a b f) = functions-more known p k (suc i) choices later ms more f
functions-more known p k i choices later ls members (different_functions j cs middle lt l ms more n item a b g f) = more-trans known choices middle later (chosen-more known choices middle _ n item g) (functions-more known p k (suc i) middle later ms more f)

pub unary-more : {c d : Contents} (s : Search) (q : Clause) (after : List (ℕ × ℕ)) (dues : List Due) → AreUnaryIn c d s.abbr.items after q dues → AreMore (length c.symbols) (choices_of c s) (map (choice_at d) after)
unary-more {c} {d} s q after dues u = (let f = (u.unary (length c.symbols) (omega arith)).functions in functions-more (length c.symbols) _ (clause_at c q) 0 (choices_of c s) (map (choice_at d) after) (clause_at c q).literals _ f)

-- the terms of new choice symbols
pub unary-new : {c d : Contents} → Extends c d → (s : Search) (q : Clause) (given line : ℕ) (after : List (ℕ × ℕ)) (dues : List Due) → IsSearch c s → slice_get s.kept given ≡ Some q → slice_get s.at given ≡ Some line → AreUnaryIn c d s.abbr.items after q dues → UnaryChoicesAreFromClause → AreNewFrom d s after
unary-new {c} {d} e s q given line after dues h stands at u law n k g l o from before =
    let many : length (choices_of c s) ≡ length s.abbr.items = length-map (choice_at c) s.abbr.items in
    let all : AreLinesFrom o (lines_of c s) = subst (AreLinesFrom o) (lines-same e s h) (all-from (lines_of d s) (search-grow e s h).origin from) in
    let clause : IsClauseFrom o (clause_at c q) = clause-from o (lines_of c s) line (clause_at c q) all (kept-line c s given line q h stands at) in
    term-of o (tree_at d k.1) (law (length c.symbols) (choices_of c s) (clause_at c q) (map (choice_at d) after) u.members (u.unary (length c.symbols) (omega arith)) (tests o) from.truth (clause-to o (clause_at c q) clause) n (choice_at d k) (let x = many in omega (arith, x, l)) (get-map (choice_at d) after n k g))

are-named : (o : Origin) (ks : List Choice) → AreChoicesFrom o ks → AreNamed (tests o) ks
are-named o [] h = tt
are-named o (k ∷ ks) h = ((h zero k refl).0, are-named o ks (λ n j e. h (suc n) j e))

well-typed : (c : Contents) → IsBank c → (ls : List Lit) → AreLiteralsOf c ls → AreWellTyped (map (literal_at c) ls)
well-typed c b [] h = tt
well-typed c b (l ∷ ls) h = (term-typed b l.left h.0, term-typed b l.right h.1, well-typed c b ls h.2)

dues-steps : (c : Contents) (dues : List Due) (n : ℕ) (due : Due) → AreDuesOf c dues → slice_get dues n ≡ Some due → AreStepsOf c due.records
dues-steps c [] n due h e = absurd cc
dues-steps c (d ∷ dues) zero due h e = (let f : d ≡ due = cc in subst (λ (x : Due). AreStepsOf c x.records) f h.0)
dues-steps c (d ∷ dues) (suc n) due h e = dues-steps c dues n due h.1 e

last-any : (j k : ClauseTree) (ls : List Line) → 0 < length ls → last_clause j ls ≡ last_clause k ls
last-any j k [] l = absurd (let f : ⊥ = omega arith in f)
last-any j k (x ∷ ls) l = refl

abbrev leads_to : List ℕ → ClauseTree → Constrained
leads_to ns k = record { clause = k; constraints = ns }

module _ {c d e : Contents} (cd : Extends c d) (de : Extends d e) (s t : Search) (q : Clause) (given line : ℕ) (after : List (ℕ × ℕ)) (dues : List Due)
    (h : IsSearch c s) (stands : slice_get s.kept given ≡ Some q) (u : AreUnaryIn c d s.abbr.items after q dues) (order : AreInOrder d after) (ann : AreAnnounced e s t after) (at : slice_get t.at given ≡ Some line)
    (laws : UnaryMembersAreAccepted) (have_lines : UnaryMembersHaveLines) (pairs : UnaryPairsAreNegative) (members_from : UnaryMembersAreFromClause) where
  known : ℕ
  known = length c.symbols

  later-same : choices_of e t ≡ map (choice_at d) after
  later-same = ap (map (choice_at e)) ann.abbr ∙ items-kept de after order.of_bank

  clause-same : clause_at e q ≡ clause_at c q
  clause-same = clause-kept (extends-trans cd de) q (kept-typed c s given q h stands).of_bank

  still : slice_get t.kept given ≡ Some q
  still = ap (λ (ks : List Clause). slice_get ks given) ann.kept ∙ stands

  low : length c.symbols ≤ length c.symbols
  low = omega arith

  module _ (n : ℕ) (due : Due) (g : slice_get dues n ≡ Some due) where
    steps : AreStepsOf d due.records
    steps = dues-steps d dues n due u.are.of_bank g

    its : slice_get u.members n ≡ Some (member_at d due)
    its = subst (λ (ms : List Member). slice_get ms n ≡ Some (member_at d due)) u.are.reads (get-map (member_at d) dues n due g)

    some_line : 0 < length (map (line_at d) due.records)
    some_line = have_lines (length c.symbols) (choices_of c s) (clause_at c q) (map (choice_at d) after) u.members (u.unary (length c.symbols) low) n (member_at d due) its

    to_solve : AreConstraints (last_clause (clause_at c q) (map (line_at d) due.records)).literals due.pairs × AreNumbersOf (last_clause (clause_at c q) (map (line_at d) due.records)).literals due.pairs
    to_solve = pairs (length c.symbols) (choices_of c s) (clause_at c q) (map (choice_at d) after) u.members (u.unary (length c.symbols) low) n (member_at d due) its

    end : (constrained_at e due).clause ≡ last_clause (clause_at c q) (map (line_at d) due.records)
    end = ap (last_clause no_clause) (lines-kept de due.records steps) ∙ last-any no_clause (clause_at c q) (map (line_at d) due.records) some_line

    one-read : constrained_at e due ≡ of_member (clause_at c q) (member_at d due)
    one-read = ap (leads_to due.pairs) end

    unary-from : (o : Origin) → o.has_base 0 ≡ true → AreLinesFrom o (map (line_at e) t.lines) → AreLinesFrom o (map (line_at e) due.records)
    unary-from o z from =
        let clause : IsClauseFrom o (clause_at c q) = subst (IsClauseFrom o) clause-same (clause-from o (lines_of e t) line (clause_at e q) from (kept-line e t given line q ann.search still at)) in
        let symbols : AreChoicesFrom o (map (choice_at d) after) = subst (AreChoicesFrom o) later-same (choices-there o (lines_of e t) t.abbr_at (choices_of e t) from ann.search.choice_lines) in
        subst (AreLinesFrom o) (sym (lines-kept de due.records steps)) (lines-of o (map (line_at d) due.records) (members_from (length c.symbols) (choices_of c s) (clause_at c q) (map (choice_at d) after) u.members (u.unary (length c.symbols) low) (tests o) z (clause-to o (clause_at c q) clause) (are-named o (map (choice_at d) after) symbols) n (member_at d due) its))

    pub unary-due : IsDueAt e t.lines (t.abbr_at ++ line ∷ []) due
    unary-due = record {
      ready = record {
        choices = choices_of e t;
        clauses = clause_at e q ∷ [];
        some = omega arith;
        first = record {
          symbols = t.abbr_at;
          parents = line ∷ [];
          numbers_are = refl;
          choice_lines = ann.search.choice_lines;
          clause_lines = (kept-line e t given line q ann.search still at, tt);
          plain = (kept-plain e t given line ann.search at, tt);
        };
        steps = lines-grow de due.records steps;
        accepted = λ rule.
            let typed = kept-typed c s given q h stands in
            let a : AreAcceptedAfter (lines_before (map (choice_at d) after) (clause_at c q ∷ []) rule) (map (line_at d) due.records) = laws (length c.symbols) (choices_of c s) (map (choice_at d) after) (clause_at c q) rule u.members typed.typed (well-typed c (old_bank cd) q.lits typed.of_bank.literals_of) (u.unary (length c.symbols) low) n (member_at d due) its in
            subst (AreAcceptedAfter (lines_before (choices_of e t) (clause_at e q ∷ []) rule)) (sym (lines-kept de due.records steps))
            (subst (λ (k : ClauseTree). AreAcceptedAfter (lines_before (choices_of e t) (k ∷ []) rule) (map (line_at d) due.records)) (sym clause-same)
            (subst (λ (ks : List Choice). AreAcceptedAfter (lines_before ks (clause_at c q ∷ []) rule) (map (line_at d) due.records)) (sym later-same) a));
      };
      origin = unary-from;
      some = (let x = some_line in let y = length-map (line_at d) due.records in omega arith);
      numbers = subst (λ (k : ClauseTree). AreNumbersOf k.literals due.pairs) (sym end) to_solve.1;
      constraints = subst (λ (k : ClauseTree). AreConstraints k.literals due.pairs) (sym end) to_solve.0;
    }

  all-read : map (constrained_at e) dues ≡ map (of_member (clause_at c q)) u.members
  all-read = map-agree (constrained_at e) (λ (x : Due). of_member (clause_at c q) (member_at d x)) dues one-read ∙ sym (map-fused (of_member (clause_at c q)) (member_at d) dues) ∙ ap (map (of_member (clause_at c q))) u.are.reads

  stock-then : stock_of e t ≡ record { choices = map (choice_at d) after; clauses = kept_of c s }
  stock-then = rw (later-same, ann.kept, kept-same (extends-trans cd de) s h) refl

  pub unary-inferred : (f : Contents) (v : Search) → Grows s t → Makes e f t v (λ setting. WorksEach setting (map (constrained_at e) dues)) → Makes c f s v (λ setting. InfersAlone setting (clause_at c q))
  unary-inferred f v grows makes symbols l =
      let x = cd.symbols_more in
      let y = de.symbols_more in
      let a : WorksEach (setting_of symbols t) (map (constrained_at e) dues) (stock_of e t) (stock_of f v) = makes symbols (omega arith) in
      let b : WorksEach (setting_of symbols s) (map (constrained_at e) dues) (stock_of e t) (stock_of f v) = subst (λ (w : Setting). WorksEach w (map (constrained_at e) dues) (stock_of e t) (stock_of f v)) (setting-same symbols grows) a in
      let m : WorksEach (setting_of symbols s) (map (of_member (clause_at c q)) u.members) (stock_of e t) (stock_of f v) = subst (λ (is : List Constrained). WorksEach (setting_of symbols s) is (stock_of e t) (stock_of f v)) all-read b in
      record {
        known = length c.symbols;
        are_known = record { problem = l; choices_below = known-choices c s h };
        choices = map (choice_at d) after;
        members = u.members;
        are = u.unary (length c.symbols) low;
        worked = subst (λ (w : Stock). WorksEach (setting_of symbols s) (map (of_member (clause_at c q)) u.members) w (stock_of f v)) stock-then m;
      }
