-- What each line says is derivable from the hypotheses alone, with its abbreviations unfolded.
use Rattle.std.proofs.Common.{◌≡◌, ℕ, zero, suc, Bool, true, false, cond, List, [], ◌∷◌, ◌++◌, length, map, take, slice_get, Option, Some, None, refl, sym, ap, ◌∙◌, subst, eqb, arith}
use Rattle.std.proofs.lemmas.Bool.{eqb-true}
use Rattle.std.proofs.lemmas.List.{map-append, append-nil}
use Rattle.leo_q0.specs.Terms.{SimpleType, Term, HasType, IsFormula}
use Rattle.leo_q0.specs.Substitution.{IsClosed}
use Rattle.leo_q0.specs.Shapes.{shape}
use Rattle.leo_q0.specs.Derivations.{Derivable, Derives, AreHypotheses as AreClosedFormulas}
use Rattle.leo_q0.proofs.Formulas.{derived_formula}
use Rattle.leo_q0.proofs.Equations.{carry}
use Rattle.leo_q0.proofs.Alpha.{alpha}
use Rattle.leo_q0.proofs.Lists.{derivation}
use Rattle.leo_sound.specs.Propositions.{disjunction}
use Rattle.leo_terms.specs.Tree.{Tree, variable, bound, symbol, app, lam, logic, absent}
use Rattle.leo_terms.specs.Decode.{decoded}
use Rattle.leo_terms.proofs.CallerLemmas.{decoded_typed}
use Rattle.leo_clause.specs.Trees.{Literal}
use Rattle.leo_clause.specs.Formulas.{Abbreviations, symbol_or, unfolded, literal_formula}
use Rattle.leo_kernel.specs.Shapes.{equal}
use Rattle.leo_kernel.specs.Steps.{StepRule, assume, convert, inst, para, arrange, drop_literal, take_apart, bool_ext, func_ext, decompose, reflexivity, choose, factor, abbreviate, Line}
use Rattle.leo_kernel.specs.Symbols.{only_literal, abbreviation_in}
use Rattle.leo_kernel.specs.Acceptance.{AreAccepted}
use Rattle.leo_simulation.specs.Proper.{AreLiteralTrees, AreProper, AreHypotheses}
use Rattle.leo_simulation.specs.Abbreviations.{with_symbol, with_rule, introduced, nothing, formula_after, HasSymbolTypes, LiteralsHaveSymbolTypes, LinesHaveSymbolTypes}
use Rattle.leo_simulation.specs.Laws.{LinesAreDerivable}
use Rattle.leo_simulation.proofs.Constants.{put_for}
use Rattle.leo_simulation.proofs.Sayings.{literal_said, literals_said, clause_said, AreFine, clause_formula as said_clause_formula, free_below}
use Rattle.leo_simulation.proofs.Lines.{listed, definitions, proper_at, line_sensible, line_says}
use Rattle.leo_simulation.proofs.Definitions.{meaning, abbreviates, definitions-append, take_next, take_past, take_all}
use Rattle.leo_simulation.proofs.Unfolding.{one, put_same, IsMeaning, AreMeanings, type_of-unfolded, present-unfolded, over-unfolded, typed-unfolded, unfolded_literal, one_then_rest, literals_types-unfolded, clause_put_shape}

unfolded-same : (f g : Abbreviations) → ((n : ℕ) → f n ≡ g n) → (t : Tree) → unfolded f t ≡ unfolded g t
unfolded-same f g e (variable n a) = refl
unfolded-same f g e (bound i a) = refl
unfolded-same f g e (symbol n a) = ap (symbol_or (symbol n a)) (e n)
unfolded-same f g e (app h x) = rw (unfolded-same f g e h, unfolded-same f g e x) refl
unfolded-same f g e (lam a t) = rw (unfolded-same f g e t) refl
unfolded-same f g e (logic c x y) = rw (unfolded-same f g e x, unfolded-same f g e y) refl
unfolded-same f g e absent = refl

unfolded-nothing : (t : Tree) → unfolded nothing t ≡ t
unfolded-nothing (variable n a) = refl
unfolded-nothing (bound i a) = refl
unfolded-nothing (symbol n a) = refl
unfolded-nothing (app h x) = rw (unfolded-nothing h, unfolded-nothing x) refl
unfolded-nothing (lam a t) = rw (unfolded-nothing t) refl
unfolded-nothing (logic c x y) = rw (unfolded-nothing x, unfolded-nothing y) refl
unfolded-nothing absent = refl

literals-same : (f g : Abbreviations) → ((n : ℕ) → f n ≡ g n) → (ls : List Literal) → map (unfolded_literal f) ls ≡ map (unfolded_literal g) ls
literals-same f g e [] = refl
literals-same f g e (l ∷ ls) = let p = unfolded-same f g e l.left in let q = unfolded-same f g e l.right in let r = literals-same f g e ls in rw (p, q, r) refl

literals-nothing : (ls : List Literal) → map (unfolded_literal nothing) ls ≡ ls
literals-nothing [] = refl
literals-nothing (l ∷ ls) = let p = unfolded-nothing l.left in let q = unfolded-nothing l.right in let r = literals-nothing ls in rw (p, q, r) refl

literals-one : (terms : Abbreviations) (s : ℕ) (t : Tree) (ls : List Literal) →
    map (unfolded_literal terms) (map (unfolded_literal (one s t)) ls) ≡ map (unfolded_literal (λ n. cond (eqb n s) (Some (unfolded terms t)) (terms n))) ls
literals-one terms s t [] = refl
literals-one terms s t (l ∷ ls) = let p = one_then_rest terms s t l.left in let q = one_then_rest terms s t l.right in let r = literals-one terms s t ls in rw (p, q, r) refl

introduced-append : (terms : Abbreviations) (xs : List Line) (l : Line) → introduced terms (xs ++ l ∷ []) ≡ with_rule (introduced terms xs) l.rule l.clause.literals
introduced-append terms [] l = refl
introduced-append terms (x ∷ xs) l = introduced-append (with_rule terms x.rule x.clause.literals) xs l

-- a line that abbreviates nothing introduces nothing
nothing_introduced : (terms : Abbreviations) (rule : StepRule) (ls : List Literal) → abbreviation_in rule ls ≡ None → (n : ℕ) → with_rule terms rule ls n ≡ terms n
nothing_introduced terms (abbreviate s) ls e n = go (only_literal ls) refl e
  where
    go : (o : Option Literal) → only_literal ls ≡ o → only_literal ls ≡ None → with_symbol terms s (only_literal ls) n ≡ terms n
    go None q e = rw q refl
    go (Some l) q e = cc
nothing_introduced terms (assume h) ls e n = refl
nothing_introduced terms (convert p) ls e n = refl
nothing_introduced terms (inst p sigma) ls e n = refl
nothing_introduced terms (para p i side q j place_side path) ls e n = refl
nothing_introduced terms (arrange p) ls e n = refl
nothing_introduced terms (drop_literal p i) ls e n = refl
nothing_introduced terms (take_apart p i k a) ls e n = refl
nothing_introduced terms (bool_ext p i half) ls e n = refl
nothing_introduced terms (func_ext p i a) ls e n = refl
nothing_introduced terms (decompose p i) ls e n = refl
nothing_introduced terms reflexivity ls e n = refl
nothing_introduced terms choose ls e n = refl
nothing_introduced terms (factor p i j) ls e n = refl

-- one that does introduces its term
one_introduced : (terms : Abbreviations) (s : ℕ) (a : SimpleType) (t : Tree) (rule : StepRule) (ls : List Literal) (ab : Literal) → rule ≡ abbreviate s → ls ≡ ab ∷ [] → ab ≡ equal (symbol s a) t →
    (n : ℕ) → with_rule terms rule ls n ≡ cond (eqb n s) (Some (unfolded terms t)) (terms n)
one_introduced terms s a t rule ls ab r l e n = rw (r, l, e) refl

symbol_types_at : (types : ℕ → SimpleType) (lines : List Line) (n : ℕ) (line : Line) → slice_get lines n ≡ Some line → LinesHaveSymbolTypes types lines → LiteralsHaveSymbolTypes types line.clause.literals
symbol_types_at types [] n line e h = cc
symbol_types_at types (l ∷ ls) zero line e h = subst (λ k. LiteralsHaveSymbolTypes types k.clause.literals) (some_line e) h.0
  where
    some_line : {x y : Line} → Some x ≡ Some y → x ≡ y
    some_line e = cc
symbol_types_at types (l ∷ ls) (suc n) line e h = symbol_types_at types ls n line e h.1

-- the formula of a clause is what its unfolded literals say
formula_is_said : (types : ℕ → SimpleType) (terms : Abbreviations) → AreMeanings types terms → (n : ℕ) (ls : List Literal) → LiteralsHaveSymbolTypes types ls →
    map (literal_formula terms n) ls ≡ literals_said n (map (unfolded_literal terms) ls)
formula_is_said types terms good n [] h = refl
formula_is_said types terms good n (l ∷ ls) h =
    let e = type_of-unfolded types terms good l.left h.0 in
    let r = formula_is_said types terms good n ls h.2 in
    rw (e, r) refl

fine-unfolded : (types : ℕ → SimpleType) (terms : Abbreviations) → AreMeanings types terms → (variables : List SimpleType) (ls : List Literal) → LiteralsHaveSymbolTypes types ls → AreFine variables ls →
    AreFine variables (map (unfolded_literal terms) ls)
fine-unfolded types terms good variables [] h f = tt
fine-unfolded types terms good variables (l ∷ ls) h f = (
  record {
    left_typed = typed-unfolded types terms good l.left h.0 f.0.left_typed;
    right_typed = typed-unfolded types terms good l.right h.1 f.0.right_typed;
    typed = record {
      left_over = over-unfolded types terms good variables 0 l.left h.0 f.0.typed.left_over;
      right_over = over-unfolded types terms good variables 0 l.right h.1 f.0.typed.right_over;
      same_type = type_of-unfolded types terms good l.left h.0 ∙ f.0.typed.same_type ∙ sym (type_of-unfolded types terms good l.right h.1);
    };
  },
  fine-unfolded types terms good variables ls h.2 f.1,
)

-- hypotheses are closed formulas of Q0
closed_formulas : (hypotheses : List Tree) → AreHypotheses hypotheses → AreClosedFormulas (map (decoded 0) hypotheses)
closed_formulas [] h u c = absurd (let k = c.1 in let f : ⊥ = omega arith in f)
closed_formulas (t ∷ ts) h u (zero, lt, e) =
    subst (λ x. IsFormula x × IsClosed x) e
    (subst (HasType (decoded 0 t)) h.0.formula (decoded_typed t 0 h.0.term.typed), λ v. free_below [] t 0 (omega arith) h.0.term.typed h.0.closed v (omega arith))
closed_formulas (t ∷ ts) h u (suc i, lt, e) = closed_formulas ts h.1 u (i, omega (arith, lt), e)

module _ (hypotheses : List Tree) (lines : List Line) (types : ℕ → SimpleType) (formulas : AreHypotheses hypotheses) (proper : AreProper lines) (symbols : LinesHaveSymbolTypes types lines)
    (accepted : AreAccepted hypotheses lines) where
  -- what the lines before the n-th introduce
  before : ℕ → Abbreviations
  before n = introduced nothing (take n lines)

  record IsIntroduced (n : ℕ) (line : Line) (ab : Literal) : Type 0 where
    number : ℕ
    term : Tree
    term_symbols : HasSymbolTypes types term
    meaning_is : IsMeaning types number term
    next : (k : ℕ) → introduced nothing (take (suc n) lines) k ≡ cond (eqb k number) (Some (unfolded (introduced nothing (take n lines)) term)) (introduced nothing (take n lines) k)
    removed : {goal : Term} → Derivable (map (decoded 0) hypotheses ++ (literals_said 0 (definitions (take n lines)) ++ literal_said 0 ab ∷ [])) goal →
        Derivable (map (decoded 0) hypotheses ++ literals_said 0 (definitions (take n lines))) (put_for (meaning number (types number) (decoded 0 term)) goal)

  is_introduced : (n : ℕ) (line : Line) (ab : Literal) → slice_get lines n ≡ Some line → abbreviation_in line.rule line.clause.literals ≡ Some ab → IsIntroduced n line ab
  is_introduced n line ab e k =
      let a = abbreviates hypotheses lines formulas proper accepted n line ab e k in
      let only : line.clause.literals ≡ equal (symbol a.number a.type) a.term ∷ [] = a.literals_are ∙ ap (λ l. l ∷ []) a.literal_is in
      let known = subst (LiteralsHaveSymbolTypes types) only (symbol_types_at types lines n line e symbols) in
      let proper_here = subst AreLiteralTrees only (proper_at lines n line e proper).0 in
      let type_is : a.type ≡ types a.number = known.0 in
      let list : take (suc n) lines ≡ take n lines ++ line ∷ [] = take_next lines n line e in
      record {
        number = a.number;
        term = a.term;
        term_symbols = known.1;
        meaning_is = record { typed = a.fine.right_typed; present = proper_here.1.present; closed = a.fine.typed.right_over; type_is = sym a.fine.typed.same_type ∙ type_is };
        next = λ k. ap (λ (ls : List Line). introduced nothing ls k) list ∙ ap (λ (f : Abbreviations). f k) (introduced-append nothing (take n lines) line) ∙
            one_introduced (introduced nothing (take n lines)) a.number a.type a.term line.rule line.clause.literals ab a.rule_is a.literals_are a.literal_is k;
        removed = λ {goal} d. subst (λ x. Derivable (map (decoded 0) hypotheses ++ literals_said 0 (definitions (take n lines))) (put_for (meaning a.number x (decoded 0 a.term)) goal)) type_is (a.removed d);
      }

  -- the lines that abbreviate nothing
  not_introduced : (n : ℕ) (line : Line) → slice_get lines n ≡ Some line → abbreviation_in line.rule line.clause.literals ≡ None → (k : ℕ) → introduced nothing (take (suc n) lines) k ≡ introduced nothing (take n lines) k
  not_introduced n line e q k =
      ap (λ (ls : List Line). introduced nothing ls k) (take_next lines n line e) ∙ ap (λ (f : Abbreviations). f k) (introduced-append nothing (take n lines) line) ∙
      nothing_introduced (introduced nothing (take n lines)) line.rule line.clause.literals q k

  not_there : (n : ℕ) → slice_get lines n ≡ None → (k : ℕ) → introduced nothing (take (suc n) lines) k ≡ introduced nothing (take n lines) k
  not_there n e k = ap (λ (ls : List Line). introduced nothing ls k) (take_past lines n e)

  same_meanings : (f g : Abbreviations) → ((k : ℕ) → f k ≡ g k) → AreMeanings types g → AreMeanings types f
  same_meanings f g e good n t k = good n t (sym (e n) ∙ k)

  one_more : (f : Abbreviations) (s : ℕ) (t : Tree) → AreMeanings types f → HasSymbolTypes types t → IsMeaning types s t → AreMeanings types (λ k. cond (eqb k s) (Some (unfolded f t)) (f k))
  one_more f s t good h m n u e = go (eqb n s) refl e
    where
      whole : IsMeaning types s (unfolded f t)
      whole =
          record {
            typed = typed-unfolded types f good t h m.typed;
            present = present-unfolded types f good t h m.present;
            closed = over-unfolded types f good [] 0 t h m.closed;
            type_is = type_of-unfolded types f good t h ∙ m.type_is;
          }

      go : (c : Bool) → eqb n s ≡ c → cond c (Some (unfolded f t)) (f n) ≡ Some u → IsMeaning types n u
      go true q e = subst (IsMeaning types n) (some_tree e) (subst (λ k. IsMeaning types k (unfolded f t)) (sym (eqb-true n s q)) whole)
        where
          some_tree : {x y : Tree} → Some x ≡ Some y → x ≡ y
          some_tree e = cc
      go false q e = good n u e

  meanings : (n : ℕ) → AreMeanings types (introduced nothing (take n lines))
  meanings zero = λ n t e. absurd (let f : ⊥ = cc in f)
  meanings (suc n) = at_line (slice_get lines n) refl (meanings n)
    where
      made : (line : Line) (o : Option Literal) → abbreviation_in line.rule line.clause.literals ≡ o → slice_get lines n ≡ Some line → AreMeanings types (introduced nothing (take n lines)) → AreMeanings types (introduced nothing (take (suc n) lines))
      made line None q e rest = same_meanings (introduced nothing (take (suc n) lines)) (introduced nothing (take n lines)) (not_introduced n line e q) rest
      made line (Some ab) q e rest =
          let i = is_introduced n line ab e q in
          same_meanings (introduced nothing (take (suc n) lines)) (λ k. cond (eqb k i.number) (Some (unfolded (introduced nothing (take n lines)) i.term)) (introduced nothing (take n lines) k)) i.next
          (one_more (introduced nothing (take n lines)) i.number i.term rest i.term_symbols i.meaning_is)

      at_line : (o : Option Line) → slice_get lines n ≡ o → AreMeanings types (introduced nothing (take n lines)) → AreMeanings types (introduced nothing (take (suc n) lines))
      at_line None e rest = same_meanings (introduced nothing (take (suc n) lines)) (introduced nothing (take n lines)) (not_there n e) rest
      at_line (Some line) e rest = made line (abbreviation_in line.rule line.clause.literals) refl e rest

  -- derivable from the hypotheses alone, up to the names of bound variables
  record IsDerivedLike (goal : Term) : Type 0 where
    formula : Term
    derived : Derivable (map (decoded 0) hypotheses) formula
    like : shape [] formula ≡ shape [] goal

  abbrev Eliminates : ℕ → Type 0
  Eliminates n = (k : ℕ) (ls : List Literal) (f : Term) → LiteralsHaveSymbolTypes types ls → shape [] f ≡ shape [] (clause_said k ls) →
      Derivable (map (decoded 0) hypotheses ++ literals_said 0 (definitions (take n lines))) f → IsDerivedLike (clause_said k (map (unfolded_literal (introduced nothing (take n lines))) ls))

  eliminated : (n : ℕ) → Eliminates n
  eliminated zero = λ k ls f h e d.
      record {
        formula = f;
        derived = subst (λ hs. Derivable hs f) (append-nil (map (decoded 0) hypotheses)) d;
        like = e ∙ ap (λ ks. shape [] (clause_said k ks)) (sym (literals-nothing ls));
      }
  eliminated (suc n) = at_line (slice_get lines n) refl (eliminated n)
    where
      goal_at : (k : ℕ) (ls ks : List Literal) → ls ≡ ks → IsDerivedLike (clause_said k ks) → IsDerivedLike (clause_said k ls)
      goal_at k ls ks e d = subst (λ xs. IsDerivedLike (clause_said k xs)) (sym e) d

      made : (line : Line) (o : Option Literal) → abbreviation_in line.rule line.clause.literals ≡ o → slice_get lines n ≡ Some line → Eliminates n →
          (k : ℕ) (ls : List Literal) (f : Term) → LiteralsHaveSymbolTypes types ls → shape [] f ≡ shape [] (clause_said k ls) →
          Derivable (map (decoded 0) hypotheses ++ literals_said 0 (definitions (take n lines) ++ (listed o ++ []))) f → IsDerivedLike (clause_said k (map (unfolded_literal (introduced nothing (take (suc n) lines))) ls))
      made line None q e rest k ls f h like d =
          goal_at k (map (unfolded_literal (introduced nothing (take (suc n) lines))) ls) (map (unfolded_literal (introduced nothing (take n lines))) ls)
          (literals-same (introduced nothing (take (suc n) lines)) (introduced nothing (take n lines)) (not_introduced n line e q) ls)
          (rest k ls f h like (subst (λ ds. Derivable (map (decoded 0) hypotheses ++ literals_said 0 ds) f) (append-nil (definitions (take n lines))) d))
      made line (Some ab) q e rest k ls f h like d =
          let i = is_introduced n line ab e q in
          let m = meaning i.number (types i.number) (decoded 0 i.term) in
          let split = subst (λ ts. Derivable (map (decoded 0) hypotheses ++ ts) f) (map-append (literal_said 0) (definitions (take n lines)) (ab ∷ [])) d in
          let less = i.removed split in
          let same_shape = put_same types i.number i.term i.meaning_is.typed i.meaning_is.closed f (clause_said k ls) like ∙ clause_put_shape types i.number i.term i.meaning_is k ls h in
          let result = rest k (map (unfolded_literal (one i.number i.term)) ls) (put_for m f) (literals_types-unfolded types i.number i.term ls i.term_symbols h) same_shape less in
          goal_at k (map (unfolded_literal (introduced nothing (take (suc n) lines))) ls) (map (unfolded_literal (introduced nothing (take n lines))) (map (unfolded_literal (one i.number i.term)) ls))
          (literals-same (introduced nothing (take (suc n) lines)) (λ k. cond (eqb k i.number) (Some (unfolded (introduced nothing (take n lines)) i.term)) (introduced nothing (take n lines) k)) i.next ls ∙
          sym (literals-one (introduced nothing (take n lines)) i.number i.term ls)) result

      at_line : (o : Option Line) → slice_get lines n ≡ o → Eliminates n → Eliminates (suc n)
      at_line None e rest = λ k ls f h like d.
          goal_at k (map (unfolded_literal (introduced nothing (take (suc n) lines))) ls) (map (unfolded_literal (introduced nothing (take n lines))) ls)
          (literals-same (introduced nothing (take (suc n) lines)) (introduced nothing (take n lines)) (not_there n e) ls)
          (rest k ls f h like (subst (λ xs. Derivable (map (decoded 0) hypotheses ++ literals_said 0 (definitions xs)) f) (take_past lines n e) d))
      at_line (Some line) e rest = λ k ls f h like d.
          (let split : definitions (take (suc n) lines) ≡ definitions (take n lines) ++ (listed (abbreviation_in line.rule line.clause.literals) ++ []) =
          ap definitions (take_next lines n line e) ∙ definitions-append (take n lines) (line ∷ []) in
          made line (abbreviation_in line.rule line.clause.literals) refl e rest k ls f h like (subst (λ ds. Derivable (map (decoded 0) hypotheses ++ literals_said 0 ds) f) split d))

  line_derived : (n : ℕ) (line : Line) → slice_get lines n ≡ Some line → Derives (map (decoded 0) hypotheses) (formula_after lines line.clause)
  line_derived n line e =
      let k = length line.clause.variables in
      let ls = line.clause.literals in
      let terms = introduced nothing lines in
      let all = take_all lines in
      let h = symbol_types_at types lines n line e symbols in
      let good : AreMeanings types terms = subst (λ xs. AreMeanings types (introduced nothing xs)) all (meanings (length lines)) in
      let says = line_says hypotheses lines formulas proper accepted n line e in
      let start : Derivable (map (decoded 0) hypotheses ++ literals_said 0 (definitions (take (length lines) lines))) (clause_said k ls) =
      subst (λ xs. Derivable (map (decoded 0) hypotheses ++ literals_said 0 (definitions xs)) (clause_said k ls)) (sym all) says.said in
      let d : IsDerivedLike (clause_said k (map (unfolded_literal terms) ls)) = subst (λ xs. IsDerivedLike (clause_said k (map (unfolded_literal (introduced nothing xs)) ls))) all
      (eliminated (length lines) k ls (clause_said k ls) h refl start) in
      let fine = line_sensible hypotheses lines formulas proper accepted n line e in
      let typed = said_clause_formula line.clause.variables k (map (unfolded_literal terms) ls) (fine-unfolded types terms good line.clause.variables ls h fine) in
      let said = carry (alpha d.like (derived_formula (closed_formulas hypotheses formulas) d.derived) typed) d.derived in
      derivation (subst (λ ts. Derivable (map (decoded 0) hypotheses) (disjunction ts)) (sym (formula_is_said types terms good k ls h)) said)

pub lines_are_derivable : LinesAreDerivable
lines_are_derivable hypotheses lines types formulas proper symbols accepted n line e = line_derived hypotheses lines types formulas proper symbols accepted n line e
