-- What a rule asks of symbols, with other numbers for all symbols.
use Rattle.std.proofs.Common.{ℕ, ◌≡◌, Bool, true, false, List, [], ◌∷◌, map, refl, sym, ◌∙◌, ap, ap₂, subst}
use Rattle.std.specs.Prelude.{slice_get, Option, Some, None, IsSomeAnd}
use Rattle.std.specs.Option.{option_map}
use Rattle.std.proofs.lemmas.Option.{slice_get-map}
use Rattle.leo_q0.specs.Terms.{SimpleType}
use Rattle.leo_terms.specs.Tree.{Tree, variable, bound, symbol, app, lam, logic, absent, type_of}
use Rattle.leo_terms.specs.Typing.{IsWellTyped}
use Rattle.leo_terms.specs.NormalForm.{normal_form}
use Rattle.leo_clause.specs.declared.record.LogicKind.{LogicKind}
use Rattle.leo_clause.specs.declared.record.LogicKind.TheVariants as kind
use Rattle.leo_clause.specs.Trees.{Literal, ClauseTree}
use Rattle.leo_kernel.specs.Shapes.{equal, domain, not_tree, choice_tree}
use Rattle.leo_kernel.specs.Choosing.{Claim, value, difference, chosen, chosen_type, Claims, all_f, some_t, difference_in, SpeaksOf, applied_to, AreVariablesOf, Fits, MayFit}
use Rattle.leo_kernel.specs.Steps.{StepRule, inst, take_apart, func_ext, abbreviate, Line}
use Rattle.leo_kernel.specs.Symbols.{LacksSymbol, LackSymbol, LiteralsLackSymbol, RuleLacksSymbol, LinesLackSymbol, HasNoVariable, IsNewSymbol, abbreviation_of, StandsFor, NamesSymbolFor, LogicHasSymbol, FuncExtHasSymbol, HasSymbol}
use Rattle.leo_derive.specs.Renaming.{symbols_mapped, literal_mapped, clause_mapped, rule_mapped, line_mapped}
use Rattle.leo_derive.proofs.MappedTerms.{mapped-type, mapped-lifted, mapped-normal, mapped-back, mapped-equal}
use Rattle.leo_derive.proofs.MappedTyping.{typed-mapped, variables-mapped, applied_to-mapped}
use Rattle.leo_derive.proofs.MappedLines.{there-mapped, abbreviation-mapped, of_literal}

no_variable-mapped : (r : ℕ → ℕ) (t : Tree) → HasNoVariable t → HasNoVariable (symbols_mapped r t)
no_variable-mapped r (variable n a) h = h
no_variable-mapped r (bound i a) h = h
no_variable-mapped r (symbol n a) h = h
no_variable-mapped r (app f x) h = (no_variable-mapped r f h.0, no_variable-mapped r x h.1)
no_variable-mapped r (lam a t) h = no_variable-mapped r t h
no_variable-mapped r (logic c x y) h = (no_variable-mapped r x h.0, no_variable-mapped r y h.1)
no_variable-mapped r absent h = h

-- ---- claims

abbrev pub claim_mapped : (ℕ → ℕ) → Claim → Claim
claim_mapped r (value c p v) = value c (symbols_mapped r p) v
claim_mapped r (difference c f g) = difference c (symbols_mapped r f) (symbols_mapped r g)

chosen_type-mapped : (r : ℕ → ℕ) (k : Claim) → chosen_type (claim_mapped r k) ≡ chosen_type k
chosen_type-mapped r (value c p v) = refl
chosen_type-mapped r (difference c f g) = refl

chosen-mapped : (r : ℕ → ℕ) (k : Claim) → symbols_mapped r (chosen k) ≡ chosen (claim_mapped r k)
chosen-mapped r (value c p true) = refl
chosen-mapped r (value c p false) = ap (λ (t : Tree). choice_tree c (lam c (not_tree (app t (bound 0 c))))) (mapped-lifted r p 0 1)
chosen-mapped r (difference c f g) = rw (mapped-lifted r f 0 1, mapped-lifted r g 0 1, mapped-type r f) refl

pub claims-mapped : (r : ℕ → ℕ) (k : LogicKind) (l : Literal) (claim : Claim) → Claims k l claim → Claims k (literal_mapped r l) (claim_mapped r claim)
claims-mapped r _ _ _ (all_f c p) = all_f c (symbols_mapped r p)
claims-mapped r _ _ _ (some_t c p) = some_t c (symbols_mapped r p)

pub difference_in-mapped : (r : ℕ → ℕ) (l : Literal) → difference_in (literal_mapped r l) ≡ claim_mapped r (difference_in l)
difference_in-mapped r l = ap (λ (a : SimpleType). difference (domain a) (symbols_mapped r l.left) (symbols_mapped r l.right)) (mapped-type r l.left)

module _ (r : ℕ → ℕ) (variables : List SimpleType) (claim : Claim) (t : Tree) where
  pub applied-same : (xs : List Tree) → AreVariablesOf variables xs → applied_to (symbols_mapped r t) xs ≡ symbols_mapped r (applied_to t xs)
  applied-same xs h = sym (applied_to-mapped r t xs ∙ ap (applied_to (symbols_mapped r t)) (variables-mapped r variables xs h))

  pub fits-mapped : (xs : List Tree) → Fits variables claim t xs → Fits variables (claim_mapped r claim) (symbols_mapped r t) xs
  fits-mapped xs h =
      let e = applied-same xs h.variables_of in
      record {
        variables_of = h.variables_of;
        typed = subst IsWellTyped (sym e) (typed-mapped r (applied_to t xs) h.typed);
        type_is = ap type_of e ∙ (mapped-type r (applied_to t xs) ∙ (h.type_is ∙ sym (chosen_type-mapped r claim)));
        same_form = ap normal_form e ∙ (sym (mapped-normal r (applied_to t xs)) ∙ (ap (symbols_mapped r) h.same_form ∙ (mapped-normal r (chosen claim) ∙ ap normal_form (chosen-mapped r claim))));
      }

  may_fit-mapped : MayFit variables claim t → MayFit variables (claim_mapped r claim) (symbols_mapped r t)
  may_fit-mapped h = record { arguments = h.arguments; fits = fits-mapped h.arguments h.fits }

-- ---- where the map is undone by another one

module _ (r q : ℕ → ℕ) (there : (n : ℕ) → q (r n) ≡ n) where
  pub equal-numbers : (m n : ℕ) → r m ≡ r n → m ≡ n
  equal-numbers m n e = sym (there m) ∙ (ap q e ∙ there n)

  pub lacks-mapped : (s : ℕ) (t : Tree) → LacksSymbol s t → LacksSymbol (r s) (symbols_mapped r t)
  lacks-mapped s (variable n a) h = h
  lacks-mapped s (bound i a) h = h
  lacks-mapped s (symbol n a) h = λ e. h (equal-numbers n s e)
  lacks-mapped s (app f x) h = (lacks-mapped s f h.0, lacks-mapped s x h.1)
  lacks-mapped s (lam a t) h = lacks-mapped s t h
  lacks-mapped s (logic c x y) h = (lacks-mapped s x h.0, lacks-mapped s y h.1)
  lacks-mapped s absent h = h

  terms_lack-mapped : (s : ℕ) (ts : List Tree) → LackSymbol s ts → LackSymbol (r s) (map (symbols_mapped r) ts)
  terms_lack-mapped s [] h = h
  terms_lack-mapped s (t ∷ ts) h = (lacks-mapped s t h.0, terms_lack-mapped s ts h.1)

  literals_lack-mapped : (s : ℕ) (ls : List Literal) → LiteralsLackSymbol s ls → LiteralsLackSymbol (r s) (map (literal_mapped r) ls)
  literals_lack-mapped s [] h = h
  literals_lack-mapped s (l ∷ ls) (h, k, e) = (lacks-mapped s l.left h, lacks-mapped s l.right k, literals_lack-mapped s ls e)

  rule_lacks-mapped : (s : ℕ) (rule : StepRule) → RuleLacksSymbol s rule → RuleLacksSymbol (r s) (rule_mapped r rule)
  rule_lacks-mapped s (inst p sigma) h = terms_lack-mapped s sigma h
  rule_lacks-mapped s _ h = tt

  lines_lack-mapped : (s : ℕ) (ls : List Line) → LinesLackSymbol s ls → LinesLackSymbol (r s) (map (line_mapped r) ls)
  lines_lack-mapped s [] h = h
  lines_lack-mapped s (l ∷ ls) (h, k, e) = (literals_lack-mapped s l.clause.literals h, rule_lacks-mapped s l.rule k, lines_lack-mapped s ls e)

  literal-back : (l : Literal) → literal_mapped q (literal_mapped r l) ≡ l
  literal-back l = rw (mapped-back r q there l.left, mapped-back r q there l.right) refl

  pub literals-back : (ls : List Literal) → map (literal_mapped q) (map (literal_mapped r) ls) ≡ ls
  literals-back [] = refl
  literals-back (l ∷ ls) = ap₂ (λ k ks. k ∷ ks) (literal-back l) (literals-back ls)

  -- the term that a symbol abbreviates
  defined-back : (s : ℕ) (ls : List Literal) (a : SimpleType) (t : Tree) → map (literal_mapped r) ls ≡ equal (symbol (r s) a) t ∷ [] → ls ≡ equal (symbol s a) (symbols_mapped q t) ∷ []
  defined-back s ls a t e = sym (literals-back ls) ∙ (ap (map (literal_mapped q)) e ∙ ap (λ n. equal (symbol n a) (symbols_mapped q t) ∷ []) (there s))

  pub claim-back : (k : Claim) → claim_mapped q (claim_mapped r k) ≡ k
  claim-back (value c p v) = ap (λ (t : Tree). value c t v) (mapped-back r q there p)
  claim-back (difference c f g) = rw (mapped-back r q there f, mapped-back r q there g) refl

  speaks-back : (k : Claim) (w : Tree) (l : Literal) → SpeaksOf (claim_mapped r k) (symbols_mapped r w) (literal_mapped r l) → SpeaksOf k w l
  speaks-back (value c p v) w l h = mapped-equal r q there l.left (app p w) h
  speaks-back (difference c f g) w l h = (mapped-equal r q there l.left (app f w) h.0, mapped-equal r q there l.right (app g w) h.1)

  some-back : (o : Option Literal) (k : Literal) → option_map (literal_mapped r) o ≡ Some k → (l : Literal) × (o ≡ Some l) × (k ≡ literal_mapped r l)
  some-back None k e = absurd cc
  some-back (Some l) k e = (l, refl, cc)

  stands-mapped : (clause : ClauseTree) (i : ℕ) (claim : Claim) (s : Literal) → StandsFor clause i claim s → StandsFor (clause_mapped r clause) i (claim_mapped r claim) (literal_mapped r s)
  stands-mapped clause i claim s h = record {
    may_fit = may_fit-mapped r clause.variables claim s.right h.may_fit;
    fits_there = λ k xs e speaks vs.
        let o = some-back (slice_get clause.literals i) k (sym (slice_get-map (literal_mapped r) clause.literals i) ∙ e) in
        let w : applied_to (symbols_mapped r s.left) xs ≡ symbols_mapped r (applied_to s.left xs) = applied-same r clause.variables claim s.left xs vs in
        let said = subst (λ (t : Tree). SpeaksOf (claim_mapped r claim) t (literal_mapped r o.0)) w (subst (λ (l : Literal). SpeaksOf (claim_mapped r claim) (applied_to (symbols_mapped r s.left) xs) l) o.2 speaks) in
        fits-mapped r clause.variables claim s.right xs (h.fits_there o.0 xs o.1 (speaks-back claim (applied_to s.left xs) o.0 said) vs);
  }

-- ---- both maps undo one another

module _ (r q : ℕ → ℕ) (there : (n : ℕ) → q (r n) ≡ n) (back : (n : ℕ) → r (q n) ≡ n) where
  new-mapped : (hypotheses : List Tree) (lines : List Line) (s : ℕ) (ls : List Literal) → IsNewSymbol hypotheses lines s ls →
      IsNewSymbol (map (symbols_mapped r) hypotheses) (map (line_mapped r) lines) (r s) (map (literal_mapped r) ls)
  new-mapped hypotheses lines s ls h = record {
    hypotheses_lack = terms_lack-mapped r q there s hypotheses h.hypotheses_lack;
    lines_lack = lines_lack-mapped r q there s lines h.lines_lack;
    no_variable = λ a t e. subst HasNoVariable (mapped-back q r back t) (no_variable-mapped r (symbols_mapped q t) (h.no_variable a (symbols_mapped q t) (defined-back r q there s ls a t e)));
    term_lacks = λ a t e. subst (LacksSymbol (r s)) (mapped-back q r back t) (lacks-mapped r q there s (symbols_mapped q t) (h.term_lacks a (symbols_mapped q t) (defined-back r q there s ls a t e)));
  }

  names-mapped : (lines : List Line) (clause : ClauseTree) (i : ℕ) (a : Option ℕ) (Becomes Other : Claim → Type 0) → ((k : Claim) → Other k → Becomes (claim_mapped q k)) →
      NamesSymbolFor lines clause i a Becomes → NamesSymbolFor (map (line_mapped r) lines) (clause_mapped r clause) i a Other
  names-mapped lines clause i None Becomes Other was h = h
  names-mapped lines clause i (Some a) Becomes Other was h =
      subst (λ (o : Option Literal). IsSomeAnd o (λ s. (claim : Claim) → Other claim → StandsFor (clause_mapped r clause) i claim s)) (sym (abbreviation-mapped r lines a))
      (there-mapped (literal_mapped r) (abbreviation_of lines a) _ _
      (λ s k claim becomes. subst (λ (c : Claim). StandsFor (clause_mapped r clause) i c (literal_mapped r s)) (claim-back q r back claim) (stands-mapped r q there clause i (claim_mapped q claim) s (k (claim_mapped q claim) (was claim becomes)))) h)

  claims-back : (k : LogicKind) (l : Literal) (claim : Claim) → Claims k (literal_mapped r l) claim → Claims k l (claim_mapped q claim)
  claims-back k l claim h = subst (λ (j : Literal). Claims k j (claim_mapped q claim)) (literal-back r q there l) (claims-mapped q k (literal_mapped r l) claim h)

  difference-back : (l : Literal) (claim : Claim) → claim ≡ difference_in (literal_mapped r l) → claim_mapped q claim ≡ difference_in l
  difference-back l claim e = ap (claim_mapped q) e ∙ (sym (difference_in-mapped q (literal_mapped r l)) ∙ ap difference_in (literal-back r q there l))

  logic_symbol-mapped : (lines : List Line) (clause : ClauseTree) (i : ℕ) (a : Option ℕ) (l : Literal) (k : LogicKind) → LogicHasSymbol lines clause i a l k →
      LogicHasSymbol (map (line_mapped r) lines) (clause_mapped r clause) i a (literal_mapped r l) k
  logic_symbol-mapped lines clause i a l kind.AllF h = names-mapped lines clause i a _ _ (claims-back kind.AllF l) h
  logic_symbol-mapped lines clause i a l kind.SomeT h = names-mapped lines clause i a _ _ (claims-back kind.SomeT l) h
  logic_symbol-mapped lines clause i a l _ h = h

  function_symbol-mapped : (lines : List Line) (clause : ClauseTree) (i : ℕ) (a : Option ℕ) (l : Literal) (b : Bool) → FuncExtHasSymbol lines clause i a l b →
      FuncExtHasSymbol (map (line_mapped r) lines) (clause_mapped r clause) i a (literal_mapped r l) b
  function_symbol-mapped lines clause i a l true h = h
  function_symbol-mapped lines clause i a l false h = names-mapped lines clause i a _ _ (difference-back l) h

  pub symbols-mapped : (hypotheses : List Tree) (lines : List Line) (clause : ClauseTree) (rule : StepRule) → HasSymbol hypotheses lines clause rule →
      HasSymbol (map (symbols_mapped r) hypotheses) (map (line_mapped r) lines) (clause_mapped r clause) (rule_mapped r rule)
  symbols-mapped hypotheses lines clause (take_apart p i k a) h = of_literal r lines p i _ _ (λ l e. logic_symbol-mapped lines clause i a l k e) h
  symbols-mapped hypotheses lines clause (func_ext p i a) h = of_literal r lines p i _ _ (λ l e. function_symbol-mapped lines clause i a l l.positive e) h
  symbols-mapped hypotheses lines clause (abbreviate s) h = new-mapped hypotheses lines s clause.literals h
  symbols-mapped hypotheses lines clause _ h = h
