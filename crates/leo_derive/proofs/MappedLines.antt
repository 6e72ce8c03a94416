-- What a rule names among lines whose symbols have other numbers: it is there, and has its types.
use Rattle.std.proofs.Common.{ℕ, zero, suc, ◌≡◌, ◌<◌, List, [], ◌∷◌, length, map, refl, sym, ◌∙◌, ap, subst}
use Rattle.std.specs.Prelude.{slice_get, Option, Some, None, IsSomeAnd}
use Rattle.std.specs.Option.{option_map, option_and_then}
use Rattle.std.proofs.lemmas.List.{length-map}
use Rattle.std.proofs.lemmas.Option.{slice_get-map}
use Rattle.leo_q0.specs.Terms.{SimpleType}
use Rattle.leo_terms.specs.Tree.{Tree, variable, bound, symbol, app, lam, logic, absent}
use Rattle.leo_clause.specs.declared.record.Side.{Side}
use Rattle.leo_clause.specs.declared.record.Side.TheVariants.{Left, Right}
use Rattle.leo_clause.specs.Trees.{Literal, ClauseTree}
use Rattle.leo_kernel.specs.Shapes.{side_of, other_side_of, literal_type}
use Rattle.leo_kernel.specs.Places.{present, child, subterm}
use Rattle.leo_kernel.specs.Steps.{StepRule, assume, convert, inst, para, arrange, drop_literal, take_apart, bool_ext, func_ext, decompose, reflexivity, choose, factor, abbreviate, Line, clause_in, clause_of, literal_of}
use Rattle.leo_clause.specs.Renaming.{AreGiven}
use Rattle.leo_kernel.specs.Conditions.{AreTermsFor, IsLineIfNamed, HasParents, IsLiteralOf, HasLiterals, HasPlace, RuleHasTypes, HasTypes}
use Rattle.leo_kernel.specs.Symbols.{only_literal, abbreviation_in, abbreviation_at, abbreviation_of}
use Rattle.leo_derive.specs.Renaming.{symbols_mapped, literal_mapped, clause_mapped, rule_mapped, line_mapped}
use Rattle.leo_derive.proofs.MappedTerms.{mapped-type}
use Rattle.leo_derive.proofs.MappedTyping.{are_given-mapped, terms_for-mapped, heads-mapped, literals_typed-mapped}

-- what is so of something that may be missing
pub there-mapped : {X Y : Type 0} (f : X → Y) (o : Option X) (P : X → Type 0) (Q : Y → Type 0) → ((x : X) → P x → Q (f x)) → IsSomeAnd o P → IsSomeAnd (option_map f o) Q
there-mapped f None P Q k h = h
there-mapped f (Some x) P Q k h = k x h

-- lines, literals and abbreviations by number

clause_in-mapped : (r : ℕ → ℕ) (o : Option Line) → clause_in (option_map (line_mapped r) o) ≡ clause_mapped r (clause_in o)
clause_in-mapped r None = refl
clause_in-mapped r (Some l) = refl

pub clause-mapped : (r : ℕ → ℕ) (lines : List Line) (p : ℕ) → clause_of (map (line_mapped r) lines) p ≡ clause_mapped r (clause_of lines p)
clause-mapped r lines p = ap clause_in (slice_get-map (line_mapped r) lines p) ∙ clause_in-mapped r (slice_get lines p)

pub literal-mapped : (r : ℕ → ℕ) (lines : List Line) (p i : ℕ) → literal_of (map (line_mapped r) lines) p i ≡ option_map (literal_mapped r) (literal_of lines p i)
literal-mapped r lines p i = ap (λ (c : ClauseTree). slice_get c.literals i) (clause-mapped r lines p) ∙ slice_get-map (literal_mapped r) (clause_of lines p).literals i

only-mapped : (r : ℕ → ℕ) (ls : List Literal) → only_literal (map (literal_mapped r) ls) ≡ option_map (literal_mapped r) (only_literal ls)
only-mapped r [] = refl
only-mapped r (l ∷ []) = refl
only-mapped r (l ∷ k ∷ ls) = refl

abbreviation_in-mapped : (r : ℕ → ℕ) (rule : StepRule) (ls : List Literal) → abbreviation_in (rule_mapped r rule) (map (literal_mapped r) ls) ≡ option_map (literal_mapped r) (abbreviation_in rule ls)
abbreviation_in-mapped r (abbreviate s) ls = only-mapped r ls
abbreviation_in-mapped r _ ls = refl

abbreviation_at-mapped : (r : ℕ → ℕ) (o : Option Line) → abbreviation_at (option_map (line_mapped r) o) ≡ option_map (literal_mapped r) (abbreviation_at o)
abbreviation_at-mapped r None = refl
abbreviation_at-mapped r (Some l) = abbreviation_in-mapped r l.rule l.clause.literals

pub abbreviation-mapped : (r : ℕ → ℕ) (lines : List Line) (a : ℕ) → abbreviation_of (map (line_mapped r) lines) a ≡ option_map (literal_mapped r) (abbreviation_of lines a)
abbreviation-mapped r lines a = ap abbreviation_at (slice_get-map (line_mapped r) lines a) ∙ abbreviation_at-mapped r (slice_get lines a)

-- sides, and what stands at a path

pub side-mapped : (r : ℕ → ℕ) (s : Side) (l : Literal) → side_of s (literal_mapped r l) ≡ symbols_mapped r (side_of s l)
side-mapped r Left l = refl
side-mapped r Right l = refl

pub other_side-mapped : (r : ℕ → ℕ) (s : Side) (l : Literal) → other_side_of s (literal_mapped r l) ≡ symbols_mapped r (other_side_of s l)
other_side-mapped r Left l = refl
other_side-mapped r Right l = refl

argument-mapped : (r : ℕ → ℕ) (t : Tree) → present (symbols_mapped r t) ≡ option_map (symbols_mapped r) (present t)
argument-mapped r (variable n a) = refl
argument-mapped r (bound i a) = refl
argument-mapped r (symbol n a) = refl
argument-mapped r (app f x) = refl
argument-mapped r (lam a t) = refl
argument-mapped r (logic c x y) = refl
argument-mapped r absent = refl

child-mapped : (r : ℕ → ℕ) (n : ℕ) (t : Tree) → child n (symbols_mapped r t) ≡ option_map (symbols_mapped r) (child n t)
child-mapped r zero (app f x) = refl
child-mapped r (suc zero) (app f x) = refl
child-mapped r (suc (suc n)) (app f x) = refl
child-mapped r zero (logic c x y) = argument-mapped r x
child-mapped r (suc zero) (logic c x y) = argument-mapped r y
child-mapped r (suc (suc n)) (logic c x y) = refl
child-mapped r n (variable m a) = refl
child-mapped r n (bound i a) = refl
child-mapped r n (symbol m a) = refl
child-mapped r n (lam a t) = refl
child-mapped r n absent = refl

next-mapped : (r : ℕ → ℕ) (go : Tree → Option Tree) → ((t : Tree) → go (symbols_mapped r t) ≡ option_map (symbols_mapped r) (go t)) → (o : Option Tree) → option_and_then go (option_map (symbols_mapped r) o) ≡ option_map (symbols_mapped r) (option_and_then go o)
next-mapped r go k None = refl
next-mapped r go k (Some t) = k t

pub subterm-mapped : (r : ℕ → ℕ) (path : List ℕ) (t : Tree) → subterm path (symbols_mapped r t) ≡ option_map (symbols_mapped r) (subterm path t)
subterm-mapped r [] t = refl
subterm-mapped r (n ∷ path) t = ap (option_and_then (subterm path)) (child-mapped r n t) ∙ next-mapped r (subterm path) (subterm-mapped r path) (child n t)

-- what stands at a path in a side
pub place-mapped : (r : ℕ → ℕ) (path : List ℕ) (s : Side) (l : Literal) → subterm path (side_of s (literal_mapped r l)) ≡ option_map (symbols_mapped r) (subterm path (side_of s l))
place-mapped r path s l = ap (subterm path) (side-mapped r s l) ∙ subterm-mapped r path (side_of s l)

-- of a literal that is there
pub of_literal : (r : ℕ → ℕ) (lines : List Line) (p i : ℕ) (P Q : Literal → Type 0) → ((l : Literal) → P l → Q (literal_mapped r l)) → IsSomeAnd (literal_of lines p i) P → IsSomeAnd (literal_of (map (line_mapped r) lines) p i) Q
of_literal r lines p i P Q k h = subst (λ (o : Option Literal). IsSomeAnd o Q) (sym (literal-mapped r lines p i)) (there-mapped (literal_mapped r) (literal_of lines p i) P Q k h)

-- of what is there at a path in a literal's side
pub of_place : (r : ℕ → ℕ) (path : List ℕ) (s : Side) (l : Literal) (P Q : Tree → Type 0) → ((t : Tree) → P t → Q (symbols_mapped r t)) → IsSomeAnd (subterm path (side_of s l)) P → IsSomeAnd (subterm path (side_of s (literal_mapped r l))) Q
of_place r path s l P Q k h = subst (λ (o : Option Tree). IsSomeAnd o Q) (sym (place-mapped r path s l)) (there-mapped (symbols_mapped r) (subterm path (side_of s l)) P Q k h)

module _ (r : ℕ → ℕ) (hypotheses : List Tree) (lines : List Line) where
  within : (p : ℕ) → p < length lines → p < length (map (line_mapped r) lines)
  within p h = rw (length-map lines (line_mapped r)) h

  named-within : (a : Option ℕ) → IsLineIfNamed lines a → IsLineIfNamed (map (line_mapped r) lines) a
  named-within None h = h
  named-within (Some a) h = within a h

  pub parents-mapped : (rule : StepRule) → HasParents hypotheses lines rule → HasParents (map (symbols_mapped r) hypotheses) (map (line_mapped r) lines) (rule_mapped r rule)
  parents-mapped (assume h) e = rw (length-map hypotheses (symbols_mapped r)) e
  parents-mapped (convert p) e = within p e
  parents-mapped (inst p sigma) e = within p e
  parents-mapped (para p i s q j side path) e = (within p e.0, within q e.1)
  parents-mapped (arrange p) e = within p e
  parents-mapped (drop_literal p i) e = within p e
  parents-mapped (take_apart p i kind a) e = (within p e.0, named-within a e.1)
  parents-mapped (bool_ext p i half) e = within p e
  parents-mapped (func_ext p i a) e = (within p e.0, named-within a e.1)
  parents-mapped (decompose p i) e = within p e
  parents-mapped reflexivity e = e
  parents-mapped choose e = e
  parents-mapped (factor p i j) e = within p e
  parents-mapped (abbreviate s) e = e

module _ (r : ℕ → ℕ) (lines : List Line) where
  literal_there : (p i : ℕ) → IsLiteralOf lines p i → IsLiteralOf (map (line_mapped r) lines) p i
  literal_there p i h = rw (clause-mapped r lines p, length-map (clause_of lines p).literals (literal_mapped r)) h

  pub has_literals-mapped : (rule : StepRule) → HasLiterals lines rule → HasLiterals (map (line_mapped r) lines) (rule_mapped r rule)
  has_literals-mapped (para p i s q j side path) e = (literal_there p i e.0, literal_there q j e.1)
  has_literals-mapped (drop_literal p i) e = literal_there p i e
  has_literals-mapped (take_apart p i kind a) e = literal_there p i e
  has_literals-mapped (bool_ext p i half) e = literal_there p i e
  has_literals-mapped (func_ext p i a) e = literal_there p i e
  has_literals-mapped (decompose p i) e = literal_there p i e
  has_literals-mapped (factor p i j) (e, h, k) = (literal_there p i e, literal_there p j h, k)
  has_literals-mapped _ e = e

  pub has_place-mapped : (rule : StepRule) → HasPlace lines rule → HasPlace (map (line_mapped r) lines) (rule_mapped r rule)
  has_place-mapped (para p i s q j side path) e = of_literal r lines q j _ _ (λ k h. of_place r path side k _ _ (λ t u. u) h) e
  has_place-mapped _ e = e

  type-mapped : (l : Literal) → literal_type (literal_mapped r l) ≡ literal_type l
  type-mapped l = mapped-type r l.left

  rule_types-mapped : (variables : List SimpleType) (rule : StepRule) → RuleHasTypes lines variables rule → RuleHasTypes (map (line_mapped r) lines) variables (rule_mapped r rule)
  rule_types-mapped variables (inst p sigma) e = subst (λ (c : ClauseTree). AreTermsFor variables c.variables (map (symbols_mapped r) sigma) × AreGiven (map (symbols_mapped r) sigma) c.literals) (sym (clause-mapped r lines p)) (terms_for-mapped r variables (clause_of lines p).variables sigma e.0, are_given-mapped r sigma (clause_of lines p).literals e.1)
  rule_types-mapped variables (para p i s q j side path) e =
      of_literal r lines p i _ _ (λ l. of_literal r lines q j _ _ (λ k. of_place r path side k _ _ (λ t h. rw (side-mapped r s l, mapped-type r (side_of s l), mapped-type r t) h))) e
  rule_types-mapped variables (bool_ext p i half) e = of_literal r lines p i _ _ (λ l h. type-mapped l ∙ h) e
  rule_types-mapped variables (func_ext p i a) e = of_literal r lines p i _ _ (λ l h. (rw (type-mapped l) h.0, rw (mapped-type r l.left, mapped-type r l.right) h.1)) e
  rule_types-mapped variables (decompose p i) e = of_literal r lines p i _ _ (λ l h. heads-mapped r l.left l.right h) e
  rule_types-mapped variables choose e = e
  rule_types-mapped variables (factor p i j) e = of_literal r lines p i _ _ (λ l. of_literal r lines p j _ _ (λ k h. rw (type-mapped l, type-mapped k) h)) e
  rule_types-mapped variables _ e = e

  pub types-mapped : (step : Line) → HasTypes lines step → HasTypes (map (line_mapped r) lines) (line_mapped r step)
  types-mapped step h = record {
    clause_typed = literals_typed-mapped r step.clause.variables step.clause.literals h.clause_typed;
    rule_typed = rule_types-mapped step.clause.variables step.rule h.rule_typed;
  }
