-- Falsity needs no definitions: each symbol that a line abbreviates gives way to its closed term, the last one first.
use Rattle.std.proofs.Common.{◌≡◌, ℕ, zero, suc, ◌+◌, Bool, true, false, ◌&&◌, cond, List, [], ◌∷◌, ◌++◌, length, map, take, slice_get, Option, Some, None, inl, inr, append_assoc, refl, sym, ap, ◌∙◌, subst, eqb, eq-eqb, arith}
use Rattle.std.specs.List.{Contains}
use Rattle.std.proofs.lemmas.Bool.{eqb-true, and_parts}
use Rattle.std.proofs.lemmas.List.{map-append, append-nil}
use Rattle.std.proofs.lemmas.List.Elements.{Contains-append_left, Contains-append_right, Contains-append_cases}
use Rattle.leo_q0.specs.Terms.{SimpleType, same_type, Variable, Term, constant, HasType}
use Rattle.leo_q0.specs.Substitution.{is_free}
use Rattle.leo_q0.specs.Connectives.{equation, false_term}
use Rattle.leo_q0.specs.Derivations.{Derivable, by_hypothesis}
use Rattle.leo_q0.proofs.Variables.{same_type-refl, equal_types}
use Rattle.leo_q0.proofs.Equations.{same}
use Rattle.leo_q0.proofs.Lists.{derivation}
use Rattle.leo_terms.specs.Tree.{Tree, variable, bound, symbol, app, lam, logic, absent, Connective, truth, falsity, negation, disjunction, conjunction, implication, equality, universal, existential, choice, type_of}
use Rattle.leo_terms.specs.Typing.{IsWellTyped}
use Rattle.leo_terms.specs.Decode.{connected, decoded}
use Rattle.leo_terms.proofs.CallerLemmas.{decoded_typed}
use Rattle.leo_clause.specs.Trees.{Literal, ClauseTree}
use Rattle.leo_clause.specs.Typed.{IsOver}
use Rattle.leo_clause.specs.Formulas.{signed}
use Rattle.leo_kernel.specs.Shapes.{equal}
use Rattle.leo_kernel.specs.Steps.{Line, abbreviate}
use Rattle.leo_kernel.specs.Symbols.{LacksSymbol, LackSymbol, LiteralsLackSymbol, LinesLackSymbol, abbreviation_in, HasSymbol}
use Rattle.leo_kernel.specs.Conclusions.{HasShape}
use Rattle.leo_kernel.specs.Acceptance.{AreAccepted}
use Rattle.leo_simulation.specs.Proper.{AreProper, AreHypotheses}
use Rattle.leo_simulation.specs.Laws.{RefutationsDeriveFalsity}
use Rattle.leo_simulation.proofs.Constants.{Meanings, AreClosedMeanings, put_for, or_constant, Derivable-put_for}
use Rattle.leo_simulation.proofs.Sayings.{literal_said, literals_said, clause_said, IsFine, AreFine, free_below}
use Rattle.leo_simulation.proofs.Lines.{listed, definitions, grounds, abbreviating, line_sensible, line_says}

-- one closed term for one symbol
abbrev pub meaning : ℕ → SimpleType → Term → Meanings
meaning s a d n b = cond (eqb n s && same_type b a) (Some d) None

meaning_closed : (s : ℕ) (a : SimpleType) (t : Tree) → IsWellTyped t → type_of t ≡ a → IsOver [] 0 t → AreClosedMeanings (meaning s a (decoded 0 t))
meaning_closed s a t w e o n b u h = go (eqb n s && same_type b a) refl h
  where
    go : (c : Bool) → (eqb n s && same_type b a) ≡ c → cond c (Some (decoded 0 t)) None ≡ Some u → HasType u b × ((v : Variable) → is_free v u ≡ false)
    go true k h =
        let p = and_parts (eqb n s) (same_type b a) k in
        let types : b ≡ a = equal_types b a p.1 in
        let terms : decoded 0 t ≡ u = some_term h in
        subst (λ x. HasType x b × ((v : Variable) → is_free v x ≡ false)) terms
        (subst (HasType (decoded 0 t)) (e ∙ sym types) (decoded_typed t 0 w), λ v. free_below [] t 0 (omega arith) w o v (omega arith))
      where
        some_term : {x y : Term} → Some x ≡ Some y → x ≡ y
        some_term e = cc
    go false k h = cc

module _ (s : ℕ) (a : SimpleType) (d : Term) where
  pub connected_put : (c : Connective) (x y : Term) → put_for (meaning s a d) (connected c x y) ≡ connected c (put_for (meaning s a d) x) (put_for (meaning s a d) y)
  connected_put truth x y = refl
  connected_put falsity x y = refl
  connected_put negation x y = refl
  connected_put disjunction x y = refl
  connected_put conjunction x y = refl
  connected_put implication x y = refl
  connected_put (equality b) x y = refl
  connected_put (universal b) x y = refl
  connected_put (existential b) x y = refl
  connected_put (choice b) x y = refl

  other_constant : (n : ℕ) (b : SimpleType) → (n ≡ s → ⊥) → or_constant n b (cond (eqb n s && same_type b a) (Some d) None) ≡ constant n b
  other_constant n b h = go (eqb n s) refl
    where
      go : (c : Bool) → eqb n s ≡ c → or_constant n b (cond (c && same_type b a) (Some d) None) ≡ constant n b
      go true e = absurd (h (eqb-true n s e))
      go false e = refl

  -- a term without the symbol stays
  lacking_put : (n : ℕ) (t : Tree) → LacksSymbol s t → put_for (meaning s a d) (decoded n t) ≡ decoded n t
  lacking_put n (variable m b) h = refl
  lacking_put n (bound i b) h = refl
  lacking_put n (symbol m b) h = other_constant m b h
  lacking_put n (app f x) h = rw (lacking_put n f h.0, lacking_put n x h.1) refl
  lacking_put n (lam b t) h = rw (lacking_put (n + 1) t h) refl
  lacking_put n (logic c x y) h =
      connected_put c (decoded n x) (decoded n y) ∙ (let p = lacking_put n x h.0 in let q = lacking_put n y h.1 in rw (p, q) refl)
  lacking_put n absent h = refl

  signed_put : (b : Bool) (c : SimpleType) (x y : Term) → put_for (meaning s a d) (signed b (equation c x y)) ≡ signed b (equation c (put_for (meaning s a d) x) (put_for (meaning s a d) y))
  signed_put true c x y = refl
  signed_put false c x y = refl

  literal_put : (l : Literal) → LacksSymbol s l.left → LacksSymbol s l.right → put_for (meaning s a d) (literal_said 0 l) ≡ literal_said 0 l
  literal_put l h k =
      signed_put l.positive (type_of l.left) (decoded 0 l.left) (decoded 0 l.right) ∙
      (let p = lacking_put 0 l.left h in let q = lacking_put 0 l.right k in rw (p, q) refl)

  own_constant : put_for (meaning s a d) (constant s a) ≡ d
  own_constant = rw (eq-eqb s s refl, same_type-refl a) refl

-- the members of the hypotheses and of the definitions lack a new symbol
hypothesis_lacks : (s : ℕ) (hypotheses : List Tree) (u : Term) → LackSymbol s hypotheses → Contains (map (decoded 0) hypotheses) u → (t : Tree) × (LacksSymbol s t × (decoded 0 t ≡ u))
hypothesis_lacks s [] u h c = absurd (let k = c.1 in let f : ⊥ = omega arith in f)
hypothesis_lacks s (t ∷ ts) u h (zero, lt, e) = (t, (h.0, e))
hypothesis_lacks s (t ∷ ts) u h (suc i, lt, e) = hypothesis_lacks s ts u h.1 (i, omega (arith, lt), e)

literal_lacks : (s : ℕ) (ls : List Literal) (ab : Literal) → LiteralsLackSymbol s ls → ls ≡ ab ∷ [] → LacksSymbol s ab.left × LacksSymbol s ab.right
literal_lacks s ls ab h e = let k = subst (LiteralsLackSymbol s) e h in (k.0, k.1)

definition_lacks : (s : ℕ) (lines : List Line) (u : Term) → LinesLackSymbol s lines → Contains (literals_said 0 (definitions lines)) u → (l : Literal) × (LacksSymbol s l.left × (LacksSymbol s l.right × (literal_said 0 l ≡ u)))
definition_lacks s [] u h c = absurd (let k = c.1 in let f : ⊥ = omega arith in f)
definition_lacks s (l ∷ ls) u h c = go (abbreviation_in l.rule l.clause.literals) refl c (definition_lacks s ls u h.2)
  where
    go : (o : Option Literal) → abbreviation_in l.rule l.clause.literals ≡ o → Contains (literals_said 0 (listed o ++ definitions ls)) u →
        (Contains (literals_said 0 (definitions ls)) u → (k : Literal) × (LacksSymbol s k.left × (LacksSymbol s k.right × (literal_said 0 k ≡ u)))) →
        (k : Literal) × (LacksSymbol s k.left × (LacksSymbol s k.right × (literal_said 0 k ≡ u)))
    go None q c inner = inner c
    go (Some ab) q (zero, lt, e) inner =
        let a = abbreviating l.rule l.clause.literals ab q in
        let k = literal_lacks s l.clause.literals ab h.0 a.1.1 in
        (ab, (k.0, (k.1, e)))
    go (Some ab) q (suc i, lt, e) inner = inner (i, omega (arith, lt), e)

pub definitions-append : (xs ys : List Line) → definitions (xs ++ ys) ≡ definitions xs ++ definitions ys
definitions-append [] ys = refl
definitions-append (x ∷ xs) ys =
    ap (λ ds. listed (abbreviation_in x.rule x.clause.literals) ++ ds) (definitions-append xs ys) ∙ sym (append_assoc (listed (abbreviation_in x.rule x.clause.literals)) (definitions xs) (definitions ys))

pub take_next : {X : Type 0} (xs : List X) (n : ℕ) (x : X) → slice_get xs n ≡ Some x → take (suc n) xs ≡ take n xs ++ x ∷ []
take_next [] n x e = cc
take_next (y ∷ ys) zero x e = ap (λ z. z ∷ []) (some_value e)
  where
    some_value : {X : Type 0} {x y : X} → Some x ≡ Some y → x ≡ y
    some_value e = cc
take_next (y ∷ ys) (suc n) x e = ap (λ zs. y ∷ zs) (take_next ys n x e)

pub take_past : {X : Type 0} (xs : List X) (n : ℕ) → slice_get xs n ≡ None → take (suc n) xs ≡ take n xs
take_past [] zero e = refl
take_past [] (suc n) e = refl
take_past (y ∷ ys) zero e = cc
take_past (y ∷ ys) (suc n) e = ap (λ zs. y ∷ zs) (take_past ys n e)

pub take_all : {X : Type 0} (xs : List X) → take (length xs) xs ≡ xs
take_all [] = refl
take_all (x ∷ xs) = ap (λ zs. x ∷ zs) (take_all xs)

module _ (hypotheses : List Tree) (lines : List Line) (formulas : AreHypotheses hypotheses) (proper : AreProper lines) (accepted : AreAccepted hypotheses lines) where
  -- the definition that a line makes, and that it is not needed: its symbol gives way to its closed term
  pub record Abbreviates (n : ℕ) (line : Line) (ab : Literal) : Type 0 where
    pub number : ℕ
    pub type : SimpleType
    pub term : Tree
    pub rule_is : line.rule ≡ abbreviate number
    pub literals_are : line.clause.literals ≡ ab ∷ []
    pub literal_is : ab ≡ equal (symbol number type) term
    pub fine : IsFine [] (equal (symbol number type) term)
    pub removed : {goal : Term} → Derivable (map (decoded 0) hypotheses ++ (literals_said 0 (definitions (take n lines)) ++ literal_said 0 ab ∷ [])) goal →
        Derivable (map (decoded 0) hypotheses ++ literals_said 0 (definitions (take n lines))) (put_for (meaning number type (decoded 0 term)) goal)

  pub abbreviates : (n : ℕ) (line : Line) (ab : Literal) → slice_get lines n ≡ Some line → abbreviation_in line.rule line.clause.literals ≡ Some ab → Abbreviates n line ab
  abbreviates n line ab e k =
      let a = abbreviating line.rule line.clause.literals ab k in
      let s = a.0 in
      let accepts = accepted n line e in
      let shape = subst (HasShape hypotheses (take n lines) line.clause) a.1.0 accepts.shape in
      let new = subst (HasSymbol hypotheses (take n lines) line.clause) a.1.0 accepts.symbols in
      let ty = shape.0 in
      let t = shape.1.0 in
      let whole = shape.1.1 in
      let lits : line.clause.literals ≡ equal (symbol s ty) t ∷ [] = ap (λ (c : ClauseTree). c.literals) whole in
      let ab_is : ab ≡ equal (symbol s ty) t = first (sym a.1.1 ∙ lits) in
      let fine : AreFine [] (equal (symbol s ty) t ∷ []) = subst (λ v. AreFine v (equal (symbol s ty) t ∷ [])) (ap (λ (c : ClauseTree). c.variables) whole)
      (subst (AreFine line.clause.variables) lits (line_sensible hypotheses lines formulas proper accepted n line e)) in
      let m = meaning s ty (decoded 0 t) in
      let closed = meaning_closed s ty t fine.0.right_typed (sym fine.0.typed.same_type) fine.0.typed.right_over in
      let t_lacks = new.term_lacks ty t lits in
      let definition : Derivable (map (decoded 0) hypotheses ++ literals_said 0 (definitions (take n lines))) (put_for m (literal_said 0 ab)) =
      own_definition s ty t ab ab_is t_lacks (decoded_typed t 0 fine.0.right_typed) (sym fine.0.typed.same_type) in
      record {
        number = s;
        type = ty;
        term = t;
        rule_is = a.1.0;
        literals_are = a.1.1;
        literal_is = ab_is;
        fine = fine.0;
        removed = λ {goal} d. Derivable-put_for m closed (λ u c. given s ty (decoded 0 t) n ab new.hypotheses_lack new.lines_lack definition u c) d;
      }
    where
      first : {x y : Literal} → x ∷ [] ≡ y ∷ [] → x ≡ y
      first e = cc

      own_definition : {K : List Term} (s : ℕ) (ty : SimpleType) (t : Tree) (ab : Literal) → ab ≡ equal (symbol s ty) t → LacksSymbol s t → HasType (decoded 0 t) (type_of t) → type_of t ≡ ty →
          Derivable K (put_for (meaning s ty (decoded 0 t)) (literal_said 0 ab))
      own_definition {K} s ty t ab e lacks h types =
          subst (λ l. Derivable K (put_for (meaning s ty (decoded 0 t)) (literal_said 0 l))) (sym e)
          (rw (own_constant s ty (decoded 0 t), lacking_put s ty (decoded 0 t) 0 t lacks) (same (subst (HasType (decoded 0 t)) types h)).derived)

      given : (s : ℕ) (ty : SimpleType) (d : Term) (n : ℕ) (ab : Literal) → LackSymbol s hypotheses → LinesLackSymbol s (take n lines) →
          Derivable (map (decoded 0) hypotheses ++ literals_said 0 (definitions (take n lines))) (put_for (meaning s ty d) (literal_said 0 ab)) → (u : Term) →
          Contains (map (decoded 0) hypotheses ++ (literals_said 0 (definitions (take n lines)) ++ literal_said 0 ab ∷ [])) u →
          Derivable (map (decoded 0) hypotheses ++ literals_said 0 (definitions (take n lines))) (put_for (meaning s ty d) u)
      given s ty d n ab hl ll own u c =
          elim (Contains-append_cases (map (decoded 0) hypotheses) (literals_said 0 (definitions (take n lines)) ++ literal_said 0 ab ∷ []) u c) [
            | inl h ↦
                (let k = hypothesis_lacks s hypotheses u hl h in
                let stays = lacking_put s ty d 0 k.0 k.1.0 in
                let same_term : put_for (meaning s ty d) u ≡ u = subst (λ x. put_for (meaning s ty d) x ≡ x) k.1.1 stays in
                subst (Derivable (map (decoded 0) hypotheses ++ literals_said 0 (definitions (take n lines)))) (sym same_term)
                (by_hypothesis (Contains-append_left (map (decoded 0) hypotheses) (literals_said 0 (definitions (take n lines))) u h)))
            | inr r ↦
                elim (Contains-append_cases (literals_said 0 (definitions (take n lines))) (literal_said 0 ab ∷ []) u r) [
                  | inl h ↦
                      (let k = definition_lacks s (take n lines) u ll h in
                      let stays = literal_put s ty d k.0 k.1.0 k.1.1.0 in
                      let same_term : put_for (meaning s ty d) u ≡ u = subst (λ x. put_for (meaning s ty d) x ≡ x) k.1.1.1 stays in
                      subst (Derivable (map (decoded 0) hypotheses ++ literals_said 0 (definitions (take n lines)))) (sym same_term)
                      (by_hypothesis (Contains-append_right (map (decoded 0) hypotheses) (literals_said 0 (definitions (take n lines))) u h)))
                  | inr h ↦ subst (λ x. Derivable (map (decoded 0) hypotheses ++ literals_said 0 (definitions (take n lines))) (put_for (meaning s ty d) x)) (only_one u h) own
                ]
          ]
        where
          only_one : (u : Term) → Contains (literal_said 0 ab ∷ []) u → literal_said 0 ab ≡ u
          only_one u (zero, lt, e) = e
          only_one u (suc i, lt, e) = absurd (let f : ⊥ = omega (arith, lt) in f)

  without_definitions : (n : ℕ) → Derivable (map (decoded 0) hypotheses ++ literals_said 0 (definitions (take n lines))) false_term → Derivable (map (decoded 0) hypotheses) false_term
  without_definitions zero d = subst (λ hs. Derivable hs false_term) (append-nil (map (decoded 0) hypotheses)) d
  without_definitions (suc n) d = at_line (slice_get lines n) refl d (without_definitions n)
    where
      goal : List Line → Type 0
      goal ls = Derivable (map (decoded 0) hypotheses ++ literals_said 0 (definitions ls)) false_term

      made : (line : Line) (o : Option Literal) → abbreviation_in line.rule line.clause.literals ≡ o → slice_get lines n ≡ Some line → (goal (take n lines) → Derivable (map (decoded 0) hypotheses) false_term) →
          Derivable (map (decoded 0) hypotheses ++ literals_said 0 (definitions (take n lines) ++ (listed o ++ []))) false_term → Derivable (map (decoded 0) hypotheses) false_term
      made line None k e rest d =
          rest (subst (λ ds. Derivable (map (decoded 0) hypotheses ++ literals_said 0 ds) false_term) (append-nil (definitions (take n lines))) d)
      made line (Some ab) k e rest d =
          rest ((abbreviates n line ab e k).removed
          (subst (λ ts. Derivable (map (decoded 0) hypotheses ++ ts) false_term) (map-append (literal_said 0) (definitions (take n lines)) (ab ∷ [])) d))

      at_line : (o : Option Line) → slice_get lines n ≡ o → goal (take (suc n) lines) → (goal (take n lines) → Derivable (map (decoded 0) hypotheses) false_term) → Derivable (map (decoded 0) hypotheses) false_term
      at_line None e d rest = rest (subst goal (take_past lines n e) d)
      at_line (Some line) e d rest =
          let split : definitions (take (suc n) lines) ≡ definitions (take n lines) ++ (listed (abbreviation_in line.rule line.clause.literals) ++ []) =
          ap definitions (take_next lines n line e) ∙ definitions-append (take n lines) (line ∷ []) in
          made line (abbreviation_in line.rule line.clause.literals) refl e rest (subst (λ ds. Derivable (map (decoded 0) hypotheses ++ literals_said 0 ds) false_term) split d)

pub refutations_derive_falsity : RefutationsDeriveFalsity
refutations_derive_falsity hypotheses lines formulas proper accepted n line e empty =
    let says = line_says hypotheses lines formulas proper accepted n line e in
    let falsity_said : Derivable (grounds hypotheses lines) false_term = subst (λ ls. Derivable (grounds hypotheses lines) (clause_said (length line.clause.variables) ls)) empty says.said in
    derivation (without_definitions hypotheses lines formulas proper accepted (length lines)
    (subst (λ ls. Derivable (map (decoded 0) hypotheses ++ literals_said 0 (definitions ls)) false_term) (sym (take_all lines)) falsity_said))
