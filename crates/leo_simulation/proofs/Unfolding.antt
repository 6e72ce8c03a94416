-- What a line says with its abbreviations unfolded: closed terms put in for constants, up to the names of bound variables.
use Rattle.std.proofs.Common.{◌≡◌, ℕ, ◌+◌, ◌≤◌, Bool, true, false, ◌&&◌, cond, List, [], ◌∷◌, map, Option, Some, None, refl, sym, ap, ◌∙◌, subst, eqb, arith}
use Rattle.std.proofs.lemmas.Bool.{eqb-true}
use Rattle.leo_q0.specs.Terms.{SimpleType, same_type, Variable, Term, variable as q_variable, constant, identity, choice as q_choice, apply, lambda}
use Rattle.leo_q0.specs.Connectives.{equation, apply_two, or_term}
use Rattle.leo_q0.specs.Shapes.{Shape, free_shape, bound_shape, constant_shape, identity_shape, choice_shape, apply_shape, lambda_shape, variable_shape, place, shape}
use Rattle.leo_q0.proofs.Variables.{same_type-refl}
use Rattle.leo_terms.specs.Tree.{Tree, variable, bound, symbol, app, lam, logic, absent, Connective, truth, falsity, negation, disjunction, conjunction, implication, equality, universal, existential, choice, type_of, IsBoundAt}
use Rattle.leo_terms.specs.Typing.{IsWellTyped, IsPresent, IsPresentOf, TakesTrees}
use Rattle.leo_terms.specs.Decode.{decoded}
use Rattle.leo_terms.proofs.CallerLemmas.{lifted_shape}
use Rattle.leo_terms.proofs.DecodedShapes.{connected_shape}
use Rattle.leo_clause.specs.Trees.{Literal}
use Rattle.leo_clause.specs.Typed.{IsOver}
use Rattle.leo_clause.specs.Formulas.{Abbreviations, symbol_or, unfolded, signed}
use Rattle.leo_simulation.specs.Abbreviations.{HasSymbolTypes, LiteralsHaveSymbolTypes}
use Rattle.leo_simulation.proofs.Constants.{put_for, or_constant}
use Rattle.leo_simulation.proofs.Sayings.{fitting-over, lifted-over, literal_said, clause_said}
use Rattle.leo_simulation.proofs.Definitions.{meaning, connected_put}

-- one closed term for one symbol
abbrev pub one : ℕ → Tree → Abbreviations
one s t n = cond (eqb n s) (Some t) None

-- a closed term reads alike everywhere
pub closed_shape : (ws us : List Variable) (t : Tree) (k : ℕ) → IsWellTyped t → IsOver [] 0 t → shape ws (decoded 0 t) ≡ shape us (decoded k t)
closed_shape ws us t k w o =
    subst (λ u. shape ws (decoded 0 t) ≡ shape us (decoded k u)) (lifted-over [] 0 k t o)
    (lifted_shape t 0 0 k 0 0 k [] ws us refl (omega arith) (omega arith) (omega arith) (λ v lt. absurd (let f : ⊥ = omega (arith, lt) in f)) (λ v lt. absurd (let f : ⊥ = omega (arith, lt) in f))
    (λ j b i. absurd (let f : ⊥ = cc in f)) w (fitting-over [] 0 t 0 0 (omega arith) (omega arith) o))

module _ (types : ℕ → SimpleType) (s : ℕ) (t : Tree) (typed : IsWellTyped t) (closed : IsOver [] 0 t) where
  symbol_shape : (n k : ℕ) (a : SimpleType) (ws : List Variable) → a ≡ types n →
      shape ws (or_constant n a (cond (eqb n s && same_type a (types s)) (Some (decoded 0 t)) None)) ≡ shape ws (decoded k (symbol_or (symbol n a) (cond (eqb n s) (Some t) None)))
  symbol_shape n k a ws e = go (eqb n s) refl
    where
      go : (c : Bool) → eqb n s ≡ c → shape ws (or_constant n a (cond (c && same_type a (types s)) (Some (decoded 0 t)) None)) ≡ shape ws (decoded k (symbol_or (symbol n a) (cond c (Some t) None)))
      go true q =
          let m : a ≡ types s = e ∙ ap types (eqb-true n s q) in
          rw (m, same_type-refl (types s)) (closed_shape ws ws t k typed closed)
      go false q = refl

  -- putting in the decoded term is decoding with the term put in
  pub put_shape : (k : ℕ) (u : Tree) (ws : List Variable) → HasSymbolTypes types u → shape ws (put_for (meaning s (types s) (decoded 0 t)) (decoded k u)) ≡ shape ws (decoded k (unfolded (one s t) u))
  put_shape k (variable n a) ws h = refl
  put_shape k (bound i a) ws h = refl
  put_shape k (symbol n a) ws h = symbol_shape n k a ws h
  put_shape k (app f x) ws h = rw (put_shape k f ws h.0, put_shape k x ws h.1) refl
  put_shape k (lam a u) ws h = rw (put_shape (k + 1) u (_ ∷ ws) h) refl
  put_shape k (logic c x y) ws h =
      ap (shape ws) (connected_put s (types s) (decoded 0 t) c (decoded k x) (decoded k y)) ∙
      connected_shape c ws ws _ _ _ _ (put_shape k x ws h.0) (put_shape k y ws h.1)
  put_shape k absent ws h = refl

  -- a shape with the term's put in for its constant
  shaped : Shape → Shape
  shaped (free_shape v) = free_shape v
  shaped (bound_shape n) = bound_shape n
  shaped (constant_shape n a) = cond (eqb n s && same_type a (types s)) (shape [] (decoded 0 t)) (constant_shape n a)
  shaped (identity_shape a) = identity_shape a
  shaped (choice_shape a) = choice_shape a
  shaped (apply_shape f x) = apply_shape (shaped f) (shaped x)
  shaped (lambda_shape a x) = lambda_shape a (shaped x)

  variable_shaped : (v : Variable) (o : Option ℕ) → variable_shape v o ≡ shaped (variable_shape v o)
  unfolding shaped
  variable_shaped v None = refl
  variable_shaped v (Some n) = refl

  constant_shaped : (n : ℕ) (a : SimpleType) (ws : List Variable) (c : Bool) → shape ws (or_constant n a (cond c (Some (decoded 0 t)) None)) ≡ cond c (shape [] (decoded 0 t)) (constant_shape n a)
  constant_shaped n a ws true = closed_shape ws [] t 0 typed closed
  constant_shaped n a ws false = refl

  put_shaped : (ws : List Variable) (u : Term) → shape ws (put_for (meaning s (types s) (decoded 0 t)) u) ≡ shaped (shape ws u)
  unfolding shaped
  put_shaped ws (q_variable v) = variable_shaped v (place ws v)
  put_shaped ws (constant n a) = constant_shaped n a ws (eqb n s && same_type a (types s))
  put_shaped ws (identity a) = refl
  put_shaped ws (q_choice a) = refl
  put_shaped ws (apply f x) = rw (put_shaped ws f, put_shaped ws x) refl
  put_shaped ws (lambda v x) = rw (put_shaped (v ∷ ws) x) refl

  -- terms that are the same up to names stay so
  pub put_same : (u w : Term) → shape [] u ≡ shape [] w → shape [] (put_for (meaning s (types s) (decoded 0 t)) u) ≡ shape [] (put_for (meaning s (types s) (decoded 0 t)) w)
  put_same u w e = put_shaped [] u ∙ ap shaped e ∙ sym (put_shaped [] w)

-- what is known of the terms that symbols stand for
pub record IsMeaning (types : ℕ → SimpleType) (s : ℕ) (t : Tree) : Type 0 where
  pub typed : IsWellTyped t
  pub present : IsPresent t
  pub closed : IsOver [] 0 t
  pub type_is : type_of t ≡ types s

abbrev pub AreMeanings : (ℕ → SimpleType) → Abbreviations → Type 0
AreMeanings types terms = (n : ℕ) (t : Tree) → terms n ≡ Some t → IsMeaning types n t

over-more : (variables : List SimpleType) (k m : ℕ) (t : Tree) → k ≤ m → IsOver [] k t → IsOver variables m t
over-more variables k m (variable n a) le o = cc
over-more variables k m (bound i a) le o = omega (arith, le, o)
over-more variables k m (symbol s a) le o = tt
over-more variables k m (app f x) le o = (over-more variables k m f le o.0, over-more variables k m x le o.1)
over-more variables k m (lam a t) le o = over-more variables (k + 1) (m + 1) t (omega (arith, le)) o
over-more variables k m (logic c x y) le o = (over-more variables k m x le o.0, over-more variables k m y le o.1)
over-more variables k m absent le o = tt

bound-over : (k m : ℕ) (a : SimpleType) (t : Tree) → k ≤ m → IsOver [] k t → IsBoundAt m a t
bound-over k m a (variable n b) le o = tt
bound-over k m a (bound i b) le o = λ e. absurd (let f : ⊥ = omega (arith, e, o, le) in f)
bound-over k m a (symbol s b) le o = tt
bound-over k m a (app f x) le o = (bound-over k m a f le o.0, bound-over k m a x le o.1)
bound-over k m a (lam b t) le o = bound-over (k + 1) (m + 1) a t (omega (arith, le)) o
bound-over k m a (logic c x y) le o = (bound-over k m a x le o.0, bound-over k m a y le o.1)
bound-over k m a absent le o = tt

module _ (types : ℕ → SimpleType) (terms : Abbreviations) (good : AreMeanings types terms) where
  -- at a symbol
  at_symbol : (n : ℕ) (a : SimpleType) (P : Tree → Type 0) → a ≡ types n → P (symbol n a) → ((t : Tree) → IsMeaning types n t → P t) → P (symbol_or (symbol n a) (terms n))
  at_symbol n a P e p f = go (terms n) refl
    where
      go : (o : Option Tree) → terms n ≡ o → P (symbol_or (symbol n a) o)
      go None q = p
      go (Some t) q = f t (good n t q)

  pub type_of-unfolded : (t : Tree) → HasSymbolTypes types t → type_of (unfolded terms t) ≡ type_of t
  type_of-unfolded (variable n a) h = refl
  type_of-unfolded (bound i a) h = refl
  type_of-unfolded (symbol n a) h = at_symbol n a (λ u. type_of u ≡ a) h refl (λ t m. m.type_is ∙ sym h)
  type_of-unfolded (app f x) h = rw (type_of-unfolded f h.0) refl
  type_of-unfolded (lam a t) h = rw (type_of-unfolded t h) refl
  type_of-unfolded (logic c x y) h = refl
  type_of-unfolded absent h = refl

  pub present-unfolded : (t : Tree) → HasSymbolTypes types t → IsPresent t → IsPresent (unfolded terms t)
  present-unfolded (variable n a) h p = tt
  present-unfolded (bound i a) h p = tt
  present-unfolded (symbol n a) h p = at_symbol n a IsPresent h tt (λ t m. m.present)
  present-unfolded (app f x) h p = tt
  present-unfolded (lam a t) h p = tt
  present-unfolded (logic c x y) h p = tt
  present-unfolded absent h p = p

  pub over-unfolded : (variables : List SimpleType) (k : ℕ) (t : Tree) → HasSymbolTypes types t → IsOver variables k t → IsOver variables k (unfolded terms t)
  over-unfolded variables k (variable n a) h o = o
  over-unfolded variables k (bound i a) h o = o
  over-unfolded variables k (symbol n a) h o = at_symbol n a (IsOver variables k) h tt (λ t m. over-more variables 0 k t (omega arith) m.closed)
  over-unfolded variables k (app f x) h o = (over-unfolded variables k f h.0 o.0, over-unfolded variables k x h.1 o.1)
  over-unfolded variables k (lam a t) h o = over-unfolded variables (k + 1) t h o
  over-unfolded variables k (logic c x y) h o = (over-unfolded variables k x h.0 o.0, over-unfolded variables k y h.1 o.1)
  over-unfolded variables k absent h o = tt

  bound-unfolded : (k : ℕ) (a : SimpleType) (t : Tree) → HasSymbolTypes types t → IsBoundAt k a t → IsBoundAt k a (unfolded terms t)
  bound-unfolded k a (variable n b) h o = tt
  bound-unfolded k a (bound i b) h o = o
  bound-unfolded k a (symbol n b) h o = at_symbol n b (IsBoundAt k a) h tt (λ t m. bound-over 0 k a t (omega arith) m.closed)
  bound-unfolded k a (app f x) h o = (bound-unfolded k a f h.0 o.0, bound-unfolded k a x h.1 o.1)
  bound-unfolded k a (lam b t) h o = bound-unfolded (k + 1) a t h o
  bound-unfolded k a (logic c x y) h o = (bound-unfolded k a x h.0 o.0, bound-unfolded k a y h.1 o.1)
  bound-unfolded k a absent h o = tt

  of_type-unfolded : (a : SimpleType) (t : Tree) → HasSymbolTypes types t → IsPresentOf a t → IsPresentOf a (unfolded terms t)
  of_type-unfolded a t h p = (present-unfolded t h p.0, type_of-unfolded t h ∙ p.1)

  absent-unfolded : (t : Tree) → t ≡ absent → unfolded terms t ≡ absent
  absent-unfolded t e = rw e refl

  takes-unfolded : (c : Connective) (x y : Tree) → HasSymbolTypes types x → HasSymbolTypes types y → TakesTrees c x y → TakesTrees c (unfolded terms x) (unfolded terms y)
  takes-unfolded truth x y h k p = (absent-unfolded x p.0, absent-unfolded y p.1)
  takes-unfolded falsity x y h k p = (absent-unfolded x p.0, absent-unfolded y p.1)
  takes-unfolded negation x y h k p = (of_type-unfolded _ x h p.0, absent-unfolded y p.1)
  takes-unfolded disjunction x y h k p = (of_type-unfolded _ x h p.0, of_type-unfolded _ y k p.1)
  takes-unfolded conjunction x y h k p = (of_type-unfolded _ x h p.0, of_type-unfolded _ y k p.1)
  takes-unfolded implication x y h k p = (of_type-unfolded _ x h p.0, of_type-unfolded _ y k p.1)
  takes-unfolded (equality a) x y h k p = (of_type-unfolded a x h p.0, of_type-unfolded a y k p.1)
  takes-unfolded (universal a) x y h k p = (of_type-unfolded _ x h p.0, absent-unfolded y p.1)
  takes-unfolded (existential a) x y h k p = (of_type-unfolded _ x h p.0, absent-unfolded y p.1)
  takes-unfolded (choice a) x y h k p = (of_type-unfolded _ x h p.0, absent-unfolded y p.1)

  pub typed-unfolded : (t : Tree) → HasSymbolTypes types t → IsWellTyped t → IsWellTyped (unfolded terms t)
  typed-unfolded (variable n a) h w = tt
  typed-unfolded (bound i a) h w = tt
  typed-unfolded (symbol n a) h w = at_symbol n a IsWellTyped h tt (λ t m. m.typed)
  typed-unfolded (app f x) h w =
      let tf = type_of-unfolded f h.0 in
      let tx = type_of-unfolded x h.1 in
      (typed-unfolded f h.0 w.0, typed-unfolded x h.1 w.1, present-unfolded f h.0 w.2, present-unfolded x h.1 w.3, rw (tf, tx) w.4)
  typed-unfolded (lam a t) h w = (typed-unfolded t h w.0, present-unfolded t h w.1, bound-unfolded 0 a t h w.2)
  typed-unfolded (logic c x y) h w = (typed-unfolded x h.0 w.0, typed-unfolded y h.1 w.1, takes-unfolded c x y h.0 h.1 w.2)
  typed-unfolded absent h w = tt

-- the literals with closed terms for their symbols
abbrev pub unfolded_literal : Abbreviations → Literal → Literal
unfolded_literal terms l = record { positive = l.positive; left = unfolded terms l.left; right = unfolded terms l.right }

-- one after the other is all
pub one_then_rest : (terms : Abbreviations) (s : ℕ) (t u : Tree) → unfolded terms (unfolded (one s t) u) ≡ unfolded (λ n. cond (eqb n s) (Some (unfolded terms t)) (terms n)) u
one_then_rest terms s t (variable n a) = refl
one_then_rest terms s t (bound i a) = refl
one_then_rest terms s t (symbol n a) = go (eqb n s)
  where
    go : (c : Bool) → unfolded terms (symbol_or (symbol n a) (cond c (Some t) None)) ≡ symbol_or (symbol n a) (cond c (Some (unfolded terms t)) (terms n))
    go true = refl
    go false = refl
one_then_rest terms s t (app f x) = rw (one_then_rest terms s t f, one_then_rest terms s t x) refl
one_then_rest terms s t (lam a u) = rw (one_then_rest terms s t u) refl
one_then_rest terms s t (logic c x y) = rw (one_then_rest terms s t x, one_then_rest terms s t y) refl
one_then_rest terms s t absent = refl

-- the symbols of an unfolded term
types-unfolded : (types : ℕ → SimpleType) (s : ℕ) (t u : Tree) → HasSymbolTypes types t → HasSymbolTypes types u → HasSymbolTypes types (unfolded (one s t) u)
types-unfolded types s t (variable n a) g h = tt
types-unfolded types s t (bound i a) g h = tt
types-unfolded types s t (symbol n a) g h = go (eqb n s)
  where
    go : (c : Bool) → HasSymbolTypes types (symbol_or (symbol n a) (cond c (Some t) None))
    go true = g
    go false = h
types-unfolded types s t (app f x) g h = (types-unfolded types s t f g h.0, types-unfolded types s t x g h.1)
types-unfolded types s t (lam a u) g h = types-unfolded types s t u g h
types-unfolded types s t (logic c x y) g h = (types-unfolded types s t x g h.0, types-unfolded types s t y g h.1)
types-unfolded types s t absent g h = tt

pub literals_types-unfolded : (types : ℕ → SimpleType) (s : ℕ) (t : Tree) (ls : List Literal) → HasSymbolTypes types t → LiteralsHaveSymbolTypes types ls → LiteralsHaveSymbolTypes types (map (unfolded_literal (one s t)) ls)
literals_types-unfolded types s t [] g h = tt
literals_types-unfolded types s t (l ∷ ls) g h = (types-unfolded types s t l.left g h.0, types-unfolded types s t l.right g h.1, literals_types-unfolded types s t ls g h.2)

one_meaning : (types : ℕ → SimpleType) (s : ℕ) (t : Tree) → IsMeaning types s t → AreMeanings types (one s t)
one_meaning types s t m n u e = go (eqb n s) refl e
  where
    go : (c : Bool) → eqb n s ≡ c → cond c (Some t) None ≡ Some u → IsMeaning types n u
    go true q e =
        let same : s ≡ n = sym (eqb-true n s q) in
        subst (IsMeaning types n) (some_tree e) (subst (λ k. IsMeaning types k t) same m)
      where
        some_tree : {x y : Tree} → Some x ≡ Some y → x ≡ y
        some_tree e = cc
    go false q e = cc

module _ (types : ℕ → SimpleType) (s : ℕ) (t : Tree) (m : IsMeaning types s t) where
  signed_put_shape : (b : Bool) (a : SimpleType) (u w u' w' : Term) → shape [] (put_for (meaning s (types s) (decoded 0 t)) u) ≡ shape [] u' → shape [] (put_for (meaning s (types s) (decoded 0 t)) w) ≡ shape [] w' →
      shape [] (put_for (meaning s (types s) (decoded 0 t)) (signed b (equation a u w))) ≡ shape [] (signed b (equation a u' w'))
  signed_put_shape true a u w u' w' e k = rw (e, k) refl
  signed_put_shape false a u w u' w' e k = rw (e, k) refl

  literal_put_shape : (n : ℕ) (l : Literal) → HasSymbolTypes types l.left → HasSymbolTypes types l.right →
      shape [] (put_for (meaning s (types s) (decoded 0 t)) (literal_said n l)) ≡ shape [] (literal_said n (unfolded_literal (one s t) l))
  literal_put_shape n l h k =
      let e = type_of-unfolded types (one s t) (one_meaning types s t m) l.left h in
      signed_put_shape l.positive (type_of l.left) (decoded n l.left) (decoded n l.right) (decoded n (unfolded (one s t) l.left)) (decoded n (unfolded (one s t) l.right))
      (put_shape types s t m.typed m.closed n l.left [] h) (put_shape types s t m.typed m.closed n l.right [] k) ∙
      ap (λ a. shape [] (signed l.positive (equation a (decoded n (unfolded (one s t) l.left)) (decoded n (unfolded (one s t) l.right))))) (sym e)

  or_put_shape : (u w u' w' : Term) → shape [] (put_for (meaning s (types s) (decoded 0 t)) u) ≡ shape [] u' → shape [] (put_for (meaning s (types s) (decoded 0 t)) w) ≡ shape [] w' →
      shape [] (put_for (meaning s (types s) (decoded 0 t)) (apply_two or_term u w)) ≡ shape [] (apply_two or_term u' w')
  or_put_shape u w u' w' e k = rw (e, k) refl

  pub clause_put_shape : (n : ℕ) (ls : List Literal) → LiteralsHaveSymbolTypes types ls →
      shape [] (put_for (meaning s (types s) (decoded 0 t)) (clause_said n ls)) ≡ shape [] (clause_said n (map (unfolded_literal (one s t)) ls))
  clause_put_shape n [] h = refl
  clause_put_shape n (l ∷ []) h = literal_put_shape n l h.0 h.1
  clause_put_shape n (l ∷ k ∷ ls) h =
      or_put_shape (literal_said n l) (clause_said n (k ∷ ls)) (literal_said n (unfolded_literal (one s t) l)) (clause_said n (map (unfolded_literal (one s t)) (k ∷ ls)))
      (literal_put_shape n l h.0 h.1) (clause_put_shape n (k ∷ ls) h.2)
