-- What has no symbol and no base type but those of an origin is from it.
use Rattle.std.proofs.Common.{ℕ, ◌≡◌, ◌∙◌, Bool, true, false, List, [], ◌∷◌, refl, sym, ap}
use Rattle.leo_q0.specs.Terms.{SimpleType, base, arrow}
use Rattle.leo_terms.specs.Tree.{Tree, variable, bound, symbol, app, lam, logic, absent, Connective, truth, falsity, negation, disjunction, conjunction, implication, equality, universal, existential, choice}
use Rattle.leo_clause.specs.Trees.{Literal, ClauseTree}
use Rattle.leo_kernel.specs.Symbols.{LacksSymbol, LiteralsLackSymbol}
use Rattle.leo_clausify.specs.Origins.{Origin, IsTypeFrom, AreTypesFrom, IsConstantFrom, IsTermFrom, AreLiteralsFrom, IsClauseFrom}
use Rattle.leo_para.specs.Occurring.{TypeLacksBase, ConstantLacksBase, TermLacksBase, TypesLackBase, LiteralsLackBase, ClauseLacksBase}

-- a test that is not false
not-false : (b : Bool) → (b ≡ false → ⊥) → b ≡ true
not-false true f = refl
not-false false f = absurd (f refl)

module _ (o : Origin) where
  -- of what is from an origin, all that it says no to is lacking
  module _ (s : ℕ) (none : o.has_symbol s ≡ false) where
    symbol-other : (n : ℕ) → o.has_symbol n ≡ true → n ≡ s → ⊥
    symbol-other n h e = (let f : true ≡ false = sym h ∙ ap o.has_symbol e ∙ none in let g : ⊥ = cc in g)

    term-lacks : (t : Tree) → IsTermFrom o t → LacksSymbol s t
    term-lacks (variable n a) h = tt
    term-lacks (bound i a) h = tt
    term-lacks (symbol n a) h = symbol-other n h.0
    term-lacks (app f x) h = (term-lacks f h.0, term-lacks x h.1)
    term-lacks (lam a t) h = term-lacks t h.1
    term-lacks (logic c x y) h = (term-lacks x h.1, term-lacks y h.2)
    term-lacks absent h = tt

    pub literals-lack : (ls : List Literal) → AreLiteralsFrom o ls → LiteralsLackSymbol s ls
    literals-lack [] h = tt
    literals-lack (l ∷ ls) h = (term-lacks l.left h.0, term-lacks l.right h.1, literals-lack ls h.2)

  module _ (b : ℕ) (none : o.has_base b ≡ false) where
    base-other : (n : ℕ) → o.has_base n ≡ true → n ≡ b → ⊥
    base-other n h e = (let f : true ≡ false = sym h ∙ ap o.has_base e ∙ none in let g : ⊥ = cc in g)

    type-without : (a : SimpleType) → IsTypeFrom o a → TypeLacksBase b a
    type-without (base n) h = base-other n h
    type-without (arrow a c) h = (type-without a h.0, type-without c h.1)

    types-without : (types : List SimpleType) → AreTypesFrom o types → TypesLackBase b types
    types-without [] h = tt
    types-without (a ∷ types) h = (type-without a h.0, types-without types h.1)

    constant-without : (c : Connective) → IsConstantFrom o c → ConstantLacksBase b c
    constant-without (equality a) h = type-without a h
    constant-without (universal a) h = type-without a h
    constant-without (existential a) h = type-without a h
    constant-without (choice a) h = type-without a h
    constant-without truth h = tt
    constant-without falsity h = tt
    constant-without negation h = tt
    constant-without disjunction h = tt
    constant-without conjunction h = tt
    constant-without implication h = tt

    term-without : (t : Tree) → IsTermFrom o t → TermLacksBase b t
    term-without (variable n a) h = type-without a h
    term-without (bound i a) h = type-without a h
    term-without (symbol n a) h = type-without a h.1
    term-without (app f x) h = (term-without f h.0, term-without x h.1)
    term-without (lam a t) h = (type-without a h.0, term-without t h.1)
    term-without (logic c x y) h = (constant-without c h.0, term-without x h.1, term-without y h.2)
    term-without absent h = tt

    literals-without : (ls : List Literal) → AreLiteralsFrom o ls → LiteralsLackBase b ls
    literals-without [] h = tt
    literals-without (l ∷ ls) h = (term-without l.left h.0, term-without l.right h.1, literals-without ls h.2)

    pub clause-without : (k : ClauseTree) → IsClauseFrom o k → ClauseLacksBase b k
    clause-without k h = (types-without k.variables h.0, literals-without k.literals h.1)

  -- and the other way
  type-had : (a : SimpleType) → ((b : ℕ) → o.has_base b ≡ false → TypeLacksBase b a) → IsTypeFrom o a
  type-had (base n) f = not-false (o.has_base n) (λ e. f n e refl)
  type-had (arrow a c) f = (type-had a (λ b e. (f b e).0), type-had c (λ b e. (f b e).1))

  types-had : (types : List SimpleType) → ((b : ℕ) → o.has_base b ≡ false → TypesLackBase b types) → AreTypesFrom o types
  types-had [] f = tt
  types-had (a ∷ types) f = (type-had a (λ b e. (f b e).0), types-had types (λ b e. (f b e).1))

  constant-had : (c : Connective) → ((b : ℕ) → o.has_base b ≡ false → ConstantLacksBase b c) → IsConstantFrom o c
  constant-had (equality a) f = type-had a f
  constant-had (universal a) f = type-had a f
  constant-had (existential a) f = type-had a f
  constant-had (choice a) f = type-had a f
  constant-had truth f = tt
  constant-had falsity f = tt
  constant-had negation f = tt
  constant-had disjunction f = tt
  constant-had conjunction f = tt
  constant-had implication f = tt

  term-had : (t : Tree) → ((s : ℕ) → o.has_symbol s ≡ false → LacksSymbol s t) → ((b : ℕ) → o.has_base b ≡ false → TermLacksBase b t) → IsTermFrom o t
  term-had (variable n a) f g = type-had a g
  term-had (bound i a) f g = type-had a g
  term-had (symbol n a) f g = (not-false (o.has_symbol n) (λ e. f n e refl), type-had a g)
  term-had (app x y) f g = (term-had x (λ s e. (f s e).0) (λ b e. (g b e).0), term-had y (λ s e. (f s e).1) (λ b e. (g b e).1))
  term-had (lam a t) f g = (type-had a (λ b e. (g b e).0), term-had t f (λ b e. (g b e).1))
  term-had (logic c x y) f g = (constant-had c (λ b e. (g b e).0), term-had x (λ s e. (f s e).0) (λ b e. (g b e).1), term-had y (λ s e. (f s e).1) (λ b e. (g b e).2))
  term-had absent f g = tt

  literals-had : (ls : List Literal) → ((s : ℕ) → o.has_symbol s ≡ false → LiteralsLackSymbol s ls) → ((b : ℕ) → o.has_base b ≡ false → LiteralsLackBase b ls) → AreLiteralsFrom o ls
  literals-had [] f g = tt
  literals-had (l ∷ ls) f g = (term-had l.left (λ s e. (f s e).0) (λ b e. (g b e).0), term-had l.right (λ s e. (f s e).1) (λ b e. (g b e).1), literals-had ls (λ s e. (f s e).2) (λ b e. (g b e).2))

  pub clause-had : (k : ClauseTree) → ((s : ℕ) → o.has_symbol s ≡ false → LiteralsLackSymbol s k.literals) → ((b : ℕ) → o.has_base b ≡ false → ClauseLacksBase b k) → IsClauseFrom o k
  clause-had k f g = (types-had k.variables (λ b e. (g b e).0), literals-had k.literals f (λ b e. (g b e).1))
