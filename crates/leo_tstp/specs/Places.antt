-- The places of types among those that were met, and which types are looked for. For private contracts.
use Rattle.std.specs.Prelude.{ℕ, ◌≡◌, ◌≢◌, List, length, slice_get, Option, Some, Result, codes}
use Rattle.indexmap.specs.IndexMap.{get_by}
use Rattle.std.specs.Str.{bytes_eq}
use Rattle.leo_q0.specs.Terms.{SimpleType, base, arrow}
use Rattle.leo_terms.specs.Contents.{IsShared, IsKept}
use Rattle.leo_tstp.specs.declared.reading.trees.TypeNode.{TypeNode}
use Rattle.leo_tstp.specs.declared.reading.trees.TypeNode.TheVariants as node
use Rattle.leo_tstp.specs.declared.reading.lexicon.Lexicon.{Lexicon}
use Rattle.leo_tstp.specs.declared.reading.patterns.Pattern.{Pattern, Any, «Type», Function'}
use Rattle.leo_tstp.specs.declared.reading.source.Reader.{Reader}
use Rattle.leo_tstp.specs.declared.refusal.Stop.{Stop}
use Rattle.leo_tstp.specs.Vocabulary.{Vocabulary}
use Rattle.leo_tstp.specs.Ahead.{IsTaken, ahead_of}
use Rattle.leo_tstp.specs.Spelled.{type_then, binder_then, typing_then}

-- the place that a lexicon has for a word of a base type
abbrev pub word_place : Lexicon → List ℕ → Option ℕ
word_place l w = get_by (λ k. bytes_eq w k.items) l.types

-- the place of a type
abbrev pub IsPlace : Vocabulary → Lexicon → List TypeNode → SimpleType → ℕ → Type 0
IsPlace v l ns (base b) p = word_place l (v.base_word b) ≡ Some p
IsPlace v l ns (arrow a b) p = (q : ℕ) × (r : ℕ) × (slice_get ns p ≡ Some (node.Arrow q r)) × IsPlace v l ns a q × IsPlace v l ns b r

-- the words of a type's base types are known, and none of them opens a type of functions
pub record IsKnownBase (v : Vocabulary) (l : Lexicon) (b : ℕ) : Type 0 where
  pub place : ℕ
  pub at : word_place l (v.base_word b) ≡ Some place
  pub word : v.base_word b ≢ codes "("

abbrev pub AreKnownBases : Vocabulary → Lexicon → SimpleType → Type 0
AreKnownBases v l (base b) = IsKnownBase v l b
AreKnownBases v l (arrow a b) = AreKnownBases v l a × AreKnownBases v l b

-- the type fits
abbrev pub Fits : Vocabulary → Lexicon → List TypeNode → Pattern → SimpleType → Type 0
Fits v l ns Any a = Unit {0}
Fits v l ns («Type» p) a = IsPlace v l ns a p
Fits v l ns (Function' p f q g) (base b) = ⊥
Fits v l ns (Function' p f q g) (arrow a b) = Fits v l ns f a × Fits v l ns g b

-- the words of a type come next, with these behind them
pub record IsTypeAhead (v : Vocabulary) (r : Reader) (a : SimpleType) (rest : List (List ℕ)) : Type 0 where
  pub words : ahead_of r ≡ type_then v a rest
  pub shared : IsShared r.types.nodes.keys
  pub known : AreKnownBases v r.lexicon a

-- a type was read, and these words come next
pub record IsTypeRead (v : Vocabulary) (r : Reader) (a : SimpleType) (rest : List (List ℕ)) (p : ℕ) : Type 0 where
  pub place : IsPlace v r.lexicon r.types.nodes.keys a p
  pub words : ahead_of r ≡ rest

-- where the words of a type that fits come next, it is read
abbrev pub TakesType : Reader → Pattern → Result ℕ Stop → Reader → Type 0
TakesType old asked result new =
    (v : Vocabulary) (a : SimpleType) (rest : List (List ℕ)) → IsTypeAhead v old a rest
    → Fits v old.lexicon old.types.nodes.keys asked a → IsTaken result (IsTypeRead v new a rest)

-- the same for a base type alone
abbrev pub TakesBase : Reader → Pattern → Result ℕ Stop → Reader → Type 0
TakesBase old asked result new =
    (v : Vocabulary) (b : ℕ) (rest : List (List ℕ)) → IsTypeAhead v old (base b) rest
    → Fits v old.lexicon old.types.nodes.keys asked (base b) → IsTaken result (IsTypeRead v new (base b) rest)

-- the same for a type of functions alone
abbrev pub TakesArrow : Reader → Pattern → Result ℕ Stop → Reader → Type 0
TakesArrow old asked result new =
    (v : Vocabulary) (a b : SimpleType) (rest : List (List ℕ)) → IsTypeAhead v old (arrow a b) rest
    → Fits v old.lexicon old.types.nodes.keys asked (arrow a b) → IsTaken result (IsTypeRead v new (arrow a b) rest)

-- a binder's variable comes next, with these words behind it
pub record IsBinderAhead (v : Vocabulary) (r : Reader) (a : SimpleType) (rest : List (List ℕ)) : Type 0 where
  pub words : ahead_of r ≡ binder_then v (length r.scope.items) a rest
  pub shared : IsShared r.types.nodes.keys
  pub known : AreKnownBases v r.lexicon a

-- where a binder's variable of a type that fits comes next, it is read
abbrev pub TakesBinder : Reader → Pattern → Result ℕ Stop → Reader → Type 0
TakesBinder old asked result new =
    (v : Vocabulary) (a : SimpleType) (rest : List (List ℕ)) → IsBinderAhead v old a rest
    → Fits v old.lexicon old.types.nodes.keys asked a → IsTaken result (IsTypeRead v new a rest)

-- a type statement comes next, with these words behind it
pub record IsTypingAhead (v : Vocabulary) (r : Reader) (statement name : List ℕ) (a : SimpleType) (rest : List (List ℕ)) : Type 0 where
  pub words : ahead_of r ≡ typing_then v statement name a rest
  pub shared : IsShared r.types.nodes.keys
  pub known : AreKnownBases v r.lexicon a

-- where the type statement of a name comes next, it is read
abbrev pub TakesTyping : Reader → List ℕ → List ℕ → Result ℕ Stop → Reader → Type 0
TakesTyping old statement name result new =
    (v : Vocabulary) (a : SimpleType) (rest : List (List ℕ)) → IsTypingAhead v old statement name a rest → IsTaken result (IsTypeRead v new a rest)

-- a reader went on, and has met more types at most
pub record GoesOn (old new : Reader) : Type 0 where
  pub stays : new ≡ record old { at = new.at; types = new.types; scope = new.scope }
  pub scope_stays : new.scope.items ≡ old.scope.items
  pub kept : IsKept old.types.nodes.keys new.types.nodes.keys
  pub shared : IsShared old.types.nodes.keys → IsShared new.types.nodes.keys
