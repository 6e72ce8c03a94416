-- What a term that was read says, and what is known of a term that is read. For private contracts.
use Rattle.std.specs.Prelude.{ℕ, ◌≡◌, ◌+◌, ◌-◌, ◌<◌, ◌^◌, ◌||◌, nat_eq, true, false, IsTrue, List, [], ◌∷◌, ◌++◌, length, slice_get, codes, decimal, Option, Some, None, Result, ◌⊎◌}
use Rattle.indexmap.specs.IndexMap.{get_by}
use Rattle.std.specs.Str.{bytes_eq}
use Rattle.leo_lex.specs.Bytes.{is_lower, single_quote}
use Rattle.leo_q0.specs.Terms.{SimpleType, base, arrow}
use Rattle.leo_terms.specs.Tree.{Tree, variable, bound, symbol, app, lam, logic, absent, Connective, truth, falsity, negation, disjunction, conjunction, implication, equality, universal, existential, choice, truth_type, type_of, connective_type}
use Rattle.leo_terms.specs.Typing.{IsWellTyped, IsPresent}
use Rattle.leo_terms.specs.Contents.{IsShared}
use Rattle.leo_tstp.specs.declared.reading.trees.TypeNode.{TypeNode}
use Rattle.leo_tstp.specs.declared.reading.trees.Joint.{Joint}
use Rattle.leo_tstp.specs.declared.reading.trees.Joint.TheVariants as joint
use Rattle.leo_tstp.specs.declared.reading.trees.Quantifier.{Quantifier}
use Rattle.leo_tstp.specs.declared.reading.trees.Quantifier.TheVariants as quantifier
use Rattle.leo_tstp.specs.declared.reading.trees.Parsed.{Parsed}
use Rattle.leo_tstp.specs.declared.reading.trees.Parsed.TheVariants as parsed
use Rattle.leo_tstp.specs.declared.reading.trees.Typed.{Typed}
use Rattle.leo_tstp.specs.declared.reading.lexicon.Lexicon.{Lexicon}
use Rattle.leo_tstp.specs.declared.reading.patterns.Pattern.{Pattern}
use Rattle.leo_tstp.specs.declared.reading.source.Reader.{Reader}
use Rattle.leo_tstp.specs.declared.refusal.Stop.{Stop}
use Rattle.leo_tstp.specs.Vocabulary.{Vocabulary}
use Rattle.leo_tstp.specs.Built.{IsTermOver}
use Rattle.leo_tstp.specs.Ahead.{IsTaken, ahead_of, first_word}
use Rattle.leo_tstp.specs.Places.{IsPlace, AreKnownBases, Fits, IsTypeRead}
use Rattle.leo_tstp.specs.TermTexts.{is_lambda, lambda_sign}
use Rattle.leo_tstp.specs.Spelled.{binder_then}
use Rattle.leo_tstp.specs.TermWords.{signed_then}

-- ---- what was read

-- the place that a lexicon has for a symbol's word
abbrev pub symbol_place : Lexicon → List ℕ → Option ℕ
symbol_place l w = get_by (λ k. bytes_eq w k.items) l.symbols

-- two formulas with a connective between
abbrev pub SaysJoin : Joint → Parsed → (Parsed → Type 0) → (Parsed → Type 0) → Type 0
SaysJoin j p First Second = (q : Parsed) × (r : Parsed) × (p ≡ parsed.Join j q r) × First q × Second r

abbrev pub SaysQuantify : Quantifier → Parsed → (Parsed → Type 0) → Type 0
SaysQuantify k p Set = (q : Parsed) × (p ≡ parsed.Quantify k q) × Set q

abbrev pub SaysLogic : Connective → Parsed → (Parsed → Type 0) → (Parsed → Type 0) → Type 0
SaysLogic truth p First Second = p ≡ parsed.Truth true
SaysLogic falsity p First Second = p ≡ parsed.Truth false
SaysLogic negation p First Second = (q : Parsed) × (p ≡ parsed.Not q) × First q
SaysLogic disjunction p First Second = SaysJoin joint.Or p First Second
SaysLogic conjunction p First Second = SaysJoin joint.And p First Second
SaysLogic implication p First Second = SaysJoin joint.Implies p First Second
SaysLogic (equality a) p First Second = (q : Parsed) × (r : Parsed) × (p ≡ parsed.Equal q r) × First q × Second r
SaysLogic (universal a) p First Second = SaysQuantify quantifier.All p First
SaysLogic (existential a) p First Second = SaysQuantify quantifier.Some p First
SaysLogic (choice a) p First Second = SaysQuantify quantifier.Choice p First

-- what was read says this term, under so many lambdas
abbrev pub Says : Vocabulary → Lexicon → List TypeNode → ℕ → Parsed → Tree → Type 0
Says v l ns depth p (variable n a) = p ≡ parsed.Variable n
Says v l ns depth p (bound i a) = p ≡ parsed.Level ((depth - i) - 1)
Says v l ns depth p (symbol s a) = (q : ℕ) × (p ≡ parsed.Symbol q) × (symbol_place l (v.symbol_word s) ≡ Some q)
Says v l ns depth p (app f x) = (q : Parsed) × (r : Parsed) × (p ≡ parsed.Apply q r) × Says v l ns depth q f × Says v l ns depth r x
Says v l ns depth p (lam a t) = (k : ℕ) × (q : Parsed) × (p ≡ parsed.Lambda k q) × IsPlace v l ns a k × Says v l ns (depth + 1) q t
Says v l ns depth p (logic c x y) = SaysLogic c p (λ q. Says v l ns depth q x) (λ q. Says v l ns depth q y)
Says v l ns depth p absent = ⊥

-- what was read says this term and is of its type
pub record IsSaid (v : Vocabulary) (r : Reader) (depth : ℕ) (t : Tree) (x : Typed) : Type 0 where
  pub says : Says v r.lexicon r.types.nodes.keys depth x.term t
  pub place : IsPlace v r.lexicon r.types.nodes.keys (type_of t) x.ty

-- it was read, and these words come next
pub record IsTermRead (v : Vocabulary) (r : Reader) (depth : ℕ) (t : Tree) (rest : List (List ℕ)) (x : Typed) : Type 0 where
  pub said : IsSaid v r depth t x
  pub words : ahead_of r ≡ rest

-- ---- what is known before

-- the places of types
abbrev pub ArePlaces : Vocabulary → Lexicon → List TypeNode → List SimpleType → List ℕ → Type 0
ArePlaces v l ns [] ps = ps ≡ []
ArePlaces v l ns (a ∷ bs) ps = (q : ℕ) × (qs : List ℕ) × (ps ≡ q ∷ qs) × IsPlace v l ns a q × ArePlaces v l ns bs qs

-- the places of the types of the lambdas around, where the innermost comes first among the types and last among the places
abbrev pub IsScope : Vocabulary → Lexicon → List TypeNode → List SimpleType → List ℕ → Type 0
IsScope v l ns [] ps = ps ≡ []
IsScope v l ns (a ∷ s) ps = (q : ℕ) × (qs : List ℕ) × (ps ≡ qs ++ q ∷ []) × IsPlace v l ns a q × IsScope v l ns s qs

-- what is known of the place of a term: the types of the clause's variables, and of the lambdas around, the innermost first
pub record IsAround (v : Vocabulary) (r : Reader) (vs s : List SimpleType) : Type 0 where
  pub shared : IsShared r.types.nodes.keys
  pub truth_is : IsPlace v r.lexicon r.types.nodes.keys truth_type 0
  pub variables : ArePlaces v r.lexicon r.types.nodes.keys vs r.variables.items
  pub scope : IsScope v r.lexicon r.types.nodes.keys s r.scope.items

-- a word of an atom: it begins with a letter from `a` to `z` or with a quote
pub record IsAtomWord (w : List ℕ) : Type 0 where
  pub front : ℕ
  pub back : List ℕ
  pub word_is : w ≡ front ∷ back
  pub begins : IsTrue (is_lower front || nat_eq front single_quote)

-- a symbol of that type is known
pub record IsKnownSymbol (v : Vocabulary) (l : Lexicon) (ns : List TypeNode) (s : ℕ) (a : SimpleType) : Type 0 where
  pub place : ℕ
  pub at : symbol_place l (v.symbol_word s) ≡ Some place
  pub ty : ℕ
  pub type_at : slice_get l.symbol_types.items place ≡ Some ty
  pub type_is : IsPlace v l ns a ty
  pub word : IsAtomWord (v.symbol_word s)

-- the words of a term's symbols and types are known, and its variables have numbers
abbrev pub AreKnownWords : Vocabulary → Lexicon → List TypeNode → Tree → Type 0
AreKnownWords v l ns (variable n a) = n < 2 ^ 32
AreKnownWords v l ns (bound i a) = Unit {0}
AreKnownWords v l ns (symbol s a) = IsKnownSymbol v l ns s a
AreKnownWords v l ns (app f x) = AreKnownWords v l ns f × AreKnownWords v l ns x
AreKnownWords v l ns (lam a t) = AreKnownBases v l a × AreKnownWords v l ns t
AreKnownWords v l ns (logic c x y) = AreKnownWords v l ns x × AreKnownWords v l ns y
AreKnownWords v l ns absent = Unit {0}

-- a term that is read there: it is typed, over the variables and the lambdas around, and its words are known
pub record IsKnownTerm (v : Vocabulary) (r : Reader) (vs s : List SimpleType) (t : Tree) : Type 0 where
  pub present : IsPresent t
  pub typed : IsWellTyped t
  pub over : IsTermOver vs s t
  pub words : AreKnownWords v r.lexicon r.types.nodes.keys t

-- these words come next, at a place of that term
pub record IsTermAhead (v : Vocabulary) (r : Reader) (vs s : List SimpleType) (t : Tree) (words : List (List ℕ)) : Type 0 where
  pub around : IsAround v r vs s
  pub known : IsKnownTerm v r vs s t
  pub ahead : ahead_of r ≡ words

-- ---- the shapes of a term in brackets

abbrev pub quantified_by : Quantifier → SimpleType → Connective
quantified_by quantifier.All a = universal a
quantified_by quantifier.Some a = existential a
quantified_by quantifier.Choice a = choice a

abbrev pub binder_word : Quantifier → List ℕ
binder_word quantifier.All = codes "!"
binder_word quantifier.Some = codes "?"
binder_word quantifier.Choice = codes "@+"

abbrev pub constant_word : Quantifier → List ℕ
constant_word quantifier.All = codes "!!"
constant_word quantifier.Some = codes "??"
constant_word quantifier.Choice = codes "@@+"

abbrev pub joined_by : Joint → Connective
joined_by joint.Or = disjunction
joined_by joint.And = conjunction
joined_by joint.Implies = implication

abbrev pub joint_word : Joint → List ℕ
joint_word joint.Or = codes "|"
joint_word joint.And = codes "&"
joint_word joint.Implies = codes "=>"

-- a term of two parts, its first part, and the words behind the first with those behind the second
pub data Behind (v : Vocabulary) (depth : ℕ) (rest : List (List ℕ)) : Tree → Tree → List (List ℕ) → Type 0 where
  behind_apply : (f x : Tree) → Behind v depth rest (app f x) f (codes "@" ∷ signed_then v depth lambda_sign x rest)
  behind_join : (j : Joint) (x y : Tree) → Behind v depth rest (logic (joined_by j) x y) x (joint_word j ∷ signed_then v depth lambda_sign y rest)
  behind_equal : (a : SimpleType) (x y : Tree) → Behind v depth rest (logic (equality a) x y) x (codes "=" ∷ signed_then v depth lambda_sign y rest)

-- a term that stands in brackets, and the words between them with those behind
pub data Inside (v : Vocabulary) (depth : ℕ) (rest : List (List ℕ)) : Tree → List (List ℕ) → Type 0 where
  inside_lambda : (a : SimpleType) (t : Tree) → Inside v depth rest (lam a t) (codes "^" ∷ binder_then v depth a (signed_then v (depth + 1) lambda_sign t rest))
  inside_binder : (k : Quantifier) (a b : SimpleType) (t y : Tree) → Inside v depth rest (logic (quantified_by k a) (lam b t) y) (binder_word k ∷ binder_then v depth b (signed_then v (depth + 1) lambda_sign t rest))
  inside_set : (k : Quantifier) (a : SimpleType) (x y : Tree) → is_lambda x ≡ false → Inside v depth rest (logic (quantified_by k a) x y) (constant_word k ∷ codes "@" ∷ signed_then v depth lambda_sign x rest)
  inside_not : (x y : Tree) → Inside v depth rest (logic negation x y) (codes "~" ∷ signed_then v depth lambda_sign x rest)
  inside_two : (t f : Tree) (words : List (List ℕ)) → Behind v depth rest t f words → Inside v depth rest t (signed_then v depth lambda_sign f words)

-- a term of one word
pub data Atom (v : Vocabulary) (depth : ℕ) : Tree → List ℕ → Type 0 where
  atom_variable : (n : ℕ) (a : SimpleType) → Atom v depth (variable n a) (codes "X" ++ decimal n)
  atom_bound : (i : ℕ) (a : SimpleType) → Atom v depth (bound i a) (codes "Y" ++ decimal ((depth - i) - 1))
  atom_symbol : (s : ℕ) (a : SimpleType) → Atom v depth (symbol s a) (v.symbol_word s)
  atom_truth : (x y : Tree) → Atom v depth (logic truth x y) (codes "$true")
  atom_falsity : (x y : Tree) → Atom v depth (logic falsity x y) (codes "$false")

-- a term's words are one, or stand in brackets
pub data Words (v : Vocabulary) (depth : ℕ) (rest : List (List ℕ)) : Tree → List (List ℕ) → Type 0 where
  words_atom : (t : Tree) (word : List ℕ) → Atom v depth t word → Words v depth rest t (word ∷ rest)
  words_brackets : (t : Tree) (words : List (List ℕ)) → Inside v depth (codes ")" ∷ rest) t words → Words v depth rest t (codes "(" ∷ words)

-- ---- what is read

-- it was found
abbrev pub IsFound : {A : Type 0} → Option A → (A → Type 0) → Type 0
IsFound None P = ⊥
IsFound (Some x) P = P x

-- where these words come next for a term of a type that fits, it is read
abbrev pub Takes : Reader → Pattern → Result Typed Stop → Reader → Vocabulary → Tree → List (List ℕ) → List (List ℕ) → Type 0
Takes old asked result new v t words rest =
    (vs s : List SimpleType) → IsTermAhead v old vs s t words → Fits v old.lexicon old.types.nodes.keys asked (type_of t)
    → IsTaken result (IsTermRead v new (length old.scope.items) t rest)

-- where a term's words come next
abbrev pub TakesTerm : Reader → Pattern → Result Typed Stop → Reader → Type 0
TakesTerm old asked result new = (v : Vocabulary) (t : Tree) (rest : List (List ℕ)) → Takes old asked result new v t (signed_then v (length old.scope.items) lambda_sign t rest) rest

-- where what stands between its brackets comes next
abbrev pub TakesInside : Reader → Pattern → Result Typed Stop → Reader → Type 0
TakesInside old asked result new =
    (v : Vocabulary) (t : Tree) (words rest : List (List ℕ)) → Inside v (length old.scope.items) rest t words → Takes old asked result new v t words rest

-- where its first part was read and the words behind come next
abbrev pub TakesBehind : Reader → Typed → Pattern → Result Typed Stop → Reader → Type 0
TakesBehind old first asked result new =
    (v : Vocabulary) (t f : Tree) (words rest : List (List ℕ)) → Behind v (length old.scope.items) rest t f words
    → IsSaid v old (length old.scope.items) f first → Takes old asked result new v t words rest

abbrev pub TakesApplication : Reader → Typed → Pattern → Result Typed Stop → Reader → Type 0
TakesApplication old first asked result new =
    (v : Vocabulary) (f x : Tree) (sign : List ℕ) (rest : List (List ℕ)) → IsSaid v old (length old.scope.items) f first
    → Takes old asked result new v (app f x) (sign ∷ signed_then v (length old.scope.items) lambda_sign x rest) rest

abbrev pub TakesJoined : Reader → Joint → Typed → Pattern → Result Typed Stop → Reader → Type 0
TakesJoined old j first asked result new =
    (v : Vocabulary) (x y : Tree) (sign : List ℕ) (rest : List (List ℕ)) → IsSaid v old (length old.scope.items) x first
    → Takes old asked result new v (logic (joined_by j) x y) (sign ∷ signed_then v (length old.scope.items) lambda_sign y rest) rest

abbrev pub TakesEquation : Reader → Typed → Pattern → Result Typed Stop → Reader → Type 0
TakesEquation old first asked result new =
    (v : Vocabulary) (a : SimpleType) (x y : Tree) (sign : List ℕ) (rest : List (List ℕ)) → IsSaid v old (length old.scope.items) x first
    → Takes old asked result new v (logic (equality a) x y) (sign ∷ signed_then v (length old.scope.items) lambda_sign y rest) rest

abbrev pub TakesLambda : Reader → Pattern → Result Typed Stop → Reader → Type 0
TakesLambda old asked result new =
    (v : Vocabulary) (a : SimpleType) (t : Tree) (sign : List ℕ) (rest : List (List ℕ))
    → Takes old asked result new v (lam a t) (sign ∷ binder_then v (length old.scope.items) a (signed_then v (length old.scope.items + 1) lambda_sign t rest)) rest

abbrev pub TakesQuantified : Reader → Quantifier → Pattern → Result Typed Stop → Reader → Type 0
TakesQuantified old k asked result new =
    (v : Vocabulary) (a b : SimpleType) (t y : Tree) (sign : List ℕ) (rest : List (List ℕ))
    → Takes old asked result new v (logic (quantified_by k a) (lam b t) y) (sign ∷ binder_then v (length old.scope.items) b (signed_then v (length old.scope.items + 1) lambda_sign t rest)) rest

abbrev pub TakesSet : Reader → Quantifier → Pattern → Result Typed Stop → Reader → Type 0
TakesSet old k asked result new =
    (v : Vocabulary) (a : SimpleType) (x y : Tree) (sign : List ℕ) (rest : List (List ℕ)) → is_lambda x ≡ false
    → Takes old asked result new v (logic (quantified_by k a) x y) (sign ∷ codes "@" ∷ signed_then v (length old.scope.items) lambda_sign x rest) rest

abbrev pub TakesNegation : Reader → Pattern → Result Typed Stop → Reader → Type 0
TakesNegation old asked result new =
    (v : Vocabulary) (x y : Tree) (sign : List ℕ) (rest : List (List ℕ))
    → Takes old asked result new v (logic negation x y) (sign ∷ signed_then v (length old.scope.items) lambda_sign x rest) rest

-- the type of the first part of two, where that of the whole fits
abbrev pub FitsFirst : Vocabulary → Lexicon → List TypeNode → Pattern → SimpleType → Type 0
FitsFirst v l ns asked a = Fits v l ns asked truth_type ⊎ ((b : SimpleType) × (c : SimpleType) × (a ≡ arrow b c) × Fits v l ns asked c)

-- where the words of the first part come next, it is read
abbrev pub TakesFirst : Reader → Pattern → Result Typed Stop → Reader → Type 0
TakesFirst old asked result new =
    (v : Vocabulary) (vs s : List SimpleType) (t : Tree) (rest : List (List ℕ)) → IsTermAhead v old vs s t (signed_then v (length old.scope.items) lambda_sign t rest)
    → FitsFirst v old.lexicon old.types.nodes.keys asked (type_of t) → IsTaken result (IsTermRead v new (length old.scope.items) t rest)

-- where the words of a body come next, it is read under one more lambda
abbrev pub TakesUnder : Reader → ℕ → Pattern → Result Typed Stop → Reader → Type 0
TakesUnder old place asked result new =
    (v : Vocabulary) (vs s : List SimpleType) (a : SimpleType) (t : Tree) (rest : List (List ℕ)) → IsAround v old vs s
    → IsPlace v old.lexicon old.types.nodes.keys a place → IsKnownTerm v old vs (a ∷ s) t
    → ahead_of old ≡ signed_then v (length old.scope.items + 1) lambda_sign t rest → Fits v old.lexicon old.types.nodes.keys asked (type_of t)
    → IsTaken result (IsTermRead v new (length old.scope.items + 1) t rest)

-- where a quantifier's sign and its variable come next, they are read
abbrev pub TakesOver : Reader → Quantifier → Pattern → Result ℕ Stop → Reader → Type 0
TakesOver old k asked result new =
    (v : Vocabulary) (vs s : List SimpleType) (a : SimpleType) (sign : List ℕ) (rest : List (List ℕ)) → IsAround v old vs s → AreKnownBases v old.lexicon a
    → ahead_of old ≡ sign ∷ binder_then v (length old.scope.items) a rest
    → Fits v old.lexicon old.types.nodes.keys asked (connective_type (quantified_by k a)) → IsTaken result (IsTypeRead v new a rest)

-- where the word of an atom comes next, it is found
abbrev pub FindsAtom : Reader → Option Typed → Type 0
FindsAtom r result =
    (v : Vocabulary) (vs s : List SimpleType) (t : Tree) (word : List ℕ) (rest : List (List ℕ)) → Atom v (length r.scope.items) t word
    → IsTermAhead v r vs s t (word ∷ rest) → IsFound result (IsSaid v r (length r.scope.items) t)

-- and read
abbrev pub TakesAtom : Reader → Pattern → Result Typed Stop → Reader → Type 0
TakesAtom old asked result new =
    (v : Vocabulary) (t : Tree) (word : List ℕ) (rest : List (List ℕ)) → Atom v (length old.scope.items) t word → Takes old asked result new v t (word ∷ rest) rest
