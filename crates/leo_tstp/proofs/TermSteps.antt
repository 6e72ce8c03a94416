-- The steps of the reader of terms.
use Rattle.std.proofs.Common.{ℕ, ◌≡◌, ◌≢◌, ◌∙◌, ◌||◌, IsTrue, nat_eq, ◌+◌, ◌-◌, ◌<◌, ◌^◌, true, false, List, [], ◌∷◌, ◌++◌, length, slice_get, Option, Some, None, Result, Ok, Err, refl, sym, ap, subst, codes, decimal, arith, inl, inr}
use Rattle.std.specs.Prelude.{OnOk}
use Rattle.std.proofs.lemmas.Option.{slice_get_within}
use Rattle.leo_lex.specs.Bytes.{is_lower, single_quote}
use Rattle.leo_q0.specs.Terms.{SimpleType, base, arrow}
use Rattle.leo_terms.specs.Tree.{Tree, variable, bound, symbol, app, lam, logic, absent, Connective, truth, falsity, negation, disjunction, conjunction, implication, equality, universal, existential, choice, truth_type, type_of, codomain, connective_type}
use Rattle.leo_terms.specs.Typing.{IsPresentOf}
use Rattle.leo_terms.specs.Contents.{IsShared, IsKept, AddsShared}
use Rattle.leo_tstp.specs.declared.reading.trees.TypeNode.{TypeNode}
use Rattle.leo_tstp.specs.declared.reading.trees.TypeNode.TheVariants as node
use Rattle.leo_tstp.specs.declared.reading.trees.Types.{Types}
use Rattle.leo_tstp.specs.declared.reading.trees.Joint.{Joint}
use Rattle.leo_tstp.specs.declared.reading.trees.Joint.TheVariants as joint
use Rattle.leo_tstp.specs.declared.reading.trees.Quantifier.{Quantifier}
use Rattle.leo_tstp.specs.declared.reading.trees.Quantifier.TheVariants as quantifier
use Rattle.leo_tstp.specs.declared.reading.trees.Parsed.{Parsed}
use Rattle.leo_tstp.specs.declared.reading.trees.Parsed.TheVariants as parsed
use Rattle.leo_tstp.specs.declared.reading.trees.Typed.{Typed}
use Rattle.leo_tstp.specs.declared.reading.lexicon.Lexicon.{Lexicon}
use Rattle.leo_tstp.specs.declared.reading.patterns.Pattern.{Pattern, Any, «Type», Function'}
use Rattle.leo_tstp.specs.declared.reading.source.Reader.{Reader}
use Rattle.leo_tstp.specs.declared.reading.terms.Opening.{Opening}
use Rattle.leo_tstp.specs.declared.reading.terms.Opening.TheVariants.{Lambda, Binder, Applied, Not, Other}
use Rattle.leo_tstp.specs.declared.reading.terms.Between.{Between}
use Rattle.leo_tstp.specs.declared.reading.terms.Between.TheVariants.{Apply, Join, Equal}
use Rattle.leo_tstp.specs.declared.refusal.Stop.{Stop}
use Rattle.leo_tstp.specs.Vocabulary.{Vocabulary}
use Rattle.leo_tstp.specs.Ahead.{IsTaken, IsWant, Passes, TakesWord, ahead_of, first_word, second_word}
use Rattle.leo_tstp.specs.Places.{IsPlace, AreKnownBases, Fits, GoesOn, IsBinderAhead, IsTypeRead, TakesBinder}
use Rattle.leo_tstp.specs.Spelled.{binder_then}
use Rattle.leo_tstp.specs.Shapes.{opening, between}
use Rattle.leo_tstp.specs.TermTexts.{is_lambda, lambda_sign}
use Rattle.leo_tstp.specs.TermWords.{signed_then}
use Rattle.leo_tstp.specs.TermPlaces.{Says, SaysLogic, IsSaid, IsTermRead, IsFound, symbol_place, IsKnownSymbol, ArePlaces, IsScope, IsAround, AreKnownWords, IsKnownTerm, IsTermAhead, quantified_by, binder_word, constant_word, joined_by, joint_word, IsAtomWord, Atom, atom_variable, atom_bound, atom_symbol, atom_truth, atom_falsity, Words, words_atom, words_brackets, Behind, behind_apply, behind_join, behind_equal, Inside, inside_lambda, inside_binder, inside_set, inside_not, inside_two, Takes, TakesTerm, TakesInside, TakesBehind, TakesApplication, TakesJoined, TakesEquation, TakesLambda, TakesQuantified, TakesSet, TakesNegation, FitsFirst, TakesFirst, TakesUnder, TakesOver, TakesAtom}
use Rattle.leo_tstp.proofs.Placing.{place-kept, fits-kept}
use Rattle.leo_tstp.proofs.Typing.{goes-by, goes-trans, goes-added, place-on, fits-on}
use Rattle.leo_tstp.proofs.Terming.{around-on, known-on, said-on, says-kept, same-lexicon, known-body, known-function, known-argument, known-first, known-second, negated, equated, joined, quantified, no-lambda, longer, known-front, shape, inside-opens, sign_behind, behind-between, cut, atom-no-bracket, place-of, scope-of, other-front, other-text, not-front, begins-not, no-36, no-88, no-89}

-- ---- as a reader goes on

pub depth-on : (r t : Reader) → GoesOn r t → length r.scope.items ≡ length t.scope.items
depth-on r t g = ap length (sym g.scope_stays)

pub bases-on : (v : Vocabulary) (r t : Reader) (a : SimpleType) → GoesOn r t → AreKnownBases v r.lexicon a → AreKnownBases v t.lexicon a
bases-on v r t a g h = rw (same-lexicon r t g) h

-- a term that is read where so many lambdas stand around
pub taken : (r t : Reader) (f : Pattern) (result : Result Typed Stop) → TakesTerm r f result t → (d : ℕ) → d ≡ length r.scope.items
    → (v : Vocabulary) (vs s : List SimpleType) (x : Tree) (rest : List (List ℕ)) → IsAround v r vs s → IsKnownTerm v r vs s x
    → ahead_of r ≡ signed_then v d lambda_sign x rest → Fits v r.lexicon r.types.nodes.keys f (type_of x) → IsTaken result (IsTermRead v t d x rest)
taken r t f result takes d e v vs s x rest a k w fits =
    subst (λ (n : ℕ). IsTaken result (IsTermRead v t n x rest)) (sym e)
    (takes v x rest vs s (record { around = a; known = k; ahead = w ∙ ap (λ (n : ℕ). signed_then v n lambda_sign x rest) e }) fits)

pub under-taken : (r t : Reader) (p : ℕ) (f : Pattern) (result : Result Typed Stop) → TakesUnder r p f result t → (d : ℕ) → d ≡ length r.scope.items
    → (v : Vocabulary) (vs s : List SimpleType) (a : SimpleType) (x : Tree) (rest : List (List ℕ)) → IsAround v r vs s → IsPlace v r.lexicon r.types.nodes.keys a p → IsKnownTerm v r vs (a ∷ s) x
    → ahead_of r ≡ signed_then v (d + 1) lambda_sign x rest → Fits v r.lexicon r.types.nodes.keys f (type_of x) → IsTaken result (IsTermRead v t (d + 1) x rest)
under-taken r t p f result takes d e v vs s a x rest ar pl k w fits =
    subst (λ (n : ℕ). IsTaken result (IsTermRead v t (n + 1) x rest)) (sym e)
    (takes v vs s a x rest ar pl k (w ∙ ap (λ (n : ℕ). signed_then v (n + 1) lambda_sign x rest) e) fits)

pub binder-taken : (r t : Reader) (f : Pattern) (result : Result ℕ Stop) → TakesBinder r f result t → (d : ℕ) → d ≡ length r.scope.items
    → (v : Vocabulary) (a : SimpleType) (rest : List (List ℕ)) → IsShared r.types.nodes.keys → AreKnownBases v r.lexicon a
    → ahead_of r ≡ binder_then v d a rest → Fits v r.lexicon r.types.nodes.keys f a → IsTaken result (IsTypeRead v t a rest)
binder-taken r t f result takes d e v a rest sh k w fits =
    takes v a rest (record { words = w ∙ ap (λ (n : ℕ). binder_then v n a rest) e; shared = sh; known = k }) fits

-- the parts of a type of functions
pub both-parts : (v : Vocabulary) (l : Lexicon) (ns : List TypeNode) (a b : SimpleType) (p from to : ℕ) → IsPlace v l ns (arrow a b) p → slice_get ns p ≡ Some (node.Arrow from to)
    → IsPlace v l ns a from × IsPlace v l ns b to
both-parts v l ns a b p from to h e =
    let e₁ : h.0 ≡ from = cc in
    let e₂ : h.1 ≡ to = cc in
    (subst (λ x. IsPlace v l ns a x) e₁ h.3, subst (λ x. IsPlace v l ns b x) e₂ h.4)

-- ---- an application

app-type : (v : Vocabulary) (r : Reader) (vs s : List SimpleType) (f x : Tree) → IsKnownTerm v r vs s (app f x) → type_of f ≡ arrow (type_of x) (codomain (type_of f))
app-type v r vs s f x h = h.typed.4

pub app-parts : (v : Vocabulary) (r : Reader) (vs s : List SimpleType) (d : ℕ) (f x : Tree) (first : Typed) (from to : ℕ) → IsKnownTerm v r vs s (app f x) → IsSaid v r d f first
    → slice_get r.types.nodes.keys first.ty ≡ Some (node.Arrow from to)
    → IsPlace v r.lexicon r.types.nodes.keys (type_of x) from × IsPlace v r.lexicon r.types.nodes.keys (codomain (type_of f)) to
app-parts v r vs s d f x first from to k said e =
    both-parts v r.lexicon r.types.nodes.keys (type_of x) (codomain (type_of f)) first.ty from to
    (subst (λ a. IsPlace v r.lexicon r.types.nodes.keys a first.ty) (app-type v r vs s f x k) said.place) e

pub app-second : (v : Vocabulary) (r₀ r₁ r₂ : Reader) (vs s : List SimpleType) (f x : Tree) (first : Typed) (from to : ℕ) (sign : List ℕ) (rest : List (List ℕ)) (result : Result Typed Stop)
    → IsSaid v r₀ (length r₀.scope.items) f first → IsTermAhead v r₀ vs s (app f x) (sign ∷ signed_then v (length r₀.scope.items) lambda_sign x rest)
    → slice_get r₀.types.nodes.keys first.ty ≡ Some (node.Arrow from to)
    → r₁ ≡ record r₀ { at = r₁.at } → Passes r₀ r₁ → TakesTerm r₁ («Type» from) result r₂
    → IsTaken result (IsTermRead v r₂ (length r₀.scope.items) x rest)
app-second v r₀ r₁ r₂ vs s f x first from to sign rest result said h e stays pass takes =
    let g = goes-by r₀ r₁ stays in
    let p = app-parts v r₀ vs s (length r₀.scope.items) f x first from to h.known said e in
    taken r₁ r₂ («Type» from) result takes (length r₀.scope.items) (depth-on r₀ r₁ g) v vs s x rest (around-on v r₀ r₁ vs s g h.around)
    (known-on v r₀ r₁ vs s x g (known-argument f x h.known)) (pass _ _ h.ahead) (place-on v r₀ r₁ (type_of x) from g p.0)

pub app-read : (v : Vocabulary) (r₀ r₂ : Reader) (vs s : List SimpleType) (d : ℕ) (f x : Tree) (first argument : Typed) (from to : ℕ) (q r : Parsed) (rest : List (List ℕ))
    → IsKnownTerm v r₀ vs s (app f x) → IsSaid v r₀ d f first → slice_get r₀.types.nodes.keys first.ty ≡ Some (node.Arrow from to) → GoesOn r₀ r₂
    → IsTermRead v r₂ d x rest argument → q ≡ first.term → r ≡ argument.term
    → IsTermRead v r₂ d (app f x) rest (record { term = parsed.Apply q r; ty = to })
app-read v r₀ r₂ vs s d f x first argument from to q r rest k said e g read e₁ e₂ =
    let p = app-parts v r₀ vs s d f x first from to k said e in
    let s₁ = said-on v r₀ r₂ d f first g said in
    record {
      said = record {
        says = (q, r, refl, subst (λ y. Says v r₂.lexicon r₂.types.nodes.keys d y f) (sym e₁) s₁.says, subst (λ y. Says v r₂.lexicon r₂.types.nodes.keys d y x) (sym e₂) read.said.says);
        place = place-on v r₀ r₂ (codomain (type_of f)) to g p.1;
      };
      words = read.words;
    }

-- ---- formulas

-- a part of type `$o` behind a sign
pub truth-second : (v : Vocabulary) (r₀ r₁ r₂ : Reader) (vs s : List SimpleType) (t x : Tree) (sign : List ℕ) (rest : List (List ℕ)) (result : Result Typed Stop)
    → IsTermAhead v r₀ vs s t (sign ∷ signed_then v (length r₀.scope.items) lambda_sign x rest) → IsKnownTerm v r₀ vs s x → type_of x ≡ truth_type
    → r₁ ≡ record r₀ { at = r₁.at } → Passes r₀ r₁ → TakesTerm r₁ («Type» 0) result r₂
    → IsTaken result (IsTermRead v r₂ (length r₀.scope.items) x rest)
truth-second v r₀ r₁ r₂ vs s t x sign rest result h k e stays pass takes =
    let g = goes-by r₀ r₁ stays in
    let a = around-on v r₀ r₁ vs s g h.around in
    taken r₁ r₂ («Type» 0) result takes (length r₀.scope.items) (depth-on r₀ r₁ g) v vs s x rest a
    (known-on v r₀ r₁ vs s x g k) (pass _ _ h.ahead) (subst (λ b. IsPlace v r₁.lexicon r₁.types.nodes.keys b 0) (sym e) a.truth_is)

pub not-second : (v : Vocabulary) (r₀ r₁ r₂ : Reader) (vs s : List SimpleType) (x y : Tree) (sign : List ℕ) (rest : List (List ℕ)) (result : Result Typed Stop)
    → IsTermAhead v r₀ vs s (logic negation x y) (sign ∷ signed_then v (length r₀.scope.items) lambda_sign x rest)
    → r₁ ≡ record r₀ { at = r₁.at } → Passes r₀ r₁ → TakesTerm r₁ («Type» 0) result r₂
    → IsTaken result (IsTermRead v r₂ (length r₀.scope.items) x rest)
not-second v r₀ r₁ r₂ vs s x y sign rest result h stays pass takes =
    let p = negated x y h.known in
    truth-second v r₀ r₁ r₂ vs s (logic negation x y) x sign rest result h (known-first negation x y p.0 h.known) p.1 stays pass takes

pub not-read : (v : Vocabulary) (r₀ r₂ : Reader) (vs s : List SimpleType) (d : ℕ) (x y : Tree) (formula : Typed) (q : Parsed) (rest : List (List ℕ)) → IsAround v r₀ vs s → GoesOn r₀ r₂
    → IsTermRead v r₂ d x rest formula → q ≡ formula.term → IsTermRead v r₂ d (logic negation x y) rest (record { term = parsed.Not q; ty = 0 })
not-read v r₀ r₂ vs s d x y formula q rest a g read e = record {
  said = record {
    says = (q, refl, subst (λ z. Says v r₂.lexicon r₂.types.nodes.keys d z x) (sym e) read.said.says);
    place = (around-on v r₀ r₂ vs s g a).truth_is;
  };
  words = read.words;
}

pub join-second : (v : Vocabulary) (r₀ r₁ r₂ : Reader) (vs s : List SimpleType) (j : Joint) (x y : Tree) (sign : List ℕ) (rest : List (List ℕ)) (result : Result Typed Stop)
    → IsTermAhead v r₀ vs s (logic (joined_by j) x y) (sign ∷ signed_then v (length r₀.scope.items) lambda_sign y rest)
    → r₁ ≡ record r₀ { at = r₁.at } → Passes r₀ r₁ → TakesTerm r₁ («Type» 0) result r₂
    → IsTaken result (IsTermRead v r₂ (length r₀.scope.items) y rest)
join-second v r₀ r₁ r₂ vs s j x y sign rest result h stays pass takes =
    let p = joined j x y h.known in
    truth-second v r₀ r₁ r₂ vs s (logic (joined_by j) x y) y sign rest result h (known-second (joined_by j) x y p.1.0 h.known) p.1.1 stays pass takes

join-type : (j : Joint) → connective_type (joined_by j) ≡ truth_type
join-type joint.Or = refl
join-type joint.And = refl
join-type joint.Implies = refl

join-says : (j : Joint) (q r : Parsed) (F G : Parsed → Type 0) → F q → G r → SaysLogic (joined_by j) (parsed.Join j q r) F G
join-says joint.Or q r F G f g = (q, r, refl, f, g)
join-says joint.And q r F G f g = (q, r, refl, f, g)
join-says joint.Implies q r F G f g = (q, r, refl, f, g)

pub join-read : (v : Vocabulary) (r₀ r₂ : Reader) (vs s : List SimpleType) (d : ℕ) (j : Joint) (x y : Tree) (first second : Typed) (q r : Parsed) (rest : List (List ℕ))
    → IsAround v r₀ vs s → IsSaid v r₀ d x first → GoesOn r₀ r₂ → IsTermRead v r₂ d y rest second → q ≡ first.term → r ≡ second.term
    → IsTermRead v r₂ d (logic (joined_by j) x y) rest (record { term = parsed.Join j q r; ty = 0 })
join-read v r₀ r₂ vs s d j x y first second q r rest a said g read e₁ e₂ =
    let s₁ = said-on v r₀ r₂ d x first g said in
    record {
      said = record {
        says = join-says j q r (λ z. Says v r₂.lexicon r₂.types.nodes.keys d z x) (λ z. Says v r₂.lexicon r₂.types.nodes.keys d z y)
            (subst (λ z. Says v r₂.lexicon r₂.types.nodes.keys d z x) (sym e₁) s₁.says) (subst (λ z. Says v r₂.lexicon r₂.types.nodes.keys d z y) (sym e₂) read.said.says);
        place = subst (λ b. IsPlace v r₂.lexicon r₂.types.nodes.keys b 0) (sym (join-type j)) (around-on v r₀ r₂ vs s g a).truth_is;
      };
      words = read.words;
    }

pub equal-second : (v : Vocabulary) (r₀ r₁ r₂ : Reader) (vs s : List SimpleType) (a : SimpleType) (x y : Tree) (first : Typed) (sign : List ℕ) (rest : List (List ℕ)) (result : Result Typed Stop)
    → IsSaid v r₀ (length r₀.scope.items) x first → IsTermAhead v r₀ vs s (logic (equality a) x y) (sign ∷ signed_then v (length r₀.scope.items) lambda_sign y rest)
    → r₁ ≡ record r₀ { at = r₁.at } → Passes r₀ r₁ → TakesTerm r₁ («Type» first.ty) result r₂
    → IsTaken result (IsTermRead v r₂ (length r₀.scope.items) y rest)
equal-second v r₀ r₁ r₂ vs s a x y first sign rest result said h stays pass takes =
    let p = equated a x y h.known in
    let left : type_of x ≡ a = p.0.1 in
    let right : type_of y ≡ a = p.1.1 in
    let g = goes-by r₀ r₁ stays in
    taken r₁ r₂ («Type» first.ty) result takes (length r₀.scope.items) (depth-on r₀ r₁ g) v vs s y rest (around-on v r₀ r₁ vs s g h.around)
    (known-on v r₀ r₁ vs s y g (known-second (equality a) x y p.1.0 h.known)) (pass _ _ h.ahead)
    (place-on v r₀ r₁ (type_of y) first.ty g (subst (λ b. IsPlace v r₀.lexicon r₀.types.nodes.keys b first.ty) (left ∙ sym right) said.place))

pub equal-read : (v : Vocabulary) (r₀ r₂ : Reader) (vs s : List SimpleType) (d : ℕ) (a : SimpleType) (x y : Tree) (first second : Typed) (q r : Parsed) (rest : List (List ℕ))
    → IsAround v r₀ vs s → IsSaid v r₀ d x first → GoesOn r₀ r₂ → IsTermRead v r₂ d y rest second → q ≡ first.term → r ≡ second.term
    → IsTermRead v r₂ d (logic (equality a) x y) rest (record { term = parsed.Equal q r; ty = 0 })
equal-read v r₀ r₂ vs s d a x y first second q r rest ar said g read e₁ e₂ =
    let s₁ = said-on v r₀ r₂ d x first g said in
    record {
      said = record {
        says = (q, r, refl, subst (λ z. Says v r₂.lexicon r₂.types.nodes.keys d z x) (sym e₁) s₁.says, subst (λ z. Says v r₂.lexicon r₂.types.nodes.keys d z y) (sym e₂) read.said.says);
        place = (around-on v r₀ r₂ vs s g ar).truth_is;
      };
      words = read.words;
    }

-- ---- a body under a lambda

module _ (v : Vocabulary) (r₀ r₁ r₂ : Reader) (vs s : List SimpleType) (a : SimpleType) (t : Tree) (sign : List ℕ) (rest : List (List ℕ)) (from : Pattern) (of : ℕ)
    (h : IsTermAhead v r₀ vs s (lam a t) (sign ∷ binder_then v (length r₀.scope.items) a (signed_then v (length r₀.scope.items + 1) lambda_sign t rest)))
    (stays : r₁ ≡ record r₀ { at = r₁.at }) where
  pub lambda-binder : Passes r₀ r₁ → TakesBinder r₁ from (Ok of) r₂ → Fits v r₀.lexicon r₀.types.nodes.keys from a
      → IsTypeRead v r₂ a (signed_then v (length r₀.scope.items + 1) lambda_sign t rest) of
  lambda-binder pass takes fits =
      let g = goes-by r₀ r₁ stays in
      binder-taken r₁ r₂ from (Ok of) takes (length r₀.scope.items) (depth-on r₀ r₁ g) v a _ (g.shared h.around.shared) (bases-on v r₀ r₁ a g h.known.words.0)
      (pass _ _ h.ahead) (fits-on v r₀ r₁ from a g fits)

  pub lambda-second : (r₃ : Reader) (to : Pattern) (result : Result Typed Stop) → GoesOn r₁ r₂ → IsTypeRead v r₂ a (signed_then v (length r₀.scope.items + 1) lambda_sign t rest) of
      → TakesUnder r₂ of to result r₃ → Fits v r₀.lexicon r₀.types.nodes.keys to (type_of t) → IsTaken result (IsTermRead v r₃ (length r₀.scope.items + 1) t rest)
  lambda-second r₃ to result goes read takes fits =
      let g = goes-trans r₀ r₁ r₂ (goes-by r₀ r₁ stays) goes in
      under-taken r₂ r₃ of to result takes (length r₀.scope.items) (depth-on r₀ r₂ g) v vs s a t rest (around-on v r₀ r₂ vs s g h.around) read.place
      (known-on v r₀ r₂ vs (a ∷ s) t g (known-body a t h.known)) read.words (fits-on v r₀ r₂ to (type_of t) g fits)

pub lambda-read : (v : Vocabulary) (r₂ r₃ : Reader) (ts : Types) (d : ℕ) (a : SimpleType) (t : Tree) (of ty : ℕ) (body : Typed) (q : Parsed) (words rest : List (List ℕ))
    → IsTypeRead v r₂ a words of → GoesOn r₂ r₃ → IsTermRead v r₃ (d + 1) t rest body → AddsShared r₃.types.nodes.keys ts.nodes.keys (node.Arrow of body.ty) ty → q ≡ body.term
    → IsTermRead v (record r₃ { types = ts }) d (lam a t) rest (record { term = parsed.Lambda of q; ty = ty })
lambda-read v r₂ r₃ ts d a t of ty body q words rest read g found h e =
    let last = goes-added r₃ ts (node.Arrow of body.ty) ty h in
    let p = place-on v r₂ (record r₃ { types = ts }) a of (goes-trans r₂ r₃ (record r₃ { types = ts }) g last) read.place in
    let said₁ = said-on v r₃ (record r₃ { types = ts }) (d + 1) t body last found.said in
    record {
      said = record {
        says = (of, q, refl, p, subst (λ z. Says v r₃.lexicon ts.nodes.keys (d + 1) z t) (sym e) said₁.says);
        place = (of, body.ty, h.stored, p, said₁.place);
      };
      words = found.words;
    }

-- ---- quantifiers

quantify-says : (k : Quantifier) (a : SimpleType) (q : Parsed) (F G : Parsed → Type 0) → F q → SaysLogic (quantified_by k a) (parsed.Quantify k q) F G
quantify-says quantifier.All a q F G f = (q, refl, f)
quantify-says quantifier.Some a q F G f = (q, refl, f)
quantify-says quantifier.Choice a q F G f = (q, refl, f)

domain-is : (a b c e : SimpleType) → arrow a b ≡ arrow c e → a ≡ c
domain-is a b c e h = cc

range-is : (a b c e : SimpleType) → arrow a b ≡ arrow c e → b ≡ e
range-is a b c e h = cc

module _ (v : Vocabulary) (r₀ r₁ : Reader) (vs s : List SimpleType) (k : Quantifier) (a b : SimpleType) (t y : Tree) (sign : List ℕ) (rest : List (List ℕ)) (of : ℕ)
    (h : IsTermAhead v r₀ vs s (logic (quantified_by k a) (lam b t) y) (sign ∷ binder_then v (length r₀.scope.items) b (signed_then v (length r₀.scope.items + 1) lambda_sign t rest))) where
  binder-type : a ≡ b
  binder-type = sym (domain-is b (type_of t) a truth_type (quantified k a (lam b t) y h.known).1)

  body-type : type_of t ≡ truth_type
  body-type = range-is b (type_of t) a truth_type (quantified k a (lam b t) y h.known).1

  set-known : IsKnownTerm v r₀ vs s (lam b t)
  set-known = known-first (quantified_by k a) (lam b t) y (quantified k a (lam b t) y h.known).0 h.known

  pub quantified-over : (asked : Pattern) (result : Result ℕ Stop) → TakesOver r₀ k asked result r₁ → Fits v r₀.lexicon r₀.types.nodes.keys asked (connective_type (quantified_by k a))
      → IsTaken result (IsTypeRead v r₁ b (signed_then v (length r₀.scope.items + 1) lambda_sign t rest))
  quantified-over asked result takes fits =
      takes v vs s b sign _ h.around set-known.words.0 h.ahead (subst (λ c. Fits v r₀.lexicon r₀.types.nodes.keys asked (connective_type (quantified_by k c))) binder-type fits)

  pub quantified-second : (r₂ : Reader) (result : Result Typed Stop) → GoesOn r₀ r₁ → IsTypeRead v r₁ b (signed_then v (length r₀.scope.items + 1) lambda_sign t rest) of
      → TakesUnder r₁ of («Type» 0) result r₂ → IsTaken result (IsTermRead v r₂ (length r₀.scope.items + 1) t rest)
  quantified-second r₂ result g read takes =
      let ar = around-on v r₀ r₁ vs s g h.around in
      under-taken r₁ r₂ of («Type» 0) result takes (length r₀.scope.items) (depth-on r₀ r₁ g) v vs s b t rest ar read.place
      (known-on v r₀ r₁ vs (b ∷ s) t g (known-body b t set-known)) read.words (subst (λ c. IsPlace v r₁.lexicon r₁.types.nodes.keys c 0) (sym body-type) ar.truth_is)

  pub quantified-read : (r₂ : Reader) (body : Typed) (q set : Parsed) (ty : ℕ) → GoesOn r₀ r₁ → IsTypeRead v r₁ b (signed_then v (length r₀.scope.items + 1) lambda_sign t rest) of → GoesOn r₁ r₂
      → IsTermRead v r₂ (length r₀.scope.items + 1) t rest body → q ≡ body.term → set ≡ parsed.Lambda of q
      → (IsPlace v r₂.lexicon r₂.types.nodes.keys truth_type 0 → IsPlace v r₂.lexicon r₂.types.nodes.keys a of → IsPlace v r₂.lexicon r₂.types.nodes.keys (connective_type (quantified_by k a)) ty)
      → IsTermRead v r₂ (length r₀.scope.items) (logic (quantified_by k a) (lam b t) y) rest (record { term = parsed.Quantify k set; ty = ty })
  quantified-read r₂ body q set ty g₁ read g₂ found e₁ e₂ typed =
      let p = place-on v r₁ r₂ b of g₂ read.place in
      record {
        said = record {
          says = quantify-says k a set _ _ (of, q, e₂, p, subst (λ z. Says v r₂.lexicon r₂.types.nodes.keys (length r₀.scope.items + 1) z t) (sym e₁) found.said.says);
          place = typed (around-on v r₀ r₂ vs s (goes-trans r₀ r₁ r₂ g₁ g₂) h.around).truth_is (subst (λ c. IsPlace v r₂.lexicon r₂.types.nodes.keys c of) (sym binder-type) p);
        };
        words = found.words;
      }

-- ---- a quantifier that is applied to a set

module _ (v : Vocabulary) (r₀ r₁ r₂ : Reader) (vs s : List SimpleType) (k : Quantifier) (a : SimpleType) (x y : Tree) (sign : List ℕ) (rest : List (List ℕ))
    (h : IsTermAhead v r₀ vs s (logic (quantified_by k a) x y) (sign ∷ codes "@" ∷ signed_then v (length r₀.scope.items) lambda_sign x rest))
    (stays₁ : r₁ ≡ record r₀ { at = r₁.at }) (stays₂ : r₂ ≡ record r₁ { at = r₂.at }) where
  pub set-goes : GoesOn r₀ r₂
  set-goes = goes-trans r₀ r₁ r₂ (goes-by r₀ r₁ stays₁) (goes-by r₁ r₂ stays₂)

  pub set-words : Passes r₀ r₁ → TakesWord r₁ (codes "@") (Ok tt) r₂ → ahead_of r₂ ≡ signed_then v (length r₀.scope.items) lambda_sign x rest
  set-words pass takes = takes _ (pass _ _ h.ahead)

  pub set-type : type_of x ≡ arrow a truth_type
  set-type = (quantified k a x y h.known).1

  known-set : IsKnownTerm v r₀ vs s x
  known-set = known-first (quantified_by k a) x y (quantified k a x y h.known).0 h.known

  pub set-no-lambda : is_lambda x ≡ false → ahead_of r₂ ≡ signed_then v (length r₀.scope.items) lambda_sign x rest → first_word (ahead_of r₂) ≡ codes "(" → second_word (ahead_of r₂) ≡ codes "^" → ⊥
  set-no-lambda n w e f =
      no-lambda v r₀ vs s (length r₀.scope.items) rest x known-set n (ap first_word (sym w) ∙ e) (ap second_word (sym w) ∙ f)

  pub set-ahead : ahead_of r₂ ≡ signed_then v (length r₀.scope.items) lambda_sign x rest → IsTermAhead v r₂ vs s x (signed_then v (length r₂.scope.items) lambda_sign x rest)
  set-ahead w = record {
    around = around-on v r₀ r₂ vs s set-goes h.around;
    known = known-on v r₀ r₂ vs s x set-goes known-set;
    ahead = w ∙ ap (λ (n : ℕ). signed_then v n lambda_sign x rest) (depth-on r₀ r₂ set-goes);
  }

  pub set-fits : (element : Pattern) → Fits v r₀.lexicon r₀.types.nodes.keys element a → Fits v r₂.lexicon r₂.types.nodes.keys element a
  set-fits element f = fits-on v r₀ r₂ element a set-goes f

  pub set-truth : IsPlace v r₂.lexicon r₂.types.nodes.keys truth_type 0
  set-truth = (around-on v r₀ r₂ vs s set-goes h.around).truth_is

  pub set-taken : (r₃ : Reader) (result : Result Typed Stop) → IsTaken result (IsTermRead v r₃ (length r₂.scope.items) x rest) → IsTaken result (IsTermRead v r₃ (length r₀.scope.items) x rest)
  set-taken r₃ result read = subst (λ (n : ℕ). IsTaken result (IsTermRead v r₃ n x rest)) (sym (depth-on r₀ r₂ set-goes)) read

  pub set-place : (r₃ : Reader) (set : Typed) → IsTermRead v r₃ (length r₀.scope.items) x rest set → IsPlace v r₃.lexicon r₃.types.nodes.keys (arrow a truth_type) set.ty
  set-place r₃ set read = subst (λ c. IsPlace v r₃.lexicon r₃.types.nodes.keys c set.ty) set-type read.said.place

  pub set-read : (r₃ : Reader) (set : Typed) (of : ℕ) (q : Parsed) (ty : ℕ) → GoesOn r₂ r₃ → IsTermRead v r₃ (length r₀.scope.items) x rest set
      → IsPlace v r₃.lexicon r₃.types.nodes.keys a of → q ≡ set.term
      → (IsPlace v r₃.lexicon r₃.types.nodes.keys truth_type 0 → IsPlace v r₃.lexicon r₃.types.nodes.keys a of → IsPlace v r₃.lexicon r₃.types.nodes.keys (connective_type (quantified_by k a)) ty)
      → IsTermRead v r₃ (length r₀.scope.items) (logic (quantified_by k a) x y) rest (record { term = parsed.Quantify k q; ty = ty })
  set-read r₃ set of q ty g read p e typed = record {
    said = record {
      says = quantify-says k a q _ _ (subst (λ z. Says v r₃.lexicon r₃.types.nodes.keys (length r₀.scope.items) z x) (sym e) read.said.says);
      place = typed (around-on v r₀ r₃ vs s (goes-trans r₀ r₂ r₃ set-goes g) h.around).truth_is p;
    };
    words = read.words;
  }

-- ---- under one more lambda

deeper : (xs : List ℕ) (x : ℕ) → length xs + 1 ≡ length (xs ++ x ∷ [])
deeper xs x = let e = longer xs x in omega arith

moved : (P : Lexicon → List TypeNode → Type 0) (l m : Lexicon) (ns ms : List TypeNode) → m ≡ l → ms ≡ ns → P l ns → P m ms
moved P l m ns ms e f h = rw (e, f) h

pub under-taken-by : (r₀ r₁ r₂ : Reader) (of : ℕ) (f : Pattern) (result : Result Typed Stop) → TakesTerm r₁ f result r₂
    → r₁ ≡ record r₀ { scope = r₁.scope } → r₁.scope.items ≡ r₀.scope.items ++ of ∷ []
    → (v : Vocabulary) (vs s : List SimpleType) (a : SimpleType) (t : Tree) (rest : List (List ℕ)) → IsAround v r₀ vs s → IsPlace v r₀.lexicon r₀.types.nodes.keys a of
    → IsKnownTerm v r₀ vs (a ∷ s) t → ahead_of r₀ ≡ signed_then v (length r₀.scope.items + 1) lambda_sign t rest → Fits v r₀.lexicon r₀.types.nodes.keys f (type_of t)
    → IsTaken result (IsTermRead v r₂ (length r₀.scope.items + 1) t rest)
under-taken-by r₀ r₁ r₂ of f result takes e i v vs s a t rest ar pl k w fits =
    let same : r₁.lexicon ≡ r₀.lexicon = rw e refl in
    let keys : r₁.types.nodes.keys ≡ r₀.types.nodes.keys = rw e refl in
    let vars : r₁.variables.items ≡ r₀.variables.items = rw e refl in
    let words : ahead_of r₁ ≡ ahead_of r₀ = rw e refl in
    let at = λ (P : Lexicon → List TypeNode → Type 0). moved P r₀.lexicon r₁.lexicon r₀.types.nodes.keys r₁.types.nodes.keys same keys in
    let ar₁ : IsAround v r₁ vs (a ∷ s) = record {
      shared = at (λ l ns. IsShared ns) ar.shared;
      truth_is = at (λ l ns. IsPlace v l ns truth_type 0) ar.truth_is;
      variables = subst (λ ps. ArePlaces v r₁.lexicon r₁.types.nodes.keys vs ps) (sym vars) (at (λ l ns. ArePlaces v l ns vs r₀.variables.items) ar.variables);
      scope = (of, r₀.scope.items, i, at (λ l ns. IsPlace v l ns a of) pl, at (λ l ns. IsScope v l ns s r₀.scope.items) ar.scope);
    } in
    let k₁ : IsKnownTerm v r₁ vs (a ∷ s) t = record { present = k.present; typed = k.typed; over = k.over; words = at (λ l ns. AreKnownWords v l ns t) k.words } in
    taken r₁ r₂ f result takes (length r₀.scope.items + 1) (deeper r₀.scope.items of ∙ ap length (sym i)) v vs (a ∷ s) t rest ar₁ k₁ (words ∙ w) (at (λ l ns. Fits v l ns f (type_of t)) fits)

-- ---- what stands between brackets

pub on-goes : (r s t : Reader) {A : Type 0} (result : Result A Stop) → GoesOn r s → OnOk result (GoesOn s t) → OnOk result (GoesOn r t)
on-goes r s t (Ok x) g h = goes-trans r s t g h
on-goes r s t (Err e) g h = h

inside-is : {v : Vocabulary} {r : Reader} {vs s : List SimpleType} {d : ℕ} {rest ws : List (List ℕ)} {t : Tree} (o : Opening)
    → (i : Inside v d rest t ws) → IsTermAhead v r vs s t ws → opening (first_word (ahead_of r)) ≡ o → shape i ≡ o
inside-is o i h e = sym (inside-opens i h.known) ∙ (ap (λ w. opening (first_word w)) (sym h.ahead) ∙ e)

module _ (old new : Reader) (asked : Pattern) (result : Result Typed Stop) where
  lambda-case : {v : Vocabulary} {rest ws : List (List ℕ)} {t : Tree} → TakesLambda old asked result new
      → (i : Inside v (length old.scope.items) rest t ws) → shape i ≡ Lambda → Takes old asked result new v t ws rest
  unfolding shape
  lambda-case {v} {rest} takes (inside_lambda a t) e = takes v a t (codes "^") rest
  lambda-case takes (inside_binder k a b t y) e = absurd (cc)
  lambda-case takes (inside_set k a x y n) e = absurd (cc)
  lambda-case takes (inside_not x y) e = absurd (cc)
  lambda-case takes (inside_two t f ws b) e = absurd (cc)

  pub lambda-inside : TakesLambda old asked result new → opening (first_word (ahead_of old)) ≡ Lambda → TakesInside old asked result new
  lambda-inside takes e v t ws rest i vs s h k = lambda-case takes i (inside-is Lambda i h e) vs s h k

  binder-case : (q : Quantifier) {v : Vocabulary} {rest ws : List (List ℕ)} {t : Tree} → TakesQuantified old q asked result new
      → (i : Inside v (length old.scope.items) rest t ws) → shape i ≡ Binder q → Takes old asked result new v t ws rest
  unfolding shape
  binder-case q {v} {rest} takes (inside_lambda a t) e = absurd (cc)
  binder-case q {v} {rest} takes (inside_binder k a b t y) e =
      let same : q ≡ k = cc in
      (subst (λ (j : Quantifier). TakesQuantified old j asked result new) same takes) v a b t y (binder_word k) rest
  binder-case q takes (inside_set k a x y n) e = absurd (cc)
  binder-case q takes (inside_not x y) e = absurd (cc)
  binder-case q takes (inside_two t f ws b) e = absurd (cc)

  pub binder-inside : (q : Quantifier) → TakesQuantified old q asked result new → opening (first_word (ahead_of old)) ≡ Binder q → TakesInside old asked result new
  binder-inside q takes e v t ws rest i vs s h k = binder-case q takes i (inside-is (Binder q) i h e) vs s h k

  set-case : (q : Quantifier) {v : Vocabulary} {rest ws : List (List ℕ)} {t : Tree} → TakesSet old q asked result new
      → (i : Inside v (length old.scope.items) rest t ws) → shape i ≡ Applied q → Takes old asked result new v t ws rest
  unfolding shape
  set-case q {v} {rest} takes (inside_lambda a t) e = absurd (cc)
  set-case q {v} {rest} takes (inside_binder k a b t y) e = absurd (cc)
  set-case q {v} {rest} takes (inside_set k a x y n) e =
      let same : q ≡ k = cc in
      (subst (λ (j : Quantifier). TakesSet old j asked result new) same takes) v a x y (constant_word k) rest n
  set-case q takes (inside_not x y) e = absurd (cc)
  set-case q takes (inside_two t f ws b) e = absurd (cc)

  pub set-inside : (q : Quantifier) → TakesSet old q asked result new → opening (first_word (ahead_of old)) ≡ Applied q → TakesInside old asked result new
  set-inside q takes e v t ws rest i vs s h k = set-case q takes i (inside-is (Applied q) i h e) vs s h k

  not-case : {v : Vocabulary} {rest ws : List (List ℕ)} {t : Tree} → TakesNegation old asked result new
      → (i : Inside v (length old.scope.items) rest t ws) → shape i ≡ Not → Takes old asked result new v t ws rest
  unfolding shape
  not-case takes (inside_lambda a t) e = absurd (cc)
  not-case takes (inside_binder k a b t y) e = absurd (cc)
  not-case takes (inside_set k a x y n) e = absurd (cc)
  not-case {v} {rest} takes (inside_not x y) e = takes v x y (codes "~") rest
  not-case takes (inside_two t f ws b) e = absurd (cc)

  pub not-inside : TakesNegation old asked result new → opening (first_word (ahead_of old)) ≡ Not → TakesInside old asked result new
  not-inside takes e v t ws rest i vs s h k = not-case takes i (inside-is Not i h e) vs s h k

-- ---- two parts

-- what stands between brackets has two parts
pub data HasTwo (v : Vocabulary) (depth : ℕ) (rest : List (List ℕ)) : Tree → List (List ℕ) → Type 0 where
  has_two : (t f : Tree) (words : List (List ℕ)) → Behind v depth rest t f words → HasTwo v depth rest t (signed_then v depth lambda_sign f words)

pub two-parts : {v : Vocabulary} {d : ℕ} {rest ws : List (List ℕ)} {t : Tree} → (i : Inside v d rest t ws) → shape i ≡ Other → HasTwo v d rest t ws
unfolding shape
two-parts (inside_lambda a t) e = absurd (cc)
two-parts (inside_binder k a b t y) e = absurd (cc)
two-parts (inside_set k a x y n) e = absurd (cc)
two-parts (inside_not x y) e = absurd (cc)
two-parts (inside_two t f ws b) e = has_two t f ws b

front-fits : {v : Vocabulary} (r : Reader) (vs s : List SimpleType) {d : ℕ} {rest ws : List (List ℕ)} {t f : Tree} (asked : Pattern) → Behind v d rest t f ws → IsKnownTerm v r vs s t
    → Fits v r.lexicon r.types.nodes.keys asked (type_of t) → FitsFirst v r.lexicon r.types.nodes.keys asked (type_of f)
front-fits {v} r vs s asked (behind_apply f x) k h = inr (type_of x, codomain (type_of f), app-type v r vs s f x k, h)
front-fits {v} r vs s asked (behind_join j x y) k h = inl (subst (λ b. Fits v r.lexicon r.types.nodes.keys asked b) (join-type j) h)
front-fits r vs s asked (behind_equal a x y) k h = inl h

first-wanted-by : {v : Vocabulary} (r₀ r₁ : Reader) (vs s : List SimpleType) {rest ws : List (List ℕ)} {t : Tree} (asked : Pattern) (e : Stop) → TakesFirst r₀ asked (Err e) r₁
    → HasTwo v (length r₀.scope.items) rest t ws → IsTermAhead v r₀ vs s t ws → Fits v r₀.lexicon r₀.types.nodes.keys asked (type_of t) → IsWant e
first-wanted-by {v} r₀ r₁ vs s asked e takes (has_two t f ws b) h fits =
    takes v vs s f ws (record { around = h.around; known = known-front b h.known; ahead = h.ahead }) (front-fits r₀ vs s asked b h.known fits)

pub first-wanted : (r₀ r₁ : Reader) (asked : Pattern) (e : Stop) → TakesFirst r₀ asked (Err e) r₁ → opening (first_word (ahead_of r₀)) ≡ Other → TakesInside r₀ asked (Err e) r₁
first-wanted r₀ r₁ asked e takes o v t ws rest i vs s h k = first-wanted-by r₀ r₁ vs s asked e takes (two-parts i (inside-is Other i h o)) h k

behind-taken : (r t : Reader) (first : Typed) (f : Pattern) (result : Result Typed Stop) → TakesBehind r first f result t → (d : ℕ) → d ≡ length r.scope.items
    → (v : Vocabulary) (x y : Tree) (ws rest : List (List ℕ)) (vs s : List SimpleType) → Behind v d rest x y ws → IsSaid v r d y first → IsTermAhead v r vs s x ws
    → Fits v r.lexicon r.types.nodes.keys f (type_of x) → IsTaken result (IsTermRead v t d x rest)
behind-taken r t first f result takes d e v x y ws rest vs s b said h fits =
    (subst (λ (n : ℕ). Behind v n rest x y ws → IsSaid v r n y first → IsTaken result (IsTermRead v t n x rest)) (sym e) (λ b' said'. takes v x y ws rest b' said' vs s h fits)) b said

two-by : {v : Vocabulary} (r₀ r₁ r₂ : Reader) (vs s : List SimpleType) {rest ws : List (List ℕ)} {t : Tree} (asked : Pattern) (first : Typed) (result : Result Typed Stop)
    → TakesFirst r₀ asked (Ok first) r₁ → GoesOn r₀ r₁ → TakesBehind r₁ first asked result r₂
    → HasTwo v (length r₀.scope.items) rest t ws → IsTermAhead v r₀ vs s t ws → Fits v r₀.lexicon r₀.types.nodes.keys asked (type_of t)
    → IsTaken result (IsTermRead v r₂ (length r₀.scope.items) t rest)
two-by {v} r₀ r₁ r₂ vs s {rest} asked first result takes g behind (has_two t f ws b) h fits =
    let read = takes v vs s f ws (record { around = h.around; known = known-front b h.known; ahead = h.ahead }) (front-fits r₀ vs s asked b h.known fits) in
    behind-taken r₁ r₂ first asked result behind (length r₀.scope.items) (depth-on r₀ r₁ g) v t f ws rest vs s b read.said
    (record { around = around-on v r₀ r₁ vs s g h.around; known = known-on v r₀ r₁ vs s t g h.known; ahead = read.words }) (fits-on v r₀ r₁ asked (type_of t) g fits)

pub two-inside : (r₀ r₁ r₂ : Reader) (asked : Pattern) (first : Typed) (result : Result Typed Stop) → TakesFirst r₀ asked (Ok first) r₁ → GoesOn r₀ r₁ → TakesBehind r₁ first asked result r₂
    → opening (first_word (ahead_of r₀)) ≡ Other → TakesInside r₀ asked result r₂
two-inside r₀ r₁ r₂ asked first result takes g behind o v t ws rest i vs s h k = two-by r₀ r₁ r₂ vs s asked first result takes g behind (two-parts i (inside-is Other i h o)) h k

sign-is : {v : Vocabulary} {r : Reader} {vs s : List SimpleType} {d : ℕ} {rest ws : List (List ℕ)} {t f : Tree} (o : Option Between)
    → (b : Behind v d rest t f ws) → IsTermAhead v r vs s t ws → between (first_word (ahead_of r)) ≡ o → Some (sign_behind b) ≡ o
sign-is o b h e = sym (behind-between b) ∙ (ap (λ w. between (first_word w)) (sym h.ahead) ∙ e)

module _ (old new : Reader) (first : Typed) (asked : Pattern) (result : Result Typed Stop) where
  apply-case : {v : Vocabulary} {rest ws : List (List ℕ)} {t f : Tree} → TakesApplication old first asked result new
      → (b : Behind v (length old.scope.items) rest t f ws) → Some (sign_behind b) ≡ Some Apply → IsSaid v old (length old.scope.items) f first → Takes old asked result new v t ws rest
  unfolding sign_behind
  apply-case {v} {rest} takes (behind_apply f x) e said = takes v f x (codes "@") rest said
  apply-case takes (behind_join j x y) e said = absurd (cc)
  apply-case takes (behind_equal a x y) e said = absurd (cc)

  pub apply-behind : TakesApplication old first asked result new → between (first_word (ahead_of old)) ≡ Some Apply → TakesBehind old first asked result new
  apply-behind takes e v t f ws rest b said vs s h k = apply-case takes b (sign-is (Some Apply) b h e) said vs s h k

  join-case : (q : Joint) {v : Vocabulary} {rest ws : List (List ℕ)} {t f : Tree} → TakesJoined old q first asked result new
      → (b : Behind v (length old.scope.items) rest t f ws) → Some (sign_behind b) ≡ Some (Join q) → IsSaid v old (length old.scope.items) f first → Takes old asked result new v t ws rest
  unfolding sign_behind
  join-case q takes (behind_apply f x) e said = absurd (cc)
  join-case q {v} {rest} takes (behind_join j x y) e said =
      let same : q ≡ j = cc in
      (subst (λ (k : Joint). TakesJoined old k first asked result new) same takes) v x y (joint_word j) rest said
  join-case q takes (behind_equal a x y) e said = absurd (cc)

  pub join-behind : (q : Joint) → TakesJoined old q first asked result new → between (first_word (ahead_of old)) ≡ Some (Join q) → TakesBehind old first asked result new
  join-behind q takes e v t f ws rest b said vs s h k = join-case q takes b (sign-is (Some (Join q)) b h e) said vs s h k

  pub none-behind : between (first_word (ahead_of old)) ≡ None → TakesBehind old first asked result new
  none-behind e v t f ws rest b said vs s h k = absurd (let g : Some (sign_behind b) ≡ None = sign-is None b h e in cc)

-- ---- a term

-- what stands behind the bracket that opens a term
pub data HasInside (v : Vocabulary) (depth : ℕ) (rest : List (List ℕ)) : Tree → List (List ℕ) → Type 0 where
  has_inside : (t : Tree) (words : List (List ℕ)) → Inside v depth (codes ")" ∷ rest) t words → HasInside v depth rest t (codes "(" ∷ words)

in-brackets : {v : Vocabulary} (r : Reader) (vs s : List SimpleType) {d : ℕ} {rest ws : List (List ℕ)} {t : Tree} → Words v d rest t ws → IsTermAhead v r vs s t ws
    → first_word (ahead_of r) ≡ codes "(" → HasInside v d rest t ws
in-brackets r vs s (words_atom t w a) h e = absurd (atom-no-bracket r.lexicon r.types.nodes.keys a h.known.words (ap first_word (sym h.ahead) ∙ e))
in-brackets r vs s (words_brackets t ws i) h e = has_inside t ws i

inside-taken-by : {v : Vocabulary} (r₀ r₁ r₂ : Reader) (vs s : List SimpleType) {rest ws : List (List ℕ)} {t : Tree} (asked : Pattern) (result : Result Typed Stop)
    → r₁ ≡ record r₀ { at = r₁.at } → Passes r₀ r₁ → TakesInside r₁ asked result r₂ → HasInside v (length r₀.scope.items) rest t ws → IsTermAhead v r₀ vs s t ws
    → Fits v r₀.lexicon r₀.types.nodes.keys asked (type_of t) → IsTaken result (IsTermRead v r₂ (length r₀.scope.items) t (codes ")" ∷ rest))
inside-taken-by {v} r₀ r₁ r₂ vs s {rest} asked result stays pass takes (has_inside t ws i) h fits =
    let g = goes-by r₀ r₁ stays in
    let h₁ : IsTermAhead v r₁ vs s t ws = record { around = around-on v r₀ r₁ vs s g h.around; known = known-on v r₀ r₁ vs s t g h.known; ahead = pass _ _ h.ahead } in
    let f₁ = fits-on v r₀ r₁ asked (type_of t) g fits in
    (subst (λ (n : ℕ). Inside v n (codes ")" ∷ rest) t ws → IsTaken result (IsTermRead v r₂ n t (codes ")" ∷ rest))) (sym (depth-on r₀ r₁ g))
    (λ i'. takes v t ws (codes ")" ∷ rest) i' vs s h₁ f₁)) i

module _ (r₀ r₁ r₂ : Reader) (asked : Pattern) (stays : r₁ ≡ record r₀ { at = r₁.at }) (pass : Passes r₀ r₁) (bracket : first_word (ahead_of r₀) ≡ codes "(") where
  pub inside-taken : (result : Result Typed Stop) → TakesInside r₁ asked result r₂ → (v : Vocabulary) (t : Tree) (rest : List (List ℕ)) (vs s : List SimpleType)
      → IsTermAhead v r₀ vs s t (signed_then v (length r₀.scope.items) lambda_sign t rest) → Fits v r₀.lexicon r₀.types.nodes.keys asked (type_of t)
      → IsTaken result (IsTermRead v r₂ (length r₀.scope.items) t (codes ")" ∷ rest))
  inside-taken result takes v t rest vs s h fits =
      inside-taken-by r₀ r₁ r₂ vs s asked result stays pass takes (in-brackets r₀ vs s (cut v (length r₀.scope.items) rest t h.known.present) h bracket) h fits

pub bracket-read : (v : Vocabulary) (r₂ r₃ : Reader) (d : ℕ) (t : Tree) (rest : List (List ℕ)) (x : Typed) → IsTermRead v r₂ d t (codes ")" ∷ rest) x
    → TakesWord r₂ (codes ")") (Ok tt) r₃ → r₃ ≡ record r₂ { at = r₃.at } → IsTermRead v r₃ d t rest x
bracket-read v r₂ r₃ d t rest x read takes stays = record { said = said-on v r₂ r₃ d t x (goes-by r₂ r₃ stays) read.said; words = takes rest read.words }

atom-taken-by : {v : Vocabulary} (r t : Reader) (vs s : List SimpleType) {rest ws : List (List ℕ)} {x : Tree} (asked : Pattern) (result : Result Typed Stop)
    → TakesAtom r asked result t → Words v (length r.scope.items) rest x ws → IsTermAhead v r vs s x ws → Fits v r.lexicon r.types.nodes.keys asked (type_of x)
    → (first_word (ahead_of r) ≡ codes "(" → ⊥) → IsTaken result (IsTermRead v t (length r.scope.items) x rest)
atom-taken-by {v} r t vs s {rest} asked result takes (words_atom x w a) h fits n = takes v x w rest a vs s h fits
atom-taken-by r t vs s asked result takes (words_brackets x ws i) h fits n = absurd (n (ap first_word h.ahead))

pub atom-taken : (r t : Reader) (asked : Pattern) (result : Result Typed Stop) → TakesAtom r asked result t → (first_word (ahead_of r) ≡ codes "(" → ⊥) → TakesTerm r asked result t
atom-taken r t asked result takes n v x rest vs s h fits = atom-taken-by r t vs s asked result takes (cut v (length r.scope.items) rest x h.known.present) h fits n

pub still : (r₁ r₂ r₃ : Reader) → r₃ ≡ r₂ → r₂ ≡ record r₁ { at = r₂.at } → r₃ ≡ record r₁ { at = r₃.at }
still r₁ r₂ r₃ e h = subst (λ (r : Reader). r ≡ record r₁ { at = r.at }) (sym e) h

pub still-ahead : (r₂ r₃ : Reader) (ws : List (List ℕ)) → r₃ ≡ r₂ → ahead_of r₂ ≡ ws → ahead_of r₃ ≡ ws
still-ahead r₂ r₃ ws e h = ap ahead_of e ∙ h

-- ---- words of one atom

pub found-at : (v : Vocabulary) (r : Reader) (vs s : List SimpleType) (n : ℕ) (a : SimpleType) (o : Option ℕ) → IsAround v r vs s → slice_get vs n ≡ Some a
    → o ≡ slice_get r.variables.items n → IsFound o (IsPlace v r.lexicon r.types.nodes.keys a)
found-at v r vs s n a o h e same =
    let p = place-of v r.lexicon r.types.nodes.keys vs r.variables.items n a h.variables e in
    subst (λ z. IsFound z (IsPlace v r.lexicon r.types.nodes.keys a)) (sym (same ∙ p.1)) p.2

pub level-at : (v : Vocabulary) (r : Reader) (vs s : List SimpleType) (i n : ℕ) (a : SimpleType) (o : Option ℕ) → IsAround v r vs s → slice_get s i ≡ Some a
    → n ≡ (length r.scope.items - i) - 1 → o ≡ slice_get r.scope.items n → IsFound o (IsPlace v r.lexicon r.types.nodes.keys a)
level-at v r vs s i n a o h e m same =
    let p = scope-of v r.lexicon r.types.nodes.keys s r.scope.items i a h.scope e in
    subst (λ z. IsFound z (IsPlace v r.lexicon r.types.nodes.keys a)) (sym (same ∙ (ap (λ k. slice_get r.scope.items k) m ∙ p.1))) p.2

pub symbol-at : (v : Vocabulary) (l : Lexicon) (ns : List TypeNode) (s : ℕ) (a : SimpleType) (w : List ℕ) (q : ℕ) (o : Option ℕ) → IsKnownSymbol v l ns s a → w ≡ v.symbol_word s
    → symbol_place l w ≡ Some q → o ≡ slice_get l.symbol_types.items q → IsFound o (IsPlace v l ns a) × (symbol_place l (v.symbol_word s) ≡ Some q)
symbol-at v l ns s a w q o h e f same =
    let g : symbol_place l (v.symbol_word s) ≡ Some q = ap (symbol_place l) (sym e) ∙ f in
    let both : Some h.place ≡ Some q = sym h.at ∙ g in
    let p : h.place ≡ q = cc in
    (subst (λ z. IsFound z (IsPlace v l ns a)) (sym (same ∙ (ap (λ k. slice_get l.symbol_types.items k) (sym p) ∙ h.type_at))) h.type_is, g)

pub no-symbol : (v : Vocabulary) (l : Lexicon) (ns : List TypeNode) (s : ℕ) (a : SimpleType) (w : List ℕ) → IsKnownSymbol v l ns s a → w ≡ v.symbol_word s → symbol_place l w ≡ None → ⊥
no-symbol v l ns s a w h e f =
    let both : Some h.place ≡ None = sym h.at ∙ (ap (symbol_place l) (sym e) ∙ f) in cc

pub found-some : {A : Type 0} (P : A → Type 0) (o : Option A) (x : A) → o ≡ Some x → IsFound o P → P x
found-some P o x e h = subst (λ z. IsFound z P) e h

pub found-none : {A : Type 0} (P : A → Type 0) (o : Option A) → o ≡ None → IsFound o P → ⊥
found-none P o e h = subst (λ z. IsFound z P) e h

pub some-same : (m n : ℕ) → Some m ≡ Some n → m ≡ n
some-same m n e = cc

wider : (n : ℕ) → n < 2 ^ 32 → n < 2 ^ 64
wider n h = omega arith

absent-here : (o : Option ℕ) (m : ℕ) → o ≡ None → o ≡ Some m → ⊥
absent-here o m e f = cc

-- `$true` and `$false`
pub truth-said : {v : Vocabulary} (r : Reader) (vs s : List SimpleType) {d : ℕ} {t : Tree} {w : List ℕ} → Atom v d t w → IsAround v r vs s → IsKnownTerm v r vs s t → w ≡ codes "$true"
    → IsSaid v r d t (record { term = parsed.Truth true; ty = 0 })
truth-said r vs s (atom_variable n a) h k e = absurd (other-front 88 36 _ _ refl e)
truth-said r vs s (atom_bound i a) h k e = absurd (other-front 89 36 _ _ refl e)
truth-said {v} r vs s (atom_symbol m a) h k e = absurd (not-front (v.symbol_word m) 36 _ k.words.word (begins-not 36 no-36) e)
truth-said r vs s (atom_truth x y) h k e = record { says = refl; place = h.truth_is }
truth-said r vs s (atom_falsity x y) h k e = absurd (other-text (codes "$false") (codes "$true") refl e)

pub falsity-said : {v : Vocabulary} (r : Reader) (vs s : List SimpleType) {d : ℕ} {t : Tree} {w : List ℕ} → Atom v d t w → IsAround v r vs s → IsKnownTerm v r vs s t → w ≡ codes "$false"
    → IsSaid v r d t (record { term = parsed.Truth false; ty = 0 })
falsity-said r vs s (atom_variable n a) h k e = absurd (other-front 88 36 _ _ refl e)
falsity-said r vs s (atom_bound i a) h k e = absurd (other-front 89 36 _ _ refl e)
falsity-said {v} r vs s (atom_symbol m a) h k e = absurd (not-front (v.symbol_word m) 36 _ k.words.word (begins-not 36 no-36) e)
falsity-said r vs s (atom_truth x y) h k e = absurd (other-text (codes "$true") (codes "$false") refl e)
falsity-said r vs s (atom_falsity x y) h k e = record { says = refl; place = h.truth_is }

-- what is read of the words of variables
pub record ReadsNumber (letter : ℕ) (word : List ℕ) (o : Option ℕ) (Small : ℕ → Type 0) : Type 0 where
  pub reads : (n : ℕ) → Small n → word ≡ letter ∷ decimal n → o ≡ Some n
  pub other : (b : ℕ) (bs : List ℕ) → word ≡ b ∷ bs → b ≢ letter → o ≡ None

unlike : (a b : ℕ) → nat_eq a b ≡ false → a ≢ b
unlike a b n e = other-front a b [] [] n (ap (λ x. x ∷ []) e)

symbol-unlike : (w : List ℕ) (k : ℕ) → (h : IsAtomWord w) → (IsTrue (is_lower k || nat_eq k single_quote) → ⊥) → h.front ≢ k
symbol-unlike w k h n e = not-front w k h.back h n (h.word_is ∙ ap (λ x. x ∷ h.back) e)

pub variable-found : {v : Vocabulary} (r : Reader) (vs s : List SimpleType) {d : ℕ} {t : Tree} {w : List ℕ} (o : Option ℕ) (m : ℕ) (result : Option Typed)
    → Atom v d t w → IsAround v r vs s → IsKnownTerm v r vs s t → ReadsNumber 88 w o (λ n. n < 2 ^ 64) → o ≡ Some m
    → ((a : SimpleType) → m < 2 ^ 32 → slice_get vs m ≡ Some a → IsFound result (IsSaid v r d (variable m a))) → IsFound result (IsSaid v r d t)
variable-found {v} r vs s {d} o m result (atom_variable n a) h k reads e found =
    let small : n < 2 ^ 32 = k.words in
    let over : slice_get vs n ≡ Some a = k.over in
    let same = some-same m n (sym e ∙ reads.reads n (wider n small) refl) in
    subst (λ (j : ℕ). IsFound result (IsSaid v r d (variable j a))) same (found a (subst (λ (j : ℕ). j < 2 ^ 32) (sym same) small) (subst (λ (j : ℕ). slice_get vs j ≡ Some a) (sym same) over))
variable-found r vs s o m result (atom_bound i a) h k reads e found = absurd (absent-here o m (reads.other 89 _ refl (unlike 89 88 refl)) e)
variable-found {v} r vs s o m result (atom_symbol n a) h k reads e found =
    absurd (absent-here o m (reads.other _ _ k.words.word.word_is (symbol-unlike (v.symbol_word n) 88 k.words.word (begins-not 88 no-88))) e)
variable-found r vs s o m result (atom_truth x y) h k reads e found = absurd (absent-here o m (reads.other 36 _ refl (unlike 36 88 refl)) e)
variable-found r vs s o m result (atom_falsity x y) h k reads e found = absurd (absent-here o m (reads.other 36 _ refl (unlike 36 88 refl)) e)

level-within : (v : Vocabulary) (r : Reader) (vs s : List SimpleType) (i : ℕ) (a : SimpleType) → IsAround v r vs s → slice_get s i ≡ Some a → ((length r.scope.items - i) - 1) < length r.scope.items
level-within v r vs s i a h e = let p = scope-of v r.lexicon r.types.nodes.keys s r.scope.items i a h.scope e in slice_get_within r.scope.items _ p.0 p.1

pub level-found : {v : Vocabulary} (r : Reader) (vs s : List SimpleType) {t : Tree} {w : List ℕ} (o : Option ℕ) (m : ℕ) (result : Option Typed)
    → Atom v (length r.scope.items) t w → IsAround v r vs s → IsKnownTerm v r vs s t → ReadsNumber 89 w o (λ n. n < length r.scope.items) → o ≡ Some m
    → ((i : ℕ) (a : SimpleType) → slice_get s i ≡ Some a → m ≡ (length r.scope.items - i) - 1 → IsFound result (IsSaid v r (length r.scope.items) (bound i a)))
    → IsFound result (IsSaid v r (length r.scope.items) t)
level-found {v} r vs s o m result (atom_bound i a) h k reads e found =
    let over : slice_get s i ≡ Some a = k.over in
    found i a over (some-same m _ (sym e ∙ reads.reads _ (level-within v r vs s i a h over) refl))
level-found r vs s o m result (atom_variable n a) h k reads e found = absurd (absent-here o m (reads.other 88 _ refl (unlike 88 89 refl)) e)
level-found {v} r vs s o m result (atom_symbol n a) h k reads e found =
    absurd (absent-here o m (reads.other _ _ k.words.word.word_is (symbol-unlike (v.symbol_word n) 89 k.words.word (begins-not 89 no-89))) e)
level-found r vs s o m result (atom_truth x y) h k reads e found = absurd (absent-here o m (reads.other 36 _ refl (unlike 36 89 refl)) e)
level-found r vs s o m result (atom_falsity x y) h k reads e found = absurd (absent-here o m (reads.other 36 _ refl (unlike 36 89 refl)) e)

pub symbol-found : {v : Vocabulary} (r : Reader) (vs s : List SimpleType) {t : Tree} {w : List ℕ} (o p : Option ℕ) (result : Option Typed)
    → Atom v (length r.scope.items) t w → IsAround v r vs s → IsKnownTerm v r vs s t → (w ≡ codes "$true" → ⊥) → (w ≡ codes "$false" → ⊥)
    → ReadsNumber 88 w o (λ n. n < 2 ^ 64) → ((n : ℕ) → o ≡ Some n → ⊥) → ReadsNumber 89 w p (λ n. n < length r.scope.items) → ((n : ℕ) → p ≡ Some n → ⊥)
    → ((m : ℕ) (a : SimpleType) → w ≡ v.symbol_word m → IsKnownSymbol v r.lexicon r.types.nodes.keys m a → IsFound result (IsSaid v r (length r.scope.items) (symbol m a)))
    → IsFound result (IsSaid v r (length r.scope.items) t)
symbol-found {v} r vs s o p result (atom_variable n a) h k nt nf x nx y ny found = absurd (nx n (x.reads n (wider n k.words) refl))
symbol-found {v} r vs s o p result (atom_bound i a) h k nt nf x nx y ny found = absurd (ny _ (y.reads _ (level-within v r vs s i a h k.over) refl))
symbol-found {v} r vs s o p result (atom_symbol n a) h k nt nf x nx y ny found = found n a refl k.words
symbol-found {v} r vs s o p result (atom_truth e f) h k nt nf x nx y ny found = absurd (nt refl)
symbol-found {v} r vs s o p result (atom_falsity e f) h k nt nf x nx y ny found = absurd (nf refl)

-- one atom

pub atom-read : (v : Vocabulary) (r₀ r₁ : Reader) (vs s : List SimpleType) (t : Tree) (w : List ℕ) (rest : List (List ℕ)) (x : Typed)
    → IsTermAhead v r₀ vs s t (w ∷ rest) → IsSaid v r₀ (length r₀.scope.items) t x → r₁ ≡ record r₀ { at = r₁.at } → Passes r₀ r₁ → IsTermRead v r₁ (length r₀.scope.items) t rest x
atom-read v r₀ r₁ vs s t w rest x h said stays pass = record { said = said-on v r₀ r₁ (length r₀.scope.items) t x (goes-by r₀ r₁ stays) said; words = pass _ _ h.ahead }
