-- What the calls that compare and match terms say to one another. No public contract speaks of it.
use Rattle.std.specs.Prelude.{ℕ, ◌≡◌, ◌<◌, ◌⊎◌, Bool, true, false, List, [], ◌∷◌, ◌++◌, Some, slice_get}
use Rattle.std.specs.List.{AllByRecursion}
use Rattle.fo_terms.specs.declared.term.FoNode.{FoNode}
use Rattle.fo_terms.specs.declared.term.FoNode.TheVariants.{Var, Sym}
use Rattle.fo_terms.specs.Terms.{Term, Terms, variable}
use Rattle.fo_terms.specs.Prefix.{prefix}
use Rattle.fo_terms.specs.Substitutions.{Substitution, apply, apply_to_all}
use Rattle.fo_text.specs.declared.problem.FoSym.{FoSym}
use Rattle.fo_text.specs.declared.problem.FoLit.{FoLit}
use Rattle.fo_replay.specs.Replays.{applied_literal}
use Rattle.fo_super.specs.declared.matching.Binding.{Binding}
use Rattle.fo_super.specs.Subsumption.{KeepsSort, KeepsSorts, KeepSorts, IsSameLiteral, IsSent}

-- the sides are the same, as they are or turned
abbrev pub HaveSameSides : FoLit → FoLit → Type 0
HaveSameSides l k = ((l.left ≡ k.left) × (l.right ≡ k.right)) ⊎ ((l.left ≡ k.right) × (l.right ≡ k.left))

-- the variable of the node, if it has one, has one sort in both lists
abbrev pub HasNodeSameSorts : List ℕ → List ℕ → FoNode → Type 0
HasNodeSameSorts vars wars (Var v) = slice_get vars v ≡ slice_get wars v
HasNodeSameSorts vars wars (Sym f k) = Unit {0}

-- the variable is not bound
abbrev pub IsUnbound : ℕ → List Binding → Type 0
IsUnbound n [] = Unit {0}
IsUnbound n (b ∷ bs) = (b.variable ≡ n → ⊥) × IsUnbound n bs

-- the variable is bound to the term
pub record IsBoundTo (n : ℕ) (t : Term) (bs : List Binding) : Type 0 where
  pub place : ℕ
  pub binding : Binding
  pub stands : slice_get bs place ≡ Some binding
  pub variable_is : binding.variable ≡ n
  pub term_is : binding.term ≡ t

-- no variable is bound twice, and each to a term of its sort
abbrev pub AreBindings : List ℕ → List ℕ → List FoSym → List Binding → Type 0
AreBindings vars news syms [] = Unit {0}
AreBindings vars news syms (b ∷ bs) = KeepsSort vars news syms b.variable b.term × IsUnbound b.variable bs × AreBindings vars news syms bs

-- the substitution has for each bound variable what it is bound to
abbrev pub Obeys : List Binding → Substitution → Type 0
Obeys [] s = Unit {0}
Obeys (b ∷ bs) s = (s b.variable ≡ b.term) × Obeys bs s

-- the new bindings say what the old ones say and besides what is asked of the substitution, where that can be found
pub record Narrows (vars news : List ℕ) (syms : List FoSym) (old new : List Binding) (found : Bool) (Asked : Substitution → Type 0) : Type 0 where
  pub more : List Binding
  pub extends : new ≡ old ++ more
  pub sound : AreBindings vars news syms new
  pub gained : found ≡ true → (s : Substitution) → Obeys new s → Asked s
  pub kept : found ≡ true → (s : Substitution) → Obeys old s → Asked s → Obeys new s
  pub refused : found ≡ false → (s : Substitution) → Obeys old s → Asked s → ⊥

-- the pattern becomes the term, and its variables go to terms of their sorts
abbrev pub Fits : List ℕ → List ℕ → List FoSym → Term → Term → Substitution → Type 0
Fits vars news syms p t s = KeepsSorts vars news syms s p × (apply s p ≡ t)

abbrev pub FitAll : List ℕ → List ℕ → List FoSym → Terms → Terms → Substitution → Type 0
FitAll vars news syms ps ts s = KeepSorts vars news syms s ps × (apply_to_all s ps ≡ ts)

-- the same of two patterns
abbrev pub BothFit : List ℕ → List ℕ → List FoSym → Term → Term → Term → Term → Substitution → Type 0
BothFit vars news syms p t q u s = Fits vars news syms p t s × Fits vars news syms q u s

-- a term stands at the front of the nodes
abbrev pub StartsWithTerm : List FoNode → Type 0
StartsWithTerm ns = (t : Term) × (back : List FoNode) × (ns ≡ prefix t ++ back)

-- a node of a pattern does not fit the nodes of a term and those behind it
abbrev pub IsRefused : List ℕ → List ℕ → List FoSym → FoNode → Term → List FoNode → List Binding → List Binding → Type 0
IsRefused vars news syms (Var v) t back old new = Narrows vars news syms old new false (Fits vars news syms (variable v) t)
IsRefused vars news syms (Sym f k) t back old new = (new ≡ old) × ((rest : List FoNode) → prefix t ++ back ≡ Sym f k ∷ rest → ⊥)

-- it fits, and leaves the rest: a variable takes the term, a symbol its own node
abbrev pub IsPassed : List ℕ → List ℕ → List FoSym → FoNode → Term → List FoNode → List Binding → List Binding → List FoNode → Type 0
IsPassed vars news syms (Var v) t back old new rest = Narrows vars news syms old new true (Fits vars news syms (variable v) t) × (rest ≡ back)
IsPassed vars news syms (Sym f k) t back old new rest = (new ≡ old) × (prefix t ++ back ≡ Sym f k ∷ rest)

-- a substitution gives each bound variable what it is bound to, and sends the literals among others
pub record SendsAmong (vars news : List ℕ) (syms : List FoSym) (bindings : List Binding) (literals others : List FoLit) : Type 0 where
  pub substitution : Substitution
  pub obeyed : Obeys bindings substitution
  pub sent : AllByRecursion (IsSent vars news syms others substitution) literals

-- the same, with a first literal of which something is asked besides
pub record SendsFirst (vars news : List ℕ) (syms : List FoSym) (bindings : List Binding) (Asked : Substitution → Type 0) (rest others : List FoLit) : Type 0 where
  pub substitution : Substitution
  pub obeyed : Obeys bindings substitution
  pub first : Asked substitution
  pub sent : AllByRecursion (IsSent vars news syms others substitution) rest

-- the literal is among others once the substitution is applied, and the sorts of its variables are kept
abbrev pub IsSentAmong : List ℕ → List ℕ → List FoSym → FoLit → List FoLit → Substitution → Type 0
IsSentAmong vars news syms l others s = IsSent vars news syms others s l

-- it is this one then, as it is or turned
abbrev pub IsSentTo : List ℕ → List ℕ → List FoSym → FoLit → FoLit → Substitution → Type 0
IsSentTo vars news syms l k s = KeepsSorts vars news syms s l.left × KeepsSorts vars news syms s l.right × IsSameLiteral (applied_literal s l) k

-- no item of the list is the number
abbrev pub HasNoPlace : List ℕ → ℕ → Type 0
HasNoPlace ns v = (i n : ℕ) → slice_get ns i ≡ Some n → n ≡ v → ⊥

-- the place is the first at which the number stands
pub record IsFirstPlace (ns : List ℕ) (v place : ℕ) : Type 0 where
  pub stands : slice_get ns place ≡ Some v
  pub first : (i n : ℕ) → i < place → slice_get ns i ≡ Some n → n ≡ v → ⊥
