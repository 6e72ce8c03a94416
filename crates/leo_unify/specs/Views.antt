-- What the numbers of a bank say in pairs, patterns, bindings and acts. Of these, public contracts speak of
-- pairs, applications and chosen things alone.
use Rattle.std.specs.Prelude.{ℕ, ◌≡◌, ◌<◌, List, [], ◌∷◌, length, map, slice_get, Bool, true, false, Option, Some, None}
use Rattle.leo_q0.specs.Terms.{SimpleType}
use Rattle.leo_terms.specs.Tree.{Tree, IsBoundAt}
use Rattle.leo_terms.specs.Contents.{Contents, tree_at, type_at}
use Rattle.leo_clause.specs.Typed.{AreTypesOf}
use Rattle.leo_unify.specs.declared.pattern.Pattern as declared
use Rattle.leo_unify.specs.declared.pairs.Pair as declared_pair
use Rattle.leo_unify.specs.declared.pairs.Application.{Application}
use Rattle.leo_unify.specs.declared.pairs.Chosen.{Chosen}
use Rattle.leo_unify.specs.declared.binding.Binding as declared_binding
use Rattle.leo_unify.specs.declared.act.Act as declared_act
use Rattle.leo_unify.specs.declared.act.Act.TheVariants as act
use Rattle.leo_unify.specs.Acts.{Binding, Act, stay, replace, bind, refuse, branch}
use Rattle.leo_unify.specs.Pairs.{Pair}
use Rattle.leo_unify.specs.Patterns.{Pattern}

abbrev pub pattern_at : Contents → declared.Pattern → Pattern
pattern_at c p = record { number = p.number; order = p.order; types = map (type_at c) p.types }

-- the types of a pattern are types of the bank
abbrev pub HasTypes : Contents → Option declared.Pattern → Type 0
HasTypes c None = Unit {0}
HasTypes c (Some p) = AreTypesOf c p.types

-- the indices of a term have these types, from the innermost on
abbrev pub AreBodyTypes : List SimpleType → Tree → Type 0
AreBodyTypes types t = (p : ℕ) (a : SimpleType) → slice_get types p ≡ Some a → IsBoundAt p a t

abbrev pub pair_at : Contents → declared_pair.Pair → Pair
pair_at c p = record { left = tree_at c p.left; right = tree_at c p.right }

abbrev pub application_at : Contents → Application → Tree × Tree
application_at c a = (tree_at c a.function, tree_at c a.argument)

abbrev pub chosen_at : Contents → Chosen → SimpleType × Tree
chosen_at c a = (type_at c a.ty, tree_at c a.property)

-- the numbers of pairs are numbers of the bank
abbrev pub ArePairsOf : Contents → List declared_pair.Pair → Type 0
ArePairsOf c [] = Unit {0}
ArePairsOf c (p ∷ ps) = (p.left < length c.terms) × (p.right < length c.terms) × ArePairsOf c ps

abbrev pub AreOptionalPairsOf : Contents → Option (List declared_pair.Pair) → Type 0
AreOptionalPairsOf c None = Unit {0}
AreOptionalPairsOf c (Some ps) = ArePairsOf c ps

abbrev pub binding_at : Contents → declared_binding.Binding → Binding
binding_at c b = record { number = b.number; fresh = map (type_at c) b.fresh; term = tree_at c b.term }

abbrev pub act_at : Contents → declared_act.Act → Act
act_at c act.Stay = stay
act_at c (act.Replace ps) = replace (map (pair_at c) ps)
act_at c (act.Bind b) = bind (binding_at c b)
act_at c act.Refuse = refuse
act_at c (act.Branch bs) = branch (map (binding_at c) bs)

-- the numbers of bindings and acts are numbers of the bank
pub record IsBindingOf (c : Contents) (b : declared_binding.Binding) : Type 0 where
  pub types_of : AreTypesOf c b.fresh
  pub within : b.term < length c.terms

abbrev pub AreBindingsOf : Contents → List declared_binding.Binding → Type 0
AreBindingsOf c [] = Unit {0}
AreBindingsOf c (b ∷ bs) = IsBindingOf c b × AreBindingsOf c bs

abbrev pub IsActOf : Contents → declared_act.Act → Type 0
IsActOf c act.Stay = Unit {0}
IsActOf c (act.Replace ps) = ArePairsOf c ps
IsActOf c (act.Bind b) = IsBindingOf c b
IsActOf c act.Refuse = Unit {0}
IsActOf c (act.Branch bs) = AreBindingsOf c bs

abbrev pub IsOptionalActOf : Contents → Option declared_act.Act → Type 0
IsOptionalActOf c None = Unit {0}
IsOptionalActOf c (Some a) = IsActOf c a

-- no case applies
abbrev pub stays : Act → Bool
stays stay = true
stays (replace ps) = false
stays (bind b) = false
stays refuse = false
stays (branch bs) = false
