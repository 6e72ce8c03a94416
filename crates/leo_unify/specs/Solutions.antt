-- Solutions as trees, and what holds of each.
use Rattle.std.specs.Prelude.{◌≡◌, List, [], ◌∷◌, map}
use Rattle.leo_q0.specs.Terms.{SimpleType}
use Rattle.leo_terms.specs.Tree.{type_of}
use Rattle.leo_terms.specs.Contents.{Contents, AreTerms, tree_at, type_at}
use Rattle.leo_clause.specs.Typed.{AreTypesOf}
use Rattle.leo_unify.specs.declared.sigma.Sigma.{Sigma}
use Rattle.leo_unify.specs.Contexts.{AreTermsIn}
use Rattle.leo_unify.specs.Search.{Solution}

-- what a solution of a bank says
abbrev pub sigma_at : Contents → Sigma → Solution
sigma_at c s = record { variables = map (type_at c) s.vars; terms = map (tree_at c) s.terms }

-- closed terms of these types over the solution's variables, in normal form
pub record IsSigmaOf (c : Contents) (types : List SimpleType) (s : Sigma) : Type 0 where
  pub types_of : AreTypesOf c s.vars
  pub terms_of : AreTerms c s.terms
  pub terms_in : AreTermsIn (map (type_at c) s.vars) (map (tree_at c) s.terms)
  pub typed : map type_of (map (tree_at c) s.terms) ≡ types

abbrev pub AreSigmasOf : Contents → List SimpleType → List Sigma → Type 0
AreSigmasOf c types [] = Unit {0}
AreSigmasOf c types (s ∷ ss) = IsSigmaOf c types s × AreSigmasOf c types ss
