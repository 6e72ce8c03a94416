-- Literals of a bank that read as given ones. No public contract speaks of it.
use Rattle.std.specs.Prelude.{◌≡◌, ◌<◌, List, length, map}
use Rattle.leo_terms.specs.Contents.{Contents}
use Rattle.leo_clause.specs.declared.clause.Lit.{Lit}
use Rattle.leo_clause.specs.Trees.{Literal, literal_at}
use Rattle.leo_clause.specs.Typed.{AreLiteralsOf}

pub record IsLiteral (c : Contents) (l : Lit) (k : Literal) : Type 0 where
  pub left_within : l.left < length c.terms
  pub right_within : l.right < length c.terms
  pub reads : literal_at c l ≡ k

pub record AreLiterals (c : Contents) (ls : List Lit) (ks : List Literal) : Type 0 where
  pub literals_of : AreLiteralsOf c ls
  pub reads : map (literal_at c) ls ≡ ks
