-- What the calls that look for members say to one another. No public contract speaks of it.
use Rattle.std.specs.Prelude.{◌<◌, length}
use Rattle.leo_terms.specs.Contents.{Contents, tree_at}
use Rattle.leo_clause.specs.declared.clause.Lit.{Lit}
use Rattle.leo_clause.specs.Trees.{literal_at}
use Rattle.leo_para.specs.declared.due.Found.{Found}
use Rattle.leo_para.specs.Members.{Member}

-- a member of a bank
abbrev pub member_read : Contents → Found → Member
member_read c f = record {
  literal = f.literal;
  equation = literal_at c f.equation;
  side = f.side;
  place = f.place;
  target = literal_at c f.target;
  place_side = f.place_side;
  path = f.path;
  term = tree_at c f.term;
}

-- the sides of a literal are terms of the bank
abbrev pub IsLitOf : Contents → Lit → Type 0
IsLitOf c l = (l.left < length c.terms) × (l.right < length c.terms)
