-- What the fields of a bank contain.
use Rattle.std.specs.Prelude.{map}
use Rattle.leo_terms.specs.declared.bank.Bank.TheInside.{Inside}
use Rattle.leo_terms.specs.Contents.{Contents, IsSound}
use Rattle.leo_terms.specs.SymbolView.{symbol_of}
use Rattle.leo_terms.specs.Memo.{AreRight}
use Rattle.leo_terms.specs.KeptFacts.{AreFacts}

abbrev pub contents_of : Inside → Contents
contents_of b = record {
  bases = b.bases;
  types = b.types.keys;
  symbols = map symbol_of b.symbols.items;
  terms = b.terms.keys;
}

pub record IsSoundInside (b : Inside) : Type 0 where
  pub sound : IsSound (contents_of b)
  pub facts : AreFacts (contents_of b) b.facts.items
  pub right : AreRight (contents_of b) b.lifts.entries b.puts.entries b.expansions.entries b.normals.entries
