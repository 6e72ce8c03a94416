-- The types and symbols that were met in a bank. For private contracts.
use Rattle.leo_terms.specs.Contents.{Contents}
use Rattle.leo_clause.specs.Typed.{AreTypesOf}
use Rattle.leo_tstp.specs.Built.{AreSymbolNumbers}
use Rattle.leo_tstp.specs.declared.reading.lexicon.Known.{Known}

-- they stand in the bank
pub record IsKnown (c : Contents) (k : Known) : Type 0 where
  pub bases : AreTypesOf c k.bases.items
  pub symbols : AreSymbolNumbers c k.symbols.items
