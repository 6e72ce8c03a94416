-- What a symbol's fields contain.
use Rattle.std.specs.Option.{option_map}
use Rattle.leo_terms.specs.declared.bank.Symbol as declared
use Rattle.leo_terms.specs.Contents.{Symbol}

abbrev pub symbol_of : declared.Symbol → Symbol
symbol_of s = record { name = option_map (λ v. v.items) s.name; ty = s.ty }
