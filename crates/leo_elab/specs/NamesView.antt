-- What the fields of the declared atoms contain.
use Rattle.std.specs.Prelude.{map}
use Rattle.leo_elab.specs.declared.names.Names.TheInside.{Inside}
use Rattle.leo_elab.specs.Table.{Table}

abbrev pub table_of : Inside → Table
table_of n = record { types = map (λ p. (p.0.items, p.1)) n.types.entries; constants = map (λ p. (p.0.items, p.1)) n.constants.entries }
