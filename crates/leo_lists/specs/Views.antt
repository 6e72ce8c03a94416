-- The table of the program's rings.
use Rattle.leo_lists.specs.declared.rings.Rings.{Rings}
use Rattle.leo_lists.specs.Rings.{Table}

abbrev pub table_of : Rings → Table
table_of r = record { heads = r.heads.items; slots = r.slots.items }
