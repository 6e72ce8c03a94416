-- What the calls that look for heads say to one another. No public contract speaks of it.
use Rattle.std.specs.Prelude.{length}
use Rattle.leo_terms.specs.Contents.{Contents, HasTypeBelow, connective}
use Rattle.leo_ext.specs.declared.heads.Head.{Head}
use Rattle.leo_ext.specs.declared.heads.Head.TheVariants as head_of
use Rattle.leo_para.specs.Spines.{Top, some_variable, one_symbol, one_constant, other_top}

-- a head of a bank
abbrev pub top_at : Contents → Head → Top
top_at c head_of.Variable = some_variable
top_at c (head_of.Symbol s) = one_symbol s
top_at c (head_of.Constant o) = one_constant (connective c o)
top_at c head_of.Other = other_top

abbrev pub IsHeadOf : Contents → Head → Type 0
IsHeadOf c (head_of.Constant o) = HasTypeBelow (length c.types) o
IsHeadOf c head_of.Variable = Unit {0}
IsHeadOf c (head_of.Symbol s) = Unit {0}
IsHeadOf c head_of.Other = Unit {0}
