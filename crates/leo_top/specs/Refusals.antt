-- How it is said why a problem is not loaded.
use Rattle.std.specs.Prelude.{ℕ, Bool, true, false, List, codes}
use Rattle.leo_syntax.specs.declared.refusal.Form.{Form}
use Rattle.leo_syntax.specs.declared.refusal.Form.TheVariants as form
use Rattle.leo_problem.specs.declared.refusal.What.{What}
use Rattle.leo_problem.specs.declared.refusal.What.TheVariants as what
use Rattle.leo_top.specs.declared.status.Status.{Status}
use Rattle.leo_top.specs.declared.status.Status.TheVariants.{SyntaxError, TypeError, InputError, OSError}

-- the words for a form that the language does not have
abbrev pub form_words : Form → List ℕ
form_words form.Polymorphism = codes "unsupported polymorphism"
form_words form.Number = codes "unsupported number"
form_words form.Distinct = codes "unsupported distinct"
form_words form.Tuple = codes "unsupported tuple"
form_words form.Let = codes "unsupported let"
form_words form.Description = codes "unsupported description"
form_words form.Subtype = codes "unsupported subtype"
form_words form.Product = codes "unsupported product"
form_words form.TypeArguments = codes "unsupported typearguments"
form_words form.Arguments = codes "unsupported arguments"
form_words form.Equality = codes "unsupported equality"
form_words form.Word = codes "unsupported word"
form_words form.System = codes "unsupported system"
form_words form.Mark = codes "unsupported mark"
form_words form.Dialect = codes "unsupported dialect"

-- the words for what is wrong
abbrev pub cause_words : What → List ℕ
cause_words what.Includes = codes "includes"
cause_words what.ReadFault = codes "read fault"
cause_words what.Large = codes "large"
cause_words what.Lexical = codes "lexical"
cause_words what.Deep = codes "deep"
cause_words (what.Unsupported f) = form_words f
cause_words what.Syntax = codes "syntax"
cause_words what.Role = codes "role"
cause_words what.Conjectures = codes "second conjecture"
cause_words what.Twice = codes "declared twice"
cause_words what.Unknown = codes "unknown name"
cause_words what.WrongType = codes "wrong type"
cause_words what.Free = codes "free variable"

-- the status of a problem in which that is wrong
abbrev pub refused_status : What → Status
refused_status what.Includes = InputError
refused_status what.ReadFault = OSError
refused_status what.Large = InputError
refused_status what.Lexical = SyntaxError
refused_status what.Deep = InputError
refused_status (what.Unsupported f) = InputError
refused_status what.Syntax = SyntaxError
refused_status what.Role = InputError
refused_status what.Conjectures = InputError
refused_status what.Twice = TypeError
refused_status what.Unknown = TypeError
refused_status what.WrongType = TypeError
refused_status what.Free = TypeError

-- whether it is the file as a whole that is refused, and not a byte of it
abbrev pub is_of_file : What → Bool
is_of_file what.ReadFault = true
is_of_file _ = false
