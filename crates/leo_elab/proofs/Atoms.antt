-- What atoms and variables mean at a place.
use Rattle.std.proofs.Common.{ℕ, ◌+◌, ◌≡◌, ◌<◌, List, length, Option, Some, None, refl, sym, ◌∙◌}
use Rattle.std.specs.Option.{option_map}
use Rattle.leo_q0.specs.Terms.{Variable, variable, constant}
use Rattle.leo_syntax.specs.declared.tree.Tree.{Tree}
use Rattle.leo_syntax.specs.declared.tree.Node.TheOpen.{Node-F}
use Rattle.leo_terms.specs.Tree as terms
use Rattle.leo_terms.specs.Contents.{Contents, Extends, IsTerm, type_at, symbol_type}
use Rattle.leo_terms.proofs.CallerLemmas.{type-kept}
use Rattle.leo_elab.specs.declared.scope.Bound.{Bound}
use Rattle.leo_elab.specs.declared.refusal.ElabRefusal.TheVariants.{Unknown, WrongType, Free}
use Rattle.leo_elab.specs.Problem.{Declared, Scope, named, bound_to}
use Rattle.leo_elab.specs.Table.{Table, KnowsNames}
use Rattle.leo_syntax.specs.declared.tree.TypeTree.{TypeTree}
use Rattle.leo_syntax.specs.declared.tree.TypeNode.TheOpen.{TypeNode-F}
use Rattle.leo_syntax.specs.declared.tree.TypeWord.TheVariants as word
use Rattle.leo_elab.specs.Signs.{top, type_top}
use Rattle.leo_elab.specs.Meaning.{MeansType}
use Rattle.leo_elab.specs.Meaning as meaning
use Rattle.leo_elab.specs.Offences as offence
use Rattle.leo_elab.specs.Offences.{Offends, OffendsInType}
use Rattle.leo_elab.specs.Places.{Around, Elaborates, scope_in, types_in}
use Rattle.leo_elab.proofs.Standing.{stands-made, index-made}
use Rattle.leo_elab.proofs.Places.{type-named, constant-named, constant_at, constant-within, symbol-type-within, bound-at, types-length}

-- what an atom stands for, by the table of the declared atoms
pub known-constant : {c : Contents} {n : Table} {d : Declared} (name : List ℕ) {o : Option ℕ} → KnowsNames c n d → named name n.constants ≡ o → named name d.constants ≡ option_map (constant_at c) o
known-constant {c} {n} {d} name {o} k e = rw (k.declared_is, ← e) (constant-named c n name)

pub known-type : {c : Contents} {n : Table} {d : Declared} (name : List ℕ) {o : Option ℕ} → KnowsNames c n d → named name n.types ≡ o → named name d.types ≡ option_map (type_at c) o
known-type {c} {n} {d} name {o} k e = rw (k.declared_is, ← e) (type-named c n name)

-- the words of types
pub word-type : {b : Contents} {n : Table} {d : Declared} {ty : TypeTree} {name : List ℕ} {i : ℕ} → KnowsNames b n d → type_top ty ≡ TypeNode-F.Base (word.Atom name) → named name n.types ≡ Some i
    → MeansType d ty (type_at b i)
word-type k h e = meaning.declared_type h (known-type _ k e)

pub word-constant : {b : Contents} {n : Table} {d : Declared} {ty : TypeTree} {name : List ℕ} {i : ℕ} → KnowsNames b n d → type_top ty ≡ TypeNode-F.Base (word.Atom name) → named name n.types ≡ None → named name n.constants ≡ Some i
    → OffendsInType d ty (WrongType ty.byte)
word-constant k h e f = offence.constant_as_type h (known-type _ k e) (known-constant _ k f)

pub word-unknown : {b : Contents} {n : Table} {d : Declared} {ty : TypeTree} {name : List ℕ} → KnowsNames b n d → type_top ty ≡ TypeNode-F.Base (word.Atom name) → named name n.types ≡ None → named name n.constants ≡ None
    → OffendsInType d ty (Unknown ty.byte)
word-unknown k h e f = offence.unknown_type h (known-type _ k e) (known-constant _ k f)

pub atom-made : {b c : Contents} {n : Table} {bs : List Bound} {d : Declared} {s : Scope} {tree : Tree} {name : List ℕ} {symbol t : ℕ} → Extends b c → Around b n bs d s → top tree ≡ Node-F.Atom name
    → named name n.constants ≡ Some symbol → IsTerm c t (symbol_type b symbol) (terms.symbol symbol (type_at b (symbol_type b symbol))) → Elaborates c d s tree t
atom-made {b} {c} {n} {bs} {d} {s} {tree} {name} {symbol} {t} e k h f m =
    let l : symbol < length b.symbols = constant-within b name n.constants symbol k.knows.names.constants f in
    record {
      term = constant symbol (type_at b (symbol_type b symbol));
      type = type_at b (symbol_type b symbol);
      means = meaning.atom h (known-constant _ k.knows f);
      stands = stands-made m refl (type-kept e (symbol_type b symbol) (symbol-type-within e symbol l)) tt;
    }

pub atom-type : {b : Contents} {n : Table} {bs : List Bound} {d : Declared} {s : Scope} {tree : Tree} {name : List ℕ} {i : ℕ} → Around b n bs d s → top tree ≡ Node-F.Atom name
    → named name n.constants ≡ None → named name n.types ≡ Some i → Offends d s tree (WrongType tree.byte)
atom-type k h e f = offence.type_as_term h (known-constant _ k.knows e) (known-type _ k.knows f)

pub atom-unknown : {b : Contents} {n : Table} {bs : List Bound} {d : Declared} {s : Scope} {tree : Tree} {name : List ℕ} → Around b n bs d s → top tree ≡ Node-F.Atom name
    → named name n.constants ≡ None → named name n.types ≡ None → Offends d s tree (Unknown tree.byte)
atom-unknown k h e f = offence.unknown_atom h (known-constant _ k.knows e) (known-type _ k.knows f)

pub variable-free : {b : Contents} {n : Table} {bs : List Bound} {d : Declared} {s : Scope} {tree : Tree} {name : List ℕ} → Around b n bs d s → top tree ≡ Node-F.Var name
    → bound_to name (scope_in b bs) ≡ None → Offends d s tree (Free tree.byte)
variable-free k h e = offence.free_variable h (rw k.scope_is e)

pub variable-made : {b c : Contents} {n : Table} {bs : List Bound} {d : Declared} {s : Scope} {tree : Tree} {name : List ℕ} {number inside ty t : ℕ} → Extends b c → Around b n bs d s → top tree ≡ Node-F.Var name
    → bound_to name (scope_in b bs) ≡ Some (record { number = number; type = type_at b ty }) → inside + (number + 1) ≡ length (scope_in b bs) → ty < length b.types
    → IsTerm c t ty (terms.bound inside (type_at b ty)) → Elaborates c d s tree t
variable-made {b} {c} {n} {bs} {d} {s} {tree} {name} {number} {inside} {ty} {t} e k h f i l m =
    let v : Variable = record { number = number; type = type_at b ty } in
    let g : bound_to name s ≡ Some v = rw k.scope_is f in
    let j : inside + (number + 1) ≡ length s = rw k.scope_is i in
    record {
      term = variable v;
      type = type_at b ty;
      means = meaning.bound_variable h g;
      stands = index-made e l m (types_in s) number (type_at b ty) refl (bound-at name s v inside g j) (j ∙ sym (types-length s));
    }
