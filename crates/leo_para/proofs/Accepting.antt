-- The step of each member that is due is accepted.
use Rattle.std.proofs.Common.{◌≡◌, Option, Some, refl, sym, subst, arith}
use Rattle.std.specs.Prelude.{IsSomeAnd}
use Rattle.std.proofs.lemmas.Option.{slice_get_within}
use Rattle.leo_kernel.specs.Shapes.{side_of}
use Rattle.leo_para.specs.Members.{due_members}
use Rattle.leo_para.specs.Laws.{DueMembersAreAccepted}
use Rattle.leo_para.proofs.Finding.{in-get, is-due}
use Rattle.leo_para.proofs.Leading.{places-lead}
use Rattle.leo_para.proofs.Keeping.{paramodulant-typed}

some-and : {X : Type 0} (P : X → Type 0) (o : Option X) (x : X) → o ≡ Some x → P x → IsSomeAnd o P
some-and P o x e h = subst (λ q. IsSomeAnd q P) (sym e) h

pub accepted : DueMembersAreAccepted
accepted source target p q n m e =
    let d = is-due source.clause target.clause m (in-get (due_members source.clause target.clause) n m e) in
    let lead = places-lead (side_of m.place_side m.target) m.path m.term d.place_in in
    let first = slice_get_within source.clause.literals m.literal m.equation d.equation_at in
    let second = slice_get_within target.clause.literals m.place m.target d.target_at in
    record {
      parents = (omega arith, omega arith);
      literals = (first, second);
      place = some-and _ _ m.target d.target_at (some-and _ _ m.term lead tt);
      types = record {
        clause_typed = paramodulant-typed source.clause target.clause m.literal m.equation m.side m.place m.target m.place_side m.path m.term p q d.equation_at d.target_at lead d.types;
        rule_typed = some-and _ _ m.equation d.equation_at (some-and _ _ m.target d.target_at (some-and _ _ m.term lead d.types));
      };
      symbols = tt;
      shape = some-and _ _ m.equation d.equation_at (some-and _ _ m.target d.target_at (some-and _ _ m.term lead (d.positive, refl)));
    }
