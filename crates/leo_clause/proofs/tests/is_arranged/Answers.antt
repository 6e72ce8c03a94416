use Rattle.std.proofs.Common.{◌≡◌, ◌∙◌, ◌<◌, length, refl, sym, ap, arith}
use Rattle.leo_terms.specs.Tree.{variable}
use Rattle.leo_terms.specs.Contents.{tree_at, type_at}
use Rattle.leo_terms.proofs.CallerLemmas.{tree-kept, type-kept}
use Rattle.leo_clause.proofs.tests.is_arranged.Goals as goal

pub arranged-requires : goal.arranged-requires
arranged-requires c =
    let a = c.args.bank.now in
    let b = c.make_var.new.self in
    let d = c.make_var-2.new.self in
    let e = c.make_var.ensures.grows in
    let f = c.make_var-2.ensures.grows in
    let l = e.base_types in
    let m = f.base_types in
    let n = e.types_more in
    let o = f.types_more in
    let p = f.terms_more in
    let x = c.in_ok-x.ensures.made in
    let y = c.in_ok-y.ensures.made in
    let xl = x.within in
    let yl = y.within in
    let s : type_at b 1 ≡ type_at a 1 = type-kept e 1 (omega arith) in
    let t : type_at d 1 ≡ type_at b 1 = type-kept f 1 (omega arith) in
    let xt : tree_at b c.in_ok-x.x ≡ variable 0 (type_at a 1) = rw c.thing.ensures at x.reads in
    let yt : tree_at d c.in_ok-y.y ≡ variable 1 (type_at b 1) = rw c.thing-2.ensures at y.reads in
    let u : tree_at d c.in_ok-x.x ≡ variable 0 (type_at d 1) = tree-kept f c.in_ok-x.x xl ∙ xt ∙ ap (variable 0) (sym (t ∙ s)) in
    let v : tree_at d c.in_ok-y.y ≡ variable 1 (type_at d 1) = yt ∙ ap (variable 1) (sym t) in
    let xd : c.in_ok-x.x < length d.terms = omega arith in
    let one : 1 < length d.types = omega arith in
    record {
      of_bank = record {
        types_of = rw c.in_ok-clause.ensures.vars (one, (one, tt));
        literals_of = rw c.in_ok-clause.ensures.lits (yl, xd, (xd, yl, tt));
      };
      typed = rw (c.in_ok-clause.ensures.vars, c.in_ok-clause.ensures.lits, u, v) (record { left_over = refl; right_over = refl; same_type = refl }, (record { left_over = refl; right_over = refl; same_type = refl }, tt));
    }
