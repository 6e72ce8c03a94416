use Rattle.std.proofs.Common.{◌∙◌}
use Rattle.std.proofs.lemmas.Result.{err_from_is_err_and}
use Rattle.leo_syntax.specs.Source.{ahead, end_of}
use Rattle.leo_syntax.proofs.Units.{unary_term}
use Rattle.leo_syntax.proofs.formulas.+formula.Goals as goal

pub unary-returns-in_ok-tree-in_default : goal.unary-returns-in_ok-tree-in_default
unary-returns-in_ok-tree-in_default t c = record {
  gives = unary_term c.class.result (end_of c.args.source.now) c.args.left c.in_ok-beyond.beyond (ahead c.args.source.now c.args.at.now) c.in_ok-beyond.ensures c.class.ensures c.in_default.not-Not c.in_default.not-Bind ∙ c.in_ok-tree-in_default.ensures.gives;
  forward = c.in_ok-tree-in_default.ensures.forward;
}

pub unary-returns-in_err-tree-in_default : goal.unary-returns-in_err-tree-in_default
unary-returns-in_err-tree-in_default t c =
    let p = err_from_is_err_and c.from_residual-in_err-tree-in_default.result c.from_residual-in_err-tree-in_default.ensures.1 in
    record {
      gives = rw (p.1, p.2) (λ some. unary_term c.class.result (end_of c.args.source.now) c.args.left c.in_ok-beyond.beyond (ahead c.args.source.now c.args.at.now) c.in_ok-beyond.ensures c.class.ensures c.in_default.not-Not c.in_default.not-Bind ∙ c.in_err-tree-in_default.ensures.gives some);
      forward = c.in_err-tree-in_default.ensures.forward;
    }
