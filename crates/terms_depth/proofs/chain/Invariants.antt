use Rattle.std.proofs.Common.{◌≡◌, ◌<◌, length}
use Rattle.leo_terms.specs.Contents.{IsArrow, type_number}
use Rattle.terms_depth.proofs.chain.Given as goal

abbrev pub invariant-loop : goal.invariant-loop
invariant-loop l = record {
  function : l.f < length l.bank.terms;
  argument : l.t < length l.bank.terms;
  from_things : IsArrow l.bank (type_number l.bank l.f) 1 1;
  thing : type_number l.bank l.t ≡ 1;
}
