-- Terms and symbols of a bank.
use Rattle.std.specs.Prelude.{◌<◌, length}
use Rattle.leo_terms.specs.Contents.{Contents}
use Rattle.tstp_rows.specs.declared.given.Name.{Name}
use Rattle.tstp_rows.specs.declared.given.Terms.{Terms}

pub record IsNameIn (c : Contents) (n : Name) : Type 0 where
  pub symbol : n.symbol < length c.symbols
  pub term : n.term < length c.terms

pub record AreTermsIn (c : Contents) (t : Terms) : Type 0 where
  pub truth : t.truth < length c.terms
  pub falsity : t.falsity < length c.terms
  pub thing : t.thing < length c.terms
  pub value : t.value < length c.terms
  pub first : IsNameIn c t.first
  pub second : IsNameIn c t.second
