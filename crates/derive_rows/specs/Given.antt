-- Terms of a bank.
use Rattle.std.specs.Prelude.{◌<◌, length}
use Rattle.leo_terms.specs.Contents.{Contents}
use Rattle.derive_rows.specs.declared.given.Terms.{Terms}

pub record AreTermsIn (c : Contents) (t : Terms) : Type 0 where
  pub proposition : t.proposition < length c.terms
  pub negation : t.negation < length c.terms
  pub truth : t.truth < length c.terms
  pub falsity : t.falsity < length c.terms
  pub first : t.first.term < length c.terms
  pub second : t.second.term < length c.terms
