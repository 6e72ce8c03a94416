-- The order of two terms, from that of their first differing parts.
use Rattle.std.proofs.Common.{◌≡◌, Bool, true, false, List, refl, sym, ◌∙◌, ap, subst}
use Rattle.std.specs.Prelude.{IsTrue, ◌↔◌, if◌then◌else◌}
use Rattle.fo_terms.specs.declared.term.FoNode.{FoNode}
use Rattle.fo_terms.specs.Terms.{Term}
use Rattle.fo_terms.specs.Prefix.{prefix, term_of, IsPrefix}
use Rattle.fo_terms.specs.Reading.{term_of-prefix}
use Rattle.fo_kbo.specs.declared.order.FoOrder.TheVariants.{Less, Greater, Unordered}
use Rattle.fo_kbo.specs.declared.heads.Heads.TheVariants.{First, Second, Apart}
use Rattle.fo_kbo.specs.declared.difference.Difference.{Difference}
use Rattle.fo_kbo.specs.Occurrences.{Covers}
use Rattle.fo_kbo.specs.Order.{IsOrder}
use Rattle.fo_kbo.specs.Heads.{IsHeads}
use Rattle.fo_kbo.specs.Difference.{IsDifference, IsLevel}
use Rattle.fo_kbo.proofs.Levels.{greater_covers}

pub level-start : (s t : Term) → (s ≡ t → ⊥) → IsLevel s t s t true true
level-start s t d = record {
  different = d;
  greater_from = λ g. (refl, g);
  greater_back = λ u g. g;
  less_from = λ g. (refl, g);
  less_back = λ u g. g;
}

-- after a look at the variables
pub level-narrowed : (s t a b : Term) (up down up' down' : Bool) → IsLevel s t a b up down → (IsTrue up' ↔ (IsTrue up × Covers a b)) → (IsTrue down' ↔ (IsTrue down × Covers b a)) → IsLevel s t a b up' down'
level-narrowed s t a b up down up' down' h u d = record {
  different = h.different;
  greater_from = (λ g. let p = h.greater_from g in (u.1 (p.0, greater_covers a b p.1), p.1));
  greater_back = (λ e g. h.greater_back (u.0 e).0 g);
  less_from = (λ g. let p = h.less_from g in (d.1 (p.0, greater_covers b a p.1), p.1));
  less_back = (λ e g. h.less_back (d.0 e).0 g);
}

module _ (s t a b : Term) (up down : Bool) (apart : s ≡ t → ⊥) (h : IsLevel s t a b up down) where
  pub level-first : IsHeads a b First → (IsTrue up → Covers a b) → IsOrder s t (if up then Greater else Unordered)
  level-first k c = go up refl
    where
      go : (v : Bool) → up ≡ v → IsOrder s t (if v then Greater else Unordered)
      go true e = h.greater_back e (k.0 (c e))
      go false e = ((λ g. k.1 (h.less_from g).1), apart, (λ g. let q : up ≡ true = (h.greater_from g).0 in cc))

  pub level-second : IsHeads a b Second → (IsTrue down → Covers b a) → IsOrder s t (if down then Less else Unordered)
  level-second k c = go down refl
    where
      go : (v : Bool) → down ≡ v → IsOrder s t (if v then Less else Unordered)
      go true e = h.less_back e (k.0 (c e))
      go false e = ((λ g. let q : down ≡ true = (h.less_from g).0 in cc), apart, (λ g. k.1 (h.greater_from g).1))

  pub level-apart : IsHeads a b Apart → IsOrder s t Unordered
  level-apart k = ((λ g. k.1 (h.less_from g).1), apart, (λ g. k.0 (h.greater_from g).1))

-- on to the parts that differ
pub level-next : (s t : Term) (ns ms : List FoNode) (d : Difference) (up down : Bool) → IsLevel s t (term_of ns) (term_of ms) up down
    → (IsTrue up → Covers (term_of ns) (term_of ms)) → (IsTrue down → Covers (term_of ms) (term_of ns)) → (q : IsDifference ns ms d) → IsLevel s t q.left q.right up down
level-next s t ns ms d up down h c e q = record {
  different = q.different;
  greater_from = (λ g. let p = h.greater_from g in (p.0, q.greater_from p.1));
  greater_back = (λ u g. h.greater_back u (q.greater_back (c u) g));
  less_from = (λ g. let p = h.less_from g in (p.0, q.less_from p.1));
  less_back = (λ u g. h.less_back u (q.less_back (e u) g));
}

pub IsPrefix-is : (ns : List FoNode) (t : Term) → ns ≡ prefix t → IsPrefix ns
IsPrefix-is ns t e = subst IsPrefix (sym e) (ap prefix (term_of-prefix t))

pub term_of-is : (ns : List FoNode) (t : Term) → ns ≡ prefix t → term_of ns ≡ t
term_of-is ns t e = ap term_of e ∙ term_of-prefix t
