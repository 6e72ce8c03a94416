-- Equal terms, by their nodes and by their trees.
use Rattle.std.proofs.Common.{ℕ, ◌≡◌, ◌∙◌, Bool, true, false, List, refl, sym, ap}
use Rattle.std.specs.Bool.{Decides, if◌then◌else◌}
use Rattle.std.specs.Cmp.Lexicographic.{pointwise}
use Rattle.std.proofs.lemmas.Bool.{and_parts}
use Rattle.fo_terms.specs.declared.term.FoNode.{FoNode}
use Rattle.fo_terms.specs.contracts.term.FoNodePartialEq.TheImpl.{ghosts}
use Rattle.fo_terms.specs.Terms.{Term, Terms, variable, symbol, none, more}
use Rattle.fo_terms.specs.Prefix.{prefix, term_of, IsPrefix}
use Rattle.fo_kbo.proofs.SameNodes.{nodes_same, nodes_refl}
use Rattle.fo_replay.proofs.Nodes.{prefix-injective}
use Rattle.fo_super.specs.Literals.{same_term, same_terms}
use Rattle.fo_super.proofs.Answering.{equal-numbers, same-number}

pub nodes-decide : (xs ys : List FoNode) (r : Bool) → r ≡ pointwise ghosts.eq xs ys → Decides r (xs ≡ ys)
nodes-decide xs ys r e = (λ t. nodes_same xs ys (sym e ∙ t), λ f. e ∙ ap (λ zs. pointwise ghosts.eq zs ys) f ∙ nodes_refl ys)

pub prefix-decides : (t u : Term) (r : Bool) → Decides r (prefix t ≡ prefix u) → Decides r (t ≡ u)
prefix-decides t u r d = (λ e. prefix-injective t u (d.0 e), λ e. d.1 (ap prefix e))

mutual
  pub same-term : (t u : Term) → same_term t u ≡ true → t ≡ u
  same-term (variable v) (variable w) e = ap variable (equal-numbers v w e)
  same-term (variable v) (symbol g us) e = absurd (let f : ⊥ = cc in f)
  same-term (symbol f ts) (variable w) e = absurd (let g : ⊥ = cc in g)
  same-term (symbol f ts) (symbol g us) e =
      let p = and_parts _ _ e in
      ap (λ n. symbol n ts) (equal-numbers f g p.0) ∙ ap (symbol g) (same-terms ts us p.1)

  same-terms : (ts us : Terms) → same_terms ts us ≡ true → ts ≡ us
  same-terms none none e = refl
  same-terms none (more u us) e = absurd (let f : ⊥ = cc in f)
  same-terms (more t ts) none e = absurd (let f : ⊥ = cc in f)
  same-terms (more t ts) (more u us) e =
      let p = and_parts _ _ e in
      ap (λ x. more x ts) (same-term t u p.0) ∙ ap (more u) (same-terms ts us p.1)

mutual
  pub term-itself : (t : Term) → same_term t t ≡ true
  term-itself (variable v) = same-number v
  term-itself (symbol f ts) = rw (same-number f) (terms-themselves ts)

  terms-themselves : (ts : Terms) → same_terms ts ts ≡ true
  terms-themselves none = refl
  terms-themselves (more t ts) = rw (term-itself t) (terms-themselves ts)

pub other-term : (t u : Term) → (t ≡ u → ⊥) → same_term t u ≡ false
other-term t u f = go (same_term t u) refl
  where
    go : (b : Bool) → same_term t u ≡ b → same_term t u ≡ false
    go true e = absurd (f (same-term t u e))
    go false e = e

-- what counts for so much where terms are one
pub counts-same : (t u : Term) (n : ℕ) → t ≡ u → n ≡ (if same_term t u then n else 0)
counts-same t u n e = rw (e, term-itself u) refl

pub counts-other : (t u : Term) (n : ℕ) → (t ≡ u → ⊥) → 0 ≡ (if same_term t u then n else 0)
counts-other t u n f = rw (other-term t u f) refl

-- a term against nodes that read as a term
pub read-decides : (t : Term) (ns : List FoNode) (r : Bool) → IsPrefix ns → Decides r (prefix t ≡ ns) → Decides r (t ≡ term_of ns)
read-decides t ns r p d = (λ e. prefix-injective t (term_of ns) (d.0 e ∙ sym p), λ e. d.1 (ap prefix e ∙ p))
