-- Types as they are read.
use Rattle.std.proofs.Common.{ℕ, ◌≡◌, List, ◌∷◌, Ok, Result, refl, ◌∙◌, codes}
use Rattle.leo_q0.specs.Terms.{SimpleType, base, arrow}
use Rattle.leo_terms.specs.Contents.{AddsShared}
use Rattle.leo_tstp.specs.declared.reading.trees.TypeNode.{TypeNode}
use Rattle.leo_tstp.specs.declared.reading.trees.TypeNode.TheVariants as node
use Rattle.leo_tstp.specs.declared.reading.trees.Types.{Types}
use Rattle.leo_tstp.specs.declared.reading.patterns.Pattern.{Pattern}
use Rattle.leo_tstp.specs.declared.reading.source.Reader.{Reader}
use Rattle.leo_tstp.specs.declared.refusal.Stop.{Stop}
use Rattle.leo_tstp.specs.Vocabulary.{Vocabulary}
use Rattle.leo_tstp.specs.Ahead.{ahead_of, first_word, Passes, TakesWord}
use Rattle.leo_tstp.specs.Spelled.{type_then}
use Rattle.leo_tstp.specs.Places.{IsPlace, Fits, IsTypeAhead, IsTypeRead, TakesType, TakesArrow, TakesBase, GoesOn}
use Rattle.leo_tstp.proofs.Placing.{place-kept, fits-kept}

pub goes-itself : (r : Reader) → GoesOn r r
goes-itself r = record { stays = refl; scope_stays = refl; kept = λ i x h. h; shared = λ h. h }

-- where no type is met, a reader goes on by its place alone
pub goes-by : (r s : Reader) → s ≡ record r { at = s.at } → GoesOn r s
goes-by r s e = rw e (record { stays = refl; scope_stays = refl; kept = λ i x h. h; shared = λ h. h })

pub goes-trans : (r s t : Reader) → GoesOn r s → GoesOn s t → GoesOn r t
goes-trans r s t g h = record {
  stays = h.stays ∙ (rw g.stays refl);
  scope_stays = h.scope_stays ∙ g.scope_stays;
  kept = λ i x k. h.kept i x (g.kept i x k);
  shared = λ k. h.shared (g.shared k);
}

pub place-on : (v : Vocabulary) (r s : Reader) (a : SimpleType) (p : ℕ) → GoesOn r s → IsPlace v r.lexicon r.types.nodes.keys a p → IsPlace v s.lexicon s.types.nodes.keys a p
place-on v r s a p g h = rw g.stays (place-kept v r.lexicon r.types.nodes.keys s.types.nodes.keys a p g.kept h)

pub fits-on : (v : Vocabulary) (r s : Reader) (f : Pattern) (a : SimpleType) → GoesOn r s → Fits v r.lexicon r.types.nodes.keys f a → Fits v s.lexicon s.types.nodes.keys f a
fits-on v r s f a g h = rw g.stays (fits-kept v r.lexicon r.types.nodes.keys s.types.nodes.keys f a g.kept h)

-- what is known before the second part of a type of functions
pub record Second (v : Vocabulary) (old r : Reader) (g : Pattern) (a b : SimpleType) (p : ℕ) (rest : List (List ℕ)) : Type 0 where
  pub ahead : IsTypeAhead v r b (codes ")" ∷ rest)
  pub fits : Fits v r.lexicon r.types.nodes.keys g b
  pub first : IsPlace v r.lexicon r.types.nodes.keys a p
  pub goes : GoesOn old r

pub second-part : (v : Vocabulary) (r₀ r₁ r₂ r₃ : Reader) (f g : Pattern) (a b : SimpleType) (p : ℕ) (rest : List (List ℕ))
    → IsTypeAhead v r₀ (arrow a b) rest
    → Fits v r₀.lexicon r₀.types.nodes.keys f a × Fits v r₀.lexicon r₀.types.nodes.keys g b
    → r₁ ≡ record r₀ { at = r₁.at } → Passes r₀ r₁
    → TakesType r₁ f (Ok p) r₂ → GoesOn r₁ r₂
    → TakesWord r₂ (codes ">") (Ok tt) r₃ → r₃ ≡ record r₂ { at = r₃.at }
    → Second v r₀ r₃ g a b p rest
second-part v r₀ r₁ r₂ r₃ f g a b p rest h k e pass takes goes word e' =
    let g₁ = goes-by r₀ r₁ e in
    let g₃ = goes-by r₂ r₃ e' in
    let w₁ = pass _ _ h.words in
    let h₁ : IsTypeAhead v r₁ a (codes ">" ∷ type_then v b (codes ")" ∷ rest)) = record { words = w₁; shared = g₁.shared h.shared; known = rw e h.known.0 } in
    let t = takes v a _ h₁ (fits-on v r₀ r₁ f a g₁ k.0) in
    let w₃ = word _ t.words in
    let all = goes-trans r₀ r₂ r₃ (goes-trans r₀ r₁ r₂ g₁ goes) g₃ in
    record {
      ahead = record { words = w₃; shared = all.shared h.shared; known = rw all.stays h.known.1 };
      fits = fits-on v r₀ r₃ g b all k.1;
      first = place-on v r₂ r₃ a p g₃ t.place;
      goes = all;
    }

pub goes-added : (r : Reader) (ts : Types) (n : TypeNode) (p : ℕ) → AddsShared r.types.nodes.keys ts.nodes.keys n p → GoesOn r (record r { types = ts })
goes-added r ts n p h = record { stays = refl; scope_stays = refl; kept = h.kept; shared = λ k. h.shared }

pub arrow-read : (v : Vocabulary) (r₀ r₃ r₄ r₅ : Reader) (ts : Types) (g : Pattern) (a b : SimpleType) (p q t : ℕ) (rest : List (List ℕ))
    → Second v r₀ r₃ g a b p rest
    → TakesType r₃ g (Ok q) r₄ → GoesOn r₃ r₄
    → TakesWord r₄ (codes ")") (Ok tt) r₅ → r₅ ≡ record r₄ { at = r₅.at }
    → AddsShared r₅.types.nodes.keys ts.nodes.keys (node.Arrow p q) t
    → IsTypeRead v (record r₅ { types = ts }) (arrow a b) rest t
arrow-read v r₀ r₃ r₄ r₅ ts g a b p q t rest s takes goes word e h =
    let g₅ = goes-by r₄ r₅ e in
    let last = goes-added r₅ ts (node.Arrow p q) t h in
    let read = takes v b _ s.ahead s.fits in
    record {
      place = (p, q, h.stored, place-on v r₃ (record r₅ { types = ts }) a p (goes-trans r₃ r₅ (record r₅ { types = ts }) (goes-trans r₃ r₄ r₅ goes g₅) last) s.first, place-on v r₄ (record r₅ { types = ts }) b q (goes-trans r₄ r₅ (record r₅ { types = ts }) g₅ last) read.place);
      words = word rest read.words;
    }

pub arrow-goes : (r₀ r₁ r₂ r₃ r₄ r₅ : Reader) (ts : Types) (n : TypeNode) (t : ℕ)
    → r₁ ≡ record r₀ { at = r₁.at } → GoesOn r₁ r₂ → r₃ ≡ record r₂ { at = r₃.at } → GoesOn r₃ r₄ → r₅ ≡ record r₄ { at = r₅.at }
    → AddsShared r₅.types.nodes.keys ts.nodes.keys n t → GoesOn r₀ (record r₅ { types = ts })
arrow-goes r₀ r₁ r₂ r₃ r₄ r₅ ts n t e₁ g₂ e₃ g₄ e₅ h =
    goes-trans r₀ r₁ _ (goes-by r₀ r₁ e₁) (goes-trans r₁ r₂ _ g₂ (goes-trans r₂ r₃ _ (goes-by r₂ r₃ e₃) (goes-trans r₃ r₄ _ g₄ (goes-trans r₄ r₅ _ (goes-by r₄ r₅ e₅) (goes-added r₅ ts n t h)))))

pub open-type : (r s : Reader) (f : Pattern) (result : Result ℕ Stop) → TakesArrow r f result s → first_word (ahead_of r) ≡ codes "(" → TakesType r f result s
open-type r s f result takes e v (base b) rest h k = absurd (h.known.word (rw h.words at e))
open-type r s f result takes e v (arrow a b) rest h k = takes v a b rest h k

pub closed-type : (r s : Reader) (f : Pattern) (result : Result ℕ Stop) → TakesBase r f result s → (first_word (ahead_of r) ≡ codes "(" → ⊥) → TakesType r f result s
closed-type r s f result takes e v (base b) rest h k = takes v b rest h k
closed-type r s f result takes e v (arrow a b) rest h k = absurd (e (rw h.words refl))
