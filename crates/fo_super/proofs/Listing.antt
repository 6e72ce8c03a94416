-- Lists of terms.
use Rattle.std.proofs.Common.{ℕ, zero, suc, nat_eq, true, ◌≡◌, ◌∙◌, ◌+◌, ◌<◌, List, [], ◌∷◌, ◌++◌, length, take, slice_index_or, sym, ap, arith}
use Rattle.std.proofs.lemmas.List.{take_more}
use Rattle.std.specs.Bool.{if◌then◌else◌}
use Rattle.fo_terms.specs.declared.term.FoNode.{FoNode}
use Rattle.fo_terms.specs.declared.term.FoNode.TheVariants.{Var}
use Rattle.fo_terms.specs.Terms.{Term, variable, none, more}
use Rattle.fo_terms.specs.Prefix.{prefix}
use Rattle.fo_terms.specs.Substitutions.{Substitution, apply, apply_to_all, image}
use Rattle.fo_replay.specs.Instances.{as_terms}
use Rattle.fo_replay.proofs.Nodes.{prefix-injective}
use Rattle.fo_super.specs.Conclusions.{images_from}
use Rattle.fo_super.proofs.Answering.{other-number, same-number}

terms-both : (s : Substitution) (xs : List Term) (t : Term) (ys : List Term) (u : Term) → as_terms ys ≡ apply_to_all s (as_terms xs) → u ≡ apply s t → as_terms (ys ++ u ∷ []) ≡ apply_to_all s (as_terms (xs ++ t ∷ []))
terms-both s [] t [] u e f = ap (λ x. more x none) f
terms-both s [] t (y ∷ ys) u e f = absurd (let g : ⊥ = cc in g)
terms-both s (x ∷ xs) t [] u e f = absurd (let g : ⊥ = cc in g)
terms-both s (x ∷ xs) t (y ∷ ys) u e f =
    let h : y ≡ apply s x = cc in
    let k : as_terms ys ≡ apply_to_all s (as_terms xs) = cc in
    ap (λ z. more z (as_terms (ys ++ u ∷ []))) h ∙ ap (more (apply s x)) (terms-both s xs t ys u k f)

-- one term more
pub terms-next : (s : Substitution) (ts : List Term) (i : ℕ) (t : Term) (ys zs : List Term) (u : Term) → i < length ts → t ≡ slice_index_or ts i t → as_terms ys ≡ apply_to_all s (as_terms (take i ts)) → u ≡ apply s t → zs ≡ ys ++ u ∷ [] → as_terms zs ≡ apply_to_all s (as_terms (take (i + 1) ts))
terms-next s ts i t ys zs u l e h f g =
    let a : take (i + 1) ts ≡ take i ts ++ t ∷ [] = take_more ts i t l ∙ ap (λ z. take i ts ++ z ∷ []) (sym e) in
    ap as_terms g ∙ terms-both s (take i ts) t ys u h f ∙ ap (λ z. apply_to_all s (as_terms z)) (sym a)

-- the nodes of a variable
pub variable-built : (t : Term) (v : ℕ) (ns : List FoNode) → prefix t ≡ ns → ns ≡ Var v ∷ [] → t ≡ variable v
variable-built t v ns e f = prefix-injective t (variable v) (e ∙ f)

-- one image more
images-both : (s : Substitution) (v n m : ℕ) (xs : List Term) (t : Term) → as_terms xs ≡ images_from s v n → t ≡ s m → m ≡ v + n → as_terms (xs ++ t ∷ []) ≡ images_from s v (suc n)
images-both s v zero m [] t e f g = let k : m ≡ v = omega arith in ap (λ x. more x none) (f ∙ ap s k)
images-both s v zero m (x ∷ xs) t e f g = absurd (let h : ⊥ = cc in h)
images-both s v (suc n) m [] t e f g = absurd (let h : ⊥ = cc in h)
images-both s v (suc n) m (x ∷ xs) t e f g =
    let h : x ≡ s v = cc in
    let k : as_terms xs ≡ images_from s (suc v) n = cc in
    ap (λ z. more z (as_terms (xs ++ t ∷ []))) h ∙ ap (more (s v)) (images-both s (suc v) n m xs t k f (omega arith))

pub images-next : (s : Substitution) (n : ℕ) (xs ys : List Term) (t : Term) → as_terms xs ≡ images_from s 0 n → t ≡ s n → ys ≡ xs ++ t ∷ [] → as_terms ys ≡ images_from s 0 (n + 1)
images-next s n xs ys t e f g = ap as_terms g ∙ images-both s 0 n n xs t e f (omega arith) ∙ ap (images_from s 0) (let h : suc n ≡ n + 1 = omega arith in h)

-- pairs that are passed over, and one that is found
pub image-passed : (ps rest others : List (ℕ × Term)) (p : ℕ × Term) (v : ℕ) → image ps v ≡ image rest v → rest ≡ p ∷ others → (p.0 ≡ v → ⊥) → image ps v ≡ image others v
image-passed ps rest others p v e f g = e ∙ ap (λ (x : List (ℕ × Term)). image x v) f ∙ ap (λ b. if b then p.1 else image others v) (other-number v p.0 (λ h. g (sym h)))

pub image-found : (ps rest others : List (ℕ × Term)) (p : ℕ × Term) (v : ℕ) (t : Term) → image ps v ≡ image rest v → rest ≡ p ∷ others → p.0 ≡ v → t ≡ p.1 → t ≡ image ps v
image-found ps rest others p v t e f g h =
    let b : nat_eq v p.0 ≡ true = ap (nat_eq v) g ∙ same-number v in
    h ∙ sym (e ∙ ap (λ (x : List (ℕ × Term)). image x v) f ∙ ap (λ c. if c then p.1 else image others v) b)

pub image-none : (ps rest : List (ℕ × Term)) (v : ℕ) (t : Term) → image ps v ≡ image rest v → length rest ≡ 0 → t ≡ variable v → t ≡ image ps v
image-none ps [] v t e l h = h ∙ sym e
image-none ps (r ∷ rest) v t e l h = absurd (let f : ⊥ = omega arith in f)
