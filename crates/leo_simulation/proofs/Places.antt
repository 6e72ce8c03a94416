-- A literal of a clause gives way to others that follow from it.
use Rattle.std.proofs.Common.{◌≡◌, ℕ, zero, suc, List, [], ◌∷◌, ◌++◌, take, drop, slice_get, Some, sym, ap, ◌∙◌, subst}
use Rattle.std.proofs.lemmas.List.{map-append}
use Rattle.leo_q0.specs.Terms.{SimpleType, Term}
use Rattle.leo_q0.specs.Derivations.{Derivable}
use Rattle.leo_sound.specs.Propositions.{disjunction}
use Rattle.leo_sound.proofs.Logic.{imp_of}
use Rattle.leo_clause.specs.Trees.{Literal}
use Rattle.leo_kernel.specs.Conclusions.{with_literals}
use Rattle.leo_simulation.proofs.Disjunctions.{taken_apart}
use Rattle.leo_simulation.proofs.Sayings.{literal_said, literals_said, clause_said, IsFine, AreFine, said_formula, said_formulas}

-- a list around one of its items
pub split_at : {X : Type 0} (xs : List X) (i : ℕ) (x : X) → slice_get xs i ≡ Some x → xs ≡ take i xs ++ x ∷ drop (suc i) xs
split_at [] i x e = cc
split_at (y ∷ ys) zero x e = let k : y ≡ x = some_value e in ap (λ z. z ∷ ys) k
  where
    some_value : {X : Type 0} {x y : X} → Some x ≡ Some y → x ≡ y
    some_value e = cc
split_at (y ∷ ys) (suc i) x e = ap (λ zs. y ∷ zs) (split_at ys i x e)

module _ (variables : List SimpleType) where
  pub fine-append : (ls ks : List Literal) → AreFine variables ls → AreFine variables ks → AreFine variables (ls ++ ks)
  fine-append [] ks h k = k
  fine-append (l ∷ ls) ks h k = (h.0, fine-append ls ks h.1 k)

  pub fine-take : (i : ℕ) (ls : List Literal) → AreFine variables ls → AreFine variables (take i ls)
  fine-take zero ls h = tt
  fine-take (suc i) [] h = tt
  fine-take (suc i) (l ∷ ls) h = (h.0, fine-take i ls h.1)

  pub fine-drop : (i : ℕ) (ls : List Literal) → AreFine variables ls → AreFine variables (drop i ls)
  fine-drop zero ls h = h
  fine-drop (suc i) [] h = tt
  fine-drop (suc i) (l ∷ ls) h = fine-drop i ls h.1

  pub fine-at : (ls : List Literal) (i : ℕ) (l : Literal) → slice_get ls i ≡ Some l → AreFine variables ls → IsFine variables l
  fine-at [] i l e h = cc
  fine-at (k ∷ ks) zero l e h = subst (IsFine variables) (some_value e) h.0
    where
      some_value : {x y : Literal} → Some x ≡ Some y → x ≡ y
      some_value e = cc
  fine-at (k ∷ ks) (suc i) l e h = fine-at ks i l e h.1

  -- the parts of a list that is fine
  pub fine-parts : (ls ks : List Literal) → AreFine variables (ls ++ ks) → AreFine variables ls × AreFine variables ks
  fine-parts [] ks h = (tt, h)
  fine-parts (l ∷ ls) ks h = let p = fine-parts ls ks h.1 in ((h.0, p.0), p.1)

pub said-split : (n : ℕ) (ls : List Literal) (i : ℕ) (l : Literal) → slice_get ls i ≡ Some l →
    literals_said n ls ≡ literals_said n (take i ls) ++ literal_said n l ∷ literals_said n (drop (suc i) ls)
said-split n ls i l e = ap (literals_said n) (split_at ls i l e) ∙ map-append (literal_said n) (take i ls) (l ∷ drop (suc i) ls)

pub said-with : (n : ℕ) (ls : List Literal) (i : ℕ) (new : List Literal) →
    literals_said n (with_literals ls i new) ≡ literals_said n (take i ls) ++ (literals_said n new ++ literals_said n (drop (suc i) ls))
said-with n ls i new =
    map-append (literal_said n) (take i ls) (new ++ drop (suc i) ls) ∙
    ap (λ ts. literals_said n (take i ls) ++ ts) (map-append (literal_said n) new (drop (suc i) ls))

module _ {H : List Term} (variables more : List SimpleType) (n : ℕ) (ls : List Literal) (i : ℕ) (l : Literal) (at : slice_get ls i ≡ Some l) (fine : AreFine variables ls) where
  -- new literals in the place of one that implies them
  pub literal_replaced : (new : List Literal) → AreFine more new → Derivable H (imp_of (literal_said n l) (clause_said n new)) →
      Derivable H (clause_said n ls) → Derivable H (clause_said n (with_literals ls i new))
  literal_replaced new good d e =
      subst (λ ts. Derivable H (disjunction ts)) (sym (said-with n ls i new))
      (taken_apart (literals_said n (take i ls)) (literals_said n (drop (suc i) ls)) (literals_said n new)
      (said_formulas variables n (take i ls) (fine-take variables i ls fine)) (said_formula n (fine-at variables ls i l at fine))
      (said_formulas variables n (drop (suc i) ls) (fine-drop variables (suc i) ls fine)) (said_formulas more n new good) d
      (subst (λ ts. Derivable H (disjunction ts)) (said-split n ls i l at) e))
