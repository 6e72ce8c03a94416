-- Fronts of a list of clauses that grows, in a bank that grows. For callers.
use Rattle.std.proofs.Common.{ℕ, ◌≡◌, ◌∙◌, ◌<◌, List, [], ◌∷◌, ◌++◌, length, Option, Some, None, sym, ap, arith}
use Rattle.leo_terms.specs.Contents.{Contents, Extends, tree_at}
use Rattle.leo_terms.proofs.CallerLemmas.{tree-kept}
use Rattle.leo_clause.specs.declared.clause.Clause.{Clause}
use Rattle.leo_clause.specs.declared.clause.Lit.{Lit}
use Rattle.leo_clause.specs.Trees.{literal_at}
use Rattle.leo_clause.specs.Typed.{AreLiteralsOf, IsTypedIn}
use Rattle.leo_keep.specs.declared.fronts.Front.{Front}
use Rattle.leo_keep.specs.Fronts.{AreFronts, IsFront, second_or_first}
use Rattle.leo_keep.specs.Heads.{HasHeads, applied_head}
use Rattle.leo_keep.specs.Outcomes.{AreTypedIn}

pub fronts-added : (c : Contents) (ks : List Clause) (fs : List (Option Front)) (k : Clause) (f : Option Front) → AreFronts c ks fs → IsFront c k f → AreFronts c (ks ++ k ∷ []) (fs ++ f ∷ [])
fronts-added c [] [] k f h g = (g, tt)
fronts-added c [] (y ∷ fs) k f h g = absurd h
fronts-added c (x ∷ ks) [] k f h g = absurd h
fronts-added c (x ∷ ks) (y ∷ fs) k f h g = (h.0, fronts-added c ks fs k f h.1 g)

first-within : (c : Contents) (l : Lit) (rest lits : List Lit) → AreLiteralsOf c lits → lits ≡ l ∷ rest → (l.left < length c.terms) × (l.right < length c.terms)
first-within c l rest lits h e = (let g : AreLiteralsOf c (l ∷ rest) = rw e at h in (g.0, g.1))

second-within : (c : Contents) (l : Lit) (rest lits : List Lit) → AreLiteralsOf c lits → lits ≡ l ∷ rest → ((second_or_first l rest).left < length c.terms) × ((second_or_first l rest).right < length c.terms)
second-within c l [] lits h e = first-within c l [] lits h e
second-within c l (m ∷ ms) lits h e = (let g : AreLiteralsOf c (l ∷ m ∷ ms) = rw e at h in (g.2.0, g.2.1))

-- a bank that grew
module _ {c d : Contents} (e : Extends c d) where
  side-grows : (h t : ℕ) → h < length c.terms → t < length c.terms → tree_at c h ≡ applied_head (tree_at c t) → tree_at d h ≡ applied_head (tree_at d t)
  side-grows h t k l is = tree-kept e h k ∙ is ∙ ap applied_head (sym (tree-kept e t l))

  heads-grow : (l h : Lit) → l.left < length c.terms → l.right < length c.terms → HasHeads c (literal_at c l) h → HasHeads d (literal_at d l) h
  heads-grow l h i j g = record {
    sign = g.sign;
    left_within = (let m = e.terms_more in let k = g.left_within in omega arith);
    right_within = (let m = e.terms_more in let k = g.right_within in omega arith);
    left = side-grows h.left l.left g.left_within i g.left;
    right = side-grows h.right l.right g.right_within j g.right;
  }

  front-grows : (k : Clause) (f : Option Front) → IsTypedIn c k → IsFront c k f → IsFront d k f
  front-grows k None t h = h
  front-grows k (Some f) t h =
      let w = first-within c f.first h.rest k.lits t.of_bank.literals_of h.begins in
      let v = second-within c f.first h.rest k.lits t.of_bank.literals_of h.begins in
      record { rest = h.rest; begins = h.begins; heads = heads-grow f.first f.heads w.0 w.1 h.heads; second = heads-grow (second_or_first f.first h.rest) f.second v.0 v.1 h.second; few = h.few }

  pub fronts-grow : (ks : List Clause) (fs : List (Option Front)) → AreTypedIn c ks → AreFronts c ks fs → AreFronts d ks fs
  fronts-grow [] [] t h = tt
  fronts-grow [] (f ∷ fs) t h = absurd h
  fronts-grow (k ∷ ks) [] t h = absurd h
  fronts-grow (k ∷ ks) (f ∷ fs) t h = (front-grows k f t.0 h.0, fronts-grow ks fs t.1 h.1)
