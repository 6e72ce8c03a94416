-- What is left of a split, as its first clause is reduced or is a leaf.
use Rattle.std.proofs.Common.{ℕ, suc, ◌≡◌, ◌∙◌, ◌-◌, ◌<◌, ◌≤◌, List, [], ◌∷◌, ◌++◌, length, refl, sym, ap, subst, append_assoc, append-nil, arith}
use Rattle.std.proofs.lemmas.List.{length-append}
use Rattle.leo_clause.specs.Arranging.{arranged}
use Rattle.leo_clause.specs.Choices.{Choice}
use Rattle.leo_clause.specs.Trees.{Literal, ClauseTree}
use Rattle.leo_kernel.specs.Choosing.{Claim, Claims, all_f, some_t}
use Rattle.leo_clause.specs.declared.record.LogicKind.{LogicKind}
use Rattle.leo_clausify.specs.Agendas.{SplitsAll, done, next, OverflowsAll, here, further, Remains}
use Rattle.leo_clausify.specs.Forms.{Form, one_form, two_forms, forms_of}
use Rattle.leo_clausify.specs.Splitting.{Becomes, turns, omits, takes_apart, chooses, AreReduced, IsFirst, Splits, Overflows, leaf, one, two, too_many, of_one, first_of_two, second_of_two}

-- no clause, and some
no-leaves : (known room : ℕ) (choices later : List Choice) (more : List ClauseTree) → SplitsAll known room choices [] later more → (choices ≡ later) × (more ≡ [])
no-leaves known room choices later more (done r c) = (refl, refl)

record Parts (known room : ℕ) (choices : List Choice) (c : ClauseTree) (cs : List ClauseTree) (later : List Choice) (more : List ClauseTree) : Type 0 where
  middle : List Choice
  leaves : List ClauseTree
  rest : List ClauseTree
  first : Splits known room choices c middle leaves
  others : SplitsAll known (room - length leaves) middle cs later rest
  is : more ≡ leaves ++ rest

parts-of : (known room : ℕ) (choices : List Choice) (c : ClauseTree) (cs : List ClauseTree) (later : List Choice) (more : List ClauseTree) → SplitsAll known room choices (c ∷ cs) later more → Parts known room choices c cs later more
parts-of known room choices c cs later more (next r ch middle l d ds leaves rest p q) = record { middle = middle; leaves = leaves; rest = rest; first = p; others = q; is = refl }

-- at first
pub remains-first : (known room : ℕ) (choices : List Choice) (c : ClauseTree) → Remains known room choices c choices (c ∷ []) []
remains-first known room choices c = record {
  few = omega arith;
  splits = λ later more h. first-splits known (room - 0) room choices c later more (omega arith) h;
  overflows = λ h. first-overflows known (room - 0) room choices c (omega arith) h;
}
  where
    first-splits : (known r room : ℕ) (choices : List Choice) (c : ClauseTree) (later : List Choice) (more : List ClauseTree) → r ≡ room → SplitsAll known r choices (c ∷ []) later more → Splits known room choices c later more
    first-splits known r room choices c later more a h =
        let p = parts-of known r choices c [] later more h in
        let q = no-leaves known (r - length p.leaves) p.middle later p.rest p.others in
        let e : more ≡ p.leaves = p.is ∙ ap (λ xs. p.leaves ++ xs) q.1 ∙ append-nil p.leaves in
        subst (λ (xs : List ClauseTree). Splits known room choices c later xs) (sym e)
        (subst (λ (n : ℕ). Splits known n choices c later p.leaves) a
        (subst (λ (m : List Choice). Splits known r choices c m p.leaves) q.0 p.first))

    nothing-overflows : (known room : ℕ) (choices : List Choice) → OverflowsAll known room choices [] → ⊥
    nothing-overflows known room choices h = elim h [ ]

    first-overflows : (known r room : ℕ) (choices : List Choice) (c : ClauseTree) → r ≡ room → OverflowsAll known r choices (c ∷ []) → Overflows known room choices c
    first-overflows known r room choices c e (here a ch d ds h) = rw (← e) h
    first-overflows known r room choices c e (further a ch m d ds ls p h) = absurd (nothing-overflows known (r - length ls) m h)

module _ (known room : ℕ) (before choices : List Choice) (start c : ClauseTree) (cs leaves : List ClauseTree) (h : Remains known room before start choices (c ∷ cs) leaves) where
  -- the first clause is a leaf
  pub remains-leaf : AreReduced c.literals → length leaves < room → Remains known room before start choices cs (leaves ++ arranged c ∷ [])
  remains-leaf reduced few =
      let n = length-append leaves (arranged c ∷ []) in
      let r : ℕ = room - length (leaves ++ arranged c ∷ []) in
      let e : room - length leaves ≡ suc r = omega arith in
      let z : suc r - 1 ≡ r = omega arith in
      record {
        few = omega arith;
        splits = λ later more k.
            let all : SplitsAll known (suc r) choices (c ∷ cs) later (arranged c ∷ [] ++ more) = next (suc r) choices choices later c cs (arranged c ∷ []) more (leaf r choices c reduced) (rw z k) in
            rw (append_assoc leaves (arranged c ∷ []) more) (h.splits later (arranged c ∷ [] ++ more) (rw e all));
        overflows = λ k. h.overflows (rw e (further (suc r) choices choices c cs (arranged c ∷ []) (leaf r choices c reduced) (rw z k)));
      }

  -- the first clause is a leaf too much
  pub remains-full : AreReduced c.literals → room ≤ length leaves → Overflows known room before start
  remains-full reduced full =
      let e : room - length leaves ≡ 0 = omega arith in
      h.overflows (rw e (here 0 choices c cs (too_many choices c reduced)))

  -- its first literal has one form
  pub remains-one : (middle : List Choice) (d : ClauseTree) (i : ℕ) (l : Literal) (f : Form) → IsFirst c i l → forms_of l ≡ one_form f → Becomes known choices c i l f middle d → Remains known room before start middle (d ∷ cs) leaves
  remains-one middle d i l f first form becomes = record {
    few = h.few;
    splits = λ later more k.
        let r = room - length leaves in
        let p = parts-of known r middle d cs later more k in
        let s = one r choices middle p.middle c d i l f p.leaves first form becomes p.first in
        h.splits later more (rw p.is (next r choices p.middle later c cs p.leaves p.rest s p.others));
    overflows = λ k. one-over (room - length leaves) refl k;
  }
    where
      one-over : (r : ℕ) → r ≡ room - length leaves → OverflowsAll known r middle (d ∷ cs) → Overflows known room before start
      one-over r a (here u ch x xs k) = h.overflows (subst (λ (n : ℕ). OverflowsAll known n choices (c ∷ cs)) a (here r choices c cs (of_one r choices middle c d i l f first form becomes k)))
      one-over r a (further u ch m x xs ls p k) = h.overflows (subst (λ (n : ℕ). OverflowsAll known n choices (c ∷ cs)) a (further r choices m c cs ls (one r choices middle m c d i l f ls first form becomes p) k))

  -- it has two
  pub remains-two : (middle last : List Choice) (d e : ClauseTree) (i : ℕ) (l : Literal) (f g : Form) → IsFirst c i l → forms_of l ≡ two_forms f g → Becomes known choices c i l f middle d → ((ch : List Choice) → Becomes known ch c i l g ch e) → Remains known room before start middle (d ∷ e ∷ cs) leaves
  remains-two middle last d e i l f g first form becomes other = record {
    few = h.few;
    splits = λ later more k.
        let r = room - length leaves in
        let p = parts-of known r middle d (e ∷ cs) later more k in
        let q = parts-of known (r - length p.leaves) p.middle e cs later p.rest p.others in
        let s = two r choices middle p.middle p.middle q.middle c d e i l f g p.leaves q.leaves first form becomes p.first (other p.middle) q.first in
        let n = length-append p.leaves q.leaves in
        let z : r - length p.leaves - length q.leaves ≡ r - length (p.leaves ++ q.leaves) = omega arith in
        let is : more ≡ (p.leaves ++ q.leaves) ++ q.rest = p.is ∙ ap (λ xs. p.leaves ++ xs) q.is ∙ sym (append_assoc p.leaves q.leaves q.rest) in
        h.splits later more (rw is (next r choices q.middle later c cs (p.leaves ++ q.leaves) q.rest s (rw z at q.others)));
    overflows = λ k. two-over (room - length leaves) refl k;
  }
    where
      two-second : (r n : ℕ) (m : List Choice) (ls : List ClauseTree) → r ≡ room - length leaves → n ≡ r - length ls → Splits known r middle d m ls → OverflowsAll known n m (e ∷ cs) → Overflows known room before start
      two-second r n m ls a b p (here u ch x xs k) =
          h.overflows (subst (λ (n : ℕ). OverflowsAll known n choices (c ∷ cs)) a (here r choices c cs (second_of_two r choices middle m m c d e i l f g ls first form becomes p (other m) (subst (λ (q : ℕ). Overflows known q m e) b k))))
      two-second r n m ls a b p (further u ch w x xs ks q k) =
          let s = two r choices middle m m w c d e i l f g ls ks first form becomes p (other m) (subst (λ (q : ℕ). Splits known q m e w ks) b q) in
          let t = length-append ls ks in
          let z : n - length ks ≡ r - length (ls ++ ks) = omega arith in
          h.overflows (subst (λ (n : ℕ). OverflowsAll known n choices (c ∷ cs)) a (further r choices w c cs (ls ++ ks) s (subst (λ (q : ℕ). OverflowsAll known q w cs) z k)))

      two-over : (r : ℕ) → r ≡ room - length leaves → OverflowsAll known r middle (d ∷ e ∷ cs) → Overflows known room before start
      two-over r a (here u ch x xs k) = h.overflows (subst (λ (n : ℕ). OverflowsAll known n choices (c ∷ cs)) a (here r choices c cs (first_of_two r choices middle c d i l f g first form becomes k)))
      two-over r a (further u ch m x xs ls p k) = two-second r (r - length ls) m ls a refl p k

-- where there are two forms, no term is chosen, so that the choice symbols do not matter
claims-no_two : (k : LogicKind) (l : Literal) (claim : Claim) (f g : Form) → Claims k l claim → forms_of l ≡ two_forms f g → ⊥
claims-no_two k l claim f g (all_f c p) e = (let h : ⊥ = cc in h)
claims-no_two k l claim f g (some_t c p) e = (let h : ⊥ = cc in h)

pub two-same : (known : ℕ) (choices later : List Choice) (c d : ClauseTree) (i : ℕ) (l : Literal) (x f g : Form) → forms_of l ≡ two_forms f g → Becomes known choices c i l x later d → (later ≡ choices) × ((ch : List Choice) → Becomes known ch c i l x ch d)
two-same known choices later c d i l x f g e turns = (refl, λ ch. turns)
two-same known choices later c d i l x f g e omits = (refl, λ ch. omits)
two-same known choices later c d i l x f g e (takes_apart kind fresh new row) = (refl, λ ch. takes_apart kind fresh new row)
two-same known choices later c d i l x f g e (chooses kind claim more n k row h) = absurd (claims-no_two kind l claim f g row e)
