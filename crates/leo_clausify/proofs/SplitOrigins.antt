-- The base types and the symbols of leaves and of new choice symbols are those of the clause and of earlier items.
use Rattle.std.proofs.Common.{ℕ, zero, suc, ◌≡◌, ◌∙◌, ◌-◌, ◌<◌, ◌≤◌, true, false, List, [], ◌∷◌, ◌++◌, length, map, slice_get, Some, refl, sym, subst, arith, ◌⊎◌, inl, inr}
use Rattle.std.proofs.lemmas.List.{length-append}
use Rattle.leo_q0.specs.Terms.{SimpleType}
use Rattle.leo_terms.specs.Tree.{Tree}
use Rattle.leo_terms.proofs.ListLemmas.{slice_get-append}
use Rattle.leo_clause.specs.Choices.{Choice, symbol_of}
use Rattle.leo_clause.specs.Trees.{Literal, ClauseTree}
use Rattle.leo_clause.specs.declared.record.LogicKind.{LogicKind}
use Rattle.leo_kernel.specs.Choosing.{Claim, Claims, all_f, some_t, claimed, applied_to}
use Rattle.leo_clausify.specs.Branches.{Precedes}
use Rattle.leo_clausify.specs.Choosing.{Chooses, earliest, added, closed_form, chosen_arguments}
use Rattle.leo_clausify.specs.Forms.{Form}
use Rattle.leo_clausify.specs.Laws.{SplitChoicesAreFrom, SplitLeavesAreFrom}
use Rattle.leo_clausify.specs.Origins.{Origin, AreTypesFrom, IsTermFrom, AreLiteralsFrom, IsClauseFrom, AreClausesFrom, IsChoiceFrom, AreChoicesFrom}
use Rattle.leo_clausify.specs.Splitting.{Becomes, turns, omits, takes_apart, chooses, Splits, leaf, one, two, normal_literal, turned}
use Rattle.leo_clausify.proofs.Origins.{literal-at, placed-from, turned-from, row-from, normals-from, closed-from, said-from, arranged-from}

-- a list of items that begins with another one
record Begins (first later : List Choice) : Type 0 where
  many : length first ≤ length later
  kept : Precedes first later

begins-same : (ks : List Choice) → Begins ks ks
begins-same ks = record { many = omega arith; kept = λ n k e. e }

begins-trans : (a b c : List Choice) → Begins a b → Begins b c → Begins a c
begins-trans a b c g h = record { many = (let m = g.many in let n = h.many in omega arith); kept = λ n k e. h.kept n k (g.kept n k e) }

begins-more : (ks : List Choice) (k : Choice) → Begins ks (ks ++ k ∷ [])
begins-more ks k = record { many = (let m = length-append ks (k ∷ []) in omega arith); kept = λ n j e. slice_get-append ks (k ∷ []) n j e }

get-within : (ks : List Choice) (n : ℕ) (k : Choice) → slice_get ks n ≡ Some k → n < length ks
get-within [] n k e = absurd (cc)
get-within (j ∷ ks) zero k e = omega arith
get-within (j ∷ ks) (suc n) k e = let h = get-within ks n k e in omega arith

get-some : (ks : List Choice) (n : ℕ) → n < length ks → (k : Choice) × (slice_get ks n ≡ Some k)
get-some [] n l = absurd (omega arith)
get-some (k ∷ ks) zero l = (k, refl)
get-some (k ∷ ks) (suc n) l = get-some ks n (omega arith)

-- an item of the whole list that stands in its beginning
begun : (a b : List Choice) → Begins a b → (n : ℕ) (k : Choice) → n < length a → slice_get b n ≡ Some k → slice_get a n ≡ Some k
begun a b g n k l e =
    let s = get-some a n l in
    let t : Some s.0 ≡ Some k = sym (g.kept n s.0 s.1) ∙ e in
    s.1 ∙ t

get-end : (ks : List Choice) (k j : Choice) (n : ℕ) → length ks ≤ n → slice_get (ks ++ k ∷ []) n ≡ Some j → k ≡ j
get-end [] k j zero l e = cc
get-end [] k j (suc n) l e = absurd (cc)
get-end (i ∷ ks) k j zero l e = absurd (omega arith)
get-end (i ∷ ks) k j (suc n) l e = get-end ks k j n (omega arith) e

at-end : (ks : List Choice) (k : Choice) → slice_get (ks ++ k ∷ []) (length ks) ≡ Some k
at-end [] k = refl
at-end (j ∷ ks) k = at-end ks k

-- each item behind the first ones stands for a term whose parts are those of the clause and of earlier items
abbrev NewFrom : List Choice → List Choice → ClauseTree → Type 0
NewFrom first later c = (n : ℕ) (k : Choice) → length first ≤ n → slice_get later n ≡ Some k → (o : Origin) → o.has_base 0 ≡ true → IsClauseFrom o c → ((m : ℕ) (j : Choice) → m < n → slice_get later m ≡ Some j → IsChoiceFrom o j) → IsTermFrom o k.term

-- none is new
new-none : (ks : List Choice) (c : ClauseTree) → NewFrom ks ks c
new-none ks c n k l e o z h earlier = absurd (let g = get-within ks n k e in let f : ⊥ = omega arith in f)

case_of : (k n : ℕ) → (k < n) ⊎ (n ≤ k)
case_of k n = grind arith

-- one part of the list after the other
new-then : (a b d : List Choice) (c : ClauseTree) → Begins b d → NewFrom a b c → NewFrom b d c → NewFrom a d c
new-then a b d c g first second n k l e o z h earlier =
    elim (case_of n (length b)) [
      | inl w ↦ first n k l (begun b d g n k w e) o z h (λ m j x y. earlier m j x (g.kept m j y))
      | inr w ↦ second n k w e o z h earlier
    ]

-- what comes of a clause that became another one
new-shifted : (a b : List Choice) (c d : ClauseTree) → Begins a b → ((o : Origin) → o.has_base 0 ≡ true → IsClauseFrom o c → AreChoicesFrom o a → IsClauseFrom o d) → NewFrom a b d → NewFrom a b c
new-shifted a b c d g becomes new n k l e o z h earlier =
    new n k l e o z (becomes o z h (λ m j x. (let w = get-within a m j x in earlier m j (omega arith) (g.kept m j x)))) earlier

-- claims
module _ (o : Origin) (z : o.has_base 0 ≡ true) (variables : List SimpleType) (types : AreTypesFrom o variables) where
  claims-closed : (kind : LogicKind) (l : Literal) (claim : Claim) → Claims kind l claim → IsTermFrom o l.left → IsTermFrom o (closed_form variables claim)
  claims-closed kind l claim (all_f c p) h = closed-from o z variables c p false types h.0 h.1
  claims-closed kind l claim (some_t c p) h = closed-from o z variables c p true types h.0 h.1

  claims-said : (kind : LogicKind) (l : Literal) (claim : Claim) (k : Choice) → Claims kind l claim → IsTermFrom o l.left → IsChoiceFrom o k → AreLiteralsFrom o (claimed claim (applied_to (symbol_of k) (chosen_arguments variables claim)) ∷ [])
  claims-said kind l claim k (all_f c p) h g = said-from o z variables c p false k types h.1 g
  claims-said kind l claim k (some_t c p) h g = said-from o z variables c p true k types h.1 g

-- the item of a chosen term
chooses-begins : (known : ℕ) (choices later : List Choice) (t : Tree) (n : ℕ) (k : Choice) → Chooses known choices t later n k → Begins choices later
chooses-begins known choices later t n k (earliest m j e f g) = begins-same choices
chooses-begins known choices later t n k (added j e f g h) = begins-more choices j

chooses-at : (known : ℕ) (choices later : List Choice) (t : Tree) (n : ℕ) (k : Choice) → Chooses known choices t later n k → slice_get later n ≡ Some k
chooses-at known choices later t n k (earliest m j e f g) = e
chooses-at known choices later t n k (added j e f g h) = at-end choices j

chooses-new : (known : ℕ) (choices later : List Choice) (t : Tree) (n : ℕ) (k : Choice) → Chooses known choices t later n k → (m : ℕ) (j : Choice) → length choices ≤ m → slice_get later m ≡ Some j → j.term ≡ t
chooses-new known choices later t n k (earliest p i e f g) m j l x = absurd (let w = get-within choices m j x in let u : ⊥ = omega arith in u)
chooses-new known choices later t n k (added i e f g h) m j l x = subst (λ (y : Choice). y.term ≡ t) (get-end choices i j m l x) e

-- a clause with a literal in another form
becomes-begins : (known : ℕ) (choices later : List Choice) (c d : ClauseTree) (i : ℕ) (l : Literal) (f : Form) → Becomes known choices c i l f later d → Begins choices later
becomes-begins known choices later c d i l f turns = begins-same choices
becomes-begins known choices later c d i l f omits = begins-same choices
becomes-begins known choices later c d i l f (takes_apart kind fresh new t) = begins-same choices
becomes-begins known choices later c d i l f (chooses kind claim then n k p q) = chooses-begins known choices later _ n k q

becomes-new : (known : ℕ) (choices later : List Choice) (c d : ClauseTree) (i : ℕ) (l : Literal) (f : Form) → slice_get c.literals i ≡ Some l → Becomes known choices c i l f later d → NewFrom choices later c
becomes-new known choices later c d i l f stands turns = new-none choices c
becomes-new known choices later c d i l f stands omits = new-none choices c
becomes-new known choices later c d i l f stands (takes_apart kind fresh new t) = new-none choices c
becomes-new known choices later c d i l f stands (chooses kind claim then n k p q) = λ m j w x o z h earlier.
    subst (IsTermFrom o) (sym (chooses-new known choices later (closed_form c.variables claim) n k q m j w x)) (claims-closed o z c.variables h.0 kind l claim p (literal-at o z c.literals i l h.1 stands).0)

becomes-from : (known : ℕ) (choices later : List Choice) (c d : ClauseTree) (i : ℕ) (l : Literal) (f : Form) → slice_get c.literals i ≡ Some l → Becomes known choices c i l f later d → (o : Origin) → o.has_base 0 ≡ true → IsClauseFrom o c → AreChoicesFrom o later → IsClauseFrom o d
becomes-from known choices later c d i l f stands turns o z h g = placed-from o z c i [] (turned l ∷ []) h tt (turned-from o z l (literal-at o z c.literals i l h.1 stands))
becomes-from known choices later c d i l f stands omits o z h g = placed-from o z c i [] [] h tt tt
becomes-from known choices later c d i l f stands (takes_apart kind fresh new t) o z h g =
    let r = row-from o z (length c.variables) kind l fresh new t (literal-at o z c.literals i l h.1 stands) in
    placed-from o z c i fresh (map normal_literal new) h r.0 (normals-from o z new r.1)
becomes-from known choices later c d i l f stands (chooses kind claim then n k p q) o z h g =
    let said = claimed claim (applied_to (symbol_of k) (chosen_arguments c.variables claim)) in
    let s : AreLiteralsFrom o (said ∷ []) = claims-said o z c.variables h.0 kind l claim k p (literal-at o z c.literals i l h.1 stands).0 (g n k (chooses-at known choices later (closed_form c.variables claim) n k q)) in
    placed-from o z c i [] (normal_literal said ∷ []) h tt (normals-from o z (said ∷ []) s)

-- a split
splits-begins : (known room : ℕ) (choices later : List Choice) (c : ClauseTree) (leaves : List ClauseTree) → Splits known room choices c later leaves → Begins choices later
splits-begins known room choices later c leaves (leaf r ks d h) = begins-same choices
splits-begins known room choices later c leaves (one r a m z k d i l f ls first forms b s) = begins-trans choices m later (becomes-begins known choices m c d i l f b) (splits-begins known room m later d leaves s)
splits-begins known room choices later c leaves (two r a m1 m m2 z k d e i l f g ls more first forms b s b2 s2) =
    begins-trans choices m1 later (becomes-begins known choices m1 c d i l f b)
    (begins-trans m1 m later (splits-begins known room m1 m d ls s)
    (begins-trans m m2 later (becomes-begins known m m2 c e i l g b2) (splits-begins known (room - length ls) m2 later e more s2)))

splits-new : (known room : ℕ) (choices later : List Choice) (c : ClauseTree) (leaves : List ClauseTree) → Splits known room choices c later leaves → NewFrom choices later c
splits-new known room choices later c leaves (leaf r ks d h) = new-none choices c
splits-new known room choices later c leaves (one r a m z k d i l f ls first forms b s) =
    let begins = splits-begins known room m later d leaves s in
    new-then choices m later c begins (becomes-new known choices m c d i l f first.stands b) (new-shifted m later c d begins (becomes-from known choices m c d i l f first.stands b) (splits-new known room m later d leaves s))
splits-new known room choices later c leaves (two r a m1 m m2 z k d e i l f g ls more first forms b s b2 s2) =
    let third = splits-begins known (room - length ls) m2 later e more s2 in
    let second = begins-trans m m2 later (becomes-begins known m m2 c e i l g b2) third in
    let begins = splits-begins known room m1 m d ls s in
    new-then choices m1 later c (begins-trans m1 m later begins second) (becomes-new known choices m1 c d i l f first.stands b)
    (new-then m1 m later c second (new-shifted m1 m c d begins (becomes-from known choices m1 c d i l f first.stands b) (splits-new known room m1 m d ls s))
    (new-then m m2 later c third (becomes-new known m m2 c e i l g first.stands b2) (new-shifted m2 later c e third (becomes-from known m m2 c e i l g first.stands b2) (splits-new known (room - length ls) m2 later e more s2))))

-- the choices of the beginning
choices-begun : (o : Origin) (a b : List Choice) → Begins a b → AreChoicesFrom o b → AreChoicesFrom o a
choices-begun o a b g h n k e = h n k (g.kept n k e)

clauses-append : (o : Origin) (cs ds : List ClauseTree) → AreClausesFrom o cs → AreClausesFrom o ds → AreClausesFrom o (cs ++ ds)
clauses-append o [] ds h g = g
clauses-append o (c ∷ cs) ds h g = (h.0, clauses-append o cs ds h.1 g)

pub leaves-from : SplitLeavesAreFrom
leaves-from known room choices later c leaves (leaf r ks d h) o zero_base from cs = (arranged-from o zero_base c from, tt)
leaves-from known room choices later c leaves (one r a m z k d i l f ls first forms b s) o zero_base from cs =
    leaves-from known room m later d leaves s o zero_base (becomes-from known choices m c d i l f first.stands b o zero_base from (choices-begun o m later (splits-begins known room m later d leaves s) cs)) cs
leaves-from known room choices later c leaves (two r a m1 m m2 z k d e i l f g ls more first forms b s b2 s2) o zero_base from cs =
    let third = splits-begins known (room - length ls) m2 later e more s2 in
    let second = begins-trans m m2 later (becomes-begins known m m2 c e i l g b2) third in
    let middle = choices-begun o m later second cs in
    let start = choices-begun o m1 m (splits-begins known room m1 m d ls s) middle in
    clauses-append o ls more
    (leaves-from known room m1 m d ls s o zero_base (becomes-from known choices m1 c d i l f first.stands b o zero_base from start) middle)
    (leaves-from known (room - length ls) m2 later e more s2 o zero_base (becomes-from known m m2 c e i l g first.stands b2 o zero_base from (choices-begun o m2 later third cs)) cs)

pub choices-from : SplitChoicesAreFrom
choices-from known room before later c leaves s n k l e o z h earlier = splits-new known room before later c leaves s n k l e o z h earlier
