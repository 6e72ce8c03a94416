-- The members by all kinds, and what is so of each.
use Rattle.std.proofs.Common.{ℕ, zero, suc, ◌≡◌, ◌∙◌, ◌≤◌, ◌<◌, ◌-◌, List, [], ◌∷◌, length, map, slice_get, Some, refl, sym, ap, subst, append-nil, arith}
use Rattle.leo_terms.specs.Contents.{Contents, IsBank, Extends, tree_at}
use Rattle.leo_terms.proofs.CallerLemmas.{extends-trans, new_bank, old_bank, term-shared, term-typed, tree-kept}
use Rattle.leo_clause.specs.declared.clause.Clause.{Clause}
use Rattle.leo_clause.specs.declared.clause.Lit.{Lit}
use Rattle.leo_clause.specs.Choices.{Choice, choice_at}
use Rattle.leo_clause.specs.Trees.{ClauseTree, clause_at, literal_at}
use Rattle.leo_clause.specs.Typed.{AreLiteralsOf, IsClauseOf, IsTypedIn}
use Rattle.leo_kernel.specs.Records.{AreStepsOf}
use Rattle.leo_kernel.specs.Steps.{convert, line_at}
use Rattle.leo_kernel.proofs.Growing.{clause-kept}
use Rattle.leo_clausify.specs.Branches.{Precedes}
use Rattle.leo_clausify.specs.Choosing.{AreInOrder}
use Rattle.leo_clausify.proofs.Branching.{get-map}
use Rattle.leo_clausify.proofs.Picks.{items-grow, items-kept}
use Rattle.leo_para.specs.declared.member.Due.{Due}
use Rattle.leo_ext.specs.declared.func_ext.Extended.{Extended}
use Rattle.leo_ext.specs.Functions.{AreExtended, AreExtendedOf, extended_member}
use Rattle.leo_ext.specs.Joining.{AreUnaryIn, EndsTyped, StandFirst, joined}
use Rattle.leo_ext.specs.Laws.{AreWellTyped}
use Rattle.leo_ext.specs.Listing.{Adds, AreDuesOf, AreMembers, member_at}
use Rattle.leo_ext.specs.Members.{Member, resolve_members, factor_members, bool_ext_members, primitive_members, choice_members}
use Rattle.leo_ext.specs.Unary.{FuncExts, AreUnary}
use Rattle.leo_ext.proofs.Accepting.{accepted, functions-precede}
use Rattle.leo_ext.proofs.Adding.{adds-as, adds-both, adds-after}
use Rattle.leo_ext.proofs.FunctionMembers.{extended-kept}
use Rattle.leo_ext.proofs.Pairing.{some-lines}
use Rattle.leo_ext.proofs.Loops.{length-mapped}

-- in banks a, b, d and e: b has the truth values, d the bindings and e the chosen terms
pub joined-put : {a b d e : Contents} → Extends a b → Extends b d → (k : Clause) → IsClauseOf a k → (p : ℕ) (es : List Extended) → AreExtendedOf a es → (s0 s1 s2 s3 s4 s5 s6 : List Due)
    → Adds b b s0 s1 (resolve_members p (clause_at b k)) → Adds b b s1 s2 (factor_members p (clause_at b k)) → Adds b b s2 s3 (bool_ext_members p (clause_at b k)) → Adds b b s3 s4 (map (extended_member b p) es)
    → Adds b d s4 s5 (primitive_members p (clause_at b k)) → Adds d e s5 s6 (choice_members p (clause_at d k)) → Adds a e s0 s6 (joined p (clause_at a k) (map (extended_member a p) es))
joined-put {a} {b} {d} {e} f g k of p es exts s0 s1 s2 s3 s4 s5 s6 h1 h2 h3 h4 h5 h6 =
    let one : clause_at b k ≡ clause_at a k = clause-kept f k of in
    let two : clause_at d k ≡ clause_at a k = clause-kept (extends-trans f g) k of in
    let x1 = adds-as s0 s1 _ _ h1 (ap (resolve_members p) one) in
    let x2 = adds-as s1 s2 _ _ h2 (ap (factor_members p) one) in
    let x3 = adds-as s2 s3 _ _ h3 (ap (bool_ext_members p) one) in
    let x4 = adds-as s3 s4 _ _ h4 (extended-kept f p es exts) in
    let x5 = adds-as s4 s5 _ _ h5 (ap (primitive_members p) one) in
    let x6 = adds-as s5 s6 _ _ h6 (ap (choice_members p) two) in
    adds-after s0 s6 _ f (adds-both s0 s1 s6 _ _ x1 (adds-both s1 s2 s6 _ _ x2 (adds-both s2 s3 s6 _ _ x3 (adds-both s3 s4 s6 _ _ x4 (adds-both s4 s5 s6 _ _ x5 x6)))))

-- the old items are the first of the new ones
pub items-first : {c d : Contents} → Extends c d → (before after : List (ℕ × ℕ)) → AreInOrder c before → AreInOrder d after → Precedes (map (choice_at c) before) (map (choice_at d) after) → StandFirst before after
items-first {c} {d} e before after h g precedes = first before after h.of_bank g.of_bank precedes
  where
    same : (x y : ℕ × ℕ) → x.1 < length c.terms → y.1 < length d.terms → choice_at d y ≡ choice_at c x → y ≡ x
    same x y l k is =
        let m = e.terms_more in
        let number : y.0 ≡ x.0 = ap (λ (z : Choice). z.number) is in
        let term : tree_at d y.1 ≡ tree_at d x.1 = ap (λ (z : Choice). z.term) is ∙ sym (tree-kept e x.1 l) in
        let there : y.1 ≡ x.1 = term-shared (new_bank e) y.1 x.1 k (omega arith) term in
        rw (number, there) refl

    first : (xs ys : List (ℕ × ℕ)) → Rattle.leo_clause.specs.Choices.AreChoicesOf c xs → Rattle.leo_clause.specs.Choices.AreChoicesOf d ys → Precedes (map (choice_at c) xs) (map (choice_at d) ys) → StandFirst xs ys
    first [] ys p q r = record { more = ys; is = refl }
    first (x ∷ xs) [] p q r = absurd (let z = r zero (choice_at c x) refl in (let f : ⊥ = cc in f))
    first (x ∷ xs) (y ∷ ys) p q r =
        let z : choice_at d y ≡ choice_at c x = (let s = r zero (choice_at c x) refl in cc) in
        let eq : y ≡ x = same x y (p zero x refl).term_within (q zero y refl).term_within z in
        let rest = first xs ys (λ n k s. p (suc n) k s) (λ n k s. q (suc n) k s) (λ n k s. r (suc n) k s) in
        record { more = rest.more; is = ap (λ (w : ℕ × ℕ). w ∷ ys) eq ∙ ap (λ (zs : List (ℕ × ℕ)). x ∷ zs) rest.is }

pub stand-itself : {X : Type 0} (xs : List X) → StandFirst xs xs
stand-itself xs = record { more = []; is = sym (append-nil xs) }

pub order-grow : {c d : Contents} → Extends c d → (items : List (ℕ × ℕ)) → AreInOrder c items → AreInOrder d items
order-grow e items h = record { of_bank = items-grow e items h.of_bank; choices = rw (items-kept e items h.of_bank) h.choices }

-- both sides of each literal of a bank are well typed
well-literals : (c : Contents) → IsBank c → (ls : List Lit) → AreLiteralsOf c ls → AreWellTyped (map (literal_at c) ls)
well-literals c b [] h = tt
well-literals c b (l ∷ ls) h = (term-typed b l.left h.0, term-typed b l.right h.1, well-literals c b ls h.2)

-- the last record of a member
steps-at : (c : Contents) (ds : List Due) → AreDuesOf c ds → (n : ℕ) (d : Due) → slice_get ds n ≡ Some d → AreStepsOf c d.records
steps-at c [] h n d e = absurd (cc)
steps-at c (x ∷ ds) h zero d e = (let f : x ≡ d = cc in subst (λ (y : Due). AreStepsOf c y.records) f h.0)
steps-at c (x ∷ ds) h (suc n) d e = steps-at c ds h.1 n d e

last-of : {X : Type 0} (xs : List X) → 0 < length xs → (x : X) × (slice_get xs (length xs - 1) ≡ Some x)
last-of [] l = absurd (omega arith)
last-of (x ∷ []) l = (x, refl)
last-of (x ∷ y ∷ ys) l =
    let r = last-of (y ∷ ys) (omega arith) in
    let e : length (x ∷ y ∷ ys) - 1 ≡ suc (length (y ∷ ys) - 1) = omega arith in
    (r.0, rw e r.1)

pub stand-first : {c d : Contents} → Extends c d → (before after : List (ℕ × ℕ)) (k : Clause) → AreInOrder c before → (es : List Extended) → AreExtended c d before after k es → StandFirst before after
stand-first {c} {d} f before after k old es made = items-first f before after old made.in_order (functions-precede 0 0 (clause_at c k) 0 (map (choice_at c) before) (clause_at c k).literals (map (choice_at d) after) _ (made.functions 0 0 (omega arith)))

-- all of them
module _ {c d e : Contents} (f : Extends c d) (g : Extends d e) (before after : List (ℕ × ℕ)) (k : Clause) (typed : IsTypedIn c k) (old : AreInOrder c before) (es : List Extended) (made : AreExtended c d before after k es) where
  module _ (dues : List Due) (put : Adds d e [] dues (joined (length after) (clause_at d k) (map (extended_member d (length after)) es))) where
    abbrev all : List Member
    all = joined (length after) (clause_at d k) (map (extended_member d (length after)) es)

    are-members : AreMembers e dues all
    are-members = put.adds [] (record { of_bank = tt; reads = refl })

    unary-members : (known : ℕ) → known ≤ length c.symbols → AreUnary known (map (choice_at c) before) (clause_at c k) (map (choice_at e) after) all
    unary-members known low =
        let kept : map (choice_at e) after ≡ map (choice_at d) after = items-kept g after made.in_order.of_bank in
        let size : length after ≡ length (map (choice_at d) after) = sym (length-mapped (choice_at d) after) in
        let clause : clause_at d k ≡ clause_at c k = clause-kept f k typed.of_bank in
        subst (λ (cs : List Choice). AreUnary known (map (choice_at c) before) (clause_at c k) cs all) (sym kept) (record {
          by_func_ext = map (extended_member d (length after)) es;
          functions = subst (λ (n : ℕ). FuncExts known n (clause_at c k) 0 (map (choice_at c) before) (clause_at c k).literals (map (choice_at d) after) (map (extended_member d (length after)) es)) size (made.functions known (length after) low);
          all = ap (λ (t : ClauseTree). joined (length after) t (map (extended_member d (length after)) es)) clause ∙ ap (λ (n : ℕ). joined n (clause_at c k) (map (extended_member d (length after)) es)) size;
        })

    ends-typed : (n : ℕ) (due : Due) → slice_get dues n ≡ Some due → EndsTyped e due
    ends-typed n due at =
        let b = old_bank f in
        let m : Member = member_at e due in
        let there : slice_get all n ≡ Some m = subst (λ (ms : List Member). slice_get ms n ≡ Some m) are-members.reads (get-map (member_at e) dues n due at) in
        let unary = unary-members 0 (omega arith) in
        let some : 0 < length m.lines = some-lines 0 (map (choice_at c) before) (clause_at c k) (map (choice_at e) after) all unary n m there in
        let size : length m.lines ≡ length due.records = length-mapped (line_at e) due.records in
        let end = last-of due.records (omega arith) in
        let ok = accepted 0 (map (choice_at c) before) (map (choice_at e) after) (clause_at c k) (convert 0) all typed.typed (well-literals c b k.lits typed.of_bank.literals_of) unary n m there in
        let last = ok (length due.records - 1) (line_at e end.0) (get-map (line_at e) due.records (length due.records - 1) end.0 end.1) in
        record {
          last = end.0;
          ends = end.1;
          typed = record { of_bank = (steps-at e dues are-members.of_bank n due at (length due.records - 1) end.0 end.1).clause_of; typed = last.types.clause_typed };
        }

    pub unary-in : AreUnaryIn c e before after k dues
    unary-in = record { members = all; unary = unary-members; are = are-members; last = ends-typed }
