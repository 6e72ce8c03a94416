-- The two cases of an equation of truth values, in a bank.
use Rattle.std.proofs.Common.{ℕ, nat_eq, ◌≡◌, ◌∙◌, ◌<◌, ◌+◌, Bool, true, false, not, ◌&&◌, List, [], ◌∷◌, ◌++◌, length, take, drop, refl}
use Rattle.leo_q0.specs.Terms.{same_type}
use Rattle.leo_terms.specs.Contents.{Contents, IsBank, tree_at, type_at, type_number}
use Rattle.leo_terms.specs.Tree.{Tree, truth_type}
use Rattle.leo_terms.proofs.CallerLemmas.{extends-itself, type_number-within, type_of-term}
use Rattle.leo_clause.specs.declared.clause.Clause.{Clause}
use Rattle.leo_clause.specs.declared.clause.Lit.{Lit}
use Rattle.leo_clause.specs.declared.record.Half.{Half}
use Rattle.leo_clause.specs.declared.record.Half.TheVariants.{One, Two}
use Rattle.leo_clause.specs.declared.record.Rule.TheVariants as record_of
use Rattle.leo_clause.specs.declared.record.StepRecord.{StepRecord}
use Rattle.leo_clause.specs.Trees.{clause_at, literal_at}
use Rattle.leo_clause.specs.Typed.{IsClauseOf}
use Rattle.leo_kernel.specs.Conclusions.{bool_case}
use Rattle.leo_kernel.specs.Shapes.{valued, literal_type}
use Rattle.leo_kernel.proofs.TypeRules.{truth-reads, truth-within}
use Rattle.leo_clausify.specs.Literals.{AreLiterals}
use Rattle.leo_para.specs.Members.{is_formula}
use Rattle.leo_para.specs.declared.member.Due.{Due}
use Rattle.leo_ext.specs.declared.truths.Truths.{Truths}
use Rattle.leo_ext.specs.Cases.{first_value, second_value}
use Rattle.leo_ext.specs.Listing.{Adds}
use Rattle.leo_ext.specs.Members.{alone, bool_ext_line}
use Rattle.leo_ext.specs.Truths.{AreTruths, valued_lit}
use Rattle.leo_ext.proofs.Adding.{adds-step}
use Rattle.leo_ext.proofs.Comparing.{same-types}
use Rattle.leo_ext.proofs.Placed.{placed-of, placed-reads}

-- `A = v`
pub valued-within : (c : Contents) (t : Truths) → AreTruths c t → (a : ℕ) (v : Bool) → (valued_lit t a v).right < length c.terms
valued-within c t h a true = h.yes_within
valued-within c t h a false = h.no_within

pub valued-reads : (c : Contents) (t : Truths) → AreTruths c t → (a : ℕ) (v : Bool) → literal_at c (valued_lit t a v) ≡ valued (tree_at c a) v
valued-reads c t h a true = rw h.yes_reads refl
valued-reads c t h a false = rw h.no_reads refl

pub two-valued : (c : Contents) (t : Truths) → AreTruths c t → (a b : ℕ) (v w : Bool) (ls : List Lit) → a < length c.terms → b < length c.terms → ls ≡ valued_lit t a v ∷ valued_lit t b w ∷ [] → AreLiterals c ls (valued (tree_at c a) v ∷ valued (tree_at c b) w ∷ [])
two-valued c t h a b v w ls p q e = rw e (record {
  literals_of = (p, valued-within c t h a v, (q, valued-within c t h b w, tt));
  reads = rw (valued-reads c t h a v, valued-reads c t h b w) refl;
})

case-is : (half : Half) (p : Bool) (a b : Tree) → bool_case half p a b ≡ valued a (first_value half p) ∷ valued b (second_value half) ∷ []
case-is One true a b = refl
case-is Two true a b = refl
case-is One false a b = refl
case-is Two false a b = refl

pub case-made : (c : Contents) (t : Truths) → AreTruths c t → (l : Lit) (half : Half) (v w : Bool) (x y : Lit) (ls : List Lit) → l.left < length c.terms → l.right < length c.terms → v ≡ first_value half l.pos → w ≡ second_value half → x ≡ valued_lit t l.left v → y ≡ valued_lit t l.right w → ls ≡ x ∷ y ∷ [] → AreLiterals c ls (bool_case half l.pos (tree_at c l.left) (tree_at c l.right))
case-made c t h l half v w x y ls p q e f g i j =
    let k : ls ≡ valued_lit t l.left (first_value half l.pos) ∷ valued_lit t l.right (second_value half) ∷ [] = j ∙ rw (g, i, e, f) refl in
    rw (case-is half l.pos (tree_at c l.left) (tree_at c l.right)) (two-valued c t h l.left l.right (first_value half l.pos) (second_value half) ls p q k)

-- an equation of truth values that is no formula
pub truths-test : (c : Contents) → IsBank c → (l : Lit) → l.left < length c.terms → (m n : ℕ) → m ≡ type_number c l.left → n ≡ 0 → (r q s : Bool) → r ≡ nat_eq m n → q ≡ is_formula (literal_at c l) → s ≡ (r && not q) → s ≡ (same_type (literal_type (literal_at c l)) truth_type && not (is_formula (literal_at c l)))
truths-test c b l k m n e z r q s f g h =
    let w = type_number-within b l.left k in
    let t : r ≡ same_type (type_at c m) (type_at c n) = same-types c b m n (rw e w) (rw z (truth-within c b)) r f in
    let u : r ≡ same_type (literal_type (literal_at c l)) truth_type = t ∙ rw (e, z, truth-reads c b, type_of-term b l.left k) refl in
    h ∙ rw (u, g) refl

-- the member
pub case-added : (c : Contents) → IsBank c → (k q : Clause) → IsClauseOf c k → (before at number : ℕ) (l : Lit) (half : Half) (new : List Lit) (old after : List Due) (records : List StepRecord) → AreLiterals c new (bool_case half l.pos (tree_at c l.left) (tree_at c l.right)) → q.vars ≡ k.vars ++ [] → q.lits ≡ take at k.lits ++ (new ++ drop (at + 1) k.lits) → number ≡ at
    → records ≡ record { clause = q; rule = record_of.BoolExt before number half } ∷ [] → after ≡ old ++ record { records = records; pairs = [] } ∷ [] → Adds c c old after (alone (bool_ext_line before (clause_at c k) at (literal_at c l) half) ∷ [])
case-added c b k q of before at number l half new old after records made vars lits e f is =
    let s : StepRecord = record { clause = q; rule = record_of.BoolExt before at half } in
    let put : after ≡ old ++ record { records = s ∷ []; pairs = [] } ∷ [] = is ∙ rw (f, e) refl in
    let r : clause_at c q ≡ (bool_ext_line before (clause_at c k) at (literal_at c l) half).clause = placed-reads c k q at [] new vars lits ∙ rw made.reads refl in
    adds-step (extends-itself b) old after s [] (bool_ext_line before (clause_at c k) at (literal_at c l) half) put (record { step_of = record { clause_of = placed-of c k q at [] new vars lits of tt made.literals_of; terms_of = tt }; reads = rw r refl })
