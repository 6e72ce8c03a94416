-- The arranged form at the end of a branch.
use Rattle.std.proofs.Common.{ℕ, nat_eq, ◌≡◌, ◌<◌, List, [], ◌∷◌, ◌++◌, length, map, refl, sym, ◌∙◌, ap, subst, arith}
use Rattle.leo_q0.specs.Terms.{SimpleType}
use Rattle.leo_terms.specs.Contents.{Contents, IsBank, Extends, tree_at, type_at}
use Rattle.leo_terms.proofs.CallerLemmas.{old_bank, extends-itself, extends-trans}
use Rattle.leo_clause.specs.Arranging.{arranged, distinct, firsts, occurring_in}
use Rattle.leo_clause.specs.Choices.{Choice}
use Rattle.leo_clause.specs.declared.clause.Clause.{Clause}
use Rattle.leo_clause.specs.declared.clause.Lit.{Lit}
use Rattle.leo_clause.specs.Sameness.{same_literal, same_numbers}
use Rattle.leo_clause.specs.Trees.{Literal, ClauseTree, clause_at, literal_at}
use Rattle.leo_clause.specs.Typed.{AreLiteralsOf, IsTyped, IsTypedIn}
use Rattle.leo_clause.proofs.Renaming.{distinct-of}
use Rattle.leo_clause.proofs.Renumbered.{typed-firsts}
use Rattle.leo_kernel.proofs.Growing.{clause-grow, clause-kept, types-kept}
use Rattle.leo_clausify.specs.declared.branch.Branch.{Branch}
use Rattle.leo_clausify.specs.declared.moves.Move.TheVariants as move
use Rattle.leo_clausify.specs.Branches.{IsBranch, IsExtended}
use Rattle.leo_clausify.specs.Giving.{AreGivenBy, placed_tree}
use Rattle.leo_clausify.proofs.Branching.{reached-itself, reached-step, reached-extended}
use Rattle.leo_clausify.proofs.Giving.{Gives, given-all, length-map, distinct-follows, numbered-follows, arranged-normal}

clause-of : (u v : List SimpleType) (l m : List Literal) → u ≡ v → l ≡ m → ◌≡◌ {A = ClauseTree} (record { variables = u; literals = l }) (record { variables = v; literals = m })
clause-of u v l m p q = rw (p, q) refl

pub distinct-literals : (c : Contents) → IsBank c → (ls lits : List Lit) → AreLiteralsOf c ls → lits ≡ firsts same_numbers [] ls → AreLiteralsOf c lits × (map (literal_at c) lits ≡ distinct (map (literal_at c) ls))
distinct-literals c s ls lits h e = rw e (distinct-of c s ls [] tt h)

pub arranged-extended : {c d e : Contents} → Extends c d → Extends d e → (b m r : Branch) (lits : List Lit) (keys vars sigma : List ℕ) (a : Clause) → IsBranch c b → lits ≡ firsts same_numbers [] b.clause.lits → keys ≡ firsts nat_eq [] (occurring_in (map (literal_at c) lits)) →
    clause_at d a ≡ arranged (clause_at c b.clause) → IsTypedIn d a → AreGivenBy (placed_tree keys) d e b.clause.vars sigma (length b.clause.vars) → vars ≡ b.clause.vars →
    m.clause ≡ record { vars = vars; lits = lits } → m.steps ≡ b.steps ++ record { clause = record { vars = vars; lits = lits }; rule = move.Arrange } ∷ [] →
    r.clause ≡ a → r.steps ≡ m.steps ++ record { clause = a; rule = move.Inst sigma } ∷ [] →
    (later : List Choice) → IsExtended c e later b r (arranged (clause_at c b.clause))
arranged-extended {c} {d} {e} f g b m r lits keys vars sigma a h once order reads typed given same mp mq rp rq later =
    let s = old_bank f in
    let parent = clause_at c b.clause in
    let kept = distinct-literals c s b.clause.lits lits h.typed.of_bank.literals_of once in
    let tree : ClauseTree = record { variables = parent.variables; literals = distinct parent.literals } in
    let k : Clause = record { vars = vars; lits = lits } in
    let well = typed-firsts same_literal parent.variables parent.literals [] tt h.typed.typed in
    let one = reached-step (extends-itself s) later b b m parent tree k move.Arrange (reached-itself c later b h) mp mq
    (record { types_of = rw same h.typed.of_bank.types_of; literals_of = kept.0 }) tt
    (clause-of (map (type_at c) vars) (map (type_at c) b.clause.vars) (map (literal_at c) lits) (distinct parent.literals) (ap (map (type_at c)) same) kept.1)
    well (distinct-follows later parent h.typed.typed) in
    let o : keys ≡ firsts nat_eq [] (occurring_in (distinct parent.literals)) = order ∙ ap (λ ls. firsts nat_eq [] (occurring_in ls)) kept.1 in
    let all : Gives (placed_tree keys) (map (type_at d) b.clause.vars) (map (tree_at e) sigma) = given-all (placed_tree keys) d e b.clause.vars sigma given in
    let gives : Gives (placed_tree (firsts nat_eq [] (occurring_in (distinct parent.literals)))) parent.variables (map (tree_at e) sigma) =
    subst (λ (ns : List ℕ). Gives (placed_tree ns) parent.variables (map (tree_at e) sigma)) o
    (subst (λ (ts : List SimpleType). Gives (placed_tree keys) ts (map (tree_at e) sigma)) (types-kept f b.clause.vars h.typed.of_bank.types_of) all) in
    let count : length (map (tree_at e) sigma) ≡ length parent.variables = length-map (tree_at e) sigma ∙ given.count ∙ sym (length-map (type_at c) b.clause.vars) in
    let two = reached-step (extends-trans f g) later b m r tree (arranged parent) a (move.Inst sigma) one rp rq
    (clause-grow g a typed.of_bank) given.terms
    (clause-kept g a typed.of_bank ∙ reads)
    (subst IsTyped reads typed.typed)
    (numbered-follows later parent.variables (distinct parent.literals) (map (tree_at e) sigma) well count gives) in
    reached-extended c e later b r (arranged parent) two (arranged-normal parent.variables parent.literals h.normal)

pub some-last : {X : Type 0} (xs : List X) (x : X) → 0 < length (xs ++ x ∷ [])
some-last [] x = omega arith
some-last (y ∷ xs) x = let e = some-last xs x in omega arith
