-- What `para` gives.
use Rattle.std.proofs.Common.{ℕ, zero, suc, ◌≡◌, ◌∙◌, List, [], ◌∷◌, length, map, slice_get, Some, refl, sym, ap, subst}
use Rattle.leo_terms.specs.Contents.{Contents, Extends, type_at}
use Rattle.leo_terms.proofs.CallerLemmas.{extends-trans}
use Rattle.leo_clause.specs.declared.clause.Clause.{Clause}
use Rattle.leo_clause.specs.declared.clause.Lit.{Lit}
use Rattle.leo_clause.specs.declared.record.StepRecord.{StepRecord}
use Rattle.leo_clause.specs.Trees.{ClauseTree, clause_at, literal_at}
use Rattle.leo_clause.specs.Typed.{AreLiteralsOf, IsTyped, IsTypedIn}
use Rattle.leo_kernel.specs.Acceptance.{Accepts, AreAcceptedAfter}
use Rattle.leo_kernel.specs.Leaves.{AreDeclared}
use Rattle.leo_kernel.specs.Places.{shifted_literal}
use Rattle.leo_kernel.specs.Records.{AreStepsOf}
use Rattle.leo_kernel.specs.Steps.{Line, StepRule, reflexivity, line_at}
use Rattle.leo_kernel.proofs.Growing.{clause-grow, clause-kept, lits-kept, types-kept}
use Rattle.leo_para.specs.declared.due.Found.{Found}
use Rattle.leo_para.specs.declared.member.Due.{Due}
use Rattle.leo_para.specs.Concluding.{AreDone, AreOf, AreReady}
use Rattle.leo_para.specs.Dues.{AreDue, Inference, IsDueFrom, first_lines, inference_at, inference_of}
use Rattle.leo_para.specs.Found.{member_read}
use Rattle.leo_para.specs.Members.{Member, due_members, member_line}
use Rattle.leo_para.proofs.Accepting.{accepted}
use Rattle.leo_para.proofs.Moved.{typed-declared}

some-value : {X : Type 0} {x y : X} → Some x ≡ Some y → x ≡ y
some-value e = cc

of-at : (c : Contents) (ds : List Due) (n : ℕ) (d : Due) → AreOf c ds → slice_get ds n ≡ Some d → AreStepsOf c d.records
of-at c [] n d h e = absurd (cc)
of-at c (x ∷ ds) zero d h e = subst (λ (y : Due). AreStepsOf c y.records) (some-value e) h.0
of-at c (x ∷ ds) (suc n) d h e = of-at c ds n d h.1 e

get-some : {X Y : Type 0} (f : X → Y) (xs : List X) (i : ℕ) (x : X) → slice_get xs i ≡ Some x → slice_get (map f xs) i ≡ Some (f x)
get-some f [] i x e = absurd (cc)
get-some f (y ∷ xs) zero x e = ap (λ z. Some (f z)) (some-value e)
get-some f (y ∷ xs) (suc i) x e = get-some f xs i x e

get-unmapped : {X Y : Type 0} (f : X → Y) (xs : List X) (i : ℕ) (y : Y) → slice_get (map f xs) i ≡ Some y → (x : X) × (slice_get xs i ≡ Some x) × (f x ≡ y)
get-unmapped f [] i y e = absurd (cc)
get-unmapped f (x ∷ xs) zero y e = (x, refl, some-value e)
get-unmapped f (x ∷ xs) (suc i) y e = get-unmapped f xs i y e

-- one line, that is accepted
one-accepted : (source target : ClauseTree) (first second : StepRule) (line : Line) → Accepts [] (first_lines source first target second) line → AreAcceptedAfter (first_lines source first target second) (line ∷ [])
one-accepted source target first second line h zero step e = subst (Accepts [] (first_lines source first target second)) (some-value e) h
one-accepted source target first second line h (suc n) step e = absurd (cc)

module _ (c : Contents) (source target : ClauseTree) (ps : IsTyped source) (pt : IsTyped target) (dues : List Due) (listed : map (inference_at c) dues ≡ map (inference_of source target) (due_members source target)) (h : AreOf c dues) (n : ℕ) (d : Due) (at : slice_get dues n ≡ Some d) where
  member : (m : Member) × (slice_get (due_members source target) n ≡ Some m) × (inference_of source target m ≡ inference_at c d)
  member = get-unmapped (inference_of source target) (due_members source target) n (inference_at c d) (subst (λ (xs : List Inference). slice_get xs n ≡ Some (inference_at c d)) listed (get-some (inference_at c) dues n d at))

  lines-are : map (line_at c) d.records ≡ member_line source target (member.0) ∷ []
  lines-are = sym (ap (λ (x : Inference). x.lines) (member.2))

  line-accepted : (first second : StepRule) → Accepts [] (first_lines source first target second) (member_line source target (member.0))
  line-accepted first second = accepted (record { clause = source; rule = first }) (record { clause = target; rule = second }) ps pt n (member.0) (member.1)

  clause-typed : (k : ℕ) (s : StepRecord) → slice_get d.records k ≡ Some s → IsTyped (clause_at c s.clause)
  clause-typed k s e = go k (subst (λ (ls : List Line). slice_get ls k ≡ Some (line_at c s)) lines-are (get-some (line_at c) d.records k s e))
    where
      go : (j : ℕ) → slice_get (member_line source target (member.0) ∷ []) j ≡ Some (line_at c s) → IsTyped (clause_at c s.clause)
      go zero g = subst (λ (l : Line). IsTyped l.clause) (some-value g) (line-accepted reflexivity reflexivity).types.clause_typed
      go (suc j) g = absurd (cc)

  due-from : IsDueFrom c source target d
  due-from =
      let steps = of-at c dues n d h at in
      record {
        steps = steps;
        typed = λ k s e. record { of_bank = (steps k s e).clause_of; typed = clause-typed k s e };
        accepted = λ first second. subst (AreAcceptedAfter (first_lines source first target second)) (sym lines-are) (one-accepted source target first second (member_line source target (member.0)) (line-accepted first second));
      }

-- clauses that read alike
inferences-same : (s t s' t' : ClauseTree) → s' ≡ s → t' ≡ t → map (inference_of s' t') (due_members s' t') ≡ map (inference_of s t) (due_members s t)
inferences-same s t s' t' e f = rw (e, f) refl

members-same : (s t s' t' : ClauseTree) → s' ≡ s → t' ≡ t → due_members s t ≡ due_members s' t'
members-same s t s' t' e f = rw (e, f) refl

-- the answer, once the steps are made
pub due-whole : {a b c d : Contents} → Extends a b → Extends b c → Extends c d → (source target : Clause) → IsTypedIn a source → IsTypedIn a target → (dues : List Due) → AreDone c d source target (due_members (clause_at c source) (clause_at c target)) dues → AreDue d (clause_at a source) (clause_at a target) dues
due-whole {a} {b} {c} {d} e f g source target hs ht dues h =
    let k = extends-trans e f in
    let s : clause_at c source ≡ clause_at a source = clause-kept k source hs.of_bank in
    let t : clause_at c target ≡ clause_at a target = clause-kept k target ht.of_bank in
    let listed : map (inference_at d) dues ≡ map (inference_of (clause_at a source) (clause_at a target)) (due_members (clause_at a source) (clause_at a target)) = h.listed ∙ inferences-same (clause_at a source) (clause_at a target) (clause_at c source) (clause_at c target) s t in
    record { listed = listed; each = due-from d (clause_at a source) (clause_at a target) hs.typed ht.typed dues listed h.dues_of }

-- nothing is due
pub due-none : (c : Contents) (before : Contents) (source target : ClauseTree) (found : List Found) → found ≡ [] → map (member_read before) found ≡ due_members source target → AreDue c source target []
due-none c before source target found e h =
    let n : due_members source target ≡ [] = sym h ∙ rw e refl in
    record { listed = rw n refl; each = λ k d g. absurd (cc) }

-- the variables of a typed clause are its own
pub declared-later : {a b : Contents} → Extends a b → (target : Clause) → IsTypedIn a target → AreDeclared (map (type_at b) target.vars) (map (literal_at b) target.lits)
declared-later {a} {b} e target h =
    rw (types-kept e target.vars h.of_bank.types_of, lits-kept e target.lits h.of_bank.literals_of)
    (typed-declared (map (type_at a) target.vars) (map (literal_at a) target.lits) h.typed)

-- the members are ready once the literals are moved
pub ready : {a b c : Contents} → Extends a b → Extends b c → (source target : Clause) (moved : List Lit) (found : List Found) (first : ℕ) → IsTypedIn a source → IsTypedIn a target → first ≡ length source.vars →
    map (member_read b) found ≡ due_members (clause_at a source) (clause_at a target) → AreLiteralsOf c moved → map (literal_at c) moved ≡ map (shifted_literal first) (map (literal_at b) target.lits) → AreReady c source target moved found
ready {a} {b} {c} e f source target moved found first hs ht n m mo mr =
    let g = extends-trans e f in
    let s : clause_at c source ≡ clause_at a source = clause-kept g source hs.of_bank in
    let t : clause_at c target ≡ clause_at a target = clause-kept g target ht.of_bank in
    record {
      before = b;
      grown = f;
      source_of = clause-grow g source hs.of_bank;
      target_of = clause-grow g target ht.of_bank;
      source_typed = subst IsTyped (sym s) hs.typed;
      target_typed = subst IsTyped (sym t) ht.typed;
      moved_of = mo;
      moved_reads = mr ∙ rw (n, lits-kept e target.lits ht.of_bank.literals_of, lits-kept g target.lits ht.of_bank.literals_of) refl;
      found_due = m ∙ members-same (clause_at a source) (clause_at a target) (clause_at c source) (clause_at c target) s t;
    }
