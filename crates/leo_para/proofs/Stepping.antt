-- The steps of members, one after the other.
use Rattle.std.proofs.Common.{ℕ, zero, suc, ◌≡◌, ◌∙◌, ◌+◌, ◌-◌, ◌<◌, ◌≤◌, List, [], ◌∷◌, ◌++◌, length, map, take, slice_get, Option, Some, None, refl, sym, ap, subst, arith}
use Rattle.std.proofs.lemmas.List.{map-append, take_all}
use Rattle.std.proofs.lemmas.Option.{slice_get_within}
use Rattle.leo_terms.specs.Tree.{type_of}
use Rattle.leo_terms.specs.Typing.{IsPresent}
use Rattle.leo_terms.specs.Contents.{Contents, IsBank, Extends, tree_at, type_at}
use Rattle.leo_terms.proofs.CallerLemmas.{extends-trans, new_bank, term-present}
use Rattle.leo_clause.specs.declared.clause.Clause.{Clause}
use Rattle.leo_clause.specs.declared.clause.Lit.{Lit}
use Rattle.leo_clause.specs.declared.record.StepRecord.{StepRecord}
use Rattle.leo_clause.specs.Trees.{Literal, clause_at, literal_at}
use Rattle.leo_kernel.specs.Conclusions.{paramodulant}
use Rattle.leo_kernel.specs.Places.{shifted, shifted_literal, subterm}
use Rattle.leo_kernel.specs.Records.{AreStepsOf, IsStepOf}
use Rattle.leo_kernel.specs.Shapes.{other_side_of, side_of}
use Rattle.leo_kernel.specs.Steps.{line_at}
use Rattle.leo_kernel.proofs.Growing.{lits-kept, types-kept}
use Rattle.leo_kernel.proofs.Lists.{length-map}
use Rattle.leo_kernel.proofs.LinesGrowing.{lines-grow, lines-kept}
use Rattle.leo_kernel.proofs.MovedTerms.{get-mapped, subterm-shifted}
use Rattle.leo_para.specs.declared.due.Found.{Found}
use Rattle.leo_para.specs.declared.member.Due.{Due}
use Rattle.leo_para.specs.Concluding.{AreDone, AreOf, AreReady, Fits, IsStep, rule_of}
use Rattle.leo_para.specs.Dues.{inference_at, inference_of}
use Rattle.leo_para.specs.Found.{IsLitOf, member_read}
use Rattle.leo_para.specs.Members.{Member, due_members, member_line, solved_literal}
use Rattle.leo_para.proofs.Finding.{IsDue, in-get, is-due}
use Rattle.leo_para.proofs.Joined.{lit-at, lit-grow, lit-kept}
use Rattle.leo_para.proofs.Keeping.{other-type, side-moved, type-moved, typed-get}
use Rattle.leo_para.proofs.Leading.{places-lead}
use Rattle.leo_para.proofs.Replaced.{value-and}

some-value : {X : Type 0} {x y : X} → Some x ≡ Some y → x ≡ y
some-value e = cc

-- a number whose term stands there is one of the bank
none-absent : (c : Contents) (t : ℕ) → slice_get c.terms t ≡ None → IsPresent (tree_at c t) → ⊥
unfolding tree_at
none-absent c t e h = (rw e at h)

present-within : (c : Contents) (t : ℕ) → IsPresent (tree_at c t) → t < length c.terms
present-within c t h = go (slice_get c.terms t) refl
  where
    go : (o : Option _) → slice_get c.terms t ≡ o → t < length c.terms
    go None e = absurd (none-absent c t e h)
    go (Some n) e = slice_get_within c.terms t n e

read-within : {c : Contents} → IsBank c → (before : Contents) (l k : Lit) → IsLitOf c l → literal_at c l ≡ literal_at before k → IsLitOf before k
read-within {c} b before l k h e =
    let p : tree_at c l.left ≡ tree_at before k.left = ap (λ (x : Literal). x.left) e in
    let q : tree_at c l.right ≡ tree_at before k.right = ap (λ (x : Literal). x.right) e in
    (present-within before k.left (subst IsPresent p (term-present b l.left h.0)), present-within before k.right (subst IsPresent q (term-present b l.right h.1)))

get-unmapped : (f : Lit → Literal) (ls : List Lit) (i : ℕ) (k : Literal) → slice_get (map f ls) i ≡ Some k → (l : Lit) × (slice_get ls i ≡ Some l) × (f l ≡ k)
get-unmapped f [] i k e = absurd (cc)
get-unmapped f (l ∷ ls) zero k e = (l, refl, some-value e)
get-unmapped f (l ∷ ls) (suc i) k e = get-unmapped f ls i k e

get-some : {X Y : Type 0} (f : X → Y) (xs : List X) (i : ℕ) (x : X) → slice_get xs i ≡ Some x → slice_get (map f xs) i ≡ Some (f x)
get-some f [] i x e = absurd (cc)
get-some f (y ∷ xs) zero x e = ap (λ z. Some (f z)) (some-value e)
get-some f (y ∷ xs) (suc i) x e = get-some f xs i x e

take-suc : {X : Type 0} (xs : List X) (i : ℕ) (x : X) → slice_get xs i ≡ Some x → take (suc i) xs ≡ take i xs ++ x ∷ []
take-suc [] i x e = absurd (cc)
take-suc (y ∷ xs) zero x e = ap (λ z. z ∷ []) (some-value e)
take-suc (y ∷ xs) (suc i) x e = ap (λ zs. y ∷ zs) (take-suc xs i x e)

take-get : {X : Type 0} (xs : List X) (i : ℕ) (x : X) → slice_get xs i ≡ Some x → take (i + 1) xs ≡ take i xs ++ x ∷ []
take-get xs i x e = let f : i + 1 ≡ suc i = omega arith in rw f (take-suc xs i x e)

-- one member of those that are ready, in a bank that may have grown
module _ {a c : Contents} (source target : Clause) (moved : List Lit) (found : List Found) (r : AreReady a source target moved found) (e : Extends a c) (i : ℕ) (f : Found) (at : slice_get found i ≡ Some f) where
  member-at : slice_get (due_members (clause_at a source) (clause_at a target)) i ≡ Some (member_read r.before f)
  member-at = subst (λ ms. slice_get ms i ≡ Some (member_read r.before f)) r.found_due (get-some (member_read r.before) found i f at)

  due : IsDue (map (literal_at a) source.lits) (map (literal_at a) target.lits) (member_read r.before f)
  due = is-due (clause_at a source) (clause_at a target) (member_read r.before f) (in-get (due_members (clause_at a source) (clause_at a target)) i (member_read r.before f) member-at)

  equation-of : IsLitOf r.before f.equation
  equation-of =
      let l = get-unmapped (literal_at a) source.lits f.literal (literal_at r.before f.equation) due.equation_at in
      read-within (new_bank r.grown) r.before l.0 f.equation (lit-at a source.lits r.source_of.literals_of f.literal l.0 l.1) l.2

  equation-kept : literal_at c f.equation ≡ literal_at r.before f.equation
  equation-kept = lit-kept (extends-trans r.grown e) f.equation equation-of

  moved-at : slice_get (map (literal_at a) moved) f.place ≡ Some (shifted_literal (length source.vars) (literal_at r.before f.target))
  moved-at = rw (r.moved_reads) (get-mapped (shifted_literal (length source.vars)) (map (literal_at a) target.lits) f.place (literal_at r.before f.target) due.target_at)

  there : (k : Lit) → slice_get moved f.place ≡ Some k → literal_at c k ≡ shifted_literal (length source.vars) (literal_at r.before f.target)
  there k g = lit-kept e k (lit-at a moved r.moved_of f.place k g) ∙ some-value (sym (get-some (literal_at a) moved f.place k g) ∙ moved-at)

  leads : subterm f.path (side_of f.place_side (shifted_literal (length source.vars) (literal_at r.before f.target))) ≡ Some (shifted (length source.vars) (tree_at r.before f.term))
  leads =
      ap (subterm f.path) (side-moved f.place_side (length source.vars) (literal_at r.before f.target))
      ∙ subterm-shifted (length source.vars) f.path (side_of f.place_side (literal_at r.before f.target)) (tree_at r.before f.term) (places-lead (side_of f.place_side (literal_at r.before f.target)) f.path (tree_at r.before f.term) due.place_in)

  types : type_of (other_side_of f.side (literal_at c f.equation)) ≡ type_of (shifted (length source.vars) (tree_at r.before f.term))
  types =
      let vs = map (type_at a) source.vars in
      let l = typed-get vs (map (literal_at a) source.lits) f.literal (literal_at r.before f.equation) due.equation_at r.source_typed in
      ap (λ (k : Literal). type_of (other_side_of f.side k)) equation-kept ∙ other-type vs f.side (literal_at r.before f.equation) l ∙ due.types ∙ sym (type-moved (length source.vars) (tree_at r.before f.term))

  moved-length : length moved ≡ length target.lits
  moved-length =
      sym (length-map (literal_at a) moved) ∙ ap (λ (ls : List Literal). length ls) r.moved_reads
      ∙ length-map (shifted_literal (length source.vars)) (map (literal_at a) target.lits) ∙ length-map (literal_at a) target.lits

  place-within : f.place < length moved
  place-within =
      let l = slice_get_within (map (literal_at a) target.lits) f.place (literal_at r.before f.target) due.target_at in
      let m = length-map (literal_at a) target.lits in
      let n = moved-length in
      omega arith

  literal-within : f.literal < length source.lits
  literal-within =
      let l = slice_get_within (map (literal_at a) source.lits) f.literal (literal_at r.before f.equation) due.equation_at in
      let m = length-map (literal_at a) source.lits in
      omega arith

  pub fits : Fits c source.lits moved f
  fits = record {
    literal = literal-within;
    place = place-within;
    equation = lit-grow (extends-trans r.grown e) f.equation equation-of;
    leads = λ k g. value-and (λ t. type_of (other_side_of f.side (literal_at c f.equation)) ≡ type_of t) (subterm f.path (side_of f.place_side (literal_at c k))) (shifted (length source.vars) (tree_at r.before f.term)) (ap (λ (x : Literal). subterm f.path (side_of f.place_side x)) (there k g) ∙ leads) types;
  }

  -- its step
  module _ {d : Contents} (p : Extends c d) (new : Due) (s : IsStep c d source target moved f new) where
    variables-are : map (type_at d) s.clause.vars ≡ map (type_at a) source.vars ++ map (type_at a) target.vars
    variables-are =
        let g = extends-trans e p in
        ap (map (type_at d)) s.concluded.variables ∙ map-append (type_at d) source.vars target.vars
        ∙ rw (types-kept g source.vars r.source_of.types_of, types-kept g target.vars r.target_of.types_of) refl

    literals-are : map (literal_at d) s.clause.lits ≡ (paramodulant (clause_at a source) f.literal (literal_at r.before f.equation) f.side (clause_at a target) f.place (literal_at r.before f.target) f.place_side f.path (tree_at r.before f.term)).literals
    literals-are =
        let n = length-map (type_at a) source.vars in
        let k = shifted_literal (length source.vars) (literal_at r.before f.target) in
        let t = shifted (length source.vars) (tree_at r.before f.term) in
        let there-at : slice_get (map (literal_at c) moved) f.place ≡ Some k = rw (lits-kept e moved r.moved_of) moved-at in
        let whole = s.concluded.literals k t there-at leads in
        whole ∙ rw (n, equation-kept, lits-kept e source.lits r.source_of.literals_of, lits-kept e moved r.moved_of, r.moved_reads) refl

    line-is : line_at d (record { clause = s.clause; rule = rule_of f }) ≡ member_line (clause_at a source) (clause_at a target) (member_read r.before f)
    line-is = rw (variables-are, literals-are) refl

    last-is : length s.clause.lits - 1 ≡ solved_literal (clause_at a source) (clause_at a target)
    last-is =
        let g = s.concluded.last in
        let l = length-map (literal_at a) source.lits in
        let m = length-map (literal_at a) target.lits in
        let n = moved-length in
        omega arith

    pub step-reads : inference_at d new ≡ inference_of (clause_at a source) (clause_at a target) (member_read r.before f)
    step-reads = rw (s.records, s.pairs, line-is, last-is) refl

    one-step : (k : ℕ) (x : StepRecord) → slice_get (record { clause = s.clause; rule = rule_of f } ∷ []) k ≡ Some x → IsStepOf d x
    one-step zero x g = subst (IsStepOf d) (some-value g) (record { clause_of = s.concluded.clause_of; terms_of = tt })
    one-step (suc k) x g = absurd (cc)

    pub steps-of : AreStepsOf d new.records
    steps-of = rw (s.records) one-step

-- inferences as the bank grows
of-grow : {c d : Contents} → Extends c d → (ds : List Due) → AreOf c ds → AreOf d ds
of-grow e [] h = tt
of-grow e (x ∷ ds) h = (lines-grow e x.records h.0, of-grow e ds h.1)

of-end : (c : Contents) (ds : List Due) (x : Due) → AreOf c ds → AreStepsOf c x.records → AreOf c (ds ++ x ∷ [])
of-end c [] x h g = (g, tt)
of-end c (y ∷ ds) x h g = (h.0, of-end c ds x h.1 g)

of-kept : {c d : Contents} → Extends c d → (ds : List Due) → AreOf c ds → map (inference_at d) ds ≡ map (inference_at c) ds
of-kept e [] h = refl
of-kept e (x ∷ ds) h = rw (lines-kept e x.records h.0, of-kept e ds h.1) refl

pub done-none : (c : Contents) (source target : Clause) (ms : List Member) → AreDone c c source target (take 0 ms) []
done-none c source target ms = record { dues_of = tt; listed = refl }

pub done-next : {a c d : Contents} (source target : Clause) (moved : List Lit) (found : List Found) (r : AreReady a source target moved found) (e : Extends a c) (i : ℕ) (f : Found) (at : slice_get found i ≡ Some f) → (p : Extends c d) (dues : List Due) (new : Due) →
    AreDone a c source target (take i (due_members (clause_at a source) (clause_at a target))) dues → IsStep c d source target moved f new → AreDone a d source target (take (i + 1) (due_members (clause_at a source) (clause_at a target))) (dues ++ new ∷ [])
done-next {a} {c} {d} source target moved found r e i f at p dues new h s =
    let ms = due_members (clause_at a source) (clause_at a target) in
    let g = inference_of (clause_at a source) (clause_at a target) in
    let t : take (i + 1) ms ≡ take i ms ++ member_read r.before f ∷ [] = take-get ms i (member_read r.before f) (member-at source target moved found r e i f at) in
    record {
      dues_of = of-end d dues new (of-grow p dues h.dues_of) (steps-of source target moved found r e i f at p new s);
      listed = map-append (inference_at d) dues (new ∷ []) ∙ rw (of-kept p dues h.dues_of, h.listed, step-reads source target moved found r e i f at p new s, t) (sym (map-append g (take i ms) (member_read r.before f ∷ [])));
    }

pub done-whole : {a c : Contents} (source target : Clause) (moved : List Lit) (found : List Found) → AreReady a source target moved found → (i : ℕ) (dues : List Due) → length found ≤ i →
    AreDone a c source target (take i (due_members (clause_at a source) (clause_at a target))) dues → AreDone a c source target (due_members (clause_at a source) (clause_at a target)) dues
done-whole {a} {c} source target moved found r i dues l h =
    let n : length (due_members (clause_at a source) (clause_at a target)) ≡ length found = sym (ap (λ (ms : List Member). length ms) r.found_due) ∙ length-map (member_read r.before) found in
    let k : length (due_members (clause_at a source) (clause_at a target)) ≤ i = omega arith in
    rw (take_all i (due_members (clause_at a source) (clause_at a target)) k) at h
