-- The members in which a variable is bound, in banks that grow.
use Rattle.std.proofs.Common.{ℕ, zero, suc, ◌≡◌, ◌∙◌, ◌≤◌, ◌<◌, ◌+◌, true, false, List, [], ◌∷◌, ◌++◌, length, map, take, slice_get, slice_index_or, Some, refl, sym, ap, subst, arith}
use Rattle.std.specs.Prelude.{nat_le}
use Rattle.std.proofs.lemmas.Bool.Decides.{nat_tests}
use Rattle.std.proofs.lemmas.List.{map-append}
use Rattle.leo_q0.specs.Terms.{SimpleType}
use Rattle.leo_terms.specs.declared.node.View.TheVariants.{Var}
use Rattle.leo_terms.specs.Contents.{Contents, IsBank, AreTerms, Extends, type_at, tree_at, type_number}
use Rattle.leo_terms.specs.Tree.{Tree, variable, type_of, truth_type}
use Rattle.leo_terms.proofs.CallerLemmas.{HasView, extends-trans, reads-var, term-typed as well-typed, tree-kept, trees-kept, are_terms-kept, type-kept, type_number-within}
use Rattle.leo_clause.specs.declared.clause.Clause.{Clause}
use Rattle.leo_clause.specs.declared.clause.Lit.{Lit}
use Rattle.leo_clause.specs.declared.record.Rule.TheVariants as record_of
use Rattle.leo_clause.specs.declared.record.StepRecord.{StepRecord}
use Rattle.leo_clause.specs.Renaming.{AreGiven, AreRenamed, substituted_literal}
use Rattle.leo_clause.specs.Trees.{ClauseTree, clause_at, literal_at}
use Rattle.leo_clause.specs.Typed.{AreTypesOf, IsClauseOf, IsTypedIn, IsTypedLiteral}
use Rattle.leo_kernel.specs.Conditions.{AreTermsFor}
use Rattle.leo_kernel.proofs.Growing.{clause-kept, types-grow, types-kept}
use Rattle.leo_clausify.specs.Picking.{IsTree}
use Rattle.leo_para.specs.declared.member.Due.{Due}
use Rattle.leo_para.specs.Members.{is_formula}
use Rattle.leo_para.specs.Spines.{head}
use Rattle.leo_ext.specs.declared.binding.Bound.{Bound}
use Rattle.leo_ext.specs.declared.primitive.Variable.{Variable}
use Rattle.leo_ext.specs.Binding.{argument_types, arrows, under_lambdas, bindings, given_for}
use Rattle.leo_ext.specs.Bounds.{AreBindings, AreBoundsOf, AreFitting, AreIndicesOf, AreTrees, AreTypes, IsBinding, IsFitting, IsHeadIn, IsNoVariable, IsVariable, binding_at, instance_line}
use Rattle.leo_ext.specs.Listing.{Adds, IsStep}
use Rattle.leo_ext.specs.Members.{Member, primitive_at, primitive_by, primitive_for, primitive_line, primitive_member}
use Rattle.leo_ext.proofs.Accepting.{formula-type}
use Rattle.leo_ext.proofs.Adding.{adds-as, adds-both}
use Rattle.leo_ext.proofs.Bindings.{arrows-arguments, given-good, lambdas-type}
use Rattle.leo_ext.proofs.BoundTerms.{bindings-fit, truth-last}
use Rattle.leo_ext.proofs.ChoiceMembers.{step-made}
use Rattle.leo_ext.proofs.FunctionMembers.{literal-typed}
use Rattle.leo_ext.proofs.Instances.{all-given}
use Rattle.leo_ext.proofs.Loops.{length-mapped, map-next, take-all}
use Rattle.leo_ext.proofs.Parts.{IsPart, given_last, head-last, part-head}
use Rattle.leo_ext.proofs.Placed.{types-both}

-- an instance of a clause
pub clause-given : (a : Contents) (k : Clause) (fresh sigma : List ℕ) → IsTypedIn a k → AreTermsFor (map (type_at a) k.vars ++ map (type_at a) fresh) (map (type_at a) k.vars) (map (tree_at a) sigma) → AreGiven (map (tree_at a) sigma) (map (literal_at a) k.lits)
clause-given a k fresh sigma typed fits = all-given (map (type_at a) k.vars ++ map (type_at a) fresh) (map (type_at a) k.vars) (map (tree_at a) sigma) fits (map (literal_at a) k.lits) typed.typed

pub instance-step : {a b : Contents} → Extends a b → (k : Clause) → IsTypedIn a k → (fresh sigma vars given : List ℕ) (lits : List Lit) (parent : ℕ) → AreTypesOf a fresh → AreTerms a sigma → AreRenamed a b sigma k.lits lits (length k.lits) → vars ≡ k.vars ++ fresh → given ≡ sigma
    → IsStep b (record { clause = record { vars = vars; lits = lits }; rule = record_of.Inst parent given }) (instance_line parent (clause_at a k) (map (type_at a) fresh) (map (tree_at a) sigma))
instance-step {a} {b} e k typed fresh sigma vars given lits parent of terms renamed is same =
    let put = map (substituted_literal (map (tree_at a) sigma)) (map (literal_at a) k.lits) in
    let count : length put ≡ length k.lits = length-mapped (substituted_literal (map (tree_at a) sigma)) (map (literal_at a) k.lits) ∙ length-mapped (literal_at a) k.lits in
    let all : take (length k.lits) put ≡ put = take-all put (length k.lits) (omega arith) in
    let types = types-both b k.vars fresh (types-grow e k.vars typed.of_bank.types_of) (types-grow e fresh of) in
    step-made b vars lits (record_of.Inst parent given) (map (type_at a) k.vars ++ map (type_at a) fresh) put _ (rw is types)
    (record { literals_of = renamed.literals_of; reads = renamed.value ∙ all })
    (ap (map (type_at b)) is ∙ map-append (type_at b) k.vars fresh ∙ rw (types-kept e k.vars typed.of_bank.types_of, types-kept e fresh of) refl)
    (rw same (are_terms-kept e sigma terms))
    (rw (same, trees-kept e sigma terms) refl)

-- a variable and its binding in a bank that grew
pub head-grow : {a b : Contents} → Extends a b → (k : Clause) → IsClauseOf a k → (v : Variable) → IsHeadIn a k v → IsHeadIn b k v
head-grow e k of v h =
    let t = type-kept e v.ty h.type_within in
    let m = e.types_more in
    let l = h.type_within in
    record {
      type_within = omega arith;
      stands = rw (types-kept e k.vars of.types_of, t) h.stands;
      gives_truth = rw t h.gives_truth;
    }

pub arguments-grow : {a b : Contents} → Extends a b → (ty : ℕ) (types : List ℕ) → ty < length a.types → AreTypes a types (argument_types (type_at a ty)) → AreTypes b types (argument_types (type_at b ty))
arguments-grow e ty types l h = record { of_bank = types-grow e types h.of_bank; reads = types-kept e types h.of_bank ∙ h.reads ∙ ap argument_types (sym (type-kept e ty l)) }

pub bound-kept : {a b : Contents} → Extends a b → (x : Bound) → AreTypesOf a x.fresh → x.body < length a.terms → binding_at b x ≡ binding_at a x
bound-kept e x f l = rw (types-kept e x.fresh f, tree-kept e x.body l) refl

pub bound-at : (c : Contents) (bs : List Bound) → AreBoundsOf c bs → (i : ℕ) (x : Bound) → i < length bs → x ≡ slice_index_or bs i x → IsBinding c x (binding_at c x)
bound-at c [] h i x l e = absurd (omega arith)
bound-at c (b ∷ bs) h zero x l e = rw e (record { fresh_of = h.0; body_within = h.1; reads = refl })
bound-at c (b ∷ bs) h (suc i) x l e = bound-at c bs h.2 i x (omega arith) e

pub fits-at : (c : Contents) (variables types : List SimpleType) (bs : List Bound) → AreFitting variables types (map (binding_at c) bs) → (i : ℕ) (x : Bound) → i < length bs → x ≡ slice_index_or bs i x → IsFitting variables types (binding_at c x)
fits-at c variables types [] h i x l e = absurd (omega arith)
fits-at c variables types (b ∷ bs) h zero x l e = rw e h.0
fits-at c variables types (b ∷ bs) h (suc i) x l e = fits-at c variables types bs h.1 i x (omega arith) e

-- a variable of a clause that is bound
module _ {a b : Contents} (e : Extends a b) (k : Clause) (typed : IsTypedIn a k) (v : Variable) (is : IsHeadIn a k v) (x : Bound) (binding : IsBinding a x (binding_at a x)) where
  abbrev VS : List SimpleType
  VS = map (type_at a) k.vars

  abbrev TY : SimpleType
  TY = type_at a v.ty

  pub fits-grow : IsFitting VS (argument_types TY) (binding_at a x) → IsFitting (map (type_at b) k.vars) (argument_types (type_at b v.ty)) (binding_at b x)
  fits-grow h = rw (types-kept e k.vars typed.of_bank.types_of, type-kept e v.ty is.type_within, bound-kept e x binding.fresh_of binding.body_within) h

  pub member-kept : (p : ℕ) → primitive_member p (clause_at b k) v.number (type_at b v.ty) (binding_at b x) ≡ primitive_member p (clause_at a k) v.number TY (binding_at a x)
  member-kept p =
      ap (λ (c : ClauseTree). primitive_member p c v.number (type_at b v.ty) (binding_at b x)) (clause-kept e k typed.of_bank)
      ∙ ap (λ (t : SimpleType). primitive_member p (clause_at a k) v.number t (binding_at b x)) (type-kept e v.ty is.type_within)
      ∙ ap (primitive_member p (clause_at a k) v.number TY) (bound-kept e x binding.fresh_of binding.body_within)

  module _ (fits : IsFitting VS (argument_types TY) (binding_at a x)) (types : List ℕ) (are : AreTypes a types (argument_types TY)) where
    abbrev T : Tree
    T = under_lambdas (argument_types TY) (tree_at a x.body)

    pub indices-are : AreIndicesOf (map (type_at a) types) (tree_at a x.body)
    indices-are = rw are.reads fits.indices

    term-type : type_of T ≡ TY
    term-type = lambdas-type (argument_types TY) (tree_at a x.body) ∙ ap (arrows (argument_types TY)) fits.type ∙ is.gives_truth

    module _ (term : ℕ) (made : IsTree b term (under_lambdas (map (type_at a) types) (tree_at a x.body))) where
      term-reads : tree_at b term ≡ T
      term-reads = made.reads ∙ ap (λ (ts : List SimpleType). under_lambdas ts (tree_at a x.body)) are.reads

      pub term-stands : (n : ℕ) → n ≡ v.number → slice_get (map (type_at b) k.vars) n ≡ Some (type_of (tree_at b term))
      term-stands n same = rw (same, types-kept e k.vars typed.of_bank.types_of, term-reads, term-type) is.stands

      module _ {d : Contents} (g : Extends b d) (n : ℕ) (same : n ≡ v.number) (sigma : List ℕ) (given : AreTrees d sigma (given_for n (tree_at b term) 0 (map (type_at b) k.vars))) where
        sigma-reads : map (tree_at d) sigma ≡ given_for v.number T 0 VS
        sigma-reads = given.reads ∙ rw (same, types-kept e k.vars typed.of_bank.types_of, term-reads) refl

        pub sigma-fits : AreTermsFor (map (type_at d) k.vars ++ map (type_at d) x.fresh) (map (type_at d) k.vars) (map (tree_at d) sigma)
        sigma-fits =
            let z = extends-trans e g in
            let good = given-good VS v.number TY (binding_at a x) is.stands (truth-last TY is.gives_truth) (record { type = fits.type; over = fits.over }) in
            rw (types-kept z k.vars typed.of_bank.types_of, types-kept z x.fresh binding.fresh_of, sigma-reads) good

        pub bound-step : (h : Contents) (s : StepRecord) (p : ℕ) → IsStep h s (instance_line p (clause_at d k) (map (type_at d) x.fresh) (map (tree_at d) sigma)) → IsStep h s (primitive_line p (clause_at a k) v.number TY (binding_at a x))
        bound-step h s p step =
            let z = extends-trans e g in
            subst (λ (ts : List Tree). IsStep h s (instance_line p (clause_at a k) (map (type_at a) x.fresh) ts)) sigma-reads
            (subst (λ (vs : List SimpleType). IsStep h s (instance_line p (clause_at a k) vs (map (tree_at d) sigma))) (types-kept z x.fresh binding.fresh_of)
            (subst (λ (c : ClauseTree). IsStep h s (instance_line p c (map (type_at d) x.fresh) (map (tree_at d) sigma))) (clause-kept z k typed.of_bank) step))

-- all bindings, one after the other
pub members-next : {a b d : Contents} (k : Clause) (v : Variable) (p : ℕ) (bs : List Bound) (i : ℕ) (x : Bound) (old middle new : List Due) → i < length bs → x ≡ slice_index_or bs i x
    → Adds a b old middle (map (primitive_member p (clause_at a k) v.number (type_at a v.ty)) (map (binding_at a) (take i bs)))
    → primitive_member p (clause_at b k) v.number (type_at b v.ty) (binding_at b x) ≡ primitive_member p (clause_at a k) v.number (type_at a v.ty) (binding_at a x)
    → Adds b d middle new (primitive_member p (clause_at b k) v.number (type_at b v.ty) (binding_at b x) ∷ [])
    → Adds a d old new (map (primitive_member p (clause_at a k) v.number (type_at a v.ty)) (map (binding_at a) (take (i + 1) bs)))
members-next {a} {b} {d} k v p bs i x old middle new l e h kept g =
    let make = primitive_member p (clause_at a k) v.number (type_at a v.ty) in
    let one = adds-as middle new _ (make (binding_at a x) ∷ []) g (ap (λ (m : Member). m ∷ []) kept) in
    let all : map make (map (binding_at a) (take (i + 1) bs)) ≡ map make (map (binding_at a) (take i bs)) ++ make (binding_at a x) ∷ [] = ap (map make) (map-next (binding_at a) bs i x l e) ∙ map-append make (map (binding_at a) (take i bs)) (binding_at a x ∷ []) in
    adds-as old new _ _ (adds-both old middle new _ _ h one) (sym all)

-- by the number of arguments
count-of : (c : Contents) (types : List ℕ) (all : List SimpleType) → AreTypes c types all → length all ≡ length types
count-of c types all h = ap length (sym h.reads) ∙ length-mapped (type_at c) types

pub by-many : (c : Contents) (k : ClauseTree) (p n ty count : ℕ) (types : List ℕ) → AreTypes c types (argument_types (type_at c ty)) → count ≡ length types → 8 < count → primitive_by p k n (type_at c ty) ≡ []
by-many c k p n ty count types h e l =
    let m = count-of c types (argument_types (type_at c ty)) h in
    let t : nat_le (length (argument_types (type_at c ty))) 8 ≡ false = over (length (argument_types (type_at c ty))) (omega arith) in
    rw t refl
  where
    over : (i : ℕ) → 8 < i → nat_le i 8 ≡ false
    over i g = grind (arith, nat_tests)

pub by-few : (c : Contents) (k : ClauseTree) (p n ty count : ℕ) (types : List ℕ) → AreTypes c types (argument_types (type_at c ty)) → count ≡ length types → count ≤ 8 → primitive_by p k n (type_at c ty) ≡ map (primitive_member p k n (type_at c ty)) (bindings (length k.variables) (argument_types (type_at c ty)))
by-few c k p n ty count types h e l =
    let m = count-of c types (argument_types (type_at c ty)) h in
    let t : nat_le (length (argument_types (type_at c ty))) 8 ≡ true = under (length (argument_types (type_at c ty))) (omega arith) in
    rw t refl
  where
    under : (i : ℕ) → i ≤ 8 → nat_le i 8 ≡ true
    under i g = grind (arith, nat_tests)

-- the bindings of a variable of a clause
module _ {a b : Contents} (e : Extends a b) (k : Clause) (of : IsClauseOf a k) (v : Variable) (is : IsHeadIn a k v) (types : List ℕ) (are : AreTypes a types (argument_types (type_at a v.ty))) (next : ℕ) (count : next ≡ length k.vars) (bs : List Bound) (made : AreBindings b bs (bindings next (map (type_at a) types))) where
  all-read : map (binding_at b) bs ≡ bindings (length (map (type_at a) k.vars)) (argument_types (type_at a v.ty))
  all-read =
      let n : next ≡ length (map (type_at a) k.vars) = count ∙ sym (length-mapped (type_at a) k.vars) in
      made.reads ∙ ap (λ (i : ℕ). bindings i (map (type_at a) types)) n ∙ ap (bindings (length (map (type_at a) k.vars))) are.reads

  pub all-fit : AreFitting (map (type_at b) k.vars) (argument_types (type_at b v.ty)) (map (binding_at b) bs)
  all-fit = rw (types-kept e k.vars of.types_of, type-kept e v.ty is.type_within, all-read) (bindings-fit (map (type_at a) k.vars) (argument_types (type_at a v.ty)))

  pub all-put : {d : Contents} (old new : List Due) (p size : ℕ) → size ≡ length types → size ≤ 8 → Adds b d old new (map (primitive_member p (clause_at b k) v.number (type_at b v.ty)) (map (binding_at b) bs)) → Adds b d old new (primitive_by p (clause_at a k) v.number (type_at a v.ty))
  all-put old new p size s l h =
      let x : map (primitive_member p (clause_at b k) v.number (type_at b v.ty)) (map (binding_at b) bs) ≡ map (primitive_member p (clause_at a k) v.number (type_at a v.ty)) (bindings (length (map (type_at a) k.vars)) (argument_types (type_at a v.ty))) = rw (clause-kept e k of, type-kept e v.ty is.type_within, all-read) refl in
      adds-as old new _ _ h (x ∙ sym (by-few a (clause_at a k) p v.number v.ty size types are s l))

-- whether a term is a variable
pub is-variable : (c : Contents) → IsBank c → (t n ty : ℕ) → t < length c.terms → HasView c t (Var n) → ty ≡ type_number c t → IsVariable c (tree_at c t) (record { number = n; ty = ty })
is-variable c b t n ty l h e = record { type_within = rw e (type_number-within b t l); reads = reads-var b t n h ∙ rw e refl }

pub no-variable : (t u : Tree) → t ≡ u → ((p : ℕ) (k : ClauseTree) → primitive_for p k u ≡ []) → IsNoVariable t
no-variable t u e h = record { no_member = λ p k. rw e (h p k) }

-- the head of a literal
module _ (c : Contents) (b : IsBank c) (k : Clause) (typed : IsTypedIn c k) (i : ℕ) (l : Lit) (at : slice_get k.lits i ≡ Some l) (below : l.left < length c.terms) where
  literal : IsTypedLiteral (map (type_at c) k.vars) (literal_at c l)
  literal = literal-typed c k i l typed at

  part : IsPart (map (type_at c) k.vars) (tree_at c l.left)
  part = record { typed = well-typed b l.left below; depth = 0; over = literal.left_over }

  pub head-in : (t : ℕ) (v : Variable) → tree_at c t ≡ head (tree_at c l.left) → is_formula (literal_at c l) ≡ true → IsVariable c (tree_at c t) v → IsHeadIn c k v
  head-in t v reads formula h =
      let r : head (tree_at c l.left) ≡ variable v.number (type_at c v.ty) = sym reads ∙ h.reads in
      let p : IsPart (map (type_at c) k.vars) (variable v.number (type_at c v.ty)) = subst (IsPart (map (type_at c) k.vars)) r (part-head (map (type_at c) k.vars) (tree_at c l.left) part) in
      let last : given_last (type_at c v.ty) ≡ truth_type =
      ap (λ (t : Tree). given_last (type_of t)) (sym r) ∙ head-last (tree_at c l.left) (well-typed b l.left below) ∙ ap given_last (literal.same_type ∙ formula-type (literal_at c l) formula) in
      record {
        type_within = h.type_within;
        stands = p.over;
        gives_truth = ap (arrows (argument_types (type_at c v.ty))) (sym last) ∙ arrows-arguments (type_at c v.ty);
      }

  pub at-other : (p : ℕ) → is_formula (literal_at c l) ≡ false → primitive_at p (clause_at c k) i (literal_at c l) ≡ []
  at-other p f = rw f refl

  pub at-none : (p t : ℕ) → tree_at c t ≡ head (tree_at c l.left) → is_formula (literal_at c l) ≡ true → IsNoVariable (tree_at c t) → primitive_at p (clause_at c k) i (literal_at c l) ≡ []
  at-none p t reads f h = rw (f, ← reads) (h.no_member p (clause_at c k))

  pub at-variable : (p t : ℕ) (v : Variable) → tree_at c t ≡ head (tree_at c l.left) → is_formula (literal_at c l) ≡ true → IsVariable c (tree_at c t) v → primitive_by p (clause_at c k) v.number (type_at c v.ty) ≡ primitive_at p (clause_at c k) i (literal_at c l)
  at-variable p t v reads f h = (let r : head (tree_at c l.left) ≡ variable v.number (type_at c v.ty) = sym reads ∙ h.reads in rw (f, r) refl)
