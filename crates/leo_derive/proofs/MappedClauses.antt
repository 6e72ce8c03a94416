-- Clauses that rules conclude, with other numbers for their symbols.
use Rattle.std.proofs.Common.{ℕ, zero, suc, ◌≡◌, Bool, true, false, List, [], ◌∷◌, ◌++◌, length, map, take, drop, refl, sym, ◌∙◌, ap, ap₂, subst}
use Rattle.std.specs.List.{list_any}
use Rattle.std.proofs.lemmas.List.{map-append, take-map, drop-map}
use Rattle.leo_q0.specs.Terms.{SimpleType}
use Rattle.leo_terms.specs.Tree.{Tree, variable, bound, symbol, app, lam, logic, absent, type_of}
use Rattle.leo_clause.specs.declared.record.Side.{Side}
use Rattle.leo_clause.specs.declared.record.Side.TheVariants.{Left, Right}
use Rattle.leo_clause.specs.declared.record.Half.{Half}
use Rattle.leo_clause.specs.declared.record.Half.TheVariants.{One, Two}
use Rattle.leo_clause.specs.declared.record.LogicKind.{LogicKind}
use Rattle.leo_clause.specs.Trees.{Literal, ClauseTree}
use Rattle.leo_clause.specs.Sameness.{same_tree, same_literal}
use Rattle.leo_clause.specs.Renaming.{substituted_literal}
use Rattle.leo_clause.proofs.Same.{same_tree-refl, equal-trees}
use Rattle.leo_kernel.specs.Shapes.{equal, unequal, valued, side_of, other_side_of, domain}
use Rattle.leo_kernel.specs.Places.{with_child, replaced_at, replaced_in, shifted, shifted_literal}
use Rattle.leo_kernel.specs.Rows.{TakesApart, not_v, or_t, or_f1, or_f2, and_t1, and_t2, and_f, imp_t, imp_f1, imp_f2, eq_t, eq_f, flip, all_t, some_f}
use Rattle.leo_kernel.specs.Choosing.{Claim, value, difference, claimed}
use Rattle.leo_kernel.specs.Conclusions.{with_literals, without, with_new, assumed, IsConverted, AreConverted, paramodulant, AreAmong, NeverHolds, self_unequal, true_is_false, false_is_true, bool_case, func_ext_positive, unequal_if_present, Decomposes, applications, constants, factored}
use Rattle.leo_derive.specs.Renaming.{symbols_mapped, literal_mapped, clause_mapped}
use Rattle.leo_derive.proofs.MappedTerms.{mapped-type, mapped-normal, mapped-substituted, mapped-equal}
use Rattle.leo_derive.proofs.MappedLines.{side-mapped, other_side-mapped}
use Rattle.leo_derive.proofs.MappedSymbols.{claim_mapped}

pub valued-mapped : (r : ℕ → ℕ) (a : Tree) (v : Bool) → literal_mapped r (valued a v) ≡ valued (symbols_mapped r a) v
valued-mapped r a true = refl
valued-mapped r a false = refl

pub assumed-mapped : (r : ℕ → ℕ) (t : Tree) → clause_mapped r (assumed t) ≡ assumed (symbols_mapped r t)
assumed-mapped r t = refl

pub claimed-mapped : (r : ℕ → ℕ) (k : Claim) (w : Tree) → literal_mapped r (claimed k w) ≡ claimed (claim_mapped r k) (symbols_mapped r w)
claimed-mapped r (value c p v) w = valued-mapped r (app p w) v
claimed-mapped r (difference c f g) w = refl

-- ---- literals in the place of one

pub with_literals-mapped : (r : ℕ → ℕ) (ls : List Literal) (i : ℕ) (new : List Literal) → map (literal_mapped r) (with_literals ls i new) ≡ with_literals (map (literal_mapped r) ls) i (map (literal_mapped r) new)
with_literals-mapped r ls i new =
    map-append (literal_mapped r) (take i ls) (new ++ drop (suc i) ls)
    ∙ ap₂ (λ front rest. front ++ rest) (sym (take-map (literal_mapped r) i ls))
    (map-append (literal_mapped r) new (drop (suc i) ls) ∙ ap (λ rest. map (literal_mapped r) new ++ rest) (sym (drop-map (literal_mapped r) (suc i) ls)))

clause : List SimpleType → List Literal → ClauseTree
clause variables literals = record { variables = variables; literals = literals }

pub with_new-mapped : (r : ℕ → ℕ) (c : ClauseTree) (i : ℕ) (fresh : List SimpleType) (new : List Literal) → clause_mapped r (with_new c i fresh new) ≡ with_new (clause_mapped r c) i fresh (map (literal_mapped r) new)
unfolding clause
with_new-mapped r c i fresh new = ap (clause (c.variables ++ fresh)) (with_literals-mapped r c.literals i new)

pub factored-mapped : (r : ℕ → ℕ) (c : ClauseTree) (j : ℕ) (l k : Literal) → clause_mapped r (factored c j l k) ≡ factored (clause_mapped r c) j (literal_mapped r l) (literal_mapped r k)
unfolding clause
factored-mapped r c j l k =
    ap (clause c.variables) (map-append (literal_mapped r) (with_literals c.literals j []) (unequal l.left k.left ∷ unequal l.right k.right ∷ [])
    ∙ ap (λ ls. ls ++ map (literal_mapped r) (unequal l.left k.left ∷ unequal l.right k.right ∷ [])) (with_literals-mapped r c.literals j []))

-- `f X = g X` for a fresh variable of this type
applied_to_fresh : ClauseTree → ℕ → Literal → SimpleType → ClauseTree
applied_to_fresh c i l a = with_new c i (a ∷ []) (equal (app l.left (variable (length c.variables) a)) (app l.right (variable (length c.variables) a)) ∷ [])

pub func_ext-mapped : (r : ℕ → ℕ) (c : ClauseTree) (i : ℕ) (l : Literal) → clause_mapped r (func_ext_positive c i l) ≡ func_ext_positive (clause_mapped r c) i (literal_mapped r l)
unfolding applied_to_fresh
func_ext-mapped r c i l =
    let a = domain (type_of l.left) in
    let x = variable (length c.variables) a in
    with_new-mapped r c i (a ∷ []) (equal (app l.left x) (app l.right x) ∷ [])
    ∙ ap (λ b. applied_to_fresh (clause_mapped r c) i (literal_mapped r l) (domain b)) (sym (mapped-type r l.left))

-- ---- conversion

converted-mapped : (r : ℕ → ℕ) (l k : Literal) → IsConverted l k → IsConverted (literal_mapped r l) (literal_mapped r k)
converted-mapped r l k h = record {
  polarity = h.polarity;
  left_form = sym (mapped-normal r k.left) ∙ (ap (symbols_mapped r) h.left_form ∙ mapped-normal r l.left);
  right_form = sym (mapped-normal r k.right) ∙ (ap (symbols_mapped r) h.right_form ∙ mapped-normal r l.right);
}

pub all_converted-mapped : (r : ℕ → ℕ) (ls ks : List Literal) → AreConverted ls ks → AreConverted (map (literal_mapped r) ls) (map (literal_mapped r) ks)
all_converted-mapped r [] [] h = h
all_converted-mapped r [] (k ∷ ks) h = h
all_converted-mapped r (l ∷ ls) [] h = h
all_converted-mapped r (l ∷ ls) (k ∷ ks) h = (converted-mapped r l k h.0, all_converted-mapped r ls ks h.1)

-- ---- terms for variables

pub instance-mapped : (r : ℕ → ℕ) (sigma : List Tree) (ls : List Literal) → map (literal_mapped r) (map (substituted_literal sigma) ls) ≡ map (substituted_literal (map (symbols_mapped r) sigma)) (map (literal_mapped r) ls)
instance-mapped r sigma [] = refl
instance-mapped r sigma (l ∷ ls) = ap₂ (λ k ks. k ∷ ks) (rw (mapped-substituted r sigma 0 l.left, mapped-substituted r sigma 0 l.right) refl) (instance-mapped r sigma ls)

-- ---- paramodulation

shifted-mapped : (r : ℕ → ℕ) (n : ℕ) (t : Tree) → symbols_mapped r (shifted n t) ≡ shifted n (symbols_mapped r t)
shifted-mapped r n (variable m a) = refl
shifted-mapped r n (bound i a) = refl
shifted-mapped r n (symbol m a) = refl
shifted-mapped r n (app f x) = rw (shifted-mapped r n f, shifted-mapped r n x) refl
shifted-mapped r n (lam a t) = ap (lam a) (shifted-mapped r n t)
shifted-mapped r n (logic c x y) = rw (shifted-mapped r n x, shifted-mapped r n y) refl
shifted-mapped r n absent = refl

shifted_literal-mapped : (r : ℕ → ℕ) (n : ℕ) (l : Literal) → literal_mapped r (shifted_literal n l) ≡ shifted_literal n (literal_mapped r l)
shifted_literal-mapped r n l = rw (shifted-mapped r n l.left, shifted-mapped r n l.right) refl

all_shifted-mapped : (r : ℕ → ℕ) (n : ℕ) (ls : List Literal) → map (literal_mapped r) (map (shifted_literal n) ls) ≡ map (shifted_literal n) (map (literal_mapped r) ls)
all_shifted-mapped r n [] = refl
all_shifted-mapped r n (l ∷ ls) = ap₂ (λ k ks. k ∷ ks) (shifted_literal-mapped r n l) (all_shifted-mapped r n ls)

with_child-mapped : (r : ℕ → ℕ) (n : ℕ) (change other : Tree → Tree) → ((t : Tree) → symbols_mapped r (change t) ≡ other (symbols_mapped r t)) → (t : Tree) → symbols_mapped r (with_child n change t) ≡ with_child n other (symbols_mapped r t)
with_child-mapped r zero change other k (app f x) = ap (λ (g : Tree). app g (symbols_mapped r x)) (k f)
with_child-mapped r (suc zero) change other k (app f x) = ap (app (symbols_mapped r f)) (k x)
with_child-mapped r (suc (suc n)) change other k (app f x) = refl
with_child-mapped r zero change other k (logic c x y) = ap (λ (z : Tree). logic c z (symbols_mapped r y)) (k x)
with_child-mapped r (suc zero) change other k (logic c x y) = ap (logic c (symbols_mapped r x)) (k y)
with_child-mapped r (suc (suc n)) change other k (logic c x y) = refl
with_child-mapped r n change other k (variable m a) = refl
with_child-mapped r n change other k (bound i a) = refl
with_child-mapped r n change other k (symbol m a) = refl
with_child-mapped r n change other k (lam a t) = refl
with_child-mapped r n change other k absent = refl

replaced-mapped : (r : ℕ → ℕ) (path : List ℕ) (new t : Tree) → symbols_mapped r (replaced_at path new t) ≡ replaced_at path (symbols_mapped r new) (symbols_mapped r t)
replaced-mapped r [] new t = refl
replaced-mapped r (n ∷ path) new t = with_child-mapped r n (replaced_at path new) (replaced_at path (symbols_mapped r new)) (replaced-mapped r path new) t

replaced_in-mapped : (r : ℕ → ℕ) (s : Side) (path : List ℕ) (new : Tree) (l : Literal) → literal_mapped r (replaced_in s path new l) ≡ replaced_in s path (symbols_mapped r new) (literal_mapped r l)
replaced_in-mapped r Left path new l = rw (replaced-mapped r path new l.left) refl
replaced_in-mapped r Right path new l = rw (replaced-mapped r path new l.right) refl

pub paramodulant-mapped : (r : ℕ → ℕ) (source : ClauseTree) (i : ℕ) (l : Literal) (s : Side) (target : ClauseTree) (j : ℕ) (k : Literal) (side : Side) (path : List ℕ) (t : Tree) →
    clause_mapped r (paramodulant source i l s target j k side path t) ≡ paramodulant (clause_mapped r source) i (literal_mapped r l) s (clause_mapped r target) j (literal_mapped r k) side path (symbols_mapped r t)
unfolding clause
paramodulant-mapped r source i l s target j k side path t =
    let n = length source.variables in
    let m = literal_mapped r in
    let replaced = replaced_in side path (other_side_of s l) (shifted_literal n k) in
    let front = without source.literals i in
    let middle = with_literals (map (shifted_literal n) target.literals) j (replaced ∷ []) in
    let last = unequal (side_of s l) (shifted n t) ∷ [] in
    let replaced_is = replaced_in-mapped r side path (other_side_of s l) (shifted_literal n k) ∙ ap₂ (λ u v. replaced_in side path u v) (sym (other_side-mapped r s l)) (shifted_literal-mapped r n k) in
    let middle_is = with_literals-mapped r (map (shifted_literal n) target.literals) j (replaced ∷ []) ∙ ap₂ (λ ls x. with_literals ls j (x ∷ [])) (all_shifted-mapped r n target.literals) replaced_is in
    let last_is = ap₂ (λ u v. unequal u v ∷ []) (sym (side-mapped r s l)) (shifted-mapped r n t) in
    ap (clause (source.variables ++ target.variables))
    (map-append m front (middle ++ last)
    ∙ ap₂ (λ ls ks. ls ++ ks) (with_literals-mapped r source.literals i []) (map-append m middle last ∙ ap₂ (λ ls ks. ls ++ ks) middle_is last_is))

-- ---- sameness

same-answer : (a b : Bool) → (a ≡ true → b ≡ true) → (b ≡ true → a ≡ true) → a ≡ b
same-answer true b f g = sym (f refl)
same-answer false true f g = g refl
same-answer false false f g = refl

module _ (r q : ℕ → ℕ) (there : (n : ℕ) → q (r n) ≡ n) where
  same_tree-mapped : (s t : Tree) → same_tree (symbols_mapped r s) (symbols_mapped r t) ≡ same_tree s t
  same_tree-mapped s t = same-answer _ _
      (λ e. subst (λ (u : Tree). same_tree s u ≡ true) (mapped-equal r q there s t (equal-trees (symbols_mapped r s) (symbols_mapped r t) e)) (same_tree-refl s))
      (λ e. subst (λ (u : Tree). same_tree (symbols_mapped r s) (symbols_mapped r u) ≡ true) (equal-trees s t e) (same_tree-refl (symbols_mapped r s)))

  same_literal-mapped : (l k : Literal) → same_literal (literal_mapped r l) (literal_mapped r k) ≡ same_literal l k
  same_literal-mapped l k = rw (same_tree-mapped l.left k.left, same_tree-mapped l.right k.right, same_tree-mapped l.left k.right, same_tree-mapped l.right k.left) refl

  any_same-mapped : (l : Literal) (ks : List Literal) → list_any (same_literal (literal_mapped r l)) (map (literal_mapped r) ks) ≡ list_any (same_literal l) ks
  any_same-mapped l [] = refl
  any_same-mapped l (k ∷ ks) = rw (same_literal-mapped l k, any_same-mapped l ks) refl

  pub among-mapped : (ls ks : List Literal) → AreAmong ls ks → AreAmong (map (literal_mapped r) ls) (map (literal_mapped r) ks)
  among-mapped [] ks h = h
  among-mapped (l ∷ ls) ks h = (any_same-mapped l ks ∙ h.0, among-mapped ls ks h.1)

-- ---- the rules that take a literal apart

pub never-mapped : (r : ℕ → ℕ) (l : Literal) → NeverHolds l → NeverHolds (literal_mapped r l)
never-mapped r _ (self_unequal s) = self_unequal (symbols_mapped r s)
never-mapped r _ true_is_false = true_is_false
never-mapped r _ false_is_true = false_is_true

pub bool_case-mapped : (r : ℕ → ℕ) (half : Half) (v : Bool) (a b : Tree) → map (literal_mapped r) (bool_case half v a b) ≡ bool_case half v (symbols_mapped r a) (symbols_mapped r b)
bool_case-mapped r One true a b = refl
bool_case-mapped r One false a b = refl
bool_case-mapped r Two true a b = refl
bool_case-mapped r Two false a b = refl

unequal-mapped : (r : ℕ → ℕ) (x t : Tree) → map (literal_mapped r) (unequal_if_present x t) ≡ unequal_if_present (symbols_mapped r x) (symbols_mapped r t)
unequal-mapped r (variable n a) t = refl
unequal-mapped r (bound i a) t = refl
unequal-mapped r (symbol n a) t = refl
unequal-mapped r (app f x) t = refl
unequal-mapped r (lam a s) t = refl
unequal-mapped r (logic c x y) t = refl
unequal-mapped r absent t = refl

pub decomposes-mapped : (r : ℕ → ℕ) (l : Literal) (new : List Literal) → Decomposes l new → Decomposes (literal_mapped r l) (map (literal_mapped r) new)
decomposes-mapped r _ _ (applications f g x y) = applications (symbols_mapped r f) (symbols_mapped r g) (symbols_mapped r x) (symbols_mapped r y)
decomposes-mapped r _ _ (constants c x y z w) =
    let e = map-append (literal_mapped r) (unequal_if_present x z) (unequal_if_present y w) ∙ ap₂ (λ ls ks. ls ++ ks) (unequal-mapped r x z) (unequal-mapped r y w) in
    subst (λ (ls : List Literal). Decomposes (literal_mapped r (unequal (logic c x y) (logic c z w))) ls) (sym e) (constants c (symbols_mapped r x) (symbols_mapped r y) (symbols_mapped r z) (symbols_mapped r w))

pub taken-mapped : (r : ℕ → ℕ) (next : ℕ) (k : LogicKind) (l : Literal) (fresh : List SimpleType) (new : List Literal) → TakesApart next k l fresh new → TakesApart next k (literal_mapped r l) fresh (map (literal_mapped r) new)
taken-mapped r next _ _ _ _ (not_v a true) = not_v (symbols_mapped r a) true
taken-mapped r next _ _ _ _ (not_v a false) = not_v (symbols_mapped r a) false
taken-mapped r next _ _ _ _ (or_t a b) = or_t (symbols_mapped r a) (symbols_mapped r b)
taken-mapped r next _ _ _ _ (or_f1 a b) = or_f1 (symbols_mapped r a) (symbols_mapped r b)
taken-mapped r next _ _ _ _ (or_f2 a b) = or_f2 (symbols_mapped r a) (symbols_mapped r b)
taken-mapped r next _ _ _ _ (and_t1 a b) = and_t1 (symbols_mapped r a) (symbols_mapped r b)
taken-mapped r next _ _ _ _ (and_t2 a b) = and_t2 (symbols_mapped r a) (symbols_mapped r b)
taken-mapped r next _ _ _ _ (and_f a b) = and_f (symbols_mapped r a) (symbols_mapped r b)
taken-mapped r next _ _ _ _ (imp_t a b) = imp_t (symbols_mapped r a) (symbols_mapped r b)
taken-mapped r next _ _ _ _ (imp_f1 a b) = imp_f1 (symbols_mapped r a) (symbols_mapped r b)
taken-mapped r next _ _ _ _ (imp_f2 a b) = imp_f2 (symbols_mapped r a) (symbols_mapped r b)
taken-mapped r next _ _ _ _ (eq_t c s t) = eq_t c (symbols_mapped r s) (symbols_mapped r t)
taken-mapped r next _ _ _ _ (eq_f c s t) = eq_f c (symbols_mapped r s) (symbols_mapped r t)
taken-mapped r next _ _ _ _ (flip a true) = flip (symbols_mapped r a) true
taken-mapped r next _ _ _ _ (flip a false) = flip (symbols_mapped r a) false
taken-mapped r next _ _ _ _ (all_t c p) = all_t c (symbols_mapped r p)
taken-mapped r next _ _ _ _ (some_f c p) = some_f c (symbols_mapped r p)
