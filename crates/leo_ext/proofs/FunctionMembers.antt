-- The members of equations of functions, in banks that grow.
use Rattle.std.proofs.Common.{ℕ, zero, suc, ◌≡◌, ◌∙◌, ◌<◌, ◌≤◌, ◌+◌, true, false, List, [], ◌∷◌, ◌++◌, length, map, take, drop, slice_get, slice_index_or, Option, Some, None, refl, sym, ap, subst, append_assoc, append-nil, arith}
use Rattle.std.proofs.lemmas.List.{map-append}
use Rattle.leo_q0.specs.Terms.{SimpleType, base, arrow}
use Rattle.leo_terms.specs.declared.node.TyView.TheVariants.{Base, Arrow as ArrowOf}
use Rattle.leo_terms.specs.Contents.{Contents, IsBank, Extends, IsTerm, IsApplicable, tree_at, type_at, type_number}
use Rattle.leo_terms.specs.Tree.{variable, app, type_of}
use Rattle.leo_terms.proofs.CallerLemmas.{applicable, extends-itself, extends-trans, reads-arrow, reads-base, term-kept, tree-kept, type-kept, arrow-kept, type_of-term}
use Rattle.leo_clause.specs.Choices.{Choice, choice_at}
use Rattle.leo_clause.specs.declared.clause.Clause.{Clause}
use Rattle.leo_clause.specs.declared.clause.Lit.{Lit}
use Rattle.leo_clause.specs.declared.record.Rule.TheVariants as record_of
use Rattle.leo_clause.specs.declared.record.StepRecord.{StepRecord}
use Rattle.leo_clause.specs.Trees.{Literal, ClauseTree, clause_at, literal_at}
use Rattle.leo_clause.specs.Typed.{IsClauseOf, IsTypedIn, IsTypedLiteral}
use Rattle.leo_kernel.specs.Choosing.{difference_in}
use Rattle.leo_kernel.specs.Conclusions.{func_ext_positive, with_new}
use Rattle.leo_kernel.specs.Shapes.{equal, domain, literal_type}
use Rattle.leo_kernel.specs.Steps.{Line, func_ext}
use Rattle.leo_kernel.proofs.ChosenMaking.{difference-of}
use Rattle.leo_kernel.proofs.Growing.{clause-grow, clause-kept}
use Rattle.leo_clausify.proofs.Branching.{get-map}
use Rattle.leo_clausify.proofs.Picks.{items-kept}
use Rattle.leo_clausify.proofs.Placing.{typed-at}
use Rattle.leo_clausify.proofs.Reduced.{order-grow}
use Rattle.leo_clausify.specs.Choosing.{AreInOrder}
use Rattle.leo_clausify.specs.Literals.{IsLiteral}
use Rattle.leo_para.specs.declared.member.Due.{Due}
use Rattle.leo_ext.specs.declared.func_ext.Arrow.{Arrow}
use Rattle.leo_ext.specs.declared.func_ext.Difference.{Difference}
use Rattle.leo_ext.specs.declared.func_ext.Extended.{Extended}
use Rattle.leo_ext.specs.Functions.{AreExtended, AreExtendedOf, AreFunctions, IsDifferentAt, IsEqualAt, IsExtendedBy, IsPickedFor, extended_line, extended_member}
use Rattle.leo_ext.specs.Listing.{Adds}
use Rattle.leo_ext.specs.Members.{Member, alone, is_arrow, func_ext_line}
use Rattle.leo_ext.specs.Unary.{FuncExts, done, other, equal_functions, different_functions, difference_line}
use Rattle.leo_ext.proofs.Adding.{adds-step, literal-same, stands-at}
use Rattle.leo_ext.proofs.Loops.{length-mapped}
use Rattle.leo_ext.proofs.Placed.{placed-of, placed-reads}

-- functions, or other things
pub are-functions : (c : Contents) → IsBank c → (l : Lit) (m i j : ℕ) → l.left < length c.terms → l.right < length c.terms → m ≡ type_number c l.left → slice_get c.types m ≡ Some (ArrowOf i j) → type_of (tree_at c l.left) ≡ type_of (tree_at c l.right) → AreFunctions c l (record { from = i; to = j })
are-functions c b l m i j p q e f g =
    let both = difference-of c b l.left l.right m i j p q e f g in
    let t : literal_type (literal_at c l) ≡ arrow (type_at c i) (type_at c j) = type_of-term b l.left p ∙ reads-arrow b both.0.typed in
    record { arrow = rw t refl; from = rw t refl; first = both.0; second = both.1 }

pub no-functions : (c : Contents) → IsBank c → (l : Lit) (m n : ℕ) → l.left < length c.terms → m ≡ type_number c l.left → slice_get c.types m ≡ Some (Base n) → is_arrow (literal_type (literal_at c l)) ≡ false
no-functions c b l m n p e f =
    let t : literal_type (literal_at c l) ≡ base n = type_of-term b l.left p ∙ ap (type_at c) (sym e) ∙ reads-base b m n f in
    rw t refl

-- `f x = g x`
module _ {a b : Contents} (f : Extends a b) (l : Lit) (w : Arrow) (functions : AreFunctions a l w) (n x : ℕ) (made : IsTerm b x w.from (variable n (type_at a w.from))) where
  left-term : {c : Contents} → Extends a c → IsTerm c l.left (type_number a l.left) (tree_at a l.left)
  left-term e = term-kept e (record { within = functions.first.within; type_is = refl; reads = refl })

  right-term : {c : Contents} → Extends a c → IsTerm c l.right (type_number a l.right) (tree_at a l.right)
  right-term e = term-kept e (record { within = functions.second.within; type_is = refl; reads = refl })

  pub left-applies : IsApplicable b l.left x
  left-applies = (applicable (left-term f) made (arrow-kept f functions.first.typed)).0

  pub right-applies : {c : Contents} → Extends b c → IsApplicable c l.right x
  right-applies g = (applicable (right-term (extends-trans f g)) (term-kept g made) (arrow-kept (extends-trans f g) functions.second.typed)).0

  pub equal-made : {c d : Contents} → Extends b c → Extends c d → (s t i j : ℕ) → IsTerm c s i (app (tree_at b l.left) (tree_at b x)) → IsTerm d t j (app (tree_at c l.right) (tree_at c x)) → IsLiteral d (record { pos = true; left = s; right = t }) (equal (app (tree_at a l.left) (variable n (type_at a w.from))) (app (tree_at a l.right) (variable n (type_at a w.from))))
  equal-made {c} {d} g h s t i j m k =
      let first : tree_at d s ≡ app (tree_at a l.left) (variable n (type_at a w.from)) = (term-kept h m).reads ∙ rw (tree-kept f l.left functions.first.within, made.reads) refl in
      let second : tree_at d t ≡ app (tree_at a l.right) (variable n (type_at a w.from)) = k.reads ∙ rw (tree-kept (extends-trans f g) l.right functions.second.within, tree-kept g x made.within, made.reads) refl in
      record { left_within = (term-kept h m).within; right_within = k.within; reads = rw (first, second) refl }

-- the clause for `f = g`
abbrev with_equal : ClauseTree → ℕ → SimpleType → Literal → ClauseTree
with_equal x at t y = with_new x at (t ∷ []) (y ∷ [])

abbrev equal_values : Contents → Lit → ℕ → SimpleType → Literal
equal_values a l m t = equal (app (tree_at a l.left) (variable m t)) (app (tree_at a l.right) (variable m t))

equal-reads : {a d : Contents} → Extends a d → (k q : Clause) (at fresh : ℕ) (l new : Lit) (w : Arrow) → IsClauseOf a k → AreFunctions a l w → fresh ≡ length k.vars → literal_at d new ≡ equal_values a l fresh (type_at a w.from) → clause_at d q ≡ with_equal (clause_at d k) at (type_at d w.from) (literal_at d new) → clause_at d q ≡ func_ext_positive (clause_at a k) at (literal_at a l)
equal-reads {a} {d} e k q at fresh l new w of functions count reads placed =
    let z : fresh ≡ length (clause_at a k).variables = count ∙ sym (length-mapped (type_at a) k.vars) in
    placed
    ∙ ap (λ (x : ClauseTree). with_equal x at (type_at d w.from) (literal_at d new)) (clause-kept e k of)
    ∙ ap (λ (t : SimpleType). with_equal (clause_at a k) at t (literal_at d new)) (type-kept e w.from functions.first.from_within)
    ∙ ap (λ (y : Literal). with_equal (clause_at a k) at (type_at a w.from) y) reads
    ∙ ap (λ (t : SimpleType). with_equal (clause_at a k) at t (equal_values a l fresh t)) (sym functions.from)
    ∙ ap (λ (m : ℕ). with_equal (clause_at a k) at (domain (literal_type (literal_at a l))) (equal_values a l m (domain (literal_type (literal_at a l))))) z

same-line : (x y : ClauseTree) (p n m : ℕ) (o : Option ℕ) → x ≡ y → n ≡ m → (let s : Line = record { clause = x; rule = func_ext p n o } in s) ≡ record { clause = y; rule = func_ext p m o }
same-line x y p n m o e f = rw (e, f) refl

pub equal-clause : {a d : Contents} → Extends a d → (k q : Clause) (at n fresh : ℕ) (l new : Lit) (w : Arrow) → IsClauseOf a k → AreFunctions a l w → n ≡ at → fresh ≡ length k.vars → IsLiteral d new (equal (app (tree_at a l.left) (variable fresh (type_at a w.from))) (app (tree_at a l.right) (variable fresh (type_at a w.from)))) → q.vars ≡ k.vars ++ w.from ∷ [] → q.lits ≡ take at k.lits ++ ((new ∷ []) ++ drop (at + 1) k.lits) → IsEqualAt a d k at l (record { at = n; clause = q; abbr = None })
equal-clause {a} {d} e k q at n fresh l new w of functions same count made vars lits = record {
  of_bank = placed-of d k q at (w.from ∷ []) (new ∷ []) vars lits (clause-grow e k of) (let m = e.types_more in let i = functions.first.from_within in (omega arith, tt)) (made.left_within, made.right_within, tt);
  reads = λ p. same-line (clause_at d q) (func_ext_positive (clause_at a k) at (literal_at a l)) p n at None (equal-reads e k q at fresh l new w of functions count made.reads (placed-reads d k q at (w.from ∷ []) (new ∷ []) vars lits)) same;
}

-- the clause for `f ≠ g`
pub different-clause : {a d : Contents} → Extends a d → (before after : List (ℕ × ℕ)) (k q : Clause) (at n : ℕ) (l : Lit) (p : Difference) → IsClauseOf a k → IsPickedFor a d before after (map (type_at a) k.vars) (difference_in (literal_at a l)) p → n ≡ at → q.vars ≡ k.vars ++ [] → q.lits ≡ take at k.lits ++ ((p.new ∷ []) ++ drop (at + 1) k.lits) → IsDifferentAt a d before after k at l (record { at = n; clause = q; abbr = Some p.place })
different-clause {a} {d} e before after k q at n l p of picked same vars lits = record {
  of_bank = placed-of d k q at [] (p.new ∷ []) vars lits (clause-grow e k of) tt (picked.said.left_within, picked.said.right_within, tt);
  place = p.place;
  item = picked.item;
  chooses = picked.chooses;
  reads = λ r. same-line (clause_at d q) (difference_line r (clause_at a k) at (literal_at a l) p.place picked.item).clause r n at (Some p.place)
      (placed-reads d k q at [] (p.new ∷ []) vars lits
      ∙ ap (λ (x : ClauseTree). with_new x at [] (literal_at d p.new ∷ [])) (clause-kept e k of)
      ∙ ap (λ (y : Literal). with_new (clause_at a k) at [] (y ∷ [])) picked.said.reads)
      same;
  in_order = picked.in_order;
}

-- lists of such clauses
pub extended-grow : {c d : Contents} → Extends c d → (es : List Extended) → AreExtendedOf c es → AreExtendedOf d es
extended-grow e [] h = tt
extended-grow e (x ∷ es) h = (clause-grow e x.clause h.0, extended-grow e es h.1)

pub extended-kept : {c d : Contents} → Extends c d → (p : ℕ) (es : List Extended) → AreExtendedOf c es → map (extended_member d p) es ≡ map (extended_member c p) es
extended-kept e p [] h = refl
extended-kept e p (x ∷ es) h = rw (clause-kept e x.clause h.0, extended-kept e p es h.1) refl

extended-end : (c : Contents) (es : List Extended) (x : Extended) → AreExtendedOf c es → IsClauseOf c x.clause → AreExtendedOf c (es ++ x ∷ [])
extended-end c [] x h g = (g, tt)
extended-end c (y ∷ es) x h g = (h.0, extended-end c es x h.1 g)

-- a literal whose sides are no functions
pub extended-other : (c : Contents) → IsBank c → (items : List (ℕ × ℕ)) (k : Clause) (at : ℕ) (l : Lit) (es : List Extended) → AreInOrder c items → is_arrow (literal_type (literal_at c l)) ≡ false → IsExtendedBy c c items items k at l es es
extended-other c b items k at l es order h = record {
  of_bank = λ g. g;
  in_order = order;
  goes_on = λ known p low later ls more of rest. (more, (other at (map (choice_at c) items) later (literal_at c l) ls more h rest, refl));
}

put-end : (c d : Contents) → Extends c d → (p : ℕ) (old new : List Extended) (x : Extended) (m : Member) (more : List Member) → new ≡ old ++ x ∷ [] → AreExtendedOf c old → extended_member d p x ≡ m → map (extended_member c p) old ++ (m ∷ more) ≡ map (extended_member d p) new ++ more
put-end c d e p old new x m more is of reads =
    sym (append_assoc (map (extended_member c p) old) (m ∷ []) more) ∙ ap (λ (zs : List Member). zs ++ more)
    (sym (ap (map (extended_member d p)) is ∙ map-append (extended_member d p) old (x ∷ []) ∙ rw (extended-kept e p old of, reads) refl))

-- `f = g`
pub extended-equal : {c d : Contents} → Extends c d → (items : List (ℕ × ℕ)) (k : Clause) (at : ℕ) (l : Lit) (x : Extended) (old new : List Extended) → AreInOrder c items → is_arrow (literal_type (literal_at c l)) ≡ true → l.pos ≡ true → IsEqualAt c d k at l x → new ≡ old ++ x ∷ [] → IsExtendedBy c d items items k at l old new
extended-equal {c} {d} e items k at l x old new order functions positive h is = record {
  of_bank = λ g. rw is (extended-end d old x (extended-grow e old g) h.of_bank);
  in_order = order-grow e items order;
  goes_on = λ known p low later ls more of rest. (
      let same : map (choice_at d) items ≡ map (choice_at c) items = items-kept e items order.of_bank in
      let r : FuncExts known p (clause_at c k) (suc at) (map (choice_at c) items) ls later more = rw same at rest in
      (alone (func_ext_line p (clause_at c k) at (literal_at c l)) ∷ more, (equal_functions at (map (choice_at c) items) later (literal_at c l) ls more functions positive r, put-end c d e p old new x _ more is of (ap alone (h.reads p))))
      );
}

-- `f ≠ g`
pub extended-different : {c d : Contents} → Extends c d → (before after : List (ℕ × ℕ)) (k : Clause) (at : ℕ) (l : Lit) (x : Extended) (old new : List Extended) → is_arrow (literal_type (literal_at c l)) ≡ true → l.pos ≡ false → IsDifferentAt c d before after k at l x → new ≡ old ++ x ∷ [] → IsExtendedBy c d before after k at l old new
extended-different {c} {d} e before after k at l x old new functions negative h is = record {
  of_bank = λ g. rw is (extended-end d old x (extended-grow e old g) h.of_bank);
  in_order = h.in_order;
  goes_on = λ known p low later ls more of rest. (
    alone (difference_line p (clause_at c k) at (literal_at c l) h.place h.item) ∷ more,
    (
      different_functions at (map (choice_at c) before) (map (choice_at d) after) later (literal_at c l) ls more h.place h.item functions negative (h.chooses known low) rest,
      put-end c d e p old new x _ more is of (ap alone (h.reads p)),
    ),
  );
}

-- the literals of a clause, one after the other
pub record ExtendsFirst (a b : Contents) (before after : List (ℕ × ℕ)) (k : Clause) (i : ℕ) (es : List Extended) : Type 0 where
  pub extends : Extends a b
  pub of_bank : AreExtendedOf b es
  pub in_order : AreInOrder b after
  pub goes_on : (known p : ℕ) → known ≤ length a.symbols → (later : List Choice) (more : List Member) → FuncExts known p (clause_at a k) i (map (choice_at b) after) (drop i (clause_at a k).literals) later more → FuncExts known p (clause_at a k) 0 (map (choice_at a) before) (clause_at a k).literals later (map (extended_member b p) es ++ more)

pub extends-none : (a : Contents) → IsBank a → (before : List (ℕ × ℕ)) (k : Clause) → AreInOrder a before → ExtendsFirst a a before before k 0 []
extends-none a b before k order = record { extends = extends-itself b; of_bank = tt; in_order = order; goes_on = λ known p low later more h. h }

drop-at : {X : Type 0} (xs : List X) (i : ℕ) (x : X) → slice_get xs i ≡ Some x → drop i xs ≡ x ∷ drop (suc i) xs
drop-at [] i x e = absurd (cc)
drop-at (y ∷ xs) zero x e = (let f : y ≡ x = cc in rw f refl)
drop-at (y ∷ xs) (suc i) x e = drop-at xs i x e

abbrev GoesOn : Contents → Contents → List (ℕ × ℕ) → List (ℕ × ℕ) → List Extended → List Extended → ℕ → ClauseTree → Literal → Type 0
GoesOn b c middle after es new i k l = (known p : ℕ) → known ≤ length b.symbols → (later : List Choice) (ls : List Literal) (more : List Member) → AreExtendedOf b es → FuncExts known p k (suc i) (map (choice_at c) after) ls later more →
    (rest : List Member) × (FuncExts known p k i (map (choice_at b) middle) (l ∷ ls) later rest × (map (extended_member b p) es ++ rest ≡ map (extended_member c p) new ++ more))

pub extends-next : {a b c : Contents} → Extends b c → (before middle after : List (ℕ × ℕ)) (k : Clause) → IsClauseOf a k → (i : ℕ) (l : Lit) (es new : List Extended) → ExtendsFirst a b before middle k i es → i < length k.lits → l ≡ slice_index_or k.lits i l → IsExtendedBy b c middle after k i l es new → ExtendsFirst a c before after k (i + 1) new
extends-next {a} {b} {c} e before middle after k of i l es new h lt is g =
    let clause : clause_at b k ≡ clause_at a k = clause-kept h.extends k of in
    let lit : literal_at b l ≡ literal_at a l = literal-same (λ (x : ClauseTree) (n : ℕ) (y : Literal). []) a k h.extends of i l lt is in
    let there : slice_get (clause_at a k).literals i ≡ Some (literal_at a l) = get-map (literal_at a) k.lits i l (stands-at k.lits i l lt is) in
    let q : i + 1 ≡ suc i = omega arith in
    record {
      extends = extends-trans h.extends e;
      of_bank = g.of_bank h.of_bank;
      in_order = g.in_order;
      goes_on = λ known p low later more rest. (
          let s = h.extends.symbols_more in
          let goes : GoesOn b c middle after es new i (clause_at a k) (literal_at a l) = subst (λ (x : ClauseTree). GoesOn b c middle after es new i x (literal_at a l)) clause (subst (λ (y : Literal). GoesOn b c middle after es new i (clause_at b k) y) lit g.goes_on) in
          let n = goes known p (omega arith) later (drop (suc i) (clause_at a k).literals) more h.of_bank (rw q at rest) in
          let t : FuncExts known p (clause_at a k) i (map (choice_at b) middle) (drop i (clause_at a k).literals) later n.0 = rw (drop-at (clause_at a k).literals i (literal_at a l) there) n.1.0 in
          rw (← n.1.1) (h.goes_on known p low later n.0 t)
          );
    }

pub extends-all : {a b : Contents} (before after : List (ℕ × ℕ)) (k : Clause) (i : ℕ) (es : List Extended) → length k.lits ≤ i → ExtendsFirst a b before after k i es → AreExtended a b before after k es
extends-all {a} {b} before after k i es l h = record {
  of_bank = h.of_bank;
  in_order = h.in_order;
  functions = λ known p low. (
      let z : drop i (clause_at a k).literals ≡ [] = drop-all (clause_at a k).literals i (let m = length-mapped (literal_at a) k.lits in omega arith) in
      let r = h.goes_on known p low (map (choice_at b) after) [] (rw z (done i (map (choice_at b) after))) in
      rw (append-nil (map (extended_member b p) es)) at r
      );
}
  where
    drop-all : {X : Type 0} (xs : List X) (j : ℕ) → length xs ≤ j → drop j xs ≡ []
    drop-all [] zero m = refl
    drop-all [] (suc j) m = refl
    drop-all (x ∷ xs) zero m = absurd (omega arith)
    drop-all (x ∷ xs) (suc j) m = drop-all xs j (omega arith)

-- the members
pub extended-added : (c : Contents) → IsBank c → (x : Extended) (q : Clause) → IsClauseOf c x.clause → (before : ℕ) (old after : List Due) (records : List StepRecord) → q ≡ x.clause → records ≡ record { clause = q; rule = record_of.FuncExt before x.at x.abbr } ∷ [] → after ≡ old ++ record { records = records; pairs = [] } ∷ [] → Adds c c old after (extended_member c before x ∷ [])
extended-added c b x q of before old after records e f is =
    let s : StepRecord = record { clause = x.clause; rule = record_of.FuncExt before x.at x.abbr } in
    let put : after ≡ old ++ record { records = s ∷ []; pairs = [] } ∷ [] = is ∙ rw (f, e) refl in
    adds-step (extends-itself b) old after s [] (extended_line c before x) put (record { step_of = record { clause_of = of; terms_of = tt }; reads = refl })

pub extended-at : (c : Contents) (es : List Extended) → AreExtendedOf c es → (i : ℕ) (x : Extended) → i < length es → x ≡ slice_index_or es i x → IsClauseOf c x.clause
extended-at c [] h i x l e = absurd (omega arith)
extended-at c (y ∷ es) h zero x l e = rw e h.0
extended-at c (y ∷ es) h (suc i) x l e = extended-at c es h.1 i x (omega arith) e

pub literal-typed : (c : Contents) (k : Clause) (at : ℕ) (l : Lit) → IsTypedIn c k → slice_get k.lits at ≡ Some l → IsTypedLiteral (map (type_at c) k.vars) (literal_at c l)
literal-typed c k at l h e = typed-at (map (type_at c) k.vars) (map (literal_at c) k.lits) at (literal_at c l) h.typed (get-map (literal_at c) k.lits at l e)
