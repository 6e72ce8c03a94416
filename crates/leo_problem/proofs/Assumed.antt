-- Hypotheses, over plain variables.
use Rattle.std.proofs.Common.{Bool, true, false, cond, ◌||◌, ℕ, zero, suc, ◌+◌, ◌≡◌, ◌≤◌, List, [], ◌∷◌, ◌++◌, length, map, filter, slice_get, drop, Option, Some, None, refl, ap, sym, ◌∙◌, append_assoc, codes, subst, arith}
use Rattle.std.specs.Option.{is_some}
use Rattle.std.specs.List.{cons_option}
use Rattle.std.specs.Str.{bytes_eq}
use Rattle.std.proofs.lemmas.List.{length-append}
use Rattle.leo_elab.specs.Typings.{Typing, AreDeclared}
use Rattle.leo_q0.specs.Terms.{Term, apply}
use Rattle.leo_q0.specs.Connectives.{not_term}
use Rattle.leo_terms.specs.Contents.{Contents, Extends, IsTerm, IsBank, tree_at}
use Rattle.leo_terms.specs.Decode.{decoded}
use Rattle.leo_terms.specs.Tree as tree
use Rattle.leo_terms.proofs.CallerLemmas.{tree-kept, type_number-kept, extends-itself, extends-trans}
use Rattle.leo_syntax.specs.declared.tree.Tree.{Tree}
use Rattle.leo_syntax.specs.declared.tree.Statement.{Statement}
use Rattle.leo_syntax.specs.declared.tree.Statement.TheVariants as statement
use Rattle.leo_elab.specs.Problem.{Declared}
use Rattle.leo_elab.specs.Table.{Table, AreNamesOf, declared_in}
use Rattle.leo_elab.specs.Standing.{IsClosedFormula}
use Rattle.leo_elab.proofs.Places.{declared-kept, map-last}
use Rattle.leo_elab.proofs.Declarations.{drop-here, drop-end, append-nothing}
use Rattle.leo_problem.specs.declared.gathered.Kept.{Kept}
use Rattle.leo_problem.specs.declared.loaded.Hyp.{Hyp}
use Rattle.leo_problem.specs.declared.roles.Role.{Role}
use Rattle.leo_problem.specs.declared.roles.Role.TheVariants as role
use Rattle.leo_problem.specs.declared.refusal.LoadRefusal.{LoadRefusal}
use Rattle.leo_problem.specs.declared.refusal.LoadRefusal.TheVariants.{Refused}
use Rattle.leo_problem.specs.declared.refusal.What.TheVariants as what
use Rattle.leo_problem.specs.Roles.{role_of, assumed}
use Rattle.leo_problem.specs.Theories.{unlisted, refused_role_or, unlisted_role, conjectured, is_conjecture, conjectures, has_conjecture, byte_of, is_formula, Hypothesis, AreHypotheses, no_more, no_formula, formula, OffendsInFormulas, here, behind_no_formula, behind_formula, typing_files, typings, typing_in, is_typing, HaveRoles, Answer, says, Says, theory}
use Rattle.leo_problem.specs.declared.loaded.Problem.{Problem}
use Rattle.leo_problem.specs.Loading.{hypothesis_in, theory_of, AreClosedFormulas}
use Rattle.leo_problem.specs.Steps.{RefusesSecond, AssumesTree, OffendsInTree, AssumesMore, OffendsThere, AreCountedUpTo, AreAssumedUpTo}

-- ---- closed formulas

pub closed-kept : {c d : Contents} {t : ℕ} → Extends c d → IsClosedFormula c t → IsClosedFormula d t
closed-kept {c} {d} {t} e h =
    let w = h.within in
    let more = e.terms_more in
    let k : tree_at d t ≡ tree_at c t = tree-kept e t w in
    record { within = omega arith; formula = type_number-kept e t w ∙ h.formula; closed = rw k h.closed }

pub all-closed-kept : {c d : Contents} (hs : List Hyp) → Extends c d → AreClosedFormulas c hs → AreClosedFormulas d hs
all-closed-kept [] e h = tt
all-closed-kept (x ∷ hs) e h = (closed-kept e h.0, all-closed-kept hs e h.1)

closed-last : {c : Contents} (hs : List Hyp) (x : Hyp) → AreClosedFormulas c hs → IsClosedFormula c x.term → AreClosedFormulas c (hs ++ x ∷ [])
closed-last [] x h k = (k, tt)
closed-last (y ∷ hs) x h k = (h.0, closed-last hs x h.1 k)

pub hypotheses-kept : {c d : Contents} (hs : List Hyp) → Extends c d → AreClosedFormulas c hs → map (hypothesis_in d) hs ≡ map (hypothesis_in c) hs
hypotheses-kept [] e h = refl
hypotheses-kept {c} {d} (x ∷ hs) e h =
    let k : tree_at d x.term ≡ tree_at c x.term = tree-kept e x.term h.0.within in
    rw (k, hypotheses-kept hs e h.1) refl

pub negated-closed : {c d : Contents} {t r : ℕ} → Extends c d → IsClosedFormula c t → IsTerm d r 0 (tree.logic tree.negation (tree_at c t) tree.absent) → IsClosedFormula d r
negated-closed e h m = record { within = m.within; formula = m.type_is; closed = rw (m.reads) (h.closed, tt) }

pub negated-means : (c : Contents) {d : Contents} (t : ℕ) {r : ℕ} → IsTerm d r 0 (tree.logic tree.negation (tree_at c t) tree.absent) → decoded 0 (tree_at d r) ≡ apply not_term (decoded 0 (tree_at c t))
negated-means c t m = rw (m.reads) refl

pub assumed-itself : (r : Role) (t : Term) → (r ≡ role.Conjecture → ⊥) → t ≡ assumed r t
assumed-itself role.Axiom t n = refl
assumed-itself role.Hypothesis t n = refl
assumed-itself role.Definition t n = refl
assumed-itself role.Assumption t n = refl
assumed-itself role.Lemma t n = refl
assumed-itself role.Theorem t n = refl
assumed-itself role.Corollary t n = refl
assumed-itself role.NegatedConjecture t n = refl
assumed-itself role.Conjecture t n = absurd (n refl)

-- ---- one statement

module _ {c d : Contents} {k : Declared} (one : Kept) (found : List Hyp) (e : Extends c d) (closed : AreClosedFormulas c found) where
  pub with-formula : {byte role_byte term : ℕ} {name word : List ℕ} {tree : Tree} {role : Role} {now : List Hyp} (next : Hyp)
      → one.statement ≡ statement.Formula byte name word role_byte tree → role_of word ≡ Some role → next ≡ record { term = term; file = one.file; name = name; role = role }
      → AssumesTree k role tree (decoded 0 (tree_at d term)) → now ≡ found ++ next ∷ [] → AssumesMore k one (map (hypothesis_in c) found) (map (hypothesis_in d) now)
  with-formula {name = name} {role = role} next s r n a q = record {
    more = hypothesis_in d next ∷ [];
    appended = rw q (map-last (hypothesis_in d) found next) ∙ ap (λ w. w ++ hypothesis_in d next ∷ []) (hypotheses-kept found e closed);
    assumes = λ ks later h. rw (n, a.assumes) (formula s r a.means h);
    passes = λ ks x o. behind_formula s a.means o;
  }

pub closed-with : {c d : Contents} (found : List Hyp) → Extends c d → AreClosedFormulas c found → {now : List Hyp} (next : Hyp) (term : ℕ) → next.term ≡ term → IsClosedFormula d term → now ≡ found ++ next ∷ [] → AreClosedFormulas d now
closed-with found e closed next term n h q = rw q (closed-last found next (all-closed-kept found e closed) (rw n h))

pub without-formula : (c : Contents) (k : Declared) (one : Kept) (found : List Hyp) → is_formula one.statement ≡ false → AssumesMore k one (map (hypothesis_in c) found) (map (hypothesis_in c) found)
without-formula c k one found f = record {
  more = [];
  appended = sym (append-nothing (map (hypothesis_in c) found));
  assumes = λ ks later h. no_formula f h;
  passes = λ ks r o. behind_no_formula f o;
}

pub offends-there : {k : Declared} (one : Kept) {byte role_byte : ℕ} {name word : List ℕ} {tree : Tree} {r : LoadRefusal} → one.statement ≡ statement.Formula byte name word role_byte tree
    → OffendsInTree k one.file tree r → OffendsThere k one r
offends-there one s o = record { offends = λ ks. rw (o.refusal) (here s o.offends) }

-- ---- roles

pub listed-head : (k : Kept) (ks : List Kept) → unlisted_role (k ∷ ks) ≡ None → unlisted k.statement ≡ None
listed-head k ks e = by (unlisted k.statement) refl e
  where
    by : (o : Option ℕ) → unlisted k.statement ≡ o → refused_role_or k.file o (unlisted_role ks) ≡ None → unlisted k.statement ≡ None
    by None f g = f
    by (Some byte) f g = absurd cc

pub listed-tail : (k : Kept) (ks : List Kept) → unlisted_role (k ∷ ks) ≡ None → unlisted_role ks ≡ None
listed-tail k ks e = by (unlisted k.statement) e
  where
    by : (o : Option ℕ) → refused_role_or k.file o (unlisted_role ks) ≡ None → unlisted_role ks ≡ None
    by None g = g
    by (Some byte) g = absurd cc

-- ---- all statements

pub assumed-start : {c : Contents} {n : Table} (ks : List Kept) (found : List Hyp) → IsBank c → AreNamesOf c n → unlisted_role ks ≡ None → found ≡ [] → AreAssumedUpTo c c n ks found 0
assumed-start {c} {n} ks found b names listed e = record {
  names = names;
  same = refl;
  grows = extends-itself b;
  closed = rw e tt;
  listed = listed;
  assumed = λ later h. rw e h;
  passed = λ r o. o;
}

module _ {b c : Contents} {n : Table} {ks : List Kept} {found : List Hyp} {place : ℕ} (h : AreAssumedUpTo b c n ks found place) (one : Kept) (at : slice_get ks place ≡ Some one) where
  here-is : drop place ks ≡ one ∷ drop (place + 1) ks
  here-is = drop-here ks place one at

  pub listed-there : unlisted one.statement ≡ None
  listed-there = listed-head one (drop (place + 1) ks) (rw here-is at h.listed)

  pub assumed-more : {e : Contents} {now : List Hyp} → Extends c e → AreClosedFormulas e now → AssumesMore (declared_in c n) one (map (hypothesis_in c) found) (map (hypothesis_in e) now)
      → AreAssumedUpTo b e n ks now (place + 1)
  assumed-more {e} {now} grows closed m =
      let k = declared-kept grows n h.names in
      record {
        names = k.1;
        same = k.0 ∙ h.same;
        grows = extends-trans h.grows grows;
        closed = closed;
        listed = listed-tail one (drop (place + 1) ks) (rw here-is at h.listed);
        assumed = λ later a. rw (m.appended, append_assoc) (h.assumed (m.more ++ later) (rw here-is ((rw (h.same) at m.assumes) (drop (place + 1) ks) later a)));
        passed = λ r o. h.passed r (rw here-is ((rw (h.same) at m.passes) (drop (place + 1) ks) r o));
      }

  pub offends-now : {r : LoadRefusal} → OffendsThere (declared_in c n) one r → OffendsInFormulas (declared_in b n) ks r
  offends-now {r} o = h.passed r (rw here-is ((rw (h.same) at o.offends) (drop (place + 1) ks)))

pub assumed-all : {b c : Contents} {n : Table} (ks : List Kept) {found : List Hyp} → AreAssumedUpTo b c n ks found (length ks) → AreHypotheses (declared_in b n) ks (map (hypothesis_in c) found)
assumed-all {b} {c} {n} ks {found} h =
    let a : AreHypotheses (declared_in b n) ks (map (hypothesis_in c) found ++ []) = h.assumed [] (rw (drop-end ks) no_more) in
    rw (append-nothing (map (hypothesis_in c) found)) at a

-- ---- conjectures

pub counted-start : (ks : List Kept) → AreCountedUpTo false ks 0
counted-start ks = record { front = []; whole = refl; count = refl; any = refl }

byte-is : (s : Statement) (byte : ℕ) → conjectured s ≡ Some byte → byte_of s ≡ byte
byte-is (statement.Formula b name word role_byte tree) byte e = by (bytes_eq word (codes "conjecture")) e
  where
    by : (t : Bool) → cond t (Some b) None ≡ Some byte → b ≡ byte
    by true q = cc
    by false q = absurd cc
byte-is (statement.Typing b name atom atom_byte ty) byte e = absurd cc
byte-is (statement.Include b file file_byte names) byte e = absurd cc

second-there : {A : Type 0} (front : List A) (x : A) (rest : List A) → length front ≡ 1 → slice_get (front ++ x ∷ rest) 1 ≡ Some x
second-there [] x rest e = absurd cc
second-there (y ∷ []) x rest e = refl
second-there (y ∷ z ∷ zs) x rest e = absurd (omega arith)

module _ {found : Bool} {ks : List Kept} {place : ℕ} (h : AreCountedUpTo found ks place) (one : Kept) (at : slice_get ks place ≡ Some one) where
  there-is : drop place ks ≡ one ∷ drop (place + 1) ks
  there-is = drop-here ks place one at

  pub counted-pass : conjectured one.statement ≡ None → AreCountedUpTo found ks (place + 1)
  counted-pass e =
      let f : is_conjecture one ≡ false = ap is_some e in
      let w : conjectures (drop place ks) ≡ conjectures (drop (place + 1) ks) = ap conjectures there-is ∙ rw f refl in
      let a : has_conjecture (drop place ks) ≡ has_conjecture (drop (place + 1) ks) = ap has_conjecture there-is ∙ rw f refl in
      record { front = h.front; whole = h.whole ∙ ap (λ x. h.front ++ x) w; count = h.count; any = h.any ∙ ap (λ x. found || x) a }

  pub counted-first : {byte : ℕ} → conjectured one.statement ≡ Some byte → found ≡ false → AreCountedUpTo true ks (place + 1)
  counted-first e n =
      let f : is_conjecture one ≡ true = ap is_some e in
      let w : conjectures (drop place ks) ≡ one ∷ conjectures (drop (place + 1) ks) = ap conjectures there-is ∙ rw f refl in
      let a : has_conjecture (drop place ks) ≡ true = ap has_conjecture there-is ∙ rw f refl in
      record {
        front = h.front ++ one ∷ [];
        whole = h.whole ∙ (ap (λ x. h.front ++ x) w ∙ sym (append_assoc h.front (one ∷ []) (conjectures (drop (place + 1) ks))));
        count = (let z : length h.front ≡ 0 = rw n at h.count in let l = length-append h.front (one ∷ []) in omega arith);
        any = h.any ∙ rw (n, a) refl;
      }

  pub counted-second : {byte : ℕ} → conjectured one.statement ≡ Some byte → found ≡ true → (r : LoadRefusal) → r ≡ Refused one.file byte what.Conjectures → RefusesSecond ks r
  counted-second {byte} e n r q =
      let f : is_conjecture one ≡ true = ap is_some e in
      let w : conjectures (drop place ks) ≡ one ∷ conjectures (drop (place + 1) ks) = ap conjectures there-is ∙ rw f refl in
      let z : length h.front ≡ 1 = rw n at h.count in
      record { second = one; stands = rw (h.whole, w) (second-there h.front one (conjectures (drop (place + 1) ks)) z); refusal = q ∙ rw (byte-is one.statement byte e) refl }

or-nothing : (b : Bool) → (b || false) ≡ b
or-nothing true = refl
or-nothing false = refl

one-at-most : (b : Bool) (n : ℕ) → n ≡ cond b 1 0 → n ≤ 1
one-at-most true n e = omega arith
one-at-most false n e = omega arith

pub counted-one : {found : Bool} (ks : List Kept) → AreCountedUpTo found ks (length ks) → length (conjectures ks) ≤ 1
counted-one {found} ks h =
    let e : conjectures ks ≡ h.front = h.whole ∙ (ap (λ x. h.front ++ conjectures x) (drop-end ks) ∙ append-nothing h.front) in
    one-at-most found (length (conjectures ks)) (ap length e ∙ h.count)

pub counted-any : {found : Bool} (ks : List Kept) → AreCountedUpTo found ks (length ks) → found ≡ has_conjecture ks
counted-any {found} ks h = sym (h.any ∙ (ap (λ x. found || has_conjecture x) (drop-end ks) ∙ or-nothing found))

-- ---- typings

pub typing-stands : (ks : List Kept) (n : ℕ) (t : Typing) → slice_get (typings ks) n ≡ Some t → slice_get (typing_files ks) n ≡ None → ⊥
typing-stands [] n t e f = absurd cc
typing-stands (k ∷ ks) n t e f = by (typing_in k.statement) n e f (λ m g h. typing-stands ks m t g h)
  where
    by : (o : Option Typing) (n : ℕ) → slice_get (cons_option o (typings ks)) n ≡ Some t
        → slice_get (map (λ x. x.file) (cond (is_some o) (k ∷ filter (λ x. is_typing x.statement) ks) (filter (λ x. is_typing x.statement) ks))) n ≡ None
        → ((m : ℕ) → slice_get (typings ks) m ≡ Some t → slice_get (typing_files ks) m ≡ None → ⊥) → ⊥
    by None n g h i = i n g h
    by (Some x) zero g h i = absurd cc
    by (Some x) (suc n) g h i = i n g h

-- ---- the whole

pub says-theory : (ks : List Kept) (p : Problem) {d : Declared} → HaveRoles ks → AreDeclared (typings ks) d → AreHypotheses d ks (map (hypothesis_in p.bank) p.hyps)
    → declared_in p.bank p.names ≡ d → p.conjecture ≡ has_conjecture ks → p.statements ≡ length ks → Says ks (says (theory_of p))
says-theory ks p {d} roles declares hs k f n =
    let H : List Hypothesis = map (hypothesis_in p.bank) p.hyps in
    let first = ap (λ (w : Declared). says (record { declared = w; hypotheses = H; conjecture = p.conjecture; statements = p.statements })) k in
    let second = ap (λ (w : Bool). says (record { declared = d; hypotheses = H; conjecture = w; statements = p.statements })) f in
    let third = ap (λ (w : ℕ). says (record { declared = d; hypotheses = H; conjecture = has_conjecture ks; statements = w })) n in
    let P : Answer → Type 0 = λ w. Says ks w in
    subst P (sym (first ∙ (second ∙ third))) (theory roles declares hs)
