-- The hypotheses of a problem that was loaded have the base types and the symbols of its atoms alone, and so have the lines.
use Rattle.std.proofs.Common.{ℕ, ◌≡◌, true, List, [], ◌∷◌, map, slice_get, Option, Some, refl, sym, subst, ◌+◌}
use Rattle.leo_q0.specs.Terms.{Term}
use Rattle.leo_terms.specs.Tree.{Tree, variable, bound, symbol, app, lam, logic, absent, truth, falsity, negation, disjunction, conjunction, implication, equality, universal, existential, choice}
use Rattle.leo_terms.specs.Typing.{IsWellTyped}
use Rattle.leo_terms.specs.Contents.{Contents, IsBank, tree_at}
use Rattle.leo_terms.specs.Decode.{decoded}
use Rattle.leo_terms.proofs.CallerLemmas.{term-typed}
use Rattle.leo_elab.specs.Problem.{Declared, Constant}
use Rattle.leo_clausify.specs.Origins.{Origin, IsTypeFrom, IsTermFrom, AreTermsFrom}
use Rattle.leo_problem.specs.declared.gathered.Kept.{Kept}
use Rattle.leo_problem.specs.declared.loaded.Hyp.{Hyp}
use Rattle.leo_problem.specs.declared.roles.Role.{Role}
use Rattle.leo_problem.specs.declared.roles.Role.TheVariants as role
use Rattle.leo_problem.specs.Loading.{AreClosedFormulas, IsProblem, ProblemOf, hypothesis_in, theory_of}
use Rattle.leo_problem.specs.Loading as loading
use Rattle.leo_problem.specs.Roles.{assumed}
use Rattle.leo_problem.specs.Theories.{Answer, AreHypotheses, Hypothesis, Says, Theory, says, no_more, no_formula, formula, bad_role, second_conjecture, bad_typing, bad_formula, theory}
use Rattle.leo_derive.specs.Verdicts.{hypotheses_of}
use Rattle.leo_core.specs.Laws.{LoadedLinesAreNameable}
use Rattle.leo_core.specs.Naming.{IsVocabulary}
use Rattle.leo_core.proofs.Meanings.{IsMeaningFrom, constants-typed, from-not, means-from}

-- what decodes to a term from an origin is from it
module _ (o : Origin) where
  absent-from : (t : Tree) → t ≡ absent → IsTermFrom o t
  absent-from t e = subst (IsTermFrom o) (sym e) tt

  pub tree-from : (t : Tree) (next : ℕ) → IsWellTyped t → IsMeaningFrom o (decoded next t) → IsTermFrom o t
  tree-from (variable n a) next w h = h
  tree-from (bound i a) next w h = h
  tree-from (symbol n a) next w h = h
  tree-from (app f x) next w h = (tree-from f next w.0 h.0, tree-from x next w.1 h.1)
  tree-from (lam a t) next w h = (h.0, tree-from t (next + 1) w.0 h.1)
  tree-from (logic truth x y) next w h = (tt, absent-from x w.2.0, absent-from y w.2.1)
  tree-from (logic falsity x y) next w h = (tt, absent-from x w.2.0, absent-from y w.2.1)
  tree-from (logic negation x y) next w h = (tt, tree-from x next w.0 h.1, absent-from y w.2.1)
  tree-from (logic disjunction x y) next w h = (tt, tree-from x next w.0 h.0.1, tree-from y next w.1 h.1)
  tree-from (logic conjunction x y) next w h = (tt, tree-from x next w.0 h.0.1, tree-from y next w.1 h.1)
  tree-from (logic implication x y) next w h = (tt, tree-from x next w.0 h.0.1, tree-from y next w.1 h.1)
  tree-from (logic (equality a) x y) next w h = (h.0.0, tree-from x next w.0 h.0.1, tree-from y next w.1 h.1)
  tree-from (logic (universal a) x y) next w h = (h.0.0.0, tree-from x next w.0 h.1, absent-from y w.2.1)
  tree-from (logic (existential a) x y) next w h = (h.0.0.0, tree-from x next w.0 h.1, absent-from y w.2.1)
  tree-from (logic (choice a) x y) next w h = (h.0, tree-from x next w.0 h.1, absent-from y w.2.1)
  tree-from absent next w h = tt

  assumed-from : (z : o.has_base 0 ≡ true) (r : Role) (t : Term) → IsMeaningFrom o t → IsMeaningFrom o (assumed r t)
  assumed-from z role.Axiom t h = h
  assumed-from z role.Hypothesis t h = h
  assumed-from z role.Definition t h = h
  assumed-from z role.Assumption t h = h
  assumed-from z role.Lemma t h = h
  assumed-from z role.Theorem t h = h
  assumed-from z role.Corollary t h = h
  assumed-from z role.NegatedConjecture t h = h
  assumed-from z role.Conjecture t h = (from-not o z, h)

  abbrev AreMeaningsFrom : List Hypothesis → Type 0
  AreMeaningsFrom [] = Unit {0}
  AreMeaningsFrom (h ∷ hs) = IsMeaningFrom o h.formula × AreMeaningsFrom hs

  module _ (d : Declared) (v : IsVocabulary d o) (typed : (n : ℕ) (p : List ℕ × Constant) → slice_get d.constants n ≡ Some p → IsTypeFrom o p.1.type) where
    hypotheses-meant : {ks : List Kept} {hs : List Hypothesis} → AreHypotheses d ks hs → AreMeaningsFrom hs
    hypotheses-meant no_more = tt
    hypotheses-meant (no_formula e r) = hypotheses-meant r
    hypotheses-meant (formula {role = r} {t = t} e f m rest) = (assumed-from v.truth r t (means-from o d v typed tt m).0, hypotheses-meant rest)

  hypotheses-made : (c : Contents) → IsBank c → (hs : List Hyp) → AreClosedFormulas c hs → AreMeaningsFrom (map (hypothesis_in c) hs) → AreTermsFrom o (map (λ (h : Hyp). tree_at c h.term) hs)
  hypotheses-made c b [] closed h = tt
  hypotheses-made c b (x ∷ hs) closed h = (tree-from (tree_at c x.term) 0 (term-typed b x.term closed.0.within) h.0, hypotheses-made c b hs closed.1 h.1)

-- what kept statements say
said-from : (o : Origin) (ks : List Kept) (answer : Answer) (t : Theory) → Says ks answer → answer ≡ says t → IsVocabulary t.declared o → AreMeaningsFrom o t.hypotheses
said-from o ks answer t (bad_role f) e v = absurd cc
said-from o ks answer t (second_conjecture f g) e v = absurd cc
said-from o ks answer t (bad_typing f g h) e v = absurd cc
said-from o ks answer t (bad_formula f g h) e v = absurd cc
said-from o ks answer t (theory {d = d} {hs = hs} f g h) e v =
    let declared : d ≡ t.declared = cc in
    let hypotheses : hs ≡ t.hypotheses = cc in
    let w : IsVocabulary d o = subst (λ (x : Declared). IsVocabulary x o) (sym declared) v in
    subst (AreMeaningsFrom o) hypotheses (hypotheses-meant o d w (constants-typed o d w g.constants) h)

loaded-from : (o : Origin) (told : List ℕ → Option (List ℕ)) (name : List ℕ) (root : Option (List ℕ)) (answer : Answer) (t : Theory) → ProblemOf told name root answer → answer ≡ says t → IsVocabulary t.declared o → AreMeaningsFrom o t.hypotheses
loaded-from o told name root answer t (loading.not_gathered g) e v = absurd cc
loaded-from o told name root answer t (loading.kept {ks = ks} g s) e v = said-from o ks answer t s e v

pub lines-nameable : LoadedLinesAreNameable
lines-nameable told name root p lines bank problem loaded from = record {
  each = λ n l e o v abbreviated.
      let meant : AreMeaningsFrom o (theory_of p).hypotheses = loaded-from o told name root (says (theory_of p)) (theory_of p) loaded refl v in
      let hypotheses : AreTermsFrom o (hypotheses_of p) = hypotheses-made o p.bank bank p.hyps problem.closed meant in
      from.each n l e o (record { truth = v.truth; hypotheses_from = hypotheses; abbreviated = λ m s k f r. abbreviated m s k f r });
}
