-- Sorts that have a term, found one after the other.
use Rattle.std.proofs.Common.{ℕ, ◌≡◌, ◌+◌, ◌<◌, ◌≤◌, ◌⊎◌, suc, zero, Bool, true, false, List, [], ◌∷◌, length, Some, refl, sym, ap, ◌∙◌, subst, arith, inl, inr}
use Rattle.std.specs.Prelude.{slice_get, ◌↔◌, if◌then◌else◌}
use Rattle.std.specs.List.{AllByRecursion}
use Rattle.std.specs.BTreeMap.{BTreeMap}
use Rattle.std.proofs.lemmas.Option.{slice_get_within}
use Rattle.fo_terms.specs.Terms.{Term, Terms, variable, symbol, none, more}
use Rattle.fo_text.specs.declared.problem.FoSym.{FoSym}
use Rattle.fo_text.specs.Problems.{HasSort, HaveSorts}
use Rattle.fo_text.specs.Nodes.{Inhabited, AreMarks}
use Rattle.fo_text.specs.Known.{knows, Knows, KnowsAll, IsAdded, IsTry, IsGrown, AreSound, HasVars, HasResults, IsNew, unknown_results}

-- the map has each sort that has a term
mutual
  pub complete : (vars : List ℕ) (syms : List FoSym) (known : BTreeMap ℕ Bool) → HasVars known vars (length vars) → HasResults known syms (length syms) → (t : Term) (s : ℕ) → HasSort vars syms t s → Knows known s
  complete vars syms known v r (variable n) s h = v n s (slice_get_within vars n s h) h
  complete vars syms known v r (symbol f ts) s h = subst (Knows known) h.2 (r f h.0 (slice_get_within syms f h.0 h.1) h.1 (complete_all vars syms known v r ts h.0.args h.3))

  pub complete_all : (vars : List ℕ) (syms : List FoSym) (known : BTreeMap ℕ Bool) → HasVars known vars (length vars) → HasResults known syms (length syms) → (ts : Terms) (ss : List ℕ) → HaveSorts vars syms ts ss → KnowsAll known ss
  complete_all vars syms known v r none [] h = tt
  complete_all vars syms known v r none (s ∷ ss) h = absurd h
  complete_all vars syms known v r (more t ts) [] h = absurd h
  complete_all vars syms known v r (more t ts) (s ∷ ss) h = (complete vars syms known v r t s h.0, complete_all vars syms known v r ts ss h.1)

terms_for : (vars : List ℕ) (syms : List FoSym) (ss : List ℕ) → AllByRecursion (Inhabited vars syms) ss → (ts : Terms) × HaveSorts vars syms ts ss
terms_for vars syms [] h = (none, tt)
terms_for vars syms (s ∷ ss) h = let r = terms_for vars syms ss h.1 in (more h.0.0 r.0, (h.0.1, r.1))

all_sound : (vars : List ℕ) (syms : List FoSym) (known : BTreeMap ℕ Bool) → AreSound vars syms known → (ss : List ℕ) → KnowsAll known ss → AllByRecursion (Inhabited vars syms) ss
all_sound vars syms known s [] h = tt
all_sound vars syms known s (x ∷ ss) h = (s x h.0, all_sound vars syms known s ss h.1)

all_complete : (vars : List ℕ) (syms : List FoSym) (known : BTreeMap ℕ Bool) → HasVars known vars (length vars) → HasResults known syms (length syms) → (ss : List ℕ) → AllByRecursion (Inhabited vars syms) ss → KnowsAll known ss
all_complete vars syms known v r [] h = tt
all_complete vars syms known v r (x ∷ ss) h = (complete vars syms known v r h.0.0 x h.0.1, all_complete vars syms known v r ss h.1)

pub sound_start : (vars : List ℕ) (syms : List FoSym) (known : BTreeMap ℕ Bool) → ((s : ℕ) → Knows known s → (v : ℕ) × (slice_get vars v ≡ Some s)) → AreSound vars syms known
sound_start vars syms known h s k = let v = h s k in (variable v.0, v.1)

sound_more : (vars : List ℕ) (syms : List FoSym) (known new : BTreeMap ℕ Bool) (s : ℕ) → AreSound vars syms known → IsNew known syms s → IsAdded known new s → AreSound vars syms new
sound_more vars syms known new s h n a t k = elim (a.only t k) [
  | inl e ↦ (let ts = terms_for vars syms n.symbol.args (all_sound vars syms known h n.symbol.args n.args) in (symbol n.at ts.0, (n.symbol, n.stands, n.result_is ∙ sym e, ts.1)))
  | inr o ↦ h t o
]

pub vars_kept : (syms : List FoSym) (known new : BTreeMap ℕ Bool) (vars : List ℕ) (n : ℕ) → HasVars known vars n → IsGrown syms known new → HasVars new vars n
vars_kept syms known new vars n h a v t l e = a.kept t (h v t l e)

-- fewer symbols give a sort that is not known
count_of : Bool → ℕ
count_of t = if t then 0 else 1

grown_test : (a b : Bool) → (a ≡ true → b ≡ true) → (if b then 0 else 1) ≤ (if a then 0 else 1)
grown_test true true h = omega arith
grown_test true false h = absurd (let e : false ≡ true = h refl in cc)
grown_test false true h = omega arith
grown_test false false h = omega arith

no_more : (known new : BTreeMap ℕ Bool) (s : ℕ) → IsAdded known new s → (ys : List FoSym) → unknown_results new ys ≤ unknown_results known ys
no_more known new s a [] = omega arith
no_more known new s a (y ∷ ys) =
    let h = grown_test (knows known y.result) (knows new y.result) (a.kept y.result) in
    let k = no_more known new s a ys in
    omega arith

new_test : (a b : Bool) → (a ≡ true → ⊥) → b ≡ true → (if b then 0 else 1) < (if a then 0 else 1)
new_test true b h k = absurd (h refl)
new_test false true h k = omega arith
new_test false false h k = cc

some_same : (x y : FoSym) → Some x ≡ Some y → x ≡ y
some_same x y e = cc

fewer_at : (known new : BTreeMap ℕ Bool) (s : ℕ) → IsAdded known new s → (Knows known s → ⊥) → (ys : List FoSym) (at : ℕ) (y : FoSym) → slice_get ys at ≡ Some y → y.result ≡ s → unknown_results new ys < unknown_results known ys
fewer_at known new s a u [] at y e r = cc
fewer_at known new s a u (x ∷ ys) zero y e r =
    let same : x.result ≡ s = ap (λ z. let w : FoSym = z in w.result) (some_same x y e) ∙ r in
    let h = new_test (knows known x.result) (knows new x.result) (λ k. u (subst (Knows known) same k)) (subst (Knows new) (sym same) a.there) in
    let k = no_more known new s a ys in
    omega arith
fewer_at known new s a u (x ∷ ys) (suc at) y e r =
    let h = grown_test (knows known x.result) (knows new x.result) (a.kept x.result) in
    let k = fewer_at known new s a u ys at y e r in
    omega arith

fewer : (known new : BTreeMap ℕ Bool) (syms : List FoSym) (s : ℕ) → IsNew known syms s → IsAdded known new s → unknown_results new syms < unknown_results known syms
fewer known new syms s n a = fewer_at known new s a n.unknown syms n.at n.symbol n.stands n.result_is

pub IsGrown-none : (syms : List FoSym) (known : BTreeMap ℕ Bool) → IsGrown syms known known
IsGrown-none syms known = record { kept = λ s h. h; sound = λ vars h. h; no_more = omega arith }

pub IsGrown-try : (syms : List FoSym) (first known new : BTreeMap ℕ Bool) (at : ℕ) (y : FoSym) (changed : Bool) → slice_get syms at ≡ Some y → IsGrown syms first known → IsTry known new y changed → IsGrown syms first new
IsGrown-try syms first known new at y true e g t =
    let n : IsNew known syms y.result = record { at = at; symbol = y; stands = e; result_is = refl; args = t.1; unknown = t.2 } in
    let few = fewer known new syms y.result n t.0 in
    let before = g.no_more in
    record {
      kept = λ s h. t.0.kept s (g.kept s h);
      sound = λ vars h. sound_more vars syms known new y.result (g.sound vars h) n t.0;
      no_more = omega arith;
    }
IsGrown-try syms first known new at y false e g t = rw t.0 g

pub fewer-try : (syms : List FoSym) (first known new : BTreeMap ℕ Bool) (at : ℕ) (y : FoSym) → slice_get syms at ≡ Some y → IsGrown syms first known → IsTry known new y true → unknown_results new syms < unknown_results first syms
fewer-try syms first known new at y e g t =
    let n : IsNew known syms y.result = record { at = at; symbol = y; stands = e; result_is = refl; args = t.1; unknown = t.2 } in
    let few = fewer known new syms y.result n t.0 in
    let before = g.no_more in
    omega arith

last_or_before : (f n : ℕ) → f < n + 1 → (f < n) ⊎ (f ≡ n)
last_or_before f n h = grind arith

pub results-try : (syms : List FoSym) (known new : BTreeMap ℕ Bool) (at : ℕ) (y : FoSym) → slice_get syms at ≡ Some y → HasResults known syms at → IsTry known new y false → HasResults new syms (at + 1)
results-try syms known new at y e h t = rw t.0 (λ f x l s a. elim (last_or_before f at l) [
  | inl b ↦ h f x b s a
  | inr q ↦ (let here : slice_get syms at ≡ Some x = rw q at s in let same : x ≡ y = some_same x y (sym here ∙ e) in rw same (t.1 (rw same at a)))
])

pub marks_right : (vars : List ℕ) (syms : List FoSym) (known : BTreeMap ℕ Bool) (usable : List Bool) → AreSound vars syms known → HasVars known vars (length vars) → HasResults known syms (length syms)
    → ((f : ℕ) (y : FoSym) → f < length syms → slice_get syms f ≡ Some y → (slice_get usable f ≡ Some true) ↔ KnowsAll known y.args) → AreMarks vars syms usable
marks_right vars syms known usable s v r h f y e =
    let k = h f y (slice_get_within syms f y e) e in
    ((λ m. all_sound vars syms known s y.args (k.0 m)), (λ i. k.1 (all_complete vars syms known v r y.args i)))
