-- Runs keep each clause with its origin, whose parents come before it.
use Rattle.std.proofs.Common.{ℕ, zero, suc, ◌≡◌, ◌<◌, ◌⊎◌, inl, inr, List, [], ◌∷◌, ◌++◌, length, map, Some, refl, sym, ap, subst, ◌∙◌, length-append, arith}
use Rattle.std.specs.List.{slice_get}
use Rattle.std.proofs.lemmas.List.{length-map}
use Rattle.std.proofs.lemmas.Option.{slice_get_within}
use Rattle.fo_terms.specs.Terms.{Terms}
use Rattle.fo_text.specs.declared.problem.FoClause.{FoClause}
use Rattle.fo_text.specs.declared.problem.FoSym.{FoSym}
use Rattle.fo_text.specs.declared.problem.FoProblem.{FoProblem}
use Rattle.fo_text.specs.Problems.{IsProblem}
use Rattle.fo_super.specs.declared.state.FoState.{FoState}
use Rattle.fo_super.specs.Runs.{search_of, origin_of}
use Rattle.fo_super.specs.Members.{Member, resolve, factor, superpose}
use Rattle.fo_super.specs.Conclusions.{IsDue}
use Rattle.fo_super.specs.Turns.{Origin, given, concluded, Search, Works, done, passed, refused, kept}
use Rattle.fo_prove.specs.Refutations.{IsParent}
use Rattle.fo_prove.specs.Marks.{AreEarlier}
use Rattle.fo_prove.specs.Endings.{IsSound}
use Rattle.fo_prove.specs.Answers.{IsRun, begun, turned}
use Rattle.fo_prove.specs.Derived.{Derived, of_text, and_one}

pub works_derived : {p : FoProblem} {ms : List Member} {cs ds : List FoClause} {os qs : List Origin} → Works p ms cs os ds qs → Derived p cs os → Derived p ds qs
works_derived done d = d
works_derived (passed none w) d = works_derived w d
works_derived (refused vars terms instance c o due out other w) d = works_derived w d
works_derived (kept {m} {ms} {cs} {ds} {os} {qs} vars terms instance c due out w) d = works_derived w (and_one cs os m vars terms instance c d due)

pub run_derived : {p : FoProblem} {s : Search} → IsRun p s → Derived p s.clauses s.origins
run_derived begun = of_text
run_derived (turned r going t) = works_derived t.worked (run_derived r)

pub counted : {p : FoProblem} {cs : List FoClause} {os : List Origin} → Derived p cs os → length os ≡ length cs
counted {p} of_text = length-map p.clauses (λ c. given)
counted {p} (and_one cs os m vars terms instance c d due) = (let h = counted d in let a = length-append os (concluded m vars terms ∷ []) in let b = length-append cs (c ∷ []) in omega (arith, h, a, b))

-- what the end of a list has
pub at_end : {X : Type 0} (xs : List X) (x y : X) (n : ℕ) → slice_get (xs ++ x ∷ []) n ≡ Some y → (slice_get xs n ≡ Some y) ⊎ ((n ≡ length xs) × (y ≡ x))
at_end [] x y zero e = inr (refl, cc)
at_end [] x y (suc n) e = absurd cc
at_end (z ∷ xs) x y zero e = inl e
at_end (z ∷ xs) x y (suc n) e = (elim (at_end xs x y n e) [
  | inl h ↦ inl h
  | inr h ↦ inr (ap suc h.0, h.1)
])

pub all_given : {X : Type 0} (xs : List X) (n : ℕ) (o : Origin) → slice_get (map (λ x. given) xs) n ≡ Some o → o ≡ given
all_given [] n o e = absurd cc
all_given (x ∷ xs) zero o e = cc
all_given (x ∷ xs) (suc n) o e = all_given xs n o e

due_within : (sorts : ℕ) (syms : List FoSym) (cs : List FoClause) (m : Member) (vars : List ℕ) (terms : Terms) (i c : FoClause) → IsDue sorts syms cs m vars terms i c → (k : ℕ) → IsParent (concluded m vars terms) k → k < length cs
due_within sorts syms cs (resolve a i) vars terms instance c due k e = rw e (slice_get_within cs a _ due.at.clause_at)
due_within sorts syms cs (factor a i s j r) vars terms instance c due k e = rw e (slice_get_within cs a _ due.at.clause_at)
due_within sorts syms cs (superpose a i s d j r path) vars terms instance c due k (inl e) = rw e (slice_get_within cs a _ due.equation_at.clause_at)
due_within sorts syms cs (superpose a i s d j r path) vars terms instance c due k (inr e) = rw e (slice_get_within cs d _ due.receiver_at)

pub earlier : {p : FoProblem} {cs : List FoClause} {os : List Origin} → Derived p cs os → AreEarlier os
earlier {p} of_text n m o at par = (let h = all_given p.clauses n o at in absurd (subst (λ q. IsParent q m) h par))
earlier {p} (and_one cs os member vars terms instance c d due) n m o at par = (elim (at_end os (concluded member vars terms) o n at) [
  | inl h ↦ earlier d n m o h par
  | inr h ↦ (
      let q : IsParent (concluded member vars terms) m = subst (λ q. IsParent q m) h.1 par in
      let less : m < length cs = due_within p.sorts p.syms cs member vars terms instance c due m q in
      let same = counted d in
      omega (arith, less, same, h.0))
])

pub sound_of : (s : FoState) → IsProblem s.problem → IsRun s.problem (search_of s) → IsSound s
sound_of s is r =
    let d = run_derived r in
    let few = is.clauses_count in
    record { counted = sym (length-map s.origins origin_of) ∙ counted d; earlier = earlier d; text = omega (arith, few) }
