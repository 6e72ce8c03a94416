-- Where the kept clauses come from, by number.
use Rattle.std.proofs.Common.{ℕ, zero, suc, ◌≡◌, ◌<◌, inl, inr, List, [], ◌∷◌, ◌++◌, length, map, take, Some, refl, sym, subst, ◌∙◌, arith}
use Rattle.std.specs.List.{slice_get, AllByRecursion}
use Rattle.std.proofs.lemmas.List.{take-append-le}
use Rattle.std.proofs.lemmas.Option.{slice_get_within, get_or_from_slice_get}
use Rattle.std.proofs.Math.Seq.{take-append_seam}
use Rattle.fo_terms.specs.Terms.{Terms}
use Rattle.fo_text.specs.declared.problem.FoClause.{FoClause}
use Rattle.fo_text.specs.declared.problem.FoSym.{FoSym}
use Rattle.fo_text.specs.declared.problem.FoProblem.{FoProblem}
use Rattle.fo_text.specs.Problems.{IsProblem, IsClause, IsLiteral}
use Rattle.fo_super.specs.Members.{Member, resolve, factor, superpose}
use Rattle.fo_super.specs.Conclusions.{IsDue}
use Rattle.fo_super.specs.Turns.{Origin, given, concluded}
use Rattle.fo_super.specs.Viewing.{NamesSorted}
use Rattle.fo_super.specs.Replaying.{MembersSort, NamesStandOn}
use Rattle.fo_prove.specs.Refutations.{IsParent, literals_of}
use Rattle.fo_prove.specs.Derived.{Derived, of_text, and_one}
use Rattle.fo_prove.proofs.Closing.{at_map}
use Rattle.fo_prove.proofs.Deriving.{at_end, all_given, counted}

abbrev pub ComesFrom : FoProblem → List FoClause → ℕ → Origin → FoClause → Type 0
ComesFrom p cs n given c = slice_get p.clauses n ≡ Some c
ComesFrom p cs n (concluded m vars terms) c = (i : FoClause) × IsDue p.sorts p.syms (take n cs) m vars terms i c

same_front : (p : FoProblem) (cs ds : List FoClause) (n : ℕ) (o : Origin) (c : FoClause) → take n ds ≡ take n cs → ComesFrom p cs n o c → ComesFrom p ds n o c
same_front p cs ds n given c e w = w
same_front p cs ds n (concluded m vars terms) c e w = (w.0, subst (λ q. IsDue p.sorts p.syms q m vars terms w.0 c) (sym e) w.1)

pub comes : {p : FoProblem} {cs : List FoClause} {os : List Origin} → Derived p cs os → (n : ℕ) (o : Origin) (c : FoClause) → slice_get os n ≡ Some o → slice_get cs n ≡ Some c → ComesFrom p cs n o c
comes {p} of_text n o c at stands = subst (λ q. ComesFrom p p.clauses n q c) (sym (all_given p.clauses n o at)) stands
comes {p} (and_one cs os m vars terms i d before due) n o c at stands = (elim (at_end os (concluded m vars terms) o n at) [
  | inl h ↦ (let within : n < length cs = (let w = slice_get_within os n o h in let same = counted before in omega (arith, w, same)) in
      elim (at_end cs d c n stands) [
        | inl k ↦ same_front p cs (cs ++ d ∷ []) n o c (take-append-le n cs (d ∷ []) (omega (arith, within))) (comes before n o c h k)
        | inr k ↦ (let q : n ≡ length cs = k.0 in absurd (omega (arith, within, q)))
      ])
  | inr h ↦ (let same = counted before in let q : n ≡ length cs = h.0 ∙ same in
      elim (at_end cs d c n stands) [
        | inl k ↦ (let w = slice_get_within cs n c k in absurd (omega (arith, w, q)))
        | inr k ↦ (let front : take n (cs ++ d ∷ []) ≡ cs = rw q (take-append_seam cs (d ∷ [])) in
            let w : ComesFrom p (cs ++ d ∷ []) n (concluded m vars terms) d = (i, subst (λ z. IsDue p.sorts p.syms z m vars terms i d) (sym front) due) in
            subst (λ z. ComesFrom p (cs ++ d ∷ []) n z c) (sym h.1) (subst (λ z. ComesFrom p (cs ++ d ∷ []) n (concluded m vars terms) z) (sym k.1) w))
      ])
])

pub all_at : {X : Type 0} (P : X → Type 0) (xs : List X) (n : ℕ) (x : X) → AllByRecursion P xs → slice_get xs n ≡ Some x → P x
all_at P [] n x a e = absurd cc
all_at P (y ∷ ys) zero x a e = (let h : y ≡ x = cc in subst P h a.0)
all_at P (y ∷ ys) (suc n) x a e = all_at P ys n x a.1 e

pub names_sorted : (syms : List FoSym) (cs : List FoClause) (m : Member) → ((n : ℕ) (c : FoClause) → slice_get cs n ≡ Some c → AllByRecursion (IsLiteral c.vars syms) c.lits) → NamesSorted syms cs m
names_sorted syms cs (resolve a i) f = λ x e. f a x e
names_sorted syms cs (factor a i s j r) f = λ x e. f a x e
names_sorted syms cs (superpose a i s d j r path) f = ((λ x e. f a x e), (λ x e. f d x e))

pub sorted : {p : FoProblem} {cs : List FoClause} {os : List Origin} → MembersSort → IsProblem p → Derived p cs os → (n : ℕ) (c : FoClause) → slice_get cs n ≡ Some c → AllByRecursion (IsLiteral c.vars p.syms) c.lits
sorted {p} sorts is of_text n c at = (all_at (IsClause p.sorts p.syms) p.clauses n c is.clauses at).lits
sorted {p} sorts is (and_one cs os m vars terms i d before due) n c at = (elim (at_end cs d c n at) [
  | inl h ↦ sorted sorts is before n c h
  | inr h ↦ subst (λ z. AllByRecursion (IsLiteral z.vars p.syms) z.lits) (sym h.1) (sorts p.sorts p.syms cs m vars terms i d (names_sorted p.syms cs m (sorted sorts is before)) due)
])

pub get_take : {X : Type 0} (n : ℕ) (xs : List X) (k : ℕ) (x : X) → slice_get (take n xs) k ≡ Some x → (slice_get xs k ≡ Some x) × (k < n)
get_take zero xs k x e = absurd (cc)
get_take (suc n) [] k x e = absurd cc
get_take (suc n) (y ∷ ys) zero x e = (e, omega arith)
get_take (suc n) (y ∷ ys) (suc k) x e = (let h = get_take n ys k x e in let less = h.1 in (h.0, omega (arith, less)))

pub literals_at : (cs : List FoClause) (k : ℕ) (x : FoClause) → slice_get cs k ≡ Some x → literals_of cs k ≡ length x.lits
literals_at cs k x e = get_or_from_slice_get (map (λ c. length c.lits) cs) k (length x.lits) 0 (at_map (λ c. length c.lits) cs k x e)

pub stand_on : (line literals : ℕ → ℕ) (cs all : List FoClause) (m : Member) (vars : List ℕ) (terms : Terms) →
    ((k : ℕ) (x : FoClause) → IsParent (concluded m vars terms) k → slice_get cs k ≡ Some x → (slice_get all (line k) ≡ Some x) × (literals k ≡ length x.lits)) → NamesStandOn line literals cs all m
stand_on line literals cs all (resolve a i) vars terms f = λ x e. f a x refl e
stand_on line literals cs all (factor a i s j r) vars terms f = λ x e. f a x refl e
stand_on line literals cs all (superpose a i s d j r path) vars terms f = ((λ x e. f a x (inl refl) e), (λ x e. f d x (inr refl) e))
