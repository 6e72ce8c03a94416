-- Members that are worked.
use Rattle.std.proofs.Common.{ℕ, zero, suc, ◌≡◌, ◌∙◌, ◌+◌, ◌<◌, ◌≤◌, List, [], ◌∷◌, ◌++◌, length, map, take, slice_get, slice_index_or, Some, refl, sym, ap, subst, arith, append_assoc, length-append, inl, inr}
use Rattle.std.specs.Prelude.{remove}
use Rattle.std.specs.List.{AllByRecursion, flat_map}
use Rattle.std.proofs.lemmas.Bool.{cases_lt}
use Rattle.std.proofs.lemmas.Grind.{flat_map-append}
use Rattle.std.proofs.lemmas.List.{append-nil, map-append, take_all}
use Rattle.fo_terms.specs.Terms.{Term, Terms, variable, symbol, none, more}
use Rattle.fo_terms.specs.Substitutions.{apply, apply_to_all}
use Rattle.fo_text.specs.declared.problem.FoSym.{FoSym}
use Rattle.fo_text.specs.declared.problem.FoLit.{FoLit}
use Rattle.fo_text.specs.declared.problem.FoClause.{FoClause}
use Rattle.fo_text.specs.declared.problem.FoProblem.{FoProblem}
use Rattle.fo_text.specs.Problems.{HasSort, HaveSorts, IsLiteral}
use Rattle.fo_text.specs.Words.{most_number}
use Rattle.fo_replay.specs.Replays.{applied_literal, images, term_or}
use Rattle.fo_super.specs.declared.outcomes.FoOutcome.TheVariants as outcome
use Rattle.fo_super.specs.Laws.{AreSorted}
use Rattle.fo_super.specs.Members.{Member, resolve, factor, superpose}
use Rattle.fo_super.specs.Conclusions.{IsDue, IsResolved}
use Rattle.fo_super.specs.Outcomes.{OutcomeOf, IsAdmitted}
use Rattle.fo_super.specs.Outcomes.{kept as kept_outcome}
use Rattle.fo_super.specs.Runs.{IsFit}
use Rattle.fo_super.specs.Sifting.{IsNeverDue, AreSifted, no_members, listed, left_out}
use Rattle.fo_super.specs.Turns.{Origin, concluded, Works, done, passed, refused, kept}
use Rattle.fo_super.specs.declared.member.FoMember.{FoMember}
use Rattle.fo_super.specs.Passives.{ArePartners, IsFrontOf}
use Rattle.fo_super.specs.Viewing.{member_of, NamesSorted}
use Rattle.fo_super.proofs.Answering.{get-index, get-within}
use Rattle.fo_super.proofs.Fronts.{front-get, map-get}
use Rattle.fo_super.proofs.Never.{length-mapped}
use Rattle.fo_super.proofs.Sifted.{take-next}
use Rattle.fo_super.proofs.Sorting.{all-at, all-both}
use Rattle.fo_super.proofs.Sorted.{factor-sorted, para-sorted}
use Rattle.fo_super.proofs.Resolutions.{remove-all}

-- instances of sorted literals are sorted
module _ (vars wars : List ℕ) (syms : List FoSym) (terms : Terms) (typed : HaveSorts vars syms terms wars) where
  image-has : (ts : Terms) (ws : List ℕ) (v s : ℕ) (other : Term) → HaveSorts vars syms ts ws → slice_get ws v ≡ Some s → HasSort vars syms (term_or ts v other) s
  image-has none [] v s other h e = absurd (let f : ⊥ = cc in f)
  image-has none (w ∷ ws) v s other h e = absurd h
  image-has (more t ts) [] v s other h e = absurd h
  image-has (more t ts) (w ∷ ws) zero s other h e = let f : w ≡ s = cc in subst (λ x. HasSort vars syms t x) f h.0
  image-has (more t ts) (w ∷ ws) (suc v) s other h e = image-has ts ws v s other h.1 e

  mutual
    applied-has : (t : Term) (s : ℕ) → HasSort wars syms t s → HasSort vars syms (apply (images terms) t) s
    applied-has (variable v) s h = image-has terms wars v s (variable v) typed h
    applied-has (symbol f ts) s h = (h.0, h.1, h.2, applied-have ts h.0.args h.3)

    applied-have : (ts : Terms) (ss : List ℕ) → HaveSorts wars syms ts ss → HaveSorts vars syms (apply_to_all (images terms) ts) ss
    applied-have none [] h = tt
    applied-have none (s ∷ ss) h = absurd h
    applied-have (more t ts) [] h = absurd h
    applied-have (more t ts) (s ∷ ss) h = (applied-has t s h.0, applied-have ts ss h.1)

  applied-are : (ls : List FoLit) → AllByRecursion (IsLiteral wars syms) ls → AllByRecursion (IsLiteral vars syms) (map (applied_literal (images terms)) ls)
  applied-are [] h = tt
  applied-are (l ∷ ls) h = ((h.0.0, applied-has l.left h.0.0 h.0.1, applied-has l.right h.0.0 h.0.2), applied-are ls h.1)

resolved-sorted : (sorts : ℕ) (syms : List FoSym) (clauses : List FoClause) (c k : ℕ) (vars : List ℕ) (terms : Terms) (i d : FoClause) → AreSorted syms clauses c → IsResolved sorts syms clauses c k vars terms i d → AllByRecursion (IsLiteral d.vars syms) d.lits
resolved-sorted sorts syms clauses c k vars terms i d sorted h =
    let all = applied-are vars h.clause.vars syms terms h.typed h.clause.lits (sorted h.clause h.at.clause_at) in
    subst (λ (x : FoClause). AllByRecursion (IsLiteral x.vars syms) x.lits) (sym h.conclusion_is) (remove-all (IsLiteral vars syms) (map (applied_literal (images terms)) h.clause.lits) k all)

-- what is due from sorted clauses is sorted
pub due-sorted : (sorts : ℕ) (syms : List FoSym) (clauses : List FoClause) (m : Member) (vars : List ℕ) (terms : Terms) (i d : FoClause) → NamesSorted syms clauses m → IsDue sorts syms clauses m vars terms i d → AllByRecursion (IsLiteral d.vars syms) d.lits
due-sorted sorts syms clauses (resolve c k) vars terms i d sorted h = resolved-sorted sorts syms clauses c k vars terms i d sorted h.resolved
due-sorted sorts syms clauses (factor c k s j r) vars terms i d sorted h =
    resolved-sorted sorts syms (h.factored ∷ []) 0 _ vars terms i d (factor-sorted syms clauses c k j _ h.factored sorted h.factor.gives) h.resolved
due-sorted sorts syms clauses (superpose c k s e j r path) vars terms i d sorted h =
    resolved-sorted sorts syms (h.replaced ∷ []) 0 _ vars terms i d (para-sorted syms clauses c k s e j r path h.replaced sorted.0 sorted.1 h.para.gives) h.resolved

pub fit-sorted : (syms : List FoSym) (clauses : List FoClause) → AllByRecursion (IsFit syms) clauses → (n : ℕ) → AreSorted syms clauses n
fit-sorted syms clauses h n clause e = let f : IsFit syms clause = all-at (IsFit syms) clauses h n clause e in f.sorted

pub names-sorted : (syms : List FoSym) (clauses : List FoClause) (m : Member) → AllByRecursion (IsFit syms) clauses → NamesSorted syms clauses m
names-sorted syms clauses (resolve c i) h = fit-sorted syms clauses h c
names-sorted syms clauses (factor c i s j r) h = fit-sorted syms clauses h c
names-sorted syms clauses (superpose c i s d j r path) h = (fit-sorted syms clauses h c, fit-sorted syms clauses h d)

pub all-few : (syms : List FoSym) (clauses : List FoClause) → AllByRecursion (IsFit syms) clauses → AllByRecursion (λ (c : FoClause). length c.lits ≤ most_number) clauses
all-few syms [] h = tt
all-few syms (c ∷ cs) h = (h.0.few, all-few syms cs h.1)

-- what is kept has room
kept-admitted : (syms : List FoSym) (clauses : List FoClause) (limit : ℕ) (i c : FoClause) → OutcomeOf syms clauses limit i c outcome.Kept → IsAdmitted clauses limit i c
kept-admitted syms clauses limit i c (kept_outcome a f g) = a

kept-few : (syms : List FoSym) (clauses : List FoClause) (limit : ℕ) (i c : FoClause) → OutcomeOf syms clauses limit i c outcome.Kept → length c.lits ≤ most_number
kept-few syms clauses limit i c h = elim (cases_lt 64 (length c.lits)) [ inl l ↦ absurd ((kept-admitted syms clauses limit i c h).has_room (inl l)) | inr l ↦ omega arith ]

kept-room : (syms : List FoSym) (clauses : List FoClause) (limit : ℕ) (i c : FoClause) → OutcomeOf syms clauses limit i c outcome.Kept → length clauses < 100000
kept-room syms clauses limit i c h = elim (cases_lt (length clauses) 100000) [ inl l ↦ l | inr l ↦ absurd ((kept-admitted syms clauses limit i c h).has_room (inr (let k : 100000 ≤ length clauses = omega arith in k))) ]

module _ (p : FoProblem) where
  pub kept-fit : (cs : List FoClause) (m : Member) (vars : List ℕ) (terms : Terms) (i c : FoClause) → IsDue p.sorts p.syms cs m vars terms i c → OutcomeOf p.syms cs p.weight i c outcome.Kept → AllByRecursion (IsFit p.syms) cs → AllByRecursion (IsFit p.syms) (cs ++ c ∷ [])
  kept-fit cs m vars terms i c due out h =
      all-both (IsFit p.syms) cs (c ∷ []) h (record { few = kept-few p.syms cs p.weight i c out; sorted = due-sorted p.sorts p.syms cs m vars terms i c (names-sorted p.syms cs m h) due }, tt)

  pub works-fit : {ms : List Member} {cs ds : List FoClause} {os qs : List Origin} → Works p ms cs os ds qs → AllByRecursion (IsFit p.syms) cs → AllByRecursion (IsFit p.syms) ds
  works-fit done h = h
  works-fit (passed f w) h = works-fit w h
  works-fit (refused vars terms i c o due out n w) h = works-fit w h
  works-fit {ms} {cs} (kept {m} vars terms i c due out w) h = works-fit w (kept-fit cs m vars terms i c due out h)

  pub works-few : {ms : List Member} {cs ds : List FoClause} {os qs : List Origin} → Works p ms cs os ds qs → length cs ≤ most_number → length ds ≤ most_number
  works-few done h = h
  works-few (passed f w) h = works-few w h
  works-few (refused vars terms i c o due out n w) h = works-few w h
  works-few {ms} {cs} (kept vars terms i c due out w) h = works-few w (let l = kept-room p.syms cs p.weight i c out in let e = length-append cs (c ∷ []) in omega arith)

  pub works-append : {ks bs : List Member} {cs es ds : List FoClause} {os rs qs : List Origin} → Works p ks cs os es rs → Works p bs es rs ds qs → Works p (ks ++ bs) cs os ds qs
  works-append done k = k
  works-append (passed f w) k = passed f (works-append w k)
  works-append (refused vars terms i c o due out n w) k = refused vars terms i c o due out n (works-append w k)
  works-append (kept vars terms i c due out w) k = kept vars terms i c due out (works-append w k)

  -- members that are never due are passed over
  pub works-sifted : {clauses : List FoClause} {ms ns : List Member} {cs ds : List FoClause} {os qs : List Origin} → AreSifted clauses ms ns → (behind : List FoClause) → cs ≡ clauses ++ behind → Works p ns cs os ds qs → Works p ms cs os ds qs
  works-sifted no_members behind e w = w
  works-sifted {clauses} {ms} {ns} {cs} (left_out {m} n h) behind e w =
      passed (λ vars terms i c due. n p.sorts p.syms behind vars terms i c (subst (λ (x : List FoClause). IsDue p.sorts p.syms x m vars terms i c) e due)) (works-sifted h behind e w)
  works-sifted (listed h) behind e (passed f w) = passed f (works-sifted h behind e w)
  works-sifted (listed h) behind e (refused vars terms i c o due out n w) = refused vars terms i c o due out n (works-sifted h behind e w)
  works-sifted {clauses} (listed h) behind e (kept vars terms i c due out w) =
      kept vars terms i c due out (works-sifted h (behind ++ c ∷ []) (ap (λ (x : List FoClause). x ++ c ∷ []) e ∙ append_assoc clauses behind (c ∷ [])) w)

  -- a loop over members
  pub works-next : (members : List FoMember) (i : ℕ) (m : FoMember) {cs es ds : List FoClause} {os rs qs : List Origin} → i < length members → m ≡ slice_index_or members i m →
      Works p (map member_of (take i members)) cs os es rs → Works p (member_of m ∷ []) es rs ds qs → Works p (map member_of (take (i + 1) members)) cs os ds qs
  works-next members i m {cs} {es} {ds} {os} {rs} {qs} l e w k =
      subst (λ (ms : List Member). Works p ms cs os ds qs) (sym (ap (map member_of) (take-next members i m (get-index members i m l e)) ∙ map-append member_of (take i members) (m ∷ []))) (works-append w k)

  pub works-all : (members : List FoMember) (i : ℕ) {cs ds : List FoClause} {os qs : List Origin} → length members ≤ i → Works p (map member_of (take i members)) cs os ds qs → Works p (map member_of members) cs os ds qs
  works-all members i {cs} {ds} {os} {qs} l w = subst (λ (ms : List FoMember). Works p (map member_of ms) cs os ds qs) (take_all i members l) w

  -- and one over partners
  pub partners-next : (f : ℕ × FoClause → List Member) (ps : List (ℕ × FoClause)) (i : ℕ) (x : ℕ × FoClause) {cs es ds : List FoClause} {os rs qs : List Origin} → slice_get ps i ≡ Some x →
      Works p (flat_map f (take i ps)) cs os es rs → Works p (f x) es rs ds qs → Works p (flat_map f (take (i + 1) ps)) cs os ds qs
  partners-next f ps i x {cs} {es} {ds} {os} {rs} {qs} e w k =
      subst (λ (ms : List Member). Works p ms cs os ds qs) (sym (ap (flat_map f) (take-next ps i x e) ∙ flat_map-append f (take i ps) (x ∷ [])))
      (works-append w (subst (λ (ms : List Member). Works p ms es rs ds qs) (sym (append-nil (f x))) k))

  pub partners-all : (f : ℕ × FoClause → List Member) (ps : List (ℕ × FoClause)) (ns : List ℕ) (i : ℕ) {cs ds : List FoClause} {os qs : List Origin} → ns ≡ map (λ x. x.0) ps → length ns ≤ i → Works p (flat_map f (take i ps)) cs os ds qs → Works p (flat_map f ps) cs os ds qs
  partners-all f ps ns i {cs} {ds} {os} {qs} e l w =
      let k : length ps ≤ i = (let a : length ns ≡ length ps = ap length e ∙ length-mapped (λ (x : ℕ × FoClause). x.0) ps in omega arith) in
      subst (λ (xs : List (ℕ × FoClause)). Works p (flat_map f xs) cs os ds qs) (take_all i ps k) w

-- an item of a list of numbers
pub item-at : (ns : List ℕ) (i d : ℕ) → i < length ns → slice_get ns i ≡ Some (slice_index_or ns i d)
item-at [] i d l = absurd (omega arith)
item-at (n ∷ ns) zero d l = refl
item-at (n ∷ ns) (suc i) d l = item-at ns i d (omega arith)

-- the partner at a place
pub partner-at : (clauses grown : List FoClause) (ns : List ℕ) (ps : List (ℕ × FoClause)) (i n : ℕ) → ArePartners clauses ns ps → IsFrontOf clauses grown → slice_get ns i ≡ Some n → (d : FoClause) × (slice_get ps i ≡ Some (n, d)) × (slice_get grown n ≡ Some d)
partner-at clauses grown ns ps i n h k e =
    let x = map-get (λ (x : ℕ × FoClause). x.0) ps i n (ap (λ (z : List ℕ). slice_get z i) (sym h.0) ∙ e) in
    let s : slice_get clauses x.0.0 ≡ Some x.0.1 = all-at (λ (x : ℕ × FoClause). slice_get clauses x.0 ≡ Some x.1) ps h.1 i x.0 x.1 in
    (x.0.1, (x.1 ∙ ap (λ (m : ℕ). Some (m, x.0.1)) x.2), front-get clauses grown n x.0.1 k (ap (slice_get clauses) (sym x.2) ∙ s))

pub partners-grown : (clauses grown : List FoClause) (ns : List ℕ) (ps : List (ℕ × FoClause)) → IsFrontOf clauses grown → ArePartners clauses ns ps → ArePartners grown ns ps
partners-grown clauses grown ns ps k h = (h.0, go ps h.1)
  where
    go : (xs : List (ℕ × FoClause)) → AllByRecursion (λ (x : ℕ × FoClause). slice_get clauses x.0 ≡ Some x.1) xs → AllByRecursion (λ (x : ℕ × FoClause). slice_get grown x.0 ≡ Some x.1) xs
    go [] l = tt
    go (x ∷ xs) l = (front-get clauses grown x.0 x.1 k l.0, go xs l.1)

pub all-longer : (ns : List ℕ) (m n : ℕ) → m ≤ n → AllByRecursion (λ (i : ℕ). i < m) ns → AllByRecursion (λ (i : ℕ). i < n) ns
all-longer [] m n l h = tt
all-longer (x ∷ ns) m n l h = ((let a : x < m = h.0 in let b : x < n = omega arith in b), all-longer ns m n l h.1)
