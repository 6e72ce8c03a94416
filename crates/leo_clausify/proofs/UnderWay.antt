-- A split stays under way as its first branch is reduced or is a leaf.
use Rattle.std.proofs.Common.{ℕ, ◌≡◌, ◌∙◌, ◌<◌, ◌≤◌, List, [], ◌∷◌, ◌++◌, length, refl, sym, ap, subst, arith}
use Rattle.std.specs.Prelude.{reverse}
use Rattle.std.proofs.lemmas.List.{map-append, reverse-append}
use Rattle.leo_terms.specs.Contents.{Contents, Extends}
use Rattle.leo_clause.specs.Arranging.{arranged}
use Rattle.leo_clause.specs.Choices.{Choice, choices_at}
use Rattle.leo_clause.specs.declared.choices.Abbr.{Abbr}
use Rattle.leo_clause.specs.Trees.{Literal, ClauseTree, clause_at, literal_at}
use Rattle.leo_kernel.proofs.Growing.{clause-kept}
use Rattle.leo_clausify.specs.declared.agenda.Agenda.{Agenda}
use Rattle.leo_clausify.specs.declared.branch.Branch.{Branch}
use Rattle.leo_clausify.specs.Agendas.{Remains, EachBranch, branch_clause, clauses_of, IsUnderWay, IsFirstOf, with_pending}
use Rattle.leo_clausify.specs.Branches.{IsBranch, IsExtended, Leads, Precedes}
use Rattle.leo_clausify.specs.Forms.{Form, one_form, two_forms, forms_of}
use Rattle.leo_clausify.specs.Reducing.{IsReduced}
use Rattle.leo_clausify.specs.Splitting.{AreReduced, IsFirst, Overflows, Becomes}
use Rattle.leo_clausify.proofs.Branching.{get-map}
use Rattle.leo_clausify.proofs.Chains.{chain-later}
use Rattle.leo_clausify.proofs.Giving.{length-map}
use Rattle.leo_clausify.proofs.Picks.{items-kept}
use Rattle.leo_clausify.proofs.Reduced.{branch-grow, leads-kept, order-grow}
use Rattle.leo_clausify.proofs.Remaining.{remains-leaf, remains-full, remains-one, remains-two, two-same}

-- lists of branches
pub each-end : (P : Branch → Type 0) (bs : List Branch) (b : Branch) → EachBranch P bs → P b → EachBranch P (bs ++ b ∷ [])
each-end P [] b h g = (g, tt)
each-end P (x ∷ bs) b h g = (h.0, each-end P bs b h.1 g)

pub each-front : (P : Branch → Type 0) (bs : List Branch) (b : Branch) → EachBranch P (bs ++ b ∷ []) → EachBranch P bs
each-front P [] b h = tt
each-front P (x ∷ bs) b h = (h.0, each-front P bs b h.1)

pub each-last : (P : Branch → Type 0) (bs : List Branch) (b : Branch) → EachBranch P (bs ++ b ∷ []) → P b
each-last P [] b h = h.0
each-last P (x ∷ bs) b h = each-last P bs b h.1

module _ {c d : Contents} (e : Extends c d) where
  pub branches-grow : (bs : List Branch) → EachBranch (IsBranch c) bs → EachBranch (IsBranch d) bs
  branches-grow [] h = tt
  branches-grow (b ∷ bs) h = (branch-grow e b h.0, branches-grow bs h.1)

  pub clauses-kept : (bs : List Branch) → EachBranch (IsBranch c) bs → clauses_of d bs ≡ clauses_of c bs
  clauses-kept [] h = refl
  clauses-kept (b ∷ bs) h = rw (clause-kept e b.clause h.0.typed.of_bank, clauses-kept bs h.1) refl

  pub leads-later : (choices later : List Choice) (start : ClauseTree) → Precedes choices later → (bs : List Branch) → EachBranch (IsBranch c) bs → EachBranch (Leads c choices start) bs → EachBranch (Leads d later start) bs
  leads-later choices later start before [] h l = tt
  leads-later choices later start before (b ∷ bs) h l = (leads-kept e b h.0 later start (chain-later choices later before start _ _ l.0), leads-later choices later start before bs h.1 l.1)

-- the pending clauses, the first one in front
pub pending-first : (c : Contents) (bs : List Branch) (b : Branch) → reverse (clauses_of c (bs ++ b ∷ [])) ≡ clause_at c b.clause ∷ reverse (clauses_of c bs)
pending-first c bs b = ap reverse (map-append (branch_clause c) bs (b ∷ [])) ∙ reverse-append (clauses_of c bs) (clause_at c b.clause ∷ [])

remains-as : (known room : ℕ) (before choices later : List Choice) (start : ClauseTree) (p q l m : List ClauseTree) → choices ≡ later → p ≡ q → l ≡ m → Remains known room before start choices p l → Remains known room before start later q m
remains-as known room before choices later start p q l m a b d h = subst (λ (cs : List Choice). Remains known room before start cs q m) a (subst (λ (x : List ClauseTree). Remains known room before start choices x m) b (subst (λ (y : List ClauseTree). Remains known room before start choices p y) d h))

module _ (known : ℕ) (before : List Choice) (start : ClauseTree) {old new : Contents} (e : Extends old new) (a : Agenda) (branch : Branch) (h : IsUnderWay known before start old (with_pending a branch)) where
  kept-choices : choices_at new a.choices ≡ choices_at old a.choices
  kept-choices = items-kept e a.choices.items h.agenda.in_order.of_bank

  rest-branches : EachBranch (IsBranch old) a.pending
  rest-branches = each-front (IsBranch old) a.pending branch h.agenda.pending

  first-remains : Remains known 256 before start (choices_at old a.choices) (clause_at old branch.clause ∷ reverse (clauses_of old a.pending)) (clauses_of old a.finished)
  first-remains = subst (λ (x : List ClauseTree). Remains known 256 before start (choices_at old a.choices) x (clauses_of old a.finished)) (pending-first old a.pending branch) h.remains

  -- the first branch is a leaf
  pub under-leaf : (leaf : Branch) → ((later : List Choice) → IsExtended old new later branch leaf (arranged (clause_at old branch.clause))) → 0 < length leaf.steps → AreReduced (clause_at old branch.clause).literals → length a.finished < 256 → IsUnderWay known before start new (record a { finished = a.finished ++ leaf ∷ [] })
  under-leaf leaf x some reduced few =
      let same : Precedes (choices_at old a.choices) (choices_at new a.choices) = λ n k g. rw kept-choices g in
      let y = x (choices_at new a.choices) in
      let n = length-map (branch_clause old) a.finished in
      let r = remains-leaf known 256 before (choices_at old a.choices) start (clause_at old branch.clause) (reverse (clauses_of old a.pending)) (clauses_of old a.finished) first-remains reduced (omega arith) in
      let p : reverse (clauses_of old a.pending) ≡ reverse (clauses_of new a.pending) = ap reverse (sym (clauses-kept e a.pending rest-branches)) in
      let l : clauses_of old a.finished ++ arranged (clause_at old branch.clause) ∷ [] ≡ clauses_of new (a.finished ++ leaf ∷ []) = sym (map-append (branch_clause new) a.finished (leaf ∷ []) ∙ rw (clauses-kept e a.finished h.agenda.finished, y.reads) refl) in
      record {
        agenda = record {
          pending = branches-grow e a.pending rest-branches;
          finished = each-end (IsBranch new) a.finished leaf (branches-grow e a.finished h.agenda.finished) y.branch;
          in_order = order-grow e a.choices.items h.agenda.in_order;
        };
        pending = leads-later e (choices_at old a.choices) (choices_at new a.choices) start same a.pending rest-branches (each-front _ a.pending branch h.pending);
        finished = each-end _ a.finished leaf (leads-later e (choices_at old a.choices) (choices_at new a.choices) start same a.finished h.agenda.finished h.finished) (y.leads (choices_at old a.choices) start same (each-last _ a.pending branch h.pending));
        some = each-end _ a.finished leaf h.some some;
        remains = remains-as known 256 before (choices_at old a.choices) (choices_at new a.choices) start _ _ _ _ (sym kept-choices) p l r;
      }

  pub under-full : AreReduced (clause_at old branch.clause).literals → 256 ≤ length a.finished → Overflows known 256 before start
  under-full reduced full =
      let n = length-map (branch_clause old) a.finished in
      remains-full known 256 before (choices_at old a.choices) start (clause_at old branch.clause) (reverse (clauses_of old a.pending)) (clauses_of old a.finished) first-remains reduced (omega arith)

  -- it has one form
  pub under-one : (choices : Abbr) (r : Branch) (at : ℕ) (l : Literal) (f : Form) → known ≤ length old.symbols → IsFirst (clause_at old branch.clause) at l → forms_of l ≡ one_form f → IsReduced old new a.choices.items choices.items branch r at l f → IsUnderWay known before start new (record { pending = a.pending ++ r ∷ []; finished = a.finished; choices = choices })
  under-one choices r at l f low first form x =
      let m = remains-one known 256 before (choices_at old a.choices) start (clause_at old branch.clause) (reverse (clauses_of old a.pending)) (clauses_of old a.finished) first-remains (choices_at new choices) (clause_at new r.clause) at l f first form (x.becomes known low) in
      let p : clause_at new r.clause ∷ reverse (clauses_of old a.pending) ≡ reverse (clauses_of new (a.pending ++ r ∷ [])) = sym (pending-first new a.pending r ∙ ap (λ (cs : List ClauseTree). clause_at new r.clause ∷ reverse cs) (clauses-kept e a.pending rest-branches)) in
      record {
        agenda = record {
          pending = each-end (IsBranch new) a.pending r (branches-grow e a.pending rest-branches) x.extended.branch;
          finished = branches-grow e a.finished h.agenda.finished;
          in_order = x.in_order;
        };
        pending = each-end _ a.pending r (leads-later e (choices_at old a.choices) (choices_at new choices) start x.precedes a.pending rest-branches (each-front _ a.pending branch h.pending)) (x.extended.leads (choices_at old a.choices) start x.precedes (each-last _ a.pending branch h.pending));
        finished = leads-later e (choices_at old a.choices) (choices_at new choices) start x.precedes a.finished h.agenda.finished h.finished;
        some = h.some;
        remains = remains-as known 256 before (choices_at new choices) (choices_at new choices) start _ _ _ _ refl p (sym (clauses-kept e a.finished h.agenda.finished)) m;
      }

  -- it has two, of which the first was made in the bank between
  pub under-two : {middle : Contents} → Extends old middle → Extends middle new → (between choices : Abbr) (r u : Branch) (at : ℕ) (l : Literal) (f g : Form) → known ≤ length old.symbols → IsFirst (clause_at old branch.clause) at l → forms_of l ≡ two_forms f g → IsReduced old middle a.choices.items between.items branch r at l f → IsReduced middle new between.items choices.items branch u at l g → IsUnderWay known before start new (record { pending = (a.pending ++ u ∷ []) ++ r ∷ []; finished = a.finished; choices = choices })
  under-two {middle} i j between choices r u at l f g low first form x y =
      let old_branch : IsBranch old branch = each-last (IsBranch old) a.pending branch h.agenda.pending in
      let more = i.symbols_more in
      let tree : clause_at middle branch.clause ≡ clause_at old branch.clause = clause-kept i branch.clause old_branch.typed.of_bank in
      let here : clause_at new r.clause ≡ clause_at middle r.clause = clause-kept j r.clause x.extended.branch.typed.of_bank in
      let one = two-same known (choices_at old a.choices) (choices_at middle between) (clause_at old branch.clause) (clause_at middle r.clause) at l f f g form (x.becomes known low) in
      let two = two-same known (choices_at middle between) (choices_at new choices) (clause_at middle branch.clause) (clause_at new u.clause) at l g f g form (y.becomes known (omega arith)) in
      let first_becomes : Becomes known (choices_at old a.choices) (clause_at old branch.clause) at l f (choices_at new choices) (clause_at new r.clause) =
      subst (λ (cs : List Choice). Becomes known (choices_at old a.choices) (clause_at old branch.clause) at l f cs (clause_at new r.clause)) (sym (two.0 ∙ one.0))
      (subst (λ (t : ClauseTree). Becomes known (choices_at old a.choices) (clause_at old branch.clause) at l f (choices_at old a.choices) t) (sym here) (one.1 (choices_at old a.choices))) in
      let other_becomes : (ch : List Choice) → Becomes known ch (clause_at old branch.clause) at l g ch (clause_at new u.clause) = λ ch. subst (λ (t : ClauseTree). Becomes known ch t at l g ch (clause_at new u.clause)) tree (two.1 ch) in
      let m = remains-two known 256 before (choices_at old a.choices) start (clause_at old branch.clause) (reverse (clauses_of old a.pending)) (clauses_of old a.finished) first-remains (choices_at new choices) (choices_at new choices) (clause_at new r.clause) (clause_at new u.clause) at l f g first form first_becomes other_becomes in
      let p : clause_at new r.clause ∷ clause_at new u.clause ∷ reverse (clauses_of old a.pending) ≡ reverse (clauses_of new ((a.pending ++ u ∷ []) ++ r ∷ [])) = sym (pending-first new (a.pending ++ u ∷ []) r ∙ ap (λ (cs : List ClauseTree). clause_at new r.clause ∷ cs) (pending-first new a.pending u ∙ ap (λ (cs : List ClauseTree). clause_at new u.clause ∷ reverse cs) (clauses-kept e a.pending rest-branches))) in
      let precedes : Precedes (choices_at old a.choices) (choices_at new choices) = λ n k q. y.precedes n k (x.precedes n k q) in
      let branch_leads : Leads old (choices_at old a.choices) start branch = each-last _ a.pending branch h.pending in
      let r_leads : Leads middle (choices_at middle between) start r = x.extended.leads (choices_at old a.choices) start x.precedes branch_leads in
      let r_new : Leads new (choices_at new choices) start r = leads-kept j r x.extended.branch (choices_at new choices) start (chain-later (choices_at middle between) (choices_at new choices) y.precedes start _ _ r_leads) in
      let u_before : Leads middle (choices_at old a.choices) start branch = leads-kept i branch old_branch (choices_at old a.choices) start branch_leads in
      let u_new : Leads new (choices_at new choices) start u = y.extended.leads (choices_at old a.choices) start precedes u_before in
      record {
        agenda = record {
          pending = each-end (IsBranch new) (a.pending ++ u ∷ []) r (each-end (IsBranch new) a.pending u (branches-grow e a.pending rest-branches) y.extended.branch) (branch-grow j r x.extended.branch);
          finished = branches-grow e a.finished h.agenda.finished;
          in_order = y.in_order;
        };
        pending = each-end _ (a.pending ++ u ∷ []) r (each-end _ a.pending u (leads-later e (choices_at old a.choices) (choices_at new choices) start precedes a.pending rest-branches (each-front _ a.pending branch h.pending)) u_new) r_new;
        finished = leads-later e (choices_at old a.choices) (choices_at new choices) start precedes a.finished h.agenda.finished h.finished;
        some = h.some;
        remains = remains-as known 256 before (choices_at new choices) (choices_at new choices) start _ _ _ _ refl p (sym (clauses-kept e a.finished h.agenda.finished)) m;
      }

-- the first literal that can be reduced, as a literal of the tree
pub first-tree : (c : Contents) (b : Branch) (at : ℕ) (h : IsFirstOf c b.clause.lits at) → IsFirst (clause_at c b.clause) at (literal_at c h.lit)
first-tree c b at h = record { stands = get-map (literal_at c) b.clause.lits at h.lit h.stands; earlier = h.earlier }
