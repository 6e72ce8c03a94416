use Rattle.std.proofs.Common.{ℕ, List, length, subst, suc, nat_eq, ◌%◌, ◌≤◌}
use Rattle.leo_terms.proofs.CallerLemmas.{extends-itself}
use Rattle.leo_turn.specs.Turns.{ArePartners, Infers, setting_of, stock_of}
use Rattle.leo_turn.proofs.Growing.{grows-itself}
use Rattle.leo_turn.proofs.Passives.{below-has, once-given, partners-below}
use Rattle.leo_turn.proofs.Turned.{first-has, given-has, on-err, search-given, turned}
use Rattle.leo_turn.proofs.turning.work.Goals as goal

pub partners-requires : goal.partners-requires
partners-requires c = record { once = λ n. rw c.as_slice.ensures (once-given (length c.args.search.now.kept) c.args.given c.args.search.now.active c.args.search.now.passive c.requires.search.shared (first-has (nat_eq (suc c.args.search.now.turns % 5) 0) c.args.search.now.passive c.args.given c.requires.given) n) }

pub returns-in_err-partners-clause-longer : goal.returns-in_err-partners-clause-longer
returns-in_err-partners-clause-longer c = on-err c.from_residual.result (grows-itself c.args.search.now)

pub returns-in_err-partners-clause-grows : goal.returns-in_err-partners-clause-grows
returns-in_err-partners-clause-grows c = extends-itself c.is_sound.ensures.sound

pub infer-requires-clause-given : goal.infer-requires-clause-given
infer-requires-clause-given c = below-has (length c.args.search.now.kept) c.args.given c.args.search.now.passive c.requires.search.shared.passive_below (first-has (nat_eq (suc c.args.search.now.turns % 5) 0) c.args.search.now.passive c.args.given c.requires.given)

pub infer-requires-clause-partners : goal.infer-requires-clause-partners
infer-requires-clause-partners c =
    let has = first-has (nat_eq (suc c.args.search.now.turns % 5) 0) c.args.search.now.passive c.args.given c.requires.given in
    let are : ArePartners c.args.search.now.active c.args.given c.in_ok-partners.partners.items = subst (λ (ns : List ℕ). ArePartners ns c.args.given c.in_ok-partners.partners.items) c.as_slice.ensures c.in_ok-partners.ensures in
    rw c.deref.ensures.value (partners-below (length c.args.search.now.kept) c.args.given c.args.search.now.active c.in_ok-partners.partners.items (below-has (length c.args.search.now.kept) c.args.given c.args.search.now.passive c.requires.search.shared.passive_below has) c.requires.search.shared.active_below are.same)

pub returns-clause-search : goal.returns-clause-search
returns-clause-search c =
    let has = given-has c.infer.ensures.grows c.args.search.now c.infer.new.search c.requires.search c.in_ok-infer.ensures.search c.infer.ensures.longer c.args.given c.requires.given in
    rw (c.in_ok-push.ensures.ok, c.remove.ensures) (search-given c.infer.new.bank c.infer.new.search c.args.given c.in_ok-infer.ensures.search has)

pub returns-clause-turn : goal.returns-clause-turn
returns-clause-turn c = λ symbols l.
    let are : ArePartners c.args.search.now.active c.args.given c.in_ok-partners.partners.items = subst (λ (ns : List ℕ). ArePartners ns c.args.given c.in_ok-partners.partners.items) c.as_slice.ensures c.in_ok-partners.ensures in
    let inferred : (symbols : ℕ) → symbols ≤ length c.args.bank.now.symbols → Infers (setting_of symbols c.args.search.now) c.args.given c.in_ok-partners.partners.items (stock_of c.args.bank.now c.args.search.now) (stock_of c.infer.new.bank c.infer.new.search) =
    subst (λ (ns : List ℕ). (symbols : ℕ) → symbols ≤ length c.args.bank.now.symbols → Infers (setting_of symbols c.args.search.now) c.args.given ns (stock_of c.args.bank.now c.args.search.now) (stock_of c.infer.new.bank c.infer.new.search)) c.deref.ensures.value c.in_ok-infer.ensures.inferred in
    rw (c.in_ok-push.ensures.ok, c.remove.ensures, c.clauses-2.ensures, c.clauses.ensures) (turned c.infer.ensures.grows c.args.search.now c.infer.new.search c.requires.search c.in_ok-infer.ensures.search c.infer.ensures.longer c.args.given c.requires.given c.in_ok-partners.partners.items are inferred symbols l)
