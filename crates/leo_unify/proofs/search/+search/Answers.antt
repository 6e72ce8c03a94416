use Rattle.std.proofs.Common.{◌∙◌, [], refl, arith}
use Rattle.leo_terms.proofs.CallerLemmas.{extends-itself, extends-trans}
use Rattle.leo_unify.specs.Search.{enough, none, at_end}
use Rattle.leo_unify.specs.States.{state_at}
use Rattle.leo_unify.specs.Views.{binding_at}
use Rattle.leo_unify.proofs.SearchLemmas.{rest-finds, rest-sigmas, state-grows, bind-in, bind-types, bind-finds, replace-state, replace-types, replace-finds, branch-in, branch-finds, branch-types, next-binding, next-in, all-few, all-sigmas, all-found, all-taken}
use Rattle.leo_unify.proofs.Places.{length-map}
use Rattle.leo_unify.proofs.search.+search.Goals.{search-in-Replace+in_ok-present-in-Replace, search-in-Bind+in_ok-present-in-Bind}
use Rattle.leo_unify.proofs.search.+search.Goals as goal

pub search-returns-then-wanted-eq0-clause-found : goal.search-returns-then-wanted-eq0-clause-found
search-returns-then-wanted-eq0-clause-found m c =
    rw (c.if-wanted-eq0.true, c.new.ensures) (enough _)

pub search-returns-then-wanted-eq0-clause-grows : goal.search-returns-then-wanted-eq0-clause-grows
search-returns-then-wanted-eq0-clause-grows m c =
    extends-itself c.is_sound.ensures.sound

pub search-loop-init : goal.search-loop-init
search-loop-init m c =
    (extends-itself c.is_sound.ensures.sound, c.requires.state, refl, λ xs f. f)

pub search-first_work-requires : goal.search-first_work-requires
search-first_work-requires m c =
    record { state = c.loop.invariant.1 }

pub search-returns-in_err-work-clause-grows : goal.search-returns-in_err-work-clause-grows
search-returns-in_err-work-clause-grows m c =
    extends-trans c.loop.invariant.0 c.first_work.ensures.grows

pub search-returns-in_err-found-in-Stay-clause-grows : goal.search-returns-in_err-found-in-Stay-clause-grows
search-returns-in_err-found-in-Stay-clause-grows m c =
    extends-trans c.loop.invariant.0 c.first_work.ensures.grows

pub search-returns-in-Stay-clause-found : goal.search-returns-in-Stay-clause-found
search-returns-in-Stay-clause-found m c =
    rw c.in_ok-found-in-Stay.ensures (c.loop.invariant.3 _ (rest-finds c.first_work.ensures.grows c.loop.present c.loop.invariant.1 c.args.depth c.args.wanted c.in_ok-work.work.place c.if-wanted-eq0.false (rw c.in-Stay.is at c.in_ok-work.ensures.value)))

pub search-returns-in-Stay-clause-sigmas : goal.search-returns-in-Stay-clause-sigmas
search-returns-in-Stay-clause-sigmas m c =
    rw c.in_ok-found-in-Stay.ensures (rest-sigmas c.first_work.ensures.grows c.loop.present c.loop.invariant.1 c.args.depth c.args.wanted c.in_ok-work.work.place _ c.loop.invariant.2)

pub search-returns-in-Stay-clause-grows : goal.search-returns-in-Stay-clause-grows
search-returns-in-Stay-clause-grows m c =
    extends-trans c.loop.invariant.0 c.first_work.ensures.grows

pub search-returns-in_err-present-in-Replace-clause-grows : goal.search-returns-in_err-present-in-Replace-clause-grows
search-returns-in_err-present-in-Replace-clause-grows m c =
    extends-trans c.loop.invariant.0 c.first_work.ensures.grows

pub search-with_binding-requires-clause-state : goal.search-with_binding-requires-clause-state
search-with_binding-requires-clause-state m c =
    state-grows c.first_work.ensures.grows c.loop.present c.loop.invariant.1

pub search-with_binding-requires-clause-typed : goal.search-with_binding-requires-clause-typed
search-with_binding-requires-clause-typed m c =
    bind-in c.first_work.ensures.grows c.loop.present c.loop.invariant.1 c.args.depth c.args.wanted c.in_ok-work.work.place c.in-Bind.binding (rw c.in-Bind.is at c.in_ok-work.ensures.typed)

pub search-returns-in_err-present-in-Bind-clause-grows : goal.search-returns-in_err-present-in-Bind-clause-grows
search-returns-in_err-present-in-Bind-clause-grows m c =
    extends-trans (extends-trans c.loop.invariant.0 c.first_work.ensures.grows) c.with_binding.ensures.grows

pub search-returns-in-Refuse-clause-found : goal.search-returns-in-Refuse-clause-found
search-returns-in-Refuse-clause-found m c =
    rw c.new-in-Refuse.ensures (c.loop.invariant.3 [] (none _ _ (rw c.in-Refuse.is at c.in_ok-work.ensures.value)))

pub search-returns-in-Refuse-clause-grows : goal.search-returns-in-Refuse-clause-grows
search-returns-in-Refuse-clause-grows m c =
    extends-trans c.loop.invariant.0 c.first_work.ensures.grows

pub search-search_all-requires : goal.search-search_all-requires
search-search_all-requires m c =
    let k = c.in-Some.ensures in
    (omega arith, (state-grows c.first_work.ensures.grows c.loop.present c.loop.invariant.1, (rw c.as_slice.ensures (rw c.in-Branch.is at c.in_ok-work.ensures.within), rw c.as_slice.ensures (branch-in c.first_work.ensures.grows c.loop.present c.loop.invariant.1 c.args.depth c.args.wanted c.in_ok-work.work.place c.in-Branch.bindings (rw c.in-Branch.is at c.in_ok-work.ensures.typed)))))

pub search-returns-in_err-found-in-Branch-clause-grows : goal.search-returns-in_err-found-in-Branch-clause-grows
search-returns-in_err-found-in-Branch-clause-grows m c =
    extends-trans (extends-trans c.loop.invariant.0 c.first_work.ensures.grows) c.search_all.ensures.grows

pub search-returns-in-Branch-clause-found : goal.search-returns-in-Branch-clause-found
search-returns-in-Branch-clause-found m c =
    let k = c.in-Some.ensures in
    c.loop.invariant.3 _ (branch-finds c.first_work.ensures.grows c.loop.present c.loop.invariant.1 c.args.depth c.args.wanted c.in_ok-work.work.place c.in-Branch.bindings (rw c.in-Branch.is at c.in_ok-work.ensures.value) c.in-Some.left (omega arith) _ (rw c.as_slice.ensures at c.in_ok-found-in-Branch.ensures.found))

pub search-returns-in-Branch-clause-sigmas : goal.search-returns-in-Branch-clause-sigmas
search-returns-in-Branch-clause-sigmas m c =
    branch-types c.first_work.ensures.grows c.loop.present c.loop.invariant.1 c.args.depth c.args.wanted c.in_ok-work.work.place c.in-Branch.bindings _ _ _ c.loop.invariant.2 c.in_ok-found-in-Branch.ensures.sigmas

pub search-returns-in-Branch-clause-grows : goal.search-returns-in-Branch-clause-grows
search-returns-in-Branch-clause-grows m c =
    extends-trans (extends-trans c.loop.invariant.0 c.first_work.ensures.grows) c.search_all.ensures.grows

pub search-returns-in_default-clause-grows : goal.search-returns-in_default-clause-grows
search-returns-in_default-clause-grows m c =
    extends-trans c.loop.invariant.0 c.first_work.ensures.grows

pub search-loop-preserved : goal.search-loop-preserved
search-loop-preserved m c =
    elim c.match-act.branch [
      | search-in-Replace+in_ok-present-in-Replace w ↦ rw (w.bank-is, w.present-is)
          (extends-trans c.loop.invariant.0 c.first_work.ensures.grows, replace-state c.first_work.ensures.grows c.loop.present c.loop.invariant.1 c.args.depth c.args.wanted c.in_ok-work.work.place w.in-Replace.pairs (rw w.in-Replace.is at c.in_ok-work.ensures.within) (rw w.in-Replace.is at c.in_ok-work.ensures.typed) w.in_ok-present-in-Replace.present w.in_ok-present-in-Replace.ensures.vars w.in_ok-present-in-Replace.ensures.terms w.in_ok-present-in-Replace.ensures.pairs, replace-types c.first_work.ensures.grows c.loop.present c.loop.invariant.1 c.args.depth c.args.wanted c.in_ok-work.work.place w.in-Replace.pairs (rw w.in-Replace.is at c.in_ok-work.ensures.within) (rw w.in-Replace.is at c.in_ok-work.ensures.typed) w.in_ok-present-in-Replace.present w.in_ok-present-in-Replace.ensures.vars w.in_ok-present-in-Replace.ensures.terms w.in_ok-present-in-Replace.ensures.pairs ∙ c.loop.invariant.2, λ xs f. c.loop.invariant.3 xs (replace-finds c.first_work.ensures.grows c.loop.present c.loop.invariant.1 c.args.depth c.args.wanted c.in_ok-work.work.place w.in-Replace.pairs (rw w.in-Replace.is at c.in_ok-work.ensures.within) (rw w.in-Replace.is at c.in_ok-work.ensures.typed) w.in_ok-present-in-Replace.present w.in_ok-present-in-Replace.ensures.vars w.in_ok-present-in-Replace.ensures.terms w.in_ok-present-in-Replace.ensures.pairs (rw w.in-Replace.is at c.in_ok-work.ensures.value) xs f))
      | search-in-Bind+in_ok-present-in-Bind w ↦ rw (w.bank-is, w.present-is)
          (extends-trans (extends-trans c.loop.invariant.0 c.first_work.ensures.grows) w.with_binding.ensures.grows, w.in_ok-present-in-Bind.ensures.state, bind-types c.first_work.ensures.grows c.loop.present c.loop.invariant.1 c.args.depth c.args.wanted c.in_ok-work.work.place w.in-Bind.binding w.with_binding.new.bank w.in_ok-present-in-Bind.present w.in_ok-present-in-Bind.ensures.types ∙ c.loop.invariant.2, λ xs f. c.loop.invariant.3 xs (bind-finds c.first_work.ensures.grows c.loop.present c.loop.invariant.1 c.args.depth c.args.wanted c.in_ok-work.work.place w.in-Bind.binding (rw w.in-Bind.is at c.in_ok-work.ensures.value) _ _ w.in_ok-present-in-Bind.ensures.value xs f))
    ]

pub search-returns-clause-grows : goal.search-returns-clause-grows
search-returns-clause-grows m c =
    c.loop.invariant.0

pub search_all-loop-place-init : goal.search_all-loop-place-init
search_all-loop-place-init m c =
    (extends-itself c.is_sound.ensures.sound, rw c.new-found.ensures (omega arith), rw c.new-found.ensures tt, λ d. rw c.new-found.ensures (at_end _))

pub search_all-with_binding-requires-clause-state : goal.search_all-with_binding-requires-clause-state
search_all-with_binding-requires-clause-state m c =
    state-grows c.loop-place.invariant.0 c.args.state.now c.requires.state

pub search_all-with_binding-requires-clause-binding : goal.search_all-with_binding-requires-clause-binding
search_all-with_binding-requires-clause-binding m c =
    next-binding c.loop-place.invariant.0 c.args.state.now c.requires.state c.args.bindings.now c.requires.bindings c.requires.typed c.loop-place.place c.index-bindings-place.result c.loop-place-test.true c.index-bindings-place.is

pub search_all-with_binding-requires-clause-typed : goal.search_all-with_binding-requires-clause-typed
search_all-with_binding-requires-clause-typed m c =
    next-in c.loop-place.invariant.0 c.args.state.now c.requires.state c.args.bindings.now c.requires.bindings c.requires.typed c.loop-place.place c.index-bindings-place.result c.loop-place-test.true c.index-bindings-place.is

pub search_all-returns-in_err-next-clause-grows : goal.search_all-returns-in_err-next-clause-grows
search_all-returns-in_err-next-clause-grows m c =
    extends-trans c.loop-place.invariant.0 c.with_binding.ensures.grows

pub search_all-overflow_sub-wanted : goal.search_all-overflow_sub-wanted
search_all-overflow_sub-wanted m c =
    rw c.len.ensures c.loop-place.invariant.1

pub search_all-returns-in_err-more-clause-grows : goal.search_all-returns-in_err-more-clause-grows
search_all-returns-in_err-more-clause-grows m c =
    extends-trans (extends-trans c.loop-place.invariant.0 c.with_binding.ensures.grows) c.search.ensures.grows

pub search_all-returns-in_err-append-clause-grows : goal.search_all-returns-in_err-append-clause-grows
search_all-returns-in_err-append-clause-grows m c =
    extends-trans (extends-trans c.loop-place.invariant.0 c.with_binding.ensures.grows) c.search.ensures.grows

pub search_all-loop-place-preserved : goal.search_all-loop-place-preserved
search_all-loop-place-preserved m c = (
  extends-trans (extends-trans c.loop-place.invariant.0 c.with_binding.ensures.grows) c.search.ensures.grows,
  rw c.in_ok-append.ensures (all-few c.loop-place.invariant.0 c.args.state.now c.requires.state c.args.bindings.now c.requires.bindings c.requires.typed c.loop-place.place c.index-bindings-place.result c.loop-place-test.true c.index-bindings-place.is c.with_binding.ensures.grows c.search.ensures.grows c.args.depth c.args.wanted c.in_ok-next.next c.in_ok-next.ensures.value c.in_ok-next.ensures.types c.loop-place.found c.in_ok-more.more c.loop-place.invariant.2 (rw c.len.ensures at c.in_ok-more.ensures.found) c.in_ok-more.ensures.sigmas c.loop-place.invariant.1),
  rw c.in_ok-append.ensures (all-sigmas c.loop-place.invariant.0 c.args.state.now c.requires.state c.args.bindings.now c.requires.bindings c.requires.typed c.loop-place.place c.index-bindings-place.result c.loop-place-test.true c.index-bindings-place.is c.with_binding.ensures.grows c.search.ensures.grows c.args.depth c.args.wanted c.in_ok-next.next c.in_ok-next.ensures.value c.in_ok-next.ensures.types c.loop-place.found c.in_ok-more.more c.loop-place.invariant.2 (rw c.len.ensures at c.in_ok-more.ensures.found) c.in_ok-more.ensures.sigmas),
  λ d. rw c.in_ok-append.ensures (all-found c.loop-place.invariant.0 c.args.state.now c.requires.state c.args.bindings.now c.requires.bindings c.requires.typed c.loop-place.place c.index-bindings-place.result c.loop-place-test.true c.index-bindings-place.is c.with_binding.ensures.grows c.search.ensures.grows c.args.depth c.args.wanted c.in_ok-next.next c.in_ok-next.ensures.value c.in_ok-next.ensures.types c.loop-place.found c.in_ok-more.more c.loop-place.invariant.2 (rw c.len.ensures at c.in_ok-more.ensures.found) c.in_ok-more.ensures.sigmas d (c.loop-place.invariant.3 d)),
)

pub search_all-returns-clause-found : goal.search_all-returns-clause-found
search_all-returns-clause-found m c =
    λ d. all-taken (state_at c.args.bank.now c.args.state.now d) c.args.depth c.args.wanted _ c.loop-place.place _ (let l = c.loop-place-test.false in let k = length-map (binding_at c.args.bank.now) c.args.bindings.now in omega arith) (c.loop-place.invariant.3 d)

pub search_all-returns-clause-sigmas : goal.search_all-returns-clause-sigmas
search_all-returns-clause-sigmas m c =
    c.loop-place.invariant.2

pub search_all-returns-clause-grows : goal.search_all-returns-clause-grows
search_all-returns-clause-grows m c =
    c.loop-place.invariant.0
