use Rattle.std.proofs.Common.{◌++◌, sym, ◌∙◌, ap}
use Rattle.fo_replay.specs.Instances.{numbers_as_words}
use Rattle.fo_replay.proofs.Instancing.{no_sorts}
use Rattle.fo_replay.proofs.instance.sorts_of.Goals as goal

pub returns-in_default-sort_in : goal.returns-in_default-sort_in
returns-in_default-sort_in c = λ ns e h.
    no_sorts c.args.sorts c.loop-word.list c.in-Some.word.now c.in-Some.tail.now ns (ap (λ u. numbers_as_words c.loop-word.list ++ u) (sym c.in-Some.ensures.cases.0) ∙ sym c.loop-word.invariant.0 ∙ e) h c.in_default-sort_in.ensures
