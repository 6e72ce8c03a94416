use Rattle.std.proofs.Common.{inl, inr, refl}
use Rattle.leo_terms.proofs.part.moved_view.Goals as goal

pub number_at-requires : goal.number_at-requires
number_at-requires c = c.requires c.in-App.f (rw c.in-App.is (inl refl))

pub number_at-requires-in-App : goal.number_at-requires-in-App
number_at-requires-in-App c = c.requires c.in-App.a (rw c.in-App.is (inr refl))

pub number_at-requires-in-Lam : goal.number_at-requires-in-Lam
number_at-requires-in-Lam c = c.requires c.in-Lam.body (rw c.in-Lam.is (inl refl))

pub moved_argument-x-requires : goal.moved_argument-x-requires
moved_argument-x-requires c = λ i e. c.requires i (rw c.in-Logic.is (inl e))

pub moved_argument-y-requires : goal.moved_argument-y-requires
moved_argument-y-requires c = λ i e. c.requires i (rw c.in-Logic.is (inr e))
