use Rattle.leo_tstp.proofs.Typing.{goes-by, goes-trans}
use Rattle.leo_tstp.proofs.reading.source.Reader.typing.Goals as goal

pub returns-clause-goes : goal.returns-clause-goes
returns-clause-goes c =
    goes-trans _ _ _ (goes-by _ _ c.in_ok-take_all.ensures.stays) (goes-trans _ _ _ (goes-by _ _ c.in_ok-take.ensures.stays)
    (goes-trans _ _ _ (goes-by _ _ c.in_ok-take_all-2.ensures.stays) (goes-trans _ _ _ (goes-by _ _ c.in_ok-take-2.ensures.stays)
    (goes-trans _ _ _ (goes-by _ _ c.in_ok-take-3.ensures.stays) (goes-trans _ _ _ c.in_ok-ty.ensures.goes (goes-by _ _ c.in_ok-take_all-3.ensures.stays))))))
