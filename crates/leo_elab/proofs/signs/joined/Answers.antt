use Rattle.leo_elab.proofs.signs.joined.Goals as goal

pub returns-in_ok-r-in-Or-clause-made : goal.returns-in_ok-r-in-Or-clause-made
returns-in_ok-r-in-Or-clause-made c = rw c.in-Or.is (λ s m n x y. c.in_ok-r-in-Or.ensures.made s m n x y)

pub returns-in_ok-r-in-And-clause-made : goal.returns-in_ok-r-in-And-clause-made
returns-in_ok-r-in-And-clause-made c = rw c.in-And.is (λ s m n x y. c.in_ok-r-in-And.ensures.made s m n x y)

pub returns-in_ok-r-in-Implies-clause-made : goal.returns-in_ok-r-in-Implies-clause-made
returns-in_ok-r-in-Implies-clause-made c = rw c.in-Implies.is (λ s m n x y. c.in_ok-r-in-Implies.ensures.made s m n x y)

pub returns-in_ok-r-in-ImpliedBy-clause-made : goal.returns-in_ok-r-in-ImpliedBy-clause-made
returns-in_ok-r-in-ImpliedBy-clause-made c = rw c.in-ImpliedBy.is (λ s m n x y. c.in_ok-r-in-ImpliedBy.ensures.made s n m y x)

pub returns-in_ok-r-in-Iff-clause-made : goal.returns-in_ok-r-in-Iff-clause-made
returns-in_ok-r-in-Iff-clause-made c = rw c.in-Iff.is (λ s m n x y. c.in_ok-r-in-Iff.ensures.made s m n x y)

pub returns-in_ok-r-in-Xor-clause-made : goal.returns-in_ok-r-in-Xor-clause-made
returns-in_ok-r-in-Xor-clause-made c = rw c.in-Xor.is (λ s m n x y. c.in_ok-r-in-Xor.ensures.made s m n x y)

pub returns-in_ok-r-in-Nor-clause-made : goal.returns-in_ok-r-in-Nor-clause-made
returns-in_ok-r-in-Nor-clause-made c = rw c.in-Nor.is (λ s m n x y. c.in_ok-r-in-Nor.ensures.made s m n x y)

pub returns-in_ok-r-in-Nand-clause-made : goal.returns-in_ok-r-in-Nand-clause-made
returns-in_ok-r-in-Nand-clause-made c = rw c.in-Nand.is (λ s m n x y. c.in_ok-r-in-Nand.ensures.made s m n x y)
