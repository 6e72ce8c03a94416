use Rattle.std.proofs.Common.{suc, ◌+◌, ◌-◌, ◌≡◌, ◌<◌, ◌≤◌, length, arith, rules, add-one, ℕ, ◌⊎◌, inl, inr}
use Rattle.fo_terms.specs.Places.{arguments_of}
use Rattle.fo_kbo.proofs.Scanning.{IsScanned, IsScanned-start, IsScanned-inside, IsScanned-node, count-terms_at}
use Rattle.fo_kbo.proofs.passing.pass.Goals as goal

pub loop-missing-init : goal.loop-missing-init
loop-missing-init c = IsScanned-start c.args.nodes.now c.args.at c.args.terms c.requires.within c.requires.enough

pub node_at-requires : goal.node_at-requires
node_at-requires c =
    let one : c.loop-missing.missing ≡ suc (c.loop-missing.missing - 1) = omega arith in
    let now : IsScanned c.args.nodes.now c.args.at c.args.terms c.loop-missing.here (suc (c.loop-missing.missing - 1)) = rw one at c.loop-missing.invariant in
    IsScanned-inside c.args.nodes.now c.args.at c.args.terms c.loop-missing.here (c.loop-missing.missing - 1) now

module _ (c : goal.After-arguments) where
  one : c.loop-missing.missing ≡ suc (c.loop-missing.missing - 1)
  one = omega arith

  now : IsScanned c.args.nodes.now c.args.at c.args.terms c.loop-missing.here (suc (c.loop-missing.missing - 1))
  now = rw one at c.loop-missing.invariant

  next : IsScanned c.args.nodes.now c.args.at c.args.terms (suc c.loop-missing.here) (c.loop-missing.missing - 1 + arguments_of c.node_at.result)
  next = IsScanned-node c.args.nodes.now c.args.at c.args.terms c.loop-missing.here (c.loop-missing.missing - 1) c.node_at.result c.requires.full c.node_at.ensures now

  inside : c.loop-missing.here < length c.args.nodes.now
  inside = IsScanned-inside c.args.nodes.now c.args.at c.args.terms c.loop-missing.here (c.loop-missing.missing - 1) now

  pub bounded : c.loop-missing.missing - 1 + c.arguments.result ≤ length c.args.nodes.now
  bounded =
      let n = next in
      let r = c.arguments.ensures.result in
      let e = n.enough in
      let i = n.inside in
      let l = count-terms_at c.args.nodes.now (suc c.loop-missing.here) n.inside in
      omega arith

pub overflow_add-missing : goal.overflow_add-missing
overflow_add-missing c = let b = bounded c in search rules

pub loop-missing-smaller : goal.loop-missing-smaller
loop-missing-smaller c = let i = inside c in omega arith

pub loop-missing-preserved : goal.loop-missing-preserved
loop-missing-preserved c = rw (add-one, c.arguments.ensures.result) (next c)

at_or_past : (a h : ℕ) → a ≤ h → (h ≡ a) ⊎ (a < h)
at_or_past a h l = grind arith

further : (a h n : ℕ) → a ≤ h → (h ≡ a → 0 ≡ n) → 0 < n → a < h
further a h n l s p = elim (at_or_past a h l) [ inl e ↦ (let z = s e in absurd (omega arith)) | inr q ↦ q ]

pub returns : goal.returns
returns c =
    let over : c.loop-missing.missing ≡ 0 = omega arith in
    let scanned : IsScanned c.args.nodes.now c.args.at c.args.terms c.loop-missing.here 0 = rw over at c.loop-missing.invariant in
    let l = scanned.later in
    record {
      inside = scanned.inside;
      no_earlier = scanned.later;
      later = (λ p. further c.args.at c.loop-missing.here c.args.terms scanned.later scanned.started p);
      reads = scanned.reads;
    }
