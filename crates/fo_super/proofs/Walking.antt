-- The walk over the places of a term.
use Rattle.std.proofs.Common.{ℕ, zero, suc, ◌≡◌, ◌∙◌, ◌+◌, ◌-◌, ◌<◌, Bool, true, false, List, [], ◌∷◌, ◌++◌, length, map, Option, refl, sym, ap, subst, arith, append_assoc}
use Rattle.std.specs.Prelude.{cond, filter, reverse}
use Rattle.std.proofs.lemmas.List.{append-nil, map-append, reverse-append, reverse-reverse}
use Rattle.std.proofs.lemmas.List.Elements.{filter-append}
use Rattle.fo_terms.specs.declared.term.FoNode.{FoNode}
use Rattle.fo_terms.specs.declared.term.FoNode.TheVariants.{Var, Sym}
use Rattle.fo_terms.specs.Terms.{Term, Terms, variable, symbol, none, more, first_terms, terms_after, first_term}
use Rattle.fo_terms.specs.Prefix.{prefix, terms_of, with_node}
use Rattle.fo_terms.specs.Reading.{terms_of-prefix}
use Rattle.fo_super.specs.declared.member.FoMember.{FoMember}
use Rattle.fo_super.specs.declared.sites.Frame.{Frame}
use Rattle.fo_super.specs.declared.sites.Spot.{Spot}
use Rattle.fo_super.specs.Sifting.{meets, sites, sites_in_all}
use Rattle.fo_super.specs.Walks.{selected, made, behind_first, below, pending}

abbrev Site : Type 0
Site = List ℕ × ℕ

abbrev frame : ℕ → ℕ → Frame
frame n k = record { next = n; left = k }

-- a site below an argument
deeper : (path : List ℕ) (n : ℕ) (ss : List Site) → map (below path) (map (λ (s : Site). (n ∷ s.0, s.1)) ss) ≡ map (below (n ∷ path)) ss
deeper path n [] = refl
deeper path n (s ∷ ss) =
    let e : reverse (n ∷ path) ≡ reverse path ++ n ∷ [] = reverse-append (n ∷ []) path in
    let f : reverse path ++ (n ∷ s.0) ≡ reverse (n ∷ path) ++ s.0 = sym (append_assoc (reverse path) (n ∷ []) s.0) ∙ ap (λ (x : List ℕ). x ++ s.0) (sym e) in
    ap (λ (x : List ℕ). let y : Site = (x, s.1) in y ∷ map (below path) (map (λ (z : Site). (n ∷ z.0, z.1)) ss)) f ∙ ap (λ (x : List Site). below (n ∷ path) s ∷ x) (deeper path n ss)

-- a variable has no place
pub variable-passed : (path : List ℕ) (n k : ℕ) (fs : List Frame) (v : ℕ) (ts : Terms) → pending path (frame n (suc k) ∷ fs) (more (variable v) ts) ≡ pending path (frame (suc n) k ∷ fs) ts
variable-passed path n k fs v ts = refl

-- a symbol has one, and then those of its arguments
pub symbol-passed : (path : List ℕ) (n k : ℕ) (fs : List Frame) (f c : ℕ) (ts : Terms) →
    pending path (frame n (suc k) ∷ fs) (more (symbol f (first_terms c ts)) (terms_after c ts)) ≡ (reverse path ++ n ∷ [], f) ∷ pending (n ∷ path) (frame 0 c ∷ (frame (suc n) k ∷ fs)) ts
symbol-passed path n k fs f c ts =
    let a : List Site = sites_in_all 0 (first_terms c ts) in
    let b : List Site = sites_in_all (suc n) (first_terms k (terms_after c ts)) in
    let r : List Site = pending (behind_first path) fs (terms_after k (terms_after c ts)) in
    let e : map (below path) (map (λ (s : Site). (n ∷ s.0, s.1)) a ++ b) ≡ map (below (n ∷ path)) a ++ map (below path) b = map-append (below path) (map (λ (s : Site). (n ∷ s.0, s.1)) a) b ∙ ap (λ (x : List Site). x ++ map (below path) b) (deeper path n a) in
    ap (λ (x : List Site). (reverse path ++ n ∷ [], f) ∷ x) (ap (λ (x : List Site). x ++ r) e ∙ append_assoc (map (below (n ∷ path)) a) (map (below path) b) r)

-- nothing is pending where no term is left
pub nothing-pending : (path : List ℕ) (fs : List Frame) → pending path fs none ≡ []
nothing-pending path [] = refl
nothing-pending path (f ∷ fs) = go f.left (nothing-pending (behind_first path) fs)
  where
    go : (k : ℕ) → pending (behind_first path) fs none ≡ [] → map (below path) (sites_in_all f.next (first_terms k none)) ++ pending (behind_first path) fs (terms_after k none) ≡ []
    go zero e = e
    go (suc k) e = e

-- nor of a symbol that has no argument left
pub left-behind : (path : List ℕ) (f : Frame) (fs : List Frame) (ts : Terms) → f.left ≡ 0 → pending path (f ∷ fs) ts ≡ pending (behind_first path) fs ts
left-behind path f fs ts e = ap (λ k. map (below path) (sites_in_all f.next (first_terms k ts)) ++ pending (behind_first path) fs (terms_after k ts)) e

-- at the start
unmoved : (ss : List Site) → map (below []) ss ≡ ss
unmoved [] = refl
unmoved (s ∷ ss) = ap (λ (x : List Site). s ∷ x) (unmoved ss)

pub at-start : (c : ℕ) (ts : Terms) → pending [] (frame 0 c ∷ []) ts ≡ sites_in_all 0 (first_terms c ts)
at-start c ts = append-nil (map (below []) (sites_in_all 0 (first_terms c ts))) ∙ unmoved (sites_in_all 0 (first_terms c ts))

-- members of sites
module _ (from into : Spot) (head : Option ℕ) where
  abbrev listed : List Site → List FoMember
  listed ss = made from into (selected head ss)

  pub listed-append : (xs ys : List Site) → made from into (selected head (xs ++ ys)) ≡ made from into (selected head xs) ++ made from into (selected head ys)
  listed-append xs ys =
      ap (λ (x : List Site). made from into (map (λ (s : Site). s.0) x)) (filter-append (λ (s : Site). meets head s.1) xs ys)
      ∙ ap (made from into) (map-append (λ (s : Site). s.0) (filter (λ (s : Site). meets head s.1) xs) (filter (λ (s : Site). meets head s.1) ys))
      ∙ map-append _ (selected head xs) (selected head ys)

  -- a place that was visited before others
  pub visited : (old new : List FoMember) (s : Site) (ss : List Site) → new ≡ old ++ made from into (selected head (s ∷ [])) → new ++ made from into (selected head ss) ≡ old ++ made from into (selected head (s ∷ ss))
  visited old new s ss e =
      ap (λ (x : List FoMember). x ++ listed ss) e ∙ append_assoc old (listed (s ∷ [])) (listed ss) ∙ ap (λ (x : List FoMember). old ++ x) (sym (listed-append (s ∷ []) ss))

  pub site-taken : (s : Site) → meets head s.1 ≡ true → selected head (s ∷ []) ≡ s.0 ∷ []
  site-taken s e = ap (λ b. map (λ (x : Site). x.0) (cond b (s ∷ []) [])) e

  pub site-passed : (s : Site) → meets head s.1 ≡ false → selected head (s ∷ []) ≡ []
  site-passed s e = ap (λ b. map (λ (x : Site). x.0) (cond b (s ∷ []) [])) e

  -- a symbol that is passed over
  pub step-symbol : (old new : List FoMember) (ps qs : List ℕ) (fs gs hs : List Frame) (fr : Frame) (m g c : ℕ) (node : FoNode) → 0 < fr.left → m ≡ fr.next + 1 → node ≡ Sym g c →
      qs ≡ ps ++ fr.next ∷ [] → gs ≡ fs ++ frame m (fr.left - 1) ∷ [] → hs ≡ gs ++ frame 0 c ∷ [] → new ≡ old ++ made from into (selected head ((qs, g) ∷ [])) →
      (ts : Terms) → new ++ made from into (selected head (pending (reverse qs) (reverse hs) ts)) ≡ old ++ made from into (selected head (pending (reverse ps) (fr ∷ reverse fs) (with_node node ts)))
  step-symbol old new ps qs fs gs hs fr m g c node l em en eq eg eh e ts = visited old new (qs, g) (pending (reverse qs) (reverse hs) ts) e ∙ ap (λ (x : List Site). old ++ listed x) all
    where
      before : reverse qs ≡ fr.next ∷ reverse ps
      before = ap reverse eq ∙ reverse-append ps (fr.next ∷ [])

      under : reverse hs ≡ frame 0 c ∷ (frame m (fr.left - 1) ∷ reverse fs)
      under = ap reverse eh ∙ reverse-append gs (frame 0 c ∷ []) ∙ ap (λ (x : List Frame). frame 0 c ∷ x) (ap reverse eg ∙ reverse-append fs (frame m (fr.left - 1) ∷ []))

      some : (k : ℕ) → fr.left ≡ suc k → (qs, g) ∷ pending (fr.next ∷ reverse ps) (frame 0 c ∷ (frame m (fr.left - 1) ∷ reverse fs)) ts ≡ pending (reverse ps) (fr ∷ reverse fs) (with_node (Sym g c) ts)
      some k h =
          ap (λ (x : List ℕ). let y : Site = (x, g) in y ∷ pending (fr.next ∷ reverse ps) (frame 0 c ∷ (frame m (fr.left - 1) ∷ reverse fs)) ts) (eq ∙ ap (λ (x : List ℕ). x ++ fr.next ∷ []) (sym (reverse-reverse ps)))
          ∙ ap (λ (x : ℕ). let y : Site = (reverse (reverse ps) ++ fr.next ∷ [], g) in y ∷ pending (fr.next ∷ reverse ps) (frame 0 c ∷ (frame x (fr.left - 1) ∷ reverse fs)) ts) (let i : m ≡ suc fr.next = omega arith in i)
          ∙ ap (λ (x : ℕ). let y : Site = (reverse (reverse ps) ++ fr.next ∷ [], g) in y ∷ pending (fr.next ∷ reverse ps) (frame 0 c ∷ (frame (suc fr.next) x ∷ reverse fs)) ts) (let i : fr.left - 1 ≡ k = omega arith in i)
          ∙ sym (symbol-passed (reverse ps) fr.next k (reverse fs) g c ts)
          ∙ ap (λ (x : ℕ). pending (reverse ps) (frame fr.next x ∷ reverse fs) (with_node (Sym g c) ts)) (sym h)

      all : (qs, g) ∷ pending (reverse qs) (reverse hs) ts ≡ pending (reverse ps) (fr ∷ reverse fs) (with_node node ts)
      all =
          ap (λ (x : List ℕ). let y : Site = (qs, g) in y ∷ pending x (reverse hs) ts) before
          ∙ ap (λ (x : List Frame). let y : Site = (qs, g) in y ∷ pending (fr.next ∷ reverse ps) x ts) under
          ∙ some (fr.left - 1) (omega arith)
          ∙ ap (λ (x : FoNode). pending (reverse ps) (fr ∷ reverse fs) (with_node x ts)) (sym en)

  -- a walk that goes on, and one that ends
  pub walk-next : (out mid new : List FoMember) (path0 path1 path2 : List ℕ) (fs0 fs1 fs2 : List Frame) (fr : Frame) (rest others : List FoNode) (node : FoNode) (whole : List FoMember) → rest ≡ node ∷ others →
      ((ts : Terms) → pending (reverse path0) (reverse fs0) ts ≡ pending (reverse path1) (fr ∷ reverse fs1) ts) →
      ((ts : Terms) → new ++ made from into (selected head (pending (reverse path2) (reverse fs2) ts)) ≡ mid ++ made from into (selected head (pending (reverse path1) (fr ∷ reverse fs1) (with_node node ts)))) → mid ≡ out →
      out ++ made from into (selected head (pending (reverse path0) (reverse fs0) (terms_of rest))) ≡ whole → new ++ made from into (selected head (pending (reverse path2) (reverse fs2) (terms_of others))) ≡ whole
  walk-next out mid new path0 path1 path2 fs0 fs1 fs2 fr rest others node whole e f g h i =
      g (terms_of others) ∙ ap (λ (x : List FoMember). x ++ listed (pending (reverse path1) (fr ∷ reverse fs1) (with_node node (terms_of others)))) h ∙ ap (λ (x : List Site). out ++ listed x) (sym (f (with_node node (terms_of others))))
      ∙ ap (λ (x : List FoNode). out ++ listed (pending (reverse path0) (reverse fs0) (terms_of x))) (sym e) ∙ i

  pub walk-ends : (out whole : List FoMember) (ss : List Site) → ss ≡ [] → out ++ made from into (selected head ss) ≡ whole → out ≡ whole
  walk-ends out whole ss e f = sym (append-nil out) ∙ ap (λ (x : List Site). out ++ listed x) (sym e) ∙ f

  pub walk-starts : (out : List FoMember) (path : List ℕ) (fs gs : List Frame) (c : ℕ) (nodes : List FoNode) → path ≡ [] → fs ≡ [] → gs ≡ fs ++ frame 0 c ∷ [] →
      out ++ made from into (selected head (pending (reverse path) (reverse gs) (terms_of nodes))) ≡ out ++ made from into (selected head (sites_in_all 0 (first_terms c (terms_of nodes))))
  walk-starts out path fs gs c nodes e f g =
      ap (λ (x : List ℕ). out ++ listed (pending (reverse x) (reverse gs) (terms_of nodes))) e
      ∙ ap (λ (x : List Frame). out ++ listed (pending [] (reverse x) (terms_of nodes))) (g ∙ ap (λ (x : List Frame). x ++ frame 0 c ∷ []) f)
      ∙ ap (λ (x : List Site). out ++ listed x) (at-start c (terms_of nodes))

-- a term by its first node
pub term-read : (t : Term) (node : FoNode) (others : List FoNode) → prefix t ≡ node ∷ others → t ≡ first_term (with_node node (terms_of others))
term-read t node others e =
    let read : terms_of (prefix t ++ []) ≡ more t none = terms_of-prefix t [] in
    ap first_term (sym read ∙ ap terms_of (append-nil (prefix t) ∙ e))

pub variable-sites : (t : Term) (v : ℕ) (node : FoNode) (others : List FoNode) → prefix t ≡ node ∷ others → node ≡ Var v → sites t ≡ []
variable-sites t v node others e f = ap sites (term-read t node others e ∙ ap (λ (x : FoNode). first_term (with_node x (terms_of others))) f)

pub symbol-sites : (t : Term) (g c : ℕ) (node : FoNode) (others : List FoNode) → prefix t ≡ node ∷ others → node ≡ Sym g c → sites t ≡ ([], g) ∷ sites_in_all 0 (first_terms c (terms_of others))
symbol-sites t g c node others e f = ap sites (term-read t node others e ∙ ap (λ (x : FoNode). first_term (with_node x (terms_of others))) f)

pub walk-over : (from into : Spot) (head : Option ℕ) (out whole : List FoMember) (path : List ℕ) (fs : List Frame) (rest : List FoNode) → length rest ≡ 0 →
    out ++ made from into (selected head (pending (reverse path) (reverse fs) (terms_of rest))) ≡ whole → out ≡ whole
walk-over from into head out whole path fs [] e f = walk-ends from into head out whole (pending (reverse path) (reverse fs) none) (nothing-pending (reverse path) (reverse fs)) f
walk-over from into head out whole path fs (n ∷ ns) e f = absurd (omega arith)

pub has-nodes : (t : Term) → length (prefix t) ≡ 0 → ⊥
has-nodes (variable v) e = omega arith
has-nodes (symbol f ts) e = omega arith

pub no-sites : (from into : Spot) (head : Option ℕ) (out : List FoMember) (ss : List Site) → ss ≡ [] → out ≡ out ++ made from into (selected head ss)
no-sites from into head out ss e = sym (append-nil out) ∙ ap (λ (x : List Site). out ++ made from into (selected head x)) (sym e)

pub all-sites : (from into : Spot) (head : Option ℕ) (out mid new : List FoMember) (path : List ℕ) (g : ℕ) (ss ts : List Site) → path ≡ [] → mid ≡ out ++ made from into (selected head ((path, g) ∷ [])) → new ≡ mid ++ made from into (selected head ss) → ts ≡ ([], g) ∷ ss →
    new ≡ out ++ made from into (selected head ts)
all-sites from into head out mid new path g ss ts p e f h =
    f ∙ visited from into head out mid (path, g) ss e ∙ ap (λ (x : List ℕ). let y : Site = (x, g) in out ++ made from into (selected head (y ∷ ss))) p ∙ ap (λ (x : List Site). out ++ made from into (selected head x)) (sym h)
