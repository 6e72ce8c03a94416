-- Passing terms in a list of nodes.
use Rattle.std.proofs.Common.{ℕ, zero, suc, ◌+◌, ◌≡◌, ◌<◌, ◌≤◌, List, [], ◌∷◌, length, Some, refl, sym, ◌∙◌, ap, arith}
use Rattle.std.specs.Prelude.{slice_get}
use Rattle.fo_terms.specs.declared.term.FoNode.{FoNode}
use Rattle.fo_terms.specs.declared.term.FoNode.TheVariants.{Var, Sym}
use Rattle.fo_terms.specs.Terms.{Terms, variable, symbol, none, more, count, first_terms, terms_after}
use Rattle.fo_terms.specs.Prefix.{terms_of}
use Rattle.fo_terms.specs.Places.{terms_at, arguments_of, IsFull}
use Rattle.fo_terms.proofs.AtPlaces.{terms_at-node, count-with_node}

-- of so many terms from a place on, so many are still to be passed
pub record IsScanned (ns : List FoNode) (at n here missing : ℕ) : Type 0 where
  pub later : at ≤ here
  pub started : here ≡ at → missing ≡ n
  pub inside : here ≤ length ns
  pub enough : missing ≤ count (terms_at ns here)
  pub reads : terms_after missing (terms_at ns here) ≡ terms_after n (terms_at ns at)

pub terms_after-more : (m n : ℕ) (ts : Terms) → terms_after m (terms_after n ts) ≡ terms_after (n + m) ts
terms_after-more m zero ts = let e : 0 + m ≡ m = omega arith in rw e refl
terms_after-more zero (suc n) none = let e : suc n + 0 ≡ suc n = omega arith in rw e refl
terms_after-more (suc m) (suc n) none = let e : suc n + suc m ≡ suc (n + suc m) = omega arith in rw e refl
terms_after-more m (suc n) (more t ts) = let e : suc n + m ≡ suc (n + m) = omega arith in rw e (terms_after-more m n ts)

count-after : (n : ℕ) (ts : Terms) → count (terms_after n ts) ≤ count ts
count-after zero ts = omega arith
count-after (suc n) none = omega arith
count-after (suc n) (more t ts) = let h = count-after n ts in omega arith

count-terms_of : (ns : List FoNode) → count (terms_of ns) ≤ length ns
count-terms_of [] = omega arith
count-terms_of (Var v ∷ ns) = let h = count-terms_of ns in omega arith
count-terms_of (Sym f k ∷ ns) = let h = count-terms_of ns in let a = count-after k (terms_of ns) in omega arith

pub count-terms_at : (ns : List FoNode) (i : ℕ) → i ≤ length ns → count (terms_at ns i) + i ≤ length ns
count-terms_at [] zero h = omega arith
count-terms_at [] (suc i) h = absurd (omega arith)
count-terms_at (n ∷ ns) zero h = let c = count-terms_of (n ∷ ns) in omega arith
count-terms_at (n ∷ ns) (suc i) h = let c = count-terms_at ns i (omega arith) in omega arith

pub IsScanned-start : (ns : List FoNode) (at n : ℕ) → at ≤ length ns → n ≤ count (terms_at ns at) → IsScanned ns at n at n
IsScanned-start ns at n h e = record { later = omega arith; started = (λ q. refl); inside = h; enough = e; reads = refl }

pub IsScanned-inside : (ns : List FoNode) (at n here m : ℕ) → IsScanned ns at n here (suc m) → here < length ns
IsScanned-inside ns at n here m h = let c = count-terms_at ns here h.inside in let e = h.enough in omega arith

IsScanned-variable : (ns : List FoNode) (at n here m v : ℕ) → slice_get ns here ≡ Some (Var v) → IsScanned ns at n here (suc m) → IsScanned ns at n (suc here) m
IsScanned-variable ns at n here m v s h =
    let shape : terms_at ns here ≡ more (variable v) (terms_at ns (suc here)) = terms_at-node ns here (Var v) s in
    let counted : count (terms_at ns here) ≡ suc (count (terms_at ns (suc here))) = ap count shape in
    let l = h.later in
    let e = h.enough in
    let i = IsScanned-inside ns at n here m h in
    record {
      later = omega arith;
      started = (λ z. absurd (omega arith));
      inside = omega arith;
      enough = omega arith;
      reads = sym (ap (terms_after (suc m)) shape) ∙ h.reads;
    }

IsScanned-symbol : (ns : List FoNode) (at n here m f k : ℕ) → IsFull ns → slice_get ns here ≡ Some (Sym f k) → IsScanned ns at n here (suc m) → IsScanned ns at n (suc here) (k + m)
IsScanned-symbol ns at n here m f k full s h =
    let shape : terms_at ns here ≡ more (symbol f (first_terms k (terms_at ns (suc here)))) (terms_after k (terms_at ns (suc here))) = terms_at-node ns here (Sym f k) s in
    let counted : count (terms_at ns here) + k ≡ count (terms_at ns (suc here)) + 1 = count-with_node ns here (Sym f k) s (full here (Sym f k) s) in
    let l = h.later in
    let e = h.enough in
    let i = IsScanned-inside ns at n here m h in
    record {
      later = omega arith;
      started = (λ z. absurd (omega arith));
      inside = omega arith;
      enough = omega arith;
      reads = sym (terms_after-more m k (terms_at ns (suc here))) ∙ sym (ap (terms_after (suc m)) shape) ∙ h.reads;
    }

pub IsScanned-node : (ns : List FoNode) (at n here m : ℕ) (x : FoNode) → IsFull ns → slice_get ns here ≡ Some x → IsScanned ns at n here (suc m) → IsScanned ns at n (suc here) (m + arguments_of x)
IsScanned-node ns at n here m (Var v) full e h = let z : m + 0 ≡ m = omega arith in rw z (IsScanned-variable ns at n here m v e h)
IsScanned-node ns at n here m (Sym f k) full e h = let z : m + k ≡ k + m = omega arith in rw z (IsScanned-symbol ns at n here m f k full e h)
