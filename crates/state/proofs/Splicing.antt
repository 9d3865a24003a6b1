-- What is read out of a list and put in its place, and what `part` says of `splice`.
use Prim.Native.Nat.{ℕ, ◌+◌, ◌≤◌}
use mathlib.Core.Path.{◌≡◌, sym, ap, ◌∙◌}
use mathlib.Core.List.{List, ◌++◌, append_assoc}
use native.Mathlib.Omega.{arith}
use lib.ListN.{length, take, drop, length-take, length-drop}
use lib.Seq.{drop-drop}
use borrow.Rule.Slice.PartMut.{put_mid}
use Rattle.state.specs.Splice.{splice, part}

pub length_part : (s : List ℕ) (at n : ℕ) → at + n ≤ length s → length (part s at n) ≡ n
unfolding part
length_part s at n h = simp (length-take, length-drop) (omega arith)

-- bytes read out, and stored
pub loaded : (s r : List ℕ) (at n k : ℕ) → r ≡ take k (drop at s) → k ≡ n → r ≡ part s at n
unfolding part
loaded s r at n k e q = e ∙ ap (λ (i : ℕ). take i (drop at s)) q

pub stored : (s v r : List ℕ) (at k : ℕ) → r ≡ v → k ≡ length v → put_mid at k s r ≡ splice s at v
unfolding splice
stored s v r at k e q = (λ i. take at s ++ (e i ++ tail i)) ∙ sym (append_assoc (take at s) v (drop (at + length v) s))
  where
    tail : drop k (drop at s) ≡ drop (at + length v) s
    tail = drop-drop k at s ∙ ap (λ (n : ℕ). drop (at + n) s) q
