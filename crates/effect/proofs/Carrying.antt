-- Items stored one after the other, and contents read out and copied to their destinations.
use Prim.Native.Nat.{ℕ, zero, suc, ◌+◌, ◌*◌, ◌≤◌, ◌<◌}
use mathlib.Core.Path.{◌≡◌, refl, sym, ap, ◌∙◌, subst}
use mathlib.Core.List.{List, ◌++◌, append_assoc}
use native.Mathlib.Numerals.{add-one}
use native.Mathlib.Decide.{dec_le}
use native.Mathlib.Omega.{arith}
use lib.ListN.{length, get_or, take, drop, length-drop, length-append}
use lib.Seq.{take_at, drop_at, drop-drop, drop-append-add}
use borrow.Author.Tests.{ne_eqb}
use Rattle.model.specs.Base.{put}
use Rattle.model.specs.State as Columns
use Rattle.model.specs.State.{content_bytes, State, content_of, value_bytes, area_length, view, layout}
use Rattle.model.specs.Operation.{object_at, second_at, form_at}
use Rattle.model.specs.declared.Family.TheVariants.{Copy}
use Rattle.model.specs.Effect.{stores, source_bytes, gathered, answered}
use Rattle.model.specs.declared.Operation.{Operation}
use Rattle.model.proofs.StateLaws.{Sixteen, Shape, content-sixteen}
use Rattle.model.proofs.StateBytes.{layout-view}
use Rattle.state.specs.Splice.{splice, part}
use Rattle.state.specs.Change.{with_content}
use Rattle.effect.specs.Transfers.{slot, item_of, Small, written, sources, restored, copied}
use Rattle.state.proofs.Places.{view_shape, window_take}
use Rattle.state.proofs.Turns.{after-content}

-- the bytes of an item
module _ (op : Operation) (i : ℕ) where
  pub item-value : (f v : ℕ) (r : List ℕ) → f ≡ form_at op i → f ≡ 0 → v ≡ second_at op i → r ≡ value_bytes v
      → r ≡ item_of op i
  unfolding item_of
  item-value f v r e z g h = rw (← e, z, ← g) h

  pub item_raw : (f : ℕ) (r : List ℕ) → content_bytes * i + content_bytes ≤ length op.raw → f ≡ form_at op i
      → (f ≡ 0 → ⊥) → r ≡ slot op.raw i → r ≡ item_of op i
  unfolding item_of part
  item_raw f r l e z h = rw (← e, ne_eqb f 0 z)
      (h ∙ sym (window_take content_bytes (drop (content_bytes * i) op.raw)
      (omega (arith, length-drop (content_bytes * i) op.raw))))

  pub item-fits : (count : ℕ) → Small op.seconds op.forms count → i < count → form_at op i ≡ 0 → second_at op i < 256
  unfolding Small
  item-fits count h l e = h i l e

-- one more item
module _ (op : Operation) (i : ℕ) (b : State) where
  write_step : with_content (written op i b) (object_at op i) (item_of op i) ≡ written op (suc i) b
  unfolding with_content written item_of
  write_step = refl

restore_step : (seconds answer : List ℕ) (i : ℕ) (b : State)
    → with_content (restored seconds answer i b) (get_or seconds i 0) (slot answer i) ≡ restored seconds answer
    (suc i) b
unfolding with_content restored
restore_step seconds answer i b = refl

module _ (op : Operation) (room : ℕ) (s₀ : List ℕ) where
  pub write_none : view room s₀ ≡ written op 0 (view room s₀)
  unfolding written
  write_none = refl

  pub write_on : (i n : ℕ) (s t c : List ℕ) → view room s ≡ written op i (view room s₀) → n ≡ object_at op i
      → c ≡ item_of op i → Sixteen c → t ≡ layout (with_content (view room s) n c)
      → view room t ≡ written op (i + 1) (view room s₀)
  write_on i n s t c inv e f w g =
      after-content room s t n c w g ∙ rw (inv, e, f, add-one i) (write_step op i (view room s₀))

  pub write_end : (i : ℕ) (s : List ℕ) → length s ≡ length s₀ → length s₀ ≡ area_length room
      → view room s ≡ written op i (view room s₀) → i ≡ op.count → s ≡ layout (written op op.count (view room s₀))
  write_end i s l m inv e =
      sym (layout-view room s (l ∙ m)) ∙ ap layout (inv ∙ ap (λ (k : ℕ). written op k (view room s₀)) e)

-- sources
module _ (op : Operation) (room : ℕ) (b : State) (sh : Shape room b) where
  sources_length : (k : ℕ) → length (gathered op b k) ≡ content_bytes * k
  sources_length zero = refl
  sources_length (suc k) =
      length-append (gathered op b k) (source_bytes op b k)
      ∙ omega (arith, sources_length k, content-sixteen room b sh (object_at op k))

  sources-part : (k i : ℕ) (r : List ℕ) → i < k → slot (gathered op b k ++ r) i ≡ source_bytes op b i
  unfolding part
  sources-part zero i r h = absurd (omega arith)
  sources-part (suc k) i r h =
      ap (λ (l : List ℕ). slot l i)
      (append_assoc (gathered op b k) (source_bytes op b k) r)
      ∙ go (dec_le (suc i) k) (λ (q : i < k). sources-part k i (source_bytes op b k ++ r) q)
    where
      last : slot (gathered op b k ++ (source_bytes op b k ++ r)) k ≡ source_bytes op b k
      last =
          ap (take content_bytes)
          (drop_at (gathered op b k) (source_bytes op b k ++ r) (content_bytes * k) (sources_length k))
          ∙ take_at (source_bytes op b k) r content_bytes (content-sixteen room b sh (object_at op k))

      go : Dec (suc i ≤ k) → (i < k → slot (gathered op b k ++ (source_bytes op b k ++ r)) i ≡ source_bytes op b i)
          → slot (gathered op b k ++ (source_bytes op b k ++ r)) i ≡ source_bytes op b i
      go (yes q) f = f q
      go (no q) f =
          let e : i ≡ k = omega arith in
          subst (λ (j : ℕ). slot (gathered op b k ++ (source_bytes op b k ++ r)) j
          ≡ source_bytes op b j) (sym e) last

  source_stored : (i : ℕ) (d c : List ℕ) → c ≡ source_bytes op b i
      → splice (gathered op b i ++ drop (content_bytes * i) d) (content_bytes * i) c
      ≡ gathered op b (suc i) ++ drop (content_bytes * suc i) d
  unfolding splice
  source_stored i d c e =
      let w : length (source_bytes op b i) ≡ content_bytes = content-sixteen room b sh (object_at op i) in
      let x : content_bytes * i + length (source_bytes op b i) ≡ length (gathered op b i) + content_bytes =
      omega (arith, w, sources_length i) in
      let y : content_bytes * i + content_bytes ≡ content_bytes * suc i = omega arith in
      rw (e, x)
      (λ j. (take_at (gathered op b i) (drop (content_bytes * i) d) (content_bytes * i)
      (sources_length i) j ++ source_bytes op b i)
      ++ (drop-append-add (gathered op b i) (drop (content_bytes * i) d) content_bytes
      ∙ (drop-drop content_bytes (content_bytes * i) d ∙ ap (λ (n : ℕ). drop n d) y)) j)

module _ (op : Operation) (room : ℕ) (s d₀ : List ℕ) where
  pub read_out_none : d₀ ≡ sources op (view room s) 0 ++ drop (content_bytes * 0) d₀
  unfolding sources
  read_out_none = refl

  pub read_out_on : (i n : ℕ) (d t c : List ℕ) → d ≡ sources op (view room s) i ++ drop (content_bytes * i) d₀
      → n ≡ object_at op i → c ≡ content_of (view room s) n → t ≡ splice d (content_bytes * i) c
      → t ≡ sources op (view room s) (i + 1) ++ drop (content_bytes * (i + 1)) d₀
  unfolding sources
  read_out_on i n d t c inv e f g =
      g ∙ rw (inv, add-one i)
      (source_stored op room (view room s) (view_shape room s) i d₀ c (f ∙ ap (content_of (view room s)) e))

  pub read_out_end : (i : ℕ) (d : List ℕ) → d ≡ sources op (view room s) i ++ drop (content_bytes * i) d₀ → i ≡ op.count
      → d ≡ sources op (view room s) op.count ++ drop (content_bytes * op.count) d₀
  read_out_end i d inv e = inv ∙ ap (λ (k : ℕ). sources op (view room s) k ++ drop (content_bytes * k) d₀) e

-- destinations
module _ (seconds answer : List ℕ) (room : ℕ) (s₀ : List ℕ) where
  pub store_copies_none : view room s₀ ≡ restored seconds answer 0 (view room s₀)
  unfolding restored
  store_copies_none = refl

  pub store_copies_on : (i n : ℕ) (s t c : List ℕ) → view room s ≡ restored seconds answer i (view room s₀)
      → n ≡ get_or seconds i 0 → c ≡ slot answer i → Sixteen c → t ≡ layout (with_content (view room s) n c)
      → view room t ≡ restored seconds answer (i + 1) (view room s₀)
  store_copies_on i n s t c inv e f w g =
      after-content room s t n c w g ∙ rw (inv, e, f, add-one i) (restore_step seconds answer i (view room s₀))

  pub store_copies_end : (i count : ℕ) (s : List ℕ) → length s ≡ length s₀ → length s₀ ≡ area_length room
      → view room s ≡ restored seconds answer i (view room s₀) → i ≡ count
      → s ≡ layout (restored seconds answer count (view room s₀))
  store_copies_end i count s l m inv e = sym (layout-view room s (l ∙ m)) ∙ ap layout (rw (← e) inv)

stores_same : (place : ℕ → ℕ) (f g : ℕ → List ℕ) (k : ℕ) (cs : List (List ℕ)) → ((i : ℕ) → i < k → f i ≡ g i)
    → stores place f k cs ≡ stores place g k cs
stores_same place f g zero cs h = refl
stores_same place f g (suc k) cs h =
    λ i. put (stores_same place f g k cs (λ j q. h j (omega arith)) i) (place k) (h k (omega arith) i)

module _ (room : ℕ) (op : Operation) (s d t e : List ℕ)
    (g : e ≡ sources op (view room s) op.count ++ drop (content_bytes * op.count) d) where
  pub copy_answer : e ≡ answered op Copy (view room s) d
  unfolding sources
  copy_answer = g

  pub copy_whole : t ≡ layout (restored op.seconds e op.count (view room s)) → t ≡ layout (copied op (view room s))
  unfolding restored copied
  copy_whole f =
      f
      ∙ ap (λ (cs : List (List ℕ)). layout (Columns.with_content (view room s) cs))
      (stores_same (second_at op) (slot e) (source_bytes op (view room s)) op.count (view room s).content
      (λ j q. ap (λ (l : List ℕ). slot l j) copy_answer
      ∙ sources-part op room (view room s) (view_shape room s) op.count j
      (drop (content_bytes * op.count) d) q))
