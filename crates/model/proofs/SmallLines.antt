-- Request N2: files and calls of configurations with at most `small_room` objects are what they were.
use Prim.Native.Nat.{ℕ, ◌≤◌}
use mathlib.Core.Path.{◌≡◌, refl, sym, ap, ◌∙◌, subst}
use mathlib.Core.List.{List, [], ◌∷◌}
use mathlib.Core.Bool.{Bool, true, false, cond, ◌&&◌, true≢false}
use native.Mathlib.Nat.{le_refl}
use native.Mathlib.Omega.{arith}
use lib.Dec.{leb}
use borrow.Author.Tests.{le-leb}
use Rattle.model.specs.Number.{most_number, number_to}
use Rattle.model.specs.Config.{
  most_drivers,
  most_devices,
  most_objects,
  most_values,
  small_room,
  most_edition,
  Limits,
  latest,
  small_limits,
}
use Rattle.model.specs.ConfigFile.{
  ranged,
  field_to,
  on_field,
  counts_of,
  counts_to,
  refused,
  after_counts,
  groups_to,
  load_to,
  load,
}
use Rattle.model.specs.State.{records}
use Rattle.model.specs.Operation.{read_operation}
use Rattle.model.specs.Gate.{freshened, make_fresh, operated, operate}
use Rattle.model.specs.Num.{Num}
use Rattle.model.specs.Num.{Got, Bad}
use Rattle.model.specs.Field.{Field}
use Rattle.model.specs.Field.{Value, No}
use Rattle.model.specs.Head.{Head}
use Rattle.model.specs.Head.{Counted, Stopped}
use Rattle.model.specs.declared.Counts.{Counts}
use Rattle.model.specs.Loaded.{Loaded}
use Rattle.model.proofs.Lists.{and_l, both_true}
use Rattle.model.proofs.Accepted.{HeadTold, counts-told, groups_answered, head_latest, load-within}
use Rattle.model.proofs.WiderFiles.{load-wider}
use Rattle.model.proofs.Facts.{room_few}

-- the objects that are announced
abbrev announced : Head → ℕ
announced (Counted n next) = n.objects
announced (Stopped q) = 0

abbrev is_counted : Head → Bool
is_counted (Counted n next) = true
is_counted (Stopped q) = false

-- fewer objects, in a file that announces no more
module _ (few : ℕ) (most : Limits) (s : List ℕ) where
  abbrev fewer : Limits
  fewer = record { objects = few; edition = most.edition; number = most.number }

  abbrev Shrinks : Head → Head → Type 0
  Shrinks h h' = is_counted h ≡ true → announced h ≤ few → h' ≡ h

  shrinks_on : (f : Field) (k k' : ℕ → ℕ → Head) → ((v a : ℕ) → Shrinks (k v a) (k' v a))
      → Shrinks (on_field Stopped f k) (on_field Stopped f k')
  unfolding on_field
  shrinks_on (Value v a) k k' g = g v a
  shrinks_on (No q) k k' g = λ h m. refl

  shrinks_here : (num : Num) (k : ℕ → ℕ → Head)
      → ((v a : ℕ) → is_counted (k v a) ≡ true → announced (k v a) ≡ v)
      → Shrinks (on_field Stopped (ranged 0 most.objects num) k) (on_field Stopped (ranged 0 few num) k)
  unfolding on_field ranged
  shrinks_here (Bad f) k same h m = refl
  shrinks_here (Got v next) k same h m = go (leb 0 v && leb v most.objects) refl h m
    where
      told : Bool → Head
      told t = on_field Stopped (cond t (Value v next) (No 3)) k

      go : (t : Bool) → (leb 0 v && leb v most.objects) ≡ t → is_counted (told t) ≡ true → announced (told t) ≤ few
          → told (leb 0 v && leb v few) ≡ told t
      go true e h m =
          ap told (both_true (and_l (leb 0 v) (leb v most.objects) e)
          (le-leb v few (subst (λ (n : ℕ). n ≤ few) (same v next h) m)))
      go false e h m = absurd (true≢false (sym h))

  last : (edition d v n : ℕ) (f : Field) (k : ℕ → ℕ → Head)
      → ((w a : ℕ) → k w a ≡ Counted (counts_of (edition ∷ d ∷ v ∷ n ∷ w ∷ [])) a)
      → is_counted (on_field Stopped f k) ≡ true → announced (on_field Stopped f k) ≡ n
  unfolding on_field
  last edition d v n (Value w a) k same h = ap announced (same w a)
  last edition d v n (No q) k same h = absurd (true≢false (sym h))

  counts_narrower : Shrinks (counts_to most s) (counts_to fewer s)
  unfolding counts_to field_to
  counts_narrower =
      shrinks_on (field_to most.number s 0 1 most.edition) _ _ λ edition a.
      shrinks_on (field_to most.number s a 0 most_drivers) _ _ λ d b.
      shrinks_on (field_to most.number s b 0 most_devices) _ _ λ v c.
      shrinks_here (number_to most.number s c) _ λ n e.
      last edition d v n (field_to most.number s e 0 most_values) _ λ w next. refl

  abbrev loaded_by : Head → Loaded
  loaded_by h = after_counts h (groups_to most.number s)

  -- the counts of an accepted file are those that it announces
  counted : most.objects ≤ most_objects → most.edition ≤ most_edition → (h : Head) → HeadTold most h
      → (loaded_by h).answer ≡ 0
      → (is_counted h ≡ true) × ((loaded_by h).config.counts.objects ≡ announced h)
  unfolding after_counts refused
  counted objects edition (Counted n next) told h = (
    refl,
    (groups_answered (λ (c : Counts). c.objects ≡ n.objects) most.number s n next
        (head_latest most objects edition (Counted n next) told) refl).told h,
  )
  counted objects edition (Stopped q) told h = absurd (let l = told.0 in omega arith)

  pub load_narrower : most.objects ≤ most_objects → most.edition ≤ most_edition → (load_to most s).answer ≡ 0
      → (load_to most s).config.counts.objects ≤ few → load_to fewer s ≡ load_to most s
  unfolding load_to
  load_narrower objects edition h m =
      let c = counted objects edition (counts_to most s) (counts-told most s) h in
      ap loaded_by (counts_narrower c.0 (subst (λ (n : ℕ). n ≤ few) c.1 m))

-- N2: a file that was accepted before is accepted with the same configuration; a file of few objects that is accepted
-- now was accepted before
pub small-file : (file : List ℕ) → ((load_to small_limits file).answer ≡ 0 → load file ≡ load_to small_limits file)
    × ((load file).answer ≡ 0 → (load file).config.counts.objects ≤ small_room → load_to small_limits file ≡ load file)
small-file file = (
  load-wider small_limits latest (omega arith) (le_refl most_edition) (le_refl most_number) file,
  load_narrower small_room latest file (le_refl most_objects) (le_refl most_edition),
)

-- N2: the calls are those with the room fixed
pub small_calls : (file : List ℕ) → (load_to small_limits file).answer ≡ 0 → (area bytes answer : List ℕ)
    → (make_fresh file area ≡ freshened small_room (load_to small_limits file) area)
    × (operate file area bytes answer ≡ operated small_room (load_to small_limits file) (read_operation bytes) area
    answer)
unfolding make_fresh operate
small_calls file h area bytes answer =
    let e : load file ≡ load_to small_limits file = (small-file file).0 h in
    let w = load-within small_limits (omega arith) (le_refl most_edition) file h in
    let r : records (load file).config ≡ small_room =
    ap (λ (l : Loaded). records l.config) e ∙ room_few _ w.0 in (
      (λ i. freshened (r i) (e i) area),
      λ i. operated (r i) (e i) (read_operation bytes) area answer,
    )
