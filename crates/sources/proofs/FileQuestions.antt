-- Questions 1 to 6: `load` answers 0 exactly if each is a yes. What is read goes on exactly as long as the numbers that
-- are asked for pass, by one law for each way in which readings are joined.
use Prim.Native.Nat.{ℕ}
use mathlib.Core.Path.{◌≡◌, refl}
use mathlib.Core.List.{List}
use Rattle.model.specs.Config.{blank}
use Rattle.model.specs.ConfigFile.{
  Progress,
  read,
  stop,
  on_reading,
  counts_at,
  objects_at,
  devices_at,
  values_at,
  refused,
  judged,
  after_counts,
  after_group,
  groups_to,
  load_to,
  load,
}
use Rattle.model.specs.FileQuestions.{on_head, on_group, told}
use Rattle.model.specs.Reading.{Reading}
use Rattle.model.specs.Reading.{At, Refused}
use Rattle.model.specs.Head.{Head}
use Rattle.model.specs.Head.{Counted, Stopped}
use Rattle.model.specs.declared.Counts.{Counts}
use Rattle.model.specs.declared.Config.{Config}
use Rattle.model.specs.Loaded.{Loaded}

-- joined readings go on exactly if all that is asked for in them passes
module _ (s : List ℕ) where
  -- the answer of what was read: 4, then 5, then 6
  abbrev finish : Progress Config → Loaded
  finish p = on_reading refused p.reading (λ end. judged s end p.table)

  after-counts : (p : Head) (l : Counts → ℕ → Loaded) (k : Counts → ℕ → Progress Config)
      → ((n : Counts) (next : ℕ) → l n next ≡ finish (k n next)) → after_counts p l ≡ finish (on_head (stop blank) p k)
  unfolding after_counts on_head on_reading stop
  after-counts (Counted n next) l k h = h n next
  after-counts (Stopped q) l k h = refl

  after_group_lem : {T : Type 0} (p : Progress T) (l : T → ℕ → Loaded) (k : T → ℕ → Progress Config)
      → ((t : T) (next : ℕ) → l t next ≡ finish (k t next)) → after_group p l ≡ finish (on_group (stop blank) p k)
  unfolding after_group on_group on_reading stop
  after_group_lem p l k h = go p.reading
    where
      go : (r : Reading) → on_reading refused r (l p.table) ≡ finish (on_reading (stop blank) r (k p.table))
      go (At next) = h p.table next
      go (Refused q) = refl

  pub load_told : load s ≡ finish (told s)
  unfolding load_to groups_to told read on_reading
  load_told =
      after-counts (counts_at s) _ _ λ counts a.
      after_group_lem (objects_at s counts a) _ _ λ objects b.
      after_group_lem (devices_at s counts b) _ _ λ devices c.
      after_group_lem (values_at s counts objects.kind c) _
      (λ values end.
      read (record { counts = counts; objects = objects; devices = devices; values = values }) end) λ values end.
      refl
