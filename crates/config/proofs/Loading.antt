-- The groups of a file one after the other, and the questions of the whole file: said once over names, since in the
-- proof of `load` each of them stands for a long term. Assumes nothing.
use Prim.Native.Nat.{ℕ}
use mathlib.Core.Path.{◌≡◌}
use mathlib.Core.List.{List}
use mathlib.Core.Bool.{true, false}
use lib.ListN.{length}
use borrow.Author.Tests.{eq-eqb, ne_eqb}
use Rattle.std.specs.Prelude.{Ok, Err}
use Rattle.model.specs.Answers.{number_of}
use Rattle.model.specs.Config.{blank}
use Rattle.model.specs.ConfigFile.{
  Progress,
  on_reading,
  turns,
  counts_at,
  object,
  device,
  value,
  objects_to,
  devices_to,
  values_to,
  paired,
  restrained,
  accepted,
  refused,
  ask,
  judged,
  after_counts,
  after_group,
  groups_to,
  groups_from,
  load_to,
  load,
}
use Rattle.model.specs.Head.{Counted, Stopped}
use Rattle.model.specs.Loaded.{Loaded}
use Rattle.model.specs.declared.Question.{Question}
use Rattle.model.specs.declared.Counts.{Counts}
use Rattle.model.specs.declared.Objects.{Objects}
use Rattle.model.specs.declared.Devices.{Devices}
use Rattle.model.specs.declared.Values.{Values}
use Rattle.model.specs.declared.Config.{Config}
use Rattle.config.specs.Readings.{progress}

-- a whole group: it is refused, or its table and the next place go to what follows
module _ {T : Type 0} (x : Progress T) (k : T → ℕ → Loaded) (u : T) where
  group_stop : (q : Question) → progress (Err q) u ≡ x → refused (number_of q) ≡ after_group x k
  unfolding after_group on_reading
  group_stop q e = rw (← e)

  group_go : (next : ℕ) {l : Loaded} → progress (Ok next) u ≡ x → l ≡ k u next → l ≡ after_group x k
  unfolding after_group on_reading
  group_go next e p = rw (← e) p

module _ (s : List ℕ) where
  pub counts_stop : (q : Question) → Stopped (number_of q) ≡ counts_at s → refused (number_of q) ≡ load s
  unfolding load_to after_counts
  counts_stop q e = rw (← e)

  -- the counts and the three groups, up to the first that is refused: all that was read goes to what follows
  module _ (n : Counts) (at : ℕ) (e : Counted n at ≡ counts_at s) (b : Config) (z : b ≡ blank) where
    load_go : {l : Loaded} → l ≡ groups_from s n at → l ≡ load s
    unfolding load_to after_counts
    load_go p = rw (← e) p

    module _ (objects : Objects) where
      pub objects_stop : (q : Question) → progress (Err q) objects ≡ turns (object s n) n.objects 0 at b.objects
          → refused (number_of q) ≡ load s
      unfolding groups_to objects_to blank
      objects_stop q x = load_go (group_stop _ _ _ q (rw z at x))

      module _ (a : ℕ) (x : progress (Ok a) objects ≡ turns (object s n) n.objects 0 at b.objects)
          (devices : Devices) where
        pub devices_stop : (q : Question) → progress (Err q) devices ≡ turns (device s n) n.devices 0 a b.devices
            → refused (number_of q) ≡ load s
        unfolding groups_to objects_to devices_to blank
        devices_stop q y = load_go (group_go _ _ _ a (rw z at x) (group_stop _ _ _ q (rw z at y)))

        module _ (d : ℕ) (y : progress (Ok d) devices ≡ turns (device s n) n.devices 0 a b.devices)
            (values : Values) where
          pub values_stop : (q : Question)
              → progress (Err q) values ≡ turns (value s n objects.kind) n.values 0 d b.values
              → refused (number_of q) ≡ load s
          unfolding groups_to objects_to devices_to values_to blank
          values_stop q v =
              load_go (group_go _ _ _ a (rw z at x) (group_go _ _ _ d (rw z at y) (group_stop _ _ _ q (rw z at v))))

          pub all_go : (end : ℕ) {l : Loaded}
              → progress (Ok end) values ≡ turns (value s n objects.kind) n.values 0 d b.values
              → l ≡ judged s end (record { counts = n; objects = objects; devices = devices; values = values })
              → l ≡ load s
          unfolding groups_to objects_to devices_to values_to blank
          all_go end v w =
              load_go (group_go _ _ _ a (rw z at x) (group_go _ _ _ d (rw z at y) (group_go _ _ _ end (rw z at v) w)))

-- questions 4, 5 and 6, by the first that is answered with no
module _ (s : List ℕ) (at : ℕ) (config : Config) where
  pub left_over : (at ≡ length s → ⊥) → refused 4 ≡ judged s at config
  unfolding judged ask
  left_over h = rw (ne_eqb at (length s) h)

  module _ (h : at ≡ length s) where
    pub unpaired : false ≡ paired config → refused 5 ≡ judged s at config
    unfolding judged ask
    unpaired p = rw (eq-eqb at (length s) h, ← p)

    module _ (p : true ≡ paired config) where
      pub unrestrained : false ≡ restrained config → refused 6 ≡ judged s at config
      unfolding judged ask
      unrestrained r = rw (eq-eqb at (length s) h, ← p, ← r)

      pub accepts : true ≡ restrained config → accepted config ≡ judged s at config
      unfolding judged ask
      accepts r = rw (eq-eqb at (length s) h, ← p, ← r)
