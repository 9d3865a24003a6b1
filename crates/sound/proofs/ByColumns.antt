-- Question 6 by the columns that it looks at is the model's. Assumes nothing.
use Prim.Native.Nat.{ℕ, zero, suc}
use mathlib.Core.Path.{◌≡◌, refl}
use Rattle.model.specs.Base.{all}
use Rattle.model.specs.Config.{hardcoded_of, entries}
use Rattle.model.specs.ConfigFile.{own_entry, restrained}
use Rattle.model.specs.declared.Config.{Config}
use Rattle.model.proofs.SameFile.{every-same}
use Rattle.sound.specs.Sound.{every_to, all_from, value_passes}
use Rattle.sound.specs.ByColumns.{may_name, entry_passes, device_restrained, restrained_by}

module _ (config : Config) where
  passes_same : (c w : ℕ)
      → value_passes
      (entry_passes config.objects.kind config.objects.class config.objects.owner
      config.counts.objects c)
      config.values.count
      config.values.entries
      w
      ≡ all (own_entry config c) (entries config w)
  unfolding value_passes entry_passes may_name all_from entries
  passes_same c zero = refl
  passes_same c (suc v) = refl

  pub restrained-same :
      restrained_by config.counts config.objects.kind config.objects.class config.objects.owner
      config.devices.hardcoded config.values.count config.values.entries
      ≡ restrained config
  unfolding restrained restrained_by every_to device_restrained
  restrained-same = every-same config.counts.devices _ _ (λ c low high. passes_same c (hardcoded_of config c))
