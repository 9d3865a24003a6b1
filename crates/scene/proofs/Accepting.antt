-- What an accepted configuration and a well-formed area give to a search.
use Prim.Native.Nat.{ℕ, zero, suc, ◌≤◌}
use native.Mathlib.Omega.{arith}
use mathlib.Core.Path.{◌≡◌, refl}
use mathlib.Core.Logic.{◌⊎◌, inl, inr}
use mathlib.Core.Bool.{true, not, ◌||◌, false≢true}
use mathlib.Core.List.{List, [], ◌∷◌}
use lib.Dec.{leb, eqb}
use lib.ListN.{get_or}
use borrow.Author.Tests.{eqb-true, leb-true, le-leb}
use Rattle.model.specs.Config.{kind_of, owner_of, hardcoded_of, entry_place, entry_at}
use Rattle.model.specs.State.{State, content_of, held, value_bytes, same_bytes, a_value, right_content}
use Rattle.model.specs.declared.Config.{Config}
use Rattle.model.proofs.Lists.{and_l, and_r, or_true}
use Rattle.model.proofs.Columns.{or_else_lem}
use Rattle.model.proofs.Facts.{cond_true}
use Rattle.model.proofs.Formed.{content-value}
use Rattle.model.proofs.Hardcoded as Hardcoded
use Rattle.model.proofs.Accepted as Accepted
use Rattle.scene.specs.Rules.{holds_value}
use Rattle.scene.specs.Scene.{In, ValuesOk, OwnersOk, AreaOk, Searchable}

module _ (config : Config) (sound : Accepted.Sound config) where
  pub values_ok_lem : ValuesOk config
  values_ok_lem =
      record {
        few-devices = sound.few.devices;
        few-objects = sound.few.objects;
        few-values = sound.few.values;
        no_entries = sound.ranges.no_entries;
        few-entries = sound.ranges.few-entries;
        object_known = λ v j l i. record { low = (range v j l i).object-least; high = (range v j l i).object-most };
        mode_known = λ v j l i. record { low = (range v j l i).mode-least; high = (range v j l i).mode-most };
        stored_known = λ v j l i. (range v j l i).stored-most;
      }
    where
      least : (v j : ℕ) → In (get_or config.values.count v 0) j → 1 ≤ v
      least zero j i = absurd (omega (arith, sound.ranges.no_entries, i.low, i.high))
      least (suc v) j i = omega arith

      range : (v j : ℕ) → v ≤ config.counts.values → In (get_or config.values.count v 0) j
          → Accepted.EntryRange config.counts config.objects (entry_at config.values.entries (entry_place v j))
      range v j l i = sound.ranges.places v j (least v j i) l i.low i.high

  pub owners_ok_lem : OwnersOk config
  owners_ok_lem =
      record {
        few-devices = sound.few.devices;
        device_known = λ o i e.
            (let r = (sound.ranges.objects o i.low i.high).by_device_lem e in record { low = r.0; high = r.1 });
      }

  -- the first byte of two lists that are the same
  first_byte : (s t : List ℕ) → same_bytes s t ≡ true → get_or s 0 0 ≡ get_or t 0 0
  first_byte [] [] h = refl
  first_byte [] (y ∷ t) h = absurd (false≢true h)
  first_byte (x ∷ s) [] h = absurd (false≢true h)
  first_byte (x ∷ s) (y ∷ t) h = eqb-true x y (and_l (eqb x y) (same_bytes s t) h)

  -- the value that a well-formed descriptor holds exists
  pub content_known : (b : State) (o : ℕ) → In config.counts.objects o
      → right_content config o (content_of b o) ≡ true → holds_value (kind_of config o) ≡ true
      → held b o ≤ config.counts.values
  content_known b o i h k = go (or_true k)
    where
      file : List ℕ
      file = value_bytes (hardcoded_of config (owner_of config o))

      same : eqb (kind_of config o) 4 ≡ true → same_bytes (content_of b o) file ≡ true
      same e =
          or_else_lem (eqb (kind_of config o) 4) (same_bytes (content_of b o) file)
          (and_r (not (eqb (kind_of config o) 1) || a_value config (content_of b o)) _
          (cond_true (leb o config.counts.objects) _ _ h (le-leb o config.counts.objects i.high)))
          e

      go : (eqb (kind_of config o) 1 ≡ true) ⊎ (eqb (kind_of config o) 4 ≡ true) → held b o ≤ config.counts.values
      go (inl e) =
          let v = content-value config o (content_of b o) i.high (eqb-true (kind_of config o) 1 e) h in
          leb-true (held b o) config.counts.values
          (and_l (leb (held b o) config.counts.values) (same_bytes (content_of b o) (value_bytes (held b o))) v)
      go (inr e) =
          let four = eqb-true (kind_of config o) 4 e in
          let class = Hardcoded.hardcoded-class config sound.pairs o i.low i.high four in
          let c = (sound.ranges.objects o i.low i.high).by_device_lem class in
          omega (
            arith,
            first_byte (content_of b o) file (same e),
            sound.ranges.hardcoded (owner_of config o) c.0 c.1,
          )

  pub area_ok_lem : (room : ℕ) (b : State) → config.counts.objects ≤ room
      → ((o : ℕ) → In config.counts.objects o → right_content config o (content_of b o) ≡ true)
      → AreaOk config room b
  area_ok_lem room b fits h =
      record {
        few-objects = sound.few.objects;
        few-values = sound.few.values;
        in_room = fits;
        held_known = λ o i k. content_known b o i (h o i) k;
      }

  pub searchable_lem : (room : ℕ) (b : State) → config.counts.objects ≤ room
      → ((o : ℕ) → In config.counts.objects o → right_content config o (content_of b o) ≡ true)
      → Searchable config room b
  searchable_lem room b fits h =
      record { values = values_ok_lem; owners = owners_ok_lem; held = area_ok_lem room b fits h }
