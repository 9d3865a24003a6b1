-- Writes, copies, creation and destruction keep what separation needs.
use Prim.Native.Nat.{ℕ}
use mathlib.Core.Path.{◌≡◌, refl, sym, ap, ◌∙◌, subst}
use mathlib.Core.Logic.{◌⊎◌, inl, inr}
use mathlib.Core.List.{List}
use mathlib.Core.Bool.{true, ◌||◌, false≢true}
use lib.ListN.{get_or, set}
use lib.Dec.{eqb}
use borrow.Author.Tests.{eqb-true}
use Rattle.model.specs.Config.{kind_of, owner_of, hardcoded_of, descriptor}
use Rattle.model.specs.State.{
  State,
  plain_status,
  green_status,
  status_of,
  object_in,
  held,
  cleared,
  value_bytes,
  green,
  existing,
  well_formed,
}
use Rattle.model.specs.Closure.{live, Collected, start, described}
use Rattle.model.specs.Operation.{object_at, second_at}
use Rattle.model.specs.declared.Family.TheVariants.{Write, Copy, Create, Destroy, Lock, Unlock}
use Rattle.model.specs.declared.Actor.{Actor}
use Rattle.model.specs.declared.Actor.TheVariants.{Driver, Device, External}
use Rattle.model.specs.Effect.{item_bytes, source_bytes, created_status, apply}
use Rattle.model.specs.Questions.{q13, q14, q17, q18, q19, q22, read_entry, write_entry, transfer, zone_of}
use Rattle.model.specs.Separation.{Hardcoded}
use Rattle.model.specs.declared.Config.{Config}
use Rattle.model.specs.declared.Operation.{Operation}
use Rattle.model.proofs.Lists.{and_l, and_r, not_eqb, from1to-low, below_at, get_or_set_cases}
use Rattle.model.proofs.Confinement.{Confined}
use Rattle.model.specs.Green.{Green}
use Rattle.model.proofs.StateLaws.{apply_shape}
use Rattle.model.proofs.Accepted.{Sound}
use Rattle.sources.proofs.Facts.{place_exists}
use Rattle.model.proofs.Facts.{Passed}
use Rattle.sources.proofs.Stores.{Kept, same-confined, same-green}
use Rattle.model.proofs.Stores.{
  stores_hold,
  kind_1,
  live-low,
  write_reached,
  not_zero,
  write_kind,
  copy_kind,
  write_form,
}
use Rattle.sources.proofs.GreenStores.{write_green, copy_green, write_judged, copy_judged}

module _ {room : ℕ} (config : Config) (op : Operation) (b : State) (kept : Kept room config b) where
  write_hardcoded : q13 config op Write ≡ true → (a : Actor) → Hardcoded config (apply config op Write a b)
  unfolding apply
  write_hardcoded h a n x k =
      stores_hold (λ (c : List ℕ). c ≡ value_bytes (hardcoded_of config (owner_of config n))) (object_at op)
      (item_bytes op)
      op.count b.content n cleared
      (kept.hardcoded n x k) (λ i l e. absurd (write_kind config op h i n l e k))

  copy_hardcoded : q13 config op Copy ≡ true → (a : Actor) → Hardcoded config (apply config op Copy a b)
  unfolding apply
  copy_hardcoded h a n x k =
      stores_hold (λ (c : List ℕ). c ≡ value_bytes (hardcoded_of config (owner_of config n))) (second_at op)
      (source_bytes op b) op.count b.content n cleared
      (kept.hardcoded n x k)
      (λ i l e. absurd (copy_kind config op h i n l e (from1to-low n config.counts.objects x) k))

  -- what a device writes was in the closure before
  device_write : q13 config op Write ≡ true → q18 config b op Write Device ≡ true → (o : ℕ) → live config b o ≡ true
      → Collected config true b o (held (apply config op Write Device b) o)
  unfolding q18 apply
  device_write h t o l =
      stores_hold (λ (c : List ℕ). Collected config true b o (get_or c 0 0)) (object_at op) (item_bytes op) op.count
      b.content o cleared (start l refl)
      (λ i m e.
      let k : kind_of config o ≡ 1 = kind_1 config b o l (write_kind config op h i o m e) in
      let r : Collected config true b (object_at op i) (second_at op i) =
      write_reached config b op.subject (object_at op i) (second_at op i)
      (below_at op.count (transfer config b op Write) t i m) (ap (kind_of config) e ∙ k) in
      subst (λ (x : ℕ). Collected config true b o x)
      (sym (ap (λ (c : List ℕ). get_or c 0 0) (write_form config op h i o m e k)))
      (subst (λ (x : ℕ). Collected config true b x (second_at op i)) e r))

  device_copy : q13 config op Copy ≡ true → q18 config b op Copy Device ≡ true → (o : ℕ) → live config b o ≡ true
      → Collected config true b o (held (apply config op Copy Device b) o)
  unfolding q18 apply
  device_copy h t o l =
      stores_hold (λ (c : List ℕ). Collected config true b o (get_or c 0 0)) (second_at op) (source_bytes op b) op.count
      b.content o cleared (start l refl)
      (λ i m e.
      let low = live-low config b o l in
      let k : kind_of config o ≡ 1 = kind_1 config b o l (copy_kind config op h i o m e low) in
      let d : described config b op.subject (write_entry config (second_at op i) (held b (object_at op i))) ≡ true =
      not_zero (second_at op i) o _ e low (and_r (described config b op.subject (read_entry (object_at op i))) _
      (below_at op.count (transfer config b op Copy) t i m)) in
      subst (λ (x : ℕ). Collected config true b x (held b (object_at op i))) e
      (write_reached config b op.subject (second_at op i) (held b (object_at op i)) d (ap (kind_of config) e ∙ k)))

  write_confined : (a : Actor) → Passed config b op Write a
      → Confined config (apply config op Write a b) × Green config (apply config op Write a b)
  unfolding apply q17 q19 q22
  write_confined Driver p =
      let z = zone_of b op Driver in (
        write_judged config op b kept Driver z p.p19 p.p13 p.p17 p.p22,
        write_green config op b kept Driver z p.p13 p.p17 p.p22,
      )
  write_confined Device p =
      let g = device_write p.p13 p.p18 in
      (same-confined config b kept (apply config op Write Device b) refl refl g, same-green config b kept _ g)
  write_confined External p =
      let z = zone_of b op External in (
        write_judged config op b kept External z p.p19 p.p13 p.p17 p.p22,
        write_green config op b kept External z p.p13 p.p17 p.p22,
      )

  copy_confined : (a : Actor) → Passed config b op Copy a
      → Confined config (apply config op Copy a b) × Green config (apply config op Copy a b)
  unfolding apply q17 q19 q22
  copy_confined Driver p =
      let z = zone_of b op Driver in (
        copy_judged config op b kept Driver z p.p19 p.p13 p.p17 p.p22,
        copy_green config op b kept Driver z p.p13 p.p17 p.p22,
      )
  copy_confined Device p =
      let g = device_copy p.p13 p.p18 in
      (same-confined config b kept (apply config op Copy Device b) refl refl g, same-green config b kept _ g)
  copy_confined External p =
      let z = zone_of b op External in (
        copy_judged config op b kept External z p.p19 p.p13 p.p17 p.p22,
        copy_green config op b kept External z p.p13 p.p17 p.p22,
      )

  pub write_kept : (a : Actor) → Passed config b op Write a → Kept room config (apply config op Write a b)
  unfolding apply
  write_kept a p =
      record {
        roomy = kept.roomy;
        shape = apply_shape room config op Write a b kept.shape;
        hardcoded = write_hardcoded p.p13 a;
        together = kept.together;
        confines = (write_confined a p).0;
        greens = (write_confined a p).1;
      }

  pub copy_kept : (a : Actor) → Passed config b op Copy a → Kept room config (apply config op Copy a b)
  unfolding apply
  copy_kept a p =
      record {
        roomy = kept.roomy;
        shape = apply_shape room config op Copy a b kept.shape;
        hardcoded = copy_hardcoded p.p13 a;
        together = kept.together;
        confines = (copy_confined a p).0;
        greens = (copy_confined a p).1;
      }

-- a partition is created or destroyed
module _ {room : ℕ} (config : Config) (sound : Sound config) (op : Operation) (b : State)
    (kept : Kept room config b) where
  -- a green zone with an active descriptor in it was there before, and green
  create_green : well_formed room config b ≡ true → status_of b op.partition ≡ 0 → (a : Actor)
      → Green config (apply config op Create a b)
  unfolding apply
  create_green formed never a o l g =
      kept.greens o l (go (get_or_set_cases b.status op.partition (object_in b o) (created_status op) 0))
    where
      was : existing b (object_in b o) ≡ true
      was =
          place_exists room config kept.roomy b formed o (search (and_l, and_r))
          (not_eqb (object_in b o) 0 (and_r (descriptor config o) _ l))

      go : ((object_in b o ≡ op.partition)
          × (get_or (set b.status op.partition (created_status op)) (object_in b o) 0 ≡ created_status op))
          ⊎ (get_or (set b.status op.partition (created_status op)) (object_in b o) 0 ≡ status_of b (object_in b o))
          → green b (object_in b o) ≡ true
      go (inl (e, v)) =
          absurd (false≢true (subst (λ (x : ℕ). eqb x plain_status || eqb x green_status ≡ true)
          (ap (status_of b) e ∙ never) was))
      go (inr v) = subst (λ (x : ℕ). eqb x green_status ≡ true) v g

  destroy_green : (a : Actor) → Green config (apply config op Destroy a b)
  unfolding apply
  destroy_green a o l g = kept.greens o l (go (get_or_set_cases b.status op.partition (object_in b o) 2 0))
    where
      go : ((object_in b o ≡ op.partition) × (get_or (set b.status op.partition 2) (object_in b o) 0 ≡ 2))
          ⊎ (get_or (set b.status op.partition 2) (object_in b o) 0 ≡ status_of b (object_in b o))
          → green b (object_in b o) ≡ true
      go (inl (e, v)) = absurd (false≢true (subst (λ (x : ℕ). eqb x green_status ≡ true) v g))
      go (inr v) = subst (λ (x : ℕ). eqb x green_status ≡ true) v g

  pub create_kept : well_formed room config b ≡ true → (a : Actor) → Passed config b op Create a
      → Kept room config (apply config op Create a b)
  unfolding apply q14
  create_kept formed a p =
      record {
        roomy = kept.roomy;
        shape = apply_shape room config op Create a b kept.shape;
        hardcoded = kept.hardcoded;
        together = kept.together;
        confines = same-confined config b kept (apply config op Create a b) refl refl (λ o l. start l refl);
        greens = create_green formed (eqb-true (status_of b op.partition) 0 p.p14) a;
      }

  pub destroy_kept : (a : Actor) → Kept room config (apply config op Destroy a b)
  unfolding apply
  destroy_kept a =
      record {
        roomy = kept.roomy;
        shape = apply_shape room config op Destroy a b kept.shape;
        hardcoded = kept.hardcoded;
        together = kept.together;
        confines = same-confined config b kept (apply config op Destroy a b) refl refl (λ o l. start l refl);
        greens = destroy_green a;
      }

  -- a device is locked or unlocked
  pub lock-kept : (a : Actor) → Kept room config (apply config op Lock a b)
  unfolding apply
  lock-kept a =
      record {
        roomy = kept.roomy;
        shape = apply_shape room config op Lock a b kept.shape;
        hardcoded = kept.hardcoded;
        together = kept.together;
        confines = same-confined config b kept (apply config op Lock a b) refl refl (λ o l. start l refl);
        greens = kept.greens;
      }

  pub unlock_kept : (a : Actor) → Kept room config (apply config op Unlock a b)
  unfolding apply
  unlock_kept a =
      record {
        roomy = kept.roomy;
        shape = apply_shape room config op Unlock a b kept.shape;
        hardcoded = kept.hardcoded;
        together = kept.together;
        confines = same-confined config b kept (apply config op Unlock a b) refl refl (λ o l. start l refl);
        greens = kept.greens;
      }
