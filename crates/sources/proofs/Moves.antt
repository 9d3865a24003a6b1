-- Where everything is after what an activation or deactivation concerns went to a partition p.
use Prim.Native.Nat.{ℕ, zero, suc, ◌≤◌}
use mathlib.Core.Path.{◌≡◌, refl, sym, ap, ◌∙◌, subst}
use mathlib.Core.Logic.{◌⊎◌, inl, inr}
use mathlib.Core.List.{List}
use mathlib.Core.Bool.{Bool, true, false, cond}
use native.Mathlib.Omega.{arith}
use native.Mathlib.Decide.{dec_le, ℕ_discrete}
use lib.ListN.{length}
use Rattle.model.specs.Base.{nth, put, number}
use Rattle.model.specs.Config.{class_of, owns}
use Rattle.model.specs.State.{State, driver_in, device_in, object_in}
use Rattle.model.specs.declared.Actor.{Actor}
use Rattle.model.specs.declared.Actor.TheVariants.{Driver, Device, External}
use Rattle.model.specs.Effect.{concerned, drivers_after, devices_after, placed}
use Rattle.model.specs.Questions.{actor_exists, itself}
use Rattle.model.specs.declared.Config.{Config}
use Rattle.model.specs.declared.Operation.{Operation}
use Rattle.model.proofs.Lists.{
  not-true,
  from1to-low,
  from1to-high,
  nth-put_cases,
  nth-put-same,
  nth_number,
  nth_past,
  length_number,
}
use Rattle.model.proofs.Accepted.{Sound}
use Rattle.model.proofs.Facts.{owns-low, owns-high, owns-class, owns-owner}
use Rattle.sources.proofs.Stores.{Kept}

-- the columns after everything concerned went to partition p
module _ {room : ℕ} (config : Config) (sound : Sound config) (op : Operation) (b : State) (kept : Kept room config b)
    (p : ℕ) where
  pub moved : (a : Actor) (n : ℕ) → 1 ≤ n → n ≤ length b.object → concerned config op a n ≡ true
      → nth (number 0 (placed config op a p) b.object) n 0 ≡ p
  moved a n low high h =
      nth_number (placed config op a p) b.object n 0 low high ∙ ap (λ (t : Bool). cond t p (object_in b n)) h

  pub unmoved : (a : Actor) (n : ℕ) → concerned config op a n ≡ false
      → nth (number 0 (placed config op a p) b.object) n 0 ≡ object_in b n
  unmoved a zero h = refl
  unmoved a (suc n) h = go (dec_le (suc n) (length b.object))
    where
      go : Dec (suc n ≤ length b.object)
          → nth (number 0 (placed config op a p) b.object) (suc n) 0 ≡ object_in b (suc n)
      go (yes l) =
          nth_number (placed config op a p) b.object (suc n) 0 (omega arith) l
          ∙ ap (λ (t : Bool). cond t p (object_in b (suc n))) h
      go (no g) =
          nth_past (number 0 (placed config op a p) b.object) (suc n) 0
          (omega (arith, length_number 0 (placed config op a p) b.object))
          ∙ sym (nth_past b.object (suc n) 0 (omega arith))

  owned_range : (class k n : ℕ) → owns config class k n ≡ true → n ≤ length b.object
  owned_range class k n h = omega (arith, owns-high config class k n h, kept.roomy, kept.shape.objects)

  -- an owned object goes with its owner, whose partition stands in a column
  owner-after : (class : ℕ) (col : List ℕ) (s k x : ℕ) → 1 ≤ s → s ≤ length col → owns config class k x ≡ true
      → object_in b x ≡ nth col k 0 → nth (number 0 (λ n q. cond (owns config class s n) p q) b.object) x 0
      ≡ nth (put col s p) k 0
  owner-after class col s k x low high h same =
      nth_number (λ n q. cond (owns config class s n) p q) b.object x 0 (owns-low config class k x h)
      (owned_range class k x h)
      ∙ go (ℕ_discrete k s) (nth-put_cases col s k p 0)
    where
      go : Dec (k ≡ s) → ((k ≡ s) × (nth (put col s p) k 0 ≡ p)) ⊎ (nth (put col s p) k 0 ≡ nth col k 0)
          → cond (owns config class s x) p (object_in b x) ≡ nth (put col s p) k 0
      go (yes e) c =
          ap (λ (t : Bool). cond t p (object_in b x)) (subst (λ (y : ℕ). owns config class y x ≡ true) e h)
          ∙ sym (subst (λ (y : ℕ). nth (put col s p) y 0 ≡ p) (sym e) (nth-put-same col s p 0 low high))
      go (no d) (inl (e, v)) = absurd (d e)
      go (no d) (inr v) =
          ap (λ (t : Bool). cond t p (object_in b x))
          (not-true (owns config class s x) (λ o. d
          (sym (owns-owner config class k x h) ∙ owns-owner config class s x o)))
          ∙ (same ∙ sym v)

  other-class : (class₁ class₂ k s x : ℕ) → (class₁ ≡ class₂ → ⊥) → owns config class₁ k x ≡ true
      → owns config class₂ s x ≡ false
  other-class class₁ class₂ k s x d h =
      not-true (owns config class₂ s x) (λ o. d (sym (owns-class config class₁ k x h) ∙ owns-class config class₂ s x o))

  not_listed : (class k x : ℕ) → (class ≡ 0 → ⊥)
      → ((n : ℕ) → concerned config op External n ≡ true → class_of config n ≡ 0) → owns config class k x ≡ true
      → concerned config op External x ≡ false
  not_listed class k x d lst h =
      not-true (concerned config op External x) (λ o. d (sym (owns-class config class k x h) ∙ lst x o))

  pub together_after : (a : Actor) → actor_exists config a op.subject ≡ true
      → ((n : ℕ) → concerned config op External n ≡ true → class_of config n ≡ 0) → (c x : ℕ) → owns config 2 c x ≡ true
      → nth (number 0 (placed config op a p) b.object) x 0 ≡ nth (devices_after op a p b.device) c 0
  together_after Driver ex lst c x h =
      unmoved Driver x (other-class 2 1 c op.subject x (λ e. omega arith) h) ∙ kept.together c x h
  together_after Device ex lst c x h =
      owner-after 2 b.device op.subject c x (from1to-low op.subject config.counts.devices ex)
      (omega (
        arith,
        from1to-high op.subject config.counts.devices ex,
        sound.few.devices,
        kept.shape.devices,
      )) h (kept.together c x h)
  together_after External ex lst c x h =
      unmoved External x (not_listed 2 c x (λ e. omega arith) lst h) ∙ kept.together c x h

  pub drivers-after : (a : Actor) → actor_exists config a op.subject ≡ true
      → ((n : ℕ) → concerned config op External n ≡ true → class_of config n ≡ 0) → (d x : ℕ) → owns config 1 d x ≡ true
      → object_in b x ≡ driver_in b d → nth (number 0 (placed config op a p) b.object) x 0
      ≡ nth (drivers_after op a p b.driver) d 0
  drivers-after Driver ex lst d x h same =
      owner-after 1 b.driver op.subject d x (from1to-low op.subject config.counts.drivers ex)
      (omega (
        arith,
        from1to-high op.subject config.counts.drivers ex,
        sound.few.drivers,
        kept.shape.drivers,
      )) h same
  drivers-after Device ex lst d x h same =
      unmoved Device x (other-class 1 2 d op.subject x (λ e. omega arith) h) ∙ same
  drivers-after External ex lst d x h same = unmoved External x (not_listed 1 d x (λ e. omega arith) lst h) ∙ same

  -- an active device was active before, or is the one concerned
  pub device-after : (a : Actor) (c : ℕ)
      → (nth (devices_after op a p b.device) c 0 ≡ device_in b c)
      ⊎ ((c ≡ itself op a) × (nth (devices_after op a p b.device) c 0 ≡ p))
  device-after Driver c = inl refl
  device-after Device c = go (nth-put_cases b.device op.subject c p 0)
    where
      go : ((c ≡ op.subject) × (nth (put b.device op.subject p) c 0 ≡ p))
          ⊎ (nth (put b.device op.subject p) c 0 ≡ device_in b c)
          → (nth (put b.device op.subject p) c 0 ≡ device_in b c)
          ⊎ ((c ≡ op.subject) × (nth (put b.device op.subject p) c 0 ≡ p))
      go (inl q) = inr q
      go (inr q) = inl q
  device-after External c = inl refl
